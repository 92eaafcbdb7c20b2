-- Characters and their bytes.
use Rattle.std.proofs.Common.{◌≡◌, ℕ, zero, suc, ◌+◌, ◌<◌, List, [], ◌∷◌, length, take, drop, get_or, refl, ap, ◌∙◌, arith, length-append}
use Rattle.std.specs.Char.{len_utf8}
use Rattle.std.proofs.lemmas.Str.{length-encode}
use Rattle.std.proofs.lemmas.List.{at_drop_more}
use Rattle.std.proofs.lemmas.List.Sums.{fold_more}
use Rattle.std.proofs.Math.Utf8.{encodes, encode}
use Rattle.js_lexer.specs.declared.position.Position.{Position}
use Rattle.js_lexer.specs.Position.{passed, past}

pub bytes_cons : (c : ℕ) (cs : List ℕ) → length (encodes (c ∷ cs)) ≡ len_utf8 c + length (encodes cs)
bytes_cons c cs = length-append (encode c) (encodes cs) ∙ ap (λ n. n + length (encodes cs)) (length-encode c)

pub bytes_left : (cs : List ℕ) (i : ℕ) → i < length cs → length (encodes (drop i cs)) ≡ len_utf8 (get_or cs i 0) + length (encodes (drop (i + 1) cs))
bytes_left cs i lt = at_drop_more (λ ds. length (encodes ds)) cs i 0 lt ∙ bytes_cons (get_or cs i 0) (drop (i + 1) cs)

pub passed_more : (p : Position) (cs : List ℕ) (i : ℕ) → i < length cs → passed p (take (i + 1) cs) ≡ past (passed p (take i cs)) (get_or cs i 0)
passed_more p cs i lt = fold_more past p cs i 0 lt

-- the bytes of a front and of what follows it
pub bytes_split : (cs : List ℕ) (n : ℕ) → length (encodes (take n cs)) + length (encodes (drop n cs)) ≡ length (encodes cs)
bytes_split [] zero = refl
bytes_split [] (suc n) = refl
bytes_split (c ∷ cs) zero = omega arith
bytes_split (c ∷ cs) (suc n) =
    let all = bytes_cons c cs in let front = bytes_cons c (take n cs) in let rest = bytes_split cs n in omega arith

pub passed_bytes : (cs : List ℕ) (p : Position) → (passed p cs).bytes ≡ p.bytes + length (encodes cs)
passed_bytes [] p = omega arith
passed_bytes (c ∷ cs) p = passed_bytes cs (past p c) ∙ (let one = bytes_cons c cs in omega arith)

-- What one more token makes of the brackets that are open, and of the functions that there are.
use Rattle.std.proofs.Common.{◌≡◌, ℕ, zero, suc, ◌+◌, ◌<◌, max, List, [], ◌∷◌, take, get_or, length, refl, ap, sym, ◌∙◌, add-one, arith}
use Rattle.js_lexer.specs.declared.token.Token.{Token}
use Rattle.js_lexer.specs.declared.token.TokenKind.{TokenKind}
use Rattle.js_lexer.specs.declared.token.TokenKind.TheVariants as k
use Rattle.js_lexer.specs.declared.word.Word.TheVariants as w
use Rattle.js_parser.specs.Accepted.{opened, most_open, counted, functions_in}
use Rattle.js_parser.specs.Symbols.{symbols}
use Rattle.js_parser.specs.Laws.{open_behind}

behind-suc : (n : ℕ) (ts : List Token) (i : ℕ) (t : Token) → i < length ts → t ≡ get_or ts i t → open_behind n (symbols (take (suc i) ts)) ≡ opened t.kind (open_behind n (symbols (take i ts)))
behind-suc n [] i t l e = absurd (omega arith)
behind-suc n (u ∷ ts) zero t l e = ap (λ (t : Token). opened t.kind n) (sym e)
behind-suc n (u ∷ ts) (suc i) t l e = behind-suc (opened u.kind n) ts i t (omega arith) e

most-suc : (n : ℕ) (ts : List Token) (i : ℕ) (t : Token) → i < length ts → t ≡ get_or ts i t → most_open n (symbols (take (suc i) ts)) ≡ max (most_open n (symbols (take i ts))) (opened t.kind (open_behind n (symbols (take i ts))))
most-suc n [] i t l e = absurd (omega arith)
most-suc n (u ∷ ts) zero t l e = ap (λ (t : Token). max n (opened t.kind n)) (sym e)
most-suc n (u ∷ ts) (suc i) t l e =
    let more = most-suc (opened u.kind n) ts i t (omega arith) e in
    omega (arith, more)

swapped : (a b : TokenKind) (n : ℕ) → counted a (counted b n) ≡ counted b (counted a n)
swapped (k.Word w.Function) (k.Word w.Function) n = refl
swapped (k.Word w.Function) _ n = refl
swapped _ (k.Word w.Function) n = refl
swapped _ _ n = refl

functions-suc : (ts : List Token) (i : ℕ) (t : Token) → i < length ts → t ≡ get_or ts i t → functions_in (symbols (take (suc i) ts)) ≡ counted t.kind (functions_in (symbols (take i ts)))
functions-suc [] i t l e = absurd (omega arith)
functions-suc (u ∷ ts) zero t l e = ap (λ (t : Token). counted t.kind 0) (sym e)
functions-suc (u ∷ ts) (suc i) t l e =
    ap (counted u.kind) (functions-suc ts i t (omega arith) e)
    ∙ swapped u.kind t.kind (functions_in (symbols (take i ts)))

-- the same, of one more token than so many

pub behind_more : (n : ℕ) (ts : List Token) (i : ℕ) (t : Token) → i < length ts → t ≡ get_or ts i t → open_behind n (symbols (take (i + 1) ts)) ≡ opened t.kind (open_behind n (symbols (take i ts)))
behind_more n ts i t l e = rw add-one (behind-suc n ts i t l e)

pub most_more : (n : ℕ) (ts : List Token) (i : ℕ) (t : Token) → i < length ts → t ≡ get_or ts i t → most_open n (symbols (take (i + 1) ts)) ≡ max (most_open n (symbols (take i ts))) (opened t.kind (open_behind n (symbols (take i ts))))
most_more n ts i t l e = rw add-one (most-suc n ts i t l e)

pub functions_more : (ts : List Token) (i : ℕ) (t : Token) → i < length ts → t ≡ get_or ts i t → functions_in (symbols (take (i + 1) ts)) ≡ counted t.kind (functions_in (symbols (take i ts)))
functions_more ts i t l e = rw add-one (functions-suc ts i t l e)

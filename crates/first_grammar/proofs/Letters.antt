-- Letters and characters, as their readers read them.
use Rattle.std.proofs.Common.{◌≡◌, ℕ, true, List, ◌∷◌, Some, rules}
use Rattle.std.proofs.lemmas.Bool.Decides.{nat_tests}
use Rattle.text_reader.proofs.Bytes.{one_sound, one_again}
use Rattle.first_grammar.specs.First.{IsLetter, IsPlainCharacter}
use Rattle.first_grammar.specs.FirstReader.{letter, is_letter, is_plain}

pub letter_true : (c : ℕ) → IsLetter c → is_letter c ≡ true
letter_true c h = search (rules, nat_tests)

pub letter_is : (c : ℕ) → is_letter c ≡ true → IsLetter c
letter_is c h = search (rules, nat_tests)

pub plain_true : (c : ℕ) → IsPlainCharacter c → is_plain c ≡ true
plain_true c h = search (rules, nat_tests)

pub plain_is : (c : ℕ) → is_plain c ≡ true → IsPlainCharacter c
plain_is c h = search (rules, nat_tests)

pub letter_sound : (bs rest : List ℕ) (c : ℕ) → letter bs ≡ Some (c, rest) → IsLetter c × (c ∷ rest ≡ bs)
letter_sound bs rest c e = let p = one_sound is_letter bs rest c e in (letter_is c p.0, p.1)

pub letter_again : (c : ℕ) (rest : List ℕ) → IsLetter c → letter (c ∷ rest) ≡ Some (c, rest)
letter_again c rest h = one_again is_letter c rest (letter_true c h)

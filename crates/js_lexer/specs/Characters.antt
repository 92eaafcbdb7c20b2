-- The classes of characters, and the fronts of a text.
use Rattle.std.specs.Prelude.{ℕ, suc, ◌+◌, ◌*◌, ◌==◌, ◌||◌, ◌&&◌, nat_lt, nat_le, Bool, true, false, not, List, [], ◌∷◌, fold, if◌then◌else◌}
use Rattle.std.specs.Char.{digit_value}
use Rattle.dl_text.specs.Place.{is_line_terminator}
use Rattle.unicode_ident.specs.Ident.{is_xid_start, is_xid_continue}

-- white space
abbrev pub is_white_space : ℕ → Bool
is_white_space c = (c == 9) || ((c == 11) || ((c == 12) || ((c == 32) || ((c == 0xA0) || ((c == 0x1680)
    || ((nat_le 0x2000 c && nat_le c 0x200A) || ((c == 0x202F) || ((c == 0x205F) || (c == 0x3000)))))))))

-- no line terminator
abbrev pub in_line : ℕ → Bool
in_line c = not (is_line_terminator c)

-- `$`, `_` and what Unicode lets an identifier begin with
abbrev pub begins_name : ℕ → Bool
begins_name c = (c == 36) || ((c == 95) || is_xid_start c)

-- `$`, `_` and what Unicode lets an identifier go on with
abbrev pub continues_name : ℕ → Bool
continues_name c = (c == 36) || ((c == 95) || is_xid_continue c)

abbrev pub is_digit : ℕ → Bool
is_digit c = nat_le 48 c && nat_le c 57

abbrev pub is_hex_digit : ℕ → Bool
is_hex_digit c = nat_lt (digit_value c) 16

-- the first character passes
abbrev pub first_is : (ℕ → Bool) → List ℕ → Bool
first_is p [] = false
first_is p (c ∷ cs) = p c

-- the first character is this one
abbrev pub is_at : ℕ → List ℕ → Bool
is_at c = first_is (λ first. first == c)

-- how many characters pass, from the front on
abbrev pub run : (ℕ → Bool) → List ℕ → ℕ
run p [] = 0
run p (c ∷ cs) = if p c then suc (run p cs) else 0

-- the second list begins with the first
abbrev pub begins : List ℕ → List ℕ → Bool
begins [] cs = true
begins (x ∷ xs) [] = false
begins (x ∷ xs) (c ∷ cs) = (x == c) && begins xs cs

-- the number that these digits write in a base
abbrev pub number_of : ℕ → List ℕ → ℕ
number_of base = fold (λ n c. base * n + digit_value c) 0

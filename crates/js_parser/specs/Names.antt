-- Which names may stand where.
use Rattle.std.specs.Prelude.{ℕ, ◌-◌, ◌&&◌, ◌||◌, nat_le, not, Bool, true, false, List, [], ◌∷◌, drop, codes, Option, Some, None, if◌then◌else◌}
use Rattle.std.specs.List.{list_all, list_any}
use Rattle.std.specs.Fmt.{decimal}
use Rattle.js_lexer.specs.Characters.{begins, first_is, is_digit, number_of}
use Rattle.js_lexer.specs.Words.{is_spelled}
use Rattle.js_lexer.specs.declared.token.TokenKind.{TokenKind}
use Rattle.js_lexer.specs.declared.token.TokenKind.TheVariants as k
use Rattle.js_tree.specs.Tree.{Name}
use Rattle.js_parser.specs.declared.form.Form.{Form}
use Rattle.js_tree.specs.Numbering.{is_function_number}
use Rattle.js_parser.specs.declared.form.Form.TheVariants.{Source, Written}

abbrev pub is_eval : Name → Bool
is_eval = is_spelled (codes "eval")

abbrev pub is_function_name : Name → Bool
is_function_name = is_spelled (codes "Function")

abbrev pub is_infinity : Name → Bool
is_infinity = is_spelled (codes "Infinity")

abbrev pub is_arguments : Name → Bool
is_arguments = is_spelled (codes "arguments")

abbrev pub is_callee : Name → Bool
is_callee = is_spelled (codes "callee")

abbrev pub is_caller : Name → Bool
is_caller = is_spelled (codes "caller")

abbrev pub get_name : Name
get_name = codes "$dl_get"

-- Doloto's own names
abbrev pub is_own : Name → Bool
is_own = begins (codes "$dl_")

-- the value of a decimal digit
abbrev pub digit_of : ℕ → Option ℕ
digit_of c = if is_digit c then Some (c - 48) else None

-- the number of a function in decimal, without a leading zero
abbrev pub is_numeral : List ℕ → Bool
is_numeral digits =
    list_all is_digit digits && (not (first_is (λ c. nat_le c 48) digits) && is_function_number
    (number_of 10 digits))

-- the cell `$dl_rk` of function k
abbrev pub is_cell : Name → Bool
is_cell n = begins (codes "$dl_r") n && is_numeral (drop 5 n)

abbrev pub is_written : Form → Bool
is_written Source = false
is_written Written = true

-- the name may stand in a text of this form
abbrev pub may_stand : Form → Name → Bool
may_stand form n = not (is_own n) || (is_written form && is_cell n)

-- 7.6, as an expression or as a label
abbrev pub is_reference : Form → Name → Bool
is_reference form n = may_stand form n && not (is_eval n || (is_function_name n || is_infinity n))

-- a name that is bound: of a `var`, a function, a formal or a `catch`
abbrev pub is_binding : Form → Name → Bool
is_binding form n = is_reference form n && not (is_arguments n)

-- a name behind a dot
abbrev pub is_property : Form → Name → Bool
is_property form n = may_stand form n && not (is_callee n || is_caller n)

-- 11.1.5: the key that a token of an object literal gives, as a string
abbrev pub key_of : Form → TokenKind → Option Name
key_of form (k.Name n) = if may_stand form n then Some n else None
key_of form (k.Str text) = if is_own text then None else Some text
key_of form (k.Number n) = Some (decimal n)
key_of form _ = None

abbrev pub is_among : Name → List Name → Bool
is_among n = list_any (is_spelled n)

-- no name stands twice
abbrev pub is_distinct : List Name → Bool
is_distinct [] = true
is_distinct (n ∷ ns) = not (is_among n ns) && is_distinct ns

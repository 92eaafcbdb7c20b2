-- What the tokens of texts are, but for their places: the kinds that are written so that they are
-- read again.
use Rattle.std.specs.Prelude.{ℕ, ◌≡◌, ◌<◌, ◌^◌, nat_lt, Bool, true, List, [], ◌∷◌}
use Rattle.std.specs.List.{list_all}
use Rattle.js_lexer.specs.Names.{is_name}
use Rattle.js_lexer.specs.declared.token.TokenKind.{TokenKind}
use Rattle.js_lexer.specs.declared.token.TokenKind.TheVariants as k
use Rattle.js_parser.specs.Symbols.{Symbols}
use Rattle.js_printer.specs.Printed.{Kinds}

-- the units of UTF-16 are of 16 bits
abbrev pub are_units : List ℕ → Bool
are_units = list_all (λ u. nat_lt u 0x1_0000)

-- A name is a name of the lexer, which is no word; a number is one that is read; and names and
-- strings are of units. The end is not written.
abbrev pub IsWritable : TokenKind → Type 0
IsWritable (k.Word word) = Unit {0}
IsWritable (k.Name n) = (is_name n ≡ true) × (are_units n ≡ true)
IsWritable (k.Number n) = n < 2 ^ 53
IsWritable (k.Str text) = are_units text ≡ true
IsWritable (k.Mark x) = Unit {0}
IsWritable k.End = ⊥

abbrev pub AreWritable : Kinds → Type 0
AreWritable [] = Unit {0}
AreWritable (kind ∷ rest) = IsWritable kind × AreWritable rest

-- of a token that is read, which may be the end
abbrev pub IsRead : TokenKind → Type 0
IsRead k.End = Unit {0}
IsRead kind = IsWritable kind

abbrev pub AreRead : Symbols → Type 0
AreRead [] = Unit {0}
AreRead (s ∷ ss) = IsRead s.kind × AreRead ss

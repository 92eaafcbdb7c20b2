-- The texts that tell why a text has no tokens.
use Rattle.std.specs.Prelude.{ℕ, List, ◌++◌, codes}
use Rattle.std.specs.Fmt.{decimal}
use Rattle.dl_text.specs.declared.place.Place.{Place}
use Rattle.js_lexer.specs.declared.token.LexError.{LexError}
use Rattle.js_lexer.specs.declared.token.LexError.TheVariants.{Lexical, OutOfMemory}
use Rattle.js_lexer.specs.declared.token.LexKind.{LexKind}
use Rattle.js_lexer.specs.declared.token.LexKind.TheVariants as kind

-- the name of a kind
abbrev pub kind_text : LexKind → List ℕ
kind_text kind.Octal = codes "Octal"
kind_text kind.Fraction = codes "Fraction"
kind_text kind.Exponent = codes "Exponent"
kind_text kind.NumberTail = codes "NumberTail"
kind_text kind.WideNumber = codes "WideNumber"
kind_text kind.OpenString = codes "OpenString"
kind_text kind.BadEscape = codes "BadEscape"
kind_text kind.OpenComment = codes "OpenComment"
kind_text kind.NameEscape = codes "NameEscape"
kind_text kind.BadCharacter = codes "BadCharacter"

-- a place: its line and its column
abbrev pub place_text : Place → List ℕ
place_text place = decimal place.line ++ (codes ":" ++ decimal place.column)

abbrev pub text_of : LexError → List ℕ
text_of (Lexical place kind) = kind_text kind ++ (codes " at " ++ place_text place)
text_of OutOfMemory = codes "out of memory"

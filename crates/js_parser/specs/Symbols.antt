-- Tokens without their places: what a token is, whether a line terminator stands before it, and
-- whether it is a number in other than decimal digits. The grammar knows no more of a token.
use Rattle.std.specs.Prelude.{ℕ, ◌-◌, ◌==◌, ◌&&◌, Bool, true, List, [], ◌∷◌, length, map}
use Rattle.std.specs.Fmt.{decimal}
use Rattle.js_lexer.specs.declared.mark.Mark.{Mark}
use Rattle.js_lexer.specs.declared.word.Word.{Word}
use Rattle.js_lexer.specs.declared.token.Token.{Token}
use Rattle.js_lexer.specs.declared.token.TokenKind.{TokenKind}
use Rattle.js_lexer.specs.declared.token.TokenKind.TheVariants as k

pub record Symbol : Type 0 where
  pub kind : TokenKind
  pub newline : Bool
  pub in_decimal : Bool

abbrev pub Symbols : Type 0
Symbols = List Symbol

-- A number of so many characters is in decimal where these are as many as its decimal has. `0x`
-- makes the spelling of each number of a function longer. Other tokens count as in decimal.
abbrev pub is_in_decimal : TokenKind → ℕ → Bool
is_in_decimal (k.Number n) characters = characters == length (decimal n)
is_in_decimal _ characters = true

abbrev pub symbol : Token → Symbol
symbol t = record {
  kind = t.kind;
  newline = t.newline;
  in_decimal = is_in_decimal t.kind
      (t.end - t.start);
}

abbrev pub symbols : List Token → Symbols
symbols = map symbol

-- each symbol that is no number counts as in decimal
abbrev pub is_regular : TokenKind → Bool → Bool
is_regular (k.Number n) in_decimal = true
is_regular _ in_decimal = in_decimal

abbrev pub are_regular : Symbols → Bool
are_regular [] = true
are_regular (s ∷ ss) = is_regular s.kind s.in_decimal && are_regular ss

-- each kind of symbol, behind a line terminator or not

abbrev pub of_kind : TokenKind → Bool → Symbol
of_kind kind b = record { kind = kind; newline = b; in_decimal = true }

abbrev pub word : Word → Bool → Symbol
word w = of_kind (k.Word w)

abbrev pub mark : Mark → Bool → Symbol
mark m = of_kind (k.Mark m)

abbrev pub name : List ℕ → Bool → Symbol
name n = of_kind (k.Name n)

-- a number, in decimal or not
abbrev pub number_in : Bool → ℕ → Bool → Symbol
number_in in_decimal n b = record { kind = k.Number n; newline = b; in_decimal = in_decimal }

-- in decimal
abbrev pub number : ℕ → Bool → Symbol
number = number_in true

abbrev pub string : List ℕ → Bool → Symbol
string text = of_kind (k.Str text)

abbrev pub end : Bool → Symbol
end = of_kind k.End

-- the symbol that comes first, where `next` follows these
abbrev pub first : Symbols → Symbol → Symbol
first [] next = next
first (s ∷ ss) next = s

-- what stands behind the first symbol
abbrev pub behind : Symbols → Symbols
behind [] = []
behind (s ∷ ss) = ss

-- The tokens of a text, and its first fault (ES3 section 7). Texts are lists of characters here.
use Rattle.std.specs.Prelude.{ℕ, ◌+◌, ◌≡◌, ◌==◌, Bool, false, List, [], ◌∷◌, ◌++◌, length, take, drop, Option, Some, None, encode_utf8_all, if◌then◌else◌}
use Rattle.std.specs.List.{list_any, flat_map}
use Rattle.dl_text.specs.declared.place.Place.{Place}
use Rattle.dl_text.specs.Place.{place_after, is_line_terminator}
use Rattle.js_lexer.specs.Fronts.{StandsAt}
use Rattle.js_lexer.specs.Pieces.{IsNextPiece}
use Rattle.js_lexer.specs.declared.front.Front.TheVariants.{Bad}
use Rattle.js_lexer.specs.declared.token.LexKind.{LexKind}
use Rattle.js_lexer.specs.declared.token.LexError.{LexError}
use Rattle.js_lexer.specs.declared.token.LexError.TheVariants.{Lexical, OutOfMemory}
use Rattle.js_lexer.specs.declared.token.Token.{Token}
use Rattle.js_lexer.specs.declared.token.TokenKind.{TokenKind}
use Rattle.js_lexer.specs.declared.token.TokenKind.TheVariants.{End}

-- a piece of a text: its characters, and what token it is. White space, line terminators and comments are none
pub record Piece : Type 0 where
  pub characters : List ℕ
  pub kind : Option TokenKind

-- the text is these pieces, each the longest that is allowed at its place, and then the rest
pub data Cut : List ℕ → List Piece → List ℕ → Type 0 where
  done : {cs : List ℕ} → Cut cs [] cs
  piece : {cs rest : List ℕ} {pieces : List Piece} (n : ℕ) (kind : Option TokenKind) → IsNextPiece cs n kind → Cut (drop n cs) pieces rest
      → Cut cs (record { characters = take n cs; kind = kind } ∷ pieces) rest

abbrev pub text_of : List Piece → List ℕ
text_of = flat_map (λ p. p.characters)

-- one U+FEFF at the start is skipped
abbrev pub has_byte_order_mark : List ℕ → Bool
has_byte_order_mark [] = false
has_byte_order_mark (c ∷ cs) = c == 0xFEFF

abbrev pub body : List ℕ → List ℕ
body text = if has_byte_order_mark text then drop 1 text else text

-- the bytes that are skipped
abbrev pub body_start : List ℕ → ℕ
body_start text = if has_byte_order_mark text then 3 else 0

-- a token behind the characters `before`, of which `gap` stand behind the token before it
abbrev pub token : ℕ → List ℕ → List ℕ → List ℕ → TokenKind → Token
token start before gap characters kind = record {
  kind = kind;
  start = start + length (encode_utf8_all before);
  end = start + length (encode_utf8_all (before ++ characters));
  place = place_after before;
  newline = list_any is_line_terminator gap;
}

-- the token of a piece, if it is one
abbrev pub tokens_of : ℕ → List ℕ → List ℕ → List ℕ → Option TokenKind → List Token
tokens_of start before gap characters None = []
tokens_of start before gap characters (Some kind) = token start before gap characters kind ∷ []

-- what stands behind the last token
abbrev pub gap_after : List ℕ → List ℕ → Option TokenKind → List ℕ
gap_after gap characters None = gap ++ characters
gap_after gap characters (Some kind) = []

-- the tokens of pieces that stand behind `before`, closed by `End`
abbrev pub tokens_behind : ℕ → List ℕ → List ℕ → List Piece → List Token
tokens_behind start before gap [] = token start before gap [] End ∷ []
tokens_behind start before gap (p ∷ ps) =
    tokens_of start before gap p.characters p.kind ++ tokens_behind start (before ++ p.characters) (gap_after gap p.characters p.kind) ps

-- the tokens of a text: it is cut to its end
pub record IsTokens (text : List ℕ) (tokens : List Token) : Type 0 where
  pub pieces : List Piece
  pub cut : Cut (body text) pieces []
  pub are : tokens ≡ tokens_behind (body_start text) [] [] pieces

-- the first fault of a text: it is cut up to where a fault stands
pub record IsLexFault (text : List ℕ) (place : Place) (kind : LexKind) : Type 0 where
  pub pieces : List Piece
  pub rest : List ℕ
  pub offset : ℕ
  pub cut : Cut (body text) pieces rest
  pub fault : StandsAt rest (Bad kind offset)
  pub stands : place ≡ place_after (text_of pieces ++ take offset rest)

-- why a text gives no tokens: its first fault, or want of memory, which may come at any text
abbrev pub IsErrorOf : List ℕ → LexError → Type 0
IsErrorOf text (Lexical place kind) = IsLexFault text place kind
IsErrorOf text OutOfMemory = Unit {0}

-- What holds of every text: it has tokens or a first fault, never both, and there is one way to cut it.
use Rattle.std.specs.Prelude.{ℕ, ◌≡◌, List, [], ◌⊎◌, ◌↔◌, Option, ◌≢◌}
use Rattle.dl_text.specs.declared.place.Place.{Place}
use Rattle.js_lexer.specs.declared.token.LexKind.{LexKind}
use Rattle.js_lexer.specs.declared.token.Token.{Token}
use Rattle.js_lexer.specs.declared.token.TokenKind.{TokenKind}
use Rattle.js_lexer.specs.declared.front.Front.TheVariants.{Next, Bad}
use Rattle.js_lexer.specs.Fronts.{StandsAt}
use Rattle.js_lexer.specs.Pieces.{IsNextPiece}
use Rattle.js_lexer.specs.Tokens.{Piece, Cut, IsTokens, IsLexFault}

-- every text has tokens or a first fault
abbrev pub EveryTextIsLexed : Type 0
EveryTextIsLexed = (text : List ℕ) → ((tokens : List Token) × IsTokens text tokens) ⊎ ((place : Place) × ((kind : LexKind) × IsLexFault text place kind))

-- no text has both
abbrev pub NoTextHasBoth : Type 0
NoTextHasBoth = (text : List ℕ) (tokens : List Token) (place : Place) (kind : LexKind) → IsTokens text tokens → IsLexFault text place kind → ⊥

-- a text is cut to its end in one way at most
abbrev pub OneCut : Type 0
OneCut = (text : List ℕ) (pieces others : List Piece) → Cut text pieces [] → Cut text others [] → pieces ≡ others

-- so its tokens are the only ones
abbrev pub OneListOfTokens : Type 0
OneListOfTokens = (text : List ℕ) (tokens others : List Token) → IsTokens text tokens → IsTokens text others → tokens ≡ others

-- and its first fault is the only one
abbrev pub OneFault : Type 0
OneFault = (text : List ℕ) (place other_place : Place) (kind other_kind : LexKind) → IsLexFault text place kind → IsLexFault text other_place other_kind
    → (place ≡ other_place) × (kind ≡ other_kind)

-- at each place, what reading from the first character on finds to be a piece is the longest that is allowed, and the other way round
abbrev pub ReadingFindsTheNextPiece : Type 0
ReadingFindsTheNextPiece = (text : List ℕ) (n : ℕ) (kind : Option TokenKind) → StandsAt text (Next n kind) ↔ IsNextPiece text n kind

-- and where there is more text and no such piece, a fault stands, and only there
abbrev pub FaultsStandWhereNoPieceDoes : Type 0
FaultsStandWhereNoPieceDoes = (text : List ℕ) → text ≢ []
    → ((kind : LexKind) × ((offset : ℕ) × StandsAt text (Bad kind offset))) ↔ ((n : ℕ) (kind : Option TokenKind) → IsNextPiece text n kind → ⊥)

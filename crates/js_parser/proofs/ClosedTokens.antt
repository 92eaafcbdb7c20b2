-- The end closes the tokens of every text.
use Rattle.std.proofs.Common.{ℕ, List, [], ◌∷◌, ◌++◌, refl, ap, sym, ◌∙◌, subst}
use Rattle.std.proofs.lemmas.List.{append_assoc}
use Rattle.js_lexer.specs.Tokens.{Piece, IsTokens, token, tokens_of, tokens_behind, gap_after}
use Rattle.js_lexer.specs.declared.token.Token.{Token}
use Rattle.js_lexer.specs.declared.token.TokenKind.TheVariants.{End}
use Rattle.js_parser.specs.Parses.{IsClosed}

closed-behind : (before tokens : List Token) → IsClosed tokens → IsClosed (before ++ tokens)
closed-behind before tokens c = record {
  before = before ++ c.before;
  last = c.last;
  whole = ap (λ t. before ++ t) c.whole ∙ sym (append_assoc before c.before (c.last ∷ []));
  is = c.is;
}

closed-pieces : (start : ℕ) (before gap : List ℕ) (pieces : List Piece) → IsClosed (tokens_behind start before gap pieces)
closed-pieces start before gap [] = record { before = []; last = token start before gap [] End; whole = refl; is = refl }
closed-pieces start before gap (p ∷ ps) =
    closed-behind (tokens_of start before gap p.characters p.kind) (tokens_behind start (before ++ p.characters) (gap_after gap p.characters p.kind) ps)
    (closed-pieces start (before ++ p.characters) (gap_after gap p.characters p.kind) ps)

pub closed : {text : List ℕ} {tokens : List Token} → IsTokens text tokens → IsClosed tokens
closed t = subst IsClosed (sym t.are) (closed-pieces _ _ _ t.pieces)

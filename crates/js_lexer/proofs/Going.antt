-- What was read so far leads to what is read in the end.
use Rattle.std.proofs.Common.{◌≡◌, ℕ, ◌+◌, Bool, true, false, ◌||◌, List, [], ◌∷◌, ◌++◌, length, take, drop, Option, Some, None, refl, ap, sym, ◌∙◌, subst, arith, append_assoc, append-nil}
use Rattle.std.proofs.Common.{◌≤◌, ◌==◌, MatchOption, cond}
use Rattle.std.specs.List.{list_any}
use Rattle.std.specs.Char.{len_utf8}
use Rattle.std.proofs.Math.Utf8.{encodes}
use Rattle.std.proofs.lemmas.Bool.Decides.{nat_tests}
use Rattle.dl_text.specs.Place.{is_line_terminator, place_after}
use Rattle.js_lexer.specs.declared.position.Position.{Position}
use Rattle.js_lexer.specs.declared.front.Front.{Front}
use Rattle.js_lexer.specs.declared.front.Front.TheVariants.{Next, Bad}
use Rattle.js_lexer.specs.declared.token.LexKind.{LexKind}
use Rattle.js_lexer.specs.declared.token.Token.{Token}
use Rattle.js_lexer.specs.declared.token.TokenKind.{TokenKind}
use Rattle.js_lexer.specs.declared.token.TokenKind.TheVariants.{End}
use Rattle.js_lexer.specs.Fronts.{StandsAt}
use Rattle.js_lexer.specs.Position.{passed, tokens_at, newline_after}
use Rattle.js_lexer.specs.Tokens.{Piece, Cut, done, piece, text_of, body, body_start, tokens_of, gap_after, tokens_behind, IsTokens, IsLexFault}
use Rattle.js_lexer.proofs.OnlyPiece.{next_piece}
use Rattle.js_lexer.proofs.Placing.{stand, stand_passed}
use Rattle.js_lexer.proofs.Bytes.{bytes_cons, bytes_split, passed_bytes}

-- the whole text is cut into pieces, when its rest is cut into these
pub record Whole (text before gap : List ℕ) (tokens : List Token) (rest_pieces : List Piece) (last : List ℕ) : Type 0 where
  pub pieces : List Piece
  pub cut : Cut (body text) pieces last
  pub characters : text_of pieces ≡ before ++ text_of rest_pieces
  pub are : tokens_behind (body_start text) [] [] pieces ≡ tokens ++ tokens_behind (body_start text) before gap rest_pieces

-- the tokens so far, where reading stands, and whether a line terminator stands behind the last token, with the rest of the text
pub record Going (text rest : List ℕ) (tokens : List Token) (position : Position) (newline : Bool) : Type 0 where
  pub before : List ℕ
  pub gap : List ℕ
  pub stands : position ≡ stand (body_start text) before
  pub ended : newline ≡ list_any is_line_terminator gap
  pub goes : (pieces : List Piece) (last : List ℕ) → Cut rest pieces last → Whole text before gap tokens pieces last

pub going_start : (text : List ℕ) (position : Position) → position ≡ stand (body_start text) [] → Going text (body text) [] position false
going_start text position e = record {
  before = [];
  gap = [];
  stands = e;
  ended = refl;
  goes = λ pieces last cut. record { pieces = pieces; cut = cut; characters = refl; are = refl };
}

same_tokens : (start : ℕ) (before gap characters : List ℕ) (kind : Option TokenKind) (position : Position) (newline : Bool) → position ≡ stand start before → newline ≡ list_any is_line_terminator gap
    → tokens_of start before gap characters kind ≡ tokens_at position newline characters kind
same_tokens start before gap characters None position newline e g = refl
same_tokens start before gap characters (Some kind) position newline e g =
    let bytes : (stand start (before ++ characters)).bytes ≡ (passed position characters).bytes =
    ap (λ (p : Position). p.bytes) (sym (stand_passed start before characters) ∙ ap (λ p. passed p characters) (sym e)) in
    let begins : (stand start before).bytes ≡ position.bytes = ap (λ (p : Position). p.bytes) (sym e) in
    let place : (stand start before).place ≡ position.place = ap (λ (p : Position). p.place) (sym e) in
    cc

any_append : (p : ℕ → Bool) (xs ys : List ℕ) → list_any p (xs ++ ys) ≡ (list_any p xs || list_any p ys)
any_append p [] ys = refl
any_append p (x ∷ xs) ys = ap (λ b. p x || b) (any_append p xs ys) ∙ or_assoc (p x) (list_any p xs) (list_any p ys)
  where
    or_assoc : (a b c : Bool) → (a || (b || c)) ≡ ((a || b) || c)
    or_assoc true b c = refl
    or_assoc false b c = refl

ended_after : (gap characters : List ℕ) (kind : Option TokenKind) (newline : Bool) → newline ≡ list_any is_line_terminator gap
    → newline_after newline characters kind ≡ list_any is_line_terminator (gap_after gap characters kind)
ended_after gap characters None newline e = ap (λ b. b || list_any is_line_terminator characters) e ∙ sym (any_append is_line_terminator gap characters)
ended_after gap characters (Some kind) newline e = refl

pub going_more : (text rest : List ℕ) (tokens : List Token) (position : Position) (newline : Bool) (n : ℕ) (kind : Option TokenKind)
    → Going text rest tokens position newline → StandsAt rest (Next n kind)
    → Going text (drop n rest) (tokens ++ tokens_at position newline (take n rest) kind) (passed position (take n rest)) (newline_after newline (take n rest) kind)
going_more text rest tokens position newline n kind going stands = record {
  before = going.before ++ take n rest;
  gap = gap_after going.gap (take n rest) kind;
  stands = ap (λ p. passed p (take n rest)) going.stands ∙ stand_passed (body_start text) going.before (take n rest);
  ended = ended_after going.gap (take n rest) kind newline going.ended;
  goes = λ pieces last cut. further pieces last (going.goes (record { characters = take n rest; kind = kind } ∷ pieces) last (piece n kind (next_piece rest n kind stands) cut));
}
  where
    further : (pieces : List Piece) (last : List ℕ) → Whole text going.before going.gap tokens (record { characters = take n rest; kind = kind } ∷ pieces) last
        → Whole text (going.before ++ take n rest) (gap_after going.gap (take n rest) kind) (tokens ++ tokens_at position newline (take n rest) kind) pieces last
    further pieces last whole = record {
      pieces = whole.pieces;
      cut = whole.cut;
      characters = whole.characters ∙ sym (append_assoc going.before (take n rest) (text_of pieces));
      are = whole.are
          ∙ sym (append_assoc tokens (tokens_of (body_start text) going.before going.gap (take n rest) kind) (tokens_behind (body_start text) (going.before ++ take n rest) (gap_after going.gap (take n rest) kind) pieces))
          ∙ ap (λ ts. (tokens ++ ts) ++ tokens_behind (body_start text) (going.before ++ take n rest) (gap_after going.gap (take n rest) kind) pieces)
          (same_tokens (body_start text) going.before going.gap (take n rest) kind position newline going.stands going.ended);
    }

pub going_end : (text : List ℕ) (tokens : List Token) (position : Position) (newline : Bool) → Going text [] tokens position newline → IsTokens text (tokens ++ tokens_at position newline [] (Some End))
going_end text tokens position newline going =
    let whole = going.goes [] [] done in
    record {
      pieces = whole.pieces;
      cut = whole.cut;
      are = ap (λ ts. tokens ++ ts) (sym (same_tokens (body_start text) going.before going.gap [] (Some End) position newline going.stands going.ended)) ∙ sym whole.are;
    }

pub going_fault : (text rest : List ℕ) (tokens : List Token) (position : Position) (newline : Bool) (kind : LexKind) (n : ℕ)
    → Going text rest tokens position newline → StandsAt rest (Bad kind n) → IsLexFault text (passed position (take n rest)).place kind
going_fault text rest tokens position newline kind n going stands =
    let whole = going.goes [] rest done in
    record {
      pieces = whole.pieces;
      rest = rest;
      offset = n;
      cut = whole.cut;
      fault = stands;
      stands = ap (λ (p : Position). p.place) (ap (λ p. passed p (take n rest)) going.stands ∙ stand_passed (body_start text) going.before (take n rest))
          ∙ ap (λ cs. place_after (cs ++ take n rest)) (sym (whole.characters ∙ append-nil going.before));
    }

-- what was read is what stands there
pub stands_at : (read : Option Front) (cs : List ℕ) (front : Front) → read ≡ Some front → MatchOption read (cs ≡ []) (StandsAt cs) → StandsAt cs front
stands_at read cs front e h = let P : Option Front → Type 0 = λ r. MatchOption r (cs ≡ []) (StandsAt cs) in subst P e h

pub at_end : (read : Option Front) (cs : List ℕ) → read ≡ None → MatchOption read (cs ≡ []) (StandsAt cs) → cs ≡ []
at_end read cs e h = let P : Option Front → Type 0 = λ r. MatchOption r (cs ≡ []) (StandsAt cs) in subst P e h

pub going_begun : (text rest : List ℕ) (tokens : List Token) (position : Position) → rest ≡ body text → tokens ≡ []
    → position ≡ record { bytes = body_start text; place = record { line = 1; column = 1 }; after_return = false } → Going text rest tokens position false
going_begun text rest tokens position r t p =
    let start : position ≡ stand (body_start text) [] = p ∙ ap (λ n. (let q : Position = record { bytes = n; place = record { line = 1; column = 1 }; after_return = false } in q)) (omega arith) in
    subst (λ ts. Going text rest ts position false) (sym t) (subst (λ cs. Going text cs [] position false) (sym r) (going_start text position start))

pub body_bytes : (text : List ℕ) → body_start text + length (encodes (body text)) ≡ length (encodes text)
body_bytes [] = refl
body_bytes (c ∷ cs) = at (c == 0xFEFF) refl
  where
    at : (b : Bool) → (c == 0xFEFF) ≡ b → cond b 3 0 + length (encodes (cond b cs (c ∷ cs))) ≡ length (encodes (c ∷ cs))
    at true e = let same : c ≡ 0xFEFF = grind (arith, nat_tests) in let three : len_utf8 c ≡ 3 = ap len_utf8 same in let one = bytes_cons c cs in omega arith
    at false e = omega arith

pub left_begun : (text rest : List ℕ) (position : Position) → rest ≡ body text
    → position ≡ record { bytes = body_start text; place = record { line = 1; column = 1 }; after_return = false } → position.bytes + length (encodes rest) ≡ length (encodes text)
left_begun text rest position r p =
    let bytes : position.bytes ≡ body_start text = ap (λ (q : Position). q.bytes) p in
    let same : length (encodes rest) ≡ length (encodes (body text)) = ap (λ cs. length (encodes cs)) r in
    let whole = body_bytes text in omega arith

pub going_on : (text rest rest' characters : List ℕ) (tokens tokens' : List Token) (position position' : Position) (newline newline' : Bool) (n : ℕ) (kind : Option TokenKind)
    → Going text rest tokens position newline → StandsAt rest (Next n kind) → characters ≡ take n rest → rest' ≡ drop n rest
    → tokens' ≡ tokens ++ tokens_at position newline characters kind → position' ≡ passed position characters → newline' ≡ newline_after newline characters kind
    → Going text rest' tokens' position' newline'
going_on text rest rest' characters tokens tokens' position position' newline newline' n kind going stands c r t p b =
    let t' : tokens' ≡ tokens ++ tokens_at position newline (take n rest) kind = t ∙ ap (λ cs. tokens ++ tokens_at position newline cs kind) c in
    let p' : position' ≡ passed position (take n rest) = p ∙ ap (passed position) c in
    let b' : newline' ≡ newline_after newline (take n rest) kind = b ∙ ap (λ cs. newline_after newline cs kind) c in
    subst (λ x. Going text x tokens' position' newline') (sym r)
    (subst (λ x. Going text (drop n rest) x position' newline') (sym t')
    (subst (λ x. Going text (drop n rest) (tokens ++ tokens_at position newline (take n rest) kind) x newline') (sym p')
    (subst (λ x. Going text (drop n rest) (tokens ++ tokens_at position newline (take n rest) kind) (passed position (take n rest)) x) (sym b')
    (going_more text rest tokens position newline n kind going stands))))

pub left_on : (rest rest' characters : List ℕ) (position position' : Position) (n total : ℕ) → characters ≡ take n rest → rest' ≡ drop n rest → position' ≡ passed position characters
    → position.bytes + length (encodes rest) ≡ total → position'.bytes + length (encodes rest') ≡ total
left_on rest rest' characters position position' n total c r p e =
    let bytes : position'.bytes ≡ position.bytes + length (encodes characters) = ap (λ (q : Position). q.bytes) p ∙ passed_bytes characters position in
    let front : length (encodes characters) ≡ length (encodes (take n rest)) = ap (λ cs. length (encodes cs)) c in
    let back : length (encodes rest') ≡ length (encodes (drop n rest)) = ap (λ cs. length (encodes cs)) r in
    let whole = bytes_split rest n in omega arith

-- a front takes no more bytes than there are
pub fits_on : (rest characters : List ℕ) (n : ℕ) → characters ≡ take n rest → length (encodes characters) ≤ length (encodes rest)
fits_on rest characters n c =
    let front : length (encodes characters) ≡ length (encodes (take n rest)) = ap (λ cs. length (encodes cs)) c in
    let whole = bytes_split rest n in omega arith

pub fault_at : (text rest characters : List ℕ) (tokens : List Token) (position passed_position : Position) (newline : Bool) (kind : LexKind) (n : ℕ)
    → Going text rest tokens position newline → StandsAt rest (Bad kind n) → characters ≡ take n rest → passed_position ≡ passed position characters → IsLexFault text passed_position.place kind
fault_at text rest characters tokens position passed_position newline kind n going stands c p =
    subst (λ (q : Position). IsLexFault text q.place kind) (sym (p ∙ ap (passed position) c)) (going_fault text rest tokens position newline kind n going stands)

pub end_at : (text rest : List ℕ) (tokens tokens' : List Token) (position : Position) (newline : Bool) → Going text rest tokens position newline → rest ≡ []
    → tokens' ≡ tokens ++ tokens_at position newline rest (Some End) → IsTokens text tokens'
end_at text rest tokens tokens' position newline going e t =
    subst (IsTokens text) (sym (t ∙ ap (λ cs. tokens ++ tokens_at position newline cs (Some End)) e)) (going_end text tokens position newline (subst (λ cs. Going text cs tokens position newline) e going))

-- Every text is cut in one way, up to its end or to a fault.
use Rattle.std.proofs.Common.{◌≡◌, ℕ, zero, suc, ◌≤◌, ◌<◌, List, [], ◌∷◌, ◌++◌, length, take, drop, Option, ◌⊎◌, inl, inr, refl, ap, sym, ◌∙◌, subst, arith, length-drop}
use Rattle.dl_text.specs.declared.place.Place.{Place}
use Rattle.dl_text.specs.Place.{place_after}
use Rattle.js_lexer.specs.declared.front.Front.{Front}
use Rattle.js_lexer.specs.declared.front.Front.TheVariants.{Next, Bad}
use Rattle.js_lexer.specs.declared.token.LexKind.{LexKind}
use Rattle.js_lexer.specs.declared.token.Token.{Token}
use Rattle.js_lexer.specs.declared.token.TokenKind.{TokenKind}
use Rattle.js_lexer.specs.Fronts.{StandsAt}
use Rattle.js_lexer.specs.Pieces.{IsNextPiece}
use Rattle.js_lexer.specs.Tokens.{Piece, Cut, done, piece, text_of, body, body_start, tokens_behind, IsTokens, IsLexFault}
use Rattle.js_lexer.specs.Laws as law
use Rattle.js_lexer.proofs.Within.{stands_within}
use Rattle.js_lexer.proofs.OneAnswer.{stands_one, stands_nothing, stands_some}
use Rattle.js_lexer.proofs.OnlyPiece.{next_piece, next_stands}

-- ---- one cut

-- no piece stands at the front
Stuck : List ℕ → Type 0
Stuck cs = (n : ℕ) (kind : Option TokenKind) → StandsAt cs (Next n kind) → ⊥

stuck_nil : Stuck []
unfolding Stuck
stuck_nil n kind s = stands_nothing [] (Next n kind) s refl

stuck_bad : (cs : List ℕ) (kind : LexKind) (offset : ℕ) → StandsAt cs (Bad kind offset) → Stuck cs
unfolding Stuck
stuck_bad cs kind offset bad n token s = let e = stands_one cs (Bad kind offset) (Next n token) bad s in absurd (cc)

cut_one : (cs r r' : List ℕ) (ps qs : List Piece) → Cut cs ps r → Stuck r → Cut cs qs r' → Stuck r' → (ps ≡ qs) × (r ≡ r')
unfolding Stuck
cut_one cs r r' ps qs done stuck done stuck' = (refl, refl)
cut_one cs r r' ps qs done stuck (piece n kind s rest) stuck' = absurd (stuck n kind (next_stands cs n kind s))
cut_one cs r r' ps qs (piece n kind s rest) stuck done stuck' = absurd (stuck' n kind (next_stands cs n kind s))
cut_one cs r r' ps qs (piece {pieces = more} n kind s rest) stuck (piece {pieces = more'} n' kind' s' rest') stuck' =
    let e = stands_one cs (Next n kind) (Next n' kind') (next_stands cs n kind s) (next_stands cs n' kind' s') in
    let same : n ≡ n' = cc in
    let same_kind : kind ≡ kind' = cc in
    let h = cut_one (drop n cs) r r' more more' rest stuck (subst (λ x. Cut (drop x cs) more' r') (sym same) rest') stuck' in
    (ap (λ x. pieced x kind more) same ∙ ap (λ k. pieced n' k more) same_kind ∙ ap (pieced n' kind') h.0, h.1)
  where
    pieced : ℕ → Option TokenKind → List Piece → List Piece
    pieced x k xs = record { characters = take x cs; kind = k } ∷ xs

-- the text is cut to its end, or up to a fault
record IsCut (cs : List ℕ) : Type 0 where
  pieces : List Piece
  rest : List ℕ
  cut : Cut cs pieces rest
  ends : (rest ≡ []) ⊎ ((kind : LexKind) × ((offset : ℕ) × StandsAt rest (Bad kind offset)))

cut_step : (cs : List ℕ) → ((ds : List ℕ) → length ds < length cs → IsCut ds) → (front : Front) → StandsAt cs front → IsCut cs
cut_step cs rec (Bad kind offset) s = record { pieces = []; rest = cs; cut = done; ends = inr (kind, (offset, s)) }
cut_step cs rec (Next n kind) s =
    let w = stands_within cs (Next n kind) s in
    let r = rec (drop n cs) (omega (arith, length-drop n cs, w.0, w.1)) in
    record { pieces = record { characters = take n cs; kind = kind } ∷ r.pieces; rest = r.rest; cut = piece n kind (next_piece cs n kind s) r.cut; ends = r.ends }

cut_some : (fuel : ℕ) (cs : List ℕ) → length cs ≤ fuel → IsCut cs
cut_some fuel [] le = record { pieces = []; rest = []; cut = done; ends = inl refl }
cut_some zero (c ∷ cs) le = absurd (omega arith)
cut_some (suc fuel) (c ∷ cs) le = let s = stands_some c cs in cut_step (c ∷ cs) (λ ds lt. cut_some fuel ds (omega arith)) s.0 s.1

-- ---- the laws

pub every_text_is_lexed : law.EveryTextIsLexed
every_text_is_lexed text = at (cut_some (length (body text)) (body text) (omega arith))
  where
    at : IsCut (body text) → ((tokens : List Token) × IsTokens text tokens) ⊎ ((place : Place) × ((kind : LexKind) × IsLexFault text place kind))
    at c = by c.ends
      where
        by : (c.rest ≡ []) ⊎ ((kind : LexKind) × ((offset : ℕ) × StandsAt c.rest (Bad kind offset))) → ((tokens : List Token) × IsTokens text tokens) ⊎ ((place : Place) × ((kind : LexKind) × IsLexFault text place kind))
        by (inl e) = inl (tokens_behind (body_start text) [] [] c.pieces, record { pieces = c.pieces; cut = subst (Cut (body text) c.pieces) e c.cut; are = refl })
        by (inr b) = inr (place_after (text_of c.pieces ++ take b.1.0 c.rest), (b.0, record { pieces = c.pieces; rest = c.rest; offset = b.1.0; cut = c.cut; fault = b.1.1; stands = refl }))

pub no_text_has_both : law.NoTextHasBoth
no_text_has_both text tokens place kind t b =
    let same = cut_one (body text) [] b.rest t.pieces b.pieces t.cut stuck_nil b.cut (stuck_bad b.rest kind b.offset b.fault) in
    stands_nothing b.rest (Bad kind b.offset) b.fault (sym same.1)

pub one_cut : law.OneCut
one_cut text pieces others cut cut' = (cut_one text [] [] pieces others cut stuck_nil cut' stuck_nil).0

pub one_list_of_tokens : law.OneListOfTokens
one_list_of_tokens text tokens others t t' =
    t.are ∙ ap (tokens_behind (body_start text) [] []) (one_cut (body text) t.pieces t'.pieces t.cut t'.cut) ∙ sym t'.are

pub one_fault : law.OneFault
one_fault text place other_place kind other_kind b b' =
    let same = cut_one (body text) b.rest b'.rest b.pieces b'.pieces b.cut (stuck_bad b.rest kind b.offset b.fault) b'.cut (stuck_bad b'.rest other_kind b'.offset b'.fault) in
    let there : StandsAt b'.rest (Bad kind b.offset) = subst (λ cs. StandsAt cs (Bad kind b.offset)) same.1 b.fault in
    let e = stands_one b'.rest (Bad kind b.offset) (Bad other_kind b'.offset) there b'.fault in
    let kinds : kind ≡ other_kind = cc in
    let offsets : b.offset ≡ b'.offset = cc in (
      b.stands ∙ ap (λ ps. place_after (text_of ps ++ take b.offset b.rest)) same.0 ∙ ap (λ cs. place_after (text_of b'.pieces ++ take b.offset cs)) same.1
          ∙ ap (λ n. place_after (text_of b'.pieces ++ take n b'.rest)) offsets ∙ sym b'.stands,
      kinds,
    )

pub reading_finds_the_next_piece : law.ReadingFindsTheNextPiece
reading_finds_the_next_piece text n kind = (next_piece text n kind, next_stands text n kind)

fault_or_piece : (text : List ℕ) (front : Front) → StandsAt text front → ((n : ℕ) (kind : Option TokenKind) → IsNextPiece text n kind → ⊥) → (kind : LexKind) × ((offset : ℕ) × StandsAt text (Bad kind offset))
fault_or_piece text (Bad kind offset) s none = (kind, (offset, s))
fault_or_piece text (Next n kind) s none = absurd (none n kind (next_piece text n kind s))

pub faults_stand_where_no_piece_does : law.FaultsStandWhereNoPieceDoes
unfolding Stuck
faults_stand_where_no_piece_does [] some = absurd (some refl)
faults_stand_where_no_piece_does (c ∷ cs) some = (
  λ fault n kind next. stuck_bad (c ∷ cs) fault.0 fault.1.0 fault.1.1 n kind (next_stands (c ∷ cs) n kind next),
  λ none. let s = stands_some c cs in fault_or_piece (c ∷ cs) s.0 s.1 none,
)

-- The text of kinds that may be written is cut into them.
use Rattle.std.proofs.Common.{◌≡◌, ℕ, Bool, true, false, List, [], ◌∷◌, ◌++◌, length, Option, Some, None, refl, ap, sym, ◌∙◌, subst, append_assoc, append-nil}
use Rattle.std.proofs.Math.Seq.{take-append_seam, drop-append_seam}
use Rattle.js_lexer.specs.Fronts.{StandsAt}
use Rattle.js_lexer.specs.Fronts as f
use Rattle.js_lexer.specs.Tokens.{Piece, Cut}
use Rattle.js_lexer.specs.Tokens as t
use Rattle.js_lexer.specs.declared.front.Front.TheVariants.{Next}
use Rattle.js_lexer.specs.declared.token.TokenKind.{TokenKind}
use Rattle.js_lexer.proofs.OnlyPiece.{next_piece}
use Rattle.js_printer.specs.Printed.{Kinds}
use Rattle.js_printer.specs.PrintedText.{spelled, needs_space, space, gap, text}
use Rattle.cluster_files.specs.WritableKinds.{AreWritable}
use Rattle.cluster_files.proofs.Neighbours.{AllFit, Stops, kind_stands, stops_before, stops_at_feed, stops_at_nothing}

abbrev pub of_token : TokenKind → Piece
of_token kind = record { characters = spelled kind; kind = Some kind }

abbrev pub of_blank : ℕ → Piece
of_blank c = record { characters = c ∷ []; kind = None }

abbrev pub spaced : Bool → List Piece → List Piece
spaced true ps = of_blank 32 ∷ ps
spaced false ps = ps

-- a line feed, or nothing
abbrev pub closing : Bool → List ℕ
closing true = 10 ∷ []
closing false = []

abbrev pub last_pieces : Bool → List Piece
last_pieces true = of_blank 10 ∷ []
last_pieces false = []

-- the pieces of the text of kinds, which a line feed closes or nothing
abbrev pub pieces : Bool → Kinds → List Piece
pieces feed [] = last_pieces feed
pieces feed (kind ∷ []) = of_token kind ∷ last_pieces feed
pieces feed (kind ∷ next ∷ more) = of_token kind ∷ spaced (needs_space (spelled kind) (spelled next)) (pieces feed (next ∷ more))

cut_piece : (us rest : List ℕ) (kind : Option TokenKind) (ps : List Piece) → StandsAt (us ++ rest) (Next (length us) kind) → Cut rest ps []
    → Cut (us ++ rest) (record { characters = us; kind = kind } ∷ ps) []
cut_piece us rest kind ps s c =
    let cut = t.piece (length us) kind (next_piece (us ++ rest) (length us) kind s) (subst (λ ds. Cut ds ps []) (sym (drop-append_seam us rest)) c) in
    subst (λ vs. Cut (us ++ rest) (record { characters = vs; kind = kind } ∷ ps) []) (take-append_seam us rest) cut

cut_space : (b : Bool) (rest : List ℕ) (ps : List Piece) → Cut rest ps [] → Cut (space b ++ rest) (spaced b ps) []
cut_space true rest ps c = cut_piece (32 ∷ []) rest None ps (f.other refl) c
cut_space false rest ps c = c

cut_end : (feed : Bool) → Cut (closing feed) (last_pieces feed) []
cut_end true = cut_piece (10 ∷ []) [] None [] (f.other refl) t.done
cut_end false = t.done

stops_at_end : (kind : TokenKind) (feed : Bool) → Stops kind (closing feed)
stops_at_end kind true = stops_at_feed kind []
stops_at_end kind false = stops_at_nothing kind

-- the text behind the first kind
behind : (kind next : TokenKind) (more : Kinds) (end : List ℕ)
    → text (kind ∷ next ∷ more) ++ end ≡ spelled kind ++ (space (needs_space (spelled kind) (spelled next)) ++ (text (next ∷ more) ++ end))
behind kind next more end =
    append_assoc (spelled kind) (space (needs_space (spelled kind) (spelled next)) ++ text (next ∷ more)) end
    ∙ ap (λ us. spelled kind ++ us) (append_assoc (space (needs_space (spelled kind) (spelled next))) (text (next ∷ more)) end)

pub text_is_cut : (feed : Bool) (kinds : Kinds) → AreWritable kinds → AllFit kinds → Cut (text kinds ++ closing feed) (pieces feed kinds) []
text_is_cut feed [] w f = cut_end feed
text_is_cut feed (kind ∷ []) w f =
    let s = kind_stands kind (closing feed) w.0 (stops_at_end kind feed) in
    subst (λ us. Cut (us ++ closing feed) (of_token kind ∷ last_pieces feed) []) (sym (append-nil (spelled kind)))
    (cut_piece (spelled kind) (closing feed) (Some kind) (last_pieces feed) s (cut_end feed))
text_is_cut feed (kind ∷ next ∷ more) w f =
    let rest = text_is_cut feed (next ∷ more) w.1 f.1 in
    let b = needs_space (spelled kind) (spelled next) in
    let after = space b ++ (text (next ∷ more) ++ closing feed) in
    let stops : Stops kind after =
    subst (λ us. Stops kind (space b ++ us)) (sym (append_assoc (spelled next) (gap next more ++ text more) (closing feed)))
    (stops_before kind next more ((gap next more ++ text more) ++ closing feed) w.0 w.1.0 f.0) in
    subst (λ us. Cut us (of_token kind ∷ spaced b (pieces feed (next ∷ more))) []) (sym (behind kind next more (closing feed)))
    (cut_piece (spelled kind) after (Some kind) (spaced b (pieces feed (next ∷ more))) (kind_stands kind after w.0 stops)
    (cut_space b (text (next ∷ more) ++ closing feed) (pieces feed (next ∷ more)) rest))

-- The edges of a shown string.
use Rattle.std.proofs.Common.{◌≡◌, ℕ, ◌&&◌, Bool, true, false, List, ◌∷◌, ◌++◌, refl}
use Rattle.std.specs.Prelude.{encode_utf8_all}
use Rattle.std.specs.List.{flat_map}
use Rattle.unicode_ident.proofs.Computing.{unicode_ident}
use Rattle.js_lexer.specs.declared.token.TokenKind.TheVariants as k
use Rattle.js_printer.specs.declared.edge.Edge.{Edge}
use Rattle.js_printer.specs.declared.writer.Printer.{Printer}
use Rattle.js_printer.specs.Edges.{front, back, nothing, meet}
use Rattle.js_printer.specs.Written.{put, written}
use Rattle.js_printer.proofs.Edges.{back_at}
use Rattle.dl_text.specs.Quote.{quoted, quoted_unit}

no_meeting : (e : Edge) → meet e nothing ≡ false
no_meeting e = cc (and_false e.continues, and_false e.plus, and_false e.minus)
  where
    and_false : (b : Bool) → (b && false) ≡ false
    and_false true = refl
    and_false false = refl

front_quoted : (text : List ℕ) → front (quoted text) ≡ nothing
unfolding unicode_ident
front_quoted text = refl

back_quoted : (text : List ℕ) → back (quoted text) ≡ nothing
unfolding unicode_ident
back_quoted text = back_at (34 ∷ flat_map quoted_unit text) 34

pub string_written : (p : Printer) (text t : List ℕ) (last : Edge) → t ≡ p.text ++ encode_utf8_all (quoted text) → last ≡ nothing → record p { text = t; last = last } ≡ written p (k.Str text)
unfolding written put
string_written p text t last e h =
    cc (no_meeting p.last, front_quoted text, back_quoted text, e, h)

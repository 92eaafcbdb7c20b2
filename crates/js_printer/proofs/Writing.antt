-- What is written by parts.
use Rattle.std.proofs.Common.{◌≡◌, ℕ, Bool, List, [], ◌∷◌, ◌++◌, refl, sym, ap, ◌∙◌}
use Rattle.std.specs.Prelude.{IsUtf8, chars}
use Rattle.std.proofs.lemmas.Str.{encodes-chars}
use Rattle.std.proofs.lemmas.List.{append_assoc}
use Rattle.js_printer.specs.declared.edge.Edge.{Edge}
use Rattle.js_printer.specs.Edges.{front, back, meet}
use Rattle.js_printer.specs.PrintedText.{space}
use Rattle.js_printer.specs.declared.writer.Printer.{Printer}
use Rattle.js_printer.specs.Printed.{Kinds}
use Rattle.js_printer.specs.Written.{put, written, all_written}

pub all_written_append : (p : Printer) (u v : Kinds) → all_written p (u ++ v) ≡ all_written (all_written p u) v
all_written_append p [] v = refl
all_written_append p (kind ∷ u) v = all_written_append (written p kind) u v

pub put_by_parts : (p : Printer) (spelled bs spaced t : List ℕ) (first last : Edge) (wanted : Bool) → IsUtf8 spelled
    → first ≡ front (chars spelled) → wanted ≡ meet p.last first → spaced ≡ p.text ++ space wanted
    → bs ≡ spelled → t ≡ spaced ++ bs → last ≡ back (chars spelled)
    → record p { text = t; last = last } ≡ put p (chars spelled)
unfolding put
put_by_parts p spelled bs spaced t first last wanted u a b c d e f =
    cc (encodes-chars spelled u, append_assoc p.text (space wanted) spelled)

-- three parts, and four
pub three : (p p1 p2 p3 : Printer) (u v w all : Kinds) → p1 ≡ all_written p u → p2 ≡ all_written p1 v → p3 ≡ all_written p2 w → all ≡ u ++ (v ++ w) → p3 ≡ all_written p all
three p p1 p2 p3 u v w all first second third e =
    third ∙ ap (λ q. all_written q w) (second ∙ ap (λ q. all_written q v) first)
    ∙ sym (all_written_append (all_written p u) v w) ∙ sym (all_written_append p u (v ++ w)) ∙ ap (all_written p) (sym e)

pub four : (p p1 p2 p3 p4 : Printer) (u v w x all : Kinds) → p1 ≡ all_written p u → p2 ≡ all_written p1 v → p3 ≡ all_written p2 w → p4 ≡ all_written p3 x → all ≡ u ++ (v ++ (w ++ x)) → p4 ≡ all_written p all
four p p1 p2 p3 p4 u v w x all first second third fourth e =
    three p1 p2 p3 p4 v w x (v ++ (w ++ x)) second third fourth refl ∙ ap (λ q. all_written q (v ++ (w ++ x))) first
    ∙ sym (all_written_append p u (v ++ (w ++ x))) ∙ ap (all_written p) (sym e)

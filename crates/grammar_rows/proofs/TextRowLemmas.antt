-- What shows a row by texts.
use Rattle.std.proofs.Common.{◌≡◌, ℕ, ◌≤◌, true, false, List, [], ◌∷◌, ◌++◌, refl, sym, subst}
use Rattle.js_tree.specs.Tree.{Script}
use Rattle.js_parser.specs.declared.form.Form.{Form}
use Rattle.js_parser.specs.Symbols.{Symbols, end}
use Rattle.js_parser.specs.Contexts as context
use Rattle.js_parser.specs.Grammar.{SourceElements}
use Rattle.js_tree.specs.Depth.{depth, nesting}
use Rattle.js_parser.specs.Accepted.{Accepted, IsUnlimited, functions_in, most_open}
use Rattle.js_parser.specs.Fault.{Begins}
use Rattle.js_printer.specs.PrintedText.{script_text}
use Rattle.grammar_rows.specs.TextRows.{IsOf, Reads, Same, BreaksAt, tokens, limits_of}
use Rattle.js_parser.specs.Rooms.{unbounded}
use Rattle.js_parser.specs.Machine.{run, script}
use Rattle.js_parser.proofs.OneTree.{is_stuck, never}

-- the limits of a text
pub record Within (form : Form) (all : Symbols) (tree : Script) : Type 0 where
  pub few : functions_in all ≤ (limits_of form).functions
  pub low : depth tree ≤ (limits_of form).depth
  pub flat : nesting tree ≤ (limits_of form).nesting
  pub closed : most_open 0 all ≤ (limits_of form).brackets

pub is_of : (form : Form) (text : List ℕ) (tree : Script) (u : Symbols) → tokens text ≡ u → SourceElements form context.script u (end false) tree
    → Within form (u ++ (end false ∷ [])) tree → IsOf form text tree
is_of form text tree u e d w =
    subst (λ t. Accepted form (limits_of form) (t ++ (end false ∷ [])) tree) (sym e)
    (record {
      unlimited = record { derives = record { elements = u; newline = false; whole = refl; derived = d }; few_functions = w.few };
      keeps = record { not_too_deep = w.low; not_too_nested = w.flat; not_too_many_open = w.closed };
    })

pub reads_as : (form : Form) (text : List ℕ) {printed : List ℕ} (tree : Script) (u : Symbols) → tokens text ≡ u
    → SourceElements form context.script u (end false) tree → Within form (u ++ (end false ∷ [])) tree → script_text tree ≡ printed → Reads form text printed
reads_as form text tree u e d w h = record { tree = tree; accepted = is_of form text tree u e d w; written = h }

pub same_tree : (form : Form) (text other : List ℕ) (tree : Script) (u v : Symbols) → tokens text ≡ u → tokens other ≡ v
    → SourceElements form context.script u (end false) tree → Within form (u ++ (end false ∷ [])) tree
    → SourceElements form context.script v (end false) tree → Within form (v ++ (end false ∷ [])) tree → Same form text other
same_tree form text other tree u v e f d w c z = record { tree = tree; accepted = is_of form text tree u e d w; other_accepted = is_of form other tree v f c z }

-- the tokens w of a script that the text begins, and those v that the machine is stuck at
pub breaks_at : (form : Form) (text token : List ℕ) (tree : Script) (more w v : Symbols) → tokens text ++ (more ++ (end false ∷ [])) ≡ w ++ (end false ∷ [])
    → tokens text ++ tokens token ≡ v → SourceElements form context.script w (end false) tree → functions_in (w ++ (end false ∷ [])) ≤ (limits_of form).functions
    → ((others : Symbols) → is_stuck (run form 200 (script unbounded (v ++ others))) ≡ true) → BreaksAt form text token
breaks_at form text token tree more w v e f d few h = record {
  begins = record {
    more = more ++ (end false ∷ []);
    tree = tree;
    unlimited = subst (λ t. IsUnlimited form (limits_of form).functions t tree) (sym e)
        (record { derives = record { elements = w; newline = false; whole = refl; derived = d }; few_functions = few });
  };
  ends = λ b. never form (limits_of form).functions v 200 h (subst (Begins form (limits_of form).functions) f b);
}

-- What is a statement or a declaration is one before the end of a script too.
use Rattle.std.proofs.Common.{◌≡◌, ℕ, Bool, false, [], ◌∷◌, refl, ap, sym, ◌∙◌}
use Rattle.js_tree.specs.Tree.{Stmt}
use Rattle.js_parser.specs.declared.form.Form.{Form}
use Rattle.js_parser.specs.Symbols.{Symbol, Symbols, end, first}
use Rattle.js_parser.specs.Contexts.{Context}
use Rattle.js_parser.specs.Ends.{Ends, EndsAtOnce}
use Rattle.js_parser.specs.Ends as e
use Rattle.js_parser.specs.Grammar.{Statement, SourceElement}
use Rattle.js_parser.specs.Grammar as g
use Rattle.js_parser.proofs.Levels.{is_empty, expression-tokens}

ended : {reached : ℕ} {next : Symbol} {v : Symbols} → Ends reached next v → (b : Bool) (other : ℕ) → Ends other (end b) v
ended (e.written d) b other = e.written d
ended (e.at_brace h) b other = e.at_end refl
ended (e.at_end h) b other = e.at_end refl
ended (e.at_line h i j) b other = e.at_end refl

ended-at-once : {next : Symbol} {v : Symbols} → EndsAtOnce next v → (b : Bool) → EndsAtOnce (end b) v
ended-at-once e.semicolon b = e.semicolon
ended-at-once (e.before_brace h) b = e.before_end refl
ended-at-once (e.before_end h) b = e.before_end refl
ended-at-once (e.before_line h) b = e.before_end refl

-- what follows is not the first token of tokens
first-same : (u : Symbols) (next other : Symbol) → is_empty u ≡ false → first u next ≡ first u other
first-same [] next other h = cc
first-same (s ∷ u) next other h = refl

statement-closed : {form : Form} {c : Context} {u : Symbols} {next : Symbol} {s : Stmt} → Statement form c u next s → (b : Bool) → Statement form c u (end b) s
statement-closed (g.block d) b = g.block d
statement-closed (g.variables o xs ends) b = g.variables o xs (ended ends b _)
statement-closed (g.empty o) b = g.empty o
statement-closed (g.expression {next = next} {u = u} x h i ends) b =
    let kinds = ap (λ s. s.kind) (first-same u next (end b) (expression-tokens x)) in g.expression x (λ f. h (kinds ∙ f)) (λ f. i (kinds ∙ f)) (ended ends b _)
statement-closed (g.if o d f x s h) b = g.if o d f x (statement-closed s b) (λ is. cc)
statement-closed (g.if_else o d f h x s other) b = g.if_else o d f h x s (statement-closed other b)
statement-closed (g.do_while o d f h s x ends) b = g.do_while o d f h s x (ended ends b _)
statement-closed (g.while o d f x s) b = g.while o d f x (statement-closed s b)
statement-closed (g.for o d f h j init test step s) b = g.for o d f h j init test step (statement-closed s b)
statement-closed (g.for_in o d f h x t y s) b = g.for_in o d f h x t y (statement-closed s b)
statement-closed (g.for_var_in o d f h j x y s) b = g.for_var_in o d f h j x y (statement-closed s b)
statement-closed (g.continue o h ends) b = g.continue o h (ended-at-once ends b)
statement-closed (g.continue_to o r h ends) b = g.continue_to o r h (ended ends b _)
statement-closed (g.break o h ends) b = g.break o h (ended-at-once ends b)
statement-closed (g.break_from o r h ends) b = g.break_from o r h (ended ends b _)
statement-closed (g.return o h ends) b = g.return o h (ended-at-once ends b)
statement-closed (g.return_value {next = next} {u = u} o h x line ends) b =
    g.return_value o h x (sym (ap (λ s. s.newline) (first-same u next (end b) (expression-tokens x))) ∙ line) (ended ends b _)
statement-closed (g.switch o d f h j x cs) b = g.switch o d f h j x cs
statement-closed (g.label o d r away s) b = g.label o d r away (statement-closed s b)
statement-closed (g.throw {next = next} {u = u} o x line ends) b =
    g.throw o x (sym (ap (λ s. s.newline) (first-same u next (end b) (expression-tokens x))) ∙ line) (ended ends b _)
statement-closed (g.try_catch o d f h j s r handler) b = g.try_catch o d f h j s r handler
statement-closed (g.try_finally o d s last) b = g.try_finally o d s last
statement-closed (g.try_catch_finally o d f h j p s r handler last) b = g.try_catch_finally o d f h j p s r handler last

-- whatever follows it, the end may follow it
pub element_closed : {form : Form} {c : Context} {u : Symbols} {next : Symbol} {s : Stmt} → SourceElement form c u next s → (b : Bool) → SourceElement form c u (end b) s
element_closed (g.statement s) b = g.statement (statement-closed s b)
element_closed (g.declaration o d r f) b = g.declaration o d r f

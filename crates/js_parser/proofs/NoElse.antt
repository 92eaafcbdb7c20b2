-- No statement begins with `else`.
use Rattle.std.proofs.Common.{◌≡◌, ◌≢◌, ℕ, Bool, [], ◌∷◌, ◌++◌, refl, ap, sym, ◌∙◌}
use Rattle.js_lexer.specs.declared.word.Word.TheVariants as w
use Rattle.js_lexer.specs.declared.token.TokenKind.TheVariants as k
use Rattle.js_tree.specs.declared.tree.PrefixOp.{PrefixOp}
use Rattle.js_tree.specs.declared.tree.PrefixOp.TheVariants as p
use Rattle.js_tree.specs.Tree.{Expr, Stmt, Stmts}
use Rattle.js_parser.specs.declared.form.Form.{Form}
use Rattle.js_parser.specs.Symbols.{Symbol, Symbols, first}
use Rattle.js_parser.specs.Operators.{prefix_sign}
use Rattle.js_parser.specs.Contexts.{Context}
use Rattle.js_parser.specs.Grammar.{Expression, Statement, StatementList, SourceElement, SourceElements}
use Rattle.js_parser.specs.Grammar as g

pub first-join : (u v : Symbols) (next : Symbol) → first (u ++ v) next ≡ first u (first v next)
first-join [] v next = refl
first-join (s ∷ u) v next = refl

prefix-else : (op : PrefixOp) → prefix_sign op ≢ k.Word w.Else
prefix-else p.Delete e = cc
prefix-else p.Void e = cc
prefix-else p.TypeOf e = cc
prefix-else p.Increment e = cc
prefix-else p.Decrement e = cc
prefix-else p.Plus e = cc
prefix-else p.Minus e = cc
prefix-else p.BitNot e = cc
prefix-else p.Not e = cc

joined : (u v : Symbols) (next : Symbol) → ((n : Symbol) → (first u n).kind ≢ k.Word w.Else) → (first (u ++ v) next).kind ≢ k.Word w.Else
joined u v next h e = h (first v next) (ap (λ s. s.kind) (sym (first-join u v next)) ∙ e)

pub expression-start : {form : Form} {i : Bool} {l : ℕ} {u : Symbols} {x : Expr} → Expression form i l u x → (n : Symbol) → (first u n).kind ≢ k.Word w.Else
expression-start (g.this c h) n e = cc
expression-start (g.identifier c h r) n e = cc
expression-start (g.null c h) n e = cc
expression-start (g.truth c h) n e = cc
expression-start (g.falsehood c h) n e = cc
expression-start (g.numeral d c h) n e = cc
expression-start (g.literal c h) n e = cc
expression-start (g.array c d h es) n e = cc
expression-start (g.object c d h ps) n e = cc
expression-start (g.parenthesised c d h x) n e = cc
expression-start (g.function c h f) n e = cc
expression-start (g.named_function c d h r f) n e = cc
expression-start (g.late c1 c2 c3 c4 c5 c6 c7 h form k) n e = cc
expression-start (g.dot {u = u} o c d h1 h2 h x r) n e = joined u _ n (expression-start x) e
expression-start (g.index {u = u} o c d h1 h2 h x y) n e = joined u _ n (expression-start x) e
expression-start (g.call {u = u} {v = v} h x xs) n e = joined u v n (expression-start x) e
expression-start (g.new c h x xs) n e = cc
expression-start (g.bare_new c h x) n e = cc
expression-start (g.postfix {u = u} op h x t) n e = joined u _ n (expression-start x) e
expression-start (g.prefix op c h away x) n e = prefix-else op e
expression-start (g.changed op c h may x t) n e = prefix-else op e
expression-start (g.binary {u = u} op c h may x y) n e = joined u _ n (expression-start x) e
expression-start (g.conditional {u = u} c d h x y z) n e = joined u _ n (expression-start x) e
expression-start (g.assign {u = u} op eq c h a x t y) n e = joined u _ n (expression-start x) e
expression-start (g.comma {u = u} c h x y) n e = joined u _ n (expression-start x) e

pub statement-start : {form : Form} {c : Context} {u : Symbols} {next : Symbol} {s : Stmt} → Statement form c u next s → (n : Symbol) → (first u n).kind ≢ k.Word w.Else
statement-start (g.block (g.braces b d ss)) n e = cc
statement-start (g.variables b xs ends) n e = cc
statement-start (g.empty b) n e = cc
statement-start (g.expression {u = u} {v = v} x h1 h2 ends) n e = joined u v n (expression-start x) e
statement-start (g.if b d f x s h) n e = cc
statement-start (g.if_else b d f h x s other) n e = cc
statement-start (g.do_while b d f h s x ends) n e = cc
statement-start (g.while b d f x s) n e = cc
statement-start (g.for b d f h j init test step s) n e = cc
statement-start (g.for_in b d f h x t y s) n e = cc
statement-start (g.for_var_in b d f h j x y s) n e = cc
statement-start (g.continue b h ends) n e = cc
statement-start (g.continue_to b r h ends) n e = cc
statement-start (g.break b h ends) n e = cc
statement-start (g.break_from b r h ends) n e = cc
statement-start (g.return b h ends) n e = cc
statement-start (g.return_value b h x f ends) n e = cc
statement-start (g.switch b d f h j x cs) n e = cc
statement-start (g.label b d r away s) n e = cc
statement-start (g.throw b x f ends) n e = cc
statement-start (g.try_catch b d f h j s r handler) n e = cc
statement-start (g.try_finally b d s last) n e = cc
statement-start (g.try_catch_finally b d f h j o s r handler last) n e = cc

pub element-start : {form : Form} {c : Context} {u : Symbols} {next : Symbol} {s : Stmt} → SourceElement form c u next s → (n : Symbol) → (first u n).kind ≢ k.Word w.Else
element-start (g.statement s) n e = statement-start s n e
element-start (g.declaration c d r f) n e = cc

-- where an `else` comes behind the statements of two lists of one tree, it comes behind both
pub list-follows : {form : Form} {c : Context} {u v : Symbols} {next other : Symbol} {ss : Stmts} → StatementList form c u next ss → StatementList form c v other ss
    → (other.kind ≡ k.Word w.Else → next.kind ≡ k.Word w.Else) → (first v other).kind ≡ k.Word w.Else → (first u next).kind ≡ k.Word w.Else
list-follows g.no_statement g.no_statement h e = h e
list-follows (g.statement_and s ss) (g.statement_and {next = next} {u = u} {v = v} t ts) h e = absurd (joined u v next (statement-start t) e)

pub elements-follow : {form : Form} {c : Context} {u v : Symbols} {next other : Symbol} {ss : Stmts} → SourceElements form c u next ss → SourceElements form c v other ss
    → (other.kind ≡ k.Word w.Else → next.kind ≡ k.Word w.Else) → (first v other).kind ≡ k.Word w.Else → (first u next).kind ≡ k.Word w.Else
elements-follow g.no_source g.no_source h e = h e
elements-follow (g.source_and s ss) (g.source_and {next = next} {u = u} {v = v} t ts) h e = absurd (joined u v next (element-start t) e)

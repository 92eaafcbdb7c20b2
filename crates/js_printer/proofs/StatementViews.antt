-- The tokens of declared statements, by the parts that they are written in.
use Rattle.std.proofs.Common.{rules, ◌≡◌, true, List, [], ◌∷◌, ◌++◌, Option, Some, None, refl, ap, sym, ◌∙◌}
use Rattle.std.proofs.lemmas.List.{append_assoc}
use Rattle.js_lexer.specs.declared.mark.Mark.TheVariants as m
use Rattle.js_lexer.specs.declared.token.TokenKind.TheVariants as k
use Rattle.js_lexer.specs.declared.word.Word.TheVariants as w
use Rattle.js_tree.specs.declared.tree.Case.{Case}
use Rattle.js_tree.specs.declared.tree.Expr.{Expr}
use Rattle.js_tree.specs.declared.tree.Func.{Func}
use Rattle.js_tree.specs.declared.tree.ForInit.{ForInit}
use Rattle.js_tree.specs.declared.tree.ForTarget.{ForTarget}
use Rattle.js_tree.specs.declared.tree.Stmt.{Stmt}
use Rattle.js_tree.specs.declared.tree.Stmt.TheVariants as s
use Rattle.js_tree.specs.declared.tree.Stmt.TheVariants.{rolls-If, rolls-DoWhile, rolls-While, rolls-ForIn, rolls-Switch}
use Rattle.js_tree.specs.declared.tree.Expr.TheFolds.{fold-roll-Stmt, fold_out-Case, fold_out-Func}
use Rattle.js_tree.specs.Tree as plain
use Rattle.js_tree.specs.Tree.{Name}
use Rattle.js_tree.specs.Plain as view
use Rattle.js_tree.specs.Plain.{CasePart}
use Rattle.js_tree.specs.Parts as trees
use Rattle.js_tree.proofs.PlainNodes.{for_node, try_node}
use Rattle.js_printer.specs.Printed as printed
use Rattle.js_printer.specs.Printed.{Kinds, enclosed}
use Rattle.js_printer.specs.Parts as parts
use Rattle.js_printer.proofs.Writing.{all_written_append}

if_view : (test : Expr) (then : Stmt) (other : Option Stmt) → view.stmt (s.If test then other) ≡ plain.If (view.expr test) (view.stmt then) (trees.maybe_stmt other)
if_view test then None = ap view.stmt (sym (rolls-If test then None)) ∙ search (rules, fold-roll-Stmt)
if_view test then (Some x) = ap view.stmt (sym (rolls-If test then (Some x))) ∙ search (rules, fold-roll-Stmt)

else_kinds : (other : Option Stmt) → printed.else_part (trees.maybe_stmt other) ≡ parts.maybe_behind w.Else other
else_kinds None = refl
else_kinds (Some x) = refl

pub if_kinds : (test : Expr) (then : Stmt) (other : Option Stmt) → parts.stmt (s.If test then other)
    ≡ (k.Word w.If ∷ enclosed (parts.expr test true)) ++ (parts.stmt then ++ parts.maybe_behind w.Else other)
if_kinds test then other =
    ap printed.stmt (if_view test then other)
    ∙ ap (λ t. k.Word w.If ∷ (enclosed (parts.expr test true) ++ (parts.stmt then ++ t))) (else_kinds other)

do_view : (body : Stmt) (test : Expr) → view.stmt (s.DoWhile body test) ≡ plain.DoWhile (view.stmt body) (view.expr test)
do_view body test = ap view.stmt (sym (rolls-DoWhile body test)) ∙ search (rules, fold-roll-Stmt)

pub do_kinds : (body : Stmt) (test : Expr) → parts.stmt (s.DoWhile body test)
    ≡ (k.Word w.Do ∷ parts.stmt body) ++ ((k.Word w.While ∷ enclosed (parts.expr test true)) ++ (k.Mark m.Semicolon ∷ []))
do_kinds body test = ap printed.stmt (do_view body test)

while_view : (test : Expr) (body : Stmt) → view.stmt (s.While test body) ≡ plain.While (view.expr test) (view.stmt body)
while_view test body = ap view.stmt (sym (rolls-While test body)) ∙ search (rules, fold-roll-Stmt)

pub while_kinds : (test : Expr) (body : Stmt) → parts.stmt (s.While test body)
    ≡ (k.Word w.While ∷ enclosed (parts.expr test true)) ++ parts.stmt body
while_kinds test body = ap printed.stmt (while_view test body)

-- the marks of a header stand where its parts end
header : (u v t r : Kinds) → enclosed (u ++ (k.Mark m.Semicolon ∷ (v ++ (k.Mark m.Semicolon ∷ t)))) ++ r
    ≡ (k.Mark m.OpenParenthesis ∷ (u ++ (k.Mark m.Semicolon ∷ []))) ++ ((v ++ (k.Mark m.Semicolon ∷ [])) ++ ((t ++ (k.Mark m.CloseParenthesis ∷ [])) ++ r))
header u v t r = simp append_assoc

pub for_kinds : (first : ForInit) (test next : Option Expr) (body : Stmt) → parts.stmt (s.For first test next body)
    ≡ (k.Word w.For ∷ (k.Mark m.OpenParenthesis ∷ (parts.for_init first ++ (k.Mark m.Semicolon ∷ []))))
    ++ ((parts.maybe_expr test ++ (k.Mark m.Semicolon ∷ [])) ++ ((parts.maybe_expr next ++ (k.Mark m.CloseParenthesis ∷ [])) ++ parts.stmt body))
for_kinds first test next body =
    ap printed.stmt (for_node first test next body)
    ∙ ap (λ t. k.Word w.For ∷ t) (header (parts.for_init first) (parts.maybe_expr test) (parts.maybe_expr next) (parts.stmt body))

for_in_view : (target : ForTarget) (object : Expr) (body : Stmt) → view.stmt (s.ForIn target object body)
    ≡ plain.ForIn (trees.for_target target) (view.expr object) (view.stmt body)
for_in_view target object body =
    ap view.stmt (sym (rolls-ForIn target object body)) ∙ search (rules, fold-roll-Stmt)

in_header : (u v r : Kinds) → enclosed (u ++ (k.Word w.In ∷ v)) ++ r
    ≡ (k.Mark m.OpenParenthesis ∷ u) ++ ((k.Word w.In ∷ (v ++ (k.Mark m.CloseParenthesis ∷ []))) ++ r)
in_header u v r = simp append_assoc

pub for_in_kinds : (target : ForTarget) (object : Expr) (body : Stmt) → parts.stmt (s.ForIn target object body)
    ≡ (k.Word w.For ∷ (k.Mark m.OpenParenthesis ∷ parts.for_target target))
    ++ ((k.Word w.In ∷ (parts.expr object true ++ (k.Mark m.CloseParenthesis ∷ []))) ++ parts.stmt body)
for_in_kinds target object body =
    ap printed.stmt (for_in_view target object body)
    ∙ ap (λ t. k.Word w.For ∷ t) (in_header (parts.for_target target) (parts.expr object true) (parts.stmt body))

switch_view : (value : Expr) (cs : List Case) → view.stmt (s.Switch value cs) ≡ plain.Switch (view.expr value) (trees.cases cs)
switch_view value cs = ap view.stmt (sym (rolls-Switch value cs)) ∙ search (rules, fold-roll-Stmt)

pub switch_kinds : (value : Expr) (cs : List Case) → parts.stmt (s.Switch value cs)
    ≡ (k.Word w.Switch ∷ enclosed (parts.expr value true)) ++ (k.Mark m.OpenBrace ∷ (parts.cases cs ++ (k.Mark m.CloseBrace ∷ [])))
switch_kinds value cs = ap printed.stmt (switch_view value cs)

handler_kinds : (caught : Option (Name × Stmt)) → printed.handler (trees.handler caught) ≡ parts.handler caught
handler_kinds None = refl
handler_kinds (Some h) = refl

finally_kinds : (last : Option Stmt) → printed.finally_part (trees.maybe_stmt last) ≡ parts.maybe_behind w.Finally last
finally_kinds None = refl
finally_kinds (Some x) = refl

pub try_kinds : (block : Stmt) (caught : Option (Name × Stmt)) (last : Option Stmt) → parts.stmt (s.Try block caught last)
    ≡ (k.Word w.Try ∷ parts.stmt block) ++ (parts.handler caught ++ parts.maybe_behind w.Finally last)
try_kinds block caught last =
    ap printed.stmt (try_node block caught last)
    ∙ ap (λ t. k.Word w.Try ∷ (parts.stmt block ++ (t ++ printed.finally_part (trees.maybe_stmt last)))) (handler_kinds caught)
    ∙ ap (λ t. k.Word w.Try ∷ (parts.stmt block ++ (parts.handler caught ++ t))) (finally_kinds last)

-- ---- clauses and functions

case_view : (x : Case) → trees.case x ≡ record { test = trees.maybe_expr x.test; body = view.body x.body }
case_view x = search (rules, fold_out-Case)

pub case_kinds : (x : Case) → parts.case x ≡ parts.case_head x.test ++ (k.Mark m.Colon ∷ parts.stmts x.body)
case_kinds x = ap (λ (c : CasePart). printed.case_head c.test ++ (k.Mark m.Colon ∷ printed.stmts c.body)) (case_view x)

func_view : (f : Func) → view.func f ≡ plain.Code f.number f.name f.formals (view.body f.body) f.role
func_view f = search (rules, fold_out-Func)

pub func_kinds : (f : Func) → parts.func f
    ≡ k.Word w.Function ∷ (printed.maybe_name f.name ++ (enclosed (printed.names f.formals) ++ (k.Mark m.OpenBrace ∷ (parts.stmts f.body ++ (k.Mark m.CloseBrace ∷ [])))))
func_kinds f = ap printed.func (func_view f)

-- what `write_stmt` goes by
pub ruleset statement_parts = (all_written_append, do_kinds, while_kinds, for_in_kinds, switch_kinds)

-- The tokens of declared trees, by the parts that they are written in.
use Rattle.std.proofs.Common.{rules, ◌≡◌, suc, ◌||◌, Bool, true, List, [], ◌∷◌, ◌++◌, Option, ap, sym, ◌∙◌}
use Rattle.js_lexer.specs.declared.mark.Mark.TheVariants as m
use Rattle.js_lexer.specs.declared.token.TokenKind.TheVariants as k
use Rattle.js_lexer.specs.declared.word.Word.TheVariants as w
use Rattle.js_tree.specs.declared.tree.BinaryOp.{BinaryOp}
use Rattle.js_tree.specs.declared.tree.PostfixOp.{PostfixOp}
use Rattle.js_tree.specs.declared.tree.Expr.{Expr}
use Rattle.js_tree.specs.declared.tree.Expr.TheVariants as e
use Rattle.js_tree.specs.declared.tree.Expr.TheVariants.{rolls-Dot, rolls-Index, rolls-Call, rolls-New, rolls-Postfix, rolls-Binary, rolls-And, rolls-Or, rolls-Comma, rolls-Cond, rolls-Assign}
use Rattle.js_tree.specs.declared.tree.Expr.TheFolds.{fold-roll-Expr}
use Rattle.js_tree.specs.Levels.{operation_level}
use Rattle.js_tree.specs.Tree as plain
use Rattle.js_tree.specs.Tree.{Name}
use Rattle.js_tree.specs.Plain as view
use Rattle.js_tree.specs.Parts as trees
use Rattle.js_printer.specs.Signs.{operation_sign, postfix_sign, assignment}
use Rattle.js_printer.specs.Printed as printed
use Rattle.js_printer.specs.Parts as parts
use Rattle.js_printer.proofs.Writing.{all_written_append}

-- ---- expressions

dot_view : (x : Expr) (name : Name) → view.expr (e.Dot x name) ≡ plain.Dot (view.expr x) name
dot_view x name = ap view.expr (sym (rolls-Dot x name)) ∙ search (rules, fold-roll-Expr)

index_view : (x y : Expr) → view.expr (e.Index x y) ≡ plain.Index (view.expr x) (view.expr y)
index_view x y = ap view.expr (sym (rolls-Index x y)) ∙ search (rules, fold-roll-Expr)

call_view : (x : Expr) (es : List Expr) → view.expr (e.Call x es) ≡ plain.Call (view.expr x) (trees.exprs es)
call_view x es = ap view.expr (sym (rolls-Call x es)) ∙ search (rules, fold-roll-Expr)

new_view : (x : Expr) (es : List Expr) → view.expr (e.New x es) ≡ plain.New (view.expr x) (trees.exprs es)
new_view x es = ap view.expr (sym (rolls-New x es)) ∙ search (rules, fold-roll-Expr)

postfix_view : (x : Expr) (op : PostfixOp) → view.expr (e.Postfix x op) ≡ plain.Postfix (view.expr x) op
postfix_view x op = ap view.expr (sym (rolls-Postfix x op)) ∙ search (rules, fold-roll-Expr)

binary_view : (op : BinaryOp) (x y : Expr) → view.expr (e.Binary op x y) ≡ plain.Binary op (view.expr x) (view.expr y)
binary_view op x y = ap view.expr (sym (rolls-Binary op x y)) ∙ search (rules, fold-roll-Expr)

and_view : (x y : Expr) → view.expr (e.And x y) ≡ plain.And (view.expr x) (view.expr y)
and_view x y = ap view.expr (sym (rolls-And x y)) ∙ search (rules, fold-roll-Expr)

or_view : (x y : Expr) → view.expr (e.Or x y) ≡ plain.Or (view.expr x) (view.expr y)
or_view x y = ap view.expr (sym (rolls-Or x y)) ∙ search (rules, fold-roll-Expr)

comma_view : (x y : Expr) → view.expr (e.Comma x y) ≡ plain.Comma (view.expr x) (view.expr y)
comma_view x y = ap view.expr (sym (rolls-Comma x y)) ∙ search (rules, fold-roll-Expr)

cond_view : (x y z : Expr) → view.expr (e.Cond x y z) ≡ plain.Cond (view.expr x) (view.expr y) (view.expr z)
cond_view x y z = ap view.expr (sym (rolls-Cond x y z)) ∙ search (rules, fold-roll-Expr)

assign_view : (op : Option BinaryOp) (x y : Expr) → view.expr (e.Assign op x y) ≡ plain.Assign op (view.expr x) (view.expr y)
assign_view op x y = ap view.expr (sym (rolls-Assign op x y)) ∙ search (rules, fold-roll-Expr)

-- ---- their tokens

abbrev written : Bool → plain.Expr → printed.Kinds
written i tree = printed.expr tree i

pub dot_kinds : (x : Expr) (name : Name) (i : Bool) → parts.expr (e.Dot x name) i
    ≡ parts.operand_for (printed.is_number (view.expr x) || parts.is_function x) i 16 x ++ (k.Mark m.Dot ∷ (k.Name name ∷ []))
dot_kinds x name i = ap (written i) (dot_view x name)

pub index_kinds : (x y : Expr) (i : Bool) → parts.expr (e.Index x y) i
    ≡ parts.operand_for (parts.is_function x) i 16 x ++ (k.Mark m.OpenBracket ∷ (parts.operand true 1 y ++ (k.Mark m.CloseBracket ∷ [])))
index_kinds x y i = ap (written i) (index_view x y)

pub call_kinds : (x : Expr) (es : List Expr) (i : Bool) → parts.expr (e.Call x es) i
    ≡ parts.operand_for (parts.is_function x) i 16 x ++ printed.enclosed (parts.exprs es)
call_kinds x es i = ap (written i) (call_view x es)

pub new_kinds : (x : Expr) (es : List Expr) (i : Bool) → parts.expr (e.New x es) i
    ≡ (k.Word w.New ∷ parts.operand_for (parts.is_constructor x) i 16 x) ++ printed.enclosed (parts.exprs es)
new_kinds x es i = ap (written i) (new_view x es)

pub postfix_kinds : (x : Expr) (op : PostfixOp) (i : Bool) → parts.expr (e.Postfix x op) i
    ≡ parts.operand i 16 x ++ (postfix_sign op ∷ [])
postfix_kinds x op i = ap (written i) (postfix_view x op)

pub binary_kinds : (op : BinaryOp) (x y : Expr) (i : Bool) → parts.expr (e.Binary op x y) i
    ≡ parts.operand i (operation_level op) x ++ (operation_sign op ∷ parts.operand i (suc (operation_level op)) y)
binary_kinds op x y i = ap (written i) (binary_view op x y)

pub and_kinds : (x y : Expr) (i : Bool) → parts.expr (e.And x y) i
    ≡ parts.operand i 5 x ++ (k.Mark m.And ∷ parts.operand i 6 y)
and_kinds x y i = ap (written i) (and_view x y)

pub or_kinds : (x y : Expr) (i : Bool) → parts.expr (e.Or x y) i
    ≡ parts.operand i 4 x ++ (k.Mark m.Or ∷ parts.operand i 5 y)
or_kinds x y i = ap (written i) (or_view x y)

pub comma_kinds : (x y : Expr) (i : Bool) → parts.expr (e.Comma x y) i
    ≡ parts.operand i 1 x ++ (k.Mark m.Comma ∷ parts.operand i 2 y)
comma_kinds x y i = ap (written i) (comma_view x y)

pub cond_kinds : (x y z : Expr) (i : Bool) → parts.expr (e.Cond x y z) i
    ≡ parts.operand i 4 x ++ ((k.Mark m.Question ∷ parts.operand i 2 y) ++ (k.Mark m.Colon ∷ parts.operand i 2 z))
cond_kinds x y z i = ap (written i) (cond_view x y z)

pub assign_kinds : (op : Option BinaryOp) (x y : Expr) (i : Bool) → parts.expr (e.Assign op x y) i
    ≡ parts.operand i 16 x ++ (k.Mark (printed.assignment_mark (assignment op)) ∷ parts.operand i 2 y)
assign_kinds op x y i = ap (written i) (assign_view op x y)

-- what `write_expr` goes by
pub ruleset expression_parts = (all_written_append, index_kinds, call_kinds, new_kinds, postfix_kinds, binary_kinds, and_kinds, or_kinds, comma_kinds, cond_kinds, assign_kinds)

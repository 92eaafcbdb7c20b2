-- The tokens of declared trees and of their parts: those of the plain trees.
use Rattle.std.specs.Prelude.{ℕ, ◌||◌, Bool, true, false, List, [], ◌∷◌, ◌++◌}
use Rattle.std.specs.Prelude.{Option, None, Some}
use Rattle.js_lexer.specs.declared.mark.Mark.TheVariants as m
use Rattle.js_lexer.specs.declared.word.Word.{Word}
use Rattle.js_lexer.specs.declared.token.TokenKind.TheVariants as k
use Rattle.js_tree.specs.declared.tree.Expr.{Expr}
use Rattle.js_tree.specs.declared.tree.Stmt.{Stmt}
use Rattle.js_tree.specs.declared.tree.Func.{Func}
use Rattle.js_tree.specs.declared.tree.Pair.{Pair}
use Rattle.js_tree.specs.declared.tree.Case.{Case}
use Rattle.js_tree.specs.declared.tree.VarItem.{VarItem}
use Rattle.js_tree.specs.declared.tree.ForInit.{ForInit}
use Rattle.js_tree.specs.declared.tree.ForTarget.{ForTarget}
use Rattle.js_tree.specs.Tree as plain
use Rattle.js_tree.specs.Plain as view
use Rattle.js_tree.specs.Plain.{PairPart, VarPart}
use Rattle.js_tree.specs.Parts as trees
use Rattle.js_printer.specs.Printed as printed
use Rattle.js_printer.specs.Printed.{Kinds}

-- ---- commas

-- the comma that stands before an item, where one is before it
abbrev pub comma : Bool → Kinds
comma true = k.Mark m.Comma ∷ []
comma false = []

-- the items that are left, where one is before them or none
abbrev pub exprs_left : Bool → plain.Exprs → Kinds
exprs_left true = printed.other_exprs
exprs_left false = printed.exprs

-- a hole has its comma itself, so what is before these items is no hole
abbrev pub elements_left : Bool → plain.Elements → Kinds
elements_left true = printed.other_elements (plain.AnExpr plain.Null)
elements_left false = printed.elements

abbrev pub pairs_left : Bool → plain.Pairs → Kinds
pairs_left true = printed.other_pairs
pairs_left false = printed.pairs

-- names behind another
abbrev pub names_behind : List plain.Name → Kinds
names_behind [] = []
names_behind (n ∷ ns) = k.Mark m.Comma ∷ (k.Name n ∷ names_behind ns)

abbrev pub names_left : Bool → List plain.Name → Kinds
names_left true = names_behind
names_left false = printed.names

abbrev pub var_items_left : Bool → plain.VarItems → Bool → Kinds
var_items_left true = printed.other_var_items
var_items_left false = printed.var_items

-- ---- trees

abbrev pub expr : Expr → Bool → Kinds
expr e with_in = printed.expr (view.expr e) with_in

abbrev pub operand : Bool → ℕ → Expr → Kinds
operand with_in least e = printed.operand with_in least (view.expr e) (expr e)

abbrev pub operand_for : Bool → Bool → ℕ → Expr → Kinds
operand_for reason with_in least e =
    printed.operand_for reason with_in least (view.expr e) (expr e)

abbrev pub is_function : Expr → Bool
is_function e = printed.is_function (view.expr e)

-- what `new` would not take as a whole without parentheses
abbrev pub is_constructor : Expr → Bool
is_constructor e = printed.is_function (view.expr e) || printed.has_call (view.expr e)

abbrev pub exprs : List Expr → Kinds
exprs es = printed.exprs (trees.exprs es)

abbrev pub maybe_expr : Option Expr → Kinds
maybe_expr e = printed.maybe_expr (trees.maybe_expr e)

abbrev pub elements : List (Option Expr) → Kinds
elements es = printed.elements (trees.elements es)

abbrev pub pair_part : PairPart → Kinds
pair_part p =
    printed.key_kind p.key
    ∷ (k.Mark m.Colon ∷ printed.operand true 2 p.value (printed.expr p.value))

abbrev pub pair : Pair → Kinds
pair p = pair_part (trees.pair p)

abbrev pub pairs : List Pair → Kinds
pairs ps = printed.pairs (trees.pairs ps)

abbrev pub initialiser : Option Expr → Bool → Kinds
initialiser e with_in = printed.initialiser (trees.maybe_expr e) with_in

abbrev pub var_part : VarPart → Bool → Kinds
var_part v with_in = k.Name v.name ∷ printed.initialiser v.value with_in

abbrev pub var_item : VarItem → Bool → Kinds
var_item v with_in = var_part (trees.var_item v) with_in

abbrev pub var_items : List VarItem → Bool → Kinds
var_items items with_in = printed.var_items (trees.var_items items) with_in

abbrev pub func : Func → Kinds
func f = printed.func (view.func f)

abbrev pub stmt : Stmt → Kinds
stmt s = printed.stmt (view.stmt s)

abbrev pub stmts : List Stmt → Kinds
stmts ss = printed.stmts (view.body ss)

-- a word and a statement behind it, where there is one
abbrev pub maybe_behind : Word → Option Stmt → Kinds
maybe_behind word None = []
maybe_behind word (Some s) = k.Word word ∷ stmt s

abbrev pub handler : Option (plain.Name × Stmt) → Kinds
handler None = []
handler (Some caught) = printed.handler (plain.ACatch caught.0 (view.stmt caught.1))

abbrev pub for_init : ForInit → Kinds
for_init first = printed.for_init (trees.for_init first)

abbrev pub for_target : ForTarget → Kinds
for_target target = printed.for_target (trees.for_target target)

abbrev pub case_head : Option Expr → Kinds
case_head test = printed.case_head (trees.maybe_expr test)

abbrev pub case : Case → Kinds
case c =
    printed.case_head (trees.case c).test
    ++ (k.Mark m.Colon ∷ printed.stmts (trees.case c).body)

abbrev pub cases : List Case → Kinds
cases cs = printed.cases (trees.cases cs)

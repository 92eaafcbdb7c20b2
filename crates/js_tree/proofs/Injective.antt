-- Trees in memory are equal where their plain trees are: each is rebuilt from its plain tree.
use Rattle.std.proofs.Common.{rules, ◌≡◌, ℕ, List, [], ◌∷◌, Option, Some, None, map, refl, ap, sym, subst, ◌∙◌}
use Rattle.std.specs.Option.{option_map}
use Rattle.js_tree.specs.declared.tree.Expr.{Expr}
use Rattle.js_tree.specs.declared.tree.Stmt.{Stmt}
use Rattle.js_tree.specs.declared.tree.Func.{Func}
use Rattle.js_tree.specs.declared.tree.Role.{Role}
use Rattle.js_tree.specs.declared.tree.Pair.{Pair}
use Rattle.js_tree.specs.declared.tree.Case.{Case}
use Rattle.js_tree.specs.declared.tree.VarItem.{VarItem}
use Rattle.js_tree.specs.declared.tree.ForInit.{ForInit}
use Rattle.js_tree.specs.declared.tree.ForTarget.{ForTarget}
use Rattle.js_tree.specs.declared.tree.Expr.TheVariants as e
use Rattle.js_tree.specs.declared.tree.Stmt.TheVariants as s
use Rattle.js_tree.specs.declared.tree.ForInit.TheVariants as i
use Rattle.js_tree.specs.declared.tree.ForTarget.TheVariants as t
use Rattle.js_tree.specs.declared.tree.Expr.TheViews.{roll-Expr, roll-Stmt, roll-Func, roll-Pair, roll-Case, roll-VarItem, roll-ForInit, roll-ForTarget}
use Rattle.js_tree.specs.declared.tree.Expr.TheOpen.{Expr-F, ForInit-F, ForTarget-F, Stmt-F, Case-F, Func-F, Pair-F, VarItem-F}
use Rattle.js_tree.specs.declared.tree.Expr.TheFolds.{ind-Expr, ind-Stmt, fold-roll-Expr, fold-roll-Stmt, fold-roll-Func, fold-roll-Pair, fold-roll-Case, fold-roll-VarItem, fold-roll-ForInit, fold-roll-ForTarget, map-Expr, map-Stmt, map-Func, map-Pair, map-Case, map-VarItem, map-ForInit, map-ForTarget}
use Rattle.js_tree.specs.Tree as plain
use Rattle.js_tree.specs.Plain as view
use Rattle.js_tree.specs.Plain.{CasePart, PairPart, VarPart}
use Rattle.js_tree.specs.Parts as parts

-- ---- the declared tree of a plain one

abbrev mutual
  rebuilt_expr : plain.Expr → Expr
  rebuilt_expr (plain.Num n) = e.Num n
  rebuilt_expr (plain.Str text) = e.Str text
  rebuilt_expr (plain.Truth b) = e.Bool b
  rebuilt_expr plain.Null = e.Null
  rebuilt_expr plain.This = e.This
  rebuilt_expr (plain.Ident name) = e.Name name
  rebuilt_expr (plain.Array es) = e.Array (rebuilt_elements es)
  rebuilt_expr (plain.Object ps) = e.Object (rebuilt_pairs ps)
  rebuilt_expr (plain.Function f) = e.Func (rebuilt_func f)
  rebuilt_expr (plain.Dot object name) = e.Dot (rebuilt_expr object) name
  rebuilt_expr (plain.Index object key) = e.Index (rebuilt_expr object) (rebuilt_expr key)
  rebuilt_expr (plain.Call callee es) = e.Call (rebuilt_expr callee) (rebuilt_exprs es)
  rebuilt_expr (plain.New callee es) = e.New (rebuilt_expr callee) (rebuilt_exprs es)
  rebuilt_expr (plain.Postfix target op) = e.Postfix (rebuilt_expr target) op
  rebuilt_expr (plain.Prefix op operand) = e.Prefix op (rebuilt_expr operand)
  rebuilt_expr (plain.Binary op left right) = e.Binary op (rebuilt_expr left) (rebuilt_expr right)
  rebuilt_expr (plain.And left right) = e.And (rebuilt_expr left) (rebuilt_expr right)
  rebuilt_expr (plain.Or left right) = e.Or (rebuilt_expr left) (rebuilt_expr right)
  rebuilt_expr (plain.Comma left right) = e.Comma (rebuilt_expr left) (rebuilt_expr right)
  rebuilt_expr (plain.Cond test then other) = e.Cond (rebuilt_expr test) (rebuilt_expr then) (rebuilt_expr other)
  rebuilt_expr (plain.Assign op target value) = e.Assign op (rebuilt_expr target) (rebuilt_expr value)
  rebuilt_expr (plain.Late k) = e.Late k

  rebuilt_exprs : plain.Exprs → List Expr
  rebuilt_exprs plain.NoExprs = []
  rebuilt_exprs (plain.MoreExprs x es) = rebuilt_expr x ∷ rebuilt_exprs es

  rebuilt_maybe_expr : plain.MaybeExpr → Option Expr
  rebuilt_maybe_expr plain.NoExpr = None
  rebuilt_maybe_expr (plain.AnExpr x) = Some (rebuilt_expr x)

  rebuilt_elements : plain.Elements → List (Option Expr)
  rebuilt_elements plain.NoElements = []
  rebuilt_elements (plain.MoreElements x es) = rebuilt_maybe_expr x ∷ rebuilt_elements es

  rebuilt_pairs : plain.Pairs → List Pair
  rebuilt_pairs plain.NoPairs = []
  rebuilt_pairs (plain.MorePairs key value ps) = record { key = key; value = rebuilt_expr value } ∷ rebuilt_pairs ps

  rebuilt_stmt : plain.Stmt → Stmt
  rebuilt_stmt (plain.Block body) = s.Block (rebuilt_stmts body)
  rebuilt_stmt (plain.Variables items) = s.Var (rebuilt_var_items items)
  rebuilt_stmt plain.Empty = s.Empty
  rebuilt_stmt (plain.Do x) = s.Do (rebuilt_expr x)
  rebuilt_stmt (plain.If test then other) = s.If (rebuilt_expr test) (rebuilt_stmt then) (rebuilt_maybe_stmt other)
  rebuilt_stmt (plain.DoWhile body test) = s.DoWhile (rebuilt_stmt body) (rebuilt_expr test)
  rebuilt_stmt (plain.While test body) = s.While (rebuilt_expr test) (rebuilt_stmt body)
  rebuilt_stmt (plain.For first test next body) = s.For (rebuilt_for_init first) (rebuilt_maybe_expr test) (rebuilt_maybe_expr next) (rebuilt_stmt body)
  rebuilt_stmt (plain.ForIn target object body) = s.ForIn (rebuilt_for_target target) (rebuilt_expr object) (rebuilt_stmt body)
  rebuilt_stmt (plain.Continue label) = s.Continue label
  rebuilt_stmt (plain.Break label) = s.Break label
  rebuilt_stmt (plain.Return value) = s.Return (rebuilt_maybe_expr value)
  rebuilt_stmt (plain.Switch value cs) = s.Switch (rebuilt_expr value) (rebuilt_cases cs)
  rebuilt_stmt (plain.Label name body) = s.Label name (rebuilt_stmt body)
  rebuilt_stmt (plain.Throw x) = s.Throw (rebuilt_expr x)
  rebuilt_stmt (plain.Try block caught last) = s.Try (rebuilt_stmt block) (rebuilt_handler caught) (rebuilt_maybe_stmt last)
  rebuilt_stmt (plain.Declare f) = s.Declare (rebuilt_func f)
  rebuilt_stmt (plain.Used n) = s.Used n

  rebuilt_stmts : plain.Stmts → List Stmt
  rebuilt_stmts plain.NoStmts = []
  rebuilt_stmts (plain.MoreStmts x ss) = rebuilt_stmt x ∷ rebuilt_stmts ss

  rebuilt_maybe_stmt : plain.MaybeStmt → Option Stmt
  rebuilt_maybe_stmt plain.NoStmt = None
  rebuilt_maybe_stmt (plain.AStmt x) = Some (rebuilt_stmt x)

  rebuilt_handler : plain.Handler → Option (plain.Name × Stmt)
  rebuilt_handler plain.NoHandler = None
  rebuilt_handler (plain.ACatch name block) = Some (name, rebuilt_stmt block)

  rebuilt_for_init : plain.ForInit → ForInit
  rebuilt_for_init plain.Nothing = i.Nothing
  rebuilt_for_init (plain.Vars items) = i.Vars (rebuilt_var_items items)
  rebuilt_for_init (plain.First x) = i.First (rebuilt_expr x)

  rebuilt_for_target : plain.ForTarget → ForTarget
  rebuilt_for_target (plain.AVar name value) = t.Var (record { name = name; value = rebuilt_maybe_expr value })
  rebuilt_for_target (plain.Target x) = t.Target (rebuilt_expr x)

  rebuilt_var_items : plain.VarItems → List VarItem
  rebuilt_var_items plain.NoVarItems = []
  rebuilt_var_items (plain.MoreVarItems name value rest) = record { name = name; value = rebuilt_maybe_expr value } ∷ rebuilt_var_items rest

  rebuilt_cases : plain.Cases → List Case
  rebuilt_cases plain.NoCases = []
  rebuilt_cases (plain.MoreCases test body rest) = record { test = rebuilt_maybe_expr test; body = rebuilt_stmts body } ∷ rebuilt_cases rest

  rebuilt_func : plain.Func → Func
  rebuilt_func (plain.Code number name formals body role) = record { number = number; name = name; formals = formals; body = rebuilt_stmts body; role = role }

abbrev rebuilt_pair : PairPart → Pair
rebuilt_pair p = record { key = p.key; value = rebuilt_expr p.value }

abbrev rebuilt_var_item : VarPart → VarItem
rebuilt_var_item v = record { name = v.name; value = rebuilt_maybe_expr v.value }

abbrev rebuilt_case : CasePart → Case
rebuilt_case c = record { test = rebuilt_maybe_expr c.test; body = rebuilt_stmts c.body }

-- ---- a tree is rebuilt from its plain one

abbrev IsRebuiltExpr : Expr → Type 0
IsRebuiltExpr x = rebuilt_expr (view.expr x) ≡ x

abbrev IsRebuiltForInit : ForInit → Type 0
IsRebuiltForInit x = rebuilt_for_init (parts.for_init x) ≡ x

abbrev IsRebuiltForTarget : ForTarget → Type 0
IsRebuiltForTarget x = rebuilt_for_target (parts.for_target x) ≡ x

abbrev IsRebuiltStmt : Stmt → Type 0
IsRebuiltStmt x = rebuilt_stmt (view.stmt x) ≡ x

abbrev IsRebuiltCase : Case → Type 0
IsRebuiltCase x = rebuilt_case (parts.case x) ≡ x

abbrev IsRebuiltFunc : Func → Type 0
IsRebuiltFunc x = rebuilt_func (view.func x) ≡ x

abbrev IsRebuiltPair : Pair → Type 0
IsRebuiltPair x = rebuilt_pair (parts.pair x) ≡ x

abbrev IsRebuiltVarItem : VarItem → Type 0
IsRebuiltVarItem x = rebuilt_var_item (parts.var_item x) ≡ x

-- each with the proof that it does
abbrev RebuiltExpr : Type 0
RebuiltExpr = (x : Expr) × IsRebuiltExpr x

abbrev RebuiltForInit : Type 0
RebuiltForInit = (x : ForInit) × IsRebuiltForInit x

abbrev RebuiltForTarget : Type 0
RebuiltForTarget = (x : ForTarget) × IsRebuiltForTarget x

abbrev RebuiltStmt : Type 0
RebuiltStmt = (x : Stmt) × IsRebuiltStmt x

abbrev RebuiltCase : Type 0
RebuiltCase = (x : Case) × IsRebuiltCase x

abbrev RebuiltFunc : Type 0
RebuiltFunc = (x : Func) × IsRebuiltFunc x

abbrev RebuiltPair : Type 0
RebuiltPair = (x : Pair) × IsRebuiltPair x

abbrev RebuiltVarItem : Type 0
RebuiltVarItem = (x : VarItem) × IsRebuiltVarItem x

abbrev firsts_Expr : Expr-F RebuiltExpr RebuiltForInit RebuiltForTarget RebuiltStmt RebuiltCase RebuiltFunc RebuiltPair RebuiltVarItem → Expr-F Expr ForInit ForTarget Stmt Case Func Pair VarItem
firsts_Expr y = map-Expr RebuiltExpr RebuiltForInit RebuiltForTarget RebuiltStmt RebuiltCase RebuiltFunc RebuiltPair RebuiltVarItem Expr ForInit ForTarget Stmt Case Func Pair VarItem (λ p. p.0) (λ p. p.0) (λ p. p.0) (λ p. p.0) (λ p. p.0) (λ p. p.0) (λ p. p.0) (λ p. p.0) y

abbrev firsts_ForInit : ForInit-F RebuiltExpr RebuiltForInit RebuiltForTarget RebuiltStmt RebuiltCase RebuiltFunc RebuiltPair RebuiltVarItem → ForInit-F Expr ForInit ForTarget Stmt Case Func Pair VarItem
firsts_ForInit y = map-ForInit RebuiltExpr RebuiltForInit RebuiltForTarget RebuiltStmt RebuiltCase RebuiltFunc RebuiltPair RebuiltVarItem Expr ForInit ForTarget Stmt Case Func Pair VarItem (λ p. p.0) (λ p. p.0) (λ p. p.0) (λ p. p.0) (λ p. p.0) (λ p. p.0) (λ p. p.0) (λ p. p.0) y

abbrev firsts_ForTarget : ForTarget-F RebuiltExpr RebuiltForInit RebuiltForTarget RebuiltStmt RebuiltCase RebuiltFunc RebuiltPair RebuiltVarItem → ForTarget-F Expr ForInit ForTarget Stmt Case Func Pair VarItem
firsts_ForTarget y = map-ForTarget RebuiltExpr RebuiltForInit RebuiltForTarget RebuiltStmt RebuiltCase RebuiltFunc RebuiltPair RebuiltVarItem Expr ForInit ForTarget Stmt Case Func Pair VarItem (λ p. p.0) (λ p. p.0) (λ p. p.0) (λ p. p.0) (λ p. p.0) (λ p. p.0) (λ p. p.0) (λ p. p.0) y

abbrev firsts_Stmt : Stmt-F RebuiltExpr RebuiltForInit RebuiltForTarget RebuiltStmt RebuiltCase RebuiltFunc RebuiltPair RebuiltVarItem → Stmt-F Expr ForInit ForTarget Stmt Case Func Pair VarItem
firsts_Stmt y = map-Stmt RebuiltExpr RebuiltForInit RebuiltForTarget RebuiltStmt RebuiltCase RebuiltFunc RebuiltPair RebuiltVarItem Expr ForInit ForTarget Stmt Case Func Pair VarItem (λ p. p.0) (λ p. p.0) (λ p. p.0) (λ p. p.0) (λ p. p.0) (λ p. p.0) (λ p. p.0) (λ p. p.0) y

abbrev firsts_Case : Case-F RebuiltExpr RebuiltForInit RebuiltForTarget RebuiltStmt RebuiltCase RebuiltFunc RebuiltPair RebuiltVarItem → Case-F Expr ForInit ForTarget Stmt Case Func Pair VarItem
firsts_Case y = map-Case RebuiltExpr RebuiltForInit RebuiltForTarget RebuiltStmt RebuiltCase RebuiltFunc RebuiltPair RebuiltVarItem Expr ForInit ForTarget Stmt Case Func Pair VarItem (λ p. p.0) (λ p. p.0) (λ p. p.0) (λ p. p.0) (λ p. p.0) (λ p. p.0) (λ p. p.0) (λ p. p.0) y

abbrev firsts_Func : Func-F RebuiltExpr RebuiltForInit RebuiltForTarget RebuiltStmt RebuiltCase RebuiltFunc RebuiltPair RebuiltVarItem → Func-F Expr ForInit ForTarget Stmt Case Func Pair VarItem
firsts_Func y = map-Func RebuiltExpr RebuiltForInit RebuiltForTarget RebuiltStmt RebuiltCase RebuiltFunc RebuiltPair RebuiltVarItem Expr ForInit ForTarget Stmt Case Func Pair VarItem (λ p. p.0) (λ p. p.0) (λ p. p.0) (λ p. p.0) (λ p. p.0) (λ p. p.0) (λ p. p.0) (λ p. p.0) y

abbrev firsts_Pair : Pair-F RebuiltExpr RebuiltForInit RebuiltForTarget RebuiltStmt RebuiltCase RebuiltFunc RebuiltPair RebuiltVarItem → Pair-F Expr ForInit ForTarget Stmt Case Func Pair VarItem
firsts_Pair y = map-Pair RebuiltExpr RebuiltForInit RebuiltForTarget RebuiltStmt RebuiltCase RebuiltFunc RebuiltPair RebuiltVarItem Expr ForInit ForTarget Stmt Case Func Pair VarItem (λ p. p.0) (λ p. p.0) (λ p. p.0) (λ p. p.0) (λ p. p.0) (λ p. p.0) (λ p. p.0) (λ p. p.0) y

abbrev firsts_VarItem : VarItem-F RebuiltExpr RebuiltForInit RebuiltForTarget RebuiltStmt RebuiltCase RebuiltFunc RebuiltPair RebuiltVarItem → VarItem-F Expr ForInit ForTarget Stmt Case Func Pair VarItem
firsts_VarItem y = map-VarItem RebuiltExpr RebuiltForInit RebuiltForTarget RebuiltStmt RebuiltCase RebuiltFunc RebuiltPair RebuiltVarItem Expr ForInit ForTarget Stmt Case Func Pair VarItem (λ p. p.0) (λ p. p.0) (λ p. p.0) (λ p. p.0) (λ p. p.0) (λ p. p.0) (λ p. p.0) (λ p. p.0) y

ap2 : {A B C : Type 0} (f : A → B → C) {a a' : A} {b b' : B} → a ≡ a' → b ≡ b' → f a b ≡ f a' b'
ap2 f {a' = a'} {b = b} p q = ap (λ x. f x b) p ∙ ap (λ y. f a' y) q

ap3 : {A B C D : Type 0} (f : A → B → C → D) {a a' : A} {b b' : B} {c c' : C} → a ≡ a' → b ≡ b' → c ≡ c' → f a b c ≡ f a' b' c'
ap3 f {a' = a'} {b = b} {c = c} p q r = ap (λ x. f x b c) p ∙ ap2 (f a') q r

ap4 : {A B C D E : Type 0} (f : A → B → C → D → E) {a a' : A} {b b' : B} {c c' : C} {d d' : D} → a ≡ a' → b ≡ b' → c ≡ c' → d ≡ d' → f a b c d ≡ f a' b' c' d'
ap4 f {a' = a'} {b = b} {c = c} {d = d} p q r s = ap (λ x. f x b c d) p ∙ ap3 (f a') q r s

-- ---- lists

exprs_rebuilt : (ps : List RebuiltExpr) → rebuilt_exprs (parts.exprs (map (λ p. p.0) ps)) ≡ map (λ p. p.0) ps
exprs_rebuilt [] = refl
exprs_rebuilt (p ∷ ps) = ap2 (λ x xs. x ∷ xs) p.1 (exprs_rebuilt ps)

pairs_rebuilt : (ps : List RebuiltPair) → rebuilt_pairs (parts.pairs (map (λ p. p.0) ps)) ≡ map (λ p. p.0) ps
pairs_rebuilt [] = refl
pairs_rebuilt (p ∷ ps) = ap2 (λ x xs. x ∷ xs) p.1 (pairs_rebuilt ps)

stmts_rebuilt : (ps : List RebuiltStmt) → rebuilt_stmts (view.body (map (λ p. p.0) ps)) ≡ map (λ p. p.0) ps
stmts_rebuilt [] = refl
stmts_rebuilt (p ∷ ps) = ap2 (λ x xs. x ∷ xs) p.1 (stmts_rebuilt ps)

var_items_rebuilt : (ps : List RebuiltVarItem) → rebuilt_var_items (parts.var_items (map (λ p. p.0) ps)) ≡ map (λ p. p.0) ps
var_items_rebuilt [] = refl
var_items_rebuilt (p ∷ ps) = ap2 (λ x xs. x ∷ xs) p.1 (var_items_rebuilt ps)

cases_rebuilt : (ps : List RebuiltCase) → rebuilt_cases (parts.cases (map (λ p. p.0) ps)) ≡ map (λ p. p.0) ps
cases_rebuilt [] = refl
cases_rebuilt (p ∷ ps) = ap2 (λ x xs. x ∷ xs) p.1 (cases_rebuilt ps)

elements_rebuilt : (f : Option RebuiltExpr → Option Expr) (g : Option Expr → Option plain.Expr) (os : List (Option RebuiltExpr)) → f None ≡ None → ((p : RebuiltExpr) → f (Some p) ≡ Some p.0)
    → g None ≡ None → ((x : Expr) → g (Some x) ≡ Some (view.expr x)) → rebuilt_elements (view.elements (map g (map f os))) ≡ map f os
elements_rebuilt f g [] h k l m = refl
elements_rebuilt f g (None ∷ os) h k l m = rw h (rw l (ap (λ xs. None ∷ xs) (elements_rebuilt f g os h k l m)))
elements_rebuilt f g (Some p ∷ os) h k l m = rw (k p) (rw (m p.0) (ap2 (λ x xs. Some x ∷ xs) p.1 (elements_rebuilt f g os h k l m)))

-- ---- one level

expr_rebuilt : (y : Expr-F RebuiltExpr RebuiltForInit RebuiltForTarget RebuiltStmt RebuiltCase RebuiltFunc RebuiltPair RebuiltVarItem) → IsRebuiltExpr (roll-Expr (firsts_Expr y))
expr_rebuilt (Expr-F.Num a) = rw fold-roll-Expr (sym (e.rolls-Num a))
expr_rebuilt (Expr-F.Str a) = rw fold-roll-Expr (sym (e.rolls-Str a))
expr_rebuilt (Expr-F.Bool a) = rw fold-roll-Expr (sym (e.rolls-Bool a))
expr_rebuilt Expr-F.Null = rw fold-roll-Expr (sym e.rolls-Null)
expr_rebuilt Expr-F.This = rw fold-roll-Expr (sym e.rolls-This)
expr_rebuilt (Expr-F.Name a) = rw fold-roll-Expr (sym (e.rolls-Name a))
expr_rebuilt (Expr-F.Array a) = rw fold-roll-Expr (ap (λ x0. e.Array x0) (elements_rebuilt _ _ a refl (λ x. refl) refl (λ x. refl)) ∙ sym (e.rolls-Array _))
expr_rebuilt (Expr-F.Object a) = rw fold-roll-Expr (ap (λ x0. e.Object x0) (pairs_rebuilt a) ∙ sym (e.rolls-Object (map (λ p. p.0) a)))
expr_rebuilt (Expr-F.Func a) = rw fold-roll-Expr (ap (λ x0. e.Func x0) a.1 ∙ sym (e.rolls-Func a.0))
expr_rebuilt (Expr-F.Dot a b) = rw fold-roll-Expr (ap (λ x0. e.Dot x0 b) a.1 ∙ sym (e.rolls-Dot a.0 b))
expr_rebuilt (Expr-F.Index a b) = rw fold-roll-Expr (ap2 (λ x0 x1. e.Index x0 x1) a.1 b.1 ∙ sym (e.rolls-Index a.0 b.0))
expr_rebuilt (Expr-F.Call a b) = rw fold-roll-Expr (ap2 (λ x0 x1. e.Call x0 x1) a.1 (exprs_rebuilt b) ∙ sym (e.rolls-Call a.0 (map (λ p. p.0) b)))
expr_rebuilt (Expr-F.New a b) = rw fold-roll-Expr (ap2 (λ x0 x1. e.New x0 x1) a.1 (exprs_rebuilt b) ∙ sym (e.rolls-New a.0 (map (λ p. p.0) b)))
expr_rebuilt (Expr-F.Postfix a b) = rw fold-roll-Expr (ap (λ x0. e.Postfix x0 b) a.1 ∙ sym (e.rolls-Postfix a.0 b))
expr_rebuilt (Expr-F.Prefix a b) = rw fold-roll-Expr (ap (λ x0. e.Prefix a x0) b.1 ∙ sym (e.rolls-Prefix a b.0))
expr_rebuilt (Expr-F.Binary a b c) = rw fold-roll-Expr (ap2 (λ x0 x1. e.Binary a x0 x1) b.1 c.1 ∙ sym (e.rolls-Binary a b.0 c.0))
expr_rebuilt (Expr-F.And a b) = rw fold-roll-Expr (ap2 (λ x0 x1. e.And x0 x1) a.1 b.1 ∙ sym (e.rolls-And a.0 b.0))
expr_rebuilt (Expr-F.Or a b) = rw fold-roll-Expr (ap2 (λ x0 x1. e.Or x0 x1) a.1 b.1 ∙ sym (e.rolls-Or a.0 b.0))
expr_rebuilt (Expr-F.Comma a b) = rw fold-roll-Expr (ap2 (λ x0 x1. e.Comma x0 x1) a.1 b.1 ∙ sym (e.rolls-Comma a.0 b.0))
expr_rebuilt (Expr-F.Cond a b c) = rw fold-roll-Expr (ap3 (λ x0 x1 x2. e.Cond x0 x1 x2) a.1 b.1 c.1 ∙ sym (e.rolls-Cond a.0 b.0 c.0))
expr_rebuilt (Expr-F.Assign a b c) = rw fold-roll-Expr (ap2 (λ x0 x1. e.Assign a x0 x1) b.1 c.1 ∙ sym (e.rolls-Assign a b.0 c.0))
expr_rebuilt (Expr-F.Late a) = rw fold-roll-Expr (sym (e.rolls-Late a))

for_init_rebuilt : (y : ForInit-F RebuiltExpr RebuiltForInit RebuiltForTarget RebuiltStmt RebuiltCase RebuiltFunc RebuiltPair RebuiltVarItem) → IsRebuiltForInit (roll-ForInit (firsts_ForInit y))
for_init_rebuilt ForInit-F.Nothing = rw fold-roll-ForInit (sym i.rolls-Nothing)
for_init_rebuilt (ForInit-F.Vars a) = rw fold-roll-ForInit (ap (λ x0. i.Vars x0) (var_items_rebuilt a) ∙ sym (i.rolls-Vars (map (λ p. p.0) a)))
for_init_rebuilt (ForInit-F.First a) = rw fold-roll-ForInit (ap (λ x0. i.First x0) a.1 ∙ sym (i.rolls-First a.0))

for_target_rebuilt : (y : ForTarget-F RebuiltExpr RebuiltForInit RebuiltForTarget RebuiltStmt RebuiltCase RebuiltFunc RebuiltPair RebuiltVarItem) → IsRebuiltForTarget (roll-ForTarget (firsts_ForTarget y))
for_target_rebuilt (ForTarget-F.«ForTarget::Var» a) = rw fold-roll-ForTarget (ap (λ x0. t.Var x0) a.1 ∙ sym (t.rolls-Var a.0))
for_target_rebuilt (ForTarget-F.Target a) = rw fold-roll-ForTarget (ap (λ x0. t.Target x0) a.1 ∙ sym (t.rolls-Target a.0))

stmt_rebuilt : (y : Stmt-F RebuiltExpr RebuiltForInit RebuiltForTarget RebuiltStmt RebuiltCase RebuiltFunc RebuiltPair RebuiltVarItem) → IsRebuiltStmt (roll-Stmt (firsts_Stmt y))
stmt_rebuilt (Stmt-F.Block a) = rw fold-roll-Stmt (ap (λ x0. s.Block x0) (stmts_rebuilt a) ∙ sym (s.rolls-Block (map (λ p. p.0) a)))
stmt_rebuilt (Stmt-F.«Stmt::Var» a) = rw fold-roll-Stmt (ap (λ x0. s.Var x0) (var_items_rebuilt a) ∙ sym (s.rolls-Var (map (λ p. p.0) a)))
stmt_rebuilt Stmt-F.Empty = rw fold-roll-Stmt (sym s.rolls-Empty)
stmt_rebuilt (Stmt-F.Do a) = rw fold-roll-Stmt (ap (λ x0. s.Do x0) a.1 ∙ sym (s.rolls-Do a.0))
stmt_rebuilt (Stmt-F.If a b None) = rw fold-roll-Stmt (ap2 (λ x0 x1. s.If x0 x1 None) a.1 b.1 ∙ sym (s.rolls-If a.0 b.0 None))
stmt_rebuilt (Stmt-F.If a b (Some c)) = rw fold-roll-Stmt (ap3 (λ x0 x1 x2. s.If x0 x1 (Some x2)) a.1 b.1 c.1 ∙ sym (s.rolls-If a.0 b.0 (Some c.0)))
stmt_rebuilt (Stmt-F.DoWhile a b) = rw fold-roll-Stmt (ap2 (λ x0 x1. s.DoWhile x0 x1) a.1 b.1 ∙ sym (s.rolls-DoWhile a.0 b.0))
stmt_rebuilt (Stmt-F.While a b) = rw fold-roll-Stmt (ap2 (λ x0 x1. s.While x0 x1) a.1 b.1 ∙ sym (s.rolls-While a.0 b.0))
stmt_rebuilt (Stmt-F.For a None None d) = rw fold-roll-Stmt (ap2 (λ x0 x1. s.For x0 None None x1) a.1 d.1 ∙ sym (s.rolls-For a.0 None None d.0))
stmt_rebuilt (Stmt-F.For a None (Some c) d) = rw fold-roll-Stmt (ap3 (λ x0 x1 x2. s.For x0 None (Some x1) x2) a.1 c.1 d.1 ∙ sym (s.rolls-For a.0 None (Some c.0) d.0))
stmt_rebuilt (Stmt-F.For a (Some b) None d) = rw fold-roll-Stmt (ap3 (λ x0 x1 x2. s.For x0 (Some x1) None x2) a.1 b.1 d.1 ∙ sym (s.rolls-For a.0 (Some b.0) None d.0))
stmt_rebuilt (Stmt-F.For a (Some b) (Some c) d) = rw fold-roll-Stmt (ap4 (λ x0 x1 x2 x3. s.For x0 (Some x1) (Some x2) x3) a.1 b.1 c.1 d.1 ∙ sym (s.rolls-For a.0 (Some b.0) (Some c.0) d.0))
stmt_rebuilt (Stmt-F.ForIn a b c) = rw fold-roll-Stmt (ap3 (λ x0 x1 x2. s.ForIn x0 x1 x2) a.1 b.1 c.1 ∙ sym (s.rolls-ForIn a.0 b.0 c.0))
stmt_rebuilt (Stmt-F.Continue a) = rw fold-roll-Stmt (sym (s.rolls-Continue a))
stmt_rebuilt (Stmt-F.Break a) = rw fold-roll-Stmt (sym (s.rolls-Break a))
stmt_rebuilt (Stmt-F.Return None) = rw fold-roll-Stmt (sym (s.rolls-Return None))
stmt_rebuilt (Stmt-F.Return (Some a)) = rw fold-roll-Stmt (ap (λ x0. s.Return (Some x0)) a.1 ∙ sym (s.rolls-Return (Some a.0)))
stmt_rebuilt (Stmt-F.Switch a b) = rw fold-roll-Stmt (ap2 (λ x0 x1. s.Switch x0 x1) a.1 (cases_rebuilt b) ∙ sym (s.rolls-Switch a.0 (map (λ p. p.0) b)))
stmt_rebuilt (Stmt-F.Label a b) = rw fold-roll-Stmt (ap (λ x0. s.Label a x0) b.1 ∙ sym (s.rolls-Label a b.0))
stmt_rebuilt (Stmt-F.Throw a) = rw fold-roll-Stmt (ap (λ x0. s.Throw x0) a.1 ∙ sym (s.rolls-Throw a.0))
stmt_rebuilt (Stmt-F.Try a None None) = rw fold-roll-Stmt (ap (λ x0. s.Try x0 None None) a.1 ∙ sym (s.rolls-Try a.0 None None))
stmt_rebuilt (Stmt-F.Try a None (Some c)) = rw fold-roll-Stmt (ap2 (λ x0 x1. s.Try x0 None (Some x1)) a.1 c.1 ∙ sym (s.rolls-Try a.0 None (Some c.0)))
stmt_rebuilt (Stmt-F.Try a (Some b) None) = rw fold-roll-Stmt (ap2 (λ x0 x1. s.Try x0 (Some (b.0, x1)) None) a.1 b.1.1 ∙ sym (s.rolls-Try a.0 (Some (b.0, b.1.0)) None))
stmt_rebuilt (Stmt-F.Try a (Some b) (Some c)) = rw fold-roll-Stmt (ap3 (λ x0 x1 x2. s.Try x0 (Some (b.0, x1)) (Some x2)) a.1 b.1.1 c.1 ∙ sym (s.rolls-Try a.0 (Some (b.0, b.1.0)) (Some c.0)))
stmt_rebuilt (Stmt-F.Declare a) = rw fold-roll-Stmt (ap (λ x0. s.Declare x0) a.1 ∙ sym (s.rolls-Declare a.0))
stmt_rebuilt (Stmt-F.Used a) = rw fold-roll-Stmt (sym (s.rolls-Used a))

-- structs are their levels
abbrev with_value : plain.Name → Expr → Pair
with_value key value = record { key = key; value = value }

abbrev with_init : plain.Name → Option Expr → VarItem
with_init name value = record { name = name; value = value }

abbrev with_test : Option Expr → List Stmt → Case
with_test test body = record { test = test; body = body }

abbrev with_body : ℕ → Option plain.Name → List plain.Name → Role → List Stmt → Func
with_body number name formals role body = record { number = number; name = name; formals = formals; body = body; role = role }

pair_rebuilt : (y : Pair-F RebuiltExpr RebuiltForInit RebuiltForTarget RebuiltStmt RebuiltCase RebuiltFunc RebuiltPair RebuiltVarItem) → IsRebuiltPair (roll-Pair (firsts_Pair y))
pair_rebuilt y = rw fold-roll-Pair (ap (with_value y.key) y.value.1)

init_rebuilt : (name : plain.Name) (value : Option RebuiltExpr) → IsRebuiltVarItem (roll-VarItem (firsts_VarItem (record { name = name; value = value })))
init_rebuilt name None = rw fold-roll-VarItem refl
init_rebuilt name (Some p) = rw fold-roll-VarItem (ap (λ x. with_init name (Some x)) p.1)

var_item_rebuilt : (y : VarItem-F RebuiltExpr RebuiltForInit RebuiltForTarget RebuiltStmt RebuiltCase RebuiltFunc RebuiltPair RebuiltVarItem) → IsRebuiltVarItem (roll-VarItem (firsts_VarItem y))
var_item_rebuilt y = init_rebuilt y.name y.value

clause_rebuilt : (test : Option RebuiltExpr) (body : List RebuiltStmt) → IsRebuiltCase (roll-Case (firsts_Case (record { test = test; body = body })))
clause_rebuilt None body = rw fold-roll-Case (ap (with_test None) (stmts_rebuilt body))
clause_rebuilt (Some p) body = rw fold-roll-Case (ap2 (λ x xs. with_test (Some x) xs) p.1 (stmts_rebuilt body))

case_rebuilt : (y : Case-F RebuiltExpr RebuiltForInit RebuiltForTarget RebuiltStmt RebuiltCase RebuiltFunc RebuiltPair RebuiltVarItem) → IsRebuiltCase (roll-Case (firsts_Case y))
case_rebuilt y = clause_rebuilt y.test y.body

func_rebuilt : (y : Func-F RebuiltExpr RebuiltForInit RebuiltForTarget RebuiltStmt RebuiltCase RebuiltFunc RebuiltPair RebuiltVarItem) → IsRebuiltFunc (roll-Func (firsts_Func y))
func_rebuilt y = rw fold-roll-Func (ap (with_body y.number y.name y.formals y.role) (stmts_rebuilt y.body))

-- ---- whole trees

stmt_is_rebuilt : (x : Stmt) → IsRebuiltStmt x
stmt_is_rebuilt = ind-Stmt IsRebuiltExpr IsRebuiltForInit IsRebuiltForTarget IsRebuiltStmt IsRebuiltCase IsRebuiltFunc IsRebuiltPair IsRebuiltVarItem
    (λ x y is. subst (λ z. IsRebuiltExpr (roll-Expr z)) is (expr_rebuilt y)) (λ x y is. subst (λ z. IsRebuiltForInit (roll-ForInit z)) is (for_init_rebuilt y)) (λ x y is. subst (λ z. IsRebuiltForTarget (roll-ForTarget z)) is (for_target_rebuilt y)) (λ x y is. subst (λ z. IsRebuiltStmt (roll-Stmt z)) is (stmt_rebuilt y)) (λ x y is. subst (λ z. IsRebuiltCase (roll-Case z)) is (case_rebuilt y)) (λ x y is. subst (λ z. IsRebuiltFunc (roll-Func z)) is (func_rebuilt y)) (λ x y is. subst (λ z. IsRebuiltPair (roll-Pair z)) is (pair_rebuilt y)) (λ x y is. subst (λ z. IsRebuiltVarItem (roll-VarItem z)) is (var_item_rebuilt y))

stmts_are_rebuilt : (ss : List Stmt) → rebuilt_stmts (view.body ss) ≡ ss
stmts_are_rebuilt [] = refl
stmts_are_rebuilt (x ∷ ss) = ap2 (λ y ys. y ∷ ys) (stmt_is_rebuilt x) (stmts_are_rebuilt ss)

-- equal plain trees are those of equal trees
pub equal_trees : (ss others : List Stmt) → view.body ss ≡ view.body others → ss ≡ others
equal_trees ss others h = sym (stmts_are_rebuilt ss) ∙ ap rebuilt_stmts h ∙ stmts_are_rebuilt others

-- The written trees are the original ones, where some functions' bodies are stubs of their entries: one constructor for each kind of node.
use Rattle.std.specs.Prelude.{◌≡◌, ℕ, List, Option, Some}
use Rattle.js_tree.specs.Tree.{Name, Expr, Str, This, Ident, Dot, Call, Exprs, NoExprs, MoreExprs, NoExpr, AnExpr, Stmt, Do, Return, Declare, Stmts, NoStmts, MoreStmts, Func, Code}
use Rattle.js_tree.specs.declared.tree.Role.TheVariants.{Plain, Stub, Late}
use Rattle.first_grammar.specs.First.{stub_tree}
use Rattle.play.specs.Program.{Node, Expression, Statement, ScriptCode}

mutual
  pub data OfExpr (entries : ℕ → Option Func) : Expr → Expr → Type 0 where
    str : {units : Name} → OfExpr entries (Str units) (Str units)
    this : OfExpr entries This This
    ident : {x : Name} → OfExpr entries (Ident x) (Ident x)
    dot : {e e' : Expr} {x : Name} → OfExpr entries e e' → OfExpr entries (Dot e x) (Dot e' x)
    call_name : {x : Name} {es es' : Exprs} → OfExprs entries es es' → OfExpr entries (Call (Ident x) es) (Call (Ident x) es')
    call_dot : {e e' : Expr} {x : Name} {es es' : Exprs} → OfExpr entries e e' → OfExprs entries es es' → OfExpr entries (Call (Dot e x) es) (Call (Dot e' x) es')

  pub data OfExprs (entries : ℕ → Option Func) : Exprs → Exprs → Type 0 where
    no_exprs : OfExprs entries NoExprs NoExprs
    more_exprs : {e e' : Expr} {es es' : Exprs} → OfExpr entries e e' → OfExprs entries es es' → OfExprs entries (MoreExprs e es) (MoreExprs e' es')

  pub data OfStmt (entries : ℕ → Option Func) : Stmt → Stmt → Type 0 where
    do_expr : {e e' : Expr} → OfExpr entries e e' → OfStmt entries (Do e) (Do e')
    return_none : OfStmt entries (Return NoExpr) (Return NoExpr)
    return_value : {e e' : Expr} → OfExpr entries e e' → OfStmt entries (Return (AnExpr e)) (Return (AnExpr e'))

  pub data OfStmts (entries : ℕ → Option Func) : Stmts → Stmts → Type 0 where
    no_stmts : OfStmts entries NoStmts NoStmts
    more_stmts : {s s' : Stmt} {ss ss' : Stmts} → OfStmt entries s s' → OfStmts entries ss ss' → OfStmts entries (MoreStmts s ss) (MoreStmts s' ss')
    -- a declaration is no statement that runs
    more_declared : {f f' : Func} {ss ss' : Stmts} → OfFunc entries f f' → OfStmts entries ss ss' → OfStmts entries (MoreStmts (Declare f) ss) (MoreStmts (Declare f') ss')

  -- a function kept, or a stub of the entry of its number
  pub data OfFunc (entries : ℕ → Option Func) : Func → Func → Type 0 where
    plain : {i : ℕ} {name : Option Name} {formals : List Name} {b b' : Stmts} → OfStmts entries b b' → OfFunc entries (Code i name formals b Plain) (Code i name formals b' Plain)
    stub : {j k : ℕ} {name other : Option Name} {formals others : List Name} {b b' : Stmts} → entries k ≡ Some (Code j other others b' Late) → OfStmts entries b b'
        → OfFunc entries (Code k name formals b Plain) (Code k name formals (stub_tree k) Stub)

pub data OfNode (entries : ℕ → Option Func) : Node → Node → Type 0 where
  an_expr : {e e' : Expr} → OfExpr entries e e' → OfNode entries (Expression e) (Expression e')
  a_stmt : {s s' : Stmt} → OfStmt entries s s' → OfNode entries (Statement s) (Statement s')
  a_script : {ss ss' : Stmts} → OfStmts entries ss ss' → OfNode entries (ScriptCode ss) (ScriptCode ss')

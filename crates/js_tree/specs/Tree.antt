-- Plain trees, on which every definition stands: the types of scripts without their places in
-- memory.
-- A name or a text is a list of UTF-16 units.
use Rattle.std.specs.Prelude.{ℕ, List, Option, Bool}
use Rattle.js_tree.specs.declared.tree.PostfixOp.{PostfixOp}
use Rattle.js_tree.specs.declared.tree.PrefixOp.{PrefixOp}
use Rattle.js_tree.specs.declared.tree.BinaryOp.{BinaryOp}
use Rattle.js_tree.specs.declared.tree.Role.{Role}

abbrev pub Name : Type 0
Name = List ℕ

mutual
  -- expressions, ES3 section 11
  pub data Expr : Type 0 where
    Num : (n : ℕ) → Expr
    Str : (text : Name) → Expr
    Truth : (b : Bool) → Expr
    Null : Expr
    This : Expr
    Ident : (name : Name) → Expr
    Array : (elements : Elements) → Expr
    Object : (pairs : Pairs) → Expr
    Function : (f : Func) → Expr
    Dot : (object : Expr) → (name : Name) → Expr
    Index : (object : Expr) → (key : Expr) → Expr
    Call : (callee : Expr) → (arguments : Exprs) → Expr
    New : (callee : Expr) → (arguments : Exprs) → Expr
    Postfix : (target : Expr) → (op : PostfixOp) → Expr
    Prefix : (op : PrefixOp) → (operand : Expr) → Expr
    Binary : (op : BinaryOp) → (left : Expr) → (right : Expr) → Expr
    And : (left : Expr) → (right : Expr) → Expr
    Or : (left : Expr) → (right : Expr) → Expr
    Comma : (left : Expr) → (right : Expr) → Expr
    Cond : (test : Expr) → (then : Expr) → (other : Expr) → Expr
    -- an operator of none is `=`
    Assign : (op : Option BinaryOp) → (target : Expr) → (value : Expr) → Expr
    -- `eval($dl_get(k))`: a new function of entry k
    Late : (k : ℕ) → Expr

  pub data Exprs : Type 0 where
    NoExprs : Exprs
    MoreExprs : (e : Expr) → (rest : Exprs) → Exprs

  -- an expression, where there may be none
  pub data MaybeExpr : Type 0 where
    NoExpr : MaybeExpr
    AnExpr : (e : Expr) → MaybeExpr

  -- the elements of an array literal, where none is a hole
  pub data Elements : Type 0 where
    NoElements : Elements
    MoreElements : (element : MaybeExpr) → (rest : Elements) → Elements

  pub data Pairs : Type 0 where
    NoPairs : Pairs
    MorePairs : (key : Name) → (value : Expr) → (rest : Pairs) → Pairs

  -- statements, ES3 section 12, and declarations
  pub data Stmt : Type 0 where
    Block : (body : Stmts) → Stmt
    Variables : (items : VarItems) → Stmt
    Empty : Stmt
    Do : (e : Expr) → Stmt
    If : (test : Expr) → (then : Stmt) → (other : MaybeStmt) → Stmt
    DoWhile : (body : Stmt) → (test : Expr) → Stmt
    While : (test : Expr) → (body : Stmt) → Stmt
    For : (first : ForInit) → (test : MaybeExpr) → (next : MaybeExpr) → (body : Stmt) → Stmt
    ForIn : (target : ForTarget) → (object : Expr) → (body : Stmt) → Stmt
    Continue : (label : Option Name) → Stmt
    Break : (label : Option Name) → Stmt
    Return : (value : MaybeExpr) → Stmt
    Switch : (value : Expr) → (cases : Cases) → Stmt
    Label : (name : Name) → (body : Stmt) → Stmt
    Throw : (e : Expr) → Stmt
    Try : (block : Stmt) → (handler : Handler) → (last : MaybeStmt) → Stmt
    Declare : (f : Func) → Stmt
    Used : (n : ℕ) → Stmt

  pub data Stmts : Type 0 where
    NoStmts : Stmts
    MoreStmts : (s : Stmt) → (rest : Stmts) → Stmts

  pub data MaybeStmt : Type 0 where
    NoStmt : MaybeStmt
    AStmt : (s : Stmt) → MaybeStmt

  -- a `catch` with its name, where there may be none
  pub data Handler : Type 0 where
    NoHandler : Handler
    ACatch : (name : Name) → (block : Stmt) → Handler

  pub data ForInit : Type 0 where
    Nothing : ForInit
    Vars : (items : VarItems) → ForInit
    First : (e : Expr) → ForInit

  pub data ForTarget : Type 0 where
    AVar : (name : Name) → (value : MaybeExpr) → ForTarget
    Target : (e : Expr) → ForTarget

  pub data VarItems : Type 0 where
    NoVarItems : VarItems
    MoreVarItems : (name : Name) → (value : MaybeExpr) → (rest : VarItems) → VarItems

  -- the clauses of a `switch`, where a test of none is `default`
  pub data Cases : Type 0 where
    NoCases : Cases
    MoreCases : (test : MaybeExpr) → (body : Stmts) → (rest : Cases) → Cases

  -- a function, ES3 section 13
  pub data Func : Type 0 where
    Code : (number : ℕ) → (name : Option Name) → (formals : List Name) → (body : Stmts)
        → (role : Role) → Func

-- a script's statements and declarations, ES3 section 14
abbrev pub Script : Type 0
Script = Stmts

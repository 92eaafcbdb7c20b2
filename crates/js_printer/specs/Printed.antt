-- What a tree is written as: its tokens, by cases on the tree, with the least parentheses.
use Rattle.std.specs.Prelude.{ℕ, suc, ◌||◌, ◌&&◌, nat_lt, not, Bool, true, false, List, [], ◌∷◌}
use Rattle.std.specs.Prelude.{◌++◌, codes, Option, Some, None, if◌then◌else◌}
use Rattle.std.specs.List.{list_all}
use Rattle.js_lexer.specs.Names.{is_name}
use Rattle.js_lexer.specs.declared.mark.Mark.{Mark}
use Rattle.js_lexer.specs.declared.mark.Mark.TheVariants as m
use Rattle.js_lexer.specs.declared.word.Word.TheVariants as w
use Rattle.js_lexer.specs.declared.token.TokenKind.{TokenKind}
use Rattle.js_lexer.specs.declared.token.TokenKind.TheVariants as k
use Rattle.js_tree.specs.Tree.{Name, Expr, MaybeExpr, Stmt, Func}
use Rattle.js_tree.specs.Tree
use Rattle.js_tree.specs.Levels.{level, LogicalOr, LogicalAnd, Operation, is_in_operation, changes}
use Rattle.js_printer.specs.Signs.{sign, prefix_sign, postfix_sign, assignment}

abbrev pub Kinds : Type 0
Kinds = List TokenKind

-- ---- parentheses

-- the level of a tree that is written without parentheses
abbrev pub level_of : Expr → ℕ
level_of (Tree.Comma left right) = 1
level_of (Tree.Assign op target value) = 2
level_of (Tree.Cond test middle other) = 3
level_of (Tree.Or left right) = level LogicalOr
level_of (Tree.And left right) = level LogicalAnd
level_of (Tree.Binary op left right) = level (Operation op)
level_of (Tree.Prefix op operand) = 14
level_of (Tree.Postfix target op) = 15
level_of (Tree.Dot object name) = 16
level_of (Tree.Index object key) = 16
level_of (Tree.Call callee es) = 16
level_of (Tree.New callee es) = 16
level_of _ = 19

abbrev pub is_number : Expr → Bool
is_number (Tree.Num n) = true
is_number _ = false

abbrev pub is_function : Expr → Bool
is_function (Tree.Function f) = true
is_function _ = false

-- a call is on its left side, outside parentheses
abbrev pub has_call : Expr → Bool
has_call (Tree.Call callee es) = true
has_call (Tree.Dot object name) = has_call object
has_call (Tree.Index object key) = has_call object
has_call _ = false

abbrev pub enclosed : Kinds → Kinds
enclosed u = k.Mark m.OpenParenthesis ∷ (u ++ (k.Mark m.CloseParenthesis ∷ []))

abbrev pub enclosed_if : Bool → Kinds → Kinds
enclosed_if true u = enclosed u
enclosed_if false u = u

-- An operand is in parentheses where its level is below the one that its place needs, where it is
-- an `in` that may not stand there, and for a reason of the place. In its parentheses an `in` may
-- stand.
abbrev pub needs : Bool → Bool → ℕ → Expr → Bool
needs reason with_in least x =
    reason || (nat_lt (level_of x) least || (not with_in && is_in_operation x))

-- `written` gives the operand's tokens, where the operator `in` may stand or not
abbrev pub operand_for : Bool → Bool → ℕ → Expr → (Bool → Kinds) → Kinds
operand_for reason with_in least x written =
    enclosed_if (needs reason with_in least x) (written (with_in || needs reason with_in least x))

abbrev pub operand : Bool → ℕ → Expr → (Bool → Kinds) → Kinds
operand = operand_for false

-- ---- parts

-- a key is written as a name where it is one that is no word, of ASCII characters, and else as a
-- string
abbrev pub key_kind : Name → TokenKind
key_kind key =
    if is_name key && list_all (λ unit. nat_lt unit 128) key then k.Name key else k.Str key

abbrev pub truth_kind : Bool → TokenKind
truth_kind true = k.Word w.True
truth_kind false = k.Word w.False

-- an operator that is joined with no `=` is in no tree of a script
abbrev pub assignment_mark : Option Mark → Mark
assignment_mark (Some mark) = mark
assignment_mark None = m.Assign

-- the level that the operand of a prefix operator needs
abbrev pub prefix_least : Bool → ℕ
prefix_least true = 16
prefix_least false = 14

abbrev pub names : List Name → Kinds
names [] = []
names (n ∷ []) = k.Name n ∷ []
names (n ∷ o ∷ ns) = k.Name n ∷ (k.Mark m.Comma ∷ names (o ∷ ns))

abbrev pub maybe_name : Option Name → Kinds
maybe_name (Some n) = k.Name n ∷ []
maybe_name None = []

-- a block begins with it, or a declaration
abbrev pub opens_another : TokenKind → Bool
opens_another (k.Mark m.OpenBrace) = true
opens_another (k.Word w.Function) = true
opens_another _ = false

abbrev pub begins_as_another : Kinds → Bool
begins_as_another [] = false
begins_as_another (kind ∷ rest) = opens_another kind

-- an expression statement that would begin with `{` or `function` is in parentheses
abbrev pub expression_statement : Kinds → Kinds
expression_statement u = enclosed_if (begins_as_another u) u ++ (k.Mark m.Semicolon ∷ [])

-- ---- trees

abbrev mutual
  -- the tokens of an expression without parentheses around it, where the operator `in` may stand
  -- outside brackets or not
  pub expr : Expr → Bool → Kinds
  expr (Tree.Num n) i = k.Number n ∷ []
  expr (Tree.Str text) i = k.Str text ∷ []
  expr (Tree.Truth b) i = truth_kind b ∷ []
  expr Tree.Null i = k.Word w.Null ∷ []
  expr Tree.This i = k.Word w.This ∷ []
  expr (Tree.Ident name) i = k.Name name ∷ []
  expr (Tree.Array es) i = k.Mark m.OpenBracket ∷ (elements es ++ (k.Mark m.CloseBracket ∷ []))
  expr (Tree.Object ps) i = k.Mark m.OpenBrace ∷ (pairs ps ++ (k.Mark m.CloseBrace ∷ []))
  expr (Tree.Function f) i = func f
  expr (Tree.Dot object name) i =
      operand_for (is_number object || is_function object) i 16 object (expr object)
      ++ (k.Mark m.Dot ∷ (k.Name name ∷ []))
  expr (Tree.Index object key) i =
      operand_for (is_function object) i 16 object (expr object)
      ++ (k.Mark m.OpenBracket ∷ (operand true 1 key (expr key) ++ (k.Mark m.CloseBracket ∷ [])))
  expr (Tree.Call callee es) i =
      operand_for (is_function callee) i 16 callee (expr callee) ++ enclosed (exprs es)
  expr (Tree.New callee es) i =
      k.Word w.New
      ∷ (operand_for (is_function callee || has_call callee) i 16 callee (expr callee)
      ++ enclosed (exprs es))
  expr (Tree.Postfix target op) i = operand i 16 target (expr target) ++ (postfix_sign op ∷ [])
  expr (Tree.Prefix op x) i = prefix_sign op ∷ operand i (prefix_least (changes op)) x (expr x)
  expr (Tree.Binary op left right) i =
      operand i (level (Operation op)) left (expr left)
      ++ (sign (Operation op) ∷ operand i (suc (level (Operation op))) right (expr right))
  expr (Tree.And left right) i =
      operand i (level LogicalAnd) left (expr left)
      ++ (sign LogicalAnd ∷ operand i (suc (level LogicalAnd)) right (expr right))
  expr (Tree.Or left right) i =
      operand i (level LogicalOr) left (expr left)
      ++ (sign LogicalOr ∷ operand i (suc (level LogicalOr)) right (expr right))
  expr (Tree.Comma left right) i =
      operand i 1 left (expr left) ++ (k.Mark m.Comma ∷ operand i 2 right (expr right))
  expr (Tree.Cond test middle other) i =
      operand i 4 test (expr test)
      ++ (k.Mark m.Question
      ∷ (operand i 2 middle (expr middle) ++ (k.Mark m.Colon ∷ operand i 2 other (expr other))))
  expr (Tree.Assign op target value) i =
      operand i 16 target (expr target)
      ++ (k.Mark (assignment_mark (assignment op)) ∷ operand i 2 value (expr value))
  expr (Tree.Late n) i =
      k.Name (codes "eval") ∷ k.Mark m.OpenParenthesis
      ∷ k.Name (codes "$dl_get") ∷ k.Mark m.OpenParenthesis ∷ k.Number n
      ∷ k.Mark m.CloseParenthesis ∷ k.Mark m.CloseParenthesis ∷ []

  -- arguments, with commas between
  pub exprs : Tree.Exprs → Kinds
  exprs Tree.NoExprs = []
  exprs (Tree.MoreExprs e es) = operand true 2 e (expr e) ++ other_exprs es

  pub other_exprs : Tree.Exprs → Kinds
  other_exprs Tree.NoExprs = []
  other_exprs (Tree.MoreExprs e es) = k.Mark m.Comma ∷ (operand true 2 e (expr e) ++ other_exprs es)

  -- an expression of level 1 in brackets or a header, or none
  pub maybe_expr : MaybeExpr → Kinds
  maybe_expr Tree.NoExpr = []
  maybe_expr (Tree.AnExpr e) = expr e true

  -- an element, or a hole, which is written as nothing
  pub element : MaybeExpr → Kinds
  element Tree.NoExpr = []
  element (Tree.AnExpr e) = operand true 2 e (expr e)

  -- elements with commas between, and one more where the last is a hole
  pub elements : Tree.Elements → Kinds
  elements Tree.NoElements = []
  elements (Tree.MoreElements e es) = element e ++ other_elements e es

  -- behind the element e
  pub other_elements : MaybeExpr → Tree.Elements → Kinds
  other_elements Tree.NoExpr Tree.NoElements = k.Mark m.Comma ∷ []
  other_elements (Tree.AnExpr x) Tree.NoElements = []
  other_elements e (Tree.MoreElements next es) =
      k.Mark m.Comma ∷ (element next ++ other_elements next es)

  pub pairs : Tree.Pairs → Kinds
  pairs Tree.NoPairs = []
  pairs (Tree.MorePairs key value ps) =
      key_kind key ∷ (k.Mark m.Colon ∷ (operand true 2 value (expr value) ++ other_pairs ps))

  pub other_pairs : Tree.Pairs → Kinds
  other_pairs Tree.NoPairs = []
  other_pairs (Tree.MorePairs key value ps) =
      k.Mark m.Comma ∷ (key_kind key ∷ (k.Mark m.Colon
      ∷ (operand true 2 value (expr value) ++ other_pairs ps)))

  -- a function, declared or in an expression
  pub func : Func → Kinds
  func (Tree.Code number name formals body role) =
      k.Word w.Function ∷ (maybe_name name ++
      (enclosed (names formals) ++ (k.Mark m.OpenBrace
      ∷ (stmts body ++ (k.Mark m.CloseBrace ∷ [])))))

  pub stmt : Stmt → Kinds
  stmt (Tree.Block body) = k.Mark m.OpenBrace ∷ (stmts body ++ (k.Mark m.CloseBrace ∷ []))
  stmt (Tree.Variables items) = k.Word w.Var ∷ (var_items items true ++ (k.Mark m.Semicolon ∷ []))
  stmt Tree.Empty = k.Mark m.Semicolon ∷ []
  stmt (Tree.Do e) = expression_statement (expr e true)
  stmt (Tree.If test body other) =
      k.Word w.If ∷ (enclosed (expr test true) ++ (stmt body ++ else_part other))
  stmt (Tree.DoWhile body test) =
      k.Word w.Do ∷ (stmt body ++ (k.Word w.While
      ∷ (enclosed (expr test true) ++ (k.Mark m.Semicolon ∷ []))))
  stmt (Tree.While test body) = k.Word w.While ∷ (enclosed (expr test true) ++ stmt body)
  stmt (Tree.For first test next body) =
      k.Word w.For ∷ (enclosed (for_init first
      ++ (k.Mark m.Semicolon ∷ (maybe_expr test ++ (k.Mark m.Semicolon ∷ maybe_expr next))))
      ++ stmt body)
  stmt (Tree.ForIn target object body) =
      k.Word w.For ∷ (enclosed (for_target target ++ (k.Word w.In ∷ expr object true)) ++ stmt body)
  stmt (Tree.Continue label) = k.Word w.Continue ∷ (maybe_name label ++ (k.Mark m.Semicolon ∷ []))
  stmt (Tree.Break label) = k.Word w.Break ∷ (maybe_name label ++ (k.Mark m.Semicolon ∷ []))
  stmt (Tree.Return value) = k.Word w.Return ∷ (maybe_expr value ++ (k.Mark m.Semicolon ∷ []))
  stmt (Tree.Switch value cs) =
      k.Word w.Switch ∷ (enclosed (expr value true)
      ++ (k.Mark m.OpenBrace ∷ (cases cs ++ (k.Mark m.CloseBrace ∷ []))))
  stmt (Tree.Label name body) = k.Name name ∷ (k.Mark m.Colon ∷ stmt body)
  stmt (Tree.Throw e) = k.Word w.Throw ∷ (expr e true ++ (k.Mark m.Semicolon ∷ []))
  stmt (Tree.Try block caught last) =
      k.Word w.Try ∷ (stmt block ++ (handler caught ++ finally_part last))
  stmt (Tree.Declare f) = func f
  stmt (Tree.Used n) =
      k.Name (codes "$dl_use") ∷ (k.Mark m.OpenParenthesis
      ∷ (k.Number n ∷ (k.Mark m.CloseParenthesis ∷ (k.Mark m.Semicolon ∷ []))))

  pub stmts : Tree.Stmts → Kinds
  stmts Tree.NoStmts = []
  stmts (Tree.MoreStmts s ss) = stmt s ++ stmts ss

  pub else_part : Tree.MaybeStmt → Kinds
  else_part Tree.NoStmt = []
  else_part (Tree.AStmt s) = k.Word w.Else ∷ stmt s

  pub handler : Tree.Handler → Kinds
  handler Tree.NoHandler = []
  handler (Tree.ACatch name block) = k.Word w.Catch ∷ (enclosed (k.Name name ∷ []) ++ stmt block)

  pub finally_part : Tree.MaybeStmt → Kinds
  finally_part Tree.NoStmt = []
  finally_part (Tree.AStmt s) = k.Word w.Finally ∷ stmt s

  -- in the first part of a `for` header an `in` is in parentheses outside brackets
  pub for_init : Tree.ForInit → Kinds
  for_init Tree.Nothing = []
  for_init (Tree.Vars items) = k.Word w.Var ∷ var_items items false
  for_init (Tree.First e) = operand false 1 e (expr e)

  pub for_target : Tree.ForTarget → Kinds
  for_target (Tree.AVar name value) = k.Word w.Var ∷ (k.Name name ∷ initialiser value false)
  for_target (Tree.Target e) = operand false 16 e (expr e)

  -- the declarators of a list, where the operator `in` may stand or not
  pub var_items : Tree.VarItems → Bool → Kinds
  var_items Tree.NoVarItems i = []
  var_items (Tree.MoreVarItems name value rest) i =
      k.Name name ∷ (initialiser value i ++ other_var_items rest i)

  pub other_var_items : Tree.VarItems → Bool → Kinds
  other_var_items Tree.NoVarItems i = []
  other_var_items (Tree.MoreVarItems name value rest) i =
      k.Mark m.Comma ∷ (k.Name name ∷ (initialiser value i ++ other_var_items rest i))

  pub initialiser : MaybeExpr → Bool → Kinds
  initialiser Tree.NoExpr i = []
  initialiser (Tree.AnExpr e) i = k.Mark m.Assign ∷ operand i 2 e (expr e)

  pub cases : Tree.Cases → Kinds
  cases Tree.NoCases = []
  cases (Tree.MoreCases test body rest) =
      case_head test ++ (k.Mark m.Colon ∷ (stmts body ++ cases rest))

  pub case_head : MaybeExpr → Kinds
  case_head Tree.NoExpr = k.Word w.Default ∷ []
  case_head (Tree.AnExpr e) = k.Word w.Case ∷ expr e true

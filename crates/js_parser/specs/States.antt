-- What is read next of the tokens of a script. A machine reads them from the left, one step at a
-- time: it is done with the tree of a script, or stuck at the first token with which no script goes
-- on, or finds a token for which there is no room. Each state says what is read, with what is known
-- before it, and what comes of it with the tokens that are left.
use Rattle.std.specs.Prelude.{ℕ, ◌&&◌, ◌||◌, not, Bool, true, false, List, [], ◌∷◌}
use Rattle.js_lexer.specs.declared.mark.Mark.TheVariants as m
use Rattle.js_lexer.specs.declared.word.Word.TheVariants as w
use Rattle.js_lexer.specs.declared.token.TokenKind.{TokenKind}
use Rattle.js_lexer.specs.declared.token.TokenKind.TheVariants as k
use Rattle.js_tree.specs.Tree.{Name, Expr, Exprs, MaybeExpr, Elements, Pairs, Stmt, Stmts, VarItems, Cases}
use Rattle.js_parser.specs.Symbols.{Symbol, Symbols}
use Rattle.js_parser.specs.Contexts.{Context}
use Rattle.js_parser.specs.Rooms.{Room}

pub data State : Type 0 where
  -- with this tree, behind the end of the script
  done : Stmts → State
  -- at the first of the tokens left, which may not stand here
  stuck : Symbols → State
  -- behind a token for which there is no room, with the tokens left
  deep : Symbols → State
  comma : Room → Bool → (Expr → Symbols → State) → Symbols → State
  comma_tail : Room → Bool → Expr → (Expr → Symbols → State) → Symbols → State
  assign : Room → Bool → (Expr → Symbols → State) → Symbols → State
  choice : Room → Bool → Expr → (Expr → Symbols → State) → Symbols → State
  climb : Room → Bool → ℕ → (Expr → Symbols → State) → Symbols → State
  tail : Room → Bool → ℕ → Expr → (Expr → Symbols → State) → Symbols → State
  unary : Room → (Expr → Symbols → State) → Symbols → State
  postfix : Room → Expr → (Expr → Symbols → State) → Symbols → State
  -- with calls, or without, as the callee of `new`
  operand : Room → Bool → (Expr → Symbols → State) → Symbols → State
  links : Room → Bool → Expr → (Expr → Symbols → State) → Symbols → State
  arguments : Room → (Exprs → Symbols → State) → Symbols → State
  argument_list : Room → (Exprs → Symbols → State) → Symbols → State
  elements : Room → (Elements → Symbols → State) → Symbols → State
  pairs : Room → (Pairs → Symbols → State) → Symbols → State
  rest : Room → (List Name → Stmts → Symbols → State) → Symbols → State
  -- behind these formals: further ones, or one at least
  formals : List Name → (List Name → Symbols → State) → Symbols → State
  formal : List Name → (List Name → Symbols → State) → Symbols → State
  declarator : Room → Bool → (Name → MaybeExpr → Symbols → State) → Symbols → State
  declarators : Room → Bool → (VarItems → Symbols → State) → Symbols → State
  optional : Room → (MaybeExpr → Symbols → State) → Symbols → State
  statement : Room → Context → (Stmt → Symbols → State) → Symbols → State
  list : Room → Context → (Stmts → Symbols → State) → Symbols → State
  source : Room → Context → (Stmts → Symbols → State) → Symbols → State
  -- with `default`, or without
  clauses : Room → Context → Bool → (Cases → Symbols → State) → Symbols → State

abbrev pub To : Type 0 → Type 0
To A = A → Symbols → State

-- on, where the first of these tokens may stand
abbrev pub guard : Bool → Symbols → State → State
guard true left s = s
guard false left s = stuck left

-- on, where there is room, before these tokens
abbrev pub fitting : Bool → Symbols → State → State
fitting true left s = s
fitting false left s = deep left

-- ---- single tokens

abbrev pub expect : (TokenKind → Bool) → (Symbols → State) → Symbols → State
expect test next [] = stuck []
expect test next (s ∷ ts) = guard (test s.kind) (s ∷ ts) (next ts)

abbrev pub is_open_parenthesis : TokenKind → Bool
is_open_parenthesis (k.Mark m.OpenParenthesis) = true
is_open_parenthesis _ = false

abbrev pub is_close_parenthesis : TokenKind → Bool
is_close_parenthesis (k.Mark m.CloseParenthesis) = true
is_close_parenthesis _ = false

abbrev pub is_close_bracket : TokenKind → Bool
is_close_bracket (k.Mark m.CloseBracket) = true
is_close_bracket _ = false

abbrev pub is_open_brace : TokenKind → Bool
is_open_brace (k.Mark m.OpenBrace) = true
is_open_brace _ = false

abbrev pub is_close_brace : TokenKind → Bool
is_close_brace (k.Mark m.CloseBrace) = true
is_close_brace _ = false

abbrev pub is_colon : TokenKind → Bool
is_colon (k.Mark m.Colon) = true
is_colon _ = false

abbrev pub is_semicolon : TokenKind → Bool
is_semicolon (k.Mark m.Semicolon) = true
is_semicolon _ = false

abbrev pub is_while : TokenKind → Bool
is_while (k.Word w.While) = true
is_while _ = false

abbrev pub is_end : TokenKind → Bool
is_end k.End = true
is_end _ = false

-- behind the end of a statement, which is a semicolon, or where it may be inserted
abbrev pub ended_by : Bool → Bool → (Symbols → State) → Symbol → Symbols → State
ended_by true inserted next s ts = next ts
ended_by false true next s ts = next (s ∷ ts)
ended_by false false next s ts = stuck (s ∷ ts)

abbrev pub may_insert : Symbol → Bool
may_insert s = s.newline || (is_close_brace s.kind || is_end s.kind)

abbrev pub ended : (Symbols → State) → Symbols → State
ended next [] = next []
ended next (s ∷ ts) = ended_by (is_semicolon s.kind) (may_insert s) next s ts

-- the same, where only a semicolon on the line is its end
abbrev pub ended_at_once : (Symbols → State) → Symbols → State
ended_at_once next [] = next []
ended_at_once next (s ∷ ts) =
    ended_by (is_semicolon s.kind && not s.newline) (may_insert s) next s ts

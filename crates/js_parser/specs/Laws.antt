-- What holds of every expression, statement and script of the grammar.
use Rattle.std.specs.Prelude.{ℕ, ◌≡◌, ◌≢◌, ◌≤◌, ◌||◌, ◌⊎◌, Bool, true, false, List, [], ◌∷◌, ◌++◌, length}
use Rattle.js_lexer.specs.declared.mark.Mark.TheVariants as m
use Rattle.js_lexer.specs.declared.word.Word.TheVariants as w
use Rattle.js_lexer.specs.declared.token.TokenKind.{TokenKind}
use Rattle.js_lexer.specs.declared.token.TokenKind.TheVariants as k
use Rattle.js_tree.specs.Tree
use Rattle.js_tree.specs.Tree.{Name, Expr, Exprs, Stmt, VarItems, Script, MaybeStmt}
use Rattle.js_parser.specs.declared.form.Form.{Form}
use Rattle.js_parser.specs.Symbols.{Symbol, Symbols, symbols}
use Rattle.js_tree.specs.Levels.{is_in_operation}
use Rattle.js_parser.specs.Operators.{is_target}
use Rattle.js_parser.specs.Contexts.{Context}
use Rattle.js_parser.specs.Ends.{ends_changed}
use Rattle.js_parser.specs.Grammar.{Formals, Expression, ArgumentList, DeclaratorList, Statement, SourceElement}
use Rattle.js_lexer.specs.declared.token.Token.{Token}
use Rattle.js_lexer.specs.Tokens.{IsTokens}
use Rattle.js_parser.specs.Parses.{IsClosed}
use Rattle.js_tree.specs.Numbering.{in_stmts}
use Rattle.js_parser.specs.Accepted.{Accepted, Derives, IsOverAt, IsUnlimited, Keeps, functions_in, opened}
use Rattle.js_parser.specs.Fault.{Begins, Breaks, IsSpent, Fault, Answer}
use Rattle.js_parser.specs.declared.form.Limits.{Limits}
use Rattle.js_parser.specs.WellPlaced.{are_placed}
use Rattle.js_tree.specs.Depth.{depth, nesting}
use Rattle.js_parser.specs.Rooms.{unbounded, of_limits}
use Rattle.js_parser.specs.Machine.{Goes, script, done, stuck, deep}

-- an expression of a level is one of each lower level
abbrev pub LevelsGoDown : Type 0
LevelsGoDown =
    (form : Form) (i : Bool) (l o : ℕ) (u : Symbols) (x : Expr) → l ≤ o → Expression form i o u x
    → Expression form i l u x

-- a target is a LeftHandSideExpression, whatever it was read as
abbrev pub TargetsRise : Type 0
TargetsRise =
    (form : Form) (i : Bool) (l : ℕ) (u : Symbols) (x : Expr) → Expression form i l u x
    → is_target x ≡ true → Expression form i 16 u x

-- an expression without the operator `in` outside brackets may stand wherever one with it may
abbrev pub InMayBeAllowed : Type 0
InMayBeAllowed =
    (form : Form) (i : Bool) (l : ℕ) (u : Symbols) (x : Expr) → Expression form i l u x
    → Expression form true l u x

-- expressions, lists of arguments and of declarators, statements and declarations have tokens
abbrev pub ExpressionsHaveTokens : Type 0
ExpressionsHaveTokens =
    (form : Form) (i : Bool) (l : ℕ) (u : Symbols) (x : Expr) → Expression form i l u x → u ≢ []

abbrev pub ArgumentListsHaveTokens : Type 0
ArgumentListsHaveTokens = (form : Form) (u : Symbols) (xs : Exprs) → ArgumentList form u xs → u ≢ []

abbrev pub DeclaratorListsHaveTokens : Type 0
DeclaratorListsHaveTokens =
    (form : Form) (i : Bool) (u : Symbols) (items : VarItems) → DeclaratorList form i u items
    → u ≢ []

abbrev pub StatementsHaveTokens : Type 0
StatementsHaveTokens =
    (form : Form) (c : Context) (u : Symbols) (next : Symbol) (s : Stmt)
    → SourceElement form c u next s → u ≢ []

-- One list of formals at most has these tokens.
abbrev pub OneListOfFormals : Type 0
OneListOfFormals =
    (form : Form) (u : Symbols) (ns others : List Name) → Formals form u ns → Formals form u others
    → ns ≡ others

-- In what begins a script no token is `with`, `debugger` or a word that is kept for later, in the
-- form Source no name begins with `$dl_`, and no name stands directly behind another on its line.
abbrev pub TokensArePlaced : Type 0
TokensArePlaced =
    (form : Form) (functions : ℕ) (used : Symbols) → Begins form functions used
    → are_placed form false used ≡ true

-- the statement ends in an `if` without `else`
abbrev mutual
  pub ends_in_if : Stmt → Bool
  ends_in_if (Tree.If test body other) = other_ends_in_if other
  ends_in_if (Tree.While test body) = ends_in_if body
  ends_in_if (Tree.For first test next body) = ends_in_if body
  ends_in_if (Tree.ForIn target object body) = ends_in_if body
  ends_in_if (Tree.Label name body) = ends_in_if body
  ends_in_if _ = false

  pub other_ends_in_if : MaybeStmt → Bool
  other_ends_in_if Tree.NoStmt = true
  other_ends_in_if (Tree.AStmt s) = ends_in_if s

-- An `else` belongs to the nearest `if`: no statement that one follows ends in an `if` without
-- `else`.
abbrev pub ElseIsOfTheNearestIf : Type 0
ElseIsOfTheNearestIf =
    (form : Form) (c : Context) (u : Symbols) (next : Symbol) (s : Stmt) → Statement form c u next s
    → next.kind ≡ k.Word w.Else → ends_in_if s ≡ false

-- the mark goes on with any expression, or with any that no `++` or `--` ends
abbrev pub goes_on : TokenKind → Bool
goes_on (k.Mark m.OpenParenthesis) = true
goes_on (k.Mark m.OpenBracket) = true
goes_on (k.Mark m.Plus) = true
goes_on (k.Mark m.Minus) = true
goes_on (k.Mark m.Slash) = true
goes_on _ = false

abbrev pub is_semicolon : TokenKind → Bool
is_semicolon (k.Mark m.Semicolon) = true
is_semicolon _ = false

abbrev pub ends_with_semicolon : Symbols → Bool
ends_with_semicolon [] = false
ends_with_semicolon (s ∷ []) = is_semicolon s.kind
ends_with_semicolon (s ∷ t ∷ ss) = ends_with_semicolon (t ∷ ss)

-- No semicolon is inserted before such a mark, unless behind `++` or `--`.
abbrev pub NoneIsInsertedWhereTheNextFits : Type 0
NoneIsInsertedWhereTheNextFits =
    (form : Form) (c : Context) (u : Symbols) (next : Symbol) (x : Expr)
    → Statement form c u next (Tree.Do x) → goes_on next.kind ≡ true
    → (ends_with_semicolon u || ends_changed u) ≡ true

abbrev pub opens : TokenKind → Bool
opens (k.Mark m.OpenParenthesis) = true
opens _ = false

abbrev pub begins_in_parentheses : Symbols → Bool
begins_in_parentheses [] = false
begins_in_parentheses (s ∷ ss) = opens s.kind

-- Where the operator `in` may not stand, an operation with it is in parentheses.
abbrev pub InIsInParentheses : Type 0
InIsInParentheses =
    (form : Form) (l : ℕ) (u : Symbols) (x : Expr) → Expression form false l u x
    → is_in_operation x ≡ true → begins_in_parentheses u ≡ true

-- A script that is accepted without limits has no breaking token.
abbrev pub ScriptsDoNotBreak : Type 0
ScriptsDoNotBreak =
    (form : Form) (functions : ℕ) (tokens used : List Token) (token : Token) (tree : Script)
    → IsUnlimited form functions (symbols tokens) tree → Breaks form functions tokens used token → ⊥

-- At most one token of a list is the breaking one.
abbrev pub OneBreakingToken : Type 0
OneBreakingToken =
    (form : Form) (functions : ℕ) (tokens used others : List Token) (token other : Token)
    → Breaks form functions tokens used token → Breaks form functions tokens others other
    → (used ≡ others) × (token ≡ other)

-- How many functions there are is told by the tokens.
abbrev pub FunctionsAreCounted : Type 0
FunctionsAreCounted =
    (form : Form) (tokens : Symbols) (tree : Script) → Derives form tokens tree
    → functions_in tokens ≡ length (in_stmts tree)

-- the brackets that are open behind tokens, where n are open before them
abbrev pub open_behind : ℕ → Symbols → ℕ
open_behind n [] = n
open_behind n (s ∷ ss) = open_behind (opened s.kind n) ss

-- Each statement and each declaration of a script closes the brackets that it opens.
abbrev pub BracketsAreClosed : Type 0
BracketsAreClosed =
    (form : Form) (c : Context) (u : Symbols) (next : Symbol) (s : Stmt)
    → SourceElement form c u next s → (n : ℕ) → open_behind n u ≡ n

-- An expression that is one token has one tree.
abbrev pub OneTreeOfAToken : Type 0
OneTreeOfAToken =
    (form : Form) (i j : Bool) (l o : ℕ) (s : Symbol) (x y : Expr) → Expression form i l (s ∷ []) x
    → Expression form j o (s ∷ []) y → x ≡ y

-- At most one tree is derived from a list of tokens.
abbrev pub OneTree : Type 0
OneTree =
    (form : Form) (tokens : Symbols) (tree other : Script) → Derives form tokens tree
    → Derives form tokens other → tree ≡ other

-- Nothing is told of tokens that are an accepted script.
abbrev pub AcceptedHasNoFault : Type 0
AcceptedHasNoFault =
    (form : Form) (limits : Limits) (tokens : List Token) (tree : Script) (told : Answer)
    → Accepted form limits (symbols tokens) tree → Fault form limits tokens told → ⊥

-- Where a script breaks a limit, one of its statements and declarations is the first in which it
-- does.
abbrev pub LimitsBreakInAStatement : Type 0
LimitsBreakInAStatement =
    (form : Form) (limits : Limits) (tokens : Symbols) (tree : Script)
    → IsUnlimited form limits.functions tokens tree → (Keeps limits tokens tree → ⊥)
    → (n : ℕ) × IsOverAt form limits tokens n

-- The machine reads each script to its end and finds its tree, where the limits of depth and
-- nesting leave room for it.
abbrev pub ScriptsAreRead : Type 0
ScriptsAreRead =
    (form : Form) (tokens : Symbols) (tree : Script) → Derives form tokens tree → (limits : Limits)
    → depth tree ≤ limits.depth → nesting tree ≤ limits.nesting
    → Goes form (script (of_limits limits) tokens) (done tree)

-- Where there is no limit it reads each.
abbrev pub ScriptsAreReadUnbounded : Type 0
ScriptsAreReadUnbounded =
    (form : Form) (tokens : Symbols) (tree : Script) → Derives form tokens tree
    → Goes form (script unbounded tokens) (done tree)

-- The tree with which the machine is done, for a list of tokens within limits, is derived from
-- them, and keeps the limits of depth and nesting.
abbrev pub WhatIsReadIsAScript : Type 0
WhatIsReadIsAScript =
    (form : Form) (limits : Limits) (tokens : List Token) (tree : Script)
    → Goes form (script (of_limits limits) (symbols tokens)) (done tree)
    → Derives form (symbols tokens) tree × (depth tree ≤ limits.depth)
    × (nesting tree ≤ limits.nesting)

-- What the machine has read where it is stuck, or finds no room, is the front of a script.
abbrev pub WhatIsReadBeginsAScript : Type 0
WhatIsReadBeginsAScript =
    (form : Form) (limits : Limits) (tokens used rest : List Token) → tokens ≡ used ++ rest
    → functions_in (symbols used) ≤ limits.functions
    → Goes form (script (of_limits limits) (symbols tokens)) (stuck (symbols rest))
    ⊎ Goes form (script (of_limits limits) (symbols tokens)) (deep (symbols rest))
    → Begins form limits.functions (symbols used)

-- The token at which it is stuck is the breaking one.
abbrev pub StuckAtTheBreakingToken : Type 0
StuckAtTheBreakingToken =
    (form : Form) (limits : Limits) (tokens used rest : List Token) (token : Token)
    → tokens ≡ used ++ (token ∷ rest) → functions_in (symbols used) ≤ limits.functions
    → Goes form (script (of_limits limits) (symbols tokens)) (stuck (symbols (token ∷ rest)))
    → Breaks form limits.functions tokens used token

-- Where it has no room, what it has read is spent: each script that begins so breaks a limit.
abbrev pub SpentWhereThereIsNoRoom : Type 0
SpentWhereThereIsNoRoom =
    (form : Form) (limits : Limits) (tokens used rest : List Token) → tokens ≡ used ++ rest
    → functions_in (symbols used) ≤ limits.functions
    → Goes form (script (of_limits limits) (symbols tokens)) (deep (symbols rest))
    → IsSpent form limits (symbols used)

-- Tokens that the end closes are an accepted script, or something may be told of them.
abbrev pub AcceptedOrAFault : Type 0
AcceptedOrAFault =
    (form : Form) (limits : Limits) (tokens : List Token) (last : Token) → last.kind ≡ k.End
    → ((tree : Script) × Accepted form limits (symbols (tokens ++ (last ∷ []))) tree)
    ⊎ ((told : Answer) × Fault form limits (tokens ++ (last ∷ [])) told)

-- The end closes the tokens of every text.
abbrev pub TokensOfTextsAreClosed : Type 0
TokensOfTextsAreClosed =
    (text : List ℕ) (tokens : List Token) → IsTokens text tokens → IsClosed tokens

-- Which token lists are accepted scripts, with which tree.
use Rattle.std.specs.Prelude.{ℕ, suc, ◌-◌, ◌≡◌, ◌≤◌, [], ◌∷◌, ◌++◌, Bool, length, max}
use Rattle.js_lexer.specs.declared.mark.Mark.TheVariants as m
use Rattle.js_lexer.specs.declared.word.Word.TheVariants as w
use Rattle.js_lexer.specs.declared.token.TokenKind.{TokenKind}
use Rattle.js_lexer.specs.declared.token.TokenKind.TheVariants as k
use Rattle.js_tree.specs.Tree.{Script, Stmt, Stmts, NoStmts, MoreStmts}
use Rattle.js_parser.specs.declared.form.Form.{Form}
use Rattle.js_parser.specs.declared.form.Limits.{Limits}
use Rattle.js_parser.specs.Symbols.{Symbols, end, first}
use Rattle.js_parser.specs.Contexts as context
use Rattle.js_parser.specs.Grammar.{SourceElement, SourceElements}
use Rattle.js_tree.specs.Depth.{depth, nesting}

-- The tokens, which the end closes, are a script with this tree (ES3 section 14).
pub record Derives (form : Form) (tokens : Symbols) (tree : Script) : Type 0 where
  pub elements : Symbols
  pub newline : Bool
  pub whole : tokens ≡ elements ++ (end newline ∷ [])
  pub derived : SourceElements form context.script elements (end newline) tree

-- ---- the limits

-- how many functions there are, each of which has its word `function`
abbrev pub counted : TokenKind → ℕ → ℕ
counted (k.Word w.Function) n = suc n
counted _ n = n

abbrev pub functions_in : Symbols → ℕ
functions_in [] = 0
functions_in (s ∷ ss) = counted s.kind (functions_in ss)

-- the brackets that are open behind a token, where n are open before it
abbrev pub opened : TokenKind → ℕ → ℕ
opened (k.Mark m.OpenParenthesis) n = suc n
opened (k.Mark m.OpenBracket) n = suc n
opened (k.Mark m.OpenBrace) n = suc n
opened (k.Mark m.CloseParenthesis) n = n - 1
opened (k.Mark m.CloseBracket) n = n - 1
opened (k.Mark m.CloseBrace) n = n - 1
opened _ n = n

-- the most brackets that are open at once, where n are open before
abbrev pub most_open : ℕ → Symbols → ℕ
most_open n [] = n
most_open n (s ∷ ss) = max n (most_open (opened s.kind n) ss)

-- the tokens and their tree keep the limits of depth, nesting and brackets
pub record Keeps (limits : Limits) (tokens : Symbols) (tree : Script) : Type 0 where
  pub not_too_deep : depth tree ≤ limits.depth
  pub not_too_nested : nesting tree ≤ limits.nesting
  pub not_too_many_open : most_open 0 tokens ≤ limits.brackets

-- ---- accepted

-- without the limits of depth, nesting and brackets, but for so many functions
pub record IsUnlimited (form : Form) (functions : ℕ) (tokens : Symbols)
    (tree : Script) : Type 0 where
  pub derives : Derives form tokens tree
  pub few_functions : functions_in tokens ≤ functions

pub record Accepted (form : Form) (limits : Limits) (tokens : Symbols)
    (tree : Script) : Type 0 where
  pub unlimited : IsUnlimited form limits.functions tokens tree
  pub keeps : Keeps limits tokens tree

-- The tokens are accepted without limits, and a limit breaks in their script, first in the
-- statement or declaration that begins behind n tokens.
pub record IsOverAt (form : Form) (limits : Limits) (tokens : Symbols) (n : ℕ) : Type 0 where
  pub before : Symbols
  pub element : Symbols
  pub after : Symbols
  pub newline : Bool
  pub trees : Stmts
  pub tree : Stmt
  pub other_trees : Stmts
  pub whole : tokens ≡ before ++ (element ++ (after ++ (end newline ∷ [])))
  pub stands : length before ≡ n
  pub derives_before : SourceElements form context.script before
      (first (element ++ after) (end newline)) trees
  pub derives : SourceElement form context.script element (first after (end newline)) tree
  pub derives_after : SourceElements form context.script after (end newline) other_trees
  pub few_functions : functions_in tokens ≤ limits.functions
  pub keeps_before : Keeps limits before trees
  pub breaks : Keeps limits element (MoreStmts tree NoStmts) → ⊥

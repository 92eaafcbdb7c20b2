-- Rows of what is counted and told: by texts, as `TextRows` reads them.
use Rattle.std.specs.Prelude.{ℕ, Bool, false, List, [], ◌∷◌, filter, codes, Some, None}
use Rattle.js_lexer.specs.Words.{words}
use Rattle.js_lexer.specs.declared.word.Word.{Word}
use Rattle.js_lexer.specs.declared.token.TokenKind.{TokenKind}
use Rattle.js_tree.specs.Tree.{Script, Func, MoreStmts, NoStmts, Do, Declare, Function}
use Rattle.js_parser.specs.declared.form.Form.{Form}
use Rattle.js_parser.specs.declared.form.Limits.{Limits}
use Rattle.js_parser.specs.Grammar.{code}
use Rattle.js_parser.specs.Accepted.{Keeps, functions_in, most_open}
use Rattle.js_parser.specs.Fault.{Answer, answer}
use Rattle.js_parser.specs.WellPlaced.{is_used, are_placed}
use Rattle.grammar_rows.specs.RefusedRows.{token}
use Rattle.grammar_rows.specs.TextRows.{tokens}

-- ---- counts

abbrev pub functions_of : List ℕ → ℕ
functions_of text = functions_in (tokens text)

abbrev pub brackets_of : List ℕ → ℕ
brackets_of text = most_open 0 (tokens text)

-- ---- limits

abbrev pub limits : ℕ → ℕ → ℕ → Limits
limits depth nesting brackets = record {
  depth = depth;
  nesting = nesting;
  brackets =
      brackets;
  functions = 2;
}

-- a script of depth 3, with two functions in one another and three brackets open at once
abbrev pub text : List ℕ
text = codes "( function ( ) { function f ( a ) { } } )"

abbrev pub inner : Func
inner = code (Some (codes "f")) (codes "a" ∷ []) NoStmts

abbrev pub tree : Script
tree = MoreStmts (Do (Function (code None [] (MoreStmts (Declare inner) NoStmts)))) NoStmts

abbrev pub IsKept : Limits → Type 0
IsKept limits = Keeps limits (tokens text) tree

-- ---- what is told

-- of a token behind a text, where it is the breaking one and two functions are allowed
abbrev pub told : List ℕ → TokenKind → Answer
told text kind = answer 2 (tokens text) (token kind 0 0 1 1 false)

-- ---- which tokens stand

abbrev pub used_words : List Word
used_words = filter is_used words

abbrev pub are_placed_in : Form → List ℕ → Bool
are_placed_in form text = are_placed form false (tokens text)

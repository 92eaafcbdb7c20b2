-- What a tree is written as has the tree again: its tokens, and its text.
use Rattle.std.specs.Prelude.{ℕ, ◌*◌, ◌≡◌, ◌≤◌, true, false, List, [], ◌∷◌, ◌++◌, map, Result}
use Rattle.std.specs.Str.{IsUtf8, chars}
use Rattle.js_lexer.specs.Tokens.{IsTokens, IsErrorOf}
use Rattle.js_lexer.specs.declared.token.LexError.{LexError}
use Rattle.js_lexer.specs.declared.token.LexError.TheVariants as lex
use Rattle.js_lexer.specs.declared.token.Token.{Token}
use Rattle.js_lexer.specs.declared.token.TokenKind.{TokenKind}
use Rattle.js_tree.specs.Depth.{depth}
use Rattle.js_tree.specs.Tree.{Script}
use Rattle.js_tree.specs.declared.tree.Script as declared
use Rattle.js_parser.specs.declared.error.ParseError.{ParseError}
use Rattle.js_parser.specs.declared.form.Form.{Form}
use Rattle.js_parser.specs.declared.form.Limits.{Limits}
use Rattle.js_parser.specs.Symbols.{Symbol, Symbols, symbols, of_kind, end}
use Rattle.js_parser.specs.Accepted.{Accepted, Derives, most_open}
use Rattle.js_parser.specs.Parses.{IsTree, Parses}
use Rattle.js_printer.specs.Printed.{Kinds, stmts}
use Rattle.js_printer.specs.PrintedText.{script_bytes}
use Rattle.cluster_files.specs.WritableKinds.{AreRead}

-- on one line
abbrev pub on_line : TokenKind → Symbol
on_line kind = of_kind kind false

abbrev pub line_of : Kinds → Symbols
line_of = map on_line

-- The tokens that the tree of a script is written with are a script of this tree.
abbrev pub PrintedTokensReadBack : Type 0
PrintedTokensReadBack =
    (form : Form) (tokens : Symbols) (tree : Script) → Derives form tokens tree
    → Derives form (line_of (stmts tree) ++ (end false ∷ [])) tree

-- The bytes are a text in UTF-8, whose tokens derive the tree.
pub record IsTextOf (form : Form) (tree : Script) (bytes : List ℕ) : Type 0 where
  pub is_text : IsUtf8 bytes
  pub tokens : List Token
  pub cut : IsTokens (chars bytes) tokens
  pub derives : Derives form (symbols tokens) tree

-- Names, numbers and strings among the tokens of a text are such as may be written.
abbrev pub TokensOfTextsAreRead : Type 0
TokensOfTextsAreRead =
    (bytes : List ℕ) (tokens : List Token) → IsUtf8 bytes → IsTokens (chars bytes) tokens
    → AreRead (symbols tokens)

-- Each tree of tokens that may be written has its printed text.
abbrev pub PrintedTreeReadsBack : Type 0
PrintedTreeReadsBack =
    (form : Form) (tokens : Symbols) (tree : Script) → Derives form tokens tree → AreRead tokens
    → IsTextOf form tree (script_bytes tree)

-- Each tree that some text has, its printed text has.
abbrev pub PrintedTextReadsBack : Type 0
PrintedTextReadsBack =
    (form : Form) (tree : Script) (bytes : List ℕ) → IsTextOf form tree bytes
    → IsTextOf form tree (script_bytes tree)

-- The tokens of the printed text are those that the tree is written with: no line terminator stands
-- before one of them, but before the end.
abbrev pub PrintedTextIsItsTokens : Type 0
PrintedTextIsItsTokens =
    (form : Form) (tree : Script) (bytes : List ℕ) (tokens : List Token)
    → IsTextOf form tree bytes → IsTokens (chars (script_bytes tree)) tokens
    → symbols tokens ≡ line_of (stmts tree) ++ (end true ∷ [])

-- No lexical fault is told of it.
abbrev pub PrintedTextIsLexed : Type 0
PrintedTextIsLexed =
    (form : Form) (tree : Script) (bytes : List ℕ) (error : LexError) → IsTextOf form tree bytes
    → IsErrorOf (chars (script_bytes tree)) error → error ≡ lex.OutOfMemory

-- At most two brackets are open at once for each node on the way down to where they are.
abbrev pub PrintedTextHasFewBrackets : Type 0
PrintedTextHasFewBrackets =
    (form : Form) (tree : Script) (bytes : List ℕ) (tokens : List Token)
    → IsTextOf form tree bytes → IsTokens (chars (script_bytes tree)) tokens
    → most_open 0 (symbols tokens) ≤ 2 * depth tree

-- Where a text was accepted within limits, the printed text of its tree is, if it has few enough
-- open brackets: its depth, its nesting and its functions are those of the tree.
abbrev pub PrintedTextIsAccepted : Type 0
PrintedTextIsAccepted =
    (form : Form) (limits : Limits) (tree : Script) (bytes : List ℕ) (tokens printed : List Token)
    → IsUtf8 bytes → IsTokens (chars bytes) tokens → Accepted form limits (symbols tokens) tree
    → IsTokens (chars (script_bytes tree)) printed
    → most_open 0 (symbols printed) ≤ limits.brackets
    → Accepted form limits (symbols printed) tree

-- So what is answered of its tokens is the tree, but for want of memory.
abbrev pub PrintedTextIsParsed : Type 0
PrintedTextIsParsed =
    (form : Form) (limits : Limits) (tree : Script) (bytes : List ℕ) (tokens printed : List Token)
    (result : Result declared.Script ParseError)
    → IsUtf8 bytes → IsTokens (chars bytes) tokens → Accepted form limits (symbols tokens) tree
    → IsTokens (chars (script_bytes tree)) printed
    → most_open 0 (symbols printed) ≤ limits.brackets
    → Parses form limits printed result → IsTree tree result

-- The printed text of the tree of a printed text is that text.
abbrev pub PrintedTwiceIsPrintedOnce : Type 0
PrintedTwiceIsPrintedOnce =
    (form : Form) (tree other : Script) (bytes : List ℕ) → IsTextOf form tree bytes
    → IsTextOf form other (script_bytes tree) → script_bytes other ≡ script_bytes tree

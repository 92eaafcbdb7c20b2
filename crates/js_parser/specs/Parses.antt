-- What `parse` answers.
use Rattle.std.specs.Prelude.{◌≡◌, List, [], ◌∷◌, ◌++◌, Result, Ok, Err, Option, Some, None}
use Rattle.js_lexer.specs.declared.token.Token.{Token}
use Rattle.js_lexer.specs.declared.token.TokenKind.TheVariants as k
use Rattle.js_tree.specs.declared.tree.Script.{Script}
use Rattle.js_tree.specs.Plain as view
use Rattle.js_tree.specs.Tree as plain
use Rattle.js_parser.specs.declared.error.ParseError.{ParseError}
use Rattle.js_parser.specs.declared.error.ParseError.TheVariants.{OutOfMemory}
use Rattle.js_parser.specs.declared.form.Form.{Form}
use Rattle.js_parser.specs.declared.form.Limits.{Limits}
use Rattle.js_parser.specs.Symbols.{symbols}
use Rattle.js_parser.specs.Accepted.{Accepted}
use Rattle.js_parser.specs.Fault.{Answer, Fault}
use Rattle.js_parser.specs.View.{told}

-- the end closes the tokens
pub record IsClosed (tokens : List Token) : Type 0 where
  pub before : List Token
  pub last : Token
  pub whole : tokens ≡ before ++ (last ∷ [])
  pub is : last.kind ≡ k.End

-- None where nothing is told
abbrev pub MayBeTold : Form → Limits → List Token → Option Answer → Type 0
MayBeTold form limits tokens None = Unit {0}
MayBeTold form limits tokens (Some answer) = Fault form limits tokens answer

-- The tree of an accepted script, or what may be told of tokens that are none. Want of memory
-- tells nothing.
abbrev pub Parses : Form → Limits → List Token → Result Script ParseError → Type 0
Parses form limits tokens (Ok script) = Accepted form limits (symbols tokens) (view.script script)
Parses form limits tokens (Err error) = MayBeTold form limits tokens (told error)

-- this tree, but for want of memory
abbrev pub IsTree : plain.Script → Result Script ParseError → Type 0
IsTree tree (Ok script) = view.script script ≡ tree
IsTree tree (Err error) = error ≡ OutOfMemory

-- How one statement or one declaration of a script or of a function is read (ES3 section 14).
use Rattle.std.specs.Prelude.{[], ◌∷◌, Some}
use Rattle.js_lexer.specs.declared.word.Word.TheVariants as w
use Rattle.js_lexer.specs.declared.token.TokenKind.{TokenKind}
use Rattle.js_lexer.specs.declared.token.TokenKind.TheVariants as k
use Rattle.js_tree.specs.Tree.{Stmt}
use Rattle.js_tree.specs.Tree
use Rattle.js_parser.specs.declared.form.Form.{Form}
use Rattle.js_parser.specs.Symbols.{Symbol, Symbols}
use Rattle.js_parser.specs.Names.{is_binding}
use Rattle.js_parser.specs.Contexts.{Context}
use Rattle.js_parser.specs.Grammar.{code}
use Rattle.js_parser.specs.Rooms.{Room, in_function, fits_function}
use Rattle.js_parser.specs.Machine.{State, stuck, rest, statement, To, guard, fitting}

abbrev pub declaration_by : Form → Room → TokenKind → To Stmt → Symbol → Symbols → State
declaration_by form room (k.Name n) next s ts =
    guard (is_binding form n) (s ∷ ts) (rest (in_function room)
    (λ ns body r. next (Tree.Declare (code (Some n) ns body)) r) ts)
declaration_by form room _ next s ts = stuck (s ∷ ts)

-- a declaration, behind its word `function`
abbrev pub declaration : Form → Room → To Stmt → Symbols → State
declaration form room next [] = stuck []
declaration form room next (s ∷ ts) = declaration_by form room s.kind next s ts

abbrev pub element_by : Form → Room → Context → TokenKind → To Stmt → Symbol → Symbols → State
element_by form room c (k.Word w.Function) next s ts =
    fitting (fits_function room) ts (declaration form room next ts)
element_by form room c _ next s ts = statement room c next (s ∷ ts)

abbrev pub element : Form → Room → Context → To Stmt → Symbols → State
element form room c next [] = stuck []
element form room c next (s ∷ ts) = element_by form room c s.kind next s ts

-- behind the word `function`
abbrev pub declared_function : Form → Room → To Stmt → Symbols → State
declared_function form room next ts =
    fitting (fits_function room) ts (declaration form room next ts)

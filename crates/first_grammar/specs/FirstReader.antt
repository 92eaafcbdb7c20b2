-- The first grammar as functions that read a text from its front.
use Rattle.std.specs.Prelude.{ℕ, Bool, not, ◌&&◌, nat_le, ◌==◌, if◌then◌else◌}
use Rattle.std.specs.Prelude.{List, [], Option, codes}
use Rattle.text_reader.specs.Reader.{Reader, ◌>>=◌, ◌>>◌, pure, refuse, either}
use Rattle.text_reader.specs.Reader.{skip, ended, one, run, decimal, up_to, list_after, whole}
use Rattle.js_tree.specs.Numbering.{is_function_number}
use Rattle.first_grammar.specs.declared.script.FirstStatement.{FirstStatement}
use Rattle.first_grammar.specs.declared.script.FirstStatement.TheVariants.{Call, Out}
use Rattle.first_grammar.specs.declared.script.FirstBody.{FirstBody}
use Rattle.first_grammar.specs.declared.script.FirstBody.TheVariants.{Statements, Stub}
use Rattle.first_grammar.specs.declared.script.FirstFunction.{FirstFunction}
use Rattle.first_grammar.specs.declared.script.FirstItem.{FirstItem}
use Rattle.first_grammar.specs.declared.script.FirstItem.TheVariants.{Statement, Function}
use Rattle.first_grammar.specs.declared.script.FirstScript.{FirstScript}
use Rattle.first_grammar.specs.declared.script.FirstEntry.{FirstEntry}

-- ---- bytes and numbers

abbrev pub is_letter : ℕ → Bool
is_letter c = nat_le 97 c && nat_le c 122

abbrev pub is_plain : ℕ → Bool
is_plain c = nat_le 32 c && (nat_le c 126 && (not (c == 34) && not (c == 92)))

abbrev pub letter : Reader ℕ
letter = one is_letter

-- the characters of a string, as many as come
abbrev pub characters : Reader (List ℕ)
characters = run is_plain

unfoldable pub number : Reader ℕ
number = do
  k ← decimal
  if is_function_number k then pure k else refuse

-- ---- the grammar

abbrev pub out : Reader FirstStatement
out = do
  cs ← characters
  skip (codes "\");")
  pure (Out cs)

abbrev pub call : Reader FirstStatement
call = do
  name ← letter
  skip (codes "();")
  pure (Call name)

unfoldable pub statement : Reader FirstStatement
statement = either (skip (codes "host.out(\"")) out call

-- a statement, or the end of statements: a `}`
abbrev pub next_statement : Reader (Option FirstStatement)
next_statement = up_to (skip (codes "}")) statement

-- statements and the `}` after them
unfoldable pub statements : Reader (List FirstStatement)
statements = list_after [] next_statement

abbrev pub stub : Reader FirstBody
stub = do
  k ← number
  skip (codes ")).apply(this,arguments);}")
  pure (Stub k)

abbrev pub plain_body : Reader FirstBody
plain_body = do
  ss ← statements
  pure (Statements ss)

-- a body and the `}` after it
unfoldable pub body : Reader FirstBody
body = either (skip (codes "return eval($dl_get(")) stub plain_body

unfoldable pub function : Reader FirstFunction
function = do
  name ← letter
  skip (codes "(){")
  body ← body
  pure (record { name = name; body = body })

abbrev pub function_item : Reader FirstItem
function_item = do
  f ← function
  pure (Function f)

abbrev pub statement_item : Reader FirstItem
statement_item = do
  s ← statement
  pure (Statement s)

unfoldable pub item : Reader FirstItem
item = either (skip (codes "function ")) function_item statement_item

-- an item, or the end of items: a line feed
abbrev pub next_item : Reader (Option FirstItem)
next_item = up_to (skip (codes "\n")) item

-- items and the line feed after them
unfoldable pub items : Reader (List FirstItem)
items = list_after [] next_item

unfoldable pub script : Reader FirstScript
script = do
  is ← items
  ended
  pure (record { items = is })

unfoldable pub entry : Reader FirstEntry
entry = do
  k ← number
  skip (codes " (function(){")
  ss ← statements
  skip (codes ")\n")
  pure (record { number = k; body = ss })

-- an entry, or the end of the text
abbrev pub next_entry : Reader (Option FirstEntry)
next_entry = up_to ended entry

-- entries up to the end of the text
unfoldable pub entries : Reader (List FirstEntry)
entries = list_after [] next_entry

-- the script of a text, where it is one of the first grammar
unfoldable pub read_script : List ℕ → Option FirstScript
read_script bs = whole (script bs)

-- the entries of a cluster file, where it is one of the first grammar
unfoldable pub read_cluster : List ℕ → Option (List FirstEntry)
read_cluster bs = whole (entries bs)

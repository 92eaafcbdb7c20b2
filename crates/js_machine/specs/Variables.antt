-- Variable statements (ES3 12.2).
use Rattle.object_heap.specs.Names.{Name}
use Rattle.js_tree.specs.Tree.{MaybeExpr, NoExpr, AnExpr, VarItems, NoVarItems, MoreVarItems}
use Rattle.js_machine.specs.Asks.{Program, Env}
use Rattle.js_machine.specs.Frames.{◌>>=◌, ◌>>◌, value_of}
use Rattle.js_machine.specs.References.{resolve, put_value}

-- a declarator with an initialiser writes to its name, which is no node
abbrev pub variable : Name → MaybeExpr → Env → Program → Program
variable name NoExpr env p = p
variable name (AnExpr e) env p = do
  it ← resolve env.chain name
  v ← value_of e env
  put_value it v
  p

abbrev pub variables : VarItems → Env → Program → Program
variables NoVarItems env p = p
variables (MoreVarItems name e rest) env p = do
  variable name e env
  variables rest env p

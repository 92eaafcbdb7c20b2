-- How the reading of a whole script ends.
use Rattle.std.specs.Prelude.{ℕ, ◌-◌, ◌≡◌, ◌≤◌, ◌<◌, nat_lt, if◌then◌else◌, false, List, [], ◌∷◌, ◌++◌, Result, Ok, Err, length, map}
use Rattle.js_tree.specs.declared.tree.Stmt.{Stmt}
use Rattle.js_tree.specs.Plain as view
use Rattle.js_tree.specs.Tree as plain
use Rattle.js_parser.specs.declared.form.Form.{Form}
use Rattle.js_parser.specs.declared.form.Limits.{Limits}
use Rattle.js_parser.specs.declared.scan.Halt.{Halt}
use Rattle.js_parser.specs.declared.scan.Halt.TheVariants as halt
use Rattle.js_parser.specs.declared.stop.Stop.{Stop}
use Rattle.js_parser.specs.declared.stop.Stop.TheVariants.{Broken, Deep, OutOfMemory}
use Rattle.js_parser.specs.Symbols.{Symbol, Symbols, first, end}
use Rattle.js_parser.specs.Contexts as context
use Rattle.js_tree.specs.Depth.{depth, nesting}
use Rattle.js_parser.specs.Grammar.{SourceElements}
use Rattle.js_parser.specs.Rooms.{of_limits}
use Rattle.js_parser.specs.Machine.{To, done, stuck, deep, source, finished, script, Goes}
use Rattle.js_parser.specs.Elements.{element}

-- elements that keep the limits of depth and nesting, before the token `next`
pub record Begun (form : Form) (limits : Limits) (before : Symbols) (next : Symbol)
    (trees : plain.Stmts) : Type 0 where
  pub derives : SourceElements form context.script before next trees
  pub not_too_deep : depth trees ≤ limits.depth
  pub not_too_nested : nesting trees ≤ limits.nesting

-- a script of these symbols, of which those before have been read
pub record Within (form : Form) (limits : Limits) (ts before own : Symbols) : Type 0 where
  pub whole : ts ≡ before ++ own
  pub trees : plain.Stmts
  pub begun : Begun form limits before (first own (end false)) trees

pub data Scanned (form : Form) (limits : Limits) (ts : Symbols)
    : Result (List Stmt) Halt → Type 0 where
  read : {ss : List Stmt} → Goes form (script (of_limits limits) ts) (done (view.body ss))
      → Scanned form limits ts (Ok ss)
  broken : (at : ℕ) (used rest : Symbols) (s : Symbol) → ts ≡ used ++ (s ∷ rest)
      → length used ≡ at → Goes form (script (of_limits limits) ts) (stuck (s ∷ rest))
      → Scanned form limits ts (Err (halt.Broken at))
  used_up : (begun : ℕ) (before own : Symbols) → Within form limits ts before own
      → length before ≡ begun → Goes form (script (of_limits limits) ts) (stuck [])
      → ((next : To plain.Stmt)
      → Goes form (element form (of_limits limits) context.script next own) (stuck []))
      → Scanned form limits ts (Err (halt.UsedUp begun))
  deep_in : (begun : ℕ) (before own rest : Symbols) → Within form limits ts before own
      → length before ≡ begun → length rest ≤ length own
      → ((next : To plain.Stmt)
      → Goes form (element form (of_limits limits) context.script next own) (deep rest))
      → Goes form (script (of_limits limits) ts) (deep rest)
      → Scanned form limits ts (Err (halt.Deep begun))
  out_of_memory : Scanned form limits ts (Err halt.OutOfMemory)

-- ---- on the way

-- The machine has read these statements and declarations of a script, and comes to the rest.
pub record Progress (form : Form) (limits : Limits) (ts rest : Symbols) (ss : List plain.Stmt)
    : Type 0 where
  pub before : Symbols
  pub whole : ts ≡ before ++ rest
  pub begun : Begun form limits before (first rest (end false)) (view.stmts ss)
  pub to : To plain.Stmts
  pub ends : (more : List plain.Stmt) (left : Symbols)
      → to (view.stmts more) left ≡ finished (view.stmts (ss ++ more)) left
  pub run : Goes form (script (of_limits limits) ts)
      (source (of_limits limits) context.script to rest)

-- With one more it has less before it, or it halts in that one.
pub data Continues (form : Form) (limits : Limits) (ts old new : Symbols)
    : Result (List Stmt) Halt → Type 0 where
  goes_on : {ss : List Stmt} → length new < length old
      → Progress form limits ts new (map view.stmt ss) → Continues form limits ts old new (Ok ss)
  halts : {h : Halt} → Scanned form limits ts (Err h) → Continues form limits ts old new (Err h)

-- Behind these statements and declarations the script ends, or reading halts.
pub data Finishes (form : Form) (limits : Limits) (ts : Symbols) (ss : List plain.Stmt)
    : Result (Unit {0}) Halt → Type 0 where
  ends : {u : Unit {0}} → Goes form (script (of_limits limits) ts) (done (view.stmts ss))
      → Finishes form limits ts ss (Ok u)
  halts_there : {h : Halt} → Scanned form limits ts (Err h) → Finishes form limits ts ss (Err h)

-- how reading halts that stops in a statement which begins behind so many tokens
abbrev pub halt_of : Stop → ℕ → ℕ → ℕ → Halt
halt_of Broken begun total left =
    if nat_lt 0 left then halt.Broken (total - left) else halt.UsedUp begun
halt_of Deep begun total left = halt.Deep begun
halt_of OutOfMemory begun total left = halt.OutOfMemory

-- the symbols are a whole script
pub record IsRead (form : Form) (limits : Limits) (ts : Symbols) : Type 0 where
  pub statements : List Stmt
  pub scanned : Scanned form limits ts (Ok statements)

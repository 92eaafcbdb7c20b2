-- A script is read to its end, where there is room for its tree. So it has one tree, and what the
-- machine is stuck at begins no script.
use Rattle.std.proofs.Common.{◌≡◌, ℕ, ◌≤◌, Bool, true, false, [], ◌∷◌, ◌++◌, refl, ap}
use Rattle.js_tree.specs.Tree.{Script, Stmts}
use Rattle.js_tree.specs.Tree
use Rattle.js_parser.specs.declared.form.Form.{Form}
use Rattle.js_parser.specs.declared.form.Limits.{Limits}
use Rattle.js_parser.specs.Symbols.{Symbols, end}
use Rattle.js_tree.specs.Depth.{depth, nesting}
use Rattle.js_parser.specs.Accepted.{Derives}
use Rattle.js_parser.specs.Fault.{Begins}
use Rattle.js_parser.specs.Rooms.{Room, unbounded, of_limits}
use Rattle.js_parser.specs.Machine.{State, done, stuck, step, Goes, run, script, finished}
use Rattle.js_parser.proofs.Runs.{one_end, runs}
use Rattle.js_parser.proofs.Room.{Has, limited, unlimited}
use Rattle.js_parser.proofs.Room as parts
use Rattle.js_parser.proofs.ReadsLevels.{placed}
use Rattle.js_parser.proofs.ReadsScripts.{source-read}

pub script-read : {form : Form} {room : Room} {tokens : Symbols} {tree : Script} → Derives form tokens tree → Has room (parts.stmts tree) → Goes form (script room tokens) (done tree)
script-read {room = room} d has = placed (script room) d.whole (source-read d.derived has finished (end d.newline ∷ []) refl refl)

pub reads : (form : Form) (tokens : Symbols) (tree : Script) → Derives form tokens tree → (limits : Limits) → depth tree ≤ limits.depth → nesting tree ≤ limits.nesting → Goes form (script (of_limits limits) tokens) (done tree)
reads form tokens tree d limits h i = script-read d (limited limits tree h i)

pub reads_unbounded : (form : Form) (tokens : Symbols) (tree : Script) → Derives form tokens tree → Goes form (script unbounded tokens) (done tree)
reads_unbounded form tokens tree d = script-read d (unlimited (parts.stmts tree))

-- ---- one tree

abbrev tree_of : State → Stmts
tree_of (done ss) = ss
tree_of _ = Tree.NoStmts

pub one_tree : (form : Form) (tokens : Symbols) (tree other : Script) → Derives form tokens tree → Derives form tokens other → tree ≡ other
one_tree form tokens tree other d e = ap tree_of (one_end refl refl (reads_unbounded form tokens tree d) (reads_unbounded form tokens other e))

-- ---- stuck

abbrev pub is_stuck : State → Bool
is_stuck (stuck left) = true
is_stuck _ = false

pub stuck-stays : (form : Form) (s : State) → is_stuck s ≡ true → step form s ≡ s
stuck-stays form (stuck left) h = refl
stuck-stays form _ h = cc

-- what the machine is stuck at within some steps, whatever follows, begins no script
pub never : (form : Form) (functions : ℕ) (used : Symbols) (n : ℕ) → ((more : Symbols) → is_stuck (run form n (script unbounded (used ++ more))) ≡ true) → Begins form functions used → ⊥
never form functions used n h b =
    let last = run form n (script unbounded (used ++ b.more)) in
    let e = ap is_stuck (one_end refl (stuck-stays form last (h b.more)) (reads_unbounded form (used ++ b.more) b.tree b.unlimited.derives) (runs form n (script unbounded (used ++ b.more)))) in
    let f = h b.more in cc

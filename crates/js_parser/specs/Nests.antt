-- Function values that read expressions, functions and statements, of fewer tokens than so many.
use Rattle.std.specs.Prelude.{ℕ, ◌≤◌, ◌<◌, Bool, Option, Result, length}
use Rattle.std.specs.declared.alloc.Global.{Global}
use denote.Ref.{Bor, MutBor}
use Rattle.js_tree.specs.Plain as view
use Rattle.js_tree.specs.Tree.{Name}
use Rattle.js_tree.specs.declared.tree.Expr.{Expr}
use Rattle.js_tree.specs.declared.tree.Func.{Func}
use Rattle.js_tree.specs.declared.tree.Stmt.{Stmt}
use Rattle.js_parser.specs.declared.form.Form.{Form}
use Rattle.js_parser.specs.declared.part.Part.{Part}
use Rattle.js_parser.specs.declared.rooms.Room.{Room}
use Rattle.js_parser.specs.declared.context.Context.{Context}
use Rattle.js_parser.specs.declared.stop.Stop.{Stop}
use Rattle.js_parser.specs.Symbols.{Symbols}
use Rattle.js_parser.specs.Machine.{statement}
use Rattle.js_parser.specs.Pieces.{part_rule, function_rule}
use Rattle.js_parser.specs.Reads.{Reads}
use Rattle.js_parser.specs.View as rust

pub record Expressions (form : Form) (bound : ℕ)
    (pre : Global → MutBor Symbols → Form → Room → Bool → Part → Type 0)
    (post : Global → MutBor Symbols → Form → Room → Bool → Part → Result Expr Stop
    → MutBor Symbols → Type 0) : Type 0 where
  pub callable : (alloc : Global) (old : MutBor Symbols) (room : Room) (i : Bool) (part : Part)
      → length old.now < bound → pre alloc old form room i part
  pub reads : (alloc : Global) (old new : MutBor Symbols) (room : Room) (i : Bool) (part : Part)
      (r : Result Expr Stop) → post alloc old form room i part r new
      → Reads form view.expr (part_rule part (rust.room room) i) r old.now new.now
  pub shorter : (alloc : Global) (old new : MutBor Symbols) (room : Room) (i : Bool) (part : Part)
      (r : Result Expr Stop) → post alloc old form room i part r new
      → length new.now ≤ length old.now

pub record Functions (form : Form) (bound : ℕ)
    (pre : Global → MutBor Symbols → Form → Room → Option Name → Type 0)
    (post : Global → MutBor Symbols → Form → Room → Option Name → Result Func Stop
    → MutBor Symbols → Type 0) : Type 0 where
  pub callable : (alloc : Global) (old : MutBor Symbols) (room : Room) (name : Option Name)
      → length old.now < bound → pre alloc old form room name
  pub reads : (alloc : Global) (old new : MutBor Symbols) (room : Room) (name : Option Name)
      (r : Result Func Stop) → post alloc old form room name r new
      → Reads form view.func (function_rule name (rust.room room)) r old.now new.now
  pub shorter : (alloc : Global) (old new : MutBor Symbols) (room : Room) (name : Option Name)
      (r : Result Func Stop) → post alloc old form room name r new
      → length new.now ≤ length old.now

pub record Statements (form : Form) (bound : ℕ)
    (pre : Global → MutBor Symbols → Form → Room → Bor Context → Type 0)
    (post : Global → MutBor Symbols → Form → Room → Bor Context → Result Stmt Stop
    → MutBor Symbols → Type 0) : Type 0 where
  pub callable : (alloc : Global) (old : MutBor Symbols) (room : Room) (context : Bor Context)
      → length old.now < bound → pre alloc old form room context
  pub reads : (alloc : Global) (old new : MutBor Symbols) (room : Room) (context : Bor Context)
      (r : Result Stmt Stop) → post alloc old form room context r new
      → Reads form view.stmt (statement (rust.room room) (rust.context context.now)) r old.now
      new.now
  pub shorter : (alloc : Global) (old new : MutBor Symbols) (room : Room) (context : Bor Context)
      (r : Result Stmt Stop) → post alloc old form room context r new
      → length new.now ≤ length old.now

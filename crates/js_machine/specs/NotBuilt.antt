-- Where the machine stops since what comes next is not built yet.
use Rattle.std.specs.Prelude.{◌≡◌, Bool, true, false, List, [], ◌∷◌, Option, Some, None}
use Rattle.js_values.specs.declared.value.Value.{Value}
use Rattle.js_values.specs.Values.{number_of, text_of}
use Rattle.object_heap.specs.Names.{Name}
use Rattle.object_heap.specs.Objects.{Heap}
use Rattle.js_tree.specs.declared.tree.BinaryOp.{BinaryOp}
use Rattle.js_tree.specs.Plain.{expr, stmt}
use Rattle.js_tree.specs.Plain as view
use Rattle.js_tree.specs.Tree.{Func, Stmts, NoStmts, MoreStmts}
use Rattle.js_calls.specs.Declared.{functions_of}
use Rattle.js_code.specs.Cursors.{stmts_from}
use Rattle.js_machine.specs.declared.frame.Frame.{Frame}
use Rattle.js_machine.specs.declared.frame.Frame.TheVariants as frame
use Rattle.js_machine.specs.declared.frame.Control.{Control}
use Rattle.js_machine.specs.declared.frame.Control.TheVariants as control
use Rattle.js_machine.specs.declared.frame.Unbuilt.{Unbuilt}
use Rattle.js_machine.specs.declared.frame.Unbuilt.TheVariants as unbuilt
use Rattle.js_machine.specs.declared.hosts.HostCall.{HostCall}
use Rattle.js_machine.specs.declared.machine.Machine.{Machine}
use Rattle.js_machine.specs.Conversions.{HintNumber, HintString}
use Rattle.js_machine.specs.Converted.{enters_operated, enters_value}
use Rattle.js_machine.specs.Operated.{is_object, operated}
use Rattle.js_machine.specs.Globals.{name_in, unary_of, value_of_global}
use Rattle.js_machine.specs.Members.{is_base, is_native}
use Rattle.js_machine.specs.Built.{is_begun, is_built_expression, is_built_statement}
use Rattle.js_machine.specs.Stacks.{top, below}

-- an operator that does not give its result at once and enters a function for it, or is not built
abbrev pub EntersOperated : Heap → List HostCall → BinaryOp → Value → Value → Type 0
EntersOperated heap hosts op v w =
    (operated op v w ≡ None) × (enters_operated heap hosts op v w ≡ true)

-- the text of a value that has none at once comes of a function
abbrev pub EntersForText : Heap → List HostCall → Value → Type 0
EntersForText heap hosts v = (text_of v ≡ None) × (enters_value heap hosts HintString v ≡ true)

-- the newest value is for what enters a function, or for an operator that is not built
abbrev pub LooksInside : Heap → List HostCall → List Frame → List Value → Type 0
LooksInside heap hosts [] vs = ⊥
LooksInside heap hosts (frame.Left op right ∷ fs) vs = ⊥
LooksInside heap hosts (frame.Right op ∷ fs) vs =
    EntersOperated heap hosts op (top (below vs)) (top vs)
LooksInside heap hosts (frame.And right ∷ fs) vs = ⊥
LooksInside heap hosts (frame.Or right ∷ fs) vs = ⊥
LooksInside heap hosts (frame.Comma right ∷ fs) vs = ⊥
LooksInside heap hosts (frame.Cond first second ∷ fs) vs = ⊥
LooksInside heap hosts (frame.Do ∷ fs) vs = ⊥
LooksInside heap hosts (frame.Next ss i ∷ fs) vs = ⊥
LooksInside heap hosts (frame.If s ∷ fs) vs = ⊥
LooksInside heap hosts (frame.Test s ∷ fs) vs = ⊥
LooksInside heap hosts (frame.Turn s ∷ fs) vs = ⊥
LooksInside heap hosts (frame.Again s ∷ fs) vs = ⊥
LooksInside heap hosts (frame.Store target ∷ fs) vs = ⊥
LooksInside heap hosts (frame.StoreWith op target ∷ fs) vs =
    EntersOperated heap hosts op (top (below vs)) (top vs)
LooksInside heap hosts (frame.Unary op ∷ fs) vs =
    (unary_of op (top vs) ≡ None) × (enters_value heap hosts HintNumber (top vs) ≡ true)
LooksInside heap hosts (frame.Type ∷ fs) vs = ⊥
LooksInside heap hosts (frame.Var i items ∷ fs) vs = ⊥
LooksInside heap hosts (frame.ForVar i items s ∷ fs) vs = ⊥
LooksInside heap hosts (frame.Callee callee es ∷ fs) vs = ⊥
LooksInside heap hosts (frame.Argument i callee es ∷ fs) vs = ⊥
LooksInside heap hosts (frame.Base e ∷ fs) vs = ⊥
LooksInside heap hosts (frame.Key e ∷ fs) vs =
    (is_base (top (below vs)) ≡ true) × EntersForText heap hosts (top vs)
LooksInside heap hosts (frame.Put ∷ fs) vs = ⊥
LooksInside heap hosts (frame.PutWith op ∷ fs) vs =
    EntersOperated heap hosts op (top (below vs)) (top vs)
LooksInside heap hosts (frame.Changed op gives_new ∷ fs) vs =
    (number_of (top vs) ≡ None) × (enters_value heap hosts HintNumber (top vs) ≡ true)
LooksInside heap hosts (frame.Element i es ∷ fs) vs = ⊥
LooksInside heap hosts (frame.Pair i ps ∷ fs) vs = ⊥
LooksInside heap hosts (frame.In ∷ fs) vs =
    (is_object (top vs) ≡ true) × EntersForText heap hosts (top (below vs))
LooksInside heap hosts (frame.VisitsFrom s ∷ fs) vs = ⊥
LooksInside heap hosts (frame.Visits s ∷ fs) vs = ⊥
LooksInside heap hosts (frame.Visit left s ∷ fs) vs = ⊥
LooksInside heap hosts (frame.VisitBase left s ∷ fs) vs = ⊥
LooksInside heap hosts (frame.VisitKey left s ∷ fs) vs =
    (is_base (top (below vs)) ≡ true) × EntersForText heap hosts (top vs)

-- whether a list goes on with a statement that is begun, or ends
abbrev pub goes_on_built : Stmts → Bool
goes_on_built NoStmts = true
goes_on_built (MoreStmts s ss) = is_begun s

abbrev pub has_functions : List Func → Bool
has_functions [] = false
has_functions (f ∷ fs) = true

-- whether a name has an object for its value whose number comes of a function
abbrev pub holds_entered : Heap → List HostCall → Option Value → Bool
holds_entered heap hosts None = false
holds_entered heap hosts (Some v) = enters_value heap hosts HintNumber v

abbrev pub names_entered : Heap → List HostCall → Option Name → Bool
names_entered heap hosts None = false
names_entered heap hosts (Some name) = holds_entered heap hosts (value_of_global heap name)

abbrev pub IsNotBuilt : Unbuilt → Machine → Type 0
IsNotBuilt (unbuilt.Expr e) m = is_built_expression (expr e) ≡ false
IsNotBuilt (unbuilt.Stmt s) m = is_built_statement (stmt s) ≡ false
IsNotBuilt (unbuilt.Body s) m = is_built_statement (stmt s) ≡ false
IsNotBuilt unbuilt.Give m = LooksInside m.heap m.hosts m.frames m.values
IsNotBuilt (unbuilt.List ss i) m = goes_on_built (stmts_from ss i) ≡ false
IsNotBuilt (unbuilt.Script ss) m = has_functions (functions_of (view.body ss)) ≡ true
-- its value is converted by a function
IsNotBuilt (unbuilt.Change op gives_new target) m =
    names_entered m.heap m.hosts (name_in (expr target)) ≡ true
-- a function of the start
IsNotBuilt (unbuilt.Enter count o) m = is_native m.heap o.0 ≡ true

-- the machine says that something is not built only where that is so
abbrev pub StopsRightly : Control → Machine → Type 0
StopsRightly (control.Expr e) m = Unit {0}
StopsRightly (control.Stmt s) m = Unit {0}
StopsRightly (control.Body s) m = Unit {0}
StopsRightly (control.Call count callee) m = Unit {0}
StopsRightly (control.Enter count o) m = Unit {0}
StopsRightly control.Give m = Unit {0}
StopsRightly control.Done m = Unit {0}
StopsRightly control.Break m = Unit {0}
StopsRightly control.Continue m = Unit {0}
StopsRightly control.Throw m = Unit {0}
StopsRightly (control.End e) m = Unit {0}
StopsRightly (control.Unbuilt what) m = IsNotBuilt what m

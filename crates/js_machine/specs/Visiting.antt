-- What a `for-in` without labels does in the one scope, between what it waits for (ES3 12.6.4).
use Rattle.std.specs.Prelude.{ℕ, zero, suc, Bool, if◌then◌else◌, List, [], ◌∷◌}
use Rattle.std.specs.Prelude.{Option, Some, None, is_some}
use Rattle.js_values.specs.declared.value.Value.{Value}
use Rattle.js_values.specs.declared.value.Value.TheVariants as value
use Rattle.exceptions_core.specs.declared.completion.Frame.TheVariants as frame
use Rattle.exceptions_core.specs.declared.completion.Landing.{Landing}
use Rattle.object_heap.specs.Names.{Name}
use Rattle.object_heap.specs.Objects.{Heap, attributes_of}
use Rattle.object_heap.specs.Visited.{Visit}
use Rattle.js_tree.specs.Tree.{Expr, ForTarget, AVar, Target}
use Rattle.js_tree.specs.Tree as tree
use Rattle.js_code.specs.Projections.{ForInTree}
use Rattle.js_machine.specs.Asks.{Program, Begin, Visible, ATurn}
use Rattle.js_machine.specs.Conversions.{to_name, to_object}
use Rattle.js_machine.specs.Frames.{done, at_frame, value_of}
use Rattle.js_machine.specs.Literals.{object_number}
use Rattle.js_machine.specs.Loops.{for_in, next_or_left, visited_object, visits, write_name}
use Rattle.js_machine.specs.Members.{text_in}
use Rattle.js_machine.specs.Page.{script_env}
use Rattle.js_machine.specs.References.{global_object, put, put_on, throws_reference_error}
use Rattle.js_machine.specs.Stacks.{top, below}
use Rattle.js_machine.specs.State.{object_value}

-- ---- visits on the stack: each is an object over a name

abbrev pub visit_on : List Value → Visit
visit_on vs = (object_number (top vs), text_in (top (below vs)))

-- so many visits, the next one first
abbrev pub visits_on : ℕ → List Value → List Visit
visits_on zero vs = []
visits_on (suc count) vs = visit_on vs ∷ visits_on count (below (below vs))

abbrev pub without_visits : ℕ → List Value → List Value
without_visits zero vs = vs
without_visits (suc count) vs = without_visits count (below (below vs))

abbrev pub with_visits : List Visit → List Value → List Value
with_visits [] vs = vs
with_visits (v ∷ more) vs = object_value v.0 ∷ value.Str v.1 ∷ with_visits more vs

-- ---- a visit is skipped where its object has no such property any more

abbrev pub is_there : Heap → Visit → Bool
is_there heap v = is_some (attributes_of heap v.0 v.1)

abbrev pub from_next : Heap → List Visit → List Visit
from_next heap [] = []
from_next heap (v ∷ vs) = if is_there heap v then v ∷ vs else from_next heap vs

-- ---- what is left of a `for-in`; of anything else nothing is

abbrev pub for_in_begun : Option ForInTree → Program
for_in_begun None = done
for_in_begun (Some p) = for_in [] p.target p.object p.body script_env

abbrev pub visits_left : Option ForInTree → List Visit → Program
visits_left None vs = done
visits_left (Some p) vs = visits [] p.target p.body script_env vs

-- a turn ended
abbrev pub next_visit : Option ForInTree → List Visit → Landing → Program
next_visit p vs = next_or_left (visits_left p vs)

-- the object has its value
abbrev pub visiting : Option ForInTree → Value → Program
visiting p v = to_object v (Visible (visited_object v) (visits_left p))

-- the object is begun
abbrev pub before_visits : Option ForInTree → Program
before_visits None = done
before_visits (Some p) = value_of p.object script_env (visiting (Some p))

-- an initialiser has its value
abbrev pub initialised : ForTarget → Value → Program → Program
initialised (AVar name e) v p = put global_object name v p
initialised (Target e) v p = p

abbrev pub visits_from : Option ForInTree → Value → Program
visits_from None v = done
visits_from (Some p) v = initialised p.target v (before_visits (Some p))

-- ---- a turn

-- its name is written: the body, and then the visits that are left
abbrev pub named_turn : Option ForInTree → List Visit → Program
named_turn None vs = done
named_turn (Some p) vs =
    Begin (ATurn p.body) script_env (at_frame (frame.Loop []) (next_visit (Some p) vs))

-- the target of its name is begun
abbrev pub visit_begun : Option ForInTree → Name → List Visit → Program
visit_begun None name vs = done
visit_begun (Some p) name vs = write_name p.target name script_env (named_turn (Some p) vs)

-- the key of that target has its value
abbrev pub on_key : Value → Name → Program → Value → Program
on_key base name p key = to_object base (to_name key (λ x. put_on base x (value.Str name) p))

-- its base has; the value of what is no member is no reference
abbrev pub on_base : Expr → Name → Program → Value → Program
on_base (tree.Dot object x) name p base = to_object base (put_on base x (value.Str name) p)
on_base (tree.Index object key) name p base = value_of key script_env (on_key base name p)
on_base _ name p base = throws_reference_error

abbrev pub on_target : ForTarget → Name → Program → Value → Program
on_target (AVar x e) name p base = throws_reference_error
on_target (Target e) name p base = on_base e name p base

abbrev pub visit_based : Option ForInTree → Name → List Visit → Value → Program
visit_based None name vs base = done
visit_based (Some p) name vs base = on_target p.target name (named_turn (Some p) vs) base

-- What is left of an array or an object literal, once its object is there (ES3 11.1.4, 11.1.5).
use Rattle.std.specs.Prelude.{◌≡◌, ℕ, suc, Bool, true, false}
use Rattle.js_values.specs.declared.value.Value.{Value}
use Rattle.js_values.specs.declared.value.Value.TheVariants as value
use Rattle.object_heap.specs.Names.{decimal}
use Rattle.js_tree.specs.Tree.{Elements, NoElements, MoreElements, NoExpr, AnExpr}
use Rattle.js_tree.specs.Tree.{Pairs, NoPairs, MorePairs}
use Rattle.js_machine.specs.Asks.{Program}
use Rattle.js_machine.specs.Frames.{done, gives}
use Rattle.js_machine.specs.Page.{script_env}
use Rattle.js_machine.specs.Primary.{elements, pairs}
use Rattle.js_machine.specs.References.{put}
use Rattle.js_machine.specs.State.{object_value}

-- the number of an object that stands on the stack
abbrev pub object_number : Value → ℕ
object_number (value.Object o) = o.0
object_number _ = 0

abbrev pub elements_left : Elements → ℕ → ℕ → Program
elements_left es o index = elements es o index script_env (gives (object_value o))

abbrev pub pairs_left : Pairs → ℕ → Program
pairs_left ps o = pairs ps o script_env (gives (object_value o))

-- the element of this index has its value
abbrev pub element_given : Elements → ℕ → ℕ → Value → Program
element_given rest o index v = put o (decimal index) v (elements_left rest o (suc index))

-- the first of the pairs has its value
abbrev pub pair_given : Pairs → ℕ → Value → Program
pair_given NoPairs o v = done
pair_given (MorePairs key e rest) o v = put o key v (pairs_left rest o)

-- ---- holes, which count in `length` alone

abbrev pub Skips : Elements → ℕ → Elements → ℕ → Type 0
Skips es i fs j = (o : ℕ) → elements_left es o i ≡ elements_left fs o j

abbrev pub begins_with_hole : Elements → Bool
begins_with_hole NoElements = false
begins_with_hole (MoreElements NoExpr rest) = true
begins_with_hole (MoreElements (AnExpr e) rest) = false

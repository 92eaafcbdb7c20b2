-- The errors.
use Rattle.std.proofs.Common.{ℕ, ◌≤◌, [], ◌∷◌, ◌++◌}
use Rattle.std.specs.Prelude.{codes}
use Rattle.js_values.specs.declared.value.Value.{Value}
use Rattle.object_heap.specs.declared.built_in.BuiltIn.{BuiltIn}
use Rattle.object_heap.specs.BuiltIns.{number_of}
use Rattle.object_heap.specs.Names.{Name}
use Rattle.js_natives.specs.Errors.{with_message, error, described, error_to_string}
use Rattle.js_natives.specs.Program.{Program}
use Rattle.js_machine.specs.Reachable as fits
use Rattle.js_machine.specs.Reachable.{Counts, IsInReach, ValueFits}
use Rattle.js_machine.proofs.fitting.Growth.{grows_on, started, is_there, later_reach, later_value}
use Rattle.js_machine.proofs.fitting.natives.Family as asks
use Rattle.js_machine.proofs.fitting.natives.Family.{NativeFits}
use Rattle.js_machine.proofs.fitting.natives.Convert.{Row, made_text_fits, this_object_fits, argument_fits}

with_message_fits : {w : Counts} {a : Value} {made : ℕ} {p : Program} → ValueFits w a → IsInReach w made → NativeFits w p → NativeFits w (with_message a made p)
with_message_fits fits.str made p = asks.write (is_there made) fits.str p
with_message_fits fits.undefined made p = p
with_message_fits fits.null made p = p
with_message_fits fits.bool made p = p
with_message_fits fits.num made p = p
with_message_fits (fits.object o) made p = p

pub error_fits : (prototype : BuiltIn) → number_of prototype ≤ 64 → Row (error prototype)
error_fits prototype le w this args t vs =
    asks.make (started (number_of prototype) le) (λ v g o p. with_message_fits (later_value g (argument_fits vs 0)) p (asks.done (asks.value (fits.object p))))

described_fits : (name message : Name) {w : Counts} {k : Name → Program} → ((s : Name) → NativeFits w (k s)) → NativeFits w (described name message k)
described_fits name [] h = h name
described_fits name (u ∷ us) h = made_text_fits (name ++ (codes ": " ++ u ∷ us)) _ (h (name ++ (codes ": " ++ u ∷ us)))

pub error_to_string_fits : Row error_to_string
error_to_string_fits w this args t vs =
    this_object_fits t (λ v g o p. asks.get (is_there p) (λ u f a q. asks.text q (λ s e name. asks.get (is_there (later_reach (grows_on f e) p)) (λ s2 e2 b m. asks.text m (λ s3 e3 message.
    described_fits name message (λ s. asks.done (asks.value fits.str)))))))

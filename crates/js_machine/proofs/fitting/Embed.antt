-- The natives' programs as programs of the machine.
use Rattle.std.proofs.Common.{List, arith}
use Rattle.std.specs.Prelude.{Option, Some, None}
use Rattle.js_values.specs.declared.value.Value.{Value}
use Rattle.object_heap.specs.declared.built_in.BuiltIn.{BuiltIn}
use Rattle.object_heap.specs.declared.built_in.BuiltIn.TheVariants as built
use Rattle.js_natives.specs.declared.answer.Answer.{Answer}
use Rattle.js_natives.specs.declared.answer.ErrorKind.{ErrorKind}
use Rattle.js_natives.specs.declared.answer.ErrorKind.TheVariants as error
use Rattle.js_natives.specs.declared.native.Native.{Native}
use Rattle.js_natives.specs.Natives.{calls_of}
use Rattle.js_natives.specs.Program as native
use Rattle.js_machine.specs.Embed.{error_prototype, answered, embed, constructed_by, construct_native}
use Rattle.js_machine.specs.Kinds.{class_by}
use Rattle.js_machine.specs.References.{throws}
use Rattle.js_machine.specs.Reachable as fits
use Rattle.js_machine.specs.Reachable.{Each, Counts, ValueFits}
use Rattle.js_machine.proofs.fitting.Family as asks
use Rattle.js_machine.proofs.fitting.Family.{ProgramFits, later_program}
use Rattle.js_machine.proofs.fitting.Frames.{gives_fits}
use Rattle.js_machine.proofs.fitting.References.{new_object_fits, throws_fits, type_error_fits, get_fits, put_fits}
use Rattle.js_machine.proofs.fitting.Conversions.{to_number_fits, to_text_fits}
use Rattle.js_machine.proofs.fitting.natives.Family as natives
use Rattle.js_machine.proofs.fitting.natives.Family.{AnswerFits, NativeFits}
use Rattle.js_machine.proofs.fitting.natives.Natives.{native_fits}

thrown_fits : (kind : ErrorKind) {w : Counts} → ProgramFits w (throws (error_prototype kind))
thrown_fits error.TypeError = throws_fits built.TypeErrorPrototype (omega arith)
thrown_fits error.ReferenceError = throws_fits built.ReferenceErrorPrototype (omega arith)
thrown_fits error.RangeError = throws_fits built.RangeErrorPrototype (omega arith)

answered_fits : {w : Counts} {a : Answer} → AnswerFits w a → ProgramFits w (answered a)
answered_fits (natives.value a) = gives_fits a
answered_fits (natives.throw {kind = kind}) = thrown_fits kind
answered_fits natives.stop = asks.stop

pub embed_fits : {w : Counts} {p : native.Program} → NativeFits w p → ProgramFits w (embed p)
embed_fits (natives.done a) = answered_fits a
embed_fits (natives.step p) = asks.tick (embed_fits p)
embed_fits (natives.text a h) = to_text_fits a (λ v g s. embed_fits (h v g s))
embed_fits (natives.number a h) = to_number_fits a (λ v g n. embed_fits (h v g n))
embed_fits (natives.get {name = name} o h) = get_fits name o (λ v g a q. embed_fits (h v g a q))
embed_fits (natives.put {name = name} o a p) = put_fits name o a (embed_fits p)
embed_fits (natives.listen f p) = asks.listen f (embed_fits p)
embed_fits (natives.make {class = class} p h) = asks.make (new_object_fits class p) (λ v g o q. embed_fits (h v g o q))
embed_fits (natives.class_of o h) = asks.kind_of (fits.object o) (λ v g kind. embed_fits (h v g (class_by kind)))
embed_fits (natives.own o h) = asks.own o (λ v g a. embed_fits (h v g a))
embed_fits (natives.behind o t h) = asks.behind o t (λ v g b. embed_fits (h v g b))
embed_fits (natives.write {name = name} o a p) = put_fits name o a (embed_fits p)
embed_fits (natives.delete o p) = let rest = embed_fits p in asks.delete o (λ v g b. later_program rest g)

-- ---- under `new`

constructed_by_fits : (n : Option Native) {w : Counts} {args : List Value} → Each (ValueFits w) args → ProgramFits w (constructed_by n args)
constructed_by_fits None args = type_error_fits
constructed_by_fits (Some n) args = asks.tick (embed_fits (native_fits n fits.undefined args))

pub construct_native_fits : (b : BuiltIn) {w : Counts} {args : List Value} → Each (ValueFits w) args → ProgramFits w (construct_native b args)
construct_native_fits b args = constructed_by_fits (calls_of b).constructed args

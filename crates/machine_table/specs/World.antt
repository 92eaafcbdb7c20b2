-- What a world was asked, by what it keeps.
use Rattle.std.specs.Prelude.{true, false}
use Rattle.machine_table.specs.declared.world.Kept.{Kept}
use Rattle.machine_table.specs.declared.world.Kept.TheVariants.{Call, Entry, Need}
use Rattle.js_machine.specs.Given.{Asked, Called, Entered, Needed}

abbrev pub asked : Kept → Asked
asked (Call call) = Called call.name call.arguments.items call.answer
asked (Entry number beat) = Entered number beat true
asked (Need number) = Needed number false

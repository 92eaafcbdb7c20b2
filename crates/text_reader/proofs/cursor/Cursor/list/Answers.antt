use Rattle.std.proofs.Common.{rules, arith}
use Rattle.std.proofs.lemmas.Grind.{common_steps}
use Rattle.text_reader.specs.Reader.{list_after}
use Rattle.text_reader.proofs.TurnLemmas.{many_turn, many_done}
use Rattle.text_reader.proofs.cursor.Cursor.list.Goals as goal

pub returns-in_err-item : goal.returns-in_err-item
unfolding list_after
returns-in_err-item g c =
    let e = many_turn (g.R.ListReader.next_item c.args.items.now) c.turns-turns.result c.loop-turn._turn c.loop-turn.found c.loop-turn.self c.loop-turn-test.true in
    first_of (search rules, grind (arith, common_steps))

pub returns-in-None : goal.returns-in-None
unfolding list_after
returns-in-None g c =
    let e = many_turn (g.R.ListReader.next_item c.args.items.now) c.turns-turns.result c.loop-turn._turn c.loop-turn.found c.loop-turn.self c.loop-turn-test.true in
    first_of (search rules, grind (arith, common_steps))

pub loop-turn-preserved : goal.loop-turn-preserved
loop-turn-preserved g c =
    let e = many_turn (g.R.ListReader.next_item c.args.items.now) c.turns-turns.result c.loop-turn._turn c.loop-turn.found c.loop-turn.self c.loop-turn-test.true in
    first_of (search rules, grind (arith, common_steps))

pub returns : goal.returns
unfolding list_after
returns g c =
    let e = many_done (g.R.ListReader.next_item c.args.items.now) c.turns-turns.result c.loop-turn._turn c.loop-turn.found c.loop-turn.self c.loop-turn-test.false in
    first_of (search rules, grind (arith, common_steps))

use Rattle.std.proofs.Common.{refl}
use Rattle.text_reader.proofs.Bytes.{eats_there, eats_none}
use Rattle.text_reader.proofs.cursor.Cursor.eat.Goals as goal

pub returns-in-Some : goal.returns-in-Some
returns-in-Some c = eats_there c.args.front.now c.args.self.now c.self.inside.rest.now c.in-Some.rest.now (cc) c.in-Some.ensures.cases.0 c.in-Some.ensures.cases.1

pub returns-in-None : goal.returns-in-None
returns-in-None c = (eats_none c.args.front.now c.args.self.now c.self.inside.rest.now (cc) c.in-None.ensures.cases, refl)

use Rattle.js_parser.proofs.Digits.{have-one, have-two, have-three, have-four, have-five}
use Rattle.js_parser.proofs.late.digit_count.Goals as goal

pub returns-then-number-lt10 : goal.returns-then-number-lt10
returns-then-number-lt10 c = have-one c.args.number c.if-number-lt10.true

pub returns-then-number-lt100 : goal.returns-then-number-lt100
returns-then-number-lt100 c = have-two c.args.number c.if-number-lt10.false c.if-number-lt100.true

pub returns-then-number-lt1000 : goal.returns-then-number-lt1000
returns-then-number-lt1000 c = have-three c.args.number c.if-number-lt100.false c.if-number-lt1000.true

pub returns-then-number-lt10000 : goal.returns-then-number-lt10000
returns-then-number-lt10000 c = have-four c.args.number c.if-number-lt1000.false c.if-number-lt10000.true

pub returns-else-number-lt10000 : goal.returns-else-number-lt10000
returns-else-number-lt10000 c = have-five c.args.number c.if-number-lt10000.false c.requires

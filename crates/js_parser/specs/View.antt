-- What the parser's values are in the definitions.
use Rattle.std.specs.Prelude.{Option, Some, None}
use Rattle.js_parser.specs.declared.context.Context.{Context}
use Rattle.js_parser.specs.declared.error.ParseError.{ParseError}
use Rattle.js_parser.specs.declared.error.ParseError.TheVariants as p
use Rattle.js_parser.specs.declared.rooms.Room.{Room}
use Rattle.js_parser.specs.declared.operators.Operator.{Operator}
use Rattle.js_parser.specs.declared.operators.Operator.TheVariants as op
use Rattle.js_tree.specs.Levels as levels
use Rattle.js_parser.specs.Contexts as contexts
use Rattle.js_parser.specs.Rooms as rooms
use Rattle.js_parser.specs.Fault.{Answer, Syntax, Refused, TooDeep, TooMany}

abbrev pub room : Room → rooms.Room
room r = record { depth = Some r.depth; nesting = Some r.nesting }

abbrev pub context : Context → contexts.Context
context c = record {
  in_function = c.in_function;
  in_loop = c.in_loop;
  in_switch = c.in_switch;
  labels = c.labels;
  loops = c.loops;
  ahead = c.ahead;
}

abbrev pub operator : Operator → levels.Operator
operator op.LogicalOr = levels.LogicalOr
operator op.LogicalAnd = levels.LogicalAnd
operator (op.Operation o) = levels.Operation o

-- what is told of tokens; nothing where memory ends
abbrev pub told : ParseError → Option Answer
told (p.Syntax place) = Some (Syntax place)
told (p.Construct place construct) = Some (Refused place construct)
told (p.TooDeep place) = Some (TooDeep place)
told (p.TooMany place) = Some (TooMany place)
told p.OutOfMemory = None

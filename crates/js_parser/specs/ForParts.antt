-- What the parser's parts of `for` statements are in the definitions.
use Rattle.js_tree.specs.Plain.{expr, stmt}
use Rattle.js_parser.specs.declared.for_parts.ForRest.{ForRest}
use Rattle.js_parser.specs.declared.for_parts.Iteration.{Iteration}
use Rattle.js_parser.specs.ListViews.{maybe_expr}
use Rattle.js_parser.specs.StatementKinds as kinds

abbrev pub for_rest : ForRest → kinds.ForRest
for_rest rest = record {
  test = maybe_expr rest.test;
  step = maybe_expr rest.step;
  body = stmt rest.body;
}

abbrev pub iteration : Iteration → kinds.Iteration
iteration i = record { object = expr i.object; body = stmt i.body }

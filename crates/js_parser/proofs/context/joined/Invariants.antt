use Rattle.std.proofs.Common.{◌≡◌, ◌++◌, take}
use Rattle.js_parser.proofs.context.joined.Given as goal

abbrev pub invariant-rest : goal.invariant-rest
invariant-rest l = l.names ≡ l.first ++ take l.name-index l.name-items

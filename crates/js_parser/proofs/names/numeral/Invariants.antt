use Rattle.std.proofs.Common.{◌≡◌, take}
use Rattle.js_parser.proofs.names.numeral.Given as goal

abbrev pub invariant-loop-byte : goal.invariant-loop-byte
invariant-loop-byte l = l.units ≡ take l.byte-index l.bytes

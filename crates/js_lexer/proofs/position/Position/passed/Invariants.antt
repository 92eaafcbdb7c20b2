use Rattle.std.proofs.Common.{◌≡◌, ◌+◌, take, drop, length}
use Rattle.std.proofs.Math.Utf8.{encodes}
use Rattle.js_lexer.specs.Position.{passed, IsBounded}
use Rattle.js_lexer.proofs.position.Position.passed.Given as goal

abbrev pub invariant-loop-c : goal.invariant-loop-c
invariant-loop-c l = record {
  value : l.position ≡ passed l.fn.self (take l.c-index l.characters);
  bounded : IsBounded l.position;
  left : l.position.bytes + length (encodes (drop l.c-index l.characters)) ≡ l.fn.self.bytes + length (encodes l.characters);
}

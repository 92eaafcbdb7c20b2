use Rattle.std.proofs.Common.{◌≡◌, ◌+◌, length}
use Rattle.std.proofs.Math.Utf8.{encodes}
use Rattle.js_lexer.specs.Position.{IsBounded}
use Rattle.js_lexer.proofs.Going.{Going}
use Rattle.js_lexer.proofs.lexer.tokens_of.Given as goal

abbrev pub invariant-loop-reading : goal.invariant-loop-reading
invariant-loop-reading l = record {
  going : Going l.text l.rest l.reading.tokens.items l.reading.position l.reading.newline;
  bounded : IsBounded l.reading.position;
  left : l.reading.position.bytes + length (encodes l.rest) ≡ length (encodes l.text);
}

abbrev pub decreases-loop-reading : goal.decreases-loop-reading
decreases-loop-reading l = length l.rest

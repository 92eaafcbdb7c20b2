use Rattle.std.proofs.Common.{◌≡◌, length, drop, map}
use Rattle.std.specs.Str.{bytes_eq}
use Rattle.first_grammar.specs.declared.script.FirstEntry.{FirstEntry}
use Rattle.play.proofs.clusters.is_listed_as.Given as goal

abbrev pub invariant-loop-at : goal.invariant-loop-at
invariant-loop-at l = record {
  same_length : length l.entries ≡ length l.numbers;
  rest : bytes_eq (map (λ (e : FirstEntry). e.number) l.entries) l.numbers
      ≡ bytes_eq (map (λ (e : FirstEntry). e.number) (drop l.at l.entries)) (drop l.at l.numbers);
}

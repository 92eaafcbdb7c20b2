use Rattle.text_reader.specs.Reader as reader
use Rattle.text_reader.proofs.Bytes.{run_sound, run_rest}
use Rattle.text_reader.proofs.cursor.Cursor.decimal.Goals as goal

pub number_of-requires : goal.number_of-requires
number_of-requires c =
    (run_sound reader.is_digit c.args.self.now c.run-digits.result.now _ (c.run-digits.ensures reader.is_digit (λ b a l p. p))).0

pub returns-clause-leaves : goal.returns-clause-leaves
returns-clause-leaves c =
    run_rest reader.is_digit c.args.self.now c.run-digits.result.now _ (c.run-digits.ensures reader.is_digit (λ b a l p. p))

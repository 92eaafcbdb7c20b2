use Rattle.play.proofs.Reading as reading
use Rattle.play.proofs.rows.example_puts_back.Goals as goal

pub returns-clause-put_back : goal.returns-clause-put_back
returns-clause-put_back c = reading.puts_back

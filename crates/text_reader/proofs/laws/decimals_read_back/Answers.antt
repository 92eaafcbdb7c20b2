use Rattle.text_reader.proofs.Numbers.{decimal_before, decimal_at_end, decimal_sound}
use Rattle.text_reader.proofs.laws.decimals_read_back.Goals as goal

pub returns : goal.returns
returns c = record { read = decimal_before; at_end = decimal_at_end; written = decimal_sound }

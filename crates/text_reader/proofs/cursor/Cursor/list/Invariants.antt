use Rattle.std.proofs.Common.{◌≡◌, ◌+◌, ◌-◌, length}
use Rattle.text_reader.specs.Reader.{many}
use Rattle.text_reader.proofs.cursor.Cursor.list.Given as goal

-- what is left goes on as the whole does
abbrev pub invariant-loop-turn : goal.invariant-loop-turn
invariant-loop-turn g l = many (g.R.ListReader.next_item l.items) (length l.fn.self + 1) l.fn.found l.fn.self ≡ many (g.R.ListReader.next_item l.items) (l.turns - l._turn) l.found l.self

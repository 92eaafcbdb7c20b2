use Rattle.std.proofs.Common.{◌≡◌, drop}
use Rattle.js_printer.specs.Parts as parts
use Rattle.js_printer.specs.Written.{all_written}
use Rattle.js_printer.proofs.writer.Printer.names.Given as goal

abbrev pub invariant-loop-name : goal.invariant-loop-name
invariant-loop-name l =
    all_written l.self (parts.names_left l.is_behind (drop l.name-index l.names))
    ≡ all_written l.initial.self (parts.names_left l.initial.is_behind l.names)

use Rattle.std.proofs.Common.{◌≡◌, ◌++◌, map}
use Rattle.js_tree.specs.Plain as view
use Rattle.js_calls.specs.Declared.{functions_of}
use Rattle.js_code.specs.Cursors.{stmts_from}
use Rattle.js_code.proofs.bindings.functions_in.Given as goal

abbrev pub invariant-loop-stmt : goal.invariant-loop-stmt
invariant-loop-stmt l =
    map view.func l.functions.items ++ functions_of (stmts_from l.statements l.stmt-index)
    ≡ functions_of (view.body l.statements)

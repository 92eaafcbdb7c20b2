use Rattle.std.proofs.Common.{◌≡◌, ◌++◌, drop}
use Rattle.js_tree.specs.Parts as parts
use Rattle.js_tree.specs.Plain as view
use Rattle.js_calls.specs.Declared.{vars_in_all, vars_in_cases}
use Rattle.js_code.proofs.bindings.+variables.Given as goal

abbrev pub invariant-add_all-loop-stmt : goal.invariant-add_all-loop-stmt
invariant-add_all-loop-stmt l =
    l.names ++ vars_in_all (view.body (drop l.stmt-index l.body))
    ≡ l.initial.names ++ vars_in_all (view.body l.body)

abbrev pub invariant-add_in_cases-loop-case : goal.invariant-add_in_cases-loop-case
invariant-add_in_cases-loop-case l =
    l.names ++ vars_in_cases (parts.cases (drop l.case-index l.cases))
    ≡ l.initial.names ++ vars_in_cases (parts.cases l.cases)

use Rattle.std.proofs.Common.{take, drop, sym, subst, ◌<◌}
use Rattle.std.proofs.lemmas.List.{take-append-drop}
use Rattle.js_parser.specs.Accepted.{functions_in}
use Rattle.js_parser.specs.Symbols.{symbols}
use Rattle.js_parser.proofs.Parsed.{split, as_halt, broken_of, deep_of, deep_within, few_open, function_follows, function_is_wanted, told_there, told_within, tells, tells_deep}
use Rattle.js_parser.proofs.parsing.parse_to_function.Goals as goal

pub too_deep_at-requires : goal.too_deep_at-requires
too_deep_at-requires c =
    deep_within (deep_of c.args.tokens.now (take c.args.end c.args.tokens.now) (drop c.args.end c.args.tokens.now) (sym (take-append-drop c.args.end c.args.tokens.now)) c.requires.closed c.requires.few (few_open c.args.limits.now _ c.requires.shut)
    (as_halt c.in-Err-Deep.field-0-is c.in-Err-Deep.ensures.err))

pub returns-in-Ok : goal.returns-in-Ok
returns-in-Ok c =
    let s = split c.args.tokens.now c.args.end c.requires.within in
    tells c.answer_at.result (told_there s.count (function_follows c.args.tokens.now (take c.args.end c.args.tokens.now) s.rest s.token s.whole c.requires.few (c.in-Ok.ensures.ok).scanned)) c.answer_at.ensures

pub returns-in-Err-UsedUp : goal.returns-in-Err-UsedUp
returns-in-Err-UsedUp c =
    let s = split c.args.tokens.now c.args.end c.requires.within in
    tells c.answer_at-in-Err-UsedUp.result
    (told_there s.count (function_is_wanted c.args.tokens.now (take c.args.end c.args.tokens.now) s.rest s.token s.whole c.requires.few
    (subst (λ l. c.args.limits.now.functions < functions_in (symbols l)) s.next c.requires.over) (as_halt c.in-Err-UsedUp.field-0-is c.in-Err-UsedUp.ensures.err)))
    c.answer_at-in-Err-UsedUp.ensures

pub returns-in-Err-Broken : goal.returns-in-Err-Broken
returns-in-Err-Broken c =
    tells c.answer_at-in-Err-Broken.result
    (broken_of c.args.tokens.now (take c.args.end c.args.tokens.now) (drop c.args.end c.args.tokens.now) (sym (take-append-drop c.args.end c.args.tokens.now)) c.requires.few (as_halt c.in-Err-Broken.field-0-is c.in-Err-Broken.ensures.err))
    c.answer_at-in-Err-Broken.ensures

pub returns-in-Err-Deep : goal.returns-in-Err-Deep
returns-in-Err-Deep c =
    tells_deep c.too_deep_at.result
    (deep_of c.args.tokens.now (take c.args.end c.args.tokens.now) (drop c.args.end c.args.tokens.now) (sym (take-append-drop c.args.end c.args.tokens.now)) c.requires.closed c.requires.few (few_open c.args.limits.now _ c.requires.shut)
    (as_halt c.in-Err-Deep.field-0-is c.in-Err-Deep.ensures.err))
    c.too_deep_at.ensures

pub answer_at-requires-in-Err-Broken : goal.answer_at-requires-in-Err-Broken
answer_at-requires-in-Err-Broken c =
    told_within (broken_of c.args.tokens.now (take c.args.end c.args.tokens.now) (drop c.args.end c.args.tokens.now) (sym (take-append-drop c.args.end c.args.tokens.now)) c.requires.few (as_halt c.in-Err-Broken.field-0-is c.in-Err-Broken.ensures.err))

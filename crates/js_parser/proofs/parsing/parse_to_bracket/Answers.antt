use Rattle.std.proofs.Common.{◌+◌, take, drop, sym}
use Rattle.std.proofs.lemmas.List.{take-append-drop}
use Rattle.js_parser.proofs.Parsed.{at_bracket, as_halt, broken_of, deep_within, told_within, tells, tells_deep, bracket_deep, bracket_used_up, bracket_unread}
use Rattle.js_parser.proofs.parsing.parse_to_bracket.Goals as goal

pub unreachable-requires : goal.unreachable-requires
unreachable-requires c = bracket_unread (at_bracket c.args.tokens.now c.args.end c.args.limits.now c.requires.within c.requires.few c.requires.shut c.requires.over) (c.in-Ok.ensures.ok).scanned

pub too_deep_at-requires : goal.too_deep_at-requires
too_deep_at-requires c =
    deep_within (bracket_used_up (at_bracket c.args.tokens.now c.args.end c.args.limits.now c.requires.within c.requires.few c.requires.shut c.requires.over) c.requires.closed (as_halt c.in-Err-UsedUp.field-0-is c.in-Err-UsedUp.ensures.err))

pub too_deep_at-requires-in-Err-Deep : goal.too_deep_at-requires-in-Err-Deep
too_deep_at-requires-in-Err-Deep c =
    deep_within (bracket_deep (at_bracket c.args.tokens.now c.args.end c.args.limits.now c.requires.within c.requires.few c.requires.shut c.requires.over) c.requires.closed (as_halt c.in-Err-Deep.field-0-is c.in-Err-Deep.ensures.err))

pub returns-in-Err-Broken : goal.returns-in-Err-Broken
returns-in-Err-Broken c =
    tells c.answer_at.result
    (broken_of c.args.tokens.now (take (c.args.end + 1) c.args.tokens.now) (drop (c.args.end + 1) c.args.tokens.now) (sym (take-append-drop (c.args.end + 1) c.args.tokens.now)) c.requires.few (as_halt c.in-Err-Broken.field-0-is c.in-Err-Broken.ensures.err))
    c.answer_at.ensures

pub returns-in-Err-UsedUp : goal.returns-in-Err-UsedUp
returns-in-Err-UsedUp c =
    tells_deep c.too_deep_at.result
    (bracket_used_up (at_bracket c.args.tokens.now c.args.end c.args.limits.now c.requires.within c.requires.few c.requires.shut c.requires.over) c.requires.closed (as_halt c.in-Err-UsedUp.field-0-is c.in-Err-UsedUp.ensures.err))
    c.too_deep_at.ensures

pub returns-in-Err-Deep : goal.returns-in-Err-Deep
returns-in-Err-Deep c =
    tells_deep c.too_deep_at-in-Err-Deep.result
    (bracket_deep (at_bracket c.args.tokens.now c.args.end c.args.limits.now c.requires.within c.requires.few c.requires.shut c.requires.over) c.requires.closed (as_halt c.in-Err-Deep.field-0-is c.in-Err-Deep.ensures.err))
    c.too_deep_at-in-Err-Deep.ensures

pub answer_at-requires : goal.answer_at-requires
answer_at-requires c =
    told_within (broken_of c.args.tokens.now (take (c.args.end + 1) c.args.tokens.now) (drop (c.args.end + 1) c.args.tokens.now) (sym (take-append-drop (c.args.end + 1) c.args.tokens.now)) c.requires.few (as_halt c.in-Err-Broken.field-0-is c.in-Err-Broken.ensures.err))

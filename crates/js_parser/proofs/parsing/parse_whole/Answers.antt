use Rattle.std.proofs.Common.{[], sym}
use Rattle.std.proofs.lemmas.List.{append-nil}
use Rattle.js_tree.specs.Plain.{body}
use Rattle.js_parser.proofs.Parsed.{as_halt, broken_of, deep_of, deep_within, few_open, read_of, tells, tells_deep, used_up_of}
use Rattle.js_parser.proofs.Verdicts.{accepted_where_done}
use Rattle.js_parser.proofs.parsing.parse_whole.Goals as goal

pub too_deep_at-requires : goal.too_deep_at-requires
too_deep_at-requires c = deep_within (used_up_of c.args.tokens.now c.requires.closed c.requires.few c.requires.shut (as_halt c.in-Err-UsedUp.field-0-is c.in-Err-UsedUp.ensures))

pub too_deep_at-requires-in-Err-Deep : goal.too_deep_at-requires-in-Err-Deep
too_deep_at-requires-in-Err-Deep c =
    deep_within (deep_of c.args.tokens.now c.args.tokens.now [] (sym (append-nil c.args.tokens.now)) c.requires.closed c.requires.few (few_open c.args.limits.now c.args.tokens.now c.requires.shut)
    (as_halt c.in-Err-Deep.field-0-is c.in-Err-Deep.ensures))

pub returns-in-Ok : goal.returns-in-Ok
returns-in-Ok c = accepted_where_done c.args.form c.args.limits.now c.args.tokens.now (body c.in-Ok.body) c.requires.few c.requires.shut (read_of c.in-Ok.ensures)

pub returns-in-Err-Broken : goal.returns-in-Err-Broken
returns-in-Err-Broken c =
    tells c.answer_at.result (broken_of c.args.tokens.now c.args.tokens.now [] (sym (append-nil c.args.tokens.now)) c.requires.few (as_halt c.in-Err-Broken.field-0-is c.in-Err-Broken.ensures)) c.answer_at.ensures

pub returns-in-Err-UsedUp : goal.returns-in-Err-UsedUp
returns-in-Err-UsedUp c =
    tells_deep c.too_deep_at.result (used_up_of c.args.tokens.now c.requires.closed c.requires.few c.requires.shut (as_halt c.in-Err-UsedUp.field-0-is c.in-Err-UsedUp.ensures)) c.too_deep_at.ensures

pub returns-in-Err-Deep : goal.returns-in-Err-Deep
returns-in-Err-Deep c =
    tells_deep c.too_deep_at-in-Err-Deep.result
    (deep_of c.args.tokens.now c.args.tokens.now [] (sym (append-nil c.args.tokens.now)) c.requires.closed c.requires.few (few_open c.args.limits.now c.args.tokens.now c.requires.shut) (as_halt c.in-Err-Deep.field-0-is c.in-Err-Deep.ensures))
    c.too_deep_at-in-Err-Deep.ensures

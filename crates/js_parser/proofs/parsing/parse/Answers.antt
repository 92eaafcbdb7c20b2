use Rattle.std.proofs.Common.{◌+◌, arith}
use Rattle.js_parser.proofs.Parsed.{exactly, fewer_before, shut_before}
use Rattle.js_parser.proofs.parsing.parse.Goals as goal

pub parse_to_bracket-requires-clause-few : goal.parse_to_bracket-requires-clause-few
parse_to_bracket-requires-clause-few c =
    let h = c.if-brackets-functions.true in
    fewer_before c.args.limits.now.functions (c.first_bracket_over-brackets.result + 1) c.first_function_over-functions.result c.args.tokens.now (omega (arith, h)) c.first_function_over-functions.ensures.keeps

pub returns-then-brackets-functions-clause-exactly :
    goal.returns-then-brackets-functions-clause-exactly
returns-then-brackets-functions-clause-exactly c = exactly c.args.form c.args.limits.now c.args.tokens.now c.parse_to_bracket.result c.parse_to_bracket.ensures

pub parse_to_function-requires-clause-shut : goal.parse_to_function-requires-clause-shut
parse_to_function-requires-clause-shut c =
    shut_before c.args.limits.now.brackets c.first_function_over-functions.result c.first_bracket_over-brackets.result c.args.tokens.now c.if-brackets-functions.false c.first_bracket_over-brackets.ensures.keeps

pub returns-then-functions-tokens-clause-exactly :
    goal.returns-then-functions-tokens-clause-exactly
returns-then-functions-tokens-clause-exactly c = exactly c.args.form c.args.limits.now c.args.tokens.now c.parse_to_function.result c.parse_to_function.ensures

pub returns-clause-exactly : goal.returns-clause-exactly
returns-clause-exactly c = exactly c.args.form c.args.limits.now c.args.tokens.now c.parse_whole.result c.parse_whole.ensures

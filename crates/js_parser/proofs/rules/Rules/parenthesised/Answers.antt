use Rattle.std.proofs.lemmas.Result.{err_from_is_err_and}
use Rattle.js_tree.specs.Plain.{expr}
use Rattle.js_parser.specs.Reads.{goes_on}
use Rattle.js_parser.specs.Machine.{expect, is_close_parenthesis}
use Rattle.js_parser.proofs.Runs.{onwards}
use Rattle.js_parser.proofs.Steps.{after, came, handed}
use Rattle.js_parser.proofs.rules.Rules.parenthesised.Goals as goal

pub returns-in_err-inner-clause-reads : goal.returns-in_err-inner-clause-reads
returns-in_err-inner-clause-reads g c next = handed (err_from_is_err_and _ c.from_residual.ensures.1) (c.in_err-inner.ensures.reads (λ x. expect is_close_parenthesis (next x)))

pub returns-in_err-close_parenthesis-clause-reads : goal.returns-in_err-close_parenthesis-clause-reads
returns-in_err-close_parenthesis-clause-reads g c next = handed (err_from_is_err_and _ c.from_residual-in_err-close_parenthesis.ensures.1) (after (came (c.in_ok-inner.ensures.reads (λ x. expect is_close_parenthesis (next x)))) (c.in_err-close_parenthesis.ensures.reads _ (next (expr c.in_ok-inner.inner))))

pub returns-clause-reads : goal.returns-clause-reads
returns-clause-reads g c next = goes_on (onwards (came (c.in_ok-inner.ensures.reads (λ x. expect is_close_parenthesis (next x)))) (came (c.in_ok-close_parenthesis.ensures.reads _ (next (expr c.in_ok-inner.inner)))))

use Rattle.std.proofs.Common.{sym, ◌∙◌}
use Rattle.std.proofs.lemmas.Result.{err_from_is_err_and}
use Rattle.js_tree.specs.Plain.{expr}
use Rattle.js_parser.specs.Machine.{here}
use Rattle.js_parser.proofs.Runs.{onwards, fitted}
use Rattle.js_parser.proofs.Steps.{after, came, handed, made, no_room}
use Rattle.js_parser.proofs.late.late.Goals as goal

pub returns-then-not-fits_node-clause-reads : goal.returns-then-not-fits_node-clause-reads
returns-then-not-fits_node-clause-reads c form next = no_room _ (sym c.fits_node.ensures ∙ c.if-not-fits_node.true)

pub returns-in_err-open_parenthesis-clause-reads : goal.returns-in_err-open_parenthesis-clause-reads
returns-in_err-open_parenthesis-clause-reads c form next =
    handed (err_from_is_err_and _ c.from_residual.ensures.1) (after (fitted _ (sym c.fits_node.ensures ∙ c.if-not-fits_node.false) here) (c.in_err-open_parenthesis.ensures.reads _ _))

pub returns-in_err-get_name-clause-reads : goal.returns-in_err-get_name-clause-reads
returns-in_err-get_name-clause-reads c form next =
    handed (err_from_is_err_and _ c.from_residual-in_err-get_name.ensures.1) (after (fitted _ (sym c.fits_node.ensures ∙ c.if-not-fits_node.false) (came (c.in_ok-open_parenthesis.ensures.reads _ _))) (c.in_err-get_name.ensures.reads _ _))

pub returns-in_err-open_parenthesis-2-clause-reads : goal.returns-in_err-open_parenthesis-2-clause-reads
returns-in_err-open_parenthesis-2-clause-reads c form next =
    handed (err_from_is_err_and _ c.from_residual-in_err-open_parenthesis-2.ensures.1) (after (fitted _ (sym c.fits_node.ensures ∙ c.if-not-fits_node.false) (onwards (came (c.in_ok-open_parenthesis.ensures.reads _ _)) (came (c.in_ok-get_name.ensures.reads _ _)))) (c.in_err-open_parenthesis-2.ensures.reads _ _))

pub returns-in_err-entry-clause-reads : goal.returns-in_err-entry-clause-reads
returns-in_err-entry-clause-reads c form next =
    handed (err_from_is_err_and _ c.from_residual-in_err-entry.ensures.1) (after (fitted _ (sym c.fits_node.ensures ∙ c.if-not-fits_node.false) (onwards (came (c.in_ok-open_parenthesis.ensures.reads _ _)) (onwards (came (c.in_ok-get_name.ensures.reads _ _)) (came (c.in_ok-open_parenthesis-2.ensures.reads _ _))))) (c.in_err-entry.ensures.reads _ _))

pub returns-in_err-close_parenthesis-clause-reads : goal.returns-in_err-close_parenthesis-clause-reads
returns-in_err-close_parenthesis-clause-reads c form next =
    handed (err_from_is_err_and _ c.from_residual-in_err-close_parenthesis.ensures.1) (after (fitted _ (sym c.fits_node.ensures ∙ c.if-not-fits_node.false) (onwards (came (c.in_ok-open_parenthesis.ensures.reads _ _)) (onwards (came (c.in_ok-get_name.ensures.reads _ _)) (onwards (came (c.in_ok-open_parenthesis-2.ensures.reads _ _)) (came (c.in_ok-entry.ensures.reads _ _)))))) (c.in_err-close_parenthesis.ensures.reads _ _))

pub returns-in_err-close_parenthesis-2-clause-reads : goal.returns-in_err-close_parenthesis-2-clause-reads
returns-in_err-close_parenthesis-2-clause-reads c form next =
    handed (err_from_is_err_and _ c.from_residual-in_err-close_parenthesis-2.ensures.1) (after (fitted _ (sym c.fits_node.ensures ∙ c.if-not-fits_node.false) (onwards (came (c.in_ok-open_parenthesis.ensures.reads _ _)) (onwards (came (c.in_ok-get_name.ensures.reads _ _)) (onwards (came (c.in_ok-open_parenthesis-2.ensures.reads _ _)) (onwards (came (c.in_ok-entry.ensures.reads _ _)) (came (c.in_ok-close_parenthesis.ensures.reads _ _))))))) (c.in_err-close_parenthesis-2.ensures.reads _ _))

pub returns-clause-reads : goal.returns-clause-reads
returns-clause-reads c form next =
    made expr next _ _ _ c.late.ensures (fitted _ (sym c.fits_node.ensures ∙ c.if-not-fits_node.false) (onwards (came (c.in_ok-open_parenthesis.ensures.reads _ _)) (onwards (came (c.in_ok-get_name.ensures.reads _ _)) (onwards (came (c.in_ok-open_parenthesis-2.ensures.reads _ _)) (onwards (came (c.in_ok-entry.ensures.reads _ _)) (onwards (came (c.in_ok-close_parenthesis.ensures.reads _ _)) (came (c.in_ok-close_parenthesis-2.ensures.reads _ _))))))))

use Rattle.std.proofs.Common.{sym, ◌∙◌, subst, map, arith, Some, None}
use Rattle.std.proofs.lemmas.Result.{err_from_is_err_and}
use Rattle.js_tree.specs.Plain.{expr}
use Rattle.js_tree.specs.Tree.{Elements}
use Rattle.js_parser.specs.ExpressionLists.{element, and_elements}
use Rattle.js_parser.specs.Machine as rule
use Rattle.js_parser.specs.Machine.{Goes, here, stuck}
use Rattle.js_parser.specs.Pieces.{separated}
use Rattle.js_parser.specs.Reads.{goes_on, is_stuck}
use Rattle.js_parser.specs.Rooms.{inside}
use Rattle.js_parser.specs.Symbols.{Symbols}
use Rattle.js_parser.specs.View as view
use Rattle.js_parser.proofs.Runs.{onwards}
use Rattle.js_parser.proofs.Steps.{after, came, handed, out_of_memory}
use Rattle.js_parser.proofs.ExpressionListSteps.{more-elements, elements-over, no-elements, a-hole, an-element, behind-element, one-element, some-elements, last-one}
use Rattle.js_parser.proofs.rules.Rules.elements.Goals as goal

pub elements-init : goal.elements-init
elements-init g c = record {
  reads = λ next. subst (λ es. Goes c.args.self.now.form (rule.elements (inside (view.room c.args.room)) next c.args.tokens.now) (rule.elements (inside (view.room c.args.room)) (λ xs r. next (and_elements (map element es) xs) r) c.args.tokens.now)) (sym c.new-elements.ensures) here;
  shorter = omega arith;
}

pub returns-then-are_over-clause-reads : goal.returns-then-are_over-clause-reads
returns-then-are_over-clause-reads g c next = is_stuck (onwards (c.elements.invariant.reads next) (elements-over _ _ _ (sym c.are_over.ensures ∙ c.if-are_over.true)))

pub returns-then-at_close_bracket-clause-reads : goal.returns-then-at_close_bracket-clause-reads
returns-then-at_close_bracket-clause-reads g c next =
    goes_on (some-elements _ next (map element c.elements.elements) (onwards (c.elements.invariant.reads next) (no-elements _ _ _ (sym c.at_close_bracket.ensures.is ∙ c.if-at_close_bracket.true))))

pub returns-in_err-push_hole-clause-reads : goal.returns-in_err-push_hole-clause-reads
returns-in_err-push_hole-clause-reads g c next =
    handed (err_from_is_err_and _ c.from_residual.ensures.1)
    (out_of_memory {on = λ (u : Unit {0}). stuck c.args.tokens.now} c.in_err-push_hole.ensures.err)

pub elements-preserved-then-at_comma : goal.elements-preserved-then-at_comma
elements-preserved-then-at_comma g c = record {
  reads = λ next. one-element _ (inside (view.room c.args.room)) next (map element c.elements.elements) (map element c.push_hole.new.elements) None c.in_ok-push_hole.ensures.ok
      (onwards (c.elements.invariant.reads next) (a-hole _ _ _ _ (sym c.at_comma.ensures.is ∙ c.if-at_comma.true) c.take.ensures.passed));
  shorter = omega (arith, c.elements.invariant.shorter, c.take.ensures.counted);
}

pub elements-preserved : goal.elements-preserved
elements-preserved g c = record {
  reads = λ next.
      let on = λ (es : Elements) (r : Symbols). next (and_elements (map element c.elements.elements) es) r in
      let room = inside (view.room c.args.room) in
      one-element _ room next (map element c.elements.elements) (map element c.push_element.new.elements) (Some (expr c.in_ok-element.element)) c.in_ok-push_element.ensures.ok
      (onwards (c.elements.invariant.reads next) (onwards (an-element _ _ _ (sym c.are_over.ensures ∙ c.if-are_over.false) (sym c.at_close_bracket.ensures.is ∙ c.if-at_close_bracket.false) (sym c.at_comma.ensures.is ∙ c.if-at_comma.false)) (onwards (came (c.in_ok-element.ensures.reads _)) (behind-element room on (expr c.in_ok-element.element) c.inside.new.tokens
      (subst (λ more. Goes c.args.self.now.form (separated (more-elements room (expr c.in_ok-element.element) on) c.inside.new.tokens) (more-elements room (expr c.in_ok-element.element) on more c.separator.new.self)) c.if-not-more.false (came (c.in_ok-more.ensures.reads _ _)))))));
  shorter = omega (arith, c.elements.invariant.shorter, c.inside.ensures.shorter, c.separator.ensures.shorter);
}

pub returns-in_err-element-clause-reads : goal.returns-in_err-element-clause-reads
returns-in_err-element-clause-reads g c next =
    handed (err_from_is_err_and _ c.from_residual-in_err-element.ensures.1)
    (after (onwards (c.elements.invariant.reads next) (an-element _ _ _ (sym c.are_over.ensures ∙ c.if-are_over.false) (sym c.at_close_bracket.ensures.is ∙ c.if-at_close_bracket.false) (sym c.at_comma.ensures.is ∙ c.if-at_comma.false))) (c.in_err-element.ensures.reads _))

pub returns-in_err-push_element-clause-reads : goal.returns-in_err-push_element-clause-reads
returns-in_err-push_element-clause-reads g c next =
    handed (err_from_is_err_and _ c.from_residual-in_err-push_element.ensures.1)
    (out_of_memory {on = λ (u : Unit {0}). stuck c.args.tokens.now} c.in_err-push_element.ensures.err)

pub returns-in_err-more-clause-reads : goal.returns-in_err-more-clause-reads
returns-in_err-more-clause-reads g c next =
    let on = λ (es : Elements) (r : Symbols). next (and_elements (map element c.elements.elements) es) r in
    let room = inside (view.room c.args.room) in
    handed (err_from_is_err_and _ c.from_residual-in_err-more.ensures.1)
    (after (onwards (c.elements.invariant.reads next) (onwards (an-element _ _ _ (sym c.are_over.ensures ∙ c.if-are_over.false) (sym c.at_close_bracket.ensures.is ∙ c.if-at_close_bracket.false) (sym c.at_comma.ensures.is ∙ c.if-at_comma.false)) (onwards (came (c.in_ok-element.ensures.reads _)) (behind-element room on (expr c.in_ok-element.element) c.inside.new.tokens here))))
    (c.in_err-more.ensures.reads _ (more-elements room (expr c.in_ok-element.element) on)))

pub returns-then-not-more-clause-reads : goal.returns-then-not-more-clause-reads
returns-then-not-more-clause-reads g c next =
    let on = λ (es : Elements) (r : Symbols). next (and_elements (map element c.elements.elements) es) r in
    let room = inside (view.room c.args.room) in
    goes_on (last-one _ next (map element c.elements.elements) (map element c.push_element.new.elements) (Some (expr c.in_ok-element.element)) c.in_ok-push_element.ensures.ok
    (onwards (c.elements.invariant.reads next) (onwards (an-element _ _ _ (sym c.are_over.ensures ∙ c.if-are_over.false) (sym c.at_close_bracket.ensures.is ∙ c.if-at_close_bracket.false) (sym c.at_comma.ensures.is ∙ c.if-at_comma.false)) (onwards (came (c.in_ok-element.ensures.reads _)) (behind-element room on (expr c.in_ok-element.element) c.inside.new.tokens
    (subst (λ more. Goes c.args.self.now.form (separated (more-elements room (expr c.in_ok-element.element) on) c.inside.new.tokens) (more-elements room (expr c.in_ok-element.element) on more c.separator.new.self)) c.if-not-more.true (came (c.in_ok-more.ensures.reads _ _))))))))

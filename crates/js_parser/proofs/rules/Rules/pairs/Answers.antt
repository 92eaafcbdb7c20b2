use Rattle.std.proofs.Common.{sym, ◌∙◌, subst, map, arith}
use Rattle.std.proofs.lemmas.Result.{err_from_is_err_and}
use Rattle.js_tree.specs.Plain.{expr}
use Rattle.js_tree.specs.Tree.{Pairs}
use Rattle.js_parser.specs.ExpressionLists.{pair, and_pairs}
use Rattle.js_parser.specs.Machine as rule
use Rattle.js_parser.specs.Machine.{Goes, here, stuck}
use Rattle.js_parser.specs.Pieces.{separated}
use Rattle.js_parser.specs.Reads.{goes_on, is_stuck}
use Rattle.js_parser.specs.Rooms.{inside}
use Rattle.js_parser.specs.Symbols.{Symbols}
use Rattle.js_parser.specs.View as view
use Rattle.js_parser.proofs.Runs.{onwards}
use Rattle.js_parser.proofs.Steps.{after, came, handed, out_of_memory}
use Rattle.js_parser.proofs.ExpressionListSteps.{more-pairs, pairs-over, no-key, a-key, behind-pair, one-pair, some-pairs, last-key}
use Rattle.js_parser.proofs.rules.Rules.pairs.Goals as goal

pub pairs-init : goal.pairs-init
pairs-init g c = record {
  reads = λ next. subst (λ es. Goes c.args.self.now.form (rule.pairs (inside (view.room c.args.room)) next c.args.tokens.now) (rule.pairs (inside (view.room c.args.room)) (λ xs r. next (and_pairs (map pair es) xs) r) c.args.tokens.now)) (sym c.new-pairs.ensures) here;
  shorter = omega arith;
}

pub returns-then-are_over-clause-reads : goal.returns-then-are_over-clause-reads
returns-then-are_over-clause-reads g c next = is_stuck (onwards (c.pairs.invariant.reads next) (pairs-over _ _ _ (sym c.are_over.ensures ∙ c.if-are_over.true)))

pub returns-in_err-key-clause-reads : goal.returns-in_err-key-clause-reads
returns-in_err-key-clause-reads g c next =
    handed (err_from_is_err_and _ c.from_residual.ensures.1)
    (out_of_memory {on = λ (u : Unit {0}). stuck c.args.tokens.now} c.in_err-key.ensures.err)

pub returns-in_default-clause-reads : goal.returns-in_default-clause-reads
returns-in_default-clause-reads g c next =
    goes_on (some-pairs _ next (map pair c.pairs.pairs) (onwards (c.pairs.invariant.reads next) (no-key _ _ _ (sym c.are_over.ensures ∙ c.if-are_over.false) (sym c.in_default.is ∙ c.in_ok-key.ensures.ok))))

pub returns-in_err-colon-clause-reads : goal.returns-in_err-colon-clause-reads
returns-in_err-colon-clause-reads g c next =
    handed (err_from_is_err_and _ c.from_residual-in_err-colon.ensures.1)
    (after (onwards (c.pairs.invariant.reads next) (a-key _ _ _ _ _ (sym c.in-Some.is ∙ c.in_ok-key.ensures.ok) c.take.ensures.passed)) (c.in_err-colon.ensures.reads _ _))

pub returns-in_err-value-clause-reads : goal.returns-in_err-value-clause-reads
returns-in_err-value-clause-reads g c next =
    handed (err_from_is_err_and _ c.from_residual-in_err-value.ensures.1)
    (after (onwards (c.pairs.invariant.reads next) (onwards (a-key _ _ _ _ _ (sym c.in-Some.is ∙ c.in_ok-key.ensures.ok) c.take.ensures.passed) (came (c.in_ok-colon.ensures.reads _ _)))) (c.in_err-value.ensures.reads _))

pub returns-in_err-push_pair-clause-reads : goal.returns-in_err-push_pair-clause-reads
returns-in_err-push_pair-clause-reads g c next =
    handed (err_from_is_err_and _ c.from_residual-in_err-push_pair.ensures.1)
    (out_of_memory {on = λ (u : Unit {0}). stuck c.args.tokens.now} c.in_err-push_pair.ensures.err)

pub returns-in_err-more-clause-reads : goal.returns-in_err-more-clause-reads
returns-in_err-more-clause-reads g c next =
    let on = λ (ps : Pairs) (r : Symbols). next (and_pairs (map pair c.pairs.pairs) ps) r in
    let room = inside (view.room c.args.room) in
    handed (err_from_is_err_and _ c.from_residual-in_err-more.ensures.1)
    (after (onwards (c.pairs.invariant.reads next) (onwards (a-key _ _ _ _ _ (sym c.in-Some.is ∙ c.in_ok-key.ensures.ok) c.take.ensures.passed) (onwards (came (c.in_ok-colon.ensures.reads _ _)) (onwards (came (c.in_ok-value.ensures.reads _)) (behind-pair room on c.in-Some.key (expr c.in_ok-value.value) c.inside.new.tokens here)))))
    (c.in_err-more.ensures.reads _ (more-pairs room c.in-Some.key (expr c.in_ok-value.value) on)))

pub pairs-preserved : goal.pairs-preserved
pairs-preserved g c = record {
  reads = λ next.
      let on = λ (ps : Pairs) (r : Symbols). next (and_pairs (map pair c.pairs.pairs) ps) r in
      let room = inside (view.room c.args.room) in
      let more = more-pairs room c.in-Some.key (expr c.in_ok-value.value) on in
      one-pair _ room next (map pair c.pairs.pairs) (map pair c.push_pair.new.pairs) c.in-Some.key (expr c.in_ok-value.value) c.in_ok-push_pair.ensures.ok
      (onwards (c.pairs.invariant.reads next) (onwards (a-key _ _ _ _ _ (sym c.in-Some.is ∙ c.in_ok-key.ensures.ok) c.take.ensures.passed) (onwards (came (c.in_ok-colon.ensures.reads _ _)) (onwards (came (c.in_ok-value.ensures.reads _)) (behind-pair room on c.in-Some.key (expr c.in_ok-value.value) c.inside.new.tokens
      (subst (λ goes. Goes c.args.self.now.form (separated more c.inside.new.tokens) (more goes c.separator.new.self)) c.if-not-more.false (came (c.in_ok-more.ensures.reads _ _))))))));
  shorter = omega (arith, c.pairs.invariant.shorter, c.take.ensures.counted, c.in_ok-colon.ensures.shorter, c.inside.ensures.shorter, c.separator.ensures.shorter);
}

pub returns-then-not-more-clause-reads : goal.returns-then-not-more-clause-reads
returns-then-not-more-clause-reads g c next =
    let on = λ (ps : Pairs) (r : Symbols). next (and_pairs (map pair c.pairs.pairs) ps) r in
    let room = inside (view.room c.args.room) in
    let more = more-pairs room c.in-Some.key (expr c.in_ok-value.value) on in
    goes_on (last-key _ next (map pair c.pairs.pairs) (map pair c.push_pair.new.pairs) c.in-Some.key (expr c.in_ok-value.value) c.in_ok-push_pair.ensures.ok
    (onwards (c.pairs.invariant.reads next) (onwards (a-key _ _ _ _ _ (sym c.in-Some.is ∙ c.in_ok-key.ensures.ok) c.take.ensures.passed) (onwards (came (c.in_ok-colon.ensures.reads _ _)) (onwards (came (c.in_ok-value.ensures.reads _)) (behind-pair room on c.in-Some.key (expr c.in_ok-value.value) c.inside.new.tokens
    (subst (λ goes. Goes c.args.self.now.form (separated more c.inside.new.tokens) (more goes c.separator.new.self)) c.if-not-more.true (came (c.in_ok-more.ensures.reads _ _)))))))))

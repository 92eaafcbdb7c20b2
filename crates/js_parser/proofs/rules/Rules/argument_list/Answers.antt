use Rattle.std.proofs.Common.{sym, subst, map, arith}
use Rattle.std.proofs.lemmas.Result.{err_from_is_err_and}
use Rattle.js_tree.specs.Plain.{expr}
use Rattle.js_tree.specs.Tree.{Exprs}
use Rattle.js_parser.specs.ExpressionLists.{and_exprs}
use Rattle.js_parser.specs.Machine.{Goes, here, then_on, stuck, argument_list}
use Rattle.js_parser.specs.Pieces.{separated}
use Rattle.js_parser.specs.Reads.{goes_on}
use Rattle.js_parser.specs.Rooms.{inside}
use Rattle.js_parser.specs.Symbols.{Symbols}
use Rattle.js_parser.specs.View as view
use Rattle.js_parser.proofs.Runs.{onwards}
use Rattle.js_parser.proofs.Steps.{after, came, handed, out_of_memory}
use Rattle.js_parser.proofs.ExpressionListSteps.{more-arguments, behind-argument, one-argument, last-argument}
use Rattle.js_parser.proofs.rules.Rules.argument_list.Goals as goal

pub arguments-init : goal.arguments-init
arguments-init g c = record {
  reads = λ next. subst (λ es. Goes c.args.self.now.form (argument_list (inside (view.room c.args.room)) next c.args.tokens.now) (argument_list (inside (view.room c.args.room)) (λ xs r. next (and_exprs (map expr es) xs) r) c.args.tokens.now)) (sym c.new-arguments.ensures) here;
  shorter = omega arith;
}

pub returns-in_err-argument-clause-reads : goal.returns-in_err-argument-clause-reads
returns-in_err-argument-clause-reads g c next =
    handed (err_from_is_err_and _ c.from_residual.ensures.1)
    (after (onwards (c.arguments.invariant.reads next) (then_on here)) (c.in_err-argument.ensures.reads _))

pub returns-in_err-push_argument-clause-reads : goal.returns-in_err-push_argument-clause-reads
returns-in_err-push_argument-clause-reads g c next =
    handed (err_from_is_err_and _ c.from_residual-in_err-push_argument.ensures.1)
    (out_of_memory {on = λ (u : Unit {0}). stuck c.inside.new.tokens} c.in_err-push_argument.ensures.err)

pub returns-in_err-more-clause-reads : goal.returns-in_err-more-clause-reads
returns-in_err-more-clause-reads g c next =
    let on = λ (xs : Exprs) (r : Symbols). next (and_exprs (map expr c.arguments.arguments) xs) r in
    let room = inside (view.room c.args.room) in
    handed (err_from_is_err_and _ c.from_residual-in_err-more.ensures.1)
    (after (onwards (c.arguments.invariant.reads next) (onwards (then_on here) (onwards (came (c.in_ok-argument.ensures.reads _)) (behind-argument room on (expr c.in_ok-argument.argument) c.inside.new.tokens here))))
    (c.in_err-more.ensures.reads _ (more-arguments room (expr c.in_ok-argument.argument) on)))

pub arguments-preserved : goal.arguments-preserved
arguments-preserved g c = record {
  reads = λ next.
      let on = λ (xs : Exprs) (r : Symbols). next (and_exprs (map expr c.arguments.arguments) xs) r in
      let room = inside (view.room c.args.room) in
      one-argument _ room next (map expr c.arguments.arguments) (map expr c.push_argument.new.arguments) (expr c.in_ok-argument.argument) c.in_ok-push_argument.ensures.ok
      (onwards (c.arguments.invariant.reads next) (onwards (then_on here) (onwards (came (c.in_ok-argument.ensures.reads _)) (behind-argument room on (expr c.in_ok-argument.argument) c.inside.new.tokens
      (subst (λ more. Goes c.args.self.now.form (separated (more-arguments room (expr c.in_ok-argument.argument) on) c.inside.new.tokens) (more-arguments room (expr c.in_ok-argument.argument) on more c.separator.new.self)) c.if-not-more.false (came (c.in_ok-more.ensures.reads _ _)))))));
  shorter = omega (arith, c.arguments.invariant.shorter, c.inside.ensures.shorter, c.separator.ensures.shorter);
}

pub returns-then-not-more-clause-reads : goal.returns-then-not-more-clause-reads
returns-then-not-more-clause-reads g c next =
    let on = λ (xs : Exprs) (r : Symbols). next (and_exprs (map expr c.arguments.arguments) xs) r in
    let room = inside (view.room c.args.room) in
    goes_on (last-argument _ next (map expr c.arguments.arguments) (map expr c.push_argument.new.arguments) (expr c.in_ok-argument.argument) c.in_ok-push_argument.ensures.ok
    (onwards (c.arguments.invariant.reads next) (onwards (then_on here) (onwards (came (c.in_ok-argument.ensures.reads _)) (behind-argument room on (expr c.in_ok-argument.argument) c.inside.new.tokens
    (subst (λ more. Goes c.args.self.now.form (separated (more-arguments room (expr c.in_ok-argument.argument) on) c.inside.new.tokens) (more-arguments room (expr c.in_ok-argument.argument) on more c.separator.new.self)) c.if-not-more.true (came (c.in_ok-more.ensures.reads _ _))))))))

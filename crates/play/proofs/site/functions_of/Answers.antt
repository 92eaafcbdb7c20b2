use Rattle.std.proofs.Common.{◌≡◌, ◌+◌, ◌++◌, ◌∷◌, [], length, Some, map, drop, sym, ap, ◌∙◌, subst, arith}
use Rattle.play.specs.Machine.{func_of, BodiesAre}
use Rattle.play.specs.Program.{declared}
use Rattle.play.specs.Site.{site_tree, plain_count}
use Rattle.play.proofs.ListLemmas.{got_index}
use Rattle.play.proofs.FunctionLemmas.{more_plain, more_stub, bodies_more, count_plain, count_stub, listed_rest, past_statement, count_statement, listed_statement}
use Rattle.play.proofs.site.functions_of.Goals as goal
use Rattle.play.proofs.site.functions_of.Goals.{in-Function+in_ok-function_of-in-Function+in_ok-push-in-Function+in-Statements, in-Function+in_ok-function_of-in-Function+in_ok-push-in-Function+in-Stub, in-Statement}

pub loop-item-preserved : goal.loop-item-preserved
loop-item-preserved c = elim c.match-item.branch [
  | in-Function+in_ok-function_of-in-Function+in_ok-push-in-Function+in-Statements w ↦
      let at = got_index c.args.items.now c.loop-item.item-index c.item-item.result c.item-item.result (omega arith) c.item-item.is ∙ ap Some w.in-Function.is in
      let p1 = w.functions-is in
      let p2 = w.in_ok-push-in-Function.ensures.ok in
      let n1 = w.next-is in
      let pushed : c.match-item.functions ≡ c.loop-item.functions ++ w.in_ok-function_of-in-Function.field-0 ∷ [] = cc in
      record {
        are = subst (λ fs. map func_of fs ++ declared (site_tree (drop c.match-item.next c.args.manifest.now.plain) (drop (c.loop-item.item-index + 1) c.args.items.now)) ≡ declared (site_tree c.args.manifest.now.plain c.args.items.now)) (sym pushed)
            (subst (λ n. map func_of (c.loop-item.functions ++ w.in_ok-function_of-in-Function.field-0 ∷ []) ++ declared (site_tree (drop n c.args.manifest.now.plain) (drop (c.loop-item.item-index + 1) c.args.items.now)) ≡ declared (site_tree c.args.manifest.now.plain c.args.items.now)) (sym n1)
            (more_plain c.args.manifest.now.plain c.args.items.now c.loop-item.next c.loop-item.item-index c.loop-item.functions w.in_ok-function_of-in-Function.field-0 w.in-Function.function w.in-Statements.field-0 (declared (site_tree c.args.manifest.now.plain c.args.items.now)) at w.in-Statements.is c.loop-item.invariant.are w.in_ok-function_of-in-Function.ensures.is));
        count = subst (λ n. n + plain_count (drop (c.loop-item.item-index + 1) c.args.items.now) ≡ length c.args.manifest.now.plain) (sym n1) (count_plain c.args.items.now c.loop-item.next c.loop-item.item-index (length c.args.manifest.now.plain) w.in-Function.function w.in-Statements.field-0 at w.in-Statements.is c.loop-item.invariant.count);
        listed = listed_rest c.args.manifest.now.clusters c.args.items.now c.loop-item.item-index w.in-Function.function at c.loop-item.invariant.listed;
        bound = let b = c.loop-item.invariant.bound in omega (arith, n1, b);
        bodies = subst (BodiesAre c.args.manifest.now) (sym pushed) (bodies_more c.args.manifest.now c.loop-item.functions w.in_ok-function_of-in-Function.field-0 c.loop-item.invariant.bodies w.in_ok-function_of-in-Function.ensures.body);
      }
  | in-Function+in_ok-function_of-in-Function+in_ok-push-in-Function+in-Stub w ↦
      let at = got_index c.args.items.now c.loop-item.item-index c.item-item.result c.item-item.result (omega arith) c.item-item.is ∙ ap Some w.in-Function.is in
      let p1 = w.functions-is in
      let p2 = w.in_ok-push-in-Function.ensures.ok in
      let n1 = w.next-is in
      let pushed : c.match-item.functions ≡ c.loop-item.functions ++ w.in_ok-function_of-in-Function.field-0 ∷ [] = cc in
      record {
        are = subst (λ fs. map func_of fs ++ declared (site_tree (drop c.match-item.next c.args.manifest.now.plain) (drop (c.loop-item.item-index + 1) c.args.items.now)) ≡ declared (site_tree c.args.manifest.now.plain c.args.items.now)) (sym pushed)
            (subst (λ n. map func_of (c.loop-item.functions ++ w.in_ok-function_of-in-Function.field-0 ∷ []) ++ declared (site_tree (drop n c.args.manifest.now.plain) (drop (c.loop-item.item-index + 1) c.args.items.now)) ≡ declared (site_tree c.args.manifest.now.plain c.args.items.now)) (sym n1)
            (more_stub c.args.manifest.now.plain c.args.items.now c.loop-item.next c.loop-item.item-index c.loop-item.functions w.in_ok-function_of-in-Function.field-0 w.in-Function.function w.in-Stub.field-0 (declared (site_tree c.args.manifest.now.plain c.args.items.now)) at w.in-Stub.is c.loop-item.invariant.are w.in_ok-function_of-in-Function.ensures.is));
        count = subst (λ n. n + plain_count (drop (c.loop-item.item-index + 1) c.args.items.now) ≡ length c.args.manifest.now.plain) (sym n1) (count_stub c.args.items.now c.loop-item.next c.loop-item.item-index (length c.args.manifest.now.plain) w.in-Function.function w.in-Stub.field-0 at w.in-Stub.is c.loop-item.invariant.count);
        listed = listed_rest c.args.manifest.now.clusters c.args.items.now c.loop-item.item-index w.in-Function.function at c.loop-item.invariant.listed;
        bound = let b = c.loop-item.invariant.bound in omega (arith, n1, b);
        bodies = subst (BodiesAre c.args.manifest.now) (sym pushed) (bodies_more c.args.manifest.now c.loop-item.functions w.in_ok-function_of-in-Function.field-0 c.loop-item.invariant.bodies w.in_ok-function_of-in-Function.ensures.body);
      }
  | in-Statement w ↦
      let at = got_index c.args.items.now c.loop-item.item-index c.item-item.result c.item-item.result (omega arith) c.item-item.is ∙ ap Some w.in-Statement.is in
      let f1 = w.functions-is in
      let n1 = w.next-is in
      record {
        are = subst (λ fs. map func_of fs ++ declared (site_tree (drop c.match-item.next c.args.manifest.now.plain) (drop (c.loop-item.item-index + 1) c.args.items.now)) ≡ declared (site_tree c.args.manifest.now.plain c.args.items.now)) (sym f1)
            (subst (λ n. map func_of c.loop-item.functions ++ declared (site_tree (drop n c.args.manifest.now.plain) (drop (c.loop-item.item-index + 1) c.args.items.now)) ≡ declared (site_tree c.args.manifest.now.plain c.args.items.now)) (sym n1)
            (past_statement c.args.manifest.now.plain c.args.items.now c.loop-item.next c.loop-item.item-index c.loop-item.functions w.in-Statement.field-0 (declared (site_tree c.args.manifest.now.plain c.args.items.now)) at c.loop-item.invariant.are));
        count = subst (λ n. n + plain_count (drop (c.loop-item.item-index + 1) c.args.items.now) ≡ length c.args.manifest.now.plain) (sym n1) (count_statement c.args.items.now c.loop-item.next c.loop-item.item-index (length c.args.manifest.now.plain) w.in-Statement.field-0 at c.loop-item.invariant.count);
        listed = listed_statement c.args.manifest.now.clusters c.args.items.now c.loop-item.item-index w.in-Statement.field-0 at c.loop-item.invariant.listed;
        bound = let b = c.loop-item.invariant.bound in omega (arith, n1, b);
        bodies = subst (BodiesAre c.args.manifest.now) (sym f1) c.loop-item.invariant.bodies;
      }
]

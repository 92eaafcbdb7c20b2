use Rattle.std.proofs.Common.{arith, ap, ◌∙◌, Some}
use Rattle.js_lexer.specs.declared.front.Front.TheVariants.{Next, Bad}
use Rattle.js_lexer.proofs.Within.{stands_within}
use Rattle.js_lexer.proofs.Going.{stands_at, at_end, going_begun, left_begun, going_on, left_on, fits_on, fault_at, end_at}
use Rattle.js_lexer.proofs.lexer.tokens_of.Goals as goal

pub loop-reading-init : goal.loop-reading-init
loop-reading-init c = record {
  going = going_begun c.args.text.now c.body-rest.result.now c.new.result.items c.body_position.result c.body-rest.ensures c.new.ensures.items c.body_position.ensures.value;
  bounded = c.body_position.ensures.bounded;
  left = left_begun c.args.text.now c.body-rest.result.now c.body_position.result c.body-rest.ensures c.body_position.ensures.value;
}

pub split_at-requires : goal.split_at-requires
split_at-requires c =
    (stands_within c.loop-reading.rest.now (Next c.in-Next.length c.in-Next.kind) (stands_at c.in_ok-front.field-0 c.loop-reading.rest.now _ (c.in-Some.is ∙ ap Some c.in-Next.is) c.in_ok-front.ensures)).1

pub take-requires-clause-fits : goal.take-requires-clause-fits
take-requires-clause-fits c =
    omega (arith, fits_on c.loop-reading.rest.now c.split_at.result.0.now c.in-Next.length c.split_at.ensures.front, c.loop-reading.invariant.left, c.requires)

pub loop-reading-smaller : goal.loop-reading-smaller
loop-reading-smaller c =
    let low = (stands_within c.loop-reading.rest.now (Next c.in-Next.length c.in-Next.kind) (stands_at c.in_ok-front.field-0 c.loop-reading.rest.now _ (c.in-Some.is ∙ ap Some c.in-Next.is) c.in_ok-front.ensures)).0 in
    omega (arith, low, c.split_at.ensures.back_len)

pub loop-reading-preserved : goal.loop-reading-preserved
loop-reading-preserved c =
    let before = c.loop-reading.reading in
    let after = c.take.new.self in
    let took = c.in_ok-take-in-Next.ensures in
    let rest = c.loop-reading.rest.now in
    record {
      going = going_on c.args.text.now rest c.split_at.result.1.now c.split_at.result.0.now before.tokens.items after.tokens.items before.position after.position before.newline after.newline c.in-Next.length c.in-Next.kind
          c.loop-reading.invariant.going (stands_at c.in_ok-front.field-0 rest _ (c.in-Some.is ∙ ap Some c.in-Next.is) c.in_ok-front.ensures) c.split_at.ensures.front c.split_at.ensures.back took.tokens took.position took.newline;
      bounded = took.bounded;
      left = left_on rest c.split_at.result.1.now c.split_at.result.0.now before.position after.position c.in-Next.length _ c.split_at.ensures.front c.split_at.ensures.back took.position c.loop-reading.invariant.left;
    }

pub split_at-requires-in-Bad : goal.split_at-requires-in-Bad
split_at-requires-in-Bad c =
    stands_within c.loop-reading.rest.now (Bad c.in-Bad.kind c.in-Bad.offset) (stands_at c.in_ok-front.field-0 c.loop-reading.rest.now _ (c.in-Some.is ∙ ap Some c.in-Bad.is) c.in_ok-front.ensures)

pub passed-requires-clause-fits : goal.passed-requires-clause-fits
passed-requires-clause-fits c =
    omega (arith, fits_on c.loop-reading.rest.now c.split_at-in-Bad.result.0.now c.in-Bad.offset c.split_at-in-Bad.ensures.front, c.loop-reading.invariant.left, c.requires)

pub returns-in-Bad-clause-err : goal.returns-in-Bad-clause-err
returns-in-Bad-clause-err c =
    let before = c.loop-reading.reading in
    fault_at c.args.text.now c.loop-reading.rest.now c.split_at-in-Bad.result.0.now before.tokens.items before.position c.passed.result before.newline c.in-Bad.kind c.in-Bad.offset
    c.loop-reading.invariant.going (stands_at c.in_ok-front.field-0 c.loop-reading.rest.now _ (c.in-Some.is ∙ ap Some c.in-Bad.is) c.in_ok-front.ensures) c.split_at-in-Bad.ensures.front c.passed.ensures.value

pub returns-clause-ok : goal.returns-clause-ok
returns-clause-ok c =
    let before = c.loop-reading.reading in
    end_at c.args.text.now c.loop-reading.rest.now before.tokens.items c.take-2.new.self.tokens.items before.position before.newline c.loop-reading.invariant.going
    (at_end c.in_ok-front.field-0 c.loop-reading.rest.now c.in_default.is c.in_ok-front.ensures) c.in_ok-take.ensures.tokens

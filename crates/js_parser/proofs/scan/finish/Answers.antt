use Rattle.std.proofs.Common.{◌≡◌, ◌<◌, length, sym, ap, ◌∙◌, arith}
use Rattle.js_parser.specs.Scanned as scanned
use Rattle.js_parser.proofs.Scans.{broken_behind_the_end, broken_between, finishes_whole, used_up_between}
use Rattle.js_parser.proofs.scan.finish.Goals as goal

pub returns-then-is_empty : goal.returns-then-is_empty
returns-then-is_empty c form limits ts ss count none p =
    let e = c.is_empty.ensures in let t = c.if-is_empty.true in
    let nothing : length c.args.tokens.now ≡ 0 = grind arith in
    scanned.halts_there (used_up_between c.args.total p (omega (arith, nothing)) (omega (arith, nothing, count)))

pub returns-then-not-at_end : goal.returns-then-not-at_end
returns-then-not-at_end c form limits ts ss count none p =
    let l = c.len.ensures.is in let w = c.requires.within in let e = c.is_empty.ensures in let t = c.if-is_empty.false in
    let some : 0 < length c.args.tokens.now = grind arith in
    scanned.halts_there (broken_between _ none p (sym c.at_end.ensures.is ∙ c.if-not-at_end.true) some (omega (arith, l, w, count)))

pub returns-then-len-gt0 : goal.returns-then-len-gt0
returns-then-len-gt0 c form limits ts ss count none p =
    let l = c.len-2.ensures.is in let l2 = c.len-then-len-gt0.ensures.is in let w = c.requires.within in
    let counted = c.take.ensures.counted in let passed = ap length c.take.ensures.passed in let h = c.if-len-gt0.true in
    scanned.halts_there (broken_behind_the_end _ none p (sym c.at_end.ensures.is ∙ c.if-not-at_end.false) (omega (arith, l, h, passed)) (omega (arith, l2, l, w, counted, passed, count)))

pub returns : goal.returns
returns c form limits ts ss count none p =
    let l = c.len-2.ensures.is in let passed = ap length c.take.ensures.passed in let h = c.if-len-gt0.false in
    finishes_whole none p (sym c.at_end.ensures.is ∙ c.if-not-at_end.false) (omega (arith, l, h, passed))

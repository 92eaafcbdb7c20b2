use Rattle.std.proofs.Common.{length, sym, ap, ◌∙◌, subst, arith}
use Rattle.std.specs.Prelude.{map}
use Rattle.std.proofs.lemmas.Result.{err_from_is_err_and}
use Rattle.std.proofs.lemmas.List.{length-map}
use Rattle.js_tree.specs.Plain.{stmt}
use Rattle.js_parser.specs.Scanned.{Progress}
use Rattle.js_parser.specs.Symbols.{symbol, symbols}
use Rattle.js_parser.proofs.ReadScriptTrees.{tokens-regular}
use Rattle.js_parser.proofs.Scans.{nothing_read, progress_of, less_of, halt_of_it, halt_at_end, read_to_end}
use Rattle.js_parser.proofs.scan.scan.Goals as goal

pub elements-init : goal.elements-init
elements-init c =
    let ts = symbols c.args.front.now in let e = ap length c.new-tokens.ensures in record {
      progress = subst (λ rest. Progress c.args.form c.args.limits.now ts rest (map stmt c.new-body.result)) (sym c.new-tokens.ensures)
          (subst (λ ss. Progress c.args.form c.args.limits.now ts ts (map stmt ss)) (sym c.new-body.ensures) (nothing_read c.args.form c.args.limits.now ts));
      shorter = omega (arith, e);
    }

pub returns-in_err-body : goal.returns-in_err-body
returns-in_err-body c =
    halt_of_it (err_from_is_err_and _ c.from_residual.ensures.1)
    (c.in_err-body.ensures.continues (symbols c.args.front.now) (length-map c.args.front.now symbol) (tokens-regular c.args.front.now) (sym c.goes_on_elements.ensures.is ∙ c.elements-test.true) c.elements.invariant.progress)

pub elements-smaller : goal.elements-smaller
elements-smaller c =
    less_of (c.in_ok-body.ensures.continues (symbols c.args.front.now) (length-map c.args.front.now symbol) (tokens-regular c.args.front.now) (sym c.goes_on_elements.ensures.is ∙ c.elements-test.true) c.elements.invariant.progress)

pub elements-preserved : goal.elements-preserved
elements-preserved c = record {
  progress = progress_of (c.in_ok-body.ensures.continues (symbols c.args.front.now) (length-map c.args.front.now symbol) (tokens-regular c.args.front.now) (sym c.goes_on_elements.ensures.is ∙ c.elements-test.true) c.elements.invariant.progress);
  shorter = omega (arith, c.elements.invariant.shorter, c.in_ok-body.ensures.shorter);
}

pub returns-in_err-finish : goal.returns-in_err-finish
returns-in_err-finish c =
    halt_at_end (err_from_is_err_and _ c.from_residual-in_err-finish.ensures.1)
    (c.in_err-finish.ensures c.args.form c.args.limits.now (symbols c.args.front.now) (map stmt c.elements.body) (length-map c.args.front.now symbol) (sym c.goes_on_elements.ensures.is ∙ c.elements-test.false) c.elements.invariant.progress)

pub returns : goal.returns
returns c =
    read_to_end c.elements.body
    (c.in_ok-finish.ensures c.args.form c.args.limits.now (symbols c.args.front.now) (map stmt c.elements.body) (length-map c.args.front.now symbol) (sym c.goes_on_elements.ensures.is ∙ c.elements-test.false) c.elements.invariant.progress)

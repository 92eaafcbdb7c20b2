use Rattle.std.proofs.Common.{◌∷◌, sym, ◌∙◌, subst, ap}
use Rattle.js_lexer.specs.Fronts as spec
use Rattle.js_lexer.proofs.string.string.Goals as goal

pub returns : goal.returns
returns c =
    subst (spec.StandsAt (c.args.quote ∷ c.args.rest.now))
    (sym (c.string_end.ensures ∙ ap (spec.string_end c.args.quote c.in_ok-units.length c.in_ok-units.units) c.split_at.ensures.back))
    (spec.string c.in_ok-units.length c.in_ok-units.units c.requires c.in_ok-units.ensures.inside)

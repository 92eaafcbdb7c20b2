use Rattle.std.proofs.Common.{sym, ap, ◌∙◌}
use Rattle.std.specs.Option.{option_copied}
use Rattle.js_parser.specs.Names.{is_among}
use Rattle.js_parser.specs.Reads.{is_stuck}
use Rattle.js_parser.proofs.Steps.{made}
use Rattle.js_parser.proofs.FormalSteps.{no_name, no_binding, repeated, a_formal, still_distinct}
use Rattle.js_parser.proofs.functions.with_formal.Goals as goal

pub returns-in_default-clause-reads : goal.returns-in_default-clause-reads
returns-in_default-clause-reads c next = is_stuck (no_name _ next _ (sym c.name.ensures ∙ ap option_copied c.in_default.is))

pub returns-then-not-is_binding-clause-reads : goal.returns-then-not-is_binding-clause-reads
returns-then-not-is_binding-clause-reads c next = is_stuck (no_binding _ next _ _ (sym c.name.ensures ∙ ap option_copied c.in-Some.is) (sym c.is_binding.ensures ∙ c.if-not-is_binding.true))

pub returns-then-is_among-clause-reads : goal.returns-then-is_among-clause-reads
returns-then-is_among-clause-reads c next = is_stuck (repeated _ next _ _ (sym c.name.ensures ∙ ap option_copied c.in-Some.is) c.requires (sym c.is_binding.ensures ∙ c.if-not-is_binding.false) (sym (ap (is_among c.in-Some.name.now) c.items.ensures) ∙ sym c.is_among.ensures ∙ c.if-is_among.true))

pub returns-clause-reads : goal.returns-clause-reads
returns-clause-reads c next = made (λ names. names) next _ _ _ c.with_name.ensures (a_formal _ next _ _ _ (sym c.name.ensures ∙ ap option_copied c.in-Some.is) c.requires (sym c.is_binding.ensures ∙ c.if-not-is_binding.false) (sym (ap (is_among c.in-Some.name.now) c.items.ensures) ∙ sym c.is_among.ensures ∙ c.if-is_among.false) c.take.ensures.passed)

pub returns-clause-distinct : goal.returns-clause-distinct
returns-clause-distinct c = still_distinct _ _ _ c.requires (sym (ap (is_among c.in-Some.name.now) c.items.ensures) ∙ sym c.is_among.ensures ∙ c.if-is_among.false) c.with_name.ensures

use Rattle.std.proofs.Common.{subst}
use Rattle.js_tree.specs.Plain as plain
use Rattle.js_parser.specs.Contexts as contexts
use Rattle.js_parser.specs.Elements as elements
use Rattle.js_parser.specs.Reads.{Reads}
use Rattle.js_parser.specs.View as view
use Rattle.js_parser.proofs.descent.element.Goals as goal

pub returns-clause-reads : goal.returns-clause-reads
returns-clause-reads c =
    subst (λ room. Reads c.args.form plain.stmt (elements.element c.args.form room contexts.script) c.element.result c.args.tokens.now c.element.new.tokens) c.of_limits.ensures
    (subst (λ context. Reads c.args.form plain.stmt (elements.element c.args.form (view.room c.of_limits.result) context) c.element.result c.args.tokens.now c.element.new.tokens) c.script-context.ensures c.element.ensures.reads)

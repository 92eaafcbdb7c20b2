use Rattle.std.proofs.Common.{rules, ap, sym, ◌∙◌, Some, None}
use Rattle.js_tree.specs.Plain.{stmt}
use Rattle.js_tree.specs.declared.tree.Stmt.TheVariants.{rolls-Try}
use Rattle.js_tree.specs.declared.tree.Expr.TheFolds.{fold-roll-Stmt}
use Rattle.js_parser.proofs.statement_nodes.try_catch.Goals as goal

pub returns : goal.returns
returns c = rw c.in_ok-new.ensures (ap stmt (sym (rolls-Try c.args.tried (Some (c.args.name, c.args.handler)) None)) ∙ search (rules, fold-roll-Stmt))

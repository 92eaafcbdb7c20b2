use Rattle.std.proofs.Common.{rules, ap, sym, ◌∙◌, Some}
use Rattle.js_tree.specs.Plain.{stmt}
use Rattle.js_tree.specs.declared.tree.Stmt.TheVariants.{rolls-If}
use Rattle.js_tree.specs.declared.tree.Expr.TheFolds.{fold-roll-Stmt}
use Rattle.js_parser.proofs.statement_nodes.if_else.Goals as goal

pub returns : goal.returns
returns c = rw c.in_ok-new.ensures (rw c.into_inner.ensures (ap stmt (sym (rolls-If c.args.test c.args.then (Some c.args.other))) ∙ search (rules, fold-roll-Stmt)))

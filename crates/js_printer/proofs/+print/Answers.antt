use Rattle.std.proofs.Common.{Bool, false, true, List, [], ◌∷◌, ◌++◌, Option, refl, sym, ap, ◌∙◌}
use Rattle.js_lexer.specs.declared.mark.Mark.TheVariants as m
use Rattle.js_lexer.specs.declared.token.TokenKind.TheVariants as k
use Rattle.js_lexer.specs.declared.word.Word.TheVariants as w
use Rattle.js_tree.specs.declared.tree.Expr.{Expr}
use Rattle.js_tree.specs.Parts as trees
use Rattle.js_printer.specs.Parts as parts
use Rattle.js_printer.specs.Printed.{Kinds, enclosed, maybe_name, names}
use Rattle.js_printer.specs.Written.{all_written}
use Rattle.js_printer.proofs.Writing.{all_written_append, three, four}
use Rattle.js_printer.proofs.Loops.{next_item, exprs_step, hole_left, element_left, pairs_step, var_items_step, cases_step}
use Rattle.js_printer.proofs.StatementViews.{if_kinds, for_kinds, try_kinds, case_kinds, func_kinds}
use Rattle.js_printer.proofs.+print.Goals.{expressions::write_elements-in-None+in_ok-mark-in-None, expressions::write_elements-in-Some+in_ok-write_operand-in-Some}
use Rattle.js_printer.proofs.+print.Goals as goal

pub expressions::write_exprs-loop-expr-preserved :
    goal.expressions::write_exprs-loop-expr-preserved
expressions::write_exprs-loop-expr-preserved t c =
    next_item (λ b es. parts.exprs_left b (trees.exprs es)) _ _ _ _ _ _ _ _ true _ (parts.operand true 2 c.expr-item.result) (exprs_step _ _ _) c.items-expr-items.ensures c.loop-expr-test.true c.expr-item.is c.loop-expr.invariant c.in_ok-comma.ensures c.in_ok-write_operand.ensures

pub expressions::write_pairs-loop-pair-preserved :
    goal.expressions::write_pairs-loop-pair-preserved
expressions::write_pairs-loop-pair-preserved t c =
    next_item (λ b ps. parts.pairs_left b (trees.pairs ps)) _ _ _ _ _ _ _ _ true _ (parts.pair c.pair-item.result) (pairs_step _ _ _) c.items-pair-items.ensures c.loop-pair-test.true c.pair-item.is c.loop-pair.invariant c.in_ok-comma.ensures c.in_ok-write_pair.ensures

pub statements::write_stmts-loop-stmt-preserved :
    goal.statements::write_stmts-loop-stmt-preserved
statements::write_stmts-loop-stmt-preserved t c =
    next_item (λ b ss. parts.stmts ss) _ _ _ _ _ _ _ false false _ (parts.stmt c.stmt-item.result) refl c.items-stmt-items.ensures c.loop-stmt-test.true c.stmt-item.is c.loop-stmt.invariant refl c.in_ok-write_stmt.ensures

pub statements::write_cases-loop-case-preserved :
    goal.statements::write_cases-loop-case-preserved
statements::write_cases-loop-case-preserved t c =
    next_item (λ b cs. parts.cases cs) _ _ _ _ _ _ _ false false _ (parts.case c.case-item.result) (cases_step _ _) c.items-case-items.ensures c.loop-case-test.true c.case-item.is c.loop-case.invariant refl c.in_ok-write_case.ensures

pub statements::write_var_items-loop-item-preserved :
    goal.statements::write_var_items-loop-item-preserved
statements::write_var_items-loop-item-preserved t c =
    next_item (λ b vs. parts.var_items_left b (trees.var_items vs) c.args.with_in) _ _ _ _ _ _ _ _ true _ (parts.var_item c.item-item.result c.args.with_in) (var_items_step _ _ _ _) c.items-item-items.ensures c.loop-item-test.true c.item-item.is c.loop-item.invariant c.in_ok-comma.ensures c.in_ok-write_var_item.ensures

pub expressions::write_elements-loop-element-preserved :
    goal.expressions::write_elements-loop-element-preserved
expressions::write_elements-loop-element-preserved t c =
    let left : Bool → List (Option Expr) → Kinds = λ b es. parts.elements_left b (trees.elements es) in
    elim c.match-element.branch [
      | expressions::write_elements-in-None+in_ok-mark-in-None arm ↦
          next_item left _ _ _ _ _ _ _ _ c.match-element.is_behind c.element-item.result (k.Mark m.Comma ∷ []) (hole_left _ _ _ _ arm.in-None.is arm.is_behind-is) c.items-element-items.ensures c.loop-element-test.true c.element-item.is c.loop-element.invariant c.in_ok-comma.ensures (arm.printer-is ∙ arm.in_ok-mark-in-None.ensures)
      | expressions::write_elements-in-Some+in_ok-write_operand-in-Some arm ↦
          next_item left _ _ _ _ _ _ _ _ c.match-element.is_behind c.element-item.result (parts.operand true 2 arm.in-Some.expr) (element_left _ _ _ _ _ arm.in-Some.is arm.is_behind-is) c.items-element-items.ensures c.loop-element-test.true c.element-item.is c.loop-element.invariant c.in_ok-comma.ensures (arm.printer-is ∙ arm.in_ok-write_operand-in-Some.ensures)
    ]

pub functions::write_func-returns : goal.functions::write_func-returns
functions::write_func-returns t c =
    let f = c.args.func.now in
    let name : Kinds = maybe_name f.name in
    let formals : Kinds = enclosed (names f.formals) in
    let body : Kinds = k.Mark m.OpenBrace ∷ (parts.stmts f.body ++ (k.Mark m.CloseBrace ∷ [])) in
    three _ _ _ _ name formals body (name ++ (formals ++ body)) c.in_ok-maybe_name.ensures c.in_ok-formals.ensures c.in_ok-write_block.ensures refl
    ∙ ap (λ q. all_written q (name ++ (formals ++ body))) c.in_ok-word.ensures
    ∙ ap (all_written c.args.printer.now) (sym (func_kinds f))

pub statements::write_case-returns : goal.statements::write_case-returns
statements::write_case-returns t c =
    let head : Kinds = parts.case_head c.args.case.now.test in
    let body : Kinds = parts.stmts c.args.case.now.body in
    c.in_ok-write_stmts.ensures ∙ ap (λ q. all_written q body) c.in_ok-mark.ensures
    ∙ ap (λ q. all_written q (k.Mark m.Colon ∷ body)) c.in_ok-write_case_head.ensures
    ∙ sym (all_written_append c.args.printer.now head (k.Mark m.Colon ∷ body))
    ∙ ap (all_written c.args.printer.now) (sym (case_kinds c.args.case.now))

pub statements::write_stmt-returns-in_ok-write_maybe_behind-in-If :
    goal.statements::write_stmt-returns-in_ok-write_maybe_behind-in-If
statements::write_stmt-returns-in_ok-write_maybe_behind-in-If t c =
    let head : Kinds = k.Word w.If ∷ enclosed (parts.expr c.in-If.test true) in
    let last : Kinds = parts.maybe_behind w.Else c.in-If.other in
    three _ _ _ _ head (parts.stmt c.get.result.now) last _ c.in_ok-write_header-in-If.ensures c.in_ok-write_stmt-in-If.ensures c.in_ok-write_maybe_behind-in-If.ensures
    (ap parts.stmt c.in-If.is ∙ if_kinds c.in-If.test c.in-If.then c.in-If.other ∙ ap (λ st. head ++ (parts.stmt st ++ last)) (sym c.get.ensures))

pub statements::write_stmt-returns-in_ok-write_stmt-in-For :
    goal.statements::write_stmt-returns-in_ok-write_stmt-in-For
statements::write_stmt-returns-in_ok-write_stmt-in-For t c =
    let head : Kinds = k.Word w.For ∷ (k.Mark m.OpenParenthesis ∷ (parts.for_init c.in-For.first ++ (k.Mark m.Semicolon ∷ []))) in
    let test : Kinds = parts.maybe_expr c.in-For.test ++ (k.Mark m.Semicolon ∷ []) in
    let next : Kinds = parts.maybe_expr c.in-For.next ++ (k.Mark m.CloseParenthesis ∷ []) in
    four _ _ _ _ _ head test next (parts.stmt c.get-in-For.result.now) _ c.in_ok-write_for_first-in-For.ensures c.in_ok-write_maybe_before-in-For.ensures c.in_ok-write_maybe_before-in-For-2.ensures c.in_ok-write_stmt-in-For.ensures
    (ap parts.stmt c.in-For.is ∙ for_kinds c.in-For.first c.in-For.test c.in-For.next c.in-For.body ∙ ap (λ st. head ++ (test ++ (next ++ parts.stmt st))) (sym c.get-in-For.ensures))

pub statements::write_stmt-returns-in_ok-write_maybe_behind-in-Try :
    goal.statements::write_stmt-returns-in_ok-write_maybe_behind-in-Try
statements::write_stmt-returns-in_ok-write_maybe_behind-in-Try t c =
    let caught : Kinds = parts.handler c.in-Try.handler in
    let last : Kinds = parts.maybe_behind w.Finally c.in-Try.last in
    three _ _ _ _ (k.Word w.Try ∷ parts.stmt c.get-in-Try.result.now) caught last _ c.in_ok-write_behind-in-Try.ensures c.in_ok-write_handler-in-Try.ensures c.in_ok-write_maybe_behind-in-Try.ensures
    (ap parts.stmt c.in-Try.is ∙ try_kinds c.in-Try.block c.in-Try.handler c.in-Try.last ∙ ap (λ st. (k.Word w.Try ∷ parts.stmt st) ++ (caught ++ last)) (sym c.get-in-Try.ensures))

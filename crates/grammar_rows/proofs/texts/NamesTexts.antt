-- Which names may stand where.
use Rattle.std.proofs.Common.{true, false, [], ◌∷◌, codes, Some, None, refl, lit≤}
use Rattle.std.specs.Fmt.{digits}
use Rattle.std.specs.Char.Utf16.{utf16_chars}
use Rattle.unicode_ident.proofs.Computing.{unicode_ident}
use Rattle.js_lexer.specs.declared.mark.Mark.TheVariants as m
use Rattle.js_lexer.specs.declared.word.Word.TheVariants as w
use Rattle.js_parser.specs.declared.form.Form.TheVariants.{Source}
use Rattle.js_parser.specs.Symbols.{word, mark, name, number}
use Rattle.js_parser.specs.Ends as e
use Rattle.js_tree.specs.Tree
use Rattle.js_parser.specs.Grammar as g
use Rattle.js_parser.specs.Grammar.{code}
use Rattle.grammar_rows.specs.TextRows.{BreaksAt, Reads}
use Rattle.grammar_rows.proofs.TextRowLemmas.{reads_as, breaks_at}

pub members : Reads Source (codes "a . eval ; a . Function ; a . Infinity ; a . arguments") (codes "a.eval;a.Function;a.Infinity;a.arguments;\n")
unfolding unicode_ident utf16_chars digits
members = reads_as Source (codes "a . eval ; a . Function ; a . Infinity ; a . arguments") (Tree.MoreStmts (Tree.Do (Tree.Dot (Tree.Ident (codes "a")) (codes "eval"))) (Tree.MoreStmts (Tree.Do (Tree.Dot (Tree.Ident (codes "a")) (codes "Function"))) (Tree.MoreStmts (Tree.Do (Tree.Dot (Tree.Ident (codes "a")) (codes "Infinity"))) (Tree.MoreStmts (Tree.Do (Tree.Dot (Tree.Ident (codes "a")) (codes "arguments"))) Tree.NoStmts)))) (name (codes "a") false ∷ mark m.Dot false ∷ name (codes "eval") false ∷ mark m.Semicolon false ∷ name (codes "a") false ∷ mark m.Dot false ∷ name (codes "Function") false ∷ mark m.Semicolon false ∷ name (codes "a") false ∷ mark m.Dot false ∷ name (codes "Infinity") false ∷ mark m.Semicolon false ∷ name (codes "a") false ∷ mark m.Dot false ∷ name (codes "arguments") false ∷ []) refl (g.source_and (g.statement (g.expression (g.dot 18 false false (lit≤ tt) (lit≤ tt) (lit≤ tt) (g.identifier false (lit≤ tt) refl) refl) (λ e. cc) (λ e. cc) (e.written false))) (g.source_and (g.statement (g.expression (g.dot 18 false false (lit≤ tt) (lit≤ tt) (lit≤ tt) (g.identifier false (lit≤ tt) refl) refl) (λ e. cc) (λ e. cc) (e.written false))) (g.source_and (g.statement (g.expression (g.dot 18 false false (lit≤ tt) (lit≤ tt) (lit≤ tt) (g.identifier false (lit≤ tt) refl) refl) (λ e. cc) (λ e. cc) (e.written false))) (g.source_and (g.statement (g.expression (g.dot 18 false false (lit≤ tt) (lit≤ tt) (lit≤ tt) (g.identifier false (lit≤ tt) refl) refl) (λ e. cc) (λ e. cc) (e.at_end refl))) g.no_source)))) (record { few = lit≤ tt; low = lit≤ tt; flat = lit≤ tt; closed = lit≤ tt }) refl

pub keys : Reads Source (codes "x = { eval : 1 , Function : 2 , Infinity : 3 , arguments : 4 , callee : 5 , caller : 6 }") (codes "x={eval:1,Function:2,Infinity:3,arguments:4,callee:5,caller:6};\n")
unfolding unicode_ident utf16_chars digits
keys = reads_as Source (codes "x = { eval : 1 , Function : 2 , Infinity : 3 , arguments : 4 , callee : 5 , caller : 6 }") (Tree.MoreStmts (Tree.Do (Tree.Assign None (Tree.Ident (codes "x")) (Tree.Object (Tree.MorePairs (codes "eval") (Tree.Num 1) (Tree.MorePairs (codes "Function") (Tree.Num 2) (Tree.MorePairs (codes "Infinity") (Tree.Num 3) (Tree.MorePairs (codes "arguments") (Tree.Num 4) (Tree.MorePairs (codes "callee") (Tree.Num 5) (Tree.MorePairs (codes "caller") (Tree.Num 6) Tree.NoPairs))))))))) Tree.NoStmts) (name (codes "x") false ∷ mark m.Assign false ∷ mark m.OpenBrace false ∷ name (codes "eval") false ∷ mark m.Colon false ∷ number 1 false ∷ mark m.Comma false ∷ name (codes "Function") false ∷ mark m.Colon false ∷ number 2 false ∷ mark m.Comma false ∷ name (codes "Infinity") false ∷ mark m.Colon false ∷ number 3 false ∷ mark m.Comma false ∷ name (codes "arguments") false ∷ mark m.Colon false ∷ number 4 false ∷ mark m.Comma false ∷ name (codes "callee") false ∷ mark m.Colon false ∷ number 5 false ∷ mark m.Comma false ∷ name (codes "caller") false ∷ mark m.Colon false ∷ number 6 false ∷ mark m.CloseBrace false ∷ []) refl (g.source_and (g.statement (g.expression (g.assign None m.Assign false (lit≤ tt) refl (g.identifier false (lit≤ tt) refl) refl (g.object false false (lit≤ tt) (g.property_and (name (codes "eval") false) false false refl (g.numeral true false (lit≤ tt)) (g.property_and (name (codes "Function") false) false false refl (g.numeral true false (lit≤ tt)) (g.property_and (name (codes "Infinity") false) false false refl (g.numeral true false (lit≤ tt)) (g.property_and (name (codes "arguments") false) false false refl (g.numeral true false (lit≤ tt)) (g.property_and (name (codes "callee") false) false false refl (g.numeral true false (lit≤ tt)) (g.last_property (name (codes "caller") false) false refl (g.numeral true false (lit≤ tt)))))))))) (λ e. cc) (λ e. cc) (e.at_end refl))) g.no_source) (record { few = lit≤ tt; low = lit≤ tt; flat = lit≤ tt; closed = lit≤ tt }) refl

pub as_names : Reads Source (codes "callee ; caller ; arguments ; arguments : ; arguments = 1 ; a . $dl") (codes "callee;caller;arguments;arguments:;arguments=1;a.$dl;\n")
unfolding unicode_ident utf16_chars digits
as_names = reads_as Source (codes "callee ; caller ; arguments ; arguments : ; arguments = 1 ; a . $dl") (Tree.MoreStmts (Tree.Do (Tree.Ident (codes "callee"))) (Tree.MoreStmts (Tree.Do (Tree.Ident (codes "caller"))) (Tree.MoreStmts (Tree.Do (Tree.Ident (codes "arguments"))) (Tree.MoreStmts (Tree.Label (codes "arguments") Tree.Empty) (Tree.MoreStmts (Tree.Do (Tree.Assign None (Tree.Ident (codes "arguments")) (Tree.Num 1))) (Tree.MoreStmts (Tree.Do (Tree.Dot (Tree.Ident (codes "a")) (codes "$dl"))) Tree.NoStmts)))))) (name (codes "callee") false ∷ mark m.Semicolon false ∷ name (codes "caller") false ∷ mark m.Semicolon false ∷ name (codes "arguments") false ∷ mark m.Semicolon false ∷ name (codes "arguments") false ∷ mark m.Colon false ∷ mark m.Semicolon false ∷ name (codes "arguments") false ∷ mark m.Assign false ∷ number 1 false ∷ mark m.Semicolon false ∷ name (codes "a") false ∷ mark m.Dot false ∷ name (codes "$dl") false ∷ []) refl (g.source_and (g.statement (g.expression (g.identifier false (lit≤ tt) refl) (λ e. cc) (λ e. cc) (e.written false))) (g.source_and (g.statement (g.expression (g.identifier false (lit≤ tt) refl) (λ e. cc) (λ e. cc) (e.written false))) (g.source_and (g.statement (g.expression (g.identifier false (lit≤ tt) refl) (λ e. cc) (λ e. cc) (e.written false))) (g.source_and (g.statement (g.label false false refl refl (g.empty false))) (g.source_and (g.statement (g.expression (g.assign None m.Assign false (lit≤ tt) refl (g.identifier false (lit≤ tt) refl) refl (g.numeral true false (lit≤ tt))) (λ e. cc) (λ e. cc) (e.written false))) (g.source_and (g.statement (g.expression (g.dot 18 false false (lit≤ tt) (lit≤ tt) (lit≤ tt) (g.identifier false (lit≤ tt) refl) refl) (λ e. cc) (λ e. cc) (e.at_end refl))) g.no_source)))))) (record { few = lit≤ tt; low = lit≤ tt; flat = lit≤ tt; closed = lit≤ tt }) refl

pub bound : Reads Source (codes "var callee ; function caller ( evals , Functions , $dl ) { }") (codes "var callee;function caller(evals,Functions,$dl){}\n")
unfolding unicode_ident utf16_chars digits
bound = reads_as Source (codes "var callee ; function caller ( evals , Functions , $dl ) { }") (Tree.MoreStmts (Tree.Variables (Tree.MoreVarItems (codes "callee") Tree.NoExpr Tree.NoVarItems)) (Tree.MoreStmts (Tree.Declare (code (Some (codes "caller")) ((codes "evals") ∷ ((codes "Functions") ∷ ((codes "$dl") ∷ []))) Tree.NoStmts)) Tree.NoStmts)) (word w.Var false ∷ name (codes "callee") false ∷ mark m.Semicolon false ∷ word w.Function false ∷ name (codes "caller") false ∷ mark m.OpenParenthesis false ∷ name (codes "evals") false ∷ mark m.Comma false ∷ name (codes "Functions") false ∷ mark m.Comma false ∷ name (codes "$dl") false ∷ mark m.CloseParenthesis false ∷ mark m.OpenBrace false ∷ mark m.CloseBrace false ∷ []) refl (g.source_and (g.statement (g.variables false (g.last_declarator (g.bare false refl)) (e.written false))) (g.source_and (g.declaration false false refl (g.function_rest false false false false (g.formal_and false false refl (g.formal_and false false refl (g.last_formal false refl))) refl g.no_source)) g.no_source)) (record { few = lit≤ tt; low = lit≤ tt; flat = lit≤ tt; closed = lit≤ tt }) refl

pub no_eval : BreaksAt Source (codes "x =") (codes "eval")
no_eval = breaks_at Source (codes "x =") (codes "eval") (Tree.MoreStmts (Tree.Do (Tree.Assign None (Tree.Ident (codes "x")) (Tree.Num 1))) Tree.NoStmts) (number 1 false ∷ mark m.Semicolon false ∷ []) (name (codes "x") false ∷ mark m.Assign false ∷ number 1 false ∷ mark m.Semicolon false ∷ []) (name (codes "x") false ∷ mark m.Assign false ∷ name (codes "eval") false ∷ []) refl refl (g.source_and (g.statement (g.expression (g.assign None m.Assign false (lit≤ tt) refl (g.identifier false (lit≤ tt) refl) refl (g.numeral true false (lit≤ tt))) (λ e. cc) (λ e. cc) (e.written false))) g.no_source) (lit≤ tt) (λ others. refl)

pub no_function_name : BreaksAt Source (codes "x =") (codes "Function")
no_function_name = breaks_at Source (codes "x =") (codes "Function") (Tree.MoreStmts (Tree.Do (Tree.Assign None (Tree.Ident (codes "x")) (Tree.Num 1))) Tree.NoStmts) (number 1 false ∷ mark m.Semicolon false ∷ []) (name (codes "x") false ∷ mark m.Assign false ∷ number 1 false ∷ mark m.Semicolon false ∷ []) (name (codes "x") false ∷ mark m.Assign false ∷ name (codes "Function") false ∷ []) refl refl (g.source_and (g.statement (g.expression (g.assign None m.Assign false (lit≤ tt) refl (g.identifier false (lit≤ tt) refl) refl (g.numeral true false (lit≤ tt))) (λ e. cc) (λ e. cc) (e.written false))) g.no_source) (lit≤ tt) (λ others. refl)

pub no_infinity : BreaksAt Source (codes "x =") (codes "Infinity")
no_infinity = breaks_at Source (codes "x =") (codes "Infinity") (Tree.MoreStmts (Tree.Do (Tree.Assign None (Tree.Ident (codes "x")) (Tree.Num 1))) Tree.NoStmts) (number 1 false ∷ mark m.Semicolon false ∷ []) (name (codes "x") false ∷ mark m.Assign false ∷ number 1 false ∷ mark m.Semicolon false ∷ []) (name (codes "x") false ∷ mark m.Assign false ∷ name (codes "Infinity") false ∷ []) refl refl (g.source_and (g.statement (g.expression (g.assign None m.Assign false (lit≤ tt) refl (g.identifier false (lit≤ tt) refl) refl (g.numeral true false (lit≤ tt))) (λ e. cc) (λ e. cc) (e.written false))) g.no_source) (lit≤ tt) (λ others. refl)

pub no_own_name : BreaksAt Source (codes "x =") (codes "$dl_x")
no_own_name = breaks_at Source (codes "x =") (codes "$dl_x") (Tree.MoreStmts (Tree.Do (Tree.Assign None (Tree.Ident (codes "x")) (Tree.Num 1))) Tree.NoStmts) (number 1 false ∷ mark m.Semicolon false ∷ []) (name (codes "x") false ∷ mark m.Assign false ∷ number 1 false ∷ mark m.Semicolon false ∷ []) (name (codes "x") false ∷ mark m.Assign false ∷ name (codes "$dl_x") false ∷ []) refl refl (g.source_and (g.statement (g.expression (g.assign None m.Assign false (lit≤ tt) refl (g.identifier false (lit≤ tt) refl) refl (g.numeral true false (lit≤ tt))) (λ e. cc) (λ e. cc) (e.written false))) g.no_source) (lit≤ tt) (λ others. refl)

pub no_callee : BreaksAt Source (codes "a .") (codes "callee")
no_callee = breaks_at Source (codes "a .") (codes "callee") (Tree.MoreStmts (Tree.Do (Tree.Dot (Tree.Ident (codes "a")) (codes "b"))) Tree.NoStmts) (name (codes "b") false ∷ mark m.Semicolon false ∷ []) (name (codes "a") false ∷ mark m.Dot false ∷ name (codes "b") false ∷ mark m.Semicolon false ∷ []) (name (codes "a") false ∷ mark m.Dot false ∷ name (codes "callee") false ∷ []) refl refl (g.source_and (g.statement (g.expression (g.dot 18 false false (lit≤ tt) (lit≤ tt) (lit≤ tt) (g.identifier false (lit≤ tt) refl) refl) (λ e. cc) (λ e. cc) (e.written false))) g.no_source) (lit≤ tt) (λ others. refl)

pub no_caller : BreaksAt Source (codes "a .") (codes "caller")
no_caller = breaks_at Source (codes "a .") (codes "caller") (Tree.MoreStmts (Tree.Do (Tree.Dot (Tree.Ident (codes "a")) (codes "b"))) Tree.NoStmts) (name (codes "b") false ∷ mark m.Semicolon false ∷ []) (name (codes "a") false ∷ mark m.Dot false ∷ name (codes "b") false ∷ mark m.Semicolon false ∷ []) (name (codes "a") false ∷ mark m.Dot false ∷ name (codes "caller") false ∷ []) refl refl (g.source_and (g.statement (g.expression (g.dot 18 false false (lit≤ tt) (lit≤ tt) (lit≤ tt) (g.identifier false (lit≤ tt) refl) refl) (λ e. cc) (λ e. cc) (e.written false))) g.no_source) (lit≤ tt) (λ others. refl)

pub no_own_member : BreaksAt Source (codes "a .") (codes "$dl_x")
no_own_member = breaks_at Source (codes "a .") (codes "$dl_x") (Tree.MoreStmts (Tree.Do (Tree.Dot (Tree.Ident (codes "a")) (codes "b"))) Tree.NoStmts) (name (codes "b") false ∷ mark m.Semicolon false ∷ []) (name (codes "a") false ∷ mark m.Dot false ∷ name (codes "b") false ∷ mark m.Semicolon false ∷ []) (name (codes "a") false ∷ mark m.Dot false ∷ name (codes "$dl_x") false ∷ []) refl refl (g.source_and (g.statement (g.expression (g.dot 18 false false (lit≤ tt) (lit≤ tt) (lit≤ tt) (g.identifier false (lit≤ tt) refl) refl) (λ e. cc) (λ e. cc) (e.written false))) g.no_source) (lit≤ tt) (λ others. refl)

pub no_own_key : BreaksAt Source (codes "x = {") (codes "$dl_x")
no_own_key = breaks_at Source (codes "x = {") (codes "$dl_x") (Tree.MoreStmts (Tree.Do (Tree.Assign None (Tree.Ident (codes "x")) (Tree.Object Tree.NoPairs))) Tree.NoStmts) (mark m.CloseBrace false ∷ mark m.Semicolon false ∷ []) (name (codes "x") false ∷ mark m.Assign false ∷ mark m.OpenBrace false ∷ mark m.CloseBrace false ∷ mark m.Semicolon false ∷ []) (name (codes "x") false ∷ mark m.Assign false ∷ mark m.OpenBrace false ∷ name (codes "$dl_x") false ∷ []) refl refl (g.source_and (g.statement (g.expression (g.assign None m.Assign false (lit≤ tt) refl (g.identifier false (lit≤ tt) refl) refl (g.object false false (lit≤ tt) g.no_property)) (λ e. cc) (λ e. cc) (e.written false))) g.no_source) (lit≤ tt) (λ others. refl)

pub no_eval_item : BreaksAt Source (codes "var") (codes "eval")
no_eval_item = breaks_at Source (codes "var") (codes "eval") (Tree.MoreStmts (Tree.Variables (Tree.MoreVarItems (codes "a") Tree.NoExpr Tree.NoVarItems)) Tree.NoStmts) (name (codes "a") false ∷ mark m.Semicolon false ∷ []) (word w.Var false ∷ name (codes "a") false ∷ mark m.Semicolon false ∷ []) (word w.Var false ∷ name (codes "eval") false ∷ []) refl refl (g.source_and (g.statement (g.variables false (g.last_declarator (g.bare false refl)) (e.written false))) g.no_source) (lit≤ tt) (λ others. refl)

pub no_function_item : BreaksAt Source (codes "var") (codes "Function")
no_function_item = breaks_at Source (codes "var") (codes "Function") (Tree.MoreStmts (Tree.Variables (Tree.MoreVarItems (codes "a") Tree.NoExpr Tree.NoVarItems)) Tree.NoStmts) (name (codes "a") false ∷ mark m.Semicolon false ∷ []) (word w.Var false ∷ name (codes "a") false ∷ mark m.Semicolon false ∷ []) (word w.Var false ∷ name (codes "Function") false ∷ []) refl refl (g.source_and (g.statement (g.variables false (g.last_declarator (g.bare false refl)) (e.written false))) g.no_source) (lit≤ tt) (λ others. refl)

pub no_infinity_item : BreaksAt Source (codes "var") (codes "Infinity")
no_infinity_item = breaks_at Source (codes "var") (codes "Infinity") (Tree.MoreStmts (Tree.Variables (Tree.MoreVarItems (codes "a") Tree.NoExpr Tree.NoVarItems)) Tree.NoStmts) (name (codes "a") false ∷ mark m.Semicolon false ∷ []) (word w.Var false ∷ name (codes "a") false ∷ mark m.Semicolon false ∷ []) (word w.Var false ∷ name (codes "Infinity") false ∷ []) refl refl (g.source_and (g.statement (g.variables false (g.last_declarator (g.bare false refl)) (e.written false))) g.no_source) (lit≤ tt) (λ others. refl)

pub no_arguments_item : BreaksAt Source (codes "var") (codes "arguments")
no_arguments_item = breaks_at Source (codes "var") (codes "arguments") (Tree.MoreStmts (Tree.Variables (Tree.MoreVarItems (codes "a") Tree.NoExpr Tree.NoVarItems)) Tree.NoStmts) (name (codes "a") false ∷ mark m.Semicolon false ∷ []) (word w.Var false ∷ name (codes "a") false ∷ mark m.Semicolon false ∷ []) (word w.Var false ∷ name (codes "arguments") false ∷ []) refl refl (g.source_and (g.statement (g.variables false (g.last_declarator (g.bare false refl)) (e.written false))) g.no_source) (lit≤ tt) (λ others. refl)

pub no_own_item : BreaksAt Source (codes "var") (codes "$dl_x")
no_own_item = breaks_at Source (codes "var") (codes "$dl_x") (Tree.MoreStmts (Tree.Variables (Tree.MoreVarItems (codes "a") Tree.NoExpr Tree.NoVarItems)) Tree.NoStmts) (name (codes "a") false ∷ mark m.Semicolon false ∷ []) (word w.Var false ∷ name (codes "a") false ∷ mark m.Semicolon false ∷ []) (word w.Var false ∷ name (codes "$dl_x") false ∷ []) refl refl (g.source_and (g.statement (g.variables false (g.last_declarator (g.bare false refl)) (e.written false))) g.no_source) (lit≤ tt) (λ others. refl)

pub no_eval_function : BreaksAt Source (codes "function") (codes "eval")
no_eval_function = breaks_at Source (codes "function") (codes "eval") (Tree.MoreStmts (Tree.Declare (code (Some (codes "f")) [] Tree.NoStmts)) Tree.NoStmts) (name (codes "f") false ∷ mark m.OpenParenthesis false ∷ mark m.CloseParenthesis false ∷ mark m.OpenBrace false ∷ mark m.CloseBrace false ∷ []) (word w.Function false ∷ name (codes "f") false ∷ mark m.OpenParenthesis false ∷ mark m.CloseParenthesis false ∷ mark m.OpenBrace false ∷ mark m.CloseBrace false ∷ []) (word w.Function false ∷ name (codes "eval") false ∷ []) refl refl (g.source_and (g.declaration false false refl (g.function_rest false false false false g.no_formal refl g.no_source)) g.no_source) (lit≤ tt) (λ others. refl)

pub no_arguments_function : BreaksAt Source (codes "function") (codes "arguments")
no_arguments_function = breaks_at Source (codes "function") (codes "arguments") (Tree.MoreStmts (Tree.Declare (code (Some (codes "f")) [] Tree.NoStmts)) Tree.NoStmts) (name (codes "f") false ∷ mark m.OpenParenthesis false ∷ mark m.CloseParenthesis false ∷ mark m.OpenBrace false ∷ mark m.CloseBrace false ∷ []) (word w.Function false ∷ name (codes "f") false ∷ mark m.OpenParenthesis false ∷ mark m.CloseParenthesis false ∷ mark m.OpenBrace false ∷ mark m.CloseBrace false ∷ []) (word w.Function false ∷ name (codes "arguments") false ∷ []) refl refl (g.source_and (g.declaration false false refl (g.function_rest false false false false g.no_formal refl g.no_source)) g.no_source) (lit≤ tt) (λ others. refl)

pub no_infinity_expression : BreaksAt Source (codes "x = function") (codes "Infinity")
no_infinity_expression = breaks_at Source (codes "x = function") (codes "Infinity") (Tree.MoreStmts (Tree.Do (Tree.Assign None (Tree.Ident (codes "x")) (Tree.Function (code None [] Tree.NoStmts)))) Tree.NoStmts) (mark m.OpenParenthesis false ∷ mark m.CloseParenthesis false ∷ mark m.OpenBrace false ∷ mark m.CloseBrace false ∷ mark m.Semicolon false ∷ []) (name (codes "x") false ∷ mark m.Assign false ∷ word w.Function false ∷ mark m.OpenParenthesis false ∷ mark m.CloseParenthesis false ∷ mark m.OpenBrace false ∷ mark m.CloseBrace false ∷ mark m.Semicolon false ∷ []) (name (codes "x") false ∷ mark m.Assign false ∷ word w.Function false ∷ name (codes "Infinity") false ∷ []) refl refl (g.source_and (g.statement (g.expression (g.assign None m.Assign false (lit≤ tt) refl (g.identifier false (lit≤ tt) refl) refl (g.function false (lit≤ tt) (g.function_rest false false false false g.no_formal refl g.no_source))) (λ e. cc) (λ e. cc) (e.written false))) g.no_source) (lit≤ tt) (λ others. refl)

pub no_arguments_expression : BreaksAt Source (codes "x = function") (codes "arguments")
no_arguments_expression = breaks_at Source (codes "x = function") (codes "arguments") (Tree.MoreStmts (Tree.Do (Tree.Assign None (Tree.Ident (codes "x")) (Tree.Function (code None [] Tree.NoStmts)))) Tree.NoStmts) (mark m.OpenParenthesis false ∷ mark m.CloseParenthesis false ∷ mark m.OpenBrace false ∷ mark m.CloseBrace false ∷ mark m.Semicolon false ∷ []) (name (codes "x") false ∷ mark m.Assign false ∷ word w.Function false ∷ mark m.OpenParenthesis false ∷ mark m.CloseParenthesis false ∷ mark m.OpenBrace false ∷ mark m.CloseBrace false ∷ mark m.Semicolon false ∷ []) (name (codes "x") false ∷ mark m.Assign false ∷ word w.Function false ∷ name (codes "arguments") false ∷ []) refl refl (g.source_and (g.statement (g.expression (g.assign None m.Assign false (lit≤ tt) refl (g.identifier false (lit≤ tt) refl) refl (g.function false (lit≤ tt) (g.function_rest false false false false g.no_formal refl g.no_source))) (λ e. cc) (λ e. cc) (e.written false))) g.no_source) (lit≤ tt) (λ others. refl)

pub no_function_formal : BreaksAt Source (codes "function f (") (codes "Function")
no_function_formal = breaks_at Source (codes "function f (") (codes "Function") (Tree.MoreStmts (Tree.Declare (code (Some (codes "f")) [] Tree.NoStmts)) Tree.NoStmts) (mark m.CloseParenthesis false ∷ mark m.OpenBrace false ∷ mark m.CloseBrace false ∷ []) (word w.Function false ∷ name (codes "f") false ∷ mark m.OpenParenthesis false ∷ mark m.CloseParenthesis false ∷ mark m.OpenBrace false ∷ mark m.CloseBrace false ∷ []) (word w.Function false ∷ name (codes "f") false ∷ mark m.OpenParenthesis false ∷ name (codes "Function") false ∷ []) refl refl (g.source_and (g.declaration false false refl (g.function_rest false false false false g.no_formal refl g.no_source)) g.no_source) (lit≤ tt) (λ others. refl)

pub no_arguments_formal : BreaksAt Source (codes "function f ( a ,") (codes "arguments")
no_arguments_formal = breaks_at Source (codes "function f ( a ,") (codes "arguments") (Tree.MoreStmts (Tree.Declare (code (Some (codes "f")) ((codes "a") ∷ ((codes "b") ∷ [])) Tree.NoStmts)) Tree.NoStmts) (name (codes "b") false ∷ mark m.CloseParenthesis false ∷ mark m.OpenBrace false ∷ mark m.CloseBrace false ∷ []) (word w.Function false ∷ name (codes "f") false ∷ mark m.OpenParenthesis false ∷ name (codes "a") false ∷ mark m.Comma false ∷ name (codes "b") false ∷ mark m.CloseParenthesis false ∷ mark m.OpenBrace false ∷ mark m.CloseBrace false ∷ []) (word w.Function false ∷ name (codes "f") false ∷ mark m.OpenParenthesis false ∷ name (codes "a") false ∷ mark m.Comma false ∷ name (codes "arguments") false ∷ []) refl refl (g.source_and (g.declaration false false refl (g.function_rest false false false false (g.formal_and false false refl (g.last_formal false refl)) refl g.no_source)) g.no_source) (lit≤ tt) (λ others. refl)

pub no_eval_catch : BreaksAt Source (codes "try { } catch (") (codes "eval")
no_eval_catch = breaks_at Source (codes "try { } catch (") (codes "eval") (Tree.MoreStmts (Tree.Try (Tree.Block Tree.NoStmts) (Tree.ACatch (codes "e") (Tree.Block Tree.NoStmts)) Tree.NoStmt) Tree.NoStmts) (name (codes "e") false ∷ mark m.CloseParenthesis false ∷ mark m.OpenBrace false ∷ mark m.CloseBrace false ∷ []) (word w.Try false ∷ mark m.OpenBrace false ∷ mark m.CloseBrace false ∷ word w.Catch false ∷ mark m.OpenParenthesis false ∷ name (codes "e") false ∷ mark m.CloseParenthesis false ∷ mark m.OpenBrace false ∷ mark m.CloseBrace false ∷ []) (word w.Try false ∷ mark m.OpenBrace false ∷ mark m.CloseBrace false ∷ word w.Catch false ∷ mark m.OpenParenthesis false ∷ name (codes "eval") false ∷ []) refl refl (g.source_and (g.statement (g.try_catch false false false false false (g.braces false false g.no_statement) refl (g.braces false false g.no_statement))) g.no_source) (lit≤ tt) (λ others. refl)

pub no_arguments_catch : BreaksAt Source (codes "try { } catch (") (codes "arguments")
no_arguments_catch = breaks_at Source (codes "try { } catch (") (codes "arguments") (Tree.MoreStmts (Tree.Try (Tree.Block Tree.NoStmts) (Tree.ACatch (codes "e") (Tree.Block Tree.NoStmts)) Tree.NoStmt) Tree.NoStmts) (name (codes "e") false ∷ mark m.CloseParenthesis false ∷ mark m.OpenBrace false ∷ mark m.CloseBrace false ∷ []) (word w.Try false ∷ mark m.OpenBrace false ∷ mark m.CloseBrace false ∷ word w.Catch false ∷ mark m.OpenParenthesis false ∷ name (codes "e") false ∷ mark m.CloseParenthesis false ∷ mark m.OpenBrace false ∷ mark m.CloseBrace false ∷ []) (word w.Try false ∷ mark m.OpenBrace false ∷ mark m.CloseBrace false ∷ word w.Catch false ∷ mark m.OpenParenthesis false ∷ name (codes "arguments") false ∷ []) refl refl (g.source_and (g.statement (g.try_catch false false false false false (g.braces false false g.no_statement) refl (g.braces false false g.no_statement))) g.no_source) (lit≤ tt) (λ others. refl)

pub no_eval_header : BreaksAt Source (codes "for ( var") (codes "eval")
no_eval_header = breaks_at Source (codes "for ( var") (codes "eval") (Tree.MoreStmts (Tree.For (Tree.Vars (Tree.MoreVarItems (codes "a") Tree.NoExpr Tree.NoVarItems)) Tree.NoExpr Tree.NoExpr Tree.Empty) Tree.NoStmts) (name (codes "a") false ∷ mark m.Semicolon false ∷ mark m.Semicolon false ∷ mark m.CloseParenthesis false ∷ mark m.Semicolon false ∷ []) (word w.For false ∷ mark m.OpenParenthesis false ∷ word w.Var false ∷ name (codes "a") false ∷ mark m.Semicolon false ∷ mark m.Semicolon false ∷ mark m.CloseParenthesis false ∷ mark m.Semicolon false ∷ []) (word w.For false ∷ mark m.OpenParenthesis false ∷ word w.Var false ∷ name (codes "eval") false ∷ []) refl refl (g.source_and (g.statement (g.for false false false false false (g.variables_first false (g.last_declarator (g.bare false refl))) g.absent g.absent (g.empty false))) g.no_source) (lit≤ tt) (λ others. refl)

pub no_eval_label : BreaksAt Source (codes "a : break") (codes "eval")
no_eval_label = breaks_at Source (codes "a : break") (codes "eval") (Tree.MoreStmts (Tree.Label (codes "a") (Tree.Break (Some (codes "a")))) Tree.NoStmts) (name (codes "a") false ∷ mark m.Semicolon false ∷ []) (name (codes "a") false ∷ mark m.Colon false ∷ word w.Break false ∷ name (codes "a") false ∷ mark m.Semicolon false ∷ []) (name (codes "a") false ∷ mark m.Colon false ∷ word w.Break false ∷ name (codes "eval") false ∷ []) refl refl (g.source_and (g.statement (g.label false false refl refl (g.break_from false refl refl (e.written false)))) g.no_source) (lit≤ tt) (λ others. refl)

pub no_infinity_label : BreaksAt Source (codes "a : while ( b ) continue") (codes "Infinity")
no_infinity_label = breaks_at Source (codes "a : while ( b ) continue") (codes "Infinity") (Tree.MoreStmts (Tree.Label (codes "a") (Tree.While (Tree.Ident (codes "b")) (Tree.Continue (Some (codes "a"))))) Tree.NoStmts) (name (codes "a") false ∷ mark m.Semicolon false ∷ []) (name (codes "a") false ∷ mark m.Colon false ∷ word w.While false ∷ mark m.OpenParenthesis false ∷ name (codes "b") false ∷ mark m.CloseParenthesis false ∷ word w.Continue false ∷ name (codes "a") false ∷ mark m.Semicolon false ∷ []) (name (codes "a") false ∷ mark m.Colon false ∷ word w.While false ∷ mark m.OpenParenthesis false ∷ name (codes "b") false ∷ mark m.CloseParenthesis false ∷ word w.Continue false ∷ name (codes "Infinity") false ∷ []) refl refl (g.source_and (g.statement (g.label false false refl refl (g.while false false false (g.identifier false (lit≤ tt) refl) (g.continue_to false refl refl (e.written false))))) g.no_source) (lit≤ tt) (λ others. refl)

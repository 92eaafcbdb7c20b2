-- With what an expression statement begins, and where functions stand.
use Rattle.std.proofs.Common.{true, false, [], ◌∷◌, codes, Some, None, refl, lit≤}
use Rattle.std.specs.Fmt.{digits}
use Rattle.std.specs.Char.Utf16.{utf16_chars}
use Rattle.unicode_ident.proofs.Computing.{unicode_ident}
use Rattle.js_tree.specs.declared.tree.PrefixOp.TheVariants as p
use Rattle.js_lexer.specs.declared.mark.Mark.TheVariants as m
use Rattle.js_lexer.specs.declared.word.Word.TheVariants as w
use Rattle.js_parser.specs.declared.form.Form.TheVariants.{Source}
use Rattle.js_parser.specs.Symbols.{word, mark, name, number}
use Rattle.js_parser.specs.Ends as e
use Rattle.js_tree.specs.Tree
use Rattle.js_parser.specs.Grammar as g
use Rattle.js_parser.specs.Grammar.{code}
use Rattle.grammar_rows.specs.TextRows.{BreaksAt, Reads}
use Rattle.grammar_rows.proofs.TextRowLemmas.{reads_as, breaks_at}

pub in_parentheses : Reads Source (codes "( { } ) . a ; ( function ( ) { } ) ; ( function ( ) { } , a )") (codes "({}.a);(function(){});(function(){},a);\n")
unfolding unicode_ident utf16_chars digits
in_parentheses = reads_as Source (codes "( { } ) . a ; ( function ( ) { } ) ; ( function ( ) { } , a )") (Tree.MoreStmts (Tree.Do (Tree.Dot (Tree.Object Tree.NoPairs) (codes "a"))) (Tree.MoreStmts (Tree.Do (Tree.Function (code None [] Tree.NoStmts))) (Tree.MoreStmts (Tree.Do (Tree.Comma (Tree.Function (code None [] Tree.NoStmts)) (Tree.Ident (codes "a")))) Tree.NoStmts))) (mark m.OpenParenthesis false ∷ mark m.OpenBrace false ∷ mark m.CloseBrace false ∷ mark m.CloseParenthesis false ∷ mark m.Dot false ∷ name (codes "a") false ∷ mark m.Semicolon false ∷ mark m.OpenParenthesis false ∷ word w.Function false ∷ mark m.OpenParenthesis false ∷ mark m.CloseParenthesis false ∷ mark m.OpenBrace false ∷ mark m.CloseBrace false ∷ mark m.CloseParenthesis false ∷ mark m.Semicolon false ∷ mark m.OpenParenthesis false ∷ word w.Function false ∷ mark m.OpenParenthesis false ∷ mark m.CloseParenthesis false ∷ mark m.OpenBrace false ∷ mark m.CloseBrace false ∷ mark m.Comma false ∷ name (codes "a") false ∷ mark m.CloseParenthesis false ∷ []) refl (g.source_and (g.statement (g.expression (g.dot 18 false false (lit≤ tt) (lit≤ tt) (lit≤ tt) (g.parenthesised false false (lit≤ tt) (g.object false false (lit≤ tt) g.no_property)) refl) (λ e. cc) (λ e. cc) (e.written false))) (g.source_and (g.statement (g.expression (g.parenthesised false false (lit≤ tt) (g.function false (lit≤ tt) (g.function_rest false false false false g.no_formal refl g.no_source))) (λ e. cc) (λ e. cc) (e.written false))) (g.source_and (g.statement (g.expression (g.parenthesised false false (lit≤ tt) (g.comma false (lit≤ tt) (g.function false (lit≤ tt) (g.function_rest false false false false g.no_formal refl g.no_source)) (g.identifier false (lit≤ tt) refl))) (λ e. cc) (λ e. cc) (e.at_end refl))) g.no_source))) (record { few = lit≤ tt; low = lit≤ tt; flat = lit≤ tt; closed = lit≤ tt }) refl

pub inside : Reads Source (codes "a = { } ; ! function ( ) { } ; a , { }") (codes "a={};!function(){};a,{};\n")
unfolding unicode_ident utf16_chars digits
inside = reads_as Source (codes "a = { } ; ! function ( ) { } ; a , { }") (Tree.MoreStmts (Tree.Do (Tree.Assign None (Tree.Ident (codes "a")) (Tree.Object Tree.NoPairs))) (Tree.MoreStmts (Tree.Do (Tree.Prefix p.Not (Tree.Function (code None [] Tree.NoStmts)))) (Tree.MoreStmts (Tree.Do (Tree.Comma (Tree.Ident (codes "a")) (Tree.Object Tree.NoPairs))) Tree.NoStmts))) (name (codes "a") false ∷ mark m.Assign false ∷ mark m.OpenBrace false ∷ mark m.CloseBrace false ∷ mark m.Semicolon false ∷ mark m.Not false ∷ word w.Function false ∷ mark m.OpenParenthesis false ∷ mark m.CloseParenthesis false ∷ mark m.OpenBrace false ∷ mark m.CloseBrace false ∷ mark m.Semicolon false ∷ name (codes "a") false ∷ mark m.Comma false ∷ mark m.OpenBrace false ∷ mark m.CloseBrace false ∷ []) refl (g.source_and (g.statement (g.expression (g.assign None m.Assign false (lit≤ tt) refl (g.identifier false (lit≤ tt) refl) refl (g.object false false (lit≤ tt) g.no_property)) (λ e. cc) (λ e. cc) (e.written false))) (g.source_and (g.statement (g.expression (g.prefix p.Not false (lit≤ tt) refl (g.function false (lit≤ tt) (g.function_rest false false false false g.no_formal refl g.no_source))) (λ e. cc) (λ e. cc) (e.written false))) (g.source_and (g.statement (g.expression (g.comma false (lit≤ tt) (g.identifier false (lit≤ tt) refl) (g.object false false (lit≤ tt) g.no_property)) (λ e. cc) (λ e. cc) (e.at_end refl))) g.no_source))) (record { few = lit≤ tt; low = lit≤ tt; flat = lit≤ tt; closed = lit≤ tt }) refl

pub brace_is_a_block : BreaksAt Source (codes "{ a : 1 , b") (codes ":")
brace_is_a_block = breaks_at Source (codes "{ a : 1 , b") (codes ":") (Tree.MoreStmts (Tree.Block (Tree.MoreStmts (Tree.Label (codes "a") (Tree.Do (Tree.Comma (Tree.Num 1) (Tree.Ident (codes "b"))))) Tree.NoStmts)) Tree.NoStmts) (mark m.Semicolon false ∷ mark m.CloseBrace false ∷ []) (mark m.OpenBrace false ∷ name (codes "a") false ∷ mark m.Colon false ∷ number 1 false ∷ mark m.Comma false ∷ name (codes "b") false ∷ mark m.Semicolon false ∷ mark m.CloseBrace false ∷ []) (mark m.OpenBrace false ∷ name (codes "a") false ∷ mark m.Colon false ∷ number 1 false ∷ mark m.Comma false ∷ name (codes "b") false ∷ mark m.Colon false ∷ []) refl refl (g.source_and (g.statement (g.block (g.braces false false (g.statement_and (g.label false false refl refl (g.expression (g.comma false (lit≤ tt) (g.numeral true false (lit≤ tt)) (g.identifier false (lit≤ tt) refl)) (λ e. cc) (λ e. cc) (e.written false))) g.no_statement)))) g.no_source) (lit≤ tt) (λ others. refl)

pub function_is_declared : BreaksAt Source (codes "function") (codes "(")
function_is_declared = breaks_at Source (codes "function") (codes "(") (Tree.MoreStmts (Tree.Declare (code (Some (codes "f")) [] Tree.NoStmts)) Tree.NoStmts) (name (codes "f") false ∷ mark m.OpenParenthesis false ∷ mark m.CloseParenthesis false ∷ mark m.OpenBrace false ∷ mark m.CloseBrace false ∷ []) (word w.Function false ∷ name (codes "f") false ∷ mark m.OpenParenthesis false ∷ mark m.CloseParenthesis false ∷ mark m.OpenBrace false ∷ mark m.CloseBrace false ∷ []) (word w.Function false ∷ mark m.OpenParenthesis false ∷ []) refl refl (g.source_and (g.declaration false false refl (g.function_rest false false false false g.no_formal refl g.no_source)) g.no_source) (lit≤ tt) (λ others. refl)

pub declared : Reads Source (codes "function f ( ) { function g ( ) { } } a ; function h ( ) { }") (codes "function f(){function g(){}}a;function h(){}\n")
unfolding unicode_ident utf16_chars digits
declared = reads_as Source (codes "function f ( ) { function g ( ) { } } a ; function h ( ) { }") (Tree.MoreStmts (Tree.Declare (code (Some (codes "f")) [] (Tree.MoreStmts (Tree.Declare (code (Some (codes "g")) [] Tree.NoStmts)) Tree.NoStmts))) (Tree.MoreStmts (Tree.Do (Tree.Ident (codes "a"))) (Tree.MoreStmts (Tree.Declare (code (Some (codes "h")) [] Tree.NoStmts)) Tree.NoStmts))) (word w.Function false ∷ name (codes "f") false ∷ mark m.OpenParenthesis false ∷ mark m.CloseParenthesis false ∷ mark m.OpenBrace false ∷ word w.Function false ∷ name (codes "g") false ∷ mark m.OpenParenthesis false ∷ mark m.CloseParenthesis false ∷ mark m.OpenBrace false ∷ mark m.CloseBrace false ∷ mark m.CloseBrace false ∷ name (codes "a") false ∷ mark m.Semicolon false ∷ word w.Function false ∷ name (codes "h") false ∷ mark m.OpenParenthesis false ∷ mark m.CloseParenthesis false ∷ mark m.OpenBrace false ∷ mark m.CloseBrace false ∷ []) refl (g.source_and (g.declaration false false refl (g.function_rest false false false false g.no_formal refl (g.source_and (g.declaration false false refl (g.function_rest false false false false g.no_formal refl g.no_source)) g.no_source))) (g.source_and (g.statement (g.expression (g.identifier false (lit≤ tt) refl) (λ e. cc) (λ e. cc) (e.written false))) (g.source_and (g.declaration false false refl (g.function_rest false false false false g.no_formal refl g.no_source)) g.no_source))) (record { few = lit≤ tt; low = lit≤ tt; flat = lit≤ tt; closed = lit≤ tt }) refl

pub none_in_blocks : BreaksAt Source (codes "{") (codes "function")
none_in_blocks = breaks_at Source (codes "{") (codes "function") (Tree.MoreStmts (Tree.Block Tree.NoStmts) Tree.NoStmts) (mark m.CloseBrace false ∷ []) (mark m.OpenBrace false ∷ mark m.CloseBrace false ∷ []) (mark m.OpenBrace false ∷ word w.Function false ∷ []) refl refl (g.source_and (g.statement (g.block (g.braces false false g.no_statement))) g.no_source) (lit≤ tt) (λ others. refl)

pub none_in_choices : BreaksAt Source (codes "if ( a )") (codes "function")
none_in_choices = breaks_at Source (codes "if ( a )") (codes "function") (Tree.MoreStmts (Tree.If (Tree.Ident (codes "a")) Tree.Empty Tree.NoStmt) Tree.NoStmts) (mark m.Semicolon false ∷ []) (word w.If false ∷ mark m.OpenParenthesis false ∷ name (codes "a") false ∷ mark m.CloseParenthesis false ∷ mark m.Semicolon false ∷ []) (word w.If false ∷ mark m.OpenParenthesis false ∷ name (codes "a") false ∷ mark m.CloseParenthesis false ∷ word w.Function false ∷ []) refl refl (g.source_and (g.statement (g.if false false false (g.identifier false (lit≤ tt) refl) (g.empty false) (λ e. cc))) g.no_source) (lit≤ tt) (λ others. refl)

pub none_in_else : BreaksAt Source (codes "if ( a ) ; else") (codes "function")
none_in_else = breaks_at Source (codes "if ( a ) ; else") (codes "function") (Tree.MoreStmts (Tree.If (Tree.Ident (codes "a")) Tree.Empty (Tree.AStmt Tree.Empty)) Tree.NoStmts) (mark m.Semicolon false ∷ []) (word w.If false ∷ mark m.OpenParenthesis false ∷ name (codes "a") false ∷ mark m.CloseParenthesis false ∷ mark m.Semicolon false ∷ word w.Else false ∷ mark m.Semicolon false ∷ []) (word w.If false ∷ mark m.OpenParenthesis false ∷ name (codes "a") false ∷ mark m.CloseParenthesis false ∷ mark m.Semicolon false ∷ word w.Else false ∷ word w.Function false ∷ []) refl refl (g.source_and (g.statement (g.if_else false false false false (g.identifier false (lit≤ tt) refl) (g.empty false) (g.empty false))) g.no_source) (lit≤ tt) (λ others. refl)

pub none_in_loops : BreaksAt Source (codes "while ( a )") (codes "function")
none_in_loops = breaks_at Source (codes "while ( a )") (codes "function") (Tree.MoreStmts (Tree.While (Tree.Ident (codes "a")) Tree.Empty) Tree.NoStmts) (mark m.Semicolon false ∷ []) (word w.While false ∷ mark m.OpenParenthesis false ∷ name (codes "a") false ∷ mark m.CloseParenthesis false ∷ mark m.Semicolon false ∷ []) (word w.While false ∷ mark m.OpenParenthesis false ∷ name (codes "a") false ∷ mark m.CloseParenthesis false ∷ word w.Function false ∷ []) refl refl (g.source_and (g.statement (g.while false false false (g.identifier false (lit≤ tt) refl) (g.empty false))) g.no_source) (lit≤ tt) (λ others. refl)

pub none_behind_labels : BreaksAt Source (codes "a :") (codes "function")
none_behind_labels = breaks_at Source (codes "a :") (codes "function") (Tree.MoreStmts (Tree.Label (codes "a") Tree.Empty) Tree.NoStmts) (mark m.Semicolon false ∷ []) (name (codes "a") false ∷ mark m.Colon false ∷ mark m.Semicolon false ∷ []) (name (codes "a") false ∷ mark m.Colon false ∷ word w.Function false ∷ []) refl refl (g.source_and (g.statement (g.label false false refl refl (g.empty false))) g.no_source) (lit≤ tt) (λ others. refl)

pub none_in_clauses : BreaksAt Source (codes "switch ( a ) { case b :") (codes "function")
none_in_clauses = breaks_at Source (codes "switch ( a ) { case b :") (codes "function") (Tree.MoreStmts (Tree.Switch (Tree.Ident (codes "a")) (Tree.MoreCases (Tree.AnExpr (Tree.Ident (codes "b"))) Tree.NoStmts Tree.NoCases)) Tree.NoStmts) (mark m.CloseBrace false ∷ []) (word w.Switch false ∷ mark m.OpenParenthesis false ∷ name (codes "a") false ∷ mark m.CloseParenthesis false ∷ mark m.OpenBrace false ∷ word w.Case false ∷ name (codes "b") false ∷ mark m.Colon false ∷ mark m.CloseBrace false ∷ []) (word w.Switch false ∷ mark m.OpenParenthesis false ∷ name (codes "a") false ∷ mark m.CloseParenthesis false ∷ mark m.OpenBrace false ∷ word w.Case false ∷ name (codes "b") false ∷ mark m.Colon false ∷ word w.Function false ∷ []) refl refl (g.source_and (g.statement (g.switch false false false false false (g.identifier false (lit≤ tt) refl) (g.case_and false false (g.identifier false (lit≤ tt) refl) g.no_statement g.no_clause))) g.no_source) (lit≤ tt) (λ others. refl)

pub none_in_tries : BreaksAt Source (codes "try {") (codes "function")
none_in_tries = breaks_at Source (codes "try {") (codes "function") (Tree.MoreStmts (Tree.Try (Tree.Block Tree.NoStmts) Tree.NoHandler (Tree.AStmt (Tree.Block Tree.NoStmts))) Tree.NoStmts) (mark m.CloseBrace false ∷ word w.Finally false ∷ mark m.OpenBrace false ∷ mark m.CloseBrace false ∷ []) (word w.Try false ∷ mark m.OpenBrace false ∷ mark m.CloseBrace false ∷ word w.Finally false ∷ mark m.OpenBrace false ∷ mark m.CloseBrace false ∷ []) (word w.Try false ∷ mark m.OpenBrace false ∷ word w.Function false ∷ []) refl refl (g.source_and (g.statement (g.try_finally false false (g.braces false false g.no_statement) (g.braces false false g.no_statement))) g.no_source) (lit≤ tt) (λ others. refl)

pub none_in_do : BreaksAt Source (codes "do") (codes "function")
none_in_do = breaks_at Source (codes "do") (codes "function") (Tree.MoreStmts (Tree.DoWhile Tree.Empty (Tree.Ident (codes "a"))) Tree.NoStmts) (mark m.Semicolon false ∷ word w.While false ∷ mark m.OpenParenthesis false ∷ name (codes "a") false ∷ mark m.CloseParenthesis false ∷ []) (word w.Do false ∷ mark m.Semicolon false ∷ word w.While false ∷ mark m.OpenParenthesis false ∷ name (codes "a") false ∷ mark m.CloseParenthesis false ∷ []) (word w.Do false ∷ word w.Function false ∷ []) refl refl (g.source_and (g.statement (g.do_while false false false false (g.empty false) (g.identifier false (lit≤ tt) refl) (e.at_end refl))) g.no_source) (lit≤ tt) (λ others. refl)

pub none_in_for : BreaksAt Source (codes "for ( ; ; )") (codes "function")
none_in_for = breaks_at Source (codes "for ( ; ; )") (codes "function") (Tree.MoreStmts (Tree.For Tree.Nothing Tree.NoExpr Tree.NoExpr Tree.Empty) Tree.NoStmts) (mark m.Semicolon false ∷ []) (word w.For false ∷ mark m.OpenParenthesis false ∷ mark m.Semicolon false ∷ mark m.Semicolon false ∷ mark m.CloseParenthesis false ∷ mark m.Semicolon false ∷ []) (word w.For false ∷ mark m.OpenParenthesis false ∷ mark m.Semicolon false ∷ mark m.Semicolon false ∷ mark m.CloseParenthesis false ∷ word w.Function false ∷ []) refl refl (g.source_and (g.statement (g.for false false false false false g.nothing_first g.absent g.absent (g.empty false))) g.no_source) (lit≤ tt) (λ others. refl)

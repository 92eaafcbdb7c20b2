-- Labels (ES3 12.7, 12.8, 12.12).
use Rattle.std.proofs.Common.{true, false, [], ◌∷◌, codes, Some, None, refl, lit≤}
use Rattle.std.specs.Fmt.{digits}
use Rattle.std.specs.Char.Utf16.{utf16_chars}
use Rattle.unicode_ident.proofs.Computing.{unicode_ident}
use Rattle.js_lexer.specs.declared.mark.Mark.TheVariants as m
use Rattle.js_lexer.specs.declared.word.Word.TheVariants as w
use Rattle.js_parser.specs.declared.form.Form.TheVariants.{Source}
use Rattle.js_parser.specs.Symbols.{word, mark, name, number}
use Rattle.js_parser.specs.Ends as e
use Rattle.js_tree.specs.Tree
use Rattle.js_parser.specs.Grammar as g
use Rattle.js_parser.specs.Grammar.{code}
use Rattle.grammar_rows.specs.TextRows.{BreaksAt, Reads}
use Rattle.grammar_rows.proofs.TextRowLemmas.{reads_as, breaks_at}

pub broken : Reads Source (codes "a : { break a ; { break a } } a : break a ; a : if ( b ) break a ; else break a") (codes "a:{break a;{break a;}}a:break a;a:if(b)break a;else break a;\n")
unfolding unicode_ident utf16_chars digits
broken = reads_as Source (codes "a : { break a ; { break a } } a : break a ; a : if ( b ) break a ; else break a") (Tree.MoreStmts (Tree.Label (codes "a") (Tree.Block (Tree.MoreStmts (Tree.Break (Some (codes "a"))) (Tree.MoreStmts (Tree.Block (Tree.MoreStmts (Tree.Break (Some (codes "a"))) Tree.NoStmts)) Tree.NoStmts)))) (Tree.MoreStmts (Tree.Label (codes "a") (Tree.Break (Some (codes "a")))) (Tree.MoreStmts (Tree.Label (codes "a") (Tree.If (Tree.Ident (codes "b")) (Tree.Break (Some (codes "a"))) (Tree.AStmt (Tree.Break (Some (codes "a")))))) Tree.NoStmts))) (name (codes "a") false ∷ mark m.Colon false ∷ mark m.OpenBrace false ∷ word w.Break false ∷ name (codes "a") false ∷ mark m.Semicolon false ∷ mark m.OpenBrace false ∷ word w.Break false ∷ name (codes "a") false ∷ mark m.CloseBrace false ∷ mark m.CloseBrace false ∷ name (codes "a") false ∷ mark m.Colon false ∷ word w.Break false ∷ name (codes "a") false ∷ mark m.Semicolon false ∷ name (codes "a") false ∷ mark m.Colon false ∷ word w.If false ∷ mark m.OpenParenthesis false ∷ name (codes "b") false ∷ mark m.CloseParenthesis false ∷ word w.Break false ∷ name (codes "a") false ∷ mark m.Semicolon false ∷ word w.Else false ∷ word w.Break false ∷ name (codes "a") false ∷ []) refl (g.source_and (g.statement (g.label false false refl refl (g.block (g.braces false false (g.statement_and (g.break_from false refl refl (e.written false)) (g.statement_and (g.block (g.braces false false (g.statement_and (g.break_from false refl refl (e.at_brace refl)) g.no_statement))) g.no_statement)))))) (g.source_and (g.statement (g.label false false refl refl (g.break_from false refl refl (e.written false)))) (g.source_and (g.statement (g.label false false refl refl (g.if_else false false false false (g.identifier false (lit≤ tt) refl) (g.break_from false refl refl (e.written false)) (g.break_from false refl refl (e.at_end refl))))) g.no_source))) (record { few = lit≤ tt; low = lit≤ tt; flat = lit≤ tt; closed = lit≤ tt }) refl

pub broken_inside : Reads Source (codes "a : switch ( b ) { case c : break a ; default : while ( d ) break a }") (codes "a:switch(b){case c:break a;default:while(d)break a;}\n")
unfolding unicode_ident utf16_chars digits
broken_inside = reads_as Source (codes "a : switch ( b ) { case c : break a ; default : while ( d ) break a }") (Tree.MoreStmts (Tree.Label (codes "a") (Tree.Switch (Tree.Ident (codes "b")) (Tree.MoreCases (Tree.AnExpr (Tree.Ident (codes "c"))) (Tree.MoreStmts (Tree.Break (Some (codes "a"))) Tree.NoStmts) (Tree.MoreCases Tree.NoExpr (Tree.MoreStmts (Tree.While (Tree.Ident (codes "d")) (Tree.Break (Some (codes "a")))) Tree.NoStmts) Tree.NoCases)))) Tree.NoStmts) (name (codes "a") false ∷ mark m.Colon false ∷ word w.Switch false ∷ mark m.OpenParenthesis false ∷ name (codes "b") false ∷ mark m.CloseParenthesis false ∷ mark m.OpenBrace false ∷ word w.Case false ∷ name (codes "c") false ∷ mark m.Colon false ∷ word w.Break false ∷ name (codes "a") false ∷ mark m.Semicolon false ∷ word w.Default false ∷ mark m.Colon false ∷ word w.While false ∷ mark m.OpenParenthesis false ∷ name (codes "d") false ∷ mark m.CloseParenthesis false ∷ word w.Break false ∷ name (codes "a") false ∷ mark m.CloseBrace false ∷ []) refl (g.source_and (g.statement (g.label false false refl refl (g.switch false false false false false (g.identifier false (lit≤ tt) refl) (g.case_and false false (g.identifier false (lit≤ tt) refl) (g.statement_and (g.break_from false refl refl (e.written false)) g.no_statement) (g.default_and false false (g.statement_and (g.while false false false (g.identifier false (lit≤ tt) refl) (g.break_from false refl refl (e.at_brace refl))) g.no_statement) g.no_clause))))) g.no_source) (record { few = lit≤ tt; low = lit≤ tt; flat = lit≤ tt; closed = lit≤ tt }) refl

pub broken_in_tries : Reads Source (codes "a : try { break a } catch ( b ) { break a } finally { break a }") (codes "a:try{break a;}catch(b){break a;}finally{break a;}\n")
unfolding unicode_ident utf16_chars digits
broken_in_tries = reads_as Source (codes "a : try { break a } catch ( b ) { break a } finally { break a }") (Tree.MoreStmts (Tree.Label (codes "a") (Tree.Try (Tree.Block (Tree.MoreStmts (Tree.Break (Some (codes "a"))) Tree.NoStmts)) (Tree.ACatch (codes "b") (Tree.Block (Tree.MoreStmts (Tree.Break (Some (codes "a"))) Tree.NoStmts))) (Tree.AStmt (Tree.Block (Tree.MoreStmts (Tree.Break (Some (codes "a"))) Tree.NoStmts))))) Tree.NoStmts) (name (codes "a") false ∷ mark m.Colon false ∷ word w.Try false ∷ mark m.OpenBrace false ∷ word w.Break false ∷ name (codes "a") false ∷ mark m.CloseBrace false ∷ word w.Catch false ∷ mark m.OpenParenthesis false ∷ name (codes "b") false ∷ mark m.CloseParenthesis false ∷ mark m.OpenBrace false ∷ word w.Break false ∷ name (codes "a") false ∷ mark m.CloseBrace false ∷ word w.Finally false ∷ mark m.OpenBrace false ∷ word w.Break false ∷ name (codes "a") false ∷ mark m.CloseBrace false ∷ []) refl (g.source_and (g.statement (g.label false false refl refl (g.try_catch_finally false false false false false false (g.braces false false (g.statement_and (g.break_from false refl refl (e.at_brace refl)) g.no_statement)) refl (g.braces false false (g.statement_and (g.break_from false refl refl (e.at_brace refl)) g.no_statement)) (g.braces false false (g.statement_and (g.break_from false refl refl (e.at_brace refl)) g.no_statement))))) g.no_source) (record { few = lit≤ tt; low = lit≤ tt; flat = lit≤ tt; closed = lit≤ tt }) refl

pub every_label : Reads Source (codes "a : b : c : while ( d ) { break a ; break b ; break c ; continue a ; continue b ; continue c }") (codes "a:b:c:while(d){break a;break b;break c;continue a;continue b;continue c;}\n")
unfolding unicode_ident utf16_chars digits
every_label = reads_as Source (codes "a : b : c : while ( d ) { break a ; break b ; break c ; continue a ; continue b ; continue c }") (Tree.MoreStmts (Tree.Label (codes "a") (Tree.Label (codes "b") (Tree.Label (codes "c") (Tree.While (Tree.Ident (codes "d")) (Tree.Block (Tree.MoreStmts (Tree.Break (Some (codes "a"))) (Tree.MoreStmts (Tree.Break (Some (codes "b"))) (Tree.MoreStmts (Tree.Break (Some (codes "c"))) (Tree.MoreStmts (Tree.Continue (Some (codes "a"))) (Tree.MoreStmts (Tree.Continue (Some (codes "b"))) (Tree.MoreStmts (Tree.Continue (Some (codes "c"))) Tree.NoStmts))))))))))) Tree.NoStmts) (name (codes "a") false ∷ mark m.Colon false ∷ name (codes "b") false ∷ mark m.Colon false ∷ name (codes "c") false ∷ mark m.Colon false ∷ word w.While false ∷ mark m.OpenParenthesis false ∷ name (codes "d") false ∷ mark m.CloseParenthesis false ∷ mark m.OpenBrace false ∷ word w.Break false ∷ name (codes "a") false ∷ mark m.Semicolon false ∷ word w.Break false ∷ name (codes "b") false ∷ mark m.Semicolon false ∷ word w.Break false ∷ name (codes "c") false ∷ mark m.Semicolon false ∷ word w.Continue false ∷ name (codes "a") false ∷ mark m.Semicolon false ∷ word w.Continue false ∷ name (codes "b") false ∷ mark m.Semicolon false ∷ word w.Continue false ∷ name (codes "c") false ∷ mark m.CloseBrace false ∷ []) refl (g.source_and (g.statement (g.label false false refl refl (g.label false false refl refl (g.label false false refl refl (g.while false false false (g.identifier false (lit≤ tt) refl) (g.block (g.braces false false (g.statement_and (g.break_from false refl refl (e.written false)) (g.statement_and (g.break_from false refl refl (e.written false)) (g.statement_and (g.break_from false refl refl (e.written false)) (g.statement_and (g.continue_to false refl refl (e.written false)) (g.statement_and (g.continue_to false refl refl (e.written false)) (g.statement_and (g.continue_to false refl refl (e.at_brace refl)) g.no_statement))))))))))))) g.no_source) (record { few = lit≤ tt; low = lit≤ tt; flat = lit≤ tt; closed = lit≤ tt }) refl

pub each_loop : Reads Source (codes "a : do continue a ; while ( b ) ; a : while ( b ) continue a ; a : for ( ; ; ) continue a ; a : for ( b in c ) continue a") (codes "a:do continue a;while(b);a:while(b)continue a;a:for(;;)continue a;a:for(b in c)continue a;\n")
unfolding unicode_ident utf16_chars digits
each_loop = reads_as Source (codes "a : do continue a ; while ( b ) ; a : while ( b ) continue a ; a : for ( ; ; ) continue a ; a : for ( b in c ) continue a") (Tree.MoreStmts (Tree.Label (codes "a") (Tree.DoWhile (Tree.Continue (Some (codes "a"))) (Tree.Ident (codes "b")))) (Tree.MoreStmts (Tree.Label (codes "a") (Tree.While (Tree.Ident (codes "b")) (Tree.Continue (Some (codes "a"))))) (Tree.MoreStmts (Tree.Label (codes "a") (Tree.For Tree.Nothing Tree.NoExpr Tree.NoExpr (Tree.Continue (Some (codes "a"))))) (Tree.MoreStmts (Tree.Label (codes "a") (Tree.ForIn (Tree.Target (Tree.Ident (codes "b"))) (Tree.Ident (codes "c")) (Tree.Continue (Some (codes "a"))))) Tree.NoStmts)))) (name (codes "a") false ∷ mark m.Colon false ∷ word w.Do false ∷ word w.Continue false ∷ name (codes "a") false ∷ mark m.Semicolon false ∷ word w.While false ∷ mark m.OpenParenthesis false ∷ name (codes "b") false ∷ mark m.CloseParenthesis false ∷ mark m.Semicolon false ∷ name (codes "a") false ∷ mark m.Colon false ∷ word w.While false ∷ mark m.OpenParenthesis false ∷ name (codes "b") false ∷ mark m.CloseParenthesis false ∷ word w.Continue false ∷ name (codes "a") false ∷ mark m.Semicolon false ∷ name (codes "a") false ∷ mark m.Colon false ∷ word w.For false ∷ mark m.OpenParenthesis false ∷ mark m.Semicolon false ∷ mark m.Semicolon false ∷ mark m.CloseParenthesis false ∷ word w.Continue false ∷ name (codes "a") false ∷ mark m.Semicolon false ∷ name (codes "a") false ∷ mark m.Colon false ∷ word w.For false ∷ mark m.OpenParenthesis false ∷ name (codes "b") false ∷ word w.In false ∷ name (codes "c") false ∷ mark m.CloseParenthesis false ∷ word w.Continue false ∷ name (codes "a") false ∷ []) refl (g.source_and (g.statement (g.label false false refl refl (g.do_while false false false false (g.continue_to false refl refl (e.written false)) (g.identifier false (lit≤ tt) refl) (e.written false)))) (g.source_and (g.statement (g.label false false refl refl (g.while false false false (g.identifier false (lit≤ tt) refl) (g.continue_to false refl refl (e.written false))))) (g.source_and (g.statement (g.label false false refl refl (g.for false false false false false g.nothing_first g.absent g.absent (g.continue_to false refl refl (e.written false))))) (g.source_and (g.statement (g.label false false refl refl (g.for_in false false false false (g.identifier false (lit≤ tt) refl) refl (g.identifier false (lit≤ tt) refl) (g.continue_to false refl refl (e.at_end refl))))) g.no_source)))) (record { few = lit≤ tt; low = lit≤ tt; flat = lit≤ tt; closed = lit≤ tt }) refl

pub outer_loops : Reads Source (codes "a : while ( b ) { c : for ( ; ; ) { if ( d ) continue a ; switch ( e ) { default : continue c } } }") (codes "a:while(b){c:for(;;){if(d)continue a;switch(e){default:continue c;}}}\n")
unfolding unicode_ident utf16_chars digits
outer_loops = reads_as Source (codes "a : while ( b ) { c : for ( ; ; ) { if ( d ) continue a ; switch ( e ) { default : continue c } } }") (Tree.MoreStmts (Tree.Label (codes "a") (Tree.While (Tree.Ident (codes "b")) (Tree.Block (Tree.MoreStmts (Tree.Label (codes "c") (Tree.For Tree.Nothing Tree.NoExpr Tree.NoExpr (Tree.Block (Tree.MoreStmts (Tree.If (Tree.Ident (codes "d")) (Tree.Continue (Some (codes "a"))) Tree.NoStmt) (Tree.MoreStmts (Tree.Switch (Tree.Ident (codes "e")) (Tree.MoreCases Tree.NoExpr (Tree.MoreStmts (Tree.Continue (Some (codes "c"))) Tree.NoStmts) Tree.NoCases)) Tree.NoStmts))))) Tree.NoStmts)))) Tree.NoStmts) (name (codes "a") false ∷ mark m.Colon false ∷ word w.While false ∷ mark m.OpenParenthesis false ∷ name (codes "b") false ∷ mark m.CloseParenthesis false ∷ mark m.OpenBrace false ∷ name (codes "c") false ∷ mark m.Colon false ∷ word w.For false ∷ mark m.OpenParenthesis false ∷ mark m.Semicolon false ∷ mark m.Semicolon false ∷ mark m.CloseParenthesis false ∷ mark m.OpenBrace false ∷ word w.If false ∷ mark m.OpenParenthesis false ∷ name (codes "d") false ∷ mark m.CloseParenthesis false ∷ word w.Continue false ∷ name (codes "a") false ∷ mark m.Semicolon false ∷ word w.Switch false ∷ mark m.OpenParenthesis false ∷ name (codes "e") false ∷ mark m.CloseParenthesis false ∷ mark m.OpenBrace false ∷ word w.Default false ∷ mark m.Colon false ∷ word w.Continue false ∷ name (codes "c") false ∷ mark m.CloseBrace false ∷ mark m.CloseBrace false ∷ mark m.CloseBrace false ∷ []) refl (g.source_and (g.statement (g.label false false refl refl (g.while false false false (g.identifier false (lit≤ tt) refl) (g.block (g.braces false false (g.statement_and (g.label false false refl refl (g.for false false false false false g.nothing_first g.absent g.absent (g.block (g.braces false false (g.statement_and (g.if false false false (g.identifier false (lit≤ tt) refl) (g.continue_to false refl refl (e.written false)) (λ e. cc)) (g.statement_and (g.switch false false false false false (g.identifier false (lit≤ tt) refl) (g.default_and false false (g.statement_and (g.continue_to false refl refl (e.at_brace refl)) g.no_statement) g.no_clause)) g.no_statement)))))) g.no_statement)))))) g.no_source) (record { few = lit≤ tt; low = lit≤ tt; flat = lit≤ tt; closed = lit≤ tt }) refl

pub outer_labels : Reads Source (codes "a : { b : { break a ; break b } break a }") (codes "a:{b:{break a;break b;}break a;}\n")
unfolding unicode_ident utf16_chars digits
outer_labels = reads_as Source (codes "a : { b : { break a ; break b } break a }") (Tree.MoreStmts (Tree.Label (codes "a") (Tree.Block (Tree.MoreStmts (Tree.Label (codes "b") (Tree.Block (Tree.MoreStmts (Tree.Break (Some (codes "a"))) (Tree.MoreStmts (Tree.Break (Some (codes "b"))) Tree.NoStmts)))) (Tree.MoreStmts (Tree.Break (Some (codes "a"))) Tree.NoStmts)))) Tree.NoStmts) (name (codes "a") false ∷ mark m.Colon false ∷ mark m.OpenBrace false ∷ name (codes "b") false ∷ mark m.Colon false ∷ mark m.OpenBrace false ∷ word w.Break false ∷ name (codes "a") false ∷ mark m.Semicolon false ∷ word w.Break false ∷ name (codes "b") false ∷ mark m.CloseBrace false ∷ word w.Break false ∷ name (codes "a") false ∷ mark m.CloseBrace false ∷ []) refl (g.source_and (g.statement (g.label false false refl refl (g.block (g.braces false false (g.statement_and (g.label false false refl refl (g.block (g.braces false false (g.statement_and (g.break_from false refl refl (e.written false)) (g.statement_and (g.break_from false refl refl (e.at_brace refl)) g.no_statement))))) (g.statement_and (g.break_from false refl refl (e.at_brace refl)) g.no_statement)))))) g.no_source) (record { few = lit≤ tt; low = lit≤ tt; flat = lit≤ tt; closed = lit≤ tt }) refl

pub beside : Reads Source (codes "a : ; a : { } a : b") (codes "a:;a:{}a:b;\n")
unfolding unicode_ident utf16_chars digits
beside = reads_as Source (codes "a : ; a : { } a : b") (Tree.MoreStmts (Tree.Label (codes "a") Tree.Empty) (Tree.MoreStmts (Tree.Label (codes "a") (Tree.Block Tree.NoStmts)) (Tree.MoreStmts (Tree.Label (codes "a") (Tree.Do (Tree.Ident (codes "b")))) Tree.NoStmts))) (name (codes "a") false ∷ mark m.Colon false ∷ mark m.Semicolon false ∷ name (codes "a") false ∷ mark m.Colon false ∷ mark m.OpenBrace false ∷ mark m.CloseBrace false ∷ name (codes "a") false ∷ mark m.Colon false ∷ name (codes "b") false ∷ []) refl (g.source_and (g.statement (g.label false false refl refl (g.empty false))) (g.source_and (g.statement (g.label false false refl refl (g.block (g.braces false false g.no_statement)))) (g.source_and (g.statement (g.label false false refl refl (g.expression (g.identifier false (lit≤ tt) refl) (λ e. cc) (λ e. cc) (e.at_end refl)))) g.no_source))) (record { few = lit≤ tt; low = lit≤ tt; flat = lit≤ tt; closed = lit≤ tt }) refl

pub in_functions : Reads Source (codes "a : x = function ( ) { a : while ( b ) continue a } ;") (codes "a:x=function(){a:while(b)continue a;};\n")
unfolding unicode_ident utf16_chars digits
in_functions = reads_as Source (codes "a : x = function ( ) { a : while ( b ) continue a } ;") (Tree.MoreStmts (Tree.Label (codes "a") (Tree.Do (Tree.Assign None (Tree.Ident (codes "x")) (Tree.Function (code None [] (Tree.MoreStmts (Tree.Label (codes "a") (Tree.While (Tree.Ident (codes "b")) (Tree.Continue (Some (codes "a"))))) Tree.NoStmts)))))) Tree.NoStmts) (name (codes "a") false ∷ mark m.Colon false ∷ name (codes "x") false ∷ mark m.Assign false ∷ word w.Function false ∷ mark m.OpenParenthesis false ∷ mark m.CloseParenthesis false ∷ mark m.OpenBrace false ∷ name (codes "a") false ∷ mark m.Colon false ∷ word w.While false ∷ mark m.OpenParenthesis false ∷ name (codes "b") false ∷ mark m.CloseParenthesis false ∷ word w.Continue false ∷ name (codes "a") false ∷ mark m.CloseBrace false ∷ mark m.Semicolon false ∷ []) refl (g.source_and (g.statement (g.label false false refl refl (g.expression (g.assign None m.Assign false (lit≤ tt) refl (g.identifier false (lit≤ tt) refl) refl (g.function false (lit≤ tt) (g.function_rest false false false false g.no_formal refl (g.source_and (g.statement (g.label false false refl refl (g.while false false false (g.identifier false (lit≤ tt) refl) (g.continue_to false refl refl (e.at_brace refl))))) g.no_source)))) (λ e. cc) (λ e. cc) (e.written false)))) g.no_source) (record { few = lit≤ tt; low = lit≤ tt; flat = lit≤ tt; closed = lit≤ tt }) refl

pub no_label : BreaksAt Source (codes "while ( a ) break") (codes "b")
no_label = breaks_at Source (codes "while ( a ) break") (codes "b") (Tree.MoreStmts (Tree.While (Tree.Ident (codes "a")) (Tree.Break None)) Tree.NoStmts) (mark m.Semicolon false ∷ []) (word w.While false ∷ mark m.OpenParenthesis false ∷ name (codes "a") false ∷ mark m.CloseParenthesis false ∷ word w.Break false ∷ mark m.Semicolon false ∷ []) (word w.While false ∷ mark m.OpenParenthesis false ∷ name (codes "a") false ∷ mark m.CloseParenthesis false ∷ word w.Break false ∷ name (codes "b") false ∷ []) refl refl (g.source_and (g.statement (g.while false false false (g.identifier false (lit≤ tt) refl) (g.break false refl e.semicolon))) g.no_source) (lit≤ tt) (λ others. refl)

pub no_label_behind : BreaksAt Source (codes "a : ; while ( b ) break") (codes "a")
no_label_behind = breaks_at Source (codes "a : ; while ( b ) break") (codes "a") (Tree.MoreStmts (Tree.Label (codes "a") Tree.Empty) (Tree.MoreStmts (Tree.While (Tree.Ident (codes "b")) (Tree.Break None)) Tree.NoStmts)) (mark m.Semicolon false ∷ []) (name (codes "a") false ∷ mark m.Colon false ∷ mark m.Semicolon false ∷ word w.While false ∷ mark m.OpenParenthesis false ∷ name (codes "b") false ∷ mark m.CloseParenthesis false ∷ word w.Break false ∷ mark m.Semicolon false ∷ []) (name (codes "a") false ∷ mark m.Colon false ∷ mark m.Semicolon false ∷ word w.While false ∷ mark m.OpenParenthesis false ∷ name (codes "b") false ∷ mark m.CloseParenthesis false ∷ word w.Break false ∷ name (codes "a") false ∷ []) refl refl (g.source_and (g.statement (g.label false false refl refl (g.empty false))) (g.source_and (g.statement (g.while false false false (g.identifier false (lit≤ tt) refl) (g.break false refl e.semicolon))) g.no_source)) (lit≤ tt) (λ others. refl)

pub no_label_out_of_functions : BreaksAt Source (codes "a : while ( b ) x = function ( ) { while ( c ) break") (codes "a")
no_label_out_of_functions = breaks_at Source (codes "a : while ( b ) x = function ( ) { while ( c ) break") (codes "a") (Tree.MoreStmts (Tree.Label (codes "a") (Tree.While (Tree.Ident (codes "b")) (Tree.Do (Tree.Assign None (Tree.Ident (codes "x")) (Tree.Function (code None [] (Tree.MoreStmts (Tree.While (Tree.Ident (codes "c")) (Tree.Break None)) Tree.NoStmts))))))) Tree.NoStmts) (mark m.CloseBrace false ∷ mark m.Semicolon false ∷ []) (name (codes "a") false ∷ mark m.Colon false ∷ word w.While false ∷ mark m.OpenParenthesis false ∷ name (codes "b") false ∷ mark m.CloseParenthesis false ∷ name (codes "x") false ∷ mark m.Assign false ∷ word w.Function false ∷ mark m.OpenParenthesis false ∷ mark m.CloseParenthesis false ∷ mark m.OpenBrace false ∷ word w.While false ∷ mark m.OpenParenthesis false ∷ name (codes "c") false ∷ mark m.CloseParenthesis false ∷ word w.Break false ∷ mark m.CloseBrace false ∷ mark m.Semicolon false ∷ []) (name (codes "a") false ∷ mark m.Colon false ∷ word w.While false ∷ mark m.OpenParenthesis false ∷ name (codes "b") false ∷ mark m.CloseParenthesis false ∷ name (codes "x") false ∷ mark m.Assign false ∷ word w.Function false ∷ mark m.OpenParenthesis false ∷ mark m.CloseParenthesis false ∷ mark m.OpenBrace false ∷ word w.While false ∷ mark m.OpenParenthesis false ∷ name (codes "c") false ∷ mark m.CloseParenthesis false ∷ word w.Break false ∷ name (codes "a") false ∷ []) refl refl (g.source_and (g.statement (g.label false false refl refl (g.while false false false (g.identifier false (lit≤ tt) refl) (g.expression (g.assign None m.Assign false (lit≤ tt) refl (g.identifier false (lit≤ tt) refl) refl (g.function false (lit≤ tt) (g.function_rest false false false false g.no_formal refl (g.source_and (g.statement (g.while false false false (g.identifier false (lit≤ tt) refl) (g.break false refl (e.before_brace refl)))) g.no_source)))) (λ e. cc) (λ e. cc) (e.written false))))) g.no_source) (lit≤ tt) (λ others. refl)

pub no_loop_out_of_functions : BreaksAt Source (codes "a : while ( b ) x = function ( ) { while ( c ) continue") (codes "a")
no_loop_out_of_functions = breaks_at Source (codes "a : while ( b ) x = function ( ) { while ( c ) continue") (codes "a") (Tree.MoreStmts (Tree.Label (codes "a") (Tree.While (Tree.Ident (codes "b")) (Tree.Do (Tree.Assign None (Tree.Ident (codes "x")) (Tree.Function (code None [] (Tree.MoreStmts (Tree.While (Tree.Ident (codes "c")) (Tree.Continue None)) Tree.NoStmts))))))) Tree.NoStmts) (mark m.CloseBrace false ∷ mark m.Semicolon false ∷ []) (name (codes "a") false ∷ mark m.Colon false ∷ word w.While false ∷ mark m.OpenParenthesis false ∷ name (codes "b") false ∷ mark m.CloseParenthesis false ∷ name (codes "x") false ∷ mark m.Assign false ∷ word w.Function false ∷ mark m.OpenParenthesis false ∷ mark m.CloseParenthesis false ∷ mark m.OpenBrace false ∷ word w.While false ∷ mark m.OpenParenthesis false ∷ name (codes "c") false ∷ mark m.CloseParenthesis false ∷ word w.Continue false ∷ mark m.CloseBrace false ∷ mark m.Semicolon false ∷ []) (name (codes "a") false ∷ mark m.Colon false ∷ word w.While false ∷ mark m.OpenParenthesis false ∷ name (codes "b") false ∷ mark m.CloseParenthesis false ∷ name (codes "x") false ∷ mark m.Assign false ∷ word w.Function false ∷ mark m.OpenParenthesis false ∷ mark m.CloseParenthesis false ∷ mark m.OpenBrace false ∷ word w.While false ∷ mark m.OpenParenthesis false ∷ name (codes "c") false ∷ mark m.CloseParenthesis false ∷ word w.Continue false ∷ name (codes "a") false ∷ []) refl refl (g.source_and (g.statement (g.label false false refl refl (g.while false false false (g.identifier false (lit≤ tt) refl) (g.expression (g.assign None m.Assign false (lit≤ tt) refl (g.identifier false (lit≤ tt) refl) refl (g.function false (lit≤ tt) (g.function_rest false false false false g.no_formal refl (g.source_and (g.statement (g.while false false false (g.identifier false (lit≤ tt) refl) (g.continue false refl (e.before_brace refl)))) g.no_source)))) (λ e. cc) (λ e. cc) (e.written false))))) g.no_source) (lit≤ tt) (λ others. refl)

pub block_is_no_loop : BreaksAt Source (codes "a : { while ( b ) continue") (codes "a")
block_is_no_loop = breaks_at Source (codes "a : { while ( b ) continue") (codes "a") (Tree.MoreStmts (Tree.Label (codes "a") (Tree.Block (Tree.MoreStmts (Tree.While (Tree.Ident (codes "b")) (Tree.Continue None)) Tree.NoStmts))) Tree.NoStmts) (mark m.CloseBrace false ∷ []) (name (codes "a") false ∷ mark m.Colon false ∷ mark m.OpenBrace false ∷ word w.While false ∷ mark m.OpenParenthesis false ∷ name (codes "b") false ∷ mark m.CloseParenthesis false ∷ word w.Continue false ∷ mark m.CloseBrace false ∷ []) (name (codes "a") false ∷ mark m.Colon false ∷ mark m.OpenBrace false ∷ word w.While false ∷ mark m.OpenParenthesis false ∷ name (codes "b") false ∷ mark m.CloseParenthesis false ∷ word w.Continue false ∷ name (codes "a") false ∷ []) refl refl (g.source_and (g.statement (g.label false false refl refl (g.block (g.braces false false (g.statement_and (g.while false false false (g.identifier false (lit≤ tt) refl) (g.continue false refl (e.before_brace refl))) g.no_statement))))) g.no_source) (lit≤ tt) (λ others. refl)

pub choice_is_no_loop : BreaksAt Source (codes "a : if ( b ) while ( c ) continue") (codes "a")
choice_is_no_loop = breaks_at Source (codes "a : if ( b ) while ( c ) continue") (codes "a") (Tree.MoreStmts (Tree.Label (codes "a") (Tree.If (Tree.Ident (codes "b")) (Tree.While (Tree.Ident (codes "c")) (Tree.Continue None)) Tree.NoStmt)) Tree.NoStmts) (mark m.Semicolon false ∷ []) (name (codes "a") false ∷ mark m.Colon false ∷ word w.If false ∷ mark m.OpenParenthesis false ∷ name (codes "b") false ∷ mark m.CloseParenthesis false ∷ word w.While false ∷ mark m.OpenParenthesis false ∷ name (codes "c") false ∷ mark m.CloseParenthesis false ∷ word w.Continue false ∷ mark m.Semicolon false ∷ []) (name (codes "a") false ∷ mark m.Colon false ∷ word w.If false ∷ mark m.OpenParenthesis false ∷ name (codes "b") false ∷ mark m.CloseParenthesis false ∷ word w.While false ∷ mark m.OpenParenthesis false ∷ name (codes "c") false ∷ mark m.CloseParenthesis false ∷ word w.Continue false ∷ name (codes "a") false ∷ []) refl refl (g.source_and (g.statement (g.label false false refl refl (g.if false false false (g.identifier false (lit≤ tt) refl) (g.while false false false (g.identifier false (lit≤ tt) refl) (g.continue false refl e.semicolon)) (λ e. cc)))) g.no_source) (lit≤ tt) (λ others. refl)

pub else_is_no_loop : BreaksAt Source (codes "a : if ( b ) ; else while ( c ) continue") (codes "a")
else_is_no_loop = breaks_at Source (codes "a : if ( b ) ; else while ( c ) continue") (codes "a") (Tree.MoreStmts (Tree.Label (codes "a") (Tree.If (Tree.Ident (codes "b")) Tree.Empty (Tree.AStmt (Tree.While (Tree.Ident (codes "c")) (Tree.Continue None))))) Tree.NoStmts) (mark m.Semicolon false ∷ []) (name (codes "a") false ∷ mark m.Colon false ∷ word w.If false ∷ mark m.OpenParenthesis false ∷ name (codes "b") false ∷ mark m.CloseParenthesis false ∷ mark m.Semicolon false ∷ word w.Else false ∷ word w.While false ∷ mark m.OpenParenthesis false ∷ name (codes "c") false ∷ mark m.CloseParenthesis false ∷ word w.Continue false ∷ mark m.Semicolon false ∷ []) (name (codes "a") false ∷ mark m.Colon false ∷ word w.If false ∷ mark m.OpenParenthesis false ∷ name (codes "b") false ∷ mark m.CloseParenthesis false ∷ mark m.Semicolon false ∷ word w.Else false ∷ word w.While false ∷ mark m.OpenParenthesis false ∷ name (codes "c") false ∷ mark m.CloseParenthesis false ∷ word w.Continue false ∷ name (codes "a") false ∷ []) refl refl (g.source_and (g.statement (g.label false false refl refl (g.if_else false false false false (g.identifier false (lit≤ tt) refl) (g.empty false) (g.while false false false (g.identifier false (lit≤ tt) refl) (g.continue false refl e.semicolon))))) g.no_source) (lit≤ tt) (λ others. refl)

pub switch_is_no_loop : BreaksAt Source (codes "a : switch ( b ) { case c : while ( d ) continue") (codes "a")
switch_is_no_loop = breaks_at Source (codes "a : switch ( b ) { case c : while ( d ) continue") (codes "a") (Tree.MoreStmts (Tree.Label (codes "a") (Tree.Switch (Tree.Ident (codes "b")) (Tree.MoreCases (Tree.AnExpr (Tree.Ident (codes "c"))) (Tree.MoreStmts (Tree.While (Tree.Ident (codes "d")) (Tree.Continue None)) Tree.NoStmts) Tree.NoCases))) Tree.NoStmts) (mark m.CloseBrace false ∷ []) (name (codes "a") false ∷ mark m.Colon false ∷ word w.Switch false ∷ mark m.OpenParenthesis false ∷ name (codes "b") false ∷ mark m.CloseParenthesis false ∷ mark m.OpenBrace false ∷ word w.Case false ∷ name (codes "c") false ∷ mark m.Colon false ∷ word w.While false ∷ mark m.OpenParenthesis false ∷ name (codes "d") false ∷ mark m.CloseParenthesis false ∷ word w.Continue false ∷ mark m.CloseBrace false ∷ []) (name (codes "a") false ∷ mark m.Colon false ∷ word w.Switch false ∷ mark m.OpenParenthesis false ∷ name (codes "b") false ∷ mark m.CloseParenthesis false ∷ mark m.OpenBrace false ∷ word w.Case false ∷ name (codes "c") false ∷ mark m.Colon false ∷ word w.While false ∷ mark m.OpenParenthesis false ∷ name (codes "d") false ∷ mark m.CloseParenthesis false ∷ word w.Continue false ∷ name (codes "a") false ∷ []) refl refl (g.source_and (g.statement (g.label false false refl refl (g.switch false false false false false (g.identifier false (lit≤ tt) refl) (g.case_and false false (g.identifier false (lit≤ tt) refl) (g.statement_and (g.while false false false (g.identifier false (lit≤ tt) refl) (g.continue false refl (e.before_brace refl))) g.no_statement) g.no_clause)))) g.no_source) (lit≤ tt) (λ others. refl)

pub try_is_no_loop : BreaksAt Source (codes "a : try { while ( b ) continue") (codes "a")
try_is_no_loop = breaks_at Source (codes "a : try { while ( b ) continue") (codes "a") (Tree.MoreStmts (Tree.Label (codes "a") (Tree.Try (Tree.Block (Tree.MoreStmts (Tree.While (Tree.Ident (codes "b")) (Tree.Continue None)) Tree.NoStmts)) Tree.NoHandler (Tree.AStmt (Tree.Block Tree.NoStmts)))) Tree.NoStmts) (mark m.CloseBrace false ∷ word w.Finally false ∷ mark m.OpenBrace false ∷ mark m.CloseBrace false ∷ []) (name (codes "a") false ∷ mark m.Colon false ∷ word w.Try false ∷ mark m.OpenBrace false ∷ word w.While false ∷ mark m.OpenParenthesis false ∷ name (codes "b") false ∷ mark m.CloseParenthesis false ∷ word w.Continue false ∷ mark m.CloseBrace false ∷ word w.Finally false ∷ mark m.OpenBrace false ∷ mark m.CloseBrace false ∷ []) (name (codes "a") false ∷ mark m.Colon false ∷ word w.Try false ∷ mark m.OpenBrace false ∷ word w.While false ∷ mark m.OpenParenthesis false ∷ name (codes "b") false ∷ mark m.CloseParenthesis false ∷ word w.Continue false ∷ name (codes "a") false ∷ []) refl refl (g.source_and (g.statement (g.label false false refl refl (g.try_finally false false (g.braces false false (g.statement_and (g.while false false false (g.identifier false (lit≤ tt) refl) (g.continue false refl (e.before_brace refl))) g.no_statement)) (g.braces false false g.no_statement)))) g.no_source) (lit≤ tt) (λ others. refl)

pub catch_is_no_loop : BreaksAt Source (codes "a : try { } catch ( b ) { while ( c ) continue") (codes "a")
catch_is_no_loop = breaks_at Source (codes "a : try { } catch ( b ) { while ( c ) continue") (codes "a") (Tree.MoreStmts (Tree.Label (codes "a") (Tree.Try (Tree.Block Tree.NoStmts) (Tree.ACatch (codes "b") (Tree.Block (Tree.MoreStmts (Tree.While (Tree.Ident (codes "c")) (Tree.Continue None)) Tree.NoStmts))) Tree.NoStmt)) Tree.NoStmts) (mark m.CloseBrace false ∷ []) (name (codes "a") false ∷ mark m.Colon false ∷ word w.Try false ∷ mark m.OpenBrace false ∷ mark m.CloseBrace false ∷ word w.Catch false ∷ mark m.OpenParenthesis false ∷ name (codes "b") false ∷ mark m.CloseParenthesis false ∷ mark m.OpenBrace false ∷ word w.While false ∷ mark m.OpenParenthesis false ∷ name (codes "c") false ∷ mark m.CloseParenthesis false ∷ word w.Continue false ∷ mark m.CloseBrace false ∷ []) (name (codes "a") false ∷ mark m.Colon false ∷ word w.Try false ∷ mark m.OpenBrace false ∷ mark m.CloseBrace false ∷ word w.Catch false ∷ mark m.OpenParenthesis false ∷ name (codes "b") false ∷ mark m.CloseParenthesis false ∷ mark m.OpenBrace false ∷ word w.While false ∷ mark m.OpenParenthesis false ∷ name (codes "c") false ∷ mark m.CloseParenthesis false ∷ word w.Continue false ∷ name (codes "a") false ∷ []) refl refl (g.source_and (g.statement (g.label false false refl refl (g.try_catch false false false false false (g.braces false false g.no_statement) refl (g.braces false false (g.statement_and (g.while false false false (g.identifier false (lit≤ tt) refl) (g.continue false refl (e.before_brace refl))) g.no_statement))))) g.no_source) (lit≤ tt) (λ others. refl)

pub finally_is_no_loop : BreaksAt Source (codes "a : try { } finally { while ( b ) continue") (codes "a")
finally_is_no_loop = breaks_at Source (codes "a : try { } finally { while ( b ) continue") (codes "a") (Tree.MoreStmts (Tree.Label (codes "a") (Tree.Try (Tree.Block Tree.NoStmts) Tree.NoHandler (Tree.AStmt (Tree.Block (Tree.MoreStmts (Tree.While (Tree.Ident (codes "b")) (Tree.Continue None)) Tree.NoStmts))))) Tree.NoStmts) (mark m.CloseBrace false ∷ []) (name (codes "a") false ∷ mark m.Colon false ∷ word w.Try false ∷ mark m.OpenBrace false ∷ mark m.CloseBrace false ∷ word w.Finally false ∷ mark m.OpenBrace false ∷ word w.While false ∷ mark m.OpenParenthesis false ∷ name (codes "b") false ∷ mark m.CloseParenthesis false ∷ word w.Continue false ∷ mark m.CloseBrace false ∷ []) (name (codes "a") false ∷ mark m.Colon false ∷ word w.Try false ∷ mark m.OpenBrace false ∷ mark m.CloseBrace false ∷ word w.Finally false ∷ mark m.OpenBrace false ∷ word w.While false ∷ mark m.OpenParenthesis false ∷ name (codes "b") false ∷ mark m.CloseParenthesis false ∷ word w.Continue false ∷ name (codes "a") false ∷ []) refl refl (g.source_and (g.statement (g.label false false refl refl (g.try_finally false false (g.braces false false g.no_statement) (g.braces false false (g.statement_and (g.while false false false (g.identifier false (lit≤ tt) refl) (g.continue false refl (e.before_brace refl))) g.no_statement))))) g.no_source) (lit≤ tt) (λ others. refl)

pub inner_block_is_no_loop : BreaksAt Source (codes "a : { b : while ( c ) continue") (codes "a")
inner_block_is_no_loop = breaks_at Source (codes "a : { b : while ( c ) continue") (codes "a") (Tree.MoreStmts (Tree.Label (codes "a") (Tree.Block (Tree.MoreStmts (Tree.Label (codes "b") (Tree.While (Tree.Ident (codes "c")) (Tree.Continue None))) Tree.NoStmts))) Tree.NoStmts) (mark m.CloseBrace false ∷ []) (name (codes "a") false ∷ mark m.Colon false ∷ mark m.OpenBrace false ∷ name (codes "b") false ∷ mark m.Colon false ∷ word w.While false ∷ mark m.OpenParenthesis false ∷ name (codes "c") false ∷ mark m.CloseParenthesis false ∷ word w.Continue false ∷ mark m.CloseBrace false ∷ []) (name (codes "a") false ∷ mark m.Colon false ∷ mark m.OpenBrace false ∷ name (codes "b") false ∷ mark m.Colon false ∷ word w.While false ∷ mark m.OpenParenthesis false ∷ name (codes "c") false ∷ mark m.CloseParenthesis false ∷ word w.Continue false ∷ name (codes "a") false ∷ []) refl refl (g.source_and (g.statement (g.label false false refl refl (g.block (g.braces false false (g.statement_and (g.label false false refl refl (g.while false false false (g.identifier false (lit≤ tt) refl) (g.continue false refl (e.before_brace refl)))) g.no_statement))))) g.no_source) (lit≤ tt) (λ others. refl)

pub twice : BreaksAt Source (codes "a : a") (codes ":")
twice = breaks_at Source (codes "a : a") (codes ":") (Tree.MoreStmts (Tree.Label (codes "a") (Tree.Do (Tree.Ident (codes "a")))) Tree.NoStmts) (mark m.Semicolon false ∷ []) (name (codes "a") false ∷ mark m.Colon false ∷ name (codes "a") false ∷ mark m.Semicolon false ∷ []) (name (codes "a") false ∷ mark m.Colon false ∷ name (codes "a") false ∷ mark m.Colon false ∷ []) refl refl (g.source_and (g.statement (g.label false false refl refl (g.expression (g.identifier false (lit≤ tt) refl) (λ e. cc) (λ e. cc) (e.written false)))) g.no_source) (lit≤ tt) (λ others. refl)

pub twice_inside : BreaksAt Source (codes "a : { b : while ( c ) { a") (codes ":")
twice_inside = breaks_at Source (codes "a : { b : while ( c ) { a") (codes ":") (Tree.MoreStmts (Tree.Label (codes "a") (Tree.Block (Tree.MoreStmts (Tree.Label (codes "b") (Tree.While (Tree.Ident (codes "c")) (Tree.Block (Tree.MoreStmts (Tree.Do (Tree.Ident (codes "a"))) Tree.NoStmts)))) Tree.NoStmts))) Tree.NoStmts) (mark m.CloseBrace false ∷ mark m.CloseBrace false ∷ []) (name (codes "a") false ∷ mark m.Colon false ∷ mark m.OpenBrace false ∷ name (codes "b") false ∷ mark m.Colon false ∷ word w.While false ∷ mark m.OpenParenthesis false ∷ name (codes "c") false ∷ mark m.CloseParenthesis false ∷ mark m.OpenBrace false ∷ name (codes "a") false ∷ mark m.CloseBrace false ∷ mark m.CloseBrace false ∷ []) (name (codes "a") false ∷ mark m.Colon false ∷ mark m.OpenBrace false ∷ name (codes "b") false ∷ mark m.Colon false ∷ word w.While false ∷ mark m.OpenParenthesis false ∷ name (codes "c") false ∷ mark m.CloseParenthesis false ∷ mark m.OpenBrace false ∷ name (codes "a") false ∷ mark m.Colon false ∷ []) refl refl (g.source_and (g.statement (g.label false false refl refl (g.block (g.braces false false (g.statement_and (g.label false false refl refl (g.while false false false (g.identifier false (lit≤ tt) refl) (g.block (g.braces false false (g.statement_and (g.expression (g.identifier false (lit≤ tt) refl) (λ e. cc) (λ e. cc) (e.at_brace refl)) g.no_statement))))) g.no_statement))))) g.no_source) (lit≤ tt) (λ others. refl)

pub twice_behind_another : BreaksAt Source (codes "a : b : a") (codes ":")
twice_behind_another = breaks_at Source (codes "a : b : a") (codes ":") (Tree.MoreStmts (Tree.Label (codes "a") (Tree.Label (codes "b") (Tree.Do (Tree.Ident (codes "a"))))) Tree.NoStmts) (mark m.Semicolon false ∷ []) (name (codes "a") false ∷ mark m.Colon false ∷ name (codes "b") false ∷ mark m.Colon false ∷ name (codes "a") false ∷ mark m.Semicolon false ∷ []) (name (codes "a") false ∷ mark m.Colon false ∷ name (codes "b") false ∷ mark m.Colon false ∷ name (codes "a") false ∷ mark m.Colon false ∷ []) refl refl (g.source_and (g.statement (g.label false false refl refl (g.label false false refl refl (g.expression (g.identifier false (lit≤ tt) refl) (λ e. cc) (λ e. cc) (e.written false))))) g.no_source) (lit≤ tt) (λ others. refl)

pub twice_in_a_loop : BreaksAt Source (codes "a : while ( b ) a") (codes ":")
twice_in_a_loop = breaks_at Source (codes "a : while ( b ) a") (codes ":") (Tree.MoreStmts (Tree.Label (codes "a") (Tree.While (Tree.Ident (codes "b")) (Tree.Do (Tree.Ident (codes "a"))))) Tree.NoStmts) (mark m.Semicolon false ∷ []) (name (codes "a") false ∷ mark m.Colon false ∷ word w.While false ∷ mark m.OpenParenthesis false ∷ name (codes "b") false ∷ mark m.CloseParenthesis false ∷ name (codes "a") false ∷ mark m.Semicolon false ∷ []) (name (codes "a") false ∷ mark m.Colon false ∷ word w.While false ∷ mark m.OpenParenthesis false ∷ name (codes "b") false ∷ mark m.CloseParenthesis false ∷ name (codes "a") false ∷ mark m.Colon false ∷ []) refl refl (g.source_and (g.statement (g.label false false refl refl (g.while false false false (g.identifier false (lit≤ tt) refl) (g.expression (g.identifier false (lit≤ tt) refl) (λ e. cc) (λ e. cc) (e.written false))))) g.no_source) (lit≤ tt) (λ others. refl)

pub no_number : BreaksAt Source (codes "a ; 1") (codes ":")
no_number = breaks_at Source (codes "a ; 1") (codes ":") (Tree.MoreStmts (Tree.Do (Tree.Ident (codes "a"))) (Tree.MoreStmts (Tree.Do (Tree.Num 1)) Tree.NoStmts)) (mark m.Semicolon false ∷ []) (name (codes "a") false ∷ mark m.Semicolon false ∷ number 1 false ∷ mark m.Semicolon false ∷ []) (name (codes "a") false ∷ mark m.Semicolon false ∷ number 1 false ∷ mark m.Colon false ∷ []) refl refl (g.source_and (g.statement (g.expression (g.identifier false (lit≤ tt) refl) (λ e. cc) (λ e. cc) (e.written false))) (g.source_and (g.statement (g.expression (g.numeral true false (lit≤ tt)) (λ e. cc) (λ e. cc) (e.written false))) g.no_source)) (lit≤ tt) (λ others. refl)

pub not_in_parentheses : BreaksAt Source (codes "a ; ( b )") (codes ":")
not_in_parentheses = breaks_at Source (codes "a ; ( b )") (codes ":") (Tree.MoreStmts (Tree.Do (Tree.Ident (codes "a"))) (Tree.MoreStmts (Tree.Do (Tree.Ident (codes "b"))) Tree.NoStmts)) (mark m.Semicolon false ∷ []) (name (codes "a") false ∷ mark m.Semicolon false ∷ mark m.OpenParenthesis false ∷ name (codes "b") false ∷ mark m.CloseParenthesis false ∷ mark m.Semicolon false ∷ []) (name (codes "a") false ∷ mark m.Semicolon false ∷ mark m.OpenParenthesis false ∷ name (codes "b") false ∷ mark m.CloseParenthesis false ∷ mark m.Colon false ∷ []) refl refl (g.source_and (g.statement (g.expression (g.identifier false (lit≤ tt) refl) (λ e. cc) (λ e. cc) (e.written false))) (g.source_and (g.statement (g.expression (g.parenthesised false false (lit≤ tt) (g.identifier false (lit≤ tt) refl)) (λ e. cc) (λ e. cc) (e.written false))) g.no_source)) (lit≤ tt) (λ others. refl)

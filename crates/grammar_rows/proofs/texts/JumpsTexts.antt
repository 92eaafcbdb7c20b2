-- Where `return`, `continue` and `break` stand (ES3 12.7 to 12.9).
use Rattle.std.proofs.Common.{true, false, [], ◌∷◌, codes, Some, None, refl, lit≤}
use Rattle.std.specs.Fmt.{digits}
use Rattle.std.specs.Char.Utf16.{utf16_chars}
use Rattle.unicode_ident.proofs.Computing.{unicode_ident}
use Rattle.js_lexer.specs.declared.mark.Mark.TheVariants as m
use Rattle.js_lexer.specs.declared.word.Word.TheVariants as w
use Rattle.js_parser.specs.declared.form.Form.TheVariants.{Source}
use Rattle.js_parser.specs.Symbols.{word, mark, name, number}
use Rattle.js_parser.specs.Ends as e
use Rattle.js_tree.specs.Tree
use Rattle.js_parser.specs.Grammar as g
use Rattle.js_parser.specs.Grammar.{code}
use Rattle.grammar_rows.specs.TextRows.{BreaksAt, Reads}
use Rattle.grammar_rows.proofs.TextRowLemmas.{reads_as, breaks_at}

pub returns : Reads Source (codes "function f ( ) { return ; return a , b ; { return } } x = function ( ) { if ( a ) return ; }") (codes "function f(){return;return a,b;{return;}}x=function(){if(a)return;};\n")
unfolding unicode_ident utf16_chars digits
returns = reads_as Source (codes "function f ( ) { return ; return a , b ; { return } } x = function ( ) { if ( a ) return ; }") (Tree.MoreStmts (Tree.Declare (code (Some (codes "f")) [] (Tree.MoreStmts (Tree.Return Tree.NoExpr) (Tree.MoreStmts (Tree.Return (Tree.AnExpr (Tree.Comma (Tree.Ident (codes "a")) (Tree.Ident (codes "b"))))) (Tree.MoreStmts (Tree.Block (Tree.MoreStmts (Tree.Return Tree.NoExpr) Tree.NoStmts)) Tree.NoStmts))))) (Tree.MoreStmts (Tree.Do (Tree.Assign None (Tree.Ident (codes "x")) (Tree.Function (code None [] (Tree.MoreStmts (Tree.If (Tree.Ident (codes "a")) (Tree.Return Tree.NoExpr) Tree.NoStmt) Tree.NoStmts))))) Tree.NoStmts)) (word w.Function false ∷ name (codes "f") false ∷ mark m.OpenParenthesis false ∷ mark m.CloseParenthesis false ∷ mark m.OpenBrace false ∷ word w.Return false ∷ mark m.Semicolon false ∷ word w.Return false ∷ name (codes "a") false ∷ mark m.Comma false ∷ name (codes "b") false ∷ mark m.Semicolon false ∷ mark m.OpenBrace false ∷ word w.Return false ∷ mark m.CloseBrace false ∷ mark m.CloseBrace false ∷ name (codes "x") false ∷ mark m.Assign false ∷ word w.Function false ∷ mark m.OpenParenthesis false ∷ mark m.CloseParenthesis false ∷ mark m.OpenBrace false ∷ word w.If false ∷ mark m.OpenParenthesis false ∷ name (codes "a") false ∷ mark m.CloseParenthesis false ∷ word w.Return false ∷ mark m.Semicolon false ∷ mark m.CloseBrace false ∷ []) refl (g.source_and (g.declaration false false refl (g.function_rest false false false false g.no_formal refl (g.source_and (g.statement (g.return false refl e.semicolon)) (g.source_and (g.statement (g.return_value false refl (g.comma false (lit≤ tt) (g.identifier false (lit≤ tt) refl) (g.identifier false (lit≤ tt) refl)) refl (e.written false))) (g.source_and (g.statement (g.block (g.braces false false (g.statement_and (g.return false refl (e.before_brace refl)) g.no_statement)))) g.no_source))))) (g.source_and (g.statement (g.expression (g.assign None m.Assign false (lit≤ tt) refl (g.identifier false (lit≤ tt) refl) refl (g.function false (lit≤ tt) (g.function_rest false false false false g.no_formal refl (g.source_and (g.statement (g.if false false false (g.identifier false (lit≤ tt) refl) (g.return false refl e.semicolon) (λ e. cc))) g.no_source)))) (λ e. cc) (λ e. cc) (e.at_end refl))) g.no_source)) (record { few = lit≤ tt; low = lit≤ tt; flat = lit≤ tt; closed = lit≤ tt }) refl

pub no_return : BreaksAt Source (codes "") (codes "return")
no_return = breaks_at Source (codes "") (codes "return") (Tree.MoreStmts Tree.Empty Tree.NoStmts) (mark m.Semicolon false ∷ []) (mark m.Semicolon false ∷ []) (word w.Return false ∷ []) refl refl (g.source_and (g.statement (g.empty false)) g.no_source) (lit≤ tt) (λ others. refl)

pub no_return_in_blocks : BreaksAt Source (codes "{") (codes "return")
no_return_in_blocks = breaks_at Source (codes "{") (codes "return") (Tree.MoreStmts (Tree.Block Tree.NoStmts) Tree.NoStmts) (mark m.CloseBrace false ∷ []) (mark m.OpenBrace false ∷ mark m.CloseBrace false ∷ []) (mark m.OpenBrace false ∷ word w.Return false ∷ []) refl refl (g.source_and (g.statement (g.block (g.braces false false g.no_statement))) g.no_source) (lit≤ tt) (λ others. refl)

pub no_return_behind : BreaksAt Source (codes "function f ( ) { }") (codes "return")
no_return_behind = breaks_at Source (codes "function f ( ) { }") (codes "return") (Tree.MoreStmts (Tree.Declare (code (Some (codes "f")) [] Tree.NoStmts)) (Tree.MoreStmts Tree.Empty Tree.NoStmts)) (mark m.Semicolon false ∷ []) (word w.Function false ∷ name (codes "f") false ∷ mark m.OpenParenthesis false ∷ mark m.CloseParenthesis false ∷ mark m.OpenBrace false ∷ mark m.CloseBrace false ∷ mark m.Semicolon false ∷ []) (word w.Function false ∷ name (codes "f") false ∷ mark m.OpenParenthesis false ∷ mark m.CloseParenthesis false ∷ mark m.OpenBrace false ∷ mark m.CloseBrace false ∷ word w.Return false ∷ []) refl refl (g.source_and (g.declaration false false refl (g.function_rest false false false false g.no_formal refl g.no_source)) (g.source_and (g.statement (g.empty false)) g.no_source)) (lit≤ tt) (λ others. refl)

pub continues : Reads Source (codes "do continue ; while ( a ) ; while ( a ) continue ; for ( ; ; ) continue ; for ( a in b ) continue ; for ( var a in b ) continue ;") (codes "do continue;while(a);while(a)continue;for(;;)continue;for(a in b)continue;for(var a in b)continue;\n")
unfolding unicode_ident utf16_chars digits
continues = reads_as Source (codes "do continue ; while ( a ) ; while ( a ) continue ; for ( ; ; ) continue ; for ( a in b ) continue ; for ( var a in b ) continue ;") (Tree.MoreStmts (Tree.DoWhile (Tree.Continue None) (Tree.Ident (codes "a"))) (Tree.MoreStmts (Tree.While (Tree.Ident (codes "a")) (Tree.Continue None)) (Tree.MoreStmts (Tree.For Tree.Nothing Tree.NoExpr Tree.NoExpr (Tree.Continue None)) (Tree.MoreStmts (Tree.ForIn (Tree.Target (Tree.Ident (codes "a"))) (Tree.Ident (codes "b")) (Tree.Continue None)) (Tree.MoreStmts (Tree.ForIn (Tree.AVar (codes "a") Tree.NoExpr) (Tree.Ident (codes "b")) (Tree.Continue None)) Tree.NoStmts))))) (word w.Do false ∷ word w.Continue false ∷ mark m.Semicolon false ∷ word w.While false ∷ mark m.OpenParenthesis false ∷ name (codes "a") false ∷ mark m.CloseParenthesis false ∷ mark m.Semicolon false ∷ word w.While false ∷ mark m.OpenParenthesis false ∷ name (codes "a") false ∷ mark m.CloseParenthesis false ∷ word w.Continue false ∷ mark m.Semicolon false ∷ word w.For false ∷ mark m.OpenParenthesis false ∷ mark m.Semicolon false ∷ mark m.Semicolon false ∷ mark m.CloseParenthesis false ∷ word w.Continue false ∷ mark m.Semicolon false ∷ word w.For false ∷ mark m.OpenParenthesis false ∷ name (codes "a") false ∷ word w.In false ∷ name (codes "b") false ∷ mark m.CloseParenthesis false ∷ word w.Continue false ∷ mark m.Semicolon false ∷ word w.For false ∷ mark m.OpenParenthesis false ∷ word w.Var false ∷ name (codes "a") false ∷ word w.In false ∷ name (codes "b") false ∷ mark m.CloseParenthesis false ∷ word w.Continue false ∷ mark m.Semicolon false ∷ []) refl (g.source_and (g.statement (g.do_while false false false false (g.continue false refl e.semicolon) (g.identifier false (lit≤ tt) refl) (e.written false))) (g.source_and (g.statement (g.while false false false (g.identifier false (lit≤ tt) refl) (g.continue false refl e.semicolon))) (g.source_and (g.statement (g.for false false false false false g.nothing_first g.absent g.absent (g.continue false refl e.semicolon))) (g.source_and (g.statement (g.for_in false false false false (g.identifier false (lit≤ tt) refl) refl (g.identifier false (lit≤ tt) refl) (g.continue false refl e.semicolon))) (g.source_and (g.statement (g.for_var_in false false false false false (g.bare false refl) (g.identifier false (lit≤ tt) refl) (g.continue false refl e.semicolon))) g.no_source))))) (record { few = lit≤ tt; low = lit≤ tt; flat = lit≤ tt; closed = lit≤ tt }) refl

pub continues_inside : Reads Source (codes "while ( a ) { if ( b ) continue ; else continue ; c : continue ; switch ( d ) { case 1 : continue ; default : continue } }") (codes "while(a){if(b)continue;else continue;c:continue;switch(d){case 1:continue;default:continue;}}\n")
unfolding unicode_ident utf16_chars digits
continues_inside = reads_as Source (codes "while ( a ) { if ( b ) continue ; else continue ; c : continue ; switch ( d ) { case 1 : continue ; default : continue } }") (Tree.MoreStmts (Tree.While (Tree.Ident (codes "a")) (Tree.Block (Tree.MoreStmts (Tree.If (Tree.Ident (codes "b")) (Tree.Continue None) (Tree.AStmt (Tree.Continue None))) (Tree.MoreStmts (Tree.Label (codes "c") (Tree.Continue None)) (Tree.MoreStmts (Tree.Switch (Tree.Ident (codes "d")) (Tree.MoreCases (Tree.AnExpr (Tree.Num 1)) (Tree.MoreStmts (Tree.Continue None) Tree.NoStmts) (Tree.MoreCases Tree.NoExpr (Tree.MoreStmts (Tree.Continue None) Tree.NoStmts) Tree.NoCases))) Tree.NoStmts))))) Tree.NoStmts) (word w.While false ∷ mark m.OpenParenthesis false ∷ name (codes "a") false ∷ mark m.CloseParenthesis false ∷ mark m.OpenBrace false ∷ word w.If false ∷ mark m.OpenParenthesis false ∷ name (codes "b") false ∷ mark m.CloseParenthesis false ∷ word w.Continue false ∷ mark m.Semicolon false ∷ word w.Else false ∷ word w.Continue false ∷ mark m.Semicolon false ∷ name (codes "c") false ∷ mark m.Colon false ∷ word w.Continue false ∷ mark m.Semicolon false ∷ word w.Switch false ∷ mark m.OpenParenthesis false ∷ name (codes "d") false ∷ mark m.CloseParenthesis false ∷ mark m.OpenBrace false ∷ word w.Case false ∷ number 1 false ∷ mark m.Colon false ∷ word w.Continue false ∷ mark m.Semicolon false ∷ word w.Default false ∷ mark m.Colon false ∷ word w.Continue false ∷ mark m.CloseBrace false ∷ mark m.CloseBrace false ∷ []) refl (g.source_and (g.statement (g.while false false false (g.identifier false (lit≤ tt) refl) (g.block (g.braces false false (g.statement_and (g.if_else false false false false (g.identifier false (lit≤ tt) refl) (g.continue false refl e.semicolon) (g.continue false refl e.semicolon)) (g.statement_and (g.label false false refl refl (g.continue false refl e.semicolon)) (g.statement_and (g.switch false false false false false (g.identifier false (lit≤ tt) refl) (g.case_and false false (g.numeral true false (lit≤ tt)) (g.statement_and (g.continue false refl e.semicolon) g.no_statement) (g.default_and false false (g.statement_and (g.continue false refl (e.before_brace refl)) g.no_statement) g.no_clause))) g.no_statement))))))) g.no_source) (record { few = lit≤ tt; low = lit≤ tt; flat = lit≤ tt; closed = lit≤ tt }) refl

pub continues_in_tries : Reads Source (codes "while ( a ) try { continue } catch ( b ) { continue } finally { continue }") (codes "while(a)try{continue;}catch(b){continue;}finally{continue;}\n")
unfolding unicode_ident utf16_chars digits
continues_in_tries = reads_as Source (codes "while ( a ) try { continue } catch ( b ) { continue } finally { continue }") (Tree.MoreStmts (Tree.While (Tree.Ident (codes "a")) (Tree.Try (Tree.Block (Tree.MoreStmts (Tree.Continue None) Tree.NoStmts)) (Tree.ACatch (codes "b") (Tree.Block (Tree.MoreStmts (Tree.Continue None) Tree.NoStmts))) (Tree.AStmt (Tree.Block (Tree.MoreStmts (Tree.Continue None) Tree.NoStmts))))) Tree.NoStmts) (word w.While false ∷ mark m.OpenParenthesis false ∷ name (codes "a") false ∷ mark m.CloseParenthesis false ∷ word w.Try false ∷ mark m.OpenBrace false ∷ word w.Continue false ∷ mark m.CloseBrace false ∷ word w.Catch false ∷ mark m.OpenParenthesis false ∷ name (codes "b") false ∷ mark m.CloseParenthesis false ∷ mark m.OpenBrace false ∷ word w.Continue false ∷ mark m.CloseBrace false ∷ word w.Finally false ∷ mark m.OpenBrace false ∷ word w.Continue false ∷ mark m.CloseBrace false ∷ []) refl (g.source_and (g.statement (g.while false false false (g.identifier false (lit≤ tt) refl) (g.try_catch_finally false false false false false false (g.braces false false (g.statement_and (g.continue false refl (e.before_brace refl)) g.no_statement)) refl (g.braces false false (g.statement_and (g.continue false refl (e.before_brace refl)) g.no_statement)) (g.braces false false (g.statement_and (g.continue false refl (e.before_brace refl)) g.no_statement))))) g.no_source) (record { few = lit≤ tt; low = lit≤ tt; flat = lit≤ tt; closed = lit≤ tt }) refl

pub no_continue : BreaksAt Source (codes "") (codes "continue")
no_continue = breaks_at Source (codes "") (codes "continue") (Tree.MoreStmts Tree.Empty Tree.NoStmts) (mark m.Semicolon false ∷ []) (mark m.Semicolon false ∷ []) (word w.Continue false ∷ []) refl refl (g.source_and (g.statement (g.empty false)) g.no_source) (lit≤ tt) (λ others. refl)

pub no_continue_in_switches : BreaksAt Source (codes "switch ( a ) { case b :") (codes "continue")
no_continue_in_switches = breaks_at Source (codes "switch ( a ) { case b :") (codes "continue") (Tree.MoreStmts (Tree.Switch (Tree.Ident (codes "a")) (Tree.MoreCases (Tree.AnExpr (Tree.Ident (codes "b"))) Tree.NoStmts Tree.NoCases)) Tree.NoStmts) (mark m.CloseBrace false ∷ []) (word w.Switch false ∷ mark m.OpenParenthesis false ∷ name (codes "a") false ∷ mark m.CloseParenthesis false ∷ mark m.OpenBrace false ∷ word w.Case false ∷ name (codes "b") false ∷ mark m.Colon false ∷ mark m.CloseBrace false ∷ []) (word w.Switch false ∷ mark m.OpenParenthesis false ∷ name (codes "a") false ∷ mark m.CloseParenthesis false ∷ mark m.OpenBrace false ∷ word w.Case false ∷ name (codes "b") false ∷ mark m.Colon false ∷ word w.Continue false ∷ []) refl refl (g.source_and (g.statement (g.switch false false false false false (g.identifier false (lit≤ tt) refl) (g.case_and false false (g.identifier false (lit≤ tt) refl) g.no_statement g.no_clause))) g.no_source) (lit≤ tt) (λ others. refl)

pub no_continue_in_functions : BreaksAt Source (codes "while ( a ) x = function ( ) {") (codes "continue")
no_continue_in_functions = breaks_at Source (codes "while ( a ) x = function ( ) {") (codes "continue") (Tree.MoreStmts (Tree.While (Tree.Ident (codes "a")) (Tree.Do (Tree.Assign None (Tree.Ident (codes "x")) (Tree.Function (code None [] Tree.NoStmts))))) Tree.NoStmts) (mark m.CloseBrace false ∷ mark m.Semicolon false ∷ []) (word w.While false ∷ mark m.OpenParenthesis false ∷ name (codes "a") false ∷ mark m.CloseParenthesis false ∷ name (codes "x") false ∷ mark m.Assign false ∷ word w.Function false ∷ mark m.OpenParenthesis false ∷ mark m.CloseParenthesis false ∷ mark m.OpenBrace false ∷ mark m.CloseBrace false ∷ mark m.Semicolon false ∷ []) (word w.While false ∷ mark m.OpenParenthesis false ∷ name (codes "a") false ∷ mark m.CloseParenthesis false ∷ name (codes "x") false ∷ mark m.Assign false ∷ word w.Function false ∷ mark m.OpenParenthesis false ∷ mark m.CloseParenthesis false ∷ mark m.OpenBrace false ∷ word w.Continue false ∷ []) refl refl (g.source_and (g.statement (g.while false false false (g.identifier false (lit≤ tt) refl) (g.expression (g.assign None m.Assign false (lit≤ tt) refl (g.identifier false (lit≤ tt) refl) refl (g.function false (lit≤ tt) (g.function_rest false false false false g.no_formal refl g.no_source))) (λ e. cc) (λ e. cc) (e.written false)))) g.no_source) (lit≤ tt) (λ others. refl)

pub no_continue_behind : BreaksAt Source (codes "while ( a ) ;") (codes "continue")
no_continue_behind = breaks_at Source (codes "while ( a ) ;") (codes "continue") (Tree.MoreStmts (Tree.While (Tree.Ident (codes "a")) Tree.Empty) (Tree.MoreStmts Tree.Empty Tree.NoStmts)) (mark m.Semicolon false ∷ []) (word w.While false ∷ mark m.OpenParenthesis false ∷ name (codes "a") false ∷ mark m.CloseParenthesis false ∷ mark m.Semicolon false ∷ mark m.Semicolon false ∷ []) (word w.While false ∷ mark m.OpenParenthesis false ∷ name (codes "a") false ∷ mark m.CloseParenthesis false ∷ mark m.Semicolon false ∷ word w.Continue false ∷ []) refl refl (g.source_and (g.statement (g.while false false false (g.identifier false (lit≤ tt) refl) (g.empty false))) (g.source_and (g.statement (g.empty false)) g.no_source)) (lit≤ tt) (λ others. refl)

pub no_continue_in_header : BreaksAt Source (codes "while (") (codes "continue")
no_continue_in_header = breaks_at Source (codes "while (") (codes "continue") (Tree.MoreStmts (Tree.While (Tree.Ident (codes "a")) Tree.Empty) Tree.NoStmts) (name (codes "a") false ∷ mark m.CloseParenthesis false ∷ mark m.Semicolon false ∷ []) (word w.While false ∷ mark m.OpenParenthesis false ∷ name (codes "a") false ∷ mark m.CloseParenthesis false ∷ mark m.Semicolon false ∷ []) (word w.While false ∷ mark m.OpenParenthesis false ∷ word w.Continue false ∷ []) refl refl (g.source_and (g.statement (g.while false false false (g.identifier false (lit≤ tt) refl) (g.empty false))) g.no_source) (lit≤ tt) (λ others. refl)

pub breaks : Reads Source (codes "do break ; while ( a ) ; while ( a ) break ; for ( ; ; ) break ; for ( a in b ) break ; switch ( a ) { case 1 : break ; default : break }") (codes "do break;while(a);while(a)break;for(;;)break;for(a in b)break;switch(a){case 1:break;default:break;}\n")
unfolding unicode_ident utf16_chars digits
breaks = reads_as Source (codes "do break ; while ( a ) ; while ( a ) break ; for ( ; ; ) break ; for ( a in b ) break ; switch ( a ) { case 1 : break ; default : break }") (Tree.MoreStmts (Tree.DoWhile (Tree.Break None) (Tree.Ident (codes "a"))) (Tree.MoreStmts (Tree.While (Tree.Ident (codes "a")) (Tree.Break None)) (Tree.MoreStmts (Tree.For Tree.Nothing Tree.NoExpr Tree.NoExpr (Tree.Break None)) (Tree.MoreStmts (Tree.ForIn (Tree.Target (Tree.Ident (codes "a"))) (Tree.Ident (codes "b")) (Tree.Break None)) (Tree.MoreStmts (Tree.Switch (Tree.Ident (codes "a")) (Tree.MoreCases (Tree.AnExpr (Tree.Num 1)) (Tree.MoreStmts (Tree.Break None) Tree.NoStmts) (Tree.MoreCases Tree.NoExpr (Tree.MoreStmts (Tree.Break None) Tree.NoStmts) Tree.NoCases))) Tree.NoStmts))))) (word w.Do false ∷ word w.Break false ∷ mark m.Semicolon false ∷ word w.While false ∷ mark m.OpenParenthesis false ∷ name (codes "a") false ∷ mark m.CloseParenthesis false ∷ mark m.Semicolon false ∷ word w.While false ∷ mark m.OpenParenthesis false ∷ name (codes "a") false ∷ mark m.CloseParenthesis false ∷ word w.Break false ∷ mark m.Semicolon false ∷ word w.For false ∷ mark m.OpenParenthesis false ∷ mark m.Semicolon false ∷ mark m.Semicolon false ∷ mark m.CloseParenthesis false ∷ word w.Break false ∷ mark m.Semicolon false ∷ word w.For false ∷ mark m.OpenParenthesis false ∷ name (codes "a") false ∷ word w.In false ∷ name (codes "b") false ∷ mark m.CloseParenthesis false ∷ word w.Break false ∷ mark m.Semicolon false ∷ word w.Switch false ∷ mark m.OpenParenthesis false ∷ name (codes "a") false ∷ mark m.CloseParenthesis false ∷ mark m.OpenBrace false ∷ word w.Case false ∷ number 1 false ∷ mark m.Colon false ∷ word w.Break false ∷ mark m.Semicolon false ∷ word w.Default false ∷ mark m.Colon false ∷ word w.Break false ∷ mark m.CloseBrace false ∷ []) refl (g.source_and (g.statement (g.do_while false false false false (g.break false refl e.semicolon) (g.identifier false (lit≤ tt) refl) (e.written false))) (g.source_and (g.statement (g.while false false false (g.identifier false (lit≤ tt) refl) (g.break false refl e.semicolon))) (g.source_and (g.statement (g.for false false false false false g.nothing_first g.absent g.absent (g.break false refl e.semicolon))) (g.source_and (g.statement (g.for_in false false false false (g.identifier false (lit≤ tt) refl) refl (g.identifier false (lit≤ tt) refl) (g.break false refl e.semicolon))) (g.source_and (g.statement (g.switch false false false false false (g.identifier false (lit≤ tt) refl) (g.case_and false false (g.numeral true false (lit≤ tt)) (g.statement_and (g.break false refl e.semicolon) g.no_statement) (g.default_and false false (g.statement_and (g.break false refl (e.before_brace refl)) g.no_statement) g.no_clause)))) g.no_source))))) (record { few = lit≤ tt; low = lit≤ tt; flat = lit≤ tt; closed = lit≤ tt }) refl

pub breaks_inside : Reads Source (codes "switch ( a ) { case 1 : { if ( b ) break ; try { break } finally { break } c : break } }") (codes "switch(a){case 1:{if(b)break;try{break;}finally{break;}c:break;}}\n")
unfolding unicode_ident utf16_chars digits
breaks_inside = reads_as Source (codes "switch ( a ) { case 1 : { if ( b ) break ; try { break } finally { break } c : break } }") (Tree.MoreStmts (Tree.Switch (Tree.Ident (codes "a")) (Tree.MoreCases (Tree.AnExpr (Tree.Num 1)) (Tree.MoreStmts (Tree.Block (Tree.MoreStmts (Tree.If (Tree.Ident (codes "b")) (Tree.Break None) Tree.NoStmt) (Tree.MoreStmts (Tree.Try (Tree.Block (Tree.MoreStmts (Tree.Break None) Tree.NoStmts)) Tree.NoHandler (Tree.AStmt (Tree.Block (Tree.MoreStmts (Tree.Break None) Tree.NoStmts)))) (Tree.MoreStmts (Tree.Label (codes "c") (Tree.Break None)) Tree.NoStmts)))) Tree.NoStmts) Tree.NoCases)) Tree.NoStmts) (word w.Switch false ∷ mark m.OpenParenthesis false ∷ name (codes "a") false ∷ mark m.CloseParenthesis false ∷ mark m.OpenBrace false ∷ word w.Case false ∷ number 1 false ∷ mark m.Colon false ∷ mark m.OpenBrace false ∷ word w.If false ∷ mark m.OpenParenthesis false ∷ name (codes "b") false ∷ mark m.CloseParenthesis false ∷ word w.Break false ∷ mark m.Semicolon false ∷ word w.Try false ∷ mark m.OpenBrace false ∷ word w.Break false ∷ mark m.CloseBrace false ∷ word w.Finally false ∷ mark m.OpenBrace false ∷ word w.Break false ∷ mark m.CloseBrace false ∷ name (codes "c") false ∷ mark m.Colon false ∷ word w.Break false ∷ mark m.CloseBrace false ∷ mark m.CloseBrace false ∷ []) refl (g.source_and (g.statement (g.switch false false false false false (g.identifier false (lit≤ tt) refl) (g.case_and false false (g.numeral true false (lit≤ tt)) (g.statement_and (g.block (g.braces false false (g.statement_and (g.if false false false (g.identifier false (lit≤ tt) refl) (g.break false refl e.semicolon) (λ e. cc)) (g.statement_and (g.try_finally false false (g.braces false false (g.statement_and (g.break false refl (e.before_brace refl)) g.no_statement)) (g.braces false false (g.statement_and (g.break false refl (e.before_brace refl)) g.no_statement))) (g.statement_and (g.label false false refl refl (g.break false refl (e.before_brace refl))) g.no_statement))))) g.no_statement) g.no_clause))) g.no_source) (record { few = lit≤ tt; low = lit≤ tt; flat = lit≤ tt; closed = lit≤ tt }) refl

pub no_break : BreaksAt Source (codes "") (codes "break")
no_break = breaks_at Source (codes "") (codes "break") (Tree.MoreStmts Tree.Empty Tree.NoStmts) (mark m.Semicolon false ∷ []) (mark m.Semicolon false ∷ []) (word w.Break false ∷ []) refl refl (g.source_and (g.statement (g.empty false)) g.no_source) (lit≤ tt) (λ others. refl)

pub no_break_in_choices : BreaksAt Source (codes "if ( a )") (codes "break")
no_break_in_choices = breaks_at Source (codes "if ( a )") (codes "break") (Tree.MoreStmts (Tree.If (Tree.Ident (codes "a")) Tree.Empty Tree.NoStmt) Tree.NoStmts) (mark m.Semicolon false ∷ []) (word w.If false ∷ mark m.OpenParenthesis false ∷ name (codes "a") false ∷ mark m.CloseParenthesis false ∷ mark m.Semicolon false ∷ []) (word w.If false ∷ mark m.OpenParenthesis false ∷ name (codes "a") false ∷ mark m.CloseParenthesis false ∷ word w.Break false ∷ []) refl refl (g.source_and (g.statement (g.if false false false (g.identifier false (lit≤ tt) refl) (g.empty false) (λ e. cc))) g.no_source) (lit≤ tt) (λ others. refl)

pub no_break_in_functions : BreaksAt Source (codes "switch ( a ) { case b : x = function ( ) {") (codes "break")
no_break_in_functions = breaks_at Source (codes "switch ( a ) { case b : x = function ( ) {") (codes "break") (Tree.MoreStmts (Tree.Switch (Tree.Ident (codes "a")) (Tree.MoreCases (Tree.AnExpr (Tree.Ident (codes "b"))) (Tree.MoreStmts (Tree.Do (Tree.Assign None (Tree.Ident (codes "x")) (Tree.Function (code None [] Tree.NoStmts)))) Tree.NoStmts) Tree.NoCases)) Tree.NoStmts) (mark m.CloseBrace false ∷ mark m.Semicolon false ∷ mark m.CloseBrace false ∷ []) (word w.Switch false ∷ mark m.OpenParenthesis false ∷ name (codes "a") false ∷ mark m.CloseParenthesis false ∷ mark m.OpenBrace false ∷ word w.Case false ∷ name (codes "b") false ∷ mark m.Colon false ∷ name (codes "x") false ∷ mark m.Assign false ∷ word w.Function false ∷ mark m.OpenParenthesis false ∷ mark m.CloseParenthesis false ∷ mark m.OpenBrace false ∷ mark m.CloseBrace false ∷ mark m.Semicolon false ∷ mark m.CloseBrace false ∷ []) (word w.Switch false ∷ mark m.OpenParenthesis false ∷ name (codes "a") false ∷ mark m.CloseParenthesis false ∷ mark m.OpenBrace false ∷ word w.Case false ∷ name (codes "b") false ∷ mark m.Colon false ∷ name (codes "x") false ∷ mark m.Assign false ∷ word w.Function false ∷ mark m.OpenParenthesis false ∷ mark m.CloseParenthesis false ∷ mark m.OpenBrace false ∷ word w.Break false ∷ []) refl refl (g.source_and (g.statement (g.switch false false false false false (g.identifier false (lit≤ tt) refl) (g.case_and false false (g.identifier false (lit≤ tt) refl) (g.statement_and (g.expression (g.assign None m.Assign false (lit≤ tt) refl (g.identifier false (lit≤ tt) refl) refl (g.function false (lit≤ tt) (g.function_rest false false false false g.no_formal refl g.no_source))) (λ e. cc) (λ e. cc) (e.written false)) g.no_statement) g.no_clause))) g.no_source) (lit≤ tt) (λ others. refl)

pub no_break_behind : BreaksAt Source (codes "switch ( a ) { }") (codes "break")
no_break_behind = breaks_at Source (codes "switch ( a ) { }") (codes "break") (Tree.MoreStmts (Tree.Switch (Tree.Ident (codes "a")) Tree.NoCases) (Tree.MoreStmts Tree.Empty Tree.NoStmts)) (mark m.Semicolon false ∷ []) (word w.Switch false ∷ mark m.OpenParenthesis false ∷ name (codes "a") false ∷ mark m.CloseParenthesis false ∷ mark m.OpenBrace false ∷ mark m.CloseBrace false ∷ mark m.Semicolon false ∷ []) (word w.Switch false ∷ mark m.OpenParenthesis false ∷ name (codes "a") false ∷ mark m.CloseParenthesis false ∷ mark m.OpenBrace false ∷ mark m.CloseBrace false ∷ word w.Break false ∷ []) refl refl (g.source_and (g.statement (g.switch false false false false false (g.identifier false (lit≤ tt) refl) g.no_clause)) (g.source_and (g.statement (g.empty false)) g.no_source)) (lit≤ tt) (λ others. refl)

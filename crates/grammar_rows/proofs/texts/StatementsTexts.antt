-- Statements, each as it is printed (ES3 12).
use Rattle.std.proofs.Common.{true, false, [], ◌∷◌, codes, None, refl, lit≤}
use Rattle.std.specs.Fmt.{digits}
use Rattle.std.specs.Char.Utf16.{utf16_chars}
use Rattle.unicode_ident.proofs.Computing.{unicode_ident}
use Rattle.js_lexer.specs.declared.mark.Mark.TheVariants as m
use Rattle.js_lexer.specs.declared.word.Word.TheVariants as w
use Rattle.js_parser.specs.declared.form.Form.TheVariants.{Source}
use Rattle.js_parser.specs.Symbols.{word, mark, name, number}
use Rattle.js_parser.specs.Ends as e
use Rattle.js_tree.specs.Tree
use Rattle.js_parser.specs.Grammar as g
use Rattle.grammar_rows.specs.TextRows.{BreaksAt, Reads, Same}
use Rattle.grammar_rows.proofs.TextRowLemmas.{reads_as, same_tree, breaks_at}

pub blocks : Reads Source (codes "{ } { a ; { b } }") (codes "{}{a;{b;}}\n")
unfolding unicode_ident utf16_chars digits
blocks = reads_as Source (codes "{ } { a ; { b } }") (Tree.MoreStmts (Tree.Block Tree.NoStmts) (Tree.MoreStmts (Tree.Block (Tree.MoreStmts (Tree.Do (Tree.Ident (codes "a"))) (Tree.MoreStmts (Tree.Block (Tree.MoreStmts (Tree.Do (Tree.Ident (codes "b"))) Tree.NoStmts)) Tree.NoStmts))) Tree.NoStmts)) (mark m.OpenBrace false ∷ mark m.CloseBrace false ∷ mark m.OpenBrace false ∷ name (codes "a") false ∷ mark m.Semicolon false ∷ mark m.OpenBrace false ∷ name (codes "b") false ∷ mark m.CloseBrace false ∷ mark m.CloseBrace false ∷ []) refl (g.source_and (g.statement (g.block (g.braces false false g.no_statement))) (g.source_and (g.statement (g.block (g.braces false false (g.statement_and (g.expression (g.identifier false (lit≤ tt) refl) (λ e. cc) (λ e. cc) (e.written false)) (g.statement_and (g.block (g.braces false false (g.statement_and (g.expression (g.identifier false (lit≤ tt) refl) (λ e. cc) (λ e. cc) (e.at_brace refl)) g.no_statement))) g.no_statement))))) g.no_source)) (record { few = lit≤ tt; low = lit≤ tt; flat = lit≤ tt; closed = lit≤ tt }) refl

pub variables : Reads Source (codes "var a ; var b , c = 1 , d = e , f") (codes "var a;var b,c=1,d=e,f;\n")
unfolding unicode_ident utf16_chars digits
variables = reads_as Source (codes "var a ; var b , c = 1 , d = e , f") (Tree.MoreStmts (Tree.Variables (Tree.MoreVarItems (codes "a") Tree.NoExpr Tree.NoVarItems)) (Tree.MoreStmts (Tree.Variables (Tree.MoreVarItems (codes "b") Tree.NoExpr (Tree.MoreVarItems (codes "c") (Tree.AnExpr (Tree.Num 1)) (Tree.MoreVarItems (codes "d") (Tree.AnExpr (Tree.Ident (codes "e"))) (Tree.MoreVarItems (codes "f") Tree.NoExpr Tree.NoVarItems))))) Tree.NoStmts)) (word w.Var false ∷ name (codes "a") false ∷ mark m.Semicolon false ∷ word w.Var false ∷ name (codes "b") false ∷ mark m.Comma false ∷ name (codes "c") false ∷ mark m.Assign false ∷ number 1 false ∷ mark m.Comma false ∷ name (codes "d") false ∷ mark m.Assign false ∷ name (codes "e") false ∷ mark m.Comma false ∷ name (codes "f") false ∷ []) refl (g.source_and (g.statement (g.variables false (g.last_declarator (g.bare false refl)) (e.written false))) (g.source_and (g.statement (g.variables false (g.declarator_and false (g.bare false refl) (g.declarator_and false (g.initialised false false refl (g.numeral true false (lit≤ tt))) (g.declarator_and false (g.initialised false false refl (g.identifier false (lit≤ tt) refl)) (g.last_declarator (g.bare false refl))))) (e.at_end refl))) g.no_source)) (record { few = lit≤ tt; low = lit≤ tt; flat = lit≤ tt; closed = lit≤ tt }) refl

pub initialisers : Same Source (codes "var a = b = c , d = e ? f : g") (codes "var a = ( b = c ) , d = ( e ? f : g )")
initialisers = same_tree Source (codes "var a = b = c , d = e ? f : g") (codes "var a = ( b = c ) , d = ( e ? f : g )") (Tree.MoreStmts (Tree.Variables (Tree.MoreVarItems (codes "a") (Tree.AnExpr (Tree.Assign None (Tree.Ident (codes "b")) (Tree.Ident (codes "c")))) (Tree.MoreVarItems (codes "d") (Tree.AnExpr (Tree.Cond (Tree.Ident (codes "e")) (Tree.Ident (codes "f")) (Tree.Ident (codes "g")))) Tree.NoVarItems))) Tree.NoStmts) (word w.Var false ∷ name (codes "a") false ∷ mark m.Assign false ∷ name (codes "b") false ∷ mark m.Assign false ∷ name (codes "c") false ∷ mark m.Comma false ∷ name (codes "d") false ∷ mark m.Assign false ∷ name (codes "e") false ∷ mark m.Question false ∷ name (codes "f") false ∷ mark m.Colon false ∷ name (codes "g") false ∷ []) (word w.Var false ∷ name (codes "a") false ∷ mark m.Assign false ∷ mark m.OpenParenthesis false ∷ name (codes "b") false ∷ mark m.Assign false ∷ name (codes "c") false ∷ mark m.CloseParenthesis false ∷ mark m.Comma false ∷ name (codes "d") false ∷ mark m.Assign false ∷ mark m.OpenParenthesis false ∷ name (codes "e") false ∷ mark m.Question false ∷ name (codes "f") false ∷ mark m.Colon false ∷ name (codes "g") false ∷ mark m.CloseParenthesis false ∷ []) refl refl (g.source_and (g.statement (g.variables false (g.declarator_and false (g.initialised false false refl (g.assign None m.Assign false (lit≤ tt) refl (g.identifier false (lit≤ tt) refl) refl (g.identifier false (lit≤ tt) refl))) (g.last_declarator (g.initialised false false refl (g.conditional false false (lit≤ tt) (g.identifier false (lit≤ tt) refl) (g.identifier false (lit≤ tt) refl) (g.identifier false (lit≤ tt) refl))))) (e.at_end refl))) g.no_source) (record { few = lit≤ tt; low = lit≤ tt; flat = lit≤ tt; closed = lit≤ tt }) (g.source_and (g.statement (g.variables false (g.declarator_and false (g.initialised false false refl (g.parenthesised false false (lit≤ tt) (g.assign None m.Assign false (lit≤ tt) refl (g.identifier false (lit≤ tt) refl) refl (g.identifier false (lit≤ tt) refl)))) (g.last_declarator (g.initialised false false refl (g.parenthesised false false (lit≤ tt) (g.conditional false false (lit≤ tt) (g.identifier false (lit≤ tt) refl) (g.identifier false (lit≤ tt) refl) (g.identifier false (lit≤ tt) refl)))))) (e.at_end refl))) g.no_source) (record { few = lit≤ tt; low = lit≤ tt; flat = lit≤ tt; closed = lit≤ tt })

pub empty : Reads Source (codes ";") (codes ";\n")
unfolding unicode_ident utf16_chars digits
empty = reads_as Source (codes ";") (Tree.MoreStmts Tree.Empty Tree.NoStmts) (mark m.Semicolon false ∷ []) refl (g.source_and (g.statement (g.empty false)) g.no_source) (record { few = lit≤ tt; low = lit≤ tt; flat = lit≤ tt; closed = lit≤ tt }) refl

pub choices : Reads Source (codes "if ( a ) b ; if ( a , b ) c ; else d ; if ( a ) { } else if ( b ) { } else { }") (codes "if(a)b;if(a,b)c;else d;if(a){}else if(b){}else{}\n")
unfolding unicode_ident utf16_chars digits
choices = reads_as Source (codes "if ( a ) b ; if ( a , b ) c ; else d ; if ( a ) { } else if ( b ) { } else { }") (Tree.MoreStmts (Tree.If (Tree.Ident (codes "a")) (Tree.Do (Tree.Ident (codes "b"))) Tree.NoStmt) (Tree.MoreStmts (Tree.If (Tree.Comma (Tree.Ident (codes "a")) (Tree.Ident (codes "b"))) (Tree.Do (Tree.Ident (codes "c"))) (Tree.AStmt (Tree.Do (Tree.Ident (codes "d"))))) (Tree.MoreStmts (Tree.If (Tree.Ident (codes "a")) (Tree.Block Tree.NoStmts) (Tree.AStmt (Tree.If (Tree.Ident (codes "b")) (Tree.Block Tree.NoStmts) (Tree.AStmt (Tree.Block Tree.NoStmts))))) Tree.NoStmts))) (word w.If false ∷ mark m.OpenParenthesis false ∷ name (codes "a") false ∷ mark m.CloseParenthesis false ∷ name (codes "b") false ∷ mark m.Semicolon false ∷ word w.If false ∷ mark m.OpenParenthesis false ∷ name (codes "a") false ∷ mark m.Comma false ∷ name (codes "b") false ∷ mark m.CloseParenthesis false ∷ name (codes "c") false ∷ mark m.Semicolon false ∷ word w.Else false ∷ name (codes "d") false ∷ mark m.Semicolon false ∷ word w.If false ∷ mark m.OpenParenthesis false ∷ name (codes "a") false ∷ mark m.CloseParenthesis false ∷ mark m.OpenBrace false ∷ mark m.CloseBrace false ∷ word w.Else false ∷ word w.If false ∷ mark m.OpenParenthesis false ∷ name (codes "b") false ∷ mark m.CloseParenthesis false ∷ mark m.OpenBrace false ∷ mark m.CloseBrace false ∷ word w.Else false ∷ mark m.OpenBrace false ∷ mark m.CloseBrace false ∷ []) refl (g.source_and (g.statement (g.if false false false (g.identifier false (lit≤ tt) refl) (g.expression (g.identifier false (lit≤ tt) refl) (λ e. cc) (λ e. cc) (e.written false)) (λ e. cc))) (g.source_and (g.statement (g.if_else false false false false (g.comma false (lit≤ tt) (g.identifier false (lit≤ tt) refl) (g.identifier false (lit≤ tt) refl)) (g.expression (g.identifier false (lit≤ tt) refl) (λ e. cc) (λ e. cc) (e.written false)) (g.expression (g.identifier false (lit≤ tt) refl) (λ e. cc) (λ e. cc) (e.written false)))) (g.source_and (g.statement (g.if_else false false false false (g.identifier false (lit≤ tt) refl) (g.block (g.braces false false g.no_statement)) (g.if_else false false false false (g.identifier false (lit≤ tt) refl) (g.block (g.braces false false g.no_statement)) (g.block (g.braces false false g.no_statement))))) g.no_source))) (record { few = lit≤ tt; low = lit≤ tt; flat = lit≤ tt; closed = lit≤ tt }) refl

pub loops : Reads Source (codes "do a ; while ( b ) ; do { } while ( a , b ) ; while ( a ) b ; while ( a , b ) { }") (codes "do a;while(b);do{}while(a,b);while(a)b;while(a,b){}\n")
unfolding unicode_ident utf16_chars digits
loops = reads_as Source (codes "do a ; while ( b ) ; do { } while ( a , b ) ; while ( a ) b ; while ( a , b ) { }") (Tree.MoreStmts (Tree.DoWhile (Tree.Do (Tree.Ident (codes "a"))) (Tree.Ident (codes "b"))) (Tree.MoreStmts (Tree.DoWhile (Tree.Block Tree.NoStmts) (Tree.Comma (Tree.Ident (codes "a")) (Tree.Ident (codes "b")))) (Tree.MoreStmts (Tree.While (Tree.Ident (codes "a")) (Tree.Do (Tree.Ident (codes "b")))) (Tree.MoreStmts (Tree.While (Tree.Comma (Tree.Ident (codes "a")) (Tree.Ident (codes "b"))) (Tree.Block Tree.NoStmts)) Tree.NoStmts)))) (word w.Do false ∷ name (codes "a") false ∷ mark m.Semicolon false ∷ word w.While false ∷ mark m.OpenParenthesis false ∷ name (codes "b") false ∷ mark m.CloseParenthesis false ∷ mark m.Semicolon false ∷ word w.Do false ∷ mark m.OpenBrace false ∷ mark m.CloseBrace false ∷ word w.While false ∷ mark m.OpenParenthesis false ∷ name (codes "a") false ∷ mark m.Comma false ∷ name (codes "b") false ∷ mark m.CloseParenthesis false ∷ mark m.Semicolon false ∷ word w.While false ∷ mark m.OpenParenthesis false ∷ name (codes "a") false ∷ mark m.CloseParenthesis false ∷ name (codes "b") false ∷ mark m.Semicolon false ∷ word w.While false ∷ mark m.OpenParenthesis false ∷ name (codes "a") false ∷ mark m.Comma false ∷ name (codes "b") false ∷ mark m.CloseParenthesis false ∷ mark m.OpenBrace false ∷ mark m.CloseBrace false ∷ []) refl (g.source_and (g.statement (g.do_while false false false false (g.expression (g.identifier false (lit≤ tt) refl) (λ e. cc) (λ e. cc) (e.written false)) (g.identifier false (lit≤ tt) refl) (e.written false))) (g.source_and (g.statement (g.do_while false false false false (g.block (g.braces false false g.no_statement)) (g.comma false (lit≤ tt) (g.identifier false (lit≤ tt) refl) (g.identifier false (lit≤ tt) refl)) (e.written false))) (g.source_and (g.statement (g.while false false false (g.identifier false (lit≤ tt) refl) (g.expression (g.identifier false (lit≤ tt) refl) (λ e. cc) (λ e. cc) (e.written false)))) (g.source_and (g.statement (g.while false false false (g.comma false (lit≤ tt) (g.identifier false (lit≤ tt) refl) (g.identifier false (lit≤ tt) refl)) (g.block (g.braces false false g.no_statement)))) g.no_source)))) (record { few = lit≤ tt; low = lit≤ tt; flat = lit≤ tt; closed = lit≤ tt }) refl

pub for_loops : Reads Source (codes "for ( ; ; ) ; for ( a , b ; c ; d , e ) f ; for ( var a , b = 1 ; ; ) { }") (codes "for(;;);for(a,b;c;d,e)f;for(var a,b=1;;){}\n")
unfolding unicode_ident utf16_chars digits
for_loops = reads_as Source (codes "for ( ; ; ) ; for ( a , b ; c ; d , e ) f ; for ( var a , b = 1 ; ; ) { }") (Tree.MoreStmts (Tree.For Tree.Nothing Tree.NoExpr Tree.NoExpr Tree.Empty) (Tree.MoreStmts (Tree.For (Tree.First (Tree.Comma (Tree.Ident (codes "a")) (Tree.Ident (codes "b")))) (Tree.AnExpr (Tree.Ident (codes "c"))) (Tree.AnExpr (Tree.Comma (Tree.Ident (codes "d")) (Tree.Ident (codes "e")))) (Tree.Do (Tree.Ident (codes "f")))) (Tree.MoreStmts (Tree.For (Tree.Vars (Tree.MoreVarItems (codes "a") Tree.NoExpr (Tree.MoreVarItems (codes "b") (Tree.AnExpr (Tree.Num 1)) Tree.NoVarItems))) Tree.NoExpr Tree.NoExpr (Tree.Block Tree.NoStmts)) Tree.NoStmts))) (word w.For false ∷ mark m.OpenParenthesis false ∷ mark m.Semicolon false ∷ mark m.Semicolon false ∷ mark m.CloseParenthesis false ∷ mark m.Semicolon false ∷ word w.For false ∷ mark m.OpenParenthesis false ∷ name (codes "a") false ∷ mark m.Comma false ∷ name (codes "b") false ∷ mark m.Semicolon false ∷ name (codes "c") false ∷ mark m.Semicolon false ∷ name (codes "d") false ∷ mark m.Comma false ∷ name (codes "e") false ∷ mark m.CloseParenthesis false ∷ name (codes "f") false ∷ mark m.Semicolon false ∷ word w.For false ∷ mark m.OpenParenthesis false ∷ word w.Var false ∷ name (codes "a") false ∷ mark m.Comma false ∷ name (codes "b") false ∷ mark m.Assign false ∷ number 1 false ∷ mark m.Semicolon false ∷ mark m.Semicolon false ∷ mark m.CloseParenthesis false ∷ mark m.OpenBrace false ∷ mark m.CloseBrace false ∷ []) refl (g.source_and (g.statement (g.for false false false false false g.nothing_first g.absent g.absent (g.empty false))) (g.source_and (g.statement (g.for false false false false false (g.expression_first (g.comma false (lit≤ tt) (g.identifier false (lit≤ tt) refl) (g.identifier false (lit≤ tt) refl))) (g.present (g.identifier false (lit≤ tt) refl)) (g.present (g.comma false (lit≤ tt) (g.identifier false (lit≤ tt) refl) (g.identifier false (lit≤ tt) refl))) (g.expression (g.identifier false (lit≤ tt) refl) (λ e. cc) (λ e. cc) (e.written false)))) (g.source_and (g.statement (g.for false false false false false (g.variables_first false (g.declarator_and false (g.bare false refl) (g.last_declarator (g.initialised false false refl (g.numeral true false (lit≤ tt)))))) g.absent g.absent (g.block (g.braces false false g.no_statement)))) g.no_source))) (record { few = lit≤ tt; low = lit≤ tt; flat = lit≤ tt; closed = lit≤ tt }) refl

pub for_in_loops : Reads Source (codes "for ( a in b ) ; for ( a . b in c , d ) ; for ( a [ b ] in c ) ; for ( ( a ) in b ) ;") (codes "for(a in b);for(a.b in c,d);for(a[b]in c);for(a in b);\n")
unfolding unicode_ident utf16_chars digits
for_in_loops = reads_as Source (codes "for ( a in b ) ; for ( a . b in c , d ) ; for ( a [ b ] in c ) ; for ( ( a ) in b ) ;") (Tree.MoreStmts (Tree.ForIn (Tree.Target (Tree.Ident (codes "a"))) (Tree.Ident (codes "b")) Tree.Empty) (Tree.MoreStmts (Tree.ForIn (Tree.Target (Tree.Dot (Tree.Ident (codes "a")) (codes "b"))) (Tree.Comma (Tree.Ident (codes "c")) (Tree.Ident (codes "d"))) Tree.Empty) (Tree.MoreStmts (Tree.ForIn (Tree.Target (Tree.Index (Tree.Ident (codes "a")) (Tree.Ident (codes "b")))) (Tree.Ident (codes "c")) Tree.Empty) (Tree.MoreStmts (Tree.ForIn (Tree.Target (Tree.Ident (codes "a"))) (Tree.Ident (codes "b")) Tree.Empty) Tree.NoStmts)))) (word w.For false ∷ mark m.OpenParenthesis false ∷ name (codes "a") false ∷ word w.In false ∷ name (codes "b") false ∷ mark m.CloseParenthesis false ∷ mark m.Semicolon false ∷ word w.For false ∷ mark m.OpenParenthesis false ∷ name (codes "a") false ∷ mark m.Dot false ∷ name (codes "b") false ∷ word w.In false ∷ name (codes "c") false ∷ mark m.Comma false ∷ name (codes "d") false ∷ mark m.CloseParenthesis false ∷ mark m.Semicolon false ∷ word w.For false ∷ mark m.OpenParenthesis false ∷ name (codes "a") false ∷ mark m.OpenBracket false ∷ name (codes "b") false ∷ mark m.CloseBracket false ∷ word w.In false ∷ name (codes "c") false ∷ mark m.CloseParenthesis false ∷ mark m.Semicolon false ∷ word w.For false ∷ mark m.OpenParenthesis false ∷ mark m.OpenParenthesis false ∷ name (codes "a") false ∷ mark m.CloseParenthesis false ∷ word w.In false ∷ name (codes "b") false ∷ mark m.CloseParenthesis false ∷ mark m.Semicolon false ∷ []) refl (g.source_and (g.statement (g.for_in false false false false (g.identifier false (lit≤ tt) refl) refl (g.identifier false (lit≤ tt) refl) (g.empty false))) (g.source_and (g.statement (g.for_in false false false false (g.dot 18 false false (lit≤ tt) (lit≤ tt) (lit≤ tt) (g.identifier false (lit≤ tt) refl) refl) refl (g.comma false (lit≤ tt) (g.identifier false (lit≤ tt) refl) (g.identifier false (lit≤ tt) refl)) (g.empty false))) (g.source_and (g.statement (g.for_in false false false false (g.index 18 false false (lit≤ tt) (lit≤ tt) (lit≤ tt) (g.identifier false (lit≤ tt) refl) (g.identifier false (lit≤ tt) refl)) refl (g.identifier false (lit≤ tt) refl) (g.empty false))) (g.source_and (g.statement (g.for_in false false false false (g.parenthesised false false (lit≤ tt) (g.identifier false (lit≤ tt) refl)) refl (g.identifier false (lit≤ tt) refl) (g.empty false))) g.no_source)))) (record { few = lit≤ tt; low = lit≤ tt; flat = lit≤ tt; closed = lit≤ tt }) refl

pub for_var_in_loops : Reads Source (codes "for ( var a in b , c ) ; for ( var a = 1 in b ) ;") (codes "for(var a in b,c);for(var a=1 in b);\n")
unfolding unicode_ident utf16_chars digits
for_var_in_loops = reads_as Source (codes "for ( var a in b , c ) ; for ( var a = 1 in b ) ;") (Tree.MoreStmts (Tree.ForIn (Tree.AVar (codes "a") Tree.NoExpr) (Tree.Comma (Tree.Ident (codes "b")) (Tree.Ident (codes "c"))) Tree.Empty) (Tree.MoreStmts (Tree.ForIn (Tree.AVar (codes "a") (Tree.AnExpr (Tree.Num 1))) (Tree.Ident (codes "b")) Tree.Empty) Tree.NoStmts)) (word w.For false ∷ mark m.OpenParenthesis false ∷ word w.Var false ∷ name (codes "a") false ∷ word w.In false ∷ name (codes "b") false ∷ mark m.Comma false ∷ name (codes "c") false ∷ mark m.CloseParenthesis false ∷ mark m.Semicolon false ∷ word w.For false ∷ mark m.OpenParenthesis false ∷ word w.Var false ∷ name (codes "a") false ∷ mark m.Assign false ∷ number 1 false ∷ word w.In false ∷ name (codes "b") false ∷ mark m.CloseParenthesis false ∷ mark m.Semicolon false ∷ []) refl (g.source_and (g.statement (g.for_var_in false false false false false (g.bare false refl) (g.comma false (lit≤ tt) (g.identifier false (lit≤ tt) refl) (g.identifier false (lit≤ tt) refl)) (g.empty false))) (g.source_and (g.statement (g.for_var_in false false false false false (g.initialised false false refl (g.numeral true false (lit≤ tt))) (g.identifier false (lit≤ tt) refl) (g.empty false))) g.no_source)) (record { few = lit≤ tt; low = lit≤ tt; flat = lit≤ tt; closed = lit≤ tt }) refl

pub switches : Reads Source (codes "switch ( a , b ) { } switch ( a ) { case b , c : d ; e ; case f : default : g ; case h : }") (codes "switch(a,b){}switch(a){case b,c:d;e;case f:default:g;case h:}\n")
unfolding unicode_ident utf16_chars digits
switches = reads_as Source (codes "switch ( a , b ) { } switch ( a ) { case b , c : d ; e ; case f : default : g ; case h : }") (Tree.MoreStmts (Tree.Switch (Tree.Comma (Tree.Ident (codes "a")) (Tree.Ident (codes "b"))) Tree.NoCases) (Tree.MoreStmts (Tree.Switch (Tree.Ident (codes "a")) (Tree.MoreCases (Tree.AnExpr (Tree.Comma (Tree.Ident (codes "b")) (Tree.Ident (codes "c")))) (Tree.MoreStmts (Tree.Do (Tree.Ident (codes "d"))) (Tree.MoreStmts (Tree.Do (Tree.Ident (codes "e"))) Tree.NoStmts)) (Tree.MoreCases (Tree.AnExpr (Tree.Ident (codes "f"))) Tree.NoStmts (Tree.MoreCases Tree.NoExpr (Tree.MoreStmts (Tree.Do (Tree.Ident (codes "g"))) Tree.NoStmts) (Tree.MoreCases (Tree.AnExpr (Tree.Ident (codes "h"))) Tree.NoStmts Tree.NoCases))))) Tree.NoStmts)) (word w.Switch false ∷ mark m.OpenParenthesis false ∷ name (codes "a") false ∷ mark m.Comma false ∷ name (codes "b") false ∷ mark m.CloseParenthesis false ∷ mark m.OpenBrace false ∷ mark m.CloseBrace false ∷ word w.Switch false ∷ mark m.OpenParenthesis false ∷ name (codes "a") false ∷ mark m.CloseParenthesis false ∷ mark m.OpenBrace false ∷ word w.Case false ∷ name (codes "b") false ∷ mark m.Comma false ∷ name (codes "c") false ∷ mark m.Colon false ∷ name (codes "d") false ∷ mark m.Semicolon false ∷ name (codes "e") false ∷ mark m.Semicolon false ∷ word w.Case false ∷ name (codes "f") false ∷ mark m.Colon false ∷ word w.Default false ∷ mark m.Colon false ∷ name (codes "g") false ∷ mark m.Semicolon false ∷ word w.Case false ∷ name (codes "h") false ∷ mark m.Colon false ∷ mark m.CloseBrace false ∷ []) refl (g.source_and (g.statement (g.switch false false false false false (g.comma false (lit≤ tt) (g.identifier false (lit≤ tt) refl) (g.identifier false (lit≤ tt) refl)) g.no_clause)) (g.source_and (g.statement (g.switch false false false false false (g.identifier false (lit≤ tt) refl) (g.case_and false false (g.comma false (lit≤ tt) (g.identifier false (lit≤ tt) refl) (g.identifier false (lit≤ tt) refl)) (g.statement_and (g.expression (g.identifier false (lit≤ tt) refl) (λ e. cc) (λ e. cc) (e.written false)) (g.statement_and (g.expression (g.identifier false (lit≤ tt) refl) (λ e. cc) (λ e. cc) (e.written false)) g.no_statement)) (g.case_and false false (g.identifier false (lit≤ tt) refl) g.no_statement (g.default_and false false (g.statement_and (g.expression (g.identifier false (lit≤ tt) refl) (λ e. cc) (λ e. cc) (e.written false)) g.no_statement) (g.case_and false false (g.identifier false (lit≤ tt) refl) g.no_statement g.no_clause)))))) g.no_source)) (record { few = lit≤ tt; low = lit≤ tt; flat = lit≤ tt; closed = lit≤ tt }) refl

pub throws : Reads Source (codes "throw a , b ;") (codes "throw a,b;\n")
unfolding unicode_ident utf16_chars digits
throws = reads_as Source (codes "throw a , b ;") (Tree.MoreStmts (Tree.Throw (Tree.Comma (Tree.Ident (codes "a")) (Tree.Ident (codes "b")))) Tree.NoStmts) (word w.Throw false ∷ name (codes "a") false ∷ mark m.Comma false ∷ name (codes "b") false ∷ mark m.Semicolon false ∷ []) refl (g.source_and (g.statement (g.throw false (g.comma false (lit≤ tt) (g.identifier false (lit≤ tt) refl) (g.identifier false (lit≤ tt) refl)) refl (e.written false))) g.no_source) (record { few = lit≤ tt; low = lit≤ tt; flat = lit≤ tt; closed = lit≤ tt }) refl

pub tries : Reads Source (codes "try { } catch ( a ) { b } try { } finally { c } try { d } catch ( e ) { } finally { }") (codes "try{}catch(a){b;}try{}finally{c;}try{d;}catch(e){}finally{}\n")
unfolding unicode_ident utf16_chars digits
tries = reads_as Source (codes "try { } catch ( a ) { b } try { } finally { c } try { d } catch ( e ) { } finally { }") (Tree.MoreStmts (Tree.Try (Tree.Block Tree.NoStmts) (Tree.ACatch (codes "a") (Tree.Block (Tree.MoreStmts (Tree.Do (Tree.Ident (codes "b"))) Tree.NoStmts))) Tree.NoStmt) (Tree.MoreStmts (Tree.Try (Tree.Block Tree.NoStmts) Tree.NoHandler (Tree.AStmt (Tree.Block (Tree.MoreStmts (Tree.Do (Tree.Ident (codes "c"))) Tree.NoStmts)))) (Tree.MoreStmts (Tree.Try (Tree.Block (Tree.MoreStmts (Tree.Do (Tree.Ident (codes "d"))) Tree.NoStmts)) (Tree.ACatch (codes "e") (Tree.Block Tree.NoStmts)) (Tree.AStmt (Tree.Block Tree.NoStmts))) Tree.NoStmts))) (word w.Try false ∷ mark m.OpenBrace false ∷ mark m.CloseBrace false ∷ word w.Catch false ∷ mark m.OpenParenthesis false ∷ name (codes "a") false ∷ mark m.CloseParenthesis false ∷ mark m.OpenBrace false ∷ name (codes "b") false ∷ mark m.CloseBrace false ∷ word w.Try false ∷ mark m.OpenBrace false ∷ mark m.CloseBrace false ∷ word w.Finally false ∷ mark m.OpenBrace false ∷ name (codes "c") false ∷ mark m.CloseBrace false ∷ word w.Try false ∷ mark m.OpenBrace false ∷ name (codes "d") false ∷ mark m.CloseBrace false ∷ word w.Catch false ∷ mark m.OpenParenthesis false ∷ name (codes "e") false ∷ mark m.CloseParenthesis false ∷ mark m.OpenBrace false ∷ mark m.CloseBrace false ∷ word w.Finally false ∷ mark m.OpenBrace false ∷ mark m.CloseBrace false ∷ []) refl (g.source_and (g.statement (g.try_catch false false false false false (g.braces false false g.no_statement) refl (g.braces false false (g.statement_and (g.expression (g.identifier false (lit≤ tt) refl) (λ e. cc) (λ e. cc) (e.at_brace refl)) g.no_statement)))) (g.source_and (g.statement (g.try_finally false false (g.braces false false g.no_statement) (g.braces false false (g.statement_and (g.expression (g.identifier false (lit≤ tt) refl) (λ e. cc) (λ e. cc) (e.at_brace refl)) g.no_statement)))) (g.source_and (g.statement (g.try_catch_finally false false false false false false (g.braces false false (g.statement_and (g.expression (g.identifier false (lit≤ tt) refl) (λ e. cc) (λ e. cc) (e.at_brace refl)) g.no_statement)) refl (g.braces false false g.no_statement) (g.braces false false g.no_statement))) g.no_source))) (record { few = lit≤ tt; low = lit≤ tt; flat = lit≤ tt; closed = lit≤ tt }) refl

pub labels : Reads Source (codes "a : ; b : c : { } a : d") (codes "a:;b:c:{}a:d;\n")
unfolding unicode_ident utf16_chars digits
labels = reads_as Source (codes "a : ; b : c : { } a : d") (Tree.MoreStmts (Tree.Label (codes "a") Tree.Empty) (Tree.MoreStmts (Tree.Label (codes "b") (Tree.Label (codes "c") (Tree.Block Tree.NoStmts))) (Tree.MoreStmts (Tree.Label (codes "a") (Tree.Do (Tree.Ident (codes "d")))) Tree.NoStmts))) (name (codes "a") false ∷ mark m.Colon false ∷ mark m.Semicolon false ∷ name (codes "b") false ∷ mark m.Colon false ∷ name (codes "c") false ∷ mark m.Colon false ∷ mark m.OpenBrace false ∷ mark m.CloseBrace false ∷ name (codes "a") false ∷ mark m.Colon false ∷ name (codes "d") false ∷ []) refl (g.source_and (g.statement (g.label false false refl refl (g.empty false))) (g.source_and (g.statement (g.label false false refl refl (g.label false false refl refl (g.block (g.braces false false g.no_statement))))) (g.source_and (g.statement (g.label false false refl refl (g.expression (g.identifier false (lit≤ tt) refl) (λ e. cc) (λ e. cc) (e.at_end refl)))) g.no_source))) (record { few = lit≤ tt; low = lit≤ tt; flat = lit≤ tt; closed = lit≤ tt }) refl

pub one_default : BreaksAt Source (codes "switch ( a ) { default : case 1 :") (codes "default")
one_default = breaks_at Source (codes "switch ( a ) { default : case 1 :") (codes "default") (Tree.MoreStmts (Tree.Switch (Tree.Ident (codes "a")) (Tree.MoreCases Tree.NoExpr Tree.NoStmts (Tree.MoreCases (Tree.AnExpr (Tree.Num 1)) Tree.NoStmts Tree.NoCases))) Tree.NoStmts) (mark m.CloseBrace false ∷ []) (word w.Switch false ∷ mark m.OpenParenthesis false ∷ name (codes "a") false ∷ mark m.CloseParenthesis false ∷ mark m.OpenBrace false ∷ word w.Default false ∷ mark m.Colon false ∷ word w.Case false ∷ number 1 false ∷ mark m.Colon false ∷ mark m.CloseBrace false ∷ []) (word w.Switch false ∷ mark m.OpenParenthesis false ∷ name (codes "a") false ∷ mark m.CloseParenthesis false ∷ mark m.OpenBrace false ∷ word w.Default false ∷ mark m.Colon false ∷ word w.Case false ∷ number 1 false ∷ mark m.Colon false ∷ word w.Default false ∷ []) refl refl (g.source_and (g.statement (g.switch false false false false false (g.identifier false (lit≤ tt) refl) (g.default_and false false g.no_statement (g.case_and false false (g.numeral true false (lit≤ tt)) g.no_statement g.no_clause)))) g.no_source) (lit≤ tt) (λ others. refl)

pub clause_first : BreaksAt Source (codes "switch ( a ) {") (codes "b")
clause_first = breaks_at Source (codes "switch ( a ) {") (codes "b") (Tree.MoreStmts (Tree.Switch (Tree.Ident (codes "a")) Tree.NoCases) Tree.NoStmts) (mark m.CloseBrace false ∷ []) (word w.Switch false ∷ mark m.OpenParenthesis false ∷ name (codes "a") false ∷ mark m.CloseParenthesis false ∷ mark m.OpenBrace false ∷ mark m.CloseBrace false ∷ []) (word w.Switch false ∷ mark m.OpenParenthesis false ∷ name (codes "a") false ∷ mark m.CloseParenthesis false ∷ mark m.OpenBrace false ∷ name (codes "b") false ∷ []) refl refl (g.source_and (g.statement (g.switch false false false false false (g.identifier false (lit≤ tt) refl) g.no_clause)) g.no_source) (lit≤ tt) (λ others. refl)

pub clause_has_a_colon : BreaksAt Source (codes "switch ( a ) { case b") (codes ";")
clause_has_a_colon = breaks_at Source (codes "switch ( a ) { case b") (codes ";") (Tree.MoreStmts (Tree.Switch (Tree.Ident (codes "a")) (Tree.MoreCases (Tree.AnExpr (Tree.Ident (codes "b"))) Tree.NoStmts Tree.NoCases)) Tree.NoStmts) (mark m.Colon false ∷ mark m.CloseBrace false ∷ []) (word w.Switch false ∷ mark m.OpenParenthesis false ∷ name (codes "a") false ∷ mark m.CloseParenthesis false ∷ mark m.OpenBrace false ∷ word w.Case false ∷ name (codes "b") false ∷ mark m.Colon false ∷ mark m.CloseBrace false ∷ []) (word w.Switch false ∷ mark m.OpenParenthesis false ∷ name (codes "a") false ∷ mark m.CloseParenthesis false ∷ mark m.OpenBrace false ∷ word w.Case false ∷ name (codes "b") false ∷ mark m.Semicolon false ∷ []) refl refl (g.source_and (g.statement (g.switch false false false false false (g.identifier false (lit≤ tt) refl) (g.case_and false false (g.identifier false (lit≤ tt) refl) g.no_statement g.no_clause))) g.no_source) (lit≤ tt) (λ others. refl)

pub no_clause_outside : BreaksAt Source (codes "{") (codes "case")
no_clause_outside = breaks_at Source (codes "{") (codes "case") (Tree.MoreStmts (Tree.Block Tree.NoStmts) Tree.NoStmts) (mark m.CloseBrace false ∷ []) (mark m.OpenBrace false ∷ mark m.CloseBrace false ∷ []) (mark m.OpenBrace false ∷ word w.Case false ∷ []) refl refl (g.source_and (g.statement (g.block (g.braces false false g.no_statement))) g.no_source) (lit≤ tt) (λ others. refl)

pub try_alone : BreaksAt Source (codes "try { }") (codes ";")
try_alone = breaks_at Source (codes "try { }") (codes ";") (Tree.MoreStmts (Tree.Try (Tree.Block Tree.NoStmts) Tree.NoHandler (Tree.AStmt (Tree.Block Tree.NoStmts))) Tree.NoStmts) (word w.Finally false ∷ mark m.OpenBrace false ∷ mark m.CloseBrace false ∷ []) (word w.Try false ∷ mark m.OpenBrace false ∷ mark m.CloseBrace false ∷ word w.Finally false ∷ mark m.OpenBrace false ∷ mark m.CloseBrace false ∷ []) (word w.Try false ∷ mark m.OpenBrace false ∷ mark m.CloseBrace false ∷ mark m.Semicolon false ∷ []) refl refl (g.source_and (g.statement (g.try_finally false false (g.braces false false g.no_statement) (g.braces false false g.no_statement))) g.no_source) (lit≤ tt) (λ others. refl)

pub try_needs_a_block : BreaksAt Source (codes "try") (codes "a")
try_needs_a_block = breaks_at Source (codes "try") (codes "a") (Tree.MoreStmts (Tree.Try (Tree.Block Tree.NoStmts) Tree.NoHandler (Tree.AStmt (Tree.Block Tree.NoStmts))) Tree.NoStmts) (mark m.OpenBrace false ∷ mark m.CloseBrace false ∷ word w.Finally false ∷ mark m.OpenBrace false ∷ mark m.CloseBrace false ∷ []) (word w.Try false ∷ mark m.OpenBrace false ∷ mark m.CloseBrace false ∷ word w.Finally false ∷ mark m.OpenBrace false ∷ mark m.CloseBrace false ∷ []) (word w.Try false ∷ name (codes "a") false ∷ []) refl refl (g.source_and (g.statement (g.try_finally false false (g.braces false false g.no_statement) (g.braces false false g.no_statement))) g.no_source) (lit≤ tt) (λ others. refl)

pub catch_needs_a_block : BreaksAt Source (codes "try { } catch ( a )") (codes ";")
catch_needs_a_block = breaks_at Source (codes "try { } catch ( a )") (codes ";") (Tree.MoreStmts (Tree.Try (Tree.Block Tree.NoStmts) (Tree.ACatch (codes "a") (Tree.Block Tree.NoStmts)) Tree.NoStmt) Tree.NoStmts) (mark m.OpenBrace false ∷ mark m.CloseBrace false ∷ []) (word w.Try false ∷ mark m.OpenBrace false ∷ mark m.CloseBrace false ∷ word w.Catch false ∷ mark m.OpenParenthesis false ∷ name (codes "a") false ∷ mark m.CloseParenthesis false ∷ mark m.OpenBrace false ∷ mark m.CloseBrace false ∷ []) (word w.Try false ∷ mark m.OpenBrace false ∷ mark m.CloseBrace false ∷ word w.Catch false ∷ mark m.OpenParenthesis false ∷ name (codes "a") false ∷ mark m.CloseParenthesis false ∷ mark m.Semicolon false ∷ []) refl refl (g.source_and (g.statement (g.try_catch false false false false false (g.braces false false g.no_statement) refl (g.braces false false g.no_statement))) g.no_source) (lit≤ tt) (λ others. refl)

pub finally_needs_a_block : BreaksAt Source (codes "try { } finally") (codes ";")
finally_needs_a_block = breaks_at Source (codes "try { } finally") (codes ";") (Tree.MoreStmts (Tree.Try (Tree.Block Tree.NoStmts) Tree.NoHandler (Tree.AStmt (Tree.Block Tree.NoStmts))) Tree.NoStmts) (mark m.OpenBrace false ∷ mark m.CloseBrace false ∷ []) (word w.Try false ∷ mark m.OpenBrace false ∷ mark m.CloseBrace false ∷ word w.Finally false ∷ mark m.OpenBrace false ∷ mark m.CloseBrace false ∷ []) (word w.Try false ∷ mark m.OpenBrace false ∷ mark m.CloseBrace false ∷ word w.Finally false ∷ mark m.Semicolon false ∷ []) refl refl (g.source_and (g.statement (g.try_finally false false (g.braces false false g.no_statement) (g.braces false false g.no_statement))) g.no_source) (lit≤ tt) (λ others. refl)

pub catch_has_a_name : BreaksAt Source (codes "try { } catch") (codes "{")
catch_has_a_name = breaks_at Source (codes "try { } catch") (codes "{") (Tree.MoreStmts (Tree.Try (Tree.Block Tree.NoStmts) (Tree.ACatch (codes "a") (Tree.Block Tree.NoStmts)) Tree.NoStmt) Tree.NoStmts) (mark m.OpenParenthesis false ∷ name (codes "a") false ∷ mark m.CloseParenthesis false ∷ mark m.OpenBrace false ∷ mark m.CloseBrace false ∷ []) (word w.Try false ∷ mark m.OpenBrace false ∷ mark m.CloseBrace false ∷ word w.Catch false ∷ mark m.OpenParenthesis false ∷ name (codes "a") false ∷ mark m.CloseParenthesis false ∷ mark m.OpenBrace false ∷ mark m.CloseBrace false ∷ []) (word w.Try false ∷ mark m.OpenBrace false ∷ mark m.CloseBrace false ∷ word w.Catch false ∷ mark m.OpenBrace false ∷ []) refl refl (g.source_and (g.statement (g.try_catch false false false false false (g.braces false false g.no_statement) refl (g.braces false false g.no_statement))) g.no_source) (lit≤ tt) (λ others. refl)

pub one_catch : BreaksAt Source (codes "try { } catch ( a ) { }") (codes "catch")
one_catch = breaks_at Source (codes "try { } catch ( a ) { }") (codes "catch") (Tree.MoreStmts (Tree.Try (Tree.Block Tree.NoStmts) (Tree.ACatch (codes "a") (Tree.Block Tree.NoStmts)) Tree.NoStmt) (Tree.MoreStmts Tree.Empty Tree.NoStmts)) (mark m.Semicolon false ∷ []) (word w.Try false ∷ mark m.OpenBrace false ∷ mark m.CloseBrace false ∷ word w.Catch false ∷ mark m.OpenParenthesis false ∷ name (codes "a") false ∷ mark m.CloseParenthesis false ∷ mark m.OpenBrace false ∷ mark m.CloseBrace false ∷ mark m.Semicolon false ∷ []) (word w.Try false ∷ mark m.OpenBrace false ∷ mark m.CloseBrace false ∷ word w.Catch false ∷ mark m.OpenParenthesis false ∷ name (codes "a") false ∷ mark m.CloseParenthesis false ∷ mark m.OpenBrace false ∷ mark m.CloseBrace false ∷ word w.Catch false ∷ []) refl refl (g.source_and (g.statement (g.try_catch false false false false false (g.braces false false g.no_statement) refl (g.braces false false g.no_statement))) (g.source_and (g.statement (g.empty false)) g.no_source)) (lit≤ tt) (λ others. refl)

pub else_alone : BreaksAt Source (codes "a ;") (codes "else")
else_alone = breaks_at Source (codes "a ;") (codes "else") (Tree.MoreStmts (Tree.Do (Tree.Ident (codes "a"))) (Tree.MoreStmts Tree.Empty Tree.NoStmts)) (mark m.Semicolon false ∷ []) (name (codes "a") false ∷ mark m.Semicolon false ∷ mark m.Semicolon false ∷ []) (name (codes "a") false ∷ mark m.Semicolon false ∷ word w.Else false ∷ []) refl refl (g.source_and (g.statement (g.expression (g.identifier false (lit≤ tt) refl) (λ e. cc) (λ e. cc) (e.written false))) (g.source_and (g.statement (g.empty false)) g.no_source)) (lit≤ tt) (λ others. refl)

pub one_else : BreaksAt Source (codes "if ( a ) ; else ;") (codes "else")
one_else = breaks_at Source (codes "if ( a ) ; else ;") (codes "else") (Tree.MoreStmts (Tree.If (Tree.Ident (codes "a")) Tree.Empty (Tree.AStmt Tree.Empty)) (Tree.MoreStmts Tree.Empty Tree.NoStmts)) (mark m.Semicolon false ∷ []) (word w.If false ∷ mark m.OpenParenthesis false ∷ name (codes "a") false ∷ mark m.CloseParenthesis false ∷ mark m.Semicolon false ∷ word w.Else false ∷ mark m.Semicolon false ∷ mark m.Semicolon false ∷ []) (word w.If false ∷ mark m.OpenParenthesis false ∷ name (codes "a") false ∷ mark m.CloseParenthesis false ∷ mark m.Semicolon false ∷ word w.Else false ∷ mark m.Semicolon false ∷ word w.Else false ∷ []) refl refl (g.source_and (g.statement (g.if_else false false false false (g.identifier false (lit≤ tt) refl) (g.empty false) (g.empty false))) (g.source_and (g.statement (g.empty false)) g.no_source)) (lit≤ tt) (λ others. refl)

pub throws_something : BreaksAt Source (codes "throw") (codes ";")
throws_something = breaks_at Source (codes "throw") (codes ";") (Tree.MoreStmts (Tree.Throw (Tree.Ident (codes "a"))) Tree.NoStmts) (name (codes "a") false ∷ mark m.Semicolon false ∷ []) (word w.Throw false ∷ name (codes "a") false ∷ mark m.Semicolon false ∷ []) (word w.Throw false ∷ mark m.Semicolon false ∷ []) refl refl (g.source_and (g.statement (g.throw false (g.identifier false (lit≤ tt) refl) refl (e.written false))) g.no_source) (lit≤ tt) (λ others. refl)

pub do_has_a_test : BreaksAt Source (codes "do ;") (codes ";")
do_has_a_test = breaks_at Source (codes "do ;") (codes ";") (Tree.MoreStmts (Tree.DoWhile Tree.Empty (Tree.Ident (codes "a"))) Tree.NoStmts) (word w.While false ∷ mark m.OpenParenthesis false ∷ name (codes "a") false ∷ mark m.CloseParenthesis false ∷ mark m.Semicolon false ∷ []) (word w.Do false ∷ mark m.Semicolon false ∷ word w.While false ∷ mark m.OpenParenthesis false ∷ name (codes "a") false ∷ mark m.CloseParenthesis false ∷ mark m.Semicolon false ∷ []) (word w.Do false ∷ mark m.Semicolon false ∷ mark m.Semicolon false ∷ []) refl refl (g.source_and (g.statement (g.do_while false false false false (g.empty false) (g.identifier false (lit≤ tt) refl) (e.written false))) g.no_source) (lit≤ tt) (λ others. refl)

pub header_has_two : BreaksAt Source (codes "for ( a ; b") (codes ")")
header_has_two = breaks_at Source (codes "for ( a ; b") (codes ")") (Tree.MoreStmts (Tree.For (Tree.First (Tree.Ident (codes "a"))) (Tree.AnExpr (Tree.Ident (codes "b"))) Tree.NoExpr Tree.Empty) Tree.NoStmts) (mark m.Semicolon false ∷ mark m.CloseParenthesis false ∷ mark m.Semicolon false ∷ []) (word w.For false ∷ mark m.OpenParenthesis false ∷ name (codes "a") false ∷ mark m.Semicolon false ∷ name (codes "b") false ∷ mark m.Semicolon false ∷ mark m.CloseParenthesis false ∷ mark m.Semicolon false ∷ []) (word w.For false ∷ mark m.OpenParenthesis false ∷ name (codes "a") false ∷ mark m.Semicolon false ∷ name (codes "b") false ∷ mark m.CloseParenthesis false ∷ []) refl refl (g.source_and (g.statement (g.for false false false false false (g.expression_first (g.identifier false (lit≤ tt) refl)) (g.present (g.identifier false (lit≤ tt) refl)) g.absent (g.empty false))) g.no_source) (lit≤ tt) (λ others. refl)

pub header_has_no_more : BreaksAt Source (codes "for ( a ; b ; c") (codes ";")
header_has_no_more = breaks_at Source (codes "for ( a ; b ; c") (codes ";") (Tree.MoreStmts (Tree.For (Tree.First (Tree.Ident (codes "a"))) (Tree.AnExpr (Tree.Ident (codes "b"))) (Tree.AnExpr (Tree.Ident (codes "c"))) Tree.Empty) Tree.NoStmts) (mark m.CloseParenthesis false ∷ mark m.Semicolon false ∷ []) (word w.For false ∷ mark m.OpenParenthesis false ∷ name (codes "a") false ∷ mark m.Semicolon false ∷ name (codes "b") false ∷ mark m.Semicolon false ∷ name (codes "c") false ∷ mark m.CloseParenthesis false ∷ mark m.Semicolon false ∷ []) (word w.For false ∷ mark m.OpenParenthesis false ∷ name (codes "a") false ∷ mark m.Semicolon false ∷ name (codes "b") false ∷ mark m.Semicolon false ∷ name (codes "c") false ∷ mark m.Semicolon false ∷ []) refl refl (g.source_and (g.statement (g.for false false false false false (g.expression_first (g.identifier false (lit≤ tt) refl)) (g.present (g.identifier false (lit≤ tt) refl)) (g.present (g.identifier false (lit≤ tt) refl)) (g.empty false))) g.no_source) (lit≤ tt) (λ others. refl)

pub no_var_in_next : BreaksAt Source (codes "for ( ; ;") (codes "var")
no_var_in_next = breaks_at Source (codes "for ( ; ;") (codes "var") (Tree.MoreStmts (Tree.For Tree.Nothing Tree.NoExpr Tree.NoExpr Tree.Empty) Tree.NoStmts) (mark m.CloseParenthesis false ∷ mark m.Semicolon false ∷ []) (word w.For false ∷ mark m.OpenParenthesis false ∷ mark m.Semicolon false ∷ mark m.Semicolon false ∷ mark m.CloseParenthesis false ∷ mark m.Semicolon false ∷ []) (word w.For false ∷ mark m.OpenParenthesis false ∷ mark m.Semicolon false ∷ mark m.Semicolon false ∷ word w.Var false ∷ []) refl refl (g.source_and (g.statement (g.for false false false false false g.nothing_first g.absent g.absent (g.empty false))) g.no_source) (lit≤ tt) (λ others. refl)

pub one_name_in : BreaksAt Source (codes "for ( var a , b") (codes "in")
one_name_in = breaks_at Source (codes "for ( var a , b") (codes "in") (Tree.MoreStmts (Tree.For (Tree.Vars (Tree.MoreVarItems (codes "a") Tree.NoExpr (Tree.MoreVarItems (codes "b") Tree.NoExpr Tree.NoVarItems))) Tree.NoExpr Tree.NoExpr Tree.Empty) Tree.NoStmts) (mark m.Semicolon false ∷ mark m.Semicolon false ∷ mark m.CloseParenthesis false ∷ mark m.Semicolon false ∷ []) (word w.For false ∷ mark m.OpenParenthesis false ∷ word w.Var false ∷ name (codes "a") false ∷ mark m.Comma false ∷ name (codes "b") false ∷ mark m.Semicolon false ∷ mark m.Semicolon false ∷ mark m.CloseParenthesis false ∷ mark m.Semicolon false ∷ []) (word w.For false ∷ mark m.OpenParenthesis false ∷ word w.Var false ∷ name (codes "a") false ∷ mark m.Comma false ∷ name (codes "b") false ∷ word w.In false ∷ []) refl refl (g.source_and (g.statement (g.for false false false false false (g.variables_first false (g.declarator_and false (g.bare false refl) (g.last_declarator (g.bare false refl)))) g.absent g.absent (g.empty false))) g.no_source) (lit≤ tt) (λ others. refl)

pub no_closing_brace : BreaksAt Source (codes "a ;") (codes "}")
no_closing_brace = breaks_at Source (codes "a ;") (codes "}") (Tree.MoreStmts (Tree.Do (Tree.Ident (codes "a"))) (Tree.MoreStmts Tree.Empty Tree.NoStmts)) (mark m.Semicolon false ∷ []) (name (codes "a") false ∷ mark m.Semicolon false ∷ mark m.Semicolon false ∷ []) (name (codes "a") false ∷ mark m.Semicolon false ∷ mark m.CloseBrace false ∷ []) refl refl (g.source_and (g.statement (g.expression (g.identifier false (lit≤ tt) refl) (λ e. cc) (λ e. cc) (e.written false))) (g.source_and (g.statement (g.empty false)) g.no_source)) (lit≤ tt) (λ others. refl)

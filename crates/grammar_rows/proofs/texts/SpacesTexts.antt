-- Where a space stands between two tokens.
use Rattle.std.proofs.Common.{true, false, [], ◌∷◌, codes, Some, refl, lit≤}
use Rattle.std.specs.Fmt.{digits}
use Rattle.std.specs.Char.Utf16.{utf16_chars}
use Rattle.unicode_ident.proofs.Computing.{unicode_ident}
use Rattle.js_tree.specs.declared.tree.BinaryOp.TheVariants as b
use Rattle.js_tree.specs.declared.tree.PrefixOp.TheVariants as p
use Rattle.js_tree.specs.declared.tree.PostfixOp.TheVariants as q
use Rattle.js_lexer.specs.declared.mark.Mark.TheVariants as m
use Rattle.js_lexer.specs.declared.word.Word.TheVariants as w
use Rattle.js_parser.specs.declared.form.Form.TheVariants.{Source}
use Rattle.js_parser.specs.Symbols.{word, mark, name, number, string}
use Rattle.js_tree.specs.Levels.{Operation}
use Rattle.js_parser.specs.Ends as e
use Rattle.js_tree.specs.Tree
use Rattle.js_parser.specs.Grammar as g
use Rattle.js_parser.specs.Grammar.{code}
use Rattle.grammar_rows.specs.TextRows.{Reads}
use Rattle.grammar_rows.proofs.TextRowLemmas.{reads_as}

pub words : Reads Source (codes "typeof a ; a in b ; a instanceof b ; delete a ; void 0 ; new a") (codes "typeof a;a in b;a instanceof b;delete a;void 0;new a();\n")
unfolding unicode_ident utf16_chars digits
words = reads_as Source (codes "typeof a ; a in b ; a instanceof b ; delete a ; void 0 ; new a") (Tree.MoreStmts (Tree.Do (Tree.Prefix p.TypeOf (Tree.Ident (codes "a")))) (Tree.MoreStmts (Tree.Do (Tree.Binary b.In (Tree.Ident (codes "a")) (Tree.Ident (codes "b")))) (Tree.MoreStmts (Tree.Do (Tree.Binary b.InstanceOf (Tree.Ident (codes "a")) (Tree.Ident (codes "b")))) (Tree.MoreStmts (Tree.Do (Tree.Prefix p.Delete (Tree.Ident (codes "a")))) (Tree.MoreStmts (Tree.Do (Tree.Prefix p.Void (Tree.Num 0))) (Tree.MoreStmts (Tree.Do (Tree.New (Tree.Ident (codes "a")) Tree.NoExprs)) Tree.NoStmts)))))) (word w.TypeOf false ∷ name (codes "a") false ∷ mark m.Semicolon false ∷ name (codes "a") false ∷ word w.In false ∷ name (codes "b") false ∷ mark m.Semicolon false ∷ name (codes "a") false ∷ word w.InstanceOf false ∷ name (codes "b") false ∷ mark m.Semicolon false ∷ word w.Delete false ∷ name (codes "a") false ∷ mark m.Semicolon false ∷ word w.Void false ∷ number 0 false ∷ mark m.Semicolon false ∷ word w.New false ∷ name (codes "a") false ∷ []) refl (g.source_and (g.statement (g.expression (g.prefix p.TypeOf false (lit≤ tt) refl (g.identifier false (lit≤ tt) refl)) (λ e. cc) (λ e. cc) (e.written false))) (g.source_and (g.statement (g.expression (g.binary (Operation b.In) false (lit≤ tt) refl (g.identifier false (lit≤ tt) refl) (g.identifier false (lit≤ tt) refl)) (λ e. cc) (λ e. cc) (e.written false))) (g.source_and (g.statement (g.expression (g.binary (Operation b.InstanceOf) false (lit≤ tt) refl (g.identifier false (lit≤ tt) refl) (g.identifier false (lit≤ tt) refl)) (λ e. cc) (λ e. cc) (e.written false))) (g.source_and (g.statement (g.expression (g.prefix p.Delete false (lit≤ tt) refl (g.identifier false (lit≤ tt) refl)) (λ e. cc) (λ e. cc) (e.written false))) (g.source_and (g.statement (g.expression (g.prefix p.Void false (lit≤ tt) refl (g.numeral true false (lit≤ tt))) (λ e. cc) (λ e. cc) (e.written false))) (g.source_and (g.statement (g.expression (g.bare_new false (lit≤ tt) (g.member (g.identifier false (lit≤ tt) refl))) (λ e. cc) (λ e. cc) (e.at_end refl))) g.no_source)))))) (record { few = lit≤ tt; low = lit≤ tt; flat = lit≤ tt; closed = lit≤ tt }) refl

pub no_word : Reads Source (codes "typeof ( a + b ) ; ! a ; a [ 0 ] in b ; 1 in [ ] ; \"a\" in b") (codes "typeof(a+b);!a;a[0]in b;1 in[];\"a\"in b;\n")
unfolding unicode_ident utf16_chars digits
no_word = reads_as Source (codes "typeof ( a + b ) ; ! a ; a [ 0 ] in b ; 1 in [ ] ; \"a\" in b") (Tree.MoreStmts (Tree.Do (Tree.Prefix p.TypeOf (Tree.Binary b.Add (Tree.Ident (codes "a")) (Tree.Ident (codes "b"))))) (Tree.MoreStmts (Tree.Do (Tree.Prefix p.Not (Tree.Ident (codes "a")))) (Tree.MoreStmts (Tree.Do (Tree.Binary b.In (Tree.Index (Tree.Ident (codes "a")) (Tree.Num 0)) (Tree.Ident (codes "b")))) (Tree.MoreStmts (Tree.Do (Tree.Binary b.In (Tree.Num 1) (Tree.Array Tree.NoElements))) (Tree.MoreStmts (Tree.Do (Tree.Binary b.In (Tree.Str (codes "a")) (Tree.Ident (codes "b")))) Tree.NoStmts))))) (word w.TypeOf false ∷ mark m.OpenParenthesis false ∷ name (codes "a") false ∷ mark m.Plus false ∷ name (codes "b") false ∷ mark m.CloseParenthesis false ∷ mark m.Semicolon false ∷ mark m.Not false ∷ name (codes "a") false ∷ mark m.Semicolon false ∷ name (codes "a") false ∷ mark m.OpenBracket false ∷ number 0 false ∷ mark m.CloseBracket false ∷ word w.In false ∷ name (codes "b") false ∷ mark m.Semicolon false ∷ number 1 false ∷ word w.In false ∷ mark m.OpenBracket false ∷ mark m.CloseBracket false ∷ mark m.Semicolon false ∷ string (codes "a") false ∷ word w.In false ∷ name (codes "b") false ∷ []) refl (g.source_and (g.statement (g.expression (g.prefix p.TypeOf false (lit≤ tt) refl (g.parenthesised false false (lit≤ tt) (g.binary (Operation b.Add) false (lit≤ tt) refl (g.identifier false (lit≤ tt) refl) (g.identifier false (lit≤ tt) refl)))) (λ e. cc) (λ e. cc) (e.written false))) (g.source_and (g.statement (g.expression (g.prefix p.Not false (lit≤ tt) refl (g.identifier false (lit≤ tt) refl)) (λ e. cc) (λ e. cc) (e.written false))) (g.source_and (g.statement (g.expression (g.binary (Operation b.In) false (lit≤ tt) refl (g.index 18 false false (lit≤ tt) (lit≤ tt) (lit≤ tt) (g.identifier false (lit≤ tt) refl) (g.numeral true false (lit≤ tt))) (g.identifier false (lit≤ tt) refl)) (λ e. cc) (λ e. cc) (e.written false))) (g.source_and (g.statement (g.expression (g.binary (Operation b.In) false (lit≤ tt) refl (g.numeral true false (lit≤ tt)) (g.array false false (lit≤ tt) g.no_element)) (λ e. cc) (λ e. cc) (e.written false))) (g.source_and (g.statement (g.expression (g.binary (Operation b.In) false (lit≤ tt) refl (g.literal false (lit≤ tt)) (g.identifier false (lit≤ tt) refl)) (λ e. cc) (λ e. cc) (e.at_end refl))) g.no_source))))) (record { few = lit≤ tt; low = lit≤ tt; flat = lit≤ tt; closed = lit≤ tt }) refl

pub statements : Reads Source (codes "if ( a ) b ; else c ; do d ; while ( e ) ; throw f ; var g ; for ( var h in i ) ;") (codes "if(a)b;else c;do d;while(e);throw f;var g;for(var h in i);\n")
unfolding unicode_ident utf16_chars digits
statements = reads_as Source (codes "if ( a ) b ; else c ; do d ; while ( e ) ; throw f ; var g ; for ( var h in i ) ;") (Tree.MoreStmts (Tree.If (Tree.Ident (codes "a")) (Tree.Do (Tree.Ident (codes "b"))) (Tree.AStmt (Tree.Do (Tree.Ident (codes "c"))))) (Tree.MoreStmts (Tree.DoWhile (Tree.Do (Tree.Ident (codes "d"))) (Tree.Ident (codes "e"))) (Tree.MoreStmts (Tree.Throw (Tree.Ident (codes "f"))) (Tree.MoreStmts (Tree.Variables (Tree.MoreVarItems (codes "g") Tree.NoExpr Tree.NoVarItems)) (Tree.MoreStmts (Tree.ForIn (Tree.AVar (codes "h") Tree.NoExpr) (Tree.Ident (codes "i")) Tree.Empty) Tree.NoStmts))))) (word w.If false ∷ mark m.OpenParenthesis false ∷ name (codes "a") false ∷ mark m.CloseParenthesis false ∷ name (codes "b") false ∷ mark m.Semicolon false ∷ word w.Else false ∷ name (codes "c") false ∷ mark m.Semicolon false ∷ word w.Do false ∷ name (codes "d") false ∷ mark m.Semicolon false ∷ word w.While false ∷ mark m.OpenParenthesis false ∷ name (codes "e") false ∷ mark m.CloseParenthesis false ∷ mark m.Semicolon false ∷ word w.Throw false ∷ name (codes "f") false ∷ mark m.Semicolon false ∷ word w.Var false ∷ name (codes "g") false ∷ mark m.Semicolon false ∷ word w.For false ∷ mark m.OpenParenthesis false ∷ word w.Var false ∷ name (codes "h") false ∷ word w.In false ∷ name (codes "i") false ∷ mark m.CloseParenthesis false ∷ mark m.Semicolon false ∷ []) refl (g.source_and (g.statement (g.if_else false false false false (g.identifier false (lit≤ tt) refl) (g.expression (g.identifier false (lit≤ tt) refl) (λ e. cc) (λ e. cc) (e.written false)) (g.expression (g.identifier false (lit≤ tt) refl) (λ e. cc) (λ e. cc) (e.written false)))) (g.source_and (g.statement (g.do_while false false false false (g.expression (g.identifier false (lit≤ tt) refl) (λ e. cc) (λ e. cc) (e.written false)) (g.identifier false (lit≤ tt) refl) (e.written false))) (g.source_and (g.statement (g.throw false (g.identifier false (lit≤ tt) refl) refl (e.written false))) (g.source_and (g.statement (g.variables false (g.last_declarator (g.bare false refl)) (e.written false))) (g.source_and (g.statement (g.for_var_in false false false false false (g.bare false refl) (g.identifier false (lit≤ tt) refl) (g.empty false))) g.no_source))))) (record { few = lit≤ tt; low = lit≤ tt; flat = lit≤ tt; closed = lit≤ tt }) refl

pub statements_without : Reads Source (codes "if ( a ) b ; else { } do { } while ( a ) ; throw [ ] ; throw \"a\" ; throw - a") (codes "if(a)b;else{}do{}while(a);throw[];throw\"a\";throw-a;\n")
unfolding unicode_ident utf16_chars digits
statements_without = reads_as Source (codes "if ( a ) b ; else { } do { } while ( a ) ; throw [ ] ; throw \"a\" ; throw - a") (Tree.MoreStmts (Tree.If (Tree.Ident (codes "a")) (Tree.Do (Tree.Ident (codes "b"))) (Tree.AStmt (Tree.Block Tree.NoStmts))) (Tree.MoreStmts (Tree.DoWhile (Tree.Block Tree.NoStmts) (Tree.Ident (codes "a"))) (Tree.MoreStmts (Tree.Throw (Tree.Array Tree.NoElements)) (Tree.MoreStmts (Tree.Throw (Tree.Str (codes "a"))) (Tree.MoreStmts (Tree.Throw (Tree.Prefix p.Minus (Tree.Ident (codes "a")))) Tree.NoStmts))))) (word w.If false ∷ mark m.OpenParenthesis false ∷ name (codes "a") false ∷ mark m.CloseParenthesis false ∷ name (codes "b") false ∷ mark m.Semicolon false ∷ word w.Else false ∷ mark m.OpenBrace false ∷ mark m.CloseBrace false ∷ word w.Do false ∷ mark m.OpenBrace false ∷ mark m.CloseBrace false ∷ word w.While false ∷ mark m.OpenParenthesis false ∷ name (codes "a") false ∷ mark m.CloseParenthesis false ∷ mark m.Semicolon false ∷ word w.Throw false ∷ mark m.OpenBracket false ∷ mark m.CloseBracket false ∷ mark m.Semicolon false ∷ word w.Throw false ∷ string (codes "a") false ∷ mark m.Semicolon false ∷ word w.Throw false ∷ mark m.Minus false ∷ name (codes "a") false ∷ []) refl (g.source_and (g.statement (g.if_else false false false false (g.identifier false (lit≤ tt) refl) (g.expression (g.identifier false (lit≤ tt) refl) (λ e. cc) (λ e. cc) (e.written false)) (g.block (g.braces false false g.no_statement)))) (g.source_and (g.statement (g.do_while false false false false (g.block (g.braces false false g.no_statement)) (g.identifier false (lit≤ tt) refl) (e.written false))) (g.source_and (g.statement (g.throw false (g.array false false (lit≤ tt) g.no_element) refl (e.written false))) (g.source_and (g.statement (g.throw false (g.literal false (lit≤ tt)) refl (e.written false))) (g.source_and (g.statement (g.throw false (g.prefix p.Minus false (lit≤ tt) refl (g.identifier false (lit≤ tt) refl)) refl (e.at_end refl))) g.no_source))))) (record { few = lit≤ tt; low = lit≤ tt; flat = lit≤ tt; closed = lit≤ tt }) refl

pub returns : Reads Source (codes "function f ( ) { return a ; return ( { } ) ; return - a ; return ! a ; return 1 }") (codes "function f(){return a;return{};return-a;return!a;return 1;}\n")
unfolding unicode_ident utf16_chars digits
returns = reads_as Source (codes "function f ( ) { return a ; return ( { } ) ; return - a ; return ! a ; return 1 }") (Tree.MoreStmts (Tree.Declare (code (Some (codes "f")) [] (Tree.MoreStmts (Tree.Return (Tree.AnExpr (Tree.Ident (codes "a")))) (Tree.MoreStmts (Tree.Return (Tree.AnExpr (Tree.Object Tree.NoPairs))) (Tree.MoreStmts (Tree.Return (Tree.AnExpr (Tree.Prefix p.Minus (Tree.Ident (codes "a"))))) (Tree.MoreStmts (Tree.Return (Tree.AnExpr (Tree.Prefix p.Not (Tree.Ident (codes "a"))))) (Tree.MoreStmts (Tree.Return (Tree.AnExpr (Tree.Num 1))) Tree.NoStmts))))))) Tree.NoStmts) (word w.Function false ∷ name (codes "f") false ∷ mark m.OpenParenthesis false ∷ mark m.CloseParenthesis false ∷ mark m.OpenBrace false ∷ word w.Return false ∷ name (codes "a") false ∷ mark m.Semicolon false ∷ word w.Return false ∷ mark m.OpenParenthesis false ∷ mark m.OpenBrace false ∷ mark m.CloseBrace false ∷ mark m.CloseParenthesis false ∷ mark m.Semicolon false ∷ word w.Return false ∷ mark m.Minus false ∷ name (codes "a") false ∷ mark m.Semicolon false ∷ word w.Return false ∷ mark m.Not false ∷ name (codes "a") false ∷ mark m.Semicolon false ∷ word w.Return false ∷ number 1 false ∷ mark m.CloseBrace false ∷ []) refl (g.source_and (g.declaration false false refl (g.function_rest false false false false g.no_formal refl (g.source_and (g.statement (g.return_value false refl (g.identifier false (lit≤ tt) refl) refl (e.written false))) (g.source_and (g.statement (g.return_value false refl (g.parenthesised false false (lit≤ tt) (g.object false false (lit≤ tt) g.no_property)) refl (e.written false))) (g.source_and (g.statement (g.return_value false refl (g.prefix p.Minus false (lit≤ tt) refl (g.identifier false (lit≤ tt) refl)) refl (e.written false))) (g.source_and (g.statement (g.return_value false refl (g.prefix p.Not false (lit≤ tt) refl (g.identifier false (lit≤ tt) refl)) refl (e.written false))) (g.source_and (g.statement (g.return_value false refl (g.numeral true false (lit≤ tt)) refl (e.at_brace refl))) g.no_source))))))) g.no_source) (record { few = lit≤ tt; low = lit≤ tt; flat = lit≤ tt; closed = lit≤ tt }) refl

pub clauses : Reads Source (codes "switch ( a ) { case b : case \"c\" : case ( 1 ) : }") (codes "switch(a){case b:case\"c\":case 1:}\n")
unfolding unicode_ident utf16_chars digits
clauses = reads_as Source (codes "switch ( a ) { case b : case \"c\" : case ( 1 ) : }") (Tree.MoreStmts (Tree.Switch (Tree.Ident (codes "a")) (Tree.MoreCases (Tree.AnExpr (Tree.Ident (codes "b"))) Tree.NoStmts (Tree.MoreCases (Tree.AnExpr (Tree.Str (codes "c"))) Tree.NoStmts (Tree.MoreCases (Tree.AnExpr (Tree.Num 1)) Tree.NoStmts Tree.NoCases)))) Tree.NoStmts) (word w.Switch false ∷ mark m.OpenParenthesis false ∷ name (codes "a") false ∷ mark m.CloseParenthesis false ∷ mark m.OpenBrace false ∷ word w.Case false ∷ name (codes "b") false ∷ mark m.Colon false ∷ word w.Case false ∷ string (codes "c") false ∷ mark m.Colon false ∷ word w.Case false ∷ mark m.OpenParenthesis false ∷ number 1 false ∷ mark m.CloseParenthesis false ∷ mark m.Colon false ∷ mark m.CloseBrace false ∷ []) refl (g.source_and (g.statement (g.switch false false false false false (g.identifier false (lit≤ tt) refl) (g.case_and false false (g.identifier false (lit≤ tt) refl) g.no_statement (g.case_and false false (g.literal false (lit≤ tt)) g.no_statement (g.case_and false false (g.parenthesised false false (lit≤ tt) (g.numeral true false (lit≤ tt))) g.no_statement g.no_clause))))) g.no_source) (record { few = lit≤ tt; low = lit≤ tt; flat = lit≤ tt; closed = lit≤ tt }) refl

pub plus : Reads Source (codes "a + + b ; a + ++ b ; a ++ + b ; a ++ + ++ b ; + + a ; + ++ a ; + - a") (codes "a+ +b;a+ ++b;a+++b;a+++ ++b;+ +a;+ ++a;+-a;\n")
unfolding unicode_ident utf16_chars digits
plus = reads_as Source (codes "a + + b ; a + ++ b ; a ++ + b ; a ++ + ++ b ; + + a ; + ++ a ; + - a") (Tree.MoreStmts (Tree.Do (Tree.Binary b.Add (Tree.Ident (codes "a")) (Tree.Prefix p.Plus (Tree.Ident (codes "b"))))) (Tree.MoreStmts (Tree.Do (Tree.Binary b.Add (Tree.Ident (codes "a")) (Tree.Prefix p.Increment (Tree.Ident (codes "b"))))) (Tree.MoreStmts (Tree.Do (Tree.Binary b.Add (Tree.Postfix (Tree.Ident (codes "a")) q.Increment) (Tree.Ident (codes "b")))) (Tree.MoreStmts (Tree.Do (Tree.Binary b.Add (Tree.Postfix (Tree.Ident (codes "a")) q.Increment) (Tree.Prefix p.Increment (Tree.Ident (codes "b"))))) (Tree.MoreStmts (Tree.Do (Tree.Prefix p.Plus (Tree.Prefix p.Plus (Tree.Ident (codes "a"))))) (Tree.MoreStmts (Tree.Do (Tree.Prefix p.Plus (Tree.Prefix p.Increment (Tree.Ident (codes "a"))))) (Tree.MoreStmts (Tree.Do (Tree.Prefix p.Plus (Tree.Prefix p.Minus (Tree.Ident (codes "a"))))) Tree.NoStmts))))))) (name (codes "a") false ∷ mark m.Plus false ∷ mark m.Plus false ∷ name (codes "b") false ∷ mark m.Semicolon false ∷ name (codes "a") false ∷ mark m.Plus false ∷ mark m.PlusPlus false ∷ name (codes "b") false ∷ mark m.Semicolon false ∷ name (codes "a") false ∷ mark m.PlusPlus false ∷ mark m.Plus false ∷ name (codes "b") false ∷ mark m.Semicolon false ∷ name (codes "a") false ∷ mark m.PlusPlus false ∷ mark m.Plus false ∷ mark m.PlusPlus false ∷ name (codes "b") false ∷ mark m.Semicolon false ∷ mark m.Plus false ∷ mark m.Plus false ∷ name (codes "a") false ∷ mark m.Semicolon false ∷ mark m.Plus false ∷ mark m.PlusPlus false ∷ name (codes "a") false ∷ mark m.Semicolon false ∷ mark m.Plus false ∷ mark m.Minus false ∷ name (codes "a") false ∷ []) refl (g.source_and (g.statement (g.expression (g.binary (Operation b.Add) false (lit≤ tt) refl (g.identifier false (lit≤ tt) refl) (g.prefix p.Plus false (lit≤ tt) refl (g.identifier false (lit≤ tt) refl))) (λ e. cc) (λ e. cc) (e.written false))) (g.source_and (g.statement (g.expression (g.binary (Operation b.Add) false (lit≤ tt) refl (g.identifier false (lit≤ tt) refl) (g.changed p.Increment false (lit≤ tt) refl (g.identifier false (lit≤ tt) refl) refl)) (λ e. cc) (λ e. cc) (e.written false))) (g.source_and (g.statement (g.expression (g.binary (Operation b.Add) false (lit≤ tt) refl (g.postfix q.Increment (lit≤ tt) (g.identifier false (lit≤ tt) refl) refl) (g.identifier false (lit≤ tt) refl)) (λ e. cc) (λ e. cc) (e.written false))) (g.source_and (g.statement (g.expression (g.binary (Operation b.Add) false (lit≤ tt) refl (g.postfix q.Increment (lit≤ tt) (g.identifier false (lit≤ tt) refl) refl) (g.changed p.Increment false (lit≤ tt) refl (g.identifier false (lit≤ tt) refl) refl)) (λ e. cc) (λ e. cc) (e.written false))) (g.source_and (g.statement (g.expression (g.prefix p.Plus false (lit≤ tt) refl (g.prefix p.Plus false (lit≤ tt) refl (g.identifier false (lit≤ tt) refl))) (λ e. cc) (λ e. cc) (e.written false))) (g.source_and (g.statement (g.expression (g.prefix p.Plus false (lit≤ tt) refl (g.changed p.Increment false (lit≤ tt) refl (g.identifier false (lit≤ tt) refl) refl)) (λ e. cc) (λ e. cc) (e.written false))) (g.source_and (g.statement (g.expression (g.prefix p.Plus false (lit≤ tt) refl (g.prefix p.Minus false (lit≤ tt) refl (g.identifier false (lit≤ tt) refl))) (λ e. cc) (λ e. cc) (e.at_end refl))) g.no_source))))))) (record { few = lit≤ tt; low = lit≤ tt; flat = lit≤ tt; closed = lit≤ tt }) refl

pub minus : Reads Source (codes "a - - b ; a - -- b ; a -- - b ; a -- - -- b ; - - a ; - -- a ; - + a") (codes "a- -b;a- --b;a---b;a--- --b;- -a;- --a;-+a;\n")
unfolding unicode_ident utf16_chars digits
minus = reads_as Source (codes "a - - b ; a - -- b ; a -- - b ; a -- - -- b ; - - a ; - -- a ; - + a") (Tree.MoreStmts (Tree.Do (Tree.Binary b.Subtract (Tree.Ident (codes "a")) (Tree.Prefix p.Minus (Tree.Ident (codes "b"))))) (Tree.MoreStmts (Tree.Do (Tree.Binary b.Subtract (Tree.Ident (codes "a")) (Tree.Prefix p.Decrement (Tree.Ident (codes "b"))))) (Tree.MoreStmts (Tree.Do (Tree.Binary b.Subtract (Tree.Postfix (Tree.Ident (codes "a")) q.Decrement) (Tree.Ident (codes "b")))) (Tree.MoreStmts (Tree.Do (Tree.Binary b.Subtract (Tree.Postfix (Tree.Ident (codes "a")) q.Decrement) (Tree.Prefix p.Decrement (Tree.Ident (codes "b"))))) (Tree.MoreStmts (Tree.Do (Tree.Prefix p.Minus (Tree.Prefix p.Minus (Tree.Ident (codes "a"))))) (Tree.MoreStmts (Tree.Do (Tree.Prefix p.Minus (Tree.Prefix p.Decrement (Tree.Ident (codes "a"))))) (Tree.MoreStmts (Tree.Do (Tree.Prefix p.Minus (Tree.Prefix p.Plus (Tree.Ident (codes "a"))))) Tree.NoStmts))))))) (name (codes "a") false ∷ mark m.Minus false ∷ mark m.Minus false ∷ name (codes "b") false ∷ mark m.Semicolon false ∷ name (codes "a") false ∷ mark m.Minus false ∷ mark m.MinusMinus false ∷ name (codes "b") false ∷ mark m.Semicolon false ∷ name (codes "a") false ∷ mark m.MinusMinus false ∷ mark m.Minus false ∷ name (codes "b") false ∷ mark m.Semicolon false ∷ name (codes "a") false ∷ mark m.MinusMinus false ∷ mark m.Minus false ∷ mark m.MinusMinus false ∷ name (codes "b") false ∷ mark m.Semicolon false ∷ mark m.Minus false ∷ mark m.Minus false ∷ name (codes "a") false ∷ mark m.Semicolon false ∷ mark m.Minus false ∷ mark m.MinusMinus false ∷ name (codes "a") false ∷ mark m.Semicolon false ∷ mark m.Minus false ∷ mark m.Plus false ∷ name (codes "a") false ∷ []) refl (g.source_and (g.statement (g.expression (g.binary (Operation b.Subtract) false (lit≤ tt) refl (g.identifier false (lit≤ tt) refl) (g.prefix p.Minus false (lit≤ tt) refl (g.identifier false (lit≤ tt) refl))) (λ e. cc) (λ e. cc) (e.written false))) (g.source_and (g.statement (g.expression (g.binary (Operation b.Subtract) false (lit≤ tt) refl (g.identifier false (lit≤ tt) refl) (g.changed p.Decrement false (lit≤ tt) refl (g.identifier false (lit≤ tt) refl) refl)) (λ e. cc) (λ e. cc) (e.written false))) (g.source_and (g.statement (g.expression (g.binary (Operation b.Subtract) false (lit≤ tt) refl (g.postfix q.Decrement (lit≤ tt) (g.identifier false (lit≤ tt) refl) refl) (g.identifier false (lit≤ tt) refl)) (λ e. cc) (λ e. cc) (e.written false))) (g.source_and (g.statement (g.expression (g.binary (Operation b.Subtract) false (lit≤ tt) refl (g.postfix q.Decrement (lit≤ tt) (g.identifier false (lit≤ tt) refl) refl) (g.changed p.Decrement false (lit≤ tt) refl (g.identifier false (lit≤ tt) refl) refl)) (λ e. cc) (λ e. cc) (e.written false))) (g.source_and (g.statement (g.expression (g.prefix p.Minus false (lit≤ tt) refl (g.prefix p.Minus false (lit≤ tt) refl (g.identifier false (lit≤ tt) refl))) (λ e. cc) (λ e. cc) (e.written false))) (g.source_and (g.statement (g.expression (g.prefix p.Minus false (lit≤ tt) refl (g.changed p.Decrement false (lit≤ tt) refl (g.identifier false (lit≤ tt) refl) refl)) (λ e. cc) (λ e. cc) (e.written false))) (g.source_and (g.statement (g.expression (g.prefix p.Minus false (lit≤ tt) refl (g.prefix p.Plus false (lit≤ tt) refl (g.identifier false (lit≤ tt) refl))) (λ e. cc) (λ e. cc) (e.at_end refl))) g.no_source))))))) (record { few = lit≤ tt; low = lit≤ tt; flat = lit≤ tt; closed = lit≤ tt }) refl

pub outside_ascii : Reads Source (codes "é in ü ; typeof é ; é . ü ; var é") (codes "é in ü;typeof é;é.ü;var é;\n")
unfolding unicode_ident utf16_chars digits
outside_ascii = reads_as Source (codes "é in ü ; typeof é ; é . ü ; var é") (Tree.MoreStmts (Tree.Do (Tree.Binary b.In (Tree.Ident (codes "é")) (Tree.Ident (codes "ü")))) (Tree.MoreStmts (Tree.Do (Tree.Prefix p.TypeOf (Tree.Ident (codes "é")))) (Tree.MoreStmts (Tree.Do (Tree.Dot (Tree.Ident (codes "é")) (codes "ü"))) (Tree.MoreStmts (Tree.Variables (Tree.MoreVarItems (codes "é") Tree.NoExpr Tree.NoVarItems)) Tree.NoStmts)))) (name (codes "é") false ∷ word w.In false ∷ name (codes "ü") false ∷ mark m.Semicolon false ∷ word w.TypeOf false ∷ name (codes "é") false ∷ mark m.Semicolon false ∷ name (codes "é") false ∷ mark m.Dot false ∷ name (codes "ü") false ∷ mark m.Semicolon false ∷ word w.Var false ∷ name (codes "é") false ∷ []) refl (g.source_and (g.statement (g.expression (g.binary (Operation b.In) false (lit≤ tt) refl (g.identifier false (lit≤ tt) refl) (g.identifier false (lit≤ tt) refl)) (λ e. cc) (λ e. cc) (e.written false))) (g.source_and (g.statement (g.expression (g.prefix p.TypeOf false (lit≤ tt) refl (g.identifier false (lit≤ tt) refl)) (λ e. cc) (λ e. cc) (e.written false))) (g.source_and (g.statement (g.expression (g.dot 18 false false (lit≤ tt) (lit≤ tt) (lit≤ tt) (g.identifier false (lit≤ tt) refl) refl) (λ e. cc) (λ e. cc) (e.written false))) (g.source_and (g.statement (g.variables false (g.last_declarator (g.bare false refl)) (e.at_end refl))) g.no_source)))) (record { few = lit≤ tt; low = lit≤ tt; flat = lit≤ tt; closed = lit≤ tt }) refl

pub dollars : Reads Source (codes "typeof $ ; _ in $a ; a1 in b2") (codes "typeof $;_ in $a;a1 in b2;\n")
unfolding unicode_ident utf16_chars digits
dollars = reads_as Source (codes "typeof $ ; _ in $a ; a1 in b2") (Tree.MoreStmts (Tree.Do (Tree.Prefix p.TypeOf (Tree.Ident (codes "$")))) (Tree.MoreStmts (Tree.Do (Tree.Binary b.In (Tree.Ident (codes "_")) (Tree.Ident (codes "$a")))) (Tree.MoreStmts (Tree.Do (Tree.Binary b.In (Tree.Ident (codes "a1")) (Tree.Ident (codes "b2")))) Tree.NoStmts))) (word w.TypeOf false ∷ name (codes "$") false ∷ mark m.Semicolon false ∷ name (codes "_") false ∷ word w.In false ∷ name (codes "$a") false ∷ mark m.Semicolon false ∷ name (codes "a1") false ∷ word w.In false ∷ name (codes "b2") false ∷ []) refl (g.source_and (g.statement (g.expression (g.prefix p.TypeOf false (lit≤ tt) refl (g.identifier false (lit≤ tt) refl)) (λ e. cc) (λ e. cc) (e.written false))) (g.source_and (g.statement (g.expression (g.binary (Operation b.In) false (lit≤ tt) refl (g.identifier false (lit≤ tt) refl) (g.identifier false (lit≤ tt) refl)) (λ e. cc) (λ e. cc) (e.written false))) (g.source_and (g.statement (g.expression (g.binary (Operation b.In) false (lit≤ tt) refl (g.identifier false (lit≤ tt) refl) (g.identifier false (lit≤ tt) refl)) (λ e. cc) (λ e. cc) (e.at_end refl))) g.no_source))) (record { few = lit≤ tt; low = lit≤ tt; flat = lit≤ tt; closed = lit≤ tt }) refl

-- Where operands are in parentheses.
use Rattle.std.proofs.Common.{true, false, [], ◌∷◌, codes, None, refl, lit≤}
use Rattle.std.specs.Fmt.{digits}
use Rattle.std.specs.Char.Utf16.{utf16_chars}
use Rattle.unicode_ident.proofs.Computing.{unicode_ident}
use Rattle.js_tree.specs.declared.tree.BinaryOp.TheVariants as b
use Rattle.js_tree.specs.declared.tree.PrefixOp.TheVariants as p
use Rattle.js_tree.specs.declared.tree.PostfixOp.TheVariants as q
use Rattle.js_lexer.specs.declared.mark.Mark.TheVariants as m
use Rattle.js_lexer.specs.declared.word.Word.TheVariants as w
use Rattle.js_parser.specs.declared.form.Form.TheVariants.{Source}
use Rattle.js_parser.specs.Symbols.{word, mark, name, number, string}
use Rattle.js_tree.specs.Levels.{LogicalOr, LogicalAnd, Operation}
use Rattle.js_parser.specs.Ends as e
use Rattle.js_tree.specs.Tree
use Rattle.js_parser.specs.Grammar as g
use Rattle.js_parser.specs.Grammar.{code}
use Rattle.grammar_rows.specs.TextRows.{Reads}
use Rattle.grammar_rows.proofs.TextRowLemmas.{reads_as}

pub below_a_level : Reads Source (codes "( a = b ) + c ; ( a , b ) + c ; ( a ? b : c ) + d ; a + ( b = c )") (codes "(a=b)+c;(a,b)+c;(a?b:c)+d;a+(b=c);\n")
unfolding unicode_ident utf16_chars digits
below_a_level = reads_as Source (codes "( a = b ) + c ; ( a , b ) + c ; ( a ? b : c ) + d ; a + ( b = c )") (Tree.MoreStmts (Tree.Do (Tree.Binary b.Add (Tree.Assign None (Tree.Ident (codes "a")) (Tree.Ident (codes "b"))) (Tree.Ident (codes "c")))) (Tree.MoreStmts (Tree.Do (Tree.Binary b.Add (Tree.Comma (Tree.Ident (codes "a")) (Tree.Ident (codes "b"))) (Tree.Ident (codes "c")))) (Tree.MoreStmts (Tree.Do (Tree.Binary b.Add (Tree.Cond (Tree.Ident (codes "a")) (Tree.Ident (codes "b")) (Tree.Ident (codes "c"))) (Tree.Ident (codes "d")))) (Tree.MoreStmts (Tree.Do (Tree.Binary b.Add (Tree.Ident (codes "a")) (Tree.Assign None (Tree.Ident (codes "b")) (Tree.Ident (codes "c"))))) Tree.NoStmts)))) (mark m.OpenParenthesis false ∷ name (codes "a") false ∷ mark m.Assign false ∷ name (codes "b") false ∷ mark m.CloseParenthesis false ∷ mark m.Plus false ∷ name (codes "c") false ∷ mark m.Semicolon false ∷ mark m.OpenParenthesis false ∷ name (codes "a") false ∷ mark m.Comma false ∷ name (codes "b") false ∷ mark m.CloseParenthesis false ∷ mark m.Plus false ∷ name (codes "c") false ∷ mark m.Semicolon false ∷ mark m.OpenParenthesis false ∷ name (codes "a") false ∷ mark m.Question false ∷ name (codes "b") false ∷ mark m.Colon false ∷ name (codes "c") false ∷ mark m.CloseParenthesis false ∷ mark m.Plus false ∷ name (codes "d") false ∷ mark m.Semicolon false ∷ name (codes "a") false ∷ mark m.Plus false ∷ mark m.OpenParenthesis false ∷ name (codes "b") false ∷ mark m.Assign false ∷ name (codes "c") false ∷ mark m.CloseParenthesis false ∷ []) refl (g.source_and (g.statement (g.expression (g.binary (Operation b.Add) false (lit≤ tt) refl (g.parenthesised false false (lit≤ tt) (g.assign None m.Assign false (lit≤ tt) refl (g.identifier false (lit≤ tt) refl) refl (g.identifier false (lit≤ tt) refl))) (g.identifier false (lit≤ tt) refl)) (λ e. cc) (λ e. cc) (e.written false))) (g.source_and (g.statement (g.expression (g.binary (Operation b.Add) false (lit≤ tt) refl (g.parenthesised false false (lit≤ tt) (g.comma false (lit≤ tt) (g.identifier false (lit≤ tt) refl) (g.identifier false (lit≤ tt) refl))) (g.identifier false (lit≤ tt) refl)) (λ e. cc) (λ e. cc) (e.written false))) (g.source_and (g.statement (g.expression (g.binary (Operation b.Add) false (lit≤ tt) refl (g.parenthesised false false (lit≤ tt) (g.conditional false false (lit≤ tt) (g.identifier false (lit≤ tt) refl) (g.identifier false (lit≤ tt) refl) (g.identifier false (lit≤ tt) refl))) (g.identifier false (lit≤ tt) refl)) (λ e. cc) (λ e. cc) (e.written false))) (g.source_and (g.statement (g.expression (g.binary (Operation b.Add) false (lit≤ tt) refl (g.identifier false (lit≤ tt) refl) (g.parenthesised false false (lit≤ tt) (g.assign None m.Assign false (lit≤ tt) refl (g.identifier false (lit≤ tt) refl) refl (g.identifier false (lit≤ tt) refl)))) (λ e. cc) (λ e. cc) (e.at_end refl))) g.no_source)))) (record { few = lit≤ tt; low = lit≤ tt; flat = lit≤ tt; closed = lit≤ tt }) refl

pub at_a_level : Reads Source (codes "( a + b ) + c ; a + ( b + c ) ; ( a * b ) + c ; a * ( b + c ) ; ( a + b ) * c") (codes "a+b+c;a+(b+c);a*b+c;a*(b+c);(a+b)*c;\n")
unfolding unicode_ident utf16_chars digits
at_a_level = reads_as Source (codes "( a + b ) + c ; a + ( b + c ) ; ( a * b ) + c ; a * ( b + c ) ; ( a + b ) * c") (Tree.MoreStmts (Tree.Do (Tree.Binary b.Add (Tree.Binary b.Add (Tree.Ident (codes "a")) (Tree.Ident (codes "b"))) (Tree.Ident (codes "c")))) (Tree.MoreStmts (Tree.Do (Tree.Binary b.Add (Tree.Ident (codes "a")) (Tree.Binary b.Add (Tree.Ident (codes "b")) (Tree.Ident (codes "c"))))) (Tree.MoreStmts (Tree.Do (Tree.Binary b.Add (Tree.Binary b.Multiply (Tree.Ident (codes "a")) (Tree.Ident (codes "b"))) (Tree.Ident (codes "c")))) (Tree.MoreStmts (Tree.Do (Tree.Binary b.Multiply (Tree.Ident (codes "a")) (Tree.Binary b.Add (Tree.Ident (codes "b")) (Tree.Ident (codes "c"))))) (Tree.MoreStmts (Tree.Do (Tree.Binary b.Multiply (Tree.Binary b.Add (Tree.Ident (codes "a")) (Tree.Ident (codes "b"))) (Tree.Ident (codes "c")))) Tree.NoStmts))))) (mark m.OpenParenthesis false ∷ name (codes "a") false ∷ mark m.Plus false ∷ name (codes "b") false ∷ mark m.CloseParenthesis false ∷ mark m.Plus false ∷ name (codes "c") false ∷ mark m.Semicolon false ∷ name (codes "a") false ∷ mark m.Plus false ∷ mark m.OpenParenthesis false ∷ name (codes "b") false ∷ mark m.Plus false ∷ name (codes "c") false ∷ mark m.CloseParenthesis false ∷ mark m.Semicolon false ∷ mark m.OpenParenthesis false ∷ name (codes "a") false ∷ mark m.Times false ∷ name (codes "b") false ∷ mark m.CloseParenthesis false ∷ mark m.Plus false ∷ name (codes "c") false ∷ mark m.Semicolon false ∷ name (codes "a") false ∷ mark m.Times false ∷ mark m.OpenParenthesis false ∷ name (codes "b") false ∷ mark m.Plus false ∷ name (codes "c") false ∷ mark m.CloseParenthesis false ∷ mark m.Semicolon false ∷ mark m.OpenParenthesis false ∷ name (codes "a") false ∷ mark m.Plus false ∷ name (codes "b") false ∷ mark m.CloseParenthesis false ∷ mark m.Times false ∷ name (codes "c") false ∷ []) refl (g.source_and (g.statement (g.expression (g.binary (Operation b.Add) false (lit≤ tt) refl (g.parenthesised false false (lit≤ tt) (g.binary (Operation b.Add) false (lit≤ tt) refl (g.identifier false (lit≤ tt) refl) (g.identifier false (lit≤ tt) refl))) (g.identifier false (lit≤ tt) refl)) (λ e. cc) (λ e. cc) (e.written false))) (g.source_and (g.statement (g.expression (g.binary (Operation b.Add) false (lit≤ tt) refl (g.identifier false (lit≤ tt) refl) (g.parenthesised false false (lit≤ tt) (g.binary (Operation b.Add) false (lit≤ tt) refl (g.identifier false (lit≤ tt) refl) (g.identifier false (lit≤ tt) refl)))) (λ e. cc) (λ e. cc) (e.written false))) (g.source_and (g.statement (g.expression (g.binary (Operation b.Add) false (lit≤ tt) refl (g.parenthesised false false (lit≤ tt) (g.binary (Operation b.Multiply) false (lit≤ tt) refl (g.identifier false (lit≤ tt) refl) (g.identifier false (lit≤ tt) refl))) (g.identifier false (lit≤ tt) refl)) (λ e. cc) (λ e. cc) (e.written false))) (g.source_and (g.statement (g.expression (g.binary (Operation b.Multiply) false (lit≤ tt) refl (g.identifier false (lit≤ tt) refl) (g.parenthesised false false (lit≤ tt) (g.binary (Operation b.Add) false (lit≤ tt) refl (g.identifier false (lit≤ tt) refl) (g.identifier false (lit≤ tt) refl)))) (λ e. cc) (λ e. cc) (e.written false))) (g.source_and (g.statement (g.expression (g.binary (Operation b.Multiply) false (lit≤ tt) refl (g.parenthesised false false (lit≤ tt) (g.binary (Operation b.Add) false (lit≤ tt) refl (g.identifier false (lit≤ tt) refl) (g.identifier false (lit≤ tt) refl))) (g.identifier false (lit≤ tt) refl)) (λ e. cc) (λ e. cc) (e.at_end refl))) g.no_source))))) (record { few = lit≤ tt; low = lit≤ tt; flat = lit≤ tt; closed = lit≤ tt }) refl

pub logical : Reads Source (codes "( a || b ) || c ; a || ( b || c ) ; ( a && b ) || c ; a && ( b || c ) ; a && ( b && c ) ; ( a || b ) && c") (codes "a||b||c;a||(b||c);a&&b||c;a&&(b||c);a&&(b&&c);(a||b)&&c;\n")
unfolding unicode_ident utf16_chars digits
logical = reads_as Source (codes "( a || b ) || c ; a || ( b || c ) ; ( a && b ) || c ; a && ( b || c ) ; a && ( b && c ) ; ( a || b ) && c") (Tree.MoreStmts (Tree.Do (Tree.Or (Tree.Or (Tree.Ident (codes "a")) (Tree.Ident (codes "b"))) (Tree.Ident (codes "c")))) (Tree.MoreStmts (Tree.Do (Tree.Or (Tree.Ident (codes "a")) (Tree.Or (Tree.Ident (codes "b")) (Tree.Ident (codes "c"))))) (Tree.MoreStmts (Tree.Do (Tree.Or (Tree.And (Tree.Ident (codes "a")) (Tree.Ident (codes "b"))) (Tree.Ident (codes "c")))) (Tree.MoreStmts (Tree.Do (Tree.And (Tree.Ident (codes "a")) (Tree.Or (Tree.Ident (codes "b")) (Tree.Ident (codes "c"))))) (Tree.MoreStmts (Tree.Do (Tree.And (Tree.Ident (codes "a")) (Tree.And (Tree.Ident (codes "b")) (Tree.Ident (codes "c"))))) (Tree.MoreStmts (Tree.Do (Tree.And (Tree.Or (Tree.Ident (codes "a")) (Tree.Ident (codes "b"))) (Tree.Ident (codes "c")))) Tree.NoStmts)))))) (mark m.OpenParenthesis false ∷ name (codes "a") false ∷ mark m.Or false ∷ name (codes "b") false ∷ mark m.CloseParenthesis false ∷ mark m.Or false ∷ name (codes "c") false ∷ mark m.Semicolon false ∷ name (codes "a") false ∷ mark m.Or false ∷ mark m.OpenParenthesis false ∷ name (codes "b") false ∷ mark m.Or false ∷ name (codes "c") false ∷ mark m.CloseParenthesis false ∷ mark m.Semicolon false ∷ mark m.OpenParenthesis false ∷ name (codes "a") false ∷ mark m.And false ∷ name (codes "b") false ∷ mark m.CloseParenthesis false ∷ mark m.Or false ∷ name (codes "c") false ∷ mark m.Semicolon false ∷ name (codes "a") false ∷ mark m.And false ∷ mark m.OpenParenthesis false ∷ name (codes "b") false ∷ mark m.Or false ∷ name (codes "c") false ∷ mark m.CloseParenthesis false ∷ mark m.Semicolon false ∷ name (codes "a") false ∷ mark m.And false ∷ mark m.OpenParenthesis false ∷ name (codes "b") false ∷ mark m.And false ∷ name (codes "c") false ∷ mark m.CloseParenthesis false ∷ mark m.Semicolon false ∷ mark m.OpenParenthesis false ∷ name (codes "a") false ∷ mark m.Or false ∷ name (codes "b") false ∷ mark m.CloseParenthesis false ∷ mark m.And false ∷ name (codes "c") false ∷ []) refl (g.source_and (g.statement (g.expression (g.binary LogicalOr false (lit≤ tt) refl (g.parenthesised false false (lit≤ tt) (g.binary LogicalOr false (lit≤ tt) refl (g.identifier false (lit≤ tt) refl) (g.identifier false (lit≤ tt) refl))) (g.identifier false (lit≤ tt) refl)) (λ e. cc) (λ e. cc) (e.written false))) (g.source_and (g.statement (g.expression (g.binary LogicalOr false (lit≤ tt) refl (g.identifier false (lit≤ tt) refl) (g.parenthesised false false (lit≤ tt) (g.binary LogicalOr false (lit≤ tt) refl (g.identifier false (lit≤ tt) refl) (g.identifier false (lit≤ tt) refl)))) (λ e. cc) (λ e. cc) (e.written false))) (g.source_and (g.statement (g.expression (g.binary LogicalOr false (lit≤ tt) refl (g.parenthesised false false (lit≤ tt) (g.binary LogicalAnd false (lit≤ tt) refl (g.identifier false (lit≤ tt) refl) (g.identifier false (lit≤ tt) refl))) (g.identifier false (lit≤ tt) refl)) (λ e. cc) (λ e. cc) (e.written false))) (g.source_and (g.statement (g.expression (g.binary LogicalAnd false (lit≤ tt) refl (g.identifier false (lit≤ tt) refl) (g.parenthesised false false (lit≤ tt) (g.binary LogicalOr false (lit≤ tt) refl (g.identifier false (lit≤ tt) refl) (g.identifier false (lit≤ tt) refl)))) (λ e. cc) (λ e. cc) (e.written false))) (g.source_and (g.statement (g.expression (g.binary LogicalAnd false (lit≤ tt) refl (g.identifier false (lit≤ tt) refl) (g.parenthesised false false (lit≤ tt) (g.binary LogicalAnd false (lit≤ tt) refl (g.identifier false (lit≤ tt) refl) (g.identifier false (lit≤ tt) refl)))) (λ e. cc) (λ e. cc) (e.written false))) (g.source_and (g.statement (g.expression (g.binary LogicalAnd false (lit≤ tt) refl (g.parenthesised false false (lit≤ tt) (g.binary LogicalOr false (lit≤ tt) refl (g.identifier false (lit≤ tt) refl) (g.identifier false (lit≤ tt) refl))) (g.identifier false (lit≤ tt) refl)) (λ e. cc) (λ e. cc) (e.at_end refl))) g.no_source)))))) (record { few = lit≤ tt; low = lit≤ tt; flat = lit≤ tt; closed = lit≤ tt }) refl

pub commas : Reads Source (codes "( a , b ) , c ; a , ( b , c ) ; a = ( b , c ) ; a ( ( b , c ) ) ; [ ( a , b ) ] ; ( { a : ( b , c ) } )") (codes "a,b,c;a,(b,c);a=(b,c);a((b,c));[(a,b)];({a:(b,c)});\n")
unfolding unicode_ident utf16_chars digits
commas = reads_as Source (codes "( a , b ) , c ; a , ( b , c ) ; a = ( b , c ) ; a ( ( b , c ) ) ; [ ( a , b ) ] ; ( { a : ( b , c ) } )") (Tree.MoreStmts (Tree.Do (Tree.Comma (Tree.Comma (Tree.Ident (codes "a")) (Tree.Ident (codes "b"))) (Tree.Ident (codes "c")))) (Tree.MoreStmts (Tree.Do (Tree.Comma (Tree.Ident (codes "a")) (Tree.Comma (Tree.Ident (codes "b")) (Tree.Ident (codes "c"))))) (Tree.MoreStmts (Tree.Do (Tree.Assign None (Tree.Ident (codes "a")) (Tree.Comma (Tree.Ident (codes "b")) (Tree.Ident (codes "c"))))) (Tree.MoreStmts (Tree.Do (Tree.Call (Tree.Ident (codes "a")) (Tree.MoreExprs (Tree.Comma (Tree.Ident (codes "b")) (Tree.Ident (codes "c"))) Tree.NoExprs))) (Tree.MoreStmts (Tree.Do (Tree.Array (Tree.MoreElements (Tree.AnExpr (Tree.Comma (Tree.Ident (codes "a")) (Tree.Ident (codes "b")))) Tree.NoElements))) (Tree.MoreStmts (Tree.Do (Tree.Object (Tree.MorePairs (codes "a") (Tree.Comma (Tree.Ident (codes "b")) (Tree.Ident (codes "c"))) Tree.NoPairs))) Tree.NoStmts)))))) (mark m.OpenParenthesis false ∷ name (codes "a") false ∷ mark m.Comma false ∷ name (codes "b") false ∷ mark m.CloseParenthesis false ∷ mark m.Comma false ∷ name (codes "c") false ∷ mark m.Semicolon false ∷ name (codes "a") false ∷ mark m.Comma false ∷ mark m.OpenParenthesis false ∷ name (codes "b") false ∷ mark m.Comma false ∷ name (codes "c") false ∷ mark m.CloseParenthesis false ∷ mark m.Semicolon false ∷ name (codes "a") false ∷ mark m.Assign false ∷ mark m.OpenParenthesis false ∷ name (codes "b") false ∷ mark m.Comma false ∷ name (codes "c") false ∷ mark m.CloseParenthesis false ∷ mark m.Semicolon false ∷ name (codes "a") false ∷ mark m.OpenParenthesis false ∷ mark m.OpenParenthesis false ∷ name (codes "b") false ∷ mark m.Comma false ∷ name (codes "c") false ∷ mark m.CloseParenthesis false ∷ mark m.CloseParenthesis false ∷ mark m.Semicolon false ∷ mark m.OpenBracket false ∷ mark m.OpenParenthesis false ∷ name (codes "a") false ∷ mark m.Comma false ∷ name (codes "b") false ∷ mark m.CloseParenthesis false ∷ mark m.CloseBracket false ∷ mark m.Semicolon false ∷ mark m.OpenParenthesis false ∷ mark m.OpenBrace false ∷ name (codes "a") false ∷ mark m.Colon false ∷ mark m.OpenParenthesis false ∷ name (codes "b") false ∷ mark m.Comma false ∷ name (codes "c") false ∷ mark m.CloseParenthesis false ∷ mark m.CloseBrace false ∷ mark m.CloseParenthesis false ∷ []) refl (g.source_and (g.statement (g.expression (g.comma false (lit≤ tt) (g.parenthesised false false (lit≤ tt) (g.comma false (lit≤ tt) (g.identifier false (lit≤ tt) refl) (g.identifier false (lit≤ tt) refl))) (g.identifier false (lit≤ tt) refl)) (λ e. cc) (λ e. cc) (e.written false))) (g.source_and (g.statement (g.expression (g.comma false (lit≤ tt) (g.identifier false (lit≤ tt) refl) (g.parenthesised false false (lit≤ tt) (g.comma false (lit≤ tt) (g.identifier false (lit≤ tt) refl) (g.identifier false (lit≤ tt) refl)))) (λ e. cc) (λ e. cc) (e.written false))) (g.source_and (g.statement (g.expression (g.assign None m.Assign false (lit≤ tt) refl (g.identifier false (lit≤ tt) refl) refl (g.parenthesised false false (lit≤ tt) (g.comma false (lit≤ tt) (g.identifier false (lit≤ tt) refl) (g.identifier false (lit≤ tt) refl)))) (λ e. cc) (λ e. cc) (e.written false))) (g.source_and (g.statement (g.expression (g.call (lit≤ tt) (g.identifier false (lit≤ tt) refl) (g.arguments false false (g.last_argument (g.parenthesised false false (lit≤ tt) (g.comma false (lit≤ tt) (g.identifier false (lit≤ tt) refl) (g.identifier false (lit≤ tt) refl)))))) (λ e. cc) (λ e. cc) (e.written false))) (g.source_and (g.statement (g.expression (g.array false false (lit≤ tt) (g.last_element (g.parenthesised false false (lit≤ tt) (g.comma false (lit≤ tt) (g.identifier false (lit≤ tt) refl) (g.identifier false (lit≤ tt) refl))))) (λ e. cc) (λ e. cc) (e.written false))) (g.source_and (g.statement (g.expression (g.parenthesised false false (lit≤ tt) (g.object false false (lit≤ tt) (g.last_property (name (codes "a") false) false refl (g.parenthesised false false (lit≤ tt) (g.comma false (lit≤ tt) (g.identifier false (lit≤ tt) refl) (g.identifier false (lit≤ tt) refl)))))) (λ e. cc) (λ e. cc) (e.at_end refl))) g.no_source)))))) (record { few = lit≤ tt; low = lit≤ tt; flat = lit≤ tt; closed = lit≤ tt }) refl

pub more_commas : Reads Source (codes "a ( b , ( c , d ) ) ; [ a , ( b , c ) ] ; ( { a : b , c : ( d , e ) } ) ; var a = ( b , c ) , d = ( e , f )") (codes "a(b,(c,d));[a,(b,c)];({a:b,c:(d,e)});var a=(b,c),d=(e,f);\n")
unfolding unicode_ident utf16_chars digits
more_commas = reads_as Source (codes "a ( b , ( c , d ) ) ; [ a , ( b , c ) ] ; ( { a : b , c : ( d , e ) } ) ; var a = ( b , c ) , d = ( e , f )") (Tree.MoreStmts (Tree.Do (Tree.Call (Tree.Ident (codes "a")) (Tree.MoreExprs (Tree.Ident (codes "b")) (Tree.MoreExprs (Tree.Comma (Tree.Ident (codes "c")) (Tree.Ident (codes "d"))) Tree.NoExprs)))) (Tree.MoreStmts (Tree.Do (Tree.Array (Tree.MoreElements (Tree.AnExpr (Tree.Ident (codes "a"))) (Tree.MoreElements (Tree.AnExpr (Tree.Comma (Tree.Ident (codes "b")) (Tree.Ident (codes "c")))) Tree.NoElements)))) (Tree.MoreStmts (Tree.Do (Tree.Object (Tree.MorePairs (codes "a") (Tree.Ident (codes "b")) (Tree.MorePairs (codes "c") (Tree.Comma (Tree.Ident (codes "d")) (Tree.Ident (codes "e"))) Tree.NoPairs)))) (Tree.MoreStmts (Tree.Variables (Tree.MoreVarItems (codes "a") (Tree.AnExpr (Tree.Comma (Tree.Ident (codes "b")) (Tree.Ident (codes "c")))) (Tree.MoreVarItems (codes "d") (Tree.AnExpr (Tree.Comma (Tree.Ident (codes "e")) (Tree.Ident (codes "f")))) Tree.NoVarItems))) Tree.NoStmts)))) (name (codes "a") false ∷ mark m.OpenParenthesis false ∷ name (codes "b") false ∷ mark m.Comma false ∷ mark m.OpenParenthesis false ∷ name (codes "c") false ∷ mark m.Comma false ∷ name (codes "d") false ∷ mark m.CloseParenthesis false ∷ mark m.CloseParenthesis false ∷ mark m.Semicolon false ∷ mark m.OpenBracket false ∷ name (codes "a") false ∷ mark m.Comma false ∷ mark m.OpenParenthesis false ∷ name (codes "b") false ∷ mark m.Comma false ∷ name (codes "c") false ∷ mark m.CloseParenthesis false ∷ mark m.CloseBracket false ∷ mark m.Semicolon false ∷ mark m.OpenParenthesis false ∷ mark m.OpenBrace false ∷ name (codes "a") false ∷ mark m.Colon false ∷ name (codes "b") false ∷ mark m.Comma false ∷ name (codes "c") false ∷ mark m.Colon false ∷ mark m.OpenParenthesis false ∷ name (codes "d") false ∷ mark m.Comma false ∷ name (codes "e") false ∷ mark m.CloseParenthesis false ∷ mark m.CloseBrace false ∷ mark m.CloseParenthesis false ∷ mark m.Semicolon false ∷ word w.Var false ∷ name (codes "a") false ∷ mark m.Assign false ∷ mark m.OpenParenthesis false ∷ name (codes "b") false ∷ mark m.Comma false ∷ name (codes "c") false ∷ mark m.CloseParenthesis false ∷ mark m.Comma false ∷ name (codes "d") false ∷ mark m.Assign false ∷ mark m.OpenParenthesis false ∷ name (codes "e") false ∷ mark m.Comma false ∷ name (codes "f") false ∷ mark m.CloseParenthesis false ∷ []) refl (g.source_and (g.statement (g.expression (g.call (lit≤ tt) (g.identifier false (lit≤ tt) refl) (g.arguments false false (g.argument_and false (g.identifier false (lit≤ tt) refl) (g.last_argument (g.parenthesised false false (lit≤ tt) (g.comma false (lit≤ tt) (g.identifier false (lit≤ tt) refl) (g.identifier false (lit≤ tt) refl))))))) (λ e. cc) (λ e. cc) (e.written false))) (g.source_and (g.statement (g.expression (g.array false false (lit≤ tt) (g.element_and false (g.identifier false (lit≤ tt) refl) (g.last_element (g.parenthesised false false (lit≤ tt) (g.comma false (lit≤ tt) (g.identifier false (lit≤ tt) refl) (g.identifier false (lit≤ tt) refl)))))) (λ e. cc) (λ e. cc) (e.written false))) (g.source_and (g.statement (g.expression (g.parenthesised false false (lit≤ tt) (g.object false false (lit≤ tt) (g.property_and (name (codes "a") false) false false refl (g.identifier false (lit≤ tt) refl) (g.last_property (name (codes "c") false) false refl (g.parenthesised false false (lit≤ tt) (g.comma false (lit≤ tt) (g.identifier false (lit≤ tt) refl) (g.identifier false (lit≤ tt) refl))))))) (λ e. cc) (λ e. cc) (e.written false))) (g.source_and (g.statement (g.variables false (g.declarator_and false (g.initialised false false refl (g.parenthesised false false (lit≤ tt) (g.comma false (lit≤ tt) (g.identifier false (lit≤ tt) refl) (g.identifier false (lit≤ tt) refl)))) (g.last_declarator (g.initialised false false refl (g.parenthesised false false (lit≤ tt) (g.comma false (lit≤ tt) (g.identifier false (lit≤ tt) refl) (g.identifier false (lit≤ tt) refl)))))) (e.at_end refl))) g.no_source)))) (record { few = lit≤ tt; low = lit≤ tt; flat = lit≤ tt; closed = lit≤ tt }) refl

pub conditionals : Reads Source (codes "( a ? b : c ) ? d : e ; ( a = b ) ? c : d ; a ? ( b , c ) : ( d , e ) ; a ? ( b = c ) : ( d = e ) ; ( a || b ) ? c : d") (codes "(a?b:c)?d:e;(a=b)?c:d;a?(b,c):(d,e);a?b=c:d=e;a||b?c:d;\n")
unfolding unicode_ident utf16_chars digits
conditionals = reads_as Source (codes "( a ? b : c ) ? d : e ; ( a = b ) ? c : d ; a ? ( b , c ) : ( d , e ) ; a ? ( b = c ) : ( d = e ) ; ( a || b ) ? c : d") (Tree.MoreStmts (Tree.Do (Tree.Cond (Tree.Cond (Tree.Ident (codes "a")) (Tree.Ident (codes "b")) (Tree.Ident (codes "c"))) (Tree.Ident (codes "d")) (Tree.Ident (codes "e")))) (Tree.MoreStmts (Tree.Do (Tree.Cond (Tree.Assign None (Tree.Ident (codes "a")) (Tree.Ident (codes "b"))) (Tree.Ident (codes "c")) (Tree.Ident (codes "d")))) (Tree.MoreStmts (Tree.Do (Tree.Cond (Tree.Ident (codes "a")) (Tree.Comma (Tree.Ident (codes "b")) (Tree.Ident (codes "c"))) (Tree.Comma (Tree.Ident (codes "d")) (Tree.Ident (codes "e"))))) (Tree.MoreStmts (Tree.Do (Tree.Cond (Tree.Ident (codes "a")) (Tree.Assign None (Tree.Ident (codes "b")) (Tree.Ident (codes "c"))) (Tree.Assign None (Tree.Ident (codes "d")) (Tree.Ident (codes "e"))))) (Tree.MoreStmts (Tree.Do (Tree.Cond (Tree.Or (Tree.Ident (codes "a")) (Tree.Ident (codes "b"))) (Tree.Ident (codes "c")) (Tree.Ident (codes "d")))) Tree.NoStmts))))) (mark m.OpenParenthesis false ∷ name (codes "a") false ∷ mark m.Question false ∷ name (codes "b") false ∷ mark m.Colon false ∷ name (codes "c") false ∷ mark m.CloseParenthesis false ∷ mark m.Question false ∷ name (codes "d") false ∷ mark m.Colon false ∷ name (codes "e") false ∷ mark m.Semicolon false ∷ mark m.OpenParenthesis false ∷ name (codes "a") false ∷ mark m.Assign false ∷ name (codes "b") false ∷ mark m.CloseParenthesis false ∷ mark m.Question false ∷ name (codes "c") false ∷ mark m.Colon false ∷ name (codes "d") false ∷ mark m.Semicolon false ∷ name (codes "a") false ∷ mark m.Question false ∷ mark m.OpenParenthesis false ∷ name (codes "b") false ∷ mark m.Comma false ∷ name (codes "c") false ∷ mark m.CloseParenthesis false ∷ mark m.Colon false ∷ mark m.OpenParenthesis false ∷ name (codes "d") false ∷ mark m.Comma false ∷ name (codes "e") false ∷ mark m.CloseParenthesis false ∷ mark m.Semicolon false ∷ name (codes "a") false ∷ mark m.Question false ∷ mark m.OpenParenthesis false ∷ name (codes "b") false ∷ mark m.Assign false ∷ name (codes "c") false ∷ mark m.CloseParenthesis false ∷ mark m.Colon false ∷ mark m.OpenParenthesis false ∷ name (codes "d") false ∷ mark m.Assign false ∷ name (codes "e") false ∷ mark m.CloseParenthesis false ∷ mark m.Semicolon false ∷ mark m.OpenParenthesis false ∷ name (codes "a") false ∷ mark m.Or false ∷ name (codes "b") false ∷ mark m.CloseParenthesis false ∷ mark m.Question false ∷ name (codes "c") false ∷ mark m.Colon false ∷ name (codes "d") false ∷ []) refl (g.source_and (g.statement (g.expression (g.conditional false false (lit≤ tt) (g.parenthesised false false (lit≤ tt) (g.conditional false false (lit≤ tt) (g.identifier false (lit≤ tt) refl) (g.identifier false (lit≤ tt) refl) (g.identifier false (lit≤ tt) refl))) (g.identifier false (lit≤ tt) refl) (g.identifier false (lit≤ tt) refl)) (λ e. cc) (λ e. cc) (e.written false))) (g.source_and (g.statement (g.expression (g.conditional false false (lit≤ tt) (g.parenthesised false false (lit≤ tt) (g.assign None m.Assign false (lit≤ tt) refl (g.identifier false (lit≤ tt) refl) refl (g.identifier false (lit≤ tt) refl))) (g.identifier false (lit≤ tt) refl) (g.identifier false (lit≤ tt) refl)) (λ e. cc) (λ e. cc) (e.written false))) (g.source_and (g.statement (g.expression (g.conditional false false (lit≤ tt) (g.identifier false (lit≤ tt) refl) (g.parenthesised false false (lit≤ tt) (g.comma false (lit≤ tt) (g.identifier false (lit≤ tt) refl) (g.identifier false (lit≤ tt) refl))) (g.parenthesised false false (lit≤ tt) (g.comma false (lit≤ tt) (g.identifier false (lit≤ tt) refl) (g.identifier false (lit≤ tt) refl)))) (λ e. cc) (λ e. cc) (e.written false))) (g.source_and (g.statement (g.expression (g.conditional false false (lit≤ tt) (g.identifier false (lit≤ tt) refl) (g.parenthesised false false (lit≤ tt) (g.assign None m.Assign false (lit≤ tt) refl (g.identifier false (lit≤ tt) refl) refl (g.identifier false (lit≤ tt) refl))) (g.parenthesised false false (lit≤ tt) (g.assign None m.Assign false (lit≤ tt) refl (g.identifier false (lit≤ tt) refl) refl (g.identifier false (lit≤ tt) refl)))) (λ e. cc) (λ e. cc) (e.written false))) (g.source_and (g.statement (g.expression (g.conditional false false (lit≤ tt) (g.parenthesised false false (lit≤ tt) (g.binary LogicalOr false (lit≤ tt) refl (g.identifier false (lit≤ tt) refl) (g.identifier false (lit≤ tt) refl))) (g.identifier false (lit≤ tt) refl) (g.identifier false (lit≤ tt) refl)) (λ e. cc) (λ e. cc) (e.at_end refl))) g.no_source))))) (record { few = lit≤ tt; low = lit≤ tt; flat = lit≤ tt; closed = lit≤ tt }) refl

pub prefixes : Reads Source (codes "! ( a + b ) ; ! ( a ++ ) ; ( ! a ) + b ; - ( - a ) ; ! ( a = b ) ; ++ ( a . b )") (codes "!(a+b);!a++;!a+b;- -a;!(a=b);++a.b;\n")
unfolding unicode_ident utf16_chars digits
prefixes = reads_as Source (codes "! ( a + b ) ; ! ( a ++ ) ; ( ! a ) + b ; - ( - a ) ; ! ( a = b ) ; ++ ( a . b )") (Tree.MoreStmts (Tree.Do (Tree.Prefix p.Not (Tree.Binary b.Add (Tree.Ident (codes "a")) (Tree.Ident (codes "b"))))) (Tree.MoreStmts (Tree.Do (Tree.Prefix p.Not (Tree.Postfix (Tree.Ident (codes "a")) q.Increment))) (Tree.MoreStmts (Tree.Do (Tree.Binary b.Add (Tree.Prefix p.Not (Tree.Ident (codes "a"))) (Tree.Ident (codes "b")))) (Tree.MoreStmts (Tree.Do (Tree.Prefix p.Minus (Tree.Prefix p.Minus (Tree.Ident (codes "a"))))) (Tree.MoreStmts (Tree.Do (Tree.Prefix p.Not (Tree.Assign None (Tree.Ident (codes "a")) (Tree.Ident (codes "b"))))) (Tree.MoreStmts (Tree.Do (Tree.Prefix p.Increment (Tree.Dot (Tree.Ident (codes "a")) (codes "b")))) Tree.NoStmts)))))) (mark m.Not false ∷ mark m.OpenParenthesis false ∷ name (codes "a") false ∷ mark m.Plus false ∷ name (codes "b") false ∷ mark m.CloseParenthesis false ∷ mark m.Semicolon false ∷ mark m.Not false ∷ mark m.OpenParenthesis false ∷ name (codes "a") false ∷ mark m.PlusPlus false ∷ mark m.CloseParenthesis false ∷ mark m.Semicolon false ∷ mark m.OpenParenthesis false ∷ mark m.Not false ∷ name (codes "a") false ∷ mark m.CloseParenthesis false ∷ mark m.Plus false ∷ name (codes "b") false ∷ mark m.Semicolon false ∷ mark m.Minus false ∷ mark m.OpenParenthesis false ∷ mark m.Minus false ∷ name (codes "a") false ∷ mark m.CloseParenthesis false ∷ mark m.Semicolon false ∷ mark m.Not false ∷ mark m.OpenParenthesis false ∷ name (codes "a") false ∷ mark m.Assign false ∷ name (codes "b") false ∷ mark m.CloseParenthesis false ∷ mark m.Semicolon false ∷ mark m.PlusPlus false ∷ mark m.OpenParenthesis false ∷ name (codes "a") false ∷ mark m.Dot false ∷ name (codes "b") false ∷ mark m.CloseParenthesis false ∷ []) refl (g.source_and (g.statement (g.expression (g.prefix p.Not false (lit≤ tt) refl (g.parenthesised false false (lit≤ tt) (g.binary (Operation b.Add) false (lit≤ tt) refl (g.identifier false (lit≤ tt) refl) (g.identifier false (lit≤ tt) refl)))) (λ e. cc) (λ e. cc) (e.written false))) (g.source_and (g.statement (g.expression (g.prefix p.Not false (lit≤ tt) refl (g.parenthesised false false (lit≤ tt) (g.postfix q.Increment (lit≤ tt) (g.identifier false (lit≤ tt) refl) refl))) (λ e. cc) (λ e. cc) (e.written false))) (g.source_and (g.statement (g.expression (g.binary (Operation b.Add) false (lit≤ tt) refl (g.parenthesised false false (lit≤ tt) (g.prefix p.Not false (lit≤ tt) refl (g.identifier false (lit≤ tt) refl))) (g.identifier false (lit≤ tt) refl)) (λ e. cc) (λ e. cc) (e.written false))) (g.source_and (g.statement (g.expression (g.prefix p.Minus false (lit≤ tt) refl (g.parenthesised false false (lit≤ tt) (g.prefix p.Minus false (lit≤ tt) refl (g.identifier false (lit≤ tt) refl)))) (λ e. cc) (λ e. cc) (e.written false))) (g.source_and (g.statement (g.expression (g.prefix p.Not false (lit≤ tt) refl (g.parenthesised false false (lit≤ tt) (g.assign None m.Assign false (lit≤ tt) refl (g.identifier false (lit≤ tt) refl) refl (g.identifier false (lit≤ tt) refl)))) (λ e. cc) (λ e. cc) (e.written false))) (g.source_and (g.statement (g.expression (g.changed p.Increment false (lit≤ tt) refl (g.parenthesised false false (lit≤ tt) (g.dot 18 false false (lit≤ tt) (lit≤ tt) (lit≤ tt) (g.identifier false (lit≤ tt) refl) refl)) refl) (λ e. cc) (λ e. cc) (e.at_end refl))) g.no_source)))))) (record { few = lit≤ tt; low = lit≤ tt; flat = lit≤ tt; closed = lit≤ tt }) refl

pub members : Reads Source (codes "( ! a ) . b ; ( a ++ ) . b ; ( a + b ) [ c ] ; ( a , b ) ( c ) ; a [ ( b , c ) ] ; ( a = b ) . c") (codes "(!a).b;(a++).b;(a+b)[c];(a,b)(c);a[b,c];(a=b).c;\n")
unfolding unicode_ident utf16_chars digits
members = reads_as Source (codes "( ! a ) . b ; ( a ++ ) . b ; ( a + b ) [ c ] ; ( a , b ) ( c ) ; a [ ( b , c ) ] ; ( a = b ) . c") (Tree.MoreStmts (Tree.Do (Tree.Dot (Tree.Prefix p.Not (Tree.Ident (codes "a"))) (codes "b"))) (Tree.MoreStmts (Tree.Do (Tree.Dot (Tree.Postfix (Tree.Ident (codes "a")) q.Increment) (codes "b"))) (Tree.MoreStmts (Tree.Do (Tree.Index (Tree.Binary b.Add (Tree.Ident (codes "a")) (Tree.Ident (codes "b"))) (Tree.Ident (codes "c")))) (Tree.MoreStmts (Tree.Do (Tree.Call (Tree.Comma (Tree.Ident (codes "a")) (Tree.Ident (codes "b"))) (Tree.MoreExprs (Tree.Ident (codes "c")) Tree.NoExprs))) (Tree.MoreStmts (Tree.Do (Tree.Index (Tree.Ident (codes "a")) (Tree.Comma (Tree.Ident (codes "b")) (Tree.Ident (codes "c"))))) (Tree.MoreStmts (Tree.Do (Tree.Dot (Tree.Assign None (Tree.Ident (codes "a")) (Tree.Ident (codes "b"))) (codes "c"))) Tree.NoStmts)))))) (mark m.OpenParenthesis false ∷ mark m.Not false ∷ name (codes "a") false ∷ mark m.CloseParenthesis false ∷ mark m.Dot false ∷ name (codes "b") false ∷ mark m.Semicolon false ∷ mark m.OpenParenthesis false ∷ name (codes "a") false ∷ mark m.PlusPlus false ∷ mark m.CloseParenthesis false ∷ mark m.Dot false ∷ name (codes "b") false ∷ mark m.Semicolon false ∷ mark m.OpenParenthesis false ∷ name (codes "a") false ∷ mark m.Plus false ∷ name (codes "b") false ∷ mark m.CloseParenthesis false ∷ mark m.OpenBracket false ∷ name (codes "c") false ∷ mark m.CloseBracket false ∷ mark m.Semicolon false ∷ mark m.OpenParenthesis false ∷ name (codes "a") false ∷ mark m.Comma false ∷ name (codes "b") false ∷ mark m.CloseParenthesis false ∷ mark m.OpenParenthesis false ∷ name (codes "c") false ∷ mark m.CloseParenthesis false ∷ mark m.Semicolon false ∷ name (codes "a") false ∷ mark m.OpenBracket false ∷ mark m.OpenParenthesis false ∷ name (codes "b") false ∷ mark m.Comma false ∷ name (codes "c") false ∷ mark m.CloseParenthesis false ∷ mark m.CloseBracket false ∷ mark m.Semicolon false ∷ mark m.OpenParenthesis false ∷ name (codes "a") false ∷ mark m.Assign false ∷ name (codes "b") false ∷ mark m.CloseParenthesis false ∷ mark m.Dot false ∷ name (codes "c") false ∷ []) refl (g.source_and (g.statement (g.expression (g.dot 18 false false (lit≤ tt) (lit≤ tt) (lit≤ tt) (g.parenthesised false false (lit≤ tt) (g.prefix p.Not false (lit≤ tt) refl (g.identifier false (lit≤ tt) refl))) refl) (λ e. cc) (λ e. cc) (e.written false))) (g.source_and (g.statement (g.expression (g.dot 18 false false (lit≤ tt) (lit≤ tt) (lit≤ tt) (g.parenthesised false false (lit≤ tt) (g.postfix q.Increment (lit≤ tt) (g.identifier false (lit≤ tt) refl) refl)) refl) (λ e. cc) (λ e. cc) (e.written false))) (g.source_and (g.statement (g.expression (g.index 18 false false (lit≤ tt) (lit≤ tt) (lit≤ tt) (g.parenthesised false false (lit≤ tt) (g.binary (Operation b.Add) false (lit≤ tt) refl (g.identifier false (lit≤ tt) refl) (g.identifier false (lit≤ tt) refl))) (g.identifier false (lit≤ tt) refl)) (λ e. cc) (λ e. cc) (e.written false))) (g.source_and (g.statement (g.expression (g.call (lit≤ tt) (g.parenthesised false false (lit≤ tt) (g.comma false (lit≤ tt) (g.identifier false (lit≤ tt) refl) (g.identifier false (lit≤ tt) refl))) (g.arguments false false (g.last_argument (g.identifier false (lit≤ tt) refl)))) (λ e. cc) (λ e. cc) (e.written false))) (g.source_and (g.statement (g.expression (g.index 18 false false (lit≤ tt) (lit≤ tt) (lit≤ tt) (g.identifier false (lit≤ tt) refl) (g.parenthesised false false (lit≤ tt) (g.comma false (lit≤ tt) (g.identifier false (lit≤ tt) refl) (g.identifier false (lit≤ tt) refl)))) (λ e. cc) (λ e. cc) (e.written false))) (g.source_and (g.statement (g.expression (g.dot 18 false false (lit≤ tt) (lit≤ tt) (lit≤ tt) (g.parenthesised false false (lit≤ tt) (g.assign None m.Assign false (lit≤ tt) refl (g.identifier false (lit≤ tt) refl) refl (g.identifier false (lit≤ tt) refl))) refl) (λ e. cc) (λ e. cc) (e.at_end refl))) g.no_source)))))) (record { few = lit≤ tt; low = lit≤ tt; flat = lit≤ tt; closed = lit≤ tt }) refl

pub numbers : Reads Source (codes "( 1 ) . a ; 1 [ a ] ; 1 ( ) ; \"a\" . b ; ( 1 + 2 ) . a") (codes "(1).a;1[a];1();\"a\".b;(1+2).a;\n")
unfolding unicode_ident utf16_chars digits
numbers = reads_as Source (codes "( 1 ) . a ; 1 [ a ] ; 1 ( ) ; \"a\" . b ; ( 1 + 2 ) . a") (Tree.MoreStmts (Tree.Do (Tree.Dot (Tree.Num 1) (codes "a"))) (Tree.MoreStmts (Tree.Do (Tree.Index (Tree.Num 1) (Tree.Ident (codes "a")))) (Tree.MoreStmts (Tree.Do (Tree.Call (Tree.Num 1) Tree.NoExprs)) (Tree.MoreStmts (Tree.Do (Tree.Dot (Tree.Str (codes "a")) (codes "b"))) (Tree.MoreStmts (Tree.Do (Tree.Dot (Tree.Binary b.Add (Tree.Num 1) (Tree.Num 2)) (codes "a"))) Tree.NoStmts))))) (mark m.OpenParenthesis false ∷ number 1 false ∷ mark m.CloseParenthesis false ∷ mark m.Dot false ∷ name (codes "a") false ∷ mark m.Semicolon false ∷ number 1 false ∷ mark m.OpenBracket false ∷ name (codes "a") false ∷ mark m.CloseBracket false ∷ mark m.Semicolon false ∷ number 1 false ∷ mark m.OpenParenthesis false ∷ mark m.CloseParenthesis false ∷ mark m.Semicolon false ∷ string (codes "a") false ∷ mark m.Dot false ∷ name (codes "b") false ∷ mark m.Semicolon false ∷ mark m.OpenParenthesis false ∷ number 1 false ∷ mark m.Plus false ∷ number 2 false ∷ mark m.CloseParenthesis false ∷ mark m.Dot false ∷ name (codes "a") false ∷ []) refl (g.source_and (g.statement (g.expression (g.dot 18 false false (lit≤ tt) (lit≤ tt) (lit≤ tt) (g.parenthesised false false (lit≤ tt) (g.numeral true false (lit≤ tt))) refl) (λ e. cc) (λ e. cc) (e.written false))) (g.source_and (g.statement (g.expression (g.index 18 false false (lit≤ tt) (lit≤ tt) (lit≤ tt) (g.numeral true false (lit≤ tt)) (g.identifier false (lit≤ tt) refl)) (λ e. cc) (λ e. cc) (e.written false))) (g.source_and (g.statement (g.expression (g.call (lit≤ tt) (g.numeral true false (lit≤ tt)) (g.no_arguments false false)) (λ e. cc) (λ e. cc) (e.written false))) (g.source_and (g.statement (g.expression (g.dot 18 false false (lit≤ tt) (lit≤ tt) (lit≤ tt) (g.literal false (lit≤ tt)) refl) (λ e. cc) (λ e. cc) (e.written false))) (g.source_and (g.statement (g.expression (g.dot 18 false false (lit≤ tt) (lit≤ tt) (lit≤ tt) (g.parenthesised false false (lit≤ tt) (g.binary (Operation b.Add) false (lit≤ tt) refl (g.numeral true false (lit≤ tt)) (g.numeral true false (lit≤ tt)))) refl) (λ e. cc) (λ e. cc) (e.at_end refl))) g.no_source))))) (record { few = lit≤ tt; low = lit≤ tt; flat = lit≤ tt; closed = lit≤ tt }) refl

pub functions : Reads Source (codes "( function ( ) { } ) . a ; ( function ( ) { } ) [ a ] ; ( function ( ) { } ) ( a ) ; new ( function ( ) { } ) ( a )") (codes "(function(){}).a;(function(){})[a];(function(){})(a);new(function(){})(a);\n")
unfolding unicode_ident utf16_chars digits
functions = reads_as Source (codes "( function ( ) { } ) . a ; ( function ( ) { } ) [ a ] ; ( function ( ) { } ) ( a ) ; new ( function ( ) { } ) ( a )") (Tree.MoreStmts (Tree.Do (Tree.Dot (Tree.Function (code None [] Tree.NoStmts)) (codes "a"))) (Tree.MoreStmts (Tree.Do (Tree.Index (Tree.Function (code None [] Tree.NoStmts)) (Tree.Ident (codes "a")))) (Tree.MoreStmts (Tree.Do (Tree.Call (Tree.Function (code None [] Tree.NoStmts)) (Tree.MoreExprs (Tree.Ident (codes "a")) Tree.NoExprs))) (Tree.MoreStmts (Tree.Do (Tree.New (Tree.Function (code None [] Tree.NoStmts)) (Tree.MoreExprs (Tree.Ident (codes "a")) Tree.NoExprs))) Tree.NoStmts)))) (mark m.OpenParenthesis false ∷ word w.Function false ∷ mark m.OpenParenthesis false ∷ mark m.CloseParenthesis false ∷ mark m.OpenBrace false ∷ mark m.CloseBrace false ∷ mark m.CloseParenthesis false ∷ mark m.Dot false ∷ name (codes "a") false ∷ mark m.Semicolon false ∷ mark m.OpenParenthesis false ∷ word w.Function false ∷ mark m.OpenParenthesis false ∷ mark m.CloseParenthesis false ∷ mark m.OpenBrace false ∷ mark m.CloseBrace false ∷ mark m.CloseParenthesis false ∷ mark m.OpenBracket false ∷ name (codes "a") false ∷ mark m.CloseBracket false ∷ mark m.Semicolon false ∷ mark m.OpenParenthesis false ∷ word w.Function false ∷ mark m.OpenParenthesis false ∷ mark m.CloseParenthesis false ∷ mark m.OpenBrace false ∷ mark m.CloseBrace false ∷ mark m.CloseParenthesis false ∷ mark m.OpenParenthesis false ∷ name (codes "a") false ∷ mark m.CloseParenthesis false ∷ mark m.Semicolon false ∷ word w.New false ∷ mark m.OpenParenthesis false ∷ word w.Function false ∷ mark m.OpenParenthesis false ∷ mark m.CloseParenthesis false ∷ mark m.OpenBrace false ∷ mark m.CloseBrace false ∷ mark m.CloseParenthesis false ∷ mark m.OpenParenthesis false ∷ name (codes "a") false ∷ mark m.CloseParenthesis false ∷ []) refl (g.source_and (g.statement (g.expression (g.dot 18 false false (lit≤ tt) (lit≤ tt) (lit≤ tt) (g.parenthesised false false (lit≤ tt) (g.function false (lit≤ tt) (g.function_rest false false false false g.no_formal refl g.no_source))) refl) (λ e. cc) (λ e. cc) (e.written false))) (g.source_and (g.statement (g.expression (g.index 18 false false (lit≤ tt) (lit≤ tt) (lit≤ tt) (g.parenthesised false false (lit≤ tt) (g.function false (lit≤ tt) (g.function_rest false false false false g.no_formal refl g.no_source))) (g.identifier false (lit≤ tt) refl)) (λ e. cc) (λ e. cc) (e.written false))) (g.source_and (g.statement (g.expression (g.call (lit≤ tt) (g.parenthesised false false (lit≤ tt) (g.function false (lit≤ tt) (g.function_rest false false false false g.no_formal refl g.no_source))) (g.arguments false false (g.last_argument (g.identifier false (lit≤ tt) refl)))) (λ e. cc) (λ e. cc) (e.written false))) (g.source_and (g.statement (g.expression (g.new false (lit≤ tt) (g.parenthesised false false (lit≤ tt) (g.function false (lit≤ tt) (g.function_rest false false false false g.no_formal refl g.no_source))) (g.arguments false false (g.last_argument (g.identifier false (lit≤ tt) refl)))) (λ e. cc) (λ e. cc) (e.at_end refl))) g.no_source)))) (record { few = lit≤ tt; low = lit≤ tt; flat = lit≤ tt; closed = lit≤ tt }) refl

pub functions_elsewhere : Reads Source (codes "a ( function ( ) { } ) ; a = function ( ) { } ; [ function ( ) { } ] ; ! function ( ) { }") (codes "a(function(){});a=function(){};[function(){}];!function(){};\n")
unfolding unicode_ident utf16_chars digits
functions_elsewhere = reads_as Source (codes "a ( function ( ) { } ) ; a = function ( ) { } ; [ function ( ) { } ] ; ! function ( ) { }") (Tree.MoreStmts (Tree.Do (Tree.Call (Tree.Ident (codes "a")) (Tree.MoreExprs (Tree.Function (code None [] Tree.NoStmts)) Tree.NoExprs))) (Tree.MoreStmts (Tree.Do (Tree.Assign None (Tree.Ident (codes "a")) (Tree.Function (code None [] Tree.NoStmts)))) (Tree.MoreStmts (Tree.Do (Tree.Array (Tree.MoreElements (Tree.AnExpr (Tree.Function (code None [] Tree.NoStmts))) Tree.NoElements))) (Tree.MoreStmts (Tree.Do (Tree.Prefix p.Not (Tree.Function (code None [] Tree.NoStmts)))) Tree.NoStmts)))) (name (codes "a") false ∷ mark m.OpenParenthesis false ∷ word w.Function false ∷ mark m.OpenParenthesis false ∷ mark m.CloseParenthesis false ∷ mark m.OpenBrace false ∷ mark m.CloseBrace false ∷ mark m.CloseParenthesis false ∷ mark m.Semicolon false ∷ name (codes "a") false ∷ mark m.Assign false ∷ word w.Function false ∷ mark m.OpenParenthesis false ∷ mark m.CloseParenthesis false ∷ mark m.OpenBrace false ∷ mark m.CloseBrace false ∷ mark m.Semicolon false ∷ mark m.OpenBracket false ∷ word w.Function false ∷ mark m.OpenParenthesis false ∷ mark m.CloseParenthesis false ∷ mark m.OpenBrace false ∷ mark m.CloseBrace false ∷ mark m.CloseBracket false ∷ mark m.Semicolon false ∷ mark m.Not false ∷ word w.Function false ∷ mark m.OpenParenthesis false ∷ mark m.CloseParenthesis false ∷ mark m.OpenBrace false ∷ mark m.CloseBrace false ∷ []) refl (g.source_and (g.statement (g.expression (g.call (lit≤ tt) (g.identifier false (lit≤ tt) refl) (g.arguments false false (g.last_argument (g.function false (lit≤ tt) (g.function_rest false false false false g.no_formal refl g.no_source))))) (λ e. cc) (λ e. cc) (e.written false))) (g.source_and (g.statement (g.expression (g.assign None m.Assign false (lit≤ tt) refl (g.identifier false (lit≤ tt) refl) refl (g.function false (lit≤ tt) (g.function_rest false false false false g.no_formal refl g.no_source))) (λ e. cc) (λ e. cc) (e.written false))) (g.source_and (g.statement (g.expression (g.array false false (lit≤ tt) (g.last_element (g.function false (lit≤ tt) (g.function_rest false false false false g.no_formal refl g.no_source)))) (λ e. cc) (λ e. cc) (e.written false))) (g.source_and (g.statement (g.expression (g.prefix p.Not false (lit≤ tt) refl (g.function false (lit≤ tt) (g.function_rest false false false false g.no_formal refl g.no_source))) (λ e. cc) (λ e. cc) (e.at_end refl))) g.no_source)))) (record { few = lit≤ tt; low = lit≤ tt; flat = lit≤ tt; closed = lit≤ tt }) refl

pub callees : Reads Source (codes "new ( a ( ) ) ; new ( a ( ) . b ) ; new ( a ( ) [ b ] ) ; new ( a . b ( ) . c ) ( d ) ; new ( a [ b ( ) ] )") (codes "new(a())();new(a().b)();new(a()[b])();new(a.b().c)(d);new a[b()]();\n")
unfolding unicode_ident utf16_chars digits
callees = reads_as Source (codes "new ( a ( ) ) ; new ( a ( ) . b ) ; new ( a ( ) [ b ] ) ; new ( a . b ( ) . c ) ( d ) ; new ( a [ b ( ) ] )") (Tree.MoreStmts (Tree.Do (Tree.New (Tree.Call (Tree.Ident (codes "a")) Tree.NoExprs) Tree.NoExprs)) (Tree.MoreStmts (Tree.Do (Tree.New (Tree.Dot (Tree.Call (Tree.Ident (codes "a")) Tree.NoExprs) (codes "b")) Tree.NoExprs)) (Tree.MoreStmts (Tree.Do (Tree.New (Tree.Index (Tree.Call (Tree.Ident (codes "a")) Tree.NoExprs) (Tree.Ident (codes "b"))) Tree.NoExprs)) (Tree.MoreStmts (Tree.Do (Tree.New (Tree.Dot (Tree.Call (Tree.Dot (Tree.Ident (codes "a")) (codes "b")) Tree.NoExprs) (codes "c")) (Tree.MoreExprs (Tree.Ident (codes "d")) Tree.NoExprs))) (Tree.MoreStmts (Tree.Do (Tree.New (Tree.Index (Tree.Ident (codes "a")) (Tree.Call (Tree.Ident (codes "b")) Tree.NoExprs)) Tree.NoExprs)) Tree.NoStmts))))) (word w.New false ∷ mark m.OpenParenthesis false ∷ name (codes "a") false ∷ mark m.OpenParenthesis false ∷ mark m.CloseParenthesis false ∷ mark m.CloseParenthesis false ∷ mark m.Semicolon false ∷ word w.New false ∷ mark m.OpenParenthesis false ∷ name (codes "a") false ∷ mark m.OpenParenthesis false ∷ mark m.CloseParenthesis false ∷ mark m.Dot false ∷ name (codes "b") false ∷ mark m.CloseParenthesis false ∷ mark m.Semicolon false ∷ word w.New false ∷ mark m.OpenParenthesis false ∷ name (codes "a") false ∷ mark m.OpenParenthesis false ∷ mark m.CloseParenthesis false ∷ mark m.OpenBracket false ∷ name (codes "b") false ∷ mark m.CloseBracket false ∷ mark m.CloseParenthesis false ∷ mark m.Semicolon false ∷ word w.New false ∷ mark m.OpenParenthesis false ∷ name (codes "a") false ∷ mark m.Dot false ∷ name (codes "b") false ∷ mark m.OpenParenthesis false ∷ mark m.CloseParenthesis false ∷ mark m.Dot false ∷ name (codes "c") false ∷ mark m.CloseParenthesis false ∷ mark m.OpenParenthesis false ∷ name (codes "d") false ∷ mark m.CloseParenthesis false ∷ mark m.Semicolon false ∷ word w.New false ∷ mark m.OpenParenthesis false ∷ name (codes "a") false ∷ mark m.OpenBracket false ∷ name (codes "b") false ∷ mark m.OpenParenthesis false ∷ mark m.CloseParenthesis false ∷ mark m.CloseBracket false ∷ mark m.CloseParenthesis false ∷ []) refl (g.source_and (g.statement (g.expression (g.bare_new false (lit≤ tt) (g.member (g.parenthesised false false (lit≤ tt) (g.call (lit≤ tt) (g.identifier false (lit≤ tt) refl) (g.no_arguments false false))))) (λ e. cc) (λ e. cc) (e.written false))) (g.source_and (g.statement (g.expression (g.bare_new false (lit≤ tt) (g.member (g.parenthesised false false (lit≤ tt) (g.dot 17 false false (lit≤ tt) (lit≤ tt) (lit≤ tt) (g.call (lit≤ tt) (g.identifier false (lit≤ tt) refl) (g.no_arguments false false)) refl)))) (λ e. cc) (λ e. cc) (e.written false))) (g.source_and (g.statement (g.expression (g.bare_new false (lit≤ tt) (g.member (g.parenthesised false false (lit≤ tt) (g.index 17 false false (lit≤ tt) (lit≤ tt) (lit≤ tt) (g.call (lit≤ tt) (g.identifier false (lit≤ tt) refl) (g.no_arguments false false)) (g.identifier false (lit≤ tt) refl))))) (λ e. cc) (λ e. cc) (e.written false))) (g.source_and (g.statement (g.expression (g.new false (lit≤ tt) (g.parenthesised false false (lit≤ tt) (g.dot 17 false false (lit≤ tt) (lit≤ tt) (lit≤ tt) (g.call (lit≤ tt) (g.dot 18 false false (lit≤ tt) (lit≤ tt) (lit≤ tt) (g.identifier false (lit≤ tt) refl) refl) (g.no_arguments false false)) refl)) (g.arguments false false (g.last_argument (g.identifier false (lit≤ tt) refl)))) (λ e. cc) (λ e. cc) (e.written false))) (g.source_and (g.statement (g.expression (g.bare_new false (lit≤ tt) (g.member (g.parenthesised false false (lit≤ tt) (g.index 18 false false (lit≤ tt) (lit≤ tt) (lit≤ tt) (g.identifier false (lit≤ tt) refl) (g.call (lit≤ tt) (g.identifier false (lit≤ tt) refl) (g.no_arguments false false)))))) (λ e. cc) (λ e. cc) (e.at_end refl))) g.no_source))))) (record { few = lit≤ tt; low = lit≤ tt; flat = lit≤ tt; closed = lit≤ tt }) refl

pub new_callees : Reads Source (codes "new ( new a ) ; new ( new a ( b ) ) ( c ) ; ( new a ) . b ; ( new a ) ( b ) ; new ( ! a ) ; new ( ( a ( ) ) + b ) ; new ( 1 )") (codes "new new a()();new new a(b)(c);new a().b;new a()(b);new(!a)();new(a()+b)();new 1();\n")
unfolding unicode_ident utf16_chars digits
new_callees = reads_as Source (codes "new ( new a ) ; new ( new a ( b ) ) ( c ) ; ( new a ) . b ; ( new a ) ( b ) ; new ( ! a ) ; new ( ( a ( ) ) + b ) ; new ( 1 )") (Tree.MoreStmts (Tree.Do (Tree.New (Tree.New (Tree.Ident (codes "a")) Tree.NoExprs) Tree.NoExprs)) (Tree.MoreStmts (Tree.Do (Tree.New (Tree.New (Tree.Ident (codes "a")) (Tree.MoreExprs (Tree.Ident (codes "b")) Tree.NoExprs)) (Tree.MoreExprs (Tree.Ident (codes "c")) Tree.NoExprs))) (Tree.MoreStmts (Tree.Do (Tree.Dot (Tree.New (Tree.Ident (codes "a")) Tree.NoExprs) (codes "b"))) (Tree.MoreStmts (Tree.Do (Tree.Call (Tree.New (Tree.Ident (codes "a")) Tree.NoExprs) (Tree.MoreExprs (Tree.Ident (codes "b")) Tree.NoExprs))) (Tree.MoreStmts (Tree.Do (Tree.New (Tree.Prefix p.Not (Tree.Ident (codes "a"))) Tree.NoExprs)) (Tree.MoreStmts (Tree.Do (Tree.New (Tree.Binary b.Add (Tree.Call (Tree.Ident (codes "a")) Tree.NoExprs) (Tree.Ident (codes "b"))) Tree.NoExprs)) (Tree.MoreStmts (Tree.Do (Tree.New (Tree.Num 1) Tree.NoExprs)) Tree.NoStmts))))))) (word w.New false ∷ mark m.OpenParenthesis false ∷ word w.New false ∷ name (codes "a") false ∷ mark m.CloseParenthesis false ∷ mark m.Semicolon false ∷ word w.New false ∷ mark m.OpenParenthesis false ∷ word w.New false ∷ name (codes "a") false ∷ mark m.OpenParenthesis false ∷ name (codes "b") false ∷ mark m.CloseParenthesis false ∷ mark m.CloseParenthesis false ∷ mark m.OpenParenthesis false ∷ name (codes "c") false ∷ mark m.CloseParenthesis false ∷ mark m.Semicolon false ∷ mark m.OpenParenthesis false ∷ word w.New false ∷ name (codes "a") false ∷ mark m.CloseParenthesis false ∷ mark m.Dot false ∷ name (codes "b") false ∷ mark m.Semicolon false ∷ mark m.OpenParenthesis false ∷ word w.New false ∷ name (codes "a") false ∷ mark m.CloseParenthesis false ∷ mark m.OpenParenthesis false ∷ name (codes "b") false ∷ mark m.CloseParenthesis false ∷ mark m.Semicolon false ∷ word w.New false ∷ mark m.OpenParenthesis false ∷ mark m.Not false ∷ name (codes "a") false ∷ mark m.CloseParenthesis false ∷ mark m.Semicolon false ∷ word w.New false ∷ mark m.OpenParenthesis false ∷ mark m.OpenParenthesis false ∷ name (codes "a") false ∷ mark m.OpenParenthesis false ∷ mark m.CloseParenthesis false ∷ mark m.CloseParenthesis false ∷ mark m.Plus false ∷ name (codes "b") false ∷ mark m.CloseParenthesis false ∷ mark m.Semicolon false ∷ word w.New false ∷ mark m.OpenParenthesis false ∷ number 1 false ∷ mark m.CloseParenthesis false ∷ []) refl (g.source_and (g.statement (g.expression (g.bare_new false (lit≤ tt) (g.member (g.parenthesised false false (lit≤ tt) (g.bare_new false (lit≤ tt) (g.member (g.identifier false (lit≤ tt) refl)))))) (λ e. cc) (λ e. cc) (e.written false))) (g.source_and (g.statement (g.expression (g.new false (lit≤ tt) (g.parenthesised false false (lit≤ tt) (g.new false (lit≤ tt) (g.identifier false (lit≤ tt) refl) (g.arguments false false (g.last_argument (g.identifier false (lit≤ tt) refl))))) (g.arguments false false (g.last_argument (g.identifier false (lit≤ tt) refl)))) (λ e. cc) (λ e. cc) (e.written false))) (g.source_and (g.statement (g.expression (g.dot 18 false false (lit≤ tt) (lit≤ tt) (lit≤ tt) (g.parenthesised false false (lit≤ tt) (g.bare_new false (lit≤ tt) (g.member (g.identifier false (lit≤ tt) refl)))) refl) (λ e. cc) (λ e. cc) (e.written false))) (g.source_and (g.statement (g.expression (g.call (lit≤ tt) (g.parenthesised false false (lit≤ tt) (g.bare_new false (lit≤ tt) (g.member (g.identifier false (lit≤ tt) refl)))) (g.arguments false false (g.last_argument (g.identifier false (lit≤ tt) refl)))) (λ e. cc) (λ e. cc) (e.written false))) (g.source_and (g.statement (g.expression (g.bare_new false (lit≤ tt) (g.member (g.parenthesised false false (lit≤ tt) (g.prefix p.Not false (lit≤ tt) refl (g.identifier false (lit≤ tt) refl))))) (λ e. cc) (λ e. cc) (e.written false))) (g.source_and (g.statement (g.expression (g.bare_new false (lit≤ tt) (g.member (g.parenthesised false false (lit≤ tt) (g.binary (Operation b.Add) false (lit≤ tt) refl (g.parenthesised false false (lit≤ tt) (g.call (lit≤ tt) (g.identifier false (lit≤ tt) refl) (g.no_arguments false false))) (g.identifier false (lit≤ tt) refl))))) (λ e. cc) (λ e. cc) (e.written false))) (g.source_and (g.statement (g.expression (g.bare_new false (lit≤ tt) (g.member (g.parenthesised false false (lit≤ tt) (g.numeral true false (lit≤ tt))))) (λ e. cc) (λ e. cc) (e.at_end refl))) g.no_source))))))) (record { few = lit≤ tt; low = lit≤ tt; flat = lit≤ tt; closed = lit≤ tt }) refl

pub objects_and_arrays : Reads Source (codes "[ ] . a ; ( { } . a ) ; [ ] ( ) ; a . b . c") (codes "[].a;({}.a);[]();a.b.c;\n")
unfolding unicode_ident utf16_chars digits
objects_and_arrays = reads_as Source (codes "[ ] . a ; ( { } . a ) ; [ ] ( ) ; a . b . c") (Tree.MoreStmts (Tree.Do (Tree.Dot (Tree.Array Tree.NoElements) (codes "a"))) (Tree.MoreStmts (Tree.Do (Tree.Dot (Tree.Object Tree.NoPairs) (codes "a"))) (Tree.MoreStmts (Tree.Do (Tree.Call (Tree.Array Tree.NoElements) Tree.NoExprs)) (Tree.MoreStmts (Tree.Do (Tree.Dot (Tree.Dot (Tree.Ident (codes "a")) (codes "b")) (codes "c"))) Tree.NoStmts)))) (mark m.OpenBracket false ∷ mark m.CloseBracket false ∷ mark m.Dot false ∷ name (codes "a") false ∷ mark m.Semicolon false ∷ mark m.OpenParenthesis false ∷ mark m.OpenBrace false ∷ mark m.CloseBrace false ∷ mark m.Dot false ∷ name (codes "a") false ∷ mark m.CloseParenthesis false ∷ mark m.Semicolon false ∷ mark m.OpenBracket false ∷ mark m.CloseBracket false ∷ mark m.OpenParenthesis false ∷ mark m.CloseParenthesis false ∷ mark m.Semicolon false ∷ name (codes "a") false ∷ mark m.Dot false ∷ name (codes "b") false ∷ mark m.Dot false ∷ name (codes "c") false ∷ []) refl (g.source_and (g.statement (g.expression (g.dot 18 false false (lit≤ tt) (lit≤ tt) (lit≤ tt) (g.array false false (lit≤ tt) g.no_element) refl) (λ e. cc) (λ e. cc) (e.written false))) (g.source_and (g.statement (g.expression (g.parenthesised false false (lit≤ tt) (g.dot 18 false false (lit≤ tt) (lit≤ tt) (lit≤ tt) (g.object false false (lit≤ tt) g.no_property) refl)) (λ e. cc) (λ e. cc) (e.written false))) (g.source_and (g.statement (g.expression (g.call (lit≤ tt) (g.array false false (lit≤ tt) g.no_element) (g.no_arguments false false)) (λ e. cc) (λ e. cc) (e.written false))) (g.source_and (g.statement (g.expression (g.dot 18 false false (lit≤ tt) (lit≤ tt) (lit≤ tt) (g.dot 18 false false (lit≤ tt) (lit≤ tt) (lit≤ tt) (g.identifier false (lit≤ tt) refl) refl) refl) (λ e. cc) (λ e. cc) (e.at_end refl))) g.no_source)))) (record { few = lit≤ tt; low = lit≤ tt; flat = lit≤ tt; closed = lit≤ tt }) refl

pub headers : Reads Source (codes "for ( ( 1 in x ) ; ; ) ; for ( var a = ( 1 in x ) , b = ( 2 in y ) ; ; ) ; for ( ( a , b ) ; ; ) ;") (codes "for((1 in x);;);for(var a=(1 in x),b=(2 in y);;);for(a,b;;);\n")
unfolding unicode_ident utf16_chars digits
headers = reads_as Source (codes "for ( ( 1 in x ) ; ; ) ; for ( var a = ( 1 in x ) , b = ( 2 in y ) ; ; ) ; for ( ( a , b ) ; ; ) ;") (Tree.MoreStmts (Tree.For (Tree.First (Tree.Binary b.In (Tree.Num 1) (Tree.Ident (codes "x")))) Tree.NoExpr Tree.NoExpr Tree.Empty) (Tree.MoreStmts (Tree.For (Tree.Vars (Tree.MoreVarItems (codes "a") (Tree.AnExpr (Tree.Binary b.In (Tree.Num 1) (Tree.Ident (codes "x")))) (Tree.MoreVarItems (codes "b") (Tree.AnExpr (Tree.Binary b.In (Tree.Num 2) (Tree.Ident (codes "y")))) Tree.NoVarItems))) Tree.NoExpr Tree.NoExpr Tree.Empty) (Tree.MoreStmts (Tree.For (Tree.First (Tree.Comma (Tree.Ident (codes "a")) (Tree.Ident (codes "b")))) Tree.NoExpr Tree.NoExpr Tree.Empty) Tree.NoStmts))) (word w.For false ∷ mark m.OpenParenthesis false ∷ mark m.OpenParenthesis false ∷ number 1 false ∷ word w.In false ∷ name (codes "x") false ∷ mark m.CloseParenthesis false ∷ mark m.Semicolon false ∷ mark m.Semicolon false ∷ mark m.CloseParenthesis false ∷ mark m.Semicolon false ∷ word w.For false ∷ mark m.OpenParenthesis false ∷ word w.Var false ∷ name (codes "a") false ∷ mark m.Assign false ∷ mark m.OpenParenthesis false ∷ number 1 false ∷ word w.In false ∷ name (codes "x") false ∷ mark m.CloseParenthesis false ∷ mark m.Comma false ∷ name (codes "b") false ∷ mark m.Assign false ∷ mark m.OpenParenthesis false ∷ number 2 false ∷ word w.In false ∷ name (codes "y") false ∷ mark m.CloseParenthesis false ∷ mark m.Semicolon false ∷ mark m.Semicolon false ∷ mark m.CloseParenthesis false ∷ mark m.Semicolon false ∷ word w.For false ∷ mark m.OpenParenthesis false ∷ mark m.OpenParenthesis false ∷ name (codes "a") false ∷ mark m.Comma false ∷ name (codes "b") false ∷ mark m.CloseParenthesis false ∷ mark m.Semicolon false ∷ mark m.Semicolon false ∷ mark m.CloseParenthesis false ∷ mark m.Semicolon false ∷ []) refl (g.source_and (g.statement (g.for false false false false false (g.expression_first (g.parenthesised false false (lit≤ tt) (g.binary (Operation b.In) false (lit≤ tt) refl (g.numeral true false (lit≤ tt)) (g.identifier false (lit≤ tt) refl)))) g.absent g.absent (g.empty false))) (g.source_and (g.statement (g.for false false false false false (g.variables_first false (g.declarator_and false (g.initialised false false refl (g.parenthesised false false (lit≤ tt) (g.binary (Operation b.In) false (lit≤ tt) refl (g.numeral true false (lit≤ tt)) (g.identifier false (lit≤ tt) refl)))) (g.last_declarator (g.initialised false false refl (g.parenthesised false false (lit≤ tt) (g.binary (Operation b.In) false (lit≤ tt) refl (g.numeral true false (lit≤ tt)) (g.identifier false (lit≤ tt) refl))))))) g.absent g.absent (g.empty false))) (g.source_and (g.statement (g.for false false false false false (g.expression_first (g.parenthesised false false (lit≤ tt) (g.comma false (lit≤ tt) (g.identifier false (lit≤ tt) refl) (g.identifier false (lit≤ tt) refl)))) g.absent g.absent (g.empty false))) g.no_source))) (record { few = lit≤ tt; low = lit≤ tt; flat = lit≤ tt; closed = lit≤ tt }) refl

pub header_brackets : Reads Source (codes "for ( [ 1 in x ] ; ; ) ; for ( a [ 1 in x ] ; ; ) ; for ( a ( 1 in x ) ; ; ) ; for ( ( { a : 1 in x } ) ; ; ) ;") (codes "for([1 in x];;);for(a[1 in x];;);for(a(1 in x);;);for({a:1 in x};;);\n")
unfolding unicode_ident utf16_chars digits
header_brackets = reads_as Source (codes "for ( [ 1 in x ] ; ; ) ; for ( a [ 1 in x ] ; ; ) ; for ( a ( 1 in x ) ; ; ) ; for ( ( { a : 1 in x } ) ; ; ) ;") (Tree.MoreStmts (Tree.For (Tree.First (Tree.Array (Tree.MoreElements (Tree.AnExpr (Tree.Binary b.In (Tree.Num 1) (Tree.Ident (codes "x")))) Tree.NoElements))) Tree.NoExpr Tree.NoExpr Tree.Empty) (Tree.MoreStmts (Tree.For (Tree.First (Tree.Index (Tree.Ident (codes "a")) (Tree.Binary b.In (Tree.Num 1) (Tree.Ident (codes "x"))))) Tree.NoExpr Tree.NoExpr Tree.Empty) (Tree.MoreStmts (Tree.For (Tree.First (Tree.Call (Tree.Ident (codes "a")) (Tree.MoreExprs (Tree.Binary b.In (Tree.Num 1) (Tree.Ident (codes "x"))) Tree.NoExprs))) Tree.NoExpr Tree.NoExpr Tree.Empty) (Tree.MoreStmts (Tree.For (Tree.First (Tree.Object (Tree.MorePairs (codes "a") (Tree.Binary b.In (Tree.Num 1) (Tree.Ident (codes "x"))) Tree.NoPairs))) Tree.NoExpr Tree.NoExpr Tree.Empty) Tree.NoStmts)))) (word w.For false ∷ mark m.OpenParenthesis false ∷ mark m.OpenBracket false ∷ number 1 false ∷ word w.In false ∷ name (codes "x") false ∷ mark m.CloseBracket false ∷ mark m.Semicolon false ∷ mark m.Semicolon false ∷ mark m.CloseParenthesis false ∷ mark m.Semicolon false ∷ word w.For false ∷ mark m.OpenParenthesis false ∷ name (codes "a") false ∷ mark m.OpenBracket false ∷ number 1 false ∷ word w.In false ∷ name (codes "x") false ∷ mark m.CloseBracket false ∷ mark m.Semicolon false ∷ mark m.Semicolon false ∷ mark m.CloseParenthesis false ∷ mark m.Semicolon false ∷ word w.For false ∷ mark m.OpenParenthesis false ∷ name (codes "a") false ∷ mark m.OpenParenthesis false ∷ number 1 false ∷ word w.In false ∷ name (codes "x") false ∷ mark m.CloseParenthesis false ∷ mark m.Semicolon false ∷ mark m.Semicolon false ∷ mark m.CloseParenthesis false ∷ mark m.Semicolon false ∷ word w.For false ∷ mark m.OpenParenthesis false ∷ mark m.OpenParenthesis false ∷ mark m.OpenBrace false ∷ name (codes "a") false ∷ mark m.Colon false ∷ number 1 false ∷ word w.In false ∷ name (codes "x") false ∷ mark m.CloseBrace false ∷ mark m.CloseParenthesis false ∷ mark m.Semicolon false ∷ mark m.Semicolon false ∷ mark m.CloseParenthesis false ∷ mark m.Semicolon false ∷ []) refl (g.source_and (g.statement (g.for false false false false false (g.expression_first (g.array false false (lit≤ tt) (g.last_element (g.binary (Operation b.In) false (lit≤ tt) refl (g.numeral true false (lit≤ tt)) (g.identifier false (lit≤ tt) refl))))) g.absent g.absent (g.empty false))) (g.source_and (g.statement (g.for false false false false false (g.expression_first (g.index 18 false false (lit≤ tt) (lit≤ tt) (lit≤ tt) (g.identifier false (lit≤ tt) refl) (g.binary (Operation b.In) false (lit≤ tt) refl (g.numeral true false (lit≤ tt)) (g.identifier false (lit≤ tt) refl)))) g.absent g.absent (g.empty false))) (g.source_and (g.statement (g.for false false false false false (g.expression_first (g.call (lit≤ tt) (g.identifier false (lit≤ tt) refl) (g.arguments false false (g.last_argument (g.binary (Operation b.In) false (lit≤ tt) refl (g.numeral true false (lit≤ tt)) (g.identifier false (lit≤ tt) refl)))))) g.absent g.absent (g.empty false))) (g.source_and (g.statement (g.for false false false false false (g.expression_first (g.parenthesised false false (lit≤ tt) (g.object false false (lit≤ tt) (g.last_property (name (codes "a") false) false refl (g.binary (Operation b.In) false (lit≤ tt) refl (g.numeral true false (lit≤ tt)) (g.identifier false (lit≤ tt) refl)))))) g.absent g.absent (g.empty false))) g.no_source)))) (record { few = lit≤ tt; low = lit≤ tt; flat = lit≤ tt; closed = lit≤ tt }) refl

pub header_parentheses : Reads Source (codes "for ( ( ( 1 in x ) , 2 ) * 3 ; ; ) ; for ( a ? 1 in x : ( 2 in y ) ; ; ) ; for ( var a = ( 1 in x ) in b ) ;") (codes "for((1 in x,2)*3;;);for(a?(1 in x):(2 in y);;);for(var a=(1 in x)in b);\n")
unfolding unicode_ident utf16_chars digits
header_parentheses = reads_as Source (codes "for ( ( ( 1 in x ) , 2 ) * 3 ; ; ) ; for ( a ? 1 in x : ( 2 in y ) ; ; ) ; for ( var a = ( 1 in x ) in b ) ;") (Tree.MoreStmts (Tree.For (Tree.First (Tree.Binary b.Multiply (Tree.Comma (Tree.Binary b.In (Tree.Num 1) (Tree.Ident (codes "x"))) (Tree.Num 2)) (Tree.Num 3))) Tree.NoExpr Tree.NoExpr Tree.Empty) (Tree.MoreStmts (Tree.For (Tree.First (Tree.Cond (Tree.Ident (codes "a")) (Tree.Binary b.In (Tree.Num 1) (Tree.Ident (codes "x"))) (Tree.Binary b.In (Tree.Num 2) (Tree.Ident (codes "y"))))) Tree.NoExpr Tree.NoExpr Tree.Empty) (Tree.MoreStmts (Tree.ForIn (Tree.AVar (codes "a") (Tree.AnExpr (Tree.Binary b.In (Tree.Num 1) (Tree.Ident (codes "x"))))) (Tree.Ident (codes "b")) Tree.Empty) Tree.NoStmts))) (word w.For false ∷ mark m.OpenParenthesis false ∷ mark m.OpenParenthesis false ∷ mark m.OpenParenthesis false ∷ number 1 false ∷ word w.In false ∷ name (codes "x") false ∷ mark m.CloseParenthesis false ∷ mark m.Comma false ∷ number 2 false ∷ mark m.CloseParenthesis false ∷ mark m.Times false ∷ number 3 false ∷ mark m.Semicolon false ∷ mark m.Semicolon false ∷ mark m.CloseParenthesis false ∷ mark m.Semicolon false ∷ word w.For false ∷ mark m.OpenParenthesis false ∷ name (codes "a") false ∷ mark m.Question false ∷ number 1 false ∷ word w.In false ∷ name (codes "x") false ∷ mark m.Colon false ∷ mark m.OpenParenthesis false ∷ number 2 false ∷ word w.In false ∷ name (codes "y") false ∷ mark m.CloseParenthesis false ∷ mark m.Semicolon false ∷ mark m.Semicolon false ∷ mark m.CloseParenthesis false ∷ mark m.Semicolon false ∷ word w.For false ∷ mark m.OpenParenthesis false ∷ word w.Var false ∷ name (codes "a") false ∷ mark m.Assign false ∷ mark m.OpenParenthesis false ∷ number 1 false ∷ word w.In false ∷ name (codes "x") false ∷ mark m.CloseParenthesis false ∷ word w.In false ∷ name (codes "b") false ∷ mark m.CloseParenthesis false ∷ mark m.Semicolon false ∷ []) refl (g.source_and (g.statement (g.for false false false false false (g.expression_first (g.binary (Operation b.Multiply) false (lit≤ tt) refl (g.parenthesised false false (lit≤ tt) (g.comma false (lit≤ tt) (g.parenthesised false false (lit≤ tt) (g.binary (Operation b.In) false (lit≤ tt) refl (g.numeral true false (lit≤ tt)) (g.identifier false (lit≤ tt) refl))) (g.numeral true false (lit≤ tt)))) (g.numeral true false (lit≤ tt)))) g.absent g.absent (g.empty false))) (g.source_and (g.statement (g.for false false false false false (g.expression_first (g.conditional false false (lit≤ tt) (g.identifier false (lit≤ tt) refl) (g.binary (Operation b.In) false (lit≤ tt) refl (g.numeral true false (lit≤ tt)) (g.identifier false (lit≤ tt) refl)) (g.parenthesised false false (lit≤ tt) (g.binary (Operation b.In) false (lit≤ tt) refl (g.numeral true false (lit≤ tt)) (g.identifier false (lit≤ tt) refl))))) g.absent g.absent (g.empty false))) (g.source_and (g.statement (g.for_var_in false false false false false (g.initialised false false refl (g.parenthesised false false (lit≤ tt) (g.binary (Operation b.In) false (lit≤ tt) refl (g.numeral true false (lit≤ tt)) (g.identifier false (lit≤ tt) refl)))) (g.identifier false (lit≤ tt) refl) (g.empty false))) g.no_source))) (record { few = lit≤ tt; low = lit≤ tt; flat = lit≤ tt; closed = lit≤ tt }) refl

pub header_operands : Reads Source (codes "for ( ( 1 in x ) + 2 ; ; ) ; for ( ! ( 1 in x ) ; ; ) ; for ( a = ( 1 in x ) ; ; ) ; for ( ( 1 in x ) ? a : b ; ; ) ;") (codes "for((1 in x)+2;;);for(!(1 in x);;);for(a=(1 in x);;);for((1 in x)?a:b;;);\n")
unfolding unicode_ident utf16_chars digits
header_operands = reads_as Source (codes "for ( ( 1 in x ) + 2 ; ; ) ; for ( ! ( 1 in x ) ; ; ) ; for ( a = ( 1 in x ) ; ; ) ; for ( ( 1 in x ) ? a : b ; ; ) ;") (Tree.MoreStmts (Tree.For (Tree.First (Tree.Binary b.Add (Tree.Binary b.In (Tree.Num 1) (Tree.Ident (codes "x"))) (Tree.Num 2))) Tree.NoExpr Tree.NoExpr Tree.Empty) (Tree.MoreStmts (Tree.For (Tree.First (Tree.Prefix p.Not (Tree.Binary b.In (Tree.Num 1) (Tree.Ident (codes "x"))))) Tree.NoExpr Tree.NoExpr Tree.Empty) (Tree.MoreStmts (Tree.For (Tree.First (Tree.Assign None (Tree.Ident (codes "a")) (Tree.Binary b.In (Tree.Num 1) (Tree.Ident (codes "x"))))) Tree.NoExpr Tree.NoExpr Tree.Empty) (Tree.MoreStmts (Tree.For (Tree.First (Tree.Cond (Tree.Binary b.In (Tree.Num 1) (Tree.Ident (codes "x"))) (Tree.Ident (codes "a")) (Tree.Ident (codes "b")))) Tree.NoExpr Tree.NoExpr Tree.Empty) Tree.NoStmts)))) (word w.For false ∷ mark m.OpenParenthesis false ∷ mark m.OpenParenthesis false ∷ number 1 false ∷ word w.In false ∷ name (codes "x") false ∷ mark m.CloseParenthesis false ∷ mark m.Plus false ∷ number 2 false ∷ mark m.Semicolon false ∷ mark m.Semicolon false ∷ mark m.CloseParenthesis false ∷ mark m.Semicolon false ∷ word w.For false ∷ mark m.OpenParenthesis false ∷ mark m.Not false ∷ mark m.OpenParenthesis false ∷ number 1 false ∷ word w.In false ∷ name (codes "x") false ∷ mark m.CloseParenthesis false ∷ mark m.Semicolon false ∷ mark m.Semicolon false ∷ mark m.CloseParenthesis false ∷ mark m.Semicolon false ∷ word w.For false ∷ mark m.OpenParenthesis false ∷ name (codes "a") false ∷ mark m.Assign false ∷ mark m.OpenParenthesis false ∷ number 1 false ∷ word w.In false ∷ name (codes "x") false ∷ mark m.CloseParenthesis false ∷ mark m.Semicolon false ∷ mark m.Semicolon false ∷ mark m.CloseParenthesis false ∷ mark m.Semicolon false ∷ word w.For false ∷ mark m.OpenParenthesis false ∷ mark m.OpenParenthesis false ∷ number 1 false ∷ word w.In false ∷ name (codes "x") false ∷ mark m.CloseParenthesis false ∷ mark m.Question false ∷ name (codes "a") false ∷ mark m.Colon false ∷ name (codes "b") false ∷ mark m.Semicolon false ∷ mark m.Semicolon false ∷ mark m.CloseParenthesis false ∷ mark m.Semicolon false ∷ []) refl (g.source_and (g.statement (g.for false false false false false (g.expression_first (g.binary (Operation b.Add) false (lit≤ tt) refl (g.parenthesised false false (lit≤ tt) (g.binary (Operation b.In) false (lit≤ tt) refl (g.numeral true false (lit≤ tt)) (g.identifier false (lit≤ tt) refl))) (g.numeral true false (lit≤ tt)))) g.absent g.absent (g.empty false))) (g.source_and (g.statement (g.for false false false false false (g.expression_first (g.prefix p.Not false (lit≤ tt) refl (g.parenthesised false false (lit≤ tt) (g.binary (Operation b.In) false (lit≤ tt) refl (g.numeral true false (lit≤ tt)) (g.identifier false (lit≤ tt) refl))))) g.absent g.absent (g.empty false))) (g.source_and (g.statement (g.for false false false false false (g.expression_first (g.assign None m.Assign false (lit≤ tt) refl (g.identifier false (lit≤ tt) refl) refl (g.parenthesised false false (lit≤ tt) (g.binary (Operation b.In) false (lit≤ tt) refl (g.numeral true false (lit≤ tt)) (g.identifier false (lit≤ tt) refl))))) g.absent g.absent (g.empty false))) (g.source_and (g.statement (g.for false false false false false (g.expression_first (g.conditional false false (lit≤ tt) (g.parenthesised false false (lit≤ tt) (g.binary (Operation b.In) false (lit≤ tt) refl (g.numeral true false (lit≤ tt)) (g.identifier false (lit≤ tt) refl))) (g.identifier false (lit≤ tt) refl) (g.identifier false (lit≤ tt) refl))) g.absent g.absent (g.empty false))) g.no_source)))) (record { few = lit≤ tt; low = lit≤ tt; flat = lit≤ tt; closed = lit≤ tt }) refl

pub header_function : Reads Source (codes "for ( a = function ( ) { 1 in x ; for ( ( 2 in y ) ; ; ) ; } ; ; ) ;") (codes "for(a=function(){1 in x;for((2 in y);;);};;);\n")
unfolding unicode_ident utf16_chars digits
header_function = reads_as Source (codes "for ( a = function ( ) { 1 in x ; for ( ( 2 in y ) ; ; ) ; } ; ; ) ;") (Tree.MoreStmts (Tree.For (Tree.First (Tree.Assign None (Tree.Ident (codes "a")) (Tree.Function (code None [] (Tree.MoreStmts (Tree.Do (Tree.Binary b.In (Tree.Num 1) (Tree.Ident (codes "x")))) (Tree.MoreStmts (Tree.For (Tree.First (Tree.Binary b.In (Tree.Num 2) (Tree.Ident (codes "y")))) Tree.NoExpr Tree.NoExpr Tree.Empty) Tree.NoStmts)))))) Tree.NoExpr Tree.NoExpr Tree.Empty) Tree.NoStmts) (word w.For false ∷ mark m.OpenParenthesis false ∷ name (codes "a") false ∷ mark m.Assign false ∷ word w.Function false ∷ mark m.OpenParenthesis false ∷ mark m.CloseParenthesis false ∷ mark m.OpenBrace false ∷ number 1 false ∷ word w.In false ∷ name (codes "x") false ∷ mark m.Semicolon false ∷ word w.For false ∷ mark m.OpenParenthesis false ∷ mark m.OpenParenthesis false ∷ number 2 false ∷ word w.In false ∷ name (codes "y") false ∷ mark m.CloseParenthesis false ∷ mark m.Semicolon false ∷ mark m.Semicolon false ∷ mark m.CloseParenthesis false ∷ mark m.Semicolon false ∷ mark m.CloseBrace false ∷ mark m.Semicolon false ∷ mark m.Semicolon false ∷ mark m.CloseParenthesis false ∷ mark m.Semicolon false ∷ []) refl (g.source_and (g.statement (g.for false false false false false (g.expression_first (g.assign None m.Assign false (lit≤ tt) refl (g.identifier false (lit≤ tt) refl) refl (g.function false (lit≤ tt) (g.function_rest false false false false g.no_formal refl (g.source_and (g.statement (g.expression (g.binary (Operation b.In) false (lit≤ tt) refl (g.numeral true false (lit≤ tt)) (g.identifier false (lit≤ tt) refl)) (λ e. cc) (λ e. cc) (e.written false))) (g.source_and (g.statement (g.for false false false false false (g.expression_first (g.parenthesised false false (lit≤ tt) (g.binary (Operation b.In) false (lit≤ tt) refl (g.numeral true false (lit≤ tt)) (g.identifier false (lit≤ tt) refl)))) g.absent g.absent (g.empty false))) g.no_source)))))) g.absent g.absent (g.empty false))) g.no_source) (record { few = lit≤ tt; low = lit≤ tt; flat = lit≤ tt; closed = lit≤ tt }) refl

pub parts : Reads Source (codes "if ( ( a , b ) ) ; throw ( a , b ) ; switch ( ( a , b ) ) { case ( c , d ) : } while ( ( a = b ) ) ;") (codes "if(a,b);throw a,b;switch(a,b){case c,d:}while(a=b);\n")
unfolding unicode_ident utf16_chars digits
parts = reads_as Source (codes "if ( ( a , b ) ) ; throw ( a , b ) ; switch ( ( a , b ) ) { case ( c , d ) : } while ( ( a = b ) ) ;") (Tree.MoreStmts (Tree.If (Tree.Comma (Tree.Ident (codes "a")) (Tree.Ident (codes "b"))) Tree.Empty Tree.NoStmt) (Tree.MoreStmts (Tree.Throw (Tree.Comma (Tree.Ident (codes "a")) (Tree.Ident (codes "b")))) (Tree.MoreStmts (Tree.Switch (Tree.Comma (Tree.Ident (codes "a")) (Tree.Ident (codes "b"))) (Tree.MoreCases (Tree.AnExpr (Tree.Comma (Tree.Ident (codes "c")) (Tree.Ident (codes "d")))) Tree.NoStmts Tree.NoCases)) (Tree.MoreStmts (Tree.While (Tree.Assign None (Tree.Ident (codes "a")) (Tree.Ident (codes "b"))) Tree.Empty) Tree.NoStmts)))) (word w.If false ∷ mark m.OpenParenthesis false ∷ mark m.OpenParenthesis false ∷ name (codes "a") false ∷ mark m.Comma false ∷ name (codes "b") false ∷ mark m.CloseParenthesis false ∷ mark m.CloseParenthesis false ∷ mark m.Semicolon false ∷ word w.Throw false ∷ mark m.OpenParenthesis false ∷ name (codes "a") false ∷ mark m.Comma false ∷ name (codes "b") false ∷ mark m.CloseParenthesis false ∷ mark m.Semicolon false ∷ word w.Switch false ∷ mark m.OpenParenthesis false ∷ mark m.OpenParenthesis false ∷ name (codes "a") false ∷ mark m.Comma false ∷ name (codes "b") false ∷ mark m.CloseParenthesis false ∷ mark m.CloseParenthesis false ∷ mark m.OpenBrace false ∷ word w.Case false ∷ mark m.OpenParenthesis false ∷ name (codes "c") false ∷ mark m.Comma false ∷ name (codes "d") false ∷ mark m.CloseParenthesis false ∷ mark m.Colon false ∷ mark m.CloseBrace false ∷ word w.While false ∷ mark m.OpenParenthesis false ∷ mark m.OpenParenthesis false ∷ name (codes "a") false ∷ mark m.Assign false ∷ name (codes "b") false ∷ mark m.CloseParenthesis false ∷ mark m.CloseParenthesis false ∷ mark m.Semicolon false ∷ []) refl (g.source_and (g.statement (g.if false false false (g.parenthesised false false (lit≤ tt) (g.comma false (lit≤ tt) (g.identifier false (lit≤ tt) refl) (g.identifier false (lit≤ tt) refl))) (g.empty false) (λ e. cc))) (g.source_and (g.statement (g.throw false (g.parenthesised false false (lit≤ tt) (g.comma false (lit≤ tt) (g.identifier false (lit≤ tt) refl) (g.identifier false (lit≤ tt) refl))) refl (e.written false))) (g.source_and (g.statement (g.switch false false false false false (g.parenthesised false false (lit≤ tt) (g.comma false (lit≤ tt) (g.identifier false (lit≤ tt) refl) (g.identifier false (lit≤ tt) refl))) (g.case_and false false (g.parenthesised false false (lit≤ tt) (g.comma false (lit≤ tt) (g.identifier false (lit≤ tt) refl) (g.identifier false (lit≤ tt) refl))) g.no_statement g.no_clause))) (g.source_and (g.statement (g.while false false false (g.parenthesised false false (lit≤ tt) (g.assign None m.Assign false (lit≤ tt) refl (g.identifier false (lit≤ tt) refl) refl (g.identifier false (lit≤ tt) refl))) (g.empty false))) g.no_source)))) (record { few = lit≤ tt; low = lit≤ tt; flat = lit≤ tt; closed = lit≤ tt }) refl

pub statements_begin : Reads Source (codes "( { } ) ; ( { } ) . a ; ( { } ) + 1 ; ( function ( ) { } ) ; ( function ( ) { } , a ) ; ( function ( ) { } ) ( )") (codes "({});({}.a);({}+1);(function(){});(function(){},a);(function(){})();\n")
unfolding unicode_ident utf16_chars digits
statements_begin = reads_as Source (codes "( { } ) ; ( { } ) . a ; ( { } ) + 1 ; ( function ( ) { } ) ; ( function ( ) { } , a ) ; ( function ( ) { } ) ( )") (Tree.MoreStmts (Tree.Do (Tree.Object Tree.NoPairs)) (Tree.MoreStmts (Tree.Do (Tree.Dot (Tree.Object Tree.NoPairs) (codes "a"))) (Tree.MoreStmts (Tree.Do (Tree.Binary b.Add (Tree.Object Tree.NoPairs) (Tree.Num 1))) (Tree.MoreStmts (Tree.Do (Tree.Function (code None [] Tree.NoStmts))) (Tree.MoreStmts (Tree.Do (Tree.Comma (Tree.Function (code None [] Tree.NoStmts)) (Tree.Ident (codes "a")))) (Tree.MoreStmts (Tree.Do (Tree.Call (Tree.Function (code None [] Tree.NoStmts)) Tree.NoExprs)) Tree.NoStmts)))))) (mark m.OpenParenthesis false ∷ mark m.OpenBrace false ∷ mark m.CloseBrace false ∷ mark m.CloseParenthesis false ∷ mark m.Semicolon false ∷ mark m.OpenParenthesis false ∷ mark m.OpenBrace false ∷ mark m.CloseBrace false ∷ mark m.CloseParenthesis false ∷ mark m.Dot false ∷ name (codes "a") false ∷ mark m.Semicolon false ∷ mark m.OpenParenthesis false ∷ mark m.OpenBrace false ∷ mark m.CloseBrace false ∷ mark m.CloseParenthesis false ∷ mark m.Plus false ∷ number 1 false ∷ mark m.Semicolon false ∷ mark m.OpenParenthesis false ∷ word w.Function false ∷ mark m.OpenParenthesis false ∷ mark m.CloseParenthesis false ∷ mark m.OpenBrace false ∷ mark m.CloseBrace false ∷ mark m.CloseParenthesis false ∷ mark m.Semicolon false ∷ mark m.OpenParenthesis false ∷ word w.Function false ∷ mark m.OpenParenthesis false ∷ mark m.CloseParenthesis false ∷ mark m.OpenBrace false ∷ mark m.CloseBrace false ∷ mark m.Comma false ∷ name (codes "a") false ∷ mark m.CloseParenthesis false ∷ mark m.Semicolon false ∷ mark m.OpenParenthesis false ∷ word w.Function false ∷ mark m.OpenParenthesis false ∷ mark m.CloseParenthesis false ∷ mark m.OpenBrace false ∷ mark m.CloseBrace false ∷ mark m.CloseParenthesis false ∷ mark m.OpenParenthesis false ∷ mark m.CloseParenthesis false ∷ []) refl (g.source_and (g.statement (g.expression (g.parenthesised false false (lit≤ tt) (g.object false false (lit≤ tt) g.no_property)) (λ e. cc) (λ e. cc) (e.written false))) (g.source_and (g.statement (g.expression (g.dot 18 false false (lit≤ tt) (lit≤ tt) (lit≤ tt) (g.parenthesised false false (lit≤ tt) (g.object false false (lit≤ tt) g.no_property)) refl) (λ e. cc) (λ e. cc) (e.written false))) (g.source_and (g.statement (g.expression (g.binary (Operation b.Add) false (lit≤ tt) refl (g.parenthesised false false (lit≤ tt) (g.object false false (lit≤ tt) g.no_property)) (g.numeral true false (lit≤ tt))) (λ e. cc) (λ e. cc) (e.written false))) (g.source_and (g.statement (g.expression (g.parenthesised false false (lit≤ tt) (g.function false (lit≤ tt) (g.function_rest false false false false g.no_formal refl g.no_source))) (λ e. cc) (λ e. cc) (e.written false))) (g.source_and (g.statement (g.expression (g.parenthesised false false (lit≤ tt) (g.comma false (lit≤ tt) (g.function false (lit≤ tt) (g.function_rest false false false false g.no_formal refl g.no_source)) (g.identifier false (lit≤ tt) refl))) (λ e. cc) (λ e. cc) (e.written false))) (g.source_and (g.statement (g.expression (g.call (lit≤ tt) (g.parenthesised false false (lit≤ tt) (g.function false (lit≤ tt) (g.function_rest false false false false g.no_formal refl g.no_source))) (g.no_arguments false false)) (λ e. cc) (λ e. cc) (e.at_end refl))) g.no_source)))))) (record { few = lit≤ tt; low = lit≤ tt; flat = lit≤ tt; closed = lit≤ tt }) refl

-- Members, calls and `new` (ES3 11.2).
use Rattle.std.proofs.Common.{false, [], ◌∷◌, codes, None, refl, lit≤}
use Rattle.js_tree.specs.declared.tree.BinaryOp.TheVariants as b
use Rattle.js_tree.specs.declared.tree.PrefixOp.TheVariants as p
use Rattle.js_lexer.specs.declared.mark.Mark.TheVariants as m
use Rattle.js_lexer.specs.declared.word.Word.TheVariants as w
use Rattle.js_parser.specs.declared.form.Form.TheVariants.{Source}
use Rattle.js_parser.specs.Symbols.{word, mark, name, number}
use Rattle.js_tree.specs.Levels.{Operation}
use Rattle.js_parser.specs.Ends as e
use Rattle.js_tree.specs.Tree
use Rattle.js_parser.specs.Grammar as g
use Rattle.grammar_rows.specs.TextRows.{BreaksAt, Same}
use Rattle.grammar_rows.proofs.TextRowLemmas.{same_tree, breaks_at}

pub members : Same Source (codes "a . b [ c ] ( d ) . e") (codes "( ( ( a . b ) [ c ] ) ( d ) ) . e")
members = same_tree Source (codes "a . b [ c ] ( d ) . e") (codes "( ( ( a . b ) [ c ] ) ( d ) ) . e") (Tree.MoreStmts (Tree.Do (Tree.Dot (Tree.Call (Tree.Index (Tree.Dot (Tree.Ident (codes "a")) (codes "b")) (Tree.Ident (codes "c"))) (Tree.MoreExprs (Tree.Ident (codes "d")) Tree.NoExprs)) (codes "e"))) Tree.NoStmts) (name (codes "a") false ∷ mark m.Dot false ∷ name (codes "b") false ∷ mark m.OpenBracket false ∷ name (codes "c") false ∷ mark m.CloseBracket false ∷ mark m.OpenParenthesis false ∷ name (codes "d") false ∷ mark m.CloseParenthesis false ∷ mark m.Dot false ∷ name (codes "e") false ∷ []) (mark m.OpenParenthesis false ∷ mark m.OpenParenthesis false ∷ mark m.OpenParenthesis false ∷ name (codes "a") false ∷ mark m.Dot false ∷ name (codes "b") false ∷ mark m.CloseParenthesis false ∷ mark m.OpenBracket false ∷ name (codes "c") false ∷ mark m.CloseBracket false ∷ mark m.CloseParenthesis false ∷ mark m.OpenParenthesis false ∷ name (codes "d") false ∷ mark m.CloseParenthesis false ∷ mark m.CloseParenthesis false ∷ mark m.Dot false ∷ name (codes "e") false ∷ []) refl refl (g.source_and (g.statement (g.expression (g.dot 17 false false (lit≤ tt) (lit≤ tt) (lit≤ tt) (g.call (lit≤ tt) (g.index 18 false false (lit≤ tt) (lit≤ tt) (lit≤ tt) (g.dot 18 false false (lit≤ tt) (lit≤ tt) (lit≤ tt) (g.identifier false (lit≤ tt) refl) refl) (g.identifier false (lit≤ tt) refl)) (g.arguments false false (g.last_argument (g.identifier false (lit≤ tt) refl)))) refl) (λ e. cc) (λ e. cc) (e.at_end refl))) g.no_source) (record { few = lit≤ tt; low = lit≤ tt; flat = lit≤ tt; closed = lit≤ tt }) (g.source_and (g.statement (g.expression (g.dot 18 false false (lit≤ tt) (lit≤ tt) (lit≤ tt) (g.parenthesised false false (lit≤ tt) (g.call (lit≤ tt) (g.parenthesised false false (lit≤ tt) (g.index 18 false false (lit≤ tt) (lit≤ tt) (lit≤ tt) (g.parenthesised false false (lit≤ tt) (g.dot 18 false false (lit≤ tt) (lit≤ tt) (lit≤ tt) (g.identifier false (lit≤ tt) refl) refl)) (g.identifier false (lit≤ tt) refl))) (g.arguments false false (g.last_argument (g.identifier false (lit≤ tt) refl))))) refl) (λ e. cc) (λ e. cc) (e.at_end refl))) g.no_source) (record { few = lit≤ tt; low = lit≤ tt; flat = lit≤ tt; closed = lit≤ tt })

pub arguments : Same Source (codes "a ( ) ; a ( b ) ; a ( b , c = d )") (codes "( a ) ( ) ; a ( ( b ) ) ; a ( b , ( c = d ) )")
arguments = same_tree Source (codes "a ( ) ; a ( b ) ; a ( b , c = d )") (codes "( a ) ( ) ; a ( ( b ) ) ; a ( b , ( c = d ) )") (Tree.MoreStmts (Tree.Do (Tree.Call (Tree.Ident (codes "a")) Tree.NoExprs)) (Tree.MoreStmts (Tree.Do (Tree.Call (Tree.Ident (codes "a")) (Tree.MoreExprs (Tree.Ident (codes "b")) Tree.NoExprs))) (Tree.MoreStmts (Tree.Do (Tree.Call (Tree.Ident (codes "a")) (Tree.MoreExprs (Tree.Ident (codes "b")) (Tree.MoreExprs (Tree.Assign None (Tree.Ident (codes "c")) (Tree.Ident (codes "d"))) Tree.NoExprs)))) Tree.NoStmts))) (name (codes "a") false ∷ mark m.OpenParenthesis false ∷ mark m.CloseParenthesis false ∷ mark m.Semicolon false ∷ name (codes "a") false ∷ mark m.OpenParenthesis false ∷ name (codes "b") false ∷ mark m.CloseParenthesis false ∷ mark m.Semicolon false ∷ name (codes "a") false ∷ mark m.OpenParenthesis false ∷ name (codes "b") false ∷ mark m.Comma false ∷ name (codes "c") false ∷ mark m.Assign false ∷ name (codes "d") false ∷ mark m.CloseParenthesis false ∷ []) (mark m.OpenParenthesis false ∷ name (codes "a") false ∷ mark m.CloseParenthesis false ∷ mark m.OpenParenthesis false ∷ mark m.CloseParenthesis false ∷ mark m.Semicolon false ∷ name (codes "a") false ∷ mark m.OpenParenthesis false ∷ mark m.OpenParenthesis false ∷ name (codes "b") false ∷ mark m.CloseParenthesis false ∷ mark m.CloseParenthesis false ∷ mark m.Semicolon false ∷ name (codes "a") false ∷ mark m.OpenParenthesis false ∷ name (codes "b") false ∷ mark m.Comma false ∷ mark m.OpenParenthesis false ∷ name (codes "c") false ∷ mark m.Assign false ∷ name (codes "d") false ∷ mark m.CloseParenthesis false ∷ mark m.CloseParenthesis false ∷ []) refl refl (g.source_and (g.statement (g.expression (g.call (lit≤ tt) (g.identifier false (lit≤ tt) refl) (g.no_arguments false false)) (λ e. cc) (λ e. cc) (e.written false))) (g.source_and (g.statement (g.expression (g.call (lit≤ tt) (g.identifier false (lit≤ tt) refl) (g.arguments false false (g.last_argument (g.identifier false (lit≤ tt) refl)))) (λ e. cc) (λ e. cc) (e.written false))) (g.source_and (g.statement (g.expression (g.call (lit≤ tt) (g.identifier false (lit≤ tt) refl) (g.arguments false false (g.argument_and false (g.identifier false (lit≤ tt) refl) (g.last_argument (g.assign None m.Assign false (lit≤ tt) refl (g.identifier false (lit≤ tt) refl) refl (g.identifier false (lit≤ tt) refl)))))) (λ e. cc) (λ e. cc) (e.at_end refl))) g.no_source))) (record { few = lit≤ tt; low = lit≤ tt; flat = lit≤ tt; closed = lit≤ tt }) (g.source_and (g.statement (g.expression (g.call (lit≤ tt) (g.parenthesised false false (lit≤ tt) (g.identifier false (lit≤ tt) refl)) (g.no_arguments false false)) (λ e. cc) (λ e. cc) (e.written false))) (g.source_and (g.statement (g.expression (g.call (lit≤ tt) (g.identifier false (lit≤ tt) refl) (g.arguments false false (g.last_argument (g.parenthesised false false (lit≤ tt) (g.identifier false (lit≤ tt) refl))))) (λ e. cc) (λ e. cc) (e.written false))) (g.source_and (g.statement (g.expression (g.call (lit≤ tt) (g.identifier false (lit≤ tt) refl) (g.arguments false false (g.argument_and false (g.identifier false (lit≤ tt) refl) (g.last_argument (g.parenthesised false false (lit≤ tt) (g.assign None m.Assign false (lit≤ tt) refl (g.identifier false (lit≤ tt) refl) refl (g.identifier false (lit≤ tt) refl))))))) (λ e. cc) (λ e. cc) (e.at_end refl))) g.no_source))) (record { few = lit≤ tt; low = lit≤ tt; flat = lit≤ tt; closed = lit≤ tt })

pub new_takes_the_first : Same Source (codes "new a ( b ) ( c ) ; new a . b ( c ) . d") (codes "( new a ( b ) ) ( c ) ; ( new ( a . b ) ( c ) ) . d")
new_takes_the_first = same_tree Source (codes "new a ( b ) ( c ) ; new a . b ( c ) . d") (codes "( new a ( b ) ) ( c ) ; ( new ( a . b ) ( c ) ) . d") (Tree.MoreStmts (Tree.Do (Tree.Call (Tree.New (Tree.Ident (codes "a")) (Tree.MoreExprs (Tree.Ident (codes "b")) Tree.NoExprs)) (Tree.MoreExprs (Tree.Ident (codes "c")) Tree.NoExprs))) (Tree.MoreStmts (Tree.Do (Tree.Dot (Tree.New (Tree.Dot (Tree.Ident (codes "a")) (codes "b")) (Tree.MoreExprs (Tree.Ident (codes "c")) Tree.NoExprs)) (codes "d"))) Tree.NoStmts)) (word w.New false ∷ name (codes "a") false ∷ mark m.OpenParenthesis false ∷ name (codes "b") false ∷ mark m.CloseParenthesis false ∷ mark m.OpenParenthesis false ∷ name (codes "c") false ∷ mark m.CloseParenthesis false ∷ mark m.Semicolon false ∷ word w.New false ∷ name (codes "a") false ∷ mark m.Dot false ∷ name (codes "b") false ∷ mark m.OpenParenthesis false ∷ name (codes "c") false ∷ mark m.CloseParenthesis false ∷ mark m.Dot false ∷ name (codes "d") false ∷ []) (mark m.OpenParenthesis false ∷ word w.New false ∷ name (codes "a") false ∷ mark m.OpenParenthesis false ∷ name (codes "b") false ∷ mark m.CloseParenthesis false ∷ mark m.CloseParenthesis false ∷ mark m.OpenParenthesis false ∷ name (codes "c") false ∷ mark m.CloseParenthesis false ∷ mark m.Semicolon false ∷ mark m.OpenParenthesis false ∷ word w.New false ∷ mark m.OpenParenthesis false ∷ name (codes "a") false ∷ mark m.Dot false ∷ name (codes "b") false ∷ mark m.CloseParenthesis false ∷ mark m.OpenParenthesis false ∷ name (codes "c") false ∷ mark m.CloseParenthesis false ∷ mark m.CloseParenthesis false ∷ mark m.Dot false ∷ name (codes "d") false ∷ []) refl refl (g.source_and (g.statement (g.expression (g.call (lit≤ tt) (g.new false (lit≤ tt) (g.identifier false (lit≤ tt) refl) (g.arguments false false (g.last_argument (g.identifier false (lit≤ tt) refl)))) (g.arguments false false (g.last_argument (g.identifier false (lit≤ tt) refl)))) (λ e. cc) (λ e. cc) (e.written false))) (g.source_and (g.statement (g.expression (g.dot 18 false false (lit≤ tt) (lit≤ tt) (lit≤ tt) (g.new false (lit≤ tt) (g.dot 18 false false (lit≤ tt) (lit≤ tt) (lit≤ tt) (g.identifier false (lit≤ tt) refl) refl) (g.arguments false false (g.last_argument (g.identifier false (lit≤ tt) refl)))) refl) (λ e. cc) (λ e. cc) (e.at_end refl))) g.no_source)) (record { few = lit≤ tt; low = lit≤ tt; flat = lit≤ tt; closed = lit≤ tt }) (g.source_and (g.statement (g.expression (g.call (lit≤ tt) (g.parenthesised false false (lit≤ tt) (g.new false (lit≤ tt) (g.identifier false (lit≤ tt) refl) (g.arguments false false (g.last_argument (g.identifier false (lit≤ tt) refl))))) (g.arguments false false (g.last_argument (g.identifier false (lit≤ tt) refl)))) (λ e. cc) (λ e. cc) (e.written false))) (g.source_and (g.statement (g.expression (g.dot 18 false false (lit≤ tt) (lit≤ tt) (lit≤ tt) (g.parenthesised false false (lit≤ tt) (g.new false (lit≤ tt) (g.parenthesised false false (lit≤ tt) (g.dot 18 false false (lit≤ tt) (lit≤ tt) (lit≤ tt) (g.identifier false (lit≤ tt) refl) refl)) (g.arguments false false (g.last_argument (g.identifier false (lit≤ tt) refl))))) refl) (λ e. cc) (λ e. cc) (e.at_end refl))) g.no_source)) (record { few = lit≤ tt; low = lit≤ tt; flat = lit≤ tt; closed = lit≤ tt })

pub new_without_arguments : Same Source (codes "new a ; new a . b ; new a [ b ]") (codes "new a ( ) ; new ( a . b ) ( ) ; new ( a [ b ] ) ( )")
new_without_arguments = same_tree Source (codes "new a ; new a . b ; new a [ b ]") (codes "new a ( ) ; new ( a . b ) ( ) ; new ( a [ b ] ) ( )") (Tree.MoreStmts (Tree.Do (Tree.New (Tree.Ident (codes "a")) Tree.NoExprs)) (Tree.MoreStmts (Tree.Do (Tree.New (Tree.Dot (Tree.Ident (codes "a")) (codes "b")) Tree.NoExprs)) (Tree.MoreStmts (Tree.Do (Tree.New (Tree.Index (Tree.Ident (codes "a")) (Tree.Ident (codes "b"))) Tree.NoExprs)) Tree.NoStmts))) (word w.New false ∷ name (codes "a") false ∷ mark m.Semicolon false ∷ word w.New false ∷ name (codes "a") false ∷ mark m.Dot false ∷ name (codes "b") false ∷ mark m.Semicolon false ∷ word w.New false ∷ name (codes "a") false ∷ mark m.OpenBracket false ∷ name (codes "b") false ∷ mark m.CloseBracket false ∷ []) (word w.New false ∷ name (codes "a") false ∷ mark m.OpenParenthesis false ∷ mark m.CloseParenthesis false ∷ mark m.Semicolon false ∷ word w.New false ∷ mark m.OpenParenthesis false ∷ name (codes "a") false ∷ mark m.Dot false ∷ name (codes "b") false ∷ mark m.CloseParenthesis false ∷ mark m.OpenParenthesis false ∷ mark m.CloseParenthesis false ∷ mark m.Semicolon false ∷ word w.New false ∷ mark m.OpenParenthesis false ∷ name (codes "a") false ∷ mark m.OpenBracket false ∷ name (codes "b") false ∷ mark m.CloseBracket false ∷ mark m.CloseParenthesis false ∷ mark m.OpenParenthesis false ∷ mark m.CloseParenthesis false ∷ []) refl refl (g.source_and (g.statement (g.expression (g.bare_new false (lit≤ tt) (g.member (g.identifier false (lit≤ tt) refl))) (λ e. cc) (λ e. cc) (e.written false))) (g.source_and (g.statement (g.expression (g.bare_new false (lit≤ tt) (g.member (g.dot 18 false false (lit≤ tt) (lit≤ tt) (lit≤ tt) (g.identifier false (lit≤ tt) refl) refl))) (λ e. cc) (λ e. cc) (e.written false))) (g.source_and (g.statement (g.expression (g.bare_new false (lit≤ tt) (g.member (g.index 18 false false (lit≤ tt) (lit≤ tt) (lit≤ tt) (g.identifier false (lit≤ tt) refl) (g.identifier false (lit≤ tt) refl)))) (λ e. cc) (λ e. cc) (e.at_end refl))) g.no_source))) (record { few = lit≤ tt; low = lit≤ tt; flat = lit≤ tt; closed = lit≤ tt }) (g.source_and (g.statement (g.expression (g.new false (lit≤ tt) (g.identifier false (lit≤ tt) refl) (g.no_arguments false false)) (λ e. cc) (λ e. cc) (e.written false))) (g.source_and (g.statement (g.expression (g.new false (lit≤ tt) (g.parenthesised false false (lit≤ tt) (g.dot 18 false false (lit≤ tt) (lit≤ tt) (lit≤ tt) (g.identifier false (lit≤ tt) refl) refl)) (g.no_arguments false false)) (λ e. cc) (λ e. cc) (e.written false))) (g.source_and (g.statement (g.expression (g.new false (lit≤ tt) (g.parenthesised false false (lit≤ tt) (g.index 18 false false (lit≤ tt) (lit≤ tt) (lit≤ tt) (g.identifier false (lit≤ tt) refl) (g.identifier false (lit≤ tt) refl))) (g.no_arguments false false)) (λ e. cc) (λ e. cc) (e.at_end refl))) g.no_source))) (record { few = lit≤ tt; low = lit≤ tt; flat = lit≤ tt; closed = lit≤ tt })

pub new_twice : Same Source (codes "new new a ; new new a ( b ) ; new new a ( b ) ( c )") (codes "new ( new a ) ; new ( new a ( b ) ) ; new ( new a ( b ) ) ( c )")
new_twice = same_tree Source (codes "new new a ; new new a ( b ) ; new new a ( b ) ( c )") (codes "new ( new a ) ; new ( new a ( b ) ) ; new ( new a ( b ) ) ( c )") (Tree.MoreStmts (Tree.Do (Tree.New (Tree.New (Tree.Ident (codes "a")) Tree.NoExprs) Tree.NoExprs)) (Tree.MoreStmts (Tree.Do (Tree.New (Tree.New (Tree.Ident (codes "a")) (Tree.MoreExprs (Tree.Ident (codes "b")) Tree.NoExprs)) Tree.NoExprs)) (Tree.MoreStmts (Tree.Do (Tree.New (Tree.New (Tree.Ident (codes "a")) (Tree.MoreExprs (Tree.Ident (codes "b")) Tree.NoExprs)) (Tree.MoreExprs (Tree.Ident (codes "c")) Tree.NoExprs))) Tree.NoStmts))) (word w.New false ∷ word w.New false ∷ name (codes "a") false ∷ mark m.Semicolon false ∷ word w.New false ∷ word w.New false ∷ name (codes "a") false ∷ mark m.OpenParenthesis false ∷ name (codes "b") false ∷ mark m.CloseParenthesis false ∷ mark m.Semicolon false ∷ word w.New false ∷ word w.New false ∷ name (codes "a") false ∷ mark m.OpenParenthesis false ∷ name (codes "b") false ∷ mark m.CloseParenthesis false ∷ mark m.OpenParenthesis false ∷ name (codes "c") false ∷ mark m.CloseParenthesis false ∷ []) (word w.New false ∷ mark m.OpenParenthesis false ∷ word w.New false ∷ name (codes "a") false ∷ mark m.CloseParenthesis false ∷ mark m.Semicolon false ∷ word w.New false ∷ mark m.OpenParenthesis false ∷ word w.New false ∷ name (codes "a") false ∷ mark m.OpenParenthesis false ∷ name (codes "b") false ∷ mark m.CloseParenthesis false ∷ mark m.CloseParenthesis false ∷ mark m.Semicolon false ∷ word w.New false ∷ mark m.OpenParenthesis false ∷ word w.New false ∷ name (codes "a") false ∷ mark m.OpenParenthesis false ∷ name (codes "b") false ∷ mark m.CloseParenthesis false ∷ mark m.CloseParenthesis false ∷ mark m.OpenParenthesis false ∷ name (codes "c") false ∷ mark m.CloseParenthesis false ∷ []) refl refl (g.source_and (g.statement (g.expression (g.bare_new false (lit≤ tt) (g.new_again false (g.member (g.identifier false (lit≤ tt) refl)))) (λ e. cc) (λ e. cc) (e.written false))) (g.source_and (g.statement (g.expression (g.bare_new false (lit≤ tt) (g.member (g.new false (lit≤ tt) (g.identifier false (lit≤ tt) refl) (g.arguments false false (g.last_argument (g.identifier false (lit≤ tt) refl)))))) (λ e. cc) (λ e. cc) (e.written false))) (g.source_and (g.statement (g.expression (g.new false (lit≤ tt) (g.new false (lit≤ tt) (g.identifier false (lit≤ tt) refl) (g.arguments false false (g.last_argument (g.identifier false (lit≤ tt) refl)))) (g.arguments false false (g.last_argument (g.identifier false (lit≤ tt) refl)))) (λ e. cc) (λ e. cc) (e.at_end refl))) g.no_source))) (record { few = lit≤ tt; low = lit≤ tt; flat = lit≤ tt; closed = lit≤ tt }) (g.source_and (g.statement (g.expression (g.bare_new false (lit≤ tt) (g.member (g.parenthesised false false (lit≤ tt) (g.bare_new false (lit≤ tt) (g.member (g.identifier false (lit≤ tt) refl)))))) (λ e. cc) (λ e. cc) (e.written false))) (g.source_and (g.statement (g.expression (g.bare_new false (lit≤ tt) (g.member (g.parenthesised false false (lit≤ tt) (g.new false (lit≤ tt) (g.identifier false (lit≤ tt) refl) (g.arguments false false (g.last_argument (g.identifier false (lit≤ tt) refl))))))) (λ e. cc) (λ e. cc) (e.written false))) (g.source_and (g.statement (g.expression (g.new false (lit≤ tt) (g.parenthesised false false (lit≤ tt) (g.new false (lit≤ tt) (g.identifier false (lit≤ tt) refl) (g.arguments false false (g.last_argument (g.identifier false (lit≤ tt) refl))))) (g.arguments false false (g.last_argument (g.identifier false (lit≤ tt) refl)))) (λ e. cc) (λ e. cc) (e.at_end refl))) g.no_source))) (record { few = lit≤ tt; low = lit≤ tt; flat = lit≤ tt; closed = lit≤ tt })

pub new_in_operations : Same Source (codes "- new a + b ; new a ? b : c") (codes "( - ( new a ) ) + b ; ( new a ) ? b : c")
new_in_operations = same_tree Source (codes "- new a + b ; new a ? b : c") (codes "( - ( new a ) ) + b ; ( new a ) ? b : c") (Tree.MoreStmts (Tree.Do (Tree.Binary b.Add (Tree.Prefix p.Minus (Tree.New (Tree.Ident (codes "a")) Tree.NoExprs)) (Tree.Ident (codes "b")))) (Tree.MoreStmts (Tree.Do (Tree.Cond (Tree.New (Tree.Ident (codes "a")) Tree.NoExprs) (Tree.Ident (codes "b")) (Tree.Ident (codes "c")))) Tree.NoStmts)) (mark m.Minus false ∷ word w.New false ∷ name (codes "a") false ∷ mark m.Plus false ∷ name (codes "b") false ∷ mark m.Semicolon false ∷ word w.New false ∷ name (codes "a") false ∷ mark m.Question false ∷ name (codes "b") false ∷ mark m.Colon false ∷ name (codes "c") false ∷ []) (mark m.OpenParenthesis false ∷ mark m.Minus false ∷ mark m.OpenParenthesis false ∷ word w.New false ∷ name (codes "a") false ∷ mark m.CloseParenthesis false ∷ mark m.CloseParenthesis false ∷ mark m.Plus false ∷ name (codes "b") false ∷ mark m.Semicolon false ∷ mark m.OpenParenthesis false ∷ word w.New false ∷ name (codes "a") false ∷ mark m.CloseParenthesis false ∷ mark m.Question false ∷ name (codes "b") false ∷ mark m.Colon false ∷ name (codes "c") false ∷ []) refl refl (g.source_and (g.statement (g.expression (g.binary (Operation b.Add) false (lit≤ tt) refl (g.prefix p.Minus false (lit≤ tt) refl (g.bare_new false (lit≤ tt) (g.member (g.identifier false (lit≤ tt) refl)))) (g.identifier false (lit≤ tt) refl)) (λ e. cc) (λ e. cc) (e.written false))) (g.source_and (g.statement (g.expression (g.conditional false false (lit≤ tt) (g.bare_new false (lit≤ tt) (g.member (g.identifier false (lit≤ tt) refl))) (g.identifier false (lit≤ tt) refl) (g.identifier false (lit≤ tt) refl)) (λ e. cc) (λ e. cc) (e.at_end refl))) g.no_source)) (record { few = lit≤ tt; low = lit≤ tt; flat = lit≤ tt; closed = lit≤ tt }) (g.source_and (g.statement (g.expression (g.binary (Operation b.Add) false (lit≤ tt) refl (g.parenthesised false false (lit≤ tt) (g.prefix p.Minus false (lit≤ tt) refl (g.parenthesised false false (lit≤ tt) (g.bare_new false (lit≤ tt) (g.member (g.identifier false (lit≤ tt) refl)))))) (g.identifier false (lit≤ tt) refl)) (λ e. cc) (λ e. cc) (e.written false))) (g.source_and (g.statement (g.expression (g.conditional false false (lit≤ tt) (g.parenthesised false false (lit≤ tt) (g.bare_new false (lit≤ tt) (g.member (g.identifier false (lit≤ tt) refl)))) (g.identifier false (lit≤ tt) refl) (g.identifier false (lit≤ tt) refl)) (λ e. cc) (λ e. cc) (e.at_end refl))) g.no_source)) (record { few = lit≤ tt; low = lit≤ tt; flat = lit≤ tt; closed = lit≤ tt })

pub argument_list_ends : BreaksAt Source (codes "a ( b ,") (codes ")")
argument_list_ends = breaks_at Source (codes "a ( b ,") (codes ")") (Tree.MoreStmts (Tree.Do (Tree.Call (Tree.Ident (codes "a")) (Tree.MoreExprs (Tree.Ident (codes "b")) (Tree.MoreExprs (Tree.Ident (codes "c")) Tree.NoExprs)))) Tree.NoStmts) (name (codes "c") false ∷ mark m.CloseParenthesis false ∷ mark m.Semicolon false ∷ []) (name (codes "a") false ∷ mark m.OpenParenthesis false ∷ name (codes "b") false ∷ mark m.Comma false ∷ name (codes "c") false ∷ mark m.CloseParenthesis false ∷ mark m.Semicolon false ∷ []) (name (codes "a") false ∷ mark m.OpenParenthesis false ∷ name (codes "b") false ∷ mark m.Comma false ∷ mark m.CloseParenthesis false ∷ []) refl refl (g.source_and (g.statement (g.expression (g.call (lit≤ tt) (g.identifier false (lit≤ tt) refl) (g.arguments false false (g.argument_and false (g.identifier false (lit≤ tt) refl) (g.last_argument (g.identifier false (lit≤ tt) refl))))) (λ e. cc) (λ e. cc) (e.written false))) g.no_source) (lit≤ tt) (λ others. refl)

pub argument_is_needed : BreaksAt Source (codes "a (") (codes ",")
argument_is_needed = breaks_at Source (codes "a (") (codes ",") (Tree.MoreStmts (Tree.Do (Tree.Call (Tree.Ident (codes "a")) (Tree.MoreExprs (Tree.Ident (codes "b")) Tree.NoExprs))) Tree.NoStmts) (name (codes "b") false ∷ mark m.CloseParenthesis false ∷ mark m.Semicolon false ∷ []) (name (codes "a") false ∷ mark m.OpenParenthesis false ∷ name (codes "b") false ∷ mark m.CloseParenthesis false ∷ mark m.Semicolon false ∷ []) (name (codes "a") false ∷ mark m.OpenParenthesis false ∷ mark m.Comma false ∷ []) refl refl (g.source_and (g.statement (g.expression (g.call (lit≤ tt) (g.identifier false (lit≤ tt) refl) (g.arguments false false (g.last_argument (g.identifier false (lit≤ tt) refl)))) (λ e. cc) (λ e. cc) (e.written false))) g.no_source) (lit≤ tt) (λ others. refl)

pub number_is_no_member : BreaksAt Source (codes "a .") (codes "1")
number_is_no_member = breaks_at Source (codes "a .") (codes "1") (Tree.MoreStmts (Tree.Do (Tree.Dot (Tree.Ident (codes "a")) (codes "b"))) Tree.NoStmts) (name (codes "b") false ∷ mark m.Semicolon false ∷ []) (name (codes "a") false ∷ mark m.Dot false ∷ name (codes "b") false ∷ mark m.Semicolon false ∷ []) (name (codes "a") false ∷ mark m.Dot false ∷ number 1 false ∷ []) refl refl (g.source_and (g.statement (g.expression (g.dot 18 false false (lit≤ tt) (lit≤ tt) (lit≤ tt) (g.identifier false (lit≤ tt) refl) refl) (λ e. cc) (λ e. cc) (e.written false))) g.no_source) (lit≤ tt) (λ others. refl)

pub word_is_no_member : BreaksAt Source (codes "a .") (codes "if")
word_is_no_member = breaks_at Source (codes "a .") (codes "if") (Tree.MoreStmts (Tree.Do (Tree.Dot (Tree.Ident (codes "a")) (codes "b"))) Tree.NoStmts) (name (codes "b") false ∷ mark m.Semicolon false ∷ []) (name (codes "a") false ∷ mark m.Dot false ∷ name (codes "b") false ∷ mark m.Semicolon false ∷ []) (name (codes "a") false ∷ mark m.Dot false ∷ word w.If false ∷ []) refl refl (g.source_and (g.statement (g.expression (g.dot 18 false false (lit≤ tt) (lit≤ tt) (lit≤ tt) (g.identifier false (lit≤ tt) refl) refl) (λ e. cc) (λ e. cc) (e.written false))) g.no_source) (lit≤ tt) (λ others. refl)

pub index_is_needed : BreaksAt Source (codes "a [") (codes "]")
index_is_needed = breaks_at Source (codes "a [") (codes "]") (Tree.MoreStmts (Tree.Do (Tree.Index (Tree.Ident (codes "a")) (Tree.Ident (codes "b")))) Tree.NoStmts) (name (codes "b") false ∷ mark m.CloseBracket false ∷ mark m.Semicolon false ∷ []) (name (codes "a") false ∷ mark m.OpenBracket false ∷ name (codes "b") false ∷ mark m.CloseBracket false ∷ mark m.Semicolon false ∷ []) (name (codes "a") false ∷ mark m.OpenBracket false ∷ mark m.CloseBracket false ∷ []) refl refl (g.source_and (g.statement (g.expression (g.index 18 false false (lit≤ tt) (lit≤ tt) (lit≤ tt) (g.identifier false (lit≤ tt) refl) (g.identifier false (lit≤ tt) refl)) (λ e. cc) (λ e. cc) (e.written false))) g.no_source) (lit≤ tt) (λ others. refl)

pub callee_is_needed : BreaksAt Source (codes "new") (codes "!")
callee_is_needed = breaks_at Source (codes "new") (codes "!") (Tree.MoreStmts (Tree.Do (Tree.New (Tree.Ident (codes "a")) Tree.NoExprs)) Tree.NoStmts) (name (codes "a") false ∷ mark m.Semicolon false ∷ []) (word w.New false ∷ name (codes "a") false ∷ mark m.Semicolon false ∷ []) (word w.New false ∷ mark m.Not false ∷ []) refl refl (g.source_and (g.statement (g.expression (g.bare_new false (lit≤ tt) (g.member (g.identifier false (lit≤ tt) refl))) (λ e. cc) (λ e. cc) (e.written false))) g.no_source) (lit≤ tt) (λ others. refl)

pub operand_is_needed : BreaksAt Source (codes "a +") (codes ";")
operand_is_needed = breaks_at Source (codes "a +") (codes ";") (Tree.MoreStmts (Tree.Do (Tree.Binary b.Add (Tree.Ident (codes "a")) (Tree.Ident (codes "b")))) Tree.NoStmts) (name (codes "b") false ∷ mark m.Semicolon false ∷ []) (name (codes "a") false ∷ mark m.Plus false ∷ name (codes "b") false ∷ mark m.Semicolon false ∷ []) (name (codes "a") false ∷ mark m.Plus false ∷ mark m.Semicolon false ∷ []) refl refl (g.source_and (g.statement (g.expression (g.binary (Operation b.Add) false (lit≤ tt) refl (g.identifier false (lit≤ tt) refl) (g.identifier false (lit≤ tt) refl)) (λ e. cc) (λ e. cc) (e.written false))) g.no_source) (lit≤ tt) (λ others. refl)

pub empty_parentheses : BreaksAt Source (codes "(") (codes ")")
empty_parentheses = breaks_at Source (codes "(") (codes ")") (Tree.MoreStmts (Tree.Do (Tree.Ident (codes "a"))) Tree.NoStmts) (name (codes "a") false ∷ mark m.CloseParenthesis false ∷ mark m.Semicolon false ∷ []) (mark m.OpenParenthesis false ∷ name (codes "a") false ∷ mark m.CloseParenthesis false ∷ mark m.Semicolon false ∷ []) (mark m.OpenParenthesis false ∷ mark m.CloseParenthesis false ∷ []) refl refl (g.source_and (g.statement (g.expression (g.parenthesised false false (lit≤ tt) (g.identifier false (lit≤ tt) refl)) (λ e. cc) (λ e. cc) (e.written false))) g.no_source) (lit≤ tt) (λ others. refl)

-- Operators before and behind one operand (ES3 11.3, 11.4).
use Rattle.std.proofs.Common.{true, false, [], ◌∷◌, codes, refl, lit≤}
use Rattle.std.specs.Fmt.{digits}
use Rattle.std.specs.Char.Utf16.{utf16_chars}
use Rattle.unicode_ident.proofs.Computing.{unicode_ident}
use Rattle.js_tree.specs.declared.tree.BinaryOp.TheVariants as b
use Rattle.js_tree.specs.declared.tree.PrefixOp.TheVariants as p
use Rattle.js_tree.specs.declared.tree.PostfixOp.TheVariants as q
use Rattle.js_lexer.specs.declared.mark.Mark.TheVariants as m
use Rattle.js_lexer.specs.declared.word.Word.TheVariants as w
use Rattle.js_parser.specs.declared.form.Form.TheVariants.{Source}
use Rattle.js_parser.specs.Symbols.{word, mark, name, number}
use Rattle.js_tree.specs.Levels.{Operation}
use Rattle.js_parser.specs.Ends as e
use Rattle.js_tree.specs.Tree
use Rattle.js_parser.specs.Grammar as g
use Rattle.grammar_rows.specs.TextRows.{BreaksAt, Reads, Same}
use Rattle.grammar_rows.proofs.TextRowLemmas.{reads_as, same_tree, breaks_at}

pub words : Same Source (codes "delete a . b ; void typeof a ; typeof a * b") (codes "delete ( a . b ) ; void ( typeof a ) ; ( typeof a ) * b")
words = same_tree Source (codes "delete a . b ; void typeof a ; typeof a * b") (codes "delete ( a . b ) ; void ( typeof a ) ; ( typeof a ) * b") (Tree.MoreStmts (Tree.Do (Tree.Prefix p.Delete (Tree.Dot (Tree.Ident (codes "a")) (codes "b")))) (Tree.MoreStmts (Tree.Do (Tree.Prefix p.Void (Tree.Prefix p.TypeOf (Tree.Ident (codes "a"))))) (Tree.MoreStmts (Tree.Do (Tree.Binary b.Multiply (Tree.Prefix p.TypeOf (Tree.Ident (codes "a"))) (Tree.Ident (codes "b")))) Tree.NoStmts))) (word w.Delete false ∷ name (codes "a") false ∷ mark m.Dot false ∷ name (codes "b") false ∷ mark m.Semicolon false ∷ word w.Void false ∷ word w.TypeOf false ∷ name (codes "a") false ∷ mark m.Semicolon false ∷ word w.TypeOf false ∷ name (codes "a") false ∷ mark m.Times false ∷ name (codes "b") false ∷ []) (word w.Delete false ∷ mark m.OpenParenthesis false ∷ name (codes "a") false ∷ mark m.Dot false ∷ name (codes "b") false ∷ mark m.CloseParenthesis false ∷ mark m.Semicolon false ∷ word w.Void false ∷ mark m.OpenParenthesis false ∷ word w.TypeOf false ∷ name (codes "a") false ∷ mark m.CloseParenthesis false ∷ mark m.Semicolon false ∷ mark m.OpenParenthesis false ∷ word w.TypeOf false ∷ name (codes "a") false ∷ mark m.CloseParenthesis false ∷ mark m.Times false ∷ name (codes "b") false ∷ []) refl refl (g.source_and (g.statement (g.expression (g.prefix p.Delete false (lit≤ tt) refl (g.dot 18 false false (lit≤ tt) (lit≤ tt) (lit≤ tt) (g.identifier false (lit≤ tt) refl) refl)) (λ e. cc) (λ e. cc) (e.written false))) (g.source_and (g.statement (g.expression (g.prefix p.Void false (lit≤ tt) refl (g.prefix p.TypeOf false (lit≤ tt) refl (g.identifier false (lit≤ tt) refl))) (λ e. cc) (λ e. cc) (e.written false))) (g.source_and (g.statement (g.expression (g.binary (Operation b.Multiply) false (lit≤ tt) refl (g.prefix p.TypeOf false (lit≤ tt) refl (g.identifier false (lit≤ tt) refl)) (g.identifier false (lit≤ tt) refl)) (λ e. cc) (λ e. cc) (e.at_end refl))) g.no_source))) (record { few = lit≤ tt; low = lit≤ tt; flat = lit≤ tt; closed = lit≤ tt }) (g.source_and (g.statement (g.expression (g.prefix p.Delete false (lit≤ tt) refl (g.parenthesised false false (lit≤ tt) (g.dot 18 false false (lit≤ tt) (lit≤ tt) (lit≤ tt) (g.identifier false (lit≤ tt) refl) refl))) (λ e. cc) (λ e. cc) (e.written false))) (g.source_and (g.statement (g.expression (g.prefix p.Void false (lit≤ tt) refl (g.parenthesised false false (lit≤ tt) (g.prefix p.TypeOf false (lit≤ tt) refl (g.identifier false (lit≤ tt) refl)))) (λ e. cc) (λ e. cc) (e.written false))) (g.source_and (g.statement (g.expression (g.binary (Operation b.Multiply) false (lit≤ tt) refl (g.parenthesised false false (lit≤ tt) (g.prefix p.TypeOf false (lit≤ tt) refl (g.identifier false (lit≤ tt) refl))) (g.identifier false (lit≤ tt) refl)) (λ e. cc) (λ e. cc) (e.at_end refl))) g.no_source))) (record { few = lit≤ tt; low = lit≤ tt; flat = lit≤ tt; closed = lit≤ tt })

pub signs : Same Source (codes "- + ~ ! a ; ! a + b ; - a ++") (codes "- ( + ( ~ ( ! a ) ) ) ; ( ! a ) + b ; - ( a ++ )")
signs = same_tree Source (codes "- + ~ ! a ; ! a + b ; - a ++") (codes "- ( + ( ~ ( ! a ) ) ) ; ( ! a ) + b ; - ( a ++ )") (Tree.MoreStmts (Tree.Do (Tree.Prefix p.Minus (Tree.Prefix p.Plus (Tree.Prefix p.BitNot (Tree.Prefix p.Not (Tree.Ident (codes "a"))))))) (Tree.MoreStmts (Tree.Do (Tree.Binary b.Add (Tree.Prefix p.Not (Tree.Ident (codes "a"))) (Tree.Ident (codes "b")))) (Tree.MoreStmts (Tree.Do (Tree.Prefix p.Minus (Tree.Postfix (Tree.Ident (codes "a")) q.Increment))) Tree.NoStmts))) (mark m.Minus false ∷ mark m.Plus false ∷ mark m.BitNot false ∷ mark m.Not false ∷ name (codes "a") false ∷ mark m.Semicolon false ∷ mark m.Not false ∷ name (codes "a") false ∷ mark m.Plus false ∷ name (codes "b") false ∷ mark m.Semicolon false ∷ mark m.Minus false ∷ name (codes "a") false ∷ mark m.PlusPlus false ∷ []) (mark m.Minus false ∷ mark m.OpenParenthesis false ∷ mark m.Plus false ∷ mark m.OpenParenthesis false ∷ mark m.BitNot false ∷ mark m.OpenParenthesis false ∷ mark m.Not false ∷ name (codes "a") false ∷ mark m.CloseParenthesis false ∷ mark m.CloseParenthesis false ∷ mark m.CloseParenthesis false ∷ mark m.Semicolon false ∷ mark m.OpenParenthesis false ∷ mark m.Not false ∷ name (codes "a") false ∷ mark m.CloseParenthesis false ∷ mark m.Plus false ∷ name (codes "b") false ∷ mark m.Semicolon false ∷ mark m.Minus false ∷ mark m.OpenParenthesis false ∷ name (codes "a") false ∷ mark m.PlusPlus false ∷ mark m.CloseParenthesis false ∷ []) refl refl (g.source_and (g.statement (g.expression (g.prefix p.Minus false (lit≤ tt) refl (g.prefix p.Plus false (lit≤ tt) refl (g.prefix p.BitNot false (lit≤ tt) refl (g.prefix p.Not false (lit≤ tt) refl (g.identifier false (lit≤ tt) refl))))) (λ e. cc) (λ e. cc) (e.written false))) (g.source_and (g.statement (g.expression (g.binary (Operation b.Add) false (lit≤ tt) refl (g.prefix p.Not false (lit≤ tt) refl (g.identifier false (lit≤ tt) refl)) (g.identifier false (lit≤ tt) refl)) (λ e. cc) (λ e. cc) (e.written false))) (g.source_and (g.statement (g.expression (g.prefix p.Minus false (lit≤ tt) refl (g.postfix q.Increment (lit≤ tt) (g.identifier false (lit≤ tt) refl) refl)) (λ e. cc) (λ e. cc) (e.at_end refl))) g.no_source))) (record { few = lit≤ tt; low = lit≤ tt; flat = lit≤ tt; closed = lit≤ tt }) (g.source_and (g.statement (g.expression (g.prefix p.Minus false (lit≤ tt) refl (g.parenthesised false false (lit≤ tt) (g.prefix p.Plus false (lit≤ tt) refl (g.parenthesised false false (lit≤ tt) (g.prefix p.BitNot false (lit≤ tt) refl (g.parenthesised false false (lit≤ tt) (g.prefix p.Not false (lit≤ tt) refl (g.identifier false (lit≤ tt) refl)))))))) (λ e. cc) (λ e. cc) (e.written false))) (g.source_and (g.statement (g.expression (g.binary (Operation b.Add) false (lit≤ tt) refl (g.parenthesised false false (lit≤ tt) (g.prefix p.Not false (lit≤ tt) refl (g.identifier false (lit≤ tt) refl))) (g.identifier false (lit≤ tt) refl)) (λ e. cc) (λ e. cc) (e.written false))) (g.source_and (g.statement (g.expression (g.prefix p.Minus false (lit≤ tt) refl (g.parenthesised false false (lit≤ tt) (g.postfix q.Increment (lit≤ tt) (g.identifier false (lit≤ tt) refl) refl))) (λ e. cc) (λ e. cc) (e.at_end refl))) g.no_source))) (record { few = lit≤ tt; low = lit≤ tt; flat = lit≤ tt; closed = lit≤ tt })

pub changes : Reads Source (codes "++ a ; -- a . b ; a [ 1 ] ++ ; ( a ) -- ; ++ ( a )") (codes "++a;--a.b;a[1]++;a--;++a;\n")
unfolding unicode_ident utf16_chars digits
changes = reads_as Source (codes "++ a ; -- a . b ; a [ 1 ] ++ ; ( a ) -- ; ++ ( a )") (Tree.MoreStmts (Tree.Do (Tree.Prefix p.Increment (Tree.Ident (codes "a")))) (Tree.MoreStmts (Tree.Do (Tree.Prefix p.Decrement (Tree.Dot (Tree.Ident (codes "a")) (codes "b")))) (Tree.MoreStmts (Tree.Do (Tree.Postfix (Tree.Index (Tree.Ident (codes "a")) (Tree.Num 1)) q.Increment)) (Tree.MoreStmts (Tree.Do (Tree.Postfix (Tree.Ident (codes "a")) q.Decrement)) (Tree.MoreStmts (Tree.Do (Tree.Prefix p.Increment (Tree.Ident (codes "a")))) Tree.NoStmts))))) (mark m.PlusPlus false ∷ name (codes "a") false ∷ mark m.Semicolon false ∷ mark m.MinusMinus false ∷ name (codes "a") false ∷ mark m.Dot false ∷ name (codes "b") false ∷ mark m.Semicolon false ∷ name (codes "a") false ∷ mark m.OpenBracket false ∷ number 1 false ∷ mark m.CloseBracket false ∷ mark m.PlusPlus false ∷ mark m.Semicolon false ∷ mark m.OpenParenthesis false ∷ name (codes "a") false ∷ mark m.CloseParenthesis false ∷ mark m.MinusMinus false ∷ mark m.Semicolon false ∷ mark m.PlusPlus false ∷ mark m.OpenParenthesis false ∷ name (codes "a") false ∷ mark m.CloseParenthesis false ∷ []) refl (g.source_and (g.statement (g.expression (g.changed p.Increment false (lit≤ tt) refl (g.identifier false (lit≤ tt) refl) refl) (λ e. cc) (λ e. cc) (e.written false))) (g.source_and (g.statement (g.expression (g.changed p.Decrement false (lit≤ tt) refl (g.dot 18 false false (lit≤ tt) (lit≤ tt) (lit≤ tt) (g.identifier false (lit≤ tt) refl) refl) refl) (λ e. cc) (λ e. cc) (e.written false))) (g.source_and (g.statement (g.expression (g.postfix q.Increment (lit≤ tt) (g.index 18 false false (lit≤ tt) (lit≤ tt) (lit≤ tt) (g.identifier false (lit≤ tt) refl) (g.numeral true false (lit≤ tt))) refl) (λ e. cc) (λ e. cc) (e.written false))) (g.source_and (g.statement (g.expression (g.postfix q.Decrement (lit≤ tt) (g.parenthesised false false (lit≤ tt) (g.identifier false (lit≤ tt) refl)) refl) (λ e. cc) (λ e. cc) (e.written false))) (g.source_and (g.statement (g.expression (g.changed p.Increment false (lit≤ tt) refl (g.parenthesised false false (lit≤ tt) (g.identifier false (lit≤ tt) refl)) refl) (λ e. cc) (λ e. cc) (e.at_end refl))) g.no_source))))) (record { few = lit≤ tt; low = lit≤ tt; flat = lit≤ tt; closed = lit≤ tt }) refl

pub above_times : Reads Source (codes "a * - b ; a * ++ b ; a ++ * b") (codes "a*-b;a*++b;a++*b;\n")
unfolding unicode_ident utf16_chars digits
above_times = reads_as Source (codes "a * - b ; a * ++ b ; a ++ * b") (Tree.MoreStmts (Tree.Do (Tree.Binary b.Multiply (Tree.Ident (codes "a")) (Tree.Prefix p.Minus (Tree.Ident (codes "b"))))) (Tree.MoreStmts (Tree.Do (Tree.Binary b.Multiply (Tree.Ident (codes "a")) (Tree.Prefix p.Increment (Tree.Ident (codes "b"))))) (Tree.MoreStmts (Tree.Do (Tree.Binary b.Multiply (Tree.Postfix (Tree.Ident (codes "a")) q.Increment) (Tree.Ident (codes "b")))) Tree.NoStmts))) (name (codes "a") false ∷ mark m.Times false ∷ mark m.Minus false ∷ name (codes "b") false ∷ mark m.Semicolon false ∷ name (codes "a") false ∷ mark m.Times false ∷ mark m.PlusPlus false ∷ name (codes "b") false ∷ mark m.Semicolon false ∷ name (codes "a") false ∷ mark m.PlusPlus false ∷ mark m.Times false ∷ name (codes "b") false ∷ []) refl (g.source_and (g.statement (g.expression (g.binary (Operation b.Multiply) false (lit≤ tt) refl (g.identifier false (lit≤ tt) refl) (g.prefix p.Minus false (lit≤ tt) refl (g.identifier false (lit≤ tt) refl))) (λ e. cc) (λ e. cc) (e.written false))) (g.source_and (g.statement (g.expression (g.binary (Operation b.Multiply) false (lit≤ tt) refl (g.identifier false (lit≤ tt) refl) (g.changed p.Increment false (lit≤ tt) refl (g.identifier false (lit≤ tt) refl) refl)) (λ e. cc) (λ e. cc) (e.written false))) (g.source_and (g.statement (g.expression (g.binary (Operation b.Multiply) false (lit≤ tt) refl (g.postfix q.Increment (lit≤ tt) (g.identifier false (lit≤ tt) refl) refl) (g.identifier false (lit≤ tt) refl)) (λ e. cc) (λ e. cc) (e.at_end refl))) g.no_source))) (record { few = lit≤ tt; low = lit≤ tt; flat = lit≤ tt; closed = lit≤ tt }) refl

pub no_number_behind : BreaksAt Source (codes "1") (codes "++")
no_number_behind = breaks_at Source (codes "1") (codes "++") (Tree.MoreStmts (Tree.Do (Tree.Num 1)) Tree.NoStmts) (mark m.Semicolon false ∷ []) (number 1 false ∷ mark m.Semicolon false ∷ []) (number 1 false ∷ mark m.PlusPlus false ∷ []) refl refl (g.source_and (g.statement (g.expression (g.numeral true false (lit≤ tt)) (λ e. cc) (λ e. cc) (e.written false))) g.no_source) (lit≤ tt) (λ others. refl)

pub no_call_behind : BreaksAt Source (codes "a ( )") (codes "--")
no_call_behind = breaks_at Source (codes "a ( )") (codes "--") (Tree.MoreStmts (Tree.Do (Tree.Call (Tree.Ident (codes "a")) Tree.NoExprs)) Tree.NoStmts) (mark m.Semicolon false ∷ []) (name (codes "a") false ∷ mark m.OpenParenthesis false ∷ mark m.CloseParenthesis false ∷ mark m.Semicolon false ∷ []) (name (codes "a") false ∷ mark m.OpenParenthesis false ∷ mark m.CloseParenthesis false ∷ mark m.MinusMinus false ∷ []) refl refl (g.source_and (g.statement (g.expression (g.call (lit≤ tt) (g.identifier false (lit≤ tt) refl) (g.no_arguments false false)) (λ e. cc) (λ e. cc) (e.written false))) g.no_source) (lit≤ tt) (λ others. refl)

pub no_change_behind : BreaksAt Source (codes "a ++") (codes "++")
no_change_behind = breaks_at Source (codes "a ++") (codes "++") (Tree.MoreStmts (Tree.Do (Tree.Postfix (Tree.Ident (codes "a")) q.Increment)) Tree.NoStmts) (mark m.Semicolon false ∷ []) (name (codes "a") false ∷ mark m.PlusPlus false ∷ mark m.Semicolon false ∷ []) (name (codes "a") false ∷ mark m.PlusPlus false ∷ mark m.PlusPlus false ∷ []) refl refl (g.source_and (g.statement (g.expression (g.postfix q.Increment (lit≤ tt) (g.identifier false (lit≤ tt) refl) refl) (λ e. cc) (λ e. cc) (e.written false))) g.no_source) (lit≤ tt) (λ others. refl)

pub no_new_behind : BreaksAt Source (codes "new a") (codes "++")
no_new_behind = breaks_at Source (codes "new a") (codes "++") (Tree.MoreStmts (Tree.Do (Tree.New (Tree.Ident (codes "a")) Tree.NoExprs)) Tree.NoStmts) (mark m.Semicolon false ∷ []) (word w.New false ∷ name (codes "a") false ∷ mark m.Semicolon false ∷ []) (word w.New false ∷ name (codes "a") false ∷ mark m.PlusPlus false ∷ []) refl refl (g.source_and (g.statement (g.expression (g.bare_new false (lit≤ tt) (g.member (g.identifier false (lit≤ tt) refl))) (λ e. cc) (λ e. cc) (e.written false))) g.no_source) (lit≤ tt) (λ others. refl)

pub no_number_before : BreaksAt Source (codes "++ 1") (codes ";")
no_number_before = breaks_at Source (codes "++ 1") (codes ";") (Tree.MoreStmts (Tree.Do (Tree.Prefix p.Increment (Tree.Dot (Tree.Num 1) (codes "a")))) Tree.NoStmts) (mark m.Dot false ∷ name (codes "a") false ∷ mark m.Semicolon false ∷ []) (mark m.PlusPlus false ∷ number 1 false ∷ mark m.Dot false ∷ name (codes "a") false ∷ mark m.Semicolon false ∷ []) (mark m.PlusPlus false ∷ number 1 false ∷ mark m.Semicolon false ∷ []) refl refl (g.source_and (g.statement (g.expression (g.changed p.Increment false (lit≤ tt) refl (g.dot 18 false false (lit≤ tt) (lit≤ tt) (lit≤ tt) (g.numeral true false (lit≤ tt)) refl) refl) (λ e. cc) (λ e. cc) (e.written false))) g.no_source) (lit≤ tt) (λ others. refl)

pub no_call_before : BreaksAt Source (codes "-- a ( )") (codes ";")
no_call_before = breaks_at Source (codes "-- a ( )") (codes ";") (Tree.MoreStmts (Tree.Do (Tree.Prefix p.Decrement (Tree.Dot (Tree.Call (Tree.Ident (codes "a")) Tree.NoExprs) (codes "a")))) Tree.NoStmts) (mark m.Dot false ∷ name (codes "a") false ∷ mark m.Semicolon false ∷ []) (mark m.MinusMinus false ∷ name (codes "a") false ∷ mark m.OpenParenthesis false ∷ mark m.CloseParenthesis false ∷ mark m.Dot false ∷ name (codes "a") false ∷ mark m.Semicolon false ∷ []) (mark m.MinusMinus false ∷ name (codes "a") false ∷ mark m.OpenParenthesis false ∷ mark m.CloseParenthesis false ∷ mark m.Semicolon false ∷ []) refl refl (g.source_and (g.statement (g.expression (g.changed p.Decrement false (lit≤ tt) refl (g.dot 17 false false (lit≤ tt) (lit≤ tt) (lit≤ tt) (g.call (lit≤ tt) (g.identifier false (lit≤ tt) refl) (g.no_arguments false false)) refl) refl) (λ e. cc) (λ e. cc) (e.written false))) g.no_source) (lit≤ tt) (λ others. refl)

pub no_prefix_before : BreaksAt Source (codes "++") (codes "!")
no_prefix_before = breaks_at Source (codes "++") (codes "!") (Tree.MoreStmts (Tree.Do (Tree.Prefix p.Increment (Tree.Ident (codes "a")))) Tree.NoStmts) (name (codes "a") false ∷ mark m.Semicolon false ∷ []) (mark m.PlusPlus false ∷ name (codes "a") false ∷ mark m.Semicolon false ∷ []) (mark m.PlusPlus false ∷ mark m.Not false ∷ []) refl refl (g.source_and (g.statement (g.expression (g.changed p.Increment false (lit≤ tt) refl (g.identifier false (lit≤ tt) refl) refl) (λ e. cc) (λ e. cc) (e.written false))) g.no_source) (lit≤ tt) (λ others. refl)

pub no_change_before : BreaksAt Source (codes "++") (codes "++")
no_change_before = breaks_at Source (codes "++") (codes "++") (Tree.MoreStmts (Tree.Do (Tree.Prefix p.Increment (Tree.Ident (codes "a")))) Tree.NoStmts) (name (codes "a") false ∷ mark m.Semicolon false ∷ []) (mark m.PlusPlus false ∷ name (codes "a") false ∷ mark m.Semicolon false ∷ []) (mark m.PlusPlus false ∷ mark m.PlusPlus false ∷ []) refl refl (g.source_and (g.statement (g.expression (g.changed p.Increment false (lit≤ tt) refl (g.identifier false (lit≤ tt) refl) refl) (λ e. cc) (λ e. cc) (e.written false))) g.no_source) (lit≤ tt) (λ others. refl)

pub not_on_the_next_line : BreaksAt Source (codes "a\n++") (codes ";")
not_on_the_next_line = breaks_at Source (codes "a\n++") (codes ";") (Tree.MoreStmts (Tree.Do (Tree.Ident (codes "a"))) (Tree.MoreStmts (Tree.Do (Tree.Prefix p.Increment (Tree.Ident (codes "b")))) Tree.NoStmts)) (name (codes "b") false ∷ mark m.Semicolon false ∷ []) (name (codes "a") false ∷ mark m.PlusPlus true ∷ name (codes "b") false ∷ mark m.Semicolon false ∷ []) (name (codes "a") false ∷ mark m.PlusPlus true ∷ mark m.Semicolon false ∷ []) refl refl (g.source_and (g.statement (g.expression (g.identifier false (lit≤ tt) refl) (λ e. cc) (λ e. cc) (e.at_line refl refl (λ e. cc)))) (g.source_and (g.statement (g.expression (g.changed p.Increment true (lit≤ tt) refl (g.identifier false (lit≤ tt) refl) refl) (λ e. cc) (λ e. cc) (e.written false))) g.no_source)) (lit≤ tt) (λ others. refl)

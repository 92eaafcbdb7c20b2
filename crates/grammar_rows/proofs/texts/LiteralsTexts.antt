-- Literals (ES3 11.1).
use Rattle.std.proofs.Common.{true, false, [], ◌∷◌, codes, None, refl, lit≤}
use Rattle.std.specs.Fmt.{digits}
use Rattle.std.specs.Char.Utf16.{utf16_chars}
use Rattle.unicode_ident.proofs.Computing.{unicode_ident}
use Rattle.js_lexer.specs.declared.mark.Mark.TheVariants as m
use Rattle.js_lexer.specs.declared.word.Word.TheVariants as w
use Rattle.js_parser.specs.declared.form.Form.TheVariants.{Source}
use Rattle.js_parser.specs.Symbols.{word, mark, name, number, number_in, string}
use Rattle.js_parser.specs.Ends as e
use Rattle.js_tree.specs.Tree
use Rattle.js_parser.specs.Grammar as g
use Rattle.grammar_rows.specs.TextRows.{BreaksAt, Reads, Same}
use Rattle.grammar_rows.proofs.TextRowLemmas.{reads_as, same_tree, breaks_at}

pub primaries : Reads Source (codes "this ; null ; true ; false ; 1 ; 0x1F ; \"b\"") (codes "this;null;true;false;1;31;\"b\";\n")
unfolding unicode_ident utf16_chars digits
primaries = reads_as Source (codes "this ; null ; true ; false ; 1 ; 0x1F ; \"b\"") (Tree.MoreStmts (Tree.Do Tree.This) (Tree.MoreStmts (Tree.Do Tree.Null) (Tree.MoreStmts (Tree.Do (Tree.Truth true)) (Tree.MoreStmts (Tree.Do (Tree.Truth false)) (Tree.MoreStmts (Tree.Do (Tree.Num 1)) (Tree.MoreStmts (Tree.Do (Tree.Num 31)) (Tree.MoreStmts (Tree.Do (Tree.Str (codes "b"))) Tree.NoStmts))))))) (word w.This false ∷ mark m.Semicolon false ∷ word w.Null false ∷ mark m.Semicolon false ∷ word w.True false ∷ mark m.Semicolon false ∷ word w.False false ∷ mark m.Semicolon false ∷ number 1 false ∷ mark m.Semicolon false ∷ number_in false 31 false ∷ mark m.Semicolon false ∷ string (codes "b") false ∷ []) refl (g.source_and (g.statement (g.expression (g.this false (lit≤ tt)) (λ e. cc) (λ e. cc) (e.written false))) (g.source_and (g.statement (g.expression (g.null false (lit≤ tt)) (λ e. cc) (λ e. cc) (e.written false))) (g.source_and (g.statement (g.expression (g.truth false (lit≤ tt)) (λ e. cc) (λ e. cc) (e.written false))) (g.source_and (g.statement (g.expression (g.falsehood false (lit≤ tt)) (λ e. cc) (λ e. cc) (e.written false))) (g.source_and (g.statement (g.expression (g.numeral true false (lit≤ tt)) (λ e. cc) (λ e. cc) (e.written false))) (g.source_and (g.statement (g.expression (g.numeral false false (lit≤ tt)) (λ e. cc) (λ e. cc) (e.written false))) (g.source_and (g.statement (g.expression (g.literal false (lit≤ tt)) (λ e. cc) (λ e. cc) (e.at_end refl))) g.no_source))))))) (record { few = lit≤ tt; low = lit≤ tt; flat = lit≤ tt; closed = lit≤ tt }) refl

pub arrays : Reads Source (codes "[ ] ; [ 1 ] ; [ 1 , ] ; [ , ] ; [ 1 , , 2 , ] ; [ , , 1 ]") (codes "[];[1];[1];[,];[1,,2];[,,1];\n")
unfolding unicode_ident utf16_chars digits
arrays = reads_as Source (codes "[ ] ; [ 1 ] ; [ 1 , ] ; [ , ] ; [ 1 , , 2 , ] ; [ , , 1 ]") (Tree.MoreStmts (Tree.Do (Tree.Array Tree.NoElements)) (Tree.MoreStmts (Tree.Do (Tree.Array (Tree.MoreElements (Tree.AnExpr (Tree.Num 1)) Tree.NoElements))) (Tree.MoreStmts (Tree.Do (Tree.Array (Tree.MoreElements (Tree.AnExpr (Tree.Num 1)) Tree.NoElements))) (Tree.MoreStmts (Tree.Do (Tree.Array (Tree.MoreElements Tree.NoExpr Tree.NoElements))) (Tree.MoreStmts (Tree.Do (Tree.Array (Tree.MoreElements (Tree.AnExpr (Tree.Num 1)) (Tree.MoreElements Tree.NoExpr (Tree.MoreElements (Tree.AnExpr (Tree.Num 2)) Tree.NoElements))))) (Tree.MoreStmts (Tree.Do (Tree.Array (Tree.MoreElements Tree.NoExpr (Tree.MoreElements Tree.NoExpr (Tree.MoreElements (Tree.AnExpr (Tree.Num 1)) Tree.NoElements))))) Tree.NoStmts)))))) (mark m.OpenBracket false ∷ mark m.CloseBracket false ∷ mark m.Semicolon false ∷ mark m.OpenBracket false ∷ number 1 false ∷ mark m.CloseBracket false ∷ mark m.Semicolon false ∷ mark m.OpenBracket false ∷ number 1 false ∷ mark m.Comma false ∷ mark m.CloseBracket false ∷ mark m.Semicolon false ∷ mark m.OpenBracket false ∷ mark m.Comma false ∷ mark m.CloseBracket false ∷ mark m.Semicolon false ∷ mark m.OpenBracket false ∷ number 1 false ∷ mark m.Comma false ∷ mark m.Comma false ∷ number 2 false ∷ mark m.Comma false ∷ mark m.CloseBracket false ∷ mark m.Semicolon false ∷ mark m.OpenBracket false ∷ mark m.Comma false ∷ mark m.Comma false ∷ number 1 false ∷ mark m.CloseBracket false ∷ []) refl (g.source_and (g.statement (g.expression (g.array false false (lit≤ tt) g.no_element) (λ e. cc) (λ e. cc) (e.written false))) (g.source_and (g.statement (g.expression (g.array false false (lit≤ tt) (g.last_element (g.numeral true false (lit≤ tt)))) (λ e. cc) (λ e. cc) (e.written false))) (g.source_and (g.statement (g.expression (g.array false false (lit≤ tt) (g.element_and false (g.numeral true false (lit≤ tt)) g.no_element)) (λ e. cc) (λ e. cc) (e.written false))) (g.source_and (g.statement (g.expression (g.array false false (lit≤ tt) (g.hole_and false g.no_element)) (λ e. cc) (λ e. cc) (e.written false))) (g.source_and (g.statement (g.expression (g.array false false (lit≤ tt) (g.element_and false (g.numeral true false (lit≤ tt)) (g.hole_and false (g.element_and false (g.numeral true false (lit≤ tt)) g.no_element)))) (λ e. cc) (λ e. cc) (e.written false))) (g.source_and (g.statement (g.expression (g.array false false (lit≤ tt) (g.hole_and false (g.hole_and false (g.last_element (g.numeral true false (lit≤ tt)))))) (λ e. cc) (λ e. cc) (e.at_end refl))) g.no_source)))))) (record { few = lit≤ tt; low = lit≤ tt; flat = lit≤ tt; closed = lit≤ tt }) refl

pub objects : Reads Source (codes "( { } ) ; ( { a : 1 } ) ; ( { a : 1 , } ) ; ( { \"b\" : 1 , 2 : 3 , 0x1F : 4 } )") (codes "({});({a:1});({a:1});({b:1,\"2\":3,\"31\":4});\n")
unfolding unicode_ident utf16_chars digits
objects = reads_as Source (codes "( { } ) ; ( { a : 1 } ) ; ( { a : 1 , } ) ; ( { \"b\" : 1 , 2 : 3 , 0x1F : 4 } )") (Tree.MoreStmts (Tree.Do (Tree.Object Tree.NoPairs)) (Tree.MoreStmts (Tree.Do (Tree.Object (Tree.MorePairs (codes "a") (Tree.Num 1) Tree.NoPairs))) (Tree.MoreStmts (Tree.Do (Tree.Object (Tree.MorePairs (codes "a") (Tree.Num 1) Tree.NoPairs))) (Tree.MoreStmts (Tree.Do (Tree.Object (Tree.MorePairs (codes "b") (Tree.Num 1) (Tree.MorePairs (codes "2") (Tree.Num 3) (Tree.MorePairs (codes "31") (Tree.Num 4) Tree.NoPairs))))) Tree.NoStmts)))) (mark m.OpenParenthesis false ∷ mark m.OpenBrace false ∷ mark m.CloseBrace false ∷ mark m.CloseParenthesis false ∷ mark m.Semicolon false ∷ mark m.OpenParenthesis false ∷ mark m.OpenBrace false ∷ name (codes "a") false ∷ mark m.Colon false ∷ number 1 false ∷ mark m.CloseBrace false ∷ mark m.CloseParenthesis false ∷ mark m.Semicolon false ∷ mark m.OpenParenthesis false ∷ mark m.OpenBrace false ∷ name (codes "a") false ∷ mark m.Colon false ∷ number 1 false ∷ mark m.Comma false ∷ mark m.CloseBrace false ∷ mark m.CloseParenthesis false ∷ mark m.Semicolon false ∷ mark m.OpenParenthesis false ∷ mark m.OpenBrace false ∷ string (codes "b") false ∷ mark m.Colon false ∷ number 1 false ∷ mark m.Comma false ∷ number 2 false ∷ mark m.Colon false ∷ number 3 false ∷ mark m.Comma false ∷ number_in false 31 false ∷ mark m.Colon false ∷ number 4 false ∷ mark m.CloseBrace false ∷ mark m.CloseParenthesis false ∷ []) refl (g.source_and (g.statement (g.expression (g.parenthesised false false (lit≤ tt) (g.object false false (lit≤ tt) g.no_property)) (λ e. cc) (λ e. cc) (e.written false))) (g.source_and (g.statement (g.expression (g.parenthesised false false (lit≤ tt) (g.object false false (lit≤ tt) (g.last_property (name (codes "a") false) false refl (g.numeral true false (lit≤ tt))))) (λ e. cc) (λ e. cc) (e.written false))) (g.source_and (g.statement (g.expression (g.parenthesised false false (lit≤ tt) (g.object false false (lit≤ tt) (g.property_and (name (codes "a") false) false false refl (g.numeral true false (lit≤ tt)) g.no_property))) (λ e. cc) (λ e. cc) (e.written false))) (g.source_and (g.statement (g.expression (g.parenthesised false false (lit≤ tt) (g.object false false (lit≤ tt) (g.property_and (string (codes "b") false) false false refl (g.numeral true false (lit≤ tt)) (g.property_and (number 2 false) false false refl (g.numeral true false (lit≤ tt)) (g.last_property (number_in false 31 false) false refl (g.numeral true false (lit≤ tt))))))) (λ e. cc) (λ e. cc) (e.at_end refl))) g.no_source)))) (record { few = lit≤ tt; low = lit≤ tt; flat = lit≤ tt; closed = lit≤ tt }) refl

pub elements : Same Source (codes "[ a = b , c ] ; ( { a : b = c , d : e } )") (codes "[ ( a = b ) , ( c ) ] ; ( { a : ( b = c ) , d : ( e ) } )")
elements = same_tree Source (codes "[ a = b , c ] ; ( { a : b = c , d : e } )") (codes "[ ( a = b ) , ( c ) ] ; ( { a : ( b = c ) , d : ( e ) } )") (Tree.MoreStmts (Tree.Do (Tree.Array (Tree.MoreElements (Tree.AnExpr (Tree.Assign None (Tree.Ident (codes "a")) (Tree.Ident (codes "b")))) (Tree.MoreElements (Tree.AnExpr (Tree.Ident (codes "c"))) Tree.NoElements)))) (Tree.MoreStmts (Tree.Do (Tree.Object (Tree.MorePairs (codes "a") (Tree.Assign None (Tree.Ident (codes "b")) (Tree.Ident (codes "c"))) (Tree.MorePairs (codes "d") (Tree.Ident (codes "e")) Tree.NoPairs)))) Tree.NoStmts)) (mark m.OpenBracket false ∷ name (codes "a") false ∷ mark m.Assign false ∷ name (codes "b") false ∷ mark m.Comma false ∷ name (codes "c") false ∷ mark m.CloseBracket false ∷ mark m.Semicolon false ∷ mark m.OpenParenthesis false ∷ mark m.OpenBrace false ∷ name (codes "a") false ∷ mark m.Colon false ∷ name (codes "b") false ∷ mark m.Assign false ∷ name (codes "c") false ∷ mark m.Comma false ∷ name (codes "d") false ∷ mark m.Colon false ∷ name (codes "e") false ∷ mark m.CloseBrace false ∷ mark m.CloseParenthesis false ∷ []) (mark m.OpenBracket false ∷ mark m.OpenParenthesis false ∷ name (codes "a") false ∷ mark m.Assign false ∷ name (codes "b") false ∷ mark m.CloseParenthesis false ∷ mark m.Comma false ∷ mark m.OpenParenthesis false ∷ name (codes "c") false ∷ mark m.CloseParenthesis false ∷ mark m.CloseBracket false ∷ mark m.Semicolon false ∷ mark m.OpenParenthesis false ∷ mark m.OpenBrace false ∷ name (codes "a") false ∷ mark m.Colon false ∷ mark m.OpenParenthesis false ∷ name (codes "b") false ∷ mark m.Assign false ∷ name (codes "c") false ∷ mark m.CloseParenthesis false ∷ mark m.Comma false ∷ name (codes "d") false ∷ mark m.Colon false ∷ mark m.OpenParenthesis false ∷ name (codes "e") false ∷ mark m.CloseParenthesis false ∷ mark m.CloseBrace false ∷ mark m.CloseParenthesis false ∷ []) refl refl (g.source_and (g.statement (g.expression (g.array false false (lit≤ tt) (g.element_and false (g.assign None m.Assign false (lit≤ tt) refl (g.identifier false (lit≤ tt) refl) refl (g.identifier false (lit≤ tt) refl)) (g.last_element (g.identifier false (lit≤ tt) refl)))) (λ e. cc) (λ e. cc) (e.written false))) (g.source_and (g.statement (g.expression (g.parenthesised false false (lit≤ tt) (g.object false false (lit≤ tt) (g.property_and (name (codes "a") false) false false refl (g.assign None m.Assign false (lit≤ tt) refl (g.identifier false (lit≤ tt) refl) refl (g.identifier false (lit≤ tt) refl)) (g.last_property (name (codes "d") false) false refl (g.identifier false (lit≤ tt) refl))))) (λ e. cc) (λ e. cc) (e.at_end refl))) g.no_source)) (record { few = lit≤ tt; low = lit≤ tt; flat = lit≤ tt; closed = lit≤ tt }) (g.source_and (g.statement (g.expression (g.array false false (lit≤ tt) (g.element_and false (g.parenthesised false false (lit≤ tt) (g.assign None m.Assign false (lit≤ tt) refl (g.identifier false (lit≤ tt) refl) refl (g.identifier false (lit≤ tt) refl))) (g.last_element (g.parenthesised false false (lit≤ tt) (g.identifier false (lit≤ tt) refl))))) (λ e. cc) (λ e. cc) (e.written false))) (g.source_and (g.statement (g.expression (g.parenthesised false false (lit≤ tt) (g.object false false (lit≤ tt) (g.property_and (name (codes "a") false) false false refl (g.parenthesised false false (lit≤ tt) (g.assign None m.Assign false (lit≤ tt) refl (g.identifier false (lit≤ tt) refl) refl (g.identifier false (lit≤ tt) refl))) (g.last_property (name (codes "d") false) false refl (g.parenthesised false false (lit≤ tt) (g.identifier false (lit≤ tt) refl)))))) (λ e. cc) (λ e. cc) (e.at_end refl))) g.no_source)) (record { few = lit≤ tt; low = lit≤ tt; flat = lit≤ tt; closed = lit≤ tt })

pub array_ends : BreaksAt Source (codes "[ 1") (codes ";")
array_ends = breaks_at Source (codes "[ 1") (codes ";") (Tree.MoreStmts (Tree.Do (Tree.Array (Tree.MoreElements (Tree.AnExpr (Tree.Num 1)) Tree.NoElements))) Tree.NoStmts) (mark m.CloseBracket false ∷ []) (mark m.OpenBracket false ∷ number 1 false ∷ mark m.CloseBracket false ∷ []) (mark m.OpenBracket false ∷ number 1 false ∷ mark m.Semicolon false ∷ []) refl refl (g.source_and (g.statement (g.expression (g.array false false (lit≤ tt) (g.last_element (g.numeral true false (lit≤ tt)))) (λ e. cc) (λ e. cc) (e.at_end refl))) g.no_source) (lit≤ tt) (λ others. refl)

pub object_begins : BreaksAt Source (codes "x = {") (codes ",")
object_begins = breaks_at Source (codes "x = {") (codes ",") (Tree.MoreStmts (Tree.Do (Tree.Assign None (Tree.Ident (codes "x")) (Tree.Object Tree.NoPairs))) Tree.NoStmts) (mark m.CloseBrace false ∷ mark m.Semicolon false ∷ []) (name (codes "x") false ∷ mark m.Assign false ∷ mark m.OpenBrace false ∷ mark m.CloseBrace false ∷ mark m.Semicolon false ∷ []) (name (codes "x") false ∷ mark m.Assign false ∷ mark m.OpenBrace false ∷ mark m.Comma false ∷ []) refl refl (g.source_and (g.statement (g.expression (g.assign None m.Assign false (lit≤ tt) refl (g.identifier false (lit≤ tt) refl) refl (g.object false false (lit≤ tt) g.no_property)) (λ e. cc) (λ e. cc) (e.written false))) g.no_source) (lit≤ tt) (λ others. refl)

pub one_comma_ends : BreaksAt Source (codes "x = { a : 1 ,") (codes ",")
one_comma_ends = breaks_at Source (codes "x = { a : 1 ,") (codes ",") (Tree.MoreStmts (Tree.Do (Tree.Assign None (Tree.Ident (codes "x")) (Tree.Object (Tree.MorePairs (codes "a") (Tree.Num 1) Tree.NoPairs)))) Tree.NoStmts) (mark m.CloseBrace false ∷ mark m.Semicolon false ∷ []) (name (codes "x") false ∷ mark m.Assign false ∷ mark m.OpenBrace false ∷ name (codes "a") false ∷ mark m.Colon false ∷ number 1 false ∷ mark m.Comma false ∷ mark m.CloseBrace false ∷ mark m.Semicolon false ∷ []) (name (codes "x") false ∷ mark m.Assign false ∷ mark m.OpenBrace false ∷ name (codes "a") false ∷ mark m.Colon false ∷ number 1 false ∷ mark m.Comma false ∷ mark m.Comma false ∷ []) refl refl (g.source_and (g.statement (g.expression (g.assign None m.Assign false (lit≤ tt) refl (g.identifier false (lit≤ tt) refl) refl (g.object false false (lit≤ tt) (g.property_and (name (codes "a") false) false false refl (g.numeral true false (lit≤ tt)) g.no_property))) (λ e. cc) (λ e. cc) (e.written false))) g.no_source) (lit≤ tt) (λ others. refl)

pub key_is_no_word : BreaksAt Source (codes "x = {") (codes "if")
key_is_no_word = breaks_at Source (codes "x = {") (codes "if") (Tree.MoreStmts (Tree.Do (Tree.Assign None (Tree.Ident (codes "x")) (Tree.Object Tree.NoPairs))) Tree.NoStmts) (mark m.CloseBrace false ∷ mark m.Semicolon false ∷ []) (name (codes "x") false ∷ mark m.Assign false ∷ mark m.OpenBrace false ∷ mark m.CloseBrace false ∷ mark m.Semicolon false ∷ []) (name (codes "x") false ∷ mark m.Assign false ∷ mark m.OpenBrace false ∷ word w.If false ∷ []) refl refl (g.source_and (g.statement (g.expression (g.assign None m.Assign false (lit≤ tt) refl (g.identifier false (lit≤ tt) refl) refl (g.object false false (lit≤ tt) g.no_property)) (λ e. cc) (λ e. cc) (e.written false))) g.no_source) (lit≤ tt) (λ others. refl)

pub key_has_a_value : BreaksAt Source (codes "x = { a") (codes ",")
key_has_a_value = breaks_at Source (codes "x = { a") (codes ",") (Tree.MoreStmts (Tree.Do (Tree.Assign None (Tree.Ident (codes "x")) (Tree.Object (Tree.MorePairs (codes "a") (Tree.Num 1) Tree.NoPairs)))) Tree.NoStmts) (mark m.Colon false ∷ number 1 false ∷ mark m.CloseBrace false ∷ mark m.Semicolon false ∷ []) (name (codes "x") false ∷ mark m.Assign false ∷ mark m.OpenBrace false ∷ name (codes "a") false ∷ mark m.Colon false ∷ number 1 false ∷ mark m.CloseBrace false ∷ mark m.Semicolon false ∷ []) (name (codes "x") false ∷ mark m.Assign false ∷ mark m.OpenBrace false ∷ name (codes "a") false ∷ mark m.Comma false ∷ []) refl refl (g.source_and (g.statement (g.expression (g.assign None m.Assign false (lit≤ tt) refl (g.identifier false (lit≤ tt) refl) refl (g.object false false (lit≤ tt) (g.last_property (name (codes "a") false) false refl (g.numeral true false (lit≤ tt))))) (λ e. cc) (λ e. cc) (e.written false))) g.no_source) (lit≤ tt) (λ others. refl)

pub key_is_no_list : BreaksAt Source (codes "x = {") (codes "[")
key_is_no_list = breaks_at Source (codes "x = {") (codes "[") (Tree.MoreStmts (Tree.Do (Tree.Assign None (Tree.Ident (codes "x")) (Tree.Object Tree.NoPairs))) Tree.NoStmts) (mark m.CloseBrace false ∷ mark m.Semicolon false ∷ []) (name (codes "x") false ∷ mark m.Assign false ∷ mark m.OpenBrace false ∷ mark m.CloseBrace false ∷ mark m.Semicolon false ∷ []) (name (codes "x") false ∷ mark m.Assign false ∷ mark m.OpenBrace false ∷ mark m.OpenBracket false ∷ []) refl refl (g.source_and (g.statement (g.expression (g.assign None m.Assign false (lit≤ tt) refl (g.identifier false (lit≤ tt) refl) refl (g.object false false (lit≤ tt) g.no_property)) (λ e. cc) (λ e. cc) (e.written false))) g.no_source) (lit≤ tt) (λ others. refl)

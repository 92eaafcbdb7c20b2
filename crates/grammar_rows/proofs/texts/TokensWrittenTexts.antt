-- What tokens are written as.
use Rattle.std.proofs.Common.{true, false, [], ◌∷◌, codes, Some, refl, lit≤}
use Rattle.std.specs.Fmt.{digits}
use Rattle.std.specs.Char.Utf16.{utf16_chars}
use Rattle.unicode_ident.proofs.Computing.{unicode_ident}
use Rattle.js_lexer.specs.declared.mark.Mark.TheVariants as m
use Rattle.js_lexer.specs.declared.word.Word.TheVariants as w
use Rattle.js_parser.specs.declared.form.Form.TheVariants.{Source}
use Rattle.js_parser.specs.Symbols.{word, mark, name, number, number_in, string}
use Rattle.js_parser.specs.Ends as e
use Rattle.js_tree.specs.Tree
use Rattle.js_parser.specs.Grammar as g
use Rattle.grammar_rows.specs.TextRows.{Reads}
use Rattle.grammar_rows.proofs.TextRowLemmas.{reads_as}

pub numbers : Reads Source (codes "0 ; 10 ; 0xff ; 9007199254740991") (codes "0;10;255;9007199254740991;\n")
unfolding unicode_ident utf16_chars digits
numbers = reads_as Source (codes "0 ; 10 ; 0xff ; 9007199254740991") (Tree.MoreStmts (Tree.Do (Tree.Num 0)) (Tree.MoreStmts (Tree.Do (Tree.Num 10)) (Tree.MoreStmts (Tree.Do (Tree.Num 255)) (Tree.MoreStmts (Tree.Do (Tree.Num 9007199254740991)) Tree.NoStmts)))) (number 0 false ∷ mark m.Semicolon false ∷ number 10 false ∷ mark m.Semicolon false ∷ number_in false 255 false ∷ mark m.Semicolon false ∷ number 9007199254740991 false ∷ []) refl (g.source_and (g.statement (g.expression (g.numeral true false (lit≤ tt)) (λ e. cc) (λ e. cc) (e.written false))) (g.source_and (g.statement (g.expression (g.numeral true false (lit≤ tt)) (λ e. cc) (λ e. cc) (e.written false))) (g.source_and (g.statement (g.expression (g.numeral false false (lit≤ tt)) (λ e. cc) (λ e. cc) (e.written false))) (g.source_and (g.statement (g.expression (g.numeral true false (lit≤ tt)) (λ e. cc) (λ e. cc) (e.at_end refl))) g.no_source)))) (record { few = lit≤ tt; low = lit≤ tt; flat = lit≤ tt; closed = lit≤ tt }) refl

pub strings : Reads Source (codes "\"\" ; \"a'b\" ; \"é\" ; \"~!\"") (codes "\"\";\"a'b\";\"\\u00e9\";\"~!\";\n")
unfolding unicode_ident utf16_chars digits
strings = reads_as Source (codes "\"\" ; \"a'b\" ; \"é\" ; \"~!\"") (Tree.MoreStmts (Tree.Do (Tree.Str (codes ""))) (Tree.MoreStmts (Tree.Do (Tree.Str (codes "a'b"))) (Tree.MoreStmts (Tree.Do (Tree.Str (codes "é"))) (Tree.MoreStmts (Tree.Do (Tree.Str (codes "~!"))) Tree.NoStmts)))) (string (codes "") false ∷ mark m.Semicolon false ∷ string (codes "a'b") false ∷ mark m.Semicolon false ∷ string (codes "é") false ∷ mark m.Semicolon false ∷ string (codes "~!") false ∷ []) refl (g.source_and (g.statement (g.expression (g.literal false (lit≤ tt)) (λ e. cc) (λ e. cc) (e.written false))) (g.source_and (g.statement (g.expression (g.literal false (lit≤ tt)) (λ e. cc) (λ e. cc) (e.written false))) (g.source_and (g.statement (g.expression (g.literal false (lit≤ tt)) (λ e. cc) (λ e. cc) (e.written false))) (g.source_and (g.statement (g.expression (g.literal false (lit≤ tt)) (λ e. cc) (λ e. cc) (e.at_end refl))) g.no_source)))) (record { few = lit≤ tt; low = lit≤ tt; flat = lit≤ tt; closed = lit≤ tt }) refl

pub keys : Reads Source (codes "( { a1 : 1 , \"b\" : 2 , \"if\" : 3 , \"\" : 4 , \"1a\" : 5 , é : 6 , 7 : 8 , \"a-b\" : 9 } )") (codes "({a1:1,b:2,\"if\":3,\"\":4,\"1a\":5,\"\\u00e9\":6,\"7\":8,\"a-b\":9});\n")
unfolding unicode_ident utf16_chars digits
keys = reads_as Source (codes "( { a1 : 1 , \"b\" : 2 , \"if\" : 3 , \"\" : 4 , \"1a\" : 5 , é : 6 , 7 : 8 , \"a-b\" : 9 } )") (Tree.MoreStmts (Tree.Do (Tree.Object (Tree.MorePairs (codes "a1") (Tree.Num 1) (Tree.MorePairs (codes "b") (Tree.Num 2) (Tree.MorePairs (codes "if") (Tree.Num 3) (Tree.MorePairs (codes "") (Tree.Num 4) (Tree.MorePairs (codes "1a") (Tree.Num 5) (Tree.MorePairs (codes "é") (Tree.Num 6) (Tree.MorePairs (codes "7") (Tree.Num 8) (Tree.MorePairs (codes "a-b") (Tree.Num 9) Tree.NoPairs)))))))))) Tree.NoStmts) (mark m.OpenParenthesis false ∷ mark m.OpenBrace false ∷ name (codes "a1") false ∷ mark m.Colon false ∷ number 1 false ∷ mark m.Comma false ∷ string (codes "b") false ∷ mark m.Colon false ∷ number 2 false ∷ mark m.Comma false ∷ string (codes "if") false ∷ mark m.Colon false ∷ number 3 false ∷ mark m.Comma false ∷ string (codes "") false ∷ mark m.Colon false ∷ number 4 false ∷ mark m.Comma false ∷ string (codes "1a") false ∷ mark m.Colon false ∷ number 5 false ∷ mark m.Comma false ∷ name (codes "é") false ∷ mark m.Colon false ∷ number 6 false ∷ mark m.Comma false ∷ number 7 false ∷ mark m.Colon false ∷ number 8 false ∷ mark m.Comma false ∷ string (codes "a-b") false ∷ mark m.Colon false ∷ number 9 false ∷ mark m.CloseBrace false ∷ mark m.CloseParenthesis false ∷ []) refl (g.source_and (g.statement (g.expression (g.parenthesised false false (lit≤ tt) (g.object false false (lit≤ tt) (g.property_and (name (codes "a1") false) false false refl (g.numeral true false (lit≤ tt)) (g.property_and (string (codes "b") false) false false refl (g.numeral true false (lit≤ tt)) (g.property_and (string (codes "if") false) false false refl (g.numeral true false (lit≤ tt)) (g.property_and (string (codes "") false) false false refl (g.numeral true false (lit≤ tt)) (g.property_and (string (codes "1a") false) false false refl (g.numeral true false (lit≤ tt)) (g.property_and (name (codes "é") false) false false refl (g.numeral true false (lit≤ tt)) (g.property_and (number 7 false) false false refl (g.numeral true false (lit≤ tt)) (g.last_property (string (codes "a-b") false) false refl (g.numeral true false (lit≤ tt)))))))))))) (λ e. cc) (λ e. cc) (e.at_end refl))) g.no_source) (record { few = lit≤ tt; low = lit≤ tt; flat = lit≤ tt; closed = lit≤ tt }) refl

pub holes : Reads Source (codes "[ , ] ; [ 1 , , ] ; [ , 1 ] ; [ , , ]") (codes "[,];[1,,];[,1];[,,];\n")
unfolding unicode_ident utf16_chars digits
holes = reads_as Source (codes "[ , ] ; [ 1 , , ] ; [ , 1 ] ; [ , , ]") (Tree.MoreStmts (Tree.Do (Tree.Array (Tree.MoreElements Tree.NoExpr Tree.NoElements))) (Tree.MoreStmts (Tree.Do (Tree.Array (Tree.MoreElements (Tree.AnExpr (Tree.Num 1)) (Tree.MoreElements Tree.NoExpr Tree.NoElements)))) (Tree.MoreStmts (Tree.Do (Tree.Array (Tree.MoreElements Tree.NoExpr (Tree.MoreElements (Tree.AnExpr (Tree.Num 1)) Tree.NoElements)))) (Tree.MoreStmts (Tree.Do (Tree.Array (Tree.MoreElements Tree.NoExpr (Tree.MoreElements Tree.NoExpr Tree.NoElements)))) Tree.NoStmts)))) (mark m.OpenBracket false ∷ mark m.Comma false ∷ mark m.CloseBracket false ∷ mark m.Semicolon false ∷ mark m.OpenBracket false ∷ number 1 false ∷ mark m.Comma false ∷ mark m.Comma false ∷ mark m.CloseBracket false ∷ mark m.Semicolon false ∷ mark m.OpenBracket false ∷ mark m.Comma false ∷ number 1 false ∷ mark m.CloseBracket false ∷ mark m.Semicolon false ∷ mark m.OpenBracket false ∷ mark m.Comma false ∷ mark m.Comma false ∷ mark m.CloseBracket false ∷ []) refl (g.source_and (g.statement (g.expression (g.array false false (lit≤ tt) (g.hole_and false g.no_element)) (λ e. cc) (λ e. cc) (e.written false))) (g.source_and (g.statement (g.expression (g.array false false (lit≤ tt) (g.element_and false (g.numeral true false (lit≤ tt)) (g.hole_and false g.no_element))) (λ e. cc) (λ e. cc) (e.written false))) (g.source_and (g.statement (g.expression (g.array false false (lit≤ tt) (g.hole_and false (g.last_element (g.numeral true false (lit≤ tt))))) (λ e. cc) (λ e. cc) (e.written false))) (g.source_and (g.statement (g.expression (g.array false false (lit≤ tt) (g.hole_and false (g.hole_and false g.no_element))) (λ e. cc) (λ e. cc) (e.at_end refl))) g.no_source)))) (record { few = lit≤ tt; low = lit≤ tt; flat = lit≤ tt; closed = lit≤ tt }) refl

pub jumps : Reads Source (codes "a : while ( b ) { break a ; continue a }") (codes "a:while(b){break a;continue a;}\n")
unfolding unicode_ident utf16_chars digits
jumps = reads_as Source (codes "a : while ( b ) { break a ; continue a }") (Tree.MoreStmts (Tree.Label (codes "a") (Tree.While (Tree.Ident (codes "b")) (Tree.Block (Tree.MoreStmts (Tree.Break (Some (codes "a"))) (Tree.MoreStmts (Tree.Continue (Some (codes "a"))) Tree.NoStmts))))) Tree.NoStmts) (name (codes "a") false ∷ mark m.Colon false ∷ word w.While false ∷ mark m.OpenParenthesis false ∷ name (codes "b") false ∷ mark m.CloseParenthesis false ∷ mark m.OpenBrace false ∷ word w.Break false ∷ name (codes "a") false ∷ mark m.Semicolon false ∷ word w.Continue false ∷ name (codes "a") false ∷ mark m.CloseBrace false ∷ []) refl (g.source_and (g.statement (g.label false false refl refl (g.while false false false (g.identifier false (lit≤ tt) refl) (g.block (g.braces false false (g.statement_and (g.break_from false refl refl (e.written false)) (g.statement_and (g.continue_to false refl refl (e.at_brace refl)) g.no_statement))))))) g.no_source) (record { few = lit≤ tt; low = lit≤ tt; flat = lit≤ tt; closed = lit≤ tt }) refl

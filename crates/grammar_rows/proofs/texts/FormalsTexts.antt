-- Formals (ES3 13).
use Rattle.std.proofs.Common.{false, [], ◌∷◌, codes, Some, None, refl, lit≤}
use Rattle.std.specs.Fmt.{digits}
use Rattle.std.specs.Char.Utf16.{utf16_chars}
use Rattle.unicode_ident.proofs.Computing.{unicode_ident}
use Rattle.js_lexer.specs.declared.mark.Mark.TheVariants as m
use Rattle.js_lexer.specs.declared.word.Word.TheVariants as w
use Rattle.js_parser.specs.declared.form.Form.TheVariants.{Source}
use Rattle.js_parser.specs.Symbols.{word, mark, name, number}
use Rattle.js_parser.specs.Ends as e
use Rattle.js_tree.specs.Tree
use Rattle.js_parser.specs.Grammar as g
use Rattle.js_parser.specs.Grammar.{code}
use Rattle.grammar_rows.specs.TextRows.{BreaksAt, Reads}
use Rattle.grammar_rows.proofs.TextRowLemmas.{reads_as, breaks_at}

pub none : Reads Source (codes "function f ( ) { }") (codes "function f(){}\n")
unfolding unicode_ident utf16_chars digits
none = reads_as Source (codes "function f ( ) { }") (Tree.MoreStmts (Tree.Declare (code (Some (codes "f")) [] Tree.NoStmts)) Tree.NoStmts) (word w.Function false ∷ name (codes "f") false ∷ mark m.OpenParenthesis false ∷ mark m.CloseParenthesis false ∷ mark m.OpenBrace false ∷ mark m.CloseBrace false ∷ []) refl (g.source_and (g.declaration false false refl (g.function_rest false false false false g.no_formal refl g.no_source)) g.no_source) (record { few = lit≤ tt; low = lit≤ tt; flat = lit≤ tt; closed = lit≤ tt }) refl

pub some : Reads Source (codes "function f ( a , b , c ) { } x = function ( a ) { }") (codes "function f(a,b,c){}x=function(a){};\n")
unfolding unicode_ident utf16_chars digits
some = reads_as Source (codes "function f ( a , b , c ) { } x = function ( a ) { }") (Tree.MoreStmts (Tree.Declare (code (Some (codes "f")) ((codes "a") ∷ ((codes "b") ∷ ((codes "c") ∷ []))) Tree.NoStmts)) (Tree.MoreStmts (Tree.Do (Tree.Assign None (Tree.Ident (codes "x")) (Tree.Function (code None ((codes "a") ∷ []) Tree.NoStmts)))) Tree.NoStmts)) (word w.Function false ∷ name (codes "f") false ∷ mark m.OpenParenthesis false ∷ name (codes "a") false ∷ mark m.Comma false ∷ name (codes "b") false ∷ mark m.Comma false ∷ name (codes "c") false ∷ mark m.CloseParenthesis false ∷ mark m.OpenBrace false ∷ mark m.CloseBrace false ∷ name (codes "x") false ∷ mark m.Assign false ∷ word w.Function false ∷ mark m.OpenParenthesis false ∷ name (codes "a") false ∷ mark m.CloseParenthesis false ∷ mark m.OpenBrace false ∷ mark m.CloseBrace false ∷ []) refl (g.source_and (g.declaration false false refl (g.function_rest false false false false (g.formal_and false false refl (g.formal_and false false refl (g.last_formal false refl))) refl g.no_source)) (g.source_and (g.statement (g.expression (g.assign None m.Assign false (lit≤ tt) refl (g.identifier false (lit≤ tt) refl) refl (g.function false (lit≤ tt) (g.function_rest false false false false (g.last_formal false refl) refl g.no_source))) (λ e. cc) (λ e. cc) (e.at_end refl))) g.no_source)) (record { few = lit≤ tt; low = lit≤ tt; flat = lit≤ tt; closed = lit≤ tt }) refl

pub of_two_functions : Reads Source (codes "function f ( a ) { function g ( a ) { } }") (codes "function f(a){function g(a){}}\n")
unfolding unicode_ident utf16_chars digits
of_two_functions = reads_as Source (codes "function f ( a ) { function g ( a ) { } }") (Tree.MoreStmts (Tree.Declare (code (Some (codes "f")) ((codes "a") ∷ []) (Tree.MoreStmts (Tree.Declare (code (Some (codes "g")) ((codes "a") ∷ []) Tree.NoStmts)) Tree.NoStmts))) Tree.NoStmts) (word w.Function false ∷ name (codes "f") false ∷ mark m.OpenParenthesis false ∷ name (codes "a") false ∷ mark m.CloseParenthesis false ∷ mark m.OpenBrace false ∷ word w.Function false ∷ name (codes "g") false ∷ mark m.OpenParenthesis false ∷ name (codes "a") false ∷ mark m.CloseParenthesis false ∷ mark m.OpenBrace false ∷ mark m.CloseBrace false ∷ mark m.CloseBrace false ∷ []) refl (g.source_and (g.declaration false false refl (g.function_rest false false false false (g.last_formal false refl) refl (g.source_and (g.declaration false false refl (g.function_rest false false false false (g.last_formal false refl) refl g.no_source)) g.no_source))) g.no_source) (record { few = lit≤ tt; low = lit≤ tt; flat = lit≤ tt; closed = lit≤ tt }) refl

pub as_its_name : Reads Source (codes "function f ( f , a ) { var a ; }") (codes "function f(f,a){var a;}\n")
unfolding unicode_ident utf16_chars digits
as_its_name = reads_as Source (codes "function f ( f , a ) { var a ; }") (Tree.MoreStmts (Tree.Declare (code (Some (codes "f")) ((codes "f") ∷ ((codes "a") ∷ [])) (Tree.MoreStmts (Tree.Variables (Tree.MoreVarItems (codes "a") Tree.NoExpr Tree.NoVarItems)) Tree.NoStmts))) Tree.NoStmts) (word w.Function false ∷ name (codes "f") false ∷ mark m.OpenParenthesis false ∷ name (codes "f") false ∷ mark m.Comma false ∷ name (codes "a") false ∷ mark m.CloseParenthesis false ∷ mark m.OpenBrace false ∷ word w.Var false ∷ name (codes "a") false ∷ mark m.Semicolon false ∷ mark m.CloseBrace false ∷ []) refl (g.source_and (g.declaration false false refl (g.function_rest false false false false (g.formal_and false false refl (g.last_formal false refl)) refl (g.source_and (g.statement (g.variables false (g.last_declarator (g.bare false refl)) (e.written false))) g.no_source))) g.no_source) (record { few = lit≤ tt; low = lit≤ tt; flat = lit≤ tt; closed = lit≤ tt }) refl

pub no_comma_ends : BreaksAt Source (codes "function f ( a ,") (codes ")")
no_comma_ends = breaks_at Source (codes "function f ( a ,") (codes ")") (Tree.MoreStmts (Tree.Declare (code (Some (codes "f")) ((codes "a") ∷ ((codes "b") ∷ [])) Tree.NoStmts)) Tree.NoStmts) (name (codes "b") false ∷ mark m.CloseParenthesis false ∷ mark m.OpenBrace false ∷ mark m.CloseBrace false ∷ []) (word w.Function false ∷ name (codes "f") false ∷ mark m.OpenParenthesis false ∷ name (codes "a") false ∷ mark m.Comma false ∷ name (codes "b") false ∷ mark m.CloseParenthesis false ∷ mark m.OpenBrace false ∷ mark m.CloseBrace false ∷ []) (word w.Function false ∷ name (codes "f") false ∷ mark m.OpenParenthesis false ∷ name (codes "a") false ∷ mark m.Comma false ∷ mark m.CloseParenthesis false ∷ []) refl refl (g.source_and (g.declaration false false refl (g.function_rest false false false false (g.formal_and false false refl (g.last_formal false refl)) refl g.no_source)) g.no_source) (lit≤ tt) (λ others. refl)

pub no_comma_begins : BreaksAt Source (codes "function f (") (codes ",")
no_comma_begins = breaks_at Source (codes "function f (") (codes ",") (Tree.MoreStmts (Tree.Declare (code (Some (codes "f")) [] Tree.NoStmts)) Tree.NoStmts) (mark m.CloseParenthesis false ∷ mark m.OpenBrace false ∷ mark m.CloseBrace false ∷ []) (word w.Function false ∷ name (codes "f") false ∷ mark m.OpenParenthesis false ∷ mark m.CloseParenthesis false ∷ mark m.OpenBrace false ∷ mark m.CloseBrace false ∷ []) (word w.Function false ∷ name (codes "f") false ∷ mark m.OpenParenthesis false ∷ mark m.Comma false ∷ []) refl refl (g.source_and (g.declaration false false refl (g.function_rest false false false false g.no_formal refl g.no_source)) g.no_source) (lit≤ tt) (λ others. refl)

pub no_repeated : BreaksAt Source (codes "function f ( a ,") (codes "a")
no_repeated = breaks_at Source (codes "function f ( a ,") (codes "a") (Tree.MoreStmts (Tree.Declare (code (Some (codes "f")) ((codes "a") ∷ ((codes "b") ∷ [])) Tree.NoStmts)) Tree.NoStmts) (name (codes "b") false ∷ mark m.CloseParenthesis false ∷ mark m.OpenBrace false ∷ mark m.CloseBrace false ∷ []) (word w.Function false ∷ name (codes "f") false ∷ mark m.OpenParenthesis false ∷ name (codes "a") false ∷ mark m.Comma false ∷ name (codes "b") false ∷ mark m.CloseParenthesis false ∷ mark m.OpenBrace false ∷ mark m.CloseBrace false ∷ []) (word w.Function false ∷ name (codes "f") false ∷ mark m.OpenParenthesis false ∷ name (codes "a") false ∷ mark m.Comma false ∷ name (codes "a") false ∷ []) refl refl (g.source_and (g.declaration false false refl (g.function_rest false false false false (g.formal_and false false refl (g.last_formal false refl)) refl g.no_source)) g.no_source) (lit≤ tt) (λ others. refl)

pub no_repeated_later : BreaksAt Source (codes "function f ( a , b , c ,") (codes "b")
no_repeated_later = breaks_at Source (codes "function f ( a , b , c ,") (codes "b") (Tree.MoreStmts (Tree.Declare (code (Some (codes "f")) ((codes "a") ∷ ((codes "b") ∷ ((codes "c") ∷ ((codes "d") ∷ [])))) Tree.NoStmts)) Tree.NoStmts) (name (codes "d") false ∷ mark m.CloseParenthesis false ∷ mark m.OpenBrace false ∷ mark m.CloseBrace false ∷ []) (word w.Function false ∷ name (codes "f") false ∷ mark m.OpenParenthesis false ∷ name (codes "a") false ∷ mark m.Comma false ∷ name (codes "b") false ∷ mark m.Comma false ∷ name (codes "c") false ∷ mark m.Comma false ∷ name (codes "d") false ∷ mark m.CloseParenthesis false ∷ mark m.OpenBrace false ∷ mark m.CloseBrace false ∷ []) (word w.Function false ∷ name (codes "f") false ∷ mark m.OpenParenthesis false ∷ name (codes "a") false ∷ mark m.Comma false ∷ name (codes "b") false ∷ mark m.Comma false ∷ name (codes "c") false ∷ mark m.Comma false ∷ name (codes "b") false ∷ []) refl refl (g.source_and (g.declaration false false refl (g.function_rest false false false false (g.formal_and false false refl (g.formal_and false false refl (g.formal_and false false refl (g.last_formal false refl)))) refl g.no_source)) g.no_source) (lit≤ tt) (λ others. refl)

pub no_repeated_in_expression : BreaksAt Source (codes "x = function ( a ,") (codes "a")
no_repeated_in_expression = breaks_at Source (codes "x = function ( a ,") (codes "a") (Tree.MoreStmts (Tree.Do (Tree.Assign None (Tree.Ident (codes "x")) (Tree.Function (code None ((codes "a") ∷ ((codes "b") ∷ [])) Tree.NoStmts)))) Tree.NoStmts) (name (codes "b") false ∷ mark m.CloseParenthesis false ∷ mark m.OpenBrace false ∷ mark m.CloseBrace false ∷ mark m.Semicolon false ∷ []) (name (codes "x") false ∷ mark m.Assign false ∷ word w.Function false ∷ mark m.OpenParenthesis false ∷ name (codes "a") false ∷ mark m.Comma false ∷ name (codes "b") false ∷ mark m.CloseParenthesis false ∷ mark m.OpenBrace false ∷ mark m.CloseBrace false ∷ mark m.Semicolon false ∷ []) (name (codes "x") false ∷ mark m.Assign false ∷ word w.Function false ∷ mark m.OpenParenthesis false ∷ name (codes "a") false ∷ mark m.Comma false ∷ name (codes "a") false ∷ []) refl refl (g.source_and (g.statement (g.expression (g.assign None m.Assign false (lit≤ tt) refl (g.identifier false (lit≤ tt) refl) refl (g.function false (lit≤ tt) (g.function_rest false false false false (g.formal_and false false refl (g.last_formal false refl)) refl g.no_source))) (λ e. cc) (λ e. cc) (e.written false))) g.no_source) (lit≤ tt) (λ others. refl)

pub no_number : BreaksAt Source (codes "function f (") (codes "1")
no_number = breaks_at Source (codes "function f (") (codes "1") (Tree.MoreStmts (Tree.Declare (code (Some (codes "f")) [] Tree.NoStmts)) Tree.NoStmts) (mark m.CloseParenthesis false ∷ mark m.OpenBrace false ∷ mark m.CloseBrace false ∷ []) (word w.Function false ∷ name (codes "f") false ∷ mark m.OpenParenthesis false ∷ mark m.CloseParenthesis false ∷ mark m.OpenBrace false ∷ mark m.CloseBrace false ∷ []) (word w.Function false ∷ name (codes "f") false ∷ mark m.OpenParenthesis false ∷ number 1 false ∷ []) refl refl (g.source_and (g.declaration false false refl (g.function_rest false false false false g.no_formal refl g.no_source)) g.no_source) (lit≤ tt) (λ others. refl)

pub no_body : BreaksAt Source (codes "function f ( a )") (codes ";")
no_body = breaks_at Source (codes "function f ( a )") (codes ";") (Tree.MoreStmts (Tree.Declare (code (Some (codes "f")) ((codes "a") ∷ []) Tree.NoStmts)) Tree.NoStmts) (mark m.OpenBrace false ∷ mark m.CloseBrace false ∷ []) (word w.Function false ∷ name (codes "f") false ∷ mark m.OpenParenthesis false ∷ name (codes "a") false ∷ mark m.CloseParenthesis false ∷ mark m.OpenBrace false ∷ mark m.CloseBrace false ∷ []) (word w.Function false ∷ name (codes "f") false ∷ mark m.OpenParenthesis false ∷ name (codes "a") false ∷ mark m.CloseParenthesis false ∷ mark m.Semicolon false ∷ []) refl refl (g.source_and (g.declaration false false refl (g.function_rest false false false false (g.last_formal false refl) refl g.no_source)) g.no_source) (lit≤ tt) (λ others. refl)

pub no_name : BreaksAt Source (codes "function") (codes "(")
no_name = breaks_at Source (codes "function") (codes "(") (Tree.MoreStmts (Tree.Declare (code (Some (codes "f")) [] Tree.NoStmts)) Tree.NoStmts) (name (codes "f") false ∷ mark m.OpenParenthesis false ∷ mark m.CloseParenthesis false ∷ mark m.OpenBrace false ∷ mark m.CloseBrace false ∷ []) (word w.Function false ∷ name (codes "f") false ∷ mark m.OpenParenthesis false ∷ mark m.CloseParenthesis false ∷ mark m.OpenBrace false ∷ mark m.CloseBrace false ∷ []) (word w.Function false ∷ mark m.OpenParenthesis false ∷ []) refl refl (g.source_and (g.declaration false false refl (g.function_rest false false false false g.no_formal refl g.no_source)) g.no_source) (lit≤ tt) (λ others. refl)

pub open_body : BreaksAt Source (codes "function f ( ) {") (codes ")")
open_body = breaks_at Source (codes "function f ( ) {") (codes ")") (Tree.MoreStmts (Tree.Declare (code (Some (codes "f")) [] Tree.NoStmts)) Tree.NoStmts) (mark m.CloseBrace false ∷ []) (word w.Function false ∷ name (codes "f") false ∷ mark m.OpenParenthesis false ∷ mark m.CloseParenthesis false ∷ mark m.OpenBrace false ∷ mark m.CloseBrace false ∷ []) (word w.Function false ∷ name (codes "f") false ∷ mark m.OpenParenthesis false ∷ mark m.CloseParenthesis false ∷ mark m.OpenBrace false ∷ mark m.CloseParenthesis false ∷ []) refl refl (g.source_and (g.declaration false false refl (g.function_rest false false false false g.no_formal refl g.no_source)) g.no_source) (lit≤ tt) (λ others. refl)

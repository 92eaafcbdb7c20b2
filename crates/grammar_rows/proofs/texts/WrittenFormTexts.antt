-- What the form Written adds.
use Rattle.std.proofs.Common.{true, false, [], ◌∷◌, codes, Some, None, refl, lit≤}
use Rattle.std.specs.Fmt.{digits}
use Rattle.std.specs.Char.Utf16.{utf16_chars}
use Rattle.unicode_ident.proofs.Computing.{unicode_ident}
use Rattle.js_lexer.specs.declared.mark.Mark.TheVariants as m
use Rattle.js_lexer.specs.declared.word.Word.TheVariants as w
use Rattle.js_parser.specs.declared.form.Form.TheVariants.{Source, Written}
use Rattle.js_parser.specs.Symbols.{word, mark, name, number, number_in, string}
use Rattle.js_parser.specs.Ends as e
use Rattle.js_tree.specs.Tree
use Rattle.js_parser.specs.Grammar as g
use Rattle.js_parser.specs.Grammar.{code}
use Rattle.grammar_rows.specs.TextRows.{BreaksAt, Reads}
use Rattle.grammar_rows.proofs.TextRowLemmas.{reads_as, breaks_at}

pub late : Reads Written (codes "x = eval ( $dl_get ( 1 ) ) ; eval ( $dl_get ( 65535 ) ) . apply ( a )") (codes "x=eval($dl_get(1));eval($dl_get(65535)).apply(a);\n")
unfolding unicode_ident utf16_chars digits
late = reads_as Written (codes "x = eval ( $dl_get ( 1 ) ) ; eval ( $dl_get ( 65535 ) ) . apply ( a )") (Tree.MoreStmts (Tree.Do (Tree.Assign None (Tree.Ident (codes "x")) (Tree.Late 1))) (Tree.MoreStmts (Tree.Do (Tree.Call (Tree.Dot (Tree.Late 65535) (codes "apply")) (Tree.MoreExprs (Tree.Ident (codes "a")) Tree.NoExprs))) Tree.NoStmts)) (name (codes "x") false ∷ mark m.Assign false ∷ name (codes "eval") false ∷ mark m.OpenParenthesis false ∷ name (codes "$dl_get") false ∷ mark m.OpenParenthesis false ∷ number 1 false ∷ mark m.CloseParenthesis false ∷ mark m.CloseParenthesis false ∷ mark m.Semicolon false ∷ name (codes "eval") false ∷ mark m.OpenParenthesis false ∷ name (codes "$dl_get") false ∷ mark m.OpenParenthesis false ∷ number 65535 false ∷ mark m.CloseParenthesis false ∷ mark m.CloseParenthesis false ∷ mark m.Dot false ∷ name (codes "apply") false ∷ mark m.OpenParenthesis false ∷ name (codes "a") false ∷ mark m.CloseParenthesis false ∷ []) refl (g.source_and (g.statement (g.expression (g.assign None m.Assign false (lit≤ tt) refl (g.identifier false (lit≤ tt) refl) refl (g.late false false false false false false false (lit≤ tt) refl refl)) (λ e. cc) (λ e. cc) (e.written false))) (g.source_and (g.statement (g.expression (g.call (lit≤ tt) (g.dot 18 false false (lit≤ tt) (lit≤ tt) (lit≤ tt) (g.late false false false false false false false (lit≤ tt) refl refl) refl) (g.arguments false false (g.last_argument (g.identifier false (lit≤ tt) refl)))) (λ e. cc) (λ e. cc) (e.at_end refl))) g.no_source)) (record { few = lit≤ tt; low = lit≤ tt; flat = lit≤ tt; closed = lit≤ tt }) refl

pub new_late : Reads Written (codes "new eval ( $dl_get ( 2 ) ) ( 3 )") (codes "new eval($dl_get(2))(3);\n")
unfolding unicode_ident utf16_chars digits
new_late = reads_as Written (codes "new eval ( $dl_get ( 2 ) ) ( 3 )") (Tree.MoreStmts (Tree.Do (Tree.New (Tree.Late 2) (Tree.MoreExprs (Tree.Num 3) Tree.NoExprs))) Tree.NoStmts) (word w.New false ∷ name (codes "eval") false ∷ mark m.OpenParenthesis false ∷ name (codes "$dl_get") false ∷ mark m.OpenParenthesis false ∷ number 2 false ∷ mark m.CloseParenthesis false ∷ mark m.CloseParenthesis false ∷ mark m.OpenParenthesis false ∷ number 3 false ∷ mark m.CloseParenthesis false ∷ []) refl (g.source_and (g.statement (g.expression (g.new false (lit≤ tt) (g.late false false false false false false false (lit≤ tt) refl refl) (g.arguments false false (g.last_argument (g.numeral true false (lit≤ tt))))) (λ e. cc) (λ e. cc) (e.at_end refl))) g.no_source) (record { few = lit≤ tt; low = lit≤ tt; flat = lit≤ tt; closed = lit≤ tt }) refl

pub no_zero : BreaksAt Written (codes "x = eval ( $dl_get (") (codes "0")
no_zero = breaks_at Written (codes "x = eval ( $dl_get (") (codes "0") (Tree.MoreStmts (Tree.Do (Tree.Assign None (Tree.Ident (codes "x")) (Tree.Late 1))) Tree.NoStmts) (number 1 false ∷ mark m.CloseParenthesis false ∷ mark m.CloseParenthesis false ∷ mark m.Semicolon false ∷ []) (name (codes "x") false ∷ mark m.Assign false ∷ name (codes "eval") false ∷ mark m.OpenParenthesis false ∷ name (codes "$dl_get") false ∷ mark m.OpenParenthesis false ∷ number 1 false ∷ mark m.CloseParenthesis false ∷ mark m.CloseParenthesis false ∷ mark m.Semicolon false ∷ []) (name (codes "x") false ∷ mark m.Assign false ∷ name (codes "eval") false ∷ mark m.OpenParenthesis false ∷ name (codes "$dl_get") false ∷ mark m.OpenParenthesis false ∷ number 0 false ∷ []) refl refl (g.source_and (g.statement (g.expression (g.assign None m.Assign false (lit≤ tt) refl (g.identifier false (lit≤ tt) refl) refl (g.late false false false false false false false (lit≤ tt) refl refl)) (λ e. cc) (λ e. cc) (e.written false))) g.no_source) (lit≤ tt) (λ others. refl)

pub no_wider : BreaksAt Written (codes "x = eval ( $dl_get (") (codes "65536")
no_wider = breaks_at Written (codes "x = eval ( $dl_get (") (codes "65536") (Tree.MoreStmts (Tree.Do (Tree.Assign None (Tree.Ident (codes "x")) (Tree.Late 1))) Tree.NoStmts) (number 1 false ∷ mark m.CloseParenthesis false ∷ mark m.CloseParenthesis false ∷ mark m.Semicolon false ∷ []) (name (codes "x") false ∷ mark m.Assign false ∷ name (codes "eval") false ∷ mark m.OpenParenthesis false ∷ name (codes "$dl_get") false ∷ mark m.OpenParenthesis false ∷ number 1 false ∷ mark m.CloseParenthesis false ∷ mark m.CloseParenthesis false ∷ mark m.Semicolon false ∷ []) (name (codes "x") false ∷ mark m.Assign false ∷ name (codes "eval") false ∷ mark m.OpenParenthesis false ∷ name (codes "$dl_get") false ∷ mark m.OpenParenthesis false ∷ number 65536 false ∷ []) refl refl (g.source_and (g.statement (g.expression (g.assign None m.Assign false (lit≤ tt) refl (g.identifier false (lit≤ tt) refl) refl (g.late false false false false false false false (lit≤ tt) refl refl)) (λ e. cc) (λ e. cc) (e.written false))) g.no_source) (lit≤ tt) (λ others. refl)

pub in_hexadecimal : BreaksAt Written (codes "x = eval ( $dl_get (") (codes "0x2")
in_hexadecimal = breaks_at Written (codes "x = eval ( $dl_get (") (codes "0x2") (Tree.MoreStmts (Tree.Do (Tree.Assign None (Tree.Ident (codes "x")) (Tree.Late 1))) Tree.NoStmts) (number 1 false ∷ mark m.CloseParenthesis false ∷ mark m.CloseParenthesis false ∷ mark m.Semicolon false ∷ []) (name (codes "x") false ∷ mark m.Assign false ∷ name (codes "eval") false ∷ mark m.OpenParenthesis false ∷ name (codes "$dl_get") false ∷ mark m.OpenParenthesis false ∷ number 1 false ∷ mark m.CloseParenthesis false ∷ mark m.CloseParenthesis false ∷ mark m.Semicolon false ∷ []) (name (codes "x") false ∷ mark m.Assign false ∷ name (codes "eval") false ∷ mark m.OpenParenthesis false ∷ name (codes "$dl_get") false ∷ mark m.OpenParenthesis false ∷ number_in false 2 false ∷ []) refl refl (g.source_and (g.statement (g.expression (g.assign None m.Assign false (lit≤ tt) refl (g.identifier false (lit≤ tt) refl) refl (g.late false false false false false false false (lit≤ tt) refl refl)) (λ e. cc) (λ e. cc) (e.written false))) g.no_source) (lit≤ tt) (λ others. refl)

pub no_name : BreaksAt Written (codes "x = eval ( $dl_get (") (codes "a")
no_name = breaks_at Written (codes "x = eval ( $dl_get (") (codes "a") (Tree.MoreStmts (Tree.Do (Tree.Assign None (Tree.Ident (codes "x")) (Tree.Late 1))) Tree.NoStmts) (number 1 false ∷ mark m.CloseParenthesis false ∷ mark m.CloseParenthesis false ∷ mark m.Semicolon false ∷ []) (name (codes "x") false ∷ mark m.Assign false ∷ name (codes "eval") false ∷ mark m.OpenParenthesis false ∷ name (codes "$dl_get") false ∷ mark m.OpenParenthesis false ∷ number 1 false ∷ mark m.CloseParenthesis false ∷ mark m.CloseParenthesis false ∷ mark m.Semicolon false ∷ []) (name (codes "x") false ∷ mark m.Assign false ∷ name (codes "eval") false ∷ mark m.OpenParenthesis false ∷ name (codes "$dl_get") false ∷ mark m.OpenParenthesis false ∷ name (codes "a") false ∷ []) refl refl (g.source_and (g.statement (g.expression (g.assign None m.Assign false (lit≤ tt) refl (g.identifier false (lit≤ tt) refl) refl (g.late false false false false false false false (lit≤ tt) refl refl)) (λ e. cc) (λ e. cc) (e.written false))) g.no_source) (lit≤ tt) (λ others. refl)

pub one_number : BreaksAt Written (codes "x = eval ( $dl_get ( 1") (codes ",")
one_number = breaks_at Written (codes "x = eval ( $dl_get ( 1") (codes ",") (Tree.MoreStmts (Tree.Do (Tree.Assign None (Tree.Ident (codes "x")) (Tree.Late 1))) Tree.NoStmts) (mark m.CloseParenthesis false ∷ mark m.CloseParenthesis false ∷ mark m.Semicolon false ∷ []) (name (codes "x") false ∷ mark m.Assign false ∷ name (codes "eval") false ∷ mark m.OpenParenthesis false ∷ name (codes "$dl_get") false ∷ mark m.OpenParenthesis false ∷ number 1 false ∷ mark m.CloseParenthesis false ∷ mark m.CloseParenthesis false ∷ mark m.Semicolon false ∷ []) (name (codes "x") false ∷ mark m.Assign false ∷ name (codes "eval") false ∷ mark m.OpenParenthesis false ∷ name (codes "$dl_get") false ∷ mark m.OpenParenthesis false ∷ number 1 false ∷ mark m.Comma false ∷ []) refl refl (g.source_and (g.statement (g.expression (g.assign None m.Assign false (lit≤ tt) refl (g.identifier false (lit≤ tt) refl) refl (g.late false false false false false false false (lit≤ tt) refl refl)) (λ e. cc) (λ e. cc) (e.written false))) g.no_source) (lit≤ tt) (λ others. refl)

pub only_get : BreaksAt Written (codes "x = eval (") (codes "a")
only_get = breaks_at Written (codes "x = eval (") (codes "a") (Tree.MoreStmts (Tree.Do (Tree.Assign None (Tree.Ident (codes "x")) (Tree.Late 1))) Tree.NoStmts) (name (codes "$dl_get") false ∷ mark m.OpenParenthesis false ∷ number 1 false ∷ mark m.CloseParenthesis false ∷ mark m.CloseParenthesis false ∷ mark m.Semicolon false ∷ []) (name (codes "x") false ∷ mark m.Assign false ∷ name (codes "eval") false ∷ mark m.OpenParenthesis false ∷ name (codes "$dl_get") false ∷ mark m.OpenParenthesis false ∷ number 1 false ∷ mark m.CloseParenthesis false ∷ mark m.CloseParenthesis false ∷ mark m.Semicolon false ∷ []) (name (codes "x") false ∷ mark m.Assign false ∷ name (codes "eval") false ∷ mark m.OpenParenthesis false ∷ name (codes "a") false ∷ []) refl refl (g.source_and (g.statement (g.expression (g.assign None m.Assign false (lit≤ tt) refl (g.identifier false (lit≤ tt) refl) refl (g.late false false false false false false false (lit≤ tt) refl refl)) (λ e. cc) (λ e. cc) (e.written false))) g.no_source) (lit≤ tt) (λ others. refl)

pub only_called : BreaksAt Written (codes "x = eval") (codes ".")
only_called = breaks_at Written (codes "x = eval") (codes ".") (Tree.MoreStmts (Tree.Do (Tree.Assign None (Tree.Ident (codes "x")) (Tree.Late 1))) Tree.NoStmts) (mark m.OpenParenthesis false ∷ name (codes "$dl_get") false ∷ mark m.OpenParenthesis false ∷ number 1 false ∷ mark m.CloseParenthesis false ∷ mark m.CloseParenthesis false ∷ mark m.Semicolon false ∷ []) (name (codes "x") false ∷ mark m.Assign false ∷ name (codes "eval") false ∷ mark m.OpenParenthesis false ∷ name (codes "$dl_get") false ∷ mark m.OpenParenthesis false ∷ number 1 false ∷ mark m.CloseParenthesis false ∷ mark m.CloseParenthesis false ∷ mark m.Semicolon false ∷ []) (name (codes "x") false ∷ mark m.Assign false ∷ name (codes "eval") false ∷ mark m.Dot false ∷ []) refl refl (g.source_and (g.statement (g.expression (g.assign None m.Assign false (lit≤ tt) refl (g.identifier false (lit≤ tt) refl) refl (g.late false false false false false false false (lit≤ tt) refl refl)) (λ e. cc) (λ e. cc) (e.written false))) g.no_source) (lit≤ tt) (λ others. refl)

pub no_text : BreaksAt Written (codes "x = eval (") (codes "\"a\"")
no_text = breaks_at Written (codes "x = eval (") (codes "\"a\"") (Tree.MoreStmts (Tree.Do (Tree.Assign None (Tree.Ident (codes "x")) (Tree.Late 1))) Tree.NoStmts) (name (codes "$dl_get") false ∷ mark m.OpenParenthesis false ∷ number 1 false ∷ mark m.CloseParenthesis false ∷ mark m.CloseParenthesis false ∷ mark m.Semicolon false ∷ []) (name (codes "x") false ∷ mark m.Assign false ∷ name (codes "eval") false ∷ mark m.OpenParenthesis false ∷ name (codes "$dl_get") false ∷ mark m.OpenParenthesis false ∷ number 1 false ∷ mark m.CloseParenthesis false ∷ mark m.CloseParenthesis false ∷ mark m.Semicolon false ∷ []) (name (codes "x") false ∷ mark m.Assign false ∷ name (codes "eval") false ∷ mark m.OpenParenthesis false ∷ string (codes "a") false ∷ []) refl refl (g.source_and (g.statement (g.expression (g.assign None m.Assign false (lit≤ tt) refl (g.identifier false (lit≤ tt) refl) refl (g.late false false false false false false false (lit≤ tt) refl refl)) (λ e. cc) (λ e. cc) (e.written false))) g.no_source) (lit≤ tt) (λ others. refl)

pub get_is_called : BreaksAt Written (codes "x = eval ( $dl_get") (codes ")")
get_is_called = breaks_at Written (codes "x = eval ( $dl_get") (codes ")") (Tree.MoreStmts (Tree.Do (Tree.Assign None (Tree.Ident (codes "x")) (Tree.Late 1))) Tree.NoStmts) (mark m.OpenParenthesis false ∷ number 1 false ∷ mark m.CloseParenthesis false ∷ mark m.CloseParenthesis false ∷ mark m.Semicolon false ∷ []) (name (codes "x") false ∷ mark m.Assign false ∷ name (codes "eval") false ∷ mark m.OpenParenthesis false ∷ name (codes "$dl_get") false ∷ mark m.OpenParenthesis false ∷ number 1 false ∷ mark m.CloseParenthesis false ∷ mark m.CloseParenthesis false ∷ mark m.Semicolon false ∷ []) (name (codes "x") false ∷ mark m.Assign false ∷ name (codes "eval") false ∷ mark m.OpenParenthesis false ∷ name (codes "$dl_get") false ∷ mark m.CloseParenthesis false ∷ []) refl refl (g.source_and (g.statement (g.expression (g.assign None m.Assign false (lit≤ tt) refl (g.identifier false (lit≤ tt) refl) refl (g.late false false false false false false false (lit≤ tt) refl refl)) (λ e. cc) (λ e. cc) (e.written false))) g.no_source) (lit≤ tt) (λ others. refl)

pub both_closed : BreaksAt Written (codes "x = eval ( $dl_get ( 1 )") (codes ";")
both_closed = breaks_at Written (codes "x = eval ( $dl_get ( 1 )") (codes ";") (Tree.MoreStmts (Tree.Do (Tree.Assign None (Tree.Ident (codes "x")) (Tree.Late 1))) Tree.NoStmts) (mark m.CloseParenthesis false ∷ mark m.Semicolon false ∷ []) (name (codes "x") false ∷ mark m.Assign false ∷ name (codes "eval") false ∷ mark m.OpenParenthesis false ∷ name (codes "$dl_get") false ∷ mark m.OpenParenthesis false ∷ number 1 false ∷ mark m.CloseParenthesis false ∷ mark m.CloseParenthesis false ∷ mark m.Semicolon false ∷ []) (name (codes "x") false ∷ mark m.Assign false ∷ name (codes "eval") false ∷ mark m.OpenParenthesis false ∷ name (codes "$dl_get") false ∷ mark m.OpenParenthesis false ∷ number 1 false ∷ mark m.CloseParenthesis false ∷ mark m.Semicolon false ∷ []) refl refl (g.source_and (g.statement (g.expression (g.assign None m.Assign false (lit≤ tt) refl (g.identifier false (lit≤ tt) refl) refl (g.late false false false false false false false (lit≤ tt) refl refl)) (λ e. cc) (λ e. cc) (e.written false))) g.no_source) (lit≤ tt) (λ others. refl)

pub no_target : BreaksAt Written (codes "x = eval ( $dl_get ( 1 ) )") (codes "=")
no_target = breaks_at Written (codes "x = eval ( $dl_get ( 1 ) )") (codes "=") (Tree.MoreStmts (Tree.Do (Tree.Assign None (Tree.Ident (codes "x")) (Tree.Late 1))) Tree.NoStmts) (mark m.Semicolon false ∷ []) (name (codes "x") false ∷ mark m.Assign false ∷ name (codes "eval") false ∷ mark m.OpenParenthesis false ∷ name (codes "$dl_get") false ∷ mark m.OpenParenthesis false ∷ number 1 false ∷ mark m.CloseParenthesis false ∷ mark m.CloseParenthesis false ∷ mark m.Semicolon false ∷ []) (name (codes "x") false ∷ mark m.Assign false ∷ name (codes "eval") false ∷ mark m.OpenParenthesis false ∷ name (codes "$dl_get") false ∷ mark m.OpenParenthesis false ∷ number 1 false ∷ mark m.CloseParenthesis false ∷ mark m.CloseParenthesis false ∷ mark m.Assign false ∷ []) refl refl (g.source_and (g.statement (g.expression (g.assign None m.Assign false (lit≤ tt) refl (g.identifier false (lit≤ tt) refl) refl (g.late false false false false false false false (lit≤ tt) refl refl)) (λ e. cc) (λ e. cc) (e.written false))) g.no_source) (lit≤ tt) (λ others. refl)

pub no_get_alone : BreaksAt Written (codes "x =") (codes "$dl_get")
no_get_alone = breaks_at Written (codes "x =") (codes "$dl_get") (Tree.MoreStmts (Tree.Do (Tree.Assign None (Tree.Ident (codes "x")) (Tree.Num 1))) Tree.NoStmts) (number 1 false ∷ mark m.Semicolon false ∷ []) (name (codes "x") false ∷ mark m.Assign false ∷ number 1 false ∷ mark m.Semicolon false ∷ []) (name (codes "x") false ∷ mark m.Assign false ∷ name (codes "$dl_get") false ∷ []) refl refl (g.source_and (g.statement (g.expression (g.assign None m.Assign false (lit≤ tt) refl (g.identifier false (lit≤ tt) refl) refl (g.numeral true false (lit≤ tt))) (λ e. cc) (λ e. cc) (e.written false))) g.no_source) (lit≤ tt) (λ others. refl)

pub not_in_source : BreaksAt Source (codes "x =") (codes "eval")
not_in_source = breaks_at Source (codes "x =") (codes "eval") (Tree.MoreStmts (Tree.Do (Tree.Assign None (Tree.Ident (codes "x")) (Tree.Num 1))) Tree.NoStmts) (number 1 false ∷ mark m.Semicolon false ∷ []) (name (codes "x") false ∷ mark m.Assign false ∷ number 1 false ∷ mark m.Semicolon false ∷ []) (name (codes "x") false ∷ mark m.Assign false ∷ name (codes "eval") false ∷ []) refl refl (g.source_and (g.statement (g.expression (g.assign None m.Assign false (lit≤ tt) refl (g.identifier false (lit≤ tt) refl) refl (g.numeral true false (lit≤ tt))) (λ e. cc) (λ e. cc) (e.written false))) g.no_source) (lit≤ tt) (λ others. refl)

pub cells : Reads Written (codes "$dl_r1 = 2 ; a . $dl_r65535 ; $dl_r3 : ; x = { $dl_r4 : 1 } ; var $dl_r5") (codes "$dl_r1=2;a.$dl_r65535;$dl_r3:;x={$dl_r4:1};var $dl_r5;\n")
unfolding unicode_ident utf16_chars digits
cells = reads_as Written (codes "$dl_r1 = 2 ; a . $dl_r65535 ; $dl_r3 : ; x = { $dl_r4 : 1 } ; var $dl_r5") (Tree.MoreStmts (Tree.Do (Tree.Assign None (Tree.Ident (codes "$dl_r1")) (Tree.Num 2))) (Tree.MoreStmts (Tree.Do (Tree.Dot (Tree.Ident (codes "a")) (codes "$dl_r65535"))) (Tree.MoreStmts (Tree.Label (codes "$dl_r3") Tree.Empty) (Tree.MoreStmts (Tree.Do (Tree.Assign None (Tree.Ident (codes "x")) (Tree.Object (Tree.MorePairs (codes "$dl_r4") (Tree.Num 1) Tree.NoPairs)))) (Tree.MoreStmts (Tree.Variables (Tree.MoreVarItems (codes "$dl_r5") Tree.NoExpr Tree.NoVarItems)) Tree.NoStmts))))) (name (codes "$dl_r1") false ∷ mark m.Assign false ∷ number 2 false ∷ mark m.Semicolon false ∷ name (codes "a") false ∷ mark m.Dot false ∷ name (codes "$dl_r65535") false ∷ mark m.Semicolon false ∷ name (codes "$dl_r3") false ∷ mark m.Colon false ∷ mark m.Semicolon false ∷ name (codes "x") false ∷ mark m.Assign false ∷ mark m.OpenBrace false ∷ name (codes "$dl_r4") false ∷ mark m.Colon false ∷ number 1 false ∷ mark m.CloseBrace false ∷ mark m.Semicolon false ∷ word w.Var false ∷ name (codes "$dl_r5") false ∷ []) refl (g.source_and (g.statement (g.expression (g.assign None m.Assign false (lit≤ tt) refl (g.identifier false (lit≤ tt) refl) refl (g.numeral true false (lit≤ tt))) (λ e. cc) (λ e. cc) (e.written false))) (g.source_and (g.statement (g.expression (g.dot 18 false false (lit≤ tt) (lit≤ tt) (lit≤ tt) (g.identifier false (lit≤ tt) refl) refl) (λ e. cc) (λ e. cc) (e.written false))) (g.source_and (g.statement (g.label false false refl refl (g.empty false))) (g.source_and (g.statement (g.expression (g.assign None m.Assign false (lit≤ tt) refl (g.identifier false (lit≤ tt) refl) refl (g.object false false (lit≤ tt) (g.last_property (name (codes "$dl_r4") false) false refl (g.numeral true false (lit≤ tt))))) (λ e. cc) (λ e. cc) (e.written false))) (g.source_and (g.statement (g.variables false (g.last_declarator (g.bare false refl)) (e.at_end refl))) g.no_source))))) (record { few = lit≤ tt; low = lit≤ tt; flat = lit≤ tt; closed = lit≤ tt }) refl

pub bound_cells : Reads Written (codes "function $dl_r1 ( $dl_r2 ) { } try { } catch ( $dl_r3 ) { }") (codes "function $dl_r1($dl_r2){}try{}catch($dl_r3){}\n")
unfolding unicode_ident utf16_chars digits
bound_cells = reads_as Written (codes "function $dl_r1 ( $dl_r2 ) { } try { } catch ( $dl_r3 ) { }") (Tree.MoreStmts (Tree.Declare (code (Some (codes "$dl_r1")) ((codes "$dl_r2") ∷ []) Tree.NoStmts)) (Tree.MoreStmts (Tree.Try (Tree.Block Tree.NoStmts) (Tree.ACatch (codes "$dl_r3") (Tree.Block Tree.NoStmts)) Tree.NoStmt) Tree.NoStmts)) (word w.Function false ∷ name (codes "$dl_r1") false ∷ mark m.OpenParenthesis false ∷ name (codes "$dl_r2") false ∷ mark m.CloseParenthesis false ∷ mark m.OpenBrace false ∷ mark m.CloseBrace false ∷ word w.Try false ∷ mark m.OpenBrace false ∷ mark m.CloseBrace false ∷ word w.Catch false ∷ mark m.OpenParenthesis false ∷ name (codes "$dl_r3") false ∷ mark m.CloseParenthesis false ∷ mark m.OpenBrace false ∷ mark m.CloseBrace false ∷ []) refl (g.source_and (g.declaration false false refl (g.function_rest false false false false (g.last_formal false refl) refl g.no_source)) (g.source_and (g.statement (g.try_catch false false false false false (g.braces false false g.no_statement) refl (g.braces false false g.no_statement))) g.no_source)) (record { few = lit≤ tt; low = lit≤ tt; flat = lit≤ tt; closed = lit≤ tt }) refl

pub cell_zero : BreaksAt Written (codes "x =") (codes "$dl_r0")
cell_zero = breaks_at Written (codes "x =") (codes "$dl_r0") (Tree.MoreStmts (Tree.Do (Tree.Assign None (Tree.Ident (codes "x")) (Tree.Num 1))) Tree.NoStmts) (number 1 false ∷ mark m.Semicolon false ∷ []) (name (codes "x") false ∷ mark m.Assign false ∷ number 1 false ∷ mark m.Semicolon false ∷ []) (name (codes "x") false ∷ mark m.Assign false ∷ name (codes "$dl_r0") false ∷ []) refl refl (g.source_and (g.statement (g.expression (g.assign None m.Assign false (lit≤ tt) refl (g.identifier false (lit≤ tt) refl) refl (g.numeral true false (lit≤ tt))) (λ e. cc) (λ e. cc) (e.written false))) g.no_source) (lit≤ tt) (λ others. refl)

pub cell_with_zero : BreaksAt Written (codes "x =") (codes "$dl_r01")
cell_with_zero = breaks_at Written (codes "x =") (codes "$dl_r01") (Tree.MoreStmts (Tree.Do (Tree.Assign None (Tree.Ident (codes "x")) (Tree.Num 1))) Tree.NoStmts) (number 1 false ∷ mark m.Semicolon false ∷ []) (name (codes "x") false ∷ mark m.Assign false ∷ number 1 false ∷ mark m.Semicolon false ∷ []) (name (codes "x") false ∷ mark m.Assign false ∷ name (codes "$dl_r01") false ∷ []) refl refl (g.source_and (g.statement (g.expression (g.assign None m.Assign false (lit≤ tt) refl (g.identifier false (lit≤ tt) refl) refl (g.numeral true false (lit≤ tt))) (λ e. cc) (λ e. cc) (e.written false))) g.no_source) (lit≤ tt) (λ others. refl)

pub wider_cell : BreaksAt Written (codes "x =") (codes "$dl_r65536")
wider_cell = breaks_at Written (codes "x =") (codes "$dl_r65536") (Tree.MoreStmts (Tree.Do (Tree.Assign None (Tree.Ident (codes "x")) (Tree.Num 1))) Tree.NoStmts) (number 1 false ∷ mark m.Semicolon false ∷ []) (name (codes "x") false ∷ mark m.Assign false ∷ number 1 false ∷ mark m.Semicolon false ∷ []) (name (codes "x") false ∷ mark m.Assign false ∷ name (codes "$dl_r65536") false ∷ []) refl refl (g.source_and (g.statement (g.expression (g.assign None m.Assign false (lit≤ tt) refl (g.identifier false (lit≤ tt) refl) refl (g.numeral true false (lit≤ tt))) (λ e. cc) (λ e. cc) (e.written false))) g.no_source) (lit≤ tt) (λ others. refl)

pub cell_without_number : BreaksAt Written (codes "x =") (codes "$dl_r")
cell_without_number = breaks_at Written (codes "x =") (codes "$dl_r") (Tree.MoreStmts (Tree.Do (Tree.Assign None (Tree.Ident (codes "x")) (Tree.Num 1))) Tree.NoStmts) (number 1 false ∷ mark m.Semicolon false ∷ []) (name (codes "x") false ∷ mark m.Assign false ∷ number 1 false ∷ mark m.Semicolon false ∷ []) (name (codes "x") false ∷ mark m.Assign false ∷ name (codes "$dl_r") false ∷ []) refl refl (g.source_and (g.statement (g.expression (g.assign None m.Assign false (lit≤ tt) refl (g.identifier false (lit≤ tt) refl) refl (g.numeral true false (lit≤ tt))) (λ e. cc) (λ e. cc) (e.written false))) g.no_source) (lit≤ tt) (λ others. refl)

pub cell_with_letter : BreaksAt Written (codes "x =") (codes "$dl_r1a")
cell_with_letter = breaks_at Written (codes "x =") (codes "$dl_r1a") (Tree.MoreStmts (Tree.Do (Tree.Assign None (Tree.Ident (codes "x")) (Tree.Num 1))) Tree.NoStmts) (number 1 false ∷ mark m.Semicolon false ∷ []) (name (codes "x") false ∷ mark m.Assign false ∷ number 1 false ∷ mark m.Semicolon false ∷ []) (name (codes "x") false ∷ mark m.Assign false ∷ name (codes "$dl_r1a") false ∷ []) refl refl (g.source_and (g.statement (g.expression (g.assign None m.Assign false (lit≤ tt) refl (g.identifier false (lit≤ tt) refl) refl (g.numeral true false (lit≤ tt))) (λ e. cc) (λ e. cc) (e.written false))) g.no_source) (lit≤ tt) (λ others. refl)

pub other_own_name : BreaksAt Written (codes "x =") (codes "$dl_x1")
other_own_name = breaks_at Written (codes "x =") (codes "$dl_x1") (Tree.MoreStmts (Tree.Do (Tree.Assign None (Tree.Ident (codes "x")) (Tree.Num 1))) Tree.NoStmts) (number 1 false ∷ mark m.Semicolon false ∷ []) (name (codes "x") false ∷ mark m.Assign false ∷ number 1 false ∷ mark m.Semicolon false ∷ []) (name (codes "x") false ∷ mark m.Assign false ∷ name (codes "$dl_x1") false ∷ []) refl refl (g.source_and (g.statement (g.expression (g.assign None m.Assign false (lit≤ tt) refl (g.identifier false (lit≤ tt) refl) refl (g.numeral true false (lit≤ tt))) (λ e. cc) (λ e. cc) (e.written false))) g.no_source) (lit≤ tt) (λ others. refl)

pub own_member : BreaksAt Written (codes "a .") (codes "$dl_get")
own_member = breaks_at Written (codes "a .") (codes "$dl_get") (Tree.MoreStmts (Tree.Do (Tree.Dot (Tree.Ident (codes "a")) (codes "b"))) Tree.NoStmts) (name (codes "b") false ∷ mark m.Semicolon false ∷ []) (name (codes "a") false ∷ mark m.Dot false ∷ name (codes "b") false ∷ mark m.Semicolon false ∷ []) (name (codes "a") false ∷ mark m.Dot false ∷ name (codes "$dl_get") false ∷ []) refl refl (g.source_and (g.statement (g.expression (g.dot 18 false false (lit≤ tt) (lit≤ tt) (lit≤ tt) (g.identifier false (lit≤ tt) refl) refl) (λ e. cc) (λ e. cc) (e.written false))) g.no_source) (lit≤ tt) (λ others. refl)

pub own_key : BreaksAt Written (codes "x = {") (codes "$dl_use")
own_key = breaks_at Written (codes "x = {") (codes "$dl_use") (Tree.MoreStmts (Tree.Do (Tree.Assign None (Tree.Ident (codes "x")) (Tree.Object Tree.NoPairs))) Tree.NoStmts) (mark m.CloseBrace false ∷ mark m.Semicolon false ∷ []) (name (codes "x") false ∷ mark m.Assign false ∷ mark m.OpenBrace false ∷ mark m.CloseBrace false ∷ mark m.Semicolon false ∷ []) (name (codes "x") false ∷ mark m.Assign false ∷ mark m.OpenBrace false ∷ name (codes "$dl_use") false ∷ []) refl refl (g.source_and (g.statement (g.expression (g.assign None m.Assign false (lit≤ tt) refl (g.identifier false (lit≤ tt) refl) refl (g.object false false (lit≤ tt) g.no_property)) (λ e. cc) (λ e. cc) (e.written false))) g.no_source) (lit≤ tt) (λ others. refl)

pub own_text_as_key : BreaksAt Written (codes "x = {") (codes "\"$dl_r1\"")
own_text_as_key = breaks_at Written (codes "x = {") (codes "\"$dl_r1\"") (Tree.MoreStmts (Tree.Do (Tree.Assign None (Tree.Ident (codes "x")) (Tree.Object Tree.NoPairs))) Tree.NoStmts) (mark m.CloseBrace false ∷ mark m.Semicolon false ∷ []) (name (codes "x") false ∷ mark m.Assign false ∷ mark m.OpenBrace false ∷ mark m.CloseBrace false ∷ mark m.Semicolon false ∷ []) (name (codes "x") false ∷ mark m.Assign false ∷ mark m.OpenBrace false ∷ string (codes "$dl_r1") false ∷ []) refl refl (g.source_and (g.statement (g.expression (g.assign None m.Assign false (lit≤ tt) refl (g.identifier false (lit≤ tt) refl) refl (g.object false false (lit≤ tt) g.no_property)) (λ e. cc) (λ e. cc) (e.written false))) g.no_source) (lit≤ tt) (λ others. refl)

pub cell_in_source : BreaksAt Source (codes "x =") (codes "$dl_r1")
cell_in_source = breaks_at Source (codes "x =") (codes "$dl_r1") (Tree.MoreStmts (Tree.Do (Tree.Assign None (Tree.Ident (codes "x")) (Tree.Num 1))) Tree.NoStmts) (number 1 false ∷ mark m.Semicolon false ∷ []) (name (codes "x") false ∷ mark m.Assign false ∷ number 1 false ∷ mark m.Semicolon false ∷ []) (name (codes "x") false ∷ mark m.Assign false ∷ name (codes "$dl_r1") false ∷ []) refl refl (g.source_and (g.statement (g.expression (g.assign None m.Assign false (lit≤ tt) refl (g.identifier false (lit≤ tt) refl) refl (g.numeral true false (lit≤ tt))) (λ e. cc) (λ e. cc) (e.written false))) g.no_source) (lit≤ tt) (λ others. refl)

pub cell_member_in_source : BreaksAt Source (codes "a .") (codes "$dl_r1")
cell_member_in_source = breaks_at Source (codes "a .") (codes "$dl_r1") (Tree.MoreStmts (Tree.Do (Tree.Dot (Tree.Ident (codes "a")) (codes "b"))) Tree.NoStmts) (name (codes "b") false ∷ mark m.Semicolon false ∷ []) (name (codes "a") false ∷ mark m.Dot false ∷ name (codes "b") false ∷ mark m.Semicolon false ∷ []) (name (codes "a") false ∷ mark m.Dot false ∷ name (codes "$dl_r1") false ∷ []) refl refl (g.source_and (g.statement (g.expression (g.dot 18 false false (lit≤ tt) (lit≤ tt) (lit≤ tt) (g.identifier false (lit≤ tt) refl) refl) (λ e. cc) (λ e. cc) (e.written false))) g.no_source) (lit≤ tt) (λ others. refl)

pub cell_key_in_source : BreaksAt Source (codes "x = {") (codes "$dl_r1")
cell_key_in_source = breaks_at Source (codes "x = {") (codes "$dl_r1") (Tree.MoreStmts (Tree.Do (Tree.Assign None (Tree.Ident (codes "x")) (Tree.Object Tree.NoPairs))) Tree.NoStmts) (mark m.CloseBrace false ∷ mark m.Semicolon false ∷ []) (name (codes "x") false ∷ mark m.Assign false ∷ mark m.OpenBrace false ∷ mark m.CloseBrace false ∷ mark m.Semicolon false ∷ []) (name (codes "x") false ∷ mark m.Assign false ∷ mark m.OpenBrace false ∷ name (codes "$dl_r1") false ∷ []) refl refl (g.source_and (g.statement (g.expression (g.assign None m.Assign false (lit≤ tt) refl (g.identifier false (lit≤ tt) refl) refl (g.object false false (lit≤ tt) g.no_property)) (λ e. cc) (λ e. cc) (e.written false))) g.no_source) (lit≤ tt) (λ others. refl)

pub text_key_in_source : BreaksAt Source (codes "x = {") (codes "\"$dl_x\"")
text_key_in_source = breaks_at Source (codes "x = {") (codes "\"$dl_x\"") (Tree.MoreStmts (Tree.Do (Tree.Assign None (Tree.Ident (codes "x")) (Tree.Object Tree.NoPairs))) Tree.NoStmts) (mark m.CloseBrace false ∷ mark m.Semicolon false ∷ []) (name (codes "x") false ∷ mark m.Assign false ∷ mark m.OpenBrace false ∷ mark m.CloseBrace false ∷ mark m.Semicolon false ∷ []) (name (codes "x") false ∷ mark m.Assign false ∷ mark m.OpenBrace false ∷ string (codes "$dl_x") false ∷ []) refl refl (g.source_and (g.statement (g.expression (g.assign None m.Assign false (lit≤ tt) refl (g.identifier false (lit≤ tt) refl) refl (g.object false false (lit≤ tt) g.no_property)) (λ e. cc) (λ e. cc) (e.written false))) g.no_source) (lit≤ tt) (λ others. refl)

pub own_text : Reads Source (codes "x = \"$dl_x\" ; a [ \"$dl_x\" ]") (codes "x=\"$dl_x\";a[\"$dl_x\"];\n")
unfolding unicode_ident utf16_chars digits
own_text = reads_as Source (codes "x = \"$dl_x\" ; a [ \"$dl_x\" ]") (Tree.MoreStmts (Tree.Do (Tree.Assign None (Tree.Ident (codes "x")) (Tree.Str (codes "$dl_x")))) (Tree.MoreStmts (Tree.Do (Tree.Index (Tree.Ident (codes "a")) (Tree.Str (codes "$dl_x")))) Tree.NoStmts)) (name (codes "x") false ∷ mark m.Assign false ∷ string (codes "$dl_x") false ∷ mark m.Semicolon false ∷ name (codes "a") false ∷ mark m.OpenBracket false ∷ string (codes "$dl_x") false ∷ mark m.CloseBracket false ∷ []) refl (g.source_and (g.statement (g.expression (g.assign None m.Assign false (lit≤ tt) refl (g.identifier false (lit≤ tt) refl) refl (g.literal false (lit≤ tt))) (λ e. cc) (λ e. cc) (e.written false))) (g.source_and (g.statement (g.expression (g.index 18 false false (lit≤ tt) (lit≤ tt) (lit≤ tt) (g.identifier false (lit≤ tt) refl) (g.literal false (lit≤ tt))) (λ e. cc) (λ e. cc) (e.at_end refl))) g.no_source)) (record { few = lit≤ tt; low = lit≤ tt; flat = lit≤ tt; closed = lit≤ tt }) refl

-- Inserted semicolons (ES3 7.9).
use Rattle.std.proofs.Common.{true, false, [], ◌∷◌, codes, Some, None, refl, lit≤}
use Rattle.std.specs.Fmt.{digits}
use Rattle.std.specs.Char.Utf16.{utf16_chars}
use Rattle.unicode_ident.proofs.Computing.{unicode_ident}
use Rattle.js_tree.specs.declared.tree.BinaryOp.TheVariants as b
use Rattle.js_tree.specs.declared.tree.PrefixOp.TheVariants as p
use Rattle.js_tree.specs.declared.tree.PostfixOp.TheVariants as q
use Rattle.js_lexer.specs.declared.mark.Mark.TheVariants as m
use Rattle.js_lexer.specs.declared.word.Word.TheVariants as w
use Rattle.js_parser.specs.declared.form.Form.TheVariants.{Source}
use Rattle.js_parser.specs.Symbols.{word, mark, name, number}
use Rattle.js_tree.specs.Levels.{LogicalOr, Operation}
use Rattle.js_parser.specs.Ends as e
use Rattle.js_tree.specs.Tree
use Rattle.js_parser.specs.Grammar as g
use Rattle.js_parser.specs.Grammar.{code}
use Rattle.grammar_rows.specs.TextRows.{BreaksAt, Reads}
use Rattle.grammar_rows.proofs.TextRowLemmas.{reads_as, breaks_at}

pub before_a_brace : Reads Source (codes "{ a } { var b } { throw c } { do ; while ( d ) }") (codes "{a;}{var b;}{throw c;}{do;while(d);}\n")
unfolding unicode_ident utf16_chars digits
before_a_brace = reads_as Source (codes "{ a } { var b } { throw c } { do ; while ( d ) }") (Tree.MoreStmts (Tree.Block (Tree.MoreStmts (Tree.Do (Tree.Ident (codes "a"))) Tree.NoStmts)) (Tree.MoreStmts (Tree.Block (Tree.MoreStmts (Tree.Variables (Tree.MoreVarItems (codes "b") Tree.NoExpr Tree.NoVarItems)) Tree.NoStmts)) (Tree.MoreStmts (Tree.Block (Tree.MoreStmts (Tree.Throw (Tree.Ident (codes "c"))) Tree.NoStmts)) (Tree.MoreStmts (Tree.Block (Tree.MoreStmts (Tree.DoWhile Tree.Empty (Tree.Ident (codes "d"))) Tree.NoStmts)) Tree.NoStmts)))) (mark m.OpenBrace false ∷ name (codes "a") false ∷ mark m.CloseBrace false ∷ mark m.OpenBrace false ∷ word w.Var false ∷ name (codes "b") false ∷ mark m.CloseBrace false ∷ mark m.OpenBrace false ∷ word w.Throw false ∷ name (codes "c") false ∷ mark m.CloseBrace false ∷ mark m.OpenBrace false ∷ word w.Do false ∷ mark m.Semicolon false ∷ word w.While false ∷ mark m.OpenParenthesis false ∷ name (codes "d") false ∷ mark m.CloseParenthesis false ∷ mark m.CloseBrace false ∷ []) refl (g.source_and (g.statement (g.block (g.braces false false (g.statement_and (g.expression (g.identifier false (lit≤ tt) refl) (λ e. cc) (λ e. cc) (e.at_brace refl)) g.no_statement)))) (g.source_and (g.statement (g.block (g.braces false false (g.statement_and (g.variables false (g.last_declarator (g.bare false refl)) (e.at_brace refl)) g.no_statement)))) (g.source_and (g.statement (g.block (g.braces false false (g.statement_and (g.throw false (g.identifier false (lit≤ tt) refl) refl (e.at_brace refl)) g.no_statement)))) (g.source_and (g.statement (g.block (g.braces false false (g.statement_and (g.do_while false false false false (g.empty false) (g.identifier false (lit≤ tt) refl) (e.at_brace refl)) g.no_statement)))) g.no_source)))) (record { few = lit≤ tt; low = lit≤ tt; flat = lit≤ tt; closed = lit≤ tt }) refl

pub before_the_end : Reads Source (codes "a") (codes "a;\n")
unfolding unicode_ident utf16_chars digits
before_the_end = reads_as Source (codes "a") (Tree.MoreStmts (Tree.Do (Tree.Ident (codes "a"))) Tree.NoStmts) (name (codes "a") false ∷ []) refl (g.source_and (g.statement (g.expression (g.identifier false (lit≤ tt) refl) (λ e. cc) (λ e. cc) (e.at_end refl))) g.no_source) (record { few = lit≤ tt; low = lit≤ tt; flat = lit≤ tt; closed = lit≤ tt }) refl

pub on_a_line : Reads Source (codes "a\nb\nvar c\nd\nthrow e\nf") (codes "a;b;var c;d;throw e;f;\n")
unfolding unicode_ident utf16_chars digits
on_a_line = reads_as Source (codes "a\nb\nvar c\nd\nthrow e\nf") (Tree.MoreStmts (Tree.Do (Tree.Ident (codes "a"))) (Tree.MoreStmts (Tree.Do (Tree.Ident (codes "b"))) (Tree.MoreStmts (Tree.Variables (Tree.MoreVarItems (codes "c") Tree.NoExpr Tree.NoVarItems)) (Tree.MoreStmts (Tree.Do (Tree.Ident (codes "d"))) (Tree.MoreStmts (Tree.Throw (Tree.Ident (codes "e"))) (Tree.MoreStmts (Tree.Do (Tree.Ident (codes "f"))) Tree.NoStmts)))))) (name (codes "a") false ∷ name (codes "b") true ∷ word w.Var true ∷ name (codes "c") false ∷ name (codes "d") true ∷ word w.Throw true ∷ name (codes "e") false ∷ name (codes "f") true ∷ []) refl (g.source_and (g.statement (g.expression (g.identifier false (lit≤ tt) refl) (λ e. cc) (λ e. cc) (e.at_line refl refl (λ e. cc)))) (g.source_and (g.statement (g.expression (g.identifier true (lit≤ tt) refl) (λ e. cc) (λ e. cc) (e.at_line refl refl (λ e. cc)))) (g.source_and (g.statement (g.variables true (g.last_declarator (g.bare false refl)) (e.at_line refl refl (λ e. cc)))) (g.source_and (g.statement (g.expression (g.identifier true (lit≤ tt) refl) (λ e. cc) (λ e. cc) (e.at_line refl refl (λ e. cc)))) (g.source_and (g.statement (g.throw true (g.identifier false (lit≤ tt) refl) refl (e.at_line refl refl (λ e. cc)))) (g.source_and (g.statement (g.expression (g.identifier true (lit≤ tt) refl) (λ e. cc) (λ e. cc) (e.at_end refl))) g.no_source)))))) (record { few = lit≤ tt; low = lit≤ tt; flat = lit≤ tt; closed = lit≤ tt }) refl

pub signs_go_on : Reads Source (codes "a\n+ b\n- c") (codes "a+b-c;\n")
unfolding unicode_ident utf16_chars digits
signs_go_on = reads_as Source (codes "a\n+ b\n- c") (Tree.MoreStmts (Tree.Do (Tree.Binary b.Subtract (Tree.Binary b.Add (Tree.Ident (codes "a")) (Tree.Ident (codes "b"))) (Tree.Ident (codes "c")))) Tree.NoStmts) (name (codes "a") false ∷ mark m.Plus true ∷ name (codes "b") false ∷ mark m.Minus true ∷ name (codes "c") false ∷ []) refl (g.source_and (g.statement (g.expression (g.binary (Operation b.Subtract) true (lit≤ tt) refl (g.binary (Operation b.Add) true (lit≤ tt) refl (g.identifier false (lit≤ tt) refl) (g.identifier false (lit≤ tt) refl)) (g.identifier false (lit≤ tt) refl)) (λ e. cc) (λ e. cc) (e.at_end refl))) g.no_source) (record { few = lit≤ tt; low = lit≤ tt; flat = lit≤ tt; closed = lit≤ tt }) refl

pub brackets_go_on : Reads Source (codes "a\n[ b ]\n( c )\n. d") (codes "a[b](c).d;\n")
unfolding unicode_ident utf16_chars digits
brackets_go_on = reads_as Source (codes "a\n[ b ]\n( c )\n. d") (Tree.MoreStmts (Tree.Do (Tree.Dot (Tree.Call (Tree.Index (Tree.Ident (codes "a")) (Tree.Ident (codes "b"))) (Tree.MoreExprs (Tree.Ident (codes "c")) Tree.NoExprs)) (codes "d"))) Tree.NoStmts) (name (codes "a") false ∷ mark m.OpenBracket true ∷ name (codes "b") false ∷ mark m.CloseBracket false ∷ mark m.OpenParenthesis true ∷ name (codes "c") false ∷ mark m.CloseParenthesis false ∷ mark m.Dot true ∷ name (codes "d") false ∷ []) refl (g.source_and (g.statement (g.expression (g.dot 17 true false (lit≤ tt) (lit≤ tt) (lit≤ tt) (g.call (lit≤ tt) (g.index 18 true false (lit≤ tt) (lit≤ tt) (lit≤ tt) (g.identifier false (lit≤ tt) refl) (g.identifier false (lit≤ tt) refl)) (g.arguments true false (g.last_argument (g.identifier false (lit≤ tt) refl)))) refl) (λ e. cc) (λ e. cc) (e.at_end refl))) g.no_source) (record { few = lit≤ tt; low = lit≤ tt; flat = lit≤ tt; closed = lit≤ tt }) refl

pub operators_go_on : Reads Source (codes "a\n= b\n? c\n: d\n, e\n|| f\nin g\ninstanceof h") (codes "a=b?c:d,e||f in g instanceof h;\n")
unfolding unicode_ident utf16_chars digits
operators_go_on = reads_as Source (codes "a\n= b\n? c\n: d\n, e\n|| f\nin g\ninstanceof h") (Tree.MoreStmts (Tree.Do (Tree.Comma (Tree.Assign None (Tree.Ident (codes "a")) (Tree.Cond (Tree.Ident (codes "b")) (Tree.Ident (codes "c")) (Tree.Ident (codes "d")))) (Tree.Or (Tree.Ident (codes "e")) (Tree.Binary b.InstanceOf (Tree.Binary b.In (Tree.Ident (codes "f")) (Tree.Ident (codes "g"))) (Tree.Ident (codes "h")))))) Tree.NoStmts) (name (codes "a") false ∷ mark m.Assign true ∷ name (codes "b") false ∷ mark m.Question true ∷ name (codes "c") false ∷ mark m.Colon true ∷ name (codes "d") false ∷ mark m.Comma true ∷ name (codes "e") false ∷ mark m.Or true ∷ name (codes "f") false ∷ word w.In true ∷ name (codes "g") false ∷ word w.InstanceOf true ∷ name (codes "h") false ∷ []) refl (g.source_and (g.statement (g.expression (g.comma true (lit≤ tt) (g.assign None m.Assign true (lit≤ tt) refl (g.identifier false (lit≤ tt) refl) refl (g.conditional true true (lit≤ tt) (g.identifier false (lit≤ tt) refl) (g.identifier false (lit≤ tt) refl) (g.identifier false (lit≤ tt) refl))) (g.binary LogicalOr true (lit≤ tt) refl (g.identifier false (lit≤ tt) refl) (g.binary (Operation b.InstanceOf) true (lit≤ tt) refl (g.binary (Operation b.In) true (lit≤ tt) refl (g.identifier false (lit≤ tt) refl) (g.identifier false (lit≤ tt) refl)) (g.identifier false (lit≤ tt) refl)))) (λ e. cc) (λ e. cc) (e.at_end refl))) g.no_source) (record { few = lit≤ tt; low = lit≤ tt; flat = lit≤ tt; closed = lit≤ tt }) refl

pub changes_do_not : Reads Source (codes "a\n++ b\n-- c") (codes "a;++b;--c;\n")
unfolding unicode_ident utf16_chars digits
changes_do_not = reads_as Source (codes "a\n++ b\n-- c") (Tree.MoreStmts (Tree.Do (Tree.Ident (codes "a"))) (Tree.MoreStmts (Tree.Do (Tree.Prefix p.Increment (Tree.Ident (codes "b")))) (Tree.MoreStmts (Tree.Do (Tree.Prefix p.Decrement (Tree.Ident (codes "c")))) Tree.NoStmts))) (name (codes "a") false ∷ mark m.PlusPlus true ∷ name (codes "b") false ∷ mark m.MinusMinus true ∷ name (codes "c") false ∷ []) refl (g.source_and (g.statement (g.expression (g.identifier false (lit≤ tt) refl) (λ e. cc) (λ e. cc) (e.at_line refl refl (λ e. cc)))) (g.source_and (g.statement (g.expression (g.changed p.Increment true (lit≤ tt) refl (g.identifier false (lit≤ tt) refl) refl) (λ e. cc) (λ e. cc) (e.at_line refl refl (λ e. cc)))) (g.source_and (g.statement (g.expression (g.changed p.Decrement true (lit≤ tt) refl (g.identifier false (lit≤ tt) refl) refl) (λ e. cc) (λ e. cc) (e.at_end refl))) g.no_source))) (record { few = lit≤ tt; low = lit≤ tt; flat = lit≤ tt; closed = lit≤ tt }) refl

pub behind_a_change : Reads Source (codes "a ++\n( b )\na --\n[ c ]") (codes "a++;b;a--;[c];\n")
unfolding unicode_ident utf16_chars digits
behind_a_change = reads_as Source (codes "a ++\n( b )\na --\n[ c ]") (Tree.MoreStmts (Tree.Do (Tree.Postfix (Tree.Ident (codes "a")) q.Increment)) (Tree.MoreStmts (Tree.Do (Tree.Ident (codes "b"))) (Tree.MoreStmts (Tree.Do (Tree.Postfix (Tree.Ident (codes "a")) q.Decrement)) (Tree.MoreStmts (Tree.Do (Tree.Array (Tree.MoreElements (Tree.AnExpr (Tree.Ident (codes "c"))) Tree.NoElements))) Tree.NoStmts)))) (name (codes "a") false ∷ mark m.PlusPlus false ∷ mark m.OpenParenthesis true ∷ name (codes "b") false ∷ mark m.CloseParenthesis false ∷ name (codes "a") true ∷ mark m.MinusMinus false ∷ mark m.OpenBracket true ∷ name (codes "c") false ∷ mark m.CloseBracket false ∷ []) refl (g.source_and (g.statement (g.expression (g.postfix q.Increment (lit≤ tt) (g.identifier false (lit≤ tt) refl) refl) (λ e. cc) (λ e. cc) (e.at_line refl refl (λ e. cc)))) (g.source_and (g.statement (g.expression (g.parenthesised true false (lit≤ tt) (g.identifier false (lit≤ tt) refl)) (λ e. cc) (λ e. cc) (e.at_line refl refl (λ e. cc)))) (g.source_and (g.statement (g.expression (g.postfix q.Decrement (lit≤ tt) (g.identifier true (lit≤ tt) refl) refl) (λ e. cc) (λ e. cc) (e.at_line refl refl (λ e. cc)))) (g.source_and (g.statement (g.expression (g.array true false (lit≤ tt) (g.last_element (g.identifier false (lit≤ tt) refl))) (λ e. cc) (λ e. cc) (e.at_end refl))) g.no_source)))) (record { few = lit≤ tt; low = lit≤ tt; flat = lit≤ tt; closed = lit≤ tt }) refl

pub signs_behind_a_change : Reads Source (codes "a ++\n+ b") (codes "a+++b;\n")
unfolding unicode_ident utf16_chars digits
signs_behind_a_change = reads_as Source (codes "a ++\n+ b") (Tree.MoreStmts (Tree.Do (Tree.Binary b.Add (Tree.Postfix (Tree.Ident (codes "a")) q.Increment) (Tree.Ident (codes "b")))) Tree.NoStmts) (name (codes "a") false ∷ mark m.PlusPlus false ∷ mark m.Plus true ∷ name (codes "b") false ∷ []) refl (g.source_and (g.statement (g.expression (g.binary (Operation b.Add) true (lit≤ tt) refl (g.postfix q.Increment (lit≤ tt) (g.identifier false (lit≤ tt) refl) refl) (g.identifier false (lit≤ tt) refl)) (λ e. cc) (λ e. cc) (e.at_end refl))) g.no_source) (record { few = lit≤ tt; low = lit≤ tt; flat = lit≤ tt; closed = lit≤ tt }) refl

pub behind_a_name : Reads Source (codes "var a\n( b )\nvar c\n+ d\nvar e\n[ f ]") (codes "var a;b;var c;+d;var e;[f];\n")
unfolding unicode_ident utf16_chars digits
behind_a_name = reads_as Source (codes "var a\n( b )\nvar c\n+ d\nvar e\n[ f ]") (Tree.MoreStmts (Tree.Variables (Tree.MoreVarItems (codes "a") Tree.NoExpr Tree.NoVarItems)) (Tree.MoreStmts (Tree.Do (Tree.Ident (codes "b"))) (Tree.MoreStmts (Tree.Variables (Tree.MoreVarItems (codes "c") Tree.NoExpr Tree.NoVarItems)) (Tree.MoreStmts (Tree.Do (Tree.Prefix p.Plus (Tree.Ident (codes "d")))) (Tree.MoreStmts (Tree.Variables (Tree.MoreVarItems (codes "e") Tree.NoExpr Tree.NoVarItems)) (Tree.MoreStmts (Tree.Do (Tree.Array (Tree.MoreElements (Tree.AnExpr (Tree.Ident (codes "f"))) Tree.NoElements))) Tree.NoStmts)))))) (word w.Var false ∷ name (codes "a") false ∷ mark m.OpenParenthesis true ∷ name (codes "b") false ∷ mark m.CloseParenthesis false ∷ word w.Var true ∷ name (codes "c") false ∷ mark m.Plus true ∷ name (codes "d") false ∷ word w.Var true ∷ name (codes "e") false ∷ mark m.OpenBracket true ∷ name (codes "f") false ∷ mark m.CloseBracket false ∷ []) refl (g.source_and (g.statement (g.variables false (g.last_declarator (g.bare false refl)) (e.at_line refl refl (λ e. cc)))) (g.source_and (g.statement (g.expression (g.parenthesised true false (lit≤ tt) (g.identifier false (lit≤ tt) refl)) (λ e. cc) (λ e. cc) (e.at_line refl refl (λ e. cc)))) (g.source_and (g.statement (g.variables true (g.last_declarator (g.bare false refl)) (e.at_line refl refl (λ e. cc)))) (g.source_and (g.statement (g.expression (g.prefix p.Plus true (lit≤ tt) refl (g.identifier false (lit≤ tt) refl)) (λ e. cc) (λ e. cc) (e.at_line refl refl (λ e. cc)))) (g.source_and (g.statement (g.variables true (g.last_declarator (g.bare false refl)) (e.at_line refl refl (λ e. cc)))) (g.source_and (g.statement (g.expression (g.array true false (lit≤ tt) (g.last_element (g.identifier false (lit≤ tt) refl))) (λ e. cc) (λ e. cc) (e.at_end refl))) g.no_source)))))) (record { few = lit≤ tt; low = lit≤ tt; flat = lit≤ tt; closed = lit≤ tt }) refl

pub names_go_on : Reads Source (codes "var a\n= b\n, c\n, d = e") (codes "var a=b,c,d=e;\n")
unfolding unicode_ident utf16_chars digits
names_go_on = reads_as Source (codes "var a\n= b\n, c\n, d = e") (Tree.MoreStmts (Tree.Variables (Tree.MoreVarItems (codes "a") (Tree.AnExpr (Tree.Ident (codes "b"))) (Tree.MoreVarItems (codes "c") Tree.NoExpr (Tree.MoreVarItems (codes "d") (Tree.AnExpr (Tree.Ident (codes "e"))) Tree.NoVarItems)))) Tree.NoStmts) (word w.Var false ∷ name (codes "a") false ∷ mark m.Assign true ∷ name (codes "b") false ∷ mark m.Comma true ∷ name (codes "c") false ∷ mark m.Comma true ∷ name (codes "d") false ∷ mark m.Assign false ∷ name (codes "e") false ∷ []) refl (g.source_and (g.statement (g.variables false (g.declarator_and true (g.initialised false true refl (g.identifier false (lit≤ tt) refl)) (g.declarator_and true (g.bare false refl) (g.last_declarator (g.initialised false false refl (g.identifier false (lit≤ tt) refl))))) (e.at_end refl))) g.no_source) (record { few = lit≤ tt; low = lit≤ tt; flat = lit≤ tt; closed = lit≤ tt }) refl

pub values_go_on : Reads Source (codes "var a = b\n( c )\n, d = e\n+ f") (codes "var a=b(c),d=e+f;\n")
unfolding unicode_ident utf16_chars digits
values_go_on = reads_as Source (codes "var a = b\n( c )\n, d = e\n+ f") (Tree.MoreStmts (Tree.Variables (Tree.MoreVarItems (codes "a") (Tree.AnExpr (Tree.Call (Tree.Ident (codes "b")) (Tree.MoreExprs (Tree.Ident (codes "c")) Tree.NoExprs))) (Tree.MoreVarItems (codes "d") (Tree.AnExpr (Tree.Binary b.Add (Tree.Ident (codes "e")) (Tree.Ident (codes "f")))) Tree.NoVarItems))) Tree.NoStmts) (word w.Var false ∷ name (codes "a") false ∷ mark m.Assign false ∷ name (codes "b") false ∷ mark m.OpenParenthesis true ∷ name (codes "c") false ∷ mark m.CloseParenthesis false ∷ mark m.Comma true ∷ name (codes "d") false ∷ mark m.Assign false ∷ name (codes "e") false ∷ mark m.Plus true ∷ name (codes "f") false ∷ []) refl (g.source_and (g.statement (g.variables false (g.declarator_and true (g.initialised false false refl (g.call (lit≤ tt) (g.identifier false (lit≤ tt) refl) (g.arguments true false (g.last_argument (g.identifier false (lit≤ tt) refl))))) (g.last_declarator (g.initialised false false refl (g.binary (Operation b.Add) true (lit≤ tt) refl (g.identifier false (lit≤ tt) refl) (g.identifier false (lit≤ tt) refl))))) (e.at_end refl))) g.no_source) (record { few = lit≤ tt; low = lit≤ tt; flat = lit≤ tt; closed = lit≤ tt }) refl

pub behind_do : Reads Source (codes "do ; while ( a )\n( b )\ndo ; while ( c )\n+ d") (codes "do;while(a);b;do;while(c);+d;\n")
unfolding unicode_ident utf16_chars digits
behind_do = reads_as Source (codes "do ; while ( a )\n( b )\ndo ; while ( c )\n+ d") (Tree.MoreStmts (Tree.DoWhile Tree.Empty (Tree.Ident (codes "a"))) (Tree.MoreStmts (Tree.Do (Tree.Ident (codes "b"))) (Tree.MoreStmts (Tree.DoWhile Tree.Empty (Tree.Ident (codes "c"))) (Tree.MoreStmts (Tree.Do (Tree.Prefix p.Plus (Tree.Ident (codes "d")))) Tree.NoStmts)))) (word w.Do false ∷ mark m.Semicolon false ∷ word w.While false ∷ mark m.OpenParenthesis false ∷ name (codes "a") false ∷ mark m.CloseParenthesis false ∷ mark m.OpenParenthesis true ∷ name (codes "b") false ∷ mark m.CloseParenthesis false ∷ word w.Do true ∷ mark m.Semicolon false ∷ word w.While false ∷ mark m.OpenParenthesis false ∷ name (codes "c") false ∷ mark m.CloseParenthesis false ∷ mark m.Plus true ∷ name (codes "d") false ∷ []) refl (g.source_and (g.statement (g.do_while false false false false (g.empty false) (g.identifier false (lit≤ tt) refl) (e.at_line refl refl (λ e. cc)))) (g.source_and (g.statement (g.expression (g.parenthesised true false (lit≤ tt) (g.identifier false (lit≤ tt) refl)) (λ e. cc) (λ e. cc) (e.at_line refl refl (λ e. cc)))) (g.source_and (g.statement (g.do_while true false false false (g.empty false) (g.identifier false (lit≤ tt) refl) (e.at_line refl refl (λ e. cc)))) (g.source_and (g.statement (g.expression (g.prefix p.Plus true (lit≤ tt) refl (g.identifier false (lit≤ tt) refl)) (λ e. cc) (λ e. cc) (e.at_end refl))) g.no_source)))) (record { few = lit≤ tt; low = lit≤ tt; flat = lit≤ tt; closed = lit≤ tt }) refl

pub behind_labels : Reads Source (codes "a : while ( b ) { continue a\n( c )\nbreak a\n[ d ] }") (codes "a:while(b){continue a;c;break a;[d];}\n")
unfolding unicode_ident utf16_chars digits
behind_labels = reads_as Source (codes "a : while ( b ) { continue a\n( c )\nbreak a\n[ d ] }") (Tree.MoreStmts (Tree.Label (codes "a") (Tree.While (Tree.Ident (codes "b")) (Tree.Block (Tree.MoreStmts (Tree.Continue (Some (codes "a"))) (Tree.MoreStmts (Tree.Do (Tree.Ident (codes "c"))) (Tree.MoreStmts (Tree.Break (Some (codes "a"))) (Tree.MoreStmts (Tree.Do (Tree.Array (Tree.MoreElements (Tree.AnExpr (Tree.Ident (codes "d"))) Tree.NoElements))) Tree.NoStmts))))))) Tree.NoStmts) (name (codes "a") false ∷ mark m.Colon false ∷ word w.While false ∷ mark m.OpenParenthesis false ∷ name (codes "b") false ∷ mark m.CloseParenthesis false ∷ mark m.OpenBrace false ∷ word w.Continue false ∷ name (codes "a") false ∷ mark m.OpenParenthesis true ∷ name (codes "c") false ∷ mark m.CloseParenthesis false ∷ word w.Break true ∷ name (codes "a") false ∷ mark m.OpenBracket true ∷ name (codes "d") false ∷ mark m.CloseBracket false ∷ mark m.CloseBrace false ∷ []) refl (g.source_and (g.statement (g.label false false refl refl (g.while false false false (g.identifier false (lit≤ tt) refl) (g.block (g.braces false false (g.statement_and (g.continue_to false refl refl (e.at_line refl refl (λ e. cc))) (g.statement_and (g.expression (g.parenthesised true false (lit≤ tt) (g.identifier false (lit≤ tt) refl)) (λ e. cc) (λ e. cc) (e.at_line refl refl (λ e. cc))) (g.statement_and (g.break_from true refl refl (e.at_line refl refl (λ e. cc))) (g.statement_and (g.expression (g.array true false (lit≤ tt) (g.last_element (g.identifier false (lit≤ tt) refl))) (λ e. cc) (λ e. cc) (e.at_brace refl)) g.no_statement))))))))) g.no_source) (record { few = lit≤ tt; low = lit≤ tt; flat = lit≤ tt; closed = lit≤ tt }) refl

pub written_on_the_next_line : Reads Source (codes "a\n; b") (codes "a;b;\n")
unfolding unicode_ident utf16_chars digits
written_on_the_next_line = reads_as Source (codes "a\n; b") (Tree.MoreStmts (Tree.Do (Tree.Ident (codes "a"))) (Tree.MoreStmts (Tree.Do (Tree.Ident (codes "b"))) Tree.NoStmts)) (name (codes "a") false ∷ mark m.Semicolon true ∷ name (codes "b") false ∷ []) refl (g.source_and (g.statement (g.expression (g.identifier false (lit≤ tt) refl) (λ e. cc) (λ e. cc) (e.written true))) (g.source_and (g.statement (g.expression (g.identifier false (lit≤ tt) refl) (λ e. cc) (λ e. cc) (e.at_end refl))) g.no_source)) (record { few = lit≤ tt; low = lit≤ tt; flat = lit≤ tt; closed = lit≤ tt }) refl

pub written_behind_labels : Reads Source (codes "a : { break a\n; }") (codes "a:{break a;}\n")
unfolding unicode_ident utf16_chars digits
written_behind_labels = reads_as Source (codes "a : { break a\n; }") (Tree.MoreStmts (Tree.Label (codes "a") (Tree.Block (Tree.MoreStmts (Tree.Break (Some (codes "a"))) Tree.NoStmts))) Tree.NoStmts) (name (codes "a") false ∷ mark m.Colon false ∷ mark m.OpenBrace false ∷ word w.Break false ∷ name (codes "a") false ∷ mark m.Semicolon true ∷ mark m.CloseBrace false ∷ []) refl (g.source_and (g.statement (g.label false false refl refl (g.block (g.braces false false (g.statement_and (g.break_from false refl refl (e.written true)) g.no_statement))))) g.no_source) (record { few = lit≤ tt; low = lit≤ tt; flat = lit≤ tt; closed = lit≤ tt }) refl

pub written_behind_do : Reads Source (codes "do ; while ( a )\n;") (codes "do;while(a);\n")
unfolding unicode_ident utf16_chars digits
written_behind_do = reads_as Source (codes "do ; while ( a )\n;") (Tree.MoreStmts (Tree.DoWhile Tree.Empty (Tree.Ident (codes "a"))) Tree.NoStmts) (word w.Do false ∷ mark m.Semicolon false ∷ word w.While false ∷ mark m.OpenParenthesis false ∷ name (codes "a") false ∷ mark m.CloseParenthesis false ∷ mark m.Semicolon true ∷ []) refl (g.source_and (g.statement (g.do_while false false false false (g.empty false) (g.identifier false (lit≤ tt) refl) (e.written true))) g.no_source) (record { few = lit≤ tt; low = lit≤ tt; flat = lit≤ tt; closed = lit≤ tt }) refl

pub written_behind_names : Reads Source (codes "var a\n;") (codes "var a;\n")
unfolding unicode_ident utf16_chars digits
written_behind_names = reads_as Source (codes "var a\n;") (Tree.MoreStmts (Tree.Variables (Tree.MoreVarItems (codes "a") Tree.NoExpr Tree.NoVarItems)) Tree.NoStmts) (word w.Var false ∷ name (codes "a") false ∷ mark m.Semicolon true ∷ []) refl (g.source_and (g.statement (g.variables false (g.last_declarator (g.bare false refl)) (e.written true))) g.no_source) (record { few = lit≤ tt; low = lit≤ tt; flat = lit≤ tt; closed = lit≤ tt }) refl

pub jumps_end_at_once : Reads Source (codes "while ( a ) { continue\n; break\n; }") (codes "while(a){continue;;break;;}\n")
unfolding unicode_ident utf16_chars digits
jumps_end_at_once = reads_as Source (codes "while ( a ) { continue\n; break\n; }") (Tree.MoreStmts (Tree.While (Tree.Ident (codes "a")) (Tree.Block (Tree.MoreStmts (Tree.Continue None) (Tree.MoreStmts Tree.Empty (Tree.MoreStmts (Tree.Break None) (Tree.MoreStmts Tree.Empty Tree.NoStmts)))))) Tree.NoStmts) (word w.While false ∷ mark m.OpenParenthesis false ∷ name (codes "a") false ∷ mark m.CloseParenthesis false ∷ mark m.OpenBrace false ∷ word w.Continue false ∷ mark m.Semicolon true ∷ word w.Break false ∷ mark m.Semicolon true ∷ mark m.CloseBrace false ∷ []) refl (g.source_and (g.statement (g.while false false false (g.identifier false (lit≤ tt) refl) (g.block (g.braces false false (g.statement_and (g.continue false refl (e.before_line refl)) (g.statement_and (g.empty true) (g.statement_and (g.break false refl (e.before_line refl)) (g.statement_and (g.empty true) g.no_statement)))))))) g.no_source) (record { few = lit≤ tt; low = lit≤ tt; flat = lit≤ tt; closed = lit≤ tt }) refl

pub jumps_have_labels_on_their_line : Reads Source (codes "b : while ( a ) { continue\nb ; break\nb ; }") (codes "b:while(a){continue;b;break;b;}\n")
unfolding unicode_ident utf16_chars digits
jumps_have_labels_on_their_line = reads_as Source (codes "b : while ( a ) { continue\nb ; break\nb ; }") (Tree.MoreStmts (Tree.Label (codes "b") (Tree.While (Tree.Ident (codes "a")) (Tree.Block (Tree.MoreStmts (Tree.Continue None) (Tree.MoreStmts (Tree.Do (Tree.Ident (codes "b"))) (Tree.MoreStmts (Tree.Break None) (Tree.MoreStmts (Tree.Do (Tree.Ident (codes "b"))) Tree.NoStmts))))))) Tree.NoStmts) (name (codes "b") false ∷ mark m.Colon false ∷ word w.While false ∷ mark m.OpenParenthesis false ∷ name (codes "a") false ∷ mark m.CloseParenthesis false ∷ mark m.OpenBrace false ∷ word w.Continue false ∷ name (codes "b") true ∷ mark m.Semicolon false ∷ word w.Break false ∷ name (codes "b") true ∷ mark m.Semicolon false ∷ mark m.CloseBrace false ∷ []) refl (g.source_and (g.statement (g.label false false refl refl (g.while false false false (g.identifier false (lit≤ tt) refl) (g.block (g.braces false false (g.statement_and (g.continue false refl (e.before_line refl)) (g.statement_and (g.expression (g.identifier true (lit≤ tt) refl) (λ e. cc) (λ e. cc) (e.written false)) (g.statement_and (g.break false refl (e.before_line refl)) (g.statement_and (g.expression (g.identifier true (lit≤ tt) refl) (λ e. cc) (λ e. cc) (e.written false)) g.no_statement))))))))) g.no_source) (record { few = lit≤ tt; low = lit≤ tt; flat = lit≤ tt; closed = lit≤ tt }) refl

pub returns_end_at_once : Reads Source (codes "function f ( ) { return\n; return\na ; return\n( b ) }") (codes "function f(){return;;return;a;return;b;}\n")
unfolding unicode_ident utf16_chars digits
returns_end_at_once = reads_as Source (codes "function f ( ) { return\n; return\na ; return\n( b ) }") (Tree.MoreStmts (Tree.Declare (code (Some (codes "f")) [] (Tree.MoreStmts (Tree.Return Tree.NoExpr) (Tree.MoreStmts Tree.Empty (Tree.MoreStmts (Tree.Return Tree.NoExpr) (Tree.MoreStmts (Tree.Do (Tree.Ident (codes "a"))) (Tree.MoreStmts (Tree.Return Tree.NoExpr) (Tree.MoreStmts (Tree.Do (Tree.Ident (codes "b"))) Tree.NoStmts)))))))) Tree.NoStmts) (word w.Function false ∷ name (codes "f") false ∷ mark m.OpenParenthesis false ∷ mark m.CloseParenthesis false ∷ mark m.OpenBrace false ∷ word w.Return false ∷ mark m.Semicolon true ∷ word w.Return false ∷ name (codes "a") true ∷ mark m.Semicolon false ∷ word w.Return false ∷ mark m.OpenParenthesis true ∷ name (codes "b") false ∷ mark m.CloseParenthesis false ∷ mark m.CloseBrace false ∷ []) refl (g.source_and (g.declaration false false refl (g.function_rest false false false false g.no_formal refl (g.source_and (g.statement (g.return false refl (e.before_line refl))) (g.source_and (g.statement (g.empty true)) (g.source_and (g.statement (g.return false refl (e.before_line refl))) (g.source_and (g.statement (g.expression (g.identifier true (lit≤ tt) refl) (λ e. cc) (λ e. cc) (e.written false))) (g.source_and (g.statement (g.return false refl (e.before_line refl))) (g.source_and (g.statement (g.expression (g.parenthesised true false (lit≤ tt) (g.identifier false (lit≤ tt) refl)) (λ e. cc) (λ e. cc) (e.at_brace refl))) g.no_source)))))))) g.no_source) (record { few = lit≤ tt; low = lit≤ tt; flat = lit≤ tt; closed = lit≤ tt }) refl

pub returned_on_two_lines : Reads Source (codes "function f ( ) { return a\n+ b }") (codes "function f(){return a+b;}\n")
unfolding unicode_ident utf16_chars digits
returned_on_two_lines = reads_as Source (codes "function f ( ) { return a\n+ b }") (Tree.MoreStmts (Tree.Declare (code (Some (codes "f")) [] (Tree.MoreStmts (Tree.Return (Tree.AnExpr (Tree.Binary b.Add (Tree.Ident (codes "a")) (Tree.Ident (codes "b"))))) Tree.NoStmts))) Tree.NoStmts) (word w.Function false ∷ name (codes "f") false ∷ mark m.OpenParenthesis false ∷ mark m.CloseParenthesis false ∷ mark m.OpenBrace false ∷ word w.Return false ∷ name (codes "a") false ∷ mark m.Plus true ∷ name (codes "b") false ∷ mark m.CloseBrace false ∷ []) refl (g.source_and (g.declaration false false refl (g.function_rest false false false false g.no_formal refl (g.source_and (g.statement (g.return_value false refl (g.binary (Operation b.Add) true (lit≤ tt) refl (g.identifier false (lit≤ tt) refl) (g.identifier false (lit≤ tt) refl)) refl (e.at_brace refl))) g.no_source))) g.no_source) (record { few = lit≤ tt; low = lit≤ tt; flat = lit≤ tt; closed = lit≤ tt }) refl

pub jumps_on_their_line : Reads Source (codes "while ( a ) { continue ; break ; }") (codes "while(a){continue;break;}\n")
unfolding unicode_ident utf16_chars digits
jumps_on_their_line = reads_as Source (codes "while ( a ) { continue ; break ; }") (Tree.MoreStmts (Tree.While (Tree.Ident (codes "a")) (Tree.Block (Tree.MoreStmts (Tree.Continue None) (Tree.MoreStmts (Tree.Break None) Tree.NoStmts)))) Tree.NoStmts) (word w.While false ∷ mark m.OpenParenthesis false ∷ name (codes "a") false ∷ mark m.CloseParenthesis false ∷ mark m.OpenBrace false ∷ word w.Continue false ∷ mark m.Semicolon false ∷ word w.Break false ∷ mark m.Semicolon false ∷ mark m.CloseBrace false ∷ []) refl (g.source_and (g.statement (g.while false false false (g.identifier false (lit≤ tt) refl) (g.block (g.braces false false (g.statement_and (g.continue false refl e.semicolon) (g.statement_and (g.break false refl e.semicolon) g.no_statement)))))) g.no_source) (record { few = lit≤ tt; low = lit≤ tt; flat = lit≤ tt; closed = lit≤ tt }) refl

pub do_on_two_lines : Reads Source (codes "do a\nwhile ( b )") (codes "do a;while(b);\n")
unfolding unicode_ident utf16_chars digits
do_on_two_lines = reads_as Source (codes "do a\nwhile ( b )") (Tree.MoreStmts (Tree.DoWhile (Tree.Do (Tree.Ident (codes "a"))) (Tree.Ident (codes "b"))) Tree.NoStmts) (word w.Do false ∷ name (codes "a") false ∷ word w.While true ∷ mark m.OpenParenthesis false ∷ name (codes "b") false ∷ mark m.CloseParenthesis false ∷ []) refl (g.source_and (g.statement (g.do_while false true false false (g.expression (g.identifier false (lit≤ tt) refl) (λ e. cc) (λ e. cc) (e.at_line refl refl (λ e. cc))) (g.identifier false (lit≤ tt) refl) (e.at_end refl))) g.no_source) (record { few = lit≤ tt; low = lit≤ tt; flat = lit≤ tt; closed = lit≤ tt }) refl

pub else_on_the_next_line : Reads Source (codes "if ( a ) b\nelse c") (codes "if(a)b;else c;\n")
unfolding unicode_ident utf16_chars digits
else_on_the_next_line = reads_as Source (codes "if ( a ) b\nelse c") (Tree.MoreStmts (Tree.If (Tree.Ident (codes "a")) (Tree.Do (Tree.Ident (codes "b"))) (Tree.AStmt (Tree.Do (Tree.Ident (codes "c"))))) Tree.NoStmts) (word w.If false ∷ mark m.OpenParenthesis false ∷ name (codes "a") false ∷ mark m.CloseParenthesis false ∷ name (codes "b") false ∷ word w.Else true ∷ name (codes "c") false ∷ []) refl (g.source_and (g.statement (g.if_else false false false true (g.identifier false (lit≤ tt) refl) (g.expression (g.identifier false (lit≤ tt) refl) (λ e. cc) (λ e. cc) (e.at_line refl refl (λ e. cc))) (g.expression (g.identifier false (lit≤ tt) refl) (λ e. cc) (λ e. cc) (e.at_end refl)))) g.no_source) (record { few = lit≤ tt; low = lit≤ tt; flat = lit≤ tt; closed = lit≤ tt }) refl

pub names_on_a_line : BreaksAt Source (codes "a") (codes "b")
names_on_a_line = breaks_at Source (codes "a") (codes "b") (Tree.MoreStmts (Tree.Do (Tree.Ident (codes "a"))) Tree.NoStmts) (mark m.Semicolon false ∷ []) (name (codes "a") false ∷ mark m.Semicolon false ∷ []) (name (codes "a") false ∷ name (codes "b") false ∷ []) refl refl (g.source_and (g.statement (g.expression (g.identifier false (lit≤ tt) refl) (λ e. cc) (λ e. cc) (e.written false))) g.no_source) (lit≤ tt) (λ others. refl)

pub numbers_on_a_line : BreaksAt Source (codes "a") (codes "1")
numbers_on_a_line = breaks_at Source (codes "a") (codes "1") (Tree.MoreStmts (Tree.Do (Tree.Ident (codes "a"))) Tree.NoStmts) (mark m.Semicolon false ∷ []) (name (codes "a") false ∷ mark m.Semicolon false ∷ []) (name (codes "a") false ∷ number 1 false ∷ []) refl refl (g.source_and (g.statement (g.expression (g.identifier false (lit≤ tt) refl) (λ e. cc) (λ e. cc) (e.written false))) g.no_source) (lit≤ tt) (λ others. refl)

pub items_on_a_line : BreaksAt Source (codes "var a") (codes "b")
items_on_a_line = breaks_at Source (codes "var a") (codes "b") (Tree.MoreStmts (Tree.Variables (Tree.MoreVarItems (codes "a") Tree.NoExpr Tree.NoVarItems)) Tree.NoStmts) (mark m.Semicolon false ∷ []) (word w.Var false ∷ name (codes "a") false ∷ mark m.Semicolon false ∷ []) (word w.Var false ∷ name (codes "a") false ∷ name (codes "b") false ∷ []) refl refl (g.source_and (g.statement (g.variables false (g.last_declarator (g.bare false refl)) (e.written false))) g.no_source) (lit≤ tt) (λ others. refl)

pub values_on_a_line : BreaksAt Source (codes "var a = 1") (codes "2")
values_on_a_line = breaks_at Source (codes "var a = 1") (codes "2") (Tree.MoreStmts (Tree.Variables (Tree.MoreVarItems (codes "a") (Tree.AnExpr (Tree.Num 1)) Tree.NoVarItems)) Tree.NoStmts) (mark m.Semicolon false ∷ []) (word w.Var false ∷ name (codes "a") false ∷ mark m.Assign false ∷ number 1 false ∷ mark m.Semicolon false ∷ []) (word w.Var false ∷ name (codes "a") false ∷ mark m.Assign false ∷ number 1 false ∷ number 2 false ∷ []) refl refl (g.source_and (g.statement (g.variables false (g.last_declarator (g.initialised false false refl (g.numeral true false (lit≤ tt)))) (e.written false))) g.no_source) (lit≤ tt) (λ others. refl)

pub do_on_a_line : BreaksAt Source (codes "do ; while ( a )") (codes "b")
do_on_a_line = breaks_at Source (codes "do ; while ( a )") (codes "b") (Tree.MoreStmts (Tree.DoWhile Tree.Empty (Tree.Ident (codes "a"))) Tree.NoStmts) (mark m.Semicolon false ∷ []) (word w.Do false ∷ mark m.Semicolon false ∷ word w.While false ∷ mark m.OpenParenthesis false ∷ name (codes "a") false ∷ mark m.CloseParenthesis false ∷ mark m.Semicolon false ∷ []) (word w.Do false ∷ mark m.Semicolon false ∷ word w.While false ∷ mark m.OpenParenthesis false ∷ name (codes "a") false ∷ mark m.CloseParenthesis false ∷ name (codes "b") false ∷ []) refl refl (g.source_and (g.statement (g.do_while false false false false (g.empty false) (g.identifier false (lit≤ tt) refl) (e.written false))) g.no_source) (lit≤ tt) (λ others. refl)

pub do_body_on_a_line : BreaksAt Source (codes "do a") (codes "while")
do_body_on_a_line = breaks_at Source (codes "do a") (codes "while") (Tree.MoreStmts (Tree.DoWhile (Tree.Do (Tree.Ident (codes "a"))) (Tree.Ident (codes "b"))) Tree.NoStmts) (mark m.Semicolon false ∷ word w.While false ∷ mark m.OpenParenthesis false ∷ name (codes "b") false ∷ mark m.CloseParenthesis false ∷ mark m.Semicolon false ∷ []) (word w.Do false ∷ name (codes "a") false ∷ mark m.Semicolon false ∷ word w.While false ∷ mark m.OpenParenthesis false ∷ name (codes "b") false ∷ mark m.CloseParenthesis false ∷ mark m.Semicolon false ∷ []) (word w.Do false ∷ name (codes "a") false ∷ word w.While false ∷ []) refl refl (g.source_and (g.statement (g.do_while false false false false (g.expression (g.identifier false (lit≤ tt) refl) (λ e. cc) (λ e. cc) (e.written false)) (g.identifier false (lit≤ tt) refl) (e.written false))) g.no_source) (lit≤ tt) (λ others. refl)

pub then_on_a_line : BreaksAt Source (codes "if ( a ) b") (codes "else")
then_on_a_line = breaks_at Source (codes "if ( a ) b") (codes "else") (Tree.MoreStmts (Tree.If (Tree.Ident (codes "a")) (Tree.Do (Tree.Ident (codes "b"))) Tree.NoStmt) Tree.NoStmts) (mark m.Semicolon false ∷ []) (word w.If false ∷ mark m.OpenParenthesis false ∷ name (codes "a") false ∷ mark m.CloseParenthesis false ∷ name (codes "b") false ∷ mark m.Semicolon false ∷ []) (word w.If false ∷ mark m.OpenParenthesis false ∷ name (codes "a") false ∷ mark m.CloseParenthesis false ∷ name (codes "b") false ∷ word w.Else false ∷ []) refl refl (g.source_and (g.statement (g.if false false false (g.identifier false (lit≤ tt) refl) (g.expression (g.identifier false (lit≤ tt) refl) (λ e. cc) (λ e. cc) (e.written false)) (λ e. cc))) g.no_source) (lit≤ tt) (λ others. refl)

pub returned_on_a_line : BreaksAt Source (codes "function f ( ) { return a") (codes "b")
returned_on_a_line = breaks_at Source (codes "function f ( ) { return a") (codes "b") (Tree.MoreStmts (Tree.Declare (code (Some (codes "f")) [] (Tree.MoreStmts (Tree.Return (Tree.AnExpr (Tree.Ident (codes "a")))) Tree.NoStmts))) Tree.NoStmts) (mark m.CloseBrace false ∷ []) (word w.Function false ∷ name (codes "f") false ∷ mark m.OpenParenthesis false ∷ mark m.CloseParenthesis false ∷ mark m.OpenBrace false ∷ word w.Return false ∷ name (codes "a") false ∷ mark m.CloseBrace false ∷ []) (word w.Function false ∷ name (codes "f") false ∷ mark m.OpenParenthesis false ∷ mark m.CloseParenthesis false ∷ mark m.OpenBrace false ∷ word w.Return false ∷ name (codes "a") false ∷ name (codes "b") false ∷ []) refl refl (g.source_and (g.declaration false false refl (g.function_rest false false false false g.no_formal refl (g.source_and (g.statement (g.return_value false refl (g.identifier false (lit≤ tt) refl) refl (e.at_brace refl))) g.no_source))) g.no_source) (lit≤ tt) (λ others. refl)

pub thrown_on_a_line : BreaksAt Source (codes "throw a") (codes "b")
thrown_on_a_line = breaks_at Source (codes "throw a") (codes "b") (Tree.MoreStmts (Tree.Throw (Tree.Ident (codes "a"))) Tree.NoStmts) (mark m.Semicolon false ∷ []) (word w.Throw false ∷ name (codes "a") false ∷ mark m.Semicolon false ∷ []) (word w.Throw false ∷ name (codes "a") false ∷ name (codes "b") false ∷ []) refl refl (g.source_and (g.statement (g.throw false (g.identifier false (lit≤ tt) refl) refl (e.written false))) g.no_source) (lit≤ tt) (λ others. refl)

pub labels_on_a_line : BreaksAt Source (codes "a : break a") (codes "b")
labels_on_a_line = breaks_at Source (codes "a : break a") (codes "b") (Tree.MoreStmts (Tree.Label (codes "a") (Tree.Break (Some (codes "a")))) Tree.NoStmts) (mark m.Semicolon false ∷ []) (name (codes "a") false ∷ mark m.Colon false ∷ word w.Break false ∷ name (codes "a") false ∷ mark m.Semicolon false ∷ []) (name (codes "a") false ∷ mark m.Colon false ∷ word w.Break false ∷ name (codes "a") false ∷ name (codes "b") false ∷ []) refl refl (g.source_and (g.statement (g.label false false refl refl (g.break_from false refl refl (e.written false)))) g.no_source) (lit≤ tt) (λ others. refl)

pub jumps_on_a_line : BreaksAt Source (codes "while ( a ) break") (codes "1")
jumps_on_a_line = breaks_at Source (codes "while ( a ) break") (codes "1") (Tree.MoreStmts (Tree.While (Tree.Ident (codes "a")) (Tree.Break None)) Tree.NoStmts) (mark m.Semicolon false ∷ []) (word w.While false ∷ mark m.OpenParenthesis false ∷ name (codes "a") false ∷ mark m.CloseParenthesis false ∷ word w.Break false ∷ mark m.Semicolon false ∷ []) (word w.While false ∷ mark m.OpenParenthesis false ∷ name (codes "a") false ∷ mark m.CloseParenthesis false ∷ word w.Break false ∷ number 1 false ∷ []) refl refl (g.source_and (g.statement (g.while false false false (g.identifier false (lit≤ tt) refl) (g.break false refl e.semicolon))) g.no_source) (lit≤ tt) (λ others. refl)

pub thrown_on_the_next_line : BreaksAt Source (codes "throw") (codes "\na")
thrown_on_the_next_line = breaks_at Source (codes "throw") (codes "\na") (Tree.MoreStmts (Tree.Throw (Tree.Ident (codes "a"))) Tree.NoStmts) (name (codes "a") false ∷ mark m.Semicolon false ∷ []) (word w.Throw false ∷ name (codes "a") false ∷ mark m.Semicolon false ∷ []) (word w.Throw false ∷ name (codes "a") true ∷ []) refl refl (g.source_and (g.statement (g.throw false (g.identifier false (lit≤ tt) refl) refl (e.written false))) g.no_source) (lit≤ tt) (λ others. refl)

pub empty_before_a_brace : BreaksAt Source (codes "{ if ( a )") (codes "}")
empty_before_a_brace = breaks_at Source (codes "{ if ( a )") (codes "}") (Tree.MoreStmts (Tree.Block (Tree.MoreStmts (Tree.If (Tree.Ident (codes "a")) Tree.Empty Tree.NoStmt) Tree.NoStmts)) Tree.NoStmts) (mark m.Semicolon false ∷ mark m.CloseBrace false ∷ []) (mark m.OpenBrace false ∷ word w.If false ∷ mark m.OpenParenthesis false ∷ name (codes "a") false ∷ mark m.CloseParenthesis false ∷ mark m.Semicolon false ∷ mark m.CloseBrace false ∷ []) (mark m.OpenBrace false ∷ word w.If false ∷ mark m.OpenParenthesis false ∷ name (codes "a") false ∷ mark m.CloseParenthesis false ∷ mark m.CloseBrace false ∷ []) refl refl (g.source_and (g.statement (g.block (g.braces false false (g.statement_and (g.if false false false (g.identifier false (lit≤ tt) refl) (g.empty false) (λ e. cc)) g.no_statement)))) g.no_source) (lit≤ tt) (λ others. refl)

pub empty_before_else : BreaksAt Source (codes "if ( a )") (codes "\nelse")
empty_before_else = breaks_at Source (codes "if ( a )") (codes "\nelse") (Tree.MoreStmts (Tree.If (Tree.Ident (codes "a")) Tree.Empty (Tree.AStmt Tree.Empty)) Tree.NoStmts) (mark m.Semicolon false ∷ word w.Else false ∷ mark m.Semicolon false ∷ []) (word w.If false ∷ mark m.OpenParenthesis false ∷ name (codes "a") false ∷ mark m.CloseParenthesis false ∷ mark m.Semicolon false ∷ word w.Else false ∷ mark m.Semicolon false ∷ []) (word w.If false ∷ mark m.OpenParenthesis false ∷ name (codes "a") false ∷ mark m.CloseParenthesis false ∷ word w.Else true ∷ []) refl refl (g.source_and (g.statement (g.if_else false false false false (g.identifier false (lit≤ tt) refl) (g.empty false) (g.empty false))) g.no_source) (lit≤ tt) (λ others. refl)

pub empty_loop_before_a_brace : BreaksAt Source (codes "{ while ( a )") (codes "}")
empty_loop_before_a_brace = breaks_at Source (codes "{ while ( a )") (codes "}") (Tree.MoreStmts (Tree.Block (Tree.MoreStmts (Tree.While (Tree.Ident (codes "a")) Tree.Empty) Tree.NoStmts)) Tree.NoStmts) (mark m.Semicolon false ∷ mark m.CloseBrace false ∷ []) (mark m.OpenBrace false ∷ word w.While false ∷ mark m.OpenParenthesis false ∷ name (codes "a") false ∷ mark m.CloseParenthesis false ∷ mark m.Semicolon false ∷ mark m.CloseBrace false ∷ []) (mark m.OpenBrace false ∷ word w.While false ∷ mark m.OpenParenthesis false ∷ name (codes "a") false ∷ mark m.CloseParenthesis false ∷ mark m.CloseBrace false ∷ []) refl refl (g.source_and (g.statement (g.block (g.braces false false (g.statement_and (g.while false false false (g.identifier false (lit≤ tt) refl) (g.empty false)) g.no_statement)))) g.no_source) (lit≤ tt) (λ others. refl)

pub none_in_the_header : BreaksAt Source (codes "for ( a") (codes "\nb")
none_in_the_header = breaks_at Source (codes "for ( a") (codes "\nb") (Tree.MoreStmts (Tree.For (Tree.First (Tree.Ident (codes "a"))) Tree.NoExpr Tree.NoExpr Tree.Empty) Tree.NoStmts) (mark m.Semicolon false ∷ mark m.Semicolon false ∷ mark m.CloseParenthesis false ∷ mark m.Semicolon false ∷ []) (word w.For false ∷ mark m.OpenParenthesis false ∷ name (codes "a") false ∷ mark m.Semicolon false ∷ mark m.Semicolon false ∷ mark m.CloseParenthesis false ∷ mark m.Semicolon false ∷ []) (word w.For false ∷ mark m.OpenParenthesis false ∷ name (codes "a") false ∷ name (codes "b") true ∷ []) refl refl (g.source_and (g.statement (g.for false false false false false (g.expression_first (g.identifier false (lit≤ tt) refl)) g.absent g.absent (g.empty false))) g.no_source) (lit≤ tt) (λ others. refl)

pub none_at_the_headers_end : BreaksAt Source (codes "for ( a ; b") (codes "\n)")
none_at_the_headers_end = breaks_at Source (codes "for ( a ; b") (codes "\n)") (Tree.MoreStmts (Tree.For (Tree.First (Tree.Ident (codes "a"))) (Tree.AnExpr (Tree.Ident (codes "b"))) Tree.NoExpr Tree.Empty) Tree.NoStmts) (mark m.Semicolon false ∷ mark m.CloseParenthesis false ∷ mark m.Semicolon false ∷ []) (word w.For false ∷ mark m.OpenParenthesis false ∷ name (codes "a") false ∷ mark m.Semicolon false ∷ name (codes "b") false ∷ mark m.Semicolon false ∷ mark m.CloseParenthesis false ∷ mark m.Semicolon false ∷ []) (word w.For false ∷ mark m.OpenParenthesis false ∷ name (codes "a") false ∷ mark m.Semicolon false ∷ name (codes "b") false ∷ mark m.CloseParenthesis true ∷ []) refl refl (g.source_and (g.statement (g.for false false false false false (g.expression_first (g.identifier false (lit≤ tt) refl)) (g.present (g.identifier false (lit≤ tt) refl)) g.absent (g.empty false))) g.no_source) (lit≤ tt) (λ others. refl)

pub no_operand_inserted : BreaksAt Source (codes "a +") (codes "\n;")
no_operand_inserted = breaks_at Source (codes "a +") (codes "\n;") (Tree.MoreStmts (Tree.Do (Tree.Binary b.Add (Tree.Ident (codes "a")) (Tree.Ident (codes "b")))) Tree.NoStmts) (name (codes "b") false ∷ mark m.Semicolon false ∷ []) (name (codes "a") false ∷ mark m.Plus false ∷ name (codes "b") false ∷ mark m.Semicolon false ∷ []) (name (codes "a") false ∷ mark m.Plus false ∷ mark m.Semicolon true ∷ []) refl refl (g.source_and (g.statement (g.expression (g.binary (Operation b.Add) false (lit≤ tt) refl (g.identifier false (lit≤ tt) refl) (g.identifier false (lit≤ tt) refl)) (λ e. cc) (λ e. cc) (e.written false))) g.no_source) (lit≤ tt) (λ others. refl)

-- Assignments, `?:` and the comma (ES3 11.12 to 11.14).
use Rattle.std.proofs.Common.{true, false, [], ◌∷◌, codes, Some, None, refl, lit≤}
use Rattle.std.specs.Fmt.{digits}
use Rattle.std.specs.Char.Utf16.{utf16_chars}
use Rattle.unicode_ident.proofs.Computing.{unicode_ident}
use Rattle.js_tree.specs.declared.tree.BinaryOp.TheVariants as b
use Rattle.js_tree.specs.declared.tree.PrefixOp.TheVariants as p
use Rattle.js_tree.specs.declared.tree.PostfixOp.TheVariants as q
use Rattle.js_lexer.specs.declared.mark.Mark.TheVariants as m
use Rattle.js_lexer.specs.declared.word.Word.TheVariants as w
use Rattle.js_parser.specs.declared.form.Form.TheVariants.{Source}
use Rattle.js_parser.specs.Symbols.{word, mark, name, number}
use Rattle.js_tree.specs.Levels.{LogicalOr, Operation}
use Rattle.js_parser.specs.Ends as e
use Rattle.js_tree.specs.Tree
use Rattle.js_parser.specs.Grammar as g
use Rattle.grammar_rows.specs.TextRows.{BreaksAt, Reads, Same}
use Rattle.grammar_rows.proofs.TextRowLemmas.{reads_as, same_tree, breaks_at}

pub assigned : Reads Source (codes "a = b ; a *= b ; a /= b ; a %= b ; a += b ; a -= b") (codes "a=b;a*=b;a/=b;a%=b;a+=b;a-=b;\n")
unfolding unicode_ident utf16_chars digits
assigned = reads_as Source (codes "a = b ; a *= b ; a /= b ; a %= b ; a += b ; a -= b") (Tree.MoreStmts (Tree.Do (Tree.Assign None (Tree.Ident (codes "a")) (Tree.Ident (codes "b")))) (Tree.MoreStmts (Tree.Do (Tree.Assign (Some b.Multiply) (Tree.Ident (codes "a")) (Tree.Ident (codes "b")))) (Tree.MoreStmts (Tree.Do (Tree.Assign (Some b.Divide) (Tree.Ident (codes "a")) (Tree.Ident (codes "b")))) (Tree.MoreStmts (Tree.Do (Tree.Assign (Some b.Remainder) (Tree.Ident (codes "a")) (Tree.Ident (codes "b")))) (Tree.MoreStmts (Tree.Do (Tree.Assign (Some b.Add) (Tree.Ident (codes "a")) (Tree.Ident (codes "b")))) (Tree.MoreStmts (Tree.Do (Tree.Assign (Some b.Subtract) (Tree.Ident (codes "a")) (Tree.Ident (codes "b")))) Tree.NoStmts)))))) (name (codes "a") false ∷ mark m.Assign false ∷ name (codes "b") false ∷ mark m.Semicolon false ∷ name (codes "a") false ∷ mark m.TimesAssign false ∷ name (codes "b") false ∷ mark m.Semicolon false ∷ name (codes "a") false ∷ mark m.SlashAssign false ∷ name (codes "b") false ∷ mark m.Semicolon false ∷ name (codes "a") false ∷ mark m.PercentAssign false ∷ name (codes "b") false ∷ mark m.Semicolon false ∷ name (codes "a") false ∷ mark m.PlusAssign false ∷ name (codes "b") false ∷ mark m.Semicolon false ∷ name (codes "a") false ∷ mark m.MinusAssign false ∷ name (codes "b") false ∷ []) refl (g.source_and (g.statement (g.expression (g.assign None m.Assign false (lit≤ tt) refl (g.identifier false (lit≤ tt) refl) refl (g.identifier false (lit≤ tt) refl)) (λ e. cc) (λ e. cc) (e.written false))) (g.source_and (g.statement (g.expression (g.assign (Some b.Multiply) m.TimesAssign false (lit≤ tt) refl (g.identifier false (lit≤ tt) refl) refl (g.identifier false (lit≤ tt) refl)) (λ e. cc) (λ e. cc) (e.written false))) (g.source_and (g.statement (g.expression (g.assign (Some b.Divide) m.SlashAssign false (lit≤ tt) refl (g.identifier false (lit≤ tt) refl) refl (g.identifier false (lit≤ tt) refl)) (λ e. cc) (λ e. cc) (e.written false))) (g.source_and (g.statement (g.expression (g.assign (Some b.Remainder) m.PercentAssign false (lit≤ tt) refl (g.identifier false (lit≤ tt) refl) refl (g.identifier false (lit≤ tt) refl)) (λ e. cc) (λ e. cc) (e.written false))) (g.source_and (g.statement (g.expression (g.assign (Some b.Add) m.PlusAssign false (lit≤ tt) refl (g.identifier false (lit≤ tt) refl) refl (g.identifier false (lit≤ tt) refl)) (λ e. cc) (λ e. cc) (e.written false))) (g.source_and (g.statement (g.expression (g.assign (Some b.Subtract) m.MinusAssign false (lit≤ tt) refl (g.identifier false (lit≤ tt) refl) refl (g.identifier false (lit≤ tt) refl)) (λ e. cc) (λ e. cc) (e.at_end refl))) g.no_source)))))) (record { few = lit≤ tt; low = lit≤ tt; flat = lit≤ tt; closed = lit≤ tt }) refl

pub shifted : Reads Source (codes "a <<= b ; a >>= b ; a >>>= b ; a &= b ; a ^= b ; a |= b") (codes "a<<=b;a>>=b;a>>>=b;a&=b;a^=b;a|=b;\n")
unfolding unicode_ident utf16_chars digits
shifted = reads_as Source (codes "a <<= b ; a >>= b ; a >>>= b ; a &= b ; a ^= b ; a |= b") (Tree.MoreStmts (Tree.Do (Tree.Assign (Some b.ShiftLeft) (Tree.Ident (codes "a")) (Tree.Ident (codes "b")))) (Tree.MoreStmts (Tree.Do (Tree.Assign (Some b.ShiftRight) (Tree.Ident (codes "a")) (Tree.Ident (codes "b")))) (Tree.MoreStmts (Tree.Do (Tree.Assign (Some b.ShiftRightUnsigned) (Tree.Ident (codes "a")) (Tree.Ident (codes "b")))) (Tree.MoreStmts (Tree.Do (Tree.Assign (Some b.BitAnd) (Tree.Ident (codes "a")) (Tree.Ident (codes "b")))) (Tree.MoreStmts (Tree.Do (Tree.Assign (Some b.BitXor) (Tree.Ident (codes "a")) (Tree.Ident (codes "b")))) (Tree.MoreStmts (Tree.Do (Tree.Assign (Some b.BitOr) (Tree.Ident (codes "a")) (Tree.Ident (codes "b")))) Tree.NoStmts)))))) (name (codes "a") false ∷ mark m.ShiftLeftAssign false ∷ name (codes "b") false ∷ mark m.Semicolon false ∷ name (codes "a") false ∷ mark m.ShiftRightAssign false ∷ name (codes "b") false ∷ mark m.Semicolon false ∷ name (codes "a") false ∷ mark m.ShiftRightUnsignedAssign false ∷ name (codes "b") false ∷ mark m.Semicolon false ∷ name (codes "a") false ∷ mark m.BitAndAssign false ∷ name (codes "b") false ∷ mark m.Semicolon false ∷ name (codes "a") false ∷ mark m.BitXorAssign false ∷ name (codes "b") false ∷ mark m.Semicolon false ∷ name (codes "a") false ∷ mark m.BitOrAssign false ∷ name (codes "b") false ∷ []) refl (g.source_and (g.statement (g.expression (g.assign (Some b.ShiftLeft) m.ShiftLeftAssign false (lit≤ tt) refl (g.identifier false (lit≤ tt) refl) refl (g.identifier false (lit≤ tt) refl)) (λ e. cc) (λ e. cc) (e.written false))) (g.source_and (g.statement (g.expression (g.assign (Some b.ShiftRight) m.ShiftRightAssign false (lit≤ tt) refl (g.identifier false (lit≤ tt) refl) refl (g.identifier false (lit≤ tt) refl)) (λ e. cc) (λ e. cc) (e.written false))) (g.source_and (g.statement (g.expression (g.assign (Some b.ShiftRightUnsigned) m.ShiftRightUnsignedAssign false (lit≤ tt) refl (g.identifier false (lit≤ tt) refl) refl (g.identifier false (lit≤ tt) refl)) (λ e. cc) (λ e. cc) (e.written false))) (g.source_and (g.statement (g.expression (g.assign (Some b.BitAnd) m.BitAndAssign false (lit≤ tt) refl (g.identifier false (lit≤ tt) refl) refl (g.identifier false (lit≤ tt) refl)) (λ e. cc) (λ e. cc) (e.written false))) (g.source_and (g.statement (g.expression (g.assign (Some b.BitXor) m.BitXorAssign false (lit≤ tt) refl (g.identifier false (lit≤ tt) refl) refl (g.identifier false (lit≤ tt) refl)) (λ e. cc) (λ e. cc) (e.written false))) (g.source_and (g.statement (g.expression (g.assign (Some b.BitOr) m.BitOrAssign false (lit≤ tt) refl (g.identifier false (lit≤ tt) refl) refl (g.identifier false (lit≤ tt) refl)) (λ e. cc) (λ e. cc) (e.at_end refl))) g.no_source)))))) (record { few = lit≤ tt; low = lit≤ tt; flat = lit≤ tt; closed = lit≤ tt }) refl

pub to_the_right : Same Source (codes "a = b += c") (codes "a = ( b += c )")
to_the_right = same_tree Source (codes "a = b += c") (codes "a = ( b += c )") (Tree.MoreStmts (Tree.Do (Tree.Assign None (Tree.Ident (codes "a")) (Tree.Assign (Some b.Add) (Tree.Ident (codes "b")) (Tree.Ident (codes "c"))))) Tree.NoStmts) (name (codes "a") false ∷ mark m.Assign false ∷ name (codes "b") false ∷ mark m.PlusAssign false ∷ name (codes "c") false ∷ []) (name (codes "a") false ∷ mark m.Assign false ∷ mark m.OpenParenthesis false ∷ name (codes "b") false ∷ mark m.PlusAssign false ∷ name (codes "c") false ∷ mark m.CloseParenthesis false ∷ []) refl refl (g.source_and (g.statement (g.expression (g.assign None m.Assign false (lit≤ tt) refl (g.identifier false (lit≤ tt) refl) refl (g.assign (Some b.Add) m.PlusAssign false (lit≤ tt) refl (g.identifier false (lit≤ tt) refl) refl (g.identifier false (lit≤ tt) refl))) (λ e. cc) (λ e. cc) (e.at_end refl))) g.no_source) (record { few = lit≤ tt; low = lit≤ tt; flat = lit≤ tt; closed = lit≤ tt }) (g.source_and (g.statement (g.expression (g.assign None m.Assign false (lit≤ tt) refl (g.identifier false (lit≤ tt) refl) refl (g.parenthesised false false (lit≤ tt) (g.assign (Some b.Add) m.PlusAssign false (lit≤ tt) refl (g.identifier false (lit≤ tt) refl) refl (g.identifier false (lit≤ tt) refl)))) (λ e. cc) (λ e. cc) (e.at_end refl))) g.no_source) (record { few = lit≤ tt; low = lit≤ tt; flat = lit≤ tt; closed = lit≤ tt })

pub above_conditional : Same Source (codes "a = b ? c : d") (codes "a = ( b ? c : d )")
above_conditional = same_tree Source (codes "a = b ? c : d") (codes "a = ( b ? c : d )") (Tree.MoreStmts (Tree.Do (Tree.Assign None (Tree.Ident (codes "a")) (Tree.Cond (Tree.Ident (codes "b")) (Tree.Ident (codes "c")) (Tree.Ident (codes "d"))))) Tree.NoStmts) (name (codes "a") false ∷ mark m.Assign false ∷ name (codes "b") false ∷ mark m.Question false ∷ name (codes "c") false ∷ mark m.Colon false ∷ name (codes "d") false ∷ []) (name (codes "a") false ∷ mark m.Assign false ∷ mark m.OpenParenthesis false ∷ name (codes "b") false ∷ mark m.Question false ∷ name (codes "c") false ∷ mark m.Colon false ∷ name (codes "d") false ∷ mark m.CloseParenthesis false ∷ []) refl refl (g.source_and (g.statement (g.expression (g.assign None m.Assign false (lit≤ tt) refl (g.identifier false (lit≤ tt) refl) refl (g.conditional false false (lit≤ tt) (g.identifier false (lit≤ tt) refl) (g.identifier false (lit≤ tt) refl) (g.identifier false (lit≤ tt) refl))) (λ e. cc) (λ e. cc) (e.at_end refl))) g.no_source) (record { few = lit≤ tt; low = lit≤ tt; flat = lit≤ tt; closed = lit≤ tt }) (g.source_and (g.statement (g.expression (g.assign None m.Assign false (lit≤ tt) refl (g.identifier false (lit≤ tt) refl) refl (g.parenthesised false false (lit≤ tt) (g.conditional false false (lit≤ tt) (g.identifier false (lit≤ tt) refl) (g.identifier false (lit≤ tt) refl) (g.identifier false (lit≤ tt) refl)))) (λ e. cc) (λ e. cc) (e.at_end refl))) g.no_source) (record { few = lit≤ tt; low = lit≤ tt; flat = lit≤ tt; closed = lit≤ tt })

pub in_conditional : Same Source (codes "a ? b = c : d = e") (codes "a ? ( b = c ) : ( d = e )")
in_conditional = same_tree Source (codes "a ? b = c : d = e") (codes "a ? ( b = c ) : ( d = e )") (Tree.MoreStmts (Tree.Do (Tree.Cond (Tree.Ident (codes "a")) (Tree.Assign None (Tree.Ident (codes "b")) (Tree.Ident (codes "c"))) (Tree.Assign None (Tree.Ident (codes "d")) (Tree.Ident (codes "e"))))) Tree.NoStmts) (name (codes "a") false ∷ mark m.Question false ∷ name (codes "b") false ∷ mark m.Assign false ∷ name (codes "c") false ∷ mark m.Colon false ∷ name (codes "d") false ∷ mark m.Assign false ∷ name (codes "e") false ∷ []) (name (codes "a") false ∷ mark m.Question false ∷ mark m.OpenParenthesis false ∷ name (codes "b") false ∷ mark m.Assign false ∷ name (codes "c") false ∷ mark m.CloseParenthesis false ∷ mark m.Colon false ∷ mark m.OpenParenthesis false ∷ name (codes "d") false ∷ mark m.Assign false ∷ name (codes "e") false ∷ mark m.CloseParenthesis false ∷ []) refl refl (g.source_and (g.statement (g.expression (g.conditional false false (lit≤ tt) (g.identifier false (lit≤ tt) refl) (g.assign None m.Assign false (lit≤ tt) refl (g.identifier false (lit≤ tt) refl) refl (g.identifier false (lit≤ tt) refl)) (g.assign None m.Assign false (lit≤ tt) refl (g.identifier false (lit≤ tt) refl) refl (g.identifier false (lit≤ tt) refl))) (λ e. cc) (λ e. cc) (e.at_end refl))) g.no_source) (record { few = lit≤ tt; low = lit≤ tt; flat = lit≤ tt; closed = lit≤ tt }) (g.source_and (g.statement (g.expression (g.conditional false false (lit≤ tt) (g.identifier false (lit≤ tt) refl) (g.parenthesised false false (lit≤ tt) (g.assign None m.Assign false (lit≤ tt) refl (g.identifier false (lit≤ tt) refl) refl (g.identifier false (lit≤ tt) refl))) (g.parenthesised false false (lit≤ tt) (g.assign None m.Assign false (lit≤ tt) refl (g.identifier false (lit≤ tt) refl) refl (g.identifier false (lit≤ tt) refl)))) (λ e. cc) (λ e. cc) (e.at_end refl))) g.no_source) (record { few = lit≤ tt; low = lit≤ tt; flat = lit≤ tt; closed = lit≤ tt })

pub conditionals : Same Source (codes "a ? b : c ? d : e") (codes "a ? b : ( c ? d : e )")
conditionals = same_tree Source (codes "a ? b : c ? d : e") (codes "a ? b : ( c ? d : e )") (Tree.MoreStmts (Tree.Do (Tree.Cond (Tree.Ident (codes "a")) (Tree.Ident (codes "b")) (Tree.Cond (Tree.Ident (codes "c")) (Tree.Ident (codes "d")) (Tree.Ident (codes "e"))))) Tree.NoStmts) (name (codes "a") false ∷ mark m.Question false ∷ name (codes "b") false ∷ mark m.Colon false ∷ name (codes "c") false ∷ mark m.Question false ∷ name (codes "d") false ∷ mark m.Colon false ∷ name (codes "e") false ∷ []) (name (codes "a") false ∷ mark m.Question false ∷ name (codes "b") false ∷ mark m.Colon false ∷ mark m.OpenParenthesis false ∷ name (codes "c") false ∷ mark m.Question false ∷ name (codes "d") false ∷ mark m.Colon false ∷ name (codes "e") false ∷ mark m.CloseParenthesis false ∷ []) refl refl (g.source_and (g.statement (g.expression (g.conditional false false (lit≤ tt) (g.identifier false (lit≤ tt) refl) (g.identifier false (lit≤ tt) refl) (g.conditional false false (lit≤ tt) (g.identifier false (lit≤ tt) refl) (g.identifier false (lit≤ tt) refl) (g.identifier false (lit≤ tt) refl))) (λ e. cc) (λ e. cc) (e.at_end refl))) g.no_source) (record { few = lit≤ tt; low = lit≤ tt; flat = lit≤ tt; closed = lit≤ tt }) (g.source_and (g.statement (g.expression (g.conditional false false (lit≤ tt) (g.identifier false (lit≤ tt) refl) (g.identifier false (lit≤ tt) refl) (g.parenthesised false false (lit≤ tt) (g.conditional false false (lit≤ tt) (g.identifier false (lit≤ tt) refl) (g.identifier false (lit≤ tt) refl) (g.identifier false (lit≤ tt) refl)))) (λ e. cc) (λ e. cc) (e.at_end refl))) g.no_source) (record { few = lit≤ tt; low = lit≤ tt; flat = lit≤ tt; closed = lit≤ tt })

pub above_or : Same Source (codes "a || b ? c || d : e || f") (codes "( a || b ) ? ( c || d ) : ( e || f )")
above_or = same_tree Source (codes "a || b ? c || d : e || f") (codes "( a || b ) ? ( c || d ) : ( e || f )") (Tree.MoreStmts (Tree.Do (Tree.Cond (Tree.Or (Tree.Ident (codes "a")) (Tree.Ident (codes "b"))) (Tree.Or (Tree.Ident (codes "c")) (Tree.Ident (codes "d"))) (Tree.Or (Tree.Ident (codes "e")) (Tree.Ident (codes "f"))))) Tree.NoStmts) (name (codes "a") false ∷ mark m.Or false ∷ name (codes "b") false ∷ mark m.Question false ∷ name (codes "c") false ∷ mark m.Or false ∷ name (codes "d") false ∷ mark m.Colon false ∷ name (codes "e") false ∷ mark m.Or false ∷ name (codes "f") false ∷ []) (mark m.OpenParenthesis false ∷ name (codes "a") false ∷ mark m.Or false ∷ name (codes "b") false ∷ mark m.CloseParenthesis false ∷ mark m.Question false ∷ mark m.OpenParenthesis false ∷ name (codes "c") false ∷ mark m.Or false ∷ name (codes "d") false ∷ mark m.CloseParenthesis false ∷ mark m.Colon false ∷ mark m.OpenParenthesis false ∷ name (codes "e") false ∷ mark m.Or false ∷ name (codes "f") false ∷ mark m.CloseParenthesis false ∷ []) refl refl (g.source_and (g.statement (g.expression (g.conditional false false (lit≤ tt) (g.binary LogicalOr false (lit≤ tt) refl (g.identifier false (lit≤ tt) refl) (g.identifier false (lit≤ tt) refl)) (g.binary LogicalOr false (lit≤ tt) refl (g.identifier false (lit≤ tt) refl) (g.identifier false (lit≤ tt) refl)) (g.binary LogicalOr false (lit≤ tt) refl (g.identifier false (lit≤ tt) refl) (g.identifier false (lit≤ tt) refl))) (λ e. cc) (λ e. cc) (e.at_end refl))) g.no_source) (record { few = lit≤ tt; low = lit≤ tt; flat = lit≤ tt; closed = lit≤ tt }) (g.source_and (g.statement (g.expression (g.conditional false false (lit≤ tt) (g.parenthesised false false (lit≤ tt) (g.binary LogicalOr false (lit≤ tt) refl (g.identifier false (lit≤ tt) refl) (g.identifier false (lit≤ tt) refl))) (g.parenthesised false false (lit≤ tt) (g.binary LogicalOr false (lit≤ tt) refl (g.identifier false (lit≤ tt) refl) (g.identifier false (lit≤ tt) refl))) (g.parenthesised false false (lit≤ tt) (g.binary LogicalOr false (lit≤ tt) refl (g.identifier false (lit≤ tt) refl) (g.identifier false (lit≤ tt) refl)))) (λ e. cc) (λ e. cc) (e.at_end refl))) g.no_source) (record { few = lit≤ tt; low = lit≤ tt; flat = lit≤ tt; closed = lit≤ tt })

pub commas : Same Source (codes "a , b , c") (codes "( a , b ) , c")
commas = same_tree Source (codes "a , b , c") (codes "( a , b ) , c") (Tree.MoreStmts (Tree.Do (Tree.Comma (Tree.Comma (Tree.Ident (codes "a")) (Tree.Ident (codes "b"))) (Tree.Ident (codes "c")))) Tree.NoStmts) (name (codes "a") false ∷ mark m.Comma false ∷ name (codes "b") false ∷ mark m.Comma false ∷ name (codes "c") false ∷ []) (mark m.OpenParenthesis false ∷ name (codes "a") false ∷ mark m.Comma false ∷ name (codes "b") false ∷ mark m.CloseParenthesis false ∷ mark m.Comma false ∷ name (codes "c") false ∷ []) refl refl (g.source_and (g.statement (g.expression (g.comma false (lit≤ tt) (g.comma false (lit≤ tt) (g.identifier false (lit≤ tt) refl) (g.identifier false (lit≤ tt) refl)) (g.identifier false (lit≤ tt) refl)) (λ e. cc) (λ e. cc) (e.at_end refl))) g.no_source) (record { few = lit≤ tt; low = lit≤ tt; flat = lit≤ tt; closed = lit≤ tt }) (g.source_and (g.statement (g.expression (g.comma false (lit≤ tt) (g.parenthesised false false (lit≤ tt) (g.comma false (lit≤ tt) (g.identifier false (lit≤ tt) refl) (g.identifier false (lit≤ tt) refl))) (g.identifier false (lit≤ tt) refl)) (λ e. cc) (λ e. cc) (e.at_end refl))) g.no_source) (record { few = lit≤ tt; low = lit≤ tt; flat = lit≤ tt; closed = lit≤ tt })

pub above_comma : Same Source (codes "a = b , c = d ? e : f , g") (codes "( ( a = b ) , ( c = ( d ? e : f ) ) ) , g")
above_comma = same_tree Source (codes "a = b , c = d ? e : f , g") (codes "( ( a = b ) , ( c = ( d ? e : f ) ) ) , g") (Tree.MoreStmts (Tree.Do (Tree.Comma (Tree.Comma (Tree.Assign None (Tree.Ident (codes "a")) (Tree.Ident (codes "b"))) (Tree.Assign None (Tree.Ident (codes "c")) (Tree.Cond (Tree.Ident (codes "d")) (Tree.Ident (codes "e")) (Tree.Ident (codes "f"))))) (Tree.Ident (codes "g")))) Tree.NoStmts) (name (codes "a") false ∷ mark m.Assign false ∷ name (codes "b") false ∷ mark m.Comma false ∷ name (codes "c") false ∷ mark m.Assign false ∷ name (codes "d") false ∷ mark m.Question false ∷ name (codes "e") false ∷ mark m.Colon false ∷ name (codes "f") false ∷ mark m.Comma false ∷ name (codes "g") false ∷ []) (mark m.OpenParenthesis false ∷ mark m.OpenParenthesis false ∷ name (codes "a") false ∷ mark m.Assign false ∷ name (codes "b") false ∷ mark m.CloseParenthesis false ∷ mark m.Comma false ∷ mark m.OpenParenthesis false ∷ name (codes "c") false ∷ mark m.Assign false ∷ mark m.OpenParenthesis false ∷ name (codes "d") false ∷ mark m.Question false ∷ name (codes "e") false ∷ mark m.Colon false ∷ name (codes "f") false ∷ mark m.CloseParenthesis false ∷ mark m.CloseParenthesis false ∷ mark m.CloseParenthesis false ∷ mark m.Comma false ∷ name (codes "g") false ∷ []) refl refl (g.source_and (g.statement (g.expression (g.comma false (lit≤ tt) (g.comma false (lit≤ tt) (g.assign None m.Assign false (lit≤ tt) refl (g.identifier false (lit≤ tt) refl) refl (g.identifier false (lit≤ tt) refl)) (g.assign None m.Assign false (lit≤ tt) refl (g.identifier false (lit≤ tt) refl) refl (g.conditional false false (lit≤ tt) (g.identifier false (lit≤ tt) refl) (g.identifier false (lit≤ tt) refl) (g.identifier false (lit≤ tt) refl)))) (g.identifier false (lit≤ tt) refl)) (λ e. cc) (λ e. cc) (e.at_end refl))) g.no_source) (record { few = lit≤ tt; low = lit≤ tt; flat = lit≤ tt; closed = lit≤ tt }) (g.source_and (g.statement (g.expression (g.comma false (lit≤ tt) (g.parenthesised false false (lit≤ tt) (g.comma false (lit≤ tt) (g.parenthesised false false (lit≤ tt) (g.assign None m.Assign false (lit≤ tt) refl (g.identifier false (lit≤ tt) refl) refl (g.identifier false (lit≤ tt) refl))) (g.parenthesised false false (lit≤ tt) (g.assign None m.Assign false (lit≤ tt) refl (g.identifier false (lit≤ tt) refl) refl (g.parenthesised false false (lit≤ tt) (g.conditional false false (lit≤ tt) (g.identifier false (lit≤ tt) refl) (g.identifier false (lit≤ tt) refl) (g.identifier false (lit≤ tt) refl))))))) (g.identifier false (lit≤ tt) refl)) (λ e. cc) (λ e. cc) (e.at_end refl))) g.no_source) (record { few = lit≤ tt; low = lit≤ tt; flat = lit≤ tt; closed = lit≤ tt })

pub targets : Reads Source (codes "( a ) = b ; a . b = c ; ( ( a [ b ] ) ) = c ; a ( ) . b = c") (codes "a=b;a.b=c;a[b]=c;a().b=c;\n")
unfolding unicode_ident utf16_chars digits
targets = reads_as Source (codes "( a ) = b ; a . b = c ; ( ( a [ b ] ) ) = c ; a ( ) . b = c") (Tree.MoreStmts (Tree.Do (Tree.Assign None (Tree.Ident (codes "a")) (Tree.Ident (codes "b")))) (Tree.MoreStmts (Tree.Do (Tree.Assign None (Tree.Dot (Tree.Ident (codes "a")) (codes "b")) (Tree.Ident (codes "c")))) (Tree.MoreStmts (Tree.Do (Tree.Assign None (Tree.Index (Tree.Ident (codes "a")) (Tree.Ident (codes "b"))) (Tree.Ident (codes "c")))) (Tree.MoreStmts (Tree.Do (Tree.Assign None (Tree.Dot (Tree.Call (Tree.Ident (codes "a")) Tree.NoExprs) (codes "b")) (Tree.Ident (codes "c")))) Tree.NoStmts)))) (mark m.OpenParenthesis false ∷ name (codes "a") false ∷ mark m.CloseParenthesis false ∷ mark m.Assign false ∷ name (codes "b") false ∷ mark m.Semicolon false ∷ name (codes "a") false ∷ mark m.Dot false ∷ name (codes "b") false ∷ mark m.Assign false ∷ name (codes "c") false ∷ mark m.Semicolon false ∷ mark m.OpenParenthesis false ∷ mark m.OpenParenthesis false ∷ name (codes "a") false ∷ mark m.OpenBracket false ∷ name (codes "b") false ∷ mark m.CloseBracket false ∷ mark m.CloseParenthesis false ∷ mark m.CloseParenthesis false ∷ mark m.Assign false ∷ name (codes "c") false ∷ mark m.Semicolon false ∷ name (codes "a") false ∷ mark m.OpenParenthesis false ∷ mark m.CloseParenthesis false ∷ mark m.Dot false ∷ name (codes "b") false ∷ mark m.Assign false ∷ name (codes "c") false ∷ []) refl (g.source_and (g.statement (g.expression (g.assign None m.Assign false (lit≤ tt) refl (g.parenthesised false false (lit≤ tt) (g.identifier false (lit≤ tt) refl)) refl (g.identifier false (lit≤ tt) refl)) (λ e. cc) (λ e. cc) (e.written false))) (g.source_and (g.statement (g.expression (g.assign None m.Assign false (lit≤ tt) refl (g.dot 18 false false (lit≤ tt) (lit≤ tt) (lit≤ tt) (g.identifier false (lit≤ tt) refl) refl) refl (g.identifier false (lit≤ tt) refl)) (λ e. cc) (λ e. cc) (e.written false))) (g.source_and (g.statement (g.expression (g.assign None m.Assign false (lit≤ tt) refl (g.parenthesised false false (lit≤ tt) (g.parenthesised false false (lit≤ tt) (g.index 18 false false (lit≤ tt) (lit≤ tt) (lit≤ tt) (g.identifier false (lit≤ tt) refl) (g.identifier false (lit≤ tt) refl)))) refl (g.identifier false (lit≤ tt) refl)) (λ e. cc) (λ e. cc) (e.written false))) (g.source_and (g.statement (g.expression (g.assign None m.Assign false (lit≤ tt) refl (g.dot 17 false false (lit≤ tt) (lit≤ tt) (lit≤ tt) (g.call (lit≤ tt) (g.identifier false (lit≤ tt) refl) (g.no_arguments false false)) refl) refl (g.identifier false (lit≤ tt) refl)) (λ e. cc) (λ e. cc) (e.at_end refl))) g.no_source)))) (record { few = lit≤ tt; low = lit≤ tt; flat = lit≤ tt; closed = lit≤ tt }) refl

pub no_number : BreaksAt Source (codes "1") (codes "=")
no_number = breaks_at Source (codes "1") (codes "=") (Tree.MoreStmts (Tree.Do (Tree.Num 1)) Tree.NoStmts) (mark m.Semicolon false ∷ []) (number 1 false ∷ mark m.Semicolon false ∷ []) (number 1 false ∷ mark m.Assign false ∷ []) refl refl (g.source_and (g.statement (g.expression (g.numeral true false (lit≤ tt)) (λ e. cc) (λ e. cc) (e.written false))) g.no_source) (lit≤ tt) (λ others. refl)

pub no_call : BreaksAt Source (codes "a ( )") (codes "=")
no_call = breaks_at Source (codes "a ( )") (codes "=") (Tree.MoreStmts (Tree.Do (Tree.Call (Tree.Ident (codes "a")) Tree.NoExprs)) Tree.NoStmts) (mark m.Semicolon false ∷ []) (name (codes "a") false ∷ mark m.OpenParenthesis false ∷ mark m.CloseParenthesis false ∷ mark m.Semicolon false ∷ []) (name (codes "a") false ∷ mark m.OpenParenthesis false ∷ mark m.CloseParenthesis false ∷ mark m.Assign false ∷ []) refl refl (g.source_and (g.statement (g.expression (g.call (lit≤ tt) (g.identifier false (lit≤ tt) refl) (g.no_arguments false false)) (λ e. cc) (λ e. cc) (e.written false))) g.no_source) (lit≤ tt) (λ others. refl)

pub no_sum : BreaksAt Source (codes "a + b") (codes "=")
no_sum = breaks_at Source (codes "a + b") (codes "=") (Tree.MoreStmts (Tree.Do (Tree.Binary b.Add (Tree.Ident (codes "a")) (Tree.Ident (codes "b")))) Tree.NoStmts) (mark m.Semicolon false ∷ []) (name (codes "a") false ∷ mark m.Plus false ∷ name (codes "b") false ∷ mark m.Semicolon false ∷ []) (name (codes "a") false ∷ mark m.Plus false ∷ name (codes "b") false ∷ mark m.Assign false ∷ []) refl refl (g.source_and (g.statement (g.expression (g.binary (Operation b.Add) false (lit≤ tt) refl (g.identifier false (lit≤ tt) refl) (g.identifier false (lit≤ tt) refl)) (λ e. cc) (λ e. cc) (e.written false))) g.no_source) (lit≤ tt) (λ others. refl)

pub no_conditional : BreaksAt Source (codes "a ? b : c + d") (codes "=")
no_conditional = breaks_at Source (codes "a ? b : c + d") (codes "=") (Tree.MoreStmts (Tree.Do (Tree.Cond (Tree.Ident (codes "a")) (Tree.Ident (codes "b")) (Tree.Binary b.Add (Tree.Ident (codes "c")) (Tree.Ident (codes "d"))))) Tree.NoStmts) (mark m.Semicolon false ∷ []) (name (codes "a") false ∷ mark m.Question false ∷ name (codes "b") false ∷ mark m.Colon false ∷ name (codes "c") false ∷ mark m.Plus false ∷ name (codes "d") false ∷ mark m.Semicolon false ∷ []) (name (codes "a") false ∷ mark m.Question false ∷ name (codes "b") false ∷ mark m.Colon false ∷ name (codes "c") false ∷ mark m.Plus false ∷ name (codes "d") false ∷ mark m.Assign false ∷ []) refl refl (g.source_and (g.statement (g.expression (g.conditional false false (lit≤ tt) (g.identifier false (lit≤ tt) refl) (g.identifier false (lit≤ tt) refl) (g.binary (Operation b.Add) false (lit≤ tt) refl (g.identifier false (lit≤ tt) refl) (g.identifier false (lit≤ tt) refl))) (λ e. cc) (λ e. cc) (e.written false))) g.no_source) (lit≤ tt) (λ others. refl)

pub no_negation : BreaksAt Source (codes "! a") (codes "=")
no_negation = breaks_at Source (codes "! a") (codes "=") (Tree.MoreStmts (Tree.Do (Tree.Prefix p.Not (Tree.Ident (codes "a")))) Tree.NoStmts) (mark m.Semicolon false ∷ []) (mark m.Not false ∷ name (codes "a") false ∷ mark m.Semicolon false ∷ []) (mark m.Not false ∷ name (codes "a") false ∷ mark m.Assign false ∷ []) refl refl (g.source_and (g.statement (g.expression (g.prefix p.Not false (lit≤ tt) refl (g.identifier false (lit≤ tt) refl)) (λ e. cc) (λ e. cc) (e.written false))) g.no_source) (lit≤ tt) (λ others. refl)

pub no_parenthesised_sum : BreaksAt Source (codes "( a + b )") (codes "+=")
no_parenthesised_sum = breaks_at Source (codes "( a + b )") (codes "+=") (Tree.MoreStmts (Tree.Do (Tree.Binary b.Add (Tree.Ident (codes "a")) (Tree.Ident (codes "b")))) Tree.NoStmts) (mark m.Semicolon false ∷ []) (mark m.OpenParenthesis false ∷ name (codes "a") false ∷ mark m.Plus false ∷ name (codes "b") false ∷ mark m.CloseParenthesis false ∷ mark m.Semicolon false ∷ []) (mark m.OpenParenthesis false ∷ name (codes "a") false ∷ mark m.Plus false ∷ name (codes "b") false ∷ mark m.CloseParenthesis false ∷ mark m.PlusAssign false ∷ []) refl refl (g.source_and (g.statement (g.expression (g.parenthesised false false (lit≤ tt) (g.binary (Operation b.Add) false (lit≤ tt) refl (g.identifier false (lit≤ tt) refl) (g.identifier false (lit≤ tt) refl))) (λ e. cc) (λ e. cc) (e.written false))) g.no_source) (lit≤ tt) (λ others. refl)

pub no_new : BreaksAt Source (codes "new a ( )") (codes "=")
no_new = breaks_at Source (codes "new a ( )") (codes "=") (Tree.MoreStmts (Tree.Do (Tree.New (Tree.Ident (codes "a")) Tree.NoExprs)) Tree.NoStmts) (mark m.Semicolon false ∷ []) (word w.New false ∷ name (codes "a") false ∷ mark m.OpenParenthesis false ∷ mark m.CloseParenthesis false ∷ mark m.Semicolon false ∷ []) (word w.New false ∷ name (codes "a") false ∷ mark m.OpenParenthesis false ∷ mark m.CloseParenthesis false ∷ mark m.Assign false ∷ []) refl refl (g.source_and (g.statement (g.expression (g.new false (lit≤ tt) (g.identifier false (lit≤ tt) refl) (g.no_arguments false false)) (λ e. cc) (λ e. cc) (e.written false))) g.no_source) (lit≤ tt) (λ others. refl)

pub no_postfix : BreaksAt Source (codes "a ++") (codes "=")
no_postfix = breaks_at Source (codes "a ++") (codes "=") (Tree.MoreStmts (Tree.Do (Tree.Postfix (Tree.Ident (codes "a")) q.Increment)) Tree.NoStmts) (mark m.Semicolon false ∷ []) (name (codes "a") false ∷ mark m.PlusPlus false ∷ mark m.Semicolon false ∷ []) (name (codes "a") false ∷ mark m.PlusPlus false ∷ mark m.Assign false ∷ []) refl refl (g.source_and (g.statement (g.expression (g.postfix q.Increment (lit≤ tt) (g.identifier false (lit≤ tt) refl) refl) (λ e. cc) (λ e. cc) (e.written false))) g.no_source) (lit≤ tt) (λ others. refl)

pub no_assignment : BreaksAt Source (codes "( a = b )") (codes "=")
no_assignment = breaks_at Source (codes "( a = b )") (codes "=") (Tree.MoreStmts (Tree.Do (Tree.Assign None (Tree.Ident (codes "a")) (Tree.Ident (codes "b")))) Tree.NoStmts) (mark m.Semicolon false ∷ []) (mark m.OpenParenthesis false ∷ name (codes "a") false ∷ mark m.Assign false ∷ name (codes "b") false ∷ mark m.CloseParenthesis false ∷ mark m.Semicolon false ∷ []) (mark m.OpenParenthesis false ∷ name (codes "a") false ∷ mark m.Assign false ∷ name (codes "b") false ∷ mark m.CloseParenthesis false ∷ mark m.Assign false ∷ []) refl refl (g.source_and (g.statement (g.expression (g.parenthesised false false (lit≤ tt) (g.assign None m.Assign false (lit≤ tt) refl (g.identifier false (lit≤ tt) refl) refl (g.identifier false (lit≤ tt) refl))) (λ e. cc) (λ e. cc) (e.written false))) g.no_source) (lit≤ tt) (λ others. refl)

pub no_this : BreaksAt Source (codes "this") (codes "=")
no_this = breaks_at Source (codes "this") (codes "=") (Tree.MoreStmts (Tree.Do Tree.This) Tree.NoStmts) (mark m.Semicolon false ∷ []) (word w.This false ∷ mark m.Semicolon false ∷ []) (word w.This false ∷ mark m.Assign false ∷ []) refl refl (g.source_and (g.statement (g.expression (g.this false (lit≤ tt)) (λ e. cc) (λ e. cc) (e.written false))) g.no_source) (lit≤ tt) (λ others. refl)

pub middle_without_comma : BreaksAt Source (codes "a ? b") (codes ",")
middle_without_comma = breaks_at Source (codes "a ? b") (codes ",") (Tree.MoreStmts (Tree.Do (Tree.Cond (Tree.Ident (codes "a")) (Tree.Ident (codes "b")) (Tree.Ident (codes "c")))) Tree.NoStmts) (mark m.Colon false ∷ name (codes "c") false ∷ mark m.Semicolon false ∷ []) (name (codes "a") false ∷ mark m.Question false ∷ name (codes "b") false ∷ mark m.Colon false ∷ name (codes "c") false ∷ mark m.Semicolon false ∷ []) (name (codes "a") false ∷ mark m.Question false ∷ name (codes "b") false ∷ mark m.Comma false ∷ []) refl refl (g.source_and (g.statement (g.expression (g.conditional false false (lit≤ tt) (g.identifier false (lit≤ tt) refl) (g.identifier false (lit≤ tt) refl) (g.identifier false (lit≤ tt) refl)) (λ e. cc) (λ e. cc) (e.written false))) g.no_source) (lit≤ tt) (λ others. refl)

pub middle_without_end : BreaksAt Source (codes "a ? b") (codes ";")
middle_without_end = breaks_at Source (codes "a ? b") (codes ";") (Tree.MoreStmts (Tree.Do (Tree.Cond (Tree.Ident (codes "a")) (Tree.Ident (codes "b")) (Tree.Ident (codes "c")))) Tree.NoStmts) (mark m.Colon false ∷ name (codes "c") false ∷ mark m.Semicolon false ∷ []) (name (codes "a") false ∷ mark m.Question false ∷ name (codes "b") false ∷ mark m.Colon false ∷ name (codes "c") false ∷ mark m.Semicolon false ∷ []) (name (codes "a") false ∷ mark m.Question false ∷ name (codes "b") false ∷ mark m.Semicolon false ∷ []) refl refl (g.source_and (g.statement (g.expression (g.conditional false false (lit≤ tt) (g.identifier false (lit≤ tt) refl) (g.identifier false (lit≤ tt) refl) (g.identifier false (lit≤ tt) refl)) (λ e. cc) (λ e. cc) (e.written false))) g.no_source) (lit≤ tt) (λ others. refl)

pub other_is_needed : BreaksAt Source (codes "a ? b :") (codes ";")
other_is_needed = breaks_at Source (codes "a ? b :") (codes ";") (Tree.MoreStmts (Tree.Do (Tree.Cond (Tree.Ident (codes "a")) (Tree.Ident (codes "b")) (Tree.Ident (codes "c")))) Tree.NoStmts) (name (codes "c") false ∷ mark m.Semicolon false ∷ []) (name (codes "a") false ∷ mark m.Question false ∷ name (codes "b") false ∷ mark m.Colon false ∷ name (codes "c") false ∷ mark m.Semicolon false ∷ []) (name (codes "a") false ∷ mark m.Question false ∷ name (codes "b") false ∷ mark m.Colon false ∷ mark m.Semicolon false ∷ []) refl refl (g.source_and (g.statement (g.expression (g.conditional false false (lit≤ tt) (g.identifier false (lit≤ tt) refl) (g.identifier false (lit≤ tt) refl) (g.identifier false (lit≤ tt) refl)) (λ e. cc) (λ e. cc) (e.written false))) g.no_source) (lit≤ tt) (λ others. refl)

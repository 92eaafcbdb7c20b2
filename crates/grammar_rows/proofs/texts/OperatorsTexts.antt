-- Operators between two operands: what binds closer, and that they group to the left.
use Rattle.std.proofs.Common.{false, [], ◌∷◌, codes, refl, lit≤}
use Rattle.js_tree.specs.declared.tree.BinaryOp.TheVariants as b
use Rattle.js_lexer.specs.declared.mark.Mark.TheVariants as m
use Rattle.js_lexer.specs.declared.word.Word.TheVariants as w
use Rattle.js_parser.specs.declared.form.Form.TheVariants.{Source}
use Rattle.js_parser.specs.Symbols.{word, mark, name}
use Rattle.js_tree.specs.Levels.{LogicalOr, LogicalAnd, Operation}
use Rattle.js_parser.specs.Ends as e
use Rattle.js_tree.specs.Tree
use Rattle.js_parser.specs.Grammar as g
use Rattle.grammar_rows.specs.TextRows.{Same}
use Rattle.grammar_rows.proofs.TextRowLemmas.{same_tree}

pub or : Same Source (codes "a || b || c") (codes "( a || b ) || c")
or = same_tree Source (codes "a || b || c") (codes "( a || b ) || c") (Tree.MoreStmts (Tree.Do (Tree.Or (Tree.Or (Tree.Ident (codes "a")) (Tree.Ident (codes "b"))) (Tree.Ident (codes "c")))) Tree.NoStmts) (name (codes "a") false ∷ mark m.Or false ∷ name (codes "b") false ∷ mark m.Or false ∷ name (codes "c") false ∷ []) (mark m.OpenParenthesis false ∷ name (codes "a") false ∷ mark m.Or false ∷ name (codes "b") false ∷ mark m.CloseParenthesis false ∷ mark m.Or false ∷ name (codes "c") false ∷ []) refl refl (g.source_and (g.statement (g.expression (g.binary LogicalOr false (lit≤ tt) refl (g.binary LogicalOr false (lit≤ tt) refl (g.identifier false (lit≤ tt) refl) (g.identifier false (lit≤ tt) refl)) (g.identifier false (lit≤ tt) refl)) (λ e. cc) (λ e. cc) (e.at_end refl))) g.no_source) (record { few = lit≤ tt; low = lit≤ tt; flat = lit≤ tt; closed = lit≤ tt }) (g.source_and (g.statement (g.expression (g.binary LogicalOr false (lit≤ tt) refl (g.parenthesised false false (lit≤ tt) (g.binary LogicalOr false (lit≤ tt) refl (g.identifier false (lit≤ tt) refl) (g.identifier false (lit≤ tt) refl))) (g.identifier false (lit≤ tt) refl)) (λ e. cc) (λ e. cc) (e.at_end refl))) g.no_source) (record { few = lit≤ tt; low = lit≤ tt; flat = lit≤ tt; closed = lit≤ tt })

pub or_below : Same Source (codes "a || b && c ; a && b || c") (codes "a || ( b && c ) ; ( a && b ) || c")
or_below = same_tree Source (codes "a || b && c ; a && b || c") (codes "a || ( b && c ) ; ( a && b ) || c") (Tree.MoreStmts (Tree.Do (Tree.Or (Tree.Ident (codes "a")) (Tree.And (Tree.Ident (codes "b")) (Tree.Ident (codes "c"))))) (Tree.MoreStmts (Tree.Do (Tree.Or (Tree.And (Tree.Ident (codes "a")) (Tree.Ident (codes "b"))) (Tree.Ident (codes "c")))) Tree.NoStmts)) (name (codes "a") false ∷ mark m.Or false ∷ name (codes "b") false ∷ mark m.And false ∷ name (codes "c") false ∷ mark m.Semicolon false ∷ name (codes "a") false ∷ mark m.And false ∷ name (codes "b") false ∷ mark m.Or false ∷ name (codes "c") false ∷ []) (name (codes "a") false ∷ mark m.Or false ∷ mark m.OpenParenthesis false ∷ name (codes "b") false ∷ mark m.And false ∷ name (codes "c") false ∷ mark m.CloseParenthesis false ∷ mark m.Semicolon false ∷ mark m.OpenParenthesis false ∷ name (codes "a") false ∷ mark m.And false ∷ name (codes "b") false ∷ mark m.CloseParenthesis false ∷ mark m.Or false ∷ name (codes "c") false ∷ []) refl refl (g.source_and (g.statement (g.expression (g.binary LogicalOr false (lit≤ tt) refl (g.identifier false (lit≤ tt) refl) (g.binary LogicalAnd false (lit≤ tt) refl (g.identifier false (lit≤ tt) refl) (g.identifier false (lit≤ tt) refl))) (λ e. cc) (λ e. cc) (e.written false))) (g.source_and (g.statement (g.expression (g.binary LogicalOr false (lit≤ tt) refl (g.binary LogicalAnd false (lit≤ tt) refl (g.identifier false (lit≤ tt) refl) (g.identifier false (lit≤ tt) refl)) (g.identifier false (lit≤ tt) refl)) (λ e. cc) (λ e. cc) (e.at_end refl))) g.no_source)) (record { few = lit≤ tt; low = lit≤ tt; flat = lit≤ tt; closed = lit≤ tt }) (g.source_and (g.statement (g.expression (g.binary LogicalOr false (lit≤ tt) refl (g.identifier false (lit≤ tt) refl) (g.parenthesised false false (lit≤ tt) (g.binary LogicalAnd false (lit≤ tt) refl (g.identifier false (lit≤ tt) refl) (g.identifier false (lit≤ tt) refl)))) (λ e. cc) (λ e. cc) (e.written false))) (g.source_and (g.statement (g.expression (g.binary LogicalOr false (lit≤ tt) refl (g.parenthesised false false (lit≤ tt) (g.binary LogicalAnd false (lit≤ tt) refl (g.identifier false (lit≤ tt) refl) (g.identifier false (lit≤ tt) refl))) (g.identifier false (lit≤ tt) refl)) (λ e. cc) (λ e. cc) (e.at_end refl))) g.no_source)) (record { few = lit≤ tt; low = lit≤ tt; flat = lit≤ tt; closed = lit≤ tt })

pub and : Same Source (codes "a && b && c ; a || b && c ; a && b || c") (codes "( a && b ) && c ; a || ( b && c ) ; ( a && b ) || c")
and = same_tree Source (codes "a && b && c ; a || b && c ; a && b || c") (codes "( a && b ) && c ; a || ( b && c ) ; ( a && b ) || c") (Tree.MoreStmts (Tree.Do (Tree.And (Tree.And (Tree.Ident (codes "a")) (Tree.Ident (codes "b"))) (Tree.Ident (codes "c")))) (Tree.MoreStmts (Tree.Do (Tree.Or (Tree.Ident (codes "a")) (Tree.And (Tree.Ident (codes "b")) (Tree.Ident (codes "c"))))) (Tree.MoreStmts (Tree.Do (Tree.Or (Tree.And (Tree.Ident (codes "a")) (Tree.Ident (codes "b"))) (Tree.Ident (codes "c")))) Tree.NoStmts))) (name (codes "a") false ∷ mark m.And false ∷ name (codes "b") false ∷ mark m.And false ∷ name (codes "c") false ∷ mark m.Semicolon false ∷ name (codes "a") false ∷ mark m.Or false ∷ name (codes "b") false ∷ mark m.And false ∷ name (codes "c") false ∷ mark m.Semicolon false ∷ name (codes "a") false ∷ mark m.And false ∷ name (codes "b") false ∷ mark m.Or false ∷ name (codes "c") false ∷ []) (mark m.OpenParenthesis false ∷ name (codes "a") false ∷ mark m.And false ∷ name (codes "b") false ∷ mark m.CloseParenthesis false ∷ mark m.And false ∷ name (codes "c") false ∷ mark m.Semicolon false ∷ name (codes "a") false ∷ mark m.Or false ∷ mark m.OpenParenthesis false ∷ name (codes "b") false ∷ mark m.And false ∷ name (codes "c") false ∷ mark m.CloseParenthesis false ∷ mark m.Semicolon false ∷ mark m.OpenParenthesis false ∷ name (codes "a") false ∷ mark m.And false ∷ name (codes "b") false ∷ mark m.CloseParenthesis false ∷ mark m.Or false ∷ name (codes "c") false ∷ []) refl refl (g.source_and (g.statement (g.expression (g.binary LogicalAnd false (lit≤ tt) refl (g.binary LogicalAnd false (lit≤ tt) refl (g.identifier false (lit≤ tt) refl) (g.identifier false (lit≤ tt) refl)) (g.identifier false (lit≤ tt) refl)) (λ e. cc) (λ e. cc) (e.written false))) (g.source_and (g.statement (g.expression (g.binary LogicalOr false (lit≤ tt) refl (g.identifier false (lit≤ tt) refl) (g.binary LogicalAnd false (lit≤ tt) refl (g.identifier false (lit≤ tt) refl) (g.identifier false (lit≤ tt) refl))) (λ e. cc) (λ e. cc) (e.written false))) (g.source_and (g.statement (g.expression (g.binary LogicalOr false (lit≤ tt) refl (g.binary LogicalAnd false (lit≤ tt) refl (g.identifier false (lit≤ tt) refl) (g.identifier false (lit≤ tt) refl)) (g.identifier false (lit≤ tt) refl)) (λ e. cc) (λ e. cc) (e.at_end refl))) g.no_source))) (record { few = lit≤ tt; low = lit≤ tt; flat = lit≤ tt; closed = lit≤ tt }) (g.source_and (g.statement (g.expression (g.binary LogicalAnd false (lit≤ tt) refl (g.parenthesised false false (lit≤ tt) (g.binary LogicalAnd false (lit≤ tt) refl (g.identifier false (lit≤ tt) refl) (g.identifier false (lit≤ tt) refl))) (g.identifier false (lit≤ tt) refl)) (λ e. cc) (λ e. cc) (e.written false))) (g.source_and (g.statement (g.expression (g.binary LogicalOr false (lit≤ tt) refl (g.identifier false (lit≤ tt) refl) (g.parenthesised false false (lit≤ tt) (g.binary LogicalAnd false (lit≤ tt) refl (g.identifier false (lit≤ tt) refl) (g.identifier false (lit≤ tt) refl)))) (λ e. cc) (λ e. cc) (e.written false))) (g.source_and (g.statement (g.expression (g.binary LogicalOr false (lit≤ tt) refl (g.parenthesised false false (lit≤ tt) (g.binary LogicalAnd false (lit≤ tt) refl (g.identifier false (lit≤ tt) refl) (g.identifier false (lit≤ tt) refl))) (g.identifier false (lit≤ tt) refl)) (λ e. cc) (λ e. cc) (e.at_end refl))) g.no_source))) (record { few = lit≤ tt; low = lit≤ tt; flat = lit≤ tt; closed = lit≤ tt })

pub and_below : Same Source (codes "a && b | c ; a | b && c") (codes "a && ( b | c ) ; ( a | b ) && c")
and_below = same_tree Source (codes "a && b | c ; a | b && c") (codes "a && ( b | c ) ; ( a | b ) && c") (Tree.MoreStmts (Tree.Do (Tree.And (Tree.Ident (codes "a")) (Tree.Binary b.BitOr (Tree.Ident (codes "b")) (Tree.Ident (codes "c"))))) (Tree.MoreStmts (Tree.Do (Tree.And (Tree.Binary b.BitOr (Tree.Ident (codes "a")) (Tree.Ident (codes "b"))) (Tree.Ident (codes "c")))) Tree.NoStmts)) (name (codes "a") false ∷ mark m.And false ∷ name (codes "b") false ∷ mark m.BitOr false ∷ name (codes "c") false ∷ mark m.Semicolon false ∷ name (codes "a") false ∷ mark m.BitOr false ∷ name (codes "b") false ∷ mark m.And false ∷ name (codes "c") false ∷ []) (name (codes "a") false ∷ mark m.And false ∷ mark m.OpenParenthesis false ∷ name (codes "b") false ∷ mark m.BitOr false ∷ name (codes "c") false ∷ mark m.CloseParenthesis false ∷ mark m.Semicolon false ∷ mark m.OpenParenthesis false ∷ name (codes "a") false ∷ mark m.BitOr false ∷ name (codes "b") false ∷ mark m.CloseParenthesis false ∷ mark m.And false ∷ name (codes "c") false ∷ []) refl refl (g.source_and (g.statement (g.expression (g.binary LogicalAnd false (lit≤ tt) refl (g.identifier false (lit≤ tt) refl) (g.binary (Operation b.BitOr) false (lit≤ tt) refl (g.identifier false (lit≤ tt) refl) (g.identifier false (lit≤ tt) refl))) (λ e. cc) (λ e. cc) (e.written false))) (g.source_and (g.statement (g.expression (g.binary LogicalAnd false (lit≤ tt) refl (g.binary (Operation b.BitOr) false (lit≤ tt) refl (g.identifier false (lit≤ tt) refl) (g.identifier false (lit≤ tt) refl)) (g.identifier false (lit≤ tt) refl)) (λ e. cc) (λ e. cc) (e.at_end refl))) g.no_source)) (record { few = lit≤ tt; low = lit≤ tt; flat = lit≤ tt; closed = lit≤ tt }) (g.source_and (g.statement (g.expression (g.binary LogicalAnd false (lit≤ tt) refl (g.identifier false (lit≤ tt) refl) (g.parenthesised false false (lit≤ tt) (g.binary (Operation b.BitOr) false (lit≤ tt) refl (g.identifier false (lit≤ tt) refl) (g.identifier false (lit≤ tt) refl)))) (λ e. cc) (λ e. cc) (e.written false))) (g.source_and (g.statement (g.expression (g.binary LogicalAnd false (lit≤ tt) refl (g.parenthesised false false (lit≤ tt) (g.binary (Operation b.BitOr) false (lit≤ tt) refl (g.identifier false (lit≤ tt) refl) (g.identifier false (lit≤ tt) refl))) (g.identifier false (lit≤ tt) refl)) (λ e. cc) (λ e. cc) (e.at_end refl))) g.no_source)) (record { few = lit≤ tt; low = lit≤ tt; flat = lit≤ tt; closed = lit≤ tt })

pub bit_or : Same Source (codes "a | b | c ; a && b | c ; a | b && c") (codes "( a | b ) | c ; a && ( b | c ) ; ( a | b ) && c")
bit_or = same_tree Source (codes "a | b | c ; a && b | c ; a | b && c") (codes "( a | b ) | c ; a && ( b | c ) ; ( a | b ) && c") (Tree.MoreStmts (Tree.Do (Tree.Binary b.BitOr (Tree.Binary b.BitOr (Tree.Ident (codes "a")) (Tree.Ident (codes "b"))) (Tree.Ident (codes "c")))) (Tree.MoreStmts (Tree.Do (Tree.And (Tree.Ident (codes "a")) (Tree.Binary b.BitOr (Tree.Ident (codes "b")) (Tree.Ident (codes "c"))))) (Tree.MoreStmts (Tree.Do (Tree.And (Tree.Binary b.BitOr (Tree.Ident (codes "a")) (Tree.Ident (codes "b"))) (Tree.Ident (codes "c")))) Tree.NoStmts))) (name (codes "a") false ∷ mark m.BitOr false ∷ name (codes "b") false ∷ mark m.BitOr false ∷ name (codes "c") false ∷ mark m.Semicolon false ∷ name (codes "a") false ∷ mark m.And false ∷ name (codes "b") false ∷ mark m.BitOr false ∷ name (codes "c") false ∷ mark m.Semicolon false ∷ name (codes "a") false ∷ mark m.BitOr false ∷ name (codes "b") false ∷ mark m.And false ∷ name (codes "c") false ∷ []) (mark m.OpenParenthesis false ∷ name (codes "a") false ∷ mark m.BitOr false ∷ name (codes "b") false ∷ mark m.CloseParenthesis false ∷ mark m.BitOr false ∷ name (codes "c") false ∷ mark m.Semicolon false ∷ name (codes "a") false ∷ mark m.And false ∷ mark m.OpenParenthesis false ∷ name (codes "b") false ∷ mark m.BitOr false ∷ name (codes "c") false ∷ mark m.CloseParenthesis false ∷ mark m.Semicolon false ∷ mark m.OpenParenthesis false ∷ name (codes "a") false ∷ mark m.BitOr false ∷ name (codes "b") false ∷ mark m.CloseParenthesis false ∷ mark m.And false ∷ name (codes "c") false ∷ []) refl refl (g.source_and (g.statement (g.expression (g.binary (Operation b.BitOr) false (lit≤ tt) refl (g.binary (Operation b.BitOr) false (lit≤ tt) refl (g.identifier false (lit≤ tt) refl) (g.identifier false (lit≤ tt) refl)) (g.identifier false (lit≤ tt) refl)) (λ e. cc) (λ e. cc) (e.written false))) (g.source_and (g.statement (g.expression (g.binary LogicalAnd false (lit≤ tt) refl (g.identifier false (lit≤ tt) refl) (g.binary (Operation b.BitOr) false (lit≤ tt) refl (g.identifier false (lit≤ tt) refl) (g.identifier false (lit≤ tt) refl))) (λ e. cc) (λ e. cc) (e.written false))) (g.source_and (g.statement (g.expression (g.binary LogicalAnd false (lit≤ tt) refl (g.binary (Operation b.BitOr) false (lit≤ tt) refl (g.identifier false (lit≤ tt) refl) (g.identifier false (lit≤ tt) refl)) (g.identifier false (lit≤ tt) refl)) (λ e. cc) (λ e. cc) (e.at_end refl))) g.no_source))) (record { few = lit≤ tt; low = lit≤ tt; flat = lit≤ tt; closed = lit≤ tt }) (g.source_and (g.statement (g.expression (g.binary (Operation b.BitOr) false (lit≤ tt) refl (g.parenthesised false false (lit≤ tt) (g.binary (Operation b.BitOr) false (lit≤ tt) refl (g.identifier false (lit≤ tt) refl) (g.identifier false (lit≤ tt) refl))) (g.identifier false (lit≤ tt) refl)) (λ e. cc) (λ e. cc) (e.written false))) (g.source_and (g.statement (g.expression (g.binary LogicalAnd false (lit≤ tt) refl (g.identifier false (lit≤ tt) refl) (g.parenthesised false false (lit≤ tt) (g.binary (Operation b.BitOr) false (lit≤ tt) refl (g.identifier false (lit≤ tt) refl) (g.identifier false (lit≤ tt) refl)))) (λ e. cc) (λ e. cc) (e.written false))) (g.source_and (g.statement (g.expression (g.binary LogicalAnd false (lit≤ tt) refl (g.parenthesised false false (lit≤ tt) (g.binary (Operation b.BitOr) false (lit≤ tt) refl (g.identifier false (lit≤ tt) refl) (g.identifier false (lit≤ tt) refl))) (g.identifier false (lit≤ tt) refl)) (λ e. cc) (λ e. cc) (e.at_end refl))) g.no_source))) (record { few = lit≤ tt; low = lit≤ tt; flat = lit≤ tt; closed = lit≤ tt })

pub bit_or_below : Same Source (codes "a | b ^ c ; a ^ b | c") (codes "a | ( b ^ c ) ; ( a ^ b ) | c")
bit_or_below = same_tree Source (codes "a | b ^ c ; a ^ b | c") (codes "a | ( b ^ c ) ; ( a ^ b ) | c") (Tree.MoreStmts (Tree.Do (Tree.Binary b.BitOr (Tree.Ident (codes "a")) (Tree.Binary b.BitXor (Tree.Ident (codes "b")) (Tree.Ident (codes "c"))))) (Tree.MoreStmts (Tree.Do (Tree.Binary b.BitOr (Tree.Binary b.BitXor (Tree.Ident (codes "a")) (Tree.Ident (codes "b"))) (Tree.Ident (codes "c")))) Tree.NoStmts)) (name (codes "a") false ∷ mark m.BitOr false ∷ name (codes "b") false ∷ mark m.BitXor false ∷ name (codes "c") false ∷ mark m.Semicolon false ∷ name (codes "a") false ∷ mark m.BitXor false ∷ name (codes "b") false ∷ mark m.BitOr false ∷ name (codes "c") false ∷ []) (name (codes "a") false ∷ mark m.BitOr false ∷ mark m.OpenParenthesis false ∷ name (codes "b") false ∷ mark m.BitXor false ∷ name (codes "c") false ∷ mark m.CloseParenthesis false ∷ mark m.Semicolon false ∷ mark m.OpenParenthesis false ∷ name (codes "a") false ∷ mark m.BitXor false ∷ name (codes "b") false ∷ mark m.CloseParenthesis false ∷ mark m.BitOr false ∷ name (codes "c") false ∷ []) refl refl (g.source_and (g.statement (g.expression (g.binary (Operation b.BitOr) false (lit≤ tt) refl (g.identifier false (lit≤ tt) refl) (g.binary (Operation b.BitXor) false (lit≤ tt) refl (g.identifier false (lit≤ tt) refl) (g.identifier false (lit≤ tt) refl))) (λ e. cc) (λ e. cc) (e.written false))) (g.source_and (g.statement (g.expression (g.binary (Operation b.BitOr) false (lit≤ tt) refl (g.binary (Operation b.BitXor) false (lit≤ tt) refl (g.identifier false (lit≤ tt) refl) (g.identifier false (lit≤ tt) refl)) (g.identifier false (lit≤ tt) refl)) (λ e. cc) (λ e. cc) (e.at_end refl))) g.no_source)) (record { few = lit≤ tt; low = lit≤ tt; flat = lit≤ tt; closed = lit≤ tt }) (g.source_and (g.statement (g.expression (g.binary (Operation b.BitOr) false (lit≤ tt) refl (g.identifier false (lit≤ tt) refl) (g.parenthesised false false (lit≤ tt) (g.binary (Operation b.BitXor) false (lit≤ tt) refl (g.identifier false (lit≤ tt) refl) (g.identifier false (lit≤ tt) refl)))) (λ e. cc) (λ e. cc) (e.written false))) (g.source_and (g.statement (g.expression (g.binary (Operation b.BitOr) false (lit≤ tt) refl (g.parenthesised false false (lit≤ tt) (g.binary (Operation b.BitXor) false (lit≤ tt) refl (g.identifier false (lit≤ tt) refl) (g.identifier false (lit≤ tt) refl))) (g.identifier false (lit≤ tt) refl)) (λ e. cc) (λ e. cc) (e.at_end refl))) g.no_source)) (record { few = lit≤ tt; low = lit≤ tt; flat = lit≤ tt; closed = lit≤ tt })

pub bit_xor : Same Source (codes "a ^ b ^ c ; a | b ^ c ; a ^ b | c") (codes "( a ^ b ) ^ c ; a | ( b ^ c ) ; ( a ^ b ) | c")
bit_xor = same_tree Source (codes "a ^ b ^ c ; a | b ^ c ; a ^ b | c") (codes "( a ^ b ) ^ c ; a | ( b ^ c ) ; ( a ^ b ) | c") (Tree.MoreStmts (Tree.Do (Tree.Binary b.BitXor (Tree.Binary b.BitXor (Tree.Ident (codes "a")) (Tree.Ident (codes "b"))) (Tree.Ident (codes "c")))) (Tree.MoreStmts (Tree.Do (Tree.Binary b.BitOr (Tree.Ident (codes "a")) (Tree.Binary b.BitXor (Tree.Ident (codes "b")) (Tree.Ident (codes "c"))))) (Tree.MoreStmts (Tree.Do (Tree.Binary b.BitOr (Tree.Binary b.BitXor (Tree.Ident (codes "a")) (Tree.Ident (codes "b"))) (Tree.Ident (codes "c")))) Tree.NoStmts))) (name (codes "a") false ∷ mark m.BitXor false ∷ name (codes "b") false ∷ mark m.BitXor false ∷ name (codes "c") false ∷ mark m.Semicolon false ∷ name (codes "a") false ∷ mark m.BitOr false ∷ name (codes "b") false ∷ mark m.BitXor false ∷ name (codes "c") false ∷ mark m.Semicolon false ∷ name (codes "a") false ∷ mark m.BitXor false ∷ name (codes "b") false ∷ mark m.BitOr false ∷ name (codes "c") false ∷ []) (mark m.OpenParenthesis false ∷ name (codes "a") false ∷ mark m.BitXor false ∷ name (codes "b") false ∷ mark m.CloseParenthesis false ∷ mark m.BitXor false ∷ name (codes "c") false ∷ mark m.Semicolon false ∷ name (codes "a") false ∷ mark m.BitOr false ∷ mark m.OpenParenthesis false ∷ name (codes "b") false ∷ mark m.BitXor false ∷ name (codes "c") false ∷ mark m.CloseParenthesis false ∷ mark m.Semicolon false ∷ mark m.OpenParenthesis false ∷ name (codes "a") false ∷ mark m.BitXor false ∷ name (codes "b") false ∷ mark m.CloseParenthesis false ∷ mark m.BitOr false ∷ name (codes "c") false ∷ []) refl refl (g.source_and (g.statement (g.expression (g.binary (Operation b.BitXor) false (lit≤ tt) refl (g.binary (Operation b.BitXor) false (lit≤ tt) refl (g.identifier false (lit≤ tt) refl) (g.identifier false (lit≤ tt) refl)) (g.identifier false (lit≤ tt) refl)) (λ e. cc) (λ e. cc) (e.written false))) (g.source_and (g.statement (g.expression (g.binary (Operation b.BitOr) false (lit≤ tt) refl (g.identifier false (lit≤ tt) refl) (g.binary (Operation b.BitXor) false (lit≤ tt) refl (g.identifier false (lit≤ tt) refl) (g.identifier false (lit≤ tt) refl))) (λ e. cc) (λ e. cc) (e.written false))) (g.source_and (g.statement (g.expression (g.binary (Operation b.BitOr) false (lit≤ tt) refl (g.binary (Operation b.BitXor) false (lit≤ tt) refl (g.identifier false (lit≤ tt) refl) (g.identifier false (lit≤ tt) refl)) (g.identifier false (lit≤ tt) refl)) (λ e. cc) (λ e. cc) (e.at_end refl))) g.no_source))) (record { few = lit≤ tt; low = lit≤ tt; flat = lit≤ tt; closed = lit≤ tt }) (g.source_and (g.statement (g.expression (g.binary (Operation b.BitXor) false (lit≤ tt) refl (g.parenthesised false false (lit≤ tt) (g.binary (Operation b.BitXor) false (lit≤ tt) refl (g.identifier false (lit≤ tt) refl) (g.identifier false (lit≤ tt) refl))) (g.identifier false (lit≤ tt) refl)) (λ e. cc) (λ e. cc) (e.written false))) (g.source_and (g.statement (g.expression (g.binary (Operation b.BitOr) false (lit≤ tt) refl (g.identifier false (lit≤ tt) refl) (g.parenthesised false false (lit≤ tt) (g.binary (Operation b.BitXor) false (lit≤ tt) refl (g.identifier false (lit≤ tt) refl) (g.identifier false (lit≤ tt) refl)))) (λ e. cc) (λ e. cc) (e.written false))) (g.source_and (g.statement (g.expression (g.binary (Operation b.BitOr) false (lit≤ tt) refl (g.parenthesised false false (lit≤ tt) (g.binary (Operation b.BitXor) false (lit≤ tt) refl (g.identifier false (lit≤ tt) refl) (g.identifier false (lit≤ tt) refl))) (g.identifier false (lit≤ tt) refl)) (λ e. cc) (λ e. cc) (e.at_end refl))) g.no_source))) (record { few = lit≤ tt; low = lit≤ tt; flat = lit≤ tt; closed = lit≤ tt })

pub bit_xor_below : Same Source (codes "a ^ b & c ; a & b ^ c") (codes "a ^ ( b & c ) ; ( a & b ) ^ c")
bit_xor_below = same_tree Source (codes "a ^ b & c ; a & b ^ c") (codes "a ^ ( b & c ) ; ( a & b ) ^ c") (Tree.MoreStmts (Tree.Do (Tree.Binary b.BitXor (Tree.Ident (codes "a")) (Tree.Binary b.BitAnd (Tree.Ident (codes "b")) (Tree.Ident (codes "c"))))) (Tree.MoreStmts (Tree.Do (Tree.Binary b.BitXor (Tree.Binary b.BitAnd (Tree.Ident (codes "a")) (Tree.Ident (codes "b"))) (Tree.Ident (codes "c")))) Tree.NoStmts)) (name (codes "a") false ∷ mark m.BitXor false ∷ name (codes "b") false ∷ mark m.BitAnd false ∷ name (codes "c") false ∷ mark m.Semicolon false ∷ name (codes "a") false ∷ mark m.BitAnd false ∷ name (codes "b") false ∷ mark m.BitXor false ∷ name (codes "c") false ∷ []) (name (codes "a") false ∷ mark m.BitXor false ∷ mark m.OpenParenthesis false ∷ name (codes "b") false ∷ mark m.BitAnd false ∷ name (codes "c") false ∷ mark m.CloseParenthesis false ∷ mark m.Semicolon false ∷ mark m.OpenParenthesis false ∷ name (codes "a") false ∷ mark m.BitAnd false ∷ name (codes "b") false ∷ mark m.CloseParenthesis false ∷ mark m.BitXor false ∷ name (codes "c") false ∷ []) refl refl (g.source_and (g.statement (g.expression (g.binary (Operation b.BitXor) false (lit≤ tt) refl (g.identifier false (lit≤ tt) refl) (g.binary (Operation b.BitAnd) false (lit≤ tt) refl (g.identifier false (lit≤ tt) refl) (g.identifier false (lit≤ tt) refl))) (λ e. cc) (λ e. cc) (e.written false))) (g.source_and (g.statement (g.expression (g.binary (Operation b.BitXor) false (lit≤ tt) refl (g.binary (Operation b.BitAnd) false (lit≤ tt) refl (g.identifier false (lit≤ tt) refl) (g.identifier false (lit≤ tt) refl)) (g.identifier false (lit≤ tt) refl)) (λ e. cc) (λ e. cc) (e.at_end refl))) g.no_source)) (record { few = lit≤ tt; low = lit≤ tt; flat = lit≤ tt; closed = lit≤ tt }) (g.source_and (g.statement (g.expression (g.binary (Operation b.BitXor) false (lit≤ tt) refl (g.identifier false (lit≤ tt) refl) (g.parenthesised false false (lit≤ tt) (g.binary (Operation b.BitAnd) false (lit≤ tt) refl (g.identifier false (lit≤ tt) refl) (g.identifier false (lit≤ tt) refl)))) (λ e. cc) (λ e. cc) (e.written false))) (g.source_and (g.statement (g.expression (g.binary (Operation b.BitXor) false (lit≤ tt) refl (g.parenthesised false false (lit≤ tt) (g.binary (Operation b.BitAnd) false (lit≤ tt) refl (g.identifier false (lit≤ tt) refl) (g.identifier false (lit≤ tt) refl))) (g.identifier false (lit≤ tt) refl)) (λ e. cc) (λ e. cc) (e.at_end refl))) g.no_source)) (record { few = lit≤ tt; low = lit≤ tt; flat = lit≤ tt; closed = lit≤ tt })

pub bit_and : Same Source (codes "a & b & c ; a ^ b & c ; a & b ^ c") (codes "( a & b ) & c ; a ^ ( b & c ) ; ( a & b ) ^ c")
bit_and = same_tree Source (codes "a & b & c ; a ^ b & c ; a & b ^ c") (codes "( a & b ) & c ; a ^ ( b & c ) ; ( a & b ) ^ c") (Tree.MoreStmts (Tree.Do (Tree.Binary b.BitAnd (Tree.Binary b.BitAnd (Tree.Ident (codes "a")) (Tree.Ident (codes "b"))) (Tree.Ident (codes "c")))) (Tree.MoreStmts (Tree.Do (Tree.Binary b.BitXor (Tree.Ident (codes "a")) (Tree.Binary b.BitAnd (Tree.Ident (codes "b")) (Tree.Ident (codes "c"))))) (Tree.MoreStmts (Tree.Do (Tree.Binary b.BitXor (Tree.Binary b.BitAnd (Tree.Ident (codes "a")) (Tree.Ident (codes "b"))) (Tree.Ident (codes "c")))) Tree.NoStmts))) (name (codes "a") false ∷ mark m.BitAnd false ∷ name (codes "b") false ∷ mark m.BitAnd false ∷ name (codes "c") false ∷ mark m.Semicolon false ∷ name (codes "a") false ∷ mark m.BitXor false ∷ name (codes "b") false ∷ mark m.BitAnd false ∷ name (codes "c") false ∷ mark m.Semicolon false ∷ name (codes "a") false ∷ mark m.BitAnd false ∷ name (codes "b") false ∷ mark m.BitXor false ∷ name (codes "c") false ∷ []) (mark m.OpenParenthesis false ∷ name (codes "a") false ∷ mark m.BitAnd false ∷ name (codes "b") false ∷ mark m.CloseParenthesis false ∷ mark m.BitAnd false ∷ name (codes "c") false ∷ mark m.Semicolon false ∷ name (codes "a") false ∷ mark m.BitXor false ∷ mark m.OpenParenthesis false ∷ name (codes "b") false ∷ mark m.BitAnd false ∷ name (codes "c") false ∷ mark m.CloseParenthesis false ∷ mark m.Semicolon false ∷ mark m.OpenParenthesis false ∷ name (codes "a") false ∷ mark m.BitAnd false ∷ name (codes "b") false ∷ mark m.CloseParenthesis false ∷ mark m.BitXor false ∷ name (codes "c") false ∷ []) refl refl (g.source_and (g.statement (g.expression (g.binary (Operation b.BitAnd) false (lit≤ tt) refl (g.binary (Operation b.BitAnd) false (lit≤ tt) refl (g.identifier false (lit≤ tt) refl) (g.identifier false (lit≤ tt) refl)) (g.identifier false (lit≤ tt) refl)) (λ e. cc) (λ e. cc) (e.written false))) (g.source_and (g.statement (g.expression (g.binary (Operation b.BitXor) false (lit≤ tt) refl (g.identifier false (lit≤ tt) refl) (g.binary (Operation b.BitAnd) false (lit≤ tt) refl (g.identifier false (lit≤ tt) refl) (g.identifier false (lit≤ tt) refl))) (λ e. cc) (λ e. cc) (e.written false))) (g.source_and (g.statement (g.expression (g.binary (Operation b.BitXor) false (lit≤ tt) refl (g.binary (Operation b.BitAnd) false (lit≤ tt) refl (g.identifier false (lit≤ tt) refl) (g.identifier false (lit≤ tt) refl)) (g.identifier false (lit≤ tt) refl)) (λ e. cc) (λ e. cc) (e.at_end refl))) g.no_source))) (record { few = lit≤ tt; low = lit≤ tt; flat = lit≤ tt; closed = lit≤ tt }) (g.source_and (g.statement (g.expression (g.binary (Operation b.BitAnd) false (lit≤ tt) refl (g.parenthesised false false (lit≤ tt) (g.binary (Operation b.BitAnd) false (lit≤ tt) refl (g.identifier false (lit≤ tt) refl) (g.identifier false (lit≤ tt) refl))) (g.identifier false (lit≤ tt) refl)) (λ e. cc) (λ e. cc) (e.written false))) (g.source_and (g.statement (g.expression (g.binary (Operation b.BitXor) false (lit≤ tt) refl (g.identifier false (lit≤ tt) refl) (g.parenthesised false false (lit≤ tt) (g.binary (Operation b.BitAnd) false (lit≤ tt) refl (g.identifier false (lit≤ tt) refl) (g.identifier false (lit≤ tt) refl)))) (λ e. cc) (λ e. cc) (e.written false))) (g.source_and (g.statement (g.expression (g.binary (Operation b.BitXor) false (lit≤ tt) refl (g.parenthesised false false (lit≤ tt) (g.binary (Operation b.BitAnd) false (lit≤ tt) refl (g.identifier false (lit≤ tt) refl) (g.identifier false (lit≤ tt) refl))) (g.identifier false (lit≤ tt) refl)) (λ e. cc) (λ e. cc) (e.at_end refl))) g.no_source))) (record { few = lit≤ tt; low = lit≤ tt; flat = lit≤ tt; closed = lit≤ tt })

pub bit_and_below : Same Source (codes "a & b == c ; a == b & c") (codes "a & ( b == c ) ; ( a == b ) & c")
bit_and_below = same_tree Source (codes "a & b == c ; a == b & c") (codes "a & ( b == c ) ; ( a == b ) & c") (Tree.MoreStmts (Tree.Do (Tree.Binary b.BitAnd (Tree.Ident (codes "a")) (Tree.Binary b.Equal (Tree.Ident (codes "b")) (Tree.Ident (codes "c"))))) (Tree.MoreStmts (Tree.Do (Tree.Binary b.BitAnd (Tree.Binary b.Equal (Tree.Ident (codes "a")) (Tree.Ident (codes "b"))) (Tree.Ident (codes "c")))) Tree.NoStmts)) (name (codes "a") false ∷ mark m.BitAnd false ∷ name (codes "b") false ∷ mark m.Equal false ∷ name (codes "c") false ∷ mark m.Semicolon false ∷ name (codes "a") false ∷ mark m.Equal false ∷ name (codes "b") false ∷ mark m.BitAnd false ∷ name (codes "c") false ∷ []) (name (codes "a") false ∷ mark m.BitAnd false ∷ mark m.OpenParenthesis false ∷ name (codes "b") false ∷ mark m.Equal false ∷ name (codes "c") false ∷ mark m.CloseParenthesis false ∷ mark m.Semicolon false ∷ mark m.OpenParenthesis false ∷ name (codes "a") false ∷ mark m.Equal false ∷ name (codes "b") false ∷ mark m.CloseParenthesis false ∷ mark m.BitAnd false ∷ name (codes "c") false ∷ []) refl refl (g.source_and (g.statement (g.expression (g.binary (Operation b.BitAnd) false (lit≤ tt) refl (g.identifier false (lit≤ tt) refl) (g.binary (Operation b.Equal) false (lit≤ tt) refl (g.identifier false (lit≤ tt) refl) (g.identifier false (lit≤ tt) refl))) (λ e. cc) (λ e. cc) (e.written false))) (g.source_and (g.statement (g.expression (g.binary (Operation b.BitAnd) false (lit≤ tt) refl (g.binary (Operation b.Equal) false (lit≤ tt) refl (g.identifier false (lit≤ tt) refl) (g.identifier false (lit≤ tt) refl)) (g.identifier false (lit≤ tt) refl)) (λ e. cc) (λ e. cc) (e.at_end refl))) g.no_source)) (record { few = lit≤ tt; low = lit≤ tt; flat = lit≤ tt; closed = lit≤ tt }) (g.source_and (g.statement (g.expression (g.binary (Operation b.BitAnd) false (lit≤ tt) refl (g.identifier false (lit≤ tt) refl) (g.parenthesised false false (lit≤ tt) (g.binary (Operation b.Equal) false (lit≤ tt) refl (g.identifier false (lit≤ tt) refl) (g.identifier false (lit≤ tt) refl)))) (λ e. cc) (λ e. cc) (e.written false))) (g.source_and (g.statement (g.expression (g.binary (Operation b.BitAnd) false (lit≤ tt) refl (g.parenthesised false false (lit≤ tt) (g.binary (Operation b.Equal) false (lit≤ tt) refl (g.identifier false (lit≤ tt) refl) (g.identifier false (lit≤ tt) refl))) (g.identifier false (lit≤ tt) refl)) (λ e. cc) (λ e. cc) (e.at_end refl))) g.no_source)) (record { few = lit≤ tt; low = lit≤ tt; flat = lit≤ tt; closed = lit≤ tt })

pub equal : Same Source (codes "a == b == c ; a & b == c ; a == b & c") (codes "( a == b ) == c ; a & ( b == c ) ; ( a == b ) & c")
equal = same_tree Source (codes "a == b == c ; a & b == c ; a == b & c") (codes "( a == b ) == c ; a & ( b == c ) ; ( a == b ) & c") (Tree.MoreStmts (Tree.Do (Tree.Binary b.Equal (Tree.Binary b.Equal (Tree.Ident (codes "a")) (Tree.Ident (codes "b"))) (Tree.Ident (codes "c")))) (Tree.MoreStmts (Tree.Do (Tree.Binary b.BitAnd (Tree.Ident (codes "a")) (Tree.Binary b.Equal (Tree.Ident (codes "b")) (Tree.Ident (codes "c"))))) (Tree.MoreStmts (Tree.Do (Tree.Binary b.BitAnd (Tree.Binary b.Equal (Tree.Ident (codes "a")) (Tree.Ident (codes "b"))) (Tree.Ident (codes "c")))) Tree.NoStmts))) (name (codes "a") false ∷ mark m.Equal false ∷ name (codes "b") false ∷ mark m.Equal false ∷ name (codes "c") false ∷ mark m.Semicolon false ∷ name (codes "a") false ∷ mark m.BitAnd false ∷ name (codes "b") false ∷ mark m.Equal false ∷ name (codes "c") false ∷ mark m.Semicolon false ∷ name (codes "a") false ∷ mark m.Equal false ∷ name (codes "b") false ∷ mark m.BitAnd false ∷ name (codes "c") false ∷ []) (mark m.OpenParenthesis false ∷ name (codes "a") false ∷ mark m.Equal false ∷ name (codes "b") false ∷ mark m.CloseParenthesis false ∷ mark m.Equal false ∷ name (codes "c") false ∷ mark m.Semicolon false ∷ name (codes "a") false ∷ mark m.BitAnd false ∷ mark m.OpenParenthesis false ∷ name (codes "b") false ∷ mark m.Equal false ∷ name (codes "c") false ∷ mark m.CloseParenthesis false ∷ mark m.Semicolon false ∷ mark m.OpenParenthesis false ∷ name (codes "a") false ∷ mark m.Equal false ∷ name (codes "b") false ∷ mark m.CloseParenthesis false ∷ mark m.BitAnd false ∷ name (codes "c") false ∷ []) refl refl (g.source_and (g.statement (g.expression (g.binary (Operation b.Equal) false (lit≤ tt) refl (g.binary (Operation b.Equal) false (lit≤ tt) refl (g.identifier false (lit≤ tt) refl) (g.identifier false (lit≤ tt) refl)) (g.identifier false (lit≤ tt) refl)) (λ e. cc) (λ e. cc) (e.written false))) (g.source_and (g.statement (g.expression (g.binary (Operation b.BitAnd) false (lit≤ tt) refl (g.identifier false (lit≤ tt) refl) (g.binary (Operation b.Equal) false (lit≤ tt) refl (g.identifier false (lit≤ tt) refl) (g.identifier false (lit≤ tt) refl))) (λ e. cc) (λ e. cc) (e.written false))) (g.source_and (g.statement (g.expression (g.binary (Operation b.BitAnd) false (lit≤ tt) refl (g.binary (Operation b.Equal) false (lit≤ tt) refl (g.identifier false (lit≤ tt) refl) (g.identifier false (lit≤ tt) refl)) (g.identifier false (lit≤ tt) refl)) (λ e. cc) (λ e. cc) (e.at_end refl))) g.no_source))) (record { few = lit≤ tt; low = lit≤ tt; flat = lit≤ tt; closed = lit≤ tt }) (g.source_and (g.statement (g.expression (g.binary (Operation b.Equal) false (lit≤ tt) refl (g.parenthesised false false (lit≤ tt) (g.binary (Operation b.Equal) false (lit≤ tt) refl (g.identifier false (lit≤ tt) refl) (g.identifier false (lit≤ tt) refl))) (g.identifier false (lit≤ tt) refl)) (λ e. cc) (λ e. cc) (e.written false))) (g.source_and (g.statement (g.expression (g.binary (Operation b.BitAnd) false (lit≤ tt) refl (g.identifier false (lit≤ tt) refl) (g.parenthesised false false (lit≤ tt) (g.binary (Operation b.Equal) false (lit≤ tt) refl (g.identifier false (lit≤ tt) refl) (g.identifier false (lit≤ tt) refl)))) (λ e. cc) (λ e. cc) (e.written false))) (g.source_and (g.statement (g.expression (g.binary (Operation b.BitAnd) false (lit≤ tt) refl (g.parenthesised false false (lit≤ tt) (g.binary (Operation b.Equal) false (lit≤ tt) refl (g.identifier false (lit≤ tt) refl) (g.identifier false (lit≤ tt) refl))) (g.identifier false (lit≤ tt) refl)) (λ e. cc) (λ e. cc) (e.at_end refl))) g.no_source))) (record { few = lit≤ tt; low = lit≤ tt; flat = lit≤ tt; closed = lit≤ tt })

pub equal_below : Same Source (codes "a == b < c ; a < b == c") (codes "a == ( b < c ) ; ( a < b ) == c")
equal_below = same_tree Source (codes "a == b < c ; a < b == c") (codes "a == ( b < c ) ; ( a < b ) == c") (Tree.MoreStmts (Tree.Do (Tree.Binary b.Equal (Tree.Ident (codes "a")) (Tree.Binary b.Less (Tree.Ident (codes "b")) (Tree.Ident (codes "c"))))) (Tree.MoreStmts (Tree.Do (Tree.Binary b.Equal (Tree.Binary b.Less (Tree.Ident (codes "a")) (Tree.Ident (codes "b"))) (Tree.Ident (codes "c")))) Tree.NoStmts)) (name (codes "a") false ∷ mark m.Equal false ∷ name (codes "b") false ∷ mark m.Less false ∷ name (codes "c") false ∷ mark m.Semicolon false ∷ name (codes "a") false ∷ mark m.Less false ∷ name (codes "b") false ∷ mark m.Equal false ∷ name (codes "c") false ∷ []) (name (codes "a") false ∷ mark m.Equal false ∷ mark m.OpenParenthesis false ∷ name (codes "b") false ∷ mark m.Less false ∷ name (codes "c") false ∷ mark m.CloseParenthesis false ∷ mark m.Semicolon false ∷ mark m.OpenParenthesis false ∷ name (codes "a") false ∷ mark m.Less false ∷ name (codes "b") false ∷ mark m.CloseParenthesis false ∷ mark m.Equal false ∷ name (codes "c") false ∷ []) refl refl (g.source_and (g.statement (g.expression (g.binary (Operation b.Equal) false (lit≤ tt) refl (g.identifier false (lit≤ tt) refl) (g.binary (Operation b.Less) false (lit≤ tt) refl (g.identifier false (lit≤ tt) refl) (g.identifier false (lit≤ tt) refl))) (λ e. cc) (λ e. cc) (e.written false))) (g.source_and (g.statement (g.expression (g.binary (Operation b.Equal) false (lit≤ tt) refl (g.binary (Operation b.Less) false (lit≤ tt) refl (g.identifier false (lit≤ tt) refl) (g.identifier false (lit≤ tt) refl)) (g.identifier false (lit≤ tt) refl)) (λ e. cc) (λ e. cc) (e.at_end refl))) g.no_source)) (record { few = lit≤ tt; low = lit≤ tt; flat = lit≤ tt; closed = lit≤ tt }) (g.source_and (g.statement (g.expression (g.binary (Operation b.Equal) false (lit≤ tt) refl (g.identifier false (lit≤ tt) refl) (g.parenthesised false false (lit≤ tt) (g.binary (Operation b.Less) false (lit≤ tt) refl (g.identifier false (lit≤ tt) refl) (g.identifier false (lit≤ tt) refl)))) (λ e. cc) (λ e. cc) (e.written false))) (g.source_and (g.statement (g.expression (g.binary (Operation b.Equal) false (lit≤ tt) refl (g.parenthesised false false (lit≤ tt) (g.binary (Operation b.Less) false (lit≤ tt) refl (g.identifier false (lit≤ tt) refl) (g.identifier false (lit≤ tt) refl))) (g.identifier false (lit≤ tt) refl)) (λ e. cc) (λ e. cc) (e.at_end refl))) g.no_source)) (record { few = lit≤ tt; low = lit≤ tt; flat = lit≤ tt; closed = lit≤ tt })

pub not_equal : Same Source (codes "a != b != c ; a & b != c ; a != b & c") (codes "( a != b ) != c ; a & ( b != c ) ; ( a != b ) & c")
not_equal = same_tree Source (codes "a != b != c ; a & b != c ; a != b & c") (codes "( a != b ) != c ; a & ( b != c ) ; ( a != b ) & c") (Tree.MoreStmts (Tree.Do (Tree.Binary b.NotEqual (Tree.Binary b.NotEqual (Tree.Ident (codes "a")) (Tree.Ident (codes "b"))) (Tree.Ident (codes "c")))) (Tree.MoreStmts (Tree.Do (Tree.Binary b.BitAnd (Tree.Ident (codes "a")) (Tree.Binary b.NotEqual (Tree.Ident (codes "b")) (Tree.Ident (codes "c"))))) (Tree.MoreStmts (Tree.Do (Tree.Binary b.BitAnd (Tree.Binary b.NotEqual (Tree.Ident (codes "a")) (Tree.Ident (codes "b"))) (Tree.Ident (codes "c")))) Tree.NoStmts))) (name (codes "a") false ∷ mark m.NotEqual false ∷ name (codes "b") false ∷ mark m.NotEqual false ∷ name (codes "c") false ∷ mark m.Semicolon false ∷ name (codes "a") false ∷ mark m.BitAnd false ∷ name (codes "b") false ∷ mark m.NotEqual false ∷ name (codes "c") false ∷ mark m.Semicolon false ∷ name (codes "a") false ∷ mark m.NotEqual false ∷ name (codes "b") false ∷ mark m.BitAnd false ∷ name (codes "c") false ∷ []) (mark m.OpenParenthesis false ∷ name (codes "a") false ∷ mark m.NotEqual false ∷ name (codes "b") false ∷ mark m.CloseParenthesis false ∷ mark m.NotEqual false ∷ name (codes "c") false ∷ mark m.Semicolon false ∷ name (codes "a") false ∷ mark m.BitAnd false ∷ mark m.OpenParenthesis false ∷ name (codes "b") false ∷ mark m.NotEqual false ∷ name (codes "c") false ∷ mark m.CloseParenthesis false ∷ mark m.Semicolon false ∷ mark m.OpenParenthesis false ∷ name (codes "a") false ∷ mark m.NotEqual false ∷ name (codes "b") false ∷ mark m.CloseParenthesis false ∷ mark m.BitAnd false ∷ name (codes "c") false ∷ []) refl refl (g.source_and (g.statement (g.expression (g.binary (Operation b.NotEqual) false (lit≤ tt) refl (g.binary (Operation b.NotEqual) false (lit≤ tt) refl (g.identifier false (lit≤ tt) refl) (g.identifier false (lit≤ tt) refl)) (g.identifier false (lit≤ tt) refl)) (λ e. cc) (λ e. cc) (e.written false))) (g.source_and (g.statement (g.expression (g.binary (Operation b.BitAnd) false (lit≤ tt) refl (g.identifier false (lit≤ tt) refl) (g.binary (Operation b.NotEqual) false (lit≤ tt) refl (g.identifier false (lit≤ tt) refl) (g.identifier false (lit≤ tt) refl))) (λ e. cc) (λ e. cc) (e.written false))) (g.source_and (g.statement (g.expression (g.binary (Operation b.BitAnd) false (lit≤ tt) refl (g.binary (Operation b.NotEqual) false (lit≤ tt) refl (g.identifier false (lit≤ tt) refl) (g.identifier false (lit≤ tt) refl)) (g.identifier false (lit≤ tt) refl)) (λ e. cc) (λ e. cc) (e.at_end refl))) g.no_source))) (record { few = lit≤ tt; low = lit≤ tt; flat = lit≤ tt; closed = lit≤ tt }) (g.source_and (g.statement (g.expression (g.binary (Operation b.NotEqual) false (lit≤ tt) refl (g.parenthesised false false (lit≤ tt) (g.binary (Operation b.NotEqual) false (lit≤ tt) refl (g.identifier false (lit≤ tt) refl) (g.identifier false (lit≤ tt) refl))) (g.identifier false (lit≤ tt) refl)) (λ e. cc) (λ e. cc) (e.written false))) (g.source_and (g.statement (g.expression (g.binary (Operation b.BitAnd) false (lit≤ tt) refl (g.identifier false (lit≤ tt) refl) (g.parenthesised false false (lit≤ tt) (g.binary (Operation b.NotEqual) false (lit≤ tt) refl (g.identifier false (lit≤ tt) refl) (g.identifier false (lit≤ tt) refl)))) (λ e. cc) (λ e. cc) (e.written false))) (g.source_and (g.statement (g.expression (g.binary (Operation b.BitAnd) false (lit≤ tt) refl (g.parenthesised false false (lit≤ tt) (g.binary (Operation b.NotEqual) false (lit≤ tt) refl (g.identifier false (lit≤ tt) refl) (g.identifier false (lit≤ tt) refl))) (g.identifier false (lit≤ tt) refl)) (λ e. cc) (λ e. cc) (e.at_end refl))) g.no_source))) (record { few = lit≤ tt; low = lit≤ tt; flat = lit≤ tt; closed = lit≤ tt })

pub not_equal_below : Same Source (codes "a != b < c ; a < b != c") (codes "a != ( b < c ) ; ( a < b ) != c")
not_equal_below = same_tree Source (codes "a != b < c ; a < b != c") (codes "a != ( b < c ) ; ( a < b ) != c") (Tree.MoreStmts (Tree.Do (Tree.Binary b.NotEqual (Tree.Ident (codes "a")) (Tree.Binary b.Less (Tree.Ident (codes "b")) (Tree.Ident (codes "c"))))) (Tree.MoreStmts (Tree.Do (Tree.Binary b.NotEqual (Tree.Binary b.Less (Tree.Ident (codes "a")) (Tree.Ident (codes "b"))) (Tree.Ident (codes "c")))) Tree.NoStmts)) (name (codes "a") false ∷ mark m.NotEqual false ∷ name (codes "b") false ∷ mark m.Less false ∷ name (codes "c") false ∷ mark m.Semicolon false ∷ name (codes "a") false ∷ mark m.Less false ∷ name (codes "b") false ∷ mark m.NotEqual false ∷ name (codes "c") false ∷ []) (name (codes "a") false ∷ mark m.NotEqual false ∷ mark m.OpenParenthesis false ∷ name (codes "b") false ∷ mark m.Less false ∷ name (codes "c") false ∷ mark m.CloseParenthesis false ∷ mark m.Semicolon false ∷ mark m.OpenParenthesis false ∷ name (codes "a") false ∷ mark m.Less false ∷ name (codes "b") false ∷ mark m.CloseParenthesis false ∷ mark m.NotEqual false ∷ name (codes "c") false ∷ []) refl refl (g.source_and (g.statement (g.expression (g.binary (Operation b.NotEqual) false (lit≤ tt) refl (g.identifier false (lit≤ tt) refl) (g.binary (Operation b.Less) false (lit≤ tt) refl (g.identifier false (lit≤ tt) refl) (g.identifier false (lit≤ tt) refl))) (λ e. cc) (λ e. cc) (e.written false))) (g.source_and (g.statement (g.expression (g.binary (Operation b.NotEqual) false (lit≤ tt) refl (g.binary (Operation b.Less) false (lit≤ tt) refl (g.identifier false (lit≤ tt) refl) (g.identifier false (lit≤ tt) refl)) (g.identifier false (lit≤ tt) refl)) (λ e. cc) (λ e. cc) (e.at_end refl))) g.no_source)) (record { few = lit≤ tt; low = lit≤ tt; flat = lit≤ tt; closed = lit≤ tt }) (g.source_and (g.statement (g.expression (g.binary (Operation b.NotEqual) false (lit≤ tt) refl (g.identifier false (lit≤ tt) refl) (g.parenthesised false false (lit≤ tt) (g.binary (Operation b.Less) false (lit≤ tt) refl (g.identifier false (lit≤ tt) refl) (g.identifier false (lit≤ tt) refl)))) (λ e. cc) (λ e. cc) (e.written false))) (g.source_and (g.statement (g.expression (g.binary (Operation b.NotEqual) false (lit≤ tt) refl (g.parenthesised false false (lit≤ tt) (g.binary (Operation b.Less) false (lit≤ tt) refl (g.identifier false (lit≤ tt) refl) (g.identifier false (lit≤ tt) refl))) (g.identifier false (lit≤ tt) refl)) (λ e. cc) (λ e. cc) (e.at_end refl))) g.no_source)) (record { few = lit≤ tt; low = lit≤ tt; flat = lit≤ tt; closed = lit≤ tt })

pub strict_equal : Same Source (codes "a === b === c ; a & b === c ; a === b & c") (codes "( a === b ) === c ; a & ( b === c ) ; ( a === b ) & c")
strict_equal = same_tree Source (codes "a === b === c ; a & b === c ; a === b & c") (codes "( a === b ) === c ; a & ( b === c ) ; ( a === b ) & c") (Tree.MoreStmts (Tree.Do (Tree.Binary b.Same (Tree.Binary b.Same (Tree.Ident (codes "a")) (Tree.Ident (codes "b"))) (Tree.Ident (codes "c")))) (Tree.MoreStmts (Tree.Do (Tree.Binary b.BitAnd (Tree.Ident (codes "a")) (Tree.Binary b.Same (Tree.Ident (codes "b")) (Tree.Ident (codes "c"))))) (Tree.MoreStmts (Tree.Do (Tree.Binary b.BitAnd (Tree.Binary b.Same (Tree.Ident (codes "a")) (Tree.Ident (codes "b"))) (Tree.Ident (codes "c")))) Tree.NoStmts))) (name (codes "a") false ∷ mark m.StrictEqual false ∷ name (codes "b") false ∷ mark m.StrictEqual false ∷ name (codes "c") false ∷ mark m.Semicolon false ∷ name (codes "a") false ∷ mark m.BitAnd false ∷ name (codes "b") false ∷ mark m.StrictEqual false ∷ name (codes "c") false ∷ mark m.Semicolon false ∷ name (codes "a") false ∷ mark m.StrictEqual false ∷ name (codes "b") false ∷ mark m.BitAnd false ∷ name (codes "c") false ∷ []) (mark m.OpenParenthesis false ∷ name (codes "a") false ∷ mark m.StrictEqual false ∷ name (codes "b") false ∷ mark m.CloseParenthesis false ∷ mark m.StrictEqual false ∷ name (codes "c") false ∷ mark m.Semicolon false ∷ name (codes "a") false ∷ mark m.BitAnd false ∷ mark m.OpenParenthesis false ∷ name (codes "b") false ∷ mark m.StrictEqual false ∷ name (codes "c") false ∷ mark m.CloseParenthesis false ∷ mark m.Semicolon false ∷ mark m.OpenParenthesis false ∷ name (codes "a") false ∷ mark m.StrictEqual false ∷ name (codes "b") false ∷ mark m.CloseParenthesis false ∷ mark m.BitAnd false ∷ name (codes "c") false ∷ []) refl refl (g.source_and (g.statement (g.expression (g.binary (Operation b.Same) false (lit≤ tt) refl (g.binary (Operation b.Same) false (lit≤ tt) refl (g.identifier false (lit≤ tt) refl) (g.identifier false (lit≤ tt) refl)) (g.identifier false (lit≤ tt) refl)) (λ e. cc) (λ e. cc) (e.written false))) (g.source_and (g.statement (g.expression (g.binary (Operation b.BitAnd) false (lit≤ tt) refl (g.identifier false (lit≤ tt) refl) (g.binary (Operation b.Same) false (lit≤ tt) refl (g.identifier false (lit≤ tt) refl) (g.identifier false (lit≤ tt) refl))) (λ e. cc) (λ e. cc) (e.written false))) (g.source_and (g.statement (g.expression (g.binary (Operation b.BitAnd) false (lit≤ tt) refl (g.binary (Operation b.Same) false (lit≤ tt) refl (g.identifier false (lit≤ tt) refl) (g.identifier false (lit≤ tt) refl)) (g.identifier false (lit≤ tt) refl)) (λ e. cc) (λ e. cc) (e.at_end refl))) g.no_source))) (record { few = lit≤ tt; low = lit≤ tt; flat = lit≤ tt; closed = lit≤ tt }) (g.source_and (g.statement (g.expression (g.binary (Operation b.Same) false (lit≤ tt) refl (g.parenthesised false false (lit≤ tt) (g.binary (Operation b.Same) false (lit≤ tt) refl (g.identifier false (lit≤ tt) refl) (g.identifier false (lit≤ tt) refl))) (g.identifier false (lit≤ tt) refl)) (λ e. cc) (λ e. cc) (e.written false))) (g.source_and (g.statement (g.expression (g.binary (Operation b.BitAnd) false (lit≤ tt) refl (g.identifier false (lit≤ tt) refl) (g.parenthesised false false (lit≤ tt) (g.binary (Operation b.Same) false (lit≤ tt) refl (g.identifier false (lit≤ tt) refl) (g.identifier false (lit≤ tt) refl)))) (λ e. cc) (λ e. cc) (e.written false))) (g.source_and (g.statement (g.expression (g.binary (Operation b.BitAnd) false (lit≤ tt) refl (g.parenthesised false false (lit≤ tt) (g.binary (Operation b.Same) false (lit≤ tt) refl (g.identifier false (lit≤ tt) refl) (g.identifier false (lit≤ tt) refl))) (g.identifier false (lit≤ tt) refl)) (λ e. cc) (λ e. cc) (e.at_end refl))) g.no_source))) (record { few = lit≤ tt; low = lit≤ tt; flat = lit≤ tt; closed = lit≤ tt })

pub strict_equal_below : Same Source (codes "a === b < c ; a < b === c") (codes "a === ( b < c ) ; ( a < b ) === c")
strict_equal_below = same_tree Source (codes "a === b < c ; a < b === c") (codes "a === ( b < c ) ; ( a < b ) === c") (Tree.MoreStmts (Tree.Do (Tree.Binary b.Same (Tree.Ident (codes "a")) (Tree.Binary b.Less (Tree.Ident (codes "b")) (Tree.Ident (codes "c"))))) (Tree.MoreStmts (Tree.Do (Tree.Binary b.Same (Tree.Binary b.Less (Tree.Ident (codes "a")) (Tree.Ident (codes "b"))) (Tree.Ident (codes "c")))) Tree.NoStmts)) (name (codes "a") false ∷ mark m.StrictEqual false ∷ name (codes "b") false ∷ mark m.Less false ∷ name (codes "c") false ∷ mark m.Semicolon false ∷ name (codes "a") false ∷ mark m.Less false ∷ name (codes "b") false ∷ mark m.StrictEqual false ∷ name (codes "c") false ∷ []) (name (codes "a") false ∷ mark m.StrictEqual false ∷ mark m.OpenParenthesis false ∷ name (codes "b") false ∷ mark m.Less false ∷ name (codes "c") false ∷ mark m.CloseParenthesis false ∷ mark m.Semicolon false ∷ mark m.OpenParenthesis false ∷ name (codes "a") false ∷ mark m.Less false ∷ name (codes "b") false ∷ mark m.CloseParenthesis false ∷ mark m.StrictEqual false ∷ name (codes "c") false ∷ []) refl refl (g.source_and (g.statement (g.expression (g.binary (Operation b.Same) false (lit≤ tt) refl (g.identifier false (lit≤ tt) refl) (g.binary (Operation b.Less) false (lit≤ tt) refl (g.identifier false (lit≤ tt) refl) (g.identifier false (lit≤ tt) refl))) (λ e. cc) (λ e. cc) (e.written false))) (g.source_and (g.statement (g.expression (g.binary (Operation b.Same) false (lit≤ tt) refl (g.binary (Operation b.Less) false (lit≤ tt) refl (g.identifier false (lit≤ tt) refl) (g.identifier false (lit≤ tt) refl)) (g.identifier false (lit≤ tt) refl)) (λ e. cc) (λ e. cc) (e.at_end refl))) g.no_source)) (record { few = lit≤ tt; low = lit≤ tt; flat = lit≤ tt; closed = lit≤ tt }) (g.source_and (g.statement (g.expression (g.binary (Operation b.Same) false (lit≤ tt) refl (g.identifier false (lit≤ tt) refl) (g.parenthesised false false (lit≤ tt) (g.binary (Operation b.Less) false (lit≤ tt) refl (g.identifier false (lit≤ tt) refl) (g.identifier false (lit≤ tt) refl)))) (λ e. cc) (λ e. cc) (e.written false))) (g.source_and (g.statement (g.expression (g.binary (Operation b.Same) false (lit≤ tt) refl (g.parenthesised false false (lit≤ tt) (g.binary (Operation b.Less) false (lit≤ tt) refl (g.identifier false (lit≤ tt) refl) (g.identifier false (lit≤ tt) refl))) (g.identifier false (lit≤ tt) refl)) (λ e. cc) (λ e. cc) (e.at_end refl))) g.no_source)) (record { few = lit≤ tt; low = lit≤ tt; flat = lit≤ tt; closed = lit≤ tt })

pub strict_not_equal : Same Source (codes "a !== b !== c ; a & b !== c ; a !== b & c") (codes "( a !== b ) !== c ; a & ( b !== c ) ; ( a !== b ) & c")
strict_not_equal = same_tree Source (codes "a !== b !== c ; a & b !== c ; a !== b & c") (codes "( a !== b ) !== c ; a & ( b !== c ) ; ( a !== b ) & c") (Tree.MoreStmts (Tree.Do (Tree.Binary b.NotSame (Tree.Binary b.NotSame (Tree.Ident (codes "a")) (Tree.Ident (codes "b"))) (Tree.Ident (codes "c")))) (Tree.MoreStmts (Tree.Do (Tree.Binary b.BitAnd (Tree.Ident (codes "a")) (Tree.Binary b.NotSame (Tree.Ident (codes "b")) (Tree.Ident (codes "c"))))) (Tree.MoreStmts (Tree.Do (Tree.Binary b.BitAnd (Tree.Binary b.NotSame (Tree.Ident (codes "a")) (Tree.Ident (codes "b"))) (Tree.Ident (codes "c")))) Tree.NoStmts))) (name (codes "a") false ∷ mark m.StrictNotEqual false ∷ name (codes "b") false ∷ mark m.StrictNotEqual false ∷ name (codes "c") false ∷ mark m.Semicolon false ∷ name (codes "a") false ∷ mark m.BitAnd false ∷ name (codes "b") false ∷ mark m.StrictNotEqual false ∷ name (codes "c") false ∷ mark m.Semicolon false ∷ name (codes "a") false ∷ mark m.StrictNotEqual false ∷ name (codes "b") false ∷ mark m.BitAnd false ∷ name (codes "c") false ∷ []) (mark m.OpenParenthesis false ∷ name (codes "a") false ∷ mark m.StrictNotEqual false ∷ name (codes "b") false ∷ mark m.CloseParenthesis false ∷ mark m.StrictNotEqual false ∷ name (codes "c") false ∷ mark m.Semicolon false ∷ name (codes "a") false ∷ mark m.BitAnd false ∷ mark m.OpenParenthesis false ∷ name (codes "b") false ∷ mark m.StrictNotEqual false ∷ name (codes "c") false ∷ mark m.CloseParenthesis false ∷ mark m.Semicolon false ∷ mark m.OpenParenthesis false ∷ name (codes "a") false ∷ mark m.StrictNotEqual false ∷ name (codes "b") false ∷ mark m.CloseParenthesis false ∷ mark m.BitAnd false ∷ name (codes "c") false ∷ []) refl refl (g.source_and (g.statement (g.expression (g.binary (Operation b.NotSame) false (lit≤ tt) refl (g.binary (Operation b.NotSame) false (lit≤ tt) refl (g.identifier false (lit≤ tt) refl) (g.identifier false (lit≤ tt) refl)) (g.identifier false (lit≤ tt) refl)) (λ e. cc) (λ e. cc) (e.written false))) (g.source_and (g.statement (g.expression (g.binary (Operation b.BitAnd) false (lit≤ tt) refl (g.identifier false (lit≤ tt) refl) (g.binary (Operation b.NotSame) false (lit≤ tt) refl (g.identifier false (lit≤ tt) refl) (g.identifier false (lit≤ tt) refl))) (λ e. cc) (λ e. cc) (e.written false))) (g.source_and (g.statement (g.expression (g.binary (Operation b.BitAnd) false (lit≤ tt) refl (g.binary (Operation b.NotSame) false (lit≤ tt) refl (g.identifier false (lit≤ tt) refl) (g.identifier false (lit≤ tt) refl)) (g.identifier false (lit≤ tt) refl)) (λ e. cc) (λ e. cc) (e.at_end refl))) g.no_source))) (record { few = lit≤ tt; low = lit≤ tt; flat = lit≤ tt; closed = lit≤ tt }) (g.source_and (g.statement (g.expression (g.binary (Operation b.NotSame) false (lit≤ tt) refl (g.parenthesised false false (lit≤ tt) (g.binary (Operation b.NotSame) false (lit≤ tt) refl (g.identifier false (lit≤ tt) refl) (g.identifier false (lit≤ tt) refl))) (g.identifier false (lit≤ tt) refl)) (λ e. cc) (λ e. cc) (e.written false))) (g.source_and (g.statement (g.expression (g.binary (Operation b.BitAnd) false (lit≤ tt) refl (g.identifier false (lit≤ tt) refl) (g.parenthesised false false (lit≤ tt) (g.binary (Operation b.NotSame) false (lit≤ tt) refl (g.identifier false (lit≤ tt) refl) (g.identifier false (lit≤ tt) refl)))) (λ e. cc) (λ e. cc) (e.written false))) (g.source_and (g.statement (g.expression (g.binary (Operation b.BitAnd) false (lit≤ tt) refl (g.parenthesised false false (lit≤ tt) (g.binary (Operation b.NotSame) false (lit≤ tt) refl (g.identifier false (lit≤ tt) refl) (g.identifier false (lit≤ tt) refl))) (g.identifier false (lit≤ tt) refl)) (λ e. cc) (λ e. cc) (e.at_end refl))) g.no_source))) (record { few = lit≤ tt; low = lit≤ tt; flat = lit≤ tt; closed = lit≤ tt })

pub strict_not_equal_below : Same Source (codes "a !== b < c ; a < b !== c") (codes "a !== ( b < c ) ; ( a < b ) !== c")
strict_not_equal_below = same_tree Source (codes "a !== b < c ; a < b !== c") (codes "a !== ( b < c ) ; ( a < b ) !== c") (Tree.MoreStmts (Tree.Do (Tree.Binary b.NotSame (Tree.Ident (codes "a")) (Tree.Binary b.Less (Tree.Ident (codes "b")) (Tree.Ident (codes "c"))))) (Tree.MoreStmts (Tree.Do (Tree.Binary b.NotSame (Tree.Binary b.Less (Tree.Ident (codes "a")) (Tree.Ident (codes "b"))) (Tree.Ident (codes "c")))) Tree.NoStmts)) (name (codes "a") false ∷ mark m.StrictNotEqual false ∷ name (codes "b") false ∷ mark m.Less false ∷ name (codes "c") false ∷ mark m.Semicolon false ∷ name (codes "a") false ∷ mark m.Less false ∷ name (codes "b") false ∷ mark m.StrictNotEqual false ∷ name (codes "c") false ∷ []) (name (codes "a") false ∷ mark m.StrictNotEqual false ∷ mark m.OpenParenthesis false ∷ name (codes "b") false ∷ mark m.Less false ∷ name (codes "c") false ∷ mark m.CloseParenthesis false ∷ mark m.Semicolon false ∷ mark m.OpenParenthesis false ∷ name (codes "a") false ∷ mark m.Less false ∷ name (codes "b") false ∷ mark m.CloseParenthesis false ∷ mark m.StrictNotEqual false ∷ name (codes "c") false ∷ []) refl refl (g.source_and (g.statement (g.expression (g.binary (Operation b.NotSame) false (lit≤ tt) refl (g.identifier false (lit≤ tt) refl) (g.binary (Operation b.Less) false (lit≤ tt) refl (g.identifier false (lit≤ tt) refl) (g.identifier false (lit≤ tt) refl))) (λ e. cc) (λ e. cc) (e.written false))) (g.source_and (g.statement (g.expression (g.binary (Operation b.NotSame) false (lit≤ tt) refl (g.binary (Operation b.Less) false (lit≤ tt) refl (g.identifier false (lit≤ tt) refl) (g.identifier false (lit≤ tt) refl)) (g.identifier false (lit≤ tt) refl)) (λ e. cc) (λ e. cc) (e.at_end refl))) g.no_source)) (record { few = lit≤ tt; low = lit≤ tt; flat = lit≤ tt; closed = lit≤ tt }) (g.source_and (g.statement (g.expression (g.binary (Operation b.NotSame) false (lit≤ tt) refl (g.identifier false (lit≤ tt) refl) (g.parenthesised false false (lit≤ tt) (g.binary (Operation b.Less) false (lit≤ tt) refl (g.identifier false (lit≤ tt) refl) (g.identifier false (lit≤ tt) refl)))) (λ e. cc) (λ e. cc) (e.written false))) (g.source_and (g.statement (g.expression (g.binary (Operation b.NotSame) false (lit≤ tt) refl (g.parenthesised false false (lit≤ tt) (g.binary (Operation b.Less) false (lit≤ tt) refl (g.identifier false (lit≤ tt) refl) (g.identifier false (lit≤ tt) refl))) (g.identifier false (lit≤ tt) refl)) (λ e. cc) (λ e. cc) (e.at_end refl))) g.no_source)) (record { few = lit≤ tt; low = lit≤ tt; flat = lit≤ tt; closed = lit≤ tt })

pub less : Same Source (codes "a < b < c ; a == b < c ; a < b == c") (codes "( a < b ) < c ; a == ( b < c ) ; ( a < b ) == c")
less = same_tree Source (codes "a < b < c ; a == b < c ; a < b == c") (codes "( a < b ) < c ; a == ( b < c ) ; ( a < b ) == c") (Tree.MoreStmts (Tree.Do (Tree.Binary b.Less (Tree.Binary b.Less (Tree.Ident (codes "a")) (Tree.Ident (codes "b"))) (Tree.Ident (codes "c")))) (Tree.MoreStmts (Tree.Do (Tree.Binary b.Equal (Tree.Ident (codes "a")) (Tree.Binary b.Less (Tree.Ident (codes "b")) (Tree.Ident (codes "c"))))) (Tree.MoreStmts (Tree.Do (Tree.Binary b.Equal (Tree.Binary b.Less (Tree.Ident (codes "a")) (Tree.Ident (codes "b"))) (Tree.Ident (codes "c")))) Tree.NoStmts))) (name (codes "a") false ∷ mark m.Less false ∷ name (codes "b") false ∷ mark m.Less false ∷ name (codes "c") false ∷ mark m.Semicolon false ∷ name (codes "a") false ∷ mark m.Equal false ∷ name (codes "b") false ∷ mark m.Less false ∷ name (codes "c") false ∷ mark m.Semicolon false ∷ name (codes "a") false ∷ mark m.Less false ∷ name (codes "b") false ∷ mark m.Equal false ∷ name (codes "c") false ∷ []) (mark m.OpenParenthesis false ∷ name (codes "a") false ∷ mark m.Less false ∷ name (codes "b") false ∷ mark m.CloseParenthesis false ∷ mark m.Less false ∷ name (codes "c") false ∷ mark m.Semicolon false ∷ name (codes "a") false ∷ mark m.Equal false ∷ mark m.OpenParenthesis false ∷ name (codes "b") false ∷ mark m.Less false ∷ name (codes "c") false ∷ mark m.CloseParenthesis false ∷ mark m.Semicolon false ∷ mark m.OpenParenthesis false ∷ name (codes "a") false ∷ mark m.Less false ∷ name (codes "b") false ∷ mark m.CloseParenthesis false ∷ mark m.Equal false ∷ name (codes "c") false ∷ []) refl refl (g.source_and (g.statement (g.expression (g.binary (Operation b.Less) false (lit≤ tt) refl (g.binary (Operation b.Less) false (lit≤ tt) refl (g.identifier false (lit≤ tt) refl) (g.identifier false (lit≤ tt) refl)) (g.identifier false (lit≤ tt) refl)) (λ e. cc) (λ e. cc) (e.written false))) (g.source_and (g.statement (g.expression (g.binary (Operation b.Equal) false (lit≤ tt) refl (g.identifier false (lit≤ tt) refl) (g.binary (Operation b.Less) false (lit≤ tt) refl (g.identifier false (lit≤ tt) refl) (g.identifier false (lit≤ tt) refl))) (λ e. cc) (λ e. cc) (e.written false))) (g.source_and (g.statement (g.expression (g.binary (Operation b.Equal) false (lit≤ tt) refl (g.binary (Operation b.Less) false (lit≤ tt) refl (g.identifier false (lit≤ tt) refl) (g.identifier false (lit≤ tt) refl)) (g.identifier false (lit≤ tt) refl)) (λ e. cc) (λ e. cc) (e.at_end refl))) g.no_source))) (record { few = lit≤ tt; low = lit≤ tt; flat = lit≤ tt; closed = lit≤ tt }) (g.source_and (g.statement (g.expression (g.binary (Operation b.Less) false (lit≤ tt) refl (g.parenthesised false false (lit≤ tt) (g.binary (Operation b.Less) false (lit≤ tt) refl (g.identifier false (lit≤ tt) refl) (g.identifier false (lit≤ tt) refl))) (g.identifier false (lit≤ tt) refl)) (λ e. cc) (λ e. cc) (e.written false))) (g.source_and (g.statement (g.expression (g.binary (Operation b.Equal) false (lit≤ tt) refl (g.identifier false (lit≤ tt) refl) (g.parenthesised false false (lit≤ tt) (g.binary (Operation b.Less) false (lit≤ tt) refl (g.identifier false (lit≤ tt) refl) (g.identifier false (lit≤ tt) refl)))) (λ e. cc) (λ e. cc) (e.written false))) (g.source_and (g.statement (g.expression (g.binary (Operation b.Equal) false (lit≤ tt) refl (g.parenthesised false false (lit≤ tt) (g.binary (Operation b.Less) false (lit≤ tt) refl (g.identifier false (lit≤ tt) refl) (g.identifier false (lit≤ tt) refl))) (g.identifier false (lit≤ tt) refl)) (λ e. cc) (λ e. cc) (e.at_end refl))) g.no_source))) (record { few = lit≤ tt; low = lit≤ tt; flat = lit≤ tt; closed = lit≤ tt })

pub less_below : Same Source (codes "a < b << c ; a << b < c") (codes "a < ( b << c ) ; ( a << b ) < c")
less_below = same_tree Source (codes "a < b << c ; a << b < c") (codes "a < ( b << c ) ; ( a << b ) < c") (Tree.MoreStmts (Tree.Do (Tree.Binary b.Less (Tree.Ident (codes "a")) (Tree.Binary b.ShiftLeft (Tree.Ident (codes "b")) (Tree.Ident (codes "c"))))) (Tree.MoreStmts (Tree.Do (Tree.Binary b.Less (Tree.Binary b.ShiftLeft (Tree.Ident (codes "a")) (Tree.Ident (codes "b"))) (Tree.Ident (codes "c")))) Tree.NoStmts)) (name (codes "a") false ∷ mark m.Less false ∷ name (codes "b") false ∷ mark m.ShiftLeft false ∷ name (codes "c") false ∷ mark m.Semicolon false ∷ name (codes "a") false ∷ mark m.ShiftLeft false ∷ name (codes "b") false ∷ mark m.Less false ∷ name (codes "c") false ∷ []) (name (codes "a") false ∷ mark m.Less false ∷ mark m.OpenParenthesis false ∷ name (codes "b") false ∷ mark m.ShiftLeft false ∷ name (codes "c") false ∷ mark m.CloseParenthesis false ∷ mark m.Semicolon false ∷ mark m.OpenParenthesis false ∷ name (codes "a") false ∷ mark m.ShiftLeft false ∷ name (codes "b") false ∷ mark m.CloseParenthesis false ∷ mark m.Less false ∷ name (codes "c") false ∷ []) refl refl (g.source_and (g.statement (g.expression (g.binary (Operation b.Less) false (lit≤ tt) refl (g.identifier false (lit≤ tt) refl) (g.binary (Operation b.ShiftLeft) false (lit≤ tt) refl (g.identifier false (lit≤ tt) refl) (g.identifier false (lit≤ tt) refl))) (λ e. cc) (λ e. cc) (e.written false))) (g.source_and (g.statement (g.expression (g.binary (Operation b.Less) false (lit≤ tt) refl (g.binary (Operation b.ShiftLeft) false (lit≤ tt) refl (g.identifier false (lit≤ tt) refl) (g.identifier false (lit≤ tt) refl)) (g.identifier false (lit≤ tt) refl)) (λ e. cc) (λ e. cc) (e.at_end refl))) g.no_source)) (record { few = lit≤ tt; low = lit≤ tt; flat = lit≤ tt; closed = lit≤ tt }) (g.source_and (g.statement (g.expression (g.binary (Operation b.Less) false (lit≤ tt) refl (g.identifier false (lit≤ tt) refl) (g.parenthesised false false (lit≤ tt) (g.binary (Operation b.ShiftLeft) false (lit≤ tt) refl (g.identifier false (lit≤ tt) refl) (g.identifier false (lit≤ tt) refl)))) (λ e. cc) (λ e. cc) (e.written false))) (g.source_and (g.statement (g.expression (g.binary (Operation b.Less) false (lit≤ tt) refl (g.parenthesised false false (lit≤ tt) (g.binary (Operation b.ShiftLeft) false (lit≤ tt) refl (g.identifier false (lit≤ tt) refl) (g.identifier false (lit≤ tt) refl))) (g.identifier false (lit≤ tt) refl)) (λ e. cc) (λ e. cc) (e.at_end refl))) g.no_source)) (record { few = lit≤ tt; low = lit≤ tt; flat = lit≤ tt; closed = lit≤ tt })

pub greater : Same Source (codes "a > b > c ; a == b > c ; a > b == c") (codes "( a > b ) > c ; a == ( b > c ) ; ( a > b ) == c")
greater = same_tree Source (codes "a > b > c ; a == b > c ; a > b == c") (codes "( a > b ) > c ; a == ( b > c ) ; ( a > b ) == c") (Tree.MoreStmts (Tree.Do (Tree.Binary b.Greater (Tree.Binary b.Greater (Tree.Ident (codes "a")) (Tree.Ident (codes "b"))) (Tree.Ident (codes "c")))) (Tree.MoreStmts (Tree.Do (Tree.Binary b.Equal (Tree.Ident (codes "a")) (Tree.Binary b.Greater (Tree.Ident (codes "b")) (Tree.Ident (codes "c"))))) (Tree.MoreStmts (Tree.Do (Tree.Binary b.Equal (Tree.Binary b.Greater (Tree.Ident (codes "a")) (Tree.Ident (codes "b"))) (Tree.Ident (codes "c")))) Tree.NoStmts))) (name (codes "a") false ∷ mark m.Greater false ∷ name (codes "b") false ∷ mark m.Greater false ∷ name (codes "c") false ∷ mark m.Semicolon false ∷ name (codes "a") false ∷ mark m.Equal false ∷ name (codes "b") false ∷ mark m.Greater false ∷ name (codes "c") false ∷ mark m.Semicolon false ∷ name (codes "a") false ∷ mark m.Greater false ∷ name (codes "b") false ∷ mark m.Equal false ∷ name (codes "c") false ∷ []) (mark m.OpenParenthesis false ∷ name (codes "a") false ∷ mark m.Greater false ∷ name (codes "b") false ∷ mark m.CloseParenthesis false ∷ mark m.Greater false ∷ name (codes "c") false ∷ mark m.Semicolon false ∷ name (codes "a") false ∷ mark m.Equal false ∷ mark m.OpenParenthesis false ∷ name (codes "b") false ∷ mark m.Greater false ∷ name (codes "c") false ∷ mark m.CloseParenthesis false ∷ mark m.Semicolon false ∷ mark m.OpenParenthesis false ∷ name (codes "a") false ∷ mark m.Greater false ∷ name (codes "b") false ∷ mark m.CloseParenthesis false ∷ mark m.Equal false ∷ name (codes "c") false ∷ []) refl refl (g.source_and (g.statement (g.expression (g.binary (Operation b.Greater) false (lit≤ tt) refl (g.binary (Operation b.Greater) false (lit≤ tt) refl (g.identifier false (lit≤ tt) refl) (g.identifier false (lit≤ tt) refl)) (g.identifier false (lit≤ tt) refl)) (λ e. cc) (λ e. cc) (e.written false))) (g.source_and (g.statement (g.expression (g.binary (Operation b.Equal) false (lit≤ tt) refl (g.identifier false (lit≤ tt) refl) (g.binary (Operation b.Greater) false (lit≤ tt) refl (g.identifier false (lit≤ tt) refl) (g.identifier false (lit≤ tt) refl))) (λ e. cc) (λ e. cc) (e.written false))) (g.source_and (g.statement (g.expression (g.binary (Operation b.Equal) false (lit≤ tt) refl (g.binary (Operation b.Greater) false (lit≤ tt) refl (g.identifier false (lit≤ tt) refl) (g.identifier false (lit≤ tt) refl)) (g.identifier false (lit≤ tt) refl)) (λ e. cc) (λ e. cc) (e.at_end refl))) g.no_source))) (record { few = lit≤ tt; low = lit≤ tt; flat = lit≤ tt; closed = lit≤ tt }) (g.source_and (g.statement (g.expression (g.binary (Operation b.Greater) false (lit≤ tt) refl (g.parenthesised false false (lit≤ tt) (g.binary (Operation b.Greater) false (lit≤ tt) refl (g.identifier false (lit≤ tt) refl) (g.identifier false (lit≤ tt) refl))) (g.identifier false (lit≤ tt) refl)) (λ e. cc) (λ e. cc) (e.written false))) (g.source_and (g.statement (g.expression (g.binary (Operation b.Equal) false (lit≤ tt) refl (g.identifier false (lit≤ tt) refl) (g.parenthesised false false (lit≤ tt) (g.binary (Operation b.Greater) false (lit≤ tt) refl (g.identifier false (lit≤ tt) refl) (g.identifier false (lit≤ tt) refl)))) (λ e. cc) (λ e. cc) (e.written false))) (g.source_and (g.statement (g.expression (g.binary (Operation b.Equal) false (lit≤ tt) refl (g.parenthesised false false (lit≤ tt) (g.binary (Operation b.Greater) false (lit≤ tt) refl (g.identifier false (lit≤ tt) refl) (g.identifier false (lit≤ tt) refl))) (g.identifier false (lit≤ tt) refl)) (λ e. cc) (λ e. cc) (e.at_end refl))) g.no_source))) (record { few = lit≤ tt; low = lit≤ tt; flat = lit≤ tt; closed = lit≤ tt })

pub greater_below : Same Source (codes "a > b << c ; a << b > c") (codes "a > ( b << c ) ; ( a << b ) > c")
greater_below = same_tree Source (codes "a > b << c ; a << b > c") (codes "a > ( b << c ) ; ( a << b ) > c") (Tree.MoreStmts (Tree.Do (Tree.Binary b.Greater (Tree.Ident (codes "a")) (Tree.Binary b.ShiftLeft (Tree.Ident (codes "b")) (Tree.Ident (codes "c"))))) (Tree.MoreStmts (Tree.Do (Tree.Binary b.Greater (Tree.Binary b.ShiftLeft (Tree.Ident (codes "a")) (Tree.Ident (codes "b"))) (Tree.Ident (codes "c")))) Tree.NoStmts)) (name (codes "a") false ∷ mark m.Greater false ∷ name (codes "b") false ∷ mark m.ShiftLeft false ∷ name (codes "c") false ∷ mark m.Semicolon false ∷ name (codes "a") false ∷ mark m.ShiftLeft false ∷ name (codes "b") false ∷ mark m.Greater false ∷ name (codes "c") false ∷ []) (name (codes "a") false ∷ mark m.Greater false ∷ mark m.OpenParenthesis false ∷ name (codes "b") false ∷ mark m.ShiftLeft false ∷ name (codes "c") false ∷ mark m.CloseParenthesis false ∷ mark m.Semicolon false ∷ mark m.OpenParenthesis false ∷ name (codes "a") false ∷ mark m.ShiftLeft false ∷ name (codes "b") false ∷ mark m.CloseParenthesis false ∷ mark m.Greater false ∷ name (codes "c") false ∷ []) refl refl (g.source_and (g.statement (g.expression (g.binary (Operation b.Greater) false (lit≤ tt) refl (g.identifier false (lit≤ tt) refl) (g.binary (Operation b.ShiftLeft) false (lit≤ tt) refl (g.identifier false (lit≤ tt) refl) (g.identifier false (lit≤ tt) refl))) (λ e. cc) (λ e. cc) (e.written false))) (g.source_and (g.statement (g.expression (g.binary (Operation b.Greater) false (lit≤ tt) refl (g.binary (Operation b.ShiftLeft) false (lit≤ tt) refl (g.identifier false (lit≤ tt) refl) (g.identifier false (lit≤ tt) refl)) (g.identifier false (lit≤ tt) refl)) (λ e. cc) (λ e. cc) (e.at_end refl))) g.no_source)) (record { few = lit≤ tt; low = lit≤ tt; flat = lit≤ tt; closed = lit≤ tt }) (g.source_and (g.statement (g.expression (g.binary (Operation b.Greater) false (lit≤ tt) refl (g.identifier false (lit≤ tt) refl) (g.parenthesised false false (lit≤ tt) (g.binary (Operation b.ShiftLeft) false (lit≤ tt) refl (g.identifier false (lit≤ tt) refl) (g.identifier false (lit≤ tt) refl)))) (λ e. cc) (λ e. cc) (e.written false))) (g.source_and (g.statement (g.expression (g.binary (Operation b.Greater) false (lit≤ tt) refl (g.parenthesised false false (lit≤ tt) (g.binary (Operation b.ShiftLeft) false (lit≤ tt) refl (g.identifier false (lit≤ tt) refl) (g.identifier false (lit≤ tt) refl))) (g.identifier false (lit≤ tt) refl)) (λ e. cc) (λ e. cc) (e.at_end refl))) g.no_source)) (record { few = lit≤ tt; low = lit≤ tt; flat = lit≤ tt; closed = lit≤ tt })

pub less_equal : Same Source (codes "a <= b <= c ; a == b <= c ; a <= b == c") (codes "( a <= b ) <= c ; a == ( b <= c ) ; ( a <= b ) == c")
less_equal = same_tree Source (codes "a <= b <= c ; a == b <= c ; a <= b == c") (codes "( a <= b ) <= c ; a == ( b <= c ) ; ( a <= b ) == c") (Tree.MoreStmts (Tree.Do (Tree.Binary b.LessEqual (Tree.Binary b.LessEqual (Tree.Ident (codes "a")) (Tree.Ident (codes "b"))) (Tree.Ident (codes "c")))) (Tree.MoreStmts (Tree.Do (Tree.Binary b.Equal (Tree.Ident (codes "a")) (Tree.Binary b.LessEqual (Tree.Ident (codes "b")) (Tree.Ident (codes "c"))))) (Tree.MoreStmts (Tree.Do (Tree.Binary b.Equal (Tree.Binary b.LessEqual (Tree.Ident (codes "a")) (Tree.Ident (codes "b"))) (Tree.Ident (codes "c")))) Tree.NoStmts))) (name (codes "a") false ∷ mark m.LessEqual false ∷ name (codes "b") false ∷ mark m.LessEqual false ∷ name (codes "c") false ∷ mark m.Semicolon false ∷ name (codes "a") false ∷ mark m.Equal false ∷ name (codes "b") false ∷ mark m.LessEqual false ∷ name (codes "c") false ∷ mark m.Semicolon false ∷ name (codes "a") false ∷ mark m.LessEqual false ∷ name (codes "b") false ∷ mark m.Equal false ∷ name (codes "c") false ∷ []) (mark m.OpenParenthesis false ∷ name (codes "a") false ∷ mark m.LessEqual false ∷ name (codes "b") false ∷ mark m.CloseParenthesis false ∷ mark m.LessEqual false ∷ name (codes "c") false ∷ mark m.Semicolon false ∷ name (codes "a") false ∷ mark m.Equal false ∷ mark m.OpenParenthesis false ∷ name (codes "b") false ∷ mark m.LessEqual false ∷ name (codes "c") false ∷ mark m.CloseParenthesis false ∷ mark m.Semicolon false ∷ mark m.OpenParenthesis false ∷ name (codes "a") false ∷ mark m.LessEqual false ∷ name (codes "b") false ∷ mark m.CloseParenthesis false ∷ mark m.Equal false ∷ name (codes "c") false ∷ []) refl refl (g.source_and (g.statement (g.expression (g.binary (Operation b.LessEqual) false (lit≤ tt) refl (g.binary (Operation b.LessEqual) false (lit≤ tt) refl (g.identifier false (lit≤ tt) refl) (g.identifier false (lit≤ tt) refl)) (g.identifier false (lit≤ tt) refl)) (λ e. cc) (λ e. cc) (e.written false))) (g.source_and (g.statement (g.expression (g.binary (Operation b.Equal) false (lit≤ tt) refl (g.identifier false (lit≤ tt) refl) (g.binary (Operation b.LessEqual) false (lit≤ tt) refl (g.identifier false (lit≤ tt) refl) (g.identifier false (lit≤ tt) refl))) (λ e. cc) (λ e. cc) (e.written false))) (g.source_and (g.statement (g.expression (g.binary (Operation b.Equal) false (lit≤ tt) refl (g.binary (Operation b.LessEqual) false (lit≤ tt) refl (g.identifier false (lit≤ tt) refl) (g.identifier false (lit≤ tt) refl)) (g.identifier false (lit≤ tt) refl)) (λ e. cc) (λ e. cc) (e.at_end refl))) g.no_source))) (record { few = lit≤ tt; low = lit≤ tt; flat = lit≤ tt; closed = lit≤ tt }) (g.source_and (g.statement (g.expression (g.binary (Operation b.LessEqual) false (lit≤ tt) refl (g.parenthesised false false (lit≤ tt) (g.binary (Operation b.LessEqual) false (lit≤ tt) refl (g.identifier false (lit≤ tt) refl) (g.identifier false (lit≤ tt) refl))) (g.identifier false (lit≤ tt) refl)) (λ e. cc) (λ e. cc) (e.written false))) (g.source_and (g.statement (g.expression (g.binary (Operation b.Equal) false (lit≤ tt) refl (g.identifier false (lit≤ tt) refl) (g.parenthesised false false (lit≤ tt) (g.binary (Operation b.LessEqual) false (lit≤ tt) refl (g.identifier false (lit≤ tt) refl) (g.identifier false (lit≤ tt) refl)))) (λ e. cc) (λ e. cc) (e.written false))) (g.source_and (g.statement (g.expression (g.binary (Operation b.Equal) false (lit≤ tt) refl (g.parenthesised false false (lit≤ tt) (g.binary (Operation b.LessEqual) false (lit≤ tt) refl (g.identifier false (lit≤ tt) refl) (g.identifier false (lit≤ tt) refl))) (g.identifier false (lit≤ tt) refl)) (λ e. cc) (λ e. cc) (e.at_end refl))) g.no_source))) (record { few = lit≤ tt; low = lit≤ tt; flat = lit≤ tt; closed = lit≤ tt })

pub less_equal_below : Same Source (codes "a <= b << c ; a << b <= c") (codes "a <= ( b << c ) ; ( a << b ) <= c")
less_equal_below = same_tree Source (codes "a <= b << c ; a << b <= c") (codes "a <= ( b << c ) ; ( a << b ) <= c") (Tree.MoreStmts (Tree.Do (Tree.Binary b.LessEqual (Tree.Ident (codes "a")) (Tree.Binary b.ShiftLeft (Tree.Ident (codes "b")) (Tree.Ident (codes "c"))))) (Tree.MoreStmts (Tree.Do (Tree.Binary b.LessEqual (Tree.Binary b.ShiftLeft (Tree.Ident (codes "a")) (Tree.Ident (codes "b"))) (Tree.Ident (codes "c")))) Tree.NoStmts)) (name (codes "a") false ∷ mark m.LessEqual false ∷ name (codes "b") false ∷ mark m.ShiftLeft false ∷ name (codes "c") false ∷ mark m.Semicolon false ∷ name (codes "a") false ∷ mark m.ShiftLeft false ∷ name (codes "b") false ∷ mark m.LessEqual false ∷ name (codes "c") false ∷ []) (name (codes "a") false ∷ mark m.LessEqual false ∷ mark m.OpenParenthesis false ∷ name (codes "b") false ∷ mark m.ShiftLeft false ∷ name (codes "c") false ∷ mark m.CloseParenthesis false ∷ mark m.Semicolon false ∷ mark m.OpenParenthesis false ∷ name (codes "a") false ∷ mark m.ShiftLeft false ∷ name (codes "b") false ∷ mark m.CloseParenthesis false ∷ mark m.LessEqual false ∷ name (codes "c") false ∷ []) refl refl (g.source_and (g.statement (g.expression (g.binary (Operation b.LessEqual) false (lit≤ tt) refl (g.identifier false (lit≤ tt) refl) (g.binary (Operation b.ShiftLeft) false (lit≤ tt) refl (g.identifier false (lit≤ tt) refl) (g.identifier false (lit≤ tt) refl))) (λ e. cc) (λ e. cc) (e.written false))) (g.source_and (g.statement (g.expression (g.binary (Operation b.LessEqual) false (lit≤ tt) refl (g.binary (Operation b.ShiftLeft) false (lit≤ tt) refl (g.identifier false (lit≤ tt) refl) (g.identifier false (lit≤ tt) refl)) (g.identifier false (lit≤ tt) refl)) (λ e. cc) (λ e. cc) (e.at_end refl))) g.no_source)) (record { few = lit≤ tt; low = lit≤ tt; flat = lit≤ tt; closed = lit≤ tt }) (g.source_and (g.statement (g.expression (g.binary (Operation b.LessEqual) false (lit≤ tt) refl (g.identifier false (lit≤ tt) refl) (g.parenthesised false false (lit≤ tt) (g.binary (Operation b.ShiftLeft) false (lit≤ tt) refl (g.identifier false (lit≤ tt) refl) (g.identifier false (lit≤ tt) refl)))) (λ e. cc) (λ e. cc) (e.written false))) (g.source_and (g.statement (g.expression (g.binary (Operation b.LessEqual) false (lit≤ tt) refl (g.parenthesised false false (lit≤ tt) (g.binary (Operation b.ShiftLeft) false (lit≤ tt) refl (g.identifier false (lit≤ tt) refl) (g.identifier false (lit≤ tt) refl))) (g.identifier false (lit≤ tt) refl)) (λ e. cc) (λ e. cc) (e.at_end refl))) g.no_source)) (record { few = lit≤ tt; low = lit≤ tt; flat = lit≤ tt; closed = lit≤ tt })

pub greater_equal : Same Source (codes "a >= b >= c ; a == b >= c ; a >= b == c") (codes "( a >= b ) >= c ; a == ( b >= c ) ; ( a >= b ) == c")
greater_equal = same_tree Source (codes "a >= b >= c ; a == b >= c ; a >= b == c") (codes "( a >= b ) >= c ; a == ( b >= c ) ; ( a >= b ) == c") (Tree.MoreStmts (Tree.Do (Tree.Binary b.GreaterEqual (Tree.Binary b.GreaterEqual (Tree.Ident (codes "a")) (Tree.Ident (codes "b"))) (Tree.Ident (codes "c")))) (Tree.MoreStmts (Tree.Do (Tree.Binary b.Equal (Tree.Ident (codes "a")) (Tree.Binary b.GreaterEqual (Tree.Ident (codes "b")) (Tree.Ident (codes "c"))))) (Tree.MoreStmts (Tree.Do (Tree.Binary b.Equal (Tree.Binary b.GreaterEqual (Tree.Ident (codes "a")) (Tree.Ident (codes "b"))) (Tree.Ident (codes "c")))) Tree.NoStmts))) (name (codes "a") false ∷ mark m.GreaterEqual false ∷ name (codes "b") false ∷ mark m.GreaterEqual false ∷ name (codes "c") false ∷ mark m.Semicolon false ∷ name (codes "a") false ∷ mark m.Equal false ∷ name (codes "b") false ∷ mark m.GreaterEqual false ∷ name (codes "c") false ∷ mark m.Semicolon false ∷ name (codes "a") false ∷ mark m.GreaterEqual false ∷ name (codes "b") false ∷ mark m.Equal false ∷ name (codes "c") false ∷ []) (mark m.OpenParenthesis false ∷ name (codes "a") false ∷ mark m.GreaterEqual false ∷ name (codes "b") false ∷ mark m.CloseParenthesis false ∷ mark m.GreaterEqual false ∷ name (codes "c") false ∷ mark m.Semicolon false ∷ name (codes "a") false ∷ mark m.Equal false ∷ mark m.OpenParenthesis false ∷ name (codes "b") false ∷ mark m.GreaterEqual false ∷ name (codes "c") false ∷ mark m.CloseParenthesis false ∷ mark m.Semicolon false ∷ mark m.OpenParenthesis false ∷ name (codes "a") false ∷ mark m.GreaterEqual false ∷ name (codes "b") false ∷ mark m.CloseParenthesis false ∷ mark m.Equal false ∷ name (codes "c") false ∷ []) refl refl (g.source_and (g.statement (g.expression (g.binary (Operation b.GreaterEqual) false (lit≤ tt) refl (g.binary (Operation b.GreaterEqual) false (lit≤ tt) refl (g.identifier false (lit≤ tt) refl) (g.identifier false (lit≤ tt) refl)) (g.identifier false (lit≤ tt) refl)) (λ e. cc) (λ e. cc) (e.written false))) (g.source_and (g.statement (g.expression (g.binary (Operation b.Equal) false (lit≤ tt) refl (g.identifier false (lit≤ tt) refl) (g.binary (Operation b.GreaterEqual) false (lit≤ tt) refl (g.identifier false (lit≤ tt) refl) (g.identifier false (lit≤ tt) refl))) (λ e. cc) (λ e. cc) (e.written false))) (g.source_and (g.statement (g.expression (g.binary (Operation b.Equal) false (lit≤ tt) refl (g.binary (Operation b.GreaterEqual) false (lit≤ tt) refl (g.identifier false (lit≤ tt) refl) (g.identifier false (lit≤ tt) refl)) (g.identifier false (lit≤ tt) refl)) (λ e. cc) (λ e. cc) (e.at_end refl))) g.no_source))) (record { few = lit≤ tt; low = lit≤ tt; flat = lit≤ tt; closed = lit≤ tt }) (g.source_and (g.statement (g.expression (g.binary (Operation b.GreaterEqual) false (lit≤ tt) refl (g.parenthesised false false (lit≤ tt) (g.binary (Operation b.GreaterEqual) false (lit≤ tt) refl (g.identifier false (lit≤ tt) refl) (g.identifier false (lit≤ tt) refl))) (g.identifier false (lit≤ tt) refl)) (λ e. cc) (λ e. cc) (e.written false))) (g.source_and (g.statement (g.expression (g.binary (Operation b.Equal) false (lit≤ tt) refl (g.identifier false (lit≤ tt) refl) (g.parenthesised false false (lit≤ tt) (g.binary (Operation b.GreaterEqual) false (lit≤ tt) refl (g.identifier false (lit≤ tt) refl) (g.identifier false (lit≤ tt) refl)))) (λ e. cc) (λ e. cc) (e.written false))) (g.source_and (g.statement (g.expression (g.binary (Operation b.Equal) false (lit≤ tt) refl (g.parenthesised false false (lit≤ tt) (g.binary (Operation b.GreaterEqual) false (lit≤ tt) refl (g.identifier false (lit≤ tt) refl) (g.identifier false (lit≤ tt) refl))) (g.identifier false (lit≤ tt) refl)) (λ e. cc) (λ e. cc) (e.at_end refl))) g.no_source))) (record { few = lit≤ tt; low = lit≤ tt; flat = lit≤ tt; closed = lit≤ tt })

pub greater_equal_below : Same Source (codes "a >= b << c ; a << b >= c") (codes "a >= ( b << c ) ; ( a << b ) >= c")
greater_equal_below = same_tree Source (codes "a >= b << c ; a << b >= c") (codes "a >= ( b << c ) ; ( a << b ) >= c") (Tree.MoreStmts (Tree.Do (Tree.Binary b.GreaterEqual (Tree.Ident (codes "a")) (Tree.Binary b.ShiftLeft (Tree.Ident (codes "b")) (Tree.Ident (codes "c"))))) (Tree.MoreStmts (Tree.Do (Tree.Binary b.GreaterEqual (Tree.Binary b.ShiftLeft (Tree.Ident (codes "a")) (Tree.Ident (codes "b"))) (Tree.Ident (codes "c")))) Tree.NoStmts)) (name (codes "a") false ∷ mark m.GreaterEqual false ∷ name (codes "b") false ∷ mark m.ShiftLeft false ∷ name (codes "c") false ∷ mark m.Semicolon false ∷ name (codes "a") false ∷ mark m.ShiftLeft false ∷ name (codes "b") false ∷ mark m.GreaterEqual false ∷ name (codes "c") false ∷ []) (name (codes "a") false ∷ mark m.GreaterEqual false ∷ mark m.OpenParenthesis false ∷ name (codes "b") false ∷ mark m.ShiftLeft false ∷ name (codes "c") false ∷ mark m.CloseParenthesis false ∷ mark m.Semicolon false ∷ mark m.OpenParenthesis false ∷ name (codes "a") false ∷ mark m.ShiftLeft false ∷ name (codes "b") false ∷ mark m.CloseParenthesis false ∷ mark m.GreaterEqual false ∷ name (codes "c") false ∷ []) refl refl (g.source_and (g.statement (g.expression (g.binary (Operation b.GreaterEqual) false (lit≤ tt) refl (g.identifier false (lit≤ tt) refl) (g.binary (Operation b.ShiftLeft) false (lit≤ tt) refl (g.identifier false (lit≤ tt) refl) (g.identifier false (lit≤ tt) refl))) (λ e. cc) (λ e. cc) (e.written false))) (g.source_and (g.statement (g.expression (g.binary (Operation b.GreaterEqual) false (lit≤ tt) refl (g.binary (Operation b.ShiftLeft) false (lit≤ tt) refl (g.identifier false (lit≤ tt) refl) (g.identifier false (lit≤ tt) refl)) (g.identifier false (lit≤ tt) refl)) (λ e. cc) (λ e. cc) (e.at_end refl))) g.no_source)) (record { few = lit≤ tt; low = lit≤ tt; flat = lit≤ tt; closed = lit≤ tt }) (g.source_and (g.statement (g.expression (g.binary (Operation b.GreaterEqual) false (lit≤ tt) refl (g.identifier false (lit≤ tt) refl) (g.parenthesised false false (lit≤ tt) (g.binary (Operation b.ShiftLeft) false (lit≤ tt) refl (g.identifier false (lit≤ tt) refl) (g.identifier false (lit≤ tt) refl)))) (λ e. cc) (λ e. cc) (e.written false))) (g.source_and (g.statement (g.expression (g.binary (Operation b.GreaterEqual) false (lit≤ tt) refl (g.parenthesised false false (lit≤ tt) (g.binary (Operation b.ShiftLeft) false (lit≤ tt) refl (g.identifier false (lit≤ tt) refl) (g.identifier false (lit≤ tt) refl))) (g.identifier false (lit≤ tt) refl)) (λ e. cc) (λ e. cc) (e.at_end refl))) g.no_source)) (record { few = lit≤ tt; low = lit≤ tt; flat = lit≤ tt; closed = lit≤ tt })

pub instance_of : Same Source (codes "a instanceof b instanceof c ; a == b instanceof c ; a instanceof b == c") (codes "( a instanceof b ) instanceof c ; a == ( b instanceof c ) ; ( a instanceof b ) == c")
instance_of = same_tree Source (codes "a instanceof b instanceof c ; a == b instanceof c ; a instanceof b == c") (codes "( a instanceof b ) instanceof c ; a == ( b instanceof c ) ; ( a instanceof b ) == c") (Tree.MoreStmts (Tree.Do (Tree.Binary b.InstanceOf (Tree.Binary b.InstanceOf (Tree.Ident (codes "a")) (Tree.Ident (codes "b"))) (Tree.Ident (codes "c")))) (Tree.MoreStmts (Tree.Do (Tree.Binary b.Equal (Tree.Ident (codes "a")) (Tree.Binary b.InstanceOf (Tree.Ident (codes "b")) (Tree.Ident (codes "c"))))) (Tree.MoreStmts (Tree.Do (Tree.Binary b.Equal (Tree.Binary b.InstanceOf (Tree.Ident (codes "a")) (Tree.Ident (codes "b"))) (Tree.Ident (codes "c")))) Tree.NoStmts))) (name (codes "a") false ∷ word w.InstanceOf false ∷ name (codes "b") false ∷ word w.InstanceOf false ∷ name (codes "c") false ∷ mark m.Semicolon false ∷ name (codes "a") false ∷ mark m.Equal false ∷ name (codes "b") false ∷ word w.InstanceOf false ∷ name (codes "c") false ∷ mark m.Semicolon false ∷ name (codes "a") false ∷ word w.InstanceOf false ∷ name (codes "b") false ∷ mark m.Equal false ∷ name (codes "c") false ∷ []) (mark m.OpenParenthesis false ∷ name (codes "a") false ∷ word w.InstanceOf false ∷ name (codes "b") false ∷ mark m.CloseParenthesis false ∷ word w.InstanceOf false ∷ name (codes "c") false ∷ mark m.Semicolon false ∷ name (codes "a") false ∷ mark m.Equal false ∷ mark m.OpenParenthesis false ∷ name (codes "b") false ∷ word w.InstanceOf false ∷ name (codes "c") false ∷ mark m.CloseParenthesis false ∷ mark m.Semicolon false ∷ mark m.OpenParenthesis false ∷ name (codes "a") false ∷ word w.InstanceOf false ∷ name (codes "b") false ∷ mark m.CloseParenthesis false ∷ mark m.Equal false ∷ name (codes "c") false ∷ []) refl refl (g.source_and (g.statement (g.expression (g.binary (Operation b.InstanceOf) false (lit≤ tt) refl (g.binary (Operation b.InstanceOf) false (lit≤ tt) refl (g.identifier false (lit≤ tt) refl) (g.identifier false (lit≤ tt) refl)) (g.identifier false (lit≤ tt) refl)) (λ e. cc) (λ e. cc) (e.written false))) (g.source_and (g.statement (g.expression (g.binary (Operation b.Equal) false (lit≤ tt) refl (g.identifier false (lit≤ tt) refl) (g.binary (Operation b.InstanceOf) false (lit≤ tt) refl (g.identifier false (lit≤ tt) refl) (g.identifier false (lit≤ tt) refl))) (λ e. cc) (λ e. cc) (e.written false))) (g.source_and (g.statement (g.expression (g.binary (Operation b.Equal) false (lit≤ tt) refl (g.binary (Operation b.InstanceOf) false (lit≤ tt) refl (g.identifier false (lit≤ tt) refl) (g.identifier false (lit≤ tt) refl)) (g.identifier false (lit≤ tt) refl)) (λ e. cc) (λ e. cc) (e.at_end refl))) g.no_source))) (record { few = lit≤ tt; low = lit≤ tt; flat = lit≤ tt; closed = lit≤ tt }) (g.source_and (g.statement (g.expression (g.binary (Operation b.InstanceOf) false (lit≤ tt) refl (g.parenthesised false false (lit≤ tt) (g.binary (Operation b.InstanceOf) false (lit≤ tt) refl (g.identifier false (lit≤ tt) refl) (g.identifier false (lit≤ tt) refl))) (g.identifier false (lit≤ tt) refl)) (λ e. cc) (λ e. cc) (e.written false))) (g.source_and (g.statement (g.expression (g.binary (Operation b.Equal) false (lit≤ tt) refl (g.identifier false (lit≤ tt) refl) (g.parenthesised false false (lit≤ tt) (g.binary (Operation b.InstanceOf) false (lit≤ tt) refl (g.identifier false (lit≤ tt) refl) (g.identifier false (lit≤ tt) refl)))) (λ e. cc) (λ e. cc) (e.written false))) (g.source_and (g.statement (g.expression (g.binary (Operation b.Equal) false (lit≤ tt) refl (g.parenthesised false false (lit≤ tt) (g.binary (Operation b.InstanceOf) false (lit≤ tt) refl (g.identifier false (lit≤ tt) refl) (g.identifier false (lit≤ tt) refl))) (g.identifier false (lit≤ tt) refl)) (λ e. cc) (λ e. cc) (e.at_end refl))) g.no_source))) (record { few = lit≤ tt; low = lit≤ tt; flat = lit≤ tt; closed = lit≤ tt })

pub instance_of_below : Same Source (codes "a instanceof b << c ; a << b instanceof c") (codes "a instanceof ( b << c ) ; ( a << b ) instanceof c")
instance_of_below = same_tree Source (codes "a instanceof b << c ; a << b instanceof c") (codes "a instanceof ( b << c ) ; ( a << b ) instanceof c") (Tree.MoreStmts (Tree.Do (Tree.Binary b.InstanceOf (Tree.Ident (codes "a")) (Tree.Binary b.ShiftLeft (Tree.Ident (codes "b")) (Tree.Ident (codes "c"))))) (Tree.MoreStmts (Tree.Do (Tree.Binary b.InstanceOf (Tree.Binary b.ShiftLeft (Tree.Ident (codes "a")) (Tree.Ident (codes "b"))) (Tree.Ident (codes "c")))) Tree.NoStmts)) (name (codes "a") false ∷ word w.InstanceOf false ∷ name (codes "b") false ∷ mark m.ShiftLeft false ∷ name (codes "c") false ∷ mark m.Semicolon false ∷ name (codes "a") false ∷ mark m.ShiftLeft false ∷ name (codes "b") false ∷ word w.InstanceOf false ∷ name (codes "c") false ∷ []) (name (codes "a") false ∷ word w.InstanceOf false ∷ mark m.OpenParenthesis false ∷ name (codes "b") false ∷ mark m.ShiftLeft false ∷ name (codes "c") false ∷ mark m.CloseParenthesis false ∷ mark m.Semicolon false ∷ mark m.OpenParenthesis false ∷ name (codes "a") false ∷ mark m.ShiftLeft false ∷ name (codes "b") false ∷ mark m.CloseParenthesis false ∷ word w.InstanceOf false ∷ name (codes "c") false ∷ []) refl refl (g.source_and (g.statement (g.expression (g.binary (Operation b.InstanceOf) false (lit≤ tt) refl (g.identifier false (lit≤ tt) refl) (g.binary (Operation b.ShiftLeft) false (lit≤ tt) refl (g.identifier false (lit≤ tt) refl) (g.identifier false (lit≤ tt) refl))) (λ e. cc) (λ e. cc) (e.written false))) (g.source_and (g.statement (g.expression (g.binary (Operation b.InstanceOf) false (lit≤ tt) refl (g.binary (Operation b.ShiftLeft) false (lit≤ tt) refl (g.identifier false (lit≤ tt) refl) (g.identifier false (lit≤ tt) refl)) (g.identifier false (lit≤ tt) refl)) (λ e. cc) (λ e. cc) (e.at_end refl))) g.no_source)) (record { few = lit≤ tt; low = lit≤ tt; flat = lit≤ tt; closed = lit≤ tt }) (g.source_and (g.statement (g.expression (g.binary (Operation b.InstanceOf) false (lit≤ tt) refl (g.identifier false (lit≤ tt) refl) (g.parenthesised false false (lit≤ tt) (g.binary (Operation b.ShiftLeft) false (lit≤ tt) refl (g.identifier false (lit≤ tt) refl) (g.identifier false (lit≤ tt) refl)))) (λ e. cc) (λ e. cc) (e.written false))) (g.source_and (g.statement (g.expression (g.binary (Operation b.InstanceOf) false (lit≤ tt) refl (g.parenthesised false false (lit≤ tt) (g.binary (Operation b.ShiftLeft) false (lit≤ tt) refl (g.identifier false (lit≤ tt) refl) (g.identifier false (lit≤ tt) refl))) (g.identifier false (lit≤ tt) refl)) (λ e. cc) (λ e. cc) (e.at_end refl))) g.no_source)) (record { few = lit≤ tt; low = lit≤ tt; flat = lit≤ tt; closed = lit≤ tt })

pub within : Same Source (codes "a in b in c ; a == b in c ; a in b == c") (codes "( a in b ) in c ; a == ( b in c ) ; ( a in b ) == c")
within = same_tree Source (codes "a in b in c ; a == b in c ; a in b == c") (codes "( a in b ) in c ; a == ( b in c ) ; ( a in b ) == c") (Tree.MoreStmts (Tree.Do (Tree.Binary b.In (Tree.Binary b.In (Tree.Ident (codes "a")) (Tree.Ident (codes "b"))) (Tree.Ident (codes "c")))) (Tree.MoreStmts (Tree.Do (Tree.Binary b.Equal (Tree.Ident (codes "a")) (Tree.Binary b.In (Tree.Ident (codes "b")) (Tree.Ident (codes "c"))))) (Tree.MoreStmts (Tree.Do (Tree.Binary b.Equal (Tree.Binary b.In (Tree.Ident (codes "a")) (Tree.Ident (codes "b"))) (Tree.Ident (codes "c")))) Tree.NoStmts))) (name (codes "a") false ∷ word w.In false ∷ name (codes "b") false ∷ word w.In false ∷ name (codes "c") false ∷ mark m.Semicolon false ∷ name (codes "a") false ∷ mark m.Equal false ∷ name (codes "b") false ∷ word w.In false ∷ name (codes "c") false ∷ mark m.Semicolon false ∷ name (codes "a") false ∷ word w.In false ∷ name (codes "b") false ∷ mark m.Equal false ∷ name (codes "c") false ∷ []) (mark m.OpenParenthesis false ∷ name (codes "a") false ∷ word w.In false ∷ name (codes "b") false ∷ mark m.CloseParenthesis false ∷ word w.In false ∷ name (codes "c") false ∷ mark m.Semicolon false ∷ name (codes "a") false ∷ mark m.Equal false ∷ mark m.OpenParenthesis false ∷ name (codes "b") false ∷ word w.In false ∷ name (codes "c") false ∷ mark m.CloseParenthesis false ∷ mark m.Semicolon false ∷ mark m.OpenParenthesis false ∷ name (codes "a") false ∷ word w.In false ∷ name (codes "b") false ∷ mark m.CloseParenthesis false ∷ mark m.Equal false ∷ name (codes "c") false ∷ []) refl refl (g.source_and (g.statement (g.expression (g.binary (Operation b.In) false (lit≤ tt) refl (g.binary (Operation b.In) false (lit≤ tt) refl (g.identifier false (lit≤ tt) refl) (g.identifier false (lit≤ tt) refl)) (g.identifier false (lit≤ tt) refl)) (λ e. cc) (λ e. cc) (e.written false))) (g.source_and (g.statement (g.expression (g.binary (Operation b.Equal) false (lit≤ tt) refl (g.identifier false (lit≤ tt) refl) (g.binary (Operation b.In) false (lit≤ tt) refl (g.identifier false (lit≤ tt) refl) (g.identifier false (lit≤ tt) refl))) (λ e. cc) (λ e. cc) (e.written false))) (g.source_and (g.statement (g.expression (g.binary (Operation b.Equal) false (lit≤ tt) refl (g.binary (Operation b.In) false (lit≤ tt) refl (g.identifier false (lit≤ tt) refl) (g.identifier false (lit≤ tt) refl)) (g.identifier false (lit≤ tt) refl)) (λ e. cc) (λ e. cc) (e.at_end refl))) g.no_source))) (record { few = lit≤ tt; low = lit≤ tt; flat = lit≤ tt; closed = lit≤ tt }) (g.source_and (g.statement (g.expression (g.binary (Operation b.In) false (lit≤ tt) refl (g.parenthesised false false (lit≤ tt) (g.binary (Operation b.In) false (lit≤ tt) refl (g.identifier false (lit≤ tt) refl) (g.identifier false (lit≤ tt) refl))) (g.identifier false (lit≤ tt) refl)) (λ e. cc) (λ e. cc) (e.written false))) (g.source_and (g.statement (g.expression (g.binary (Operation b.Equal) false (lit≤ tt) refl (g.identifier false (lit≤ tt) refl) (g.parenthesised false false (lit≤ tt) (g.binary (Operation b.In) false (lit≤ tt) refl (g.identifier false (lit≤ tt) refl) (g.identifier false (lit≤ tt) refl)))) (λ e. cc) (λ e. cc) (e.written false))) (g.source_and (g.statement (g.expression (g.binary (Operation b.Equal) false (lit≤ tt) refl (g.parenthesised false false (lit≤ tt) (g.binary (Operation b.In) false (lit≤ tt) refl (g.identifier false (lit≤ tt) refl) (g.identifier false (lit≤ tt) refl))) (g.identifier false (lit≤ tt) refl)) (λ e. cc) (λ e. cc) (e.at_end refl))) g.no_source))) (record { few = lit≤ tt; low = lit≤ tt; flat = lit≤ tt; closed = lit≤ tt })

pub within_below : Same Source (codes "a in b << c ; a << b in c") (codes "a in ( b << c ) ; ( a << b ) in c")
within_below = same_tree Source (codes "a in b << c ; a << b in c") (codes "a in ( b << c ) ; ( a << b ) in c") (Tree.MoreStmts (Tree.Do (Tree.Binary b.In (Tree.Ident (codes "a")) (Tree.Binary b.ShiftLeft (Tree.Ident (codes "b")) (Tree.Ident (codes "c"))))) (Tree.MoreStmts (Tree.Do (Tree.Binary b.In (Tree.Binary b.ShiftLeft (Tree.Ident (codes "a")) (Tree.Ident (codes "b"))) (Tree.Ident (codes "c")))) Tree.NoStmts)) (name (codes "a") false ∷ word w.In false ∷ name (codes "b") false ∷ mark m.ShiftLeft false ∷ name (codes "c") false ∷ mark m.Semicolon false ∷ name (codes "a") false ∷ mark m.ShiftLeft false ∷ name (codes "b") false ∷ word w.In false ∷ name (codes "c") false ∷ []) (name (codes "a") false ∷ word w.In false ∷ mark m.OpenParenthesis false ∷ name (codes "b") false ∷ mark m.ShiftLeft false ∷ name (codes "c") false ∷ mark m.CloseParenthesis false ∷ mark m.Semicolon false ∷ mark m.OpenParenthesis false ∷ name (codes "a") false ∷ mark m.ShiftLeft false ∷ name (codes "b") false ∷ mark m.CloseParenthesis false ∷ word w.In false ∷ name (codes "c") false ∷ []) refl refl (g.source_and (g.statement (g.expression (g.binary (Operation b.In) false (lit≤ tt) refl (g.identifier false (lit≤ tt) refl) (g.binary (Operation b.ShiftLeft) false (lit≤ tt) refl (g.identifier false (lit≤ tt) refl) (g.identifier false (lit≤ tt) refl))) (λ e. cc) (λ e. cc) (e.written false))) (g.source_and (g.statement (g.expression (g.binary (Operation b.In) false (lit≤ tt) refl (g.binary (Operation b.ShiftLeft) false (lit≤ tt) refl (g.identifier false (lit≤ tt) refl) (g.identifier false (lit≤ tt) refl)) (g.identifier false (lit≤ tt) refl)) (λ e. cc) (λ e. cc) (e.at_end refl))) g.no_source)) (record { few = lit≤ tt; low = lit≤ tt; flat = lit≤ tt; closed = lit≤ tt }) (g.source_and (g.statement (g.expression (g.binary (Operation b.In) false (lit≤ tt) refl (g.identifier false (lit≤ tt) refl) (g.parenthesised false false (lit≤ tt) (g.binary (Operation b.ShiftLeft) false (lit≤ tt) refl (g.identifier false (lit≤ tt) refl) (g.identifier false (lit≤ tt) refl)))) (λ e. cc) (λ e. cc) (e.written false))) (g.source_and (g.statement (g.expression (g.binary (Operation b.In) false (lit≤ tt) refl (g.parenthesised false false (lit≤ tt) (g.binary (Operation b.ShiftLeft) false (lit≤ tt) refl (g.identifier false (lit≤ tt) refl) (g.identifier false (lit≤ tt) refl))) (g.identifier false (lit≤ tt) refl)) (λ e. cc) (λ e. cc) (e.at_end refl))) g.no_source)) (record { few = lit≤ tt; low = lit≤ tt; flat = lit≤ tt; closed = lit≤ tt })

pub shift_left : Same Source (codes "a << b << c ; a < b << c ; a << b < c") (codes "( a << b ) << c ; a < ( b << c ) ; ( a << b ) < c")
shift_left = same_tree Source (codes "a << b << c ; a < b << c ; a << b < c") (codes "( a << b ) << c ; a < ( b << c ) ; ( a << b ) < c") (Tree.MoreStmts (Tree.Do (Tree.Binary b.ShiftLeft (Tree.Binary b.ShiftLeft (Tree.Ident (codes "a")) (Tree.Ident (codes "b"))) (Tree.Ident (codes "c")))) (Tree.MoreStmts (Tree.Do (Tree.Binary b.Less (Tree.Ident (codes "a")) (Tree.Binary b.ShiftLeft (Tree.Ident (codes "b")) (Tree.Ident (codes "c"))))) (Tree.MoreStmts (Tree.Do (Tree.Binary b.Less (Tree.Binary b.ShiftLeft (Tree.Ident (codes "a")) (Tree.Ident (codes "b"))) (Tree.Ident (codes "c")))) Tree.NoStmts))) (name (codes "a") false ∷ mark m.ShiftLeft false ∷ name (codes "b") false ∷ mark m.ShiftLeft false ∷ name (codes "c") false ∷ mark m.Semicolon false ∷ name (codes "a") false ∷ mark m.Less false ∷ name (codes "b") false ∷ mark m.ShiftLeft false ∷ name (codes "c") false ∷ mark m.Semicolon false ∷ name (codes "a") false ∷ mark m.ShiftLeft false ∷ name (codes "b") false ∷ mark m.Less false ∷ name (codes "c") false ∷ []) (mark m.OpenParenthesis false ∷ name (codes "a") false ∷ mark m.ShiftLeft false ∷ name (codes "b") false ∷ mark m.CloseParenthesis false ∷ mark m.ShiftLeft false ∷ name (codes "c") false ∷ mark m.Semicolon false ∷ name (codes "a") false ∷ mark m.Less false ∷ mark m.OpenParenthesis false ∷ name (codes "b") false ∷ mark m.ShiftLeft false ∷ name (codes "c") false ∷ mark m.CloseParenthesis false ∷ mark m.Semicolon false ∷ mark m.OpenParenthesis false ∷ name (codes "a") false ∷ mark m.ShiftLeft false ∷ name (codes "b") false ∷ mark m.CloseParenthesis false ∷ mark m.Less false ∷ name (codes "c") false ∷ []) refl refl (g.source_and (g.statement (g.expression (g.binary (Operation b.ShiftLeft) false (lit≤ tt) refl (g.binary (Operation b.ShiftLeft) false (lit≤ tt) refl (g.identifier false (lit≤ tt) refl) (g.identifier false (lit≤ tt) refl)) (g.identifier false (lit≤ tt) refl)) (λ e. cc) (λ e. cc) (e.written false))) (g.source_and (g.statement (g.expression (g.binary (Operation b.Less) false (lit≤ tt) refl (g.identifier false (lit≤ tt) refl) (g.binary (Operation b.ShiftLeft) false (lit≤ tt) refl (g.identifier false (lit≤ tt) refl) (g.identifier false (lit≤ tt) refl))) (λ e. cc) (λ e. cc) (e.written false))) (g.source_and (g.statement (g.expression (g.binary (Operation b.Less) false (lit≤ tt) refl (g.binary (Operation b.ShiftLeft) false (lit≤ tt) refl (g.identifier false (lit≤ tt) refl) (g.identifier false (lit≤ tt) refl)) (g.identifier false (lit≤ tt) refl)) (λ e. cc) (λ e. cc) (e.at_end refl))) g.no_source))) (record { few = lit≤ tt; low = lit≤ tt; flat = lit≤ tt; closed = lit≤ tt }) (g.source_and (g.statement (g.expression (g.binary (Operation b.ShiftLeft) false (lit≤ tt) refl (g.parenthesised false false (lit≤ tt) (g.binary (Operation b.ShiftLeft) false (lit≤ tt) refl (g.identifier false (lit≤ tt) refl) (g.identifier false (lit≤ tt) refl))) (g.identifier false (lit≤ tt) refl)) (λ e. cc) (λ e. cc) (e.written false))) (g.source_and (g.statement (g.expression (g.binary (Operation b.Less) false (lit≤ tt) refl (g.identifier false (lit≤ tt) refl) (g.parenthesised false false (lit≤ tt) (g.binary (Operation b.ShiftLeft) false (lit≤ tt) refl (g.identifier false (lit≤ tt) refl) (g.identifier false (lit≤ tt) refl)))) (λ e. cc) (λ e. cc) (e.written false))) (g.source_and (g.statement (g.expression (g.binary (Operation b.Less) false (lit≤ tt) refl (g.parenthesised false false (lit≤ tt) (g.binary (Operation b.ShiftLeft) false (lit≤ tt) refl (g.identifier false (lit≤ tt) refl) (g.identifier false (lit≤ tt) refl))) (g.identifier false (lit≤ tt) refl)) (λ e. cc) (λ e. cc) (e.at_end refl))) g.no_source))) (record { few = lit≤ tt; low = lit≤ tt; flat = lit≤ tt; closed = lit≤ tt })

pub shift_left_below : Same Source (codes "a << b + c ; a + b << c") (codes "a << ( b + c ) ; ( a + b ) << c")
shift_left_below = same_tree Source (codes "a << b + c ; a + b << c") (codes "a << ( b + c ) ; ( a + b ) << c") (Tree.MoreStmts (Tree.Do (Tree.Binary b.ShiftLeft (Tree.Ident (codes "a")) (Tree.Binary b.Add (Tree.Ident (codes "b")) (Tree.Ident (codes "c"))))) (Tree.MoreStmts (Tree.Do (Tree.Binary b.ShiftLeft (Tree.Binary b.Add (Tree.Ident (codes "a")) (Tree.Ident (codes "b"))) (Tree.Ident (codes "c")))) Tree.NoStmts)) (name (codes "a") false ∷ mark m.ShiftLeft false ∷ name (codes "b") false ∷ mark m.Plus false ∷ name (codes "c") false ∷ mark m.Semicolon false ∷ name (codes "a") false ∷ mark m.Plus false ∷ name (codes "b") false ∷ mark m.ShiftLeft false ∷ name (codes "c") false ∷ []) (name (codes "a") false ∷ mark m.ShiftLeft false ∷ mark m.OpenParenthesis false ∷ name (codes "b") false ∷ mark m.Plus false ∷ name (codes "c") false ∷ mark m.CloseParenthesis false ∷ mark m.Semicolon false ∷ mark m.OpenParenthesis false ∷ name (codes "a") false ∷ mark m.Plus false ∷ name (codes "b") false ∷ mark m.CloseParenthesis false ∷ mark m.ShiftLeft false ∷ name (codes "c") false ∷ []) refl refl (g.source_and (g.statement (g.expression (g.binary (Operation b.ShiftLeft) false (lit≤ tt) refl (g.identifier false (lit≤ tt) refl) (g.binary (Operation b.Add) false (lit≤ tt) refl (g.identifier false (lit≤ tt) refl) (g.identifier false (lit≤ tt) refl))) (λ e. cc) (λ e. cc) (e.written false))) (g.source_and (g.statement (g.expression (g.binary (Operation b.ShiftLeft) false (lit≤ tt) refl (g.binary (Operation b.Add) false (lit≤ tt) refl (g.identifier false (lit≤ tt) refl) (g.identifier false (lit≤ tt) refl)) (g.identifier false (lit≤ tt) refl)) (λ e. cc) (λ e. cc) (e.at_end refl))) g.no_source)) (record { few = lit≤ tt; low = lit≤ tt; flat = lit≤ tt; closed = lit≤ tt }) (g.source_and (g.statement (g.expression (g.binary (Operation b.ShiftLeft) false (lit≤ tt) refl (g.identifier false (lit≤ tt) refl) (g.parenthesised false false (lit≤ tt) (g.binary (Operation b.Add) false (lit≤ tt) refl (g.identifier false (lit≤ tt) refl) (g.identifier false (lit≤ tt) refl)))) (λ e. cc) (λ e. cc) (e.written false))) (g.source_and (g.statement (g.expression (g.binary (Operation b.ShiftLeft) false (lit≤ tt) refl (g.parenthesised false false (lit≤ tt) (g.binary (Operation b.Add) false (lit≤ tt) refl (g.identifier false (lit≤ tt) refl) (g.identifier false (lit≤ tt) refl))) (g.identifier false (lit≤ tt) refl)) (λ e. cc) (λ e. cc) (e.at_end refl))) g.no_source)) (record { few = lit≤ tt; low = lit≤ tt; flat = lit≤ tt; closed = lit≤ tt })

pub shift_right : Same Source (codes "a >> b >> c ; a < b >> c ; a >> b < c") (codes "( a >> b ) >> c ; a < ( b >> c ) ; ( a >> b ) < c")
shift_right = same_tree Source (codes "a >> b >> c ; a < b >> c ; a >> b < c") (codes "( a >> b ) >> c ; a < ( b >> c ) ; ( a >> b ) < c") (Tree.MoreStmts (Tree.Do (Tree.Binary b.ShiftRight (Tree.Binary b.ShiftRight (Tree.Ident (codes "a")) (Tree.Ident (codes "b"))) (Tree.Ident (codes "c")))) (Tree.MoreStmts (Tree.Do (Tree.Binary b.Less (Tree.Ident (codes "a")) (Tree.Binary b.ShiftRight (Tree.Ident (codes "b")) (Tree.Ident (codes "c"))))) (Tree.MoreStmts (Tree.Do (Tree.Binary b.Less (Tree.Binary b.ShiftRight (Tree.Ident (codes "a")) (Tree.Ident (codes "b"))) (Tree.Ident (codes "c")))) Tree.NoStmts))) (name (codes "a") false ∷ mark m.ShiftRight false ∷ name (codes "b") false ∷ mark m.ShiftRight false ∷ name (codes "c") false ∷ mark m.Semicolon false ∷ name (codes "a") false ∷ mark m.Less false ∷ name (codes "b") false ∷ mark m.ShiftRight false ∷ name (codes "c") false ∷ mark m.Semicolon false ∷ name (codes "a") false ∷ mark m.ShiftRight false ∷ name (codes "b") false ∷ mark m.Less false ∷ name (codes "c") false ∷ []) (mark m.OpenParenthesis false ∷ name (codes "a") false ∷ mark m.ShiftRight false ∷ name (codes "b") false ∷ mark m.CloseParenthesis false ∷ mark m.ShiftRight false ∷ name (codes "c") false ∷ mark m.Semicolon false ∷ name (codes "a") false ∷ mark m.Less false ∷ mark m.OpenParenthesis false ∷ name (codes "b") false ∷ mark m.ShiftRight false ∷ name (codes "c") false ∷ mark m.CloseParenthesis false ∷ mark m.Semicolon false ∷ mark m.OpenParenthesis false ∷ name (codes "a") false ∷ mark m.ShiftRight false ∷ name (codes "b") false ∷ mark m.CloseParenthesis false ∷ mark m.Less false ∷ name (codes "c") false ∷ []) refl refl (g.source_and (g.statement (g.expression (g.binary (Operation b.ShiftRight) false (lit≤ tt) refl (g.binary (Operation b.ShiftRight) false (lit≤ tt) refl (g.identifier false (lit≤ tt) refl) (g.identifier false (lit≤ tt) refl)) (g.identifier false (lit≤ tt) refl)) (λ e. cc) (λ e. cc) (e.written false))) (g.source_and (g.statement (g.expression (g.binary (Operation b.Less) false (lit≤ tt) refl (g.identifier false (lit≤ tt) refl) (g.binary (Operation b.ShiftRight) false (lit≤ tt) refl (g.identifier false (lit≤ tt) refl) (g.identifier false (lit≤ tt) refl))) (λ e. cc) (λ e. cc) (e.written false))) (g.source_and (g.statement (g.expression (g.binary (Operation b.Less) false (lit≤ tt) refl (g.binary (Operation b.ShiftRight) false (lit≤ tt) refl (g.identifier false (lit≤ tt) refl) (g.identifier false (lit≤ tt) refl)) (g.identifier false (lit≤ tt) refl)) (λ e. cc) (λ e. cc) (e.at_end refl))) g.no_source))) (record { few = lit≤ tt; low = lit≤ tt; flat = lit≤ tt; closed = lit≤ tt }) (g.source_and (g.statement (g.expression (g.binary (Operation b.ShiftRight) false (lit≤ tt) refl (g.parenthesised false false (lit≤ tt) (g.binary (Operation b.ShiftRight) false (lit≤ tt) refl (g.identifier false (lit≤ tt) refl) (g.identifier false (lit≤ tt) refl))) (g.identifier false (lit≤ tt) refl)) (λ e. cc) (λ e. cc) (e.written false))) (g.source_and (g.statement (g.expression (g.binary (Operation b.Less) false (lit≤ tt) refl (g.identifier false (lit≤ tt) refl) (g.parenthesised false false (lit≤ tt) (g.binary (Operation b.ShiftRight) false (lit≤ tt) refl (g.identifier false (lit≤ tt) refl) (g.identifier false (lit≤ tt) refl)))) (λ e. cc) (λ e. cc) (e.written false))) (g.source_and (g.statement (g.expression (g.binary (Operation b.Less) false (lit≤ tt) refl (g.parenthesised false false (lit≤ tt) (g.binary (Operation b.ShiftRight) false (lit≤ tt) refl (g.identifier false (lit≤ tt) refl) (g.identifier false (lit≤ tt) refl))) (g.identifier false (lit≤ tt) refl)) (λ e. cc) (λ e. cc) (e.at_end refl))) g.no_source))) (record { few = lit≤ tt; low = lit≤ tt; flat = lit≤ tt; closed = lit≤ tt })

pub shift_right_below : Same Source (codes "a >> b + c ; a + b >> c") (codes "a >> ( b + c ) ; ( a + b ) >> c")
shift_right_below = same_tree Source (codes "a >> b + c ; a + b >> c") (codes "a >> ( b + c ) ; ( a + b ) >> c") (Tree.MoreStmts (Tree.Do (Tree.Binary b.ShiftRight (Tree.Ident (codes "a")) (Tree.Binary b.Add (Tree.Ident (codes "b")) (Tree.Ident (codes "c"))))) (Tree.MoreStmts (Tree.Do (Tree.Binary b.ShiftRight (Tree.Binary b.Add (Tree.Ident (codes "a")) (Tree.Ident (codes "b"))) (Tree.Ident (codes "c")))) Tree.NoStmts)) (name (codes "a") false ∷ mark m.ShiftRight false ∷ name (codes "b") false ∷ mark m.Plus false ∷ name (codes "c") false ∷ mark m.Semicolon false ∷ name (codes "a") false ∷ mark m.Plus false ∷ name (codes "b") false ∷ mark m.ShiftRight false ∷ name (codes "c") false ∷ []) (name (codes "a") false ∷ mark m.ShiftRight false ∷ mark m.OpenParenthesis false ∷ name (codes "b") false ∷ mark m.Plus false ∷ name (codes "c") false ∷ mark m.CloseParenthesis false ∷ mark m.Semicolon false ∷ mark m.OpenParenthesis false ∷ name (codes "a") false ∷ mark m.Plus false ∷ name (codes "b") false ∷ mark m.CloseParenthesis false ∷ mark m.ShiftRight false ∷ name (codes "c") false ∷ []) refl refl (g.source_and (g.statement (g.expression (g.binary (Operation b.ShiftRight) false (lit≤ tt) refl (g.identifier false (lit≤ tt) refl) (g.binary (Operation b.Add) false (lit≤ tt) refl (g.identifier false (lit≤ tt) refl) (g.identifier false (lit≤ tt) refl))) (λ e. cc) (λ e. cc) (e.written false))) (g.source_and (g.statement (g.expression (g.binary (Operation b.ShiftRight) false (lit≤ tt) refl (g.binary (Operation b.Add) false (lit≤ tt) refl (g.identifier false (lit≤ tt) refl) (g.identifier false (lit≤ tt) refl)) (g.identifier false (lit≤ tt) refl)) (λ e. cc) (λ e. cc) (e.at_end refl))) g.no_source)) (record { few = lit≤ tt; low = lit≤ tt; flat = lit≤ tt; closed = lit≤ tt }) (g.source_and (g.statement (g.expression (g.binary (Operation b.ShiftRight) false (lit≤ tt) refl (g.identifier false (lit≤ tt) refl) (g.parenthesised false false (lit≤ tt) (g.binary (Operation b.Add) false (lit≤ tt) refl (g.identifier false (lit≤ tt) refl) (g.identifier false (lit≤ tt) refl)))) (λ e. cc) (λ e. cc) (e.written false))) (g.source_and (g.statement (g.expression (g.binary (Operation b.ShiftRight) false (lit≤ tt) refl (g.parenthesised false false (lit≤ tt) (g.binary (Operation b.Add) false (lit≤ tt) refl (g.identifier false (lit≤ tt) refl) (g.identifier false (lit≤ tt) refl))) (g.identifier false (lit≤ tt) refl)) (λ e. cc) (λ e. cc) (e.at_end refl))) g.no_source)) (record { few = lit≤ tt; low = lit≤ tt; flat = lit≤ tt; closed = lit≤ tt })

pub shift_right_unsigned : Same Source (codes "a >>> b >>> c ; a < b >>> c ; a >>> b < c") (codes "( a >>> b ) >>> c ; a < ( b >>> c ) ; ( a >>> b ) < c")
shift_right_unsigned = same_tree Source (codes "a >>> b >>> c ; a < b >>> c ; a >>> b < c") (codes "( a >>> b ) >>> c ; a < ( b >>> c ) ; ( a >>> b ) < c") (Tree.MoreStmts (Tree.Do (Tree.Binary b.ShiftRightUnsigned (Tree.Binary b.ShiftRightUnsigned (Tree.Ident (codes "a")) (Tree.Ident (codes "b"))) (Tree.Ident (codes "c")))) (Tree.MoreStmts (Tree.Do (Tree.Binary b.Less (Tree.Ident (codes "a")) (Tree.Binary b.ShiftRightUnsigned (Tree.Ident (codes "b")) (Tree.Ident (codes "c"))))) (Tree.MoreStmts (Tree.Do (Tree.Binary b.Less (Tree.Binary b.ShiftRightUnsigned (Tree.Ident (codes "a")) (Tree.Ident (codes "b"))) (Tree.Ident (codes "c")))) Tree.NoStmts))) (name (codes "a") false ∷ mark m.ShiftRightUnsigned false ∷ name (codes "b") false ∷ mark m.ShiftRightUnsigned false ∷ name (codes "c") false ∷ mark m.Semicolon false ∷ name (codes "a") false ∷ mark m.Less false ∷ name (codes "b") false ∷ mark m.ShiftRightUnsigned false ∷ name (codes "c") false ∷ mark m.Semicolon false ∷ name (codes "a") false ∷ mark m.ShiftRightUnsigned false ∷ name (codes "b") false ∷ mark m.Less false ∷ name (codes "c") false ∷ []) (mark m.OpenParenthesis false ∷ name (codes "a") false ∷ mark m.ShiftRightUnsigned false ∷ name (codes "b") false ∷ mark m.CloseParenthesis false ∷ mark m.ShiftRightUnsigned false ∷ name (codes "c") false ∷ mark m.Semicolon false ∷ name (codes "a") false ∷ mark m.Less false ∷ mark m.OpenParenthesis false ∷ name (codes "b") false ∷ mark m.ShiftRightUnsigned false ∷ name (codes "c") false ∷ mark m.CloseParenthesis false ∷ mark m.Semicolon false ∷ mark m.OpenParenthesis false ∷ name (codes "a") false ∷ mark m.ShiftRightUnsigned false ∷ name (codes "b") false ∷ mark m.CloseParenthesis false ∷ mark m.Less false ∷ name (codes "c") false ∷ []) refl refl (g.source_and (g.statement (g.expression (g.binary (Operation b.ShiftRightUnsigned) false (lit≤ tt) refl (g.binary (Operation b.ShiftRightUnsigned) false (lit≤ tt) refl (g.identifier false (lit≤ tt) refl) (g.identifier false (lit≤ tt) refl)) (g.identifier false (lit≤ tt) refl)) (λ e. cc) (λ e. cc) (e.written false))) (g.source_and (g.statement (g.expression (g.binary (Operation b.Less) false (lit≤ tt) refl (g.identifier false (lit≤ tt) refl) (g.binary (Operation b.ShiftRightUnsigned) false (lit≤ tt) refl (g.identifier false (lit≤ tt) refl) (g.identifier false (lit≤ tt) refl))) (λ e. cc) (λ e. cc) (e.written false))) (g.source_and (g.statement (g.expression (g.binary (Operation b.Less) false (lit≤ tt) refl (g.binary (Operation b.ShiftRightUnsigned) false (lit≤ tt) refl (g.identifier false (lit≤ tt) refl) (g.identifier false (lit≤ tt) refl)) (g.identifier false (lit≤ tt) refl)) (λ e. cc) (λ e. cc) (e.at_end refl))) g.no_source))) (record { few = lit≤ tt; low = lit≤ tt; flat = lit≤ tt; closed = lit≤ tt }) (g.source_and (g.statement (g.expression (g.binary (Operation b.ShiftRightUnsigned) false (lit≤ tt) refl (g.parenthesised false false (lit≤ tt) (g.binary (Operation b.ShiftRightUnsigned) false (lit≤ tt) refl (g.identifier false (lit≤ tt) refl) (g.identifier false (lit≤ tt) refl))) (g.identifier false (lit≤ tt) refl)) (λ e. cc) (λ e. cc) (e.written false))) (g.source_and (g.statement (g.expression (g.binary (Operation b.Less) false (lit≤ tt) refl (g.identifier false (lit≤ tt) refl) (g.parenthesised false false (lit≤ tt) (g.binary (Operation b.ShiftRightUnsigned) false (lit≤ tt) refl (g.identifier false (lit≤ tt) refl) (g.identifier false (lit≤ tt) refl)))) (λ e. cc) (λ e. cc) (e.written false))) (g.source_and (g.statement (g.expression (g.binary (Operation b.Less) false (lit≤ tt) refl (g.parenthesised false false (lit≤ tt) (g.binary (Operation b.ShiftRightUnsigned) false (lit≤ tt) refl (g.identifier false (lit≤ tt) refl) (g.identifier false (lit≤ tt) refl))) (g.identifier false (lit≤ tt) refl)) (λ e. cc) (λ e. cc) (e.at_end refl))) g.no_source))) (record { few = lit≤ tt; low = lit≤ tt; flat = lit≤ tt; closed = lit≤ tt })

pub shift_right_unsigned_below : Same Source (codes "a >>> b + c ; a + b >>> c") (codes "a >>> ( b + c ) ; ( a + b ) >>> c")
shift_right_unsigned_below = same_tree Source (codes "a >>> b + c ; a + b >>> c") (codes "a >>> ( b + c ) ; ( a + b ) >>> c") (Tree.MoreStmts (Tree.Do (Tree.Binary b.ShiftRightUnsigned (Tree.Ident (codes "a")) (Tree.Binary b.Add (Tree.Ident (codes "b")) (Tree.Ident (codes "c"))))) (Tree.MoreStmts (Tree.Do (Tree.Binary b.ShiftRightUnsigned (Tree.Binary b.Add (Tree.Ident (codes "a")) (Tree.Ident (codes "b"))) (Tree.Ident (codes "c")))) Tree.NoStmts)) (name (codes "a") false ∷ mark m.ShiftRightUnsigned false ∷ name (codes "b") false ∷ mark m.Plus false ∷ name (codes "c") false ∷ mark m.Semicolon false ∷ name (codes "a") false ∷ mark m.Plus false ∷ name (codes "b") false ∷ mark m.ShiftRightUnsigned false ∷ name (codes "c") false ∷ []) (name (codes "a") false ∷ mark m.ShiftRightUnsigned false ∷ mark m.OpenParenthesis false ∷ name (codes "b") false ∷ mark m.Plus false ∷ name (codes "c") false ∷ mark m.CloseParenthesis false ∷ mark m.Semicolon false ∷ mark m.OpenParenthesis false ∷ name (codes "a") false ∷ mark m.Plus false ∷ name (codes "b") false ∷ mark m.CloseParenthesis false ∷ mark m.ShiftRightUnsigned false ∷ name (codes "c") false ∷ []) refl refl (g.source_and (g.statement (g.expression (g.binary (Operation b.ShiftRightUnsigned) false (lit≤ tt) refl (g.identifier false (lit≤ tt) refl) (g.binary (Operation b.Add) false (lit≤ tt) refl (g.identifier false (lit≤ tt) refl) (g.identifier false (lit≤ tt) refl))) (λ e. cc) (λ e. cc) (e.written false))) (g.source_and (g.statement (g.expression (g.binary (Operation b.ShiftRightUnsigned) false (lit≤ tt) refl (g.binary (Operation b.Add) false (lit≤ tt) refl (g.identifier false (lit≤ tt) refl) (g.identifier false (lit≤ tt) refl)) (g.identifier false (lit≤ tt) refl)) (λ e. cc) (λ e. cc) (e.at_end refl))) g.no_source)) (record { few = lit≤ tt; low = lit≤ tt; flat = lit≤ tt; closed = lit≤ tt }) (g.source_and (g.statement (g.expression (g.binary (Operation b.ShiftRightUnsigned) false (lit≤ tt) refl (g.identifier false (lit≤ tt) refl) (g.parenthesised false false (lit≤ tt) (g.binary (Operation b.Add) false (lit≤ tt) refl (g.identifier false (lit≤ tt) refl) (g.identifier false (lit≤ tt) refl)))) (λ e. cc) (λ e. cc) (e.written false))) (g.source_and (g.statement (g.expression (g.binary (Operation b.ShiftRightUnsigned) false (lit≤ tt) refl (g.parenthesised false false (lit≤ tt) (g.binary (Operation b.Add) false (lit≤ tt) refl (g.identifier false (lit≤ tt) refl) (g.identifier false (lit≤ tt) refl))) (g.identifier false (lit≤ tt) refl)) (λ e. cc) (λ e. cc) (e.at_end refl))) g.no_source)) (record { few = lit≤ tt; low = lit≤ tt; flat = lit≤ tt; closed = lit≤ tt })

pub plus : Same Source (codes "a + b + c ; a << b + c ; a + b << c") (codes "( a + b ) + c ; a << ( b + c ) ; ( a + b ) << c")
plus = same_tree Source (codes "a + b + c ; a << b + c ; a + b << c") (codes "( a + b ) + c ; a << ( b + c ) ; ( a + b ) << c") (Tree.MoreStmts (Tree.Do (Tree.Binary b.Add (Tree.Binary b.Add (Tree.Ident (codes "a")) (Tree.Ident (codes "b"))) (Tree.Ident (codes "c")))) (Tree.MoreStmts (Tree.Do (Tree.Binary b.ShiftLeft (Tree.Ident (codes "a")) (Tree.Binary b.Add (Tree.Ident (codes "b")) (Tree.Ident (codes "c"))))) (Tree.MoreStmts (Tree.Do (Tree.Binary b.ShiftLeft (Tree.Binary b.Add (Tree.Ident (codes "a")) (Tree.Ident (codes "b"))) (Tree.Ident (codes "c")))) Tree.NoStmts))) (name (codes "a") false ∷ mark m.Plus false ∷ name (codes "b") false ∷ mark m.Plus false ∷ name (codes "c") false ∷ mark m.Semicolon false ∷ name (codes "a") false ∷ mark m.ShiftLeft false ∷ name (codes "b") false ∷ mark m.Plus false ∷ name (codes "c") false ∷ mark m.Semicolon false ∷ name (codes "a") false ∷ mark m.Plus false ∷ name (codes "b") false ∷ mark m.ShiftLeft false ∷ name (codes "c") false ∷ []) (mark m.OpenParenthesis false ∷ name (codes "a") false ∷ mark m.Plus false ∷ name (codes "b") false ∷ mark m.CloseParenthesis false ∷ mark m.Plus false ∷ name (codes "c") false ∷ mark m.Semicolon false ∷ name (codes "a") false ∷ mark m.ShiftLeft false ∷ mark m.OpenParenthesis false ∷ name (codes "b") false ∷ mark m.Plus false ∷ name (codes "c") false ∷ mark m.CloseParenthesis false ∷ mark m.Semicolon false ∷ mark m.OpenParenthesis false ∷ name (codes "a") false ∷ mark m.Plus false ∷ name (codes "b") false ∷ mark m.CloseParenthesis false ∷ mark m.ShiftLeft false ∷ name (codes "c") false ∷ []) refl refl (g.source_and (g.statement (g.expression (g.binary (Operation b.Add) false (lit≤ tt) refl (g.binary (Operation b.Add) false (lit≤ tt) refl (g.identifier false (lit≤ tt) refl) (g.identifier false (lit≤ tt) refl)) (g.identifier false (lit≤ tt) refl)) (λ e. cc) (λ e. cc) (e.written false))) (g.source_and (g.statement (g.expression (g.binary (Operation b.ShiftLeft) false (lit≤ tt) refl (g.identifier false (lit≤ tt) refl) (g.binary (Operation b.Add) false (lit≤ tt) refl (g.identifier false (lit≤ tt) refl) (g.identifier false (lit≤ tt) refl))) (λ e. cc) (λ e. cc) (e.written false))) (g.source_and (g.statement (g.expression (g.binary (Operation b.ShiftLeft) false (lit≤ tt) refl (g.binary (Operation b.Add) false (lit≤ tt) refl (g.identifier false (lit≤ tt) refl) (g.identifier false (lit≤ tt) refl)) (g.identifier false (lit≤ tt) refl)) (λ e. cc) (λ e. cc) (e.at_end refl))) g.no_source))) (record { few = lit≤ tt; low = lit≤ tt; flat = lit≤ tt; closed = lit≤ tt }) (g.source_and (g.statement (g.expression (g.binary (Operation b.Add) false (lit≤ tt) refl (g.parenthesised false false (lit≤ tt) (g.binary (Operation b.Add) false (lit≤ tt) refl (g.identifier false (lit≤ tt) refl) (g.identifier false (lit≤ tt) refl))) (g.identifier false (lit≤ tt) refl)) (λ e. cc) (λ e. cc) (e.written false))) (g.source_and (g.statement (g.expression (g.binary (Operation b.ShiftLeft) false (lit≤ tt) refl (g.identifier false (lit≤ tt) refl) (g.parenthesised false false (lit≤ tt) (g.binary (Operation b.Add) false (lit≤ tt) refl (g.identifier false (lit≤ tt) refl) (g.identifier false (lit≤ tt) refl)))) (λ e. cc) (λ e. cc) (e.written false))) (g.source_and (g.statement (g.expression (g.binary (Operation b.ShiftLeft) false (lit≤ tt) refl (g.parenthesised false false (lit≤ tt) (g.binary (Operation b.Add) false (lit≤ tt) refl (g.identifier false (lit≤ tt) refl) (g.identifier false (lit≤ tt) refl))) (g.identifier false (lit≤ tt) refl)) (λ e. cc) (λ e. cc) (e.at_end refl))) g.no_source))) (record { few = lit≤ tt; low = lit≤ tt; flat = lit≤ tt; closed = lit≤ tt })

pub plus_below : Same Source (codes "a + b * c ; a * b + c") (codes "a + ( b * c ) ; ( a * b ) + c")
plus_below = same_tree Source (codes "a + b * c ; a * b + c") (codes "a + ( b * c ) ; ( a * b ) + c") (Tree.MoreStmts (Tree.Do (Tree.Binary b.Add (Tree.Ident (codes "a")) (Tree.Binary b.Multiply (Tree.Ident (codes "b")) (Tree.Ident (codes "c"))))) (Tree.MoreStmts (Tree.Do (Tree.Binary b.Add (Tree.Binary b.Multiply (Tree.Ident (codes "a")) (Tree.Ident (codes "b"))) (Tree.Ident (codes "c")))) Tree.NoStmts)) (name (codes "a") false ∷ mark m.Plus false ∷ name (codes "b") false ∷ mark m.Times false ∷ name (codes "c") false ∷ mark m.Semicolon false ∷ name (codes "a") false ∷ mark m.Times false ∷ name (codes "b") false ∷ mark m.Plus false ∷ name (codes "c") false ∷ []) (name (codes "a") false ∷ mark m.Plus false ∷ mark m.OpenParenthesis false ∷ name (codes "b") false ∷ mark m.Times false ∷ name (codes "c") false ∷ mark m.CloseParenthesis false ∷ mark m.Semicolon false ∷ mark m.OpenParenthesis false ∷ name (codes "a") false ∷ mark m.Times false ∷ name (codes "b") false ∷ mark m.CloseParenthesis false ∷ mark m.Plus false ∷ name (codes "c") false ∷ []) refl refl (g.source_and (g.statement (g.expression (g.binary (Operation b.Add) false (lit≤ tt) refl (g.identifier false (lit≤ tt) refl) (g.binary (Operation b.Multiply) false (lit≤ tt) refl (g.identifier false (lit≤ tt) refl) (g.identifier false (lit≤ tt) refl))) (λ e. cc) (λ e. cc) (e.written false))) (g.source_and (g.statement (g.expression (g.binary (Operation b.Add) false (lit≤ tt) refl (g.binary (Operation b.Multiply) false (lit≤ tt) refl (g.identifier false (lit≤ tt) refl) (g.identifier false (lit≤ tt) refl)) (g.identifier false (lit≤ tt) refl)) (λ e. cc) (λ e. cc) (e.at_end refl))) g.no_source)) (record { few = lit≤ tt; low = lit≤ tt; flat = lit≤ tt; closed = lit≤ tt }) (g.source_and (g.statement (g.expression (g.binary (Operation b.Add) false (lit≤ tt) refl (g.identifier false (lit≤ tt) refl) (g.parenthesised false false (lit≤ tt) (g.binary (Operation b.Multiply) false (lit≤ tt) refl (g.identifier false (lit≤ tt) refl) (g.identifier false (lit≤ tt) refl)))) (λ e. cc) (λ e. cc) (e.written false))) (g.source_and (g.statement (g.expression (g.binary (Operation b.Add) false (lit≤ tt) refl (g.parenthesised false false (lit≤ tt) (g.binary (Operation b.Multiply) false (lit≤ tt) refl (g.identifier false (lit≤ tt) refl) (g.identifier false (lit≤ tt) refl))) (g.identifier false (lit≤ tt) refl)) (λ e. cc) (λ e. cc) (e.at_end refl))) g.no_source)) (record { few = lit≤ tt; low = lit≤ tt; flat = lit≤ tt; closed = lit≤ tt })

pub minus : Same Source (codes "a - b - c ; a << b - c ; a - b << c") (codes "( a - b ) - c ; a << ( b - c ) ; ( a - b ) << c")
minus = same_tree Source (codes "a - b - c ; a << b - c ; a - b << c") (codes "( a - b ) - c ; a << ( b - c ) ; ( a - b ) << c") (Tree.MoreStmts (Tree.Do (Tree.Binary b.Subtract (Tree.Binary b.Subtract (Tree.Ident (codes "a")) (Tree.Ident (codes "b"))) (Tree.Ident (codes "c")))) (Tree.MoreStmts (Tree.Do (Tree.Binary b.ShiftLeft (Tree.Ident (codes "a")) (Tree.Binary b.Subtract (Tree.Ident (codes "b")) (Tree.Ident (codes "c"))))) (Tree.MoreStmts (Tree.Do (Tree.Binary b.ShiftLeft (Tree.Binary b.Subtract (Tree.Ident (codes "a")) (Tree.Ident (codes "b"))) (Tree.Ident (codes "c")))) Tree.NoStmts))) (name (codes "a") false ∷ mark m.Minus false ∷ name (codes "b") false ∷ mark m.Minus false ∷ name (codes "c") false ∷ mark m.Semicolon false ∷ name (codes "a") false ∷ mark m.ShiftLeft false ∷ name (codes "b") false ∷ mark m.Minus false ∷ name (codes "c") false ∷ mark m.Semicolon false ∷ name (codes "a") false ∷ mark m.Minus false ∷ name (codes "b") false ∷ mark m.ShiftLeft false ∷ name (codes "c") false ∷ []) (mark m.OpenParenthesis false ∷ name (codes "a") false ∷ mark m.Minus false ∷ name (codes "b") false ∷ mark m.CloseParenthesis false ∷ mark m.Minus false ∷ name (codes "c") false ∷ mark m.Semicolon false ∷ name (codes "a") false ∷ mark m.ShiftLeft false ∷ mark m.OpenParenthesis false ∷ name (codes "b") false ∷ mark m.Minus false ∷ name (codes "c") false ∷ mark m.CloseParenthesis false ∷ mark m.Semicolon false ∷ mark m.OpenParenthesis false ∷ name (codes "a") false ∷ mark m.Minus false ∷ name (codes "b") false ∷ mark m.CloseParenthesis false ∷ mark m.ShiftLeft false ∷ name (codes "c") false ∷ []) refl refl (g.source_and (g.statement (g.expression (g.binary (Operation b.Subtract) false (lit≤ tt) refl (g.binary (Operation b.Subtract) false (lit≤ tt) refl (g.identifier false (lit≤ tt) refl) (g.identifier false (lit≤ tt) refl)) (g.identifier false (lit≤ tt) refl)) (λ e. cc) (λ e. cc) (e.written false))) (g.source_and (g.statement (g.expression (g.binary (Operation b.ShiftLeft) false (lit≤ tt) refl (g.identifier false (lit≤ tt) refl) (g.binary (Operation b.Subtract) false (lit≤ tt) refl (g.identifier false (lit≤ tt) refl) (g.identifier false (lit≤ tt) refl))) (λ e. cc) (λ e. cc) (e.written false))) (g.source_and (g.statement (g.expression (g.binary (Operation b.ShiftLeft) false (lit≤ tt) refl (g.binary (Operation b.Subtract) false (lit≤ tt) refl (g.identifier false (lit≤ tt) refl) (g.identifier false (lit≤ tt) refl)) (g.identifier false (lit≤ tt) refl)) (λ e. cc) (λ e. cc) (e.at_end refl))) g.no_source))) (record { few = lit≤ tt; low = lit≤ tt; flat = lit≤ tt; closed = lit≤ tt }) (g.source_and (g.statement (g.expression (g.binary (Operation b.Subtract) false (lit≤ tt) refl (g.parenthesised false false (lit≤ tt) (g.binary (Operation b.Subtract) false (lit≤ tt) refl (g.identifier false (lit≤ tt) refl) (g.identifier false (lit≤ tt) refl))) (g.identifier false (lit≤ tt) refl)) (λ e. cc) (λ e. cc) (e.written false))) (g.source_and (g.statement (g.expression (g.binary (Operation b.ShiftLeft) false (lit≤ tt) refl (g.identifier false (lit≤ tt) refl) (g.parenthesised false false (lit≤ tt) (g.binary (Operation b.Subtract) false (lit≤ tt) refl (g.identifier false (lit≤ tt) refl) (g.identifier false (lit≤ tt) refl)))) (λ e. cc) (λ e. cc) (e.written false))) (g.source_and (g.statement (g.expression (g.binary (Operation b.ShiftLeft) false (lit≤ tt) refl (g.parenthesised false false (lit≤ tt) (g.binary (Operation b.Subtract) false (lit≤ tt) refl (g.identifier false (lit≤ tt) refl) (g.identifier false (lit≤ tt) refl))) (g.identifier false (lit≤ tt) refl)) (λ e. cc) (λ e. cc) (e.at_end refl))) g.no_source))) (record { few = lit≤ tt; low = lit≤ tt; flat = lit≤ tt; closed = lit≤ tt })

pub minus_below : Same Source (codes "a - b * c ; a * b - c") (codes "a - ( b * c ) ; ( a * b ) - c")
minus_below = same_tree Source (codes "a - b * c ; a * b - c") (codes "a - ( b * c ) ; ( a * b ) - c") (Tree.MoreStmts (Tree.Do (Tree.Binary b.Subtract (Tree.Ident (codes "a")) (Tree.Binary b.Multiply (Tree.Ident (codes "b")) (Tree.Ident (codes "c"))))) (Tree.MoreStmts (Tree.Do (Tree.Binary b.Subtract (Tree.Binary b.Multiply (Tree.Ident (codes "a")) (Tree.Ident (codes "b"))) (Tree.Ident (codes "c")))) Tree.NoStmts)) (name (codes "a") false ∷ mark m.Minus false ∷ name (codes "b") false ∷ mark m.Times false ∷ name (codes "c") false ∷ mark m.Semicolon false ∷ name (codes "a") false ∷ mark m.Times false ∷ name (codes "b") false ∷ mark m.Minus false ∷ name (codes "c") false ∷ []) (name (codes "a") false ∷ mark m.Minus false ∷ mark m.OpenParenthesis false ∷ name (codes "b") false ∷ mark m.Times false ∷ name (codes "c") false ∷ mark m.CloseParenthesis false ∷ mark m.Semicolon false ∷ mark m.OpenParenthesis false ∷ name (codes "a") false ∷ mark m.Times false ∷ name (codes "b") false ∷ mark m.CloseParenthesis false ∷ mark m.Minus false ∷ name (codes "c") false ∷ []) refl refl (g.source_and (g.statement (g.expression (g.binary (Operation b.Subtract) false (lit≤ tt) refl (g.identifier false (lit≤ tt) refl) (g.binary (Operation b.Multiply) false (lit≤ tt) refl (g.identifier false (lit≤ tt) refl) (g.identifier false (lit≤ tt) refl))) (λ e. cc) (λ e. cc) (e.written false))) (g.source_and (g.statement (g.expression (g.binary (Operation b.Subtract) false (lit≤ tt) refl (g.binary (Operation b.Multiply) false (lit≤ tt) refl (g.identifier false (lit≤ tt) refl) (g.identifier false (lit≤ tt) refl)) (g.identifier false (lit≤ tt) refl)) (λ e. cc) (λ e. cc) (e.at_end refl))) g.no_source)) (record { few = lit≤ tt; low = lit≤ tt; flat = lit≤ tt; closed = lit≤ tt }) (g.source_and (g.statement (g.expression (g.binary (Operation b.Subtract) false (lit≤ tt) refl (g.identifier false (lit≤ tt) refl) (g.parenthesised false false (lit≤ tt) (g.binary (Operation b.Multiply) false (lit≤ tt) refl (g.identifier false (lit≤ tt) refl) (g.identifier false (lit≤ tt) refl)))) (λ e. cc) (λ e. cc) (e.written false))) (g.source_and (g.statement (g.expression (g.binary (Operation b.Subtract) false (lit≤ tt) refl (g.parenthesised false false (lit≤ tt) (g.binary (Operation b.Multiply) false (lit≤ tt) refl (g.identifier false (lit≤ tt) refl) (g.identifier false (lit≤ tt) refl))) (g.identifier false (lit≤ tt) refl)) (λ e. cc) (λ e. cc) (e.at_end refl))) g.no_source)) (record { few = lit≤ tt; low = lit≤ tt; flat = lit≤ tt; closed = lit≤ tt })

pub times : Same Source (codes "a * b * c ; a + b * c ; a * b + c") (codes "( a * b ) * c ; a + ( b * c ) ; ( a * b ) + c")
times = same_tree Source (codes "a * b * c ; a + b * c ; a * b + c") (codes "( a * b ) * c ; a + ( b * c ) ; ( a * b ) + c") (Tree.MoreStmts (Tree.Do (Tree.Binary b.Multiply (Tree.Binary b.Multiply (Tree.Ident (codes "a")) (Tree.Ident (codes "b"))) (Tree.Ident (codes "c")))) (Tree.MoreStmts (Tree.Do (Tree.Binary b.Add (Tree.Ident (codes "a")) (Tree.Binary b.Multiply (Tree.Ident (codes "b")) (Tree.Ident (codes "c"))))) (Tree.MoreStmts (Tree.Do (Tree.Binary b.Add (Tree.Binary b.Multiply (Tree.Ident (codes "a")) (Tree.Ident (codes "b"))) (Tree.Ident (codes "c")))) Tree.NoStmts))) (name (codes "a") false ∷ mark m.Times false ∷ name (codes "b") false ∷ mark m.Times false ∷ name (codes "c") false ∷ mark m.Semicolon false ∷ name (codes "a") false ∷ mark m.Plus false ∷ name (codes "b") false ∷ mark m.Times false ∷ name (codes "c") false ∷ mark m.Semicolon false ∷ name (codes "a") false ∷ mark m.Times false ∷ name (codes "b") false ∷ mark m.Plus false ∷ name (codes "c") false ∷ []) (mark m.OpenParenthesis false ∷ name (codes "a") false ∷ mark m.Times false ∷ name (codes "b") false ∷ mark m.CloseParenthesis false ∷ mark m.Times false ∷ name (codes "c") false ∷ mark m.Semicolon false ∷ name (codes "a") false ∷ mark m.Plus false ∷ mark m.OpenParenthesis false ∷ name (codes "b") false ∷ mark m.Times false ∷ name (codes "c") false ∷ mark m.CloseParenthesis false ∷ mark m.Semicolon false ∷ mark m.OpenParenthesis false ∷ name (codes "a") false ∷ mark m.Times false ∷ name (codes "b") false ∷ mark m.CloseParenthesis false ∷ mark m.Plus false ∷ name (codes "c") false ∷ []) refl refl (g.source_and (g.statement (g.expression (g.binary (Operation b.Multiply) false (lit≤ tt) refl (g.binary (Operation b.Multiply) false (lit≤ tt) refl (g.identifier false (lit≤ tt) refl) (g.identifier false (lit≤ tt) refl)) (g.identifier false (lit≤ tt) refl)) (λ e. cc) (λ e. cc) (e.written false))) (g.source_and (g.statement (g.expression (g.binary (Operation b.Add) false (lit≤ tt) refl (g.identifier false (lit≤ tt) refl) (g.binary (Operation b.Multiply) false (lit≤ tt) refl (g.identifier false (lit≤ tt) refl) (g.identifier false (lit≤ tt) refl))) (λ e. cc) (λ e. cc) (e.written false))) (g.source_and (g.statement (g.expression (g.binary (Operation b.Add) false (lit≤ tt) refl (g.binary (Operation b.Multiply) false (lit≤ tt) refl (g.identifier false (lit≤ tt) refl) (g.identifier false (lit≤ tt) refl)) (g.identifier false (lit≤ tt) refl)) (λ e. cc) (λ e. cc) (e.at_end refl))) g.no_source))) (record { few = lit≤ tt; low = lit≤ tt; flat = lit≤ tt; closed = lit≤ tt }) (g.source_and (g.statement (g.expression (g.binary (Operation b.Multiply) false (lit≤ tt) refl (g.parenthesised false false (lit≤ tt) (g.binary (Operation b.Multiply) false (lit≤ tt) refl (g.identifier false (lit≤ tt) refl) (g.identifier false (lit≤ tt) refl))) (g.identifier false (lit≤ tt) refl)) (λ e. cc) (λ e. cc) (e.written false))) (g.source_and (g.statement (g.expression (g.binary (Operation b.Add) false (lit≤ tt) refl (g.identifier false (lit≤ tt) refl) (g.parenthesised false false (lit≤ tt) (g.binary (Operation b.Multiply) false (lit≤ tt) refl (g.identifier false (lit≤ tt) refl) (g.identifier false (lit≤ tt) refl)))) (λ e. cc) (λ e. cc) (e.written false))) (g.source_and (g.statement (g.expression (g.binary (Operation b.Add) false (lit≤ tt) refl (g.parenthesised false false (lit≤ tt) (g.binary (Operation b.Multiply) false (lit≤ tt) refl (g.identifier false (lit≤ tt) refl) (g.identifier false (lit≤ tt) refl))) (g.identifier false (lit≤ tt) refl)) (λ e. cc) (λ e. cc) (e.at_end refl))) g.no_source))) (record { few = lit≤ tt; low = lit≤ tt; flat = lit≤ tt; closed = lit≤ tt })

pub slash : Same Source (codes "a / b / c ; a + b / c ; a / b + c") (codes "( a / b ) / c ; a + ( b / c ) ; ( a / b ) + c")
slash = same_tree Source (codes "a / b / c ; a + b / c ; a / b + c") (codes "( a / b ) / c ; a + ( b / c ) ; ( a / b ) + c") (Tree.MoreStmts (Tree.Do (Tree.Binary b.Divide (Tree.Binary b.Divide (Tree.Ident (codes "a")) (Tree.Ident (codes "b"))) (Tree.Ident (codes "c")))) (Tree.MoreStmts (Tree.Do (Tree.Binary b.Add (Tree.Ident (codes "a")) (Tree.Binary b.Divide (Tree.Ident (codes "b")) (Tree.Ident (codes "c"))))) (Tree.MoreStmts (Tree.Do (Tree.Binary b.Add (Tree.Binary b.Divide (Tree.Ident (codes "a")) (Tree.Ident (codes "b"))) (Tree.Ident (codes "c")))) Tree.NoStmts))) (name (codes "a") false ∷ mark m.Slash false ∷ name (codes "b") false ∷ mark m.Slash false ∷ name (codes "c") false ∷ mark m.Semicolon false ∷ name (codes "a") false ∷ mark m.Plus false ∷ name (codes "b") false ∷ mark m.Slash false ∷ name (codes "c") false ∷ mark m.Semicolon false ∷ name (codes "a") false ∷ mark m.Slash false ∷ name (codes "b") false ∷ mark m.Plus false ∷ name (codes "c") false ∷ []) (mark m.OpenParenthesis false ∷ name (codes "a") false ∷ mark m.Slash false ∷ name (codes "b") false ∷ mark m.CloseParenthesis false ∷ mark m.Slash false ∷ name (codes "c") false ∷ mark m.Semicolon false ∷ name (codes "a") false ∷ mark m.Plus false ∷ mark m.OpenParenthesis false ∷ name (codes "b") false ∷ mark m.Slash false ∷ name (codes "c") false ∷ mark m.CloseParenthesis false ∷ mark m.Semicolon false ∷ mark m.OpenParenthesis false ∷ name (codes "a") false ∷ mark m.Slash false ∷ name (codes "b") false ∷ mark m.CloseParenthesis false ∷ mark m.Plus false ∷ name (codes "c") false ∷ []) refl refl (g.source_and (g.statement (g.expression (g.binary (Operation b.Divide) false (lit≤ tt) refl (g.binary (Operation b.Divide) false (lit≤ tt) refl (g.identifier false (lit≤ tt) refl) (g.identifier false (lit≤ tt) refl)) (g.identifier false (lit≤ tt) refl)) (λ e. cc) (λ e. cc) (e.written false))) (g.source_and (g.statement (g.expression (g.binary (Operation b.Add) false (lit≤ tt) refl (g.identifier false (lit≤ tt) refl) (g.binary (Operation b.Divide) false (lit≤ tt) refl (g.identifier false (lit≤ tt) refl) (g.identifier false (lit≤ tt) refl))) (λ e. cc) (λ e. cc) (e.written false))) (g.source_and (g.statement (g.expression (g.binary (Operation b.Add) false (lit≤ tt) refl (g.binary (Operation b.Divide) false (lit≤ tt) refl (g.identifier false (lit≤ tt) refl) (g.identifier false (lit≤ tt) refl)) (g.identifier false (lit≤ tt) refl)) (λ e. cc) (λ e. cc) (e.at_end refl))) g.no_source))) (record { few = lit≤ tt; low = lit≤ tt; flat = lit≤ tt; closed = lit≤ tt }) (g.source_and (g.statement (g.expression (g.binary (Operation b.Divide) false (lit≤ tt) refl (g.parenthesised false false (lit≤ tt) (g.binary (Operation b.Divide) false (lit≤ tt) refl (g.identifier false (lit≤ tt) refl) (g.identifier false (lit≤ tt) refl))) (g.identifier false (lit≤ tt) refl)) (λ e. cc) (λ e. cc) (e.written false))) (g.source_and (g.statement (g.expression (g.binary (Operation b.Add) false (lit≤ tt) refl (g.identifier false (lit≤ tt) refl) (g.parenthesised false false (lit≤ tt) (g.binary (Operation b.Divide) false (lit≤ tt) refl (g.identifier false (lit≤ tt) refl) (g.identifier false (lit≤ tt) refl)))) (λ e. cc) (λ e. cc) (e.written false))) (g.source_and (g.statement (g.expression (g.binary (Operation b.Add) false (lit≤ tt) refl (g.parenthesised false false (lit≤ tt) (g.binary (Operation b.Divide) false (lit≤ tt) refl (g.identifier false (lit≤ tt) refl) (g.identifier false (lit≤ tt) refl))) (g.identifier false (lit≤ tt) refl)) (λ e. cc) (λ e. cc) (e.at_end refl))) g.no_source))) (record { few = lit≤ tt; low = lit≤ tt; flat = lit≤ tt; closed = lit≤ tt })

pub percent : Same Source (codes "a % b % c ; a + b % c ; a % b + c") (codes "( a % b ) % c ; a + ( b % c ) ; ( a % b ) + c")
percent = same_tree Source (codes "a % b % c ; a + b % c ; a % b + c") (codes "( a % b ) % c ; a + ( b % c ) ; ( a % b ) + c") (Tree.MoreStmts (Tree.Do (Tree.Binary b.Remainder (Tree.Binary b.Remainder (Tree.Ident (codes "a")) (Tree.Ident (codes "b"))) (Tree.Ident (codes "c")))) (Tree.MoreStmts (Tree.Do (Tree.Binary b.Add (Tree.Ident (codes "a")) (Tree.Binary b.Remainder (Tree.Ident (codes "b")) (Tree.Ident (codes "c"))))) (Tree.MoreStmts (Tree.Do (Tree.Binary b.Add (Tree.Binary b.Remainder (Tree.Ident (codes "a")) (Tree.Ident (codes "b"))) (Tree.Ident (codes "c")))) Tree.NoStmts))) (name (codes "a") false ∷ mark m.Percent false ∷ name (codes "b") false ∷ mark m.Percent false ∷ name (codes "c") false ∷ mark m.Semicolon false ∷ name (codes "a") false ∷ mark m.Plus false ∷ name (codes "b") false ∷ mark m.Percent false ∷ name (codes "c") false ∷ mark m.Semicolon false ∷ name (codes "a") false ∷ mark m.Percent false ∷ name (codes "b") false ∷ mark m.Plus false ∷ name (codes "c") false ∷ []) (mark m.OpenParenthesis false ∷ name (codes "a") false ∷ mark m.Percent false ∷ name (codes "b") false ∷ mark m.CloseParenthesis false ∷ mark m.Percent false ∷ name (codes "c") false ∷ mark m.Semicolon false ∷ name (codes "a") false ∷ mark m.Plus false ∷ mark m.OpenParenthesis false ∷ name (codes "b") false ∷ mark m.Percent false ∷ name (codes "c") false ∷ mark m.CloseParenthesis false ∷ mark m.Semicolon false ∷ mark m.OpenParenthesis false ∷ name (codes "a") false ∷ mark m.Percent false ∷ name (codes "b") false ∷ mark m.CloseParenthesis false ∷ mark m.Plus false ∷ name (codes "c") false ∷ []) refl refl (g.source_and (g.statement (g.expression (g.binary (Operation b.Remainder) false (lit≤ tt) refl (g.binary (Operation b.Remainder) false (lit≤ tt) refl (g.identifier false (lit≤ tt) refl) (g.identifier false (lit≤ tt) refl)) (g.identifier false (lit≤ tt) refl)) (λ e. cc) (λ e. cc) (e.written false))) (g.source_and (g.statement (g.expression (g.binary (Operation b.Add) false (lit≤ tt) refl (g.identifier false (lit≤ tt) refl) (g.binary (Operation b.Remainder) false (lit≤ tt) refl (g.identifier false (lit≤ tt) refl) (g.identifier false (lit≤ tt) refl))) (λ e. cc) (λ e. cc) (e.written false))) (g.source_and (g.statement (g.expression (g.binary (Operation b.Add) false (lit≤ tt) refl (g.binary (Operation b.Remainder) false (lit≤ tt) refl (g.identifier false (lit≤ tt) refl) (g.identifier false (lit≤ tt) refl)) (g.identifier false (lit≤ tt) refl)) (λ e. cc) (λ e. cc) (e.at_end refl))) g.no_source))) (record { few = lit≤ tt; low = lit≤ tt; flat = lit≤ tt; closed = lit≤ tt }) (g.source_and (g.statement (g.expression (g.binary (Operation b.Remainder) false (lit≤ tt) refl (g.parenthesised false false (lit≤ tt) (g.binary (Operation b.Remainder) false (lit≤ tt) refl (g.identifier false (lit≤ tt) refl) (g.identifier false (lit≤ tt) refl))) (g.identifier false (lit≤ tt) refl)) (λ e. cc) (λ e. cc) (e.written false))) (g.source_and (g.statement (g.expression (g.binary (Operation b.Add) false (lit≤ tt) refl (g.identifier false (lit≤ tt) refl) (g.parenthesised false false (lit≤ tt) (g.binary (Operation b.Remainder) false (lit≤ tt) refl (g.identifier false (lit≤ tt) refl) (g.identifier false (lit≤ tt) refl)))) (λ e. cc) (λ e. cc) (e.written false))) (g.source_and (g.statement (g.expression (g.binary (Operation b.Add) false (lit≤ tt) refl (g.parenthesised false false (lit≤ tt) (g.binary (Operation b.Remainder) false (lit≤ tt) refl (g.identifier false (lit≤ tt) refl) (g.identifier false (lit≤ tt) refl))) (g.identifier false (lit≤ tt) refl)) (λ e. cc) (λ e. cc) (e.at_end refl))) g.no_source))) (record { few = lit≤ tt; low = lit≤ tt; flat = lit≤ tt; closed = lit≤ tt })

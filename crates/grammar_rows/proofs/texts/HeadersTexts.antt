-- The operator `in` in the first part of a `for` header.
use Rattle.std.proofs.Common.{true, false, [], ◌∷◌, codes, None, refl, lit≤}
use Rattle.std.specs.Fmt.{digits}
use Rattle.std.specs.Char.Utf16.{utf16_chars}
use Rattle.unicode_ident.proofs.Computing.{unicode_ident}
use Rattle.js_tree.specs.declared.tree.BinaryOp.TheVariants as b
use Rattle.js_tree.specs.declared.tree.PrefixOp.TheVariants as p
use Rattle.js_lexer.specs.declared.mark.Mark.TheVariants as m
use Rattle.js_lexer.specs.declared.word.Word.TheVariants as w
use Rattle.js_parser.specs.declared.form.Form.TheVariants.{Source}
use Rattle.js_parser.specs.Symbols.{word, mark, name, number}
use Rattle.js_tree.specs.Levels.{LogicalOr, Operation}
use Rattle.js_parser.specs.Ends as e
use Rattle.js_tree.specs.Tree
use Rattle.js_parser.specs.Grammar as g
use Rattle.js_parser.specs.Grammar.{code}
use Rattle.grammar_rows.specs.TextRows.{BreaksAt, Reads}
use Rattle.grammar_rows.proofs.TextRowLemmas.{reads_as, breaks_at}

pub in_brackets : Reads Source (codes "for ( a [ 1 in x ] ; ; ) ; for ( f ( 1 in x ) ; ; ) ; for ( [ 1 in x ] ; ; ) ;") (codes "for(a[1 in x];;);for(f(1 in x);;);for([1 in x];;);\n")
unfolding unicode_ident utf16_chars digits
in_brackets = reads_as Source (codes "for ( a [ 1 in x ] ; ; ) ; for ( f ( 1 in x ) ; ; ) ; for ( [ 1 in x ] ; ; ) ;") (Tree.MoreStmts (Tree.For (Tree.First (Tree.Index (Tree.Ident (codes "a")) (Tree.Binary b.In (Tree.Num 1) (Tree.Ident (codes "x"))))) Tree.NoExpr Tree.NoExpr Tree.Empty) (Tree.MoreStmts (Tree.For (Tree.First (Tree.Call (Tree.Ident (codes "f")) (Tree.MoreExprs (Tree.Binary b.In (Tree.Num 1) (Tree.Ident (codes "x"))) Tree.NoExprs))) Tree.NoExpr Tree.NoExpr Tree.Empty) (Tree.MoreStmts (Tree.For (Tree.First (Tree.Array (Tree.MoreElements (Tree.AnExpr (Tree.Binary b.In (Tree.Num 1) (Tree.Ident (codes "x")))) Tree.NoElements))) Tree.NoExpr Tree.NoExpr Tree.Empty) Tree.NoStmts))) (word w.For false ∷ mark m.OpenParenthesis false ∷ name (codes "a") false ∷ mark m.OpenBracket false ∷ number 1 false ∷ word w.In false ∷ name (codes "x") false ∷ mark m.CloseBracket false ∷ mark m.Semicolon false ∷ mark m.Semicolon false ∷ mark m.CloseParenthesis false ∷ mark m.Semicolon false ∷ word w.For false ∷ mark m.OpenParenthesis false ∷ name (codes "f") false ∷ mark m.OpenParenthesis false ∷ number 1 false ∷ word w.In false ∷ name (codes "x") false ∷ mark m.CloseParenthesis false ∷ mark m.Semicolon false ∷ mark m.Semicolon false ∷ mark m.CloseParenthesis false ∷ mark m.Semicolon false ∷ word w.For false ∷ mark m.OpenParenthesis false ∷ mark m.OpenBracket false ∷ number 1 false ∷ word w.In false ∷ name (codes "x") false ∷ mark m.CloseBracket false ∷ mark m.Semicolon false ∷ mark m.Semicolon false ∷ mark m.CloseParenthesis false ∷ mark m.Semicolon false ∷ []) refl (g.source_and (g.statement (g.for false false false false false (g.expression_first (g.index 18 false false (lit≤ tt) (lit≤ tt) (lit≤ tt) (g.identifier false (lit≤ tt) refl) (g.binary (Operation b.In) false (lit≤ tt) refl (g.numeral true false (lit≤ tt)) (g.identifier false (lit≤ tt) refl)))) g.absent g.absent (g.empty false))) (g.source_and (g.statement (g.for false false false false false (g.expression_first (g.call (lit≤ tt) (g.identifier false (lit≤ tt) refl) (g.arguments false false (g.last_argument (g.binary (Operation b.In) false (lit≤ tt) refl (g.numeral true false (lit≤ tt)) (g.identifier false (lit≤ tt) refl)))))) g.absent g.absent (g.empty false))) (g.source_and (g.statement (g.for false false false false false (g.expression_first (g.array false false (lit≤ tt) (g.last_element (g.binary (Operation b.In) false (lit≤ tt) refl (g.numeral true false (lit≤ tt)) (g.identifier false (lit≤ tt) refl))))) g.absent g.absent (g.empty false))) g.no_source))) (record { few = lit≤ tt; low = lit≤ tt; flat = lit≤ tt; closed = lit≤ tt }) refl

pub in_parentheses : Reads Source (codes "for ( ( 1 in x ) ; ; ) ; for ( ( ( 1 in x ) , 2 ) ; ; ) ;") (codes "for((1 in x);;);for((1 in x),2;;);\n")
unfolding unicode_ident utf16_chars digits
in_parentheses = reads_as Source (codes "for ( ( 1 in x ) ; ; ) ; for ( ( ( 1 in x ) , 2 ) ; ; ) ;") (Tree.MoreStmts (Tree.For (Tree.First (Tree.Binary b.In (Tree.Num 1) (Tree.Ident (codes "x")))) Tree.NoExpr Tree.NoExpr Tree.Empty) (Tree.MoreStmts (Tree.For (Tree.First (Tree.Comma (Tree.Binary b.In (Tree.Num 1) (Tree.Ident (codes "x"))) (Tree.Num 2))) Tree.NoExpr Tree.NoExpr Tree.Empty) Tree.NoStmts)) (word w.For false ∷ mark m.OpenParenthesis false ∷ mark m.OpenParenthesis false ∷ number 1 false ∷ word w.In false ∷ name (codes "x") false ∷ mark m.CloseParenthesis false ∷ mark m.Semicolon false ∷ mark m.Semicolon false ∷ mark m.CloseParenthesis false ∷ mark m.Semicolon false ∷ word w.For false ∷ mark m.OpenParenthesis false ∷ mark m.OpenParenthesis false ∷ mark m.OpenParenthesis false ∷ number 1 false ∷ word w.In false ∷ name (codes "x") false ∷ mark m.CloseParenthesis false ∷ mark m.Comma false ∷ number 2 false ∷ mark m.CloseParenthesis false ∷ mark m.Semicolon false ∷ mark m.Semicolon false ∷ mark m.CloseParenthesis false ∷ mark m.Semicolon false ∷ []) refl (g.source_and (g.statement (g.for false false false false false (g.expression_first (g.parenthesised false false (lit≤ tt) (g.binary (Operation b.In) false (lit≤ tt) refl (g.numeral true false (lit≤ tt)) (g.identifier false (lit≤ tt) refl)))) g.absent g.absent (g.empty false))) (g.source_and (g.statement (g.for false false false false false (g.expression_first (g.parenthesised false false (lit≤ tt) (g.comma false (lit≤ tt) (g.parenthesised false false (lit≤ tt) (g.binary (Operation b.In) false (lit≤ tt) refl (g.numeral true false (lit≤ tt)) (g.identifier false (lit≤ tt) refl))) (g.numeral true false (lit≤ tt))))) g.absent g.absent (g.empty false))) g.no_source)) (record { few = lit≤ tt; low = lit≤ tt; flat = lit≤ tt; closed = lit≤ tt }) refl

pub in_the_middle : Reads Source (codes "for ( a ? 1 in x : b ; ; ) ;") (codes "for(a?(1 in x):b;;);\n")
unfolding unicode_ident utf16_chars digits
in_the_middle = reads_as Source (codes "for ( a ? 1 in x : b ; ; ) ;") (Tree.MoreStmts (Tree.For (Tree.First (Tree.Cond (Tree.Ident (codes "a")) (Tree.Binary b.In (Tree.Num 1) (Tree.Ident (codes "x"))) (Tree.Ident (codes "b")))) Tree.NoExpr Tree.NoExpr Tree.Empty) Tree.NoStmts) (word w.For false ∷ mark m.OpenParenthesis false ∷ name (codes "a") false ∷ mark m.Question false ∷ number 1 false ∷ word w.In false ∷ name (codes "x") false ∷ mark m.Colon false ∷ name (codes "b") false ∷ mark m.Semicolon false ∷ mark m.Semicolon false ∷ mark m.CloseParenthesis false ∷ mark m.Semicolon false ∷ []) refl (g.source_and (g.statement (g.for false false false false false (g.expression_first (g.conditional false false (lit≤ tt) (g.identifier false (lit≤ tt) refl) (g.binary (Operation b.In) false (lit≤ tt) refl (g.numeral true false (lit≤ tt)) (g.identifier false (lit≤ tt) refl)) (g.identifier false (lit≤ tt) refl))) g.absent g.absent (g.empty false))) g.no_source) (record { few = lit≤ tt; low = lit≤ tt; flat = lit≤ tt; closed = lit≤ tt }) refl

pub in_a_function : Reads Source (codes "for ( a = function ( ) { 1 in x ; } ; ; ) ;") (codes "for(a=function(){1 in x;};;);\n")
unfolding unicode_ident utf16_chars digits
in_a_function = reads_as Source (codes "for ( a = function ( ) { 1 in x ; } ; ; ) ;") (Tree.MoreStmts (Tree.For (Tree.First (Tree.Assign None (Tree.Ident (codes "a")) (Tree.Function (code None [] (Tree.MoreStmts (Tree.Do (Tree.Binary b.In (Tree.Num 1) (Tree.Ident (codes "x")))) Tree.NoStmts))))) Tree.NoExpr Tree.NoExpr Tree.Empty) Tree.NoStmts) (word w.For false ∷ mark m.OpenParenthesis false ∷ name (codes "a") false ∷ mark m.Assign false ∷ word w.Function false ∷ mark m.OpenParenthesis false ∷ mark m.CloseParenthesis false ∷ mark m.OpenBrace false ∷ number 1 false ∷ word w.In false ∷ name (codes "x") false ∷ mark m.Semicolon false ∷ mark m.CloseBrace false ∷ mark m.Semicolon false ∷ mark m.Semicolon false ∷ mark m.CloseParenthesis false ∷ mark m.Semicolon false ∷ []) refl (g.source_and (g.statement (g.for false false false false false (g.expression_first (g.assign None m.Assign false (lit≤ tt) refl (g.identifier false (lit≤ tt) refl) refl (g.function false (lit≤ tt) (g.function_rest false false false false g.no_formal refl (g.source_and (g.statement (g.expression (g.binary (Operation b.In) false (lit≤ tt) refl (g.numeral true false (lit≤ tt)) (g.identifier false (lit≤ tt) refl)) (λ e. cc) (λ e. cc) (e.written false))) g.no_source))))) g.absent g.absent (g.empty false))) g.no_source) (record { few = lit≤ tt; low = lit≤ tt; flat = lit≤ tt; closed = lit≤ tt }) refl

pub behind_the_first : Reads Source (codes "for ( ; a in b ; c in d ) e in f ;") (codes "for(;a in b;c in d)e in f;\n")
unfolding unicode_ident utf16_chars digits
behind_the_first = reads_as Source (codes "for ( ; a in b ; c in d ) e in f ;") (Tree.MoreStmts (Tree.For Tree.Nothing (Tree.AnExpr (Tree.Binary b.In (Tree.Ident (codes "a")) (Tree.Ident (codes "b")))) (Tree.AnExpr (Tree.Binary b.In (Tree.Ident (codes "c")) (Tree.Ident (codes "d")))) (Tree.Do (Tree.Binary b.In (Tree.Ident (codes "e")) (Tree.Ident (codes "f"))))) Tree.NoStmts) (word w.For false ∷ mark m.OpenParenthesis false ∷ mark m.Semicolon false ∷ name (codes "a") false ∷ word w.In false ∷ name (codes "b") false ∷ mark m.Semicolon false ∷ name (codes "c") false ∷ word w.In false ∷ name (codes "d") false ∷ mark m.CloseParenthesis false ∷ name (codes "e") false ∷ word w.In false ∷ name (codes "f") false ∷ mark m.Semicolon false ∷ []) refl (g.source_and (g.statement (g.for false false false false false g.nothing_first (g.present (g.binary (Operation b.In) false (lit≤ tt) refl (g.identifier false (lit≤ tt) refl) (g.identifier false (lit≤ tt) refl))) (g.present (g.binary (Operation b.In) false (lit≤ tt) refl (g.identifier false (lit≤ tt) refl) (g.identifier false (lit≤ tt) refl))) (g.expression (g.binary (Operation b.In) false (lit≤ tt) refl (g.identifier false (lit≤ tt) refl) (g.identifier false (lit≤ tt) refl)) (λ e. cc) (λ e. cc) (e.written false)))) g.no_source) (record { few = lit≤ tt; low = lit≤ tt; flat = lit≤ tt; closed = lit≤ tt }) refl

pub elsewhere : Reads Source (codes "a in b ; var a = b in c ; if ( a in b ) ;") (codes "a in b;var a=b in c;if(a in b);\n")
unfolding unicode_ident utf16_chars digits
elsewhere = reads_as Source (codes "a in b ; var a = b in c ; if ( a in b ) ;") (Tree.MoreStmts (Tree.Do (Tree.Binary b.In (Tree.Ident (codes "a")) (Tree.Ident (codes "b")))) (Tree.MoreStmts (Tree.Variables (Tree.MoreVarItems (codes "a") (Tree.AnExpr (Tree.Binary b.In (Tree.Ident (codes "b")) (Tree.Ident (codes "c")))) Tree.NoVarItems)) (Tree.MoreStmts (Tree.If (Tree.Binary b.In (Tree.Ident (codes "a")) (Tree.Ident (codes "b"))) Tree.Empty Tree.NoStmt) Tree.NoStmts))) (name (codes "a") false ∷ word w.In false ∷ name (codes "b") false ∷ mark m.Semicolon false ∷ word w.Var false ∷ name (codes "a") false ∷ mark m.Assign false ∷ name (codes "b") false ∷ word w.In false ∷ name (codes "c") false ∷ mark m.Semicolon false ∷ word w.If false ∷ mark m.OpenParenthesis false ∷ name (codes "a") false ∷ word w.In false ∷ name (codes "b") false ∷ mark m.CloseParenthesis false ∷ mark m.Semicolon false ∷ []) refl (g.source_and (g.statement (g.expression (g.binary (Operation b.In) false (lit≤ tt) refl (g.identifier false (lit≤ tt) refl) (g.identifier false (lit≤ tt) refl)) (λ e. cc) (λ e. cc) (e.written false))) (g.source_and (g.statement (g.variables false (g.last_declarator (g.initialised false false refl (g.binary (Operation b.In) false (lit≤ tt) refl (g.identifier false (lit≤ tt) refl) (g.identifier false (lit≤ tt) refl)))) (e.written false))) (g.source_and (g.statement (g.if false false false (g.binary (Operation b.In) false (lit≤ tt) refl (g.identifier false (lit≤ tt) refl) (g.identifier false (lit≤ tt) refl)) (g.empty false) (λ e. cc))) g.no_source))) (record { few = lit≤ tt; low = lit≤ tt; flat = lit≤ tt; closed = lit≤ tt }) refl

pub in_assigned : BreaksAt Source (codes "for ( i = 1") (codes "in")
in_assigned = breaks_at Source (codes "for ( i = 1") (codes "in") (Tree.MoreStmts (Tree.For (Tree.First (Tree.Assign None (Tree.Ident (codes "i")) (Tree.Num 1))) Tree.NoExpr Tree.NoExpr Tree.Empty) Tree.NoStmts) (mark m.Semicolon false ∷ mark m.Semicolon false ∷ mark m.CloseParenthesis false ∷ mark m.Semicolon false ∷ []) (word w.For false ∷ mark m.OpenParenthesis false ∷ name (codes "i") false ∷ mark m.Assign false ∷ number 1 false ∷ mark m.Semicolon false ∷ mark m.Semicolon false ∷ mark m.CloseParenthesis false ∷ mark m.Semicolon false ∷ []) (word w.For false ∷ mark m.OpenParenthesis false ∷ name (codes "i") false ∷ mark m.Assign false ∷ number 1 false ∷ word w.In false ∷ []) refl refl (g.source_and (g.statement (g.for false false false false false (g.expression_first (g.assign None m.Assign false (lit≤ tt) refl (g.identifier false (lit≤ tt) refl) refl (g.numeral true false (lit≤ tt)))) g.absent g.absent (g.empty false))) g.no_source) (lit≤ tt) (λ others. refl)

pub in_second_item : BreaksAt Source (codes "for ( var i = 1 , j = 2") (codes "in")
in_second_item = breaks_at Source (codes "for ( var i = 1 , j = 2") (codes "in") (Tree.MoreStmts (Tree.For (Tree.Vars (Tree.MoreVarItems (codes "i") (Tree.AnExpr (Tree.Num 1)) (Tree.MoreVarItems (codes "j") (Tree.AnExpr (Tree.Num 2)) Tree.NoVarItems))) Tree.NoExpr Tree.NoExpr Tree.Empty) Tree.NoStmts) (mark m.Semicolon false ∷ mark m.Semicolon false ∷ mark m.CloseParenthesis false ∷ mark m.Semicolon false ∷ []) (word w.For false ∷ mark m.OpenParenthesis false ∷ word w.Var false ∷ name (codes "i") false ∷ mark m.Assign false ∷ number 1 false ∷ mark m.Comma false ∷ name (codes "j") false ∷ mark m.Assign false ∷ number 2 false ∷ mark m.Semicolon false ∷ mark m.Semicolon false ∷ mark m.CloseParenthesis false ∷ mark m.Semicolon false ∷ []) (word w.For false ∷ mark m.OpenParenthesis false ∷ word w.Var false ∷ name (codes "i") false ∷ mark m.Assign false ∷ number 1 false ∷ mark m.Comma false ∷ name (codes "j") false ∷ mark m.Assign false ∷ number 2 false ∷ word w.In false ∷ []) refl refl (g.source_and (g.statement (g.for false false false false false (g.variables_first false (g.declarator_and false (g.initialised false false refl (g.numeral true false (lit≤ tt))) (g.last_declarator (g.initialised false false refl (g.numeral true false (lit≤ tt)))))) g.absent g.absent (g.empty false))) g.no_source) (lit≤ tt) (λ others. refl)

pub in_second_name : BreaksAt Source (codes "for ( var i , j") (codes "in")
in_second_name = breaks_at Source (codes "for ( var i , j") (codes "in") (Tree.MoreStmts (Tree.For (Tree.Vars (Tree.MoreVarItems (codes "i") Tree.NoExpr (Tree.MoreVarItems (codes "j") Tree.NoExpr Tree.NoVarItems))) Tree.NoExpr Tree.NoExpr Tree.Empty) Tree.NoStmts) (mark m.Semicolon false ∷ mark m.Semicolon false ∷ mark m.CloseParenthesis false ∷ mark m.Semicolon false ∷ []) (word w.For false ∷ mark m.OpenParenthesis false ∷ word w.Var false ∷ name (codes "i") false ∷ mark m.Comma false ∷ name (codes "j") false ∷ mark m.Semicolon false ∷ mark m.Semicolon false ∷ mark m.CloseParenthesis false ∷ mark m.Semicolon false ∷ []) (word w.For false ∷ mark m.OpenParenthesis false ∷ word w.Var false ∷ name (codes "i") false ∷ mark m.Comma false ∷ name (codes "j") false ∷ word w.In false ∷ []) refl refl (g.source_and (g.statement (g.for false false false false false (g.variables_first false (g.declarator_and false (g.bare false refl) (g.last_declarator (g.bare false refl)))) g.absent g.absent (g.empty false))) g.no_source) (lit≤ tt) (λ others. refl)

pub in_disjunction : BreaksAt Source (codes "for ( a || 1") (codes "in")
in_disjunction = breaks_at Source (codes "for ( a || 1") (codes "in") (Tree.MoreStmts (Tree.For (Tree.First (Tree.Or (Tree.Ident (codes "a")) (Tree.Num 1))) Tree.NoExpr Tree.NoExpr Tree.Empty) Tree.NoStmts) (mark m.Semicolon false ∷ mark m.Semicolon false ∷ mark m.CloseParenthesis false ∷ mark m.Semicolon false ∷ []) (word w.For false ∷ mark m.OpenParenthesis false ∷ name (codes "a") false ∷ mark m.Or false ∷ number 1 false ∷ mark m.Semicolon false ∷ mark m.Semicolon false ∷ mark m.CloseParenthesis false ∷ mark m.Semicolon false ∷ []) (word w.For false ∷ mark m.OpenParenthesis false ∷ name (codes "a") false ∷ mark m.Or false ∷ number 1 false ∷ word w.In false ∷ []) refl refl (g.source_and (g.statement (g.for false false false false false (g.expression_first (g.binary LogicalOr false (lit≤ tt) refl (g.identifier false (lit≤ tt) refl) (g.numeral true false (lit≤ tt)))) g.absent g.absent (g.empty false))) g.no_source) (lit≤ tt) (λ others. refl)

pub in_other : BreaksAt Source (codes "for ( a ? b : 1") (codes "in")
in_other = breaks_at Source (codes "for ( a ? b : 1") (codes "in") (Tree.MoreStmts (Tree.For (Tree.First (Tree.Cond (Tree.Ident (codes "a")) (Tree.Ident (codes "b")) (Tree.Num 1))) Tree.NoExpr Tree.NoExpr Tree.Empty) Tree.NoStmts) (mark m.Semicolon false ∷ mark m.Semicolon false ∷ mark m.CloseParenthesis false ∷ mark m.Semicolon false ∷ []) (word w.For false ∷ mark m.OpenParenthesis false ∷ name (codes "a") false ∷ mark m.Question false ∷ name (codes "b") false ∷ mark m.Colon false ∷ number 1 false ∷ mark m.Semicolon false ∷ mark m.Semicolon false ∷ mark m.CloseParenthesis false ∷ mark m.Semicolon false ∷ []) (word w.For false ∷ mark m.OpenParenthesis false ∷ name (codes "a") false ∷ mark m.Question false ∷ name (codes "b") false ∷ mark m.Colon false ∷ number 1 false ∷ word w.In false ∷ []) refl refl (g.source_and (g.statement (g.for false false false false false (g.expression_first (g.conditional false false (lit≤ tt) (g.identifier false (lit≤ tt) refl) (g.identifier false (lit≤ tt) refl) (g.numeral true false (lit≤ tt)))) g.absent g.absent (g.empty false))) g.no_source) (lit≤ tt) (λ others. refl)

pub in_negation : BreaksAt Source (codes "for ( ! a") (codes "in")
in_negation = breaks_at Source (codes "for ( ! a") (codes "in") (Tree.MoreStmts (Tree.For (Tree.First (Tree.Prefix p.Not (Tree.Ident (codes "a")))) Tree.NoExpr Tree.NoExpr Tree.Empty) Tree.NoStmts) (mark m.Semicolon false ∷ mark m.Semicolon false ∷ mark m.CloseParenthesis false ∷ mark m.Semicolon false ∷ []) (word w.For false ∷ mark m.OpenParenthesis false ∷ mark m.Not false ∷ name (codes "a") false ∷ mark m.Semicolon false ∷ mark m.Semicolon false ∷ mark m.CloseParenthesis false ∷ mark m.Semicolon false ∷ []) (word w.For false ∷ mark m.OpenParenthesis false ∷ mark m.Not false ∷ name (codes "a") false ∷ word w.In false ∷ []) refl refl (g.source_and (g.statement (g.for false false false false false (g.expression_first (g.prefix p.Not false (lit≤ tt) refl (g.identifier false (lit≤ tt) refl))) g.absent g.absent (g.empty false))) g.no_source) (lit≤ tt) (λ others. refl)

pub in_comma : BreaksAt Source (codes "for ( a , b") (codes "in")
in_comma = breaks_at Source (codes "for ( a , b") (codes "in") (Tree.MoreStmts (Tree.For (Tree.First (Tree.Comma (Tree.Ident (codes "a")) (Tree.Ident (codes "b")))) Tree.NoExpr Tree.NoExpr Tree.Empty) Tree.NoStmts) (mark m.Semicolon false ∷ mark m.Semicolon false ∷ mark m.CloseParenthesis false ∷ mark m.Semicolon false ∷ []) (word w.For false ∷ mark m.OpenParenthesis false ∷ name (codes "a") false ∷ mark m.Comma false ∷ name (codes "b") false ∷ mark m.Semicolon false ∷ mark m.Semicolon false ∷ mark m.CloseParenthesis false ∷ mark m.Semicolon false ∷ []) (word w.For false ∷ mark m.OpenParenthesis false ∷ name (codes "a") false ∷ mark m.Comma false ∷ name (codes "b") false ∷ word w.In false ∷ []) refl refl (g.source_and (g.statement (g.for false false false false false (g.expression_first (g.comma false (lit≤ tt) (g.identifier false (lit≤ tt) refl) (g.identifier false (lit≤ tt) refl))) g.absent g.absent (g.empty false))) g.no_source) (lit≤ tt) (λ others. refl)

pub in_call : BreaksAt Source (codes "for ( a ( )") (codes "in")
in_call = breaks_at Source (codes "for ( a ( )") (codes "in") (Tree.MoreStmts (Tree.For (Tree.First (Tree.Call (Tree.Ident (codes "a")) Tree.NoExprs)) Tree.NoExpr Tree.NoExpr Tree.Empty) Tree.NoStmts) (mark m.Semicolon false ∷ mark m.Semicolon false ∷ mark m.CloseParenthesis false ∷ mark m.Semicolon false ∷ []) (word w.For false ∷ mark m.OpenParenthesis false ∷ name (codes "a") false ∷ mark m.OpenParenthesis false ∷ mark m.CloseParenthesis false ∷ mark m.Semicolon false ∷ mark m.Semicolon false ∷ mark m.CloseParenthesis false ∷ mark m.Semicolon false ∷ []) (word w.For false ∷ mark m.OpenParenthesis false ∷ name (codes "a") false ∷ mark m.OpenParenthesis false ∷ mark m.CloseParenthesis false ∷ word w.In false ∷ []) refl refl (g.source_and (g.statement (g.for false false false false false (g.expression_first (g.call (lit≤ tt) (g.identifier false (lit≤ tt) refl) (g.no_arguments false false))) g.absent g.absent (g.empty false))) g.no_source) (lit≤ tt) (λ others. refl)

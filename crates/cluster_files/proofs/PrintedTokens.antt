-- The tokens that a tree is written with derive the tree, by induction on a derivation of it.
use Rattle.std.proofs.Common.{◌≡◌, ◌≢◌, ℕ, suc, ◌≤◌, nat_lt, Bool, true, false, not, ◌&&◌, ◌||◌, List, [], ◌∷◌, ◌++◌, Option, Some, None, refl, ap, sym, ◌∙◌, subst, arith, lit≤}
use Rattle.std.proofs.lemmas.List.{append-nil, append_assoc, map-append}
use Rattle.std.proofs.lemmas.Bool.{ltb-false}
use Rattle.js_lexer.specs.declared.mark.Mark.{Mark}
use Rattle.js_lexer.specs.declared.mark.Mark.TheVariants as m
use Rattle.js_lexer.specs.declared.word.Word.TheVariants as w
use Rattle.js_lexer.specs.declared.token.TokenKind.{TokenKind}
use Rattle.js_lexer.specs.declared.token.TokenKind.TheVariants as k
use Rattle.js_tree.specs.declared.tree.BinaryOp.{BinaryOp}
use Rattle.js_tree.specs.declared.tree.BinaryOp.TheVariants as b
use Rattle.js_tree.specs.declared.tree.PrefixOp.{PrefixOp}
use Rattle.js_tree.specs.Tree.{Name, Expr, Exprs, MaybeExpr, Elements, Pairs, Stmt, Stmts, VarItems, Cases, ForInit}
use Rattle.js_tree.specs.Tree
use Rattle.js_parser.specs.declared.form.Form.{Form}
use Rattle.js_parser.specs.Symbols.{Symbol, Symbols, word, mark, name, first, end}
use Rattle.js_tree.specs.Levels.{Operator, LogicalOr, LogicalAnd, Operation, joined, level, operation_level, is_in_operation, changes}
use Rattle.js_parser.specs.Operators.{sign, may_operate, assignment, prefix_sign}
use Rattle.js_parser.specs.Contexts.{Context}
use Rattle.js_parser.specs.Ends.{written, semicolon}
use Rattle.js_parser.specs.Grammar.{Formals, Expression, NewCallee, Arguments, ArgumentList, ElementList, PropertyList, FunctionRest, Declarator, DeclaratorList, OptionalExpression, ForFirst, Block, Statement, StatementList, CaseClauses, SourceElement, SourceElements}
use Rattle.js_parser.specs.Grammar as g
use Rattle.js_parser.specs.Accepted.{Derives}
use Rattle.js_printer.specs.Printed.{Kinds, level_of, is_number, is_function, has_call, enclosed, enclosed_if, needs, operand_for, operand, key_kind, assignment_mark, prefix_least, names, begins_as_another, expr, exprs, other_exprs, maybe_expr, elements, pairs, stmt, stmts, for_init, var_items, other_var_items, initialiser, cases}
use Rattle.js_printer.specs.Signs as shown
use Rattle.cluster_files.specs.ReadsBack.{on_line, line_of}
use Rattle.js_parser.proofs.Levels.{lower, widen, expression-any}
use Rattle.js_parser.proofs.NoElse.{list-follows, elements-follow}
use Rattle.cluster_files.proofs.Keys.{key_back}
use Rattle.cluster_files.proofs.Signs.{same-operation, same-prefix, same-postfix, same-assignment}

-- ---- lists of tokens

line-append : (u v : Kinds) → line_of (u ++ v) ≡ line_of u ++ line_of v
line-append u v = map-append on_line u v

-- tokens, a mark in their midst, and others
between : (u : Kinds) (kind : TokenKind) (v : Kinds) → line_of (u ++ (kind ∷ v)) ≡ line_of u ++ (on_line kind ∷ line_of v)
between u kind v = line-append u (kind ∷ v)

-- in parentheses, and then others
enclosed-line : (u v : Kinds) → line_of (enclosed u ++ v) ≡ mark m.OpenParenthesis false ∷ (line_of u ++ (mark m.CloseParenthesis false ∷ line_of v))
enclosed-line u v = ap (λ t. mark m.OpenParenthesis false ∷ t) (ap line_of (append_assoc u (k.Mark m.CloseParenthesis ∷ []) v) ∙ between u (k.Mark m.CloseParenthesis) v)

moved : {form : Form} {i : Bool} {l : ℕ} {u v : Symbols} {x : Expr} → Expression form i l v x → u ≡ v → Expression form i l u x
moved {form = form} {i = i} {l = l} {x = x} d e = subst (λ t. Expression form i l t x) (sym e) d

moved-statement : {form : Form} {c : Context} {u v : Symbols} {next : Symbol} {s : Stmt} → Statement form c v next s → u ≡ v → Statement form c u next s
moved-statement {form = form} {c = c} {next = next} {s = s} d e = subst (λ t. Statement form c t next s) (sym e) d

-- ---- levels

abbrev called : Bool → ℕ
called true = 17
called false = 18

-- the level of what a tree is written as
abbrev exact : Expr → ℕ
exact (Tree.Comma left right) = 1
exact (Tree.Assign op target value) = 2
exact (Tree.Cond test middle other) = 3
exact (Tree.Or left right) = 4
exact (Tree.And left right) = 5
exact (Tree.Binary op left right) = operation_level op
exact (Tree.Prefix op x) = 14
exact (Tree.Postfix target op) = 15
exact (Tree.Dot object name) = called (has_call object)
exact (Tree.Index object key) = called (has_call object)
exact (Tree.Call callee es) = 17
exact (Tree.New callee es) = 18
exact _ = 19

called-least : (a : Bool) → 17 ≤ called a
called-least true = lit≤ tt
called-least false = lit≤ tt

called-most : (a : Bool) → called a ≤ 18
called-most true = lit≤ tt
called-most false = lit≤ tt

operation-high : (op : BinaryOp) → (6 ≤ operation_level op) × (operation_level op ≤ 13)
operation-high b.BitOr = (lit≤ tt, lit≤ tt)
operation-high b.BitXor = (lit≤ tt, lit≤ tt)
operation-high b.BitAnd = (lit≤ tt, lit≤ tt)
operation-high b.Equal = (lit≤ tt, lit≤ tt)
operation-high b.NotEqual = (lit≤ tt, lit≤ tt)
operation-high b.Same = (lit≤ tt, lit≤ tt)
operation-high b.NotSame = (lit≤ tt, lit≤ tt)
operation-high b.Less = (lit≤ tt, lit≤ tt)
operation-high b.Greater = (lit≤ tt, lit≤ tt)
operation-high b.LessEqual = (lit≤ tt, lit≤ tt)
operation-high b.GreaterEqual = (lit≤ tt, lit≤ tt)
operation-high b.InstanceOf = (lit≤ tt, lit≤ tt)
operation-high b.In = (lit≤ tt, lit≤ tt)
operation-high b.ShiftLeft = (lit≤ tt, lit≤ tt)
operation-high b.ShiftRight = (lit≤ tt, lit≤ tt)
operation-high b.ShiftRightUnsigned = (lit≤ tt, lit≤ tt)
operation-high b.Add = (lit≤ tt, lit≤ tt)
operation-high b.Subtract = (lit≤ tt, lit≤ tt)
operation-high b.Multiply = (lit≤ tt, lit≤ tt)
operation-high b.Divide = (lit≤ tt, lit≤ tt)
operation-high b.Remainder = (lit≤ tt, lit≤ tt)

-- a level that a tree is written for is no higher than its own
exact-least : (least : ℕ) (x : Expr) → least ≤ 16 → least ≤ level_of x → least ≤ exact x
exact-least least (Tree.Comma left right) h i = i
exact-least least (Tree.Assign op target value) h i = i
exact-least least (Tree.Cond test middle other) h i = i
exact-least least (Tree.Or left right) h i = i
exact-least least (Tree.And left right) h i = i
exact-least least (Tree.Prefix op x) h i = i
exact-least least (Tree.Postfix target op) h i = i
exact-least least (Tree.Binary op left right) h i = i
exact-least least (Tree.Dot object name) h i = let c = called-least (has_call object) in omega arith
exact-least least (Tree.Index object key) h i = let c = called-least (has_call object) in omega arith
exact-least least (Tree.Call callee es) h i = omega arith
exact-least least (Tree.New callee es) h i = omega arith
exact-least least (Tree.Num n) h i = i
exact-least least (Tree.Str text) h i = i
exact-least least (Tree.Truth b) h i = i
exact-least least Tree.Null h i = i
exact-least least Tree.This h i = i
exact-least least (Tree.Ident name) h i = i
exact-least least (Tree.Array es) h i = i
exact-least least (Tree.Object ps) h i = i
exact-least least (Tree.Function f) h i = i
exact-least least (Tree.Late n) h i = i

-- what stands before a dot, an index or arguments, without parentheses
exact-called : (x : Expr) → 16 ≤ level_of x → called (has_call x) ≤ exact x
exact-called (Tree.Comma left right) h = absurd (omega arith)
exact-called (Tree.Assign op target value) h = absurd (omega arith)
exact-called (Tree.Cond test middle other) h = absurd (omega arith)
exact-called (Tree.Or left right) h = absurd (omega arith)
exact-called (Tree.And left right) h = absurd (omega arith)
exact-called (Tree.Prefix op x) h = absurd (omega arith)
exact-called (Tree.Postfix target op) h = absurd (omega arith)
exact-called (Tree.Binary op left right) h = let o = operation-high op in absurd (omega arith)
exact-called (Tree.Dot object name) h = omega arith
exact-called (Tree.Index object key) h = omega arith
exact-called (Tree.Call callee es) h = lit≤ tt
exact-called (Tree.New callee es) h = lit≤ tt
exact-called (Tree.Num n) h = lit≤ tt
exact-called (Tree.Str text) h = lit≤ tt
exact-called (Tree.Truth b) h = lit≤ tt
exact-called Tree.Null h = lit≤ tt
exact-called Tree.This h = lit≤ tt
exact-called (Tree.Ident name) h = lit≤ tt
exact-called (Tree.Array es) h = lit≤ tt
exact-called (Tree.Object ps) h = lit≤ tt
exact-called (Tree.Function f) h = lit≤ tt
exact-called (Tree.Late n) h = lit≤ tt

one-least : (x : Expr) → 1 ≤ exact x
one-least (Tree.Comma left right) = lit≤ tt
one-least (Tree.Assign op target value) = lit≤ tt
one-least (Tree.Cond test middle other) = lit≤ tt
one-least (Tree.Or left right) = lit≤ tt
one-least (Tree.And left right) = lit≤ tt
one-least (Tree.Prefix op x) = lit≤ tt
one-least (Tree.Postfix target op) = lit≤ tt
one-least (Tree.Binary op left right) = let o = operation-high op in omega arith
one-least (Tree.Dot object name) = let c = called-least (has_call object) in omega arith
one-least (Tree.Index object key) = let c = called-least (has_call object) in omega arith
one-least (Tree.Call callee es) = lit≤ tt
one-least (Tree.New callee es) = lit≤ tt
one-least (Tree.Num n) = lit≤ tt
one-least (Tree.Str text) = lit≤ tt
one-least (Tree.Truth b) = lit≤ tt
one-least Tree.Null = lit≤ tt
one-least Tree.This = lit≤ tt
one-least (Tree.Ident name) = lit≤ tt
one-least (Tree.Array es) = lit≤ tt
one-least (Tree.Object ps) = lit≤ tt
one-least (Tree.Function f) = lit≤ tt
one-least (Tree.Late n) = lit≤ tt

or-left : (a c : Bool) → (a || c) ≡ false → a ≡ false
or-left true c h = h
or-left false c h = refl

or-right : (a c : Bool) → (a || c) ≡ false → c ≡ false
or-right true c h = cc
or-right false c h = h

or-true : (a : Bool) → (a || true) ≡ true
or-true true = refl
or-true false = refl

or-false : (a : Bool) → (a || false) ≡ a
or-false true = refl
or-false false = refl

-- an `in` may stand in parentheses alone
may-stand : (a c : Bool) → (not a && c) ≡ false → (a || not c) ≡ true
may-stand true c h = refl
may-stand false true h = cc
may-stand false false h = refl

-- what holds of an operand that is written without parentheses
unwrapped-level : (reason j : Bool) (least : ℕ) (x : Expr) → needs reason j least x ≡ false → least ≤ level_of x
unwrapped-level reason j least x h =
    ltb-false (level_of x) least (or-left (nat_lt (level_of x) least) (not j && is_in_operation x) (or-right reason (nat_lt (level_of x) least || (not j && is_in_operation x)) h))

unwrapped-in : (reason j : Bool) (least : ℕ) (x : Expr) → needs reason j least x ≡ false → (j || not (is_in_operation x)) ≡ true
unwrapped-in reason j least x h =
    may-stand j (is_in_operation x) (or-right (nat_lt (level_of x) least) (not j && is_in_operation x) (or-right reason (nat_lt (level_of x) least || (not j && is_in_operation x)) h))

-- the tree is read from what it is written as, wherever an `in` may stand
abbrev Reads : Form → Expr → Type 0
Reads form x = (j : Bool) → (j || not (is_in_operation x)) ≡ true → Expression form j (exact x) (line_of (expr x j)) x

wrapped : (form : Form) (j : Bool) (l : ℕ) (x : Expr) → l ≤ 19 → Reads form x → Expression form j l (line_of (enclosed (expr x true))) x
wrapped form j l x h d = moved (g.parenthesised false false h (lower (one-least x) (d true refl))) (ap (λ t. mark m.OpenParenthesis false ∷ t) (between (expr x true) (k.Mark m.CloseParenthesis) []))

-- an operand is read at a level that it has where it is in no parentheses
operand-by : (form : Form) (reason j : Bool) (least l : ℕ) (x : Expr) (a : Bool) → needs reason j least x ≡ a → l ≤ 19 → (a ≡ false → l ≤ exact x) → Reads form x
    → Expression form j l (line_of (enclosed_if a (expr x (j || a)))) x
operand-by form reason j least l x true e h low d = subst (λ i. Expression form j l (line_of (enclosed (expr x i))) x) (sym (or-true j)) (wrapped form j l x h d)
operand-by form reason j least l x false e h low d =
    subst (λ i. Expression form j l (line_of (expr x i)) x) (sym (or-false j)) (lower (low refl) (d j (unwrapped-in reason j least x e)))

-- at the level that its place needs
operand-at : {form : Form} {x : Expr} (j : Bool) (least : ℕ) → least ≤ 16 → Reads form x → Expression form j least (line_of (operand j least x (expr x))) x
operand-at {form = form} {x = x} j least h d =
    operand-by form false j least least x (needs false j least x) refl (omega arith) (λ e. exact-least least x h (unwrapped-level false j least x e)) d

-- as a callee, or before a dot or an index
operand-called : {form : Form} {x : Expr} (reason j : Bool) → Reads form x → Expression form j (called (has_call x)) (line_of (operand_for reason j 16 x (expr x))) x
operand-called {form = form} {x = x} reason j d = let most = called-most (has_call x) in
    operand-by form reason j 16 (called (has_call x)) x (needs reason j 16 x) refl (omega arith) (λ e. exact-called x (unwrapped-level reason j 16 x e)) d

-- as the callee of `new`
called-plain : (a : Bool) → a ≡ false → 18 ≤ called a
called-plain true h = cc
called-plain false h = lit≤ tt

operand-new : {form : Form} {x : Expr} (reason j : Bool) → Reads form x → Expression form j 18 (line_of (operand_for (reason || has_call x) j 16 x (expr x))) x
operand-new {form = form} {x = x} reason j d =
    operand-by form (reason || has_call x) j 16 18 x (needs (reason || has_call x) j 16 x) refl (lit≤ tt)
    (λ e. let no_call = or-right reason (has_call x) (or-left (reason || has_call x) (nat_lt (level_of x) 16 || (not j && is_in_operation x)) e) in
    let high = called-plain (has_call x) no_call in let low = exact-called x (unwrapped-level (reason || has_call x) j 16 x e) in omega arith) d

-- ---- parts

formals-again : {form : Form} {u : Symbols} {ns : List Name} → Formals form u ns → Formals form (line_of (names ns)) ns
formals-again g.no_formal = g.no_formal
formals-again (g.last_formal c h) = g.last_formal false h
formals-again (g.formal_and c d h fs) = g.formal_and false false h (formals-again fs)

may-operate : (j : Bool) (op : Operator) (x y : Expr) → (j || not (is_in_operation (joined op x y))) ≡ true → may_operate j op ≡ true
may-operate j LogicalOr x y h = refl
may-operate j LogicalAnd x y h = refl
may-operate true (Operation b.In) x y h = refl
may-operate true (Operation _) x y h = refl
may-operate false (Operation b.In) x y h = cc
may-operate false (Operation _) x y h = refl

level-most : (op : Operator) → level op ≤ 13
level-most LogicalOr = lit≤ tt
level-most LogicalAnd = lit≤ tt
level-most (Operation op) = (operation-high op).1

exact-joined : (op : Operator) (x y : Expr) → exact (joined op x y) ≡ level op
exact-joined LogicalOr x y = refl
exact-joined LogicalAnd x y = refl
exact-joined (Operation op) x y = refl

-- what an operation is written as
joined-line : (op : Operator) (x y : Expr) (j : Bool) → expr (joined op x y) j ≡ operand j (level op) x (expr x) ++ (sign op ∷ operand j (suc (level op)) y (expr y))
joined-line LogicalOr x y j = refl
joined-line LogicalAnd x y j = refl
joined-line (Operation op) x y j =
    ap (λ kind. operand j (operation_level op) x (expr x) ++ (kind ∷ operand j (suc (operation_level op)) y (expr y))) (same-operation op)

-- behind the sign of a prefix operator
signed : {form : Form} {l : ℕ} (op : PrefixOp) (x : Expr) (j : Bool)
    → Expression form j l (on_line (prefix_sign op) ∷ line_of (operand j (prefix_least (changes op)) x (expr x))) (Tree.Prefix op x)
    → Expression form j l (line_of (expr (Tree.Prefix op x) j)) (Tree.Prefix op x)
signed op x j d = moved d (ap (λ kind. on_line kind ∷ line_of (operand j (prefix_least (changes op)) x (expr x))) (same-prefix op))

assigned : (o : Option Mark) (joint : Mark) → o ≡ Some joint → o ≡ Some (assignment_mark o)
assigned (Some joint) other h = refl
assigned None other h = cc

least-of : (a : Bool) → prefix_least a ≤ 16
least-of true = lit≤ tt
least-of false = lit≤ tt

other-arguments : {form : Form} {u : Symbols} {xs : Exprs} → ArgumentList form u xs → other_exprs xs ≡ k.Mark m.Comma ∷ exprs xs
other-arguments (g.last_argument x) = refl
other-arguments (g.argument_and c x xs) = refl

other-declarators : {form : Form} {i : Bool} {u : Symbols} {items : VarItems} → DeclaratorList form i u items → (j : Bool) → other_var_items items j ≡ k.Mark m.Comma ∷ var_items items j
other-declarators (g.last_declarator x) j = refl
other-declarators (g.declarator_and c x xs) j = refl

-- `in` may stand in brackets
anywhere : (a : Bool) → (true || a) ≡ true
anywhere a = refl

-- `new` is written with arguments
new-again : {form : Form} (x : Expr) (j : Bool) → Reads form x → Expression form j 18 (line_of (expr (Tree.New x Tree.NoExprs) j)) (Tree.New x Tree.NoExprs)
new-again x j d =
    moved (g.new false (lit≤ tt) (operand-new (is_function x) j d) (g.no_arguments false false))
    (ap (λ t. word w.New false ∷ t) (line-append (operand_for (is_function x || has_call x) j 16 x (expr x)) (enclosed [])))

full-of : {form : Form} {x : Expr} → Reads form x → Expression form true 1 (line_of (expr x true)) x
full-of {x = x} d = lower (one-least x) (d true refl)

some-tokens : {form : Form} {x : Expr} → Reads form x → line_of (expr x true) ≢ []
some-tokens {form = form} {x = x} d = expression-any form true 1 (line_of (expr x true)) x (full-of d)

-- what is written stands on one line
line-start : (u : Kinds) (n : Symbol) → line_of u ≢ [] → (first (line_of u) n).newline ≡ false
line-start [] n h = absurd (h refl)
line-start (kind ∷ u) n h = refl

brace-start : (u : Kinds) (n : Symbol) → begins_as_another u ≡ false → line_of u ≢ [] → (first (line_of u) n).kind ≢ k.Mark m.OpenBrace
brace-start [] n h any e = any refl
brace-start (kind ∷ u) n h any e = let f = ap (λ kind. begins_as_another (kind ∷ u)) e in cc

function-start : (u : Kinds) (n : Symbol) → begins_as_another u ≡ false → line_of u ≢ [] → (first (line_of u) n).kind ≢ k.Word w.Function
function-start [] n h any e = any refl
function-start (kind ∷ u) n h any e = let f = ap (λ kind. begins_as_another (kind ∷ u)) e in cc

-- an expression statement
stated : {form : Form} (c : Context) (x : Expr) (other : Symbol) (a : Bool) → begins_as_another (expr x true) ≡ a → Reads form x
    → Statement form c (line_of (enclosed_if a (expr x true) ++ (k.Mark m.Semicolon ∷ []))) other (Tree.Do x)
stated {form = form} c x other true e d =
    moved-statement (g.expression (wrapped form true 1 x (lit≤ tt) d) (λ e. cc) (λ e. cc) (written false)) (between (enclosed (expr x true)) (k.Mark m.Semicolon) [])
stated c x other false e d =
    moved-statement (g.expression (full-of d) (brace-start (expr x true) other e (some-tokens d)) (function-start (expr x true) other e (some-tokens d)) (written false))
    (between (expr x true) (k.Mark m.Semicolon) [])

-- a header with one token in its midst, and the statement behind it
header : (u : Kinds) (kind : TokenKind) (v body : Kinds)
    → line_of (enclosed (u ++ (kind ∷ v)) ++ body) ≡ mark m.OpenParenthesis false ∷ (line_of u ++ (on_line kind ∷ (line_of v ++ (mark m.CloseParenthesis false ∷ line_of body))))
header u kind v body =
    ap (λ t. mark m.OpenParenthesis false ∷ line_of t)
    (append_assoc (u ++ (kind ∷ v)) (k.Mark m.CloseParenthesis ∷ []) body ∙ append_assoc u (kind ∷ v) (k.Mark m.CloseParenthesis ∷ body))
    ∙ ap (λ t. mark m.OpenParenthesis false ∷ t) (between u kind (v ++ (k.Mark m.CloseParenthesis ∷ body))
    ∙ ap (λ t. line_of u ++ (on_line kind ∷ t)) (between v (k.Mark m.CloseParenthesis) body))

for-header : (u v z body : Kinds)
    → line_of (enclosed (u ++ (k.Mark m.Semicolon ∷ (v ++ (k.Mark m.Semicolon ∷ z)))) ++ body)
    ≡ mark m.OpenParenthesis false ∷ (line_of u ++ (mark m.Semicolon false ∷ (line_of v ++ (mark m.Semicolon false ∷ (line_of z ++ (mark m.CloseParenthesis false ∷ line_of body))))))
for-header u v z body =
    header u (k.Mark m.Semicolon) (v ++ (k.Mark m.Semicolon ∷ z)) body
    ∙ ap (λ t. mark m.OpenParenthesis false ∷ (line_of u ++ (mark m.Semicolon false ∷ t)))
    (ap (λ t. t ++ (mark m.CloseParenthesis false ∷ line_of body)) (between v (k.Mark m.Semicolon) z)
    ∙ append_assoc (line_of v) (mark m.Semicolon false ∷ line_of z) (mark m.CloseParenthesis false ∷ line_of body))

-- where an `else` comes behind the clauses of two `switch` of one tree, it comes behind both
clauses-follow : {form : Form} {c : Context} {may might : Bool} {u v : Symbols} {next other : Symbol} {cs : Cases} → CaseClauses form c may u next cs → CaseClauses form c might v other cs
    → (other.kind ≡ k.Word w.Else → next.kind ≡ k.Word w.Else) → (first v other).kind ≡ k.Word w.Else → (first u next).kind ≡ k.Word w.Else
clauses-follow g.no_clause g.no_clause h e = h e
clauses-follow (g.case_and a d x ss cs) (g.case_and b f y ts ds) h e = cc
clauses-follow (g.default_and a d ss cs) (g.default_and b f ts ds) h e = cc

mutual
  again : {form : Form} {i : Bool} {l : ℕ} {u : Symbols} {x : Expr} → Expression form i l u x → Reads form x
  again (g.this c h) j in_may = g.this false (lit≤ tt)
  again (g.identifier c h r) j in_may = g.identifier false (lit≤ tt) r
  again (g.null c h) j in_may = g.null false (lit≤ tt)
  again (g.truth c h) j in_may = g.truth false (lit≤ tt)
  again (g.falsehood c h) j in_may = g.falsehood false (lit≤ tt)
  again (g.numeral d c h) j in_may = g.numeral true false (lit≤ tt)
  again (g.literal c h) j in_may = g.literal false (lit≤ tt)
  again (g.array {es = es} c d h xs) j in_may =
      moved (g.array false false (lit≤ tt) (elements-again xs)) (ap (λ t. mark m.OpenBracket false ∷ t) (between (elements es) (k.Mark m.CloseBracket) []))
  again (g.object {ps = ps} c d h xs) j in_may =
      moved (g.object false false (lit≤ tt) (properties-again xs)) (ap (λ t. mark m.OpenBrace false ∷ t) (between (pairs ps) (k.Mark m.CloseBrace) []))
  again (g.parenthesised c d h x) j in_may = again x j in_may
  again (g.function c h f) j in_may = g.function false (lit≤ tt) (rest-again f)
  again (g.named_function c d h r f) j in_may = g.named_function false false (lit≤ tt) r (rest-again f)
  again (g.late c1 c2 c3 c4 c5 c6 c7 h form number) j in_may = g.late false false false false false false false (lit≤ tt) form number
  again (g.dot {n = n} {x = x} o c d h1 h2 h dx r) j in_may =
      moved (g.dot (called (has_call x)) false false (called-least (has_call x)) (called-most (has_call x)) (omega arith) (operand-called (is_number x || is_function x) j (again dx)) r)
      (between (operand_for (is_number x || is_function x) j 16 x (expr x)) (k.Mark m.Dot) (k.Name n ∷ []))
  again (g.index {x = x} {y = y} o c d h1 h2 h dx dy) j in_may =
      moved (g.index (called (has_call x)) false false (called-least (has_call x)) (called-most (has_call x)) (omega arith) (operand-called (is_function x) j (again dx)) (operand-at true 1 (lit≤ tt) (again dy)))
      (between (operand_for (is_function x) j 16 x (expr x)) (k.Mark m.OpenBracket) (operand true 1 y (expr y) ++ (k.Mark m.CloseBracket ∷ []))
      ∙ ap (λ t. line_of (operand_for (is_function x) j 16 x (expr x)) ++ (mark m.OpenBracket false ∷ t)) (between (operand true 1 y (expr y)) (k.Mark m.CloseBracket) []))
  again (g.call {x = x} {xs = xs} h dx ys) j in_may =
      moved (g.call (lit≤ tt) (lower (called-least (has_call x)) (operand-called (is_function x) j (again dx))) (arguments-again ys))
      (line-append (operand_for (is_function x) j 16 x (expr x)) (enclosed (exprs xs)))
  again (g.new {x = x} {xs = xs} c h dx ys) j in_may =
      moved (g.new false (lit≤ tt) (operand-new (is_function x) j (again dx)) (arguments-again ys))
      (ap (λ t. word w.New false ∷ t) (line-append (operand_for (is_function x || has_call x) j 16 x (expr x)) (enclosed (exprs xs))))
  again (g.bare_new {x = x} c h dx) j in_may = new-again x j (callee-again dx)
  again (g.postfix {x = x} op h dx t) j in_may =
      moved (g.postfix op (lit≤ tt) (operand-at j 16 (lit≤ tt) (again dx)) t)
      (line-append (operand j 16 x (expr x)) (shown.postfix_sign op ∷ []) ∙ ap (λ kind. line_of (operand j 16 x (expr x)) ++ (on_line kind ∷ [])) (same-postfix op))
  again {form = form} (g.prefix {x = x} op c h n dx) j in_may =
      signed op x j (g.prefix op false (lit≤ tt) n (subst (λ l. Expression form j l (line_of (operand j (prefix_least (changes op)) x (expr x))) x) (ap prefix_least n) (operand-at j (prefix_least (changes op)) (least-of (changes op)) (again dx))))
  again {form = form} (g.changed {x = x} op c h n dx t) j in_may =
      signed op x j (g.changed op false (lit≤ tt) n (subst (λ l. Expression form j l (line_of (operand j (prefix_least (changes op)) x (expr x))) x) (ap prefix_least n) (operand-at j (prefix_least (changes op)) (least-of (changes op)) (again dx))) t)
  again {form = form} (g.binary {x = x} {y = y} op c h m dx dy) j in_may = let most = level-most op in
      subst (λ l. Expression form j l (line_of (expr (joined op x y) j)) (joined op x y)) (sym (exact-joined op x y))
      (moved (g.binary op false (omega arith) (may-operate j op x y in_may) (operand-at j (level op) (omega arith) (again dx)) (operand-at j (suc (level op)) (omega arith) (again dy)))
      (ap line_of (joined-line op x y j) ∙ between (operand j (level op) x (expr x)) (sign op) (operand j (suc (level op)) y (expr y))))
  again (g.conditional {x = x} {y = y} {other = z} c d h dx dy dz) j in_may =
      moved (g.conditional false false (lit≤ tt) (operand-at j 4 (lit≤ tt) (again dx)) (widen (operand-at j 2 (lit≤ tt) (again dy))) (operand-at j 2 (lit≤ tt) (again dz)))
      (between (operand j 4 x (expr x)) (k.Mark m.Question) (operand j 2 y (expr y) ++ (k.Mark m.Colon ∷ operand j 2 z (expr z)))
      ∙ ap (λ t. line_of (operand j 4 x (expr x)) ++ (mark m.Question false ∷ t)) (between (operand j 2 y (expr y)) (k.Mark m.Colon) (operand j 2 z (expr z))))
  again (g.assign {x = x} {y = y} op joint c h a dx t dy) j in_may =
      moved (g.assign op (assignment_mark (assignment op)) false (lit≤ tt) (assigned (assignment op) joint a) (operand-at j 16 (lit≤ tt) (again dx)) t (operand-at j 2 (lit≤ tt) (again dy)))
      (between (operand j 16 x (expr x)) (k.Mark (assignment_mark (shown.assignment op))) (operand j 2 y (expr y))
      ∙ ap (λ o. line_of (operand j 16 x (expr x)) ++ (mark (assignment_mark o) false ∷ line_of (operand j 2 y (expr y)))) (same-assignment op))
  again (g.comma {x = x} {y = y} c h dx dy) j in_may =
      moved (g.comma false (lit≤ tt) (operand-at j 1 (lit≤ tt) (again dx)) (operand-at j 2 (lit≤ tt) (again dy))) (between (operand j 1 x (expr x)) (k.Mark m.Comma) (operand j 2 y (expr y)))

  callee-again : {form : Form} {i : Bool} {u : Symbols} {x : Expr} → NewCallee form i u x → Reads form x
  callee-again (g.member x) = again x
  callee-again (g.new_again {x = x} c dx) = λ j in_may. new-again x j (callee-again dx)

  arguments-again : {form : Form} {u : Symbols} {xs : Exprs} → Arguments form u xs → Arguments form (line_of (enclosed (exprs xs))) xs
  arguments-again (g.no_arguments c d) = g.no_arguments false false
  arguments-again {form = form} (g.arguments {xs = xs} c d ys) =
      subst (λ t. Arguments form (mark m.OpenParenthesis false ∷ t) xs) (sym (between (exprs xs) (k.Mark m.CloseParenthesis) [])) (g.arguments false false (argument-list-again ys))

  argument-list-again : {form : Form} {u : Symbols} {xs : Exprs} → ArgumentList form u xs → ArgumentList form (line_of (exprs xs)) xs
  argument-list-again {form = form} (g.last_argument {x = x} dx) =
      subst (λ t. ArgumentList form t (Tree.MoreExprs x Tree.NoExprs)) (ap line_of (sym (append-nil (operand true 2 x (expr x))))) (g.last_argument (operand-at true 2 (lit≤ tt) (again dx)))
  argument-list-again {form = form} (g.argument_and {x = x} {xs = xs} c dx ys) =
      subst (λ t. ArgumentList form t (Tree.MoreExprs x xs)) (sym (ap (λ t. line_of (operand true 2 x (expr x) ++ t)) (other-arguments ys) ∙ between (operand true 2 x (expr x)) (k.Mark m.Comma) (exprs xs)))
      (g.argument_and false (operand-at true 2 (lit≤ tt) (again dx)) (argument-list-again ys))

  elements-again : {form : Form} {u : Symbols} {es : Elements} → ElementList form u es → ElementList form (line_of (elements es)) es
  elements-again g.no_element = g.no_element
  elements-again {form = form} (g.last_element {x = x} dx) =
      subst (λ t. ElementList form t (Tree.MoreElements (Tree.AnExpr x) Tree.NoElements)) (ap line_of (sym (append-nil (operand true 2 x (expr x))))) (g.last_element (operand-at true 2 (lit≤ tt) (again dx)))
  elements-again {form = form} (g.element_and {x = x} {es = Tree.NoElements} c dx xs) =
      subst (λ t. ElementList form t (Tree.MoreElements (Tree.AnExpr x) Tree.NoElements)) (ap line_of (sym (append-nil (operand true 2 x (expr x))))) (g.last_element (operand-at true 2 (lit≤ tt) (again dx)))
  elements-again {form = form} (g.element_and {x = x} {es = Tree.MoreElements next es} c dx xs) =
      subst (λ t. ElementList form t (Tree.MoreElements (Tree.AnExpr x) (Tree.MoreElements next es))) (sym (between (operand true 2 x (expr x)) (k.Mark m.Comma) (elements (Tree.MoreElements next es))))
      (g.element_and false (operand-at true 2 (lit≤ tt) (again dx)) (elements-again xs))
  elements-again (g.hole_and {es = Tree.NoElements} c xs) = g.hole_and false g.no_element
  elements-again (g.hole_and {es = Tree.MoreElements next es} c xs) = g.hole_and false (elements-again xs)

  properties-again : {form : Form} {u : Symbols} {ps : Pairs} → PropertyList form u ps → PropertyList form (line_of (pairs ps)) ps
  properties-again g.no_property = g.no_property
  properties-again {form = form} (g.last_property {key = key} {x = x} s d r dx) =
      subst (λ t. PropertyList form (on_line (key_kind key) ∷ (mark m.Colon false ∷ t)) (Tree.MorePairs key x Tree.NoPairs)) (ap line_of (sym (append-nil (operand true 2 x (expr x)))))
      (g.last_property (on_line (key_kind key)) false (key_back form s.kind key r) (operand-at true 2 (lit≤ tt) (again dx)))
  properties-again {form = form} (g.property_and {key = key} {x = x} {ps = Tree.NoPairs} s d f r dx ps) =
      subst (λ t. PropertyList form (on_line (key_kind key) ∷ (mark m.Colon false ∷ t)) (Tree.MorePairs key x Tree.NoPairs)) (ap line_of (sym (append-nil (operand true 2 x (expr x)))))
      (g.last_property (on_line (key_kind key)) false (key_back form s.kind key r) (operand-at true 2 (lit≤ tt) (again dx)))
  properties-again {form = form} (g.property_and {key = key} {x = x} {ps = Tree.MorePairs other value more} s d f r dx ps) =
      subst (λ t. PropertyList form (on_line (key_kind key) ∷ (mark m.Colon false ∷ t)) (Tree.MorePairs key x (Tree.MorePairs other value more)))
      (sym (between (operand true 2 x (expr x)) (k.Mark m.Comma) (pairs (Tree.MorePairs other value more))))
      (g.property_and (on_line (key_kind key)) false false (key_back form s.kind key r) (operand-at true 2 (lit≤ tt) (again dx)) (properties-again ps))

  rest-again : {form : Form} {u : Symbols} {ns : List Name} {body : Stmts} → FunctionRest form u ns body
      → FunctionRest form (line_of (enclosed (names ns) ++ (k.Mark m.OpenBrace ∷ (stmts body ++ (k.Mark m.CloseBrace ∷ []))))) ns body
  rest-again {form = form} (g.function_rest {ns = ns} {body = body} c d f h fs r ss) =
      subst (λ t. FunctionRest form t ns body)
      (sym (enclosed-line (names ns) (k.Mark m.OpenBrace ∷ (stmts body ++ (k.Mark m.CloseBrace ∷ [])))
      ∙ ap (λ t. mark m.OpenParenthesis false ∷ (line_of (names ns) ++ (mark m.CloseParenthesis false ∷ (mark m.OpenBrace false ∷ t)))) (between (stmts body) (k.Mark m.CloseBrace) [])))
      (g.function_rest false false false false (formals-again fs) r (source-again ss (mark m.CloseBrace false) (λ e. cc)))

  declarator-again : {form : Form} {i : Bool} {u : Symbols} {n : Name} {value : MaybeExpr} → Declarator form i u n value → (j : Bool) → Declarator form j (line_of (k.Name n ∷ initialiser value j)) n value
  declarator-again (g.bare c r) j = g.bare false r
  declarator-again (g.initialised c d r dx) j = g.initialised false false r (operand-at j 2 (lit≤ tt) (again dx))

  declarators-again : {form : Form} {i : Bool} {u : Symbols} {items : VarItems} → DeclaratorList form i u items → (j : Bool) → DeclaratorList form j (line_of (var_items items j)) items
  declarators-again {form = form} (g.last_declarator {n = n} {value = value} x) j =
      subst (λ t. DeclaratorList form j (name n false ∷ t) (Tree.MoreVarItems n value Tree.NoVarItems)) (ap line_of (sym (append-nil (initialiser value j)))) (g.last_declarator (declarator-again x j))
  declarators-again {form = form} (g.declarator_and {n = n} {value = value} {items = items} c x xs) j =
      subst (λ t. DeclaratorList form j (name n false ∷ t) (Tree.MoreVarItems n value items))
      (sym (ap (λ t. line_of (initialiser value j ++ t)) (other-declarators xs j) ∙ between (initialiser value j) (k.Mark m.Comma) (var_items items j)))
      (g.declarator_and false (declarator-again x j) (declarators-again xs j))

  optional-again : {form : Form} {u : Symbols} {x : MaybeExpr} → OptionalExpression form u x → OptionalExpression form (line_of (maybe_expr x)) x
  optional-again g.absent = g.absent
  optional-again (g.present x) = g.present (full-of (again x))

  first-again : {form : Form} {u : Symbols} {init : ForInit} → ForFirst form u init → ForFirst form (line_of (for_init init)) init
  first-again g.nothing_first = g.nothing_first
  first-again (g.variables_first c xs) = g.variables_first false (declarators-again xs false)
  first-again (g.expression_first x) = g.expression_first (operand-at false 1 (lit≤ tt) (again x))

  block-again : {form : Form} {c : Context} {u : Symbols} {s : Stmt} → Block form c u s → Block form c (line_of (stmt s)) s
  block-again {form = form} {c = c} (g.braces {ss = ss} b d xs) =
      subst (λ t. Block form c (mark m.OpenBrace false ∷ t) (Tree.Block ss)) (sym (between (stmts ss) (k.Mark m.CloseBrace) [])) (g.braces false false (list-again xs (mark m.CloseBrace false) (λ e. cc)))

  statement-again : {form : Form} {c : Context} {u : Symbols} {next : Symbol} {s : Stmt} → Statement form c u next s
      → (other : Symbol) → (other.kind ≡ k.Word w.Else → next.kind ≡ k.Word w.Else) → Statement form c (line_of (stmt s)) other s
  statement-again (g.block b) other h = g.block (block-again b)
  statement-again (g.variables {items = items} c xs ends) other h =
      moved-statement (g.variables false (declarators-again xs true) (written false)) (ap (λ t. word w.Var false ∷ t) (between (var_items items true) (k.Mark m.Semicolon) []))
  statement-again (g.empty c) other h = g.empty false
  statement-again {c = c} (g.expression {x = x} dx h1 h2 ends) other h = stated c x other (begins_as_another (expr x true)) refl (again dx)
  statement-again (g.if {x = x} {s = s} b d f dx ds away) other h =
      moved-statement (g.if false false false (full-of (again dx)) (statement-again ds other h) (λ e. away (h e)))
      (ap (λ t. word w.If false ∷ t) (enclosed-line (expr x true) (stmt s ++ []) ∙ ap (λ t. mark m.OpenParenthesis false ∷ (line_of (expr x true) ++ (mark m.CloseParenthesis false ∷ line_of t))) (append-nil (stmt s))))
  statement-again (g.if_else {x = x} {s = s} {other = z} b d f j dx ds dz) other h =
      moved-statement (g.if_else false false false false (full-of (again dx)) (statement-again ds (word w.Else false) (λ e. refl)) (statement-again dz other h))
      (ap (λ t. word w.If false ∷ t) (enclosed-line (expr x true) (stmt s ++ (k.Word w.Else ∷ stmt z))
      ∙ ap (λ t. mark m.OpenParenthesis false ∷ (line_of (expr x true) ++ (mark m.CloseParenthesis false ∷ t))) (between (stmt s) (k.Word w.Else) (stmt z))))
  statement-again (g.do_while {x = x} {s = s} b d f j ds dx ends) other h =
      moved-statement (g.do_while false false false false (statement-again ds (word w.While false) (λ e. e)) (full-of (again dx)) (written false))
      (ap (λ t. word w.Do false ∷ t) (between (stmt s) (k.Word w.While) (enclosed (expr x true) ++ (k.Mark m.Semicolon ∷ []))
      ∙ ap (λ t. line_of (stmt s) ++ (word w.While false ∷ t)) (enclosed-line (expr x true) (k.Mark m.Semicolon ∷ []))))
  statement-again (g.while {x = x} {s = s} b d f dx ds) other h =
      moved-statement (g.while false false false (full-of (again dx)) (statement-again ds other h)) (ap (λ t. word w.While false ∷ t) (enclosed-line (expr x true) (stmt s)))
  statement-again (g.for {init = init} {test = test} {step = step} {s = s} b d f j o di dt dn ds) other h =
      moved-statement (g.for false false false false false (first-again di) (optional-again dt) (optional-again dn) (statement-again ds other h))
      (ap (λ t. word w.For false ∷ t) (for-header (for_init init) (maybe_expr test) (maybe_expr step) (stmt s)))
  statement-again (g.for_in {x = x} {y = y} {s = s} b d f j dx t dy ds) other h =
      moved-statement (g.for_in false false false false (operand-at false 16 (lit≤ tt) (again dx)) t (full-of (again dy)) (statement-again ds other h))
      (ap (λ t. word w.For false ∷ t) (header (operand false 16 x (expr x)) (k.Word w.In) (expr y true) (stmt s)))
  statement-again (g.for_var_in {n = n} {value = value} {y = y} {s = s} b d f j o dx dy ds) other h =
      moved-statement (g.for_var_in false false false false false (declarator-again dx false) (full-of (again dy)) (statement-again ds other h))
      (ap (λ t. word w.For false ∷ t) (header (k.Word w.Var ∷ (k.Name n ∷ initialiser value false)) (k.Word w.In) (expr y true) (stmt s)))
  statement-again (g.continue b may ends) other h = g.continue false may semicolon
  statement-again (g.continue_to b r may ends) other h = g.continue_to false r may (written false)
  statement-again (g.break b may ends) other h = g.break false may semicolon
  statement-again (g.break_from b r may ends) other h = g.break_from false r may (written false)
  statement-again (g.return b may ends) other h = g.return false may semicolon
  statement-again (g.return_value {x = x} b may dx start ends) other h =
      moved-statement (g.return_value false may (full-of (again dx)) (line-start (expr x true) other (some-tokens (again dx))) (written false))
      (ap (λ t. word w.Return false ∷ t) (between (expr x true) (k.Mark m.Semicolon) []))
  statement-again (g.switch {x = x} {cs = cs} b d f j o dx dcs) other h =
      moved-statement (g.switch false false false false false (full-of (again dx)) (clauses-again dcs (mark m.CloseBrace false) (λ e. cc)))
      (ap (λ t. word w.Switch false ∷ t) (enclosed-line (expr x true) (k.Mark m.OpenBrace ∷ (cases cs ++ (k.Mark m.CloseBrace ∷ [])))
      ∙ ap (λ t. mark m.OpenParenthesis false ∷ (line_of (expr x true) ++ (mark m.CloseParenthesis false ∷ (mark m.OpenBrace false ∷ t)))) (between (cases cs) (k.Mark m.CloseBrace) [])))
  statement-again (g.label b d r away ds) other h = g.label false false r away (statement-again ds other h)
  statement-again (g.throw {x = x} b dx start ends) other h =
      moved-statement (g.throw false (full-of (again dx)) (line-start (expr x true) other (some-tokens (again dx))) (written false))
      (ap (λ t. word w.Throw false ∷ t) (between (expr x true) (k.Mark m.Semicolon) []))
  statement-again (g.try_catch {n = n} {s = s} {handler = z} b d f j o ds r dz) other h =
      moved-statement (g.try_catch false false false false false (block-again ds) r (block-again dz))
      (ap (λ t. word w.Try false ∷ t) (between (stmt s) (k.Word w.Catch) ((enclosed (k.Name n ∷ []) ++ stmt z) ++ [])
      ∙ ap (λ t. line_of (stmt s) ++ (word w.Catch false ∷ (mark m.OpenParenthesis false ∷ (name n false ∷ (mark m.CloseParenthesis false ∷ line_of t))))) (append-nil (stmt z))))
  statement-again (g.try_finally {s = s} {last = z} b d ds dz) other h =
      moved-statement (g.try_finally false false (block-again ds) (block-again dz)) (ap (λ t. word w.Try false ∷ t) (between (stmt s) (k.Word w.Finally) (stmt z)))
  statement-again (g.try_catch_finally {n = n} {s = s} {handler = y} {last = z} b d f j o p ds r dy dz) other h =
      moved-statement (g.try_catch_finally false false false false false false (block-again ds) r (block-again dy) (block-again dz))
      (ap (λ t. word w.Try false ∷ t) (between (stmt s) (k.Word w.Catch) ((enclosed (k.Name n ∷ []) ++ stmt y) ++ (k.Word w.Finally ∷ stmt z))
      ∙ ap (λ t. line_of (stmt s) ++ (word w.Catch false ∷ (mark m.OpenParenthesis false ∷ (name n false ∷ (mark m.CloseParenthesis false ∷ t))))) (between (stmt y) (k.Word w.Finally) (stmt z))))

  list-again : {form : Form} {c : Context} {u : Symbols} {next : Symbol} {ss : Stmts} → StatementList form c u next ss
      → (other : Symbol) → (other.kind ≡ k.Word w.Else → next.kind ≡ k.Word w.Else) → StatementList form c (line_of (stmts ss)) other ss
  list-again g.no_statement other h = g.no_statement
  list-again {form = form} {c = c} (g.statement_and {s = s} {ss = ss} d ds) other h = let rest = list-again ds other h in
      subst (λ t. StatementList form c t other (Tree.MoreStmts s ss)) (sym (line-append (stmt s) (stmts ss)))
      (g.statement_and (statement-again d (first (line_of (stmts ss)) other) (list-follows ds rest h)) rest)

  clauses-again : {form : Form} {c : Context} {may : Bool} {u : Symbols} {next : Symbol} {cs : Cases} → CaseClauses form c may u next cs
      → (other : Symbol) → (other.kind ≡ k.Word w.Else → next.kind ≡ k.Word w.Else) → CaseClauses form c may (line_of (cases cs)) other cs
  clauses-again g.no_clause other h = g.no_clause
  clauses-again {form = form} {c = c} {may = may} (g.case_and {x = x} {ss = ss} {cs = cs} b d dx ds dcs) other h = let rest = clauses-again dcs other h in
      subst (λ t. CaseClauses form c may (word w.Case false ∷ t) other (Tree.MoreCases (Tree.AnExpr x) ss cs))
      (sym (between (expr x true) (k.Mark m.Colon) (stmts ss ++ cases cs) ∙ ap (λ t. line_of (expr x true) ++ (mark m.Colon false ∷ t)) (line-append (stmts ss) (cases cs))))
      (g.case_and false false (full-of (again dx)) (list-again ds (first (line_of (cases cs)) other) (clauses-follow dcs rest h)) rest)
  clauses-again {form = form} {c = c} (g.default_and {ss = ss} {cs = cs} b d ds dcs) other h = let rest = clauses-again dcs other h in
      subst (λ t. CaseClauses form c true (word w.Default false ∷ (mark m.Colon false ∷ t)) other (Tree.MoreCases Tree.NoExpr ss cs)) (sym (line-append (stmts ss) (cases cs)))
      (g.default_and false false (list-again ds (first (line_of (cases cs)) other) (clauses-follow dcs rest h)) rest)

  element-again : {form : Form} {c : Context} {u : Symbols} {next : Symbol} {s : Stmt} → SourceElement form c u next s
      → (other : Symbol) → (other.kind ≡ k.Word w.Else → next.kind ≡ k.Word w.Else) → SourceElement form c (line_of (stmt s)) other s
  element-again (g.statement d) other h = g.statement (statement-again d other h)
  element-again (g.declaration b d r f) other h = g.declaration false false r (rest-again f)

  source-again : {form : Form} {c : Context} {u : Symbols} {next : Symbol} {ss : Stmts} → SourceElements form c u next ss
      → (other : Symbol) → (other.kind ≡ k.Word w.Else → next.kind ≡ k.Word w.Else) → SourceElements form c (line_of (stmts ss)) other ss
  source-again g.no_source other h = g.no_source
  source-again {form = form} {c = c} (g.source_and {s = s} {ss = ss} d ds) other h = let rest = source-again ds other h in
      subst (λ t. SourceElements form c t other (Tree.MoreStmts s ss)) (sym (line-append (stmt s) (stmts ss)))
      (g.source_and (element-again d (first (line_of (stmts ss)) other) (elements-follow ds rest h)) rest)

-- also where the end stands on a line of its own or not
pub read_back_to : (form : Form) (tokens : Symbols) (tree : Tree.Script) → Derives form tokens tree → (newline : Bool) → Derives form (line_of (stmts tree) ++ (end newline ∷ [])) tree
read_back_to form tokens tree d newline =
    record { elements = line_of (stmts tree); newline = newline; whole = refl; derived = source-again d.derived (end newline) (λ e. cc) }

pub read_back : (form : Form) (tokens : Symbols) (tree : Tree.Script) → Derives form tokens tree → Derives form (line_of (stmts tree) ++ (end false ∷ [])) tree
read_back form tokens tree d = read_back_to form tokens tree d false

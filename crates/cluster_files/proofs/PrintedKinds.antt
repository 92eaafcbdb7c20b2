-- The kinds that the tree of read tokens is written as may be written, by induction on a derivation.
use Rattle.std.proofs.Common.{if◌then◌else◌, ◌≡◌, ℕ, suc, Bool, true, false, ◌&&◌, ◌||◌, nat_lt, nat_le, List, [], ◌∷◌, ◌++◌, Some, None, refl, subst, arith}
use Rattle.std.proofs.lemmas.Bool.{leb-true, lt-ltb}
use Rattle.std.specs.List.{list_all}
use Rattle.std.specs.Fmt.{decimal}
use Rattle.js_lexer.specs.Characters.{is_digit}
use Rattle.js_lexer.specs.Names.{is_name}
use Rattle.js_lexer.specs.declared.mark.Mark.TheVariants as m
use Rattle.js_lexer.specs.declared.word.Word.TheVariants as w
use Rattle.js_lexer.specs.declared.token.TokenKind.{TokenKind}
use Rattle.js_lexer.specs.declared.token.TokenKind.TheVariants as k
use Rattle.js_lexer.proofs.PieceLaws.{left, right}
use Rattle.js_tree.specs.declared.tree.BinaryOp.{BinaryOp}
use Rattle.js_tree.specs.declared.tree.BinaryOp.TheVariants as b
use Rattle.js_tree.specs.declared.tree.PrefixOp.{PrefixOp}
use Rattle.js_tree.specs.declared.tree.PrefixOp.TheVariants as p
use Rattle.js_tree.specs.declared.tree.PostfixOp.{PostfixOp}
use Rattle.js_tree.specs.declared.tree.PostfixOp.TheVariants as q
use Rattle.js_tree.specs.Levels.{Operator, LogicalOr, LogicalAnd, Operation, joined, level, changes}
use Rattle.js_tree.specs.Tree.{Name, Expr, Exprs, MaybeExpr, Elements, Pairs, Stmt, Stmts, VarItems, Cases, ForInit}
use Rattle.js_tree.specs.Tree
use Rattle.js_parser.specs.declared.form.Form.{Form}
use Rattle.js_parser.specs.Symbols.{Symbol, Symbols, end}
use Rattle.js_parser.specs.Names.{key_of, may_stand, is_own}
use Rattle.js_parser.specs.Contexts.{Context}
use Rattle.js_parser.specs.Grammar.{Formals, Expression, NewCallee, Arguments, ArgumentList, ElementList, PropertyList, FunctionRest, Declarator, DeclaratorList, OptionalExpression, ForFirst, Block, Statement, StatementList, CaseClauses, SourceElement, SourceElements}
use Rattle.js_parser.specs.Grammar as g
use Rattle.js_parser.specs.Accepted.{Derives}
use Rattle.js_printer.specs.Printed.{Kinds, is_number, is_function, has_call, enclosed, enclosed_if, needs, operand_for, operand, key_kind, assignment_mark, prefix_least, names, begins_as_another}
use Rattle.js_printer.specs.Printed.{expr, exprs, other_exprs, maybe_expr, elements, other_elements, pairs, other_pairs, handler, stmt, stmts, for_init, var_items, other_var_items, initialiser, cases}
use Rattle.js_printer.specs.Signs.{operation_sign, prefix_sign, postfix_sign, assignment}
use Rattle.cluster_files.specs.WritableKinds.{are_units, IsWritable, AreWritable, IsRead, AreRead}
use Rattle.cluster_files.proofs.SpelledNumbers.{decimal_digits}

-- ---- lists

both : (u v : Kinds) → AreWritable u → AreWritable v → AreWritable (u ++ v)
both [] v h i = i
both (kind ∷ u) v h i = (h.0, both u v h.1 i)

front : (u v : Symbols) → AreRead (u ++ v) → AreRead u
front [] v h = tt
front (s ∷ u) v h = (h.0, front u v h.1)

rest : (u v : Symbols) → AreRead (u ++ v) → AreRead v
rest [] v h = h
rest (s ∷ u) v h = rest u v h.1

enclosed_kinds : (u : Kinds) → AreWritable u → AreWritable (enclosed u)
enclosed_kinds u h = (tt, both u (k.Mark m.CloseParenthesis ∷ []) h (tt, tt))

-- a tree's tokens may be written, wherever an `in` may stand
abbrev Writes : Expr → Type 0
Writes x = (j : Bool) → AreWritable (expr x j)

enclosed_if_kinds : (a : Bool) (u : Kinds) → AreWritable u → AreWritable (enclosed_if a u)
enclosed_if_kinds true u h = enclosed_kinds u h
enclosed_if_kinds false u h = h

operand_kinds : (reason i : Bool) (least : ℕ) (x : Expr) → Writes x → AreWritable (operand_for reason i least x (expr x))
operand_kinds reason i least x d = enclosed_if_kinds (needs reason i least x) (expr x (i || needs reason i least x)) (d (i || needs reason i least x))

-- ---- signs

sign_kind : (op : BinaryOp) → IsWritable (operation_sign op)
sign_kind b.BitOr = tt
sign_kind _ = tt

prefix_kind : (op : PrefixOp) → IsWritable (prefix_sign op)
prefix_kind p.Delete = tt
prefix_kind _ = tt

postfix_kind : (op : PostfixOp) → IsWritable (postfix_sign op)
postfix_kind q.Increment = tt
postfix_kind q.Decrement = tt

joined_kinds : (op : Operator) (x y : Expr) (j : Bool) → Writes x → Writes y → AreWritable (expr (joined op x y) j)
joined_kinds LogicalOr x y j c d = both (operand j 4 x (expr x)) (k.Mark m.Or ∷ operand j 5 y (expr y)) (operand_kinds false j 4 x c) (tt, operand_kinds false j 5 y d)
joined_kinds LogicalAnd x y j c d = both (operand j 5 x (expr x)) (k.Mark m.And ∷ operand j 6 y (expr y)) (operand_kinds false j 5 x c) (tt, operand_kinds false j 6 y d)
joined_kinds (Operation op) x y j c d =
    both (operand j (level (Operation op)) x (expr x)) (operation_sign op ∷ operand j (suc (level (Operation op))) y (expr y)) (operand_kinds false j (level (Operation op)) x c)
    (sign_kind op, operand_kinds false j (suc (level (Operation op))) y d)

prefix_kinds : (op : PrefixOp) (x : Expr) (j : Bool) → Writes x → AreWritable (expr (Tree.Prefix op x) j)
prefix_kinds op x j d = (prefix_kind op, operand_kinds false j (prefix_least (changes op)) x d)

-- ---- keys

digits_units : (cs : List ℕ) → list_all is_digit cs ≡ true → are_units cs ≡ true
digits_units [] h = refl
digits_units (c ∷ cs) h =
    let high = leb-true c 57 (right (nat_le 48 c) (nat_le c 57) (left (is_digit c) (list_all is_digit cs) h)) in
    rw (lt-ltb c 0x1_0000 (omega arith)) (digits_units cs (right (is_digit c) (list_all is_digit cs) h))

some_units : (n key : Name) → Some n ≡ Some key → are_units n ≡ true → are_units key ≡ true
some_units n key e h = let same : n ≡ key = cc in subst (λ us. are_units us ≡ true) same h

if_units : (n key : Name) (a : Bool) → (if a then Some n else None) ≡ Some key → are_units n ≡ true → are_units key ≡ true
if_units n key true e h = some_units n key e h
if_units n key false e h = cc

unless_units : (n key : Name) (a : Bool) → (if a then None else Some n) ≡ Some key → are_units n ≡ true → are_units key ≡ true
unless_units n key true e h = cc
unless_units n key false e h = some_units n key e h

key_units : (form : Form) (kind : TokenKind) (key : Name) → key_of form kind ≡ Some key → IsRead kind → are_units key ≡ true
key_units form (k.Name n) key e h = if_units n key (may_stand form n) e h.1
key_units form (k.Str text) key e h = unless_units text key (is_own text) e h
key_units form (k.Number n) key e h = some_units (decimal n) key e (digits_units (decimal n) (decimal_digits n h))
key_units form (k.Word word) key e h = cc
key_units form (k.Mark x) key e h = cc
key_units form k.End key e h = cc

key_writable : (key : Name) → are_units key ≡ true → IsWritable (key_kind key)
key_writable key h = at (is_name key) (list_all (λ unit. nat_lt unit 128) key) refl
  where
    at : (a c : Bool) → is_name key ≡ a → IsWritable (if a && c then k.Name key else k.Str key)
    at true true e = (e, h)
    at true false e = h
    at false c e = h

-- ---- lists

formals_kinds : {form : Form} {u : Symbols} {ns : List Name} → Formals form u ns → AreRead u → AreWritable (names ns)
formals_kinds g.no_formal h = tt
formals_kinds (g.last_formal c r) h = (h.0, tt)
formals_kinds (g.formal_and c d r fs) h = (h.0, (tt, formals_kinds fs h.1.1))

others_of_arguments : (es : Exprs) → AreWritable (exprs es) → AreWritable (other_exprs es)
others_of_arguments Tree.NoExprs h = tt
others_of_arguments (Tree.MoreExprs e es) h = (tt, h)

others_of_elements : (e : MaybeExpr) (es : Elements) → AreWritable (elements es) → AreWritable (other_elements e es)
others_of_elements Tree.NoExpr Tree.NoElements h = (tt, tt)
others_of_elements (Tree.AnExpr x) Tree.NoElements h = tt
others_of_elements Tree.NoExpr (Tree.MoreElements next es) h = (tt, h)
others_of_elements (Tree.AnExpr x) (Tree.MoreElements next es) h = (tt, h)

others_of_pairs : (ps : Pairs) → AreWritable (pairs ps) → AreWritable (other_pairs ps)
others_of_pairs Tree.NoPairs h = tt
others_of_pairs (Tree.MorePairs key value ps) h = (tt, h)

others_of_items : (items : VarItems) (j : Bool) → AreWritable (var_items items j) → AreWritable (other_var_items items j)
others_of_items Tree.NoVarItems j h = tt
others_of_items (Tree.MoreVarItems name value others) j h = (tt, h)

-- ---- trees

mutual
  kinds : {form : Form} {i : Bool} {l : ℕ} {u : Symbols} {x : Expr} → Expression form i l u x → AreRead u → Writes x
  kinds (g.this c e) h j = (tt, tt)
  kinds (g.identifier c e r) h j = (h.0, tt)
  kinds (g.null c e) h j = (tt, tt)
  kinds (g.truth c e) h j = (tt, tt)
  kinds (g.falsehood c e) h j = (tt, tt)
  kinds (g.numeral d c e) h j = (h.0, tt)
  kinds (g.literal c e) h j = (h.0, tt)
  kinds (g.array {u = u} {es = es} c d e xs) h j = (tt, both (elements es) (k.Mark m.CloseBracket ∷ []) (elements_kinds xs (front u _ h.1)) (tt, tt))
  kinds (g.object {u = u} {ps = ps} c d e xs) h j = (tt, both (pairs ps) (k.Mark m.CloseBrace ∷ []) (pairs_kinds xs (front u _ h.1)) (tt, tt))
  kinds (g.parenthesised {u = u} c d e x) h j = kinds x (front u _ h.1) j
  kinds (g.function c e f) h j = (tt, function_kinds f h.1)
  kinds (g.named_function c d e r f) h j = (tt, (h.1.0, function_kinds f h.1.1))
  kinds (g.late c1 c2 c3 c4 c5 c6 c7 e form number) h j = (h.0, (tt, (h.1.1.0, (tt, (h.1.1.1.1.0, (tt, (tt, tt)))))))
  kinds (g.dot {n = n} {u = u} {x = x} o c d h1 h2 e dx r) h j =
      both (operand_for (is_number x || is_function x) j 16 x (expr x)) (k.Mark m.Dot ∷ (k.Name n ∷ []))
      (operand_kinds (is_number x || is_function x) j 16 x (kinds dx (front u _ h))) (tt, ((rest u _ h).1.0, tt))
  kinds (g.index {u = u} {v = v} {x = x} {y = y} o c d h1 h2 e dx dy) h j =
      both (operand_for (is_function x) j 16 x (expr x)) (k.Mark m.OpenBracket ∷ (operand true 1 y (expr y) ++ (k.Mark m.CloseBracket ∷ [])))
      (operand_kinds (is_function x) j 16 x (kinds dx (front u _ h)))
      (tt, both (operand true 1 y (expr y)) (k.Mark m.CloseBracket ∷ []) (operand_kinds false true 1 y (kinds dy (front v _ (rest u _ h).1))) (tt, tt))
  kinds (g.call {u = u} {v = v} {x = x} {xs = xs} e dx ys) h j =
      both (operand_for (is_function x) j 16 x (expr x)) (enclosed (exprs xs)) (operand_kinds (is_function x) j 16 x (kinds dx (front u v h))) (enclosed_kinds (exprs xs) (arguments_kinds ys (rest u v h)))
  kinds (g.new {u = u} {v = v} {x = x} {xs = xs} c e dx ys) h j = (
    tt,
    both (operand_for (is_function x || has_call x) j 16 x (expr x)) (enclosed (exprs xs)) (operand_kinds (is_function x || has_call x) j 16 x (kinds dx (front u v h.1)))
        (enclosed_kinds (exprs xs) (arguments_kinds ys (rest u v h.1))),
  )
  kinds (g.bare_new {x = x} c e dx) h j =
      (tt, both (operand_for (is_function x || has_call x) j 16 x (expr x)) (enclosed []) (operand_kinds (is_function x || has_call x) j 16 x (callee_kinds dx h.1)) (tt, (tt, tt)))
  kinds (g.postfix {u = u} {x = x} op e dx t) h j =
      both (operand j 16 x (expr x)) (postfix_sign op ∷ []) (operand_kinds false j 16 x (kinds dx (front u _ h))) (postfix_kind op, tt)
  kinds (g.prefix {x = x} op c e n dx) h j = prefix_kinds op x j (kinds dx h.1)
  kinds (g.changed {x = x} op c e n dx t) h j = prefix_kinds op x j (kinds dx h.1)
  kinds (g.binary {u = u} {x = x} {y = y} op c e may dx dy) h j = joined_kinds op x y j (kinds dx (front u _ h)) (kinds dy (rest u _ h).1)
  kinds (g.conditional {u = u} {v = v} {x = x} {y = y} {other = z} c d e dx dy dz) h j =
      both (operand j 4 x (expr x)) (k.Mark m.Question ∷ (operand j 2 y (expr y) ++ (k.Mark m.Colon ∷ operand j 2 z (expr z)))) (operand_kinds false j 4 x (kinds dx (front u _ h))) (
        tt,
        both (operand j 2 y (expr y)) (k.Mark m.Colon ∷ operand j 2 z (expr z)) (operand_kinds false j 2 y (kinds dy (front v _ (rest u _ h).1)))
            (tt, operand_kinds false j 2 z (kinds dz (rest v _ (rest u _ h).1).1)),
      )
  kinds (g.assign {u = u} {x = x} {y = y} op joint c e a dx t dy) h j =
      both (operand j 16 x (expr x)) (k.Mark (assignment_mark (assignment op)) ∷ operand j 2 y (expr y)) (operand_kinds false j 16 x (kinds dx (front u _ h)))
      (tt, operand_kinds false j 2 y (kinds dy (rest u _ h).1))
  kinds (g.comma {u = u} {x = x} {y = y} c e dx dy) h j =
      both (operand j 1 x (expr x)) (k.Mark m.Comma ∷ operand j 2 y (expr y)) (operand_kinds false j 1 x (kinds dx (front u _ h))) (tt, operand_kinds false j 2 y (kinds dy (rest u _ h).1))

  callee_kinds : {form : Form} {i : Bool} {u : Symbols} {x : Expr} → NewCallee form i u x → AreRead u → Writes x
  callee_kinds (g.member d) h = kinds d h
  callee_kinds (g.new_again {x = x} c dx) h = λ j.
      (tt, both (operand_for (is_function x || has_call x) j 16 x (expr x)) (enclosed []) (operand_kinds (is_function x || has_call x) j 16 x (callee_kinds dx h.1)) (tt, (tt, tt)))

  arguments_kinds : {form : Form} {u : Symbols} {xs : Exprs} → Arguments form u xs → AreRead u → AreWritable (exprs xs)
  arguments_kinds (g.no_arguments c d) h = tt
  arguments_kinds (g.arguments {u = u} c d ys) h = argument_list_kinds ys (front u _ h.1)

  argument_list_kinds : {form : Form} {u : Symbols} {xs : Exprs} → ArgumentList form u xs → AreRead u → AreWritable (exprs xs)
  argument_list_kinds (g.last_argument {x = x} dx) h = both (operand true 2 x (expr x)) [] (operand_kinds false true 2 x (kinds dx h)) tt
  argument_list_kinds (g.argument_and {u = u} {x = x} {xs = xs} c dx ys) h =
      both (operand true 2 x (expr x)) (other_exprs xs) (operand_kinds false true 2 x (kinds dx (front u _ h))) (others_of_arguments xs (argument_list_kinds ys (rest u _ h).1))

  elements_kinds : {form : Form} {u : Symbols} {es : Elements} → ElementList form u es → AreRead u → AreWritable (elements es)
  elements_kinds g.no_element h = tt
  elements_kinds (g.last_element {x = x} dx) h = both (operand true 2 x (expr x)) [] (operand_kinds false true 2 x (kinds dx h)) tt
  elements_kinds (g.element_and {u = u} {x = x} {es = es} c dx xs) h =
      both (operand true 2 x (expr x)) (other_elements (Tree.AnExpr x) es) (operand_kinds false true 2 x (kinds dx (front u _ h)))
      (others_of_elements (Tree.AnExpr x) es (elements_kinds xs (rest u _ h).1))
  elements_kinds (g.hole_and {es = es} c xs) h = others_of_elements Tree.NoExpr es (elements_kinds xs h.1)

  pairs_kinds : {form : Form} {u : Symbols} {ps : Pairs} → PropertyList form u ps → AreRead u → AreWritable (pairs ps)
  pairs_kinds g.no_property h = tt
  pairs_kinds {form = form} (g.last_property {key = key} {x = x} s c r dx) h =
      (key_writable key (key_units form s.kind key r h.0), (tt, both (operand true 2 x (expr x)) [] (operand_kinds false true 2 x (kinds dx h.1.1)) tt))
  pairs_kinds {form = form} (g.property_and {key = key} {u = u} {x = x} {ps = ps} s c d r dx xs) h = (
    key_writable key (key_units form s.kind key r h.0),
    (
      tt,
      both (operand true 2 x (expr x)) (other_pairs ps) (operand_kinds false true 2 x (kinds dx (front u _ h.1.1)))
          (others_of_pairs ps (pairs_kinds xs (rest u _ h.1.1).1)),
    ),
  )

  function_kinds : {form : Form} {u : Symbols} {ns : List Name} {body : Stmts} → FunctionRest form u ns body → AreRead u
      → AreWritable (enclosed (names ns) ++ (k.Mark m.OpenBrace ∷ (stmts body ++ (k.Mark m.CloseBrace ∷ []))))
  function_kinds (g.function_rest {u = u} {v = v} {ns = ns} {body = body} c d e f fs r ss) h =
      both (enclosed (names ns)) (k.Mark m.OpenBrace ∷ (stmts body ++ (k.Mark m.CloseBrace ∷ []))) (enclosed_kinds (names ns) (formals_kinds fs (front u _ h.1)))
      (tt, both (stmts body) (k.Mark m.CloseBrace ∷ []) (source_kinds ss (front v _ (rest u _ h.1).1.1)) (tt, tt))

  declarator_kinds : {form : Form} {i : Bool} {u : Symbols} {n : Name} {value : MaybeExpr} → Declarator form i u n value → AreRead u → (j : Bool) → AreWritable (k.Name n ∷ initialiser value j)
  declarator_kinds (g.bare c r) h j = (h.0, tt)
  declarator_kinds (g.initialised {x = x} c d r dx) h j = (h.0, (tt, operand_kinds false j 2 x (kinds dx h.1.1)))

  items_kinds : {form : Form} {i : Bool} {u : Symbols} {items : VarItems} → DeclaratorList form i u items → AreRead u → (j : Bool) → AreWritable (var_items items j)
  items_kinds (g.last_declarator {n = n} {value = value} d) h j = both (k.Name n ∷ initialiser value j) [] (declarator_kinds d h j) tt
  items_kinds (g.declarator_and {n = n} {u = u} {value = value} {items = items} c d ds) h j =
      both (k.Name n ∷ initialiser value j) (other_var_items items j) (declarator_kinds d (front u _ h) j) (others_of_items items j (items_kinds ds (rest u _ h).1 j))

  optional_kinds : {form : Form} {u : Symbols} {x : MaybeExpr} → OptionalExpression form u x → AreRead u → AreWritable (maybe_expr x)
  optional_kinds g.absent h = tt
  optional_kinds (g.present dx) h = kinds dx h true

  first_kinds : {form : Form} {u : Symbols} {init : ForInit} → ForFirst form u init → AreRead u → AreWritable (for_init init)
  first_kinds g.nothing_first h = tt
  first_kinds (g.variables_first c ds) h = (tt, items_kinds ds h.1 false)
  first_kinds (g.expression_first {x = x} dx) h = operand_kinds false false 1 x (kinds dx h)

  block_kinds : {form : Form} {c : Context} {u : Symbols} {s : Stmt} → Block form c u s → AreRead u → AreWritable (stmt s)
  block_kinds (g.braces {u = u} {ss = ss} c d xs) h = (tt, both (stmts ss) (k.Mark m.CloseBrace ∷ []) (list_kinds xs (front u _ h.1)) (tt, tt))

  statement_kinds : {form : Form} {c : Context} {u : Symbols} {next : Symbol} {s : Stmt} → Statement form c u next s → AreRead u → AreWritable (stmt s)
  statement_kinds (g.block d) h = block_kinds d h
  statement_kinds (g.variables {u = u} {items = items} c ds ends) h = (tt, both (var_items items true) (k.Mark m.Semicolon ∷ []) (items_kinds ds (front u _ h.1) true) (tt, tt))
  statement_kinds (g.empty c) h = (tt, tt)
  statement_kinds (g.expression {u = u} {x = x} dx h1 h2 ends) h =
      both (enclosed_if (begins_as_another (expr x true)) (expr x true)) (k.Mark m.Semicolon ∷ []) (enclosed_if_kinds (begins_as_another (expr x true)) (expr x true) (kinds dx (front u _ h) true)) (tt, tt)
  statement_kinds (g.if {u = u} {x = x} {s = s} c d e dx ds away) h =
      (tt, both (enclosed (expr x true)) (stmt s ++ []) (enclosed_kinds (expr x true) (kinds dx (front u _ h.1.1) true)) (both (stmt s) [] (statement_kinds ds (rest u _ h.1.1).1) tt))
  statement_kinds (g.if_else {u = u} {v = v} {x = x} {s = s} {other = z} c d e f dx ds dz) h = (
    tt,
    both (enclosed (expr x true)) (stmt s ++ (k.Word w.Else ∷ stmt z)) (enclosed_kinds (expr x true) (kinds dx (front u _ h.1.1) true))
        (both (stmt s) (k.Word w.Else ∷ stmt z) (statement_kinds ds (front v _ (rest u _ h.1.1).1)) (tt, statement_kinds dz (rest v _ (rest u _ h.1.1).1).1)),
  )
  statement_kinds (g.do_while {u = u} {v = v} {x = x} {s = s} c d e f ds dx ends) h = (
    tt,
    both (stmt s) (k.Word w.While ∷ (enclosed (expr x true) ++ (k.Mark m.Semicolon ∷ []))) (statement_kinds ds (front u _ h.1))
        (tt, both (enclosed (expr x true)) (k.Mark m.Semicolon ∷ []) (enclosed_kinds (expr x true) (kinds dx (front v _ (rest u _ h.1).1.1) true)) (tt, tt)),
  )
  statement_kinds (g.while {u = u} {x = x} {s = s} c d e dx ds) h =
      (tt, both (enclosed (expr x true)) (stmt s) (enclosed_kinds (expr x true) (kinds dx (front u _ h.1.1) true)) (statement_kinds ds (rest u _ h.1.1).1))
  statement_kinds (g.for {u = u} {v = v} {z = z} {init = init} {test = test} {step = step} {s = s} c d e f r di dt dn ds) h =
      let behind = rest u _ h.1.1 in
      let after = rest v _ behind.1 in (
        tt,
        both (enclosed (for_init init ++ (k.Mark m.Semicolon ∷ (maybe_expr test ++ (k.Mark m.Semicolon ∷ maybe_expr step))))) (stmt s)
            (enclosed_kinds (for_init init ++ (k.Mark m.Semicolon ∷ (maybe_expr test ++ (k.Mark m.Semicolon ∷ maybe_expr step))))
            (both (for_init init) (k.Mark m.Semicolon ∷ (maybe_expr test ++ (k.Mark m.Semicolon ∷ maybe_expr step))) (first_kinds di (front u _ h.1.1))
            (tt, both (maybe_expr test) (k.Mark m.Semicolon ∷ maybe_expr step) (optional_kinds dt (front v _ behind.1)) (tt, optional_kinds dn (front z _ after.1)))))
            (statement_kinds ds (rest z _ after.1).1),
      )
  statement_kinds (g.for_in {u = u} {v = v} {x = x} {y = y} {s = s} c d e f dx t dy ds) h =
      let behind = rest u _ h.1.1 in (
        tt,
        both (enclosed (operand false 16 x (expr x) ++ (k.Word w.In ∷ expr y true))) (stmt s)
            (enclosed_kinds (operand false 16 x (expr x) ++ (k.Word w.In ∷ expr y true))
            (both (operand false 16 x (expr x)) (k.Word w.In ∷ expr y true) (operand_kinds false false 16 x (kinds dx (front u _ h.1.1))) (tt, kinds dy (front v _ behind.1) true)))
            (statement_kinds ds (rest v _ behind.1).1),
      )
  statement_kinds (g.for_var_in {n = n} {u = u} {v = v} {value = value} {y = y} {s = s} c d e f r dx dy ds) h =
      let behind = rest u _ h.1.1.1 in
      let target = k.Word w.Var ∷ (k.Name n ∷ initialiser value false) in (
        tt,
        both (enclosed (target ++ (k.Word w.In ∷ expr y true))) (stmt s)
            (enclosed_kinds (target ++ (k.Word w.In ∷ expr y true))
            (both target (k.Word w.In ∷ expr y true) (tt, declarator_kinds dx (front u _ h.1.1.1) false) (tt, kinds dy (front v _ behind.1) true)))
            (statement_kinds ds (rest v _ behind.1).1),
      )
  statement_kinds (g.continue c may ends) h = (tt, (tt, tt))
  statement_kinds (g.continue_to c r may ends) h = (tt, (h.1.0, (tt, tt)))
  statement_kinds (g.break c may ends) h = (tt, (tt, tt))
  statement_kinds (g.break_from c r may ends) h = (tt, (h.1.0, (tt, tt)))
  statement_kinds (g.return c may ends) h = (tt, (tt, tt))
  statement_kinds (g.return_value {u = u} {x = x} c may dx start ends) h = (tt, both (expr x true) (k.Mark m.Semicolon ∷ []) (kinds dx (front u _ h.1) true) (tt, tt))
  statement_kinds (g.switch {u = u} {v = v} {x = x} {cs = cs} c d e f r dx dcs) h = (
    tt,
    both (enclosed (expr x true)) (k.Mark m.OpenBrace ∷ (cases cs ++ (k.Mark m.CloseBrace ∷ []))) (enclosed_kinds (expr x true) (kinds dx (front u _ h.1.1) true))
        (tt, both (cases cs) (k.Mark m.CloseBrace ∷ []) (clauses_kinds dcs (front v _ (rest u _ h.1.1).1.1)) (tt, tt)),
  )
  statement_kinds (g.label c d r away ds) h = (h.0, (tt, statement_kinds ds h.1.1))
  statement_kinds (g.throw {u = u} {x = x} c dx start ends) h = (tt, both (expr x true) (k.Mark m.Semicolon ∷ []) (kinds dx (front u _ h.1) true) (tt, tt))
  statement_kinds (g.try_catch {n = n} {u = u} {v = v} {s = s} {handler = z} c d e f t ds r dz) h =
      let behind = rest u _ h.1 in (
        tt,
        both (stmt s) (handler (Tree.ACatch n z) ++ []) (block_kinds ds (front u _ h.1))
            (both (handler (Tree.ACatch n z)) [] (tt, (tt, (behind.1.1.0, (tt, block_kinds dz behind.1.1.1.1)))) tt),
      )
  statement_kinds (g.try_finally {u = u} {s = s} {last = z} c d ds dz) h =
      (tt, both (stmt s) (k.Word w.Finally ∷ stmt z) (block_kinds ds (front u _ h.1)) (tt, block_kinds dz (rest u _ h.1).1))
  statement_kinds (g.try_catch_finally {n = n} {u = u} {v = v} {s = s} {handler = y} {last = z} c d e f t o ds r dy dz) h =
      let behind = rest u _ h.1 in
      let after = behind.1.1.1.1 in (
        tt,
        both (stmt s) (handler (Tree.ACatch n y) ++ (k.Word w.Finally ∷ stmt z)) (block_kinds ds (front u _ h.1))
            (both (handler (Tree.ACatch n y)) (k.Word w.Finally ∷ stmt z) (tt, (tt, (behind.1.1.0, (tt, block_kinds dy (front v _ after)))))
            (tt, block_kinds dz (rest v _ after).1)),
      )

  list_kinds : {form : Form} {c : Context} {u : Symbols} {next : Symbol} {ss : Stmts} → StatementList form c u next ss → AreRead u → AreWritable (stmts ss)
  list_kinds g.no_statement h = tt
  list_kinds (g.statement_and {u = u} {v = v} {s = s} {ss = ss} d ds) h = both (stmt s) (stmts ss) (statement_kinds d (front u v h)) (list_kinds ds (rest u v h))

  clauses_kinds : {form : Form} {c : Context} {may : Bool} {u : Symbols} {next : Symbol} {cs : Cases} → CaseClauses form c may u next cs → AreRead u → AreWritable (cases cs)
  clauses_kinds g.no_clause h = tt
  clauses_kinds (g.case_and {u = u} {v = v} {z = z} {x = x} {ss = ss} {cs = cs} c d dx ds dcs) h =
      let behind = rest u _ h.1 in (
        tt,
        both (expr x true) (k.Mark m.Colon ∷ (stmts ss ++ cases cs)) (kinds dx (front u _ h.1) true)
            (tt, both (stmts ss) (cases cs) (list_kinds ds (front v z behind.1)) (clauses_kinds dcs (rest v z behind.1))),
      )
  clauses_kinds (g.default_and {v = v} {z = z} {ss = ss} {cs = cs} c d ds dcs) h =
      (tt, (tt, both (stmts ss) (cases cs) (list_kinds ds (front v z h.1.1)) (clauses_kinds dcs (rest v z h.1.1))))

  element_kinds : {form : Form} {c : Context} {u : Symbols} {next : Symbol} {s : Stmt} → SourceElement form c u next s → AreRead u → AreWritable (stmt s)
  element_kinds (g.statement d) h = statement_kinds d h
  element_kinds (g.declaration c d r f) h = (tt, (h.1.0, function_kinds f h.1.1))

  source_kinds : {form : Form} {c : Context} {u : Symbols} {next : Symbol} {ss : Stmts} → SourceElements form c u next ss → AreRead u → AreWritable (stmts ss)
  source_kinds g.no_source h = tt
  source_kinds (g.source_and {u = u} {v = v} {s = s} {ss = ss} d ds) h = both (stmt s) (stmts ss) (element_kinds d (front u v h)) (source_kinds ds (rest u v h))

pub script_kinds : (form : Form) (tokens : Symbols) (tree : Tree.Script) → Derives form tokens tree → AreRead tokens → AreWritable (stmts tree)
script_kinds form tokens tree d h = source_kinds d.derived (front d.elements (end d.newline ∷ []) (subst AreRead d.whole h))

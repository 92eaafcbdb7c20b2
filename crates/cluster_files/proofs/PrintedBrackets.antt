-- In what a tree is written as at most two brackets are open for each node on the way down.
use Rattle.std.proofs.Common.{if◌then◌else◌, ◌≡◌, ℕ, suc, ◌+◌, ◌-◌, ◌*◌, ◌≤◌, Bool, true, false, ◌&&◌, ◌||◌, nat_lt, List, [], ◌∷◌, ◌++◌, Option, Some, None, max, refl, sym, subst, arith}
use Rattle.std.proofs.Math.Nat.{max-le}
use Rattle.std.proofs.lemmas.List.{append_assoc, append-nil}
use Rattle.std.specs.List.{list_all}
use Rattle.js_lexer.specs.Names.{is_name}
use Rattle.js_lexer.specs.declared.mark.Mark.TheVariants as m
use Rattle.js_lexer.specs.declared.word.Word.TheVariants as w
use Rattle.js_lexer.specs.declared.token.TokenKind.{TokenKind}
use Rattle.js_lexer.specs.declared.token.TokenKind.TheVariants as k
use Rattle.js_tree.specs.declared.tree.BinaryOp.{BinaryOp}
use Rattle.js_tree.specs.declared.tree.BinaryOp.TheVariants as b
use Rattle.js_tree.specs.declared.tree.PrefixOp.{PrefixOp}
use Rattle.js_tree.specs.declared.tree.PrefixOp.TheVariants as p
use Rattle.js_tree.specs.declared.tree.PostfixOp.{PostfixOp}
use Rattle.js_tree.specs.declared.tree.PostfixOp.TheVariants as q
use Rattle.js_tree.specs.Depth.{by_nodes, depth}
use Rattle.js_tree.specs.Heights.{expr_height, exprs_height, maybe_expr_height, elements_height, pairs_height, stmt_height, stmts_height, maybe_stmt_height, handler_height, for_init_height, for_target_height, var_items_height, cases_height, func_height}
use Rattle.js_tree.specs.Levels.{operation_level, changes}
use Rattle.js_tree.specs.Tree.{Name, Expr, Exprs, MaybeExpr, Elements, Pairs, Stmt, Stmts, VarItems, Cases, ForInit, ForTarget, MaybeStmt, Handler, Func}
use Rattle.js_tree.specs.Tree
use Rattle.js_parser.specs.Symbols.{end}
use Rattle.js_parser.specs.Accepted.{opened, most_open}
use Rattle.js_printer.specs.Printed.{Kinds, is_number, is_function, has_call, enclosed, enclosed_if, needs, operand_for, operand, key_kind, assignment_mark, prefix_least, names, maybe_name, begins_as_another}
use Rattle.js_printer.specs.Printed.{expr, exprs, other_exprs, maybe_expr, element, elements, other_elements, pairs, other_pairs, func, stmt, stmts, else_part, handler, finally_part, for_init, for_target, var_items, other_var_items, initialiser, cases, case_head}
use Rattle.js_printer.specs.Signs.{operation_sign, prefix_sign, postfix_sign, assignment}
use Rattle.cluster_files.specs.ReadsBack.{line_of}

-- no more than so many brackets are ever open, where n are open before
abbrev Under : ℕ → ℕ → Kinds → Type 0
Under top n [] = n ≤ top
Under top n (kind ∷ rest) = (n ≤ top) × Under top (opened kind n) rest

-- ---- kinds that are no brackets

sign_opens : (op : BinaryOp) (n : ℕ) → opened (operation_sign op) n ≡ n
sign_opens b.BitOr n = refl
sign_opens _ n = refl

prefix_opens : (op : PrefixOp) (n : ℕ) → opened (prefix_sign op) n ≡ n
prefix_opens p.Delete n = refl
prefix_opens _ n = refl

postfix_opens : (op : PostfixOp) (n : ℕ) → opened (postfix_sign op) n ≡ n
postfix_opens q.Increment n = refl
postfix_opens q.Decrement n = refl

assignment_opens : (op : Option BinaryOp) (n : ℕ) → opened (k.Mark (assignment_mark (assignment op))) n ≡ n
assignment_opens None n = refl
assignment_opens (Some b.BitOr) n = refl
assignment_opens (Some _) n = refl

key_opens : (key : Name) (n : ℕ) → opened (key_kind key) n ≡ n
key_opens key n = at (is_name key && list_all (λ unit. nat_lt unit 128) key)
  where
    at : (a : Bool) → opened (if a then k.Name key else k.Str key) n ≡ n
    at true = refl
    at false = refl

beside : (top n : ℕ) (kind : TokenKind) (v : Kinds) → n ≤ top → opened kind n ≡ n → Under top n v → Under top n (kind ∷ v)
beside top n kind v h e u = (h, subst (λ i. Under top i v) (sym e) u)

less_one : (n : ℕ) → suc n - 1 ≡ n
less_one n = omega arith

-- behind a bracket that closes
closed : (top n : ℕ) (v : Kinds) → n + 1 ≤ top → Under top n v → (suc n ≤ top) × Under top (suc n - 1) v
closed top n v h u = (omega arith, subst (λ i. Under top i v) (sym (less_one n)) u)

joined : (top n : ℕ) (u w v : Kinds) → Under top n (u ++ (w ++ v)) → Under top n ((u ++ w) ++ v)
joined top n u w v h = subst (Under top n) (sym (append_assoc u w v)) h

enclosed_under : (top n : ℕ) (u v : Kinds) → n ≤ top → Under top (suc n) (u ++ (k.Mark m.CloseParenthesis ∷ v)) → Under top n (enclosed u ++ v)
enclosed_under top n u v h i = (h, joined top (suc n) u (k.Mark m.CloseParenthesis ∷ []) v i)

-- ---- parts

-- an expression has two brackets open for each node
abbrev Writes : Expr → Type 0
Writes x = (top n : ℕ) (i : Bool) (v : Kinds) → n + 2 * expr_height by_nodes x ≤ top → Under top n v → Under top n (expr x i ++ v)

operand_by : (x : Expr) (a i : Bool) → Writes x → (top n : ℕ) (v : Kinds) → n + 2 * expr_height by_nodes x + 1 ≤ top → Under top n v → Under top n (enclosed_if a (expr x i) ++ v)
operand_by x true i d top n v h u = enclosed_under top n (expr x i) v (omega arith) (d top (suc n) i (k.Mark m.CloseParenthesis ∷ v) (omega arith) (closed top n v (omega arith) u))
operand_by x false i d top n v h u = d top n i v (omega arith) u

operand_under : (reason i : Bool) (least : ℕ) (x : Expr) → Writes x → (top n : ℕ) (v : Kinds) → n + 2 * expr_height by_nodes x + 1 ≤ top → Under top n v
    → Under top n (operand_for reason i least x (expr x) ++ v)
operand_under reason i least x d top n v h u = operand_by x (needs reason i least x) (i || needs reason i least x) d top n v h u

names_under : (ns : List Name) (top n : ℕ) (v : Kinds) → n ≤ top → Under top n v → Under top n (names ns ++ v)
names_under [] top n v h u = u
names_under (o ∷ []) top n v h u = (h, u)
names_under (o ∷ o2 ∷ ns) top n v h u = (h, (h, names_under (o2 ∷ ns) top n v h u))

maybe_name_under : (o : Option Name) (top n : ℕ) (v : Kinds) → n ≤ top → Under top n v → Under top n (maybe_name o ++ v)
maybe_name_under None top n v h u = u
maybe_name_under (Some o) top n v h u = (h, u)

-- two operands and a sign
two_operands : (i : Bool) (least more : ℕ) (x y : Expr) (kind : TokenKind) → Writes x → Writes y → (top n : ℕ) (v : Kinds) → n + 2 * suc (max (expr_height by_nodes x) (expr_height by_nodes y)) ≤ top
    → opened kind n ≡ n → Under top n v → Under top n ((operand i least x (expr x) ++ (kind ∷ operand i more y (expr y))) ++ v)
two_operands i least more x y kind c d top n v h e u =
    joined top n (operand i least x (expr x)) (kind ∷ operand i more y (expr y)) v
    (operand_under false i least x c top n (kind ∷ (operand i more y (expr y) ++ v)) (omega arith)
    (beside top n kind (operand i more y (expr y) ++ v) (omega arith) e (operand_under false i more y d top n v (omega arith) u)))

-- arguments in their parentheses
arguments_under : (es : Exprs) → ((top n : ℕ) (v : Kinds) → n + 2 * exprs_height by_nodes es + 1 ≤ top → Under top n v → Under top n (exprs es ++ v))
    → (top n : ℕ) (v : Kinds) → n + 2 * exprs_height by_nodes es + 2 ≤ top → Under top n v → Under top n (enclosed (exprs es) ++ v)
arguments_under es d top n v h u = enclosed_under top n (exprs es) v (omega arith) (d top (suc n) (k.Mark m.CloseParenthesis ∷ v) (omega arith) (closed top n v (omega arith) u))

-- a header of one expression
header_under : (x : Expr) → Writes x → (top n : ℕ) (v : Kinds) → n + 2 * expr_height by_nodes x + 1 ≤ top → Under top n v → Under top n (enclosed (expr x true) ++ v)
header_under x d top n v h u = enclosed_under top n (expr x true) v (omega arith) (d top (suc n) true (k.Mark m.CloseParenthesis ∷ v) (omega arith) (closed top n v (omega arith) u))

-- ---- trees

mutual
  written : (x : Expr) → Writes x
  written (Tree.Num o) top n i v h u = (omega arith, u)
  written (Tree.Str text) top n i v h u = (omega arith, u)
  written (Tree.Truth true) top n i v h u = (omega arith, u)
  written (Tree.Truth false) top n i v h u = (omega arith, u)
  written Tree.Null top n i v h u = (omega arith, u)
  written Tree.This top n i v h u = (omega arith, u)
  written (Tree.Ident name) top n i v h u = (omega arith, u)
  written (Tree.Array es) top n i v h u =
      (omega arith, joined top (suc n) (elements es) (k.Mark m.CloseBracket ∷ []) v (elements_under es top (suc n) (k.Mark m.CloseBracket ∷ v) (omega arith) (closed top n v (omega arith) u)))
  written (Tree.Object ps) top n i v h u =
      (omega arith, joined top (suc n) (pairs ps) (k.Mark m.CloseBrace ∷ []) v (pairs_under ps top (suc n) (k.Mark m.CloseBrace ∷ v) (omega arith) (closed top n v (omega arith) u)))
  written (Tree.Function f) top n i v h u = func_under f top n v (omega arith) u
  written (Tree.Dot x name) top n i v h u =
      joined top n (operand_for (is_number x || is_function x) i 16 x (expr x)) (k.Mark m.Dot ∷ (k.Name name ∷ [])) v
      (operand_under (is_number x || is_function x) i 16 x (written x) top n (k.Mark m.Dot ∷ (k.Name name ∷ v)) (omega arith) (omega arith, (omega arith, u)))
  written (Tree.Index x key) top n i v h u =
      joined top n (operand_for (is_function x) i 16 x (expr x)) (k.Mark m.OpenBracket ∷ (operand true 1 key (expr key) ++ (k.Mark m.CloseBracket ∷ []))) v
      (operand_under (is_function x) i 16 x (written x) top n (k.Mark m.OpenBracket ∷ ((operand true 1 key (expr key) ++ (k.Mark m.CloseBracket ∷ [])) ++ v)) (omega arith) (
        omega arith,
        joined top (suc n) (operand true 1 key (expr key)) (k.Mark m.CloseBracket ∷ []) v
            (operand_under false true 1 key (written key) top (suc n) (k.Mark m.CloseBracket ∷ v) (omega arith) (closed top n v (omega arith) u)),
      ))
  written (Tree.Call x es) top n i v h u =
      joined top n (operand_for (is_function x) i 16 x (expr x)) (enclosed (exprs es)) v
      (operand_under (is_function x) i 16 x (written x) top n (enclosed (exprs es) ++ v) (omega arith) (arguments_under es (exprs_under es) top n v (omega arith) u))
  written (Tree.New x es) top n i v h u = (
    omega arith,
    joined top n (operand_for (is_function x || has_call x) i 16 x (expr x)) (enclosed (exprs es)) v
        (operand_under (is_function x || has_call x) i 16 x (written x) top n (enclosed (exprs es) ++ v) (omega arith) (arguments_under es (exprs_under es) top n v (omega arith) u)),
  )
  written (Tree.Postfix x op) top n i v h u =
      joined top n (operand i 16 x (expr x)) (postfix_sign op ∷ []) v
      (operand_under false i 16 x (written x) top n (postfix_sign op ∷ v) (omega arith) (beside top n (postfix_sign op) v (omega arith) (postfix_opens op n) u))
  written (Tree.Prefix op x) top n i v h u =
      beside top n (prefix_sign op) (operand i (prefix_least (changes op)) x (expr x) ++ v) (omega arith) (prefix_opens op n)
      (operand_under false i (prefix_least (changes op)) x (written x) top n v (omega arith) u)
  written (Tree.Binary op x y) top n i v h u = two_operands i (operation_level op) (suc (operation_level op)) x y (operation_sign op) (written x) (written y) top n v h (sign_opens op n) u
  written (Tree.And x y) top n i v h u = two_operands i 5 6 x y (k.Mark m.And) (written x) (written y) top n v h refl u
  written (Tree.Or x y) top n i v h u = two_operands i 4 5 x y (k.Mark m.Or) (written x) (written y) top n v h refl u
  written (Tree.Comma x y) top n i v h u = two_operands i 1 2 x y (k.Mark m.Comma) (written x) (written y) top n v h refl u
  written (Tree.Assign op x y) top n i v h u = two_operands i 16 2 x y (k.Mark (assignment_mark (assignment op))) (written x) (written y) top n v h (assignment_opens op n) u
  written (Tree.Cond x y z) top n i v h u =
      let last = operand_under false i 2 z (written z) top n v (omega arith) u in
      let middle = operand_under false i 2 y (written y) top n (k.Mark m.Colon ∷ (operand i 2 z (expr z) ++ v)) (omega arith) (omega arith, last) in
      joined top n (operand i 4 x (expr x)) (k.Mark m.Question ∷ (operand i 2 y (expr y) ++ (k.Mark m.Colon ∷ operand i 2 z (expr z)))) v
      (operand_under false i 4 x (written x) top n (k.Mark m.Question ∷ ((operand i 2 y (expr y) ++ (k.Mark m.Colon ∷ operand i 2 z (expr z))) ++ v)) (omega arith)
      (omega arith, joined top n (operand i 2 y (expr y)) (k.Mark m.Colon ∷ operand i 2 z (expr z)) v middle))
  written (Tree.Late o) top n i v h u =
      (omega arith, (omega arith, (omega arith, (omega arith, (omega arith, closed top (suc n) (k.Mark m.CloseParenthesis ∷ v) (omega arith) (closed top n v (omega arith) u))))))

  exprs_under : (es : Exprs) (top n : ℕ) (v : Kinds) → n + 2 * exprs_height by_nodes es + 1 ≤ top → Under top n v → Under top n (exprs es ++ v)
  exprs_under Tree.NoExprs top n v h u = u
  exprs_under (Tree.MoreExprs e es) top n v h u =
      joined top n (operand true 2 e (expr e)) (other_exprs es) v
      (operand_under false true 2 e (written e) top n (other_exprs es ++ v) (omega arith) (other_exprs_under es top n v (omega arith) u))

  other_exprs_under : (es : Exprs) (top n : ℕ) (v : Kinds) → n + 2 * exprs_height by_nodes es + 1 ≤ top → Under top n v → Under top n (other_exprs es ++ v)
  other_exprs_under Tree.NoExprs top n v h u = u
  other_exprs_under (Tree.MoreExprs e es) top n v h u = (
    omega arith,
    joined top n (operand true 2 e (expr e)) (other_exprs es) v
        (operand_under false true 2 e (written e) top n (other_exprs es ++ v) (omega arith) (other_exprs_under es top n v (omega arith) u)),
  )

  maybe_expr_under : (e : MaybeExpr) (top n : ℕ) (v : Kinds) → n + 2 * maybe_expr_height by_nodes e ≤ top → Under top n v → Under top n (maybe_expr e ++ v)
  maybe_expr_under Tree.NoExpr top n v h u = u
  maybe_expr_under (Tree.AnExpr e) top n v h u = written e top n true v h u

  element_under : (e : MaybeExpr) (top n : ℕ) (v : Kinds) → n + 2 * maybe_expr_height by_nodes e + 1 ≤ top → Under top n v → Under top n (element e ++ v)
  element_under Tree.NoExpr top n v h u = u
  element_under (Tree.AnExpr e) top n v h u = operand_under false true 2 e (written e) top n v h u

  elements_under : (es : Elements) (top n : ℕ) (v : Kinds) → n + 2 * elements_height by_nodes es + 1 ≤ top → Under top n v → Under top n (elements es ++ v)
  elements_under Tree.NoElements top n v h u = u
  elements_under (Tree.MoreElements e es) top n v h u =
      joined top n (element e) (other_elements e es) v (element_under e top n (other_elements e es ++ v) (omega arith) (other_elements_under e es top n v (omega arith) u))

  other_elements_under : (e : MaybeExpr) (es : Elements) (top n : ℕ) (v : Kinds) → n + 2 * elements_height by_nodes es + 1 ≤ top → Under top n v → Under top n (other_elements e es ++ v)
  other_elements_under Tree.NoExpr Tree.NoElements top n v h u = (omega arith, u)
  other_elements_under (Tree.AnExpr x) Tree.NoElements top n v h u = u
  other_elements_under Tree.NoExpr (Tree.MoreElements next es) top n v h u = (
    omega arith,
    joined top n (element next) (other_elements next es) v
        (element_under next top n (other_elements next es ++ v) (omega arith) (other_elements_under next es top n v (omega arith) u)),
  )
  other_elements_under (Tree.AnExpr x) (Tree.MoreElements next es) top n v h u = (
    omega arith,
    joined top n (element next) (other_elements next es) v
        (element_under next top n (other_elements next es ++ v) (omega arith) (other_elements_under next es top n v (omega arith) u)),
  )

  pairs_under : (ps : Pairs) (top n : ℕ) (v : Kinds) → n + 2 * pairs_height by_nodes ps + 1 ≤ top → Under top n v → Under top n (pairs ps ++ v)
  pairs_under Tree.NoPairs top n v h u = u
  pairs_under (Tree.MorePairs key value ps) top n v h u =
      beside top n (key_kind key) (k.Mark m.Colon ∷ ((operand true 2 value (expr value) ++ other_pairs ps) ++ v)) (omega arith) (key_opens key n) (
        omega arith,
        joined top n (operand true 2 value (expr value)) (other_pairs ps) v
            (operand_under false true 2 value (written value) top n (other_pairs ps ++ v) (omega arith) (other_pairs_under ps top n v (omega arith) u)),
      )

  other_pairs_under : (ps : Pairs) (top n : ℕ) (v : Kinds) → n + 2 * pairs_height by_nodes ps + 1 ≤ top → Under top n v → Under top n (other_pairs ps ++ v)
  other_pairs_under Tree.NoPairs top n v h u = u
  other_pairs_under (Tree.MorePairs key value ps) top n v h u = (
    omega arith,
    beside top n (key_kind key) (k.Mark m.Colon ∷ ((operand true 2 value (expr value) ++ other_pairs ps) ++ v)) (omega arith) (key_opens key n) (
      omega arith,
      joined top n (operand true 2 value (expr value)) (other_pairs ps) v
          (operand_under false true 2 value (written value) top n (other_pairs ps ++ v) (omega arith) (other_pairs_under ps top n v (omega arith) u)),
    ),
  )

  func_under : (f : Func) (top n : ℕ) (v : Kinds) → n + 2 * func_height by_nodes f + 2 ≤ top → Under top n v → Under top n (func f ++ v)
  func_under (Tree.Code number name formals body role) top n v h u =
      let behind = k.Mark m.OpenBrace ∷ (stmts body ++ (k.Mark m.CloseBrace ∷ [])) in
      let inside : Under top (suc n) ((stmts body ++ (k.Mark m.CloseBrace ∷ [])) ++ v) =
      joined top (suc n) (stmts body) (k.Mark m.CloseBrace ∷ []) v (stmts_under body top (suc n) (k.Mark m.CloseBrace ∷ v) (omega arith) (closed top n v (omega arith) u)) in
      let after : Under top n (behind ++ v) = (omega arith, inside) in
      let rest : Under top n ((enclosed (names formals) ++ behind) ++ v) =
      joined top n (enclosed (names formals)) behind v (enclosed_under top n (names formals) (behind ++ v) (omega arith)
      (names_under formals top (suc n) (k.Mark m.CloseParenthesis ∷ (behind ++ v)) (omega arith) (closed top n (behind ++ v) (omega arith) after))) in
      (omega arith, joined top n (maybe_name name) (enclosed (names formals) ++ behind) v (maybe_name_under name top n ((enclosed (names formals) ++ behind) ++ v) (omega arith) rest))

  stmt_under : (s : Stmt) (top n : ℕ) (v : Kinds) → n + 2 * stmt_height by_nodes s ≤ top → Under top n v → Under top n (stmt s ++ v)
  stmt_under (Tree.Block body) top n v h u =
      (omega arith, joined top (suc n) (stmts body) (k.Mark m.CloseBrace ∷ []) v (stmts_under body top (suc n) (k.Mark m.CloseBrace ∷ v) (omega arith) (closed top n v (omega arith) u)))
  stmt_under (Tree.Variables items) top n v h u =
      (omega arith, joined top n (var_items items true) (k.Mark m.Semicolon ∷ []) v (var_items_under items true top n (k.Mark m.Semicolon ∷ v) (omega arith) (omega arith, u)))
  stmt_under Tree.Empty top n v h u = (omega arith, u)
  stmt_under (Tree.Do x) top n v h u =
      joined top n (enclosed_if (begins_as_another (expr x true)) (expr x true)) (k.Mark m.Semicolon ∷ []) v
      (operand_by x (begins_as_another (expr x true)) true (written x) top n (k.Mark m.Semicolon ∷ v) (omega arith) (omega arith, u))
  stmt_under (Tree.If test body other) top n v h u = (
    omega arith,
    joined top n (enclosed (expr test true)) (stmt body ++ else_part other) v
        (header_under test (written test) top n ((stmt body ++ else_part other) ++ v) (omega arith)
        (joined top n (stmt body) (else_part other) v (stmt_under body top n (else_part other ++ v) (omega arith) (else_under other top n v (omega arith) u)))),
  )
  stmt_under (Tree.DoWhile body test) top n v h u =
      let behind = k.Word w.While ∷ (enclosed (expr test true) ++ (k.Mark m.Semicolon ∷ [])) in (
        omega arith,
        joined top n (stmt body) behind v (stmt_under body top n (behind ++ v) (omega arith)
            (omega arith, joined top n (enclosed (expr test true)) (k.Mark m.Semicolon ∷ []) v (header_under test (written test) top n (k.Mark m.Semicolon ∷ v) (omega arith) (omega arith, u)))),
      )
  stmt_under (Tree.While test body) top n v h u =
      (omega arith, joined top n (enclosed (expr test true)) (stmt body) v (header_under test (written test) top n (stmt body ++ v) (omega arith) (stmt_under body top n v (omega arith) u)))
  stmt_under (Tree.For first test next body) top n v h u =
      let last = k.Mark m.Semicolon ∷ maybe_expr next in
      let behind = k.Mark m.Semicolon ∷ (maybe_expr test ++ last) in
      let after = k.Mark m.CloseParenthesis ∷ (stmt body ++ v) in
      let shut : Under top (suc n) after = closed top n (stmt body ++ v) (omega arith) (stmt_under body top n v (omega arith) u) in
      let third : Under top (suc n) (last ++ after) = (omega arith, maybe_expr_under next top (suc n) after (omega arith) shut) in
      let second : Under top (suc n) (behind ++ after) = (omega arith, joined top (suc n) (maybe_expr test) last after (maybe_expr_under test top (suc n) (last ++ after) (omega arith) third)) in
      let head : Under top (suc n) ((for_init first ++ behind) ++ after) = joined top (suc n) (for_init first) behind after (for_init_under first top (suc n) (behind ++ after) (omega arith) second) in
      (omega arith, joined top n (enclosed (for_init first ++ behind)) (stmt body) v (enclosed_under top n (for_init first ++ behind) (stmt body ++ v) (omega arith) head))
  stmt_under (Tree.ForIn target object body) top n v h u =
      let behind = k.Word w.In ∷ expr object true in
      let after = k.Mark m.CloseParenthesis ∷ (stmt body ++ v) in
      let shut : Under top (suc n) after = closed top n (stmt body ++ v) (omega arith) (stmt_under body top n v (omega arith) u) in
      let second : Under top (suc n) (behind ++ after) = (omega arith, written object top (suc n) true after (omega arith) shut) in
      let head : Under top (suc n) ((for_target target ++ behind) ++ after) = joined top (suc n) (for_target target) behind after (for_target_under target top (suc n) (behind ++ after) (omega arith) second) in
      (omega arith, joined top n (enclosed (for_target target ++ behind)) (stmt body) v (enclosed_under top n (for_target target ++ behind) (stmt body ++ v) (omega arith) head))
  stmt_under (Tree.Continue label) top n v h u =
      (omega arith, joined top n (maybe_name label) (k.Mark m.Semicolon ∷ []) v (maybe_name_under label top n (k.Mark m.Semicolon ∷ v) (omega arith) (omega arith, u)))
  stmt_under (Tree.Break label) top n v h u =
      (omega arith, joined top n (maybe_name label) (k.Mark m.Semicolon ∷ []) v (maybe_name_under label top n (k.Mark m.Semicolon ∷ v) (omega arith) (omega arith, u)))
  stmt_under (Tree.Return value) top n v h u =
      (omega arith, joined top n (maybe_expr value) (k.Mark m.Semicolon ∷ []) v (maybe_expr_under value top n (k.Mark m.Semicolon ∷ v) (omega arith) (omega arith, u)))
  stmt_under (Tree.Switch value cs) top n v h u =
      let behind = k.Mark m.OpenBrace ∷ (cases cs ++ (k.Mark m.CloseBrace ∷ [])) in (
        omega arith,
        joined top n (enclosed (expr value true)) behind v (header_under value (written value) top n (behind ++ v) (omega arith)
            (omega arith, joined top (suc n) (cases cs) (k.Mark m.CloseBrace ∷ []) v (cases_under cs top (suc n) (k.Mark m.CloseBrace ∷ v) (omega arith) (closed top n v (omega arith) u)))),
      )
  stmt_under (Tree.Label name body) top n v h u = (omega arith, (omega arith, stmt_under body top n v (omega arith) u))
  stmt_under (Tree.Throw x) top n v h u =
      (omega arith, joined top n (expr x true) (k.Mark m.Semicolon ∷ []) v (written x top n true (k.Mark m.Semicolon ∷ v) (omega arith) (omega arith, u)))
  stmt_under (Tree.Try block caught last) top n v h u = (
    omega arith,
    joined top n (stmt block) (handler caught ++ finally_part last) v (stmt_under block top n ((handler caught ++ finally_part last) ++ v) (omega arith)
        (joined top n (handler caught) (finally_part last) v (handler_under caught top n (finally_part last ++ v) (omega arith) (finally_under last top n v (omega arith) u)))),
  )
  stmt_under (Tree.Declare f) top n v h u = func_under f top n v (omega arith) u
  stmt_under (Tree.Used o) top n v h u = (omega arith, (omega arith, (omega arith, closed top n (k.Mark m.Semicolon ∷ v) (omega arith) (omega arith, u))))

  stmts_under : (ss : Stmts) (top n : ℕ) (v : Kinds) → n + 2 * stmts_height by_nodes ss ≤ top → Under top n v → Under top n (stmts ss ++ v)
  stmts_under Tree.NoStmts top n v h u = u
  stmts_under (Tree.MoreStmts s ss) top n v h u = joined top n (stmt s) (stmts ss) v (stmt_under s top n (stmts ss ++ v) (omega arith) (stmts_under ss top n v (omega arith) u))

  else_under : (s : MaybeStmt) (top n : ℕ) (v : Kinds) → n + 2 * maybe_stmt_height by_nodes s ≤ top → Under top n v → Under top n (else_part s ++ v)
  else_under Tree.NoStmt top n v h u = u
  else_under (Tree.AStmt s) top n v h u = (omega arith, stmt_under s top n v h u)

  finally_under : (s : MaybeStmt) (top n : ℕ) (v : Kinds) → n + 2 * maybe_stmt_height by_nodes s ≤ top → Under top n v → Under top n (finally_part s ++ v)
  finally_under Tree.NoStmt top n v h u = u
  finally_under (Tree.AStmt s) top n v h u = (omega arith, stmt_under s top n v h u)

  handler_under : (c : Handler) (top n : ℕ) (v : Kinds) → n + 2 * handler_height by_nodes c + 1 ≤ top → Under top n v → Under top n (handler c ++ v)
  handler_under Tree.NoHandler top n v h u = u
  handler_under (Tree.ACatch name block) top n v h u =
      (omega arith, joined top n (enclosed (k.Name name ∷ [])) (stmt block) v (omega arith, (omega arith, closed top n (stmt block ++ v) (omega arith) (stmt_under block top n v (omega arith) u))))

  for_init_under : (first : ForInit) (top n : ℕ) (v : Kinds) → n + 2 * for_init_height by_nodes first + 1 ≤ top → Under top n v → Under top n (for_init first ++ v)
  for_init_under Tree.Nothing top n v h u = u
  for_init_under (Tree.Vars items) top n v h u = (omega arith, var_items_under items false top n v h u)
  for_init_under (Tree.First x) top n v h u = operand_under false false 1 x (written x) top n v h u

  for_target_under : (target : ForTarget) (top n : ℕ) (v : Kinds) → n + 2 * for_target_height by_nodes target + 1 ≤ top → Under top n v → Under top n (for_target target ++ v)
  for_target_under (Tree.AVar name value) top n v h u = (omega arith, (omega arith, initialiser_under value false top n v h u))
  for_target_under (Tree.Target x) top n v h u = operand_under false false 16 x (written x) top n v h u

  initialiser_under : (value : MaybeExpr) (i : Bool) (top n : ℕ) (v : Kinds) → n + 2 * maybe_expr_height by_nodes value + 1 ≤ top → Under top n v → Under top n (initialiser value i ++ v)
  initialiser_under Tree.NoExpr i top n v h u = u
  initialiser_under (Tree.AnExpr x) i top n v h u = (omega arith, operand_under false i 2 x (written x) top n v h u)

  var_items_under : (items : VarItems) (i : Bool) (top n : ℕ) (v : Kinds) → n + 2 * var_items_height by_nodes items + 1 ≤ top → Under top n v → Under top n (var_items items i ++ v)
  var_items_under Tree.NoVarItems i top n v h u = u
  var_items_under (Tree.MoreVarItems name value rest) i top n v h u = (
    omega arith,
    joined top n (initialiser value i) (other_var_items rest i) v
        (initialiser_under value i top n (other_var_items rest i ++ v) (omega arith) (other_var_items_under rest i top n v (omega arith) u)),
  )

  other_var_items_under : (items : VarItems) (i : Bool) (top n : ℕ) (v : Kinds) → n + 2 * var_items_height by_nodes items + 1 ≤ top → Under top n v → Under top n (other_var_items items i ++ v)
  other_var_items_under Tree.NoVarItems i top n v h u = u
  other_var_items_under (Tree.MoreVarItems name value rest) i top n v h u = (
    omega arith,
    (
      omega arith,
      joined top n (initialiser value i) (other_var_items rest i) v
          (initialiser_under value i top n (other_var_items rest i ++ v) (omega arith) (other_var_items_under rest i top n v (omega arith) u)),
    ),
  )

  cases_under : (cs : Cases) (top n : ℕ) (v : Kinds) → n + 2 * cases_height by_nodes cs ≤ top → Under top n v → Under top n (cases cs ++ v)
  cases_under Tree.NoCases top n v h u = u
  cases_under (Tree.MoreCases test body rest) top n v h u =
      let behind = k.Mark m.Colon ∷ (stmts body ++ cases rest) in
      joined top n (case_head test) behind v (case_head_under test top n (behind ++ v) (omega arith)
      (omega arith, joined top n (stmts body) (cases rest) v (stmts_under body top n (cases rest ++ v) (omega arith) (cases_under rest top n v (omega arith) u))))

  case_head_under : (test : MaybeExpr) (top n : ℕ) (v : Kinds) → n + 2 * maybe_expr_height by_nodes test ≤ top → Under top n v → Under top n (case_head test ++ v)
  case_head_under Tree.NoExpr top n v h u = (omega arith, u)
  case_head_under (Tree.AnExpr x) top n v h u = (omega arith, written x top n true v h u)

-- ---- of the tokens

most_under : (top n : ℕ) (ks : Kinds) (newline : Bool) → Under top n ks → most_open n (line_of ks ++ (end newline ∷ [])) ≤ top
most_under top n [] newline u = max-le u u
most_under top n (kind ∷ ks) newline u = max-le u.0 (most_under top (opened kind n) ks newline u.1)

pub brackets_open : (tree : Stmts) (newline : Bool) → most_open 0 (line_of (stmts tree) ++ (end newline ∷ [])) ≤ 2 * depth tree
brackets_open tree newline =
    most_under (2 * depth tree) 0 (stmts tree) newline (subst (Under (2 * depth tree) 0) (append-nil (stmts tree)) (stmts_under tree (2 * depth tree) 0 [] (omega arith) (omega arith)))

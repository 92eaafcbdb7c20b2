-- Tokens that stand side by side in what a tree is written as fit, whatever fitting tokens follow.
use Rattle.std.proofs.Common.{if◌then◌else◌, ◌≡◌, ℕ, suc, Bool, true, false, not, ◌&&◌, ◌||◌, nat_lt, List, [], ◌∷◌, ◌++◌, Option, Some, None, refl, ap, sym, ◌∙◌, subst}
use Rattle.std.proofs.lemmas.List.{append_assoc, append-nil}
use Rattle.js_lexer.specs.declared.mark.Mark.TheVariants as m
use Rattle.js_lexer.specs.declared.word.Word.TheVariants as w
use Rattle.js_lexer.specs.declared.token.TokenKind.TheVariants as k
use Rattle.js_tree.specs.declared.tree.BinaryOp.{BinaryOp}
use Rattle.js_tree.specs.declared.tree.BinaryOp.TheVariants as b
use Rattle.js_tree.specs.declared.tree.PrefixOp.{PrefixOp}
use Rattle.js_tree.specs.declared.tree.PrefixOp.TheVariants as p
use Rattle.js_tree.specs.declared.tree.PostfixOp.{PostfixOp}
use Rattle.js_tree.specs.declared.tree.PostfixOp.TheVariants as q
use Rattle.js_tree.specs.Levels.{operation_level, is_in_operation, changes}
use Rattle.js_tree.specs.Tree.{Name, Expr, Exprs, MaybeExpr, Elements, Pairs, Stmt, Stmts, VarItems, Cases, ForInit, ForTarget, MaybeStmt, Handler, Func}
use Rattle.js_tree.specs.Tree
use Rattle.js_lexer.specs.Names.{is_name}
use Rattle.std.specs.List.{list_all}
use Rattle.js_printer.specs.Printed.{Kinds, is_number, is_function, has_call, enclosed, enclosed_if, needs, operand_for, operand, key_kind, assignment_mark, prefix_least, names, maybe_name, begins_as_another}
use Rattle.js_printer.specs.Printed.{expr, exprs, other_exprs, maybe_expr, element, elements, other_elements, pairs, other_pairs, func, stmt, stmts, else_part, handler, finally_part, for_init, for_target, var_items, other_var_items, initialiser, cases, case_head}
use Rattle.js_printer.specs.Signs.{operation_sign, prefix_sign, postfix_sign, assignment}
use Rattle.cluster_files.proofs.Neighbours.{is_quiet, is_no_dot, heads, next_fits, AllFit}

-- ---- signs

sign_fits : (op : BinaryOp) (rest : Kinds) → heads is_quiet rest ≡ true → next_fits (operation_sign op) rest ≡ true
sign_fits b.BitOr rest h = h
sign_fits b.BitXor rest h = h
sign_fits b.BitAnd rest h = h
sign_fits b.Equal rest h = h
sign_fits b.NotEqual rest h = h
sign_fits b.Same rest h = refl
sign_fits b.NotSame rest h = refl
sign_fits b.Less rest h = h
sign_fits b.Greater rest h = h
sign_fits b.LessEqual rest h = refl
sign_fits b.GreaterEqual rest h = refl
sign_fits b.InstanceOf rest h = refl
sign_fits b.In rest h = refl
sign_fits b.ShiftLeft rest h = h
sign_fits b.ShiftRight rest h = h
sign_fits b.ShiftRightUnsigned rest h = h
sign_fits b.Add rest h = h
sign_fits b.Subtract rest h = h
sign_fits b.Multiply rest h = h
sign_fits b.Divide rest h = h
sign_fits b.Remainder rest h = h

sign_no_dot : (op : BinaryOp) (rest : Kinds) → heads is_no_dot (operation_sign op ∷ rest) ≡ true
sign_no_dot b.BitOr rest = refl
sign_no_dot b.BitXor rest = refl
sign_no_dot b.BitAnd rest = refl
sign_no_dot b.Equal rest = refl
sign_no_dot b.NotEqual rest = refl
sign_no_dot b.Same rest = refl
sign_no_dot b.NotSame rest = refl
sign_no_dot b.Less rest = refl
sign_no_dot b.Greater rest = refl
sign_no_dot b.LessEqual rest = refl
sign_no_dot b.GreaterEqual rest = refl
sign_no_dot b.InstanceOf rest = refl
sign_no_dot b.In rest = refl
sign_no_dot b.ShiftLeft rest = refl
sign_no_dot b.ShiftRight rest = refl
sign_no_dot b.ShiftRightUnsigned rest = refl
sign_no_dot b.Add rest = refl
sign_no_dot b.Subtract rest = refl
sign_no_dot b.Multiply rest = refl
sign_no_dot b.Divide rest = refl
sign_no_dot b.Remainder rest = refl

-- an operation is of a lower level than what stands before a dot
binary_low : (op : BinaryOp) → nat_lt (operation_level op) 16 ≡ true
binary_low b.BitOr = refl
binary_low b.BitXor = refl
binary_low b.BitAnd = refl
binary_low b.Equal = refl
binary_low b.NotEqual = refl
binary_low b.Same = refl
binary_low b.NotSame = refl
binary_low b.Less = refl
binary_low b.Greater = refl
binary_low b.LessEqual = refl
binary_low b.GreaterEqual = refl
binary_low b.InstanceOf = refl
binary_low b.In = refl
binary_low b.ShiftLeft = refl
binary_low b.ShiftRight = refl
binary_low b.ShiftRightUnsigned = refl
binary_low b.Add = refl
binary_low b.Subtract = refl
binary_low b.Multiply = refl
binary_low b.Divide = refl
binary_low b.Remainder = refl

prefix_fits : (op : PrefixOp) (rest : Kinds) → heads is_quiet rest ≡ true → next_fits (prefix_sign op) rest ≡ true
prefix_fits p.Delete rest h = refl
prefix_fits p.Void rest h = refl
prefix_fits p.TypeOf rest h = refl
prefix_fits p.Increment rest h = refl
prefix_fits p.Decrement rest h = refl
prefix_fits p.Plus rest h = h
prefix_fits p.Minus rest h = h
prefix_fits p.BitNot rest h = refl
prefix_fits p.Not rest h = h

prefix_quiet : (op : PrefixOp) → is_quiet (prefix_sign op) ≡ true
prefix_quiet p.Delete = refl
prefix_quiet p.Void = refl
prefix_quiet p.TypeOf = refl
prefix_quiet p.Increment = refl
prefix_quiet p.Decrement = refl
prefix_quiet p.Plus = refl
prefix_quiet p.Minus = refl
prefix_quiet p.BitNot = refl
prefix_quiet p.Not = refl

postfix_fits : (op : PostfixOp) (rest : Kinds) → next_fits (postfix_sign op) rest ≡ true
postfix_fits q.Increment rest = refl
postfix_fits q.Decrement rest = refl

postfix_no_dot : (op : PostfixOp) → is_no_dot (postfix_sign op) ≡ true
postfix_no_dot q.Increment = refl
postfix_no_dot q.Decrement = refl

assignment_fits : (op : Option BinaryOp) (rest : Kinds) → heads is_quiet rest ≡ true → next_fits (k.Mark (assignment_mark (assignment op))) rest ≡ true
assignment_fits None rest h = h
assignment_fits (Some b.BitOr) rest h = refl
assignment_fits (Some b.BitXor) rest h = refl
assignment_fits (Some b.BitAnd) rest h = refl
assignment_fits (Some b.Equal) rest h = h
assignment_fits (Some b.NotEqual) rest h = h
assignment_fits (Some b.Same) rest h = h
assignment_fits (Some b.NotSame) rest h = h
assignment_fits (Some b.Less) rest h = h
assignment_fits (Some b.Greater) rest h = h
assignment_fits (Some b.LessEqual) rest h = h
assignment_fits (Some b.GreaterEqual) rest h = h
assignment_fits (Some b.InstanceOf) rest h = h
assignment_fits (Some b.In) rest h = h
assignment_fits (Some b.ShiftLeft) rest h = refl
assignment_fits (Some b.ShiftRight) rest h = refl
assignment_fits (Some b.ShiftRightUnsigned) rest h = refl
assignment_fits (Some b.Add) rest h = refl
assignment_fits (Some b.Subtract) rest h = refl
assignment_fits (Some b.Multiply) rest h = refl
assignment_fits (Some b.Divide) rest h = refl
assignment_fits (Some b.Remainder) rest h = refl

assignment_no_dot : (op : Option BinaryOp) → is_no_dot (k.Mark (assignment_mark (assignment op))) ≡ true
assignment_no_dot None = refl
assignment_no_dot (Some b.BitOr) = refl
assignment_no_dot (Some b.BitXor) = refl
assignment_no_dot (Some b.BitAnd) = refl
assignment_no_dot (Some b.Equal) = refl
assignment_no_dot (Some b.NotEqual) = refl
assignment_no_dot (Some b.Same) = refl
assignment_no_dot (Some b.NotSame) = refl
assignment_no_dot (Some b.Less) = refl
assignment_no_dot (Some b.Greater) = refl
assignment_no_dot (Some b.LessEqual) = refl
assignment_no_dot (Some b.GreaterEqual) = refl
assignment_no_dot (Some b.InstanceOf) = refl
assignment_no_dot (Some b.In) = refl
assignment_no_dot (Some b.ShiftLeft) = refl
assignment_no_dot (Some b.ShiftRight) = refl
assignment_no_dot (Some b.ShiftRightUnsigned) = refl
assignment_no_dot (Some b.Add) = refl
assignment_no_dot (Some b.Subtract) = refl
assignment_no_dot (Some b.Multiply) = refl
assignment_no_dot (Some b.Divide) = refl
assignment_no_dot (Some b.Remainder) = refl

-- ---- operands

-- what is written without parentheses may end with a number
abbrev is_open : Expr → Bool
is_open (Tree.Num n) = true
is_open (Tree.Prefix op x) = true
is_open (Tree.Binary op left right) = true
is_open (Tree.And left right) = true
is_open (Tree.Or left right) = true
is_open (Tree.Comma left right) = true
is_open (Tree.Cond test middle other) = true
is_open (Tree.Assign op target value) = true
is_open _ = false

or-true : (a : Bool) → (a || true) ≡ true
or-true true = refl
or-true false = refl

-- what stands before a dot without parentheses does not
dot_needs : (i : Bool) (x : Expr) → needs (is_number x || is_function x) i 16 x ≡ false → is_open x ≡ false
dot_needs i (Tree.Num n) h = cc
dot_needs i (Tree.Prefix op x) h = cc
dot_needs i (Tree.Binary op left right) h = absurd (clash (sym (ap (λ a. a || (not i && is_in_operation (Tree.Binary op left right))) (binary_low op)) ∙ h))
  where
    clash : true ≡ false → ⊥
    clash e = absurd (cc)
dot_needs i (Tree.And left right) h = cc
dot_needs i (Tree.Or left right) h = cc
dot_needs i (Tree.Comma left right) h = cc
dot_needs i (Tree.Cond test middle other) h = cc
dot_needs i (Tree.Assign op target value) h = cc
dot_needs i (Tree.Str text) h = refl
dot_needs i (Tree.Truth b) h = refl
dot_needs i Tree.Null h = refl
dot_needs i Tree.This h = refl
dot_needs i (Tree.Ident name) h = refl
dot_needs i (Tree.Array es) h = refl
dot_needs i (Tree.Object ps) h = refl
dot_needs i (Tree.Function f) h = refl
dot_needs i (Tree.Dot object name) h = refl
dot_needs i (Tree.Index object key) h = refl
dot_needs i (Tree.Call callee es) h = refl
dot_needs i (Tree.New callee es) h = refl
dot_needs i (Tree.Postfix target op) h = refl
dot_needs i (Tree.Late n) h = refl

-- all fit, and no mark goes on with the first
record Good (u : Kinds) : Type 0 where
  all : AllFit u
  quiet : heads is_quiet u ≡ true

-- an expression fits before fitting tokens, but for a dot where it may end with a number
abbrev Writes : Expr → Type 0
Writes x = (i : Bool) (v : Kinds) → AllFit v → (is_open x ≡ true → heads is_no_dot v ≡ true) → Good (expr x i ++ v)

enclosed_fits : (u v : Kinds) → AllFit (u ++ (k.Mark m.CloseParenthesis ∷ v)) → AllFit (enclosed u ++ v)
enclosed_fits u v h = (refl, subst AllFit (sym (append_assoc u (k.Mark m.CloseParenthesis ∷ []) v)) h)

operand_by : (x : Expr) (a i : Bool) → Writes x → (v : Kinds) → AllFit v → (a ≡ false → is_open x ≡ true → heads is_no_dot v ≡ true) → Good (enclosed_if a (expr x i) ++ v)
operand_by x true i d v f h = record { all = enclosed_fits (expr x i) v (d i (k.Mark m.CloseParenthesis ∷ v) (refl, f) (λ e. refl)).all; quiet = refl }
operand_by x false i d v f h = d i v f (h refl)

operand_good : (reason i : Bool) (least : ℕ) (x : Expr) → Writes x → (v : Kinds) → AllFit v → (is_open x ≡ true → heads is_no_dot v ≡ true) → Good (operand_for reason i least x (expr x) ++ v)
operand_good reason i least x d v f h = operand_by x (needs reason i least x) (i || needs reason i least x) d v f (λ e. h)

-- tokens behind others, and others behind both
joined_good : (u w v : Kinds) → Good (u ++ (w ++ v)) → Good ((u ++ w) ++ v)
joined_good u w v h = subst Good (sym (append_assoc u w v)) h

joined_fits : (u w v : Kinds) → AllFit (u ++ (w ++ v)) → AllFit ((u ++ w) ++ v)
joined_fits u w v h = subst AllFit (sym (append_assoc u w v)) h

key_fits : (key : Name) (rest : Kinds) → next_fits (key_kind key) rest ≡ true
key_fits key rest = at (is_name key && list_all (λ unit. nat_lt unit 128) key)
  where
    at : (a : Bool) → next_fits (if a then k.Name key else k.Str key) rest ≡ true
    at true = refl
    at false = refl

names_fit : (ns : List Name) (v : Kinds) → AllFit v → AllFit (names ns ++ v)
names_fit [] v f = f
names_fit (n ∷ []) v f = (refl, f)
names_fit (n ∷ o ∷ ns) v f = (refl, (refl, names_fit (o ∷ ns) v f))

maybe_name_fits : (n : Option Name) (v : Kinds) → AllFit v → AllFit (maybe_name n ++ v)
maybe_name_fits None v f = f
maybe_name_fits (Some n) v f = (refl, f)

-- what follows a part of a list is no dot
abbrev NoDot : Kinds → Type 0
NoDot v = heads is_no_dot v ≡ true

arguments_no_dot : (es : Exprs) (v : Kinds) → NoDot v → NoDot (other_exprs es ++ v)
arguments_no_dot Tree.NoExprs v h = h
arguments_no_dot (Tree.MoreExprs e es) v h = refl

elements_no_dot : (e : MaybeExpr) (es : Elements) (v : Kinds) → NoDot v → NoDot (other_elements e es ++ v)
elements_no_dot Tree.NoExpr Tree.NoElements v h = refl
elements_no_dot (Tree.AnExpr x) Tree.NoElements v h = h
elements_no_dot Tree.NoExpr (Tree.MoreElements next es) v h = refl
elements_no_dot (Tree.AnExpr x) (Tree.MoreElements next es) v h = refl

pairs_no_dot : (ps : Pairs) (v : Kinds) → NoDot v → NoDot (other_pairs ps ++ v)
pairs_no_dot Tree.NoPairs v h = h
pairs_no_dot (Tree.MorePairs key value ps) v h = refl

items_no_dot : (items : VarItems) (i : Bool) (v : Kinds) → NoDot v → NoDot (other_var_items items i ++ v)
items_no_dot Tree.NoVarItems i v h = h
items_no_dot (Tree.MoreVarItems name value rest) i v h = refl

-- an expression statement
statement_fits : (x : Expr) (a : Bool) → Writes x → (v : Kinds) → AllFit v → AllFit ((enclosed_if a (expr x true) ++ (k.Mark m.Semicolon ∷ [])) ++ v)
statement_fits x a d v f =
    joined_fits (enclosed_if a (expr x true)) (k.Mark m.Semicolon ∷ []) v (operand_by x a true d (k.Mark m.Semicolon ∷ v) (refl, f) (λ e o. refl)).all

-- arguments in their parentheses
arguments_fit : (es : Exprs) → ((v : Kinds) → AllFit v → NoDot v → AllFit (exprs es ++ v)) → (v : Kinds) → AllFit v → AllFit (enclosed (exprs es) ++ v)
arguments_fit es d v f = enclosed_fits (exprs es) v (d (k.Mark m.CloseParenthesis ∷ v) (refl, f) refl)

-- a header of one expression
header_fits : (x : Expr) → Writes x → (v : Kinds) → AllFit v → AllFit (enclosed (expr x true) ++ v)
header_fits x d v f = enclosed_fits (expr x true) v (d true (k.Mark m.CloseParenthesis ∷ v) (refl, f) (λ o. refl)).all

-- ---- trees

mutual
  written : (x : Expr) → Writes x
  written (Tree.Num n) i v f h = record { all = (h refl, f); quiet = refl }
  written (Tree.Str text) i v f h = record { all = (refl, f); quiet = refl }
  written (Tree.Truth true) i v f h = record { all = (refl, f); quiet = refl }
  written (Tree.Truth false) i v f h = record { all = (refl, f); quiet = refl }
  written Tree.Null i v f h = record { all = (refl, f); quiet = refl }
  written Tree.This i v f h = record { all = (refl, f); quiet = refl }
  written (Tree.Ident name) i v f h = record { all = (refl, f); quiet = refl }
  written (Tree.Array es) i v f h =
      record { all = (refl, joined_fits (elements es) (k.Mark m.CloseBracket ∷ []) v (elements_fit es (k.Mark m.CloseBracket ∷ v) (refl, f) refl)); quiet = refl }
  written (Tree.Object ps) i v f h =
      record { all = (refl, joined_fits (pairs ps) (k.Mark m.CloseBrace ∷ []) v (pairs_fit ps (k.Mark m.CloseBrace ∷ v) (refl, f) refl)); quiet = refl }
  written (Tree.Function (Tree.Code number name formals body role)) i v f h = record { all = func_fits (Tree.Code number name formals body role) v f; quiet = refl }
  written (Tree.Dot x name) i v f h =
      joined_good (operand_for (is_number x || is_function x) i 16 x (expr x)) (k.Mark m.Dot ∷ (k.Name name ∷ [])) v
      (operand_by x (needs (is_number x || is_function x) i 16 x) (i || needs (is_number x || is_function x) i 16 x) (written x) (k.Mark m.Dot ∷ (k.Name name ∷ v)) (refl, (refl, f))
      (λ e o. let c = dot_needs i x e in cc))
  written (Tree.Index x key) i v f h =
      joined_good (operand_for (is_function x) i 16 x (expr x)) (k.Mark m.OpenBracket ∷ (operand true 1 key (expr key) ++ (k.Mark m.CloseBracket ∷ []))) v
      (operand_good (is_function x) i 16 x (written x) (k.Mark m.OpenBracket ∷ ((operand true 1 key (expr key) ++ (k.Mark m.CloseBracket ∷ [])) ++ v))
      (refl, joined_fits (operand true 1 key (expr key)) (k.Mark m.CloseBracket ∷ []) v (operand_good false true 1 key (written key) (k.Mark m.CloseBracket ∷ v) (refl, f) (λ o. refl)).all)
      (λ o. refl))
  written (Tree.Call x es) i v f h =
      joined_good (operand_for (is_function x) i 16 x (expr x)) (enclosed (exprs es)) v
      (operand_good (is_function x) i 16 x (written x) (enclosed (exprs es) ++ v) (arguments_fit es (exprs_fit es) v f) (λ o. refl))
  written (Tree.New x es) i v f h =
      record {
        all = (
          refl,
          joined_fits (operand_for (is_function x || has_call x) i 16 x (expr x)) (enclosed (exprs es)) v
              (operand_good (is_function x || has_call x) i 16 x (written x) (enclosed (exprs es) ++ v) (arguments_fit es (exprs_fit es) v f) (λ o. refl)).all,
        );
        quiet = refl;
      }
  written (Tree.Postfix x op) i v f h =
      joined_good (operand i 16 x (expr x)) (postfix_sign op ∷ []) v
      (operand_good false i 16 x (written x) (postfix_sign op ∷ v) (postfix_fits op v, f) (λ o. postfix_no_dot op))
  written (Tree.Prefix op x) i v f h =
      let rest = operand_good false i (prefix_least (changes op)) x (written x) v f (λ o. h refl) in
      record { all = (prefix_fits op (operand i (prefix_least (changes op)) x (expr x) ++ v) rest.quiet, rest.all); quiet = prefix_quiet op }
  written (Tree.Binary op x y) i v f h =
      let rest = operand_good false i (suc (operation_level op)) y (written y) v f (λ o. h refl) in
      joined_good (operand i (operation_level op) x (expr x)) (operation_sign op ∷ operand i (suc (operation_level op)) y (expr y)) v
      (operand_good false i (operation_level op) x (written x) (operation_sign op ∷ (operand i (suc (operation_level op)) y (expr y) ++ v))
      (sign_fits op (operand i (suc (operation_level op)) y (expr y) ++ v) rest.quiet, rest.all) (λ o. sign_no_dot op (operand i (suc (operation_level op)) y (expr y) ++ v)))
  written (Tree.And x y) i v f h =
      let rest = operand_good false i 6 y (written y) v f (λ o. h refl) in
      joined_good (operand i 5 x (expr x)) (k.Mark m.And ∷ operand i 6 y (expr y)) v
      (operand_good false i 5 x (written x) (k.Mark m.And ∷ (operand i 6 y (expr y) ++ v)) (refl, rest.all) (λ o. refl))
  written (Tree.Or x y) i v f h =
      let rest = operand_good false i 5 y (written y) v f (λ o. h refl) in
      joined_good (operand i 4 x (expr x)) (k.Mark m.Or ∷ operand i 5 y (expr y)) v
      (operand_good false i 4 x (written x) (k.Mark m.Or ∷ (operand i 5 y (expr y) ++ v)) (refl, rest.all) (λ o. refl))
  written (Tree.Comma x y) i v f h =
      let rest = operand_good false i 2 y (written y) v f (λ o. h refl) in
      joined_good (operand i 1 x (expr x)) (k.Mark m.Comma ∷ operand i 2 y (expr y)) v
      (operand_good false i 1 x (written x) (k.Mark m.Comma ∷ (operand i 2 y (expr y) ++ v)) (refl, rest.all) (λ o. refl))
  written (Tree.Cond x y z) i v f h =
      let last = operand_good false i 2 z (written z) v f (λ o. h refl) in
      let middle = operand_good false i 2 y (written y) (k.Mark m.Colon ∷ (operand i 2 z (expr z) ++ v)) (refl, last.all) (λ o. refl) in
      joined_good (operand i 4 x (expr x)) (k.Mark m.Question ∷ (operand i 2 y (expr y) ++ (k.Mark m.Colon ∷ operand i 2 z (expr z)))) v
      (operand_good false i 4 x (written x) (k.Mark m.Question ∷ ((operand i 2 y (expr y) ++ (k.Mark m.Colon ∷ operand i 2 z (expr z))) ++ v))
      (refl, joined_fits (operand i 2 y (expr y)) (k.Mark m.Colon ∷ operand i 2 z (expr z)) v middle.all) (λ o. refl))
  written (Tree.Assign op x y) i v f h =
      let rest = operand_good false i 2 y (written y) v f (λ o. h refl) in
      joined_good (operand i 16 x (expr x)) (k.Mark (assignment_mark (assignment op)) ∷ operand i 2 y (expr y)) v
      (operand_good false i 16 x (written x) (k.Mark (assignment_mark (assignment op)) ∷ (operand i 2 y (expr y) ++ v))
      (assignment_fits op (operand i 2 y (expr y) ++ v) rest.quiet, rest.all) (λ o. assignment_no_dot op))
  written (Tree.Late n) i v f h = record { all = (refl, (refl, (refl, (refl, (refl, (refl, (refl, f))))))); quiet = refl }

  exprs_fit : (es : Exprs) (v : Kinds) → AllFit v → NoDot v → AllFit (exprs es ++ v)
  exprs_fit Tree.NoExprs v f h = f
  exprs_fit (Tree.MoreExprs e es) v f h =
      joined_fits (operand true 2 e (expr e)) (other_exprs es) v
      (operand_good false true 2 e (written e) (other_exprs es ++ v) (other_exprs_fit es v f h) (λ o. arguments_no_dot es v h)).all

  other_exprs_fit : (es : Exprs) (v : Kinds) → AllFit v → NoDot v → AllFit (other_exprs es ++ v)
  other_exprs_fit Tree.NoExprs v f h = f
  other_exprs_fit (Tree.MoreExprs e es) v f h = (
    refl,
    joined_fits (operand true 2 e (expr e)) (other_exprs es) v
        (operand_good false true 2 e (written e) (other_exprs es ++ v) (other_exprs_fit es v f h) (λ o. arguments_no_dot es v h)).all,
  )

  maybe_expr_fits : (e : MaybeExpr) (v : Kinds) → AllFit v → NoDot v → AllFit (maybe_expr e ++ v)
  maybe_expr_fits Tree.NoExpr v f h = f
  maybe_expr_fits (Tree.AnExpr e) v f h = (written e true v f (λ o. h)).all

  element_fits : (e : MaybeExpr) (v : Kinds) → AllFit v → NoDot v → AllFit (element e ++ v)
  element_fits Tree.NoExpr v f h = f
  element_fits (Tree.AnExpr e) v f h = (operand_good false true 2 e (written e) v f (λ o. h)).all

  elements_fit : (es : Elements) (v : Kinds) → AllFit v → NoDot v → AllFit (elements es ++ v)
  elements_fit Tree.NoElements v f h = f
  elements_fit (Tree.MoreElements e es) v f h =
      joined_fits (element e) (other_elements e es) v (element_fits e (other_elements e es ++ v) (other_elements_fit e es v f h) (elements_no_dot e es v h))

  other_elements_fit : (e : MaybeExpr) (es : Elements) (v : Kinds) → AllFit v → NoDot v → AllFit (other_elements e es ++ v)
  other_elements_fit Tree.NoExpr Tree.NoElements v f h = (refl, f)
  other_elements_fit (Tree.AnExpr x) Tree.NoElements v f h = f
  other_elements_fit Tree.NoExpr (Tree.MoreElements next es) v f h = (
    refl,
    joined_fits (element next) (other_elements next es) v
        (element_fits next (other_elements next es ++ v) (other_elements_fit next es v f h) (elements_no_dot next es v h)),
  )
  other_elements_fit (Tree.AnExpr x) (Tree.MoreElements next es) v f h = (
    refl,
    joined_fits (element next) (other_elements next es) v
        (element_fits next (other_elements next es ++ v) (other_elements_fit next es v f h) (elements_no_dot next es v h)),
  )

  pairs_fit : (ps : Pairs) (v : Kinds) → AllFit v → NoDot v → AllFit (pairs ps ++ v)
  pairs_fit Tree.NoPairs v f h = f
  pairs_fit (Tree.MorePairs key value ps) v f h = (
    key_fits key (k.Mark m.Colon ∷ ((operand true 2 value (expr value) ++ other_pairs ps) ++ v)),
    (
      refl,
      joined_fits (operand true 2 value (expr value)) (other_pairs ps) v
          (operand_good false true 2 value (written value) (other_pairs ps ++ v) (other_pairs_fit ps v f h) (λ o. pairs_no_dot ps v h)).all,
    ),
  )

  other_pairs_fit : (ps : Pairs) (v : Kinds) → AllFit v → NoDot v → AllFit (other_pairs ps ++ v)
  other_pairs_fit Tree.NoPairs v f h = f
  other_pairs_fit (Tree.MorePairs key value ps) v f h = (
    refl,
    (
      key_fits key (k.Mark m.Colon ∷ ((operand true 2 value (expr value) ++ other_pairs ps) ++ v)),
      (
        refl,
        joined_fits (operand true 2 value (expr value)) (other_pairs ps) v
            (operand_good false true 2 value (written value) (other_pairs ps ++ v) (other_pairs_fit ps v f h) (λ o. pairs_no_dot ps v h)).all,
      ),
    ),
  )

  func_fits : (f : Func) (v : Kinds) → AllFit v → AllFit (func f ++ v)
  func_fits (Tree.Code number name formals body role) v f =
      let inside : AllFit ((stmts body ++ (k.Mark m.CloseBrace ∷ [])) ++ v) = joined_fits (stmts body) (k.Mark m.CloseBrace ∷ []) v (stmts_fit body (k.Mark m.CloseBrace ∷ v) (refl, f)) in
      let behind = k.Mark m.OpenBrace ∷ (stmts body ++ (k.Mark m.CloseBrace ∷ [])) in
      let rest : AllFit ((enclosed (names formals) ++ behind) ++ v) =
      joined_fits (enclosed (names formals)) behind v (enclosed_fits (names formals) (behind ++ v) (names_fit formals (k.Mark m.CloseParenthesis ∷ (behind ++ v)) (refl, (refl, inside)))) in
      (refl, joined_fits (maybe_name name) (enclosed (names formals) ++ behind) v (maybe_name_fits name ((enclosed (names formals) ++ behind) ++ v) rest))

  pub stmt_fits : (s : Stmt) (v : Kinds) → AllFit v → AllFit (stmt s ++ v)
  stmt_fits (Tree.Block body) v f = (refl, joined_fits (stmts body) (k.Mark m.CloseBrace ∷ []) v (stmts_fit body (k.Mark m.CloseBrace ∷ v) (refl, f)))
  stmt_fits (Tree.Variables items) v f =
      (refl, joined_fits (var_items items true) (k.Mark m.Semicolon ∷ []) v (var_items_fit items true (k.Mark m.Semicolon ∷ v) (refl, f) refl))
  stmt_fits Tree.Empty v f = (refl, f)
  stmt_fits (Tree.Do x) v f = statement_fits x (begins_as_another (expr x true)) (written x) v f
  stmt_fits (Tree.If test body other) v f = (
    refl,
    joined_fits (enclosed (expr test true)) (stmt body ++ else_part other) v
        (header_fits test (written test) ((stmt body ++ else_part other) ++ v) (joined_fits (stmt body) (else_part other) v (stmt_fits body (else_part other ++ v) (else_fits other v f)))),
  )
  stmt_fits (Tree.DoWhile body test) v f =
      let behind = k.Word w.While ∷ (enclosed (expr test true) ++ (k.Mark m.Semicolon ∷ [])) in (
        refl,
        joined_fits (stmt body) behind v (stmt_fits body (behind ++ v)
            (refl, joined_fits (enclosed (expr test true)) (k.Mark m.Semicolon ∷ []) v (header_fits test (written test) (k.Mark m.Semicolon ∷ v) (refl, f)))),
      )
  stmt_fits (Tree.While test body) v f = (refl, joined_fits (enclosed (expr test true)) (stmt body) v (header_fits test (written test) (stmt body ++ v) (stmt_fits body v f)))
  stmt_fits (Tree.For first test next body) v f =
      let last = k.Mark m.Semicolon ∷ maybe_expr next in
      let behind = k.Mark m.Semicolon ∷ (maybe_expr test ++ last) in
      let after = k.Mark m.CloseParenthesis ∷ (stmt body ++ v) in
      let closed : AllFit after = (refl, stmt_fits body v f) in
      let third : AllFit (last ++ after) = (refl, maybe_expr_fits next after closed refl) in
      let second : AllFit (behind ++ after) = (refl, joined_fits (maybe_expr test) last after (maybe_expr_fits test (last ++ after) third refl)) in
      let head : AllFit ((for_init first ++ behind) ++ after) = joined_fits (for_init first) behind after (for_init_fits first (behind ++ after) second refl) in
      (refl, joined_fits (enclosed (for_init first ++ behind)) (stmt body) v (enclosed_fits (for_init first ++ behind) (stmt body ++ v) head))
  stmt_fits (Tree.ForIn target object body) v f =
      let behind = k.Word w.In ∷ expr object true in
      let after = k.Mark m.CloseParenthesis ∷ (stmt body ++ v) in
      let closed : AllFit after = (refl, stmt_fits body v f) in
      let second : AllFit (behind ++ after) = (refl, (written object true after closed (λ o. refl)).all) in
      let head : AllFit ((for_target target ++ behind) ++ after) = joined_fits (for_target target) behind after (for_target_fits target (behind ++ after) second refl) in
      (refl, joined_fits (enclosed (for_target target ++ behind)) (stmt body) v (enclosed_fits (for_target target ++ behind) (stmt body ++ v) head))
  stmt_fits (Tree.Continue label) v f = (refl, joined_fits (maybe_name label) (k.Mark m.Semicolon ∷ []) v (maybe_name_fits label (k.Mark m.Semicolon ∷ v) (refl, f)))
  stmt_fits (Tree.Break label) v f = (refl, joined_fits (maybe_name label) (k.Mark m.Semicolon ∷ []) v (maybe_name_fits label (k.Mark m.Semicolon ∷ v) (refl, f)))
  stmt_fits (Tree.Return value) v f = (refl, joined_fits (maybe_expr value) (k.Mark m.Semicolon ∷ []) v (maybe_expr_fits value (k.Mark m.Semicolon ∷ v) (refl, f) refl))
  stmt_fits (Tree.Switch value cs) v f =
      let behind = k.Mark m.OpenBrace ∷ (cases cs ++ (k.Mark m.CloseBrace ∷ [])) in (
        refl,
        joined_fits (enclosed (expr value true)) behind v (header_fits value (written value) (behind ++ v)
            (refl, joined_fits (cases cs) (k.Mark m.CloseBrace ∷ []) v (cases_fit cs (k.Mark m.CloseBrace ∷ v) (refl, f)))),
      )
  stmt_fits (Tree.Label name body) v f = (refl, (refl, stmt_fits body v f))
  stmt_fits (Tree.Throw x) v f = (refl, joined_fits (expr x true) (k.Mark m.Semicolon ∷ []) v (written x true (k.Mark m.Semicolon ∷ v) (refl, f) (λ o. refl)).all)
  stmt_fits (Tree.Try block caught last) v f = (
    refl,
    joined_fits (stmt block) (handler caught ++ finally_part last) v (stmt_fits block ((handler caught ++ finally_part last) ++ v)
        (joined_fits (handler caught) (finally_part last) v (handler_fits caught (finally_part last ++ v) (finally_fits last v f)))),
  )
  stmt_fits (Tree.Declare f) v g = func_fits f v g
  stmt_fits (Tree.Used n) v f = (refl, (refl, (refl, (refl, (refl, f)))))

  pub stmts_fit : (ss : Stmts) (v : Kinds) → AllFit v → AllFit (stmts ss ++ v)
  stmts_fit Tree.NoStmts v f = f
  stmts_fit (Tree.MoreStmts s ss) v f = joined_fits (stmt s) (stmts ss) v (stmt_fits s (stmts ss ++ v) (stmts_fit ss v f))

  else_fits : (s : MaybeStmt) (v : Kinds) → AllFit v → AllFit (else_part s ++ v)
  else_fits Tree.NoStmt v f = f
  else_fits (Tree.AStmt s) v f = (refl, stmt_fits s v f)

  finally_fits : (s : MaybeStmt) (v : Kinds) → AllFit v → AllFit (finally_part s ++ v)
  finally_fits Tree.NoStmt v f = f
  finally_fits (Tree.AStmt s) v f = (refl, stmt_fits s v f)

  handler_fits : (h : Handler) (v : Kinds) → AllFit v → AllFit (handler h ++ v)
  handler_fits Tree.NoHandler v f = f
  handler_fits (Tree.ACatch name block) v f =
      (refl, joined_fits (enclosed (k.Name name ∷ [])) (stmt block) v (refl, (refl, (refl, stmt_fits block v f))))

  for_init_fits : (first : ForInit) (v : Kinds) → AllFit v → NoDot v → AllFit (for_init first ++ v)
  for_init_fits Tree.Nothing v f h = f
  for_init_fits (Tree.Vars items) v f h = (refl, var_items_fit items false v f h)
  for_init_fits (Tree.First x) v f h = (operand_good false false 1 x (written x) v f (λ o. h)).all

  for_target_fits : (target : ForTarget) (v : Kinds) → AllFit v → NoDot v → AllFit (for_target target ++ v)
  for_target_fits (Tree.AVar name value) v f h = (refl, (refl, initialiser_fits value false v f h))
  for_target_fits (Tree.Target x) v f h = (operand_good false false 16 x (written x) v f (λ o. h)).all

  initialiser_fits : (value : MaybeExpr) (i : Bool) (v : Kinds) → AllFit v → NoDot v → AllFit (initialiser value i ++ v)
  initialiser_fits Tree.NoExpr i v f h = f
  initialiser_fits (Tree.AnExpr x) i v f h = let rest = operand_good false i 2 x (written x) v f (λ o. h) in (rest.quiet, rest.all)

  var_items_fit : (items : VarItems) (i : Bool) (v : Kinds) → AllFit v → NoDot v → AllFit (var_items items i ++ v)
  var_items_fit Tree.NoVarItems i v f h = f
  var_items_fit (Tree.MoreVarItems name value rest) i v f h = (
    refl,
    joined_fits (initialiser value i) (other_var_items rest i) v
        (initialiser_fits value i (other_var_items rest i ++ v) (other_var_items_fit rest i v f h) (items_no_dot rest i v h)),
  )

  other_var_items_fit : (items : VarItems) (i : Bool) (v : Kinds) → AllFit v → NoDot v → AllFit (other_var_items items i ++ v)
  other_var_items_fit Tree.NoVarItems i v f h = f
  other_var_items_fit (Tree.MoreVarItems name value rest) i v f h = (
    refl,
    (
      refl,
      joined_fits (initialiser value i) (other_var_items rest i) v
          (initialiser_fits value i (other_var_items rest i ++ v) (other_var_items_fit rest i v f h) (items_no_dot rest i v h)),
    ),
  )

  cases_fit : (cs : Cases) (v : Kinds) → AllFit v → AllFit (cases cs ++ v)
  cases_fit Tree.NoCases v f = f
  cases_fit (Tree.MoreCases test body rest) v f =
      let behind = k.Mark m.Colon ∷ (stmts body ++ cases rest) in
      joined_fits (case_head test) behind v (case_head_fits test (behind ++ v)
      (refl, joined_fits (stmts body) (cases rest) v (stmts_fit body (cases rest ++ v) (cases_fit rest v f))) refl)

  case_head_fits : (test : MaybeExpr) (v : Kinds) → AllFit v → NoDot v → AllFit (case_head test ++ v)
  case_head_fits Tree.NoExpr v f h = (refl, f)
  case_head_fits (Tree.AnExpr x) v f h = (refl, (written x true v f (λ o. h)).all)

pub function_fits : (f : Func) → AllFit (func f)
function_fits f = subst AllFit (append-nil (func f)) (func_fits f [] tt)

pub script_fits : (ss : Stmts) → AllFit (stmts ss)
script_fits ss = subst AllFit (append-nil (stmts ss)) (stmts_fit ss [] tt)

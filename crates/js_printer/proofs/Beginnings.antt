-- The first token of an expression, by its left side.
use Rattle.std.proofs.Common.{◌≡◌, Bool, true, false, not, ◌&&◌, ◌||◌, [], ◌∷◌, ◌++◌, refl}
use Rattle.js_tree.specs.Tree.{Expr}
use Rattle.js_tree.specs.Tree
use Rattle.js_printer.specs.Printed.{Kinds, enclosed_if, begins_as_another, expr}
use Rattle.js_printer.proofs.Views.{dot_kinds, index_kinds, call_kinds, postfix_kinds, binary_kinds, and_kinds, or_kinds, comma_kinds, cond_kinds, assign_kinds}

has_token : Kinds → Bool
has_token [] = false
has_token (kind ∷ rest) = true

has_append : (u v : Kinds) → has_token u ≡ true → has_token (u ++ v) ≡ true
unfolding has_token
has_append [] v h = cc
has_append (kind ∷ u) v h = refl

enclosed_some : (b : Bool) (u : Kinds) → has_token u ≡ true → has_token (enclosed_if b u) ≡ true
unfolding has_token
enclosed_some true u h = refl
enclosed_some false u h = h

front_some : (b : Bool) (u v : Kinds) → has_token u ≡ true → has_token (enclosed_if b u ++ v) ≡ true
front_some b u v h = has_append (enclosed_if b u) v (enclosed_some b u h)

-- an expression is written with some token
some : (x : Expr) (i : Bool) → has_token (expr x i) ≡ true
unfolding has_token
some (Tree.Num n) i = refl
some (Tree.Str text) i = refl
some (Tree.Truth b) i = refl
some Tree.Null i = refl
some Tree.This i = refl
some (Tree.Ident name) i = refl
some (Tree.Array es) i = refl
some (Tree.Object ps) i = refl
some (Tree.Function (Tree.Code number name formals body role)) i = refl
some (Tree.Dot x name) i = front_some _ (expr x _) _ (some x _)
some (Tree.Index x key) i = front_some _ (expr x _) _ (some x _)
some (Tree.Call x es) i = front_some _ (expr x _) _ (some x _)
some (Tree.New x es) i = refl
some (Tree.Postfix x op) i = front_some _ (expr x _) _ (some x _)
some (Tree.Prefix op x) i = refl
some (Tree.Binary op x right) i = front_some _ (expr x _) _ (some x _)
some (Tree.And x right) i = front_some _ (expr x _) _ (some x _)
some (Tree.Or x right) i = front_some _ (expr x _) _ (some x _)
some (Tree.Comma x right) i = front_some _ (expr x _) _ (some x _)
some (Tree.Cond x middle other) i = front_some _ (expr x _) _ (some x _)
some (Tree.Assign op x value) i = front_some _ (expr x _) _ (some x _)
some (Tree.Late n) i = refl

begins_append : (u v : Kinds) → has_token u ≡ true → begins_as_another (u ++ v) ≡ begins_as_another u
unfolding has_token
begins_append [] v h = cc
begins_append (kind ∷ u) v h = refl

-- what is behind an operand does not matter
pub begins_front : (b : Bool) (x : Expr) (i : Bool) (v : Kinds) → begins_as_another (enclosed_if b (expr x i) ++ v) ≡ begins_as_another (enclosed_if b (expr x i))
begins_front b x i v = begins_append (enclosed_if b (expr x i)) v (enclosed_some b (expr x i) (some x i))

-- in parentheses it begins with one
pub begins_operand : (reason needed : Bool) (u : Kinds) → begins_as_another (enclosed_if (reason || needed) u) ≡ (not reason && (not needed && begins_as_another u))
begins_operand true needed u = refl
begins_operand false true u = refl
begins_operand false false u = refl

-- what `begins_as_another` goes by
pub ruleset first_parts = (begins_front, dot_kinds, index_kinds, call_kinds, postfix_kinds, binary_kinds, and_kinds, or_kinds, comma_kinds, cond_kinds, assign_kinds)

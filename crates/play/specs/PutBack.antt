-- Putting back: the original of a site's script, where each stub's body is replaced by its entry's body under the stub's name and formals.
use Rattle.std.specs.Prelude.{◌≡◌, ℕ, List, [], ◌∷◌, Option, Some, None, Bool, true, false, ◌&&◌, All, cond, nat_eq, count_by}
use Rattle.std.specs.Option.{option_map}
use Rattle.std.specs.Str.{bytes_eq}
use Rattle.js_tree.specs.Tree.{Name, Stmt, Stmts, NoStmts, MoreStmts, Func, Code, Declare, Script}
use Rattle.js_tree.specs.Numbering.{IsNumbered}
use Rattle.js_tree.specs.declared.tree.Role.{Role}
use Rattle.js_tree.specs.declared.tree.Role.TheVariants.{Plain, Stub, Wrapper, Late}

-- the body of an entry, where its formals are those of the stub
abbrev pub same_names : List Name → List Name → Bool
same_names [] [] = true
same_names (x ∷ xs) (y ∷ ys) = bytes_eq x y && same_names xs ys
same_names _ _ = false

abbrev pub entry_body : List Name → Option Func → Option Stmts
entry_body formals None = None
entry_body formals (Some (Code number name names body role)) = cond (same_names names formals) (Some body) None

abbrev pub with_body : ℕ → Option Name → List Name → Option Stmts → Option Func
with_body number name formals None = None
with_body number name formals (Some body) = Some (Code number name formals body Plain)

abbrev pub back_by : (ℕ → Option Func) → Role → ℕ → Option Name → List Name → Stmts → Option Func
back_by entries Plain number name formals body = Some (Code number name formals body Plain)
back_by entries Stub number name formals body = with_body number name formals (entry_body formals (entries number))
back_by entries Wrapper number name formals body = None
back_by entries Late number name formals body = None

abbrev pub back_func : (ℕ → Option Func) → Func → Option Func
back_func entries (Code number name formals body role) = back_by entries role number name formals body

abbrev pub back_stmt : (ℕ → Option Func) → Stmt → Option Stmt
back_stmt entries (Declare f) = option_map Declare (back_func entries f)
back_stmt entries s = Some s

abbrev pub and_rest : Option Stmt → Option Stmts → Option Stmts
and_rest None rest = None
and_rest (Some s) rest = option_map (MoreStmts s) rest

abbrev pub back : (ℕ → Option Func) → Script → Option Script
back entries NoStmts = Some NoStmts
back entries (MoreStmts s ss) = and_rest (back_stmt entries s) (back entries ss)

-- the script is put back to this original: each listed entry is the entry of exactly one stub, and the numbers are those of the original's functions
pub record PutsBack (entries : ℕ → Option Func) (listed stubs : List ℕ) (script original : Script) : Type 0 where
  pub original_is : back entries script ≡ Some original
  pub once : All (λ k. count_by (nat_eq k) stubs ≡ 1) listed
  pub numbered : IsNumbered (original ∷ [])

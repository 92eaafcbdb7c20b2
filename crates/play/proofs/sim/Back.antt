-- A site's script stands for the original that it is put back to.
use Rattle.std.proofs.Common.{◌≡◌, ℕ, List, [], ◌∷◌, Option, Some, None, refl, sym, ap, ◌∙◌, subst}
use Rattle.std.specs.Option.{option_map}
use Rattle.js_tree.specs.Tree.{Name, Stmts, MoreStmts, NoStmts, Script, Func, Code, Declare}
use Rattle.js_tree.specs.declared.tree.Role.TheVariants.{Plain, Stub}
use Rattle.first_grammar.specs.First.{statement_tree, statements_tree, stub_tree}
use Rattle.first_grammar.specs.declared.script.FirstStatement.{FirstStatement}
use Rattle.first_grammar.specs.declared.script.FirstStatement.TheVariants as statement
use Rattle.first_grammar.specs.declared.script.FirstBody.{FirstBody}
use Rattle.first_grammar.specs.declared.script.FirstBody.TheVariants as body
use Rattle.first_grammar.specs.declared.script.FirstItem.{FirstItem}
use Rattle.first_grammar.specs.declared.script.FirstItem.TheVariants as item
use Rattle.play.specs.Site.{numbered, numbers_after, site_tree}
use Rattle.play.specs.PutBack.{entry_body, with_body, back_func, back_stmt, and_rest, back}
use Rattle.play.specs.Laws.{IsLate}
use Rattle.play.proofs.TableLemmas.{none_some, some_one}
use Rattle.play.proofs.sim.Trees.{ident, str, call_name, call_dot, no_exprs, more_exprs, OfStmt, do_expr, OfStmts, no_stmts, more_stmts, more_declared, OfFunc, plain, stub}

-- what was mapped
record Mapped {A B : Type 0} (f : A → B) (o : Option A) (y : B) : Type 0 where
  from : A
  was : o ≡ Some from
  is : f from ≡ y

mapped : {A B : Type 0} (f : A → B) (o : Option A) (y : B) → option_map f o ≡ Some y → Mapped f o y
mapped f None y e = absurd (none_some e)
mapped f (Some x) y e = record { from = x; was = refl; is = some_one e }

-- a declaration that was put back, and what follows it
record Declared (o : Option Func) (rest : Option Stmts) (ss : Stmts) : Type 0 where
  func : Func
  more : Stmts
  func_is : o ≡ Some func
  more_is : rest ≡ Some more
  is : MoreStmts (Declare func) more ≡ ss

declared : (o : Option Func) (rest : Option Stmts) (ss : Stmts) → and_rest (option_map Declare o) rest ≡ Some ss → Declared o rest ss
declared None rest ss e = absurd (none_some e)
declared (Some f) rest ss e = let m = mapped (MoreStmts (Declare f)) rest ss e in record { func = f; more = m.from; func_is = refl; more_is = m.was; is = m.is }

module _ (entries : ℕ → Option Func) (late : IsLate entries) where
  same_statement : (s : FirstStatement) → OfStmt entries (statement_tree s) (statement_tree s)
  same_statement (statement.Call x) = do_expr (call_name no_exprs)
  same_statement (statement.Out cs) = do_expr (call_dot ident (more_exprs str no_exprs))

  same_statements : (ss : List FirstStatement) → OfStmts entries (statements_tree ss) (statements_tree ss)
  same_statements [] = no_stmts
  same_statements (s ∷ ss) = more_stmts (same_statement s) (same_statements ss)

  stub_back : (k : ℕ) (name : Option Name) (f : Func) (o : Option Func) → entries k ≡ o → with_body k name [] (entry_body [] o) ≡ Some f → OfFunc entries f (Code k name [] (stub_tree k) Stub)
  stub_back k name f None e q = absurd (none_some q)
  stub_back k name f (Some g) e q =
      let l = late.each k g e in
      let is : Some (Code k name [] (statements_tree l.0) Plain) ≡ Some f = ap (λ z. with_body k name [] (entry_body [] (Some z))) (sym l.1) ∙ q in
      subst (λ z. OfFunc entries z (Code k name [] (stub_tree k) Stub)) (some_one is) (stub (e ∙ ap Some l.1) (same_statements l.0))

  func_back : (ns : List ℕ) (x : ℕ) (b : FirstBody) (f : Func) → back_func entries (numbered ns x b) ≡ Some f → OfFunc entries f (numbered ns x b)
  func_back ns x (body.Statements ss) f q = subst (λ z. OfFunc entries z (numbered ns x (body.Statements ss))) (some_one q) (plain (same_statements ss))
  func_back ns x (body.Stub k) f q = stub_back k (Some (x ∷ [])) f (entries k) refl q

  statement_back : (s : FirstStatement) → back_stmt entries (statement_tree s) ≡ Some (statement_tree s)
  statement_back (statement.Call x) = refl
  statement_back (statement.Out cs) = refl

  pub script_back : (ns : List ℕ) (is : List FirstItem) (o : Script) → back entries (site_tree ns is) ≡ Some o → OfStmts entries o (site_tree ns is)
  script_back ns [] o q = subst (λ z. OfStmts entries z NoStmts) (some_one q) no_stmts
  script_back ns (item.Statement s ∷ is) o q =
      let m = mapped (MoreStmts (statement_tree s)) (back entries (site_tree ns is)) o (ap (λ z. and_rest z (back entries (site_tree ns is))) (sym (statement_back s)) ∙ q) in
      subst (λ z. OfStmts entries z (MoreStmts (statement_tree s) (site_tree ns is))) m.is (more_stmts (same_statement s) (script_back ns is m.from m.was))
  script_back ns (item.Function f ∷ is) o q =
      let ms = numbers_after ns f.body in
      let m = declared (back_func entries (numbered ns f.name f.body)) (back entries (site_tree ms is)) o q in
      subst (λ z. OfStmts entries z (MoreStmts (Declare (numbered ns f.name f.body)) (site_tree ms is))) m.is (more_declared (func_back ns f.name f.body m.func m.func_is) (script_back ms is m.more m.more_is))

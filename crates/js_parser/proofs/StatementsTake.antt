-- A statement takes one token at least.
use Rattle.std.proofs.Common.{Result, Ok, Err, ◌≡◌, ◌<◌, nat_lt, Bool, true, false, [], ◌∷◌, length, refl, ap, sym, ◌∙◌, subst, arith}
use Rattle.std.specs.Prelude.{IfOk}
use Rattle.std.proofs.lemmas.Bool.{lt-ltb, ltb-true}
use Rattle.std.proofs.lemmas.List.{length-append}
use Rattle.js_tree.specs.Tree.{Stmt, NoStmts}
use Rattle.js_parser.specs.declared.form.Form.{Form}
use Rattle.js_parser.specs.declared.stop.Stop.{Stop}
use Rattle.js_parser.specs.Symbols.{Symbols, end}
use Rattle.js_parser.specs.Contexts.{Context}
use Rattle.js_parser.specs.Rooms.{Room}
use Rattle.js_parser.specs.Machine.{State, To, done, stuck, deep, statement, Goes}
use Rattle.js_parser.proofs.Runs.{one_end}
use Rattle.js_parser.proofs.RunsEnd.{Whole, Rest, Ends, Last, with_tree, stuck_at, deep_at, at-done}
use Rattle.js_parser.proofs.RunsEndStatements.{ending}
use Rattle.js_parser.proofs.RunsEndStatements as ends

-- done where fewer tokens are left than these, and else stuck with more
abbrev told_by : Bool → Symbols → State
told_by true old = done NoStmts
told_by false old = stuck (end false ∷ old)

abbrev told : Symbols → To Stmt
told old x ts = told_by (nat_lt (length ts) (length old)) old

ends_told : (form : Form) (old : Symbols) (room : Room) (c : Context) → Ends form old (statement room c (told old) old)
ends_told form old room c = (ends.statement (ending whole (length old)) room c (told old) (λ x. record { ends = at x })).ends old (record { used = []; is = refl }) (omega arith)
  where
    whole : Whole
    whole = record { form = form; tokens = old }

    at : (x : Stmt) (ts : Symbols) → Rest whole ts → length ts < length old → Ends form old (told old x ts)
    at x ts r l = subst (λ b. Ends form old (told_by b old)) (sym (lt-ltb (length ts) (length old) l)) (at-done {h = whole} NoStmts)

-- what is left is no longer than what was read
not_more : {form : Form} {s : State} (old : Symbols) (last : State) → Last old last → Goes form s last → Goes form s (stuck (end false ∷ old)) → ⊥
not_more old _ (with_tree tree) d e = let same : done tree ≡ stuck (end false ∷ old) = one_end refl refl d e in cc
not_more old _ (stuck_at used left is) d e =
    let same : stuck left ≡ stuck (end false ∷ old) = one_end refl refl d e in
    let more : left ≡ (end false ∷ old) = cc in
    omega (arith, ap length is ∙ length-append used left, ap length more)
not_more old _ (deep_at used left is) d e = let same : deep left ≡ stuck (end false ∷ old) = one_end refl refl d e in cc

fewer : (form : Form) (room : Room) (c : Context) (old new : Symbols) (b : Bool) → nat_lt (length new) (length old) ≡ b → Goes form (statement room c (told old) old) (told_by b old) → length new < length old
fewer form room c old new true h d = ltb-true (length new) (length old) h
fewer form room c old new false h d = let e = ends_told form old room c in absurd (not_more old e.last e.is e.run d)

-- where one was read, fewer tokens are left
pub statement_takes : {form : Form} (room : Room) (c : Context) (old new : Symbols) (x : Stmt) → ((next : To Stmt) → Goes form (statement room c next old) (next x new)) → length new < length old
statement_takes {form = form} room c old new x d = fewer form room c old new (nat_lt (length new) (length old)) refl (d (told old))

-- whatever is read
pub always : {A P : Type 0} (r : Result A Stop) → P → IfOk r (λ a. P)
always (Ok a) p = p
always (Err e) p = tt

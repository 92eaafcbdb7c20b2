-- What the growth of runs says of the marks and the end of a page.
use Rattle.std.proofs.Common.{◌≡◌, ℕ, suc, ◌+◌, ◌≤◌, Bool, true, false, List, [], ◌∷◌, refl, sym, ap, ◌∙◌, subst, arith}
use Rattle.std.specs.Prelude.{◌≢◌, nat_le, take_while}
use Rattle.std.proofs.lemmas.Bool.{le-leb, lt-leb}
use Rattle.std.proofs.lemmas.List.Sums.{take_while-cons}
use Rattle.object_heap.specs.Names.{Name}
use Rattle.js_tree.specs.Tree.{Func, Script}
use Rattle.js_machine.specs.State.{State}
use Rattle.js_machine.specs.Run.{Mark, Trace, Say}
use Rattle.js_machine.specs.Page.{Page, page_run, page_program, state_at_start, bare_state, with_host_call, with_host_calls}
use Rattle.js_machine.specs.Logs.{timed_marks, marks_of, ending_of}
use Rattle.js_machine.specs.Logs as log
use Rattle.js_machine.specs.Laws.{Rises, IsCut, IsPrefixOf, PagesGrow, PagesRise}
use Rattle.js_machine.specs.Laws.{says, ends, stops, has_no_entry, runs_out}
use Rattle.js_machine.specs.Laws.{same_mark, same_end, same_stop, same_need, same_out, cut}
use Rattle.js_machine.proofs.Rising.{run_rises}
use Rattle.js_machine.proofs.Growing.{run_cut}

-- ---- marks within a budget

abbrev within : ℕ → Mark × ℕ → Bool
within most mark = nat_le mark.1 most

-- what comes later is not within
none_within : (most : ℕ) {top : ℕ} {t : Trace} → Rises (suc most) top t → take_while (within most) (timed_marks t) ≡ []
none_within most (says {steps = steps} {mark = mark} {rest = rest} at more) =
    let not_le : nat_le steps most ≡ false = lt-leb steps most (omega (arith, at)) in
    take_while-cons (within most) (mark, steps) (timed_marks rest) ∙ rw not_le refl
none_within most (ends at all) = refl
none_within most (stops at all) = refl
none_within most (has_no_entry at all) = refl
none_within most (runs_out at all) = refl

times : {most : ℕ} {t u : Trace} → IsCut most t u → timed_marks t ≡ take_while (within most) (timed_marks u)
times (same_mark {most = most} {steps = steps} {mark = mark} {rest = rest} {more = more} at c) =
    let le : nat_le steps most ≡ true = le-leb steps most at in
    ap (λ ms. (mark, steps) ∷ ms) (times c) ∙ sym (take_while-cons (within most) (mark, steps) (timed_marks more) ∙ rw le refl)
times same_end = refl
times same_stop = refl
times same_need = refl
times same_out = refl
times (cut {most = most} later) = sym (none_within most later)

prefix : {most : ℕ} {t u : Trace} → IsCut most t u → IsPrefixOf (marks_of t) (marks_of u)
prefix (same_mark {mark = mark} at c) = ((prefix c).0, ap (λ ms. mark ∷ ms) (prefix c).1)
prefix same_end = ([], refl)
prefix same_stop = ([], refl)
prefix same_need = ([], refl)
prefix same_out = ([], refl)
prefix (cut {more = more} later) = (marks_of more, refl)

stays : {most : ℕ} {t u : Trace} → IsCut most t u → ending_of t ≢ log.OutOfSteps → t ≡ u
stays (same_mark {steps = steps} {mark = mark} at c) other = ap (λ rest. Say mark steps rest) (stays c other)
stays same_end other = refl
stays same_stop other = refl
stays same_need other = refl
stays same_out other = refl
stays (cut later) other = absurd (other refl)

-- ---- a page begins without steps

no_steps : (host : List Name) (s : State) → (with_host_calls host s).steps ≡ s.steps
no_steps [] s = refl
no_steps (name ∷ names) s = no_steps names (with_host_call name s)

at_start : (page : Page) (n : ℕ) → n + (state_at_start page.host).steps ≡ n
at_start page n = let e : (state_at_start page.host).steps ≡ 0 = no_steps page.host bare_state in omega (arith, e)

page_cut : (entries : List (ℕ × Func)) (all : List Script) (page : Page) (n m : ℕ) → n ≤ m → IsCut n (page_run entries all page n) (page_run entries all page m)
page_cut entries all page n m le =
    run_cut (record { replies = page.replies; entries = entries }) n n m le (page_program all page) [] (state_at_start page.host) (at_start page n)

pub pages_grow : PagesGrow
pages_grow entries all page n m le =
    let c = page_cut entries all page n m le in
    record { marks = prefix c; times = times c; stays = stays c }

pub pages_rise : PagesRise
pages_rise entries all page n =
    subst (λ first. Rises first n (page_run entries all page n)) (no_steps page.host bare_state)
    (run_rises (record { replies = page.replies; entries = entries }) n n (page_program all page) [] (state_at_start page.host) (at_start page n))

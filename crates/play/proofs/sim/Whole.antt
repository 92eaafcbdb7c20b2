-- The law over whole runs, from the simulation and from growth.
use Rattle.std.proofs.Common.{◌≡◌, ℕ, zero, suc, ◌+◌, ◌*◌, ◌≤◌, ◌≢◌, List, [], ◌∷◌, ◌++◌, length, Option, Some, refl, sym, ap, ◌∙◌, ⊎_elim, arith}
use Rattle.std.specs.Prelude.{slice_get}
use Rattle.std.proofs.lemmas.Bool.{cases_lt}
use Rattle.js_tree.specs.Tree.{Func, Script}
use Rattle.play.specs.Run.{Mark, Called, Uncaught, Idle, Entered, Needed, Trace}
use Rattle.play.specs.Page.{start, page, written, no_entries, original}
use Rattle.play.specs.Laws
use Rattle.play.specs.Laws.{IsCut, cut, same_end, same_stuck, said, with_mark, seen, with_time, times, Ended, RanOut, ending, IsPrefix, NeedsFollow, Joined}
use Rattle.play.proofs.TableLemmas.{none_some, some_one}
use Rattle.play.proofs.sim.Trees.{OfStmts, a_script}
use Rattle.play.proofs.sim.Values.{global, global_scope, no_funcs}
use Rattle.play.proofs.sim.Relation.{OfProgram, begin, bottom, OfTrace, of_called, of_uncaught, of_idle, of_entered, of_needed, of_end, of_out}
use Rattle.play.proofs.sim.Nodes.{after_script_of}
use Rattle.play.proofs.sim.Monotone.{run_less}
use Rattle.play.proofs.sim.Follows.{RunSim, Matches, sim}

-- ---- prefixes

pub prefix_same : {A : Type 0} {xs ys zs : List A} → IsPrefix xs ys → ys ≡ zs → IsPrefix xs zs
prefix_same p e = record { rest = p.rest; is = p.is ∙ e }

pub same_prefix : {A : Type 0} {xs ys zs : List A} → ys ≡ xs → IsPrefix xs zs → IsPrefix ys zs
same_prefix e p = record { rest = p.rest; is = ap (λ l. l ++ p.rest) e ∙ p.is }

-- ---- a cut run has a prefix of the marks, and of their times

cut_mark : (m : Mark) {xs ys : List Mark} → IsPrefix xs ys → IsPrefix (with_mark m xs) (with_mark m ys)
cut_mark (Called name args) p = record { rest = p.rest; is = ap (λ l. Called name args ∷ l) p.is }
cut_mark (Uncaught v) p = record { rest = p.rest; is = ap (λ l. Uncaught v ∷ l) p.is }
cut_mark (Idle b) p = record { rest = p.rest; is = ap (λ l. Idle b ∷ l) p.is }
cut_mark (Entered n b) p = record { rest = p.rest; is = ap (λ l. Entered n b ∷ l) p.is }
cut_mark (Needed k) p = p

cut_seen : {t u : Trace} → IsCut t u → IsPrefix (seen t) (seen u)
cut_seen (cut {t = t}) = record { rest = seen t; is = refl }
cut_seen same_end = record { rest = []; is = refl }
cut_seen same_stuck = record { rest = []; is = refl }
cut_seen (said {m = m} h) = cut_mark m (cut_seen h)

cut_time : (m : Mark) (i : ℕ) {xs ys : List ℕ} → IsPrefix xs ys → IsPrefix (with_time m i xs) (with_time m i ys)
cut_time (Called name args) i p = record { rest = p.rest; is = ap (λ l. i ∷ l) p.is }
cut_time (Uncaught v) i p = record { rest = p.rest; is = ap (λ l. i ∷ l) p.is }
cut_time (Idle b) i p = record { rest = p.rest; is = ap (λ l. i ∷ l) p.is }
cut_time (Entered n b) i p = record { rest = p.rest; is = ap (λ l. i ∷ l) p.is }
cut_time (Needed k) i p = p

cut_times : {t u : Trace} → IsCut t u → IsPrefix (times t) (times u)
cut_times (cut {t = t}) = record { rest = times t; is = refl }
cut_times same_end = record { rest = []; is = refl }
cut_times same_stuck = record { rest = []; is = refl }
cut_times (said {m = m} {i = i} h) = cut_time m i (cut_times h)

-- a run that is over is not cut
cut_over : {t u : Trace} → IsCut t u → ending t ≢ RanOut → (seen t ≡ seen u) × (ending t ≡ ending u)
cut_over cut n = absurd (n refl)
cut_over same_end n = (refl, refl)
cut_over same_stuck n = (refl, refl)
cut_over (said {m = m} h) n = let r = cut_over h n in (ap (with_mark m) r.0, r.1)

-- ---- runs that stand for one another have the same marks and end

same_seen : {t u : Trace} → OfTrace t u → seen t ≡ seen u
same_seen (of_called {name = name} {args = args} low high h) = ap (λ l. Called name args ∷ l) (same_seen h)
same_seen (of_uncaught {v = v} low high h) = ap (λ l. Uncaught v ∷ l) (same_seen h)
same_seen (of_idle {b = b} low high h) = ap (λ l. Idle b ∷ l) (same_seen h)
same_seen (of_entered {k = k} {b = b} low high h) = ap (λ l. Entered k b ∷ l) (same_seen h)
same_seen (of_needed {k = k} {b = b} low high h) = ap (λ l. Entered k b ∷ l) (same_seen h)
same_seen of_end = refl
same_seen of_out = refl

same_ending : {t u : Trace} → OfTrace t u → ending t ≡ ending u
same_ending (of_called low high h) = same_ending h
same_ending (of_uncaught low high h) = same_ending h
same_ending (of_idle low high h) = same_ending h
same_ending (of_entered low high h) = same_ending h
same_ending (of_needed low high h) = same_ending h
same_ending of_end = refl
same_ending of_out = refl

-- neither gets stuck
ends : {t u : Trace} → OfTrace t u → ending t ≢ RanOut → ending t ≡ Ended
ends (of_called low high h) n = ends h n
ends (of_uncaught low high h) n = ends h n
ends (of_idle low high h) n = ends h n
ends (of_entered low high h) n = ends h n
ends (of_needed low high h) n = ends h n
ends of_end n = refl
ends of_out n = absurd (n refl)

needs_follow : {t u : Trace} → OfTrace t u → NeedsFollow u
needs_follow (of_called low high h) = Laws.called (needs_follow h)
needs_follow (of_uncaught low high h) = Laws.uncaught (needs_follow h)
needs_follow (of_idle low high h) = Laws.idle (needs_follow h)
needs_follow (of_entered low high h) = Laws.entered (needs_follow h)
needs_follow (of_needed low high h) = Laws.needed (needs_follow h)
needs_follow of_end = Laws.ended
needs_follow of_out = Laws.ran_out

original_follows : {t u : Trace} → OfTrace t u → NeedsFollow t
original_follows (of_called low high h) = Laws.called (original_follows h)
original_follows (of_uncaught low high h) = Laws.uncaught (original_follows h)
original_follows (of_idle low high h) = Laws.idle (original_follows h)
original_follows (of_entered low high h) = Laws.entered (original_follows h)
original_follows (of_needed low high h) = Laws.entered (original_follows h)
original_follows of_end = Laws.ended
original_follows of_out = Laws.ran_out

cut_follows : {t u : Trace} → IsCut t u → NeedsFollow u → NeedsFollow t
cut_follows cut n = Laws.ran_out
cut_follows same_end n = Laws.ended
cut_follows same_stuck n = Laws.stuck
cut_follows (said h) (Laws.called n) = Laws.called (cut_follows h n)
cut_follows (said h) (Laws.uncaught n) = Laws.uncaught (cut_follows h n)
cut_follows (said h) (Laws.idle n) = Laws.idle (cut_follows h n)
cut_follows (said h) (Laws.entered n) = Laws.entered (cut_follows h n)
cut_follows (said cut) (Laws.needed n) = Laws.entered Laws.ran_out
cut_follows (said (said h)) (Laws.needed n) = Laws.needed (cut_follows h n)

-- ---- times go together

abbrev InTime : ℕ → ℕ → Type 0
InTime o r = (o ≤ r) × (r ≤ 32 * o + 32)

record AllInTime (xs ys : List ℕ) : Type 0 where
  at : (i o r : ℕ) → slice_get xs i ≡ Some o → slice_get ys i ≡ Some r → InTime o r

none_in_time : AllInTime [] []
none_in_time = record { at = λ i o r e f. absurd (none_some e) }

one_in_time : {a b : ℕ} {xs ys : List ℕ} → InTime a b → AllInTime xs ys → AllInTime (a ∷ xs) (b ∷ ys)
one_in_time {a = a} {b = b} {xs = xs} {ys = ys} h f = record { at = by }
  where
    by : (i o r : ℕ) → slice_get (a ∷ xs) i ≡ Some o → slice_get (b ∷ ys) i ≡ Some r → InTime o r
    by zero o r e q = let e2 : a ≡ o = cc in let q2 : b ≡ r = cc in (omega (arith, h.0), omega (arith, h.1))
    by (suc i) o r e q = f.at i o r e q

in_time : {t u : Trace} → OfTrace t u → AllInTime (times t) (times u)
in_time (of_called low high h) = one_in_time (low, high) (in_time h)
in_time (of_uncaught low high h) = one_in_time (low, high) (in_time h)
in_time (of_idle low high h) = one_in_time (low, high) (in_time h)
in_time (of_entered low high h) = one_in_time (low, high) (in_time h)
in_time (of_needed low high h) = one_in_time (low, high) (in_time h)
in_time of_end = none_in_time
in_time of_out = none_in_time

same_count : {t u : Trace} → OfTrace t u → length (times t) ≡ length (times u)
same_count (of_called low high h) = ap suc (same_count h)
same_count (of_uncaught low high h) = ap suc (same_count h)
same_count (of_idle low high h) = ap suc (same_count h)
same_count (of_entered low high h) = ap suc (same_count h)
same_count (of_needed low high h) = ap suc (same_count h)
same_count of_end = refl
same_count of_out = refl

-- what stands in the beginning stands in the whole
get_more : {A : Type 0} (xs ys : List A) (i : ℕ) (x : A) → slice_get xs i ≡ Some x → slice_get (xs ++ ys) i ≡ Some x
get_more [] ys i x e = absurd (none_some e)
get_more (z ∷ zs) ys zero x e = e
get_more (z ∷ zs) ys (suc i) x e = get_more zs ys i x e

got_prefix : {A : Type 0} {xs ys : List A} (i : ℕ) (x : A) → IsPrefix xs ys → slice_get xs i ≡ Some x → slice_get ys i ≡ Some x
got_prefix {xs = xs} i x p e = ap (λ l. slice_get l i) (sym p.is) ∙ get_more xs p.rest i x e

-- what stands at a place of one list stands there in another of that length
got_there : (xs ys : List ℕ) (i o : ℕ) → length xs ≡ length ys → slice_get xs i ≡ Some o → (r : ℕ) × (slice_get ys i ≡ Some r)
got_there [] ys i o e h = absurd (none_some h)
got_there (x ∷ xs) [] i o e h = absurd (omega (arith, e))
got_there (x ∷ xs) (y ∷ ys) zero o e h = (y, refl)
got_there (x ∷ xs) (y ∷ ys) (suc i) o e h = got_there xs ys i o (let l : length (x ∷ xs) ≡ length (y ∷ ys) = e in omega arith) h

-- ---- the two runs of a page

module _ (entries : ℕ → Option Func) (source script : Script) (h : OfStmts entries source script) where
  page_of : OfProgram entries 0 (page source) (page script)
  page_of = begin (a_script h) (record { chain = global_scope; this = global }) 0 (omega arith) (after_script_of entries)

  -- for each budget of the original one of the written run, at most 32 times as large, with the same marks and end
  matched : (n : ℕ) → Matches n 0 0 (original source n) (written entries script)
  unfolding RunSim
  matched n =
      sim no_entries entries n 0 0 (page source) (page script) [] [] start start page_of bottom
      (record { functions = no_funcs; errors = refl; passed = refl; beats = refl }) (record { low = omega arith; high = omega arith })

  longer : (n m : ℕ) → n ≤ m → IsCut (written entries script n) (written entries script m)
  longer n m le = run_less entries n m le (page script) [] start

  pub joined : Joined entries script source
  joined = record {
    grows = λ n m le. (longer n m le, run_less no_entries n m le (page source) [] start);
    within = λ n. let r = matched n in let low = r.low in prefix_same (cut_seen (longer n r.m (omega arith))) (sym (same_seen r.of));
    whole = λ n over. let r = matched n in let low = r.low in
        let c = cut_over (longer n r.m (omega arith)) over in
        let e = same_ending r.of in
        let d = ends r.of (λ q. over (c.1 ∙ (sym e ∙ q))) in
        (c.0 ∙ sym (same_seen r.of), c.1 ∙ (sym e ∙ d), d);
    reached = λ m n le. let r = matched m in let high = r.high in same_prefix (same_seen r.of) (cut_seen (longer r.m n (omega arith)));
    reached_end = λ m n le over. let r = matched m in let high = r.high in
        let e = same_ending r.of in
        let d = ends r.of over in
        (sym (cut_over (longer r.m n (omega arith)) (λ q. over (e ∙ q))).1 ∙ (sym e ∙ d), d);
    timely = λ m n i o r eo er.
        let q = matched m in
        let there = got_there (times (original source m)) (times (written entries script q.m)) i o (same_count q.of) eo in
        let right = (in_time q.of).at i o there.0 eo there.1 in
        let same = agree i n q.m r there.0 er there.1 in
        (omega (arith, right.0, same), omega (arith, right.1, same));
    needs = λ n. let r = matched n in let low = r.low in (cut_follows (longer n r.m (omega arith)) (needs_follow r.of), original_follows r.of);
  }
    where
      agree : (i n m a b : ℕ) → slice_get (times (written entries script n)) i ≡ Some a → slice_get (times (written entries script m)) i ≡ Some b → a ≡ b
      agree i n m a b e f =
          ⊎_elim
          (λ lt. some_one (sym (got_prefix i a (cut_times (longer n m (omega arith))) e) ∙ f))
          (λ le. some_one (sym e ∙ got_prefix i b (cut_times (longer m n le)) f))
          (cases_lt n m)

-- The walk over a run's marks gives the lazy lines of those that an original makes.
use Rattle.std.proofs.Common.{◌≡◌, ℕ, List, [], ◌∷◌, ◌++◌, map, Option, Some, None, Bool, true, false, ◌||◌, cond, refl, sym, ap, ◌∙◌, subst, append_assoc}
use Rattle.std.proofs.lemmas.List.{append-nil}
use Rattle.std.specs.Prelude.{nat_eq}
use Rattle.std.specs.List.{list_any}
use Rattle.std.specs.Option.{option_map}
use Rattle.std.proofs.lemmas.Bool.{eqb-true}
use Rattle.play.specs.declared.manifest.ClusterLine.{ClusterLine}
use Rattle.play.specs.declared.manifest.Manifest.{Manifest}
use Rattle.play.specs.Run.{Mark, Called, Uncaught, Idle, Entered, Needed, Trace}
use Rattle.play.specs.Loader
use Rattle.play.specs.Report.{Line, CallLine, UncaughtLine, IdleLine, WaitLine, AskLine, HereLine}
use Rattle.play.specs.Loader.{Moved, stays, moves, fresh, status_of, with_status, effect, needed, arrived, fills, step, ask_all, to_ask, is_absent}
use Rattle.play.specs.Walk.{walk, request, requested, arrives, after_need, idles}
use Rattle.play.specs.Site.{line_of}
use Rattle.play.specs.Manifest.{cluster_numbers}
use Rattle.play.specs.Played.{cluster_number, cluster_of, site_lines}
use Rattle.play.specs.Laws
use Rattle.play.specs.Laws.{seen, NeedsFollow, IsPrefix}
use Rattle.play.specs.Laziness.{waits_for, wait_lines, and_come, lazy_lines}
use Rattle.play.proofs.LeftLemmas.{same_number, asks_none}
use Rattle.play.proofs.TableLemmas.{none_some, some_one}

-- ---- tables

-- a cluster stands in a table
abbrev has : Loader.Statuses → ℕ → Bool
has [] c = false
has (p ∷ ps) c = cond (nat_eq p.0 c) true (has ps c)

-- what a condition on a number that was found gives
found : {A : Type 0} (n m : ℕ) (x y : A) → nat_eq n m ≡ true → cond (nat_eq n m) x y ≡ x
found n m x y h = ap (λ b. cond b x y) h

not_found : {A : Type 0} (n m : ℕ) (x y : A) → nat_eq n m ≡ false → cond (nat_eq n m) x y ≡ y
not_found n m x y h = ap (λ b. cond b x y) h

has_set : (tb : Loader.Statuses) (c d : ℕ) (new : Loader.Status) → has (with_status tb c new) d ≡ has tb d
has_set [] c d new = refl
has_set (p ∷ ps) c d new = by (nat_eq p.0 c) (has_set ps c d new)
  where
    by : (b : Bool) → has (with_status ps c new) d ≡ has ps d → has (cond b ((p.0, new) ∷ ps) (p ∷ with_status ps c new)) d ≡ cond (nat_eq p.0 d) true (has ps d)
    by true rest = refl
    by false rest = ap (λ r. cond (nat_eq p.0 d) true r) rest

set_same : (tb : Loader.Statuses) (c : ℕ) (new : Loader.Status) → has tb c ≡ true → status_of (with_status tb c new) c ≡ new
set_same [] c new h = cc
set_same (p ∷ ps) c new h = by (nat_eq p.0 c) refl (set_same ps c new) h
  where
    by : (b : Bool) → nat_eq p.0 c ≡ b → (has ps c ≡ true → status_of (with_status ps c new) c ≡ new) → cond b true (has ps c) ≡ true → status_of (cond b ((p.0, new) ∷ ps) (p ∷ with_status ps c new)) c ≡ new
    by true e rest h = found p.0 c new (status_of ps c) e
    by false e rest h = not_found p.0 c p.1 (status_of (with_status ps c new) c) e ∙ rest h

set_other : (tb : Loader.Statuses) (c d : ℕ) (new : Loader.Status) → nat_eq c d ≡ false → status_of (with_status tb c new) d ≡ status_of tb d
set_other [] c d new h = refl
set_other (p ∷ ps) c d new h = by (nat_eq p.0 c) refl (set_other ps c d new h)
  where
    by : (b : Bool) → nat_eq p.0 c ≡ b → status_of (with_status ps c new) d ≡ status_of ps d → status_of (cond b ((p.0, new) ∷ ps) (p ∷ with_status ps c new)) d ≡ cond (nat_eq p.0 d) p.1 (status_of ps d)
    by true e rest =
        let q : nat_eq p.0 d ≡ false = ap (λ x. nat_eq x d) (eqb-true p.0 c e) ∙ h in
        not_found p.0 d new (status_of ps d) q ∙ sym (not_found p.0 d p.1 (status_of ps d) q)
    by false e rest = ap (λ r. cond (nat_eq p.0 d) p.1 r) rest

-- ---- events under a window of none

fills_nothing : (m : Moved) → fills 0 m ≡ m
fills_nothing m = by m.loader.background refl
  where
    by : (b : Bool) → m.loader.background ≡ b → cond b (moves (ask_all m.loader.table (to_ask 0 m.loader.table)) m.loader.waited true (m.lines ++ map AskLine (to_ask 0 m.loader.table))) m ≡ m
    by false e = refl
    by true e =
        ap (λ cs. moves (ask_all m.loader.table cs) m.loader.waited true (m.lines ++ map AskLine cs)) (asks_none m.loader.table)
        ∙ (ap (λ ls. moves m.loader.table m.loader.waited true ls) (append-nil m.lines) ∙ sym (ap (λ b. moves m.loader.table m.loader.waited b m.lines) e))

-- ---- what has come

-- the clusters that came are here, and the others absent
record Agrees (cluster : ℕ → Option ℕ) (come : List ℕ) (tb : Loader.Statuses) : Type 0 where
  status : (c : ℕ) → has tb c ≡ true → status_of tb c ≡ cond (list_any (nat_eq c) come) Loader.Here Loader.Absent
  listed : (k c : ℕ) → cluster k ≡ Some c → has tb c ≡ true

-- the table where a cluster has come
abbrev come_table : Loader.Statuses → ℕ → Loader.Statuses
come_table tb c = with_status (with_status tb c Loader.Asked) c Loader.Here

agrees_more : (cluster : ℕ → Option ℕ) (come : List ℕ) (tb : Loader.Statuses) (c : ℕ) → has tb c ≡ true → Agrees cluster come tb → Agrees cluster (c ∷ come) (come_table tb c)
agrees_more cluster come tb c there a = record {
  status = λ d h. by d (nat_eq c d) refl (sym (has_come d) ∙ h);
  listed = λ k d h. has_come d ∙ a.listed k d h;
}
  where
    asked : Loader.Statuses
    asked = with_status tb c Loader.Asked

    has_come : (d : ℕ) → has (with_status (with_status tb c Loader.Asked) c Loader.Here) d ≡ has tb d
    has_come d = has_set (with_status tb c Loader.Asked) c d Loader.Here ∙ has_set tb c d Loader.Asked

    by : (d : ℕ) (b : Bool) → nat_eq c d ≡ b → has tb d ≡ true → status_of (with_status (with_status tb c Loader.Asked) c Loader.Here) d ≡ cond (list_any (nat_eq d) (c ∷ come)) Loader.Here Loader.Absent
    by d true e h =
        let q : c ≡ d = eqb-true c d e in
        subst (λ x. status_of (with_status (with_status tb c Loader.Asked) c Loader.Here) x ≡ cond (list_any (nat_eq x) (c ∷ come)) Loader.Here Loader.Absent) q
        (set_same (with_status tb c Loader.Asked) c Loader.Here (has_set tb c c Loader.Asked ∙ there) ∙ sym (ap (λ b. cond (b || list_any (nat_eq c) come) Loader.Here Loader.Absent) (same_number c)))
    by d false e h =
        set_other (with_status tb c Loader.Asked) c d Loader.Here e
        ∙ (set_other tb c d Loader.Asked e
        ∙ (a.status d h ∙ sym (ap (λ b. cond (b || list_any (nat_eq d) come) Loader.Here Loader.Absent) (turned d e))))
      where
        turned : (d : ℕ) → nat_eq c d ≡ false → nat_eq d c ≡ false
        turned d e = other (nat_eq d c) refl
          where
            other : (b : Bool) → nat_eq d c ≡ b → b ≡ false
            other false q = refl
            other true q = sym (same_number d) ∙ (ap (λ x. nat_eq x d) (eqb-true d c q) ∙ e)

-- ---- an entry

-- an event, without the background
step_is : (l : Loader.Loader) (e : Loader.Event) → step 0 l e ≡ effect l e
step_is l e = fills_nothing (effect l e)

-- a cluster that is absent is needed and comes
abbrev came : Loader.Loader → ℕ → Moved
came l c = record { loader = record { table = come_table l.table c; waited = None; background = l.background }; lines = WaitLine c ∷ AskLine c ∷ HereLine c ∷ [] }

comes : (l : Loader.Loader) (c : ℕ) → has l.table c ≡ true → status_of l.table c ≡ Loader.Absent → request l (Some c) ≡ came l c
comes l c there absent =
    ap (requested l c) absent
    ∙ (ap (λ m. arrives m c) (step_is l (Loader.Need c) ∙ ap (needed l c) absent)
    ∙ (ap (after_need asked) (step_is asked.loader (Loader.Arrive c) ∙ ap (arrived asked.loader c) (set_same l.table c Loader.Asked there))
    ∙ ap (λ w. record { loader = record { table = with_status (with_status l.table c Loader.Asked) c Loader.Here; waited = cond w None (Some c); background = l.background }; lines = WaitLine c ∷ AskLine c ∷ HereLine c ∷ [] }) (same_number c)))
  where
    asked : Moved
    asked = moves (with_status l.table c Loader.Asked) (Some c) l.background (WaitLine c ∷ AskLine c ∷ [])

-- what a request does: it gives the lines of a cluster that is waited for, and the same request again does nothing
record Requests (cluster : ℕ → Option ℕ) (come : List ℕ) (l : Loader.Loader) (o : Option ℕ) : Type 0 where
  lines : (request l o).lines ≡ wait_lines (waits_for come o)
  agrees : Agrees cluster (and_come (waits_for come o) come) (request l o).loader.table
  again : request (request l o).loader o ≡ stays (request l o).loader

requests : (cluster : ℕ → Option ℕ) (come : List ℕ) (l : Loader.Loader) (o : Option ℕ) → ((c : ℕ) → o ≡ Some c → has l.table c ≡ true) → Agrees cluster come l.table → Requests cluster come l o
requests cluster come l None there a = record { lines = refl; agrees = a; again = refl }
requests cluster come l (Some c) there a = by (list_any (nat_eq c) come) refl
  where
    by : (b : Bool) → list_any (nat_eq c) come ≡ b → Requests cluster come l (Some c)
    by true e =
        let here : request l (Some c) ≡ stays l = ap (requested l c) (a.status c (there c refl) ∙ ap (λ b. cond b Loader.Here Loader.Absent) e) in
        let waits : waits_for come (Some c) ≡ None = ap (λ b. cond b None (Some c)) e in
        record {
          lines = ap (λ m. m.lines) here ∙ sym (ap wait_lines waits);
          agrees = subst (λ w. Agrees cluster (and_come w come) (request l (Some c)).loader.table) (sym waits) (subst (λ m. Agrees cluster come m.loader.table) (sym here) a);
          again = subst (λ m. request m.loader (Some c) ≡ stays m.loader) (sym here) here;
        }
    by false e =
        let comes_now = comes l c (there c refl) (a.status c (there c refl) ∙ ap (λ b. cond b Loader.Here Loader.Absent) e) in
        let waits : waits_for come (Some c) ≡ Some c = ap (λ b. cond b None (Some c)) e in
        let more = agrees_more cluster come l.table c (there c refl) a in
        record {
          lines = ap (λ m. m.lines) comes_now ∙ sym (ap wait_lines waits);
          agrees = subst (λ w. Agrees cluster (and_come w come) (request l (Some c)).loader.table) (sym waits) (subst (λ m. Agrees cluster (c ∷ come) m.loader.table) (sym comes_now) more);
          again = subst (λ m. request m.loader (Some c) ≡ stays m.loader) (sym comes_now) (here_now (there c refl));
        }
      where
        here_now : has l.table c ≡ true → request (came l c).loader (Some c) ≡ stays (came l c).loader
        here_now h = ap (requested (came l c).loader c) (set_same (with_status l.table c Loader.Asked) c Loader.Here (has_set l.table c c Loader.Asked ∙ h))

-- ---- walks

walk_lazy : (cluster : ℕ → Option ℕ) (come : List ℕ) (l : Loader.Loader) (t : Trace) → NeedsFollow t → Agrees cluster come l.table → walk cluster l t ≡ lazy_lines cluster come (seen t)
walk_lazy cluster come l t Laws.ended a = refl
walk_lazy cluster come l t Laws.ran_out a = refl
walk_lazy cluster come l t Laws.stuck a = refl
walk_lazy cluster come l t (Laws.called {name = name} {args = args} {t = rest} n) a = ap (λ ls. CallLine name args ∷ ls) (walk_lazy cluster come l rest n a)
walk_lazy cluster come l t (Laws.uncaught {v = v} {t = rest} n) a = ap (λ ls. UncaughtLine v ∷ ls) (walk_lazy cluster come l rest n a)
walk_lazy cluster come l t (Laws.idle {t = rest} n) a =
    ap (λ m. (idles m).lines ++ walk cluster m.loader rest) (step_is l Loader.Idle)
    ∙ ap (λ ls. IdleLine ∷ ls) (walk_lazy cluster come (effect l Loader.Idle).loader rest n a)
walk_lazy cluster come l t (Laws.entered {k = k} {t = rest} n) a =
    let r = requests cluster come l (cluster k) (a.listed k) a in
    ap (λ ls. ls ++ walk cluster (request l (cluster k)).loader rest) r.lines
    ∙ ap (λ ls. wait_lines (waits_for come (cluster k)) ++ ls) (walk_lazy cluster (and_come (waits_for come (cluster k)) come) (request l (cluster k)).loader rest n r.agrees)
walk_lazy cluster come l t (Laws.needed {k = k} {t = rest} n) a =
    let r = requests cluster come l (cluster k) (a.listed k) a in
    ap (λ ls. ls ++ ((request (request l (cluster k)).loader (cluster k)).lines ++ walk cluster (request (request l (cluster k)).loader (cluster k)).loader rest)) r.lines
    ∙ (ap (λ m. wait_lines (waits_for come (cluster k)) ++ (m.lines ++ walk cluster m.loader rest)) r.again
    ∙ ap (λ ls. wait_lines (waits_for come (cluster k)) ++ ls) (walk_lazy cluster (and_come (waits_for come (cluster k)) come) (request l (cluster k)).loader rest n r.agrees))

-- ---- a site

fresh_has : (cs : List ClusterLine) (k : ℕ) (c : ClusterLine) → line_of cs k ≡ Some c → has (fresh (cluster_numbers cs)).table c.cluster ≡ true
fresh_has [] k c h = absurd (none_some h)
fresh_has (d ∷ ds) k c h = by (list_any (nat_eq k) d.entries) (fresh_has ds k c) h
  where
    by : (b : Bool) → (line_of ds k ≡ Some c → has (fresh (cluster_numbers ds)).table c.cluster ≡ true) → cond b (Some d) (line_of ds k) ≡ Some c → cond (nat_eq d.cluster c.cluster) true (has (fresh (cluster_numbers ds)).table c.cluster) ≡ true
    by true rest q = ap (λ b. cond b true (has (fresh (cluster_numbers ds)).table c.cluster)) (ap (λ (x : ClusterLine). nat_eq x.cluster c.cluster) (some_one q) ∙ same_number c.cluster)
    by false rest q = ap (λ b. cond (nat_eq d.cluster c.cluster) true b) (rest q) ∙ either (nat_eq d.cluster c.cluster)
      where
        either : (b : Bool) → cond b true true ≡ true
        either true = refl
        either false = refl

fresh_absent : (cs : List ℕ) (c : ℕ) → status_of (fresh cs).table c ≡ Loader.Absent
fresh_absent [] c = refl
fresh_absent (d ∷ ds) c = ap (λ st. cond (nat_eq d c) Loader.Absent st) (fresh_absent ds c) ∙ either (nat_eq d c)
  where
    either : (b : Bool) → cond b Loader.Absent Loader.Absent ≡ Loader.Absent
    either true = refl
    either false = refl

at_start : (m : Manifest) → Agrees (cluster_of m) [] (fresh (cluster_numbers m.clusters)).table
at_start m = record { status = λ c h. fresh_absent (cluster_numbers m.clusters) c; listed = λ k c h. by k c (line_of m.clusters k) refl h }
  where
    by : (k c : ℕ) (o : Option ClusterLine) → line_of m.clusters k ≡ o → option_map cluster_number o ≡ Some c → has (fresh (cluster_numbers m.clusters)).table c ≡ true
    by k c None e h = absurd (none_some h)
    by k c (Some line) e h = subst (λ c. has (fresh (cluster_numbers m.clusters)).table c ≡ true) (some_one h) (fresh_has m.clusters k line e)

pub site_lazy : (m : Manifest) (t : Trace) → NeedsFollow t → site_lines m t ≡ lazy_lines (cluster_of m) [] (seen t)
site_lazy m t n = walk_lazy (cluster_of m) [] (fresh (cluster_numbers m.clusters)) t n (at_start m)

-- ---- fronts

-- the clusters that have come after these marks
abbrev come_after : (ℕ → Option ℕ) → List ℕ → List Mark → List ℕ
come_after cluster come [] = come
come_after cluster come (Called name args ∷ ms) = come_after cluster come ms
come_after cluster come (Uncaught v ∷ ms) = come_after cluster come ms
come_after cluster come (Idle b ∷ ms) = come_after cluster come ms
come_after cluster come (Entered k b ∷ ms) = come_after cluster (and_come (waits_for come (cluster k)) come) ms
come_after cluster come (Needed k ∷ ms) = come_after cluster come ms

lazy_on : (cluster : ℕ → Option ℕ) (come : List ℕ) (ms more : List Mark) → lazy_lines cluster come (ms ++ more) ≡ lazy_lines cluster come ms ++ lazy_lines cluster (come_after cluster come ms) more
lazy_on cluster come [] more = refl
lazy_on cluster come (Called name args ∷ ms) more = ap (λ ls. CallLine name args ∷ ls) (lazy_on cluster come ms more)
lazy_on cluster come (Uncaught v ∷ ms) more = ap (λ ls. UncaughtLine v ∷ ls) (lazy_on cluster come ms more)
lazy_on cluster come (Idle b ∷ ms) more = ap (λ ls. IdleLine ∷ ls) (lazy_on cluster come ms more)
lazy_on cluster come (Entered k b ∷ ms) more =
    let now = and_come (waits_for come (cluster k)) come in
    ap (λ ls. wait_lines (waits_for come (cluster k)) ++ ls) (lazy_on cluster now ms more)
    ∙ sym (append_assoc (wait_lines (waits_for come (cluster k))) (lazy_lines cluster now ms) (lazy_lines cluster (come_after cluster now ms) more))
lazy_on cluster come (Needed k ∷ ms) more = lazy_on cluster come ms more

pub lazy_prefix : (cluster : ℕ → Option ℕ) (come : List ℕ) (xs ys : List Mark) → IsPrefix xs ys → IsPrefix (lazy_lines cluster come xs) (lazy_lines cluster come ys)
lazy_prefix cluster come xs ys p = record { rest = lazy_lines cluster (come_after cluster come xs) p.rest; is = sym (lazy_on cluster come xs p.rest) ∙ ap (lazy_lines cluster come) p.is }

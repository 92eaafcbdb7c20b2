-- How a script is read element by element, and how that ends.
use Rattle.std.proofs.Common.{if◌then◌else◌, nat_lt, Result, IfOk, IfErr, Ok, map, ◌-◌, ◌≡◌, ℕ, ◌≤◌, ◌<◌, ◌+◌, Err, Bool, true, false, List, [], ◌∷◌, ◌++◌, length, refl, ap, sym, ◌∙◌, subst, arith}
use Rattle.std.proofs.lemmas.Bool.{ltb-true, ltb-false}
use Rattle.std.proofs.lemmas.List.{append_assoc, append-nil, length-append}
use Rattle.js_lexer.specs.declared.mark.Mark.TheVariants as m
use Rattle.js_lexer.specs.declared.word.Word.TheVariants as w
use Rattle.js_lexer.specs.declared.token.TokenKind.{TokenKind}
use Rattle.js_lexer.specs.declared.token.TokenKind.TheVariants as k
use Rattle.js_tree.specs.Tree.{Stmt, Stmts}
use Rattle.js_tree.specs.Tree
use Rattle.js_tree.specs.Plain.{stmts}
use Rattle.js_parser.specs.declared.form.Form.{Form}
use Rattle.js_parser.specs.declared.form.Limits.{Limits}
use Rattle.js_parser.specs.Symbols.{Symbol, Symbols, are_regular, first, end, behind}
use Rattle.js_parser.specs.Contexts.{Context}
use Rattle.js_parser.specs.Contexts as context
use Rattle.js_parser.specs.Rooms.{Room, of_limits, fits_function}
use Rattle.js_parser.specs.Machine.{State, To, done, stuck, deep, source, source_by, finished, finished_by, script, is_end, guard, fitting, step, Goes, here}
use Rattle.js_parser.specs.Elements.{element, element_by}
use Rattle.js_parser.specs.StatementPieces.{goes_on_elements}
use Rattle.js_parser.specs.Reads.{at, Comes}
use Rattle.js_parser.specs.Scanned.{Begun, Within, Scanned, Progress, Continues, Finishes, halt_of}
use Rattle.js_parser.specs.Scanned as scanned
use Rattle.js_parser.specs.declared.scan.Halt.TheVariants as halt
use Rattle.js_tree.specs.declared.tree.Stmt as declared
use Rattle.js_tree.specs.Plain.{stmt}
use Rattle.js_parser.specs.declared.scan.Halt.{Halt}
use Rattle.js_parser.specs.declared.stop.Stop.{Stop}
use Rattle.js_parser.specs.declared.stop.Stop.TheVariants.{Broken, Deep, OutOfMemory}
use Rattle.js_parser.proofs.Steps.{came, went_stuck, went_deep}
use Rattle.js_parser.proofs.Runs.{onwards, stepped, allowed, one_end}
use Rattle.js_parser.proofs.ElementTrees.{IsRead, element_read}
use Rattle.js_parser.proofs.ElementLists.{and_more, begun_none, begun_read, declared-is}
use Rattle.js_parser.proofs.Levels.{element-any}
use Rattle.js_parser.proofs.ReadTrees.{regular-rest}
use Rattle.js_parser.proofs.RunsEnd.{Last, with_tree, stuck_at, deep_at, Ends}
use Rattle.js_parser.proofs.RunsEndStatements.{script_ends}

-- ---- what has been read

pub nothing_read : (form : Form) (limits : Limits) (ts : Symbols) → Progress form limits ts ts []
nothing_read form limits ts = record { before = []; whole = refl; begun = begun_none form limits (first ts (end false)); to = finished; ends = λ more left. refl; run = here }

-- the symbols of tokens are regular to the end
regular_end : (u v : Symbols) → are_regular (u ++ v) ≡ true → are_regular v ≡ true
regular_end [] v h = h
regular_end (s ∷ u) v h = regular_end u v (regular-rest s (u ++ v) h)

-- the machine comes to the element that begins here
pub source_goes : (form : Form) (room : Room) (c : Context) (to : To Stmts) (ts : Symbols) → at goes_on_elements ts ≡ true → step form (source room c to ts) ≡ element form room c (and_more form room c to) ts
source_goes form room c to [] h = cc
source_goes form room c to (s ∷ ts) h = by s.kind h
  where
    by : (kind : TokenKind) → goes_on_elements kind ≡ true → source_by form room c kind to s ts ≡ element_by form room c kind (and_more form room c to) s ts
    by (k.Mark m.CloseBrace) h = cc
    by k.End h = cc
    by (k.Word w.Function) h = ap (λ s. fitting (fits_function room) ts s) (declared-is form room c to ts)
    by _ h = refl

-- with one more
pub one_read : {form : Form} {limits : Limits} {ts old new : Symbols} {ss : List Stmt} {x : Stmt} → are_regular ts ≡ true → at goes_on_elements old ≡ true → Progress form limits ts old ss
    → ((next : To Stmt) → Goes form (element form (of_limits limits) context.script next old) (next x new)) → Progress form limits ts new (ss ++ (x ∷ []))
one_read {form = form} {limits = limits} {ts = ts} {old = old} {new = new} {ss = ss} {x = x} regular begins p goes =
    let r = element_read form (of_limits limits) context.script old new x (regular_end p.before old (subst (λ l. are_regular l ≡ true) p.whole regular)) goes in record {
      before = p.before ++ r.used;
      whole = p.whole ∙ ap (λ l. p.before ++ l) r.whole ∙ sym (append_assoc p.before r.used new);
      begun = begun_read ss p.begun r;
      to = λ xs left. p.to (Tree.MoreStmts x xs) left;
      ends = λ more left. p.ends (x ∷ more) left ∙ ap (λ l. finished (stmts l) left) (sym (append_assoc ss (x ∷ []) more));
      run = onwards p.run (stepped (source_goes form (of_limits limits) context.script p.to old begins) (goes (and_more form (of_limits limits) context.script p.to)));
    }

-- ---- where an element is not read

-- the script's run is that of its element
in_script : {form : Form} {limits : Limits} {ts old : Symbols} {ss : List Stmt} {last : State} → at goes_on_elements old ≡ true → Progress form limits ts old ss
    → ((next : To Stmt) → Goes form (element form (of_limits limits) context.script next old) last) → Goes form (script (of_limits limits) ts) last
in_script {form = form} {limits = limits} {old = old} begins p goes =
    onwards p.run (stepped (source_goes form (of_limits limits) context.script p.to old begins) (goes (and_more form (of_limits limits) context.script p.to)))

is_within : {form : Form} {limits : Limits} {ts old : Symbols} {ss : List Stmt} → (p : Progress form limits ts old ss) → Within form limits ts p.before old
is_within {ss = ss} p = record { whole = p.whole; trees = stmts ss; begun = p.begun }

-- where so many of the tokens are left, so many are before them
used_of : (ts used left : Symbols) (at : ℕ) → ts ≡ used ++ left → at + length left ≡ length ts → length used ≡ at
used_of ts used left at e count = let l = ap length e ∙ length-append used left in omega (arith, l, count)

-- the machine leaves the last of the tokens
left_stuck : (form : Form) (room : Room) (ts left : Symbols) → Goes form (script room ts) (stuck left) → (used : Symbols) × (ts ≡ used ++ left)
left_stuck form room ts left run = by e.last e.run e.is
  where
    e : Ends form ts (script room ts)
    e = script_ends form room ts

    by : (last : State) → Goes form (script room ts) last → Last ts last → (used : Symbols) × (ts ≡ used ++ left)
    by _ other (with_tree tree) = let f = one_end {form = form} {t = done tree} {o = stuck left} refl refl other run in absurd cc
    by _ other (stuck_at used o is) = let f = one_end {form = form} {t = stuck o} {o = stuck left} refl refl other run in let g : o ≡ left = cc in (used, is ∙ ap (λ l. used ++ l) g)
    by _ other (deep_at used o is) = let f = one_end {form = form} {t = deep o} {o = stuck left} refl refl other run in absurd cc

pub left_deep : (form : Form) (room : Room) (ts left : Symbols) → Goes form (script room ts) (deep left) → (used : Symbols) × (ts ≡ used ++ left)
left_deep form room ts left run = by e.last e.run e.is
  where
    e : Ends form ts (script room ts)
    e = script_ends form room ts

    by : (last : State) → Goes form (script room ts) last → Last ts last → (used : Symbols) × (ts ≡ used ++ left)
    by _ other (with_tree tree) = let f = one_end {form = form} {t = done tree} {o = deep left} refl refl other run in absurd cc
    by _ other (stuck_at used o is) = let f = one_end {form = form} {t = stuck o} {o = deep left} refl refl other run in absurd cc
    by _ other (deep_at used o is) = let f = one_end {form = form} {t = deep o} {o = deep left} refl refl other run in let g : o ≡ left = cc in (used, is ∙ ap (λ l. used ++ l) g)

-- a token that may not stand there
pub stuck_at_a_token : {form : Form} {limits : Limits} {ts : Symbols} (s : Symbol) (left : Symbols) (at : ℕ) → Goes form (script (of_limits limits) ts) (stuck (s ∷ left)) → at + length (s ∷ left) ≡ length ts → Scanned form limits ts (Err (halt.Broken at))
stuck_at_a_token {form = form} {limits = limits} {ts = ts} s left at run count =
    let u = left_stuck form (of_limits limits) ts (s ∷ left) run in scanned.broken at u.0 left s u.1 (used_of ts u.0 (s ∷ left) at u.1 count) run

pub broken_inside : {form : Form} {limits : Limits} {ts old new : Symbols} {ss : List Stmt} (at_it : ℕ) → at goes_on_elements old ≡ true → Progress form limits ts old ss → 0 < length new
    → ((next : To Stmt) → Goes form (element form (of_limits limits) context.script next old) (stuck new)) → at_it + length new ≡ length ts → Scanned form limits ts (Err (halt.Broken at_it))
broken_inside {new = []} at_it begins p some goes count = absurd (omega (arith, some))
broken_inside {new = s ∷ left} at_it begins p some goes count = stuck_at_a_token s left at_it (in_script begins p goes) count

pub used_up_inside : {form : Form} {limits : Limits} {ts old new : Symbols} {ss : List Stmt} (begun : ℕ) → at goes_on_elements old ≡ true → Progress form limits ts old ss → length new ≤ 0
    → ((next : To Stmt) → Goes form (element form (of_limits limits) context.script next old) (stuck new)) → begun + length old ≡ length ts → Scanned form limits ts (Err (halt.UsedUp begun))
used_up_inside {ts = ts} {old = old} {new = []} begun begins p none goes count =
    scanned.used_up begun p.before old (is_within p) (used_of ts p.before old begun p.whole count) (in_script begins p goes) goes
used_up_inside {new = s ∷ left} begun begins p none goes count = absurd (omega (arith, none))

pub deep_inside : {form : Form} {limits : Limits} {ts old new : Symbols} {ss : List Stmt} (begun : ℕ) → at goes_on_elements old ≡ true → Progress form limits ts old ss → length new ≤ length old
    → ((next : To Stmt) → Goes form (element form (of_limits limits) context.script next old) (deep new)) → begun + length old ≡ length ts → Scanned form limits ts (Err (halt.Deep begun))
deep_inside {ts = ts} {old = old} {new = new} begun begins p shorter goes count =
    scanned.deep_in begun p.before old new (is_within p) (used_of ts p.before old begun p.whole count) shorter goes (in_script begins p goes)

-- ---- behind the elements

-- what the machine comes to behind the elements
behind_them : {form : Form} {limits : Limits} {ts rest : Symbols} {ss : List Stmt} → at goes_on_elements rest ≡ false → Progress form limits ts rest ss → Goes form (script (of_limits limits) ts) (finished (stmts ss) rest)
behind_them {form = form} {limits = limits} {ts = ts} {rest = rest} {ss = ss} none p =
    onwards p.run (stepped (by rest none) (subst (λ s. Goes form (p.to Tree.NoStmts rest) s) (p.ends [] rest ∙ ap (λ l. finished (stmts l) rest) (append-nil ss)) here))
  where
    of_kind : (s : Symbol) (left : Symbols) (kind : TokenKind) → goes_on_elements kind ≡ false → source_by form (of_limits limits) context.script kind p.to s left ≡ p.to Tree.NoStmts (s ∷ left)
    of_kind s left (k.Mark m.CloseBrace) h = refl
    of_kind s left k.End h = refl
    of_kind s left (k.Word w.Function) h = cc
    of_kind s left _ h = cc

    by : (left : Symbols) → at goes_on_elements left ≡ false → step form (source (of_limits limits) context.script p.to left) ≡ p.to Tree.NoStmts left
    by [] h = refl
    by (s ∷ left) h = of_kind s left s.kind h

-- the end, and nothing behind it
pub read_whole : {form : Form} {limits : Limits} {ts rest : Symbols} {ss : List Stmt} → at goes_on_elements rest ≡ false → Progress form limits ts rest ss → at is_end rest ≡ true → length (behind rest) ≤ 0 → Goes form (script (of_limits limits) ts) (done (stmts ss))
read_whole {rest = []} none p is last = cc
read_whole {form = form} {rest = s ∷ []} {ss = ss} none p is last = onwards (behind_them none p) (allowed (s ∷ []) is here)
read_whole {rest = s ∷ (t ∷ left)} none p is last = absurd (omega (arith, last))

-- the end, and something behind it
pub broken_behind_the_end : {form : Form} {limits : Limits} {ts rest : Symbols} {ss : List Stmt} (at_it : ℕ) → at goes_on_elements rest ≡ false → Progress form limits ts rest ss → at is_end rest ≡ true → 0 < length (behind rest) → at_it + length (behind rest) ≡ length ts → Scanned form limits ts (Err (halt.Broken at_it))
broken_behind_the_end {rest = []} at_it none p is some count = cc
broken_behind_the_end {rest = s ∷ []} at_it none p is some count = absurd (omega (arith, some))
broken_behind_the_end {rest = s ∷ (t ∷ left)} at_it none p is some count = stuck_at_a_token t left at_it (onwards (behind_them none p) (allowed (s ∷ (t ∷ left)) is here)) count

-- another token
pub broken_between : {form : Form} {limits : Limits} {ts rest : Symbols} {ss : List Stmt} (at_it : ℕ) → at goes_on_elements rest ≡ false → Progress form limits ts rest ss → at is_end rest ≡ false → 0 < length rest → at_it + length rest ≡ length ts → Scanned form limits ts (Err (halt.Broken at_it))
broken_between {rest = []} at_it none p is some count = absurd (omega (arith, some))
broken_between {form = form} {limits = limits} {ts = ts} {rest = s ∷ left} {ss = ss} at_it none p is some count =
    stuck_at_a_token s left at_it (onwards (behind_them none p) (subst (λ a. Goes form (guard a (s ∷ left) (finished_by (stmts ss) left)) (stuck (s ∷ left))) (sym is) here)) count

-- none
pub used_up_between : {form : Form} {limits : Limits} {ts rest : Symbols} {ss : List Stmt} (begun : ℕ) → Progress form limits ts rest ss → length rest ≤ 0 → begun + length rest ≡ length ts → Scanned form limits ts (Err (halt.UsedUp begun))
used_up_between {ts = ts} {rest = []} begun p none count = scanned.used_up begun p.before [] (is_within p) (used_of ts p.before [] begun p.whole count) (behind_them refl p) (λ next. here)
used_up_between {rest = s ∷ left} begun p none count = absurd (omega (arith, none))

-- ---- one element more

element_takes : (form : Form) (limits : Limits) (old new : Symbols) (x : Stmt) → are_regular old ≡ true → ((next : To Stmt) → Goes form (element form (of_limits limits) context.script next old) (next x new)) → length new < length old
element_takes form limits old new x regular goes = by (element_read form (of_limits limits) context.script old new x regular goes)
  where
    some : (u : Symbols) → (u ≡ [] → ⊥) → 0 < length u
    some [] h = absurd (h refl)
    some (s ∷ u) h = omega arith

    by : IsRead form (of_limits limits) context.script old new x → length new < length old
    by r = let e = ap length r.whole ∙ length-append r.used new in let f = some r.used (element-any form context.script r.used (first new (end false)) x r.is) in omega (arith, e, f)

pub continues : {form : Form} {limits : Limits} {ts old new : Symbols} (before after : List declared.Stmt) (x : declared.Stmt) → are_regular ts ≡ true → at goes_on_elements old ≡ true → Progress form limits ts old (map stmt before)
    → ((next : To Stmt) → Goes form (element form (of_limits limits) context.script next old) (next (stmt x) new)) → map stmt after ≡ map stmt before ++ (stmt x ∷ []) → Continues form limits ts old new (Ok after)
continues {form = form} {limits = limits} {ts = ts} {old = old} {new = new} before after x regular begins p goes is =
    scanned.goes_on (element_takes form limits old new (stmt x) (regular_end p.before old (subst (λ l. are_regular l ≡ true) p.whole regular)) goes) (subst (λ ss. Progress form limits ts new ss) (sym is) (one_read regular begins p goes))

pub halts_in : {form : Form} {limits : Limits} {ts old new : Symbols} {ss : List Stmt} (stop : Stop) (h : Halt) (begun : ℕ) → at goes_on_elements old ≡ true → Progress form limits ts old ss
    → ((next : To Stmt) → Comes form (element form (of_limits limits) context.script next old) (λ x. next (stmt x) new) new (Err stop)) → length new ≤ length old → begun + length old ≡ length ts
    → h ≡ halt_of stop begun (length ts) (length new) → Continues form limits ts old new (Err h)
halts_in {form = form} {limits = limits} {ts = ts} {old = old} {new = new} {ss = ss} Broken h begun begins p comes shorter count is = by (nat_lt 0 (length new)) refl
  where
    goes : (next : To Stmt) → Goes form (element form (of_limits limits) context.script next old) (stuck new)
    goes next = went_stuck (comes next)

    by : (a : Bool) → nat_lt 0 (length new) ≡ a → Continues form limits ts old new (Err h)
    by true e = scanned.halts (subst (λ o. Scanned form limits ts (Err o)) (sym (is ∙ ap (λ a. if a then halt.Broken (length ts - length new) else halt.UsedUp begun) e))
        (broken_inside (length ts - length new) begins p (ltb-true 0 (length new) e) goes (omega (arith, shorter, count))))
    by false e = scanned.halts (subst (λ o. Scanned form limits ts (Err o)) (sym (is ∙ ap (λ a. if a then halt.Broken (length ts - length new) else halt.UsedUp begun) e))
        (used_up_inside begun begins p (ltb-false 0 (length new) e) goes count))
halts_in {form = form} {limits = limits} {ts = ts} {old = old} {new = new} Deep h begun begins p comes shorter count is =
    scanned.halts (subst (λ o. Scanned form limits ts (Err o)) (sym is) (deep_inside begun begins p shorter (λ next. went_deep (comes next)) count))
halts_in {form = form} {limits = limits} {ts = ts} OutOfMemory h begun begins p comes shorter count is = scanned.halts (subst (λ o. Scanned form limits ts (Err o)) (sym is) scanned.out_of_memory)

-- ---- the end

pub finishes_whole : {form : Form} {limits : Limits} {ts rest : Symbols} {ss : List Stmt} {u : Unit {0}} → at goes_on_elements rest ≡ false → Progress form limits ts rest ss → at is_end rest ≡ true → length (behind rest) ≤ 0 → Finishes form limits ts ss (Ok u)
finishes_whole none p is last = scanned.ends (read_whole none p is last)

-- ---- what the loop over the elements asks

pub progress_of : {form : Form} {limits : Limits} {ts old new : Symbols} {ss : List declared.Stmt} → Continues form limits ts old new (Ok ss) → Progress form limits ts new (map stmt ss)
progress_of (scanned.goes_on less p) = p

pub less_of : {form : Form} {limits : Limits} {ts old new : Symbols} {ss : List declared.Stmt} → Continues form limits ts old new (Ok ss) → length new < length old
less_of (scanned.goes_on less p) = less

-- a halt that a `?` hands on
pub halt_of_it : {form : Form} {limits : Limits} {ts old new : Symbols} {h : Halt} {r : Result (List declared.Stmt) Halt} → (y : Halt) × (r ≡ Err y) × (y ≡ h) → Continues form limits ts old new (Err h) → Scanned form limits ts r
halt_of_it {form = form} {limits = limits} {ts = ts} g (scanned.halts d) = subst (λ r. Scanned form limits ts r) (sym g.1) (subst (λ h. Scanned form limits ts (Err h)) (sym g.2) d)

pub halt_at_end : {form : Form} {limits : Limits} {ts : Symbols} {ss : List Stmt} {h : Halt} {r : Result (List declared.Stmt) Halt} → (y : Halt) × (r ≡ Err y) × (y ≡ h) → Finishes form limits ts ss (Err h) → Scanned form limits ts r
halt_at_end {form = form} {limits = limits} {ts = ts} g (scanned.halts_there d) = subst (λ r. Scanned form limits ts r) (sym g.1) (subst (λ h. Scanned form limits ts (Err h)) (sym g.2) d)

pub read_to_end : {form : Form} {limits : Limits} {ts : Symbols} {u : Unit {0}} (ss : List declared.Stmt) → Finishes form limits ts (map stmt ss) (Ok u) → Scanned form limits ts (Ok ss)
read_to_end ss (scanned.ends d) = scanned.read d

-- an element that is read, and put behind the others where there is memory for it
pub continues_with : {form : Form} {limits : Limits} {ts old new : Symbols} (before : List declared.Stmt) (x : declared.Stmt) (r : Result (List declared.Stmt) Halt) → are_regular ts ≡ true → at goes_on_elements old ≡ true → Progress form limits ts old (map stmt before)
    → ((next : To Stmt) → Comes form (element form (of_limits limits) context.script next old) (λ y. next (stmt y) new) new (Ok x)) → IfOk r (λ after. map stmt after ≡ map stmt before ++ (stmt x ∷ [])) → IfErr r (λ h. h ≡ halt.OutOfMemory) → Continues form limits ts old new r
continues_with before x (Ok after) regular begins p comes is none = continues before after x regular begins p (λ next. came (comes next)) is
continues_with {form = form} {limits = limits} {ts = ts} {old = old} {new = new} before x (Err h) regular begins p comes is none = subst (λ o. Continues form limits ts old new (Err o)) (sym none) (scanned.halts scanned.out_of_memory)

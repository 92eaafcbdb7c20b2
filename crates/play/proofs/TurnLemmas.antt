-- Each turn of the machine leaves what is still to come as it was.
use Rattle.std.proofs.Common.{◌≡◌, ℕ, zero, suc, ◌+◌, ◌<◌, List, [], ◌∷◌, ◌++◌, drop, Option, Some, None, refl, sym, ap, ◌∙◌, subst, arith}
use Rattle.std.specs.Prelude.{slice_get, map}
use Rattle.js_tree.specs.Tree
use Rattle.js_tree.specs.Tree.{Name, Func}
use Rattle.js_tree.specs.declared.tree.Role.TheVariants.{Late}
use Rattle.first_grammar.specs.First.{statements_tree, stub_tree, out_name}
use Rattle.first_grammar.specs.declared.script.FirstStatement.{FirstStatement}
use Rattle.first_grammar.specs.declared.script.FirstStatement.TheVariants.{Call, Out}
use Rattle.play.specs.declared.table.Table.{Table}
use Rattle.play.specs.declared.table.Entry.{Entry}
use Rattle.play.specs.declared.table.EntryPlace.{EntryPlace}
use Rattle.play.specs.declared.table.Continuation.{Continuation}
use Rattle.play.specs.declared.table.Frame.{Frame}
use Rattle.play.specs.declared.table.Frame.TheVariants as frame
use Rattle.play.specs.declared.machine.Machine.{Machine}
use Rattle.play.specs.declared.machine.Halt.{Halt}
use Rattle.play.specs.declared.machine.Halt.TheVariants as halt
use Rattle.play.specs.declared.outcome.End.{End}
use Rattle.play.specs.declared.outcome.End.TheVariants as end
use Rattle.play.specs.Value
use Rattle.play.specs.Value.{ShownText, ShownObject, Shown}
use Rattle.play.specs.Program.{Ret, statements, finish, on_value, after_statement, gives}
use Rattle.play.specs.Run.{State, Trace, Stack, function_named, run}
use Rattle.play.specs.Site.{ClusterFile}
use Rattle.play.specs.Loader
use Rattle.play.specs.Report.{CallLine, UncaughtLine, IdleLine, line_text, ended_text, out_of_steps_text}
use Rattle.play.specs.Loader.{status_of}
use Rattle.play.specs.Played.{Gives}
use Rattle.play.specs.Machine.{func_of, env_at, rest_program, stack, state_of, trace_at, statuses, left_for, IsSound, StubIs, Agrees, trace_of, left_of, Keeps, Ends, Halts, Turns, NeedsNext}
use Rattle.play.specs.Calls.{IsCall, PlainNamed, StubNamed, HereNamed}
use Rattle.play.proofs.StepLemmas.{RanOutAt, stack_last, ends, leaves_call, leaves_late, call_out, call_unbound, call_bound_out, entry_state, below, call_plain, call_stub, out_out, out_is, below_late, stub_out_early, stub_out_late, stub_is}
use Rattle.play.proofs.LeftLemmas.{left_called, left_plain, left_here, left_needed, left_out, left_idle, left_uncaught, status_at}

-- ---- the ends

-- out of steps at once
pub runs_out : (t : Table) (old new : Machine) → ((e : ℕ → Option Func) → Agrees e t → (n : ℕ) × (RanOutAt (trace_of e t old) n) × (n ≡ new.clock.steps)) → new.report ≡ old.report → Ends t old new out_of_steps_text end.OutOfSteps
runs_out t old new h r e folder file ag =
    let q = h e ag in
    left_out folder file t old.report (trace_of e t old) q.0 q.1
    ∙ (ap (λ n. record { answer = Gives (old.report ++ out_of_steps_text n) end.OutOfSteps; asked = [] }) q.2
    ∙ ap (λ report. record { answer = Gives (report ++ out_of_steps_text new.clock.steps) end.OutOfSteps; asked = [] }) (sym r))

-- a run whose first statement is a call
pub as_call : (e : ℕ → Option Func) (t : Table) (m : Machine) (letter n : ℕ) → IsCall letter m.place.rest → m.clock.left ≡ n
    → trace_of e t m ≡ trace_at e n (Call letter ∷ drop 1 m.place.rest) m.place.depth m.frames (state_of t.functions m.clock.beats m.clock.steps)
as_call e t m letter n c l =
    ap (λ k. trace_at e k m.place.rest m.place.depth m.frames (state_of t.functions m.clock.beats m.clock.steps)) l
    ∙ ap (λ r. trace_at e n r m.place.depth m.frames (state_of t.functions m.clock.beats m.clock.steps)) c

ran_out_same : {t u : Trace} {n : ℕ} → t ≡ u → RanOutAt u n → RanOutAt t n
ran_out_same e r = record { state = r.state; is = e ∙ r.is; steps_are = r.steps_are }

pub name_runs_out : (t : Table) (old new : Machine) (letter : ℕ) → IsCall letter old.place.rest → old.clock.left < 3 → new.clock.steps ≡ old.clock.left + old.clock.steps → new.report ≡ old.report → Ends t old new out_of_steps_text end.OutOfSteps
name_runs_out t old new letter c lt s r =
    runs_out t old new (λ e ag. (
      old.clock.left + old.clock.steps,
      ran_out_same (as_call e t old letter old.clock.left c refl) (call_out e old.clock.left letter (drop 1 old.place.rest) old.place.depth old.frames (state_of t.functions old.clock.beats old.clock.steps) lt),
      sym s,
    )) r

-- where the name has a function
pub call_runs_out : (t : Table) (old new : Machine) (letter : ℕ) (f : Func) → IsCall letter old.place.rest → function_named (map func_of t.functions) (letter ∷ []) ≡ Some (Value.Closure f Value.GlobalScope) → old.clock.left < 4 → new.clock.steps ≡ old.clock.left + old.clock.steps → new.report ≡ old.report → Ends t old new out_of_steps_text end.OutOfSteps
call_runs_out t old new letter f c named lt s r =
    runs_out t old new (λ e ag. (old.clock.left + old.clock.steps, by e old.clock.left refl lt, sym s)) r
  where
    st : State
    st = state_of t.functions old.clock.beats old.clock.steps

    at : (e : ℕ → Option Func) (n : ℕ) → old.clock.left ≡ n → RanOutAt (trace_at e n (Call letter ∷ drop 1 old.place.rest) old.place.depth old.frames st) (n + old.clock.steps) → RanOutAt (trace_of e t old) (old.clock.left + old.clock.steps)
    at e n q r = subst (λ k. RanOutAt (trace_of e t old) (k + old.clock.steps)) (sym q) (ran_out_same (as_call e t old letter n c q) r)

    by : (e : ℕ → Option Func) (n : ℕ) → old.clock.left ≡ n → n < 4 → RanOutAt (trace_of e t old) (old.clock.left + old.clock.steps)
    by e zero q l = at e 0 q (call_out e 0 letter (drop 1 old.place.rest) old.place.depth old.frames st (omega arith))
    by e (suc zero) q l = at e 1 q (call_out e 1 letter (drop 1 old.place.rest) old.place.depth old.frames st (omega arith))
    by e (suc (suc zero)) q l = at e 2 q (call_out e 2 letter (drop 1 old.place.rest) old.place.depth old.frames st (omega arith))
    by e (suc (suc (suc zero))) q l = at e 3 q (call_bound_out e letter (drop 1 old.place.rest) old.place.depth old.frames st f named)
    by e (suc (suc (suc (suc n)))) q l = absurd (omega arith)

-- ---- going on

-- the body of a plain function runs
pub keeps_plain : (t : Table) (old new : Machine) (back : Continuation) (letter number : ℕ) (code : List FirstStatement) → IsCall letter old.place.rest → PlainNamed t letter number code
    → old.clock.left ≡ new.clock.left + 4 → new.clock.steps ≡ old.clock.steps + 4 → new.clock.beats ≡ old.clock.beats + 1
    → new.frames ≡ old.frames ++ frame.Call back ∷ [] → back.rest ≡ drop 1 old.place.rest → back.depth ≡ old.place.depth → new.place.rest ≡ code → new.place.depth ≡ 1 → new.report ≡ old.report → Keeps t old new
keeps_plain t old new back letter number code c named left steps beats frames rest depth place at report = record { same = λ e folder file ag. sym (was e folder file ∙ is e folder file) }
  where
    ss : List FirstStatement
    ss = drop 1 old.place.rest

    st : State
    st = state_of t.functions old.clock.beats old.clock.steps

    next : (ℕ → Option Func) → Trace
    next e = run e new.clock.left (statements (statements_tree code) (env_at 1)) (finish ∷ Ret ∷ below e ss old.place.depth old.frames) (entry_state e st)

    was : (e : ℕ → Option Func) (folder : List ℕ) (file : ℕ → ClusterFile) → left_of e folder file t old ≡ left_for folder file t old.report (next e)
    was e folder file =
        ap (left_for folder file t old.report) (as_call e t old letter (suc (suc (suc (suc new.clock.left)))) c (omega arith) ∙ call_plain e new.clock.left letter ss old.place.depth old.frames st number (Some (named.name ∷ [])) [] (statements_tree code) named.is)
        ∙ left_plain folder file t old.report number (suc old.clock.beats) (suc (suc (suc (suc old.clock.steps)))) (next e) named.not_listed

    frames_are : stack new.frames ≡ finish ∷ Ret ∷ on_value gives ∷ after_statement (rest_program ss old.place.depth) ∷ stack old.frames
    frames_are =
        ap stack frames ∙ (stack_last old.frames (frame.Call back)
        ∙ (ap (λ r. finish ∷ Ret ∷ on_value gives ∷ after_statement (rest_program r back.depth) ∷ stack old.frames) rest
        ∙ ap (λ d. finish ∷ Ret ∷ on_value gives ∷ after_statement (rest_program ss d) ∷ stack old.frames) depth))

    steps_are : new.clock.steps ≡ suc (suc (suc (suc old.clock.steps)))
    steps_are = omega arith

    beats_are : new.clock.beats ≡ suc old.clock.beats
    beats_are = omega arith

    state_is : state_of t.functions new.clock.beats new.clock.steps ≡ entry_state (λ k. None) st
    state_is = ap (λ b. state_of t.functions b new.clock.steps) beats_are ∙ ap (λ s. state_of t.functions (suc old.clock.beats) s) steps_are

    is : (e : ℕ → Option Func) (folder : List ℕ) (file : ℕ → ClusterFile) → left_for folder file t old.report (next e) ≡ left_of e folder file t new
    is e folder file = sym
        (ap (λ r. left_for folder file t r (trace_of e t new)) report
        ∙ ap (left_for folder file t old.report)
        (ap (λ ks. run e new.clock.left (rest_program new.place.rest new.place.depth) ks (state_of t.functions new.clock.beats new.clock.steps)) frames_are
        ∙ (ap (λ s. run e new.clock.left (rest_program new.place.rest new.place.depth) (finish ∷ Ret ∷ below e ss old.place.depth old.frames) s) state_is
        ∙ (ap (λ r. run e new.clock.left (rest_program r new.place.depth) (finish ∷ Ret ∷ below e ss old.place.depth old.frames) (entry_state e st)) place
        ∙ ap (λ d. run e new.clock.left (rest_program code d) (finish ∷ Ret ∷ below e ss old.place.depth old.frames) (entry_state e st)) at))))

-- the body of a late function runs
pub keeps_late : (t : Table) (old new : Machine) (back : Continuation) (letter number : ℕ) (entry : Entry) → IsSound t → IsCall letter old.place.rest → StubNamed t letter number → HereNamed t number entry
    → old.clock.left ≡ new.clock.left + 12 → new.clock.steps ≡ old.clock.steps + 12 → new.clock.beats ≡ old.clock.beats + 1
    → new.frames ≡ old.frames ++ frame.Late back ∷ [] → back.rest ≡ drop 1 old.place.rest → back.depth ≡ old.place.depth → new.place.rest ≡ entry.code → new.place.depth ≡ 2 → new.report ≡ old.report → Keeps t old new
keeps_late t old new back letter number entry sound c named here left steps beats frames rest depth place at report = record { same = λ e folder file ag. sym (was e folder file ag ∙ is e folder file) }
  where
    ss : List FirstStatement
    ss = drop 1 old.place.rest

    st : State
    st = state_of t.functions old.clock.beats old.clock.steps

    ks : (ℕ → Option Func) → Stack
    ks e = finish ∷ Ret ∷ below e ss old.place.depth old.frames

    late_state : (ℕ → Option Func) → State
    late_state e = state_of t.functions (suc old.clock.beats) (suc (suc (suc (suc (suc (suc (suc (suc (suc (suc (suc (suc old.clock.steps))))))))))))

    next : (ℕ → Option Func) → Trace
    next e = run e new.clock.left (statements (statements_tree entry.code) (env_at 2)) (below_late e (ks e)) (late_state e)

    is_here : status_of (statuses t.manifest.clusters t.loaded) here.stub.line.cluster ≡ Loader.Here
    is_here = status_at 0 t.manifest.clusters t.loaded here.place.cluster here.stub.line (Some here.here.entries) sound.form.rise here.stub.line_at here.here.loaded

    entry_is : (e : ℕ → Option Func) → Agrees e t → e number ≡ Some (Tree.Code entry.number None [] (statements_tree entry.code) Late)
    entry_is e ag = ap e (sym here.here.number_is) ∙ ag.here here.place.cluster here.here.entries here.place.entry entry here.here.loaded here.here.at

    was : (e : ℕ → Option Func) (folder : List ℕ) (file : ℕ → ClusterFile) → Agrees e t → left_of e folder file t old ≡ left_for folder file t old.report (next e)
    was e folder file ag =
        ap (left_for folder file t old.report)
        (as_call e t old letter (suc (suc (suc (suc (suc (suc (suc (suc (suc (suc (suc (suc new.clock.left)))))))))))) c (omega arith)
        ∙ call_stub e (suc (suc (suc (suc (suc (suc (suc (suc new.clock.left)))))))) letter ss old.place.depth old.frames st number (Some (named.name ∷ [])) [] (stub_tree number) named.is)
        ∙ (left_here folder file t old.report number (suc old.clock.beats) (suc (suc (suc (suc old.clock.steps))))
        (run e (suc (suc (suc (suc (suc (suc (suc (suc new.clock.left)))))))) (statements (stub_tree number) (env_at 1)) (ks e) (entry_state e st)) here.stub.line here.stub.listed is_here
        ∙ (ap (left_for folder file t old.report) (stub_is e new.clock.left number (ks e) (entry_state e st) entry.number None [] (statements_tree entry.code) (entry_is e ag))
        ∙ left_needed folder file t old.report number (suc (suc (suc (suc (suc (suc (suc (suc old.clock.steps)))))))) (next e) here.stub.line here.stub.listed is_here))

    frames_are : (e : ℕ → Option Func) → stack new.frames ≡ below_late e (ks e)
    frames_are e =
        ap stack frames ∙ (stack_last old.frames (frame.Late back)
        ∙ (ap (λ r. below_late e (finish ∷ Ret ∷ on_value gives ∷ after_statement (rest_program r back.depth) ∷ stack old.frames)) rest
        ∙ ap (λ d. below_late e (finish ∷ Ret ∷ on_value gives ∷ after_statement (rest_program ss d) ∷ stack old.frames)) depth))

    steps_are : new.clock.steps ≡ suc (suc (suc (suc (suc (suc (suc (suc (suc (suc (suc (suc old.clock.steps)))))))))))
    steps_are = omega arith

    beats_are : new.clock.beats ≡ suc old.clock.beats
    beats_are = omega arith

    state_is : (e : ℕ → Option Func) → state_of t.functions new.clock.beats new.clock.steps ≡ late_state e
    state_is e = ap (λ b. state_of t.functions b new.clock.steps) beats_are ∙ ap (λ s. state_of t.functions (suc old.clock.beats) s) steps_are

    is : (e : ℕ → Option Func) (folder : List ℕ) (file : ℕ → ClusterFile) → left_for folder file t old.report (next e) ≡ left_of e folder file t new
    is e folder file = sym
        (ap (λ r. left_for folder file t r (trace_of e t new)) report
        ∙ ap (left_for folder file t old.report)
        (ap (λ ks. run e new.clock.left (rest_program new.place.rest new.place.depth) ks (state_of t.functions new.clock.beats new.clock.steps)) (frames_are e)
        ∙ (ap (λ s. run e new.clock.left (rest_program new.place.rest new.place.depth) (below_late e (ks e)) s) (state_is e)
        ∙ (ap (λ r. run e new.clock.left (rest_program r new.place.depth) (below_late e (ks e)) (late_state e)) place
        ∙ ap (λ d. run e new.clock.left (rest_program entry.code d) (below_late e (ks e)) (late_state e)) at))))

-- a stub is entered, and then the steps run out
pub late_runs_out : (t : Table) (old new : Machine) (letter number left : ℕ) (entry : Entry) → IsSound t → IsCall letter old.place.rest → StubNamed t letter number → HereNamed t number entry
    → old.clock.left ≡ left + 4 → left < 8 → new.clock.steps ≡ old.clock.left + old.clock.steps → new.report ≡ old.report → Ends t old new out_of_steps_text end.OutOfSteps
late_runs_out t old new letter number left entry sound c named here four lt steps report e folder file ag =
    ap (left_for folder file t old.report)
    (as_call e t old letter (suc (suc (suc (suc left)))) c (omega arith)
    ∙ call_stub e left letter ss old.place.depth old.frames st number (Some (named.name ∷ [])) [] (stub_tree number) named.is)
    ∙ (left_here folder file t old.report number (suc old.clock.beats) (suc (suc (suc (suc old.clock.steps)))) (body left) here.stub.line here.stub.listed is_here
    ∙ (by left refl lt ∙ ap (λ r. record { answer = Gives (r ++ out_of_steps_text new.clock.steps) end.OutOfSteps; asked = [] }) (sym report)))
  where
    ss : List FirstStatement
    ss = drop 1 old.place.rest

    st : State
    st = state_of t.functions old.clock.beats old.clock.steps

    ks : Stack
    ks = finish ∷ Ret ∷ below e ss old.place.depth old.frames

    body : ℕ → Trace
    body n = run e n (statements (stub_tree number) (env_at 1)) ks (entry_state e st)

    is_here : status_of (statuses t.manifest.clusters t.loaded) here.stub.line.cluster ≡ Loader.Here
    is_here = status_at 0 t.manifest.clusters t.loaded here.place.cluster here.stub.line (Some here.here.entries) sound.form.rise here.stub.line_at here.here.loaded

    entry_is : e number ≡ Some (Tree.Code entry.number None [] (statements_tree entry.code) Late)
    entry_is = ap e (sym here.here.number_is) ∙ ag.here here.place.cluster here.here.entries here.place.entry entry here.here.loaded here.here.at

    Out : ℕ → Type 0
    Out n = left_for folder file t old.report (body n) ≡ record { answer = Gives (old.report ++ out_of_steps_text new.clock.steps) end.OutOfSteps; asked = [] }

    early : (n : ℕ) → left ≡ n → n < 4 → Out n
    early n q l =
        left_out folder file t old.report (body n) (n + suc (suc (suc (suc old.clock.steps)))) (stub_out_early e n number ks (entry_state e st) l)
        ∙ ap (λ n. record { answer = Gives (old.report ++ out_of_steps_text n) end.OutOfSteps; asked = [] }) (omega arith)

    late : (n : ℕ) → left ≡ suc (suc (suc (suc n))) → n < 4 → Out (suc (suc (suc (suc n))))
    late n q l =
        let r = stub_out_late e n number ks (entry_state e st) (Tree.Code entry.number None [] (statements_tree entry.code) Late) entry_is l in
        ap (left_for folder file t old.report) r.is
        ∙ (left_needed folder file t old.report number r.at r.rest here.stub.line here.stub.listed is_here
        ∙ (left_out folder file t old.report r.rest (4 + (n + suc (suc (suc (suc old.clock.steps))))) r.out
        ∙ ap (λ n. record { answer = Gives (old.report ++ out_of_steps_text n) end.OutOfSteps; asked = [] }) (omega arith)))

    by : (n : ℕ) → left ≡ n → n < 8 → Out n
    by zero q l = early 0 q (omega arith)
    by (suc zero) q l = early 1 q (omega arith)
    by (suc (suc zero)) q l = early 2 q (omega arith)
    by (suc (suc (suc zero))) q l = early 3 q (omega arith)
    by (suc (suc (suc (suc n)))) q l = late n q (omega arith)

-- a host call
pub keeps_out : (t : Table) (old new : Machine) (text : Name) → old.place.rest ≡ Out text ∷ drop 1 old.place.rest → old.clock.left ≡ new.clock.left + 6 → new.clock.steps ≡ old.clock.steps + 6 → new.clock.beats ≡ old.clock.beats
    → new.frames ≡ old.frames → new.place.rest ≡ drop 1 old.place.rest → new.place.depth ≡ old.place.depth → new.report ≡ old.report ++ line_text (CallLine out_name (ShownText text ∷ [])) → Keeps t old new
keeps_out t old new text o left steps beats frames rest depth report = record { same = λ e folder file ag. sym (was e folder file ∙ is e folder file) }
  where
    ss : List FirstStatement
    ss = drop 1 old.place.rest

    st : State
    st = state_of t.functions old.clock.beats old.clock.steps

    said : List ℕ
    said = old.report ++ line_text (CallLine out_name (ShownText text ∷ []))

    six : State
    six = state_of t.functions old.clock.beats (suc (suc (suc (suc (suc (suc old.clock.steps))))))

    was : (e : ℕ → Option Func) (folder : List ℕ) (file : ℕ → ClusterFile) → left_of e folder file t old ≡ left_for folder file t said (trace_at e new.clock.left ss old.place.depth old.frames six)
    was e folder file =
        ap (left_for folder file t old.report)
        (ap (λ n. trace_at e n old.place.rest old.place.depth old.frames st) (let l : old.clock.left ≡ suc (suc (suc (suc (suc (suc new.clock.left))))) = omega arith in l)
        ∙ (ap (λ r. trace_at e (suc (suc (suc (suc (suc (suc new.clock.left)))))) r old.place.depth old.frames st) o
        ∙ out_is e new.clock.left text ss old.place.depth old.frames st))
        ∙ left_called folder file t old.report out_name (ShownText text ∷ []) (suc (suc (suc (suc (suc (suc old.clock.steps)))))) (trace_at e new.clock.left ss old.place.depth old.frames six)

    steps_are : new.clock.steps ≡ suc (suc (suc (suc (suc (suc old.clock.steps)))))
    steps_are = omega arith

    is : (e : ℕ → Option Func) (folder : List ℕ) (file : ℕ → ClusterFile) → left_for folder file t said (trace_at e new.clock.left ss old.place.depth old.frames six) ≡ left_of e folder file t new
    is e folder file = sym
        (ap (λ r. left_for folder file t r (trace_of e t new)) report
        ∙ ap (left_for folder file t said)
        (ap (λ fs. trace_at e new.clock.left new.place.rest new.place.depth fs (state_of t.functions new.clock.beats new.clock.steps)) frames
        ∙ (ap (λ b. trace_at e new.clock.left new.place.rest new.place.depth old.frames (state_of t.functions b new.clock.steps)) beats
        ∙ (ap (λ n. trace_at e new.clock.left new.place.rest new.place.depth old.frames (state_of t.functions old.clock.beats n)) steps_are
        ∙ (ap (λ r. trace_at e new.clock.left r new.place.depth old.frames six) rest
        ∙ ap (λ d. trace_at e new.clock.left ss d old.frames six) depth)))))

pub out_runs_out : (t : Table) (old new : Machine) (text : Name) → old.place.rest ≡ Out text ∷ drop 1 old.place.rest → old.clock.left < 6 → new.clock.steps ≡ old.clock.left + old.clock.steps → new.report ≡ old.report → Ends t old new out_of_steps_text end.OutOfSteps
out_runs_out t old new text o lt s r =
    runs_out t old new (λ e ag. (
      old.clock.left + old.clock.steps,
      ran_out_same (ap (λ r. trace_at e old.clock.left r old.place.depth old.frames (state_of t.functions old.clock.beats old.clock.steps)) o) (out_out e old.clock.left text (drop 1 old.place.rest) old.place.depth old.frames (state_of t.functions old.clock.beats old.clock.steps) lt),
      sym s,
    )) r

-- a body is over
pub keeps_return : (t : Table) (old new : Machine) (back : Continuation) (f : Frame) → ((e : ℕ → Option Func) (left d : ℕ) (fs : List Frame) (s : State) → trace_at e left [] d (fs ++ f ∷ []) s ≡ trace_at e left back.rest back.depth fs s)
    → old.place.rest ≡ [] → old.frames ≡ new.frames ++ f ∷ [] → new.place ≡ back → new.clock ≡ old.clock → new.report ≡ old.report → Keeps t old new
keeps_return t old new back f law rest frames place clock report = record { same = λ e folder file ag. sym (was e folder file) }
  where
    was : (e : ℕ → Option Func) (folder : List ℕ) (file : ℕ → ClusterFile) → left_of e folder file t old ≡ left_of e folder file t new
    was e folder file =
        ap (λ r. left_for folder file t old.report (trace_at e old.clock.left r old.place.depth old.frames (state_of t.functions old.clock.beats old.clock.steps))) rest
        ∙ (ap (λ fs. left_for folder file t old.report (trace_at e old.clock.left [] old.place.depth fs (state_of t.functions old.clock.beats old.clock.steps))) frames
        ∙ (ap (left_for folder file t old.report) (law e old.clock.left old.place.depth new.frames (state_of t.functions old.clock.beats old.clock.steps))
        ∙ (ap (λ p. left_for folder file t old.report (trace_at e old.clock.left p.rest p.depth new.frames (state_of t.functions old.clock.beats old.clock.steps))) (sym place)
        ∙ (ap (λ c. left_for folder file t old.report (trace_at e c.left new.place.rest new.place.depth new.frames (state_of t.functions c.beats c.steps))) (sym clock)
        ∙ ap (λ r. left_for folder file t r (trace_of e t new)) (sym report)))))

pub keeps_call_return : (t : Table) (old new : Machine) (back : Continuation) → old.place.rest ≡ [] → old.frames ≡ new.frames ++ frame.Call back ∷ [] → new.place ≡ back → new.clock ≡ old.clock → new.report ≡ old.report → Keeps t old new
keeps_call_return t old new back = keeps_return t old new back (frame.Call back) (λ e left d fs s. leaves_call e left d fs back s)

pub keeps_late_return : (t : Table) (old new : Machine) (back : Continuation) → old.place.rest ≡ [] → old.frames ≡ new.frames ++ frame.Late back ∷ [] → new.place ≡ back → new.clock ≡ old.clock → new.report ≡ old.report → Keeps t old new
keeps_late_return t old new back = keeps_return t old new back (frame.Late back) (λ e left d fs s. leaves_late e left d fs back s)

-- the script is over
pub ends_script : (t : Table) (old new : Machine) → old.place.rest ≡ [] → old.frames ≡ [] → new.clock ≡ old.clock → new.report ≡ old.report ++ line_text IdleLine → Ends t old new ended_text end.Ended
ends_script t old new rest frames clock report e folder file ag =
    ap (λ r. left_for folder file t old.report (trace_at e old.clock.left r old.place.depth old.frames (state_of t.functions old.clock.beats old.clock.steps))) rest
    ∙ (ap (λ fs. left_for folder file t old.report (trace_at e old.clock.left [] old.place.depth fs (state_of t.functions old.clock.beats old.clock.steps))) frames
    ∙ (ap (left_for folder file t old.report) (ends e old.clock.left old.place.depth (state_of t.functions old.clock.beats old.clock.steps))
    ∙ (left_idle folder file t old.report old.clock.beats old.clock.steps (Value.Normal Value.Undefined) (state_of t.functions old.clock.beats old.clock.steps)
    ∙ (ap (λ c. record { answer = Gives ((old.report ++ line_text IdleLine) ++ ended_text c.steps) end.Ended; asked = [] }) (sym clock)
    ∙ ap (λ r. record { answer = Gives (r ++ ended_text new.clock.steps) end.Ended; asked = [] }) (sym report)))))

-- a name without a function
pub ends_uncaught : (t : Table) (old new : Machine) (letter left : ℕ) → IsCall letter old.place.rest → function_named (map func_of t.functions) (letter ∷ []) ≡ None
    → old.clock.left ≡ left + 3 → new.clock.steps ≡ old.clock.steps + 3 → new.report ≡ (old.report ++ line_text (UncaughtLine (ShownObject 1))) ++ line_text IdleLine → Ends t old new ended_text end.Ended
ends_uncaught t old new letter left c named three steps report e folder file ag =
    ap (left_for folder file t old.report)
    (as_call e t old letter (suc (suc (suc left))) c (omega arith)
    ∙ call_unbound e left letter (drop 1 old.place.rest) old.place.depth old.frames st named)
    ∙ (left_uncaught folder file t old.report (ShownObject 1) (suc (suc (suc old.clock.steps))) old.clock.beats (suc (suc (suc old.clock.steps))) (Value.Normal Value.Undefined) after
    ∙ (left_idle folder file t (old.report ++ line_text (UncaughtLine (ShownObject 1))) old.clock.beats (suc (suc (suc old.clock.steps))) (Value.Normal Value.Undefined) after
    ∙ (ap (λ n. record { answer = Gives (((old.report ++ line_text (UncaughtLine (ShownObject 1))) ++ line_text IdleLine) ++ ended_text n) end.Ended; asked = [] }) (let s : suc (suc (suc old.clock.steps)) ≡ new.clock.steps = omega arith in s)
    ∙ ap (λ r. record { answer = Gives (r ++ ended_text new.clock.steps) end.Ended; asked = [] }) (sym report))))
  where
    st : State
    st = state_of t.functions old.clock.beats old.clock.steps

    after : State
    after = record { functions = map func_of t.functions; errors = 1; passed = 0 ∷ []; beats = old.clock.beats; steps = suc (suc (suc old.clock.steps)) }

-- a cluster is needed before its stub is entered
pub needs_next : (t : Table) (old new : Machine) (letter number left : ℕ) (place : EntryPlace) → IsCall letter old.place.rest → StubNamed t letter number → StubIs t.manifest number place → slice_get t.loaded place.cluster ≡ Some None → old.clock.left ≡ left + 4 → new ≡ old → NeedsNext t new place.cluster
needs_next t old new letter number left place c named stub absent four same = subst (λ m. NeedsNext t m place.cluster) (sym same) (record {
  number = number;
  line = stub.line;
  line_at = stub.line_at;
  listed = stub.listed;
  absent = absent;
  enters = λ e. (
    suc old.clock.beats,
    suc (suc (suc (suc old.clock.steps))),
    run e left (statements (stub_tree number) (env_at 1)) (finish ∷ Ret ∷ below e (drop 1 old.place.rest) old.place.depth old.frames) (entry_state e (state_of t.functions old.clock.beats old.clock.steps)),
    as_call e t old letter (suc (suc (suc (suc left)))) c (omega arith) ∙ call_stub e left letter (drop 1 old.place.rest) old.place.depth old.frames (state_of t.functions old.clock.beats old.clock.steps) number (Some (named.name ∷ [])) [] (stub_tree number) named.is,
  );
})

pub keeps_same : (t : Table) (old new : Machine) → new ≡ old → Keeps t old new
keeps_same t old new same = record { same = λ e folder file ag. ap (left_of e folder file t) same }

pub keeps_then : (t : Table) (a b c : Machine) → Keeps t a b → Keeps t b c → Keeps t a c
keeps_then t a b c h k = record { same = λ e folder file ag. k.same e folder file ag ∙ h.same e folder file ag }

ends_then : (t : Table) (a b c : Machine) (text : ℕ → List ℕ) (e : End) → Keeps t a b → Ends t b c text e → Ends t a c text e
ends_then t a b c text e h k entries folder file ag = sym (h.same entries folder file ag) ∙ k entries folder file ag

pub halts_then : (t : Table) (a b c : Machine) (h : Halt) → Keeps t a b → Halts t b c h → Halts t a c h
halts_then t a b c halt.Ended h k = ends_then t a b c ended_text end.Ended h k
halts_then t a b c halt.OutOfSteps h k = ends_then t a b c out_of_steps_text end.OutOfSteps h k
halts_then t a b c (halt.Needs place) h k = (keeps_then t a b c h k.0, k.1)

pub turned_on : (t : Table) (a b c : Machine) (o : Option Halt) → Keeps t a b → Turns t b c o → ((h : Halt) → o ≡ Some h → ⊥) → Keeps t a c
turned_on t a b c None h k n = keeps_then t a b c h k
turned_on t a b c (Some x) h k n = absurd (n x refl)

-- the lemmas of a return, of a need, and of the call of a stub whose cluster is here
pub ruleset leaving = (keeps_call_return, keeps_late_return, ends_script)

pub ruleset needing = (call_runs_out, needs_next, keeps_same)

pub ruleset calling_late = (keeps_late, call_runs_out, late_runs_out)

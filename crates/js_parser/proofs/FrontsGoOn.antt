-- Where the machine is stuck, or has no room, what is read is the front of a script.
use Rattle.std.proofs.Common.{◌≡◌, ◌⊎◌, inl, inr, ◌<◌, true, false, [], ◌∷◌, ◌++◌, length, refl, sym, subst, arith}
use Rattle.std.proofs.lemmas.List.{length-append}
use Rattle.js_tree.specs.Tree.{Stmts}
use Rattle.js_parser.specs.declared.form.Form.{Form}
use Rattle.js_parser.specs.Symbols.{Symbol, Symbols, are_regular}
use Rattle.js_parser.specs.Names.{key_of}
use Rattle.js_parser.specs.Accepted.{functions_in}
use Rattle.js_parser.specs.Rooms.{Room, unbounded}
use Rattle.js_parser.specs.Machine.{State, step, Goes, here, then_on, script}
use Rattle.js_parser.specs.Machine as mc
use Rattle.js_parser.proofs.Runs.{onwards}
use Rattle.js_parser.proofs.FrontsFinish.{no_oddity, Ending, any, all-any}
use Rattle.js_parser.proofs.FrontsFinishStatements.{sound-outermost, shuts}
use Rattle.js_parser.proofs.FrontsReady.{Front, Can, at_end, equal, stuck, deep, on, open-paren, paren, open-brace, brace}
use Rattle.js_parser.proofs.FrontsReady as re
use Rattle.js_parser.proofs.FrontsReadyExpressions.{comma-by, choice-by, tail-by, unary-by, postfix-by, operand-by, links-by, arguments-by, after-argument, elements-by, pairs-by, formals-by, one-formal-by, declarator-by, after-declarator, optional-by}
use Rattle.js_parser.proofs.FrontsReadyStatements.{statement-by, list-by, source-by, clauses-by, finished-good}

-- ---- a step

-- Where the other run goes while the real one takes a step: on beside it, or what is read may be finished.
pub record Along (h : Front) (s : State) (g : Symbols → State) : Type 0 where
  pub after : Symbols → State
  pub goes : (o : Symbols) → Goes h.form (g o) (after o)
  pub can : Can h s after

beside : {h : Front} {s : State} {g : Symbols → State} → Can h s (λ o. step h.form (g o)) → Along h s g ⊎ Ending h.form g
beside {h = h} {g = g} d = inl (record { after = λ o. step h.form (g o); goes = λ o. then_on here; can = d })

pub ending-moved : {form : Form} {f g : Symbols → State} → ((o : Symbols) → f o ≡ g o) → Ending form g → Ending form f
ending-moved {form = form} e d = record { more = d.more; plain = d.plain; tree = d.tree; run = subst (λ s. Goes form s (mc.done d.tree)) (sym (e d.more)) d.run }

along-moved : {h : Front} {s : State} {f g : Symbols → State} → ((o : Symbols) → f o ≡ g o) → Along h s g ⊎ Ending h.form g → Along h s f ⊎ Ending h.form f
along-moved {h = h} e (inl a) = inl (record { after = a.after; goes = λ o. subst (λ s. Goes h.form s (a.after o)) (sym (e o)) (a.goes o); can = a.can })
along-moved e (inr d) = inr (ending-moved e d)

pub advance : {h : Front} {s : State} {g : Symbols → State} → Can h s g → Along h (step h.form s) g ⊎ Ending h.form g
advance (at_end e) = inr e
advance (equal d e) = along-moved e (advance d)
advance {g = g} (stuck t r) = inl (record { after = g; goes = λ o. here; can = stuck t r })
advance {g = g} (deep t r) = inl (record { after = g; goes = λ o. here; can = deep t r })
advance (re.comma {room = room} t r d) = beside (on (re.assign-good room (λ x. re.comma-tail-good room d)) (t ∷ r))
advance (re.comma_tail {room = room} {i = i} {x = x} t r d) = beside ((comma-by {s = t} i t.kind room x d).takes r)
advance (re.assign {room = room} t r d) = beside (on (re.climb-good room (λ x. re.choice-good room d)) (t ∷ r))
advance (re.choice {room = room} {i = i} {x = x} t r d) = beside ((choice-by {s = t} i t.kind room x d).takes r)
advance (re.climb {room = room} t r d) = beside (on (re.unary-good room (λ x. re.tail-good room d)) (t ∷ r))
advance (re.tail {room = room} {i = i} {n = n} {x = x} t r d) = beside ((tail-by {s = t} (mc.operator_of t.kind) room i n x d).takes r)
advance (re.unary {room = room} t r d) = beside ((unary-by {s = t} (mc.prefix_of t.kind) room d).takes r)
advance (re.postfix {room = room} {x = x} t r d) = beside ((postfix-by {s = t} t.kind t.newline room x d).takes r)
advance {h = h} (re.operand {room = room} {i = i} t r d) = beside ((operand-by {s = t} i h.form refl t.kind room d).takes r)
advance {h = h} (re.links {room = room} {i = i} {x = x} t r d) = beside ((links-by {s = t} h.form refl t.kind room i x d).takes r)
advance (re.arguments {room = room} t r d) = beside ((arguments-by {s = t} t.kind room d).takes r)
advance (re.argument_list {room = room} t r d) = beside (on (re.assign-good room (λ x. after-argument room x d)) (t ∷ r))
advance (re.elements {room = room} t r d) = beside ((elements-by {s = t} t.kind room d).takes r)
advance {h = h} (re.pairs {room = room} t r d) = beside ((pairs-by {s = t} (key_of h.form t.kind) room d).takes r)
advance {h = h} (re.rest {room = room} t r d) =
    beside (on (open-paren {a = any} refl (re.formals-good {ns = []} refl (λ ns. paren refl (open-brace {a = any} refl (re.source-good {good = any} room (all-any shuts) (sound-outermost h.form true) (λ body. brace refl (d ns body))))))) (t ∷ r))
advance {h = h} (re.formals {ns = ns} t r e d) = beside ((formals-by {s = t} h.form t.kind ns d).takes r)
advance {h = h} (re.formal {ns = ns} t r e d) = beside ((one-formal-by {s = t} h.form t.kind ns d).takes r)
advance {h = h} (re.declarator {room = room} {i = i} t r d) = beside ((declarator-by {s = t} i h.form t.kind room d).takes r)
advance (re.declarators {room = room} {i = i} t r d) = beside (on (re.declarator-good room (λ n value. after-declarator i room n value d)) (t ∷ r))
advance (re.optional {room = room} t r d) = beside ((optional-by {s = t} t.kind room d).takes r)
advance (re.statement {room = room} {c = c} t r z d) = beside ((statement-by {s = t} room c z t.kind refl d).takes r)
advance (re.list {room = room} {c = c} t r z d) = beside ((list-by {s = t} room c z t.kind d).takes r)
advance (re.source {room = room} {c = c} t r z d) = beside ((source-by {s = t} room c z t.kind d).takes r)
advance (re.clauses {room = room} {c = c} {i = may} t r z d) = beside ((clauses-by {s = t} room c z may t.kind d).takes r)

-- ---- a run

-- where the real run ends with more left than stands behind what is read, or what is read may be finished
Verdict : Front → State → (Symbols → State) → Type 0
Verdict h (mc.stuck left) g = Ending h.form g ⊎ (length h.rest < length left)
Verdict h (mc.deep left) g = Ending h.form g ⊎ (length h.rest < length left)
Verdict h _ g = Unit {0}

given : (h : Front) {g : Symbols → State} → (s : State) → Ending h.form g → Verdict h s g
unfolding Verdict
given h (mc.stuck left) e = inl e
given h (mc.deep left) e = inl e
given h _ e = tt

either-moved : {form : Form} {A : Type 0} {f g : Symbols → State} → ((o : Symbols) → f o ≡ g o) → Ending form g ⊎ A → Ending form f ⊎ A
either-moved e (inl d) = inl (ending-moved e d)
either-moved e (inr l) = inr l

moved : (h : Front) {f g : Symbols → State} → (s : State) → ((o : Symbols) → f o ≡ g o) → Verdict h s g → Verdict h s f
unfolding Verdict
moved h (mc.stuck left) e v = either-moved e v
moved h (mc.deep left) e v = either-moved e v
moved h _ e v = tt

longer : (t : Symbol) (r rest : Symbols) → length rest < length (t ∷ (r ++ rest))
longer t r rest = let e = length-append r rest in omega (arith, e)

verdict : {h : Front} {s : State} {g : Symbols → State} → Can h s g → Verdict h s g
unfolding Verdict
verdict {h = h} (at_end {s = s} e) = given h s e
verdict {h = h} (equal {s = s} d e) = moved h s e (verdict d)
verdict {h = h} (stuck t r) = inr (longer t r h.rest)
verdict {h = h} (deep t r) = inr (longer t r h.rest)
verdict _ = tt

read-all : (h : Front) {g : Symbols → State} → (Ending h.form g ⊎ (length h.rest < length h.rest)) → Ending h.form g
read-all h (inl e) = e
read-all h (inr l) = absurd (omega (arith, l))

at-last : {h : Front} {s : State} {g : Symbols → State} → Can h s g → (s ≡ mc.stuck h.rest) ⊎ (s ≡ mc.deep h.rest) → Ending h.form g
unfolding Verdict
at-last {h = h} {g = g} d (inl e) = read-all h (subst (λ s. Verdict h s g) e (verdict d))
at-last {h = h} {g = g} d (inr e) = read-all h (subst (λ s. Verdict h s g) e (verdict d))

pub onwards-ending : {h : Front} {s : State} {g : Symbols → State} → ((f : Symbols → State) → Can h s f → Ending h.form f) → Along h s g ⊎ Ending h.form g → Ending h.form g
onwards-ending k (inl a) = let d = k a.after a.can in record { more = d.more; plain = d.plain; tree = d.tree; run = onwards (a.goes d.more) d.run }
onwards-ending k (inr d) = d

finishes : {h : Front} {s u : State} {g : Symbols → State} → Goes h.form s u → Can h s g → (u ≡ mc.stuck h.rest) ⊎ (u ≡ mc.deep h.rest) → Ending h.form g
finishes here d e = at-last d e
finishes (then_on run) d e = onwards-ending (λ f c. finishes run c e) (advance d)

pub start : (h : Front) (room : Room) (used : Symbols) → Can h (script room (used ++ h.rest)) (λ o. script unbounded (used ++ o))
start h room used = on (re.source-good {good = any} room (all-any shuts) (sound-outermost h.form false) (λ ss. finished-good ss)) used

-- What is read where the machine is stuck, or has no room, is the front of a script, to which no function needs to be added.
pub can_go_on : (form : Form) (room : Room) (used rest : Symbols) (end : State) → Goes form (script room (used ++ rest)) end → (end ≡ mc.stuck rest) ⊎ (end ≡ mc.deep rest)
    → (more : Symbols) × (tree : Stmts) × (functions_in more ≡ 0) × (are_regular more ≡ true) × Goes form (script unbounded (used ++ more)) (mc.done tree)
can_go_on form room used rest end run e = let d = finishes run (start (record { form = form; rest = rest }) room used) e in let plain = no_oddity d.more d.plain in (d.more, d.tree, plain.0, plain.1, d.run)

pub goes_on_where_stuck : (form : Form) (room : Room) (used rest : Symbols) → Goes form (script room (used ++ rest)) (mc.stuck rest)
    → (more : Symbols) × (tree : Stmts) × (functions_in more ≡ 0) × (are_regular more ≡ true) × Goes form (script unbounded (used ++ more)) (mc.done tree)
goes_on_where_stuck form room used rest run = can_go_on form room used rest (mc.stuck rest) run (inl refl)

pub goes_on_where_deep : (form : Form) (room : Room) (used rest : Symbols) → Goes form (script room (used ++ rest)) (mc.deep rest)
    → (more : Symbols) × (tree : Stmts) × (functions_in more ≡ 0) × (are_regular more ≡ true) × Goes form (script unbounded (used ++ more)) (mc.done tree)
goes_on_where_deep form room used rest run = can_go_on form room used rest (mc.deep rest) run (inr refl)

-- Where the machine is stuck, or has no room, it is so whatever stands behind.
use Rattle.std.proofs.Common.{◌≡◌, ◌⊎◌, inl, inr, ◌≤◌, ◌<◌, Bool, true, false, [], ◌∷◌, ◌++◌, Some, length, refl, ap, sym, ◌∙◌, subst, arith}
use Rattle.std.proofs.lemmas.List.{append_assoc, append_cancel_right}
use Rattle.js_tree.specs.Tree.{Stmts}
use Rattle.js_parser.specs.declared.form.Form.{Form}
use Rattle.js_lexer.specs.declared.mark.Mark.TheVariants as m
use Rattle.js_parser.specs.Symbols.{Symbol, Symbols, name, mark, end}
use Rattle.js_parser.proofs.Runs.{one_end, runs}
use Rattle.js_parser.specs.Names.{key_of}
use Rattle.js_parser.specs.Rooms.{Room, unbounded}
use Rattle.js_parser.specs.Machine.{State, step, Goes, here, then_on, script}
use Rattle.js_parser.specs.Machine as mc
use Rattle.js_parser.proofs.FrontsAlike.{Hole, At, within, behind, Took, took_within, took_behind, Rooms, same_room, no_limit, Alike, done, stuck, deep, lost, unfit, gone, later, on, reading, at-end}
use Rattle.js_parser.proofs.FrontsAlike as al
use Rattle.js_parser.proofs.FrontsStarved.{Never, colon_first}
use Rattle.js_parser.proofs.FrontsExpressions.{comma-by, choice-by, tail-by, unary-by, postfix-by, operand-by, links-by, arguments-by, after-argument, elements-by, pairs-by, formals-by, one-formal-by, declarator-by, after-declarator, optional-by, expects}
use Rattle.js_parser.proofs.FrontsStatements.{statement-by, list-by, source-by, clauses-by, finished-alike}

-- ---- a step

-- a state that looks at the first of its tokens
looks : {h : Hole} {m : Bool} {ts o : Symbols} (f g : Symbols → State) → Alike h false (step h.form (f [])) (step h.form (g []))
    → ((s : Symbol) → al.Taken h s (λ ts. step h.form (f (s ∷ ts))) (λ ts. step h.form (g (s ∷ ts)))) → At h m ts o → Alike h m (step h.form (f ts)) (step h.form (g o))
looks {h = h} f g none some a = on (reading (λ ts. step h.form (f ts)) (λ ts. step h.form (g ts)) none some) a

-- both go on alike
pub stepped-alike : {h : Hole} {m : Bool} {s t : State} → Alike h m s t → Alike h m (step h.form s) (step h.form t)
stepped-alike done = done
stepped-alike (stuck a) = stuck a
stepped-alike (deep a) = deep a
stepped-alike (lost i) = lost i
stepped-alike (unfit e i j n) = unfit e i j (λ tree d. n tree (then_on d))
stepped-alike (gone a) = gone (stepped-alike a)
stepped-alike (later a) = gone a
stepped-alike (al.comma r a d) = on (al.assign-alike r (λ x. al.comma-tail-alike r d)) a
stepped-alike (al.comma_tail {room = room} {free = free} {i = i} {x = x} {next = next} {on = also} r a d) =
    looks (mc.comma_tail room i x next) (mc.comma_tail free i x also) (on (d x) at-end) (λ s. comma-by i s.kind r x d) a
stepped-alike (al.assign r a d) = on (al.climb-alike r (λ x. al.choice-alike r d)) a
stepped-alike (al.choice {room = room} {free = free} {i = i} {x = x} {next = next} {on = also} r a d) =
    looks (mc.choice room i x next) (mc.choice free i x also) (on (d x) at-end) (λ s. choice-by i s.kind r x d) a
stepped-alike (al.climb r a d) = on (al.unary-alike r (λ x. al.tail-alike r d)) a
stepped-alike (al.tail {room = room} {free = free} {i = i} {n = n} {x = x} {next = next} {on = also} r a d) =
    looks (mc.tail room i n x next) (mc.tail free i n x also) (on (d x) at-end) (λ s. tail-by (mc.operator_of s.kind) r i n x d) a
stepped-alike (al.unary {room = room} {free = free} {next = next} {on = also} r a d) = looks (mc.unary room next) (mc.unary free also) (stuck at-end) (λ s. unary-by (mc.prefix_of s.kind) r d) a
stepped-alike (al.postfix {room = room} {free = free} {x = x} {next = next} {on = also} r a d) =
    looks (mc.postfix room x next) (mc.postfix free x also) (on (d x) at-end) (λ s. postfix-by s.kind s.newline r x d) a
stepped-alike {h = h} (al.operand {room = room} {free = free} {i = i} {next = next} {on = also} r a d) =
    looks (mc.operand room i next) (mc.operand free i also) (stuck at-end) (λ s. operand-by i h.form s.kind r d) a
stepped-alike {h = h} (al.links {room = room} {free = free} {i = i} {x = x} {next = next} {on = also} r a d) =
    looks (mc.links room i x next) (mc.links free i x also) (on (d x) at-end) (λ s. links-by h.form s.kind r i x d) a
stepped-alike (al.arguments {room = room} {free = free} {next = next} {on = also} r a d) = looks (mc.arguments room next) (mc.arguments free also) (stuck at-end) (λ s. arguments-by s.kind r d) a
stepped-alike (al.argument_list r a d) = on (al.assign-alike r (λ x. after-argument r x d)) a
stepped-alike (al.elements {room = room} {free = free} {next = next} {on = also} r a d) = looks (mc.elements room next) (mc.elements free also) (stuck at-end) (λ s. elements-by s.kind r d) a
stepped-alike {h = h} (al.pairs {room = room} {free = free} {next = next} {on = also} r a d) =
    looks (mc.pairs room next) (mc.pairs free also) (stuck at-end) (λ s. pairs-by (key_of h.form s.kind) r d) a
stepped-alike (al.rest r a d) =
    on (expects mc.is_open_parenthesis (al.formals-alike (λ ns. expects mc.is_close_parenthesis (expects mc.is_open_brace (al.source-alike r (λ body. expects mc.is_close_brace (d ns body))))))) a
stepped-alike {h = h} (al.formals {ns = ns} {next = next} {on = also} a d) = looks (mc.formals ns next) (mc.formals ns also) (stuck at-end) (λ s. formals-by h.form s.kind ns d) a
stepped-alike {h = h} (al.formal {ns = ns} {next = next} {on = also} a d) = looks (mc.formal ns next) (mc.formal ns also) (stuck at-end) (λ s. one-formal-by h.form s.kind ns d) a
stepped-alike {h = h} (al.declarator {room = room} {free = free} {i = i} {next = next} {on = also} r a d) =
    looks (mc.declarator room i next) (mc.declarator free i also) (stuck at-end) (λ s. declarator-by i h.form s.kind r d) a
stepped-alike (al.declarators {i = i} r a d) = on (al.declarator-alike r (λ n value. after-declarator i r n value d)) a
stepped-alike (al.optional {room = room} {free = free} {next = next} {on = also} r a d) = looks (mc.optional room next) (mc.optional free also) (stuck at-end) (λ s. optional-by s.kind r d) a
stepped-alike (al.statement {room = room} {free = free} {c = c} {next = next} {on = also} r a d) =
    looks (mc.statement room c next) (mc.statement free c also) (stuck at-end) (λ s. statement-by r c s.kind refl d) a
stepped-alike (al.list {room = room} {free = free} {c = c} {next = next} {on = also} r a d) = looks (mc.list room c next) (mc.list free c also) (on (d _) at-end) (λ s. list-by r c s.kind d) a
stepped-alike {h = h} (al.source {room = room} {free = free} {c = c} {next = next} {on = also} r a d) =
    looks (mc.source room c next) (mc.source free c also) (on (d _) at-end) (λ s. source-by h.form r c s.kind d) a
stepped-alike (al.clauses {room = room} {free = free} {c = c} {i = may} {next = next} {on = also} r a d) =
    looks (mc.clauses room c may next) (mc.clauses free c may also) (on (d _) at-end) (λ s. clauses-by r c may s.kind d) a

-- ---- a run

-- where the other run is when the real one is at a state
pub record Beside (h : Hole) (s t : State) : Type 0 where
  pub place : State
  pub mode : Bool
  pub reached : Goes h.form t place
  pub alike : Alike h mode s place

pub run-alike : {h : Hole} {m : Bool} {s t u : State} → Goes h.form s u → Alike h m s t → Beside h u t
run-alike {t = t} here a = record { place = t; mode = _; reached = here; alike = a }
run-alike {h = h} (then_on d) a = let b = run-alike d (stepped-alike a) in record { place = b.place; mode = b.mode; reached = then_on b.reached; alike = b.alike }

-- what is known where the real run is stuck, or has no room: it is in step with the other, or it is behind the front
Alone : Hole → State → Type 0
Alone h (mc.stuck left) = length left ≤ length h.rest
Alone h (mc.deep left) = (length left < length h.rest) ⊎ (h.same ≡ false)
Alone h _ = Unit {0}

-- or the other run has no end in a script
Unfit : Hole → State → Type 0
Unfit h t = (h.same ≡ true) × (colon_first h.rest ≡ false) × (colon_first h.other ≡ true) × Never h.form t

Verdict : Hole → State → State → Type 0
Verdict h (mc.stuck left) t = ((o : Symbols) × At h true left o × (t ≡ mc.stuck o)) ⊎ ((length left ≤ length h.rest) ⊎ Unfit h t)
Verdict h (mc.deep left) t = ((o : Symbols) × Took h true left o × (t ≡ mc.deep o)) ⊎ (((length left < length h.rest) ⊎ (h.same ≡ false)) ⊎ Unfit h t)
Verdict h _ t = Unit {0}

back : (h : Hole) (s : State) → Alone h (step h.form s) → Alone h s
unfolding Alone
back h (mc.stuck left) a = a
back h (mc.deep left) a = a
back h _ a = tt

apart : (h : Hole) (s t : State) → Alone h s → Verdict h s t
unfolding Alone Verdict
apart h (mc.stuck left) t a = inr (inl a)
apart h (mc.deep left) t a = inr (inl a)
apart h _ t a = tt

unfitting : (h : Hole) (s t : State) → Unfit h t → Verdict h s t
unfolding Verdict
unfitting h (mc.stuck left) t u = inr (inr u)
unfitting h (mc.deep left) t u = inr (inr u)
unfitting h _ t u = tt

alone : {h : Hole} {m : Bool} {s t : State} → Alike h m s t → m ≡ false → Alone h s
unfolding Alone
alone (stuck (within r)) e = absurd cc
alone (stuck (behind l)) e = l
alone (deep (took_within r)) e = absurd cc
alone (deep (took_behind l)) e = inl l
alone (lost i) e = inr i
alone (unfit a i j n) e = absurd cc
alone (gone {s = s} a) e = alone a refl
alone {h = h} (later {s = s} a) e = back h s (alone a refl)
alone _ e = tt

verdict : {h : Hole} {m : Bool} {s t : State} → Alike h m s t → Verdict h s t
unfolding Verdict Unfit
verdict (stuck (within r)) = inl (_, within r, refl)
verdict (stuck (behind l)) = inr (inl l)
verdict (deep (took_within r)) = inl (_, took_within r, refl)
verdict (deep (took_behind l)) = inr (inl (inl l))
verdict (lost i) = inr (inl (inr i))
verdict {h = h} (unfit {s = s} {t = t} e i j n) = unfitting h s t (e, i, j, n)
verdict {h = h} (gone {s = s} {o = o} a) = apart h s o (alone a refl)
verdict {h = h} (later {s = s} {t = t} a) = apart h s t (back h s (alone a refl))
verdict _ = tt

at-is : {h : Hole} {m : Bool} {ts o : Symbols} → At h m ts o → m ≡ true → (r : Symbols) × (ts ≡ r ++ h.rest) × (o ≡ r ++ h.other)
at-is (within r) e = (r, refl, refl)
at-is (behind l) e = absurd cc

took-is : {h : Hole} {m : Bool} {ts o : Symbols} → Took h m ts o → m ≡ true → (r : Symbols) × (ts ≡ r ++ h.rest) × (o ≡ r ++ h.other)
took-is (took_within r) e = (r, refl, refl)
took-is (took_behind l) e = absurd cc

-- the whole script
start : (h : Hole) (room free : Room) (used : Symbols) → Rooms h room free → Alike h true (script room (used ++ h.rest)) (script free (used ++ h.other))
start h room free used r = al.source r (within used) (λ ss. finished-alike ss)

-- with the same rooms, or without limits
stuck-in : (form : Form) (room free : Room) (used : Symbols) (t : Symbol) (rest other : Symbols) → Rooms (record { form = form; same = false; rest = rest; other = other }) room free
    → Goes form (script room (used ++ (t ∷ rest))) (mc.stuck (t ∷ rest)) → Goes form (script free (used ++ (t ∷ other))) (mc.stuck (t ∷ other))
unfolding Verdict Unfit
stuck-in form room free used t rest other rooms d =
    subst (λ ts. Goes form (script free ts) (mc.stuck (t ∷ other))) (append_assoc used (t ∷ []) other)
    (told (run-alike (subst (λ ts. Goes form (script room ts) (mc.stuck (t ∷ rest))) (sym (append_assoc used (t ∷ []) rest)) d) (start h room free (used ++ (t ∷ [])) rooms)))
  where
    h : Hole
    h = record { form = form; same = false; rest = rest; other = other }

    by : (s : State) → Verdict h (mc.stuck (t ∷ rest)) s → s ≡ mc.stuck (t ∷ other)
    by s (inl v) = let is = at-is v.1 refl in v.2 ∙ ap mc.stuck (is.2 ∙ ap (λ r. r ++ other) (append_cancel_right is.0 (t ∷ []) rest (sym is.1)))
    by s (inr (inl l)) = absurd (omega arith)
    by s (inr (inr u)) = let e = u.0 in absurd cc

    told : Beside h (mc.stuck (t ∷ rest)) (script free ((used ++ (t ∷ [])) ++ other)) → Goes form (script free ((used ++ (t ∷ [])) ++ other)) (mc.stuck (t ∷ other))
    told b = subst (λ s. Goes form (script free ((used ++ (t ∷ [])) ++ other)) s) (by b.place (verdict b.alike)) b.reached

-- The machine is stuck at a token whatever stands behind it, and without limits too.
pub stays_stuck : (form : Form) (room : Room) (used : Symbols) (t : Symbol) (rest : Symbols) → Goes form (script room (used ++ (t ∷ rest))) (mc.stuck (t ∷ rest))
    → (other : Symbols) → Goes form (script unbounded (used ++ (t ∷ other))) (mc.stuck (t ∷ other))
stays_stuck form room used t rest d other = stuck-in form room unbounded used t rest other (no_limit refl) d

-- and with the same limits
pub stays_stuck_there : (form : Form) (room : Room) (used : Symbols) (t : Symbol) (rest : Symbols) → Goes form (script room (used ++ (t ∷ rest))) (mc.stuck (t ∷ rest))
    → (other : Symbols) → Goes form (script room (used ++ (t ∷ other))) (mc.stuck (t ∷ other))
stays_stuck_there form room used t rest d other = stuck-in form room room used t rest other same_room d

-- Where there is no room behind these tokens there is none whatever comes, but that a name may become a label by a colon.
pub stays_deep : (form : Form) (room : Room) (used rest : Symbols) → Goes form (script room (used ++ rest)) (mc.deep rest)
    → (other : Symbols) → colon_first rest ≡ colon_first other → Goes form (script room (used ++ other)) (mc.deep other)
unfolding Verdict Unfit
stays_deep form room used rest d other colons = told (run-alike d (start h room room used same_room))
  where
    h : Hole
    h = record { form = form; same = true; rest = rest; other = other }

    by : (s : State) → Verdict h (mc.deep rest) s → s ≡ mc.deep other
    by s (inl v) = let is = took-is v.1 refl in v.2 ∙ ap mc.deep (is.2 ∙ ap (λ r. r ++ other) (append_cancel_right is.0 [] rest (sym is.1)))
    by s (inr (inl (inl l))) = absurd (omega arith)
    by s (inr (inl (inr i))) = absurd cc
    by s (inr (inr u)) = let e = u.1 in let i = u.2 in absurd cc

    told : Beside h (mc.deep rest) (script room (used ++ other)) → Goes form (script room (used ++ other)) (mc.deep other)
    told b = subst (λ s. Goes form (script room (used ++ other)) s) (by b.place (verdict b.alike)) b.reached

-- the same before the token that comes next
pub stays_deep_before : (form : Form) (room : Room) (used : Symbols) (t : Symbol) (rest : Symbols) → Goes form (script room (used ++ (t ∷ rest))) (mc.deep (t ∷ rest))
    → (other : Symbols) → Goes form (script room (used ++ (t ∷ other))) (mc.deep (t ∷ other))
stays_deep_before form room used t rest d other = stays_deep form room used (t ∷ rest) d (t ∷ other) refl

-- what comes of a state that is reached on the way to an end
ahead : {form : Form} {s t u : State} → step form u ≡ u → Goes form s t → Goes form s u → Goes form t u
ahead e here d = d
ahead {form = form} {u = u} e (then_on a) here = ahead e a (subst (λ s. Goes form s u) (sym e) here)
ahead e (then_on a) (then_on d) = ahead e a d

-- Where there is no room behind these tokens, no list that begins with them is a script within the limits.
pub no_script_where_deep : (form : Form) (room : Room) (used rest : Symbols) → Goes form (script room (used ++ rest)) (mc.deep rest)
    → (other : Symbols) (tree : Stmts) → Goes form (script room (used ++ other)) (mc.done tree) → ⊥
unfolding Verdict Unfit
no_script_where_deep form room used rest d other tree f = told (run-alike d (start h room room used same_room))
  where
    h : Hole
    h = record { form = form; same = true; rest = rest; other = other }

    by : (s : State) → Verdict h (mc.deep rest) s → Goes form s (mc.done tree) → ⊥
    by s (inl v) d = let e = one_end {form = form} {s = mc.deep v.0} {t = mc.deep v.0} {o = mc.done tree} refl refl here (subst (λ s. Goes form s (mc.done tree)) v.2 d) in absurd cc
    by s (inr (inl (inl l))) d = absurd (omega (arith, l))
    by s (inr (inl (inr i))) d = absurd cc
    by s (inr (inr u)) d = u.3 tree d

    told : Beside h (mc.deep rest) (script room (used ++ other)) → ⊥
    told b = by b.place (verdict b.alike) (ahead refl b.reached f)

-- Where the machine is stuck at a token, no list that begins with what is read and this token is a script.
pub no_script_where_stuck : (form : Form) (room : Room) (used : Symbols) (t : Symbol) (rest : Symbols) → Goes form (script room (used ++ (t ∷ rest))) (mc.stuck (t ∷ rest))
    → (other : Symbols) (tree : Stmts) → Goes form (script unbounded (used ++ (t ∷ other))) (mc.done tree) → ⊥
no_script_where_stuck form room used t rest d other tree f =
    let e = one_end {form = form} {t = mc.stuck (t ∷ other)} {o = mc.done tree} refl refl (stays_stuck form room used t rest d other) f in absurd cc

-- A colon behind a name moves the place: in the least room `a` has none, and `a:` only a statement behind it.
abbrev one : Room
one = record { depth = Some 1; nesting = Some 1 }

pub deep_at_a_name : (form : Form) (n : Bool) → Goes form (script one (name (98 ∷ []) n ∷ mark m.Semicolon n ∷ end n ∷ [])) (mc.deep (mark m.Semicolon n ∷ end n ∷ []))
deep_at_a_name form n = runs form 8 (script one (name (98 ∷ []) n ∷ mark m.Semicolon n ∷ end n ∷ []))

pub deep_behind_a_label : (form : Form) (n : Bool) → Goes form (script one (name (98 ∷ []) n ∷ mark m.Colon n ∷ mark m.Semicolon n ∷ end n ∷ [])) (mc.deep (end n ∷ []))
deep_behind_a_label form n = runs form 4 (script one (name (98 ∷ []) n ∷ mark m.Colon n ∷ mark m.Semicolon n ∷ end n ∷ []))

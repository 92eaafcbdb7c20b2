-- Runs of the machine that reads a script.
use Rattle.std.proofs.Common.{◌≡◌, ℕ, zero, suc, Bool, true, refl, ap, sym, ◌∙◌, subst}
use Rattle.js_parser.specs.declared.form.Form.{Form}
use Rattle.js_parser.specs.Symbols.{Symbols}
use Rattle.js_parser.specs.Machine.{State, guard, fitting, step, Goes, here, then_on, run}

pub onwards : {form : Form} {s t o : State} → Goes form s t → Goes form t o → Goes form s o
onwards here h = h
onwards (then_on d) h = then_on (onwards d h)

-- a step that computes to another state
pub stepped : {form : Form} {s t o : State} → step form s ≡ t → Goes form t o → Goes form s o
stepped {form = form} {o = o} e d = then_on (subst (λ t. Goes form t o) (sym e) d)

-- where a condition holds
pub allowed : {form : Form} {a : Bool} {s t : State} (left : Symbols) → a ≡ true → Goes form s t → Goes form (guard a left s) t
allowed {form = form} {s = s} {t = t} left h d = subst (λ a. Goes form (guard a left s) t) (sym h) d

-- where there is room
pub fitted : {form : Form} {a : Bool} {s t : State} (left : Symbols) → a ≡ true → Goes form s t → Goes form (fitting a left s) t
fitted {form = form} {s = s} {t = t} left h d = subst (λ a. Goes form (fitting a left s) t) (sym h) d

stays : {form : Form} {s t o : State} → s ≡ t → step form t ≡ t → Goes form s o → t ≡ o
stays e f here = sym e
stays {form = form} e f (then_on d) = stays (ap (step form) e ∙ f) f d

-- a run has one end
pub one_end : {form : Form} {s t o : State} → step form t ≡ t → step form o ≡ o → Goes form s t → Goes form s o → t ≡ o
one_end f h here e = stays refl f e
one_end f h (then_on d) here = sym (stays refl h (then_on d))
one_end f h (then_on d) (then_on e) = one_end f h d e

pub runs : (form : Form) (n : ℕ) (s : State) → Goes form s (run form n s)
runs form zero s = here
runs form (suc n) s = then_on (runs form n (step form s))

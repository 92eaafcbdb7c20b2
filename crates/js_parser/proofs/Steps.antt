-- How runs of the machine are put together where the parser's rules call one another.
use Rattle.std.proofs.Common.{◌≡◌, Bool, true, false, Result, Ok, Err, [], ◌∷◌, sym, subst}
use Rattle.js_parser.specs.declared.form.Form.{Form}
use Rattle.js_parser.specs.declared.stop.Stop.{Stop}
use Rattle.js_parser.specs.declared.stop.Stop.TheVariants.{Broken, Deep, OutOfMemory}
use Rattle.js_lexer.specs.declared.token.TokenKind.{TokenKind}
use Rattle.js_parser.specs.Symbols.{Symbols, behind}
use Rattle.js_parser.specs.Machine.{State, To, stuck, deep, guard, fitting, expect, Goes, here}
use Rattle.js_parser.specs.Reads.{Comes, goes_on, is_stuck, has_no_room, is_unknown, Makes, at}
use Rattle.js_parser.proofs.Runs.{onwards, allowed}

-- behind a run
pub after : {A : Type 0} {form : Form} {s t : State} {on : A → State} {left : Symbols} {r : Result A Stop} → Goes form s t → Comes form t on left r → Comes form s on left r
after d (goes_on e) = goes_on (onwards d e)
after d (is_stuck e) = is_stuck (onwards d e)
after d (has_no_room e) = has_no_room (onwards d e)
after d is_unknown = is_unknown

-- where a value came of it
pub came : {A : Type 0} {form : Form} {s : State} {on : A → State} {left : Symbols} {a : A} → Comes form s on left (Ok a) → Goes form s (on a)
came (goes_on d) = d

-- where a refusal came of it
pub went_stuck : {A : Type 0} {form : Form} {s : State} {on : A → State} {left : Symbols} → Comes form s on left (Err Broken) → Goes form s (stuck left)
went_stuck (is_stuck d) = d

pub went_deep : {A : Type 0} {form : Form} {s : State} {on : A → State} {left : Symbols} → Comes form s on left (Err Deep) → Goes form s (deep left)
went_deep (has_no_room d) = d

-- a refusal is one whatever would come of what is read
pub refused : {A B : Type 0} {form : Form} {s : State} {on : A → State} {other : B → State} {left : Symbols} {e : Stop} → Comes form s on left (Err e) → Comes form s other left (Err e)
refused (is_stuck d) = is_stuck d
refused (has_no_room d) = has_no_room d
refused is_unknown = is_unknown

-- the same, handed on by a `?`
pub handed : {A B : Type 0} {form : Form} {s : State} {on : A → State} {other : B → State} {left : Symbols} {e : Stop} {r : Result B Stop} → (y : Stop) × (r ≡ Err y) × (y ≡ e) → Comes form s on left (Err e) → Comes form s other left r
handed {form = form} {s = s} {on = on} {other = other} {left = left} h d =
    subst (λ r. Comes form s other left r) (sym h.1) (refused (subst (λ e. Comes form s on left (Err e)) (sym h.2) d))

-- where memory fails
pub out_of_memory : {A : Type 0} {form : Form} {s : State} {on : A → State} {left : Symbols} {e : Stop} → e ≡ OutOfMemory → Comes form s on left (Err e)
out_of_memory {form = form} {s = s} {on = on} {left = left} h = subst (λ e. Comes form s on left (Err e)) (sym h) is_unknown

-- a value that is made at the end
pub made : {A X : Type 0} {form : Form} {s : State} (view : A → X) (next : To X) (x : X) (left : Symbols) (r : Result A Stop) → Makes view x r → Goes form s (next x left) → Comes form s (λ a. next (view a) left) left r
made {form = form} {s = s} view next x left (Ok a) is d = goes_on (subst (λ y. Goes form s (next y left)) (sym is) d)
made view next x left (Err Broken) is d = cc
made view next x left (Err Deep) is d = cc
made view next x left (Err OutOfMemory) is d = is_unknown

-- where there is no room
pub no_room : {A : Type 0} {form : Form} {a : Bool} {left : Symbols} {on : A → State} (s : State) → a ≡ false → Comes form (fitting a left s) on left (Err Deep)
no_room {form = form} {left = left} s h = has_no_room (subst (λ a. Goes form (fitting a left s) (deep left)) (sym h) here)

-- where the token may not stand
pub barred : {A : Type 0} {form : Form} {a : Bool} {left : Symbols} {on : A → State} (s : State) → a ≡ false → Comes form (guard a left s) on left (Err Broken)
barred {form = form} {left = left} s h = is_stuck (subst (λ a. Goes form (guard a left s) (stuck left)) (sym h) here)

-- ---- one token

pub passed : {form : Form} (test : TokenKind → Bool) (is : Bool) (old : Symbols) → is ≡ true → is ≡ at test old → (next : Symbols → State) → Goes form (expect test next old) (next (behind old))
passed test false old a h next = cc
passed test true [] a h next = cc
passed {form = form} test true (s ∷ ts) a h next = allowed (s ∷ ts) (sym h) here

pub not_passed : {form : Form} (test : TokenKind → Bool) (is : Bool) (old : Symbols) → is ≡ false → is ≡ at test old → (next : Symbols → State) → Goes form (expect test next old) (stuck old)
not_passed test true old a h next = cc
not_passed test false [] a h next = here
not_passed {form = form} test false (s ∷ ts) a h next = subst (λ a. Goes form (guard a (s ∷ ts) (next ts)) (stuck (s ∷ ts))) h here

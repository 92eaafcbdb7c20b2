-- What a rule of the parser gives, as a run of the machine that reads scripts.
use Rattle.std.specs.Prelude.{◌≡◌, Bool, false, [], ◌∷◌, Result, Ok, Err}
use Rattle.js_lexer.specs.declared.token.TokenKind.{TokenKind}
use Rattle.js_parser.specs.declared.form.Form.{Form}
use Rattle.js_parser.specs.declared.stop.Stop.{Stop}
use Rattle.js_parser.specs.declared.stop.Stop.TheVariants.{Broken, Deep, OutOfMemory}
use Rattle.js_parser.specs.Symbols.{Symbols}
use Rattle.js_parser.specs.Machine.{State, To, stuck, deep, Goes}

-- From this state the machine comes to what the result says, with these symbols left: on with a
-- value, stuck, or where there is no room. Nothing is said where memory fails.
pub data Comes {A : Type 0} (form : Form) (s : State) (on : A → State) (left : Symbols)
    : Result A Stop → Type 0 where
  goes_on : {a : A} → Goes form s (on a) → Comes form s on left (Ok a)
  is_stuck : Goes form s (stuck left) → Comes form s on left (Err Broken)
  has_no_room : Goes form s (deep left) → Comes form s on left (Err Deep)
  is_unknown : Comes form s on left (Err OutOfMemory)

-- The rule, whatever comes of what it reads, goes from the old symbols to the new ones.
abbrev pub Reads
    : {A X : Type 0} → Form → (A → X) → (To X → Symbols → State) → Result A Stop → Symbols
    → Symbols → Type 0
Reads {X = X} form view rule result old new =
    (next : To X) → Comes form (rule next old) (λ a. next (view a) new) new result

-- The same of a rule that reads what no value comes of.
abbrev pub Passes
    : Form → ((Symbols → State) → Symbols → State) → Result (Unit {0}) Stop → Symbols → Symbols
    → Type 0
Passes form rule result old new =
    (next : Symbols → State) → Comes form (rule next old) (λ u. next new) new result

-- a value made of what was read
abbrev pub Makes : {A X : Type 0} → (A → X) → X → Result A Stop → Type 0
Makes view x (Ok a) = view a ≡ x
Makes view x (Err e) = e ≡ OutOfMemory

-- the first symbol is one of these
abbrev pub at : (TokenKind → Bool) → Symbols → Bool
at test [] = false
at test (s ∷ ss) = test s.kind

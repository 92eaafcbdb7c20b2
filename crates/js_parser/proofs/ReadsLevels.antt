-- What is read of an expression of a level, where there is room for it.
use Rattle.std.proofs.Common.{◌≡◌, ℕ, suc, ◌≤◌, ◌<◌, ◌⊎◌, inl, inr, Bool, true, false, ◌++◌, refl, ap, sym, subst, arith, lit≤}
use Rattle.std.proofs.lemmas.List.{append_assoc}
use Rattle.js_tree.specs.Tree.{Expr}
use Rattle.js_parser.specs.declared.form.Form.{Form}
use Rattle.js_parser.specs.Symbols.{Symbols}
use Rattle.js_tree.specs.Levels.{Operator, level}
use Rattle.js_parser.specs.Ends.{ends_changed, kind_reach}
use Rattle.js_parser.specs.Rooms.{Room}
use Rattle.js_parser.specs.Machine.{State, comma, comma_tail, assign, choice, climb, tail, unary, postfix, operand, links, To, unary_by, Goes, then_on}
use Rattle.js_parser.proofs.EndTokens.{Starts, begins_operand}
use Rattle.js_parser.proofs.Runs.{onwards, stepped}
use Rattle.js_parser.proofs.Room.{Has}
use Rattle.js_parser.proofs.Room as parts
use Rattle.js_parser.proofs.ReadsStops.{front, reach_in, reach_of, unflag, links-stop, tail-stop, choice-stop, comma-stop, postfix-stop}
use Rattle.js_parser.proofs.ReadsOperators.{level-high, no-prefix, low-or-top}

-- ---- what is known of tokens with a tree

abbrev pub Linked : Form → ℕ → Symbols → Expr → Type 0
Linked form l u x =
    (room : Room) → Has room (parts.expr x) → (c : Bool) (next : To Expr) (r : Symbols) (t : State) → (c ≡ false → 18 ≤ l) → Goes form (links room c x next r) t → Goes form (operand room c next (u ++ r)) t

abbrev pub Operand : Form → Symbols → Expr → Type 0
Operand form u x = (room : Room) → Has room (parts.expr x) → (next : To Expr) (r : Symbols) → reach_of u (front r) < 16 → Goes form (operand room true next (u ++ r)) (next x r)

abbrev pub Unary : Form → Symbols → Expr → Type 0
Unary form u x = (room : Room) → Has room (parts.expr x) → (next : To Expr) (r : Symbols) → reach_of u (front r) < 14 → Goes form (unary room next (u ++ r)) (next x r)

abbrev pub Climb : Form → Bool → ℕ → Symbols → Expr → Type 0
Climb form i c u x =
    (room : Room) → Has room (parts.expr x) → (least : ℕ) (next : To Expr) (r : Symbols) (t : State) → least ≤ c → reach_in i u (front r) ≤ c → Goes form (tail room i least x next r) t → Goes form (climb room i least next (u ++ r)) t

abbrev pub Choice : Form → Bool → Symbols → Expr → Type 0
Choice form i u x = (room : Room) → Has room (parts.expr x) → (next : To Expr) (r : Symbols) → reach_in i u (front r) < 2 → Goes form (assign room i next (u ++ r)) (next x r)

abbrev pub Commas : Form → Bool → Symbols → Expr → Type 0
Commas form i u x =
    (room : Room) → Has room (parts.expr x) → (next : To Expr) (r : Symbols) (t : State) → reach_in i u (front r) < 2 → Goes form (comma_tail room i x next r) t → Goes form (comma room i next (u ++ r)) t

pub record Known (form : Form) (i : Bool) (l : ℕ) (u : Symbols) (x : Expr) : Type 0 where
  pub linked : 17 ≤ l → Linked form l u x
  pub operand_is : 16 ≤ l → Operand form u x
  pub unary_is : 14 ≤ l → Unary form u x
  pub climbs : (c : ℕ) → 4 ≤ c → c ≤ 13 → c ≤ l → Climb form i c u x
  pub chosen : 2 ≤ l → Choice form i u x
  pub commas : 1 ≤ l → Commas form i u x

-- ---- what each stage gives the next

unary-climb : (form : Form) (i : Bool) (c : ℕ) (u : Symbols) (x : Expr) → Unary form u x → c ≤ 13 → Climb form i c u x
unary-climb form i c u x h le room has least next r t a reaches after =
    then_on (onwards (h room has (λ x r. tail room i least x next r) r (unflag i (ends_changed u) (front r).newline (front r).kind 14 (omega arith) (lit≤ tt))) after)

climb-choice : (form : Form) (i : Bool) (u : Symbols) (x : Expr) → Climb form i 4 u x → Choice form i u x
climb-choice form i u x h room has next r reaches =
    then_on (h room has 4 (λ x r. choice room i x next r) r (next x r) (lit≤ tt) (omega arith)
    (onwards (tail-stop room i (ends_changed u) 4 x (λ x r. choice room i x next r) r (omega arith)) (choice-stop room i (ends_changed u) x next r reaches)))

choice-commas : (form : Form) (i : Bool) (u : Symbols) (x : Expr) → Choice form i u x → Commas form i u x
choice-commas form i u x h room has next r t reaches after = then_on (onwards (h room has (λ x r. comma_tail room i x next r) r reaches) after)

pub by-commas : (form : Form) (i : Bool) (l : ℕ) (u : Symbols) (x : Expr) → l ≤ 1 → Commas form i u x → Known form i l u x
by-commas form i l u x le h = record {
  linked = λ a. absurd (omega arith);
  operand_is = λ a. absurd (omega arith);
  unary_is = λ a. absurd (omega arith);
  climbs = λ c a o e. absurd (omega arith);
  chosen = λ a. absurd (omega arith);
  commas = λ a. h;
}

pub by-choice : (form : Form) (i : Bool) (l : ℕ) (u : Symbols) (x : Expr) → l ≤ 3 → Choice form i u x → Known form i l u x
by-choice form i l u x le h = record {
  linked = λ a. absurd (omega arith);
  operand_is = λ a. absurd (omega arith);
  unary_is = λ a. absurd (omega arith);
  climbs = λ c a o e. absurd (omega arith);
  chosen = λ a. h;
  commas = λ a. choice-commas form i u x h;
}

pub by-climb : (form : Form) (i : Bool) (l : ℕ) (u : Symbols) (x : Expr) (n : ℕ) → l ≤ n → 4 ≤ n → n ≤ 13 → ((c : ℕ) → 4 ≤ c → c ≤ n → Climb form i c u x) → Known form i l u x
by-climb form i l u x n le high low h = let d : Choice form i u x = climb-choice form i u x (h 4 (lit≤ tt) high) in
    record {
      linked = λ a. absurd (omega arith);
      operand_is = λ a. absurd (omega arith);
      unary_is = λ a. absurd (omega arith);
      climbs = λ c a o e. h c a (omega arith);
      chosen = λ a. d;
      commas = λ a. choice-commas form i u x d;
    }

pub by-unary : (form : Form) (i : Bool) (l : ℕ) (u : Symbols) (x : Expr) → l ≤ 15 → Unary form u x → Known form i l u x
by-unary form i l u x le h = let d : Choice form i u x = climb-choice form i u x (unary-climb form i 4 u x h (lit≤ tt)) in
    record {
      linked = λ a. absurd (omega arith);
      operand_is = λ a. absurd (omega arith);
      unary_is = λ a. h;
      climbs = λ c a o e. unary-climb form i c u x h o;
      chosen = λ a. d;
      commas = λ a. choice-commas form i u x d;
    }

-- an operand, which does not end with `++` or `--`
operand-unary : (form : Form) (u : Symbols) (x : Expr) → Starts begins_operand u → ends_changed u ≡ false → Operand form u x → Unary form u x
operand-unary form u x s away h room has next r reaches =
    subst (λ v. Goes form (unary room next (v ++ r)) (next x r)) (sym s.are)
    (stepped (ap (λ o. unary_by o room next s.head (s.others ++ r)) (no-prefix s.head.kind s.passes))
    (onwards (subst (λ v. Goes form (operand room true (λ x r. postfix room x next r) (v ++ r)) (postfix room x next r)) s.are (h room has (λ x r. postfix room x next r) r (omega arith)))
    (postfix-stop room x next r (let e = ap (λ c. kind_reach c (front r).newline (front r).kind) away in omega (arith, e)))))

pub by-operand : (form : Form) (i : Bool) (l : ℕ) (u : Symbols) (x : Expr) → l ≤ 16 → Starts begins_operand u → ends_changed u ≡ false → Operand form u x → Known form i l u x
by-operand form i l u x le s away h = let o : Unary form u x = operand-unary form u x s away h in
    let d : Choice form i u x = climb-choice form i u x (unary-climb form i 4 u x o (lit≤ tt)) in
    record {
      linked = λ a. absurd (omega arith);
      operand_is = λ a. h;
      unary_is = λ a. o;
      climbs = λ c a e f. unary-climb form i c u x o e;
      chosen = λ a. d;
      commas = λ a. choice-commas form i u x d;
    }

linked-operand : (form : Form) (l : ℕ) (u : Symbols) (x : Expr) → ends_changed u ≡ false → Linked form l u x → Operand form u x
linked-operand form l u x away h room has next r reaches =
    h room has true next r (next x r) (λ e. cc) (links-stop room true x next r (let e = ap (λ c. kind_reach c (front r).newline (front r).kind) away in omega (arith, e)))

pub by-linked : (form : Form) (i : Bool) (l : ℕ) (u : Symbols) (x : Expr) → Starts begins_operand u → ends_changed u ≡ false → Linked form l u x → Known form i l u x
by-linked form i l u x s away h = let p : Operand form u x = linked-operand form l u x away h in
    let o : Unary form u x = operand-unary form u x s away p in
    let d : Choice form i u x = climb-choice form i u x (unary-climb form i 4 u x o (lit≤ tt)) in
    record {
      linked = λ a. h;
      operand_is = λ a. p;
      unary_is = λ a. o;
      climbs = λ c a e f. unary-climb form i c u x o e;
      chosen = λ a. d;
      commas = λ a. choice-commas form i u x d;
    }

-- ---- whole expressions of a level

pub read-comma : {form : Form} {i : Bool} {l : ℕ} {u : Symbols} {x : Expr} {room : Room} → Known form i l u x → 1 ≤ l → Has room (parts.expr x) → (next : To Expr) (r : Symbols) → reach_in i u (front r) < 1
    → Goes form (comma room i next (u ++ r)) (next x r)
read-comma {i = i} {u = u} {x = x} {room = room} h le has next r reaches = h.commas le room has next r (next x r) (omega arith) (comma-stop room i (ends_changed u) x next r reaches)

pub read-assign : {form : Form} {i : Bool} {l : ℕ} {u : Symbols} {x : Expr} {room : Room} → Known form i l u x → 2 ≤ l → Has room (parts.expr x) → (next : To Expr) (r : Symbols) → reach_in i u (front r) < 2
    → Goes form (assign room i next (u ++ r)) (next x r)
read-assign {room = room} h le has next r reaches = h.chosen le room has next r reaches

read-climb-by : {form : Form} {i : Bool} {u : Symbols} {x : Expr} {room : Room} (n : ℕ) → Known form i (suc n) u x → (suc n ≤ 13) ⊎ (n ≡ 13) → 4 ≤ n → Has room (parts.expr x) → (next : To Expr) (r : Symbols)
    → reach_in i u (front r) < suc n → Goes form (climb room i (suc n) next (u ++ r)) (next x r)
read-climb-by {i = i} {u = u} {x = x} {room = room} n h (inl low) high has next r reaches =
    h.climbs (suc n) (omega arith) low (omega arith) room has (suc n) next r (next x r) (omega arith) (omega arith) (tail-stop room i (ends_changed u) (suc n) x next r reaches)
read-climb-by {i = i} {u = u} {x = x} {room = room} n h (inr top) high has next r reaches =
    then_on (onwards (h.unary_is (omega (arith, top)) room has (λ x r. tail room i (suc n) x next r) r (unflag i (ends_changed u) (front r).newline (front r).kind 14 (omega (arith, top)) (lit≤ tt)))
    (tail-stop room i (ends_changed u) (suc n) x next r reaches))

-- the right operand of an operator
pub read-right : {form : Form} {i : Bool} {u : Symbols} {x : Expr} {room : Room} (op : Operator) → Known form i (suc (level op)) u x → Has room (parts.expr x) → (next : To Expr) (r : Symbols)
    → reach_in i u (front r) < suc (level op) → Goes form (climb room i (suc (level op)) next (u ++ r)) (next x r)
read-right op h has next r reaches = read-climb-by (level op) h (low-or-top op) (level-high op).0 has next r reaches

-- in the place of equal tokens
pub placed : {form : Form} {u v : Symbols} {t : State} (s : Symbols → State) → u ≡ v → Goes form (s v) t → Goes form (s u) t
placed {form = form} {t = t} s e d = subst (λ w. Goes form (s w) t) (sym e) d

-- a call is read where calls are
pub called : (form : Form) (l : ℕ) (room : Room) (c : Bool) (x : Expr) → l ≤ 17 → (c ≡ false → 18 ≤ l) → (u v ts : Symbols) (next : To Expr) (t : State)
    → ((next : To Expr) (r : Symbols) (t : State) → Goes form (links room true x next r) t → Goes form (operand room true next (u ++ r)) t) → (c ≡ true → Goes form (links room true x next (v ++ ts)) t)
    → Goes form (operand room c next ((u ++ v) ++ ts)) t
called form l room false x low up u v ts next t h d = let q = up refl in absurd (omega arith)
called form l room true x low up u v ts next t h d = placed (operand room true next) (append_assoc u v ts) (h next (v ++ ts) t (d refl))

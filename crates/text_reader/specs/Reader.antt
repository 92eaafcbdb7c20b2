-- Readers: functions that read a text from its front.
--
-- A reader gives what it reads and the bytes that follow, or None where the text does not begin so.
use Rattle.std.specs.Prelude.{ℕ, zero, suc, ◌+◌, ◌-◌, ◌*◌, ◌^◌, Bool, false, not, ◌&&◌, ◌||◌, ◌==◌}
use Rattle.std.specs.Prelude.{nat_le, nat_lt, if◌then◌else◌, Option, Some, None}
use Rattle.std.specs.Prelude.{List, [], ◌∷◌, ◌++◌, length, take, drop}
use Rattle.std.specs.List.{prefix_len}

-- ---- readers

abbrev pub Found : Type 0 → Type 0
Found A = Option (A × List ℕ)

abbrev pub Reader : Type 0 → Type 0
Reader A = List ℕ → Found A

abbrev pub and_then : {A B : Type 0} → Found A → (A → Reader B) → Found B
and_then (Some p) f = f p.0 p.1
and_then None f = None

infixl 10 ◌>>=◌
abbrev pub ◌>>=◌ : {A B : Type 0} → Reader A → (A → Reader B) → Reader B
p >>= f = λ bs. and_then (p bs) f

infixl 10 ◌>>◌
abbrev pub ◌>>◌ : {A B : Type 0} → Reader A → Reader B → Reader B
p >> q = p >>= (λ _. q)

abbrev pub pure : {A : Type 0} → A → Reader A
pure a = λ bs. Some (a, bs)

abbrev pub refuse : {A : Type 0} → Reader A
refuse = λ bs. None

-- goes on after what `test` reads, or else in another way from where it began
abbrev pub chosen : {A : Type 0} → Found (Unit {0}) → Reader A → Found A → Found A
chosen (Some p) there other = there p.1
chosen None there other = other

abbrev pub either : {A : Type 0} → Reader (Unit {0}) → Reader A → Reader A → Reader A
either test there other = λ bs. chosen (test bs) there (other bs)

-- these bytes
unfoldable pub skip : List ℕ → Reader (Unit {0})
skip [] bs = Some (tt, bs)
skip (c ∷ cs) [] = None
skip (c ∷ cs) (b ∷ bs) = if b == c then skip cs bs else None

-- the end of the text
unfoldable pub ended : Reader (Unit {0})
ended [] = Some (tt, [])
ended (b ∷ bs) = None

-- ---- bytes that pass a test

-- one of them
unfoldable pub one : (ℕ → Bool) → Reader ℕ
one test [] = None
one test (b ∷ bs) = if test b then Some (b, bs) else None

-- the longest front of them
unfoldable pub run : (ℕ → Bool) → Reader (List ℕ)
run test bs = Some (take (prefix_len test bs) bs, drop (prefix_len test bs) bs)

-- ---- numbers

abbrev pub is_digit : ℕ → Bool
is_digit c = nat_le 48 c && nat_le c 57

-- what stands behind the digits in front of a text
abbrev pub behind_digits : List ℕ → List ℕ
behind_digits bs = drop (prefix_len is_digit bs) bs

-- the number of digits that follow n
abbrev pub value_after : ℕ → List ℕ → ℕ
value_after n [] = n
value_after n (c ∷ cs) = value_after (10 * n + (c - 48)) cs

abbrev pub is_numeral : List ℕ → Bool
is_numeral [] = false
is_numeral (d ∷ ds) = (not (d == 48) || length ds == 0) && nat_lt (value_after 0 (d ∷ ds)) (2 ^ 32)

-- a number by its digits: no digit, a zero in front of others and a number that is too great are
-- refused
unfoldable pub number_of : List ℕ → Option ℕ
number_of ds = if is_numeral ds then Some (value_after 0 ds) else None

abbrev pub numbered : Option ℕ → Reader ℕ
numbered (Some k) = pure k
numbered None = refuse

-- the number whose digits come next
unfoldable pub decimal : Reader ℕ
decimal = run is_digit >>= (λ ds. numbered (number_of ds))

-- ---- lists, item by item

-- goes on with an item, or ends with those found
abbrev pub or_end : {A : Type 0} → (A → Reader (List A)) → List A → Option A → Reader (List A)
or_end more found (Some x) = more x
or_end more found None = pure found

-- items up to the end of their list, after those found; in fewer than so many turns
unfoldable pub many : {A : Type 0} → Reader (Option A) → ℕ → List A → Reader (List A)
many next zero found = refuse
many next (suc n) found = next >>= or_end (λ x. many next n (found ++ x ∷ [])) found

-- the same in as many turns as any list takes: each item has a byte
unfoldable pub list_after : {A : Type 0} → List A → Reader (Option A) → Reader (List A)
list_after found next = λ bs. many next (length bs + 1) found bs

-- the item that `read` reads
abbrev pub an_item : {A : Type 0} → Reader A → Reader (Option A)
an_item read = read >>= (λ x. pure (Some x))

-- an item, or the end where `stop` comes
unfoldable pub up_to : {A : Type 0} → Reader (Unit {0}) → Reader A → Reader (Option A)
up_to stop read = either stop (pure None) (an_item read)

-- an item behind `front`, or the end where no `front` comes
unfoldable pub behind : {A : Type 0} → List ℕ → Reader A → Reader (Option A)
behind front read = either (skip front) (an_item read) (pure None)

-- ---- whole texts

-- what was found, whatever is left
abbrev pub whole : {A : Type 0} → Found A → Option A
whole (Some p) = Some p.0
whole None = None

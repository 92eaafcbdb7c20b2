-- Where the machine that reads expressions goes no further.
use Rattle.std.proofs.Common.{if◌then◌else◌, ◌≡◌, ℕ, suc, ◌≤◌, ◌<◌, nat_le, Bool, true, false, ◌&&◌, [], ◌∷◌, Option, Some, None, refl, ap, arith}
use Rattle.std.proofs.lemmas.Bool.{lt-leb}
use Rattle.js_lexer.specs.declared.mark.Mark.TheVariants as m
use Rattle.js_lexer.specs.declared.word.Word.TheVariants as w
use Rattle.js_lexer.specs.declared.token.TokenKind.{TokenKind}
use Rattle.js_lexer.specs.declared.token.TokenKind.TheVariants as k
use Rattle.js_tree.specs.Tree.{Expr}
use Rattle.js_tree.specs.Tree
use Rattle.js_parser.specs.declared.form.Form.{Form}
use Rattle.js_parser.specs.Symbols.{Symbol, Symbols, first, end}
use Rattle.js_tree.specs.Levels.{Operator, joined, level}
use Rattle.js_parser.specs.Operators.{may_operate}
use Rattle.js_parser.specs.Ends.{ends_changed, kind_reach}
use Rattle.js_parser.specs.Rooms.{Room, inside, fits_around}
use Rattle.js_parser.specs.Machine.{comma_tail, choice, climb, tail, postfix, links, To, fitting, comma_by, choice_by, tail_by, postfix_by, links_by, new_by, after_new, operator_of, Goes, here, then_on}
use Rattle.js_parser.proofs.Runs.{stepped}

-- ---- the token that follows

abbrev pub front : Symbols → Symbol
front ts = first ts (end false)

-- the level to which a token goes on, where the operator `in` may come or not
abbrev pub kind_reach_in : Bool → Bool → Bool → TokenKind → ℕ
kind_reach_in i c newline (k.Word w.In) = if i then 10 else 0
kind_reach_in i c newline kind = kind_reach c newline kind

abbrev pub reach_in : Bool → Symbols → Symbol → ℕ
reach_in i u s = kind_reach_in i (ends_changed u) s.newline s.kind

abbrev pub reach_of : Symbols → Symbol → ℕ
reach_of u s = kind_reach (ends_changed u) s.newline s.kind

pub unflag : (i c newline : Bool) (kind : TokenKind) (n : ℕ) → kind_reach_in i c newline kind < n → 11 ≤ n → kind_reach c newline kind < n
unflag i c newline (k.Word w.In) n h g = omega arith
unflag i c newline _ n h g = h

pub and-false : (a : Bool) → (a && false) ≡ false
and-false true = refl
and-false false = refl

-- ---- where nothing goes on

pub links-stop : {form : Form} (room : Room) (c : Bool) (x : Expr) (next : To Expr) (r : Symbols) → kind_reach false (front r).newline (front r).kind < 16 → Goes form (links room c x next r) (next x r)
links-stop room c x next [] h = then_on here
links-stop {form = form} room c x next (s ∷ ts) h = stepped (at s.kind h) here
  where
    at : (kind : TokenKind) → kind_reach false s.newline kind < 16 → links_by form kind room c x next s ts ≡ next x (s ∷ ts)
    at (k.Mark m.Dot) h = absurd (omega arith)
    at (k.Mark m.OpenBracket) h = absurd (omega arith)
    at (k.Mark m.OpenParenthesis) h = absurd (omega arith)
    at _ h = refl

halted : (least n : ℕ) (a : Bool) → n < least → (nat_le least n && a) ≡ false
halted least n a h = ap (λ z. z && a) (lt-leb least n h)

abbrev goes_on : Bool → ℕ → Option Operator → Bool
goes_on i least None = false
goes_on i least (Some op) = nat_le least (level op) && may_operate i op

ends-by : (o : Option Operator) (room : Room) (i : Bool) (least : ℕ) (x : Expr) (next : To Expr) (s : Symbol) (ts : Symbols) → goes_on i least o ≡ false → tail_by o room i least x next s ts ≡ next x (s ∷ ts)
ends-by None room i least x next s ts h = refl
ends-by (Some op) room i least x next s ts h =
    ap (λ a. if a then fitting (fits_around room x) ts (climb (inside room) i (suc (level op)) (λ y r. tail room i least (joined op x y) next r) ts) else next x (s ∷ ts)) h

operator-stop : (i c newline : Bool) (least : ℕ) (kind : TokenKind) → kind_reach_in i c newline kind < least → goes_on i least (operator_of kind) ≡ false
operator-stop i c newline least (k.Mark m.Or) h = halted least 4 true h
operator-stop i c newline least (k.Mark m.And) h = halted least 5 true h
operator-stop i c newline least (k.Mark m.BitOr) h = halted least 6 true h
operator-stop i c newline least (k.Mark m.BitXor) h = halted least 7 true h
operator-stop i c newline least (k.Mark m.BitAnd) h = halted least 8 true h
operator-stop i c newline least (k.Mark m.Equal) h = halted least 9 true h
operator-stop i c newline least (k.Mark m.NotEqual) h = halted least 9 true h
operator-stop i c newline least (k.Mark m.StrictEqual) h = halted least 9 true h
operator-stop i c newline least (k.Mark m.StrictNotEqual) h = halted least 9 true h
operator-stop i c newline least (k.Mark m.Less) h = halted least 10 true h
operator-stop i c newline least (k.Mark m.Greater) h = halted least 10 true h
operator-stop i c newline least (k.Mark m.LessEqual) h = halted least 10 true h
operator-stop i c newline least (k.Mark m.GreaterEqual) h = halted least 10 true h
operator-stop i c newline least (k.Mark m.ShiftLeft) h = halted least 11 true h
operator-stop i c newline least (k.Mark m.ShiftRight) h = halted least 11 true h
operator-stop i c newline least (k.Mark m.ShiftRightUnsigned) h = halted least 11 true h
operator-stop i c newline least (k.Mark m.Plus) h = halted least 12 true h
operator-stop i c newline least (k.Mark m.Minus) h = halted least 12 true h
operator-stop i c newline least (k.Mark m.Times) h = halted least 13 true h
operator-stop i c newline least (k.Mark m.Slash) h = halted least 13 true h
operator-stop i c newline least (k.Mark m.Percent) h = halted least 13 true h
operator-stop i c newline least (k.Word w.InstanceOf) h = halted least 10 true h
operator-stop true c newline least (k.Word w.In) h = halted least 10 true h
operator-stop false c newline least (k.Word w.In) h = and-false (nat_le least 10)
operator-stop i c newline least _ h = refl

pub tail-stop : {form : Form} (room : Room) (i c : Bool) (least : ℕ) (x : Expr) (next : To Expr) (r : Symbols) → kind_reach_in i c (front r).newline (front r).kind < least → Goes form (tail room i least x next r) (next x r)
tail-stop room i c least x next [] h = then_on here
tail-stop room i c least x next (s ∷ ts) h = stepped (ends-by (operator_of s.kind) room i least x next s ts (operator-stop i c s.newline least s.kind h)) here

pub choice-stop : {form : Form} (room : Room) (i c : Bool) (x : Expr) (next : To Expr) (r : Symbols) → kind_reach_in i c (front r).newline (front r).kind < 2 → Goes form (choice room i x next r) (next x r)
choice-stop room i c x next [] h = then_on here
choice-stop room i c x next (s ∷ ts) h = stepped (at s.kind h) here
  where
    at : (kind : TokenKind) → kind_reach_in i c s.newline kind < 2 → choice_by kind room i x next s ts ≡ next x (s ∷ ts)
    at (k.Mark m.Question) h = absurd (omega arith)
    at (k.Mark m.Assign) h = absurd (omega arith)
    at (k.Mark m.TimesAssign) h = absurd (omega arith)
    at (k.Mark m.SlashAssign) h = absurd (omega arith)
    at (k.Mark m.PercentAssign) h = absurd (omega arith)
    at (k.Mark m.PlusAssign) h = absurd (omega arith)
    at (k.Mark m.MinusAssign) h = absurd (omega arith)
    at (k.Mark m.ShiftLeftAssign) h = absurd (omega arith)
    at (k.Mark m.ShiftRightAssign) h = absurd (omega arith)
    at (k.Mark m.ShiftRightUnsignedAssign) h = absurd (omega arith)
    at (k.Mark m.BitAndAssign) h = absurd (omega arith)
    at (k.Mark m.BitXorAssign) h = absurd (omega arith)
    at (k.Mark m.BitOrAssign) h = absurd (omega arith)
    at _ h = refl

pub comma-stop : {form : Form} (room : Room) (i c : Bool) (x : Expr) (next : To Expr) (r : Symbols) → kind_reach_in i c (front r).newline (front r).kind < 1 → Goes form (comma_tail room i x next r) (next x r)
comma-stop room i c x next [] h = then_on here
comma-stop room i c x next (s ∷ ts) h = stepped (at s.kind h) here
  where
    at : (kind : TokenKind) → kind_reach_in i c s.newline kind < 1 → comma_by kind room i x next s ts ≡ next x (s ∷ ts)
    at (k.Mark m.Comma) h = absurd (omega arith)
    at _ h = refl

pub postfix-stop : {form : Form} (room : Room) (x : Expr) (next : To Expr) (r : Symbols) → kind_reach false (front r).newline (front r).kind < 15 → Goes form (postfix room x next r) (next x r)
postfix-stop room x next [] h = then_on here
postfix-stop room x next (s ∷ ts) h = stepped (at s.kind s.newline h) here
  where
    at : (kind : TokenKind) (newline : Bool) → kind_reach false newline kind < 15 → postfix_by kind newline room x next s ts ≡ next x (s ∷ ts)
    at (k.Mark m.PlusPlus) false h = absurd (omega arith)
    at (k.Mark m.MinusMinus) false h = absurd (omega arith)
    at (k.Mark m.PlusPlus) true h = refl
    at (k.Mark m.MinusMinus) true h = refl
    at _ newline h = refl

pub new-stop : (room : Room) (c : Bool) (x : Expr) (next : To Expr) (r : Symbols) → kind_reach false (front r).newline (front r).kind < 16 → after_new room c x next r ≡ next (Tree.New x Tree.NoExprs) r
new-stop room c x next [] h = refl
new-stop room c x next (s ∷ ts) h = at s.kind h
  where
    at : (kind : TokenKind) → kind_reach false s.newline kind < 16 → new_by kind room c x next s ts ≡ next (Tree.New x Tree.NoExprs) (s ∷ ts)
    at (k.Mark m.OpenParenthesis) h = absurd (omega arith)
    at _ h = refl

-- The steps of the machine at operators, by what the parser asks of the tokens.
use Rattle.std.proofs.Common.{◌≡◌, ℕ, ◌<◌, Bool, true, false, nat_le, ◌&&◌, if◌then◌else◌, Option, Some, None, [], ◌∷◌, length, refl, ap, sym, ◌∙◌, subst, arith}
use Rattle.js_lexer.specs.declared.mark.Mark.TheVariants as m
use Rattle.js_lexer.specs.declared.token.TokenKind.{TokenKind}
use Rattle.js_lexer.specs.declared.token.TokenKind.TheVariants as k
use Rattle.js_tree.specs.declared.tree.BinaryOp.{BinaryOp}
use Rattle.js_tree.specs.declared.tree.PrefixOp.{PrefixOp}
use Rattle.js_tree.specs.declared.tree.PostfixOp.{PostfixOp}
use Rattle.js_tree.specs.Tree.{Expr}
use Rattle.js_parser.specs.declared.form.Form.{Form}
use Rattle.js_parser.specs.Symbols.{Symbols, behind}
use Rattle.js_tree.specs.Levels.{Operator, level, changes}
use Rattle.js_parser.specs.Operators.{may_operate, is_target}
use Rattle.js_parser.specs.Rooms.{Room}
use Rattle.js_parser.specs.Marks.{is_comma, is_question}
use Rattle.js_parser.specs.Machine.{State, To, comma_tail, comma_by, choice, choice_by, assign_to, tail, tail_by, unary, unary_by, prefix_by, postfix, operand, stuck, guard, operator_of, prefix_of, Goes, here, then_on}
use Rattle.js_parser.specs.Machine as rule
use Rattle.js_parser.specs.Pieces.{behind_comma, conditional, assignment, assignment_of, first_as, binding, operator_at, binary, changed, prefixed, postfixed, postfix_at}
use Rattle.js_parser.specs.Pieces as pieces
use Rattle.js_parser.specs.Reads.{at}
use Rattle.js_parser.proofs.Runs.{onwards, stepped, allowed}

pub at_a_comma : {form : Form} (room : Room) (i : Bool) (x : Expr) (next : To Expr) (ts rest : Symbols) → at is_comma ts ≡ true → rest ≡ behind ts
    → Goes form (comma_tail room i x next ts) (behind_comma room i x (λ y r. comma_tail room i y next r) rest)
at_a_comma room i x next [] rest h e = cc
at_a_comma {form = form} room i x next (s ∷ ts) rest h e = stepped (by s.kind h) (subst (λ r. Goes form (behind_comma room i x (λ y o. comma_tail room i y next o) ts) (behind_comma room i x (λ y o. comma_tail room i y next o) r)) (sym e) here)
  where
    by : (kind : TokenKind) → is_comma kind ≡ true → comma_by kind room i x next s ts ≡ behind_comma room i x (λ y r. comma_tail room i y next r) ts
    by (k.Mark m.Comma) h = refl
    by _ h = cc

pub at_no_comma : {form : Form} (room : Room) (i : Bool) (x : Expr) (next : To Expr) (ts : Symbols) → at is_comma ts ≡ false
    → Goes form (comma_tail room i x next ts) (next x ts)
at_no_comma room i x next [] h = then_on here
at_no_comma {form = form} room i x next (s ∷ ts) h = stepped (by s.kind h) here
  where
    by : (kind : TokenKind) → is_comma kind ≡ false → comma_by kind room i x next s ts ≡ next x (s ∷ ts)
    by (k.Mark m.Comma) h = cc
    by _ h = refl

-- where a condition does not hold
forbidden : {form : Form} {a : Bool} (left : Symbols) (s : State) → a ≡ false → Goes form (guard a left s) (stuck left)
forbidden {form = form} left s h = subst (λ a. Goes form (guard a left s) (stuck left)) (sym h) here

-- ---- behind an operation

pub at_a_question : {form : Form} (room : Room) (i : Bool) (x : Expr) (next : To Expr) (ts rest : Symbols) → at is_question ts ≡ true → rest ≡ behind ts
    → Goes form (choice room i x next ts) (conditional room i x next rest)
at_a_question room i x next [] rest h e = cc
at_a_question {form = form} room i x next (s ∷ ts) rest h e = stepped (by s.kind h) (subst (λ r. Goes form (conditional room i x next ts) (conditional room i x next r)) (sym e) here)
  where
    by : (kind : TokenKind) → is_question kind ≡ true → choice_by kind room i x next s ts ≡ conditional room i x next ts
    by (k.Mark m.Question) h = refl
    by _ h = cc

-- before the token of an assignment
abbrev written : Option BinaryOp → Room → Bool → Expr → To Expr → Symbols → State
written op room i x next ts = guard (is_target x) ts (assignment op room i x next (behind ts))

at_a_sign : {form : Form} (room : Room) (i : Bool) (x : Expr) (next : To Expr) (ts : Symbols) (op : Option BinaryOp) → first_as assignment_of ts ≡ Some op
    → Goes form (choice room i x next ts) (written op room i x next ts)
at_a_sign room i x next [] op h = cc
at_a_sign {form = form} room i x next (s ∷ ts) op h = stepped (by s.kind h) here
  where
    is : (o : Option BinaryOp) → Some o ≡ Some op → assign_to o room i x next s ts ≡ written op room i x next (s ∷ ts)
    is o h = let e : o ≡ op = cc in ap (λ (o : Option BinaryOp). written o room i x next (s ∷ ts)) e

    by : (kind : TokenKind) → assignment_of kind ≡ Some op → choice_by kind room i x next s ts ≡ written op room i x next (s ∷ ts)
    by (k.Mark m.Assign) h = is _ h
    by (k.Mark m.TimesAssign) h = is _ h
    by (k.Mark m.SlashAssign) h = is _ h
    by (k.Mark m.PercentAssign) h = is _ h
    by (k.Mark m.PlusAssign) h = is _ h
    by (k.Mark m.MinusAssign) h = is _ h
    by (k.Mark m.ShiftLeftAssign) h = is _ h
    by (k.Mark m.ShiftRightAssign) h = is _ h
    by (k.Mark m.ShiftRightUnsignedAssign) h = is _ h
    by (k.Mark m.BitAndAssign) h = is _ h
    by (k.Mark m.BitXorAssign) h = is _ h
    by (k.Mark m.BitOrAssign) h = is _ h
    by _ h = cc

pub at_an_assignment : {form : Form} (room : Room) (i : Bool) (x : Expr) (next : To Expr) (ts rest : Symbols) (op : Option BinaryOp) → first_as assignment_of ts ≡ Some op → is_target x ≡ true → rest ≡ behind ts
    → Goes form (choice room i x next ts) (assignment op room i x next rest)
at_an_assignment {form = form} room i x next ts rest op h t e =
    onwards (at_a_sign room i x next ts op h) (allowed ts t (subst (λ r. Goes form (assignment op room i x next (behind ts)) (assignment op room i x next r)) (sym e) here))

pub at_no_target : {form : Form} (room : Room) (i : Bool) (x : Expr) (next : To Expr) (ts : Symbols) (op : Option BinaryOp) → first_as assignment_of ts ≡ Some op → is_target x ≡ false
    → Goes form (choice room i x next ts) (stuck ts)
at_no_target room i x next ts op h t = onwards (at_a_sign room i x next ts op h) (forbidden ts _ t)

pub at_no_choice : {form : Form} (room : Room) (i : Bool) (x : Expr) (next : To Expr) (ts : Symbols) → at is_question ts ≡ false → first_as assignment_of ts ≡ None
    → Goes form (choice room i x next ts) (next x ts)
at_no_choice room i x next [] h e = then_on here
at_no_choice {form = form} room i x next (s ∷ ts) h e = stepped (by s.kind h e) here
  where
    by : (kind : TokenKind) → is_question kind ≡ false → assignment_of kind ≡ None → choice_by kind room i x next s ts ≡ next x (s ∷ ts)
    by (k.Mark m.Question) h e = cc
    by (k.Mark m.Assign) h e = cc
    by (k.Mark m.TimesAssign) h e = cc
    by (k.Mark m.SlashAssign) h e = cc
    by (k.Mark m.PercentAssign) h e = cc
    by (k.Mark m.PlusAssign) h e = cc
    by (k.Mark m.MinusAssign) h e = cc
    by (k.Mark m.ShiftLeftAssign) h e = cc
    by (k.Mark m.ShiftRightAssign) h e = cc
    by (k.Mark m.ShiftRightUnsignedAssign) h e = cc
    by (k.Mark m.BitAndAssign) h e = cc
    by (k.Mark m.BitXorAssign) h e = cc
    by (k.Mark m.BitOrAssign) h e = cc
    by _ h e = refl

-- ---- between two operands

pub at_an_operator : {form : Form} (room : Room) (i : Bool) (least : ℕ) (x : Expr) (next : To Expr) (ts rest : Symbols) (op : Operator) → operator_at i least ts ≡ Some op → rest ≡ behind ts
    → Goes form (tail room i least x next ts) (binary op room i x (λ y r. tail room i least y next r) rest)
at_an_operator room i least x next [] rest op h e = cc
at_an_operator {form = form} room i least x next (s ∷ ts) rest op h e = stepped (by (operator_of s.kind) h) (subst (λ r. Goes form (binary op room i x (λ y o. tail room i least y next o) ts) (binary op room i x (λ y o. tail room i least y next o) r)) (sym e) here)
  where
    is : (o : Operator) (binds : Bool) → (if binds then Some o else None) ≡ Some op
        → (if binds then binary o room i x (λ y r. tail room i least y next r) ts else next x (s ∷ ts)) ≡ binary op room i x (λ y r. tail room i least y next r) ts
    is o true h = let p : o ≡ op = cc in ap (λ (o : Operator). binary o room i x (λ y r. tail room i least y next r) ts) p
    is o false h = cc

    by : (found : Option Operator) → binding i least found ≡ Some op → tail_by found room i least x next s ts ≡ binary op room i x (λ y r. tail room i least y next r) ts
    by None h = cc
    by (Some o) h = is o (nat_le least (level o) && may_operate i o) h

pub at_no_operator : {form : Form} (room : Room) (i : Bool) (least : ℕ) (x : Expr) (next : To Expr) (ts : Symbols) → operator_at i least ts ≡ None
    → Goes form (tail room i least x next ts) (next x ts)
at_no_operator room i least x next [] h = then_on here
at_no_operator {form = form} room i least x next (s ∷ ts) h = stepped (by (operator_of s.kind) h) here
  where
    is : (o : Operator) (binds : Bool) → (if binds then Some o else None) ≡ None
        → (if binds then binary o room i x (λ y r. tail room i least y next r) ts else next x (s ∷ ts)) ≡ next x (s ∷ ts)
    is o true h = cc
    is o false h = refl

    by : (found : Option Operator) → binding i least found ≡ None → tail_by found room i least x next s ts ≡ next x (s ∷ ts)
    by None h = refl
    by (Some o) h = is o (nat_le least (level o) && may_operate i o) h

-- ---- before and behind one operand

pub at_nothing : {form : Form} (room : Room) (next : To Expr) (ts : Symbols) → ts ≡ []
    → Goes form (unary room next ts) (stuck ts)
at_nothing room next [] h = then_on here
at_nothing room next (s ∷ ts) h = cc

pub at_a_change : {form : Form} (room : Room) (next : To Expr) (ts rest : Symbols) (op : PrefixOp) → first_as prefix_of ts ≡ Some op → changes op ≡ true → rest ≡ behind ts
    → Goes form (unary room next ts) (changed op room next rest)
at_a_change room next [] rest op h c e = cc
at_a_change {form = form} room next (s ∷ ts) rest op h c e =
    stepped (ap (λ (o : Option PrefixOp). unary_by o room next s ts) h ∙ ap (λ (b : Bool). prefix_by b room op next ts) c)
    (subst (λ r. Goes form (changed op room next ts) (changed op room next r)) (sym e) here)

pub at_a_prefix : {form : Form} (room : Room) (next : To Expr) (ts rest : Symbols) (op : PrefixOp) → first_as prefix_of ts ≡ Some op → changes op ≡ false → rest ≡ behind ts
    → Goes form (unary room next ts) (prefixed op room next rest)
at_a_prefix room next [] rest op h c e = cc
at_a_prefix {form = form} room next (s ∷ ts) rest op h c e =
    stepped (ap (λ (o : Option PrefixOp). unary_by o room next s ts) h ∙ ap (λ (b : Bool). prefix_by b room op next ts) c)
    (subst (λ r. Goes form (prefixed op room next ts) (prefixed op room next r)) (sym e) here)

pub at_no_prefix : {form : Form} (room : Room) (next : To Expr) (ts : Symbols) → 0 < length ts → first_as prefix_of ts ≡ None
    → Goes form (unary room next ts) (operand room true (λ x r. postfix room x next r) ts)
at_no_prefix room next [] n h = absurd (omega arith)
at_no_prefix room next (s ∷ ts) n h = stepped (ap (λ (o : Option PrefixOp). unary_by o room next s ts) h) here

-- before the token of a postfix operator
abbrev to_postfix : PostfixOp → Room → Expr → To Expr → Symbols → State
to_postfix op room x next ts = guard (is_target x) ts (postfixed op room x next (behind ts))

at_postfix_sign : {form : Form} (room : Room) (x : Expr) (next : To Expr) (ts : Symbols) (op : PostfixOp) → postfix_at ts ≡ Some op
    → Goes form (postfix room x next ts) (to_postfix op room x next ts)
at_postfix_sign room x next [] op h = cc
at_postfix_sign {form = form} room x next (s ∷ ts) op h = stepped (by s.kind s.newline h) here
  where
    is : (o : PostfixOp) → Some o ≡ Some op → to_postfix o room x next (s ∷ ts) ≡ to_postfix op room x next (s ∷ ts)
    is o h = let e : o ≡ op = cc in ap (λ (o : PostfixOp). to_postfix o room x next (s ∷ ts)) e

    by : (kind : TokenKind) (newline : Bool) → pieces.postfix_by kind newline ≡ Some op → rule.postfix_by kind newline room x next s ts ≡ to_postfix op room x next (s ∷ ts)
    by (k.Mark m.PlusPlus) false h = is _ h
    by (k.Mark m.MinusMinus) false h = is _ h
    by _ _ h = cc

pub at_a_postfix : {form : Form} (room : Room) (x : Expr) (next : To Expr) (ts rest : Symbols) (op : PostfixOp) → postfix_at ts ≡ Some op → is_target x ≡ true → rest ≡ behind ts
    → Goes form (postfix room x next ts) (postfixed op room x next rest)
at_a_postfix {form = form} room x next ts rest op h t e =
    onwards (at_postfix_sign room x next ts op h) (allowed ts t (subst (λ r. Goes form (postfixed op room x next (behind ts)) (postfixed op room x next r)) (sym e) here))

pub at_no_changed_target : {form : Form} (room : Room) (x : Expr) (next : To Expr) (ts : Symbols) (op : PostfixOp) → postfix_at ts ≡ Some op → is_target x ≡ false
    → Goes form (postfix room x next ts) (stuck ts)
at_no_changed_target room x next ts op h t = onwards (at_postfix_sign room x next ts op h) (forbidden ts _ t)

pub at_no_postfix : {form : Form} (room : Room) (x : Expr) (next : To Expr) (ts : Symbols) → postfix_at ts ≡ None
    → Goes form (postfix room x next ts) (next x ts)
at_no_postfix room x next [] h = then_on here
at_no_postfix {form = form} room x next (s ∷ ts) h = stepped (by s.kind s.newline h) here
  where
    by : (kind : TokenKind) (newline : Bool) → pieces.postfix_by kind newline ≡ None → rule.postfix_by kind newline room x next s ts ≡ next x (s ∷ ts)
    by (k.Mark m.PlusPlus) false h = cc
    by (k.Mark m.MinusMinus) false h = cc
    by _ _ h = refl

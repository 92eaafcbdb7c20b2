-- Tokens with which what is read becomes a whole script: expressions, functions and declarators.
use Rattle.std.proofs.Common.{if◌then◌else◌, ◌≡◌, ℕ, suc, Bool, true, false, ◌&&◌, ◌||◌, not, List, [], ◌∷◌, ◌++◌, refl, ap, sym, ◌∙◌, subst}
use Rattle.js_lexer.specs.declared.mark.Mark.TheVariants as m
use Rattle.js_lexer.specs.declared.token.TokenKind.{TokenKind}
use Rattle.js_lexer.specs.declared.token.TokenKind.TheVariants as k
use Rattle.js_lexer.specs.declared.word.Word.TheVariants as w
use Rattle.js_tree.specs.Tree.{Name, Expr, Exprs, MaybeExpr, Elements, Pairs, Stmts, VarItems}
use Rattle.js_tree.specs.Tree
use Rattle.js_parser.specs.declared.form.Form.{Form}
use Rattle.js_parser.specs.Symbols.{Symbol, Symbols, mark, name, number, is_regular, are_regular}
use Rattle.js_parser.specs.Operators.{is_target}
use Rattle.js_parser.specs.Names.{is_eval, is_function_name, is_infinity, may_stand, is_reference, is_binding, key_of}
use Rattle.js_parser.specs.Rooms.{Room, unbounded}
use Rattle.js_parser.specs.Accepted.{functions_in, counted}
use Rattle.js_parser.specs.Machine.{State, To, Goes, then_on}
use Rattle.js_parser.specs.Machine as mc
use Rattle.js_parser.proofs.Runs.{stepped}

-- how many words `function` there are, and symbols that are no numbers and count as others than decimal
abbrev pub odd : TokenKind → Bool → ℕ → ℕ
odd kind in_decimal n = if is_regular kind in_decimal then counted kind n else suc n

abbrev pub oddities : Symbols → ℕ
oddities [] = 0
oddities (s ∷ ss) = odd s.kind s.in_decimal (oddities ss)

pub regular : (kind : TokenKind) → is_regular kind true ≡ true
regular (k.Number n) = refl
regular _ = refl

-- what a symbol without oddity is
plain-symbol : (kind : TokenKind) (in_decimal : Bool) (n : ℕ) → odd kind in_decimal n ≡ 0 → (is_regular kind in_decimal ≡ true) × (counted kind n ≡ 0)
plain-symbol kind in_decimal n h = by (is_regular kind in_decimal) refl h
  where
    by : (b : Bool) → is_regular kind in_decimal ≡ b → (if b then counted kind n else suc n) ≡ 0 → (is_regular kind in_decimal ≡ true) × (counted kind n ≡ 0)
    by true e i = (e, i)
    by false e i = cc

uncounted : (kind : TokenKind) (n : ℕ) → counted kind n ≡ 0 → n ≡ 0
uncounted (k.Word w.Function) n h = cc
uncounted _ n h = h

still : (kind : TokenKind) (n m : ℕ) → counted kind n ≡ 0 → m ≡ 0 → counted kind m ≡ 0
still (k.Word w.Function) n m h i = cc
still _ n m h i = i

pub no_oddity : (ts : Symbols) → oddities ts ≡ 0 → (functions_in ts ≡ 0) × (are_regular ts ≡ true)
no_oddity [] h = (refl, refl)
no_oddity (s ∷ ts) h =
    let here = plain-symbol s.kind s.in_decimal (oddities ts) h in
    let rest = no_oddity ts (uncounted s.kind (oddities ts) here.1) in
    (still s.kind (oddities ts) (functions_in ts) here.1 rest.0, ap (λ b. b && are_regular ts) here.0 ∙ rest.1)

-- The tokens, of which the first is of these kinds, and none a word `function`.
pub record Finish (form : Form) (good : TokenKind → Bool) (g : Symbols → State) : Type 0 where
  pub head : Symbol
  pub others : Symbols
  pub starts : good head.kind ≡ true
  pub plain : oddities (head ∷ others) ≡ 0
  pub tree : Stmts
  pub run : Goes form (g (head ∷ others)) (mc.done tree)

-- Some tokens, or none.
pub record Ending (form : Form) (g : Symbols → State) : Type 0 where
  pub more : Symbols
  pub plain : oddities more ≡ 0
  pub tree : Stmts
  pub run : Goes form (g more) (mc.done tree)

pub ending : {form : Form} {good : TokenKind → Bool} {g : Symbols → State} → Finish form good g → Ending form g
ending d = record { more = d.head ∷ d.others; plain = d.plain; tree = d.tree; run = d.run }

-- with these tokens before
pub lead : {form : Form} {a good : TokenKind → Bool} {f g : Symbols → State} → (s : Symbol) (ss : Symbols) → good s.kind ≡ true → ((ts : Symbols) → oddities (s ∷ (ss ++ ts)) ≡ oddities ts)
    → ((e : Symbol) (es : Symbols) (t : State) → a e.kind ≡ true → Goes form (f (e ∷ es)) t → Goes form (g (s ∷ (ss ++ (e ∷ es)))) t) → Finish form a f → Finish form good g
lead s ss starts plain run d = record {
  head = s;
  others = ss ++ (d.head ∷ d.others);
  starts = starts;
  plain = plain (d.head ∷ d.others) ∙ d.plain;
  tree = d.tree;
  run = run d.head d.others (mc.done d.tree) d.starts d.run;
}

-- the same tokens
pub same : {form : Form} {a good : TokenKind → Bool} {f g : Symbols → State} → ((kind : TokenKind) → a kind ≡ true → good kind ≡ true)
    → ((e : Symbol) (es : Symbols) (t : State) → a e.kind ≡ true → Goes form (f (e ∷ es)) t → Goes form (g (e ∷ es)) t) → Finish form a f → Finish form good g
same wider run d = record { head = d.head; others = d.others; starts = wider d.head.kind d.starts; plain = d.plain; tree = d.tree; run = run d.head d.others (mc.done d.tree) d.starts d.run }

-- ---- kinds of tokens

abbrev pub any : TokenKind → Bool
any kind = true

-- what closes an expression
abbrev pub closes : TokenKind → Bool
closes (k.Mark m.CloseParenthesis) = true
closes (k.Mark m.CloseBracket) = true
closes (k.Mark m.CloseBrace) = true
closes (k.Mark m.Semicolon) = true
closes (k.Mark m.Colon) = true
closes _ = false

-- what may follow an operand, or the callee of `new`
abbrev pub linked : Bool → TokenKind → Bool
linked true kind = closes kind
linked false kind = closes kind || mc.is_open_parenthesis kind

-- what closes a part of a `for` header
abbrev pub splits : TokenKind → Bool
splits (k.Mark m.Semicolon) = true
splits (k.Mark m.CloseParenthesis) = true
splits _ = false

pub all-any : (a : TokenKind → Bool) (kind : TokenKind) → a kind ≡ true → any kind ≡ true
all-any a kind h = refl

pub closes-linked : (c : Bool) (kind : TokenKind) → closes kind ≡ true → linked c kind ≡ true
closes-linked true kind h = h
closes-linked false kind h = ap (λ a. a || mc.is_open_parenthesis kind) h

closer : (P : TokenKind → Type 0) → P (k.Mark m.CloseParenthesis) → P (k.Mark m.CloseBracket) → P (k.Mark m.CloseBrace) → P (k.Mark m.Semicolon) → P (k.Mark m.Colon)
    → (kind : TokenKind) → closes kind ≡ true → P kind
closer P a b c d e (k.Mark m.CloseParenthesis) h = a
closer P a b c d e (k.Mark m.CloseBracket) h = b
closer P a b c d e (k.Mark m.CloseBrace) h = c
closer P a b c d e (k.Mark m.Semicolon) h = d
closer P a b c d e (k.Mark m.Colon) h = e
closer P a b c d e _ h = absurd cc

-- ---- what passes on such a token

run-comma-tail : {form : Form} {room : Room} {i : Bool} {x : Expr} {next : To Expr} {s : Symbol} {ts : Symbols} {t : State} → closes s.kind ≡ true → Goes form (next x (s ∷ ts)) t → Goes form (mc.comma_tail room i x next (s ∷ ts)) t
run-comma-tail {room = room} {i = i} {x = x} {next = next} {s = s} {ts = ts} h d = stepped (closer (λ kind. mc.comma_by kind room i x next s ts ≡ next x (s ∷ ts)) refl refl refl refl refl s.kind h) d

run-choice : {form : Form} {room : Room} {i : Bool} {x : Expr} {next : To Expr} {s : Symbol} {ts : Symbols} {t : State} → closes s.kind ≡ true → Goes form (next x (s ∷ ts)) t → Goes form (mc.choice room i x next (s ∷ ts)) t
run-choice {room = room} {i = i} {x = x} {next = next} {s = s} {ts = ts} h d = stepped (closer (λ kind. mc.choice_by kind room i x next s ts ≡ next x (s ∷ ts)) refl refl refl refl refl s.kind h) d

run-tail : {form : Form} {room : Room} {i : Bool} {least : ℕ} {x : Expr} {next : To Expr} {s : Symbol} {ts : Symbols} {t : State} → closes s.kind ≡ true → Goes form (next x (s ∷ ts)) t → Goes form (mc.tail room i least x next (s ∷ ts)) t
run-tail {room = room} {i = i} {least = least} {x = x} {next = next} {s = s} {ts = ts} h d =
    stepped (closer (λ kind. mc.tail_by (mc.operator_of kind) room i least x next s ts ≡ next x (s ∷ ts)) refl refl refl refl refl s.kind h) d

run-postfix : {form : Form} {room : Room} {x : Expr} {next : To Expr} {s : Symbol} {ts : Symbols} {t : State} → closes s.kind ≡ true → Goes form (next x (s ∷ ts)) t → Goes form (mc.postfix room x next (s ∷ ts)) t
run-postfix {room = room} {x = x} {next = next} {s = s} {ts = ts} h d = stepped (closer (λ kind. mc.postfix_by kind s.newline room x next s ts ≡ next x (s ∷ ts)) refl refl refl refl refl s.kind h) d

run-links : {form : Form} {room : Room} {c : Bool} {x : Expr} {next : To Expr} {s : Symbol} {ts : Symbols} {t : State} → linked c s.kind ≡ true → Goes form (next x (s ∷ ts)) t → Goes form (mc.links room c x next (s ∷ ts)) t
run-links {form = form} {room = room} {c = c} {x = x} {next = next} {s = s} {ts = ts} h d = stepped (at c s.kind h) d
  where
    at : (c : Bool) (kind : TokenKind) → linked c kind ≡ true → mc.links_by form kind room c x next s ts ≡ next x (s ∷ ts)
    at true kind h = closer (λ kind. mc.links_by form kind room true x next s ts ≡ next x (s ∷ ts)) refl refl refl refl refl kind h
    at false (k.Mark m.OpenParenthesis) h = refl
    at false (k.Mark m.CloseParenthesis) h = refl
    at false (k.Mark m.CloseBracket) h = refl
    at false (k.Mark m.CloseBrace) h = refl
    at false (k.Mark m.Semicolon) h = refl
    at false (k.Mark m.Colon) h = refl
    at false _ h = absurd cc

pub passing : {form : Form} {s t : State} → (a : Bool) (left : Symbols) → a ≡ true → Goes form s t → Goes form (mc.guard a left s) t
passing {form = form} {s = s} {t = t} a left h d = subst (λ a. Goes form (mc.guard a left s) t) (sym h) d

-- ---- a name is read

abbrev pub letter : Name
letter = 98 ∷ []

abbrev pub b : Symbol
b = name letter false

pub not-eval : (form : Form) (n : Name) → is_reference form n ≡ true → is_eval n ≡ false
not-eval form n h = at (may_stand form n) (is_eval n) h
  where
    at : (a c : Bool) → (a && not (c || (is_function_name n || is_infinity n))) ≡ true → c ≡ false
    at a false h = refl
    at true true h = cc
    at false true h = cc

read-operand : {form : Form} {c : Bool} {next : To Expr} {e : Symbol} {es : Symbols} {t : State} → (s : Symbol) (n : Name) → s.kind ≡ k.Name n → is_reference form n ≡ true → linked c e.kind ≡ true
    → Goes form (next (Tree.Ident n) (e ∷ es)) t → Goes form (mc.operand unbounded c next (s ∷ e ∷ es)) t
read-operand {form = form} {c = c} {next = next} {e = e} {es = es} {t = t} s n i is h d =
    then_on (subst (λ kind. Goes form (mc.operand_by form kind unbounded c next s (e ∷ es)) t) (sym i)
    (subst (λ a. Goes form (mc.name_by a form n unbounded c next s (e ∷ es)) t) (sym (not-eval form n is)) (passing (is_reference form n) (s ∷ e ∷ es) is (run-links h d))))

read-unary : {form : Form} {next : To Expr} {e : Symbol} {es : Symbols} {t : State} → (s : Symbol) (n : Name) → s.kind ≡ k.Name n → is_reference form n ≡ true → closes e.kind ≡ true
    → Goes form (next (Tree.Ident n) (e ∷ es)) t → Goes form (mc.unary unbounded next (s ∷ e ∷ es)) t
read-unary {form = form} {next = next} {e = e} {es = es} {t = t} s n i is h d =
    then_on (subst (λ kind. Goes form (mc.unary_by (mc.prefix_of kind) unbounded next s (e ∷ es)) t) (sym i) (read-operand s n i is (closes-linked true e.kind h) (run-postfix h d)))

read-climb : {form : Form} {i : Bool} {least : ℕ} {next : To Expr} {e : Symbol} {es : Symbols} {t : State} → (s : Symbol) (n : Name) → s.kind ≡ k.Name n → is_reference form n ≡ true → closes e.kind ≡ true
    → Goes form (next (Tree.Ident n) (e ∷ es)) t → Goes form (mc.climb unbounded i least next (s ∷ e ∷ es)) t
read-climb s n i is h d = then_on (read-unary s n i is h (run-tail h d))

read-assign : {form : Form} {i : Bool} {next : To Expr} {e : Symbol} {es : Symbols} {t : State} → (s : Symbol) (n : Name) → s.kind ≡ k.Name n → is_reference form n ≡ true → closes e.kind ≡ true
    → Goes form (next (Tree.Ident n) (e ∷ es)) t → Goes form (mc.assign unbounded i next (s ∷ e ∷ es)) t
read-assign s n i is h d = then_on (read-climb s n i is h (run-choice h d))

pub read-comma : {form : Form} {i : Bool} {next : To Expr} {e : Symbol} {es : Symbols} {t : State} → (s : Symbol) (n : Name) → s.kind ≡ k.Name n → is_reference form n ≡ true → closes e.kind ≡ true
    → Goes form (next (Tree.Ident n) (e ∷ es)) t → Goes form (mc.comma unbounded i next (s ∷ e ∷ es)) t
read-comma s n i is h d = then_on (read-assign s n i is h (run-comma-tail h d))

pub letter-is : (form : Form) → is_reference form letter ≡ true
letter-is form = refl

-- ---- expressions

pub f-comma : {form : Form} {i : Bool} {next : To Expr} → ((x : Expr) → Finish form closes (next x)) → Finish form any (mc.comma unbounded i next)
f-comma {form = form} d = lead b [] refl (λ ts. refl) (λ e es t h d. read-comma b letter refl (letter-is form) h d) (d (Tree.Ident letter))

pub f-assign : {form : Form} {i : Bool} {next : To Expr} → ((x : Expr) → Finish form closes (next x)) → Finish form any (mc.assign unbounded i next)
f-assign {form = form} d = lead b [] refl (λ ts. refl) (λ e es t h d. read-assign b letter refl (letter-is form) h d) (d (Tree.Ident letter))

pub f-climb : {form : Form} {i : Bool} {least : ℕ} {next : To Expr} → ((x : Expr) → Finish form closes (next x)) → Finish form any (mc.climb unbounded i least next)
f-climb {form = form} d = lead b [] refl (λ ts. refl) (λ e es t h d. read-climb b letter refl (letter-is form) h d) (d (Tree.Ident letter))

pub f-unary : {form : Form} {next : To Expr} → ((x : Expr) → Finish form closes (next x)) → Finish form any (mc.unary unbounded next)
f-unary {form = form} d = lead b [] refl (λ ts. refl) (λ e es t h d. read-unary b letter refl (letter-is form) h d) (d (Tree.Ident letter))

pub f-operand : {form : Form} {c : Bool} {next : To Expr} → ((x : Expr) → is_target x ≡ true → Finish form (linked c) (next x)) → Finish form any (mc.operand unbounded c next)
f-operand {form = form} d = lead b [] refl (λ ts. refl) (λ e es t h d. read-operand b letter refl (letter-is form) h d) (d (Tree.Ident letter) refl)

pub f-comma-tail : {form : Form} {i : Bool} {x : Expr} {next : To Expr} → Finish form closes (next x) → Finish form closes (mc.comma_tail unbounded i x next)
f-comma-tail d = same (λ kind h. h) (λ e es t h d. run-comma-tail h d) d

pub f-choice : {form : Form} {i : Bool} {x : Expr} {next : To Expr} → Finish form closes (next x) → Finish form closes (mc.choice unbounded i x next)
f-choice d = same (λ kind h. h) (λ e es t h d. run-choice h d) d

pub f-tail : {form : Form} {i : Bool} {least : ℕ} {x : Expr} {next : To Expr} → Finish form closes (next x) → Finish form closes (mc.tail unbounded i least x next)
f-tail d = same (λ kind h. h) (λ e es t h d. run-tail h d) d

pub f-postfix : {form : Form} {x : Expr} {next : To Expr} → Finish form closes (next x) → Finish form closes (mc.postfix unbounded x next)
f-postfix d = same (λ kind h. h) (λ e es t h d. run-postfix h d) d

-- a name behind a dot makes a target
pub f-links : {form : Form} {c : Bool} {x : Expr} {next : To Expr} → ((x : Expr) → is_target x ≡ true → Finish form (linked c) (next x)) → Finish form any (mc.links unbounded c x next)
f-links {x = x} d = lead (mark m.Dot false) (b ∷ []) refl (λ ts. refl) (λ e es t h d. then_on (run-links h d)) (d (Tree.Dot x letter) refl)

pub f-dot : {form : Form} {c : Bool} {x : Expr} {next : To Expr} → ((x : Expr) → is_target x ≡ true → Finish form (linked c) (next x)) → Finish form any (mc.dot form unbounded c x next)
f-dot {x = x} d = lead b [] refl (λ ts. refl) (λ e es t h d. run-links h d) (d (Tree.Dot x letter) refl)

pub f-after-new : {form : Form} {c : Bool} {x : Expr} {next : To Expr} → ((x : Expr) → is_target x ≡ true → Finish form (linked c) (next x)) → Finish form (linked false) (mc.after_new unbounded c x next)
f-after-new {x = x} d =
    lead (mark m.OpenParenthesis false) (mark m.CloseParenthesis false ∷ mark m.Dot false ∷ b ∷ []) refl (λ ts. refl) (λ e es t h d. then_on (then_on (run-links h d))) (d (Tree.Dot (Tree.New x Tree.NoExprs) letter) refl)

pub f-late-number : {form : Form} {c : Bool} {next : To Expr} → ((x : Expr) → is_target x ≡ true → Finish form (linked c) (next x)) → Finish form any (mc.late_number unbounded c next)
f-late-number d =
    lead (number 1 false) (mark m.CloseParenthesis false ∷ mark m.CloseParenthesis false ∷ mark m.Dot false ∷ b ∷ []) refl (λ ts. refl) (λ e es t h d. then_on (run-links h d)) (d (Tree.Dot (Tree.Late 1) letter) refl)

pub f-arguments : {form : Form} {next : To Exprs} → ((x : Exprs) → Finish form mc.is_close_parenthesis (next x)) → Finish form any (mc.arguments unbounded next)
f-arguments {next = next} d = same (all-any mc.is_close_parenthesis) (λ e es t h d. stepped (at e es e.kind h) d) (d Tree.NoExprs)
  where
    at : (s : Symbol) (ts : Symbols) (kind : TokenKind) → mc.is_close_parenthesis kind ≡ true → mc.arguments_by kind unbounded next s ts ≡ next Tree.NoExprs (s ∷ ts)
    at s ts (k.Mark m.CloseParenthesis) h = refl
    at s ts _ h = absurd cc

paren-closes : (kind : TokenKind) → mc.is_close_parenthesis kind ≡ true → closes kind ≡ true
paren-closes (k.Mark m.CloseParenthesis) h = refl
paren-closes _ h = absurd cc

from : {form : Form} {s t o : State} → s ≡ t → Goes form t o → Goes form s o
from {form = form} {o = o} e d = subst (λ s. Goes form s o) (sym e) d

pub f-after-argument : {form : Form} {x : Expr} {next : To Exprs} → ((x : Exprs) → Finish form mc.is_close_parenthesis (next x)) → Finish form closes (mc.after_argument unbounded x next)
f-after-argument {x = x} {next = next} d = same paren-closes (λ e es t h d. from (at e es e.kind h) d) (d (Tree.MoreExprs x Tree.NoExprs))
  where
    at : (s : Symbol) (ts : Symbols) (kind : TokenKind) → mc.is_close_parenthesis kind ≡ true → mc.argument_by kind unbounded x next s ts ≡ next (Tree.MoreExprs x Tree.NoExprs) (s ∷ ts)
    at s ts (k.Mark m.CloseParenthesis) h = refl
    at s ts _ h = absurd cc

pub f-argument-list : {form : Form} {next : To Exprs} → ((x : Exprs) → Finish form mc.is_close_parenthesis (next x)) → Finish form any (mc.argument_list unbounded next)
f-argument-list {form = form} d = lead b [] refl (λ ts. refl) (λ e es t h d. then_on (read-assign b letter refl (letter-is form) h d)) (f-after-argument {x = Tree.Ident letter} d)

bracket-closes : (kind : TokenKind) → mc.is_close_bracket kind ≡ true → closes kind ≡ true
bracket-closes (k.Mark m.CloseBracket) h = refl
bracket-closes _ h = absurd cc

pub f-elements : {form : Form} {next : To Elements} → ((x : Elements) → Finish form mc.is_close_bracket (next x)) → Finish form any (mc.elements unbounded next)
f-elements {next = next} d = same (all-any mc.is_close_bracket) (λ e es t h d. stepped (at e es e.kind h) d) (d Tree.NoElements)
  where
    at : (s : Symbol) (ts : Symbols) (kind : TokenKind) → mc.is_close_bracket kind ≡ true → mc.elements_by kind unbounded next s ts ≡ next Tree.NoElements (s ∷ ts)
    at s ts (k.Mark m.CloseBracket) h = refl
    at s ts _ h = absurd cc

pub f-after-element : {form : Form} {x : Expr} {next : To Elements} → ((x : Elements) → Finish form mc.is_close_bracket (next x)) → Finish form closes (mc.after_element unbounded x next)
f-after-element {x = x} {next = next} d = same bracket-closes (λ e es t h d. from (at e es e.kind h) d) (d (Tree.MoreElements (Tree.AnExpr x) Tree.NoElements))
  where
    at : (s : Symbol) (ts : Symbols) (kind : TokenKind) → mc.is_close_bracket kind ≡ true → mc.element_by kind unbounded x next s ts ≡ next (Tree.MoreElements (Tree.AnExpr x) Tree.NoElements) (s ∷ ts)
    at s ts (k.Mark m.CloseBracket) h = refl
    at s ts _ h = absurd cc

brace-closes : (kind : TokenKind) → mc.is_close_brace kind ≡ true → closes kind ≡ true
brace-closes (k.Mark m.CloseBrace) h = refl
brace-closes _ h = absurd cc

pub f-pairs : {form : Form} {next : To Pairs} → ((x : Pairs) → Finish form mc.is_close_brace (next x)) → Finish form any (mc.pairs unbounded next)
f-pairs {form = form} {next = next} d = same (all-any mc.is_close_brace) (λ e es t h d. stepped (at e es e.kind h) d) (d Tree.NoPairs)
  where
    at : (s : Symbol) (ts : Symbols) (kind : TokenKind) → mc.is_close_brace kind ≡ true → mc.pairs_by (key_of form kind) unbounded next s ts ≡ next Tree.NoPairs (s ∷ ts)
    at s ts (k.Mark m.CloseBrace) h = refl
    at s ts _ h = absurd cc

pub f-after-pair : {form : Form} {key : Name} {x : Expr} {next : To Pairs} → ((x : Pairs) → Finish form mc.is_close_brace (next x)) → Finish form closes (mc.after_pair unbounded key x next)
f-after-pair {key = key} {x = x} {next = next} d = same brace-closes (λ e es t h d. from (at e es e.kind h) d) (d (Tree.MorePairs key x Tree.NoPairs))
  where
    at : (s : Symbol) (ts : Symbols) (kind : TokenKind) → mc.is_close_brace kind ≡ true → mc.pair_by kind unbounded key x next s ts ≡ next (Tree.MorePairs key x Tree.NoPairs) (s ∷ ts)
    at s ts (k.Mark m.CloseBrace) h = refl
    at s ts _ h = absurd cc

-- ---- functions and declarators

-- a function without formals and statements
pub f-rest : {form : Form} {next : List Name → Stmts → Symbols → State} → ((ns : List Name) (body : Stmts) → Finish form any (next ns body)) → Finish form any (mc.rest unbounded next)
f-rest d =
    lead (mark m.OpenParenthesis false) (mark m.CloseParenthesis false ∷ mark m.OpenBrace false ∷ mark m.CloseBrace false ∷ []) refl (λ ts. refl) (λ e es t h d. then_on (then_on (then_on d))) (d [] Tree.NoStmts)

pub f-function : {form : Form} {c : Bool} {next : To Expr} → ((x : Expr) → is_target x ≡ true → Finish form (linked c) (next x)) → Finish form any (mc.function form unbounded c next)
f-function d =
    lead (mark m.OpenParenthesis false) (mark m.CloseParenthesis false ∷ mark m.OpenBrace false ∷ mark m.CloseBrace false ∷ mark m.Dot false ∷ b ∷ []) refl (λ ts. refl)
    (λ e es t h d. then_on (then_on (then_on (then_on (run-links h d))))) (d (Tree.Dot (Tree.Function _) letter) refl)

pub f-formals : {form : Form} {before : List Name} {next : To (List Name)} → ((x : List Name) → Finish form mc.is_close_parenthesis (next x)) → Finish form any (mc.formals before next)
f-formals {form = form} {before = before} {next = next} d = same (all-any mc.is_close_parenthesis) (λ e es t h d. stepped (at e es e.kind h) d) (d [])
  where
    at : (s : Symbol) (ts : Symbols) (kind : TokenKind) → mc.is_close_parenthesis kind ≡ true → mc.formals_by form kind before next s ts ≡ next [] (s ∷ ts)
    at s ts (k.Mark m.CloseParenthesis) h = refl
    at s ts _ h = absurd cc

pub formal-ends : (before : List Name) {n : Name} (next : To (List Name)) (s : Symbol) (ts : Symbols) (kind : TokenKind) → mc.is_close_parenthesis kind ≡ true → mc.formal_by kind before n next s ts ≡ next (n ∷ []) (s ∷ ts)
formal-ends before next s ts (k.Mark m.CloseParenthesis) h = refl
formal-ends before next s ts _ h = absurd cc

pub f-after-formal : {form : Form} {before : List Name} {n : Name} {next : To (List Name)} → ((x : List Name) → Finish form mc.is_close_parenthesis (next x)) → Finish form any (mc.after_formal before n next)
f-after-formal {n = n} {next = next} d = same (all-any mc.is_close_parenthesis) (λ e es t h d. from (formal-ends _ next e es e.kind h) d) (d (n ∷ []))

pub f-initialiser : {form : Form} {i : Bool} {n : Name} {next : Name → MaybeExpr → Symbols → State} → ((n : Name) (value : MaybeExpr) → Finish form mc.is_semicolon (next n value)) → Finish form mc.is_semicolon (mc.initialiser unbounded i n next)
f-initialiser {i = i} {n = n} {next = next} d = same (λ kind h. h) (λ e es t h d. from (at e es e.kind h) d) (d n Tree.NoExpr)
  where
    at : (s : Symbol) (ts : Symbols) (kind : TokenKind) → mc.is_semicolon kind ≡ true → mc.initialiser_by kind unbounded i n next s ts ≡ next n Tree.NoExpr (s ∷ ts)
    at s ts (k.Mark m.Semicolon) h = refl
    at s ts _ h = absurd cc

letter-binds : (form : Form) → is_binding form letter ≡ true
letter-binds form = refl

pub f-declarator : {form : Form} {i : Bool} {next : Name → MaybeExpr → Symbols → State} → ((n : Name) (value : MaybeExpr) → Finish form mc.is_semicolon (next n value)) → Finish form any (mc.declarator unbounded i next)
f-declarator d = lead b [] refl (λ ts. refl) (λ e es t h d. then_on d) (f-initialiser {n = letter} d)

pub f-after-declarator : {form : Form} {i : Bool} {n : Name} {value : MaybeExpr} {next : To VarItems} → ((x : VarItems) → Finish form mc.is_semicolon (next x)) → Finish form mc.is_semicolon (mc.after_declarator unbounded i n value next)
f-after-declarator {i = i} {n = n} {value = value} {next = next} d = same (λ kind h. h) (λ e es t h d. from (at e es e.kind h) d) (d (Tree.MoreVarItems n value Tree.NoVarItems))
  where
    at : (s : Symbol) (ts : Symbols) (kind : TokenKind) → mc.is_semicolon kind ≡ true → mc.declarators_by kind unbounded i n value next s ts ≡ next (Tree.MoreVarItems n value Tree.NoVarItems) (s ∷ ts)
    at s ts (k.Mark m.Semicolon) h = refl
    at s ts _ h = absurd cc

pub f-declarators : {form : Form} {i : Bool} {next : To VarItems} → ((x : VarItems) → Finish form mc.is_semicolon (next x)) → Finish form any (mc.declarators unbounded i next)
f-declarators d = lead b [] refl (λ ts. refl) (λ e es t h d. then_on (then_on d)) (f-initialiser {n = letter} (λ n value. f-after-declarator d))

pub f-optional : {form : Form} {next : To MaybeExpr} → ((x : MaybeExpr) → Finish form splits (next x)) → Finish form any (mc.optional unbounded next)
f-optional {next = next} d = same (all-any splits) (λ e es t h d. stepped (at e es e.kind h) d) (d Tree.NoExpr)
  where
    at : (s : Symbol) (ts : Symbols) (kind : TokenKind) → splits kind ≡ true → mc.optional_by kind unbounded next s ts ≡ next Tree.NoExpr (s ∷ ts)
    at s ts (k.Mark m.Semicolon) h = refl
    at s ts (k.Mark m.CloseParenthesis) h = refl
    at s ts _ h = absurd cc

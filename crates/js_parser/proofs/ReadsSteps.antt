-- What the machine does where expressions, declarators and statements begin and end.
use Rattle.std.proofs.Common.{◌≡◌, ◌≢◌, ℕ, ◌<◌, Bool, true, false, not, ◌&&◌, ◌||◌, List, [], ◌∷◌, ◌++◌, None, refl, ap, sym, ◌∙◌, subst, arith, lit<}
use Rattle.std.proofs.lemmas.List.{append_assoc}
use Rattle.js_lexer.specs.Words.{is_spelled}
use Rattle.js_lexer.specs.declared.mark.Mark.TheVariants as m
use Rattle.js_lexer.specs.declared.word.Word.TheVariants as w
use Rattle.js_lexer.specs.declared.token.TokenKind.{TokenKind}
use Rattle.js_lexer.specs.declared.token.TokenKind.TheVariants as k
use Rattle.js_tree.specs.declared.tree.PostfixOp.{PostfixOp}
use Rattle.js_tree.specs.declared.tree.PostfixOp.TheVariants as q
use Rattle.js_tree.specs.Tree.{Name, Expr, Exprs, MaybeExpr, Elements, Stmts, VarItems}
use Rattle.js_tree.specs.Tree
use Rattle.js_parser.specs.declared.form.Form.{Form}
use Rattle.js_parser.specs.Symbols.{Symbol, Symbols, word, mark}
use Rattle.js_parser.specs.Operators.{postfix_sign, is_target}
use Rattle.js_parser.specs.Names.{is_eval, is_function_name, is_infinity, may_stand, is_reference, is_binding, is_among, is_distinct}
use Rattle.js_parser.specs.Ends.{Ends, ends_changed, kind_reach, reach, bare_reach, list_reach, declarator_reach}
use Rattle.js_parser.specs.Ends as e
use Rattle.js_parser.specs.Grammar.{Formals, Arguments, FunctionRest, DeclaratorList, code}
use Rattle.js_parser.specs.Grammar as g
use Rattle.js_parser.proofs.Levels.{is_empty, more}
use Rattle.js_parser.proofs.EndTokens.{Starts, begins}
use Rattle.js_parser.specs.Rooms.{Room, inside, in_function, fits_around}
use Rattle.js_parser.specs.Machine.{State, comma, assign, links, arguments, argument_list, rest, formals, formal, statement, To, step, Goes, here, then_on}
use Rattle.js_parser.specs.Machine as mc
use Rattle.js_parser.proofs.Runs.{stepped, allowed}
use Rattle.js_parser.proofs.ReadsStops.{front, kind_reach_in, reach_in, reach_of}

-- ---- small laws

pub same : {form : Form} {s t : State} → s ≡ t → Goes form s t
same {form = form} {s = s} e = subst (λ t. Goes form s t) e here

pub from : {form : Form} {s t o : State} → s ≡ t → Goes form t o → Goes form s o
from {form = form} {o = o} e d = subst (λ s. Goes form s o) (sym e) d

pub right : (a c : Bool) → (a && c) ≡ true → c ≡ true
right true c h = h
right false c h = absurd cc

pub left : (a c : Bool) → (a && c) ≡ true → a ≡ true
left true c h = refl
left false c h = cc

pub both : (a c : Bool) → a ≡ true → c ≡ true → (a && c) ≡ true
both true c h i = i
both false c h i = cc

pub either : (a c : Bool) → c ≡ true → (a || c) ≡ true
either true c h = refl
either false c h = h

left-false : (a c : Bool) → (a || c) ≡ false → a ≡ false
left-false true c h = h
left-false false c h = refl

right-false : (a c : Bool) → (a || c) ≡ false → c ≡ false
right-false true c h = cc
right-false false c h = h

or-false : (a c : Bool) → a ≡ false → c ≡ false → (a || c) ≡ false
or-false true c h i = h
or-false false c h i = i

pub not-true : (a : Bool) → not a ≡ true → a ≡ false
not-true true h = cc
not-true false h = refl

pub not-or : (a c : Bool) → not (a || c) ≡ true → a ≡ false
not-or true c h = cc
not-or false c h = refl

pub not-eval : (form : Form) (n : Name) → is_reference form n ≡ true → is_eval n ≡ false
not-eval form n h = not-or (is_eval n) (is_function_name n || is_infinity n) (right (may_stand form n) (not (is_eval n || (is_function_name n || is_infinity n))) h)

pub flag-true : (c newline : Bool) (kind : TokenKind) → kind_reach_in true c newline kind ≡ kind_reach c newline kind
flag-true c newline (k.Word w.In) = refl
flag-true c newline _ = refl

-- the same to what follows, where the last tokens are the same
pub same-reach : (u v : Symbols) (i : Bool) (s : Symbol) → ends_changed u ≡ ends_changed v → reach_in i u s ≡ reach_in i v s
same-reach u v i s h = ap (λ c. kind_reach_in i c s.newline s.kind) h

pub same-reach-of : (u v : Symbols) (s : Symbol) → ends_changed u ≡ ends_changed v → reach_of u s ≡ reach_of v s
same-reach-of u v s h = ap (λ c. kind_reach c s.newline s.kind) h

-- a state whose step is told by a first token that begins an expression
pub starting : {form : Form} {t : State} (s o : Symbols → State) (u v : Symbols) → Starts begins u → ((x : Symbol) (ts : Symbols) → begins x.kind ≡ true → step form (s (x ∷ ts)) ≡ o (x ∷ ts))
    → Goes form (o (u ++ v)) t → Goes form (s (u ++ v)) t
starting {form = form} {t = t} s o u v b h d =
    subst (λ ts. Goes form (s (ts ++ v)) t) (sym b.are) (stepped (h b.head (b.others ++ v) b.passes) (subst (λ ts. Goes form (o (ts ++ v)) t) b.are d))

pub elements-start : (room : Room) (next : To Elements) (s : Symbol) (ts : Symbols) (kind : TokenKind) → begins kind ≡ true → mc.elements_by kind room next s ts ≡ assign room true (λ x r. mc.after_element room x next r) (s ∷ ts)
elements-start room next s ts (k.Mark m.CloseBracket) h = cc
elements-start room next s ts (k.Mark m.Comma) h = cc
elements-start room next s ts _ h = refl

pub arguments-start : (room : Room) (next : To Exprs) (s : Symbol) (ts : Symbols) (kind : TokenKind) → begins kind ≡ true → mc.arguments_by kind room next s ts ≡ argument_list room next (s ∷ ts)
arguments-start room next s ts (k.Mark m.CloseParenthesis) h = cc
arguments-start room next s ts _ h = refl

pub optional-start : (room : Room) (next : To MaybeExpr) (s : Symbol) (ts : Symbols) (kind : TokenKind) → begins kind ≡ true → mc.optional_by kind room next s ts ≡ comma room true (λ x r. next (Tree.AnExpr x) r) (s ∷ ts)
optional-start room next s ts (k.Mark m.Semicolon) h = cc
optional-start room next s ts (k.Mark m.CloseParenthesis) h = cc
optional-start room next s ts _ h = refl

pub post-reach : (op : PostfixOp) (c : Bool) → kind_reach c false (postfix_sign op) < 16
post-reach q.Increment true = lit< tt
post-reach q.Increment false = lit< tt
post-reach q.Decrement true = lit< tt
post-reach q.Decrement false = lit< tt

pub post-step : (op : PostfixOp) (room : Room) (x : Expr) (next : To Expr) (s : Symbol) (ts : Symbols) → is_target x ≡ true → fits_around room x ≡ true → mc.postfix_by (postfix_sign op) false room x next s ts ≡ next (Tree.Postfix x op) ts
post-step q.Increment room x next s ts h f =
    ap (λ a. mc.guard a (s ∷ ts) (mc.fitting (fits_around room x) ts (next (Tree.Postfix x q.Increment) ts))) h ∙ ap (λ a. mc.fitting a ts (next (Tree.Postfix x q.Increment) ts)) f
post-step q.Decrement room x next s ts h f =
    ap (λ a. mc.guard a (s ∷ ts) (mc.fitting (fits_around room x) ts (next (Tree.Postfix x q.Decrement) ts))) h ∙ ap (λ a. mc.fitting a ts (next (Tree.Postfix x q.Decrement) ts)) f

-- ---- arguments

abbrev pub open_arguments : Room → (Exprs → Symbols → State) → Symbols → State
open_arguments room next ts = mc.expect mc.is_open_parenthesis (arguments room (λ xs. mc.expect mc.is_close_parenthesis (next xs))) ts

pub call-step : {form : Form} {v : Symbols} {xs : Exprs} → Arguments form v xs → (room : Room) (x : Expr) (next : To Expr) (ts : Symbols) → fits_around room x ≡ true
    → step form (links room true x next (v ++ ts)) ≡ open_arguments (inside room) (λ ys. links room true (Tree.Call x ys) next) (v ++ ts)
call-step (g.no_arguments a b) room x next ts h =
    ap (λ f. mc.fitting f (mark m.CloseParenthesis b ∷ ts) (arguments (inside room) (λ ys. mc.expect mc.is_close_parenthesis (links room true (Tree.Call x ys) next)) (mark m.CloseParenthesis b ∷ ts))) h
call-step (g.arguments {u = u} a b xs) room x next ts h =
    ap (λ f. mc.fitting f ((u ++ (mark m.CloseParenthesis b ∷ [])) ++ ts) (arguments (inside room) (λ ys. mc.expect mc.is_close_parenthesis (links room true (Tree.Call x ys) next)) ((u ++ (mark m.CloseParenthesis b ∷ [])) ++ ts))) h

pub new-step : {form : Form} {v : Symbols} {xs : Exprs} → Arguments form v xs → (room : Room) (c : Bool) (x : Expr) (next : To Expr) (ts : Symbols)
    → mc.after_new room c x next (v ++ ts) ≡ open_arguments (inside room) (λ ys. links room c (Tree.New x ys) next) (v ++ ts)
new-step (g.no_arguments a b) room c x next ts = refl
new-step (g.arguments a b xs) room c x next ts = refl

pub links-paren : {form : Form} {v : Symbols} {xs : Exprs} → Arguments form v xs → (room : Room) (x : Expr) (next : To Expr) (ts : Symbols) → step form (links room false x next (v ++ ts)) ≡ next x (v ++ ts)
links-paren (g.no_arguments a b) room x next ts = refl
links-paren (g.arguments a b xs) room x next ts = refl

pub function-step : {form : Form} {u : Symbols} {ns : List Name} {body : Stmts} → FunctionRest form u ns body → (room : Room) (c : Bool) (next : To Expr) (ts : Symbols)
    → mc.function form room c next (u ++ ts) ≡ rest (in_function room) (λ ns body r. links room c (Tree.Function (code None ns body)) next r) (u ++ ts)
function-step (g.function_rest a b d f fs h body) room c next ts = refl

-- ---- formals

-- what stands before some names is distinct where all are
among-front : (n : Name) (ns others : List Name) → is_among n (ns ++ others) ≡ false → is_among n ns ≡ false
among-front n [] others h = refl
among-front n (o ∷ ns) others h = or-false (is_spelled n o) (is_among n ns) (not-or-left h) (among-front n ns others (not-or-right h))
  where
    not-or-left : (is_spelled n o || is_among n (ns ++ others)) ≡ false → is_spelled n o ≡ false
    not-or-left e = left-false (is_spelled n o) (is_among n (ns ++ others)) e

    not-or-right : (is_spelled n o || is_among n (ns ++ others)) ≡ false → is_among n (ns ++ others) ≡ false
    not-or-right e = right-false (is_spelled n o) (is_among n (ns ++ others)) e

distinct-front : (ns others : List Name) → is_distinct (ns ++ others) ≡ true → is_distinct ns ≡ true
distinct-front [] others h = refl
distinct-front (n ∷ ns) others h =
    both (not (is_among n ns)) (is_distinct ns)
    (ap not (among-front n ns others (not-true (is_among n (ns ++ others)) (left (not (is_among n (ns ++ others))) (is_distinct (ns ++ others)) h))))
    (distinct-front ns others (right (not (is_among n (ns ++ others))) (is_distinct (ns ++ others)) h))

-- the next of some names that are distinct
next-formal : (form : Form) (n : Name) (before ns : List Name) → is_binding form n ≡ true → is_distinct (before ++ (n ∷ ns)) ≡ true
    → mc.is_formal form before n ≡ true
next-formal form n before ns h d =
    both (is_binding form n) (is_distinct (mc.and_formal before n)) h
    (distinct-front (mc.and_formal before n) ns (ap is_distinct (append_assoc before (n ∷ []) ns) ∙ d))

mutual
  pub formals-read : {form : Form} {u : Symbols} {ns : List Name} → Formals form u ns → (before : List Name) → is_distinct (before ++ ns) ≡ true
      → (next : To (List Name)) (d : Bool) (ts : Symbols) → Goes form (formals before next (u ++ (mark m.CloseParenthesis d ∷ ts))) (next ns (mark m.CloseParenthesis d ∷ ts))
  formals-read g.no_formal before all next d ts = then_on here
  formals-read (g.last_formal a h) before all next d ts = then_on (allowed _ (next-formal _ _ before [] h all) here)
  formals-read (g.formal_and {n = n} {o = o} {ns = ns} a b h fs) before all next d ts =
      then_on (allowed _ (next-formal _ _ before (o ∷ ns) h all)
      (formal-read fs (mc.and_formal before n) (ap is_distinct (append_assoc before (n ∷ []) (o ∷ ns)) ∙ all) (λ ns r. next (n ∷ ns) r) d ts))

  formal-read : {form : Form} {u : Symbols} {n : Name} {ns : List Name} → Formals form u (n ∷ ns) → (before : List Name) → is_distinct (before ++ (n ∷ ns)) ≡ true
      → (next : To (List Name)) (d : Bool) (ts : Symbols) → Goes form (formal before next (u ++ (mark m.CloseParenthesis d ∷ ts))) (next (n ∷ ns) (mark m.CloseParenthesis d ∷ ts))
  formal-read (g.last_formal a h) before all next d ts = then_on (allowed _ (next-formal _ _ before [] h all) here)
  formal-read (g.formal_and {n = n} {o = o} {ns = ns} a b h fs) before all next d ts =
      then_on (allowed _ (next-formal _ _ before (o ∷ ns) h all)
      (formal-read fs (mc.and_formal before n) (ap is_distinct (append_assoc before (n ∷ []) (o ∷ ns)) ∙ all) (λ ns r. next (n ∷ ns) r) d ts))

-- ---- declarators

abbrev pub declared_in : Bool → Symbols → Symbol → MaybeExpr → ℕ
declared_in i u s Tree.NoExpr = bare_reach s.kind
declared_in i u s (Tree.AnExpr x) = reach_in i u s

abbrev pub list_in : Bool → Symbols → Symbol → VarItems → ℕ
list_in i u s Tree.NoVarItems = 0
list_in i u s (Tree.MoreVarItems n value Tree.NoVarItems) = declared_in i u s value
list_in i u s (Tree.MoreVarItems n value (Tree.MoreVarItems o other others)) = list_in i u s (Tree.MoreVarItems o other others)

pub declared-same : (i : Bool) (u v : Symbols) (s : Symbol) (value : MaybeExpr) → ends_changed u ≡ ends_changed v → declared_in i u s value ≡ declared_in i v s value
declared-same i u v s Tree.NoExpr h = refl
declared-same i u v s (Tree.AnExpr x) h = same-reach u v i s h

pub list-same : (i : Bool) (u v : Symbols) (s : Symbol) (items : VarItems) → ends_changed u ≡ ends_changed v → list_in i u s items ≡ list_in i v s items
list-same i u v s Tree.NoVarItems h = refl
list-same i u v s (Tree.MoreVarItems n value Tree.NoVarItems) h = declared-same i u v s value h
list-same i u v s (Tree.MoreVarItems n value (Tree.MoreVarItems o other others)) h = list-same i u v s (Tree.MoreVarItems o other others) h

-- a token that goes on with no declarator
pub declared-none : (i : Bool) (u : Symbols) (s : Symbol) (value : MaybeExpr) → bare_reach s.kind ≡ 0 → reach_in i u s ≡ 0 → declared_in i u s value ≡ 0
declared-none i u s Tree.NoExpr a b = a
declared-none i u s (Tree.AnExpr x) a b = b

pub list-none : (i : Bool) (u : Symbols) (s : Symbol) (items : VarItems) → bare_reach s.kind ≡ 0 → reach_in i u s ≡ 0 → list_in i u s items ≡ 0
list-none i u s Tree.NoVarItems a b = refl
list-none i u s (Tree.MoreVarItems n value Tree.NoVarItems) a b = declared-none i u s value a b
list-none i u s (Tree.MoreVarItems n value (Tree.MoreVarItems o other others)) a b = list-none i u s (Tree.MoreVarItems o other others) a b

pub declared-flag : (u : Symbols) (s : Symbol) (value : MaybeExpr) → declared_in true u s value ≡ declarator_reach u s value
declared-flag u s Tree.NoExpr = refl
declared-flag u s (Tree.AnExpr x) = flag-true (ends_changed u) s.newline s.kind

pub list-flag : (u : Symbols) (s : Symbol) (items : VarItems) → list_in true u s items ≡ list_reach u s items
list-flag u s Tree.NoVarItems = refl
list-flag u s (Tree.MoreVarItems n value Tree.NoVarItems) = declared-flag u s value
list-flag u s (Tree.MoreVarItems n value (Tree.MoreVarItems o other others)) = list-flag u s (Tree.MoreVarItems o other others)

pub bare-stop : (room : Room) (i : Bool) (n : Name) (next : Name → MaybeExpr → Symbols → State) (ts : Symbols) → bare_reach (front ts).kind < 2 → mc.initialiser room i n next ts ≡ next n Tree.NoExpr ts
bare-stop room i n next [] h = refl
bare-stop room i n next (s ∷ ts) h = at s.kind h
  where
    at : (kind : TokenKind) → bare_reach kind < 2 → mc.initialiser_by kind room i n next s ts ≡ next n Tree.NoExpr (s ∷ ts)
    at (k.Mark m.Assign) h = absurd (omega arith)
    at _ h = refl

pub bare-comma : (kind : TokenKind) → bare_reach kind < 1 → kind ≢ k.Mark m.Comma
bare-comma (k.Mark m.Comma) h e = absurd (omega arith)
bare-comma (k.Mark m.Assign) h e = cc
bare-comma kind h e = let f = ap bare_reach e in omega (arith, f)

pub reach-comma : (i c newline : Bool) (kind : TokenKind) → kind_reach_in i c newline kind < 1 → kind ≢ k.Mark m.Comma
reach-comma i c newline kind h e = let f = ap (λ kind. kind_reach_in i c newline kind) e in omega (arith, f)

pub declared-comma : (i : Bool) (u : Symbols) (s : Symbol) (value : MaybeExpr) → declared_in i u s value < 1 → s.kind ≢ k.Mark m.Comma
declared-comma i u s Tree.NoExpr h e = bare-comma s.kind h e
declared-comma i u s (Tree.AnExpr x) h e = reach-comma i (ends_changed u) s.newline s.kind h e

pub declarators-stop : (room : Room) (i : Bool) (n : Name) (value : MaybeExpr) (next : To VarItems) (ts : Symbols) → (front ts).kind ≢ k.Mark m.Comma → mc.after_declarator room i n value next ts ≡ next (Tree.MoreVarItems n value Tree.NoVarItems) ts
declarators-stop room i n value next [] h = refl
declarators-stop room i n value next (s ∷ ts) h = at s.kind h
  where
    at : (kind : TokenKind) → kind ≢ k.Mark m.Comma → mc.declarators_by kind room i n value next s ts ≡ next (Tree.MoreVarItems n value Tree.NoVarItems) (s ∷ ts)
    at (k.Mark m.Comma) h = absurd (h refl)
    at _ h = refl

pub comma-declared : (i : Bool) (u : Symbols) (c : Bool) (value : MaybeExpr) → declared_in i u (mark m.Comma c) value < 2
comma-declared i u c Tree.NoExpr = lit< tt
comma-declared i u c (Tree.AnExpr x) = lit< tt

pub semicolon-declared : (i : Bool) (u : Symbols) (c : Bool) (value : MaybeExpr) → declared_in i u (mark m.Semicolon c) value < 2
semicolon-declared i u c value = let z = declared-none i u (mark m.Semicolon c) value refl refl in omega (arith, z)

pub in-declared : (u : Symbols) (c : Bool) (value : MaybeExpr) → declared_in false u (word w.In c) value < 2
in-declared u c value = let z = declared-none false u (word w.In c) value refl refl in omega (arith, z)

pub more-items : {form : Form} {i : Bool} {v : Symbols} {items : VarItems} → DeclaratorList form i v items → (u : Symbols) (s : Symbol) (n : Name) (value : MaybeExpr) → list_in i u s (Tree.MoreVarItems n value items) ≡ list_in i u s items
more-items (g.last_declarator d) u s n value = refl
more-items (g.declarator_and c d ds) u s n value = refl

pub declarator-list-tokens : {form : Form} {i : Bool} {v : Symbols} {items : VarItems} → DeclaratorList form i v items → is_empty v ≡ false
declarator-list-tokens (g.last_declarator (g.bare c h)) = refl
declarator-list-tokens (g.last_declarator (g.initialised c d h x)) = refl
declarator-list-tokens (g.declarator_and {u = u} c d ds) = more u _ _

-- ---- ends

-- a token before which a semicolon is inserted, and which is none
pub ended-stop : (to : Symbols → State) (ts : Symbols) → mc.is_semicolon (front ts).kind ≡ false → mc.may_insert (front ts) ≡ true → mc.ended to ts ≡ to ts
ended-stop to [] h i = refl
ended-stop to (s ∷ ts) h i = ap (λ a. mc.ended_by a (mc.may_insert s) to s ts) h ∙ ap (λ a. mc.ended_by false a to s ts) i

pub insert-line : (s : Symbol) → s.newline ≡ true → mc.may_insert s ≡ true
insert-line s h = ap (λ a. a || (mc.is_close_brace s.kind || mc.is_end s.kind)) h

pub insert-brace : (s : Symbol) → s.kind ≡ k.Mark m.CloseBrace → mc.may_insert s ≡ true
insert-brace s h = either s.newline (mc.is_close_brace s.kind || mc.is_end s.kind) (ap (λ kind. mc.is_close_brace kind || mc.is_end kind) h)

pub insert-end : (s : Symbol) → s.kind ≡ k.End → mc.may_insert s ≡ true
insert-end s h = either s.newline (mc.is_close_brace s.kind || mc.is_end s.kind) (ap (λ kind. mc.is_close_brace kind || mc.is_end kind) h)

pub no-semicolon : (kind : TokenKind) → kind ≢ k.Mark m.Semicolon → mc.is_semicolon kind ≡ false
no-semicolon (k.Mark m.Semicolon) h = absurd (h refl)
no-semicolon _ h = refl

-- the end of a statement is behind it
pub ended-read : {reached : ℕ} {next : Symbol} {v : Symbols} → Ends reached next v → (to : Symbols → State) (ts : Symbols) → front ts ≡ next → mc.ended to (v ++ ts) ≡ to ts
ended-read (e.written b) to ts h = refl
ended-read (e.at_brace c) to ts h = let f = ap (λ s. s.kind) h ∙ c in ended-stop to ts (ap mc.is_semicolon f) (insert-brace (front ts) f)
ended-read (e.at_end c) to ts h = let f = ap (λ s. s.kind) h ∙ c in ended-stop to ts (ap mc.is_semicolon f) (insert-end (front ts) f)
ended-read {next = next} (e.at_line a b c) to ts h =
    ended-stop to ts (ap (λ s. mc.is_semicolon s.kind) h ∙ no-semicolon next.kind c) (insert-line (front ts) (ap (λ s. s.newline) h ∙ a))

-- and what follows an expression before it goes on with none
pub ends-follow : {next : Symbol} {v : Symbols} (u : Symbols) → Ends (reach u next) next v → (ts : Symbols) → front ts ≡ next → reach_in true u (front (v ++ ts)) < 1
ends-follow u (e.written b) ts h = lit< tt
ends-follow {next = next} u (e.at_brace c) ts h = let z = ap (λ s. reach_in true u s) h in let o = ap (λ kind. kind_reach_in true (ends_changed u) next.newline kind) c in omega (arith, z, o)
ends-follow {next = next} u (e.at_end c) ts h = let z = ap (λ s. reach_in true u s) h in let o = ap (λ kind. kind_reach_in true (ends_changed u) next.newline kind) c in omega (arith, z, o)
ends-follow {next = next} u (e.at_line a b c) ts h = let z = ap (λ s. reach_in true u s) h in let o = flag-true (ends_changed u) next.newline next.kind in omega (arith, z, o, b)

pub list-follow : {next : Symbol} {v : Symbols} (u : Symbols) (items : VarItems) → Ends (list_reach u next items) next v → (ts : Symbols) → front ts ≡ next → list_in true u (front (v ++ ts)) items < 1
list-follow u items (e.written b) ts h = let z = list-none true u (mark m.Semicolon b) items refl refl in omega (arith, z)
list-follow {next = next} u items (e.at_brace c) ts h = let z = ap (λ s. list_in true u s items) h in
    let o = list-none true u next items (ap bare_reach c) (ap (λ kind. kind_reach_in true (ends_changed u) next.newline kind) c) in omega (arith, z, o)
list-follow {next = next} u items (e.at_end c) ts h = let z = ap (λ s. list_in true u s items) h in
    let o = list-none true u next items (ap bare_reach c) (ap (λ kind. kind_reach_in true (ends_changed u) next.newline kind) c) in omega (arith, z, o)
list-follow {next = next} u items (e.at_line a b c) ts h = let z = ap (λ s. list_in true u s items) h in let o = list-flag u next items in omega (arith, z, o, b)

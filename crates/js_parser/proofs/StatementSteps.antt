-- The steps of the machine at statements, by what the parser asks of the tokens.
use Rattle.std.proofs.Common.{◌≡◌, Bool, true, false, [], ◌∷◌, sym, ◌∙◌, subst, Result, Err}
use Rattle.js_lexer.specs.declared.word.Word.TheVariants as w
use Rattle.js_lexer.specs.declared.token.TokenKind.{TokenKind}
use Rattle.js_lexer.specs.declared.token.TokenKind.TheVariants as k
use Rattle.js_tree.specs.Tree.{Expr, Stmt}
use Rattle.js_tree.specs.Tree
use Rattle.js_parser.specs.declared.form.Form.{Form}
use Rattle.js_parser.specs.declared.stop.Stop.{Stop}
use Rattle.js_parser.specs.declared.stop.Stop.TheVariants.{Deep, OutOfMemory}
use Rattle.js_parser.specs.Symbols.{Symbol, Symbols, behind}
use Rattle.js_parser.specs.Contexts.{Context}
use Rattle.js_parser.specs.Contexts as context
use Rattle.js_parser.specs.Marks.{is_else}
use Rattle.js_parser.specs.Rooms.{Room, inside}
use Rattle.js_parser.specs.Machine.{State, To, stuck, deep, guard, fitting, statement, ended_by, ended, ended_at_once, is_semicolon, after_if, if_by, Goes, here}
use Rattle.js_parser.specs.StatementKinds.{may_end, semicolon_on_line}
use Rattle.js_parser.specs.Reads.{Reads, Comes, has_no_room, is_unknown, at}
use Rattle.js_parser.proofs.Runs.{allowed, fitted}

-- where memory fails, nothing is said
pub unknown : {A : Type 0} {form : Form} {s : State} {on : A → State} {left : Symbols} {e : Stop} {r : Result A Stop} → (y : Stop) × (r ≡ Err y) × (y ≡ e) → e ≡ OutOfMemory → Comes form s on left r
unknown {form = form} {s = s} {on = on} {left = left} h e =
    subst (λ r. Comes form s on left r) (sym h.1) (subst (λ y. Comes form s on left (Err y)) (sym (h.2 ∙ e)) is_unknown)

-- ---- ends

by_semicolon : {form : Form} (a b : Bool) (next : Symbols → State) (s : Symbol) (ts : Symbols) → a ≡ true → Goes form (ended_by a b next s ts) (next ts)
by_semicolon true b next s ts h = here
by_semicolon false b next s ts h = cc

by_insertion : {form : Form} (a b : Bool) (next : Symbols → State) (s : Symbol) (ts : Symbols) → a ≡ false → b ≡ true → Goes form (ended_by a b next s ts) (next (s ∷ ts))
by_insertion true b next s ts h i = cc
by_insertion false true next s ts h i = here
by_insertion false false next s ts h i = cc

by_nothing : {form : Form} (a b : Bool) (next : Symbols → State) (s : Symbol) (ts : Symbols) → a ≡ false → b ≡ false → Goes form (ended_by a b next s ts) (stuck (s ∷ ts))
by_nothing true b next s ts h i = cc
by_nothing false true next s ts h i = cc
by_nothing false false next s ts h i = here

pub at_its_end : {form : Form} (next : Symbols → State) (ts rest : Symbols) → at is_semicolon ts ≡ true → rest ≡ behind ts → Goes form (ended next ts) (next rest)
at_its_end next [] rest h e = cc
at_its_end {form = form} next (s ∷ ts) rest h e = subst (λ r. Goes form (ended next (s ∷ ts)) (next r)) (sym e) (by_semicolon _ _ next s ts h)

pub at_an_end : {form : Form} (next : Symbols → State) (ts : Symbols) → at is_semicolon ts ≡ false → may_end ts ≡ true → Goes form (ended next ts) (next ts)
at_an_end next [] h i = here
at_an_end next (s ∷ ts) h i = by_insertion _ _ next s ts h i

pub at_no_end : {form : Form} (next : Symbols → State) (ts : Symbols) → at is_semicolon ts ≡ false → may_end ts ≡ false → Goes form (ended next ts) (stuck ts)
at_no_end next [] h i = cc
at_no_end next (s ∷ ts) h i = by_nothing _ _ next s ts h i

pub at_its_end_at_once : {form : Form} (next : Symbols → State) (ts rest : Symbols) → semicolon_on_line ts ≡ true → rest ≡ behind ts → Goes form (ended_at_once next ts) (next rest)
at_its_end_at_once next [] rest h e = cc
at_its_end_at_once {form = form} next (s ∷ ts) rest h e = subst (λ r. Goes form (ended_at_once next (s ∷ ts)) (next r)) (sym e) (by_semicolon _ _ next s ts h)

pub at_an_end_at_once : {form : Form} (next : Symbols → State) (ts : Symbols) → semicolon_on_line ts ≡ false → may_end ts ≡ true → Goes form (ended_at_once next ts) (next ts)
at_an_end_at_once next [] h i = here
at_an_end_at_once next (s ∷ ts) h i = by_insertion _ _ next s ts h i

pub at_no_end_at_once : {form : Form} (next : Symbols → State) (ts : Symbols) → semicolon_on_line ts ≡ false → may_end ts ≡ false → Goes form (ended_at_once next ts) (stuck ts)
at_no_end_at_once next [] h i = cc
at_no_end_at_once next (s ∷ ts) h i = by_nothing _ _ next s ts h i

-- ---- `if`

pub at_an_else : {form : Form} (room : Room) (c : Context) (x : Expr) (body : Stmt) (next : To Stmt) (ts rest : Symbols) → at is_else ts ≡ true → rest ≡ behind ts
    → Goes form (after_if room c x body next ts) (statement (inside room) (context.part c) (λ other r. next (Tree.If x body (Tree.AStmt other)) r) rest)
at_an_else room c x body next [] rest h e = cc
at_an_else {form = form} room c x body next (s ∷ ts) rest h e = subst (λ r. Goes form (after_if room c x body next (s ∷ ts)) (statement (inside room) (context.part c) (λ other o. next (Tree.If x body (Tree.AStmt other)) o) r)) (sym e) (by s.kind h)
  where
    by : (kind : TokenKind) → is_else kind ≡ true → Goes form (if_by room c kind x body next s ts) (statement (inside room) (context.part c) (λ other o. next (Tree.If x body (Tree.AStmt other)) o) ts)
    by (k.Word w.Else) h = here
    by _ h = cc

pub at_no_else : {form : Form} (room : Room) (c : Context) (x : Expr) (body : Stmt) (next : To Stmt) (ts : Symbols) → at is_else ts ≡ false
    → Goes form (after_if room c x body next ts) (next (Tree.If x body Tree.NoStmt) ts)
at_no_else room c x body next [] h = here
at_no_else {form = form} room c x body next (s ∷ ts) h = by s.kind h
  where
    by : (kind : TokenKind) → is_else kind ≡ false → Goes form (if_by room c kind x body next s ts) (next (Tree.If x body Tree.NoStmt) (s ∷ ts))
    by (k.Word w.Else) h = cc
    by _ h = here

-- ---- statements in other places

-- what is read in equal places is the same
pub moved : {A X : Type 0} {form : Form} {r : Result A Stop} {old new : Symbols} {room other : Room} {c d : Context} (view : A → X) (rule : Room → Context → To X → Symbols → State) → room ≡ other → c ≡ d → Reads form view (rule room c) r old new → Reads form view (rule other d) r old new
moved {form = form} {r = r} {old = old} {new = new} {room = room} {d = d} view rule e f h =
    subst (λ other. Reads form view (rule other d) r old new) e (subst (λ d. Reads form view (rule room d) r old new) f h)

pub moved_room : {A X : Type 0} {form : Form} {r : Result A Stop} {old new : Symbols} {room other : Room} (view : A → X) (rule : Room → To X → Symbols → State) → room ≡ other → Reads form view (rule room) r old new → Reads form view (rule other) r old new
moved_room {form = form} {r = r} {old = old} {new = new} view rule e h =
    subst (λ other. Reads form view (rule other) r old new) e h

-- ---- tokens that may not stand, and those for which there is no room

pub turned_away : {form : Form} {a : Bool} (s : State) (left : Symbols) → a ≡ false → Goes form (guard a left s) (stuck left)
turned_away {form = form} s left h = subst (λ a. Goes form (guard a left s) (stuck left)) (sym h) here

-- behind a token that may stand, and for which there is room
pub allowed_in : {form : Form} {a b : Bool} (f : Symbols → State) (ts rest : Symbols) → a ≡ true → b ≡ true → rest ≡ behind ts
    → Goes form (guard a ts (fitting b (behind ts) (f (behind ts)))) (f rest)
allowed_in {form = form} f ts rest h i e = allowed ts h (fitted (behind ts) i (subst (λ r. Goes form (f (behind ts)) (f r)) (sym e) here))

pub allowed_not_in : {A : Type 0} {form : Form} {a b : Bool} {on : A → State} (s : State) (ts rest : Symbols) → a ≡ true → b ≡ false → rest ≡ behind ts
    → Comes form (guard a ts (fitting b (behind ts) s)) on rest (Err Deep)
allowed_not_in {form = form} {b = b} s ts rest h i e =
    has_no_room (allowed ts h (subst (λ r. Goes form (fitting b (behind ts) s) (deep r)) (sym e) (subst (λ b. Goes form (fitting b (behind ts) s) (deep (behind ts))) (sym i) here)))

pub allowed_behind : {form : Form} {a : Bool} (f : Symbols → State) (ts rest : Symbols) → a ≡ true → rest ≡ behind ts
    → Goes form (guard a ts (f (behind ts))) (f rest)
allowed_behind {form = form} f ts rest h e = allowed ts h (subst (λ r. Goes form (f (behind ts)) (f r)) (sym e) here)

-- The steps of the machine at `try`, at labels and at every kind of statement, by what the parser
-- asks of the tokens.
use Rattle.std.proofs.Common.{◌≡◌, Bool, true, false, [], ◌∷◌, Some, None, Result, refl, sym, subst}
use Rattle.js_lexer.specs.declared.mark.Mark.TheVariants as m
use Rattle.js_lexer.specs.declared.word.Word.TheVariants as w
use Rattle.js_lexer.specs.declared.token.TokenKind.{TokenKind}
use Rattle.js_lexer.specs.declared.token.TokenKind.TheVariants as k
use Rattle.js_tree.specs.Tree.{Name, Stmt, Handler}
use Rattle.js_tree.specs.Tree
use Rattle.js_parser.specs.declared.form.Form.{Form}
use Rattle.js_parser.specs.declared.statement_kind.Behind.{Behind}
use Rattle.js_parser.specs.declared.statement_kind.Kind.{Kind}
use Rattle.js_parser.specs.declared.statement_kind.Kind.TheVariants as kind
use Rattle.js_parser.specs.declared.stop.Stop.{Stop}
use Rattle.js_parser.specs.Symbols.{Symbol, Symbols, behind}
use Rattle.js_parser.specs.Contexts.{Context}
use Rattle.js_parser.specs.Contexts as context
use Rattle.js_parser.specs.Marks.{is_catch, is_finally}
use Rattle.js_parser.specs.Names.{is_reference}
use Rattle.js_parser.specs.Rooms.{Room, inside}
use Rattle.js_parser.specs.Machine.{State, To, stuck, block, statement, statement_by, after_try, try_by, after_catch, finally_by, catch_by, stated, label_by, Goes, here, then_on}
use Rattle.js_parser.specs.Machine as rule
use Rattle.js_parser.specs.StatementKinds.{label_at, before_colon, catch_name, caught, behind_label, label_if, name_by, name_statement, kind_of, kind_at, behind_first, by_kind}
use Rattle.js_parser.specs.StatementPieces.{binding_by}
use Rattle.js_parser.specs.Reads.{Reads, at}

-- ---- `try`

pub at_a_catch : {form : Form} (room : Room) (c : Context) (tried : Stmt) (next : To Stmt) (ts rest : Symbols) → at is_catch ts ≡ true → rest ≡ behind ts
    → Goes form (after_try form room (context.part c) tried next ts) (caught form room c tried next rest)
at_a_catch room c tried next [] rest h e = cc
at_a_catch {form = form} room c tried next (s ∷ ts) rest h e = subst (λ r. Goes form (after_try form room (context.part c) tried next (s ∷ ts)) (caught form room c tried next r)) (sym e) (by s.kind h)
  where
    by : (kind : TokenKind) → is_catch kind ≡ true → Goes form (try_by form room (context.part c) kind tried next s ts) (caught form room c tried next ts)
    by (k.Word w.Catch) h = here
    by _ h = cc

pub at_a_finally : {form : Form} (room : Room) (c : Context) (tried : Stmt) (next : To Stmt) (ts rest : Symbols) → at is_finally ts ≡ true → rest ≡ behind ts
    → Goes form (after_try form room c tried next ts) (block (inside room) c (λ last r. next (Tree.Try tried Tree.NoHandler (Tree.AStmt last)) r) rest)
at_a_finally room c tried next [] rest h e = cc
at_a_finally {form = form} room c tried next (s ∷ ts) rest h e = subst (λ r. Goes form (after_try form room c tried next (s ∷ ts)) (block (inside room) c (λ last o. next (Tree.Try tried Tree.NoHandler (Tree.AStmt last)) o) r)) (sym e) (by s.kind h)
  where
    by : (kind : TokenKind) → is_finally kind ≡ true → Goes form (try_by form room c kind tried next s ts) (block (inside room) c (λ last o. next (Tree.Try tried Tree.NoHandler (Tree.AStmt last)) o) ts)
    by (k.Word w.Finally) h = here
    by _ h = cc

pub at_neither : {form : Form} (room : Room) (c : Context) (tried : Stmt) (next : To Stmt) (ts : Symbols) → at is_catch ts ≡ false → at is_finally ts ≡ false
    → Goes form (after_try form room c tried next ts) (stuck ts)
at_neither room c tried next [] h i = here
at_neither {form = form} room c tried next (s ∷ ts) h i = by s.kind h i
  where
    by : (kind : TokenKind) → is_catch kind ≡ false → is_finally kind ≡ false → Goes form (try_by form room c kind tried next s ts) (stuck (s ∷ ts))
    by (k.Word w.Catch) h i = cc
    by (k.Word w.Finally) h i = cc
    by _ h i = here

pub with_finally : {form : Form} (room : Room) (c : Context) (tried : Stmt) (catcher : Handler) (next : To Stmt) (ts rest : Symbols) → at is_finally ts ≡ true → rest ≡ behind ts
    → Goes form (after_catch room c tried catcher next ts) (block (inside room) c (λ last r. next (Tree.Try tried catcher (Tree.AStmt last)) r) rest)
with_finally room c tried catcher next [] rest h e = cc
with_finally {form = form} room c tried catcher next (s ∷ ts) rest h e = subst (λ r. Goes form (after_catch room c tried catcher next (s ∷ ts)) (block (inside room) c (λ last o. next (Tree.Try tried catcher (Tree.AStmt last)) o) r)) (sym e) (by s.kind h)
  where
    by : (kind : TokenKind) → is_finally kind ≡ true → Goes form (finally_by room c kind tried catcher next s ts) (block (inside room) c (λ last o. next (Tree.Try tried catcher (Tree.AStmt last)) o) ts)
    by (k.Word w.Finally) h = here
    by _ h = cc

pub with_no_finally : {form : Form} (room : Room) (c : Context) (tried : Stmt) (catcher : Handler) (next : To Stmt) (ts : Symbols) → at is_finally ts ≡ false
    → Goes form (after_catch room c tried catcher next ts) (next (Tree.Try tried catcher Tree.NoStmt) ts)
with_no_finally room c tried catcher next [] h = here
with_no_finally {form = form} room c tried catcher next (s ∷ ts) h = by s.kind h
  where
    by : (kind : TokenKind) → is_finally kind ≡ false → Goes form (finally_by room c kind tried catcher next s ts) (next (Tree.Try tried catcher Tree.NoStmt) (s ∷ ts))
    by (k.Word w.Finally) h = cc
    by _ h = here

-- the name of a `catch` and what follows it
pub catches : {form : Form} (room : Room) (c : Context) (tried : Stmt) (next : To Stmt) (ts : Symbols)
    → Goes form (rule.catch_name form room c tried next ts) (catch_name form (λ n. block (inside room) c (λ handler r. after_catch room c tried (Tree.ACatch n handler) next r)) ts)
catches room c tried next [] = here
catches {form = form} room c tried next (s ∷ ts) = by s.kind
  where
    by : (kind : TokenKind) → Goes form (catch_by form room c kind tried next s ts) (binding_by form kind (λ n. rule.expect rule.is_close_parenthesis (block (inside room) c (λ handler r. after_catch room c tried (Tree.ACatch n handler) next r))) s ts)
    by (k.Name n) = here
    by _ = here

-- ---- labels

pub at_a_label : {form : Form} (room : Room) (c : Context) (n : Name) (next : To Stmt) (ts rest : Symbols) → label_at ts ≡ Some n → is_reference form n ≡ true → rest ≡ behind ts
    → Goes form (name_statement form room c next ts) (behind_label room c n next rest)
at_a_label {form = form} room c n next ts rest h i e =
    subst (λ label. Goes form (name_by form room c label next ts) (behind_label room c n next rest)) (sym h)
    (subst (λ a. Goes form (label_if a room c n next ts) (behind_label room c n next rest)) (sym i)
    (subst (λ r. Goes form (behind_label room c n next (behind ts)) (behind_label room c n next r)) (sym e) here))

pub at_a_forbidden_label : {form : Form} (room : Room) (c : Context) (n : Name) (next : To Stmt) (ts : Symbols) → label_at ts ≡ Some n → is_reference form n ≡ false
    → Goes form (name_statement form room c next ts) (stated room next ts)
at_a_forbidden_label {form = form} room c n next ts h i =
    subst (λ label. Goes form (name_by form room c label next ts) (stated room next ts)) (sym h)
    (subst (λ a. Goes form (label_if a room c n next ts) (stated room next ts)) (sym i) here)

pub at_no_label : {form : Form} (room : Room) (c : Context) (next : To Stmt) (ts : Symbols) → label_at ts ≡ None
    → Goes form (name_statement form room c next ts) (stated room next ts)
at_no_label {form = form} room c next ts h =
    subst (λ label. Goes form (name_by form room c label next ts) (stated room next ts)) (sym h) here

labels : {form : Form} (a : Bool) (room : Room) (c : Context) (n : Name) (next : To Stmt) (s t : Symbol) (ts : Symbols)
    → Goes form (rule.labelled a room c n next s t ts) (label_if a room c n next (s ∷ t ∷ ts))
labels true room c n next s t ts = here
labels false room c n next s t ts = here

-- the machine's rule of a name that begins a statement
named : {form : Form} (room : Room) (c : Context) (n : Name) (next : To Stmt) (s : Symbol) (ts : Symbols) → s.kind ≡ k.Name n
    → Goes form (rule.label form room c n next s ts) (name_statement form room c next (s ∷ ts))
named room c n next s [] g = here
named {form = form} room c n next s (t ∷ ts) g =
    subst (λ o. Goes form (label_by form room c t.kind n next s t ts) (name_by form room c (before_colon o t.kind) next (s ∷ t ∷ ts))) (sym g) (by t.kind)
  where
    by : (other : TokenKind) → Goes form (label_by form room c other n next s t ts) (name_by form room c (before_colon (k.Name n) other) next (s ∷ t ∷ ts))
    by (k.Mark m.Colon) = labels (is_reference form n) room c n next s t ts
    by _ = here

-- ---- every kind

begun : {form : Form} (room : Room) (c : Context) (next : To Stmt) (s : Symbol) (ts : Symbols) (kind : TokenKind) → s.kind ≡ kind
    → Goes form (statement_by form room c kind next s ts) (by_kind (kind_of kind) form room c next (s ∷ ts))
begun room c next s ts (k.Mark m.OpenBrace) g = here
begun room c next s ts (k.Mark m.Semicolon) g = here
begun room c next s ts (k.Word w.Var) g = here
begun room c next s ts (k.Word w.If) g = here
begun room c next s ts (k.Word w.Do) g = here
begun room c next s ts (k.Word w.While) g = here
begun room c next s ts (k.Word w.For) g = here
begun room c next s ts (k.Word w.Continue) g = here
begun room c next s ts (k.Word w.Break) g = here
begun room c next s ts (k.Word w.Return) g = here
begun room c next s ts (k.Word w.Switch) g = here
begun room c next s ts (k.Word w.Throw) g = here
begun room c next s ts (k.Word w.Try) g = here
begun room c next s ts (k.Word w.Function) g = here
begun room c next s ts (k.Name n) g = named room c n next s ts g
begun room c next s ts _ g = here

pub begins_as : {form : Form} (room : Room) (c : Context) (next : To Stmt) (ts : Symbols) (kind : Kind) → kind ≡ kind_at ts
    → Goes form (statement room c next ts) (by_kind kind form room c next ts)
begins_as {form = form} room c next [] kind h = subst (λ kind. Goes form (statement room c next []) (by_kind kind form room c next [])) (sym h) (then_on here)
begins_as {form = form} room c next (s ∷ ts) kind h = subst (λ kind. Goes form (statement room c next (s ∷ ts)) (by_kind kind form room c next (s ∷ ts))) (sym h) (then_on (begun room c next s ts s.kind refl))

pub begins_behind : {form : Form} (room : Room) (c : Context) (next : To Stmt) (ts rest : Symbols) (b : Behind) → kind.Behind b ≡ kind_at ts → rest ≡ behind ts
    → Goes form (statement room c next ts) (behind_first b form room c next rest)
begins_behind {form = form} room c next ts rest b h e = subst (λ r. Goes form (statement room c next ts) (behind_first b form room c next r)) (sym e) (begins_as room c next ts (kind.Behind b) h)

-- what is read for equal kinds is the same
pub of_kind : {A X : Type 0} {form : Form} {r : Result A Stop} {old new : Symbols} {one other : Behind} (view : A → X) (rule : Behind → To X → Symbols → State) → one ≡ other → Reads form view (rule other) r old new → Reads form view (rule one) r old new
of_kind {form = form} {r = r} {old = old} {new = new} view rule e h = subst (λ one. Reads form view (rule one) r old new) (sym e) h

-- where no token is left
pub nothing_begins : {form : Form} (room : Room) (c : Context) (next : To Stmt) (ts : Symbols) → ts ≡ [] → Goes form (statement room c next ts) (stuck ts)
nothing_begins {form = form} room c next ts e = subst (λ l. Goes form (statement room c next l) (stuck l)) (sym e) (then_on here)

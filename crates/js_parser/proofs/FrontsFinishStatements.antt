-- Tokens with which what is read becomes a whole script: formals and statements.
use Rattle.std.proofs.Common.{◌≡◌, ℕ, zero, suc, ◌+◌, ◌<◌, ◌==◌, Bool, true, false, ◌&&◌, ◌||◌, not, List, [], ◌∷◌, ◌++◌, Option, Some, None, length, refl, ap, sym, ◌∙◌, subst, arith}
use Rattle.std.proofs.lemmas.Bool.{eq-eqb, ne_eqb}
use Rattle.std.specs.List.{list_all}
use Rattle.js_lexer.specs.declared.mark.Mark.TheVariants as m
use Rattle.js_lexer.specs.declared.word.Word.TheVariants as w
use Rattle.js_lexer.specs.declared.token.TokenKind.{TokenKind}
use Rattle.js_lexer.specs.declared.token.TokenKind.TheVariants as k
use Rattle.js_lexer.specs.Characters.{begins}
use Rattle.js_lexer.specs.Words.{is_spelled}
use Rattle.js_tree.specs.Tree.{Name, Expr, MaybeExpr, Stmt, Stmts, Cases, ForInit, Handler}
use Rattle.js_tree.specs.Tree
use Rattle.js_parser.specs.declared.form.Form.{Form}
use Rattle.js_parser.specs.Symbols.{Symbol, Symbols, mark, word, name, end}
use Rattle.js_parser.specs.Names.{is_reference, is_binding, is_among, is_distinct}
use Rattle.js_parser.specs.Contexts.{Context}
use Rattle.js_parser.specs.Contexts as context
use Rattle.js_parser.specs.Rooms.{unbounded}
use Rattle.js_parser.specs.Machine.{State, To, Goes, here, then_on}
use Rattle.js_parser.specs.Machine as mc
use Rattle.js_parser.proofs.Runs.{stepped}
use Rattle.js_parser.proofs.FrontsFinish.{Finish, lead, same, any, b, letter, letter-is, read-comma, passing, formal-ends}

-- ---- one more formal

lengths : List Name → ℕ
lengths [] = 0
lengths (n ∷ ns) = length n + lengths ns

letters : ℕ → Name
letters zero = []
letters (suc n) = 98 ∷ letters n

length-letters : (n : ℕ) → length (letters n) ≡ n
unfolding letters
length-letters zero = refl
length-letters (suc n) = ap suc (length-letters n)

-- a name that is longer than all these
fresh : List Name → Name
fresh ns = 98 ∷ letters (lengths ns)

fresh-binds : (form : Form) (ns : Name) → is_binding form (98 ∷ ns) ≡ true
fresh-binds form ns = at (4 == length (98 ∷ ns)) (8 == length (98 ∷ ns)) (8 == length (98 ∷ ns)) (9 == length (98 ∷ ns))
  where
    at : (a c d e : Bool) → (not ((a && false) || ((c && false) || (d && false))) && not (e && false)) ≡ true
    at true true true true = refl
    at true true true false = refl
    at true true false true = refl
    at true true false false = refl
    at true false true true = refl
    at true false true false = refl
    at true false false true = refl
    at true false false false = refl
    at false true true true = refl
    at false true true false = refl
    at false true false true = refl
    at false true false false = refl
    at false false true true = refl
    at false false true false = refl
    at false false false true = refl
    at false false false false = refl

unspelled : (n f : Name) → length n < length f → is_spelled n f ≡ false
unspelled n f l = ap (λ a. a && begins n f) (ne_eqb (length n) (length f) (λ e. absurd (omega (arith, e, l))))

among-more : (n f : Name) (ns : List Name) → is_spelled n f ≡ false → is_among n (ns ++ (f ∷ [])) ≡ is_among n ns
among-more n f [] h = ap (λ a. a || false) h
among-more n f (o ∷ ns) h = ap (λ a. is_spelled n o || a) (among-more n f ns h)

distinct-more : (ns : List Name) (f : Name) → is_distinct ns ≡ true → lengths ns < length f → is_distinct (ns ++ (f ∷ [])) ≡ true
unfolding lengths
distinct-more [] f h l = refl
distinct-more (n ∷ ns) f h l = at (is_among n ns) (is_distinct ns) h (among-more n f ns (unspelled n f (omega (arith, l)))) (λ i. distinct-more ns f i (omega (arith, l)))
  where
    at : (a c : Bool) → (not a && c) ≡ true → is_among n (ns ++ (f ∷ [])) ≡ a → (c ≡ true → is_distinct (ns ++ (f ∷ [])) ≡ true) → (not (is_among n (ns ++ (f ∷ []))) && is_distinct (ns ++ (f ∷ []))) ≡ true
    at true c h e d = cc
    at false true h e d = ap (λ a. not a && is_distinct (ns ++ (f ∷ []))) e ∙ d refl
    at false false h e d = cc

fresh-formal : (form : Form) (before : List Name) → is_distinct before ≡ true → mc.is_formal form before (fresh before) ≡ true
unfolding fresh
fresh-formal form before h =
    let l = length-letters (lengths before) in
    ap (λ a. a && is_distinct (mc.and_formal before (98 ∷ letters (lengths before)))) (fresh-binds form (letters (lengths before))) ∙ distinct-more before (98 ∷ letters (lengths before)) h (omega (arith, l))

pub f-formal : {form : Form} {before : List Name} {next : To (List Name)} → is_distinct before ≡ true → ((x : List Name) → Finish form mc.is_close_parenthesis (next x)) → Finish form any (mc.formal before next)
f-formal {form = form} {before = before} {next = next} h d =
    lead (name (fresh before) false) [] refl (λ ts. refl)
    (λ e es t i d. then_on (passing (mc.is_formal form before (fresh before)) (name (fresh before) false ∷ e ∷ es) (fresh-formal form before h) (subst (λ s. Goes form s t) (sym (formal-ends before next e es e.kind i)) d))) (d (fresh before ∷ []))

-- ---- labels

-- all labels are names that may be read
pub record Sound (form : Form) (c : Context) : Type 0 where
  pub labels : list_all (is_reference form) c.labels ≡ true
  pub loops : list_all (is_reference form) c.loops ≡ true
  pub before : list_all (is_reference form) c.ahead ≡ true

all-joined : (p : Name → Bool) (ns os : List Name) → list_all p ns ≡ true → list_all p os ≡ true → list_all p (ns ++ os) ≡ true
all-joined p [] os h i = i
all-joined p (n ∷ ns) os h i = at (p n) (list_all p ns) h (λ j. all-joined p ns os j i)
  where
    at : (a c : Bool) → (a && c) ≡ true → (c ≡ true → list_all p (ns ++ os) ≡ true) → (a && list_all p (ns ++ os)) ≡ true
    at true true h d = d refl
    at true false h d = cc
    at false c h d = cc

pub sound-outermost : (form : Form) (a : Bool) → Sound form (context.outermost a)
sound-outermost form a = record { labels = refl; loops = refl; before = refl }

pub sound-part : {form : Form} {c : Context} → Sound form c → Sound form (context.part c)
sound-part h = record { labels = h.labels; loops = h.loops; before = refl }

pub sound-loop : {form : Form} {c : Context} → Sound form c → Sound form (context.loop c)
sound-loop {form = form} {c = c} h = record { labels = h.labels; loops = all-joined (is_reference form) c.ahead c.loops h.before h.loops; before = refl }

pub sound-clause : {form : Form} {c : Context} → Sound form c → Sound form (context.clause c)
sound-clause h = record { labels = h.labels; loops = h.loops; before = refl }

pub sound-labelled : {form : Form} {c : Context} (n : Name) → is_reference form n ≡ true → Sound form c → Sound form (context.labelled n c)
sound-labelled {form = form} {c = c} n e h = record {
  labels = ap (λ a. a && list_all (is_reference form) c.labels) e ∙ h.labels;
  loops = h.loops;
  before = ap (λ a. a && list_all (is_reference form) c.ahead) e ∙ h.before;
}

begins-itself : (n : Name) → begins n n ≡ true
begins-itself [] = refl
begins-itself (c ∷ n) = ap (λ a. a && begins n n) (eq-eqb c c refl) ∙ begins-itself n

spelled-itself : (n : Name) → is_spelled n n ≡ true
spelled-itself n = ap (λ a. a && begins n n) (eq-eqb (length n) (length n) refl) ∙ begins-itself n

-- ---- kinds of tokens behind a statement, and behind a list of them

abbrev pub follows : TokenKind → Bool
follows (k.Word w.While) = true
follows (k.Mark m.CloseBrace) = true
follows k.End = true
follows _ = false

abbrev pub shuts : TokenKind → Bool
shuts (k.Mark m.CloseBrace) = true
shuts k.End = true
shuts _ = false

pub shuts-follows : (kind : TokenKind) → shuts kind ≡ true → follows kind ≡ true
shuts-follows (k.Mark m.CloseBrace) h = refl
shuts-follows k.End h = refl
shuts-follows _ h = absurd cc

pub brace-shuts : (kind : TokenKind) → mc.is_close_brace kind ≡ true → shuts kind ≡ true
brace-shuts (k.Mark m.CloseBrace) h = refl
brace-shuts _ h = absurd cc

from : {form : Form} {s t o : State} → s ≡ t → Goes form t o → Goes form s o
from {form = form} {o = o} e d = subst (λ s. Goes form s o) (sym e) d

abbrev semicolon : Symbol
semicolon = mark m.Semicolon false

abbrev opener : Symbol
opener = mark m.OpenBrace false

abbrev closed : Symbol
closed = mark m.CloseBrace false

abbrev shut : Symbol
shut = mark m.CloseParenthesis false

-- ---- statements

pub f-ended : {form : Form} {a good : TokenKind → Bool} {f : Symbols → State} → good (k.Mark m.Semicolon) ≡ true → Finish form a f → Finish form good (mc.ended f)
f-ended h d = lead semicolon [] h (λ ts. refl) (λ e es t i d. d) d

pub f-statement : {form : Form} {c : Context} {next : To Stmt} → ((x : Stmt) → Finish form follows (next x)) → Finish form any (mc.statement unbounded c next)
f-statement d = lead semicolon [] refl (λ ts. refl) (λ e es t i d. then_on d) (d Tree.Empty)

pub f-stated : {form : Form} {next : To Stmt} → ((x : Stmt) → Finish form follows (next x)) → Finish form any (mc.stated unbounded next)
f-stated {form = form} d = lead b (semicolon ∷ []) refl (λ ts. refl) (λ e es t i d. read-comma b letter refl (letter-is form) refl d) (d (Tree.Do (Tree.Ident letter)))

pub f-label : {form : Form} {c : Context} {next : To Stmt} → (s : Symbol) (n : Name) → s.kind ≡ k.Name n → is_reference form n ≡ true → ((x : Stmt) → Finish form follows (next x)) → Finish form any (mc.label form unbounded c n next s)
f-label s n i is d = lead semicolon [] refl (λ ts. refl) (λ e es t h d. read-comma s n i is refl d) (d (Tree.Do (Tree.Ident n)))

pub f-braces : {form : Form} (c : Context) {next : To Stmt} → ((x : Stmt) → Finish form follows (next x)) → Finish form any (mc.braces unbounded c next)
f-braces c d = lead closed [] refl (λ ts. refl) (λ e es t i d. then_on d) (d (Tree.Block Tree.NoStmts))

pub f-block : {form : Form} {a : TokenKind → Bool} (c : Context) {next : To Stmt} → ((x : Stmt) → Finish form a (next x)) → Finish form any (mc.block unbounded c next)
f-block c d = lead opener (closed ∷ []) refl (λ ts. refl) (λ e es t i d. then_on d) (d (Tree.Block Tree.NoStmts))

pub f-after-if : {form : Form} (c : Context) {x : Expr} {body : Stmt} {next : To Stmt} → ((x : Stmt) → Finish form follows (next x)) → Finish form follows (mc.after_if unbounded c x body next)
f-after-if c {x = x} {body = body} {next = next} d = same (λ kind h. h) (λ e es t h d. from (at e es e.kind h) d) (d (Tree.If x body Tree.NoStmt))
  where
    at : (s : Symbol) (ts : Symbols) (kind : TokenKind) → follows kind ≡ true → mc.if_by unbounded c kind x body next s ts ≡ next (Tree.If x body Tree.NoStmt) (s ∷ ts)
    at s ts (k.Word w.While) h = refl
    at s ts (k.Mark m.CloseBrace) h = refl
    at s ts k.End h = refl
    at s ts _ h = absurd cc

pub f-for-rest : {form : Form} {good : TokenKind → Bool} {c : Context} {init : ForInit} {next : To Stmt} → good (k.Mark m.Semicolon) ≡ true → ((x : Stmt) → Finish form follows (next x)) → Finish form good (mc.for_rest unbounded c init next)
f-for-rest {init = init} h d = lead semicolon (semicolon ∷ shut ∷ semicolon ∷ []) h (λ ts. refl) (λ e es t i d. then_on (then_on (then_on d))) (d (Tree.For init Tree.NoExpr Tree.NoExpr Tree.Empty))

pub f-for-var : {form : Form} {good : TokenKind → Bool} {c : Context} {n : Name} {value : MaybeExpr} {next : To Stmt} → good (k.Mark m.Semicolon) ≡ true → ((x : Stmt) → Finish form follows (next x))
    → Finish form good (mc.for_var unbounded c n value next)
f-for-var {n = n} {value = value} h d =
    lead semicolon (semicolon ∷ shut ∷ semicolon ∷ []) h (λ ts. refl) (λ e es t i d. then_on (then_on (then_on d))) (d (Tree.For (Tree.Vars (Tree.MoreVarItems n value Tree.NoVarItems)) Tree.NoExpr Tree.NoExpr Tree.Empty))

pub f-for-expression : {form : Form} {good : TokenKind → Bool} {c : Context} {x : Expr} {next : To Stmt} → good (k.Mark m.Semicolon) ≡ true → ((x : Stmt) → Finish form follows (next x)) → Finish form good (mc.for_expression unbounded c x next)
f-for-expression {x = x} h d = lead semicolon (semicolon ∷ shut ∷ semicolon ∷ []) h (λ ts. refl) (λ e es t i d. then_on (then_on (then_on d))) (d (Tree.For (Tree.First x) Tree.NoExpr Tree.NoExpr Tree.Empty))

pub f-for-header : {form : Form} {c : Context} {next : To Stmt} → ((x : Stmt) → Finish form follows (next x)) → Finish form any (mc.for_header unbounded c next)
f-for-header d = lead semicolon (semicolon ∷ shut ∷ semicolon ∷ []) refl (λ ts. refl) (λ e es t i d. then_on (then_on (then_on d))) (d (Tree.For Tree.Nothing Tree.NoExpr Tree.NoExpr Tree.Empty))

pub f-jump : {form : Form} {made : Option Name → Stmt} {next : To Stmt} → (may : Bool) (names : List Name) → (may || mc.are_some names) ≡ true → list_all (is_reference form) names ≡ true → ((x : Stmt) → Finish form follows (next x))
    → Finish form any (mc.jump form may names made next)
f-jump {made = made} true names h r d = lead semicolon [] refl (λ ts. refl) (λ e es t i d. d) (d (made None))
f-jump false [] h r d = absurd cc
f-jump {form = form} {made = made} false (n ∷ ns) h r d =
    lead (name n false) (semicolon ∷ []) refl (λ ts. refl)
    (λ e es t i d. passing (is_reference form n && is_among n (n ∷ ns)) (name n false ∷ semicolon ∷ e ∷ es) (at (is_reference form n) (list_all (is_reference form) ns) r) d) (d (made (Some n)))
  where
    at : (a c : Bool) → (a && c) ≡ true → (a && is_among n (n ∷ ns)) ≡ true
    at true c h = ap (λ a. a || is_among n ns) (spelled-itself n)
    at false c h = h

pub f-returned : {form : Form} {next : To Stmt} → ((x : Stmt) → Finish form follows (next x)) → Finish form any (mc.returned unbounded next)
f-returned d = lead semicolon [] refl (λ ts. refl) (λ e es t i d. d) (d (Tree.Return Tree.NoExpr))

pub f-thrown : {form : Form} {next : To Stmt} → ((x : Stmt) → Finish form follows (next x)) → Finish form any (mc.thrown unbounded next)
f-thrown {form = form} d = lead b (semicolon ∷ []) refl (λ ts. refl) (λ e es t i d. read-comma b letter refl (letter-is form) refl d) (d (Tree.Throw (Tree.Ident letter)))

pub f-after-catch : {form : Form} (c : Context) {tried : Stmt} {handler : Handler} {next : To Stmt} → ((x : Stmt) → Finish form follows (next x)) → Finish form follows (mc.after_catch unbounded c tried handler next)
f-after-catch c {tried = tried} {handler = handler} {next = next} d = same (λ kind h. h) (λ e es t h d. from (at e es e.kind h) d) (d (Tree.Try tried handler Tree.NoStmt))
  where
    at : (s : Symbol) (ts : Symbols) (kind : TokenKind) → follows kind ≡ true → mc.finally_by unbounded c kind tried handler next s ts ≡ next (Tree.Try tried handler Tree.NoStmt) (s ∷ ts)
    at s ts (k.Word w.While) h = refl
    at s ts (k.Mark m.CloseBrace) h = refl
    at s ts k.End h = refl
    at s ts _ h = absurd cc

pub f-catch-name : {form : Form} (c : Context) {tried : Stmt} {next : To Stmt} → ((x : Stmt) → Finish form follows (next x)) → Finish form any (mc.catch_name form unbounded c tried next)
f-catch-name c d = lead b (shut ∷ opener ∷ closed ∷ []) refl (λ ts. refl) (λ e es t i d. then_on d) (f-after-catch c {handler = Tree.ACatch letter (Tree.Block Tree.NoStmts)} d)

pub f-after-try : {form : Form} (c : Context) {tried : Stmt} {next : To Stmt} → ((x : Stmt) → Finish form follows (next x)) → Finish form any (mc.after_try form unbounded c tried next)
f-after-try c {tried = tried} d = lead (word w.Finally false) (opener ∷ closed ∷ []) refl (λ ts. refl) (λ e es t i d. then_on d) (d (Tree.Try tried Tree.NoHandler (Tree.AStmt (Tree.Block Tree.NoStmts))))

-- ---- lists

pub f-list : {form : Form} {good : TokenKind → Bool} {c : Context} {next : To Stmts} → ((kind : TokenKind) → shuts kind ≡ true → good kind ≡ true) → ((x : Stmts) → Finish form shuts (next x)) → Finish form good (mc.list unbounded c next)
f-list {c = c} {next = next} wider d = same wider (λ e es t h d. stepped (at e es e.kind h) d) (d Tree.NoStmts)
  where
    at : (s : Symbol) (ts : Symbols) (kind : TokenKind) → shuts kind ≡ true → mc.list_by unbounded c kind next s ts ≡ next Tree.NoStmts (s ∷ ts)
    at s ts (k.Mark m.CloseBrace) h = refl
    at s ts k.End h = refl
    at s ts _ h = absurd cc

pub f-source : {form : Form} {good : TokenKind → Bool} {c : Context} {next : To Stmts} → ((kind : TokenKind) → shuts kind ≡ true → good kind ≡ true) → ((x : Stmts) → Finish form shuts (next x)) → Finish form good (mc.source unbounded c next)
f-source {form = form} {c = c} {next = next} wider d = same wider (λ e es t h d. stepped (at e es e.kind h) d) (d Tree.NoStmts)
  where
    at : (s : Symbol) (ts : Symbols) (kind : TokenKind) → shuts kind ≡ true → mc.source_by form unbounded c kind next s ts ≡ next Tree.NoStmts (s ∷ ts)
    at s ts (k.Mark m.CloseBrace) h = refl
    at s ts k.End h = refl
    at s ts _ h = absurd cc

pub f-declared : {form : Form} {c : Context} {next : To Stmts} → ((x : Stmts) → Finish form shuts (next x)) → Finish form any (mc.declared form unbounded c next)
f-declared {next = next} d =
    lead b (mark m.OpenParenthesis false ∷ shut ∷ opener ∷ closed ∷ []) refl (λ ts. refl) (λ e es t i d. then_on (then_on (then_on d))) (f-source shuts-follows (λ xs. d (Tree.MoreStmts _ xs)))

pub f-clauses : {form : Form} {good : TokenKind → Bool} {c : Context} {may : Bool} {next : To Cases} → ((kind : TokenKind) → mc.is_close_brace kind ≡ true → good kind ≡ true) → ((x : Cases) → Finish form mc.is_close_brace (next x))
    → Finish form good (mc.clauses unbounded c may next)
f-clauses {c = c} {may = may} {next = next} wider d = same wider (λ e es t h d. stepped (at e es e.kind h) d) (d Tree.NoCases)
  where
    at : (s : Symbol) (ts : Symbols) (kind : TokenKind) → mc.is_close_brace kind ≡ true → mc.clauses_by unbounded c may kind next s ts ≡ next Tree.NoCases (s ∷ ts)
    at s ts (k.Mark m.CloseBrace) h = refl
    at s ts _ h = absurd cc

pub f-finished : {form : Form} (ss : Stmts) → Finish form shuts (mc.finished ss)
f-finished ss = record { head = end false; others = []; starts = refl; plain = refl; tree = ss; run = here }

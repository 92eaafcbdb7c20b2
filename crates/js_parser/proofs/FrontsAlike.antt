-- Two runs of the machine on lists with the same front: a real one and another, side by side.
use Rattle.std.proofs.Common.{◌≡◌, ℕ, ◌≤◌, ◌<◌, Bool, true, false, ◌&&◌, not, List, [], ◌∷◌, ◌++◌, length, refl, arith}
use Rattle.js_lexer.specs.declared.token.TokenKind.{TokenKind}
use Rattle.js_tree.specs.Tree.{Name, Expr, Exprs, MaybeExpr, Elements, Pairs, Stmt, Stmts, VarItems, Cases}
use Rattle.js_parser.specs.declared.form.Form.{Form}
use Rattle.js_parser.specs.Symbols.{Symbol, Symbols}
use Rattle.js_parser.specs.Contexts.{Context}
use Rattle.js_parser.specs.Rooms.{Room, unbounded, inside, in_function}
use Rattle.js_parser.specs.Machine.{State, To, guard, fitting, expect, is_semicolon, ended_by, may_insert, ended, ended_at_once, step}
use Rattle.js_parser.specs.Machine as mc
use Rattle.js_parser.proofs.FrontsStarved.{Never, colon_first}

-- what is read by both, and what stands behind it, in the real list and in the other one
pub record Hole : Type 0 where
  pub form : Form
  -- the other run has the same rooms, or it has no limit
  pub same : Bool
  pub rest : Symbols
  pub other : Symbols

-- The tokens that are left to both, in step; or to the real run alone, which is behind the front.
pub data At (h : Hole) : Bool → Symbols → Symbols → Type 0 where
  within : (r : Symbols) → At h true (r ++ h.rest) (r ++ h.other)
  behind : {ts o : Symbols} → length ts ≤ length h.rest → At h false ts o

-- the same, behind a token
pub data Took (h : Hole) : Bool → Symbols → Symbols → Type 0 where
  took_within : (r : Symbols) → Took h true (r ++ h.rest) (r ++ h.other)
  took_behind : {ts o : Symbols} → length ts < length h.rest → Took h false ts o

pub data Rooms (h : Hole) : Room → Room → Type 0 where
  same_room : {room : Room} → Rooms h room room
  no_limit : {room : Room} → h.same ≡ false → Rooms h room unbounded

mutual
  -- the real state, and the other one, which counts for something in step only
  pub data Alike (h : Hole) : Bool → State → State → Type 0 where
    done : {m : Bool} {ss : Stmts} → Alike h m (mc.done ss) (mc.done ss)
    stuck : {m : Bool} {ts o : Symbols} → At h m ts o → Alike h m (mc.stuck ts) (mc.stuck o)
    deep : {m : Bool} {ts o : Symbols} → Took h m ts o → Alike h m (mc.deep ts) (mc.deep o)
    -- there is no room in the real run alone
    lost : {m : Bool} {ts : Symbols} {t : State} → h.same ≡ false → Alike h m (mc.deep ts) t
    -- a colon makes the last name a label in the other list, behind which no statement fits, as no expression fits in place of it
    unfit : {s t : State} → h.same ≡ true → colon_first h.rest ≡ false → colon_first h.other ≡ true → Never h.form t → Alike h true s t
    -- the real run is behind the front
    gone : {m : Bool} {s t o : State} → Alike h false s t → Alike h m s o
    -- and here it will be so after a step
    later : {s t : State} → Alike h false (step h.form s) t → Alike h false s t
    comma : {m : Bool} {room free : Room} {i : Bool} {next on : To Expr} {ts o : Symbols} → Rooms h room free → At h m ts o → ((a : Expr) → Good h (next a) (on a)) → Alike h m (mc.comma room i next ts) (mc.comma free i on o)
    comma_tail : {m : Bool} {room free : Room} {i : Bool} {x : Expr} {next on : To Expr} {ts o : Symbols} → Rooms h room free → At h m ts o → ((a : Expr) → Good h (next a) (on a)) → Alike h m (mc.comma_tail room i x next ts) (mc.comma_tail free i x on o)
    assign : {m : Bool} {room free : Room} {i : Bool} {next on : To Expr} {ts o : Symbols} → Rooms h room free → At h m ts o → ((a : Expr) → Good h (next a) (on a)) → Alike h m (mc.assign room i next ts) (mc.assign free i on o)
    choice : {m : Bool} {room free : Room} {i : Bool} {x : Expr} {next on : To Expr} {ts o : Symbols} → Rooms h room free → At h m ts o → ((a : Expr) → Good h (next a) (on a)) → Alike h m (mc.choice room i x next ts) (mc.choice free i x on o)
    climb : {m : Bool} {room free : Room} {i : Bool} {n : ℕ} {next on : To Expr} {ts o : Symbols} → Rooms h room free → At h m ts o → ((a : Expr) → Good h (next a) (on a)) → Alike h m (mc.climb room i n next ts) (mc.climb free i n on o)
    tail : {m : Bool} {room free : Room} {i : Bool} {n : ℕ} {x : Expr} {next on : To Expr} {ts o : Symbols} → Rooms h room free → At h m ts o → ((a : Expr) → Good h (next a) (on a)) → Alike h m (mc.tail room i n x next ts) (mc.tail free i n x on o)
    unary : {m : Bool} {room free : Room} {next on : To Expr} {ts o : Symbols} → Rooms h room free → At h m ts o → ((a : Expr) → Good h (next a) (on a)) → Alike h m (mc.unary room next ts) (mc.unary free on o)
    postfix : {m : Bool} {room free : Room} {x : Expr} {next on : To Expr} {ts o : Symbols} → Rooms h room free → At h m ts o → ((a : Expr) → Good h (next a) (on a)) → Alike h m (mc.postfix room x next ts) (mc.postfix free x on o)
    operand : {m : Bool} {room free : Room} {i : Bool} {next on : To Expr} {ts o : Symbols} → Rooms h room free → At h m ts o → ((a : Expr) → Good h (next a) (on a)) → Alike h m (mc.operand room i next ts) (mc.operand free i on o)
    links : {m : Bool} {room free : Room} {i : Bool} {x : Expr} {next on : To Expr} {ts o : Symbols} → Rooms h room free → At h m ts o → ((a : Expr) → Good h (next a) (on a)) → Alike h m (mc.links room i x next ts) (mc.links free i x on o)
    arguments : {m : Bool} {room free : Room} {next on : To Exprs} {ts o : Symbols} → Rooms h room free → At h m ts o → ((a : Exprs) → Good h (next a) (on a)) → Alike h m (mc.arguments room next ts) (mc.arguments free on o)
    argument_list : {m : Bool} {room free : Room} {next on : To Exprs} {ts o : Symbols} → Rooms h room free → At h m ts o → ((a : Exprs) → Good h (next a) (on a)) → Alike h m (mc.argument_list room next ts) (mc.argument_list free on o)
    elements : {m : Bool} {room free : Room} {next on : To Elements} {ts o : Symbols} → Rooms h room free → At h m ts o → ((a : Elements) → Good h (next a) (on a)) → Alike h m (mc.elements room next ts) (mc.elements free on o)
    pairs : {m : Bool} {room free : Room} {next on : To Pairs} {ts o : Symbols} → Rooms h room free → At h m ts o → ((a : Pairs) → Good h (next a) (on a)) → Alike h m (mc.pairs room next ts) (mc.pairs free on o)
    rest : {m : Bool} {room free : Room} {next on : (List Name) → Stmts → Symbols → State} {ts o : Symbols} → Rooms h room free → At h m ts o → ((a : List Name) (b : Stmts) → Good h (next a b) (on a b)) → Alike h m (mc.rest room next ts) (mc.rest free on o)
    formals : {m : Bool} {ns : List Name} {next on : To (List Name)} {ts o : Symbols} → At h m ts o → ((a : List Name) → Good h (next a) (on a)) → Alike h m (mc.formals ns next ts) (mc.formals ns on o)
    formal : {m : Bool} {ns : List Name} {next on : To (List Name)} {ts o : Symbols} → At h m ts o → ((a : List Name) → Good h (next a) (on a)) → Alike h m (mc.formal ns next ts) (mc.formal ns on o)
    declarator : {m : Bool} {room free : Room} {i : Bool} {next on : Name → MaybeExpr → Symbols → State} {ts o : Symbols} → Rooms h room free → At h m ts o → ((a : Name) (b : MaybeExpr) → Good h (next a b) (on a b)) → Alike h m (mc.declarator room i next ts) (mc.declarator free i on o)
    declarators : {m : Bool} {room free : Room} {i : Bool} {next on : To VarItems} {ts o : Symbols} → Rooms h room free → At h m ts o → ((a : VarItems) → Good h (next a) (on a)) → Alike h m (mc.declarators room i next ts) (mc.declarators free i on o)
    optional : {m : Bool} {room free : Room} {next on : To MaybeExpr} {ts o : Symbols} → Rooms h room free → At h m ts o → ((a : MaybeExpr) → Good h (next a) (on a)) → Alike h m (mc.optional room next ts) (mc.optional free on o)
    statement : {m : Bool} {room free : Room} {c : Context} {next on : To Stmt} {ts o : Symbols} → Rooms h room free → At h m ts o → ((a : Stmt) → Good h (next a) (on a)) → Alike h m (mc.statement room c next ts) (mc.statement free c on o)
    list : {m : Bool} {room free : Room} {c : Context} {next on : To Stmts} {ts o : Symbols} → Rooms h room free → At h m ts o → ((a : Stmts) → Good h (next a) (on a)) → Alike h m (mc.list room c next ts) (mc.list free c on o)
    source : {m : Bool} {room free : Room} {c : Context} {next on : To Stmts} {ts o : Symbols} → Rooms h room free → At h m ts o → ((a : Stmts) → Good h (next a) (on a)) → Alike h m (mc.source room c next ts) (mc.source free c on o)
    clauses : {m : Bool} {room free : Room} {c : Context} {i : Bool} {next on : To Cases} {ts o : Symbols} → Rooms h room free → At h m ts o → ((a : Cases) → Good h (next a) (on a)) → Alike h m (mc.clauses room c i next ts) (mc.clauses free c i on o)

  -- what goes on alike with the tokens that are left
  pub data Good (h : Hole) : (Symbols → State) → (Symbols → State) → Type 0 where
    good : {f g : Symbols → State} → ((m : Bool) (ts o : Symbols) → At h m ts o → Alike h m (f ts) (g o)) → Good h f g

pub on : {h : Hole} {f g : Symbols → State} {m : Bool} {ts o : Symbols} → Good h f g → At h m ts o → Alike h m (f ts) (g o)
on (good d) a = d _ _ _ a

-- the same, behind a token, and behind this one
pub record Tail (h : Hole) (f g : Symbols → State) : Type 0 where
  pub behind : (m : Bool) (ts o : Symbols) → Took h m ts o → Alike h m (f ts) (g o)

pub record Taken (h : Hole) (s : Symbol) (f g : Symbols → State) : Type 0 where
  pub takes : (m : Bool) (ts o : Symbols) → At h m (s ∷ ts) (s ∷ o) → Took h m ts o → Alike h m (f ts) (g o)

pub taken-at : {h : Hole} {m : Bool} {ts o : Symbols} → Took h m ts o → At h m ts o
taken-at (took_within r) = within r
taken-at (took_behind l) = behind (omega arith)

-- with this token still left
pub kept : {h : Hole} {s : Symbol} {f g : Symbols → State} → Good h f g → Taken h s (λ ts. f (s ∷ ts)) (λ ts. g (s ∷ ts))
kept d = record { takes = λ m ts o whole a. on d whole }

pub behind-it : {h : Hole} {f g : Symbols → State} → Good h f g → Tail h f g
behind-it d = record { behind = λ m ts o a. on d (taken-at a) }

pub after : {h : Hole} {s : Symbol} {f g : Symbols → State} → Tail h f g → Taken h s f g
after d = record { takes = λ m ts o whole a. d.behind m ts o a }

-- with the tokens behind this one
pub passed : {h : Hole} {s : Symbol} {f g : Symbols → State} → Good h f g → Taken h s f g
passed d = after (behind-it d)

pub refused : {h : Hole} {s : Symbol} → Taken h s (λ ts. mc.stuck (s ∷ ts)) (λ ts. mc.stuck (s ∷ ts))
refused = record { takes = λ m ts o whole a. stuck whole }

pub guarded : {h : Hole} {s : Symbol} {f g : Symbols → State} → (a : Bool) → (a ≡ true → Taken h s f g) → Taken h s (λ ts. guard a (s ∷ ts) (f ts)) (λ ts. guard a (s ∷ ts) (g ts))
guarded true d = d refl
guarded false d = refused

-- ---- rooms

pub inner : {h : Hole} {room free : Room} → Rooms h room free → Rooms h (inside room) (inside free)
inner same_room = same_room
inner (no_limit e) = no_limit e

pub inmost : {h : Hole} {room free : Room} → Rooms h room free → Rooms h (in_function room) (in_function free)
inmost same_room = same_room
inmost (no_limit e) = no_limit e

fits-both : {h : Hole} {f g : Symbols → State} → (a : Bool) → Tail h f g → Tail h (λ ts. fitting a ts (f ts)) (λ ts. fitting a ts (g ts))
fits-both true d = d
fits-both false d = record { behind = λ m ts o a. deep a }

fits-free : {h : Hole} {f g : Symbols → State} → (a c : Bool) → h.same ≡ false → c ≡ true → Tail h f g → Tail h (λ ts. fitting a ts (f ts)) (λ ts. fitting c ts (g ts))
fits-free true true e i d = d
fits-free false true e i d = record { behind = λ m ts o a. lost e }
fits-free a false e i d = absurd cc

pub fits : {h : Hole} {room free : Room} {f g : Symbols → State} → Rooms h room free → (fit : Room → Bool) → fit unbounded ≡ true → Tail h f g
    → Tail h (λ ts. fitting (fit room) ts (f ts)) (λ ts. fitting (fit free) ts (g ts))
fits (same_room {room = room}) fit e d = fits-both (fit room) d
fits (no_limit {room = room} i) fit e d = fits-free (fit room) (fit unbounded) i e d

-- ---- what looks at the first of the tokens

ahead : {h : Hole} (f g : Symbols → State) → Alike h false (f []) (g []) → ((s : Symbol) → Taken h s (λ ts. f (s ∷ ts)) (λ ts. g (s ∷ ts))) → (ts : Symbols) → length ts ≤ length h.rest → Alike h false (f ts) (g ts)
ahead f g empty some [] l = empty
ahead f g empty some (s ∷ ts) l = (some s).takes false ts ts (behind l) (took_behind l)

pub reading : {h : Hole} (f g : Symbols → State) → Alike h false (f []) (g []) → ((s : Symbol) → Taken h s (λ ts. f (s ∷ ts)) (λ ts. g (s ∷ ts))) → Good h f g
reading {h = h} f g empty some = good (λ m ts o a. at m ts o a)
  where
    at : (m : Bool) (ts o : Symbols) → At h m ts o → Alike h m (f ts) (g o)
    at m ts o (within []) = gone (ahead f g empty some h.rest (omega arith))
    at m ts o (within (s ∷ r)) = (some s).takes true (r ++ h.rest) (r ++ h.other) (within (s ∷ r)) (took_within r)
    at m ts o (behind l) = gone (ahead f g empty some ts l)

-- behind them all
pub at-end : {h : Hole} → At h false [] []
at-end = behind (omega arith)

pub expected : {h : Hole} {f g : Symbols → State} → (test : TokenKind → Bool) → Tail h f g → Good h (expect test f) (expect test g)
expected {f = f} {g = g} test d = reading (expect test f) (expect test g) (stuck at-end) (λ s. guarded (test s.kind) (λ e. after d))

pub ended-alike : {h : Hole} {f g : Symbols → State} → Good h f g → Good h (ended f) (ended g)
ended-alike {h = h} {f = f} {g = g} d = reading (ended f) (ended g) (on d at-end) (λ s. at s (is_semicolon s.kind) (may_insert s))
  where
    at : (s : Symbol) (a c : Bool) → Taken h s (ended_by a c f s) (ended_by a c g s)
    at s true c = passed d
    at s false true = kept d
    at s false false = refused

pub at-once-alike : {h : Hole} {f g : Symbols → State} → Good h f g → Good h (ended_at_once f) (ended_at_once g)
at-once-alike {h = h} {f = f} {g = g} d = reading (ended_at_once f) (ended_at_once g) (on d at-end) (λ s. at s (is_semicolon s.kind && not s.newline) (may_insert s))
  where
    at : (s : Symbol) (a c : Bool) → Taken h s (ended_by a c f s) (ended_by a c g s)
    at s true c = passed d
    at s false true = kept d
    at s false false = refused

-- ---- the states

pub comma-alike : {h : Hole} {room free : Room} {i : Bool} {next on : To Expr} → Rooms h room free → ((a : Expr) → Good h (next a) (on a)) → Good h (mc.comma room i next) (mc.comma free i on)
comma-alike r d = good (λ m ts o a. comma r a d)

pub comma-tail-alike : {h : Hole} {room free : Room} {i : Bool} {x : Expr} {next on : To Expr} → Rooms h room free → ((a : Expr) → Good h (next a) (on a)) → Good h (mc.comma_tail room i x next) (mc.comma_tail free i x on)
comma-tail-alike r d = good (λ m ts o a. comma_tail r a d)

pub assign-alike : {h : Hole} {room free : Room} {i : Bool} {next on : To Expr} → Rooms h room free → ((a : Expr) → Good h (next a) (on a)) → Good h (mc.assign room i next) (mc.assign free i on)
assign-alike r d = good (λ m ts o a. assign r a d)

pub choice-alike : {h : Hole} {room free : Room} {i : Bool} {x : Expr} {next on : To Expr} → Rooms h room free → ((a : Expr) → Good h (next a) (on a)) → Good h (mc.choice room i x next) (mc.choice free i x on)
choice-alike r d = good (λ m ts o a. choice r a d)

pub climb-alike : {h : Hole} {room free : Room} {i : Bool} {n : ℕ} {next on : To Expr} → Rooms h room free → ((a : Expr) → Good h (next a) (on a)) → Good h (mc.climb room i n next) (mc.climb free i n on)
climb-alike r d = good (λ m ts o a. climb r a d)

pub tail-alike : {h : Hole} {room free : Room} {i : Bool} {n : ℕ} {x : Expr} {next on : To Expr} → Rooms h room free → ((a : Expr) → Good h (next a) (on a)) → Good h (mc.tail room i n x next) (mc.tail free i n x on)
tail-alike r d = good (λ m ts o a. tail r a d)

pub unary-alike : {h : Hole} {room free : Room} {next on : To Expr} → Rooms h room free → ((a : Expr) → Good h (next a) (on a)) → Good h (mc.unary room next) (mc.unary free on)
unary-alike r d = good (λ m ts o a. unary r a d)

pub postfix-alike : {h : Hole} {room free : Room} {x : Expr} {next on : To Expr} → Rooms h room free → ((a : Expr) → Good h (next a) (on a)) → Good h (mc.postfix room x next) (mc.postfix free x on)
postfix-alike r d = good (λ m ts o a. postfix r a d)

pub operand-alike : {h : Hole} {room free : Room} {i : Bool} {next on : To Expr} → Rooms h room free → ((a : Expr) → Good h (next a) (on a)) → Good h (mc.operand room i next) (mc.operand free i on)
operand-alike r d = good (λ m ts o a. operand r a d)

pub links-alike : {h : Hole} {room free : Room} {i : Bool} {x : Expr} {next on : To Expr} → Rooms h room free → ((a : Expr) → Good h (next a) (on a)) → Good h (mc.links room i x next) (mc.links free i x on)
links-alike r d = good (λ m ts o a. links r a d)

pub arguments-alike : {h : Hole} {room free : Room} {next on : To Exprs} → Rooms h room free → ((a : Exprs) → Good h (next a) (on a)) → Good h (mc.arguments room next) (mc.arguments free on)
arguments-alike r d = good (λ m ts o a. arguments r a d)

pub argument-list-alike : {h : Hole} {room free : Room} {next on : To Exprs} → Rooms h room free → ((a : Exprs) → Good h (next a) (on a)) → Good h (mc.argument_list room next) (mc.argument_list free on)
argument-list-alike r d = good (λ m ts o a. argument_list r a d)

pub elements-alike : {h : Hole} {room free : Room} {next on : To Elements} → Rooms h room free → ((a : Elements) → Good h (next a) (on a)) → Good h (mc.elements room next) (mc.elements free on)
elements-alike r d = good (λ m ts o a. elements r a d)

pub pairs-alike : {h : Hole} {room free : Room} {next on : To Pairs} → Rooms h room free → ((a : Pairs) → Good h (next a) (on a)) → Good h (mc.pairs room next) (mc.pairs free on)
pairs-alike r d = good (λ m ts o a. pairs r a d)

pub rest-alike : {h : Hole} {room free : Room} {next on : (List Name) → Stmts → Symbols → State} → Rooms h room free → ((a : List Name) (b : Stmts) → Good h (next a b) (on a b)) → Good h (mc.rest room next) (mc.rest free on)
rest-alike r d = good (λ m ts o a. rest r a d)

pub formals-alike : {h : Hole} {ns : List Name} {next on : To (List Name)} → ((a : List Name) → Good h (next a) (on a)) → Good h (mc.formals ns next) (mc.formals ns on)
formals-alike d = good (λ m ts o a. formals a d)

pub formal-alike : {h : Hole} {ns : List Name} {next on : To (List Name)} → ((a : List Name) → Good h (next a) (on a)) → Good h (mc.formal ns next) (mc.formal ns on)
formal-alike d = good (λ m ts o a. formal a d)

pub declarator-alike : {h : Hole} {room free : Room} {i : Bool} {next on : Name → MaybeExpr → Symbols → State} → Rooms h room free → ((a : Name) (b : MaybeExpr) → Good h (next a b) (on a b)) → Good h (mc.declarator room i next) (mc.declarator free i on)
declarator-alike r d = good (λ m ts o a. declarator r a d)

pub declarators-alike : {h : Hole} {room free : Room} {i : Bool} {next on : To VarItems} → Rooms h room free → ((a : VarItems) → Good h (next a) (on a)) → Good h (mc.declarators room i next) (mc.declarators free i on)
declarators-alike r d = good (λ m ts o a. declarators r a d)

pub optional-alike : {h : Hole} {room free : Room} {next on : To MaybeExpr} → Rooms h room free → ((a : MaybeExpr) → Good h (next a) (on a)) → Good h (mc.optional room next) (mc.optional free on)
optional-alike r d = good (λ m ts o a. optional r a d)

pub statement-alike : {h : Hole} {room free : Room} {c : Context} {next on : To Stmt} → Rooms h room free → ((a : Stmt) → Good h (next a) (on a)) → Good h (mc.statement room c next) (mc.statement free c on)
statement-alike r d = good (λ m ts o a. statement r a d)

pub list-alike : {h : Hole} {room free : Room} {c : Context} {next on : To Stmts} → Rooms h room free → ((a : Stmts) → Good h (next a) (on a)) → Good h (mc.list room c next) (mc.list free c on)
list-alike r d = good (λ m ts o a. list r a d)

pub source-alike : {h : Hole} {room free : Room} {c : Context} {next on : To Stmts} → Rooms h room free → ((a : Stmts) → Good h (next a) (on a)) → Good h (mc.source room c next) (mc.source free c on)
source-alike r d = good (λ m ts o a. source r a d)

pub clauses-alike : {h : Hole} {room free : Room} {c : Context} {i : Bool} {next on : To Cases} → Rooms h room free → ((a : Cases) → Good h (next a) (on a)) → Good h (mc.clauses room c i next) (mc.clauses free c i on)
clauses-alike r d = good (λ m ts o a. clauses r a d)

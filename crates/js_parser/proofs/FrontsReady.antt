-- A run of the machine beside the same one without limits, of which what is read may be finished at any time.
use Rattle.std.proofs.Common.{if◌then◌else◌, ◌≡◌, ℕ, suc, Bool, true, false, ◌&&◌, not, List, [], ◌∷◌, ◌++◌, refl, ap, ◌∙◌}
use Rattle.js_lexer.specs.declared.mark.Mark.TheVariants as m
use Rattle.js_lexer.specs.declared.word.Word.TheVariants as w
use Rattle.js_lexer.specs.declared.token.TokenKind.{TokenKind}
use Rattle.js_lexer.specs.declared.token.TokenKind.TheVariants as k
use Rattle.js_tree.specs.Tree.{Name, Expr, Exprs, MaybeExpr, Elements, Pairs, Stmt, Stmts, VarItems, Cases}
use Rattle.js_parser.specs.declared.form.Form.{Form}
use Rattle.js_parser.specs.Symbols.{Symbol, Symbols, of_kind}
use Rattle.js_parser.specs.Operators.{is_target}
use Rattle.js_parser.specs.Names.{is_distinct, get_name}
use Rattle.js_parser.specs.Contexts.{Context}
use Rattle.js_parser.specs.Rooms.{Room, unbounded}
use Rattle.js_parser.specs.Accepted.{counted}
use Rattle.js_parser.specs.Machine.{State, To}
use Rattle.js_parser.specs.Machine as mc
use Rattle.js_parser.proofs.FrontsFinish.{oddities, regular, Finish, Ending, ending, lead, same, any, closes, linked, splits, passing}
use Rattle.js_parser.proofs.FrontsFinish as f
use Rattle.js_parser.proofs.FrontsFinishStatements.{Sound, follows, shuts, f-ended}
use Rattle.js_parser.proofs.FrontsFinishStatements as fs

-- the tokens behind what is read, in the real list
pub record Front : Type 0 where
  pub form : Form
  pub rest : Symbols

mutual
  -- The real state, and the other one for each list that may stand behind what is read, while tokens of it are left.
  pub data Can (h : Front) : State → (Symbols → State) → Type 0 where
    -- at its end
    at_end : {s : State} {g : Symbols → State} → Ending h.form g → Can h s g
    equal : {s : State} {f g : Symbols → State} → Can h s g → ((o : Symbols) → f o ≡ g o) → Can h s f
    stuck : {g : Symbols → State} (t : Symbol) (r : Symbols) → Can h (mc.stuck (t ∷ (r ++ h.rest))) g
    deep : {g : Symbols → State} (t : Symbol) (r : Symbols) → Can h (mc.deep (t ∷ (r ++ h.rest))) g
    comma : {room : Room} {i : Bool} {next also : To Expr} (t : Symbol) (r : Symbols) → ((a : Expr) → Good h closes (next a) (also a)) → Can h (mc.comma room i next (t ∷ (r ++ h.rest))) (λ o. mc.comma unbounded i also (t ∷ (r ++ o)))
    comma_tail : {room : Room} {i : Bool} {x : Expr} {next also : To Expr} (t : Symbol) (r : Symbols) → ((a : Expr) → Good h closes (next a) (also a)) → Can h (mc.comma_tail room i x next (t ∷ (r ++ h.rest))) (λ o. mc.comma_tail unbounded i x also (t ∷ (r ++ o)))
    assign : {room : Room} {i : Bool} {next also : To Expr} (t : Symbol) (r : Symbols) → ((a : Expr) → Good h closes (next a) (also a)) → Can h (mc.assign room i next (t ∷ (r ++ h.rest))) (λ o. mc.assign unbounded i also (t ∷ (r ++ o)))
    choice : {room : Room} {i : Bool} {x : Expr} {next also : To Expr} (t : Symbol) (r : Symbols) → ((a : Expr) → Good h closes (next a) (also a)) → Can h (mc.choice room i x next (t ∷ (r ++ h.rest))) (λ o. mc.choice unbounded i x also (t ∷ (r ++ o)))
    climb : {room : Room} {i : Bool} {n : ℕ} {next also : To Expr} (t : Symbol) (r : Symbols) → ((a : Expr) → Good h closes (next a) (also a)) → Can h (mc.climb room i n next (t ∷ (r ++ h.rest))) (λ o. mc.climb unbounded i n also (t ∷ (r ++ o)))
    tail : {room : Room} {i : Bool} {n : ℕ} {x : Expr} {next also : To Expr} (t : Symbol) (r : Symbols) → ((a : Expr) → Good h closes (next a) (also a)) → Can h (mc.tail room i n x next (t ∷ (r ++ h.rest))) (λ o. mc.tail unbounded i n x also (t ∷ (r ++ o)))
    unary : {room : Room} {next also : To Expr} (t : Symbol) (r : Symbols) → ((a : Expr) → Good h closes (next a) (also a)) → Can h (mc.unary room next (t ∷ (r ++ h.rest))) (λ o. mc.unary unbounded also (t ∷ (r ++ o)))
    postfix : {room : Room} {x : Expr} {next also : To Expr} (t : Symbol) (r : Symbols) → ((a : Expr) → Good h closes (next a) (also a)) → Can h (mc.postfix room x next (t ∷ (r ++ h.rest))) (λ o. mc.postfix unbounded x also (t ∷ (r ++ o)))
    operand : {room : Room} {i : Bool} {next also : To Expr} (t : Symbol) (r : Symbols) → ((a : Expr) → Part h (linked i) a (next a) (also a)) → Can h (mc.operand room i next (t ∷ (r ++ h.rest))) (λ o. mc.operand unbounded i also (t ∷ (r ++ o)))
    links : {room : Room} {i : Bool} {x : Expr} {next also : To Expr} (t : Symbol) (r : Symbols) → ((a : Expr) → Part h (linked i) a (next a) (also a)) → Can h (mc.links room i x next (t ∷ (r ++ h.rest))) (λ o. mc.links unbounded i x also (t ∷ (r ++ o)))
    arguments : {room : Room} {next also : To Exprs} (t : Symbol) (r : Symbols) → ((a : Exprs) → Good h mc.is_close_parenthesis (next a) (also a)) → Can h (mc.arguments room next (t ∷ (r ++ h.rest))) (λ o. mc.arguments unbounded also (t ∷ (r ++ o)))
    argument_list : {room : Room} {next also : To Exprs} (t : Symbol) (r : Symbols) → ((a : Exprs) → Good h mc.is_close_parenthesis (next a) (also a)) → Can h (mc.argument_list room next (t ∷ (r ++ h.rest))) (λ o. mc.argument_list unbounded also (t ∷ (r ++ o)))
    elements : {room : Room} {next also : To Elements} (t : Symbol) (r : Symbols) → ((a : Elements) → Good h mc.is_close_bracket (next a) (also a)) → Can h (mc.elements room next (t ∷ (r ++ h.rest))) (λ o. mc.elements unbounded also (t ∷ (r ++ o)))
    pairs : {room : Room} {next also : To Pairs} (t : Symbol) (r : Symbols) → ((a : Pairs) → Good h mc.is_close_brace (next a) (also a)) → Can h (mc.pairs room next (t ∷ (r ++ h.rest))) (λ o. mc.pairs unbounded also (t ∷ (r ++ o)))
    rest : {room : Room} {next also : (List Name) → Stmts → Symbols → State} (t : Symbol) (r : Symbols) → ((a : List Name) (b : Stmts) → Good h any (next a b) (also a b)) → Can h (mc.rest room next (t ∷ (r ++ h.rest))) (λ o. mc.rest unbounded also (t ∷ (r ++ o)))
    formals : {ns : List Name} {next also : To (List Name)} (t : Symbol) (r : Symbols) → is_distinct ns ≡ true → ((a : List Name) → Good h mc.is_close_parenthesis (next a) (also a)) → Can h (mc.formals ns next (t ∷ (r ++ h.rest))) (λ o. mc.formals ns also (t ∷ (r ++ o)))
    formal : {ns : List Name} {next also : To (List Name)} (t : Symbol) (r : Symbols) → is_distinct ns ≡ true → ((a : List Name) → Good h mc.is_close_parenthesis (next a) (also a)) → Can h (mc.formal ns next (t ∷ (r ++ h.rest))) (λ o. mc.formal ns also (t ∷ (r ++ o)))
    declarator : {room : Room} {i : Bool} {next also : Name → MaybeExpr → Symbols → State} (t : Symbol) (r : Symbols) → ((a : Name) (b : MaybeExpr) → Good h mc.is_semicolon (next a b) (also a b)) → Can h (mc.declarator room i next (t ∷ (r ++ h.rest))) (λ o. mc.declarator unbounded i also (t ∷ (r ++ o)))
    declarators : {room : Room} {i : Bool} {next also : To VarItems} (t : Symbol) (r : Symbols) → ((a : VarItems) → Good h mc.is_semicolon (next a) (also a)) → Can h (mc.declarators room i next (t ∷ (r ++ h.rest))) (λ o. mc.declarators unbounded i also (t ∷ (r ++ o)))
    optional : {room : Room} {next also : To MaybeExpr} (t : Symbol) (r : Symbols) → ((a : MaybeExpr) → Good h splits (next a) (also a)) → Can h (mc.optional room next (t ∷ (r ++ h.rest))) (λ o. mc.optional unbounded also (t ∷ (r ++ o)))
    statement : {room : Room} {c : Context} {next also : To Stmt} (t : Symbol) (r : Symbols) → Sound h.form c → ((a : Stmt) → Good h follows (next a) (also a)) → Can h (mc.statement room c next (t ∷ (r ++ h.rest))) (λ o. mc.statement unbounded c also (t ∷ (r ++ o)))
    list : {room : Room} {c : Context} {next also : To Stmts} (t : Symbol) (r : Symbols) → Sound h.form c → ((a : Stmts) → Good h shuts (next a) (also a)) → Can h (mc.list room c next (t ∷ (r ++ h.rest))) (λ o. mc.list unbounded c also (t ∷ (r ++ o)))
    source : {room : Room} {c : Context} {next also : To Stmts} (t : Symbol) (r : Symbols) → Sound h.form c → ((a : Stmts) → Good h shuts (next a) (also a)) → Can h (mc.source room c next (t ∷ (r ++ h.rest))) (λ o. mc.source unbounded c also (t ∷ (r ++ o)))
    clauses : {room : Room} {c : Context} {i : Bool} {next also : To Cases} (t : Symbol) (r : Symbols) → Sound h.form c → ((a : Cases) → Good h mc.is_close_brace (next a) (also a)) → Can h (mc.clauses room c i next (t ∷ (r ++ h.rest))) (λ o. mc.clauses unbounded c i also (t ∷ (r ++ o)))

  -- what goes on so with the tokens that are left, and may be finished by tokens of these kinds
  pub data Good (h : Front) : (TokenKind → Bool) → (Symbols → State) → (Symbols → State) → Type 0 where
    good : {a : TokenKind → Bool} {f g : Symbols → State} → ((r : Symbols) → Can h (f (r ++ h.rest)) (λ o. g (r ++ o))) → Finish h.form a g → Good h a f g

  -- the same behind an operand, which is finished only as a target, and before a token at least
  pub data Part (h : Front) : (TokenKind → Bool) → Expr → (Symbols → State) → (Symbols → State) → Type 0 where
    part : {a : TokenKind → Bool} {x : Expr} {f g : Symbols → State} → ((t : Symbol) (r : Symbols) → Can h (f (t ∷ (r ++ h.rest))) (λ o. g (t ∷ (r ++ o)))) → (is_target x ≡ true → Finish h.form a g) → Part h a x f g

pub on : {h : Front} {a : TokenKind → Bool} {f g : Symbols → State} → Good h a f g → (r : Symbols) → Can h (f (r ++ h.rest)) (λ o. g (r ++ o))
on (good d e) = d

pub fin : {h : Front} {a : TokenKind → Bool} {f g : Symbols → State} → Good h a f g → Finish h.form a g
fin (good d e) = e

on-part : {h : Front} {a : TokenKind → Bool} {x : Expr} {f g : Symbols → State} → Part h a x f g → (t : Symbol) (r : Symbols) → Can h (f (t ∷ (r ++ h.rest))) (λ o. g (t ∷ (r ++ o)))
on-part (part d e) = d

pub fin-part : {h : Front} {a : TokenKind → Bool} {x : Expr} {f g : Symbols → State} → Part h a x f g → is_target x ≡ true → Finish h.form a g
fin-part (part d e) = e

pub whole : {h : Front} {a : TokenKind → Bool} {x : Expr} {f g : Symbols → State} → Good h a f g → Part h a x f g
whole d = part (λ t r. on d (t ∷ r)) (λ e. fin d)

-- by other kinds too
pub wide : {h : Front} {a c : TokenKind → Bool} {f g : Symbols → State} → ((kind : TokenKind) → a kind ≡ true → c kind ≡ true) → Good h a f g → Good h c f g
wide wider d = good (on d) (same wider (λ e es t h d. d) (fin d))

-- what is known before a token at least
pub ready : {h : Front} {a : TokenKind → Bool} {f g : Symbols → State} → ((t : Symbol) (r : Symbols) → Can h (f (t ∷ (r ++ h.rest))) (λ o. g (t ∷ (r ++ o)))) → Finish h.form a g → Good h a f g
ready {h = h} {a = a} {f = f} {g = g} d e = good at e
  where
    at : (r : Symbols) → Can h (f (r ++ h.rest)) (λ o. g (r ++ o))
    at [] = at_end (ending e)
    at (t ∷ r) = d t r

-- behind this token
pub record Taken (h : Front) (s : Symbol) (f g : Symbols → State) : Type 0 where
  pub takes : (r : Symbols) → Can h (f (r ++ h.rest)) (λ o. g (r ++ o))

-- with this token still left
pub kept : {h : Front} {s : Symbol} {a : TokenKind → Bool} {f g : Symbols → State} → Good h a f g → Taken h s (λ ts. f (s ∷ ts)) (λ ts. g (s ∷ ts))
kept {s = s} d = record { takes = λ r. on d (s ∷ r) }

pub kept-part : {h : Front} {s : Symbol} {a : TokenKind → Bool} {x : Expr} {f g : Symbols → State} → Part h a x f g → Taken h s (λ ts. f (s ∷ ts)) (λ ts. g (s ∷ ts))
kept-part {s = s} d = record { takes = λ r. on-part d s r }

-- with the tokens behind this one
pub passed : {h : Front} {s : Symbol} {a : TokenKind → Bool} {f g : Symbols → State} → Good h a f g → Taken h s f g
passed d = record { takes = on d }

pub refused : {h : Front} {s : Symbol} {g : Symbols → State} → Taken h s (λ ts. mc.stuck (s ∷ ts)) g
refused {s = s} = record { takes = λ r. stuck s r }

pub guarded : {h : Front} {s : Symbol} {f g : Symbols → State} → (a : Bool) → (a ≡ true → Taken h s f g) → Taken h s (λ ts. mc.guard a (s ∷ ts) (f ts)) (λ ts. mc.guard a (s ∷ ts) (g ts))
guarded true d = d refl
guarded false d = refused

pub fits : {h : Front} {a : TokenKind → Bool} {f g : Symbols → State} → (room : Room) (fit : Room → Bool) → Good h a f g → Good h a (λ ts. mc.fitting (fit room) ts (f ts)) g
fits {h = h} {a = a} {f = f} {g = g} room fit d = at (fit room)
  where
    at : (c : Bool) → Good h a (λ ts. mc.fitting c ts (f ts)) g
    at true = d
    at false = ready (λ t r. deep t r) (fin d)

-- ---- what looks at the first of the tokens

pub reading : {h : Front} {a : TokenKind → Bool} (f g : Symbols → State) → Finish h.form a g → ((s : Symbol) → Taken h s (λ ts. f (s ∷ ts)) (λ ts. g (s ∷ ts))) → Good h a f g
reading f g e some = ready (λ t r. (some t).takes r) e

pub expects : {h : Front} {a c : TokenKind → Bool} {f g : Symbols → State} → (test : TokenKind → Bool) (kind : TokenKind) → test kind ≡ true → ((n : ℕ) → counted kind n ≡ n) → a kind ≡ true
    → Good h c f g → Good h a (mc.expect test f) (mc.expect test g)
expects {f = f} {g = g} test kind is plain starts d =
    reading (mc.expect test f) (mc.expect test g) (lead (of_kind kind false) [] starts (λ ts. ap (λ b. if b then counted kind (oddities ts) else suc (oddities ts)) (regular kind) ∙ plain (oddities ts)) (λ e es t h d. passing (test kind) (of_kind kind false ∷ e ∷ es) is d) (fin d)) (λ s. guarded (test s.kind) (λ e. passed d))

pub paren : {h : Front} {a c : TokenKind → Bool} {f g : Symbols → State} → a (k.Mark m.CloseParenthesis) ≡ true → Good h c f g → Good h a (mc.expect mc.is_close_parenthesis f) (mc.expect mc.is_close_parenthesis g)
paren e d = expects mc.is_close_parenthesis (k.Mark m.CloseParenthesis) refl (λ n. refl) e d

pub bracket : {h : Front} {a c : TokenKind → Bool} {f g : Symbols → State} → a (k.Mark m.CloseBracket) ≡ true → Good h c f g → Good h a (mc.expect mc.is_close_bracket f) (mc.expect mc.is_close_bracket g)
bracket e d = expects mc.is_close_bracket (k.Mark m.CloseBracket) refl (λ n. refl) e d

pub brace : {h : Front} {a c : TokenKind → Bool} {f g : Symbols → State} → a (k.Mark m.CloseBrace) ≡ true → Good h c f g → Good h a (mc.expect mc.is_close_brace f) (mc.expect mc.is_close_brace g)
brace e d = expects mc.is_close_brace (k.Mark m.CloseBrace) refl (λ n. refl) e d

pub colon : {h : Front} {a c : TokenKind → Bool} {f g : Symbols → State} → a (k.Mark m.Colon) ≡ true → Good h c f g → Good h a (mc.expect mc.is_colon f) (mc.expect mc.is_colon g)
colon e d = expects mc.is_colon (k.Mark m.Colon) refl (λ n. refl) e d

pub semicolon : {h : Front} {a c : TokenKind → Bool} {f g : Symbols → State} → a (k.Mark m.Semicolon) ≡ true → Good h c f g → Good h a (mc.expect mc.is_semicolon f) (mc.expect mc.is_semicolon g)
semicolon e d = expects mc.is_semicolon (k.Mark m.Semicolon) refl (λ n. refl) e d

pub open-paren : {h : Front} {a c : TokenKind → Bool} {f g : Symbols → State} → a (k.Mark m.OpenParenthesis) ≡ true → Good h c f g → Good h a (mc.expect mc.is_open_parenthesis f) (mc.expect mc.is_open_parenthesis g)
open-paren e d = expects mc.is_open_parenthesis (k.Mark m.OpenParenthesis) refl (λ n. refl) e d

pub open-brace : {h : Front} {a c : TokenKind → Bool} {f g : Symbols → State} → a (k.Mark m.OpenBrace) ≡ true → Good h c f g → Good h a (mc.expect mc.is_open_brace f) (mc.expect mc.is_open_brace g)
open-brace e d = expects mc.is_open_brace (k.Mark m.OpenBrace) refl (λ n. refl) e d

pub while-word : {h : Front} {a c : TokenKind → Bool} {f g : Symbols → State} → a (k.Word w.While) ≡ true → Good h c f g → Good h a (mc.expect mc.is_while f) (mc.expect mc.is_while g)
while-word e d = expects mc.is_while (k.Word w.While) refl (λ n. refl) e d

pub get : {h : Front} {a c : TokenKind → Bool} {f g : Symbols → State} → a (k.Name get_name) ≡ true → Good h c f g → Good h a (mc.expect mc.is_get f) (mc.expect mc.is_get g)
get e d = expects mc.is_get (k.Name get_name) refl (λ n. refl) e d

pub ended-good : {h : Front} {a c : TokenKind → Bool} {f g : Symbols → State} → a (k.Mark m.Semicolon) ≡ true → Good h c f g → Good h a (mc.ended f) (mc.ended g)
ended-good {h = h} {f = f} {g = g} e d = reading (mc.ended f) (mc.ended g) (f-ended e (fin d)) (λ s. at s (mc.is_semicolon s.kind) (mc.may_insert s))
  where
    at : (s : Symbol) (a c : Bool) → Taken h s (mc.ended_by a c f s) (mc.ended_by a c g s)
    at s true c = passed d
    at s false true = kept d
    at s false false = refused

pub at-once-good : {h : Front} {a c : TokenKind → Bool} {f g : Symbols → State} → a (k.Mark m.Semicolon) ≡ true → Good h c f g → Good h a (mc.ended_at_once f) (mc.ended_at_once g)
at-once-good {h = h} {f = f} {g = g} e d =
    reading (mc.ended_at_once f) (mc.ended_at_once g) (lead (of_kind (k.Mark m.Semicolon) false) [] e (λ ts. refl) (λ e es t i d. d) (fin d)) (λ s. at s (mc.is_semicolon s.kind && not s.newline) (mc.may_insert s))
  where
    at : (s : Symbol) (a c : Bool) → Taken h s (mc.ended_by a c f s) (mc.ended_by a c g s)
    at s true c = passed d
    at s false true = kept d
    at s false false = refused

-- ---- the states

pub comma-good : {h : Front} {i : Bool} {next also : To Expr} → (room : Room) → ((a : Expr) → Good h closes (next a) (also a)) → Good h any (mc.comma room i next) (mc.comma unbounded i also)
comma-good room d = ready (λ t r. comma t r d) (f.f-comma (λ x. fin (d x)))

pub comma-tail-good : {h : Front} {i : Bool} {x : Expr} {next also : To Expr} → (room : Room) → ((a : Expr) → Good h closes (next a) (also a)) → Good h closes (mc.comma_tail room i x next) (mc.comma_tail unbounded i x also)
comma-tail-good room d = ready (λ t r. comma_tail t r d) (f.f-comma-tail (fin (d _)))

pub assign-good : {h : Front} {i : Bool} {next also : To Expr} → (room : Room) → ((a : Expr) → Good h closes (next a) (also a)) → Good h any (mc.assign room i next) (mc.assign unbounded i also)
assign-good room d = ready (λ t r. assign t r d) (f.f-assign (λ x. fin (d x)))

pub choice-good : {h : Front} {i : Bool} {x : Expr} {next also : To Expr} → (room : Room) → ((a : Expr) → Good h closes (next a) (also a)) → Good h closes (mc.choice room i x next) (mc.choice unbounded i x also)
choice-good room d = ready (λ t r. choice t r d) (f.f-choice (fin (d _)))

pub climb-good : {h : Front} {i : Bool} {n : ℕ} {next also : To Expr} → (room : Room) → ((a : Expr) → Good h closes (next a) (also a)) → Good h any (mc.climb room i n next) (mc.climb unbounded i n also)
climb-good room d = ready (λ t r. climb t r d) (f.f-climb (λ x. fin (d x)))

pub tail-good : {h : Front} {i : Bool} {n : ℕ} {x : Expr} {next also : To Expr} → (room : Room) → ((a : Expr) → Good h closes (next a) (also a)) → Good h closes (mc.tail room i n x next) (mc.tail unbounded i n x also)
tail-good room d = ready (λ t r. tail t r d) (f.f-tail (fin (d _)))

pub unary-good : {h : Front} {next also : To Expr} → (room : Room) → ((a : Expr) → Good h closes (next a) (also a)) → Good h any (mc.unary room next) (mc.unary unbounded also)
unary-good room d = ready (λ t r. unary t r d) (f.f-unary (λ x. fin (d x)))

pub postfix-good : {h : Front} {x : Expr} {next also : To Expr} → (room : Room) → ((a : Expr) → Good h closes (next a) (also a)) → Good h closes (mc.postfix room x next) (mc.postfix unbounded x also)
postfix-good room d = ready (λ t r. postfix t r d) (f.f-postfix (fin (d _)))

pub operand-good : {h : Front} {i : Bool} {next also : To Expr} → (room : Room) → ((a : Expr) → Part h (linked i) a (next a) (also a)) → Good h any (mc.operand room i next) (mc.operand unbounded i also)
operand-good room d = ready (λ t r. operand t r d) (f.f-operand (λ x e. fin-part (d x) e))

pub links-good : {h : Front} {i : Bool} {x : Expr} {next also : To Expr} → (room : Room) → ((a : Expr) → Part h (linked i) a (next a) (also a)) → Good h any (mc.links room i x next) (mc.links unbounded i x also)
links-good room d = ready (λ t r. links t r d) (f.f-links (λ x e. fin-part (d x) e))

pub arguments-good : {h : Front} {next also : To Exprs} → (room : Room) → ((a : Exprs) → Good h mc.is_close_parenthesis (next a) (also a)) → Good h any (mc.arguments room next) (mc.arguments unbounded also)
arguments-good room d = ready (λ t r. arguments t r d) (f.f-arguments (λ x. fin (d x)))

pub argument-list-good : {h : Front} {next also : To Exprs} → (room : Room) → ((a : Exprs) → Good h mc.is_close_parenthesis (next a) (also a)) → Good h any (mc.argument_list room next) (mc.argument_list unbounded also)
argument-list-good room d = ready (λ t r. argument_list t r d) (f.f-argument-list (λ x. fin (d x)))

pub elements-good : {h : Front} {next also : To Elements} → (room : Room) → ((a : Elements) → Good h mc.is_close_bracket (next a) (also a)) → Good h any (mc.elements room next) (mc.elements unbounded also)
elements-good room d = ready (λ t r. elements t r d) (f.f-elements (λ x. fin (d x)))

pub pairs-good : {h : Front} {next also : To Pairs} → (room : Room) → ((a : Pairs) → Good h mc.is_close_brace (next a) (also a)) → Good h any (mc.pairs room next) (mc.pairs unbounded also)
pairs-good room d = ready (λ t r. pairs t r d) (f.f-pairs (λ x. fin (d x)))

pub rest-good : {h : Front} {next also : (List Name) → Stmts → Symbols → State} → (room : Room) → ((a : List Name) (b : Stmts) → Good h any (next a b) (also a b)) → Good h any (mc.rest room next) (mc.rest unbounded also)
rest-good room d = ready (λ t r. rest t r d) (f.f-rest (λ ns body. fin (d ns body)))

pub formals-good : {h : Front} {ns : List Name} {next also : To (List Name)} → is_distinct ns ≡ true → ((a : List Name) → Good h mc.is_close_parenthesis (next a) (also a)) → Good h any (mc.formals ns next) (mc.formals ns also)
formals-good e d = ready (λ t r. formals t r e d) (f.f-formals (λ x. fin (d x)))

pub formal-good : {h : Front} {ns : List Name} {next also : To (List Name)} → is_distinct ns ≡ true → ((a : List Name) → Good h mc.is_close_parenthesis (next a) (also a)) → Good h any (mc.formal ns next) (mc.formal ns also)
formal-good e d = ready (λ t r. formal t r e d) (fs.f-formal e (λ x. fin (d x)))

pub declarator-good : {h : Front} {i : Bool} {next also : Name → MaybeExpr → Symbols → State} → (room : Room) → ((a : Name) (b : MaybeExpr) → Good h mc.is_semicolon (next a b) (also a b)) → Good h any (mc.declarator room i next) (mc.declarator unbounded i also)
declarator-good room d = ready (λ t r. declarator t r d) (f.f-declarator (λ n value. fin (d n value)))

pub declarators-good : {h : Front} {i : Bool} {next also : To VarItems} → (room : Room) → ((a : VarItems) → Good h mc.is_semicolon (next a) (also a)) → Good h any (mc.declarators room i next) (mc.declarators unbounded i also)
declarators-good room d = ready (λ t r. declarators t r d) (f.f-declarators (λ x. fin (d x)))

pub optional-good : {h : Front} {next also : To MaybeExpr} → (room : Room) → ((a : MaybeExpr) → Good h splits (next a) (also a)) → Good h any (mc.optional room next) (mc.optional unbounded also)
optional-good room d = ready (λ t r. optional t r d) (f.f-optional (λ x. fin (d x)))

pub statement-good : {h : Front} {c : Context} {next also : To Stmt} → (room : Room) → Sound h.form c → ((a : Stmt) → Good h follows (next a) (also a)) → Good h any (mc.statement room c next) (mc.statement unbounded c also)
statement-good room e d = ready (λ t r. statement t r e d) (fs.f-statement (λ x. fin (d x)))

pub list-good : {h : Front} {c : Context} {next also : To Stmts} {good : TokenKind → Bool} → (room : Room) → ((kind : TokenKind) → shuts kind ≡ true → good kind ≡ true) → Sound h.form c → ((a : Stmts) → Good h shuts (next a) (also a)) → Good h good (mc.list room c next) (mc.list unbounded c also)
list-good room wider e d = ready (λ t r. list t r e d) (fs.f-list wider (λ x. fin (d x)))

pub source-good : {h : Front} {c : Context} {next also : To Stmts} {good : TokenKind → Bool} → (room : Room) → ((kind : TokenKind) → shuts kind ≡ true → good kind ≡ true) → Sound h.form c → ((a : Stmts) → Good h shuts (next a) (also a)) → Good h good (mc.source room c next) (mc.source unbounded c also)
source-good room wider e d = ready (λ t r. source t r e d) (fs.f-source wider (λ x. fin (d x)))

pub clauses-good : {h : Front} {c : Context} {i : Bool} {next also : To Cases} {good : TokenKind → Bool} → (room : Room) → ((kind : TokenKind) → mc.is_close_brace kind ≡ true → good kind ≡ true) → Sound h.form c → ((a : Cases) → Good h mc.is_close_brace (next a) (also a)) → Good h good (mc.clauses room c i next) (mc.clauses unbounded c i also)
clauses-good room wider e d = ready (λ t r. clauses t r e d) (fs.f-clauses wider (λ x. fin (d x)))

-- Each run of the machine ends, with tokens left that are the last ones of the list: what is said of
-- each state, and a step in an expression, a function or a declarator.
use Rattle.std.proofs.Common.{if◌then◌else◌, ◌≡◌, ℕ, suc, nat_le, ◌<◌, Bool, true, false, ◌&&◌, not, List, [], ◌∷◌, ◌++◌, Option, Some, None, length, sym, ◌∙◌, arith}
use Rattle.std.proofs.lemmas.List.{append_assoc}
use Rattle.js_lexer.specs.declared.mark.Mark.TheVariants as m
use Rattle.js_lexer.specs.declared.word.Word.TheVariants as w
use Rattle.js_lexer.specs.declared.token.TokenKind.{TokenKind}
use Rattle.js_lexer.specs.declared.token.TokenKind.TheVariants as k
use Rattle.js_tree.specs.declared.tree.BinaryOp.{BinaryOp}
use Rattle.js_tree.specs.declared.tree.BinaryOp.TheVariants as b
use Rattle.js_tree.specs.declared.tree.PrefixOp.{PrefixOp}
use Rattle.js_tree.specs.Tree.{Name, Expr, Exprs, MaybeExpr, Elements, Pairs, Stmt, Stmts, VarItems, Cases}
use Rattle.js_tree.specs.Numbering.{is_function_number}
use Rattle.js_parser.specs.declared.form.Form.{Form}
use Rattle.js_parser.specs.declared.form.Form.TheVariants.{Source, Written}
use Rattle.js_parser.specs.Symbols.{Symbol, Symbols}
use Rattle.js_parser.specs.Contexts.{Context}
use Rattle.js_tree.specs.Levels.{Operator, level, changes}
use Rattle.js_parser.specs.Operators.{may_operate, is_target}
use Rattle.js_parser.specs.Names.{is_eval, is_reference, is_binding, is_property}
use Rattle.js_parser.specs.Rooms.{Room}
use Rattle.js_parser.specs.Machine.{State, To, guard, fitting, expect, is_semicolon, ended_by, may_insert, ended, ended_at_once, step, Goes, here, then_on}
use Rattle.js_parser.specs.Machine as mc

-- ---- the last state

-- a state behind which the machine does not go on, with the last of these tokens left
pub data Last (ts : Symbols) : State → Type 0 where
  with_tree : (tree : Stmts) → Last ts (mc.done tree)
  stuck_at : (used left : Symbols) → ts ≡ used ++ left → Last ts (mc.stuck left)
  deep_at : (used left : Symbols) → ts ≡ used ++ left → Last ts (mc.deep left)

-- the run from this state comes to a last one
pub record Ends (form : Form) (ts : Symbols) (s : State) : Type 0 where
  pub last : State
  pub run : Goes form s last
  pub is : Last ts last

-- what is read
pub record Whole : Type 0 where
  pub form : Form
  pub tokens : Symbols

-- these tokens are the last of the whole
pub record Rest (h : Whole) (ts : Symbols) : Type 0 where
  pub used : Symbols
  pub is : h.tokens ≡ used ++ ts

pub behind-it : {h : Whole} {s : Symbol} {ts : Symbols} → Rest h (s ∷ ts) → Rest h ts
behind-it {s = s} {ts = ts} r = record { used = r.used ++ (s ∷ []); is = r.is ∙ sym (append_assoc r.used (s ∷ []) ts) }

pub at-done : {h : Whole} (tree : Stmts) → Ends h.form h.tokens (mc.done tree)
at-done tree = record { last = mc.done tree; run = here; is = with_tree tree }

pub at-stuck : {h : Whole} {ts : Symbols} → Rest h ts → Ends h.form h.tokens (mc.stuck ts)
at-stuck {ts = ts} r = record { last = mc.stuck ts; run = here; is = stuck_at r.used ts r.is }

at-deep : {h : Whole} {ts : Symbols} → Rest h ts → Ends h.form h.tokens (mc.deep ts)
at-deep {ts = ts} r = record { last = mc.deep ts; run = here; is = deep_at r.used ts r.is }

-- ---- what goes on with the tokens that are left

-- what ends with less than so many tokens left
pub record Good (h : Whole) (n : ℕ) (f : Symbols → State) : Type 0 where
  pub ends : (ts : Symbols) → Rest h ts → length ts < n → Ends h.form h.tokens (f ts)

-- the same, where this token is the first of them, and the others are left
pub record Taken (h : Whole) (n : ℕ) (s : Symbol) (f : Symbols → State) : Type 0 where
  pub takes : (ts : Symbols) → Rest h (s ∷ ts) → suc (length ts) < n → Ends h.form h.tokens (f ts)

-- for each tree that is read
abbrev pub Each : (h : Whole) (n : ℕ) (A : Type 0) → To A → Type 0
Each h n A next = (x : A) → Good h n (next x)

-- with fewer tokens
pub lower : {h : Whole} {n : ℕ} {A : Type 0} {next : To A} → Each h (suc n) A next → Each h n A next
lower d x = let e = d x in record { ends = λ ts r l. e.ends ts r (omega (arith, l)) }

-- with the tokens behind this one
pub passed : {h : Whole} {n : ℕ} {s : Symbol} {f : Symbols → State} → Good h n f → Taken h n s f
passed d = record { takes = λ ts r l. d.ends ts (behind-it r) (omega (arith, l)) }

-- which are fewer
pub under : {h : Whole} {n : ℕ} {s : Symbol} {f : Symbols → State} → Good h n f → Taken h (suc n) s f
under d = record { takes = λ ts r l. d.ends ts (behind-it r) (omega (arith, l)) }

-- with this token still left
pub kept : {h : Whole} {n : ℕ} {s : Symbol} {f : Symbols → State} → Good h n f → Taken h n s (λ ts. f (s ∷ ts))
kept {s = s} d = record { takes = λ ts r l. d.ends (s ∷ ts) r l }

pub refused : {h : Whole} {n : ℕ} {s : Symbol} → Taken h n s (λ ts. mc.stuck (s ∷ ts))
refused = record { takes = λ ts r l. at-stuck r }

pub guarded : {h : Whole} {n : ℕ} {s : Symbol} {f : Symbols → State} → (a : Bool) → Taken h n s f → Taken h n s (λ ts. guard a (s ∷ ts) (f ts))
guarded true d = d
guarded false d = refused

pub allows : {h : Whole} {n : ℕ} {f : Symbols → State} → (a : Bool) → Good h n f → Good h n (λ r. guard a r (f r))
allows true d = d
allows false d = record { ends = λ ts r l. at-stuck r }

pub fits : {h : Whole} {n : ℕ} {f : Symbols → State} → (a : Bool) → Good h n f → Good h n (λ ts. fitting a ts (f ts))
fits true d = d
fits false d = record { ends = λ ts r l. at-deep r }

either : {h : Whole} {n : ℕ} {s : Symbol} {f g : Symbols → State} → (a : Bool) → Taken h n s f → Taken h n s g → Taken h n s (λ ts. if a then f ts else g ts)
either true d e = d
either false d e = e

-- what looks at the first of the tokens
pub reading : {h : Whole} {n : ℕ} (f : Symbols → State) → (Rest h [] → length {A = Symbol} [] < n → Ends h.form h.tokens (f [])) → ((s : Symbol) → Taken h n s (λ ts. f (s ∷ ts))) → Good h n f
reading {h = h} {n = n} f none some = record { ends = at }
  where
    at : (ts : Symbols) → Rest h ts → length ts < n → Ends h.form h.tokens (f ts)
    at [] r l = none r l
    at (s ∷ ts) r l = (some s).takes ts r l

pub none-left : {h : Whole} {n : ℕ} {f : Symbols → State} → Good h n f → Rest h [] → length {A = Symbol} [] < n → Ends h.form h.tokens (f [])
none-left d r l = d.ends [] r l

-- a step before
pub later : {h : Whole} {n : ℕ} (f : Symbols → State) → Good h n (λ ts. step h.form (f ts)) → Good h n f
later f d = record { ends = λ ts r l. (let e = d.ends ts r l in record { last = e.last; run = then_on e.run; is = e.is }) }

pub expects : {h : Whole} {n : ℕ} {f : Symbols → State} → (test : TokenKind → Bool) → Good h n f → Good h n (expect test f)
expects {f = f} test d = reading (expect test f) (λ r l. at-stuck r) (λ s. guarded (test s.kind) (passed d))

pub ended-good : {h : Whole} {n : ℕ} {f : Symbols → State} → Good h n f → Good h n (ended f)
ended-good {h = h} {n = n} {f = f} d = reading (ended f) (none-left d) (λ s. at s (is_semicolon s.kind) (may_insert s))
  where
    at : (s : Symbol) (a c : Bool) → Taken h n s (ended_by a c f s)
    at s true c = passed d
    at s false true = kept d
    at s false false = refused

pub at-once-good : {h : Whole} {n : ℕ} {f : Symbols → State} → Good h n f → Good h n (ended_at_once f)
at-once-good {h = h} {n = n} {f = f} d = reading (ended_at_once f) (none-left d) (λ s. at s (is_semicolon s.kind && not s.newline) (may_insert s))
  where
    at : (s : Symbol) (a c : Bool) → Taken h n s (ended_by a c f s)
    at s true c = passed d
    at s false true = kept d
    at s false false = refused

-- for each name and value
abbrev pub Both : (h : Whole) (n : ℕ) → (Name → MaybeExpr → Symbols → State) → Type 0
Both h n next = (d : Name) (value : MaybeExpr) → Good h n (next d value)

-- ---- the states

-- each state ends with less than so many tokens left, where what comes of it does
pub record Ending (h : Whole) (n : ℕ) : Type 0 where
  pub commas : (room : Room) (i : Bool) (next : To Expr) → Each h n Expr next → Good h n (mc.comma room i next)
  pub comma_tails : (room : Room) (i : Bool) (x : Expr) (next : To Expr) → Each h n Expr next → Good h n (mc.comma_tail room i x next)
  pub assigns : (room : Room) (i : Bool) (next : To Expr) → Each h n Expr next → Good h n (mc.assign room i next)
  pub choices : (room : Room) (i : Bool) (x : Expr) (next : To Expr) → Each h n Expr next → Good h n (mc.choice room i x next)
  pub climbs : (room : Room) (i : Bool) (least : ℕ) (next : To Expr) → Each h n Expr next → Good h n (mc.climb room i least next)
  pub tails : (room : Room) (i : Bool) (least : ℕ) (x : Expr) (next : To Expr) → Each h n Expr next → Good h n (mc.tail room i least x next)
  pub unaries : (room : Room) (next : To Expr) → Each h n Expr next → Good h n (mc.unary room next)
  pub postfixes : (room : Room) (x : Expr) (next : To Expr) → Each h n Expr next → Good h n (mc.postfix room x next)
  pub operands : (room : Room) (c : Bool) (next : To Expr) → Each h n Expr next → Good h n (mc.operand room c next)
  pub linkings : (room : Room) (c : Bool) (x : Expr) (next : To Expr) → Each h n Expr next → Good h n (mc.links room c x next)
  pub argumented : (room : Room) (next : To Exprs) → Each h n Exprs next → Good h n (mc.arguments room next)
  pub argument_lists : (room : Room) (next : To Exprs) → Each h n Exprs next → Good h n (mc.argument_list room next)
  pub element_lists : (room : Room) (next : To Elements) → Each h n Elements next → Good h n (mc.elements room next)
  pub pair_lists : (room : Room) (next : To Pairs) → Each h n Pairs next → Good h n (mc.pairs room next)
  pub rests : (room : Room) (next : List Name → Stmts → Symbols → State) → ((ns : List Name) (body : Stmts) → Good h n (next ns body)) → Good h n (mc.rest room next)
  pub formal_lists : (before : List Name) (next : To (List Name)) → Each h n (List Name) next → Good h n (mc.formals before next)
  pub formal_ones : (before : List Name) (next : To (List Name)) → Each h n (List Name) next → Good h n (mc.formal before next)
  pub declared_ones : (room : Room) (i : Bool) (next : Name → MaybeExpr → Symbols → State) → Both h n next → Good h n (mc.declarator room i next)
  pub declared_lists : (room : Room) (i : Bool) (next : To VarItems) → Each h n VarItems next → Good h n (mc.declarators room i next)
  pub options : (room : Room) (next : To MaybeExpr) → Each h n MaybeExpr next → Good h n (mc.optional room next)
  pub statements : (room : Room) (c : Context) (next : To Stmt) → Each h n Stmt next → Good h n (mc.statement room c next)
  pub lists : (room : Room) (c : Context) (next : To Stmts) → Each h n Stmts next → Good h n (mc.list room c next)
  pub sources : (room : Room) (c : Context) (next : To Stmts) → Each h n Stmts next → Good h n (mc.source room c next)
  pub clause_lists : (room : Room) (c : Context) (may : Bool) (next : To Cases) → Each h n Cases next → Good h n (mc.clauses room c may next)

-- ---- a step of a state that may read nothing

pub comma-by : {h : Whole} {n : ℕ} {s : Symbol} → Ending h n → (kind : TokenKind) (room : Room) (i : Bool) (x : Expr) (next : To Expr) → Each h (suc n) Expr next → Taken h (suc n) s (mc.comma_by kind room i x next s)
comma-by E (k.Mark m.Comma) room i x next d = under (fits _ (E.assigns _ _ _ (λ y. E.comma_tails _ _ _ _ (lower d))))
comma-by E _ room i x next d = kept (d x)

assign-to : {h : Whole} {n : ℕ} {s : Symbol} → Ending h n → (op : Option BinaryOp) (room : Room) (i : Bool) (x : Expr) (next : To Expr) → Each h (suc n) Expr next → Taken h (suc n) s (mc.assign_to op room i x next s)
assign-to E op room i x next d = guarded (is_target x) (under (fits _ (E.assigns _ _ _ (λ y. lower d _))))

pub choice-by : {h : Whole} {n : ℕ} {s : Symbol} → Ending h n → (kind : TokenKind) (room : Room) (i : Bool) (x : Expr) (next : To Expr) → Each h (suc n) Expr next → Taken h (suc n) s (mc.choice_by kind room i x next s)
choice-by E (k.Mark m.Question) room i x next d = under (fits _ (E.assigns _ _ _ (λ y. expects mc.is_colon (E.assigns _ _ _ (λ z. lower d _)))))
choice-by E (k.Mark m.Assign) room i x next d = assign-to E None room i x next d
choice-by E (k.Mark m.TimesAssign) room i x next d = assign-to E (Some b.Multiply) room i x next d
choice-by E (k.Mark m.SlashAssign) room i x next d = assign-to E (Some b.Divide) room i x next d
choice-by E (k.Mark m.PercentAssign) room i x next d = assign-to E (Some b.Remainder) room i x next d
choice-by E (k.Mark m.PlusAssign) room i x next d = assign-to E (Some b.Add) room i x next d
choice-by E (k.Mark m.MinusAssign) room i x next d = assign-to E (Some b.Subtract) room i x next d
choice-by E (k.Mark m.ShiftLeftAssign) room i x next d = assign-to E (Some b.ShiftLeft) room i x next d
choice-by E (k.Mark m.ShiftRightAssign) room i x next d = assign-to E (Some b.ShiftRight) room i x next d
choice-by E (k.Mark m.ShiftRightUnsignedAssign) room i x next d = assign-to E (Some b.ShiftRightUnsigned) room i x next d
choice-by E (k.Mark m.BitAndAssign) room i x next d = assign-to E (Some b.BitAnd) room i x next d
choice-by E (k.Mark m.BitXorAssign) room i x next d = assign-to E (Some b.BitXor) room i x next d
choice-by E (k.Mark m.BitOrAssign) room i x next d = assign-to E (Some b.BitOr) room i x next d
choice-by E _ room i x next d = kept (d x)

pub tail-by : {h : Whole} {n : ℕ} {s : Symbol} → Ending h n → (op : Option Operator) (room : Room) (i : Bool) (least : ℕ) (x : Expr) (next : To Expr) → Each h (suc n) Expr next → Taken h (suc n) s (mc.tail_by op room i least x next s)
tail-by E None room i least x next d = kept (d x)
tail-by E (Some op) room i least x next d = either (nat_le least (level op) && may_operate i op) (under (fits _ (E.climbs _ _ _ _ (λ y. E.tails _ _ _ _ _ (lower d))))) (kept (d x))

pub postfix-by : {h : Whole} {n : ℕ} {s : Symbol} → Ending h n → (kind : TokenKind) (newline : Bool) (room : Room) (x : Expr) (next : To Expr) → Each h (suc n) Expr next → Taken h (suc n) s (mc.postfix_by kind newline room x next s)
postfix-by E (k.Mark m.PlusPlus) false room x next d = guarded (is_target x) (under (fits _ (lower d _)))
postfix-by E (k.Mark m.MinusMinus) false room x next d = guarded (is_target x) (under (fits _ (lower d _)))
postfix-by E _ _ room x next d = kept (d x)

dot-by : {h : Whole} {n : ℕ} {s : Symbol} → Ending h n → (form : Form) (kind : TokenKind) (room : Room) (c : Bool) (x : Expr) (next : To Expr) → Each h n Expr next → Taken h n s (mc.dot_by form kind room c x next s)
dot-by E form (k.Name n) room c x next d = guarded (is_property form n) (passed (E.linkings _ _ _ _ d))
dot-by E form _ room c x next d = refused

dot : {h : Whole} {n : ℕ} → Ending h n → (form : Form) (room : Room) (c : Bool) (x : Expr) (next : To Expr) → Each h n Expr next → Good h n (mc.dot form room c x next)
dot E form room c x next d = reading (mc.dot form room c x next) (λ r l. at-stuck r) (λ s. dot-by E form s.kind room c x next d)

pub links-by : {h : Whole} {n : ℕ} {s : Symbol} → Ending h n → (form : Form) (kind : TokenKind) (room : Room) (c : Bool) (x : Expr) (next : To Expr) → Each h (suc n) Expr next → Taken h (suc n) s (mc.links_by form kind room c x next s)
links-by E form (k.Mark m.Dot) room c x next d = under (fits _ (dot E form room c x next (lower d)))
links-by E form (k.Mark m.OpenBracket) room c x next d = under (fits _ (E.commas _ _ _ (λ y. expects mc.is_close_bracket (E.linkings _ _ _ _ (lower d)))))
links-by E form (k.Mark m.OpenParenthesis) room true x next d = under (fits _ (E.argumented _ _ (λ xs. expects mc.is_close_parenthesis (E.linkings _ _ _ _ (lower d)))))
links-by E form _ room c x next d = kept (d x)

-- ---- a step of a state that reads a token

prefix-by : {h : Whole} {n : ℕ} {s : Symbol} → Ending h n → (c : Bool) (room : Room) (op : PrefixOp) (next : To Expr) → Each h n Expr next → Taken h (suc n) s (mc.prefix_by c room op next)
prefix-by E true room op next d = under (fits _ (E.operands _ _ _ (λ x. allows (is_target x) (d _))))
prefix-by E false room op next d = under (fits _ (E.unaries _ _ (λ x. d _)))

new-by : {h : Whole} {n : ℕ} {s : Symbol} → Ending h n → (kind : TokenKind) (room : Room) (c : Bool) (x : Expr) (next : To Expr) → Each h n Expr next → Taken h n s (mc.new_by kind room c x next s)
new-by E (k.Mark m.OpenParenthesis) room c x next d = passed (E.argumented _ _ (λ xs. expects mc.is_close_parenthesis (E.linkings _ _ _ _ d)))
new-by E _ room c x next d = kept (d _)

after-new : {h : Whole} {n : ℕ} → Ending h n → (room : Room) (c : Bool) (x : Expr) (next : To Expr) → Each h n Expr next → Good h n (mc.after_new room c x next)
after-new E room c x next d = reading (mc.after_new room c x next) (none-left (d _)) (λ s. new-by E s.kind room c x next d)

leaf : {h : Whole} {n : ℕ} → Ending h n → (room : Room) (c : Bool) (x : Expr) (next : To Expr) → Each h n Expr next → Good h n (mc.leaf room c x next)
leaf E room c x next d = fits _ (E.linkings _ _ _ _ d)

late-by : {h : Whole} {n : ℕ} {s : Symbol} → Ending h n → (kind : TokenKind) (in_decimal : Bool) (room : Room) (c : Bool) (next : To Expr) → Each h n Expr next → Taken h n s (mc.late_by kind in_decimal room c next s)
late-by E (k.Number n) in_decimal room c next d = guarded (in_decimal && is_function_number n) (passed (expects mc.is_close_parenthesis (expects mc.is_close_parenthesis (E.linkings _ _ _ _ d))))
late-by E _ in_decimal room c next d = refused

late-number : {h : Whole} {n : ℕ} → Ending h n → (room : Room) (c : Bool) (next : To Expr) → Each h n Expr next → Good h n (mc.late_number room c next)
late-number E room c next d = reading (mc.late_number room c next) (λ r l. at-stuck r) (λ s. late-by E s.kind s.in_decimal room c next d)

late-in : {h : Whole} {n : ℕ} {s : Symbol} → Ending h n → (form : Form) (room : Room) (c : Bool) (next : To Expr) → Each h n Expr next → Taken h (suc n) s (mc.late_in form room c next s)
late-in E Source room c next d = refused
late-in E Written room c next d = under (fits _ (expects mc.is_open_parenthesis (expects mc.is_get (expects mc.is_open_parenthesis (late-number E room c next d)))))

name-by : {h : Whole} {n : ℕ} {s : Symbol} → Ending h n → (a : Bool) (form : Form) (name : Name) (room : Room) (c : Bool) (next : To Expr) → Each h n Expr next → Taken h (suc n) s (mc.name_by a form name room c next s)
name-by E true form name room c next d = late-in E form room c next d
name-by E false form name room c next d = guarded (is_reference form name) (under (leaf E room c _ next d))

function-by : {h : Whole} {n : ℕ} {s : Symbol} → Ending h n → (form : Form) (kind : TokenKind) (room : Room) (c : Bool) (next : To Expr) → Each h n Expr next → Taken h n s (mc.function_by form kind room c next s)
function-by E form (k.Name n) room c next d = guarded (is_binding form n) (passed (E.rests _ _ (λ ns body. E.linkings _ _ _ _ d)))
function-by E form _ room c next d = kept (E.rests _ _ (λ ns body. E.linkings _ _ _ _ d))

function : {h : Whole} {n : ℕ} → Ending h n → (form : Form) (room : Room) (c : Bool) (next : To Expr) → Each h n Expr next → Good h n (mc.function form room c next)
function E form room c next d = reading (mc.function form room c next) (λ r l. at-stuck r) (λ s. function-by E form s.kind room c next d)

operand-by : {h : Whole} {n : ℕ} {s : Symbol} → Ending h n → (form : Form) (kind : TokenKind) (room : Room) (c : Bool) (next : To Expr) → Each h n Expr next → Taken h (suc n) s (mc.operand_by form kind room c next s)
operand-by E form (k.Word w.New) room c next d = under (fits _ (E.operands _ _ _ (λ x. after-new E room c x next d)))
operand-by E form (k.Word w.This) room c next d = under (leaf E room c _ next d)
operand-by E form (k.Word w.Null) room c next d = under (leaf E room c _ next d)
operand-by E form (k.Word w.True) room c next d = under (leaf E room c _ next d)
operand-by E form (k.Word w.False) room c next d = under (leaf E room c _ next d)
operand-by E form (k.Word w.Function) room c next d = under (fits _ (function E form room c next d))
operand-by E form (k.Name n) room c next d = name-by E (is_eval n) form n room c next d
operand-by E form (k.Number n) room c next d = under (leaf E room c _ next d)
operand-by E form (k.Str text) room c next d = under (leaf E room c _ next d)
operand-by E form (k.Mark m.OpenBracket) room c next d = under (fits _ (E.element_lists _ _ (λ es. expects mc.is_close_bracket (E.linkings _ _ _ _ d))))
operand-by E form (k.Mark m.OpenBrace) room c next d = under (fits _ (E.pair_lists _ _ (λ ps. expects mc.is_close_brace (E.linkings _ _ _ _ d))))
operand-by E form (k.Mark m.OpenParenthesis) room c next d = under (E.commas _ _ _ (λ x. expects mc.is_close_parenthesis (E.linkings _ _ _ _ d)))
operand-by E form _ room c next d = refused

pub operand : {h : Whole} {n : ℕ} → Ending h n → (room : Room) (c : Bool) (next : To Expr) → Each h n Expr next → Good h (suc n) (mc.operand room c next)
operand {h = h} E room c next d = later (mc.operand room c next) (reading (λ ts. step h.form (mc.operand room c next ts)) (λ r l. at-stuck r) (λ s. operand-by E h.form s.kind room c next d))

unary-by : {h : Whole} {n : ℕ} {s : Symbol} → Ending h n → (op : Option PrefixOp) (room : Room) (next : To Expr) → Each h n Expr next → Taken h (suc n) s (mc.unary_by op room next s)
unary-by E None room next d = kept (operand E _ _ _ (λ x. E.postfixes _ _ _ d))
unary-by E (Some op) room next d = prefix-by E (changes op) room op next d

pub unary : {h : Whole} {n : ℕ} → Ending h n → (room : Room) (next : To Expr) → Each h n Expr next → Good h (suc n) (mc.unary room next)
unary {h = h} E room next d = later (mc.unary room next) (reading (λ ts. step h.form (mc.unary room next ts)) (λ r l. at-stuck r) (λ s. unary-by E (mc.prefix_of s.kind) room next d))

pub climb : {h : Whole} {n : ℕ} → Ending h n → (room : Room) (i : Bool) (least : ℕ) (next : To Expr) → Each h n Expr next → Good h (suc n) (mc.climb room i least next)
climb E room i least next d = later (mc.climb room i least next) (unary E _ _ (λ x. E.tails _ _ _ _ _ d))

pub assign : {h : Whole} {n : ℕ} → Ending h n → (room : Room) (i : Bool) (next : To Expr) → Each h n Expr next → Good h (suc n) (mc.assign room i next)
assign E room i next d = later (mc.assign room i next) (climb E _ _ _ _ (λ x. E.choices _ _ _ _ d))

pub comma : {h : Whole} {n : ℕ} → Ending h n → (room : Room) (i : Bool) (next : To Expr) → Each h n Expr next → Good h (suc n) (mc.comma room i next)
comma E room i next d = later (mc.comma room i next) (assign E _ _ _ (λ x. E.comma_tails _ _ _ _ d))

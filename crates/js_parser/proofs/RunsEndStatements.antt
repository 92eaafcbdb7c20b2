-- Each run of the machine ends: a step in a statement, and the runs of whole scripts.
use Rattle.std.proofs.Common.{ℕ, zero, suc, ◌<◌, Bool, true, false, ◌&&◌, ◌||◌, not, List, [], ◌∷◌, Option, None, length, refl, arith}
use Rattle.js_lexer.specs.declared.mark.Mark.TheVariants as m
use Rattle.js_lexer.specs.declared.word.Word.TheVariants as w
use Rattle.js_lexer.specs.declared.token.TokenKind.{TokenKind}
use Rattle.js_lexer.specs.declared.token.TokenKind.TheVariants as k
use Rattle.js_tree.specs.Tree.{Name, Expr, MaybeExpr, Stmt, Stmts, Cases, ForInit, Handler}
use Rattle.js_tree.specs.Tree
use Rattle.js_parser.specs.declared.form.Form.{Form}
use Rattle.js_parser.specs.Symbols.{Symbol, Symbols}
use Rattle.js_parser.specs.Operators.{is_target}
use Rattle.js_parser.specs.Names.{key_of, is_reference, is_binding, is_among}
use Rattle.js_parser.specs.Contexts.{Context}
use Rattle.js_parser.specs.Contexts as context
use Rattle.js_parser.specs.Rooms.{Room, inside}
use Rattle.js_parser.specs.Machine.{State, To, step}
use Rattle.js_parser.specs.Machine as mc
use Rattle.js_parser.proofs.RunsEnd.{Whole, Rest, Ends, Good, Taken, Each, Ending, behind-it, at-done, at-stuck, lower, passed, under, kept, refused, guarded, fits, reading, none-left, later, expects, ended-good, at-once-good, comma-by, choice-by, tail-by, postfix-by, links-by, operand, unary, climb, assign, comma}
use Rattle.js_parser.proofs.RunsEndLists.{argument-list, arguments-by, elements-by, pairs-by, function-rest, formals-by, one-formal, declarator, declarators, optional-by}

-- ---- parts of statements

braces : {h : Whole} {n : ℕ} → Ending h n → (room : Room) (c : Context) (next : To Stmt) → Each h n Stmt next → Good h n (mc.braces room c next)
braces E room c next d = fits _ (E.lists _ _ _ (λ ss. expects mc.is_close_brace (d _)))

block : {h : Whole} {n : ℕ} → Ending h n → (room : Room) (c : Context) (next : To Stmt) → Each h n Stmt next → Good h n (mc.block room c next)
block E room c next d = expects mc.is_open_brace (braces E room c next d)

if-by : {h : Whole} {n : ℕ} {s : Symbol} → Ending h n → (room : Room) (c : Context) (kind : TokenKind) (x : Expr) (body : Stmt) (next : To Stmt) → Each h n Stmt next → Taken h n s (mc.if_by room c kind x body next s)
if-by E room c (k.Word w.Else) x body next d = passed (E.statements _ _ _ (λ other. d _))
if-by E room c _ x body next d = kept (d _)

after-if : {h : Whole} {n : ℕ} → Ending h n → (room : Room) (c : Context) (x : Expr) (body : Stmt) (next : To Stmt) → Each h n Stmt next → Good h n (mc.after_if room c x body next)
after-if E room c x body next d = reading (mc.after_if room c x body next) (none-left (d _)) (λ s. if-by E room c s.kind x body next d)

for-rest : {h : Whole} {n : ℕ} → Ending h n → (room : Room) (c : Context) (init : ForInit) (next : To Stmt) → Each h n Stmt next → Good h n (mc.for_rest room c init next)
for-rest E room c init next d = expects mc.is_semicolon (E.options _ _ (λ test. expects mc.is_semicolon (E.options _ _ (λ last. expects mc.is_close_parenthesis (E.statements _ _ _ (λ body. d _))))))

for-var-by : {h : Whole} {n : ℕ} {s : Symbol} → Ending h n → (room : Room) (c : Context) (kind : TokenKind) (name : Name) (value : MaybeExpr) (next : To Stmt) → Each h n Stmt next → Taken h n s (mc.for_var_by room c kind name value next s)
for-var-by E room c (k.Word w.In) name value next d = passed (E.commas _ _ _ (λ y. expects mc.is_close_parenthesis (E.statements _ _ _ (λ body. d _))))
for-var-by E room c (k.Mark m.Comma) name value next d = passed (E.declared_lists _ _ _ (λ items. for-rest E room c _ next d))
for-var-by E room c _ name value next d = kept (for-rest E room c _ next d)

for-var : {h : Whole} {n : ℕ} → Ending h n → (room : Room) (c : Context) (name : Name) (value : MaybeExpr) (next : To Stmt) → Each h n Stmt next → Good h n (mc.for_var room c name value next)
for-var E room c name value next d = reading (mc.for_var room c name value next) (λ r l. at-stuck r) (λ s. for-var-by E room c s.kind name value next d)

for-expression-by : {h : Whole} {n : ℕ} {s : Symbol} → Ending h n → (room : Room) (c : Context) (kind : TokenKind) (x : Expr) (next : To Stmt) → Each h n Stmt next → Taken h n s (mc.for_expression_by room c kind x next s)
for-expression-by E room c (k.Word w.In) x next d = guarded (is_target x) (passed (E.commas _ _ _ (λ y. expects mc.is_close_parenthesis (E.statements _ _ _ (λ body. d _)))))
for-expression-by E room c _ x next d = kept (for-rest E room c _ next d)

for-expression : {h : Whole} {n : ℕ} → Ending h n → (room : Room) (c : Context) (x : Expr) (next : To Stmt) → Each h n Stmt next → Good h n (mc.for_expression room c x next)
for-expression E room c x next d = reading (mc.for_expression room c x next) (λ r l. at-stuck r) (λ s. for-expression-by E room c s.kind x next d)

for-by : {h : Whole} {n : ℕ} {s : Symbol} → Ending h n → (room : Room) (c : Context) (kind : TokenKind) (next : To Stmt) → Each h n Stmt next → Taken h n s (mc.for_by room c kind next s)
for-by E room c (k.Word w.Var) next d = passed (E.declared_ones _ _ _ (λ name value. for-var E room c name value next d))
for-by E room c (k.Mark m.Semicolon) next d = kept (for-rest E room c _ next d)
for-by E room c _ next d = kept (E.commas _ _ _ (λ x. for-expression E room c x next d))

for-header : {h : Whole} {n : ℕ} → Ending h n → (room : Room) (c : Context) (next : To Stmt) → Each h n Stmt next → Good h n (mc.for_header room c next)
for-header E room c next d = reading (mc.for_header room c next) (λ r l. at-stuck r) (λ s. for-by E room c s.kind next d)

jump-by : {h : Whole} {n : ℕ} {s : Symbol} → (form : Form) (kind : TokenKind) (newline may : Bool) (names : List Name) (made : Option Name → Stmt) (next : To Stmt) → Each h n Stmt next → Taken h n s (mc.jump_by form kind newline may names made next s)
jump-by form (k.Name n) false may names made next d = guarded (is_reference form n && is_among n names) (passed (ended-good (d _)))
jump-by form _ _ may names made next d = guarded may (kept (at-once-good (d _)))

jump : {h : Whole} {n : ℕ} → (form : Form) (may : Bool) (names : List Name) (made : Option Name → Stmt) (next : To Stmt) → Each h n Stmt next → Good h n (mc.jump form may names made next)
jump {h = h} {n = n} form may names made next d = reading (mc.jump form may names made next) (none may) (λ s. jump-by form s.kind s.newline may names made next d)
  where
    none : (a : Bool) → Rest h [] → length {A = Symbol} [] < n → Ends h.form h.tokens (mc.guard a [] (next (made None) []))
    none true = none-left (d _)
    none false = λ r l. at-stuck r

return-by : {h : Whole} {n : ℕ} {s : Symbol} → Ending h n → (room : Room) (newline : Bool) (kind : TokenKind) (next : To Stmt) → Each h n Stmt next → Taken h n s (mc.return_by room newline kind next s)
return-by E room true kind next d = kept (d _)
return-by E room false (k.Mark m.Semicolon) next d = passed (d _)
return-by E room false (k.Mark m.CloseBrace) next d = kept (d _)
return-by E room false k.End next d = kept (d _)
return-by E room false _ next d = kept (E.commas _ _ _ (λ x. ended-good (d _)))

returned : {h : Whole} {n : ℕ} → Ending h n → (room : Room) (next : To Stmt) → Each h n Stmt next → Good h n (mc.returned room next)
returned E room next d = reading (mc.returned room next) (none-left (d _)) (λ s. return-by E room s.newline s.kind next d)

thrown : {h : Whole} {n : ℕ} → Ending h n → (room : Room) (next : To Stmt) → Each h n Stmt next → Good h n (mc.thrown room next)
thrown E room next d = reading (mc.thrown room next) (λ r l. at-stuck r) (λ s. guarded (not s.newline) (kept (E.commas _ _ _ (λ x. ended-good (d _)))))

finally-by : {h : Whole} {n : ℕ} {s : Symbol} → Ending h n → (room : Room) (c : Context) (kind : TokenKind) (tried : Stmt) (caught : Handler) (next : To Stmt) → Each h n Stmt next → Taken h n s (mc.finally_by room c kind tried caught next s)
finally-by E room c (k.Word w.Finally) tried caught next d = passed (block E (inside room) c _ (λ last. d (Tree.Try tried caught (Tree.AStmt last))))
finally-by E room c _ tried caught next d = kept (d _)

after-catch : {h : Whole} {n : ℕ} → Ending h n → (room : Room) (c : Context) (tried : Stmt) (caught : Handler) (next : To Stmt) → Each h n Stmt next → Good h n (mc.after_catch room c tried caught next)
after-catch E room c tried caught next d = reading (mc.after_catch room c tried caught next) (none-left (d _)) (λ s. finally-by E room c s.kind tried caught next d)

catch-by : {h : Whole} {n : ℕ} {s : Symbol} → Ending h n → (form : Form) (room : Room) (c : Context) (kind : TokenKind) (tried : Stmt) (next : To Stmt) → Each h n Stmt next → Taken h n s (mc.catch_by form room c kind tried next s)
catch-by E form room c (k.Name n) tried next d = guarded (is_binding form n) (passed (expects mc.is_close_parenthesis (block E (inside room) c _ (λ caught. after-catch E room c tried (Tree.ACatch n caught) next d))))
catch-by E form room c _ tried next d = refused

catch-name : {h : Whole} {n : ℕ} → Ending h n → (form : Form) (room : Room) (c : Context) (tried : Stmt) (next : To Stmt) → Each h n Stmt next → Good h n (mc.catch_name form room c tried next)
catch-name E form room c tried next d = reading (mc.catch_name form room c tried next) (λ r l. at-stuck r) (λ s. catch-by E form room c s.kind tried next d)

try-by : {h : Whole} {n : ℕ} {s : Symbol} → Ending h n → (form : Form) (room : Room) (c : Context) (kind : TokenKind) (tried : Stmt) (next : To Stmt) → Each h n Stmt next → Taken h n s (mc.try_by form room c kind tried next s)
try-by E form room c (k.Word w.Catch) tried next d = passed (expects mc.is_open_parenthesis (catch-name E form room c tried next d))
try-by E form room c (k.Word w.Finally) tried next d = passed (block E (inside room) c _ (λ last. d (Tree.Try tried Tree.NoHandler (Tree.AStmt last))))
try-by E form room c _ tried next d = refused

after-try : {h : Whole} {n : ℕ} → Ending h n → (form : Form) (room : Room) (c : Context) (tried : Stmt) (next : To Stmt) → Each h n Stmt next → Good h n (mc.after_try form room c tried next)
after-try E form room c tried next d = reading (mc.after_try form room c tried next) (λ r l. at-stuck r) (λ s. try-by E form room c s.kind tried next d)

-- ---- statements

stated : {h : Whole} {n : ℕ} → Ending h n → (room : Room) (next : To Stmt) → Each h n Stmt next → Good h (suc n) (mc.stated room next)
stated E room next d = comma E _ _ _ (λ x. ended-good (d _))

label-by : {h : Whole} {n : ℕ} {s t : Symbol} {ts : Symbols} → Ending h n → (form : Form) (room : Room) (c : Context) (kind : TokenKind) (name : Name) (next : To Stmt) → Each h n Stmt next
    → Rest h (s ∷ t ∷ ts) → suc (suc (length ts)) < suc n → Ends h.form h.tokens (mc.label_by form room c kind name next s t ts)
label-by {h = h} {n = n} {s = s} {t = t} {ts = ts} E form room c (k.Mark m.Colon) name next d r l = at (is_reference form name)
  where
    behind-label : Taken h (suc n) t (mc.labelled true room c name next s t)
    behind-label = guarded (not (is_among name c.labels)) (under (fits _ (E.statements _ _ _ (λ body. d _))))

    at : (is : Bool) → Ends h.form h.tokens (mc.labelled is room c name next s t ts)
    at true = behind-label.takes ts (behind-it r) (omega (arith, l))
    at false = (stated E room next d).ends (s ∷ t ∷ ts) r l
label-by {s = s} {t = t} {ts = ts} E form room c _ name next d r l = (stated E room next d).ends (s ∷ t ∷ ts) r l

label : {h : Whole} {n : ℕ} {s : Symbol} → Ending h n → (form : Form) (room : Room) (c : Context) (name : Name) (next : To Stmt) → Each h n Stmt next → Taken h (suc n) s (mc.label form room c name next s)
label {h = h} {n = n} {s = s} E form room c name next d = record { takes = at }
  where
    at : (ts : Symbols) → Rest h (s ∷ ts) → suc (length ts) < suc n → Ends h.form h.tokens (mc.label form room c name next s ts)
    at [] r l = (stated E room next d).ends (s ∷ []) r l
    at (t ∷ ts) r l = label-by E form room c t.kind name next d r l

statement-by : {h : Whole} {n : ℕ} {s : Symbol} → Ending h n → (form : Form) (room : Room) (c : Context) (kind : TokenKind) (next : To Stmt) → Each h n Stmt next → Taken h (suc n) s (mc.statement_by form room c kind next s)
statement-by E form room c (k.Mark m.OpenBrace) next d = under (braces E room c next d)
statement-by E form room c (k.Word w.Var) next d = under (fits _ (E.declared_lists _ _ _ (λ items. ended-good (d _))))
statement-by E form room c (k.Mark m.Semicolon) next d = under (fits _ (d _))
statement-by E form room c (k.Word w.If) next d = under (fits _ (expects mc.is_open_parenthesis (E.commas _ _ _ (λ x. expects mc.is_close_parenthesis (E.statements _ _ _ (λ body. after-if E room c x body next d))))))
statement-by E form room c (k.Word w.Do) next d =
    under (fits _ (E.statements _ _ _ (λ body. expects mc.is_while (expects mc.is_open_parenthesis (E.commas _ _ _ (λ x. expects mc.is_close_parenthesis (ended-good (d _))))))))
statement-by E form room c (k.Word w.While) next d = under (fits _ (expects mc.is_open_parenthesis (E.commas _ _ _ (λ x. expects mc.is_close_parenthesis (E.statements _ _ _ (λ body. d _))))))
statement-by E form room c (k.Word w.For) next d = under (fits _ (expects mc.is_open_parenthesis (for-header E (inside room) (context.loop c) next d)))
statement-by E form room c (k.Word w.Continue) next d = guarded (c.in_loop || mc.are_some c.loops) (under (fits _ (jump form c.in_loop c.loops Tree.Continue next d)))
statement-by E form room c (k.Word w.Break) next d = guarded (context.may_break c || mc.are_some c.labels) (under (fits _ (jump form (context.may_break c) c.labels Tree.Break next d)))
statement-by E form room c (k.Word w.Return) next d = guarded c.in_function (under (fits _ (returned E room next d)))
statement-by E form room c (k.Word w.Switch) next d =
    under (fits _ (expects mc.is_open_parenthesis (E.commas _ _ _ (λ x. expects mc.is_close_parenthesis (expects mc.is_open_brace (E.clause_lists _ _ _ _ (λ cs. expects mc.is_close_brace (d _))))))))
statement-by E form room c (k.Word w.Throw) next d = under (fits _ (thrown E room next d))
statement-by E form room c (k.Word w.Try) next d = under (fits _ (block E (inside room) (context.part c) _ (λ tried. after-try E form room (context.part c) tried next d)))
statement-by E form room c (k.Word w.Function) next d = refused
statement-by E form room c (k.Name n) next d = label E form room c n next d
statement-by E form room c _ next d = kept (stated E room next d)

pub statement : {h : Whole} {n : ℕ} → Ending h n → (room : Room) (c : Context) (next : To Stmt) → Each h n Stmt next → Good h (suc n) (mc.statement room c next)
statement {h = h} E room c next d = later (mc.statement room c next) (reading (λ ts. step h.form (mc.statement room c next ts)) (λ r l. at-stuck r) (λ s. statement-by E h.form room c s.kind next d))

list-by : {h : Whole} {n : ℕ} {s : Symbol} → Ending h n → (room : Room) (c : Context) (kind : TokenKind) (next : To Stmts) → Each h (suc n) Stmts next → Taken h (suc n) s (mc.list_by room c kind next s)
list-by E room c (k.Mark m.CloseBrace) next d = kept (d _)
list-by E room c k.End next d = kept (d _)
list-by E room c (k.Word w.Case) next d = kept (d _)
list-by E room c (k.Word w.Default) next d = kept (d _)
list-by E room c _ next d = kept (statement E _ _ _ (λ x. E.lists _ _ _ (λ xs. lower d _)))

declared-by : {h : Whole} {n : ℕ} {s : Symbol} → Ending h n → (form : Form) (room : Room) (c : Context) (kind : TokenKind) (next : To Stmts) → Each h n Stmts next → Taken h n s (mc.declared_by form room c kind next s)
declared-by E form room c (k.Name n) next d = guarded (is_binding form n) (passed (E.rests _ _ (λ ns body. E.sources _ _ _ (λ xs. d _))))
declared-by E form room c _ next d = refused

declared : {h : Whole} {n : ℕ} → Ending h n → (form : Form) (room : Room) (c : Context) (next : To Stmts) → Each h n Stmts next → Good h n (mc.declared form room c next)
declared E form room c next d = reading (mc.declared form room c next) (λ r l. at-stuck r) (λ s. declared-by E form room c s.kind next d)

source-by : {h : Whole} {n : ℕ} {s : Symbol} → Ending h n → (form : Form) (room : Room) (c : Context) (kind : TokenKind) (next : To Stmts) → Each h (suc n) Stmts next → Taken h (suc n) s (mc.source_by form room c kind next s)
source-by E form room c (k.Mark m.CloseBrace) next d = kept (d _)
source-by E form room c k.End next d = kept (d _)
source-by E form room c (k.Word w.Function) next d = under (fits _ (declared E form room c next (lower d)))
source-by E form room c _ next d = kept (statement E _ _ _ (λ x. E.sources _ _ _ (λ xs. lower d _)))

clauses-by : {h : Whole} {n : ℕ} {s : Symbol} → Ending h n → (room : Room) (c : Context) (may : Bool) (kind : TokenKind) (next : To Cases) → Each h (suc n) Cases next → Taken h (suc n) s (mc.clauses_by room c may kind next s)
clauses-by E room c may (k.Word w.Case) next d = under (E.commas _ _ _ (λ x. expects mc.is_colon (E.lists _ _ _ (λ ss. E.clause_lists _ _ _ _ (λ cs. lower d _)))))
clauses-by E room c may (k.Word w.Default) next d = guarded may (under (expects mc.is_colon (E.lists _ _ _ (λ ss. E.clause_lists _ _ _ _ (λ cs. lower d _)))))
clauses-by E room c may _ next d = kept (d _)

finished : {h : Whole} {n : ℕ} (ss : Stmts) → Good h n (mc.finished ss)
finished ss = reading (mc.finished ss) (λ r l. at-stuck r) (λ s. guarded (mc.is_end s.kind) (passed (reading (mc.finished_by ss) (λ r l. at-done ss) (λ s. refused))))

-- ---- runs

nothing : {h : Whole} {f : Symbols → State} → Good h 0 f
nothing = record { ends = λ ts r l. absurd (omega (arith, l)) }

none-ends : (h : Whole) → Ending h 0
none-ends h = record {
  commas = λ room i next d. nothing;
  comma_tails = λ room i x next d. nothing;
  assigns = λ room i next d. nothing;
  choices = λ room i x next d. nothing;
  climbs = λ room i least next d. nothing;
  tails = λ room i least x next d. nothing;
  unaries = λ room next d. nothing;
  postfixes = λ room x next d. nothing;
  operands = λ room c next d. nothing;
  linkings = λ room c x next d. nothing;
  argumented = λ room next d. nothing;
  argument_lists = λ room next d. nothing;
  element_lists = λ room next d. nothing;
  pair_lists = λ room next d. nothing;
  rests = λ room next d. nothing;
  formal_lists = λ before next d. nothing;
  formal_ones = λ before next d. nothing;
  declared_ones = λ room i next d. nothing;
  declared_lists = λ room i next d. nothing;
  options = λ room next d. nothing;
  statements = λ room c next d. nothing;
  lists = λ room c next d. nothing;
  sources = λ room c next d. nothing;
  clause_lists = λ room c may next d. nothing;
}

-- with a token more
one-more : {h : Whole} {n : ℕ} → Ending h n → Ending h (suc n)
one-more {h = h} E = record {
  commas = λ room i next d. comma E room i next (lower d);
  comma_tails = λ room i x next d. later (mc.comma_tail room i x next) (reading (λ ts. step h.form (mc.comma_tail room i x next ts)) (none-left (d x)) (λ s. comma-by E s.kind room i x next d));
  assigns = λ room i next d. assign E room i next (lower d);
  choices = λ room i x next d. later (mc.choice room i x next) (reading (λ ts. step h.form (mc.choice room i x next ts)) (none-left (d x)) (λ s. choice-by E s.kind room i x next d));
  climbs = λ room i least next d. climb E room i least next (lower d);
  tails = λ room i least x next d. later (mc.tail room i least x next) (reading (λ ts. step h.form (mc.tail room i least x next ts)) (none-left (d x)) (λ s. tail-by E (mc.operator_of s.kind) room i least x next d));
  unaries = λ room next d. unary E room next (lower d);
  postfixes = λ room x next d. later (mc.postfix room x next) (reading (λ ts. step h.form (mc.postfix room x next ts)) (none-left (d x)) (λ s. postfix-by E s.kind s.newline room x next d));
  operands = λ room c next d. operand E room c next (lower d);
  linkings = λ room c x next d. later (mc.links room c x next) (reading (λ ts. step h.form (mc.links room c x next ts)) (none-left (d x)) (λ s. links-by E h.form s.kind room c x next d));
  argumented = λ room next d. later (mc.arguments room next) (reading (λ ts. step h.form (mc.arguments room next ts)) (λ r l. at-stuck r) (λ s. arguments-by E s.kind room next d));
  argument_lists = λ room next d. argument-list E room next (lower d);
  element_lists = λ room next d. later (mc.elements room next) (reading (λ ts. step h.form (mc.elements room next ts)) (λ r l. at-stuck r) (λ s. elements-by E s.kind room next d));
  pair_lists = λ room next d. later (mc.pairs room next) (reading (λ ts. step h.form (mc.pairs room next ts)) (λ r l. at-stuck r) (λ s. pairs-by E (key_of h.form s.kind) room next d));
  rests = λ room next d. function-rest E room next (λ ns body. lower (d ns) body);
  formal_lists = λ before next d. later (mc.formals before next) (reading (λ ts. step h.form (mc.formals before next ts)) (λ r l. at-stuck r) (λ s. formals-by E h.form s.kind before next d));
  formal_ones = λ before next d. one-formal E before next (lower d);
  declared_ones = λ room i next d. declarator E room i next (λ name value. lower (d name) value);
  declared_lists = λ room i next d. declarators E room i next (lower d);
  options = λ room next d. later (mc.optional room next) (reading (λ ts. step h.form (mc.optional room next ts)) (λ r l. at-stuck r) (λ s. optional-by E s.kind room next d));
  statements = λ room c next d. statement E room c next (lower d);
  lists = λ room c next d. later (mc.list room c next) (reading (λ ts. step h.form (mc.list room c next ts)) (none-left (d _)) (λ s. list-by E room c s.kind next d));
  sources = λ room c next d. later (mc.source room c next) (reading (λ ts. step h.form (mc.source room c next ts)) (none-left (d _)) (λ s. source-by E h.form room c s.kind next d));
  clause_lists = λ room c may next d. later (mc.clauses room c may next) (reading (λ ts. step h.form (mc.clauses room c may next ts)) (none-left (d _)) (λ s. clauses-by E room c may s.kind next d));
}

-- with any number of tokens
pub ending : (h : Whole) (n : ℕ) → Ending h n
ending h zero = none-ends h
ending h (suc n) = one-more (ending h n)

-- each run on a whole script ends
pub script_ends : (form : Form) (room : Room) (tokens : Symbols) → Ends form tokens (mc.script room tokens)
script_ends form room tokens =
    ((ending (record { form = form; tokens = tokens }) (suc (length tokens))).sources room context.script mc.finished (λ ss. finished ss)).ends tokens (record { used = []; is = refl }) (omega arith)

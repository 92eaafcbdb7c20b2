-- What may be finished is so behind a step in a statement.
use Rattle.std.proofs.Common.{◌≡◌, Bool, true, false, ◌&&◌, ◌||◌, not, List, [], ◌∷◌, ◌++◌, Option, refl, ap, sym, subst}
use Rattle.std.specs.List.{list_all}
use Rattle.js_lexer.specs.declared.mark.Mark.TheVariants as m
use Rattle.js_lexer.specs.declared.word.Word.TheVariants as w
use Rattle.js_lexer.specs.declared.token.TokenKind.{TokenKind}
use Rattle.js_lexer.specs.declared.token.TokenKind.TheVariants as k
use Rattle.js_tree.specs.Tree.{Name, Expr, MaybeExpr, Stmt, Stmts, Cases, ForInit, Handler}
use Rattle.js_tree.specs.Tree
use Rattle.js_parser.specs.declared.form.Form.{Form}
use Rattle.js_parser.specs.Symbols.{Symbol, Symbols}
use Rattle.js_parser.specs.Operators.{is_target}
use Rattle.js_parser.specs.Names.{is_reference, is_binding, is_among}
use Rattle.js_parser.specs.Contexts.{Context}
use Rattle.js_parser.specs.Contexts as context
use Rattle.js_parser.specs.Rooms.{Room, unbounded, inside, in_function, fits_function}
use Rattle.js_parser.specs.Machine.{To, here}
use Rattle.js_parser.specs.Machine as mc
use Rattle.js_parser.proofs.FrontsFinish.{any, closes, all-any, ending}
use Rattle.js_parser.proofs.FrontsFinishStatements.{Sound, sound-part, sound-loop, sound-clause, sound-labelled, follows, shuts, shuts-follows, brace-shuts, f-label, f-after-if, f-for-var, f-for-expression, f-for-header, f-jump, f-returned, f-thrown, f-after-catch, f-catch-name, f-after-try, f-declared, f-finished}
use Rattle.js_parser.proofs.FrontsReady.{Front, Can, Good, Taken, at_end, equal, stuck, on, fin, kept, passed, refused, guarded, fits, reading, paren, brace, colon, semicolon, open-paren, open-brace, while-word, ended-good, at-once-good, comma-good, rest-good, declarator-good, declarators-good, optional-good, statement-good, list-good, source-good, clauses-good}
use Rattle.js_parser.proofs.FrontsReadyExpressions.{Each, node}

stated : {h : Front} {next also : To Stmt} → (room : Room) → Each h follows Stmt next also → Good h any (mc.stated room next) (mc.stated unbounded also)
stated room d = comma-good (inside room) (λ x. ended-good {a = closes} refl (d _))

braces : {h : Front} {a : TokenKind → Bool} {next also : To Stmt} → (room : Room) (c : Context) → Sound h.form c → Each h a Stmt next also → Good h any (mc.braces room c next) (mc.braces unbounded c also)
braces room c z d = node room (list-good (inside room) (all-any shuts) (sound-part z) (λ ss. brace refl (d _)))

block : {h : Front} {a : TokenKind → Bool} {next also : To Stmt} → (room : Room) (c : Context) → Sound h.form c → Each h a Stmt next also → Good h any (mc.block room c next) (mc.block unbounded c also)
block room c z d = open-brace refl (braces room c z d)

if-by : {h : Front} {s : Symbol} {next also : To Stmt} → (room : Room) (c : Context) → Sound h.form c → (kind : TokenKind) (x : Expr) (body : Stmt) → Each h follows Stmt next also
    → Taken h s (mc.if_by room c kind x body next s) (mc.if_by unbounded c kind x body also s)
if-by room c z (k.Word w.Else) x body d = passed (statement-good (inside room) (sound-part z) (λ other. d _))
if-by room c z _ x body d = kept (d _)

after-if : {h : Front} {next also : To Stmt} → (room : Room) (c : Context) → Sound h.form c → (x : Expr) (body : Stmt) → Each h follows Stmt next also → Good h follows (mc.after_if room c x body next) (mc.after_if unbounded c x body also)
after-if {next = next} {also = also} room c z x body d =
    reading (mc.after_if room c x body next) (mc.after_if unbounded c x body also) (f-after-if c (λ x. fin (d x))) (λ s. if-by room c z s.kind x body d)

for-rest : {h : Front} {next also : To Stmt} → (room : Room) (c : Context) → Sound h.form c → (init : ForInit) → Each h follows Stmt next also → Good h mc.is_semicolon (mc.for_rest room c init next) (mc.for_rest unbounded c init also)
for-rest room c z init d = semicolon refl (optional-good room (λ test. semicolon refl (optional-good room (λ last. paren refl (statement-good room z (λ body. d _))))))

for-var-by : {h : Front} {s : Symbol} {next also : To Stmt} → (room : Room) (c : Context) → Sound h.form c → (kind : TokenKind) (n : Name) (value : MaybeExpr) → Each h follows Stmt next also
    → Taken h s (mc.for_var_by room c kind n value next s) (mc.for_var_by unbounded c kind n value also s)
for-var-by room c z (k.Word w.In) n value d = passed (comma-good room (λ y. paren refl (statement-good room z (λ body. d _))))
for-var-by room c z (k.Mark m.Comma) n value d = passed (declarators-good room (λ items. for-rest room c z _ d))
for-var-by room c z _ n value d = kept (for-rest room c z _ d)

for-var : {h : Front} {next also : To Stmt} → (room : Room) (c : Context) → Sound h.form c → (n : Name) (value : MaybeExpr) → Each h follows Stmt next also
    → Good h mc.is_semicolon (mc.for_var room c n value next) (mc.for_var unbounded c n value also)
for-var {next = next} {also = also} room c z n value d =
    reading (mc.for_var room c n value next) (mc.for_var unbounded c n value also) (f-for-var refl (λ x. fin (d x))) (λ s. for-var-by room c z s.kind n value d)

for-expression-by : {h : Front} {s : Symbol} {next also : To Stmt} → (room : Room) (c : Context) → Sound h.form c → (kind : TokenKind) (x : Expr) → Each h follows Stmt next also
    → Taken h s (mc.for_expression_by room c kind x next s) (mc.for_expression_by unbounded c kind x also s)
for-expression-by room c z (k.Word w.In) x d = guarded (is_target x) (λ e. passed (comma-good room (λ y. paren refl (statement-good room z (λ body. d _)))))
for-expression-by room c z _ x d = kept (for-rest room c z _ d)

for-expression : {h : Front} {next also : To Stmt} → (room : Room) (c : Context) → Sound h.form c → (x : Expr) → Each h follows Stmt next also → Good h closes (mc.for_expression room c x next) (mc.for_expression unbounded c x also)
for-expression {next = next} {also = also} room c z x d =
    reading (mc.for_expression room c x next) (mc.for_expression unbounded c x also) (f-for-expression refl (λ x. fin (d x))) (λ s. for-expression-by room c z s.kind x d)

for-by : {h : Front} {s : Symbol} {next also : To Stmt} → (room : Room) (c : Context) → Sound h.form c → (kind : TokenKind) → Each h follows Stmt next also → Taken h s (mc.for_by room c kind next s) (mc.for_by unbounded c kind also s)
for-by room c z (k.Word w.Var) d = passed (declarator-good room (λ n value. for-var room c z n value d))
for-by room c z (k.Mark m.Semicolon) d = kept (for-rest room c z _ d)
for-by room c z _ d = kept (comma-good room (λ x. for-expression room c z x d))

for-header : {h : Front} {next also : To Stmt} → (room : Room) (c : Context) → Sound h.form c → Each h follows Stmt next also → Good h any (mc.for_header room c next) (mc.for_header unbounded c also)
for-header {next = next} {also = also} room c z d = reading (mc.for_header room c next) (mc.for_header unbounded c also) (f-for-header (λ x. fin (d x))) (λ s. for-by room c z s.kind d)

jump-by : {h : Front} {s : Symbol} {next also : To Stmt} → (form : Form) (kind : TokenKind) (newline may : Bool) (names : List Name) (made : Option Name → Stmt) → Each h follows Stmt next also
    → Taken h s (mc.jump_by form kind newline may names made next s) (mc.jump_by form kind newline may names made also s)
jump-by form (k.Name n) false may names made d = guarded (is_reference form n && is_among n names) (λ e. passed (ended-good {a = any} refl (d _)))
jump-by form _ _ may names made d = guarded may (λ e. kept (at-once-good {a = any} refl (d _)))

jump : {h : Front} {next also : To Stmt} → (may : Bool) (names : List Name) (made : Option Name → Stmt) → (may || mc.are_some names) ≡ true → list_all (is_reference h.form) names ≡ true → Each h follows Stmt next also
    → Good h any (mc.jump h.form may names made next) (mc.jump h.form may names made also)
jump {h = h} {next = next} {also = also} may names made e i d =
    reading (mc.jump h.form may names made next) (mc.jump h.form may names made also) (f-jump {made = made} may names e i (λ x. fin (d x))) (λ s. jump-by h.form s.kind s.newline may names made d)

return-by : {h : Front} {s : Symbol} {next also : To Stmt} → (room : Room) (newline : Bool) (kind : TokenKind) → Each h follows Stmt next also
    → Taken h s (mc.return_by room newline kind next s) (mc.return_by unbounded newline kind also s)
return-by room true kind d = kept (d _)
return-by room false (k.Mark m.Semicolon) d = passed (d _)
return-by room false (k.Mark m.CloseBrace) d = kept (d _)
return-by room false k.End d = kept (d _)
return-by room false _ d = kept (comma-good (inside room) (λ x. ended-good {a = closes} refl (d _)))

returned : {h : Front} {next also : To Stmt} → (room : Room) → Each h follows Stmt next also → Good h any (mc.returned room next) (mc.returned unbounded also)
returned {next = next} {also = also} room d = reading (mc.returned room next) (mc.returned unbounded also) (f-returned (λ x. fin (d x))) (λ s. return-by room s.newline s.kind d)

thrown : {h : Front} {next also : To Stmt} → (room : Room) → Each h follows Stmt next also → Good h any (mc.thrown room next) (mc.thrown unbounded also)
thrown {next = next} {also = also} room d =
    reading (mc.thrown room next) (mc.thrown unbounded also) (f-thrown (λ x. fin (d x))) (λ s. guarded (not s.newline) (λ e. kept (comma-good (inside room) (λ x. ended-good {a = closes} refl (d _)))))

finally-by : {h : Front} {s : Symbol} {next also : To Stmt} → (room : Room) (c : Context) → Sound h.form c → (kind : TokenKind) (tried : Stmt) (caught : Handler) → Each h follows Stmt next also
    → Taken h s (mc.finally_by room c kind tried caught next s) (mc.finally_by unbounded c kind tried caught also s)
finally-by room c z (k.Word w.Finally) tried caught d = passed (block (inside room) c z (λ last. d (Tree.Try tried caught (Tree.AStmt last))))
finally-by room c z _ tried caught d = kept (d _)

after-catch : {h : Front} {next also : To Stmt} → (room : Room) (c : Context) → Sound h.form c → (tried : Stmt) (caught : Handler) → Each h follows Stmt next also
    → Good h follows (mc.after_catch room c tried caught next) (mc.after_catch unbounded c tried caught also)
after-catch {next = next} {also = also} room c z tried caught d =
    reading (mc.after_catch room c tried caught next) (mc.after_catch unbounded c tried caught also) (f-after-catch c (λ x. fin (d x))) (λ s. finally-by room c z s.kind tried caught d)

catch-by : {h : Front} {s : Symbol} {next also : To Stmt} → (form : Form) (room : Room) (c : Context) → Sound h.form c → (kind : TokenKind) (tried : Stmt) → Each h follows Stmt next also
    → Taken h s (mc.catch_by form room c kind tried next s) (mc.catch_by form unbounded c kind tried also s)
catch-by form room c z (k.Name n) tried d = guarded (is_binding form n) (λ e. passed (paren {a = any} refl (block (inside room) c z (λ caught. after-catch room c z tried (Tree.ACatch n caught) d))))
catch-by form room c z _ tried d = refused

catch-name : {h : Front} {next also : To Stmt} → (room : Room) (c : Context) → Sound h.form c → (tried : Stmt) → Each h follows Stmt next also → Good h any (mc.catch_name h.form room c tried next) (mc.catch_name h.form unbounded c tried also)
catch-name {h = h} {next = next} {also = also} room c z tried d =
    reading (mc.catch_name h.form room c tried next) (mc.catch_name h.form unbounded c tried also) (f-catch-name c (λ x. fin (d x))) (λ s. catch-by h.form room c z s.kind tried d)

try-by : {h : Front} {s : Symbol} {next also : To Stmt} → (room : Room) (c : Context) → Sound h.form c → (kind : TokenKind) (tried : Stmt) → Each h follows Stmt next also
    → Taken h s (mc.try_by h.form room c kind tried next s) (mc.try_by h.form unbounded c kind tried also s)
try-by room c z (k.Word w.Catch) tried d = passed (open-paren {a = any} refl (catch-name room c z tried d))
try-by room c z (k.Word w.Finally) tried d = passed (block (inside room) c z (λ last. d (Tree.Try tried Tree.NoHandler (Tree.AStmt last))))
try-by room c z _ tried d = refused

after-try : {h : Front} {next also : To Stmt} → (room : Room) (c : Context) → Sound h.form c → (tried : Stmt) → Each h follows Stmt next also → Good h any (mc.after_try h.form room c tried next) (mc.after_try h.form unbounded c tried also)
after-try {h = h} {next = next} {also = also} room c z tried d =
    reading (mc.after_try h.form room c tried next) (mc.after_try h.form unbounded c tried also) (f-after-try c (λ x. fin (d x))) (λ s. try-by room c z s.kind tried d)

-- ---- a name, and the colon that may stand behind it

no-label : (form : Form) (room : Room) (c : Context) (n : Name) (next : To Stmt) (s : Symbol) (ts : Symbols) → is_reference form n ≡ false → mc.label form room c n next s ts ≡ mc.stated room next (s ∷ ts)
no-label form room c n next s [] h = refl
no-label form room c n next s (t ∷ ts) h = at t.kind
  where
    at : (kind : TokenKind) → mc.label_by form room c kind n next s t ts ≡ mc.stated room next (s ∷ t ∷ ts)
    at (k.Mark m.Colon) = ap (λ a. mc.labelled a room c n next s t ts) h
    at _ = refl

label-by : {h : Front} {next also : To Stmt} → (room : Room) (c : Context) → Sound h.form c → (kind : TokenKind) (n : Name) (s t : Symbol) → Each h follows Stmt next also
    → (r : Symbols) → Can h (mc.label_by h.form room c kind n next s t (r ++ h.rest)) (λ o. mc.label_by h.form unbounded c kind n also s t (r ++ o))
label-by {h = h} {next = next} {also = also} room c z (k.Mark m.Colon) n s t d r = at (is_reference h.form n) refl
  where
    at : (is : Bool) → is_reference h.form n ≡ is → Can h (mc.labelled is room c n next s t (r ++ h.rest)) (λ o. mc.labelled is unbounded c n also s t (r ++ o))
    at true e = (guarded {s = t} (not (is_among n c.labels)) (λ i. passed (node room (statement-good (inside room) (sound-labelled n e z) (λ body. d _))))).takes r
    at false e = on (stated room d) (s ∷ t ∷ r)
label-by room c z _ n s t d r = on (stated room d) (s ∷ t ∷ r)

label : {h : Front} {next also : To Stmt} → (room : Room) (c : Context) → Sound h.form c → (s : Symbol) (n : Name) → s.kind ≡ k.Name n → Each h follows Stmt next also → Taken h s (mc.label h.form room c n next s) (mc.label h.form unbounded c n also s)
label {h = h} {next = next} {also = also} room c z s n e d = record { takes = at }
  where
    nearest : (a : Bool) → is_reference h.form n ≡ a → Can h (mc.label h.form room c n next s h.rest) (λ o. mc.label h.form unbounded c n also s o)
    nearest true is = at_end (ending (f-label s n e is (λ x. fin (d x))))
    nearest false is =
        subst (λ u. Can h u (λ o. mc.label h.form unbounded c n also s o)) (sym (no-label h.form room c n next s h.rest is))
        (equal (on (stated room d) (s ∷ [])) (λ o. no-label h.form unbounded c n also s o is))

    at : (r : Symbols) → Can h (mc.label h.form room c n next s (r ++ h.rest)) (λ o. mc.label h.form unbounded c n also s (r ++ o))
    at [] = nearest (is_reference h.form n) refl
    at (t ∷ r) = label-by room c z t.kind n s t d r

-- ---- statements

pub statement-by : {h : Front} {s : Symbol} {next also : To Stmt} → (room : Room) (c : Context) → Sound h.form c → (kind : TokenKind) → s.kind ≡ kind → Each h follows Stmt next also
    → Taken h s (mc.statement_by h.form room c kind next s) (mc.statement_by h.form unbounded c kind also s)
statement-by room c z (k.Mark m.OpenBrace) e d = passed (braces room c z d)
statement-by room c z (k.Word w.Var) e d = passed (node room (declarators-good (inside room) (λ items. ended-good {a = mc.is_semicolon} refl (d _))))
statement-by room c z (k.Mark m.Semicolon) e d = passed (node room (d _))
statement-by room c z (k.Word w.If) e d =
    passed (node room (open-paren {a = any} refl (comma-good (inside room) (λ x. paren refl (statement-good (inside room) (sound-part z) (λ body. after-if room c z x body d))))))
statement-by room c z (k.Word w.Do) e d =
    passed (node room (statement-good (inside room) (sound-loop z) (λ body. while-word refl (open-paren {a = any} refl (comma-good (inside room) (λ x. paren refl (ended-good {a = any} refl (d _))))))))
statement-by room c z (k.Word w.While) e d =
    passed (node room (open-paren {a = any} refl (comma-good (inside room) (λ x. paren refl (statement-good (inside room) (sound-loop z) (λ body. d _))))))
statement-by room c z (k.Word w.For) e d = passed (node room (open-paren {a = any} refl (for-header (inside room) (context.loop c) (sound-loop z) d)))
statement-by room c z (k.Word w.Continue) e d = guarded (c.in_loop || mc.are_some c.loops) (λ i. passed (node room (jump c.in_loop c.loops Tree.Continue i z.loops d)))
statement-by room c z (k.Word w.Break) e d = guarded (context.may_break c || mc.are_some c.labels) (λ i. passed (node room (jump (context.may_break c) c.labels Tree.Break i z.labels d)))
statement-by room c z (k.Word w.Return) e d = guarded c.in_function (λ i. passed (node room (returned room d)))
statement-by room c z (k.Word w.Switch) e d =
    passed (node room (open-paren {a = any} refl (comma-good (inside room) (λ x. paren refl (open-brace {a = any} refl (clauses-good {good = any} (inside room) (all-any mc.is_close_brace) (sound-clause z) (λ cs. brace refl (d _))))))))
statement-by room c z (k.Word w.Throw) e d = passed (node room (thrown room d))
statement-by room c z (k.Word w.Try) e d = passed (node room (block (inside room) (context.part c) (sound-part z) (λ tried. after-try room (context.part c) (sound-part z) tried d)))
statement-by room c z (k.Word w.Function) e d = refused
statement-by {s = s} room c z (k.Name n) e d = label room c z s n e d
statement-by room c z _ e d = kept (stated room d)

pub list-by : {h : Front} {s : Symbol} {next also : To Stmts} → (room : Room) (c : Context) → Sound h.form c → (kind : TokenKind) → Each h shuts Stmts next also → Taken h s (mc.list_by room c kind next s) (mc.list_by unbounded c kind also s)
list-by room c z (k.Mark m.CloseBrace) d = kept (d _)
list-by room c z k.End d = kept (d _)
list-by room c z (k.Word w.Case) d = kept (d _)
list-by room c z (k.Word w.Default) d = kept (d _)
list-by room c z _ d = kept (statement-good room z (λ x. list-good room shuts-follows z (λ xs. d _)))

declared-by : {h : Front} {s : Symbol} {next also : To Stmts} → (form : Form) (room : Room) (c : Context) → Sound h.form c → (kind : TokenKind) → Each h shuts Stmts next also
    → Taken h s (mc.declared_by form room c kind next s) (mc.declared_by form unbounded c kind also s)
declared-by form room c z (k.Name n) d = guarded (is_binding form n) (λ e. passed (rest-good (in_function room) (λ ns body. source-good room (all-any shuts) z (λ xs. d _))))
declared-by form room c z _ d = refused

declared : {h : Front} {next also : To Stmts} → (room : Room) (c : Context) → Sound h.form c → Each h shuts Stmts next also → Good h any (mc.declared h.form room c next) (mc.declared h.form unbounded c also)
declared {h = h} {next = next} {also = also} room c z d = reading (mc.declared h.form room c next) (mc.declared h.form unbounded c also) (f-declared (λ x. fin (d x))) (λ s. declared-by h.form room c z s.kind d)

pub source-by : {h : Front} {s : Symbol} {next also : To Stmts} → (room : Room) (c : Context) → Sound h.form c → (kind : TokenKind) → Each h shuts Stmts next also
    → Taken h s (mc.source_by h.form room c kind next s) (mc.source_by h.form unbounded c kind also s)
source-by room c z (k.Mark m.CloseBrace) d = kept (d _)
source-by room c z k.End d = kept (d _)
source-by room c z (k.Word w.Function) d = passed (fits room (λ room. fits_function room) (declared room c z d))
source-by room c z _ d = kept (statement-good room z (λ x. source-good room shuts-follows z (λ xs. d _)))

pub clauses-by : {h : Front} {s : Symbol} {next also : To Cases} → (room : Room) (c : Context) → Sound h.form c → (may : Bool) (kind : TokenKind) → Each h mc.is_close_brace Cases next also
    → Taken h s (mc.clauses_by room c may kind next s) (mc.clauses_by unbounded c may kind also s)
clauses-by room c z may (k.Word w.Case) d = passed (comma-good room (λ x. colon refl (list-good {good = any} room (all-any shuts) z (λ ss. clauses-good room brace-shuts z (λ cs. d _)))))
clauses-by room c z may (k.Word w.Default) d =
    guarded may (λ e. passed (colon {a = any} refl (list-good {good = any} room (all-any shuts) z (λ ss. clauses-good room brace-shuts z (λ cs. d _)))))
clauses-by room c z may _ d = kept (d _)

pub finished-good : {h : Front} → (ss : Stmts) → Good h shuts (mc.finished ss) (mc.finished ss)
finished-good {h = h} ss = reading (mc.finished ss) (mc.finished ss) (f-finished ss) (λ s. guarded (mc.is_end s.kind) (λ e. record { takes = at }))
  where
    at : (r : Symbols) → Can h (mc.finished_by ss (r ++ h.rest)) (λ o. mc.finished_by ss (r ++ o))
    at [] = at_end (record { more = []; plain = refl; tree = ss; run = here })
    at (t ∷ r) = stuck t r

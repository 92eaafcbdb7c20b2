-- Two runs of the machine side by side, a step in a statement.
use Rattle.std.proofs.Common.{◌≡◌, ◌⊎◌, inl, inr, ◌≤◌, ◌<◌, Bool, true, false, ◌&&◌, ◌||◌, not, List, [], ◌∷◌, Option, None, length, refl, ap, sym, subst, arith}
use Rattle.js_lexer.specs.declared.mark.Mark.TheVariants as m
use Rattle.js_lexer.specs.declared.word.Word.TheVariants as w
use Rattle.js_lexer.specs.declared.token.TokenKind.{TokenKind}
use Rattle.js_lexer.specs.declared.token.TokenKind.TheVariants as k
use Rattle.js_tree.specs.Tree.{Name, Expr, MaybeExpr, Stmt, Stmts, Cases, ForInit, Handler}
use Rattle.js_tree.specs.Tree
use Rattle.js_parser.specs.declared.form.Form.{Form}
use Rattle.js_parser.specs.Symbols.{Symbol, Symbols}
use Rattle.js_parser.specs.Operators.{is_target}
use Rattle.js_parser.specs.Names.{is_eval, is_function_name, is_infinity, may_stand, is_reference, is_binding, is_among}
use Rattle.js_parser.specs.Contexts.{Context}
use Rattle.js_parser.specs.Contexts as context
use Rattle.js_parser.specs.Rooms.{Room, inside, fits_node, fits_function}
use Rattle.js_parser.specs.Machine.{State, To}
use Rattle.js_parser.specs.Machine as mc
use Rattle.js_parser.proofs.FrontsAlike.{Hole, At, within, behind, Took, took_within, took_behind, Rooms, Alike, Good, Tail, Taken, done, stuck, lost, gone, later, on, kept, behind-it, after, passed, refused, guarded, inner, inmost, fits, reading, at-end, expected, ended-alike, at-once-alike, comma-alike, comma-tail-alike, choice-alike, tail-alike, postfix-alike, links-alike, rest-alike, declarator-alike, declarators-alike, optional-alike, statement-alike, list-alike, source-alike, clauses-alike, same_room, no_limit, unfit}
use Rattle.js_parser.proofs.FrontsStarved.{colon_first, never-label}
use Rattle.js_parser.proofs.FrontsExpressions.{Each, expects, node}

stated : {h : Hole} {room free : Room} {next also : To Stmt} → Rooms h room free → Each h Stmt next also → Good h (mc.stated room next) (mc.stated free also)
stated r d = comma-alike (inner r) (λ x. ended-alike (d _))

braces : {h : Hole} {room free : Room} {next also : To Stmt} → Rooms h room free → (c : Context) → Each h Stmt next also → Tail h (mc.braces room c next) (mc.braces free c also)
braces r c d = node r (list-alike (inner r) (λ ss. expects mc.is_close_brace (d _)))

block : {h : Hole} {room free : Room} {next also : To Stmt} → Rooms h room free → (c : Context) → Each h Stmt next also → Good h (mc.block room c next) (mc.block free c also)
block r c d = expected mc.is_open_brace (braces r c d)

if-by : {h : Hole} {s : Symbol} {room free : Room} {next also : To Stmt} → Rooms h room free → (c : Context) (kind : TokenKind) (x : Expr) (body : Stmt) → Each h Stmt next also
    → Taken h s (mc.if_by room c kind x body next s) (mc.if_by free c kind x body also s)
if-by r c (k.Word w.Else) x body d = passed (statement-alike (inner r) (λ other. d _))
if-by r c _ x body d = kept (d _)

after-if : {h : Hole} {room free : Room} {next also : To Stmt} → Rooms h room free → (c : Context) (x : Expr) (body : Stmt) → Each h Stmt next also → Good h (mc.after_if room c x body next) (mc.after_if free c x body also)
after-if {room = room} {free = free} {next = next} {also = also} r c x body d =
    reading (mc.after_if room c x body next) (mc.after_if free c x body also) (on (d _) at-end) (λ s. if-by r c s.kind x body d)

for-rest : {h : Hole} {room free : Room} {next also : To Stmt} → Rooms h room free → (c : Context) (init : ForInit) → Each h Stmt next also → Good h (mc.for_rest room c init next) (mc.for_rest free c init also)
for-rest r c init d = expects mc.is_semicolon (optional-alike r (λ test. expects mc.is_semicolon (optional-alike r (λ last. expects mc.is_close_parenthesis (statement-alike r (λ body. d _))))))

for-var-by : {h : Hole} {s : Symbol} {room free : Room} {next also : To Stmt} → Rooms h room free → (c : Context) (kind : TokenKind) (n : Name) (value : MaybeExpr) → Each h Stmt next also
    → Taken h s (mc.for_var_by room c kind n value next s) (mc.for_var_by free c kind n value also s)
for-var-by r c (k.Word w.In) n value d = passed (comma-alike r (λ y. expects mc.is_close_parenthesis (statement-alike r (λ body. d _))))
for-var-by r c (k.Mark m.Comma) n value d = passed (declarators-alike r (λ items. for-rest r c _ d))
for-var-by r c _ n value d = kept (for-rest r c _ d)

for-var : {h : Hole} {room free : Room} {next also : To Stmt} → Rooms h room free → (c : Context) (n : Name) (value : MaybeExpr) → Each h Stmt next also → Good h (mc.for_var room c n value next) (mc.for_var free c n value also)
for-var {room = room} {free = free} {next = next} {also = also} r c n value d =
    reading (mc.for_var room c n value next) (mc.for_var free c n value also) (stuck at-end) (λ s. for-var-by r c s.kind n value d)

for-expression-by : {h : Hole} {s : Symbol} {room free : Room} {next also : To Stmt} → Rooms h room free → (c : Context) (kind : TokenKind) (x : Expr) → Each h Stmt next also
    → Taken h s (mc.for_expression_by room c kind x next s) (mc.for_expression_by free c kind x also s)
for-expression-by r c (k.Word w.In) x d = guarded (is_target x) (λ e. passed (comma-alike r (λ y. expects mc.is_close_parenthesis (statement-alike r (λ body. d _)))))
for-expression-by r c _ x d = kept (for-rest r c _ d)

for-expression : {h : Hole} {room free : Room} {next also : To Stmt} → Rooms h room free → (c : Context) (x : Expr) → Each h Stmt next also → Good h (mc.for_expression room c x next) (mc.for_expression free c x also)
for-expression {room = room} {free = free} {next = next} {also = also} r c x d =
    reading (mc.for_expression room c x next) (mc.for_expression free c x also) (stuck at-end) (λ s. for-expression-by r c s.kind x d)

for-by : {h : Hole} {s : Symbol} {room free : Room} {next also : To Stmt} → Rooms h room free → (c : Context) (kind : TokenKind) → Each h Stmt next also → Taken h s (mc.for_by room c kind next s) (mc.for_by free c kind also s)
for-by r c (k.Word w.Var) d = passed (declarator-alike r (λ n value. for-var r c n value d))
for-by r c (k.Mark m.Semicolon) d = kept (for-rest r c _ d)
for-by r c _ d = kept (comma-alike r (λ x. for-expression r c x d))

for-header : {h : Hole} {room free : Room} {next also : To Stmt} → Rooms h room free → (c : Context) → Each h Stmt next also → Good h (mc.for_header room c next) (mc.for_header free c also)
for-header {room = room} {free = free} {next = next} {also = also} r c d = reading (mc.for_header room c next) (mc.for_header free c also) (stuck at-end) (λ s. for-by r c s.kind d)

jump-by : {h : Hole} {s : Symbol} {next also : To Stmt} → (form : Form) (kind : TokenKind) (newline may : Bool) (names : List Name) (made : Option Name → Stmt) → Each h Stmt next also
    → Taken h s (mc.jump_by form kind newline may names made next s) (mc.jump_by form kind newline may names made also s)
jump-by form (k.Name n) false may names made d = guarded (is_reference form n && is_among n names) (λ e. passed (ended-alike (d _)))
jump-by form _ _ may names made d = guarded may (λ e. kept (at-once-alike (d _)))

jump : {h : Hole} {next also : To Stmt} → (form : Form) (may : Bool) (names : List Name) (made : Option Name → Stmt) → Each h Stmt next also → Good h (mc.jump form may names made next) (mc.jump form may names made also)
jump {h = h} {next = next} {also = also} form may names made d =
    reading (mc.jump form may names made next) (mc.jump form may names made also) (none may) (λ s. jump-by form s.kind s.newline may names made d)
  where
    none : (a : Bool) → Alike h false (mc.guard a [] (next (made None) [])) (mc.guard a [] (also (made None) []))
    none true = on (d _) at-end
    none false = stuck at-end

return-by : {h : Hole} {s : Symbol} {room free : Room} {next also : To Stmt} → Rooms h room free → (newline : Bool) (kind : TokenKind) → Each h Stmt next also
    → Taken h s (mc.return_by room newline kind next s) (mc.return_by free newline kind also s)
return-by r true kind d = kept (d _)
return-by r false (k.Mark m.Semicolon) d = passed (d _)
return-by r false (k.Mark m.CloseBrace) d = kept (d _)
return-by r false k.End d = kept (d _)
return-by r false _ d = kept (comma-alike (inner r) (λ x. ended-alike (d _)))

returned : {h : Hole} {room free : Room} {next also : To Stmt} → Rooms h room free → Each h Stmt next also → Good h (mc.returned room next) (mc.returned free also)
returned {room = room} {free = free} {next = next} {also = also} r d = reading (mc.returned room next) (mc.returned free also) (on (d _) at-end) (λ s. return-by r s.newline s.kind d)

thrown : {h : Hole} {room free : Room} {next also : To Stmt} → Rooms h room free → Each h Stmt next also → Good h (mc.thrown room next) (mc.thrown free also)
thrown {room = room} {free = free} {next = next} {also = also} r d =
    reading (mc.thrown room next) (mc.thrown free also) (stuck at-end) (λ s. guarded (not s.newline) (λ e. kept (comma-alike (inner r) (λ x. ended-alike (d _)))))

finally-by : {h : Hole} {s : Symbol} {room free : Room} {next also : To Stmt} → Rooms h room free → (c : Context) (kind : TokenKind) (tried : Stmt) (caught : Handler) → Each h Stmt next also
    → Taken h s (mc.finally_by room c kind tried caught next s) (mc.finally_by free c kind tried caught also s)
finally-by r c (k.Word w.Finally) tried caught d = passed (block (inner r) c (λ last. d (Tree.Try tried caught (Tree.AStmt last))))
finally-by r c _ tried caught d = kept (d _)

after-catch : {h : Hole} {room free : Room} {next also : To Stmt} → Rooms h room free → (c : Context) (tried : Stmt) (caught : Handler) → Each h Stmt next also
    → Good h (mc.after_catch room c tried caught next) (mc.after_catch free c tried caught also)
after-catch {room = room} {free = free} {next = next} {also = also} r c tried caught d =
    reading (mc.after_catch room c tried caught next) (mc.after_catch free c tried caught also) (on (d _) at-end) (λ s. finally-by r c s.kind tried caught d)

catch-by : {h : Hole} {s : Symbol} {room free : Room} {next also : To Stmt} → (form : Form) → Rooms h room free → (c : Context) (kind : TokenKind) (tried : Stmt) → Each h Stmt next also
    → Taken h s (mc.catch_by form room c kind tried next s) (mc.catch_by form free c kind tried also s)
catch-by form r c (k.Name n) tried d = guarded (is_binding form n) (λ e. passed (expects mc.is_close_parenthesis (block (inner r) c (λ caught. after-catch r c tried (Tree.ACatch n caught) d))))
catch-by form r c _ tried d = refused

catch-name : {h : Hole} {room free : Room} {next also : To Stmt} → (form : Form) → Rooms h room free → (c : Context) (tried : Stmt) → Each h Stmt next also → Good h (mc.catch_name form room c tried next) (mc.catch_name form free c tried also)
catch-name {room = room} {free = free} {next = next} {also = also} form r c tried d =
    reading (mc.catch_name form room c tried next) (mc.catch_name form free c tried also) (stuck at-end) (λ s. catch-by form r c s.kind tried d)

try-by : {h : Hole} {s : Symbol} {room free : Room} {next also : To Stmt} → (form : Form) → Rooms h room free → (c : Context) (kind : TokenKind) (tried : Stmt) → Each h Stmt next also
    → Taken h s (mc.try_by form room c kind tried next s) (mc.try_by form free c kind tried also s)
try-by form r c (k.Word w.Catch) tried d = passed (expects mc.is_open_parenthesis (catch-name form r c tried d))
try-by form r c (k.Word w.Finally) tried d = passed (block (inner r) c (λ last. d (Tree.Try tried Tree.NoHandler (Tree.AStmt last))))
try-by form r c _ tried d = refused

after-try : {h : Hole} {room free : Room} {next also : To Stmt} → (form : Form) → Rooms h room free → (c : Context) (tried : Stmt) → Each h Stmt next also → Good h (mc.after_try form room c tried next) (mc.after_try form free c tried also)
after-try {room = room} {free = free} {next = next} {also = also} form r c tried d =
    reading (mc.after_try form room c tried next) (mc.after_try form free c tried also) (stuck at-end) (λ s. try-by form r c s.kind tried d)

-- ---- a name, and the colon that may stand behind it

no-colon : (form : Form) (room : Room) (c : Context) (n : Name) (next : To Stmt) (s : Symbol) (ts : Symbols) → colon_first ts ≡ false → mc.label form room c n next s ts ≡ mc.stated room next (s ∷ ts)
no-colon form room c n next s [] h = refl
no-colon form room c n next s (t ∷ ts) h = at t.kind h
  where
    at : (kind : TokenKind) → mc.is_colon kind ≡ false → mc.label_by form room c kind n next s t ts ≡ mc.stated room next (s ∷ t ∷ ts)
    at (k.Mark m.Colon) h = cc
    at _ h = refl

no-label : (form : Form) (room : Room) (c : Context) (n : Name) (next : To Stmt) (s : Symbol) (ts : Symbols) → is_reference form n ≡ false → mc.label form room c n next s ts ≡ mc.stated room next (s ∷ ts)
no-label form room c n next s [] h = refl
no-label form room c n next s (t ∷ ts) h = at t.kind
  where
    at : (kind : TokenKind) → mc.label_by form room c kind n next s t ts ≡ mc.stated room next (s ∷ t ∷ ts)
    at (k.Mark m.Colon) = ap (λ a. mc.labelled a room c n next s t ts) h
    at _ = refl

not-eval : (form : Form) (n : Name) → is_reference form n ≡ true → is_eval n ≡ false
not-eval form n h = at (may_stand form n) (is_eval n) h
  where
    at : (a c : Bool) → (a && not (c || (is_function_name n || is_infinity n))) ≡ true → c ≡ false
    at a false h = refl
    at true true h = cc
    at false true h = cc

-- a name that is an expression is passed
alone : {h : Hole} {t : State} (f : Symbols → State) → (a : Bool) → (a ≡ true) ⊎ (h.same ≡ false) → Alike h false (f h.rest) t → Alike h false (mc.fitting a h.rest (f h.rest)) t
alone f true e d = d
alone f false (inl e) d = absurd cc
alone f false (inr e) d = lost e

pass-operand : {h : Hole} {room free : Room} {next also : To Expr} {t : State} → Rooms h room free → Each h Expr next also → (s : Symbol) (n : Name) → s.kind ≡ k.Name n → is_reference h.form n ≡ true → (fits_node room ≡ true) ⊎ (h.same ≡ false)
    → Alike h false (mc.operand room true next (s ∷ h.rest)) t
pass-operand {h = h} {room = room} {next = next} {t = t} r d s n e is free =
    later (subst (λ kind. Alike h false (mc.operand_by h.form kind room true next s h.rest) t) (sym e)
    (subst (λ a. Alike h false (mc.name_by a h.form n room true next s h.rest) t) (sym (not-eval h.form n is))
    (subst (λ a. Alike h false (mc.guard a (s ∷ h.rest) (mc.leaf room true (Tree.Ident n) next h.rest)) t) (sym is)
    (alone (λ ts. mc.links room true (Tree.Ident n) next ts) (fits_node room) free (gone (on (links-alike r d) (behind {o = h.rest} (omega arith))))))))

pass-comma : {h : Hole} {room free : Room} {next also : To Expr} {t : State} → Rooms h room free → Each h Expr next also → (s : Symbol) (n : Name) → s.kind ≡ k.Name n → is_reference h.form n ≡ true → (fits_node room ≡ true) ⊎ (h.same ≡ false)
    → Alike h false (mc.comma room true next (s ∷ h.rest)) t
pass-comma {h = h} {room = room} {next = next} {t = t} r d s n e is free =
    later (later (later (later
    (subst (λ kind. Alike h false (mc.unary_by (mc.prefix_of kind) room (λ x r. mc.tail room true 4 x (λ x r. mc.choice room true x (λ x r. mc.comma_tail room true x next r) r) r) s h.rest) t) (sym e)
    (pass-operand r (λ x. postfix-alike r (λ x. tail-alike r (λ x. choice-alike r (λ x. comma-tail-alike r d)))) s n e is free)))))

labelled : {h : Hole} {t : Symbol} {mode : Bool} {ts o : Symbols} {room free : Room} {next also : To Stmt} → Rooms h room free → (c : Context) (n : Name) (s : Symbol) → Each h Stmt next also
    → At h mode (t ∷ ts) (t ∷ o) → Took h mode ts o → Alike h mode (mc.labelled true room c n next s t ts) (mc.labelled true free c n also s t o)
labelled r c n s d whole a = (guarded (not (is_among n c.labels)) (λ e. after (node r (statement-alike (inner r) (λ body. d _))))).takes _ _ _ whole a

label-by : {h : Hole} {s t : Symbol} {mode : Bool} {ts o : Symbols} {room free : Room} {next also : To Stmt} → (form : Form) → Rooms h room free → (c : Context) (kind : TokenKind) (n : Name) → Each h Stmt next also
    → At h mode (s ∷ t ∷ ts) (s ∷ t ∷ o) → At h mode (t ∷ ts) (t ∷ o) → Took h mode ts o → Alike h mode (mc.label_by form room c kind n next s t ts) (mc.label_by form free c kind n also s t o)
label-by {h = h} {s = s} {t = t} {mode = mode} {ts = ts} {o = o} {room = room} {free = free} {next = next} {also = also} form r c (k.Mark m.Colon) n d both whole a = at (is_reference form n)
  where
    at : (is : Bool) → Alike h mode (mc.labelled is room c n next s t ts) (mc.labelled is free c n also s t o)
    at true = labelled r c n s d whole a
    at false = on (stated r d) both
label-by form r c _ n d both whole a = on (stated r d) both

label : {h : Hole} {room free : Room} {next also : To Stmt} → Rooms h room free → (c : Context) (s : Symbol) (n : Name) → s.kind ≡ k.Name n
    → Each h Stmt next also → Taken h s (mc.label h.form room c n next s) (mc.label h.form free c n also s)
label {h = h} {room = room} {free = free} {next = next} {also = also} r c s n e d = record { takes = λ m ts o whole a. at m ts o a }
  where
    -- a colon stands behind the name in the real list
    colon : (ts : Symbols) → length ts ≤ length h.rest → is_reference h.form n ≡ true → colon_first ts ≡ true → Alike h false (mc.label h.form room c n next s ts) (mc.label h.form free c n also s ts)
    colon [] l is i = absurd cc
    colon (t ∷ ts) l is i = by t.kind i
      where
        by : (kind : TokenKind) → mc.is_colon kind ≡ true → Alike h false (mc.label_by h.form room c kind n next s t ts) (mc.label_by h.form free c kind n also s t ts)
        by (k.Mark m.Colon) i =
            subst (λ a. Alike h false (mc.labelled a room c n next s t ts) (mc.labelled a free c n also s t ts)) (sym is) (labelled {o = ts} r c n s d (behind l) (took_behind l))
        by _ i = absurd cc

    -- a colon stands behind it in the other list alone
    passing : {room free : Room} → Rooms h room free → (next also : To Stmt) → Each h Stmt next also → (a : Bool) → fits_node (inside room) ≡ a → h.same ≡ true → is_reference h.form n ≡ true → colon_first h.rest ≡ false → colon_first h.other ≡ true
        → Alike h true (mc.stated room next (s ∷ h.rest)) (mc.label h.form free c n also s h.other)
    passing r next also d true fit same is i j = gone {t = mc.stuck []} (pass-comma (inner r) (λ x. ended-alike (d (Tree.Do x))) s n e is (inl fit))
    passing (same_room {room = room}) next also d false fit same is i j = unfit same i j (never-label room fit c n also s h.other is j)
    passing (no_limit k) next also d false fit same is i j = absurd cc

    moving : (a : Bool) → colon_first h.other ≡ a → h.same ≡ true → is_reference h.form n ≡ true → colon_first h.rest ≡ false → Alike h true (mc.label h.form room c n next s h.rest) (mc.label h.form free c n also s h.other)
    moving false j same is i =
        subst (λ u. Alike h true u (mc.label h.form free c n also s h.other)) (sym (no-colon h.form room c n next s h.rest i))
        (subst (λ u. Alike h true (mc.stated room next (s ∷ h.rest)) u) (sym (no-colon h.form free c n also s h.other j))
        (on (stated r d) (within (s ∷ []))))
    moving true j same is i =
        subst (λ u. Alike h true u (mc.label h.form free c n also s h.other)) (sym (no-colon h.form room c n next s h.rest i))
        (passing r next also d (fits_node (inside room)) refl same is i j)

    none : (same : Bool) → h.same ≡ same → is_reference h.form n ≡ true → colon_first h.rest ≡ false → Alike h true (mc.label h.form room c n next s h.rest) (mc.label h.form free c n also s h.other)
    none false free-run is i =
        subst (λ u. Alike h true u (mc.label h.form free c n also s h.other)) (sym (no-colon h.form room c n next s h.rest i))
        (gone {t = mc.stuck []} (pass-comma (inner r) (λ x. ended-alike (d (Tree.Do x))) s n e is (inr free-run)))
    none true same is i = moving (colon_first h.other) refl same is i

    reference : (a : Bool) → is_reference h.form n ≡ true → colon_first h.rest ≡ a → Alike h true (mc.label h.form room c n next s h.rest) (mc.label h.form free c n also s h.other)
    reference true is i = gone (colon h.rest (omega arith) is i)
    reference false is i = none h.same refl is i

    nearest : (a : Bool) → is_reference h.form n ≡ a → Alike h true (mc.label h.form room c n next s h.rest) (mc.label h.form free c n also s h.other)
    nearest true is = reference (colon_first h.rest) is refl
    nearest false is =
        subst (λ u. Alike h true u (mc.label h.form free c n also s h.other)) (sym (no-label h.form room c n next s h.rest is))
        (subst (λ u. Alike h true (mc.stated room next (s ∷ h.rest)) u) (sym (no-label h.form free c n also s h.other is))
        (on (stated r d) (within (s ∷ []))))

    behind-all : (ts : Symbols) → length ts < length h.rest → Alike h false (mc.label h.form room c n next s ts) (mc.label h.form free c n also s ts)
    behind-all [] l = on (stated r d) (behind l)
    behind-all (t ∷ ts) l = label-by h.form r c t.kind n d (behind l) (behind (omega (arith, l))) (took_behind (omega (arith, l)))

    at : (m : Bool) (ts o : Symbols) → Took h m ts o → Alike h m (mc.label h.form room c n next s ts) (mc.label h.form free c n also s o)
    at m ts o (took_within []) = nearest (is_reference h.form n) refl
    at m ts o (took_within (t ∷ v)) = label-by h.form r c t.kind n d (within (s ∷ t ∷ v)) (within (t ∷ v)) (took_within v)
    at m ts o (took_behind l) = gone (behind-all ts l)

-- ---- statements

pub statement-by : {h : Hole} {s : Symbol} {room free : Room} {next also : To Stmt} → Rooms h room free → (c : Context) (kind : TokenKind) → s.kind ≡ kind
    → Each h Stmt next also → Taken h s (mc.statement_by h.form room c kind next s) (mc.statement_by h.form free c kind also s)
statement-by r c (k.Mark m.OpenBrace) e d = after (braces r c d)
statement-by r c (k.Word w.Var) e d = after (node r (declarators-alike (inner r) (λ items. ended-alike (d _))))
statement-by r c (k.Mark m.Semicolon) e d = after (node r (d _))
statement-by r c (k.Word w.If) e d = after (node r (expects mc.is_open_parenthesis (comma-alike (inner r) (λ x. expects mc.is_close_parenthesis (statement-alike (inner r) (λ body. after-if r c x body d))))))
statement-by r c (k.Word w.Do) e d =
    after (node r (statement-alike (inner r) (λ body. expects mc.is_while (expects mc.is_open_parenthesis (comma-alike (inner r) (λ x. expects mc.is_close_parenthesis (ended-alike (d _))))))))
statement-by r c (k.Word w.While) e d = after (node r (expects mc.is_open_parenthesis (comma-alike (inner r) (λ x. expects mc.is_close_parenthesis (statement-alike (inner r) (λ body. d _))))))
statement-by r c (k.Word w.For) e d = after (node r (expects mc.is_open_parenthesis (for-header (inner r) (context.loop c) d)))
statement-by {h = h} r c (k.Word w.Continue) e d = guarded (c.in_loop || mc.are_some c.loops) (λ i. after (node r (jump h.form c.in_loop c.loops Tree.Continue d)))
statement-by {h = h} r c (k.Word w.Break) e d = guarded (context.may_break c || mc.are_some c.labels) (λ i. after (node r (jump h.form (context.may_break c) c.labels Tree.Break d)))
statement-by r c (k.Word w.Return) e d = guarded c.in_function (λ i. after (node r (returned r d)))
statement-by r c (k.Word w.Switch) e d =
    after (node r (expects mc.is_open_parenthesis (comma-alike (inner r) (λ x. expects mc.is_close_parenthesis (expects mc.is_open_brace (clauses-alike (inner r) (λ cs. expects mc.is_close_brace (d _))))))))
statement-by r c (k.Word w.Throw) e d = after (node r (thrown r d))
statement-by {h = h} r c (k.Word w.Try) e d = after (node r (block (inner r) (context.part c) (λ tried. after-try h.form r (context.part c) tried d)))
statement-by r c (k.Word w.Function) e d = refused
statement-by {s = s} r c (k.Name n) e d = label r c s n e d
statement-by r c _ e d = kept (stated r d)

pub list-by : {h : Hole} {s : Symbol} {room free : Room} {next also : To Stmts} → Rooms h room free → (c : Context) (kind : TokenKind) → Each h Stmts next also → Taken h s (mc.list_by room c kind next s) (mc.list_by free c kind also s)
list-by r c (k.Mark m.CloseBrace) d = kept (d _)
list-by r c k.End d = kept (d _)
list-by r c (k.Word w.Case) d = kept (d _)
list-by r c (k.Word w.Default) d = kept (d _)
list-by r c _ d = kept (statement-alike r (λ x. list-alike r (λ xs. d _)))

declared-by : {h : Hole} {s : Symbol} {room free : Room} {next also : To Stmts} → (form : Form) → Rooms h room free → (c : Context) (kind : TokenKind) → Each h Stmts next also
    → Taken h s (mc.declared_by form room c kind next s) (mc.declared_by form free c kind also s)
declared-by form r c (k.Name n) d = guarded (is_binding form n) (λ e. passed (rest-alike (inmost r) (λ ns body. source-alike r (λ xs. d _))))
declared-by form r c _ d = refused

declared : {h : Hole} {room free : Room} {next also : To Stmts} → (form : Form) → Rooms h room free → (c : Context) → Each h Stmts next also → Good h (mc.declared form room c next) (mc.declared form free c also)
declared {room = room} {free = free} {next = next} {also = also} form r c d = reading (mc.declared form room c next) (mc.declared form free c also) (stuck at-end) (λ s. declared-by form r c s.kind d)

pub source-by : {h : Hole} {s : Symbol} {room free : Room} {next also : To Stmts} → (form : Form) → Rooms h room free → (c : Context) (kind : TokenKind) → Each h Stmts next also
    → Taken h s (mc.source_by form room c kind next s) (mc.source_by form free c kind also s)
source-by form r c (k.Mark m.CloseBrace) d = kept (d _)
source-by form r c k.End d = kept (d _)
source-by form r c (k.Word w.Function) d = after (fits r (λ room. fits_function room) refl (behind-it (declared form r c d)))
source-by form r c _ d = kept (statement-alike r (λ x. source-alike r (λ xs. d _)))

pub clauses-by : {h : Hole} {s : Symbol} {room free : Room} {next also : To Cases} → Rooms h room free → (c : Context) (may : Bool) (kind : TokenKind) → Each h Cases next also
    → Taken h s (mc.clauses_by room c may kind next s) (mc.clauses_by free c may kind also s)
clauses-by r c may (k.Word w.Case) d = passed (comma-alike r (λ x. expects mc.is_colon (list-alike r (λ ss. clauses-alike r (λ cs. d _)))))
clauses-by r c may (k.Word w.Default) d = guarded may (λ e. passed (expects mc.is_colon (list-alike r (λ ss. clauses-alike r (λ cs. d _)))))
clauses-by r c may _ d = kept (d _)

pub finished-alike : {h : Hole} → (ss : Stmts) → Good h (mc.finished ss) (mc.finished ss)
finished-alike ss = reading (mc.finished ss) (mc.finished ss) (stuck at-end) (λ s. guarded (mc.is_end s.kind) (λ e. passed (reading (mc.finished_by ss) (mc.finished_by ss) done (λ s. refused))))

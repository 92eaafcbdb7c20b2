-- What the machine does where statements begin, and what may follow them.
use Rattle.std.proofs.Common.{◌≡◌, ◌≢◌, ℕ, Bool, true, false, not, ◌&&◌, List, [], ◌∷◌, ◌++◌, Option, None, refl, ap, sym, ◌∙◌, subst}
use Rattle.std.proofs.lemmas.List.{append_assoc}
use Rattle.js_lexer.specs.declared.mark.Mark.{Mark}
use Rattle.js_lexer.specs.declared.mark.Mark.TheVariants as m
use Rattle.js_lexer.specs.declared.word.Word.TheVariants as w
use Rattle.js_lexer.specs.declared.token.TokenKind.{TokenKind}
use Rattle.js_lexer.specs.declared.token.TokenKind.TheVariants as k
use Rattle.js_tree.specs.Tree.{Name, Expr, MaybeExpr, Stmt, Stmts, Cases, ForInit}
use Rattle.js_tree.specs.Tree
use Rattle.js_parser.specs.declared.form.Form.{Form}
use Rattle.js_parser.specs.Symbols.{Symbol, Symbols, mark, first}
use Rattle.js_parser.specs.Names.{is_among}
use Rattle.js_parser.specs.Contexts.{Context}
use Rattle.js_parser.specs.Ends.{Ends, EndsAtOnce}
use Rattle.js_parser.specs.Ends as e
use Rattle.js_parser.specs.Grammar.{Block, Statement, StatementList, CaseClauses, SourceElements}
use Rattle.js_parser.specs.Grammar as g
use Rattle.js_parser.proofs.EndTokens.{Starts, one, begins, expression-starts, colon_first}
use Rattle.js_parser.proofs.EndTokens as start
use Rattle.js_parser.specs.Rooms.{Room, inside}
use Rattle.js_parser.specs.Machine.{State, comma, optional, statement, list, source, clauses, To, step, Goes, here, then_on}
use Rattle.js_parser.specs.Machine as mc
use Rattle.js_parser.proofs.Runs.{onwards, stepped}
use Rattle.js_parser.proofs.ReadsLevels.{placed}
use Rattle.js_parser.proofs.ReadsStops.{front, and-false}
use Rattle.js_parser.proofs.ReadsSteps.{from, not-true, insert-line, insert-brace, insert-end}

-- ---- where statements begin

-- what may come behind a statement
abbrev pub may_follow : TokenKind → Bool
may_follow (k.Mark m.Colon) = false
may_follow (k.Word w.Finally) = false
may_follow _ = true

-- what ends a list of statements
abbrev pub stops : TokenKind → Bool
stops (k.Mark m.CloseBrace) = true
stops k.End = true
stops (k.Word w.Case) = true
stops (k.Word w.Default) = true
stops _ = false

-- what ends a script or the body of a function
abbrev pub closes : TokenKind → Bool
closes (k.Mark m.CloseBrace) = true
closes k.End = true
closes _ = false

abbrev pub begins_statement : TokenKind → Bool
begins_statement (k.Word w.This) = true
begins_statement (k.Word w.Null) = true
begins_statement (k.Word w.True) = true
begins_statement (k.Word w.False) = true
begins_statement (k.Word w.New) = true
begins_statement (k.Word w.Delete) = true
begins_statement (k.Word w.Void) = true
begins_statement (k.Word w.TypeOf) = true
begins_statement (k.Word w.Var) = true
begins_statement (k.Word w.If) = true
begins_statement (k.Word w.Do) = true
begins_statement (k.Word w.While) = true
begins_statement (k.Word w.For) = true
begins_statement (k.Word w.Continue) = true
begins_statement (k.Word w.Break) = true
begins_statement (k.Word w.Return) = true
begins_statement (k.Word w.Switch) = true
begins_statement (k.Word w.Throw) = true
begins_statement (k.Word w.Try) = true
begins_statement (k.Name n) = true
begins_statement (k.Number n) = true
begins_statement (k.Str text) = true
begins_statement (k.Mark m.OpenParenthesis) = true
begins_statement (k.Mark m.OpenBracket) = true
begins_statement (k.Mark m.OpenBrace) = true
begins_statement (k.Mark m.PlusPlus) = true
begins_statement (k.Mark m.MinusMinus) = true
begins_statement (k.Mark m.Plus) = true
begins_statement (k.Mark m.Minus) = true
begins_statement (k.Mark m.BitNot) = true
begins_statement (k.Mark m.Not) = true
begins_statement (k.Mark m.Semicolon) = true
begins_statement _ = false

pub stops-follow : (kind : TokenKind) → stops kind ≡ true → may_follow kind ≡ true
stops-follow (k.Mark m.Colon) h = cc
stops-follow (k.Word w.Finally) h = cc
stops-follow _ h = refl

pub closes-follow : (kind : TokenKind) → closes kind ≡ true → may_follow kind ≡ true
closes-follow (k.Mark m.Colon) h = cc
closes-follow (k.Word w.Finally) h = cc
closes-follow _ h = refl

pub statement-follow : (kind : TokenKind) → begins_statement kind ≡ true → may_follow kind ≡ true
statement-follow (k.Mark m.Colon) h = cc
statement-follow (k.Word w.Finally) h = cc
statement-follow _ h = refl

pub begins-statement : (kind : TokenKind) → begins kind ≡ true → kind ≢ k.Word w.Function → begins_statement kind ≡ true
begins-statement (k.Word w.Function) h away = absurd (away refl)
begins-statement (k.Mark m.Comma) h away = cc
begins-statement _ h away = cc

pub not-colon : (kind : TokenKind) → may_follow kind ≡ true → kind ≢ k.Mark m.Colon
not-colon kind h is = let f = ap may_follow is in cc

pub not-finally : (kind : TokenKind) → may_follow kind ≡ true → kind ≢ k.Word w.Finally
not-finally kind h is = let f = ap may_follow is in cc

pub list-start : (room : Room) (c : Context) (next : To Stmts) (s : Symbol) (ts : Symbols) (kind : TokenKind) → begins_statement kind ≡ true → mc.list_by room c kind next s ts ≡ statement room c (λ x r. list room c (λ xs o. next (Tree.MoreStmts x xs) o) r) (s ∷ ts)
list-start room c next s ts (k.Mark m.CloseBrace) h = cc
list-start room c next s ts k.End h = cc
list-start room c next s ts (k.Word w.Case) h = cc
list-start room c next s ts (k.Word w.Default) h = cc
list-start room c next s ts _ h = refl

pub source-start : (form : Form) (room : Room) (c : Context) (next : To Stmts) (s : Symbol) (ts : Symbols) (kind : TokenKind) → begins_statement kind ≡ true → mc.source_by form room c kind next s ts ≡ statement room c (λ x r. source room c (λ xs o. next (Tree.MoreStmts x xs) o) r) (s ∷ ts)
source-start form room c next s ts (k.Mark m.CloseBrace) h = cc
source-start form room c next s ts k.End h = cc
source-start form room c next s ts (k.Word w.Function) h = cc
source-start form room c next s ts _ h = refl

pub list-stop : {form : Form} (room : Room) (c : Context) (next : To Stmts) (ts : Symbols) → stops (front ts).kind ≡ true → Goes form (list room c next ts) (next Tree.NoStmts ts)
list-stop room c next [] h = then_on here
list-stop room c next (s ∷ ts) h = stepped (at s.kind h) here
  where
    at : (kind : TokenKind) → stops kind ≡ true → mc.list_by room c kind next s ts ≡ next Tree.NoStmts (s ∷ ts)
    at (k.Mark m.CloseBrace) h = refl
    at k.End h = refl
    at (k.Word w.Case) h = refl
    at (k.Word w.Default) h = refl
    at _ h = cc

pub source-stop : {form : Form} (room : Room) (c : Context) (next : To Stmts) (ts : Symbols) → closes (front ts).kind ≡ true → Goes form (source room c next ts) (next Tree.NoStmts ts)
source-stop room c next [] h = then_on here
source-stop {form = form} room c next (s ∷ ts) h = stepped (at s.kind h) here
  where
    at : (kind : TokenKind) → closes kind ≡ true → mc.source_by form room c kind next s ts ≡ next Tree.NoStmts (s ∷ ts)
    at (k.Mark m.CloseBrace) h = refl
    at k.End h = refl
    at _ h = cc

pub label-free : (form : Form) (room : Room) (c : Context) (n : Name) (next : To Stmt) (s : Symbol) (ts : Symbols) → colon_first ts ≡ false → mc.label form room c n next s ts ≡ mc.stated room next (s ∷ ts)
label-free form room c n next s [] h = refl
label-free form room c n next s (t ∷ ts) h = at t.kind h
  where
    at : (kind : TokenKind) → start.is_colon kind ≡ false → mc.label_by form room c kind n next s t ts ≡ mc.stated room next (s ∷ t ∷ ts)
    at (k.Mark m.Colon) h = cc
    at _ h = refl

pub stated-start : (form : Form) (room : Room) (context : Context) (next : To Stmt) (s : Symbol) (ts : Symbols) (kind : TokenKind) → begins kind ≡ true → kind ≢ k.Mark m.OpenBrace → kind ≢ k.Word w.Function → not (start.is_name kind && colon_first ts) ≡ true
    → mc.statement_by form room context kind next s ts ≡ mc.stated room next (s ∷ ts)
stated-start form room context next s ts (k.Mark m.OpenBrace) h a c d = absurd (a refl)
stated-start form room context next s ts (k.Word w.Function) h a c d = absurd (c refl)
stated-start form room context next s ts (k.Name n) h a c d = label-free form room context n next s ts (not-true (colon_first ts) d)
stated-start form room context next s ts (k.Word w.Var) h a c d = cc
stated-start form room context next s ts (k.Word w.If) h a c d = cc
stated-start form room context next s ts (k.Word w.Do) h a c d = cc
stated-start form room context next s ts (k.Word w.While) h a c d = cc
stated-start form room context next s ts (k.Word w.For) h a c d = cc
stated-start form room context next s ts (k.Word w.Continue) h a c d = cc
stated-start form room context next s ts (k.Word w.Break) h a c d = cc
stated-start form room context next s ts (k.Word w.Return) h a c d = cc
stated-start form room context next s ts (k.Word w.Switch) h a c d = cc
stated-start form room context next s ts (k.Word w.Throw) h a c d = cc
stated-start form room context next s ts (k.Word w.Try) h a c d = cc
stated-start form room context next s ts (k.Mark m.Semicolon) h a c d = cc
stated-start form room context next s ts _ h a c d = refl

pub block-step : {form : Form} {c : Context} {u : Symbols} {s : Stmt} → Block form c u s → (room : Room) (to : To Stmt) (ts : Symbols)
    → step form (statement room c to (u ++ ts)) ≡ mc.block room c to (u ++ ts)
block-step (g.braces b d ss) room to ts = refl

pub if-stop : (room : Room) (c : Context) (x : Expr) (body : Stmt) (next : To Stmt) (ts : Symbols) → (front ts).kind ≢ k.Word w.Else → mc.after_if room c x body next ts ≡ next (Tree.If x body Tree.NoStmt) ts
if-stop room c x body next [] h = refl
if-stop room c x body next (s ∷ ts) h = at s.kind h
  where
    at : (kind : TokenKind) → kind ≢ k.Word w.Else → mc.if_by room c kind x body next s ts ≡ next (Tree.If x body Tree.NoStmt) (s ∷ ts)
    at (k.Word w.Else) h = absurd (h refl)
    at _ h = refl

pub finally-stop : (room : Room) (c : Context) (block : Stmt) (caught : Tree.Handler) (next : To Stmt) (ts : Symbols) → (front ts).kind ≢ k.Word w.Finally → mc.after_catch room c block caught next ts ≡ next (Tree.Try block caught Tree.NoStmt) ts
finally-stop room c block caught next [] h = refl
finally-stop room c block caught next (s ∷ ts) h = at s.kind h
  where
    at : (kind : TokenKind) → kind ≢ k.Word w.Finally → mc.finally_by room c kind block caught next s ts ≡ next (Tree.Try block caught Tree.NoStmt) (s ∷ ts)
    at (k.Word w.Finally) h = absurd (h refl)
    at _ h = refl

pub header-start : (room : Room) (c : Context) (next : To Stmt) (s : Symbol) (ts : Symbols) (kind : TokenKind) → begins kind ≡ true → mc.for_by room c kind next s ts ≡ comma room false (λ x r. mc.for_expression room c x next r) (s ∷ ts)
header-start room c next s ts (k.Word w.Var) h = cc
header-start room c next s ts (k.Mark m.Semicolon) h = cc
header-start room c next s ts _ h = refl

pub return-start : (room : Room) (next : To Stmt) (s : Symbol) (ts : Symbols) (kind : TokenKind) → begins kind ≡ true → mc.return_by room false kind next s ts ≡ comma (inside room) true (λ x r. mc.ended (next (Tree.Return (Tree.AnExpr x))) r) (s ∷ ts)
return-start room next s ts (k.Mark m.Semicolon) h = cc
return-start room next s ts (k.Mark m.CloseBrace) h = cc
return-start room next s ts k.End h = cc
return-start room next s ts _ h = refl

-- ---- `continue`, `break` and `return` without more

abbrev pub begins_label : TokenKind → Bool → Bool
begins_label (k.Name n) false = true
begins_label _ _ = false

pub label-line : (kind : TokenKind) → begins_label kind true ≡ false
label-line (k.Name n) = refl
label-line (k.Word w) = refl
label-line (k.Number n) = refl
label-line (k.Str text) = refl
label-line (k.Mark m) = refl
label-line k.End = refl

pub jump-at : (form : Form) (names : List Name) (made : Option Name → Stmt) (next : To Stmt) (s : Symbol) (ts : Symbols) (kind : TokenKind) (newline : Bool) → begins_label kind newline ≡ false
    → mc.jump_by form kind newline true names made next s ts ≡ mc.ended_at_once (next (made None)) (s ∷ ts)
jump-at form names made next s ts (k.Name n) false h = cc
jump-at form names made next s ts (k.Name n) true h = refl
jump-at form names made next s ts (k.Word w) newline h = refl
jump-at form names made next s ts (k.Number n) newline h = refl
jump-at form names made next s ts (k.Str text) newline h = refl
jump-at form names made next s ts (k.Mark m) newline h = refl
jump-at form names made next s ts k.End newline h = refl

pub at-once-stop : (to : Symbols → State) (s : Symbol) (ts : Symbols) → (mc.is_semicolon s.kind && not s.newline) ≡ false → mc.may_insert s ≡ true → mc.ended_at_once to (s ∷ ts) ≡ to (s ∷ ts)
at-once-stop to s ts h i = ap (λ a. mc.ended_by a (mc.may_insert s) to s ts) h ∙ ap (λ a. mc.ended_by false a to s ts) i

pub jump-read : (form : Form) {next : Symbol} {v : Symbols} → EndsAtOnce next v → (names : List Name) (made : Option Name → Stmt) (to : To Stmt) (ts : Symbols) → front ts ≡ next
    → mc.jump form true names made to (v ++ ts) ≡ to (made None) ts
jump-read form e.semicolon names made to ts h = refl
jump-read form (e.before_brace c) names made to [] h = refl
jump-read form (e.before_brace c) names made to (s ∷ ts) h = let f = ap (λ s. s.kind) h ∙ c in
    jump-at form names made to s ts s.kind s.newline (ap (λ kind. begins_label kind s.newline) f)
    ∙ at-once-stop (to (made None)) s ts (ap (λ kind. mc.is_semicolon kind && not s.newline) f) (insert-brace s f)
jump-read form (e.before_end c) names made to [] h = refl
jump-read form (e.before_end c) names made to (s ∷ ts) h = let f = ap (λ s. s.kind) h ∙ c in
    jump-at form names made to s ts s.kind s.newline (ap (λ kind. begins_label kind s.newline) f)
    ∙ at-once-stop (to (made None)) s ts (ap (λ kind. mc.is_semicolon kind && not s.newline) f) (insert-end s f)
jump-read form (e.before_line c) names made to [] h = refl
jump-read form (e.before_line c) names made to (s ∷ ts) h = let f = ap (λ s. s.newline) h ∙ c in
    jump-at form names made to s ts s.kind s.newline (ap (begins_label s.kind) f ∙ label-line s.kind)
    ∙ at-once-stop (to (made None)) s ts (ap (λ newline. mc.is_semicolon s.kind && not newline) f ∙ and-false (mc.is_semicolon s.kind)) (insert-line s f)

-- a name is among some
pub among-some : (n : Name) (names : List Name) → is_among n names ≡ true → mc.are_some names ≡ true
among-some n [] h = cc
among-some n (o ∷ names) h = refl

pub return-brace : (room : Room) (newline : Bool) (to : To Stmt) (s : Symbol) (ts : Symbols) → mc.return_by room newline (k.Mark m.CloseBrace) to s ts ≡ to (Tree.Return Tree.NoExpr) (s ∷ ts)
return-brace room true to s ts = refl
return-brace room false to s ts = refl

pub return-end : (room : Room) (newline : Bool) (to : To Stmt) (s : Symbol) (ts : Symbols) → mc.return_by room newline k.End to s ts ≡ to (Tree.Return Tree.NoExpr) (s ∷ ts)
return-end room true to s ts = refl
return-end room false to s ts = refl

pub return-read : {next : Symbol} {v : Symbols} → EndsAtOnce next v → (room : Room) (to : To Stmt) (ts : Symbols) → front ts ≡ next → mc.returned room to (v ++ ts) ≡ to (Tree.Return Tree.NoExpr) ts
return-read e.semicolon room to ts h = refl
return-read (e.before_brace c) room to [] h = refl
return-read (e.before_brace c) room to (s ∷ ts) h = ap (λ kind. mc.return_by room s.newline kind to s ts) (ap (λ s. s.kind) h ∙ c) ∙ return-brace room s.newline to s ts
return-read (e.before_end c) room to [] h = refl
return-read (e.before_end c) room to (s ∷ ts) h = ap (λ kind. mc.return_by room s.newline kind to s ts) (ap (λ s. s.kind) h ∙ c) ∙ return-end room s.newline to s ts
return-read (e.before_line c) room to [] h = refl
return-read (e.before_line c) room to (s ∷ ts) h = ap (λ newline. mc.return_by room newline s.kind to s ts) (ap (λ s. s.newline) h ∙ c)

-- ---- what follows

pub front-join : (v ts : Symbols) (next : Symbol) → front ts ≡ next → front (v ++ ts) ≡ first v next
front-join [] ts next h = h
front-join (s ∷ v) ts next h = refl

pub colon-front : (ts : Symbols) → (front ts).kind ≢ k.Mark m.Colon → colon_first ts ≡ false
colon-front [] h = refl
colon-front (s ∷ ts) h = at s.kind h
  where
    at : (kind : TokenKind) → kind ≢ k.Mark m.Colon → start.is_colon kind ≡ false
    at (k.Mark m.Colon) h = absurd (h refl)
    at _ h = refl

pub front-colon : {next : Symbol} (ts : Symbols) → front ts ≡ next → may_follow next.kind ≡ true → colon_first ts ≡ false
front-colon {next = next} ts h may = colon-front ts (λ f. not-colon next.kind may (sym (ap (λ s. s.kind) h) ∙ f))

pub ends-colon : {reached : ℕ} {next : Symbol} {v : Symbols} → Ends reached next v → (ts : Symbols) → front ts ≡ next → may_follow next.kind ≡ true → colon_first (v ++ ts) ≡ false
ends-colon (e.written b) ts h may = refl
ends-colon (e.at_brace c) ts h may = front-colon ts h may
ends-colon (e.at_end c) ts h may = front-colon ts h may
ends-colon (e.at_line a b c) ts h may = front-colon ts h may

abbrev pub closer : Bool → Mark
closer true = m.Semicolon
closer false = m.CloseParenthesis

pub statement-starts : {form : Form} {c : Context} {u : Symbols} {next : Symbol} {s : Stmt} → Statement form c u next s → Starts begins_statement u
statement-starts (g.block (g.braces b d ss)) = one _ _ refl
statement-starts (g.variables b xs ends) = one _ _ refl
statement-starts (g.empty b) = one _ _ refl
statement-starts (g.expression {next = next} {u = u} {v = v} x h1 h2 ends) = let s = expression-starts x in
    start.starts-append u v (record { head = s.head; others = s.others; are = s.are; passes = begins-statement s.head.kind s.passes (λ f. h2 (ap (λ t. (first t next).kind) s.are ∙ f)) })
statement-starts (g.if b d f x s h) = one _ _ refl
statement-starts (g.if_else b d f h x s other) = one _ _ refl
statement-starts (g.do_while b d f h s x ends) = one _ _ refl
statement-starts (g.while b d f x s) = one _ _ refl
statement-starts (g.for b d f h j init test step s) = one _ _ refl
statement-starts (g.for_in b d f h x t y s) = one _ _ refl
statement-starts (g.for_var_in b d f h j x y s) = one _ _ refl
statement-starts (g.continue b h ends) = one _ _ refl
statement-starts (g.continue_to b r h ends) = one _ _ refl
statement-starts (g.break b h ends) = one _ _ refl
statement-starts (g.break_from b r h ends) = one _ _ refl
statement-starts (g.return b h ends) = one _ _ refl
statement-starts (g.return_value b h x f ends) = one _ _ refl
statement-starts (g.switch b d f h j x cs) = one _ _ refl
statement-starts (g.label b d r away s) = one _ _ refl
statement-starts (g.throw b x f ends) = one _ _ refl
statement-starts (g.try_catch b d f h j s r handler) = one _ _ refl
statement-starts (g.try_finally b d s last) = one _ _ refl
statement-starts (g.try_catch_finally b d f h j o s r handler last) = one _ _ refl

pub first-of : (u v : Symbols) (next : Symbol) (s : Starts begins_statement u) → first (u ++ v) next ≡ s.head
first-of u v next s = ap (λ t. first (t ++ v) next) s.are

pub list-may : {form : Form} {c : Context} {u : Symbols} {next : Symbol} {ss : Stmts} → StatementList form c u next ss → stops next.kind ≡ true → may_follow (first u next).kind ≡ true
list-may {next = next} g.no_statement h = stops-follow next.kind h
list-may (g.statement_and {next = next} {u = u} {v = v} s ss) h = let b = statement-starts s in ap (λ t. may_follow t.kind) (first-of u v next b) ∙ statement-follow b.head.kind b.passes

pub source-may : {form : Form} {c : Context} {u : Symbols} {next : Symbol} {ss : Stmts} → SourceElements form c u next ss → closes next.kind ≡ true → may_follow (first u next).kind ≡ true
source-may {next = next} g.no_source h = closes-follow next.kind h
source-may (g.source_and {next = next} {u = u} {v = v} (g.statement s) ss) h = let b = statement-starts s in ap (λ t. may_follow t.kind) (first-of u v next b) ∙ statement-follow b.head.kind b.passes
source-may (g.source_and (g.declaration b d r f) ss) h = refl

pub clauses-stop : {form : Form} {c : Context} {may : Bool} {u : Symbols} {next : Symbol} {cs : Cases} → CaseClauses form c may u next cs → stops next.kind ≡ true → stops (first u next).kind ≡ true
clauses-stop g.no_clause h = h
clauses-stop (g.case_and b d x ss cs) h = refl
clauses-stop (g.default_and b d ss cs) h = refl

-- a state told by the first token of a statement
pub beginning : {form : Form} {t : State} (s o : Symbols → State) (u v : Symbols) → Starts begins_statement u
    → ((x : Symbol) (ts : Symbols) → begins_statement x.kind ≡ true → step form (s (x ∷ ts)) ≡ o (x ∷ ts)) → Goes form (o (u ++ v)) t → Goes form (s (u ++ v)) t
beginning {form = form} {t = t} s o u v b h d =
    subst (λ ts. Goes form (s (ts ++ v)) t) (sym b.are) (stepped (h b.head (b.others ++ v) b.passes) (subst (λ ts. Goes form (o (ts ++ v)) t) b.are d))

-- a state that is another one where the first token begins an expression
pub told : {form : Form} {t : State} (s o : Symbols → State) (u v : Symbols) → Starts begins u → ((x : Symbol) (ts : Symbols) → begins x.kind ≡ true → s (x ∷ ts) ≡ o (x ∷ ts))
    → Goes form (o (u ++ v)) t → Goes form (s (u ++ v)) t
told {form = form} {t = t} s o u v b h d =
    subst (λ ts. Goes form (s (ts ++ v)) t) (sym b.are) (from (h b.head (b.others ++ v) b.passes) (subst (λ ts. Goes form (o (ts ++ v)) t) b.are d))

pub closes-stop : (kind : TokenKind) → closes kind ≡ true → stops kind ≡ true
closes-stop (k.Mark m.CloseBrace) h = refl
closes-stop k.End h = refl
closes-stop _ h = cc

pub clauses-end : {form : Form} (room : Room) (c : Context) (may : Bool) (next : To Cases) (ts : Symbols) → closes (front ts).kind ≡ true → Goes form (clauses room c may next ts) (next Tree.NoCases ts)
clauses-end room c may next [] h = then_on here
clauses-end room c may next (s ∷ ts) h = stepped (at s.kind h) here
  where
    at : (kind : TokenKind) → closes kind ≡ true → mc.clauses_by room c may kind next s ts ≡ next Tree.NoCases (s ∷ ts)
    at (k.Word w.Case) h = cc
    at (k.Word w.Default) h = cc
    at _ h = refl

-- a `for` header behind its first part, and the statement behind it
pub for-read : (form : Form) (room : Room) (c : Context) (v z body ts : Symbols) (test last : MaybeExpr) (s : Stmt) (init : ForInit) (f j d : Bool) (to : To Stmt)
    → ((next : To MaybeExpr) (a d : Bool) (ts : Symbols) → Goes form (optional room next (v ++ (mark (closer a) d ∷ ts))) (next test (mark (closer a) d ∷ ts)))
    → ((next : To MaybeExpr) (a d : Bool) (ts : Symbols) → Goes form (optional room next (z ++ (mark (closer a) d ∷ ts))) (next last (mark (closer a) d ∷ ts)))
    → ((to : To Stmt) → Goes form (statement room c to (body ++ ts)) (to s ts))
    → Goes form (mc.for_rest room c init to (mark m.Semicolon d ∷ ((v ++ (mark m.Semicolon f ∷ (z ++ (mark m.CloseParenthesis j ∷ body)))) ++ ts))) (to (Tree.For init test last s) ts)
for-read form room c v z body ts test last s init f j d to tests lasts inner =
    placed (optional room (λ test. mc.expect mc.is_semicolon (optional room (λ last. mc.expect mc.is_close_parenthesis (statement room c (λ body r. to (Tree.For init test last body) r))))))
    (append_assoc v (mark m.Semicolon f ∷ (z ++ (mark m.CloseParenthesis j ∷ body))) ts)
    (onwards (tests (λ test. mc.expect mc.is_semicolon (optional room (λ last. mc.expect mc.is_close_parenthesis (statement room c (λ body r. to (Tree.For init test last body) r))))) true f ((z ++ (mark m.CloseParenthesis j ∷ body)) ++ ts))
    (placed (optional room (λ last. mc.expect mc.is_close_parenthesis (statement room c (λ body r. to (Tree.For init test last body) r)))) (append_assoc z (mark m.CloseParenthesis j ∷ body) ts)
    (onwards (lasts (λ last. mc.expect mc.is_close_parenthesis (statement room c (λ body r. to (Tree.For init test last body) r))) false j (body ++ ts))
    (inner (λ body r. to (Tree.For init test last body) r)))))

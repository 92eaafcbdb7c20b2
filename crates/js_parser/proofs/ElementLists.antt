-- The statements and declarations of a script one after the other: how the machine goes over them,
-- and what has been read of a script before the next one.
use Rattle.std.proofs.Common.{◌≡◌, ℕ, ◌≤◌, Bool, true, false, List, [], ◌∷◌, ◌++◌, refl, ap, sym, ◌∙◌, subst, arith}
use Rattle.std.proofs.lemmas.List.{append_assoc, append-nil}
use Rattle.std.proofs.lemmas.Bool.{leb-true}
use Rattle.std.proofs.Math.Nat.{le-max_left, le-max_right, max-le, le_trans}
use Rattle.js_lexer.specs.declared.mark.Mark.TheVariants as m
use Rattle.js_lexer.specs.declared.word.Word.TheVariants as w
use Rattle.js_lexer.specs.declared.token.TokenKind.{TokenKind}
use Rattle.js_lexer.specs.declared.token.TokenKind.TheVariants as k
use Rattle.js_tree.specs.Tree.{Stmt, Stmts}
use Rattle.js_tree.specs.Tree
use Rattle.js_tree.specs.Plain.{stmts}
use Rattle.js_parser.specs.declared.form.Form.{Form}
use Rattle.js_parser.specs.declared.form.Limits.{Limits}
use Rattle.js_parser.specs.Symbols.{Symbol, Symbols, word, name, first}
use Rattle.js_parser.specs.Contexts.{Context}
use Rattle.js_parser.specs.Contexts as context
use Rattle.js_tree.specs.Heights.{Growth, stmt_height, stmts_height}
use Rattle.js_tree.specs.Depth.{by_nodes, by_functions}
use Rattle.js_parser.specs.Grammar.{Statement, SourceElement, SourceElements}
use Rattle.js_parser.specs.Grammar as g
use Rattle.js_parser.specs.Rooms.{Room, of_limits, fits_function}
use Rattle.js_parser.specs.Machine.{statement, source, To, fitting, step, Goes, here}
use Rattle.js_parser.specs.Machine as mc
use Rattle.js_parser.specs.Scanned.{Begun}
use Rattle.js_parser.specs.Elements.{declaration, declaration_by, element, element_by}
use Rattle.js_parser.proofs.Runs.{onwards, stepped, allowed, fitted}
use Rattle.js_parser.proofs.Room.{Has}
use Rattle.js_parser.proofs.Room as parts
use Rattle.js_parser.proofs.ReadsLevels.{placed}
use Rattle.js_parser.proofs.ReadsSteps.{from}
use Rattle.js_parser.proofs.ReadsStarts.{may_follow, closes, begins_statement, statement-follow, statement-starts, first-of}
use Rattle.js_parser.proofs.ReadsStarts as start
use Rattle.js_parser.proofs.ReadsScripts.{statement-read, rest-read}
use Rattle.js_parser.proofs.ReadTrees.{Within, front, front-join}
use Rattle.js_parser.proofs.NoFault.{and_then, joined}
use Rattle.js_parser.proofs.ElementTrees.{IsRead}

-- ---- one

-- a token with which a statement or a declaration may begin, as far as the machine needs to know
abbrev pub may_begin : TokenKind → Bool
may_begin (k.Mark m.CloseBrace) = false
may_begin (k.Mark m.Colon) = false
may_begin (k.Word w.Finally) = false
may_begin k.End = false
may_begin _ = true

pub begin-follow : (kind : TokenKind) → may_begin kind ≡ true → may_follow kind ≡ true
begin-follow (k.Mark m.Colon) h = cc
begin-follow (k.Word w.Finally) h = cc
begin-follow _ h = refl

pub begin-open : (kind : TokenKind) → may_begin kind ≡ true → closes kind ≡ false
begin-open (k.Mark m.CloseBrace) h = cc
begin-open k.End h = cc
begin-open _ h = refl

statement-begin : (kind : TokenKind) → begins_statement kind ≡ true → may_begin kind ≡ true
statement-begin (k.Mark m.CloseBrace) h = cc
statement-begin (k.Mark m.Colon) h = cc
statement-begin (k.Word w.Finally) h = cc
statement-begin k.End h = cc
statement-begin _ h = refl

-- with the elements behind it
abbrev pub and_more : Form → Room → Context → To Stmts → To Stmt
and_more form room c to x r = source room c (λ xs o. to (Tree.MoreStmts x xs) o) r

pub declared-is : (form : Form) (room : Room) (c : Context) (to : To Stmts) (ts : Symbols) → mc.declared form room c to ts ≡ declaration form room (and_more form room c to) ts
declared-is form room c to [] = refl
declared-is form room c to (s ∷ ts) = at s.kind
  where
    at : (kind : TokenKind) → mc.declared_by form room c kind to s ts ≡ declaration_by form room kind (and_more form room c to) s ts
    at (k.Name n) = refl
    at _ = refl

-- where no list of elements ends, the machine reads an element first
pub source-step : (form : Form) (room : Room) (c : Context) (to : To Stmts) (s : Symbol) (ts : Symbols) → closes s.kind ≡ false
    → step form (source room c to (s ∷ ts)) ≡ element form room c (and_more form room c to) (s ∷ ts)
source-step form room c to s ts h = at s.kind h
  where
    at : (kind : TokenKind) → closes kind ≡ false → mc.source_by form room c kind to s ts ≡ element_by form room c kind (and_more form room c to) s ts
    at (k.Mark m.CloseBrace) h = cc
    at k.End h = cc
    at (k.Word w.Function) h = ap (λ s. fitting (fits_function room) ts s) (declared-is form room c to ts)
    at _ h = refl

-- an element that begins as a statement does
element-start : (form : Form) (room : Room) (c : Context) (to : To Stmt) (s : Symbol) (ts : Symbols) (kind : TokenKind) → begins_statement kind ≡ true → element_by form room c kind to s ts ≡ statement room c to (s ∷ ts)
element-start form room c to s ts (k.Word w.Function) h = cc
element-start form room c to s ts _ h = refl

statement-is : {form : Form} {c : Context} {u : Symbols} {next : Symbol} {s : Stmt} → Statement form c u next s → (room : Room) (to : To Stmt) (ts : Symbols) → element form room c to (u ++ ts) ≡ statement room c to (u ++ ts)
statement-is {form = form} {c = c} d room to ts =
    let b = statement-starts d in
    ap (λ v. element form room c to (v ++ ts)) b.are ∙ element-start form room c to b.head (b.others ++ ts) b.head.kind b.passes ∙ sym (ap (λ v. statement room c to (v ++ ts)) b.are)

-- what has a tree is read, where there is room for it
pub element_reads : {form : Form} {c : Context} {u : Symbols} {next : Symbol} {s : Stmt} {room : Room} → SourceElement form c u next s → Has room (parts.stmt s) → (to : To Stmt) (ts : Symbols) → front ts ≡ next → may_follow next.kind ≡ true
    → Goes form (element form room c to (u ++ ts)) (to s ts)
element_reads {room = room} (g.statement d) has to ts h may = from (statement-is d room to ts) (statement-read d has to ts h may)
element_reads {room = room} (g.declaration {n = n} b d r f) has to ts h may =
    fitted _ (parts.declared has) (allowed _ r (rest-read f (parts.declared-body has) (λ ns body r. to (Tree.Declare (g.code _ ns body)) r) ts))

-- ---- more

pub elements-may : {form : Form} {c : Context} {u : Symbols} {next : Symbol} {ss : Stmts} → SourceElements form c u next ss → may_follow next.kind ≡ true → may_follow (first u next).kind ≡ true
elements-may g.no_source h = h
elements-may (g.source_and {next = next} {u = u} {v = v} (g.statement s) ss) h = let b = statement-starts s in ap (λ t. may_follow t.kind) (first-of u v next b) ∙ statement-follow b.head.kind b.passes
elements-may (g.source_and (g.declaration b d r f) ss) h = refl

-- the machine comes to the element behind them
source-is : {form : Form} {c : Context} {u : Symbols} {next : Symbol} {s : Stmt} → SourceElement form c u next s → (room : Room) (to : To Stmts) (ts : Symbols)
    → step form (source room c to (u ++ ts)) ≡ element form room c (and_more form room c to) (u ++ ts)
source-is {form = form} {c = c} (g.statement d) room to ts =
    let b = statement-starts d in
    ap (λ v. step form (source room c to (v ++ ts))) b.are ∙ source-step form room c to b.head (b.others ++ ts) (begin-open b.head.kind (statement-begin b.head.kind b.passes))
    ∙ sym (ap (λ v. element form room c (and_more form room c to) (v ++ ts)) b.are)
source-is {form = form} {c = c} (g.declaration {n = n} {u = u} b d r f) room to ts = source-step form room c to (word w.Function b) (name n d ∷ (u ++ ts)) refl

-- Where there is room for elements, the machine goes over them to what follows.
pub source_over : {form : Form} {c : Context} {u : Symbols} {next : Symbol} {ss : Stmts} {room : Room} → SourceElements form c u next ss → Has room (parts.stmts ss) → (to : To Stmts) (ts : Symbols) → front ts ≡ next → may_follow next.kind ≡ true
    → Goes form (source room c to (u ++ ts)) (source room c (λ xs o. to (and_then ss xs) o) ts)
source_over g.no_source has to ts h may = here
source_over {form = form} {c = c} {room = room} (g.source_and {next = next} {u = u} {v = v} {s = s} d ds) has to ts h may =
    placed (source room c to) (append_assoc u v ts)
    (stepped (source-is d room to (v ++ ts))
    (onwards (element_reads d (parts.one has) (and_more form room c to) (v ++ ts) (start.front-join v ts next h) (elements-may ds may))
    (source_over ds (parts.more has) (λ xs o. to (Tree.MoreStmts s xs) o) ts h may)))

-- ---- what has been read of a script

pub begun_none : (form : Form) (limits : Limits) (next : Symbol) → Begun form limits [] next (stmts [])
begun_none form limits next = record { derives = g.no_source; not_too_deep = omega arith; not_too_nested = omega arith }

height-join : (by : Growth) (n : ℕ) (ss others : Stmts) → stmts_height by ss ≤ n → stmts_height by others ≤ n → stmts_height by (and_then ss others) ≤ n
height-join by n Tree.NoStmts others h i = i
height-join by n (Tree.MoreStmts s ss) others h i =
    max-le (le_trans (le-max_left (stmt_height by s) (stmts_height by ss)) h) (height-join by n ss others (le_trans (le-max_right (stmt_height by s) (stmts_height by ss)) h) i)

pub stmts-join : (ss : List Stmt) (x : Stmt) → stmts (ss ++ (x ∷ [])) ≡ and_then (stmts ss) (Tree.MoreStmts x Tree.NoStmts)
stmts-join [] x = refl
stmts-join (s ∷ ss) x = ap (λ xs. Tree.MoreStmts s xs) (stmts-join ss x)

pub begun_more : {form : Form} {limits : Limits} {before : Symbols} (u new : Symbols) (ss : List Stmt) (x : Stmt) → Begun form limits before (front (u ++ new)) (stmts ss) → SourceElement form context.script u (front new) x
    → Within (of_limits limits) (stmt_height by_nodes x) (stmt_height by_functions x) → Begun form limits (before ++ u) (front new) (stmts (ss ++ (x ∷ [])))
begun_more {form = form} {limits = limits} {before = before} u new ss x h d fit =
    let one : SourceElements form context.script u (front new) (Tree.MoreStmts x Tree.NoStmts) =
    subst (λ v. SourceElements form context.script v (front new) (Tree.MoreStmts x Tree.NoStmts)) (append-nil u) (g.source_and {v = []} d g.no_source) in
    let deep : stmt_height by_nodes x ≤ limits.depth = leb-true (stmt_height by_nodes x) limits.depth fit.deep in
    let nested : stmt_height by_functions x ≤ limits.nesting = leb-true (stmt_height by_functions x) limits.nesting fit.nested in
    subst (λ trees. Begun form limits (before ++ u) (front new) trees) (sym (stmts-join ss x)) (record {
      derives = joined u (front new) h.derives (front-join u new) one;
      not_too_deep = height-join by_nodes limits.depth (stmts ss) (Tree.MoreStmts x Tree.NoStmts) h.not_too_deep (max-le deep (omega arith));
      not_too_nested = height-join by_functions limits.nesting (stmts ss) (Tree.MoreStmts x Tree.NoStmts) h.not_too_nested (max-le nested (omega arith));
    })

-- with the element that was read next
pub begun_read : {form : Form} {limits : Limits} {before old new : Symbols} {x : Stmt} (ss : List Stmt) → Begun form limits before (front old) (stmts ss) → (r : IsRead form (of_limits limits) context.script old new x)
    → Begun form limits (before ++ r.used) (front new) (stmts (ss ++ (x ∷ [])))
begun_read {form = form} {limits = limits} {before = before} {new = new} {x = x} ss h r =
    begun_more r.used new ss x (subst (λ ts. Begun form limits before (front ts) (stmts ss)) r.whole h) r.is r.fit

-- The steps of the machine at the clauses of a `switch`, by what the parser asks of the tokens.
use Rattle.std.proofs.Common.{◌≡◌, Bool, true, false, ◌&&◌, ◌||◌, List, [], ◌∷◌, ◌++◌, refl, ap, sym, ◌∙◌, subst}
use Rattle.std.proofs.Math.Path.{fun_ext}
use Rattle.js_lexer.specs.declared.word.Word.TheVariants as w
use Rattle.js_lexer.specs.declared.token.TokenKind.{TokenKind}
use Rattle.js_lexer.specs.declared.token.TokenKind.TheVariants as k
use Rattle.js_tree.specs.Tree.{Cases, MaybeExpr, NoExpr, AnExpr, NoCases, MoreCases}
use Rattle.js_tree.specs.Plain.{CasePart}
use Rattle.js_tree.specs.Plain as plain
use Rattle.js_parser.specs.declared.form.Form.{Form}
use Rattle.js_parser.specs.Symbols.{Symbols, behind}
use Rattle.js_parser.specs.Contexts.{Context}
use Rattle.js_parser.specs.Rooms.{Room}
use Rattle.js_parser.specs.Machine.{State, To, stuck, expect, is_colon, comma, list, clauses, clauses_by, Goes, here, then_on}
use Rattle.js_parser.specs.StatementPieces.{clause_test, and_clause, is_case, begins_clause}
use Rattle.js_parser.specs.Reads.{at}
use Rattle.js_parser.proofs.Runs.{stepped}

-- these, and then others
abbrev pub onto : List CasePart → Cases → Cases
onto [] more = more
onto (x ∷ xs) more = MoreCases x.test x.body (onto xs more)

onto_one_more : (xs : List CasePart) (x : CasePart) (more : Cases) → onto xs (MoreCases x.test x.body more) ≡ onto (xs ++ (x ∷ [])) more
onto_one_more [] x more = refl
onto_one_more (y ∷ xs) x more = ap (MoreCases y.test y.body) (onto_one_more xs x more)

onto_none : (xs : List CasePart) → onto xs NoCases ≡ plain.cases xs
onto_none [] = refl
onto_none (x ∷ xs) = ap (MoreCases x.test x.body) (onto_none xs)

pub clauses_begin : {form : Form} (room : Room) (c : Context) (none : List CasePart) (next : To Cases) (ts : Symbols) → none ≡ []
    → Goes form (clauses room c true next ts) (clauses room c true (λ more o. next (onto none more) o) ts)
clauses_begin {form = form} room c none next ts h = subst (λ xs. Goes form (clauses room c true next ts) (clauses room c true (λ more o. next (onto xs more) o) ts)) (sym h) here

pub with_test : {form : Form} (room : Room) (tested : Bool) (next : To MaybeExpr) (ts : Symbols) → tested ≡ true → Goes form (clause_test tested room next ts) (comma room true (λ x r. next (AnExpr x) r) ts)
with_test room true next ts h = here
with_test room false next ts h = cc

pub without_test : {form : Form} (room : Room) (tested : Bool) (next : To MaybeExpr) (ts : Symbols) → tested ≡ false → Goes form (clause_test tested room next ts) (next NoExpr ts)
without_test room true next ts h = cc
without_test room false next ts h = here

-- the statements of a clause, and what comes of them
body_is : (room : Room) (c : Context) (xs : List CasePart) (may : Bool) (next : To Cases) (test : MaybeExpr)
    → ◌≡◌ {A = Symbols → State} (λ ts. list room c (λ body r. clauses room c may (λ more o. next (onto xs (MoreCases test body more)) o) r) ts) (λ ts. list room c (λ body r. clauses room c may (λ more o. next (onto (xs ++ (record { test = test; body = body } ∷ [])) more) o) r) ts)
body_is room c xs may next test = ap (λ f ts. list room c f ts) (fun_ext (λ body. fun_ext (λ r. ap (λ f. clauses room c may f r) (fun_ext (λ more. ap next (onto_one_more xs (record { test = test; body = body }) more))))))

pub a_clause : {form : Form} (room : Room) (c : Context) (xs : List CasePart) (may tested still : Bool) (next : To Cases) (ts rest : Symbols)
    → at begins_clause ts ≡ true → tested ≡ at is_case ts → (tested || may) ≡ true → rest ≡ behind ts → still ≡ (tested && may)
    → Goes form (clauses room c may (λ more o. next (onto xs more) o) ts) (and_clause tested room c xs (λ all r. clauses room c still (λ more o. next (onto all more) o) r) rest)
a_clause room c xs may tested still next [] rest h t a e f = cc
a_clause {form = form} room c xs may tested still next (s ∷ ts) rest h t a e f = subst (λ b. Goes form (clauses room c may (λ more o. next (onto xs more) o) (s ∷ ts)) (and_clause tested room c xs (λ all r. clauses room c b (λ more o. next (onto all more) o) r) rest)) (sym f) some
  where
    by : (kind : TokenKind) (tested may : Bool) → begins_clause kind ≡ true → tested ≡ is_case kind → (tested || may) ≡ true
        → clauses_by room c may kind (λ more o. next (onto xs more) o) s ts ≡ and_clause tested room c xs (λ all r. clauses room c (tested && may) (λ more o. next (onto all more) o) r) ts
    by (k.Word w.Case) true may h t a = ap (λ f. comma room true f ts) (fun_ext (λ x. ap (expect is_colon) (body_is room c xs may next (AnExpr x))))
    by (k.Word w.Case) false may h t a = cc
    by (k.Word w.Default) true may h t a = cc
    by (k.Word w.Default) false true h t a = ap (λ f. expect is_colon f ts) (body_is room c xs false next NoExpr)
    by (k.Word w.Default) false false h t a = cc
    by _ tested may h t a = cc

    some : Goes form (clauses room c may (λ more o. next (onto xs more) o) (s ∷ ts)) (and_clause tested room c xs (λ all r. clauses room c (tested && may) (λ more o. next (onto all more) o) r) rest)
    some = stepped (by s.kind tested may h t a ∙ ap (and_clause tested room c xs (λ all r. clauses room c (tested && may) (λ more o. next (onto all more) o) r)) (sym e)) here

pub second_default : {form : Form} (room : Room) (c : Context) (may tested : Bool) (next : To Cases) (ts : Symbols)
    → at begins_clause ts ≡ true → tested ≡ at is_case ts → (tested || may) ≡ false → Goes form (clauses room c may next ts) (stuck ts)
second_default room c may tested next [] h t a = cc
second_default {form = form} room c may tested next (s ∷ ts) h t a = stepped (by s.kind tested may h t a) here
  where
    by : (kind : TokenKind) (tested may : Bool) → begins_clause kind ≡ true → tested ≡ is_case kind → (tested || may) ≡ false → clauses_by room c may kind next s ts ≡ stuck (s ∷ ts)
    by (k.Word w.Case) true may h t a = cc
    by (k.Word w.Case) false may h t a = cc
    by (k.Word w.Default) true may h t a = cc
    by (k.Word w.Default) false true h t a = cc
    by (k.Word w.Default) false false h t a = refl
    by _ tested may h t a = cc

pub no_more_clauses : {form : Form} (room : Room) (c : Context) (xs : List CasePart) (may : Bool) (next : To Cases) (ts : Symbols) → at begins_clause ts ≡ false
    → Goes form (clauses room c may (λ more o. next (onto xs more) o) ts) (next (plain.cases xs) ts)
no_more_clauses {form = form} room c xs may next ts h = subst (λ all. Goes form (clauses room c may (λ more o. next (onto xs more) o) ts) (next all ts)) (onto_none xs) (last ts h)
  where
    last : (ts : Symbols) → at begins_clause ts ≡ false → Goes form (clauses room c may (λ more o. next (onto xs more) o) ts) (next (onto xs NoCases) ts)
    last [] h = then_on here
    last (s ∷ ts) h = stepped (by s.kind h) here
      where
        by : (kind : TokenKind) → begins_clause kind ≡ false → clauses_by room c may kind (λ more o. next (onto xs more) o) s ts ≡ next (onto xs NoCases) (s ∷ ts)
        by (k.Word w.Case) h = cc
        by (k.Word w.Default) h = cc
        by _ h = refl

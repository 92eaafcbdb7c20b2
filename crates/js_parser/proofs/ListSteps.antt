-- The steps of the machine at lists of statements, of source elements and of clauses, by what the
-- parser asks of the tokens.
use Rattle.std.proofs.Common.{◌≡◌, true, false, List, [], ◌∷◌, ◌++◌, Some, refl, ap, sym, subst}
use Rattle.std.proofs.Math.Path.{fun_ext}
use Rattle.js_lexer.specs.declared.mark.Mark.TheVariants as m
use Rattle.js_lexer.specs.declared.word.Word.TheVariants as w
use Rattle.js_lexer.specs.declared.token.TokenKind.{TokenKind}
use Rattle.js_lexer.specs.declared.token.TokenKind.TheVariants as k
use Rattle.js_tree.specs.Tree.{Name, Stmt, Stmts, Cases, MaybeExpr, NoExpr, AnExpr, NoStmts, MoreStmts, NoCases, MoreCases}
use Rattle.js_tree.specs.Tree
use Rattle.js_tree.specs.Plain.{CasePart}
use Rattle.js_tree.specs.Plain as plain
use Rattle.js_parser.specs.declared.form.Form.{Form}
use Rattle.js_parser.specs.Symbols.{Symbols, behind}
use Rattle.js_parser.specs.Contexts.{Context}
use Rattle.js_parser.specs.Names.{is_binding}
use Rattle.js_parser.specs.Grammar.{code}
use Rattle.js_parser.specs.Rooms.{Room, in_function, fits_function}
use Rattle.js_parser.specs.Machine.{State, To, stuck, guard, fitting, expect, is_colon, comma, statement, list, source, clauses, list_by, source_by, declared, declared_by, clauses_by, Goes, here, then_on}
use Rattle.js_parser.specs.Machine as rule
use Rattle.js_parser.specs.Pieces.{function_rule}
use Rattle.js_parser.specs.StatementPieces.{binding, binding_by, and_statement, and_declared, and_element, and_element_by, is_function, goes_on_list, goes_on_elements}
use Rattle.js_parser.specs.Reads.{at}
use Rattle.js_parser.proofs.Runs.{stepped}

-- ---- statements

-- these, and then others
abbrev pub onto : List Stmt → Stmts → Stmts
onto [] more = more
onto (x ∷ xs) more = MoreStmts x (onto xs more)

onto_one_more : (xs : List Stmt) (x : Stmt) (more : Stmts) → onto xs (MoreStmts x more) ≡ onto (xs ++ (x ∷ [])) more
onto_one_more [] x more = refl
onto_one_more (y ∷ xs) x more = ap (MoreStmts y) (onto_one_more xs x more)

onto_none : (xs : List Stmt) → onto xs NoStmts ≡ plain.stmts xs
onto_none [] = refl
onto_none (x ∷ xs) = ap (MoreStmts x) (onto_none xs)

-- what comes of one more statement is the same
one_more_is : (next : To Stmts) (xs : List Stmt) (x : Stmt) → ◌≡◌ {A = To Stmts} (λ more o. next (onto xs (MoreStmts x more)) o) (λ more o. next (onto (xs ++ (x ∷ [])) more) o)
one_more_is next xs x = fun_ext (λ more. ap next (onto_one_more xs x more))

-- ---- lists

pub list_begins : {form : Form} (room : Room) (c : Context) (none : List Stmt) (next : To Stmts) (ts : Symbols) → none ≡ []
    → Goes form (list room c next ts) (list room c (λ more o. next (onto none more) o) ts)
list_begins {form = form} room c none next ts h = subst (λ xs. Goes form (list room c next ts) (list room c (λ more o. next (onto xs more) o) ts)) (sym h) here

pub list_goes_on : {form : Form} (room : Room) (c : Context) (xs : List Stmt) (next : To Stmts) (ts : Symbols) → at goes_on_list ts ≡ true
    → Goes form (list room c (λ more o. next (onto xs more) o) ts) (and_statement room c xs (λ all r. list room c (λ more o. next (onto all more) o) r) ts)
list_goes_on room c xs next [] h = cc
list_goes_on {form = form} room c xs next (s ∷ ts) h = stepped (by s.kind h) here
  where
    some : statement room c (λ x r. list room c (λ more o. next (onto xs (MoreStmts x more)) o) r) (s ∷ ts) ≡ and_statement room c xs (λ all r. list room c (λ more o. next (onto all more) o) r) (s ∷ ts)
    some = ap (λ f. statement room c f (s ∷ ts)) (fun_ext (λ x. fun_ext (λ r. ap (λ f. list room c f r) (one_more_is next xs x))))

    by : (kind : TokenKind) → goes_on_list kind ≡ true → list_by room c kind (λ more o. next (onto xs more) o) s ts ≡ and_statement room c xs (λ all r. list room c (λ more o. next (onto all more) o) r) (s ∷ ts)
    by (k.Mark m.CloseBrace) h = cc
    by k.End h = cc
    by (k.Word w.Case) h = cc
    by (k.Word w.Default) h = cc
    by _ h = some

pub list_ends : {form : Form} (room : Room) (c : Context) (xs : List Stmt) (next : To Stmts) (ts : Symbols) → at goes_on_list ts ≡ false
    → Goes form (list room c (λ more o. next (onto xs more) o) ts) (next (plain.stmts xs) ts)
list_ends {form = form} room c xs next ts h = subst (λ all. Goes form (list room c (λ more o. next (onto xs more) o) ts) (next all ts)) (onto_none xs) (last ts h)
  where
    last : (ts : Symbols) → at goes_on_list ts ≡ false → Goes form (list room c (λ more o. next (onto xs more) o) ts) (next (onto xs NoStmts) ts)
    last [] h = then_on here
    last (s ∷ ts) h = stepped (by s.kind h) here
      where
        by : (kind : TokenKind) → goes_on_list kind ≡ false → list_by room c kind (λ more o. next (onto xs more) o) s ts ≡ next (onto xs NoStmts) (s ∷ ts)
        by (k.Mark m.CloseBrace) h = refl
        by k.End h = refl
        by (k.Word w.Case) h = refl
        by (k.Word w.Default) h = refl
        by _ h = cc

-- ---- source elements

pub element_is_declared : {form : Form} (room : Room) (c : Context) (xs : List Stmt) (next : To (List Stmt)) (ts rest : Symbols) → at is_function ts ≡ true → rest ≡ behind ts
    → Goes form (and_element form room c xs next ts) (and_declared form room xs next rest)
element_is_declared room c xs next [] rest h e = cc
element_is_declared {form = form} room c xs next (s ∷ ts) rest h e = subst (λ r. Goes form (and_element_by form s.kind room c xs next s ts) (and_declared form room xs next r)) (sym e) (by s.kind h)
  where
    by : (kind : TokenKind) → is_function kind ≡ true → Goes form (and_element_by form kind room c xs next s ts) (and_declared form room xs next ts)
    by (k.Word w.Function) h = here
    by _ h = cc

pub element_is_statement : {form : Form} (room : Room) (c : Context) (xs : List Stmt) (next : To (List Stmt)) (ts : Symbols) → at is_function ts ≡ false
    → Goes form (and_element form room c xs next ts) (and_statement room c xs next ts)
element_is_statement room c xs next [] h = here
element_is_statement {form = form} room c xs next (s ∷ ts) h = by s.kind h
  where
    by : (kind : TokenKind) → is_function kind ≡ false → Goes form (and_element_by form kind room c xs next s ts) (and_statement room c xs next (s ∷ ts))
    by (k.Word w.Function) h = cc
    by _ h = here

pub source_begins : {form : Form} (room : Room) (c : Context) (none : List Stmt) (next : To Stmts) (ts : Symbols) → none ≡ []
    → Goes form (source room c next ts) (source room c (λ more o. next (onto none more) o) ts)
source_begins {form = form} room c none next ts h = subst (λ xs. Goes form (source room c next ts) (source room c (λ more o. next (onto xs more) o) ts)) (sym h) here

declared_is : (form : Form) (room : Room) (c : Context) (xs : List Stmt) (next : To Stmts) (ts : Symbols)
    → declared form room c (λ more o. next (onto xs more) o) ts ≡ binding form (λ n. function_rule (Some n) (in_function room) (λ f r. source room c (λ more o. next (onto (xs ++ (Tree.Declare f ∷ [])) more) o) r)) ts
declared_is form room c xs next [] = refl
declared_is form room c xs next (s ∷ ts) = by s.kind
  where
    rest_is : (n : Name) → ◌≡◌ {A = List Name → Stmts → Symbols → State} (λ ns body r. source room c (λ more o. next (onto xs (MoreStmts (Tree.Declare (code (Some n) ns body)) more)) o) r) (λ ns body r. source room c (λ more o. next (onto (xs ++ (Tree.Declare (code (Some n) ns body) ∷ [])) more) o) r)
    rest_is n = fun_ext (λ ns. fun_ext (λ body. fun_ext (λ r. ap (λ f. source room c f r) (one_more_is next xs (Tree.Declare (code (Some n) ns body))))))

    by : (kind : TokenKind) → declared_by form room c kind (λ more o. next (onto xs more) o) s ts ≡ binding_by form kind (λ n. function_rule (Some n) (in_function room) (λ f r. source room c (λ more o. next (onto (xs ++ (Tree.Declare f ∷ [])) more) o) r)) s ts
    by (k.Name n) = ap (λ f. guard (is_binding form n) (s ∷ ts) (rule.rest (in_function room) f ts)) (rest_is n)
    by _ = refl

pub source_goes_on : {form : Form} (room : Room) (c : Context) (xs : List Stmt) (next : To Stmts) (ts : Symbols) → at goes_on_elements ts ≡ true
    → Goes form (source room c (λ more o. next (onto xs more) o) ts) (and_element form room c xs (λ all r. source room c (λ more o. next (onto all more) o) r) ts)
source_goes_on room c xs next [] h = cc
source_goes_on {form = form} room c xs next (s ∷ ts) h = stepped (by s.kind h) here
  where
    some : statement room c (λ x r. source room c (λ more o. next (onto xs (MoreStmts x more)) o) r) (s ∷ ts) ≡ and_statement room c xs (λ all r. source room c (λ more o. next (onto all more) o) r) (s ∷ ts)
    some = ap (λ f. statement room c f (s ∷ ts)) (fun_ext (λ x. fun_ext (λ r. ap (λ f. source room c f r) (one_more_is next xs x))))

    by : (kind : TokenKind) → goes_on_elements kind ≡ true → source_by form room c kind (λ more o. next (onto xs more) o) s ts ≡ and_element_by form kind room c xs (λ all r. source room c (λ more o. next (onto all more) o) r) s ts
    by (k.Mark m.CloseBrace) h = cc
    by k.End h = cc
    by (k.Word w.Function) h = ap (fitting (fits_function room) ts) (declared_is form room c xs next ts)
    by _ h = some

pub source_ends : {form : Form} (room : Room) (c : Context) (xs : List Stmt) (next : To Stmts) (ts : Symbols) → at goes_on_elements ts ≡ false
    → Goes form (source room c (λ more o. next (onto xs more) o) ts) (next (plain.stmts xs) ts)
source_ends {form = form} room c xs next ts h = subst (λ all. Goes form (source room c (λ more o. next (onto xs more) o) ts) (next all ts)) (onto_none xs) (last ts h)
  where
    last : (ts : Symbols) → at goes_on_elements ts ≡ false → Goes form (source room c (λ more o. next (onto xs more) o) ts) (next (onto xs NoStmts) ts)
    last [] h = then_on here
    last (s ∷ ts) h = stepped (by s.kind h) here
      where
        by : (kind : TokenKind) → goes_on_elements kind ≡ false → source_by form room c kind (λ more o. next (onto xs more) o) s ts ≡ next (onto xs NoStmts) (s ∷ ts)
        by (k.Mark m.CloseBrace) h = refl
        by k.End h = refl
        by (k.Word w.Function) h = cc
        by _ h = cc

-- What the machine reads has a tree by the grammar: lists of statements, and scripts.
use Rattle.std.proofs.Common.{◌≡◌, ℕ, zero, suc, ◌-◌, ◌≤◌, Bool, true, false, ◌&&◌, List, [], ◌∷◌, ◌++◌, Some, refl, ap, ◌∙◌, subst}
use Rattle.std.proofs.lemmas.Bool.{leb-true}
use Rattle.js_lexer.specs.declared.mark.Mark.TheVariants as m
use Rattle.js_lexer.specs.declared.word.Word.TheVariants as w
use Rattle.js_lexer.specs.declared.token.Token.{Token}
use Rattle.js_lexer.specs.declared.token.TokenKind.{TokenKind}
use Rattle.js_lexer.specs.declared.token.TokenKind.TheVariants as k
use Rattle.js_tree.specs.Tree.{Name, Expr, Stmt, Stmts, Cases, Script}
use Rattle.js_tree.specs.Tree
use Rattle.js_parser.specs.declared.form.Form.{Form}
use Rattle.js_parser.specs.declared.form.Limits.{Limits}
use Rattle.js_parser.specs.Symbols.{Symbol, Symbols, is_in_decimal, is_regular, are_regular, symbols, word, mark, name, end, first}
use Rattle.js_parser.specs.Names.{is_binding}
use Rattle.js_parser.specs.Contexts.{Context}
use Rattle.js_parser.specs.Contexts as context
use Rattle.js_tree.specs.Depth.{depth, nesting}
use Rattle.js_parser.specs.Accepted.{Derives}
use Rattle.js_parser.specs.Grammar.{Statement, StatementList, CaseClauses, SourceElement, SourceElements, code}
use Rattle.js_parser.specs.Grammar as g
use Rattle.js_parser.specs.Rooms.{Room, of_limits, in_function, fits, fits_function}
use Rattle.js_parser.specs.Machine.{State, done, rest, statement, list, source, clauses, To, expect, is_colon, is_end, list_by, declared, declared_by, source_by, clauses_by, finished, finished_by, script, Goes, here, then_on, run}
use Rattle.js_parser.proofs.ReadTrees.{IsDone, on, padded, never, guarded, fitted, regular-rest, known, Parts, unread, ahead, behind, met, front, front-join, both-in, nothing-in, function-in, Read, ReadList, ReadSource, ReadClauses, Sound}
use Rattle.js_parser.proofs.ReadKinds.{told-colon, told-end}
use Rattle.js_parser.proofs.ReadExpressionTrees.{read-commas, read-comma-tails, read-assigns, read-choices, read-climbs, read-tails, read-unaries, read-postfixes}
use Rattle.js_parser.proofs.ReadOperandTrees.{read-operands, read-linkings}
use Rattle.js_parser.proofs.ReadListTrees.{read-argumented, read-argument-lists, read-element-lists, read-pair-lists, read-rests, read-formal-lists, read-formal-ones, read-declared-ones, read-declared-lists, read-options}
use Rattle.js_parser.proofs.ReadStatementTrees.{read-statements}

-- ---- lists of statements

-- what follows is the first token of what is read next, or follows that
follows : {ts left : Symbols} (u : Symbols) → Parts ts u left → front ts ≡ first u (front left)
follows {left = left} u p = ap front p.are ∙ front-join u left

pub read-lists : {form : Form} {tree : Stmts} {n : ℕ} → Sound form tree n → (room : Room) (c : Context) (next : To Stmts) (ts : Symbols) → are_regular ts ≡ true → IsDone form tree (suc n) (list room c next ts)
    → Read form tree (suc n) (ReadList form room c) next ts
read-lists S room c next [] r h = record { used = []; left = []; value = Tree.NoStmts; whole = unread; regular = r; holds = record { is = g.no_statement; fit = nothing-in room }; goes = padded (on h) }
read-lists {form = form} {tree = tree} {n = n} S room c next (s ∷ ts) r h = at s.kind (on h)
  where
    none : IsDone form tree n (next Tree.NoStmts (s ∷ ts)) → Read form tree (suc n) (ReadList form room c) next (s ∷ ts)
    none h = record { used = []; left = s ∷ ts; value = Tree.NoStmts; whole = unread; regular = r; holds = record { is = g.no_statement; fit = nothing-in room }; goes = padded h }

    some : IsDone form tree n (statement room c (λ x r. list room c (λ xs o. next (Tree.MoreStmts x xs) o) r) (s ∷ ts)) → Read form tree (suc n) (ReadList form room c) next (s ∷ ts)
    some h =
        let x = S.statements room c (λ x r. list room c (λ xs o. next (Tree.MoreStmts x xs) o) r) (s ∷ ts) r h in
        let xs = S.lists room c (λ xs o. next (Tree.MoreStmts x.value xs) o) x.left x.regular x.goes in
        record {
          used = x.used ++ xs.used;
          left = xs.left;
          value = Tree.MoreStmts x.value xs.value;
          whole = behind x.whole xs.whole;
          regular = xs.regular;
          holds = record { is = g.statement_and (subst (λ t. Statement form c x.used t x.value) (follows xs.used xs.whole) x.holds.is) xs.holds.is; fit = both-in x.holds.fit xs.holds.fit };
          goes = padded xs.goes;
        }

    at : (kind : TokenKind) → IsDone form tree n (list_by room c kind next s ts) → Read form tree (suc n) (ReadList form room c) next (s ∷ ts)
    at (k.Mark m.CloseBrace) h = none h
    at k.End h = none h
    at (k.Word w.Case) h = none h
    at (k.Word w.Default) h = none h
    at _ h = some h

declared-read : {form : Form} {tree : Stmts} {n : ℕ} → Sound form tree n → (room : Room) (c : Context) (next : To Stmts) (s : Symbol) (ts : Symbols) → are_regular (s ∷ ts) ≡ true → s.kind ≡ k.Word w.Function → fits_function room ≡ true
    → IsDone form tree n (declared form room c next ts) → Read form tree (suc n) (ReadSource form room c) next (s ∷ ts)
declared-read S room c next s [] r e f h = absurd (never h)
declared-read {form = form} {tree = tree} {n = n} S room c next s (t ∷ ts) r e f h = at t.kind refl h
  where
    at : (kind : TokenKind) → t.kind ≡ kind → IsDone form tree n (declared_by form room c kind next t ts) → Read form tree (suc n) (ReadSource form room c) next (s ∷ (t ∷ ts))
    at (k.Name o) is h =
        let r2 = regular-rest s (t ∷ ts) r in
        let a = guarded (is_binding form o) (t ∷ ts) (rest (in_function room) (λ ns body r. source room c (λ xs o2. next (Tree.MoreStmts (Tree.Declare (code (Some o) ns body)) xs) o2) r) ts) h in
        let x = S.rests (in_function room) (λ a r. source room c (λ xs o2. next (Tree.MoreStmts (Tree.Declare (code (Some o) a.0 a.1)) xs) o2) r) ts (regular-rest t ts r2) a.1 in
        let xs = S.sources room c (λ xs o2. next (Tree.MoreStmts (Tree.Declare (code (Some o) x.value.0 x.value.1)) xs) o2) x.left x.regular x.goes in
        record {
          used = word w.Function s.newline ∷ (name o t.newline ∷ (x.used ++ xs.used));
          left = xs.left;
          value = Tree.MoreStmts (Tree.Declare (code (Some o) x.value.0 x.value.1)) xs.value;
          whole = ahead (known s (t ∷ ts) (k.Word w.Function) refl e r) (ahead (known t ts (k.Name o) refl is r2) (behind x.whole xs.whole));
          regular = xs.regular;
          holds = record { is = g.source_and (g.declaration s.newline t.newline a.0 x.holds.is) xs.holds.is; fit = both-in (function-in f x.holds.fit) xs.holds.fit };
          goes = padded xs.goes;
        }
    at (k.Word _) is h = absurd (never h)
    at (k.Number _) is h = absurd (never h)
    at (k.Str _) is h = absurd (never h)
    at (k.Mark _) is h = absurd (never h)
    at k.End is h = absurd (never h)

pub read-sources : {form : Form} {tree : Stmts} {n : ℕ} → Sound form tree n → (room : Room) (c : Context) (next : To Stmts) (ts : Symbols) → are_regular ts ≡ true → IsDone form tree (suc n) (source room c next ts)
    → Read form tree (suc n) (ReadSource form room c) next ts
read-sources S room c next [] r h = record { used = []; left = []; value = Tree.NoStmts; whole = unread; regular = r; holds = record { is = g.no_source; fit = nothing-in room }; goes = padded (on h) }
read-sources {form = form} {tree = tree} {n = n} S room c next (s ∷ ts) r h = at s.kind refl (on h)
  where
    none : IsDone form tree n (next Tree.NoStmts (s ∷ ts)) → Read form tree (suc n) (ReadSource form room c) next (s ∷ ts)
    none h = record { used = []; left = s ∷ ts; value = Tree.NoStmts; whole = unread; regular = r; holds = record { is = g.no_source; fit = nothing-in room }; goes = padded h }

    some : IsDone form tree n (statement room c (λ x r. source room c (λ xs o. next (Tree.MoreStmts x xs) o) r) (s ∷ ts)) → Read form tree (suc n) (ReadSource form room c) next (s ∷ ts)
    some h =
        let x = S.statements room c (λ x r. source room c (λ xs o. next (Tree.MoreStmts x xs) o) r) (s ∷ ts) r h in
        let xs = S.sources room c (λ xs o. next (Tree.MoreStmts x.value xs) o) x.left x.regular x.goes in
        record {
          used = x.used ++ xs.used;
          left = xs.left;
          value = Tree.MoreStmts x.value xs.value;
          whole = behind x.whole xs.whole;
          regular = xs.regular;
          holds = record { is = g.source_and (g.statement (subst (λ t. Statement form c x.used t x.value) (follows xs.used xs.whole) x.holds.is)) xs.holds.is; fit = both-in x.holds.fit xs.holds.fit };
          goes = padded xs.goes;
        }

    at : (kind : TokenKind) → s.kind ≡ kind → IsDone form tree n (source_by form room c kind next s ts) → Read form tree (suc n) (ReadSource form room c) next (s ∷ ts)
    at (k.Mark m.CloseBrace) e h = none h
    at k.End e h = none h
    at (k.Word w.Function) e h = let f = fitted (fits_function room) ts (declared form room c next ts) h in declared-read S room c next s ts r e f.0 f.1
    at _ e h = some h

-- ---- clauses of a `switch`

case-read : {form : Form} {tree : Stmts} {n : ℕ} → Sound form tree n → (room : Room) (c : Context) (may : Bool) (next : To Cases) (s : Symbol) (ts : Symbols) → are_regular (s ∷ ts) ≡ true → s.kind ≡ k.Word w.Case
    → IsDone form tree n (clauses_by room c may (k.Word w.Case) next s ts) → Read form tree (suc n) (ReadClauses form room c may) next (s ∷ ts)
case-read {form = form} S room c may next s ts r e h =
    let x = S.commas true room (λ x. expect is_colon (list room c (λ ss r. clauses room c may (λ cs o. next (Tree.MoreCases (Tree.AnExpr x) ss cs) o) r))) ts (regular-rest s ts r) h in
    let colon = met is_colon (k.Mark m.Colon) told-colon refl (list room c (λ ss r. clauses room c may (λ cs o. next (Tree.MoreCases (Tree.AnExpr x.value) ss cs) o) r)) x.left x.regular x.goes in
    let ss = S.lists room c (λ ss r. clauses room c may (λ cs o. next (Tree.MoreCases (Tree.AnExpr x.value) ss cs) o) r) colon.others colon.regular colon.goes in
    let cs = S.clause_lists room c may (λ cs o. next (Tree.MoreCases (Tree.AnExpr x.value) ss.value cs) o) ss.left ss.regular ss.goes in
    record {
      used = word w.Case s.newline ∷ (x.used ++ (mark m.Colon colon.newline ∷ (ss.used ++ cs.used)));
      left = cs.left;
      value = Tree.MoreCases (Tree.AnExpr x.value) ss.value cs.value;
      whole = ahead (known s ts (k.Word w.Case) refl e r) (behind x.whole (ahead colon.is (behind ss.whole cs.whole)));
      regular = cs.regular;
      holds = record {
        is = g.case_and s.newline colon.newline x.holds.is (subst (λ t. StatementList form c ss.used t ss.value) (follows cs.used cs.whole) ss.holds.is) cs.holds.is;
        fit = both-in x.holds.fit (both-in ss.holds.fit cs.holds.fit);
      };
      goes = padded cs.goes;
    }

default-read : {form : Form} {tree : Stmts} {n : ℕ} → Sound form tree n → (room : Room) (c : Context) (next : To Cases) (s : Symbol) (ts : Symbols) → are_regular (s ∷ ts) ≡ true → s.kind ≡ k.Word w.Default
    → IsDone form tree n (clauses_by room c true (k.Word w.Default) next s ts) → Read form tree (suc n) (ReadClauses form room c true) next (s ∷ ts)
default-read {form = form} S room c next s ts r e h =
    let colon = met is_colon (k.Mark m.Colon) told-colon refl (list room c (λ ss r. clauses room c false (λ cs o. next (Tree.MoreCases Tree.NoExpr ss cs) o) r)) ts (regular-rest s ts r) h in
    let ss = S.lists room c (λ ss r. clauses room c false (λ cs o. next (Tree.MoreCases Tree.NoExpr ss cs) o) r) colon.others colon.regular colon.goes in
    let cs = S.clause_lists room c false (λ cs o. next (Tree.MoreCases Tree.NoExpr ss.value cs) o) ss.left ss.regular ss.goes in
    record {
      used = word w.Default s.newline ∷ (mark m.Colon colon.newline ∷ (ss.used ++ cs.used));
      left = cs.left;
      value = Tree.MoreCases Tree.NoExpr ss.value cs.value;
      whole = ahead (known s ts (k.Word w.Default) refl e r) (ahead colon.is (behind ss.whole cs.whole));
      regular = cs.regular;
      holds = record {
        is = g.default_and s.newline colon.newline (subst (λ t. StatementList form c ss.used t ss.value) (follows cs.used cs.whole) ss.holds.is) cs.holds.is;
        fit = both-in (nothing-in room) (both-in ss.holds.fit cs.holds.fit);
      };
      goes = padded cs.goes;
    }

pub read-clause-lists : {form : Form} {tree : Stmts} {n : ℕ} → Sound form tree n → (room : Room) (c : Context) (may : Bool) (next : To Cases) (ts : Symbols) → are_regular ts ≡ true → IsDone form tree (suc n) (clauses room c may next ts)
    → Read form tree (suc n) (ReadClauses form room c may) next ts
read-clause-lists S room c may next [] r h = record { used = []; left = []; value = Tree.NoCases; whole = unread; regular = r; holds = record { is = g.no_clause; fit = nothing-in room }; goes = padded (on h) }
read-clause-lists {form = form} {tree = tree} {n = n} S room c may next (s ∷ ts) r h = at may s.kind refl (on h)
  where
    none : (may : Bool) → IsDone form tree n (next Tree.NoCases (s ∷ ts)) → Read form tree (suc n) (ReadClauses form room c may) next (s ∷ ts)
    none may h = record { used = []; left = s ∷ ts; value = Tree.NoCases; whole = unread; regular = r; holds = record { is = g.no_clause; fit = nothing-in room }; goes = padded h }

    at : (may : Bool) (kind : TokenKind) → s.kind ≡ kind → IsDone form tree n (clauses_by room c may kind next s ts) → Read form tree (suc n) (ReadClauses form room c may) next (s ∷ ts)
    at may (k.Word w.Case) e h = case-read S room c may next s ts r e h
    at true (k.Word w.Default) e h = default-read S room c next s ts r e h
    at false (k.Word w.Default) e h = absurd (never h)
    at may _ e h = none may h

-- ---- every state

pub sound : (form : Form) (tree : Stmts) (n : ℕ) → Sound form tree n
sound form tree zero = record {
  commas = λ i room next ts r h. absurd (let e = h.goes in cc);
  comma_tails = λ i room x next ts whole u p r d h. absurd (let e = h.goes in cc);
  assigns = λ i room next ts r h. absurd (let e = h.goes in cc);
  choices = λ i room x next ts whole u p r d h. absurd (let e = h.goes in cc);
  climbs = λ i room least next ts a b r h. absurd (let e = h.goes in cc);
  tails = λ i room least l x next ts whole u a b c p r d h. absurd (let e = h.goes in cc);
  unaries = λ i room next ts r h. absurd (let e = h.goes in cc);
  postfixes = λ i room x next ts whole u p r d h. absurd (let e = h.goes in cc);
  operands = λ i c room next ts r h. absurd (let e = h.goes in cc);
  linkings = λ i c room x next ts whole u p r d f h. absurd (let e = h.goes in cc);
  argumented = λ room next ts r h. absurd (let e = h.goes in cc);
  argument_lists = λ room next ts r h. absurd (let e = h.goes in cc);
  element_lists = λ room next ts r h. absurd (let e = h.goes in cc);
  pair_lists = λ room next ts r h. absurd (let e = h.goes in cc);
  rests = λ room next ts r h. absurd (let e = h.goes in cc);
  formal_lists = λ before next ts a r h. absurd (let e = h.goes in cc);
  formal_ones = λ before next ts r h. absurd (let e = h.goes in cc);
  declared_ones = λ i room next ts r h. absurd (let e = h.goes in cc);
  declared_lists = λ i room next ts r h. absurd (let e = h.goes in cc);
  options = λ room next ts r h. absurd (let e = h.goes in cc);
  statements = λ room c next ts r h. absurd (let e = h.goes in cc);
  lists = λ room c next ts r h. absurd (let e = h.goes in cc);
  sources = λ room c next ts r h. absurd (let e = h.goes in cc);
  clause_lists = λ room c may next ts r h. absurd (let e = h.goes in cc);
}
sound form tree (suc n) = let S = sound form tree n in
    record {
      commas = read-commas S;
      comma_tails = read-comma-tails S;
      assigns = read-assigns S;
      choices = read-choices S;
      climbs = read-climbs S;
      tails = read-tails S;
      unaries = read-unaries S;
      postfixes = read-postfixes S;
      operands = read-operands S;
      linkings = read-linkings S;
      argumented = read-argumented S;
      argument_lists = read-argument-lists S;
      element_lists = read-element-lists S;
      pair_lists = read-pair-lists S;
      rests = read-rests S;
      formal_lists = read-formal-lists S;
      formal_ones = read-formal-ones S;
      declared_ones = read-declared-ones S;
      declared_lists = read-declared-lists S;
      options = read-options S;
      statements = read-statements S;
      lists = read-lists S;
      sources = read-sources S;
      clause_lists = read-clause-lists S;
    }

-- ---- scripts

-- a run that comes to its end comes there in some number of steps
counted : {form : Form} {tree : Stmts} {s t : State} → Goes form s t → t ≡ done tree → (n : ℕ) × IsDone form tree n s
counted here e = (0, record { goes = e })
counted (then_on d) e = let a = counted d e in (suc a.0, record { goes = (a.1).goes })

stays-done : {tree : Stmts} (form : Form) (n : ℕ) (ss : Stmts) → run form n (done ss) ≡ done tree → ss ≡ tree
stays-done form zero ss e = cc
stays-done form (suc n) ss e = stays-done form n ss e

-- the end, and nothing behind it
record Finished (tree : Stmts) (ss : Stmts) (ts : Symbols) : Type 0 where
  newline : Bool
  is : ts ≡ end newline ∷ []
  same : ss ≡ tree

finish : {form : Form} {tree : Stmts} {n : ℕ} (ss : Stmts) (ts : Symbols) → are_regular ts ≡ true → IsDone form tree n (finished ss ts) → Finished tree ss ts
finish ss [] r h = absurd (never h)
finish {form = form} {tree = tree} {n = n} ss (s ∷ ts) r h = let a = guarded (is_end s.kind) (s ∷ ts) (finished_by ss ts) h in at ts r a.0 a.1
  where
    at : (ts : Symbols) → are_regular (s ∷ ts) ≡ true → is_end s.kind ≡ true → IsDone form tree n (finished_by ss ts) → Finished tree ss (s ∷ ts)
    at [] r e h = record { newline = s.newline; is = known s [] k.End refl (told-end s.kind e) r; same = stays-done form n ss h.goes }
    at (t ∷ ts) r e h = absurd (never h)

pub script-read : (form : Form) (room : Room) (tokens : Symbols) (tree : Script) → are_regular tokens ≡ true → Goes form (script room tokens) (done tree) → Derives form tokens tree × (fits room.depth (depth tree) ≡ true) × (fits room.nesting (nesting tree) ≡ true)
script-read form room tokens tree r h =
    let a = counted {tree = tree} h refl in
    let x = (sound form tree a.0).sources room context.script finished tokens r a.1 in
    let f = finish x.value x.left x.regular x.goes in
    let fit = subst (λ ss. ReadSource form room context.script x.used x.left ss) f.same x.holds in (
      record {
        elements = x.used;
        newline = f.newline;
        whole = (x.whole).are ∙ ap (λ o. x.used ++ o) f.is;
        derived = subst (λ s. SourceElements form context.script x.used s tree) (ap front f.is) fit.is;
      },
      (fit.fit).deep,
      (fit.fit).nested,
    )

-- ---- tokens

token-regular : (kind : TokenKind) (characters : ℕ) → is_regular kind (is_in_decimal kind characters) ≡ true
token-regular (k.Number o) characters = refl
token-regular (k.Word _) characters = refl
token-regular (k.Name _) characters = refl
token-regular (k.Str _) characters = refl
token-regular (k.Mark _) characters = refl
token-regular k.End characters = refl

both : (a c : Bool) → a ≡ true → c ≡ true → (a && c) ≡ true
both true c h i = i
both false c h i = cc

-- the symbols of tokens are regular
pub tokens-regular : (ts : List Token) → are_regular (symbols ts) ≡ true
tokens-regular [] = refl
tokens-regular (t ∷ ts) = both (is_regular t.kind (is_in_decimal t.kind (t.end - t.start))) (are_regular (symbols ts)) (token-regular t.kind (t.end - t.start)) (tokens-regular ts)

-- what is read of the tokens of a text within limits
pub read-is-script : (form : Form) (limits : Limits) (tokens : List Token) (tree : Script) → Goes form (script (of_limits limits) (symbols tokens)) (done tree)
    → Derives form (symbols tokens) tree × (depth tree ≤ limits.depth) × (nesting tree ≤ limits.nesting)
read-is-script form limits tokens tree h = let a = script-read form (of_limits limits) (symbols tokens) tree (tokens-regular tokens) h in
    (a.0, leb-true (depth tree) limits.depth a.1, leb-true (nesting tree) limits.nesting a.2)

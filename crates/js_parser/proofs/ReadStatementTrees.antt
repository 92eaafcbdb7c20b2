-- What the machine reads has a tree by the grammar: statements.
use Rattle.std.proofs.Common.{◌≡◌, ℕ, suc, not, Bool, true, false, ◌||◌, [], ◌∷◌, ◌++◌, Option, refl, ap, ◌∙◌, subst}
use Rattle.std.proofs.lemmas.Bool.{not-true}
use Rattle.js_lexer.specs.declared.mark.Mark.TheVariants as m
use Rattle.js_lexer.specs.declared.word.Word.TheVariants as w
use Rattle.js_lexer.specs.declared.token.TokenKind.{TokenKind}
use Rattle.js_lexer.specs.declared.token.TokenKind.TheVariants as k
use Rattle.js_tree.specs.Tree.{Name, Expr, Stmt, Stmts, Handler}
use Rattle.js_tree.specs.Tree
use Rattle.js_parser.specs.declared.form.Form.{Form}
use Rattle.js_parser.specs.Symbols.{Symbol, Symbols, are_regular, word, mark, name}
use Rattle.js_parser.specs.Names.{is_reference, is_binding, is_among}
use Rattle.js_parser.specs.Contexts.{Context}
use Rattle.js_parser.specs.Contexts as context
use Rattle.js_parser.specs.Ends.{reach, list_reach}
use Rattle.js_parser.specs.Ends as e
use Rattle.js_parser.specs.Grammar.{Block, Statement, CaseClauses}
use Rattle.js_parser.specs.Grammar as g
use Rattle.js_parser.specs.Rooms.{Room, inside, fits_node}
use Rattle.js_parser.specs.Machine.{comma, declarators, statement, clauses, To, fitting, expect, is_open_parenthesis, is_close_parenthesis, is_open_brace, is_close_brace, ended, stated, block, are_some, jump, return_by, returned, thrown, finally_by, after_catch, catch_by, catch_name, try_by, after_try, labelled, label_by, label, statement_by}
use Rattle.js_parser.proofs.Levels.{expression-tokens}
use Rattle.js_parser.proofs.ReadTrees.{IsDone, on, never, guarded, fitted, regular-rest, known, Parts, unread, ahead, behind, one-read, met, front, both-in, nothing-in, node-in, leaf-in, Read, later, ReadStatement, Sound}
use Rattle.js_parser.proofs.ReadKinds.{told-open, told-close, told-brace, told-closed}
use Rattle.js_parser.proofs.ReadExpressionTrees.{become}
use Rattle.js_parser.proofs.ReadEndTrees.{end-read, first-is, none-on-line, on-the-line, opens_other, stated-read, ReadBlock, braces-read, block-read, Jumped, at_once, to_label, jump-read}
use Rattle.js_parser.proofs.ReadLoopTrees.{test-read, if-read, do-read, while-read, for-read}

-- ---- `var`, `continue`, `break`, `return`, `throw`

variables-read : {form : Form} {tree : Stmts} {n : ℕ} → Sound form tree n → (room : Room) (c : Context) (next : To Stmt) (s : Symbol) (ts : Symbols) → are_regular (s ∷ ts) ≡ true → s.kind ≡ k.Word w.Var
    → IsDone form tree n (statement_by form room c (k.Word w.Var) next s ts) → Read form tree n (ReadStatement form room c) next (s ∷ ts)
variables-read S room c next s ts r e h =
    let f = fitted (fits_node room) ts (declarators (inside room) true (λ items r. ended (next (Tree.Variables items)) r) ts) h in
    let a = S.declared_lists true (inside room) (λ items r. ended (next (Tree.Variables items)) r) ts (regular-rest s ts r) f.1 in
    let o = end-read (λ t. list_reach a.used t a.value) (next (Tree.Variables a.value)) a.left a.regular (λ newline. a.holds.stops refl newline) a.goes in
    record {
      used = word w.Var s.newline ∷ (a.used ++ o.used);
      left = o.left;
      value = Tree.Variables a.value;
      whole = ahead (known s ts (k.Word w.Var) refl e r) (behind a.whole o.whole);
      regular = o.regular;
      holds = record { is = g.variables s.newline a.holds.is o.ends; fit = node-in f.0 a.holds.fit };
      goes = o.goes;
    }

continued : {form : Form} {room : Room} {c : Context} {left u : Symbols} {label : Option Name} (b : Bool) → fits_node room ≡ true → Jumped form c.in_loop c.loops left u label → ReadStatement form room c (word w.Continue b ∷ u) left (Tree.Continue label)
continued {room = room} b f (at_once may ends) = record { is = g.continue b may ends; fit = leaf-in room f }
continued {room = room} b f (to_label o reference among ends) = record { is = g.continue_to b reference among ends; fit = leaf-in room f }

broken : {form : Form} {room : Room} {c : Context} {left u : Symbols} {label : Option Name} (b : Bool) → fits_node room ≡ true → Jumped form (context.may_break c) c.labels left u label → ReadStatement form room c (word w.Break b ∷ u) left (Tree.Break label)
broken {room = room} b f (at_once may ends) = record { is = g.break b may ends; fit = leaf-in room f }
broken {room = room} b f (to_label o reference among ends) = record { is = g.break_from b reference among ends; fit = leaf-in room f }

continue-read : {form : Form} {tree : Stmts} {n : ℕ} → Sound form tree n → (room : Room) (c : Context) (next : To Stmt) (s : Symbol) (ts : Symbols) → are_regular (s ∷ ts) ≡ true → s.kind ≡ k.Word w.Continue
    → IsDone form tree n (statement_by form room c (k.Word w.Continue) next s ts) → Read form tree n (ReadStatement form room c) next (s ∷ ts)
continue-read {form = form} S room c next s ts r e h =
    let a = guarded (c.in_loop || are_some c.loops) (s ∷ ts) (fitting (fits_node room) ts (jump form c.in_loop c.loops Tree.Continue next ts)) h in
    let f = fitted (fits_node room) ts (jump form c.in_loop c.loops Tree.Continue next ts) a.1 in
    let j = jump-read c.in_loop c.loops Tree.Continue next ts (regular-rest s ts r) f.1 in
    record {
      used = word w.Continue s.newline ∷ j.used;
      left = j.left;
      value = Tree.Continue j.value;
      whole = ahead (known s ts (k.Word w.Continue) refl e r) j.whole;
      regular = j.regular;
      holds = continued {room = room} {c = c} s.newline f.0 j.holds;
      goes = j.goes;
    }

break-read : {form : Form} {tree : Stmts} {n : ℕ} → Sound form tree n → (room : Room) (c : Context) (next : To Stmt) (s : Symbol) (ts : Symbols) → are_regular (s ∷ ts) ≡ true → s.kind ≡ k.Word w.Break
    → IsDone form tree n (statement_by form room c (k.Word w.Break) next s ts) → Read form tree n (ReadStatement form room c) next (s ∷ ts)
break-read {form = form} S room c next s ts r e h =
    let a = guarded (context.may_break c || are_some c.labels) (s ∷ ts) (fitting (fits_node room) ts (jump form (context.may_break c) c.labels Tree.Break next ts)) h in
    let f = fitted (fits_node room) ts (jump form (context.may_break c) c.labels Tree.Break next ts) a.1 in
    let j = jump-read (context.may_break c) c.labels Tree.Break next ts (regular-rest s ts r) f.1 in
    record {
      used = word w.Break s.newline ∷ j.used;
      left = j.left;
      value = Tree.Break j.value;
      whole = ahead (known s ts (k.Word w.Break) refl e r) j.whole;
      regular = j.regular;
      holds = broken {room = room} {c = c} s.newline f.0 j.holds;
      goes = j.goes;
    }

return-behind : {form : Form} {tree : Stmts} {n : ℕ} → Sound form tree n → (room : Room) (c : Context) (next : To Stmt) (ts whole : Symbols) (b : Bool) → Parts whole (word w.Return b ∷ []) ts → are_regular ts ≡ true → fits_node room ≡ true → c.in_function ≡ true
    → IsDone form tree n (returned room next ts) → Read form tree n (ReadStatement form room c) next whole
return-behind S room c next [] whole b parts r f in_one h =
    record { used = word w.Return b ∷ []; left = []; value = Tree.Return Tree.NoExpr; whole = parts; regular = r; holds = record { is = g.return b in_one (e.before_end refl); fit = leaf-in room f }; goes = h }
return-behind {form = form} {tree = tree} {n = n} S room c next (s ∷ ts) whole b parts r f in_one h = at s.newline s.kind refl refl h
  where
    nothing : e.EndsAtOnce s [] → IsDone form tree n (next (Tree.Return Tree.NoExpr) (s ∷ ts)) → Read form tree n (ReadStatement form room c) next whole
    nothing ends h = record { used = word w.Return b ∷ []; left = s ∷ ts; value = Tree.Return Tree.NoExpr; whole = parts; regular = r; holds = record { is = g.return b in_one ends; fit = leaf-in room f }; goes = h }

    some : s.newline ≡ false → IsDone form tree n (comma (inside room) true (λ x r. ended (next (Tree.Return (Tree.AnExpr x))) r) (s ∷ ts)) → Read form tree n (ReadStatement form room c) next whole
    some newline h =
        let x = S.commas true (inside room) (λ x r. ended (next (Tree.Return (Tree.AnExpr x))) r) (s ∷ ts) r h in
        let o = end-read (λ t. reach x.used t) (next (Tree.Return (Tree.AnExpr x.value))) x.left x.regular (none-on-line x.used (front x.left) x.holds.stops) x.goes in
        let begins = first-is x.used (front o.left) (expression-tokens x.holds.is) x.whole in
        record {
          used = word w.Return b ∷ (x.used ++ o.used);
          left = o.left;
          value = Tree.Return (Tree.AnExpr x.value);
          whole = behind parts (behind x.whole o.whole);
          regular = o.regular;
          holds = record { is = g.return_value b in_one x.holds.is (ap (λ t. t.newline) begins ∙ newline) o.ends; fit = node-in f x.holds.fit };
          goes = o.goes;
        }

    at : (newline : Bool) (kind : TokenKind) → s.newline ≡ newline → s.kind ≡ kind → IsDone form tree n (return_by room newline kind next s ts) → Read form tree n (ReadStatement form room c) next whole
    at true kind a d h = nothing (e.before_line a) h
    at false (k.Mark m.Semicolon) a d h = record {
      used = word w.Return b ∷ (mark m.Semicolon false ∷ []);
      left = ts;
      value = Tree.Return Tree.NoExpr;
      whole = behind parts (one-read (on-the-line (known s ts (k.Mark m.Semicolon) refl d r) a));
      regular = regular-rest s ts r;
      holds = record { is = g.return b in_one e.semicolon; fit = leaf-in room f };
      goes = h;
    }
    at false (k.Mark m.CloseBrace) a d h = nothing (e.before_brace d) h
    at false k.End a d h = nothing (e.before_end d) h
    at false _ a d h = some a h

return-read : {form : Form} {tree : Stmts} {n : ℕ} → Sound form tree n → (room : Room) (c : Context) (next : To Stmt) (s : Symbol) (ts : Symbols) → are_regular (s ∷ ts) ≡ true → s.kind ≡ k.Word w.Return
    → IsDone form tree n (statement_by form room c (k.Word w.Return) next s ts) → Read form tree n (ReadStatement form room c) next (s ∷ ts)
return-read S room c next s ts r e h =
    let a = guarded c.in_function (s ∷ ts) (fitting (fits_node room) ts (returned room next ts)) h in
    let f = fitted (fits_node room) ts (returned room next ts) a.1 in
    return-behind S room c next ts (s ∷ ts) s.newline (one-read (known s ts (k.Word w.Return) refl e r)) (regular-rest s ts r) f.0 a.0 f.1

throw-behind : {form : Form} {tree : Stmts} {n : ℕ} → Sound form tree n → (room : Room) (c : Context) (next : To Stmt) (ts whole : Symbols) (b : Bool) → Parts whole (word w.Throw b ∷ []) ts → are_regular ts ≡ true → fits_node room ≡ true
    → IsDone form tree n (thrown room next ts) → Read form tree n (ReadStatement form room c) next whole
throw-behind S room c next [] whole b parts r f h = absurd (never h)
throw-behind S room c next (s ∷ ts) whole b parts r f h =
    let a = guarded (not s.newline) (s ∷ ts) (comma (inside room) true (λ x r. ended (next (Tree.Throw x)) r) (s ∷ ts)) h in
    let x = S.commas true (inside room) (λ x r. ended (next (Tree.Throw x)) r) (s ∷ ts) r a.1 in
    let o = end-read (λ t. reach x.used t) (next (Tree.Throw x.value)) x.left x.regular (none-on-line x.used (front x.left) x.holds.stops) x.goes in
    let begins = first-is x.used (front o.left) (expression-tokens x.holds.is) x.whole in
    record {
      used = word w.Throw b ∷ (x.used ++ o.used);
      left = o.left;
      value = Tree.Throw x.value;
      whole = behind parts (behind x.whole o.whole);
      regular = o.regular;
      holds = record { is = g.throw b x.holds.is (ap (λ t. t.newline) begins ∙ not-true s.newline a.0) o.ends; fit = node-in f x.holds.fit };
      goes = o.goes;
    }

throw-read : {form : Form} {tree : Stmts} {n : ℕ} → Sound form tree n → (room : Room) (c : Context) (next : To Stmt) (s : Symbol) (ts : Symbols) → are_regular (s ∷ ts) ≡ true → s.kind ≡ k.Word w.Throw
    → IsDone form tree n (statement_by form room c (k.Word w.Throw) next s ts) → Read form tree n (ReadStatement form room c) next (s ∷ ts)
throw-read S room c next s ts r e h = let f = fitted (fits_node room) ts (thrown room next ts) h in
    throw-behind S room c next ts (s ∷ ts) s.newline (one-read (known s ts (k.Word w.Throw) refl e r)) (regular-rest s ts r) f.0 f.1

-- ---- `switch`

switch-read : {form : Form} {tree : Stmts} {n : ℕ} → Sound form tree n → (room : Room) (c : Context) (next : To Stmt) (s : Symbol) (ts : Symbols) → are_regular (s ∷ ts) ≡ true → s.kind ≡ k.Word w.Switch
    → IsDone form tree n (statement_by form room c (k.Word w.Switch) next s ts) → Read form tree n (ReadStatement form room c) next (s ∷ ts)
switch-read {form = form} S room c next s ts r e h =
    let f = fitted (fits_node room) ts (expect is_open_parenthesis (comma (inside room) true (λ x. expect is_close_parenthesis (expect is_open_brace (clauses (inside room) (context.clause c) true (λ cs. expect is_close_brace (next (Tree.Switch x cs))))))) ts) h in
    let x = test-read S (inside room) (λ x. expect is_open_brace (clauses (inside room) (context.clause c) true (λ cs. expect is_close_brace (next (Tree.Switch x cs))))) ts (regular-rest s ts r) f.1 in
    let open1 = met is_open_brace (k.Mark m.OpenBrace) told-brace refl (clauses (inside room) (context.clause c) true (λ cs. expect is_close_brace (next (Tree.Switch x.value cs)))) x.left x.regular x.goes in
    let cs = S.clause_lists (inside room) (context.clause c) true (λ cs. expect is_close_brace (next (Tree.Switch x.value cs))) open1.others open1.regular open1.goes in
    let close = met is_close_brace (k.Mark m.CloseBrace) told-closed refl (next (Tree.Switch x.value cs.value)) cs.left cs.regular cs.goes in
    record {
      used = word w.Switch s.newline ∷ (mark m.OpenParenthesis x.opening ∷ (x.used ++ (mark m.CloseParenthesis x.closing ∷ (mark m.OpenBrace open1.newline ∷ (cs.used ++ (mark m.CloseBrace close.newline ∷ []))))));
      left = close.others;
      value = Tree.Switch x.value cs.value;
      whole = ahead (known s ts (k.Word w.Switch) refl e r) (x.glue (ahead open1.is (behind cs.whole (one-read close.is))));
      regular = close.regular;
      holds = record {
        is = g.switch s.newline x.opening x.closing open1.newline close.newline x.is (subst (λ t. CaseClauses form (context.clause c) true cs.used t cs.value) (ap front close.is) cs.holds.is);
        fit = node-in f.0 (both-in x.fit cs.holds.fit);
      };
      goes = close.goes;
    }

-- ---- `try`

data FinallyCase (kind : TokenKind) : Type 0 where
  finally_next : kind ≡ k.Word w.Finally → FinallyCase kind
  no_finally : ((room : Room) (c : Context) (tried : Stmt) (handler : Handler) (next : To Stmt) (s : Symbol) (ts : Symbols) → finally_by room c kind tried handler next s ts ≡ next (Tree.Try tried handler Tree.NoStmt) (s ∷ ts)) → FinallyCase kind

finally-case : (kind : TokenKind) → FinallyCase kind
finally-case (k.Word w.Finally) = finally_next refl
finally-case _ = no_finally (λ room c tried handler next s ts. refl)

catch-behind : {form : Form} {tree : Stmts} {n : ℕ} → Sound form tree n → (room : Room) (c : Context) (tried handler : Stmt) (o : Name) (next : To Stmt) (ts middle whole u v : Symbols) (b d e f2 g2 : Bool)
    → ((v others : Symbols) → Parts middle v others → Parts whole (word w.Try b ∷ (u ++ (word w.Catch d ∷ (mark m.OpenParenthesis e ∷ (name o f2 ∷ (mark m.CloseParenthesis g2 ∷ v)))))) others) → Parts middle v ts → are_regular ts ≡ true → fits_node room ≡ true
    → ReadBlock form (inside room) (context.part c) u [] tried → is_binding form o ≡ true → ReadBlock form (inside room) (context.part c) v [] handler
    → IsDone form tree n (after_catch room (context.part c) tried (Tree.ACatch o handler) next ts) → Read form tree n (ReadStatement form room c) next whole
catch-behind {form = form} {tree = tree} {n = n} S room c tried handler o next ts middle whole u v b d e f2 g2 glue parts r f first_block bound second h = go ts parts r h
  where
    short : (ts : Symbols) → Parts middle v ts → are_regular ts ≡ true → IsDone form tree n (next (Tree.Try tried (Tree.ACatch o handler) Tree.NoStmt) ts) → Read form tree n (ReadStatement form room c) next whole
    short ts parts r h = record {
      used = word w.Try b ∷ (u ++ (word w.Catch d ∷ (mark m.OpenParenthesis e ∷ (name o f2 ∷ (mark m.CloseParenthesis g2 ∷ v)))));
      left = ts;
      value = Tree.Try tried (Tree.ACatch o handler) Tree.NoStmt;
      whole = glue _ _ parts;
      regular = r;
      holds = record { is = g.try_catch b d e f2 g2 first_block.is bound second.is; fit = node-in f (both-in first_block.fit (both-in second.fit (nothing-in (inside room)))) };
      goes = h;
    }

    at : (t : Symbol) (ts : Symbols) → FinallyCase t.kind → Parts middle v (t ∷ ts) → are_regular (t ∷ ts) ≡ true → IsDone form tree n (finally_by room (context.part c) t.kind tried (Tree.ACatch o handler) next t ts) → Read form tree n (ReadStatement form room c) next whole
    at t ts (no_finally passes) parts r h = short (t ∷ ts) parts r (become (passes room (context.part c) tried (Tree.ACatch o handler) next t ts) h)
    at t ts (finally_next is) parts r h =
        let last = block-read S (inside room) (context.part c) (λ last r. next (Tree.Try tried (Tree.ACatch o handler) (Tree.AStmt last)) r) ts (regular-rest t ts r) (become (ap (λ kind. finally_by room (context.part c) kind tried (Tree.ACatch o handler) next t ts) is) h) in
        record {
          used = word w.Try b ∷ (u ++ (word w.Catch d ∷ (mark m.OpenParenthesis e ∷ (name o f2 ∷ (mark m.CloseParenthesis g2 ∷ (v ++ (word w.Finally t.newline ∷ last.used)))))));
          left = last.left;
          value = Tree.Try tried (Tree.ACatch o handler) (Tree.AStmt last.value);
          whole = glue _ _ (behind parts (ahead (known t ts (k.Word w.Finally) refl is r) last.whole));
          regular = last.regular;
          holds = record { is = g.try_catch_finally b d e f2 g2 t.newline first_block.is bound second.is last.holds.is; fit = node-in f (both-in first_block.fit (both-in second.fit last.holds.fit)) };
          goes = last.goes;
        }

    go : (ts : Symbols) → Parts middle v ts → are_regular ts ≡ true → IsDone form tree n (after_catch room (context.part c) tried (Tree.ACatch o handler) next ts) → Read form tree n (ReadStatement form room c) next whole
    go [] parts r h = short [] parts r h
    go (t ∷ ts) parts r h = at t ts (finally-case t.kind) parts r h

catch-read : {form : Form} {tree : Stmts} {n : ℕ} → Sound form tree n → (room : Room) (c : Context) (tried : Stmt) (next : To Stmt) (ts middle whole u : Symbols) (b d e : Bool)
    → ((v others : Symbols) → Parts middle v others → Parts whole (word w.Try b ∷ (u ++ (word w.Catch d ∷ (mark m.OpenParenthesis e ∷ v)))) others) → Parts middle [] ts → are_regular ts ≡ true → fits_node room ≡ true
    → ReadBlock form (inside room) (context.part c) u [] tried → IsDone form tree n (catch_name form room (context.part c) tried next ts) → Read form tree n (ReadStatement form room c) next whole
catch-read S room c tried next [] middle whole u b d e glue parts r f first_block h = absurd (never h)
catch-read {form = form} {tree = tree} {n = n} S room c tried next (t ∷ ts) middle whole u b d e glue parts r f first_block h = at t.kind refl h
  where
    at : (kind : TokenKind) → t.kind ≡ kind → IsDone form tree n (catch_by form room (context.part c) kind tried next t ts) → Read form tree n (ReadStatement form room c) next whole
    at (k.Name o) is h =
        let a = guarded (is_binding form o) (t ∷ ts) (expect is_close_parenthesis (block (inside room) (context.part c) (λ handler r. after_catch room (context.part c) tried (Tree.ACatch o handler) next r)) ts) h in
        let close = met is_close_parenthesis (k.Mark m.CloseParenthesis) told-close refl (block (inside room) (context.part c) (λ handler r. after_catch room (context.part c) tried (Tree.ACatch o handler) next r)) ts (regular-rest t ts r) a.1 in
        let handler = block-read S (inside room) (context.part c) (λ handler r. after_catch room (context.part c) tried (Tree.ACatch o handler) next r) close.others close.regular close.goes in
        catch-behind S room c tried handler.value o next handler.left close.others whole u handler.used b d e t.newline close.newline
        (λ v others p. glue _ _ (behind parts (ahead (known t ts (k.Name o) refl is r) (ahead close.is p)))) handler.whole handler.regular f first_block a.0 (record { is = handler.holds.is; fit = handler.holds.fit }) handler.goes
    at (k.Word _) is h = absurd (never h)
    at (k.Number _) is h = absurd (never h)
    at (k.Str _) is h = absurd (never h)
    at (k.Mark _) is h = absurd (never h)
    at k.End is h = absurd (never h)

try-behind : {form : Form} {tree : Stmts} {n : ℕ} → Sound form tree n → (room : Room) (c : Context) (tried : Stmt) (next : To Stmt) (ts middle whole u : Symbols) (b : Bool) → ((v others : Symbols) → Parts middle v others → Parts whole (word w.Try b ∷ v) others) → Parts middle u ts
    → are_regular ts ≡ true → fits_node room ≡ true → ReadBlock form (inside room) (context.part c) u [] tried → IsDone form tree n (after_try form room (context.part c) tried next ts) → Read form tree n (ReadStatement form room c) next whole
try-behind S room c tried next [] middle whole u b glue parts r f first_block h = absurd (never h)
try-behind {form = form} {tree = tree} {n = n} S room c tried next (t ∷ ts) middle whole u b glue parts r f first_block h = at t.kind refl h
  where
    at : (kind : TokenKind) → t.kind ≡ kind → IsDone form tree n (try_by form room (context.part c) kind tried next t ts) → Read form tree n (ReadStatement form room c) next whole
    at (k.Word w.Catch) is h =
        let open1 = met is_open_parenthesis (k.Mark m.OpenParenthesis) told-open refl (catch_name form room (context.part c) tried next) ts (regular-rest t ts r) h in
        catch-read S room c tried next open1.others open1.others whole u b t.newline open1.newline (λ v others p. glue _ _ (behind parts (ahead (known t ts (k.Word w.Catch) refl is r) (ahead open1.is p)))) unread open1.regular f first_block open1.goes
    at (k.Word w.Finally) is h =
        let last = block-read S (inside room) (context.part c) (λ last r. next (Tree.Try tried Tree.NoHandler (Tree.AStmt last)) r) ts (regular-rest t ts r) h in
        record {
          used = word w.Try b ∷ (u ++ (word w.Finally t.newline ∷ last.used));
          left = last.left;
          value = Tree.Try tried Tree.NoHandler (Tree.AStmt last.value);
          whole = glue _ _ (behind parts (ahead (known t ts (k.Word w.Finally) refl is r) last.whole));
          regular = last.regular;
          holds = record { is = g.try_finally b t.newline first_block.is last.holds.is; fit = node-in f (both-in first_block.fit (both-in (nothing-in (inside room)) last.holds.fit)) };
          goes = last.goes;
        }
    at _ is h = absurd (never h)

try-read : {form : Form} {tree : Stmts} {n : ℕ} → Sound form tree n → (room : Room) (c : Context) (next : To Stmt) (s : Symbol) (ts : Symbols) → are_regular (s ∷ ts) ≡ true → s.kind ≡ k.Word w.Try
    → IsDone form tree n (statement_by form room c (k.Word w.Try) next s ts) → Read form tree n (ReadStatement form room c) next (s ∷ ts)
try-read {form = form} S room c next s ts r e h =
    let f = fitted (fits_node room) ts (block (inside room) (context.part c) (λ tried r. after_try form room (context.part c) tried next r) ts) h in
    let tried = block-read S (inside room) (context.part c) (λ tried r. after_try form room (context.part c) tried next r) ts (regular-rest s ts r) f.1 in
    try-behind S room c tried.value next tried.left ts (s ∷ ts) tried.used s.newline (λ v others p. ahead (known s ts (k.Word w.Try) refl e r) p) tried.whole tried.regular f.0 (record { is = tried.holds.is; fit = tried.holds.fit }) tried.goes

-- ---- labels

label-read : {form : Form} {tree : Stmts} {n : ℕ} → Sound form tree n → (room : Room) (c : Context) (o : Name) (next : To Stmt) (s t : Symbol) (ts : Symbols) → are_regular (s ∷ (t ∷ ts)) ≡ true → s.kind ≡ k.Name o → t.kind ≡ k.Mark m.Colon → is_reference form o ≡ true
    → IsDone form tree n (labelled true room c o next s t ts) → Read form tree n (ReadStatement form room c) next (s ∷ (t ∷ ts))
label-read S room c o next s t ts r e e2 reference h =
    let a = guarded (not (is_among o c.labels)) (t ∷ ts) (fitting (fits_node room) ts (statement (inside room) (context.labelled o c) (λ body r. next (Tree.Label o body) r) ts)) h in
    let f = fitted (fits_node room) ts (statement (inside room) (context.labelled o c) (λ body r. next (Tree.Label o body) r) ts) a.1 in
    let r2 = regular-rest s (t ∷ ts) r in
    let body = S.statements (inside room) (context.labelled o c) (λ body r. next (Tree.Label o body) r) ts (regular-rest t ts r2) f.1 in
    record {
      used = name o s.newline ∷ (mark m.Colon t.newline ∷ body.used);
      left = body.left;
      value = Tree.Label o body.value;
      whole = ahead (known s (t ∷ ts) (k.Name o) refl e r) (ahead (known t ts (k.Mark m.Colon) refl e2 r2) body.whole);
      regular = body.regular;
      holds = record { is = g.label s.newline t.newline reference (not-true (is_among o c.labels) a.0) body.holds.is; fit = node-in f.0 body.holds.fit };
      goes = body.goes;
    }

name-read : {form : Form} {tree : Stmts} {n : ℕ} → Sound form tree n → (room : Room) (c : Context) (o : Name) (next : To Stmt) (s : Symbol) (ts : Symbols) → are_regular (s ∷ ts) ≡ true → s.kind ≡ k.Name o → IsDone form tree n (label form room c o next s ts)
    → Read form tree (suc n) (ReadStatement form room c) next (s ∷ ts)
name-read S room c o next s [] r e h = stated-read S room c next s [] r (ap opens_other e) h
name-read {form = form} {tree = tree} {n = n} S room c o next s (t ∷ ts) r e h = at t.kind refl h
  where
    other : IsDone form tree n (stated room next (s ∷ (t ∷ ts))) → Read form tree (suc n) (ReadStatement form room c) next (s ∷ (t ∷ ts))
    other h = stated-read S room c next s (t ∷ ts) r (ap opens_other e) h

    by : (a : Bool) → is_reference form o ≡ a → t.kind ≡ k.Mark m.Colon → IsDone form tree n (labelled a room c o next s t ts) → Read form tree (suc n) (ReadStatement form room c) next (s ∷ (t ∷ ts))
    by true reference e2 h = later (label-read S room c o next s t ts r e e2 reference h)
    by false reference e2 h = other h

    at : (kind : TokenKind) → t.kind ≡ kind → IsDone form tree n (label_by form room c kind o next s t ts) → Read form tree (suc n) (ReadStatement form room c) next (s ∷ (t ∷ ts))
    at (k.Mark m.Colon) e2 h = by (is_reference form o) refl e2 h
    at _ e2 h = other h

-- ---- statements

empty-read : {form : Form} {tree : Stmts} {n : ℕ} → (room : Room) (c : Context) (next : To Stmt) (s : Symbol) (ts : Symbols) → are_regular (s ∷ ts) ≡ true → s.kind ≡ k.Mark m.Semicolon
    → IsDone form tree n (statement_by form room c (k.Mark m.Semicolon) next s ts) → Read form tree n (ReadStatement form room c) next (s ∷ ts)
empty-read room c next s ts r e h = let f = fitted (fits_node room) ts (next Tree.Empty ts) h in
    record {
      used = mark m.Semicolon s.newline ∷ [];
      left = ts;
      value = Tree.Empty;
      whole = one-read (known s ts (k.Mark m.Semicolon) refl e r);
      regular = regular-rest s ts r;
      holds = record { is = g.empty s.newline; fit = leaf-in room f.0 };
      goes = f.1;
    }

as-statement : {form : Form} {tree : Stmts} {n : ℕ} {room : Room} {c : Context} {next : To Stmt} {ts : Symbols} → Read form tree n (ReadBlock form room c) next ts → Read form tree n (ReadStatement form room c) next ts
as-statement a = record {
  used = a.used;
  left = a.left;
  value = a.value;
  whole = a.whole;
  regular = a.regular;
  holds = record { is = g.block a.holds.is; fit = a.holds.fit };
  goes = a.goes;
}

pub read-statements : {form : Form} {tree : Stmts} {n : ℕ} → Sound form tree n → (room : Room) (c : Context) (next : To Stmt) (ts : Symbols) → are_regular ts ≡ true → IsDone form tree (suc n) (statement room c next ts)
    → Read form tree (suc n) (ReadStatement form room c) next ts
read-statements S room c next [] r h = absurd (never (on h))
read-statements {form = form} {tree = tree} {n = n} S room c next (s ∷ ts) r h = at s.kind refl (on h)
  where
    other : opens_other s.kind ≡ false → IsDone form tree n (stated room next (s ∷ ts)) → Read form tree (suc n) (ReadStatement form room c) next (s ∷ ts)
    other plain h = stated-read S room c next s ts r plain h

    at : (kind : TokenKind) → s.kind ≡ kind → IsDone form tree n (statement_by form room c kind next s ts) → Read form tree (suc n) (ReadStatement form room c) next (s ∷ ts)
    at (k.Mark m.OpenBrace) e h = later (as-statement (braces-read S room c next ts (s ∷ ts) s.newline (one-read (known s ts (k.Mark m.OpenBrace) refl e r)) (regular-rest s ts r) h))
    at (k.Word w.Var) e h = later (variables-read S room c next s ts r e h)
    at (k.Mark m.Semicolon) e h = later (empty-read room c next s ts r e h)
    at (k.Word w.If) e h = later (if-read S room c next s ts r e h)
    at (k.Word w.Do) e h = later (do-read S room c next s ts r e h)
    at (k.Word w.While) e h = later (while-read S room c next s ts r e h)
    at (k.Word w.For) e h = later (for-read S room c next s ts r e h)
    at (k.Word w.Continue) e h = later (continue-read S room c next s ts r e h)
    at (k.Word w.Break) e h = later (break-read S room c next s ts r e h)
    at (k.Word w.Return) e h = later (return-read S room c next s ts r e h)
    at (k.Word w.Switch) e h = later (switch-read S room c next s ts r e h)
    at (k.Word w.Throw) e h = later (throw-read S room c next s ts r e h)
    at (k.Word w.Try) e h = later (try-read S room c next s ts r e h)
    at (k.Word w.Function) e h = absurd (never h)
    at (k.Name o) e h = name-read S room c o next s ts r e h
    at _ e h = other (ap opens_other e) h

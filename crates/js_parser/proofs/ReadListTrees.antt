-- What the machine reads has a tree by the grammar: lists of expressions, functions and declarators.
use Rattle.std.proofs.Common.{◌≡◌, ℕ, suc, ◌<◌, ◌⊎◌, inl, inr, Bool, true, false, List, [], ◌∷◌, ◌++◌, Option, Some, None, refl, ap, sym, ◌∙◌, subst, arith, lit<}
use Rattle.std.proofs.lemmas.List.{append-nil, append_assoc}
use Rattle.js_lexer.specs.declared.mark.Mark.TheVariants as m
use Rattle.js_lexer.specs.declared.word.Word.TheVariants as w
use Rattle.js_lexer.specs.declared.token.TokenKind.{TokenKind}
use Rattle.js_lexer.specs.declared.token.TokenKind.TheVariants as k
use Rattle.js_tree.specs.Tree.{Name, Expr, Exprs, MaybeExpr, NoExpr, AnExpr, Elements, Pairs, Stmts, VarItems, NoVarItems, MoreVarItems}
use Rattle.js_tree.specs.Tree
use Rattle.js_parser.specs.declared.form.Form.{Form}
use Rattle.js_parser.specs.Symbols.{Symbol, Symbols, are_regular, mark, name}
use Rattle.js_parser.specs.Names.{is_binding, is_distinct, key_of}
use Rattle.js_parser.specs.Contexts as context
use Rattle.js_parser.specs.Ends.{ends_changed, kind_reach, reach, bare_reach, declarator_reach, list_reach}
use Rattle.js_parser.specs.Grammar.{Formals, Expression, DeclaratorList, SourceElements}
use Rattle.js_parser.specs.Grammar as g
use Rattle.js_parser.specs.Rooms.{Room}
use Rattle.js_parser.specs.Machine.{State, comma, assign, arguments, argument_list, elements, pairs, rest, formals, formal, declarator, declarators, optional, source, To, expect, is_open_parenthesis, is_close_parenthesis, is_open_brace, is_close_brace, is_colon, arguments_by, after_argument, argument_by, elements_by, after_element, element_by, pairs_by, after_pair, pair_by, and_formal, is_formal, formals_by, one_formal_by, after_formal, formal_by, declarator_by, initialiser, initialiser_by, after_declarator, declarators_by, optional_by}
use Rattle.js_parser.proofs.Levels.{is_empty, more, expression-tokens}
use Rattle.js_parser.proofs.EndTokens.{last-of}
use Rattle.js_parser.proofs.ReadTrees.{IsDone, on, padded, never, guarded, left-of, right-of, regular-rest, known, Parts, unread, ahead, behind, one-read, met, front, both-in, nothing-in, Fits, Read, past, ReadArguments, ReadArgumentList, ReadElements, ReadPairs, ReadRest, are_names, ReadFormals, ReadFormal, ReadDeclarator, ReadDeclarators, ReadOptional, Sound}
use Rattle.js_parser.proofs.ReadKinds.{told-open, told-close, told-brace, told-closed, told-colon, NotComma, comma-case}
use Rattle.js_parser.proofs.ReadExpressionTrees.{become}

-- ---- arguments

pub read-argumented : {form : Form} {tree : Stmts} {n : ℕ} → Sound form tree n → (room : Room) (next : To Exprs) (ts : Symbols) → are_regular ts ≡ true → IsDone form tree (suc n) (arguments room next ts)
    → Read form tree (suc n) (ReadArguments form room) next ts
read-argumented S room next [] r h = absurd (never (on h))
read-argumented {form = form} {tree = tree} {n = n} S room next (s ∷ ts) r h = at s.kind (on h)
  where
    some : IsDone form tree n (argument_list room next (s ∷ ts)) → Read form tree (suc n) (ReadArguments form room) next (s ∷ ts)
    some h = let a = S.argument_lists room next (s ∷ ts) r h in
        record { used = a.used; left = a.left; value = a.value; whole = a.whole; regular = a.regular; holds = record { is = λ b c. g.arguments b c a.holds.is; fit = a.holds.fit }; goes = padded a.goes }

    at : (kind : TokenKind) → IsDone form tree n (arguments_by kind room next s ts) → Read form tree (suc n) (ReadArguments form room) next (s ∷ ts)
    at (k.Mark m.CloseParenthesis) h =
        record { used = []; left = s ∷ ts; value = Tree.NoExprs; whole = unread; regular = r; holds = record { is = λ b c. g.no_arguments b c; fit = nothing-in room }; goes = padded h }
    at _ h = some h

argument-behind : {form : Form} {tree : Stmts} {n : ℕ} → Sound form tree n → (room : Room) (x : Expr) (next : To Exprs) (ts whole u : Symbols) → Parts whole u ts → are_regular ts ≡ true → Expression form true 2 u x → Fits room x
    → IsDone form tree n (after_argument room x next ts) → Read form tree (suc n) (ReadArgumentList form room) next whole
argument-behind S room x next [] whole u parts r d fit h = absurd (never h)
argument-behind {form = form} {tree = tree} {n = n} S room x next (s ∷ ts) whole u parts r d fit h = at s.kind refl h
  where
    last : IsDone form tree n (next (Tree.MoreExprs x Tree.NoExprs) (s ∷ ts)) → Read form tree (suc n) (ReadArgumentList form room) next whole
    last h = record { used = u; left = s ∷ ts; value = Tree.MoreExprs x Tree.NoExprs; whole = parts; regular = r; holds = record { is = g.last_argument d; fit = both-in fit (nothing-in room) }; goes = padded h }

    at : (kind : TokenKind) → s.kind ≡ kind → IsDone form tree n (argument_by kind room x next s ts) → Read form tree (suc n) (ReadArgumentList form room) next whole
    at (k.Mark m.Comma) e h = let a = S.argument_lists room (λ xs r. next (Tree.MoreExprs x xs) r) ts (regular-rest s ts r) h in
        record {
          used = u ++ (mark m.Comma s.newline ∷ a.used);
          left = a.left;
          value = Tree.MoreExprs x a.value;
          whole = behind parts (ahead (known s ts (k.Mark m.Comma) refl e r) a.whole);
          regular = a.regular;
          holds = record { is = g.argument_and s.newline d a.holds.is; fit = both-in fit a.holds.fit };
          goes = padded a.goes;
        }
    at _ e h = last h

pub read-argument-lists : {form : Form} {tree : Stmts} {n : ℕ} → Sound form tree n → (room : Room) (next : To Exprs) (ts : Symbols) → are_regular ts ≡ true → IsDone form tree (suc n) (argument_list room next ts)
    → Read form tree (suc n) (ReadArgumentList form room) next ts
read-argument-lists S room next ts r h = let x = S.assigns true room (λ x r. after_argument room x next r) ts r (on h) in
    argument-behind S room x.value next x.left ts x.used x.whole x.regular x.holds.is x.holds.fit x.goes

-- ---- elements and properties

element-behind : {form : Form} {tree : Stmts} {n : ℕ} → Sound form tree n → (room : Room) (x : Expr) (next : To Elements) (ts whole u : Symbols) → Parts whole u ts → are_regular ts ≡ true → Expression form true 2 u x → Fits room x
    → IsDone form tree n (after_element room x next ts) → Read form tree (suc n) (ReadElements form room) next whole
element-behind S room x next [] whole u parts r d fit h = absurd (never h)
element-behind {form = form} {tree = tree} {n = n} S room x next (s ∷ ts) whole u parts r d fit h = at s.kind refl h
  where
    last : IsDone form tree n (next (Tree.MoreElements (Tree.AnExpr x) Tree.NoElements) (s ∷ ts)) → Read form tree (suc n) (ReadElements form room) next whole
    last h = record {
      used = u;
      left = s ∷ ts;
      value = Tree.MoreElements (Tree.AnExpr x) Tree.NoElements;
      whole = parts;
      regular = r;
      holds = record { is = g.last_element d; fit = both-in fit (nothing-in room) };
      goes = padded h;
    }

    at : (kind : TokenKind) → s.kind ≡ kind → IsDone form tree n (element_by kind room x next s ts) → Read form tree (suc n) (ReadElements form room) next whole
    at (k.Mark m.Comma) e h = let a = S.element_lists room (λ es r. next (Tree.MoreElements (Tree.AnExpr x) es) r) ts (regular-rest s ts r) h in
        record {
          used = u ++ (mark m.Comma s.newline ∷ a.used);
          left = a.left;
          value = Tree.MoreElements (Tree.AnExpr x) a.value;
          whole = behind parts (ahead (known s ts (k.Mark m.Comma) refl e r) a.whole);
          regular = a.regular;
          holds = record { is = g.element_and s.newline d a.holds.is; fit = both-in fit a.holds.fit };
          goes = padded a.goes;
        }
    at _ e h = last h

pub read-element-lists : {form : Form} {tree : Stmts} {n : ℕ} → Sound form tree n → (room : Room) (next : To Elements) (ts : Symbols) → are_regular ts ≡ true → IsDone form tree (suc n) (elements room next ts)
    → Read form tree (suc n) (ReadElements form room) next ts
read-element-lists S room next [] r h = absurd (never (on h))
read-element-lists {form = form} {tree = tree} {n = n} S room next (s ∷ ts) r h = at s.kind refl (on h)
  where
    some : IsDone form tree n (assign room true (λ x r. after_element room x next r) (s ∷ ts)) → Read form tree (suc n) (ReadElements form room) next (s ∷ ts)
    some h = let x = S.assigns true room (λ x r. after_element room x next r) (s ∷ ts) r h in element-behind S room x.value next x.left (s ∷ ts) x.used x.whole x.regular x.holds.is x.holds.fit x.goes

    at : (kind : TokenKind) → s.kind ≡ kind → IsDone form tree n (elements_by kind room next s ts) → Read form tree (suc n) (ReadElements form room) next (s ∷ ts)
    at (k.Mark m.CloseBracket) e h = record { used = []; left = s ∷ ts; value = Tree.NoElements; whole = unread; regular = r; holds = record { is = g.no_element; fit = nothing-in room }; goes = padded h }
    at (k.Mark m.Comma) e h = let a = S.element_lists room (λ es r. next (Tree.MoreElements Tree.NoExpr es) r) ts (regular-rest s ts r) h in
        record {
          used = mark m.Comma s.newline ∷ a.used;
          left = a.left;
          value = Tree.MoreElements Tree.NoExpr a.value;
          whole = ahead (known s ts (k.Mark m.Comma) refl e r) a.whole;
          regular = a.regular;
          holds = record { is = g.hole_and s.newline a.holds.is; fit = both-in (nothing-in room) a.holds.fit };
          goes = padded a.goes;
        }
    at _ e h = some h

pair-behind : {form : Form} {tree : Stmts} {n : ℕ} → Sound form tree n → (room : Room) (key : Name) (x : Expr) (next : To Pairs) (ts whole u : Symbols) (s : Symbol) (c : Bool) → Parts whole (s ∷ (mark m.Colon c ∷ u)) ts → are_regular ts ≡ true
    → key_of form s.kind ≡ Some key → Expression form true 2 u x → Fits room x → IsDone form tree n (after_pair room key x next ts) → Read form tree (suc n) (ReadPairs form room) next whole
pair-behind S room key x next [] whole u s c parts r is d fit h = absurd (never h)
pair-behind {form = form} {tree = tree} {n = n} S room key x next (t ∷ ts) whole u s c parts r is d fit h = at t.kind refl h
  where
    last : IsDone form tree n (next (Tree.MorePairs key x Tree.NoPairs) (t ∷ ts)) → Read form tree (suc n) (ReadPairs form room) next whole
    last h = record {
      used = s ∷ (mark m.Colon c ∷ u);
      left = t ∷ ts;
      value = Tree.MorePairs key x Tree.NoPairs;
      whole = parts;
      regular = r;
      holds = record { is = g.last_property s c is d; fit = both-in fit (nothing-in room) };
      goes = padded h;
    }

    at : (kind : TokenKind) → t.kind ≡ kind → IsDone form tree n (pair_by kind room key x next t ts) → Read form tree (suc n) (ReadPairs form room) next whole
    at (k.Mark m.Comma) e h = let a = S.pair_lists room (λ ps r. next (Tree.MorePairs key x ps) r) ts (regular-rest t ts r) h in
        record {
          used = s ∷ (mark m.Colon c ∷ (u ++ (mark m.Comma t.newline ∷ a.used)));
          left = a.left;
          value = Tree.MorePairs key x a.value;
          whole = behind parts (ahead (known t ts (k.Mark m.Comma) refl e r) a.whole);
          regular = a.regular;
          holds = record { is = g.property_and s c t.newline is d a.holds.is; fit = both-in fit a.holds.fit };
          goes = padded a.goes;
        }
    at _ e h = last h

pub read-pair-lists : {form : Form} {tree : Stmts} {n : ℕ} → Sound form tree n → (room : Room) (next : To Pairs) (ts : Symbols) → are_regular ts ≡ true → IsDone form tree (suc n) (pairs room next ts)
    → Read form tree (suc n) (ReadPairs form room) next ts
read-pair-lists S room next [] r h = absurd (never (on h))
read-pair-lists {form = form} {tree = tree} {n = n} S room next (s ∷ ts) r h = at (key_of form s.kind) refl (on h)
  where
    at : (o : Option Name) → key_of form s.kind ≡ o → IsDone form tree n (pairs_by o room next s ts) → Read form tree (suc n) (ReadPairs form room) next (s ∷ ts)
    at None e h = record { used = []; left = s ∷ ts; value = Tree.NoPairs; whole = unread; regular = r; holds = record { is = g.no_property; fit = nothing-in room }; goes = padded h }
    at (Some key) e h =
        let colon = met is_colon (k.Mark m.Colon) told-colon refl (assign room true (λ x r. after_pair room key x next r)) ts (regular-rest s ts r) h in
        let x = S.assigns true room (λ x r. after_pair room key x next r) colon.others colon.regular colon.goes in
        pair-behind S room key x.value next x.left (s ∷ ts) x.used s colon.newline (ahead refl (ahead colon.is x.whole)) x.regular e x.holds.is x.holds.fit x.goes

-- ---- functions

pub read-rests : {form : Form} {tree : Stmts} {n : ℕ} → Sound form tree n → (room : Room) (next : To (List Name × Stmts)) (ts : Symbols) → are_regular ts ≡ true → IsDone form tree (suc n) (rest room (λ ns body r. next (ns, body) r) ts)
    → Read form tree (suc n) (ReadRest form room) next ts
read-rests {form = form} S room next ts r h =
    let open1 = met is_open_parenthesis (k.Mark m.OpenParenthesis) told-open refl (formals [] (λ ns. expect is_close_parenthesis (expect is_open_brace (source room context.function (λ body. expect is_close_brace (λ r. next (ns, body) r)))))) ts r (on h) in
    let ns = S.formal_lists [] (λ ns. expect is_close_parenthesis (expect is_open_brace (source room context.function (λ body. expect is_close_brace (λ r. next (ns, body) r))))) open1.others refl open1.regular open1.goes in
    let close1 = met is_close_parenthesis (k.Mark m.CloseParenthesis) told-close refl (expect is_open_brace (source room context.function (λ body. expect is_close_brace (λ r. next (ns.value, body) r)))) ns.left ns.regular ns.goes in
    let open2 = met is_open_brace (k.Mark m.OpenBrace) told-brace refl (source room context.function (λ body. expect is_close_brace (λ r. next (ns.value, body) r))) close1.others close1.regular close1.goes in
    let body = S.sources room context.function (λ body. expect is_close_brace (λ r. next (ns.value, body) r)) open2.others open2.regular open2.goes in
    let close2 = met is_close_brace (k.Mark m.CloseBrace) told-closed refl (λ r. next (ns.value, body.value) r) body.left body.regular body.goes in
    record {
      used = mark m.OpenParenthesis open1.newline ∷ (ns.used ++ (mark m.CloseParenthesis close1.newline ∷ (mark m.OpenBrace open2.newline ∷ (body.used ++ (mark m.CloseBrace close2.newline ∷ [])))));
      left = close2.others;
      value = (ns.value, body.value);
      whole = ahead open1.is (behind ns.whole (ahead close1.is (ahead open2.is (behind body.whole (one-read close2.is)))));
      regular = close2.regular;
      holds = record {
        is = g.function_rest open1.newline close1.newline open2.newline close2.newline ns.holds.is ns.holds.distinct (subst (λ s. SourceElements form context.function body.used s body.value) (ap front close2.is) body.holds.is);
        fit = body.holds.fit;
      };
      goes = padded close2.goes;
    }

formals-and : {form : Form} {o : Name} {u : Symbols} (ns : List Name) (b c : Bool) → is_binding form o ≡ true → Formals form u ns → are_names ns ≡ true → Formals form (name o b ∷ (mark m.Comma c ∷ u)) (o ∷ ns)
formals-and [] b c is d some = cc
formals-and (p ∷ ns) b c is d some = g.formal_and b c is d

formal-behind : {form : Form} {tree : Stmts} {n : ℕ} → Sound form tree n → (before : List Name) (o : Name) (next : To (List Name)) (ts whole : Symbols) (b : Bool) → Parts whole (name o b ∷ []) ts → are_regular ts ≡ true → is_formal form before o ≡ true
    → IsDone form tree n (after_formal before o next ts) → Read form tree (suc n) (ReadFormal form before) next whole
formal-behind {form = form} {tree = tree} {n = n} S before o next ts whole b parts r is h = go ts parts r h
  where
    bound : is_binding form o ≡ true
    bound = left-of (is_binding form o) (is_distinct (and_formal before o)) is

    last : (ts : Symbols) → Parts whole (name o b ∷ []) ts → are_regular ts ≡ true → IsDone form tree n (next (o ∷ []) ts) → Read form tree (suc n) (ReadFormal form before) next whole
    last ts parts r h = record {
      used = name o b ∷ [];
      left = ts;
      value = o ∷ [];
      whole = parts;
      regular = r;
      holds = record { is = g.last_formal b bound; distinct = right-of (is_binding form o) (is_distinct (and_formal before o)) is; some = refl };
      goes = padded h;
    }

    at : (s : Symbol) (ts : Symbols) (kind : TokenKind) → Parts whole (name o b ∷ []) (s ∷ ts) → are_regular (s ∷ ts) ≡ true → s.kind ≡ kind → IsDone form tree n (formal_by kind before o next s ts) → Read form tree (suc n) (ReadFormal form before) next whole
    at s ts (k.Mark m.Comma) parts r e h = let a = S.formal_ones (and_formal before o) (λ ns r. next (o ∷ ns) r) ts (regular-rest s ts r) h in
        record {
          used = name o b ∷ (mark m.Comma s.newline ∷ a.used);
          left = a.left;
          value = o ∷ a.value;
          whole = behind parts (ahead (known s ts (k.Mark m.Comma) refl e r) a.whole);
          regular = a.regular;
          holds = record { is = formals-and a.value b s.newline bound a.holds.is a.holds.some; distinct = subst (λ ns. is_distinct ns ≡ true) (append_assoc before (o ∷ []) a.value) a.holds.distinct; some = refl };
          goes = padded a.goes;
        }
    at s ts _ parts r e h = last (s ∷ ts) parts r h

    go : (ts : Symbols) → Parts whole (name o b ∷ []) ts → are_regular ts ≡ true → IsDone form tree n (after_formal before o next ts) → Read form tree (suc n) (ReadFormal form before) next whole
    go [] parts r h = absurd (never h)
    go (s ∷ ts) parts r h = at s ts s.kind parts r refl h

as-formals : {form : Form} {tree : Stmts} {n : ℕ} {before : List Name} {next : To (List Name)} {ts : Symbols} → Read form tree n (ReadFormal form before) next ts → Read form tree n (ReadFormals form before) next ts
as-formals a = record { used = a.used; left = a.left; value = a.value; whole = a.whole; regular = a.regular; holds = record { is = a.holds.is; distinct = a.holds.distinct }; goes = a.goes }

pub read-formal-lists : {form : Form} {tree : Stmts} {n : ℕ} → Sound form tree n → (before : List Name) (next : To (List Name)) (ts : Symbols) → is_distinct before ≡ true → are_regular ts ≡ true → IsDone form tree (suc n) (formals before next ts)
    → Read form tree (suc n) (ReadFormals form before) next ts
read-formal-lists S before next [] apart r h = absurd (never (on h))
read-formal-lists {form = form} {tree = tree} {n = n} S before next (s ∷ ts) apart r h = at s.kind refl (on h)
  where
    none : IsDone form tree n (next [] (s ∷ ts)) → Read form tree (suc n) (ReadFormals form before) next (s ∷ ts)
    none h = record { used = []; left = s ∷ ts; value = []; whole = unread; regular = r; holds = record { is = g.no_formal; distinct = subst (λ ns. is_distinct ns ≡ true) (sym (append-nil before)) apart }; goes = padded h }

    at : (kind : TokenKind) → s.kind ≡ kind → IsDone form tree n (formals_by form kind before next s ts) → Read form tree (suc n) (ReadFormals form before) next (s ∷ ts)
    at (k.Name o) e h = let a = guarded (is_formal form before o) (s ∷ ts) (after_formal before o next ts) h in
        as-formals (formal-behind S before o next ts (s ∷ ts) s.newline (one-read (known s ts (k.Name o) refl e r)) (regular-rest s ts r) a.0 a.1)
    at (k.Word _) e h = none h
    at (k.Number _) e h = none h
    at (k.Str _) e h = none h
    at (k.Mark _) e h = none h
    at k.End e h = none h

pub read-formal-ones : {form : Form} {tree : Stmts} {n : ℕ} → Sound form tree n → (before : List Name) (next : To (List Name)) (ts : Symbols) → are_regular ts ≡ true → IsDone form tree (suc n) (formal before next ts)
    → Read form tree (suc n) (ReadFormal form before) next ts
read-formal-ones S before next [] r h = absurd (never (on h))
read-formal-ones {form = form} {tree = tree} {n = n} S before next (s ∷ ts) r h = at s.kind refl (on h)
  where
    at : (kind : TokenKind) → s.kind ≡ kind → IsDone form tree n (one_formal_by form kind before next s ts) → Read form tree (suc n) (ReadFormal form before) next (s ∷ ts)
    at (k.Name o) e h = let a = guarded (is_formal form before o) (s ∷ ts) (after_formal before o next ts) h in
        formal-behind S before o next ts (s ∷ ts) s.newline (one-read (known s ts (k.Name o) refl e r)) (regular-rest s ts r) a.0 a.1
    at (k.Word _) e h = absurd (never h)
    at (k.Number _) e h = absurd (never h)
    at (k.Str _) e h = absurd (never h)
    at (k.Mark _) e h = absurd (never h)
    at k.End e h = absurd (never h)

-- ---- declarators

past-true : (c : Bool) (kind : TokenKind) → past true c kind ≡ kind_reach c true kind
past-true c (k.Word w.In) = refl
past-true c (k.Mark m.Comma) = refl
past-true c _ = refl

reach-past : (u : Symbols) (s : Symbol) → s.newline ≡ true → past true (ends_changed u) s.kind ≡ reach u s
reach-past u s e = past-true (ends_changed u) s.kind ∙ ap (λ newline. kind_reach (ends_changed u) newline s.kind) (sym e)

-- on a new line, where the operator `in` may come
pub on-line : (i : Bool) (u : Symbols) (s : Symbol) (o : ℕ) → i ≡ true → s.newline ≡ true → past i (ends_changed u) s.kind < o → reach u s < o
on-line true u s o e newline h = subst (λ a. a < o) (reach-past u s newline) h
on-line false u s o e newline h = absurd cc

data InitialiserCase (kind : TokenKind) : Type 0 where
  assigned : kind ≡ k.Mark m.Assign → InitialiserCase kind
  bare : ((room : Room) (i : Bool) (o : Name) (next : Name → MaybeExpr → Symbols → State) (s : Symbol) (ts : Symbols) → initialiser_by kind room i o next s ts ≡ next o Tree.NoExpr (s ∷ ts)) → bare_reach kind < 2 → InitialiserCase kind

initialiser-case : (kind : TokenKind) → InitialiserCase kind
initialiser-case (k.Mark m.Assign) = assigned refl
initialiser-case _ = bare (λ room i o next s ts. refl) (lit< tt)

declarator-behind : {form : Form} {tree : Stmts} {n : ℕ} → Sound form tree n → (i : Bool) (room : Room) (o : Name) (next : To (Name × MaybeExpr)) (ts whole : Symbols) (b : Bool) → Parts whole (name o b ∷ []) ts → are_regular ts ≡ true → is_binding form o ≡ true
    → IsDone form tree n (initialiser room i o (λ d value r. next (d, value) r) ts) → Read form tree (suc n) (ReadDeclarator form room i) next whole
declarator-behind S i room o next [] whole b parts r is h = record {
  used = name o b ∷ [];
  left = [];
  value = (o, Tree.NoExpr);
  whole = parts;
  regular = r;
  holds = record { is = g.bare b is; fit = nothing-in room; stops = λ e f. lit< tt };
  goes = padded h;
}
declarator-behind {form = form} {tree = tree} {n = n} S i room o next (s ∷ ts) whole b parts r is h = at (initialiser-case s.kind) h
  where
    at : InitialiserCase s.kind → IsDone form tree n (initialiser_by s.kind room i o (λ d value r. next (d, value) r) s ts) → Read form tree (suc n) (ReadDeclarator form room i) next whole
    at (assigned e) h =
        let x = S.assigns i room (λ x r. next (o, Tree.AnExpr x) r) ts (regular-rest s ts r) (become (ap (λ kind. initialiser_by kind room i o (λ d value r. next (d, value) r) s ts) e) h) in
        record {
          used = name o b ∷ (mark m.Assign s.newline ∷ x.used);
          left = x.left;
          value = (o, Tree.AnExpr x.value);
          whole = behind parts (ahead (known s ts (k.Mark m.Assign) refl e r) x.whole);
          regular = x.regular;
          holds = record {
            is = g.initialised b s.newline is x.holds.is;
            fit = x.holds.fit;
            stops = λ e newline. on-line i (name o b ∷ (mark m.Assign s.newline ∷ x.used)) (front x.left) 2 e newline
                (subst (λ c. past i c (front x.left).kind < 2) (sym (last-of (name o b ∷ []) (mark m.Assign s.newline) x.used (expression-tokens x.holds.is))) x.holds.stops);
          };
          goes = padded x.goes;
        }
    at (bare passes low) h = record {
      used = name o b ∷ [];
      left = s ∷ ts;
      value = (o, Tree.NoExpr);
      whole = parts;
      regular = r;
      holds = record { is = g.bare b is; fit = nothing-in room; stops = λ e f. low };
      goes = padded (become (passes room i o (λ d value r. next (d, value) r) s ts) h);
    }

pub read-declared-ones : {form : Form} {tree : Stmts} {n : ℕ} → Sound form tree n → (i : Bool) (room : Room) (next : To (Name × MaybeExpr)) (ts : Symbols) → are_regular ts ≡ true → IsDone form tree (suc n) (declarator room i (λ d value r. next (d, value) r) ts)
    → Read form tree (suc n) (ReadDeclarator form room i) next ts
read-declared-ones S i room next [] r h = absurd (never (on h))
read-declared-ones {form = form} {tree = tree} {n = n} S i room next (s ∷ ts) r h = at s.kind refl (on h)
  where
    at : (kind : TokenKind) → s.kind ≡ kind → IsDone form tree n (declarator_by form kind room i (λ d value r. next (d, value) r) s ts) → Read form tree (suc n) (ReadDeclarator form room i) next (s ∷ ts)
    at (k.Name o) e h = let a = guarded (is_binding form o) (s ∷ ts) (initialiser room i o (λ d value r. next (d, value) r) ts) h in
        declarator-behind S i room o next ts (s ∷ ts) s.newline (one-read (known s ts (k.Name o) refl e r)) (regular-rest s ts r) a.0 a.1
    at (k.Word _) e h = absurd (never h)
    at (k.Number _) e h = absurd (never h)
    at (k.Str _) e h = absurd (never h)
    at (k.Mark _) e h = absurd (never h)
    at k.End e h = absurd (never h)

data DeclaratorsCase (kind : TokenKind) : Type 0 where
  comma_next : kind ≡ k.Mark m.Comma → DeclaratorsCase kind
  last_one : ((room : Room) (i : Bool) (o : Name) (value : MaybeExpr) (next : To VarItems) (s : Symbol) (ts : Symbols) → declarators_by kind room i o value next s ts ≡ next (Tree.MoreVarItems o value Tree.NoVarItems) (s ∷ ts))
      → (bare_reach kind < 2 → bare_reach kind ≡ 0) → ((c : Bool) → past true c kind < 2 → past true c kind < 1) → DeclaratorsCase kind

declarators-case : (kind : TokenKind) → DeclaratorsCase kind
declarators-case kind = at kind (comma-case kind)
  where
    at : (kind : TokenKind) → (kind ≡ k.Mark m.Comma) ⊎ NotComma kind → DeclaratorsCase kind
    at (k.Mark m.Comma) a = comma_next refl
    at _ (inl e) = comma_next e
    at _ (inr o) = last_one (λ room i d value next s ts. refl) (λ h. omega arith) (λ c h. o.stops true c h)

-- where no comma follows, nothing goes on with a declarator
declared-stop : (u : Symbols) (s : Symbol) (value : MaybeExpr) → (bare_reach s.kind < 2 → bare_reach s.kind ≡ 0) → ((c : Bool) → past true c s.kind < 2 → past true c s.kind < 1) → s.newline ≡ true → declarator_reach u s value < 2 → declarator_reach u s value ≡ 0
declared-stop u s NoExpr a c newline h = a h
declared-stop u s (AnExpr x) a c newline h = let same = reach-past u s newline in let d = c (ends_changed u) (subst (λ o. o < 2) (sym same) h) in omega (arith, same, d)

list-tokens : {form : Form} {i : Bool} {u : Symbols} {items : VarItems} → DeclaratorList form i u items → is_empty u ≡ false
list-tokens (g.last_declarator (g.bare c r)) = refl
list-tokens (g.last_declarator (g.initialised c d r x)) = refl
list-tokens (g.declarator_and {u = u} c x xs) = more u _ _

list-more : {form : Form} {i : Bool} {v : Symbols} {items : VarItems} (u : Symbols) (s : Symbol) (o : Name) (value : MaybeExpr) → DeclaratorList form i v items → list_reach u s (MoreVarItems o value items) ≡ list_reach u s items
list-more u s o value (g.last_declarator d) = refl
list-more u s o value (g.declarator_and b d ds) = refl

list-alike : (u v : Symbols) (s : Symbol) (items : VarItems) → ends_changed u ≡ ends_changed v → list_reach u s items ≡ list_reach v s items
list-alike u v s NoVarItems e = refl
list-alike u v s (MoreVarItems o NoExpr NoVarItems) e = refl
list-alike u v s (MoreVarItems o (AnExpr x) NoVarItems) e = ap (λ c. kind_reach c s.newline s.kind) e
list-alike u v s (MoreVarItems o value (MoreVarItems p other others)) e = list-alike u v s (MoreVarItems p other others) e

ends-none : (u : Symbols) (value : MaybeExpr) → declarator_reach u (front []) value ≡ 0
ends-none u NoExpr = refl
ends-none u (AnExpr x) = refl

declarators-behind : {form : Form} {tree : Stmts} {n : ℕ} → Sound form tree n → (i : Bool) (room : Room) (d : Name × MaybeExpr) (next : To VarItems) (ts whole u : Symbols) → Parts whole u ts → are_regular ts ≡ true → ReadDeclarator form room i u ts d
    → IsDone form tree n (after_declarator room i d.0 d.1 next ts) → Read form tree (suc n) (ReadDeclarators form room i) next whole
declarators-behind S i room d next [] whole u parts r is h = record {
  used = u;
  left = [];
  value = Tree.MoreVarItems d.0 d.1 Tree.NoVarItems;
  whole = parts;
  regular = r;
  holds = record { is = g.last_declarator is.is; fit = both-in is.fit (nothing-in room); stops = λ e f. ends-none u d.1 };
  goes = padded h;
}
declarators-behind {form = form} {tree = tree} {n = n} S i room d next (s ∷ ts) whole u parts r is h = at (declarators-case s.kind) h
  where
    at : DeclaratorsCase s.kind → IsDone form tree n (declarators_by s.kind room i d.0 d.1 next s ts) → Read form tree (suc n) (ReadDeclarators form room i) next whole
    at (comma_next e) h =
        let a = S.declared_lists i room (λ items r. next (Tree.MoreVarItems d.0 d.1 items) r) ts (regular-rest s ts r) (become (ap (λ kind. declarators_by kind room i d.0 d.1 next s ts) e) h) in
        record {
          used = u ++ (mark m.Comma s.newline ∷ a.used);
          left = a.left;
          value = Tree.MoreVarItems d.0 d.1 a.value;
          whole = behind parts (ahead (known s ts (k.Mark m.Comma) refl e r) a.whole);
          regular = a.regular;
          holds = record {
            is = g.declarator_and s.newline is.is a.holds.is;
            fit = both-in is.fit a.holds.fit;
            stops = λ e newline. list-more (u ++ (mark m.Comma s.newline ∷ a.used)) (front a.left) d.0 d.1 a.holds.is
                ∙ list-alike (u ++ (mark m.Comma s.newline ∷ a.used)) a.used (front a.left) a.value (last-of u (mark m.Comma s.newline) a.used (list-tokens a.holds.is)) ∙ a.holds.stops e newline;
          };
          goes = padded a.goes;
        }
    at (last_one passes low stops) h = record {
      used = u;
      left = s ∷ ts;
      value = Tree.MoreVarItems d.0 d.1 Tree.NoVarItems;
      whole = parts;
      regular = r;
      holds = record { is = g.last_declarator is.is; fit = both-in is.fit (nothing-in room); stops = λ e newline. declared-stop u s d.1 low stops newline (is.stops e newline) };
      goes = padded (become (passes room i d.0 d.1 next s ts) h);
    }

pub read-declared-lists : {form : Form} {tree : Stmts} {n : ℕ} → Sound form tree n → (i : Bool) (room : Room) (next : To VarItems) (ts : Symbols) → are_regular ts ≡ true → IsDone form tree (suc n) (declarators room i next ts)
    → Read form tree (suc n) (ReadDeclarators form room i) next ts
read-declared-lists S i room next ts r h = let d = S.declared_ones i room (λ d r. after_declarator room i d.0 d.1 next r) ts r (on h) in
    declarators-behind S i room d.value next d.left ts d.used d.whole d.regular d.holds d.goes

-- ---- an expression, or none

pub read-options : {form : Form} {tree : Stmts} {n : ℕ} → Sound form tree n → (room : Room) (next : To MaybeExpr) (ts : Symbols) → are_regular ts ≡ true → IsDone form tree (suc n) (optional room next ts)
    → Read form tree (suc n) (ReadOptional form room) next ts
read-options S room next [] r h = absurd (never (on h))
read-options {form = form} {tree = tree} {n = n} S room next (s ∷ ts) r h = at s.kind (on h)
  where
    none : IsDone form tree n (next Tree.NoExpr (s ∷ ts)) → Read form tree (suc n) (ReadOptional form room) next (s ∷ ts)
    none h = record { used = []; left = s ∷ ts; value = Tree.NoExpr; whole = unread; regular = r; holds = record { is = g.absent; fit = nothing-in room }; goes = padded h }

    some : IsDone form tree n (comma room true (λ x r. next (Tree.AnExpr x) r) (s ∷ ts)) → Read form tree (suc n) (ReadOptional form room) next (s ∷ ts)
    some h = let x = S.commas true room (λ x r. next (Tree.AnExpr x) r) (s ∷ ts) r h in
        record { used = x.used; left = x.left; value = Tree.AnExpr x.value; whole = x.whole; regular = x.regular; holds = record { is = g.present x.holds.is; fit = x.holds.fit }; goes = padded x.goes }

    at : (kind : TokenKind) → IsDone form tree n (optional_by kind room next s ts) → Read form tree (suc n) (ReadOptional form room) next (s ∷ ts)
    at (k.Mark m.Semicolon) h = none h
    at (k.Mark m.CloseParenthesis) h = none h
    at _ h = some h

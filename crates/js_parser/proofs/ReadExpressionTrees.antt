-- What the machine reads has a tree by the grammar: expressions, down to their operands.
use Rattle.std.proofs.Common.{if◌then◌else◌, ◌≡◌, ℕ, suc, ◌≤◌, ◌<◌, ◌⊎◌, inl, inr, nat_le, max, Bool, true, false, ◌&&◌, [], ◌∷◌, ◌++◌, Option, Some, refl, ap, sym, ◌∙◌, subst, arith, lit≤, lit<}
use Rattle.std.proofs.lemmas.Bool.{leb-true, leb-false}
use Rattle.js_lexer.specs.declared.mark.Mark.{Mark}
use Rattle.js_lexer.specs.declared.mark.Mark.TheVariants as m
use Rattle.js_lexer.specs.declared.word.Word.TheVariants as w
use Rattle.js_lexer.specs.declared.token.TokenKind.{TokenKind}
use Rattle.js_lexer.specs.declared.token.TokenKind.TheVariants as k
use Rattle.js_tree.specs.declared.tree.BinaryOp.{BinaryOp}
use Rattle.js_tree.specs.declared.tree.BinaryOp.TheVariants as b
use Rattle.js_tree.specs.declared.tree.PrefixOp.{PrefixOp}
use Rattle.js_tree.specs.declared.tree.PrefixOp.TheVariants as p
use Rattle.js_tree.specs.declared.tree.PostfixOp.{PostfixOp}
use Rattle.js_tree.specs.declared.tree.PostfixOp.TheVariants as q
use Rattle.js_tree.specs.Tree.{Expr, Stmts}
use Rattle.js_tree.specs.Tree
use Rattle.js_parser.specs.declared.form.Form.{Form}
use Rattle.js_parser.specs.Symbols.{Symbol, Symbols, is_regular, are_regular, of_kind, word, mark}
use Rattle.js_tree.specs.Levels.{Operator, LogicalOr, LogicalAnd, Operation, joined, level, changes}
use Rattle.js_parser.specs.Operators.{sign, may_operate, prefix_sign, postfix_sign, assignment, is_target}
use Rattle.js_parser.specs.Ends.{ends_changed, is_change}
use Rattle.js_tree.specs.Heights.{expr_height}
use Rattle.js_tree.specs.Depth.{by_nodes, by_functions}
use Rattle.js_parser.specs.Grammar.{Expression}
use Rattle.js_parser.specs.Grammar as g
use Rattle.js_parser.specs.Rooms.{Room, inside, fits_node, fits_around}
use Rattle.js_parser.specs.Machine.{State, comma, comma_tail, assign, choice, climb, tail, unary, postfix, operand, To, guard, fitting, expect, is_colon, comma_by, choice_by, assign_to, tail_by, operator_of, unary_by, prefix_of, prefix_by, postfix_by}
use Rattle.js_parser.proofs.Levels.{lower, raise, more, expression-tokens}
use Rattle.js_parser.proofs.EndTokens.{ends-join, last-of}
use Rattle.js_parser.proofs.ReadTrees.{IsDone, on, padded, never, guarded, fitted, regular-rest, known, Parts, ahead, behind, one-read, met, front, Within, both-in, node-in, Fits, around, Read, later, past, Expressed, Operand, linked, bare, Sound}
use Rattle.js_parser.proofs.ReadKinds.{told-colon, not-linked, behind-change, NotComma, comma-case, ChoiceCase, question, assigned, other, choice-case, OperatorCase, operates, none, operator-case, reaches, PrefixCase, prefixes, plain, prefix-case, PostfixCase, changes as changed_by, unchanged, postfix-case}

-- ---- small laws

pub become : {form : Form} {tree : Stmts} {n : ℕ} {s t : State} → s ≡ t → IsDone form tree n s → IsDone form tree n t
become {form = form} {tree = tree} {n = n} e h = subst (λ s. IsDone form tree n s) e h

-- the last tokens decide whether `++` or `--` ends
pub ends-alike : (i : Bool) (stop : ℕ) (c d : Bool) (kind : TokenKind) → c ≡ d → past i d kind < stop → past i c kind < stop
ends-alike i stop c d kind e h = subst (λ c. past i c kind < stop) (sym e) h

sign-regular : (op : Operator) → is_regular (sign op) false ≡ false
sign-regular LogicalOr = refl
sign-regular LogicalAnd = refl
sign-regular (Operation b.InstanceOf) = refl
sign-regular (Operation b.In) = refl
sign-regular (Operation _) = refl

prefix-regular : (op : PrefixOp) → is_regular (prefix_sign op) false ≡ false
prefix-regular p.Delete = refl
prefix-regular _ = refl

postfix-regular : (op : PostfixOp) → is_regular (postfix_sign op) false ≡ false
postfix-regular q.Increment = refl
postfix-regular q.Decrement = refl

postfix-change : (op : PostfixOp) → is_change (postfix_sign op) ≡ true
postfix-change q.Increment = refl
postfix-change q.Decrement = refl

joined-fits : {room : Room} (op : Operator) (x y : Expr) → Within room (suc (max (expr_height by_nodes x) (expr_height by_nodes y))) (max (expr_height by_functions x) (expr_height by_functions y)) → Fits room (joined op x y)
joined-fits LogicalOr x y h = h
joined-fits LogicalAnd x y h = h
joined-fits (Operation op) x y h = h

-- ---- commas

pub read-commas : {form : Form} {tree : Stmts} {n : ℕ} → Sound form tree n → (i : Bool) (room : Room) (next : To Expr) (ts : Symbols) → are_regular ts ≡ true → IsDone form tree (suc n) (comma room i next ts)
    → Read form tree (suc n) (Expressed form room i 1 1) next ts
read-commas S i room next ts r h = let a = S.assigns i room (λ x r. comma_tail room i x next r) ts r (on h) in
    later (S.comma_tails i room a.value next a.left ts a.used a.whole a.regular (record { is = lower (lit≤ tt) a.holds.is; fit = a.holds.fit; stops = a.holds.stops }) a.goes)

pub read-comma-tails : {form : Form} {tree : Stmts} {n : ℕ} → Sound form tree n → (i : Bool) (room : Room) (x : Expr) (next : To Expr) (ts whole u : Symbols) → Parts whole u ts → are_regular ts ≡ true → Expressed form room i 1 2 u ts x
    → IsDone form tree (suc n) (comma_tail room i x next ts) → Read form tree (suc n) (Expressed form room i 1 1) next whole
read-comma-tails S i room x next [] whole u w r d h = record { used = u; left = []; value = x; whole = w; regular = r; holds = record { is = d.is; fit = d.fit; stops = lit< tt }; goes = padded (on h) }
read-comma-tails {form = form} {tree = tree} {n = n} S i room x next (s ∷ ts) whole u w r d h = at (comma-case s.kind) (on h)
  where
    at : (s.kind ≡ k.Mark m.Comma) ⊎ NotComma s.kind → IsDone form tree n (comma_by s.kind room i x next s ts) → Read form tree (suc n) (Expressed form room i 1 1) next whole
    at (inl e) h =
        let f = fitted (fits_around room x) ts (assign (inside room) i (λ y r. comma_tail room i (Tree.Comma x y) next r) ts) (become (ap (λ o. comma_by o room i x next s ts) e) h) in
        let y = S.assigns i (inside room) (λ y r. comma_tail room i (Tree.Comma x y) next r) ts (regular-rest s ts r) f.1 in
        let a = around {room = room} x f.0 d.fit in
        later (S.comma_tails i room (Tree.Comma x y.value) next y.left whole (u ++ (mark m.Comma s.newline ∷ y.used)) (behind w (ahead (known s ts (k.Mark m.Comma) refl e r) y.whole)) y.regular
        (record {
          is = g.comma s.newline (lit≤ tt) d.is y.holds.is;
          fit = node-in a.0 (both-in a.1 y.holds.fit);
          stops = ends-alike i 2 _ _ (front y.left).kind (last-of u (mark m.Comma s.newline) y.used (expression-tokens y.holds.is)) y.holds.stops;
        }) y.goes)
    at (inr o) h = record {
      used = u;
      left = s ∷ ts;
      value = x;
      whole = w;
      regular = r;
      holds = record { is = d.is; fit = d.fit; stops = o.stops i (ends_changed u) d.stops };
      goes = padded (become (o.passes room i x next s ts) h);
    }

-- ---- `?` and assignments

pub read-assigns : {form : Form} {tree : Stmts} {n : ℕ} → Sound form tree n → (i : Bool) (room : Room) (next : To Expr) (ts : Symbols) → are_regular ts ≡ true → IsDone form tree (suc n) (assign room i next ts)
    → Read form tree (suc n) (Expressed form room i 2 2) next ts
read-assigns S i room next ts r h = let a = S.climbs i room 4 (λ x r. choice room i x next r) ts (lit≤ tt) (lit≤ tt) r (on h) in
    later (S.choices i room a.value next a.left ts a.used a.whole a.regular a.holds a.goes)

conditional-read : {form : Form} {tree : Stmts} {n : ℕ} → Sound form tree n → (i : Bool) (room : Room) (x : Expr) (next : To Expr) (s : Symbol) (ts whole u : Symbols) → Parts whole u (s ∷ ts) → are_regular (s ∷ ts) ≡ true → Expressed form room i 4 4 u (s ∷ ts) x
    → s.kind ≡ k.Mark m.Question → IsDone form tree n (choice_by (k.Mark m.Question) room i x next s ts) → Read form tree (suc n) (Expressed form room i 2 2) next whole
conditional-read S i room x next s ts whole u w r d e h =
    let f = fitted (fits_around room x) ts (assign (inside room) true (λ y. expect is_colon (assign (inside room) i (λ z r. next (Tree.Cond x y z) r))) ts) h in
    let y = S.assigns true (inside room) (λ y. expect is_colon (assign (inside room) i (λ z r. next (Tree.Cond x y z) r))) ts (regular-rest s ts r) f.1 in
    let c = met is_colon (k.Mark m.Colon) told-colon refl (assign (inside room) i (λ z r. next (Tree.Cond x y.value z) r)) y.left y.regular y.goes in
    let z = S.assigns i (inside room) (λ z r. next (Tree.Cond x y.value z) r) c.others c.regular c.goes in
    let a = around {room = room} x f.0 d.fit in
    record {
      used = u ++ (mark m.Question s.newline ∷ (y.used ++ (mark m.Colon c.newline ∷ z.used)));
      left = z.left;
      value = Tree.Cond x y.value z.value;
      whole = behind w (ahead (known s ts (k.Mark m.Question) refl e r) (behind y.whole (ahead c.is z.whole)));
      regular = z.regular;
      holds = record {
        is = g.conditional s.newline c.newline (lit≤ tt) d.is y.holds.is z.holds.is;
        fit = node-in a.0 (both-in a.1 (both-in y.holds.fit z.holds.fit));
        stops = ends-alike i 2 _ _ (front z.left).kind
            (last-of u (mark m.Question s.newline) (y.used ++ (mark m.Colon c.newline ∷ z.used)) (more y.used (mark m.Colon c.newline) z.used) ∙ last-of y.used (mark m.Colon c.newline) z.used (expression-tokens z.holds.is)) z.holds.stops;
      };
      goes = padded z.goes;
    }

assigned-read : {form : Form} {tree : Stmts} {n : ℕ} → Sound form tree n → (i : Bool) (room : Room) (op : Option BinaryOp) (joint : Mark) (x : Expr) (next : To Expr) (s : Symbol) (ts whole u : Symbols) → Parts whole u (s ∷ ts) → are_regular (s ∷ ts) ≡ true
    → Expressed form room i 4 4 u (s ∷ ts) x → s.kind ≡ k.Mark joint → assignment op ≡ Some joint → IsDone form tree n (assign_to op room i x next s ts) → Read form tree (suc n) (Expressed form room i 2 2) next whole
assigned-read S i room op joint x next s ts whole u w r d e eq h =
    let t = guarded (is_target x) (s ∷ ts) (fitting (fits_around room x) ts (assign (inside room) i (λ y r. next (Tree.Assign op x y) r) ts)) h in
    let f = fitted (fits_around room x) ts (assign (inside room) i (λ y r. next (Tree.Assign op x y) r) ts) t.1 in
    let y = S.assigns i (inside room) (λ y r. next (Tree.Assign op x y) r) ts (regular-rest s ts r) f.1 in
    let a = around {room = room} x f.0 d.fit in
    record {
      used = u ++ (mark joint s.newline ∷ y.used);
      left = y.left;
      value = Tree.Assign op x y.value;
      whole = behind w (ahead (known s ts (k.Mark joint) refl e r) y.whole);
      regular = y.regular;
      holds = record {
        is = g.assign op joint s.newline (lit≤ tt) eq (raise d.is t.0) t.0 y.holds.is;
        fit = node-in a.0 (both-in a.1 y.holds.fit);
        stops = ends-alike i 2 _ _ (front y.left).kind (last-of u (mark joint s.newline) y.used (expression-tokens y.holds.is)) y.holds.stops;
      };
      goes = padded y.goes;
    }

pub read-choices : {form : Form} {tree : Stmts} {n : ℕ} → Sound form tree n → (i : Bool) (room : Room) (x : Expr) (next : To Expr) (ts whole u : Symbols) → Parts whole u ts → are_regular ts ≡ true → Expressed form room i 4 4 u ts x
    → IsDone form tree (suc n) (choice room i x next ts) → Read form tree (suc n) (Expressed form room i 2 2) next whole
read-choices S i room x next [] whole u w r d h = record { used = u; left = []; value = x; whole = w; regular = r; holds = record { is = lower (lit≤ tt) d.is; fit = d.fit; stops = lit< tt }; goes = padded (on h) }
read-choices {form = form} {tree = tree} {n = n} S i room x next (s ∷ ts) whole u w r d h = at (choice-case s.kind) (on h)
  where
    at : ChoiceCase s.kind → IsDone form tree n (choice_by s.kind room i x next s ts) → Read form tree (suc n) (Expressed form room i 2 2) next whole
    at (question e) h = conditional-read S i room x next s ts whole u w r d e (become (ap (λ o. choice_by o room i x next s ts) e) h)
    at (assigned op joint e eq is) h = assigned-read S i room op joint x next s ts whole u w r d e eq (become (is room i x next s ts) h)
    at (other passes stops) h = record {
      used = u;
      left = s ∷ ts;
      value = x;
      whole = w;
      regular = r;
      holds = record { is = lower (lit≤ tt) d.is; fit = d.fit; stops = stops i (ends_changed u) d.stops };
      goes = padded (become (passes room i x next s ts) h);
    }

-- ---- operators

pub read-climbs : {form : Form} {tree : Stmts} {n : ℕ} → Sound form tree n → (i : Bool) (room : Room) (least : ℕ) (next : To Expr) (ts : Symbols) → 4 ≤ least → least ≤ 14 → are_regular ts ≡ true → IsDone form tree (suc n) (climb room i least next ts)
    → Read form tree (suc n) (Expressed form room i least least) next ts
read-climbs S i room least next ts high low r h = let a = S.unaries i room (λ x r. tail room i least x next r) ts r (on h) in
    let stops = a.holds.stops in
    later (S.tails i room least 14 a.value next a.left ts a.used high low (lit≤ tt) a.whole a.regular (record { is = a.holds.is; fit = a.holds.fit; stops = omega (arith, stops) }) a.goes)

operated : {form : Form} {tree : Stmts} {n : ℕ} → Sound form tree n → (i : Bool) (room : Room) (least l : ℕ) (op : Operator) (x : Expr) (next : To Expr) (s : Symbol) (ts whole u : Symbols) → 4 ≤ least → l ≤ 14 → Parts whole u (s ∷ ts) → are_regular (s ∷ ts) ≡ true
    → Expressed form room i l (suc l) u (s ∷ ts) x → s.kind ≡ sign op → least ≤ level op → may_operate i op ≡ true
    → IsDone form tree n (fitting (fits_around room x) ts (climb (inside room) i (suc (level op)) (λ y r. tail room i least (joined op x y) next r) ts)) → Read form tree (suc n) (Expressed form room i least least) next whole
operated S i room least l op x next s ts whole u high low w r d e least-low may h =
    let f = fitted (fits_around room x) ts (climb (inside room) i (suc (level op)) (λ y r. tail room i least (joined op x y) next r) ts) h in
    let known-op = reaches i (ends_changed u) op in
    let a1 = known-op.level_high in
    let a2 = known-op.level_low in
    let y = S.climbs i (inside room) (suc (level op)) (λ y r. tail room i least (joined op x y) next r) ts (omega (arith, a1)) (omega (arith, a2)) (regular-rest s ts r) f.1 in
    let a = around {room = room} x f.0 d.fit in
    let here = d.stops in
    let same = ap (past i (ends_changed u)) e ∙ known-op.allowed may in
    later (S.tails i room least (level op) (joined op x y.value) next y.left whole (u ++ (of_kind (sign op) s.newline ∷ y.used)) high least-low (omega (arith, a2)) (behind w (ahead (known s ts (sign op) (sign-regular op) e r) y.whole)) y.regular
    (record {
      is = g.binary op s.newline (omega arith) may (lower (omega (arith, here, same)) d.is) y.holds.is;
      fit = joined-fits op x y.value (node-in a.0 (both-in a.1 y.holds.fit));
      stops = ends-alike i (suc (level op)) _ _ (front y.left).kind (last-of u (of_kind (sign op) s.newline) y.used (expression-tokens y.holds.is)) y.holds.stops;
    }) y.goes)

pub read-tails : {form : Form} {tree : Stmts} {n : ℕ} → Sound form tree n → (i : Bool) (room : Room) (least l : ℕ) (x : Expr) (next : To Expr) (ts whole u : Symbols) → 4 ≤ least → least ≤ l → l ≤ 14 → Parts whole u ts → are_regular ts ≡ true
    → Expressed form room i l (suc l) u ts x → IsDone form tree (suc n) (tail room i least x next ts) → Read form tree (suc n) (Expressed form room i least least) next whole
read-tails S i room least l x next [] whole u high mid low w r d h = record { used = u; left = []; value = x; whole = w; regular = r; holds = record { is = lower mid d.is; fit = d.fit; stops = omega arith }; goes = padded (on h) }
read-tails {form = form} {tree = tree} {n = n} S i room least l x next (s ∷ ts) whole u high mid low w r d h = at (operator-case s.kind) (on h)
  where
    stop : past i (ends_changed u) s.kind < least → IsDone form tree n (next x (s ∷ ts)) → Read form tree (suc n) (Expressed form room i least least) next whole
    stop less h = record { used = u; left = s ∷ ts; value = x; whole = w; regular = r; holds = record { is = lower mid d.is; fit = d.fit; stops = less }; goes = padded h }

    operator : (op : Operator) → s.kind ≡ sign op → (a c : Bool) → nat_le least (level op) ≡ a → may_operate i op ≡ c
        → IsDone form tree n (if a && c then fitting (fits_around room x) ts (climb (inside room) i (suc (level op)) (λ y r. tail room i least (joined op x y) next r) ts) else next x (s ∷ ts))
        → Read form tree (suc n) (Expressed form room i least least) next whole
    operator op e true true f may h = operated S i room least l op x next s ts whole u high low w r d e (leb-true least (level op) f) may h
    operator op e true false f may h = let same = ap (past i (ends_changed u)) e ∙ (reaches i (ends_changed u) op).refused may in stop (omega (arith, same)) h
    operator op e false c f may h = let same = ap (past i (ends_changed u)) e in let less = leb-false least (level op) f in let under = (reaches i (ends_changed u) op).low in stop (omega (arith, same, less, under)) h

    at : OperatorCase s.kind → IsDone form tree n (tail_by (operator_of s.kind) room i least x next s ts) → Read form tree (suc n) (Expressed form room i least least) next whole
    at (none e stops) h = let here = d.stops in let less = stops i (ends_changed u) (omega (arith, here)) in stop (omega (arith, less)) (become (ap (λ o. tail_by o room i least x next s ts) e) h)
    at (operates op f e) h = operator op e (nat_le least (level op)) (may_operate i op) refl refl (become (ap (λ o. tail_by o room i least x next s ts) f) h)

-- ---- prefix and postfix operators

pub as-expression : {form : Form} {room : Room} {i : Bool} {left u : Symbols} {x : Expr} → Operand form room i true left u x → Expressed form room i 16 14 u left x
as-expression {i = i} {left = left} (linked {u = u} h) = record { is = lower (lit≤ tt) h.is; fit = h.fit; stops = not-linked i (ends_changed u) (front left).kind h.stops }
as-expression {i = i} {left = left} (bare {u = u} newline d fit stops) = record { is = g.bare_new newline (lit≤ tt) d; fit = fit; stops = not-linked i (ends_changed (word w.New newline ∷ u)) (front left).kind stops }

prefix-read : {form : Form} {tree : Stmts} {n : ℕ} → Sound form tree n → (i : Bool) (room : Room) (op : PrefixOp) (a : Bool) (next : To Expr) (s : Symbol) (ts : Symbols) → are_regular (s ∷ ts) ≡ true → s.kind ≡ prefix_sign op → changes op ≡ a
    → IsDone form tree n (prefix_by a room op next ts) → Read form tree (suc n) (Expressed form room i 14 14) next (s ∷ ts)
prefix-read S i room op true next s ts r e c h =
    let f = fitted (fits_node room) ts (operand (inside room) true (λ x r. guard (is_target x) r (next (Tree.Prefix op x) r)) ts) h in
    let x = S.operands i true (inside room) (λ x r. guard (is_target x) r (next (Tree.Prefix op x) r)) ts (regular-rest s ts r) f.1 in
    let d = as-expression x.holds in
    let t = guarded (is_target x.value) x.left (next (Tree.Prefix op x.value) x.left) x.goes in
    record {
      used = of_kind (prefix_sign op) s.newline ∷ x.used;
      left = x.left;
      value = Tree.Prefix op x.value;
      whole = ahead (known s ts (prefix_sign op) (prefix-regular op) e r) x.whole;
      regular = x.regular;
      holds = record {
        is = g.changed op s.newline (lit≤ tt) c d.is t.0;
        fit = node-in f.0 d.fit;
        stops = ends-alike i 14 _ _ (front x.left).kind (last-of [] (of_kind (prefix_sign op) s.newline) x.used (expression-tokens d.is)) d.stops;
      };
      goes = padded t.1;
    }
prefix-read S i room op false next s ts r e c h =
    let f = fitted (fits_node room) ts (unary (inside room) (λ x r. next (Tree.Prefix op x) r) ts) h in
    let x = S.unaries i (inside room) (λ x r. next (Tree.Prefix op x) r) ts (regular-rest s ts r) f.1 in
    record {
      used = of_kind (prefix_sign op) s.newline ∷ x.used;
      left = x.left;
      value = Tree.Prefix op x.value;
      whole = ahead (known s ts (prefix_sign op) (prefix-regular op) e r) x.whole;
      regular = x.regular;
      holds = record {
        is = g.prefix op s.newline (lit≤ tt) c x.holds.is;
        fit = node-in f.0 x.holds.fit;
        stops = ends-alike i 14 _ _ (front x.left).kind (last-of [] (of_kind (prefix_sign op) s.newline) x.used (expression-tokens x.holds.is)) x.holds.stops;
      };
      goes = padded x.goes;
    }

pub read-unaries : {form : Form} {tree : Stmts} {n : ℕ} → Sound form tree n → (i : Bool) (room : Room) (next : To Expr) (ts : Symbols) → are_regular ts ≡ true → IsDone form tree (suc n) (unary room next ts)
    → Read form tree (suc n) (Expressed form room i 14 14) next ts
read-unaries S i room next [] r h = absurd (never (on h))
read-unaries {form = form} {tree = tree} {n = n} S i room next (s ∷ ts) r h = at (prefix-case s.kind) (on h)
  where
    at : PrefixCase s.kind → IsDone form tree n (unary_by (prefix_of s.kind) room next s ts) → Read form tree (suc n) (Expressed form room i 14 14) next (s ∷ ts)
    at (prefixes op f e) h = prefix-read S i room op (changes op) next s ts r e refl (become (ap (λ o. unary_by o room next s ts) f) h)
    at (plain f) h = let x = S.operands i true room (λ x r. postfix room x next r) (s ∷ ts) r (become (ap (λ o. unary_by o room next s ts) f) h) in
        later (S.postfixes i room x.value next x.left (s ∷ ts) x.used x.whole x.regular (as-expression x.holds) x.goes)

pub read-postfixes : {form : Form} {tree : Stmts} {n : ℕ} → Sound form tree n → (i : Bool) (room : Room) (x : Expr) (next : To Expr) (ts whole u : Symbols) → Parts whole u ts → are_regular ts ≡ true → Expressed form room i 16 14 u ts x
    → IsDone form tree (suc n) (postfix room x next ts) → Read form tree (suc n) (Expressed form room i 14 14) next whole
read-postfixes S i room x next [] whole u w r d h = record { used = u; left = []; value = x; whole = w; regular = r; holds = record { is = lower (lit≤ tt) d.is; fit = d.fit; stops = lit< tt }; goes = padded (on h) }
read-postfixes {form = form} {tree = tree} {n = n} S i room x next (s ∷ ts) whole u w r d h = at (postfix-case s.kind s.newline) (on h)
  where
    at : PostfixCase s.kind s.newline → IsDone form tree n (postfix_by s.kind s.newline room x next s ts) → Read form tree (suc n) (Expressed form room i 14 14) next whole
    at (changed_by op e b is) h =
        let t = guarded (is_target x) (s ∷ ts) (fitting (fits_around room x) ts (next (Tree.Postfix x op) ts)) (become (is room x next s ts) h) in
        let f = fitted (fits_around room x) ts (next (Tree.Postfix x op) ts) t.1 in
        let a = around {room = room} x f.0 d.fit in
        record {
          used = u ++ (of_kind (postfix_sign op) false ∷ []);
          left = ts;
          value = Tree.Postfix x op;
          whole = behind w (one-read (subst (λ b. (s ∷ ts) ≡ (of_kind (postfix_sign op) b ∷ ts)) b (known s ts (postfix_sign op) (postfix-regular op) e r)));
          regular = regular-rest s ts r;
          holds = record {
            is = g.postfix op (lit≤ tt) d.is t.0;
            fit = node-in a.0 a.1;
            stops = ends-alike i 14 _ _ (front ts).kind (ends-join false u (of_kind (postfix_sign op) false ∷ []) ∙ postfix-change op) (behind-change i (front ts).kind);
          };
          goes = padded f.1;
        }
    at (unchanged passes) h = record {
      used = u;
      left = s ∷ ts;
      value = x;
      whole = w;
      regular = r;
      holds = record { is = lower (lit≤ tt) d.is; fit = d.fit; stops = d.stops };
      goes = padded (become (passes room x next s ts) h);
    }

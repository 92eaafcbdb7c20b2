-- What has a tree by the grammar is read by the machine, where there is room for the tree: the
-- whole grammar.
use Rattle.std.proofs.Common.{◌≡◌, ◌<◌, Bool, true, false, not, ◌||◌, List, [], ◌∷◌, ◌++◌, Some, None, codes, refl, ap, sym, ◌∙◌, subst, arith, lit≤, lit<, ℕ}
use Rattle.std.proofs.lemmas.List.{append_assoc}
use Rattle.js_lexer.specs.declared.mark.Mark.TheVariants as m
use Rattle.js_lexer.specs.declared.word.Word.TheVariants as w
use Rattle.js_tree.specs.Tree.{Name, Expr, Exprs, MaybeExpr, Elements, Pairs, Stmt, Stmts, VarItems, Cases, ForInit}
use Rattle.js_tree.specs.Tree
use Rattle.js_parser.specs.declared.form.Form.{Form}
use Rattle.js_parser.specs.Symbols.{Symbol, Symbols, of_kind, word, mark, name, number, first}
use Rattle.js_tree.specs.Levels.{joined, level}
use Rattle.js_parser.specs.Operators.{sign, prefix_sign, postfix_sign, is_target}
use Rattle.js_parser.specs.Names.{get_name, is_reference, is_among}
use Rattle.js_parser.specs.Contexts.{Context}
use Rattle.js_parser.specs.Contexts as context
use Rattle.js_parser.specs.Ends.{ends_changed, kind_reach}
use Rattle.js_parser.specs.Grammar.{Expression, NewCallee, Arguments, ArgumentList, ElementList, PropertyList, FunctionRest, Declarator, DeclaratorList, OptionalExpression, ForFirst, Block, Statement, StatementList, CaseClauses, SourceElements, code}
use Rattle.js_parser.specs.Grammar as g
use Rattle.js_parser.specs.Rooms.{Room, inside, in_function}
use Rattle.js_parser.specs.Machine.{State, comma, comma_tail, assign, choice, climb, tail, unary, postfix, operand, links, arguments, argument_list, elements, pairs, rest, formals, declarator, declarators, optional, statement, list, source, clauses, To, Goes, here, then_on}
use Rattle.js_parser.specs.Machine as mc
use Rattle.js_parser.proofs.Runs.{onwards, stepped, allowed, fitted}
use Rattle.js_parser.proofs.Room.{Has}
use Rattle.js_parser.proofs.Room as parts
use Rattle.js_parser.proofs.Levels.{more, expression-tokens}
use Rattle.js_parser.proofs.EndTokens.{one, operand-starts, expression-starts, argument-starts, operand-end, callee-end, last-of, no_label, expression-no-label}
use Rattle.js_parser.proofs.EndTokens as start
use Rattle.js_parser.proofs.ReadsStops.{front, reach_of, links-stop, tail-stop, new-stop}
use Rattle.js_parser.proofs.ReadsOperators.{level-high, sign-reach, operates, prefixed, assigned, assigns-reach, no-prefix}
use Rattle.js_parser.proofs.ReadsLevels.{Known, by-commas, by-choice, by-climb, by-unary, by-operand, by-linked, called, read-comma, read-assign, read-right, placed}
use Rattle.js_parser.proofs.ReadsSteps.{both, either, same, from, not-eval, same-reach, same-reach-of, starting, elements-start, arguments-start, optional-start, post-reach, post-step, open_arguments, call-step, new-step, links-paren, function-step, formals-read, declared_in, list_in, list-same, list-none, bare-stop, declared-comma, declarators-stop, comma-declared, semicolon-declared, in-declared, more-items, declarator-list-tokens, ended-read, ends-follow, list-follow}
use Rattle.js_parser.proofs.ReadsStarts.{block-step, among-some, may_follow, stops, closes, not-finally, list-start, source-start, list-stop, source-stop, stated-start, if-stop, finally-stop, header-start, return-start, jump-read, return-read, front-join, ends-colon, closer, statement-starts, list-may, source-may, clauses-stop, for-read, beginning, told, closes-stop, clauses-end}

mutual
  pub known : {form : Form} {i : Bool} {l : ℕ} {u : Symbols} {x : Expr} → Expression form i l u x → Known form i l u x
  known {form = form} {i = i} {l = l} (g.this a h) = by-linked form i l _ _ (one _ _ refl) refl (λ room has c next ts t up d. then_on (fitted _ (parts.node has) d))
  known {form = form} {i = i} {l = l} (g.identifier {n = n} a h r) =
      by-linked form i l _ _ (one _ _ refl) refl (λ room has c next ts t up d. stepped (ap (λ o. mc.name_by o form n room c next (name n a) ts) (not-eval form n r)) (allowed _ r (fitted _ (parts.node has) d)))
  known {form = form} {i = i} {l = l} (g.null a h) = by-linked form i l _ _ (one _ _ refl) refl (λ room has c next ts t up d. then_on (fitted _ (parts.node has) d))
  known {form = form} {i = i} {l = l} (g.truth a h) = by-linked form i l _ _ (one _ _ refl) refl (λ room has c next ts t up d. then_on (fitted _ (parts.node has) d))
  known {form = form} {i = i} {l = l} (g.falsehood a h) = by-linked form i l _ _ (one _ _ refl) refl (λ room has c next ts t up d. then_on (fitted _ (parts.node has) d))
  known {form = form} {i = i} {l = l} (g.numeral d a h) = by-linked form i l _ _ (one _ _ refl) refl (λ room has c next ts t up d. then_on (fitted _ (parts.node has) d))
  known {form = form} {i = i} {l = l} (g.literal a h) = by-linked form i l _ _ (one _ _ refl) refl (λ room has c next ts t up d. then_on (fitted _ (parts.node has) d))
  known {form = form} {i = i} {l = l} (g.array {u = u} {es = es} a b h xs) =
      by-linked form i l _ _ (one _ _ refl) (operand-end {l = 16} (lit≤ tt) (g.array {i = i} a b (lit≤ tt) xs)) (λ room has c next ts t up d.
      then_on (fitted _ (parts.node has)
      (placed (elements (inside room) (λ es. mc.expect mc.is_close_bracket (links room c (Tree.Array es) next))) (append_assoc u (mark m.CloseBracket b ∷ []) ts)
      (onwards (elements-read xs (parts.array has) (λ es. mc.expect mc.is_close_bracket (links room c (Tree.Array es) next)) b ts) d))))
  known {form = form} {i = i} {l = l} (g.object {u = u} {ps = ps} a b h xs) =
      by-linked form i l _ _ (one _ _ refl) (operand-end {l = 16} (lit≤ tt) (g.object {i = i} a b (lit≤ tt) xs)) (λ room has c next ts t up d.
      then_on (fitted _ (parts.node has)
      (placed (pairs (inside room) (λ ps. mc.expect mc.is_close_brace (links room c (Tree.Object ps) next))) (append_assoc u (mark m.CloseBrace b ∷ []) ts)
      (onwards (pairs-read xs (parts.object has) (λ ps. mc.expect mc.is_close_brace (links room c (Tree.Object ps) next)) b ts) d))))
  known {form = form} {i = i} {l = l} (g.parenthesised {u = u} {x = x} a b h dx) =
      by-linked form i l _ _ (one _ _ refl) (operand-end {l = 16} (lit≤ tt) (g.parenthesised {i = i} a b (lit≤ tt) dx)) (λ room has c next ts t up d.
      then_on (placed (comma room true (λ x. mc.expect mc.is_close_parenthesis (links room c x next))) (append_assoc u (mark m.CloseParenthesis b ∷ []) ts)
      (onwards (read-comma (known dx) (lit≤ tt) has (λ x. mc.expect mc.is_close_parenthesis (links room c x next)) (mark m.CloseParenthesis b ∷ ts) (lit< tt)) d)))
  known {form = form} {i = i} {l = l} (g.function {ns = ns} {body = body} a h f) =
      by-linked form i l _ _ (one _ _ refl) (operand-end {l = 16} (lit≤ tt) (g.function {i = i} a (lit≤ tt) f)) (λ room has c next ts t up d.
      then_on (fitted _ (parts.function has)
      (from (function-step f room c next ts) (onwards (rest-read f (parts.function-body has) (λ ns body r. links room c (Tree.Function (code None ns body)) next r) ts) d))))
  known {form = form} {i = i} {l = l} (g.named_function {n = n} a b h r f) =
      by-linked form i l _ _ (one _ _ refl) (operand-end {l = 16} (lit≤ tt) (g.named_function {i = i} {n = n} a b (lit≤ tt) r f)) (λ room has c next ts t up d.
      then_on (fitted _ (parts.function has) (allowed _ r (onwards (rest-read f (parts.function-body has) (λ ns body r. links room c (Tree.Function (code (Some n) ns body)) next r) ts) d))))
  known {form = form} {i = i} {l = l} (g.late {n = n} c1 c2 c3 c4 c5 c6 c7 h written numbered) =
      by-linked form i l _ _ (one _ _ refl) refl (λ room has c next ts t up d.
      stepped (ap (λ f. mc.late_in f room c next (name (codes "eval") c1) (mark m.OpenParenthesis c2 ∷ name get_name c3 ∷ mark m.OpenParenthesis c4 ∷ number n c5 ∷ mark m.CloseParenthesis c6 ∷ mark m.CloseParenthesis c7 ∷ ts)) written)
      (fitted _ (parts.node has) (allowed _ numbered d)))
  known {form = form} {i = i} {l = l} (g.dot {n = n} {u = u} {x = x} o a b h1 h2 h dx r) =
      by-linked form i l _ _ (start.starts-append u _ (operand-starts (omega arith) dx)) (operand-end {l = 17} (lit≤ tt) (g.dot o a b h1 h2 h1 dx r)) (λ room has c next ts t up d.
      placed (operand room c next) (append_assoc u (mark m.Dot a ∷ (name n b ∷ [])) ts)
      ((known dx).linked h1 room (parts.dot-object has) c next (mark m.Dot a ∷ (name n b ∷ ts)) t (λ f. let q = up f in omega arith) (then_on (fitted _ (parts.dot has) (allowed _ r d)))))
  known {form = form} {i = i} {l = l} (g.index {u = u} {v = v} {x = x} o a b h1 h2 h dx dy) =
      by-linked form i l _ _ (start.starts-append u _ (operand-starts (omega arith) dx)) (operand-end {l = 17} (lit≤ tt) (g.index o a b h1 h2 h1 dx dy)) (λ room has c next ts t up d.
      placed (operand room c next) (append_assoc u (mark m.OpenBracket a ∷ (v ++ (mark m.CloseBracket b ∷ []))) ts)
      ((known dx).linked h1 room (parts.index-object has) c next (mark m.OpenBracket a ∷ ((v ++ (mark m.CloseBracket b ∷ [])) ++ ts)) t (λ f. let q = up f in omega arith)
      (then_on (fitted _ (parts.index has) (placed (comma (inside room) true (λ y. mc.expect mc.is_close_bracket (links room c (Tree.Index x y) next))) (append_assoc v (mark m.CloseBracket b ∷ []) ts)
      (onwards (read-comma (known dy) (lit≤ tt) (parts.index-key has) (λ y. mc.expect mc.is_close_bracket (links room c (Tree.Index x y) next)) (mark m.CloseBracket b ∷ ts) (lit< tt)) d))))))
  known {form = form} {i = i} {l = l} (g.call {u = u} {v = v} {x = x} {xs = xs} h dx ys) =
      by-linked form i l _ _ (start.starts-append u v (operand-starts (lit≤ tt) dx)) (operand-end {l = 17} (lit≤ tt) (g.call (lit≤ tt) dx ys)) (λ room has c next ts t up d.
      called form l room c x h up u v ts next t (λ next r t d. (known dx).linked (lit≤ tt) room (parts.call-callee has) true next r t (λ f. cc) d)
      (λ e. stepped (call-step ys room x next ts (parts.call has))
      (onwards (arguments-read ys (parts.call-arguments has) (λ ys. links room true (Tree.Call x ys) next) ts) (subst (λ c. Goes form (links room c (Tree.Call x xs) next ts) t) e d))))
  known {form = form} {i = i} {l = l} (g.new {u = u} {v = v} {x = x} {xs = xs} a h dx ys) =
      by-linked form i l _ _ (one _ _ refl) (operand-end {l = 18} (lit≤ tt) (g.new a (lit≤ tt) dx ys)) (λ room has c next ts t up d.
      then_on (fitted _ (parts.node has) (placed (operand (inside room) false (λ x r. mc.after_new room c x next r)) (append_assoc u v ts)
      ((known dx).linked (lit≤ tt) (inside room) (parts.new-callee has) false (λ x r. mc.after_new room c x next r) (v ++ ts) t (λ f. lit≤ tt)
      (stepped (links-paren ys (inside room) x (λ x r. mc.after_new room c x next r) ts)
      (from (new-step ys room c x next ts) (onwards (arguments-read ys (parts.new-arguments has) (λ ys. links room c (Tree.New x ys) next) ts) d)))))))
  known {form = form} {i = i} {l = l} (g.bare_new {u = u} {x = x} a h dx) =
      by-operand form i l _ _ h (one _ _ refl) (callee-end dx) (λ room has next ts reaches.
      then_on (fitted _ (parts.node has) (onwards (callee-read dx (parts.new-callee has) (λ x r. mc.after_new room true x next r) ts reaches)
      (same (new-stop room true x next ts (let e = ap (λ c. kind_reach c (front ts).newline (front ts).kind) (callee-end dx) in omega (arith, e, reaches)))))))
  known {form = form} {i = i} {l = l} (g.postfix {u = u} {x = x} op h dx target) =
      by-unary form i l _ _ h (λ room has next ts reaches.
      let s = operand-starts (lit≤ tt) dx in
      placed (unary room next) (append_assoc u (of_kind (postfix_sign op) false ∷ []) ts)
      (subst (λ v. Goes form (unary room next (v ++ (of_kind (postfix_sign op) false ∷ ts))) (next (Tree.Postfix x op) ts)) (sym s.are)
      (stepped (ap (λ o. mc.unary_by o room next s.head (s.others ++ (of_kind (postfix_sign op) false ∷ ts))) (no-prefix s.head.kind s.passes))
      (subst (λ v. Goes form (operand room true (λ x r. postfix room x next r) (v ++ (of_kind (postfix_sign op) false ∷ ts))) (next (Tree.Postfix x op) ts)) s.are
      (onwards ((known dx).operand_is (lit≤ tt) room (parts.postfix-target has) (λ x r. postfix room x next r) (of_kind (postfix_sign op) false ∷ ts) (post-reach op (ends_changed u)))
      (stepped (post-step op room x next (of_kind (postfix_sign op) false) ts target (parts.postfix has)) here))))))
  known {form = form} {i = i} {l = l} (g.prefix {u = u} {x = x} op a h n dx) =
      by-unary form i l _ _ (omega arith) (λ room has next ts reaches.
      stepped (ap (λ o. mc.unary_by o room next (of_kind (prefix_sign op) a) (u ++ ts)) (prefixed op) ∙ ap (λ c. mc.prefix_by c room op next (u ++ ts)) n)
      (fitted _ (parts.node has) ((known dx).unary_is (lit≤ tt) (inside room) (parts.prefix-operand has) (λ x r. next (Tree.Prefix op x) r) ts
      (let e = same-reach-of (of_kind (prefix_sign op) a ∷ u) u (front ts) (last-of [] (of_kind (prefix_sign op) a) u (expression-tokens dx)) in omega (arith, e, reaches)))))
  known {form = form} {i = i} {l = l} (g.changed {u = u} {x = x} op a h n dx target) =
      by-unary form i l _ _ (omega arith) (λ room has next ts reaches.
      stepped (ap (λ o. mc.unary_by o room next (of_kind (prefix_sign op) a) (u ++ ts)) (prefixed op) ∙ ap (λ c. mc.prefix_by c room op next (u ++ ts)) n)
      (fitted _ (parts.node has) (onwards ((known dx).operand_is (lit≤ tt) (inside room) (parts.prefix-operand has) (λ x r. mc.guard (is_target x) r (next (Tree.Prefix op x) r)) ts
      (let e = same-reach-of (of_kind (prefix_sign op) a ∷ u) u (front ts) (last-of [] (of_kind (prefix_sign op) a) u (expression-tokens dx)) in omega (arith, e, reaches)))
      (allowed _ target here))))
  known {form = form} {i = i} {l = l} (g.binary {u = u} {v = v} {x = x} {y = y} op a h may dx dy) = let high = level-high op in
      by-climb form i l _ _ (level op) h high.0 high.1 (λ c low le room has least next ts t within reaches d.
      let e = same-reach (u ++ (of_kind (sign op) a ∷ v)) v i (front ts) (last-of u (of_kind (sign op) a) v (expression-tokens dy)) in
      placed (climb room i least next) (append_assoc u (of_kind (sign op) a ∷ v) ts)
      ((known dx).climbs (level op) high.0 high.1 (omega arith) room (parts.joined-left op x y has) least next (of_kind (sign op) a ∷ (v ++ ts)) t (omega arith) (sign-reach i (ends_changed u) a op)
      (stepped (operates room i least op x next (of_kind (sign op) a) (v ++ ts) (omega arith) may)
      (fitted _ (parts.joined-fits op x y has) (onwards (read-right op (known dy) (parts.joined-right op x y has) (λ y r. tail room i least (joined op x y) next r) ts (omega (arith, e, reaches))) d)))))
  known {form = form} {i = i} {l = l} (g.conditional {u = u} {v = v} {z = z} {x = x} {y = y} a b h dx dy dz) =
      by-choice form i l _ _ h (λ room has next ts reaches.
      let e = same-reach (u ++ (mark m.Question a ∷ (v ++ (mark m.Colon b ∷ z)))) (v ++ (mark m.Colon b ∷ z)) i (front ts) (last-of u (mark m.Question a) (v ++ (mark m.Colon b ∷ z)) (more v _ _)) in
      let f = same-reach (v ++ (mark m.Colon b ∷ z)) z i (front ts) (last-of v (mark m.Colon b) z (expression-tokens dz)) in
      placed (assign room i next) (append_assoc u (mark m.Question a ∷ (v ++ (mark m.Colon b ∷ z))) ts)
      (then_on ((known dx).climbs 4 (lit≤ tt) (lit≤ tt) (lit≤ tt) room (parts.cond-test has) 4 (λ x r. choice room i x next r) (mark m.Question a ∷ ((v ++ (mark m.Colon b ∷ z)) ++ ts)) _ (lit≤ tt) (lit≤ tt)
      (onwards (tail-stop room i (ends_changed u) 4 x (λ x r. choice room i x next r) (mark m.Question a ∷ ((v ++ (mark m.Colon b ∷ z)) ++ ts)) (lit< tt))
      (then_on (fitted _ (parts.cond has)
      (placed (assign (inside room) true (λ y. mc.expect mc.is_colon (assign (inside room) i (λ z r. next (Tree.Cond x y z) r)))) (append_assoc v (mark m.Colon b ∷ z) ts)
      (onwards (read-assign (known dy) (lit≤ tt) (parts.cond-then has) (λ y. mc.expect mc.is_colon (assign (inside room) i (λ z r. next (Tree.Cond x y z) r))) (mark m.Colon b ∷ (z ++ ts)) (lit< tt))
      (read-assign (known dz) (lit≤ tt) (parts.cond-other has) (λ z r. next (Tree.Cond x y z) r) ts (omega (arith, e, f, reaches)))))))))))
  known {form = form} {i = i} {l = l} (g.assign {u = u} {v = v} {x = x} {y = y} op joint a h eq dx target dy) =
      by-choice form i l _ _ (omega arith) (λ room has next ts reaches.
      let e = same-reach (u ++ (mark joint a ∷ v)) v i (front ts) (last-of u (mark joint a) v (expression-tokens dy)) in
      let two = assigns-reach op joint i (ends_changed u) a eq in
      placed (assign room i next) (append_assoc u (mark joint a ∷ v) ts)
      (then_on ((known dx).climbs 4 (lit≤ tt) (lit≤ tt) (lit≤ tt) room (parts.assign-target has) 4 (λ x r. choice room i x next r) (mark joint a ∷ (v ++ ts)) _ (lit≤ tt) (omega (arith, two))
      (onwards (tail-stop room i (ends_changed u) 4 x (λ x r. choice room i x next r) (mark joint a ∷ (v ++ ts)) (omega (arith, two)))
      (stepped (assigned op joint room i x next (mark joint a) (v ++ ts) eq)
      (allowed _ target (fitted _ (parts.assign has) (read-assign (known dy) (lit≤ tt) (parts.assign-value has) (λ y r. next (Tree.Assign op x y) r) ts (omega (arith, e, reaches))))))))))
  known {form = form} {i = i} {l = l} (g.comma {u = u} {v = v} {x = x} {y = y} a h dx dy) =
      by-commas form i l _ _ h (λ room has next ts t reaches d.
      let e = same-reach (u ++ (mark m.Comma a ∷ v)) v i (front ts) (last-of u (mark m.Comma a) v (expression-tokens dy)) in
      placed (comma room i next) (append_assoc u (mark m.Comma a ∷ v) ts)
      ((known dx).commas (lit≤ tt) room (parts.comma-left has) next (mark m.Comma a ∷ (v ++ ts)) t (lit< tt)
      (then_on (fitted _ (parts.comma has) (onwards (read-assign (known dy) (lit≤ tt) (parts.comma-right has) (λ y r. comma_tail room i (Tree.Comma x y) next r) ts (omega (arith, e, reaches))) d)))))

  pub callee-read : {form : Form} {i : Bool} {u : Symbols} {x : Expr} {room : Room} → NewCallee form i u x → Has room (parts.expr x) → (next : To Expr) (ts : Symbols) → reach_of u (front ts) < 16 → Goes form (operand room false next (u ++ ts)) (next x ts)
  callee-read {room = room} (g.member {x = x} d) has next ts reaches =
      (known d).linked (lit≤ tt) room has false next ts (next x ts) (λ f. lit≤ tt)
      (links-stop room false x next ts (let e = ap (λ c. kind_reach c (front ts).newline (front ts).kind) (operand-end (lit≤ tt) d) in omega (arith, e, reaches)))
  callee-read {room = room} (g.new_again {x = x} a d) has next ts reaches =
      then_on (fitted _ (parts.node has) (onwards (callee-read d (parts.new-callee has) (λ x r. mc.after_new room false x next r) ts reaches)
      (same (new-stop room false x next ts (let e = ap (λ c. kind_reach c (front ts).newline (front ts).kind) (callee-end d) in omega (arith, e, reaches))))))

  pub arguments-read : {form : Form} {v : Symbols} {xs : Exprs} {room : Room} → Arguments form v xs → Has room (parts.exprs xs) → (next : Exprs → Symbols → State) (ts : Symbols) → Goes form (open_arguments room next (v ++ ts)) (next xs ts)
  arguments-read (g.no_arguments a b) has next ts = then_on here
  arguments-read {room = room} (g.arguments {u = u} a b xs) has next ts =
      placed (arguments room (λ xs. mc.expect mc.is_close_parenthesis (next xs))) (append_assoc u (mark m.CloseParenthesis b ∷ []) ts)
      (starting (arguments room (λ xs. mc.expect mc.is_close_parenthesis (next xs))) (argument_list room (λ xs. mc.expect mc.is_close_parenthesis (next xs))) u (mark m.CloseParenthesis b ∷ ts)
      (argument-starts xs) (λ s rs h. arguments-start room (λ xs. mc.expect mc.is_close_parenthesis (next xs)) s rs s.kind h)
      (argument-list-read xs has (λ xs. mc.expect mc.is_close_parenthesis (next xs)) b ts))

  pub argument-list-read : {form : Form} {u : Symbols} {xs : Exprs} {room : Room} → ArgumentList form u xs → Has room (parts.exprs xs) → (next : To Exprs) (d : Bool) (ts : Symbols)
      → Goes form (argument_list room next (u ++ (mark m.CloseParenthesis d ∷ ts))) (next xs (mark m.CloseParenthesis d ∷ ts))
  argument-list-read {room = room} (g.last_argument x) has next d ts =
      then_on (read-assign (known x) (lit≤ tt) (parts.argument has) (λ x r. mc.after_argument room x next r) (mark m.CloseParenthesis d ∷ ts) (lit< tt))
  argument-list-read {room = room} (g.argument_and {u = u} {v = v} {x = x} a dx xs) has next d ts =
      then_on (placed (assign room true (λ x r. mc.after_argument room x next r)) (append_assoc u (mark m.Comma a ∷ v) (mark m.CloseParenthesis d ∷ ts))
      (onwards (read-assign (known dx) (lit≤ tt) (parts.argument has) (λ x r. mc.after_argument room x next r) (mark m.Comma a ∷ (v ++ (mark m.CloseParenthesis d ∷ ts))) (lit< tt))
      (argument-list-read xs (parts.more-arguments has) (λ xs r. next (Tree.MoreExprs x xs) r) d ts)))

  pub elements-read : {form : Form} {u : Symbols} {es : Elements} {room : Room} → ElementList form u es → Has room (parts.elements es) → (next : To Elements) (d : Bool) (ts : Symbols)
      → Goes form (elements room next (u ++ (mark m.CloseBracket d ∷ ts))) (next es (mark m.CloseBracket d ∷ ts))
  elements-read g.no_element has next d ts = then_on here
  elements-read {room = room} (g.last_element {u = u} x) has next d ts =
      starting (elements room next) (assign room true (λ x r. mc.after_element room x next r)) u (mark m.CloseBracket d ∷ ts) (expression-starts x) (λ s rs h. elements-start room next s rs s.kind h)
      (read-assign (known x) (lit≤ tt) (parts.element has) (λ x r. mc.after_element room x next r) (mark m.CloseBracket d ∷ ts) (lit< tt))
  elements-read {room = room} (g.element_and {u = u} {v = v} {x = x} a dx es) has next d ts =
      placed (elements room next) (append_assoc u (mark m.Comma a ∷ v) (mark m.CloseBracket d ∷ ts))
      (starting (elements room next) (assign room true (λ x r. mc.after_element room x next r)) u (mark m.Comma a ∷ (v ++ (mark m.CloseBracket d ∷ ts))) (expression-starts dx) (λ s rs h. elements-start room next s rs s.kind h)
      (onwards (read-assign (known dx) (lit≤ tt) (parts.element has) (λ x r. mc.after_element room x next r) (mark m.Comma a ∷ (v ++ (mark m.CloseBracket d ∷ ts))) (lit< tt))
      (elements-read es (parts.more-elements has) (λ es r. next (Tree.MoreElements (Tree.AnExpr x) es) r) d ts)))
  elements-read (g.hole_and a es) has next d ts = then_on (elements-read es (parts.more-elements has) (λ es r. next (Tree.MoreElements Tree.NoExpr es) r) d ts)

  pub pairs-read : {form : Form} {u : Symbols} {ps : Pairs} {room : Room} → PropertyList form u ps → Has room (parts.pairs ps) → (next : To Pairs) (d : Bool) (ts : Symbols)
      → Goes form (pairs room next (u ++ (mark m.CloseBrace d ∷ ts))) (next ps (mark m.CloseBrace d ∷ ts))
  pairs-read g.no_property has next d ts = then_on here
  pairs-read {room = room} (g.last_property {key = key} {u = u} s b h x) has next d ts =
      stepped (ap (λ o. mc.pairs_by o room next s (mark m.Colon b ∷ (u ++ (mark m.CloseBrace d ∷ ts)))) h)
      (read-assign (known x) (lit≤ tt) (parts.pair has) (λ x r. mc.after_pair room key x next r) (mark m.CloseBrace d ∷ ts) (lit< tt))
  pairs-read {room = room} (g.property_and {key = key} {u = u} {v = v} {x = x} s b c h dx ps) has next d ts =
      stepped (ap (λ o. mc.pairs_by o room next s (mark m.Colon b ∷ ((u ++ (mark m.Comma c ∷ v)) ++ (mark m.CloseBrace d ∷ ts)))) h)
      (placed (assign room true (λ x r. mc.after_pair room key x next r)) (append_assoc u (mark m.Comma c ∷ v) (mark m.CloseBrace d ∷ ts))
      (onwards (read-assign (known dx) (lit≤ tt) (parts.pair has) (λ x r. mc.after_pair room key x next r) (mark m.Comma c ∷ (v ++ (mark m.CloseBrace d ∷ ts))) (lit< tt))
      (pairs-read ps (parts.more-pairs has) (λ ps r. next (Tree.MorePairs key x ps) r) d ts)))

  pub rest-read : {form : Form} {u : Symbols} {ns : List Name} {body : Stmts} {room : Room} → FunctionRest form u ns body → Has room (parts.stmts body) → (next : List Name → Stmts → Symbols → State) (ts : Symbols)
      → Goes form (rest room next (u ++ ts)) (next ns body ts)
  rest-read {room = room} (g.function_rest {u = u} {v = v} {ns = ns} a b c d fs h body) has next ts =
      then_on (placed (formals [] (λ ns. mc.expect mc.is_close_parenthesis (mc.expect mc.is_open_brace (source room context.function (λ body. mc.expect mc.is_close_brace (next ns body))))))
      (append_assoc u (mark m.CloseParenthesis b ∷ (mark m.OpenBrace c ∷ (v ++ (mark m.CloseBrace d ∷ [])))) ts)
      (onwards (formals-read fs [] h (λ ns. mc.expect mc.is_close_parenthesis (mc.expect mc.is_open_brace (source room context.function (λ body. mc.expect mc.is_close_brace (next ns body)))))
      b (mark m.OpenBrace c ∷ ((v ++ (mark m.CloseBrace d ∷ [])) ++ ts)))
      (placed (source room context.function (λ body. mc.expect mc.is_close_brace (next ns body))) (append_assoc v (mark m.CloseBrace d ∷ []) ts)
      (source-read body has (λ body. mc.expect mc.is_close_brace (next ns body)) (mark m.CloseBrace d ∷ ts) refl refl))))

  pub declarator-read : {form : Form} {i : Bool} {u : Symbols} {n : Name} {value : MaybeExpr} {room : Room} → Declarator form i u n value → Has room (parts.maybe_expr value) → (next : Name → MaybeExpr → Symbols → State) (ts : Symbols)
      → declared_in i u (front ts) value < 2 → Goes form (declarator room i next (u ++ ts)) (next n value ts)
  declarator-read {i = i} {room = room} (g.bare {n = n} a h) has next ts reaches = then_on (allowed _ h (same (bare-stop room i n next ts reaches)))
  declarator-read {i = i} (g.initialised {n = n} {u = u} a b h x) has next ts reaches =
      then_on (allowed _ h (read-assign (known x) (lit≤ tt) (parts.present has) (λ x r. next n (Tree.AnExpr x) r) ts reaches))

  pub declarators-read : {form : Form} {i : Bool} {u : Symbols} {items : VarItems} {room : Room} → DeclaratorList form i u items → Has room (parts.var_items items) → (next : To VarItems) (ts : Symbols) → list_in i u (front ts) items < 1
      → Goes form (declarators room i next (u ++ ts)) (next items ts)
  declarators-read {i = i} {room = room} (g.last_declarator {n = n} {u = u} {value = value} d) has next ts reaches =
      then_on (onwards (declarator-read d (parts.item has) (λ n value r. mc.after_declarator room i n value next r) ts (omega arith))
      (same (declarators-stop room i n value next ts (declared-comma i u (front ts) value reaches))))
  declarators-read {i = i} {room = room} (g.declarator_and {n = n} {u = u} {v = v} {value = value} {items = items} a d ds) has next ts reaches =
      then_on (placed (declarator room i (λ n value r. mc.after_declarator room i n value next r)) (append_assoc u (mark m.Comma a ∷ v) ts)
      (onwards (declarator-read d (parts.item has) (λ n value r. mc.after_declarator room i n value next r) (mark m.Comma a ∷ (v ++ ts)) (comma-declared i u a value))
      (declarators-read ds (parts.more-items has) (λ items r. next (Tree.MoreVarItems n value items) r) ts
      (let e = more-items ds (u ++ (mark m.Comma a ∷ v)) (front ts) n value in
      let f = list-same i (u ++ (mark m.Comma a ∷ v)) v (front ts) items (last-of u (mark m.Comma a) v (declarator-list-tokens ds)) in omega (arith, e, f, reaches)))))

  pub optional-read : {form : Form} {u : Symbols} {x : MaybeExpr} {room : Room} → OptionalExpression form u x → Has room (parts.maybe_expr x) → (next : To MaybeExpr) (a d : Bool) (ts : Symbols)
      → Goes form (optional room next (u ++ (mark (closer a) d ∷ ts))) (next x (mark (closer a) d ∷ ts))
  optional-read g.absent has next true d ts = then_on here
  optional-read g.absent has next false d ts = then_on here
  optional-read {room = room} (g.present {u = u} x) has next true d ts =
      starting (optional room next) (comma room true (λ x r. next (Tree.AnExpr x) r)) u (mark m.Semicolon d ∷ ts) (expression-starts x) (λ s rs h. optional-start room next s rs s.kind h)
      (read-comma (known x) (lit≤ tt) (parts.present has) (λ x r. next (Tree.AnExpr x) r) (mark m.Semicolon d ∷ ts) (lit< tt))
  optional-read {room = room} (g.present {u = u} x) has next false d ts =
      starting (optional room next) (comma room true (λ x r. next (Tree.AnExpr x) r)) u (mark m.CloseParenthesis d ∷ ts) (expression-starts x) (λ s rs h. optional-start room next s rs s.kind h)
      (read-comma (known x) (lit≤ tt) (parts.present has) (λ x r. next (Tree.AnExpr x) r) (mark m.CloseParenthesis d ∷ ts) (lit< tt))

  pub first-read : {form : Form} {t : State} {u : Symbols} {init : ForInit} {room : Room} → ForFirst form u init → Has room (parts.first init) → (c : Context) (next : To Stmt) (d : Bool) (ts : Symbols)
      → Goes form (mc.for_rest room c init next (mark m.Semicolon d ∷ ts)) t → Goes form (mc.for_header room c next (u ++ (mark m.Semicolon d ∷ ts))) t
  first-read g.nothing_first has c next d ts o = o
  first-read {room = room} (g.variables_first b (g.last_declarator {n = n} {u = u} {value = value} x)) has c next d ts o =
      onwards (declarator-read x (parts.item (parts.first-items has)) (λ n value r. mc.for_var room c n value next r) (mark m.Semicolon d ∷ ts) (semicolon-declared false u d value)) o
  first-read {room = room} (g.variables_first b (g.declarator_and {n = n} {u = u} {v = v} {value = value} {items = items} a x xs)) has c next d ts o =
      placed (declarator room false (λ n value r. mc.for_var room c n value next r)) (append_assoc u (mark m.Comma a ∷ v) (mark m.Semicolon d ∷ ts))
      (onwards (declarator-read x (parts.item (parts.first-items has)) (λ n value r. mc.for_var room c n value next r) (mark m.Comma a ∷ (v ++ (mark m.Semicolon d ∷ ts))) (comma-declared false u a value))
      (onwards (declarators-read xs (parts.more-items (parts.first-items has)) (λ items r. mc.for_rest room c (Tree.Vars (Tree.MoreVarItems n value items)) next r) (mark m.Semicolon d ∷ ts)
      (let e = list-none false v (mark m.Semicolon d) items refl refl in omega (arith, e))) o))
  first-read {room = room} (g.expression_first {u = u} x) has c next d ts o =
      told (mc.for_header room c next) (comma room false (λ x r. mc.for_expression room c x next r)) u (mark m.Semicolon d ∷ ts) (expression-starts x) (λ s rs h. header-start room c next s rs s.kind h)
      (onwards (read-comma (known x) (lit≤ tt) (parts.first-value has) (λ x r. mc.for_expression room c x next r) (mark m.Semicolon d ∷ ts) (lit< tt)) o)

  pub block-read : {form : Form} {c : Context} {u : Symbols} {s : Stmt} {room : Room} → Block form c u s → Has room (parts.stmt s) → (to : To Stmt) (ts : Symbols) → Goes form (mc.block room c to (u ++ ts)) (to s ts)
  block-read {c = c} {room = room} (g.braces {u = u} b d ss) has to ts =
      fitted _ (parts.statement has) (placed (list (inside room) (context.part c) (λ ss. mc.expect mc.is_close_brace (to (Tree.Block ss)))) (append_assoc u (mark m.CloseBrace d ∷ []) ts)
      (list-read ss (parts.block-body has) (λ ss. mc.expect mc.is_close_brace (to (Tree.Block ss))) (mark m.CloseBrace d ∷ ts) refl refl))

  pub statement-read : {form : Form} {c : Context} {u : Symbols} {next : Symbol} {s : Stmt} {room : Room} → Statement form c u next s → Has room (parts.stmt s) → (to : To Stmt) (ts : Symbols) → front ts ≡ next → may_follow next.kind ≡ true
      → Goes form (statement room c to (u ++ ts)) (to s ts)
  statement-read {form = form} {c = c} {room = room} (g.block b) has to ts h may = stepped (block-step b room to ts) (block-read b has to ts)
  statement-read {form = form} {c = c} {room = room} (g.variables {u = u} {v = v} {items = items} b xs ends) has to ts h may =
      then_on (fitted _ (parts.statement has) (placed (declarators (inside room) true (λ items r. mc.ended (to (Tree.Variables items)) r)) (append_assoc u v ts)
      (onwards (declarators-read xs (parts.variables-items has) (λ items r. mc.ended (to (Tree.Variables items)) r) (v ++ ts) (list-follow u items ends ts h)) (same (ended-read ends (to (Tree.Variables items)) ts h)))))
  statement-read {form = form} {c = c} {room = room} (g.empty b) has to ts h may = then_on (fitted _ (parts.statement has) here)
  statement-read {form = form} {c = c} {room = room} (g.expression {next = next} {u = u} {v = v} {x = x} dx h1 h2 ends) has to ts h may =
      let b = expression-starts dx in let free = expression-no-label dx (v ++ ts) (ends-colon ends ts h may) in
      placed (statement room c to) (append_assoc u v ts)
      (subst (λ w. Goes form (statement room c to (w ++ (v ++ ts))) (to (Tree.Do x) ts)) (sym b.are)
      (stepped (stated-start form room c to b.head (b.others ++ (v ++ ts)) b.head.kind b.passes (λ f. h1 (ap (λ t. (first t next).kind) b.are ∙ f)) (λ f. h2 (ap (λ t. (first t next).kind) b.are ∙ f))
      (sym (ap (λ w. no_label (w ++ (v ++ ts))) b.are) ∙ free))
      (subst (λ w. Goes form (mc.stated room to (w ++ (v ++ ts))) (to (Tree.Do x) ts)) b.are
      (onwards (read-comma (known dx) (lit≤ tt) (parts.do-value has) (λ x r. mc.ended (to (Tree.Do x)) r) (v ++ ts) (ends-follow u ends ts h)) (same (ended-read ends (to (Tree.Do x)) ts h))))))
  statement-read {form = form} {c = c} {room = room} (g.if {next = next} {u = u} {v = v} {x = x} {s = s} b d f dx ds away) has to ts h may =
      then_on (fitted _ (parts.statement has) (placed (comma (inside room) true (λ x. mc.expect mc.is_close_parenthesis (statement (inside room) (context.part c) (λ body r. mc.after_if room c x body to r)))) (append_assoc u (mark m.CloseParenthesis f ∷ v) ts)
      (onwards (read-comma (known dx) (lit≤ tt) (parts.if-test has) (λ x. mc.expect mc.is_close_parenthesis (statement (inside room) (context.part c) (λ body r. mc.after_if room c x body to r))) (mark m.CloseParenthesis f ∷ (v ++ ts)) (lit< tt))
      (onwards (statement-read ds (parts.if-body has) (λ body r. mc.after_if room c x body to r) ts h may) (same (if-stop room c x s to ts (λ e. away (sym (ap (λ s. s.kind) h) ∙ e))))))))
  statement-read {form = form} {c = c} {room = room} (g.if_else {u = u} {v = v} {z = z} {x = x} {s = s} b d f j dx ds dz) has to ts h may =
      then_on (fitted _ (parts.statement has)
      (placed (comma (inside room) true (λ x. mc.expect mc.is_close_parenthesis (statement (inside room) (context.part c) (λ body r. mc.after_if room c x body to r)))) (append_assoc u (mark m.CloseParenthesis f ∷ (v ++ (word w.Else j ∷ z))) ts)
      (onwards (read-comma (known dx) (lit≤ tt) (parts.if-test has) (λ x. mc.expect mc.is_close_parenthesis (statement (inside room) (context.part c) (λ body r. mc.after_if room c x body to r)))
      (mark m.CloseParenthesis f ∷ ((v ++ (word w.Else j ∷ z)) ++ ts)) (lit< tt))
      (placed (statement (inside room) (context.part c) (λ body r. mc.after_if room c x body to r)) (append_assoc v (word w.Else j ∷ z) ts)
      (onwards (statement-read ds (parts.if-body has) (λ body r. mc.after_if room c x body to r) (word w.Else j ∷ (z ++ ts)) refl refl)
      (statement-read dz (parts.if-other has) (λ other r. to (Tree.If x s (Tree.AStmt other)) r) ts h may))))))
  statement-read {form = form} {c = c} {room = room} (g.do_while {u = u} {v = v} {z = z} {x = x} {s = s} b d f j ds dx ends) has to ts h may =
      then_on (fitted _ (parts.statement has)
      (placed (statement (inside room) (context.loop c) (λ body. mc.expect mc.is_while (mc.expect mc.is_open_parenthesis (comma (inside room) true (λ x. mc.expect mc.is_close_parenthesis (mc.ended (to (Tree.DoWhile body x))))))))
      (append_assoc u (word w.While d ∷ (mark m.OpenParenthesis f ∷ (v ++ (mark m.CloseParenthesis j ∷ z)))) ts)
      (onwards (statement-read ds (parts.do_while-body has) (λ body. mc.expect mc.is_while (mc.expect mc.is_open_parenthesis (comma (inside room) true (λ x. mc.expect mc.is_close_parenthesis (mc.ended (to (Tree.DoWhile body x)))))))
      (word w.While d ∷ (mark m.OpenParenthesis f ∷ ((v ++ (mark m.CloseParenthesis j ∷ z)) ++ ts))) refl refl)
      (placed (comma (inside room) true (λ x. mc.expect mc.is_close_parenthesis (mc.ended (to (Tree.DoWhile s x))))) (append_assoc v (mark m.CloseParenthesis j ∷ z) ts)
      (onwards (read-comma (known dx) (lit≤ tt) (parts.do_while-test has) (λ x. mc.expect mc.is_close_parenthesis (mc.ended (to (Tree.DoWhile s x)))) (mark m.CloseParenthesis j ∷ (z ++ ts)) (lit< tt))
      (same (ended-read ends (to (Tree.DoWhile s x)) ts h)))))))
  statement-read {form = form} {c = c} {room = room} (g.while {u = u} {v = v} {x = x} b d f dx ds) has to ts h may =
      then_on (fitted _ (parts.statement has)
      (placed (comma (inside room) true (λ x. mc.expect mc.is_close_parenthesis (statement (inside room) (context.loop c) (λ body r. to (Tree.While x body) r)))) (append_assoc u (mark m.CloseParenthesis f ∷ v) ts)
      (onwards (read-comma (known dx) (lit≤ tt) (parts.while-test has) (λ x. mc.expect mc.is_close_parenthesis (statement (inside room) (context.loop c) (λ body r. to (Tree.While x body) r))) (mark m.CloseParenthesis f ∷ (v ++ ts)) (lit< tt))
      (statement-read ds (parts.while-body has) (λ body r. to (Tree.While x body) r) ts h may))))
  statement-read {form = form} {c = c} {room = room} (g.for {u = u} {v = v} {z = z} {body = body} {init = init} {test = test} {step = last} {s = s} b d f j o di dt dn ds) has to ts h may =
      then_on (fitted _ (parts.statement has)
      (placed (mc.for_header (inside room) (context.loop c) to) (append_assoc u (mark m.Semicolon f ∷ (v ++ (mark m.Semicolon j ∷ (z ++ (mark m.CloseParenthesis o ∷ body))))) ts)
      (first-read di (parts.for-first has) (context.loop c) to f ((v ++ (mark m.Semicolon j ∷ (z ++ (mark m.CloseParenthesis o ∷ body)))) ++ ts)
      (for-read form (inside room) (context.loop c) v z body ts test last s init j o f to (optional-read dt (parts.for-test has)) (optional-read dn (parts.for-last has)) (λ to. statement-read ds (parts.for-body has) to ts h may)))))
  statement-read {form = form} {c = c} {room = room} (g.for_in {u = u} {v = v} {body = body} {x = x} b d f j dx target dy ds) has to ts h may =
      then_on (fitted _ (parts.statement has) (placed (mc.for_header (inside room) (context.loop c) to) (append_assoc u (word w.In f ∷ (v ++ (mark m.CloseParenthesis j ∷ body))) ts)
      (told (mc.for_header (inside room) (context.loop c) to) (comma (inside room) false (λ x r. mc.for_expression (inside room) (context.loop c) x to r)) u (word w.In f ∷ ((v ++ (mark m.CloseParenthesis j ∷ body)) ++ ts))
      (expression-starts dx) (λ s rs h. header-start (inside room) (context.loop c) to s rs s.kind h)
      (onwards (read-comma (known dx) (lit≤ tt) (parts.for_in-target has) (λ x r. mc.for_expression (inside room) (context.loop c) x to r) (word w.In f ∷ ((v ++ (mark m.CloseParenthesis j ∷ body)) ++ ts)) (lit< tt))
      (allowed _ target (placed (comma (inside room) true (λ y. mc.expect mc.is_close_parenthesis (statement (inside room) (context.loop c) (λ body r. to (Tree.ForIn (Tree.Target x) y body) r)))) (append_assoc v (mark m.CloseParenthesis j ∷ body) ts)
      (onwards (read-comma (known dy) (lit≤ tt) (parts.for_in-object has) (λ y. mc.expect mc.is_close_parenthesis (statement (inside room) (context.loop c) (λ body r. to (Tree.ForIn (Tree.Target x) y body) r)))
      (mark m.CloseParenthesis j ∷ (body ++ ts)) (lit< tt))
      (statement-read ds (parts.for_in-body has) (λ body r. to (Tree.ForIn (Tree.Target x) _ body) r) ts h may))))))))
  statement-read {form = form} {c = c} {room = room} (g.for_var_in {n = n} {u = u} {v = v} {body = body} {value = value} {y = y} b d f j o dx dy ds) has to ts h may =
      then_on (fitted _ (parts.statement has) (placed (declarator (inside room) false (λ n value r. mc.for_var (inside room) (context.loop c) n value to r)) (append_assoc u (word w.In j ∷ (v ++ (mark m.CloseParenthesis o ∷ body))) ts)
      (onwards (declarator-read dx (parts.for_in-value has) (λ n value r. mc.for_var (inside room) (context.loop c) n value to r) (word w.In j ∷ ((v ++ (mark m.CloseParenthesis o ∷ body)) ++ ts)) (in-declared u j value))
      (placed (comma (inside room) true (λ y. mc.expect mc.is_close_parenthesis (statement (inside room) (context.loop c) (λ body r. to (Tree.ForIn (Tree.AVar n value) y body) r)))) (append_assoc v (mark m.CloseParenthesis o ∷ body) ts)
      (onwards (read-comma (known dy) (lit≤ tt) (parts.for_in-object has) (λ y. mc.expect mc.is_close_parenthesis (statement (inside room) (context.loop c) (λ body r. to (Tree.ForIn (Tree.AVar n value) y body) r)))
      (mark m.CloseParenthesis o ∷ (body ++ ts)) (lit< tt))
      (statement-read ds (parts.for_in-body has) (λ body r. to (Tree.ForIn (Tree.AVar n value) y body) r) ts h may))))))
  statement-read {form = form} {c = c} {room = room} (g.continue {u = u} b o ends) has to ts h may =
      then_on (allowed _ (ap (λ a. a || mc.are_some c.loops) o) (fitted _ (parts.statement has)
      (from (ap (λ a. mc.jump form a c.loops Tree.Continue to (u ++ ts)) o) (same (jump-read form ends c.loops Tree.Continue to ts h)))))
  statement-read {form = form} {c = c} {room = room} (g.continue_to {n = n} b r o ends) has to ts h may =
      then_on (allowed _ (either c.in_loop (mc.are_some c.loops) (among-some n c.loops o)) (fitted _ (parts.statement has)
      (allowed _ (both (is_reference form n) (is_among n c.loops) r o) (same (ended-read ends (to (Tree.Continue (Some n))) ts h)))))
  statement-read {form = form} {c = c} {room = room} (g.break {u = u} b o ends) has to ts h may =
      then_on (allowed _ (ap (λ a. a || mc.are_some c.labels) o) (fitted _ (parts.statement has)
      (from (ap (λ a. mc.jump form a c.labels Tree.Break to (u ++ ts)) o) (same (jump-read form ends c.labels Tree.Break to ts h)))))
  statement-read {form = form} {c = c} {room = room} (g.break_from {n = n} b r o ends) has to ts h may =
      then_on (allowed _ (either (context.may_break c) (mc.are_some c.labels) (among-some n c.labels o)) (fitted _ (parts.statement has)
      (allowed _ (both (is_reference form n) (is_among n c.labels) r o) (same (ended-read ends (to (Tree.Break (Some n))) ts h)))))
  statement-read {room = room} (g.return b o ends) has to ts h may = then_on (allowed _ o (fitted _ (parts.statement has) (same (return-read ends room to ts h))))
  statement-read {form = form} {c = c} {room = room} (g.return_value {next = next} {u = u} {v = v} {x = x} b o dx line ends) has to ts h may =
      let s = expression-starts dx in
      then_on (allowed _ o (fitted _ (parts.statement has) (placed (mc.returned room to) (append_assoc u v ts)
      (subst (λ w. Goes form (mc.returned room to (w ++ (v ++ ts))) (to (Tree.Return (Tree.AnExpr x)) ts)) (sym s.are)
      (from (ap (λ newline. mc.return_by room newline s.head.kind to s.head (s.others ++ (v ++ ts))) (sym (ap (λ t. (first t next).newline) s.are) ∙ line) ∙ return-start room to s.head (s.others ++ (v ++ ts)) s.head.kind s.passes)
      (subst (λ w. Goes form (comma (inside room) true (λ x r. mc.ended (to (Tree.Return (Tree.AnExpr x))) r) (w ++ (v ++ ts))) (to (Tree.Return (Tree.AnExpr x)) ts)) s.are
      (onwards (read-comma (known dx) (lit≤ tt) (parts.return-value has) (λ x r. mc.ended (to (Tree.Return (Tree.AnExpr x))) r) (v ++ ts) (ends-follow u ends ts h)) (same (ended-read ends (to (Tree.Return (Tree.AnExpr x))) ts h)))))))))
  statement-read {form = form} {c = c} {room = room} (g.switch {u = u} {v = v} {x = x} b d f j o dx dcs) has to ts h may =
      then_on (fitted _ (parts.statement has)
      (placed (comma (inside room) true (λ x. mc.expect mc.is_close_parenthesis (mc.expect mc.is_open_brace (clauses (inside room) (context.clause c) true (λ cs. mc.expect mc.is_close_brace (to (Tree.Switch x cs)))))))
      (append_assoc u (mark m.CloseParenthesis f ∷ (mark m.OpenBrace j ∷ (v ++ (mark m.CloseBrace o ∷ [])))) ts)
      (onwards (read-comma (known dx) (lit≤ tt) (parts.switch-value has) (λ x. mc.expect mc.is_close_parenthesis (mc.expect mc.is_open_brace (clauses (inside room) (context.clause c) true (λ cs. mc.expect mc.is_close_brace (to (Tree.Switch x cs))))))
      (mark m.CloseParenthesis f ∷ (mark m.OpenBrace j ∷ ((v ++ (mark m.CloseBrace o ∷ [])) ++ ts))) (lit< tt))
      (placed (clauses (inside room) (context.clause c) true (λ cs. mc.expect mc.is_close_brace (to (Tree.Switch x cs)))) (append_assoc v (mark m.CloseBrace o ∷ []) ts)
      (clauses-read dcs (parts.switch-cases has) (λ cs. mc.expect mc.is_close_brace (to (Tree.Switch x cs))) (mark m.CloseBrace o ∷ ts) refl refl)))))
  statement-read {form = form} {c = c} {room = room} (g.label {n = n} {u = u} b d r away ds) has to ts h may =
      stepped (ap (λ a. mc.labelled a room c n to (name n b) (mark m.Colon d) (u ++ ts)) r)
      (allowed _ (ap not away) (fitted _ (parts.statement has) (statement-read ds (parts.label-body has) (λ body r. to (Tree.Label n body) r) ts h may)))
  statement-read {form = form} {c = c} {room = room} (g.throw {next = next} {u = u} {v = v} {x = x} b dx line ends) has to ts h may =
      let s = expression-starts dx in
      then_on (fitted _ (parts.statement has) (placed (mc.thrown room to) (append_assoc u v ts)
      (subst (λ w. Goes form (mc.thrown room to (w ++ (v ++ ts))) (to (Tree.Throw x) ts)) (sym s.are)
      (allowed _ (ap not (sym (ap (λ t. (first t next).newline) s.are) ∙ line))
      (subst (λ w. Goes form (comma (inside room) true (λ x r. mc.ended (to (Tree.Throw x)) r) (w ++ (v ++ ts))) (to (Tree.Throw x) ts)) s.are
      (onwards (read-comma (known dx) (lit≤ tt) (parts.throw-value has) (λ x r. mc.ended (to (Tree.Throw x)) r) (v ++ ts) (ends-follow u ends ts h)) (same (ended-read ends (to (Tree.Throw x)) ts h))))))))
  statement-read {form = form} {c = c} {room = room} (g.try_catch {next = next} {n = n} {u = u} {v = v} {s = s} {handler = z} b d f j o ds r dz) has to ts h may =
      then_on (fitted _ (parts.statement has)
      (placed (mc.block (inside room) (context.part c) (λ tried r. mc.after_try form room (context.part c) tried to r)) (append_assoc u (word w.Catch d ∷ (mark m.OpenParenthesis f ∷ (name n j ∷ (mark m.CloseParenthesis o ∷ v)))) ts)
      (onwards (block-read ds (parts.try-block has) (λ tried r. mc.after_try form room (context.part c) tried to r) (word w.Catch d ∷ (mark m.OpenParenthesis f ∷ (name n j ∷ (mark m.CloseParenthesis o ∷ (v ++ ts))))))
      (allowed _ r (onwards (block-read dz (parts.try-handler has) (λ caught r. mc.after_catch room (context.part c) s (Tree.ACatch n caught) to r) ts)
      (same (finally-stop room (context.part c) s (Tree.ACatch n z) to ts (λ e. not-finally next.kind may (sym (ap (λ s. s.kind) h) ∙ e)))))))))
  statement-read {form = form} {c = c} {room = room} (g.try_finally {u = u} {v = v} {s = s} b d ds dz) has to ts h may =
      then_on (fitted _ (parts.statement has) (placed (mc.block (inside room) (context.part c) (λ tried r. mc.after_try form room (context.part c) tried to r)) (append_assoc u (word w.Finally d ∷ v) ts)
      (onwards (block-read ds (parts.try-block has) (λ tried r. mc.after_try form room (context.part c) tried to r) (word w.Finally d ∷ (v ++ ts)))
      (block-read dz (parts.try-last has) (λ last r. to (Tree.Try s Tree.NoHandler (Tree.AStmt last)) r) ts))))
  statement-read {form = form} {c = c} {room = room} (g.try_catch_finally {n = n} {u = u} {v = v} {z = z} {s = s} {handler = y} b d f j o p ds r dy dz) has to ts h may =
      then_on (fitted _ (parts.statement has)
      (placed (mc.block (inside room) (context.part c) (λ tried r. mc.after_try form room (context.part c) tried to r))
      (append_assoc u (word w.Catch d ∷ (mark m.OpenParenthesis f ∷ (name n j ∷ (mark m.CloseParenthesis o ∷ (v ++ (word w.Finally p ∷ z)))))) ts)
      (onwards (block-read ds (parts.try-block has) (λ tried r. mc.after_try form room (context.part c) tried to r)
      (word w.Catch d ∷ (mark m.OpenParenthesis f ∷ (name n j ∷ (mark m.CloseParenthesis o ∷ ((v ++ (word w.Finally p ∷ z)) ++ ts))))))
      (allowed _ r (placed (mc.block (inside room) (context.part c) (λ caught r. mc.after_catch room (context.part c) s (Tree.ACatch n caught) to r)) (append_assoc v (word w.Finally p ∷ z) ts)
      (onwards (block-read dy (parts.try-handler has) (λ caught r. mc.after_catch room (context.part c) s (Tree.ACatch n caught) to r) (word w.Finally p ∷ (z ++ ts)))
      (block-read dz (parts.try-last has) (λ last r. to (Tree.Try s (Tree.ACatch n y) (Tree.AStmt last)) r) ts)))))))

  pub list-read : {form : Form} {c : Context} {u : Symbols} {next : Symbol} {ss : Stmts} {room : Room} → StatementList form c u next ss → Has room (parts.stmts ss) → (to : To Stmts) (ts : Symbols) → front ts ≡ next → stops next.kind ≡ true
      → Goes form (list room c to (u ++ ts)) (to ss ts)
  list-read {room = room} g.no_statement has to ts h last = list-stop room _ to ts (ap (λ s. stops s.kind) h ∙ last)
  list-read {c = c} {room = room} (g.statement_and {next = next} {u = u} {v = v} {s = s} d ds) has to ts h last =
      placed (list room c to) (append_assoc u v ts)
      (beginning (list room c to) (statement room c (λ x r. list room c (λ xs o. to (Tree.MoreStmts x xs) o) r)) u (v ++ ts) (statement-starts d) (λ x rs h. list-start room c to x rs x.kind h)
      (onwards (statement-read d (parts.one has) (λ x r. list room c (λ xs o. to (Tree.MoreStmts x xs) o) r) (v ++ ts) (front-join v ts next h) (list-may ds last))
      (list-read ds (parts.more has) (λ xs o. to (Tree.MoreStmts s xs) o) ts h last)))

  pub clauses-read : {form : Form} {c : Context} {may : Bool} {u : Symbols} {next : Symbol} {cs : Cases} {room : Room} → CaseClauses form c may u next cs → Has room (parts.cases cs) → (to : To Cases) (ts : Symbols) → front ts ≡ next
      → closes next.kind ≡ true → Goes form (clauses room c may to (u ++ ts)) (to cs ts)
  clauses-read {next = next} {room = room} g.no_clause has to ts h last = clauses-end room _ _ to ts (ap (λ s. closes s.kind) h ∙ last)
  clauses-read {c = c} {may = may} {room = room} (g.case_and {next = next} {u = u} {v = v} {z = z} {x = x} {ss = ss} b d dx ds dcs) has to ts h last =
      then_on (placed (comma room true (λ x. mc.expect mc.is_colon (list room c (λ ss r. clauses room c may (λ cs o. to (Tree.MoreCases (Tree.AnExpr x) ss cs) o) r)))) (append_assoc u (mark m.Colon d ∷ (v ++ z)) ts)
      (onwards (read-comma (known dx) (lit≤ tt) (parts.case-test has) (λ x. mc.expect mc.is_colon (list room c (λ ss r. clauses room c may (λ cs o. to (Tree.MoreCases (Tree.AnExpr x) ss cs) o) r))) (mark m.Colon d ∷ ((v ++ z) ++ ts)) (lit< tt))
      (placed (list room c (λ ss r. clauses room c may (λ cs o. to (Tree.MoreCases (Tree.AnExpr x) ss cs) o) r)) (append_assoc v z ts)
      (onwards (list-read ds (parts.case-body has) (λ ss r. clauses room c may (λ cs o. to (Tree.MoreCases (Tree.AnExpr x) ss cs) o) r) (z ++ ts) (front-join z ts next h) (clauses-stop dcs (closes-stop next.kind last)))
      (clauses-read dcs (parts.more-cases has) (λ cs o. to (Tree.MoreCases (Tree.AnExpr x) ss cs) o) ts h last)))))
  clauses-read {c = c} {room = room} (g.default_and {next = next} {v = v} {z = z} {ss = ss} b d ds dcs) has to ts h last =
      then_on (placed (list room c (λ ss r. clauses room c false (λ cs o. to (Tree.MoreCases Tree.NoExpr ss cs) o) r)) (append_assoc v z ts)
      (onwards (list-read ds (parts.case-body has) (λ ss r. clauses room c false (λ cs o. to (Tree.MoreCases Tree.NoExpr ss cs) o) r) (z ++ ts) (front-join z ts next h) (clauses-stop dcs (closes-stop next.kind last)))
      (clauses-read dcs (parts.more-cases has) (λ cs o. to (Tree.MoreCases Tree.NoExpr ss cs) o) ts h last)))

  pub source-read : {form : Form} {c : Context} {u : Symbols} {next : Symbol} {ss : Stmts} {room : Room} → SourceElements form c u next ss → Has room (parts.stmts ss) → (to : To Stmts) (ts : Symbols) → front ts ≡ next → closes next.kind ≡ true
      → Goes form (source room c to (u ++ ts)) (to ss ts)
  source-read {room = room} g.no_source has to ts h last = source-stop room _ to ts (ap (λ s. closes s.kind) h ∙ last)
  source-read {form = form} {c = c} {room = room} (g.source_and {next = next} {u = u} {v = v} {s = s} (g.statement d) ds) has to ts h last =
      placed (source room c to) (append_assoc u v ts)
      (beginning (source room c to) (statement room c (λ x r. source room c (λ xs o. to (Tree.MoreStmts x xs) o) r)) u (v ++ ts) (statement-starts d) (λ x rs h. source-start form room c to x rs x.kind h)
      (onwards (statement-read d (parts.one has) (λ x r. source room c (λ xs o. to (Tree.MoreStmts x xs) o) r) (v ++ ts) (front-join v ts next h) (source-may ds last))
      (source-read ds (parts.more has) (λ xs o. to (Tree.MoreStmts s xs) o) ts h last)))
  source-read {form = form} {c = c} {room = room} (g.source_and {next = next} {v = v} (g.declaration {n = n} {u = u} {ns = ns} {body = body} b d r f) ds) has to ts h last =
      then_on (fitted _ (parts.declared (parts.one has)) (allowed _ r (placed (rest (in_function room) (λ ns body r. source room c (λ xs o. to (Tree.MoreStmts (Tree.Declare (code (Some n) ns body)) xs) o) r)) (append_assoc u v ts)
      (onwards (rest-read f (parts.declared-body (parts.one has)) (λ ns body r. source room c (λ xs o. to (Tree.MoreStmts (Tree.Declare (code (Some n) ns body)) xs) o) r) (v ++ ts))
      (source-read ds (parts.more has) (λ xs o. to (Tree.MoreStmts (Tree.Declare (code (Some n) ns body)) xs) o) ts h last)))))

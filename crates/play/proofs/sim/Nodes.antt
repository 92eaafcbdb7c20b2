-- Nodes that stand for one another have programs that do: one clause for each kind of node, with no state and no induction over runs.
use Rattle.std.proofs.Common.{◌≡◌, ℕ, suc, ◌+◌, List, [], ◌∷◌, ◌++◌, length, Option, sym, subst, arith, length-append}
use Rattle.js_tree.specs.Tree
use Rattle.js_tree.specs.Tree.{Name, Exprs, Stmt, Stmts, Func, Code}
use Rattle.js_tree.specs.declared.tree.Role.TheVariants.{Plain}
use Rattle.play.specs.Value.{Value, Undefined, Values, values, Chain, FunctionScope, Env}
use Rattle.play.specs.Program
use Rattle.play.specs.Program.{Program, program, expression, statement, begin_statement, statements, arguments, on_value, after_statement, gives, throws, on_found, call_found, call_property, declared, body_of, ticks, applied, apply_array, finish, after_script}
use Rattle.play.proofs.sim.Trees.{OfExpr, str, this, ident, dot, call_name, call_dot, OfExprs, no_exprs, more_exprs, OfStmt, do_expr, return_none, return_value, OfStmts, no_stmts, more_stmts, more_declared, OfNode, an_expr, a_stmt, a_script}
use Rattle.play.proofs.sim.Values.{OfValue, undefined, text, global, OfChain, function_scope, stub_scope, OfValues, no_values, more_values, OfOption, none, some, normal, returned, thrown, OfRead, no_object, read, OfArray, no_array, an_array, OfEnv, OfFuncs, no_funcs, more_funcs, values_of, this_of_of, array_of_of}
use Rattle.play.proofs.sim.Relation.{OfProgram, ret, begin, enter, tick, tell_uncaught, tell_idle, define, find_name, get, fail, OfWaiting}

module _ (entries : ℕ → Option Func) where
  pub values_length : {a b : List Value} → OfValues entries a b → length a ≡ length b
  values_length no_values = omega arith
  values_length (more_values h hs) = let e = values_length hs in omega (arith, e)

  one_more : {a b : List Value} {v v' : Value} → OfValues entries a b → OfValue entries v v' → OfValues entries (a ++ v ∷ []) (b ++ v' ∷ [])
  one_more no_values h = more_values h no_values
  one_more (more_values p ps) h = more_values p (one_more ps h)

  -- ---- what goes on with an outcome

  value_then : {c : ℕ} {k k' : Value → Program} → ((a b : Value) → OfValue entries a b → OfProgram entries c (k a) (k' b)) → OfWaiting entries c (on_value k) (on_value k')
  value_then h o o' (normal {v = a} {v' = b} p) = h a b p
  value_then h o o' (returned p) = ret (returned p)
  value_then h o o' (thrown p) = ret (thrown p)

  rest_then : {c : ℕ} {p p' : Program} → OfProgram entries c p p' → OfWaiting entries c (after_statement p) (after_statement p')
  rest_then h o o' (normal p) = h
  rest_then h o o' (returned p) = ret (returned p)
  rest_then h o o' (thrown p) = ret (thrown p)

  pub all_of : {c : ℕ} → OfWaiting entries c Program.Ret Program.Ret
  all_of o o' h = ret h

  pub finish_of : {c : ℕ} → OfWaiting entries c finish finish
  finish_of o o' (normal p) = ret (normal undefined)
  finish_of o o' (returned p) = ret (normal p)
  finish_of o o' (thrown p) = ret (thrown p)

  pub gives_of : {c : ℕ} {a b : Value} → OfValue entries a b → OfProgram entries c (gives a) (gives b)
  gives_of h = ret (normal h)

  throws_of : {c : ℕ} → OfProgram entries c throws throws
  throws_of = fail (λ a b p. ret (thrown p))

  -- ---- expressions

  recredit : {c d : ℕ} {p p' : Program} → c ≡ d → OfProgram entries c p p' → OfProgram entries d p p'
  recredit {p = p} {p' = p'} e h = subst (λ n. OfProgram entries n p p') e h

  -- the arguments, each of which leaves its step as a credit
  arguments_of : {es es' : Exprs} {env env' : Env} {done done' : List Value} {k k' : List Value → Program} → OfExprs entries es es' → OfEnv entries env env' → OfValues entries done done'
      → ((xs xs' : List Value) → OfValues entries xs xs' → OfProgram entries (length xs) (k xs) (k' xs')) → OfProgram entries (length done) (arguments es env done k) (arguments es' env' done' k')
  arguments_of no_exprs env done h = h _ _ done
  arguments_of {done = done0} (more_exprs e es) env done h =
      begin (an_expr e) env (suc (length done0)) (omega arith)
      (value_then (λ a b p.
      let more : suc (length done0) ≡ length (done0 ++ a ∷ []) = omega (arith, length-append done0 (a ∷ [])) in
      recredit (sym more) (arguments_of es env (one_more done p) h)))

  found_of : {c : ℕ} {k k' : Value → Program} → ((a b : Value) → OfValue entries a b → OfProgram entries c (k a) (k' b)) → {o o' : Option Value} → OfOption entries o o' → OfProgram entries c (on_found k o) (on_found k' o')
  found_of h none = throws_of
  found_of h (some {v = a} {v' = b} p) = h a b p

  call_found_of : {es es' : Exprs} {env env' : Env} → OfExprs entries es es' → OfEnv entries env env' → (o o' : Option Value) → OfOption entries o o' → OfProgram entries 0 (call_found es env o) (call_found es' env' o')
  call_found_of es env o o' h =
      arguments_of es env no_values (λ xs xs' q. found_of (λ a b p. enter p (this_of_of entries global) q 0 (omega arith) all_of) h)

  entered_of : {object object' : Value} {xs xs' : List Value} → OfValue entries object object' → OfValues entries xs xs' → (o o' : Option Value) → OfRead entries object' o o'
      → OfProgram entries (length xs) (on_found (λ f. Program.Enter f object xs Program.Ret) o) (on_found (λ f. Program.Enter f object' xs' Program.Ret) o')
  entered_of p q o o' no_object = throws_of
  entered_of p q o o' (read e f) = enter f (record { of = p; stays = e }) q 0 (omega arith) all_of

  call_property_of : (x : Name) {es es' : Exprs} {env env' : Env} → OfExprs entries es es' → OfEnv entries env env' → (a b : Value) → OfValue entries a b → OfProgram entries 0 (call_property x es env a) (call_property x es' env' b)
  call_property_of x es env a b p = arguments_of es env no_values (λ xs xs' q. get p (entered_of p q))

  given_of : {object : Value} {c : ℕ} (o o' : Option Value) → OfRead entries object o o' → OfProgram entries c (on_found gives o) (on_found gives o')
  given_of o o' no_object = throws_of
  given_of o o' (read e p) = gives_of p

  expression_of : (left : ℕ → Option Func) {e e' : Tree.Expr} {env env' : Env} → OfExpr entries e e' → OfEnv entries env env' → OfProgram entries 0 (expression left e env) (expression entries e' env')
  expression_of left str env = gives_of text
  expression_of left this env = gives_of env.this
  expression_of left ident env = find_name env.chain (λ o o' h. found_of (λ a b p. gives_of p) h)
  expression_of left (dot e) env = begin (an_expr e) env 0 (omega arith) (value_then (λ a b p. get p given_of))
  expression_of left (call_name es) env = tick 0 (omega arith) (find_name env.chain (call_found_of es env))
  expression_of left (call_dot {x = x} e es) env = tick 0 (omega arith) (begin (an_expr e) env 0 (omega arith) (value_then (call_property_of x es env)))

  -- ---- statements

  statement_of : {s s' : Stmt} {env env' : Env} → OfStmt entries s s' → OfEnv entries env env' → OfProgram entries 0 (statement s env) (statement s' env')
  statement_of (do_expr e) env = begin (an_expr e) env 0 (omega arith) (value_then (λ a b p. gives_of p))
  statement_of return_none env = ret (returned undefined)
  statement_of (return_value e) env = begin (an_expr e) env 0 (omega arith) (value_then (λ a b p. ret (returned p)))

  begin_statement_of : {c : ℕ} {s s' : Stmt} {env env' : Env} {p p' : Program} → OfStmt entries s s' → OfEnv entries env env' → OfProgram entries c p p' → OfProgram entries c (begin_statement s env p) (begin_statement s' env' p')
  begin_statement_of {c = c} (do_expr e) env h = begin (a_stmt (do_expr e)) env c (omega arith) (rest_then h)
  begin_statement_of {c = c} return_none env h = begin (a_stmt return_none) env c (omega arith) (rest_then h)
  begin_statement_of {c = c} (return_value e) env h = begin (a_stmt (return_value e)) env c (omega arith) (rest_then h)

  statements_of : {c : ℕ} {ss ss' : Stmts} {env env' : Env} → OfStmts entries ss ss' → OfEnv entries env env' → OfProgram entries c (statements ss env) (statements ss' env')
  statements_of no_stmts env = ret (normal undefined)
  statements_of (more_stmts s ss) env = begin_statement_of s env (statements_of ss env)
  statements_of (more_declared f ss) env = statements_of ss env

  declared_of : {ss ss' : Stmts} → OfStmts entries ss ss' → OfFuncs entries (declared ss) (declared ss')
  declared_of no_stmts = no_funcs
  declared_of (more_stmts (do_expr e) ss) = declared_of ss
  declared_of (more_stmts return_none ss) = declared_of ss
  declared_of (more_stmts (return_value e) ss) = declared_of ss
  declared_of (more_declared f ss) = more_funcs f (declared_of ss)

  pub node_of : (left : ℕ → Option Func) {n n' : Program.Node} {env env' : Env} → OfNode entries n n' → OfEnv entries env env' → OfProgram entries 0 (program left n env) (program entries n' env')
  node_of left (an_expr h) env = expression_of left h env
  node_of left (a_stmt h) env = statement_of h env
  node_of left (a_script h) env = define (declared_of h) (statements_of h env)

  -- ---- entries

  pub body_of_of : (i : ℕ) (name : Option Name) (formals : List Name) {b b' : Stmts} {ch ch' : Chain} {th th' : Value} {vs vs' : List Value} → OfStmts entries b b' → OfChain entries ch ch' → OfValue entries th th' → OfValues entries vs vs'
      → OfProgram entries 0 (body_of (Code i name formals b Plain) ch th vs) (body_of (Code i name formals b' Plain) ch' th' vs')
  body_of_of i name formals b ch th q = statements_of b (record { chain = function_scope (values_of entries q) ch; this = th })

  -- the body of a late function, below a stub's scope
  pub late_body_of : (us : Values) {b b' : Stmts} {ch ch' : Chain} {th th' : Value} {vs vs' : List Value} → OfStmts entries b b' → OfChain entries ch ch' → OfValue entries th th' → OfValues entries vs vs'
      → OfProgram entries 0 (statements b (record { chain = FunctionScope (values vs) ch; this = th })) (statements b' (record { chain = FunctionScope (values vs') (FunctionScope us ch'); this = th' }))
  late_body_of us b ch th q = statements_of b (record { chain = stub_scope (values_of entries q) ch; this = th })

  ticks_of : {c : ℕ} {vs vs' : List Value} {p p' : Program} → OfValues entries vs vs' → OfProgram entries (length vs + c) p p' → OfProgram entries c (ticks vs p) (ticks vs' p')
  ticks_of {c = c} no_values h = let e : 0 + c ≡ c = omega arith in recredit e h
  ticks_of {c = c} (more_values {vs = vs} v q) h =
      let e : length (Undefined ∷ vs) + c ≡ length vs + suc c = omega arith in
      tick (suc c) (omega arith) (ticks_of q (recredit e h))

  apply_array_of : {f f' t t' : Value} {o o' : Option (List Value)} → OfValue entries f f' → OfValue entries t t' → OfArray entries o o' → OfProgram entries 0 (apply_array f t o) (apply_array f' t' o')
  apply_array_of f t no_array = throws_of
  apply_array_of f t (an_array q) = ticks_of q (enter f (this_of_of entries t) q 0 (omega arith) all_of)

  pub applied_of : {f f' : Value} {vs vs' : List Value} → OfValue entries f f' → OfValues entries vs vs' → OfProgram entries 0 (applied f vs) (applied f' vs')
  applied_of f no_values = enter f (this_of_of entries global) no_values 0 (omega arith) all_of
  applied_of f (more_values t no_values) = enter f (this_of_of entries t) no_values 0 (omega arith) all_of
  applied_of f (more_values t (more_values a more)) = apply_array_of f t (array_of_of entries a)

  -- ---- a page

  pub after_script_of : {c : ℕ} → OfWaiting entries c after_script after_script
  after_script_of o o' (normal p) = tell_idle (gives_of undefined)
  after_script_of o o' (returned p) = tell_idle (gives_of undefined)
  after_script_of o o' (thrown p) = tell_uncaught p (tell_idle (gives_of undefined))

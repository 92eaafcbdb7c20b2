-- A step of the machine that reads a script, and its runs.
use Rattle.std.specs.Prelude.{ℕ, zero, suc, true, [], ◌∷◌}
use Rattle.js_tree.specs.Tree
use Rattle.js_parser.specs.declared.form.Form.{Form}
use Rattle.js_parser.specs.Contexts as context
use Rattle.js_parser.specs.Names.{key_of}
pub use Rattle.js_parser.specs.States.{State, done, stuck, deep, comma, comma_tail, assign, choice, climb, tail, unary, postfix, operand, links, arguments, argument_list, elements, pairs, rest, formals, formal, declarator, declarators, optional, statement, list, source, clauses, To, guard, fitting, expect, is_open_parenthesis, is_close_parenthesis, is_close_bracket, is_open_brace, is_close_brace, is_colon, is_semicolon, is_while, is_end, ended_by, may_insert, ended, ended_at_once}
pub use Rattle.js_parser.specs.ReadExpressions.{operator_of, prefix_of, comma_by, assign_to, choice_by, tail_by, prefix_by, unary_by, postfix_by, new_by, after_new, leaf, is_get, late_by, late_number, late, late_in, name_by, function_by, function, operand_by, dot_by, dot, links_by, arguments_by, argument_by, after_argument, element_by, after_element, elements_by, pair_by, after_pair, pairs_by, and_formal, formal_by, after_formal, is_formal, formals_by, one_formal_by, initialiser_by, initialiser, declarator_by, declarators_by, after_declarator, optional_by}
pub use Rattle.js_parser.specs.ReadStatements.{stated, braces, block, are_some, if_by, after_if, for_rest, for_var_by, for_var, for_expression_by, for_expression, for_by, for_header, jump_by, jump, return_by, returned, thrown, finally_by, after_catch, catch_by, catch_name, try_by, after_try, labelled, label_by, label, statement_by, list_by, declared_by, declared, source_by, clauses_by, finished_by, finished, script}

abbrev pub step : Form → State → State
step form (done ss) = done ss
step form (stuck left) = stuck left
step form (deep left) = deep left
step form (comma room i next ts) = assign room i (λ x r. comma_tail room i x next r) ts
step form (comma_tail room i x next []) = next x []
step form (comma_tail room i x next (s ∷ ts)) = comma_by s.kind room i x next s ts
step form (assign room i next ts) = climb room i 4 (λ x r. choice room i x next r) ts
step form (choice room i x next []) = next x []
step form (choice room i x next (s ∷ ts)) = choice_by s.kind room i x next s ts
step form (climb room i least next ts) = unary room (λ x r. tail room i least x next r) ts
step form (tail room i least x next []) = next x []
step form (tail room i least x next (s ∷ ts)) =
    tail_by (operator_of s.kind) room i least x next s ts
step form (unary room next []) = stuck []
step form (unary room next (s ∷ ts)) = unary_by (prefix_of s.kind) room next s ts
step form (postfix room x next []) = next x []
step form (postfix room x next (s ∷ ts)) = postfix_by s.kind s.newline room x next s ts
step form (operand room c next []) = stuck []
step form (operand room c next (s ∷ ts)) = operand_by form s.kind room c next s ts
step form (links room c x next []) = next x []
step form (links room c x next (s ∷ ts)) = links_by form s.kind room c x next s ts
step form (arguments room next []) = stuck []
step form (arguments room next (s ∷ ts)) = arguments_by s.kind room next s ts
step form (argument_list room next ts) = assign room true (λ x r. after_argument room x next r) ts
step form (elements room next []) = stuck []
step form (elements room next (s ∷ ts)) = elements_by s.kind room next s ts
step form (pairs room next []) = stuck []
step form (pairs room next (s ∷ ts)) = pairs_by (key_of form s.kind) room next s ts
step form (rest room next ts) =
    expect is_open_parenthesis (formals [] (λ ns. expect is_close_parenthesis
    (expect is_open_brace (source room context.function
    (λ body. expect is_close_brace (next ns body)))))) ts
step form (formals before next []) = stuck []
step form (formals before next (s ∷ ts)) = formals_by form s.kind before next s ts
step form (formal before next []) = stuck []
step form (formal before next (s ∷ ts)) = one_formal_by form s.kind before next s ts
step form (declarator room i next []) = stuck []
step form (declarator room i next (s ∷ ts)) = declarator_by form s.kind room i next s ts
step form (declarators room i next ts) =
    declarator room i (λ n value r. after_declarator room i n value next r) ts
step form (optional room next []) = stuck []
step form (optional room next (s ∷ ts)) = optional_by s.kind room next s ts
step form (statement room c next []) = stuck []
step form (statement room c next (s ∷ ts)) = statement_by form room c s.kind next s ts
step form (list room c next []) = next Tree.NoStmts []
step form (list room c next (s ∷ ts)) = list_by room c s.kind next s ts
step form (source room c next []) = next Tree.NoStmts []
step form (source room c next (s ∷ ts)) = source_by form room c s.kind next s ts
step form (clauses room c may next []) = next Tree.NoCases []
step form (clauses room c may next (s ∷ ts)) = clauses_by room c may s.kind next s ts

-- from a state to another, in some steps
pub data Goes (form : Form) : State → State → Type 0 where
  here : {s : State} → Goes form s s
  then_on : {s t : State} → Goes form (step form s) t → Goes form s t

-- so many steps
abbrev pub run : Form → ℕ → State → State
run form zero s = s
run form (suc n) s = run form n (step form s)

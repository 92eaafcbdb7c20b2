-- The rules of declarators, functions and lists of statements that the parser has a method for,
-- beside those of the machine.
use Rattle.std.specs.Prelude.{not, Bool, true, false, List, [], ◌∷◌, ◌++◌, Some}
use Rattle.js_lexer.specs.declared.mark.Mark.TheVariants as m
use Rattle.js_lexer.specs.declared.word.Word.TheVariants as w
use Rattle.js_lexer.specs.declared.token.TokenKind.{TokenKind}
use Rattle.js_lexer.specs.declared.token.TokenKind.TheVariants as k
use Rattle.js_tree.specs.Plain.{VarPart, CasePart}
use Rattle.js_tree.specs.Tree.{Name, Expr, MaybeExpr, Stmt, VarItems}
use Rattle.js_tree.specs.Tree
use Rattle.js_parser.specs.declared.form.Form.{Form}
use Rattle.js_parser.specs.Symbols.{Symbol, Symbols}
use Rattle.js_parser.specs.Contexts.{Context}
use Rattle.js_parser.specs.Names.{is_binding}
use Rattle.js_parser.specs.Rooms.{Room, in_function, fits_function}
use Rattle.js_parser.specs.Machine.{State, stuck, comma, assign, formal, declarators, statement, list, To, guard, fitting, expect, is_colon, is_formal, and_formal}
use Rattle.js_parser.specs.Machine as rule
use Rattle.js_parser.specs.Pieces.{function_rule}
pub use Rattle.js_parser.specs.Pieces.{name_of}

-- ---- names

-- a name that may be bound
abbrev pub binding_by : Form → TokenKind → To Name → Symbol → Symbols → State
binding_by form (k.Name n) next s ts = guard (is_binding form n) (s ∷ ts) (next n ts)
binding_by form _ next s ts = stuck (s ∷ ts)

abbrev pub binding : Form → To Name → Symbols → State
binding form next [] = stuck []
binding form next (s ∷ ts) = binding_by form s.kind next s ts

-- ---- declarators

-- the value that a declarator gives, if it gives one
abbrev pub initial_value_by : TokenKind → Room → Bool → To MaybeExpr → Symbol → Symbols → State
initial_value_by (k.Mark m.Assign) room i next s ts =
    assign room i (λ x r. next (Tree.AnExpr x) r) ts
initial_value_by _ room i next s ts = next Tree.NoExpr (s ∷ ts)

abbrev pub initial_value : Room → Bool → To MaybeExpr → Symbols → State
initial_value room i next [] = next Tree.NoExpr []
initial_value room i next (s ∷ ts) = initial_value_by s.kind room i next s ts

-- a declarator, as one value
abbrev pub declarator : Room → Bool → To VarPart → Symbols → State
declarator room i next =
    rule.declarator room i (λ n value r. next (record { name = n; value = value }) r)

-- one more declarator, behind these
abbrev pub and_declarator : Room → Bool → List VarPart → To (List VarPart) → Symbols → State
and_declarator room i before next = declarator room i (λ item r. next (before ++ (item ∷ [])) r)

-- those behind a declarator
abbrev pub more_declarators_by : TokenKind → Room → Bool → To VarItems → Symbol → Symbols → State
more_declarators_by (k.Mark m.Comma) room i next s ts = declarators room i next ts
more_declarators_by _ room i next s ts = next Tree.NoVarItems (s ∷ ts)

abbrev pub more_declarators : Room → Bool → To VarItems → Symbols → State
more_declarators room i next [] = next Tree.NoVarItems []
more_declarators room i next (s ∷ ts) = more_declarators_by s.kind room i next s ts

-- ---- formals

-- one more formal, behind these
abbrev pub with_formal_by : Form → TokenKind → List Name → To (List Name) → Symbol → Symbols → State
with_formal_by form (k.Name n) before next s ts =
    guard (is_formal form before n) (s ∷ ts) (next (and_formal before n) ts)
with_formal_by form _ before next s ts = stuck (s ∷ ts)

abbrev pub with_formal : Form → List Name → To (List Name) → Symbols → State
with_formal form before next [] = stuck []
with_formal form before next (s ∷ ts) = with_formal_by form s.kind before next s ts

-- those behind these formals, which are some
abbrev pub more_formals_by : TokenKind → List Name → To (List Name) → Symbol → Symbols → State
more_formals_by (k.Mark m.Comma) before next s ts = formal before next ts
more_formals_by _ before next s ts = next [] (s ∷ ts)

abbrev pub more_formals : List Name → To (List Name) → Symbols → State
more_formals before next [] = stuck []
more_formals before next (s ∷ ts) = more_formals_by s.kind before next s ts

-- formals with commas between, one at least
abbrev pub some_formals : Form → To (List Name) → Symbols → State
some_formals form next =
    with_formal form [] (λ ns r. more_formals ns (λ more o. next (ns ++ more) o) r)

-- ---- lists of statements

-- one more statement, behind these
abbrev pub and_statement : Room → Context → List Stmt → To (List Stmt) → Symbols → State
and_statement room c before next = statement room c (λ x r. next (before ++ (x ∷ [])) r)

-- one more function declaration, behind these and behind `function`
abbrev pub and_declared : Form → Room → List Stmt → To (List Stmt) → Symbols → State
and_declared form room before next ts =
    fitting (fits_function room) ts (binding form (λ n. function_rule (Some n) (in_function room)
    (λ f r. next (before ++ (Tree.Declare f ∷ [])) r)) ts)

abbrev pub and_element_by : Form → TokenKind → Room → Context → List Stmt → To (List Stmt) → Symbol
    → Symbols → State
and_element_by form (k.Word w.Function) room c before next s ts =
    and_declared form room before next ts
and_element_by form _ room c before next s ts = and_statement room c before next (s ∷ ts)

-- one more statement or function declaration, behind these
abbrev pub and_element : Form → Room → Context → List Stmt → To (List Stmt) → Symbols → State
and_element form room c before next [] = and_statement room c before next []
and_element form room c before next (s ∷ ts) = and_element_by form s.kind room c before next s ts

-- ---- clauses of a `switch`

-- the test of a clause, or none, of `default`
abbrev pub clause_test : Bool → Room → To MaybeExpr → Symbols → State
clause_test true room next = comma room true (λ x r. next (Tree.AnExpr x) r)
clause_test false room next = next Tree.NoExpr

-- one more clause, behind these and behind its word
abbrev pub and_clause : Bool → Room → Context → List CasePart → To (List CasePart) → Symbols → State
and_clause tested room c before next =
    clause_test tested room (λ test. expect is_colon (list room c
    (λ body r. next (before ++ (record { test = test; body = body } ∷ [])) r)))

-- ---- first tokens

abbrev pub is_any : TokenKind → Bool
is_any _ = true

abbrev pub is_name : TokenKind → Bool
is_name (k.Name n) = true
is_name _ = false

abbrev pub is_function : TokenKind → Bool
is_function (k.Word w.Function) = true
is_function _ = false

abbrev pub is_case : TokenKind → Bool
is_case (k.Word w.Case) = true
is_case _ = false

abbrev pub begins_clause : TokenKind → Bool
begins_clause (k.Word w.Case) = true
begins_clause (k.Word w.Default) = true
begins_clause _ = false

-- behind an expression that may be absent
abbrev pub ends_optional : TokenKind → Bool
ends_optional (k.Mark m.Semicolon) = true
ends_optional (k.Mark m.CloseParenthesis) = true
ends_optional _ = false

-- behind the statements of a function or a script
abbrev pub ends_elements : TokenKind → Bool
ends_elements (k.Mark m.CloseBrace) = true
ends_elements k.End = true
ends_elements _ = false

-- behind the statements of a block or a clause
abbrev pub ends_list : TokenKind → Bool
ends_list (k.Mark m.CloseBrace) = true
ends_list k.End = true
ends_list (k.Word w.Case) = true
ends_list (k.Word w.Default) = true
ends_list _ = false

abbrev pub goes_on_list : TokenKind → Bool
goes_on_list kind = not (ends_list kind)

abbrev pub goes_on_elements : TokenKind → Bool
goes_on_elements kind = not (ends_elements kind)

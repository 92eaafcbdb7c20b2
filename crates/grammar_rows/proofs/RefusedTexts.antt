-- What may be told of the worked texts that are refused.
use Rattle.std.proofs.Common.{◌≡◌, ◌≢◌, ℕ, zero, suc, ◌+◌, ◌-◌, ◌==◌, ◌≤◌, true, false, [], ◌∷◌, ◌++◌, codes, Some, None, refl, ap, arith, lit≤, max}
use Rattle.std.proofs.Math.Nat.{le-max_left, le-max_right, le_trans}
use Rattle.js_lexer.specs.declared.mark.Mark.TheVariants as m
use Rattle.js_lexer.specs.declared.word.Word.TheVariants as w
use Rattle.js_lexer.specs.declared.token.TokenKind.TheVariants as k
use Rattle.js_tree.specs.declared.tree.PrefixOp.TheVariants as p
use Rattle.js_tree.specs.Tree
use Rattle.js_parser.specs.declared.form.Form.TheVariants.{Source, Written}
use Rattle.js_parser.specs.declared.form.Construct.TheVariants as c
use Rattle.js_parser.specs.Symbols.{Symbols, word, mark, name, number, number_in, end, symbols, first}
use Rattle.js_parser.specs.Ends.{at_end, written}
use Rattle.js_parser.specs.Grammar as g
use Rattle.js_parser.specs.Grammar.{code, Expression, Statement}
use Rattle.js_parser.specs.Contexts as context
use Rattle.std.specs.Fmt.{digits}
use Rattle.js_parser.specs.Bounds.{in_source, in_site, source_functions, written_functions, source_limits}
use Rattle.js_parser.specs.Accepted.{Accepted, IsOverAt, most_open, opened}
use Rattle.js_parser.specs.Fault.{Fault, Syntax, Refused, TooDeep, TooMany, Begins, Breaks, breaking, over}
use Rattle.js_parser.specs.Fault as fault
use Rattle.grammar_rows.specs.RefusedRows as rows
use Rattle.grammar_rows.specs.RefusedRows.{place, token}
use Rattle.js_parser.proofs.TokenPlaces.{begun}
use Rattle.js_parser.proofs.OneTree.{never}

pub with_statement : Fault Source in_source rows.with_statement (Refused (place 3 5) c.With)
unfolding digits
with_statement = breaking (token (k.Word w.Var) 0 3 1 1 false ∷ token (k.Name (codes "a")) 4 5 1 5 false ∷ token (k.Mark m.Semicolon) 5 6 1 6 false ∷ token (k.Word w.Var) 7 10 2 1 true ∷ token (k.Name (codes "b")) 11 12 2 5 false ∷ token (k.Mark m.Semicolon) 12 13 2 6 false ∷ token (k.Name (codes "a")) 14 15 3 1 true ∷ token (k.Mark m.Assign) 15 16 3 2 false ∷ token (k.Number 1) 16 17 3 3 false ∷ token (k.Mark m.Semicolon) 17 18 3 4 false ∷ []) (token (k.Word w.With) 18 22 3 5 false) (record {
  rest = token (k.Mark m.OpenParenthesis) 22 23 3 9 false ∷ token (k.Name (codes "b")) 23 24 3 10 false ∷ token (k.Mark m.CloseParenthesis) 24 25 3 11 false ∷ token (k.Mark m.OpenBrace) 25 26 3 12 false ∷ token (k.Mark m.CloseBrace) 26 27 3 13 false ∷ token k.End 30 30 3 17 false ∷ [];
  whole = refl;
  begins = record {
    more = end false ∷ [];
    tree = (Tree.MoreStmts (Tree.Variables (Tree.MoreVarItems (codes "a") Tree.NoExpr Tree.NoVarItems)) (Tree.MoreStmts (Tree.Variables (Tree.MoreVarItems (codes "b") Tree.NoExpr Tree.NoVarItems)) (Tree.MoreStmts (Tree.Do (Tree.Assign None (Tree.Ident (codes "a")) (Tree.Num 1))) Tree.NoStmts)));
    unlimited = record { derives = record { elements = word w.Var false ∷ name (codes "a") false ∷ mark m.Semicolon false ∷ word w.Var true ∷ name (codes "b") false ∷ mark m.Semicolon false ∷ name (codes "a") true ∷ mark m.Assign false ∷ number 1 false ∷ mark m.Semicolon false ∷ []; newline = false; whole = refl; derived = (g.source_and (g.statement (g.variables false (g.last_declarator (g.bare false refl)) (written false))) (g.source_and (g.statement (g.variables true (g.last_declarator (g.bare false refl)) (written false))) (g.source_and (g.statement (g.expression (g.assign None m.Assign false (lit≤ tt) refl (g.identifier true (lit≤ tt) refl) refl (g.numeral true false (lit≤ tt))) (λ e. cc) (λ e. cc) (written false))) g.no_source))) }; few_functions = lit≤ tt };
  };
  ends = λ h. let placed = begun Source source_functions _ h in cc;
}) refl

pub two_names : Fault Source in_source rows.two_names (Syntax (place 1 3))
two_names = breaking (token (k.Name (codes "a")) 0 1 1 1 false ∷ []) (token (k.Name (codes "b")) 2 3 1 3 false) (record {
  rest = token k.End 3 3 1 4 false ∷ [];
  whole = refl;
  begins = record {
    more = end false ∷ [];
    tree = (Tree.MoreStmts (Tree.Do (Tree.Ident (codes "a"))) Tree.NoStmts);
    unlimited = record { derives = record { elements = name (codes "a") false ∷ []; newline = false; whole = refl; derived = (g.source_and (g.statement (g.expression (g.identifier false (lit≤ tt) refl) (λ e. cc) (λ e. cc) (at_end refl))) g.no_source) }; few_functions = lit≤ tt };
  };
  ends = λ h. let placed = begun Source source_functions _ h in cc;
}) refl

pub own_name : Fault Source in_source rows.own_name (Refused (place 1 3) c.DlName)
own_name = breaking (token (k.Name (codes "x")) 0 1 1 1 false ∷ token (k.Mark m.Assign) 1 2 1 2 false ∷ []) (token (k.Name (codes "$dl_x")) 2 7 1 3 false) (record {
  rest = token k.End 7 7 1 8 false ∷ [];
  whole = refl;
  begins = record {
    more = number 1 false ∷ mark m.Semicolon false ∷ end false ∷ [];
    tree = (Tree.MoreStmts (Tree.Do (Tree.Assign None (Tree.Ident (codes "x")) (Tree.Num 1))) Tree.NoStmts);
    unlimited = record { derives = record { elements = name (codes "x") false ∷ mark m.Assign false ∷ number 1 false ∷ mark m.Semicolon false ∷ []; newline = false; whole = refl; derived = (g.source_and (g.statement (g.expression (g.assign None m.Assign false (lit≤ tt) refl (g.identifier false (lit≤ tt) refl) refl (g.numeral true false (lit≤ tt))) (λ e. cc) (λ e. cc) (written false))) g.no_source) }; few_functions = lit≤ tt };
  };
  ends = λ h. let placed = begun Source source_functions _ h in cc;
}) refl

pub two_functions : Fault Source (source_limits 1) rows.two_functions (TooMany (place 1 15))
two_functions = breaking (token (k.Word w.Function) 0 8 1 1 false ∷ token (k.Name (codes "f")) 9 10 1 10 false ∷ token (k.Mark m.OpenParenthesis) 10 11 1 11 false ∷ token (k.Mark m.CloseParenthesis) 11 12 1 12 false ∷ token (k.Mark m.OpenBrace) 12 13 1 13 false ∷ token (k.Mark m.CloseBrace) 13 14 1 14 false ∷ []) (token (k.Word w.Function) 14 22 1 15 false) (record {
  rest = token (k.Name (codes "g")) 23 24 1 24 false ∷ token (k.Mark m.OpenParenthesis) 24 25 1 25 false ∷ token (k.Mark m.CloseParenthesis) 25 26 1 26 false ∷ token (k.Mark m.OpenBrace) 26 27 1 27 false ∷ token (k.Mark m.CloseBrace) 27 28 1 28 false ∷ token k.End 31 31 1 32 false ∷ [];
  whole = refl;
  begins = record {
    more = end false ∷ [];
    tree = (Tree.MoreStmts (Tree.Declare (code (Some (codes "f")) ([]) Tree.NoStmts)) Tree.NoStmts);
    unlimited = record { derives = record { elements = word w.Function false ∷ name (codes "f") false ∷ mark m.OpenParenthesis false ∷ mark m.CloseParenthesis false ∷ mark m.OpenBrace false ∷ mark m.CloseBrace false ∷ []; newline = false; whole = refl; derived = (g.source_and (g.declaration false false refl (g.function_rest false false false false g.no_formal refl g.no_source)) g.no_source) }; few_functions = lit≤ tt };
  };
  ends = λ h. let few = h.unlimited.few_functions in absurd (omega arith);
}) refl

-- ---- n times `!`

not_list : ℕ → Symbols
not_list zero = number 1 false ∷ []
not_list (suc n) = mark m.Not false ∷ not_list n

not_symbols : (n start : ℕ) → symbols (rows.nots n start) ≡ not_list n ++ (end false ∷ [])
unfolding not_list digits
not_symbols zero start = let one : start + 1 - start ≡ 1 = omega arith in ap (λ n. number_in (n == 1) 1 false ∷ end false ∷ []) one
not_symbols (suc n) start = ap (λ u. mark m.Not false ∷ u) (not_symbols n (start + 1))

not_expression : (l n : ℕ) → l ≤ 14 → Expression Source true l (not_list n) (rows.not_tree n)
unfolding not_list
not_expression l zero h = g.numeral true false (omega arith)
not_expression l (suc n) h = g.prefix p.Not false h refl (not_expression 14 n (lit≤ tt))

no_brace : (n : ℕ) → (first (not_list n) (end false)).kind ≢ k.Mark m.OpenBrace
unfolding not_list
no_brace zero e = cc
no_brace (suc n) e = cc

no_function : (n : ℕ) → (first (not_list n) (end false)).kind ≢ k.Word w.Function
unfolding not_list
no_function zero e = cc
no_function (suc n) e = cc

not_statement : (n : ℕ) → Statement Source context.script (not_list n ++ []) (end false) (Tree.Do (rows.not_tree n))
not_statement n = g.expression (not_expression 1 n (lit≤ tt)) (no_brace n) (no_function n) (at_end refl)

pub nots_accepted : Accepted Source in_source (symbols (rows.nots 398 0)) (rows.nots_tree 398)
unfolding not_list
nots_accepted = record {
  unlimited = record {
    derives = record { elements = not_list 398; newline = false; whole = not_symbols 398 0; derived = g.source_and {v = []} (g.statement (not_statement 398)) g.no_source };
    few_functions = lit≤ tt;
  };
  keeps = record { not_too_deep = lit≤ tt; not_too_nested = lit≤ tt; not_too_many_open = lit≤ tt };
}

too_deep : IsOverAt Source in_source (symbols (rows.nots 399 0)) 0
unfolding not_list digits
too_deep = record {
  before = [];
  element = not_list 399 ++ [];
  after = [];
  newline = false;
  trees = Tree.NoStmts;
  tree = Tree.Do (rows.not_tree 399);
  other_trees = Tree.NoStmts;
  whole = refl;
  stands = refl;
  derives_before = g.no_source;
  derives = g.statement (not_statement 399);
  derives_after = g.no_source;
  few_functions = lit≤ tt;
  keeps_before = record { not_too_deep = lit≤ tt; not_too_nested = lit≤ tt; not_too_many_open = lit≤ tt };
  breaks = λ h. let deep = h.not_too_deep in absurd (omega arith);
}

pub nots_refused : Fault Source in_source (rows.nots 399 0) (TooDeep (place 1 1))
nots_refused = over [] (rows.nots 398 1) (token (k.Mark m.Not) 0 1 1 1 false) refl too_deep

-- ---- a front that is spent

most-least : (n : ℕ) (u : Symbols) → n ≤ most_open n u
most-least n [] = omega arith
most-least n (s ∷ u) = le-max_left n (most_open (opened s.kind n) u)

two_open : (more : Symbols) → 2 ≤ most_open 0 (mark m.OpenParenthesis false ∷ mark m.OpenParenthesis false ∷ more)
two_open more = le_trans (most-least 2 more) (le_trans (le-max_right 1 (most_open 2 more)) (le-max_right 0 (max 1 (most_open 2 more))))

-- `((1))`
ones : Expression Source true 19 (mark m.OpenParenthesis false ∷ mark m.OpenParenthesis false ∷ number 1 false ∷ mark m.CloseParenthesis false ∷ mark m.CloseParenthesis false ∷ []) (Tree.Num 1)
ones = g.parenthesised false false (lit≤ tt) (g.parenthesised false false (lit≤ tt) (g.numeral true false (lit≤ tt)))

ones_statement : Statement Source context.script (mark m.OpenParenthesis false ∷ mark m.OpenParenthesis false ∷ number 1 false ∷ mark m.CloseParenthesis false ∷ mark m.CloseParenthesis false ∷ []) (end false) (Tree.Do (Tree.Num 1))
ones_statement = g.expression (g.parenthesised false false (lit≤ tt) (g.parenthesised false false (lit≤ tt) (g.numeral true false (lit≤ tt)))) (λ e. cc) (λ e. cc) (at_end refl)

two_begin : Begins Source source_functions (mark m.OpenParenthesis false ∷ mark m.OpenParenthesis false ∷ [])
two_begin = record {
  more = number 1 false ∷ mark m.CloseParenthesis false ∷ mark m.CloseParenthesis false ∷ end false ∷ [];
  tree = Tree.MoreStmts (Tree.Do (Tree.Num 1)) Tree.NoStmts;
  unlimited = record {
    derives = record {
      elements = mark m.OpenParenthesis false ∷ mark m.OpenParenthesis false ∷ number 1 false ∷ mark m.CloseParenthesis false ∷ mark m.CloseParenthesis false ∷ [];
      newline = false;
      whole = refl;
      derived = g.source_and {v = []} (g.statement ones_statement) g.no_source;
    };
    few_functions = lit≤ tt;
  };
}

broken : Breaks Source source_functions rows.brackets (token (k.Mark m.OpenParenthesis) 0 1 1 1 false ∷ token (k.Mark m.OpenParenthesis) 1 2 1 2 false ∷ []) (token (k.Word w.With) 2 6 1 3 false)
broken = record { rest = token k.End 6 6 1 7 false ∷ []; whole = refl; begins = two_begin; ends = λ h. let placed = begun Source source_functions _ h in cc }

over_brackets : IsOverAt Source rows.one_bracket
    (mark m.OpenParenthesis false ∷ mark m.OpenParenthesis false ∷ number 1 false ∷ mark m.CloseParenthesis false ∷ mark m.CloseParenthesis false ∷ end false ∷ []) 0
over_brackets = record {
  before = [];
  element = mark m.OpenParenthesis false ∷ mark m.OpenParenthesis false ∷ number 1 false ∷ mark m.CloseParenthesis false ∷ mark m.CloseParenthesis false ∷ [];
  after = [];
  newline = false;
  trees = Tree.NoStmts;
  tree = Tree.Do (Tree.Num 1);
  other_trees = Tree.NoStmts;
  whole = refl;
  stands = refl;
  derives_before = g.no_source;
  derives = g.statement ones_statement;
  derives_after = g.no_source;
  few_functions = lit≤ tt;
  keeps_before = record { not_too_deep = lit≤ tt; not_too_nested = lit≤ tt; not_too_many_open = lit≤ tt };
  breaks = λ h. let few = h.not_too_many_open in absurd (omega arith);
}

pub spent : Fault Source rows.one_bracket rows.brackets (TooDeep (place 1 1))
spent = fault.spent (token (k.Mark m.OpenParenthesis) 0 1 1 1 false ∷ token (k.Mark m.OpenParenthesis) 1 2 1 2 false ∷ [])
    (token (k.Mark m.OpenParenthesis) 0 1 1 1 false ∷ token (k.Mark m.OpenParenthesis) 1 2 1 2 false ∷ []) [] [] (token (k.Mark m.OpenParenthesis) 1 2 1 2 false ∷ [])
    (token (k.Word w.With) 2 6 1 3 false) (token (k.Mark m.OpenParenthesis) 0 1 1 1 false)
    (number 1 false ∷ mark m.CloseParenthesis false ∷ mark m.CloseParenthesis false ∷ end false ∷ []) broken refl
    (record { begins = two_begin; over = λ more tree unlimited keeps. let few = keeps.not_too_many_open in let two = two_open more in absurd (omega arith) }) refl over_brackets

pub not_only_spent : Fault Source rows.one_bracket rows.brackets (Refused (place 1 3) c.With)
not_only_spent = breaking (token (k.Mark m.OpenParenthesis) 0 1 1 1 false ∷ token (k.Mark m.OpenParenthesis) 1 2 1 2 false ∷ []) (token (k.Word w.With) 2 6 1 3 false) broken refl

pub told_with : rows.told (k.Word w.With) ≡ Refused (place 1 1) c.With
told_with = refl

pub told_debugger : rows.told (k.Word w.Debugger) ≡ Refused (place 1 1) c.Debugger
told_debugger = refl

pub told_slash : rows.told (k.Mark m.Slash) ≡ Refused (place 1 1) c.RegExp
told_slash = refl

pub told_slash_assign : rows.told (k.Mark m.SlashAssign) ≡ Refused (place 1 1) c.RegExp
told_slash_assign = refl

pub told_own_text : rows.told (k.Str (codes "$dl_x")) ≡ Refused (place 1 1) c.DlName
told_own_text = refl

pub told_own : rows.told (k.Name (codes "$dl_x")) ≡ Refused (place 1 1) c.DlName
told_own = refl

pub told_eval : rows.told (k.Name (codes "eval")) ≡ Refused (place 1 1) c.Eval
told_eval = refl

pub told_function_name : rows.told (k.Name (codes "Function")) ≡ Refused (place 1 1) c.FunctionName
told_function_name = refl

pub told_infinity : rows.told (k.Name (codes "Infinity")) ≡ Refused (place 1 1) c.InfinityName
told_infinity = refl

pub told_arguments : rows.told (k.Name (codes "arguments")) ≡ Refused (place 1 1) c.Arguments
told_arguments = refl

pub told_callee : rows.told (k.Name (codes "callee")) ≡ Refused (place 1 1) c.Callee
told_callee = refl

pub told_caller : rows.told (k.Name (codes "caller")) ≡ Refused (place 1 1) c.Caller
told_caller = refl

pub told_function : rows.told (k.Word w.Function) ≡ Refused (place 1 1) c.FunctionPlace
told_function = refl

pub told_earlier_formal : rows.told (k.Name (codes "a")) ≡ Refused (place 1 1) c.RepeatedFormal
told_earlier_formal = refl

pub told_later_word : rows.told (k.Word w.Class) ≡ Syntax (place 1 1)
told_later_word = refl

pub told_other_name : rows.told (k.Name (codes "b")) ≡ Syntax (place 1 1)
told_other_name = refl

pub told_end : rows.told k.End ≡ Syntax (place 1 1)
told_end = refl

pub regular_expression : Fault Source in_source rows.regular_expression (Refused (place 1 3) c.RegExp)
regular_expression = breaking (token (k.Name (codes "x")) 0 1 1 1 false ∷ token (k.Mark m.Assign) 1 2 1 2 false ∷ []) (token (k.Mark m.Slash) 2 3 1 3 false) (record {
  rest = token (k.Name (codes "a")) 3 4 1 4 false ∷ token (k.Mark m.Slash) 4 5 1 5 false ∷ token k.End 8 8 1 9 false ∷ [];
  whole = refl;
  begins = record {
    more = number 1 false ∷ mark m.Semicolon false ∷ end false ∷ [];
    tree = (Tree.MoreStmts (Tree.Do (Tree.Assign None (Tree.Ident (codes "x")) (Tree.Num 1))) Tree.NoStmts);
    unlimited = record { derives = record { elements = name (codes "x") false ∷ mark m.Assign false ∷ number 1 false ∷ mark m.Semicolon false ∷ []; newline = false; whole = refl; derived = (g.source_and (g.statement (g.expression (g.assign None m.Assign false (lit≤ tt) refl (g.identifier false (lit≤ tt) refl) refl (g.numeral true false (lit≤ tt))) (λ e. cc) (λ e. cc) (written false))) g.no_source) }; few_functions = lit≤ tt };
  };
  ends = never Source source_functions (symbols (token (k.Name (codes "x")) 0 1 1 1 false ∷ token (k.Mark m.Assign) 1 2 1 2 false ∷ token (k.Mark m.Slash) 2 3 1 3 false ∷ [])) 60 (λ more. refl);
}) refl

pub function_in_if : Fault Source in_source rows.function_in_if (Refused (place 1 6) c.FunctionPlace)
function_in_if = breaking (token (k.Word w.If) 0 2 1 1 false ∷ token (k.Mark m.OpenParenthesis) 2 3 1 3 false ∷ token (k.Name (codes "a")) 3 4 1 4 false ∷ token (k.Mark m.CloseParenthesis) 4 5 1 5 false ∷ []) (token (k.Word w.Function) 5 13 1 6 false) (record {
  rest = token (k.Name (codes "f")) 14 15 1 15 false ∷ token (k.Mark m.OpenParenthesis) 15 16 1 16 false ∷ token (k.Mark m.CloseParenthesis) 16 17 1 17 false ∷ token (k.Mark m.OpenBrace) 17 18 1 18 false ∷ token (k.Mark m.CloseBrace) 18 19 1 19 false ∷ token k.End 22 22 1 23 false ∷ [];
  whole = refl;
  begins = record {
    more = mark m.Semicolon false ∷ end false ∷ [];
    tree = (Tree.MoreStmts (Tree.If (Tree.Ident (codes "a")) Tree.Empty Tree.NoStmt) Tree.NoStmts);
    unlimited = record { derives = record { elements = word w.If false ∷ mark m.OpenParenthesis false ∷ name (codes "a") false ∷ mark m.CloseParenthesis false ∷ mark m.Semicolon false ∷ []; newline = false; whole = refl; derived = (g.source_and (g.statement (g.if false false false (g.identifier false (lit≤ tt) refl) (g.empty false) (λ e. cc))) g.no_source) }; few_functions = lit≤ tt };
  };
  ends = never Source source_functions (symbols (token (k.Word w.If) 0 2 1 1 false ∷ token (k.Mark m.OpenParenthesis) 2 3 1 3 false ∷ token (k.Name (codes "a")) 3 4 1 4 false ∷ token (k.Mark m.CloseParenthesis) 4 5 1 5 false ∷ token (k.Word w.Function) 5 13 1 6 false ∷ [])) 60 (λ more. refl);
}) refl

pub eval_called : Fault Source in_source rows.eval_called (Refused (place 1 3) c.Eval)
eval_called = breaking (token (k.Name (codes "x")) 0 1 1 1 false ∷ token (k.Mark m.Assign) 1 2 1 2 false ∷ []) (token (k.Name (codes "eval")) 2 6 1 3 false) (record {
  rest = token (k.Mark m.OpenParenthesis) 6 7 1 7 false ∷ token (k.Number 1) 7 8 1 8 false ∷ token (k.Mark m.CloseParenthesis) 8 9 1 9 false ∷ token k.End 12 12 1 13 false ∷ [];
  whole = refl;
  begins = record {
    more = number 1 false ∷ mark m.Semicolon false ∷ end false ∷ [];
    tree = (Tree.MoreStmts (Tree.Do (Tree.Assign None (Tree.Ident (codes "x")) (Tree.Num 1))) Tree.NoStmts);
    unlimited = record { derives = record { elements = name (codes "x") false ∷ mark m.Assign false ∷ number 1 false ∷ mark m.Semicolon false ∷ []; newline = false; whole = refl; derived = (g.source_and (g.statement (g.expression (g.assign None m.Assign false (lit≤ tt) refl (g.identifier false (lit≤ tt) refl) refl (g.numeral true false (lit≤ tt))) (λ e. cc) (λ e. cc) (written false))) g.no_source) }; few_functions = lit≤ tt };
  };
  ends = never Source source_functions (symbols (token (k.Name (codes "x")) 0 1 1 1 false ∷ token (k.Mark m.Assign) 1 2 1 2 false ∷ token (k.Name (codes "eval")) 2 6 1 3 false ∷ [])) 60 (λ more. refl);
}) refl

pub callee_read : Fault Source in_source rows.callee_read (Refused (place 1 3) c.Callee)
callee_read = breaking (token (k.Name (codes "a")) 0 1 1 1 false ∷ token (k.Mark m.Dot) 1 2 1 2 false ∷ []) (token (k.Name (codes "callee")) 2 8 1 3 false) (record {
  rest = token k.End 8 8 1 9 false ∷ [];
  whole = refl;
  begins = record {
    more = name (codes "b") false ∷ mark m.Semicolon false ∷ end false ∷ [];
    tree = (Tree.MoreStmts (Tree.Do (Tree.Dot (Tree.Ident (codes "a")) (codes "b"))) Tree.NoStmts);
    unlimited = record { derives = record { elements = name (codes "a") false ∷ mark m.Dot false ∷ name (codes "b") false ∷ mark m.Semicolon false ∷ []; newline = false; whole = refl; derived = (g.source_and (g.statement (g.expression (g.dot 18 false false (lit≤ tt) (lit≤ tt) (lit≤ tt) (g.identifier false (lit≤ tt) refl) refl) (λ e. cc) (λ e. cc) (written false))) g.no_source) }; few_functions = lit≤ tt };
  };
  ends = never Source source_functions (symbols (token (k.Name (codes "a")) 0 1 1 1 false ∷ token (k.Mark m.Dot) 1 2 1 2 false ∷ token (k.Name (codes "callee")) 2 8 1 3 false ∷ [])) 60 (λ more. refl);
}) refl

pub arguments_declared : Fault Source in_source rows.arguments_declared (Refused (place 1 5) c.Arguments)
arguments_declared = breaking (token (k.Word w.Var) 0 3 1 1 false ∷ []) (token (k.Name (codes "arguments")) 4 13 1 5 false) (record {
  rest = token k.End 13 13 1 14 false ∷ [];
  whole = refl;
  begins = record {
    more = name (codes "b") false ∷ mark m.Semicolon false ∷ end false ∷ [];
    tree = (Tree.MoreStmts (Tree.Variables (Tree.MoreVarItems (codes "b") Tree.NoExpr Tree.NoVarItems)) Tree.NoStmts);
    unlimited = record { derives = record { elements = word w.Var false ∷ name (codes "b") false ∷ mark m.Semicolon false ∷ []; newline = false; whole = refl; derived = (g.source_and (g.statement (g.variables false (g.last_declarator (g.bare false refl)) (written false))) g.no_source) }; few_functions = lit≤ tt };
  };
  ends = never Source source_functions (symbols (token (k.Word w.Var) 0 3 1 1 false ∷ token (k.Name (codes "arguments")) 4 13 1 5 false ∷ [])) 60 (λ more. refl);
}) refl

pub late_in_hexadecimal : Fault Written in_site rows.late_in_hexadecimal (Syntax (place 1 16))
unfolding digits
late_in_hexadecimal = breaking (token (k.Name (codes "x")) 0 1 1 1 false ∷ token (k.Mark m.Assign) 1 2 1 2 false ∷ token (k.Name (codes "eval")) 2 6 1 3 false ∷ token (k.Mark m.OpenParenthesis) 6 7 1 7 false ∷ token (k.Name (codes "$dl_get")) 7 14 1 8 false ∷ token (k.Mark m.OpenParenthesis) 14 15 1 15 false ∷ []) (token (k.Number 2) 15 18 1 16 false) (record {
  rest = token (k.Mark m.CloseParenthesis) 18 19 1 19 false ∷ token (k.Mark m.CloseParenthesis) 19 20 1 20 false ∷ token k.End 20 20 1 21 false ∷ [];
  whole = refl;
  begins = record {
    more = number 2 false ∷ mark m.CloseParenthesis false ∷ mark m.CloseParenthesis false ∷ mark m.Semicolon false ∷ end false ∷ [];
    tree = (Tree.MoreStmts (Tree.Do (Tree.Assign None (Tree.Ident (codes "x")) (Tree.Late 2))) Tree.NoStmts);
    unlimited = record { derives = record { elements = name (codes "x") false ∷ mark m.Assign false ∷ name (codes "eval") false ∷ mark m.OpenParenthesis false ∷ name (codes "$dl_get") false ∷ mark m.OpenParenthesis false ∷ number 2 false ∷ mark m.CloseParenthesis false ∷ mark m.CloseParenthesis false ∷ mark m.Semicolon false ∷ []; newline = false; whole = refl; derived = (g.source_and (g.statement (g.expression (g.assign None m.Assign false (lit≤ tt) refl (g.identifier false (lit≤ tt) refl) refl (g.late false false false false false false false (lit≤ tt) refl refl)) (λ e. cc) (λ e. cc) (written false))) g.no_source) }; few_functions = lit≤ tt };
  };
  ends = never Written written_functions (symbols (token (k.Name (codes "x")) 0 1 1 1 false ∷ token (k.Mark m.Assign) 1 2 1 2 false ∷ token (k.Name (codes "eval")) 2 6 1 3 false ∷ token (k.Mark m.OpenParenthesis) 6 7 1 7 false ∷ token (k.Name (codes "$dl_get")) 7 14 1 8 false ∷ token (k.Mark m.OpenParenthesis) 14 15 1 15 false ∷ token (k.Number 2) 15 18 1 16 false ∷ [])) 60 (λ more. refl);
}) refl

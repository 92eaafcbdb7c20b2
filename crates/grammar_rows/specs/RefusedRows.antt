-- Texts that are refused: their tokens with their places, and what may be told of them.
use Rattle.std.specs.Prelude.{ℕ, zero, suc, ◌+◌, Bool, true, false, List, [], ◌∷◌, codes}
use Rattle.dl_text.specs.declared.place.Place.{Place}
use Rattle.js_lexer.specs.declared.mark.Mark.TheVariants as m
use Rattle.js_lexer.specs.declared.word.Word.TheVariants as w
use Rattle.js_lexer.specs.declared.token.Token.{Token}
use Rattle.js_lexer.specs.declared.token.TokenKind.{TokenKind}
use Rattle.js_lexer.specs.declared.token.TokenKind.TheVariants as k
use Rattle.js_tree.specs.declared.tree.PrefixOp.TheVariants as p
use Rattle.js_tree.specs.Tree.{Expr, Script}
use Rattle.js_tree.specs.Tree
use Rattle.js_parser.specs.declared.form.Limits.{Limits}
use Rattle.js_parser.specs.Bounds.{in_source}
use Rattle.js_parser.specs.Symbols.{word, mark, name}
use Rattle.js_parser.specs.Fault.{Answer, answer}

abbrev pub place : ℕ → ℕ → Place
place line column = record { line = line; column = column }

abbrev pub token : TokenKind → ℕ → ℕ → ℕ → ℕ → Bool → Token
token kind start end line column newline = record {
  kind = kind;
  start = start;
  end = end;
  place =
      place line column;
  newline = newline;
}

-- `var a;` LF `var b;` LF `a=1;with(b){}`
abbrev pub with_statement : List Token
with_statement = token (k.Word w.Var) 0 3 1 1 false ∷ token (k.Name (codes "a")) 4 5 1 5 false
    ∷ token (k.Mark m.Semicolon) 5 6 1 6 false ∷ token (k.Word w.Var) 7 10 2 1 true ∷ token
    (k.Name (codes "b")) 11 12 2 5 false ∷ token (k.Mark m.Semicolon) 12 13 2 6 false ∷ token
    (k.Name (codes "a")) 14 15 3 1 true ∷ token (k.Mark m.Assign) 15 16 3 2 false ∷ token
    (k.Number 1) 16 17 3 3 false ∷ token (k.Mark m.Semicolon) 17 18 3 4 false ∷ token
    (k.Word w.With) 18 22 3 5 false ∷ token (k.Mark m.OpenParenthesis) 22 23 3 9 false ∷ token
    (k.Name (codes "b")) 23 24 3 10 false ∷ token (k.Mark m.CloseParenthesis) 24 25 3 11 false
    ∷ token (k.Mark m.OpenBrace) 25 26 3 12 false ∷ token (k.Mark m.CloseBrace) 26 27 3 13 false
    ∷ token k.End 30 30 3 17 false ∷ []

-- `a b`
abbrev pub two_names : List Token
two_names = token (k.Name (codes "a")) 0 1 1 1 false ∷ token (k.Name (codes "b")) 2 3 1 3 false
    ∷ token k.End 3 3 1 4 false ∷ []

-- `x=$dl_x`
abbrev pub own_name : List Token
own_name = token (k.Name (codes "x")) 0 1 1 1 false ∷ token (k.Mark m.Assign) 1 2 1 2 false ∷ token
    (k.Name (codes "$dl_x")) 2 7 1 3 false ∷ token k.End 7 7 1 8 false ∷ []

-- `function f(){}function g(){}`
abbrev pub two_functions : List Token
two_functions = token (k.Word w.Function) 0 8 1 1 false ∷ token (k.Name (codes "f")) 9 10 1 10 false
    ∷ token (k.Mark m.OpenParenthesis) 10 11 1 11 false ∷ token
    (k.Mark m.CloseParenthesis) 11 12 1 12 false ∷ token (k.Mark m.OpenBrace) 12 13 1 13 false
    ∷ token (k.Mark m.CloseBrace) 13 14 1 14 false ∷ token (k.Word w.Function) 14 22 1 15 false
    ∷ token (k.Name (codes "g")) 23 24 1 24 false ∷ token (k.Mark m.OpenParenthesis) 24 25 1 25
    false ∷ token (k.Mark m.CloseParenthesis) 25 26 1 26 false ∷ token
    (k.Mark m.OpenBrace) 26 27 1 27 false ∷ token (k.Mark m.CloseBrace) 27 28 1 28 false
    ∷ token k.End 31 31 1 32 false ∷ []

-- n times `!`, and then `1`, behind so many characters of a line
abbrev pub nots : ℕ → ℕ → List Token
nots zero start = token (k.Number 1) start (start + 1) 1 (start + 1) false ∷ token k.End (start + 1)
    (start + 1) 1 (start + 2) false ∷ []
nots (suc n) start = token (k.Mark m.Not) start (start + 1) 1 (start + 1) false ∷ nots n (start + 1)

abbrev pub not_tree : ℕ → Expr
not_tree zero = Tree.Num 1
not_tree (suc n) = Tree.Prefix p.Not (not_tree n)

abbrev pub nots_tree : ℕ → Script
nots_tree n = Tree.MoreStmts (Tree.Do (not_tree n)) Tree.NoStmts

-- `((with`, which `((` begins within no limit of one bracket
abbrev pub brackets : List Token
brackets = token (k.Mark m.OpenParenthesis) 0 1 1 1 false ∷ token (k.Mark m.OpenParenthesis) 1 2 1 2
    false ∷ token (k.Word w.With) 2 6 1 3 false ∷ token k.End 6 6 1 7 false ∷ []

abbrev pub one_bracket : Limits
one_bracket = record in_source { brackets = 1 }

-- what is told of a token behind the tokens `function f(a`, if it is the breaking one
abbrev pub told : TokenKind → Answer
told kind = answer 2 (word w.Function false ∷ name (codes "f") false ∷ mark m.OpenParenthesis false
    ∷ name (codes "a") false ∷ []) (token kind 0 0 1 1 false)

-- `x=/a/`
abbrev pub regular_expression : List Token
regular_expression = token (k.Name (codes "x")) 0 1 1 1 false ∷ token
    (k.Mark m.Assign) 1 2 1 2 false ∷ token (k.Mark m.Slash) 2 3 1 3 false ∷ token
    (k.Name (codes "a")) 3 4 1 4 false ∷ token (k.Mark m.Slash) 4 5 1 5 false
    ∷ token k.End 8 8 1 9 false ∷ []

-- `if(a)function f(){}`
abbrev pub function_in_if : List Token
function_in_if = token (k.Word w.If) 0 2 1 1 false ∷ token (k.Mark m.OpenParenthesis) 2 3 1 3 false
    ∷ token (k.Name (codes "a")) 3 4 1 4 false ∷ token (k.Mark m.CloseParenthesis) 4 5 1 5 false
    ∷ token (k.Word w.Function) 5 13 1 6 false ∷ token (k.Name (codes "f")) 14 15 1 15 false
    ∷ token (k.Mark m.OpenParenthesis) 15 16 1 16 false ∷ token
    (k.Mark m.CloseParenthesis) 16 17 1 17 false ∷ token (k.Mark m.OpenBrace) 17 18 1 18 false
    ∷ token (k.Mark m.CloseBrace) 18 19 1 19 false ∷ token k.End 22 22 1 23 false ∷ []

-- `x=eval(1)`
abbrev pub eval_called : List Token
eval_called = token (k.Name (codes "x")) 0 1 1 1 false ∷ token (k.Mark m.Assign) 1 2 1 2 false
    ∷ token (k.Name (codes "eval")) 2 6 1 3 false ∷ token (k.Mark m.OpenParenthesis) 6 7 1 7
    false ∷ token (k.Number 1) 7 8 1 8 false ∷ token (k.Mark m.CloseParenthesis) 8 9 1 9 false
    ∷ token k.End 12 12 1 13 false ∷ []

-- `a.callee`
abbrev pub callee_read : List Token
callee_read = token (k.Name (codes "a")) 0 1 1 1 false ∷ token (k.Mark m.Dot) 1 2 1 2 false ∷ token
    (k.Name (codes "callee")) 2 8 1 3 false ∷ token k.End 8 8 1 9 false ∷ []

-- `var arguments`
abbrev pub arguments_declared : List Token
arguments_declared = token (k.Word w.Var) 0 3 1 1 false ∷ token (k.Name (codes "arguments")) 4 13 1
    5 false ∷ token k.End 13 13 1 14 false ∷ []

-- `x=eval($dl_get(0x2))`
abbrev pub late_in_hexadecimal : List Token
late_in_hexadecimal = token (k.Name (codes "x")) 0 1 1 1 false ∷ token
    (k.Mark m.Assign) 1 2 1 2 false ∷ token (k.Name (codes "eval")) 2 6 1 3 false ∷ token
    (k.Mark m.OpenParenthesis) 6 7 1 7 false ∷ token (k.Name (codes "$dl_get")) 7 14 1 8 false
    ∷ token (k.Mark m.OpenParenthesis) 14 15 1 15 false ∷ token (k.Number 2) 15 18 1 16 false
    ∷ token (k.Mark m.CloseParenthesis) 18 19 1 19 false ∷ token
    (k.Mark m.CloseParenthesis) 19 20 1 20 false ∷ token k.End 20 20 1 21 false ∷ []

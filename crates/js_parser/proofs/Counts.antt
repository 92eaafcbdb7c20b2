-- The functions and the brackets of a script are told by its tokens.
use Rattle.std.proofs.Common.{◌≡◌, ℕ, suc, ◌+◌, Bool, false, List, [], ◌∷◌, ◌++◌, Option, Some, None, length, refl, ap, sym, ◌∙◌, subst, arith}
use Rattle.std.proofs.lemmas.List.{append-nil, append_assoc, length-append}
use Rattle.js_lexer.specs.declared.mark.Mark.{Mark}
use Rattle.js_lexer.specs.declared.mark.Mark.TheVariants as m
use Rattle.js_lexer.specs.declared.word.Word.TheVariants as w
use Rattle.js_lexer.specs.declared.token.TokenKind.{TokenKind}
use Rattle.js_lexer.specs.declared.token.TokenKind.TheVariants as k
use Rattle.js_tree.specs.declared.tree.BinaryOp.{BinaryOp}
use Rattle.js_tree.specs.declared.tree.BinaryOp.TheVariants as b
use Rattle.js_tree.specs.declared.tree.PrefixOp.{PrefixOp}
use Rattle.js_tree.specs.declared.tree.PrefixOp.TheVariants as p
use Rattle.js_tree.specs.declared.tree.PostfixOp.{PostfixOp}
use Rattle.js_tree.specs.declared.tree.PostfixOp.TheVariants as q
use Rattle.js_tree.specs.Tree.{Name, Expr, Exprs, MaybeExpr, Elements, Pairs, Stmt, Stmts, VarItems, Cases, ForInit, Func, Script}
use Rattle.js_tree.specs.Numbering.{in_expr, in_exprs, in_maybe_expr, in_elements, in_pairs, in_stmt, in_stmts, in_var_items, in_cases, in_for_init}
use Rattle.js_parser.specs.declared.form.Form.{Form}
use Rattle.js_parser.specs.Symbols.{Symbol, Symbols, of_kind, word, mark, name, end}
use Rattle.js_tree.specs.Levels.{Operator, LogicalOr, LogicalAnd, Operation, joined}
use Rattle.js_parser.specs.Operators.{sign, prefix_sign, postfix_sign, assignment}
use Rattle.js_parser.specs.Names.{key_of, get_name}
use Rattle.js_parser.specs.Contexts.{Context}
use Rattle.js_parser.specs.Ends.{Ends, EndsAtOnce}
use Rattle.js_parser.specs.Ends as e
use Rattle.js_parser.specs.Grammar.{Formals, Expression, NewCallee, Arguments, ArgumentList, ElementList, PropertyList, FunctionRest, Declarator, DeclaratorList, OptionalExpression, ForFirst, Block, Statement, StatementList, CaseClauses, SourceElement, SourceElements}
use Rattle.js_parser.specs.Grammar as g
use Rattle.js_parser.specs.Accepted.{Derives, functions_in, counted, opened}
use Rattle.js_parser.specs.Laws.{open_behind}

-- the token is no bracket, and no word `function`
record IsPlain (kind : TokenKind) : Type 0 where
  counts : (n : ℕ) → counted kind n ≡ n
  opens : (n : ℕ) → opened kind n ≡ n

-- the tokens have so many words `function` as there are functions, and close the brackets that they open
pub record Counts (u : Symbols) (fs : List Func) : Type 0 where
  pub functions : functions_in u ≡ length fs
  pub closed : (n : ℕ) → open_behind n u ≡ n

nothing : Counts [] []
nothing = record { functions = refl; closed = λ n. refl }

plain : {s : Symbol} {v : Symbols} {fs : List Func} → IsPlain s.kind → Counts v fs → Counts (s ∷ v) fs
plain {s = s} {v = v} p h = record { functions = p.counts (functions_in v) ∙ h.functions; closed = λ n. ap (λ a. open_behind a v) (p.opens n) ∙ h.closed n }

pub functions-join : (u v : Symbols) → functions_in (u ++ v) ≡ functions_in u + functions_in v
functions-join [] v = omega arith
functions-join (s ∷ u) v = ap (counted s.kind) (functions-join u v) ∙ counted-join s.kind (functions_in u) (functions_in v)
  where
    counted-join : (kind : TokenKind) (n o : ℕ) → counted kind (n + o) ≡ counted kind n + o
    counted-join (k.Word w.Function) n o = omega arith
    counted-join (k.Word _) n o = refl
    counted-join (k.Name a) n o = refl
    counted-join (k.Number a) n o = refl
    counted-join (k.Str a) n o = refl
    counted-join (k.Mark a) n o = refl
    counted-join k.End n o = refl

open-join : (n : ℕ) (u v : Symbols) → open_behind n (u ++ v) ≡ open_behind (open_behind n u) v
open-join n [] v = refl
open-join n (s ∷ u) v = open-join (opened s.kind n) u v

join : {u v : Symbols} {fs gs : List Func} → Counts u fs → Counts v gs → Counts (u ++ v) (fs ++ gs)
join {u = u} {v = v} {fs = fs} {gs = gs} h i = record {
  functions = let a = h.functions in let c = i.functions in functions-join u v ∙ ap (λ n. n + functions_in v) a ∙ ap (λ n. length fs + n) c ∙ sym (length-append fs gs);
  closed = λ n. open-join n u v ∙ ap (λ a. open_behind a v) (h.closed n) ∙ i.closed n;
}

trailing : {u : Symbols} {fs : List Func} → Counts u fs → Counts u (fs ++ [])
trailing {u = u} {fs = fs} h = subst (λ gs. Counts u gs) (sym (append-nil fs)) h

straight : {u : Symbols} {fs : List Func} → Counts u (fs ++ []) → Counts u fs
straight {u = u} {fs = fs} h = subst (λ gs. Counts u gs) (append-nil fs) h

-- tokens, a plain one, and others
linked : {u : Symbols} (s : Symbol) {v : Symbols} {fs gs : List Func} → Counts u fs → IsPlain s.kind → Counts v gs → Counts (u ++ (s ∷ v)) (fs ++ gs)
linked s h p i = join h (plain p i)

closing : {u : Symbols} (s : Symbol) {fs : List Func} → Counts u fs → IsPlain s.kind → Counts (u ++ (s ∷ [])) fs
closing s h p = straight (linked s h p nothing)

-- a bracket and the one that closes it
record IsPair (opening closing_one : TokenKind) : Type 0 where
  open_counts : (n : ℕ) → counted opening n ≡ n
  open_opens : (n : ℕ) → opened opening n ≡ suc n
  close_counts : (n : ℕ) → counted closing_one n ≡ n
  close_closes : (n : ℕ) → opened closing_one (suc n) ≡ n

parentheses : IsPair (k.Mark m.OpenParenthesis) (k.Mark m.CloseParenthesis)
parentheses = record { open_counts = λ n. refl; open_opens = λ n. refl; close_counts = λ n. refl; close_closes = λ n. omega arith }

brackets : IsPair (k.Mark m.OpenBracket) (k.Mark m.CloseBracket)
brackets = record { open_counts = λ n. refl; open_opens = λ n. refl; close_counts = λ n. refl; close_closes = λ n. omega arith }

braces : IsPair (k.Mark m.OpenBrace) (k.Mark m.CloseBrace)
braces = record { open_counts = λ n. refl; open_opens = λ n. refl; close_counts = λ n. refl; close_closes = λ n. omega arith }

paired : {s : Symbol} (t : Symbol) (u v : Symbols) {fs gs : List Func} → IsPair s.kind t.kind → Counts u fs → Counts v gs → Counts (s ∷ (u ++ (t ∷ v))) (fs ++ gs)
paired {s = s} t u v {fs = fs} {gs = gs} p h i = record {
  functions = let a = h.functions in let c = i.functions in
      p.open_counts (functions_in (u ++ (t ∷ v))) ∙ functions-join u (t ∷ v) ∙ ap (λ n. functions_in u + n) (p.close_counts (functions_in v)) ∙ ap (λ n. n + functions_in v) a ∙ ap (λ n. length fs + n) c ∙ sym (length-append fs gs);
  closed = λ n. ap (λ a. open_behind a (u ++ (t ∷ v))) (p.open_opens n) ∙ open-join (suc n) u (t ∷ v) ∙ ap (λ a. open_behind (opened t.kind a) v) (h.closed (suc n))
      ∙ ap (λ a. open_behind a v) (p.close_closes n) ∙ i.closed n;
}

-- nothing behind them
pair : {s : Symbol} (t : Symbol) (u : Symbols) {fs : List Func} → IsPair s.kind t.kind → Counts u fs → Counts (s ∷ (u ++ (t ∷ []))) fs
pair t u p h = straight (paired t u [] p h nothing)

function_word : {newline : Bool} {v : Symbols} {fs : List Func} (f : Func) → Counts v fs → Counts (word w.Function newline ∷ v) (f ∷ fs)
function_word f h = record { functions = ap suc h.functions; closed = h.closed }

-- ---- plain tokens

sign-plain : (op : Operator) → IsPlain (sign op)
sign-plain LogicalOr = record { counts = λ n. refl; opens = λ n. refl }
sign-plain LogicalAnd = record { counts = λ n. refl; opens = λ n. refl }
sign-plain (Operation b.BitOr) = record { counts = λ n. refl; opens = λ n. refl }
sign-plain (Operation b.BitXor) = record { counts = λ n. refl; opens = λ n. refl }
sign-plain (Operation b.BitAnd) = record { counts = λ n. refl; opens = λ n. refl }
sign-plain (Operation b.Equal) = record { counts = λ n. refl; opens = λ n. refl }
sign-plain (Operation b.NotEqual) = record { counts = λ n. refl; opens = λ n. refl }
sign-plain (Operation b.Same) = record { counts = λ n. refl; opens = λ n. refl }
sign-plain (Operation b.NotSame) = record { counts = λ n. refl; opens = λ n. refl }
sign-plain (Operation b.Less) = record { counts = λ n. refl; opens = λ n. refl }
sign-plain (Operation b.Greater) = record { counts = λ n. refl; opens = λ n. refl }
sign-plain (Operation b.LessEqual) = record { counts = λ n. refl; opens = λ n. refl }
sign-plain (Operation b.GreaterEqual) = record { counts = λ n. refl; opens = λ n. refl }
sign-plain (Operation b.InstanceOf) = record { counts = λ n. refl; opens = λ n. refl }
sign-plain (Operation b.In) = record { counts = λ n. refl; opens = λ n. refl }
sign-plain (Operation b.ShiftLeft) = record { counts = λ n. refl; opens = λ n. refl }
sign-plain (Operation b.ShiftRight) = record { counts = λ n. refl; opens = λ n. refl }
sign-plain (Operation b.ShiftRightUnsigned) = record { counts = λ n. refl; opens = λ n. refl }
sign-plain (Operation b.Add) = record { counts = λ n. refl; opens = λ n. refl }
sign-plain (Operation b.Subtract) = record { counts = λ n. refl; opens = λ n. refl }
sign-plain (Operation b.Multiply) = record { counts = λ n. refl; opens = λ n. refl }
sign-plain (Operation b.Divide) = record { counts = λ n. refl; opens = λ n. refl }
sign-plain (Operation b.Remainder) = record { counts = λ n. refl; opens = λ n. refl }

prefix-plain : (op : PrefixOp) → IsPlain (prefix_sign op)
prefix-plain p.Delete = record { counts = λ n. refl; opens = λ n. refl }
prefix-plain p.Void = record { counts = λ n. refl; opens = λ n. refl }
prefix-plain p.TypeOf = record { counts = λ n. refl; opens = λ n. refl }
prefix-plain p.Increment = record { counts = λ n. refl; opens = λ n. refl }
prefix-plain p.Decrement = record { counts = λ n. refl; opens = λ n. refl }
prefix-plain p.Plus = record { counts = λ n. refl; opens = λ n. refl }
prefix-plain p.Minus = record { counts = λ n. refl; opens = λ n. refl }
prefix-plain p.BitNot = record { counts = λ n. refl; opens = λ n. refl }
prefix-plain p.Not = record { counts = λ n. refl; opens = λ n. refl }

postfix-plain : (op : PostfixOp) → IsPlain (postfix_sign op)
postfix-plain q.Increment = record { counts = λ n. refl; opens = λ n. refl }
postfix-plain q.Decrement = record { counts = λ n. refl; opens = λ n. refl }

assignment-plain : (op : Option BinaryOp) (joint : Mark) → assignment op ≡ Some joint → IsPlain (k.Mark joint)
assignment-plain None joint h = let f : m.Assign ≡ joint = cc in subst (λ a. IsPlain (k.Mark a)) f (record { counts = λ n. refl; opens = λ n. refl })
assignment-plain (Some b.BitOr) joint h = let f : m.BitOrAssign ≡ joint = cc in subst (λ a. IsPlain (k.Mark a)) f (record { counts = λ n. refl; opens = λ n. refl })
assignment-plain (Some b.BitXor) joint h = let f : m.BitXorAssign ≡ joint = cc in subst (λ a. IsPlain (k.Mark a)) f (record { counts = λ n. refl; opens = λ n. refl })
assignment-plain (Some b.BitAnd) joint h = let f : m.BitAndAssign ≡ joint = cc in subst (λ a. IsPlain (k.Mark a)) f (record { counts = λ n. refl; opens = λ n. refl })
assignment-plain (Some b.Equal) joint h = cc
assignment-plain (Some b.NotEqual) joint h = cc
assignment-plain (Some b.Same) joint h = cc
assignment-plain (Some b.NotSame) joint h = cc
assignment-plain (Some b.Less) joint h = cc
assignment-plain (Some b.Greater) joint h = cc
assignment-plain (Some b.LessEqual) joint h = cc
assignment-plain (Some b.GreaterEqual) joint h = cc
assignment-plain (Some b.InstanceOf) joint h = cc
assignment-plain (Some b.In) joint h = cc
assignment-plain (Some b.ShiftLeft) joint h = let f : m.ShiftLeftAssign ≡ joint = cc in subst (λ a. IsPlain (k.Mark a)) f (record { counts = λ n. refl; opens = λ n. refl })
assignment-plain (Some b.ShiftRight) joint h = let f : m.ShiftRightAssign ≡ joint = cc in subst (λ a. IsPlain (k.Mark a)) f (record { counts = λ n. refl; opens = λ n. refl })
assignment-plain (Some b.ShiftRightUnsigned) joint h = let f : m.ShiftRightUnsignedAssign ≡ joint = cc in subst (λ a. IsPlain (k.Mark a)) f (record { counts = λ n. refl; opens = λ n. refl })
assignment-plain (Some b.Add) joint h = let f : m.PlusAssign ≡ joint = cc in subst (λ a. IsPlain (k.Mark a)) f (record { counts = λ n. refl; opens = λ n. refl })
assignment-plain (Some b.Subtract) joint h = let f : m.MinusAssign ≡ joint = cc in subst (λ a. IsPlain (k.Mark a)) f (record { counts = λ n. refl; opens = λ n. refl })
assignment-plain (Some b.Multiply) joint h = let f : m.TimesAssign ≡ joint = cc in subst (λ a. IsPlain (k.Mark a)) f (record { counts = λ n. refl; opens = λ n. refl })
assignment-plain (Some b.Divide) joint h = let f : m.SlashAssign ≡ joint = cc in subst (λ a. IsPlain (k.Mark a)) f (record { counts = λ n. refl; opens = λ n. refl })
assignment-plain (Some b.Remainder) joint h = let f : m.PercentAssign ≡ joint = cc in subst (λ a. IsPlain (k.Mark a)) f (record { counts = λ n. refl; opens = λ n. refl })

key-plain : (form : Form) (kind : TokenKind) (key : Name) → key_of form kind ≡ Some key → IsPlain kind
key-plain form (k.Name n) key h = record { counts = λ n. refl; opens = λ n. refl }
key-plain form (k.Str n) key h = record { counts = λ n. refl; opens = λ n. refl }
key-plain form (k.Number n) key h = record { counts = λ n. refl; opens = λ n. refl }
key-plain form (k.Word w) key h = cc
key-plain form (k.Mark m) key h = cc
key-plain form k.End key h = cc

-- any token of which it computes
mere : {kind : TokenKind} → ((n : ℕ) → counted kind n ≡ n) → ((n : ℕ) → opened kind n ≡ n) → IsPlain kind
mere h i = record { counts = h; opens = i }

ended : {reached : ℕ} {u v : Symbols} {next : Symbol} {fs : List Func} → Counts u fs → Ends reached next v → Counts (u ++ v) fs
ended h (e.written newline) = closing (mark m.Semicolon newline) h (mere (λ n. refl) (λ n. refl))
ended {u = u} {fs = fs} h (e.at_brace c) = subst (λ t. Counts t fs) (sym (append-nil u)) h
ended {u = u} {fs = fs} h (e.at_end c) = subst (λ t. Counts t fs) (sym (append-nil u)) h
ended {u = u} {fs = fs} h (e.at_line c d other) = subst (λ t. Counts t fs) (sym (append-nil u)) h

at-once : {v : Symbols} {next : Symbol} → EndsAtOnce next v → Counts v []
at-once e.semicolon = plain (mere (λ n. refl) (λ n. refl)) nothing
at-once (e.before_brace c) = nothing
at-once (e.before_end c) = nothing
at-once (e.before_line c) = nothing

-- ---- the grammar

formals : {form : Form} {u : Symbols} {ns : List Name} → Formals form u ns → Counts u []
formals g.no_formal = nothing
formals (g.last_formal c h) = plain (mere (λ n. refl) (λ n. refl)) nothing
formals (g.formal_and c d h fs) = plain (mere (λ n. refl) (λ n. refl)) (plain (mere (λ n. refl) (λ n. refl)) (formals fs))

joined-functions : (op : Operator) (x y : Expr) → in_expr (joined op x y) ≡ in_expr x ++ in_expr y
joined-functions LogicalOr x y = refl
joined-functions LogicalAnd x y = refl
joined-functions (Operation op) x y = refl

-- in parentheses, with a plain token in their midst
headed : {a : Bool} (z : Bool) (u : Symbols) (s : Symbol) (v body : Symbols) {fs gs hs : List Func} → Counts u fs → IsPlain s.kind → Counts v gs → Counts body hs
    → Counts (mark m.OpenParenthesis a ∷ (u ++ (s ∷ (v ++ (mark m.CloseParenthesis z ∷ body))))) (fs ++ (gs ++ hs))
headed {a = a} z u s v body {fs = fs} {gs = gs} {hs = hs} h p i j =
    subst (λ t. Counts (mark m.OpenParenthesis a ∷ t) (fs ++ (gs ++ hs))) (append_assoc u (s ∷ v) (mark m.CloseParenthesis z ∷ body))
    (subst (λ t. Counts (mark m.OpenParenthesis a ∷ ((u ++ (s ∷ v)) ++ (mark m.CloseParenthesis z ∷ body))) t) (append_assoc fs gs hs) (paired _ (u ++ (s ∷ v)) body parentheses (linked s h p i) j))

for-headed : {a : Bool} (z first second : Bool) (u v y body : Symbols) {fs gs hs ks : List Func} → Counts u fs → Counts v gs → Counts y hs → Counts body ks
    → Counts (mark m.OpenParenthesis a ∷ (u ++ (mark m.Semicolon first ∷ (v ++ (mark m.Semicolon second ∷ (y ++ (mark m.CloseParenthesis z ∷ body))))))) (fs ++ (gs ++ (hs ++ ks)))
for-headed {a = a} z first second u v y body {fs = fs} {gs = gs} {hs = hs} {ks = ks} h i j o =
    subst (λ t. Counts (mark m.OpenParenthesis a ∷ (u ++ (mark m.Semicolon first ∷ t))) (fs ++ (gs ++ (hs ++ ks)))) (append_assoc v (mark m.Semicolon second ∷ y) (mark m.CloseParenthesis z ∷ body))
    (subst (λ t. Counts (mark m.OpenParenthesis a ∷ (u ++ (mark m.Semicolon first ∷ ((v ++ (mark m.Semicolon second ∷ y)) ++ (mark m.CloseParenthesis z ∷ body))))) (fs ++ t)) (append_assoc gs hs ks)
    (headed z u (mark m.Semicolon first) (v ++ (mark m.Semicolon second ∷ y)) body h (mere (λ n. refl) (λ n. refl)) (linked (mark m.Semicolon second) i (mere (λ n. refl) (λ n. refl)) j) o))

mutual
  expression : {form : Form} {i : Bool} {l : ℕ} {u : Symbols} {x : Expr} → Expression form i l u x → Counts u (in_expr x)
  expression (g.this c h) = plain (mere (λ n. refl) (λ n. refl)) nothing
  expression (g.identifier c h r) = plain (mere (λ n. refl) (λ n. refl)) nothing
  expression (g.null c h) = plain (mere (λ n. refl) (λ n. refl)) nothing
  expression (g.truth c h) = plain (mere (λ n. refl) (λ n. refl)) nothing
  expression (g.falsehood c h) = plain (mere (λ n. refl) (λ n. refl)) nothing
  expression (g.numeral d c h) = plain (mere (λ n. refl) (λ n. refl)) nothing
  expression (g.literal c h) = plain (mere (λ n. refl) (λ n. refl)) nothing
  expression (g.array {u = u} c d h es) = pair _ u brackets (elements es)
  expression (g.object {u = u} c d h ps) = pair _ u braces (properties ps)
  expression (g.parenthesised {u = u} c d h x) = pair _ u parentheses (expression x)
  expression (g.function {ns = ns} {body = body} c h f) = function_word (g.code None ns body) (rest f)
  expression (g.named_function {n = n} {ns = ns} {body = body} c d h r f) = function_word (g.code (Some n) ns body) (plain (mere (λ n. refl) (λ n. refl)) (rest f))
  expression (g.late {n = n} c1 c2 c3 c4 c5 c6 c7 h form number) = plain (mere (λ n. refl) (λ n. refl)) (pair _ (name get_name c3 ∷ mark m.OpenParenthesis c4 ∷ of_kind (k.Number n) c5 ∷ mark m.CloseParenthesis c6 ∷ []) parentheses
      (plain (mere (λ n. refl) (λ n. refl)) (pair _ (of_kind (k.Number n) c5 ∷ []) parentheses (plain (mere (λ n. refl) (λ n. refl)) nothing))))
  expression (g.dot o c d h1 h2 h x r) = straight (linked (mark m.Dot c) (expression x) (mere (λ n. refl) (λ n. refl)) (plain (mere (λ n. refl) (λ n. refl)) nothing))
  expression (g.index {v = v} o c d h1 h2 h x y) = join (expression x) (pair _ v brackets (expression y))
  expression (g.call h x xs) = join (expression x) (arguments xs)
  expression (g.new c h x xs) = plain (mere (λ n. refl) (λ n. refl)) (join (expression x) (arguments xs))
  expression (g.bare_new c h x) = plain (mere (λ n. refl) (λ n. refl)) (trailing (callee x))
  expression (g.postfix op h x t) = closing (of_kind (postfix_sign op) false) (expression x) (postfix-plain op)
  expression (g.prefix op c h t x) = plain (prefix-plain op) (expression x)
  expression (g.changed op c h t x r) = plain (prefix-plain op) (expression x)
  expression (g.binary {u = u} {v = v} {x = x} {y = y} op c h may dx dy) =
      subst (λ fs. Counts (u ++ (of_kind (sign op) c ∷ v)) fs) (sym (joined-functions op x y)) (linked (of_kind (sign op) c) (expression dx) (sign-plain op) (expression dy))
  expression (g.conditional c d h x y other) = linked (mark m.Question c) (expression x) (mere (λ n. refl) (λ n. refl)) (linked (mark m.Colon d) (expression y) (mere (λ n. refl) (λ n. refl)) (expression other))
  expression (g.assign op joint c h eq x t y) = linked (mark joint c) (expression x) (assignment-plain op joint eq) (expression y)
  expression (g.comma c h x y) = linked (mark m.Comma c) (expression x) (mere (λ n. refl) (λ n. refl)) (expression y)

  callee : {form : Form} {i : Bool} {u : Symbols} {x : Expr} → NewCallee form i u x → Counts u (in_expr x)
  callee (g.member x) = expression x
  callee (g.new_again c x) = plain (mere (λ n. refl) (λ n. refl)) (trailing (callee x))

  arguments : {form : Form} {u : Symbols} {xs : Exprs} → Arguments form u xs → Counts u (in_exprs xs)
  arguments (g.no_arguments c d) = pair _ [] parentheses nothing
  arguments (g.arguments {u = u} c d xs) = pair _ u parentheses (argument_list xs)

  argument_list : {form : Form} {u : Symbols} {xs : Exprs} → ArgumentList form u xs → Counts u (in_exprs xs)
  argument_list (g.last_argument x) = trailing (expression x)
  argument_list (g.argument_and c x xs) = linked (mark m.Comma c) (expression x) (mere (λ n. refl) (λ n. refl)) (argument_list xs)

  elements : {form : Form} {u : Symbols} {es : Elements} → ElementList form u es → Counts u (in_elements es)
  elements g.no_element = nothing
  elements (g.last_element x) = trailing (expression x)
  elements (g.element_and c x es) = linked (mark m.Comma c) (expression x) (mere (λ n. refl) (λ n. refl)) (elements es)
  elements (g.hole_and c es) = plain (mere (λ n. refl) (λ n. refl)) (elements es)

  properties : {form : Form} {u : Symbols} {ps : Pairs} → PropertyList form u ps → Counts u (in_pairs ps)
  properties g.no_property = nothing
  properties {form = form} (g.last_property {key = key} s d r x) = plain (key-plain form s.kind key r) (plain (mere (λ n. refl) (λ n. refl)) (trailing (expression x)))
  properties {form = form} (g.property_and {key = key} s d f r x ps) = plain (key-plain form s.kind key r) (plain (mere (λ n. refl) (λ n. refl)) (linked (mark m.Comma f) (expression x) (mere (λ n. refl) (λ n. refl)) (properties ps)))

  rest : {form : Form} {u : Symbols} {ns : List Name} {body : Stmts} → FunctionRest form u ns body → Counts u (in_stmts body)
  rest (g.function_rest {u = u} {v = v} c d f h fs r body) = paired _ u _ parentheses (formals fs) (pair _ v braces (source body))

  declarator : {form : Form} {i : Bool} {u : Symbols} {n : Name} {value : MaybeExpr} → Declarator form i u n value → Counts u (in_maybe_expr value)
  declarator (g.bare c r) = plain (mere (λ n. refl) (λ n. refl)) nothing
  declarator (g.initialised c d r x) = plain (mere (λ n. refl) (λ n. refl)) (plain (mere (λ n. refl) (λ n. refl)) (expression x))

  declarators : {form : Form} {i : Bool} {u : Symbols} {items : VarItems} → DeclaratorList form i u items → Counts u (in_var_items items)
  declarators (g.last_declarator x) = trailing (declarator x)
  declarators (g.declarator_and c x xs) = linked (mark m.Comma c) (declarator x) (mere (λ n. refl) (λ n. refl)) (declarators xs)

  optional : {form : Form} {u : Symbols} {x : MaybeExpr} → OptionalExpression form u x → Counts u (in_maybe_expr x)
  optional g.absent = nothing
  optional (g.present x) = expression x

  for_first : {form : Form} {u : Symbols} {init : ForInit} → ForFirst form u init → Counts u (in_for_init init)
  for_first g.nothing_first = nothing
  for_first (g.variables_first c xs) = plain (mere (λ n. refl) (λ n. refl)) (declarators xs)
  for_first (g.expression_first x) = expression x

  block : {form : Form} {c : Context} {u : Symbols} {s : Stmt} → Block form c u s → Counts u (in_stmt s)
  block (g.braces {u = u} c d ss) = pair _ u braces (statements ss)

  statement : {form : Form} {c : Context} {u : Symbols} {next : Symbol} {s : Stmt} → Statement form c u next s → Counts u (in_stmt s)
  statement (g.block s) = block s
  statement (g.variables c xs ends) = plain (mere (λ n. refl) (λ n. refl)) (ended (declarators xs) ends)
  statement (g.empty c) = plain (mere (λ n. refl) (λ n. refl)) nothing
  statement (g.expression x h1 h2 ends) = ended (expression x) ends
  statement (g.if {u = u} {v = v} c d f x s h) = plain (mere (λ n. refl) (λ n. refl)) (paired _ u v parentheses (expression x) (trailing (statement s)))
  statement (g.if_else {u = u} {v = v} {z = z} c d f h x s other) = plain (mere (λ n. refl) (λ n. refl)) (paired _ u _ parentheses (expression x) (linked (word w.Else h) (statement s) (mere (λ n. refl) (λ n. refl)) (statement other)))
  statement (g.do_while {v = v} {z = z} c d f h s x ends) = plain (mere (λ n. refl) (λ n. refl)) (linked (word w.While d) (statement s) (mere (λ n. refl) (λ n. refl)) (straight (paired _ v z parentheses (expression x) (ended nothing ends))))
  statement (g.while {u = u} {v = v} c d f x s) = plain (mere (λ n. refl) (λ n. refl)) (paired _ u v parentheses (expression x) (statement s))
  statement (g.for {u = u} {v = v} {z = z} {body = body} c d f h j init test step s) = plain (mere (λ n. refl) (λ n. refl)) (for-headed j f h u v z body (for_first init) (optional test) (optional step) (statement s))
  statement (g.for_in {u = u} {v = v} {body = body} c d f h x t y s) = plain (mere (λ n. refl) (λ n. refl)) (headed _ u (word w.In f) v body (expression x) (mere (λ n. refl) (λ n. refl)) (expression y) (statement s))
  statement (g.for_var_in {u = u} {v = v} {body = body} c d f h j x y s) = plain (mere (λ n. refl) (λ n. refl)) (headed _ (word w.Var f ∷ u) (word w.In h) v body (plain (mere (λ n. refl) (λ n. refl)) (declarator x)) (mere (λ n. refl) (λ n. refl)) (expression y) (statement s))
  statement (g.continue c h ends) = plain (mere (λ n. refl) (λ n. refl)) (at-once ends)
  statement (g.continue_to c r h ends) = plain (mere (λ n. refl) (λ n. refl)) (plain (mere (λ n. refl) (λ n. refl)) (ended nothing ends))
  statement (g.break c h ends) = plain (mere (λ n. refl) (λ n. refl)) (at-once ends)
  statement (g.break_from c r h ends) = plain (mere (λ n. refl) (λ n. refl)) (plain (mere (λ n. refl) (λ n. refl)) (ended nothing ends))
  statement (g.return c h ends) = plain (mere (λ n. refl) (λ n. refl)) (at-once ends)
  statement (g.return_value c h x first ends) = plain (mere (λ n. refl) (λ n. refl)) (ended (expression x) ends)
  statement (g.switch {u = u} {v = v} c d f h j x cs) = plain (mere (λ n. refl) (λ n. refl)) (paired _ u _ parentheses (expression x) (pair _ v braces (clauses cs)))
  statement (g.label c d r away s) = plain (mere (λ n. refl) (λ n. refl)) (plain (mere (λ n. refl) (λ n. refl)) (statement s))
  statement (g.throw c x first ends) = plain (mere (λ n. refl) (λ n. refl)) (ended (expression x) ends)
  statement (g.try_catch {n = n} {v = v} c d f h j s r handler) = plain (mere (λ n. refl) (λ n. refl)) (linked (word w.Catch d) (block s) (mere (λ n. refl) (λ n. refl)) (paired _ (name n h ∷ []) v parentheses (plain (mere (λ n. refl) (λ n. refl)) nothing) (trailing (block handler))))
  statement (g.try_finally c d s last) = plain (mere (λ n. refl) (λ n. refl)) (linked (word w.Finally d) (block s) (mere (λ n. refl) (λ n. refl)) (block last))
  statement (g.try_catch_finally {n = n} c d f h j o s r handler last) =
      plain (mere (λ n. refl) (λ n. refl)) (linked (word w.Catch d) (block s) (mere (λ n. refl) (λ n. refl)) (paired _ (name n h ∷ []) _ parentheses (plain (mere (λ n. refl) (λ n. refl)) nothing) (linked (word w.Finally o) (block handler) (mere (λ n. refl) (λ n. refl)) (block last))))

  statements : {form : Form} {c : Context} {u : Symbols} {next : Symbol} {ss : Stmts} → StatementList form c u next ss → Counts u (in_stmts ss)
  statements g.no_statement = nothing
  statements (g.statement_and s ss) = join (statement s) (statements ss)

  clauses : {form : Form} {c : Context} {may : Bool} {u : Symbols} {next : Symbol} {cs : Cases} → CaseClauses form c may u next cs → Counts u (in_cases cs)
  clauses g.no_clause = nothing
  clauses (g.case_and c d x ss cs) = plain (mere (λ n. refl) (λ n. refl)) (linked (mark m.Colon d) (expression x) (mere (λ n. refl) (λ n. refl)) (join (statements ss) (clauses cs)))
  clauses (g.default_and c d ss cs) = plain (mere (λ n. refl) (λ n. refl)) (plain (mere (λ n. refl) (λ n. refl)) (join (statements ss) (clauses cs)))

  pub source_element : {form : Form} {c : Context} {u : Symbols} {next : Symbol} {s : Stmt} → SourceElement form c u next s → Counts u (in_stmt s)
  source_element (g.statement s) = statement s
  source_element (g.declaration {n = n} {ns = ns} {body = body} c d r f) = function_word (g.code (Some n) ns body) (plain (mere (λ n. refl) (λ n. refl)) (rest f))

  pub source : {form : Form} {c : Context} {u : Symbols} {next : Symbol} {ss : Stmts} → SourceElements form c u next ss → Counts u (in_stmts ss)
  source g.no_source = nothing
  source (g.source_and s ss) = join (source_element s) (source ss)

pub functions_counted : (form : Form) (tokens : Symbols) (tree : Script) → Derives form tokens tree → functions_in tokens ≡ length (in_stmts tree)
functions_counted form tokens tree d = ap functions_in d.whole ∙ (closing (end d.newline) (source d.derived) (mere (λ n. refl) (λ n. refl))).functions

-- the statements and declarations of a script close the brackets that they open
pub sources_closed : {form : Form} {c : Context} {u : Symbols} {next : Symbol} {ss : Stmts} → SourceElements form c u next ss → (n : ℕ) → open_behind n u ≡ n
sources_closed d n = (source d).closed n

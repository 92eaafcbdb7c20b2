-- The grammar (ES3 sections 11 to 14), as a relation between tokens and trees, in two forms.
--
-- An expression is of a level, and an expression of a level is one of each lower level:
--   1 Expression, 2 AssignmentExpression, 3 ConditionalExpression,
--   4 to 13 the operators between two operands, grouping to the left,
--   14 UnaryExpression, 15 PostfixExpression, 16 LeftHandSideExpression,
--   17 CallExpression, 18 MemberExpression, 19 PrimaryExpression.
-- An expression has a flag: whether the operator `in` may stand in it outside brackets (the
-- standard's NoIn where it may not).
-- A statement has the token that follows it as an index, for inserted semicolons and for `else`.
-- What is refused has no rule, or a rule with a condition that it breaks.
use Rattle.std.specs.Prelude.{ℕ, suc, ◌≡◌, ◌≢◌, ◌≤◌, Bool, true, false, List, [], ◌∷◌, ◌++◌, Option, Some, None}
use Rattle.js_lexer.specs.declared.mark.Mark.TheVariants as m
use Rattle.js_lexer.specs.declared.word.Word.TheVariants as w
use Rattle.js_lexer.specs.declared.token.TokenKind.TheVariants as k
use Rattle.js_tree.specs.declared.tree.BinaryOp.{BinaryOp}
use Rattle.js_tree.specs.declared.tree.PrefixOp.{PrefixOp}
use Rattle.js_tree.specs.declared.tree.PostfixOp.{PostfixOp}
use Rattle.js_tree.specs.declared.tree.Role.TheVariants.{Plain}
use Rattle.js_tree.specs.Tree.{Name, Expr, Exprs, MaybeExpr, Elements, Pairs, Stmt, Stmts, VarItems, Cases, ForInit, Func}
use Rattle.js_tree.specs.Tree
use Rattle.js_lexer.specs.declared.mark.Mark.{Mark}
use Rattle.js_parser.specs.declared.form.Form.{Form}
use Rattle.js_parser.specs.declared.form.Form.TheVariants.{Written}
use Rattle.js_parser.specs.Symbols.{Symbol, Symbols, of_kind, word, mark, name, number, number_in, string, first}
use Rattle.js_tree.specs.Levels.{Operator, joined, level, changes}
use Rattle.js_parser.specs.Operators.{sign, may_operate, prefix_sign, postfix_sign, assignment, is_target}
use Rattle.js_tree.specs.Numbering.{is_function_number}
use Rattle.js_parser.specs.Names.{get_name, is_reference, is_binding, is_property, key_of, is_among, is_distinct}
use Rattle.js_parser.specs.Contexts.{Context, part, loop, clause, labelled}
use Rattle.js_parser.specs.Contexts as context
use Rattle.js_parser.specs.Ends.{reach, list_reach, Ends, EndsAtOnce}
use Rattle.std.specs.Prelude.{codes}

-- 13: the formals, with commas between
pub data Formals (form : Form) : Symbols → List Name → Type 0 where
  no_formal : Formals form [] []
  last_formal : {n : Name} (b : Bool) → is_binding form n ≡ true
      → Formals form (name n b ∷ []) (n ∷ [])
  formal_and : {n o : Name} {u : Symbols} {ns : List Name} (b c : Bool) → is_binding form n ≡ true
      → Formals form u (o ∷ ns)
      → Formals form (name n b ∷ (mark m.Comma c ∷ u)) (n ∷ (o ∷ ns))

-- a function of a text, which says no number and no role
abbrev pub code : Option Name → List Name → Stmts → Func
code name formals body = Tree.Code 0 name formals body Plain

mutual
  -- The tokens are an expression of this level, with this tree.
  pub data Expression (form : Form) : Bool → ℕ → Symbols → Expr → Type 0 where
    -- 11.1.1
    this : {i : Bool} {l : ℕ} (b : Bool) → l ≤ 19
        → Expression form i l (word w.This b ∷ []) Tree.This
    -- 11.1.2
    identifier : {i : Bool} {l : ℕ} {n : Name} (b : Bool) → l ≤ 19 → is_reference form n ≡ true
        → Expression form i l (name n b ∷ []) (Tree.Ident n)
    -- 11.1.3, with 7.8
    null : {i : Bool} {l : ℕ} (b : Bool) → l ≤ 19
        → Expression form i l (word w.Null b ∷ []) Tree.Null
    truth : {i : Bool} {l : ℕ} (b : Bool) → l ≤ 19
        → Expression form i l (word w.True b ∷ []) (Tree.Truth true)
    falsehood : {i : Bool} {l : ℕ} (b : Bool) → l ≤ 19
        → Expression form i l (word w.False b ∷ []) (Tree.Truth false)
    numeral : {i : Bool} {l n : ℕ} (d b : Bool) → l ≤ 19
        → Expression form i l (number_in d n b ∷ []) (Tree.Num n)
    literal : {i : Bool} {l : ℕ} {text : Name} (b : Bool) → l ≤ 19
        → Expression form i l (string text b ∷ []) (Tree.Str text)
    -- 11.1.4
    array : {i : Bool} {l : ℕ} {u : Symbols} {es : Elements} (b c : Bool) → l ≤ 19
        → ElementList form u es
        → Expression form i l (mark m.OpenBracket b ∷ (u ++ (mark m.CloseBracket c ∷ [])))
        (Tree.Array es)
    -- 11.1.5
    object : {i : Bool} {l : ℕ} {u : Symbols} {ps : Pairs} (b c : Bool) → l ≤ 19
        → PropertyList form u ps
        → Expression form i l (mark m.OpenBrace b ∷ (u ++ (mark m.CloseBrace c ∷ [])))
        (Tree.Object ps)
    -- 11.1.6
    parenthesised : {i : Bool} {l : ℕ} {u : Symbols} {x : Expr} (b c : Bool) → l ≤ 19
        → Expression form true 1 u x
        → Expression form i l (mark m.OpenParenthesis b ∷ (u ++ (mark m.CloseParenthesis c ∷ []))) x
    -- 13: function expressions
    function : {i : Bool} {l : ℕ} {u : Symbols} {ns : List Name} {body : Stmts} (b : Bool) → l ≤ 19
        → FunctionRest form u ns body
        → Expression form i l (word w.Function b ∷ u) (Tree.Function (code None ns body))
    named_function : {i : Bool} {l : ℕ} {n : Name} {u : Symbols} {ns : List Name} {body : Stmts}
        (b c : Bool) → l ≤ 19 → is_binding form n ≡ true
        → FunctionRest form u ns body
        → Expression form i l (word w.Function b ∷ (name n c ∷ u))
        (Tree.Function (code (Some n) ns body))
    -- `eval($dl_get(k))`, in the form Written alone: k is in decimal
    late : {i : Bool} {l n : ℕ} (b c d e f g h : Bool) → l ≤ 19 → form ≡ Written
        → is_function_number n ≡ true
        → Expression form i l (name (codes "eval") b ∷ mark m.OpenParenthesis c ∷ name get_name d
        ∷ mark m.OpenParenthesis e ∷ number n f ∷ mark m.CloseParenthesis g
        ∷ mark m.CloseParenthesis h ∷ []) (Tree.Late n)
    -- 11.2.1: a member of a MemberExpression, or of a CallExpression
    dot : {i : Bool} {l : ℕ} {n : Name} {u : Symbols} {x : Expr} (o : ℕ) (b c : Bool) → 17 ≤ o
        → o ≤ 18 → l ≤ o → Expression form i o u x → is_property form n ≡ true
        → Expression form i l (u ++ (mark m.Dot b ∷ (name n c ∷ []))) (Tree.Dot x n)
    index : {i : Bool} {l : ℕ} {u v : Symbols} {x y : Expr} (o : ℕ) (b c : Bool) → 17 ≤ o → o ≤ 18
        → l ≤ o → Expression form i o u x → Expression form true 1 v y
        → Expression form i l (u ++ (mark m.OpenBracket b ∷ (v ++ (mark m.CloseBracket c ∷ []))))
        (Tree.Index x y)
    -- 11.2.3
    call : {i : Bool} {l : ℕ} {u v : Symbols} {x : Expr} {xs : Exprs} → l ≤ 17
        → Expression form i 17 u x → Arguments form v xs
        → Expression form i l (u ++ v) (Tree.Call x xs)
    -- 11.2.2: `new` takes the first arguments behind its callee, a MemberExpression
    new : {i : Bool} {l : ℕ} {u v : Symbols} {x : Expr} {xs : Exprs} (b : Bool) → l ≤ 18
        → Expression form i 18 u x → Arguments form v xs
        → Expression form i l (word w.New b ∷ (u ++ v)) (Tree.New x xs)
    bare_new : {i : Bool} {l : ℕ} {u : Symbols} {x : Expr} (b : Bool) → l ≤ 16
        → NewCallee form i u x
        → Expression form i l (word w.New b ∷ u) (Tree.New x Tree.NoExprs)
    -- 11.3.1, 11.3.2: no line terminator stands before the operator
    postfix : {i : Bool} {l : ℕ} {u : Symbols} {x : Expr} (op : PostfixOp) → l ≤ 15
        → Expression form i 16 u x → is_target x ≡ true
        → Expression form i l (u ++ (of_kind (postfix_sign op) false ∷ [])) (Tree.Postfix x op)
    -- 11.4.1 to 11.4.3, 11.4.6 to 11.4.9
    prefix : {i : Bool} {l : ℕ} {u : Symbols} {x : Expr} (op : PrefixOp) (b : Bool) → l ≤ 14
        → changes op ≡ false → Expression form i 14 u x
        → Expression form i l (of_kind (prefix_sign op) b ∷ u) (Tree.Prefix op x)
    -- 11.4.4, 11.4.5: the operand is a target
    changed : {i : Bool} {l : ℕ} {u : Symbols} {x : Expr} (op : PrefixOp) (b : Bool) → l ≤ 14
        → changes op ≡ true → Expression form i 16 u x → is_target x ≡ true
        → Expression form i l (of_kind (prefix_sign op) b ∷ u) (Tree.Prefix op x)
    -- 11.5 to 11.11: the left operand may be of the same level, the right one is of a higher one
    binary : {i : Bool} {l : ℕ} {u v : Symbols} {x y : Expr} (op : Operator) (b : Bool)
        → l ≤ level op → may_operate i op ≡ true
        → Expression form i (level op) u x → Expression form i (suc (level op)) v y
        → Expression form i l (u ++ (of_kind (sign op) b ∷ v)) (joined op x y)
    -- 11.12: the middle part stands as in brackets
    conditional : {i : Bool} {l : ℕ} {u v z : Symbols} {x y other : Expr} (b c : Bool) → l ≤ 3
        → Expression form i 4 u x → Expression form true 2 v y → Expression form i 2 z other
        → Expression form i l (u ++ (mark m.Question b ∷ (v ++ (mark m.Colon c ∷ z))))
        (Tree.Cond x y other)
    -- 11.13: to a target
    assign : {i : Bool} {l : ℕ} {u v : Symbols} {x y : Expr} (op : Option BinaryOp) (joint : Mark)
        (b : Bool) → l ≤ 2 → assignment op ≡ Some joint
        → Expression form i 16 u x → is_target x ≡ true → Expression form i 2 v y
        → Expression form i l (u ++ (mark joint b ∷ v)) (Tree.Assign op x y)
    -- 11.14
    comma : {i : Bool} {l : ℕ} {u v : Symbols} {x y : Expr} (b : Bool) → l ≤ 1
        → Expression form i 1 u x → Expression form i 2 v y
        → Expression form i l (u ++ (mark m.Comma b ∷ v)) (Tree.Comma x y)

  -- 11.2.2: the callee of a `new` without arguments, a NewExpression
  pub data NewCallee (form : Form) : Bool → Symbols → Expr → Type 0 where
    member : {i : Bool} {u : Symbols} {x : Expr} → Expression form i 18 u x → NewCallee form i u x
    new_again : {i : Bool} {u : Symbols} {x : Expr} (b : Bool) → NewCallee form i u x
        → NewCallee form i (word w.New b ∷ u) (Tree.New x Tree.NoExprs)

  -- 11.2.4, in their parentheses
  pub data Arguments (form : Form) : Symbols → Exprs → Type 0 where
    no_arguments : (b c : Bool)
        → Arguments form (mark m.OpenParenthesis b ∷ mark m.CloseParenthesis c ∷ []) Tree.NoExprs
    arguments : {u : Symbols} {xs : Exprs} (b c : Bool) → ArgumentList form u xs
        → Arguments form (mark m.OpenParenthesis b ∷ (u ++ (mark m.CloseParenthesis c ∷ []))) xs

  -- one or more, with commas between
  pub data ArgumentList (form : Form) : Symbols → Exprs → Type 0 where
    last_argument : {u : Symbols} {x : Expr} → Expression form true 2 u x
        → ArgumentList form u (Tree.MoreExprs x Tree.NoExprs)
    argument_and : {u v : Symbols} {x : Expr} {xs : Exprs} (b : Bool) → Expression form true 2 u x
        → ArgumentList form v xs
        → ArgumentList form (u ++ (mark m.Comma b ∷ v)) (Tree.MoreExprs x xs)

  -- 11.1.4: what stands in the brackets of an array; a comma at the end adds nothing
  pub data ElementList (form : Form) : Symbols → Elements → Type 0 where
    no_element : ElementList form [] Tree.NoElements
    last_element : {u : Symbols} {x : Expr} → Expression form true 2 u x
        → ElementList form u (Tree.MoreElements (Tree.AnExpr x) Tree.NoElements)
    element_and : {u v : Symbols} {x : Expr} {es : Elements} (b : Bool) → Expression form true 2 u x
        → ElementList form v es
        → ElementList form (u ++ (mark m.Comma b ∷ v)) (Tree.MoreElements (Tree.AnExpr x) es)
    hole_and : {u : Symbols} {es : Elements} (b : Bool) → ElementList form u es
        → ElementList form (mark m.Comma b ∷ u) (Tree.MoreElements Tree.NoExpr es)

  -- 11.1.5: what stands in the braces of an object; a comma may stand at the end
  pub data PropertyList (form : Form) : Symbols → Pairs → Type 0 where
    no_property : PropertyList form [] Tree.NoPairs
    last_property : {key : Name} {u : Symbols} {x : Expr} (s : Symbol) (c : Bool)
        → key_of form s.kind ≡ Some key → Expression form true 2 u x
        → PropertyList form (s ∷ (mark m.Colon c ∷ u)) (Tree.MorePairs key x Tree.NoPairs)
    property_and : {key : Name} {u v : Symbols} {x : Expr} {ps : Pairs} (s : Symbol) (c d : Bool)
        → key_of form s.kind ≡ Some key → Expression form true 2 u x → PropertyList form v ps
        → PropertyList form (s ∷ (mark m.Colon c ∷ (u ++ (mark m.Comma d ∷ v))))
        (Tree.MorePairs key x ps)

  -- 13: a function behind its name: the formals, of which none repeats another, and the body
  pub data FunctionRest (form : Form) : Symbols → List Name → Stmts → Type 0 where
    function_rest : {u v : Symbols} {ns : List Name} {body : Stmts} (b c d e : Bool)
        → Formals form u ns → is_distinct ns ≡ true
        → SourceElements form context.function v (mark m.CloseBrace e) body
        → FunctionRest form (mark m.OpenParenthesis b
        ∷ (u ++ (mark m.CloseParenthesis c
        ∷ (mark m.OpenBrace d ∷ (v ++ (mark m.CloseBrace e ∷ [])))))) ns body

  -- 12.2: a declarator of a `var` list
  pub data Declarator (form : Form) : Bool → Symbols → Name → MaybeExpr → Type 0 where
    bare : {i : Bool} {n : Name} (b : Bool) → is_binding form n ≡ true
        → Declarator form i (name n b ∷ []) n Tree.NoExpr
    initialised : {i : Bool} {n : Name} {u : Symbols} {x : Expr} (b c : Bool)
        → is_binding form n ≡ true → Expression form i 2 u x
        → Declarator form i (name n b ∷ (mark m.Assign c ∷ u)) n (Tree.AnExpr x)

  -- one or more, with commas between
  pub data DeclaratorList (form : Form) : Bool → Symbols → VarItems → Type 0 where
    last_declarator : {i : Bool} {n : Name} {u : Symbols} {value : MaybeExpr}
        → Declarator form i u n value
        → DeclaratorList form i u (Tree.MoreVarItems n value Tree.NoVarItems)
    declarator_and : {i : Bool} {n : Name} {u v : Symbols} {value : MaybeExpr} {items : VarItems}
        (b : Bool) → Declarator form i u n value → DeclaratorList form i v items
        → DeclaratorList form i (u ++ (mark m.Comma b ∷ v)) (Tree.MoreVarItems n value items)

  -- an expression, or none
  pub data OptionalExpression (form : Form) : Symbols → MaybeExpr → Type 0 where
    absent : OptionalExpression form [] Tree.NoExpr
    present : {u : Symbols} {x : Expr} → Expression form true 1 u x
        → OptionalExpression form u (Tree.AnExpr x)

  -- 12.6.3: the first part of a `for` header, ExpressionNoIn or VariableDeclarationListNoIn, in
  -- which the operator `in` does not stand outside brackets
  pub data ForFirst (form : Form) : Symbols → ForInit → Type 0 where
    nothing_first : ForFirst form [] Tree.Nothing
    variables_first : {u : Symbols} {items : VarItems} (b : Bool)
        → DeclaratorList form false u items → ForFirst form (word w.Var b ∷ u) (Tree.Vars items)
    expression_first : {u : Symbols} {x : Expr} → Expression form false 1 u x
        → ForFirst form u (Tree.First x)

  -- 12.1
  pub data Block (form : Form) : Context → Symbols → Stmt → Type 0 where
    braces : {c : Context} {u : Symbols} {ss : Stmts} (b d : Bool)
        → StatementList form (part c) u (mark m.CloseBrace d) ss
        → Block form c (mark m.OpenBrace b ∷ (u ++ (mark m.CloseBrace d ∷ []))) (Tree.Block ss)

  -- The tokens, followed by the token `next`, are a statement with this tree.
  pub data Statement (form : Form) : Context → Symbols → Symbol → Stmt → Type 0 where
    block : {c : Context} {next : Symbol} {u : Symbols} {s : Stmt} → Block form c u s
        → Statement form c u next s
    -- 12.2
    variables : {c : Context} {next : Symbol} {u v : Symbols} {items : VarItems} (b : Bool)
        → DeclaratorList form true u items → Ends (list_reach u next items) next v
        → Statement form c (word w.Var b ∷ (u ++ v)) next (Tree.Variables items)
    -- 12.3
    empty : {c : Context} {next : Symbol} (b : Bool)
        → Statement form c (mark m.Semicolon b ∷ []) next Tree.Empty
    -- 12.4
    expression : {c : Context} {next : Symbol} {u v : Symbols} {x : Expr}
        → Expression form true 1 u x
        → (first u next).kind ≢ k.Mark m.OpenBrace → (first u next).kind ≢ k.Word w.Function
        → Ends (reach u next) next v
        → Statement form c (u ++ v) next (Tree.Do x)
    -- 12.5: an `else` belongs to the nearest `if`
    if : {c : Context} {next : Symbol} {u v : Symbols} {x : Expr} {s : Stmt} (b d e : Bool)
        → Expression form true 1 u x → Statement form (part c) v next s
        → next.kind ≢ k.Word w.Else
        → Statement form c (word w.If b ∷ (mark m.OpenParenthesis d
        ∷ (u ++ (mark m.CloseParenthesis e ∷ v)))) next (Tree.If x s Tree.NoStmt)
    if_else : {c : Context} {next : Symbol} {u v z : Symbols} {x : Expr} {s other : Stmt}
        (b d e f : Bool) → Expression form true 1 u x
        → Statement form (part c) v (word w.Else f) s → Statement form (part c) z next other
        → Statement form c (word w.If b ∷ (mark m.OpenParenthesis d
        ∷ (u ++ (mark m.CloseParenthesis e ∷ (v ++ (word w.Else f ∷ z)))))) next
        (Tree.If x s (Tree.AStmt other))
    -- 12.6.1: behind its `)` nothing fits but a semicolon
    do_while : {c : Context} {next : Symbol} {u v z : Symbols} {x : Expr} {s : Stmt}
        (b d e f : Bool) → Statement form (loop c) u (word w.While d) s
        → Expression form true 1 v x → Ends 0 next z
        → Statement form c (word w.Do b ∷ (u ++
        (word w.While d ∷ (mark m.OpenParenthesis e ∷ (v ++ (mark m.CloseParenthesis f ∷ z))))))
        next (Tree.DoWhile s x)
    -- 12.6.2
    while : {c : Context} {next : Symbol} {u v : Symbols} {x : Expr} {s : Stmt} (b d e : Bool)
        → Expression form true 1 u x → Statement form (loop c) v next s
        → Statement form c (word w.While b ∷ (mark m.OpenParenthesis d
        ∷ (u ++ (mark m.CloseParenthesis e ∷ v)))) next (Tree.While x s)
    -- 12.6.3
    for : {c : Context} {next : Symbol} {u v z body : Symbols} {init : ForInit}
        {test step : MaybeExpr} {s : Stmt} (b d e f g : Bool) → ForFirst form u init
        → OptionalExpression form v test → OptionalExpression form z step
        → Statement form (loop c) body next s
        → Statement form c (word w.For b ∷ (mark m.OpenParenthesis d
        ∷ (u ++ (mark m.Semicolon e ∷ (v ++
        (mark m.Semicolon f ∷ (z ++ (mark m.CloseParenthesis g ∷ body)))))))) next
        (Tree.For init test step s)
    -- 12.6.4
    for_in : {c : Context} {next : Symbol} {u v body : Symbols} {x y : Expr} {s : Stmt}
        (b d e f : Bool) → Expression form false 16 u x → is_target x ≡ true
        → Expression form true 1 v y → Statement form (loop c) body next s
        → Statement form c (word w.For b ∷ (mark m.OpenParenthesis d
        ∷ (u ++ (word w.In e ∷ (v ++ (mark m.CloseParenthesis f ∷ body)))))) next
        (Tree.ForIn (Tree.Target x) y s)
    for_var_in : {c : Context} {next : Symbol} {n : Name} {u v body : Symbols} {value : MaybeExpr}
        {y : Expr} {s : Stmt} (b d e f g : Bool) → Declarator form false u n value
        → Expression form true 1 v y → Statement form (loop c) body next s
        → Statement form c (word w.For b ∷ (mark m.OpenParenthesis d
        ∷ (word w.Var e ∷ (u ++ (word w.In f ∷ (v ++ (mark m.CloseParenthesis g ∷ body)))))))
        next (Tree.ForIn (Tree.AVar n value) y s)
    -- 12.7, 12.8: no line terminator stands before the label, and behind it nothing fits but a
    -- semicolon
    continue : {c : Context} {next : Symbol} {u : Symbols} (b : Bool) → c.in_loop ≡ true
        → EndsAtOnce next u → Statement form c (word w.Continue b ∷ u) next (Tree.Continue None)
    continue_to : {c : Context} {next : Symbol} {n : Name} {u : Symbols} (b : Bool)
        → is_reference form n ≡ true → is_among n c.loops ≡ true → Ends 0 next u
        → Statement form c (word w.Continue b ∷ (name n false ∷ u)) next (Tree.Continue (Some n))
    break : {c : Context} {next : Symbol} {u : Symbols} (b : Bool) → context.may_break c ≡ true
        → EndsAtOnce next u → Statement form c (word w.Break b ∷ u) next (Tree.Break None)
    break_from : {c : Context} {next : Symbol} {n : Name} {u : Symbols} (b : Bool)
        → is_reference form n ≡ true → is_among n c.labels ≡ true → Ends 0 next u
        → Statement form c (word w.Break b ∷ (name n false ∷ u)) next (Tree.Break (Some n))
    -- 12.9
    return : {c : Context} {next : Symbol} {u : Symbols} (b : Bool) → c.in_function ≡ true
        → EndsAtOnce next u → Statement form c (word w.Return b ∷ u) next (Tree.Return Tree.NoExpr)
    return_value : {c : Context} {next : Symbol} {u v : Symbols} {x : Expr} (b : Bool)
        → c.in_function ≡ true → Expression form true 1 u x
        → (first u next).newline ≡ false → Ends (reach u next) next v
        → Statement form c (word w.Return b ∷ (u ++ v)) next (Tree.Return (Tree.AnExpr x))
    -- 12.11
    switch : {c : Context} {next : Symbol} {u v : Symbols} {x : Expr} {cs : Cases}
        (b d e f g : Bool) → Expression form true 1 u x
        → CaseClauses form (clause c) true v (mark m.CloseBrace g) cs
        → Statement form c (word w.Switch b ∷
        (mark m.OpenParenthesis d ∷ (u ++ (mark m.CloseParenthesis e
        ∷ (mark m.OpenBrace f ∷ (v ++ (mark m.CloseBrace g ∷ []))))))) next (Tree.Switch x cs)
    -- 12.12: a label does not enclose itself
    label : {c : Context} {next : Symbol} {n : Name} {u : Symbols} {s : Stmt} (b d : Bool)
        → is_reference form n ≡ true → is_among n c.labels ≡ false
        → Statement form (labelled n c) u next s
        → Statement form c (name n b ∷ (mark m.Colon d ∷ u)) next (Tree.Label n s)
    -- 12.13
    throw : {c : Context} {next : Symbol} {u v : Symbols} {x : Expr} (b : Bool)
        → Expression form true 1 u x → (first u next).newline ≡ false → Ends (reach u next) next v
        → Statement form c (word w.Throw b ∷ (u ++ v)) next (Tree.Throw x)
    -- 12.14
    try_catch : {c : Context} {next : Symbol} {n : Name} {u v : Symbols} {s handler : Stmt}
        (b d e f g : Bool) → Block form (part c) u s → is_binding form n ≡ true
        → Block form (part c) v handler
        → Statement form c (word w.Try b ∷ (u
        ++ (word w.Catch d ∷ (mark m.OpenParenthesis e
        ∷ (name n f ∷ (mark m.CloseParenthesis g ∷ v)))))) next
        (Tree.Try s (Tree.ACatch n handler) Tree.NoStmt)
    try_finally : {c : Context} {next : Symbol} {u v : Symbols} {s last : Stmt} (b d : Bool)
        → Block form (part c) u s → Block form (part c) v last
        → Statement form c (word w.Try b ∷ (u ++ (word w.Finally d ∷ v))) next
        (Tree.Try s Tree.NoHandler (Tree.AStmt last))
    try_catch_finally : {c : Context} {next : Symbol} {n : Name} {u v z : Symbols}
        {s handler last : Stmt} (b d e f g h : Bool) → Block form (part c) u s
        → is_binding form n ≡ true
        → Block form (part c) v handler → Block form (part c) z last
        → Statement form c (word w.Try b ∷ (u
        ++ (word w.Catch d ∷ (mark m.OpenParenthesis e
        ∷ (name n f ∷ (mark m.CloseParenthesis g ∷ (v ++ (word w.Finally h ∷ z)))))))) next
        (Tree.Try s (Tree.ACatch n handler) (Tree.AStmt last))

  -- 12.1: statements, followed by the token `next`
  pub data StatementList (form : Form) : Context → Symbols → Symbol → Stmts → Type 0 where
    no_statement : {c : Context} {next : Symbol} → StatementList form c [] next Tree.NoStmts
    statement_and : {c : Context} {next : Symbol} {u v : Symbols} {s : Stmt} {ss : Stmts}
        → Statement form c u (first v next) s → StatementList form c v next ss
        → StatementList form c (u ++ v) next (Tree.MoreStmts s ss)

  -- 12.11: the clauses of a `switch`, of which at most one is `default`, if one may come
  pub data CaseClauses (form : Form) : Context → Bool → Symbols → Symbol → Cases → Type 0 where
    no_clause : {c : Context} {may : Bool} {next : Symbol}
        → CaseClauses form c may [] next Tree.NoCases
    case_and : {c : Context} {may : Bool} {next : Symbol} {u v z : Symbols} {x : Expr} {ss : Stmts}
        {cs : Cases} (b d : Bool) → Expression form true 1 u x
        → StatementList form c v (first z next) ss → CaseClauses form c may z next cs
        → CaseClauses form c may (word w.Case b ∷ (u ++ (mark m.Colon d ∷ (v ++ z)))) next
        (Tree.MoreCases (Tree.AnExpr x) ss cs)
    default_and : {c : Context} {next : Symbol} {v z : Symbols} {ss : Stmts} {cs : Cases}
        (b d : Bool) → StatementList form c v (first z next) ss
        → CaseClauses form c false z next cs
        → CaseClauses form c true (word w.Default b ∷ (mark m.Colon d ∷ (v ++ z))) next
        (Tree.MoreCases Tree.NoExpr ss cs)

  -- 14: a statement or a function declaration, which stands directly in a script or in the body of
  -- a function
  pub data SourceElement (form : Form) : Context → Symbols → Symbol → Stmt → Type 0 where
    statement : {c : Context} {next : Symbol} {u : Symbols} {s : Stmt} → Statement form c u next s
        → SourceElement form c u next s
    declaration : {c : Context} {next : Symbol} {n : Name} {u : Symbols} {ns : List Name}
        {body : Stmts} (b d : Bool) → is_binding form n ≡ true → FunctionRest form u ns body
        → SourceElement form c (word w.Function b ∷ (name n d ∷ u)) next
        (Tree.Declare (code (Some n) ns body))

  pub data SourceElements (form : Form) : Context → Symbols → Symbol → Stmts → Type 0 where
    no_source : {c : Context} {next : Symbol} → SourceElements form c [] next Tree.NoStmts
    source_and : {c : Context} {next : Symbol} {u v : Symbols} {s : Stmt} {ss : Stmts}
        → SourceElement form c u (first v next) s → SourceElements form c v next ss
        → SourceElements form c (u ++ v) next (Tree.MoreStmts s ss)

-- Each run of the machine ends: a step in a list of arguments, elements or pairs, in a function or in
-- declarators.
use Rattle.std.proofs.Common.{ℕ, suc, Bool, List, Option, Some, None}
use Rattle.js_lexer.specs.declared.mark.Mark.TheVariants as m
use Rattle.js_lexer.specs.declared.token.TokenKind.{TokenKind}
use Rattle.js_lexer.specs.declared.token.TokenKind.TheVariants as k
use Rattle.js_tree.specs.Tree.{Name, Expr, Exprs, MaybeExpr, Elements, Pairs, Stmts, VarItems}
use Rattle.js_parser.specs.declared.form.Form.{Form}
use Rattle.js_parser.specs.Symbols.{Symbol, Symbols}
use Rattle.js_parser.specs.Names.{is_binding}
use Rattle.js_parser.specs.Rooms.{Room}
use Rattle.js_parser.specs.Machine.{State, To, step}
use Rattle.js_parser.specs.Machine as mc
use Rattle.js_parser.proofs.RunsEnd.{Whole, Good, Taken, Each, Both, Ending, at-stuck, lower, passed, under, kept, refused, guarded, reading, none-left, later, expects, assign, comma}

-- ---- arguments, elements and pairs

argument-by : {h : Whole} {n : ℕ} {s : Symbol} → Ending h n → (kind : TokenKind) (room : Room) (x : Expr) (next : To Exprs) → Each h n Exprs next → Taken h n s (mc.argument_by kind room x next s)
argument-by E (k.Mark m.Comma) room x next d = passed (E.argument_lists _ _ (λ xs. d _))
argument-by E _ room x next d = kept (d _)

after-argument : {h : Whole} {n : ℕ} → Ending h n → (room : Room) (x : Expr) (next : To Exprs) → Each h n Exprs next → Good h n (mc.after_argument room x next)
after-argument E room x next d = reading (mc.after_argument room x next) (λ r l. at-stuck r) (λ s. argument-by E s.kind room x next d)

pub argument-list : {h : Whole} {n : ℕ} → Ending h n → (room : Room) (next : To Exprs) → Each h n Exprs next → Good h (suc n) (mc.argument_list room next)
argument-list E room next d = later (mc.argument_list room next) (assign E _ _ _ (λ x. after-argument E room x next d))

pub arguments-by : {h : Whole} {n : ℕ} {s : Symbol} → Ending h n → (kind : TokenKind) (room : Room) (next : To Exprs) → Each h (suc n) Exprs next → Taken h (suc n) s (mc.arguments_by kind room next s)
arguments-by E (k.Mark m.CloseParenthesis) room next d = kept (d _)
arguments-by E _ room next d = kept (argument-list E _ _ (lower d))

element-by : {h : Whole} {n : ℕ} {s : Symbol} → Ending h n → (kind : TokenKind) (room : Room) (x : Expr) (next : To Elements) → Each h n Elements next → Taken h n s (mc.element_by kind room x next s)
element-by E (k.Mark m.Comma) room x next d = passed (E.element_lists _ _ (λ es. d _))
element-by E _ room x next d = kept (d _)

after-element : {h : Whole} {n : ℕ} → Ending h n → (room : Room) (x : Expr) (next : To Elements) → Each h n Elements next → Good h n (mc.after_element room x next)
after-element E room x next d = reading (mc.after_element room x next) (λ r l. at-stuck r) (λ s. element-by E s.kind room x next d)

pub elements-by : {h : Whole} {n : ℕ} {s : Symbol} → Ending h n → (kind : TokenKind) (room : Room) (next : To Elements) → Each h (suc n) Elements next → Taken h (suc n) s (mc.elements_by kind room next s)
elements-by E (k.Mark m.CloseBracket) room next d = kept (d _)
elements-by E (k.Mark m.Comma) room next d = under (E.element_lists _ _ (λ es. lower d _))
elements-by E _ room next d = kept (assign E _ _ _ (λ x. after-element E room x next (lower d)))

pair-by : {h : Whole} {n : ℕ} {s : Symbol} → Ending h n → (kind : TokenKind) (room : Room) (key : Name) (x : Expr) (next : To Pairs) → Each h n Pairs next → Taken h n s (mc.pair_by kind room key x next s)
pair-by E (k.Mark m.Comma) room key x next d = passed (E.pair_lists _ _ (λ ps. d _))
pair-by E _ room key x next d = kept (d _)

after-pair : {h : Whole} {n : ℕ} → Ending h n → (room : Room) (key : Name) (x : Expr) (next : To Pairs) → Each h n Pairs next → Good h n (mc.after_pair room key x next)
after-pair E room key x next d = reading (mc.after_pair room key x next) (λ r l. at-stuck r) (λ s. pair-by E s.kind room key x next d)

pub pairs-by : {h : Whole} {n : ℕ} {s : Symbol} → Ending h n → (key : Option Name) (room : Room) (next : To Pairs) → Each h (suc n) Pairs next → Taken h (suc n) s (mc.pairs_by key room next s)
pairs-by E None room next d = kept (d _)
pairs-by E (Some key) room next d = under (expects mc.is_colon (E.assigns _ _ _ (λ x. after-pair E room key x next (lower d))))

-- ---- functions and declarators

pub function-rest : {h : Whole} {n : ℕ} → Ending h n → (room : Room) (next : List Name → Stmts → Symbols → State) → ((ns : List Name) (body : Stmts) → Good h n (next ns body)) → Good h (suc n) (mc.rest room next)
function-rest {h = h} E room next d = later (mc.rest room next) (reading (λ ts. step h.form (mc.rest room next ts)) (λ r l. at-stuck r) (λ s. guarded (mc.is_open_parenthesis s.kind)
    (under (E.formal_lists _ _ (λ ns. expects mc.is_close_parenthesis (expects mc.is_open_brace (E.sources _ _ _ (λ body. expects mc.is_close_brace (d ns body)))))))))

formal-by : {h : Whole} {n : ℕ} {s : Symbol} → Ending h n → (kind : TokenKind) (before : List Name) (name : Name) (next : To (List Name)) → Each h n (List Name) next → Taken h n s (mc.formal_by kind before name next s)
formal-by E (k.Mark m.Comma) before name next d = passed (E.formal_ones _ _ (λ ns. d _))
formal-by E _ before name next d = kept (d _)

after-formal : {h : Whole} {n : ℕ} → Ending h n → (before : List Name) (name : Name) (next : To (List Name)) → Each h n (List Name) next → Good h n (mc.after_formal before name next)
after-formal E before name next d = reading (mc.after_formal before name next) (λ r l. at-stuck r) (λ s. formal-by E s.kind before name next d)

pub formals-by : {h : Whole} {n : ℕ} {s : Symbol} → Ending h n → (form : Form) (kind : TokenKind) (before : List Name) (next : To (List Name)) → Each h (suc n) (List Name) next → Taken h (suc n) s (mc.formals_by form kind before next s)
formals-by E form (k.Name name) before next d = guarded (mc.is_formal form before name) (under (after-formal E before name next (lower d)))
formals-by E form _ before next d = kept (d _)

one-formal-by : {h : Whole} {n : ℕ} {s : Symbol} → Ending h n → (form : Form) (kind : TokenKind) (before : List Name) (next : To (List Name)) → Each h n (List Name) next → Taken h (suc n) s (mc.one_formal_by form kind before next s)
one-formal-by E form (k.Name name) before next d = guarded (mc.is_formal form before name) (under (after-formal E before name next d))
one-formal-by E form _ before next d = refused

pub one-formal : {h : Whole} {n : ℕ} → Ending h n → (before : List Name) (next : To (List Name)) → Each h n (List Name) next → Good h (suc n) (mc.formal before next)
one-formal {h = h} E before next d = later (mc.formal before next) (reading (λ ts. step h.form (mc.formal before next ts)) (λ r l. at-stuck r) (λ s. one-formal-by E h.form s.kind before next d))

initialiser-by : {h : Whole} {n : ℕ} {s : Symbol} → Ending h n → (kind : TokenKind) (room : Room) (i : Bool) (name : Name) (next : Name → MaybeExpr → Symbols → State) → Both h n next → Taken h n s (mc.initialiser_by kind room i name next s)
initialiser-by E (k.Mark m.Assign) room i name next d = passed (E.assigns _ _ _ (λ x. d name _))
initialiser-by E _ room i name next d = kept (d name _)

initialiser : {h : Whole} {n : ℕ} → Ending h n → (room : Room) (i : Bool) (name : Name) (next : Name → MaybeExpr → Symbols → State) → Both h n next → Good h n (mc.initialiser room i name next)
initialiser E room i name next d = reading (mc.initialiser room i name next) (none-left (d name _)) (λ s. initialiser-by E s.kind room i name next d)

declarator-by : {h : Whole} {n : ℕ} {s : Symbol} → Ending h n → (form : Form) (kind : TokenKind) (room : Room) (i : Bool) (next : Name → MaybeExpr → Symbols → State) → Both h n next → Taken h (suc n) s (mc.declarator_by form kind room i next s)
declarator-by E form (k.Name name) room i next d = guarded (is_binding form name) (under (initialiser E room i name next d))
declarator-by E form _ room i next d = refused

pub declarator : {h : Whole} {n : ℕ} → Ending h n → (room : Room) (i : Bool) (next : Name → MaybeExpr → Symbols → State) → Both h n next → Good h (suc n) (mc.declarator room i next)
declarator {h = h} E room i next d = later (mc.declarator room i next) (reading (λ ts. step h.form (mc.declarator room i next ts)) (λ r l. at-stuck r) (λ s. declarator-by E h.form s.kind room i next d))

declarators-by : {h : Whole} {n : ℕ} {s : Symbol} → Ending h n → (kind : TokenKind) (room : Room) (i : Bool) (name : Name) (value : MaybeExpr) (next : To VarItems) → Each h n VarItems next → Taken h n s (mc.declarators_by kind room i name value next s)
declarators-by E (k.Mark m.Comma) room i name value next d = passed (E.declared_lists _ _ _ (λ items. d _))
declarators-by E _ room i name value next d = kept (d _)

after-declarator : {h : Whole} {n : ℕ} → Ending h n → (room : Room) (i : Bool) (name : Name) (value : MaybeExpr) (next : To VarItems) → Each h n VarItems next → Good h n (mc.after_declarator room i name value next)
after-declarator E room i name value next d = reading (mc.after_declarator room i name value next) (none-left (d _)) (λ s. declarators-by E s.kind room i name value next d)

pub declarators : {h : Whole} {n : ℕ} → Ending h n → (room : Room) (i : Bool) (next : To VarItems) → Each h n VarItems next → Good h (suc n) (mc.declarators room i next)
declarators E room i next d = later (mc.declarators room i next) (declarator E _ _ _ (λ name value. after-declarator E room i name value next d))

pub optional-by : {h : Whole} {n : ℕ} {s : Symbol} → Ending h n → (kind : TokenKind) (room : Room) (next : To MaybeExpr) → Each h (suc n) MaybeExpr next → Taken h (suc n) s (mc.optional_by kind room next s)
optional-by E (k.Mark m.Semicolon) room next d = kept (d _)
optional-by E (k.Mark m.CloseParenthesis) room next d = kept (d _)
optional-by E _ room next d = kept (comma E _ _ _ (λ x. lower d _))

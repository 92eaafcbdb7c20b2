-- No token of a script is refused whatever stands around it, and no name stands directly behind another on its line.
use Rattle.std.proofs.Common.{if◌then◌else◌, ◌≡◌, ℕ, Bool, true, false, not, ◌&&◌, ◌||◌, List, [], ◌∷◌, ◌++◌, Some, None, refl, ap, sym, ◌∙◌, subst}
use Rattle.js_lexer.specs.declared.mark.Mark.TheVariants as m
use Rattle.js_lexer.specs.declared.word.Word.TheVariants as w
use Rattle.js_lexer.specs.declared.token.TokenKind.{TokenKind}
use Rattle.js_lexer.specs.declared.token.TokenKind.TheVariants as k
use Rattle.js_tree.specs.declared.tree.BinaryOp.TheVariants as b
use Rattle.js_tree.specs.declared.tree.PrefixOp.{PrefixOp}
use Rattle.js_tree.specs.declared.tree.PrefixOp.TheVariants as p
use Rattle.js_tree.specs.declared.tree.PostfixOp.{PostfixOp}
use Rattle.js_tree.specs.declared.tree.PostfixOp.TheVariants as q
use Rattle.js_tree.specs.Tree.{Name, Expr, Exprs, MaybeExpr, Elements, Pairs, Stmt, Stmts, VarItems, Cases, ForInit}
use Rattle.js_parser.specs.declared.form.Form.{Form}
use Rattle.js_parser.specs.Symbols.{Symbol, Symbols, of_kind, word, mark, name, first}
use Rattle.js_tree.specs.Levels.{Operator, LogicalOr, LogicalAnd, Operation}
use Rattle.js_parser.specs.Operators.{sign, prefix_sign, postfix_sign}
use Rattle.js_parser.specs.Names.{is_own, is_written, is_cell, may_stand, is_eval, is_function_name, is_infinity, is_arguments, is_callee, is_caller, is_reference, is_binding, is_property, key_of}
use Rattle.js_parser.specs.Contexts.{Context}
use Rattle.js_parser.specs.Ends.{Ends, EndsAtOnce}
use Rattle.js_parser.specs.Ends as e
use Rattle.js_parser.specs.Grammar.{Formals, Expression, NewCallee, Arguments, ArgumentList, ElementList, PropertyList, FunctionRest, Declarator, DeclaratorList, OptionalExpression, ForFirst, Block, Statement, StatementList, CaseClauses, SourceElement, SourceElements}
use Rattle.js_parser.specs.Grammar as g
use Rattle.js_parser.specs.Symbols.{end}
use Rattle.js_parser.specs.Fault.{Begins}
use Rattle.js_parser.specs.WellPlaced.{stands, is_name, is_name_on_line, may_come, are_placed}

both : (a c : Bool) → a ≡ true → c ≡ true → (a && c) ≡ true
both true true h i = refl
both true false h i = i
both false c h i = h

pub left : (a c : Bool) → (a && c) ≡ true → a ≡ true
left true c h = refl
left false c h = h

pub right : (a c : Bool) → (a && c) ≡ true → c ≡ true
right true c h = h
right false c h = absurd cc

-- ---- lists

pub record Placed (form : Form) (behind : Bool) (u : Symbols) : Type 0 where
  pub is : are_placed form behind u ≡ true

abbrev pub ends_name : Bool → Symbols → Bool
ends_name behind [] = behind
ends_name behind (s ∷ ss) = ends_name (is_name s.kind) ss

joined : (form : Form) (behind : Bool) (u v : Symbols) → are_placed form behind u ≡ true → are_placed form (ends_name behind u) v ≡ true → are_placed form behind (u ++ v) ≡ true
joined form behind [] v h i = i
joined form behind (s ∷ u) v h i =
    both (may_come form behind s) (are_placed form (is_name s.kind) (u ++ v)) (left (may_come form behind s) (are_placed form (is_name s.kind) u) h)
    (joined form (is_name s.kind) u v (right (may_come form behind s) (are_placed form (is_name s.kind) u) h) i)

join : {form : Form} {behind : Bool} {u v : Symbols} → Placed form behind u → Placed form (ends_name behind u) v → Placed form behind (u ++ v)
join {form = form} {behind = behind} {u = u} {v = v} h i = record { is = joined form behind u v h.is i.is }

front : (form : Form) (behind : Bool) (u v : Symbols) → are_placed form behind (u ++ v) ≡ true → are_placed form behind u ≡ true
front form behind [] v h = refl
front form behind (s ∷ u) v h =
    both (may_come form behind s) (are_placed form (is_name s.kind) u) (left (may_come form behind s) (are_placed form (is_name s.kind) (u ++ v)) h)
    (front form (is_name s.kind) u v (right (may_come form behind s) (are_placed form (is_name s.kind) (u ++ v)) h))

ends-join : (behind : Bool) (u v : Symbols) → ends_name behind (u ++ v) ≡ ends_name (ends_name behind u) v
ends-join behind [] v = refl
ends-join behind (s ∷ u) v = ends-join (is_name s.kind) u v

not-and : (a c : Bool) → c ≡ false → not (a && c) ≡ true
not-and true c h = ap not h
not-and false c h = refl

none : {form : Form} {behind : Bool} → Placed form behind []
none = record { is = refl }

-- behind anything, a token that is no name
plain : {form : Form} {behind : Bool} {s : Symbol} {v : Symbols} → is_name s.kind ≡ false → stands form s.kind ≡ true → Placed form false v → Placed form behind (s ∷ v)
plain {form = form} {behind = behind} {s = s} {v = v} away may h = record {
  is =
      both (may_come form behind s) (are_placed form (is_name s.kind) v)
      (both (stands form s.kind) (not (behind && is_name_on_line s)) may (not-and behind (is_name_on_line s) (ap (λ a. a && not s.newline) away)))
      (subst (λ a. are_placed form a v ≡ true) (sym away) h.is);
}

-- what stands behind u begins with a token that is no name
linked : {form : Form} {behind : Bool} {u : Symbols} (s : Symbol) {v : Symbols} → Placed form behind u → is_name s.kind ≡ false → stands form s.kind ≡ true → Placed form false v
    → Placed form behind (u ++ (s ∷ v))
linked s h away may i = join h (plain away may i)

abbrev symbol_of : TokenKind → Bool → Bool → Symbol
symbol_of kind newline in_decimal = record { kind = kind; newline = newline; in_decimal = in_decimal }

-- a name, behind no name
named : {form : Form} {n : Name} {newline in_decimal : Bool} {v : Symbols} → (not (is_own n) || is_written form) ≡ true → Placed form true v
    → Placed form false (symbol_of (k.Name n) newline in_decimal ∷ v)
named {form = form} {n = n} {newline = newline} {in_decimal = in_decimal} {v = v} h i = record {
  is =
      both (may_come form false (symbol_of (k.Name n) newline in_decimal)) (are_placed form true v) (both (stands form (k.Name n)) true h refl) i.is;
}

-- ---- names

or-and : (a c d : Bool) → (a || (c && d)) ≡ true → (a || c) ≡ true
or-and true c d h = refl
or-and false c d h = left c d h

standing : (form : Form) (n : Name) → may_stand form n ≡ true → (not (is_own n) || is_written form) ≡ true
standing form n h = or-and (not (is_own n)) (is_written form) (is_cell n) h

referring : (form : Form) (n : Name) → is_reference form n ≡ true → (not (is_own n) || is_written form) ≡ true
referring form n h = standing form n (left (may_stand form n) (not (is_eval n || (is_function_name n || is_infinity n))) h)

binding : (form : Form) (n : Name) → is_binding form n ≡ true → (not (is_own n) || is_written form) ≡ true
binding form n h = referring form n (left (is_reference form n) (not (is_arguments n)) h)

property : (form : Form) (n : Name) → is_property form n ≡ true → (not (is_own n) || is_written form) ≡ true
property form n h = standing form n (left (may_stand form n) (not (is_callee n || is_caller n)) h)

keyed-name : (form : Form) (n key : Name) (a : Bool) → may_stand form n ≡ a → (if a then Some n else None) ≡ Some key → may_stand form n ≡ true
keyed-name form n key true h e = h
keyed-name form n key false h e = cc

keyed : {form : Form} {key : Name} {newline in_decimal : Bool} {v : Symbols} (kind : TokenKind) → key_of form kind ≡ Some key → Placed form true v → Placed form false v
    → Placed form false (symbol_of kind newline in_decimal ∷ v)
keyed {form = form} {key = key} (k.Name n) h i j = named (standing form n (keyed-name form n key (may_stand form n) refl h)) i
keyed (k.Str text) h i j = plain refl refl j
keyed (k.Number n) h i j = plain refl refl j
keyed (k.Word w) h i j = cc
keyed (k.Mark m) h i j = cc
keyed k.End h i j = cc

-- ---- operators

sign-no-name : (op : Operator) → is_name (sign op) ≡ false
sign-no-name LogicalOr = refl
sign-no-name LogicalAnd = refl
sign-no-name (Operation b.BitOr) = refl
sign-no-name (Operation b.BitXor) = refl
sign-no-name (Operation b.BitAnd) = refl
sign-no-name (Operation b.Equal) = refl
sign-no-name (Operation b.NotEqual) = refl
sign-no-name (Operation b.Same) = refl
sign-no-name (Operation b.NotSame) = refl
sign-no-name (Operation b.Less) = refl
sign-no-name (Operation b.Greater) = refl
sign-no-name (Operation b.LessEqual) = refl
sign-no-name (Operation b.GreaterEqual) = refl
sign-no-name (Operation b.InstanceOf) = refl
sign-no-name (Operation b.In) = refl
sign-no-name (Operation b.ShiftLeft) = refl
sign-no-name (Operation b.ShiftRight) = refl
sign-no-name (Operation b.ShiftRightUnsigned) = refl
sign-no-name (Operation b.Add) = refl
sign-no-name (Operation b.Subtract) = refl
sign-no-name (Operation b.Multiply) = refl
sign-no-name (Operation b.Divide) = refl
sign-no-name (Operation b.Remainder) = refl

sign-stands : (form : Form) (op : Operator) → stands form (sign op) ≡ true
sign-stands form LogicalOr = refl
sign-stands form LogicalAnd = refl
sign-stands form (Operation b.BitOr) = refl
sign-stands form (Operation b.BitXor) = refl
sign-stands form (Operation b.BitAnd) = refl
sign-stands form (Operation b.Equal) = refl
sign-stands form (Operation b.NotEqual) = refl
sign-stands form (Operation b.Same) = refl
sign-stands form (Operation b.NotSame) = refl
sign-stands form (Operation b.Less) = refl
sign-stands form (Operation b.Greater) = refl
sign-stands form (Operation b.LessEqual) = refl
sign-stands form (Operation b.GreaterEqual) = refl
sign-stands form (Operation b.InstanceOf) = refl
sign-stands form (Operation b.In) = refl
sign-stands form (Operation b.ShiftLeft) = refl
sign-stands form (Operation b.ShiftRight) = refl
sign-stands form (Operation b.ShiftRightUnsigned) = refl
sign-stands form (Operation b.Add) = refl
sign-stands form (Operation b.Subtract) = refl
sign-stands form (Operation b.Multiply) = refl
sign-stands form (Operation b.Divide) = refl
sign-stands form (Operation b.Remainder) = refl

prefix-no-name : (op : PrefixOp) → is_name (prefix_sign op) ≡ false
prefix-no-name p.Delete = refl
prefix-no-name p.Void = refl
prefix-no-name p.TypeOf = refl
prefix-no-name p.Increment = refl
prefix-no-name p.Decrement = refl
prefix-no-name p.Plus = refl
prefix-no-name p.Minus = refl
prefix-no-name p.BitNot = refl
prefix-no-name p.Not = refl

prefix-stands : (form : Form) (op : PrefixOp) → stands form (prefix_sign op) ≡ true
prefix-stands form p.Delete = refl
prefix-stands form p.Void = refl
prefix-stands form p.TypeOf = refl
prefix-stands form p.Increment = refl
prefix-stands form p.Decrement = refl
prefix-stands form p.Plus = refl
prefix-stands form p.Minus = refl
prefix-stands form p.BitNot = refl
prefix-stands form p.Not = refl

postfix-no-name : (op : PostfixOp) → is_name (postfix_sign op) ≡ false
postfix-no-name q.Increment = refl
postfix-no-name q.Decrement = refl

postfix-stands : (form : Form) (op : PostfixOp) → stands form (postfix_sign op) ≡ true
postfix-stands form q.Increment = refl
postfix-stands form q.Decrement = refl

-- ---- ends

-- a name does not follow on the line of a name
abbrev pub meets : Bool → Symbol → Bool
meets behind next = not (behind && is_name_on_line next)

pub record Joins (form : Form) (u : Symbols) (next : Symbol) : Type 0 where
  pub are : Placed form false u
  pub meet : meets (ends_name false u) next ≡ true

meets-brace : (behind : Bool) (next : Symbol) → next.kind ≡ k.Mark m.CloseBrace → meets behind next ≡ true
meets-brace behind next h = not-and behind (is_name_on_line next) (ap (λ kind. is_name kind && not next.newline) h)

meets-end : (behind : Bool) (next : Symbol) → next.kind ≡ k.End → meets behind next ≡ true
meets-end behind next h = not-and behind (is_name_on_line next) (ap (λ kind. is_name kind && not next.newline) h)

and-false : (a : Bool) → (a && false) ≡ false
and-false true = refl
and-false false = refl

meets-line : (behind : Bool) (next : Symbol) → next.newline ≡ true → meets behind next ≡ true
meets-line behind next h = not-and behind (is_name_on_line next) (ap (λ newline. is_name next.kind && not newline) h ∙ and-false (is_name next.kind))

append-none : (u : Symbols) → u ++ [] ≡ u
append-none [] = refl
append-none (s ∷ u) = ap (λ v. s ∷ v) (append-none u)

-- a statement that ends with a mark
closed : {form : Form} {u : Symbols} (s : Symbol) {next : Symbol} → Placed form false u → is_name s.kind ≡ false → stands form s.kind ≡ true → Joins form (u ++ (s ∷ [])) next
closed {form = form} {u = u} s {next = next} h away may = record { are = linked s h away may none; meet = subst (λ a. meets a next ≡ true) (sym (ends-join false u (s ∷ []) ∙ away)) refl }

ended : {form : Form} {reached : ℕ} {u v : Symbols} {next : Symbol} → Placed form false u → Ends reached next v → Joins form (u ++ v) next
ended h (e.written newline) = closed (mark m.Semicolon newline) h refl refl
ended {form = form} {u = u} {next = next} h (e.at_brace c) =
    subst (λ v. Joins form v next) (sym (append-none u)) (record { are = h; meet = meets-brace (ends_name false u) next c })
ended {form = form} {u = u} {next = next} h (e.at_end c) =
    subst (λ v. Joins form v next) (sym (append-none u)) (record { are = h; meet = meets-end (ends_name false u) next c })
ended {form = form} {u = u} {next = next} h (e.at_line c d away) =
    subst (λ v. Joins form v next) (sym (append-none u)) (record { are = h; meet = meets-line (ends_name false u) next c })

-- a word, then the end
ended-at-once : {form : Form} {s : Symbol} {v : Symbols} {next : Symbol} → is_name s.kind ≡ false → stands form s.kind ≡ true → EndsAtOnce next v → Joins form (s ∷ v) next
ended-at-once {form = form} {s = s} {next = next} away may e.semicolon = record { are = plain away may (plain refl refl none); meet = refl }
ended-at-once {form = form} {s = s} {next = next} away may (e.before_brace c) = record { are = plain away may none; meet = meets-brace (is_name s.kind) next c }
ended-at-once {form = form} {s = s} {next = next} away may (e.before_end c) = record { are = plain away may none; meet = meets-end (is_name s.kind) next c }
ended-at-once {form = form} {s = s} {next = next} away may (e.before_line c) = record { are = plain away may none; meet = meets-line (is_name s.kind) next c }

-- a token that is no name, then what joins
headed : {form : Form} {s : Symbol} {v : Symbols} {next : Symbol} → is_name s.kind ≡ false → stands form s.kind ≡ true → Joins form v next → Joins form (s ∷ v) next
headed {form = form} {s = s} {v = v} {next = next} away may h = record { are = plain away may h.are; meet = subst (λ a. meets (ends_name a v) next ≡ true) (sym away) h.meet }

-- tokens, one that is away name, then what joins
between : {form : Form} {u : Symbols} (s : Symbol) {v : Symbols} {next : Symbol} → Placed form false u → is_name s.kind ≡ false → stands form s.kind ≡ true → Joins form v next → Joins form (u ++ (s ∷ v)) next
between {form = form} {u = u} s {v = v} {next = next} h away may i = record {
  are = linked s h away may i.are;
  meet = subst (λ a. meets a next ≡ true) (sym (ends-join false u (s ∷ v) ∙ ap (λ a. ends_name a v) away)) i.meet;
}

-- a name, a token that is none, then what joins
named-between : {form : Form} {n : Name} {newline : Bool} {s : Symbol} {v : Symbols} {next : Symbol} → (not (is_own n) || is_written form) ≡ true → is_name s.kind ≡ false → stands form s.kind ≡ true
    → Joins form v next → Joins form (name n newline ∷ (s ∷ v)) next
named-between {form = form} {v = v} {next = next} h away may i = record { are = named h (plain away may i.are); meet = subst (λ a. meets (ends_name a v) next ≡ true) (sym away) i.meet }

behind-name : (form : Form) (behind : Bool) (v : Symbols) (next : Symbol) → are_placed form false v ≡ true → meets behind (first v next) ≡ true → are_placed form behind v ≡ true
behind-name form behind [] next h i = refl
behind-name form behind (s ∷ v) next h i =
    both (may_come form behind s) (are_placed form (is_name s.kind) v)
    (both (stands form s.kind) (not (behind && is_name_on_line s)) (left (stands form s.kind) true (left (may_come form false s) (are_placed form (is_name s.kind) v) h)) i)
    (right (may_come form false s) (are_placed form (is_name s.kind) v) h)

-- a statement, then others
pub followed : {form : Form} {u v : Symbols} (next : Symbol) → Joins form u (first v next) → Placed form false v → Placed form false (u ++ v)
followed {form = form} {u = u} {v = v} next h i = join h.are (record { is = behind-name form (ends_name false u) v next i.is h.meet })

chained : {form : Form} (u v : Symbols) (next : Symbol) → Joins form u (first v next) → Joins form v next → Joins form (u ++ v) next
chained {form = form} u [] next h i = subst (λ v. Joins form v next) (sym (append-none u)) h
chained u (s ∷ v) next h i = record { are = followed next h i.are; meet = subst (λ a. meets a next ≡ true) (sym (ends-join false u (s ∷ v))) i.meet }

-- ---- the grammar

formals : {form : Form} {u : Symbols} {ns : List Name} → Formals form u ns → Placed form false u
formals g.no_formal = none
formals {form = form} (g.last_formal {n = n} c h) = named (binding form n h) none
formals {form = form} (g.formal_and {n = n} c d h fs) = named (binding form n h) (plain refl refl (formals fs))

rest-ends : {form : Form} {u : Symbols} {ns : List Name} {body : Stmts} (behind : Bool) → FunctionRest form u ns body → ends_name behind u ≡ false
rest-ends behind (g.function_rest {u = u} {v = v} c d f h fs r body) =
    ends-join false u (mark m.CloseParenthesis d ∷ (mark m.OpenBrace f ∷ (v ++ (mark m.CloseBrace h ∷ [])))) ∙ ends-join false v (mark m.CloseBrace h ∷ [])

mutual
  expression : {form : Form} {i : Bool} {l : ℕ} {u : Symbols} {x : Expr} → Expression form i l u x → Placed form false u
  expression (g.this c h) = plain refl refl none
  expression {form = form} (g.identifier {n = n} c h r) = named (referring form n r) none
  expression (g.null c h) = plain refl refl none
  expression (g.truth c h) = plain refl refl none
  expression (g.falsehood c h) = plain refl refl none
  expression (g.numeral d c h) = plain refl refl none
  expression (g.literal c h) = plain refl refl none
  expression (g.array c d h es) = plain refl refl (linked (mark m.CloseBracket d) (elements es) refl refl none)
  expression (g.object c d h ps) = plain refl refl (linked (mark m.CloseBrace d) (properties ps) refl refl none)
  expression (g.parenthesised c d h x) = plain refl refl (linked (mark m.CloseParenthesis d) (expression x) refl refl none)
  expression (g.function c h f) = plain refl refl (rest false f)
  expression {form = form} (g.named_function {n = n} c d h r f) = plain refl refl (named (binding form n r) (rest true f))
  expression {form = form} (g.late c1 c2 c3 c4 c5 c6 c7 h written k) =
      named refl (plain refl refl (named (ap is_written written) (plain refl refl (plain refl refl (plain refl refl (plain refl refl none))))))
  expression {form = form} (g.dot {n = n} o c d h1 h2 h x r) = linked (mark m.Dot c) (expression x) refl refl (named (property form n r) none)
  expression (g.index o c d h1 h2 h x y) = linked (mark m.OpenBracket c) (expression x) refl refl (linked (mark m.CloseBracket d) (expression y) refl refl none)
  expression (g.call h x xs) = join (expression x) (arguments _ xs)
  expression (g.new c h x xs) = plain refl refl (join (expression x) (arguments _ xs))
  expression (g.bare_new c h x) = plain refl refl (callee x)
  expression {form = form} (g.postfix op h x t) = linked (of_kind (postfix_sign op) false) (expression x) (postfix-no-name op) (postfix-stands form op) none
  expression {form = form} (g.prefix op c h t x) = plain (prefix-no-name op) (prefix-stands form op) (expression x)
  expression {form = form} (g.changed op c h t x r) = plain (prefix-no-name op) (prefix-stands form op) (expression x)
  expression {form = form} (g.binary op c h may x y) = linked (of_kind (sign op) c) (expression x) (sign-no-name op) (sign-stands form op) (expression y)
  expression (g.conditional c d h x y other) =
      linked (mark m.Question c) (expression x) refl refl (linked (mark m.Colon d) (expression y) refl refl (expression other))
  expression (g.assign op joint c h eq x t y) = linked (mark joint c) (expression x) refl refl (expression y)
  expression (g.comma c h x y) = linked (mark m.Comma c) (expression x) refl refl (expression y)

  callee : {form : Form} {i : Bool} {u : Symbols} {x : Expr} → NewCallee form i u x → Placed form false u
  callee (g.member x) = expression x
  callee (g.new_again c x) = plain refl refl (callee x)

  arguments : {form : Form} {u : Symbols} {xs : Exprs} (behind : Bool) → Arguments form u xs → Placed form behind u
  arguments behind (g.no_arguments c d) = plain refl refl (plain refl refl none)
  arguments behind (g.arguments c d xs) = plain refl refl (linked (mark m.CloseParenthesis d) (argument_list xs) refl refl none)

  argument_list : {form : Form} {u : Symbols} {xs : Exprs} → ArgumentList form u xs → Placed form false u
  argument_list (g.last_argument x) = expression x
  argument_list (g.argument_and c x xs) = linked (mark m.Comma c) (expression x) refl refl (argument_list xs)

  elements : {form : Form} {u : Symbols} {es : Elements} → ElementList form u es → Placed form false u
  elements g.no_element = none
  elements (g.last_element x) = expression x
  elements (g.element_and c x es) = linked (mark m.Comma c) (expression x) refl refl (elements es)
  elements (g.hole_and c es) = plain refl refl (elements es)

  properties : {form : Form} {u : Symbols} {ps : Pairs} → PropertyList form u ps → Placed form false u
  properties g.no_property = none
  properties (g.last_property s d r x) = keyed s.kind r (plain refl refl (expression x)) (plain refl refl (expression x))
  properties (g.property_and s d f r x ps) =
      keyed s.kind r (plain refl refl (linked (mark m.Comma f) (expression x) refl refl (properties ps))) (plain refl refl (linked (mark m.Comma f) (expression x) refl refl (properties ps)))

  rest : {form : Form} {u : Symbols} {ns : List Name} {body : Stmts} (behind : Bool) → FunctionRest form u ns body → Placed form behind u
  rest behind (g.function_rest c d f h fs r body) =
      plain refl refl (linked (mark m.CloseParenthesis d) (formals fs) refl refl (plain refl refl (linked (mark m.CloseBrace h) (source body) refl refl none)))

  declarator : {form : Form} {i : Bool} {u : Symbols} {n : Name} {value : MaybeExpr} → Declarator form i u n value → Placed form false u
  declarator {form = form} (g.bare {n = n} c r) = named (binding form n r) none
  declarator {form = form} (g.initialised {n = n} c d r x) = named (binding form n r) (plain refl refl (expression x))

  declarators : {form : Form} {i : Bool} {u : Symbols} {items : VarItems} → DeclaratorList form i u items → Placed form false u
  declarators (g.last_declarator x) = declarator x
  declarators (g.declarator_and c x xs) = linked (mark m.Comma c) (declarator x) refl refl (declarators xs)

  optional : {form : Form} {u : Symbols} {x : MaybeExpr} → OptionalExpression form u x → Placed form false u
  optional g.absent = none
  optional (g.present x) = expression x

  for_first : {form : Form} {u : Symbols} {init : ForInit} → ForFirst form u init → Placed form false u
  for_first g.nothing_first = none
  for_first (g.variables_first c xs) = plain refl refl (declarators xs)
  for_first (g.expression_first x) = expression x

  block : {form : Form} {c : Context} {u : Symbols} {s : Stmt} (next : Symbol) → Block form c u s → Joins form u next
  block next (g.braces c d ss) = headed refl refl (closed (mark m.CloseBrace d) (statements ss).are refl refl)

  statement : {form : Form} {c : Context} {u : Symbols} {next : Symbol} {s : Stmt} → Statement form c u next s → Joins form u next
  statement (g.block {next = next} s) = block next s
  statement (g.variables c xs ends) = headed refl refl (ended (declarators xs) ends)
  statement (g.empty c) = headed refl refl (record { are = none; meet = refl })
  statement (g.expression x h1 h2 ends) = ended (expression x) ends
  statement (g.if c d f x s h) = headed refl refl (headed refl refl (between (mark m.CloseParenthesis f) (expression x) refl refl (statement s)))
  statement (g.if_else c d f h x s other) =
      headed refl refl (headed refl refl (between (mark m.CloseParenthesis f) (expression x) refl refl (between (word w.Else h) (statement s).are refl refl (statement other))))
  statement (g.do_while c d f h s x ends) =
      headed refl refl (between (word w.While d) (statement s).are refl refl (headed refl refl (between (mark m.CloseParenthesis h) (expression x) refl refl (ended none ends))))
  statement (g.while c d f x s) = headed refl refl (headed refl refl (between (mark m.CloseParenthesis f) (expression x) refl refl (statement s)))
  statement (g.for c d f h j init test step s) =
      headed refl refl (headed refl refl (between (mark m.Semicolon f) (for_first init) refl refl (between (mark m.Semicolon h) (optional test) refl refl
      (between (mark m.CloseParenthesis j) (optional step) refl refl (statement s)))))
  statement (g.for_in c d f h x t y s) =
      headed refl refl (headed refl refl (between (word w.In f) (expression x) refl refl (between (mark m.CloseParenthesis h) (expression y) refl refl (statement s))))
  statement (g.for_var_in c d f h j x y s) =
      headed refl refl (headed refl refl (headed refl refl (between (word w.In h) (declarator x) refl refl (between (mark m.CloseParenthesis j) (expression y) refl refl (statement s)))))
  statement (g.continue c h ends) = ended-at-once refl refl ends
  statement {form = form} (g.continue_to {n = n} c r h ends) = headed refl refl (ended (named {v = []} (referring form n r) none) ends)
  statement (g.break c h ends) = ended-at-once refl refl ends
  statement {form = form} (g.break_from {n = n} c r h ends) = headed refl refl (ended (named {v = []} (referring form n r) none) ends)
  statement (g.return c h ends) = ended-at-once refl refl ends
  statement (g.return_value c h x first ends) = headed refl refl (ended (expression x) ends)
  statement (g.switch c d f h j x cs) =
      headed refl refl (headed refl refl (between (mark m.CloseParenthesis f) (expression x) refl refl (headed refl refl (closed (mark m.CloseBrace j) (clauses cs) refl refl))))
  statement {form = form} (g.label {n = n} c d r away s) = named-between (referring form n r) refl refl (statement s)
  statement (g.throw c x first ends) = headed refl refl (ended (expression x) ends)
  statement {form = form} (g.try_catch {next = next} {n = n} c d f h j s r handler) =
      headed refl refl (between (word w.Catch d) (block next s).are refl refl (headed refl refl (named-between (binding form n r) refl refl (block next handler))))
  statement (g.try_finally {next = next} c d s last) = headed refl refl (between (word w.Finally d) (block next s).are refl refl (block next last))
  statement {form = form} (g.try_catch_finally {next = next} {n = n} c d f h j o s r handler last) =
      headed refl refl (between (word w.Catch d) (block next s).are refl refl (headed refl refl (named-between (binding form n r) refl refl
      (between (word w.Finally o) (block next handler).are refl refl (block next last)))))

  statements : {form : Form} {c : Context} {u : Symbols} {next : Symbol} {ss : Stmts} → StatementList form c u next ss → Joins form u next
  statements g.no_statement = record { are = none; meet = refl }
  statements (g.statement_and {next = next} {u = u} {v = v} s ss) = chained u v next (statement s) (statements ss)

  clauses : {form : Form} {c : Context} {may : Bool} {u : Symbols} {next : Symbol} {cs : Cases} → CaseClauses form c may u next cs → Placed form false u
  clauses g.no_clause = none
  clauses (g.case_and {next = next} c d x ss cs) = plain refl refl (linked (mark m.Colon d) (expression x) refl refl (followed next (statements ss) (clauses cs)))
  clauses (g.default_and {next = next} c d ss cs) = plain refl refl (plain refl refl (followed next (statements ss) (clauses cs)))

  source_element : {form : Form} {c : Context} {u : Symbols} {next : Symbol} {s : Stmt} → SourceElement form c u next s → Joins form u next
  source_element (g.statement s) = statement s
  source_element {form = form} (g.declaration {next = next} {n = n} c d r f) = record { are = plain refl refl (named (binding form n r) (rest true f)); meet = subst (λ a. meets a next ≡ true) (sym (rest-ends true f)) refl }

  pub source : {form : Form} {c : Context} {u : Symbols} {next : Symbol} {ss : Stmts} → SourceElements form c u next ss → Placed form false u
  source g.no_source = none
  source (g.source_and {next = next} s ss) = followed next (source_element s) (source ss)

pub begun : (form : Form) (functions : ℕ) (used : Symbols) → Begins form functions used → are_placed form false used ≡ true
begun form functions used h = let d = h.unlimited.derives in
    front form false used h.more (subst (λ u. are_placed form false u ≡ true) (sym d.whole) (linked (end d.newline) (source d.derived) refl refl none).is)

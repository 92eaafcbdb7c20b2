-- The end token stands nowhere inside a script.
use Rattle.std.proofs.Common.{◌≡◌, inl, ℕ, Bool, true, false, not, ◌&&◌, List, [], ◌∷◌, ◌++◌, Some, refl, ap, sym, ◌∙◌, subst}
use Rattle.std.proofs.lemmas.List.{append-nil, append_assoc}
use Rattle.js_lexer.specs.declared.mark.Mark.TheVariants as m
use Rattle.js_lexer.specs.declared.word.Word.TheVariants as w
use Rattle.js_lexer.specs.declared.token.TokenKind.{TokenKind}
use Rattle.js_lexer.specs.declared.token.TokenKind.TheVariants as k
use Rattle.js_tree.specs.declared.tree.BinaryOp.TheVariants as b
use Rattle.js_tree.specs.declared.tree.PrefixOp.{PrefixOp}
use Rattle.js_tree.specs.declared.tree.PrefixOp.TheVariants as p
use Rattle.js_tree.specs.declared.tree.PostfixOp.{PostfixOp}
use Rattle.js_tree.specs.declared.tree.PostfixOp.TheVariants as q
use Rattle.js_tree.specs.Tree.{Name, Expr, Exprs, MaybeExpr, Elements, Pairs, Stmt, Stmts, VarItems, Cases, ForInit}
use Rattle.js_parser.specs.declared.form.Form.{Form}
use Rattle.js_parser.specs.Symbols.{Symbol, Symbols, of_kind, word, mark, end, are_regular}
use Rattle.js_tree.specs.Levels.{Operator, LogicalOr, LogicalAnd, Operation}
use Rattle.js_parser.specs.Operators.{sign, prefix_sign, postfix_sign}
use Rattle.js_parser.specs.Names.{key_of}
use Rattle.js_parser.specs.Contexts.{Context}
use Rattle.js_parser.specs.Ends.{Ends, EndsAtOnce}
use Rattle.js_parser.specs.Ends as e
use Rattle.js_parser.specs.Grammar.{Formals, Expression, NewCallee, Arguments, ArgumentList, ElementList, PropertyList, FunctionRest, Declarator, DeclaratorList, OptionalExpression, ForFirst, Block, Statement, StatementList, CaseClauses, SourceElement, SourceElements}
use Rattle.js_parser.specs.Grammar as g
use Rattle.js_parser.specs.Accepted.{Derives}
use Rattle.js_parser.specs.Rooms.{Room, unbounded}
use Rattle.js_parser.specs.Machine.{done, stuck, Goes, script, is_end}
use Rattle.js_parser.proofs.Runs.{one_end}
use Rattle.js_parser.proofs.OneTree.{reads_unbounded}
use Rattle.js_parser.proofs.OneTree as back
use Rattle.js_parser.proofs.Room.{Has}
use Rattle.js_parser.proofs.Room as parts
use Rattle.js_parser.proofs.ReadScriptTrees.{script-read}
use Rattle.js_parser.proofs.FrontsGoOn.{can_go_on}
use Rattle.js_parser.proofs.FrontsScripts.{regular-join}

abbrev pub no_end : Symbols → Bool
no_end [] = true
no_end (s ∷ ss) = not (is_end s.kind) && no_end ss

-- ---- lists

record NoEnd (u : Symbols) : Type 0 where
  is : no_end u ≡ true

none : NoEnd []
none = record { is = refl }

both : (a c : Bool) → a ≡ true → c ≡ true → (a && c) ≡ true
both true c h i = i
both false c h i = h

left : (a c : Bool) → (a && c) ≡ true → a ≡ true
left true c h = refl
left false c h = h

right : (a c : Bool) → (a && c) ≡ true → c ≡ true
right true c h = h
right false c h = absurd cc

joined : (u v : Symbols) → no_end u ≡ true → no_end v ≡ true → no_end (u ++ v) ≡ true
joined [] v h i = i
joined (s ∷ u) v h i = both (not (is_end s.kind)) (no_end (u ++ v)) (left (not (is_end s.kind)) (no_end u) h) (joined u v (right (not (is_end s.kind)) (no_end u) h) i)

join : {u v : Symbols} → NoEnd u → NoEnd v → NoEnd (u ++ v)
join {u = u} {v = v} h i = record { is = joined u v h.is i.is }

plain : {s : Symbol} {v : Symbols} → is_end s.kind ≡ false → NoEnd v → NoEnd (s ∷ v)
plain {s = s} {v = v} p h = record { is = both (not (is_end s.kind)) (no_end v) (ap not p) h.is }

linked : {u : Symbols} (s : Symbol) {v : Symbols} → NoEnd u → is_end s.kind ≡ false → NoEnd v → NoEnd (u ++ (s ∷ v))
linked s h p i = join h (plain p i)

-- ---- tokens

sign-plain : (op : Operator) → is_end (sign op) ≡ false
sign-plain LogicalOr = refl
sign-plain LogicalAnd = refl
sign-plain (Operation b.BitOr) = refl
sign-plain (Operation b.BitXor) = refl
sign-plain (Operation b.BitAnd) = refl
sign-plain (Operation b.Equal) = refl
sign-plain (Operation b.NotEqual) = refl
sign-plain (Operation b.Same) = refl
sign-plain (Operation b.NotSame) = refl
sign-plain (Operation b.Less) = refl
sign-plain (Operation b.Greater) = refl
sign-plain (Operation b.LessEqual) = refl
sign-plain (Operation b.GreaterEqual) = refl
sign-plain (Operation b.InstanceOf) = refl
sign-plain (Operation b.In) = refl
sign-plain (Operation b.ShiftLeft) = refl
sign-plain (Operation b.ShiftRight) = refl
sign-plain (Operation b.ShiftRightUnsigned) = refl
sign-plain (Operation b.Add) = refl
sign-plain (Operation b.Subtract) = refl
sign-plain (Operation b.Multiply) = refl
sign-plain (Operation b.Divide) = refl
sign-plain (Operation b.Remainder) = refl

prefix-plain : (op : PrefixOp) → is_end (prefix_sign op) ≡ false
prefix-plain p.Delete = refl
prefix-plain p.Void = refl
prefix-plain p.TypeOf = refl
prefix-plain p.Increment = refl
prefix-plain p.Decrement = refl
prefix-plain p.Plus = refl
prefix-plain p.Minus = refl
prefix-plain p.BitNot = refl
prefix-plain p.Not = refl

postfix-plain : (op : PostfixOp) → is_end (postfix_sign op) ≡ false
postfix-plain q.Increment = refl
postfix-plain q.Decrement = refl

key-plain : (form : Form) (kind : TokenKind) (key : Name) → key_of form kind ≡ Some key → is_end kind ≡ false
key-plain form (k.Name n) key h = refl
key-plain form (k.Str n) key h = refl
key-plain form (k.Number n) key h = refl
key-plain form (k.Word w) key h = refl
key-plain form (k.Mark m) key h = refl
key-plain form k.End key h = cc

ended : {reached : ℕ} {v : Symbols} {next : Symbol} → Ends reached next v → NoEnd v
ended (e.written newline) = plain refl none
ended (e.at_brace c) = none
ended (e.at_end c) = none
ended (e.at_line c d other) = none

at-once : {v : Symbols} {next : Symbol} → EndsAtOnce next v → NoEnd v
at-once e.semicolon = plain refl none
at-once (e.before_brace c) = none
at-once (e.before_end c) = none
at-once (e.before_line c) = none

-- ---- the grammar

formals : {form : Form} {u : Symbols} {ns : List Name} → Formals form u ns → NoEnd u
formals g.no_formal = none
formals (g.last_formal c h) = plain refl none
formals (g.formal_and c d h fs) = plain refl (plain refl (formals fs))

mutual
  expression : {form : Form} {i : Bool} {l : ℕ} {u : Symbols} {x : Expr} → Expression form i l u x → NoEnd u
  expression (g.this c h) = plain refl none
  expression (g.identifier c h r) = plain refl none
  expression (g.null c h) = plain refl none
  expression (g.truth c h) = plain refl none
  expression (g.falsehood c h) = plain refl none
  expression (g.numeral d c h) = plain refl none
  expression (g.literal c h) = plain refl none
  expression (g.array c d h es) = plain refl (linked (mark m.CloseBracket d) (elements es) refl none)
  expression (g.object c d h ps) = plain refl (linked (mark m.CloseBrace d) (properties ps) refl none)
  expression (g.parenthesised c d h x) = plain refl (linked (mark m.CloseParenthesis d) (expression x) refl none)
  expression (g.function c h f) = plain refl (rest f)
  expression (g.named_function c d h r f) = plain refl (plain refl (rest f))
  expression (g.late c1 c2 c3 c4 c5 c6 c7 h form number) = plain refl (plain refl (plain refl (plain refl (plain refl (plain refl (plain refl none))))))
  expression (g.dot o c d h1 h2 h x r) = linked (mark m.Dot c) (expression x) refl (plain refl none)
  expression (g.index o c d h1 h2 h x y) = linked (mark m.OpenBracket c) (expression x) refl (linked (mark m.CloseBracket d) (expression y) refl none)
  expression (g.call h x xs) = join (expression x) (arguments xs)
  expression (g.new c h x xs) = plain refl (join (expression x) (arguments xs))
  expression (g.bare_new c h x) = plain refl (callee x)
  expression (g.postfix op h x t) = linked (of_kind (postfix_sign op) false) (expression x) (postfix-plain op) none
  expression (g.prefix op c h t x) = plain (prefix-plain op) (expression x)
  expression (g.changed op c h t x r) = plain (prefix-plain op) (expression x)
  expression (g.binary op c h may x y) = linked (of_kind (sign op) c) (expression x) (sign-plain op) (expression y)
  expression (g.conditional c d h x y other) = linked (mark m.Question c) (expression x) refl (linked (mark m.Colon d) (expression y) refl (expression other))
  expression (g.assign op joint c h eq x t y) = linked (mark joint c) (expression x) refl (expression y)
  expression (g.comma c h x y) = linked (mark m.Comma c) (expression x) refl (expression y)

  callee : {form : Form} {i : Bool} {u : Symbols} {x : Expr} → NewCallee form i u x → NoEnd u
  callee (g.member x) = expression x
  callee (g.new_again c x) = plain refl (callee x)

  arguments : {form : Form} {u : Symbols} {xs : Exprs} → Arguments form u xs → NoEnd u
  arguments (g.no_arguments c d) = plain refl (plain refl none)
  arguments (g.arguments c d xs) = plain refl (linked (mark m.CloseParenthesis d) (argument_list xs) refl none)

  argument_list : {form : Form} {u : Symbols} {xs : Exprs} → ArgumentList form u xs → NoEnd u
  argument_list (g.last_argument x) = expression x
  argument_list (g.argument_and c x xs) = linked (mark m.Comma c) (expression x) refl (argument_list xs)

  elements : {form : Form} {u : Symbols} {es : Elements} → ElementList form u es → NoEnd u
  elements g.no_element = none
  elements (g.last_element x) = expression x
  elements (g.element_and c x es) = linked (mark m.Comma c) (expression x) refl (elements es)
  elements (g.hole_and c es) = plain refl (elements es)

  properties : {form : Form} {u : Symbols} {ps : Pairs} → PropertyList form u ps → NoEnd u
  properties g.no_property = none
  properties {form = form} (g.last_property {key = key} s d r x) = plain (key-plain form s.kind key r) (plain refl (expression x))
  properties {form = form} (g.property_and {key = key} s d f r x ps) = plain (key-plain form s.kind key r) (plain refl (linked (mark m.Comma f) (expression x) refl (properties ps)))

  rest : {form : Form} {u : Symbols} {ns : List Name} {body : Stmts} → FunctionRest form u ns body → NoEnd u
  rest (g.function_rest c d f h fs r body) = plain refl (linked (mark m.CloseParenthesis d) (formals fs) refl (plain refl (linked (mark m.CloseBrace h) (source body) refl none)))

  declarator : {form : Form} {i : Bool} {u : Symbols} {n : Name} {value : MaybeExpr} → Declarator form i u n value → NoEnd u
  declarator (g.bare c r) = plain refl none
  declarator (g.initialised c d r x) = plain refl (plain refl (expression x))

  declarators : {form : Form} {i : Bool} {u : Symbols} {items : VarItems} → DeclaratorList form i u items → NoEnd u
  declarators (g.last_declarator x) = declarator x
  declarators (g.declarator_and c x xs) = linked (mark m.Comma c) (declarator x) refl (declarators xs)

  optional : {form : Form} {u : Symbols} {x : MaybeExpr} → OptionalExpression form u x → NoEnd u
  optional g.absent = none
  optional (g.present x) = expression x

  for_first : {form : Form} {u : Symbols} {init : ForInit} → ForFirst form u init → NoEnd u
  for_first g.nothing_first = none
  for_first (g.variables_first c xs) = plain refl (declarators xs)
  for_first (g.expression_first x) = expression x

  block : {form : Form} {c : Context} {u : Symbols} {s : Stmt} → Block form c u s → NoEnd u
  block (g.braces c d ss) = plain refl (linked (mark m.CloseBrace d) (statements ss) refl none)

  statement : {form : Form} {c : Context} {u : Symbols} {next : Symbol} {s : Stmt} → Statement form c u next s → NoEnd u
  statement (g.block s) = block s
  statement (g.variables c xs ends) = plain refl (join (declarators xs) (ended ends))
  statement (g.empty c) = plain refl none
  statement (g.expression x h1 h2 ends) = join (expression x) (ended ends)
  statement (g.if c d f x s h) = plain refl (plain refl (linked (mark m.CloseParenthesis f) (expression x) refl (statement s)))
  statement (g.if_else c d f h x s other) = plain refl (plain refl (linked (mark m.CloseParenthesis f) (expression x) refl (linked (word w.Else h) (statement s) refl (statement other))))
  statement (g.do_while c d f h s x ends) = plain refl (linked (word w.While d) (statement s) refl (plain refl (linked (mark m.CloseParenthesis h) (expression x) refl (ended ends))))
  statement (g.while c d f x s) = plain refl (plain refl (linked (mark m.CloseParenthesis f) (expression x) refl (statement s)))
  statement (g.for c d f h j init test step s) =
      plain refl (plain refl (linked (mark m.Semicolon f) (for_first init) refl (linked (mark m.Semicolon h) (optional test) refl (linked (mark m.CloseParenthesis j) (optional step) refl (statement s)))))
  statement (g.for_in c d f h x t y s) = plain refl (plain refl (linked (word w.In f) (expression x) refl (linked (mark m.CloseParenthesis h) (expression y) refl (statement s))))
  statement (g.for_var_in c d f h j x y s) = plain refl (plain refl (plain refl (linked (word w.In h) (declarator x) refl (linked (mark m.CloseParenthesis j) (expression y) refl (statement s)))))
  statement (g.continue c h ends) = plain refl (at-once ends)
  statement (g.continue_to c r h ends) = plain refl (plain refl (ended ends))
  statement (g.break c h ends) = plain refl (at-once ends)
  statement (g.break_from c r h ends) = plain refl (plain refl (ended ends))
  statement (g.return c h ends) = plain refl (at-once ends)
  statement (g.return_value c h x first ends) = plain refl (join (expression x) (ended ends))
  statement (g.switch c d f h j x cs) = plain refl (plain refl (linked (mark m.CloseParenthesis f) (expression x) refl (plain refl (linked (mark m.CloseBrace j) (clauses cs) refl none))))
  statement (g.label c d r away s) = plain refl (plain refl (statement s))
  statement (g.throw c x first ends) = plain refl (join (expression x) (ended ends))
  statement (g.try_catch c d f h j s r handler) = plain refl (linked (word w.Catch d) (block s) refl (plain refl (plain refl (plain refl (block handler)))))
  statement (g.try_finally c d s last) = plain refl (linked (word w.Finally d) (block s) refl (block last))
  statement (g.try_catch_finally c d f h j o s r handler last) =
      plain refl (linked (word w.Catch d) (block s) refl (plain refl (plain refl (plain refl (linked (word w.Finally o) (block handler) refl (block last))))))

  statements : {form : Form} {c : Context} {u : Symbols} {next : Symbol} {ss : Stmts} → StatementList form c u next ss → NoEnd u
  statements g.no_statement = none
  statements (g.statement_and s ss) = join (statement s) (statements ss)

  clauses : {form : Form} {c : Context} {may : Bool} {u : Symbols} {next : Symbol} {cs : Cases} → CaseClauses form c may u next cs → NoEnd u
  clauses g.no_clause = none
  clauses (g.case_and c d x ss cs) = plain refl (linked (mark m.Colon d) (expression x) refl (join (statements ss) (clauses cs)))
  clauses (g.default_and c d ss cs) = plain refl (plain refl (join (statements ss) (clauses cs)))

  source_element : {form : Form} {c : Context} {u : Symbols} {next : Symbol} {s : Stmt} → SourceElement form c u next s → NoEnd u
  source_element (g.statement s) = statement s
  source_element (g.declaration c d r f) = plain refl (plain refl (rest f))

  source : {form : Form} {c : Context} {u : Symbols} {next : Symbol} {ss : Stmts} → SourceElements form c u next ss → NoEnd u
  source g.no_source = none
  source (g.source_and s ss) = join (source_element s) (source ss)

pub elements_have_no_end : {form : Form} {c : Context} {u : Symbols} {next : Symbol} {ss : Stmts} → SourceElements form c u next ss → no_end u ≡ true
elements_have_no_end d = (source d).is

-- ---- scripts

-- what ends with one symbol and has the end token before it has it among the symbols before the last
inside : (u : Symbols) (b : Bool) (t : Symbol) (ts elements : Symbols) (last : Symbol) → u ++ (end b ∷ (t ∷ ts)) ≡ elements ++ (last ∷ []) → no_end elements ≡ true → ⊥
inside [] b t ts [] last h i = cc
inside [] b t ts (s ∷ elements) last h i = let f : end b ≡ s = cc in let c : false ≡ true = left false (no_end elements) (subst (λ o. (not (is_end o.kind) && no_end elements) ≡ true) (sym f) i) in cc
inside (s ∷ []) b t ts [] last h i = cc
inside (s ∷ (o ∷ u)) b t ts [] last h i = cc
inside (s ∷ u) b t ts (o ∷ elements) last h i = let f : u ++ (end b ∷ (t ∷ ts)) ≡ elements ++ (last ∷ []) = cc in inside u b t ts elements last f (right (not (is_end o.kind)) (no_end elements) i)

-- no token stands behind the end of a script
pub none_behind_the_end : (form : Form) (u : Symbols) (b : Bool) (t : Symbol) (ts : Symbols) (tree : Stmts) → Derives form ((u ++ (end b ∷ [])) ++ (t ∷ ts)) tree → ⊥
none_behind_the_end form u b t ts tree d = inside u b t ts d.elements (end d.newline) (sym (append_assoc u (end b ∷ []) (t ∷ ts)) ∙ d.whole) (elements_have_no_end d.derived)

-- Where the machine wants more behind the end, in any room, what is read is a script.
pub script_where_stuck_behind_the_end : (form : Form) (room : Room) (u : Symbols) (b : Bool) → Goes form (script room (u ++ (end b ∷ []))) (stuck []) → are_regular u ≡ true
    → (tree : Stmts) × Derives form (u ++ (end b ∷ [])) tree
script_where_stuck_behind_the_end form room u b run regular =
    let used = u ++ (end b ∷ []) in
    let c = can_go_on form room used [] (stuck []) (subst (λ ts. Goes form (script room ts) (stuck [])) (sym (append-nil used)) run) (inl refl) in
    at c.0 c.1 (script-read form unbounded (used ++ c.0) c.1 (regular-join used c.0 (regular-join u (end b ∷ []) regular refl) c.3) c.4).0
  where
    at : (more : Symbols) (tree : Stmts) → Derives form ((u ++ (end b ∷ [])) ++ more) tree → (tree : Stmts) × Derives form (u ++ (end b ∷ [])) tree
    at [] tree d = (tree, subst (λ ts. Derives form ts tree) (append-nil (u ++ (end b ∷ []))) d)
    at (t ∷ ts) tree d = absurd (none_behind_the_end form u b t ts tree d)

-- The machine without limits does not want more behind the end.
pub not_stuck_behind_the_end : (form : Form) (u : Symbols) (b : Bool) → Goes form (script unbounded (u ++ (end b ∷ []))) (stuck []) → are_regular u ≡ true → ⊥
not_stuck_behind_the_end form u b run regular =
    let d = script_where_stuck_behind_the_end form unbounded u b run regular in
    let e = one_end {form = form} {t = stuck []} {o = done d.0} refl refl run (reads_unbounded form (u ++ (end b ∷ [])) d.0 d.1) in cc

-- nor does the one that has room for the tree
pub not_stuck_where_it_fits : (form : Form) (room : Room) (u : Symbols) (b : Bool) (tree : Stmts) → Derives form (u ++ (end b ∷ [])) tree → Has room (parts.stmts tree) → Goes form (script room (u ++ (end b ∷ []))) (stuck []) → ⊥
not_stuck_where_it_fits form room u b tree d has run = let e = one_end {form = form} {t = stuck []} {o = done tree} refl refl run (back.script-read d has) in cc

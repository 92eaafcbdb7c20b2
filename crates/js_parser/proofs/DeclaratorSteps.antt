-- The steps of the machine at names that are bound, declarators and optional expressions, by what
-- the parser asks of the tokens.
use Rattle.std.proofs.Common.{◌≡◌, Bool, true, false, List, [], ◌∷◌, ◌++◌, Some, None, Result, Ok, Err, refl, ap, sym, ◌∙◌, subst}
use Rattle.std.specs.Prelude.{IfOk, IfErr}
use Rattle.std.proofs.Math.Path.{fun_ext}
use Rattle.js_lexer.specs.declared.mark.Mark.TheVariants as m
use Rattle.js_lexer.specs.declared.token.TokenKind.{TokenKind}
use Rattle.js_lexer.specs.declared.token.TokenKind.TheVariants as k
use Rattle.js_tree.specs.Tree.{Name, MaybeExpr, VarItems, NoExpr, AnExpr, NoVarItems, MoreVarItems}
use Rattle.js_tree.specs.Plain.{VarPart}
use Rattle.js_tree.specs.Plain as plain
use Rattle.js_parser.specs.declared.form.Form.{Form}
use Rattle.js_parser.specs.declared.stop.Stop.{Stop}
use Rattle.js_parser.specs.declared.stop.Stop.TheVariants.{OutOfMemory}
use Rattle.js_parser.specs.Symbols.{Symbols, behind}
use Rattle.js_parser.specs.Rooms.{Room}
use Rattle.js_parser.specs.Names.{is_binding}
use Rattle.js_parser.specs.Marks.{is_comma, is_assign}
use Rattle.js_parser.specs.Machine.{State, To, stuck, guard, comma, assign, optional, optional_by, declarators, declarator_by, declarators_by, after_declarator, initialiser, initialiser_by, Goes, here, then_on}
use Rattle.js_parser.specs.Machine as rule
use Rattle.js_parser.specs.Pieces.{first_as}
use Rattle.js_parser.specs.StatementPieces.{binding, binding_by, initial_value, initial_value_by, and_declarator, more_declarators, more_declarators_by, name_of, is_any, ends_optional}
use Rattle.js_parser.specs.Reads.{at, Makes}
use Rattle.js_parser.proofs.Runs.{onwards, stepped, allowed}

-- ---- names

-- a copy of a name
pub shared : (r : Result Name Stop) (n : Name) → IfOk r (λ copy. copy ≡ n) → IfErr r (λ error. error ≡ OutOfMemory) → Makes (λ name. name) n r
shared (Ok copy) n is err = is
shared (Err error) n ok is = is

pub at_a_binding : {form : Form} (next : To Name) (n : Name) (ts rest : Symbols) → first_as name_of ts ≡ Some n → is_binding form n ≡ true → rest ≡ behind ts
    → Goes form (binding form next ts) (next n rest)
at_a_binding next n [] rest h b e = cc
at_a_binding {form = form} next n (s ∷ ts) rest h b e = by s.kind h
  where
    by : (kind : TokenKind) → name_of kind ≡ Some n → Goes form (binding_by form kind next s ts) (next n rest)
    by (k.Name o) h = let same : n ≡ o = cc in
        subst (λ a. Goes form (guard (is_binding form a) (s ∷ ts) (next a ts)) (next n rest)) same (allowed (s ∷ ts) b (subst (λ r. Goes form (next n ts) (next n r)) (sym e) here))
    by _ h = cc

pub at_no_name : {form : Form} (next : To Name) (ts : Symbols) → first_as name_of ts ≡ None → Goes form (binding form next ts) (stuck ts)
at_no_name next [] h = here
at_no_name {form = form} next (s ∷ ts) h = by s.kind h
  where
    by : (kind : TokenKind) → name_of kind ≡ None → Goes form (binding_by form kind next s ts) (stuck (s ∷ ts))
    by (k.Name o) h = cc
    by _ h = here

pub at_no_binding : {form : Form} (next : To Name) (n : Name) (ts : Symbols) → first_as name_of ts ≡ Some n → is_binding form n ≡ false → Goes form (binding form next ts) (stuck ts)
at_no_binding next n [] h b = cc
at_no_binding {form = form} next n (s ∷ ts) h b = by s.kind h
  where
    by : (kind : TokenKind) → name_of kind ≡ Some n → Goes form (binding_by form kind next s ts) (stuck (s ∷ ts))
    by (k.Name o) h = let same : n ≡ o = cc in
        subst (λ a. Goes form (guard a (s ∷ ts) (next o ts)) (stuck (s ∷ ts))) (sym b ∙ ap (is_binding form) same) here
    by _ h = cc

-- ---- a declarator

initialiser_is : (room : Room) (i : Bool) (n : Name) (next : Name → MaybeExpr → Symbols → State) (ts : Symbols) → initialiser room i n next ts ≡ initial_value room i (next n) ts
initialiser_is room i n next [] = refl
initialiser_is room i n next (s ∷ ts) = by s.kind
  where
    by : (kind : TokenKind) → initialiser_by kind room i n next s ts ≡ initial_value_by kind room i (next n) s ts
    by (k.Mark m.Assign) = refl
    by _ = refl

-- a name, and its value
pub a_declarator : {form : Form} (room : Room) (i : Bool) (next : Name → MaybeExpr → Symbols → State) (ts : Symbols)
    → Goes form (rule.declarator room i next ts) (binding form (λ n. initial_value room i (next n)) ts)
a_declarator room i next [] = then_on here
a_declarator {form = form} room i next (s ∷ ts) = stepped (by s.kind) here
  where
    by : (kind : TokenKind) → declarator_by form kind room i next s ts ≡ binding_by form kind (λ n. initial_value room i (next n)) s ts
    by (k.Name n) = ap (guard (is_binding form n) (s ∷ ts)) (initialiser_is room i n next ts)
    by _ = refl

pub at_an_assign : {form : Form} (room : Room) (i : Bool) (next : To MaybeExpr) (ts rest : Symbols) → at is_assign ts ≡ true → rest ≡ behind ts
    → Goes form (initial_value room i next ts) (assign room i (λ x r. next (AnExpr x) r) rest)
at_an_assign room i next [] rest h e = cc
at_an_assign {form = form} room i next (s ∷ ts) rest h e = subst (λ r. Goes form (initial_value_by s.kind room i next s ts) (assign room i (λ x o. next (AnExpr x) o) r)) (sym e) (by s.kind h)
  where
    by : (kind : TokenKind) → is_assign kind ≡ true → Goes form (initial_value_by kind room i next s ts) (assign room i (λ x o. next (AnExpr x) o) ts)
    by (k.Mark m.Assign) h = here
    by _ h = cc

pub at_no_assign : {form : Form} (room : Room) (i : Bool) (next : To MaybeExpr) (ts : Symbols) → at is_assign ts ≡ false
    → Goes form (initial_value room i next ts) (next NoExpr ts)
at_no_assign room i next [] h = here
at_no_assign {form = form} room i next (s ∷ ts) h = by s.kind h
  where
    by : (kind : TokenKind) → is_assign kind ≡ false → Goes form (initial_value_by kind room i next s ts) (next NoExpr (s ∷ ts))
    by (k.Mark m.Assign) h = cc
    by _ h = here

-- ---- declarators

-- these, and then others
abbrev pub onto : List VarPart → VarItems → VarItems
onto [] items = items
onto (v ∷ vs) items = MoreVarItems v.name v.value (onto vs items)

onto_one_more : (vs : List VarPart) (v : VarPart) (items : VarItems) → onto vs (MoreVarItems v.name v.value items) ≡ onto (vs ++ (v ∷ [])) items
onto_one_more [] v items = refl
onto_one_more (u ∷ vs) v items = ap (MoreVarItems u.name u.value) (onto_one_more vs v items)

pub onto_none : (vs : List VarPart) → onto vs NoVarItems ≡ plain.var_items vs
onto_none [] = refl
onto_none (v ∷ vs) = ap (MoreVarItems v.name v.value) (onto_none vs)

after_is : (room : Room) (i : Bool) (n : Name) (value : MaybeExpr) (next : To VarItems) (ts : Symbols) → after_declarator room i n value next ts ≡ more_declarators room i (λ items r. next (MoreVarItems n value items) r) ts
after_is room i n value next [] = refl
after_is room i n value next (s ∷ ts) = by s.kind
  where
    by : (kind : TokenKind) → declarators_by kind room i n value next s ts ≡ more_declarators_by kind room i (λ items r. next (MoreVarItems n value items) r) s ts
    by (k.Mark m.Comma) = refl
    by _ = refl

-- one more, and then others
pub one_declarator : {form : Form} (room : Room) (i : Bool) (vs : List VarPart) (next : To VarItems) (ts : Symbols)
    → Goes form (declarators room i (λ items r. next (onto vs items) r) ts) (and_declarator room i vs (λ us r. more_declarators room i (λ items o. next (onto us items) o) r) ts)
one_declarator {form = form} room i vs next ts = stepped (ap (λ f. rule.declarator room i f ts) (fun_ext (λ n. fun_ext (λ value. fun_ext (λ r. (by n value r)))))) here
  where
    by : (n : Name) (value : MaybeExpr) (r : Symbols) → after_declarator room i n value (λ items o. next (onto vs items) o) r ≡ more_declarators room i (λ items o. next (onto (vs ++ (record { name = n; value = value } ∷ [])) items) o) r
    by n value r = after_is room i n value (λ items o. next (onto vs items) o) r ∙ ap (λ f. more_declarators room i f r) (fun_ext (λ items. ap next (onto_one_more vs (record { name = n; value = value }) items)))

-- the first
pub first_declarator : {form : Form} (room : Room) (i : Bool) (none : List VarPart) (next : To VarItems) (ts : Symbols) → none ≡ []
    → Goes form (declarators room i next ts) (and_declarator room i none (λ us r. more_declarators room i (λ items o. next (onto us items) o) r) ts)
first_declarator {form = form} room i none next ts h = subst (λ vs. Goes form (declarators room i next ts) (and_declarator room i vs (λ us r. more_declarators room i (λ items o. next (onto us items) o) r) ts)) (sym h) (one_declarator room i [] next ts)

pub more_at_a_comma : {form : Form} (room : Room) (i : Bool) (next : To VarItems) (ts rest : Symbols) → at is_comma ts ≡ true → rest ≡ behind ts
    → Goes form (more_declarators room i next ts) (declarators room i next rest)
more_at_a_comma room i next [] rest h e = cc
more_at_a_comma {form = form} room i next (s ∷ ts) rest h e = subst (λ r. Goes form (more_declarators_by s.kind room i next s ts) (declarators room i next r)) (sym e) (by s.kind h)
  where
    by : (kind : TokenKind) → is_comma kind ≡ true → Goes form (more_declarators_by kind room i next s ts) (declarators room i next ts)
    by (k.Mark m.Comma) h = here
    by _ h = cc

-- behind a comma
pub one_more_declarator : {form : Form} (room : Room) (i : Bool) (vs : List VarPart) (next : To VarItems) (ts rest : Symbols) → at is_comma ts ≡ true → rest ≡ behind ts
    → Goes form (more_declarators room i (λ items r. next (onto vs items) r) ts) (and_declarator room i vs (λ us r. more_declarators room i (λ items o. next (onto us items) o) r) rest)
one_more_declarator room i vs next ts rest h e = onwards (more_at_a_comma room i (λ items r. next (onto vs items) r) ts rest h e) (one_declarator room i vs next rest)

-- behind the last
pub no_more_declarators : {form : Form} (room : Room) (i : Bool) (vs : List VarPart) (next : To VarItems) (ts : Symbols) → at is_comma ts ≡ false
    → Goes form (more_declarators room i (λ items r. next (onto vs items) r) ts) (next (plain.var_items vs) ts)
no_more_declarators {form = form} room i vs next ts h = subst (λ items. Goes form (more_declarators room i (λ items r. next (onto vs items) r) ts) (next items ts)) (onto_none vs) (last ts h)
  where
    last : (ts : Symbols) → at is_comma ts ≡ false → Goes form (more_declarators room i (λ items r. next (onto vs items) r) ts) (next (onto vs NoVarItems) ts)
    last [] h = here
    last (s ∷ ts) h = by s.kind h
      where
        by : (kind : TokenKind) → is_comma kind ≡ false → Goes form (more_declarators_by kind room i (λ items r. next (onto vs items) r) s ts) (next (onto vs NoVarItems) (s ∷ ts))
        by (k.Mark m.Comma) h = cc
        by _ h = here

-- ---- expressions that may be absent

pub at_none_left : {form : Form} (room : Room) (next : To MaybeExpr) (ts : Symbols) → at is_any ts ≡ false → Goes form (optional room next ts) (stuck ts)
at_none_left room next [] h = then_on here
at_none_left room next (s ∷ ts) h = cc

pub at_absent : {form : Form} (room : Room) (next : To MaybeExpr) (ts : Symbols) → at ends_optional ts ≡ true → Goes form (optional room next ts) (next NoExpr ts)
at_absent room next [] h = cc
at_absent {form = form} room next (s ∷ ts) h = stepped (by s.kind h) here
  where
    by : (kind : TokenKind) → ends_optional kind ≡ true → optional_by kind room next s ts ≡ next NoExpr (s ∷ ts)
    by (k.Mark m.Semicolon) h = refl
    by (k.Mark m.CloseParenthesis) h = refl
    by _ h = cc

pub at_present : {form : Form} (room : Room) (next : To MaybeExpr) (ts : Symbols) → at is_any ts ≡ true → at ends_optional ts ≡ false → Goes form (optional room next ts) (comma room true (λ x r. next (AnExpr x) r) ts)
at_present room next [] a h = cc
at_present {form = form} room next (s ∷ ts) a h = stepped (by s.kind h) here
  where
    by : (kind : TokenKind) → ends_optional kind ≡ false → optional_by kind room next s ts ≡ comma room true (λ x r. next (AnExpr x) r) (s ∷ ts)
    by (k.Mark m.Semicolon) h = cc
    by (k.Mark m.CloseParenthesis) h = cc
    by _ h = refl

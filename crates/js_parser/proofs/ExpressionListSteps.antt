-- The steps of the machine at lists in expressions, by what the parser asks of the tokens.
use Rattle.std.proofs.Common.{◌≡◌, Bool, true, false, Option, Some, None, List, [], ◌∷◌, ◌++◌, refl, ap, sym, ◌∙◌, subst}
use Rattle.js_lexer.specs.declared.mark.Mark.TheVariants as m
use Rattle.js_lexer.specs.declared.token.TokenKind.{TokenKind}
use Rattle.js_lexer.specs.declared.token.TokenKind.TheVariants as k
use Rattle.js_tree.specs.Plain as tree
use Rattle.js_tree.specs.Plain.{PairPart, maybe_expr}
use Rattle.js_tree.specs.Tree.{Name, Expr, Exprs, Elements, Pairs, NoExpr, AnExpr, NoExprs, MoreExprs, NoElements, MoreElements, NoPairs, MorePairs}
use Rattle.js_parser.specs.declared.form.Form.{Form}
use Rattle.js_parser.specs.Symbols.{Symbols, behind}
use Rattle.js_parser.specs.Rooms.{Room}
use Rattle.js_parser.specs.Marks.{is_comma}
use Rattle.js_parser.specs.Machine as rule
use Rattle.js_parser.specs.Machine.{State, To, stuck, expect, is_close_parenthesis, is_close_bracket, is_colon, assign, arguments, argument_list, elements, pairs, Goes, here, then_on}
use Rattle.js_parser.specs.ExpressionLists.{and_exprs, and_elements, and_pairs, keyed}
use Rattle.js_parser.specs.Pieces.{are_over, separated, separated_by, key_at}
use Rattle.js_parser.specs.Reads.{at}
use Rattle.js_parser.proofs.Runs.{stepped}

-- to the same state with equal symbols
to : {form : Form} {s : State} {ts rest : Symbols} (f : Symbols → State) → rest ≡ ts → Goes form s (f ts) → Goes form s (f rest)
to {form = form} {s = s} f e d = subst (λ r. Goes form s (f r)) (sym e) d

-- ---- behind an item

pub separator-over : {form : Form} (next : To Bool) (ts : Symbols) → are_over ts ≡ true → Goes form (separated next ts) (stuck ts)
separator-over next [] h = here
separator-over next (s ∷ ts) h = cc

pub at-separator : {form : Form} (next : To Bool) (ts rest : Symbols) → at is_comma ts ≡ true → rest ≡ behind ts → Goes form (separated next ts) (next true rest)
at-separator next [] rest h e = cc
at-separator {form = form} next (s ∷ ts) rest h e = to (next true) e (by s.kind h)
  where
    by : (kind : TokenKind) → is_comma kind ≡ true → Goes form (separated_by kind next s ts) (next true ts)
    by (k.Mark m.Comma) h = here
    by _ h = cc

pub no-separator : {form : Form} (next : To Bool) (ts : Symbols) → are_over ts ≡ false → at is_comma ts ≡ false → Goes form (separated next ts) (next false ts)
no-separator next [] o h = cc
no-separator {form = form} next (s ∷ ts) o h = by s.kind h
  where
    by : (kind : TokenKind) → is_comma kind ≡ false → Goes form (separated_by kind next s ts) (next false (s ∷ ts))
    by (k.Mark m.Comma) h = cc
    by _ h = here

-- ---- what stands behind an item: others, or no more

abbrev pub more-arguments : Room → Expr → To Exprs → To Bool
more-arguments room x next true r = argument_list room (λ xs o. next (MoreExprs x xs) o) r
more-arguments room x next false r = next (MoreExprs x NoExprs) r

abbrev pub more-elements : Room → Expr → To Elements → To Bool
more-elements room x next true r = elements room (λ es o. next (MoreElements (AnExpr x) es) o) r
more-elements room x next false r = next (MoreElements (AnExpr x) NoElements) r

abbrev pub more-pairs : Room → Name → Expr → To Pairs → To Bool
more-pairs room key x next true r = pairs room (λ ps o. next (MorePairs key x ps) o) r
more-pairs room key x next false r = next (MorePairs key x NoPairs) r

-- ---- arguments

module _ {form : Form} (room : Room) (next : To Exprs) where
  pub arguments-over : (ts : Symbols) → are_over ts ≡ true → Goes form (arguments room next ts) (stuck ts)
  arguments-over [] h = then_on here
  arguments-over (s ∷ ts) h = cc

  pub no-arguments : (ts : Symbols) → at is_close_parenthesis ts ≡ true → Goes form (arguments room next ts) (next NoExprs ts)
  no-arguments [] h = cc
  no-arguments (s ∷ ts) h = stepped (by s.kind h) here
    where
      by : (kind : TokenKind) → is_close_parenthesis kind ≡ true → rule.arguments_by kind room next s ts ≡ next NoExprs (s ∷ ts)
      by (k.Mark m.CloseParenthesis) h = refl
      by _ h = cc

  pub some-arguments : (ts : Symbols) → are_over ts ≡ false → at is_close_parenthesis ts ≡ false → Goes form (arguments room next ts) (argument_list room next ts)
  some-arguments [] o h = cc
  some-arguments (s ∷ ts) o h = stepped (by s.kind h) here
    where
      by : (kind : TokenKind) → is_close_parenthesis kind ≡ false → rule.arguments_by kind room next s ts ≡ argument_list room next (s ∷ ts)
      by (k.Mark m.CloseParenthesis) h = cc
      by _ h = refl

  pub behind-argument : {t : State} (x : Expr) (ts : Symbols) → Goes form (separated (more-arguments room x next) ts) t → Goes form (rule.after_argument room x next ts) t
  behind-argument x [] d = d
  behind-argument {t = t} x (s ∷ ts) d = by s.kind d
    where
      by : (kind : TokenKind) → Goes form (separated_by kind (more-arguments room x next) s ts) t → Goes form (rule.argument_by kind room x next s ts) t
      by (k.Mark m.Comma) d = d
      by _ d = d

-- ---- elements

module _ {form : Form} (room : Room) (next : To Elements) where
  pub elements-over : (ts : Symbols) → are_over ts ≡ true → Goes form (elements room next ts) (stuck ts)
  elements-over [] h = then_on here
  elements-over (s ∷ ts) h = cc

  pub no-elements : (ts : Symbols) → at is_close_bracket ts ≡ true → Goes form (elements room next ts) (next NoElements ts)
  no-elements [] h = cc
  no-elements (s ∷ ts) h = stepped (by s.kind h) here
    where
      by : (kind : TokenKind) → is_close_bracket kind ≡ true → rule.elements_by kind room next s ts ≡ next NoElements (s ∷ ts)
      by (k.Mark m.CloseBracket) h = refl
      by _ h = cc

  pub a-hole : (ts rest : Symbols) → at is_comma ts ≡ true → rest ≡ behind ts → Goes form (elements room next ts) (elements room (λ es r. next (MoreElements NoExpr es) r) rest)
  a-hole [] rest h e = cc
  a-hole (s ∷ ts) rest h e = to (elements room (λ es r. next (MoreElements NoExpr es) r)) e (stepped (by s.kind h) here)
    where
      by : (kind : TokenKind) → is_comma kind ≡ true → rule.elements_by kind room next s ts ≡ elements room (λ es r. next (MoreElements NoExpr es) r) ts
      by (k.Mark m.Comma) h = refl
      by _ h = cc

  pub an-element : (ts : Symbols) → are_over ts ≡ false → at is_close_bracket ts ≡ false → at is_comma ts ≡ false
      → Goes form (elements room next ts) (assign room true (λ x r. rule.after_element room x next r) ts)
  an-element [] o h c = cc
  an-element (s ∷ ts) o h c = stepped (by s.kind h c) here
    where
      by : (kind : TokenKind) → is_close_bracket kind ≡ false → is_comma kind ≡ false → rule.elements_by kind room next s ts ≡ assign room true (λ x r. rule.after_element room x next r) (s ∷ ts)
      by (k.Mark m.CloseBracket) h c = cc
      by (k.Mark m.Comma) h c = cc
      by _ h c = refl

  pub behind-element : {t : State} (x : Expr) (ts : Symbols) → Goes form (separated (more-elements room x next) ts) t → Goes form (rule.after_element room x next ts) t
  behind-element x [] d = d
  behind-element {t = t} x (s ∷ ts) d = by s.kind d
    where
      by : (kind : TokenKind) → Goes form (separated_by kind (more-elements room x next) s ts) t → Goes form (rule.element_by kind room x next s ts) t
      by (k.Mark m.Comma) d = d
      by _ d = d

-- ---- keys with their values

module _ {form : Form} (room : Room) (next : To Pairs) where
  pub pairs-over : (ts : Symbols) → are_over ts ≡ true → Goes form (pairs room next ts) (stuck ts)
  pairs-over [] h = then_on here
  pairs-over (s ∷ ts) h = cc

  pub no-key : (ts : Symbols) → are_over ts ≡ false → None ≡ key_at form ts → Goes form (pairs room next ts) (next NoPairs ts)
  no-key [] o h = cc
  no-key (s ∷ ts) o h = then_on (subst (λ key. Goes form (rule.pairs_by key room next s ts) (next NoPairs (s ∷ ts))) h here)

  pub a-key : (key : Name) (ts rest : Symbols) → Some key ≡ key_at form ts → rest ≡ behind ts
      → Goes form (pairs room next ts) (expect is_colon (assign room true (λ x r. rule.after_pair room key x next r)) rest)
  a-key key [] rest h e = cc
  a-key key (s ∷ ts) rest h e =
      to (expect is_colon (assign room true (λ x r. rule.after_pair room key x next r))) e
      (then_on (subst (λ o. Goes form (rule.pairs_by o room next s ts) (expect is_colon (assign room true (λ x r. rule.after_pair room key x next r)) ts)) h here))

  pub behind-pair : {t : State} (key : Name) (x : Expr) (ts : Symbols) → Goes form (separated (more-pairs room key x next) ts) t → Goes form (rule.after_pair room key x next ts) t
  behind-pair key x [] d = d
  behind-pair {t = t} key x (s ∷ ts) d = by s.kind d
    where
      by : (kind : TokenKind) → Goes form (separated_by kind (more-pairs room key x next) s ts) t → Goes form (rule.pair_by kind room key x next s ts) t
      by (k.Mark m.Comma) d = d
      by _ d = d

-- ---- lists so far, with one more

and-expr : (es : List Expr) (x : Expr) (xs : Exprs) → and_exprs es (MoreExprs x xs) ≡ and_exprs (es ++ x ∷ []) xs
and-expr [] x xs = refl
and-expr (e ∷ es) x xs = ap (MoreExprs e) (and-expr es x xs)

last-expr : (es : List Expr) → and_exprs es NoExprs ≡ tree.exprs es
last-expr [] = refl
last-expr (e ∷ es) = ap (MoreExprs e) (last-expr es)

and-element : (es : List (Option Expr)) (x : Option Expr) (xs : Elements) → and_elements es (MoreElements (maybe_expr x) xs) ≡ and_elements (es ++ x ∷ []) xs
and-element [] x xs = refl
and-element (e ∷ es) x xs = ap (MoreElements (maybe_expr e)) (and-element es x xs)

last-element : (es : List (Option Expr)) → and_elements es NoElements ≡ tree.elements es
last-element [] = refl
last-element (e ∷ es) = ap (MoreElements (maybe_expr e)) (last-element es)

and-pair : (ps : List PairPart) (p : PairPart) (qs : Pairs) → and_pairs ps (MorePairs p.key p.value qs) ≡ and_pairs (ps ++ p ∷ []) qs
and-pair [] p qs = refl
and-pair (q ∷ ps) p qs = ap (MorePairs q.key q.value) (and-pair ps p qs)

last-pair : (ps : List PairPart) → and_pairs ps NoPairs ≡ tree.pairs ps
last-pair [] = refl
last-pair (p ∷ ps) = ap (MorePairs p.key p.value) (last-pair ps)

module _ {form : Form} {s : State} (ts : Symbols) where
  pub one-argument : (room : Room) (next : To Exprs) (before now : List Expr) (x : Expr) → now ≡ before ++ x ∷ []
      → Goes form s (argument_list room (λ xs r. next (and_exprs before (MoreExprs x xs)) r) ts) → Goes form s (argument_list room (λ xs r. next (and_exprs now xs) r) ts)
  one-argument room next before now x e d =
      subst (λ es. Goes form s (argument_list room (λ xs r. next (and_exprs es xs) r) ts)) (sym e)
      (subst (λ (f : Exprs → Exprs). Goes form s (argument_list room (λ xs r. next (f xs) r) ts)) (λ i xs. and-expr before x xs i) d)

  pub last-argument : (next : To Exprs) (before now : List Expr) (x : Expr) → now ≡ before ++ x ∷ []
      → Goes form s (next (and_exprs before (MoreExprs x NoExprs)) ts) → Goes form s (next (tree.exprs now) ts)
  last-argument next before now x e d =
      subst (λ xs. Goes form s (next xs ts)) (and-expr before x NoExprs ∙ (last-expr (before ++ x ∷ []) ∙ ap tree.exprs (sym e))) d

  pub one-element : (room : Room) (next : To Elements) (before now : List (Option Expr)) (x : Option Expr) → now ≡ before ++ x ∷ []
      → Goes form s (elements room (λ es r. next (and_elements before (MoreElements (maybe_expr x) es)) r) ts) → Goes form s (elements room (λ es r. next (and_elements now es) r) ts)
  one-element room next before now x e d =
      subst (λ es. Goes form s (elements room (λ xs r. next (and_elements es xs) r) ts)) (sym e)
      (subst (λ (f : Elements → Elements). Goes form s (elements room (λ xs r. next (f xs) r) ts)) (λ i xs. and-element before x xs i) d)

  pub some-elements : (next : To Elements) (now : List (Option Expr)) → Goes form s (next (and_elements now NoElements) ts) → Goes form s (next (tree.elements now) ts)
  some-elements next now d = subst (λ es. Goes form s (next es ts)) (last-element now) d

  pub last-one : (next : To Elements) (before now : List (Option Expr)) (x : Option Expr) → now ≡ before ++ x ∷ []
      → Goes form s (next (and_elements before (MoreElements (maybe_expr x) NoElements)) ts) → Goes form s (next (tree.elements now) ts)
  last-one next before now x e d =
      subst (λ es. Goes form s (next es ts)) (and-element before x NoElements ∙ (last-element (before ++ x ∷ []) ∙ ap tree.elements (sym e))) d

  pub one-pair : (room : Room) (next : To Pairs) (before now : List PairPart) (key : Name) (x : Expr) → now ≡ before ++ keyed key x ∷ []
      → Goes form s (pairs room (λ ps r. next (and_pairs before (MorePairs key x ps)) r) ts) → Goes form s (pairs room (λ ps r. next (and_pairs now ps) r) ts)
  one-pair room next before now key x e d =
      subst (λ ps. Goes form s (pairs room (λ qs r. next (and_pairs ps qs) r) ts)) (sym e)
      (subst (λ (f : Pairs → Pairs). Goes form s (pairs room (λ qs r. next (f qs) r) ts)) (λ i qs. and-pair before (keyed key x) qs i) d)

  pub some-pairs : (next : To Pairs) (now : List PairPart) → Goes form s (next (and_pairs now NoPairs) ts) → Goes form s (next (tree.pairs now) ts)
  some-pairs next now d = subst (λ ps. Goes form s (next ps ts)) (last-pair now) d

  pub last-key : (next : To Pairs) (before now : List PairPart) (key : Name) (x : Expr) → now ≡ before ++ keyed key x ∷ []
      → Goes form s (next (and_pairs before (MorePairs key x NoPairs)) ts) → Goes form s (next (tree.pairs now) ts)
  last-key next before now key x e d =
      subst (λ ps. Goes form s (next ps ts)) (and-pair before (keyed key x) NoPairs ∙ (last-pair (before ++ keyed key x ∷ []) ∙ ap tree.pairs (sym e))) d

-- The steps of the machine at operands and at what is linked to them, by what the parser asks of
-- the tokens.
use Rattle.std.proofs.Common.{◌≡◌, ℕ, Bool, true, false, ◌&&◌, if◌then◌else◌, Option, Some, None, [], ◌∷◌, refl, ap, sym, subst}
use Rattle.js_lexer.specs.declared.mark.Mark.TheVariants as m
use Rattle.js_lexer.specs.declared.word.Word.TheVariants as w
use Rattle.js_lexer.specs.declared.token.Token.{Token}
use Rattle.js_lexer.specs.declared.token.TokenKind.{TokenKind}
use Rattle.js_lexer.specs.declared.token.TokenKind.TheVariants as k
use Rattle.js_tree.specs.Numbering.{is_function_number}
use Rattle.js_tree.specs.Tree.{Name, Expr}
use Rattle.js_tree.specs.Tree
use Rattle.js_parser.specs.declared.form.Form.{Form}
use Rattle.js_parser.specs.declared.form.Form.TheVariants.{Source, Written}
use Rattle.js_parser.specs.declared.link.Link.{Link}
use Rattle.js_parser.specs.declared.link.Link.TheVariants as link
use Rattle.js_parser.specs.declared.opening.Opening.{Opening}
use Rattle.js_parser.specs.Symbols.{Symbol, Symbols, behind, symbol}
use Rattle.js_parser.specs.Rooms.{Room, inside, in_function, fits_node, fits_around, fits_function}
use Rattle.js_parser.specs.Marks.{is_new}
use Rattle.js_parser.specs.Names.{is_eval, is_reference, is_binding, is_property}
use Rattle.js_parser.specs.Machine as rule
use Rattle.js_parser.specs.Machine.{State, To, stuck, guard, fitting, expect, is_open_parenthesis, is_close_parenthesis, is_get, operand, operand_by, links, links_by, arguments, after_new, new_by, Goes, here, then_on}
use Rattle.js_parser.specs.Pieces as pieces
use Rattle.js_parser.specs.Pieces.{first_as, are_over, name_of, opening_of, link_of, leaf_of, entry_of}
use Rattle.js_parser.specs.Reads.{at}
use Rattle.js_parser.proofs.Runs.{stepped, allowed}

-- to the same state with equal symbols
to : {form : Form} {s : State} {ts rest : Symbols} (f : Symbols → State) → rest ≡ ts → Goes form s (f ts) → Goes form s (f rest)
to {form = form} {s = s} f e d = subst (λ r. Goes form s (f r)) (sym e) d

-- ---- `new`

pub at-new : {form : Form} (room : Room) (c : Bool) (next : To Expr) (ts rest : Symbols) → at is_new ts ≡ true → rest ≡ behind ts
    → Goes form (operand room c next ts) (pieces.behind_new room c next rest)
at-new room c next [] rest h e = cc
at-new {form = form} room c next (s ∷ ts) rest h e = to (pieces.behind_new room c next) e (stepped (by s.kind h) here)
  where
    by : (kind : TokenKind) → is_new kind ≡ true → operand_by form kind room c next s ts ≡ pieces.behind_new room c next ts
    by (k.Word w.New) h = refl
    by _ h = cc

pub new-arguments : {form : Form} (room : Room) (c : Bool) (x : Expr) (next : To Expr) (ts rest : Symbols) → at is_open_parenthesis ts ≡ true → rest ≡ behind ts
    → Goes form (after_new room c x next ts) (arguments (inside room) (λ xs. expect is_close_parenthesis (links room c (Tree.New x xs) next)) rest)
new-arguments room c x next [] rest h e = cc
new-arguments {form = form} room c x next (s ∷ ts) rest h e = to (arguments (inside room) (λ xs. expect is_close_parenthesis (links room c (Tree.New x xs) next))) e (by s.kind h)
  where
    by : (kind : TokenKind) → is_open_parenthesis kind ≡ true → Goes form (new_by kind room c x next s ts) (arguments (inside room) (λ xs. expect is_close_parenthesis (links room c (Tree.New x xs) next)) ts)
    by (k.Mark m.OpenParenthesis) h = here
    by _ h = cc

pub no-new-arguments : {form : Form} (room : Room) (c : Bool) (x : Expr) (next : To Expr) (ts : Symbols) → at is_open_parenthesis ts ≡ false
    → Goes form (after_new room c x next ts) (next (Tree.New x Tree.NoExprs) ts)
no-new-arguments room c x next [] h = here
no-new-arguments {form = form} room c x next (s ∷ ts) h = by s.kind h
  where
    by : (kind : TokenKind) → is_open_parenthesis kind ≡ false → Goes form (new_by kind room c x next s ts) (next (Tree.New x Tree.NoExprs) (s ∷ ts))
    by (k.Mark m.OpenParenthesis) h = cc
    by _ h = here

-- ---- other operands

late-numbers : (room : Room) (c : Bool) (next : To Expr) (ts : Symbols)
    → rule.late_number room c next ts ≡ pieces.late_number (λ n. expect is_close_parenthesis (expect is_close_parenthesis (λ r. links room c (Tree.Late n) next r))) ts
late-numbers room c next [] = refl
late-numbers room c next (s ∷ ts) = by s.kind s.in_decimal
  where
    numbered : (n : ℕ) (b : Bool)
        → guard b (s ∷ ts) (expect is_close_parenthesis (expect is_close_parenthesis (links room c (Tree.Late n) next)) ts)
        ≡ pieces.late_number_by (if b then Some n else None) (λ n. expect is_close_parenthesis (expect is_close_parenthesis (λ r. links room c (Tree.Late n) next r))) s ts
    numbered n true = refl
    numbered n false = refl

    by : (kind : TokenKind) (d : Bool)
        → rule.late_by kind d room c next s ts ≡ pieces.late_number_by (entry_of kind d) (λ n. expect is_close_parenthesis (expect is_close_parenthesis (λ r. links room c (Tree.Late n) next r))) s ts
    by (k.Number n) d = numbered n (d && is_function_number n)
    by _ d = refl

names : (b : Bool) (form : Form) (n : Name) (room : Room) (c : Bool) (next : To Expr) (s : Symbol) (ts : Symbols)
    → rule.name_by b form n room c next s ts ≡ pieces.name_by b form n room (λ x r. links room c x next r) (s ∷ ts)
names false form n room c next s ts = refl
names true Source n room c next s ts = refl
names true Written n room c next s ts =
    ap (λ (f : Symbols → State). fitting (fits_node room) ts (expect is_open_parenthesis (expect is_get (expect is_open_parenthesis f)) ts)) (λ i us. late-numbers room c next us i)

functions : (form : Form) (room : Room) (c : Bool) (next : To Expr) (ts : Symbols)
    → rule.function form room c next ts ≡ pieces.function_name form (λ name. pieces.function_rule name (in_function room) (λ f r. links room c (Tree.Function f) next r)) ts
functions form room c next [] = refl
functions form room c next (s ∷ ts) = by s.kind
  where
    by : (kind : TokenKind) → rule.function_by form kind room c next s ts ≡ pieces.function_name_by form (name_of kind) (λ name. pieces.function_rule name (in_function room) (λ f r. links room c (Tree.Function f) next r)) s ts
    by (k.Name n) = refl
    by _ = refl

pub no-new : {form : Form} (room : Room) (c : Bool) (next : To Expr) (ts : Symbols) → at is_new ts ≡ false
    → Goes form (operand room c next ts) (pieces.primary form room (λ x r. links room c x next r) ts)
no-new room c next [] h = then_on here
no-new {form = form} room c next (s ∷ ts) h = stepped (by s.kind s.newline s.in_decimal h) here
  where
    of : TokenKind → Bool → Bool → Symbol
    of kind newline in_decimal = record { kind = kind; newline = newline; in_decimal = in_decimal }

    by : (kind : TokenKind) (b d : Bool) → is_new kind ≡ false → operand_by form kind room c next (of kind b d) ts ≡ pieces.primary form room (λ x r. links room c x next r) (of kind b d ∷ ts)
    by (k.Word w.New) b d h = cc
    by (k.Word w.Function) b d h = ap (fitting (fits_function room) ts) (functions form room c next ts)
    by (k.Name n) b d h = names (is_eval n) form n room c next (of (k.Name n) b d) ts
    by (k.Mark m.OpenParenthesis) b d h = refl
    by _ b d h = refl

module _ {form : Form} (room : Room) (next : To Expr) (ts : Symbols) where
  pub at-name : (n : Name) → first_as name_of ts ≡ Some n → Goes form (pieces.primary form room next ts) (pieces.name form n room next ts)
  at-name n h = subst (λ o. Goes form (pieces.primary_by form o (first_as opening_of ts) room next ts) (pieces.name form n room next ts)) (sym h) here

  pub at-opening : (opens : Opening) (rest : Symbols) → first_as name_of ts ≡ None → first_as opening_of ts ≡ Some opens → rest ≡ behind ts
      → Goes form (pieces.primary form room next ts) (pieces.opened form opens room next rest)
  at-opening opens rest h l e =
      to (pieces.opened form opens room next) e
      (subst (λ o. Goes form (pieces.primary_by form o (first_as opening_of ts) room next ts) (pieces.opened form opens room next (behind ts))) (sym h)
      (subst (λ o. Goes form (pieces.primary_by form None o room next ts) (pieces.opened form opens room next (behind ts))) (sym l) here))

  pub at-leaf : first_as name_of ts ≡ None → first_as opening_of ts ≡ None → Goes form (pieces.primary form room next ts) (pieces.leaf_at room next ts)
  at-leaf h l =
      subst (λ o. Goes form (pieces.primary_by form o (first_as opening_of ts) room next ts) (pieces.leaf_at room next ts)) (sym h)
      (subst (λ o. Goes form (pieces.primary_by form None o room next ts) (pieces.leaf_at room next ts)) (sym l) here)

  -- ---- tokens that are expressions

  pub leaf-over : ts ≡ [] → Goes form (pieces.leaf_at room next ts) (stuck ts)
  leaf-over e = subst (λ us. Goes form (pieces.leaf_at room next us) (stuck us)) (sym e) here

  pub no-leaf : (t : Token) → ts ≡ symbol t ∷ behind ts → None ≡ leaf_of t.kind → Goes form (pieces.leaf_at room next ts) (stuck ts)
  no-leaf t e h =
      subst (λ us. Goes form (pieces.leaf_at room next us) (stuck us)) (sym e)
      (subst (λ o. Goes form (pieces.leaf_by o room next (symbol t) (behind ts)) (stuck (symbol t ∷ behind ts))) h here)

  pub some-leaf : (t : Token) (x : Expr) (rest : Symbols) → ts ≡ symbol t ∷ behind ts → Some x ≡ leaf_of t.kind → rest ≡ behind ts
      → Goes form (pieces.leaf_at room next ts) (pieces.leaf room x next rest)
  some-leaf t x rest e h f =
      to (pieces.leaf room x next) f
      (subst (λ us. Goes form (pieces.leaf_at room next us) (pieces.leaf room x next (behind ts))) (sym e)
      (subst (λ o. Goes form (pieces.leaf_by o room next (symbol t) (behind ts)) (pieces.leaf room x next (behind ts))) h here))

  -- ---- names

  pub late-name : (n : Name) → is_eval n ≡ true → Goes form (pieces.name form n room next ts) (pieces.late_in form room next ts)
  late-name n h = subst (λ b. Goes form (pieces.name_by b form n room next ts) (pieces.late_in form room next ts)) (sym h) here

  pub no-reference : (n : Name) → is_eval n ≡ false → is_reference form n ≡ false → Goes form (pieces.name form n room next ts) (stuck ts)
  no-reference n h r =
      subst (λ b. Goes form (pieces.name_by b form n room next ts) (stuck ts)) (sym h)
      (subst (λ b. Goes form (guard b ts (pieces.leaf room (Tree.Ident n) next (behind ts))) (stuck ts)) (sym r) here)

  pub reference : (n : Name) (rest : Symbols) → is_eval n ≡ false → is_reference form n ≡ true → rest ≡ behind ts
      → Goes form (pieces.name form n room next ts) (pieces.leaf room (Tree.Ident n) next rest)
  reference n rest h r e =
      to (pieces.leaf room (Tree.Ident n) next) e
      (subst (λ b. Goes form (pieces.name_by b form n room next ts) (pieces.leaf room (Tree.Ident n) next (behind ts))) (sym h) (allowed ts r here))

-- ---- late functions

module _ {any : Form} (room : Room) (next : To Expr) (ts : Symbols) (form : Form) where
  pub late-in-source : form ≡ Source → Goes any (pieces.late_in form room next ts) (stuck ts)
  late-in-source h = subst (λ f. Goes any (pieces.late_in f room next ts) (stuck ts)) (sym h) here

  pub late-in-written : (rest : Symbols) → form ≡ Written → rest ≡ behind ts → Goes any (pieces.late_in form room next ts) (pieces.late room next rest)
  late-in-written rest h e = to (pieces.late room next) e (subst (λ f. Goes any (pieces.late_in f room next ts) (pieces.late room next (behind ts))) (sym h) here)

module _ {form : Form} (next : To ℕ) (ts : Symbols) where
  pub late-over : ts ≡ [] → Goes form (pieces.late_number next ts) (stuck ts)
  late-over e = subst (λ us. Goes form (pieces.late_number next us) (stuck us)) (sym e) here

  pub no-entry : (t : Token) → ts ≡ symbol t ∷ behind ts → None ≡ entry_of t.kind (symbol t).in_decimal → Goes form (pieces.late_number next ts) (stuck ts)
  no-entry t e h =
      subst (λ us. Goes form (pieces.late_number next us) (stuck us)) (sym e)
      (subst (λ o. Goes form (pieces.late_number_by o next (symbol t) (behind ts)) (stuck (symbol t ∷ behind ts))) h here)

  pub an-entry : (t : Token) (n : ℕ) (rest : Symbols) → ts ≡ symbol t ∷ behind ts → Some n ≡ entry_of t.kind (symbol t).in_decimal → rest ≡ behind ts → Goes form (pieces.late_number next ts) (next n rest)
  an-entry t n rest e h f =
      to (next n) f
      (subst (λ us. Goes form (pieces.late_number next us) (next n (behind ts))) (sym e)
      (subst (λ o. Goes form (pieces.late_number_by o next (symbol t) (behind ts)) (next n (behind ts))) h here))

-- ---- the name of a function

module _ {form : Form} (next : To (Option Name)) where
  pub function-over : (ts : Symbols) → are_over ts ≡ true → Goes form (pieces.function_name form next ts) (stuck ts)
  function-over [] h = here
  function-over (s ∷ ts) h = cc

  pub no-function-name : (ts : Symbols) → are_over ts ≡ false → first_as name_of ts ≡ None → Goes form (pieces.function_name form next ts) (next None ts)
  no-function-name [] o h = cc
  no-function-name (s ∷ ts) o h = subst (λ o. Goes form (pieces.function_name_by form o next s ts) (next None (s ∷ ts))) (sym h) here

  pub no-binding : (n : Name) (ts : Symbols) → first_as name_of ts ≡ Some n → is_binding form n ≡ false → Goes form (pieces.function_name form next ts) (stuck ts)
  no-binding n [] h b = here
  no-binding n (s ∷ ts) h b =
      subst (λ o. Goes form (pieces.function_name_by form o next s ts) (stuck (s ∷ ts))) (sym h)
      (subst (λ b. Goes form (guard b (s ∷ ts) (next (Some n) ts)) (stuck (s ∷ ts))) (sym b) here)

  pub binding : (n : Name) (ts rest : Symbols) → first_as name_of ts ≡ Some n → is_binding form n ≡ true → rest ≡ behind ts → Goes form (pieces.function_name form next ts) (next (Some n) rest)
  binding n [] rest h b e = cc
  binding n (s ∷ ts) rest h b e =
      to (next (Some n)) e (subst (λ o. Goes form (pieces.function_name_by form o next s ts) (next (Some n) ts)) (sym h) (allowed (s ∷ ts) b here))

-- ---- links

dots : (form : Form) (room : Room) (c : Bool) (x : Expr) (next : To Expr) (ts : Symbols)
    → rule.dot form room c x next ts ≡ pieces.property form (λ n r. links room c (Tree.Dot x n) next r) ts
dots form room c x next [] = refl
dots form room c x next (s ∷ ts) = by s.kind
  where
    by : (kind : TokenKind) → rule.dot_by form kind room c x next s ts ≡ pieces.property_by form (name_of kind) (λ n r. links room c (Tree.Dot x n) next r) (s ∷ ts)
    by (k.Name n) = refl
    by _ = refl

pub at-link : {form : Form} (room : Room) (c : Bool) (x : Expr) (next : To Expr) (l : Link) (ts rest : Symbols) → first_as (link_of c) ts ≡ Some l → rest ≡ behind ts
    → Goes form (links room c x next ts) (pieces.linked form l room x (λ y r. links room c y next r) rest)
at-link room c x next l [] rest h e = cc
at-link {form = form} room c x next l (s ∷ ts) rest h e = to (pieces.linked form l room x (λ y r. links room c y next r)) e (stepped (by c s.kind l h) here)
  where
    by : (c : Bool) (kind : TokenKind) (l : Link) → link_of c kind ≡ Some l → links_by form kind room c x next s ts ≡ pieces.linked form l room x (λ y r. links room c y next r) ts
    by c (k.Mark m.Dot) link.Dot h = ap (fitting (fits_around room x) ts) (dots form room c x next ts)
    by c (k.Mark m.Dot) _ h = cc
    by c (k.Mark m.OpenBracket) link.Index h = refl
    by c (k.Mark m.OpenBracket) _ h = cc
    by true (k.Mark m.OpenParenthesis) link.Call h = refl
    by true (k.Mark m.OpenParenthesis) _ h = cc
    by false (k.Mark m.OpenParenthesis) _ h = cc
    by c _ l h = cc

pub no-link : {form : Form} (room : Room) (c : Bool) (x : Expr) (next : To Expr) (ts : Symbols) → first_as (link_of c) ts ≡ None
    → Goes form (links room c x next ts) (next x ts)
no-link room c x next [] h = then_on here
no-link {form = form} room c x next (s ∷ ts) h = stepped (by c s.kind h) here
  where
    by : (c : Bool) (kind : TokenKind) → link_of c kind ≡ None → links_by form kind room c x next s ts ≡ next x (s ∷ ts)
    by c (k.Mark m.Dot) h = cc
    by c (k.Mark m.OpenBracket) h = cc
    by true (k.Mark m.OpenParenthesis) h = cc
    by false (k.Mark m.OpenParenthesis) h = refl
    by c _ h = refl

pub same-link : {form : Form} (room : Room) (x : Expr) (next : To Expr) (ts : Symbols) (l o : Link) → l ≡ o → Goes form (pieces.linked form l room x next ts) (pieces.linked form o room x next ts)
same-link {form = form} room x next ts l o e = subst (λ p. Goes form (pieces.linked form l room x next ts) (pieces.linked form p room x next ts)) e here

pub same-opening : {form : Form} (room : Room) (next : To Expr) (ts : Symbols) (l o : Opening) → l ≡ o → Goes form (pieces.opened form l room next ts) (pieces.opened form o room next ts)
same-opening {form = form} room next ts l o e = subst (λ p. Goes form (pieces.opened form l room next ts) (pieces.opened form p room next ts)) e here

module _ {form : Form} (next : To Name) (ts : Symbols) where
  pub no-name : first_as name_of ts ≡ None → Goes form (pieces.property form next ts) (stuck ts)
  no-name h = subst (λ o. Goes form (pieces.property_by form o next ts) (stuck ts)) (sym h) here

  pub no-property : (n : Name) → first_as name_of ts ≡ Some n → is_property form n ≡ false → Goes form (pieces.property form next ts) (stuck ts)
  no-property n h p =
      subst (λ o. Goes form (pieces.property_by form o next ts) (stuck ts)) (sym h)
      (subst (λ b. Goes form (guard b ts (next n (behind ts))) (stuck ts)) (sym p) here)

  pub property : (n : Name) (rest : Symbols) → first_as name_of ts ≡ Some n → is_property form n ≡ true → rest ≡ behind ts → Goes form (pieces.property form next ts) (next n rest)
  property n rest h p e =
      to (next n) e (subst (λ o. Goes form (pieces.property_by form o next ts) (next n (behind ts))) (sym h) (allowed ts p here))

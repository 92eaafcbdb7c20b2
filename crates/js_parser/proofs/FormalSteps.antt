-- The steps of the machine at the formals of a function, by what the parser asks of the tokens.
use Rattle.std.proofs.Common.{◌≡◌, Bool, true, false, ◌&&◌, ◌||◌, not, ℕ, List, [], ◌∷◌, ◌++◌, Some, None, Result, Ok, Err, length, refl, ap, sym, ◌∙◌, subst, arith}
use Rattle.std.specs.Prelude.{IfOk, ◌==◌}
use Rattle.std.proofs.Math.Path.{fun_ext}
use Rattle.std.proofs.lemmas.Bool.{eqb-true, eq-eqb}
use Rattle.std.proofs.lemmas.List.{append-nil, append_assoc}
use Rattle.js_lexer.specs.Characters.{begins}
use Rattle.js_lexer.specs.Words.{is_spelled}
use Rattle.js_lexer.specs.declared.mark.Mark.TheVariants as m
use Rattle.js_lexer.specs.declared.token.TokenKind.{TokenKind}
use Rattle.js_lexer.specs.declared.token.TokenKind.TheVariants as k
use Rattle.js_tree.specs.Tree.{Name, Stmts}
use Rattle.js_parser.specs.declared.form.Form.{Form}
use Rattle.js_parser.specs.declared.stop.Stop.{Stop}
use Rattle.js_parser.specs.Symbols.{Symbols, behind}
use Rattle.js_parser.specs.Contexts as contexts
use Rattle.js_parser.specs.Rooms.{Room}
use Rattle.js_parser.specs.Names.{is_binding, is_among, is_distinct}
use Rattle.js_parser.specs.Marks.{is_comma}
use Rattle.js_parser.specs.Machine.{State, To, stuck, guard, expect, is_open_parenthesis, is_close_parenthesis, is_open_brace, is_close_brace, source, is_formal, and_formal, formals_by, one_formal_by, formal_by, after_formal, Goes, here, then_on}
use Rattle.js_parser.specs.Machine as rule
use Rattle.js_parser.specs.Pieces.{first_as}
use Rattle.js_parser.specs.StatementPieces.{with_formal, with_formal_by, some_formals, more_formals, more_formals_by, name_of, is_any, is_name}
use Rattle.js_parser.specs.Reads.{at, Makes}
use Rattle.js_parser.proofs.Runs.{onwards, stepped, allowed}
use Rattle.js_parser.proofs.Steps.{passed, not_passed}

-- ---- distinct names

equal_symmetric : (m n : ℕ) → (m == n) ≡ (n == m)
equal_symmetric m n = by (m == n) (n == m) refl refl
  where
    by : (a b : Bool) → (m == n) ≡ a → (n == m) ≡ b → a ≡ b
    by true true e f = refl
    by false false e f = refl
    by true false e f = sym (eq-eqb n m (sym (eqb-true m n e))) ∙ f
    by false true e f = sym e ∙ eq-eqb m n (sym (eqb-true n m f))

begins_symmetric : (m n : Name) → length m ≡ length n → begins m n ≡ begins n m
begins_symmetric [] [] e = refl
begins_symmetric [] (y ∷ n) e = absurd (omega (arith, e))
begins_symmetric (x ∷ m) [] e = absurd (omega (arith, e))
begins_symmetric (x ∷ m) (y ∷ n) e = let shorter : length m ≡ length n = omega (arith, e) in
    ap (λ b. b && begins m n) (equal_symmetric x y) ∙ ap (λ b. (y == x) && b) (begins_symmetric m n shorter)

spelled_symmetric : (m n : Name) → is_spelled m n ≡ is_spelled n m
spelled_symmetric m n = by (length m == length n) refl
  where
    by : (a : Bool) → (length m == length n) ≡ a → is_spelled m n ≡ is_spelled n m
    by true e = ap (λ b. b && begins m n) (equal_symmetric (length m) (length n)) ∙ ap (λ b. (length n == length m) && b) (begins_symmetric m n (eqb-true (length m) (length n) e))
    by false e = ap (λ b. b && begins m n) e ∙ sym (ap (λ b. b && begins n m) (equal_symmetric (length n) (length m) ∙ e))

among_one_more : (n o : Name) (ns : List Name) → is_among n (ns ++ (o ∷ [])) ≡ (is_among n ns || is_spelled n o)
among_one_more n o [] = or_false (is_spelled n o)
  where
    or_false : (a : Bool) → (a || false) ≡ a
    or_false true = refl
    or_false false = refl
among_one_more n o (b ∷ ns) = ap (λ a. is_spelled n b || a) (among_one_more n o ns) ∙ sym (grouped (is_spelled n b) (is_among n ns) (is_spelled n o))
  where
    grouped : (a b c : Bool) → ((a || b) || c) ≡ (a || (b || c))
    grouped true b c = refl
    grouped false b c = refl

distinct_one_more : (ns : List Name) (n : Name) → is_distinct ns ≡ true → is_distinct (ns ++ (n ∷ [])) ≡ not (is_among n ns)
distinct_one_more [] n h = refl
distinct_one_more (o ∷ ns) n h = by (is_among o ns) (is_distinct ns) h (among_one_more o n ns ∙ ap (λ a. is_among o ns || a) (spelled_symmetric o n)) (distinct_one_more ns n)
  where
    by : (a b : Bool) → (not a && b) ≡ true → is_among o (ns ++ (n ∷ [])) ≡ (a || is_spelled n o) → (b ≡ true → is_distinct (ns ++ (n ∷ [])) ≡ not (is_among n ns)) → (not (is_among o (ns ++ (n ∷ []))) && is_distinct (ns ++ (n ∷ []))) ≡ not (is_spelled n o || is_among n ns)
    by true b h e d = cc
    by false b h e d = ap (λ a. not a && is_distinct (ns ++ (n ∷ []))) e ∙ ap (λ b. not (is_spelled n o) && b) (d h) ∙ both (is_spelled n o) (is_among n ns)
      where
        both : (a b : Bool) → (not a && not b) ≡ not (a || b)
        both true b = refl
        both false b = refl

-- the names stay distinct
pub still_distinct : (ns : List Name) (n : Name) (r : Result (List Name) Stop) → is_distinct ns ≡ true → is_among n ns ≡ false → Makes (λ names. names) (ns ++ (n ∷ [])) r → IfOk r (λ names. is_distinct names ≡ true)
still_distinct ns n (Ok names) d a is = ap is_distinct is ∙ distinct_one_more ns n d ∙ ap not a
still_distinct ns n (Err error) d a is = tt

formal_is : (form : Form) (ns : List Name) (n : Name) (b a : Bool) → is_distinct ns ≡ true → is_binding form n ≡ b → is_among n ns ≡ a → is_formal form ns n ≡ (b && not a)
formal_is form ns n b a d is among = ap (λ c. c && is_distinct (and_formal ns n)) is ∙ ap (λ c. b && c) (distinct_one_more ns n d ∙ ap not among)

-- ---- one formal

pub no_name : {form : Form} (ns : List Name) (next : To (List Name)) (ts : Symbols) → first_as name_of ts ≡ None → Goes form (with_formal form ns next ts) (stuck ts)
no_name ns next [] h = here
no_name {form = form} ns next (s ∷ ts) h = by s.kind h
  where
    by : (kind : TokenKind) → name_of kind ≡ None → Goes form (with_formal_by form kind ns next s ts) (stuck (s ∷ ts))
    by (k.Name o) h = cc
    by _ h = here

refused_formal : {form : Form} (ns : List Name) (next : To (List Name)) (n : Name) (ts : Symbols) → first_as name_of ts ≡ Some n → is_formal form ns n ≡ false → Goes form (with_formal form ns next ts) (stuck ts)
refused_formal ns next n [] h f = cc
refused_formal {form = form} ns next n (s ∷ ts) h f = by s.kind h
  where
    by : (kind : TokenKind) → name_of kind ≡ Some n → Goes form (with_formal_by form kind ns next s ts) (stuck (s ∷ ts))
    by (k.Name o) h = let same : n ≡ o = cc in
        subst (λ a. Goes form (guard a (s ∷ ts) (next (and_formal ns o) ts)) (stuck (s ∷ ts))) (sym f ∙ ap (is_formal form ns) same) here
    by _ h = cc

pub no_binding : {form : Form} (ns : List Name) (next : To (List Name)) (n : Name) (ts : Symbols) → first_as name_of ts ≡ Some n → is_binding form n ≡ false → Goes form (with_formal form ns next ts) (stuck ts)
no_binding {form = form} ns next n ts h b = refused_formal ns next n ts h (ap (λ a. a && is_distinct (and_formal ns n)) b)

pub repeated : {form : Form} (ns : List Name) (next : To (List Name)) (n : Name) (ts : Symbols) → first_as name_of ts ≡ Some n → is_distinct ns ≡ true → is_binding form n ≡ true → is_among n ns ≡ true → Goes form (with_formal form ns next ts) (stuck ts)
repeated {form = form} ns next n ts h d b a = refused_formal ns next n ts h (formal_is form ns n true true d b a)

pub a_formal : {form : Form} (ns : List Name) (next : To (List Name)) (n : Name) (ts rest : Symbols) → first_as name_of ts ≡ Some n → is_distinct ns ≡ true → is_binding form n ≡ true → is_among n ns ≡ false → rest ≡ behind ts
    → Goes form (with_formal form ns next ts) (next (ns ++ (n ∷ [])) rest)
a_formal ns next n [] rest h d b a e = cc
a_formal {form = form} ns next n (s ∷ ts) rest h d b a e = by s.kind h
  where
    by : (kind : TokenKind) → name_of kind ≡ Some n → Goes form (with_formal_by form kind ns next s ts) (next (ns ++ (n ∷ [])) rest)
    by (k.Name o) h = let same : n ≡ o = cc in
        subst (λ o. Goes form (guard (is_formal form ns o) (s ∷ ts) (next (and_formal ns o) ts)) (next (ns ++ (n ∷ [])) rest)) same
        (allowed (s ∷ ts) (formal_is form ns n true false d b a) (subst (λ r. Goes form (next (and_formal ns n) ts) (next (ns ++ (n ∷ [])) r)) (sym e) here))
    by _ h = cc

-- ---- formals

after_is : (ns : List Name) (n : Name) (next : To (List Name)) (ts : Symbols) → after_formal ns n next ts ≡ more_formals (and_formal ns n) (λ os r. next (n ∷ os) r) ts
after_is ns n next [] = refl
after_is ns n next (s ∷ ts) = by s.kind
  where
    by : (kind : TokenKind) → formal_by kind ns n next s ts ≡ more_formals_by kind (and_formal ns n) (λ os r. next (n ∷ os) r) s ts
    by (k.Mark m.Comma) = refl
    by _ = refl

-- one more, and then others
one_formal : {form : Form} (ns : List Name) (next : To (List Name)) (ts : Symbols)
    → Goes form (rule.formal ns (λ os r. next (ns ++ os) r) ts) (with_formal form ns (λ all r. more_formals all (λ os o. next (all ++ os) o) r) ts)
one_formal ns next [] = then_on here
one_formal {form = form} ns next (s ∷ ts) = stepped (by s.kind) here
  where
    then_is : (n : Name) → after_formal ns n (λ os r. next (ns ++ os) r) ts ≡ more_formals (and_formal ns n) (λ os o. next (and_formal ns n ++ os) o) ts
    then_is n = after_is ns n (λ os r. next (ns ++ os) r) ts ∙ ap (λ f. more_formals (and_formal ns n) f ts) (fun_ext (λ os. ap next (sym (append_assoc ns (n ∷ []) os))))

    by : (kind : TokenKind) → one_formal_by form kind ns (λ os r. next (ns ++ os) r) s ts ≡ with_formal_by form kind ns (λ all r. more_formals all (λ os o. next (all ++ os) o) r) s ts
    by (k.Name n) = ap (guard (is_formal form ns n) (s ∷ ts)) (then_is n)
    by _ = refl

-- the first
pub first_formal : {form : Form} (none : List Name) (next : To (List Name)) (ts : Symbols) → none ≡ []
    → Goes form (some_formals form next ts) (with_formal form none (λ all r. more_formals all (λ os o. next (all ++ os) o) r) ts)
first_formal {form = form} none next ts h = subst (λ ns. Goes form (some_formals form next ts) (with_formal form ns (λ all r. more_formals all (λ os o. next (all ++ os) o) r) ts)) (sym h) here

-- behind a comma
pub one_more_formal : {form : Form} (ns : List Name) (next : To (List Name)) (ts rest : Symbols) → at is_comma ts ≡ true → rest ≡ behind ts
    → Goes form (more_formals ns (λ os o. next (ns ++ os) o) ts) (with_formal form ns (λ all r. more_formals all (λ os o. next (all ++ os) o) r) rest)
one_more_formal ns next [] rest h e = cc
one_more_formal {form = form} ns next (s ∷ ts) rest h e = onwards (subst (λ r. Goes form (more_formals_by s.kind ns (λ os o. next (ns ++ os) o) s ts) (rule.formal ns (λ os o. next (ns ++ os) o) r)) (sym e) (by s.kind h)) (one_formal ns next rest)
  where
    by : (kind : TokenKind) → is_comma kind ≡ true → Goes form (more_formals_by kind ns (λ os o. next (ns ++ os) o) s ts) (rule.formal ns (λ os o. next (ns ++ os) o) ts)
    by (k.Mark m.Comma) h = here
    by _ h = cc

-- behind the last
pub no_more_formals : {form : Form} (ns : List Name) (next : To (List Name)) (ts : Symbols) → at is_comma ts ≡ false → at is_any ts ≡ true
    → Goes form (more_formals ns (λ os o. next (ns ++ os) o) ts) (next ns ts)
no_more_formals ns next [] h a = cc
no_more_formals {form = form} ns next (s ∷ ts) h a = subst (λ os. Goes form (more_formals_by s.kind ns (λ os o. next (ns ++ os) o) s ts) (next os (s ∷ ts))) (append-nil ns) (by s.kind h)
  where
    by : (kind : TokenKind) → is_comma kind ≡ false → Goes form (more_formals_by kind ns (λ os o. next (ns ++ os) o) s ts) (next (ns ++ []) (s ∷ ts))
    by (k.Mark m.Comma) h = cc
    by _ h = here

pub none_behind_formals : {form : Form} (ns : List Name) (next : To (List Name)) (ts : Symbols) → at is_any ts ≡ false → Goes form (more_formals ns next ts) (stuck ts)
none_behind_formals ns next [] h = here
none_behind_formals ns next (s ∷ ts) h = cc

pub at_a_name : {form : Form} (next : To (List Name)) (ts : Symbols) → at is_name ts ≡ true → Goes form (rule.formals [] next ts) (some_formals form next ts)
at_a_name next [] h = cc
at_a_name {form = form} next (s ∷ ts) h = stepped (by s.kind h) here
  where
    by : (kind : TokenKind) → is_name kind ≡ true → formals_by form kind [] next s ts ≡ with_formal_by form kind [] (λ all r. more_formals all (λ os o. next (all ++ os) o) r) s ts
    by (k.Name n) h = ap (guard (is_formal form [] n) (s ∷ ts)) (after_is [] n next ts)
    by _ h = cc

pub no_formals : {form : Form} (none : List Name) (next : To (List Name)) (ts : Symbols) → at is_name ts ≡ false → at is_any ts ≡ true → none ≡ [] → Goes form (rule.formals [] next ts) (next none ts)
no_formals none next [] h a e = cc
no_formals {form = form} none next (s ∷ ts) h a e = stepped (by s.kind h) here
  where
    by : (kind : TokenKind) → is_name kind ≡ false → formals_by form kind [] next s ts ≡ next none (s ∷ ts)
    by (k.Name n) h = cc
    by _ h = ap (λ ns. next ns (s ∷ ts)) (sym e)

pub no_formals_left : {form : Form} (next : To (List Name)) (ts : Symbols) → at is_any ts ≡ false → Goes form (rule.formals [] next ts) (stuck ts)
no_formals_left next [] h = then_on here
no_formals_left next (s ∷ ts) h = cc

-- ---- a function

pub at_a_function : {form : Form} (room : Room) (next : List Name → Stmts → Symbols → State) (ts rest : Symbols) → at is_open_parenthesis ts ≡ true → rest ≡ behind ts
    → Goes form (rule.rest room next ts) (rule.formals [] (λ ns. expect is_close_parenthesis (expect is_open_brace (source room contexts.function (λ body. expect is_close_brace (next ns body))))) rest)
at_a_function {form = form} room next ts rest h e = then_on (subst (λ r. Goes form (expect is_open_parenthesis inside ts) (inside r)) (sym e) (passed is_open_parenthesis true ts refl (sym h) inside))
  where
    inside : Symbols → State
    inside = rule.formals [] (λ ns. expect is_close_parenthesis (expect is_open_brace (source room contexts.function (λ body. expect is_close_brace (next ns body)))))

pub at_no_function : {form : Form} (room : Room) (next : List Name → Stmts → Symbols → State) (ts : Symbols) → at is_open_parenthesis ts ≡ false → Goes form (rule.rest room next ts) (stuck ts)
at_no_function {form = form} room next ts h = then_on (not_passed is_open_parenthesis false ts refl (sym h) _)

-- The place of TooDeep: a statement or a declaration in which the machine finds no room, or too many
-- brackets are open, behind elements that keep the limits.
use Rattle.std.proofs.Common.{◌≡◌, ◌≤◌, ◌<◌, ◌⊎◌, inl, inr, ℕ, Bool, true, false, List, [], ◌∷◌, ◌++◌, length, refl, ap, sym, ◌∙◌, subst, arith}
use Rattle.std.proofs.lemmas.List.{append_assoc, append-nil, map-append, length-map}
use Rattle.std.proofs.Math.Nat.{le-max_left, le-max_right, max-le, le_trans}
use Rattle.js_lexer.specs.declared.mark.Mark.TheVariants as m
use Rattle.js_lexer.specs.declared.word.Word.TheVariants as w
use Rattle.js_lexer.specs.declared.token.Token.{Token}
use Rattle.js_lexer.specs.declared.token.TokenKind.{TokenKind}
use Rattle.js_lexer.specs.declared.token.TokenKind.TheVariants as k
use Rattle.js_tree.specs.Tree.{Script, Stmt, Stmts}
use Rattle.js_tree.specs.Tree
use Rattle.js_parser.specs.declared.form.Form.{Form}
use Rattle.js_parser.specs.declared.form.Limits.{Limits}
use Rattle.js_parser.specs.Symbols.{Symbol, Symbols, symbol, symbols, are_regular, first, end}
use Rattle.js_parser.specs.Contexts.{Context}
use Rattle.js_parser.specs.Contexts as context
use Rattle.js_parser.specs.Grammar.{SourceElement, SourceElements}
use Rattle.js_parser.specs.Grammar as g
use Rattle.js_parser.specs.Accepted.{Derives, IsUnlimited, Accepted, Keeps, IsOverAt, functions_in, most_open, opened}
use Rattle.js_parser.specs.Fault.{Begins, Breaks, IsSpent, Fault, Answer, TooDeep}
use Rattle.js_parser.specs.Fault as fault
use Rattle.js_parser.specs.Laws.{open_behind}
use Rattle.js_parser.specs.Rooms.{Room, of_limits, unbounded}
use Rattle.js_parser.specs.Machine.{State, done, stuck, deep, source, To, is_end, finished, finished_by, script, step, Goes, here, then_on}
use Rattle.js_parser.specs.Elements.{element}
use Rattle.js_parser.proofs.Runs.{onwards, stepped, one_end, runs}
use Rattle.js_parser.proofs.Room.{limited, unlimited}
use Rattle.js_parser.proofs.Room as parts
use Rattle.js_parser.proofs.Counts.{functions-join, source_element}
use Rattle.js_parser.proofs.Counts as counts
use Rattle.js_parser.proofs.NoFault.{and_then, joined}
use Rattle.js_parser.proofs.OneTree.{reads, reads_unbounded}
use Rattle.js_parser.proofs.ReadTrees.{IsDone, never, guarded, known, front, front-join}
use Rattle.js_parser.proofs.ReadKinds.{told-end}
use Rattle.js_parser.proofs.ReadScriptTrees.{sound, tokens-regular}
use Rattle.js_parser.proofs.ReadsLevels.{placed}
use Rattle.js_parser.proofs.ReadsStarts.{may_follow}
use Rattle.js_parser.proofs.FrontsGoOn.{can_go_on}
use Rattle.js_parser.proofs.FrontsOfFronts.{front_of_front}
use Rattle.js_parser.proofs.FrontsScripts.{regular-join, read_begins}
use Rattle.js_parser.proofs.FrontsStuck.{no_script_where_deep}
use Rattle.js_parser.proofs.AcceptedOrFault.{Answered, answered, end-symbol}
use Rattle.js_parser.proofs.EndsInside.{none_behind_the_end}
use Rattle.js_parser.proofs.ElementTrees.{counted}
use Rattle.js_parser.proofs.ElementEnds.{element_closed}
use Rattle.js_parser.proofs.ElementLists.{may_begin, begin-follow, begin-open, and_more, source-step, element_reads, elements-may, source_over, begun_none}
use Rattle.js_parser.specs.Scanned.{Begun}

-- ---- lists in two ways

-- of two fronts of a list, one begins with the other
abbrev pub Sides : {A : Type 0} → List A → List A → List A → List A → Type 0
Sides {A = A} a b c d = ((m : List A) × (a ≡ c ++ m) × (d ≡ m ++ b)) ⊎ ((x : A) × (m : List A) × (c ≡ a ++ (x ∷ m)) × (b ≡ x ∷ (m ++ d)))

pub sides : {A : Type 0} (a b c d : List A) → a ++ b ≡ c ++ d → Sides a b c d
sides [] b [] d e = inl ([], refl, sym e)
sides [] b (x ∷ c) d e = inr (x, c, refl, e)
sides (x ∷ a) b [] d e = inl (x ∷ a, refl, sym e)
sides {A = A} (x ∷ a) b (y ∷ c) d e = let one : x ≡ y = cc in let others : a ++ b ≡ c ++ d = cc in onto one (sides a b c d others)
  where
    onto : x ≡ y → Sides a b c d → Sides (x ∷ a) b (y ∷ c) d
    onto one (inl s) = inl (s.0, ap (λ l. x ∷ l) s.1 ∙ ap (λ z. z ∷ (c ++ s.0)) one, s.2)
    onto one (inr s) = inr (s.0, s.1, ap (λ l. y ∷ l) s.2 ∙ ap (λ z. z ∷ (a ++ (s.0 ∷ s.1))) (sym one), s.3)

-- ---- brackets

pub open-front : (n : ℕ) (u v : Symbols) → most_open n u ≤ most_open n (u ++ v)
open-front n [] v = at v
  where
    at : (v : Symbols) → n ≤ most_open n v
    at [] = omega arith
    at (s ∷ v) = le-max_left n (most_open (opened s.kind n) v)
open-front n (s ∷ u) v = let h = open-front (opened s.kind n) u v in max-le (le-max_left n (most_open (opened s.kind n) (u ++ v))) (le_trans h (le-max_right n (most_open (opened s.kind n) (u ++ v))))

open-join : (most n : ℕ) (u v : Symbols) → most_open n u ≤ most → most_open (open_behind n u) v ≤ most → most_open n (u ++ v) ≤ most
open-join most n [] v h i = i
open-join most n (s ∷ u) v h i =
    max-le (le_trans (le-max_left n (most_open (opened s.kind n) u)) h) (open-join most (opened s.kind n) u v (le_trans (le-max_right n (most_open (opened s.kind n) u)) h) i)

-- ---- runs

-- what comes of a state that is reached on the way to an end
ahead : {form : Form} {s t u : State} → step form u ≡ u → Goes form s t → Goes form s u → Goes form t u
ahead e here d = d
ahead {form = form} {u = u} e (then_on a) here = ahead e a (subst (λ s. Goes form s u) (sym e) here)
ahead e (then_on a) (then_on d) = ahead e a d

-- an element, and nothing behind it
abbrev alone : To Stmt
alone x left = stuck left

-- With some tokens no element begins.
none-begins : (form : Form) (room : Room) (c : Context) (next : To Stmt) (s : Symbol) (ts : Symbols) → may_begin s.kind ≡ false → Goes form (element form room c next (s ∷ ts)) (stuck (s ∷ ts))
none-begins form room c next s ts h = at s.kind h
  where
    at : (kind : TokenKind) → may_begin kind ≡ false → Goes form (element form room c next (record { kind = kind; newline = s.newline; in_decimal = s.in_decimal } ∷ ts)) (stuck (record { kind = kind; newline = s.newline; in_decimal = s.in_decimal } ∷ ts))
    at (k.Mark m.CloseBrace) h = runs form 8 (element form room c next (record { kind = k.Mark m.CloseBrace; newline = s.newline; in_decimal = s.in_decimal } ∷ ts))
    at (k.Mark m.Colon) h = runs form 8 (element form room c next (record { kind = k.Mark m.Colon; newline = s.newline; in_decimal = s.in_decimal } ∷ ts))
    at (k.Word w.Finally) h = runs form 8 (element form room c next (record { kind = k.Word w.Finally; newline = s.newline; in_decimal = s.in_decimal } ∷ ts))
    at k.End h = runs form 8 (element form room c next (record { kind = k.End; newline = s.newline; in_decimal = s.in_decimal } ∷ ts))
    at _ h = cc

-- where the machine goes further, one may begin
begins-one : (form : Form) (room : Room) (c : Context) (s : Symbol) (ts : Symbols) (last : State) → step form last ≡ last → (last ≡ stuck (s ∷ ts) → ⊥) → Goes form (element form room c alone (s ∷ ts)) last → may_begin s.kind ≡ true
begins-one form room c s ts last stays away run = at (may_begin s.kind) refl
  where
    at : (b : Bool) → may_begin s.kind ≡ b → may_begin s.kind ≡ true
    at true e = e
    at false e = absurd (away (one_end stays refl run (none-begins form room c alone s ts e)))

-- ---- the element in which a limit breaks

-- Behind elements that keep the limits begins one that breaks a limit, where a script goes on with
-- these tokens: none that keeps the limits ends among them, and none that begins with them does.
record Bursts (form : Form) (limits : Limits) (before : Symbols) (s : Symbol) (middle : Symbols) (trees : Stmts) : Type 0 where
  begun : Begun form limits before s trees
  few_open : most_open 0 before ≤ limits.brackets
  begins : may_begin s.kind ≡ true
  inside : (u : Symbols) (t : Symbol) (v : Symbols) (x : Stmt) → s ∷ middle ≡ u ++ (t ∷ v) → SourceElement form context.script u t x → may_follow t.kind ≡ true → Keeps limits u (Tree.MoreStmts x Tree.NoStmts) → ⊥
  over : (more : Symbols) (tree : Script) → IsUnlimited form limits.functions ((s ∷ middle) ++ more) tree → Keeps limits ((s ∷ middle) ++ more) tree → ⊥

-- the end, where a run is done
at-end : {form : Form} {tree : Stmts} {n : ℕ} (ss : Stmts) (ts : Symbols) → are_regular ts ≡ true → IsDone form tree n (finished ss ts) → (b : Bool) × (ts ≡ end b ∷ [])
at-end ss [] r h = absurd (never h)
at-end {form = form} {tree = tree} {n = n} ss (s ∷ ts) r h = let a = guarded (is_end s.kind) (s ∷ ts) (finished_by ss ts) h in at ts r a.0 a.1
  where
    at : (ts : Symbols) → are_regular (s ∷ ts) ≡ true → is_end s.kind ≡ true → IsDone form tree n (finished_by ss ts) → (b : Bool) × (s ∷ ts ≡ end b ∷ [])
    at [] r e h = (s.newline, known s [] k.End refl (told-end s.kind e) r)
    at (t ∷ ts) r e h = absurd (never h)

-- an element that is a script of its own
element-alone : {form : Form} {u : Symbols} {next : Symbol} {x : Stmt} → SourceElement form context.script u next x → (b : Bool) → Derives form (u ++ (end b ∷ [])) (Tree.MoreStmts x Tree.NoStmts)
element-alone {form = form} {u = u} {x = x} d b = record {
  elements = u;
  newline = b;
  whole = refl;
  derived = subst (λ v. SourceElements form context.script v (end b) (Tree.MoreStmts x Tree.NoStmts)) (append-nil u) (g.source_and {v = []} (element_closed d b) g.no_source);
}

keeps-alone : {form : Form} {limits : Limits} {u : Symbols} {next : Symbol} {x : Stmt} → SourceElement form context.script u next x → (b : Bool) → Keeps limits u (Tree.MoreStmts x Tree.NoStmts) → Keeps limits (u ++ (end b ∷ [])) (Tree.MoreStmts x Tree.NoStmts)
keeps-alone {limits = limits} {u = u} d b keeps = record {
  not_too_deep = keeps.not_too_deep;
  not_too_nested = keeps.not_too_nested;
  not_too_many_open = open-join limits.brackets 0 u (end b ∷ []) keeps.not_too_many_open (subst (λ n. most_open n (end b ∷ []) ≤ limits.brackets) (sym ((source_element d).closed 0)) (omega arith));
}

-- It breaks a limit.
bursts : {form : Form} {limits : Limits} {before : Symbols} {s : Symbol} {middle : Symbols} {trees : Stmts} → Bursts form limits before s middle trees → (more u v : Symbols) (b : Bool) (x : Stmt) (others : Stmts)
    → functions_in ((before ++ (s ∷ middle)) ++ more) ≤ limits.functions → s ∷ (middle ++ more) ≡ u ++ (v ++ (end b ∷ [])) → SourceElement form context.script u (first v (end b)) x → SourceElements form context.script v (end b) others
    → Keeps limits u (Tree.MoreStmts x Tree.NoStmts) → ⊥
bursts {form = form} {limits = limits} {before = before} {s = s} {middle = middle} h more u v b x others few whole d ds keeps = at (sides u (v ++ (end b ∷ [])) (s ∷ middle) more (sym whole))
  where
    at : Sides u (v ++ (end b ∷ [])) (s ∷ middle) more → ⊥
    at (inl e) =
        let own = s ∷ middle in
        let are : own ++ (e.0 ++ (end b ∷ [])) ≡ u ++ (end b ∷ []) = sym (append_assoc own e.0 (end b ∷ [])) ∙ ap (λ l. l ++ (end b ∷ [])) (sym e.1) in
        let all = functions-join (before ++ own) more in
        let front = functions-join before own in
        let behind = ap functions_in e.2 ∙ functions-join e.0 (v ++ (end b ∷ [])) in
        let one = functions-join own (e.0 ++ (end b ∷ [])) in
        let two = functions-join e.0 (end b ∷ []) in
        h.over (e.0 ++ (end b ∷ [])) (Tree.MoreStmts x Tree.NoStmts)
        (record { derives = subst (λ ts. Derives form ts (Tree.MoreStmts x Tree.NoStmts)) (sym are) (element-alone d b); few_functions = omega (arith, all, front, behind, one, two, few) })
        (subst (λ ts. Keeps limits ts (Tree.MoreStmts x Tree.NoStmts)) (sym are) (keeps-alone d b keeps))
    at (inr e) =
        let follows : first v (end b) ≡ e.0 = sym (front-join v (end b ∷ [])) ∙ ap front e.3 in
        h.inside u e.0 e.1 x e.2 (subst (λ t. SourceElement form context.script u t x) follows d) (ap (λ t. may_follow t.kind) (sym follows) ∙ elements-may ds refl) keeps

-- Where a script goes on with these tokens, a limit breaks first in the element that they begin.
burst-place : {form : Form} {limits : Limits} {before : Symbols} {s : Symbol} {middle : Symbols} {trees : Stmts} → Bursts form limits before s middle trees → (more : Symbols) (tree : Stmts) → are_regular (s ∷ (middle ++ more)) ≡ true
    → functions_in ((before ++ (s ∷ middle)) ++ more) ≤ limits.functions → Goes form (script unbounded ((before ++ (s ∷ middle)) ++ more)) (done tree) → (n : ℕ) → length before ≡ n → IsOverAt form limits ((before ++ (s ∷ middle)) ++ more) n
burst-place {form = form} {limits = limits} {before = before} {s = s} {middle = middle} {trees = trees} h more tree regular few run n stands =
    let over = source_over {room = unbounded} h.begun.derives (unlimited (parts.stmts trees)) finished behind refl (begin-follow s.kind h.begins) in
    let on : Goes form (source unbounded context.script (λ xs o. finished (and_then trees xs) o) behind) (done tree) =
    ahead refl over (subst (λ ts. Goes form (script unbounded ts) (done tree)) (append_assoc before (s ∷ middle) more) run) in
    let a = counted {tree = tree} on refl in
    let r = (sound form tree a.0).sources unbounded context.script (λ xs o. finished (and_then trees xs) o) behind regular a.1 in
    let e = at-end (and_then trees r.value) r.left r.regular r.goes in
    at r.used r.value e.0 (r.whole.are ∙ ap (λ l. r.used ++ l) e.1) (subst (λ t. SourceElements form context.script r.used t r.value) (ap front e.1) r.holds.is) refl
  where
    behind : Symbols
    behind = s ∷ (middle ++ more)

    at : (used : Symbols) (value : Stmts) (b : Bool) → s ∷ (middle ++ more) ≡ used ++ (end b ∷ []) → {next : Symbol} → SourceElements form context.script used next value → next ≡ end b → IsOverAt form limits ((before ++ (s ∷ middle)) ++ more) n
    at used value b whole g.no_source is = let one : s ≡ end b = cc in let none = ap (λ t. may_begin t.kind) one in let some = h.begins in absurd cc
    at used value b whole (g.source_and {next = next} {u = u} {v = v} {s = x} {ss = others} d ds) is =
        let first_is : SourceElement form context.script u (first v (end b)) x = subst (λ t. SourceElement form context.script u (first v t) x) is d in
        let others_are : SourceElements form context.script v (end b) others = subst (λ t. SourceElements form context.script v t others) is ds in
        let parted : s ∷ (middle ++ more) ≡ u ++ (v ++ (end b ∷ [])) = whole ∙ append_assoc u v (end b ∷ []) in
        record {
          before = before;
          element = u;
          after = v;
          newline = b;
          trees = trees;
          tree = x;
          other_trees = others;
          whole = append_assoc before (s ∷ middle) more ∙ ap (λ l. before ++ l) parted;
          stands = stands;
          derives_before = subst (λ t. SourceElements form context.script before t trees) (ap front whole ∙ front-join (u ++ v) (end b ∷ [])) h.begun.derives;
          derives = first_is;
          derives_after = others_are;
          few_functions = few;
          keeps_before = record { not_too_deep = h.begun.not_too_deep; not_too_nested = h.begun.not_too_nested; not_too_many_open = h.few_open };
          breaks = bursts h more u v b x others few parted first_is others_are;
        }

-- ---- the fault

-- a script begins with fewer tokens too
fewer : {form : Form} {functions : ℕ} {u : Symbols} → functions_in u ≤ functions → Begins form (functions_in u) u → Begins form functions u
fewer {u = u} few b = let all = b.unlimited.few_functions in let parts = functions-join u b.more in record { more = b.more; tree = b.tree; unlimited = record { derives = b.unlimited.derives; few_functions = omega (arith, few, all, parts) } }

-- A limit breaks in the element that begins at this token, as far as `middle`.
fault_at : (form : Form) (limits : Limits) (tokens before middle rest : List Token) (token : Token) (trees : Stmts) → tokens ≡ before ++ (token ∷ (middle ++ rest)) → Answered form limits tokens → Bursts form limits (symbols before) (symbol token) (symbols middle) trees
    → IsSpent form limits (symbols before ++ symbols (token ∷ middle)) → functions_in (symbols before ++ symbols (token ∷ middle)) ≤ limits.functions
    → (more : Symbols) × (tree : Stmts) × (functions_in more ≡ 0) × (are_regular more ≡ true) × Goes form (script unbounded ((symbols before ++ symbols (token ∷ middle)) ++ more)) (done tree)
    → Fault form limits tokens (TooDeep token.place)
fault_at form limits tokens before middle rest token trees whole told h spent few goes = by told
  where
    used : List Token
    used = before ++ (token ∷ middle)

    are : tokens ≡ used ++ rest
    are = whole ∙ sym (append_assoc before (token ∷ middle) rest)

    symbols-are : symbols used ≡ symbols before ++ symbols (token ∷ middle)
    symbols-are = map-append symbol before (token ∷ middle)

    all-are : symbols tokens ≡ (symbols before ++ symbols (token ∷ middle)) ++ symbols rest
    all-are = ap symbols are ∙ map-append symbol used rest ∙ ap (λ l. l ++ symbols rest) symbols-are

    is-spent : IsSpent form limits (symbols used)
    is-spent = subst (λ l. IsSpent form limits l) (sym symbols-are) spent

    few-used : functions_in (symbols used) ≤ limits.functions
    few-used = subst (λ l. functions_in l ≤ limits.functions) (sym symbols-are) few

    -- the place in a script that begins with what is spent
    begun-place : IsOverAt form limits (symbols used ++ goes.0) (length before)
    begun-place =
        let none = goes.2 in let parts = functions-join (symbols before ++ symbols (token ∷ middle)) goes.0 in
        subst (λ l. IsOverAt form limits (l ++ goes.0) (length before)) (sym symbols-are)
        (burst-place h goes.0 goes.1 (regular-join (symbols (token ∷ middle)) goes.0 (tokens-regular (token ∷ middle)) goes.3) (omega (arith, few, none, parts)) goes.4 (length before) (length-map before symbol))

    -- no token of what is spent breaks
    at-breaking : (front : List Token) (breaker : Token) → Breaks form limits.functions tokens front breaker → Fault form limits tokens (TooDeep token.place)
    at-breaking front breaker b = at (sides front (breaker ∷ b.rest) used rest (sym b.whole ∙ are))
      where
        at : Sides front (breaker ∷ b.rest) used rest → Fault form limits tokens (TooDeep token.place)
        at (inl e) = fault.spent front used e.0 before middle breaker token goes.0 b e.1 is-spent refl begun-place
        at (inr e) =
            let same : breaker ≡ e.0 = cc in
            let longer : used ≡ (front ++ (breaker ∷ [])) ++ e.1 = e.2 ∙ ap (λ x. front ++ (x ∷ e.1)) (sym same) ∙ sym (append_assoc front (breaker ∷ []) e.1) in
            let parts : symbols used ≡ symbols (front ++ (breaker ∷ [])) ++ symbols e.1 = ap symbols longer ∙ map-append symbol (front ++ (breaker ∷ [])) e.1 in
            let counts = ap functions_in parts ∙ functions-join (symbols (front ++ (breaker ∷ []))) (symbols e.1) in
            absurd (b.ends (fewer (omega (arith, counts, few-used)) (front_of_front form limits.functions (symbols (front ++ (breaker ∷ []))) (symbols e.1) (tokens-regular (front ++ (breaker ∷ []))) (subst (λ l. Begins form limits.functions l) parts is-spent.begins))))

    -- the tokens are a script without limits
    at-script : {n : ℕ} → IsOverAt form limits (symbols tokens) n → Fault form limits tokens (TooDeep token.place)
    at-script o =
        let d : Derives form (symbols tokens) (and_then o.trees (Tree.MoreStmts o.tree o.other_trees)) = record {
          elements = o.before ++ (o.element ++ o.after);
          newline = o.newline;
          whole = o.whole ∙ sym (append_assoc o.before (o.element ++ o.after) (end o.newline ∷ []) ∙ ap (λ t. o.before ++ t) (append_assoc o.element o.after (end o.newline ∷ [])));
          derived = joined (o.element ++ o.after) (end o.newline) o.derives_before refl (g.source_and o.derives o.derives_after);
        } in
        let tree : Stmts = and_then o.trees (Tree.MoreStmts o.tree o.other_trees) in
        let run = subst (λ ts. Goes form (script unbounded ts) (done tree)) all-are (reads_unbounded form (symbols tokens) tree d) in
        let regular = regular-join (symbols (token ∷ middle)) (symbols rest) (tokens-regular (token ∷ middle)) (tokens-regular rest) in
        fault.over before (middle ++ rest) token whole (subst (λ l. IsOverAt form limits l (length before)) (sym all-are)
        (burst-place h (symbols rest) tree regular (subst (λ l. functions_in l ≤ limits.functions) all-are o.few_functions) run (length before) (length-map before symbol)))

    of : {told : Answer} → Fault form limits tokens told → Fault form limits tokens (TooDeep token.place)
    of (fault.breaking front breaker b e) = at-breaking front breaker b
    of (fault.over others behind other e o) = at-script o
    of (fault.spent front spent_front between others behind breaker other more b e s f o) = at-breaking front breaker b

    by : Answered form limits tokens → Fault form limits tokens (TooDeep token.place)
    by (inl a) =
        let accepted = subst (λ l. Accepted form limits l a.0) all-are a.1 in absurd (spent.over (symbols rest) a.0 accepted.unlimited accepted.keeps)
    by (inr t) = of t.1

-- ---- where the machine has read what is spent

-- a run on the element and what stands behind it, by which none that keeps the limits ends inside
none-inside : (form : Form) (limits : Limits) (own rest : Symbols) (last : State) → step form last ≡ last → ((t : Symbol) (v : Symbols) → last ≡ stuck (t ∷ (v ++ rest)) → ⊥) → Goes form (element form (of_limits limits) context.script alone (own ++ rest)) last
    → (u : Symbols) (t : Symbol) (v : Symbols) (x : Stmt) → own ≡ u ++ (t ∷ v) → SourceElement form context.script u t x → may_follow t.kind ≡ true → Keeps limits u (Tree.MoreStmts x Tree.NoStmts) → ⊥
none-inside form limits own rest last stays away run u t v x e d may keeps =
    away t v (one_end stays refl run (placed (element form (of_limits limits) context.script alone) (ap (λ l. l ++ rest) e ∙ append_assoc u (t ∷ v) rest)
    (element_reads d (parts.one (limited limits (Tree.MoreStmts x Tree.NoStmts) keeps.not_too_deep keeps.not_too_nested)) alone (t ∷ (v ++ rest)) refl may)))

-- the run of the script to the same place
whole-run : {form : Form} {limits : Limits} {before : Symbols} {trees : Stmts} (s : Symbol) (middle rest : Symbols) (last : State) → Begun form limits before s trees → may_begin s.kind ≡ true
    → ((next : To Stmt) → Goes form (element form (of_limits limits) context.script next ((s ∷ middle) ++ rest)) last) → Goes form (script (of_limits limits) ((before ++ (s ∷ middle)) ++ rest)) last
whole-run {form = form} {limits = limits} {before = before} {trees = trees} s middle rest last h begins goes =
    placed (script (of_limits limits)) (append_assoc before (s ∷ middle) rest)
    (onwards (source_over h.derives (limited limits trees h.not_too_deep h.not_too_nested) finished (s ∷ (middle ++ rest)) refl (begin-follow s.kind begins))
    (own-run (λ xs o. finished (and_then trees xs) o)))
  where
    own-run : (to : To Stmts) → Goes form (source (of_limits limits) context.script to (s ∷ (middle ++ rest))) last
    own-run to = stepped (source-step form (of_limits limits) context.script to s (middle ++ rest) (begin-open s.kind begins)) (goes (and_more form (of_limits limits) context.script to))

-- Where the machine has no room in an element that begins at this token, the limit breaks there.
pub deep_place : (form : Form) (limits : Limits) (tokens all before middle rest cut : List Token) (token last : Token) (trees : Stmts) → tokens ≡ before ++ (token ∷ (middle ++ rest)) → tokens ≡ all ++ (last ∷ []) → last.kind ≡ k.End
    → Begun form limits (symbols before) (symbol token) trees → most_open 0 (symbols before) ≤ limits.brackets → functions_in (symbols (before ++ (token ∷ middle))) ≤ limits.functions
    → ((next : To Stmt) → Goes form (element form (of_limits limits) context.script next (symbols (token ∷ (middle ++ cut)))) (deep (symbols cut))) → Fault form limits tokens (TooDeep token.place)
deep_place form limits tokens all before middle rest cut token last trees whole closed is begun few_open few goes =
    fault_at form limits tokens before middle rest token trees whole
    (subst (λ ts. Answered form limits ts) (sym closed) (answered form limits all last is))
    (record {
      begun = begun;
      few_open = few_open;
      begins = begins;
      inside = none-inside form limits own (symbols cut) (deep (symbols cut)) refl (λ t v e. cc) (reads-own alone);
      over = λ more tree unlimited keeps. no_script_where_deep form (of_limits limits) own (symbols cut) own-run more tree (reads form (own ++ more) tree unlimited.derives limits keeps.not_too_deep keeps.not_too_nested);
    })
    (record {
      begins = read_begins form (of_limits limits) limits.functions (symbols before ++ own) (symbols cut) (deep (symbols cut)) regular few-symbols run (inr refl);
      over = λ more tree unlimited keeps. no_script_where_deep form (of_limits limits) (symbols before ++ own) (symbols cut) run more tree (reads form ((symbols before ++ own) ++ more) tree unlimited.derives limits keeps.not_too_deep keeps.not_too_nested);
    })
    few-symbols
    (can_go_on form (of_limits limits) (symbols before ++ own) (symbols cut) (deep (symbols cut)) run (inr refl))
  where
    own : Symbols
    own = symbols (token ∷ middle)

    reads-own : (next : To Stmt) → Goes form (element form (of_limits limits) context.script next (own ++ symbols cut)) (deep (symbols cut))
    reads-own next = subst (λ ts. Goes form (element form (of_limits limits) context.script next ts) (deep (symbols cut))) (map-append symbol (token ∷ middle) cut) (goes next)

    begins : may_begin token.kind ≡ true
    begins = begins-one form (of_limits limits) context.script (symbol token) (symbols middle ++ symbols cut) (deep (symbols cut)) refl (λ e. cc) (reads-own alone)

    run : Goes form (script (of_limits limits) ((symbols before ++ own) ++ symbols cut)) (deep (symbols cut))
    run = whole-run (symbol token) (symbols middle) (symbols cut) (deep (symbols cut)) begun begins reads-own

    own-run : Goes form (script (of_limits limits) (own ++ symbols cut)) (deep (symbols cut))
    own-run = whole-run {before = []} (symbol token) (symbols middle) (symbols cut) (deep (symbols cut)) (begun_none form limits (symbol token)) begins reads-own

    few-symbols : functions_in (symbols before ++ own) ≤ limits.functions
    few-symbols = subst (λ l. functions_in l ≤ limits.functions) (map-append symbol before (token ∷ middle)) few

    regular : are_regular (symbols before ++ own) ≡ true
    regular = regular-join (symbols before) own (tokens-regular before) (tokens-regular (token ∷ middle))

-- Where too many brackets are open in an element that begins at this token, of which the machine
-- reads them all, the limit breaks there.
pub brackets_place : (form : Form) (limits : Limits) (tokens all before middle rest : List Token) (token last : Token) (trees : Stmts) → tokens ≡ before ++ (token ∷ (middle ++ rest)) → tokens ≡ all ++ (last ∷ []) → last.kind ≡ k.End
    → Begun form limits (symbols before) (symbol token) trees → most_open 0 (symbols before) ≤ limits.brackets → functions_in (symbols (before ++ (token ∷ middle))) ≤ limits.functions → limits.brackets < most_open 0 (symbols (before ++ (token ∷ middle)))
    → ((next : To Stmt) → Goes form (element form (of_limits limits) context.script next (symbols (token ∷ middle))) (stuck [])) → Fault form limits tokens (TooDeep token.place)
brackets_place form limits tokens all before middle rest token last trees whole closed is begun few_open few many goes =
    fault_at form limits tokens before middle rest token trees whole
    (subst (λ ts. Answered form limits ts) (sym closed) (answered form limits all last is))
    (record {
      begun = begun;
      few_open = few_open;
      begins = begins;
      inside = none-inside form limits own [] (stuck []) refl (λ t v e. cc) (reads-own alone);
      over = λ more tree unlimited keeps. own-many (le_trans (open-front 0 own more) keeps.not_too_many_open);
    })
    (record {
      begins = read_begins form (of_limits limits) limits.functions (symbols before ++ own) [] (stuck []) regular few-symbols run (inl refl);
      over = λ more tree unlimited keeps. all-many (le_trans (open-front 0 (symbols before ++ own) more) keeps.not_too_many_open);
    })
    few-symbols
    (can_go_on form (of_limits limits) (symbols before ++ own) [] (stuck []) run (inl refl))
  where
    own : Symbols
    own = symbols (token ∷ middle)

    reads-own : (next : To Stmt) → Goes form (element form (of_limits limits) context.script next (own ++ [])) (stuck [])
    reads-own next = subst (λ ts. Goes form (element form (of_limits limits) context.script next ts) (stuck [])) (sym (append-nil own)) (goes next)

    begins : may_begin token.kind ≡ true
    begins = begins-one form (of_limits limits) context.script (symbol token) (symbols middle ++ []) (stuck []) refl (λ e. cc) (reads-own alone)

    run : Goes form (script (of_limits limits) ((symbols before ++ own) ++ [])) (stuck [])
    run = whole-run (symbol token) (symbols middle) [] (stuck []) begun begins reads-own

    few-symbols : functions_in (symbols before ++ own) ≤ limits.functions
    few-symbols = subst (λ l. functions_in l ≤ limits.functions) (map-append symbol before (token ∷ middle)) few

    regular : are_regular (symbols before ++ own) ≡ true
    regular = regular-join (symbols before) own (tokens-regular before) (tokens-regular (token ∷ middle))

    all-many : most_open 0 (symbols before ++ own) ≤ limits.brackets → ⊥
    all-many h = let over = subst (λ l. limits.brackets < most_open 0 l) (map-append symbol before (token ∷ middle)) many in absurd (omega (arith, h, over))

    -- those before close the brackets that they open
    own-many : most_open 0 own ≤ limits.brackets → ⊥
    own-many h = all-many (open-join limits.brackets 0 (symbols before) own few_open (subst (λ n. most_open n own ≤ limits.brackets) (sym ((counts.source begun.derives).closed 0)) h))

-- what ends with a token, behind another
pub last-of : (before : List Token) (token : Token) (middle all : List Token) (last : Token) → before ++ (token ∷ middle) ≡ all ++ (last ∷ []) → (own : List Token) × (token ∷ middle ≡ own ++ (last ∷ []))
last-of [] token middle all last e = (all, e)
last-of (b ∷ before) token middle [] last e = let f : before ++ (token ∷ middle) ≡ [] = cc in absurd (none before f)
  where
    none : (before : List Token) → before ++ (token ∷ middle) ≡ [] → ⊥
    none [] f = cc
    none (b ∷ before) f = cc
last-of (b ∷ before) token middle (a ∷ all) last e = let f : before ++ (token ∷ middle) ≡ all ++ (last ∷ []) = cc in last-of before token middle all last f

-- a script that the end closes, of which the machine within the limits wants more, is none within them
wants-none : (form : Form) (limits : Limits) (own : List Token) (last : Token) → last.kind ≡ k.End → Goes form (script (of_limits limits) (symbols (own ++ (last ∷ [])))) (stuck [])
    → (more : Symbols) (tree : Script) → IsUnlimited form limits.functions (symbols (own ++ (last ∷ [])) ++ more) tree → Keeps limits (symbols (own ++ (last ∷ [])) ++ more) tree → ⊥
wants-none form limits own last is run [] tree unlimited keeps =
    let d = subst (λ ts. Derives form ts tree) (append-nil (symbols (own ++ (last ∷ [])))) unlimited.derives in
    let e = one_end {form = form} {t = stuck []} {o = done tree} refl refl run (reads form (symbols (own ++ (last ∷ []))) tree d limits keeps.not_too_deep keeps.not_too_nested) in cc
wants-none form limits own last is run (t ∷ ts) tree unlimited keeps =
    none_behind_the_end form (symbols own) last.newline t ts tree
    (subst (λ l. Derives form (l ++ (t ∷ ts)) tree) (map-append symbol own (last ∷ []) ∙ ap (λ s. symbols own ++ (s ∷ [])) (end-symbol last is)) unlimited.derives)

-- Where the machine wants more behind the end, a limit breaks in the element that it reads.
pub used_up_place : (form : Form) (limits : Limits) (tokens all before middle : List Token) (token last : Token) (trees : Stmts) → tokens ≡ before ++ (token ∷ middle) → tokens ≡ all ++ (last ∷ []) → last.kind ≡ k.End
    → Begun form limits (symbols before) (symbol token) trees → most_open 0 (symbols before) ≤ limits.brackets → functions_in (symbols tokens) ≤ limits.functions
    → ((next : To Stmt) → Goes form (element form (of_limits limits) context.script next (symbols (token ∷ middle))) (stuck [])) → Fault form limits tokens (TooDeep token.place)
used_up_place form limits tokens all before middle token last trees whole closed is begun few_open few goes =
    fault_at form limits tokens before middle [] token trees (whole ∙ ap (λ l. before ++ (token ∷ l)) (sym (append-nil middle)))
    (subst (λ ts. Answered form limits ts) (sym closed) (answered form limits all last is))
    (record {
      begun = begun;
      few_open = few_open;
      begins = begins;
      inside = none-inside form limits own [] (stuck []) refl (λ t v e. cc) (reads-own alone);
      over = λ more tree unlimited keeps. wants-none form limits ends.0 last is own-run more tree (subst (λ l. IsUnlimited form limits.functions (symbols l ++ more) tree) ends.1 unlimited) (subst (λ l. Keeps limits (symbols l ++ more) tree) ends.1 keeps);
    })
    (record {
      begins = read_begins form (of_limits limits) limits.functions (symbols before ++ own) [] (stuck []) regular few-symbols run (inl refl);
      over = λ more tree unlimited keeps. wants-none form limits all last is whole-run-closed more tree (subst (λ l. IsUnlimited form limits.functions (l ++ more) tree) are unlimited) (subst (λ l. Keeps limits (l ++ more) tree) are keeps);
    })
    few-symbols
    (can_go_on form (of_limits limits) (symbols before ++ own) [] (stuck []) run (inl refl))
  where
    own : Symbols
    own = symbols (token ∷ middle)

    ends : (own : List Token) × (token ∷ middle ≡ own ++ (last ∷ []))
    ends = last-of before token middle all last (sym whole ∙ closed)

    are : symbols before ++ own ≡ symbols (all ++ (last ∷ []))
    are = sym (map-append symbol before (token ∷ middle)) ∙ ap symbols (sym whole ∙ closed)

    reads-own : (next : To Stmt) → Goes form (element form (of_limits limits) context.script next (own ++ [])) (stuck [])
    reads-own next = subst (λ ts. Goes form (element form (of_limits limits) context.script next ts) (stuck [])) (sym (append-nil own)) (goes next)

    begins : may_begin token.kind ≡ true
    begins = begins-one form (of_limits limits) context.script (symbol token) (symbols middle ++ []) (stuck []) refl (λ e. cc) (reads-own alone)

    run : Goes form (script (of_limits limits) ((symbols before ++ own) ++ [])) (stuck [])
    run = whole-run (symbol token) (symbols middle) [] (stuck []) begun begins reads-own

    own-run : Goes form (script (of_limits limits) (symbols (ends.0 ++ (last ∷ [])))) (stuck [])
    own-run = subst (λ l. Goes form (script (of_limits limits) l) (stuck [])) (append-nil own ∙ ap symbols ends.1)
        (whole-run {before = []} (symbol token) (symbols middle) [] (stuck []) (begun_none form limits (symbol token)) begins reads-own)

    whole-run-closed : Goes form (script (of_limits limits) (symbols (all ++ (last ∷ [])))) (stuck [])
    whole-run-closed = subst (λ l. Goes form (script (of_limits limits) l) (stuck [])) (append-nil (symbols before ++ own) ∙ are) run

    few-symbols : functions_in (symbols before ++ own) ≤ limits.functions
    few-symbols = subst (λ l. functions_in l ≤ limits.functions) (ap symbols whole ∙ map-append symbol before (token ∷ middle)) few

    regular : are_regular (symbols before ++ own) ≡ true
    regular = regular-join (symbols before) own (tokens-regular before) (tokens-regular (token ∷ middle))

-- The machine takes a token before it finds no room.
pub deep_behind_a_token : (form : Form) (limits : Limits) (own : Symbols) → ((next : To Stmt) → Goes form (element form (of_limits limits) context.script next own) (deep own)) → ⊥
deep_behind_a_token form limits [] goes = let e = one_end {form = form} {t = stuck []} {o = deep []} refl refl here (goes alone) in absurd cc
deep_behind_a_token form limits (s ∷ middle) goes =
    let begins = begins-one form (of_limits limits) context.script s middle (deep (s ∷ middle)) refl (λ e. cc) (goes alone) in
    let run = whole-run {before = []} s middle [] (deep (s ∷ middle)) (begun_none form limits s) begins (λ next. subst (λ ts. Goes form (element form (of_limits limits) context.script next ts) (deep (s ∷ middle))) (sym (append-nil (s ∷ middle))) (goes next)) in
    no_script_where_deep form (of_limits limits) [] (s ∷ middle) (subst (λ ts. Goes form (script (of_limits limits) ts) (deep (s ∷ middle))) (append-nil (s ∷ middle)) run)
    (end false ∷ []) Tree.NoStmts (runs form 3 (script (of_limits limits) (end false ∷ [])))

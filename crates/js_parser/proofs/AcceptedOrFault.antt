-- A list of tokens that ends with the end is an accepted script, or something may be told of it.
use Rattle.std.proofs.Common.{◌≡◌, ◌≢◌, ◌≤◌, ◌<◌, ◌⊎◌, inl, inr, ℕ, ◌-◌, nat_le, ◌&&◌, Bool, true, false, List, [], ◌∷◌, ◌++◌, length, refl, ap, sym, ◌∙◌, subst, arith}
use Rattle.std.proofs.lemmas.List.{append_assoc, append-nil, map-append, length-map}
use Rattle.std.proofs.lemmas.Bool.{leb-true, leb-false}
use Rattle.js_lexer.specs.declared.token.Token.{Token}
use Rattle.js_lexer.specs.declared.token.TokenKind.TheVariants as k
use Rattle.js_lexer.specs.declared.word.Word.TheVariants as w
use Rattle.js_tree.specs.Tree.{Script}
use Rattle.js_parser.specs.declared.form.Form.{Form}
use Rattle.js_parser.specs.declared.form.Limits.{Limits}
use Rattle.js_parser.specs.Symbols.{Symbol, Symbols, symbol, symbols, end, first, is_in_decimal, is_regular, are_regular}
use Rattle.js_tree.specs.Depth.{depth, nesting}
use Rattle.js_parser.specs.Contexts as context
use Rattle.js_parser.specs.Accepted.{Derives, IsUnlimited, Accepted, Keeps, IsOverAt, functions_in, most_open, counted}
use Rattle.js_parser.specs.Fault.{Begins, Breaks, Fault, Answer, answer}
use Rattle.js_parser.specs.Fault as fault
use Rattle.js_parser.specs.Rooms.{unbounded}
use Rattle.js_parser.specs.Machine.{State, stuck, deep, Goes, script}
use Rattle.js_parser.proofs.Levels.{element-any}
use Rattle.js_parser.proofs.Counts.{functions-join}
use Rattle.js_parser.proofs.BrokenLimits.{somewhere}
use Rattle.js_parser.proofs.ReadScriptTrees.{script-read, tokens-regular}
use Rattle.js_parser.proofs.RunsEnd.{Last, with_tree, stuck_at, deep_at, Ends}
use Rattle.js_parser.proofs.RunsEndStatements.{script_ends}
use Rattle.js_parser.proofs.EndsInside.{not_stuck_behind_the_end}
use Rattle.js_parser.proofs.FrontsGoOn.{goes_on_where_deep}
use Rattle.js_parser.proofs.FrontsStuck.{no_script_where_deep}
use Rattle.js_parser.proofs.FrontsOfFronts.{front_of_front, first_over}
use Rattle.js_parser.proofs.FrontsScripts.{read_begins, stuck_begins_none}

-- something may be told of the tokens
abbrev pub Told : Form → Limits → List Token → Type 0
Told form limits tokens = (told : Answer) × Fault form limits tokens told

-- ---- tokens and their symbols

-- tokens whose symbols are in two parts
pub record Parts (tokens : List Token) (u v : Symbols) : Type 0 where
  pub before : List Token
  pub behind : List Token
  pub whole : tokens ≡ before ++ behind
  pub are_before : symbols before ≡ u
  pub are_behind : symbols behind ≡ v

pub parts : (tokens : List Token) (u v : Symbols) → symbols tokens ≡ u ++ v → Parts tokens u v
parts tokens [] v e = record { before = []; behind = tokens; whole = refl; are_before = refl; are_behind = e }
parts [] (s ∷ u) v e = cc
parts (t ∷ tokens) (s ∷ u) v e =
    let first : symbol t ≡ s = cc in let others : symbols tokens ≡ u ++ v = cc in let p = parts tokens u v others in
    record { before = t ∷ p.before; behind = p.behind; whole = ap (λ ts. t ∷ ts) p.whole; are_before = ap (λ x. x ∷ symbols p.before) first ∙ ap (λ ss. s ∷ ss) p.are_before; are_behind = p.are_behind }

-- the first of the tokens behind, where there is one
pub record At (tokens : List Token) (u : Symbols) (s : Symbol) (v : Symbols) : Type 0 where
  pub before : List Token
  pub token : Token
  pub rest : List Token
  pub whole : tokens ≡ before ++ (token ∷ rest)
  pub are_before : symbols before ≡ u
  pub is : symbol token ≡ s

pub at : (tokens : List Token) (u : Symbols) (s : Symbol) (v : Symbols) → symbols tokens ≡ u ++ (s ∷ v) → At tokens u s v
at tokens u s v e = by (parts tokens u (s ∷ v) e)
  where
    of : (before behind : List Token) → tokens ≡ before ++ behind → symbols before ≡ u → symbols behind ≡ s ∷ v → At tokens u s v
    of before [] whole are_before h = cc
    of before (t ∷ rest) whole are_before h = let first : symbol t ≡ s = cc in record { before = before; token = t; rest = rest; whole = whole; are_before = are_before; is = first }

    by : Parts tokens u (s ∷ v) → At tokens u s v
    by p = of p.before p.behind p.whole p.are_before p.are_behind

pub end-symbol : (t : Token) → t.kind ≡ k.End → symbol t ≡ end t.newline
end-symbol t h = ap (λ kind. record { kind = kind; newline = t.newline; in_decimal = is_in_decimal kind (t.end - t.start) }) h

-- ---- what is told at a breaking token

told_at : (form : Form) (limits : Limits) (tokens used : List Token) (token : Token) → Breaks form limits.functions tokens used token → Told form limits tokens
told_at form limits tokens used token b = (answer limits.functions (symbols used) token, fault.breaking used token b refl)

-- one function too many: with its word no script begins
pub function_over : (form : Form) (functions : ℕ) (used : Symbols) (f : Symbol) → f.kind ≡ k.Word w.Function → functions_in used ≡ functions → Begins form functions (used ++ (f ∷ [])) → ⊥
function_over form functions used f is count b =
    let few = b.unlimited.few_functions in
    let all = functions-join (used ++ (f ∷ [])) b.more in
    let front = functions-join used (f ∷ []) in
    let one : functions_in (f ∷ []) ≡ 1 = ap (λ kind. counted kind 0) is in
    absurd (omega (arith, few, all, front, one, count))

told_at_function : (form : Form) (limits : Limits) (tokens : List Token) (n : ℕ) (front : Symbols) (f : Symbol) (rest : Symbols) → symbols tokens ≡ front ++ (f ∷ rest) → f.kind ≡ k.Word w.Function → functions_in front ≡ limits.functions
    → are_regular front ≡ true → Begins form n (front ++ (f ∷ rest)) ⊎ Begins form limits.functions front → Told form limits tokens
told_at_function form limits tokens n front f rest e is count regular begun =
    let a = at tokens front f rest e in
    told_at form limits tokens a.before a.token (record {
      rest = a.rest;
      whole = a.whole;
      begins = subst (λ u. Begins form limits.functions u) (sym a.are_before) (begins begun);
      ends = λ b. function_over form limits.functions front f is count
          (subst (λ u. Begins form limits.functions u) (map-append symbol a.before (a.token ∷ []) ∙ ap (λ u. u ++ symbols (a.token ∷ [])) a.are_before ∙ ap (λ s. front ++ (s ∷ [])) a.is) b);
    })
  where
    begins : Begins form n (front ++ (f ∷ rest)) ⊎ Begins form limits.functions front → Begins form limits.functions front
    begins (inl b) = subst (λ m. Begins form m front) count (front_of_front form n front (f ∷ rest) regular b)
    begins (inr b) = b

both : (a c d : Bool) → (a && c) ≡ true → (c ≡ true → d ≡ true) → (a && d) ≡ true
both true c d h f = f h
both false c d h f = h

regular-front : (u v : Symbols) → are_regular (u ++ v) ≡ true → are_regular u ≡ true
regular-front [] v h = refl
regular-front (s ∷ u) v h = both (is_regular s.kind s.in_decimal) (are_regular (u ++ v)) (are_regular u) h (λ i. regular-front u v i)

-- too many functions in what begins a script
told_of_many : (form : Form) (limits : Limits) (tokens : List Token) (used rest : Symbols) → symbols tokens ≡ used ++ rest → are_regular used ≡ true → limits.functions < functions_in used → (n : ℕ) → Begins form n used → Told form limits tokens
told_of_many form limits tokens used rest e regular many n b =
    let f = first_over limits.functions used many in
    told_at_function form limits tokens n f.0 f.1 (f.2 ++ rest) (e ∙ ap (λ u. u ++ rest) f.3 ∙ append_assoc f.0 (f.1 ∷ f.2) rest) f.4 f.5
    (regular-front f.0 (f.1 ∷ f.2) (subst (λ u. are_regular u ≡ true) f.3 regular))
    (inr (subst (λ m. Begins form m f.0) f.5 (front_of_front form n f.0 (f.1 ∷ f.2) (regular-front f.0 (f.1 ∷ f.2) (subst (λ u. are_regular u ≡ true) f.3 regular)) (subst (λ u. Begins form n u) f.3 b))))

-- ---- a script that is accepted without limits, but for the functions

abbrev pub Answered : Form → Limits → List Token → Type 0
Answered form limits tokens = ((tree : Script) × Accepted form limits (symbols tokens) tree) ⊎ Told form limits tokens

-- a limit breaks in one of its statements
told_over : (form : Form) (limits : Limits) (tokens : List Token) (n : ℕ) → IsOverAt form limits (symbols tokens) n → Told form limits tokens
told_over form limits tokens n o = by o.element o.whole (element-any form context.script o.element (first o.after (end o.newline)) o.tree o.derives)
  where
    by : (element : Symbols) → symbols tokens ≡ o.before ++ (element ++ (o.after ++ (end o.newline ∷ []))) → element ≢ [] → Told form limits tokens
    by [] e some = absurd (some refl)
    by (s ∷ element) e some =
        let a = at tokens o.before s (element ++ (o.after ++ (end o.newline ∷ []))) e in
        let same : n ≡ length a.before = sym o.stands ∙ ap length (sym a.are_before) ∙ length-map a.before symbol in
        (fault.TooDeep a.token.place, fault.over a.before a.rest a.token a.whole (subst (λ m. IsOverAt form limits (symbols tokens) m) same o))

keeps-if : (limits : Limits) (tokens : Symbols) (tree : Script) → Keeps limits tokens tree ⊎ (Keeps limits tokens tree → ⊥)
keeps-if limits tokens tree = by (nat_le (depth tree) limits.depth) (nat_le (nesting tree) limits.nesting) (nat_le (most_open 0 tokens) limits.brackets) refl refl refl
  where
    by : (a c d : Bool) → nat_le (depth tree) limits.depth ≡ a → nat_le (nesting tree) limits.nesting ≡ c → nat_le (most_open 0 tokens) limits.brackets ≡ d → Keeps limits tokens tree ⊎ (Keeps limits tokens tree → ⊥)
    by true true true e f h = inl (record {
      not_too_deep = leb-true (depth tree) limits.depth e;
      not_too_nested = leb-true (nesting tree) limits.nesting f;
      not_too_many_open = leb-true (most_open 0 tokens) limits.brackets h;
    })
    by false c d e f h = inr (λ keeps. let over = leb-false (depth tree) limits.depth e in let under = keeps.not_too_deep in absurd (omega (arith, over, under)))
    by true false d e f h = inr (λ keeps. let over = leb-false (nesting tree) limits.nesting f in let under = keeps.not_too_nested in absurd (omega (arith, over, under)))
    by true true false e f h = inr (λ keeps. let over = leb-false (most_open 0 tokens) limits.brackets h in let under = keeps.not_too_many_open in absurd (omega (arith, over, under)))

few-if : (functions n : ℕ) → (n ≤ functions) ⊎ (functions < n)
few-if functions n = by (nat_le n functions) refl
  where
    by : (a : Bool) → nat_le n functions ≡ a → (n ≤ functions) ⊎ (functions < n)
    by true e = inl (leb-true n functions e)
    by false e = inr (leb-false n functions e)

answered-done : (form : Form) (limits : Limits) (tokens : List Token) (tree : Script) → Derives form (symbols tokens) tree → Answered form limits tokens
answered-done form limits tokens tree d = by (few-if limits.functions (functions_in (symbols tokens)))
  where
    kept : IsUnlimited form limits.functions (symbols tokens) tree → Keeps limits (symbols tokens) tree ⊎ (Keeps limits (symbols tokens) tree → ⊥) → Answered form limits tokens
    kept u (inl keeps) = inl (tree, record { unlimited = u; keeps = keeps })
    kept u (inr away) = let o = somewhere form limits (symbols tokens) tree u away in inr (told_over form limits tokens o.0 o.1)

    whole : Begins form (functions_in (symbols tokens)) (symbols tokens)
    whole = record {
      more = [];
      tree = tree;
      unlimited = record { derives = subst (λ ts. Derives form ts tree) (sym (append-nil (symbols tokens))) d; few_functions = subst (λ ts. functions_in ts ≤ functions_in (symbols tokens)) (sym (append-nil (symbols tokens))) (omega arith) };
    }

    by : (functions_in (symbols tokens) ≤ limits.functions) ⊎ (limits.functions < functions_in (symbols tokens)) → Answered form limits tokens
    by (inl few) = let u : IsUnlimited form limits.functions (symbols tokens) tree = record { derives = d; few_functions = few } in kept u (keeps-if limits (symbols tokens) tree)
    by (inr many) = inr (told_of_many form limits tokens (symbols tokens) [] (sym (append-nil (symbols tokens))) (tokens-regular tokens) many (functions_in (symbols tokens)) whole)

-- ---- what the machine is stuck at

answered-stuck : (form : Form) (limits : Limits) (tokens : List Token) (used : Symbols) (t : Symbol) (rest : Symbols) → symbols tokens ≡ used ++ (t ∷ rest) → Goes form (script unbounded (symbols tokens)) (stuck (t ∷ rest)) → Told form limits tokens
answered-stuck form limits tokens used t rest e run = by (few-if limits.functions (functions_in used))
  where
    regular : are_regular used ≡ true
    regular = regular-front used (t ∷ rest) (subst (λ u. are_regular u ≡ true) e (tokens-regular tokens))

    split : Goes form (script unbounded (used ++ (t ∷ rest))) (stuck (t ∷ rest))
    split = subst (λ u. Goes form (script unbounded u) (stuck (t ∷ rest))) e run

    begun : (functions : ℕ) → functions_in used ≤ functions → Begins form functions used
    begun functions few = read_begins form unbounded functions used (t ∷ rest) (stuck (t ∷ rest)) regular few split (inl refl)

    by : (functions_in used ≤ limits.functions) ⊎ (limits.functions < functions_in used) → Told form limits tokens
    by (inl few) =
        let a = at tokens used t rest e in
        told_at form limits tokens a.before a.token (record {
          rest = a.rest;
          whole = a.whole;
          begins = subst (λ u. Begins form limits.functions u) (sym a.are_before) (begun limits.functions few);
          ends = λ b. stuck_begins_none form unbounded used t rest split limits.functions
              (subst (λ u. Begins form limits.functions u) (map-append symbol a.before (a.token ∷ []) ∙ ap (λ u. u ++ symbols (a.token ∷ [])) a.are_before ∙ ap (λ s. used ++ (s ∷ [])) a.is) b);
        })
    by (inr many) = told_of_many form limits tokens used (t ∷ rest) e regular many (functions_in used) (begun (functions_in used) (omega arith))

-- ---- all of it

pub answered : (form : Form) (limits : Limits) (tokens : List Token) (last : Token) → last.kind ≡ k.End → Answered form limits (tokens ++ (last ∷ []))
answered form limits tokens last is = by ends.last ends.run ends.is
  where
    all : List Token
    all = tokens ++ (last ∷ [])

    ends : Ends form (symbols all) (script unbounded (symbols all))
    ends = script_ends form unbounded (symbols all)

    closed : symbols all ≡ symbols tokens ++ (end last.newline ∷ [])
    closed = map-append symbol tokens (last ∷ []) ∙ ap (λ s. symbols tokens ++ (s ∷ [])) (end-symbol last is)

    at-left : (used left : Symbols) → symbols all ≡ used ++ left → Goes form (script unbounded (symbols all)) (stuck left) → Answered form limits all
    at-left used [] e run = absurd (not_stuck_behind_the_end form (symbols tokens) last.newline (subst (λ u. Goes form (script unbounded u) (stuck [])) closed run) (tokens-regular tokens))
    at-left used (t ∷ rest) e run = inr (answered-stuck form limits all used t rest e run)

    by : (s : State) → Goes form (script unbounded (symbols all)) s → Last (symbols all) s → Answered form limits all
    by _ run (with_tree tree) = answered-done form limits all tree (script-read form unbounded (symbols all) tree (tokens-regular all) run).0
    by _ run (stuck_at used left e) = at-left used left e run
    by _ run (deep_at used left e) =
        let split = subst (λ u. Goes form (script unbounded u) (deep left)) e run in
        let g = goes_on_where_deep form unbounded used left split in
        absurd (no_script_where_deep form unbounded used left split g.0 g.1 g.4)

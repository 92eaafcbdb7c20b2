-- What may be told of tokens by how the machine ended on the front of them that is parsed.
use Rattle.std.proofs.Common.{◌≡◌, ◌≤◌, ◌<◌, ◌&&◌, not, max, ℕ, Bool, true, false, inl, [], ◌∷◌, ◌++◌, List, refl, ap, sym, ◌∙◌, subst, arith}
use Rattle.std.proofs.lemmas.List.{append_assoc, append-nil, map-append}
use Rattle.js_lexer.specs.declared.token.Token.{Token}
use Rattle.js_lexer.specs.declared.token.TokenKind.TheVariants as k
use Rattle.js_lexer.specs.declared.word.Word.TheVariants as w
use Rattle.js_tree.specs.Tree.{Script, Stmts}
use Rattle.js_parser.specs.declared.form.Form.{Form}
use Rattle.js_parser.specs.declared.form.Limits.{Limits}
use Rattle.js_parser.specs.Symbols.{Symbol, Symbols, symbol, symbols, end}
use Rattle.js_parser.specs.Accepted.{Accepted, Derives, functions_in, most_open, opened}
use Rattle.js_parser.specs.Contexts.{Context}
use Rattle.js_parser.specs.Grammar.{SourceElements}
use Rattle.js_parser.specs.Laws.{open_behind}
use Rattle.js_parser.specs.Fault.{Begins, Fault, answer}
use Rattle.js_parser.specs.Fault as fault
use Rattle.js_parser.specs.Rooms.{of_limits}
use Rattle.js_parser.specs.Machine.{done, stuck, Goes, script, is_end}
use Rattle.js_parser.proofs.AcceptedOrFault.{function_over}
use Rattle.js_parser.proofs.Counts.{sources_closed}
use Rattle.js_parser.proofs.EndsInside.{none_behind_the_end, elements_have_no_end, no_end}
use Rattle.js_parser.proofs.FrontsScripts.{joined, begins, breaks}
use Rattle.js_parser.proofs.FrontsStuck.{stays_stuck_there}
use Rattle.js_parser.proofs.ReadScriptTrees.{read-is-script}

-- stuck at a token of the front
pub told_where_stuck : (form : Form) (limits : Limits) (tokens used rest cut : List Token) (token : Token) → tokens ≡ used ++ (token ∷ rest) → functions_in (symbols used) ≤ limits.functions
    → Goes form (script (of_limits limits) (symbols (used ++ (token ∷ cut)))) (stuck (symbols (token ∷ cut))) → Fault form limits tokens (answer limits.functions (symbols used) token)
told_where_stuck form limits tokens used rest cut token e few run =
    fault.breaking used token (breaks form limits tokens used rest token e few
    (subst (λ ts. Goes form (script (of_limits limits) ts) (stuck (symbols (token ∷ rest)))) (sym (joined tokens used (token ∷ rest) e))
    (stays_stuck_there form (of_limits limits) (symbols used) (symbol token) (symbols cut)
    (subst (λ ts. Goes form (script (of_limits limits) ts) (stuck (symbols (token ∷ cut)))) (map-append symbol used (token ∷ cut)) run) (symbols rest)))) refl

-- where what is read begins a script, and the next token is one function too many
pub told_of_a_function : (form : Form) (limits : Limits) (tokens used rest : List Token) (token : Token) → tokens ≡ used ++ (token ∷ rest) → token.kind ≡ k.Word w.Function → functions_in (symbols used) ≡ limits.functions
    → Begins form limits.functions (symbols used) → Fault form limits tokens (answer limits.functions (symbols used) token)
told_of_a_function form limits tokens used rest token e is count b =
    fault.breaking used token (record {
      rest = rest;
      whole = e;
      begins = b;
      ends = λ more. function_over form limits.functions (symbols used) (symbol token) is count (subst (λ ts. Begins form limits.functions ts) (map-append symbol used (token ∷ [])) more);
    }) refl

-- the front is read to its end
pub begun_where_used_up : (form : Form) (limits : Limits) (used : List Token) → functions_in (symbols used) ≤ limits.functions → Goes form (script (of_limits limits) (symbols used)) (stuck []) → Begins form limits.functions (symbols used)
begun_where_used_up form limits used few run = begins form limits used used [] (sym (append-nil used)) few (inl run)

-- or is a script
pub begun_where_done : (form : Form) (limits : Limits) (used : List Token) (tree : Script) → functions_in (symbols used) ≤ limits.functions → Goes form (script (of_limits limits) (symbols used)) (done tree) → Begins form limits.functions (symbols used)
begun_where_done form limits used tree few run = record {
  more = [];
  tree = tree;
  unlimited = record {
    derives = subst (λ ts. Derives form ts tree) (sym (append-nil (symbols used))) (read-is-script form limits used tree run).0;
    few_functions = subst (λ ts. functions_in ts ≤ limits.functions) (sym (append-nil (symbols used))) few;
  };
}

-- the whole is a script within the limits
pub accepted_where_done : (form : Form) (limits : Limits) (tokens : List Token) (tree : Script) → functions_in (symbols tokens) ≤ limits.functions → most_open 0 (symbols tokens) ≤ limits.brackets
    → Goes form (script (of_limits limits) (symbols tokens)) (done tree) → Accepted form limits (symbols tokens) tree
accepted_where_done form limits tokens tree few brackets run =
    let read = read-is-script form limits tokens tree run in record {
      unlimited = record { derives = read.0; few_functions = few };
      keeps = record { not_too_deep = read.1; not_too_nested = read.2; not_too_many_open = brackets };
    }

-- or is a script, behind which a token stands
pub told_behind_a_script : (form : Form) (limits : Limits) (tokens used rest : List Token) (token : Token) (tree : Script) → tokens ≡ used ++ (token ∷ rest) → functions_in (symbols used) ≤ limits.functions
    → Goes form (script (of_limits limits) (symbols used)) (done tree) → Fault form limits tokens (answer limits.functions (symbols used) token)
told_behind_a_script form limits tokens used rest token tree e few run =
    fault.breaking used token (record {
      rest = rest;
      whole = e;
      begins = begun_where_done form limits used tree few run;
      ends = λ b. none (read-is-script form limits used tree run).0 b;
    }) refl
  where
    none : Derives form (symbols used) tree → Begins form limits.functions (symbols (used ++ (token ∷ []))) → ⊥
    none d b =
        let more : symbols (used ++ (token ∷ [])) ++ b.more ≡ (d.elements ++ (end d.newline ∷ [])) ++ (symbol token ∷ b.more) =
        ap (λ ts. ts ++ b.more) (map-append symbol used (token ∷ [])) ∙ append_assoc (symbols used) (symbol token ∷ []) b.more ∙ ap (λ ts. ts ++ (symbol token ∷ b.more)) d.whole in
        none_behind_the_end form d.elements d.newline (symbol token) b.more b.tree (subst (λ ts. Derives form ts b.tree) more b.unlimited.derives)

-- ---- a front that is used up ends inside a statement

most_open_last : (n : ℕ) (u : Symbols) (s : Symbol) → most_open n (u ++ (s ∷ [])) ≡ max (most_open n u) (open_behind n (u ++ (s ∷ [])))
most_open_last n [] s = refl
most_open_last n (x ∷ u) s = let e = most_open_last (opened x.kind n) u s in omega (arith, e)

-- behind a bracket that is one too many
pub not_between_at_a_bracket : {form : Form} {c : Context} {next : Symbol} {ss : Stmts} (most : ℕ) (u : Symbols) (s : Symbol) → most_open 0 u ≤ most → most < most_open 0 (u ++ (s ∷ [])) → SourceElements form c (u ++ (s ∷ [])) next ss → ⊥
not_between_at_a_bracket most u s few many d = let e = most_open_last 0 u s in let f = sources_closed d 0 in absurd (omega (arith, e, f, few, many))

no_end_last : (u : Symbols) (s : Symbol) → no_end (u ++ (s ∷ [])) ≡ true → is_end s.kind ≡ false
no_end_last [] s h = first_part (is_end s.kind) h
  where
    first_part : (a : Bool) → (not a && true) ≡ true → a ≡ false
    first_part true h = sym h
    first_part false h = refl
no_end_last (x ∷ u) s h = no_end_last u s (other_part (is_end x.kind) (no_end (u ++ (s ∷ []))) h)
  where
    other_part : (a c : Bool) → (not a && c) ≡ true → c ≡ true
    other_part true c h = cc
    other_part false c h = h

-- behind the end
pub not_between_at_the_end : {form : Form} {c : Context} {next : Symbol} {ss : Stmts} (u : Symbols) (s : Symbol) → s.kind ≡ k.End → SourceElements form c (u ++ (s ∷ [])) next ss → ⊥
not_between_at_the_end u s is d = let e = no_end_last u s (elements_have_no_end d) in let f : is_end s.kind ≡ true = ap is_end is in cc

last_same : (u v : Symbols) (s t : Symbol) → u ++ (s ∷ []) ≡ v ++ (t ∷ []) → (u ≡ v) × (s ≡ t)
last_same [] [] s t e = (refl, cc)
last_same [] (y ∷ []) s t e = cc
last_same [] (y ∷ (z ∷ v)) s t e = cc
last_same (x ∷ []) [] s t e = cc
last_same (x ∷ (z ∷ u)) [] s t e = cc
last_same (x ∷ u) (y ∷ v) s t e = let one : x ≡ y = cc in let f : u ++ (s ∷ []) ≡ v ++ (t ∷ []) = cc in let r = last_same u v s t f in (ap (λ l. x ∷ l) r.0 ∙ ap (λ z. z ∷ v) one, r.1)

-- an opening bracket is no end
pub no_end_at_a_bracket : (most : ℕ) (u : Symbols) (s : Symbol) (elements : Symbols) (b : Bool) → u ++ (s ∷ []) ≡ elements ++ (end b ∷ []) → most_open 0 u ≤ most → most < most_open 0 (u ++ (s ∷ [])) → ⊥
no_end_at_a_bracket most u s elements b e few many = by u elements e
  where
    behind_less : (n : ℕ) (v : Symbols) → open_behind n v ≤ most_open n v
    behind_less n [] = omega arith
    behind_less n (x ∷ v) = let h = behind_less (opened x.kind n) v in omega (arith, h)

    open_to : (n : ℕ) (v w : Symbols) → open_behind n (v ++ w) ≡ open_behind (open_behind n v) w
    open_to n [] w = refl
    open_to n (x ∷ v) w = open_to (opened x.kind n) v w

    by : (v elements : Symbols) → u ++ (s ∷ []) ≡ elements ++ (end b ∷ []) → ⊥
    by v elements e =
        let same : (u ≡ elements) × (s ≡ end b) = last_same u elements s (end b) e in
        let f = most_open_last 0 u s in let g = open_to 0 u (s ∷ []) in let h = behind_less 0 u in
        let i : opened s.kind (open_behind 0 u) ≡ open_behind 0 u = ap (λ t. opened t.kind (open_behind 0 u)) same.1 in
        absurd (omega (arith, f, g, h, i, few, many))

-- Where the machine is stuck is the breaking token, and where it has no room what was read is spent.
use Rattle.std.proofs.Common.{◌≡◌, ◌≤◌, ◌⊎◌, inl, inr, ℕ, Bool, true, false, ◌&&◌, List, [], ◌∷◌, ◌++◌, refl, ap, ◌∙◌, subst, arith}
use Rattle.std.proofs.lemmas.List.{append_assoc, map-append}
use Rattle.js_lexer.specs.declared.token.Token.{Token}
use Rattle.js_parser.specs.declared.form.Form.{Form}
use Rattle.js_parser.specs.declared.form.Limits.{Limits}
use Rattle.js_parser.specs.Symbols.{Symbol, Symbols, symbol, symbols, is_regular, are_regular}
use Rattle.js_parser.specs.Accepted.{functions_in}
use Rattle.js_parser.specs.Fault.{Begins, Breaks, IsSpent}
use Rattle.js_parser.specs.Rooms.{Room, of_limits, unbounded}
use Rattle.js_parser.specs.Machine.{State, done, stuck, deep, Goes, script}
use Rattle.js_parser.proofs.Runs.{one_end}
use Rattle.js_parser.proofs.Counts.{functions-join}
use Rattle.js_parser.proofs.OneTree.{reads, reads_unbounded}
use Rattle.js_parser.proofs.ReadScriptTrees.{script-read, tokens-regular}
use Rattle.js_parser.proofs.FrontsStuck.{stays_stuck, no_script_where_deep}
use Rattle.js_parser.proofs.FrontsGoOn.{can_go_on}

abbrev pub is_done : State → Bool
is_done (done ss) = true
is_done _ = false

both : (a c d : Bool) → (a && c) ≡ true → (c ≡ true → d ≡ true) → (a && d) ≡ true
both true c d h f = f h
both false c d h f = h

pub regular-join : (u v : Symbols) → are_regular u ≡ true → are_regular v ≡ true → are_regular (u ++ v) ≡ true
regular-join [] v h i = i
regular-join (s ∷ u) v h i = both (is_regular s.kind s.in_decimal) (are_regular u) (are_regular (u ++ v)) h (λ j. regular-join u v j i)

-- ---- what was read

pub read_begins : (form : Form) (room : Room) (functions : ℕ) (used rest : Symbols) (last : State) → are_regular used ≡ true → functions_in used ≤ functions → Goes form (script room (used ++ rest)) last
    → (last ≡ stuck rest) ⊎ (last ≡ deep rest) → Begins form functions used
read_begins form room functions used rest last regular few run is =
    let g = can_go_on form room used rest last run is in
    let derived = (script-read form unbounded (used ++ g.0) g.1 (regular-join used g.0 regular g.3) g.4).0 in
    let count = functions-join used g.0 in let plain = g.2 in
    record { more = g.0; tree = g.1; unlimited = record { derives = derived; few_functions = omega (arith, count, plain) } }

-- ---- stuck

pub stuck_begins_none : (form : Form) (room : Room) (used : Symbols) (t : Symbol) (rest : Symbols) → Goes form (script room (used ++ (t ∷ rest))) (stuck (t ∷ rest)) → (functions : ℕ)
    → Begins form functions (used ++ (t ∷ [])) → ⊥
stuck_begins_none form room used t rest d functions b =
    let read : Goes form (script unbounded (used ++ (t ∷ b.more))) (done b.tree) = subst (λ ts. Goes form (script unbounded ts) (done b.tree)) (append_assoc used (t ∷ []) b.more)
    (reads_unbounded form ((used ++ (t ∷ [])) ++ b.more) b.tree b.unlimited.derives) in
    let e = ap is_done (one_end refl refl read (stays_stuck form room used t rest d b.more)) in cc

-- the symbols of tokens that are put together
pub joined : (tokens used rest : List Token) → tokens ≡ used ++ rest → symbols tokens ≡ symbols used ++ symbols rest
joined tokens used rest e = ap symbols e ∙ map-append symbol used rest

pub begins : (form : Form) (limits : Limits) (tokens used rest : List Token) → tokens ≡ used ++ rest → functions_in (symbols used) ≤ limits.functions
    → Goes form (script (of_limits limits) (symbols tokens)) (stuck (symbols rest)) ⊎ Goes form (script (of_limits limits) (symbols tokens)) (deep (symbols rest)) → Begins form limits.functions (symbols used)
begins form limits tokens used rest e few (inl run) =
    read_begins form (of_limits limits) limits.functions (symbols used) (symbols rest) (stuck (symbols rest)) (tokens-regular used) few
    (subst (λ ts. Goes form (script (of_limits limits) ts) (stuck (symbols rest))) (joined tokens used rest e) run) (inl refl)
begins form limits tokens used rest e few (inr run) =
    read_begins form (of_limits limits) limits.functions (symbols used) (symbols rest) (deep (symbols rest)) (tokens-regular used) few
    (subst (λ ts. Goes form (script (of_limits limits) ts) (deep (symbols rest))) (joined tokens used rest e) run) (inr refl)

pub breaks : (form : Form) (limits : Limits) (tokens used rest : List Token) (token : Token) → tokens ≡ used ++ (token ∷ rest) → functions_in (symbols used) ≤ limits.functions
    → Goes form (script (of_limits limits) (symbols tokens)) (stuck (symbols (token ∷ rest))) → Breaks form limits.functions tokens used token
breaks form limits tokens used rest token e few run = record {
  rest = rest;
  whole = e;
  begins = begins form limits tokens used (token ∷ rest) e few (inl run);
  ends = λ b. stuck_begins_none form (of_limits limits) (symbols used) (symbol token) (symbols rest)
      (subst (λ ts. Goes form (script (of_limits limits) ts) (stuck (symbols (token ∷ rest)))) (joined tokens used (token ∷ rest) e) run) limits.functions
      (subst (λ ts. Begins form limits.functions ts) (map-append symbol used (token ∷ [])) b);
}

-- ---- deep

pub spent : (form : Form) (limits : Limits) (tokens used rest : List Token) → tokens ≡ used ++ rest → functions_in (symbols used) ≤ limits.functions
    → Goes form (script (of_limits limits) (symbols tokens)) (deep (symbols rest)) → IsSpent form limits (symbols used)
spent form limits tokens used rest e few run = record {
  begins = begins form limits tokens used rest e few (inr run);
  over = λ more tree unlimited keeps. no_script_where_deep form (of_limits limits) (symbols used) (symbols rest)
      (subst (λ ts. Goes form (script (of_limits limits) ts) (deep (symbols rest))) (joined tokens used rest e) run) more tree
      (reads form (symbols used ++ more) tree unlimited.derives limits keeps.not_too_deep keeps.not_too_nested);
}

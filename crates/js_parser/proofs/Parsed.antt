-- What is told of tokens by how the reading of their front ended.
use Rattle.std.proofs.Common.{zero, suc, ◌+◌, take, ◌≡◌, inl, inr, false, ◌≤◌, ◌<◌, ℕ, List, [], ◌∷◌, ◌++◌, length, Ok, Err, Result, Some, refl, ap, sym, ◌∙◌, subst, arith}
use Rattle.std.proofs.lemmas.List.{append_assoc, append-nil, append_cancel_left, append_cancel_right, map-append, length-append, length-map}
use Rattle.js_lexer.specs.declared.token.Token.{Token}
use Rattle.js_lexer.specs.declared.token.TokenKind.{TokenKind}
use Rattle.js_lexer.specs.declared.token.TokenKind.TheVariants as k
use Rattle.js_lexer.specs.declared.word.Word.TheVariants as w
use Rattle.js_tree.specs.Tree.{Script, Stmt, Stmts}
use Rattle.js_parser.specs.declared.form.Form.{Form}
use Rattle.js_parser.specs.declared.form.Limits.{Limits}
use Rattle.js_parser.specs.Symbols.{Symbol, Symbols, symbol, symbols, first, end}
use Rattle.js_parser.specs.Contexts as context
use Rattle.js_parser.specs.Accepted.{Accepted, functions_in, most_open, counted}
use Rattle.js_parser.specs.Fault.{Fault, TooDeep, answer}
use Rattle.js_parser.specs.Grammar.{SourceElements}
use Rattle.js_parser.specs.Elements.{element}
use Rattle.js_parser.specs.Rooms.{of_limits}
use Rattle.js_parser.specs.Machine.{To, done, stuck, deep, Goes, script}
use Rattle.js_parser.specs.Scanned.{Begun, Within, Scanned}
use Rattle.js_parser.specs.Scanned as scanned
use Rattle.js_parser.specs.Parses.{IsClosed, MayBeTold, Parses, IsTree}
use Rattle.js_parser.specs.View.{told}
use Rattle.js_parser.specs.declared.scan.Halt.{Halt}
use Rattle.js_parser.specs.declared.scan.Halt.TheVariants as halt
use Rattle.js_parser.specs.declared.error.ParseError.{ParseError}
use Rattle.js_parser.specs.declared.error.ParseError.TheVariants as error
use Rattle.js_tree.specs.declared.tree.Stmt as declared
use Rattle.js_tree.specs.declared.tree.Script as tree
use Rattle.js_tree.specs.Plain.{body}
use Rattle.js_tree.specs.Plain as view
use Rattle.js_parser.proofs.ReadScriptTrees.{read-is-script}
use Rattle.js_parser.proofs.AcceptedOrFault.{Parts, parts, At, at}
use Rattle.js_parser.proofs.Counts.{functions-join}
use Rattle.js_parser.proofs.DeepPlaces.{open-front, Sides, sides, last-of, deep_place, brackets_place, used_up_place, deep_behind_a_token}
use Rattle.js_parser.proofs.Scans.{left_deep}
use Rattle.js_parser.proofs.NoFault.{no_fault}
use Rattle.js_parser.proofs.OneTree.{one_tree}
use Rattle.js_parser.proofs.Verdicts.{told_where_stuck, told_of_a_function, begun_where_used_up, told_behind_a_script, not_between_at_a_bracket, not_between_at_the_end, no_end_at_a_bracket}

-- the answer for the token behind so many
pub record ToldAt (form : Form) (limits : Limits) (tokens : List Token) (n : ℕ) : Type 0 where
  pub before : List Token
  pub token : Token
  pub rest : List Token
  pub whole : tokens ≡ before ++ (token ∷ rest)
  pub stands : length before ≡ n
  pub fault : Fault form limits tokens (answer limits.functions (symbols before) token)

-- TooDeep, at the token behind so many
pub record DeepAt (form : Form) (limits : Limits) (tokens : List Token) (n : ℕ) : Type 0 where
  pub before : List Token
  pub token : Token
  pub rest : List Token
  pub whole : tokens ≡ before ++ (token ∷ rest)
  pub stands : length before ≡ n
  pub fault : Fault form limits tokens (TooDeep token.place)

-- before each of the tokens few enough brackets are open
abbrev pub FewOpen : Limits → List Token → Type 0
FewOpen limits front = (u v : List Token) (t : Token) → front ≡ u ++ (t ∷ v) → most_open 0 (symbols u) ≤ limits.brackets

pub few_open : (limits : Limits) (front : List Token) → most_open 0 (symbols front) ≤ limits.brackets → FewOpen limits front
few_open limits front few u v t e =
    let f = ap symbols e ∙ map-append symbol u (t ∷ v) in
    let h = open-front 0 (symbols u) (symbols (t ∷ v)) in
    let g = ap (most_open 0) f in omega (arith, few, h, g)

pub few_open_before : (limits : Limits) (front : List Token) (bracket : Token) → most_open 0 (symbols front) ≤ limits.brackets → FewOpen limits (front ++ (bracket ∷ []))
few_open_before limits front bracket few u v t e = by (last-of u t v front bracket (sym e))
  where
    by : (own : List Token) × (t ∷ v ≡ own ++ (bracket ∷ [])) → most_open 0 (symbols u) ≤ limits.brackets
    by o =
        let whole : front ++ (bracket ∷ []) ≡ (u ++ o.0) ++ (bracket ∷ []) = e ∙ ap (λ l. u ++ l) o.1 ∙ sym (append_assoc u o.0 (bracket ∷ [])) in
        let f : front ≡ u ++ o.0 = append_cancel_right front (u ++ o.0) (bracket ∷ []) whole in
        let g = ap (most_open 0) (ap symbols f ∙ map-append symbol u o.0) in
        let h = open-front 0 (symbols u) (symbols o.0) in omega (arith, few, h, g)

fewer : (functions : ℕ) (front u v : List Token) → front ≡ u ++ v → functions_in (symbols front) ≤ functions → functions_in (symbols u) ≤ functions
fewer functions front u v e few = let f = ap functions_in (ap symbols e ∙ map-append symbol u v) ∙ functions-join (symbols u) (symbols v) in omega (arith, f, few)

stands-at : (before : List Token) (u : Symbols) (n : ℕ) → symbols before ≡ u → length u ≡ n → length before ≡ n
stands-at before u n e h = sym (length-map before symbol) ∙ ap length e ∙ h

-- the shorter of two ends of a list is an end of the other
suffix : (before own used left : Symbols) → before ++ own ≡ used ++ left → length left ≤ length own → (read : Symbols) × (own ≡ read ++ left)
suffix before own used left e shorter = by (sides before own used left e)
  where
    by : Sides before own used left → (read : Symbols) × (own ≡ read ++ left)
    by (inl s) = absurd_or s.0 s.2
      where
        absurd_or : (m : Symbols) → left ≡ m ++ own → (read : Symbols) × (own ≡ read ++ left)
        absurd_or [] f = ([], sym f)
        absurd_or (x ∷ m) f = let g = ap length f ∙ length-append (x ∷ m) own in absurd (omega (arith, g, shorter))
    by (inr s) = (s.0 ∷ s.1, s.3)

-- ---- a token that may not stand there

pub told_where_broken : (form : Form) (limits : Limits) (tokens front rest : List Token) (n : ℕ) (used left : Symbols) (s : Symbol) → tokens ≡ front ++ rest → functions_in (symbols front) ≤ limits.functions
    → symbols front ≡ used ++ (s ∷ left) → length used ≡ n → Goes form (script (of_limits limits) (symbols front)) (stuck (s ∷ left)) → ToldAt form limits tokens n
told_where_broken form limits tokens front rest n used left s whole few e stands run = by (at front used s left e)
  where
    by : At front used s left → ToldAt form limits tokens n
    by a =
        let are : symbols (a.token ∷ a.rest) ≡ s ∷ left = append_cancel_left used _ _ (ap (λ u. u ++ symbols (a.token ∷ a.rest)) (sym a.are_before) ∙ sym (map-append symbol a.before (a.token ∷ a.rest)) ∙ sym (ap symbols a.whole) ∙ e) in
        let all : tokens ≡ a.before ++ (a.token ∷ (a.rest ++ rest)) = whole ∙ ap (λ l. l ++ rest) a.whole ∙ append_assoc a.before (a.token ∷ a.rest) rest in
        record {
          before = a.before;
          token = a.token;
          rest = a.rest ++ rest;
          whole = all;
          stands = stands-at a.before used n a.are_before stands;
          fault = told_where_stuck form limits tokens a.before (a.rest ++ rest) a.rest a.token all (fewer limits.functions front a.before (a.token ∷ a.rest) a.whole few)
              (subst (λ l. Goes form (script (of_limits limits) (symbols (a.before ++ (a.token ∷ a.rest)))) (stuck l)) (sym are)
              (subst (λ l. Goes form (script (of_limits limits) (symbols l)) (stuck (s ∷ left))) a.whole run));
        }

-- the front is a script, and there is more
pub told_behind_it : (form : Form) (limits : Limits) (tokens front rest : List Token) (token : Token) (tree : Script) → tokens ≡ front ++ (token ∷ rest) → functions_in (symbols front) ≤ limits.functions
    → Goes form (script (of_limits limits) (symbols front)) (done tree) → ToldAt form limits tokens (length front)
told_behind_it form limits tokens front rest token tree whole few run = record {
  before = front;
  token = token;
  rest = rest;
  whole = whole;
  stands = refl;
  fault = told_behind_a_script form limits tokens front rest token tree whole few run;
}

-- one function too many follows
pub told_at_a_function : (form : Form) (limits : Limits) (tokens front rest : List Token) (token : Token) → tokens ≡ front ++ (token ∷ rest) → token.kind ≡ k.Word w.Function → functions_in (symbols front) ≡ limits.functions
    → Goes form (script (of_limits limits) (symbols front)) (stuck []) → ToldAt form limits tokens (length front)
told_at_a_function form limits tokens front rest token whole is count run = record {
  before = front;
  token = token;
  rest = rest;
  whole = whole;
  stands = refl;
  fault = told_of_a_function form limits tokens front rest token whole is count (begun_where_used_up form limits front (omega (arith, count)) run);
}

-- ---- the element that begins behind so many tokens

-- the tokens of the element that is read
record Own (form : Form) (limits : Limits) (front : List Token) (n : ℕ) (own : Symbols) : Type 0 where
  before : List Token
  tokens : List Token
  whole : front ≡ before ++ tokens
  are : symbols tokens ≡ own
  stands : length before ≡ n
  trees : Stmts
  begun : Begun form limits (symbols before) (first own (end false)) trees

own-of : {form : Form} {limits : Limits} {front : List Token} {n : ℕ} {before own : Symbols} → Within form limits (symbols front) before own → length before ≡ n → Own form limits front n own
own-of {form = form} {limits = limits} {front = front} {n = n} {before = before} {own = own} h stands = by (parts front before own h.whole)
  where
    by : Parts front before own → Own form limits front n own
    by p = record {
      before = p.before;
      tokens = p.behind;
      whole = p.whole;
      are = p.are_behind;
      stands = stands-at p.before before n p.are_before stands;
      trees = h.trees;
      begun = subst (λ u. Begun form limits u (first own (end false)) h.trees) (sym p.are_before) h.begun;
    }

-- the front is used up, and too many brackets are open behind it
pub deep_at_brackets : (form : Form) (limits : Limits) (tokens all front rest : List Token) (bracket last : Token) (n : ℕ) (before own : Symbols) → tokens ≡ (front ++ (bracket ∷ [])) ++ rest → tokens ≡ all ++ (last ∷ []) → last.kind ≡ k.End
    → functions_in (symbols (front ++ (bracket ∷ []))) ≤ limits.functions → most_open 0 (symbols front) ≤ limits.brackets → limits.brackets < most_open 0 (symbols (front ++ (bracket ∷ [])))
    → Within form limits (symbols (front ++ (bracket ∷ []))) before own → length before ≡ n → ((next : To Stmt) → Goes form (element form (of_limits limits) context.script next own) (stuck [])) → DeepAt form limits tokens n
deep_at_brackets form limits tokens all front rest bracket last n before own whole closed is few few-open many h stands goes = by (own-of h stands)
  where
    with_token : (o : Own form limits (front ++ (bracket ∷ [])) n own) (ts : List Token) → o.tokens ≡ ts → DeepAt form limits tokens n
    with_token o [] e =
        let none : own ≡ [] = sym o.are ∙ ap symbols e in
        let same : front ++ (bracket ∷ []) ≡ o.before = o.whole ∙ ap (λ l. o.before ++ l) e ∙ append-nil o.before in
        absurd (not_between_at_a_bracket limits.brackets (symbols front) (symbol bracket) few-open (subst (λ l. limits.brackets < most_open 0 l) (map-append symbol front (bracket ∷ [])) many)
        (subst (λ l. SourceElements form context.script l (first own (end false)) o.trees) (sym (ap symbols same) ∙ map-append symbol front (bracket ∷ [])) o.begun.derives))
    with_token o (token ∷ middle) e =
        let it : front ++ (bracket ∷ []) ≡ o.before ++ (token ∷ middle) = o.whole ∙ ap (λ l. o.before ++ l) e in
        let own-is : own ≡ symbols (token ∷ middle) = sym o.are ∙ ap symbols e in
        let wholly : tokens ≡ o.before ++ (token ∷ (middle ++ rest)) = whole ∙ ap (λ l. l ++ rest) it ∙ append_assoc o.before (token ∷ middle) rest in
        record {
          before = o.before;
          token = token;
          rest = middle ++ rest;
          whole = wholly;
          stands = o.stands;
          fault = brackets_place form limits tokens all o.before middle rest token last o.trees wholly closed is
              (subst (λ l. Begun form limits (symbols o.before) (first l (end false)) o.trees) own-is o.begun)
              (few_open_before limits front bracket few-open o.before middle token it)
              (subst (λ l. functions_in (symbols l) ≤ limits.functions) it few)
              (subst (λ l. limits.brackets < most_open 0 (symbols l)) it many)
              (λ next. subst (λ l. Goes form (element form (of_limits limits) context.script next l) (stuck [])) own-is (goes next));
        }

    by : Own form limits (front ++ (bracket ∷ [])) n own → DeepAt form limits tokens n
    by o = with_token o o.tokens refl

-- all tokens are used up
pub deep_at_the_end : (form : Form) (limits : Limits) (tokens all : List Token) (last : Token) (n : ℕ) (before own : Symbols) → tokens ≡ all ++ (last ∷ []) → last.kind ≡ k.End → functions_in (symbols tokens) ≤ limits.functions → most_open 0 (symbols tokens) ≤ limits.brackets
    → Within form limits (symbols tokens) before own → length before ≡ n → ((next : To Stmt) → Goes form (element form (of_limits limits) context.script next own) (stuck [])) → DeepAt form limits tokens n
deep_at_the_end form limits tokens all last n before own closed is few few-open h stands goes = by (own-of h stands)
  where
    with_token : (o : Own form limits tokens n own) (ts : List Token) → o.tokens ≡ ts → DeepAt form limits tokens n
    with_token o [] e =
        let none : own ≡ [] = sym o.are ∙ ap symbols e in
        let same : all ++ (last ∷ []) ≡ o.before = sym closed ∙ o.whole ∙ ap (λ l. o.before ++ l) e ∙ append-nil o.before in
        absurd (not_between_at_the_end (symbols all) (symbol last) is (subst (λ l. SourceElements form context.script l (first own (end false)) o.trees) (sym (ap symbols same) ∙ map-append symbol all (last ∷ [])) o.begun.derives))
    with_token o (token ∷ middle) e =
        let it : tokens ≡ o.before ++ (token ∷ middle) = o.whole ∙ ap (λ l. o.before ++ l) e in
        let own-is : own ≡ symbols (token ∷ middle) = sym o.are ∙ ap symbols e in
        record {
          before = o.before;
          token = token;
          rest = middle;
          whole = it;
          stands = o.stands;
          fault = used_up_place form limits tokens all o.before middle token last o.trees it closed is
              (subst (λ l. Begun form limits (symbols o.before) (first l (end false)) o.trees) own-is o.begun)
              (few_open limits tokens few-open o.before middle token it) few
              (λ next. subst (λ l. Goes form (element form (of_limits limits) context.script next l) (stuck [])) own-is (goes next));
        }

    by : Own form limits tokens n own → DeepAt form limits tokens n
    by o = with_token o o.tokens refl

-- there is no room
pub deep_at_an_element : (form : Form) (limits : Limits) (tokens all front rest : List Token) (last : Token) (n : ℕ) (before own left : Symbols) → tokens ≡ front ++ rest → tokens ≡ all ++ (last ∷ []) → last.kind ≡ k.End → functions_in (symbols front) ≤ limits.functions → FewOpen limits front
    → Within form limits (symbols front) before own → length before ≡ n → length left ≤ length own → ((next : To Stmt) → Goes form (element form (of_limits limits) context.script next own) (deep left))
    → Goes form (script (of_limits limits) (symbols front)) (deep left) → DeepAt form limits tokens n
deep_at_an_element form limits tokens all front rest last n before own left whole closed is few open-few h stands shorter goes run = by (own-of h stands) (left_deep form (of_limits limits) (symbols front) left run)
  where
    -- what of the element is read
    read : (used : Symbols) → symbols front ≡ used ++ left → (used-own : Symbols) × (own ≡ used-own ++ left)
    read used e = suffix before own used left (sym h.whole ∙ e) shorter

    with_token : (o : Own form limits front n own) (ts middle cut : List Token) → o.tokens ≡ ts → ts ≡ middle ++ cut → symbols cut ≡ left → DeepAt form limits tokens n
    with_token o ts [] cut e f is_left =
        let all-left : own ≡ left = sym o.are ∙ ap symbols (e ∙ f) ∙ is_left in
        absurd (deep_behind_a_token form limits own (λ next. subst (λ l. Goes form (element form (of_limits limits) context.script next own) (deep l)) (sym all-left) (goes next)))
    with_token o ts (token ∷ middle) cut e f is_left =
        let it : front ≡ o.before ++ (token ∷ (middle ++ cut)) = o.whole ∙ ap (λ l. o.before ++ l) (e ∙ f) in
        let own-is : own ≡ symbols (token ∷ (middle ++ cut)) = sym o.are ∙ ap symbols (e ∙ f) in
        let used-is : front ≡ (o.before ++ (token ∷ middle)) ++ cut = it ∙ sym (append_assoc o.before (token ∷ middle) cut) in
        let wholly : tokens ≡ o.before ++ (token ∷ (middle ++ (cut ++ rest))) = whole ∙ ap (λ l. l ++ rest) used-is ∙ append_assoc (o.before ++ (token ∷ middle)) cut rest ∙ append_assoc o.before (token ∷ middle) (cut ++ rest) in
        record {
          before = o.before;
          token = token;
          rest = middle ++ (cut ++ rest);
          whole = wholly;
          stands = o.stands;
          fault = deep_place form limits tokens all o.before middle (cut ++ rest) cut token last o.trees wholly closed is
              (subst (λ l. Begun form limits (symbols o.before) (first l (end false)) o.trees) own-is o.begun)
              (open-few o.before (middle ++ cut) token it)
              (fewer limits.functions front (o.before ++ (token ∷ middle)) cut used-is few)
              (λ next. subst (λ l. Goes form (element form (of_limits limits) context.script next l) (deep (symbols cut))) own-is
              (subst (λ l. Goes form (element form (of_limits limits) context.script next own) (deep l)) (sym is_left) (goes next)));
        }

    by : Own form limits front n own → (used : Symbols) × (symbols front ≡ used ++ left) → DeepAt form limits tokens n
    by o u = let r = read u.0 u.1 in let p = parts o.tokens r.0 left (o.are ∙ r.1) in with_token o o.tokens p.before p.behind refl p.whole p.are_behind

-- ---- by the kinds of halts

pub read_of : {form : Form} {limits : Limits} {ts : Symbols} {ss : List declared.Stmt} → Scanned form limits ts (Ok ss) → Goes form (script (of_limits limits) ts) (done (body ss))
read_of (scanned.read d) = d

pub broken_of : {form : Form} {limits : Limits} {n : ℕ} (tokens front rest : List Token) → tokens ≡ front ++ rest → functions_in (symbols front) ≤ limits.functions → Scanned form limits (symbols front) (Err (halt.Broken n)) → ToldAt form limits tokens n
broken_of {form = form} {limits = limits} {n = n} tokens front rest whole few (scanned.broken _ used left s e stands run) = told_where_broken form limits tokens front rest n used left s whole few e stands run

pub deep_of : {form : Form} {limits : Limits} {n : ℕ} (tokens front rest : List Token) → tokens ≡ front ++ rest → IsClosed tokens → functions_in (symbols front) ≤ limits.functions → FewOpen limits front → Scanned form limits (symbols front) (Err (halt.Deep n)) → DeepAt form limits tokens n
deep_of {form = form} {limits = limits} {n = n} tokens front rest whole closed few open-few (scanned.deep_in _ before own left h stands shorter goes run) =
    deep_at_an_element form limits tokens closed.before front rest closed.last n before own left whole closed.whole closed.is few open-few h stands shorter goes run

pub used_up_of : {form : Form} {limits : Limits} {n : ℕ} (tokens : List Token) → IsClosed tokens → functions_in (symbols tokens) ≤ limits.functions → most_open 0 (symbols tokens) ≤ limits.brackets → Scanned form limits (symbols tokens) (Err (halt.UsedUp n)) → DeepAt form limits tokens n
used_up_of {form = form} {limits = limits} {n = n} tokens closed few few-open (scanned.used_up _ before own h stands run goes) =
    deep_at_the_end form limits tokens closed.before closed.last n before own closed.whole closed.is few few-open h stands goes

pub used_up_at_bracket : {form : Form} {limits : Limits} {n : ℕ} (tokens front rest : List Token) (bracket : Token) → tokens ≡ (front ++ (bracket ∷ [])) ++ rest → IsClosed tokens → functions_in (symbols (front ++ (bracket ∷ []))) ≤ limits.functions
    → most_open 0 (symbols front) ≤ limits.brackets → limits.brackets < most_open 0 (symbols (front ++ (bracket ∷ []))) → Scanned form limits (symbols (front ++ (bracket ∷ []))) (Err (halt.UsedUp n)) → DeepAt form limits tokens n
used_up_at_bracket {form = form} {limits = limits} {n = n} tokens front rest bracket whole closed few few-open many (scanned.used_up _ before own h stands run goes) =
    deep_at_brackets form limits tokens closed.before front rest bracket closed.last n before own whole closed.whole closed.is few few-open many h stands goes

used_up_run : {form : Form} {limits : Limits} {n : ℕ} {ts : Symbols} → Scanned form limits ts (Err (halt.UsedUp n)) → Goes form (script (of_limits limits) ts) (stuck [])
used_up_run (scanned.used_up _ before own h stands run goes) = run

-- the front is a script, or is used up, and one function too many follows
pub function_follows : {form : Form} {limits : Limits} {ss : List declared.Stmt} (tokens front rest : List Token) (token : Token) → tokens ≡ front ++ (token ∷ rest) → functions_in (symbols front) ≤ limits.functions → Scanned form limits (symbols front) (Ok ss) → ToldAt form limits tokens (length front)
function_follows {form = form} {limits = limits} {ss = ss} tokens front rest token whole few d = told_behind_it form limits tokens front rest token (body ss) whole few (read_of d)

is_function : (kind : TokenKind) → 0 < counted kind 0 → kind ≡ k.Word w.Function
is_function (k.Word w.Function) h = refl
is_function _ h = absurd (omega (arith, h))

counts_one : (kind : TokenKind) → counted kind 0 ≤ 1
counts_one (k.Word w.Function) = omega arith
counts_one _ = omega arith

pub function_is_wanted : {form : Form} {limits : Limits} {n : ℕ} (tokens front rest : List Token) (token : Token) → tokens ≡ front ++ (token ∷ rest) → functions_in (symbols front) ≤ limits.functions → limits.functions < functions_in (symbols (front ++ (token ∷ [])))
    → Scanned form limits (symbols front) (Err (halt.UsedUp n)) → ToldAt form limits tokens (length front)
function_is_wanted {form = form} {limits = limits} tokens front rest token whole few many d =
    let e = ap functions_in (map-append symbol front (token ∷ [])) ∙ functions-join (symbols front) (symbols (token ∷ [])) in
    let one = counts_one token.kind in
    told_at_a_function form limits tokens front rest token whole (is_function token.kind (omega (arith, e, few, many))) (omega (arith, e, few, many, one)) (used_up_run d)

-- no script ends with an opening bracket
pub not_read_at_bracket : {form : Form} {limits : Limits} {ss : List declared.Stmt} (front : List Token) (bracket : Token) → most_open 0 (symbols front) ≤ limits.brackets → limits.brackets < most_open 0 (symbols (front ++ (bracket ∷ [])))
    → Scanned form limits (symbols (front ++ (bracket ∷ []))) (Ok ss) → ⊥
not_read_at_bracket {form = form} {limits = limits} {ss = ss} front bracket few-open many d =
    let r = (read-is-script form limits (front ++ (bracket ∷ [])) (body ss) (read_of d)).0 in
    no_end_at_a_bracket limits.brackets (symbols front) (symbol bracket) r.elements r.newline (sym (map-append symbol front (bracket ∷ [])) ∙ r.whole) few-open
    (subst (λ l. limits.brackets < most_open 0 l) (map-append symbol front (bracket ∷ [])) many)

-- ---- the answer

pub tells : {form : Form} {limits : Limits} {tokens : List Token} {n : ℕ} (e : ParseError) → ToldAt form limits tokens n
    → ((before rest : List Token) (token : Token) → tokens ≡ before ++ (token ∷ rest) → length before ≡ n → told e ≡ Some (answer limits.functions (symbols before) token)) → MayBeTold form limits tokens (told e)
tells {form = form} {limits = limits} {tokens = tokens} e d is = subst (λ a. MayBeTold form limits tokens a) (sym (is d.before d.rest d.token d.whole d.stands)) d.fault

pub tells_deep : {form : Form} {limits : Limits} {tokens : List Token} {n : ℕ} (e : ParseError) → DeepAt form limits tokens n
    → ((before rest : List Token) (token : Token) → tokens ≡ before ++ (token ∷ rest) → length before ≡ n → e ≡ error.TooDeep token.place) → MayBeTold form limits tokens (told e)
tells_deep {form = form} {limits = limits} {tokens = tokens} e d is = subst (λ o. MayBeTold form limits tokens (told o)) (sym (is d.before d.rest d.token d.whole d.stands)) d.fault

pub told_within : {form : Form} {limits : Limits} {tokens : List Token} {n : ℕ} → ToldAt form limits tokens n → n < length tokens
told_within d = let e = ap length d.whole ∙ length-append d.before (d.token ∷ d.rest) in let f = d.stands in omega (arith, e, f)

pub deep_within : {form : Form} {limits : Limits} {tokens : List Token} {n : ℕ} → DeepAt form limits tokens n → n < length tokens
deep_within d = let e = ap length d.whole ∙ length-append d.before (d.token ∷ d.rest) in let f = d.stands in omega (arith, e, f)

-- ---- exactly

pub exactly : (form : Form) (limits : Limits) (tokens : List Token) (r : Result tree.Script ParseError) → Parses form limits tokens r → (x : Script) → Accepted form limits (symbols tokens) x → IsTree x r
exactly form limits tokens (Ok s) p x a = one_tree form (symbols tokens) (view.script s) x p.unlimited.derives a.unlimited.derives
exactly form limits tokens (Err e) p x a = by e p
  where
    by : (e : ParseError) → MayBeTold form limits tokens (told e) → e ≡ error.OutOfMemory
    by (error.Syntax place) p = absurd (no_fault form limits tokens x _ a p)
    by (error.Construct place c) p = absurd (no_fault form limits tokens x _ a p)
    by (error.TooDeep place) p = absurd (no_fault form limits tokens x _ a p)
    by (error.TooMany place) p = absurd (no_fault form limits tokens x _ a p)
    by error.OutOfMemory p = refl

-- ---- a list at a place

-- a halt, by what it is
pub as_halt : {form : Form} {limits : Limits} {ts : Symbols} {h o : Halt} → h ≡ o → Scanned form limits ts (Err h) → Scanned form limits ts (Err o)
as_halt {form = form} {limits = limits} {ts = ts} e d = subst (λ h. Scanned form limits ts (Err h)) e d

-- the token behind n others
pub record Split (tokens : List Token) (n : ℕ) : Type 0 where
  pub token : Token
  pub rest : List Token
  pub whole : tokens ≡ take n tokens ++ (token ∷ rest)
  pub next : take (n + 1) tokens ≡ take n tokens ++ (token ∷ [])
  pub count : length (take n tokens) ≡ n

pub split : (tokens : List Token) (n : ℕ) → n < length tokens → Split tokens n
split [] n h = absurd (omega (arith, h))
split (t ∷ ts) zero h = record { token = t; rest = ts; whole = refl; next = refl; count = refl }
split (t ∷ ts) (suc n) h =
    let s = split ts n (omega (arith, h)) in let e : suc n + 1 ≡ suc (n + 1) = omega arith in record {
      token = s.token;
      rest = s.rest;
      whole = ap (λ l. t ∷ l) s.whole;
      next = ap (λ m. take m (t ∷ ts)) e ∙ ap (λ l. t ∷ l) s.next;
      count = ap suc s.count;
    }

-- the place of a token, by another number for it
pub told_there : {form : Form} {limits : Limits} {tokens : List Token} {n o : ℕ} → n ≡ o → ToldAt form limits tokens n → ToldAt form limits tokens o
told_there {form = form} {limits = limits} {tokens = tokens} e d = subst (λ n. ToldAt form limits tokens n) e d

-- ---- a bracket too many

-- behind n tokens stands a bracket with which too many are open
pub record Bracket (tokens : List Token) (n : ℕ) (limits : Limits) : Type 0 where
  pub front : List Token
  pub bracket : Token
  pub rest : List Token
  pub is : take (n + 1) tokens ≡ front ++ (bracket ∷ [])
  pub whole : tokens ≡ (front ++ (bracket ∷ [])) ++ rest
  pub few : functions_in (symbols (front ++ (bracket ∷ []))) ≤ limits.functions
  pub shut : most_open 0 (symbols front) ≤ limits.brackets
  pub over : limits.brackets < most_open 0 (symbols (front ++ (bracket ∷ [])))

pub at_bracket : (tokens : List Token) (n : ℕ) (limits : Limits) → n < length tokens → functions_in (symbols (take (n + 1) tokens)) ≤ limits.functions → most_open 0 (symbols (take n tokens)) ≤ limits.brackets
    → limits.brackets < most_open 0 (symbols (take (n + 1) tokens)) → Bracket tokens n limits
at_bracket tokens n limits within few shut over =
    let s = split tokens n within in record {
      front = take n tokens;
      bracket = s.token;
      rest = s.rest;
      is = s.next;
      whole = s.whole ∙ sym (append_assoc (take n tokens) (s.token ∷ []) s.rest);
      few = subst (λ l. functions_in (symbols l) ≤ limits.functions) s.next few;
      shut = shut;
      over = subst (λ l. limits.brackets < most_open 0 (symbols l)) s.next over;
    }

pub bracket_unread : {form : Form} {limits : Limits} {tokens : List Token} {n : ℕ} {ss : List declared.Stmt} → Bracket tokens n limits → Scanned form limits (symbols (take (n + 1) tokens)) (Ok ss) → ⊥
bracket_unread {form = form} {limits = limits} {ss = ss} h d = not_read_at_bracket h.front h.bracket h.shut h.over (subst (λ l. Scanned form limits (symbols l) (Ok ss)) h.is d)

pub bracket_used_up : {form : Form} {limits : Limits} {tokens : List Token} {n o : ℕ} → Bracket tokens n limits → IsClosed tokens → Scanned form limits (symbols (take (n + 1) tokens)) (Err (halt.UsedUp o)) → DeepAt form limits tokens o
bracket_used_up {form = form} {limits = limits} {tokens = tokens} {o = o} h closed d =
    used_up_at_bracket tokens h.front h.rest h.bracket h.whole closed h.few h.shut h.over (subst (λ l. Scanned form limits (symbols l) (Err (halt.UsedUp o))) h.is d)

pub bracket_deep : {form : Form} {limits : Limits} {tokens : List Token} {n o : ℕ} → Bracket tokens n limits → IsClosed tokens → Scanned form limits (symbols (take (n + 1) tokens)) (Err (halt.Deep o)) → DeepAt form limits tokens o
bracket_deep {form = form} {limits = limits} {tokens = tokens} {o = o} h closed d =
    deep_of tokens (h.front ++ (h.bracket ∷ [])) h.rest h.whole closed h.few (few_open_before limits h.front h.bracket h.shut) (subst (λ l. Scanned form limits (symbols l) (Err (halt.Deep o))) h.is d)

-- ---- fronts of fronts

front-of : (n o : ℕ) (tokens : List Token) → n ≤ o → (rest : List Token) × (take o tokens ≡ take n tokens ++ rest)
front-of zero o tokens h = (take o tokens, refl)
front-of (suc n) zero tokens h = absurd (omega (arith, h))
front-of (suc n) (suc o) [] h = ([], refl)
front-of (suc n) (suc o) (t ∷ tokens) h = let f = front-of n o tokens (omega (arith, h)) in (f.0, ap (λ l. t ∷ l) f.1)

pub fewer_before : (functions n o : ℕ) (tokens : List Token) → n ≤ o → functions_in (symbols (take o tokens)) ≤ functions → functions_in (symbols (take n tokens)) ≤ functions
fewer_before functions n o tokens h few = let f = front-of n o tokens h in fewer functions (take o tokens) (take n tokens) f.0 f.1 few

pub shut_before : (most n o : ℕ) (tokens : List Token) → n ≤ o → most_open 0 (symbols (take o tokens)) ≤ most → most_open 0 (symbols (take n tokens)) ≤ most
shut_before most n o tokens h few =
    let f = front-of n o tokens h in let e = ap (most_open 0) (ap symbols f.1 ∙ map-append symbol (take n tokens) f.0) in
    let g = open-front 0 (symbols (take n tokens)) (symbols f.0) in omega (arith, e, g, few)

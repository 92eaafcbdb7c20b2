-- Bodies, functions, items and scripts, as their readers read them.
use Rattle.std.proofs.Common.{◌≡◌, ℕ, ◌+◌, ◌≤◌, List, [], ◌∷◌, ◌++◌, Some, None, refl, ap, ◌∙◌, subst, append_assoc, arith, length, inl, inr}
use Rattle.std.specs.Prelude.{◌⊎◌, All, codes}
use Rattle.std.specs.List.{flat_map}
use Rattle.std.specs.Fmt.{decimal}
use Rattle.first_grammar.specs.declared.script.FirstStatement.{FirstStatement}
use Rattle.first_grammar.specs.declared.script.FirstStatement.TheVariants.{Call, Out}
use Rattle.first_grammar.specs.declared.script.FirstBody.{FirstBody}
use Rattle.first_grammar.specs.declared.script.FirstBody.TheVariants.{Statements, Stub}
use Rattle.first_grammar.specs.declared.script.FirstFunction.{FirstFunction}
use Rattle.first_grammar.specs.declared.script.FirstItem.{FirstItem}
use Rattle.first_grammar.specs.declared.script.FirstItem.TheVariants.{Statement, Function}
use Rattle.text_reader.specs.Reader.{Reader, pure, ◌>>=◌, skip}
use Rattle.text_reader.proofs.ListLemmas.{Reads, Anything, up_to_sound, up_to_again}
use Rattle.text_reader.proofs.Joined.{carried, skipped, skips, mapped, maps, there, other_way}
use Rattle.text_reader.proofs.Bytes.{chosen_parts, skip_sound, skip_again, first_differs, second_differs}
use Rattle.first_grammar.specs.First.{IsLetter, IsFunctionNumber, IsBody, IsItem, statement_text, body_text, item_text}
use Rattle.first_grammar.specs.FirstReader.{letter, number, statement, statements, stub, plain_body, body, function, function_item, statement_item, item, items}
use Rattle.first_grammar.proofs.Letters.{letter_sound, letter_again}
use Rattle.first_grammar.proofs.Numbers.{number_sound, number_again}
use Rattle.first_grammar.proofs.Grammar.{closed_text, statement_reads, statements_reads}

-- ---- bodies

abbrev pub stub_front : List ℕ
stub_front = codes "return eval($dl_get("

abbrev stub_back : List ℕ
stub_back = codes ")).apply(this,arguments);"

abbrev pub whole_body : FirstBody → List ℕ
whole_body b = body_text b ++ codes "}"

-- texts that are put together in another order
grouped : (h d m t r : List ℕ) → ((h ++ (d ++ m)) ++ t) ++ r ≡ h ++ (d ++ ((m ++ t) ++ r))
grouped h d m t r =
    let one = append_assoc h (d ++ m) t in
    let two = append_assoc h ((d ++ m) ++ t) r in
    let three = append_assoc d m t in
    let four = append_assoc d (m ++ t) r in
    ap (λ v. v ++ r) one ∙ two ∙ ap (λ v. h ++ v) (ap (λ v. v ++ r) three ∙ four)

stub_sound : (bs rest : List ℕ) (b : FirstBody) → stub bs ≡ Some (b, rest) → IsBody b × (whole_body b ++ rest ≡ stub_front ++ bs)
stub_sound bs rest b e =
    let h = skipped number (codes ")).apply(this,arguments);}") (λ k. pure (Stub k)) bs (b, rest) e in
    let w = number_sound bs (codes ")).apply(this,arguments);}" ++ h.1) h.0 h.2 in
    let text : whole_body (Stub h.0) ++ h.1 ≡ stub_front ++ bs = grouped stub_front (decimal h.0) stub_back (codes "}") h.1 ∙ ap (λ v. stub_front ++ v) w.1 in
    carried (λ b rest. IsBody b × (whole_body b ++ rest ≡ stub_front ++ bs)) (Stub h.0) b h.1 rest h.3 (w.0, text)

plain_body_sound : (bs rest : List ℕ) (b : FirstBody) → plain_body bs ≡ Some (b, rest) → IsBody b × (whole_body b ++ rest ≡ bs)
plain_body_sound bs rest b e =
    let h = mapped statements Statements bs rest b e in
    let w = statements_reads.sound bs rest h.0 h.1 in
    subst (λ b. IsBody b × (whole_body b ++ rest ≡ bs)) h.2 w

body_by : (bs rest : List ℕ) (b : FirstBody) → ((r : List ℕ) × (skip stub_front bs ≡ Some (tt, r)) × (stub r ≡ Some (b, rest))) ⊎ ((skip stub_front bs ≡ None) × (plain_body bs ≡ Some (b, rest))) → IsBody b × (whole_body b ++ rest ≡ bs)
body_by bs rest b (inl h) = let w = stub_sound h.0 rest b h.2 in (w.0, w.1 ∙ skip_sound stub_front bs h.0 h.1)
body_by bs rest b (inr h) = plain_body_sound bs rest b h.1

body_sound : (bs rest : List ℕ) (b : FirstBody) → body bs ≡ Some (b, rest) → IsBody b × (whole_body b ++ rest ≡ bs)
unfolding body
body_sound bs rest b e = body_by bs rest b (chosen_parts (skip stub_front bs) stub (plain_body bs) (b, rest) e)

body_there : (bs r : List ℕ) → skip stub_front bs ≡ Some (tt, r) → body bs ≡ stub r
unfolding body
body_there bs r e = there (skip stub_front) stub plain_body bs r e

body_other : (bs : List ℕ) → skip stub_front bs ≡ None → body bs ≡ plain_body bs
unfolding body
body_other bs e = other_way (skip stub_front) stub plain_body bs e

-- no statement and no `}` begins as a stub's body does
no_stub : (ss : List FirstStatement) (rest : List ℕ) → skip stub_front (closed_text ss ++ rest) ≡ None
no_stub [] rest = first_differs 114 125 (codes "eturn eval($dl_get(") rest (λ e. absurd (omega arith))
no_stub (Call c ∷ ss) rest = second_differs 114 c (codes "eturn eval($dl_get(") (((codes "();" ++ flat_map statement_text ss) ++ codes "}") ++ rest) (first_differs 101 40 (codes "turn eval($dl_get(") (((codes ");" ++ flat_map statement_text ss) ++ codes "}") ++ rest) (λ e. absurd (omega arith)))
no_stub (Out cs ∷ ss) rest = first_differs 114 104 (codes "eturn eval($dl_get(") ((((codes "ost.out(\"" ++ (cs ++ codes "\");")) ++ flat_map statement_text ss) ++ codes "}") ++ rest) (λ e. absurd (omega arith))

stub_again : (k : ℕ) (rest : List ℕ) → IsFunctionNumber k → stub (decimal k ++ (codes ")).apply(this,arguments);}" ++ rest)) ≡ Some (Stub k, rest)
stub_again k rest h = skips number (codes ")).apply(this,arguments);}") (λ k. pure (Stub k)) (decimal k ++ (codes ")).apply(this,arguments);}" ++ rest)) rest k (number_again k 41 (codes ").apply(this,arguments);}" ++ rest) h refl)

stub_body : (k : ℕ) (rest : List ℕ) → IsFunctionNumber k → body (stub_front ++ (decimal k ++ (codes ")).apply(this,arguments);}" ++ rest))) ≡ Some (Stub k, rest)
stub_body k rest h = body_there (stub_front ++ (decimal k ++ (codes ")).apply(this,arguments);}" ++ rest))) (decimal k ++ (codes ")).apply(this,arguments);}" ++ rest)) (skip_again stub_front (decimal k ++ (codes ")).apply(this,arguments);}" ++ rest))) ∙ stub_again k rest h

body_again : (b : FirstBody) (rest : List ℕ) → IsBody b → body (whole_body b ++ rest) ≡ Some (b, rest)
body_again (Statements ss) rest h = body_other (closed_text ss ++ rest) (no_stub ss rest) ∙ maps statements Statements (closed_text ss ++ rest) rest ss (statements_reads.again ss rest h tt)
body_again (Stub k) rest h = ap body (grouped stub_front (decimal k) stub_back (codes "}") rest) ∙ stub_body k rest h

-- ---- functions

abbrev function_text : FirstFunction → List ℕ
function_text f = f.name ∷ (codes "(){" ++ whole_body f.body)

abbrev IsFunction : FirstFunction → Type 0
IsFunction f = IsLetter f.name × IsBody f.body

abbrev made : ℕ → FirstBody → FirstFunction
made name b = record { name = name; body = b }

abbrev after_name : ℕ → Reader FirstFunction
after_name name = body >>= (λ b. pure (made name b))

function_sound : (bs rest : List ℕ) (f : FirstFunction) → function bs ≡ Some (f, rest) → IsFunction f × (function_text f ++ rest ≡ bs)
unfolding function
function_sound bs rest f e =
    let h = skipped letter (codes "(){") after_name bs (f, rest) e in
    let l = letter_sound bs (codes "(){" ++ h.1) h.0 h.2 in
    let m = mapped body (made h.0) h.1 rest f h.3 in
    let w = body_sound h.1 rest m.0 m.1 in
    let text : function_text (made h.0 m.0) ++ rest ≡ bs = ap (λ v. h.0 ∷ (codes "(){" ++ v)) w.1 ∙ l.1 in
    subst (λ f. IsFunction f × (function_text f ++ rest ≡ bs)) m.2 ((l.0, w.0), text)

function_again : (f : FirstFunction) (rest : List ℕ) → IsFunction f → function (function_text f ++ rest) ≡ Some (f, rest)
unfolding function
function_again f rest h =
    let mid = whole_body f.body ++ rest in
    skips letter (codes "(){") after_name (f.name ∷ (codes "(){" ++ mid)) mid f.name (letter_again f.name (codes "(){" ++ mid) h.0)
    ∙ maps body (made f.name) mid rest f.body (body_again f.body rest h.1)

-- ---- items

abbrev function_front : List ℕ
function_front = codes "function "

function_item_sound : (bs rest : List ℕ) (i : FirstItem) → function_item bs ≡ Some (i, rest) → IsItem i × (item_text i ++ rest ≡ function_front ++ bs)
function_item_sound bs rest i e =
    let h = mapped function Function bs rest i e in
    let w = function_sound bs rest h.0 h.1 in
    let text : item_text (Function h.0) ++ rest ≡ function_front ++ bs = ap (λ v. function_front ++ v) w.1 in
    subst (λ i. IsItem i × (item_text i ++ rest ≡ function_front ++ bs)) h.2 (w.0, text)

statement_item_sound : (bs rest : List ℕ) (i : FirstItem) → statement_item bs ≡ Some (i, rest) → IsItem i × (item_text i ++ rest ≡ bs)
statement_item_sound bs rest i e =
    let h = mapped statement Statement bs rest i e in
    let w = statement_reads.sound bs rest h.0 h.1 in
    subst (λ i. IsItem i × (item_text i ++ rest ≡ bs)) h.2 w

item_by : (bs rest : List ℕ) (i : FirstItem) → ((r : List ℕ) × (skip function_front bs ≡ Some (tt, r)) × (function_item r ≡ Some (i, rest))) ⊎ ((skip function_front bs ≡ None) × (statement_item bs ≡ Some (i, rest))) → IsItem i × (item_text i ++ rest ≡ bs)
item_by bs rest i (inl h) = let w = function_item_sound h.0 rest i h.2 in (w.0, w.1 ∙ skip_sound function_front bs h.0 h.1)
item_by bs rest i (inr h) = statement_item_sound bs rest i h.1

item_sound : (bs rest : List ℕ) (i : FirstItem) → item bs ≡ Some (i, rest) → IsItem i × (item_text i ++ rest ≡ bs)
unfolding item
item_sound bs rest i e = item_by bs rest i (chosen_parts (skip function_front bs) function_item (statement_item bs) (i, rest) e)

item_there : (bs r : List ℕ) → skip function_front bs ≡ Some (tt, r) → item bs ≡ function_item r
unfolding item
item_there bs r e = there (skip function_front) function_item statement_item bs r e

item_other : (bs : List ℕ) → skip function_front bs ≡ None → item bs ≡ statement_item bs
unfolding item
item_other bs e = other_way (skip function_front) function_item statement_item bs e

no_function : (s : FirstStatement) (rest : List ℕ) → skip function_front (statement_text s ++ rest) ≡ None
no_function (Call c) rest = second_differs 102 c (codes "unction ") (codes "();" ++ rest) (first_differs 117 40 (codes "nction ") (codes ");" ++ rest) (λ e. absurd (omega arith)))
no_function (Out cs) rest = first_differs 102 104 (codes "unction ") ((codes "ost.out(\"" ++ (cs ++ codes "\");")) ++ rest) (λ e. absurd (omega arith))

item_again : (i : FirstItem) (rest : List ℕ) → IsItem i → item (item_text i ++ rest) ≡ Some (i, rest)
item_again (Statement s) rest h = item_other (statement_text s ++ rest) (no_function s rest) ∙ maps statement Statement (statement_text s ++ rest) rest s (statement_reads.again s rest h tt)
item_again (Function f) rest h =
    let bs = function_text f ++ rest in
    item_there (function_front ++ bs) bs (skip_again function_front bs) ∙ maps function Function bs rest f (function_again f rest h)

pub item_reads : Reads IsItem item_text Anything item
item_reads = record { sound = item_sound; again = λ i rest h _. item_again i rest h }

no_line_feed : (i : FirstItem) (r : List ℕ) → IsItem i → skip (10 ∷ []) (item_text i ++ r) ≡ None
no_line_feed (Statement (Call c)) r h = first_differs 10 c [] (codes "();" ++ r) (λ e. absurd (omega arith))
no_line_feed (Statement (Out cs)) r h = first_differs 10 104 [] ((codes "ost.out(\"" ++ (cs ++ codes "\");")) ++ r) (λ e. absurd (omega arith))
no_line_feed (Function f) r h = first_differs 10 102 [] ((codes "unction " ++ function_text f) ++ r) (λ e. absurd (omega arith))

item_some : (i : FirstItem) → 1 ≤ length (item_text i)
item_some (Statement (Call c)) = omega arith
item_some (Statement (Out cs)) = omega arith
item_some (Function f) = omega arith

-- ---- scripts

abbrev line : List FirstItem → List ℕ
line is = flat_map item_text is ++ 10 ∷ []

items_sound : (bs rest : List ℕ) (is : List FirstItem) → items bs ≡ Some (is, rest) → All IsItem is × (line is ++ rest ≡ bs)
unfolding items
items_sound bs rest is e =
    let h = up_to_sound IsItem item_text item item_reads (skip (codes "\n")) (codes "\n") (skip_sound (codes "\n")) no_line_feed item_some bs is rest e in
    (h.0, append_assoc (flat_map item_text is) (codes "\n") rest ∙ h.1)

items_again : (is : List FirstItem) (rest : List ℕ) → All IsItem is → items (line is ++ rest) ≡ Some (is, rest)
unfolding items
items_again is rest a =
    let list = up_to_again IsItem item_text item item_reads (skip (codes "\n")) (codes "\n") (skip_sound (codes "\n")) no_line_feed item_some is rest a (skip_again (codes "\n") rest) in
    ap items (append_assoc (flat_map item_text is) (codes "\n") rest) ∙ list

pub items_reads : Reads (All IsItem) line Anything items
items_reads = record { sound = items_sound; again = λ is rest h _. items_again is rest h }

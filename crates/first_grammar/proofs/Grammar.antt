-- Each rule of the first grammar, as its reader reads it: just the values of the rule, each from its text.
use Rattle.std.proofs.Common.{◌≡◌, ℕ, ◌+◌, ◌≤◌, ◌<◌, true, List, [], ◌∷◌, ◌++◌, Some, None, refl, ap, ◌∙◌, append_assoc, arith, length, inl, inr}
use Rattle.std.specs.Prelude.{◌⊎◌, All, codes}
use Rattle.std.specs.List.{flat_map}
use Rattle.std.proofs.lemmas.List.Elements.{All-weaker}
use Rattle.first_grammar.specs.declared.script.FirstStatement.{FirstStatement}
use Rattle.first_grammar.specs.declared.script.FirstStatement.TheVariants.{Call, Out}
use Rattle.text_reader.specs.Reader.{pure, skip}
use Rattle.text_reader.proofs.ListLemmas.{Reads, Anything, up_to_sound, up_to_again}
use Rattle.text_reader.proofs.Joined.{carried, there, other_way, skipped, skips}
use Rattle.text_reader.proofs.Bytes.{chosen_parts, skip_sound, skip_again, first_differs, second_differs, run_sound, run_again}
use Rattle.first_grammar.specs.First.{IsLetter, IsPlainCharacter, IsStatement, statement_text}
use Rattle.first_grammar.specs.FirstReader.{letter, characters, out, call, statement, statements, is_plain}
use Rattle.first_grammar.proofs.Letters.{letter_sound, letter_again, plain_true, plain_is}

-- ---- statements

IsFound : {A : Type 0} (P : A → Type 0) (text : A → List ℕ) (bs : List ℕ) → A → List ℕ → Type 0
IsFound P text bs x rest = P x × (text x ++ rest ≡ bs)

out_sound : (bs rest : List ℕ) (s : FirstStatement) → out bs ≡ Some (s, rest) → IsStatement s × (statement_text s ++ rest ≡ codes "host.out(\"" ++ bs)
out_sound bs rest s e =
    let h = skipped characters (codes "\");") (λ cs. pure (Out cs)) bs (s, rest) e in
    let w = run_sound is_plain bs h.0 (codes "\");" ++ h.1) h.2 in
    let plain = All-weaker (λ c. is_plain c ≡ true) IsPlainCharacter plain_is h.0 w.0 in
    let texts : statement_text (Out h.0) ++ h.1 ≡ codes "host.out(\"" ++ bs = ap (λ v. codes "host.out(\"" ++ v) (append_assoc h.0 (codes "\");") h.1 ∙ w.1) in
    carried (λ s rest. IsStatement s × (statement_text s ++ rest ≡ codes "host.out(\"" ++ bs)) (Out h.0) s h.1 rest h.3 (plain, texts)

call_sound : (bs rest : List ℕ) (s : FirstStatement) → call bs ≡ Some (s, rest) → IsStatement s × (statement_text s ++ rest ≡ bs)
call_sound bs rest s e =
    let h = skipped letter (codes "();") (λ name. pure (Call name)) bs (s, rest) e in
    let l = letter_sound bs (codes "();" ++ h.1) h.0 h.2 in
    carried (λ s rest. IsStatement s × (statement_text s ++ rest ≡ bs)) (Call h.0) s h.1 rest h.3 l

statement_by : (bs rest : List ℕ) (s : FirstStatement) → ((r : List ℕ) × (skip (codes "host.out(\"") bs ≡ Some (tt, r)) × (out r ≡ Some (s, rest))) ⊎ ((skip (codes "host.out(\"") bs ≡ None) × (call bs ≡ Some (s, rest))) → IsStatement s × (statement_text s ++ rest ≡ bs)
statement_by bs rest s (inl h) = let w = out_sound h.0 rest s h.2 in (w.0, w.1 ∙ skip_sound (codes "host.out(\"") bs h.0 h.1)
statement_by bs rest s (inr h) = call_sound bs rest s h.1

statement_sound : (bs rest : List ℕ) (s : FirstStatement) → statement bs ≡ Some (s, rest) → IsStatement s × (statement_text s ++ rest ≡ bs)
unfolding statement
statement_sound bs rest s e = statement_by bs rest s (chosen_parts (skip (codes "host.out(\"") bs) out (call bs) (s, rest) e)

statement_there : (bs r : List ℕ) → skip (codes "host.out(\"") bs ≡ Some (tt, r) → statement bs ≡ out r
unfolding statement
statement_there bs r e = there (skip (codes "host.out(\"")) out call bs r e

statement_other : (bs : List ℕ) → skip (codes "host.out(\"") bs ≡ None → statement bs ≡ call bs
unfolding statement
statement_other bs e = other_way (skip (codes "host.out(\"")) out call bs e

call_again : (c : ℕ) (rest : List ℕ) → IsLetter c → call (c ∷ (codes "();" ++ rest)) ≡ Some (Call c, rest)
call_again c rest h = skips letter (codes "();") (λ name. pure (Call name)) (c ∷ (codes "();" ++ rest)) rest c (letter_again c (codes "();" ++ rest) h)

call_no_out : (c : ℕ) (rest : List ℕ) → skip (codes "host.out(\"") (c ∷ (codes "();" ++ rest)) ≡ None
call_no_out c rest = second_differs 104 c (codes "ost.out(\"") (codes "();" ++ rest) (first_differs 111 40 (codes "st.out(\"") (codes ");" ++ rest) (λ e. absurd (omega arith)))

out_again : (cs rest : List ℕ) → All IsPlainCharacter cs → out (cs ++ (codes "\");" ++ rest)) ≡ Some (Out cs, rest)
out_again cs rest h =
    let plain = All-weaker IsPlainCharacter (λ c. is_plain c ≡ true) plain_true cs h in
    skips characters (codes "\");") (λ cs. pure (Out cs)) (cs ++ (codes "\");" ++ rest)) rest cs (run_again is_plain cs 34 (codes ");" ++ rest) plain refl)

out_text : (h cs d rest : List ℕ) → (h ++ (cs ++ d)) ++ rest ≡ h ++ (cs ++ (d ++ rest))
out_text h cs d rest = append_assoc h (cs ++ d) rest ∙ ap (λ v. h ++ v) (append_assoc cs d rest)

out_statement : (cs rest : List ℕ) → All IsPlainCharacter cs → statement (codes "host.out(\"" ++ (cs ++ (codes "\");" ++ rest))) ≡ Some (Out cs, rest)
out_statement cs rest h = statement_there (codes "host.out(\"" ++ (cs ++ (codes "\");" ++ rest))) (cs ++ (codes "\");" ++ rest)) (skip_again (codes "host.out(\"") (cs ++ (codes "\");" ++ rest))) ∙ out_again cs rest h

statement_again : (s : FirstStatement) (rest : List ℕ) → IsStatement s → statement (statement_text s ++ rest) ≡ Some (s, rest)
statement_again (Call c) rest h = statement_other (c ∷ (codes "();" ++ rest)) (call_no_out c rest) ∙ call_again c rest h
statement_again (Out cs) rest h = ap statement (out_text (codes "host.out(\"") cs (codes "\");") rest) ∙ out_statement cs rest h

pub statement_reads : Reads IsStatement statement_text Anything statement
statement_reads = record { sound = statement_sound; again = λ s rest h _. statement_again s rest h }

-- no statement begins with this byte
statement_not : (b : ℕ) (s : FirstStatement) (r : List ℕ) → (122 < b) ⊎ (b < 97) → IsStatement s → skip (b ∷ []) (statement_text s ++ r) ≡ None
statement_not b (Call c) r (inl k) h = first_differs b c [] (codes "();" ++ r) (λ e. absurd (omega arith))
statement_not b (Call c) r (inr k) h = first_differs b c [] (codes "();" ++ r) (λ e. absurd (omega arith))
statement_not b (Out cs) r (inl k) h = first_differs b 104 [] ((codes "ost.out(\"" ++ (cs ++ codes "\");")) ++ r) (λ e. absurd (omega arith))
statement_not b (Out cs) r (inr k) h = first_differs b 104 [] ((codes "ost.out(\"" ++ (cs ++ codes "\");")) ++ r) (λ e. absurd (omega arith))

statement_some : (s : FirstStatement) → 1 ≤ length (statement_text s)
statement_some (Call c) = omega arith
statement_some (Out cs) = omega arith

-- ---- statements in a row

abbrev pub closed_text : List FirstStatement → List ℕ
closed_text ss = flat_map statement_text ss ++ codes "}"

no_brace : (s : FirstStatement) (r : List ℕ) → IsStatement s → skip (codes "}") (statement_text s ++ r) ≡ None
no_brace s r h = statement_not 125 s r (inl (omega arith)) h

statements_sound : (bs rest : List ℕ) (ss : List FirstStatement) → statements bs ≡ Some (ss, rest) → All IsStatement ss × (closed_text ss ++ rest ≡ bs)
unfolding statements
statements_sound bs rest ss e =
    let h = up_to_sound IsStatement statement_text statement statement_reads (skip (codes "}")) (codes "}") (skip_sound (codes "}")) no_brace statement_some bs ss rest e in
    (h.0, append_assoc (flat_map statement_text ss) (codes "}") rest ∙ h.1)

statements_again : (ss : List FirstStatement) (rest : List ℕ) → All IsStatement ss → statements (closed_text ss ++ rest) ≡ Some (ss, rest)
unfolding statements
statements_again ss rest a =
    let list = up_to_again IsStatement statement_text statement statement_reads (skip (codes "}")) (codes "}") (skip_sound (codes "}")) no_brace statement_some ss rest a (skip_again (codes "}") rest) in
    ap statements (append_assoc (flat_map statement_text ss) (codes "}") rest) ∙ list

pub statements_reads : Reads (All IsStatement) closed_text Anything statements
statements_reads = record { sound = statements_sound; again = λ ss rest h _. statements_again ss rest h }

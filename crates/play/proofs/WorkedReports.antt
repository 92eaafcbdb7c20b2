-- Which reports the worked site allows.
use Rattle.std.proofs.Common.{◌≡◌, refl, sym, ap, ◌∙◌, ℕ, zero, suc, Bool, true, false, List, [], ◌∷◌, ◌++◌, length, map, codes, arith}
use Rattle.std.specs.Prelude.{nat_eq}
use Rattle.std.specs.Fmt.{digits}
use Rattle.play.specs.declared.outcome.End.{End}
use Rattle.play.specs.declared.outcome.End.TheVariants as end
use Rattle.play.specs.Report.{Line, line_text, lines_text}
use Rattle.play.specs.Headline.{calls, end_text}
use Rattle.play.specs.Rows as rows
use Rattle.play.specs.Rows.{out_line}
use Rattle.play.specs.RowsHeadline as headline
use Rattle.play.proofs.HeadlineLemmas.{played_shows, played_loads}
use Rattle.play.proofs.Reading as reading
use Rattle.play.proofs.ReportCalls.{scan, line_body, text_calls}

-- ---- calls

abbrev call_bodies : List (List ℕ)
call_bodies = codes "call out \"one\"" ∷ codes "call out \"two\"" ∷ codes "call out \"three\"" ∷ []

-- a report that ends has just these calls
three_calls : (report : List ℕ) → headline.Shows report end.Ended 100 → scan [] report ≡ call_bodies
three_calls report s =
    let e = text_calls report end.Ended rows.original_script 100 s refl in
    rw (s.whole refl) at e

-- ---- texts that differ

differ : true ≡ false → ⊥
differ e = cc

unequal : {A : Type 0} (test : A → Bool) (x y : A) → x ≡ y → test x ≡ true → test y ≡ false → ⊥
unequal test x y e a b = differ (sym a ∙ (ap test e ∙ b))

-- the byte at this place
abbrev byte : ℕ → List ℕ → ℕ
byte n [] = 0
byte zero (c ∷ cs) = c
byte (suc n) (c ∷ cs) = byte n cs

abbrev has : ℕ → ℕ → List ℕ → Bool
has c n text = nat_eq (byte n text) c

abbrev first : List (List ℕ) → List ℕ
first [] = []
first (t ∷ ts) = t

abbrev is_empty : List (List ℕ) → Bool
is_empty [] = true
is_empty (t ∷ ts) = false

abbrev are : ℕ → List (List ℕ) → Bool
are n ts = nat_eq (length ts) n

-- ---- other calls

pub call_more : headline.ShowsNot headline.call_more end.Ended 100
call_more s =
    unequal (are 4) (scan [] headline.call_more) call_bodies
    (three_calls headline.call_more s) refl refl

pub call_less : headline.ShowsNot headline.call_less end.Ended 100
call_less s =
    unequal (are 2) (scan [] headline.call_less) call_bodies
    (three_calls headline.call_less s) refl refl

-- the first text begins with `call out "t`
abbrev tells_two : List (List ℕ) → Bool
tells_two ts = has 116 10 (first ts)

pub other_order : headline.ShowsNot headline.other_order end.Ended 100
other_order s =
    unequal tells_two (scan [] headline.other_order) call_bodies
    (three_calls headline.other_order s) refl refl

pub uncaught_more : headline.ShowsNot headline.uncaught_more end.Ended 100
uncaught_more s =
    unequal (are 4) (scan [] headline.uncaught_more) call_bodies
    (three_calls headline.uncaught_more s) refl refl

abbrev not_a_front_text : List ℕ
not_a_front_text = codes "call out \"two\"\nend out-of-steps 100\n"

abbrev first_body : List Line → List ℕ
first_body ls = first (map line_body ls)

front_calls : (ls rest : List Line) → ls ++ rest ≡ headline.three_calls
    → scan [] not_a_front_text ≡ map line_body ls → ⊥
front_calls [] rest is e = unequal (are 1) (scan [] not_a_front_text) [] e refl refl
front_calls (l ∷ ls) rest is e =
    unequal (has 116 10) (first (scan [] not_a_front_text)) (codes "call out \"one\"")
    (ap first e ∙ ap first_body is) refl refl

pub not_a_front : headline.ShowsNot not_a_front_text end.OutOfSteps 100
not_a_front s =
    let w = s.within in
    front_calls (calls s.lines) w.rest w.is
    (text_calls not_a_front_text end.OutOfSteps rows.original_script 100 s refl)

abbrev no_call_text : List ℕ
no_call_text = codes "end out-of-steps 384\n"

pub no_call_yet : headline.ShowsNot no_call_text end.OutOfSteps 384
no_call_yet s =
    let r = s.reached 11 (omega arith) in
    let e = text_calls no_call_text end.OutOfSteps rows.original_script 384 s refl in
    unequal is_empty [] (map line_body (out_line (codes "one") ∷ r.rest))
    (e ∙ ap (map line_body) (sym r.is)) refl refl

same_end : end.OutOfSteps ≡ end.Ended → ⊥
same_end e = cc

pub out_of_steps : headline.ShowsNot headline.all_but_the_end end.OutOfSteps 896
out_of_steps s = same_end (s.ends 27 (omega arith) refl)

-- ---- other loads

abbrev text_of : List Line → End → ℕ → List ℕ
text_of lines e steps = lines_text lines ++ end_text e steps

-- a report that ends has just these lines
all_lines : (report : List ℕ) → (s : headline.Loads report end.Ended 100)
    → report ≡ text_of rows.lines end.Ended s.steps
all_lines report s = s.report_is ∙ ap (λ ls. text_of ls end.Ended s.steps) (s.whole refl)

pub loads_early : headline.LoadsNot headline.early_wait end.Ended 100
loads_early s =
    unequal (has 119 0) headline.early_wait (text_of rows.lines end.Ended s.steps)
    (all_lines headline.early_wait s) refl refl

pub loads_late : headline.LoadsNot headline.late_wait end.Ended 100
loads_late s =
    unequal (has 99 15) headline.late_wait (text_of rows.lines end.Ended s.steps)
    (all_lines headline.late_wait s) refl refl

pub loads_none : headline.LoadsNot headline.no_wait end.Ended 100
loads_none s =
    unequal (has 99 15) headline.no_wait (text_of rows.lines end.Ended s.steps)
    (all_lines headline.no_wait s) refl refl

pub loads_second : headline.LoadsNot headline.second_wait end.Ended 100
unfolding digits
loads_second s =
    unequal (has 119 50) headline.second_wait (text_of rows.lines end.Ended s.steps)
    (all_lines headline.second_wait s) refl refl

abbrev wait_text : List ℕ
wait_text = codes "wait 1\nend out-of-steps 100\n"

abbrev first_line : List Line → List ℕ
first_line [] = []
first_line (l ∷ ls) = line_text l

front_first : (ls rest : List Line) (steps : ℕ) → ls ++ rest ≡ rows.lines
    → wait_text ≡ text_of ls end.OutOfSteps steps → ⊥
front_first [] rest steps e t =
    unequal (has 119 0) wait_text (end_text end.OutOfSteps steps) t refl refl
front_first (l ∷ ls) rest steps e t =
    unequal (has 119 0) wait_text
    ((line_text (out_line (codes "one")) ++ lines_text ls) ++ end_text end.OutOfSteps steps)
    (t ∙ ap (λ u. (u ++ lines_text ls) ++ end_text end.OutOfSteps steps) (ap first_line e)) refl refl

pub loads_not_a_front : headline.LoadsNot wait_text end.OutOfSteps 100
loads_not_a_front s = let w = s.within in front_first s.lines w.rest s.steps w.is s.report_is

pub loads_not_yet : headline.LoadsNot no_call_text end.OutOfSteps 384
loads_not_yet s =
    let r = s.reached 11 (omega arith) in
    unequal (has 101 0) no_call_text
    (text_of (out_line (codes "one") ∷ r.rest) end.OutOfSteps s.steps)
    (s.report_is ∙ ap (λ ls. text_of ls end.OutOfSteps s.steps) (sym r.is)) refl refl

pub loads_out_of_steps : headline.LoadsNot headline.all_but_the_end end.OutOfSteps 896
loads_out_of_steps s = same_end (s.ends 27 (omega arith) refl)

-- ---- the report

pub shows : headline.Shows headline.report end.Ended 10000000
shows =
    played_shows rows.files rows.folder headline.page 10000000 rows.original_script reading.puts_back headline.report end.Ended reading.played_whole

pub loads : headline.Loads headline.report end.Ended 10000000
loads =
    played_loads rows.files rows.folder headline.page 10000000 rows.original_script reading.puts_back headline.report end.Ended reading.played_whole

-- The calls of a report by its text: those of its lines that begin as a call or as an uncaught exception.
use Rattle.std.proofs.Common.{◌≡◌, refl, ap, ◌∙◌, ℕ, zero, suc, ◌+◌, ◌%◌, ◌/◌, Bool, true, false, ◌&&◌, ◌||◌, List, [], ◌∷◌, ◌++◌, map, cond, codes, arith, append_assoc}
use Rattle.std.specs.Prelude.{nat_eq, nat_lt, ◌==◌, if◌then◌else◌}
use Rattle.std.proofs.lemmas.List.{append-nil}
use Rattle.std.proofs.lemmas.Bool.Decides.{nat_tests}
use Rattle.std.specs.List.{flat_map}
use Rattle.std.specs.Fmt.{digits, digits_onto, digit_glyph, decimal}
use Rattle.play.specs.Report.{Line, CallLine, UncaughtLine, IdleLine, EventLine, WaitLine, AskLine, HereLine, LostLine, CutLine, line_text, lines_text, argument_text}
use Rattle.play.specs.Headline.{calls, end_text, ShowsOriginal, original_calls}
use Rattle.play.specs.declared.outcome.End.{End}
use Rattle.play.specs.declared.outcome.End.TheVariants as end
use Rattle.js_tree.specs.Tree.{Script}

-- ---- texts without a line feed

abbrev pub free : List ℕ → Bool
free [] = true
free (c ∷ cs) = cond (nat_eq c 10) false (free cs)

not_and : (a b : Bool) → cond a false b ≡ true → (a ≡ false) × (b ≡ true)
not_and true b e = absurd cc
not_and false b e = (refl, e)

free_append : (u v : List ℕ) → free u ≡ true → free v ≡ true → free (u ++ v) ≡ true
free_append [] v a b = b
free_append (c ∷ cs) v a b =
    let p = not_and (nat_eq c 10) (free cs) a in rw p.0 (free_append cs v p.1 b)

free_glyph : (b : Bool) (d : ℕ) → nat_eq (if b then 48 + d else 87 + d) 10 ≡ false
free_glyph true d = grind (arith, nat_tests)
free_glyph false d = grind (arith, nat_tests)

free_if : (b : Bool) (x y : List ℕ) → free x ≡ true → free y ≡ true
    → free (if b then x else y) ≡ true
free_if true x y a b = a
free_if false x y a b = b

free_onto : (k n : ℕ) (acc : List ℕ) → free acc ≡ true → free (digits_onto k 10 false n acc) ≡ true
free_onto zero n acc a = a
free_onto (suc k) n acc a =
    let more : free (digit_glyph false (n % 10) ∷ acc) ≡ true = rw (free_glyph (nat_lt (n % 10) 10) (n % 10)) a in
    free_if (n / 10 == 0) (digit_glyph false (n % 10) ∷ acc)
    (digits_onto k 10 false (n / 10) (digit_glyph false (n % 10) ∷ acc)) more (free_onto k (n / 10) _ more)

free_decimal : (n : ℕ) → free (decimal n) ≡ true
unfolding digits
free_decimal n = free_onto 64 n [] refl

-- ---- the lines of a text

abbrev begins_call : List ℕ → Bool
begins_call (c ∷ d ∷ cs) = nat_eq c 117 || (nat_eq c 99 && nat_eq d 97)
begins_call _ = false

abbrev kept : List ℕ → List (List ℕ) → List (List ℕ)
kept line rest = cond (begins_call line) (line ∷ rest) rest

-- the lines that begin so, without their line feeds, behind what stands before the text
abbrev pub scan : List ℕ → List ℕ → List (List ℕ)
scan front [] = []
scan front (c ∷ cs) = cond (nat_eq c 10) (kept front (scan [] cs)) (scan (front ++ c ∷ []) cs)

scan_line : (u front rest : List ℕ) → free u ≡ true
    → scan front (u ++ (10 ∷ rest)) ≡ kept (front ++ u) (scan [] rest)
scan_line [] front rest f = rw (append-nil front)
scan_line (c ∷ cs) front rest f =
    let p = not_and (nat_eq c 10) (free cs) f in
    rw p.0 (scan_line cs (front ++ c ∷ []) rest p.1 ∙ rw (append_assoc front (c ∷ []) cs))

-- ---- the lines of a report

-- a line without its line feed
abbrev pub line_body : Line → List ℕ
line_body (CallLine name args) = codes "call " ++ (name ++ flat_map argument_text args)
line_body (UncaughtLine v) = codes "uncaught" ++ argument_text v
line_body IdleLine = codes "idle"
line_body (EventLine k) = codes "event " ++ decimal k
line_body (WaitLine c) = codes "wait " ++ decimal c
line_body (AskLine c) = codes "ask " ++ decimal c
line_body (HereLine c) = codes "here " ++ decimal c
line_body (LostLine c) = codes "lost " ++ decimal c
line_body (CutLine c) = codes "cut " ++ decimal c

ends_so : (l : Line) (rest : List ℕ) → line_text l ++ rest ≡ line_body l ++ (10 ∷ rest)
ends_so (CallLine name args) rest = simp append_assoc
ends_so (UncaughtLine v) rest = simp append_assoc
ends_so IdleLine rest = refl
ends_so (EventLine k) rest = simp append_assoc
ends_so (WaitLine c) rest = simp append_assoc
ends_so (AskLine c) rest = simp append_assoc
ends_so (HereLine c) rest = simp append_assoc
ends_so (LostLine c) rest = simp append_assoc
ends_so (CutLine c) rest = simp append_assoc

one_line : (l : Line) (ls : List Line) (tail : List ℕ) → free (line_body l) ≡ true
    → scan [] (lines_text (l ∷ ls) ++ tail) ≡ kept (line_body l) (scan [] (lines_text ls ++ tail))
one_line l ls tail f =
    ap (scan [])
    (append_assoc (line_text l) (lines_text ls) tail ∙ ends_so l (lines_text ls ++ tail)) ∙ scan_line (line_body l) [] (lines_text ls ++ tail) f

abbrev pub all_free : List Line → Bool
all_free [] = true
all_free (l ∷ ls) = free (line_body l) && all_free ls

and_both : (a b : Bool) → a && b ≡ true → (a ≡ true) × (b ≡ true)
and_both true b e = (refl, e)
and_both false b e = absurd cc

shown : (ls : List Line) (tail : List ℕ) → all_free (calls ls) ≡ true
    → scan [] (lines_text ls ++ tail) ≡ map line_body (calls ls) ++ scan [] tail
shown [] tail f = refl
shown (CallLine name args ∷ ls) tail f =
    let p = and_both (free (line_body (CallLine name args))) (all_free (calls ls)) f in
    one_line (CallLine name args) ls tail p.0 ∙ ap (λ ts. line_body (CallLine name args) ∷ ts)
    (shown ls tail p.1)
shown (UncaughtLine v ∷ ls) tail f =
    let p = and_both (free (line_body (UncaughtLine v))) (all_free (calls ls)) f in
    one_line (UncaughtLine v) ls tail p.0 ∙ ap (λ ts. line_body (UncaughtLine v) ∷ ts)
    (shown ls tail p.1)
shown (IdleLine ∷ ls) tail f = one_line IdleLine ls tail refl ∙ shown ls tail f
shown (EventLine k ∷ ls) tail f = one_line (EventLine k) ls tail (free_decimal k) ∙ shown ls tail f
shown (WaitLine k ∷ ls) tail f = one_line (WaitLine k) ls tail (free_decimal k) ∙ shown ls tail f
shown (AskLine k ∷ ls) tail f = one_line (AskLine k) ls tail (free_decimal k) ∙ shown ls tail f
shown (HereLine k ∷ ls) tail f = one_line (HereLine k) ls tail (free_decimal k) ∙ shown ls tail f
shown (LostLine k ∷ ls) tail f = one_line (LostLine k) ls tail (free_decimal k) ∙ shown ls tail f
shown (CutLine k ∷ ls) tail f = one_line (CutLine k) ls tail (free_decimal k) ∙ shown ls tail f

-- the last line without its line feed
abbrev end_body : End → ℕ → List ℕ
end_body end.Ended steps = codes "end ended " ++ decimal steps
end_body end.OutOfSteps steps = codes "end out-of-steps " ++ decimal steps

end_so : (e : End) (steps : ℕ) → end_text e steps ≡ end_body e steps ++ (10 ∷ [])
end_so end.Ended steps = simp append_assoc
end_so end.OutOfSteps steps = simp append_assoc

last_line : (e : End) (steps : ℕ) → scan [] (end_text e steps) ≡ []
last_line end.Ended steps =
    ap (scan []) (end_so end.Ended steps) ∙ scan_line (end_body end.Ended steps) [] []
    (free_decimal steps)
last_line end.OutOfSteps steps =
    ap (scan []) (end_so end.OutOfSteps steps) ∙ scan_line (end_body end.OutOfSteps steps) [] []
    (free_decimal steps)

all_free_front : (xs ys : List Line) → all_free (xs ++ ys) ≡ true → all_free xs ≡ true
all_free_front [] ys f = refl
all_free_front (x ∷ xs) ys f =
    let p = and_both (free (line_body x)) (all_free (xs ++ ys)) f in
    rw p.0 (all_free_front xs ys p.1)

-- the calls of a report that shows a script are those of its text
pub text_calls : (report : List ℕ) (e : End) (script : Script) (n : ℕ)
    → (s : ShowsOriginal report e script n)
    → all_free (original_calls script n) ≡ true → scan [] report ≡ map line_body (calls s.lines)
text_calls report e script n s f =
    let within = s.within in
    let front = all_free_front (calls s.lines) within.rest (rw within.is f) in
    ap (scan []) s.report_is ∙
    (shown s.lines (end_text e s.steps) front ∙ (ap (λ t. map line_body (calls s.lines) ++ t) (last_line e s.steps) ∙ append-nil (map line_body (calls s.lines))))

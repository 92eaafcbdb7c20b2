-- Laws of the end of a comment.
use Rattle.std.proofs.Common.{◌≡◌, ℕ, suc, ◌+◌, ◌<◌, ◌≤◌, Bool, true, false, List, drop, length, Option, Some, None, cond, refl, ap, ◌∙◌, arith}
use Rattle.std.specs.Option.{option_map}
use Rattle.std.proofs.lemmas.List.{at_drop_more, at_drop_all}
use Rattle.js_lexer.specs.Fronts.{comment_end, closes_comment}

-- so many characters further on
abbrev pub shifted : ℕ → Option ℕ → Option ℕ
shifted i None = None
shifted i (Some n) = Some (i + n)

shifted_suc : (i : ℕ) (o : Option ℕ) → shifted i (option_map suc o) ≡ shifted (i + 1) o
shifted_suc i None = refl
shifted_suc i (Some n) = ap Some (omega arith)

shifted_cond : (b : Bool) (i : ℕ) (o : Option ℕ) → shifted i (cond b (Some 2) (option_map suc o)) ≡ cond b (Some (i + 2)) (shifted (i + 1) o)
shifted_cond true i o = refl
shifted_cond false i o = shifted_suc i o

pub comment_end_more : (cs : List ℕ) (i : ℕ) → i < length cs → shifted i (comment_end (drop i cs)) ≡ cond (closes_comment (drop i cs)) (Some (i + 2)) (shifted (i + 1) (comment_end (drop (i + 1) cs)))
comment_end_more cs i lt = rw (at_drop_more (λ ds. ds) cs i 0 lt) (shifted_cond _ i (comment_end (drop (i + 1) cs)))

pub comment_end_none : (cs : List ℕ) (i : ℕ) → length cs ≤ i → shifted i (comment_end (drop i cs)) ≡ None
comment_end_none cs i le = ap (shifted i) (at_drop_all comment_end cs i le)

pub comment_end_on : (cs : List ℕ) (i : ℕ) → i < length cs → closes_comment (drop i cs) ≡ false → comment_end cs ≡ shifted i (comment_end (drop i cs)) → comment_end cs ≡ shifted (i + 1) (comment_end (drop (i + 1) cs))
comment_end_on cs i lt open_still e = e ∙ comment_end_more cs i lt ∙ ap (λ b. cond b (Some (i + 2)) (shifted (i + 1) (comment_end (drop (i + 1) cs)))) open_still

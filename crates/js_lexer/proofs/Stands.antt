-- What was read of a text that begins with no quote stands there.
use Rattle.std.proofs.Common.{◌≡◌, ℕ, false, List, ◌∷◌, Result, Ok, Err, IfOk, sym, subst}
use Rattle.js_lexer.specs.declared.front.Front.{Front}
use Rattle.js_lexer.specs.Fronts.{StandsAt, other, front_by, is_quote}

pub other_stands : {E : Type 0} (r : Result Front E) (c : ℕ) (cs text : List ℕ) → text ≡ c ∷ cs → is_quote c ≡ false → IfOk r (λ front. front ≡ front_by c cs) → IfOk r (StandsAt text)
other_stands (Ok front) c cs text e q h = subst (λ t. StandsAt t front) (sym e) (subst (StandsAt (c ∷ cs)) (sym h) (other q))
other_stands (Err e) c cs text e' q h = tt

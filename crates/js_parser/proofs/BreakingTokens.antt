-- Breaking tokens.
use Rattle.std.proofs.Common.{◌≡◌, ℕ, List, [], ◌∷◌, ◌++◌, refl, ap, sym, ◌∙◌, subst}
use Rattle.std.proofs.lemmas.List.{append-nil, append_assoc, map-append}
use Rattle.js_lexer.specs.declared.token.Token.{Token}
use Rattle.js_tree.specs.Tree.{Script}
use Rattle.js_parser.specs.declared.form.Form.{Form}
use Rattle.js_parser.specs.Symbols.{symbol, symbols}
use Rattle.js_parser.specs.Accepted.{IsUnlimited}
use Rattle.js_parser.specs.Fault.{Begins, Breaks}

-- what begins a script is begun by each of its fronts
fronts : (form : Form) (functions : ℕ) (u v : List Token) → Begins form functions (symbols (u ++ v)) → Begins form functions (symbols u)
fronts form functions u v h = record {
  more = symbols v ++ h.more;
  tree = h.tree;
  unlimited = subst (λ t. IsUnlimited form functions t h.tree) (ap (λ t. t ++ h.more) (map-append symbol u v) ∙ append_assoc (symbols u) (symbols v) h.more) h.unlimited;
}

whole : (form : Form) (functions : ℕ) (u : List Token) (tree : Script) → IsUnlimited form functions (symbols u) tree → Begins form functions (symbols u)
whole form functions u tree h = record { more = []; tree = tree; unlimited = subst (λ t. IsUnlimited form functions t tree) (sym (append-nil (symbols u))) h }

pub not_broken : (form : Form) (functions : ℕ) (tokens used : List Token) (token : Token) (tree : Script) → IsUnlimited form functions (symbols tokens) tree → Breaks form functions tokens used token → ⊥
not_broken form functions tokens used token tree h b =
    b.ends (fronts form functions (used ++ (token ∷ [])) b.rest
    (subst (λ t. Begins form functions (symbols t)) (b.whole ∙ sym (append_assoc used (token ∷ []) b.rest)) (whole form functions tokens tree h)))

abbrev head : Token → List Token → Token
head t [] = t
head t (u ∷ us) = u

abbrev tail : List Token → List Token
tail [] = []
tail (u ∷ us) = us

-- of two lists that go on to one, one is a front of the other
data Fork (used others : List Token) (token other : Token) : Type 0 where
  same : used ≡ others → token ≡ other → Fork used others token other
  before : (v : List Token) → others ≡ (used ++ (token ∷ [])) ++ v → Fork used others token other
  behind : (v : List Token) → used ≡ (others ++ (other ∷ [])) ++ v → Fork used others token other

forked : (t : Token) {used others : List Token} {token other : Token} → Fork used others token other → Fork (t ∷ used) (t ∷ others) token other
forked t (same e f) = same (ap (λ u. t ∷ u) e) f
forked t (before v e) = before v (ap (λ u. t ∷ u) e)
forked t (behind v e) = behind v (ap (λ u. t ∷ u) e)

fork : (used others rest more : List Token) (token other : Token) → used ++ (token ∷ rest) ≡ others ++ (other ∷ more) → Fork used others token other
fork [] [] rest more token other e = same refl (ap (head token) e)
fork [] (o ∷ others) rest more token other e = before others (ap (λ t. t ∷ others) (sym (ap (head token) e)))
fork (u ∷ used) [] rest more token other e = behind used (ap (λ t. t ∷ used) (ap (head u) e))
fork (u ∷ used) (o ∷ others) rest more token other e =
    subst (λ t. Fork (u ∷ used) (t ∷ others) token other) (ap (head u) e) (forked u (fork used others rest more token other (ap tail e)))

-- a token with which nothing begins is in nothing that begins
inside : (form : Form) (functions : ℕ) (used others v : List Token) (token : Token) → others ≡ (used ++ (token ∷ [])) ++ v → (Begins form functions (symbols (used ++ (token ∷ []))) → ⊥)
    → Begins form functions (symbols others) → ⊥
inside form functions used others v token e away h = away (fronts form functions (used ++ (token ∷ [])) v (subst (λ t. Begins form functions (symbols t)) e h))

decided : (form : Form) (functions : ℕ) (tokens used others : List Token) (token other : Token) → Breaks form functions tokens used token → Breaks form functions tokens others other
    → Fork used others token other → (used ≡ others) × (token ≡ other)
decided form functions tokens used others token other a b (same e f) = (e, f)
decided form functions tokens used others token other a b (before v e) = absurd (inside form functions used others v token e a.ends b.begins)
decided form functions tokens used others token other a b (behind v e) = absurd (inside form functions others used v other e b.ends a.begins)

pub one_breaking : (form : Form) (functions : ℕ) (tokens used others : List Token) (token other : Token) → Breaks form functions tokens used token → Breaks form functions tokens others other
    → (used ≡ others) × (token ≡ other)
one_breaking form functions tokens used others token other a b =
    decided form functions tokens used others token other a b (fork used others a.rest b.rest token other (sym a.whole ∙ b.whole))

-- Each front of the front of a script is the front of a script too, to which no function needs to be added.
use Rattle.std.proofs.Common.{◌≡◌, ℕ, zero, suc, ◌<◌, true, [], ◌∷◌, ◌++◌, refl, ap, ◌∙◌, subst, arith}
use Rattle.std.proofs.lemmas.List.{append_assoc}
use Rattle.js_lexer.specs.declared.word.Word.TheVariants as w
use Rattle.js_lexer.specs.declared.token.TokenKind.{TokenKind}
use Rattle.js_lexer.specs.declared.token.TokenKind.TheVariants as k
use Rattle.js_parser.specs.declared.form.Form.{Form}
use Rattle.js_parser.specs.Symbols.{Symbol, Symbols, are_regular}
use Rattle.js_parser.specs.Accepted.{counted, functions_in}
use Rattle.js_parser.specs.Fault.{Begins}
use Rattle.js_parser.specs.Rooms.{unbounded}
use Rattle.js_parser.specs.Machine.{State, done, Goes, here, then_on, script}
use Rattle.js_parser.proofs.Counts.{functions-join}
use Rattle.js_parser.proofs.OneTree.{reads_unbounded}
use Rattle.js_parser.proofs.ReadScriptTrees.{script-read}
use Rattle.js_parser.proofs.FrontsFinish.{no_oddity, Ending}
use Rattle.js_parser.proofs.FrontsReady.{Front, Can, at_end, equal}
use Rattle.js_parser.proofs.FrontsGoOn.{ending-moved, advance, onwards-ending, start}
use Rattle.js_parser.proofs.FrontsScripts.{is_done, regular-join}

-- ---- a run that is done

-- No tokens of what is read are left where the run is done.
passed : {h : Front} {s : State} {g : Symbols → State} → Can h s g → is_done s ≡ true → Ending h.form g
passed (at_end e) is = e
passed (equal d e) is = ending-moved e (passed d is)
passed _ is = absurd cc

passes : {h : Front} {s u : State} {g : Symbols → State} → Goes h.form s u → Can h s g → is_done u ≡ true → Ending h.form g
passes here d is = passed d is
passes (then_on run) d is = onwards-ending (λ f c. passes run c is) (advance d)

-- A front of a front of a script is one, without further functions.
pub front_of_front : (form : Form) (functions : ℕ) (used more : Symbols) → are_regular used ≡ true → Begins form functions (used ++ more) → Begins form (functions_in used) used
front_of_front form functions used more regular b =
    let run : Goes form (script unbounded (used ++ (more ++ b.more))) (done b.tree) = subst (λ ts. Goes form (script unbounded ts) (done b.tree)) (append_assoc used more b.more)
    (reads_unbounded form ((used ++ more) ++ b.more) b.tree b.unlimited.derives) in
    let d = passes run (start (record { form = form; rest = more ++ b.more }) unbounded used) refl in
    let plain = no_oddity d.more d.plain in let none = plain.0 in
    let derived = (script-read form unbounded (used ++ d.more) d.tree (regular-join used d.more regular plain.1) d.run).0 in
    let count = functions-join used d.more in
    record { more = d.more; tree = d.tree; unlimited = record { derives = derived; few_functions = omega (arith, count, none) } }

-- ---- the first function too many

-- a word `function` with so many before it
abbrev Over : ℕ → Symbols → Type 0
Over n ts = (front : Symbols) × (f : Symbol) × (rest : Symbols) × (ts ≡ front ++ (f ∷ rest)) × (f.kind ≡ k.Word w.Function) × (functions_in front ≡ n)

over-at : (n : ℕ) (s : Symbol) (ts : Symbols) (kind : TokenKind) → s.kind ≡ kind → ((m : ℕ) → m < functions_in ts → Over m ts) → n < counted kind (functions_in ts) → Over n (s ∷ ts)
over-at zero s ts (k.Word w.Function) e behind h = ([], s, ts, refl, e, refl)
over-at (suc n) s ts (k.Word w.Function) e behind h =
    let o = behind n (omega (arith, h)) in (s ∷ o.0, o.1, o.2, ap (λ l. s ∷ l) o.3, o.4, ap (λ kind. counted kind (functions_in o.0)) e ∙ ap suc o.5)
over-at n s ts _ e behind h =
    let o = behind n h in (s ∷ o.0, o.1, o.2, ap (λ l. s ∷ l) o.3, o.4, ap (λ kind. counted kind (functions_in o.0)) e ∙ o.5)

-- Where there are more words `function` than so many, one has so many before it.
pub first_over : (n : ℕ) (ts : Symbols) → n < functions_in ts → (front : Symbols) × (f : Symbol) × (rest : Symbols) × (ts ≡ front ++ (f ∷ rest)) × (f.kind ≡ k.Word w.Function) × (functions_in front ≡ n)
first_over n [] h = absurd (omega (arith, h))
first_over n (s ∷ ts) h = over-at n s ts s.kind refl (λ m i. first_over m ts i) h

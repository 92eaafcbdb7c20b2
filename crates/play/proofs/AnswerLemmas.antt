-- How the answer of a run is composed of its parts.
use Rattle.std.proofs.Common.{◌≡◌, ℕ, suc, ◌+◌, List, [], ◌∷◌, ◌++◌, length, take, Some, None, refl, sym, ap, ◌∙◌, subst, arith, append_assoc}
use Rattle.std.proofs.lemmas.List.{append-nil}
use Rattle.std.specs.Prelude.{Result, Ok, Err, IfOk, IfErr}
use Rattle.dl_ports.specs.Files.{Files, and_name}
use Rattle.play.specs.declared.table.Table.{Table}
use Rattle.play.specs.declared.machine.Machine.{Machine}
use Rattle.play.specs.declared.outcome.Outcome.{Outcome}
use Rattle.play.specs.declared.outcome.End.{End}
use Rattle.play.specs.declared.outcome.FirstError.{FirstError}
use Rattle.play.specs.declared.outcome.FirstError.TheVariants.{ReadFault, Missing, First, OutOfMemory}
use Rattle.play.specs.declared.outcome.FirstFile.{FirstFile}
use Rattle.play.specs.Played.{Gives, Lacks, Refuses, Answered, after_name, file_of}
use Rattle.play.specs.Site.{entries}
use Rattle.play.specs.Machine.{Keeps, Ends}
use Rattle.dl_ports.specs.Stores.{AskedNames, and_names, AsksFront}
use Rattle.play.specs.Answers.{ErrorMeets, Meets, NeedFails, Loads, Ahead, site_left, SiteAgrees}
use Rattle.play.proofs.LoadLemmas.{front_none, one_name, front_one, front_either}

-- ---- names

and_more : (asked : AskedNames) (xs ys : List (List ℕ)) → and_names (and_names asked xs) ys ≡ and_names asked (xs ++ ys)
and_more None xs ys = refl
and_more (Some before) xs ys = ap Some (append_assoc before xs ys)

take_more : (xs ys : List (List ℕ)) (k : ℕ) → take (length xs + k) (xs ++ ys) ≡ xs ++ take k ys
take_more [] ys k = let z : 0 + k ≡ k = omega arith in ap (λ n. take n ys) z
take_more (x ∷ xs) ys k =
    let z : suc (length xs) + k ≡ suc (length xs + k) = omega arith in
    ap (λ n. take n (x ∷ (xs ++ ys))) z ∙ ap (λ l. x ∷ l) (take_more xs ys k)

-- a front of the rest, after all of the names before it
front_on : (before now later : AskedNames) (names rest whole : List (List ℕ)) → now ≡ and_names before names → names ++ rest ≡ whole → AsksFront now later rest → AsksFront before later whole
front_on before now later names rest whole asked w h = (
  length names + h.0,
  h.1 ∙ (ap (λ z. and_names z (take h.0 rest)) asked
      ∙ (and_more before names (take h.0 rest)
      ∙ (ap (and_names before) (sym (take_more names rest h.0))
      ∙ ap (λ w. and_names before (take (length names + h.0) w)) w))),
)

all_on : (before now later : AskedNames) (names rest whole : List (List ℕ)) → now ≡ and_names before names → names ++ rest ≡ whole → later ≡ and_names now rest → later ≡ and_names before whole
all_on before now later names rest whole asked w h =
    h ∙ (ap (λ z. and_names z rest) asked ∙ (and_more before names rest ∙ ap (and_names before) w))

-- ---- a run that is under way

module _ (files : Files) (folder : List ℕ) (whole : Answered) (before now : AskedNames) (t : Table) (m : Machine) (a : Ahead files folder whole before now t m) where
  pub ahead_memory : AsksFront before now whole.asked
  ahead_memory = front_on before now now a.names (site_left files folder t m).asked whole.asked a.asked_is a.rest_is (front_none now (site_left files folder t m).asked)

  pub ahead_refused : (later : AskedNames) (e : FirstError) → ErrorMeets (site_left files folder t m) now later e → ErrorMeets whole before later e
  ahead_refused later ReadFault h = front_on before now later a.names (site_left files folder t m).asked whole.asked a.asked_is a.rest_is h
  ahead_refused later (Missing name) h = (sym a.answer_is ∙ h.0, all_on before now later a.names (site_left files folder t m).asked whole.asked a.asked_is a.rest_is h.1)
  ahead_refused later (First file) h = (sym a.answer_is ∙ h.0, all_on before now later a.names (site_left files folder t m).asked whole.asked a.asked_is a.rest_is h.1)
  ahead_refused later OutOfMemory h = front_on before now later a.names (site_left files folder t m).asked whole.asked a.asked_is a.rest_is h

  pub ahead_kept : (new : Machine) → Keeps t m new → Ahead files folder whole before now t new
  ahead_kept new k =
      let same : site_left files folder t new ≡ site_left files folder t m = k.same (entries files folder t.manifest) folder (file_of files folder t.manifest) a.agrees in
      record {
        names = a.names;
        asked_is = a.asked_is;
        answer_is = ap (λ (r : Answered). r.answer) same ∙ a.answer_is;
        rest_is = ap (λ (r : Answered). a.names ++ r.asked) same ∙ a.rest_is;
        agrees = a.agrees;
      }

  pub ahead_loaded : (new : Table) (moved : Machine) (later : AskedNames) → Loads files folder t new m moved now later → Ahead files folder whole before later new moved
  ahead_loaded new moved later l = record {
    names = a.names ++ l.name ∷ [];
    asked_is = l.asked_is ∙ (ap (λ z. and_names z (l.name ∷ [])) a.asked_is ∙ and_more before a.names (l.name ∷ []));
    answer_is = ap (λ (r : Answered). r.answer) (sym l.left) ∙ a.answer_is;
    rest_is = append_assoc a.names (l.name ∷ []) (site_left files folder new moved).asked ∙ (ap (λ (r : Answered). a.names ++ r.asked) (sym l.left) ∙ a.rest_is);
    agrees = l.agrees a.agrees;
  }

  pub ahead_ended : (new : Machine) (text : ℕ → List ℕ) (e : End) (result : Result Outcome FirstError) → Ends t m new text e
      → IfOk result (λ o. (o.report ≡ new.report ++ text new.clock.steps) × (o.end ≡ e)) → IfErr result (λ x. x ≡ OutOfMemory) → Meets whole before now result
  ahead_ended new text e (Ok o) ends f memory =
      let is : site_left files folder t m ≡ record { answer = Gives (new.report ++ text new.clock.steps) e; asked = [] } = ends (entries files folder t.manifest) folder (file_of files folder t.manifest) a.agrees in (
        sym a.answer_is ∙ (ap (λ (r : Answered). r.answer) is ∙ (ap (λ report. Gives report e) (sym f.0) ∙ ap (λ z. Gives o.report z) (sym f.1))),
        a.asked_is ∙ ap (and_names before) (sym (append-nil a.names) ∙ (ap (λ (r : Answered). a.names ++ r.asked) (sym is) ∙ a.rest_is)),
      )
  ahead_ended new text e (Err x) ends f memory = subst (ErrorMeets whole before now) (sym memory) ahead_memory

pub ahead_first : (files : Files) (folder : List ℕ) (asked : AskedNames) (t : Table) (m : Machine) → SiteAgrees files folder t → Ahead files folder (site_left files folder t m) asked asked t m
ahead_first files folder asked t m ag = record {
  names = [];
  asked_is = none asked;
  answer_is = refl;
  rest_is = refl;
  agrees = ag;
}
  where
    none : (asked : AskedNames) → asked ≡ and_names asked []
    none None = refl
    none (Some before) = ap Some (sym (append-nil before))

-- ---- a file, and what comes after it

module _ (name : List ℕ) (before now : AskedNames) where
  -- the file was read
  pub after_meets : (r : Answered) (later : AskedNames) (result : Result Outcome FirstError) → now ≡ and_name before name → Meets r now later result → Meets (after_name name r) before later result
  after_meets r later (Ok o) h m = (m.0, all_on before now later (name ∷ []) r.asked (name ∷ r.asked) (h ∙ one_name before name) refl m.1)
  after_meets r later (Err ReadFault) h m = front_on before now later (name ∷ []) r.asked (name ∷ r.asked) (h ∙ one_name before name) refl m
  after_meets r later (Err (Missing missing)) h m = (m.0, all_on before now later (name ∷ []) r.asked (name ∷ r.asked) (h ∙ one_name before name) refl m.1)
  after_meets r later (Err (First file)) h m = (m.0, all_on before now later (name ∷ []) r.asked (name ∷ r.asked) (h ∙ one_name before name) refl m.1)
  after_meets r later (Err OutOfMemory) h m = front_on before now later (name ∷ []) r.asked (name ∷ r.asked) (h ∙ one_name before name) refl m

  -- it was not
  pub need_meets : (files : Files) (r : Answered) (e : FirstError) → (files name ≡ None → r ≡ record { answer = Lacks name; asked = [] }) → NeedFails files name before now e → ErrorMeets (after_name name r) before now e
  need_meets files r ReadFault lacks h = front_one before now name r.asked h
  need_meets files r (Missing missing) lacks h = (
    ap (λ (r : Answered). r.answer) (lacks h.1) ∙ ap Lacks (sym h.0),
    h.2 ∙ (one_name before name ∙ ap (λ (r : Answered). and_names before (name ∷ r.asked)) (sym (lacks h.1))),
  )
  need_meets files r (First file) lacks h = absurd h
  need_meets files r OutOfMemory lacks h = front_either before now name r.asked h

  pub refused_meets : (r : Answered) (file : FirstFile) → now ≡ and_name before name → r ≡ record { answer = Refuses file; asked = [] } → ErrorMeets (after_name name r) before now (First file)
  refused_meets r file h is = (
    ap (λ (r : Answered). r.answer) is,
    h ∙ (one_name before name ∙ ap (λ (r : Answered). and_names before (name ∷ r.asked)) (sym is)),
  )

-- What is left of a run behind what was asked of the host.
use Rattle.std.proofs.Common.{◌≡◌, List, [], ◌∷◌, ◌++◌, refl, sym, ap, ◌∙◌}
use Rattle.std.proofs.lemmas.List.{append_assoc, append-nil}
use Rattle.js_machine.specs.declared.frame.Control.{Control}
use Rattle.js_machine.specs.declared.machine.Machine.{Machine}
use Rattle.js_machine.specs.Given.{Answers, Asked, Goes, LeadsTo, after, after_one}
use Rattle.js_machine.specs.Rest.{Left, Outside, Same, at, rest}
use Rattle.js_machine.specs.Run.{Trace}

-- ---- runs that go on as others

pub goes_from : (asks : List Asked) (out : Outside) (s t u : Trace) → s ≡ t → Goes asks out t u → Goes asks out s u
goes_from [] out s t u e g = e ∙ g
goes_from (a ∷ asks) out s t u e g = (g.0, ((g.1.0.0, e ∙ g.1.0.1), g.1.1))

pub goes_to : (asks : List Asked) (out : Outside) (t u v : Trace) → Goes asks out t u → u ≡ v → Goes asks out t v
goes_to [] out t u v g e = g ∙ e
goes_to (a ∷ asks) out t u v g e = (g.0, (g.1.0, goes_to asks (after_one a out) g.0 u v g.1.1 e))

goes_on : (asks bs : List Asked) (out : Outside) (t u v : Trace) → Goes asks out t u → Goes bs (after asks out) u v → Goes (asks ++ bs) out t v
goes_on [] bs out t u v g h = goes_from bs out t u v g h
goes_on (a ∷ asks) bs out t u v g h = (g.0, (g.1.0, goes_on asks bs (after_one a out) g.0 u v g.1.1 h))

after_both : (asks bs : List Asked) (out : Outside) → after bs (after asks out) ≡ after (asks ++ bs) out
after_both [] bs out = refl
after_both (a ∷ asks) bs out = after_both asks bs (after_one a out)

answers_both : (asks bs : List Asked) (out : Outside) → Answers (asks ++ bs) out → Answers asks out × Answers bs (after asks out)
answers_both [] bs out h = (tt, h)
answers_both (a ∷ asks) bs out h = let more = answers_both asks bs (after_one a out) h.1 in ((h.0, more.0), more.1)

-- ---- machines

module _ (left : Left) (old : Machine) (given : List Asked) where
  pub unasked : (next : Control) (new : Machine) → Same left old next new → LeadsTo left old given next new given
  unasked next new same = ([], (sym (append-nil given), λ out answers. same out))

  pub asked_before : (c d : Control) (m new : Machine) (told : List Asked) → LeadsTo left old given c m told → Same (rest c) m d new → LeadsTo left old given d new told
  asked_before c d m new told asked same = (
    asked.0,
    (
      asked.1.0,
      λ out answers. goes_to asked.0 out (at left old out) (at (rest c) m (after asked.0 out)) (at (rest d) new (after asked.0 out))
          (asked.1.1 out answers) (same (after asked.0 out)),
    ),
  )

  pub asked_more : (c d : Control) (m new : Machine) (told all : List Asked) → LeadsTo left old given c m told → LeadsTo (rest c) m told d new all → LeadsTo left old given d new all
  asked_more c d m new told all asked more = (
    asked.0 ++ more.0,
    (
      more.1.0 ∙ (ap (λ told. told ++ more.0) asked.1.0 ∙ append_assoc given asked.0 more.0),
      λ out answers. let both = answers_both asked.0 more.0 out answers in
          goes_to (asked.0 ++ more.0) out (at left old out) (at (rest d) new (after more.0 (after asked.0 out))) (at (rest d) new (after (asked.0 ++ more.0) out))
          (goes_on asked.0 more.0 out (at left old out) (at (rest c) m (after asked.0 out)) (at (rest d) new (after more.0 (after asked.0 out)))
          (asked.1.1 out both.0) (more.1.1 (after asked.0 out) both.1))
          (ap (at (rest d) new) (after_both asked.0 more.0 out)),
    ),
  )

-- The loader: which clusters were asked for and which are here, and what each event does.
use Rattle.std.specs.Prelude.{ℕ, ◌-◌, List, [], ◌∷◌, ◌++◌, map, filter, take, Option, Some, None, cond, nat_eq, Bool, true, false, count_by}
use Rattle.play.specs.Report.{Line, WaitLine, AskLine, HereLine, LostLine, CutLine}

-- ---- the state

pub data Status : Type 0 where
  Absent : Status
  Asked : Status
  Here : Status

-- the status of each cluster, in rising order of the clusters
abbrev pub Statuses : Type 0
Statuses = List (ℕ × Status)

pub record Loader : Type 0 where
  pub table : Statuses
  pub waited : Option ℕ
  pub background : Bool

-- all clusters begin absent
abbrev pub fresh : List ℕ → Loader
fresh clusters = record { table = map (λ c. (c, Absent)) clusters; waited = None; background = false }

abbrev pub status_of : Statuses → ℕ → Status
status_of [] c = Absent
status_of (p ∷ ps) c = cond (nat_eq p.0 c) p.1 (status_of ps c)

abbrev pub with_status : Statuses → ℕ → Status → Statuses
with_status [] c new = []
with_status (p ∷ ps) c new = cond (nat_eq p.0 c) ((p.0, new) ∷ ps) (p ∷ with_status ps c new)

-- ---- the events

pub data Event : Type 0 where
  Need : (c : ℕ) → Event
  Arrive : (c : ℕ) → Event
  Lose : (c : ℕ) → Event
  Cut : (c : ℕ) → Event
  Idle : Event

pub record Moved : Type 0 where
  pub loader : Loader
  pub lines : List Line

abbrev pub stays : Loader → Moved
stays l = record { loader = l; lines = [] }

abbrev pub moves : Statuses → Option ℕ → Bool → List Line → Moved
moves table waited background lines = record { loader = record { table = table; waited = waited; background = background }; lines = lines }

abbrev pub is_waited : Option ℕ → ℕ → Bool
is_waited None c = false
is_waited (Some d) c = nat_eq d c

abbrev pub not_waited : Option ℕ → ℕ → Option ℕ
not_waited waited c = cond (is_waited waited c) None waited

-- a request that failed: a cluster that is waited for is asked again
abbrev pub fails : Loader → ℕ → Line → Moved
fails l c line =
    cond (is_waited l.waited c)
    (moves (with_status l.table c Asked) l.waited l.background (line ∷ AskLine c ∷ []))
    (moves (with_status l.table c Absent) l.waited l.background (line ∷ []))

-- what an event does, by the status of its cluster
abbrev pub needed : Loader → ℕ → Status → Moved
needed l c Here = stays l
needed l c Asked = moves l.table (Some c) l.background (WaitLine c ∷ [])
needed l c Absent = moves (with_status l.table c Asked) (Some c) l.background (WaitLine c ∷ AskLine c ∷ [])

abbrev pub arrived : Loader → ℕ → Status → Moved
arrived l c Asked = moves (with_status l.table c Here) (not_waited l.waited c) l.background (HereLine c ∷ [])
arrived l c Absent = stays l
arrived l c Here = stays l

abbrev pub lost : Loader → ℕ → Status → Moved
lost l c Asked = fails l c (LostLine c)
lost l c Absent = stays l
lost l c Here = stays l

abbrev pub was_cut : Loader → ℕ → Status → Moved
was_cut l c Asked = fails l c (CutLine c)
was_cut l c Absent = stays l
was_cut l c Here = stays l

abbrev pub effect : Loader → Event → Moved
effect l (Need c) = needed l c (status_of l.table c)
effect l (Arrive c) = arrived l c (status_of l.table c)
effect l (Lose c) = lost l c (status_of l.table c)
effect l (Cut c) = was_cut l c (status_of l.table c)
effect l Idle = moves l.table l.waited true []

-- ---- the background

abbrev pub is_asked : Status → Bool
is_asked Absent = false
is_asked Asked = true
is_asked Here = false

abbrev pub is_absent : Status → Bool
is_absent Absent = true
is_absent Asked = false
is_absent Here = false

-- the least absent clusters, as many as there is room for in the window
abbrev pub to_ask : ℕ → Statuses → List ℕ
to_ask window table = take (window - count_by (λ p. is_asked p.1) table) (map (λ p. p.0) (filter (λ p. is_absent p.1) table))

abbrev pub ask_all : Statuses → List ℕ → Statuses
ask_all table [] = table
ask_all table (c ∷ cs) = ask_all (with_status table c Asked) cs

abbrev pub fills : ℕ → Moved → Moved
fills window m =
    cond m.loader.background
    (moves (ask_all m.loader.table (to_ask window m.loader.table)) m.loader.waited true (m.lines ++ map AskLine (to_ask window m.loader.table)))
    m

-- an event, and what the background asks for after it
abbrev pub step : ℕ → Loader → Event → Moved
step window l e = fills window (effect l e)

-- What is known where the machine runs a statement.
use Rattle.std.specs.Prelude.{◌≡◌, ℕ, List, [], ◌∷◌, drop, map, Some, None, slice_get}
use Rattle.first_grammar.specs.declared.script.FirstStatement.{FirstStatement}
use Rattle.first_grammar.specs.declared.script.FirstStatement.TheVariants.{Call, Out}
use Rattle.play.specs.declared.table.Body.TheVariants as body
use Rattle.play.specs.declared.table.Function.{Function}
use Rattle.play.specs.declared.table.Entry.{Entry}
use Rattle.play.specs.declared.table.EntryPlace.{EntryPlace}
use Rattle.play.specs.declared.table.Table.{Table}
use Rattle.play.specs.Value.{Closure, GlobalScope}
use Rattle.play.specs.Run.{function_named}
use Rattle.play.specs.Site.{line_of}
use Rattle.play.specs.Machine.{body_code, func_of, StubIs}

-- a call of the letter stands first
abbrev pub IsCall : ℕ → List FirstStatement → Type 0
IsCall letter ss = ss ≡ Call letter ∷ drop 1 ss

-- a host call stands first
abbrev pub IsOut : List FirstStatement → Type 0
IsOut ss = (text : List ℕ) × (ss ≡ Out text ∷ drop 1 ss)

-- the function is that of the letter
pub record IsNamed (t : Table) (letter : ℕ) (f : Function) : Type 0 where
  pub place : ℕ
  pub at : slice_get t.functions place ≡ Some f
  pub is : function_named (map func_of t.functions) (letter ∷ []) ≡ Some (Closure (func_of f) GlobalScope)

-- the letter names a plain function of this number and code, which is no entry
pub record PlainNamed (t : Table) (letter number : ℕ) (code : List FirstStatement) : Type 0 where
  pub name : ℕ
  pub is : function_named (map func_of t.functions) (letter ∷ []) ≡ Some (Closure (body_code number name (body.Statements code)) GlobalScope)
  pub not_listed : line_of t.manifest.clusters number ≡ None

-- the letter names the stub of this entry
pub record StubNamed (t : Table) (letter number : ℕ) : Type 0 where
  pub name : ℕ
  pub place : EntryPlace
  pub is : function_named (map func_of t.functions) (letter ∷ []) ≡ Some (Closure (body_code number name (body.Stub place)) GlobalScope)

-- the entry is that of the number, at its place, and its cluster is here
pub record IsHere (t : Table) (number : ℕ) (place : EntryPlace) (e : Entry) : Type 0 where
  pub entries : List Entry
  pub loaded : slice_get t.loaded place.cluster ≡ Some (Some entries)
  pub at : slice_get entries place.entry ≡ Some e
  pub number_is : e.number ≡ number

-- the same, with the place left open
pub record HereNamed (t : Table) (number : ℕ) (e : Entry) : Type 0 where
  pub place : EntryPlace
  pub stub : StubIs t.manifest number place
  pub here : IsHere t number place e

-- What holds of all bytes: they are the text of one accepted script, or are refused, and not both.
use Rattle.std.specs.Prelude.{ℕ, ◌≡◌, ◌≤◌, ◌⊎◌, List}
use Rattle.js_tree.specs.Tree.{Script}
use Rattle.source_files.specs.declared.fault.ScriptFault.{ScriptFault}
use Rattle.source_files.specs.declared.room.SourceRoom.{SourceRoom}
use Rattle.source_files.specs.Sources.{IsSource, IsRefused}

abbrev pub OneTree : Type 0
OneTree =
    (room : SourceRoom) (bytes : List ℕ) (tree other : Script) → IsSource room bytes tree
    → IsSource room bytes other → tree ≡ other

abbrev pub SourcesAreNotRefused : Type 0
SourcesAreNotRefused =
    (room : SourceRoom) (bytes : List ℕ) (tree : Script) (fault : ScriptFault)
    → IsSource room bytes tree → IsRefused room bytes fault → ⊥

abbrev pub SourcesOrRefused : Type 0
SourcesOrRefused =
    (room : SourceRoom) (bytes : List ℕ)
    → ((tree : Script) × IsSource room bytes tree)
    ⊎ ((fault : ScriptFault) × IsRefused room bytes fault)

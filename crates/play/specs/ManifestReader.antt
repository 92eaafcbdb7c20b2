-- The text of a manifest, read from its front. What was read is a manifest if it passes the tests
-- of its form, which stand below the readers.
use Rattle.std.specs.Prelude.{ℕ, Bool, true, not, ◌&&◌, nat_le, nat_lt, nat_eq, if◌then◌else◌}
use Rattle.std.specs.Prelude.{length, List, [], ◌∷◌, Option, Some, None, codes}
use Rattle.std.specs.List.{list_all}
use Rattle.js_tree.specs.Numbering.{is_function_number}
use Rattle.text_reader.specs.Reader.{Found, Reader, ◌>>=◌, ◌>>◌, pure, either}
use Rattle.text_reader.specs.Reader.{skip, ended, decimal, behind, list_after}
use Rattle.play.specs.declared.manifest.ClusterLine.{ClusterLine}
use Rattle.play.specs.declared.manifest.Manifest.{Manifest}
use Rattle.play.specs.Manifest.{cluster_numbers, all_numbers, most_script_bytes, most_cluster_bytes}

-- ---- the lines

-- a number behind a comma, or the end of numbers
abbrev pub next_number : Reader (Option ℕ)
next_number = behind (codes ",") decimal

abbrev pub some_numbers : Reader (List ℕ)
some_numbers = do
  first ← decimal
  list_after (first ∷ []) next_number

-- numbers joined by commas, or `-`
unfoldable pub numbers : Reader (List ℕ)
numbers = either (skip (codes "-")) (pure []) some_numbers

-- an entry's line, behind its first word
unfoldable pub entry : Reader ℕ
entry = do
  k ← decimal
  skip (codes " -\n")
  pure k

-- an entry's line, or the end of entries
abbrev pub next_entry : Reader (Option ℕ)
next_entry = behind (codes "entry ") entry

unfoldable pub entries : Reader (List ℕ)
entries = list_after [] next_entry

-- a cluster's lines, behind the first word
unfoldable pub cluster : Reader ClusterLine
cluster = do
  number ← decimal
  skip (codes " ")
  bytes ← decimal
  skip (codes "\n")
  ks ← entries
  pure (record { cluster = number; bytes = bytes; entries = ks })

-- a cluster's lines, or the end of clusters
abbrev pub next_cluster : Reader (Option ClusterLine)
next_cluster = behind (codes "cluster ") cluster

unfoldable pub clusters : Reader (List ClusterLine)
clusters = list_after [] next_cluster

unfoldable pub manifest : Reader Manifest
manifest = do
  skip (codes "doloto site 1\nform 1\nscript 1 ")
  bytes ← decimal
  skip (codes " ")
  plain ← numbers
  skip (codes "\n")
  cs ← clusters
  skip (codes "end\n")
  ended
  pure (record { script_bytes = bytes; plain = plain; clusters = cs })

-- ---- the tests of the form

abbrev pub rises : ℕ → List ℕ → Bool
rises before [] = true
rises before (n ∷ ns) = nat_lt before n && rises n ns

-- some, rising, each the number of a function
abbrev pub are_entries : List ℕ → Bool
are_entries ks = nat_lt 0 (length ks) && (rises 0 ks && list_all is_function_number ks)

abbrev pub is_cluster_line : ClusterLine → Bool
is_cluster_line c = nat_le c.bytes most_cluster_bytes && are_entries c.entries

abbrev pub is_distinct : List ℕ → Bool
is_distinct [] = true
is_distinct (n ∷ ns) = list_all (λ k. not (nat_eq n k)) ns && is_distinct ns

unfoldable pub has_lines_of_form : Manifest → Bool
has_lines_of_form m =
    nat_le m.script_bytes most_script_bytes
    && (list_all is_function_number m.plain
    && (list_all is_cluster_line m.clusters && rises 0 (cluster_numbers m.clusters)))

unfoldable pub is_manifest : Manifest → Bool
is_manifest m = has_lines_of_form m && is_distinct (all_numbers m)

-- ---- the manifest of a text

abbrev pub of_form : Found Manifest → Option Manifest
of_form (Some p) = if is_manifest p.0 then Some p.0 else None
of_form None = None

-- the manifest that is written by these bytes, if there is one
unfoldable pub read_manifest : List ℕ → Option Manifest
read_manifest bytes = of_form (manifest bytes)

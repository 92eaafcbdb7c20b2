-- The manifest `site.txt` of a site of format 1, as far as the first grammar goes: one script, and
-- `-` at every entry.
use Rattle.std.specs.Prelude.{◌≡◌, ◌≢◌, ◌≤◌, ◌^◌, ◌<◌, ℕ, nat_eq}
use Rattle.std.specs.Prelude.{List, [], ◌∷◌, ◌++◌, codes, map, All}
use Rattle.std.specs.List.{flat_map, IsDistinct}
use Rattle.std.specs.Fmt.{decimal}
use Rattle.first_grammar.specs.First.{IsFunctionNumber}
use Rattle.play.specs.declared.manifest.ClusterLine.{ClusterLine}
use Rattle.play.specs.declared.manifest.Manifest.{Manifest}

-- ---- its text

abbrev pub more_numbers : List ℕ → List ℕ
more_numbers [] = []
more_numbers (n ∷ ns) = 44 ∷ (decimal n ++ more_numbers ns)

-- the numbers, joined by commas, or `-`
abbrev pub numbers_text : List ℕ → List ℕ
numbers_text [] = codes "-"
numbers_text (n ∷ ns) = decimal n ++ more_numbers ns

abbrev pub entry_line : ℕ → List ℕ
entry_line k = codes "entry " ++ (decimal k ++ codes " -\n")

abbrev pub cluster_lines : ClusterLine → List ℕ
cluster_lines c =
    codes "cluster " ++ (decimal c.cluster ++ (32 ∷ (decimal c.bytes
    ++ (10 ∷ flat_map entry_line c.entries))))

abbrev pub manifest_text : Manifest → List ℕ
manifest_text m =
    codes "doloto site 1\nform 1\nscript 1 "
    ++ (decimal m.script_bytes ++ (32 ∷ (numbers_text m.plain
    ++ (10 ∷ (flat_map cluster_lines m.clusters ++ codes "end\n")))))

-- ---- what is of its form

-- the greatest length of a script's file, in bytes
abbrev pub most_script_bytes : ℕ
most_script_bytes = 65535

-- the greatest length of a cluster's file, in bytes
abbrev pub most_cluster_bytes : ℕ
most_cluster_bytes = 2 ^ 31

-- each number is greater than the one before
abbrev pub Rises : ℕ → List ℕ → Type 0
Rises before [] = Unit {0}
Rises before (n ∷ ns) = (before < n) × Rises n ns

pub record IsClusterLine (c : ClusterLine) : Type 0 where
  pub bytes : c.bytes ≤ most_cluster_bytes
  pub some : c.entries ≢ []
  pub rise : Rises 0 c.entries
  pub numbers : All IsFunctionNumber c.entries

abbrev pub cluster_numbers : List ClusterLine → List ℕ
cluster_numbers cs = map (λ c. c.cluster) cs

-- the numbers of the functions that a manifest names
abbrev pub all_numbers : Manifest → List ℕ
all_numbers m = m.plain ++ flat_map (λ c. c.entries) m.clusters

pub record IsManifest (m : Manifest) : Type 0 where
  pub bytes : m.script_bytes ≤ most_script_bytes
  pub numbers : All IsFunctionNumber m.plain
  pub clusters : All IsClusterLine m.clusters
  pub rise : Rises 0 (cluster_numbers m.clusters)
  pub in_range : All (λ c. c < 2 ^ 32) (cluster_numbers m.clusters)
  pub distinct : IsDistinct nat_eq (all_numbers m)

-- the bytes are the text of this manifest
abbrev pub IsManifestOf : List ℕ → Manifest → Type 0
IsManifestOf bytes m = IsManifest m × (manifest_text m ≡ bytes)

-- Manifests, scripts and clusters that are read or refused, and what is played for them.
use Rattle.std.specs.Prelude.{◌≡◌, ℕ, List, [], ◌∷◌, ◌++◌, codes, Some, None, Option, map}
use Rattle.dl_ports.specs.Files.{Files}
use Rattle.js_tree.specs.Numbering.{number_of}
use Rattle.first_grammar.specs.declared.script.FirstItem.{FirstItem}
use Rattle.play.specs.declared.manifest.ClusterLine.{ClusterLine}
use Rattle.play.specs.declared.manifest.Manifest.{Manifest}
use Rattle.play.specs.ManifestReader.{read_manifest}
use Rattle.play.specs.Program.{declared}
use Rattle.play.specs.Site.{ClusterFile, Fits, cluster_file, read_script_file, site_tree}
use Rattle.play.specs.Rows as rows

-- ---- manifests

abbrev pub line : ℕ → ℕ → List ℕ → ClusterLine
line cluster bytes entries = record { cluster = cluster; bytes = bytes; entries = entries }

abbrev pub manifest : ℕ → List ℕ → List ClusterLine → Manifest
manifest bytes plain clusters =
    record { script_bytes = bytes; plain = plain; clusters = clusters }

-- the two first lines, before others
abbrev pub form : List ℕ → List ℕ
form others = codes "doloto site 1\nform 1\n" ++ others

abbrev pub Reads : List ℕ → Manifest → Type 0
Reads others m = read_manifest (form others) ≡ Some m

abbrev pub Refuses : List ℕ → Type 0
Refuses others = read_manifest (form others) ≡ None

-- ---- the example's script, by another manifest

abbrev pub read_by : ℕ → List ℕ → List ClusterLine → Option (List FirstItem)
read_by bytes plain clusters = read_script_file (manifest bytes plain clusters) rows.script_bytes

-- it fits a manifest of these numbers, whose one cluster has these entries
abbrev pub FitsBy : List ℕ → List ℕ → Type 0
FitsBy plain entries = Fits (manifest 117 plain (line 1 33 entries ∷ [])) rows.items

-- the numbers of the functions of a script, in the order of the text
abbrev pub numbers : List ℕ → List FirstItem → List ℕ
numbers ns items = map number_of (declared (site_tree ns items))

-- ---- cluster files

-- the file of cluster 1 with these bytes, by this line
abbrev pub read_cluster_file : List ℕ → ClusterLine → ClusterFile
read_cluster_file bytes l =
    cluster_file (rows.with_file (codes "site/c1.txt") bytes rows.no_files) rows.folder l

-- ---- a site of two clusters, the second of which is needed first

abbrev pub two_manifest : List ℕ
two_manifest = form
    (codes "script 1 129 -\ncluster 1 21\nentry 1 -\ncluster 5 31\nentry 2 -\nend\n")

abbrev pub two_script : List ℕ
two_script =
    codes "function f(){return eval($dl_get(1)).apply(this,arguments);}"
    ++ codes "function g(){return eval($dl_get(2)).apply(this,arguments);}g();f();\n"

abbrev pub first_cluster : List ℕ
first_cluster = codes "1 (function(){g();})\n"

abbrev pub fifth_cluster : List ℕ
fifth_cluster = codes "2 (function(){host.out(\"b\");})\n"

abbrev pub two_files : Files → Files
two_files clusters =
    rows.with_file (codes "site/site.txt") two_manifest
    (rows.with_file (codes "site/s1.js") two_script clusters)

abbrev pub first_file : List ℕ → Files → Files
first_file bytes others = rows.with_file (codes "site/c1.txt") bytes others

abbrev pub fifth_file : List ℕ → Files → Files
fifth_file bytes others = rows.with_file (codes "site/c5.txt") bytes others

-- the names of its files, as far as they are asked
abbrev pub asked_script : List (List ℕ) → List (List ℕ)
asked_script others = codes "site/site.txt" ∷ codes "site/s1.js" ∷ others

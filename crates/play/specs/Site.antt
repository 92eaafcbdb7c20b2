-- The site as its files give it: the manifest, the script's tree, and the entries of the clusters whose files are accepted.
use Rattle.std.specs.Prelude.{◌≡◌, ℕ, suc, true, List, [], ◌∷◌, ◌++◌, length, map, Option, Some, None, is_some, cond, nat_eq, Bool, ◌&&◌, codes}
use Rattle.std.specs.Str.{bytes_eq}
use Rattle.std.specs.List.{list_any, list_all}
use Rattle.std.specs.Fmt.{decimal}
use Rattle.dl_ports.specs.Files.{Files}
use Rattle.js_tree.specs.Tree
use Rattle.js_tree.specs.declared.tree.Role.TheVariants.{Plain, Stub, Late}
use Rattle.first_grammar.specs.First.{statement_tree, statements_tree, stub_tree}
use Rattle.first_grammar.specs.declared.script.FirstBody.{FirstBody}
use Rattle.first_grammar.specs.declared.script.FirstBody.TheVariants as body
use Rattle.first_grammar.specs.declared.script.FirstItem.{FirstItem}
use Rattle.first_grammar.specs.declared.script.FirstItem.TheVariants as item
use Rattle.first_grammar.specs.declared.script.FirstEntry.{FirstEntry}
use Rattle.first_grammar.specs.declared.script.FirstScript.{FirstScript}
use Rattle.first_grammar.specs.FirstReader.{read_script, read_cluster}
use Rattle.play.specs.declared.manifest.ClusterLine.{ClusterLine}
use Rattle.play.specs.declared.manifest.Manifest.{Manifest}

-- ---- the names of the files of a folder

abbrev pub in_folder : List ℕ → List ℕ → List ℕ
in_folder folder name = folder ++ (47 ∷ name)

abbrev pub manifest_name : List ℕ → List ℕ
manifest_name folder = in_folder folder (codes "site.txt")

abbrev pub script_name : List ℕ → List ℕ
script_name folder = in_folder folder (codes "s1.js")

abbrev pub cluster_name : List ℕ → ℕ → List ℕ
cluster_name folder c = in_folder folder (99 ∷ (decimal c ++ codes ".txt"))

-- ---- the script

abbrev pub with_stub : FirstBody → List ℕ → List ℕ
with_stub (body.Statements ss) ks = ks
with_stub (body.Stub k) ks = k ∷ ks

-- the numbers of the stubs, in the order of the text
abbrev pub stub_numbers : List FirstItem → List ℕ
stub_numbers [] = []
stub_numbers (item.Statement s ∷ is) = stub_numbers is
stub_numbers (item.Function f ∷ is) = with_stub f.body (stub_numbers is)

abbrev pub with_plain : FirstBody → ℕ → ℕ
with_plain (body.Statements ss) n = suc n
with_plain (body.Stub k) n = n

abbrev pub plain_count : List FirstItem → ℕ
plain_count [] = 0
plain_count (item.Statement s ∷ is) = plain_count is
plain_count (item.Function f ∷ is) = with_plain f.body (plain_count is)

abbrev pub first_of : List ℕ → ℕ
first_of [] = 0
first_of (n ∷ ns) = n

abbrev pub others_of : List ℕ → List ℕ
others_of [] = []
others_of (n ∷ ns) = ns

-- a function is a stub where its body is a stub's, and then it has the number of its entry; other functions are plain
abbrev pub numbered : List ℕ → ℕ → FirstBody → Tree.Func
numbered ns name (body.Statements ss) = Tree.Code (first_of ns) (Some (name ∷ [])) [] (statements_tree ss) Plain
numbered ns name (body.Stub k) = Tree.Code k (Some (name ∷ [])) [] (stub_tree k) Stub

abbrev pub numbers_after : List ℕ → FirstBody → List ℕ
numbers_after ns (body.Statements ss) = others_of ns
numbers_after ns (body.Stub k) = ns

-- the script's tree, whose plain functions have the manifest's numbers in the order of the text
abbrev pub site_tree : List ℕ → List FirstItem → Tree.Script
site_tree ns [] = Tree.NoStmts
site_tree ns (item.Statement s ∷ is) = Tree.MoreStmts (statement_tree s) (site_tree ns is)
site_tree ns (item.Function f ∷ is) = Tree.MoreStmts (Tree.Declare (numbered ns f.name f.body)) (site_tree (numbers_after ns f.body) is)

-- ---- the clusters

-- the cluster that lists an entry
abbrev pub line_of : List ClusterLine → ℕ → Option ClusterLine
line_of [] k = None
line_of (c ∷ cs) k = cond (list_any (nat_eq k) c.entries) (Some c) (line_of cs k)

abbrev pub is_listed : List ClusterLine → ℕ → Bool
is_listed cs k = is_some (line_of cs k)

-- each of these numbers is that of an entry
abbrev pub OnlyListed : List ClusterLine → List ℕ → Type 0
OnlyListed lines numbers = list_all (is_listed lines) numbers ≡ true

-- each stub is that of an entry, and there are as many plain functions as the manifest has numbers
pub record Fits (m : Manifest) (items : List FirstItem) : Type 0 where
  pub listed : OnlyListed m.clusters (stub_numbers items)
  pub plain : plain_count items ≡ length m.plain

abbrev pub items_of : Manifest → Option FirstScript → Option (List FirstItem)
items_of m None = None
items_of m (Some s) = cond (list_all (is_listed m.clusters) (stub_numbers s.items) && nat_eq (plain_count s.items) (length m.plain)) (Some s.items) None

-- the script of a file, where it is accepted: its length and the count of its plain functions are the manifest's, and each stub's number is an entry
abbrev pub read_script_file : Manifest → List ℕ → Option (List FirstItem)
read_script_file m bytes = cond (nat_eq (length bytes) m.script_bytes) (items_of m (read_script bytes)) None

pub data ClusterFile : Type 0 where
  Absent : ClusterFile
  Refused : ClusterFile
  Accepted : (entries : List FirstEntry) → ClusterFile

abbrev pub listed_as : ClusterLine → Option (List FirstEntry) → ClusterFile
listed_as c None = Refused
listed_as c (Some es) = cond (bytes_eq (map (λ e. e.number) es) c.entries) (Accepted es) Refused

abbrev pub cluster_of_bytes : ClusterLine → Option (List ℕ) → ClusterFile
cluster_of_bytes c None = Absent
cluster_of_bytes c (Some bytes) = cond (nat_eq (length bytes) c.bytes) (listed_as c (read_cluster bytes)) Refused

-- the file of a cluster, which is accepted where its length and its entries are the manifest's
abbrev pub cluster_file : Files → List ℕ → ClusterLine → ClusterFile
cluster_file files folder c = cluster_of_bytes c (files (cluster_name folder c.cluster))

abbrev pub late_function : ℕ → FirstEntry → Tree.Func
late_function k e = Tree.Code k None [] (statements_tree e.body) Late

abbrev pub entry_among : List FirstEntry → ℕ → Option Tree.Func
entry_among [] k = None
entry_among (e ∷ es) k = cond (nat_eq e.number k) (Some (late_function k e)) (entry_among es k)

abbrev pub entry_in : ClusterFile → ℕ → Option Tree.Func
entry_in Absent k = None
entry_in Refused k = None
entry_in (Accepted es) k = entry_among es k

abbrev pub entry_by : Files → List ℕ → Option ClusterLine → ℕ → Option Tree.Func
entry_by files folder None k = None
entry_by files folder (Some c) k = entry_in (cluster_file files folder c) k

-- the function of an entry, where its cluster is there and accepted
abbrev pub entries : Files → List ℕ → Manifest → ℕ → Option Tree.Func
entries files folder m k = entry_by files folder (line_of m.clusters k) k

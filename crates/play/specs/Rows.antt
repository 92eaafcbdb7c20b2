-- The worked site of `examples/first`, its files, its trees and its original.
use Rattle.std.specs.Prelude.{ℕ, List, [], ◌∷◌, ◌++◌, codes, Some, None, Option, cond, nat_eq}
use Rattle.std.specs.Str.{bytes_eq}
use Rattle.dl_ports.specs.Files.{Files}
use Rattle.js_tree.specs.Tree.{Func, Script}
use Rattle.first_grammar.specs.First.{out_name}
use Rattle.first_grammar.specs.declared.script.FirstStatement.TheVariants.{Call, Out}
use Rattle.first_grammar.specs.declared.script.FirstBody.TheVariants.{Statements, Stub}
use Rattle.first_grammar.specs.declared.script.FirstEntry.{FirstEntry}
use Rattle.first_grammar.specs.declared.script.FirstItem.{FirstItem}
use Rattle.first_grammar.specs.declared.script.FirstItem.TheVariants.{Statement, Function}
use Rattle.play.specs.declared.manifest.Manifest.{Manifest}
use Rattle.play.specs.Site.{site_tree, late_function}
use Rattle.play.specs.Played.{Answer, Answered}
use Rattle.play.specs.Value.{ShownText}
use Rattle.play.specs.Report.{Line, CallLine, IdleLine, WaitLine, AskLine, HereLine}
use Rattle.play.specs.Run.{Mark, Called, Trace, Say, End, OutOfSteps, IsStuck}

-- ---- its files

abbrev pub manifest_bytes : List ℕ
manifest_bytes =
    codes "doloto site 1\nform 1\nscript 1 117 1\ncluster 1 33\nentry 2 -\nend\n"

abbrev pub script_bytes : List ℕ
script_bytes =
    codes "function f(){host.out(\"one\");}"
    ++ (codes "function g(){return eval($dl_get(2)).apply(this,arguments);}"
    ++ codes "f();g();host.out(\"three\");\n")

abbrev pub cluster_bytes : List ℕ
cluster_bytes = codes "2 (function(){host.out(\"two\");})\n"

-- a file of this name, before others
abbrev pub with_file : List ℕ → List ℕ → Files → Files
with_file name bytes others = λ asked. cond (bytes_eq asked name) (Some bytes) (others asked)

abbrev pub no_files : Files
no_files asked = None

abbrev pub folder : List ℕ
folder = codes "site"

abbrev pub without_cluster : Files
without_cluster =
    with_file (codes "site/site.txt") manifest_bytes
    (with_file (codes "site/s1.js") script_bytes no_files)

abbrev pub files : Files
files = with_file (codes "site/c1.txt") cluster_bytes without_cluster

-- ---- what they hold

abbrev pub manifest : Manifest
manifest = record {
  script_bytes = 117;
  plain = 1 ∷ [];
  clusters = record { cluster = 1; bytes = 33; entries = 2 ∷ [] } ∷ [];
}

abbrev pub items : List FirstItem
items =
    Function (record { name = 102; body = Statements (Out (codes "one") ∷ []) })
    ∷ Function (record { name = 103; body = Stub 2 })
    ∷ Statement (Call 102) ∷ Statement (Call 103) ∷ Statement (Out (codes "three")) ∷ []

abbrev pub entry : FirstEntry
entry = record { number = 2; body = Out (codes "two") ∷ [] }

abbrev pub entry_two : ℕ → Option Func
entry_two k = cond (nat_eq k 2) (Some (late_function 2 entry)) None

abbrev pub script : Script
script = site_tree (1 ∷ []) items

-- ---- the original that they put back to

abbrev pub original_items : List FirstItem
original_items =
    Function (record { name = 102; body = Statements (Out (codes "one") ∷ []) })
    ∷ Function (record { name = 103; body = Statements (Out (codes "two") ∷ []) })
    ∷ Statement (Call 102) ∷ Statement (Call 103) ∷ Statement (Out (codes "three")) ∷ []

abbrev pub original_script : Script
original_script = site_tree (1 ∷ 2 ∷ []) original_items

-- ---- its lines

abbrev pub out_line : List ℕ → Line
out_line text = CallLine out_name (ShownText text ∷ [])

abbrev pub out_mark : List ℕ → Mark
out_mark text = Called out_name (ShownText text ∷ [])

abbrev pub lines : List Line
lines =
    out_line (codes "one")
    ∷ WaitLine 1 ∷ AskLine 1 ∷ HereLine 1
    ∷ out_line (codes "two")
    ∷ out_line (codes "three")
    ∷ IdleLine ∷ []

-- ---- answers

abbrev pub answered : Answer → List (List ℕ) → Answered
answered answer asked = record { answer = answer; asked = asked }

-- ---- runs

pub record Timed : Type 0 where
  pub mark : Mark
  pub steps : ℕ

-- a mark and the steps taken when it was made
abbrev pub at : Mark → ℕ → Timed
at mark steps = record { mark = mark; steps = steps }

-- all the marks of a run
abbrev pub marks : Trace → List Timed
marks (Say m i t) = at m i ∷ marks t
marks (End o s) = []
marks (OutOfSteps s) = []
marks (IsStuck s) = []

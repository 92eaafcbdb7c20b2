-- From what is read to what a public call says.
use Rattle.std.proofs.Common.{◌≡◌, ℕ, List, Option, Some, None, Result, Ok, Err, sym, ◌∙◌}
use Rattle.std.specs.Prelude.{IfOk}
use Rattle.first_grammar.specs.declared.script.FirstScript.{FirstScript}
use Rattle.first_grammar.specs.declared.script.FirstEntry.{FirstEntry}
use Rattle.text_reader.specs.Gives.{IfRead, IsRead}
use Rattle.first_grammar.specs.First.{IsScriptOf, IsClusterOf}
use Rattle.first_grammar.specs.FirstReader.{read_script, read_cluster}
use Rattle.first_grammar.proofs.FirstLaws.{read_script_sound, read_script_again, read_cluster_sound, read_cluster_again}

pub script_sound : {E : Type 0} (r : Result (Option FirstScript) E) (bs : List ℕ) → IfOk r (λ o. o ≡ read_script bs) → IfRead r (IsScriptOf bs)
script_sound (Ok (Some s)) bs e = read_script_sound bs s (sym e)
script_sound (Ok None) bs e = tt
script_sound (Err x) bs e = tt

pub script_complete : {E : Type 0} (r : Result (Option FirstScript) E) (bs : List ℕ) → IfOk r (λ o. o ≡ read_script bs) → (s : FirstScript) → IsScriptOf bs s → IsRead r s
script_complete (Ok o) bs e s h = e ∙ read_script_again bs s h.0 h.1
script_complete (Err x) bs e s h = tt

pub cluster_sound : {E : Type 0} (r : Result (Option (List FirstEntry)) E) (bs : List ℕ) → IfOk r (λ o. o ≡ read_cluster bs) → IfRead r (IsClusterOf bs)
cluster_sound (Ok (Some es)) bs e = read_cluster_sound bs es (sym e)
cluster_sound (Ok None) bs e = tt
cluster_sound (Err x) bs e = tt

pub cluster_complete : {E : Type 0} (r : Result (Option (List FirstEntry)) E) (bs : List ℕ) → IfOk r (λ o. o ≡ read_cluster bs) → (es : List FirstEntry) → IsClusterOf bs es → IsRead r es
cluster_complete (Ok o) bs e es h = e ∙ read_cluster_again bs es h.0 h.1
cluster_complete (Err x) bs e es h = tt

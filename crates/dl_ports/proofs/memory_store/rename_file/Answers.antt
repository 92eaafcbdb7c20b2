use Rattle.std.proofs.Common.{◌≢◌, ◌∙◌, sym, None}
use Rattle.std.proofs.lemmas.Slice.Eq.{bytes_eq-Decides}
use Rattle.dl_ports.proofs.FilesLemmas.{changes, inserts, still_there, was_there, renames}
use Rattle.dl_ports.proofs.memory_store.rename_file.Goals as goal

pub replace_file-requires : goal.replace_file-requires
replace_file-requires c =
    let differ : c.args.from.now ≢ c.args.to.now = λ e. let t = (bytes_eq-Decides c.args.from.now c.args.to.now).1 e in cc in
    let made = inserts c.args.to.now c.in_ok-key.key c.new.result c.args.files.now c.insert.new.self c.in_ok-key.ensures.ok c.in_ok-insert.ensures.updates in
    let gone = changes c.args.from.now None c.insert.new.self c.remove.new.self c.remove.ensures.updates in
    still_there _ _ _ _ _ _ differ made gone

pub returns-in-Some-clause-ok : goal.returns-in-Some-clause-ok
returns-in-Some-clause-ok c =
    let differ : c.args.from.now ≢ c.args.to.now = λ e. let t = (bytes_eq-Decides c.args.from.now c.args.to.now).1 e in cc in
    let made = inserts c.args.to.now c.in_ok-key.key c.new.result c.args.files.now c.insert.new.self c.in_ok-key.ensures.ok c.in_ok-insert.ensures.updates in
    let gone = changes c.args.from.now None c.insert.new.self c.remove.new.self c.remove.ensures.updates in
    renames c.args.from.now c.args.to.now c.args.files.now c.insert.new.self c.remove.new.self c.replace_file.new.files c.new.result c.in-Some.contents differ made (sym c.remove.ensures.value ∙ c.in-Some.is) gone c.replace_file.ensures

pub returns-in_default-clause-ok : goal.returns-in_default-clause-ok
returns-in_default-clause-ok c =
    let differ : c.args.from.now ≢ c.args.to.now = λ e. let t = (bytes_eq-Decides c.args.from.now c.args.to.now).1 e in cc in
    let made = inserts c.args.to.now c.in_ok-key.key c.new.result c.args.files.now c.insert.new.self c.in_ok-key.ensures.ok c.in_ok-insert.ensures.updates in
    absurd (was_there _ _ _ _ _ differ c.requires made (sym c.remove.ensures.value ∙ c.in_default.is))

use Rattle.std.proofs.Common.{rules, Some}
use Rattle.dl_ports.proofs.FilesLemmas.{changes}
use Rattle.dl_ports.proofs.memory_store.replace_file.Goals as goal

pub returns-in-Some : goal.returns-in-Some
returns-in-Some c =
    let w = c.args.contents in
    let set = changes c.args.name.now (Some w) c.args.files.now (c.get_mut.follows.lender w) ((c.get_mut.follows.holds w).3 (search rules)) in
    record { written = set.at; others = set.others }

use Rattle.dl_ports.proofs.FilesLemmas.{inserts}
use Rattle.dl_ports.proofs.memory_store.set_file.Goals as goal

pub returns-clause-ok : goal.returns-clause-ok
returns-clause-ok c =
    let set = inserts c.args.name.now c.in_ok-key.key c.in_ok-contents.contents c.args.files.now c.insert.new.self c.in_ok-key.ensures.ok c.in_ok-insert.ensures.updates in
    rw (← c.in_ok-contents.ensures.items) (record { written = set.at; others = set.others })

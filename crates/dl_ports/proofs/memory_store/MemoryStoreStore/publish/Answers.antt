use Rattle.std.proofs.Common.{refl}
use Rattle.dl_ports.proofs.memory_store.MemoryStoreStore.publish.Goals as goal

pub rename_file-requires : goal.rename_file-requires
rename_file-requires c = c.requires _ refl

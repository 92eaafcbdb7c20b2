-- What the ports in memory hold.
use Rattle.std.specs.Prelude.{◌≡◌, ℕ, List, [], ◌∷◌, Option, Some, drop, map, string_bytes, String, Vec}
use Rattle.std.specs.Option.{option_map}
use Rattle.std.specs.BTreeMap.{BTreeMap, get_by_text}
use Rattle.std.specs.declared.alloc.Global.{Global}
use Rattle.std.specs.Vec.Iter.{into_iter_items}
use Rattle.dl_ports.specs.declared.plan.Plan.{Plan}
use Rattle.dl_ports.specs.Files.{Files}
use Rattle.dl_ports.specs.Doors.{Ended}
use Rattle.dl_ports.specs.Plans.{IsFresh}
use Rattle.dl_ports.specs.declared.memory_door.MemoryDoor.{MemoryDoor}
use Rattle.dl_ports.specs.declared.memory_link.MemoryLink.{MemoryLink}
use Rattle.dl_ports.specs.declared.memory_store.MemoryStore.{MemoryStore}
use Rattle.dl_ports.specs.declared.memory_sink.MemorySink.{MemorySink}

-- the files of a map from names to bytes
abbrev pub files_in : BTreeMap (String Global) (Vec ℕ Global) → Files
files_in files name = option_map (λ bytes. bytes.items) (get_by_text files name)

-- the files of a store
abbrev pub stored_files : MemoryStore → Files
stored_files store = files_in store.files

-- the same, as the store tells them
abbrev pub told_files : MemoryStore → Option Files
told_files store = Some (stored_files store)

-- the names that a store was asked for
abbrev pub stored_asked : MemoryStore → List (List ℕ)
stored_asked store = map string_bytes store.asked.items

abbrev pub told_asked : MemoryStore → Option (List (List ℕ))
told_asked store = Some (stored_asked store)

-- how often a port's calls have failed
abbrev pub store_faults : MemoryStore → ℕ
store_faults store = store.faults

abbrev pub sink_faults : MemorySink → ℕ
sink_faults sink = sink.faults

abbrev pub link_faults : MemoryLink → ℕ
link_faults link = link.faults

abbrev pub door_faults : MemoryDoor → ℕ
door_faults door = door.faults

-- how often a store's writes have failed
abbrev pub store_write_faults : MemoryStore → ℕ
store_write_faults store = store.write_faults

-- the bytes that a sink has taken
abbrev pub sink_written : MemorySink → List ℕ
sink_written sink = sink.written.items

-- the bytes that a link still has
abbrev pub link_left : MemoryLink → List ℕ
link_left link = drop link.taken link.input.items

-- the bytes that a link has taken
abbrev pub link_written : MemoryLink → List ℕ
link_written link = link.written.items

-- a link as it is
abbrev pub link_ended : MemoryLink → Ended
link_ended link = record {
  left = Some (link_left link);
  written = Some (link_written link);
  faults = link.faults;
}

-- the bytes of each link that is still to come to a door
abbrev pub door_inputs : MemoryDoor → List (List ℕ)
door_inputs door = map (λ input. input.0.items) (into_iter_items door.inputs)

abbrev pub told_inputs : MemoryDoor → Option (List (List ℕ))
told_inputs door = Some (door_inputs door)

-- the calls that are to fail of each link that is still to come
abbrev pub door_fails : MemoryDoor → List (List ℕ)
door_fails door = map (λ input. input.1.items) (into_iter_items door.inputs)

-- how many links of a door are not yet handed back
abbrev pub door_lent : MemoryDoor → ℕ
door_lent door = door.lent

-- a link has the first of these lists of calls that are to fail, and the others are left
abbrev pub PlansFirst : List (List ℕ) → MemoryLink → List (List ℕ) → Type 0
PlansFirst [] link left = ⊥
PlansFirst (fail ∷ fails) link left = IsFresh link.plan fail × (left ≡ fails)

-- the links that were handed back to a door
abbrev pub door_closed : MemoryDoor → List MemoryLink
door_closed door = door.closed.items

abbrev pub told_closed : MemoryDoor → Option (List Ended)
told_closed door = Some (map link_ended (door_closed door))

-- which calls of a port in memory are to fail
abbrev pub store_plan : MemoryStore → Plan
store_plan store = store.plan

abbrev pub sink_plan : MemorySink → Plan
sink_plan sink = sink.plan

abbrev pub link_plan : MemoryLink → Plan
link_plan link = link.plan

abbrev pub door_plan : MemoryDoor → Plan
door_plan door = door.plan

-- how many bytes a sink takes at most in a call
abbrev pub sink_most : MemorySink → ℕ
sink_most sink = sink.most

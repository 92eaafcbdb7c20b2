-- Counts of faults.
use Rattle.std.specs.Prelude.{◌≡◌, ℕ, ◌+◌, ◌-◌, ◌^◌, ◌≤◌, min, Result, IsErrOf}
use Rattle.dl_ports.specs.declared.port.PortError.{PortError}
use Rattle.dl_ports.specs.declared.port.PortError.TheVariants.{Failed}

-- a count rose: it is greater than before, or stands at the last value of the u64 that keeps it
abbrev pub Rose : ℕ → ℕ → Type 0
Rose before now = min (before + 1) (2 ^ 64 - 1) ≤ now

-- a count of faults over a call: it has not fallen, it rose where the call tells a fault, and it
-- stayed where the call tells none. So no fault is passed over, and none is told as something else
pub record CountsFault (told : Type 0) (before now : ℕ) : Type 0 where
  pub later : before ≤ now
  pub rose : told → Rose before now
  pub kept : (told → ⊥) → now ≡ before

-- the count of a port over one of its calls, which tells a fault as Failed
abbrev pub HasCause : {T : Type 0} → ℕ → ℕ → Result T PortError → Type 0
HasCause before now result = CountsFault (IsErrOf result Failed) before now

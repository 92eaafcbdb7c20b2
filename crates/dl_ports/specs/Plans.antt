-- Which calls of a port in memory are to fail.
use Rattle.std.specs.Prelude.{◌≡◌, ◌+◌, ◌-◌, ◌^◌, ℕ, List, min, Contains, Result, OnOk, IsErrOf}
use Rattle.dl_ports.specs.declared.port.PortError.{PortError}
use Rattle.dl_ports.specs.declared.port.PortError.TheVariants.{Failed}
use Rattle.dl_ports.specs.declared.plan.Plan.{Plan}

-- no call was made, and those with these numbers, counted from 1, are to fail
pub record IsFresh (plan : Plan) (fail : List ℕ) : Type 0 where
  pub none : plan.calls ≡ 0
  pub planned : plan.fail.items ≡ fail

-- the call that comes next is to fail
abbrev pub IsDue : Plan → Type 0
IsDue plan = Contains plan.fail.items (min (plan.calls + 1) (2 ^ 64 - 1))

-- one more call was made
pub record CountsCall (old new : Plan) : Type 0 where
  pub counted : new.calls ≡ min (old.calls + 1) (2 ^ 64 - 1)
  pub planned : new.fail ≡ old.fail

-- one more call was made, which failed where it was to, and not elsewhere
pub record GoesByPlan {T : Type 0} (old new : Plan) (result : Result T PortError) : Type 0 where
  pub counted : CountsCall old new
  pub due : OnOk result (IsDue old → ⊥)
  pub failed : IsErrOf result Failed → IsDue old

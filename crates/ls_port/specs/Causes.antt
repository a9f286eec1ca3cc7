-- Counts of faults: at which calls of the outside they rise.
use Rattle.std.specs.Prelude.{◌≡◌, ℕ, ◌+◌, ◌-◌, ◌^◌, ◌≤◌, min, Result, OnOk, OnErr, IsErrOf}
use Rattle.ls_port.specs.declared.sink_refusal.SinkRefusal.{SinkRefusal}
use Rattle.ls_port.specs.declared.sink_refusal.SinkRefusal.TheVariants.{Failed, NoMemory}
use Rattle.ls_port.specs.declared.shelf_refusal.ShelfRefusal.{ShelfRefusal}
use Rattle.ls_port.specs.declared.shelf_refusal.ShelfRefusal.TheVariants.{Failed as ShelfFailed, NoMemory as ShelfFull}

-- the count has risen by one, or stands still at its counter's last value
abbrev pub Rose : ℕ → ℕ → Type 0
Rose before now = now ≡ min (before + 1) (2 ^ 64 - 1)

-- the count doesn't fall, at an error it rises by one, and a call that succeeds leaves it
pub record HasCause {T E : Type 0} (before now : ℕ) (result : Result T E) : Type 0 where
  pub later : before ≤ now
  pub failed : OnErr result (Rose before now)
  pub kept : OnOk result (now ≡ before)

-- the count doesn't fall, at `Failed` it rises by one, and every other answer leaves it
pub record HasSinkCause {T : Type 0} (before now : ℕ) (result : Result T SinkRefusal) : Type 0 where
  pub later : before ≤ now
  pub failed : IsErrOf result Failed → Rose before now
  pub kept : OnOk result (now ≡ before)
  pub full : IsErrOf result NoMemory → now ≡ before

-- the same of a shelf
pub record HasShelfCause {T : Type 0} (before now : ℕ) (result : Result T ShelfRefusal) : Type 0 where
  pub later : before ≤ now
  pub failed : IsErrOf result ShelfFailed → Rose before now
  pub kept : OnOk result (now ≡ before)
  pub full : IsErrOf result ShelfFull → now ≡ before

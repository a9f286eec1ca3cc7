use Rattle.version_swap.specs.Behind.{design_of}
use Rattle.live_session.specs.Spelled.{spelled}
use Rattle.live_session.proofs.SetRows.{IsSetting}
use Rattle.live_session.proofs.running.Running.set.Given as goal

abbrev pub invariant-loop-value : goal.invariant-loop-value
invariant-loop-value l =
    IsSetting l.names (spelled l.names (design_of l.self.version.value.machine.value l.self.keys)) l.values l.self.row.value l.value-index l.row

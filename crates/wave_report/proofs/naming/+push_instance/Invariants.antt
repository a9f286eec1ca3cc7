use Rattle.std.proofs.Common.{length}
use Rattle.wave_report.proofs.naming.+push_instance.Given as goal

abbrev pub decreases-push_instance : goal.decreases-push_instance
decreases-push_instance l = length l.rows.now

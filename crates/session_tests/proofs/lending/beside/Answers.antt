use denote.Param.Send.{sendable}
use Rattle.std.proofs.Crossing.{crosses}
use Rattle.cycle_eval.proofs.DesignsShared.{design_send, design_sync}
use Rattle.session_tests.proofs.lending.beside.Goals as goal

pub with_workers-pass-requires-send-M : goal.with_workers-pass-requires-send-M
with_workers-pass-requires-send-M g c κs within = search (design_send, sendable, crosses) depth 40 fits 20000

pub with_workers-pass-requires-sync-M : goal.with_workers-pass-requires-sync-M
with_workers-pass-requires-sync-M g c κs within = search (design_sync, sendable, crosses) depth 40 fits 20000

use denote.Param.Send.{sendable}
use Rattle.std.proofs.Crossing.{crosses}
use Rattle.cycle_eval.proofs.DesignsShared.{design_send, design_sync}
use Rattle.live_tests.proofs.running.inputs_of.Goals as goal

pub runs-run-items-requires-send-M : goal.runs-run-items-requires-send-M
runs-run-items-requires-send-M g c = search (design_send, sendable, crosses) depth 40 fits 20000

pub runs-run-items-requires-sync-M : goal.runs-run-items-requires-sync-M
runs-run-items-requires-sync-M g c = search (design_sync, sendable, crosses) depth 40 fits 20000

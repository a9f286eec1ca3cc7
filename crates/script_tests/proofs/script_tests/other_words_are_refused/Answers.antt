use denote.Param.Send.{sendable}
use Rattle.std.proofs.Crossing.{crosses}
use Rattle.cycle_eval.proofs.DesignsShared.{design_send, design_sync}
use Rattle.script_tests.proofs.script_tests.other_words_are_refused.Goals as goal

pub entries-requires-send-M : goal.entries-requires-send-M
entries-requires-send-M g c κs = search (design_send, sendable, crosses) depth 40 fits 20000

pub entries-requires-sync-M : goal.entries-requires-sync-M
entries-requires-sync-M g c κs = search (design_sync, sendable, crosses) depth 40 fits 20000

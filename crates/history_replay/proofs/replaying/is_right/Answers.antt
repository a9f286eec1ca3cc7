use denote.Param.Send.{sendable}
use Rattle.std.proofs.Common.{ap, length, refl, arith}
use Rattle.std.proofs.Crossing.{crosses}
use Rattle.machine.proofs.Runs.{gapless_whole}
use Rattle.cycle_eval.proofs.DesignsShared.{design_send, design_sync}
use Rattle.history_replay.proofs.replaying.is_right.Goals as goal

pub share_between-requires-clause-gapless : goal.share_between-requires-clause-gapless
share_between-requires-clause-gapless c = gapless_whole 0 c.runs.result.now c.runs.result.now _ refl c.runs.ensures.gapless

pub share_between-requires-clause-covers : goal.share_between-requires-clause-covers
share_between-requires-clause-covers c =
    record { begins = omega (arith); rises = omega (arith); ends = omega (arith, c.cycle.ensures, ap length c.runs.ensures.rows) }

pub runs-requires-send-M : goal.runs-requires-send-M
runs-requires-send-M c κs = search (design_send, sendable, crosses) depth 40 fits 20000

pub runs-requires-sync-M : goal.runs-requires-sync-M
runs-requires-sync-M c κs = search (design_sync, sendable, crosses) depth 40 fits 20000

pub cycle-requires-send-M : goal.cycle-requires-send-M
cycle-requires-send-M c κs = search (design_send, sendable, crosses) depth 40 fits 20000

pub cycle-requires-sync-M : goal.cycle-requires-sync-M
cycle-requires-sync-M c κs = search (design_sync, sendable, crosses) depth 40 fits 20000

pub interval-requires-send-M : goal.interval-requires-send-M
interval-requires-send-M c κs = search (design_send, sendable, crosses) depth 40 fits 20000

pub interval-requires-sync-M : goal.interval-requires-sync-M
interval-requires-sync-M c κs = search (design_sync, sendable, crosses) depth 40 fits 20000

pub lookback-requires-send-M : goal.lookback-requires-send-M
lookback-requires-send-M c κs = search (design_send, sendable, crosses) depth 40 fits 20000

pub lookback-requires-sync-M : goal.lookback-requires-sync-M
lookback-requires-sync-M c κs = search (design_sync, sendable, crosses) depth 40 fits 20000

pub rooms-requires-send-M : goal.rooms-requires-send-M
rooms-requires-send-M c κs = search (design_send, sendable, crosses) depth 40 fits 20000

pub rooms-requires-sync-M : goal.rooms-requires-sync-M
rooms-requires-sync-M c κs = search (design_sync, sendable, crosses) depth 40 fits 20000

pub entries-requires-send-M : goal.entries-requires-send-M
entries-requires-send-M c κs = search (design_send, sendable, crosses) depth 40 fits 20000

pub entries-requires-sync-M : goal.entries-requires-sync-M
entries-requires-sync-M c κs = search (design_sync, sendable, crosses) depth 40 fits 20000

pub loads-requires-send-M : goal.loads-requires-send-M
loads-requires-send-M c κs = search (design_send, sendable, crosses) depth 40 fits 20000

pub loads-requires-sync-M : goal.loads-requires-sync-M
loads-requires-sync-M c κs = search (design_sync, sendable, crosses) depth 40 fits 20000

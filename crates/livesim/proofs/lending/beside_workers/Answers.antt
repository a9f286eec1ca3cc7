use Rattle.std.proofs.Common.{sym, ◌∙◌}
use denote.Param.Send.{sendable}
use Rattle.std.proofs.Crossing.{crosses}
use Rattle.cycle_eval.proofs.DesignsShared.{design_send, design_sync}
use Rattle.livesim.proofs.Lendings.{alone_told, called_as, worked_told}
use Rattle.livesim.proofs.lending.beside_workers.Goals as goal

pub returns-clause-worked : goal.returns-clause-worked
returns-clause-worked g c =
    worked_told _ _ _ _ (λ v w did. called_as _ v w _ _ _ (c.work-1.given.1 (sym did.0) ∙ c.take_back.ensures) did.1) _ _ _ _ c.with_workers-pass.ensures.worked

pub returns-clause-none : goal.returns-clause-none
returns-clause-none g c = λ none.
    alone_told _ _ _ _ (λ v w did. called_as _ v w _ _ _ (c.work-1.given.1 (sym did.0) ∙ c.take_back.ensures) did.1) _ _ (c.with_workers-pass.ensures.none none)

pub with_workers-pass-requires-send-M : goal.with_workers-pass-requires-send-M
with_workers-pass-requires-send-M g c κs within = search (design_send, sendable, crosses) depth 40 fits 20000

pub with_workers-pass-requires-sync-M : goal.with_workers-pass-requires-sync-M
with_workers-pass-requires-sync-M g c κs within = search (design_sync, sendable, crosses) depth 40 fits 20000

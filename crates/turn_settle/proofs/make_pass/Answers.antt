use Rattle.std.proofs.Common.{ap, ◌∙◌, Ok}
use Rattle.turn_settle.proofs.Passing.{has_ticket, room_left, risen_by, gave_by, none_by, refused_by}
use Rattle.turn_settle.proofs.make_pass.Goals as goal

pub work_on-requires-clause-ticket : goal.work_on-requires-clause-ticket
work_on-requires-clause-ticket g c κs within =
    has_ticket g.M.Machine.kit g.M.Machine.valid _ c.claim.result _ (c.in-Ok-Some.is ∙ ap (λ o. Ok o) c.in-Ok-Some.field-0-is) c.claim.ensures.drawn

pub work_on-requires-clause-own : goal.work_on-requires-clause-own
work_on-requires-clause-own g c κs within = c.claim.ensures.visit.own

pub work_on-requires-clause-room : goal.work_on-requires-clause-room
work_on-requires-clause-room g c κs within =
    room_left g.M.Machine.kit g.M.Machine.valid _ _ c.claim.result _ (c.in-Ok-Some.is ∙ ap (λ o. Ok o) c.in-Ok-Some.field-0-is) c.claim.ensures.visit c.requires.room

pub returns-in-Ok-clause-own : goal.returns-in-Ok-clause-own
returns-in-Ok-clause-own g c = c.in-Ok.ensures.ok.visit.own

pub returns-in-Ok-clause-ok : goal.returns-in-Ok-clause-ok
returns-in-Ok-clause-ok g c =
    risen_by g.M.Machine.kit g.M.Machine.valid c.legal_histories.ensures.settles c.outlines_of_histories.ensures.others_lead _ _ _ c.claim.result _
    (c.in-Ok-Some.is ∙ ap (λ o. Ok o) c.in-Ok-Some.field-0-is) c.claim.ensures.visit c.in-Ok.ensures.ok

pub returns-in-Err-work_on-clause-own : goal.returns-in-Err-work_on-clause-own
returns-in-Err-work_on-clause-own g c = c.in-Err-work_on.ensures.err.own

pub returns-in-Err-work_on-clause-err : goal.returns-in-Err-work_on-clause-err
returns-in-Err-work_on-clause-err g c =
    gave_by g.M.Machine.kit g.M.Machine.valid _ _ _ c.claim.result _ (c.in-Ok-Some.is ∙ ap (λ o. Ok o) c.in-Ok-Some.field-0-is) c.claim.ensures.visit c.in-Err-work_on.ensures.err

pub returns-in-Ok-None-clause-own : goal.returns-in-Ok-None-clause-own
returns-in-Ok-None-clause-own g c = c.claim.ensures.visit.own

pub returns-in-Ok-None-clause-ok : goal.returns-in-Ok-None-clause-ok
returns-in-Ok-None-clause-ok g c =
    none_by g.M.Machine.kit g.M.Machine.valid c.outlines_of_histories.ensures.others_lead _ _ c.claim.result (c.in-Ok-None.is ∙ ap (λ o. Ok o) c.in-Ok-None.field-0-is)
    c.claim.ensures.visit c.claim.ensures.settled

pub returns-in-Err-clause-own : goal.returns-in-Err-clause-own
returns-in-Err-clause-own g c = c.claim.ensures.visit.own

pub returns-in-Err-clause-err : goal.returns-in-Err-clause-err
returns-in-Err-clause-err g c = refused_by g.M.Machine.kit g.M.Machine.valid _ _ c.claim.result _ c.in-Err.is c.claim.ensures.visit

pub returns-in-Err-work_on-clause-legal : goal.returns-in-Err-work_on-clause-legal
returns-in-Err-work_on-clause-legal g c = c.in-Err-work_on.ensures.err.legal

pub returns-in-Err-clause-legal : goal.returns-in-Err-clause-legal
returns-in-Err-clause-legal g c = c.claim.ensures.visit.legal

use Rattle.std.proofs.Common.{ap, ◌∙◌}
use Rattle.std.proofs.Crossing.{crosses}
use denote.Param.Send.{sendable}
use Rattle.rayon.proofs.ListFacts.{IfOk-then}
use Rattle.rayon.proofs.ToStd.{slice-AllZip}
use Rattle.ls_text.proofs.refusal.Refusal.TheSendSync.{the_send as refusal_send, the_field_send as refusal_field_send}
use Rattle.unit_build.specs.Building.{built}
use Rattle.unit_forge.specs.Results.{IsResultOf}
use Rattle.unit_forge.proofs.KeysShared.{key_sync}
use Rattle.unit_forge.proofs.UnitsSent.{unit_send, unit_field_send}
use Rattle.unit_forge.proofs.building.each_result.Goals as goal

pub with_min_len-requires-send-Self : goal.with_min_len-requires-send-Self
with_min_len-requires-send-Self g c κs within = search (refusal_send, refusal_field_send, unit_send, unit_field_send, key_sync, sendable, crosses) depth 40

pub with_min_len-requires-send-Self-Item : goal.with_min_len-requires-send-Self-Item
with_min_len-requires-send-Self-Item g c κs within = search (refusal_send, refusal_field_send, unit_send, unit_field_send, key_sync, sendable, crosses) depth 40

pub map-requires-send-Self : goal.map-requires-send-Self
map-requires-send-Self g c κs within = search (refusal_send, refusal_field_send, unit_send, unit_field_send, key_sync, sendable, crosses) depth 40

pub map-requires-send-Self-Item : goal.map-requires-send-Self-Item
map-requires-send-Self-Item g c κs within = search (refusal_send, refusal_field_send, unit_send, unit_field_send, key_sync, sendable, crosses) depth 40

pub map-requires-send-U : goal.map-requires-send-U
map-requires-send-U g c κs within = search (refusal_send, refusal_field_send, unit_send, unit_field_send, key_sync, sendable, crosses) depth 40

pub collect-requires-send-Self : goal.collect-requires-send-Self
collect-requires-send-Self g c κs within = search (refusal_send, refusal_field_send, unit_send, unit_field_send, key_sync, sendable, crosses) depth 40

pub collect-requires-send-Self-Item : goal.collect-requires-send-Self-Item
collect-requires-send-Self-Item g c κs within = search (refusal_send, refusal_field_send, unit_send, unit_field_send, key_sync, sendable, crosses) depth 40

pub collect-requires-send-C : goal.collect-requires-send-C
collect-requires-send-C g c κs within = search (refusal_send, refusal_field_send, unit_send, unit_field_send, key_sync, sendable, crosses) depth 40

pub returns : goal.returns
returns g c =
    let slice = ap (λ it. it.base.slice.now) c.map.ensures.base ∙ ap (λ it. it.slice.now) c.with_min_len.ensures.base ∙ c.par_iter.ensures in
    IfOk-then c.collect.result _ _ c.collect.ensures (λ v h.
    let chain = h.1 in
    rw h.2 (slice-AllZip chain.0 c.args.keys.now (chain.1 ∙ slice) (λ k r. IsResultOf (built k.job) r) h.0 chain.2))

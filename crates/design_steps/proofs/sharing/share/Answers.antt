use Rattle.std.proofs.Common.{◌≡◌, ◌-◌, ◌||◌, ◌==◌, ◌∙◌, ℕ, sym, ap, subst, set}
use Rattle.std.specs.Prelude.{slice_index}
use Rattle.typed_ir.specs.FlatNodes.{node_of}
use Rattle.design_steps.specs.Namings.{AreShared, AreMarked, name_given, mark_at}
use Rattle.design_steps.proofs.Shared.{may_move, shared_next, marked_next}
use Rattle.design_steps.proofs.sharing.share.Goals as goal

pub returns-then-may_share-clause-marked : goal.returns-then-may_share-clause-marked
returns-then-may_share-clause-marked c =
    let design = c.args.design.now in
    let slots = c.args.slots.now in
    let stays = c.args.stays.now in
    let n = c.in-Some.named in
    let node = c.index.result.now in
    let may = may_move design slots stays c.args.place n node c.index-wire.result c.requires.there c.index.ensures
    (ap (name_given (node_of node)) (sym c.requires.widths) ∙ sym c.name_given.ensures ∙ c.in-Some.is) c.index-wire.ensures (sym c.may_share.ensures ∙ c.if-may_share.true) in
    subst (λ t. AreMarked design (set slots t (slice_index slots c.index-2.result)) c.stay.new.stays) (sym c.index-wire.ensures)
    (subst (λ t. AreMarked design (set slots n.wire (slice_index slots t)) c.stay.new.stays) (sym c.index-2.ensures)
    (marked_next design slots stays c.args.place n c.requires.shared c.requires.marked may c.stay.new.stays c.stay.ensures.long
    (subst (λ t. (s : ℕ) → mark_at c.stay.new.stays s ≡ (mark_at stays s || (s == slice_index slots t - 1))) c.index-2.ensures c.stay.ensures.marks)))

pub returns-then-may_share-clause-shared : goal.returns-then-may_share-clause-shared
returns-then-may_share-clause-shared c =
    let design = c.args.design.now in
    let slots = c.args.slots.now in
    let stays = c.args.stays.now in
    let n = c.in-Some.named in
    let node = c.index.result.now in
    let may = may_move design slots stays c.args.place n node c.index-wire.result c.requires.there c.index.ensures
    (ap (name_given (node_of node)) (sym c.requires.widths) ∙ sym c.name_given.ensures ∙ c.in-Some.is) c.index-wire.ensures (sym c.may_share.ensures ∙ c.if-may_share.true) in
    subst (λ t. AreShared design (set slots t (slice_index slots c.index-2.result))) (sym c.index-wire.ensures)
    (subst (λ t. AreShared design (set slots n.wire (slice_index slots t))) (sym c.index-2.ensures)
    (shared_next design slots stays c.args.place n c.requires.shared c.requires.marked may))

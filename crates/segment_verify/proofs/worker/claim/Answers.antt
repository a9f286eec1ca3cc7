use Rattle.std.proofs.Common.{lit<, sym}
use Rattle.book_history.specs.declared.who.Who.TheVariants.{Worker}
use Rattle.book_turn.specs.Passes.{known}
use Rattle.segment_verify.proofs.Turns.{claimed, may_claim, has_drawn, has_asked, has_told}
use Rattle.segment_verify.proofs.worker.claim.Goals as goal

pub leave-requires-after_bounds : goal.leave-requires-after_bounds
leave-requires-after_bounds g c κs within = (
  lit< tt,
  (
    c.enter-boxed.ensures.turn,
    may_claim g.M.Machine.kit _ _ _ _ c.claim-answer.new.self (Worker c.args.number) _ c.enter-boxed.ensures.known c.deref_mut-book.ensures.value c.enter-boxed.ensures.learned (sym c.requires.turn.kind)
        c.claim-answer.ensures.settings (claimed g.M.Machine.kit (Worker c.args.number) _ c.claim-answer.new.self c.claim-answer.result c.claim-answer.ensures.answer c.claim-answer.ensures.err),
  ),
)

pub returns-clause-drawn : goal.returns-clause-drawn
returns-clause-drawn g c =
    has_drawn g.M.Machine.kit _ _ _ _ _ c.claim-answer.new.self (Worker c.args.number) _ c.enter-boxed.ensures.known c.leave.ensures.known c.deref_mut-book.ensures.value c.requires.free c.enter-boxed.ensures.learned
    c.claim-answer.ensures.settings (claimed g.M.Machine.kit (Worker c.args.number) _ c.claim-answer.new.self c.claim-answer.result c.claim-answer.ensures.answer c.claim-answer.ensures.err)

pub returns-clause-told : goal.returns-clause-told
returns-clause-told g c =
    has_told g.M.Machine.kit (known c.enter-boxed.new.pass) (known c.leave.new.pass) _ _ c.claim-answer.new.self (Worker c.args.number) c.claim-answer.result c.leave.ensures.known c.deref_mut-book.ensures.value
    c.claim-answer.ensures.answer c.claim-answer.ensures.causes

pub returns-clause-entries : goal.returns-clause-entries
returns-clause-entries g c =
    has_asked g.M.Machine.kit _ _ _ _ _ c.claim-answer.new.self (Worker c.args.number) _ c.enter-boxed.ensures.known c.leave.ensures.known c.deref_mut-book.ensures.value
    (claimed g.M.Machine.kit (Worker c.args.number) _ c.claim-answer.new.self c.claim-answer.result c.claim-answer.ensures.answer c.claim-answer.ensures.err)

use Rattle.std.proofs.Common.{[], Some, refl, subst, sym}
use denote.Param.Send.{sendable}
use Rattle.std.proofs.Crossing.{crosses}
use Rattle.book_turn.specs.Passes.{known}
use Rattle.book_turn.proofs.Turns.{goes_more, goes_none}
use Rattle.module_registry.specs.Views.{entries_of}
use Rattle.live_session.specs.AtTurn.{log_of}
use Rattle.live_session.specs.Beside.{Stands}
use Rattle.live_session.specs.Sessions.{world_of}
use Rattle.live_session.specs.SettleAnswers.{settled_up_to}
use Rattle.live_session.specs.Shown.{settle_text}
use Rattle.cycle_eval.proofs.DesignsShared.{design_send, design_sync}
use Rattle.checkpoint_book.proofs.Draws.{when_err}
use Rattle.live_session.proofs.KeptRuns.{charged_kept}
use Rattle.live_session.proofs.SessionCalls.{kept_there, stands_there}
use Rattle.live_session.proofs.SettleCommands.{cut_stops, settled_steps, settled_stops}
use Rattle.live_session.proofs.SettledAtTurn.{goes_by}
use Rattle.live_session.proofs.SettleLooks.{full_steps, full_stops, looked_at, looked_links, none_steps, none_stops, settle_goes_on}
use Rattle.live_session.proofs.SettleRoom.{charge_covers, charged_stands}
use Rattle.live_session.proofs.session.Session.settle_command.Goals as goal

pub links-links-requires-send-M : goal.links-links-requires-send-M
links-links-requires-send-M g c κs within = search (design_send, sendable, crosses) depth 40 fits 20000

pub links-links-requires-sync-M : goal.links-links-requires-sync-M
links-links-requires-sync-M g c κs within = search (design_sync, sendable, crosses) depth 40 fits 20000

pub invariant_of-self-clause-kept : goal.invariant_of-self-clause-kept
invariant_of-self-clause-kept g c =
    let s = c.args.self.now in
    let r = c.in-Some.running in
    charged_kept s.names s.limits c.links-links.result c.args.passes r c.charge_settle-charged.new.self c.charge_settle-charged.result
    (kept_there s.names s.limits s.running r c.in-Some.is s.kept) c.charge_settle-charged.ensures

pub returns-in-None-clause-steps : goal.returns-in-None-clause-steps
returns-in-None-clause-steps g c =
    none_steps c.args.self.now _ (known c.args.pass.now) c.requires.at c.in-None.is refl refl
    (record { stands = c.requires.at.stands.stands; held = c.requires.at.stands.held }) c.args.line c.args.passes c.refused_line.result c.refused_line.ensures

pub returns-in-None-clause-stops : goal.returns-in-None-clause-stops
returns-in-None-clause-stops g c =
    none_stops c.args.self.now _ (known c.args.pass.now) c.requires.at c.in-None.is refl refl
    (record { stands = c.requires.at.stands.stands; held = c.requires.at.stands.held }) c.args.line c.args.passes c.refused_line.result

pub returns-in-None-clause-goes : goal.returns-in-None-clause-goes
returns-in-None-clause-goes g c = goes_none (known c.args.pass.now)

pub settle-requires-clause-at : goal.settle-requires-clause-at
settle-requires-clause-at g c κs within =
    let s = c.args.self.now in
    let v = known c.args.pass.now in
    let u = known c.links-links.new.pass in
    let r = c.in-Some.running in
    let x = c.charge_settle-charged.new.self in
    let visit = c.links-links.ensures.visit in
    let at = looked_at s v u c.requires.at c.links-links.ensures.free visit in
    let there = stands_there s.limits s.running r (log_of u) c.in-Some.is at.stands.stands in
    let kept = kept_there s.names s.limits s.running r c.in-Some.is s.kept in
    let marked = looked_links s v u c.requires.at c.links-links.ensures.free visit c.links-links.result c.links-links.ensures.links in
    let charge = c.in-Some-charged.ensures in
    record {
      free = at.free;
      carries = at.carries;
      sees = at.sees;
      legal = at.legal;
      stands = record {
        stands = charged_stands s.names c.has_each_once.ensures s.limits r x kept c.args.line c.args.passes (log_of u) there c.links-links.result marked
            c.in-Some-charged.most charge.0 charge.1;
        held = at.stands.held;
      };
    }

pub settle-requires-clause-charged : goal.settle-requires-clause-charged
settle-requires-clause-charged g c κs within =
    let s = c.args.self.now in
    let v = known c.args.pass.now in
    let u = known c.links-links.new.pass in
    let r = c.in-Some.running in
    let x = c.charge_settle-charged.new.self in
    let visit = c.links-links.ensures.visit in
    let at = looked_at s v u c.requires.at c.links-links.ensures.free visit in
    let there = stands_there s.limits s.running r (log_of u) c.in-Some.is at.stands.stands in
    let kept = kept_there s.names s.limits s.running r c.in-Some.is s.kept in
    let marked = looked_links s v u c.requires.at c.links-links.ensures.free visit c.links-links.result c.links-links.ensures.links in
    let charge = c.in-Some-charged.ensures in
    charge_covers s.names c.has_each_once.ensures s.limits r x kept c.args.line c.args.passes (log_of u) there c.links-links.result marked
    c.in-Some-charged.most charge.0 charge.1

pub returns-in_err-answer-in-Some-charged-clause-stops : goal.returns-in_err-answer-in-Some-charged-clause-stops
returns-in_err-answer-in-Some-charged-clause-stops g c =
    let s = c.args.self.now in
    let v = known c.args.pass.now in
    let u = known c.links-links.new.pass in
    let r = c.in-Some.running in
    let x = c.charge_settle-charged.new.self in
    let visit = c.links-links.ensures.visit in
    let at = looked_at s v u c.requires.at c.links-links.ensures.free visit in
    let there = stands_there s.limits s.running r (log_of u) c.in-Some.is at.stands.stands in
    let kept = kept_there s.names s.limits s.running r c.in-Some.is s.kept in
    let marked = looked_links s v u c.requires.at c.links-links.ensures.free visit c.links-links.result c.links-links.ensures.links in
    let charge = c.in-Some-charged.ensures in
    when_err c.from_residual.result
    (cut_stops s _ r x c.in-Some.is (λ grid. refl) refl c.has_each_once.ensures kept v u (known c.settle.new.pass)
    visit.added c.requires.at at c.settle.ensures.at c.args.line c.args.passes c.links-links.result marked there c.in-Some-charged.most charge.0 charge.1 c.in_err-answer-in-Some-charged.ensures.tried)

pub returns-in_err-answer-in-Some-charged-clause-goes : goal.returns-in_err-answer-in-Some-charged-clause-goes
returns-in_err-answer-in-Some-charged-clause-goes g c =
    goes_more _ _ _ (goes_by [] (known c.args.pass.now) (known c.links-links.new.pass) c.links-links.ensures.visit.added) c.settle.ensures.goes

pub returns-in_ok-answer-in-Some-charged-clause-goes : goal.returns-in_ok-answer-in-Some-charged-clause-goes
returns-in_ok-answer-in-Some-charged-clause-goes g c =
    goes_more _ _ _ (goes_by [] (known c.args.pass.now) (known c.links-links.new.pass) c.links-links.ensures.visit.added) c.settle.ensures.goes

pub returns-in_ok-answer-in-Some-charged-clause-steps : goal.returns-in_ok-answer-in-Some-charged-clause-steps
returns-in_ok-answer-in-Some-charged-clause-steps g c =
    let s = c.args.self.now in
    let v = known c.args.pass.now in
    let u = known c.links-links.new.pass in
    let r = c.in-Some.running in
    let x = c.charge_settle-charged.new.self in
    let visit = c.links-links.ensures.visit in
    let at = looked_at s v u c.requires.at c.links-links.ensures.free visit in
    let there = stands_there s.limits s.running r (log_of u) c.in-Some.is at.stands.stands in
    let kept = kept_there s.names s.limits s.running r c.in-Some.is s.kept in
    let marked = looked_links s v u c.requires.at c.links-links.ensures.free visit c.links-links.result c.links-links.ensures.links in
    let charge = c.in-Some-charged.ensures in
    settled_steps s _ r x c.in-Some.is (λ grid. refl) refl c.has_each_once.ensures kept v u (known c.settle.new.pass)
    visit.added c.requires.at at c.settle.ensures.at c.args.line c.args.passes c.links-links.result marked there c.in-Some-charged.most charge.0 charge.1 (settled_up_to c.in_ok-answer-in-Some-charged.answer) c.in_ok-answer-in-Some-charged.ensures.answer c.settle_reply.result
    c.settle_reply.ensures

pub returns-in_ok-answer-in-Some-charged-clause-stops : goal.returns-in_ok-answer-in-Some-charged-clause-stops
returns-in_ok-answer-in-Some-charged-clause-stops g c =
    let s = c.args.self.now in
    let v = known c.args.pass.now in
    let u = known c.links-links.new.pass in
    let r = c.in-Some.running in
    let x = c.charge_settle-charged.new.self in
    let visit = c.links-links.ensures.visit in
    let at = looked_at s v u c.requires.at c.links-links.ensures.free visit in
    let there = stands_there s.limits s.running r (log_of u) c.in-Some.is at.stands.stands in
    let kept = kept_there s.names s.limits s.running r c.in-Some.is s.kept in
    let marked = looked_links s v u c.requires.at c.links-links.ensures.free visit c.links-links.result c.links-links.ensures.links in
    let charge = c.in-Some-charged.ensures in
    settled_stops s _ r x c.in-Some.is (λ grid. refl) refl c.has_each_once.ensures kept v u (known c.settle.new.pass)
    visit.added c.requires.at at c.settle.ensures.at c.args.line c.args.passes c.links-links.result marked there c.in-Some-charged.most charge.0 charge.1 (settled_up_to c.in_ok-answer-in-Some-charged.answer) c.in_ok-answer-in-Some-charged.ensures.answer c.settle_reply.result

pub returns-in-None-charged-clause-steps : goal.returns-in-None-charged-clause-steps
returns-in-None-charged-clause-steps g c =
    let s = c.args.self.now in
    let v = known c.args.pass.now in
    let u = known c.links-links.new.pass in
    let r = c.in-Some.running in
    let x = c.charge_settle-charged.new.self in
    let visit = c.links-links.ensures.visit in
    let at = looked_at s v u c.requires.at c.links-links.ensures.free visit in
    let there = stands_there s.limits s.running r (log_of u) c.in-Some.is at.stands.stands in
    let kept = kept_there s.names s.limits s.running r c.in-Some.is s.kept in
    let marked = looked_links s v u c.requires.at c.links-links.ensures.free visit c.links-links.result c.links-links.ensures.links in
    let charge = c.in-None-charged.ensures in
    full_steps s _ r x c.in-Some.is (λ grid. refl) refl c.has_each_once.ensures kept v u c.requires.at c.links-links.ensures.free visit
    (record { stands = subst (λ y. Stands s.limits (Some y) (log_of u)) (sym charge.0) there; held = at.stands.held }) charge.0 c.args.line c.args.passes c.links-links.result marked c.refused_line-in-None-charged.result charge.1
    c.refused_line-in-None-charged.ensures

pub returns-in-None-charged-clause-stops : goal.returns-in-None-charged-clause-stops
returns-in-None-charged-clause-stops g c =
    let s = c.args.self.now in
    let v = known c.args.pass.now in
    let u = known c.links-links.new.pass in
    let r = c.in-Some.running in
    let x = c.charge_settle-charged.new.self in
    let visit = c.links-links.ensures.visit in
    let at = looked_at s v u c.requires.at c.links-links.ensures.free visit in
    let there = stands_there s.limits s.running r (log_of u) c.in-Some.is at.stands.stands in
    let kept = kept_there s.names s.limits s.running r c.in-Some.is s.kept in
    let marked = looked_links s v u c.requires.at c.links-links.ensures.free visit c.links-links.result c.links-links.ensures.links in
    let charge = c.in-None-charged.ensures in
    full_stops s _ r x c.in-Some.is (λ grid. refl) refl c.has_each_once.ensures kept v u c.requires.at c.links-links.ensures.free visit
    (record { stands = subst (λ y. Stands s.limits (Some y) (log_of u)) (sym charge.0) there; held = at.stands.held }) charge.0 c.args.line c.args.passes c.links-links.result marked c.refused_line-in-None-charged.result

pub returns-in-None-charged-clause-goes : goal.returns-in-None-charged-clause-goes
returns-in-None-charged-clause-goes g c = goes_by [] (known c.args.pass.now) (known c.links-links.new.pass) c.links-links.ensures.visit.added

pub returns-in-None-charged-clause-at : goal.returns-in-None-charged-clause-at
returns-in-None-charged-clause-at g c =
    let s = c.args.self.now in
    let v = known c.args.pass.now in
    let u = known c.links-links.new.pass in
    let r = c.in-Some.running in
    let x = c.charge_settle-charged.new.self in
    let visit = c.links-links.ensures.visit in
    let at = looked_at s v u c.requires.at c.links-links.ensures.free visit in
    let there = stands_there s.limits s.running r (log_of u) c.in-Some.is at.stands.stands in
    record {
      free = at.free;
      carries = at.carries;
      sees = at.sees;
      legal = at.legal;
      stands = record { stands = subst (λ y. Stands s.limits (Some y) (log_of u)) (sym c.in-None-charged.ensures.0) there; held = at.stands.held };
    }

pub returns-in_ok-answer-in-Some-charged-clause-goes_on : goal.returns-in_ok-answer-in-Some-charged-clause-goes_on
returns-in_ok-answer-in-Some-charged-clause-goes_on g c =
    let s = c.args.self.now in
    settle_goes_on
    (λ grid. settle_text (world_of s.names (entries_of s.registry) grid c.charge_settle-charged.new.self)
    (settled_up_to c.in_ok-answer-in-Some-charged.answer)) c.settle_reply.result c.settle_reply.ensures

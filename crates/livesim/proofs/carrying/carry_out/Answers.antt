use Rattle.std.proofs.Common.{◌≡◌, ◌||◌, inl, inr, [], refl, ap, ◌∙◌, subst, arith}
use Rattle.std.proofs.KnownBytes.{Appends-nil}
use Rattle.std.specs.Io.KnownBytes.{Appends}
use Rattle.book_turn.specs.Passes.{known}
use Rattle.book_turn.proofs.Turns.{goes_more, goes_none}
use Rattle.live_session.specs.AtTurn.{log_of}
use Rattle.live_session.specs.Sessions.{settings_of}
use Rattle.livesim.specs.Settings.{settings}
use Rattle.livesim.specs.Writing.{Writes}
use Rattle.livesim.proofs.Over.{front_lived, over_lived, quit_lived}
use Rattle.livesim.proofs.Turns.{none_done, turn_done}
use Rattle.livesim.proofs.carrying.carry_out.Goals as goal
use Rattle.livesim.proofs.carrying.carry_out.Goals.{then-refused, else-refused}

pub commands-init : goal.commands-init
commands-init g c =
    let ready = c.requires.ready in
    record {
      done = λ o has. (
        [],
        [],
        none_done (settings o) _ _ c.args.session.now c.args.reader.now (log_of (known c.args.pass.now)) has ready.blank ready.begins ready.left ready.number
            ready.taken ready.ended,
        Appends-nil _,
      );
      limits = ready.limits;
      its_turn = c.requires.turn;
      at = ready.at;
      goes = goes_none (known c.args.pass.now);
      going = ready.going;
      read = refl;
      kept = refl;
    }

pub returns-in-Over-clause-lived : goal.returns-in-Over-clause-lived
returns-in-Over-clause-lived g c = λ o h has ends legal.
    let so = c.commands.invariant.done o has in
    over_lived o _ _ _ _ _ _ _ _ c.commands.session c.turn.new.session c.commands.reader c.turn.new.reader (log_of (known c.commands.pass))
    (log_of (known c.turn.new.pass)) h ends c.commands.refused so.0 so.1
    c.commands.invariant.limits so.3 so.2 legal c.in-Over.ending c.in-Over.ensures.turned _ c.status_of.ensures

pub returns-in-Over-clause-goes : goal.returns-in-Over-clause-goes
returns-in-Over-clause-goes g c = goes_more (known c.args.pass.now) (known c.commands.pass) (known c.turn.new.pass) c.commands.invariant.goes c.turn.ensures.goes

pub returns-in-Err-Failed-clause-goes : goal.returns-in-Err-Failed-clause-goes
returns-in-Err-Failed-clause-goes g c = goes_more (known c.args.pass.now) (known c.commands.pass) (known c.turn.new.pass) c.commands.invariant.goes c.turn.ensures.goes

pub returns-in-Err-NoMemory-clause-goes : goal.returns-in-Err-NoMemory-clause-goes
returns-in-Err-NoMemory-clause-goes g c = goes_more (known c.args.pass.now) (known c.commands.pass) (known c.turn.new.pass) c.commands.invariant.goes c.turn.ensures.goes

pub returns-then-reply-clause-goes : goal.returns-then-reply-clause-goes
returns-then-reply-clause-goes g c = goes_more (known c.args.pass.now) (known c.commands.pass) (known c.turn.new.pass) c.commands.invariant.goes c.turn.ensures.goes

pub returns-in-Err-Failed-clause-lived : goal.returns-in-Err-Failed-clause-lived
returns-in-Err-Failed-clause-lived g c = λ o h has ends legal.
    let so = c.commands.invariant.done o has in
    front_lived o _ _ _ _ _ _ c.commands.session c.turn.new.session c.commands.reader c.turn.new.reader (log_of (known c.commands.pass))
    (log_of (known c.turn.new.pass)) h ends c.commands.refused so.0 so.1 _ _
    c.commands.invariant.limits so.2 c.in-Answered.ensures.turned.carries _ _ _ so.3 (subst (Writes _ _) c.bytes.ensures c.in-Err-Failed.ensures.front) legal 4 (inl refl)

pub returns-in-Err-NoMemory-clause-lived : goal.returns-in-Err-NoMemory-clause-lived
returns-in-Err-NoMemory-clause-lived g c = λ o h has ends legal.
    let so = c.commands.invariant.done o has in
    front_lived o _ _ _ _ _ _ c.commands.session c.turn.new.session c.commands.reader c.turn.new.reader (log_of (known c.commands.pass))
    (log_of (known c.turn.new.pass)) h ends c.commands.refused so.0 so.1 _ _
    c.commands.invariant.limits so.2 c.in-Answered.ensures.turned.carries _ _ _ so.3 (subst (Writes _ _) c.bytes.ensures c.in-Err-NoMemory.ensures.front) legal 5 (inr refl)

pub returns-then-reply-clause-lived : goal.returns-then-reply-clause-lived
returns-then-reply-clause-lived g c = λ o h has ends legal.
    let so = c.commands.invariant.done o has in
    let a = c.in-Answered.ensures.turned in
    let refuses : (c.commands.refused || c.in-Answered.reply.refused) ≡ c.if-refused.refused
    = elim c.if-refused.branch [ then-refused w ↦ grind arith | else-refused w ↦ grind arith ] in
    let done = turn_done o _ _ _ _ _ _ c.commands.session c.turn.new.session c.commands.reader c.turn.new.reader (log_of (known c.commands.pass))
    (log_of (known c.turn.new.pass)) c.commands.refused so.0 so.1
    c.in-Answered.reply c.commands.invariant.limits so.2 a _ _ _ c.if-refused.refused _ refuses c.if-reply.true so.3
    (subst (Appends _ _) c.bytes.ensures c.in-Ok.ensures.written) in
    quit_lived (settings o) _ _ _ _ _ _ c.turn.new.session c.turn.new.reader (log_of (known c.turn.new.pass)) c.if-refused.refused _ done.0 done.1 done.3 done.2 refl
    a.carries.going h ends legal _ c.status_of-then-reply.ensures

pub commands-preserved : goal.commands-preserved
commands-preserved g c =
    let a = c.in-Answered.ensures.turned in
    let refuses : (c.commands.refused || c.in-Answered.reply.refused) ≡ c.if-refused.refused
    = elim c.if-refused.branch [ then-refused w ↦ grind arith | else-refused w ↦ grind arith ] in
    record {
      done = λ o has.
          let so = c.commands.invariant.done o has in
          turn_done o _ _ _ _ _ _ c.commands.session c.turn.new.session c.commands.reader c.turn.new.reader (log_of (known c.commands.pass))
          (log_of (known c.turn.new.pass)) c.commands.refused so.0 so.1
          c.in-Answered.reply c.commands.invariant.limits so.2 a _ _ _ c.if-refused.refused _ refuses c.if-reply.false so.3
          (subst (Appends _ _) c.bytes.ensures c.in-Ok.ensures.written);
      limits = λ options. ap (settings_of options.interval options.lookback) c.turn.ensures.limits ∙ c.commands.invariant.limits options;
      its_turn = c.turn.ensures.turn;
      at = c.turn.ensures.at;
      goes = goes_more (known c.args.pass.now) (known c.commands.pass) (known c.turn.new.pass) c.commands.invariant.goes c.turn.ensures.goes;
      going = a.carries.going;
      read = a.carries.reads.takes.unfailed (λ failed. grind arith) ∙ c.commands.invariant.read;
      kept = c.in-Ok.ensures.kept ∙ c.commands.invariant.kept;
    }

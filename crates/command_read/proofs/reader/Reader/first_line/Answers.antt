use Rattle.std.proofs.Common.{◌≡◌, ◌∙◌, take, true, sym, ap, arith}
use Rattle.command_read.specs.Lines.{words, is_skipped}
use Rattle.command_read.specs.Readers.{left, has_ended}
use Rattle.command_read.proofs.Skipping.{takes_same, passes_line, skipped_on, line_at_front, no_line_asks, unread_line, unread_skipped}
use Rattle.command_read.proofs.Soon.{goes_soon, soon_outside}
use Rattle.command_read.proofs.Still.{still_kept, still_passed}
use Rattle.command_read.proofs.reader.Reader.first_line.Goals as goal

pub returns-then-not-is_skipped-clause-goes : goal.returns-then-not-is_skipped-clause-goes
returns-then-not-is_skipped-clause-goes g c =
    let so_far = c.loop-found.invariant in
    let first = so_far.goes in
    let second = c.line_at.ensures.takes in
    goes_soon _ _ _ _ _ _ c.args.self.now c.loop-found.self c.line_at.new.self first.0 first.1 second.0 second.1 first.2 first.3 first.4 so_far.going second.2 second.3
    (soon_outside c.loop-found.self second.0 second.4) c.line_at.ensures.number

pub returns-then-not-is_skipped-clause-unread : goal.returns-then-not-is_skipped-clause-unread
returns-then-not-is_skipped-clause-unread g c =
    unread_line _ _ _ c.args.self.now c.loop-found.self c.line_at.new.self (λ p q. q ∙ p) c.loop-found.invariant.unread c.line_at.ensures.unread c.line_at.ensures.number

pub loop-found-preserved : goal.loop-found-preserved
loop-found-preserved g c =
    let so_far = c.loop-found.invariant in
    let first = so_far.goes in
    let second = c.line_at.ensures.takes in
    let old = c.args.self.now in
    let mid = c.line_at.new.self in
    let new = c.pass.new.self in
    let found = c.in-Some.found in
    let skipped : is_skipped (words (take found.end (left mid))) ≡ true
    = ap (λ l. is_skipped (words l)) (ap (take found.end) (sym c.left.ensures) ∙ sym c.split_at.ensures.front) ∙ sym c.is_skipped.ensures ∙ c.if-not-is_skipped.false in
    let gone = goes_soon _ _ _ _ _ _ old c.loop-found.self mid first.0 first.1 second.0 second.1 first.2 first.3 first.4 so_far.going second.2 second.3
    (soon_outside c.loop-found.self second.0 second.4) c.line_at.ensures.number in
    let is = line_at_front mid found c.in-Some.ensures.found in
    let hands = passes_line mid new found.end found.next is skipped c.pass.ensures.held c.pass.ensures.number c.pass.ensures.ended in
    record {
      goes = (
        gone.0,
        gone.1,
        takes_same _ _ _ _ old mid new gone.0 gone.1 gone.2 c.pass.ensures.taken c.pass.ensures.stop c.pass.ensures.ended,
        skipped_on old mid new gone.1 gone.3 hands c.pass.ensures.ended,
        gone.4,
      );
      still = omega (
        arith,
        still_passed mid new found.next c.pass.ensures.held c.pass.ensures.taken c.in-Some.ensures.found.more c.in-Some.ensures.found.high,
        still_kept c.loop-found.self mid second.0 second.1 second.2.counted second.2.holds second.3 mid.sound.most,
        so_far.still,
      );
      going = c.pass.ensures.stop ∙ c.in-Some.ensures.going;
      unread = unread_skipped _ old mid new (unread_line _ _ _ old c.loop-found.self mid (λ p q. q ∙ p) so_far.unread c.line_at.ensures.unread c.line_at.ensures.number) hands c.pass.ensures.ended;
    }

pub returns-clause-goes : goal.returns-clause-goes
returns-clause-goes g c =
    let so_far = c.loop-found.invariant in
    let first = so_far.goes in
    let second = c.line_at.ensures.takes in
    goes_soon _ _ _ _ _ _ c.args.self.now c.loop-found.self c.line_at.new.self first.0 first.1 second.0 second.1 first.2 first.3 first.4 so_far.going second.2 second.3
    (soon_outside c.loop-found.self second.0 second.4) c.line_at.ensures.number

pub returns-clause-none : goal.returns-clause-none
returns-clause-none g c = no_line_asks c.line_at.new.self (has_ended c.line_at.new.self) c.in_default.ensures.none

pub returns-clause-unread : goal.returns-clause-unread
returns-clause-unread g c =
    unread_line _ _ _ c.args.self.now c.loop-found.self c.line_at.new.self (λ p q. q ∙ p) c.loop-found.invariant.unread c.line_at.ensures.unread c.line_at.ensures.number

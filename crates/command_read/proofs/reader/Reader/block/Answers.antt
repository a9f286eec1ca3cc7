use Rattle.std.proofs.Common.{◌≡◌, inl, ◌+◌, ◌-◌, ◌<◌, ◌∙◌, [], take, drop, false, not, sym, ap, refl, subst, append-nil, true≢false, arith}
use Rattle.std.specs.Prelude.{codes}
use Rattle.ls_text.proofs.Options.{no_value}
use Rattle.command_read.specs.Lines.{words, are_just}
use Rattle.command_read.specs.Scripts.{Within}
use Rattle.command_read.specs.Scanned.{Scanned}
use Rattle.command_read.specs.Readers.{left, next_number, has_ended, stopped, asked_of}
use Rattle.command_read.proofs.Ends.{stopped_from}
use Rattle.command_read.proofs.Sources.{takes_nothing, only_same}
use Rattle.command_read.proofs.Soon.{reads_soon, soon_within}
use Rattle.command_read.proofs.InBlocks.{before_of, text_behind, begins_block, begins_whole, moved_scan, moved_whole, ends_block, scans_line, whole_on, lines_on, cut_block, open_block, no_more_lines, unread_block}
use Rattle.command_read.proofs.reader.Reader.block.Goals as goal
use Rattle.command_read.proofs.reader.Reader.block.Goals.{else-not-in_text-via-then-not-in_text+else-is_just, else-not-in_text-via-else-not-in_text}

pub loop-found-init : goal.loop-found-init
loop-found-init g c = record {
  takes = ([], [], takes_nothing _ _ c.args.self.now c.requires.going, sym (append-nil (left c.args.self.now)), inl refl);
  number = refl;
  going = c.requires.going;
  low = omega arith;
  high = c.requires.within;
  few = omega (arith, c.requires.some);
  scanned = begins_block (has_ended c.args.self.now) (next_number c.args.self.now) c.args.body (left c.args.self.now) c.requires.begun;
  whole = begins_whole c.args.body (left c.args.self.now);
  unread = inl (refl, refl, refl);
}

pub returns-then-is_just-clause-takes : goal.returns-then-is_just-clause-takes
returns-then-is_just-clause-takes g c =
    let so = c.loop-found.invariant in
    let second = c.line_at.ensures.takes in
    reads_soon _ _ _ _ _ _ c.args.self.now c.loop-found.self c.line_at.new.self so.takes.0 so.takes.1 second.0 second.1 so.takes.2 so.takes.3 so.number so.takes.4 so.going second.2 second.3
    (soon_within c.loop-found.self _ _ _ c.loop-found.from second.0 so.scanned so.high second.4)

pub returns-then-is_just-clause-found : goal.returns-then-is_just-clause-found
returns-then-is_just-clause-found g c =
    let so = c.loop-found.invariant in
    let second = c.line_at.ensures.takes in
    let old = c.loop-found.self in
    let new = c.line_at.new.self in
    let from = c.loop-found.from in
    let f = c.in-Some.found in
    let found = c.in-Some.ensures.found in
    let scan = moved_scan old new second.1 c.args.body from c.loop-found.lines c.loop-found.in_text second.3 c.line_at.ensures.number so.low so.high
    (λ e. let still = second.2.quiet e in (still.1, still.2)) so.scanned in
    let is = ap (λ l. take (f.end - from) (drop from l)) c.left.ensures in (
      so.low,
      omega (arith, found.more),
      found.high,
      omega (arith, so.few, found.more),
      omega (arith, found.more),
      ends_block new c.args.body from c.loop-found.lines c.loop-found.in_text f _ scan found is c.if-not-in_text.true (sym c.is_just.ensures ∙ c.if-is_just.true),
    )

pub returns-then-is_just-clause-unread : goal.returns-then-is_just-clause-unread
returns-then-is_just-clause-unread g c =
    let so = c.loop-found.invariant in
    only_same _ _ _ _ (unread_block _ _ _ c.args.self.now c.loop-found.self c.line_at.new.self _ _ _ c.loop-found.from (λ p q. q ∙ p) so.unread c.line_at.ensures.unread so.scanned so.number)

pub returns-then-found-clause-takes : goal.returns-then-found-clause-takes
returns-then-found-clause-takes g c =
    let so = c.loop-found.invariant in
    let second = c.line_at.ensures.takes in
    reads_soon _ _ _ _ _ _ c.args.self.now c.loop-found.self c.line_at.new.self so.takes.0 so.takes.1 second.0 second.1 so.takes.2 so.takes.3 so.number so.takes.4 so.going second.2 second.3
    (soon_within c.loop-found.self _ _ _ c.loop-found.from second.0 so.scanned so.high second.4)

pub returns-then-found-clause-found : goal.returns-then-found-clause-found
returns-then-found-clause-found g c =
    let so = c.loop-found.invariant in
    let second = c.line_at.ensures.takes in
    let old = c.loop-found.self in
    let new = c.line_at.new.self in
    let from = c.loop-found.from in
    let f = c.in-Some.found in
    let found = c.in-Some.ensures.found in
    let line = take (f.end - from) (drop from c.left.result.now) in
    let scan = moved_scan old new second.1 c.args.body from c.loop-found.lines c.loop-found.in_text second.3 c.line_at.ensures.number so.low so.high
    (λ e. let still = second.2.quiet e in (still.1, still.2)) so.scanned in
    let is = ap (λ l. take (f.end - from) (drop from l)) c.left.ensures in
    let other : c.loop-found.in_text ≡ false → are_just (codes "end") (words line) ≡ false
    = elim c.else-not-in_text.branch [
      | else-not-in_text-via-then-not-in_text+else-is_just w ↦ λ outside. sym w.is_just.ensures ∙ w.if-is_just.false
      | else-not-in_text-via-else-not-in_text w ↦ λ outside. absurd (true≢false (sym w.if-not-in_text.false ∙ outside))
    ] in
    let done = no_more_lines new from f found c.if-found.true in
    (done.0, cut_block new _ _ _ f.next (scans_line new c.args.body from c.loop-found.lines c.loop-found.in_text f line scan found is other) done.1 done.0)

pub returns-then-found-clause-unread : goal.returns-then-found-clause-unread
returns-then-found-clause-unread g c =
    let so = c.loop-found.invariant in
    only_same _ _ _ _ (unread_block _ _ _ c.args.self.now c.loop-found.self c.line_at.new.self _ _ _ c.loop-found.from (λ p q. q ∙ p) so.unread c.line_at.ensures.unread so.scanned so.number)

pub loop-found-preserved : goal.loop-found-preserved
loop-found-preserved g c =
    let so = c.loop-found.invariant in
    let second = c.line_at.ensures.takes in
    let old = c.loop-found.self in
    let new = c.line_at.new.self in
    let body = c.args.body in
    let from = c.loop-found.from in
    let lines = c.loop-found.lines in
    let f = c.in-Some.found in
    let found = c.in-Some.ensures.found in
    let line = take (f.end - from) (drop from c.left.result.now) in
    let scan = moved_scan old new second.1 body from lines c.loop-found.in_text second.3 c.line_at.ensures.number so.low so.high
    (λ e. let still = second.2.quiet e in (still.1, still.2)) so.scanned in
    let whole = moved_whole body from (left old) second.1 (left new) so.low so.high second.3 so.whole in
    let is = ap (λ l. take (f.end - from) (drop from l)) c.left.ensures in
    let other : c.loop-found.in_text ≡ false → are_just (codes "end") (words line) ≡ false
    = elim c.else-not-in_text.branch [
      | else-not-in_text-via-then-not-in_text+else-is_just w ↦ λ outside. sym w.is_just.ensures ∙ w.if-is_just.false
      | else-not-in_text-via-else-not-in_text w ↦ λ outside. absurd (true≢false (sym w.if-not-in_text.false ∙ outside))
    ] in
    let more : f.end < f.next = omega (arith, found.order, c.if-found.false) in
    let next = scans_line new body from lines c.loop-found.in_text f line scan found is other in
    let n = next_number new in
    let before = subst (λ ls. Scanned (has_ended new) n (left new) (Within n ls (text_behind c.loop-found.in_text line)) (n + (lines + 1)) f.next) (sym (lines_on new body from f line found is so.low more whole)) next in
    record {
      takes = reads_soon _ _ _ _ _ _ c.args.self.now old new so.takes.0 so.takes.1 second.0 second.1 so.takes.2 so.takes.3 so.number so.takes.4 so.going second.2 second.3
          (soon_within old _ _ _ c.loop-found.from second.0 so.scanned so.high second.4);
      number = c.line_at.ensures.number ∙ so.number;
      going = c.in-Some.ensures.going;
      low = omega (arith, so.low, found.more);
      high = found.high;
      few = omega (arith, so.few, found.more);
      scanned = subst (λ t. Scanned (has_ended new) n (left new) (Within n (before_of new body f.next) t) (n + (lines + 1)) f.next) (sym c.is_in_text-in_text.ensures) before;
      whole = whole_on new body from f found so.low more whole;
      unread = unread_block _ _ _ c.args.self.now old new _ _ _ from (λ p q. q ∙ p) so.unread c.line_at.ensures.unread so.scanned so.number;
    }

pub returns-then-is_none-clause-takes : goal.returns-then-is_none-clause-takes
returns-then-is_none-clause-takes g c =
    let so = c.loop-found.invariant in
    let second = c.line_at.ensures.takes in
    reads_soon _ _ _ _ _ _ c.args.self.now c.loop-found.self c.line_at.new.self so.takes.0 so.takes.1 second.0 second.1 so.takes.2 so.takes.3 so.number so.takes.4 so.going second.2 second.3
    (soon_within c.loop-found.self _ _ _ c.loop-found.from second.0 so.scanned so.high second.4)

pub returns-then-is_none-clause-found : goal.returns-then-is_none-clause-found
returns-then-is_none-clause-found g c =
    let so = c.loop-found.invariant in
    let second = c.line_at.ensures.takes in
    let new = c.line_at.new.self in
    let scan = moved_scan c.loop-found.self new second.1 c.args.body c.loop-found.from c.loop-found.lines c.loop-found.in_text second.3 c.line_at.ensures.number so.low so.high
    (λ e. let still = second.2.quiet e in (still.1, still.2)) so.scanned in
    let ended = c.in_default.ensures.ends (no_value (stopped new) (c.is_none.ensures ∙ ap not c.if-is_none.true)) in
    (ended, cut_block new _ _ _ c.loop-found.from scan c.in_default.ensures.none ended)

pub returns-then-is_none-clause-unread : goal.returns-then-is_none-clause-unread
returns-then-is_none-clause-unread g c =
    let so = c.loop-found.invariant in
    only_same _ _ _ _ (unread_block _ _ _ c.args.self.now c.loop-found.self c.line_at.new.self _ _ _ c.loop-found.from (λ p q. q ∙ p) so.unread c.line_at.ensures.unread so.scanned so.number)

pub returns-else-is_none-clause-takes : goal.returns-else-is_none-clause-takes
returns-else-is_none-clause-takes g c =
    let so = c.loop-found.invariant in
    let second = c.line_at.ensures.takes in
    reads_soon _ _ _ _ _ _ c.args.self.now c.loop-found.self c.line_at.new.self so.takes.0 so.takes.1 second.0 second.1 so.takes.2 so.takes.3 so.number so.takes.4 so.going second.2 second.3
    (soon_within c.loop-found.self _ _ _ c.loop-found.from second.0 so.scanned so.high second.4)

pub returns-else-is_none-clause-none : goal.returns-else-is_none-clause-none
returns-else-is_none-clause-none g c =
    let so = c.loop-found.invariant in
    let second = c.line_at.ensures.takes in
    let new = c.line_at.new.self in
    let scan = moved_scan c.loop-found.self new second.1 c.args.body c.loop-found.from c.loop-found.lines c.loop-found.in_text second.3 c.line_at.ensures.number so.low so.high
    (λ e. let still = second.2.quiet e in (still.1, still.2)) so.scanned in
    let more = c.in_default.ensures.open (stopped_from (stopped new) (c.is_none.ensures ∙ ap not c.if-is_none.false)) in
    ap (asked_of new []) more ∙ open_block new (has_ended new) _ _ _ c.loop-found.from scan c.in_default.ensures.none more

pub returns-else-is_none-clause-unread : goal.returns-else-is_none-clause-unread
returns-else-is_none-clause-unread g c =
    let so = c.loop-found.invariant in
    only_same _ _ _ _ (unread_block _ _ _ c.args.self.now c.loop-found.self c.line_at.new.self _ _ _ c.loop-found.from (λ p q. q ∙ p) so.unread c.line_at.ensures.unread so.scanned so.number)

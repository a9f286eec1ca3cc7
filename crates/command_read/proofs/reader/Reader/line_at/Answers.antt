use Rattle.std.proofs.Common.{◌≡◌, inl, inr, ◌≤◌, ◌++◌, [], None, length, drop, refl, not, sym, ap, ◌∙◌, append-nil, append_assoc, length-append, arith}
use Rattle.std.proofs.lemmas.Option.{none-some}
use Rattle.ls_text.proofs.Options.{no_value}
use Rattle.command_read.specs.declared.stop.Stop.TheVariants.{End}
use Rattle.command_read.specs.Readers.{left, stopped}
use Rattle.command_read.proofs.FirstLines.{no_line}
use Rattle.command_read.proofs.Sources.{takes_nothing, takes_on}
use Rattle.command_read.proofs.Soon.{soon_read}
use Rattle.command_read.proofs.Ends.{all_seen, still_none, halted_so, unread_so}
use Rattle.command_read.proofs.reader.Reader.line_at.Goals as goal

pub loop-self-init : goal.loop-self-init
loop-self-init g c = record {
  takes = ([], [], takes_nothing _ _ c.args.self.now c.requires.going, sym (append-nil (left c.args.self.now)), inl refl);
  number = refl;
  low = omega arith;
  high = c.requires.within;
  none = omega arith;
  halted = inl c.requires.going;
  unread = inl (refl, refl, refl);
  not_end = λ end. none-some End (sym c.requires.going ∙ end);
}

pub loop-self-preserved : goal.loop-self-preserved
loop-self-preserved g c =
    let old = c.loop-self.self in
    let new = c.fill.new.self in
    let so_far = c.loop-self.invariant in
    let first = so_far.takes in
    let second = c.fill.ensures.takes in
    let going : stopped old ≡ None = no_value (stopped old) (c.is_none.ensures ∙ ap not c.loop-self-test.true) in
    let from = c.args.from in
    let end = c.newline_from-end.result in
    let place = c.newline_from-end.ensures.value in
    let full : length (left old) ≤ end = omega (arith, c.if-end-left.false, ap length c.left.ensures) in
    let seen = all_seen from end (left old) place full in
    let within : from ≤ length (left old) = omega (arith, so_far.low, so_far.high) in
    record {
      takes = (
        first.0 ++ second.0,
        first.1 ++ second.1,
        takes_on _ _ _ _ _ _ c.args.self.now old new first.0 first.1 second.0 second.1 first.2 going second.2,
        second.3 ∙ ap (λ l. l ++ second.1) first.3 ∙ append_assoc (left c.args.self.now) first.1 second.1,
        soon_read _ _ _ _ from c.args.self.now old first.0 first.1 second.0 first.2 going first.3 c.if-self.false (no_line (drop from (left old)) seen) second.5,
      );
      number = c.fill.ensures.number ∙ so_far.number;
      low = omega (arith, place);
      high = omega (arith, c.newline_from-end.ensures.within, ap length second.3, length-append (left old) second.1);
      none = still_none from end (left old) second.1 (left new) within place second.3;
      halted = halted_so (stopped new) _ from (left old) second.1 (left new) second.3 second.4 c.fill.ensures.open seen;
      unread = inr (unread_so _ from (left c.args.self.now) (left old) _ _ so_far.unread c.if-self.false (no_line (drop from (left old)) seen));
      not_end = c.fill.ensures.not_end;
    }

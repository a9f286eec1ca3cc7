use Rattle.std.proofs.Common.{◌≡◌, ◌<◌, ◌++◌, ◌∙◌, ℕ, List, length, ap, subst, sym}
use Rattle.ls_text.proofs.Lists.{get_or_one}
use Rattle.typed_ir.specs.declared.span.Span.{Span}
use Rattle.typed_ir.specs.Valuations.{within}
use Rattle.block_rules.specs.Paths.{true_from}
use Rattle.driver_rules.specs.Doubles.{overlaps}
use Rattle.driver_rules.specs.Told.{marked, Grows}
use Rattle.driver_rules.proofs.Doubles.{each_read, overlap_next, grows_none, grows_next, grows_all}
use Rattle.driver_rules.proofs.taking.take_apart.Goals as goal

pub loop-k-init : goal.loop-k-init
loop-k-init c = record {
  bad = ap (λ (ns : List ℕ). ns ++ true_from 0 (overlaps (marked c.args.taken.now) c.args.spans.now)) c.new-bad.ensures.items;
  grows = grows_none c.args.by.now c.args.taken.now c.args.drivers.now.items;
}

pub meets-double-requires : goal.meets-double-requires
meets-double-requires c =
    subst (λ (n : ℕ). c.index-spans-k.result.signal < n) (sym c.loop-k.auto.taken)
    (each_read (λ (p : Span). p.signal < length c.args.taken.now) c.args.spans.now c.loop-k.k c.index-spans-k.result c.requires c.loop-k-test.true c.index-spans-k.is)

pub take_part-requires : goal.take_part-requires
take_part-requires c =
    subst (λ (n : ℕ). c.index-spans-k-in-loop-k.result.signal < n) (sym c.loop-k.auto.taken)
    (each_read (λ (p : Span). p.signal < length c.args.taken.now) c.args.spans.now c.loop-k.k c.index-spans-k-in-loop-k.result c.requires c.loop-k-test.true c.index-spans-k-in-loop-k.is)

pub loop-k-preserved : goal.loop-k-preserved
loop-k-preserved c =
    let spans = c.args.spans.now in
    let k = c.loop-k.k in
    let x = c.index-spans-k.result in
    let same : c.index-spans-k-in-loop-k.result ≡ x = get_or_one spans k c.index-spans-k-in-loop-k.result x c.loop-k-test.true c.index-spans-k-in-loop-k.is c.index-spans-k.is in
    let grows : Grows c.args.by.now c.loop-k.taken c.take_part.new.taken c.loop-k.drivers.items c.take_part.new.drivers.items (within x) =
    subst (λ (p : Span). Grows c.args.by.now c.loop-k.taken c.take_part.new.taken c.loop-k.drivers.items c.take_part.new.drivers.items (within p)) same c.in_ok-take_part.ensures in
    record {
      bad = overlap_next spans k x c.meets-double.result c.loop-k.bad.items c.note_if.new.found.items c.loop-k.taken c.take_part.new.taken
          c.loop-k-test.true c.index-spans-k.is c.meets-double.ensures c.in_ok-note_if.ensures grows.taken
          ∙ c.loop-k.invariant.bad;
      grows = grows_next c.args.by.now c.args.taken.now c.loop-k.taken c.take_part.new.taken c.args.drivers.now.items c.loop-k.drivers.items c.take_part.new.drivers.items
          spans k x c.loop-k-test.true c.index-spans-k.is c.loop-k.invariant.grows grows;
    }

pub returns-clause-grows : goal.returns-clause-grows
returns-clause-grows c =
    grows_all c.args.by.now c.args.taken.now c.loop-k.taken c.args.drivers.now.items c.loop-k.drivers.items
    c.args.spans.now c.loop-k.k c.loop-k-test.false c.loop-k.invariant.grows

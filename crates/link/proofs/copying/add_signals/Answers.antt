use Rattle.std.proofs.Common.{List, ◌∷◌, [], map, refl, ◌∙◌, ap, arith}
use Rattle.typed_ir.specs.Flats.{signal_of, are_within}
use Rattle.typed_ir.specs.declared.unit_signal.UnitSignal.{UnitSignal}
use Rattle.typed_ir.specs.Trees.{signal_there}
use Rattle.typed_ir.specs.Units.{signal_within}
use Rattle.link.specs.Copies.{path_at}
use Rattle.link.proofs.Steps.{stepped, pushed}
use Rattle.link.proofs.Making.{within_more}
use Rattle.link.proofs.copying.add_signals.Goals as goal

pub loop-x-preserved : goal.loop-x-preserved
loop-x-preserved c =
    let old = c.loop-x.signals.items in
    let new = c.push.new.self.items in
    let x = c.x-item.result in
    let copy = c.copied_signal-copy.result in
    record {
      left = λ rows.
          let F = λ (zs : List UnitSignal). map (signal_there (path_at rows c.args.instance)) (map signal_within zs) in
          let y = signal_there (path_at rows c.args.instance) (signal_within x) in
          stepped F F c.args.own.now c.loop-x.x-index x (y ∷ []) (map (signal_of rows) old) (map (signal_of rows) new) _
          c.loop-x-test.true c.x-item.is refl
          (pushed (signal_of rows) old new copy y c.in_ok-push.ensures.items (c.copied_signal-copy.ensures.signal rows)) (c.loop-x.invariant.left rows);
      there = λ count h. ap (λ zs. are_within zs count) c.in_ok-push.ensures.items
          ∙ within_more old copy count (omega (arith, c.copied_signal-copy.ensures.there, h)) ∙ c.loop-x.invariant.there count h;
    }

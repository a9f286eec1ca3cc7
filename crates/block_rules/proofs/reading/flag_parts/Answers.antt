use Rattle.std.proofs.Common.{List, [], ◌++◌, ap, sym, subst}
use Rattle.std.specs.declared.vec.Vec.{Vec}
use Rattle.std.specs.Global.{Global}
use Rattle.std.specs.Prelude.{Bool}
use Rattle.typed_ir.specs.declared.touch.Touch.{Touch}
use Rattle.typed_ir.specs.Targets.{targets_of}
use Rattle.block_rules.specs.Paths.{index_flags}
use Rattle.block_rules.specs.Tables.{bits_of, Leads}
use Rattle.block_rules.proofs.Leading.{back}
use Rattle.block_rules.proofs.Listing.{fixed_part, moving_part}
use Rattle.block_rules.proofs.reading.flag_parts.Goals.{in-Fixed+in_ok-learn_span-in-Fixed, in-Moving+in_ok-flag_form-in-Moving}
use Rattle.block_rules.proofs.reading.flag_parts.Goals as goal

pub loop-part-preserved : goal.loop-part-preserved
loop-part-preserved c =
    let written = c.args.written.now in
    let start = c.args.known.now in
    let whole : List Bool = c.args.flags.now.items ++ index_flags (bits_of written) (targets_of c.args.parts.now) (bits_of start) in
    elim c.match-part.branch [
      | in-Fixed+in_ok-learn_span-in-Fixed w ↦
          fixed_part c.args.parts.now c.loop-part.part-index c.part-item.result w.in-Fixed.lane written start c.loop-part.known w.learn_span.new.table
          c.match-part.known c.loop-part.learned.items w.learn_span.new.learned.items c.match-part.learned.items c.loop-part.flags.items c.match-part.flags.items whole
          c.loop-part-test.true c.part-item.is w.in-Fixed.is c.requires c.loop-part.invariant w.in_ok-learn_span-in-Fixed.ensures
          w.known-is (ap (λ (v : Vec Bool Global). v.items) w.flags-is) (ap (λ (v : Vec Touch Global). v.items) w.learned-is)
      | in-Moving+in_ok-flag_form-in-Moving w ↦
          moving_part c.args.parts.now c.loop-part.part-index c.part-item.result w.in-Moving.reach w.in-Moving.index (bits_of written) start c.loop-part.known
          c.match-part.known c.loop-part.learned.items c.match-part.learned.items c.loop-part.flags.items w.flag_form.new.flags.items c.match-part.flags.items whole
          c.loop-part-test.true c.part-item.is w.in-Moving.is c.loop-part.invariant w.in_ok-flag_form-in-Moving.ensures
          w.known-is (ap (λ (v : Vec Bool Global). v.items) w.flags-is) (ap (λ (v : Vec Touch Global). v.items) w.learned-is)
    ]

pub returns-clause-known : goal.returns-clause-known
returns-clause-known c =
    let bits = bits_of c.loop-part.known in
    back c.args.known.now c.loop-part.known c.forget.new.table c.deref.result.now bits bits
    (subst (λ ts. Leads c.args.known.now c.loop-part.known [] ts bits bits) (sym c.deref.ensures.value) c.loop-part.invariant.0) c.forget.ensures.bits

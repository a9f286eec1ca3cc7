use Rattle.std.proofs.Common.{◌≡◌, ◌<◌, ◌+◌, ◌++◌, length, drop, ap, sym, ◌∙◌, arith, true}
use Rattle.verilog_pre.specs.Views.{parts_of}
use Rattle.verilog_pre.specs.Bodies.{trimmed_len, goes_on, cut_len}
use Rattle.verilog_pre.proofs.Cuts.{parts_more, parts_last, len_on, len_last}
use Rattle.verilog_pre.proofs.body.read_trimmed.Goals as goal

pub returns-then-not-goes_on-clause-parts : goal.returns-then-not-goes_on-clause-parts
returns-then-not-goes_on-clause-parts c =
    let last = parts_last c.args.file c.loop-rest.at c.loop-rest.rest.now c.body_cut-cut.result (grind arith) c.body_cut-cut.ensures.value (sym c.goes_on.ensures ∙ c.if-not-goes_on.true) in
    c.in_ok-push_cut.ensures.parts ∙ ap (λ ps. parts_of c.loop-rest.macros ++ ps) (sym last) ∙ c.loop-rest.invariant.parts

pub returns-then-not-goes_on-clause-length : goal.returns-then-not-goes_on-clause-length
returns-then-not-goes_on-clause-length c =
    let last : trimmed_len c.loop-rest.rest.now ≡ cut_len c.body_cut-cut.result = len_last c.loop-rest.rest.now c.body_cut-cut.result (grind arith) c.body_cut-cut.ensures.value (sym c.goes_on.ensures ∙ c.if-not-goes_on.true) in
    omega (arith, last, c.loop-rest.invariant.count, c.len-n.ensures)

pub loop-rest-preserved : goal.loop-rest-preserved
loop-rest-preserved c =
    let some : 0 < length c.loop-rest.rest.now = grind arith in
    let on : goes_on c.body_cut-cut.result ≡ true = sym c.goes_on.ensures ∙ c.if-not-goes_on.false in
    let more : 0 < c.len-n.result = omega (arith, c.body_cut-cut.ensures.some on, c.len-n.ensures) in
    let count : trimmed_len c.loop-rest.rest.now ≡ c.len-n.result + trimmed_len (drop c.len-n.result c.loop-rest.rest.now) = len_on c.loop-rest.rest.now c.body_cut-cut.result c.len-n.result some c.body_cut-cut.ensures.value c.len-n.ensures more (omega (arith, c.body_cut-cut.ensures.within, c.len-n.ensures)) on in
    record {
      parts = parts_more c.args.file c.loop-rest.at c.loop-rest.rest.now c.split_at.result.1.now c.body_cut-cut.result c.len-n.result _ _ _ some c.body_cut-cut.ensures.value c.len-n.ensures more on c.split_at.ensures.back c.in_ok-push_cut.ensures.parts c.loop-rest.invariant.parts;
      table = c.in_ok-push_cut.ensures.table ∙ c.loop-rest.invariant.table;
      places = c.in_ok-push_cut.ensures.places ∙ c.loop-rest.invariant.places;
      sound = c.in_ok-push_cut.ensures.sound;
      count = omega (arith, count, ap trimmed_len c.split_at.ensures.back, c.split_at.ensures.back_len, c.loop-rest.invariant.count, c.loop-rest.invariant.less);
      less = omega (arith, c.split_at.ensures.back_len, c.loop-rest.invariant.less);
      place = omega (arith, c.split_at.ensures.back_len, c.loop-rest.invariant.place);
    }

use Rattle.cycle_eval.proofs.design.Design.make.Goals as goal

pub invariant_of-result : goal.invariant_of-result
invariant_of-result c = record {
  laid = c.in_ok-layout.ensures.made;
  runs = ∣ c.in_ok-program.ensures ∣₁;
}

use Rattle.std.proofs.Common.{◌∙◌, List, ℕ, sym, ap}
use Rattle.stimulus.specs.Rows.{are_same}
use Rattle.stimulus.proofs.Joined.{last_ends}
use Rattle.stimulus.proofs.lasting.ends_with.Goals as goal

pub returns-in-Some : goal.returns-in-Some
returns-in-Some c =
    c.same.ensures.value
    ∙ ap (λ (x : List (ℕ × ℕ)). are_same x c.args.row.now) c.deref.ensures
    ∙ sym (last_ends c.args.runs.now c.in-Some.run'.now c.args.row.now (sym c.in-Some.ensures.value))

-- Which word of a signal an assignment of the code writes.
use Rattle.std.specs.Prelude.{ℕ}
use Rattle.design_steps.specs.declared.home.Home.{Home}
use Rattle.design_steps.specs.declared.home.Home.TheVariants.{Now, Later}
use Rattle.design_steps.specs.Plans.{Plan}

abbrev pub home_of : Home → Plan → ℕ → ℕ
home_of Now l = l.slot
home_of Later l = l.next

use Rattle.std.proofs.Common.{◌≡◌, ◌∙◌, List, map, ap₂, rules}
use Rattle.gen_unroll.specs.Views.{step_of}
use Rattle.statement_rules.specs.DeclaredValues.{InitialValue}
use Rattle.statement_rules.specs.Views.{initial_of}
use Rattle.typed_ir.specs.Items.{PlacedItem, item_of}
use Rattle.gen_unroll.specs.ModuleViews.{table_in}
use Rattle.unit_build.specs.Building.{job_items, job_initials, placed}
use Rattle.unit_build.proofs.building.sized.Goals as goal

pub returns-clause-items : goal.returns-clause-items
returns-clause-items c =
    let job = c.args.job.now in
    let t = table_in c.args.signals.now in
    let items : map item_of c.in_ok-list.list.items.items ≡ job_items job t c.args.settled.now (map step_of c.args.steps.now) = search rules in
    let initials : map initial_of c.in_ok-list.list.initials.items ≡ job_initials job t c.args.settled.now (map step_of c.args.steps.now) = search rules in
    c.in_ok-items.ensures.items ∙ ap₂ (λ (xs : List PlacedItem) (vs : List InitialValue). placed job t xs vs) items initials

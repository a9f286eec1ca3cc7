-- The names of a design that texts come to are names of the table.
use Rattle.std.proofs.Common.{ℕ, List, All, length}
use Rattle.std.specs.Prelude.{Option, Ok}
use Rattle.std.proofs.Math.Logic.{∥∥₁_elim}
use Rattle.std.proofs.Props.{props}
use Rattle.std.proofs.lemmas.List.Elements.{All-weaker}
use Rattle.ls_text.specs.Texts.{HasEachOnce}
use Rattle.ls_text.specs.declared.name_id.NameId.{NameId}
use Rattle.ls_text.specs.declared.source_file.SourceFile.{SourceFile}
use Rattle.typed_ir.specs.Cycles.{Signal}
use Rattle.cycle_eval.specs.Designs.{design_flat}
use Rattle.version_swap.specs.Behind.{design_of}
use Rattle.version_swap.specs.Plans.{DesignOfTexts, Plans}
use Rattle.version_swap.proofs.FlatAlike.{IsSignalIn}
use Rattle.version_swap.proofs.PlanNames.{plan_names}
use Rattle.live_session.specs.Kept.{HasPlans}
use Rattle.live_session.specs.Scripts.{IsNamedIn}
use Rattle.live_session.specs.declared.running.Running.{Running}

pub plan_named : (names : List (List ℕ)) → HasEachOnce names → (files : List SourceFile) (top : Option NameId) (clock : NameId) (d : DesignOfTexts)
    → Plans names files top clock (Ok d) → All (IsNamedIn (length names)) d.design.signals
plan_named names once files top clock d plan =
    All-weaker (IsSignalIn names) (IsNamedIn (length names)) (λ (x : Signal) (is : IsSignalIn names x). (is.in_module, is.path)) d.design.signals
    (plan_names names once files top clock d plan).signals

-- so also those of what runs
pub runs_within : (names : List (List ℕ)) → HasEachOnce names → (r : Running) → ∥ HasPlans names r ∥₁
    → All (IsNamedIn (length names)) (design_flat r.version.value.machine.value).signals
runs_within names once r plans =
    ∥∥₁_elim plans (hlevel props)
    (λ plan. plan_named names once r.texts.files r.texts.top r.texts.clock (design_of r.version.value.machine.value r.keys) plan)

-- Jobs whose modules differ in places alone are unrolled into the same steps but for places, or up to the same fault (IEEE Std 1364-2005, 12.4).
use Rattle.std.proofs.Common.{◌≡◌, List, map, Result, Ok, Err, refl, sym, ◌∙◌, ap, ap₂}
use Rattle.ls_text.specs.declared.fault.Fault.{Fault}
use Rattle.typed_ir.specs.declared.constant.Const.{Const}
use Rattle.verilog_ast.specs.Items.{ModuleDeclaration}
use Rattle.gen_unroll.specs.declared.parameter_sort.ParameterSort.{ParameterSort}
use Rattle.gen_unroll.specs.Overriding.{constant_sorts, overrides_of}
use Rattle.gen_unroll.specs.Steps.{ModuleStep}
use Rattle.gen_unroll.specs.Told.{Told}
use Rattle.gen_unroll.specs.Unrolled.{State, unrolled_module, turn_limit, steps_told}
use Rattle.ls_text.specs.Answers.{◌>>=◌}
use Rattle.module_registry.specs.declared.build_job.BuildJob.{BuildJob}
use Rattle.unit_build.specs.Building.{module_of, job_steps}
use Rattle.version_swap.specs.Unplaced.{unplaced_declaration}
use Rattle.version_swap.specs.UnplacedFindings.{answer_unplaced, found_unplaced, step_unplaced, told_unplaced}
use Rattle.version_swap.proofs.UnplacedUnrolled.{same_module, same_sorts}

abbrev told_under : ModuleDeclaration → List Const → Told State
told_under m values = unrolled_module turn_limit (overrides_of (constant_sorts m) values) m

unplaced_told : (m : ModuleDeclaration) (values : List Const) → told_under (unplaced_declaration m) values ≡ told_unplaced (told_under m values)
unplaced_told m values =
    ap (λ (ss : List ParameterSort). unrolled_module turn_limit (overrides_of ss values) (unplaced_declaration m)) (same_sorts m)
    ∙ same_module turn_limit (overrides_of (constant_sorts m) values) m

same_told : (m n : ModuleDeclaration) (xs ys : List Const) → unplaced_declaration m ≡ unplaced_declaration n → xs ≡ ys
    → told_unplaced (told_under m xs) ≡ told_unplaced (told_under n ys)
same_told m n xs ys modules values = sym (unplaced_told m xs) ∙ ap₂ told_under modules values ∙ unplaced_told n ys

told_moves : (said : List ModuleStep) (r : Result State Fault)
    → found_unplaced (map step_unplaced) (r >>= λ st. Ok said) ≡ (answer_unplaced r >>= λ st. Ok (map step_unplaced said))
told_moves said (Ok st) = refl
told_moves said (Err e) = refl

pub same_steps : (a b : BuildJob) → unplaced_declaration (module_of a) ≡ unplaced_declaration (module_of b) → a.parameters ≡ b.parameters
    → found_unplaced (map step_unplaced) (job_steps a) ≡ found_unplaced (map step_unplaced) (job_steps b)
unfolding job_steps
same_steps a b modules values =
    told_moves (told_under (module_of a) a.parameters).said (told_under (module_of a) a.parameters).ending
    ∙ ap steps_told (same_told (module_of a) (module_of b) a.parameters b.parameters modules values)
    ∙ sym (told_moves (told_under (module_of b) b.parameters).said (told_under (module_of b) b.parameters).ending)

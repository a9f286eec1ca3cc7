-- A module that was visited is unrolled to the same steps under the values that the visit found.
use Rattle.std.proofs.Common.{◌≡◌, ℕ, true, List, map, Option, Result, Ok, Err, refl, ◌∙◌, ap}
use Rattle.std.specs.Result.{IfOk}
use Rattle.std.proofs.lemmas.Result.{IfOk-at_ok}
use Rattle.ls_text.specs.declared.fault.Fault.{Fault}
use Rattle.typed_ir.specs.declared.constant.Const.{Const}
use Rattle.verilog_ast.specs.Items.{ModuleDeclaration}
use Rattle.gen_unroll.specs.Overriding.{constant_sorts, overrides_of}
use Rattle.gen_unroll.specs.Reaches.{reach_in}
use Rattle.gen_unroll.specs.Told.{Told}
use Rattle.gen_unroll.specs.Unrolled.{State, unrolled_module, steps_told}
use Rattle.ls_text.specs.Answers.{◌>>=◌}
use Rattle.gen_unroll.specs.Values.{ConstantValue, constant_of}
use Rattle.module_names.specs.Modules.{header_ports}
use Rattle.elaborate.specs.Checks.{Checked, nothing_checked, check_steps, ports_declared, ended, checked}
use Rattle.elaborate.specs.Visits.{Visited, clocked, with_clocks, visited}
use Rattle.version_swap.specs.Outer.{outer_values}
use Rattle.version_swap.specs.OuterTrees.{has_outer_ports_alone}
use Rattle.version_swap.proofs.FoundValues.{Finds, steps_find}
use Rattle.version_swap.proofs.Rerolled.{again_from}

-- what was unrolled without a fault, and the values among its steps
pub record IsFound (t : Told State) (vs : List ConstantValue) : Type 0 where
  pub end : State
  pub ends : t.ending ≡ Ok end
  pub values : vs ≡ outer_values 0 t.said

-- behind the checks there is no fault of unrolling
ends_found : (t : Told State) (m : ModuleDeclaration) (r : Result State Fault) (c : Checked) → t.ending ≡ r → c.parameters ≡ outer_values 0 t.said
    → IfOk (r >>= λ _. ports_declared (header_ports m.ports) c.declared >>= λ _. Ok c) (λ (c : Checked). IsFound t c.parameters)
ends_found t m (Err e) c ends is = tt
ends_found t m (Ok st) c ends is = ports_found (ports_declared (header_ports m.ports) c.declared)
  where
    ports_found : (r : Result (Unit {0}) Fault) → IfOk (r >>= λ _. Ok c) (λ (c : Checked). IsFound t c.parameters)
    ports_found (Ok x) = record { end = st; ends = ends; values = is }
    ports_found (Err e) = tt

checks_found : (t : Told State) (m : ModuleDeclaration) (checks : Result Checked Fault) → Finds (outer_values 0 t.said) checks
    → IfOk (ended m checks t.ending) (λ (c : Checked). IsFound t c.parameters)
checks_found t m (Ok c) is = ends_found t m t.ending c refl is
checks_found t m (Err e) is = tt

checked_found : (turns : ℕ) (ms : List ModuleDeclaration) (m : ModuleDeclaration) (vs : List (Option ConstantValue))
    → IfOk (checked turns ms m vs) (λ (c : Checked). IsFound (unrolled_module turns vs m) c.parameters)
unfolding checked
checked_found turns ms m vs =
    checks_found (unrolled_module turns vs m) m (check_steps ms (reach_in m) (unrolled_module turns vs m).said nothing_checked)
    (steps_find ms (reach_in m) (unrolled_module turns vs m).said nothing_checked)

visit_found : (turns : ℕ) (ms : List ModuleDeclaration) (most : Option ℕ) (m : ModuleDeclaration) (vs : List (Option ConstantValue))
    (clock : Option ℕ)
    → IfOk (visited turns ms most m vs clock) (λ (v : Visited). IsFound (unrolled_module turns vs m) v.checks.parameters)
unfolding visited
visit_found turns ms most m vs clock = from_checks (checked turns ms m vs) (checked_found turns ms m vs)
  where
    from_clocks : (c : Checked) (r : Result (List (Option ℕ)) Fault) → IsFound (unrolled_module turns vs m) c.parameters
        → IfOk (r >>= λ ks. Ok (with_clocks m (unrolled_module turns vs m).said c ks))
        (λ (v : Visited). IsFound (unrolled_module turns vs m) v.checks.parameters)
    from_clocks c (Ok ks) is = is
    from_clocks c (Err e) is = tt

    from_checks : (r : Result Checked Fault) → IfOk r (λ (c : Checked). IsFound (unrolled_module turns vs m) c.parameters)
        → IfOk (r >>= λ c. clocked ms m (unrolled_module turns vs m).said most clock c.declared
        >>= λ ks. Ok (with_clocks m (unrolled_module turns vs m).said c ks))
        (λ (v : Visited). IsFound (unrolled_module turns vs m) v.checks.parameters)
    from_checks (Ok c) is = from_clocks c (clocked ms m (unrolled_module turns vs m).said most clock c.declared) is
    from_checks (Err e) is = tt

-- under the values that the visit found, the same steps come again
pub visited_again : (turns : ℕ) (ms : List ModuleDeclaration) (most : Option ℕ) (m : ModuleDeclaration) (vs : List (Option ConstantValue))
    (clock : Option ℕ) (v : Visited) (cs : List Const)
    → has_outer_ports_alone m ≡ true → visited turns ms most m vs clock ≡ Ok v → map constant_of cs ≡ v.checks.parameters
    → steps_told (unrolled_module turns (overrides_of (constant_sorts m) cs) m) ≡ Ok (unrolled_module turns vs m).said
visited_again turns ms most m vs clock v cs outside is same =
    let found : IsFound (unrolled_module turns vs m) v.checks.parameters =
    IfOk-at_ok (λ (v : Visited). IsFound (unrolled_module turns vs m) v.checks.parameters) is (visit_found turns ms most m vs clock) in
    ap steps_told (again_from turns vs m cs found.end outside found.ends (same ∙ found.values))

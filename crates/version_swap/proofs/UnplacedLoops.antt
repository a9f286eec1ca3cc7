-- Conditions and loops without places: the same turns, and the same faults.
use Rattle.std.proofs.Common.{◌≡◌, ℕ, zero, suc, ◌==◌, Option, Some, None, refl}
use Rattle.std.specs.Option.{option_map}
use Rattle.ls_text.specs.declared.place.Place.{Place}
use Rattle.verilog_ast.specs.declared.identifier.Identifier.{Identifier}
use Rattle.verilog_ast.specs.Expressions.{Expression}
use Rattle.verilog_ast.specs.Items.{LoopHead}
use Rattle.verilog_ast.specs.Places.{no_place}
use Rattle.width_rules.specs.Scopes.{Meaning, Unknown, Genvar, Scope}
use Rattle.gen_unroll.specs.Declarations.{declared}
use Rattle.gen_unroll.specs.Unrolled.{holds, is_taken, assignable, assigned, genvar_value, in_turn, turns_from, turns, loop_turns}
use Rattle.gen_unroll.specs.Values.{ConstantValue}
use Rattle.version_swap.specs.Unplaced.{unplaced_expression, unplaced_head, unplaced_name}
use Rattle.version_swap.specs.UnplacedFindings.{answer_unplaced}
use Rattle.version_swap.proofs.UnplacedAnswers.{bind_so, if_answer}
use Rattle.version_swap.proofs.UnplacedValues.{same_evaluated}

-- ---- conditions

pub same_holds : (scope : Scope) (e : Expression) → holds scope (unplaced_expression e) ≡ answer_unplaced (holds scope e)
same_holds scope e = bind_so _ _ _ _ (same_evaluated scope e) (λ v. refl)

pub same_taken : (scope : Scope) (c : Option Expression) → is_taken scope (option_map unplaced_expression c) ≡ answer_unplaced (is_taken scope c)
same_taken scope None = refl
same_taken scope (Some c) = same_holds scope c

-- ---- the head of a loop

assignable_moves : (n : Identifier) (m : Meaning) → assignable (unplaced_name n) m ≡ answer_unplaced (assignable n m)
assignable_moves n Unknown = refl
assignable_moves n other = refl

same_assigned : (scope : Scope) (h : LoopHead) → assigned scope (unplaced_head h) ≡ answer_unplaced (assigned scope h)
unfolding assigned
same_assigned scope h =
    bind_so _ _ _ _ (assignable_moves h.start.name (scope h.start.name.name.0))
    (λ _. bind_so _ _ _ _ (assignable_moves h.step.name (scope h.step.name.name.0))
    (λ _. if_answer (h.start.name.name.0 == h.step.name.name.0) _ _ _ _ refl refl))

-- ---- turns

same_turns_from : (scope : Scope) (at : Place) (h : LoopHead) (left : ℕ) (v : ConstantValue)
    → turns_from no_place (unplaced_head h) scope left v ≡ answer_unplaced (turns_from at h scope left v)
same_turns_from scope at h zero v =
    bind_so _ _ _ _ (same_holds (in_turn scope h.start.name v) h.condition) (λ more. if_answer more _ _ _ _ refl refl)
same_turns_from scope at h (suc left) v =
    bind_so _ _ _ _ (same_holds (in_turn scope h.start.name v) h.condition)
    (λ more. if_answer more _ _ _ _
    (bind_so _ _ _ _ (same_evaluated (in_turn scope h.start.name v) h.step.value)
    (λ w. bind_so _ _ _ _ (same_turns_from scope at h left (genvar_value w)) (λ vs. refl)))
    refl)

same_turns : (scope : Scope) (at : Place) (h : LoopHead) (left : ℕ)
    → turns no_place (unplaced_head h) scope left ≡ answer_unplaced (turns at h scope left)
same_turns scope at h left = bind_so _ _ _ _ (same_evaluated scope h.start.value) (λ v. same_turns_from scope at h left (genvar_value v))

pub same_loop_turns : (scope : Scope) (at : Place) (h : LoopHead) (left : ℕ)
    → loop_turns no_place (unplaced_head h) scope left ≡ answer_unplaced (loop_turns at h scope left)
same_loop_turns scope at h left = bind_so _ _ _ _ (same_assigned scope h) (λ _. same_turns (declared scope h.start.name Genvar) at h left)

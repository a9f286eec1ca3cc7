-- Conditions and loops under other names: the same turns, and the same faults with their other names.
use Rattle.std.proofs.Common.{◌≡◌, ℕ, zero, suc, Option, Some, None, refl, ◌∙◌, ap}
use Rattle.std.specs.Option.{option_map}
use Rattle.ls_text.specs.declared.name_id.NameId.{NameId}
use Rattle.ls_text.specs.declared.place.Place.{Place}
use Rattle.verilog_ast.specs.declared.identifier.Identifier.{Identifier}
use Rattle.verilog_ast.specs.Expressions.{Expression}
use Rattle.verilog_ast.specs.Items.{LoopHead}
use Rattle.verilog_ast.specs.Renamed.{renamed_identifier}
use Rattle.verilog_ast.specs.Renaming.{expression_as, head_as}
use Rattle.width_rules.specs.Renaming.{MeansSame}
use Rattle.width_rules.specs.Scopes.{Meaning, Signal, Constant, Turn, Genvar, Unknown, Scope}
use Rattle.gen_unroll.specs.Declarations.{declared}
use Rattle.gen_unroll.specs.Unrolled.{holds, is_taken, assignable, assigned, genvar_value, in_turn, turns_from, turns, loop_turns}
use Rattle.gen_unroll.specs.Values.{ConstantValue}
use Rattle.elaborate.specs.Renaming.{KeepsApart, answer_as}
use Rattle.elaborate.proofs.RenamedAnswers.{bind_so, if_answer}
use Rattle.elaborate.proofs.RenamedNames.{same_test, declared_so, turn_so}
use Rattle.elaborate.proofs.RenamedValues.{same_evaluated}

-- ---- conditions

pub same_holds : (f : NameId → NameId) (scope other : Scope) (e : Expression) → MeansSame f scope other → holds other (expression_as f e) ≡ answer_as f (holds scope e)
same_holds f scope other e same = bind_so f _ _ _ _ (same_evaluated f scope other e same) (λ v. refl)

pub same_taken : (f : NameId → NameId) (scope other : Scope) (c : Option Expression) → MeansSame f scope other
    → is_taken other (option_map (expression_as f) c) ≡ answer_as f (is_taken scope c)
same_taken f scope other None same = refl
same_taken f scope other (Some c) same = same_holds f scope other c same

-- ---- the head of a loop

assignable_moves : (f : NameId → NameId) (n : Identifier) (m : Meaning) → assignable (renamed_identifier f n) m ≡ answer_as f (assignable n m)
assignable_moves f n Genvar = refl
assignable_moves f n (Turn width value signed) = refl
assignable_moves f n (Constant width value signed) = refl
assignable_moves f n (Signal signal width lsb signed writer) = refl
assignable_moves f n Unknown = refl

assignable_so : (f : NameId → NameId) (scope other : Scope) (n : Identifier) → MeansSame f scope other
    → assignable (renamed_identifier f n) (other (f n.name).0) ≡ answer_as f (assignable n (scope n.name.0))
assignable_so f scope other n same = ap (assignable (renamed_identifier f n)) (same n.name) ∙ assignable_moves f n (scope n.name.0)

same_assigned : (f : NameId → NameId) (scope other : Scope) (h : LoopHead) → KeepsApart f → MeansSame f scope other → assigned other (head_as f h) ≡ answer_as f (assigned scope h)
unfolding assigned
same_assigned f scope other h apart same =
    bind_so f _ _ _ _ (assignable_so f scope other h.start.name same) (λ _. bind_so f _ _ _ _ (assignable_so f scope other h.step.name same)
    (λ _. if_answer f _ _ _ _ _ _ (same_test f h.start.name.name h.step.name.name apart) refl refl))

-- ---- turns

same_turns_from : (f : NameId → NameId) (scope other : Scope) (at : Place) (h : LoopHead) (left : ℕ) (v : ConstantValue) → KeepsApart f → MeansSame f scope other
    → turns_from at (head_as f h) other left v ≡ answer_as f (turns_from at h scope left v)
same_turns_from f scope other at h zero v apart same =
    bind_so f _ _ _ _ (same_holds f (in_turn scope h.start.name v) (in_turn other (renamed_identifier f h.start.name) v) h.condition (turn_so f scope other h.start.name v apart same))
    (λ more. if_answer f more more _ _ _ _ refl refl refl)
same_turns_from f scope other at h (suc left) v apart same =
    bind_so f _ _ _ _ (same_holds f (in_turn scope h.start.name v) (in_turn other (renamed_identifier f h.start.name) v) h.condition (turn_so f scope other h.start.name v apart same))
    (λ more. if_answer f more more _ _ _ _ refl
    (bind_so f _ _ _ _ (same_evaluated f (in_turn scope h.start.name v) (in_turn other (renamed_identifier f h.start.name) v) h.step.value (turn_so f scope other h.start.name v apart same))
    (λ w. bind_so f _ _ _ _ (same_turns_from f scope other at h left (genvar_value w) apart same) (λ vs. refl)))
    refl)

same_turns : (f : NameId → NameId) (scope other : Scope) (at : Place) (h : LoopHead) (left : ℕ) → KeepsApart f → MeansSame f scope other
    → turns at (head_as f h) other left ≡ answer_as f (turns at h scope left)
same_turns f scope other at h left apart same =
    bind_so f _ _ _ _ (same_evaluated f scope other h.start.value same) (λ v. same_turns_from f scope other at h left (genvar_value v) apart same)

pub same_loop_turns : (f : NameId → NameId) (scope other : Scope) (at : Place) (h : LoopHead) (left : ℕ) → KeepsApart f → MeansSame f scope other
    → loop_turns at (head_as f h) other left ≡ answer_as f (loop_turns at h scope left)
same_loop_turns f scope other at h left apart same =
    bind_so f _ _ _ _ (same_assigned f scope other h apart same)
    (λ _. same_turns f (declared scope h.start.name Genvar) (declared other (renamed_identifier f h.start.name) Genvar) at h left apart
    (declared_so f scope other h.start.name Genvar apart same))

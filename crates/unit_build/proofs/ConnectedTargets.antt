-- What an output drives, where nothing is wrong with it: a target as a parser writes it, whose parts are known bits of signals of the scope.
use Rattle.std.proofs.Common.{◌≡◌, ◌≤◌, ℕ, true, ◌&&◌, List, [], ◌∷◌, nat_lt, refl, sym, ◌∙◌, ap, true≢false}
use Rattle.std.specs.Prelude.{Option, Some, None}
use Rattle.std.proofs.lemmas.Bool.{and_from, cond-true}
use Rattle.typed_ir.specs.Nodes.{are_lanes, known_lanes}
use Rattle.typed_ir.specs.Sized.{is_span}
use Rattle.typed_ir.specs.Stmts.{SizedTarget, Fixed, Moving, is_target as is_part, are_targets}
use Rattle.typed_ir.proofs.Cases.{and_left, and_right}
use Rattle.verilog_ast.specs.Expressions as e
use Rattle.verilog_ast.specs.Expressions.{Expression, Target}
use Rattle.width_rules.specs.declared.due.Due.TheVariants.{ConstantOnly}
use Rattle.width_rules.specs.declared.writer.Writer.TheVariants as writer
use Rattle.width_rules.specs.Scopes.{Scope}
use Rattle.statement_rules.specs.Targets.{target_length, parts, target_faults, kind_faults}
use Rattle.statement_rules.specs.Fitting.{FitsScope}
use Rattle.statement_rules.specs.Written.{IsWritten, ArePartsWritten, IsTargetWritten, AreTargetsWritten}
use Rattle.statement_rules.proofs.Targets.{target_long, target_parts}
use Rattle.unit_build.specs.Connections.{Connected}
use Rattle.unit_build.specs.ConnectionNodes.{target_or_none, driven_by}
use Rattle.unit_build.specs.Outputs.{is_target, target_at, as_target, written_faults, output_faults, written_kinds, output_kinds}
use Rattle.unit_build.proofs.OutputTargets.{output_is_target}

-- ---- an expression that is a target is written as one

mutual
  pub target_written : (x : Expression) → IsWritten x → is_target x ≡ true → IsTargetWritten (target_at x)
  target_written (e.Literal at x) w h = absurd (true≢false (sym h))
  target_written (e.Whole n) w h = tt
  target_written (e.BitSelect n x) w h = w
  target_written (e.PartSelect n x y) w h = w
  target_written (e.UpwardSelect n x y) w h = w
  target_written (e.DownwardSelect n x y) w h = w
  target_written (e.Unary at op x) w h = absurd (true≢false (sym h))
  target_written (e.Binary op x y) w h = absurd (true≢false (sym h))
  target_written (e.Conditional c x y) w h = absurd (true≢false (sym h))
  target_written (e.Concatenation at xs) w h = targets_written xs w h
  target_written (e.Replication at c xs) w h = absurd (true≢false (sym h))
  target_written (e.Bracketed at x) w h = absurd (true≢false (sym h))
  target_written e.NoPart w h = absurd w
  target_written (e.Parts x xs) w h = absurd w

  targets_written : (x : Expression) → ArePartsWritten x → is_target x ≡ true → AreTargetsWritten (target_at x)
  targets_written e.NoPart w h = tt
  targets_written (e.Parts x xs) w h =
      (target_written x w.0 (and_left (is_target x) (is_target xs) h), targets_written xs w.1 (and_right (is_target x) (is_target xs) h))
  targets_written other w h = absurd w

-- ---- its parts

pub lanes_known : (ts : List SizedTarget) (widths : List ℕ) → are_targets ts widths ≡ true → are_lanes (known_lanes ts) widths ≡ true
lanes_known [] widths h = refl
lanes_known (Fixed lane ∷ ts) widths h =
    and_from (nat_lt lane.shift 128 && is_span lane.span widths) (are_lanes (known_lanes ts) widths) (and_left (is_part (Fixed lane) widths) (are_targets ts widths) h)
    (lanes_known ts widths (and_right (is_part (Fixed lane) widths) (are_targets ts widths) h))
lanes_known (Moving reach index ∷ ts) widths h = lanes_known ts widths (and_right (is_part (Moving reach index) widths) (are_targets ts widths) h)

-- ---- without a fault

pub record IsOutput (scope : Scope) (widths : List ℕ) (c : Connected) : Type 0 where
  pub driven : driven_by c ≡ target_at c.value
  pub lanes : are_lanes (known_lanes (parts scope 0 (target_at c.value))) widths ≡ true
  pub few : target_length scope (target_at c.value) ≤ 128

output_from : (scope : Scope) (widths : List ℕ) (c : Connected) → FitsScope scope widths → IsWritten c.value → is_target c.value ≡ true
    → target_faults scope ConstantOnly (target_at c.value) ≡ [] → kind_faults scope writer.Continuous (target_at c.value) ≡ [] → IsOutput scope widths c
output_from scope widths c ok w is f k =
    let written : IsTargetWritten (target_at c.value) = target_written c.value w is in
    record {
      driven = ap target_or_none (cond-true (is_target c.value) (Some (target_at c.value)) None is);
      lanes = lanes_known (parts scope 0 (target_at c.value)) widths
          (target_parts scope widths ConstantOnly writer.Continuous (target_at c.value) ok written f k);
      few = (target_long scope widths ConstantOnly writer.Continuous (target_at c.value) ok written f k).most;
    }

pub output_so : (scope : Scope) (widths : List ℕ) (c : Connected) → FitsScope scope widths → IsWritten c.value → output_faults scope c.value ≡ []
    → output_kinds scope c.value ≡ [] → IsOutput scope widths c
output_so scope widths c ok w f k =
    let is : is_target c.value ≡ true = output_is_target scope c.value k in
    let some : as_target c.value ≡ Some (target_at c.value) = cond-true (is_target c.value) (Some (target_at c.value)) None is in
    output_from scope widths c ok w is
    (sym (ap (λ (t : Option Target). written_faults scope c.value t) some) ∙ f) (sym (ap (λ (t : Option Target). written_kinds scope c.value t) some) ∙ k)

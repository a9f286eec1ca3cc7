-- What an output is connected to is a target, where nothing is wrong with it.
use Rattle.std.proofs.Common.{◌≡◌, Bool, true, false, [], cond, refl}
use Rattle.std.specs.Prelude.{Some, None}
use Rattle.std.proofs.lemmas.Bool.{and_from}
use Rattle.ls_text.proofs.Lists.{some_is_none}
use Rattle.verilog_ast.specs.Expressions as e
use Rattle.verilog_ast.specs.Expressions.{Expression}
use Rattle.width_rules.specs.Faults.{fault_of}
use Rattle.width_rules.specs.Scopes.{Scope}
use Rattle.width_rules.proofs.Reading.{left_none, right_none}
use Rattle.unit_build.specs.Outputs.{is_target, target_at, part_kinds, written_kinds, output_kinds}

-- part by part
parts_are_targets : (scope : Scope) (x : Expression) → part_kinds scope x ≡ [] → is_target x ≡ true
parts_are_targets scope (e.Literal at x) h = some_is_none (fault_of 33 (e.Literal at x)) [] h
parts_are_targets scope (e.Whole n) h = refl
parts_are_targets scope (e.BitSelect n x) h = refl
parts_are_targets scope (e.PartSelect n x y) h = refl
parts_are_targets scope (e.UpwardSelect n x y) h = refl
parts_are_targets scope (e.DownwardSelect n x y) h = refl
parts_are_targets scope (e.Unary at op x) h = some_is_none (fault_of 33 (e.Unary at op x)) [] h
parts_are_targets scope (e.Binary op x y) h = some_is_none (fault_of 33 (e.Binary op x y)) [] h
parts_are_targets scope (e.Conditional c x y) h = some_is_none (fault_of 33 (e.Conditional c x y)) [] h
parts_are_targets scope (e.Concatenation at xs) h = parts_are_targets scope xs h
parts_are_targets scope (e.Replication at c xs) h = some_is_none (fault_of 33 (e.Replication at c xs)) [] h
parts_are_targets scope (e.Bracketed at x) h = some_is_none (fault_of 33 (e.Bracketed at x)) [] h
parts_are_targets scope e.NoPart h = refl
parts_are_targets scope (e.Parts x xs) h =
    and_from (is_target x) (is_target xs) (parts_are_targets scope x (left_none (part_kinds scope x) (part_kinds scope xs) h))
    (parts_are_targets scope xs (right_none (part_kinds scope x) (part_kinds scope xs) h))

pub output_is_target : (scope : Scope) (x : Expression) → output_kinds scope x ≡ [] → is_target x ≡ true
output_is_target scope x h = by_test (is_target x) refl h
  where
    by_test : (b : Bool) → is_target x ≡ b → written_kinds scope x (cond b (Some (target_at x)) None) ≡ [] → is_target x ≡ true
    by_test true is none = is
    by_test false is none = parts_are_targets scope x none

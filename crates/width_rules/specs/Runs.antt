-- What is said of `x[base +: width]` and `x[base -: width]` at once, by the direction.
use Rattle.std.specs.Prelude.{Bool, ◌&&◌, not, List, ◌++◌}
use Rattle.ls_text.specs.declared.fault.Fault.{Fault}
use Rattle.typed_ir.specs.Sized.{Sized}
use Rattle.typed_ir.specs.Stmts.{SizedTarget}
use Rattle.verilog_ast.specs.declared.identifier.Identifier.{Identifier}
use Rattle.verilog_ast.specs.Expressions.{Expression}
use Rattle.width_rules.specs.declared.direction.Direction.{Direction}
use Rattle.width_rules.specs.declared.due.Due.{Due}
use Rattle.width_rules.specs.declared.due.Due.TheVariants.{ConstantOnly}
use Rattle.width_rules.specs.Directions.{down_of}
use Rattle.width_rules.specs.Scopes.{Scope, is_signal}
use Rattle.width_rules.specs.Signs.{is_signed}
use Rattle.width_rules.specs.Sizes.{is_constant, count_of, bits_at}
use Rattle.width_rules.specs.Constants.{integer}
use Rattle.width_rules.specs.Opened.{own}
use Rattle.width_rules.specs.Faults.{faults, width_faults, run_faults}
use Rattle.width_rules.specs.References.{part_at}

-- its faults, behind those of its name
abbrev pub run_select_faults : List Fault → Scope → Due → Direction → Identifier → Expression → Expression → List Fault
run_select_faults of_name scope due direction n x y =
    of_name ++ (faults scope due x ++ (faults scope ConstantOnly y
    ++ (width_faults n y (count_of (integer scope y))
    ++ run_faults (scope n.name.0) (is_constant scope x) (integer scope x) (count_of (integer scope y)) (down_of direction (count_of (integer scope y))) n)))

-- as a part of a target
abbrev pub run_part : Scope → Direction → Identifier → Expression → Expression → SizedTarget
run_part scope direction n x y =
    part_at (scope n.name.0) 0 (count_of (integer scope y)) (down_of direction (count_of (integer scope y)))
    (is_constant scope x) (integer scope x) (is_signed scope x) (own scope x)

-- as an operand
abbrev pub run_bits : Scope → Direction → Identifier → Expression → Expression → Sized
run_bits scope direction n x y =
    bits_at (scope n.name.0) (count_of (integer scope y)) (down_of direction (count_of (integer scope y)))
    (is_constant scope x) (integer scope x) (is_signed scope x) (own scope x)

abbrev pub is_constant_run : Scope → Identifier → Expression → Expression → Bool
is_constant_run scope n x y = not (is_signal (scope n.name.0)) && (is_constant scope x && is_constant scope y)

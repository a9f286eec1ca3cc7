-- Targets and statements without places, variant by variant.
use Rattle.std.proofs.Common.{◌≡◌, ◌∙◌, List, Option, map, sym, ap}
use Rattle.std.specs.Option.{option_map}
use Rattle.ls_text.specs.declared.place.Place.{Place}
use Rattle.verilog_ast.specs.Places.{no_place}
use Rattle.verilog_ast.specs.declared.identifier.Identifier.{Identifier}
use Rattle.verilog_ast.specs.declared.expression.Expr.{Expr}
use Rattle.verilog_ast.specs.declared.expression.Reference.{Reference}
use Rattle.verilog_ast.specs.declared.target.Lhs.{Lhs}
use Rattle.verilog_ast.specs.declared.target.Lhs.TheVariants as target
use Rattle.verilog_ast.specs.declared.target.Lhs.TheOpen.{Lhs-F}
use Rattle.verilog_ast.specs.declared.target.Lhs.TheFolds.{fold-roll-Lhs}
use Rattle.verilog_ast.specs.declared.case_kind.CaseKind.{CaseKind}
use Rattle.verilog_ast.specs.declared.label.Label.{Label}
use Rattle.verilog_ast.specs.declared.statement.Stmt.{Stmt}
use Rattle.verilog_ast.specs.declared.statement.Stmt.TheVariants as statement
use Rattle.verilog_ast.specs.declared.statement.Arm.{Arm}
use Rattle.verilog_ast.specs.declared.statement.Arm.TheVariants as arm
use Rattle.verilog_ast.specs.declared.statement.Arm.TheOpen.{Stmt-F, Arm-F}
use Rattle.verilog_ast.specs.declared.statement.Arm.TheFolds.{fold-roll-Stmt, fold-roll-Arm}
use Rattle.version_swap.specs.Unplaced.{unplaced_name}
use Rattle.version_swap.proofs.BareForms.{bare_expression, bare_reference, target_step, bare_target, bare_label, arm_step, statement_step, bare_statement, bare_arm}

pub target_reference_so : (x : Reference) → bare_target (target.Reference x) ≡ target.Reference (bare_reference x)
target_reference_so x =
    ap bare_target (sym (target.rolls-Reference x)) ∙ fold-roll-Lhs Lhs target_step (Lhs-F.Reference x)

pub target_concatenation_so : (at : Place) (xs : List Lhs)
    → bare_target (target.Concatenation at xs) ≡ target.Concatenation no_place (map bare_target xs)
target_concatenation_so at xs =
    ap bare_target (sym (target.rolls-Concatenation at xs)) ∙ fold-roll-Lhs Lhs target_step (Lhs-F.Concatenation at xs)

pub block_so : (at : Place) (l : Option Identifier) (xs : List Stmt)
    → bare_statement (statement.Block at l xs) ≡ statement.Block no_place (option_map unplaced_name l) (map bare_statement xs)
block_so at l xs =
    ap bare_statement (sym (statement.rolls-Block at l xs)) ∙ fold-roll-Stmt Arm Stmt arm_step statement_step (Stmt-F.Block at l xs)

pub if_so : (at : Place) (x : Expr) (y : Stmt)
    → bare_statement (statement.If at x y) ≡ statement.If no_place (bare_expression x) (bare_statement y)
if_so at x y =
    ap bare_statement (sym (statement.rolls-If at x y)) ∙ fold-roll-Stmt Arm Stmt arm_step statement_step (Stmt-F.If at x y)

pub if_else_so : (at : Place) (x : Expr) (y z : Stmt)
    → bare_statement (statement.IfElse at x y z) ≡ statement.IfElse no_place (bare_expression x) (bare_statement y) (bare_statement z)
if_else_so at x y z =
    ap bare_statement (sym (statement.rolls-IfElse at x y z)) ∙ fold-roll-Stmt Arm Stmt arm_step statement_step (Stmt-F.IfElse at x y z)

pub case_so : (at : Place) (which : CaseKind) (x : Expr) (ys : List Arm)
    → bare_statement (statement.Case at which x ys) ≡ statement.Case no_place which (bare_expression x) (map bare_arm ys)
case_so at which x ys =
    ap bare_statement (sym (statement.rolls-Case at which x ys)) ∙ fold-roll-Stmt Arm Stmt arm_step statement_step (Stmt-F.Case at which x ys)

pub assign_so : (x : Lhs) (y : Expr)
    → bare_statement (statement.Assign x y) ≡ statement.Assign (bare_target x) (bare_expression y)
assign_so x y =
    ap bare_statement (sym (statement.rolls-Assign x y)) ∙ fold-roll-Stmt Arm Stmt arm_step statement_step (Stmt-F.Assign x y)

pub empty_so : (at : Place) → bare_statement (statement.Empty at) ≡ statement.Empty no_place
empty_so at =
    ap bare_statement (sym (statement.rolls-Empty at)) ∙ fold-roll-Stmt Arm Stmt arm_step statement_step (Stmt-F.Empty at)

pub default_so : (at : Place) (x : Stmt) → bare_arm (arm.Default at x) ≡ arm.Default no_place (bare_statement x)
default_so at x =
    ap bare_arm (sym (arm.rolls-Default at x)) ∙ fold-roll-Arm Arm Stmt arm_step statement_step (Arm-F.Default at x)

pub match_so : (ls : List Label) (x : Stmt)
    → bare_arm (arm.Match ls x) ≡ arm.Match (map bare_label ls) (bare_statement x)
match_so ls x =
    ap bare_arm (sym (arm.rolls-Match ls x)) ∙ fold-roll-Arm Arm Stmt arm_step statement_step (Arm-F.Match ls x)

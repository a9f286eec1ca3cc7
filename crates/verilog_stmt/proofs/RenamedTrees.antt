-- Targets and statements under other names, variant by variant.
use Rattle.std.proofs.Common.{◌≡◌, ◌∙◌, List, Option, map, sym, ap}
use Rattle.std.specs.Option.{option_map}
use Rattle.ls_text.specs.declared.place.Place.{Place}
use Rattle.ls_text.specs.declared.name_id.NameId.{NameId}
use Rattle.verilog_ast.specs.declared.identifier.Identifier.{Identifier}
use Rattle.verilog_ast.specs.declared.expression.Expr.{Expr}
use Rattle.verilog_ast.specs.declared.expression.Reference.{Reference}
use Rattle.verilog_ast.specs.declared.target.Lhs.{Lhs}
use Rattle.verilog_ast.specs.declared.target.Lhs.TheVariants as target
use Rattle.verilog_ast.specs.declared.target.Lhs.TheOpen.{Lhs-F}
use Rattle.verilog_ast.specs.declared.target.Lhs.TheFolds.{fold-roll-Lhs}
use Rattle.verilog_ast.specs.declared.case_kind.CaseKind.{CaseKind}
use Rattle.verilog_ast.specs.declared.label.Label.{Label}
use Rattle.verilog_ast.specs.declared.statement.Stmt.{Stmt}
use Rattle.verilog_ast.specs.declared.statement.Stmt.TheVariants as statement
use Rattle.verilog_ast.specs.declared.statement.Arm.{Arm}
use Rattle.verilog_ast.specs.declared.statement.Arm.TheVariants as arm
use Rattle.verilog_ast.specs.declared.statement.Arm.TheOpen.{Stmt-F, Arm-F}
use Rattle.verilog_ast.specs.declared.statement.Arm.TheFolds.{fold-roll-Stmt, fold-roll-Arm}
use Rattle.verilog_ast.specs.Renamed.{renamed_identifier, renamed_expression, renamed_reference, target_step, renamed_target, renamed_label, arm_step, statement_step, renamed_statement, renamed_arm}

pub target_reference_so : (f : NameId → NameId) (x : Reference) → renamed_target f (target.Reference x) ≡ target.Reference (renamed_reference f x)
target_reference_so f x =
    ap (renamed_target f) (sym (target.rolls-Reference x)) ∙ fold-roll-Lhs Lhs (target_step f) (Lhs-F.Reference x)

pub target_concatenation_so : (f : NameId → NameId) (at : Place) (xs : List Lhs)
    → renamed_target f (target.Concatenation at xs) ≡ target.Concatenation at (map (renamed_target f) xs)
target_concatenation_so f at xs =
    ap (renamed_target f) (sym (target.rolls-Concatenation at xs)) ∙ fold-roll-Lhs Lhs (target_step f) (Lhs-F.Concatenation at xs)

pub block_so : (f : NameId → NameId) (at : Place) (l : Option Identifier) (xs : List Stmt)
    → renamed_statement f (statement.Block at l xs) ≡ statement.Block at (option_map (renamed_identifier f) l) (map (renamed_statement f) xs)
block_so f at l xs =
    ap (renamed_statement f) (sym (statement.rolls-Block at l xs)) ∙ fold-roll-Stmt Arm Stmt (arm_step f) (statement_step f) (Stmt-F.Block at l xs)

pub if_so : (f : NameId → NameId) (at : Place) (x : Expr) (y : Stmt)
    → renamed_statement f (statement.If at x y) ≡ statement.If at (renamed_expression f x) (renamed_statement f y)
if_so f at x y =
    ap (renamed_statement f) (sym (statement.rolls-If at x y)) ∙ fold-roll-Stmt Arm Stmt (arm_step f) (statement_step f) (Stmt-F.If at x y)

pub if_else_so : (f : NameId → NameId) (at : Place) (x : Expr) (y z : Stmt)
    → renamed_statement f (statement.IfElse at x y z) ≡ statement.IfElse at (renamed_expression f x) (renamed_statement f y) (renamed_statement f z)
if_else_so f at x y z =
    ap (renamed_statement f) (sym (statement.rolls-IfElse at x y z)) ∙ fold-roll-Stmt Arm Stmt (arm_step f) (statement_step f) (Stmt-F.IfElse at x y z)

pub case_so : (f : NameId → NameId) (at : Place) (which : CaseKind) (x : Expr) (ys : List Arm)
    → renamed_statement f (statement.Case at which x ys) ≡ statement.Case at which (renamed_expression f x) (map (renamed_arm f) ys)
case_so f at which x ys =
    ap (renamed_statement f) (sym (statement.rolls-Case at which x ys)) ∙ fold-roll-Stmt Arm Stmt (arm_step f) (statement_step f) (Stmt-F.Case at which x ys)

pub assign_so : (f : NameId → NameId) (x : Lhs) (y : Expr)
    → renamed_statement f (statement.Assign x y) ≡ statement.Assign (renamed_target f x) (renamed_expression f y)
assign_so f x y =
    ap (renamed_statement f) (sym (statement.rolls-Assign x y)) ∙ fold-roll-Stmt Arm Stmt (arm_step f) (statement_step f) (Stmt-F.Assign x y)

pub empty_so : (f : NameId → NameId) (at : Place) → renamed_statement f (statement.Empty at) ≡ statement.Empty at
empty_so f at =
    ap (renamed_statement f) (sym (statement.rolls-Empty at)) ∙ fold-roll-Stmt Arm Stmt (arm_step f) (statement_step f) (Stmt-F.Empty at)

pub default_so : (f : NameId → NameId) (at : Place) (x : Stmt) → renamed_arm f (arm.Default at x) ≡ arm.Default at (renamed_statement f x)
default_so f at x =
    ap (renamed_arm f) (sym (arm.rolls-Default at x)) ∙ fold-roll-Arm Arm Stmt (arm_step f) (statement_step f) (Arm-F.Default at x)

pub match_so : (f : NameId → NameId) (ls : List Label) (x : Stmt)
    → renamed_arm f (arm.Match ls x) ≡ arm.Match (map (renamed_label f) ls) (renamed_statement f x)
match_so f ls x =
    ap (renamed_arm f) (sym (arm.rolls-Match ls x)) ∙ fold-roll-Arm Arm Stmt (arm_step f) (statement_step f) (Arm-F.Match ls x)

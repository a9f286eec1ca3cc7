-- What each node is as plain data, by what its parts are.
use Rattle.std.proofs.Common.{◌≡◌, ◌∙◌, List, Option, map, sym, ap}
use Rattle.std.specs.Option.{option_map}
use Rattle.ls_text.specs.declared.place.Place.{Place}
use Rattle.verilog_ast.specs.declared.identifier.Identifier.{Identifier}
use Rattle.verilog_ast.specs.declared.number.Number.{Number}
use Rattle.verilog_ast.specs.declared.unary_operator.UnaryOperator.{UnaryOperator}
use Rattle.verilog_ast.specs.declared.binary_operator.BinaryOperator.{BinaryOperator}
use Rattle.verilog_ast.specs.declared.expression.Expr.{Expr}
use Rattle.verilog_ast.specs.declared.expression.Expr.TheOpen.{Expr-F, Reference-F}
use Rattle.verilog_ast.specs.declared.expression.Expr.TheFolds.{fold-roll-Expr, fold-roll-Reference}
use Rattle.verilog_ast.specs.declared.expression.Expr.TheVariants as expr
use Rattle.verilog_ast.specs.declared.expression.Reference.{Reference}
use Rattle.verilog_ast.specs.declared.expression.Reference.TheVariants as ref
use Rattle.verilog_ast.specs.declared.target.Lhs.{Lhs}
use Rattle.verilog_ast.specs.declared.target.Lhs.TheOpen.{Lhs-F}
use Rattle.verilog_ast.specs.declared.target.Lhs.TheFolds.{fold-roll-Lhs}
use Rattle.verilog_ast.specs.declared.target.Lhs.TheVariants as lhs
use Rattle.verilog_ast.specs.declared.case_kind.CaseKind.{CaseKind}
use Rattle.verilog_ast.specs.declared.label.Label.{Label}
use Rattle.verilog_ast.specs.declared.statement.Stmt.{Stmt}
use Rattle.verilog_ast.specs.declared.statement.Stmt.TheVariants as stmt
use Rattle.verilog_ast.specs.declared.statement.Arm.{Arm}
use Rattle.verilog_ast.specs.declared.statement.Arm.TheVariants as arm
use Rattle.verilog_ast.specs.declared.statement.Arm.TheOpen.{Stmt-F, Arm-F}
use Rattle.verilog_ast.specs.declared.statement.Arm.TheFolds.{fold-roll-Stmt, fold-roll-Arm}
use Rattle.verilog_ast.specs.declared.generate_loop.Loop.{Loop}
use Rattle.verilog_ast.specs.declared.plain_item.PlainItem.{PlainItem}
use Rattle.verilog_ast.specs.declared.generate_item.Branch.{Branch}
use Rattle.verilog_ast.specs.declared.generate_item.GenerateItem.{GenerateItem}
use Rattle.verilog_ast.specs.declared.generate_item.GenerateItem.TheVariants as generate
use Rattle.verilog_ast.specs.declared.generate_item.GenerateItem.TheOpen.{GenerateItem-F}
use Rattle.verilog_ast.specs.declared.generate_item.GenerateItem.TheFolds.{fold-roll-GenerateItem, fold_out-Branch}
use Rattle.verilog_ast.specs.Expressions as e
use Rattle.verilog_ast.specs.Expressions.{Expression, Target}
use Rattle.verilog_ast.specs.Statements as s
use Rattle.verilog_ast.specs.Statements.{Statement}
use Rattle.verilog_ast.specs.Items as i
use Rattle.verilog_ast.specs.Items.{ModuleItem}
use Rattle.verilog_ast.specs.Views.{parts_of, expression_view, reference_view, expression_of, reference_of, targets_of, target_view, target_of, label_of, statements_of, statement_view, arm_view, statement_of, arm_of, plain_item_of, head_of, items_of, generate_item_view, branch_view, generate_item_of, branch_of}

-- ---- expressions

pub number_seen : (at : Place) (x : Number) → expression_of (expr.Number at x) ≡ e.Literal at x
number_seen at x = ap expression_of (sym (expr.rolls-Number at x)) ∙ fold-roll-Expr Expression Expression expression_view reference_view (Expr-F.Number at x)

pub read_seen : (x : Reference) → expression_of (expr.Read x) ≡ reference_of x
read_seen x = ap expression_of (sym (expr.rolls-Read x)) ∙ fold-roll-Expr Expression Expression expression_view reference_view (Expr-F.Read x)

pub unary_seen : (at : Place) (op : UnaryOperator) (x : Expr) → expression_of (expr.Unary at op x) ≡ e.Unary at op (expression_of x)
unary_seen at op x = ap expression_of (sym (expr.rolls-Unary at op x)) ∙ fold-roll-Expr Expression Expression expression_view reference_view (Expr-F.Unary at op x)

pub binary_seen : (op : BinaryOperator) (x : Expr) (y : Expr) → expression_of (expr.Binary op x y) ≡ e.Binary op (expression_of x) (expression_of y)
binary_seen op x y = ap expression_of (sym (expr.rolls-Binary op x y)) ∙ fold-roll-Expr Expression Expression expression_view reference_view (Expr-F.Binary op x y)

pub conditional_seen : (x : Expr) (y : Expr) (z : Expr) → expression_of (expr.Conditional x y z) ≡ e.Conditional (expression_of x) (expression_of y) (expression_of z)
conditional_seen x y z = ap expression_of (sym (expr.rolls-Conditional x y z)) ∙ fold-roll-Expr Expression Expression expression_view reference_view (Expr-F.Conditional x y z)

pub concatenation_seen : (at : Place) (xs : List Expr) → expression_of (expr.Concatenation at xs) ≡ e.Concatenation at (parts_of (map expression_of xs))
concatenation_seen at xs = ap expression_of (sym (expr.rolls-Concatenation at xs)) ∙ fold-roll-Expr Expression Expression expression_view reference_view (Expr-F.Concatenation at xs)

pub replication_seen : (at : Place) (x : Expr) (ys : List Expr) → expression_of (expr.Replication at x ys) ≡ e.Replication at (expression_of x) (parts_of (map expression_of ys))
replication_seen at x ys = ap expression_of (sym (expr.rolls-Replication at x ys)) ∙ fold-roll-Expr Expression Expression expression_view reference_view (Expr-F.Replication at x ys)

pub bracketed_seen : (at : Place) (x : Expr) → expression_of (expr.Bracketed at x) ≡ e.Bracketed at (expression_of x)
bracketed_seen at x = ap expression_of (sym (expr.rolls-Bracketed at x)) ∙ fold-roll-Expr Expression Expression expression_view reference_view (Expr-F.Bracketed at x)

pub whole_seen : (n : Identifier) → reference_of (ref.Whole n) ≡ e.Whole n
whole_seen n = ap reference_of (sym (ref.rolls-Whole n)) ∙ fold-roll-Reference Expression Expression expression_view reference_view (Reference-F.Whole n)

pub bit_seen : (n : Identifier) (x : Expr) → reference_of (ref.Bit n x) ≡ e.BitSelect n (expression_of x)
bit_seen n x = ap reference_of (sym (ref.rolls-Bit n x)) ∙ fold-roll-Reference Expression Expression expression_view reference_view (Reference-F.Bit n x)

pub part_seen : (n : Identifier) (x : Expr) (y : Expr) → reference_of (ref.Part n x y) ≡ e.PartSelect n (expression_of x) (expression_of y)
part_seen n x y = ap reference_of (sym (ref.rolls-Part n x y)) ∙ fold-roll-Reference Expression Expression expression_view reference_view (Reference-F.Part n x y)

pub upward_seen : (n : Identifier) (x : Expr) (y : Expr) → reference_of (ref.Upward n x y) ≡ e.UpwardSelect n (expression_of x) (expression_of y)
upward_seen n x y = ap reference_of (sym (ref.rolls-Upward n x y)) ∙ fold-roll-Reference Expression Expression expression_view reference_view (Reference-F.Upward n x y)

pub downward_seen : (n : Identifier) (x : Expr) (y : Expr) → reference_of (ref.Downward n x y) ≡ e.DownwardSelect n (expression_of x) (expression_of y)
downward_seen n x y = ap reference_of (sym (ref.rolls-Downward n x y)) ∙ fold-roll-Reference Expression Expression expression_view reference_view (Reference-F.Downward n x y)

-- ---- targets and statements

pub target_reference_seen : (x : Reference) → target_of (lhs.Reference x) ≡ e.Reference (reference_of x)
target_reference_seen x = ap target_of (sym (lhs.rolls-Reference x)) ∙ fold-roll-Lhs Target target_view (Lhs-F.Reference x)

pub target_braces_seen : (at : Place) (xs : List Lhs) → target_of (lhs.Concatenation at xs) ≡ e.Joined at (targets_of (map target_of xs))
target_braces_seen at xs = ap target_of (sym (lhs.rolls-Concatenation at xs)) ∙ fold-roll-Lhs Target target_view (Lhs-F.Concatenation at xs)

pub block_seen : (at : Place) (l : Option Identifier) (xs : List Stmt) → statement_of (stmt.Block at l xs) ≡ s.Block at l (statements_of (map statement_of xs))
block_seen at l xs = ap statement_of (sym (stmt.rolls-Block at l xs)) ∙ fold-roll-Stmt Statement Statement arm_view statement_view (Stmt-F.Block at l xs)

pub if_seen : (at : Place) (x : Expr) (y : Stmt) → statement_of (stmt.If at x y) ≡ s.If at (expression_of x) (statement_of y)
if_seen at x y = ap statement_of (sym (stmt.rolls-If at x y)) ∙ fold-roll-Stmt Statement Statement arm_view statement_view (Stmt-F.If at x y)

pub if_else_seen : (at : Place) (x : Expr) (y : Stmt) (z : Stmt) → statement_of (stmt.IfElse at x y z) ≡ s.IfElse at (expression_of x) (statement_of y) (statement_of z)
if_else_seen at x y z = ap statement_of (sym (stmt.rolls-IfElse at x y z)) ∙ fold-roll-Stmt Statement Statement arm_view statement_view (Stmt-F.IfElse at x y z)

pub case_seen : (at : Place) (which : CaseKind) (x : Expr) (ys : List Arm) → statement_of (stmt.Case at which x ys) ≡ s.Case at which (expression_of x) (statements_of (map arm_of ys))
case_seen at which x ys = ap statement_of (sym (stmt.rolls-Case at which x ys)) ∙ fold-roll-Stmt Statement Statement arm_view statement_view (Stmt-F.Case at which x ys)

pub assign_seen : (x : Lhs) (y : Expr) → statement_of (stmt.Assign x y) ≡ s.Assignment (target_of x) (expression_of y)
assign_seen x y = ap statement_of (sym (stmt.rolls-Assign x y)) ∙ fold-roll-Stmt Statement Statement arm_view statement_view (Stmt-F.Assign x y)

pub empty_seen : (at : Place) → statement_of (stmt.Empty at) ≡ s.Null at
empty_seen at = ap statement_of (sym (stmt.rolls-Empty at)) ∙ fold-roll-Stmt Statement Statement arm_view statement_view (Stmt-F.Empty at)

pub default_seen : (at : Place) (x : Stmt) → arm_of (arm.Default at x) ≡ s.Default at (statement_of x)
default_seen at x = ap arm_of (sym (arm.rolls-Default at x)) ∙ fold-roll-Arm Statement Statement arm_view statement_view (Arm-F.Default at x)

pub match_seen : (ls : List Label) (x : Stmt) → arm_of (arm.Match ls x) ≡ s.Match (map label_of ls) (statement_of x)
match_seen ls x = ap arm_of (sym (arm.rolls-Match ls x)) ∙ fold-roll-Arm Statement Statement arm_view statement_view (Arm-F.Match ls x)

-- ---- items of generate blocks

pub plain_seen : (x : PlainItem) → generate_item_of (generate.Plain x) ≡ plain_item_of x
plain_seen x = ap generate_item_of (sym (generate.rolls-Plain x)) ∙ fold-roll-GenerateItem ModuleItem ModuleItem generate_item_view branch_view (GenerateItem-F.Plain x)

pub loop_seen : (at : Place) (x : Loop) (n : Identifier) (ys : List GenerateItem) → generate_item_of (generate.For at x n ys) ≡ i.Loop at (head_of x) n (items_of (map generate_item_of ys))
loop_seen at x n ys = ap generate_item_of (sym (generate.rolls-For at x n ys)) ∙ fold-roll-GenerateItem ModuleItem ModuleItem generate_item_view branch_view (GenerateItem-F.For at x n ys)

pub branches_seen : (xs : List Branch) → generate_item_of (generate.If xs) ≡ i.Conditional (items_of (map branch_of xs))
branches_seen xs = ap generate_item_of (sym (generate.rolls-If xs)) ∙ fold-roll-GenerateItem ModuleItem ModuleItem generate_item_view branch_view (GenerateItem-F.If xs)

pub branch_seen : (x : Branch) → branch_of x ≡ i.Branch x.at (option_map expression_of x.condition) x.label (items_of (map generate_item_of x.items))
branch_seen x = fold_out-Branch ModuleItem ModuleItem generate_item_view branch_view x

-- what a node is, without its view
pub ruleset seen = (number_seen, read_seen, unary_seen, binary_seen, conditional_seen, concatenation_seen, replication_seen, bracketed_seen, whole_seen, bit_seen, part_seen, upward_seen, downward_seen, target_reference_seen, target_braces_seen, block_seen, if_seen, if_else_seen, case_seen, assign_seen, empty_seen, default_seen, match_seen, plain_seen, loop_seen, branches_seen, branch_seen)

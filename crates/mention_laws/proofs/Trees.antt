-- In what a tree of the code is as plain data, items of a case stand within a case alone.
use Rattle.std.proofs.Common.{List, [], ◌∷◌, map, sym, subst}
use Rattle.verilog_ast.specs.declared.statement.Stmt.{Stmt, roll-Stmt}
use Rattle.verilog_ast.specs.declared.statement.Arm.{Arm, roll-Arm}
use Rattle.verilog_ast.specs.declared.statement.Arm.TheOpen.{Stmt-F, Arm-F}
use Rattle.verilog_ast.specs.declared.statement.Arm.TheFolds.{fold-roll-Stmt, fold-roll-Arm, ind-Stmt, map-Stmt, map-Arm}
use Rattle.verilog_ast.specs.Statements.{Statement}
use Rattle.verilog_ast.specs.Views.{statements_of, statement_view, arm_view, statement_of, arm_of}
use Rattle.mention_laws.specs.Placed.{AreStatements, AreItems, IsItem}

abbrev PlacedStatement : Stmt → Type 0
PlacedStatement x = AreStatements (statement_of x)

abbrev PlacedArm : Arm → Type 0
PlacedArm x = IsItem (arm_of x)

statement_layer : (l : Stmt-F Arm Stmt) → AreStatements (statement_view (map-Stmt Arm Stmt Statement Statement arm_of statement_of l)) → PlacedStatement (roll-Stmt l)
statement_layer l h = subst AreStatements (sym (fold-roll-Stmt Statement Statement arm_view statement_view l)) h

arm_layer : (l : Arm-F Arm Stmt) → IsItem (arm_view (map-Arm Arm Stmt Statement Statement arm_of statement_of l)) → PlacedArm (roll-Arm l)
arm_layer l h = subst IsItem (sym (fold-roll-Arm Statement Statement arm_view statement_view l)) h

statements_placed : (xs : List ((x : Stmt) × PlacedStatement x)) → AreStatements (statements_of (map statement_of (map (λ x. x.0) xs)))
statements_placed [] = tt
statements_placed (x ∷ xs) = (x.1, statements_placed xs)

items_placed : (xs : List ((x : Arm) × PlacedArm x)) → AreItems (statements_of (map arm_of (map (λ x. x.0) xs)))
items_placed [] = tt
items_placed (x ∷ xs) = (x.1, items_placed xs)

statement_node : (y : Stmt-F ((x : Arm) × PlacedArm x) ((x : Stmt) × PlacedStatement x))
    → PlacedStatement (roll-Stmt (map-Stmt ((x : Arm) × PlacedArm x) ((x : Stmt) × PlacedStatement x) Arm Stmt (λ x. x.0) (λ x. x.0) y))
statement_node (Stmt-F.Block at l xs) = statement_layer (Stmt-F.Block at l (map (λ x. x.0) xs)) (statements_placed xs)
statement_node (Stmt-F.If at x y) = statement_layer (Stmt-F.If at x y.0) y.1
statement_node (Stmt-F.IfElse at x y z) = statement_layer (Stmt-F.IfElse at x y.0 z.0) (y.1, z.1)
statement_node (Stmt-F.Case at which x ys) = statement_layer (Stmt-F.Case at which x (map (λ x. x.0) ys)) (items_placed ys)
statement_node (Stmt-F.Assign x y) = statement_layer (Stmt-F.Assign x y) tt
statement_node (Stmt-F.Empty at) = statement_layer (Stmt-F.Empty at) tt

arm_node : (y : Arm-F ((x : Arm) × PlacedArm x) ((x : Stmt) × PlacedStatement x))
    → PlacedArm (roll-Arm (map-Arm ((x : Arm) × PlacedArm x) ((x : Stmt) × PlacedStatement x) Arm Stmt (λ x. x.0) (λ x. x.0) y))
arm_node (Arm-F.Default at x) = arm_layer (Arm-F.Default at x.0) x.1
arm_node (Arm-F.Match ls x) = arm_layer (Arm-F.Match ls x.0) x.1

pub statement_is_placed : (x : Stmt) → AreStatements (statement_of x)
statement_is_placed x = ind-Stmt PlacedArm PlacedStatement (λ x y is. subst (λ z. PlacedArm (roll-Arm z)) is (arm_node y))
    (λ x y is. subst (λ z. PlacedStatement (roll-Stmt z)) is (statement_node y)) x

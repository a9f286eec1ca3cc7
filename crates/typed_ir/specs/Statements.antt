-- What a statement of the code means.
use Rattle.std.specs.Prelude.{List, [], ◌∷◌, map}
use Rattle.typed_ir.specs.Stmts.{SizedItem, SizedStmt, SizedArms, Skip, Assign, Later, Then, If, Case, Arm, Default}
use Rattle.typed_ir.specs.Forms.{sized}
use Rattle.typed_ir.specs.Targets.{targets_of}
use Rattle.typed_ir.specs.declared.item.Item.{Item}
use Rattle.typed_ir.specs.declared.arm.Arm.{Arm as Arm'}
use Rattle.typed_ir.specs.declared.stmt.Stmt.{Stmt}
use Rattle.typed_ir.specs.declared.stmt.Stmt.TheOpen.{Stmt-F, Arm-F}
use Rattle.typed_ir.specs.declared.stmt.Stmt.TheFolds.{fold-Stmt, fold-Arm}

abbrev pub item_of : Item → SizedItem
item_of x = record { ignored = x.ignored; item = sized x.item.form }

-- one after another, from the first on
abbrev pub sequence_of : List SizedStmt → SizedStmt
sequence_of [] = Skip
sequence_of (first ∷ rest) = Then first (sequence_of rest)

-- the arms of a case before what is done where none matches; each puts itself before the others
abbrev pub arms_before : List (SizedArms → SizedArms) → SizedStmt → SizedArms
arms_before [] otherwise = Default otherwise
arms_before (arm ∷ arms) otherwise = arm (arms_before arms otherwise)

-- one statement, with what each statement and each arm in it means in its place
abbrev pub stmt_step : Stmt-F SizedStmt (SizedArms → SizedArms) → SizedStmt
stmt_step (Stmt-F.Skip) = Skip
stmt_step (Stmt-F.Assign parts e) = Assign (targets_of parts.items) (sized e.form)
stmt_step (Stmt-F.Later parts e) = Later (targets_of parts.items) (sized e.form)
stmt_step (Stmt-F.Sequence list) = sequence_of list.items
stmt_step (Stmt-F.If c a b) = If (sized c.form) a.value b.value
stmt_step (Stmt-F.Case e arms otherwise) = Case (sized e.form) (arms_before arms.items otherwise.value)

-- the same of an arm
abbrev pub arm_step : Arm-F SizedStmt (SizedArms → SizedArms) → SizedArms → SizedArms
arm_step arm = Arm (map item_of arm.items.items) arm.body

abbrev pub stmt_of : Stmt → SizedStmt
stmt_of = fold-Stmt SizedStmt (SizedArms → SizedArms) stmt_step arm_step

-- what an arm is before the arms after it, or the default
abbrev pub arm_of : Arm' → SizedArms → SizedArms
arm_of = fold-Arm SizedStmt (SizedArms → SizedArms) stmt_step arm_step

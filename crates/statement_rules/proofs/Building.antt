-- What a statement of the code means, by what its parts mean.
use Rattle.std.proofs.Common.{◌≡◌, List, map, Vec, Box, Global, sym, ◌∙◌, ap, ap₂}
use Rattle.typed_ir.specs.declared.arm.Arm.{Arm as Arm'}
use Rattle.typed_ir.specs.declared.target.Target.{Target}
use Rattle.typed_ir.specs.declared.typed.Typed.{Typed}
use Rattle.typed_ir.specs.declared.stmt.Stmt.{Stmt}
use Rattle.typed_ir.specs.declared.stmt.Stmt.TheFolds.{fold-roll-Stmt}
use Rattle.typed_ir.specs.declared.stmt.Stmt.TheOpen.{Stmt-F}
use Rattle.typed_ir.specs.declared.stmt.Stmt.TheVariants as node
use Rattle.typed_ir.specs.Forms.{sized}
use Rattle.typed_ir.specs.Sized.{Sized}
use Rattle.typed_ir.specs.Statements.{stmt_step, arm_step, stmt_of, sequence_of}
use Rattle.typed_ir.specs.Stmts as s
use Rattle.typed_ir.specs.Stmts.{SizedTarget, SizedStmt, SizedArms}
use Rattle.typed_ir.specs.Targets.{targets_of}
use Rattle.verilog_ast.specs.Statements.{Statement}
use Rattle.verilog_ast.specs.Views.{statements_of}
use Rattle.width_rules.specs.declared.writer.Writer.{Writer}
use Rattle.width_rules.specs.Scopes.{Scope}
use Rattle.statement_rules.specs.Statements.{sized_statement}
use Rattle.statement_rules.specs.Cases.{ClosedArm, sized_arm, arms_from}
use Rattle.statement_rules.proofs.Gathering.{arms_are, sequence_is}

pub case_made : (e : Typed) (arms : Vec Arm' Global) (o : Box Stmt Global) (f : Sized) (cs : List ClosedArm) (d : SizedStmt)
    → sized e.form ≡ f → map sized_arm arms.items ≡ cs → stmt_of o.value ≡ d → stmt_of (node.Case e arms o) ≡ s.Case f (arms_from cs d)
case_made e arms o f cs d e_is arms_is o_is =
    ap stmt_of (sym (node.rolls-Case e arms o)) ∙ fold-roll-Stmt SizedStmt (SizedArms → SizedArms) stmt_step arm_step (Stmt-F.Case e arms o)
    ∙ ap₂ s.Case e_is (arms_are arms.items (stmt_of o.value) ∙ ap₂ arms_from arms_is o_is)

pub if_made : (c : Typed) (a b : Box Stmt Global) (f : Sized) (x y : SizedStmt) → sized c.form ≡ f → stmt_of a.value ≡ x → stmt_of b.value ≡ y
    → stmt_of (node.If c a b) ≡ s.If f x y
if_made c a b f x y c_is a_is b_is =
    ap stmt_of (sym (node.rolls-If c a b)) ∙ fold-roll-Stmt SizedStmt (SizedArms → SizedArms) stmt_step arm_step (Stmt-F.If c a b)
    ∙ ap₂ (λ (z : Sized) (p : SizedStmt). s.If z p (stmt_of b.value)) c_is a_is ∙ ap (s.If f x) b_is

pub assign_made : (ts : Vec Target Global) (e : Typed) (parts : List SizedTarget) (f : Sized) → targets_of ts.items ≡ parts → sized e.form ≡ f
    → stmt_of (node.Assign ts e) ≡ s.Assign parts f
assign_made ts e parts f ts_is e_is =
    ap stmt_of (sym (node.rolls-Assign ts e)) ∙ fold-roll-Stmt SizedStmt (SizedArms → SizedArms) stmt_step arm_step (Stmt-F.Assign ts e)
    ∙ ap₂ s.Assign ts_is e_is

pub later_made : (ts : Vec Target Global) (e : Typed) (parts : List SizedTarget) (f : Sized) → targets_of ts.items ≡ parts → sized e.form ≡ f
    → stmt_of (node.Later ts e) ≡ s.Later parts f
later_made ts e parts f ts_is e_is =
    ap stmt_of (sym (node.rolls-Later ts e)) ∙ fold-roll-Stmt SizedStmt (SizedArms → SizedArms) stmt_step arm_step (Stmt-F.Later ts e)
    ∙ ap₂ s.Later ts_is e_is

pub block_made : (list : Vec Stmt Global) (scope : Scope) (by : Writer) (xs : List Statement) → map stmt_of list.items ≡ map (sized_statement scope by) xs
    → stmt_of (node.Sequence list) ≡ sized_statement scope by (statements_of xs)
block_made list scope by xs is =
    ap stmt_of (sym (node.rolls-Sequence list)) ∙ fold-roll-Stmt SizedStmt (SizedArms → SizedArms) stmt_step arm_step (Stmt-F.Sequence list)
    ∙ ap sequence_of is ∙ sequence_is scope by xs

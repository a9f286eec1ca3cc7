use Rattle.std.proofs.Common.{◌∙◌, ap}
use Rattle.verilog_ast.specs.Views.{target_of}
use Rattle.statement_rules.specs.Drives.{are_fixed}
use Rattle.width_rules.specs.Entries.{scope_of}
use Rattle.statement_rules.proofs.Placing.{fixed}
use Rattle.statement_rules.proofs.assigning.size_drive.Goals as goal

pub lanes_of-requires : goal.lanes_of-requires
lanes_of-requires c =
    ap are_fixed c.in_ok-parts.ensures.parts ∙ fixed (scope_of c.args.scope.now) 0 (target_of c.args.target.now) c.in_ok-parts.ensures.faultless

use Rattle.std.proofs.Common.{[]}
use Rattle.typed_ir.specs.Forms.{sized}
use Rattle.verilog_ast.specs.Items.{ContinuousAssignment}
use Rattle.verilog_ast.specs.Places.{target_place}
use Rattle.verilog_ast.specs.Views.{expression_of, target_of}
use Rattle.width_rules.specs.Entries.{scope_of}
use Rattle.statement_rules.specs.Drives.{sized_drive}
use Rattle.statement_rules.specs.Statements.{assigned}
use Rattle.statement_rules.specs.Targets.{target_length, parts}
use Rattle.width_rules.specs.Forms.{target_form}
use Rattle.width_rules.specs.Mentions.{numbered}
use Rattle.width_rules.specs.Names.{target_names}
use Rattle.typed_ir.specs.Nodes.{known_lanes}
use Rattle.statement_rules.proofs.Lanes.{lanes_known, value_known}
use Rattle.statement_rules.proofs.Placed.{placed_is, driving, driving_is}
use Rattle.statement_rules.proofs.driving.size_pair.Goals as goal

pub returns-clause-item : goal.returns-clause-item
returns-clause-item c =
    let scope = scope_of c.args.scope.now in
    let t = target_of c.args.target.now in
    let x : ContinuousAssignment = record { target = t; value = expression_of c.args.value.now } in
    let d = c.in_ok-drive.drive in
    placed_is (driving c.target_form-form.result d.lanes.items (sized d.value.form))
    (driving (target_form scope t) (known_lanes (parts scope 0 t)) (assigned scope (target_length scope t) x.value))
    c.place.result (target_place t) c.in_ok-targets.targets.items (numbered 0 (target_names t)) c.new.result.items []
    (driving_is c.target_form-form.result (target_form scope t) d.lanes.items (known_lanes (parts scope 0 t)) (sized d.value.form)
    (assigned scope (target_length scope t) x.value)
    c.target_form-form.ensures (lanes_known d (sized_drive scope x) c.in_ok-drive.ensures.drive) (value_known d (sized_drive scope x) c.in_ok-drive.ensures.drive))
    c.place.ensures c.in_ok-targets.ensures c.new.ensures.items

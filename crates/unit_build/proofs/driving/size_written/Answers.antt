use Rattle.std.proofs.Common.{◌≡◌, ◌∙◌, ◌++◌, List, map, sym, ap}
use Rattle.verilog_ast.specs.Views.{expression_of}
use Rattle.width_rules.specs.declared.target_part.TargetPart.{TargetPart}
use Rattle.width_rules.specs.Entries.{scope_of}
use Rattle.statement_rules.specs.Drives.{are_fixed}
use Rattle.statement_rules.specs.Leaves.{leaf_of, leaves, bits_of, laid}
use Rattle.statement_rules.proofs.Laying.{leaves_bits, leaves_laid}
use Rattle.statement_rules.proofs.Placing.{fixed}
use Rattle.typed_ir.specs.Nodes.{known_lanes}
use Rattle.unit_build.specs.Outputs.{target_at}
use Rattle.unit_build.proofs.Written.{same_length, same_faults}
use Rattle.unit_build.proofs.driving.size_written.Goals as goal

pub lay-requires : goal.lay-requires
lay-requires c =
    let scope = scope_of c.args.scope.now in
    let x = expression_of c.args.e.now in
    let target = target_at x in
    let all : map leaf_of c.collect.new.parts.items ≡ leaves scope target =
    c.in_ok-width.ensures.parts ∙ ap (λ (xs : List TargetPart). map leaf_of xs ++ leaves scope target) c.new-parts.ensures.items in
    c.in_ok-width.ensures.width ∙ sym (ap bits_of all ∙ leaves_bits scope target ∙ same_length scope x c.requires)

pub lanes_of-requires : goal.lanes_of-requires
lanes_of-requires c =
    let scope = scope_of c.args.scope.now in
    let x = expression_of c.args.e.now in
    let target = target_at x in
    let all : map leaf_of c.collect.new.parts.items ≡ leaves scope target =
    c.in_ok-width.ensures.parts ∙ ap (λ (xs : List TargetPart). map leaf_of xs ++ leaves scope target) c.new-parts.ensures.items in
    ap are_fixed (c.in_ok-parts.ensures ∙ ap (laid 0) all ∙ leaves_laid scope 0 target)
    ∙ fixed scope 0 target (same_faults scope x c.requires ∙ c.in_ok-width.ensures.faultless)

pub returns-clause-lanes : goal.returns-clause-lanes
returns-clause-lanes c =
    let scope = scope_of c.args.scope.now in
    let target = target_at (expression_of c.args.e.now) in
    let all : map leaf_of c.collect.new.parts.items ≡ leaves scope target =
    c.in_ok-width.ensures.parts ∙ ap (λ (xs : List TargetPart). map leaf_of xs ++ leaves scope target) c.new-parts.ensures.items in
    c.in_ok-lanes.ensures ∙ ap known_lanes (c.in_ok-parts.ensures ∙ ap (laid 0) all ∙ leaves_laid scope 0 target)

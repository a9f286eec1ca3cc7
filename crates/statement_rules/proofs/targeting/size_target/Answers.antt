use Rattle.std.proofs.Common.{◌≡◌, ◌∙◌, ◌++◌, List, map, sym, ap}
use Rattle.verilog_ast.specs.Views.{target_of}
use Rattle.width_rules.specs.declared.target_part.TargetPart.{TargetPart}
use Rattle.width_rules.specs.Entries.{scope_of}
use Rattle.statement_rules.specs.Leaves.{leaf_of, leaves, bits_of, laid}
use Rattle.statement_rules.proofs.Laying.{leaves_bits, leaves_laid}
use Rattle.statement_rules.proofs.targeting.size_target.Goals as goal

pub lay-requires : goal.lay-requires
lay-requires c =
    let scope = scope_of c.args.scope.now in
    let target = target_of c.args.target.now in
    let all : map leaf_of c.collect.new.parts.items ≡ leaves scope target =
    c.in_ok-width.ensures.parts ∙ ap (λ (xs : List TargetPart). map leaf_of xs ++ leaves scope target) c.new-parts.ensures.items in
    c.in_ok-width.ensures.width ∙ sym (ap bits_of all ∙ leaves_bits scope target)

pub returns-clause-parts : goal.returns-clause-parts
returns-clause-parts c =
    let scope = scope_of c.args.scope.now in
    let target = target_of c.args.target.now in
    let all : map leaf_of c.collect.new.parts.items ≡ leaves scope target =
    c.in_ok-width.ensures.parts ∙ ap (λ (xs : List TargetPart). map leaf_of xs ++ leaves scope target) c.new-parts.ensures.items in
    c.in_ok-parts.ensures ∙ ap (laid 0) all ∙ leaves_laid scope 0 target

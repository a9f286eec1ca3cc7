use Rattle.std.proofs.Common.{◌-◌, ◌∙◌, ap, length}
use Rattle.verilog_expr.specs.Shown.{no_memory}
use Rattle.verilog_expr.proofs.Refusals.{stands_from, refused_at, only_heavy}
use Rattle.verilog_expr.proofs.parsing.parse_expr.Goals as goal

pub returns-in-Ok-clause-tree : goal.returns-in-Ok-clause-tree
returns-in-Ok-clause-tree c = stands_from c.args.tokens.now c.new-p.result c.expression_at.new.self c.args.from c.args.weight _ c.in-Ok.expr c.requires.ends c.requires.inside (c.new-p.ensures ∙ c.split_at.ensures.back) (ap (λ l. length c.args.tokens.now - length l) c.rest.ensures) c.in-Ok.ensures.machine c.in-Ok.ensures.tree c.in-Ok.ensures.shorter

pub returns-in-Err-NoMemory-clause-fault : goal.returns-in-Err-NoMemory-clause-fault
returns-in-Err-NoMemory-clause-fault c = no_memory

pub returns-in-Ok-shown-clause-fault : goal.returns-in-Ok-shown-clause-fault
returns-in-Ok-shown-clause-fault c = refused_at c.args.tokens.now _ _ c.args.from c.args.weight c.in-Err-Fault.fault _ _ c.in-Ok-shown.fault c.new-p.ensures c.split_at.ensures.back c.in-Err-Fault.field-0-is c.in-Err-Fault.ensures.machine c.in-Err-Fault.fault-is c.in-Ok-shown.ensures

pub returns-in-Ok-shown-clause-only : goal.returns-in-Ok-shown-clause-only
returns-in-Ok-shown-clause-only c = only_heavy c.args.tokens.now _ _ c.args.from c.args.weight c.in-Err-Fault.fault _ _ c.in-Ok-shown.fault c.new-p.ensures c.split_at.ensures.back c.in-Err-Fault.field-0-is c.in-Err-Fault.ensures.machine c.in-Err-Fault.fault-is c.in-Ok-shown.ensures

pub returns-in-Err-clause-fault : goal.returns-in-Err-clause-fault
returns-in-Err-clause-fault c = no_memory

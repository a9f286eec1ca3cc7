use Rattle.std.proofs.Common.{◌<◌, length, All, Vec, Global, sym, subst}
use Rattle.ls_text.specs.declared.name_id.NameId.{NameId}
use Rattle.verilog_ast.specs.declared.module.Module.{Module}
use Rattle.verilog_ast.specs.NamesWithin.{names_in_modules}
use Rattle.verilog_expr.specs.Shown.{no_memory, at_fault}
use Rattle.verilog_expr.proofs.Refusals.{run_at}
use Rattle.verilog_parse.proofs.NamedModules.{all_named}
use Rattle.verilog_parse.proofs.Wholes.{spelled_only}
use Rattle.verilog_parse.proofs.parsing.parse.Goals as goal

pub returns-in-Ok-clause-names : goal.returns-in-Ok-clause-names
returns-in-Ok-clause-names c =
    let count = length c.args.names.now in
    let Named : Vec Module Global → Type 0 = λ all. All (λ (id : NameId). id.0 < count) (names_in_modules all.items) in
    subst Named (sym c.in-Ok.all-is) (all_named count c.args.names.now c.in-Ok.all.items c.args.tokens.now c.in-Ok.ensures.tree c.requires.named)

pub returns-in-Err-NoMemory-clause-fault : goal.returns-in-Err-NoMemory-clause-fault
returns-in-Err-NoMemory-clause-fault c = no_memory

pub returns-in-Ok-shown-clause-fault : goal.returns-in-Ok-shown-clause-fault
returns-in-Ok-shown-clause-fault c = at_fault (run_at c.in-Err-Fault.field-0-is c.in-Err-Fault.ensures.fault) c.in-Ok-shown.ensures

pub returns-in-Ok-shown-clause-only : goal.returns-in-Ok-shown-clause-only
returns-in-Ok-shown-clause-only c = λ h. spelled_only c.args.tokens.now _ _ h (run_at c.in-Err-Fault.field-0-is c.in-Err-Fault.ensures.fault) c.in-Ok-shown.ensures

pub returns-in-Err-clause-fault : goal.returns-in-Err-clause-fault
returns-in-Err-clause-fault c = no_memory

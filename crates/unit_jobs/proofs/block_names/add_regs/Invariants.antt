use Rattle.std.proofs.Common.{◌≡◌, ◌++◌, map, drop}
use Rattle.verilog_ast.specs.Views.{declared_reg_of}
use Rattle.gen_unroll.specs.Declarations.{declared_reg_name}
use Rattle.gen_unroll.specs.Views.{block_of}
use Rattle.unit_jobs.specs.BlockNames.{called_in}
use Rattle.ls_text.specs.TextViews.{text_items}
use Rattle.unit_jobs.proofs.block_names.add_regs.Given as goal

abbrev pub invariant-loop-reg : goal.invariant-loop-reg
invariant-loop-reg l =
    map text_items l.texts.items ++ map (called_in l.names (map block_of l.blocks) l.block.0)
    (map declared_reg_name (map declared_reg_of (drop l.reg-index l.regs)))
    ≡ map text_items l.fn.texts.items ++ map (called_in l.names (map block_of l.blocks) l.block.0)
    (map declared_reg_name (map declared_reg_of l.regs))

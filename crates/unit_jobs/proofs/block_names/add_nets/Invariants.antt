use Rattle.std.proofs.Common.{◌≡◌, ◌++◌, map, drop}
use Rattle.verilog_ast.specs.Views.{declared_of}
use Rattle.gen_unroll.specs.Declarations.{declared_name}
use Rattle.gen_unroll.specs.Views.{block_of}
use Rattle.unit_jobs.specs.BlockNames.{called_in}
use Rattle.ls_text.specs.TextViews.{text_items}
use Rattle.unit_jobs.proofs.block_names.add_nets.Given as goal

abbrev pub invariant-loop-net : goal.invariant-loop-net
invariant-loop-net l =
    map text_items l.texts.items ++ map (called_in l.names (map block_of l.blocks) l.block.0)
    (map declared_name (map declared_of (drop l.net-index l.nets)))
    ≡ map text_items l.fn.texts.items ++ map (called_in l.names (map block_of l.blocks) l.block.0) (map declared_name (map declared_of l.nets))

use Rattle.verilog_pre.specs.Views.{parts_of}
use Rattle.verilog_pre.proofs.Parts.{same_parts}
use Rattle.verilog_pre.proofs.table.number_of.Goals as goal

pub returns-clause-parts : goal.returns-clause-parts
unfolding parts_of
returns-clause-parts c = same_parts _ _ c.in_ok-id.ensures.grows _ c.requires.uses

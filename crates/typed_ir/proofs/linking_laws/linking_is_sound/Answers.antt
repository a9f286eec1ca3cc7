use Rattle.typed_ir.proofs.Linking.{flat_sound}
use Rattle.typed_ir.proofs.UnitWidths.{flat_legal, flat_clocked, flat_registers, flat_inputs}
use Rattle.typed_ir.proofs.Example.{tree_sound, tree_legal}
use Rattle.typed_ir.proofs.linking_laws.linking_is_sound.Goals as goal

pub returns-clause-sound : goal.returns-clause-sound
returns-clause-sound c = flat_sound

pub returns-clause-legal : goal.returns-clause-legal
returns-clause-legal c = flat_legal

pub returns-clause-blocks : goal.returns-clause-blocks
returns-clause-blocks c = flat_clocked

pub returns-clause-registers : goal.returns-clause-registers
returns-clause-registers c = flat_registers

pub returns-clause-inputs : goal.returns-clause-inputs
returns-clause-inputs c = flat_inputs

pub returns-clause-example : goal.returns-clause-example
returns-clause-example c = (tree_sound, tree_legal)

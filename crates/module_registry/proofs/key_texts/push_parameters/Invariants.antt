use Rattle.std.proofs.Common.{◌≡◌, ◌++◌, drop}
use Rattle.module_registry.specs.KeyTexts.{parameter_lines}
use Rattle.module_registry.proofs.key_texts.push_parameters.Given as goal

-- the text so far, and the lines of the names and values that are left
abbrev pub invariant-loop-id : goal.invariant-loop-id
invariant-loop-id l =
    l.text.items ++ parameter_lines l.names (drop l.id-index l.ids) l.rest ≡ l.fn.text.items ++ parameter_lines l.names l.ids l.values

use Rattle.std.proofs.Common.{◌≡◌, ◌∷◌, ◌++◌, drop}
use Rattle.std.specs.List.{flat_map}
use Rattle.ls_text.specs.declared.name_id.NameId.{NameId}
use Rattle.ls_text.specs.Texts.{text_at}
use Rattle.ls_text.proofs.fault_lines.push_names.Given as goal

-- the line so far and the names that are left make the line with all names
abbrev pub invariant-loop-id : goal.invariant-loop-id
invariant-loop-id l =
    let piece = λ (id : NameId). 32 ∷ text_at l.names id.0 in
    l.line.items ++ flat_map piece (drop l.id-index l.ids) ≡ l.fn.line.items ++ flat_map piece l.ids

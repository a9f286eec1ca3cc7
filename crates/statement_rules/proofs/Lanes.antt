-- The parts of a continuous assignment, of which all bits are known.
use Rattle.std.proofs.Common.{◌≡◌, List, [], ◌∷◌, map, refl, sym, ◌∙◌, ap}
use Rattle.typed_ir.specs.declared.lane.Lane.{Lane}
use Rattle.typed_ir.specs.Stmts.{Fixed}
use Rattle.typed_ir.specs.Forms.{sized}
use Rattle.statement_rules.specs.declared.drive.Drive.{Drive}
use Rattle.statement_rules.specs.Drives.{SizedDrive, drive_of}
use Rattle.typed_ir.specs.Nodes.{known_lanes}

lanes_back : (lanes : List Lane) → known_lanes (map Fixed lanes) ≡ lanes
lanes_back [] = refl
lanes_back (l ∷ ls) = ap (λ (xs : List Lane). l ∷ xs) (lanes_back ls)

pub lanes_known : (d : Drive) (s : SizedDrive) → drive_of d ≡ s → d.lanes.items ≡ known_lanes s.parts
lanes_known d s h = sym (lanes_back d.lanes.items) ∙ ap (λ (x : SizedDrive). known_lanes x.parts) h

pub value_known : (d : Drive) (s : SizedDrive) → drive_of d ≡ s → sized d.value.form ≡ s.value
value_known d s h = ap (λ (x : SizedDrive). x.value) h

-- One element more: of ports with their signals, of data inputs, and of instances with their units.
use Rattle.std.proofs.Common.{◌≡◌, ℕ, suc, ◌+◌, List, [], ◌∷◌, Option, Vec, length, map, take, cond, sym, ◌∙◌, ap, subst, arith}
use Rattle.std.specs.Global.{Global}
use Rattle.std.specs.declared.sync.Arc.{Arc}
use Rattle.ls_text.specs.declared.name_id.NameId.{NameId}
use Rattle.typed_ir.specs.declared.child_shape.ChildShape.{ChildShape}
use Rattle.typed_ir.specs.declared.instance.Instance.{Instance}
use Rattle.typed_ir.specs.declared.port_shape.PortShape.{PortShape}
use Rattle.typed_ir.specs.declared.unit.Unit.{Unit as Unit'}
use Rattle.typed_ir.specs.declared.unit_parts.UnitParts.{UnitParts}
use Rattle.typed_ir.specs.declared.unit_signal.UnitSignal.{UnitSignal}
use Rattle.typed_ir.specs.Shapes.{AreOf, HasPorts, data_inputs, is_data_input}
use Rattle.link.specs.Listings.{all_parts, parts_of}
use Rattle.unit_jobs.specs.Rows.{row_of, rows_from}
use Rattle.unit_rows.specs.Standing.{AreWith, HaveWidths, IsUnitOf}

pub widths_more : (x : UnitSignal) (xs : List UnitSignal) (p : PortShape) (ps : List PortShape)
    → x.width ≡ p.width → HaveWidths xs ps → HaveWidths (x ∷ xs) (p ∷ ps)
widths_more x xs p ps one rest =
    ap (λ w. w ∷ take (length ps) (map (λ (y : UnitSignal). y.width) xs)) one ∙ ap (λ ws. p.width ∷ ws) rest

pub inputs_more : (clock : Option NameId) (k : ℕ) (p : PortShape) (ps : List PortShape) (all behind : List ℕ)
    → all ≡ cond (is_data_input clock p) (k ∷ behind) behind → behind ≡ data_inputs clock (k + 1) ps → all ≡ data_inputs clock k (p ∷ ps)
inputs_more clock k p ps all behind here there =
    let more : k + 1 ≡ suc k = omega arith in
    here ∙ ap (λ rest. cond (is_data_input clock p) (k ∷ rest) rest) (there ∙ ap (λ n. data_inputs clock n ps) more)

pub with_more : (rows after : List (Vec ChildShape Global)) (r : Vec ChildShape Global) (xs behind : List Instance) (x : Instance)
    (units rest : List (Arc Unit' Global)) (u : Arc Unit' Global)
    → rows ≡ r ∷ after → xs ≡ x ∷ behind → units ≡ u ∷ rest → IsUnitOf (parts_of u) x r.items
    → AreWith (map row_of after) behind (all_parts rest) → AreWith (map row_of rows) xs (all_parts units)
with_more rows after r xs behind x units rest u row here unit one later =
    subst (λ (rs : List (Vec ChildShape Global)). AreWith (map row_of rs) xs (all_parts units)) (sym row)
    (subst (λ (zs : List Instance). AreWith (row_of r ∷ map row_of after) zs (all_parts units)) (sym here)
    (subst (λ (us : List (Arc Unit' Global)). AreWith (row_of r ∷ map row_of after) (x ∷ behind) (all_parts us)) (sym unit) (AreWith.more one later)))

pub with_none : (rows : List (Vec ChildShape Global)) (xs : List Instance) (units : List (Arc Unit' Global))
    → rows ≡ [] → xs ≡ [] → units ≡ [] → AreWith (map row_of rows) xs (all_parts units)
with_none rows xs units row here unit =
    subst (λ (rs : List (Vec ChildShape Global)). AreWith (map row_of rs) xs (all_parts units)) (sym row)
    (subst (λ (zs : List Instance). AreWith [] zs (all_parts units)) (sym here)
    (subst (λ (us : List (Arc Unit' Global)). AreWith [] [] (all_parts us)) (sym unit) AreWith.none))

are_from : (all : List Instance) (k : ℕ) (xs : List Instance) (us : List UnitParts) → AreWith (rows_from all k xs) xs us → AreOf all k xs us
are_from all k [] [] AreWith.none = AreOf.none
are_from all k [] (u ∷ us) with_rows = elim with_rows [ ]
are_from all k (x ∷ xs) [] with_rows = elim with_rows [ ]
are_from all k (x ∷ xs) (u ∷ us) (AreWith.more one rest) = AreOf.more one.ports one.within (are_from all (suc k) xs us rest)

-- units that stand by the rows of their tree
pub are_of : (all : List Instance) (rows : List (List ChildShape)) (us : List UnitParts)
    → rows ≡ rows_from all 0 all → AreWith rows all us → AreOf all 0 all us
are_of all rows us same with_rows = are_from all 0 all us (subst (λ (rs : List (List ChildShape)). AreWith rs all us) same with_rows)

-- the same of parts that are equal
pub has_both : (parts : UnitParts) (clock : Option NameId) (ports here : List PortShape) (signals : List UnitSignal) (inputs : List ℕ)
    → here ≡ ports → signals ≡ parts.signals.items → inputs ≡ parts.inputs.items
    → HaveWidths signals here → inputs ≡ data_inputs clock 0 here → HasPorts parts clock ports
has_both parts clock ports here signals inputs same_here same_signals same_inputs widths places = record {
  widths = subst (λ ps. HaveWidths parts.signals.items ps) same_here (subst (λ xs. HaveWidths xs here) same_signals widths);
  inputs = sym same_inputs ∙ places ∙ ap (λ ps. data_inputs clock 0 ps) same_here;
}

pub is_both : (u : UnitParts) (x : Instance) (shapes all : List ChildShape) → all ≡ u.shapes → HasPorts u x.clock x.ports
    → all ≡ shapes → IsUnitOf u x shapes
is_both u x shapes all same ports within = record { ports = ports; within = sym same ∙ within }

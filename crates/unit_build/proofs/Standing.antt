-- A unit of placed items stands: its signals have the widths of its table, and its registers and inputs are apart.
use Rattle.std.proofs.Common.{◌≡◌, ℕ, zero, suc, ◌<◌, ◌≤◌, true, List, [], ◌∷◌, length, map, refl, sym, ◌∙◌, ap, subst, arith}
use Rattle.typed_ir.specs.Cycles.{Signal}
use Rattle.typed_ir.specs.Orders.{Each}
use Rattle.typed_ir.specs.Stmts.{SizedStmt}
use Rattle.typed_ir.specs.declared.child_shape.ChildShape.{ChildShape}
use Rattle.typed_ir.specs.declared.unit_parts.UnitParts.{UnitParts}
use Rattle.typed_ir.specs.Items.{PlacedItem, nodes_in, unit_of}
use Rattle.typed_ir.specs.OwnWidths.{child_widths, names_child, IsSized}
use Rattle.typed_ir.specs.Shapes.{goes_into_input}
use Rattle.typed_ir.specs.Trees.{UnitNode, SizedUnit, count, port_drives, unit_widths, is_legal_unit_node, is_legal_block, IsUnit}
use Rattle.typed_ir.specs.Units.{sized_unit}
use Rattle.gen_unroll.specs.Numbers.{SignalTable}
use Rattle.gen_unroll.specs.Signals.{NamedSignal}
use Rattle.gen_unroll.specs.Sound.{IsOrdered, widths_of}
use Rattle.gen_unroll.specs.UnitLists.{unit_signals}
use Rattle.gen_unroll.proofs.Fitting.{unit_widths as signal_widths}
use Rattle.gen_unroll.proofs.Numbered.{apart}
use Rattle.driver_rules.specs.Driven.{IsDriven}
use Rattle.driver_rules.specs.Targets.{is_settled}
use Rattle.module_registry.specs.declared.build_job.BuildJob.{BuildJob}
use Rattle.statement_rules.specs.DeclaredValues.{InitialValue}
use Rattle.unit_build.specs.Building.{module_of, begins_with, with_initials, placed}
use Rattle.unit_build.proofs.ItemLaws.{AreLegalItems, nodes_legal, blocks_legal}

-- ---- widths of signals; what one begins with changes none

abbrev width_in : Signal → ℕ
width_in x = x.width

begun_widths : (k value : ℕ) (xs : List Signal) → map width_in (begins_with k value xs) ≡ map width_in xs
begun_widths k value [] = refl
begun_widths zero value (x ∷ xs) = refl
begun_widths (suc k) value (x ∷ xs) = ap (λ (ws : List ℕ). x.width ∷ ws) (begun_widths k value xs)

initial_widths : (vs : List InitialValue) (xs : List Signal) → map width_in (with_initials vs xs) ≡ map width_in xs
initial_widths [] xs = refl
initial_widths (v ∷ vs) xs = initial_widths vs (begins_with v.signal v.value xs) ∙ begun_widths v.signal v.value xs

-- those of the unit
pub placed_widths : (job : BuildJob) (t : SignalTable) (items : List PlacedItem) (initials : List InitialValue)
    → unit_widths (unit_of (placed job t items initials)) ≡ widths_of t.signals
placed_widths job t items initials =
    initial_widths initials (unit_signals (module_of job).name.name.0 job.names t.signals)
    ∙ signal_widths (module_of job).name.name.0 job.names t.signals

same_many : (xs : List Signal) (ys : List NamedSignal) → map width_in xs ≡ widths_of ys → length xs ≡ length ys
same_many [] [] is = refl
same_many [] (y ∷ ys) is = absurd (none_some (ap length is))
  where
    none_some : 0 ≡ suc (length (widths_of ys)) → ⊥
    none_some e = omega (arith, e)
same_many (x ∷ xs) [] is = absurd (some_none (ap length is))
  where
    some_none : suc (length (map width_in xs)) ≡ 0 → ⊥
    some_none e = omega (arith, e)
same_many (x ∷ xs) (y ∷ ys) is = ap suc (same_many xs ys (ap behind is))
  where
    behind : List ℕ → List ℕ
    behind [] = []
    behind (w ∷ ws) = ws

placed_many : (job : BuildJob) (t : SignalTable) (items : List PlacedItem) (initials : List InitialValue)
    → length (unit_of (placed job t items initials)).signals ≡ length t.signals
placed_many job t items initials = same_many (placed job t items initials).signals t.signals (placed_widths job t items initials)

-- ---- registers and inputs

-- what its drivers give, and that no port has two, makes it one
pub placed_unit : (job : BuildJob) (t : SignalTable) (items : List PlacedItem) (initials : List InitialValue) → IsOrdered t
    → ((c s i : ℕ) → count (port_drives c s i) (nodes_in items) ≤ 1) → IsDriven (unit_of (placed job t items initials)) → IsUnit (unit_of (placed job t items initials))
placed_unit job t items initials order once driven =
    let roles = apart (is_settled items) job.clock t order in
    let many = sym (placed_many job t items initials) in
    record {
      own = driven.own;
      ports = once;
      inputs_held = driven.inputs_held;
      registers_held = driven.registers_held;
      inputs_there = λ s m. subst (λ (n : ℕ). s < n) many (roles.inputs_there s m);
      registers_there = λ s m. subst (λ (n : ℕ). s < n) many (roles.registers_there s m);
      nodes = driven.nodes;
      writers = driven.writers;
      registers_only = driven.registers_only;
      registers_once = roles.registers_once;
      inputs_once = roles.inputs_once;
      apart = roles.apart;
    }

-- ---- parts that mean such a unit

pub parts_sized : (job : BuildJob) (t : SignalTable) (items : List PlacedItem) (initials : List InitialValue) (parts : UnitParts)
    → sized_unit parts ≡ unit_of (placed job t items initials) → parts.shapes ≡ job.children → AreLegalItems (widths_of t.signals) (child_widths job.children) items
    → Each (λ (x : UnitNode). names_child (length job.children) x ≡ true) (nodes_in items)
    → Each (λ (x : UnitNode). goes_into_input job.children x ≡ true) (nodes_in items) → IsSized parts
parts_sized job t items initials parts made shapes fit named into =
    let u = unit_of (placed job t items initials) in
    let widths = sym (placed_widths job t items initials) in
    let nodes = subst (λ (ws : List ℕ). Each (λ (x : UnitNode). is_legal_unit_node ws (child_widths job.children) x ≡ true) (nodes_in items)) widths
    (nodes_legal (widths_of t.signals) (child_widths job.children) items fit) in
    let blocks = subst (λ (ws : List ℕ). Each (λ (st : SizedStmt). is_legal_block ws st ≡ true) u.clocked) widths
    (blocks_legal (widths_of t.signals) (child_widths job.children) items fit) in
    record {
      nodes = subst (λ (cs : List ChildShape). Each (λ (x : UnitNode). is_legal_unit_node (unit_widths (sized_unit parts)) (child_widths cs) x ≡ true) (sized_unit parts).nodes) (sym shapes)
          (subst (λ (v : SizedUnit). Each (λ (x : UnitNode). is_legal_unit_node (unit_widths v) (child_widths job.children) x ≡ true) v.nodes) (sym made) nodes);
      blocks = subst (λ (v : SizedUnit). Each (λ (st : SizedStmt). is_legal_block (unit_widths v) st ≡ true) v.clocked) (sym made) blocks;
      children = subst (λ (cs : List ChildShape). Each (λ (x : UnitNode). names_child (length cs) x ≡ true) (sized_unit parts).nodes) (sym shapes)
          (subst (λ (v : SizedUnit). Each (λ (x : UnitNode). names_child (length job.children) x ≡ true) v.nodes) (sym made) named);
      into = subst (λ (cs : List ChildShape). Each (λ (x : UnitNode). goes_into_input cs x ≡ true) (sized_unit parts).nodes) (sym shapes)
          (subst (λ (v : SizedUnit). Each (λ (x : UnitNode). goes_into_input job.children x ≡ true) v.nodes) (sym made) into);
    }

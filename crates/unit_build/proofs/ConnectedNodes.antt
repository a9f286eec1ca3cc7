-- The nodes of connections without faults have widths that agree with the module's signals and with the ports of its instances.
use Rattle.std.proofs.Common.{◌≡◌, ◌≤◌, ℕ, suc, Bool, true, false, List, [], ◌∷◌, ◌++◌, length, cond, append_assoc, refl, sym, ◌∙◌, ap, subst, arith}
use Rattle.std.specs.Prelude.{⊤}
use Rattle.std.proofs.lemmas.Bool.{and_from}
use Rattle.std.proofs.lemmas.List.{length-append}
use Rattle.typed_ir.specs.Nodes.{are_lanes, known_lanes}
use Rattle.typed_ir.specs.Orders.{Each}
use Rattle.typed_ir.specs.Stmts.{is_sized}
use Rattle.typed_ir.specs.declared.child_shape.ChildShape.{ChildShape}
use Rattle.typed_ir.specs.Items.{nodes_in}
use Rattle.typed_ir.specs.OwnWidths.{port_widths, child_widths}
use Rattle.typed_ir.specs.Trees.{is_legal_unit_node}
use Rattle.verilog_ast.specs.Expressions.{Target}
use Rattle.verilog_ast.specs.Items.{ModuleInstance}
use Rattle.width_rules.specs.declared.due.Due.TheVariants.{AnyValue}
use Rattle.width_rules.specs.Faults.{faults}
use Rattle.width_rules.specs.Scopes.{Scope}
use Rattle.width_rules.proofs.Reading.{left_none, right_none}
use Rattle.statement_rules.specs.Statements.{assigned}
use Rattle.statement_rules.specs.Targets.{target_length, parts}
use Rattle.statement_rules.specs.Fitting.{FitsScope}
use Rattle.statement_rules.specs.Written.{IsWritten}
use Rattle.statement_rules.proofs.FittingStatements.{assigned_sized}
use Rattle.unit_build.specs.Connections.{Connected, connected_to, connection_faults, connection_kinds, all_connection_faults, all_connection_kinds}
use Rattle.unit_build.specs.ConnectionNodes.{driven_by, port_lane, port_value, input_node, output_node, connection_node}
use Rattle.unit_build.specs.Instances.{instance_faults, instance_kinds, item_faults, child_items, instance_items}
use Rattle.unit_build.specs.Outputs.{target_at, output_faults, output_kinds}
use Rattle.unit_build.proofs.ChildWidths.{lanes_lie, values_lie}
use Rattle.unit_build.proofs.StandingConnections.{each_port}
use Rattle.unit_build.proofs.ConnectedItems.{each_items}
use Rattle.unit_build.proofs.ConnectedTargets.{IsOutput, output_so}
use Rattle.unit_build.proofs.ConnectedTexts.{AreInstancesWritten, written_to}

-- ---- one connection

-- it lies in the ports of its child, is written as a parser writes it, and has no fault
record IsRight (scope : Scope) (child : ChildShape) (c : Connected) : Type 0 where
  lane : are_lanes (port_lane c ∷ []) (port_widths child) ≡ true
  values : (n : ℕ) → n ≤ 128 → is_sized (port_value c n) (port_widths child) ≡ true
  written : IsWritten c.value
  faultless : connection_faults scope c ≡ []
  kind : connection_kinds scope c ≡ []

input_legal : (scope : Scope) (widths : List ℕ) (kids : ℕ → List ℕ) (child : ChildShape) (d : ℕ) (c : Connected) → FitsScope scope widths → kids d ≡ port_widths child
    → IsRight scope child c → faults scope AnyValue c.value ≡ [] → is_legal_unit_node widths kids (input_node scope d c) ≡ true
input_legal scope widths kids child d c ok same right none =
    and_from (are_lanes (port_lane c ∷ []) (kids d)) (is_sized (assigned scope c.shape.width c.value) widths)
    (ap (λ (ws : List ℕ). are_lanes (port_lane c ∷ []) ws) same ∙ right.lane)
    (assigned_sized scope widths AnyValue c.shape.width c.value ok right.written none c.shape.at_most_128)

output_legal : (scope : Scope) (widths : List ℕ) (kids : ℕ → List ℕ) (child : ChildShape) (d : ℕ) (c : Connected) → kids d ≡ port_widths child
    → IsRight scope child c → IsOutput scope widths c → is_legal_unit_node widths kids (output_node scope d c (driven_by c)) ≡ true
output_legal scope widths kids child d c same right is =
    let t : Target = target_at c.value in
    let value : is_sized (port_value c (target_length scope t)) (kids d) ≡ true =
    ap (λ (ws : List ℕ). is_sized (port_value c (target_length scope t)) ws) same ∙ right.values (target_length scope t) is.few in
    ap (λ (x : Target). is_legal_unit_node widths kids (output_node scope d c x)) is.driven
    ∙ and_from (are_lanes (known_lanes (parts scope 0 t)) widths) (is_sized (port_value c (target_length scope t)) (kids d)) is.lanes value

node_legal : (scope : Scope) (widths : List ℕ) (kids : ℕ → List ℕ) (child : ChildShape) (d : ℕ) (c : Connected) → FitsScope scope widths → kids d ≡ port_widths child
    → IsRight scope child c → is_legal_unit_node widths kids (connection_node scope d c) ≡ true
node_legal scope widths kids child d c ok same right = by_input c.shape.input right.faultless right.kind
  where
    by_input : (b : Bool) → cond b (faults scope AnyValue c.value) (output_faults scope c.value) ≡ [] → cond b [] (output_kinds scope c.value) ≡ []
        → is_legal_unit_node widths kids (cond b (input_node scope d c) (output_node scope d c (driven_by c))) ≡ true
    by_input true f k = input_legal scope widths kids child d c ok same right f
    by_input false f k = output_legal scope widths kids child d c same right (output_so scope widths c ok right.written f k)

-- ---- those of an instance

each_width : (P : ℕ → Connected → Type 0) (cs : List Connected) → ((n : ℕ) → n ≤ 128 → Each (P n) cs) → Each (λ c. (n : ℕ) → n ≤ 128 → P n c) cs
each_width P [] h = tt
each_width P (c ∷ cs) h = (λ n few. (h n few).0, each_width P cs (λ n few. (h n few).1))

all_right : (scope : Scope) (child : ChildShape) (cs : List Connected) → Each (λ c. are_lanes (port_lane c ∷ []) (port_widths child) ≡ true) cs
    → Each (λ c. (n : ℕ) → n ≤ 128 → is_sized (port_value c n) (port_widths child) ≡ true) cs → Each (λ c. IsWritten c.value) cs
    → all_connection_faults scope cs ≡ [] → all_connection_kinds scope cs ≡ [] → Each (IsRight scope child) cs
all_right scope child [] lanes values written f k = tt
all_right scope child (c ∷ cs) lanes values written f k = (
  record {
    lane = lanes.0;
    values = values.0;
    written = written.0;
    faultless = left_none (connection_faults scope c) (all_connection_faults scope cs) f;
    kind = left_none (connection_kinds scope c) (all_connection_kinds scope cs) k;
  },
  all_right scope child cs lanes.1 values.1 written.1 (right_none (connection_faults scope c) (all_connection_faults scope cs) f)
      (right_none (connection_kinds scope c) (all_connection_kinds scope cs) k),
)

child_legal : (scope : Scope) (widths : List ℕ) (kids : ℕ → List ℕ) (d : ℕ) (s : ChildShape) (x : ModuleInstance) → FitsScope scope widths → kids d ≡ port_widths s
    → Each (λ c. IsWritten c.value) (connected_to s x.connections) → all_connection_faults scope (connected_to s x.connections) ≡ []
    → all_connection_kinds scope (connected_to s x.connections) ≡ [] → Each (λ n. is_legal_unit_node widths kids n ≡ true) (nodes_in (child_items scope d s x))
child_legal scope widths kids d s x ok same written f k =
    each_port (λ n. is_legal_unit_node widths kids n ≡ true) (IsRight scope s) scope d (λ c right. node_legal scope widths kids s d c ok same right)
    (connected_to s x.connections)
    (all_right scope s (connected_to s x.connections) (lanes_lie s x.connections)
    (each_width (λ n c. is_sized (port_value c n) (port_widths s) ≡ true) (connected_to s x.connections) (λ n few. values_lie s x.connections n few))
    written f k)
    0 s.ports

-- ---- those of all instances of an item

-- these shapes stand in a list from the number `first` on
abbrev StandFrom : (kids : ℕ → List ℕ) → (first : ℕ) → List ChildShape → Type 0
StandFrom kids first [] = ⊤
StandFrom kids first (s ∷ ss) = (kids first ≡ port_widths s) × StandFrom kids (suc first) ss

at_seam : (before : List ChildShape) (s : ChildShape) (after : List ChildShape) → child_widths (before ++ s ∷ after) (length before) ≡ port_widths s
at_seam [] s after = refl
at_seam (b ∷ bs) s after = at_seam bs s after

stand_from : (before ss after : List ChildShape) (first : ℕ) → length before ≡ first → StandFrom (child_widths (before ++ (ss ++ after))) first ss
stand_from before [] after first h = tt
stand_from before (s ∷ ss) after first h =
    let next : length (before ++ s ∷ []) ≡ suc first = omega (arith, length-append before (s ∷ []), h) in (
      ap (child_widths (before ++ (s ∷ (ss ++ after)))) (sym h) ∙ at_seam before s (ss ++ after),
      subst (λ (l : List ChildShape). StandFrom (child_widths l) (suc first) ss) (append_assoc before (s ∷ []) (ss ++ after))
          (stand_from (before ++ s ∷ []) ss after (suc first) next),
    )

each_legal : (scope : Scope) (widths : List ℕ) (kids : ℕ → List ℕ) (first : ℕ) (ss : List ChildShape) (xs : List ModuleInstance) → FitsScope scope widths
    → StandFrom kids first ss → AreInstancesWritten xs → instance_faults scope ss xs ≡ [] → instance_kinds scope ss xs ≡ []
    → Each (λ n. is_legal_unit_node widths kids n ≡ true) (nodes_in (instance_items scope first ss xs))
each_legal scope widths kids first [] xs ok same w f k = tt
each_legal scope widths kids first (s ∷ ss) [] ok same w f k = tt
each_legal scope widths kids first (s ∷ ss) (x ∷ xs) ok same w f k =
    let cs : List Connected = connected_to s x.connections in
    each_items (λ n. is_legal_unit_node widths kids n ≡ true) (child_items scope first s x) (instance_items scope (suc first) ss xs)
    (child_legal scope widths kids first s x ok same.0 (written_to s x.connections w.0)
    (left_none (all_connection_faults scope cs) (instance_faults scope ss xs) f) (left_none (all_connection_kinds scope cs) (instance_kinds scope ss xs) k))
    (each_legal scope widths kids (suc first) ss xs ok same.1 w.1
    (right_none (all_connection_faults scope cs) (instance_faults scope ss xs) f) (right_none (all_connection_kinds scope cs) (instance_kinds scope ss xs) k))

-- their shapes stand among all from the number `first` on
pub instances_legal : (scope : Scope) (widths : List ℕ) (before ss after : List ChildShape) (first : ℕ) (xs : List ModuleInstance) → FitsScope scope widths
    → length before ≡ first → AreInstancesWritten xs → item_faults scope ss xs ≡ []
    → Each (λ n. is_legal_unit_node widths (child_widths (before ++ (ss ++ after))) n ≡ true) (nodes_in (instance_items scope first ss xs))
instances_legal scope widths before ss after first xs ok many w h =
    each_legal scope widths (child_widths (before ++ (ss ++ after))) first ss xs ok (stand_from before ss after first many) w
    (left_none (instance_faults scope ss xs) (instance_kinds scope ss xs) h) (right_none (instance_faults scope ss xs) (instance_kinds scope ss xs) h)

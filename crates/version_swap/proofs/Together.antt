-- The ports that elaboration tells of a module are the first signals of its unit.
use Rattle.std.proofs.Common.{◌≡◌, ℕ, true, List, [], map, take, length, Ok, refl, sym, ◌∙◌, ap, subst}
use Rattle.std.specs.Prelude.{Option}
use Rattle.ls_text.specs.declared.name_id.NameId.{NameId}
use Rattle.typed_ir.specs.Cycles.{Signal}
use Rattle.verilog_ast.specs.Items.{ModuleDeclaration}
use Rattle.typed_ir.specs.declared.port_shape.PortShape.{PortShape}
use Rattle.typed_ir.specs.Shapes as shapes
use Rattle.gen_unroll.specs.Reaches.{reach_in}
use Rattle.gen_unroll.specs.Steps.{ModuleStep}
use Rattle.gen_unroll.specs.Unrolled.{State, unrolled_module}
use Rattle.ls_text.specs.Answers.{◌>>=◌}
use Rattle.gen_unroll.specs.Values.{ConstantValue}
use Rattle.gen_unroll.proofs.Answered.{good, ok_same, first_step}
use Rattle.module_names.specs.Modules.{header_ports}
use Rattle.elaborate.specs.Checks.{Checked, nothing_checked, check_steps, ports_declared, checked}
use Rattle.elaborate.specs.Ports.{PortOutline, port_outlines}
use Rattle.elaborate.specs.Views.{port_of}
use Rattle.elaborate.specs.Visits.{Visited, clocked, with_clocks, visited}
use Rattle.gen_unroll.specs.Numbers.{SignalTable, header_names, table_of, module_table}
use Rattle.gen_unroll.specs.Signals.{NamedSignal}
use Rattle.gen_unroll.specs.UnitLists.{unit_signals, data_inputs}
use Rattle.version_swap.specs.Leading.{AreLeading}
use Rattle.version_swap.specs.Outer.{are_ports_outside}
use Rattle.version_swap.proofs.Headed.{headed}
use Rattle.version_swap.proofs.Headers.{header_goes}
use Rattle.version_swap.proofs.Leading.{leading_widths, leading_shape_widths, leading_inputs}
use Rattle.version_swap.proofs.Numbering.{ports_lead_numbered}

abbrev steps_of : (turns : ℕ) → List (Option ConstantValue) → ModuleDeclaration → List ModuleStep
steps_of turns vs m = (unrolled_module turns vs m).said

-- what a module's own checks found on their way
record Found (turns : ℕ) (ms : List ModuleDeclaration) (m : ModuleDeclaration) (vs : List (Option ConstantValue)) (c : Checked) : Type 0 where
  state : State
  ended : (unrolled_module turns vs m).ending ≡ Ok state
  walked : check_steps ms (reach_in m) (steps_of turns vs m) nothing_checked ≡ Ok c
  ports : ports_declared (header_ports m.ports) c.declared ≡ Ok tt

found : (turns : ℕ) (ms : List ModuleDeclaration) (m : ModuleDeclaration) (vs : List (Option ConstantValue)) (c : Checked)
    → checked turns ms m vs ≡ Ok c → Found turns ms m vs c
unfolding checked
found turns ms m vs c h =
    let first = first_step (check_steps ms (reach_in m) (steps_of turns vs m) nothing_checked)
    (λ (d : Checked). (unrolled_module turns vs m).ending >>= λ _. ports_declared (header_ports m.ports) d.declared >>= λ _. Ok d) c h in
    let second = first_step (unrolled_module turns vs m).ending
    (λ (st : State). ports_declared (header_ports m.ports) first.value.declared >>= λ _. Ok first.value) c first.second in
    let third = first_step (ports_declared (header_ports m.ports) first.value.declared) (λ _. Ok first.value) c second.second in
    let is : first.value ≡ c = ok_same first.value c third.second in
    record {
      state = second.value;
      ended = second.first;
      walked = first.first ∙ ap Ok is;
      ports = subst (λ (d : Checked). ports_declared (header_ports m.ports) d.declared ≡ good tt) is third.first;
    }

-- its table of signals
record Tabled (turns : ℕ) (m : ModuleDeclaration) (vs : List (Option ConstantValue)) (c : Checked) : Type 0 where
  table : SignalTable
  there : module_table m (steps_of turns vs m) ≡ Ok table
  lead : AreLeading (port_outlines (header_ports m.ports) c.declared) table.signals

tabled : (turns : ℕ) (ms : List ModuleDeclaration) (m : ModuleDeclaration) (vs : List (Option ConstantValue)) (c : Checked)
    → checked turns ms m vs ≡ Ok c
    → are_ports_outside 0 (steps_of turns vs m) ≡ true → Tabled turns m vs c
unfolding module_table
tabled turns ms m vs c h outside =
    let is = found turns ms m vs c h in
    let goes = header_goes ms (reach_in m) (header_ports m.ports) (steps_of turns vs m) nothing_checked c []
    (headed turns vs m is.state is.ended) outside
    (record {
      known = record { agrees = λ q. tt; inputs = tt };
      last = record { port = refl; input = refl; range_so = refl; signed_so = refl };
    }) is.walked in
    record {
      table = table_of (header_names m.ports) goes.go.signals;
      there = ap (λ z. z >>= λ (xs : List NamedSignal). Ok (table_of (header_names m.ports) xs)) goes.go.told;
      lead = ports_lead_numbered m.ports goes.go.signals c.declared goes.fresh goes.go.known.agrees goes.go.known.inputs is.ports;
    }

-- ---- the laws

-- a module that was checked has a table of its signals
pub table_there : (turns : ℕ) (ms : List ModuleDeclaration) (m : ModuleDeclaration) (vs : List (Option ConstantValue)) (c : Checked)
    → checked turns ms m vs ≡ Ok c
    → are_ports_outside 0 (unrolled_module turns vs m).said ≡ true → (t : SignalTable) × (module_table m (unrolled_module turns vs m).said ≡ Ok t)
table_there turns ms m vs c h outside = let is = tabled turns ms m vs c h outside in (is.table, is.there)

-- the signals begin with its ports, and none behind them is an input
pub ports_lead : (turns : ℕ) (ms : List ModuleDeclaration) (m : ModuleDeclaration) (vs : List (Option ConstantValue)) (c : Checked) (t : SignalTable)
    → checked turns ms m vs ≡ Ok c
    → are_ports_outside 0 (unrolled_module turns vs m).said ≡ true → module_table m (unrolled_module turns vs m).said ≡ Ok t
    → AreLeading (port_outlines (header_ports m.ports) c.declared) t.signals
ports_lead turns ms m vs c t h outside there =
    let is = tabled turns ms m vs c h outside in
    subst (λ (u : SignalTable). AreLeading (port_outlines (header_ports m.ports) c.declared) u.signals)
    (ok_same is.table t (sym is.there ∙ there)) is.lead

pub widths_lead : (turns : ℕ) (ms : List ModuleDeclaration) (m : ModuleDeclaration) (vs : List (Option ConstantValue)) (c : Checked) (t : SignalTable)
    (k : ℕ) (names : List NameId)
    → checked turns ms m vs ≡ Ok c → are_ports_outside 0 (unrolled_module turns vs m).said ≡ true
    → module_table m (unrolled_module turns vs m).said ≡ Ok t
    → take (length (port_outlines (header_ports m.ports) c.declared)) (map (λ (x : Signal). x.width) (unit_signals k names t.signals))
    ≡ map (λ (p : PortOutline). p.width) (port_outlines (header_ports m.ports) c.declared)
widths_lead turns ms m vs c t k names h outside there =
    leading_widths k names (port_outlines (header_ports m.ports) c.declared) t.signals (ports_lead turns ms m vs c t h outside there)

-- the same of the ports that the code has
pub shape_widths_lead : (turns : ℕ) (ms : List ModuleDeclaration) (m : ModuleDeclaration) (vs : List (Option ConstantValue)) (c : Checked)
    (t : SignalTable) (k : ℕ) (names : List NameId) (ports : List PortShape)
    → checked turns ms m vs ≡ Ok c → are_ports_outside 0 (unrolled_module turns vs m).said ≡ true
    → module_table m (unrolled_module turns vs m).said ≡ Ok t → map port_of ports ≡ port_outlines (header_ports m.ports) c.declared
    → take (length ports) (map (λ (x : Signal). x.width) (unit_signals k names t.signals)) ≡ map (λ (p : PortShape). p.width) ports
shape_widths_lead turns ms m vs c t k names ports h outside there same =
    leading_shape_widths k names ports (port_outlines (header_ports m.ports) c.declared) t.signals same
    (ports_lead turns ms m vs c t h outside there)

-- its data inputs are those of its ports
pub same_data_inputs : (turns : ℕ) (ms : List ModuleDeclaration) (m : ModuleDeclaration) (vs : List (Option ConstantValue)) (c : Checked)
    (t : SignalTable) (clock : Option NameId) (ports : List PortShape)
    → checked turns ms m vs ≡ Ok c → are_ports_outside 0 (unrolled_module turns vs m).said ≡ true
    → module_table m (unrolled_module turns vs m).said ≡ Ok t
    → map port_of ports ≡ port_outlines (header_ports m.ports) c.declared → data_inputs clock t.signals ≡ shapes.data_inputs clock 0 ports
same_data_inputs turns ms m vs c t clock ports h outside there same =
    leading_inputs clock ports (port_outlines (header_ports m.ports) c.declared) t.signals same (ports_lead turns ms m vs c t h outside there)

-- ---- visits

-- a visit has these checks and ports
pub visit_has : (turns : ℕ) (ms : List ModuleDeclaration) (most : Option ℕ) (m : ModuleDeclaration) (vs : List (Option ConstantValue))
    (clock : Option ℕ) (v : Visited) → visited turns ms most m vs clock ≡ Ok v
    → (checked turns ms m vs ≡ Ok v.checks) × (v.ports ≡ port_outlines (header_ports m.ports) v.checks.declared)
unfolding visited
visit_has turns ms most m vs clock v h =
    let first = first_step (checked turns ms m vs)
    (λ (c : Checked). clocked ms m (steps_of turns vs m) most clock c.declared >>= λ ks. Ok (with_clocks m (steps_of turns vs m) c ks)) v h in
    let second = first_step (clocked ms m (steps_of turns vs m) most clock first.value.declared)
    (λ ks. Ok (with_clocks m (steps_of turns vs m) first.value ks)) v first.second in
    let is = ok_same (with_clocks m (steps_of turns vs m) first.value second.value) v second.second in (
      first.first ∙ ap (λ (w : Visited). good w.checks) is,
      subst (λ (w : Visited). w.ports ≡ port_outlines (header_ports m.ports) w.checks.declared) is refl,
    )

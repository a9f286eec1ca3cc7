-- The names in reach without places: these go by numbers of names.
use Rattle.std.proofs.Common.{◌≡◌, List, [], ◌∷◌, map, Option, Some, None, refl, ◌∙◌, ap}
use Rattle.std.specs.Option.{option_map}
use Rattle.ls_text.proofs.Lists.{map_so}
use Rattle.verilog_ast.specs.declared.identifier.Identifier.{Identifier}
use Rattle.verilog_ast.specs.Declarations.{PortDeclaration, NextPort, PortList, NoPorts, NamedPorts, DeclaredPorts}
use Rattle.verilog_ast.specs.Items as i
use Rattle.verilog_ast.specs.Items.{ModuleItem, ModuleDeclaration}
use Rattle.width_rules.specs.Scopes.{Meaning, Unknown, Genvar, Scope}
use Rattle.gen_unroll.specs.Declarations.{declared, all_declared, net, declared_name, declared_reg_name, instance_name, item_names, port_name, port_names}
use Rattle.gen_unroll.specs.Reaches.{Reach, reach_in, in_reach}
use Rattle.gen_unroll.specs.Steps.{LoopTurn, ModuleStep, Opened}
use Rattle.gen_unroll.specs.Unrolled.{with_turn, nowhere, own_names}
use Rattle.gen_unroll.specs.UnitReaches.{hidden, hidden_ports, hidden_module}
use Rattle.version_swap.specs.Unplaced.{unplaced_name, unplaced_declared, unplaced_declared_reg, unplaced_instance, unplaced_port, unplaced_ports, unplaced_item, unplaced_declaration}
use Rattle.version_swap.specs.UnplacedFindings.{turn_unplaced, step_unplaced}

-- ---- names

pub same_port_name : (p : PortDeclaration) → port_name (unplaced_port p) ≡ unplaced_name (port_name p)
same_port_name (NextPort x) = refl
same_port_name other = refl

-- ---- all of these names with one meaning

all_so : (m : Meaning) (ns : List Identifier) (scope : Scope) → all_declared m (map unplaced_name ns) scope ≡ all_declared m ns scope
all_so m [] scope = refl
all_so m (n ∷ ns) scope = all_so m ns (declared scope n m)

parts_so : {A : Type 0} (name : A → Identifier) (moved : A → A) → ((x : A) → name (moved x) ≡ unplaced_name (name x))
    → (m : Meaning) (xs : List A) (scope : Scope)
    → all_declared m (map name (map moved xs)) scope ≡ all_declared m (map name xs) scope
parts_so name moved is m xs scope =
    ap (λ (ns : List Identifier). all_declared m ns scope) (map_so name moved unplaced_name is xs) ∙ all_so m (map name xs) scope

pub same_item_names : (x : ModuleItem) (scope : Scope) → item_names (unplaced_item x) scope ≡ item_names x scope
same_item_names (i.Inputs at n k names) scope = all_so net names scope
same_item_names (i.Outputs at n k ports) scope = parts_so declared_name unplaced_declared (λ x. refl) net ports scope
same_item_names (i.Wires at k nets) scope = parts_so declared_name unplaced_declared (λ x. refl) net nets scope
same_item_names (i.Regs at k regs) scope = parts_so declared_reg_name unplaced_declared_reg (λ x. refl) net regs scope
same_item_names (i.Genvars at names) scope = all_so Genvar names scope
same_item_names (i.Instances n overrides instances) scope = parts_so instance_name unplaced_instance (λ x. refl) Unknown instances scope
same_item_names (i.Region at items) scope = same_item_names items scope
same_item_names (i.Items x xs) scope = ap (item_names (unplaced_item xs)) (same_item_names x scope) ∙ same_item_names xs (item_names x scope)
same_item_names other scope = refl

same_port_names : (ps : PortList) (scope : Scope) → port_names (unplaced_ports ps) scope ≡ port_names ps scope
same_port_names NoPorts scope = refl
same_port_names (NamedPorts names) scope = refl
same_port_names (DeclaredPorts ports) scope = parts_so port_name unplaced_port same_port_name net ports scope

pub same_own_names : (m : ModuleDeclaration) → own_names (unplaced_declaration m) ≡ own_names m
same_own_names m = ap (item_names (unplaced_item m.items)) (same_port_names m.ports nowhere) ∙ same_item_names m.items (port_names m.ports nowhere)

-- ---- nets and variables that stand for nothing

pub same_hidden : (x : ModuleItem) (scope : Scope) → hidden (unplaced_item x) scope ≡ hidden x scope
same_hidden (i.Inputs at n k names) scope = all_so Unknown names scope
same_hidden (i.Outputs at n k ports) scope = parts_so declared_name unplaced_declared (λ x. refl) Unknown ports scope
same_hidden (i.Wires at k nets) scope = parts_so declared_name unplaced_declared (λ x. refl) Unknown nets scope
same_hidden (i.Regs at k regs) scope = parts_so declared_reg_name unplaced_declared_reg (λ x. refl) Unknown regs scope
same_hidden (i.Region at items) scope = same_hidden items scope
same_hidden (i.Items x xs) scope = ap (hidden (unplaced_item xs)) (same_hidden x scope) ∙ same_hidden xs (hidden x scope)
same_hidden other scope = refl

same_hidden_ports : (ps : PortList) (scope : Scope) → hidden_ports (unplaced_ports ps) scope ≡ hidden_ports ps scope
same_hidden_ports NoPorts scope = refl
same_hidden_ports (NamedPorts names) scope = refl
same_hidden_ports (DeclaredPorts ports) scope = parts_so port_name unplaced_port same_port_name Unknown ports scope

pub same_hidden_module : (m : ModuleDeclaration) (scope : Scope) → hidden_module (unplaced_declaration m) scope ≡ hidden_module m scope
same_hidden_module m scope =
    ap (hidden (unplaced_item m.items)) (same_hidden_ports m.ports scope) ∙ same_hidden m.items (hidden_ports m.ports scope)

-- ---- at each step

same_turn : (t : Option LoopTurn) (scope : Scope) → with_turn (option_map turn_unplaced t) scope ≡ with_turn t scope
same_turn None scope = refl
same_turn (Some t) scope = refl

-- within a block
pub same_inner : (t : Option LoopTurn) (items : ModuleItem) (scope : Scope)
    → item_names (unplaced_item items) (with_turn (option_map turn_unplaced t) scope) ≡ item_names items (with_turn t scope)
same_inner t items scope = ap (item_names (unplaced_item items)) (same_turn t scope) ∙ same_item_names items (with_turn t scope)

pub same_beginning : (m : ModuleDeclaration) → reach_in (unplaced_declaration m) ≡ reach_in m
same_beginning m = ap (λ (scope : Scope). record { scope = scope; around = []; blocks = [] }) (same_own_names m)

pub same_reach : (s : ModuleStep) (r : Reach) → in_reach (step_unplaced s) r ≡ in_reach s r
same_reach (Opened b items) r =
    ap (λ (scope : Scope). record { scope = scope; around = r.scope ∷ r.around; blocks = b.number ∷ r.blocks }) (same_inner b.turn items r.scope)
same_reach other r = refl

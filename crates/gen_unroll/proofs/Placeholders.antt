-- Nets that gen_unroll declares without a number are hidden, so that no such net is in reach.
use Rattle.std.proofs.Common.{◌≡◌, ℕ, ◌==◌, ◌||◌, Bool, true, false, cond, if◌then◌else◌, List, [], ◌∷◌, map, refl, sym, subst, true≢false}
use Rattle.std.specs.Prelude.{Option, None}
use Rattle.std.proofs.lemmas.Bool.{or_parts, or_from}
use Rattle.typed_ir.specs.Sized.{is_width, is_signal}
use Rattle.verilog_ast.specs.declared.identifier.Identifier.{Identifier}
use Rattle.verilog_ast.specs.Declarations.{PortList, NoPorts, NamedPorts, DeclaredPorts}
use Rattle.verilog_ast.specs.Items as i
use Rattle.verilog_ast.specs.Items.{ModuleItem, ModuleDeclaration}
use Rattle.width_rules.specs.declared.writer.Writer.{Writer}
use Rattle.width_rules.specs.Scopes.{Meaning, Signal, Genvar, Unknown, Scope}
use Rattle.gen_unroll.specs.Declarations.{declared, all_declared, net, declared_name, declared_reg_name, instance_name, item_names, port_name, port_names}
use Rattle.gen_unroll.specs.Unrolled.{nowhere, own_names}
use Rattle.gen_unroll.specs.declared.signal_table.ModuleSignals.{ModuleSignals}
use Rattle.gen_unroll.specs.ModuleViews.{signals_in}
use Rattle.gen_unroll.specs.Sound.{IsOneOf, widths_of}
use Rattle.gen_unroll.specs.UnitReaches.{with_signals, hidden, hidden_ports, hidden_module, unit_reach_in}
use Rattle.gen_unroll.proofs.Fitting.{entered_fits}

-- ---- which names are declared without a number

abbrev pub is_name_in : ℕ → List Identifier → Bool
is_name_in name [] = false
is_name_in name (n ∷ ns) = if n.name.0 == name then true else is_name_in name ns

-- among the items of a block themselves
abbrev pub names_net : ℕ → ModuleItem → Bool
names_net name (i.Inputs at n k names) = is_name_in name names
names_net name (i.Outputs at n k ports) = is_name_in name (map declared_name ports)
names_net name (i.Wires at k nets) = is_name_in name (map declared_name nets)
names_net name (i.Regs at k regs) = is_name_in name (map declared_reg_name regs)
names_net name (i.Region at items) = names_net name items
names_net name (i.Items x xs) = names_net name x || names_net name xs
names_net name other = false

-- among the ports of a header
abbrev pub names_port : ℕ → PortList → Bool
names_port name NoPorts = false
names_port name (NamedPorts names) = false
names_port name (DeclaredPorts ports) = is_name_in name (map port_name ports)

-- ---- names that are declared

-- other names stay
nets_other : (P : Meaning → Type 0) (m : Meaning) (ns : List Identifier) (s : Scope) (name : ℕ) → is_name_in name ns ≡ false → P (s name) → P (all_declared m ns s name)
nets_other P m [] s name none before = before
nets_other P m (n ∷ ns) s name none before = by (n.name.0 == name) refl none (nets_other P m ns (declared s n m) name)
  where
    by : (b : Bool) → (n.name.0 == name) ≡ b → cond b true (is_name_in name ns) ≡ false
        → (is_name_in name ns ≡ false → P (declared s n m name) → P (all_declared m ns (declared s n m) name)) → P (all_declared m ns (declared s n m) name)
    by true is none rest = absurd (true≢false none)
    by false is none rest = rest none (subst (λ (b : Bool). P (cond b m (s name))) (sym is) before)

-- what is so of a name that isn't among these, and of what these stand for, is so of it behind them
kinds_other : (P : Meaning → Type 0) (m : Meaning) → P m → (ns : List Identifier) (s : Scope) (name : ℕ) → (is_name_in name ns ≡ false → P (s name)) → P (all_declared m ns s name)
kinds_other P m one [] s name before = before refl
kinds_other P m one (n ∷ ns) s name before = kinds_other P m one ns (declared s n m) name (by (n.name.0 == name) before)
  where
    by : (b : Bool) → (cond b true (is_name_in name ns) ≡ false → P (s name)) → is_name_in name ns ≡ false → P (cond b m (s name))
    by true h none = one
    by false h none = h none

pub items_other : (P : Meaning → Type 0) → P Genvar → P Unknown → (x : ModuleItem) (s : Scope) (name : ℕ) → names_net name x ≡ false → P (s name) → P (item_names x s name)
items_other P g u (i.Inputs at n k names) s name none before = nets_other P net names s name none before
items_other P g u (i.Outputs at n k ports) s name none before = nets_other P net (map declared_name ports) s name none before
items_other P g u (i.Wires at k nets) s name none before = nets_other P net (map declared_name nets) s name none before
items_other P g u (i.Regs at k regs) s name none before = nets_other P net (map declared_reg_name regs) s name none before
items_other P g u (i.Genvars at names) s name none before = kinds_other P Genvar g names s name (λ other. before)
items_other P g u (i.Instances n overrides instances) s name none before = kinds_other P Unknown u (map instance_name instances) s name (λ other. before)
items_other P g u (i.Region at items) s name none before = items_other P g u items s name none before
items_other P g u (i.Items x xs) s name none before =
    items_other P g u xs (item_names x s) name (or_parts (names_net name x) (names_net name xs) none).1
    (items_other P g u x s name (or_parts (names_net name x) (names_net name xs) none).0 before)
items_other P g u (i.Parameters at k ps) s name none before = before
items_other P g u (i.LocalParameters at k ps) s name none before = before
items_other P g u (i.Assigns at xs) s name none before = before
items_other P g u (i.Combinational at x) s name none before = before
items_other P g u (i.Clocked at n x) s name none before = before
items_other P g u (i.Loop at h n items) s name none before = before
items_other P g u (i.Conditional xs) s name none before = before
items_other P g u (i.Branch at c n items) s name none before = before
items_other P g u i.NoItem s name none before = before

pub ports_other : (P : Meaning → Type 0) (ps : PortList) (s : Scope) (name : ℕ) → names_port name ps ≡ false → P (s name) → P (port_names ps s name)
ports_other P NoPorts s name none before = before
ports_other P (NamedPorts names) s name none before = before
ports_other P (DeclaredPorts ports) s name none before = nets_other P net (map port_name ports) s name none before

-- ---- names that are hidden

-- a net among these items stands for nothing, any other name for what it stood for
pub items_hidden : (P : Meaning → Type 0) → P Unknown → (x : ModuleItem) (s : Scope) (name : ℕ) → (names_net name x ≡ false → P (s name)) → P (hidden x s name)
items_hidden P u (i.Inputs at n k names) s name before = kinds_other P Unknown u names s name before
items_hidden P u (i.Outputs at n k ports) s name before = kinds_other P Unknown u (map declared_name ports) s name before
items_hidden P u (i.Wires at k nets) s name before = kinds_other P Unknown u (map declared_name nets) s name before
items_hidden P u (i.Regs at k regs) s name before = kinds_other P Unknown u (map declared_reg_name regs) s name before
items_hidden P u (i.Region at items) s name before = items_hidden P u items s name before
items_hidden P u (i.Items x xs) s name before =
    items_hidden P u xs (hidden x s) name
    (λ no_later. items_hidden P u x s name (λ no_first. before (or_from (names_net name x) (names_net name xs) no_first no_later)))
items_hidden P u (i.Genvars at names) s name before = before refl
items_hidden P u (i.Instances n overrides instances) s name before = before refl
items_hidden P u (i.Parameters at k ps) s name before = before refl
items_hidden P u (i.LocalParameters at k ps) s name before = before refl
items_hidden P u (i.Assigns at xs) s name before = before refl
items_hidden P u (i.Combinational at x) s name before = before refl
items_hidden P u (i.Clocked at n x) s name before = before refl
items_hidden P u (i.Loop at h n items) s name before = before refl
items_hidden P u (i.Conditional xs) s name before = before refl
items_hidden P u (i.Branch at c n items) s name before = before refl
items_hidden P u i.NoItem s name before = before refl

pub ports_hidden : (P : Meaning → Type 0) → P Unknown → (ps : PortList) (s : Scope) (name : ℕ) → (names_port name ps ≡ false → P (s name)) → P (hidden_ports ps s name)
ports_hidden P u NoPorts s name before = before refl
ports_hidden P u (NamedPorts names) s name before = before refl
ports_hidden P u (DeclaredPorts ports) s name before = kinds_other P Unknown u (map port_name ports) s name before

-- ---- names in reach

-- what is so of every name before a block, and of genvars, of nothing and of each signal of the module with its width, is so of every name
-- where the block begins
pub opened_fits : (P : Meaning → Type 0) (w : ℕ → Writer) (m : ModuleSignals) (b : Option ℕ) (items : ModuleItem) (scope : Scope) → P Genvar → P Unknown
    → ((k width lsb : ℕ) (signed : Bool) (writer : Writer) → is_width width ≡ true → is_signal k width (widths_of (signals_in m)) ≡ true → P (Signal k width lsb signed writer))
    → ((name : ℕ) → P (scope name)) → (name : ℕ) → P (with_signals w (signals_in m) b (hidden items (item_names items scope)) name)
opened_fits P w m b items scope g u one before name =
    entered_fits P w m b one (hidden items (item_names items scope)) name
    (λ none. items_hidden P u items (item_names items scope) name (λ other. items_other P g u items scope name other (before name)))

-- and so it is of every name where the module begins, before which nothing has a name
pub began_fits : (P : Meaning → Type 0) (w : ℕ → Writer) (m : ModuleSignals) (d : ModuleDeclaration) → P Genvar → P Unknown
    → ((k width lsb : ℕ) (signed : Bool) (writer : Writer) → is_width width ≡ true → is_signal k width (widths_of (signals_in m)) ≡ true → P (Signal k width lsb signed writer))
    → (name : ℕ) → P ((unit_reach_in w (signals_in m) d).scope name)
began_fits P w m d g u one name =
    entered_fits P w m None one (hidden_module d (own_names d)) name
    (λ none. items_hidden P u d.items (hidden_ports d.ports (own_names d)) name
    (λ no_item. ports_hidden P u d.ports (own_names d) name
    (λ no_port. items_other P g u d.items (port_names d.ports nowhere) name no_item (ports_other P d.ports nowhere name no_port u))))

-- ---- the same of being one of the module's signals

pub opened : (m : ModuleSignals) (w : ℕ → Writer) (b : Option ℕ) (items : ModuleItem) (scope : Scope)
    → ((name : ℕ) → IsOneOf (widths_of (signals_in m)) (scope name))
    → (name : ℕ) → IsOneOf (widths_of (signals_in m)) (with_signals w (signals_in m) b (hidden items (item_names items scope)) name)
opened m w b items scope before name =
    opened_fits (IsOneOf (widths_of (signals_in m))) w m b items scope tt tt (λ k width lsb signed writer wide there. (wide, there)) before name

pub began : (m : ModuleSignals) (w : ℕ → Writer) (d : ModuleDeclaration) (name : ℕ)
    → IsOneOf (widths_of (signals_in m)) ((unit_reach_in w (signals_in m) d).scope name)
began m w d name = began_fits (IsOneOf (widths_of (signals_in m))) w m d tt tt (λ k width lsb signed writer wide there. (wide, there)) name

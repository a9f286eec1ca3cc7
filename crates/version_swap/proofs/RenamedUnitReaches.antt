-- The names in reach at each step of a unit, with the numbers of its signals, under other names (IEEE 1364-2005, 12.7).
use Rattle.std.proofs.Common.{◌≡◌, ℕ, suc, Bool, true, false, if◌then◌else◌, List, [], ◌∷◌, map, Option, Some, None, slice_get, refl, ◌∙◌, ap}
use Rattle.std.proofs.Math.Path.{fun_ext}
use Rattle.std.proofs.lemmas.Option.{slice_get-map}
use Rattle.std.specs.Option.{option_map}
use Rattle.ls_text.specs.declared.name_id.NameId.{NameId}
use Rattle.verilog_ast.specs.Declarations.{PortList, NoPorts, NamedPorts, DeclaredPorts}
use Rattle.verilog_ast.specs.Items as i
use Rattle.verilog_ast.specs.Items.{ModuleItem, ModuleDeclaration}
use Rattle.verilog_ast.specs.Renamed.{renamed_identifier}
use Rattle.verilog_ast.specs.Renaming.{declared_as, declared_reg_as, port_as, ports_as, item_as, declaration_as}
use Rattle.width_rules.specs.declared.writer.Writer.{Writer}
use Rattle.width_rules.specs.Renaming.{MeansSame}
use Rattle.width_rules.specs.Scopes.{Unknown, Scope}
use Rattle.gen_unroll.specs.Declarations.{declared, declared_name, declared_reg_name, port_name}
use Rattle.gen_unroll.specs.Reaches.{Reach, reach_in, in_reach, same_block}
use Rattle.gen_unroll.specs.Steps.{ModuleStep, Opened}
use Rattle.gen_unroll.specs.Signals.{NamedSignal}
use Rattle.gen_unroll.specs.Numbers.{NumberedSignal, in_block_from}
use Rattle.gen_unroll.specs.UnitReaches.{meaning_of_signal, all_signals, with_signals, hidden, hidden_ports, hidden_module, unit_reach_in, with_opened, unit_in_reach, writer_at, writer_of}
use Rattle.elaborate.specs.Renaming.{KeepsApart, SameReach, step_as}
use Rattle.elaborate.proofs.RenamedNames.{declared_so, all_declared_so, parts_so, port_name_so, same_beginning, same_reach}
use Rattle.version_swap.specs.RenamedFindings.{signal_as}

-- ---- the signals of a block

-- a test that comes out alike
either_so : (f : NameId → NameId) (w : ℕ → Writer) (b : Bool) (xs ys ps qs : List NumberedSignal) (scope other : Scope)
    → MeansSame f (all_signals w xs scope) (all_signals w ps other) → MeansSame f (all_signals w ys scope) (all_signals w qs other)
    → MeansSame f (all_signals w (if b then xs else ys) scope) (all_signals w (if b then ps else qs) other)
either_so f w true xs ys ps qs scope other first second = first
either_so f w false xs ys ps qs scope other first second = second

block_so : (f : NameId → NameId) (w : ℕ → Writer) (k : ℕ) (b : Option ℕ) (xs : List NamedSignal) (scope other : Scope) → KeepsApart f
    → MeansSame f scope other
    → MeansSame f (all_signals w (in_block_from k b xs) scope) (all_signals w (in_block_from k b (map (signal_as f) xs)) other)
block_so f w k b [] scope other apart same = same
block_so f w k b (x ∷ xs) scope other apart same =
    either_so f w (same_block b x.block) (record { number = k; signal = x } ∷ in_block_from (suc k) b xs) (in_block_from (suc k) b xs)
    (record { number = k; signal = signal_as f x } ∷ in_block_from (suc k) b (map (signal_as f) xs))
    (in_block_from (suc k) b (map (signal_as f) xs)) scope other
    (block_so f w (suc k) b xs (declared scope x.name (meaning_of_signal w k x))
    (declared other (renamed_identifier f x.name) (meaning_of_signal w k x)) apart
    (declared_so f scope other x.name (meaning_of_signal w k x) apart same))
    (block_so f w (suc k) b xs scope other apart same)

signals_so : (f : NameId → NameId) (w : ℕ → Writer) (xs : List NamedSignal) (b : Option ℕ) (scope other : Scope) → KeepsApart f
    → MeansSame f scope other → MeansSame f (with_signals w xs b scope) (with_signals w (map (signal_as f) xs) b other)
signals_so f w xs b scope other apart same = block_so f w 0 b xs scope other apart same

-- ---- nets and variables without a number

hidden_so : (f : NameId → NameId) (scope other : Scope) (x : ModuleItem) → KeepsApart f → MeansSame f scope other
    → MeansSame f (hidden x scope) (hidden (item_as f x) other)
hidden_so f scope other (i.Inputs at by k ns) apart same = all_declared_so f scope other Unknown ns apart same
hidden_so f scope other (i.Outputs at by k xs) apart same = parts_so f scope other Unknown declared_name (declared_as f) (λ x. refl) xs apart same
hidden_so f scope other (i.Wires at k xs) apart same = parts_so f scope other Unknown declared_name (declared_as f) (λ x. refl) xs apart same
hidden_so f scope other (i.Regs at k xs) apart same = parts_so f scope other Unknown declared_reg_name (declared_reg_as f) (λ x. refl) xs apart same
hidden_so f scope other (i.Region at xs) apart same = hidden_so f scope other xs apart same
hidden_so f scope other (i.Items x xs) apart same =
    hidden_so f (hidden x scope) (hidden (item_as f x) other) xs apart (hidden_so f scope other x apart same)
hidden_so f scope other rest apart same = same

hidden_ports_so : (f : NameId → NameId) (scope other : Scope) (ps : PortList) → KeepsApart f → MeansSame f scope other
    → MeansSame f (hidden_ports ps scope) (hidden_ports (ports_as f ps) other)
hidden_ports_so f scope other NoPorts apart same = same
hidden_ports_so f scope other (NamedPorts ns) apart same = same
hidden_ports_so f scope other (DeclaredPorts ps) apart same = parts_so f scope other Unknown port_name (port_as f) (port_name_so f) ps apart same

hidden_module_so : (f : NameId → NameId) (scope other : Scope) (m : ModuleDeclaration) → KeepsApart f → MeansSame f scope other
    → MeansSame f (hidden_module m scope) (hidden_module (declaration_as f m) other)
hidden_module_so f scope other m apart same =
    hidden_so f (hidden_ports m.ports scope) (hidden_ports (ports_as f m.ports) other) m.items apart
    (hidden_ports_so f scope other m.ports apart same)

-- ---- at each step

pub same_unit_beginning : (f : NameId → NameId) (w : ℕ → Writer) (xs : List NamedSignal) (m : ModuleDeclaration) → KeepsApart f
    → SameReach f (unit_reach_in w xs m) (unit_reach_in w (map (signal_as f) xs) (declaration_as f m))
same_unit_beginning f w xs m apart = record {
  names = signals_so f w xs None (hidden_module m (reach_in m).scope) (hidden_module (declaration_as f m) (reach_in (declaration_as f m)).scope)
      apart (hidden_module_so f (reach_in m).scope (reach_in (declaration_as f m)).scope m apart (same_beginning f m apart).names);
  outer = tt;
  blocks = refl;
}

opened_so : (f : NameId → NameId) (w : ℕ → Writer) (xs : List NamedSignal) (s : ModuleStep) (here there : Reach) → KeepsApart f
    → SameReach f here there → SameReach f (with_opened w xs s here) (with_opened w (map (signal_as f) xs) (step_as f s) there)
opened_so f w xs (Opened b items) here there apart same = record {
  names = signals_so f w xs (Some b.number) (hidden items here.scope) (hidden (item_as f items) there.scope) apart
      (hidden_so f here.scope there.scope items apart same.names);
  outer = same.outer;
  blocks = same.blocks;
}
opened_so f w xs other here there apart same = same

pub same_unit_reach : (f : NameId → NameId) (w : ℕ → Writer) (xs : List NamedSignal) (s : ModuleStep) (here there : Reach) → KeepsApart f
    → SameReach f here there → SameReach f (unit_in_reach w xs s here) (unit_in_reach w (map (signal_as f) xs) (step_as f s) there)
same_unit_reach f w xs s here there apart same =
    opened_so f w xs s (in_reach s here) (in_reach (step_as f s) there) apart (same_reach f s here there apart same)

-- ---- what may write a signal

writer_so : (f : NameId → NameId) (settled : Bool) (x : Option NamedSignal) → writer_at settled (option_map (signal_as f) x) ≡ writer_at settled x
writer_so f settled None = refl
writer_so f settled (Some x) = refl

pub same_writer : (f : NameId → NameId) (settled : ℕ → Bool) (xs : List NamedSignal) → writer_of settled (map (signal_as f) xs) ≡ writer_of settled xs
same_writer f settled xs =
    fun_ext (λ k. ap (writer_at (settled k)) (slice_get-map (signal_as f) xs k) ∙ writer_so f (settled k) (slice_get xs k))

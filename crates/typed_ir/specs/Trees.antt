-- A tree of instances, each with the unit of its module, and its flat design: each unit copied out at each instance (12.1.2, 12.3.9).
use Rattle.std.specs.Prelude.{◌≡◌, ℕ, zero, suc, ◌+◌, ◌<◌, ◌≤◌, ◌==◌, Bool, true, false, ◌&&◌, List, [], ◌∷◌, ◌++◌, map, length, slice_index, if◌then◌else◌}
use Rattle.typed_ir.specs.declared.lane.Lane.{Lane}
use Rattle.typed_ir.specs.declared.target_form.TargetForm.{TargetForm}
use Rattle.typed_ir.specs.Valuations.{any_within}
use Rattle.typed_ir.specs.Sized.{Sized}
use Rattle.typed_ir.specs.Stmts.{SizedStmt, is_sized, is_legal, is_clocked}
use Rattle.typed_ir.specs.Nodes.{FlatNode, Drive, node_drives, lane_spans, IsComplete, are_lanes, is_legal_node}
use Rattle.typed_ir.specs.Orders.{Each, Member, Distinct}
use Rattle.typed_ir.specs.Cycles.{Signal, Flat, WritesRegisters, block_writes}
use Rattle.typed_ir.specs.Flats.{NodeWritesFirst}
use Rattle.typed_ir.specs.Shifts.{shifted, shifted_lane, shifted_stmt, shifted_node}

-- a node of a module; the children of a module are numbered in item order, and the ports of a child are its first signals
pub data UnitNode : Type 0 where
  Own : (node : FlatNode) → UnitNode
  -- an input connection: lanes by the numbers of the child, the expression by those of the module
  Into : (child : ℕ) (form : TargetForm) (lanes : List Lane) (e : Sized) → UnitNode
  -- an output connection: the other way round
  From : (child : ℕ) (form : TargetForm) (lanes : List Lane) (e : Sized) → UnitNode

pub record SizedUnit : Type 0 where
  pub signals : List Signal
  pub registers : List ℕ
  -- the data inputs
  pub inputs : List ℕ
  pub nodes : List UnitNode
  pub clocked : List SizedStmt

-- instances side by side in one module, in item order; each with those in it
pub data Instances : Type 0 where
  Nothing : Instances
  One : (name : ℕ) (u : SizedUnit) (within after : Instances) → Instances

abbrev pub signals_in : Instances → ℕ
signals_in Nothing = 0
signals_in (One name u within after) = length u.signals + signals_in within + signals_in after

-- the first signals of instances side by side
abbrev pub firsts : ℕ → Instances → List ℕ
firsts first Nothing = []
firsts first (One name u within after) = first ∷ firsts (first + length u.signals + signals_in within) after

-- where an instance stands: its path, its first signal, and those of the instances in it
pub record Standing : Type 0 where
  pub path : List ℕ
  pub first : ℕ
  pub kids : List ℕ

-- what each instance gives, depth first
abbrev pub copied_out : {A : Type 0} → (Standing → SizedUnit → List A) → List ℕ → ℕ → Instances → List A
copied_out own path first Nothing = []
copied_out own path first (One name u within after) =
    own (record { path = path ++ name ∷ []; first = first; kids = firsts (first + length u.signals) within }) u
    ++ (copied_out own (path ++ name ∷ []) (first + length u.signals) within
    ++ copied_out own path (first + length u.signals + signals_in within) after)

abbrev pub node_there : ℕ → (ℕ → ℕ) → UnitNode → FlatNode
node_there first kid (Own node) = shifted_node first node
node_there first kid (Into c form lanes e) = Drive form (map (shifted_lane (kid c)) lanes) (shifted first e)
node_there first kid (From c form lanes e) = Drive form (map (shifted_lane first) lanes) (shifted (kid c) e)

abbrev pub signal_there : List ℕ → Signal → Signal
signal_there path x = record {
  in_module = x.in_module;
  path = path ++ x.path;
  lsb = x.lsb;
  signed = x.signed;
  width = x.width;
  initial = x.initial;
}

abbrev pub signals_at : Standing → SizedUnit → List Signal
signals_at at u = map (signal_there at.path) u.signals

abbrev pub registers_at : Standing → SizedUnit → List ℕ
registers_at at u = map (λ s. at.first + s) u.registers

abbrev pub nodes_at : Standing → SizedUnit → List FlatNode
nodes_at at u = map (node_there at.first (slice_index at.kids)) u.nodes

abbrev pub blocks_at : Standing → SizedUnit → List SizedStmt
blocks_at at u = map (shifted_stmt at.first) u.clocked

-- the data inputs of a design are those of its top
abbrev pub top_inputs : Instances → List ℕ
top_inputs Nothing = []
top_inputs (One name u within after) = u.inputs

abbrev pub flat_of_tree : Instances → Flat
flat_of_tree tree = record {
  signals = copied_out signals_at [] 0 tree;
  registers = copied_out registers_at [] 0 tree;
  inputs = top_inputs tree;
  nodes = copied_out nodes_at [] 0 tree;
  clocked = copied_out blocks_at [] 0 tree;
}

-- ---- what a unit keeps

abbrev pub count : {A : Type 0} → (A → Bool) → List A → ℕ
count f [] = 0
count f (x ∷ xs) = (if f x then 1 else 0) + count f xs

abbrev pub own_drives : ℕ → ℕ → UnitNode → Bool
own_drives s i (Own node) = node_drives node s i
own_drives s i (Into c form lanes e) = false
own_drives s i (From c form lanes e) = any_within (lane_spans lanes) s i

abbrev pub port_drives : ℕ → ℕ → ℕ → UnitNode → Bool
port_drives c s i (Own node) = false
port_drives c s i (Into d form lanes e) = (d == c) && any_within (lane_spans lanes) s i
port_drives c s i (From d form lanes e) = false

-- signal s of the c-th of these instances is one of its data inputs
abbrev pub is_kid_input : Instances → ℕ → ℕ → Type 0
is_kid_input Nothing c s = ⊥
is_kid_input (One name u within after) zero s = Member s u.inputs
is_kid_input (One name u within after) (suc c) s = is_kid_input after c s

-- a node drives signals of its module, or data inputs of the instances in it
abbrev pub IsFit : ℕ → Instances → UnitNode → Type 0
IsFit n within (Own node) = (s i : ℕ) → node_drives node s i ≡ true → s < n
IsFit n within (Into c form lanes e) = (s i : ℕ) → any_within (lane_spans lanes) s i ≡ true → is_kid_input within c s
IsFit n within (From c form lanes e) = (s i : ℕ) → any_within (lane_spans lanes) s i ≡ true → s < n

-- an assignment always; a block has no latch and writes before it reads
abbrev pub IsNodeSound : UnitNode → Type 0
IsNodeSound (Own node) = IsComplete node × NodeWritesFirst node
IsNodeSound (Into c form lanes e) = Unit {0}
IsNodeSound (From c form lanes e) = Unit {0}

pub record IsUnit (u : SizedUnit) : Type 0 where
  pub own : (s i : ℕ) → count (own_drives s i) u.nodes ≤ 1
  pub ports : (c s i : ℕ) → count (port_drives c s i) u.nodes ≤ 1
  -- nothing in the module drives an input or a register
  pub inputs_held : (s i : ℕ) → Member s u.inputs → count (own_drives s i) u.nodes ≡ 0
  pub registers_held : (s i : ℕ) → Member s u.registers → count (own_drives s i) u.nodes ≡ 0
  pub inputs_there : (s : ℕ) → Member s u.inputs → s < length u.signals
  pub registers_there : (s : ℕ) → Member s u.registers → s < length u.signals
  pub nodes : Each IsNodeSound u.nodes
  -- two blocks write no bit together
  pub writers : (s i : ℕ) → count (λ st. block_writes st s i) u.clocked ≤ 1
  pub registers_only : WritesRegisters u.registers u.clocked
  pub registers_once : Distinct u.registers
  pub inputs_once : Distinct u.inputs
  pub apart : (s : ℕ) → Member s u.registers → Member s u.inputs → ⊥

-- the same where these instances stand in it
pub record IsSoundUnit (u : SizedUnit) (within : Instances) : Type 0 where
  pub unit : IsUnit u
  pub fit : Each (IsFit (length u.signals) within) u.nodes

abbrev pub AreSound : Instances → Type 0
AreSound Nothing = Unit {0}
AreSound (One name u within after) = IsSoundUnit u within × AreSound within × AreSound after

-- ---- widths

abbrev pub unit_widths : SizedUnit → List ℕ
unit_widths u = map (λ (x : Signal). x.width) u.signals

-- the widths of the signals of the c-th of these instances
abbrev pub kid_widths : Instances → ℕ → List ℕ
kid_widths Nothing c = []
kid_widths (One name u within after) zero = unit_widths u
kid_widths (One name u within after) (suc c) = kid_widths after c

abbrev pub is_legal_unit_node : List ℕ → (ℕ → List ℕ) → UnitNode → Bool
is_legal_unit_node widths kid (Own node) = is_legal_node node widths
is_legal_unit_node widths kid (Into c form lanes e) = are_lanes lanes (kid c) && is_sized e widths
is_legal_unit_node widths kid (From c form lanes e) = are_lanes lanes widths && is_sized e (kid c)

abbrev pub is_legal_block : List ℕ → SizedStmt → Bool
is_legal_block widths st = is_legal st widths && is_clocked st

pub record IsLegalUnit (u : SizedUnit) (within : Instances) : Type 0 where
  pub nodes : Each (λ x. is_legal_unit_node (unit_widths u) (kid_widths within) x ≡ true) u.nodes
  pub blocks : Each (λ st. is_legal_block (unit_widths u) st ≡ true) u.clocked

abbrev pub AreLegal : Instances → Type 0
AreLegal Nothing = Unit {0}
AreLegal (One name u within after) = IsLegalUnit u within × AreLegal within × AreLegal after

-- What unrolling tells and the names in reach, under other names: what each name's number becomes is told by a function.
use Rattle.std.specs.Prelude.{◌≡◌, ⊤, ℕ, List, [], ◌∷◌, Result, Ok, Err}
use Rattle.std.specs.Option.{option_map}
use Rattle.ls_text.specs.declared.fault.Fault.{Fault}
use Rattle.ls_text.specs.declared.name_id.NameId.{NameId}
use Rattle.ls_text.specs.Texts.{text_at}
use Rattle.verilog_ast.specs.Renamed.{renamed_identifier}
use Rattle.verilog_ast.specs.Renaming.{port_as, item_as}
use Rattle.width_rules.specs.Renaming.{MeansSame, fault_as}
use Rattle.width_rules.specs.Scopes.{Scope}
use Rattle.gen_unroll.specs.Reaches.{Reach}
use Rattle.gen_unroll.specs.Steps.{LoopTurn, GenerateBlock, ModuleStep, Listed, Port, Parameter, Item, Labelled, Opened, Closed}

-- two names stay two
abbrev pub KeepsApart : (NameId → NameId) → Type 0
KeepsApart f = (m n : NameId) → f m ≡ f n → m ≡ n

-- the number of a name, under its other name
abbrev pub number_as : (NameId → NameId) → ℕ → ℕ
number_as f n = (f (record { 0 = n })).0

-- ---- what is told

abbrev pub turn_as : (NameId → NameId) → LoopTurn → LoopTurn
turn_as f t = record { genvar = renamed_identifier f t.genvar; value = t.value }

abbrev pub block_as : (NameId → NameId) → GenerateBlock → GenerateBlock
block_as f b = record { number = b.number; parent = b.parent; label = renamed_identifier f b.label; turn = option_map (turn_as f) b.turn }

abbrev pub step_as : (NameId → NameId) → ModuleStep → ModuleStep
step_as f (Listed n) = Listed (renamed_identifier f n)
step_as f (Port p) = Port (port_as f p)
step_as f (Parameter s n v) = Parameter s (renamed_identifier f n) v
step_as f (Item x) = Item (item_as f x)
step_as f (Labelled n) = Labelled (renamed_identifier f n)
step_as f (Opened b items) = Opened (block_as f b) (item_as f items)
step_as f Closed = Closed

-- what is found, or a fault, each under other names
abbrev pub found_as : {A : Type 0} → (NameId → NameId) → (A → A) → Result A Fault → Result A Fault
found_as f moved (Ok x) = Ok (moved x)
found_as f moved (Err e) = Err (fault_as f e)

-- a value without names stays
abbrev pub answer_as : {A : Type 0} → (NameId → NameId) → Result A Fault → Result A Fault
answer_as f = found_as f (λ x. x)

-- ---- names in reach

-- each name means the same, in one scope after the other
abbrev pub MeanSame : (NameId → NameId) → List Scope → List Scope → Type 0
MeanSame f [] [] = ⊤
MeanSame f [] (t ∷ ts) = ⊥
MeanSame f (s ∷ ss) [] = ⊥
MeanSame f (s ∷ ss) (t ∷ ts) = MeansSame f s t × MeanSame f ss ts

-- in reach under other names is what was in reach, within the same blocks
pub record SameReach (f : NameId → NameId) (here there : Reach) : Type 0 where
  pub names : MeansSame f here.scope there.scope
  pub outer : MeanSame f here.around there.around
  pub blocks : there.blocks ≡ here.blocks

-- ---- texts of names

-- each name has in the second table, under its other number, the text that it has in the first
abbrev pub SpellsSame : (NameId → NameId) → List (List ℕ) → List (List ℕ) → Type 0
SpellsSame f texts others = (n : NameId) → text_at others (f n).0 ≡ text_at texts n.0

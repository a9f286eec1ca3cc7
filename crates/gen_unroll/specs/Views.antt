-- What the types of the code mean.
use Rattle.std.specs.Prelude.{◌≡◌, ⊤, ℕ, List, ◌++◌, map, Option, Result, Ok, Err}
use Rattle.std.specs.Option.{option_map}
use Rattle.ls_text.specs.declared.fault.Fault.{Fault}
use Rattle.ls_text.specs.declared.refusal.Refusal.{Refusal}
use Rattle.ls_text.specs.declared.refusal.Refusal.TheVariants as refusal
use Rattle.typed_ir.specs.declared.constant.Const.{Const}
use Rattle.verilog_ast.specs.Items as i
use Rattle.verilog_ast.specs.Views.{kind_of, declared_of, port_of, plain_item_of, generate_item_of, items_of}
use Rattle.width_rules.specs.Entries.{scope_of}
use Rattle.gen_unroll.specs.declared.bit_range.BitRange.{BitRange as Bounds}
use Rattle.gen_unroll.specs.declared.block.Block.{Block}
use Rattle.gen_unroll.specs.declared.block_id.BlockId.{BlockId}
use Rattle.gen_unroll.specs.declared.parameter_type.ParameterType.{ParameterType as Declaration}
use Rattle.gen_unroll.specs.declared.step.Step.{Step}
use Rattle.gen_unroll.specs.declared.step.Step.TheVariants as step
use Rattle.gen_unroll.specs.declared.turn.Turn.{Turn}
use Rattle.gen_unroll.specs.declared.walk.Walk.{Walk}
use Rattle.gen_unroll.specs.Values.{ConstantValue, constant_of}
use Rattle.gen_unroll.specs.Declarations.{BitRange, ParameterType}
use Rattle.gen_unroll.specs.Steps.{LoopTurn, GenerateBlock, ModuleStep, Listed, Port, Parameter, Item, Labelled, Opened, Closed}
use Rattle.gen_unroll.specs.Told.{Told}
use Rattle.gen_unroll.specs.Unrolled.{State}

abbrev pub bit_range_of : Bounds → BitRange
bit_range_of r = record { width = r.width; low = r.low }

abbrev pub range_width : Bounds → ℕ
range_width r = r.width

abbrev pub parameter_type_of : Declaration → ParameterType
parameter_type_of t = record { width = option_map range_width t.range; signed = t.signed }

abbrev pub override_view : Option Const → Option ConstantValue
override_view = option_map constant_of

abbrev pub turn_of : Turn → LoopTurn
turn_of t = record { genvar = t.genvar; value = constant_of t.value }

abbrev pub number_of : BlockId → ℕ
number_of b = b.0

abbrev pub here_of : Option BlockId → Option ℕ
here_of = option_map number_of

abbrev pub block_of : Block → GenerateBlock
block_of b = record { number = b.number.0; parent = here_of b.parent; label = b.label; turn = option_map turn_of b.turn }

abbrev pub step_of : Step → ModuleStep
step_of (step.Listed n) = Listed n
step_of (step.Port p) = Port (port_of p.now)
step_of (step.Parameter s n v) = Parameter s n (constant_of v)
step_of (step.Inputs at net k ns) = Item (i.Inputs at net (kind_of k.now) ns.now)
step_of (step.Outputs at net k xs) = Item (i.Outputs at net (kind_of k.now) (map declared_of xs.now))
step_of (step.Item x) = Item (plain_item_of x.now)
step_of (step.Label n) = Labelled n
step_of (step.Open b xs) = Opened (block_of b) (items_of (map generate_item_of xs.now))
step_of step.Close = Closed

-- ---- what unrolling goes by

abbrev pub state_of : Walk → State
state_of w = record { scope = scope_of w.scope; overrides = map override_view w.overrides.now; opened = w.opened; left = w.left }

abbrev pub steps_of : Walk → List ModuleStep
steps_of w = map step_of w.steps.items

-- the steps that stand there now are those from before and what is told, and so it ends
pub record Comes (old new : List ModuleStep) (end : Result State Fault) (t : Told State) : Type 0 where
  pub says : new ≡ old ++ t.said
  pub ends : t.ending ≡ end

-- a part of the walk does what the definition says, or memory ran out
abbrev pub Goes : Walk → Walk → Result (Unit {0}) Refusal → Told State → Type 0
Goes old new (Ok x) t = Comes (steps_of old) (steps_of new) (Ok (state_of new)) t
Goes old new (Err (refusal.Fault e)) t = Comes (steps_of old) (steps_of new) (Err e) t
Goes old new (Err refusal.NoMemory) t = ⊤

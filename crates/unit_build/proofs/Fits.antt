-- The names in reach at each step of a module stand for what fits the widths of its signals.
use Rattle.std.proofs.Common.{◌≡◌, ℕ, ◌==◌, ◌<◌, ◌^◌, Bool, true, false, cond, List, [], ◌∷◌}
use Rattle.std.specs.Prelude.{⊤, Option, Some, None}
use Rattle.std.specs.Option.{option_map}
use Rattle.typed_ir.specs.declared.constant.Const.{Const}
use Rattle.typed_ir.specs.Orders.{Each}
use Rattle.typed_ir.specs.Sized.{is_width}
use Rattle.verilog_ast.specs.declared.identifier.Identifier.{Identifier}
use Rattle.verilog_ast.specs.Items.{ModuleDeclaration}
use Rattle.width_rules.specs.declared.writer.Writer.{Writer}
use Rattle.width_rules.specs.Scopes.{Meaning, Constant, Turn, Unknown, Scope}
use Rattle.statement_rules.specs.Fitting.{FitsMeaning, FitsScope}
use Rattle.statement_rules.proofs.Bounds.{width_from}
use Rattle.gen_unroll.specs.declared.step.Step.{Step}
use Rattle.gen_unroll.specs.declared.step.Step.TheVariants as step
use Rattle.gen_unroll.specs.declared.turn.Turn.{Turn as LoopTurnOf}
use Rattle.gen_unroll.specs.Declarations.{declared}
use Rattle.gen_unroll.specs.Reaches.{Reach, scope_around, scopes_behind}
use Rattle.gen_unroll.specs.Steps.{LoopTurn, ModuleStep, Listed, Port, Parameter, Item, Labelled, Opened, Closed}
use Rattle.gen_unroll.specs.Unrolled.{with_turn}
use Rattle.gen_unroll.specs.Values.{ConstantValue, constant_of}
use Rattle.gen_unroll.specs.Views.{turn_of, step_of}
use Rattle.gen_unroll.specs.declared.signal_table.ModuleSignals.{ModuleSignals}
use Rattle.gen_unroll.specs.ModuleViews.{signals_in}
use Rattle.gen_unroll.specs.Sound.{widths_of}
use Rattle.gen_unroll.specs.UnitReaches.{unit_reach_in, unit_in_reach}
use Rattle.gen_unroll.proofs.Placeholders.{opened_fits, began_fits}

-- ---- constants of steps

-- 1 to 128 bits, and a value below 2 ^ width
abbrev pub IsFitValue : ConstantValue → Type 0
IsFitValue v = (is_width v.width ≡ true) × (v.value < 2 ^ v.width)

abbrev pub IsFitTurn : Option LoopTurn → Type 0
IsFitTurn None = ⊤
IsFitTurn (Some t) = IsFitValue t.value

-- a parameter has such a value, and so has the turn of a block
abbrev pub IsFitStep : ModuleStep → Type 0
IsFitStep (Listed n) = ⊤
IsFitStep (Port p) = ⊤
IsFitStep (Parameter s n v) = IsFitValue v
IsFitStep (Item x) = ⊤
IsFitStep (Labelled n) = ⊤
IsFitStep (Opened b items) = IsFitTurn b.turn
IsFitStep Closed = ⊤

value_fits : (v : Const) → IsFitValue (constant_of v)
value_fits v = (width_from v.bits.width (record { least = v.bits.at_least_one; most = v.bits.at_most_128 }), v.bits.fits)

turn_value_fits : (t : Option LoopTurnOf) → IsFitTurn (option_map turn_of t)
turn_value_fits None = tt
turn_value_fits (Some t) = value_fits t.value

-- the steps of the code have such values
pub step_fits : (s : Step) → IsFitStep (step_of s)
step_fits (step.Listed n) = tt
step_fits (step.Port p) = tt
step_fits (step.Parameter s n v) = value_fits v
step_fits (step.Inputs at net k ns) = tt
step_fits (step.Outputs at net k xs) = tt
step_fits (step.Item x) = tt
step_fits (step.Label n) = tt
step_fits (step.Open b xs) = turn_value_fits b.turn
step_fits step.Close = tt

-- ---- names in reach

-- the scope in reach fits, and so do those around it
pub record FitsReach (r : Reach) (widths : List ℕ) : Type 0 where
  pub here : FitsScope r.scope widths
  pub around : Each (λ (s : Scope). FitsScope s widths) r.around

name_fits : (scope : Scope) (n : Identifier) (m : Meaning) (widths : List ℕ) → FitsScope scope widths → FitsMeaning m widths → FitsScope (declared scope n m) widths
name_fits scope n m widths ok one name = by (n.name.0 == name)
  where
    by : (b : Bool) → FitsMeaning (cond b m (scope name)) widths
    by true = one
    by false = ok name

turn_fits : (t : Option LoopTurn) (scope : Scope) (widths : List ℕ) → IsFitTurn t → FitsScope scope widths → FitsScope (with_turn t scope) widths
turn_fits None scope widths h ok = ok
turn_fits (Some t) scope widths h ok = name_fits scope t.genvar (Turn t.value.width t.value.value t.value.signed) widths ok h

outer_fits : (around : List Scope) (scope : Scope) (widths : List ℕ) → Each (λ (s : Scope). FitsScope s widths) around → FitsScope scope widths
    → FitsScope (scope_around around scope) widths
outer_fits [] scope widths all ok = ok
outer_fits (s ∷ ss) scope widths all ok = all.0

behind_fit : (around : List Scope) (widths : List ℕ) → Each (λ (s : Scope). FitsScope s widths) around → Each (λ (s : Scope). FitsScope s widths) (scopes_behind around)
behind_fit [] widths all = tt
behind_fit (s ∷ ss) widths all = all.1

-- where a module begins
pub begun : (m : ModuleSignals) (w : ℕ → Writer) (d : ModuleDeclaration) → FitsReach (unit_reach_in w (signals_in m) d) (widths_of (signals_in m))
begun m w d = record {
  here = began_fits (λ (x : Meaning). FitsMeaning x (widths_of (signals_in m))) w m d tt tt (λ k width lsb signed writer wide there. (wide, there));
  around = tt;
}

-- behind a step
pub followed : (m : ModuleSignals) (w : ℕ → Writer) (s : ModuleStep) (r : Reach) → IsFitStep s → FitsReach r (widths_of (signals_in m))
    → FitsReach (unit_in_reach w (signals_in m) s r) (widths_of (signals_in m))
followed m w (Listed n) r h ok = ok
followed m w (Port p) r h ok = ok
followed m w (Parameter s n v) r h ok = record { here = name_fits r.scope n (Constant v.width v.value v.signed) (widths_of (signals_in m)) ok.here h; around = ok.around }
followed m w (Item x) r h ok = ok
followed m w (Labelled n) r h ok = record { here = name_fits r.scope n Unknown (widths_of (signals_in m)) ok.here tt; around = ok.around }
followed m w (Opened b items) r h ok = record {
  here = opened_fits (λ (x : Meaning). FitsMeaning x (widths_of (signals_in m))) w m (Some b.number) items (with_turn b.turn r.scope) tt tt
      (λ k width lsb signed writer wide there. (wide, there)) (turn_fits b.turn r.scope (widths_of (signals_in m)) h ok.here);
  around = (ok.here, ok.around);
}
followed m w Closed r h ok = record {
  here = outer_fits r.around r.scope (widths_of (signals_in m)) ok.around ok.here;
  around = behind_fit r.around (widths_of (signals_in m)) ok.around;
}

-- What units have of signals that begin with the ports of a module.
use Rattle.std.proofs.Common.{◌≡◌, ℕ, suc, ◌&&◌, ◌==◌, Bool, not, if◌then◌else◌, List, [], ◌∷◌, map, take, length, refl, sym, ◌∙◌, ap, ap₂, subst}
use Rattle.std.specs.Prelude.{Option, Some, None}
use Rattle.std.proofs.lemmas.Bool.{cond-false, and_left}
use Rattle.ls_text.specs.declared.name_id.NameId.{NameId}
use Rattle.typed_ir.specs.Cycles.{Signal}
use Rattle.typed_ir.specs.declared.port_shape.PortShape.{PortShape}
use Rattle.typed_ir.specs.Shapes as shapes
use Rattle.elaborate.specs.Ports.{PortOutline}
use Rattle.elaborate.specs.Views.{port_of}
use Rattle.gen_unroll.specs.Signals.{NamedSignal}
use Rattle.gen_unroll.specs.UnitLists.{names_behind, unit_signals, is_input, is_data_input, data_inputs_from, data_inputs}
use Rattle.version_swap.specs.Leading.{IsPortSignal, AreNoInputs, AreLeading, rest, port}

-- ---- widths

pub leading_widths : (k : ℕ) (names : List NameId) (ps : List PortOutline) (xs : List NamedSignal) → AreLeading ps xs
    → take (length ps) (map (λ (x : Signal). x.width) (unit_signals k names xs)) ≡ map (λ (p : PortOutline). p.width) ps
leading_widths k names ps xs (rest none) = refl
leading_widths k names ps xs (port {p = p} {ps = qs} {x = x} {xs = ys} is more) =
    ap₂ (λ (w : ℕ) (ws : List ℕ). w ∷ ws) is.width (leading_widths k (names_behind names x) qs ys more)

-- signals that begin with a port
record Leads (p : PortOutline) (ps : List PortOutline) (xs : List NamedSignal) : Type 0 where
  signal : NamedSignal
  others : List NamedSignal
  first : xs ≡ signal ∷ others
  is : IsPortSignal p signal
  more : AreLeading ps others

leads : (p : PortOutline) (ps : List PortOutline) (xs : List NamedSignal) → AreLeading (p ∷ ps) xs → Leads p ps xs
leads p ps xs (port {x = x} {xs = ys} is more) = record { signal = x; others = ys; first = refl; is = is; more = more }

shape_widths_from : (k : ℕ) (names : List NameId) (ports : List PortShape) (xs : List NamedSignal) → AreLeading (map port_of ports) xs
    → take (length ports) (map (λ (x : Signal). x.width) (unit_signals k names xs)) ≡ map (λ (p : PortShape). p.width) ports
shape_widths_from k names [] xs so = refl
shape_widths_from k names (p ∷ ps) xs so =
    let l = leads (port_of p) (map port_of ps) xs so in
    ap (λ (ys : List NamedSignal). take (suc (length ps)) (map (λ (x : Signal). x.width) (unit_signals k names ys))) l.first
    ∙ ap₂ (λ (w : ℕ) (ws : List ℕ). w ∷ ws) l.is.width (shape_widths_from k (names_behind names l.signal) ps l.others l.more)

pub leading_shape_widths : (k : ℕ) (names : List NameId) (ports : List PortShape) (ps : List PortOutline) (xs : List NamedSignal)
    → map port_of ports ≡ ps → AreLeading ps xs
    → take (length ports) (map (λ (x : Signal). x.width) (unit_signals k names xs)) ≡ map (λ (p : PortShape). p.width) ports
leading_shape_widths k names ports ps xs same so =
    shape_widths_from k names ports xs (subst (λ (qs : List PortOutline). AreLeading qs xs) (sym same) so)

-- ---- data inputs

no_inputs_from : (clock : Option NameId) (k : ℕ) (xs : List NamedSignal) → AreNoInputs xs → data_inputs_from k clock xs ≡ []
no_inputs_from clock k [] none = refl
no_inputs_from clock k (x ∷ xs) none =
    cond-false (is_data_input clock x) (k ∷ data_inputs_from (suc k) clock xs) (data_inputs_from (suc k) clock xs)
    (and_left (is_input x.kind) (not (shapes.is_clock clock x.name.name)) none.0)
    ∙ no_inputs_from clock (suc k) xs none.1

same_clock : (clock : Option NameId) (x : NamedSignal) (p : PortShape) → IsPortSignal (port_of p) x
    → shapes.is_clock clock x.name.name ≡ shapes.is_clock clock p.name
same_clock None x p is = refl
same_clock (Some c) x p is = ap (λ (n : ℕ). c.0 == n) is.name

same_input : (clock : Option NameId) (x : NamedSignal) (p : PortShape) → IsPortSignal (port_of p) x
    → is_data_input clock x ≡ shapes.is_data_input clock p
same_input clock x p is = ap₂ (λ (a b : Bool). a && not b) is.input (same_clock clock x p is)

none_lead : (xs : List NamedSignal) → AreLeading [] xs → AreNoInputs xs
none_lead xs (rest none) = none

inputs_from : (clock : Option NameId) (k : ℕ) (ports : List PortShape) (xs : List NamedSignal) → AreLeading (map port_of ports) xs
    → data_inputs_from k clock xs ≡ shapes.data_inputs clock k ports
inputs_from clock k [] xs so = no_inputs_from clock k xs (none_lead xs so)
inputs_from clock k (p ∷ ps) xs so =
    let l = leads (port_of p) (map port_of ps) xs so in
    ap (data_inputs_from k clock) l.first
    ∙ ap₂ (λ (b : Bool) (js : List ℕ). if b then k ∷ js else js) (same_input clock l.signal p l.is) (inputs_from clock (suc k) ps l.others l.more)

pub leading_inputs : (clock : Option NameId) (ports : List PortShape) (ps : List PortOutline) (xs : List NamedSignal) → map port_of ports ≡ ps
    → AreLeading ps xs
    → data_inputs clock xs ≡ shapes.data_inputs clock 0 ports
leading_inputs clock ports ps xs same so = inputs_from clock 0 ports xs (subst (λ (qs : List PortOutline). AreLeading qs xs) (sym same) so)

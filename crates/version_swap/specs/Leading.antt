-- The ports of a module and the signals of its unit, one by one (IEEE Std 1364-2005, 12.3).
use Rattle.std.specs.Prelude.{◌≡◌, ⊤, false, List, [], ◌∷◌}
use Rattle.gen_unroll.specs.Declarations.{declared_width}
use Rattle.elaborate.specs.Ports.{PortOutline}
use Rattle.gen_unroll.specs.Signals.{NamedSignal}
use Rattle.gen_unroll.specs.UnitLists.{is_input}

-- a signal is a port: it has its name, width and sign, and is an input where the port is one
pub record IsPortSignal (p : PortOutline) (x : NamedSignal) : Type 0 where
  pub name : x.name.name.0 ≡ p.name
  pub input : is_input x.kind ≡ p.input
  pub width : declared_width x.range ≡ p.width
  pub signed : x.signed ≡ p.signed

abbrev pub AreNoInputs : List NamedSignal → Type 0
AreNoInputs [] = ⊤
AreNoInputs (x ∷ xs) = (is_input x.kind ≡ false) × AreNoInputs xs

-- signals begin with these ports, one by one, and none behind them is an input
pub data AreLeading : List PortOutline → List NamedSignal → Type 0 where
  rest : {xs : List NamedSignal} → AreNoInputs xs → AreLeading [] xs
  port : {p : PortOutline} {ps : List PortOutline} {x : NamedSignal} {xs : List NamedSignal} → IsPortSignal p x → AreLeading ps xs
      → AreLeading (p ∷ ps) (x ∷ xs)

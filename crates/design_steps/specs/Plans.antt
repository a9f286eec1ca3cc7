-- Where signals, next values and constants stand among the words, and what the words say of the signals.
use Rattle.std.specs.Prelude.{◌≡◌, ℕ, ◌^◌, ◌<◌, ◌≤◌, List, length, slice_index}
use Rattle.typed_ir.specs.Valuations.{Valuation}
use Rattle.typed_ir.specs.Orders.{Member}

pub record Plan : Type 0 where
  -- where a signal stands
  pub slot : ℕ → ℕ
  -- where the next value of a register stands
  pub next : ℕ → ℕ
  -- where a constant stands
  pub place : ℕ → ℕ
  -- the widths of the signals, by their numbers
  pub widths : List ℕ
  -- the constants that stand somewhere
  pub constants : List ℕ

-- what the words say of the signals
abbrev pub signals : Plan → Valuation → Valuation
signals l w = λ s. w (l.slot s)

abbrev pub width_at : Plan → ℕ → ℕ
width_at l s = slice_index l.widths s

-- all stand below n, and words are as wide as any signal; next values and constants stand apart from all else. Signals may share a slot
pub record IsApart (l : Plan) (registers : List ℕ) (n : ℕ) : Type 0 where
  pub few : (s : ℕ) → width_at l s ≤ 128
  pub slots : (s : ℕ) → l.slot s < n
  pub nexts : (s : ℕ) → Member s registers → l.next s < n
  pub places : (v : ℕ) → l.place v < n
  pub slot_next : (s t : ℕ) → Member t registers → l.slot s ≡ l.next t → ⊥
  pub slot_place : (s v : ℕ) → l.slot s ≡ l.place v → ⊥
  pub next_place : (s v : ℕ) → Member s registers → l.next s ≡ l.place v → ⊥
  pub next_next : (s t : ℕ) → Member s registers → Member t registers → l.next s ≡ l.next t → s ≡ t

-- values fit their widths, and the constants are there
pub record IsReady (l : Plan) (registers : List ℕ) (w : Valuation) : Type 0 where
  pub fits : (s : ℕ) → s < length l.widths → w (l.slot s) < 2 ^ width_at l s
  pub next_fits : (s : ℕ) → Member s registers → w (l.next s) < 2 ^ width_at l s
  pub holds : (v : ℕ) → Member v l.constants → w (l.place v) ≡ v

-- a signal whose slot no other has
abbrev pub IsAlone : Plan → ℕ → Type 0
IsAlone l s = (t : ℕ) → l.slot t ≡ l.slot s → t ≡ s

-- a constant that stands somewhere
abbrev pub IsKnown : Plan → ℕ → Type 0
IsKnown l v = Member v l.constants

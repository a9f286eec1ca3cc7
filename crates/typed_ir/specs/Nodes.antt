-- Nodes: what each drives, reads and gives (IEEE Std 1364-2005, 6.1, 9.7.5, 12.3.9).
use Rattle.std.specs.Prelude.{◌≡◌, length, ℕ, ◌/◌, ◌^◌, Bool, true, ◌&&◌, nat_lt, List, [], ◌∷◌, map}
use Rattle.typed_ir.specs.declared.span.Span.{Span}
use Rattle.typed_ir.specs.declared.lane.Lane.{Lane}
use Rattle.typed_ir.specs.declared.shown_target.ShownTarget.{ShownTarget}
use Rattle.typed_ir.specs.declared.target_form.TargetForm.{TargetForm}
use Rattle.typed_ir.specs.Valuations.{Valuation, Places, placed, any_within, nowhere}
use Rattle.typed_ir.specs.Sized.{Sized, value_of, reads, is_span}
use Rattle.typed_ir.specs.Stmts.{SizedTarget, Fixed, Moving, SizedStmt, exec, targets, open_reads, IsWhole, is_legal, is_sized}
use Rattle.typed_ir.specs.Orders.{at_or, Precedes, IsOrderOf}

-- what drives some bits at all times, with how its first target is shown
pub data FlatNode : Type 0 where
  -- a continuous assignment or a connection; its lanes are the parts of its target
  Drive : (form : TargetForm) (lanes : List Lane) (e : Sized) → FlatNode
  -- a combinational block, and which of its targets is the first in the text
  Block : (shown : ShownTarget) (body : SizedStmt) → FlatNode

-- the bits of x put into the lanes, one lane after another
abbrev pub spread : List Lane → ℕ → Valuation → Valuation
spread [] x env = env
spread (l ∷ ls) x env = spread ls x (placed l.span (x / 2 ^ l.shift) env)

-- the parts of a target whose indices are constant: their bits are known
abbrev pub known_lanes : List SizedTarget → List Lane
known_lanes [] = []
known_lanes (Fixed lane ∷ ts) = lane ∷ known_lanes ts
known_lanes (Moving reach index ∷ ts) = known_lanes ts

abbrev pub lane_spans : List Lane → List Span
lane_spans lanes = map (λ (l : Lane). l.span) lanes

-- env with the bits of these spans as `from` has them
abbrev pub copied : List Span → Valuation → Valuation → Valuation
copied [] from env = env
copied (p ∷ ps) from env = copied ps from (placed p (from p.signal / 2 ^ p.low) env)

-- env with the bits that the node drives as it gives them over v
unfoldable pub drive : FlatNode → Valuation → Valuation → Valuation
drive (Drive form lanes e) v env = spread lanes (value_of e v) env
drive (Block shown body) v env = copied (targets body) (exec body v) env

unfoldable pub node_drives : FlatNode → Places
node_drives (Drive form lanes e) = any_within (lane_spans lanes)
node_drives (Block shown body) = any_within (targets body)

unfoldable pub node_reads : FlatNode → Places
node_reads (Drive form lanes e) = reads e
node_reads (Block shown body) = open_reads body nowhere

-- an assignment always, a block where it has no latch
unfoldable pub IsComplete : FlatNode → Type 0
IsComplete (Drive form lanes e) = Unit {0}
IsComplete (Block shown body) = IsWhole body

-- the same by the node's number
abbrev pub drive_at : List FlatNode → ℕ → Valuation → Valuation → Valuation
drive_at nodes k = at_or drive (λ v env. env) nodes k

abbrev pub drives_at : List FlatNode → ℕ → Places
drives_at nodes k = at_or node_drives nowhere nodes k

abbrev pub reads_at : List FlatNode → ℕ → Places
reads_at nodes k = at_or node_reads nowhere nodes k

-- all nodes, each once, after those that drive a bit that it reads
abbrev pub IsOrder : List FlatNode → List ℕ → Type 0
IsOrder nodes order = IsOrderOf (Precedes (drives_at nodes) (reads_at nodes)) (length nodes) order

-- no bit has two drivers
abbrev pub OneDriver : List FlatNode → Type 0
OneDriver nodes = (a b s i : ℕ) → drives_at nodes a s i ≡ true → drives_at nodes b s i ≡ true → a ≡ b

-- whether the widths agree
abbrev pub are_lanes : List Lane → List ℕ → Bool
are_lanes [] widths = true
are_lanes (l ∷ ls) widths = (nat_lt l.shift 128 && is_span l.span widths) && are_lanes ls widths

unfoldable pub is_legal_node : FlatNode → List ℕ → Bool
is_legal_node (Drive form lanes e) widths = are_lanes lanes widths && is_sized e widths
is_legal_node (Block shown body) widths = is_legal body widths

abbrev pub are_legal : List FlatNode → List ℕ → Bool
are_legal [] widths = true
are_legal (n ∷ ns) widths = is_legal_node n widths && are_legal ns widths

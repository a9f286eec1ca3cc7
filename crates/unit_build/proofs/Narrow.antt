-- What items with widths that agree drive and write lies in the 128 bits that a signal can have.
use Rattle.std.proofs.Common.{◌≡◌, ℕ, zero, suc, ◌+◌, ◌≤◌, ◌&&◌, true, nat_le, nat_lt, List, [], ◌∷◌, ◌++◌, length, map, arith, leb-true}
use Rattle.std.specs.Prelude.{Option, Some, None, slice_index}
use Rattle.std.specs.Option.{option_map}
use Rattle.typed_ir.specs.declared.lane.Lane.{Lane}
use Rattle.typed_ir.specs.declared.span.Span.{Span}
use Rattle.typed_ir.specs.Nodes.{FlatNode, Drive, Block, lane_spans, are_lanes, is_legal_node}
use Rattle.typed_ir.specs.Orders.{Each}
use Rattle.typed_ir.specs.Sized.{is_width, is_signal, is_span}
use Rattle.typed_ir.specs.Stmts.{SizedTarget, Fixed, Moving, SizedStmt, SizedArms, Skip, Assign, Later, Then, If, Case, Arm, Default, span_of, targets, arm_targets, later_targets, later_arm_targets, is_sized, is_target, are_targets, are_items, is_legal, are_legal_arms, is_clocked}
use Rattle.typed_ir.proofs.Cases.{and_left, and_right}
use Rattle.typed_ir.proofs.Lists.{each_append}
use Rattle.typed_ir.specs.Items.{SizedBody, Node, Clocked, Initial, PlacedItem}
use Rattle.typed_ir.specs.Trees.{UnitNode, Own, Into, From, is_legal_unit_node}
use Rattle.driver_rules.specs.Writes.{flat_spans, node_spans, spans_of}
use Rattle.gen_unroll.specs.declared.bit_range.BitRange.{BitRange as Bounds}
use Rattle.gen_unroll.specs.Declarations.{declared_width}
use Rattle.gen_unroll.specs.Views.{bit_range_of}
use Rattle.gen_unroll.specs.declared.named_signal.NamedSignal.{NamedSignal as Named}
use Rattle.gen_unroll.specs.declared.signal_table.ModuleSignals.{ModuleSignals}
use Rattle.gen_unroll.specs.ModuleViews.{signals_in}
use Rattle.gen_unroll.specs.SignalViews.{signal_of}
use Rattle.gen_unroll.specs.Sound.{widths_of}
use Rattle.unit_build.proofs.ItemLaws.{IsLegalBody, AreLegalItems}

-- ---- widths of at most 128 bits

abbrev pub AreFew : List ℕ → Type 0
AreFew widths = Each (λ (w : ℕ). w ≤ 128) widths

range_few : (r : Option Bounds) → declared_width (option_map bit_range_of r) ≤ 128
range_few None = omega arith
range_few (Some r) = r.at_most_128

all_few : (xs : List Named) → AreFew (widths_of (map signal_of xs))
all_few [] = tt
all_few (x ∷ xs) = (range_few x.range, all_few xs)

-- those of the signals of a module
pub signals_few : (m : ModuleSignals) → AreFew (widths_of (signals_in m))
signals_few m = all_few m.signals.items

few_at : (widths : List ℕ) (k : ℕ) → AreFew widths → slice_index widths k ≤ 128
few_at [] k few = omega arith
few_at (w ∷ ws) zero few = few.0
few_at (w ∷ ws) (suc k) few = few_at ws k few.1

-- ---- spans

abbrev IsNarrow : Span → Type 0
IsNarrow q = q.low + q.width ≤ 128

abbrev pub AreNarrow : List Span → Type 0
AreNarrow qs = Each (λ (q : Span). q.low + q.width ≤ 128) qs

span_narrow : (q : Span) (widths : List ℕ) → AreFew widths → is_span q widths ≡ true → IsNarrow q
span_narrow q widths few h =
    let inside = and_right (nat_lt q.signal (length widths)) (nat_le 1 q.width && nat_le (q.low + q.width) (slice_index widths q.signal)) h in
    let below = leb-true (q.low + q.width) (slice_index widths q.signal) (and_right (nat_le 1 q.width) (nat_le (q.low + q.width) (slice_index widths q.signal)) inside) in
    let most = few_at widths q.signal few in
    omega (arith, below, most)

lanes_narrow : (lanes : List Lane) (widths : List ℕ) → AreFew widths → are_lanes lanes widths ≡ true → AreNarrow (lane_spans lanes)
lanes_narrow [] widths few h = tt
lanes_narrow (l ∷ ls) widths few h =
    let one = nat_lt l.shift 128 && is_span l.span widths in (
      span_narrow l.span widths few (and_right (nat_lt l.shift 128) (is_span l.span widths) (and_left one (are_lanes ls widths) h)),
      lanes_narrow ls widths few (and_right one (are_lanes ls widths) h),
    )

target_narrow : (t : SizedTarget) (widths : List ℕ) → AreFew widths → is_target t widths ≡ true → IsNarrow (span_of t)
target_narrow (Fixed lane) widths few h = span_narrow lane.span widths few (and_right (nat_lt lane.shift 128) (is_span lane.span widths) h)
target_narrow (Moving reach index) widths few h =
    let sizes = nat_lt reach.shift 128 && (is_width reach.width && is_width reach.total) in
    let both = and_right (nat_lt reach.shift 128) (is_width reach.width && is_width reach.total)
    (and_left sizes (is_signal reach.signal reach.total widths && is_sized index widths) h) in
    let total = and_right (is_width reach.width) (is_width reach.total) both in
    let most = leb-true reach.total 128 (and_right (nat_le 1 reach.total) (nat_le reach.total 128) total) in
    omega (arith, most)

targets_narrow : (ts : List SizedTarget) (widths : List ℕ) → AreFew widths → are_targets ts widths ≡ true → AreNarrow (map span_of ts)
targets_narrow [] widths few h = tt
targets_narrow (t ∷ ts) widths few h = (
  target_narrow t widths few (and_left (is_target t widths) (are_targets ts widths) h),
  targets_narrow ts widths few (and_right (is_target t widths) (are_targets ts widths) h),
)

-- ---- statements

both_narrow : (xs ys : List Span) → AreNarrow xs → AreNarrow ys → AreNarrow (xs ++ ys)
both_narrow xs ys h k = each_append (λ (q : Span). q.low + q.width ≤ 128) xs ys h k

mutual
  blocking_narrow : (st : SizedStmt) (widths : List ℕ) → AreFew widths → is_legal st widths ≡ true → AreNarrow (targets st)
  blocking_narrow Skip widths few h = tt
  blocking_narrow (Assign parts e) widths few h = targets_narrow parts widths few (and_left (are_targets parts widths) (is_sized e widths) h)
  blocking_narrow (Later parts e) widths few h = tt
  blocking_narrow (Then a b) widths few h =
      both_narrow (targets a) (targets b) (blocking_narrow a widths few (and_left (is_legal a widths) (is_legal b widths) h))
      (blocking_narrow b widths few (and_right (is_legal a widths) (is_legal b widths) h))
  blocking_narrow (If c a b) widths few h =
      let both = and_right (is_sized c widths) (is_legal a widths && is_legal b widths) h in
      both_narrow (targets a) (targets b) (blocking_narrow a widths few (and_left (is_legal a widths) (is_legal b widths) both))
      (blocking_narrow b widths few (and_right (is_legal a widths) (is_legal b widths) both))
  blocking_narrow (Case e arms) widths few h = blocking_arms_narrow arms widths few (and_right (is_sized e widths) (are_legal_arms arms widths) h)

  blocking_arms_narrow : (arms : SizedArms) (widths : List ℕ) → AreFew widths → are_legal_arms arms widths ≡ true → AreNarrow (arm_targets arms)
  blocking_arms_narrow (Arm items body rest) widths few h =
      let both = and_right (are_items items widths) (is_legal body widths && are_legal_arms rest widths) h in
      both_narrow (targets body) (arm_targets rest) (blocking_narrow body widths few (and_left (is_legal body widths) (are_legal_arms rest widths) both))
      (blocking_arms_narrow rest widths few (and_right (is_legal body widths) (are_legal_arms rest widths) both))
  blocking_arms_narrow (Default otherwise) widths few h = blocking_narrow otherwise widths few h

mutual
  later_narrow : (st : SizedStmt) (widths : List ℕ) → AreFew widths → is_legal st widths ≡ true → AreNarrow (later_targets st)
  later_narrow Skip widths few h = tt
  later_narrow (Assign parts e) widths few h = tt
  later_narrow (Later parts e) widths few h = targets_narrow parts widths few (and_left (are_targets parts widths) (is_sized e widths) h)
  later_narrow (Then a b) widths few h =
      both_narrow (later_targets a) (later_targets b) (later_narrow a widths few (and_left (is_legal a widths) (is_legal b widths) h))
      (later_narrow b widths few (and_right (is_legal a widths) (is_legal b widths) h))
  later_narrow (If c a b) widths few h =
      let both = and_right (is_sized c widths) (is_legal a widths && is_legal b widths) h in
      both_narrow (later_targets a) (later_targets b) (later_narrow a widths few (and_left (is_legal a widths) (is_legal b widths) both))
      (later_narrow b widths few (and_right (is_legal a widths) (is_legal b widths) both))
  later_narrow (Case e arms) widths few h = later_arms_narrow arms widths few (and_right (is_sized e widths) (are_legal_arms arms widths) h)

  later_arms_narrow : (arms : SizedArms) (widths : List ℕ) → AreFew widths → are_legal_arms arms widths ≡ true → AreNarrow (later_arm_targets arms)
  later_arms_narrow (Arm items body rest) widths few h =
      let both = and_right (are_items items widths) (is_legal body widths && are_legal_arms rest widths) h in
      both_narrow (later_targets body) (later_arm_targets rest) (later_narrow body widths few (and_left (is_legal body widths) (are_legal_arms rest widths) both))
      (later_arms_narrow rest widths few (and_right (is_legal body widths) (are_legal_arms rest widths) both))
  later_arms_narrow (Default otherwise) widths few h = later_narrow otherwise widths few h

-- ---- items

flat_narrow : (n : FlatNode) (widths : List ℕ) → AreFew widths → is_legal_node n widths ≡ true → AreNarrow (flat_spans n)
unfolding is_legal_node
flat_narrow (Drive form lanes e) widths few h = lanes_narrow lanes widths few (and_left (are_lanes lanes widths) (is_sized e widths) h)
flat_narrow (Block shown body) widths few h = blocking_narrow body widths few h

node_narrow : (n : UnitNode) (widths : List ℕ) (kids : ℕ → List ℕ) → AreFew widths → is_legal_unit_node widths kids n ≡ true → AreNarrow (node_spans n)
node_narrow (Own node) widths kids few h = flat_narrow node widths few h
node_narrow (Into child form lanes e) widths kids few h = tt
node_narrow (From child form lanes e) widths kids few h = lanes_narrow lanes widths few (and_left (are_lanes lanes widths) (is_sized e (kids child)) h)

body_narrow : (b : SizedBody) (widths : List ℕ) (kids : ℕ → List ℕ) → AreFew widths → IsLegalBody widths kids b → AreNarrow (spans_of b)
body_narrow (Node node) widths kids few h = node_narrow node widths kids few h
body_narrow (Clocked st) widths kids few h = later_narrow st widths few (and_left (is_legal st widths) (is_clocked st) h)
body_narrow (Initial s) widths kids few h = tt

pub items_narrow : (xs : List PlacedItem) (widths : List ℕ) (kids : ℕ → List ℕ) → AreFew widths → AreLegalItems widths kids xs
    → Each (λ (x : PlacedItem). Each (λ (q : Span). q.low + q.width ≤ 128) (spans_of x.body)) xs
items_narrow [] widths kids few h = tt
items_narrow (x ∷ xs) widths kids few h = (body_narrow x.body widths kids few h.0, items_narrow xs widths kids few h.1)

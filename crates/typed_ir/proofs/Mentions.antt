-- What a node reads is what its text reads and it doesn't write itself; and the bits that it drives lie in signals.
use Rattle.std.proofs.Common.{◌≡◌, ℕ, ◌+◌, ◌<◌, ◌≤◌, Bool, true, false, ◌||◌, ◌&&◌, not, ◌==◌, nat_le, nat_lt, List, [], ◌∷◌, ◌++◌, map, length, refl, sym, ◌∙◌, ap₂, arith, true≢false}
use Rattle.std.specs.Prelude.{slice_index}
use Rattle.std.proofs.lemmas.Bool.{eqb-true, leb-true, ltb-true, or_from}
use Rattle.typed_ir.specs.declared.span.Span.{Span}
use Rattle.typed_ir.specs.declared.lane.Lane.{Lane}
use Rattle.typed_ir.specs.Valuations.{Places, within, any_within, nowhere}
use Rattle.typed_ir.specs.Sized.{reads, is_span, is_signal, is_width}
use Rattle.typed_ir.specs.Stmts.{SizedTarget, Fixed, Moving, SizedStmt, SizedArms, Skip, Assign, Later, Then, If, Case, Arm, Default, span_of, targets, arm_targets, later_targets, later_arm_targets, certain, known_after, known_after_arms, index_reads, open_indices, item_reads, open_reads, open_arm_reads, is_sized, is_target, are_targets, are_items, is_legal, are_legal_arms}
use Rattle.typed_ir.specs.Nodes.{FlatNode, Drive, Block, lane_spans, node_drives, node_reads, are_lanes, is_legal_node}
use Rattle.typed_ir.specs.Flats.{NodeWritesFirst}
use Rattle.typed_ir.specs.Touches.{all_reads, all_arm_reads, mentions, is_block}
use Rattle.typed_ir.proofs.Cases.{by_cases, or_left, or_right, left_or, right_or, and_left, and_right, only_right, or_none}
use Rattle.typed_ir.proofs.Locals.{any_within-append, first_of_two, second_of_two}

-- ---- reads

and_not : (a k : Bool) → k ≡ false → (a && not k) ≡ a
and_not true true h = sym h
and_not true false h = refl
and_not false k h = refl

and_same : (a b c : Bool) → a ≡ c → b ≡ c → (a && b) ≡ c
and_same true b c h k = k
and_same false b c h k = h

or_map : (a b c d : Bool) → (a ≡ true → c ≡ true) → (b ≡ true → d ≡ true) → (a || b) ≡ true → (c || d) ≡ true
or_map true b c d f g h = left_or c d (f refl)
or_map false b c d f g h = right_or c d (g h)

certain_free : (ts : List SizedTarget) (s i : ℕ) → any_within (map span_of ts) s i ≡ false → certain ts s i ≡ false
certain_free [] s i h = refl
certain_free (Fixed lane ∷ ts) s i h =
    or_from (within lane.span s i) (certain ts s i) (or_left (within lane.span s i) (any_within (map span_of ts) s i) h)
    (certain_free ts s i (or_right (within lane.span s i) (any_within (map span_of ts) s i) h))
certain_free (Moving reach index ∷ ts) s i h =
    certain_free ts s i (or_right (within (span_of (Moving reach index)) s i) (any_within (map span_of ts) s i) h)

-- a bit that isn't written isn't known anew
mutual
  known_stays : (st : SizedStmt) (known : Places) (s i : ℕ) → any_within (targets st) s i ≡ false → known_after st known s i ≡ known s i
  known_stays Skip known s i h = refl
  known_stays (Assign parts e) known s i h = or_none (known s i) (certain parts s i) (certain_free parts s i h)
  known_stays (Later parts e) known s i h = refl
  known_stays (Then a b) known s i h =
      known_stays b (known_after a known) s i (second_of_two (targets a) (targets b) s i h)
      ∙ known_stays a known s i (first_of_two (targets a) (targets b) s i h)
  known_stays (If c a b) known s i h =
      and_same (known_after a known s i) (known_after b known s i) (known s i)
      (known_stays a known s i (first_of_two (targets a) (targets b) s i h))
      (known_stays b known s i (second_of_two (targets a) (targets b) s i h))
  known_stays (Case e arms) known s i h = known_stays_arms arms known s i h

  known_stays_arms : (arms : SizedArms) (known : Places) (s i : ℕ) → any_within (arm_targets arms) s i ≡ false
      → known_after_arms arms known s i ≡ known s i
  known_stays_arms (Arm items body rest) known s i h =
      and_same (known_after body known s i) (known_after_arms rest known s i) (known s i)
      (known_stays body known s i (first_of_two (targets body) (arm_targets rest) s i h))
      (known_stays_arms rest known s i (second_of_two (targets body) (arm_targets rest) s i h))
  known_stays_arms (Default otherwise) known s i h = known_stays otherwise known s i h

-- the indices of an assignment, where it doesn't write the bit
indices_are : (ts : List SizedTarget) (known : Places) (s i : ℕ) → any_within (map span_of ts) s i ≡ false → known s i ≡ false
    → open_indices ts known s i ≡ index_reads ts s i
indices_are [] known s i h k = refl
indices_are (Fixed lane ∷ ts) known s i h k =
    indices_are ts (λ s' i'. known s' i' || within lane.span s' i') s i (or_right (within lane.span s i) (any_within (map span_of ts) s i) h)
    (or_from (known s i) (within lane.span s i) k (or_left (within lane.span s i) (any_within (map span_of ts) s i) h))
indices_are (Moving reach index ∷ ts) known s i h k =
    ap₂ (λ x y. x || y) (and_not (reads index s i) (known s i) k)
    (indices_are ts known s i (or_right (within (span_of (Moving reach index)) s i) (any_within (map span_of ts) s i) h) k)

indices_read : (ts : List SizedTarget) (known : Places) (s i : ℕ) → open_indices ts known s i ≡ true → index_reads ts s i ≡ true
indices_read [] known s i h = h
indices_read (Fixed lane ∷ ts) known s i h = indices_read ts (λ s' i'. known s' i' || within lane.span s' i') s i h
indices_read (Moving reach index ∷ ts) known s i h =
    or_map (reads index s i && not (known s i)) (open_indices ts known s i) (reads index s i) (index_reads ts s i)
    (and_left (reads index s i) (not (known s i))) (indices_read ts known s i) h

-- a bit that isn't written is read openly wherever it is read
mutual
  pub open_is : (st : SizedStmt) (known : Places) (s i : ℕ) → any_within (targets st) s i ≡ false → known s i ≡ false
      → open_reads st known s i ≡ all_reads st s i
  open_is Skip known s i h k = refl
  open_is (Assign parts e) known s i h k = ap₂ (λ x y. x || y) (and_not (reads e s i) (known s i) k) (indices_are parts known s i h k)
  open_is (Later parts e) known s i h k = and_not (reads e s i || index_reads parts s i) (known s i) k
  open_is (Then a b) known s i h k =
      ap₂ (λ x y. x || y) (open_is a known s i (first_of_two (targets a) (targets b) s i h) k)
      (open_is b (known_after a known) s i (second_of_two (targets a) (targets b) s i h)
      (known_stays a known s i (first_of_two (targets a) (targets b) s i h) ∙ k))
  open_is (If c a b) known s i h k =
      ap₂ (λ x y. x || y) (and_not (reads c s i) (known s i) k)
      (ap₂ (λ x y. x || y) (open_is a known s i (first_of_two (targets a) (targets b) s i h) k)
      (open_is b known s i (second_of_two (targets a) (targets b) s i h) k))
  open_is (Case e arms) known s i h k = ap₂ (λ x y. x || y) (and_not (reads e s i) (known s i) k) (open_arms_are arms known s i h k)

  open_arms_are : (arms : SizedArms) (known : Places) (s i : ℕ) → any_within (arm_targets arms) s i ≡ false → known s i ≡ false
      → open_arm_reads arms known s i ≡ all_arm_reads arms s i
  open_arms_are (Arm items body rest) known s i h k =
      ap₂ (λ x y. x || y) (and_not (item_reads items s i) (known s i) k)
      (ap₂ (λ x y. x || y) (open_is body known s i (first_of_two (targets body) (arm_targets rest) s i h) k)
      (open_arms_are rest known s i (second_of_two (targets body) (arm_targets rest) s i h) k))
  open_arms_are (Default otherwise) known s i h k = open_is otherwise known s i h k

-- what is read openly is read
mutual
  pub open_read : (st : SizedStmt) (known : Places) (s i : ℕ) → open_reads st known s i ≡ true → all_reads st s i ≡ true
  open_read Skip known s i h = h
  open_read (Assign parts e) known s i h =
      or_map (reads e s i && not (known s i)) (open_indices parts known s i) (reads e s i) (index_reads parts s i)
      (and_left (reads e s i) (not (known s i))) (indices_read parts known s i) h
  open_read (Later parts e) known s i h = and_left (reads e s i || index_reads parts s i) (not (known s i)) h
  open_read (Then a b) known s i h =
      or_map (open_reads a known s i) (open_reads b (known_after a known) s i) (all_reads a s i) (all_reads b s i)
      (open_read a known s i) (open_read b (known_after a known) s i) h
  open_read (If c a b) known s i h =
      or_map (reads c s i && not (known s i)) (open_reads a known s i || open_reads b known s i) (reads c s i) (all_reads a s i || all_reads b s i)
      (and_left (reads c s i) (not (known s i)))
      (or_map (open_reads a known s i) (open_reads b known s i) (all_reads a s i) (all_reads b s i) (open_read a known s i) (open_read b known s i)) h
  open_read (Case e arms) known s i h =
      or_map (reads e s i && not (known s i)) (open_arm_reads arms known s i) (reads e s i) (all_arm_reads arms s i)
      (and_left (reads e s i) (not (known s i))) (open_arm_read arms known s i) h

  open_arm_read : (arms : SizedArms) (known : Places) (s i : ℕ) → open_arm_reads arms known s i ≡ true → all_arm_reads arms s i ≡ true
  open_arm_read (Arm items body rest) known s i h =
      or_map (item_reads items s i && not (known s i)) (open_reads body known s i || open_arm_reads rest known s i) (item_reads items s i) (all_reads body s i || all_arm_reads rest s i)
      (and_left (item_reads items s i) (not (known s i)))
      (or_map (open_reads body known s i) (open_arm_reads rest known s i) (all_reads body s i) (all_arm_reads rest s i) (open_read body known s i) (open_arm_read rest known s i)) h
  open_arm_read (Default otherwise) known s i h = open_read otherwise known s i h

-- a node reads what its text reads and it doesn't drive
pub reads_foreign : (n : FlatNode) (s i : ℕ) → node_drives n s i ≡ false → mentions n s i ≡ true → node_reads n s i ≡ true
unfolding node_drives node_reads
reads_foreign (Drive form lanes e) s i h m = m
reads_foreign (Block shown body) s i h m = open_is body nowhere s i h refl ∙ m

pub reads_mentioned : (n : FlatNode) (s i : ℕ) → node_reads n s i ≡ true → mentions n s i ≡ true
unfolding node_reads
reads_mentioned (Drive form lanes e) s i h = h
reads_mentioned (Block shown body) s i h = open_read body nowhere s i h

-- an assignment reads whatever its text reads
pub drive_reads : (n : FlatNode) (s i : ℕ) → is_block n ≡ false → mentions n s i ≡ true → node_reads n s i ≡ true
unfolding node_reads
drive_reads (Drive form lanes e) s i is m = m
drive_reads (Block shown body) s i is m = absurd (true≢false is)

-- a block doesn't read what it drives
pub block_apart : (n : FlatNode) (s i : ℕ) → NodeWritesFirst n → is_block n ≡ true → node_reads n s i ≡ true → node_drives n s i ≡ true → ⊥
unfolding node_drives node_reads
block_apart (Drive form lanes e) s i first is r d = true≢false (sym is)
block_apart (Block shown body) s i first is r d = true≢false (sym r ∙ first s i d)

-- ---- the bits that a node drives

span_small : (p : Span) (widths : List ℕ) (s i : ℕ) → ((k : ℕ) → slice_index widths k ≤ 128) → is_span p widths ≡ true → within p s i ≡ true
    → (s < length widths) × (i < 128)
span_small p widths s i most legal h =
    let there = nat_lt p.signal (length widths) in
    let width = nat_le 1 p.width && nat_le (p.low + p.width) (slice_index widths p.signal) in
    let signal : s ≡ p.signal = eqb-true s p.signal (and_left (s == p.signal) (nat_le p.low i && nat_lt i (p.low + p.width)) h) in
    let below : i < p.low + p.width =
    ltb-true i (p.low + p.width) (and_right (nat_le p.low i) (nat_lt i (p.low + p.width)) (and_right (s == p.signal) (nat_le p.low i && nat_lt i (p.low + p.width)) h)) in
    let known : p.signal < length widths = ltb-true p.signal (length widths) (and_left there width legal) in
    let fits : p.low + p.width ≤ slice_index widths p.signal =
    leb-true (p.low + p.width) (slice_index widths p.signal)
    (and_right (nat_le 1 p.width) (nat_le (p.low + p.width) (slice_index widths p.signal)) (and_right there width legal)) in
    let top : slice_index widths p.signal ≤ 128 = most p.signal in
    (omega (arith, signal, known), omega (arith, below, fits, top))

either_small : {P : Type 0} (ps qs : List Span) (s i : ℕ) → any_within (ps ++ qs) s i ≡ true → (any_within ps s i ≡ true → P) → (any_within qs s i ≡ true → P) → P
either_small ps qs s i h f g = by_cases (any_within ps s i) f
    (λ no. g (only_right (any_within ps s i) (any_within qs s i) no (sym (any_within-append ps qs s i) ∙ h)))

lanes_small : (lanes : List Lane) (widths : List ℕ) (s i : ℕ) → ((k : ℕ) → slice_index widths k ≤ 128) → are_lanes lanes widths ≡ true
    → any_within (lane_spans lanes) s i ≡ true → (s < length widths) × (i < 128)
lanes_small [] widths s i most legal h = absurd (true≢false (sym h))
lanes_small (l ∷ ls) widths s i most legal h =
    let one = nat_lt l.shift 128 && is_span l.span widths in
    by_cases (within l.span s i)
    (λ yes. span_small l.span widths s i most (and_right (nat_lt l.shift 128) (is_span l.span widths) (and_left one (are_lanes ls widths) legal)) yes)
    (λ no. lanes_small ls widths s i most (and_right one (are_lanes ls widths) legal) (only_right (within l.span s i) (any_within (lane_spans ls) s i) no h))

part_small : (t : SizedTarget) (widths : List ℕ) (s i : ℕ) → ((k : ℕ) → slice_index widths k ≤ 128) → is_target t widths ≡ true
    → within (span_of t) s i ≡ true → (s < length widths) × (i < 128)
part_small (Fixed lane) widths s i most legal h =
    span_small lane.span widths s i most (and_right (nat_lt lane.shift 128) (is_span lane.span widths) legal) h
part_small (Moving reach index) widths s i most legal h =
    let head = nat_lt reach.shift 128 && (is_width reach.width && is_width reach.total) in
    let tail = is_signal reach.signal reach.total widths && is_sized index widths in
    let is : is_signal reach.signal reach.total widths ≡ true =
    and_left (is_signal reach.signal reach.total widths) (is_sized index widths) (and_right head tail legal) in
    let p = span_of (Moving reach index) in
    let signal : s ≡ reach.signal = eqb-true s reach.signal (and_left (s == reach.signal) (nat_le 0 i && nat_lt i (0 + reach.total)) h) in
    let below : i < 0 + reach.total =
    ltb-true i (0 + reach.total) (and_right (nat_le 0 i) (nat_lt i (0 + reach.total)) (and_right (s == reach.signal) (nat_le 0 i && nat_lt i (0 + reach.total)) h)) in
    let known : reach.signal < length widths =
    ltb-true reach.signal (length widths) (and_left (nat_lt reach.signal (length widths)) (slice_index widths reach.signal == reach.total) is) in
    let total : slice_index widths reach.signal ≡ reach.total =
    eqb-true (slice_index widths reach.signal) reach.total
    (and_right (nat_lt reach.signal (length widths)) (slice_index widths reach.signal == reach.total) is) in
    let top : slice_index widths reach.signal ≤ 128 = most reach.signal in
    (omega (arith, signal, known), omega (arith, below, total, top))

parts_small : (ts : List SizedTarget) (widths : List ℕ) (s i : ℕ) → ((k : ℕ) → slice_index widths k ≤ 128) → are_targets ts widths ≡ true
    → any_within (map span_of ts) s i ≡ true → (s < length widths) × (i < 128)
parts_small [] widths s i most legal h = absurd (true≢false (sym h))
parts_small (t ∷ ts) widths s i most legal h =
    by_cases (within (span_of t) s i)
    (λ yes. part_small t widths s i most (and_left (is_target t widths) (are_targets ts widths) legal) yes)
    (λ no. parts_small ts widths s i most (and_right (is_target t widths) (are_targets ts widths) legal)
    (only_right (within (span_of t) s i) (any_within (map span_of ts) s i) no h))

mutual
  targets_small : (st : SizedStmt) (widths : List ℕ) (s i : ℕ) → ((k : ℕ) → slice_index widths k ≤ 128) → is_legal st widths ≡ true
      → any_within (targets st) s i ≡ true → (s < length widths) × (i < 128)
  targets_small Skip widths s i most legal h = absurd (true≢false (sym h))
  targets_small (Assign parts e) widths s i most legal h =
      parts_small parts widths s i most (and_left (are_targets parts widths) (is_sized e widths) legal) h
  targets_small (Later parts e) widths s i most legal h = absurd (true≢false (sym h))
  targets_small (Then a b) widths s i most legal h =
      either_small (targets a) (targets b) s i h
      (targets_small a widths s i most (and_left (is_legal a widths) (is_legal b widths) legal))
      (targets_small b widths s i most (and_right (is_legal a widths) (is_legal b widths) legal))
  targets_small (If c a b) widths s i most legal h =
      let both : (is_legal a widths && is_legal b widths) ≡ true = and_right (is_sized c widths) (is_legal a widths && is_legal b widths) legal in
      either_small (targets a) (targets b) s i h
      (targets_small a widths s i most (and_left (is_legal a widths) (is_legal b widths) both))
      (targets_small b widths s i most (and_right (is_legal a widths) (is_legal b widths) both))
  targets_small (Case e arms) widths s i most legal h = arm_targets_small arms widths s i most (and_right (is_sized e widths) (are_legal_arms arms widths) legal) h

  arm_targets_small : (arms : SizedArms) (widths : List ℕ) (s i : ℕ) → ((k : ℕ) → slice_index widths k ≤ 128) → are_legal_arms arms widths ≡ true
      → any_within (arm_targets arms) s i ≡ true → (s < length widths) × (i < 128)
  arm_targets_small (Arm items body rest) widths s i most legal h =
      let both : (is_legal body widths && are_legal_arms rest widths) ≡ true = and_right (are_items items widths) (is_legal body widths && are_legal_arms rest widths) legal in
      either_small (targets body) (arm_targets rest) s i h
      (targets_small body widths s i most (and_left (is_legal body widths) (are_legal_arms rest widths) both))
      (arm_targets_small rest widths s i most (and_right (is_legal body widths) (are_legal_arms rest widths) both))
  arm_targets_small (Default otherwise) widths s i most legal h = targets_small otherwise widths s i most legal h

-- they lie in signals
pub drives_small : (n : FlatNode) (widths : List ℕ) (s i : ℕ) → ((k : ℕ) → slice_index widths k ≤ 128) → is_legal_node n widths ≡ true
    → node_drives n s i ≡ true → (s < length widths) × (i < 128)
unfolding node_drives is_legal_node
drives_small (Drive form lanes e) widths s i most legal h =
    lanes_small lanes widths s i most (and_left (are_lanes lanes widths) (is_sized e widths) legal) h
drives_small (Block shown body) widths s i most legal h = targets_small body widths s i most legal h

-- ---- the bits that a clocked block writes

mutual
  pub later_small : (st : SizedStmt) (widths : List ℕ) (s i : ℕ) → ((k : ℕ) → slice_index widths k ≤ 128) → is_legal st widths ≡ true
      → any_within (later_targets st) s i ≡ true → (s < length widths) × (i < 128)
  later_small Skip widths s i most legal h = absurd (true≢false (sym h))
  later_small (Assign parts e) widths s i most legal h = absurd (true≢false (sym h))
  later_small (Later parts e) widths s i most legal h =
      parts_small parts widths s i most (and_left (are_targets parts widths) (is_sized e widths) legal) h
  later_small (Then a b) widths s i most legal h =
      either_small (later_targets a) (later_targets b) s i h
      (later_small a widths s i most (and_left (is_legal a widths) (is_legal b widths) legal))
      (later_small b widths s i most (and_right (is_legal a widths) (is_legal b widths) legal))
  later_small (If c a b) widths s i most legal h =
      let both : (is_legal a widths && is_legal b widths) ≡ true = and_right (is_sized c widths) (is_legal a widths && is_legal b widths) legal in
      either_small (later_targets a) (later_targets b) s i h
      (later_small a widths s i most (and_left (is_legal a widths) (is_legal b widths) both))
      (later_small b widths s i most (and_right (is_legal a widths) (is_legal b widths) both))
  later_small (Case e arms) widths s i most legal h =
      later_arm_small arms widths s i most (and_right (is_sized e widths) (are_legal_arms arms widths) legal) h

  later_arm_small : (arms : SizedArms) (widths : List ℕ) (s i : ℕ) → ((k : ℕ) → slice_index widths k ≤ 128) → are_legal_arms arms widths ≡ true
      → any_within (later_arm_targets arms) s i ≡ true → (s < length widths) × (i < 128)
  later_arm_small (Arm items body rest) widths s i most legal h =
      let both : (is_legal body widths && are_legal_arms rest widths) ≡ true = and_right (are_items items widths) (is_legal body widths && are_legal_arms rest widths) legal in
      either_small (later_targets body) (later_arm_targets rest) s i h
      (later_small body widths s i most (and_left (is_legal body widths) (are_legal_arms rest widths) both))
      (later_arm_small rest widths s i most (and_right (is_legal body widths) (are_legal_arms rest widths) both))
  later_arm_small (Default otherwise) widths s i most legal h = later_small otherwise widths s i most legal h

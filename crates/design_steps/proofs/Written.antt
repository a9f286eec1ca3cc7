-- What is legal writes signals that are there; and the bits that a node writes in place.
use Rattle.std.proofs.Common.{true, false, true≢false, ◌≡◌, ◌||◌, ℕ, zero, suc, ◌+◌, ◌<◌, ◌≤◌, ◌&&◌, nat_le, nat_lt, List, [], ◌∷◌, map, length, refl, sym, ap, ◌∙◌, subst, arith}
use Rattle.std.specs.Prelude.{slice_index, ◌==◌}
use Rattle.std.proofs.lemmas.Bool.{ltb-true, lt-ltb, leb-true, le-leb, eqb-true, eq-eqb, and_from}
use Rattle.typed_ir.specs.declared.span.Span.{Span}
use Rattle.typed_ir.specs.declared.lane.Lane.{Lane}
use Rattle.typed_ir.specs.Orders.{Each, is_member}
use Rattle.typed_ir.specs.Valuations.{within, any_within}
use Rattle.typed_ir.specs.Sized.{reads, is_span, is_signal, is_width}
use Rattle.typed_ir.specs.Stmts.{index_reads, SizedTarget, Fixed, Moving, SizedStmt, SizedArms, Skip, Assign, Later, Then, If, Case, Arm, Default, span_of, is_clocked, are_clocked_arms, targets, arm_targets, later_targets, later_arm_targets, is_target, are_targets, are_items, is_sized, is_legal, are_legal_arms}
use Rattle.typed_ir.specs.Nodes.{FlatNode, Drive, Block, lane_spans, node_drives, drives_at, is_legal_node, are_legal}
use Rattle.typed_ir.specs.Touches.{all_reads, mentions}
use Rattle.typed_ir.proofs.Cases.{by_cases, and_left, and_right, only_right, left_or, right_or, only_left}
use Rattle.typed_ir.proofs.Lists.{each_left, each_right, each_append}
use Rattle.design_steps.specs.Statements.{stmt_constants}
use Rattle.design_steps.specs.Nodes.{parts_of, as_statement, node_at}
use Rattle.design_steps.specs.Pooled.{nodes_constants}
use Rattle.design_steps.specs.Layings.{writes}
use Rattle.design_steps.proofs.Passing.{node_legal}

-- ---- what is legal writes signals alone that are there

-- there, and of some bits
abbrev pub IsThere : List ℕ → Span → Type 0
IsThere ws p = (p.signal < length ws) × (1 ≤ p.width) × (p.low + p.width ≤ slice_index ws p.signal)

pub span_there : (p : Span) (ws : List ℕ) → is_span p ws ≡ true → IsThere ws p
span_there p ws h =
    let rest = nat_le 1 p.width && nat_le (p.low + p.width) (slice_index ws p.signal) in
    let some : 1 ≤ p.width = leb-true 1 p.width
    (and_left (nat_le 1 p.width) (nat_le (p.low + p.width) (slice_index ws p.signal)) (and_right (nat_lt p.signal (length ws)) rest h)) in (
      ltb-true p.signal (length ws) (and_left (nat_lt p.signal (length ws)) rest h),
      some,
      leb-true (p.low + p.width) (slice_index ws p.signal)
          (and_right (nat_le 1 p.width) (nat_le (p.low + p.width) (slice_index ws p.signal)) (and_right (nat_lt p.signal (length ws)) rest h)),
    )

signal_there : (signal width : ℕ) (ws : List ℕ) → is_signal signal width ws ≡ true → signal < length ws
signal_there signal width ws h = ltb-true signal (length ws) (and_left (nat_lt signal (length ws)) (slice_index ws signal == width) h)

signal_wide : (signal width : ℕ) (ws : List ℕ) → is_signal signal width ws ≡ true → slice_index ws signal ≡ width
signal_wide signal width ws h = eqb-true (slice_index ws signal) width (and_right (nat_lt signal (length ws)) (slice_index ws signal == width) h)

target_there : (t : SizedTarget) (ws : List ℕ) → is_target t ws ≡ true → IsThere ws (span_of t)
target_there (Fixed lane) ws h = span_there lane.span ws (and_right (nat_lt lane.shift 128) (is_span lane.span ws) h)
target_there (Moving reach index) ws h =
    let own = nat_lt reach.shift 128 && (is_width reach.width && is_width reach.total) in
    let rest = is_signal reach.signal reach.total ws && is_sized index ws in
    let wide = and_right (is_width reach.width) (is_width reach.total) (and_right (nat_lt reach.shift 128) (is_width reach.width && is_width reach.total) (and_left own rest h)) in
    let some : 1 ≤ reach.total = leb-true 1 reach.total (and_left (nat_le 1 reach.total) (nat_le reach.total 128) wide) in (
      signal_there reach.signal reach.total ws (and_left (is_signal reach.signal reach.total ws) (is_sized index ws) (and_right own rest h)),
      some,
      (let wide_ = signal_wide reach.signal reach.total ws (and_left (is_signal reach.signal reach.total ws) (is_sized index ws) (and_right own rest h)) in omega (arith, wide_)),
    )

module _ (P : Span → Type 0) (ws : List ℕ) (there : (p : Span) → IsThere ws p → P p) where
  parts_there : (ts : List SizedTarget) → are_targets ts ws ≡ true → Each P (map span_of ts)
  parts_there [] h = tt
  parts_there (t ∷ ts) h =
      (there (span_of t) (target_there t ws (and_left (is_target t ws) (are_targets ts ws) h)), parts_there ts (and_right (is_target t ws) (are_targets ts ws) h))

  mutual
    pub targets_there : (st : SizedStmt) → is_legal st ws ≡ true → Each P (targets st)
    targets_there Skip h = tt
    targets_there (Assign parts e) h = parts_there parts (and_left (are_targets parts ws) (is_sized e ws) h)
    targets_there (Later parts e) h = tt
    targets_there (Then a b) h =
        each_append P (targets a) (targets b) (targets_there a (and_left (is_legal a ws) (is_legal b ws) h))
        (targets_there b (and_right (is_legal a ws) (is_legal b ws) h))
    targets_there (If c a b) h =
        let sides = and_right (is_sized c ws) (is_legal a ws && is_legal b ws) h in
        each_append P (targets a) (targets b) (targets_there a (and_left (is_legal a ws) (is_legal b ws) sides))
        (targets_there b (and_right (is_legal a ws) (is_legal b ws) sides))
    targets_there (Case e arms) h = arm_targets_there arms (and_right (is_sized e ws) (are_legal_arms arms ws) h)

    arm_targets_there : (arms : SizedArms) → are_legal_arms arms ws ≡ true → Each P (arm_targets arms)
    arm_targets_there (Arm items body rest) h =
        let both = and_right (are_items items ws) (is_legal body ws && are_legal_arms rest ws) h in
        each_append P (targets body) (arm_targets rest) (targets_there body (and_left (is_legal body ws) (are_legal_arms rest ws) both))
        (arm_targets_there rest (and_right (is_legal body ws) (are_legal_arms rest ws) both))
    arm_targets_there (Default otherwise) h = targets_there otherwise h

  mutual
    pub later_there : (st : SizedStmt) → is_legal st ws ≡ true → Each P (later_targets st)
    later_there Skip h = tt
    later_there (Assign parts e) h = tt
    later_there (Later parts e) h = parts_there parts (and_left (are_targets parts ws) (is_sized e ws) h)
    later_there (Then a b) h =
        each_append P (later_targets a) (later_targets b) (later_there a (and_left (is_legal a ws) (is_legal b ws) h))
        (later_there b (and_right (is_legal a ws) (is_legal b ws) h))
    later_there (If c a b) h =
        let sides = and_right (is_sized c ws) (is_legal a ws && is_legal b ws) h in
        each_append P (later_targets a) (later_targets b) (later_there a (and_left (is_legal a ws) (is_legal b ws) sides))
        (later_there b (and_right (is_legal a ws) (is_legal b ws) sides))
    later_there (Case e arms) h = later_arms_there arms (and_right (is_sized e ws) (are_legal_arms arms ws) h)

    later_arms_there : (arms : SizedArms) → are_legal_arms arms ws ≡ true → Each P (later_arm_targets arms)
    later_arms_there (Arm items body rest) h =
        let both = and_right (are_items items ws) (is_legal body ws && are_legal_arms rest ws) h in
        each_append P (later_targets body) (later_arm_targets rest) (later_there body (and_left (is_legal body ws) (are_legal_arms rest ws) both))
        (later_arms_there rest (and_right (is_legal body ws) (are_legal_arms rest ws) both))
    later_arms_there (Default otherwise) h = later_there otherwise h

-- without blocking assignments nothing is written in place
mutual
  pub clocked_targets : (P : Span → Type 0) (st : SizedStmt) → is_clocked st ≡ true → Each P (targets st)
  clocked_targets P Skip h = tt
  clocked_targets P (Assign parts e) h = absurd (true≢false (sym h))
  clocked_targets P (Later parts e) h = tt
  clocked_targets P (Then a b) h =
      each_append P (targets a) (targets b) (clocked_targets P a (and_left (is_clocked a) (is_clocked b) h)) (clocked_targets P b (and_right (is_clocked a) (is_clocked b) h))
  clocked_targets P (If c a b) h =
      each_append P (targets a) (targets b) (clocked_targets P a (and_left (is_clocked a) (is_clocked b) h)) (clocked_targets P b (and_right (is_clocked a) (is_clocked b) h))
  clocked_targets P (Case e arms) h = clocked_arm_targets P arms h

  clocked_arm_targets : (P : Span → Type 0) (arms : SizedArms) → are_clocked_arms arms ≡ true → Each P (arm_targets arms)
  clocked_arm_targets P (Arm items body rest) h =
      each_append P (targets body) (arm_targets rest) (clocked_targets P body (and_left (is_clocked body) (are_clocked_arms rest) h))
      (clocked_arm_targets P rest (and_right (is_clocked body) (are_clocked_arms rest) h))
  clocked_arm_targets P (Default otherwise) h = clocked_targets P otherwise h

-- ---- what a node drives

pub within_own : (p : Span) → 1 ≤ p.width → within p p.signal p.low ≡ true
within_own p wide =
    and_from (p.signal == p.signal) (nat_le p.low p.low && nat_lt p.low (p.low + p.width)) (eq-eqb p.signal p.signal refl)
    (and_from (nat_le p.low p.low) (nat_lt p.low (p.low + p.width)) (le-leb p.low p.low (omega arith)) (lt-ltb p.low (p.low + p.width) (omega (arith, wide))))

pub any_own : (all ps : List Span) → ((s i : ℕ) → any_within ps s i ≡ true → any_within all s i ≡ true) → Each (λ (p : Span). 1 ≤ p.width) ps
    → Each (λ (p : Span). any_within all p.signal p.low ≡ true) ps
any_own all [] more h = tt
any_own all (p ∷ ps) more h = (
  more p.signal p.low (ap (λ b. b || any_within ps p.signal p.low) (within_own p h.0)),
  any_own all ps (λ s i e. more s i (right_or (within p s i) (any_within ps s i) e)) h.1,
)

parts_spans : (lanes : List Lane) → map span_of (parts_of lanes) ≡ lane_spans lanes
parts_spans [] = refl
parts_spans (lane ∷ lanes) = ap (λ ps. lane.span ∷ ps) (parts_spans lanes)

-- what is left to do of a node is written in bits that it drives
pub driven_targets : (k : FlatNode) (s i : ℕ) → any_within (targets (as_statement k)) s i ≡ true → node_drives k s i ≡ true
unfolding node_drives
driven_targets (Drive form lanes e) s i h = ap (λ ps. any_within ps s i) (sym (parts_spans lanes)) ∙ h
driven_targets (Block shown body) s i h = h

pub each_with : (P Q R : Span → Type 0) (ps : List Span) → ((p : Span) → P p → Q p → R p) → Each P ps → Each Q ps → Each R ps
each_with P Q R [] f h k = tt
each_with P Q R (p ∷ ps) f h k = (f p h.0 k.0, each_with P Q R ps f h.1 k.1)

-- a node writes signals that it drives, and those alone
pub writes_each : (all ps : List Span) → ((s : ℕ) → is_member s (map (λ (p : Span). p.signal) ps) ≡ true → is_member s (map (λ (p : Span). p.signal) all) ≡ true)
    → Each (λ (p : Span). is_member p.signal (map (λ (q : Span). q.signal) all) ≡ true) ps
writes_each all [] more = tt
writes_each all (p ∷ ps) more = (
  more p.signal (ap (λ b. b || is_member p.signal (map (λ (q : Span). q.signal) ps)) (eq-eqb p.signal p.signal refl)),
  writes_each all ps (λ s e. more s (right_or (s == p.signal) (is_member s (map (λ (q : Span). q.signal) ps)) e)),
)

written_bit : (ps : List Span) (s : ℕ) → Each (λ (p : Span). 1 ≤ p.width) ps → is_member s (map (λ (p : Span). p.signal) ps) ≡ true → (i : ℕ) × (any_within ps s i ≡ true)
written_bit [] s wide h = absurd (true≢false (sym h))
written_bit (p ∷ ps) s wide h = by_cases (s == p.signal)
    (λ yes. (p.low, left_or (within p s p.low) (any_within ps s p.low) (ap (λ t. within p t p.low) (eqb-true s p.signal yes) ∙ within_own p wide.0)))
    (λ no. let rest : (i : ℕ) × (any_within ps s i ≡ true) = written_bit ps s wide.1 (only_right (s == p.signal) (is_member s (map (λ (q : Span). q.signal) ps)) no h) in
    (rest.0, right_or (within p s rest.0) (any_within ps s rest.0) rest.1))

pub written_drives : (k : FlatNode) (s : ℕ) (ws : List ℕ) → is_legal_node k ws ≡ true → writes k s ≡ true → (i : ℕ) × (node_drives k s i ≡ true)
written_drives k s ws legal h =
    let st = as_statement k in
    let bit : (i : ℕ) × (any_within (targets st) s i ≡ true) =
    written_bit (targets st) s (targets_there (λ (p : Span). 1 ≤ p.width) ws (λ p there. there.1) st (node_legal k ws legal)) h in
    (bit.0, driven_targets k s bit.0 bit.1)

-- what is read of the statement of a node, the node mentions
lanes_read : (lanes : List Lane) (s i : ℕ) → index_reads (parts_of lanes) s i ≡ false
lanes_read [] s i = refl
lanes_read (lane ∷ lanes) s i = lanes_read lanes s i

pub read_mentioned : (k : FlatNode) (s i : ℕ) → all_reads (as_statement k) s i ≡ true → mentions k s i ≡ true
read_mentioned (Drive form lanes e) s i h = only_left (reads e s i) (index_reads (parts_of lanes) s i) (lanes_read lanes s i) h
read_mentioned (Block shown body) s i h = h

-- a node by its number, with what is known of all
pub each_node : (P : FlatNode → Type 0) (Known : ℕ → Type 0) (ns : List FlatNode) (k : ℕ) (ws : List ℕ) → are_legal ns ws ≡ true → Each Known (nodes_constants ns)
    → ((n : FlatNode) → is_legal_node n ws ≡ true → Each Known (stmt_constants (as_statement n)) → ((s i : ℕ) → node_drives n s i ≡ true → drives_at ns k s i ≡ true) → P n)
    → Each P (node_at ns k)
each_node P Known [] k ws legal known f = tt
each_node P Known (m ∷ ns) zero ws legal known f = (
  f m (and_left (is_legal_node m ws) (are_legal ns ws) legal) (each_left Known (stmt_constants (as_statement m)) (nodes_constants ns) known) (λ s i d. d),
  tt,
)
each_node P Known (m ∷ ns) (suc k) ws legal known f =
    each_node P Known ns k ws (and_right (is_legal_node m ws) (are_legal ns ws) legal) (each_right Known (stmt_constants (as_statement m)) (nodes_constants ns) known) f

-- the bits that a node drives lie in its signals
spans_within : (ps : List Span) (s i : ℕ) (ws : List ℕ) → Each (IsThere ws) ps → any_within ps s i ≡ true → (s < length ws) × (i < slice_index ws s)
spans_within [] s i ws h d = absurd (true≢false (sym d))
spans_within (p ∷ ps) s i ws h d = by_cases (within p s i)
    (λ yes.
    let same : p.signal ≡ s = sym (eqb-true s p.signal (and_left (s == p.signal) (nat_le p.low i && nat_lt i (p.low + p.width)) yes)) in
    let high : i < p.low + p.width = ltb-true i (p.low + p.width)
    (and_right (nat_le p.low i) (nat_lt i (p.low + p.width)) (and_right (s == p.signal) (nat_le p.low i && nat_lt i (p.low + p.width)) yes)) in
    let few = h.0.2 in (
      subst (λ t. t < length ws) same h.0.0,
      subst (λ t. i < slice_index ws t) same (omega (arith, high, few)),
    ))
    (λ no. spans_within ps s i ws h.1 (only_right (within p s i) (any_within ps s i) no d))

node_within : (k : FlatNode) (s i : ℕ) (ws : List ℕ) → is_legal (as_statement k) ws ≡ true → node_drives k s i ≡ true → (s < length ws) × (i < slice_index ws s)
unfolding node_drives
node_within (Drive form lanes e) s i ws h d =
    spans_within (targets (as_statement (Drive form lanes e))) s i ws (targets_there (IsThere ws) ws (λ p there. there) (as_statement (Drive form lanes e)) h)
    (ap (λ ps. any_within ps s i) (parts_spans lanes) ∙ d)
node_within (Block shown body) s i ws h d = spans_within (targets body) s i ws (targets_there (IsThere ws) ws (λ p there. there) body h) d

pub drives_within : (ns : List FlatNode) (k s i : ℕ) (ws : List ℕ) → are_legal ns ws ≡ true → drives_at ns k s i ≡ true → (s < length ws) × (i < slice_index ws s)
drives_within [] k s i ws legal d = absurd (true≢false (sym d))
drives_within (m ∷ ns) zero s i ws legal d = node_within m s i ws (node_legal m ws (and_left (is_legal_node m ws) (are_legal ns ws) legal)) d
drives_within (m ∷ ns) (suc k) s i ws legal d = drives_within ns k s i ws (and_right (is_legal_node m ws) (are_legal ns ws) legal) d

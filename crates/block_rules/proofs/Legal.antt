-- A block that is legal over signals writes bits of these signals.
use Rattle.std.proofs.Common.{◌≡◌, ℕ, ◌+◌, ◌<◌, ◌≤◌, true, ◌&&◌, ◌==◌, nat_le, nat_lt, List, [], ◌∷◌, map, length, All, arith}
use Rattle.std.specs.Prelude.{slice_index}
use Rattle.std.proofs.lemmas.Bool.{ltb-true, leb-true}
use Rattle.std.proofs.lemmas.List.Elements.{All-append, All-nil, All-cons}
use Rattle.typed_ir.specs.declared.span.Span.{Span}
use Rattle.typed_ir.specs.Sized.{is_signal, is_span, is_width}
use Rattle.typed_ir.specs.Stmts.{SizedTarget, Fixed, Moving, SizedStmt, SizedArms, Skip, Assign, Later, Then, If, Case, Arm, Default, span_of, targets, arm_targets, is_sized, is_target, are_targets, are_items, is_legal, are_legal_arms}
use Rattle.typed_ir.proofs.Cases.{and_left, and_right}
use Rattle.block_rules.specs.Paths.{AreNarrow, AreHere}

parts_all : (P : Span → Type 0) (ts : List SizedTarget) (widths : List ℕ) → ((t : SizedTarget) → is_target t widths ≡ true → P (span_of t))
    → are_targets ts widths ≡ true → All P (map span_of ts)
parts_all P [] widths each legal = All-nil P
parts_all P (t ∷ ts) widths each legal =
    All-cons P (span_of t) (map span_of ts) (each t (and_left (is_target t widths) (are_targets ts widths) legal))
    (parts_all P ts widths each (and_right (is_target t widths) (are_targets ts widths) legal))

mutual
  block_all : (P : Span → Type 0) (st : SizedStmt) (widths : List ℕ) → ((t : SizedTarget) → is_target t widths ≡ true → P (span_of t))
      → is_legal st widths ≡ true → All P (targets st)
  block_all P Skip widths each legal = All-nil P
  block_all P (Assign parts e) widths each legal = parts_all P parts widths each (and_left (are_targets parts widths) (is_sized e widths) legal)
  block_all P (Later parts e) widths each legal = All-nil P
  block_all P (Then a b) widths each legal =
      All-append P (targets a) (targets b) (block_all P a widths each (and_left (is_legal a widths) (is_legal b widths) legal))
      (block_all P b widths each (and_right (is_legal a widths) (is_legal b widths) legal))
  block_all P (If c a b) widths each legal =
      let both : (is_legal a widths && is_legal b widths) ≡ true = and_right (is_sized c widths) (is_legal a widths && is_legal b widths) legal in
      All-append P (targets a) (targets b) (block_all P a widths each (and_left (is_legal a widths) (is_legal b widths) both))
      (block_all P b widths each (and_right (is_legal a widths) (is_legal b widths) both))
  block_all P (Case e arms) widths each legal = arms_all P arms widths each (and_right (is_sized e widths) (are_legal_arms arms widths) legal)

  arms_all : (P : Span → Type 0) (arms : SizedArms) (widths : List ℕ) → ((t : SizedTarget) → is_target t widths ≡ true → P (span_of t))
      → are_legal_arms arms widths ≡ true → All P (arm_targets arms)
  arms_all P (Arm items body rest) widths each legal =
      let both : (is_legal body widths && are_legal_arms rest widths) ≡ true = and_right (are_items items widths) (is_legal body widths && are_legal_arms rest widths) legal in
      All-append P (targets body) (arm_targets rest) (block_all P body widths each (and_left (is_legal body widths) (are_legal_arms rest widths) both))
      (arms_all P rest widths each (and_right (is_legal body widths) (are_legal_arms rest widths) both))
  arms_all P (Default otherwise) widths each legal = block_all P otherwise widths each legal

target_here : (widths : List ℕ) (t : SizedTarget) → is_target t widths ≡ true → (span_of t).signal < length widths
target_here widths (Fixed lane) legal =
    ltb-true lane.span.signal (length widths)
    (and_left (nat_lt lane.span.signal (length widths))
    (nat_le 1 lane.span.width && nat_le (lane.span.low + lane.span.width) (slice_index widths lane.span.signal))
    (and_right (nat_lt lane.shift 128) (is_span lane.span widths) legal))
target_here widths (Moving reach index) legal =
    ltb-true reach.signal (length widths)
    (and_left (nat_lt reach.signal (length widths)) (slice_index widths reach.signal == reach.total)
    (and_left (is_signal reach.signal reach.total widths) (is_sized index widths)
    (and_right (nat_lt reach.shift 128 && (is_width reach.width && is_width reach.total)) (is_signal reach.signal reach.total widths && is_sized index widths) legal)))

target_narrow : (widths : List ℕ) → ((k : ℕ) → slice_index widths k ≤ 128) → (t : SizedTarget) → is_target t widths ≡ true
    → (span_of t).low + (span_of t).width ≤ 128
target_narrow widths most (Fixed lane) legal =
    let top : slice_index widths lane.span.signal ≤ 128 = most lane.span.signal in
    let fits : lane.span.low + lane.span.width ≤ slice_index widths lane.span.signal =
    leb-true (lane.span.low + lane.span.width) (slice_index widths lane.span.signal)
    (and_right (nat_le 1 lane.span.width) (nat_le (lane.span.low + lane.span.width) (slice_index widths lane.span.signal))
    (and_right (nat_lt lane.span.signal (length widths))
    (nat_le 1 lane.span.width && nat_le (lane.span.low + lane.span.width) (slice_index widths lane.span.signal))
    (and_right (nat_lt lane.shift 128) (is_span lane.span widths) legal))) in
    omega (arith, top, fits)
target_narrow widths most (Moving reach index) legal =
    let fits : reach.total ≤ 128 =
    leb-true reach.total 128
    (and_right (nat_le 1 reach.total) (nat_le reach.total 128)
    (and_right (is_width reach.width) (is_width reach.total)
    (and_right (nat_lt reach.shift 128) (is_width reach.width && is_width reach.total)
    (and_left (nat_lt reach.shift 128 && (is_width reach.width && is_width reach.total)) (is_signal reach.signal reach.total widths && is_sized index widths) legal)))) in
    omega (arith, fits)

pub legal_here : (st : SizedStmt) (widths : List ℕ) → is_legal st widths ≡ true → AreHere (length widths) st
legal_here st widths legal = block_all (λ (p : Span). p.signal < length widths) st widths (target_here widths) legal

pub legal_narrow : (st : SizedStmt) (widths : List ℕ) → ((k : ℕ) → slice_index widths k ≤ 128) → is_legal st widths ≡ true → AreNarrow st
legal_narrow st widths most legal = block_all (λ (p : Span). p.low + p.width ≤ 128) st widths (target_narrow widths most) legal

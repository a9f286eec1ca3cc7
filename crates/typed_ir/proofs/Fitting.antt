-- Widths: where a list of widths holds another from `first` on, what is legal over the one is legal, shifted, over the other.
use Rattle.std.proofs.Common.{◌≡◌, ℕ, zero, suc, ◌+◌, ◌<◌, ◌≤◌, ◌==◌, ◌&&◌, ◌⊎◌, inl, inr, Bool, true, false, List, [], ◌∷◌, ◌++◌, map, length, slice_index, nat_le, nat_lt, cond, refl, sym, ◌∙◌, ap, ap₂, subst, ltb-true, lt-ltb, true≢false, arith}
use Rattle.std.proofs.lemmas.Bool.{and_from}
use Rattle.std.proofs.lemmas.List.{map-append}
use Rattle.typed_ir.specs.declared.span.Span.{Span}
use Rattle.typed_ir.specs.declared.lane.Lane.{Lane}
use Rattle.typed_ir.specs.Sized.{Sized, Constant, Name, Part, Pick, Unary, Binary, Choice, Concat, Repeat, Resized, agrees, fits_signals, is_signal, is_span, is_width}
use Rattle.typed_ir.specs.Stmts.{SizedTarget, Fixed, Moving, SizedItem, SizedStmt, SizedArms, Skip, Assign, Later, Then, If, Case, Arm, Default, later_targets, later_arm_targets, is_clocked, are_clocked_arms, is_sized, is_target, are_targets, are_items, is_legal, are_legal_arms}
use Rattle.typed_ir.specs.Nodes.{FlatNode, Drive, Block, are_lanes, is_legal_node}
use Rattle.typed_ir.specs.Shifts.{shifted_span, shifted, shifted_lane, shifted_target, shifted_item, shifted_stmt, shifted_arms, shifted_node}
use Rattle.typed_ir.specs.Trees.{count}
use Rattle.typed_ir.proofs.Cases.{and_left, and_right, by_cases}
use Rattle.typed_ir.specs.declared.target_form.TargetForm.{TargetForm}
use Rattle.typed_ir.specs.Valuations.{Places, nowhere}
use Rattle.typed_ir.specs.Orders.{at_or}
use Rattle.typed_ir.proofs.Pulled.{parts_shifted}
use Rattle.typed_ir.proofs.Shifted.{agrees_shifted}

pub record Holds (first : ℕ) (whole part : List ℕ) : Type 0 where
  pub there : (s : ℕ) → s < length part → first + s < length whole
  pub same : (s : ℕ) → s < length part → slice_index whole (first + s) ≡ slice_index part s

pub both_from : (a b c d : Bool) → (a ≡ true → c ≡ true) → (b ≡ true → d ≡ true) → (a && b) ≡ true → (c && d) ≡ true
both_from a b c d f g h = and_from c d (f (and_left a b h)) (g (and_right a b h))

signal_fits : (first : ℕ) (ws part : List ℕ) → Holds first ws part → (s : ℕ) → nat_lt s (length part) ≡ true → nat_lt (first + s) (length ws) ≡ true
signal_fits first ws part holds s h = lt-ltb (first + s) (length ws) (holds.there s (ltb-true s (length part) h))

pub span_fits : (first : ℕ) (ws part : List ℕ) → Holds first ws part → (p : Span) → is_span p part ≡ true → is_span (shifted_span first p) ws ≡ true
span_fits first ws part holds p h =
    let inside : nat_lt p.signal (length part) ≡ true = and_left _ _ h in
    let same = holds.same p.signal (ltb-true p.signal (length part) inside) in
    and_from _ _ (signal_fits first ws part holds p.signal inside)
    (ap (λ w. nat_le 1 p.width && nat_le (p.low + p.width) w) same ∙ and_right (nat_lt p.signal (length part)) _ h)

pub name_fits : (first : ℕ) (ws part : List ℕ) → Holds first ws part → (s w : ℕ) → is_signal s w part ≡ true → is_signal (first + s) w ws ≡ true
name_fits first ws part holds s w h =
    let inside : nat_lt s (length part) ≡ true = and_left _ _ h in
    and_from _ _ (signal_fits first ws part holds s inside)
    (ap (λ x. x == w) (holds.same s (ltb-true s (length part) inside)) ∙ and_right (nat_lt s (length part)) _ h)

pub form_fits : (first : ℕ) (ws part : List ℕ) → Holds first ws part → (e : Sized) → fits_signals e part ≡ true → fits_signals (shifted first e) ws ≡ true
form_fits first ws part holds (Constant width value) h = refl
form_fits first ws part holds (Name signal width) h = name_fits first ws part holds signal width h
form_fits first ws part holds (Part span) h = span_fits first ws part holds span h
form_fits first ws part holds (Pick signal width below signed index) h =
    both_from _ (fits_signals index part) _ _ (signal_fits first ws part holds signal) (form_fits first ws part holds index) h
form_fits first ws part holds (Unary op a) h = form_fits first ws part holds a h
form_fits first ws part holds (Binary op a b) h =
    both_from (fits_signals a part) (fits_signals b part) _ _ (form_fits first ws part holds a) (form_fits first ws part holds b) h
form_fits first ws part holds (Choice c a b) h =
    both_from (fits_signals c part) (fits_signals a part && fits_signals b part) _ _ (form_fits first ws part holds c)
    (both_from (fits_signals a part) (fits_signals b part) _ _ (form_fits first ws part holds a) (form_fits first ws part holds b)) h
form_fits first ws part holds (Concat width a b) h =
    both_from (fits_signals a part) (fits_signals b part) _ _ (form_fits first ws part holds a) (form_fits first ws part holds b) h
form_fits first ws part holds (Repeat width count a) h = form_fits first ws part holds a h
form_fits first ws part holds (Resized a width signed) h = form_fits first ws part holds a h

pub sized_fits : (first : ℕ) (ws part : List ℕ) → Holds first ws part → (e : Sized) → is_sized e part ≡ true → is_sized (shifted first e) ws ≡ true
sized_fits first ws part holds e h =
    both_from (agrees e) (fits_signals e part) _ _ (λ k. agrees_shifted first e ∙ k) (form_fits first ws part holds e) h

target_fits : (first : ℕ) (ws part : List ℕ) → Holds first ws part → (t : SizedTarget) → is_target t part ≡ true → is_target (shifted_target first t) ws ≡ true
target_fits first ws part holds (Fixed lane) h = both_from (nat_lt lane.shift 128) (is_span lane.span part) _ _ (λ k. k) (span_fits first ws part holds lane.span) h
target_fits first ws part holds (Moving reach index) h =
    both_from (nat_lt reach.shift 128 && (is_width reach.width && is_width reach.total)) (is_signal reach.signal reach.total part && is_sized index part) _ _ (λ k. k)
    (both_from (is_signal reach.signal reach.total part) (is_sized index part) _ _ (name_fits first ws part holds reach.signal reach.total)
    (sized_fits first ws part holds index)) h

targets_fit : (first : ℕ) (ws part : List ℕ) → Holds first ws part → (ts : List SizedTarget)
    → are_targets ts part ≡ true → are_targets (map (shifted_target first) ts) ws ≡ true
targets_fit first ws part holds [] h = refl
targets_fit first ws part holds (t ∷ ts) h =
    both_from (is_target t part) (are_targets ts part) _ _ (target_fits first ws part holds t) (targets_fit first ws part holds ts) h

items_fit : (first : ℕ) (ws part : List ℕ) → Holds first ws part → (xs : List SizedItem) → are_items xs part ≡ true → are_items (map (shifted_item first) xs) ws ≡ true
items_fit first ws part holds [] h = refl
items_fit first ws part holds (x ∷ xs) h =
    both_from (is_sized x.item part) (are_items xs part) _ _ (sized_fits first ws part holds x.item) (items_fit first ws part holds xs) h

mutual
  pub stmt_fits : (first : ℕ) (ws part : List ℕ) → Holds first ws part → (st : SizedStmt) → is_legal st part ≡ true → is_legal (shifted_stmt first st) ws ≡ true
  stmt_fits first ws part holds Skip h = refl
  stmt_fits first ws part holds (Assign parts e) h =
      both_from (are_targets parts part) (is_sized e part) _ _ (targets_fit first ws part holds parts) (sized_fits first ws part holds e) h
  stmt_fits first ws part holds (Later parts e) h =
      both_from (are_targets parts part) (is_sized e part) _ _ (targets_fit first ws part holds parts) (sized_fits first ws part holds e) h
  stmt_fits first ws part holds (Then a b) h =
      both_from (is_legal a part) (is_legal b part) _ _ (stmt_fits first ws part holds a) (stmt_fits first ws part holds b) h
  stmt_fits first ws part holds (If c a b) h =
      both_from (is_sized c part) (is_legal a part && is_legal b part) _ _ (sized_fits first ws part holds c)
      (both_from (is_legal a part) (is_legal b part) _ _ (stmt_fits first ws part holds a) (stmt_fits first ws part holds b)) h
  stmt_fits first ws part holds (Case e arms) h =
      both_from (is_sized e part) (are_legal_arms arms part) _ _ (sized_fits first ws part holds e) (arms_fit first ws part holds arms) h

  pub arms_fit : (first : ℕ) (ws part : List ℕ) → Holds first ws part → (arms : SizedArms) → are_legal_arms arms part ≡ true
      → are_legal_arms (shifted_arms first arms) ws ≡ true
  arms_fit first ws part holds (Arm items body rest) h =
      both_from (are_items items part) (is_legal body part && are_legal_arms rest part) _ _ (items_fit first ws part holds items)
      (both_from (is_legal body part) (are_legal_arms rest part) _ _ (stmt_fits first ws part holds body) (arms_fit first ws part holds rest)) h
  arms_fit first ws part holds (Default otherwise) h = stmt_fits first ws part holds otherwise h

lanes_fit : (first : ℕ) (ws part : List ℕ) → Holds first ws part → (ls : List Lane) → are_lanes ls part ≡ true → are_lanes (map (shifted_lane first) ls) ws ≡ true
lanes_fit first ws part holds [] h = refl
lanes_fit first ws part holds (l ∷ ls) h =
    both_from (nat_lt l.shift 128 && is_span l.span part) (are_lanes ls part) _ _
    (both_from (nat_lt l.shift 128) (is_span l.span part) _ _ (λ k. k) (span_fits first ws part holds l.span)) (lanes_fit first ws part holds ls) h

pub node_fits : (first : ℕ) (ws part : List ℕ) → Holds first ws part → (n : FlatNode) → is_legal_node n part ≡ true → is_legal_node (shifted_node first n) ws ≡ true
unfolding is_legal_node
node_fits first ws part holds (Drive form lanes e) h =
    both_from (are_lanes lanes part) (is_sized e part) _ _ (lanes_fit first ws part holds lanes) (sized_fits first ws part holds e) h
node_fits first ws part holds (Block shown body) h = stmt_fits first ws part holds body h

-- a connection: its lanes in one instance, its expression in another
pub joint_fits : (form : TargetForm) (a b : ℕ) (ws port_widths own_widths : List ℕ) → Holds a ws port_widths → Holds b ws own_widths → (lanes : List Lane) (e : Sized)
    → are_lanes lanes port_widths ≡ true → is_sized e own_widths ≡ true → is_legal_node (Drive form (map (shifted_lane a) lanes) (shifted b e)) ws ≡ true
unfolding is_legal_node
joint_fits form a b ws port_widths own_widths there here lanes e h k =
    and_from _ _ (lanes_fit a ws port_widths there lanes h) (sized_fits b ws own_widths here e k)

-- ---- clocked blocks

mutual
  pub clocked_shifted : (first : ℕ) (st : SizedStmt) → is_clocked (shifted_stmt first st) ≡ is_clocked st
  clocked_shifted first Skip = refl
  clocked_shifted first (Assign parts e) = refl
  clocked_shifted first (Later parts e) = refl
  clocked_shifted first (Then a b) = ap₂ (λ x y. x && y) (clocked_shifted first a) (clocked_shifted first b)
  clocked_shifted first (If c a b) = ap₂ (λ x y. x && y) (clocked_shifted first a) (clocked_shifted first b)
  clocked_shifted first (Case e arms) = clocked_arms_shifted first arms

  pub clocked_arms_shifted : (first : ℕ) (arms : SizedArms) → are_clocked_arms (shifted_arms first arms) ≡ are_clocked_arms arms
  clocked_arms_shifted first (Arm items body rest) = ap₂ (λ x y. x && y) (clocked_shifted first body) (clocked_arms_shifted first rest)
  clocked_arms_shifted first (Default otherwise) = clocked_shifted first otherwise

mutual
  pub later_shifted : (first : ℕ) (st : SizedStmt) → later_targets (shifted_stmt first st) ≡ map (shifted_span first) (later_targets st)
  later_shifted first Skip = refl
  later_shifted first (Assign parts e) = refl
  later_shifted first (Later parts e) = parts_shifted first parts
  later_shifted first (Then a b) =
      ap₂ (λ (x y : List Span). x ++ y) (later_shifted first a) (later_shifted first b)
      ∙ sym (map-append (shifted_span first) (later_targets a) (later_targets b))
  later_shifted first (If c a b) =
      ap₂ (λ (x y : List Span). x ++ y) (later_shifted first a) (later_shifted first b)
      ∙ sym (map-append (shifted_span first) (later_targets a) (later_targets b))
  later_shifted first (Case e arms) = later_arms_shifted first arms

  pub later_arms_shifted : (first : ℕ) (arms : SizedArms) → later_arm_targets (shifted_arms first arms) ≡ map (shifted_span first) (later_arm_targets arms)
  later_arms_shifted first (Arm items body rest) =
      ap₂ (λ (x y : List Span). x ++ y) (later_shifted first body) (later_arms_shifted first rest)
      ∙ sym (map-append (shifted_span first) (later_targets body) (later_arm_targets rest))
  later_arms_shifted first (Default otherwise) = later_shifted first otherwise

-- ---- one of each, by counting

one_more : (b : Bool) (n : ℕ) → b ≡ true → cond b 1 0 + n ≡ suc n
one_more true n h = omega arith
one_more false n h = absurd (true≢false (sym h))

at_least : {N : Type 0} (f : N → Places) (xs : List N) (k s i : ℕ) → at_or f nowhere xs k s i ≡ true → 1 ≤ count (λ n. f n s i) xs
at_least f [] k s i h = absurd (true≢false (sym h))
at_least f (n ∷ ns) zero s i h = omega (arith, one_more (f n s i) (count (λ n. f n s i) ns) h)
at_least f (n ∷ ns) (suc k) s i h = omega (arith, at_least f ns k s i h)

-- where at most one has each bit, two that have a bit are the same
pub one_each : {N : Type 0} (f : N → Places) (xs : List N) → ((s i : ℕ) → count (λ n. f n s i) xs ≤ 1)
    → (a b s i : ℕ) → at_or f nowhere xs a s i ≡ true → at_or f nowhere xs b s i ≡ true → a ≡ b
one_each f [] few a b s i h k = absurd (true≢false (sym h))
one_each f (n ∷ ns) few zero zero s i h k = refl
one_each f (n ∷ ns) few zero (suc b) s i h k =
    absurd (omega (arith, few s i, one_more (f n s i) (count (λ n. f n s i) ns) h, at_least f ns b s i k))
one_each f (n ∷ ns) few (suc a) zero s i h k =
    absurd (omega (arith, few s i, one_more (f n s i) (count (λ n. f n s i) ns) k, at_least f ns a s i h))
one_each f (n ∷ ns) few (suc a) (suc b) s i h k = ap suc (one_each f ns (λ s i. omega (arith, few s i)) a b s i h k)

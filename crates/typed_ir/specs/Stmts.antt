-- Statements: what they do, which bits they write, and which they read before they wrote them (IEEE Std 1364-2005, 9.2, 9.4, 9.5).
use Rattle.std.specs.Prelude.{◌≡◌, ℕ, suc, ◌+◌, ◌-◌, ◌/◌, ◌^◌, min, Bool, true, false, not, ◌&&◌, ◌||◌, ◌==◌, nat_lt, if◌then◌else◌, List, [], ◌∷◌, ◌++◌, map, bit_or, ℤ, pos, negsuc}
use Rattle.typed_ir.specs.declared.span.Span.{Span}
use Rattle.typed_ir.specs.declared.lane.Lane.{Lane}
use Rattle.typed_ir.specs.declared.reach.Reach.{Reach}
use Rattle.typed_ir.specs.declared.update.Update.{Update}
use Rattle.typed_ir.specs.Valuations.{Valuation, Places, placed, within, any_within, nowhere}
use Rattle.typed_ir.specs.Sized.{Sized, value_of, width_of, reads, place_of, agrees, fits_signals, is_span, is_signal, is_width}

-- one part of what stands left of an assignment, and which bits of the value go to it: those from `shift` on
pub data SizedTarget : Type 0 where
  Fixed : (lane : Lane) → SizedTarget
  -- bits from a place that is known at run time
  Moving : (reach : Reach) (index : Sized) → SizedTarget

-- one expression of a case item; the ignored bits are those of its don't-care digits (9.5.1)
pub record SizedItem : Type 0 where
  pub ignored : ℕ
  pub item : Sized

mutual
  pub data SizedStmt : Type 0 where
    Skip : SizedStmt
    -- a blocking assignment (9.2.1), and a nonblocking one (9.2.2); the parts left of it from left to right
    Assign : (parts : List SizedTarget) (e : Sized) → SizedStmt
    Later : (parts : List SizedTarget) (e : Sized) → SizedStmt
    Then : (a b : SizedStmt) → SizedStmt
    If : (c : Sized) (a b : SizedStmt) → SizedStmt
    -- a case or casez: its expression, and its arms
    Case : (subject : Sized) (arms : SizedArms) → SizedStmt

  -- the arms of a case, from the first one on; at the end the default
  pub data SizedArms : Type 0 where
    Arm : (items : List SizedItem) (body : SizedStmt) (rest : SizedArms) → SizedArms
    Default : (otherwise : SizedStmt) → SizedArms

-- ---- what an assignment writes

-- the bits of a run from that place on that lie in the variable: one update, or none
abbrev pub moved : Reach → ℤ → ℕ → List Update
moved reach (pos low) x =
    if nat_lt low reach.total
    then record { span = record { signal = reach.signal; low = low; width = min reach.width (reach.total - low) }; value = x } ∷ []
    else []
moved reach (negsuc below) x =
    if nat_lt (suc below) reach.width
    then record {
      span = record { signal = reach.signal; low = 0; width = min (reach.width - suc below) reach.total };
      value = x / 2 ^ suc below;
    } ∷ []
    else []

-- what the assignment of x writes to a part
abbrev pub update_of : SizedTarget → ℕ → Valuation → List Update
update_of (Fixed lane) x env = record { span = lane.span; value = x / 2 ^ lane.shift } ∷ []
update_of (Moving reach index) x env =
    moved reach (place_of reach.below reach.signed (width_of index) (value_of index env)) (x / 2 ^ reach.shift)

-- to all parts, their indices read before anything is written
abbrev pub updates_of : List SizedTarget → ℕ → Valuation → List Update
updates_of [] x env = []
updates_of (t ∷ ts) x env = update_of t x env ++ updates_of ts x env

abbrev pub applied : Update → Valuation → Valuation
applied u env = placed u.span u.value env

-- the updates applied in order, so that the last one wins
abbrev pub all_applied : List Update → Valuation → Valuation
all_applied [] env = env
all_applied (u ∷ us) env = all_applied us (applied u env)

-- the parts written one after another
abbrev pub written : List SizedTarget → ℕ → Valuation → Valuation
written [] x env = env
written (t ∷ ts) x env = written ts x (all_applied (update_of t x env) env)

-- ---- execution

abbrev pub matches_item : ℕ → SizedItem → Valuation → Bool
matches_item subject i env = bit_or subject i.ignored == bit_or (value_of i.item env) i.ignored

abbrev pub matches_any : ℕ → List SizedItem → Valuation → Bool
matches_any subject [] env = false
matches_any subject (i ∷ is) env = matches_item subject i env || matches_any subject is env

abbrev mutual
  -- the valuation after the blocking assignments (9.2.1), conditionals (9.4), cases (9.5) and statements in sequence (9.8.1)
  pub exec : SizedStmt → Valuation → Valuation
  exec Skip env = env
  exec (Assign parts e) env = written parts (value_of e env) env
  exec (Later parts e) env = env
  exec (Then a b) env = exec b (exec a env)
  exec (If c a b) env = if value_of c env == 0 then exec b env else exec a env
  exec (Case e arms) env = exec_arms arms (value_of e env) env

  -- after the first arm with an item that matches the subject, or the default
  pub exec_arms : SizedArms → ℕ → Valuation → Valuation
  exec_arms (Arm items body rest) subject env = if matches_any subject items env then exec body env else exec_arms rest subject env
  exec_arms (Default otherwise) subject env = exec otherwise env

abbrev mutual
  -- the nonblocking updates, in the order of execution (9.2.2)
  pub pending : SizedStmt → Valuation → List Update
  pending Skip env = []
  pending (Assign parts e) env = []
  pending (Later parts e) env = updates_of parts (value_of e env) env
  pending (Then a b) env = pending a env ++ pending b (exec a env)
  pending (If c a b) env = if value_of c env == 0 then pending b env else pending a env
  pending (Case e arms) env = pending_arms arms (value_of e env) env

  pub pending_arms : SizedArms → ℕ → Valuation → List Update
  pending_arms (Arm items body rest) subject env = if matches_any subject items env then pending body env else pending_arms rest subject env
  pending_arms (Default otherwise) subject env = pending otherwise env

-- ---- bits that are written and read, by the text

-- the bits that an assignment to a part may write
abbrev pub span_of : SizedTarget → Span
span_of (Fixed lane) = lane.span
span_of (Moving reach index) = record { signal = reach.signal; low = 0; width = reach.total }

abbrev mutual
  -- the bits that the blocking assignments may write, in the order of the sized statement: of a case with the default last
  pub targets : SizedStmt → List Span
  targets Skip = []
  targets (Assign parts e) = map span_of parts
  targets (Later parts e) = []
  targets (Then a b) = targets a ++ targets b
  targets (If c a b) = targets a ++ targets b
  targets (Case e arms) = arm_targets arms

  pub arm_targets : SizedArms → List Span
  arm_targets (Arm items body rest) = targets body ++ arm_targets rest
  arm_targets (Default otherwise) = targets otherwise

abbrev mutual
  -- the bits that the nonblocking assignments may write
  pub later_targets : SizedStmt → List Span
  later_targets Skip = []
  later_targets (Assign parts e) = []
  later_targets (Later parts e) = map span_of parts
  later_targets (Then a b) = later_targets a ++ later_targets b
  later_targets (If c a b) = later_targets a ++ later_targets b
  later_targets (Case e arms) = later_arm_targets arms

  pub later_arm_targets : SizedArms → List Span
  later_arm_targets (Arm items body rest) = later_targets body ++ later_arm_targets rest
  later_arm_targets (Default otherwise) = later_targets otherwise

-- the bits that an assignment writes for certain
abbrev pub certain : List SizedTarget → Places
certain [] = nowhere
certain (Fixed lane ∷ ts) = λ s i. within lane.span s i || certain ts s i
certain (Moving reach index ∷ ts) = certain ts

abbrev mutual
  -- the bits that are written on every path, where `known` were written before
  pub known_after : SizedStmt → Places → Places
  known_after Skip known = known
  known_after (Assign parts e) known = λ s i. known s i || certain parts s i
  known_after (Later parts e) known = known
  known_after (Then a b) known = known_after b (known_after a known)
  known_after (If c a b) known = λ s i. known_after a known s i && known_after b known s i
  known_after (Case e arms) known = known_after_arms arms known

  pub known_after_arms : SizedArms → Places → Places
  known_after_arms (Arm items body rest) known = λ s i. known_after body known s i && known_after_arms rest known s i
  known_after_arms (Default otherwise) known = known_after otherwise known

-- the bits that the indices left of an assignment read
abbrev pub index_reads : List SizedTarget → Places
index_reads [] = nowhere
index_reads (Fixed lane ∷ ts) = index_reads ts
index_reads (Moving reach index ∷ ts) = λ s i. reads index s i || index_reads ts s i

-- those of them that aren't written for certain before, a part after those left of it
abbrev pub open_indices : List SizedTarget → Places → Places
open_indices [] known = nowhere
open_indices (Fixed lane ∷ ts) known = open_indices ts (λ s i. known s i || within lane.span s i)
open_indices (Moving reach index ∷ ts) known = λ s i. (reads index s i && not (known s i)) || open_indices ts known s i

abbrev pub item_reads : List SizedItem → Places
item_reads [] = nowhere
item_reads (x ∷ xs) = λ s i. reads x.item s i || item_reads xs s i

abbrev mutual
  -- the bits that are read where they aren't written for certain before
  pub open_reads : SizedStmt → Places → Places
  open_reads Skip known = nowhere
  open_reads (Assign parts e) known = λ s i. (reads e s i && not (known s i)) || open_indices parts known s i
  open_reads (Later parts e) known = λ s i. (reads e s i || index_reads parts s i) && not (known s i)
  open_reads (Then a b) known = λ s i. open_reads a known s i || open_reads b (known_after a known) s i
  open_reads (If c a b) known =
      λ s i. (reads c s i && not (known s i)) || (open_reads a known s i || open_reads b known s i)
  open_reads (Case e arms) known = λ s i. (reads e s i && not (known s i)) || open_arm_reads arms known s i

  pub open_arm_reads : SizedArms → Places → Places
  open_arm_reads (Arm items body rest) known =
      λ s i. (item_reads items s i && not (known s i)) || (open_reads body known s i || open_arm_reads rest known s i)
  open_arm_reads (Default otherwise) known = open_reads otherwise known

-- no latch: each bit that it may write is written on every path
abbrev pub IsWhole : SizedStmt → Type 0
IsWhole st = (s i : ℕ) → any_within (targets st) s i ≡ true → known_after st nowhere s i ≡ true

-- none of the bits that it may write is read before it is written
abbrev pub WritesFirst : SizedStmt → Type 0
WritesFirst st = (s i : ℕ) → any_within (targets st) s i ≡ true → open_reads st nowhere s i ≡ false

abbrev mutual
  -- no blocking assignment: the statement of a clocked block
  pub is_clocked : SizedStmt → Bool
  is_clocked Skip = true
  is_clocked (Assign parts e) = false
  is_clocked (Later parts e) = true
  is_clocked (Then a b) = is_clocked a && is_clocked b
  is_clocked (If c a b) = is_clocked a && is_clocked b
  is_clocked (Case e arms) = are_clocked_arms arms

  pub are_clocked_arms : SizedArms → Bool
  are_clocked_arms (Arm items body rest) = is_clocked body && are_clocked_arms rest
  are_clocked_arms (Default otherwise) = is_clocked otherwise

-- ---- widths that agree, with those of the signals too

abbrev pub is_sized : Sized → List ℕ → Bool
is_sized e widths = agrees e && fits_signals e widths

abbrev pub is_target : SizedTarget → List ℕ → Bool
is_target (Fixed lane) widths = nat_lt lane.shift 128 && is_span lane.span widths
is_target (Moving reach index) widths =
    (nat_lt reach.shift 128 && (is_width reach.width && is_width reach.total)) && (is_signal reach.signal reach.total widths && is_sized index widths)

abbrev pub are_targets : List SizedTarget → List ℕ → Bool
are_targets [] widths = true
are_targets (t ∷ ts) widths = is_target t widths && are_targets ts widths

abbrev pub are_items : List SizedItem → List ℕ → Bool
are_items [] widths = true
are_items (x ∷ xs) widths = is_sized x.item widths && are_items xs widths

abbrev mutual
  pub is_legal : SizedStmt → List ℕ → Bool
  is_legal Skip widths = true
  is_legal (Assign parts e) widths = are_targets parts widths && is_sized e widths
  is_legal (Later parts e) widths = are_targets parts widths && is_sized e widths
  is_legal (Then a b) widths = is_legal a widths && is_legal b widths
  is_legal (If c a b) widths = is_sized c widths && (is_legal a widths && is_legal b widths)
  is_legal (Case e arms) widths = is_sized e widths && are_legal_arms arms widths

  pub are_legal_arms : SizedArms → List ℕ → Bool
  are_legal_arms (Arm items body rest) widths = are_items items widths && (is_legal body widths && are_legal_arms rest widths)
  are_legal_arms (Default otherwise) widths = is_legal otherwise widths

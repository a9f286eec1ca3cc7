-- Signals that get in reach have the numbers and the widths that they have in the module.
use Rattle.std.proofs.Common.{◌≡◌, ℕ, zero, suc, ◌<◌, ◌==◌, Bool, true, false, cond, nat_lt, nat_le, List, [], ◌∷◌, ◌++◌, length, get_or, map, append_assoc, refl, ap, subst, arith, le-leb, lt-ltb, eq-eqb}
use Rattle.std.specs.Prelude.{Option, Some, None, slice_index}
use Rattle.std.specs.Option.{option_map}
use Rattle.std.proofs.lemmas.Bool.{and_from}
use Rattle.std.proofs.lemmas.List.{length-append}
use Rattle.ls_text.specs.declared.name_id.NameId.{NameId}
use Rattle.typed_ir.specs.Cycles.{Signal as UnitSignal}
use Rattle.typed_ir.specs.Orders.{Each}
use Rattle.typed_ir.specs.Sized.{is_width, is_signal}
use Rattle.width_rules.specs.declared.writer.Writer.{Writer}
use Rattle.width_rules.specs.Scopes.{Meaning, Signal, Scope}
use Rattle.gen_unroll.specs.declared.bit_range.BitRange.{BitRange as Bounds}
use Rattle.gen_unroll.specs.Declarations.{declared, declared_width}
use Rattle.gen_unroll.specs.Views.{bit_range_of}
use Rattle.gen_unroll.specs.declared.named_signal.NamedSignal.{NamedSignal as Named}
use Rattle.gen_unroll.specs.declared.signal_table.ModuleSignals.{ModuleSignals}
use Rattle.gen_unroll.specs.ModuleViews.{signals_in}
use Rattle.gen_unroll.specs.Reaches.{same_block}
use Rattle.gen_unroll.specs.Numbers.{NumberedSignal, in_block_from, in_block}
use Rattle.gen_unroll.specs.Signals.{NamedSignal}
use Rattle.gen_unroll.specs.SignalViews.{signal_of}
use Rattle.gen_unroll.specs.Sound.{IsOneOf, has_name, widths_of}
use Rattle.gen_unroll.specs.UnitLists.{unit_signals, names_behind}
use Rattle.gen_unroll.specs.UnitReaches.{lsb_of, meaning_of_signal, all_signals, with_signals}

-- a numbered signal is one of the list, with its width
record IsOne (widths : List ℕ) (x : NumberedSignal) : Type 0 where
  width : is_width (declared_width x.signal.range) ≡ true
  there : is_signal x.number (declared_width x.signal.range) widths ≡ true

-- ---- the ranges of the code have 1 to 128 bits

wide : (r : Option Bounds) → is_width (declared_width (option_map bit_range_of r)) ≡ true
wide None = refl
wide (Some r) = and_from (nat_le 1 r.width) (nat_le r.width 128) (le-leb 1 r.width r.at_least_one) (le-leb r.width 128 r.at_most_128)

-- ---- places

width_there : (before : List ℕ) (k w : ℕ) (after : List ℕ) → k ≡ length before → is_signal k w (before ++ w ∷ after) ≡ true
width_there before k w after is = and_from (nat_lt k (length (before ++ w ∷ after))) (slice_index (before ++ w ∷ after) k == w) (lt-ltb k (length (before ++ w ∷ after)) (below before k is)) (eq-eqb (slice_index (before ++ w ∷ after) k) w (at before k is))
  where
    below : (xs : List ℕ) (i : ℕ) → i ≡ length xs → i < length (xs ++ w ∷ after)
    below [] i e = omega (arith, e)
    below (x ∷ xs) zero e = omega arith
    below (x ∷ xs) (suc i) e = let rest = below xs i (omega (arith, e)) in omega (arith, rest)

    at : (xs : List ℕ) (i : ℕ) → i ≡ length xs → get_or (xs ++ w ∷ after) i 0 ≡ w
    at [] zero e = refl
    at [] (suc i) e = absurd (omega (arith, e))
    at (x ∷ xs) zero e = absurd (omega (arith, e))
    at (x ∷ xs) (suc i) e = at xs i (omega (arith, e))

-- each of a block is one of all, where these stand before them
each_one : (before : List ℕ) (b : Option ℕ) (k : ℕ) (xs : List Named) → k ≡ length before
    → Each (IsOne (before ++ widths_of (map signal_of xs))) (in_block_from k b (map signal_of xs))
each_one before b k [] is = tt
each_one before b k (x ∷ xs) is = by (same_block b (signal_of x).block) (subst (λ (ws : List ℕ). Each (IsOne ws) (in_block_from (suc k) b (map signal_of xs))) moved (each_one (before ++ w ∷ []) b (suc k) xs longer))
  where
    w : ℕ
    w = declared_width (signal_of x).range

    ws : List ℕ
    ws = before ++ w ∷ widths_of (map signal_of xs)

    moved : (before ++ w ∷ []) ++ widths_of (map signal_of xs) ≡ ws
    moved = append_assoc before (w ∷ []) (widths_of (map signal_of xs))

    longer : suc k ≡ length (before ++ w ∷ [])
    longer = let more = length-append before (w ∷ []) in omega (arith, is, more)

    by : (t : Bool) → Each (IsOne ws) (in_block_from (suc k) b (map signal_of xs))
        → Each (IsOne ws) (cond t (record { number = k; signal = signal_of x } ∷ in_block_from (suc k) b (map signal_of xs)) (in_block_from (suc k) b (map signal_of xs)))
    by true rest = (record { width = wide x.range; there = width_there before k w (widths_of (map signal_of xs)) is }, rest)
    by false rest = rest

-- ---- names in reach

-- whatever is so of a name in reach that none of these has, and of each signal of the module with its number and width, is so with these
entered : (P : Meaning → Type 0) (w : ℕ → Writer) (widths : List ℕ)
    → ((k width lsb : ℕ) (signed : Bool) (writer : Writer) → is_width width ≡ true → is_signal k width widths ≡ true → P (Signal k width lsb signed writer))
    → (ys : List NumberedSignal) → Each (IsOne widths) ys → (scope : Scope) (name : ℕ) → (has_name name ys ≡ false → P (scope name)) → P (all_signals w ys scope name)
entered P w widths one [] each scope name before = before refl
entered P w widths one (y ∷ ys) each scope name before =
    entered P w widths one ys each.1 (declared scope y.signal.name (meaning_of_signal w y.number y.signal)) name (by (y.signal.name.name.0 == name) before)
  where
    by : (t : Bool) → (cond t true (has_name name ys) ≡ false → P (scope name)) → has_name name ys ≡ false → P (cond t (meaning_of_signal w y.number y.signal) (scope name))
    by true h none = one y.number (declared_width y.signal.range) (lsb_of y.signal.range) y.signal.signed (w y.number) each.0.width each.0.there
    by false h none = h none

pub entered_fits : (P : Meaning → Type 0) (w : ℕ → Writer) (m : ModuleSignals) (b : Option ℕ)
    → ((k width lsb : ℕ) (signed : Bool) (writer : Writer) → is_width width ≡ true → is_signal k width (widths_of (signals_in m)) ≡ true → P (Signal k width lsb signed writer))
    → (scope : Scope) (name : ℕ) → (has_name name (in_block b (signals_in m)) ≡ false → P (scope name)) → P (with_signals w (signals_in m) b scope name)
entered_fits P w m b one scope name before =
    entered P w (widths_of (signals_in m)) one (in_block b (signals_in m)) (each_one [] b 0 m.signals.items refl) scope name before

pub one_of : (m : ModuleSignals) (w : ℕ → Writer) (b : Option ℕ) (scope : Scope) (name : ℕ)
    → (has_name name (in_block b (signals_in m)) ≡ false → IsOneOf (widths_of (signals_in m)) (scope name))
    → IsOneOf (widths_of (signals_in m)) (with_signals w (signals_in m) b scope name)
one_of m w b scope name before =
    entered_fits (IsOneOf (widths_of (signals_in m))) w m b (λ k width lsb signed writer wide there. (wide, there)) scope name before

pub unit_widths : (in_module : ℕ) (names : List NameId) (xs : List NamedSignal) → map (λ (s : UnitSignal). s.width) (unit_signals in_module names xs) ≡ widths_of xs
unit_widths m names [] = refl
unit_widths m names (x ∷ xs) = ap (λ (ws : List ℕ). declared_width x.range ∷ ws) (unit_widths m (names_behind names x) xs)

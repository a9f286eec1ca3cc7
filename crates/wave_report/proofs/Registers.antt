-- The lines of a table, register by register.
use Rattle.std.proofs.Common.{◌≡◌, ℕ, zero, suc, ◌+◌, ◌<◌, ◌≤◌, List, [], ◌∷◌, ◌++◌, length, get_or, drop, append_assoc, append-nil, IsTrue, sym, ◌∙◌, ap, ap₂, arith}
use Rattle.std.specs.Prelude.{slice_get, Some}
use Rattle.std.proofs.lemmas.List.{length-map, drop_all, get_or_default}
use Rattle.typed_ir.specs.Cycles.{Signal, Flat, width_at}
use Rattle.typed_ir.specs.Flats.{are_below}
use Rattle.typed_ir.specs.Orders.{at_or}
use Rattle.typed_ir.proofs.Lists.{drop_read, below_read}
use Rattle.cycle_eval.specs.Kits.{Fits}
use Rattle.reg_transform.specs.States.{state_values}
use Rattle.wave_report.specs.Tables.{signal_line, signal_lines}

-- a state that fits has as many values as there are registers
pub as_many : (design : Flat) (s : List (ℕ × ℕ)) → Fits design s → length s ≡ length design.registers
as_many design s fits = sym (length-map s (λ (p : ℕ × ℕ). p.0)) ∙ ap length fits ∙ length-map design.registers (width_at design)

-- each register is one of so many signals
pub register_there : (rs : List ℕ) (count many i r place : ℕ) → IsTrue (are_below rs count) → many ≡ count → i < length rs
    → r ≡ get_or rs i r → place ≡ r → place < many
register_there rs count many i r place below same h is at =
    let listed : get_or rs i 0 < count = below_read rs count i below h in
    let here : r ≡ get_or rs i 0 = is ∙ get_or_default rs i r 0 h in
    omega (arith, listed, here, same, at)

-- the values of a state from an element on
pub values_from : (xs : List (ℕ × ℕ)) (i : ℕ) (p : ℕ × ℕ) → slice_get xs i ≡ Some p → drop i (state_values xs) ≡ p.1 ∷ drop (i + 1) (state_values xs)
values_from [] i p e = cc
values_from (x ∷ xs) zero p e = let same : x ≡ p = cc in ap (λ (z : ℕ × ℕ). z.1 ∷ state_values xs) same
values_from (x ∷ xs) (suc i) p e =
    let more : suc i + 1 ≡ suc (i + 1) = omega arith in
    values_from xs i p e ∙ ap (λ k. p.1 ∷ drop k (state_values (x ∷ xs))) (sym more)

-- one more register
pub line_step : (names : List (List ℕ)) (prefix : List ℕ) (signals : List Signal) (rs xs : List ℕ) (i r x : ℕ) (old new all : List ℕ)
    → i < length rs → r ≡ get_or rs i r → drop i xs ≡ x ∷ drop (i + 1) xs → new ≡ old ++ at_or (signal_line names prefix x) [] signals r
    → old ++ signal_lines names prefix signals (drop i rs) (drop i xs) ≡ all
    → new ++ signal_lines names prefix signals (drop (i + 1) rs) (drop (i + 1) xs) ≡ all
line_step names prefix signals rs xs i r x old new all h is value more left =
    let rest = signal_lines names prefix signals (drop (i + 1) rs) (drop (i + 1) xs) in
    ap (λ zs. zs ++ rest) more
    ∙ append_assoc old (at_or (signal_line names prefix x) [] signals r) rest
    ∙ ap (λ zs. old ++ zs) (sym (ap₂ (signal_lines names prefix signals) (drop_read rs i r h is) value))
    ∙ left

-- no register is left
pub all_lines : (names : List (List ℕ)) (prefix : List ℕ) (signals : List Signal) (rs xs : List ℕ) (n : ℕ) (text all : List ℕ) → length rs ≤ n
    → text ++ signal_lines names prefix signals (drop n rs) (drop n xs) ≡ all → text ≡ all
all_lines names prefix signals rs xs n text all h left =
    sym (append-nil text) ∙ ap (λ zs. text ++ signal_lines names prefix signals zs (drop n xs)) (sym (drop_all n rs h)) ∙ left

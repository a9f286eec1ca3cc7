-- Signals that get in reach one by one.
use Rattle.std.proofs.Common.{◌≡◌, ℕ, suc, ◌+◌, ◌<◌, Bool, true, false, cond, List, [], ◌∷◌, length, get_or, drop, map, refl, sym, ◌∙◌, ap, arith}
use Rattle.std.specs.Prelude.{Option, None}
use Rattle.width_rules.specs.declared.writer.Writer.{Writer}
use Rattle.width_rules.specs.Scopes.{Scope}
use Rattle.gen_unroll.specs.Declarations.{declared}
use Rattle.typed_ir.proofs.Lists.{drop_read}
use Rattle.gen_unroll.specs.declared.block_signal.BlockSignal.{BlockSignal}
use Rattle.gen_unroll.specs.declared.named_signal.NamedSignal.{NamedSignal as Named}
use Rattle.gen_unroll.specs.Reaches.{same_block}
use Rattle.gen_unroll.specs.Numbers.{in_block_from}
use Rattle.gen_unroll.specs.Signals.{NamedSignal}
use Rattle.gen_unroll.specs.SignalViews.{signal_of, numbered_of}
use Rattle.gen_unroll.specs.UnitReaches.{all_signals, meaning_of_signal}

pub entered_next : (w : ℕ → Writer) (xs : List BlockSignal) (i : ℕ) (x : BlockSignal) (old new : Scope) → i < length xs → x ≡ get_or xs i x
    → new ≡ declared old (signal_of x.signal).name (meaning_of_signal w x.number (signal_of x.signal))
    → all_signals w (map numbered_of (drop (i + 1) xs)) new ≡ all_signals w (map numbered_of (drop i xs)) old
entered_next w xs i x old new h is step =
    ap (all_signals w (map numbered_of (drop (i + 1) xs))) step
    ∙ sym (ap (λ (zs : List BlockSignal). all_signals w (map numbered_of zs) old) (drop_read xs i x h is))

first_apart : (w : ℕ → Writer) (k : ℕ) (b : Option ℕ) (y : NamedSignal) (ys : List NamedSignal) (s : Scope)
    → all_signals w (in_block_from k b (y ∷ ys)) s ≡ all_signals w (in_block_from (suc k) b ys) (all_signals w (in_block_from k b (y ∷ [])) s)
first_apart w k b y ys s = by (same_block b y.block)
  where
    by : (t : Bool) → all_signals w (cond t (record { number = k; signal = y } ∷ in_block_from (suc k) b ys) (in_block_from (suc k) b ys)) s
        ≡ all_signals w (in_block_from (suc k) b ys) (all_signals w (cond t (record { number = k; signal = y } ∷ []) []) s)
    by true = refl
    by false = refl

pub own_next : (w : ℕ → Writer) (xs : List Named) (k : ℕ) (x : Named) (old new : Scope) → k < length xs → x ≡ get_or xs k x
    → new ≡ all_signals w (in_block_from k None (signal_of x ∷ [])) old
    → all_signals w (in_block_from (k + 1) None (map signal_of (drop (k + 1) xs))) new ≡ all_signals w (in_block_from k None (map signal_of (drop k xs))) old
own_next w xs k x old new h is step =
    let more : k + 1 ≡ suc k = omega arith in
    ap (all_signals w (in_block_from (k + 1) None (map signal_of (drop (k + 1) xs)))) step
    ∙ ap (λ (j : ℕ). all_signals w (in_block_from j None (map signal_of (drop (k + 1) xs))) (all_signals w (in_block_from k None (signal_of x ∷ [])) old)) more
    ∙ sym (first_apart w k None (signal_of x) (map signal_of (drop (k + 1) xs)) old)
    ∙ sym (ap (λ (zs : List Named). all_signals w (in_block_from k None (map signal_of zs)) old) (drop_read xs k x h is))

-- Where lines end among the bytes that a reader holds.
use Rattle.std.proofs.Common.{◌≡◌, ◌⊎◌, inl, inr, ℕ, ◌+◌, ◌-◌, ◌<◌, ◌≤◌, Bool, true, false, not, eqb, cond, List, [], ◌++◌, length, take, drop, Option, Some, None, refl, sym, ap, ◌∙◌, subst, append-nil, eqb-true, true≢false, arith}
use Rattle.std.specs.Prelude.{is_some}
use Rattle.std.proofs.lemmas.Option.{none-some}
use Rattle.std.proofs.lemmas.List.Folds.{prefix_len-append}
use Rattle.command_read.specs.declared.stop.Stop.{Stop}
use Rattle.std.proofs.lemmas.List.{length-drop, drop-drop, drop-append-le}
use Rattle.std.specs.Str.Lines.{strip_carriage_return}
use Rattle.command_read.specs.declared.reader.Reader.{Reader}
use Rattle.command_read.specs.Lines.{script_lines}
use Rattle.command_read.specs.LineEnds.{line_length, IsLineAt}
use Rattle.command_read.specs.Readers.{left, has_ended}
use Rattle.command_read.specs.Found.{IsEndOf}
use Rattle.command_read.proofs.FirstLines.{length_from, line_with_newline, line_without_newline, no_bytes, no_line}

-- the first newline, from a place up to which there is none
pub seen_on : (from seen n : ℕ) (xs : List ℕ) → from ≤ seen → seen - from ≤ line_length (drop from xs) → n ≡ line_length (drop seen xs)
    → seen + n ≡ from + line_length (drop from xs)
seen_on from seen n xs low none is =
    let k = seen - from in
    let there : drop k (drop from xs) ≡ drop seen xs = drop-drop k from xs ∙ ap (λ j. drop j xs) (omega (arith, low)) in
    let more = length_from k (drop from xs) none in
    omega (arith, low, more, is, ap line_length there)

pub end_of_line : (r : Reader) (from newline : ℕ) (line front : List ℕ) → newline ≡ from + line_length (drop from (left r)) → newline < length (left r)
    → front ≡ take (newline - from) (drop from (left r)) → line ≡ strip_carriage_return front
    → IsEndOf r from (record { end = from + length line; next = newline + 1 })
end_of_line r from newline line front place within at strips =
    let n = newline - from in
    let bytes = drop from (left r) in
    let long = length-drop from (left r) in
    let is = line_with_newline (has_ended r) bytes n (length line) (omega (arith, place)) (omega (arith, place, within, long)) (ap length strips ∙ ap (λ l. length (strip_carriage_return l)) at) in
    let len : from + length line - from ≡ length line = omega arith in
    let next : newline + 1 - from ≡ n + 1 = omega (arith, place) in
    record {
      is = subst (λ k. IsLineAt (has_ended r) bytes (from + length line - from) k) (sym next) (subst (λ k. IsLineAt (has_ended r) bytes k (n + 1)) (sym len) is);
      low = omega arith;
      order = omega (arith, is.shorter, place);
      high = omega (arith, within);
      more = omega (arith, place);
    }

pub end_of_last : (r : Reader) (from end : ℕ) → end ≡ from + line_length (drop from (left r)) → end ≡ length (left r) → has_ended r ≡ true → from < end
    → IsEndOf r from (record { end = end; next = end })
end_of_last r from end place all ended some =
    let bytes = drop from (left r) in
    let long : length bytes ≡ end - from = length-drop from (left r) ∙ ap (λ k. k - from) (sym all) in
    let is = line_without_newline bytes (omega (arith, place, long)) (omega (arith, some, long)) in
    let here = subst (λ e. IsLineAt e bytes (length bytes) (length bytes)) (sym ended) is in
    record {
      is = subst (λ k. IsLineAt (has_ended r) bytes k k) long here;
      low = omega (arith, some);
      order = omega arith;
      high = omega (arith, all);
      more = some;
    }

pub no_last : (from end : ℕ) (xs : List ℕ) → end ≡ length xs → end ≤ from → script_lines true (drop from xs) ≡ []
no_last from end xs all none = no_bytes true (drop from xs) (omega (arith, all, none, length-drop from xs))

-- no newline stands in what is left
pub all_seen : (from end : ℕ) (xs : List ℕ) → end ≡ from + line_length (drop from xs) → length xs ≤ end → length (drop from xs) ≤ line_length (drop from xs)
all_seen from end xs place all = omega (arith, place, all, length-drop from xs)

-- more bytes make no line shorter
longer : (xs ys : List ℕ) → line_length xs ≤ line_length (xs ++ ys)
longer xs ys = by (eqb (line_length xs) (length xs)) refl (prefix_len-append (λ b. not (eqb b 10)) xs ys)
  where
    by : (c : Bool) → eqb (line_length xs) (length xs) ≡ c → line_length (xs ++ ys) ≡ cond c (length xs + line_length ys) (line_length xs) → line_length xs ≤ line_length (xs ++ ys)
    by true h is = omega (arith, is, eqb-true (line_length xs) (length xs) h)
    by false h is = omega (arith, is)

pub still_none : (from end : ℕ) (xs ys new : List ℕ) → from ≤ length xs → end ≡ from + line_length (drop from xs) → new ≡ xs ++ ys → end - from ≤ line_length (drop from new)
still_none from end xs ys new within place is =
    let behind : drop from new ≡ drop from xs ++ ys = ap (drop from) is ∙ drop-append-le from xs ys within in
    omega (arith, place, longer (drop from xs) ys, ap line_length behind)

-- a reader that stops as it reads has kept nothing of what was read
pub halted_so : (s : Option Stop) (ended : Bool) (from : ℕ) (xs kept new : List ℕ) → new ≡ xs ++ kept → ((s ≡ None → ⊥) → kept ≡ []) → ((s ≡ None → ⊥) → ended ≡ false)
    → length (drop from xs) ≤ line_length (drop from xs) → (s ≡ None) ⊎ ((script_lines false (drop from new) ≡ []) × (ended ≡ false))
halted_so None ended from xs kept new is lost still none = inl refl
halted_so (Some s) ended from xs kept new is lost still none =
    let stopped : Some s ≡ None → ⊥ = λ h. none-some s (sym h) in
    let same : new ≡ xs = is ∙ ap (λ k. xs ++ k) (lost stopped) ∙ append-nil xs in
    inr (ap (λ l. script_lines false (drop from l)) same ∙ no_line (drop from xs) none, still stopped)

pub stopped_from : (s : Option Stop) → is_some s ≡ true → s ≡ None → ⊥
stopped_from None is none = true≢false (sym is)
stopped_from (Some s) is none = none-some s (sym none)

-- where something is read for the first time, what was held before has no line there
pub unread_so : (P : Type 0) (from : ℕ) (first now : List ℕ) (begun ended : Bool) → (P × (now ≡ first) × (ended ≡ begun)) ⊎ ((begun ≡ false) × (script_lines false (drop from first) ≡ []))
    → ended ≡ false → script_lines false (drop from now) ≡ [] → (begun ≡ false) × (script_lines false (drop from first) ≡ [])
unread_so P from first now begun ended (inl same) more none = (sym same.2 ∙ more, ap (λ l. script_lines false (drop from l)) (sym same.1) ∙ none)
unread_so P from first now begun ended (inr is) more none = is

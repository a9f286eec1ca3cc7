-- What the steps of a part left of an assignment write.
use Rattle.std.proofs.Common.{◌≡◌, ℕ, suc, ◌+◌, ◌-◌, ◌*◌, ◌/◌, ◌%◌, ◌^◌, ◌<◌, ◌≤◌, max, min, Bool, true, false, ◌&&◌, ◌==◌, nat_le, nat_lt, List, [], ◌∷◌, ◌++◌, length, refl, sym, ap, ap₂, ◌∙◌, subst, arith, ℤ, pos}
use Rattle.std.specs.Prelude.{if◌then◌else◌, negsuc, slice_index}
use Rattle.std.proofs.Math.Nat.{div-lt_iff_lt-mul}
use Rattle.std.proofs.lemmas.Bool.{eqb-true, leb-true, ltb-true, ltb-false, cond-true, cond-false}
use Rattle.std.proofs.lemmas.Nat.{pow_pos}
use Rattle.bits.specs.Runs.{replaced, replaced_within}
use Rattle.bits.proofs.Modulo.{small, cut, gone_below, power_splits, fits_wider}
use Rattle.bits.proofs.Runs.{by_order, below_pow}
use Rattle.typed_ir.specs.declared.span.Span.{Span}
use Rattle.typed_ir.specs.declared.reach.Reach.{Reach}
use Rattle.typed_ir.specs.Valuations.{Valuation, put}
use Rattle.typed_ir.specs.Orders.{Each}
use Rattle.typed_ir.specs.Sized.{value_of, width_of, is_width, is_signal, is_span, agrees, fits_signals, place_of}
use Rattle.typed_ir.specs.Stmts.{SizedTarget, Fixed, Moving, is_target, is_sized, moved, update_of, all_applied}
use Rattle.typed_ir.proofs.Cases.{by_cases, and_left, and_right}
use Rattle.typed_ir.proofs.Copies.{above_fits}
use Rattle.typed_ir.proofs.Lists.{each_left, each_right}
use Rattle.word_steps.specs.declared.step.Step.{Step}
use Rattle.word_steps.specs.declared.op.Op.TheVariants.{Select, Place, PlaceAt}
use Rattle.word_steps.specs.Walks.{seen, located, lowest, place_at}
use Rattle.design_steps.specs.Plans.{Plan, IsApart, IsReady, IsKnown, signals, width_at}
use Rattle.design_steps.specs.Expressions.{step, is_wide, locate_op, operand, before, code, constants_of}
use Rattle.design_steps.specs.Statements.{signal_of, is_whole, shifted, shift_code, part_code, part_constants}
use Rattle.design_steps.proofs.Seen.{seen_whole, in_lowest}
use Rattle.design_steps.proofs.Fits.{a_width, signal_is}
use Rattle.design_steps.proofs.Applying.{put_right, none_of}
use Rattle.design_steps.proofs.Layouts.{Stands, Gives, Fine, runs_none, join, stands_runs, finish, at_mark, gives_runs, finds}

-- ---- numbers

-- all bits of a value replaced
pub whole_right : (n width y : ℕ) → n < 2 ^ width → replaced n 0 width y ≡ y % 2 ^ width
whole_right n width y h =
    let none : n / 2 ^ (0 + width) ≡ 0 = (let e : 0 + width ≡ width = omega arith in ap (λ k. n / 2 ^ k) e ∙ gone_below n width width h (omega arith)) in
    let above : n / 2 ^ (0 + width) * 2 ^ width ≡ 0 = ap (λ k. k * 2 ^ width) none ∙ zero_times (2 ^ width) in
    omega (arith, above)
  where
    zero_times : (k : ℕ) → 0 * k ≡ 0
    zero_times k = omega arith

-- the bits that are written depend on as many of the value's lowest bits
same_run : (n low width x y : ℕ) → x % 2 ^ width ≡ y % 2 ^ width → replaced n low width x ≡ replaced n low width y
same_run n low width x y e = ap (λ r. (n / 2 ^ (low + width) * 2 ^ width + r) * 2 ^ low + n % 2 ^ low) e

nothing : (x y w : ℕ) → w ≡ 0 → x % 2 ^ w ≡ y % 2 ^ w
nothing x y w e =
    let one : x % 2 ^ w ≡ x % 2 ^ 0 = ap (λ k. x % 2 ^ k) e in
    let two : y % 2 ^ w ≡ y % 2 ^ 0 = ap (λ k. y % 2 ^ k) e in
    let a : x % 2 ^ 0 ≡ 0 = omega arith in
    let b : y % 2 ^ 0 ≡ 0 = omega arith in
    one ∙ a ∙ sym (two ∙ b)

same_within : (total n : ℕ) (z : ℤ) (width x y : ℕ) → x % 2 ^ width ≡ y % 2 ^ width → replaced_within total n z width x ≡ replaced_within total n z width y
same_within total n (pos low) width x y e =
    let k = min width (total - low) in
    same_run n low k x y (sym (cut x width k (omega arith)) ∙ ap (λ r. r % 2 ^ k) e ∙ cut y width k (omega arith))
same_within total n (negsuc b) width x y e =
    let k = min (width - suc b) total in
    same_run n 0 k (x / 2 ^ suc b) (y / 2 ^ suc b)
    (by_order (suc b) width
    (λ h. sym (in_lowest x (suc b) k width (omega (arith, h))) ∙ ap (λ r. r / 2 ^ suc b % 2 ^ k) e ∙ in_lowest y (suc b) k width (omega (arith, h)))
    (λ h. nothing (x / 2 ^ suc b) (y / 2 ^ suc b) k (omega (arith, h))))

pub replaced_fits : (n low width x total : ℕ) → n < 2 ^ total → low + width ≤ total → replaced n low width x < 2 ^ total
replaced_fits n low width x total h few =
    let k = low + width in
    let top : n / 2 ^ k < 2 ^ (total - k) = (div-lt_iff_lt-mul (pow_pos k)).1 (subst (λ z. n < z) (power_splits total k few) h) in
    let sum : total - k + width + low ≡ total = omega (arith, few) in
    subst (λ t. replaced n low width x < 2 ^ t) sum
    (above_fits (n / 2 ^ k * 2 ^ width + x % 2 ^ width) (n % 2 ^ low) (total - k + width) low
    (above_fits (n / 2 ^ k) (x % 2 ^ width) (total - k) width top (below_pow x width)) (below_pow n low))

pub within_fits : (total n : ℕ) (z : ℤ) (width x : ℕ) → n < 2 ^ total → replaced_within total n z width x < 2 ^ total
within_fits total n (pos low) width x h = by_order low total
    (λ inside. replaced_fits n low (min width (total - low)) x total h (omega (arith, inside)))
    (λ outside. subst (λ y. y < 2 ^ total) (sym (none_of n low (min width (total - low)) x (omega (arith, outside)))) h)
within_fits total n (negsuc b) width x h = replaced_fits n 0 (min (width - suc b) total) (x / 2 ^ suc b) total h (omega arith)

-- ---- what an update makes of a signal

-- the value of a part's signal, where it was n, after the assignment of x
abbrev pub part_value : SizedTarget → ℕ → ℕ → Valuation → ℕ
part_value (Fixed lane) x n env = replaced n lane.span.low lane.span.width (x / 2 ^ lane.shift)
part_value (Moving reach index) x n env =
    replaced_within reach.total n (place_of reach.below reach.signed (width_of index) (value_of index env)) reach.width (x / 2 ^ reach.shift)

put_self : (f : Valuation) (s x : ℕ) → x ≡ f s → f ≡ put f s x
put_self f s x e = λ j t. at t j
  where
    at : (t : ℕ) → f t ≡ put f s x t
    at t = by_cases (t == s)
        (λ yes. ap f (eqb-true t s yes) ∙ sym e ∙ sym (cond-true (t == s) x (f t) yes))
        (λ no. sym (cond-false (t == s) x (f t) no))

moved_value : (reach : Reach) (z : ℤ) (x : ℕ) (f : Valuation)
    → all_applied (moved reach z x) f ≡ put f reach.signal (replaced_within reach.total (f reach.signal) z reach.width x)
moved_value reach (pos low) x f = by_cases (nat_lt low reach.total)
    (λ t. ap (λ us. all_applied us f) (cond-true (nat_lt low reach.total) (record { span = record { signal = reach.signal; low = low; width = min reach.width (reach.total - low) }; value = x } ∷ []) [] t))
    (λ t. ap (λ us. all_applied us f) (cond-false (nat_lt low reach.total) (record { span = record { signal = reach.signal; low = low; width = min reach.width (reach.total - low) }; value = x } ∷ []) [] t)
    ∙ put_self f reach.signal (replaced_within reach.total (f reach.signal) (pos low) reach.width x)
    (let far : reach.total ≤ low = ltb-false low reach.total t in none_of (f reach.signal) low (min reach.width (reach.total - low)) x (omega (arith, far))))
moved_value reach (negsuc b) x f = by_cases (nat_lt (suc b) reach.width)
    (λ t. ap (λ us. all_applied us f) (cond-true (nat_lt (suc b) reach.width) (record { span = record { signal = reach.signal; low = 0; width = min (reach.width - suc b) reach.total }; value = x / 2 ^ suc b } ∷ []) [] t))
    (λ t. ap (λ us. all_applied us f) (cond-false (nat_lt (suc b) reach.width) (record { span = record { signal = reach.signal; low = 0; width = min (reach.width - suc b) reach.total }; value = x / 2 ^ suc b } ∷ []) [] t)
    ∙ put_self f reach.signal (replaced_within reach.total (f reach.signal) (negsuc b) reach.width x)
    (let far : reach.width ≤ suc b = ltb-false (suc b) reach.width t in none_of (f reach.signal) 0 (min (reach.width - suc b) reach.total) (x / 2 ^ suc b) (omega (arith, far))))

pub applied_part : (t : SizedTarget) (x : ℕ) (env f : Valuation) → all_applied (update_of t x env) f ≡ put f (signal_of t) (part_value t x (f (signal_of t)) env)
applied_part (Fixed lane) x env f = refl
applied_part (Moving reach index) x env f = moved_value reach (place_of reach.below reach.signed (width_of index) (value_of index env)) (x / 2 ^ reach.shift) f

-- ---- the steps of a part

abbrev shifted_value : ℕ → ℕ → ℕ → ℕ
shifted_value shift width x = if shift == 0 then x else x / 2 ^ shift % 2 ^ width

shifted_stands : (shift width from here mark x : ℕ) (w : Valuation) → here < mark → w here ≡ x → x < 2 ^ from
    → Stands (shift_code shift width from here mark) w (shifted shift here mark) mark (shifted_value shift width x)
unfolding runs_none
shifted_stands shift width from here mark x w near is fits = by_test (shift == 0)
  where
    wide : Bool
    wide = is_wide Select (max from (shift + width))

    by_test : (b : Bool) → Stands (if b then [] else step Select width shift wide mark here 0 0 ∷ []) w (if b then here else mark) mark (if b then x else x / 2 ^ shift % 2 ^ width)
    by_test true = record { after = w; ends = refl; near = omega (arith, near); value = is; kept = λ k h. refl }
    by_test false =
        at_mark (step Select width shift wide mark here 0 0 ∷ []) mark (x / 2 ^ shift % 2 ^ width) w
        (finish [] (step Select width shift wide mark here 0 0) w mark (x / 2 ^ shift % 2 ^ width) (runs_none w mark) (λ v n y z. refl) refl
        (ap (λ u. u / 2 ^ shift % 2 ^ width) (ap (seen wide) is ∙ seen_whole false x from (max from (shift + width)) fits (omega arith))))

shifted_same : (shift width x : ℕ) → shifted_value shift width x % 2 ^ width ≡ x / 2 ^ shift % 2 ^ width
shifted_same shift width x = by_test (shift == 0) refl
  where
    by_test : (b : Bool) → (shift == 0) ≡ b → (if b then x else x / 2 ^ shift % 2 ^ width) % 2 ^ width ≡ x / 2 ^ shift % 2 ^ width
    by_test true e =
        let none : shift ≡ 0 = eqb-true shift 0 e in
        let one : x / 2 ^ 0 ≡ x = omega arith in
        ap (λ u. u % 2 ^ width) (sym (ap (λ k. x / 2 ^ k) none ∙ one))
    by_test false e = cut (x / 2 ^ shift) width width (omega arith)

shifted_fits : (shift width from x : ℕ) → x < 2 ^ from → shifted_value shift width x < 2 ^ max from width
shifted_fits shift width from x fits = by_test (shift == 0)
  where
    by_test : (b : Bool) → (if b then x else x / 2 ^ shift % 2 ^ width) < 2 ^ max from width
    by_test true = fits_wider x from (max from width) fits (omega arith)
    by_test false = fits_wider (x / 2 ^ shift % 2 ^ width) width (max from width) (below_pow (x / 2 ^ shift) width) (omega arith)

pub gives_by : (b : Bool) (xs ys : List Step) (w : Valuation) (to mark x : ℕ) → (b ≡ true → Gives xs w to mark x) → (b ≡ false → Gives ys w to mark x)
    → Gives (if b then xs else ys) w to mark x
gives_by true xs ys w to mark x f g = f refl
gives_by false xs ys w to mark x f g = g refl

pub span_lies : (span : Span) (ws : List ℕ) → is_span span ws ≡ true → (span.signal < length ws) × (span.low + span.width ≤ slice_index ws span.signal)
span_lies span ws h =
    let rest = and_right (nat_lt span.signal (length ws)) (nat_le 1 span.width && nat_le (span.low + span.width) (slice_index ws span.signal)) h in (
      ltb-true span.signal (length ws) (and_left (nat_lt span.signal (length ws)) (nat_le 1 span.width && nat_le (span.low + span.width) (slice_index ws span.signal)) h),
      leb-true (span.low + span.width) (slice_index ws span.signal) (and_right (nat_le 1 span.width) (nat_le (span.low + span.width) (slice_index ws span.signal)) rest),
    )

module _ (l : Plan) (rs : List ℕ) (n : ℕ) (apart : IsApart l rs n) where
  pub part_right : (t : SizedTarget) (to from here mark x : ℕ) (w : Valuation) → n ≤ mark → here < mark → to < mark → w here ≡ x → x < 2 ^ from
      → is_target t l.widths ≡ true → Each (IsKnown l) (part_constants t) → IsReady l rs w → w to < 2 ^ width_at l (signal_of t)
      → Gives (part_code l to t from here mark) w to mark (part_value t x (w to) (signals l w))
  unfolding runs_none stands_runs join finish gives_runs
  part_right (Fixed lane) to from here mark x w few near below is fits legal known r small_to =
      let span = lane.span in
      let shift = lane.shift in
      let width = span.width in
      let total = width_at l span.signal in
      let y = x / 2 ^ shift in
      let lies = (span_lies span l.widths (and_right (nat_lt shift 128) (is_span span l.widths) legal)).1 in
      let wide = is_wide Select (max from (shift + width)) in
      let most = max total from in
      let v = shifted_value shift width x in
      let S = shifted shift here mark in
      let ps = shift_code shift width from here mark in
      let s = shifted_stands shift width from here mark x w near is fits in
      gives_by (is_whole l span) (step Select width shift wide to here 0 0 ∷ []) (ps ++ step Place width span.low (is_wide Place most) to S to 0 ∷ []) w to mark
      (replaced (w to) span.low width y)
      (λ whole.
      let bottom : span.low ≡ 0 = eqb-true span.low 0 (and_left (span.low == 0) (width == total) whole) in
      let all : width ≡ total = eqb-true width total (and_right (span.low == 0) (width == total) whole) in
      finish [] (step Select width shift wide to here 0 0) w mark (replaced (w to) span.low width y) (runs_none w mark) (λ v n y z. refl) refl
      (ap (λ u. u / 2 ^ shift % 2 ^ width) (ap (seen wide) is ∙ seen_whole false x from (max from (shift + width)) fits (omega arith))
      ∙ sym (whole_right (w to) width y (subst (λ k. w to < 2 ^ k) (sym all) small_to))
      ∙ ap (λ k. replaced (w to) k width y) (sym bottom)))
      (λ part.
      finish ps (step Place width span.low (is_wide Place most) to S to 0) w mark (replaced (w to) span.low width y) (stands_runs ps w S mark v s) (λ v n y z. refl) refl
      (ap₂ (λ p q. replaced q span.low width p)
      (ap (seen (is_wide Place most)) s.value ∙ seen_whole false v (max from width) most (shifted_fits shift width from x fits) (omega (arith, lies)))
      (ap (seen (is_wide Place most)) (s.kept to below) ∙ seen_whole false (w to) total most small_to (omega arith))
      ∙ same_run (w to) span.low width v y (shifted_same shift width x)))
  part_right (Moving reach index) to from here mark x w few near below is fits legal known r small_to =
      let shift = reach.shift in
      let width = reach.width in
      let total = reach.total in
      let y = x / 2 ^ shift in
      let sizes = and_left (nat_lt shift 128 && (is_width width && is_width total)) (is_signal reach.signal total l.widths && is_sized index l.widths) legal in
      let rest = and_right (nat_lt shift 128 && (is_width width && is_width total)) (is_signal reach.signal total l.widths && is_sized index l.widths) legal in
      let widths = and_right (nat_lt shift 128) (is_width width && is_width total) sizes in
      let short = (a_width width (and_left (is_width width) (is_width total) widths)).1 in
      let tall = (a_width total (and_right (is_width width) (is_width total) widths)).1 in
      let same : width_at l reach.signal ≡ total = (signal_is reach.signal total l.widths (and_left (is_signal reach.signal total l.widths) (is_sized index l.widths) rest)).1 in
      let sized = and_right (is_signal reach.signal total l.widths) (is_sized index l.widths) rest in
      let fi : Fine l rs n apart index = record {
        agree = and_left (agrees index) (fits_signals index l.widths) sized;
        fit = and_right (agrees index) (fits_signals index l.widths) sized;
        known = each_left (IsKnown l) (constants_of index) (reach.below ∷ []) known;
      } in
      let place = place_of reach.below reach.signed (width_of index) (value_of index (signals l w)) in
      let find = step (locate_op reach.signed) (width_of index) 0 true mark (operand l index mark) (l.place reach.below) 0 in
      let ps = before l index mark (code l index mark mark) ++ find ∷ [] in
      let g = finds l rs n apart index reach.below reach.signed mark w few fi (each_right (IsKnown l) (constants_of index) (reach.below ∷ []) known).0 r in
      let run = gives_runs ps w mark (located place) g in
      let v = shifted_value shift width x in
      let S = shifted shift here (mark + 1) in
      let qs = shift_code shift width from here (mark + 1) in
      let s = shifted_stands shift width from here (mark + 1) x g.after (omega (arith, near)) (run.kept here near ∙ is) fits in
      let run2 = join ps qs w mark S (mark + 1) v run s (omega arith) in
      let to_is : s.after to ≡ w to = s.kept to (omega (arith, below)) ∙ run.kept to below in
      let place_is : s.after mark ≡ located place = s.kept mark (omega arith) ∙ g.value in
      let fits_to : w to < 2 ^ total = subst (λ k. w to < 2 ^ k) same small_to in
      finish (ps ++ qs) (step PlaceAt width total true to S mark to) w mark (replaced_within total (w to) place width y) run2 (λ v n y z. refl) refl
      (ap (λ u. replaced_within total (lowest total u) (place_at (s.after mark)) width (lowest width (s.after S))) to_is
      ∙ ap (λ u. replaced_within total (lowest total (w to)) (place_at u) width (lowest width (s.after S))) place_is
      ∙ ap (λ u. replaced_within total (lowest total (w to)) (place_at (located place)) width (lowest width u)) s.value
      ∙ ap (λ u. replaced_within total u (place_at (located place)) width (lowest width v)) (small (w to) total fits_to)
      ∙ put_right total (w to) place width (lowest width v) tall short
      ∙ same_within total (w to) place width (lowest width v) y (cut v width width (omega arith) ∙ shifted_same shift width x))

  -- the value still fits
  pub part_fits : (t : SizedTarget) (x m : ℕ) (env : Valuation) → is_target t l.widths ≡ true → m < 2 ^ width_at l (signal_of t)
      → part_value t x m env < 2 ^ width_at l (signal_of t)
  part_fits (Fixed lane) x m env legal h =
      replaced_fits m lane.span.low lane.span.width (x / 2 ^ lane.shift) (width_at l lane.span.signal) h
      (span_lies lane.span l.widths (and_right (nat_lt lane.shift 128) (is_span lane.span l.widths) legal)).1
  part_fits (Moving reach index) x m env legal h =
      let rest = and_right (nat_lt reach.shift 128 && (is_width reach.width && is_width reach.total)) (is_signal reach.signal reach.total l.widths && is_sized index l.widths) legal in
      let same : width_at l reach.signal ≡ reach.total =
      (signal_is reach.signal reach.total l.widths (and_left (is_signal reach.signal reach.total l.widths) (is_sized index l.widths) rest)).1 in
      subst (λ k. part_value (Moving reach index) x m env < 2 ^ k) (sym same)
      (within_fits reach.total m (place_of reach.below reach.signed (width_of index) (value_of index env)) reach.width (x / 2 ^ reach.shift) (subst (λ k. m < 2 ^ k) same h))

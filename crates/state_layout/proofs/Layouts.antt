-- Slots in the code's list of them.
use Rattle.std.proofs.Common.{◌≡◌, ℕ, zero, suc, ◌+◌, ◌<◌, ◌≤◌, List, [], ◌∷◌, ◌++◌, length, get_or, take, map, sym, ◌∙◌, ap, subst, arith}
use Rattle.std.proofs.lemmas.List.{get_or-map, length-map, map_push, map_more, take-map}
use Rattle.std.specs.Prelude.{slice_index, IfOk, IfErr, IsErrAnd}
use Rattle.std.specs.declared.result.Result.{Result}
use Rattle.std.specs.declared.result.Result.TheVariants.{Ok, Err}
use Rattle.typed_ir.specs.declared.flat.Flat.{Flat}
use Rattle.typed_ir.specs.Linkeds.{flat}
use Rattle.ls_text.specs.declared.refusal.Refusal.{Refusal}
use Rattle.ls_text.specs.declared.refusal.Refusal.TheVariants.{Fault as Refused, NoMemory}
use Rattle.typed_ir.specs.declared.signal.Signal.{Signal}
use Rattle.typed_ir.proofs.Widths.{widths_stay}
use Rattle.state_layout.specs.Words.{words_of, width_in, register_widths, IsTooMany, IsTooManyWhere}
use Rattle.state_layout.specs.Slots.{slot_size, first_word, first_words}
use Rattle.state_layout.specs.declared.slot.Slot.{Slot}
use Rattle.state_layout.proofs.SlotWords.{slot_within, firsts_at, firsts_push, words_push}

abbrev widths_in : List Slot → List ℕ
widths_in slots = map (λ (s : Slot). s.width) slots

abbrev firsts_in : List Slot → List ℕ
firsts_in slots = map (λ (s : Slot). s.first) slots

pub slot_first : (slots : List Slot) (view : List ℕ) (k i : ℕ) (x : Slot) → map (λ (s : Slot). s.width) slots ≡ view
    → map (λ (s : Slot). s.first) slots ≡ first_words 0 (map (λ (s : Slot). s.width) slots) → k < length view → i ≡ k → x ≡ get_or slots i x → x.first ≡ first_word view k
slot_first slots view k i x is firsts there place read =
    let listed : i < length slots = omega (arith, there, place, ap length is, length-map slots (λ (s : Slot). s.width)) in
    let within : i < length (widths_in slots) = omega (arith, listed, length-map slots (λ (s : Slot). s.width)) in
    let none : 0 + first_word (widths_in slots) i ≡ first_word (widths_in slots) i = omega arith in
    ap (λ (s : Slot). s.first) read ∙ sym (get_or-map (λ (s : Slot). s.first) slots i x 0 listed) ∙ ap (λ zs. get_or zs i 0) firsts
    ∙ firsts_at 0 (widths_in slots) i within ∙ none ∙ ap (λ vs. first_word vs i) is ∙ ap (first_word view) place

pub slot_width : (slots : List Slot) (view : List ℕ) (k i : ℕ) (x : Slot) → map (λ (s : Slot). s.width) slots ≡ view → k < length view → i ≡ k → x ≡ get_or slots i x → x.width ≡ get_or view k 0
slot_width slots view k i x is there place read =
    let listed : i < length slots = omega (arith, there, place, ap length is, length-map slots (λ (s : Slot). s.width)) in
    ap (λ (s : Slot). s.width) read ∙ sym (get_or-map (λ (s : Slot). s.width) slots i x 0 listed) ∙ ap (λ vs. get_or vs i 0) is ∙ ap (λ n. get_or view n 0) place

pub slot_room : (view : List ℕ) (k width : ℕ) → k < length view → width ≡ get_or view k 0 → first_word view k + slot_size width ≤ words_of view
slot_room view k width there is = subst (λ n. first_word view k + slot_size n ≤ words_of view) (sym is) (slot_within view k there)

pub same_width_at : (a b : List Slot) (i : ℕ) (x y : Slot) → map (λ (s : Slot). s.width) a ≡ map (λ (s : Slot). s.width) b
    → i < length a → x ≡ get_or a i x → y ≡ get_or b i y → x.width ≡ y.width
same_width_at a b i x y same there one other =
    let long : i < length b = omega (arith, there, sym (length-map a (λ (s : Slot). s.width)), ap length same, length-map b (λ (s : Slot). s.width)) in
    ap (λ (s : Slot). s.width) one ∙ sym (get_or-map (λ (s : Slot). s.width) a i x 0 there) ∙ ap (λ ws. get_or ws i 0) same
    ∙ get_or-map (λ (s : Slot). s.width) b i y 0 long ∙ sym (ap (λ (s : Slot). s.width) other)

-- one slot more
module _ (slots new : List Slot) (words : ℕ) (x : Slot) (put : new ≡ slots ++ x ∷ []) (many : words ≡ words_of (map (λ (s : Slot). s.width) slots)) where
  new_widths : widths_in new ≡ widths_in slots ++ x.width ∷ []
  new_widths = ap widths_in put ∙ map_push (λ (s : Slot). s.width) slots x

  pub added_firsts : map (λ (s : Slot). s.first) slots ≡ first_words 0 (map (λ (s : Slot). s.width) slots) → x.first ≡ words
      → map (λ (s : Slot). s.first) new ≡ first_words 0 (map (λ (s : Slot). s.width) new)
  added_firsts firsts start =
      let none : words ≡ 0 + words_of (widths_in slots) = omega (arith, many) in
      ap firsts_in put ∙ map_push (λ (s : Slot). s.first) slots x ∙ ap (λ zs. zs ++ x.first ∷ []) firsts
      ∙ ap (λ n. first_words 0 (widths_in slots) ++ n ∷ []) (start ∙ none) ∙ sym (firsts_push 0 (widths_in slots) x.width) ∙ ap (first_words 0) (sym new_widths)

  pub added_words : words + slot_size x.width ≡ words_of (map (λ (s : Slot). s.width) new)
  added_words = ap (λ n. n + slot_size x.width) many ∙ sym (words_push (widths_in slots) x.width) ∙ ap words_of (sym new_widths)

-- ---- refusals

pub too_many_where : (refusal : Refusal) (P : Type 0) → IsTooMany refusal → P → IsTooManyWhere P refusal
too_many_where (Refused fault) P is p = (is, p)
too_many_where NoMemory P is p = tt

pub where_weaker : (refusal : Refusal) (P Q : Type 0) → (P → Q) → IsTooManyWhere P refusal → IsTooManyWhere Q refusal
where_weaker (Refused fault) P Q f is = (is.0, f is.1)
where_weaker NoMemory P Q f is = tt

-- a refusal that is handed on
pub where_handed_on : {A : Type 0} (r : Result A Refusal) (e : Refusal) (P Q : Type 0) → IsErrAnd r (λ y. y ≡ e) → (P → Q) → IsTooManyWhere P e → IfErr r (IsTooManyWhere Q)
where_handed_on (Err y) e P Q is f h = where_weaker y P Q f (subst (IsTooManyWhere P) (sym is) h)
where_handed_on (Ok x) e P Q is f h = absurd is

pub both_ok : {A E : Type 0} {P Q R : A → Type 0} (r : Result A E) → IfOk r P → IfOk r Q → ((x : A) → P x → Q x → R x) → IfOk r R
both_ok (Ok x) p q f = f x p q
both_ok (Err e) p q f = tt

-- ---- register by register

pub width_read : (signals : List Signal) (place : ℕ) (x : Signal) → place < length signals → x ≡ get_or signals place x → x.width ≡ width_in signals place
width_read signals place x there read = ap (λ (s : Signal). s.width) read ∙ sym (get_or-map (λ (s : Signal). s.width) signals place x 0 there)

-- one register more has no fewer words than all
pub words_more : (ws : List ℕ) (i : ℕ) → words_of (take i ws) ≤ words_of ws
words_more [] zero = omega arith
words_more [] (suc i) = omega arith
words_more (w ∷ ws) zero = omega arith
words_more (w ∷ ws) (suc i) = omega (arith, words_more ws i)

-- the widths of one register more
pub more_widths : (signals : List Signal) (registers layout new : List ℕ) (i width place r : ℕ) (x : Signal)
    → layout ≡ map (width_in signals) (take i registers) → new ≡ layout ++ width ∷ [] → i < length registers → place ≡ get_or registers i r
    → place < length signals → x ≡ get_or signals place x → width ≡ x.width → new ≡ map (width_in signals) (take (i + 1) registers)
more_widths signals registers layout new i width place r x before put listed at there read wide =
    put ∙ ap (λ ws. ws ++ width ∷ []) before ∙ ap (λ w. map (width_in signals) (take i registers) ++ w ∷ []) (wide ∙ width_read signals place x there read ∙ ap (width_in signals) at)
    ∙ sym (map_more (width_in signals) registers i r listed)

-- where these are too many, all are
pub too_many_all : (f : ℕ → ℕ) (registers ws : List ℕ) (i : ℕ) → ws ≡ map f (take (i + 1) registers) → 65536 < words_of ws → 65536 < words_of (map f registers)
too_many_all f registers ws i is many = omega (arith, many, ap words_of (is ∙ sym (take-map f (i + 1) registers)), words_more (map f registers) (i + 1))

-- the widths of a linked design's registers
pub design_widths : (design : Flat) (signals : List Signal) (registers : List ℕ) → signals ≡ design.signals.items → registers ≡ design.registers.items
    → map (width_in signals) registers ≡ register_widths (flat design)
design_widths design signals registers one other =
    ap (λ xs. map (width_in xs) registers) one ∙ ap (map (width_in design.signals.items)) other
    ∙ ap (λ (ws : List ℕ). map (λ n. slice_index ws n) design.registers.items) (sym (widths_stay design.instances.rows.items design.signals.items))

-- Numbers of signals: in the order of the declarations each stands once; those of registers and of inputs stand once, and none is of both.
use Rattle.std.proofs.Common.{◌≡◌, ℕ, zero, suc, ◌+◌, ◌<◌, ◌≤◌, ◌&&◌, ◌==◌, inl, inr, Bool, true, false, cond, not, filter, List, [], ◌∷◌, ◌++◌, length, refl, sym, ◌∙◌, ap, subst, arith, true≢false, eqb-true, eq-eqb, Result, Ok, Err}
use Rattle.std.specs.Prelude.{Option, Some, None, slice_get}
use Rattle.std.specs.Option.{option_map, option_to_list}
use Rattle.std.proofs.lemmas.Option.{none-some, same_Some}
use Rattle.ls_text.specs.declared.fault.Fault.{Fault}
use Rattle.ls_text.specs.declared.name_id.NameId.{NameId}
use Rattle.typed_ir.specs.Orders.{Member, Distinct}
use Rattle.typed_ir.proofs.Cases.{and_left}
use Rattle.typed_ir.proofs.Members.{member_filtered}
use Rattle.typed_ir.specs.declared.signal_kind.SignalKind.{SignalKind}
use Rattle.typed_ir.specs.declared.signal_kind.SignalKind.TheVariants as kind
use Rattle.typed_ir.specs.Shapes.{is_clock}
use Rattle.verilog_ast.specs.Items.{ModuleDeclaration}
use Rattle.gen_unroll.specs.Reaches.{reach_in}
use Rattle.gen_unroll.specs.Steps.{ModuleStep}
use Rattle.ls_text.specs.Answers.{◌>>=◌}
use Rattle.gen_unroll.specs.Numbers.{SignalTable, place_where, has_order, numbers_from, numbered, header_names, table_of, module_table}
use Rattle.gen_unroll.specs.Signals.{NamedSignal, declared_in}
use Rattle.gen_unroll.specs.Sound.{IsOrdered, AreApart}
use Rattle.gen_unroll.specs.UnitLists.{is_input, is_variable, is_data_input, data_inputs_from, data_inputs, is_register_at, is_register, registers}
use Rattle.gen_unroll.proofs.Orders.{EndInOrder, declared_more}
use Rattle.gen_unroll.proofs.Header.{HaveOwnOrders, AreOwn, numbered_own}
use Rattle.gen_unroll.proofs.Searching.{suc_some, place_within}
use Rattle.gen_unroll.proofs.Answered.{ok_same}

-- ---- the numbers in the order of declarations

abbrev order_at : List NamedSignal → ℕ → ℕ
order_at [] k = 0
order_at (x ∷ xs) zero = x.order
order_at (x ∷ xs) (suc k) = order_at xs k

ordered_at : (k : ℕ) (xs : List NamedSignal) (j : ℕ) → place_where (has_order k) xs ≡ Some j → order_at xs j ≡ k
ordered_at k [] j h = absurd (none-some j h)
ordered_at k (x ∷ xs) j h = by (x.order == k) (eqb-true x.order k) (ordered_at k xs) h
  where
    by : (b : Bool) → (b ≡ true → x.order ≡ k) → ((i : ℕ) → place_where (has_order k) xs ≡ Some i → order_at xs i ≡ k)
        → cond b (Some 0) (option_map suc (place_where (has_order k) xs)) ≡ Some j → order_at (x ∷ xs) j ≡ k
    by true here rest is = ap (order_at (x ∷ xs)) (sym (same_Some 0 j is)) ∙ here refl
    by false here rest is = let s = suc_some (place_where (has_order k) xs) j is in ap (order_at (x ∷ xs)) (sym s.2) ∙ rest s.0 s.1

there_from : (k left : ℕ) (xs : List NamedSignal) (s : ℕ) → Member s (numbers_from k left xs) → s < length xs
there_from k zero xs s m = absurd m
there_from k (suc left) xs s m = by (place_where (has_order k) xs) refl (there_from (suc k) left xs s) m
  where
    by : (p : Option ℕ) → place_where (has_order k) xs ≡ p → (Member s (numbers_from (suc k) left xs) → s < length xs)
        → Member s (option_to_list p ++ numbers_from (suc k) left xs) → s < length xs
    by None is rest h = rest h
    by (Some j) is rest (inl e) = subst (λ (n : ℕ). n < length xs) (sym e) (place_within (has_order k) xs j is)
    by (Some j) is rest (inr h) = rest h

-- those behind have later places
later_from : (k left : ℕ) (xs : List NamedSignal) (s : ℕ) → Member s (numbers_from k left xs) → k ≤ order_at xs s
later_from k zero xs s m = absurd m
later_from k (suc left) xs s m = by (place_where (has_order k) xs) refl (later_from (suc k) left xs s) m
  where
    by : (p : Option ℕ) → place_where (has_order k) xs ≡ p → (Member s (numbers_from (suc k) left xs) → suc k ≤ order_at xs s)
        → Member s (option_to_list p ++ numbers_from (suc k) left xs) → k ≤ order_at xs s
    by None is rest h = let more = rest h in omega (arith, more)
    by (Some j) is rest (inl e) = let same = ap (order_at xs) e ∙ ordered_at k xs j is in omega (arith, same)
    by (Some j) is rest (inr h) = let more = rest h in omega (arith, more)

once_from : (k left : ℕ) (xs : List NamedSignal) → Distinct (numbers_from k left xs)
once_from k zero xs = tt
once_from k (suc left) xs = by (place_where (has_order k) xs) refl (later_from (suc k) left xs) (once_from (suc k) left xs)
  where
    by : (p : Option ℕ) → place_where (has_order k) xs ≡ p → ((s : ℕ) → Member s (numbers_from (suc k) left xs) → suc k ≤ order_at xs s)
        → Distinct (numbers_from (suc k) left xs) → Distinct (option_to_list p ++ numbers_from (suc k) left xs)
    by None is later rest = rest
    by (Some j) is later rest = ((λ m. let more = later j m in let same = ordered_at k xs j is in absurd (omega (arith, more, same))), rest)

-- ---- each number is there

member_at : (xs : List NamedSignal) (s : ℕ) → s < length xs → (y : NamedSignal) × Member y xs × (y.order ≡ order_at xs s)
member_at [] s h = absurd (omega (arith, h))
member_at (x ∷ xs) zero h = (x, inl refl, refl)
member_at (x ∷ xs) (suc s) h = let there = member_at xs s (omega (arith, h)) in (there.0, inr there.1, there.2)

own_place : (xs : List NamedSignal) (s : ℕ) → HaveOwnOrders xs → s < length xs → place_where (has_order (order_at xs s)) xs ≡ Some s
own_place [] s own h = absurd (omega (arith, h))
own_place (x ∷ xs) zero own h = ap (λ b. cond b (Some 0) (option_map suc (place_where (has_order x.order) xs))) (eq-eqb x.order x.order refl)
own_place (x ∷ xs) (suc s) own h =
    by (x.order == order_at xs s) (eqb-true x.order (order_at xs s)) (member_at xs s (omega (arith, h))) (own_place xs s own.1 (omega (arith, h)))
  where
    by : (b : Bool) → (b ≡ true → x.order ≡ order_at xs s) → (y : NamedSignal) × Member y xs × (y.order ≡ order_at xs s)
        → place_where (has_order (order_at xs s)) xs ≡ Some s → cond b (Some 0) (option_map suc (place_where (has_order (order_at xs s)) xs)) ≡ Some (suc s)
    by true same there rest = absurd (own.0 there.0 there.1 (same refl ∙ sym there.2))
    by false same there rest = ap (option_map suc) rest

behind : (p : Option ℕ) (ks : List ℕ) (s : ℕ) → Member s ks → Member s (option_to_list p ++ ks)
behind None ks s m = m
behind (Some j) ks s m = inr m

all_from : (later k left : ℕ) (xs : List NamedSignal) (j s : ℕ) → later < left → j ≡ k + later → place_where (has_order j) xs ≡ Some s → Member s (numbers_from k left xs)
all_from later k zero xs j s h is found = absurd (omega (arith, h))
all_from zero k (suc left) xs j s h is found =
    let same : j ≡ k = omega (arith, is) in
    subst (λ (p : Option ℕ). Member s (option_to_list p ++ numbers_from (suc k) left xs)) (sym found ∙ ap (λ (i : ℕ). place_where (has_order i) xs) same) (inl refl)
all_from (suc later) k (suc left) xs j s h is found =
    behind (place_where (has_order k) xs) (numbers_from (suc k) left xs) s (all_from later (suc k) left xs j s (omega (arith, h)) (omega (arith, is)) found)

all_there : (names : List NamedSignal) (count : ℕ) → AreOwn count names → (s : ℕ) → s < length names → Member s (numbers_from 0 count names)
all_there names count so s h = all_from (order_at names s) 0 count names (order_at names s) s few (omega arith) (own_place names s so.own h)
  where
    few : order_at names s < count
    few = let there = member_at names s h in subst (λ (k : ℕ). k < count) there.2 (so.below there.0 there.1)

table_ordered : (names : List NamedSignal) (count : ℕ) → AreOwn count names → IsOrdered (record { signals = names; declared = numbers_from 0 count names })
table_ordered names count so = record { there = there_from 0 count names; all = all_there names count so; once = once_from 0 count names }

pub ordered : (m : ModuleDeclaration) (steps : List ModuleStep) (t : SignalTable) → module_table m steps ≡ Ok t → IsOrdered t
unfolding module_table
ordered m steps t is = by (declared_in (reach_in m) steps []) (declared_more (reach_in m) steps [] tt) is
  where
    by : (r : Result (List NamedSignal) Fault) → EndInOrder r → (r >>= λ xs. Ok (table_of (header_names m.ports) xs)) ≡ Ok t → IsOrdered t
    by (Ok xs) so e =
        let names = numbered (header_names m.ports) xs in
        subst IsOrdered (ok_same (table_of (header_names m.ports) xs) t e) (table_ordered names (length xs) (numbered_own (header_names m.ports) xs so))
    by (Err f) so e = absurd (true≢false (sym (ap is_ok e)))
      where
        is_ok : Result SignalTable Fault → Bool
        is_ok (Ok x) = true
        is_ok (Err y) = false

-- ---- those that meet a test

once_filtered : (test : ℕ → Bool) (ks : List ℕ) → Distinct ks → Distinct (filter test ks)
once_filtered test [] d = tt
once_filtered test (k ∷ ks) d = by (test k) (once_filtered test ks d.1)
  where
    by : (b : Bool) → Distinct (filter test ks) → Distinct (cond b (k ∷ filter test ks) (filter test ks))
    by true rest = ((λ m. d.0 (member_filtered test ks k m).0), rest)
    by false rest = rest

-- ---- inputs

abbrev pub input_at : List NamedSignal → ℕ → Bool
input_at [] k = false
input_at (x ∷ xs) zero = is_input x.kind
input_at (x ∷ xs) (suc k) = input_at xs k

-- an input, by its place behind the first one
pub record IsInputAt (xs : List NamedSignal) (first s : ℕ) : Type 0 where
  pub place : ℕ
  pub is : s ≡ first + place
  pub within : place < length xs
  pub seen : input_at xs place ≡ true

next_input : (x : NamedSignal) (xs : List NamedSignal) (first s : ℕ) → IsInputAt xs (suc first) s → IsInputAt (x ∷ xs) first s
next_input x xs first s h =
    let same = h.is in
    let below = h.within in
    record { place = suc h.place; is = omega (arith, same); within = omega (arith, below); seen = h.seen }

pub input_from : (first : ℕ) (clock : Option NameId) (xs : List NamedSignal) (s : ℕ) → Member s (data_inputs_from first clock xs) → IsInputAt xs first s
input_from first clock [] s m = absurd m
input_from first clock (x ∷ xs) s m = by (is_data_input clock x) refl (input_from (suc first) clock xs s) m
  where
    by : (b : Bool) → is_data_input clock x ≡ b → (Member s (data_inputs_from (suc first) clock xs) → IsInputAt xs (suc first) s)
        → Member s (cond b (first ∷ data_inputs_from (suc first) clock xs) (data_inputs_from (suc first) clock xs)) → IsInputAt (x ∷ xs) first s
    by true is rest (inl e) = record { place = 0; is = omega (arith, e); within = omega arith; seen = and_left (is_input x.kind) (not (is_clock clock x.name.name)) is }
    by true is rest (inr h) = next_input x xs first s (rest h)
    by false is rest h = next_input x xs first s (rest h)

inputs_once_from : (first : ℕ) (clock : Option NameId) (xs : List NamedSignal) → Distinct (data_inputs_from first clock xs)
inputs_once_from first clock [] = tt
inputs_once_from first clock (x ∷ xs) = by (is_data_input clock x) (inputs_once_from (suc first) clock xs)
  where
    by : (b : Bool) → Distinct (data_inputs_from (suc first) clock xs)
        → Distinct (cond b (first ∷ data_inputs_from (suc first) clock xs) (data_inputs_from (suc first) clock xs))
    by true rest = ((λ m. let same = (input_from (suc first) clock xs first m).is in absurd (omega (arith, same))), rest)
    by false rest = rest

-- ---- no register is an input

never_both : (k : SignalKind) (b : Bool) → is_input k ≡ true → (is_variable k && b) ≡ true → ⊥
never_both kind.Input b a v = absurd (true≢false (sym v))
never_both kind.Net b a v = absurd (true≢false (sym a))
never_both kind.Variable b a v = absurd (true≢false (sym a))

not_both : (settled : Bool) (xs : List NamedSignal) (k : ℕ) → input_at xs k ≡ true → is_register_at settled (slice_get xs k) ≡ true → ⊥
not_both settled [] k a b = absurd (true≢false (sym a))
not_both settled (x ∷ xs) zero a b = never_both x.kind (not settled) a b
not_both settled (x ∷ xs) (suc k) a b = not_both settled xs k a b

pub apart : (settled : ℕ → Bool) (clock : Option NameId) (t : SignalTable) → IsOrdered t → AreApart (registers settled t) (data_inputs clock t.signals) (length t.signals)
apart settled clock t order = record {
  inputs_there = λ s m. let h = input_from 0 clock t.signals s m in let same = h.is in let below = h.within in omega (arith, same, below);
  registers_there = λ s m. order.there s (member_filtered (is_register settled t.signals) t.declared s m).0;
  registers_once = once_filtered (is_register settled t.signals) t.declared order.once;
  inputs_once = inputs_once_from 0 clock t.signals;
  apart = λ s r m.
      let h = input_from 0 clock t.signals s m in
      let is = h.is in
      let same : h.place ≡ s = omega (arith, is) in
      not_both (settled s) t.signals s (ap (input_at t.signals) (sym same) ∙ h.seen) (member_filtered (is_register settled t.signals) t.declared s r).1;
}

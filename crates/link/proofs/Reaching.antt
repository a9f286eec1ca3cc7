-- Widths of ports against those of a whole unit, and the inputs that connections go into.
use Rattle.std.proofs.Common.{◌≡◌, ℕ, zero, suc, ◌+◌, ◌<◌, ◌==◌, true, false, ◌&&◌, inl, inr, List, [], ◌∷◌, length, take, slice_index, cond, nat_le, nat_lt, Option, refl, sym, ◌∙◌, ap, subst, ltb-true, lt-ltb, eqb-true, true≢false, arith}
use Rattle.std.proofs.Math.Nat.{min-le_left, min-le_right}
use Rattle.std.proofs.lemmas.Bool.{and_from}
use Rattle.std.proofs.lemmas.List.{length-take, get_or-take}
use Rattle.ls_text.specs.declared.name_id.NameId.{NameId}
use Rattle.typed_ir.specs.declared.lane.Lane.{Lane}
use Rattle.typed_ir.specs.declared.span.Span.{Span}
use Rattle.typed_ir.specs.Sized.{Sized, Constant, Name, Part, Pick, Unary, Binary, Choice, Concat, Repeat, Resized, agrees, fits_signals, is_signal, is_span}
use Rattle.typed_ir.specs.Stmts.{is_sized}
use Rattle.typed_ir.specs.Nodes.{are_lanes, lane_spans}
use Rattle.typed_ir.specs.Orders.{Member, at_or}
use Rattle.typed_ir.specs.Valuations.{within, any_within}
use Rattle.typed_ir.proofs.Cases.{and_left, and_right, by_cases, only_right}
use Rattle.typed_ir.specs.declared.child_shape.ChildShape.{ChildShape}
use Rattle.typed_ir.specs.declared.port_shape.PortShape.{PortShape}
use Rattle.typed_ir.specs.Shapes.{is_data_input, data_inputs, is_input_of, are_inputs_of}
use Rattle.typed_ir.proofs.Fitting.{both_from}

-- ---- what fits the beginning of a list of widths fits the list

pub record Extends (whole part : List ℕ) : Type 0 where
  pub there : (s : ℕ) → s < length part → s < length whole
  pub same : (s : ℕ) → s < length part → slice_index whole s ≡ slice_index part s

pub extends_take : (n : ℕ) (whole part : List ℕ) → take n whole ≡ part → Extends whole part
extends_take n whole part is = subst (Extends whole) is (record {
  there = λ s h. omega (arith, h, length-take n whole, min-le_right n (length whole));
  same = λ s h. sym (get_or-take n whole s 0 (omega (arith, h, length-take n whole, min-le_left n (length whole))));
})

pub extends_none : (whole : List ℕ) → Extends whole []
extends_none whole = record { there = λ s h. absurd (omega (arith, h)); same = λ s h. absurd (omega (arith, h)) }

signal_reaches : (ws part : List ℕ) → Extends ws part → (s : ℕ) → nat_lt s (length part) ≡ true → nat_lt s (length ws) ≡ true
signal_reaches ws part holds s h = lt-ltb s (length ws) (holds.there s (ltb-true s (length part) h))

span_reaches : (ws part : List ℕ) → Extends ws part → (p : Span) → is_span p part ≡ true → is_span p ws ≡ true
span_reaches ws part holds p h =
    let inside : nat_lt p.signal (length part) ≡ true = and_left _ _ h in
    let same = holds.same p.signal (ltb-true p.signal (length part) inside) in
    and_from _ _ (signal_reaches ws part holds p.signal inside)
    (ap (λ w. nat_le 1 p.width && nat_le (p.low + p.width) w) same ∙ and_right (nat_lt p.signal (length part)) _ h)

name_reaches : (ws part : List ℕ) → Extends ws part → (s w : ℕ) → is_signal s w part ≡ true → is_signal s w ws ≡ true
name_reaches ws part holds s w h =
    let inside : nat_lt s (length part) ≡ true = and_left _ _ h in
    and_from _ _ (signal_reaches ws part holds s inside)
    (ap (λ x. x == w) (holds.same s (ltb-true s (length part) inside)) ∙ and_right (nat_lt s (length part)) _ h)

form_reaches : (ws part : List ℕ) → Extends ws part → (e : Sized) → fits_signals e part ≡ true → fits_signals e ws ≡ true
form_reaches ws part holds (Constant width value) h = refl
form_reaches ws part holds (Name signal width) h = name_reaches ws part holds signal width h
form_reaches ws part holds (Part span) h = span_reaches ws part holds span h
form_reaches ws part holds (Pick signal width below signed index) h =
    both_from _ (fits_signals index part) _ _ (signal_reaches ws part holds signal) (form_reaches ws part holds index) h
form_reaches ws part holds (Unary op a) h = form_reaches ws part holds a h
form_reaches ws part holds (Binary op a b) h =
    both_from (fits_signals a part) (fits_signals b part) _ _ (form_reaches ws part holds a) (form_reaches ws part holds b) h
form_reaches ws part holds (Choice c a b) h =
    both_from (fits_signals c part) (fits_signals a part && fits_signals b part) _ _ (form_reaches ws part holds c)
    (both_from (fits_signals a part) (fits_signals b part) _ _ (form_reaches ws part holds a) (form_reaches ws part holds b)) h
form_reaches ws part holds (Concat width a b) h =
    both_from (fits_signals a part) (fits_signals b part) _ _ (form_reaches ws part holds a) (form_reaches ws part holds b) h
form_reaches ws part holds (Repeat width count a) h = form_reaches ws part holds a h
form_reaches ws part holds (Resized a width signed) h = form_reaches ws part holds a h

pub sized_reaches : (ws part : List ℕ) → Extends ws part → (e : Sized) → is_sized e part ≡ true → is_sized e ws ≡ true
sized_reaches ws part holds e h =
    and_from (agrees e) (fits_signals e ws) (and_left (agrees e) (fits_signals e part) h)
    (form_reaches ws part holds e (and_right (agrees e) (fits_signals e part) h))

pub lanes_reach : (ws part : List ℕ) → Extends ws part → (lanes : List Lane) → are_lanes lanes part ≡ true → are_lanes lanes ws ≡ true
lanes_reach ws part holds [] h = refl
lanes_reach ws part holds (l ∷ ls) h =
    both_from (nat_lt l.shift 128 && is_span l.span part) (are_lanes ls part) _ _
    (both_from (nat_lt l.shift 128) (is_span l.span part) _ _ (λ k. k) (span_reaches ws part holds l.span)) (lanes_reach ws part holds ls) h

-- ---- lanes that lie in data inputs

lanes_into : (child : ChildShape) (lanes : List Lane) (s i : ℕ) → are_inputs_of child lanes ≡ true → any_within (lane_spans lanes) s i ≡ true → is_input_of child s ≡ true
lanes_into child [] s i are h = absurd (true≢false (sym h))
lanes_into child (l ∷ ls) s i are h =
    by_cases (within l.span s i)
    (λ yes. ap (is_input_of child) (eqb-true s l.span.signal (and_left (s == l.span.signal) _ yes))
    ∙ and_left (is_input_of child l.span.signal) (are_inputs_of child ls) are)
    (λ no. lanes_into child ls s i (and_right (is_input_of child l.span.signal) (are_inputs_of child ls) are)
    (only_right (within l.span s i) (any_within (lane_spans ls) s i) no h))

later_in : (clock : Option NameId) (p : PortShape) (ps : List PortShape) (k s : ℕ) → Member (k + suc s) (data_inputs clock (suc k) ps)
    → Member (k + suc s) (data_inputs clock k (p ∷ ps))
later_in clock p ps k s later = by_cases (is_data_input clock p)
    (λ yes. subst (Member (k + suc s)) (sym (ap (λ b. cond b (k ∷ data_inputs clock (suc k) ps) (data_inputs clock (suc k) ps)) yes)) (inr later))
    (λ no. subst (Member (k + suc s)) (sym (ap (λ b. cond b (k ∷ data_inputs clock (suc k) ps) (data_inputs clock (suc k) ps)) no)) later)

-- a data input stands in the list of these
input_in : (clock : Option NameId) (ports : List PortShape) (k s : ℕ) → at_or (is_data_input clock) false ports s ≡ true → Member (k + s) (data_inputs clock k ports)
input_in clock [] k s h = absurd (true≢false (sym h))
input_in clock (p ∷ ps) k zero h = subst (Member (k + 0)) (sym (ap (λ b. cond b (k ∷ data_inputs clock (suc k) ps) (data_inputs clock (suc k) ps)) h)) (inl (omega arith))
input_in clock (p ∷ ps) k (suc s) h =
    later_in clock p ps k s (subst (λ n. Member n (data_inputs clock (suc k) ps)) (omega arith) (input_in clock ps (suc k) s h))

pub driven_input : (child : ChildShape) (lanes : List Lane) (s i : ℕ) → are_inputs_of child lanes ≡ true → any_within (lane_spans lanes) s i ≡ true
    → Member s (data_inputs child.clock 0 child.ports)
driven_input child lanes s i are h =
    subst (λ n. Member n (data_inputs child.clock 0 child.ports)) (omega arith) (input_in child.clock child.ports 0 s (lanes_into child lanes s i are h))

-- Sound units give a design in which no bit has two drivers.
use Rattle.std.proofs.Common.{◌≡◌, ℕ, zero, suc, ◌+◌, ◌-◌, ◌<◌, ◌≤◌, Bool, true, false, ◌&&◌, ◌⊎◌, inl, inr, List, [], ◌∷◌, ◌++◌, map, length, slice_index, cond, true≢false, refl, sym, ◌∙◌, ap, ap₂, subst, eq-eqb, arith}
use Rattle.std.proofs.lemmas.Bool.{cases_lt}
use Rattle.typed_ir.specs.declared.lane.Lane.{Lane}
use Rattle.typed_ir.specs.Valuations.{any_within}
use Rattle.typed_ir.specs.Nodes.{FlatNode, lane_spans, node_drives}
use Rattle.typed_ir.specs.Orders.{Each, Member}
use Rattle.typed_ir.proofs.Members.{member_append}
use Rattle.typed_ir.specs.Shifts.{shifted_lane, shifted_span, shifted_node}
use Rattle.typed_ir.specs.Trees.{UnitNode, Own, Into, From, SizedUnit, Instances, Nothing, One, signals_in, firsts, copied_out, node_there, nodes_at, registers_at, count, own_drives, port_drives, is_kid_input, IsFit, IsSoundUnit, AreSound}
use Rattle.typed_ir.proofs.Pulled.{spans_shifted, spans_below, drives_shifted, drives_below, lanes_shifted}

-- ---- counts

pub count_append : {A : Type 0} (f : A → Bool) (xs ys : List A) → count f (xs ++ ys) ≡ count f xs + count f ys
count_append f [] ys = omega arith
count_append f (x ∷ xs) ys = ap (λ n. cond (f x) 1 0 + n) (count_append f xs ys) ∙ omega arith

pub count_map : {A B : Type 0} (f : B → Bool) (g : A → B) (xs : List A) → count f (map g xs) ≡ count (λ x. f (g x)) xs
count_map f g [] = refl
count_map f g (x ∷ xs) = ap (λ n. cond (f (g x)) 1 0 + n) (count_map f g xs)

-- of one element at most one is counted
pub one_at_most : (b : Bool) → cond b 1 0 + 0 ≤ 1
one_at_most true = omega arith
one_at_most false = omega arith

one_le : (a b : Bool) (m n : ℕ) → (a ≡ true → b ≡ true) → m ≤ n → cond a 1 0 + m ≤ cond b 1 0 + n
one_le false false m n h k = omega (arith, k)
one_le false true m n h k = omega (arith, k)
one_le true true m n h k = omega (arith, k)
one_le true false m n h k = absurd (true≢false (sym (h refl)))

count_le : {A : Type 0} (P : A → Type 0) (f g : A → Bool) (xs : List A) → Each P xs → ((x : A) → P x → f x ≡ true → g x ≡ true) → count f xs ≤ count g xs
count_le P f g [] all h = omega arith
count_le P f g (x ∷ xs) all h = one_le (f x) (g x) (count f xs) (count g xs) (h x all.0) (count_le P f g xs all.1 h)

count_found : {A : Type 0} (P : A → Type 0) (Q : Type 0) (f : A → Bool) (xs : List A) → Each P xs → ((x : A) → P x → f x ≡ true → Q) → (count f xs ≡ 0) ⊎ Q
count_found P Q f [] all h = inl refl
count_found P Q f (x ∷ xs) all h = either (f x) refl (count_found P Q f xs all.1 h)
  where
    either : (b : Bool) → f x ≡ b → (count f xs ≡ 0) ⊎ Q → (count f (x ∷ xs) ≡ 0) ⊎ Q
    either true e rest = inr (h x all.0 e)
    either false e (inl none) = inl (ap (λ b. cond b 1 0 + count f xs) e ∙ ap (λ n. 0 + n) none)
    either false e (inr q) = inr q

pub count_none : {A : Type 0} (P : A → Type 0) (f : A → Bool) (xs : List A) → Each P xs → ((x : A) → P x → f x ≡ true → ⊥) → count f xs ≡ 0
count_none P f xs all h = chosen (count_found P ⊥ f xs all h)
  where
    chosen : (count f xs ≡ 0) ⊎ ⊥ → count f xs ≡ 0
    chosen (inl none) = none
    chosen (inr bad) = absurd bad

-- ---- what a shifted node drives, by the numbers that it had

pub record Back (first s : ℕ) (P : ℕ → Type 0) : Type 0 where
  pub t : ℕ
  pub there : first + t ≡ s
  pub is : P t

lanes_back : (first : ℕ) (lanes : List Lane) (s i : ℕ) → any_within (lane_spans (map (shifted_lane first) lanes)) s i ≡ true
    → Back first s (λ t. any_within (lane_spans lanes) t i ≡ true)
lanes_back first lanes s i h = at (cases_lt s first)
  where
    shifted_is : any_within (map (shifted_span first) (lane_spans lanes)) s i ≡ true
    shifted_is = sym (ap (λ ps. any_within ps s i) (lanes_shifted first lanes)) ∙ h

    at : (s < first) ⊎ (first ≤ s) → Back first s (λ t. any_within (lane_spans lanes) t i ≡ true)
    at (inl low) = absurd (true≢false (sym shifted_is ∙ spans_below first (lane_spans lanes) s i low))
    at (inr far) =
        let e : first + (s - first) ≡ s = omega arith in
        record {
          t = s - first;
          there = e;
          is = sym (spans_shifted first (lane_spans lanes) (s - first) i) ∙ ap (λ n. any_within (map (shifted_span first) (lane_spans lanes)) n i) e ∙ shifted_is;
        }

node_back : (first : ℕ) (n : FlatNode) (s i : ℕ) → node_drives (shifted_node first n) s i ≡ true → Back first s (λ t. node_drives n t i ≡ true)
node_back first n s i h = at (cases_lt s first)
  where
    at : (s < first) ⊎ (first ≤ s) → Back first s (λ t. node_drives n t i ≡ true)
    at (inl low) = absurd (true≢false (sym h ∙ drives_below first n s i low))
    at (inr far) =
        let e : first + (s - first) ≡ s = omega arith in
        record { t = s - first; there = e; is = sym (drives_shifted first n (s - first) i) ∙ ap (λ m. node_drives (shifted_node first n) m i) e ∙ h }

-- ---- inputs of instances side by side

abbrev pub kid_at : ℕ → Instances → ℕ → ℕ
kid_at first tree c = slice_index (firsts first tree) c

kid_from : (first : ℕ) (tree : Instances) (c p : ℕ) → is_kid_input tree c p → first ≤ kid_at first tree c + p
kid_from first Nothing c p h = absurd h
kid_from first (One name u within after) zero p h = omega arith
kid_from first (One name u within after) (suc c) p h = omega (arith, kid_from (first + length u.signals + signals_in within) after c p h)

kid_to : (first : ℕ) (tree : Instances) (c p : ℕ) → AreSound tree → is_kid_input tree c p → kid_at first tree c + p < first + signals_in tree
kid_to first Nothing c p sound h = absurd h
kid_to first (One name u within after) zero p sound h = omega (arith, sound.0.unit.inputs_there p h)
kid_to first (One name u within after) (suc c) p sound h = omega (arith, kid_to (first + length u.signals + signals_in within) after c p sound.2 h)

kid_same : (first : ℕ) (tree : Instances) (c p d q : ℕ) → AreSound tree → is_kid_input tree c p → is_kid_input tree d q
    → kid_at first tree c + p ≡ kid_at first tree d + q → (c ≡ d) × (p ≡ q)
kid_same first Nothing c p d q sound h k e = absurd h
kid_same first (One name u within after) zero p zero q sound h k e = (refl, omega (arith, e))
kid_same first (One name u within after) zero p (suc d) q sound h k e =
    absurd (omega (arith, e, sound.0.unit.inputs_there p h, kid_from (first + length u.signals + signals_in within) after d q k))
kid_same first (One name u within after) (suc c) p zero q sound h k e =
    absurd (omega (arith, e, sound.0.unit.inputs_there q k, kid_from (first + length u.signals + signals_in within) after c p h))
kid_same first (One name u within after) (suc c) p (suc d) q sound h k e =
    let same = kid_same (first + length u.signals + signals_in within) after c p d q sound.2 h k e in
    (ap suc same.0, same.1)

pub record Hit (first : ℕ) (tree : Instances) (s : ℕ) : Type 0 where
  pub c : ℕ
  pub p : ℕ
  pub is : is_kid_input tree c p
  pub there : kid_at first tree c + p ≡ s

-- ---- what one instance drives

abbrev placed_drives : ℕ → ℕ → Instances → ℕ → ℕ → UnitNode → Bool
placed_drives first second within s i x = node_drives (node_there first (kid_at second within) x) s i

own_case : (first n t i : ℕ) (within : Instances) → t < n
    → (x : UnitNode) → IsFit n within x → placed_drives first (first + n) within (first + t) i x ≡ true → own_drives t i x ≡ true
unfolding node_drives
own_case first n t i within h (Own node) fit is = sym (drives_shifted first node t i) ∙ is
own_case first n t i within h (From c form lanes e) fit is =
    sym (ap (λ ps. any_within ps (first + t) i) (lanes_shifted first lanes) ∙ spans_shifted first (lane_spans lanes) t i) ∙ is
own_case first n t i within h (Into c form lanes e) fit is =
    let k = kid_at (first + n) within c in
    let b = lanes_back k lanes (first + t) i is in
    absurd (omega (arith, b.there, h, kid_from (first + n) within c b.t (fit b.t i b.is)))

found_case : (first n s i : ℕ) (within : Instances) → first + n ≤ s
    → (x : UnitNode) → IsFit n within x → placed_drives first (first + n) within s i x ≡ true → Hit (first + n) within s
unfolding node_drives
found_case first n s i within h (Own node) fit is =
    absurd (let b = node_back first node s i is in omega (arith, b.there, fit b.t i b.is, h))
found_case first n s i within h (From c form lanes e) fit is =
    absurd (let b = lanes_back first lanes s i is in omega (arith, b.there, fit b.t i b.is, h))
found_case first n s i within h (Into c form lanes e) fit is =
    let b = lanes_back (kid_at (first + n) within c) lanes s i is in
    record { c = c; p = b.t; is = fit b.t i b.is; there = b.there }

out_case : (first n s i : ℕ) (within : Instances) → AreSound within → (s < first) ⊎ (first + n + signals_in within ≤ s)
    → (x : UnitNode) → IsFit n within x → placed_drives first (first + n) within s i x ≡ true → ⊥
unfolding node_drives
out_case first n s i within sound (inl h) (Own node) fit is = let b = node_back first node s i is in omega (arith, b.there, h)
out_case first n s i within sound (inl h) (From c form lanes e) fit is = let b = lanes_back first lanes s i is in omega (arith, b.there, h)
out_case first n s i within sound (inl h) (Into c form lanes e) fit is =
    let b = lanes_back (kid_at (first + n) within c) lanes s i is in omega (arith, b.there, h, kid_from (first + n) within c b.t (fit b.t i b.is))
out_case first n s i within sound (inr h) (Own node) fit is = let b = node_back first node s i is in omega (arith, b.there, fit b.t i b.is, h)
out_case first n s i within sound (inr h) (From c form lanes e) fit is = let b = lanes_back first lanes s i is in omega (arith, b.there, fit b.t i b.is, h)
out_case first n s i within sound (inr h) (Into c form lanes e) fit is =
    let b = lanes_back (kid_at (first + n) within c) lanes s i is in omega (arith, b.there, h, kid_to (first + n) within c b.t sound (fit b.t i b.is))

port_case : (first n c p i : ℕ) (within : Instances) → AreSound within → is_kid_input within c p
    → (x : UnitNode) → IsFit n within x → placed_drives first (first + n) within (kid_at (first + n) within c + p) i x ≡ true → port_drives c p i x ≡ true
unfolding node_drives
port_case first n c p i within sound h (Own node) fit is =
    absurd (let b = node_back first node _ i is in omega (arith, b.there, fit b.t i b.is, kid_from (first + n) within c p h))
port_case first n c p i within sound h (From d form lanes e) fit is =
    absurd (let b = lanes_back first lanes _ i is in omega (arith, b.there, fit b.t i b.is, kid_from (first + n) within c p h))
port_case first n c p i within sound h (Into d form lanes e) fit is =
    let b = lanes_back (kid_at (first + n) within d) lanes _ i is in
    let same = kid_same (first + n) within d b.t c p sound (fit b.t i b.is) h b.there in
    ap₂ (λ x y. x && y) (eq-eqb d c same.0) (ap (λ q. any_within (lane_spans lanes) q i) (sym same.1) ∙ b.is)

-- ---- members of lists

pub member_back : (first s : ℕ) (rs : List ℕ) → Member s (map (λ r. first + r) rs) → Back first s (λ t. Member t rs)
member_back first s [] h = absurd h
member_back first s (r ∷ rs) (inl e) = record { t = r; there = sym e; is = inl refl }
member_back first s (r ∷ rs) (inr h) = let b = member_back first s rs h in record { t = b.t; there = b.there; is = inr b.is }

pub member_there : (first t : ℕ) (rs : List ℕ) → Member t rs → Member (first + t) (map (λ r. first + r) rs)
member_there first t [] h = absurd h
member_there first t (r ∷ rs) (inl e) = inl (ap (λ n. first + n) e)
member_there first t (r ∷ rs) (inr h) = inr (member_there first t rs h)

-- ---- registers of a tree

abbrev pub registers_of : List ℕ → ℕ → Instances → List ℕ
registers_of path first tree = copied_out registers_at path first tree

pub record InRange (low high s : ℕ) : Type 0 where
  pub from : low ≤ s
  pub to : s < high

-- a register of an instance, of those in it, or of those after it
data Where (first s : ℕ) (u : SizedUnit) (inner later : List ℕ) : Type 0 where
  mine : (t : ℕ) → first + t ≡ s → Member t u.registers → Where first s u inner later
  inside : Member s inner → Where first s u inner later
  behind : Member s later → Where first s u inner later

registers_where : (first s : ℕ) (u : SizedUnit) (inner later : List ℕ) → Member s (map (λ r. first + r) u.registers ++ (inner ++ later))
    → Where first s u inner later
registers_where first s u inner later h = at (member_append s (map (λ r. first + r) u.registers) (inner ++ later) h)
  where
    last : Member s inner ⊎ Member s later → Where first s u inner later
    last (inl k) = inside k
    last (inr k) = behind k

    at : Member s (map (λ r. first + r) u.registers) ⊎ Member s (inner ++ later) → Where first s u inner later
    at (inl k) = let b = member_back first s u.registers k in mine b.t b.there b.is
    at (inr k) = last (member_append s inner later k)

range_parts : (first s : ℕ) (u : SizedUnit) (within after : Instances) (inner later : List ℕ) → IsSoundUnit u within
    → (Member s inner → InRange (first + length u.signals) (first + length u.signals + signals_in within) s)
    → (Member s later → InRange (first + length u.signals + signals_in within) (first + length u.signals + signals_in within + signals_in after) s)
    → Where first s u inner later → InRange first (first + (length u.signals + signals_in within + signals_in after)) s
range_parts first s u within after inner later sound f g (mine t e m) =
    record { from = omega (arith, e); to = omega (arith, e, sound.unit.registers_there t m) }
range_parts first s u within after inner later sound f g (inside k) = record { from = omega (arith, (f k).from); to = omega (arith, (f k).to) }
range_parts first s u within after inner later sound f g (behind k) = record { from = omega (arith, (g k).from); to = omega (arith, (g k).to) }

pub registers_range : (path : List ℕ) (first s : ℕ) (tree : Instances) → AreSound tree → Member s (registers_of path first tree) → InRange first (first + signals_in tree) s
registers_range path first s Nothing sound h = absurd h
registers_range path first s (One name u within after) sound h =
    range_parts first s u within after (registers_of (path ++ name ∷ []) (first + length u.signals) within)
    (registers_of path (first + length u.signals + signals_in within) after) sound.0
    (registers_range (path ++ name ∷ []) (first + length u.signals) s within sound.1)
    (registers_range path (first + length u.signals + signals_in within) s after sound.2)
    (registers_where first s u _ _ h)

-- no register is a data input of an instance
clash : (first s : ℕ) (name : ℕ) (u : SizedUnit) (within after : Instances) (inner later : List ℕ) → IsSoundUnit u within
    → (Member s inner → InRange (first + length u.signals) (first + length u.signals + signals_in within) s)
    → (Member s later → InRange (first + length u.signals + signals_in within) (first + length u.signals + signals_in within + signals_in after) s)
    → (Member s later → Hit (first + length u.signals + signals_in within) after s → ⊥)
    → Where first s u inner later → (c p : ℕ) → is_kid_input (One name u within after) c p → kid_at first (One name u within after) c + p ≡ s → ⊥
clash first s name u within after inner later sound f g other (mine t e m) zero p is there =
    let same : t ≡ p = omega (arith, e, there) in sound.unit.apart p (subst (λ z. Member z u.registers) same m) is
clash first s name u within after inner later sound f g other (mine t e m) (suc c) p is there =
    omega (arith, e, there, sound.unit.registers_there t m, kid_from (first + length u.signals + signals_in within) after c p is)
clash first s name u within after inner later sound f g other (inside k) zero p is there = omega (arith, there, sound.unit.inputs_there p is, (f k).from)
clash first s name u within after inner later sound f g other (inside k) (suc c) p is there =
    omega (arith, there, (f k).to, kid_from (first + length u.signals + signals_in within) after c p is)
clash first s name u within after inner later sound f g other (behind k) zero p is there = omega (arith, there, sound.unit.inputs_there p is, (g k).from)
clash first s name u within after inner later sound f g other (behind k) (suc c) p is there =
    other k (record { c = c; p = p; is = is; there = there })

pub no_register : (path : List ℕ) (first s : ℕ) (tree : Instances) → AreSound tree → Member s (registers_of path first tree) → Hit first tree s → ⊥
no_register path first s Nothing sound h hit = absurd h
no_register path first s (One name u within after) sound h hit =
    clash first s name u within after (registers_of (path ++ name ∷ []) (first + length u.signals) within)
    (registers_of path (first + length u.signals + signals_in within) after) sound.0
    (registers_range (path ++ name ∷ []) (first + length u.signals) s within sound.1)
    (registers_range path (first + length u.signals + signals_in within) s after sound.2)
    (no_register path (first + length u.signals + signals_in within) s after sound.2)
    (registers_where first s u _ _ h) hit.c hit.p hit.is hit.there

-- ---- the drivers of a tree

abbrev pub nodes_given : List ℕ → ℕ → Instances → List FlatNode
nodes_given path first tree = copied_out nodes_at path first tree

pub record Driven (path : List ℕ) (first : ℕ) (tree : Instances) (nodes : List FlatNode) : Type 0 where
  pub none : (s i : ℕ) → (s < first) ⊎ (first + signals_in tree ≤ s) → count (λ k. node_drives k s i) nodes ≡ 0
  pub few : (s i : ℕ) → count (λ k. node_drives k s i) nodes ≤ 1
  pub inputs : (c p i : ℕ) → is_kid_input tree c p → count (λ k. node_drives k (kid_at first tree c + p) i) nodes ≡ 0
  pub registers : (s i : ℕ) → Member s (registers_of path first tree) → count (λ k. node_drives k s i) nodes ≡ 0

record Parts (path here : List ℕ) (first : ℕ) (u : SizedUnit) (within after : Instances) (own inner later : List FlatNode) : Type 0 where
  own_out : (s i : ℕ) → (s < first) ⊎ (first + length u.signals + signals_in within ≤ s) → count (λ k. node_drives k s i) own ≡ 0
  own_few : (t i : ℕ) → t < length u.signals → count (λ k. node_drives k (first + t) i) own ≤ count (own_drives t i) u.nodes
  own_found : (s i : ℕ) → first + length u.signals ≤ s → (count (λ k. node_drives k s i) own ≡ 0) ⊎ Hit (first + length u.signals) within s
  own_port : (c p i : ℕ) → is_kid_input within c p → count (λ k. node_drives k (kid_at (first + length u.signals) within c + p) i) own ≤ 1
  within_driven : Driven here (first + length u.signals) within inner
  after_driven : Driven path (first + length u.signals + signals_in within) after later

abbrev total : ℕ → ℕ → List FlatNode → List FlatNode → List FlatNode → ℕ
total s i own inner later =
    count (λ k. node_drives k s i) own + (count (λ k. node_drives k s i) inner + count (λ k. node_drives k s i) later)

few_parts : (path here : List ℕ) (first : ℕ) (u : SizedUnit) (within after : Instances) (own inner later : List FlatNode) → IsSoundUnit u within
    → Parts path here first u within after own inner later → (s i : ℕ) → total s i own inner later ≤ 1
few_parts path here first u within after own inner later sound parts s i =
    at (cases_lt s first) (cases_lt s (first + length u.signals)) (cases_lt s (first + length u.signals + signals_in within))
  where
    mid : s < first + length u.signals + signals_in within → (count (λ k. node_drives k s i) own ≡ 0) ⊎ Hit (first + length u.signals) within s
        → total s i own inner later ≤ 1
    mid k (inl e) = omega (arith, e, parts.within_driven.few s i, parts.after_driven.none s i (inl k))
    mid k (inr hit) =
        omega (
          arith,
          subst (λ z. count (λ k. node_drives k z i) own ≤ 1) hit.there (parts.own_port hit.c hit.p i hit.is),
          subst (λ z. count (λ k. node_drives k z i) inner ≡ 0) hit.there (parts.within_driven.inputs hit.c hit.p i hit.is),
          parts.after_driven.none s i (inl k),
        )

    at : (s < first) ⊎ (first ≤ s) → (s < first + length u.signals) ⊎ (first + length u.signals ≤ s)
        → (s < first + length u.signals + signals_in within) ⊎ (first + length u.signals + signals_in within ≤ s) → total s i own inner later ≤ 1
    at (inl h) j k =
        omega (arith, parts.own_out s i (inl h), parts.within_driven.none s i (inl (omega (arith, h))), parts.after_driven.none s i (inl (omega (arith, h))))
    at (inr h) (inl j) k =
        let back : first + (s - first) ≡ s = omega arith in
        omega (
          arith,
          subst (λ z. count (λ k. node_drives k z i) own ≤ count (own_drives (s - first) i) u.nodes) back (parts.own_few (s - first) i (omega (arith, h, j))),
          sound.unit.own (s - first) i,
          parts.within_driven.none s i (inl j),
          parts.after_driven.none s i (inl (omega (arith, j))),
        )
    at (inr h) (inr j) (inl k) = mid k (parts.own_found s i j)
    at (inr h) (inr j) (inr k) = omega (arith, parts.own_out s i (inr k), parts.within_driven.none s i (inr k), parts.after_driven.few s i)

none_parts : (path here : List ℕ) (first : ℕ) (u : SizedUnit) (within after : Instances) (own inner later : List FlatNode)
    → Parts path here first u within after own inner later → (s i : ℕ)
    → (s < first) ⊎ (first + (length u.signals + signals_in within + signals_in after) ≤ s) → total s i own inner later ≡ 0
none_parts path here first u within after own inner later parts s i (inl h) =
    omega (arith, parts.own_out s i (inl h), parts.within_driven.none s i (inl (omega (arith, h))), parts.after_driven.none s i (inl (omega (arith, h))))
none_parts path here first u within after own inner later parts s i (inr h) =
    omega (arith, parts.own_out s i (inr (omega (arith, h))), parts.within_driven.none s i (inr (omega (arith, h))), parts.after_driven.none s i (inr (omega (arith, h))))

inputs_parts : (path here : List ℕ) (first name : ℕ) (u : SizedUnit) (within after : Instances) (own inner later : List FlatNode) → IsSoundUnit u within
    → Parts path here first u within after own inner later → (c p i : ℕ) → is_kid_input (One name u within after) c p
    → total (kid_at first (One name u within after) c + p) i own inner later ≡ 0
inputs_parts path here first name u within after own inner later sound parts zero p i h =
    let small = sound.unit.inputs_there p h in
    omega (
      arith,
      parts.own_few p i small,
      sound.unit.inputs_held p i h,
      parts.within_driven.none (first + p) i (inl (omega (arith, small))),
      parts.after_driven.none (first + p) i (inl (omega (arith, small))),
    )
inputs_parts path here first name u within after own inner later sound parts (suc c) p i h =
    let s = kid_at (first + length u.signals + signals_in within) after c + p in
    let far : first + length u.signals + signals_in within ≤ s = kid_from (first + length u.signals + signals_in within) after c p h in
    omega (arith, parts.own_out s i (inr far), parts.within_driven.none s i (inr far), parts.after_driven.inputs c p i h)

registers_parts : (path here : List ℕ) (first : ℕ) (u : SizedUnit) (within after : Instances) (own inner later : List FlatNode)
    → IsSoundUnit u within → AreSound within → AreSound after
    → Parts path here first u within after own inner later → (s i : ℕ)
    → Where first s u (registers_of here (first + length u.signals) within) (registers_of path (first + length u.signals + signals_in within) after)
    → total s i own inner later ≡ 0
registers_parts path here first u within after own inner later sound w a parts s i (mine t e m) =
    let small = sound.unit.registers_there t m in
    subst (λ z. total z i own inner later ≡ 0) e
    (omega (
      arith,
      parts.own_few t i small,
      sound.unit.registers_held t i m,
      parts.within_driven.none (first + t) i (inl (omega (arith, small))),
      parts.after_driven.none (first + t) i (inl (omega (arith, small))),
    ))
registers_parts path here first u within after own inner later sound w a parts s i (inside k) =
    let r = registers_range here (first + length u.signals) s within w k in
    chosen (parts.own_found s i r.from) (parts.within_driven.registers s i k) (parts.after_driven.none s i (inl r.to))
  where
    chosen : (count (λ k. node_drives k s i) own ≡ 0) ⊎ Hit (first + length u.signals) within s
        → count (λ k. node_drives k s i) inner ≡ 0 → count (λ k. node_drives k s i) later ≡ 0 → total s i own inner later ≡ 0
    chosen (inl e) f g = omega (arith, e, f, g)
    chosen (inr hit) f g = absurd (no_register here (first + length u.signals) s within w k hit)
registers_parts path here first u within after own inner later sound w a parts s i (behind k) =
    let r = registers_range path (first + length u.signals + signals_in within) s after a k in
    omega (arith, parts.own_out s i (inr r.from), parts.within_driven.none s i (inr r.from), parts.after_driven.registers s i k)

pub driven : (path : List ℕ) (first : ℕ) (tree : Instances) → AreSound tree → Driven path first tree (nodes_given path first tree)
driven path first Nothing sound = record {
  none = λ s i h. refl;
  few = λ s i. omega arith;
  inputs = λ c p i h. absurd h;
  registers = λ s i h. absurd h;
}
driven path first (One name u within after) sound =
    let here = path ++ name ∷ [] in
    let n = length u.signals in
    let kids = firsts (first + n) within in
    let own = nodes_at (record { path = here; first = first; kids = kids }) u in
    let inner = nodes_given here (first + n) within in
    let later = nodes_given path (first + n + signals_in within) after in
    let fit = sound.0.fit in
    let shifted_is : (s i : ℕ) → count (λ k. node_drives k s i) own ≡ count (placed_drives first (first + n) within s i) u.nodes =
    (λ (s i : ℕ). count_map (λ k. node_drives k s i) (node_there first (slice_index kids)) u.nodes) in
    let parts : Parts path here first u within after own inner later = record {
      own_out = λ s i h. shifted_is s i ∙ count_none (IsFit n within) (placed_drives first (first + n) within s i) u.nodes fit (out_case first n s i within sound.1 h);
      own_few = λ t i h. subst (λ z. z ≤ count (own_drives t i) u.nodes) (sym (shifted_is (first + t) i))
          (count_le (IsFit n within) (placed_drives first (first + n) within (first + t) i) (own_drives t i) u.nodes fit (own_case first n t i within h));
      own_found = λ s i h. subst (λ z. (z ≡ 0) ⊎ Hit (first + n) within s) (sym (shifted_is s i))
          (count_found (IsFit n within) (Hit (first + n) within s) (placed_drives first (first + n) within s i) u.nodes fit (found_case first n s i within h));
      own_port = λ c p i h. subst (λ z. z ≤ 1) (sym (shifted_is (kid_at (first + n) within c + p) i)) (omega (
        arith,
        sound.0.unit.ports c p i,
        count_le (IsFit n within) (placed_drives first (first + n) within (kid_at (first + n) within c + p) i) (port_drives c p i) u.nodes fit
            (port_case first n c p i within sound.1 h),
      ));
      within_driven = driven here (first + n) within sound.1;
      after_driven = driven path (first + n + signals_in within) after sound.2;
    } in
    let sum : (s i : ℕ) → count (λ k. node_drives k s i) (own ++ (inner ++ later)) ≡ total s i own inner later =
    (λ (s i : ℕ). count_append (λ k. node_drives k s i) own (inner ++ later)
    ∙ ap (λ z. count (λ k. node_drives k s i) own + z) (count_append (λ k. node_drives k s i) inner later)) in
    record {
      none = λ s i h. sum s i ∙ none_parts path here first u within after own inner later parts s i h;
      few = λ s i. subst (λ z. z ≤ 1) (sym (sum s i)) (few_parts path here first u within after own inner later sound.0 parts s i);
      inputs = λ c p i h. sum (kid_at first (One name u within after) c + p) i
          ∙ inputs_parts path here first name u within after own inner later sound.0 parts c p i h;
      registers = λ s i h. sum s i
          ∙ registers_parts path here first u within after own inner later sound.0 sound.1 sound.2 parts s i (registers_where first s u _ _ h);
    }

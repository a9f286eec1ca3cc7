-- Where copies stand beside the units of their tree: their first signals are those of the units.
use Rattle.std.proofs.Common.{◌≡◌, ℕ, zero, suc, ◌+◌, ◌<◌, List, [], ◌∷◌, ◌++◌, length, slice_index, refl, sym, ◌∙◌, ap, subst, arith}
use Rattle.std.proofs.lemmas.List.{length-append}
use Rattle.ls_text.specs.declared.name_id.NameId.{NameId}
use Rattle.typed_ir.specs.Cycles.{Signal}
use Rattle.typed_ir.specs.declared.child_shape.ChildShape.{ChildShape}
use Rattle.typed_ir.specs.Items.{unit_of}
use Rattle.typed_ir.specs.Trees as t
use Rattle.typed_ir.specs.Trees.{SizedUnit, Instances, signals_in, firsts}
use Rattle.statement_rules.specs.DeclaredValues.{InitialValue}
use Rattle.gen_unroll.specs.Signals.{NamedSignal}
use Rattle.gen_unroll.specs.UnitLists.{unit_signals, names_behind}
use Rattle.unit_build.specs.Building.{begins_with, with_initials}
use Rattle.unit_build.specs.Walks.{walk_initials}
use Rattle.version_swap.specs.Copies.{ModuleCopy, Copies, Nothing, One, Where, inside, from_each, SignalPlace, own_places, place_in}
use Rattle.version_swap.specs.Flat.{writers_in, beginning_of}
use Rattle.version_swap.specs.Units.{placed_copy, HavePorts, IsUnitOf, AreUnitsOf}
use Rattle.version_swap.proofs.Places.{IsStanding, own_many, stands_at, stands_inside, stands_behind}
use Rattle.version_swap.proofs.Ported.{ports_of}

-- ---- a unit has as many signals as its module

begun_many : (k value : ℕ) (xs : List Signal) → length (begins_with k value xs) ≡ length xs
begun_many k value [] = refl
begun_many zero value (x ∷ xs) = refl
begun_many (suc k) value (x ∷ xs) = ap suc (begun_many k value xs)

pub initial_many : (vs : List InitialValue) (xs : List Signal) → length (with_initials vs xs) ≡ length xs
initial_many [] xs = refl
initial_many (v ∷ vs) xs = initial_many vs (begins_with v.signal v.value xs) ∙ begun_many v.signal v.value xs

pub signals_many : (m : ℕ) (names : List NameId) (xs : List NamedSignal) → length (unit_signals m names xs) ≡ length xs
signals_many m names [] = refl
signals_many m names (x ∷ xs) = ap suc (signals_many m (names_behind names x) xs)

pub unit_long : (c : ModuleCopy) (u : SizedUnit) → u ≡ unit_of (placed_copy c) → length c.table.signals ≡ length u.signals
unit_long c u made =
    sym (ap (λ (v : SizedUnit). length v.signals) made
    ∙ initial_many (walk_initials (writers_in c) c.table.signals (beginning_of c) c.steps) (unit_signals c.declaration.name.name.0 c.names c.table.signals)
    ∙ signals_many c.declaration.name.name.0 c.names c.table.signals)

unit_many : (c : ModuleCopy) (within : Copies) (name : ℕ) (u : SizedUnit) → IsUnitOf c within name u → length c.table.signals ≡ length u.signals
unit_many c within name u is = unit_long c u is.made

places_many : (w : Where) (k : ℕ) (copies : Copies) (tree : Instances) → AreUnitsOf copies tree
    → length (from_each own_places w k copies) ≡ signals_in tree
places_many w k Nothing t.Nothing are = refl
places_many w k Nothing (t.One name u inner later) are = absurd are
places_many w k (One c within after) t.Nothing are = absurd are
places_many w k (One c within after) (t.One name u inner later) are =
    let own = own_places (inside w k c) c in
    let those = from_each own_places (inside w k c) 0 within in
    let rest = from_each own_places w (suc k) after in
    let all = length-append own (those ++ rest) in
    let both = length-append those rest in
    let first = own_many (w.at ++ k ∷ []) 0 c.table.signals ∙ unit_many c within name u are.0 in
    let second = places_many (inside w k c) 0 within inner are.1.0 in
    let third = places_many w (suc k) after later are.1.1 in
    omega (arith, all, both, first, second, third)

-- ---- where those within a copy stand, and those behind it

pub unit_inside : (all : List SignalPlace) (w : Where) (k first : ℕ) (c : ModuleCopy) (within after : Copies) (name : ℕ) (u : SizedUnit)
    → IsUnitOf c within name u
    → IsStanding all w k first (One c within after) → IsStanding all (inside w k c) 0 (first + length u.signals) within
unit_inside all w k first c within after name u is stands =
    subst (λ n. IsStanding all (inside w k c) 0 (first + n) within) (unit_many c within name u is) (stands_inside all w k first c within after stands)

pub unit_behind : (all : List SignalPlace) (w : Where) (k first : ℕ) (c : ModuleCopy) (within after : Copies) (name : ℕ) (u : SizedUnit)
    (inner : Instances) → IsUnitOf c within name u
    → AreUnitsOf within inner → IsStanding all w k first (One c within after)
    → IsStanding all w (suc k) (first + length u.signals + signals_in inner) after
unit_behind all w k first c within after name u inner is are stands =
    subst (λ n. IsStanding all w (suc k) (first + n + signals_in inner) after) (unit_many c within name u is)
    (stands_behind all w k first (signals_in inner) c within after stands (places_many (inside w k c) 0 within inner are))

-- ---- the ports of the c-th of copies side by side are the first signals of its unit

pub kid_places : (all : List SignalPlace) (w : Where) (k first : ℕ) (children : List ChildShape) (copies : Copies) (tree : Instances)
    → HavePorts children copies
    → AreUnitsOf copies tree → IsStanding all w k first copies
    → (c s : ℕ) → s < ports_of children c → place_in all (w.at ++ (k + c) ∷ []) s ≡ slice_index (firsts first tree) c + s
kid_places all w k first [] copies tree ports are stands c s h = absurd (omega (arith, h))
kid_places all w k first (x ∷ xs) Nothing tree ports are stands c s h = absurd ports
kid_places all w k first (x ∷ xs) (One m within after) t.Nothing ports are stands c s h = absurd are
kid_places all w k first (x ∷ xs) (One m within after) (t.One name u inner later) ports are stands zero s h =
    let few = ports.0 in
    let here : k + 0 ≡ k = omega arith in
    ap (λ n. place_in all (w.at ++ n ∷ []) s) here ∙ stands_at all w k first m within after stands s (omega (arith, h, few))
kid_places all w k first (x ∷ xs) (One m within after) (t.One name u inner later) ports are stands (suc c) s h =
    let next : k + suc c ≡ suc k + c = omega arith in
    ap (λ n. place_in all (w.at ++ n ∷ []) s) next
    ∙ kid_places all w (suc k) (first + length u.signals + signals_in inner) xs after later ports.1 are.1.1
    (unit_behind all w k first m within after name u inner are.0 are.1.0 stands) c s h

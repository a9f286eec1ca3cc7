-- One more item, for the walks over them.
use Rattle.std.proofs.Common.{◌≡◌, ◌<◌, ◌+◌, ℕ, zero, suc, Bool, List, [], ◌∷◌, ◌++◌, map, drop, length, get_or, refl, sym, ◌∙◌, ap, subst, arith}
use Rattle.ls_text.specs.declared.fault.Fault.{Fault}
use Rattle.ls_text.specs.declared.refusal.Refusal.{Refusal}
use Rattle.typed_ir.specs.declared.signal_declaration.SignalDeclaration.{SignalDeclaration}
use Rattle.typed_ir.specs.declared.typed_item.TypedItem.{TypedItem}
use Rattle.typed_ir.specs.Items.{PlacedItem, item_of}
use Rattle.typed_ir.specs.Orders.{Each}
use Rattle.typed_ir.proofs.Lists.{drop_read}
use Rattle.width_rules.specs.Faults.{IsFirst}
use Rattle.width_rules.proofs.Firsts.{earlier}
use Rattle.typed_ir.specs.Cycles.{Signal}
use Rattle.driver_rules.specs.Writes.{blocks_of}
use Rattle.driver_rules.specs.Blocks.{path_faults, block_faults}
use Rattle.driver_rules.specs.Targets.{target_faults, all_target_faults}

-- what is left from it on
pub items_next : (xs : List TypedItem) (k : ℕ) (x : TypedItem) → k < length xs → x ≡ get_or xs k x
    → map item_of (drop k xs) ≡ item_of x ∷ map item_of (drop (k + 1) xs)
items_next xs k x h is = ap (map item_of) (drop_read xs k x h is)

-- where it has no fault, what is left after it has those of what was left
pub ahead : (all : List PlacedItem → List Fault) (one : PlacedItem → List Fault) → ((y : PlacedItem) (ys : List PlacedItem) → all (y ∷ ys) ≡ one y ++ all ys)
    → (xs : List TypedItem) (k : ℕ) (x : TypedItem) → k < length xs → x ≡ get_or xs k x → one (item_of x) ≡ []
    → all (map item_of (drop (k + 1) xs)) ≡ all (map item_of (drop k xs))
ahead all one step xs k x h is none =
    ap (λ (zs : List Fault). zs ++ all (map item_of (drop (k + 1) xs))) (sym none)
    ∙ sym (step (item_of x) (map item_of (drop (k + 1) xs)))
    ∙ ap all (sym (items_next xs k x h is))

-- its first fault is that of what is left
pub refused_here : (all : List PlacedItem → List Fault) (one : PlacedItem → List Fault) → ((y : PlacedItem) (ys : List PlacedItem) → all (y ∷ ys) ≡ one y ++ all ys)
    → (xs : List TypedItem) (k : ℕ) (x : TypedItem) (r : Refusal) → k < length xs → x ≡ get_or xs k x → IsFirst (one (item_of x)) r
    → IsFirst (all (map item_of (drop k xs))) r
refused_here all one step xs k x r h is first =
    subst (λ (ys : List PlacedItem). IsFirst (all ys) r) (sym (items_next xs k x h is))
    (subst (λ (fs : List Fault). IsFirst fs r) (sym (step (item_of x) (map item_of (drop (k + 1) xs))))
    (earlier (one (item_of x)) (all (map item_of (drop (k + 1) xs))) r first))

pub target_ahead : (declarations : List SignalDeclaration) (settled : ℕ → Bool) (xs : List TypedItem) (k : ℕ) (x : TypedItem) → k < length xs → x ≡ get_or xs k x
    → target_faults declarations settled (item_of x) ≡ []
    → all_target_faults declarations settled (map item_of (drop (k + 1) xs)) ≡ all_target_faults declarations settled (map item_of (drop k xs))
target_ahead declarations settled = ahead (all_target_faults declarations settled) (target_faults declarations settled) (λ y ys. refl)

pub target_fault : (declarations : List SignalDeclaration) (settled : ℕ → Bool) (xs : List TypedItem) (k : ℕ) (x : TypedItem) (r : Refusal) → k < length xs → x ≡ get_or xs k x
    → IsFirst (target_faults declarations settled (item_of x)) r
    → IsFirst (all_target_faults declarations settled (map item_of (drop k xs))) r
target_fault declarations settled = refused_here (all_target_faults declarations settled) (target_faults declarations settled) (λ y ys. refl)

-- what holds of each item holds of the k-th
pub each_item : (P : PlacedItem → Type 0) (xs : List TypedItem) (k : ℕ) (x : TypedItem) → Each P (map item_of xs) → k < length xs → x ≡ get_or xs k x → P (item_of x)
each_item P [] k x all h is = absurd (omega (arith, h))
each_item P (y ∷ ys) zero x all h is = subst (λ (z : TypedItem). P (item_of z)) (sym is) all.0
each_item P (y ∷ ys) (suc k) x all h is = each_item P ys k x all.1 (omega (arith, h)) is

-- ---- combinational blocks

pub block_ahead : (signals : List Signal) (declarations : List SignalDeclaration) (xs : List TypedItem) (k : ℕ) (x : TypedItem) → k < length xs → x ≡ get_or xs k x
    → path_faults signals declarations (item_of x) (blocks_of (item_of x).body) ≡ []
    → block_faults signals declarations (map item_of (drop (k + 1) xs)) ≡ block_faults signals declarations (map item_of (drop k xs))
block_ahead signals declarations =
    ahead (block_faults signals declarations) (λ y. path_faults signals declarations y (blocks_of y.body)) (λ y ys. refl)

pub block_fault : (signals : List Signal) (declarations : List SignalDeclaration) (xs : List TypedItem) (k : ℕ) (x : TypedItem) (r : Refusal) → k < length xs → x ≡ get_or xs k x
    → IsFirst (path_faults signals declarations (item_of x) (blocks_of (item_of x).body)) r
    → IsFirst (block_faults signals declarations (map item_of (drop k xs))) r
block_fault signals declarations =
    refused_here (block_faults signals declarations) (λ y. path_faults signals declarations y (blocks_of y.body)) (λ y ys. refl)

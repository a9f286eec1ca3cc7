-- Items put into the places of their ports, one after another, are those of the definition.
use Rattle.std.proofs.Common.{◌≡◌, ◌<◌, ◌≤◌, ℕ, zero, suc, ◌+◌, ◌==◌, Bool, true, false, List, [], ◌∷◌, ◌++◌, map, length, drop, get_or, set, cond, append-nil, append_assoc, refl, sym, ◌∙◌, ap, ap₂, arith}
use Rattle.std.specs.Prelude.{Option, Some, None, option_to_list}
use Rattle.std.specs.Option.{option_map}
use Rattle.std.proofs.lemmas.Bool.{ne_eqb, eq-eqb, cond-true, cond-false}
use Rattle.typed_ir.specs.declared.port_shape.PortShape.{PortShape}
use Rattle.typed_ir.specs.Items.{PlacedItem}
use Rattle.width_rules.specs.Scopes.{Scope}
use Rattle.statement_rules.proofs.Walks.{head_is}
use Rattle.unit_build.specs.declared.connection.Connection.{Connection}
use Rattle.unit_build.specs.Connections.{Connected}
use Rattle.unit_build.specs.ConnectionNodes.{connection_item}
use Rattle.unit_build.specs.Instances.{first_to, item_if, port_items}
use Rattle.unit_build.specs.Slots.{first_or, put_at, put_all, listed}
use Rattle.unit_build.specs.Views.{connected_of}

-- ---- one place

apart : {A : Type 0} (port k : ℕ) (x : A) (s : Option A) → (port ≡ k → ⊥) → cond (port == k) (first_or s x) s ≡ s
apart port k x s h = cond-false (port == k) (first_or s x) s (ne_eqb port k h)

put_before : {A : Type 0} (port k : ℕ) (x : A) (ss : List (Option A)) → port < k → put_at port k x ss ≡ ss
put_before port k x [] h = refl
put_before {A} port k x (s ∷ ss) h =
    ap₂ (λ (o : Option A) (os : List (Option A)). o ∷ os) (apart port k x s (λ e. omega (arith, h, e))) (put_before port (suc k) x ss (omega (arith, h)))

-- there is no such place
pub stays : {T A : Type 0} (f : T → A) (x : A) (xs : List (Option T)) (port k : ℕ) → length xs + k ≤ port → map (option_map f) xs ≡ put_at port k x (map (option_map f) xs)
stays f x [] port k h = refl
stays {T} {A} f x (s ∷ ss) port k h =
    ap₂ (λ (o : Option A) (os : List (Option A)). o ∷ os)
    (sym (apart port k x (option_map f s) (λ e. omega (arith, h, e)))) (stays f x ss port (suc k) (omega (arith, h)))

-- one place is filled
pub put_here : {T A : Type 0} (f : T → A) (x : A) (y : Option T) (xs : List (Option T)) (port k i : ℕ) (d : Option T) → port ≡ i + k → i < length xs
    → option_map f y ≡ first_or (option_map f (get_or xs i d)) x → map (option_map f) (set xs i y) ≡ put_at port k x (map (option_map f) xs)
put_here f x y [] port k i d e h n = absurd (omega (arith, h))
put_here {T} {A} f x y (s ∷ ss) port k zero d e h n =
    let here : port ≡ k = omega (arith, e) in
    ap₂ (λ (o : Option A) (os : List (Option A)). o ∷ os)
    (n ∙ sym (cond-true (port == k) (first_or (option_map f s) x) (option_map f s) (eq-eqb port k here)))
    (sym (put_before port (suc k) x (map (option_map f) ss) (omega (arith, here))))
put_here {T} {A} f x y (s ∷ ss) port k (suc i) d e h n =
    ap₂ (λ (o : Option A) (os : List (Option A)). o ∷ os)
    (sym (apart port k x (option_map f s) (λ q. omega (arith, e, q))))
    (put_here f x y ss port (suc k) i d (omega (arith, e)) (omega (arith, h)) n)

-- ---- all places

-- of each port the first
abbrev slots : {A : Type 0} → (Connected → A) → List Connected → ℕ → List PortShape → List (Option A)
slots item cs k [] = []
slots item cs k (p ∷ ps) = option_map item (first_to k cs) ∷ slots item cs (suc k) ps

chosen : {A : Type 0} (item : Connected → A) (b : Bool) (c : Connected) (o : Option Connected)
    → option_map item (cond b (Some c) o) ≡ cond b (Some (item c)) (option_map item o)
chosen item true c o = refl
chosen item false c o = refl

one : {A : Type 0} (b : Bool) (x : A) → cond b (Some x) None ≡ cond b (first_or None x) None
one true x = refl
one false x = refl

behind : {A : Type 0} (b e : Bool) (y z : A) (r q : Option A) → r ≡ cond e (first_or q z) q
    → cond b (Some y) r ≡ cond e (first_or (cond b (Some y) q) z) (cond b (Some y) q)
behind true true y z r q h = refl
behind true false y z r q h = refl
behind false e y z r q h = h

first_more : {A : Type 0} (item : Connected → A) (cs : List Connected) (c : Connected) (k : ℕ)
    → option_map item (first_to k (cs ++ c ∷ [])) ≡ cond (c.port == k) (first_or (option_map item (first_to k cs)) (item c)) (option_map item (first_to k cs))
first_more item [] c k = chosen item (c.port == k) c None ∙ one (c.port == k) (item c)
first_more {A} item (d ∷ ds) c k =
    let b = d.port == k in
    let q = option_map item (first_to k ds) in
    chosen item b d (first_to k (ds ++ c ∷ []))
    ∙ behind b (c.port == k) (item d) (item c) (option_map item (first_to k (ds ++ c ∷ []))) q (first_more item ds c k)
    ∙ ap (λ (o : Option A). cond (c.port == k) (first_or o (item c)) o) (sym (chosen item b d (first_to k ds)))

slots_more : {A : Type 0} (item : Connected → A) (cs : List Connected) (c : Connected) (k : ℕ) (ps : List PortShape)
    → slots item (cs ++ c ∷ []) k ps ≡ put_at c.port k (item c) (slots item cs k ps)
slots_more item cs c k [] = refl
slots_more {A} item cs c k (p ∷ ps) =
    ap₂ (λ (o : Option A) (os : List (Option A)). o ∷ os) (first_more item cs c k) (slots_more item cs c (suc k) ps)

filled : {A : Type 0} (item : Connected → A) (cs done : List Connected) (ps : List PortShape)
    → put_all item cs (slots item done 0 ps) ≡ slots item (done ++ cs) 0 ps
filled item [] done ps = ap (λ (ds : List Connected). slots item ds 0 ps) (sym (append-nil done))
filled {A} item (c ∷ cs) done ps =
    ap (λ (ss : List (Option A)). put_all item cs ss) (sym (slots_more item done c 0 ps))
    ∙ filled item cs (done ++ c ∷ []) ps
    ∙ ap (λ (ds : List Connected). slots item ds 0 ps) (append_assoc done (c ∷ []) cs)

none_yet : {A : Type 0} (item : Connected → A) (k : ℕ) (ps : List PortShape) → map (λ (p : PortShape). None) ps ≡ slots item [] k ps
none_yet item k [] = refl
none_yet {A} item k (p ∷ ps) = ap (λ (os : List (Option A)). None ∷ os) (none_yet item (suc k) ps)

item_so : (scope : Scope) (child : ℕ) (o : Option Connected) → option_to_list (option_map (connection_item scope child) o) ≡ item_if scope child o
item_so scope child None = refl
item_so scope child (Some c) = refl

listed_so : (scope : Scope) (child : ℕ) (cs : List Connected) (k : ℕ) (ps : List PortShape)
    → listed (slots (connection_item scope child) cs k ps) ≡ port_items scope child cs k ps
listed_so scope child cs k [] = refl
listed_so scope child cs k (p ∷ ps) =
    ap₂ (λ (xs ys : List PlacedItem). xs ++ ys) (item_so scope child (first_to k cs)) (listed_so scope child cs (suc k) ps)

pub all_placed : (scope : Scope) (child : ℕ) (cs : List Connected) (ps : List PortShape)
    → listed (put_all (connection_item scope child) cs (map (λ (p : PortShape). None) ps)) ≡ port_items scope child cs 0 ps
all_placed scope child cs ps =
    ap (λ (ss : List (Option PlacedItem)). listed (put_all (connection_item scope child) cs ss)) (none_yet (connection_item scope child) 0 ps)
    ∙ ap (λ (ss : List (Option PlacedItem)). listed ss) (filled (connection_item scope child) cs [] ps)
    ∙ listed_so scope child cs 0 ps

-- ---- one more connection of a list

pub put_ahead : {A : Type 0} (item : Connected → A) (xs : List Connection) (k : ℕ) (x : Connection) (ss : List (Option A)) → k < length xs → x ≡ get_or xs k x
    → put_all item (map connected_of (drop k xs)) ss ≡ put_all item (map connected_of (drop (k + 1) xs)) (put_at x.port 0 (item (connected_of x)) ss)
put_ahead item xs k x ss h is = ap (λ (cs : List Connected). put_all item cs ss) (head_is connected_of xs k x h is)

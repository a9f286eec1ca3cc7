-- Nodes by number, and an order of them.
use Rattle.std.proofs.Common.{◌≡◌, ℕ, zero, suc, ◌<◌, true, false, inl, inr, List, [], ◌∷◌, length, refl, sym, ◌∙◌, ap, subst, arith, true≢false}
use Rattle.std.proofs.lemmas.Bool.{or_from}
use Rattle.typed_ir.specs.Valuations.{Valuation, Places, look, Same}
use Rattle.typed_ir.specs.Orders.{round_by, pass, any_drives, Ordered, Member, Each, NodeLaws, Precedes, EachAfter, Distinct}
use Rattle.typed_ir.specs.Nodes.{FlatNode, drive, node_drives, IsComplete, drive_at, drives_at, reads_at, OneDriver, IsOrder}
use Rattle.typed_ir.specs.Cycles.{Flat, base, wires, Satisfies, IsSound}
use Rattle.typed_ir.proofs.Cases.{by_cases, left_or, right_or}
use Rattle.typed_ir.proofs.Locals.{node_laws, drive_local, drive_outside}
use Rattle.typed_ir.proofs.Settled.{IsRound, round-outside, rounds-satisfy, pass-only, passes, same_valuation}

abbrev pub complete_at : List FlatNode → ℕ → Type 0
complete_at [] k = Unit {0}
complete_at (n ∷ ns) zero = IsComplete n
complete_at (n ∷ ns) (suc k) = complete_at ns k

pub all_complete : (nodes : List FlatNode) → Each IsComplete nodes → (k : ℕ) → complete_at nodes k
all_complete [] h k = tt
all_complete (n ∷ ns) h zero = h.0
all_complete (n ∷ ns) h (suc k) = all_complete ns h.1 k

pub at_local : (nodes : List FlatNode) (k : ℕ) (v w env env' : Valuation) → complete_at nodes k → Same (reads_at nodes k) v w
    → (s i : ℕ) → drives_at nodes k s i ≡ true → look (drive_at nodes k v env) s i ≡ look (drive_at nodes k w env') s i
at_local [] k v w env env' c h s i d = absurd (true≢false (sym d))
at_local (n ∷ ns) zero v w env env' c h s i d = drive_local n v w env env' c h s i d
at_local (n ∷ ns) (suc k) v w env env' c h s i d = at_local ns k v w env env' c h s i d

pub at_outside : (nodes : List FlatNode) (k : ℕ) (v env : Valuation) (s i : ℕ) → drives_at nodes k s i ≡ false → look (drive_at nodes k v env) s i ≡ look env s i
at_outside [] k v env s i d = refl
at_outside (n ∷ ns) zero v env s i d = drive_outside n v env s i d
at_outside (n ∷ ns) (suc k) v env s i d = at_outside ns k v env s i d

pub at_laws : (nodes : List FlatNode) → NodeLaws (drives_at nodes) (reads_at nodes) (drive_at nodes) (complete_at nodes)
at_laws nodes = record { local = at_local nodes; outside = at_outside nodes }

-- a driven bit has a driver with a number
pub driver_index : (nodes : List FlatNode) (s i : ℕ) → any_drives node_drives nodes s i ≡ true
    → (k : ℕ) × (k < length nodes) × (drives_at nodes k s i ≡ true)
driver_index [] s i h = absurd (true≢false (sym h))
driver_index (n ∷ ns) s i h =
    by_cases (node_drives n s i)
    (λ yes. (zero, omega arith, yes))
    (λ no. let rest : (k : ℕ) × (k < length ns) × (drives_at ns k s i ≡ true) =
    driver_index ns s i (by_cases (any_drives node_drives ns s i) (λ t. t)
    (λ f. absurd (true≢false (sym h ∙ or_from (node_drives n s i) (any_drives node_drives ns s i) no f)))) in
    let small : rest.0 < length ns = rest.1 in
    (suc rest.0, omega (arith, small), rest.2))

-- a number that drives something is that of a node
pub drives_number : (ns : List FlatNode) (k s i : ℕ) → drives_at ns k s i ≡ true → k < length ns
drives_number [] k s i d = absurd (true≢false (sym d))
drives_number (n ∷ ns) zero s i d = omega arith
drives_number (n ∷ ns) (suc k) s i d = let rest : k < length ns = drives_number ns k s i d in omega (arith, rest)

-- some number of the list drives it
pub any_of_member : (drives : ℕ → Places) (xs : List ℕ) (k s i : ℕ) → Member k xs → drives k s i ≡ true → any_drives drives xs s i ≡ true
any_of_member drives [] k s i m t = absurd m
any_of_member drives (x ∷ xs) k s i (inl e) t = left_or (drives x s i) (any_drives drives xs s i) (ap (λ y. drives y s i) (sym e) ∙ t)
any_of_member drives (x ∷ xs) k s i (inr m) t = right_or (drives x s i) (any_drives drives xs s i) (any_of_member drives xs k s i m t)

pub member_of_any : (drives : ℕ → Places) (xs : List ℕ) (s i : ℕ) → any_drives drives xs s i ≡ true
    → (k : ℕ) × Member k xs × (drives k s i ≡ true)
member_of_any drives [] s i h = absurd (true≢false (sym h))
member_of_any drives (x ∷ xs) s i h =
    by_cases (drives x s i)
    (λ yes. (x, inl refl, yes))
    (λ no. let rest : (k : ℕ) × Member k xs × (drives k s i ≡ true) =
    member_of_any drives xs s i (by_cases (any_drives drives xs s i) (λ t. t)
    (λ f. absurd (true≢false (sym h ∙ or_from (drives x s i) (any_drives drives xs s i) no f)))) in
    (rest.0, inr rest.1, rest.2))

-- a bit is what its driver gives
pub at_inside : (nodes : List FlatNode) → OneDriver nodes → (k : ℕ) → complete_at nodes k → (v env env' : Valuation) (s i : ℕ)
    → drives_at nodes k s i ≡ true → look (round_by drive nodes v env) s i ≡ look (drive_at nodes k v env') s i
at_inside [] one k c v env env' s i d = absurd (true≢false (sym d))
at_inside (n ∷ ns) one zero c v env env' s i d =
    round-outside node_laws ns v (drive n v env) s i
    (by_cases (any_drives node_drives ns s i)
    (λ t. let other : (k : ℕ) × (k < length ns) × (drives_at ns k s i ≡ true) = driver_index ns s i t in
    let same : zero ≡ suc other.0 = one zero (suc other.0) s i d other.2 in
    absurd (omega (arith, same)))
    (λ f. f))
    ∙ drive_local n v v env env' c (λ t j r. refl) s i d
at_inside (n ∷ ns) one (suc k) c v env env' s i d =
    at_inside ns (λ a b s' i' x y. let e : suc a ≡ suc b = one (suc a) (suc b) s' i' x y in omega (arith, e)) k c v (drive n v env) env' s i d

-- the nodes of a design, in an order
pub is_round : (nodes : List FlatNode) (order : List ℕ) (start : Valuation) → OneDriver nodes → ((k : ℕ) → complete_at nodes k)
    → IsOrder nodes order → IsRound (drives_at nodes) (drive_at nodes) order start (λ v. round_by drive nodes v start)
is_round nodes order start one c ord = record {
  driven = λ k m v env s i d. at_inside nodes one k (c k) v start env s i d;
  free = λ v s i none. round-outside node_laws nodes v start s i
      (by_cases (any_drives node_drives nodes s i)
      (λ t. let found : (k : ℕ) × (k < length nodes) × (drives_at nodes k s i ≡ true) = driver_index nodes s i t in
      absurd (true≢false (sym (any_of_member (drives_at nodes) order found.0 s i (ord.all found.0 found.1) found.2) ∙ none)))
      (λ f. f));
}

-- no node of the order reads what stands there or later
pub ordered : (drives reads : ℕ → Places) (done ks : List ℕ) → EachAfter (Precedes drives reads) done ks → Distinct ks
    → ((a : ℕ) → Member a done → Member a ks → ⊥) → Ordered drives reads ks
ordered drives reads done [] after once apart = tt
ordered drives reads done (k ∷ ks) after once apart = (
  (λ s i r. by_cases (any_drives drives (k ∷ ks) s i)
      (λ t. let late : (a : ℕ) × Member a (k ∷ ks) × (drives a s i ≡ true) = member_of_any drives (k ∷ ks) s i t in
      absurd (apart late.0 (after.0 late.0 (s, i, late.2, r)) late.1))
      (λ f. f)),
  ordered drives reads (k ∷ done) ks after.1 once.1 (apart_next k done ks once.0 apart),
)
  where
    apart_next : (k : ℕ) (done ks : List ℕ) → (Member k ks → ⊥) → ((a : ℕ) → Member a done → Member a (k ∷ ks) → ⊥)
        → (a : ℕ) → Member a (k ∷ done) → Member a ks → ⊥
    apart_next k done ks fresh apart a (inl e) m = fresh (subst (λ x. Member x ks) e m)
    apart_next k done ks fresh apart a (inr d) m = apart a d (inr m)

pub ordered_nodes : (nodes : List FlatNode) (order : List ℕ) → IsOrder nodes order → Ordered (drives_at nodes) (reads_at nodes) order
ordered_nodes nodes order ord = ordered (drives_at nodes) (reads_at nodes) [] order ord.after ord.once (λ a d m. d)

pub all_of : (P : ℕ → Type 0) → ((k : ℕ) → P k) → (ks : List ℕ) → Each P ks
all_of P h [] = tt
all_of P h (k ∷ ks) = (h k, all_of P h ks)

-- the wires satisfy the design
pub wires_satisfy : (design : Flat) (order : List ℕ) (state inputs : List ℕ) → IsSound design → IsOrder design.nodes order
    → Satisfies design state inputs (wires design state inputs)
unfolding wires
wires_satisfy design order state inputs sound ord =
    let nodes = design.nodes in
    let c : (k : ℕ) → complete_at nodes k = all_complete nodes sound.complete in
    rounds-satisfy (at_laws nodes) (is_round nodes order (base design state inputs) sound.one_driver c ord)
    (ordered_nodes nodes order ord) (all_of (complete_at nodes) c order)
    (length nodes) (let e : length order ≡ length nodes = ord.size in omega (arith, e))

-- and whatever does is what one pass gives
pub pass_only : (design : Flat) (order : List ℕ) (state inputs : List ℕ) → IsSound design → IsOrder design.nodes order
    → (v : Valuation) → Satisfies design state inputs v → pass (drive_at design.nodes) order (base design state inputs) ≡ v
pass_only design order state inputs sound ord v h =
    let nodes = design.nodes in
    let c : (k : ℕ) → complete_at nodes k = all_complete nodes sound.complete in
    pass-only (at_laws nodes) (is_round nodes order (base design state inputs) sound.one_driver c ord)
    (ordered_nodes nodes order ord) (all_of (complete_at nodes) c order) v h

pub pass_wires : (design : Flat) (order : List ℕ) (state inputs : List ℕ) → IsSound design → IsOrder design.nodes order
    → pass (drive_at design.nodes) order (base design state inputs) ≡ wires design state inputs
pass_wires design order state inputs sound ord =
    pass_only design order state inputs sound ord (wires design state inputs) (wires_satisfy design order state inputs sound ord)

pub only_wires : (design : Flat) (order : List ℕ) (state inputs : List ℕ) → IsSound design → IsOrder design.nodes order
    → (v : Valuation) → Satisfies design state inputs v → v ≡ wires design state inputs
only_wires design order state inputs sound ord v h =
    sym (pass_only design order state inputs sound ord v h) ∙ pass_wires design order state inputs sound ord

-- the pass may begin with any environment that has registers, inputs and undriven bits as they are: what wires hold does not matter
pub pass_from : (design : Flat) (order : List ℕ) (state inputs : List ℕ) → IsSound design → IsOrder design.nodes order
    → (env : Valuation) → ((s i : ℕ) → any_drives node_drives design.nodes s i ≡ false → look env s i ≡ look (base design state inputs) s i)
    → pass (drive_at design.nodes) order env ≡ wires design state inputs
pass_from design order state inputs sound ord env same =
    let nodes = design.nodes in
    let start = base design state inputs in
    let c : (k : ℕ) → complete_at nodes k = all_complete nodes sound.complete in
    let r : IsRound (drives_at nodes) (drive_at nodes) order start (λ v. round_by drive nodes v start) = is_round nodes order start sound.one_driver c ord in
    let v = wires design state inputs in
    let h : Satisfies design state inputs v = wires_satisfy design order state inputs sound ord in
    same_valuation (pass (drive_at nodes) order env) v
    (passes (at_laws nodes) order (ordered_nodes nodes order ord) (all_of (complete_at nodes) c order) env v
    (λ k m e s i d. ap (λ w. look w s i) (sym h) ∙ r.driven k m v e s i d)
    (λ s i free. same s i (undriven nodes order s i ord free) ∙ sym (ap (λ w. look w s i) (sym h) ∙ r.free v s i free)))
  where
    undriven : (nodes : List FlatNode) (order : List ℕ) (s i : ℕ) → IsOrder nodes order → any_drives (drives_at nodes) order s i ≡ false → any_drives node_drives nodes s i ≡ false
    undriven nodes order s i ord none = by_cases (any_drives node_drives nodes s i)
        (λ t. let found : (k : ℕ) × (k < length nodes) × (drives_at nodes k s i ≡ true) = driver_index nodes s i t in
        absurd (true≢false (sym (any_of_member (drives_at nodes) order found.0 s i (ord.all found.0 found.1) found.2) ∙ none)))
        (λ f. f)

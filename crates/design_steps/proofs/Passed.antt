-- The steps of the nodes that are left settle all wires.
use Rattle.std.proofs.Common.{Bool, true, false, true≢false, ◌≡◌, ◌⊎◌, ℕ, ◌+◌, ◌-◌, ◌*◌, ◌<◌, ◌≤◌, ◌^◌, ◌==◌, nat_lt, List, [], ◌∷◌, ◌++◌, map, length, refl, sym, ap, ◌∙◌, subst, arith, inl, inr}
use Rattle.std.specs.Prelude.{slice_index, if◌then◌else◌}
use Rattle.std.specs.Int.{bit_at}
use Rattle.std.proofs.lemmas.Bool.{ltb-true, ltb-false, eqb-true, eqb-false, cond-true, cond-false}
use Rattle.std.proofs.lemmas.List.{append-nil}
use Rattle.std.proofs.lemmas.Nat.Bits.{same_from_bits, bit_at_above}
use Rattle.typed_ir.specs.declared.linked.Linked.{Linked}
use Rattle.typed_ir.specs.Orders.{Member, at_or, any_drives}
use Rattle.typed_ir.specs.Valuations.{Valuation, look, Same}
use Rattle.typed_ir.specs.Nodes.{FlatNode, drive, node_drives, drive_at, drives_at, reads_at, IsOrder}
use Rattle.typed_ir.specs.Cycles.{wires, base, Satisfies, IsReady as IsBased}
use Rattle.typed_ir.specs.Flats.{IsFlat, signal_widths}
use Rattle.typed_ir.specs.FlatNodes.{node_of}
use Rattle.typed_ir.specs.Linkeds.{flat}
use Rattle.typed_ir.proofs.Cases.{by_cases}
use Rattle.typed_ir.proofs.Locals.{node_laws}
use Rattle.typed_ir.proofs.Mentions.{reads_mentioned}
use Rattle.typed_ir.proofs.Numbered.{all_complete, at_local, at_outside, at_inside, driver_index, drives_number, wires_satisfy}
use Rattle.typed_ir.proofs.Settled.{round-outside}
use Rattle.word_steps.specs.declared.step.Step.{Step}
use Rattle.word_steps.specs.Walks.{walk, at}
use Rattle.word_steps.proofs.Steps.{walk-append}
use Rattle.design_steps.specs.declared.layout.Layout.{Layout}
use Rattle.design_steps.specs.Plans.{IsReady, IsKnown, signals}
use Rattle.design_steps.specs.Statements.{stmt_code}
use Rattle.design_steps.specs.Nodes.{as_statement, nodes_code, in_order, all_later}
use Rattle.design_steps.specs.Views.{plan_of}
use Rattle.design_steps.proofs.Doing.{Does}
use Rattle.design_steps.proofs.Passing.{does_nodes}
use Rattle.design_steps.specs.declared.naming.Naming.{Naming}
use Rattle.design_steps.specs.Namings.{is_shared, kept, Names, LeadsTo, Itself, Over, IsAlias}
use Rattle.design_steps.specs.Layings.{own_plan, view_of, writes, mark_of, signals_of, LaysOut}
use Rattle.design_steps.proofs.Shared.{names_drive, names_known, names_some, names_read, names_alone, names_give, Passes, passes}
use Rattle.design_steps.proofs.Counting.{below_all}
use Rattle.design_steps.proofs.Apart.{widths_many, stand, view_few, view_apart, view_own, own_place, own_next, own_mark, alias_at, view_ready}
use Rattle.design_steps.proofs.Laid.{driven_there, not_alias, one_laid}
use Rattle.design_steps.proofs.Fronts.{IsFront, IsRest, rest_first, rest_front, rest_next, IsNode, the_node, Before, root_done, own_at, read_done, mention_stands, view_same}

-- words in which each bit is settled of which all drivers are done, at the own places of signals that stand there; those of others hold what
-- they held
pub record Reaches (lay : Layout) (l : Linked) (first settled w : Valuation) (Done : ℕ → Type 0) : Type 0 where
  pub ready : IsReady (own_plan lay) (signals_of l.design) w
  pub kept : (s : ℕ) → ((plan_of lay).slot s ≡ (own_plan lay).slot s → ⊥) → w ((own_plan lay).slot s) ≡ first ((own_plan lay).slot s)
  -- so do the places between those of signals and those where nodes put next values
  pub still : (k : ℕ) → length l.design.signals.items < k → k < 2 * length l.design.signals.items + 1 → w k ≡ first k
  pub value : (s i : ℕ) → (plan_of lay).slot s ≡ (own_plan lay).slot s → ((a : ℕ) → drives_at (map node_of l.design.nodes.items) a s i ≡ true → Done a)
      → bit_at (w ((own_plan lay).slot s)) i ≡ bit_at (settled s) i

reaches_more : (lay : Layout) (l : Linked) (first settled w : Valuation) (P Q : ℕ → Type 0) → ((a : ℕ) → Q a → P a) → Reaches lay l first settled w P → Reaches lay l first settled w Q
reaches_more lay l first settled w P Q more r = record {
  ready = r.ready;
  kept = r.kept;
  still = r.still;
  value = λ s i own done. r.value s i own (λ a d. more a (done a d));
}

-- where a walk over steps ends
pub record Ends (lay : Layout) (l : Linked) (first settled : Valuation) (steps : List Step) (w : Valuation) (Done : ℕ → Type 0) : Type 0 where
  pub after : Valuation
  pub ends : walk steps (at 0 w) ≡ at 0 after
  pub reached : Reaches lay l first settled after Done

-- a bit of which a node or earlier ones are all drivers, and the node isn't one
before_one : (ns : List FlatNode) (k : ℕ) (done : List ℕ) (s i : ℕ) → drives_at ns k s i ≡ false → ((a : ℕ) → drives_at ns a s i ≡ true → Member a (k ∷ done))
    → (a : ℕ) → drives_at ns a s i ≡ true → Member a done
before_one ns k done s i free all a d = of (all a d)
  where
    of : Member a (k ∷ done) → Member a done
    of (inl e) = absurd (true≢false (sym (subst (λ x. drives_at ns x s i ≡ true) e d) ∙ free))
    of (inr m) = m

module _ (lay : Layout) (l : Linked) (lays : LaysOut lay l.design) (f : IsFlat (flat l.design)) (o : IsOrder (flat l.design).nodes l.order.items) (state inputs : List ℕ)
    (first : Valuation) (ready : IsReady (own_plan lay) (signals_of l.design) first) (based : IsBased (flat l.design) state inputs (signals (own_plan lay) first)) where
  abbrev all : List FlatNode
  all = map node_of l.design.nodes.items

  abbrev ws : List ℕ
  ws = signal_widths l.design.signals.items

  abbrev settled : Valuation
  settled = wires (flat l.design) state inputs

  abbrev Reached : Valuation → (ℕ → Type 0) → Type 0
  Reached w Done = Reaches lay l first settled w Done

  -- ---- settled wires

  satisfied : Satisfies (flat l.design) state inputs settled
  satisfied = wires_satisfy (flat l.design) l.order.items state inputs f.sound o

  undriven : (s i : ℕ) → ((a : ℕ) → drives_at all a s i ≡ true → ⊥) → any_drives node_drives all s i ≡ false
  undriven s i none = by_cases (any_drives node_drives all s i)
      (λ yes. let d : (k : ℕ) × (k < length all) × (drives_at all k s i ≡ true) = driver_index all s i yes in absurd (none d.0 d.2))
      (λ no. no)

  -- a bit that no node drives is as registers and inputs say, and one that a node drives as the node gives it
  settled_free : (s i : ℕ) → any_drives node_drives all s i ≡ false → look settled s i ≡ look (signals (own_plan lay) first) s i
  settled_free s i none =
      ap (λ e. look e s i) (sym satisfied) ∙ round-outside node_laws all settled (base (flat l.design) state inputs) s i none ∙ sym (based s i none)

  settled_driven : (k s i : ℕ) → drives_at all k s i ≡ true → look settled s i ≡ look (drive_at all k settled settled) s i
  settled_driven k s i d =
      ap (λ e. look e s i) (sym satisfied)
      ∙ at_inside all f.sound.one_driver k (all_complete all f.sound.complete k) settled (base (flat l.design) state inputs) settled s i d

  wide : (s : ℕ) → s < length l.design.signals.items → s < length lay.widths.items
  wide s less = let e = widths_many lay l.design lays in omega (arith, e, less)

  there : (s : ℕ) → s < length ws → s < length l.design.signals.items
  there s less = let e = widths_many lay l.design lays in let g = ap length lays.widths in omega (arith, e, g, less)

  -- they fit their widths
  settled_high : (s i : ℕ) → s < length l.design.signals.items → slice_index ws s ≤ i → look settled s i ≡ 0
  settled_high s i less high =
      settled_free s i (undriven s i (λ a d. let low = (driven_there lay l.design lays a s i d).1 in omega (arith, low, high)))
      ∙ bit_at_above (first ((own_plan lay).slot s)) (slice_index ws s) i
      (subst (λ vs. first ((own_plan lay).slot s) < 2 ^ slice_index vs s) lays.widths (ready.fits s (wide s less))) high

  -- a wire that is another name has what the signal has
  settled_named : (s node source : ℕ) → Names l.design node s source → settled s ≡ settled source
  settled_named s node source names =
      let n : Naming = record { wire = s; signal = source } in
      let known = names_known all node ws n names in
      same_from_bits (settled s) (settled source) (λ i. by_cases (nat_lt i (slice_index ws s))
      (λ yes. let less = ltb-true i (slice_index ws s) yes in settled_driven node s i (names_drive all node ws n i names less) ∙ names_give all node ws n settled settled i names less)
      (λ no. let high = ltb-false i (slice_index ws s) no in let same = known.alike in
      settled_high s i (there s known.wire_there) high ∙ sym (settled_high source i (there source known.signal_there) (omega (arith, same, high)))))

  settled_leads : (root : ℕ) {s : ℕ} → LeadsTo l.design root s → settled s ≡ settled root
  settled_leads root Itself = refl
  settled_leads root (Over s node source names rest) = settled_named s node source names ∙ settled_leads root rest

  settled_alias : (s : ℕ) (a : IsAlias l.design lay.slots.items s) → settled s ≡ settled a.root
  settled_alias s a = settled_named s a.node a.source a.names ∙ settled_leads a.root a.leads

  -- ---- a node that is left

  module _ (k : ℕ) (left : at_or (is_shared lay.widths.items lay.slots.items) true all k ≡ false) (n : FlatNode) (is : IsNode all ws (IsKnown (plan_of lay)) k n)
      (done : List ℕ) (front : IsFront (Before l.design) done k) (w : Valuation) (r : Reached w (λ a. Member a done)) where
    abbrev view : Valuation
    view = signals (view_of lay n) w

    does_it : Does (view_of lay n) (signals_of l.design) (mark_of lay) (view_apart lay l.design lays n) (nodes_code (view_of lay n) (n ∷ []) (mark_of lay)) w (mark_of lay)
        (drive n view view) (all_later (n ∷ []) view)
    does_it =
        does_nodes (view_of lay n) (signals_of l.design) (mark_of lay) (view_apart lay l.design lays n) (n ∷ []) (mark_of lay) w (omega arith)
        (one_laid lay l.design lays k left n is.legal is.known (λ s i d. is.drives s i ∙ d), tt) (view_ready lay l.design lays n w r.ready)

    now_at : (s : ℕ) → does_it.after ((view_of lay n).slot s) ≡ drive_at all k view view s
    now_at s = does_it.now s ∙ sym (is.gives view view s)

    -- the own place of a wire that stands elsewhere is as it was
    alias_kept : (s : ℕ) → ((plan_of lay).slot s ≡ (own_plan lay).slot s → ⊥) → does_it.after ((own_plan lay).slot s) ≡ w ((own_plan lay).slot s)
    alias_kept s other =
        let a = alias_at lay l.design lays s other in
        let name : Naming = record { wire = s; signal = a.source } in
        let less = there s (names_known all a.node ws name a.names).wire_there in
        by_cases (writes n ((plan_of lay).slot s - 1))
        (λ yes.
        let at_own = cond-true (writes n ((plan_of lay).slot s - 1)) ((own_plan lay).slot s) ((plan_of lay).slot s) yes in
        ap does_it.after (sym at_own) ∙ now_at s
        ∙ same_from_bits (drive_at all k view view s) (view s) (λ i. at_outside all k view view s i
        (by_cases (drives_at all k s i) (λ d. absurd (not_alias lay l.design lays k left s i d a)) (λ d. d)))
        ∙ ap w at_own)
        (λ no. does_it.kept ((own_plan lay).slot s) (own_mark lay l.design lays s) (λ t e. elsewhere less no t e) (λ t m e. own_next lay l.design lays s t m e))
      where
        elsewhere : s < length l.design.signals.items → writes n ((plan_of lay).slot s - 1) ≡ false → (t : ℕ) → (own_plan lay).slot s ≡ (view_of lay n).slot t → ⊥
        elsewhere less free t e =
            let st = stand lay l.design lays in
            let here = st.here s less in
            by_cases (writes n ((plan_of lay).slot t - 1))
            (λ yes.
            let own : (own_plan lay).slot s ≡ (own_plan lay).slot t = e ∙ cond-true (writes n ((plan_of lay).slot t - 1)) ((own_plan lay).slot t) ((plan_of lay).slot t) yes in
            by_cases (nat_lt t (length l.design.signals.items))
            (λ in_.
            let same : t ≡ s = (let h = st.here t (ltb-true t (length l.design.signals.items) in_) in omega (arith, here, own, h)) in
            true≢false (sym yes ∙ ap (λ x. writes n ((plan_of lay).slot x - 1)) same ∙ free))
            (λ out. let h = st.none t (ltb-false t (length l.design.signals.items) out) in omega (arith, here, own, h)))
            (λ none. own_place lay l.design lays s t other
            (e ∙ cond-false (writes n ((plan_of lay).slot t - 1)) ((own_plan lay).slot t) ((plan_of lay).slot t) none))

    -- what it reads is settled
    read_settled : Same (reads_at all k) view settled
    read_settled t j rd = by_cases ((plan_of lay).slot t == (own_plan lay).slot t)
        (λ yes. let own = eqb-true ((plan_of lay).slot t) ((own_plan lay).slot t) yes in
        ap (λ x. bit_at (w x) j) (view_own lay n t own) ∙ r.value t j own (λ a d. front.earlier a (t, j, d, rd)))
        (λ no. of (alias_at lay l.design lays t (eqb-false ((plan_of lay).slot t) ((own_plan lay).slot t) no)))
      where
        of : IsAlias l.design lay.slots.items t → look view t j ≡ look settled t j
        of a =
            let name : Naming = record { wire = t; signal = a.source } in
            let less = there t (names_known all a.node ws name a.names).wire_there in
            by_cases (nat_lt j (slice_index ws t))
            (λ yes.
            let low = ltb-true j (slice_index ws t) yes in
            let stands = mention_stands lay l.design lays k left n is done front t j (reads_mentioned n t j (sym (is.reads t j) ∙ rd))
            (λ some. subst (λ vs. j < slice_index vs t) (sym lays.widths) low) in
            let root : (plan_of lay).slot t ≡ (own_plan lay).slot a.root = (let at = a.stands in let here = (stand lay l.design lays).here a.root a.there in omega (arith, at, here)) in
            ap (λ x. bit_at (w x) j) (stands ∙ root)
            ∙ r.value a.root j (own_at lay l.design lays a.root a.there a.own) (λ b d. read_done lay l.design lays k left n is done front t j a low rd b j d)
            ∙ ap (λ x. bit_at x j) (sym (settled_alias t a)))
            (λ no.
            let high = ltb-false j (slice_index ws t) no in
            bit_at_above (w ((view_of lay n).slot t)) (slice_index ws t) j
            (subst (λ vs. w ((view_of lay n).slot t) < 2 ^ slice_index vs t) lays.widths ((view_ready lay l.design lays n w r.ready).fits t (wide t less))) high
            ∙ sym (settled_high t j less high))

    one_reached : Reached does_it.after (λ a. Member a (k ∷ done))
    one_reached = record {
      ready = record {
        fits = λ s less. by_cases ((plan_of lay).slot s == (own_plan lay).slot s)
            (λ yes. subst (λ x. does_it.after x < 2 ^ slice_index lay.widths.items s) (view_own lay n s (eqb-true ((plan_of lay).slot s) ((own_plan lay).slot s) yes)) (does_it.ready.fits s less))
            (λ no. subst (λ x. x < 2 ^ slice_index lay.widths.items s) (sym (alias_kept s (eqb-false ((plan_of lay).slot s) ((own_plan lay).slot s) no))) (r.ready.fits s less));
        next_fits = does_it.ready.next_fits;
        holds = does_it.ready.holds;
      };
      kept = λ s other. alias_kept s other ∙ r.kept s other;
      still = λ j low high. does_it.kept j (let m = (stand lay l.design lays).mark in omega (arith, high, m)) (λ t e. let few = view_few lay l.design lays n t in omega (arith, low, e, few))
          (λ t m e. let next = (stand lay l.design lays).next t (below_all (length l.design.signals.items) t m) in omega (arith, high, e, next)) ∙ r.still j low high;
      value = λ s i own drivers.
          ap (λ x. bit_at x i) (ap does_it.after (sym (view_own lay n s own)) ∙ now_at s)
          ∙ by_cases (drives_at all k s i)
          (λ yes. at_local all k view settled view settled (all_complete all f.sound.complete k) read_settled s i yes ∙ sym (settled_driven k s i yes))
          (λ no. at_outside all k view view s i no ∙ ap (λ x. bit_at (w x) i) (view_own lay n s own) ∙ r.value s i own (before_one all k done s i no drivers));
    }

    one_ends : Ends lay l first settled (stmt_code (plan_of lay) (as_statement n) (mark_of lay)) w (λ a. Member a (k ∷ done))
    one_ends = record {
      after = does_it.after;
      ends = ap (λ steps. walk steps (at 0 w))
          (sym (append-nil (stmt_code (view_of lay n) (as_statement n) (mark_of lay)) ∙ view_same lay l.design lays k left n is done front (mark_of lay))) ∙ does_it.ends;
      reached = one_reached;
    }

  -- ---- a node that leaves nothing to do

  -- it drives no signal that stands at its own place
  passes_none : (k : ℕ) (done : List ℕ) → IsFront (Before l.design) done k → at_or (is_shared lay.widths.items lay.slots.items) true all k ≡ true
      → (s i : ℕ) → (plan_of lay).slot s ≡ (own_plan lay).slot s → drives_at all k s i ≡ true → ⊥
  passes_none k done front shared s i own d =
      of (passes all k ws lay.slots.items s i (subst (λ vs. at_or (is_shared vs lay.slots.items) true all k ≡ true) lays.widths shared) d)
    where
      of : Passes k all ws lay.slots.items → ⊥
      of q =
          let n = q.n in
          let wire : s ≡ n.wire = names_alone all k ws n s i q.is d in
          let less = (driven_there lay l.design lays k s i d).0 in
          let here = (stand lay l.design lays).here s less in
          let at_ : slice_index lay.slots.items n.signal ≡ s + 1 = sym q.same ∙ ap (slice_index lay.slots.items) (sym wire) ∙ own ∙ here ∙ (let e : 1 + s ≡ s + 1 = omega arith in e) in
          signal n.signal at_ (λ j. names_read all k ws n j q.is) (lays.slots.each n.signal (there n.signal (names_known all k ws n q.is).signal_there))
        where
          signal : (t : ℕ) → slice_index lay.slots.items t ≡ s + 1 → ((j : ℕ) → reads_at all k t j ≡ true) → (slice_index lay.slots.items t ≡ t + 1) ⊎ IsAlias l.design lay.slots.items t → ⊥
          signal t at_ reads (inl e) =
              let same : t ≡ s = omega (arith, at_, e) in
              front.fresh (front.earlier k (s, i, d, subst (λ x. reads_at all k x i ≡ true) same (reads i)))
          signal t at_ reads (inr a) =
              let name : Naming = record { wire = t; signal = a.source } in
              let root : s ≡ a.root = (let e = a.stands in omega (arith, at_, e)) in
              front.fresh (root_done l.design done front.closed a.root t a.node a.source a.names a.leads
              (front.earlier a.node (t, 0, names_drive all a.node ws name 0 a.names (names_some all a.node ws name a.names), reads 0))
              k i (subst (λ x. drives_at all k x i ≡ true) root d))

  none_reached : (k : ℕ) (done : List ℕ) → IsFront (Before l.design) done k → at_or (is_shared lay.widths.items lay.slots.items) true all k ≡ true
      → (w : Valuation) → Reached w (λ a. Member a done) → Reached w (λ a. Member a (k ∷ done))
  none_reached k done front shared w r = record {
    ready = r.ready;
    kept = r.kept;
    still = r.still;
    value = λ s i own drivers. by_cases (drives_at all k s i)
        (λ yes. absurd (passes_none k done front shared s i own yes))
        (λ no. r.value s i own (before_one all k done s i no drivers));
  }

  -- ---- all of them

  later : (k : ℕ) (ks done : List ℕ) (a : ℕ) → Member a (k ∷ ks) ⊎ Member a done → Member a ks ⊎ Member a (k ∷ done)
  later k ks done a (inl (inl e)) = inr (inl e)
  later k ks done a (inl (inr m)) = inl m
  later k ks done a (inr m) = inr (inr m)

  rest_ends : (ks done : List ℕ) → IsRest (Before l.design) done ks → ((k : ℕ) → Member k ks → k < length all) → (w : Valuation) → Reached w (λ a. Member a done)
      → Ends lay l first settled (nodes_code (plan_of lay) (in_order all (kept lay.widths.items lay.slots.items all ks)) (mark_of lay)) w (λ a. Member a ks ⊎ Member a done)
  rest_ends [] done rest less w r = record {
    after = w;
    ends = refl;
    reached = reaches_more lay l first settled w (λ a. Member a done) (λ a. Member a [] ⊎ Member a done) only r;
  }
    where
      only : (a : ℕ) → Member a [] ⊎ Member a done → Member a done
      only a (inl m) = absurd m
      only a (inr m) = m
  rest_ends (k ∷ ks) done rest less w r =
      of (rest_ends ks (k ∷ done) (rest_next (Before l.design) done k ks rest) (λ j m. less j (inr m))) (at_or (is_shared lay.widths.items lay.slots.items) true all k) refl
    where
      front : IsFront (Before l.design) done k
      front = rest_front (Before l.design) done k ks rest

      of : ((v : Valuation) → Reached v (λ a. Member a (k ∷ done))
          → Ends lay l first settled (nodes_code (plan_of lay) (in_order all (kept lay.widths.items lay.slots.items all ks)) (mark_of lay)) v (λ a. Member a ks ⊎ Member a (k ∷ done)))
          → (b : Bool) → at_or (is_shared lay.widths.items lay.slots.items) true all k ≡ b
          → Ends lay l first settled (nodes_code (plan_of lay) (in_order all (if b then kept lay.widths.items lay.slots.items all ks else (k ∷ kept lay.widths.items lay.slots.items all ks))) (mark_of lay)) w
          (λ a. Member a (k ∷ ks) ⊎ Member a done)
      of go true e =
          let two = go w (none_reached k done front e w r) in
          record {
            after = two.after;
            ends = two.ends;
            reached = reaches_more lay l first settled two.after (λ a. Member a ks ⊎ Member a (k ∷ done)) (λ a. Member a (k ∷ ks) ⊎ Member a done) (later k ks done) two.reached;
          }
      of go false e =
          let found : (n : FlatNode) × IsNode all ws (IsKnown (plan_of lay)) k n = the_node all ws (IsKnown (plan_of lay)) k (less k (inl refl)) l.design.legal lays.nodes in
          let others = in_order all (kept lay.widths.items lay.slots.items all ks) in
          let one = one_ends k e found.0 found.1 done front w r in
          let two = go one.after one.reached in
          let xs = stmt_code (plan_of lay) (as_statement found.0) (mark_of lay) in
          let ys = nodes_code (plan_of lay) others (mark_of lay) in
          subst (λ zs. Ends lay l first settled (nodes_code (plan_of lay) (zs ++ others) (mark_of lay)) w (λ a. Member a (k ∷ ks) ⊎ Member a done)) (sym found.1.at)
          (record {
            after = two.after;
            ends = walk-append xs ys (at 0 w) ∙ ap (walk ys) one.ends ∙ two.ends;
            reached = reaches_more lay l first settled two.after (λ a. Member a ks ⊎ Member a (k ∷ done)) (λ a. Member a (k ∷ ks) ⊎ Member a done) (later k ks done) two.reached;
          })

  begins : Reached first (λ a. Member a [])
  begins = record {
    ready = ready;
    kept = λ s other. refl;
    still = λ k low high. refl;
    value = λ s i own drivers. sym (settled_free s i (undriven s i drivers));
  }

  pub all_ends : Ends lay l first settled (nodes_code (plan_of lay) (in_order all (kept lay.widths.items lay.slots.items all l.order.items)) (mark_of lay)) first
      (λ a. Member a l.order.items ⊎ Member a [])
  all_ends = rest_ends l.order.items [] (rest_first (Before l.design) (length all) l.order.items o) o.in_range first begins

  -- then each signal is settled where it stands
  own_settled : (s : ℕ) → (plan_of lay).slot s ≡ (own_plan lay).slot s → all_ends.after ((own_plan lay).slot s) ≡ settled s
  own_settled s own =
      same_from_bits (all_ends.after ((own_plan lay).slot s)) (settled s)
      (λ i. all_ends.reached.value s i own (λ a d. inl (o.all a (drives_number all a s i d))))

  pub all_settled : signals (plan_of lay) all_ends.after ≡ wires (flat l.design) state inputs
  all_settled = λ j s. at_ s j
    where
      at_ : (s : ℕ) → all_ends.after ((plan_of lay).slot s) ≡ settled s
      at_ s = by_cases ((plan_of lay).slot s == (own_plan lay).slot s)
          (λ yes. let own = eqb-true ((plan_of lay).slot s) ((own_plan lay).slot s) yes in ap all_ends.after own ∙ own_settled s own)
          (λ no.
          let a = alias_at lay l.design lays s (eqb-false ((plan_of lay).slot s) ((own_plan lay).slot s) no) in
          let root : (plan_of lay).slot s ≡ (own_plan lay).slot a.root = (let e = a.stands in let here = (stand lay l.design lays).here a.root a.there in omega (arith, e, here)) in
          ap all_ends.after root ∙ own_settled a.root (own_at lay l.design lays a.root a.there a.own) ∙ sym (settled_alias s a))

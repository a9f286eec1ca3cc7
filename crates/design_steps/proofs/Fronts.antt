-- What stands before a node in an order; and so each node that is left has the same steps by its own plan.
use Rattle.std.proofs.Common.{Bool, true, false, ◌≡◌, ◌⊎◌, ℕ, zero, suc, ◌+◌, ◌-◌, ◌<◌, ◌≤◌, nat_lt, List, [], ◌∷◌, map, length, refl, sym, ap, ◌∙◌, subst, arith, inl, inr}
use Rattle.std.specs.Prelude.{slice_index, if◌then◌else◌}
use Rattle.std.proofs.lemmas.Bool.{ltb-true, ltb-false, cond-false}
use Rattle.typed_ir.specs.declared.flat.Flat.{Flat}
use Rattle.typed_ir.specs.declared.span.Span.{Span}
use Rattle.typed_ir.specs.Orders.{Member, Each, at_or, Precedes, EachAfter, Distinct, IsOrderOf}
use Rattle.typed_ir.specs.Valuations.{Valuation}
use Rattle.typed_ir.specs.Stmts.{targets, is_legal}
use Rattle.typed_ir.specs.Nodes.{FlatNode, drive, node_drives, node_reads, drive_at, drives_at, reads_at, IsOrder, is_legal_node, are_legal}
use Rattle.typed_ir.specs.Touches.{mentions}
use Rattle.typed_ir.specs.Flats.{signal_widths}
use Rattle.typed_ir.specs.FlatNodes.{node_of}
use Rattle.typed_ir.proofs.Cases.{by_cases, and_left, and_right}
use Rattle.typed_ir.proofs.Mentions.{reads_foreign}
use Rattle.typed_ir.proofs.Lists.{each_left, each_right, each_append, each_weaker}
use Rattle.design_steps.specs.declared.layout.Layout.{Layout}
use Rattle.design_steps.specs.Plans.{IsKnown, width_at}
use Rattle.design_steps.specs.Statements.{stmt_constants, stmt_code}
use Rattle.design_steps.specs.Nodes.{as_statement, node_at, in_order}
use Rattle.design_steps.specs.Views.{plan_of}
use Rattle.design_steps.proofs.Passing.{node_legal}
use Rattle.design_steps.specs.declared.naming.Naming.{Naming}
use Rattle.design_steps.specs.Pooled.{nodes_constants}
use Rattle.design_steps.specs.Namings.{is_shared, kept, Names, LeadsTo, Itself, Over, IsAlias}
use Rattle.design_steps.specs.Layings.{left_of, own_plan, view_of, writes, LaysOut}
use Rattle.design_steps.proofs.Shared.{names_drive, names_read, names_some}
use Rattle.design_steps.proofs.Written.{written_drives, read_mentioned}
use Rattle.design_steps.proofs.Alike.{stmt_same}
use Rattle.design_steps.proofs.Apart.{stand, view_own}
use Rattle.design_steps.proofs.Laid.{not_alias, kept_targets}

-- ---- the numbers of an order, one after another

-- what comes before these numbers is among them, and so is what comes before k, which isn't
pub record IsFront (before : ℕ → ℕ → Type 0) (done : List ℕ) (k : ℕ) : Type 0 where
  pub closed : (a b : ℕ) → before a b → Member b done → Member a done
  pub earlier : (a : ℕ) → before a k → Member a done
  pub fresh : Member k done → ⊥

-- an order of which some numbers are done, and these are left
pub record IsRest (before : ℕ → ℕ → Type 0) (done ks : List ℕ) : Type 0 where
  pub after : EachAfter before done ks
  pub once : Distinct ks
  pub apart : (a : ℕ) → Member a done → Member a ks → ⊥
  pub closed : (a b : ℕ) → before a b → Member b done → Member a done

pub rest_first : (before : ℕ → ℕ → Type 0) (count : ℕ) (order : List ℕ) → IsOrderOf before count order → IsRest before [] order
rest_first before count order o = record { after = o.after; once = o.once; apart = λ a m n. m; closed = λ a b e m. m }

pub rest_front : (before : ℕ → ℕ → Type 0) (done : List ℕ) (k : ℕ) (ks : List ℕ) → IsRest before done (k ∷ ks) → IsFront before done k
rest_front before done k ks r = record { closed = r.closed; earlier = r.after.0; fresh = λ m. r.apart k m (inl refl) }

pub rest_next : (before : ℕ → ℕ → Type 0) (done : List ℕ) (k : ℕ) (ks : List ℕ) → IsRest before done (k ∷ ks) → IsRest before (k ∷ done) ks
rest_next before done k ks r = record { after = r.after.1; once = r.once.1; apart = apart; closed = closed }
  where
    apart : (a : ℕ) → Member a (k ∷ done) → Member a ks → ⊥
    apart a (inl e) m = r.once.0 (subst (λ x. Member x ks) e m)
    apart a (inr d) m = r.apart a d (inr m)

    closed : (a b : ℕ) → before a b → Member b (k ∷ done) → Member a (k ∷ done)
    closed a b h (inl e) = inr (r.after.0 a (subst (before a) e h))
    closed a b h (inr m) = inr (r.closed a b h m)

-- ---- a node by its number

pub record IsNode (ns : List FlatNode) (ws : List ℕ) (Known : ℕ → Type 0) (k : ℕ) (n : FlatNode) : Type 0 where
  pub at : node_at ns k ≡ n ∷ []
  pub legal : is_legal_node n ws ≡ true
  pub known : Each Known (stmt_constants (as_statement n))
  pub drives : (s i : ℕ) → drives_at ns k s i ≡ node_drives n s i
  pub reads : (s i : ℕ) → reads_at ns k s i ≡ node_reads n s i
  pub gives : (v env : Valuation) (s : ℕ) → drive_at ns k v env s ≡ drive n v env s

pub the_node : (ns : List FlatNode) (ws : List ℕ) (Known : ℕ → Type 0) (k : ℕ) → k < length ns → are_legal ns ws ≡ true → Each Known (nodes_constants ns)
    → (n : FlatNode) × IsNode ns ws Known k n
the_node [] ws Known k less legal known = absurd (omega (arith, less))
the_node (m ∷ ns) ws Known zero less legal known = (
  m,
  record {
    at = refl;
    legal = and_left (is_legal_node m ws) (are_legal ns ws) legal;
    known = each_left Known (stmt_constants (as_statement m)) (nodes_constants ns) known;
    drives = λ s i. refl;
    reads = λ s i. refl;
    gives = λ v env s. refl;
  },
)
the_node (m ∷ ns) ws Known (suc k) less legal known =
    let rest : (n : FlatNode) × IsNode ns ws Known k n =
    the_node ns ws Known k (omega (arith, less)) (and_right (is_legal_node m ws) (are_legal ns ws) legal)
    (each_right Known (stmt_constants (as_statement m)) (nodes_constants ns) known) in
    (rest.0, record { at = rest.1.at; legal = rest.1.legal; known = rest.1.known; drives = rest.1.drives; reads = rest.1.reads; gives = rest.1.gives })

-- ---- names of names

-- one node drives a bit that another one reads
abbrev pub Before : Flat → ℕ → ℕ → Type 0
Before design a b = Precedes (drives_at (map node_of design.nodes.items)) (reads_at (map node_of design.nodes.items)) a b

module _ (design : Flat) (done : List ℕ) (closed : (a b : ℕ) → Before design a b → Member b done → Member a done) (root : ℕ) where
  leads_done : {s : ℕ} → LeadsTo design root s → ((a i : ℕ) → drives_at (map node_of design.nodes.items) a s i ≡ true → Member a done)
      → (a i : ℕ) → drives_at (map node_of design.nodes.items) a root i ≡ true → Member a done
  leads_done Itself h a i d = h a i d
  leads_done (Over s node source names rest) h a i d =
      let all = map node_of design.nodes.items in
      let ws = signal_widths design.signals.items in
      let n : Naming = record { wire = s; signal = source } in
      let there = h node 0 (names_drive all node ws n 0 names (names_some all node ws n names)) in
      leads_done rest (λ b j e. closed b node (source, j, e, names_read all node ws n j names) there) a i d

  -- where the node that gives a name is done, so is all that drives the root
  pub root_done : (s node source : ℕ) → Names design node s source → LeadsTo design root source → Member node done
      → (a i : ℕ) → drives_at (map node_of design.nodes.items) a root i ≡ true → Member a done
  root_done s node source names leads there =
      let n : Naming = record { wire = s; signal = source } in
      leads_done leads (λ b j e. closed b node (source, j, e, names_read (map node_of design.nodes.items) node (signal_widths design.signals.items) n j names) there)

-- ---- a node that is left, by its own plan

module _ (l : Layout) (design : Flat) (h : LaysOut l design) where
  pub own_at : (s : ℕ) → s < length design.signals.items → slice_index l.slots.items s ≡ s + 1 → (plan_of l).slot s ≡ (own_plan l).slot s
  own_at s less at = let here = (stand l design h).here s less in omega (arith, here, at)

  -- what isn't there stands nowhere
  own_none : (s : ℕ) → length design.signals.items ≤ s → (plan_of l).slot s ≡ (own_plan l).slot s
  own_none s more = let t = stand l design h in t.shared s more ∙ sym (t.none s more)

  module _ (k : ℕ) (left : at_or (is_shared l.widths.items l.slots.items) true (map node_of design.nodes.items) k ≡ false) (n : FlatNode)
      (is : IsNode (map node_of design.nodes.items) (signal_widths design.signals.items) (IsKnown (plan_of l)) k n) (done : List ℕ)
      (front : IsFront (Before design) done k) where
    -- what it reads of a wire that is another name comes behind all that drives the root
    pub read_done : (t i : ℕ) (a : IsAlias design l.slots.items t) → i < slice_index (signal_widths design.signals.items) t → reads_at (map node_of design.nodes.items) k t i ≡ true
        → (b j : ℕ) → drives_at (map node_of design.nodes.items) b a.root j ≡ true → Member b done
    read_done t i a less r =
        let all = map node_of design.nodes.items in
        let ws = signal_widths design.signals.items in
        let name : Naming = record { wire = t; signal = a.source } in
        root_done design done front.closed a.root t a.node a.source a.names a.leads
        (front.earlier a.node (t, i, names_drive all a.node ws name i a.names less, r))

    -- so what it mentions stands where it does by the layout
    pub mention_stands : (t i : ℕ) → mentions n t i ≡ true → (0 < width_at (plan_of l) t → i < width_at (plan_of l) t) → (view_of l n).slot t ≡ (plan_of l).slot t
    mention_stands t i m within =
        by_cases (nat_lt t (length design.signals.items))
        (λ there. of (h.slots.each t (ltb-true t (length design.signals.items) there)) (ltb-true t (length design.signals.items) there))
        (λ out. same (own_none t (ltb-false t (length design.signals.items) out)))
      where
        same : (plan_of l).slot t ≡ (own_plan l).slot t → (view_of l n).slot t ≡ (plan_of l).slot t
        same e = view_own l n t e ∙ sym e

        of : (slice_index l.slots.items t ≡ t + 1) ⊎ IsAlias design l.slots.items t → t < length design.signals.items → (view_of l n).slot t ≡ (plan_of l).slot t
        of (inl e) less = same (own_at t less e)
        of (inr a) less =
            let all = map node_of design.nodes.items in
            let ws = signal_widths design.signals.items in
            let name : Naming = record { wire = t; signal = a.source } in
            let some : i < slice_index ws t = subst (λ vs. 0 < slice_index vs t → i < slice_index vs t) h.widths within (names_some all a.node ws name a.names) in
            let root : (plan_of l).slot t - 1 ≡ a.root = (let e = a.stands in omega (arith, e)) in
            by_cases (writes n ((plan_of l).slot t - 1))
            (λ yes. absurd (
            let bit : (j : ℕ) × (node_drives n a.root j ≡ true) = written_drives n a.root ws is.legal (ap (writes n) (sym root) ∙ yes) in
            by_cases (drives_at all k t i)
            (λ own. not_alias l design h k left t i own a)
            (λ other. front.fresh
            (read_done t i a some (is.reads t i ∙ reads_foreign n t i (sym (is.drives t i) ∙ other) m) k bit.0 (is.drives a.root bit.0 ∙ bit.1)))))
            (λ no. cond-false (writes n ((plan_of l).slot t - 1)) ((own_plan l).slot t) ((plan_of l).slot t) no)

    pub view_same : (mark : ℕ) → stmt_code (view_of l n) (as_statement n) mark ≡ stmt_code (plan_of l) (as_statement n) mark
    view_same mark =
        let st = as_statement n in
        let ws = signal_widths design.signals.items in
        stmt_same (plan_of l) (view_of l n).slot st mark (ap (is_legal st) h.widths ∙ node_legal n ws is.legal)
        (λ t i r within. mention_stands t i (read_mentioned n t i r) within)
        (each_weaker (λ (p : Span). (p.signal < length design.signals.items) × (slice_index l.slots.items p.signal ≡ p.signal + 1))
        (λ (p : Span). (view_of l n).slot p.signal ≡ (plan_of l).slot p.signal) (targets st)
        (λ p at. let e = own_at p.signal at.0 at.1 in view_own l n p.signal e ∙ sym e)
        (kept_targets l design h k left n is.legal (λ s i d. is.drives s i ∙ d)))

-- the nodes of an order that are left
module _ (l : Layout) (design : Flat) (h : LaysOut l design) (mark : ℕ) where
  abbrev pub IsAlike : FlatNode → Type 0
  IsAlike n = stmt_code (plan_of l) (as_statement n) mark ≡ stmt_code (view_of l n) (as_statement n) mark

  alike_at : (done : List ℕ) (k : ℕ) → IsFront (Before design) done k → k < length (map node_of design.nodes.items)
      → at_or (is_shared l.widths.items l.slots.items) true (map node_of design.nodes.items) k ≡ false → Each IsAlike (node_at (map node_of design.nodes.items) k)
  alike_at done k front less left =
      let all = map node_of design.nodes.items in
      let ws = signal_widths design.signals.items in
      let found : (n : FlatNode) × IsNode all ws (IsKnown (plan_of l)) k n = the_node all ws (IsKnown (plan_of l)) k less design.legal h.nodes in
      subst (Each IsAlike) (sym found.1.at) (sym (view_same l design h k left found.0 found.1 done front mark), tt)

  alike_rest : (done ks : List ℕ) → IsRest (Before design) done ks → ((k : ℕ) → Member k ks → k < length (map node_of design.nodes.items))
      → Each IsAlike (in_order (map node_of design.nodes.items) (kept l.widths.items l.slots.items (map node_of design.nodes.items) ks))
  alike_rest done [] r there = tt
  alike_rest done (k ∷ ks) r there =
      of (alike_rest (k ∷ done) ks (rest_next (Before design) done k ks r) (λ j m. there j (inr m))) (at_or (is_shared l.widths.items l.slots.items) true (map node_of design.nodes.items) k) refl
    where
      of : Each IsAlike (in_order (map node_of design.nodes.items) (kept l.widths.items l.slots.items (map node_of design.nodes.items) ks))
          → (b : Bool) → at_or (is_shared l.widths.items l.slots.items) true (map node_of design.nodes.items) k ≡ b
          → Each IsAlike (in_order (map node_of design.nodes.items)
          (if b then kept l.widths.items l.slots.items (map node_of design.nodes.items) ks else (k ∷ kept l.widths.items l.slots.items (map node_of design.nodes.items) ks)))
      of rest true e = rest
      of rest false e =
          each_append IsAlike (node_at (map node_of design.nodes.items) k)
          (in_order (map node_of design.nodes.items) (kept l.widths.items l.slots.items (map node_of design.nodes.items) ks))
          (alike_at done k (rest_front (Before design) done k ks r) (there k (inl refl)) e) rest

  pub nodes_alike : (order : List ℕ) → IsOrder (map node_of design.nodes.items) order → Each IsAlike (left_of l design order)
  nodes_alike order o = alike_rest [] order (rest_first (Before design) (length (map node_of design.nodes.items)) order o) o.in_range

-- A design's nodes are laid out, each by a plan of its own, and its blocks by the layout.
use Rattle.std.proofs.Common.{Bool, true, false, true≢false, ◌≡◌, ◌⊎◌, ℕ, ◌+◌, ◌<◌, ◌≤◌, ◌&&◌, List, [], ◌∷◌, map, length, refl, sym, ap, ◌∙◌, subst, arith, inl, inr, IsTrue}
use Rattle.std.specs.Prelude.{slice_index, if◌then◌else◌}
use Rattle.std.proofs.Math.Logic.{∥∥₁_elim}
use Rattle.std.proofs.Props.{props}
use Rattle.std.proofs.lemmas.Bool.{and_from}
use Rattle.std.proofs.lemmas.List.{length-map}
use Rattle.typed_ir.specs.declared.flat.Flat.{Flat}
use Rattle.typed_ir.specs.declared.signal.Signal.{Signal}
use Rattle.typed_ir.specs.declared.span.Span.{Span}
use Rattle.typed_ir.specs.Orders.{Member, Each, at_or}
use Rattle.typed_ir.specs.Valuations.{any_within}
use Rattle.typed_ir.specs.Stmts.{SizedStmt, is_clocked, targets, is_legal}
use Rattle.typed_ir.specs.Nodes.{FlatNode, node_drives, drives_at, OneDriver, is_legal_node}
use Rattle.typed_ir.specs.Flats.{signal_widths, are_clocked}
use Rattle.typed_ir.specs.FlatNodes.{node_of}
use Rattle.typed_ir.specs.Statements.{stmt_of, sequence_of}
use Rattle.typed_ir.specs.declared.stmt.Stmt.{Stmt}
use Rattle.typed_ir.proofs.Cases.{and_left, and_right}
use Rattle.typed_ir.proofs.Lists.{each_append}
use Rattle.design_steps.specs.declared.layout.Layout.{Layout}
use Rattle.design_steps.specs.Plans.{IsAlone, IsKnown}
use Rattle.design_steps.specs.Views.{plan_of}
use Rattle.design_steps.specs.Statements.{stmt_constants}
use Rattle.design_steps.specs.Nodes.{as_statement, node_at, in_order}
use Rattle.design_steps.specs.Right.{IsLaid, IsLaidNode}
use Rattle.design_steps.specs.declared.naming.Naming.{Naming}
use Rattle.design_steps.specs.Namings.{is_shared, kept, IsAlias}
use Rattle.design_steps.specs.Layings.{with_slots, clocking_plan, view_of, writes, signals_of, LaysOut}
use Rattle.design_steps.proofs.Passing.{node_legal}
use Rattle.design_steps.proofs.Counting.{in_all}
use Rattle.design_steps.proofs.Shared.{names_drive, names_known, names_shared}
use Rattle.design_steps.proofs.Written.{IsThere, targets_there, later_there, clocked_targets, any_own, driven_targets, each_with, each_node, drives_within, writes_each}
use Rattle.design_steps.proofs.Apart.{view_alone}

-- ---- nodes and blocks

module _ (l : Layout) (design : Flat) (h : LaysOut l design) where
  long : (s : ℕ) → s < length (signal_widths design.signals.items) → s < length design.signals.items
  long s less = let e = length-map design.signals.items (λ (x : Signal). x.width) in omega (arith, e, less)

  listed : (s : ℕ) → s < length (signal_widths design.signals.items) → Member s (signals_of design)
  listed s less = in_all (length design.signals.items) s (long s less)

  -- a bit that a node drives is there
  pub driven_there : (k t i : ℕ) → drives_at (map node_of design.nodes.items) k t i ≡ true → (t < length design.signals.items) × (i < slice_index (signal_widths design.signals.items) t)
  driven_there k t i d =
      let ws = signal_widths design.signals.items in
      let there = drives_within (map node_of design.nodes.items) k t i ws design.legal d in
      (long t there.0, there.1)

  -- a node that leaves something to do drives no wire that stands where another signal does
  pub not_alias : (k : ℕ) → at_or (is_shared l.widths.items l.slots.items) true (map node_of design.nodes.items) k ≡ false → (t i : ℕ)
      → drives_at (map node_of design.nodes.items) k t i ≡ true → IsAlias design l.slots.items t → ⊥
  not_alias k left t i drives a = ∥∥₁_elim design.sound (hlevel props) (λ f. true≢false (sym (passed f.sound.one_driver) ∙ left))
    where
      passed : OneDriver (map node_of design.nodes.items) → at_or (is_shared l.widths.items l.slots.items) true (map node_of design.nodes.items) k ≡ true
      passed one =
          let all = map node_of design.nodes.items in
          let ws = signal_widths design.signals.items in
          let n : Naming = record { wire = t; signal = a.source } in
          let within = (driven_there k t i drives).1 in
          let same : a.node ≡ k = one a.node k t i (names_drive all a.node ws n i a.names within) drives in
          let known = names_known all a.node ws n a.names in
          let many = length-map design.signals.items (λ (x : Signal). x.width) in
          let long = h.slots.long in
          subst (λ j. at_or (is_shared l.widths.items l.slots.items) true all j ≡ true) same
          (subst (λ vs. at_or (is_shared vs l.slots.items) true all a.node ≡ true) (sym h.widths)
          (names_shared all a.node ws l.slots.items n a.names (omega (arith, known.wire_there, many, long)) (omega (arith, known.signal_there, many, long)) (a.stands ∙ sym a.alike)))

  -- so what it drives stands at its own place
  kept_own : (k : ℕ) → at_or (is_shared l.widths.items l.slots.items) true (map node_of design.nodes.items) k ≡ false → (t i : ℕ)
      → drives_at (map node_of design.nodes.items) k t i ≡ true → slice_index l.slots.items t ≡ t + 1
  kept_own k left t i drives = of (h.slots.each t (driven_there k t i drives).0)
    where
      of : (slice_index l.slots.items t ≡ t + 1) ⊎ IsAlias design l.slots.items t → slice_index l.slots.items t ≡ t + 1
      of (inl at) = at
      of (inr a) = absurd (not_alias k left t i drives a)

  statement_laid : (slot : ℕ → ℕ) (st : SizedStmt) → is_legal st (signal_widths design.signals.items) ≡ true → Each (IsKnown (plan_of l)) (stmt_constants st)
      → Each (λ (p : Span). IsAlone (with_slots l slot) p.signal) (targets st) → IsLaid (with_slots l slot) (signals_of design) st
  statement_laid slot st legal known alone =
      let ws = signal_widths design.signals.items in
      record {
        legal = ap (is_legal st) h.widths ∙ legal;
        alone = alone;
        among = later_there (λ (p : Span). Member p.signal (signals_of design)) ws (λ p there. listed p.signal there.0) st legal;
        known = known;
      }

  node_laid : (k : FlatNode) → is_legal_node k (signal_widths design.signals.items) ≡ true → Each (IsKnown (plan_of l)) (stmt_constants (as_statement k))
      → Each (λ (p : Span). IsAlone (view_of l k) p.signal) (targets (as_statement k)) → IsLaidNode (view_of l k) (signals_of design) k
  node_laid k legal known alone =
      let ws = signal_widths design.signals.items in
      let st = statement_laid (view_of l k).slot (as_statement k) (node_legal k ws legal) known alone in
      record { legal = ap (is_legal_node k) h.widths ∙ legal; alone = st.alone; among = st.among; known = st.known }

  -- a signal that a node writes stands at its own place
  pub kept_targets : (k : ℕ) → at_or (is_shared l.widths.items l.slots.items) true (map node_of design.nodes.items) k ≡ false → (n : FlatNode)
      → is_legal_node n (signal_widths design.signals.items) ≡ true → ((s i : ℕ) → node_drives n s i ≡ true → drives_at (map node_of design.nodes.items) k s i ≡ true)
      → Each (λ (p : Span). (p.signal < length design.signals.items) × (slice_index l.slots.items p.signal ≡ p.signal + 1)) (targets (as_statement n))
  kept_targets k left n legal drives =
      let ws = signal_widths design.signals.items in
      let st = as_statement n in
      each_with (IsThere ws) (λ (p : Span). any_within (targets st) p.signal p.low ≡ true)
      (λ (p : Span). (p.signal < length design.signals.items) × (slice_index l.slots.items p.signal ≡ p.signal + 1)) (targets st)
      (λ p there own. (long p.signal there.0, kept_own k left p.signal p.low (drives p.signal p.low (driven_targets n p.signal p.low own))))
      (targets_there (IsThere ws) ws (λ p there. there) st (node_legal n ws legal))
      (any_own (targets st) (targets st) (λ s i e. e) (targets_there (λ (p : Span). 1 ≤ p.width) ws (λ p there. there.1) st (node_legal n ws legal)))

  -- a node that leaves something to do, by the plan in which what it writes stands alone
  pub one_laid : (k : ℕ) → at_or (is_shared l.widths.items l.slots.items) true (map node_of design.nodes.items) k ≡ false → (n : FlatNode)
      → is_legal_node n (signal_widths design.signals.items) ≡ true → Each (IsKnown (plan_of l)) (stmt_constants (as_statement n))
      → ((s i : ℕ) → node_drives n s i ≡ true → drives_at (map node_of design.nodes.items) k s i ≡ true) → IsLaidNode (view_of l n) (signals_of design) n
  one_laid k left n legal known drives =
      let ps = targets (as_statement n) in
      node_laid n legal known
      (each_with (λ (p : Span). (p.signal < length design.signals.items) × (slice_index l.slots.items p.signal ≡ p.signal + 1)) (λ (p : Span). writes n p.signal ≡ true)
      (λ (p : Span). IsAlone (view_of l n) p.signal) ps (λ p at written. view_alone l design h n p.signal at.0 at.1 written)
      (kept_targets k left n legal drives) (writes_each ps ps (λ s e. e)))

  node_at_laid : (k : ℕ) → at_or (is_shared l.widths.items l.slots.items) true (map node_of design.nodes.items) k ≡ false
      → Each (λ n. IsLaidNode (view_of l n) (signals_of design) n) (node_at (map node_of design.nodes.items) k)
  node_at_laid k left =
      each_node (λ n. IsLaidNode (view_of l n) (signals_of design) n) (IsKnown (plan_of l)) (map node_of design.nodes.items) k (signal_widths design.signals.items) design.legal h.nodes
      (λ n legal known drives. one_laid k left n legal known drives)

  -- the nodes of an order that leave something to do
  pub nodes_laid : (order : List ℕ)
      → Each (λ n. IsLaidNode (view_of l n) (signals_of design) n)
      (in_order (map node_of design.nodes.items) (kept l.widths.items l.slots.items (map node_of design.nodes.items) order))
  nodes_laid [] = tt
  nodes_laid (k ∷ ks) = of (nodes_laid ks) (at_or (is_shared l.widths.items l.slots.items) true (map node_of design.nodes.items) k) refl
    where
      of : Each (λ n. IsLaidNode (view_of l n) (signals_of design) n) (in_order (map node_of design.nodes.items) (kept l.widths.items l.slots.items (map node_of design.nodes.items) ks))
          → (b : Bool) → at_or (is_shared l.widths.items l.slots.items) true (map node_of design.nodes.items) k ≡ b
          → Each (λ n. IsLaidNode (view_of l n) (signals_of design) n) (in_order (map node_of design.nodes.items)
          (if b then kept l.widths.items l.slots.items (map node_of design.nodes.items) ks else (k ∷ kept l.widths.items l.slots.items (map node_of design.nodes.items) ks)))
      of rest true e = rest
      of rest false e =
          each_append (λ n. IsLaidNode (view_of l n) (signals_of design) n) (node_at (map node_of design.nodes.items) k)
          (in_order (map node_of design.nodes.items) (kept l.widths.items l.slots.items (map node_of design.nodes.items) ks)) (node_at_laid k e) rest

  blocks_legal : (sts : List Stmt) → IsTrue (are_clocked sts (signal_widths design.signals.items)) → is_legal (sequence_of (map stmt_of sts)) (signal_widths design.signals.items) ≡ true
  blocks_legal [] c = refl
  blocks_legal (st ∷ sts) c =
      let ws = signal_widths design.signals.items in
      let one = is_legal (stmt_of st) ws && is_clocked (stmt_of st) in
      and_from (is_legal (stmt_of st) ws) (is_legal (sequence_of (map stmt_of sts)) ws)
      (and_left (is_legal (stmt_of st) ws) (is_clocked (stmt_of st)) (and_left one (are_clocked sts ws) c)) (blocks_legal sts (and_right one (are_clocked sts ws) c))

  blocks_clocked : (sts : List Stmt) → IsTrue (are_clocked sts (signal_widths design.signals.items)) → is_clocked (sequence_of (map stmt_of sts)) ≡ true
  blocks_clocked [] c = refl
  blocks_clocked (st ∷ sts) c =
      let ws = signal_widths design.signals.items in
      let one = is_legal (stmt_of st) ws && is_clocked (stmt_of st) in
      and_from (is_clocked (stmt_of st)) (is_clocked (sequence_of (map stmt_of sts)))
      (and_right (is_legal (stmt_of st) ws) (is_clocked (stmt_of st)) (and_left one (are_clocked sts ws) c)) (blocks_clocked sts (and_right one (are_clocked sts ws) c))

  pub blocks_laid : IsLaid (clocking_plan l) (signals_of design) (sequence_of (map stmt_of design.clocked.items))
  blocks_laid =
      let st = sequence_of (map stmt_of design.clocked.items) in
      let laid = statement_laid (plan_of l).slot st (blocks_legal design.clocked.items design.blocks) h.blocks
      (clocked_targets (λ (p : Span). IsAlone (plan_of l) p.signal) st (blocks_clocked design.clocked.items design.blocks)) in
      record { legal = laid.legal; alone = laid.alone; among = laid.among; known = laid.known }

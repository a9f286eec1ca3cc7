-- What a cycle of a program gives.
use Rattle.std.proofs.Common.{◌≡◌, ℕ, ◌+◌, ◌*◌, ◌<◌, ◌≤◌, ◌^◌, ◌&&◌, ◌==◌, nat_lt, inl, inr, List, [], ◌∷◌, ◌++◌, map, length, refl, sym, ap, ◌∙◌, subst, arith, IsTrue}
use Rattle.std.proofs.Math.Logic.{∥∥₁_elim}
use Rattle.std.proofs.Props.{props}
use Rattle.std.proofs.lemmas.Bool.{ltb-true, ltb-false, eqb-true, eqb-false}
use Rattle.std.proofs.lemmas.Nat.Bits.{same_from_bits}
use Rattle.std.specs.Int.{bit_at}
use Rattle.typed_ir.specs.declared.linked.Linked.{Linked}
use Rattle.typed_ir.specs.declared.stmt.Stmt.{Stmt}
use Rattle.typed_ir.specs.declared.update.Update.{Update}
use Rattle.typed_ir.specs.Valuations.{Valuation, look}
use Rattle.typed_ir.specs.Orders.{Member, Distinct}
use Rattle.typed_ir.specs.Nodes.{IsOrder}
use Rattle.typed_ir.specs.Stmts.{exec, pending, all_applied, is_legal, is_clocked}
use Rattle.typed_ir.specs.Statements.{stmt_of, sequence_of}
use Rattle.typed_ir.specs.Linkeds.{flat}
use Rattle.typed_ir.specs.Flats.{IsFlat, are_clocked, signal_widths}
use Rattle.typed_ir.specs.Cycles.{wires, step, base, fill, all_pending, Satisfies, IsReady as IsBased}
use Rattle.typed_ir.proofs.Cases.{by_cases, and_left, and_right}
use Rattle.typed_ir.proofs.Locals.{node_laws}
use Rattle.typed_ir.proofs.Numbered.{wires_satisfy}
use Rattle.typed_ir.proofs.Pending.{clocked_still}
use Rattle.typed_ir.proofs.Ready.{member_or, fill-other, applied_others, all_signals, next_ready}
use Rattle.typed_ir.proofs.Settled.{round-outside}
use Rattle.typed_ir.proofs.Members.{map_same}
use Rattle.word_steps.specs.declared.step.Step.{Step}
use Rattle.word_steps.specs.Walks.{At, walk, at}
use Rattle.design_steps.specs.Statements.{stmt_code}
use Rattle.design_steps.specs.Nodes.{nodes_code}
use Rattle.design_steps.specs.Plans.{IsReady, signals, width_at}
use Rattle.design_steps.specs.Views.{plan_of}
use Rattle.design_steps.proofs.Doing.{does, all_applied_at}
use Rattle.design_steps.specs.Namings.{Held, IsAlias}
use Rattle.design_steps.specs.Layings.{own_plan, clocking_plan, mark_of, signals_of}
use Rattle.design_steps.specs.Carries.{carried}
use Rattle.design_steps.specs.Moves.{moved, block}
use Rattle.design_steps.specs.Programs.{IsProgramOf, AreNext, kept_nodes}
use Rattle.design_steps.specs.declared.program.Program.{Program}
use Rattle.design_steps.proofs.Counting.{below_all, in_all}
use Rattle.design_steps.proofs.Apart.{widths_many, stand, slot_few, clocking_apart, own_few, own_place, own_later, own_mark, alias_at, clocking_ready}
use Rattle.design_steps.proofs.Laid.{blocks_laid}
use Rattle.design_steps.proofs.Passed.{all_ends, all_settled}
use Rattle.design_steps.proofs.Copied.{below_member, carried_kept, carried_at}
use Rattle.design_steps.proofs.Moved.{walk_back}
use Rattle.design_steps.proofs.Gathered.{IsTable, Gathers, all_table, all_gathered}
use Rattle.design_steps.proofs.Blocks.{block_back}

-- ---- plain facts

-- clocked blocks one after another
pub blocks_still : (sts : List Stmt) (ws : List ℕ) (env : Valuation) → IsTrue (are_clocked sts ws) → exec (sequence_of (map stmt_of sts)) env ≡ env
blocks_still [] ws env h = refl
blocks_still (st ∷ sts) ws env h =
    let own = is_legal (stmt_of st) ws && is_clocked (stmt_of st) in
    ap (exec (sequence_of (map stmt_of sts))) (clocked_still (stmt_of st) (and_right (is_legal (stmt_of st) ws) (is_clocked (stmt_of st)) (and_left own (are_clocked sts ws) h)) env)
    ∙ blocks_still sts ws env (and_right own (are_clocked sts ws) h)

pub blocks_pending : (sts : List Stmt) (ws : List ℕ) (env : Valuation) → IsTrue (are_clocked sts ws)
    → pending (sequence_of (map stmt_of sts)) env ≡ all_pending (map stmt_of sts) env
blocks_pending [] ws env h = refl
blocks_pending (st ∷ sts) ws env h =
    let own = is_legal (stmt_of st) ws && is_clocked (stmt_of st) in
    let rest = sequence_of (map stmt_of sts) in
    ap (λ e. pending (stmt_of st) env ++ pending rest e)
    (clocked_still (stmt_of st) (and_right (is_legal (stmt_of st) ws) (is_clocked (stmt_of st)) (and_left own (are_clocked sts ws) h)) env)
    ∙ ap (λ us. pending (stmt_of st) env ++ us) (blocks_pending sts ws env (and_right own (are_clocked sts ws) h))

-- the steps by places before they were moved
abbrev pub settle_code : Program → Linked → List Step
settle_code p l = nodes_code (plan_of p.layout) (kept_nodes p.layout l) (mark_of p.layout)

abbrev pub clock_code : Program → Linked → List Step
clock_code p l = stmt_code (clocking_plan p.layout) (sequence_of (map stmt_of l.design.clocked.items)) (mark_of p.layout)

-- the signals after a cycle, over settled wires: those at their own places are as the updates make them, and the own places of others hold
-- what they held
pub record Turns (p : Program) (l : Linked) (old w v : Valuation) : Type 0 where
  pub now : (s : ℕ) → (plan_of p.layout).slot s ≡ (own_plan p.layout).slot s → w ((own_plan p.layout).slot s) ≡ all_applied (all_pending (flat l.design).clocked v) v s
  pub kept : (s : ℕ) → ((plan_of p.layout).slot s ≡ (own_plan p.layout).slot s → ⊥) → w ((own_plan p.layout).slot s) ≡ old ((own_plan p.layout).slot s)
  pub ready : IsReady (own_plan p.layout) (signals_of l.design) w
  pub nexts : AreNext p.layout l.design w

-- the same of settled wires
pub record Settles (p : Program) (l : Linked) (old w v : Valuation) : Type 0 where
  pub now : signals (plan_of p.layout) w ≡ v
  pub kept : (s : ℕ) → ((plan_of p.layout).slot s ≡ (own_plan p.layout).slot s → ⊥) → w ((own_plan p.layout).slot s) ≡ old ((own_plan p.layout).slot s)
  pub still : (k : ℕ) → length l.design.signals.items < k → k < 2 * length l.design.signals.items + 1 → w k ≡ old k
  pub ready : IsReady (own_plan p.layout) (signals_of l.design) w

-- ---- the wires

module _ (p : Program) (l : Linked) (is : IsProgramOf p l) where
  satisfied : (state inputs : List ℕ) → Satisfies (flat l.design) state inputs (wires (flat l.design) state inputs)
  satisfied state inputs =
      ∥∥₁_elim l.design.sound (hlevel props) (λ f. ∥∥₁_elim l.in_order (hlevel props) (λ o.
      wires_satisfy (flat l.design) l.order.items state inputs f.sound o))

  -- words that are moved
  pub table : IsTable p.places.items (3 * length l.design.signals.items + 2 * length l.design.registers.items + 1)
  table =
      subst (λ t. IsTable t (3 * length l.design.signals.items + 2 * length l.design.registers.items + 1)) (sym is.places)
      (all_table (length l.design.signals.items) l.design.registers.items l.design.registers_there)

  pub settled_back : (w : Valuation) → (λ k. (walk p.settling.items (at 0 w)).words (moved p.places.items k)) ≡ (walk (settle_code p l) (at 0 (λ k. w (moved p.places.items k)))).words
  settled_back w =
      ap (λ steps. (λ k. (walk steps (at 0 w)).words (moved p.places.items k))) is.settles
      ∙ walk_back p.places.items table.once (settle_code p l) 0 w

  -- and registers that are copied as one block
  pub clocked_back : (w : Valuation)
      → (λ k. block (3 * length l.design.signals.items + length l.design.registers.items + 1) (3 * length l.design.signals.items + 1) (length l.design.registers.items)
      (walk p.clocking.items (at 0 w)).words (moved p.places.items k))
      ≡ carried l.design.registers.items (length l.design.signals.items + 1) 1 (walk (clock_code p l) (at 0 (λ k. w (moved p.places.items k)))).words
  clocked_back w =
      let n = length l.design.signals.items in
      let regs = l.design.registers.items in
      let m = length regs in
      let t = p.places.items in
      let gathers : Distinct regs → Gathers t regs n (3 * n + 1) (3 * n + m + 1) = λ once.
      subst (λ x. Gathers x regs n (3 * n + 1) (3 * n + m + 1)) (sym is.places) (all_gathered n regs l.design.registers_there once) in
      ∥∥₁_elim l.design.sound (hlevel props) (λ f.
      block_back t regs n (3 * n + 1) (3 * n + m + 1) table.once l.design.registers_there (gathers f.registers_once) (walk p.clocking.items (at 0 w)).words)
      ∙ ap (carried regs (n + 1) 1) (ap (λ steps. (λ k. (walk steps (at 0 w)).words (moved t k))) is.clocks ∙ walk_back t table.once (clock_code p l) 0 w)

  pub wide : (s : ℕ) → s < length l.design.signals.items → s < length p.layout.widths.items
  wide s less = let e = widths_many p.layout l.design is.lays in omega (arith, e, less)

  -- an own place lies below all next values
  pub own_low : (s : ℕ) → (own_plan p.layout).slot s ≤ length l.design.signals.items
  own_low s = own_few p.layout l.design is.lays s

  alias_of : (s : ℕ) → ((plan_of p.layout).slot s ≡ (own_plan p.layout).slot s → ⊥) → IsAlias l.design p.layout.slots.items s
  alias_of s other = alias_at p.layout l.design is.lays s other

  -- what is no register and no input begins with 0
  base_free : (state inputs : List ℕ) (s : ℕ) → (Held l.design s → ⊥) → base (flat l.design) state inputs s ≡ 0
  base_free state inputs s none =
      fill-other l.design.registers.items state (fill l.design.inputs.items inputs (λ t. 0)) s (λ m. none (inl m))
      ∙ fill-other l.design.inputs.items inputs (λ t. 0) s (λ m. none (inr m))

  -- the steps of the nodes
  pub settles : (w : Valuation) (state inputs : List ℕ) → IsReady (own_plan p.layout) (signals_of l.design) w
      → IsBased (flat l.design) state inputs (signals (own_plan p.layout) w)
      → Settles p l w (walk (settle_code p l) (at 0 w)).words (wires (flat l.design) state inputs)
  settles w state inputs ready based = record {
    now = ∥∥₁_elim l.design.sound (hlevel props) (λ f. ∥∥₁_elim l.in_order (hlevel props) (λ o. (by f o).now));
    kept = λ s other. ∥∥₁_elim l.design.sound (hlevel props) (λ f. ∥∥₁_elim l.in_order (hlevel props) (λ o. (by f o).kept s other));
    still = λ k low high. ∥∥₁_elim l.design.sound (hlevel props) (λ f. ∥∥₁_elim l.in_order (hlevel props) (λ o. (by f o).still k low high));
    ready = record {
      fits = λ s h. ∥∥₁_elim l.design.sound (hlevel props) (λ f. ∥∥₁_elim l.in_order (hlevel props) (λ o. (by f o).ready.fits s h));
      next_fits = λ s m. ∥∥₁_elim l.design.sound (hlevel props) (λ f. ∥∥₁_elim l.in_order (hlevel props) (λ o. (by f o).ready.next_fits s m));
      holds = λ v m. ∥∥₁_elim l.design.sound (hlevel props) (λ f. ∥∥₁_elim l.in_order (hlevel props) (λ o. (by f o).ready.holds v m));
    };
  }
    where
      by : IsFlat (flat l.design) → IsOrder (flat l.design).nodes l.order.items → Settles p l w (walk (settle_code p l) (at 0 w)).words (wires (flat l.design) state inputs)
      by f o =
          let e = all_ends p.layout l is.lays f o state inputs w ready based in
          let ends : (walk (settle_code p l) (at 0 w)).words ≡ e.after = ap (λ (a : At). a.words) e.ends in
          subst (λ z. Settles p l w z (wires (flat l.design) state inputs)) (sym ends)
          (record { now = all_settled p.layout l is.lays f o state inputs w ready based; kept = e.reached.kept; still = e.reached.still; ready = e.reached.ready })

  -- settled wires are as the registers and inputs say
  pub settled_based : (w w' : Valuation) (state inputs : List ℕ) → IsBased (flat l.design) state inputs (signals (own_plan p.layout) w)
      → Settles p l w w' (wires (flat l.design) state inputs) → IsBased (flat l.design) state inputs (signals (own_plan p.layout) w')
  settled_based w w' state inputs old new s i free = by_cases ((plan_of p.layout).slot s == (own_plan p.layout).slot s)
      (λ yes.
      ap (λ k. bit_at (w' k) i) (sym (eqb-true ((plan_of p.layout).slot s) ((own_plan p.layout).slot s) yes))
      ∙ ap (λ v. look v s i) (new.now ∙ sym (satisfied state inputs))
      ∙ round-outside node_laws (flat l.design).nodes (wires (flat l.design) state inputs) (base (flat l.design) state inputs) s i free)
      (λ no. ap (λ x. bit_at x i) (new.kept s (eqb-false ((plan_of p.layout).slot s) ((own_plan p.layout).slot s) no)) ∙ old s i free)

  -- and next values are still what registers have
  pub settled_next : (w w' : Valuation) (state inputs : List ℕ) → IsBased (flat l.design) state inputs (signals (own_plan p.layout) w) → AreNext p.layout l.design w
      → Settles p l w w' (wires (flat l.design) state inputs) → AreNext p.layout l.design w'
  settled_next w w' state inputs old nexts new = record {
    fits = λ s m. subst (λ x. x < 2 ^ width_at (own_plan p.layout) s) (sym (stays s (below_all n s m))) (nexts.fits s m);
    same = λ s m. stays s (below_member l.design.registers.items n s l.design.registers_there m) ∙ nexts.same s m ∙ register s m;
  }
    where
      n : ℕ
      n = length l.design.signals.items

      stays : (s : ℕ) → s < length l.design.signals.items → w' ((clocking_plan p.layout).next s) ≡ w ((clocking_plan p.layout).next s)
      stays s less =
          let t = (stand p.layout l.design is.lays).later s less in
          new.still ((clocking_plan p.layout).next s) (omega (arith, t)) (omega (arith, t, less))

      register : (s : ℕ) → Member s l.design.registers.items → w ((own_plan p.layout).slot s) ≡ w' ((own_plan p.layout).slot s)
      register s m = ∥∥₁_elim l.design.sound (hlevel props) (λ f.
          same_from_bits (w ((own_plan p.layout).slot s)) (w' ((own_plan p.layout).slot s)) (λ i.
          old s i (f.held s i (inl m)) ∙ sym (settled_based w w' state inputs old new s i (f.held s i (inl m)))))

  -- ---- the registers

  pub place_high : (v : ℕ) → 3 * length l.design.signals.items + 1 ≤ (plan_of p.layout).place v
  place_high v = let e = (stand p.layout l.design is.lays).low v in omega (arith, e)

  listed : (s : ℕ) → Member s l.design.registers.items → Member s (signals_of l.design)
  listed s m =
      let less = below_member l.design.registers.items (length l.design.signals.items) s l.design.registers_there m in
      in_all (length l.design.signals.items) s less

  -- the next values copied back
  down_at : (w : Valuation) (s : ℕ) → Member s l.design.registers.items → carried l.design.registers.items (length l.design.signals.items + 1) 1 w ((own_plan p.layout).slot s)
      ≡ w ((clocking_plan p.layout).next s)
  down_at w s m =
      let n = length l.design.signals.items in
      let regs = l.design.registers.items in
      let t = stand p.layout l.design is.lays in
      let less = below_member regs n s l.design.registers_there m in
      ap (carried regs (n + 1) 1 w) (t.here s less)
      ∙ carried_at regs (n + 1) 1 n w s l.design.registers_there (λ a b x y e. omega (arith, x, y, e)) m
      ∙ ap w (sym (t.later s less))

  down_other : (w : Valuation) (s : ℕ) → (Member s l.design.registers.items → ⊥)
      → carried l.design.registers.items (length l.design.signals.items + 1) 1 w ((own_plan p.layout).slot s) ≡ w ((own_plan p.layout).slot s)
  down_other w s none =
      let n = length l.design.signals.items in
      let regs = l.design.registers.items in
      let t = stand p.layout l.design is.lays in
      carried_kept regs (n + 1) 1 w ((own_plan p.layout).slot s) (λ r m e.
      by_cases (nat_lt s n)
      (λ yes. none (subst (λ z. Member z regs) (let here = t.here s (ltb-true s n yes) in same s r here e) m))
      (λ no. let none_ = t.none s (ltb-false s n no) in zero_ r none_ e))
    where
      same : (s r : ℕ) {x : ℕ} → x ≡ 1 + s → x ≡ 1 + r → r ≡ s
      same s r e f = omega (arith, e, f)

      zero_ : (r : ℕ) {x : ℕ} → x ≡ 0 → x ≡ 1 + r → ⊥
      zero_ r e f = omega (arith, e, f)

  down_kept : (w : Valuation) (k : ℕ) → length l.design.signals.items < k → carried l.design.registers.items (length l.design.signals.items + 1) 1 w k ≡ w k
  down_kept w k high =
      let n = length l.design.signals.items in
      let regs = l.design.registers.items in
      carried_kept regs (n + 1) 1 w k (λ r m e. let less = below_member regs n r l.design.registers_there m in omega (arith, less, e, high))

  -- a register stands at its own place
  register_own : (s : ℕ) → Member s l.design.registers.items → (plan_of p.layout).slot s ≡ (own_plan p.layout).slot s
  register_own s m = by_cases ((plan_of p.layout).slot s == (own_plan p.layout).slot s)
      (λ yes. eqb-true ((plan_of p.layout).slot s) ((own_plan p.layout).slot s) yes)
      (λ no. absurd ((alias_of s (eqb-false ((plan_of p.layout).slot s) ((own_plan p.layout).slot s) no)).free (inl m)))

  -- the words after the blocks and after the copy, where `v` are the settled wires
  module _ (w : Valuation) (state inputs : List ℕ) (ready : IsReady (own_plan p.layout) (signals_of l.design) w) (nexts : AreNext p.layout l.design w)
      (settled : signals (plan_of p.layout) w ≡ wires (flat l.design) state inputs) where
    pub turned : Turns p l w (carried l.design.registers.items (length l.design.signals.items + 1) 1 (walk (clock_code p l) (at 0 w)).words) (wires (flat l.design) state inputs)
    turned =
        let pl = clocking_plan p.layout in
        let ow = own_plan p.layout in
        let rs = signals_of l.design in
        let n = length l.design.signals.items in
        let regs = l.design.registers.items in
        let ws = signal_widths l.design.signals.items in
        let sts = l.design.clocked.items in
        let st = sequence_of (map stmt_of sts) in
        let mark = mark_of p.layout in
        let v = wires (flat l.design) state inputs in
        let us = all_pending (map stmt_of sts) v in
        let t = stand p.layout l.design is.lays in
        let d = does pl rs mark (clocking_apart p.layout l.design is.lays) st mark w (omega arith) (blocks_laid p.layout l.design is.lays)
        (clocking_ready p.layout l.design is.lays w ready nexts.fits) in
        let after = carried regs (n + 1) 1 d.after in
        let noted : pending st (signals pl w) ≡ us = ap (pending st) settled ∙ blocks_pending sts ws v l.design.blocks in
        let still : (s : ℕ) → d.after (pl.slot s) ≡ v s = λ s. d.now s ∙ ap (λ e. exec st e s) settled ∙ ap (λ e. e s) (blocks_still sts ws v l.design.blocks) in
        let others : (s : ℕ) → (Member s regs → ⊥) → all_applied us v s ≡ v s = λ s none.
        ∥∥₁_elim l.design.sound (hlevel props) (λ f. applied_others regs us v s (all_signals regs (map stmt_of sts) v f.registers_only) none) in
        let now : (s : ℕ) → pl.slot s ≡ ow.slot s → after (ow.slot s) ≡ all_applied us v s = λ s own.
        elim (member_or s regs) as (λ _. after (ow.slot s) ≡ all_applied us v s) [
          | inl r ↦ down_at d.after s r ∙ d.later s (listed s r)
              ∙ ap (λ (zs : List Update). all_applied zs (λ u. w (pl.next u)) s) noted
              ∙ all_applied_at us (λ u. w (pl.next u)) v s (nexts.same s r ∙ ap w (sym own) ∙ ap (λ e. e s) settled)
          | inr none ↦ down_other d.after s none ∙ ap d.after (sym own) ∙ still s ∙ sym (others s none)
        ] in
        let kept_words : (s : ℕ) → (pl.slot s ≡ ow.slot s → ⊥) → after (ow.slot s) ≡ w (ow.slot s) = λ s other.
        down_other d.after s (λ m. (alias_of s other).free (inl m))
        ∙ d.kept (ow.slot s) (own_mark p.layout l.design is.lays s) (λ u. own_place p.layout l.design is.lays s u other) (λ u m. own_later p.layout l.design is.lays s u m) in
        -- where nodes put next values
        let unread : (s : ℕ) → Member s rs → after (ow.next s) ≡ w (ow.next s) = λ s m.
        let less = below_all n s m in
        let here = t.next s less in
        down_kept d.after (ow.next s) (omega (arith, here))
        ∙ d.kept (ow.next s) (let k = t.mark in omega (arith, here, less, k)) (λ u e. let few = slot_few p.layout l.design is.lays u in omega (arith, here, e, few))
        (λ u k e. let low = below_all n u k in let next = t.later u low in omega (arith, here, e, next, low)) in
        let ends : (walk (clock_code p l) (at 0 w)).words ≡ d.after = ap (λ (a : At). a.words) d.ends in
        subst (λ z. Turns p l w (carried regs (n + 1) 1 z) v) (sym ends)
        (record {
          now = now;
          kept = kept_words;
          ready = record {
            fits = λ s h. elim (member_or s regs) as (λ _. after (ow.slot s) < 2 ^ width_at ow s) [
              | inl r ↦ subst (λ x. x < 2 ^ width_at ow s) (sym (down_at d.after s r)) (d.ready.next_fits s (listed s r))
              | inr none ↦ by_cases (pl.slot s == ow.slot s)
                  (λ yes. subst (λ x. x < 2 ^ width_at ow s) (sym (down_other d.after s none ∙ ap d.after (sym (eqb-true (pl.slot s) (ow.slot s) yes)))) (d.ready.fits s h))
                  (λ no. subst (λ x. x < 2 ^ width_at ow s) (sym (kept_words s (eqb-false (pl.slot s) (ow.slot s) no))) (ready.fits s h))
            ];
            next_fits = λ s m. subst (λ x. x < 2 ^ width_at ow s) (sym (unread s m)) (ready.next_fits s m);
            holds = λ u m. down_kept d.after (ow.place u) (let e = place_high u in omega (arith, e)) ∙ d.ready.holds u m;
          };
          nexts = record {
            fits = λ s m. subst (λ x. x < 2 ^ width_at ow s) (sym (down_kept d.after (pl.next s) (let e = t.later s (below_all n s m) in omega (arith, e)))) (d.ready.next_fits s m);
            same = λ s m. down_kept d.after (pl.next s) (let e = t.later s (below_all n s (listed s m)) in omega (arith, e)) ∙ sym (down_at d.after s m);
          };
        })

  -- the registers are those of the next state, and it is ready for the next cycle under the same inputs
  pub next_state : (old w v : Valuation) (state inputs : List ℕ) → v ≡ wires (flat l.design) state inputs → Turns p l old w v
      → map (signals (own_plan p.layout) w) l.design.registers.items ≡ step (flat l.design) state inputs
  unfolding step
  next_state old w v state inputs e t =
      map_same (signals (own_plan p.layout) w) (all_applied (all_pending (flat l.design).clocked v) v) l.design.registers.items (λ s m. t.now s (register_own s m))
      ∙ ap (λ u. map (all_applied (all_pending (flat l.design).clocked u) u) l.design.registers.items) e

  pub next_based : (old w v : Valuation) (state inputs : List ℕ) → v ≡ wires (flat l.design) state inputs → IsBased (flat l.design) state inputs (signals (own_plan p.layout) old)
      → Turns p l old w v → IsBased (flat l.design) (step (flat l.design) state inputs) inputs (signals (own_plan p.layout) w)
  next_based old w v state inputs e based t s i free = by_cases ((plan_of p.layout).slot s == (own_plan p.layout).slot s)
      (λ yes.
      ap (λ x. bit_at x i) (t.now s (eqb-true ((plan_of p.layout).slot s) ((own_plan p.layout).slot s) yes))
      ∙ ap (λ u. look (all_applied (all_pending (flat l.design).clocked u) u) s i) e
      ∙ ∥∥₁_elim l.design.sound (hlevel props) (λ f.
      next_ready (flat l.design) state inputs f.registers_only (satisfied state inputs) s i free))
      (λ no.
      let other = eqb-false ((plan_of p.layout).slot s) ((own_plan p.layout).slot s) no in
      let a = alias_of s other in
      ap (λ x. bit_at x i) (t.kept s other) ∙ based s i free
      ∙ ap (λ x. bit_at x i) (base_free state inputs s a.free ∙ sym (base_free (step (flat l.design) state inputs) inputs s a.free)))

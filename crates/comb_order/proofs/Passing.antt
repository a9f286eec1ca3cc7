-- What makes the checks of parts pass.
use Rattle.std.proofs.Common.{◌≡◌, ℕ, zero, suc, ◌+◌, ◌<◌, ◌≤◌, ◌==◌, inl, inr, Bool, true, false, not, nat_lt, ◌&&◌, List, [], ◌∷◌, length, map, refl, sym, ◌∙◌, ap, arith, true≢false}
use Rattle.std.specs.Prelude.{bit_or}
use Rattle.std.specs.declared.vec.Vec.{Vec}
use Rattle.std.specs.Global.{Global}
use Rattle.std.proofs.lemmas.Bool.{eq-eqb, ltb-true, ltb-false, and_from, false_from_ne_true}
use Rattle.typed_ir.specs.declared.span.Span.{Span}
use Rattle.typed_ir.specs.Stmts.{SizedStmt, later_targets}
use Rattle.typed_ir.specs.FlatNodes.{node_of}
use Rattle.typed_ir.specs.Valuations.{Places}
use Rattle.typed_ir.specs.Nodes.{FlatNode, node_drives, drives_at, are_legal}
use Rattle.typed_ir.specs.Orders.{Member, Each, Distinct, any_drives, is_member, are_distinct}
use Rattle.typed_ir.specs.Cycles.{Flat, WritesRegisters}
use Rattle.typed_ir.specs.Flats.{IsFlat, signal_widths, are_clocked, are_below}
use Rattle.typed_ir.specs.Touches.{has_bit}
use Rattle.typed_ir.specs.Rows.{row_in}
use Rattle.typed_ir.proofs.Cases.{by_cases, left_or, right_or, only_right}
use Rattle.typed_ir.proofs.Masks.{has_either, no_bit}
use Rattle.typed_ir.proofs.Members.{is_of}
use Rattle.typed_ir.proofs.Rows.{row_past}
use Rattle.comb_order.specs.declared.drivers.Driver.{Driver}
use Rattle.comb_order.specs.declared.parts.Parts.{Parts}
use Rattle.comb_order.specs.Driving.{drives_in, common, Rises, AllRise, IsTableOf, IsTable}
use Rattle.comb_order.specs.Parts.{IsDesign, spans_in, none_in, are_apart, rows_apart, are_idle, are_undriven, blocks_in}
use Rattle.comb_order.proofs.Edging.{common_bit}
use Rattle.comb_order.proofs.Flatten.{member_of}
use Rattle.comb_order.proofs.Idle.{all_idle}
use Rattle.comb_order.proofs.Rising.{from_low}

-- ---- tests

all_pass : (a b c d : Bool) → a ≡ true → b ≡ true → c ≡ true → d ≡ true → (a && (b && (c && d))) ≡ true
all_pass a b c d h k l m = and_from a (b && (c && d)) h (and_from b (c && d) k (and_from c d l m))

-- ---- lists

distinct_passes : (xs : List ℕ) → Distinct xs → are_distinct xs ≡ true
distinct_passes [] d = refl
distinct_passes (x ∷ xs) d =
    and_from (not (is_member x xs)) (are_distinct xs) (ap not (false_from_ne_true (is_member x xs) (λ m. d.0 (member_of x xs m)))) (distinct_passes xs d.1)

foreign_passes : (all xs : List ℕ) → ((s : ℕ) → Member s xs → Member s all → ⊥) → none_in all xs ≡ true
foreign_passes all [] h = refl
foreign_passes all (x ∷ xs) h =
    and_from (not (is_member x all)) (none_in all xs)
    (ap not (false_from_ne_true (is_member x all) (λ m. h x (inl refl) (member_of x all m))))
    (foreign_passes all xs (λ s m n. h s (inr m) n))

written_passes : (registers : List ℕ) (sts : List SizedStmt) → WritesRegisters registers sts → blocks_in registers sts ≡ true
written_passes registers [] w = refl
written_passes registers (st ∷ sts) w =
    and_from (spans_in registers (later_targets st)) (blocks_in registers sts) (each (later_targets st) w.0) (written_passes registers sts w.1)
  where
    each : (ps : List Span) → Each (λ (p : Span). Member p.signal registers) ps → spans_in registers ps ≡ true
    each [] h = refl
    each (p ∷ ps) h = and_from (is_member p.signal registers) (spans_in registers ps) (is_of p.signal registers h.0) (each ps h.1)

-- ---- drivers

apart_passes : (taken low : ℕ) (ds : List Driver) (high : ℕ) → Rises low ds high
    → ((a i : ℕ) → i < 128 → has_bit taken i ≡ true → drives_in ds a i ≡ true → ⊥)
    → ((a b i : ℕ) → i < 128 → drives_in ds a i ≡ true → drives_in ds b i ≡ true → a ≡ b)
    → are_apart taken ds ≡ true
apart_passes taken low [] high r free one = refl
apart_passes taken low (x ∷ ds) high r free one =
    and_from (not (common taken x.mask)) (are_apart (bit_or taken x.mask) ds)
    (ap not (false_from_ne_true (common taken x.mask) (λ c.
    let f : (i : ℕ) × (i < 128) × (has_bit taken i ≡ true) × (has_bit x.mask i ≡ true) = common_bit taken x.mask c in
    free x.item f.0 f.1 f.2 (own f.0 f.3))))
    (apart_passes (bit_or taken x.mask) (x.item + 1) ds high r.1
    (λ a i small bit d. by_cases (has_bit taken i)
    (λ yes. free a i small yes (more a i d))
    (λ out. clash a i small (only_right (has_bit taken i) (has_bit x.mask i) out (sym (has_either taken x.mask i) ∙ bit)) d))
    (λ a b i small d e. one a b i small (more a i d) (more b i e)))
  where
    own : (i : ℕ) → has_bit x.mask i ≡ true → drives_in (x ∷ ds) x.item i ≡ true
    own i bit = left_or ((x.item == x.item) && has_bit x.mask i) (drives_in ds x.item i)
        (and_from (x.item == x.item) (has_bit x.mask i) (eq-eqb x.item x.item refl) bit)

    more : (a i : ℕ) → drives_in ds a i ≡ true → drives_in (x ∷ ds) a i ≡ true
    more a i d = right_or ((a == x.item) && has_bit x.mask i) (drives_in ds a i) d

    -- another driver of its bit would be of the same node
    clash : (a i : ℕ) → i < 128 → has_bit x.mask i ≡ true → drives_in ds a i ≡ true → ⊥
    clash a i small bit d =
        let same : a ≡ x.item = one a x.item i small (more a i d) (own i bit) in
        let later : x.item + 1 ≤ a = from_low (x.item + 1) ds high a i r.1 d in
        omega (arith, same, later)

each_apart : (table : List (Vec Driver Global)) → ((s : ℕ) → s < length table → are_apart 0 (row_in table s) ≡ true) → rows_apart table ≡ true
each_apart [] h = refl
each_apart (r ∷ rs) h =
    and_from (are_apart 0 r.items) (rows_apart rs) (h zero (omega arith)) (each_apart rs (λ s small. h (suc s) (omega (arith, small))))

pub rows_pass : (drives_at : ℕ → Places) (table : List (Vec Driver Global)) (high : ℕ) → IsTableOf drives_at table → AllRise table high
    → ((a b s i : ℕ) → drives_at a s i ≡ true → drives_at b s i ≡ true → a ≡ b) → rows_apart table ≡ true
rows_pass drives_at table high is rise one = each_apart table (λ s there.
    apart_passes 0 0 (row_in table s) high (rise s)
    (λ a i small bit d. true≢false (sym bit ∙ no_bit i))
    (λ a b i small d e. one a b s i (sym (is.drives a s i there small) ∙ d) (sym (is.drives b s i there small) ∙ e)))

-- a node by number is one of the nodes
any_at : (nodes : List FlatNode) (a s i : ℕ) → drives_at nodes a s i ≡ true → any_drives node_drives nodes s i ≡ true
any_at [] a s i d = d
any_at (n ∷ ns) zero s i d = left_or (node_drives n s i) (any_drives node_drives ns s i) d
any_at (n ∷ ns) (suc a) s i d = right_or (node_drives n s i) (any_drives node_drives ns s i) (any_at ns a s i d)

listed : (nodes : List FlatNode) (table : List (Vec Driver Global)) (a s i : ℕ) → IsTable nodes table → i < 128
    → drives_in (row_in table s) a i ≡ true → drives_at nodes a s i ≡ true
listed nodes table a s i is small d = by_cases (nat_lt s (length table))
    (λ yes. sym (is.drives a s i (ltb-true s (length table) yes) small) ∙ d)
    (λ out. absurd (true≢false (sym d ∙ ap (λ r. drives_in r a i) (row_past table s (ltb-false s (length table) out)))))

undriven_passes : (nodes : List FlatNode) (table : List (Vec Driver Global)) (ss : List ℕ) → IsTable nodes table
    → ((s i : ℕ) → Member s ss → any_drives node_drives nodes s i ≡ false) → are_undriven table ss ≡ true
undriven_passes nodes table [] is h = refl
undriven_passes nodes table (s ∷ ss) is h =
    and_from (are_idle (row_in table s)) (are_undriven table ss)
    (all_idle (row_in table s) (λ a i small. false_from_ne_true (drives_in (row_in table s) a i)
    (λ d. true≢false (sym (any_at nodes a s i (listed nodes table a s i is small d)) ∙ h s i (inl refl)))))
    (undriven_passes nodes table ss is (λ t i m. h t i (inr m)))

-- ---- the design

pub sized_passes : (parts : Parts) → IsDesign parts
    → (are_legal (map node_of parts.nodes.items) (signal_widths parts.signals.items)
    && (are_clocked parts.clocked.items (signal_widths parts.signals.items)
    && (are_below parts.registers.items (length parts.signals.items) && are_below parts.inputs.items (length parts.signals.items)))) ≡ true
sized_passes parts d = all_pass (are_legal (map node_of parts.nodes.items) (signal_widths parts.signals.items))
    (are_clocked parts.clocked.items (signal_widths parts.signals.items))
    (are_below parts.registers.items (length parts.signals.items))
    (are_below parts.inputs.items (length parts.signals.items))
    d.legal d.blocks d.registers_there d.inputs_there

pub held_passes : (design : Flat) → IsFlat design
    → (are_distinct design.registers && (are_distinct design.inputs
    && (none_in design.inputs design.registers && blocks_in design.registers design.clocked))) ≡ true
held_passes design f = all_pass (are_distinct design.registers) (are_distinct design.inputs)
    (none_in design.inputs design.registers) (blocks_in design.registers design.clocked)
    (distinct_passes design.registers f.registers_once) (distinct_passes design.inputs f.inputs_once)
    (foreign_passes design.inputs design.registers f.apart) (written_passes design.registers design.clocked f.registers_only)

pub driven_passes : (design : Flat) (table : List (Vec Driver Global)) (high : ℕ) → IsTable design.nodes table → AllRise table high → IsFlat design
    → (rows_apart table && (are_undriven table design.registers && are_undriven table design.inputs)) ≡ true
driven_passes design table high is rise f =
    and_from (rows_apart table) (are_undriven table design.registers && are_undriven table design.inputs)
    (rows_pass (drives_at design.nodes) table high is rise f.sound.one_driver)
    (and_from (are_undriven table design.registers) (are_undriven table design.inputs)
    (undriven_passes design.nodes table design.registers is (λ s i m. f.held s i (inl m)))
    (undriven_passes design.nodes table design.inputs is (λ s i m. f.held s i (inr m))))

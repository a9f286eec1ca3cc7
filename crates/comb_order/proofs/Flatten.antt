-- What the checks of parts say.
use Rattle.std.proofs.Common.{◌≡◌, ℕ, zero, suc, ◌<◌, inl, inr, Bool, true, false, not, ◌&&◌, ◌==◌, List, [], ◌∷◌, length, refl, sym, ◌∙◌, ap, true≢false}
use Rattle.std.specs.Prelude.{bit_or}
use Rattle.std.specs.declared.vec.Vec.{Vec}
use Rattle.std.specs.Global.{Global}
use Rattle.std.proofs.lemmas.Bool.{eqb-true, not-true}
use Rattle.typed_ir.specs.declared.span.Span.{Span}
use Rattle.typed_ir.specs.Stmts.{SizedStmt, later_targets}
use Rattle.typed_ir.specs.Valuations.{Places}
use Rattle.typed_ir.specs.Nodes.{FlatNode, Drive, Block, node_drives, drives_at, IsComplete}
use Rattle.typed_ir.specs.Orders.{Member, Each, Distinct, any_drives, is_member, are_distinct}
use Rattle.typed_ir.specs.Cycles.{Flat, WritesRegisters, OneWriter}
use Rattle.typed_ir.specs.Flats.{NodeWritesFirst, IsFlat}
use Rattle.typed_ir.specs.Touches.{has_bit, is_block}
use Rattle.typed_ir.specs.Rows.{row_in}
use Rattle.typed_ir.proofs.Cases.{by_cases, and_left, and_right, or_left, or_right, only_right}
use Rattle.typed_ir.proofs.Numbered.{driver_index}
use Rattle.typed_ir.proofs.Masks.{has_either}
use Rattle.typed_ir.proofs.Members.{is_of}
use Rattle.comb_order.specs.declared.drivers.Driver.{Driver}
use Rattle.comb_order.specs.Driving.{drives_in, common, IsTableOf, IsTable}
use Rattle.comb_order.specs.Parts.{spans_in, none_in, are_apart, rows_apart, are_idle, are_undriven, blocks_in, has_block}
use Rattle.comb_order.proofs.Edging.{common_of}
use Rattle.comb_order.proofs.Idle.{idle_drives}

-- ---- lists

pub member_of : (x : ℕ) (xs : List ℕ) → is_member x xs ≡ true → Member x xs
member_of x [] h = true≢false (sym h)
member_of x (y ∷ ys) h = by_cases (x == y) (λ same. inl (eqb-true x y same)) (λ out. inr (member_of x ys (only_right (x == y) (is_member x ys) out h)))

not_member : (x : ℕ) (xs : List ℕ) → not (is_member x xs) ≡ true → Member x xs → ⊥
not_member x xs h m = true≢false (sym h ∙ ap not (is_of x xs m))

pub distinct_of : (xs : List ℕ) → are_distinct xs ≡ true → Distinct xs
distinct_of [] h = tt
distinct_of (x ∷ xs) h =
    (not_member x xs (and_left (not (is_member x xs)) (are_distinct xs) h), distinct_of xs (and_right (not (is_member x xs)) (are_distinct xs) h))

pub foreign_of : (all xs : List ℕ) → none_in all xs ≡ true → (s : ℕ) → Member s xs → Member s all → ⊥
foreign_of all [] h s m n = m
foreign_of all (x ∷ xs) h s (inl e) n = true≢false (sym (and_left (not (is_member x all)) (none_in all xs) h)
    ∙ ap not (ap (λ k. is_member k all) (sym e) ∙ is_of s all n))
foreign_of all (x ∷ xs) h s (inr m) n = foreign_of all xs (and_right (not (is_member x all)) (none_in all xs) h) s m n

pub written_of : (registers : List ℕ) (sts : List SizedStmt) → blocks_in registers sts ≡ true → WritesRegisters registers sts
written_of registers [] h = tt
written_of registers (st ∷ sts) h = (
  each (later_targets st) (and_left (spans_in registers (later_targets st)) (blocks_in registers sts) h),
  written_of registers sts (and_right (spans_in registers (later_targets st)) (blocks_in registers sts) h),
)
  where
    each : (ps : List Span) → spans_in registers ps ≡ true → Each (λ (p : Span). Member p.signal registers) ps
    each [] k = tt
    each (p ∷ ps) k = (
      member_of p.signal registers (and_left (is_member p.signal registers) (spans_in registers ps) k),
      each ps (and_right (is_member p.signal registers) (spans_in registers ps) k),
    )

drive_complete : (n : FlatNode) → is_block n ≡ false → IsComplete n
unfolding IsComplete
drive_complete (Drive form lanes e) h = tt
drive_complete (Block shown body) h = absurd (true≢false h)

pub complete_of : (nodes : List FlatNode) → has_block nodes ≡ false → Each IsComplete nodes
complete_of [] h = tt
complete_of (n ∷ ns) h = (drive_complete n (or_left (is_block n) (has_block ns) h), complete_of ns (or_right (is_block n) (has_block ns) h))

pub first_of : (nodes : List FlatNode) → has_block nodes ≡ false → Each NodeWritesFirst nodes
first_of [] h = tt
first_of (n ∷ ns) h = (one n (or_left (is_block n) (has_block ns) h), first_of ns (or_right (is_block n) (has_block ns) h))
  where
    one : (n : FlatNode) → is_block n ≡ false → NodeWritesFirst n
    one (Drive form lanes e) h = tt
    one (Block shown body) h = absurd (true≢false h)

-- ---- drivers

-- a bit that is driven wasn't taken
taken_free : (taken : ℕ) (ds : List Driver) (a i : ℕ) → i < 128 → are_apart taken ds ≡ true → drives_in ds a i ≡ true → has_bit taken i ≡ false
taken_free taken [] a i low h d = absurd (true≢false (sym d))
taken_free taken (x ∷ ds) a i low h d =
    let apart : common taken x.mask ≡ false = not-true (common taken x.mask) (and_left (not (common taken x.mask)) (are_apart (bit_or taken x.mask) ds) h) in
    by_cases ((a == x.item) && has_bit x.mask i)
    (λ here. by_cases (has_bit taken i)
    (λ bit. absurd (true≢false (sym (common_of taken x.mask i low bit (and_right (a == x.item) (has_bit x.mask i) here)) ∙ apart)))
    (λ out. out))
    (λ there. or_left (has_bit taken i) (has_bit x.mask i) (sym (has_either taken x.mask i)
    ∙ taken_free (bit_or taken x.mask) ds a i low (and_right (not (common taken x.mask)) (are_apart (bit_or taken x.mask) ds) h)
    (only_right ((a == x.item) && has_bit x.mask i) (drives_in ds a i) there d)))

one_of : (taken : ℕ) (ds : List Driver) (a b i : ℕ) → i < 128 → are_apart taken ds ≡ true → drives_in ds a i ≡ true → drives_in ds b i ≡ true → a ≡ b
one_of taken [] a b i low h d e = absurd (true≢false (sym d))
one_of taken (x ∷ ds) a b i low h d e =
    let rest : are_apart (bit_or taken x.mask) ds ≡ true = and_right (not (common taken x.mask)) (are_apart (bit_or taken x.mask) ds) h in
    by_cases ((a == x.item) && has_bit x.mask i)
    (λ left. by_cases ((b == x.item) && has_bit x.mask i)
    (λ right. eqb-true a x.item (and_left (a == x.item) (has_bit x.mask i) left) ∙ sym (eqb-true b x.item (and_left (b == x.item) (has_bit x.mask i) right)))
    (λ out. absurd (clash i (and_right (a == x.item) (has_bit x.mask i) left)
    (taken_free (bit_or taken x.mask) ds b i low rest (only_right ((b == x.item) && has_bit x.mask i) (drives_in ds b i) out e)))))
    (λ out. by_cases ((b == x.item) && has_bit x.mask i)
    (λ right. absurd (clash i (and_right (b == x.item) (has_bit x.mask i) right)
    (taken_free (bit_or taken x.mask) ds a i low rest (only_right ((a == x.item) && has_bit x.mask i) (drives_in ds a i) out d))))
    (λ past. one_of (bit_or taken x.mask) ds a b i low rest (only_right ((a == x.item) && has_bit x.mask i) (drives_in ds a i) out d)
    (only_right ((b == x.item) && has_bit x.mask i) (drives_in ds b i) past e)))
  where
    clash : (i : ℕ) → has_bit x.mask i ≡ true → has_bit (bit_or taken x.mask) i ≡ false → ⊥
    clash i bit none = true≢false (sym bit ∙ or_right (has_bit taken i) (has_bit x.mask i) (sym (has_either taken x.mask i) ∙ none))

row_apart : (table : List (Vec Driver Global)) (s : ℕ) → rows_apart table ≡ true → are_apart 0 (row_in table s) ≡ true
row_apart [] s h = refl
row_apart (r ∷ rs) zero h = and_left (are_apart 0 r.items) (rows_apart rs) h
row_apart (r ∷ rs) (suc s) h = row_apart rs s (and_right (are_apart 0 r.items) (rows_apart rs) h)

-- so each bit is driven by one
pub one_each : (drives_at : ℕ → Places) (table : List (Vec Driver Global)) → IsTableOf drives_at table → rows_apart table ≡ true
    → (a b s i : ℕ) → drives_at a s i ≡ true → drives_at b s i ≡ true → a ≡ b
one_each drives_at table is h a b s i d e =
    let place : (s < length table) × (i < 128) = is.inside a s i d in
    one_of 0 (row_in table s) a b i place.1 (row_apart table s h) (is.drives a s i place.0 place.1 ∙ d) (is.drives b s i place.0 place.1 ∙ e)

idle_row : (table : List (Vec Driver Global)) (ss : List ℕ) (s : ℕ) → are_undriven table ss ≡ true → Member s ss → are_idle (row_in table s) ≡ true
idle_row table [] s h m = absurd m
idle_row table (x ∷ ss) s h (inl e) = ap (λ k. are_idle (row_in table k)) e ∙ and_left (are_idle (row_in table x)) (are_undriven table ss) h
idle_row table (x ∷ ss) s h (inr m) = idle_row table ss s (and_right (are_idle (row_in table x)) (are_undriven table ss) h) m

pub undriven_of : (nodes : List FlatNode) (table : List (Vec Driver Global)) (ss : List ℕ) → IsTable nodes table → are_undriven table ss ≡ true
    → (s i : ℕ) → Member s ss → any_drives node_drives nodes s i ≡ false
undriven_of nodes table ss is h s i m = by_cases (any_drives node_drives nodes s i)
    (λ some. let k : (k : ℕ) × (k < length nodes) × (drives_at nodes k s i ≡ true) = driver_index nodes s i some in
    let place : (s < length table) × (i < 128) = is.inside k.0 s i k.2 in
    absurd (true≢false (sym (is.drives k.0 s i place.0 place.1 ∙ k.2) ∙ idle_drives (row_in table s) k.0 i place.1 (idle_row table ss s h m))))
    (λ out. out)

-- ---- the design

-- tests one after another
pub record All4 (a b c d : Bool) : Type 0 where
  pub one : a ≡ true
  pub two : b ≡ true
  pub three : c ≡ true
  pub four : d ≡ true

pub all_four : (a b c d : Bool) → (a && (b && (c && d))) ≡ true → All4 a b c d
all_four a b c d h =
    let bcd : (b && (c && d)) ≡ true = and_right a (b && (c && d)) h in
    let cd : (c && d) ≡ true = and_right b (c && d) bcd in
    record {
      one = and_left a (b && (c && d)) h;
      two = and_left b (c && d) bcd;
      three = and_left c d cd;
      four = and_right c d cd;
    }

pub flat_sound : (design : Flat) (table : List (Vec Driver Global)) → IsTable design.nodes table
    → Each IsComplete design.nodes → Each NodeWritesFirst design.nodes
    → All4 (are_distinct design.registers) (are_distinct design.inputs) (none_in design.inputs design.registers) (blocks_in design.registers design.clocked)
    → (rows_apart table && (are_undriven table design.registers && are_undriven table design.inputs)) ≡ true
    → OneWriter design.clocked → IsFlat design
flat_sound design table is complete first held driven once =
    let free : (are_undriven table design.registers && are_undriven table design.inputs) ≡ true =
    and_right (rows_apart table) (are_undriven table design.registers && are_undriven table design.inputs) driven in
    record {
      sound = record {
        one_driver = one_each (drives_at design.nodes) table is (and_left (rows_apart table) (are_undriven table design.registers && are_undriven table design.inputs) driven);
        complete = complete;
      };
      first = first;
      one_writer = once;
      registers_only = written_of design.registers design.clocked held.four;
      registers_once = distinct_of design.registers held.one;
      inputs_once = distinct_of design.inputs held.two;
      apart = λ s r i. foreign_of design.inputs design.registers held.three s r i;
      held = λ s i m. elim m as (λ _. any_drives node_drives design.nodes s i ≡ false) [
        | inl r ↦ undriven_of design.nodes table design.registers is (and_left (are_undriven table design.registers) (are_undriven table design.inputs) free) s i r
        | inr d ↦ undriven_of design.nodes table design.inputs is (and_right (are_undriven table design.registers) (are_undriven table design.inputs) free) s i d
      ];
    }

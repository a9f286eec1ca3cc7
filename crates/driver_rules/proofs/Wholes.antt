-- A module without a fault of its drivers is driven well.
use Rattle.std.proofs.Common.{◌≡◌, ◌<◌, ◌≤◌, ◌+◌, ◌==◌, ◌&&◌, ◌||◌, ◌⊎◌, inl, inr, ℕ, zero, suc, Bool, true, false, cond, not, nat_le, nat_lt, List, [], ◌∷◌, ◌++◌, map, length, Option, Some, None, All, refl, sym, ◌∙◌, ap, ap₂, subst, arith, true≢false}
use Rattle.std.proofs.Math.Bool.{and-false, or-false}
use Rattle.std.proofs.lemmas.Bool.{eqb-true, le-ltb, lt-ltb, not-true}
use Rattle.ls_text.specs.declared.place.Place.{Place}
use Rattle.ls_text.specs.declared.fault.Fault.{Fault}
use Rattle.typed_ir.specs.declared.span.Span.{Span}
use Rattle.typed_ir.specs.Valuations.{Places, within, any_within, nowhere}
use Rattle.typed_ir.specs.Stmts.{SizedStmt, targets, later_targets, IsWhole, WritesFirst}
use Rattle.typed_ir.specs.Nodes.{FlatNode, Drive, Block, node_drives, IsComplete, lane_spans}
use Rattle.typed_ir.specs.Orders.{Each, Member, at_or}
use Rattle.typed_ir.specs.Cycles.{Signal, WritesRegisters, block_writes}
use Rattle.typed_ir.specs.Flats.{NodeWritesFirst}
use Rattle.typed_ir.proofs.Cases.{by_cases, and_left, and_right, or_left, or_right, left_or, right_or, only_right, by_order}
use Rattle.typed_ir.proofs.Lists.{each_append, each_weaker}
use Rattle.typed_ir.specs.declared.mention.Mention.{Mention}
use Rattle.typed_ir.specs.declared.signal_declaration.SignalDeclaration.{SignalDeclaration}
use Rattle.typed_ir.specs.declared.signal_kind.SignalKind.{SignalKind}
use Rattle.typed_ir.specs.declared.signal_kind.SignalKind.TheVariants.{Input, Net, Variable}
use Rattle.typed_ir.specs.Trees.{UnitNode, Own, Into, From, count, own_drives, IsNodeSound}
use Rattle.typed_ir.specs.Items.{SizedBody, Node, Clocked, Initial, PlacedItem, PlacedItems, node_in, block_in, nodes_in, blocks_in, unit_of}
use Rattle.typed_ir.proofs.Counted.{count_append}
use Rattle.width_rules.specs.declared.writer.Writer.{Writer}
use Rattle.width_rules.specs.declared.writer.Writer.TheVariants as writer
use Rattle.block_rules.specs.Paths.{flags_of_block, unwritten, places_of_true, BlocksAreWhole}
use Rattle.width_rules.proofs.Reading.{left_none, right_none}
use Rattle.driver_rules.specs.Mentioned.{earliest, shown_faults}
use Rattle.driver_rules.specs.Writes.{node_spans, spans_of, writes, written, node_blocks, blocks_of, AreWithin, AreItemsWithin}
use Rattle.driver_rules.specs.Targets.{is_net_kind, is_variable_kind, is_net, is_variable, names, block_names, is_settled, node_writer, writer_of, may_write, all_target_faults}
use Rattle.driver_rules.specs.Doubles.{item_doubles, double_faults}
use Rattle.driver_rules.specs.Blocks.{first_declared, latched, read_faults, latch_faults, path_faults, block_faults}
use Rattle.driver_rules.specs.DriverFaults.{driver_faults}
use Rattle.driver_rules.specs.Driven.{AreNarrowItems, is_input_kind, is_input, HasRoles, IsDriven}
use Rattle.driver_rules.proofs.Sooner.{none_shown}
use Rattle.driver_rules.proofs.Taken.{own_is, item_apart, flag_number, sum_flags, at_most_one}
use Rattle.driver_rules.proofs.Declared.{IsBest, declared_best, each_all, unwritten_here}
use Rattle.driver_rules.proofs.Empty.{each_both, each_signal, MayWrite, items_may, all_within}

-- ---- no bit twice

items_once : (taken : Places) (xs : List PlacedItem) (s i : ℕ) → double_faults taken xs ≡ [] → i < 128
    → count (λ (x : PlacedItem). writes x s i) xs + cond (taken s i) 1 0 ≤ 1
items_once taken [] s i none small = let one : cond (taken s i) 1 0 ≤ 1 = at_most_one (taken s i) in omega (arith, one)
items_once taken (x ∷ xs) s i none small =
    let after : Places = λ t j. taken t j || writes x t j in
    let rest : count (λ (y : PlacedItem). writes y s i) xs + cond (after s i) 1 0 ≤ 1 =
    items_once after xs s i (right_none (item_doubles taken x) (double_faults after xs) none) small in
    let both : flag_number (taken s i) + flag_number (writes x s i) ≡ flag_number (after s i) =
    sum_flags (taken s i) (writes x s i) (λ held. by_cases (writes x s i)
    (λ w. absurd (true≢false (sym held ∙ item_apart taken x s i (left_none (item_doubles taken x) (double_faults after xs) none) small w)))
    (λ out. out)) in
    omega (arith, rest, both)

node_le : (body : SizedBody) (s i : ℕ) → count (own_drives s i) (node_in body) ≤ cond (any_within (spans_of body) s i) 1 0
node_le (Node node) s i = let e : flag_number (own_drives s i node) ≡ flag_number (any_within (node_spans node) s i) = ap flag_number (own_is node s i) in omega (arith, e)
node_le (Clocked st) s i = omega arith
node_le (Initial signal) s i = omega arith

nodes_le : (xs : List PlacedItem) (s i : ℕ) → count (own_drives s i) (nodes_in xs) ≤ count (λ (x : PlacedItem). writes x s i) xs
nodes_le [] s i = omega arith
nodes_le (x ∷ xs) s i =
    let whole : count (own_drives s i) (node_in x.body ++ nodes_in xs) ≡ count (own_drives s i) (node_in x.body) + count (own_drives s i) (nodes_in xs) =
    count_append (own_drives s i) (node_in x.body) (nodes_in xs) in
    omega (arith, whole, node_le x.body s i, nodes_le xs s i)

block_le : (body : SizedBody) (s i : ℕ) → count (λ st. block_writes st s i) (block_in body) ≤ cond (any_within (spans_of body) s i) 1 0
block_le (Node node) s i = omega arith
block_le (Clocked st) s i = omega arith
block_le (Initial signal) s i = omega arith

blocks_le : (xs : List PlacedItem) (s i : ℕ) → count (λ st. block_writes st s i) (blocks_in xs) ≤ count (λ (x : PlacedItem). writes x s i) xs
blocks_le [] s i = omega arith
blocks_le (x ∷ xs) s i =
    let f : SizedStmt → Bool = λ st. block_writes st s i in
    let whole : count f (block_in x.body ++ blocks_in xs) ≡ count f (block_in x.body) + count f (blocks_in xs) =
    count_append f (block_in x.body) (blocks_in xs) in
    omega (arith, whole, block_le x.body s i, blocks_le xs s i)

narrow_spans : (spans : List Span) (s i : ℕ) → Each (λ (q : Span). q.low + q.width ≤ 128) spans → 128 ≤ i → any_within spans s i ≡ false
narrow_spans [] s i all far = refl
narrow_spans (q ∷ qs) s i all far =
    let top : q.low + q.width ≤ 128 = all.0 in
    ap₂ (λ a b. ((s == q.signal) && (nat_le q.low i && a)) || b) (le-ltb i (q.low + q.width) (omega (arith, top, far))) (narrow_spans qs s i all.1 far)
    ∙ ap (λ a. ((s == q.signal) && a) || false) (and-false (nat_le q.low i)) ∙ ap (λ a. a || false) (and-false (s == q.signal))

narrow_items : (xs : List PlacedItem) (s i : ℕ) → Each (λ (x : PlacedItem). Each (λ (q : Span). q.low + q.width ≤ 128) (spans_of x.body)) xs → 128 ≤ i
    → count (λ (x : PlacedItem). writes x s i) xs ≡ 0
narrow_items [] s i all far = refl
narrow_items (x ∷ xs) s i all far =
    let one : flag_number (writes x s i) ≡ flag_number false = ap flag_number (narrow_spans (spans_of x.body) s i all.0 far) in
    omega (arith, one, narrow_items xs s i all.1 far)

at_most : (p : PlacedItems) (s i : ℕ) → double_faults nowhere p.items ≡ [] → AreNarrowItems p → count (λ (x : PlacedItem). writes x s i) p.items ≤ 1
at_most p s i none narrow = by_order i 128
    (λ small. let one : count (λ (x : PlacedItem). writes x s i) p.items + cond (nowhere s i) 1 0 ≤ 1 = items_once nowhere p.items s i none small in omega (arith, one))
    (λ far. let zero_of : count (λ (x : PlacedItem). writes x s i) p.items ≡ 0 = narrow_items p.items s i narrow far in omega (arith, zero_of))

-- ---- inputs and registers

span_member : (spans : List Span) (s i : ℕ) → any_within spans s i ≡ true → Member s (map (λ (p : Span). p.signal) spans)
span_member [] s i h = absurd (true≢false (sym h))
span_member (p ∷ ps) s i h = by_cases (within p s i)
    (λ here. inl (eqb-true s p.signal (and_left (s == p.signal) (nat_le p.low i && nat_lt i (p.low + p.width)) here)))
    (λ out. inr (span_member ps s i (only_right (within p s i) (any_within ps s i) out h)))

each_member : (P : ℕ → Type 0) (xs : List ℕ) (s : ℕ) → Each P xs → Member s xs → P s
each_member P [] s all m = absurd m
each_member P (x ∷ xs) s all (inl e) = subst P (sym e) all.0
each_member P (x ∷ xs) s all (inr m) = each_member P xs s all.1 m

kinds_apart : (g h : SignalDeclaration → Bool) → ((d : SignalDeclaration) → g d ≡ true → h d ≡ true → ⊥)
    → (ds : List SignalDeclaration) (s : ℕ) → at_or g false ds s ≡ true → at_or h false ds s ≡ true → ⊥
kinds_apart g h apart [] s a b = absurd (true≢false (sym a))
kinds_apart g h apart (d ∷ ds) zero a b = apart d a b
kinds_apart g h apart (d ∷ ds) (suc s) a b = kinds_apart g h apart ds s a b

net_input : (k : SignalKind) → is_net_kind k ≡ true → is_input_kind k ≡ true → ⊥
net_input Input a b = absurd (true≢false (sym a))
net_input Net a b = absurd (true≢false (sym b))
net_input Variable a b = absurd (true≢false (sym a))

variable_input : (k : SignalKind) → is_variable_kind k ≡ true → is_input_kind k ≡ true → ⊥
variable_input Input a b = absurd (true≢false (sym a))
variable_input Net a b = absurd (true≢false (sym a))
variable_input Variable a b = absurd (true≢false (sym b))

net_variable : (k : SignalKind) → is_net_kind k ≡ true → is_variable_kind k ≡ true → ⊥
net_variable Input a b = absurd (true≢false (sym a))
net_variable Net a b = absurd (true≢false (sym b))
net_variable Variable a b = absurd (true≢false (sym a))

no_input : (ds : List SignalDeclaration) (f : ℕ → Bool) (w : Writer) (s : ℕ) → may_write ds f w s ≡ true → is_input ds s ≡ true → ⊥
no_input ds f writer.Nothing s may is = absurd (true≢false (sym may))
no_input ds f writer.Continuous s may is =
    kinds_apart (λ (d : SignalDeclaration). is_net_kind d.kind) (λ (d : SignalDeclaration). is_input_kind d.kind) (λ d. net_input d.kind) ds s may is
no_input ds f writer.Clocked s may is =
    kinds_apart (λ (d : SignalDeclaration). is_variable_kind d.kind) (λ (d : SignalDeclaration). is_input_kind d.kind) (λ d. variable_input d.kind) ds s
    (and_left (is_variable ds s) (not (f s)) may) is
no_input ds f writer.Combinational s may is =
    kinds_apart (λ (d : SignalDeclaration). is_variable_kind d.kind) (λ (d : SignalDeclaration). is_input_kind d.kind) (λ d. variable_input d.kind) ds s may is

each_node : (P : UnitNode → Type 0) (xs : List PlacedItem) → Each (λ (x : PlacedItem). Each P (node_in x.body)) xs → Each P (nodes_in xs)
each_node P [] h = tt
each_node P (x ∷ xs) h = each_append P (node_in x.body) (nodes_in xs) h.0 (each_node P xs h.1)

none_driven : (s i : ℕ) (nodes : List UnitNode) → Each (λ node. own_drives s i node ≡ false) nodes → count (own_drives s i) nodes ≡ 0
none_driven s i [] h = refl
none_driven s i (x ∷ xs) h =
    let one : flag_number (own_drives s i x) ≡ flag_number false = ap flag_number h.0 in
    omega (arith, one, none_driven s i xs h.1)

input_body : (ds : List SignalDeclaration) (f : ℕ → Bool) (s i : ℕ) (body : SizedBody)
    → Each (λ (t : ℕ). may_write ds f (writer_of body) t ≡ true) (written body) → is_input ds s ≡ true
    → Each (λ node. own_drives s i node ≡ false) (node_in body)
input_body ds f s i (Node node) may is = (
  by_cases (own_drives s i node)
      (λ yes. absurd (no_input ds f (node_writer node) s
      (each_member (λ (t : ℕ). may_write ds f (node_writer node) t ≡ true) (written (Node node)) s may
      (span_member (node_spans node) s i (sym (own_is node s i) ∙ yes))) is))
      (λ out. out),
  tt,
)
input_body ds f s i (Clocked st) may is = tt
input_body ds f s i (Initial signal) may is = tt

within_named : (spans : List Span) (s i : ℕ) → any_within spans s i ≡ true → names s spans ≡ true
within_named [] s i h = absurd (true≢false (sym h))
within_named (p ∷ ps) s i h = by_cases (within p s i)
    (λ here. left_or (s == p.signal) (names s ps) (and_left (s == p.signal) (nat_le p.low i && nat_lt i (p.low + p.width)) here))
    (λ out. right_or (s == p.signal) (names s ps) (within_named ps s i (only_right (within p s i) (any_within ps s i) out h)))

lanes_apart : (ds : List SignalDeclaration) (f : ℕ → Bool) (spans : List Span) (s i : ℕ)
    → Each (λ (t : ℕ). may_write ds f writer.Continuous t ≡ true) (map (λ (p : Span). p.signal) spans) → is_variable ds s ≡ true → any_within spans s i ≡ false
lanes_apart ds f spans s i may is = by_cases (any_within spans s i)
    (λ yes. absurd (kinds_apart (λ (d : SignalDeclaration). is_net_kind d.kind) (λ (d : SignalDeclaration). is_variable_kind d.kind) (λ d. net_variable d.kind) ds s
    (each_member (λ (t : ℕ). may_write ds f writer.Continuous t ≡ true) (map (λ (p : Span). p.signal) spans) s may (span_member spans s i yes)) is))
    (λ out. out)

register_node : (ds : List SignalDeclaration) (f : ℕ → Bool) (s i : ℕ) (node : UnitNode)
    → Each (λ (t : ℕ). may_write ds f (node_writer node) t ≡ true) (map (λ (p : Span). p.signal) (node_spans node))
    → block_names s (node_blocks node) ≡ false → is_variable ds s ≡ true → own_drives s i node ≡ false
unfolding node_drives
register_node ds f s i (Own (Drive form lanes e)) may none is = lanes_apart ds f (lane_spans lanes) s i may is
register_node ds f s i (Own (Block shown body)) may none is = by_cases (any_within (targets body) s i)
    (λ yes. absurd (true≢false (sym (within_named (targets body) s i yes) ∙ or_left (names s (targets body)) false none)))
    (λ out. out)
register_node ds f s i (Into child form lanes e) may none is = refl
register_node ds f s i (From child form lanes e) may none is = lanes_apart ds f (lane_spans lanes) s i may is

register_body : (ds : List SignalDeclaration) (f : ℕ → Bool) (s i : ℕ) (body : SizedBody)
    → Each (λ (t : ℕ). may_write ds f (writer_of body) t ≡ true) (written body) → block_names s (blocks_of body) ≡ false → is_variable ds s ≡ true
    → Each (λ node. own_drives s i node ≡ false) (node_in body)
register_body ds f s i (Node node) may none is = (register_node ds f s i node may none is, tt)
register_body ds f s i (Clocked st) may none is = tt
register_body ds f s i (Initial signal) may none is = tt

unsettled : (xs : List PlacedItem) (s : ℕ) → is_settled xs s ≡ false → Each (λ (x : PlacedItem). block_names s (blocks_of x.body) ≡ false) xs
unsettled [] s h = tt
unsettled (x ∷ xs) s h =
    (or_left (block_names s (blocks_of x.body)) (is_settled xs s) h, unsettled xs s (or_right (block_names s (blocks_of x.body)) (is_settled xs s) h))

-- ---- blocks

none_latched : (signals : List Signal) (at : Place) (found : Option ℕ) → latched signals at found ≡ [] → found ≡ None
none_latched signals at None h = refl
none_latched signals at (Some s) h = absurd (let long : length (latched signals at (Some s)) ≡ 0 = ap length h in omega (arith, long))

block_whole : BlocksAreWhole → (signals : List Signal) (ds : List SignalDeclaration) (reads : List Mention) (at : Place) (st : SizedStmt)
    → Each (λ (p : Span). p.signal < length ds) (targets st) → Each (λ (p : Span). p.low + p.width ≤ 128) (targets st)
    → read_faults reads at st ++ latch_faults signals ds at st ≡ [] → IsWhole st × WritesFirst st
block_whole law signals ds reads at st here narrow none =
    law st (each_all (λ (p : Span). p.low + p.width ≤ 128) (targets st) narrow)
    (none_shown 36 (places_of_true (flags_of_block st)) reads at (left_none (read_faults reads at st) (latch_faults signals ds at st) none))
    closed
  where
    best : (t : ℕ) → (nat_lt t (length ds) && unwritten st t) ≡ false
    best = subst (IsBest ds (λ t. nat_lt t (length ds) && unwritten st t))
        (none_latched signals at (first_declared ds (unwritten st) (length ds)) (right_none (read_faults reads at st) (latch_faults signals ds at st) none))
        (declared_best ds (unwritten st) (length ds))

    closed : (t : ℕ) → unwritten st t ≡ false
    closed t = by_cases (unwritten st t)
        (λ yes. sym (ap (λ b. b && unwritten st t) (lt-ltb t (length ds)
        (unwritten_here (length ds) st t (each_all (λ (p : Span). p.signal < length ds) (targets st) here) yes))) ∙ best t)
        (λ out. out)

node_sound : BlocksAreWhole → (signals : List Signal) (ds : List SignalDeclaration) (x : PlacedItem) (node : UnitNode)
    → AreWithin (length ds) (node_spans node) → Each (λ (p : Span). p.low + p.width ≤ 128) (node_spans node)
    → path_faults signals ds x (node_blocks node) ≡ [] → IsNodeSound node
unfolding IsComplete
node_sound law signals ds x (Own (Drive form lanes e)) here narrow none = (tt, tt)
node_sound law signals ds x (Own (Block shown body)) here narrow none =
    block_whole law signals ds x.reads x.at body here narrow
    (left_none (read_faults x.reads x.at body ++ latch_faults signals ds x.at body) [] none)
node_sound law signals ds x (Into child form lanes e) here narrow none = tt
node_sound law signals ds x (From child form lanes e) here narrow none = tt

body_sound : BlocksAreWhole → (signals : List Signal) (ds : List SignalDeclaration) (x : PlacedItem) (body : SizedBody)
    → AreWithin (length ds) (spans_of body) → Each (λ (p : Span). p.low + p.width ≤ 128) (spans_of body)
    → path_faults signals ds x (blocks_of body) ≡ [] → Each IsNodeSound (node_in body)
body_sound law signals ds x (Node node) here narrow none = (node_sound law signals ds x node here narrow none, tt)
body_sound law signals ds x (Clocked st) here narrow none = tt
body_sound law signals ds x (Initial signal) here narrow none = tt

items_sound : BlocksAreWhole → (signals : List Signal) (ds : List SignalDeclaration) (xs : List PlacedItem) → AreItemsWithin (length ds) xs
    → Each (λ (x : PlacedItem). Each (λ (p : Span). p.low + p.width ≤ 128) (spans_of x.body)) xs → block_faults signals ds xs ≡ []
    → Each IsNodeSound (nodes_in xs)
items_sound law signals ds [] here narrow none = tt
items_sound law signals ds (x ∷ xs) here narrow none =
    each_append IsNodeSound (node_in x.body) (nodes_in xs)
    (body_sound law signals ds x x.body here.0 narrow.0 (left_none (path_faults signals ds x (blocks_of x.body)) (block_faults signals ds xs) none))
    (items_sound law signals ds xs here.1 narrow.1 (right_none (path_faults signals ds x (blocks_of x.body)) (block_faults signals ds xs) none))

-- ---- clocked blocks

clocked_body : (ds : List SignalDeclaration) (f : ℕ → Bool) (registers : List ℕ) (body : SizedBody) (rest : List SizedStmt)
    → ((s : ℕ) → may_write ds f writer.Clocked s ≡ true → Member s registers)
    → Each (λ (t : ℕ). may_write ds f (writer_of body) t ≡ true) (written body) → WritesRegisters registers rest
    → WritesRegisters registers (block_in body ++ rest)
clocked_body ds f registers (Node node) rest all may done = done
clocked_body ds f registers (Clocked st) rest all may done = (
  each_signal (λ (s : ℕ). Member s registers) (later_targets st)
      (each_weaker (λ (t : ℕ). may_write ds f writer.Clocked t ≡ true) (λ (s : ℕ). Member s registers) (map (λ (p : Span). p.signal) (later_targets st)) all may),
  done,
)
clocked_body ds f registers (Initial signal) rest all may done = done

clocked_items : (ds : List SignalDeclaration) (f : ℕ → Bool) (registers : List ℕ) (xs : List PlacedItem)
    → ((s : ℕ) → may_write ds f writer.Clocked s ≡ true → Member s registers) → Each (MayWrite ds f) xs → WritesRegisters registers (blocks_in xs)
clocked_items ds f registers [] all may = tt
clocked_items ds f registers (x ∷ xs) all may =
    clocked_body ds f registers x.body (blocks_in xs) all may.0 (clocked_items ds f registers xs all may.1)

-- ---- the unit

pub unit_driven : BlocksAreWhole → (p : PlacedItems) → driver_faults p ≡ [] → AreNarrowItems p → HasRoles p → IsDriven (unit_of p)
unit_driven law p none narrow roles =
    let ds = p.declarations in
    let settled = is_settled p.items in
    let targets_of = all_target_faults ds settled p.items in
    let doubles_of = double_faults nowhere p.items in
    let blocks = block_faults p.signals ds p.items in
    let no_targets : targets_of ≡ [] = left_none targets_of (doubles_of ++ blocks) none in
    let others : doubles_of ++ blocks ≡ [] = right_none targets_of (doubles_of ++ blocks) none in
    let no_doubles : doubles_of ≡ [] = left_none doubles_of blocks others in
    let no_blocks : blocks ≡ [] = right_none doubles_of blocks others in
    let may_all : Each (MayWrite ds settled) p.items = items_may ds settled p.items no_targets in
    record {
      own = λ s i. omega (arith, nodes_le p.items s i, at_most p s i no_doubles narrow);
      inputs_held = λ s i m. none_driven s i (nodes_in p.items) (each_node (λ node. own_drives s i node ≡ false) p.items
          (each_weaker (MayWrite ds settled) (λ (x : PlacedItem). Each (λ node. own_drives s i node ≡ false) (node_in x.body)) p.items
          (λ x may. input_body ds settled s i x.body may (roles.inputs s m)) may_all));
      registers_held = λ s i m. none_driven s i (nodes_in p.items) (each_node (λ node. own_drives s i node ≡ false) p.items
          (each_weaker (λ (x : PlacedItem). MayWrite ds settled x × (block_names s (blocks_of x.body) ≡ false))
          (λ (x : PlacedItem). Each (λ node. own_drives s i node ≡ false) (node_in x.body)) p.items
          (λ x h. register_body ds settled s i x.body h.0 h.1 (and_left (is_variable ds s) (not (settled s)) (roles.only s m)))
          (each_both (MayWrite ds settled) (λ (x : PlacedItem). block_names s (blocks_of x.body) ≡ false) p.items may_all
          (unsettled p.items s (not-true (settled s) (and_right (is_variable ds s) (not (settled s)) (roles.only s m)))))));
      nodes = items_sound law p.signals ds p.items (all_within ds settled p.items no_targets) narrow no_blocks;
      writers = λ s i. omega (arith, blocks_le p.items s i, at_most p s i no_doubles narrow);
      registers_only = clocked_items ds settled p.registers p.items roles.all may_all;
    }

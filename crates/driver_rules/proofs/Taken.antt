-- The bits of items, one item after another.
use Rattle.std.proofs.Common.{◌≡◌, ◌<◌, ◌≤◌, ◌+◌, ◌==◌, ◌&&◌, ◌||◌, ℕ, zero, suc, Bool, true, false, cond, not, nat_le, nat_lt, List, [], ◌∷◌, ◌++◌, map, drop, take, length, get_or, append-nil, append_assoc, refl, sym, ◌∙◌, ap, ap₂, subst, arith, true≢false}
use Rattle.std.proofs.Math.Bool.{or-false, and-false}
use Rattle.std.proofs.lemmas.Bool.{eqb-true}
use Rattle.std.proofs.lemmas.List.{length-append}
use Rattle.ls_text.specs.declared.fault.Fault.{Fault}
use Rattle.ls_text.specs.declared.refusal.Refusal.{Refusal}
use Rattle.ls_text.proofs.Lists.{same_map}
use Rattle.typed_ir.specs.declared.span.Span.{Span}
use Rattle.typed_ir.specs.Valuations.{Places, within, any_within, nowhere}
use Rattle.typed_ir.specs.Nodes.{FlatNode, Drive, Block, node_drives}
use Rattle.typed_ir.specs.Stmts.{SizedStmt}
use Rattle.typed_ir.specs.Cycles.{block_writes}
use Rattle.typed_ir.specs.Orders.{Each, at_or}
use Rattle.typed_ir.proofs.Cases.{by_cases, and_left, and_right, or_left, or_right, only_right, or_none}
use Rattle.typed_ir.specs.declared.typed_item.TypedItem.{TypedItem}
use Rattle.typed_ir.specs.Trees.{UnitNode, Own, Into, From, count, own_drives}
use Rattle.typed_ir.specs.Items.{SizedBody, Node, Clocked, Initial, PlacedItem, item_of, node_in, block_in, nodes_in, blocks_in}
use Rattle.width_rules.specs.declared.writer.Writer.{Writer}
use Rattle.width_rules.specs.declared.writer.Writer.TheVariants as writer
use Rattle.width_rules.specs.Faults.{IsFirst}
use Rattle.width_rules.proofs.Firsts.{earlier}
use Rattle.block_rules.specs.Paths.{places_of_true}
use Rattle.block_rules.proofs.Whole.{none_below}
use Rattle.driver_rules.specs.declared.driver.Driver.{Driver}
use Rattle.driver_rules.specs.declared.driver_id.DriverId.{DriverId}
use Rattle.driver_rules.specs.declared.driver_id.DriverId.TheVariants as id
use Rattle.driver_rules.specs.declared.numbers.Numbers.{Numbers}
use Rattle.driver_rules.specs.Mentioned.{earliest, shown_faults}
use Rattle.driver_rules.specs.Targets.{writer_of}
use Rattle.driver_rules.specs.Writes.{node_spans, spans_of, writes}
use Rattle.driver_rules.specs.Doubles.{meets, overlaps, doubles, item_doubles, double_faults}
use Rattle.driver_rules.specs.Told.{is_by, covers, drives_by, IsRange, AreTold, marked, driver_id, numbers_after, Puts, joined, Grows}
use Rattle.driver_rules.proofs.Sooner.{none_shown}
use Rattle.driver_rules.proofs.Lists.{all_false, each_mapped, at_or_more, at_or_past}
use Rattle.driver_rules.proofs.Walks.{items_next, refused_here}
use Rattle.driver_rules.proofs.Doubles.{meets_same, overlaps_same}

-- ---- what an item drives, by its number

nodes_more : (done : List PlacedItem) (x : PlacedItem) → nodes_in (done ++ x ∷ []) ≡ nodes_in done ++ node_in x.body
nodes_more [] x = append-nil (node_in x.body)
nodes_more (y ∷ ys) x = ap (λ z. node_in y.body ++ z) (nodes_more ys x) ∙ sym (append_assoc (node_in y.body) (nodes_in ys) (node_in x.body))

blocks_more : (done : List PlacedItem) (x : PlacedItem) → blocks_in (done ++ x ∷ []) ≡ blocks_in done ++ block_in x.body
blocks_more [] x = append-nil (block_in x.body)
blocks_more (y ∷ ys) x = ap (λ z. block_in y.body ++ z) (blocks_more ys x) ∙ sym (append_assoc (block_in y.body) (blocks_in ys) (block_in x.body))

pub own_is : (node : UnitNode) (s i : ℕ) → own_drives s i node ≡ any_within (node_spans node) s i
unfolding node_drives
own_is (Own (Drive form lanes e)) s i = refl
own_is (Own (Block shown body)) s i = refl
own_is (Into child form lanes e) s i = refl
own_is (From child form lanes e) s i = refl

abbrev driven : List UnitNode → List SizedStmt → DriverId → Places
driven nodes blocks (id.Node n) s i = at_or (own_drives s i) false nodes n
driven nodes blocks (id.Clocked n) s i = at_or (λ st. block_writes st s i) false blocks n

driven_is : (items : List PlacedItem) (by : DriverId) (s i : ℕ) → drives_by items by s i ≡ driven (nodes_in items) (blocks_in items) by s i
driven_is items (id.Node n) s i = refl
driven_is items (id.Clocked n) s i = refl

driven_more : (body : SizedBody) (nodes : List UnitNode) (blocks : List SizedStmt) (k : Numbers) (by : DriverId) (s i : ℕ)
    → k.nodes ≡ length nodes → k.blocks ≡ length blocks
    → driven (nodes ++ node_in body) (blocks ++ block_in body) by s i
    ≡ (driven nodes blocks by s i || (is_by by (driver_id k body) && any_within (spans_of body) s i))
driven_more (Node node) nodes blocks k (id.Node n) s i one two =
    at_or_more (own_drives s i) nodes node n
    ∙ ap₂ (λ m b. at_or (own_drives s i) false nodes n || ((n == m) && b)) (sym one) (own_is node s i)
driven_more (Node node) nodes blocks k (id.Clocked n) s i one two =
    ap (λ zs. at_or (λ st. block_writes st s i) false zs n) (append-nil blocks) ∙ sym (or-false (at_or (λ st. block_writes st s i) false blocks n))
driven_more (Clocked st) nodes blocks k (id.Node n) s i one two =
    ap (λ zs. at_or (own_drives s i) false zs n) (append-nil nodes) ∙ sym (or-false (at_or (own_drives s i) false nodes n))
driven_more (Clocked st) nodes blocks k (id.Clocked n) s i one two =
    at_or_more (λ z. block_writes z s i) blocks st n
    ∙ ap (λ m. at_or (λ z. block_writes z s i) false blocks n || ((n == m) && block_writes st s i)) (sym two)
driven_more (Initial signal) nodes blocks k (id.Node n) s i one two =
    ap (λ zs. at_or (own_drives s i) false zs n) (append-nil nodes)
    ∙ sym (or_none (at_or (own_drives s i) false nodes n) ((n == k.nodes) && false) (and-false (n == k.nodes)))
driven_more (Initial signal) nodes blocks k (id.Clocked n) s i one two =
    ap (λ zs. at_or (λ st. block_writes st s i) false zs n) (append-nil blocks) ∙ sym (or-false (at_or (λ st. block_writes st s i) false blocks n))

drives_more : (done : List PlacedItem) (x : PlacedItem) (k : Numbers) (by : DriverId) (s i : ℕ)
    → k.nodes ≡ length (nodes_in done) → k.blocks ≡ length (blocks_in done)
    → drives_by (done ++ x ∷ []) by s i ≡ (drives_by done by s i || (is_by by (driver_id k x.body) && writes x s i))
drives_more done x k by s i one two =
    driven_is (done ++ x ∷ []) by s i
    ∙ ap₂ (λ ns bs. driven ns bs by s i) (nodes_more done x) (blocks_more done x)
    ∙ driven_more x.body (nodes_in done) (blocks_in done) k by s i one two
    ∙ ap (λ b. b || (is_by by (driver_id k x.body) && writes x s i)) (sym (driven_is done by s i))

-- a number that no item had
past_false : {A : Type 0} (f : A → Bool) (xs : List A) (n m : ℕ) (w : Bool) → m ≡ length xs → at_or f false xs n ≡ true → ((n == m) && w) ≡ false
past_false f xs n m w is h = by_cases (n == m)
    (λ yes. let far : length xs ≤ n = (let e : n ≡ m = eqb-true n m yes in omega (arith, e, is)) in
    absurd (true≢false (sym h ∙ at_or_past f false xs n far)))
    (λ other. ap (λ b. b && w) other)

fresh : (body : SizedBody) (nodes : List UnitNode) (blocks : List SizedStmt) (k : Numbers) (by : DriverId) (s i : ℕ)
    → k.nodes ≡ length nodes → k.blocks ≡ length blocks
    → driven nodes blocks by s i ≡ true → (is_by by (driver_id k body) && any_within (spans_of body) s i) ≡ false
fresh (Node node) nodes blocks k (id.Node n) s i one two h = past_false (own_drives s i) nodes n k.nodes (any_within (node_spans node) s i) one h
fresh (Node node) nodes blocks k (id.Clocked n) s i one two h = refl
fresh (Clocked st) nodes blocks k (id.Node n) s i one two h = refl
fresh (Clocked st) nodes blocks k (id.Clocked n) s i one two h = past_false (λ z. block_writes z s i) blocks n k.blocks (block_writes st s i) two h
fresh (Initial signal) nodes blocks k (id.Node n) s i one two h = and-false (n == k.nodes)
fresh (Initial signal) nodes blocks k (id.Clocked n) s i one two h = refl

-- ---- bits that are taken once

meets_false : (taken : Places) (p : Span) (s i : ℕ) → meets taken p ≡ false → i < 128 → within p s i ≡ true → taken s i ≡ false
meets_false taken p s i none small in_it =
    let e : s ≡ p.signal = eqb-true s p.signal (and_left (s == p.signal) (nat_le p.low i && nat_lt i (p.low + p.width)) in_it) in
    let here : within p p.signal i ≡ true = ap (λ z. within p z i) (sym e) ∙ in_it in
    let no_bit : (within p p.signal i && taken p.signal i) ≡ false = none_below 128 i (λ j. within p p.signal j && taken p.signal j) none small in
    ap (λ z. taken z i) e ∙ sym (ap (λ b. b && taken p.signal i) here) ∙ no_bit

all_apart : (taken : Places) (spans : List Span) (s i : ℕ) → Each (λ (p : Span). meets taken p ≡ false) spans → i < 128
    → any_within spans s i ≡ true → taken s i ≡ false
all_apart taken [] s i none small h = absurd (true≢false (sym h))
all_apart taken (p ∷ ps) s i none small h = by_cases (within p s i)
    (λ yes. meets_false taken p s i none.0 small yes)
    (λ out. all_apart taken ps s i none.1 small (only_right (within p s i) (any_within ps s i) out h))

one_by_one : (taken : Places) (spans : List Span) (s i : ℕ) → Each (λ (b : Bool). b ≡ false) (overlaps taken spans) → i < 128
    → any_within spans s i ≡ true → taken s i ≡ false
one_by_one taken [] s i none small h = absurd (true≢false (sym h))
one_by_one taken (p ∷ ps) s i none small h = by_cases (within p s i)
    (λ yes. meets_false taken p s i none.0 small yes)
    (λ out. or_left (taken s i) (within p s i)
    (one_by_one (λ t j. taken t j || within p t j) ps s i none.1 small (only_right (within p s i) (any_within ps s i) out h)))

doubles_false : (taken : Places) (w : Writer) (spans : List Span) (s i : ℕ) → Each (λ (b : Bool). b ≡ false) (doubles taken w spans) → i < 128
    → any_within spans s i ≡ true → taken s i ≡ false
doubles_false taken writer.Nothing spans s i none = all_apart taken spans s i (each_mapped (meets taken) spans none)
doubles_false taken writer.Continuous spans s i none = one_by_one taken spans s i none
doubles_false taken writer.Clocked spans s i none = all_apart taken spans s i (each_mapped (meets taken) spans none)
doubles_false taken writer.Combinational spans s i none = all_apart taken spans s i (each_mapped (meets taken) spans none)

-- an item without such a fault has no bit that is taken
pub item_apart : (taken : Places) (x : PlacedItem) (s i : ℕ) → item_doubles taken x ≡ [] → i < 128 → writes x s i ≡ true → taken s i ≡ false
item_apart taken x s i none =
    let flags = doubles taken (writer_of x.body) (spans_of x.body) in
    doubles_false taken (writer_of x.body) (spans_of x.body) s i
    (all_false 0 flags (none_shown 34 (places_of_true flags) x.targets x.at none))

-- ---- the same bits

doubles_same : (p q : Places) (w : Writer) (spans : List Span) → ((s i : ℕ) → i < 128 → p s i ≡ q s i) → doubles p w spans ≡ doubles q w spans
doubles_same p q writer.Nothing spans h = same_map (meets p) (meets q) (λ x. meets_same p q x h) spans
doubles_same p q writer.Continuous spans h = overlaps_same p q spans h
doubles_same p q writer.Clocked spans h = same_map (meets p) (meets q) (λ x. meets_same p q x h) spans
doubles_same p q writer.Combinational spans h = same_map (meets p) (meets q) (λ x. meets_same p q x h) spans

pub double_same : (p q : Places) (xs : List PlacedItem) → ((s i : ℕ) → i < 128 → p s i ≡ q s i) → double_faults p xs ≡ double_faults q xs
double_same p q [] h = refl
double_same p q (x ∷ xs) h =
    ap₂ (λ one rest. one ++ rest)
    (ap (λ flags. shown_faults 34 (earliest (places_of_true flags) x.targets x.at)) (doubles_same p q (writer_of x.body) (spans_of x.body) h))
    (double_same (λ s i. p s i || writes x s i) (λ s i. q s i || writes x s i) xs (λ s i small. ap (λ b. b || writes x s i) (h s i small)))

-- one more item without a fault
pub double_ahead : (table more : List ℕ) (xs : List TypedItem) (k : ℕ) (x : TypedItem) → k < length xs → x ≡ get_or xs k x
    → item_doubles (marked table) (item_of x) ≡ []
    → ((s i : ℕ) → i < 128 → marked more s i ≡ (marked table s i || writes (item_of x) s i))
    → double_faults (marked more) (map item_of (drop (k + 1) xs)) ≡ double_faults (marked table) (map item_of (drop k xs))
double_ahead table more xs k x h is none takes =
    let rest = map item_of (drop (k + 1) xs) in
    let after : Places = λ s i. marked table s i || writes (item_of x) s i in
    double_same (marked more) after rest takes
    ∙ ap (λ (zs : List Fault). zs ++ double_faults after rest) (sym none)
    ∙ ap (double_faults (marked table)) (sym (items_next xs k x h is))

-- or with one
pub double_fault : (taken : Places) (xs : List TypedItem) (k : ℕ) (x : TypedItem) (r : Refusal) → k < length xs → x ≡ get_or xs k x
    → IsFirst (item_doubles taken (item_of x)) r → IsFirst (double_faults taken (map item_of (drop k xs))) r
double_fault taken xs k x r h is first =
    subst (λ (ys : List PlacedItem). IsFirst (double_faults taken ys) r) (sym (items_next xs k x h is))
    (earlier (item_doubles taken (item_of x)) (double_faults (λ s i. taken s i || writes (item_of x) s i) (map item_of (drop (k + 1) xs))) r first)

-- ---- what is known after some items

pub record State (done : List PlacedItem) (k : Numbers) (table : List ℕ) (ds : List Driver) : Type 0 where
  pub nodes : k.nodes ≡ length (nodes_in done)
  pub blocks : k.blocks ≡ length (blocks_in done)
  pub told : (by : DriverId) (s i : ℕ) → i < 128 → count (λ (d : Driver). is_by by d.by && covers s i d) ds ≡ cond (drives_by done by s i) 1 0
  pub once : (s i : ℕ) → i < 128 → count (covers s i) ds ≡ cond (marked table s i) 1 0
  pub ranges : Each IsRange ds

abbrev pub flag_number : Bool → ℕ
flag_number b = cond b 1 0

pub no_items : (k : Numbers) (table : List ℕ) → k.nodes ≡ 0 → k.blocks ≡ 0 → ((s i : ℕ) → marked table s i ≡ false) → State [] k table []
no_items k table none no_block blank = record {
  nodes = none;
  blocks = no_block;
  told = λ by s i small. sym (ap flag_number (nothing by s i));
  once = λ s i small. sym (ap flag_number (blank s i));
  ranges = tt;
}
  where
    nothing : (by : DriverId) (s i : ℕ) → drives_by [] by s i ≡ false
    nothing (id.Node n) s i = refl
    nothing (id.Clocked n) s i = refl

pub sum_flags : (d e : Bool) → (d ≡ true → e ≡ false) → flag_number d + flag_number e ≡ flag_number (d || e)
sum_flags true true h = absurd (true≢false (h refl))
sum_flags true false h = refl
sum_flags false true h = refl
sum_flags false false h = refl

new_is : (m w : Bool) → (w ≡ true → m ≡ false) → ((m || w) && not m) ≡ w
new_is true true h = absurd (true≢false (h refl))
new_is true false h = refl
new_is false true h = refl
new_is false false h = refl

old_or_new : (m w : Bool) → (w ≡ true → m ≡ false) → m ≡ true → w ≡ false
old_or_new m true h is = absurd (true≢false (sym is ∙ h refl))
old_or_new m false h is = refl

more_nodes : (body : SizedBody) (k : Numbers) (nodes : List UnitNode) → k.nodes ≡ length nodes → (numbers_after k body).nodes ≡ length (nodes ++ node_in body)
more_nodes (Node node) k nodes h = omega (arith, h, length-append nodes (node ∷ []))
more_nodes (Clocked st) k nodes h = h ∙ ap length (sym (append-nil nodes))
more_nodes (Initial signal) k nodes h = h ∙ ap length (sym (append-nil nodes))

more_blocks : (body : SizedBody) (k : Numbers) (blocks : List SizedStmt) → k.blocks ≡ length blocks → (numbers_after k body).blocks ≡ length (blocks ++ block_in body)
more_blocks (Node node) k blocks h = h ∙ ap length (sym (append-nil blocks))
more_blocks (Clocked st) k blocks h = omega (arith, h, length-append blocks (st ∷ []))
more_blocks (Initial signal) k blocks h = h ∙ ap length (sym (append-nil blocks))

pub next_item : (done : List PlacedItem) (x : PlacedItem) (k : Numbers) (table more : List ℕ) (ds after : List Driver) → State done k table ds
    → ((s i : ℕ) → i < 128 → writes x s i ≡ true → marked table s i ≡ false)
    → Grows (driver_id k x.body) table more ds after (writes x) → State (done ++ x ∷ []) (numbers_after k x.body) more after
next_item done x k table more ds after state apart grows = record {
  nodes = more_nodes x.body k (nodes_in done) state.nodes ∙ ap length (sym (nodes_more done x));
  blocks = more_blocks x.body k (blocks_in done) state.blocks ∙ ap length (sym (blocks_more done x));
  told = λ by s i small.
      (let own = is_by by (driver_id k x.body) in
      grows.puts.told (is_by by) s i small
      ∙ ap₂ (λ n b. n + flag_number (own && b)) (state.told by s i small) (joins s i small)
      ∙ sum_flags (drives_by done by s i) (own && writes x s i)
      (λ h. fresh x.body (nodes_in done) (blocks_in done) k by s i state.nodes state.blocks (sym (driven_is done by s i) ∙ h))
      ∙ ap flag_number (sym (drives_more done x k by s i state.nodes state.blocks)));
  once = λ s i small.
      grows.puts.told (λ _. true) s i small
      ∙ ap₂ (λ n b. n + flag_number b) (state.once s i small) (joins s i small)
      ∙ sum_flags (marked table s i) (writes x s i) (old_or_new (marked table s i) (writes x s i) (apart s i small))
      ∙ ap flag_number (sym (grows.taken s i small));
  ranges = grows.puts.ranges state.ranges;
}
  where
    joins : (s i : ℕ) → i < 128 → joined table more s i ≡ writes x s i
    joins s i small = ap (λ b. b && not (marked table s i)) (grows.taken s i small) ∙ new_is (marked table s i) (writes x s i) (apart s i small)

pub at_most_one : (b : Bool) → flag_number b ≤ 1
at_most_one true = omega arith
at_most_one false = omega arith

pub all_told : (items : List PlacedItem) (k : Numbers) (table : List ℕ) (ds : List Driver) → State items k table ds → AreTold items ds
all_told items k table ds state = record {
  told = state.told;
  once = λ s i small. (let one : flag_number (marked table s i) ≤ 1 = at_most_one (marked table s i) in omega (arith, state.once s i small, one));
  ranges = state.ranges;
}

-- Wires that stand where the signal does of which they are another name, and the nodes that are left then.
use Rattle.std.proofs.Common.{Bool, true, false, not, true≢false, ◌≡◌, ℕ, zero, suc, ◌+◌, ◌-◌, ◌<◌, ◌≤◌, ◌&&◌, ◌||◌, ◌==◌, nat_le, nat_lt, ◌/◌, ◌^◌, ◌⊎◌, inl, inr, Option, Some, None, List, [], ◌∷◌, ◌++◌, length, map, drop, get_or, set, append_assoc, refl, sym, ap, ap₂, ◌∙◌, subst, arith}
use Rattle.std.specs.Prelude.{slice_index, if◌then◌else◌}
use Rattle.std.proofs.lemmas.Bool.{ltb-true, ltb-false, lt-ltb, le-leb, eqb-true, eqb-false, eq-eqb, and_from, not-true}
use Rattle.std.proofs.lemmas.List.{length-set, append-nil, drop_all}
use Rattle.std.proofs.lemmas.List.FromFn.{length-range_with_len}
use Rattle.std.proofs.lemmas.Option.{none-some, cond_some}
use Rattle.typed_ir.specs.declared.flat.Flat.{Flat}
use Rattle.typed_ir.specs.declared.node.Node.{Node}
use Rattle.typed_ir.specs.Orders.{at_or, is_member}
use Rattle.typed_ir.specs.Flats.{signal_widths}
use Rattle.typed_ir.specs.FlatNodes.{node_of}
use Rattle.typed_ir.specs.Nodes.{FlatNode, Drive, Block, lane_spans, spread, drive, drive_at, node_drives, drives_at, node_reads, reads_at}
use Rattle.typed_ir.specs.Sized.{Sized, value_of, reads, Constant, Name, Part, Pick, Unary, Binary, Choice, Concat, Repeat, Resized}
use Rattle.typed_ir.specs.declared.lane.Lane.{Lane}
use Rattle.typed_ir.specs.Valuations.{Valuation, put, look, within, any_within}
use Rattle.typed_ir.proofs.Cases.{by_cases, and_left, and_right, left_or, right_or, or_left, or_right, only_left}
use Rattle.typed_ir.proofs.Lists.{drop_split}
use Rattle.typed_ir.proofs.BitRuns.{placed-inside}
use Rattle.bits.proofs.Runs.{bit_at-shr}
use Rattle.std.specs.Int.{bit_at}
use Rattle.std.specs.List.{range_with_len}
use Rattle.typed_ir.proofs.Members.{is_of}
use Rattle.typed_ir.proofs.Widths.{widths_long}
use Rattle.word_steps.proofs.Words.{word_set, put-same, put-other}
use Rattle.design_steps.specs.declared.naming.Naming.{Naming}
use Rattle.design_steps.specs.Namings.{has_width, is_whole, named, name_given, stand_alike, is_shared, kept, mark_at, Held, Names, LeadsTo, Itself, Over, IsAlias, AreShared, AreMarked}
use Rattle.design_steps.proofs.Counting.{run_in, run_out}

-- ---- marks

-- what marks say of registers and inputs
abbrev pub Marks : Flat → List Bool → Type 0
Marks design held = (s : ℕ) → mark_at held s
    ≡ ((nat_lt s (length design.signals.items) && is_member s design.registers.items) || (nat_lt s (length design.signals.items) && is_member s design.inputs.items))

held_marked : (design : Flat) (held : List Bool) (s : ℕ) → Marks design held → s < length design.signals.items → Held design s → mark_at held s ≡ true
held_marked design held s marks less (inl m) =
    marks s ∙ ap (λ b. (b && is_member s design.registers.items) || (b && is_member s design.inputs.items)) (lt-ltb s (length design.signals.items) less)
    ∙ ap (λ b. b || is_member s design.inputs.items) (is_of s design.registers.items m)
held_marked design held s marks less (inr m) =
    marks s ∙ ap (λ b. (b && is_member s design.registers.items) || (b && is_member s design.inputs.items)) (lt-ltb s (length design.signals.items) less)
    ∙ right_or (is_member s design.registers.items) (is_member s design.inputs.items) (is_of s design.inputs.items m)

-- ---- what a name is

-- both are there, and of one width
pub record Named (ws : List ℕ) (n : Naming) : Type 0 where
  pub wire_there : n.wire < length ws
  pub signal_there : n.signal < length ws
  pub alike : slice_index ws n.wire ≡ slice_index ws n.signal

has_width_is : (s width : ℕ) (ws : List ℕ) → has_width s width ws ≡ true → (s < length ws) × (slice_index ws s ≡ width)
has_width_is s width ws h = (
  ltb-true s (length ws) (and_left (nat_lt s (length ws)) ((slice_index ws s == width) && nat_lt 0 width) h),
  eqb-true (slice_index ws s) width (and_left (slice_index ws s == width) (nat_lt 0 width) (and_right (nat_lt s (length ws)) ((slice_index ws s == width) && nat_lt 0 width) h)),
)

whole_width : (lane : Lane) (width : ℕ) (ws : List ℕ) → is_whole lane width ws ≡ true → has_width lane.span.signal width ws ≡ true
whole_width lane width ws h =
    and_right (lane.span.width == width) (has_width lane.span.signal width ws)
    (and_right (lane.span.low == 0) ((lane.span.width == width) && has_width lane.span.signal width ws)
    (and_right (lane.shift == 0) ((lane.span.low == 0) && ((lane.span.width == width) && has_width lane.span.signal width ws)) h))

-- a node that drives one lane with one signal
abbrev pub Drives : FlatNode → Lane → ℕ → ℕ → Type 0
Drives (Drive form lanes e) lane signal width = (lanes ≡ lane ∷ []) × (e ≡ Name signal width)
Drives (Block shown body) lane signal width = ⊥

-- a node that gives a name drives one whole wire with one signal
pub record Gives (k : FlatNode) (ws : List ℕ) (n : Naming) : Type 0 where
  pub lane : Lane
  pub width : ℕ
  pub is : Drives k lane n.signal width
  pub wire : lane.span.signal ≡ n.wire
  pub whole : is_whole lane width ws ≡ true
  pub there : has_width n.signal width ws ≡ true

gives_name : (lane : Lane) (e : Sized) (ws : List ℕ) (n : Naming) → named lane e ws ≡ Some n
    → (width : ℕ) × (e ≡ Name n.signal width) × (lane.span.signal ≡ n.wire) × (is_whole lane width ws ≡ true) × (has_width n.signal width ws ≡ true)
gives_name lane (Name signal width) ws n h =
    let is = is_whole lane width ws && has_width signal width ws in
    let got = cond_some is (record { wire = lane.span.signal; signal = signal }) n h in (
      width,
      ap (λ (m : Naming). Name m.signal width) got.1,
      ap (λ (m : Naming). m.wire) got.1,
      and_left (is_whole lane width ws) (has_width signal width ws) got.0,
      ap (λ (m : Naming). has_width m.signal width ws) (sym got.1) ∙ and_right (is_whole lane width ws) (has_width signal width ws) got.0,
    )
gives_name lane (Constant width value) ws n h = absurd (none-some n h)
gives_name lane (Part span) ws n h = absurd (none-some n h)
gives_name lane (Pick signal width below signed index) ws n h = absurd (none-some n h)
gives_name lane (Unary op a) ws n h = absurd (none-some n h)
gives_name lane (Binary op a b) ws n h = absurd (none-some n h)
gives_name lane (Choice c a b) ws n h = absurd (none-some n h)
gives_name lane (Concat width a b) ws n h = absurd (none-some n h)
gives_name lane (Repeat width count a) ws n h = absurd (none-some n h)
gives_name lane (Resized a width signed) ws n h = absurd (none-some n h)

pub gives : (k : FlatNode) (ws : List ℕ) (n : Naming) → name_given k ws ≡ Some n → Gives k ws n
gives (Drive form [] e) ws n h = absurd (none-some n h)
gives (Drive form (lane ∷ []) e) ws n h =
    let g = gives_name lane e ws n h in
    record { lane = lane; width = g.0; is = (refl, g.1); wire = g.2; whole = g.3; there = g.4 }
gives (Drive form (lane ∷ other ∷ lanes) e) ws n h = absurd (none-some n h)
gives (Block shown body) ws n h = absurd (none-some n h)

named_by : (k : FlatNode) (ws : List ℕ) (n : Naming) → Gives k ws n → Named ws n
named_by k ws n g =
    let w = has_width_is g.lane.span.signal g.width ws (whole_width g.lane g.width ws g.whole) in
    let s = has_width_is n.signal g.width ws g.there in
    record {
      wire_there = subst (λ t. t < length ws) g.wire w.0;
      signal_there = s.0;
      alike = ap (slice_index ws) (sym g.wire) ∙ w.1 ∙ sym s.1;
    }

-- it drives each bit of its wire
gives_drive : (k : FlatNode) (ws : List ℕ) (n : Naming) (i : ℕ) → Gives k ws n → i < slice_index ws n.wire → node_drives k n.wire i ≡ true
unfolding node_drives
gives_drive (Drive form lanes e) ws n i g within =
    ap (λ ls. any_within (lane_spans ls) n.wire i) g.is.0
    ∙ ap (λ b. b || false) (and_from (n.wire == g.lane.span.signal) (nat_le g.lane.span.low i && nat_lt i (g.lane.span.low + g.lane.span.width))
    (eq-eqb n.wire g.lane.span.signal (sym g.wire))
    (and_from (nat_le g.lane.span.low i) (nat_lt i (g.lane.span.low + g.lane.span.width))
    (le-leb g.lane.span.low i (omega (arith, low)))
    (lt-ltb i (g.lane.span.low + g.lane.span.width) (omega (arith, low, wide, within, long)))))
  where
    whole : ((g.lane.span.low == 0) && ((g.lane.span.width == g.width) && has_width g.lane.span.signal g.width ws)) ≡ true
    whole = and_right (g.lane.shift == 0) ((g.lane.span.low == 0) && ((g.lane.span.width == g.width) && has_width g.lane.span.signal g.width ws)) g.whole

    low : g.lane.span.low ≡ 0
    low = eqb-true g.lane.span.low 0 (and_left (g.lane.span.low == 0) ((g.lane.span.width == g.width) && has_width g.lane.span.signal g.width ws) whole)

    wide : g.lane.span.width ≡ g.width
    wide = eqb-true g.lane.span.width g.width (and_left (g.lane.span.width == g.width) (has_width g.lane.span.signal g.width ws)
        (and_right (g.lane.span.low == 0) ((g.lane.span.width == g.width) && has_width g.lane.span.signal g.width ws) whole))

    long : slice_index ws n.wire ≡ g.width
    long = ap (slice_index ws) (sym g.wire) ∙ (has_width_is g.lane.span.signal g.width ws (whole_width g.lane g.width ws g.whole)).1
gives_drive (Block shown body) ws n i g within = absurd g.is

-- and only that wire; it reads each bit of the signal; and the wire has a bit
gives_alone : (k : FlatNode) (ws : List ℕ) (n : Naming) (s i : ℕ) → Gives k ws n → node_drives k s i ≡ true → s ≡ n.wire
unfolding node_drives
gives_alone (Drive form lanes e) ws n s i g d =
    let one : (within g.lane.span s i || false) ≡ true = ap (λ ls. any_within (lane_spans ls) s i) (sym g.is.0) ∙ d in
    eqb-true s g.lane.span.signal (and_left (s == g.lane.span.signal) (nat_le g.lane.span.low i && nat_lt i (g.lane.span.low + g.lane.span.width)) (only_left (within g.lane.span s i) false refl one)) ∙ g.wire
gives_alone (Block shown body) ws n s i g d = absurd g.is

gives_read : (k : FlatNode) (ws : List ℕ) (n : Naming) (i : ℕ) → Gives k ws n → node_reads k n.signal i ≡ true
unfolding node_reads
gives_read (Drive form lanes e) ws n i g = ap (λ x. reads x n.signal i) g.is.1 ∙ eq-eqb n.signal n.signal refl
gives_read (Block shown body) ws n i g = absurd g.is

gives_some : (k : FlatNode) (ws : List ℕ) (n : Naming) → Gives k ws n → 0 < slice_index ws n.wire
gives_some k ws n g =
    let is = and_right (nat_lt g.lane.span.signal (length ws)) ((slice_index ws g.lane.span.signal == g.width) && nat_lt 0 g.width) (whole_width g.lane g.width ws g.whole) in
    let width : slice_index ws g.lane.span.signal ≡ g.width = eqb-true (slice_index ws g.lane.span.signal) g.width (and_left (slice_index ws g.lane.span.signal == g.width) (nat_lt 0 g.width) is) in
    let some : 0 < g.width = ltb-true 0 g.width (and_right (slice_index ws g.lane.span.signal == g.width) (nat_lt 0 g.width) is) in
    subst (λ t. 0 < slice_index ws t) g.wire (subst (λ w. 0 < w) (sym width) some)

-- the same by the node's number
pub names_alone : (ns : List FlatNode) (k : ℕ) (ws : List ℕ) (n : Naming) (s i : ℕ) → at_or (λ m. name_given m ws) None ns k ≡ Some n → drives_at ns k s i ≡ true → s ≡ n.wire
names_alone [] k ws n s i h d = absurd (none-some n h)
names_alone (m ∷ ns) zero ws n s i h d = gives_alone m ws n s i (gives m ws n h) d
names_alone (m ∷ ns) (suc k) ws n s i h d = names_alone ns k ws n s i h d

pub names_read : (ns : List FlatNode) (k : ℕ) (ws : List ℕ) (n : Naming) (i : ℕ) → at_or (λ m. name_given m ws) None ns k ≡ Some n → reads_at ns k n.signal i ≡ true
names_read [] k ws n i h = absurd (none-some n h)
names_read (m ∷ ns) zero ws n i h = gives_read m ws n i (gives m ws n h)
names_read (m ∷ ns) (suc k) ws n i h = names_read ns k ws n i h

pub names_some : (ns : List FlatNode) (k : ℕ) (ws : List ℕ) (n : Naming) → at_or (λ m. name_given m ws) None ns k ≡ Some n → 0 < slice_index ws n.wire
names_some [] k ws n h = absurd (none-some n h)
names_some (m ∷ ns) zero ws n h = gives_some m ws n (gives m ws n h)
names_some (m ∷ ns) (suc k) ws n h = names_some ns k ws n h

pub names_drive : (ns : List FlatNode) (k : ℕ) (ws : List ℕ) (n : Naming) (i : ℕ) → at_or (λ m. name_given m ws) None ns k ≡ Some n → i < slice_index ws n.wire
    → drives_at ns k n.wire i ≡ true
names_drive [] k ws n i h within = absurd (none-some n h)
names_drive (m ∷ ns) zero ws n i h within = gives_drive m ws n i (gives m ws n h) within
names_drive (m ∷ ns) (suc k) ws n i h within = names_drive ns k ws n i h within

pub names_known : (ns : List FlatNode) (k : ℕ) (ws : List ℕ) (n : Naming) → at_or (λ m. name_given m ws) None ns k ≡ Some n → Named ws n
names_known [] k ws n h = absurd (none-some n h)
names_known (m ∷ ns) zero ws n h = named_by m ws n (gives m ws n h)
names_known (m ∷ ns) (suc k) ws n h = names_known ns k ws n h

-- it leaves nothing to do where both stand at one place
pub names_shared : (ns : List FlatNode) (k : ℕ) (ws slots : List ℕ) (n : Naming) → at_or (λ m. name_given m ws) None ns k ≡ Some n → n.wire < length slots → n.signal < length slots
    → slice_index slots n.wire ≡ slice_index slots n.signal → at_or (is_shared ws slots) true ns k ≡ true
names_shared [] k ws slots n h w s e = refl
names_shared (m ∷ ns) zero ws slots n h w s e =
    ap (stand_alike slots) h
    ∙ and_from (nat_lt n.wire (length slots) && nat_lt n.signal (length slots)) (slice_index slots n.wire == slice_index slots n.signal)
    (and_from (nat_lt n.wire (length slots)) (nat_lt n.signal (length slots)) (lt-ltb n.wire (length slots) w) (lt-ltb n.signal (length slots) s))
    (eq-eqb (slice_index slots n.wire) (slice_index slots n.signal) e)
names_shared (m ∷ ns) (suc k) ws slots n h w s e = names_shared ns k ws slots n h w s e

-- ---- one wire more

-- where the signals of a design stand, before any wire is shared
pub all_own : (design : Flat) (slots : List ℕ) → slots ≡ range_with_len 1 (length design.signals.items) → AreShared design slots
all_own design slots e = record {
  long = ap length e ∙ length-range_with_len 1 (length design.signals.items);
  each = λ s less. inl (ap (λ xs. slice_index xs s) e ∙ run_in 1 (length design.signals.items) s less ∙ (let f : 1 + s ≡ s + 1 = omega arith in f));
}

-- and what stays there
pub first_marks : (design : Flat) (slots : List ℕ) (held : List Bool) → slots ≡ range_with_len 1 (length design.signals.items) → length held ≡ length design.signals.items
    → Marks design held → AreMarked design slots held
first_marks design slots held e long marks = record {
  long = long;
  held = λ s less h. held_marked design held s marks less h;
  roots = λ s r at free. by_cases (nat_lt s (length design.signals.items))
      (λ yes. let own = ap (λ xs. slice_index xs s) e ∙ run_in 1 (length design.signals.items) s (ltb-true s (length design.signals.items) yes) in omega (arith, at, own))
      (λ no. let own = ap (λ xs. slice_index xs s) e ∙ run_out 1 (length design.signals.items) s (ltb-false s (length design.signals.items) no) in absurd (omega (arith, at, own)));
}

-- a node by its number
pub node_index : {A : Type 0} (f : FlatNode → A) (d : A) (ns : List Node) (k : ℕ) (x : Node) → k < length ns → x ≡ get_or ns k x → at_or f d (map node_of ns) k ≡ f (node_of x)
node_index f d [] k x h is = absurd (omega (arith, h))
node_index f d (y ∷ ys) zero x h is = ap (λ z. f (node_of z)) (sym is)
node_index f d (y ∷ ys) (suc k) x h is = node_index f d ys k x (omega (arith, h)) is

-- a wire that a node makes another name of a signal, and which needn't stay at its own place
pub record MayMove (design : Flat) (slots : List ℕ) (stays : List Bool) (k : ℕ) (n : Naming) : Type 0 where
  pub names : Names design k n.wire n.signal
  pub known : Named (signal_widths design.signals.items) n
  pub own : slice_index slots n.wire ≡ n.wire + 1
  pub unmarked : mark_at stays n.wire ≡ false

pub may_move : (design : Flat) (slots : List ℕ) (stays : List Bool) (k : ℕ) (n : Naming) (x : Node) (wire : ℕ) → k < length design.nodes.items → x ≡ get_or design.nodes.items k x
    → name_given (node_of x) (signal_widths design.signals.items) ≡ Some n → wire ≡ n.wire
    → ((slice_index slots wire == wire + 1) && not (mark_at stays wire)) ≡ true → MayMove design slots stays k n
may_move design slots stays k n x wire less is gives_ same test =
    let ws = signal_widths design.signals.items in
    let own = and_left (slice_index slots wire == wire + 1) (not (mark_at stays wire)) test in
    let free = and_right (slice_index slots wire == wire + 1) (not (mark_at stays wire)) test in
    record {
      names = node_index (λ m. name_given m ws) None design.nodes.items k x less is ∙ gives_;
      known = named_by (node_of x) ws n (gives (node_of x) ws n gives_);
      own = subst (λ t. slice_index slots t ≡ t + 1) same (eqb-true (slice_index slots wire) (wire + 1) own);
      unmarked = subst (λ t. mark_at stays t ≡ false) same (not-true (mark_at stays wire) free);
    }

module _ (design : Flat) (slots : List ℕ) (stays : List Bool) (k : ℕ) (n : Naming) (old : AreShared design slots) (marks : AreMarked design slots stays)
    (may : MayMove design slots stays k n) where
  wire_there : n.wire < length design.signals.items
  wire_there = let e = widths_long design.signals.items in let h = may.known.wire_there in omega (arith, e, h)

  signal_there : n.signal < length design.signals.items
  signal_there = let e = widths_long design.signals.items in let h = may.known.signal_there in omega (arith, e, h)

  free : Held design n.wire → ⊥
  free h = true≢false (sym (marks.held n.wire wire_there h) ∙ may.unmarked)

  abbrev pub new_slots : List ℕ
  new_slots = set slots n.wire (slice_index slots n.signal)

  new_at : (s : ℕ) → slice_index new_slots s ≡ put (λ t. slice_index slots t) n.wire (slice_index slots n.signal) s
  new_at s = ap (λ f. f s) (word_set slots n.wire (slice_index slots n.signal) (let h = wire_there in let l = old.long in omega (arith, h, l)))

  same_at : (s : ℕ) → (s ≡ n.wire → ⊥) → slice_index new_slots s ≡ slice_index slots s
  same_at s other = new_at s ∙ put-other (λ t. slice_index slots t) n.wire (slice_index slots n.signal) s other

  wire_at : slice_index new_slots n.wire ≡ slice_index slots n.signal
  wire_at = new_at n.wire ∙ put-same (λ t. slice_index slots t) n.wire (slice_index slots n.signal)

  -- where it stands, nothing else does
  only_wire : (s : ℕ) → slice_index slots s ≡ n.wire + 1 → s ≡ n.wire
  only_wire s at = marks.roots s n.wire at may.unmarked

  -- so what stands at a place of another one isn't the wire
  not_wire : (s r : ℕ) → (r ≡ n.wire → ⊥) → slice_index slots s ≡ r + 1 → s ≡ n.wire → ⊥
  not_wire s r other e same = other r_is
    where
      r_is : r ≡ n.wire
      r_is = let a = ap (slice_index slots) same in let b = may.own in omega (arith, a, b, e)

  not_root : (s r : ℕ) → (s ≡ n.wire → ⊥) → slice_index slots s ≡ r + 1 → r ≡ n.wire → ⊥
  not_root s r other e same = other (only_wire s (e ∙ ap (λ x. x + 1) same))

  kept_alias : (s : ℕ) → (s ≡ n.wire → ⊥) → IsAlias design slots s → IsAlias design new_slots s
  kept_alias s other a =
      let root = not_root s a.root other a.stands in
      record {
        root = a.root;
        free = a.free;
        there = a.there;
        stands = same_at s other ∙ a.stands;
        own = same_at a.root root ∙ a.own;
        wide = a.wide;
        node = a.node;
        source = a.source;
        names = a.names;
        alike = same_at a.source (not_wire a.source a.root root a.alike) ∙ a.alike;
        leads = a.leads;
      }

  -- the wire stands where the signal does, which isn't at the wire's own place
  module _ (elsewhere : n.signal ≡ n.wire → ⊥) where
    new_alias : (r : ℕ) → slice_index slots n.signal ≡ r + 1 → r < length design.signals.items → slice_index slots r ≡ r + 1
        → slice_index (signal_widths design.signals.items) n.signal ≡ slice_index (signal_widths design.signals.items) r → LeadsTo design r n.signal → IsAlias design new_slots n.wire
    new_alias r at less stands wide leads =
        let root = not_root n.signal r elsewhere at in
        record {
          root = r;
          free = free;
          there = less;
          stands = wire_at ∙ at;
          own = same_at r root ∙ stands;
          wide = may.known.alike ∙ wide;
          node = k;
          source = n.signal;
          names = may.names;
          alike = same_at n.signal elsewhere ∙ at;
          leads = leads;
        }

    of_signal : (slice_index slots n.signal ≡ n.signal + 1) ⊎ IsAlias design slots n.signal → IsAlias design new_slots n.wire
    of_signal (inl e) = new_alias n.signal e signal_there e refl Itself
    of_signal (inr a) = new_alias a.root a.stands a.there a.own a.wide (Over n.signal a.node a.source a.names a.leads)

  -- a wire that names itself stays where it is
  itself : n.signal ≡ n.wire → (s : ℕ) → slice_index new_slots s ≡ slice_index slots s
  itself same s = by_cases (s == n.wire)
      (λ yes. ap (slice_index new_slots) (eqb-true s n.wire yes) ∙ wire_at ∙ ap (slice_index slots) (same ∙ sym (eqb-true s n.wire yes)))
      (λ no. same_at s (eqb-false s n.wire no))

  moved_alias : (s : ℕ) → ((t : ℕ) → slice_index new_slots t ≡ slice_index slots t) → IsAlias design slots s → IsAlias design new_slots s
  moved_alias s same a = record {
    root = a.root;
    free = a.free;
    there = a.there;
    stands = same s ∙ a.stands;
    own = same a.root ∙ a.own;
    wide = a.wide;
    node = a.node;
    source = a.source;
    names = a.names;
    alike = same a.source ∙ a.alike;
    leads = a.leads;
  }

  pub shared_next : AreShared design new_slots
  shared_next = record {
    long = length-set slots n.wire (slice_index slots n.signal) ∙ old.long;
    each = λ s less. by_cases (n.signal == n.wire)
        (λ yes. let same = itself (eqb-true n.signal n.wire yes) in of_same s (same s) (λ a. moved_alias s same a) (old.each s less))
        (λ no. by_cases (s == n.wire)
        (λ wire. inr (subst (IsAlias design new_slots) (sym (eqb-true s n.wire wire)) (of_signal (eqb-false n.signal n.wire no) (old.each n.signal signal_there))))
        (λ other. of_same s (same_at s (eqb-false s n.wire other)) (λ a. kept_alias s (eqb-false s n.wire other) a) (old.each s less)));
  }
    where
      of_same : (s : ℕ) → slice_index new_slots s ≡ slice_index slots s → (IsAlias design slots s → IsAlias design new_slots s)
          → (slice_index slots s ≡ s + 1) ⊎ IsAlias design slots s → (slice_index new_slots s ≡ s + 1) ⊎ IsAlias design new_slots s
      of_same s same f (inl e) = inl (same ∙ e)
      of_same s same f (inr a) = inr (f a)

  pub marked_next : (new : List Bool) → length new ≡ length stays → ((s : ℕ) → mark_at new s ≡ (mark_at stays s || (s == slice_index slots n.signal - 1))) → AreMarked design new_slots new
  marked_next new long marked = record {
    long = long ∙ marks.long;
    held = λ s less h. marked s ∙ left_or (mark_at stays s) (s == slice_index slots n.signal - 1) (marks.held s less h);
    roots = λ s r at none.
        let both = sym (marked r) ∙ none in
        let unmarked_ = or_left (mark_at stays r) (r == slice_index slots n.signal - 1) both in
        let other = eqb-false r (slice_index slots n.signal - 1) (or_right (mark_at stays r) (r == slice_index slots n.signal - 1) both) in
        by_cases (s == n.wire)
        (λ yes. absurd (let e = sym wire_at ∙ ap (slice_index new_slots) (sym (eqb-true s n.wire yes)) ∙ at in other (omega (arith, e))))
        (λ no. marks.roots s r (sym (same_at s (eqb-false s n.wire no)) ∙ at) unmarked_);
  }

-- ---- nodes that are left

-- one more number of the order
pub kept_more : (ws slots : List ℕ) (ns : List FlatNode) (ks : List ℕ) (i k : ℕ) (b : Bool) (old new : List ℕ) → i < length ks → k ≡ get_or ks i 0
    → at_or (is_shared ws slots) true ns (get_or ks i 0) ≡ b → new ≡ old ++ (if b then [] else (k ∷ []))
    → new ++ kept ws slots ns (drop (i + 1) ks) ≡ old ++ kept ws slots ns (drop i ks)
kept_more ws slots ns ks i k b old new h is flag e =
    let rest = kept ws slots ns (drop (i + 1) ks) in
    ap (λ zs. zs ++ rest) (e ∙ ap (λ j. old ++ (if b then [] else (j ∷ []))) is)
    ∙ append_assoc old (if b then [] else (get_or ks i 0 ∷ [])) rest
    ∙ ap (λ zs. old ++ zs) (one b rest ∙ sym (ap (λ t. if t then rest else (get_or ks i 0 ∷ rest)) flag)
    ∙ sym (ap (kept ws slots ns) (drop_split ks i 0 h)))
  where
    one : (t : Bool) (zs : List ℕ) → (if t then [] else (get_or ks i 0 ∷ [])) ++ zs ≡ (if t then zs else (get_or ks i 0 ∷ zs))
    one true zs = refl
    one false zs = refl

-- what is left is of the order
pub kept_below : (n : ℕ) (ws slots : List ℕ) (ns : List FlatNode) (ks : List ℕ) → ((k d : ℕ) → k < length ks → get_or ks k d < n)
    → (k d : ℕ) → k < length (kept ws slots ns ks) → get_or (kept ws slots ns ks) k d < n
kept_below n ws slots ns [] h = λ k d less. absurd (omega (arith, less))
kept_below n ws slots ns (x ∷ ks) h =
    one (kept_below n ws slots ns ks (λ k d less. h (suc k) d (omega (arith, less)))) (at_or (is_shared ws slots) true ns x)
  where
    one : ((k d : ℕ) → k < length (kept ws slots ns ks) → get_or (kept ws slots ns ks) k d < n) → (b : Bool) (k d : ℕ)
        → k < length (if b then kept ws slots ns ks else (x ∷ kept ws slots ns ks))
        → get_or (if b then kept ws slots ns ks else (x ∷ kept ws slots ns ks)) k d < n
    one rest true k d less = rest k d less
    one rest false zero d less = h 0 d (omega arith)
    one rest false (suc k) d less = rest k d (omega (arith, less))

pub kept_all : (ws slots : List ℕ) (ns : List FlatNode) (ks : List ℕ) (i : ℕ) (done : List ℕ) → length ks ≤ i
    → done ++ kept ws slots ns (drop i ks) ≡ kept ws slots ns ks → done ≡ kept ws slots ns ks
kept_all ws slots ns ks i done h e = sym (append-nil done) ∙ ap (λ zs. done ++ kept ws slots ns zs) (sym (drop_all i ks h)) ∙ e

-- ---- nodes that leave nothing to do

-- the name that such a node gives
pub record Passes (m : ℕ) (ns : List FlatNode) (ws slots : List ℕ) : Type 0 where
  pub n : Naming
  pub is : at_or (λ k. name_given k ws) None ns m ≡ Some n
  pub same : slice_index slots n.wire ≡ slice_index slots n.signal

pub passes : (ns : List FlatNode) (k : ℕ) (ws slots : List ℕ) (s i : ℕ) → at_or (is_shared ws slots) true ns k ≡ true → drives_at ns k s i ≡ true → Passes k ns ws slots
passes [] k ws slots s i h d = absurd (true≢false (sym d))
passes (m ∷ ns) zero ws slots s i h d = of (name_given m ws) refl h
  where
    of : (o : Option Naming) → name_given m ws ≡ o → stand_alike slots o ≡ true → Passes zero (m ∷ ns) ws slots
    of None e h = absurd (true≢false (sym h))
    of (Some n) e h = record {
      n = n;
      is = e;
      same = eqb-true (slice_index slots n.wire) (slice_index slots n.signal)
          (and_right (nat_lt n.wire (length slots) && nat_lt n.signal (length slots)) (slice_index slots n.wire == slice_index slots n.signal) h);
    }
passes (m ∷ ns) (suc k) ws slots s i h d = let p = passes ns k ws slots s i h d in record { n = p.n; is = p.is; same = p.same }

-- the wire has each bit of the signal
name_gives : (k : FlatNode) (ws : List ℕ) (n : Naming) (v env : Valuation) (i : ℕ) → Gives k ws n → i < slice_index ws n.wire → look (drive k v env) n.wire i ≡ look v n.signal i
unfolding drive
name_gives (Drive form lanes e) ws n v env i g less =
    ap₂ (λ ls x. look (spread ls (value_of x v) env) n.wire i) g.is.0 g.is.1
    ∙ placed-inside g.lane.span (v n.signal / 2 ^ g.lane.shift) env n.wire i inside
    ∙ bit_at-shr (v n.signal) g.lane.shift (i - g.lane.span.low)
    ∙ ap (bit_at (v n.signal)) (let a = unshifted in let b = low in at_once i g.lane.shift g.lane.span.low a b)
  where
    whole : ((g.lane.span.low == 0) && ((g.lane.span.width == g.width) && has_width g.lane.span.signal g.width ws)) ≡ true
    whole = and_right (g.lane.shift == 0) ((g.lane.span.low == 0) && ((g.lane.span.width == g.width) && has_width g.lane.span.signal g.width ws)) g.whole

    unshifted : g.lane.shift ≡ 0
    unshifted = eqb-true g.lane.shift 0 (and_left (g.lane.shift == 0) ((g.lane.span.low == 0) && ((g.lane.span.width == g.width) && has_width g.lane.span.signal g.width ws)) g.whole)

    low : g.lane.span.low ≡ 0
    low = eqb-true g.lane.span.low 0 (and_left (g.lane.span.low == 0) ((g.lane.span.width == g.width) && has_width g.lane.span.signal g.width ws) whole)

    wide : g.lane.span.width ≡ g.width
    wide = eqb-true g.lane.span.width g.width (and_left (g.lane.span.width == g.width) (has_width g.lane.span.signal g.width ws)
        (and_right (g.lane.span.low == 0) ((g.lane.span.width == g.width) && has_width g.lane.span.signal g.width ws) whole))

    long : slice_index ws n.wire ≡ g.width
    long = ap (slice_index ws) (sym g.wire) ∙ (has_width_is g.lane.span.signal g.width ws (whole_width g.lane g.width ws g.whole)).1

    inside : within g.lane.span n.wire i ≡ true
    inside = and_from (n.wire == g.lane.span.signal) (nat_le g.lane.span.low i && nat_lt i (g.lane.span.low + g.lane.span.width)) (eq-eqb n.wire g.lane.span.signal (sym g.wire))
        (and_from (nat_le g.lane.span.low i) (nat_lt i (g.lane.span.low + g.lane.span.width)) (le-leb g.lane.span.low i (omega (arith, low)))
        (lt-ltb i (g.lane.span.low + g.lane.span.width) (omega (arith, low, wide, less, long))))

    at_once : (i a b : ℕ) → a ≡ 0 → b ≡ 0 → a + (i - b) ≡ i
    at_once i a b e f = omega (arith, e, f)
name_gives (Block shown body) ws n v env i g less = absurd g.is

pub names_give : (ns : List FlatNode) (k : ℕ) (ws : List ℕ) (n : Naming) (v env : Valuation) (i : ℕ) → at_or (λ m. name_given m ws) None ns k ≡ Some n → i < slice_index ws n.wire
    → look (drive_at ns k v env) n.wire i ≡ look v n.signal i
names_give [] k ws n v env i h less = absurd (none-some n h)
names_give (m ∷ ns) zero ws n v env i h less = name_gives m ws n v env i (gives m ws n h) less
names_give (m ∷ ns) (suc k) ws n v env i h less = names_give ns k ws n v env i h less

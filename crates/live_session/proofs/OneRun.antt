-- Two designs that are one but for the numbers of their names run alike, where their rows are one but for these.
use Rattle.std.proofs.Common.{◌≡◌, ◌∙◌, ℕ, zero, suc, ◌+◌, ◌-◌, ◌<◌, IsTrue, List, [], ◌∷◌, ◌++◌, map, length, take, drop, All, refl, sym, ap, ap₂}
use Rattle.std.proofs.Common.{subst, arith, ltb-true}
use Rattle.std.specs.Prelude.{nat_lt, Option, Some, None, slice_index, slice_index_or}
use Rattle.std.proofs.Math.Path.{fun_ext}
use Rattle.std.proofs.lemmas.Bool.{and_parts}
use Rattle.std.proofs.lemmas.List.{length-append, length-map}
use Rattle.std.proofs.lemmas.List.Elements.{All-nil, All-cons, All-head, All-tail}
use Rattle.ls_text.specs.Texts.{HasEachOnce}
use Rattle.ls_text.proofs.Lists.{none_is_some, same_first, same_others}
use Rattle.machine.specs.Rows.{slice}
use Rattle.reg_transform.specs.States.{paired, state_values}
use Rattle.stimulus.specs.Rows.{value_in}
use Rattle.typed_ir.specs.Cycles.{Signal, Flat, cut_to, input, reset, seg, step, wires}
use Rattle.typed_ir.specs.Flats.{are_below, signal_of}
use Rattle.typed_ir.specs.Orders.{at_or}
use Rattle.typed_ir.specs.Paths.{paths_of}
use Rattle.typed_ir.specs.declared.instance_name.InstanceName.{InstanceName}
use Rattle.typed_ir.specs.declared.signal.Signal.{Signal as Signal'}
use Rattle.cycle_eval.specs.Designs.{design_flat}
use Rattle.cycle_eval.specs.Inputs.{own_name, name_at, input_names, values_at}
use Rattle.cycle_eval.specs.Kits.{register_widths, reset_of, driven, run_of}
use Rattle.cycle_eval.specs.declared.design.Design.{Design}
use Rattle.version_swap.specs.Behind.{design_of}
use Rattle.version_swap.specs.OnePlan.{nameless}
use Rattle.live_session.specs.Logs.{InputRow, State, kit}
use Rattle.live_session.specs.Rows.{row_of, value_of}
use Rattle.live_session.specs.Scripts.{IsDesign}
use Rattle.live_session.specs.Spelled.{Spelled, nameless_flat, spelled}
use Rattle.live_session.proofs.AscendingRows.{AreWithin}
use Rattle.live_session.proofs.TextRows.{row_look}
use Rattle.live_session.proofs.OneNames.{IsOneName, AreOneNames, no_names, more_names, AreOneSignals, no_signals, more_signals}
use Rattle.live_session.proofs.OneNames.{one_own, one_signals}

-- ---- designs

-- two designs that are one but for the numbers of their names
pub record IsOneDesign (names others : List (List ℕ)) (m n : Design) : Type 0 where
  pub flat : nameless_flat (design_flat m) ≡ nameless_flat (design_flat n)
  pub signals : AreOneSignals names others (design_flat m).signals (design_flat n).signals

-- each signal has a name, its own
each_called : (rows : List InstanceName) (xs : List Signal') → All (λ (x : Signal). 0 < length x.path) (map (signal_of rows) xs)
each_called rows [] = All-nil (λ (x : Signal). 0 < length x.path)
each_called rows (x ∷ xs) =
    let above : List ℕ = slice_index_or (paths_of rows) x.instance [] in
    All-cons (λ (y : Signal). 0 < length y.path) (signal_of rows x) (map (signal_of rows) xs) (omega (arith, length-append above (x.name.0 ∷ [])))
    (each_called rows xs)

abbrev spelled_or : Spelled → Option Spelled → Spelled
spelled_or d None = d
spelled_or d (Some e) = e

-- what two tables spell as one design
pub one_design : (names others : List (List ℕ)) (design : Option Spelled) (m n : Design) → IsDesign names design m → IsDesign others design n
    → IsOneDesign names others m n
one_design names others design m n p q =
    let same : spelled names (design_of m p.keys) ≡ spelled others (design_of n q.keys) =
    ap (spelled_or (spelled names (design_of m p.keys))) (sym p.is ∙ q.is) in
    record {
      flat = ap (λ (d : Spelled). d.flat) same;
      signals =
          one_signals names others (design_flat m).signals (design_flat n).signals (ap (λ (d : Spelled). d.flat.signals) same)
          (ap (λ (d : Spelled). d.paths) same) (ap (λ (d : Spelled). d.modules) same) p.within q.within
          (each_called m.linked.design.instances.rows.items m.linked.design.signals.items);
    }

-- ---- signals by their numbers

-- there are as many, and each is called the same
pub one_many : (names others : List (List ℕ)) {xs ys : List Signal} → AreOneSignals names others xs ys → length xs ≡ length ys
one_many names others no_signals = refl
one_many names others (more_signals h hs) = ap suc (one_many names others hs)

called_at : (names others : List (List ℕ)) (s : ℕ) {xs ys : List Signal} → AreOneSignals names others xs ys → s < length xs
    → IsOneName names others (at_or (λ (x : Signal). own_name x.path) 0 xs s) (at_or (λ (x : Signal). own_name x.path) 0 ys s)
called_at names others s no_signals lt = absurd (omega (arith, lt))
called_at names others zero (more_signals h hs) lt = one_own names others h.path h.called
called_at names others (suc s) (more_signals h hs) lt = called_at names others s hs (omega (arith, lt))

-- numbers that are below so many
pub below_first : (s count : ℕ) (ss : List ℕ) → IsTrue (are_below (s ∷ ss) count) → s < count
below_first s count ss h = ltb-true s count (and_parts (nat_lt s count) (are_below ss count) h).0

pub below_rest : (s count : ℕ) (ss : List ℕ) → IsTrue (are_below (s ∷ ss) count) → IsTrue (are_below ss count)
below_rest s count ss h = (and_parts (nat_lt s count) (are_below ss count) h).1

names_at : (names others : List (List ℕ)) (f g : Flat) → AreOneSignals names others f.signals g.signals → (ss : List ℕ)
    → IsTrue (are_below ss (length f.signals)) → AreOneNames names others (map (name_at f) ss) (map (name_at g) ss)
names_at names others f g h [] below = no_names
names_at names others f g h (s ∷ ss) below =
    more_names (called_at names others s h (below_first s (length f.signals) ss below))
    (names_at names others f g h ss (below_rest s (length f.signals) ss below))

-- ---- rows

-- two rows of one text
pub record IsOneRow (names others : List (List ℕ)) (x y : InputRow) : Type 0 where
  pub here : AreWithin (length names) x
  pub there : AreWithin (length others) y
  pub text : row_of names x ≡ row_of others y

pub data AreOneRows (names others : List (List ℕ)) : List InputRow → List InputRow → Type 0 where
  no_rows : AreOneRows names others [] []
  more_rows : {x y : InputRow} {xs ys : List InputRow} → IsOneRow names others x y → AreOneRows names others xs ys
      → AreOneRows names others (x ∷ xs) (y ∷ ys)

module _ (names others : List (List ℕ)) where
  -- rows of one list of texts
  pub one_rows : (xs ys : List InputRow) → map (row_of names) xs ≡ map (row_of others) ys → All (AreWithin (length names)) xs
      → All (AreWithin (length others)) ys → AreOneRows names others xs ys
  one_rows [] [] same here there = no_rows
  one_rows [] (y ∷ ys) same here there = none_is_some (row_of others y) (map (row_of others) ys) same
  one_rows (x ∷ xs) [] same here there = none_is_some (row_of names x) (map (row_of names) xs) (sym same)
  one_rows (x ∷ xs) (y ∷ ys) same here there =
      more_rows
      (record {
        here = All-head (AreWithin (length names)) x xs here;
        there = All-head (AreWithin (length others)) y ys there;
        text = same_first (row_of names x) (row_of others y) (map (row_of names) xs) (map (row_of others) ys) same;
      })
      (one_rows xs ys (same_others (row_of names x) (row_of others y) (map (row_of names) xs) (map (row_of others) ys) same)
      (All-tail (AreWithin (length names)) x xs here) (All-tail (AreWithin (length others)) y ys there))

  pub rows_many : {xs ys : List InputRow} → AreOneRows names others xs ys → length xs ≡ length ys
  rows_many no_rows = refl
  rows_many (more_rows h hs) = ap suc (rows_many hs)

  pub rows_append : {xs ys us vs : List InputRow} → AreOneRows names others xs ys → AreOneRows names others us vs
      → AreOneRows names others (xs ++ us) (ys ++ vs)
  rows_append no_rows ks = ks
  rows_append (more_rows h hs) ks = more_rows h (rows_append hs ks)

  -- parts of them
  rows_take : (n : ℕ) {xs ys : List InputRow} → AreOneRows names others xs ys → AreOneRows names others (take n xs) (take n ys)
  rows_take zero h = no_rows
  rows_take (suc n) no_rows = no_rows
  rows_take (suc n) (more_rows h hs) = more_rows h (rows_take n hs)

  rows_drop : (n : ℕ) {xs ys : List InputRow} → AreOneRows names others xs ys → AreOneRows names others (drop n xs) (drop n ys)
  rows_drop zero h = h
  rows_drop (suc n) no_rows = no_rows
  rows_drop (suc n) (more_rows h hs) = rows_drop n hs

  pub rows_slice : (a b : ℕ) {xs ys : List InputRow} → AreOneRows names others xs ys → AreOneRows names others (slice xs a b) (slice ys a b)
  rows_slice a b h = rows_take (b - a) (rows_drop a h)

-- ---- runs

-- a design without the names of its signals runs as with them
abbrev widths : List Signal → List ℕ
widths xs = map (λ (x : Signal). x.width) xs

abbrev initials : List Signal → List ℕ
initials xs = map (λ (x : Signal). x.initial) xs

same_widths : (xs : List Signal) → widths (map nameless xs) ≡ widths xs
same_widths [] = refl
same_widths (x ∷ xs) = ap (λ (ws : List ℕ). x.width ∷ ws) (same_widths xs)

same_initials : (xs : List Signal) → initials (map nameless xs) ≡ initials xs
same_initials [] = refl
same_initials (x ∷ xs) = ap (λ (vs : List ℕ). x.initial ∷ vs) (same_initials xs)

same_input : (d : Flat) (row : List ℕ) → input (nameless_flat d) row ≡ input d row
same_input d row = ap (λ (ws : List ℕ). cut_to (map (λ (s : ℕ). slice_index ws s) d.inputs) row) (same_widths d.signals)

same_registers : (d : Flat) → register_widths (nameless_flat d) ≡ register_widths d
same_registers d = ap (λ (ws : List ℕ). map (λ (s : ℕ). slice_index ws s) d.registers) (same_widths d.signals)

same_reset : (d : Flat) → reset (nameless_flat d) ≡ reset d
same_reset d = ap (λ (vs : List ℕ). map (λ (s : ℕ). slice_index vs s) d.registers) (same_initials d.signals)

same_step : (d : Flat) (state inputs : List ℕ) → step (nameless_flat d) state inputs ≡ step d state inputs
unfolding step wires
same_step d state inputs = refl

same_seg : (d : Flat) (rows : ℕ → List ℕ) (a n : ℕ) (state : List ℕ) → seg (nameless_flat d) rows a n state ≡ seg d rows a n state
same_seg d rows a zero state = refl
same_seg d rows a (suc n) state =
    same_step d (seg (nameless_flat d) rows a n state) (input (nameless_flat d) (rows (a + n)))
    ∙ ap₂ (step d) (same_seg d rows a n state) (same_input d (rows (a + n)))

module _ (names others : List (List ℕ)) (once : HasEachOnce names) (also : HasEachOnce others) where
  -- a row gives a name what a row of the same text gives its like
  one_value : {m n : ℕ} (x y : InputRow) → IsOneRow names others x y → IsOneName names others m n → value_in x m ≡ value_in y n
  one_value {m} {n} x y h k =
      sym (row_look names once x m h.here k.here) ∙ ap₂ value_of h.text k.text ∙ row_look others also y n h.there k.there

  one_values : (x y : InputRow) {ms ns : List ℕ} → IsOneRow names others x y → AreOneNames names others ms ns
      → map (value_in x) ms ≡ map (value_in y) ns
  one_values x y h no_names = refl
  one_values x y h (more_names k ks) = ap₂ (λ (v : ℕ) (vs : List ℕ). v ∷ vs) (one_value x y h k) (one_values x y h ks)

  module _ (m n : Design) (h : IsOneDesign names others m n) where
    pub one_inputs : (design_flat m).inputs ≡ (design_flat n).inputs
    one_inputs = ap (λ (d : Flat). d.inputs) h.flat

    pub one_registers : (design_flat m).registers ≡ (design_flat n).registers
    one_registers = ap (λ (d : Flat). d.registers) h.flat

    -- the numbers of its signals are below so many
    many : length (design_flat m).signals ≡ length m.linked.design.signals.items
    many = length-map m.linked.design.signals.items (signal_of m.linked.design.instances.rows.items)

    pub registers_below : IsTrue (are_below (design_flat m).registers (length (design_flat m).signals))
    registers_below = subst (λ (k : ℕ). IsTrue (are_below (design_flat m).registers k)) (sym many) m.linked.design.registers_there

    inputs_below : IsTrue (are_below (design_flat m).inputs (length (design_flat m).signals))
    inputs_below = subst (λ (k : ℕ). IsTrue (are_below (design_flat m).inputs k)) (sym many) m.linked.design.inputs_there

    one_input_names : AreOneNames names others (input_names (design_flat m)) (input_names (design_flat n))
    one_input_names =
        subst (λ (ss : List ℕ). AreOneNames names others (input_names (design_flat m)) (map (name_at (design_flat n)) ss)) one_inputs
        (names_at names others (design_flat m) (design_flat n) h.signals (design_flat m).inputs inputs_below)

    given_alike : {xs ys : List InputRow} → AreOneRows names others xs ys → (t : ℕ) → values_at (design_flat m) xs t ≡ values_at (design_flat n) ys t
    given_alike no_rows t = refl
    given_alike (more_rows {x = x} {y = y} k ks) zero = one_values x y k one_input_names
    given_alike (more_rows k ks) (suc t) = given_alike ks t

    pub widths_alike : register_widths (design_flat m) ≡ register_widths (design_flat n)
    widths_alike = sym (same_registers (design_flat m)) ∙ ap register_widths h.flat ∙ same_registers (design_flat n)

    pub start_alike : reset_of (design_flat m) ≡ reset_of (design_flat n)
    start_alike =
        ap₂ paired widths_alike (sym (same_reset (design_flat m)) ∙ ap reset h.flat ∙ same_reset (design_flat n))

    seg_alike : (rows given : ℕ → List ℕ) → rows ≡ given → (count : ℕ) (state : List ℕ)
        → seg (design_flat m) rows 0 count state ≡ seg (design_flat n) given 0 count state
    seg_alike rows given are count state =
        sym (same_seg (design_flat m) rows 0 count state) ∙ ap₂ (λ (d : Flat) (r : ℕ → List ℕ). seg d r 0 count state) h.flat are
        ∙ same_seg (design_flat n) given 0 count state

    driven_alike : (xs ys : List InputRow) → AreOneRows names others xs ys → (state : List ℕ)
        → driven (design_flat m) xs state ≡ driven (design_flat n) ys state
    driven_alike xs ys k state =
        seg_alike (values_at (design_flat m) xs) (values_at (design_flat n) ys) (fun_ext (λ (t : ℕ). given_alike k t)) (length xs) state
        ∙ ap (λ (count : ℕ). seg (design_flat n) (values_at (design_flat n) ys) 0 count state) (rows_many names others k)

    pub run_alike : {xs ys : List InputRow} → AreOneRows names others xs ys → (s : State) → run_of (design_flat m) xs s ≡ run_of (design_flat n) ys s
    run_alike no_rows s = refl
    run_alike (more_rows {x = x} {y = y} {xs = xs} {ys = ys} k ks) s =
        ap₂ paired widths_alike (driven_alike (x ∷ xs) (y ∷ ys) (more_rows k ks) (state_values s))

    -- between two cycles of a record
    pub between_alike : (xs ys : List InputRow) → AreOneRows names others xs ys → (a b : ℕ) (s : State)
        → kit.seg m (slice xs a b) s ≡ kit.seg n (slice ys a b) s
    between_alike xs ys k a b s = run_alike (rows_slice names others a b k) s

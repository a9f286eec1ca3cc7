-- The names in a design that files come to: they are names of the table, each signal has one, and the data inputs are signals.
use Rattle.std.proofs.Common.{◌≡◌, ◌∙◌, ℕ, zero, suc, ◌+◌, ◌^◌, ◌%◌, ◌<◌, Bool, true, false, cond, List, [], ◌∷◌, ◌++◌, All, length, map, ap, arith}
use Rattle.std.specs.Prelude.{Option, Ok}
use Rattle.std.proofs.lemmas.List.{length-append, length-map}
use Rattle.std.proofs.lemmas.List.Elements.{All-nil, All-cons, All-head, All-tail, All-append, All-map, All-weaker}
use Rattle.ls_text.specs.declared.name_id.NameId.{NameId}
use Rattle.ls_text.specs.declared.source_file.SourceFile.{SourceFile}
use Rattle.ls_text.specs.Texts.{Grows, HasEachOnce}
use Rattle.ls_text.proofs.Growth.{grown_id, grows_on}
use Rattle.typed_ir.specs.Cycles.{Signal, Flat}
use Rattle.typed_ir.specs.Trees.{signal_there}
use Rattle.gen_unroll.specs.Signals.{NamedSignal}
use Rattle.gen_unroll.specs.UnitLists.{is_data_input, data_inputs_from, called_by, names_behind, signal_called, unit_signals}
use Rattle.unit_build.specs.Building.{begins_with, with_initials}
use Rattle.unit_build.specs.Walks.{walk_initials}
use Rattle.statement_rules.specs.DeclaredValues.{InitialValue}
use Rattle.version_swap.specs.Copies.{ModuleCopy, Copies, Nothing, One, Where, inside, outside, from_each, all_places, place_in}
use Rattle.version_swap.specs.Flat.{writers_in, beginning_of, signals_of, inputs_of, flat}
use Rattle.version_swap.proofs.Kids.{initial_many, signals_many}
use Rattle.version_swap.proofs.Places.{stands_at}
use Rattle.version_swap.proofs.FlatTrees.{stands_all}
use Rattle.version_swap.specs.Plans as plans
use Rattle.version_swap.specs.Plans.{DesignOfTexts, Plans, AreCopies}
use Rattle.version_swap.proofs.FlatAlike.{IsSignalIn, flat_in}
use Rattle.version_swap.proofs.GrownFound.{found_here}
use Rattle.version_swap.proofs.JointTable.{begins_once}
use Rattle.version_swap.proofs.TwoPlans.{fixed}

-- ---- each signal has a name

abbrev pub IsCalled : Signal → Type 0
IsCalled x = 0 < length x.path

begun_called : (k value : ℕ) (xs : List Signal) → All IsCalled xs → All IsCalled (begins_with k value xs)
begun_called k value [] all = all
begun_called zero value (x ∷ xs) all =
    All-cons IsCalled (record x { initial = value % 2 ^ x.width }) xs (All-head IsCalled x xs all) (All-tail IsCalled x xs all)
begun_called (suc k) value (x ∷ xs) all =
    All-cons IsCalled x (begins_with k value xs) (All-head IsCalled x xs all) (begun_called k value xs (All-tail IsCalled x xs all))

initials_called : (vs : List InitialValue) (xs : List Signal) → All IsCalled xs → All IsCalled (with_initials vs xs)
initials_called [] xs all = all
initials_called (v ∷ vs) xs all = initials_called vs (begins_with v.signal v.value xs) (begun_called v.signal v.value xs all)

unit_called : (m : ℕ) (names : List NameId) (xs : List NamedSignal) → All IsCalled (unit_signals m names xs)
unit_called m names [] = All-nil IsCalled
unit_called m names (x ∷ xs) =
    All-cons IsCalled (signal_called m (called_by names x) x) (unit_signals m (names_behind names x) xs) (omega arith)
    (unit_called m (names_behind names x) xs)

there_called : (path : List ℕ) (xs : List Signal) → All IsCalled xs → All IsCalled (map (signal_there path) xs)
there_called path xs all =
    All-map IsCalled (signal_there path) xs
    (All-weaker IsCalled (λ (x : Signal). IsCalled (signal_there path x))
    (λ (x : Signal) (h : 0 < length x.path). omega (arith, h, length-append path x.path)) xs all)

own_called : (w : Where) (c : ModuleCopy) → All IsCalled (signals_of w c)
own_called w c =
    let named = unit_signals c.declaration.name.name.0 c.names c.table.signals in
    let initials = walk_initials (writers_in c) c.table.signals (beginning_of c) c.steps in
    there_called w.path (with_initials initials named)
    (initials_called initials named (unit_called c.declaration.name.name.0 c.names c.table.signals))

all_called : (w : Where) (k : ℕ) (copies : Copies) → All IsCalled (from_each signals_of w k copies)
all_called w k Nothing = All-nil IsCalled
all_called w k (One c within after) =
    let within_it = from_each signals_of (inside w k c) 0 within in
    let behind_it = from_each signals_of w (suc k) after in
    All-append IsCalled (signals_of (inside w k c) c) (within_it ++ behind_it) (own_called (inside w k c) c)
    (All-append IsCalled within_it behind_it (all_called (inside w k c) 0 within) (all_called w (suc k) after))

-- ---- the data inputs are signals

own_many : (w : Where) (c : ModuleCopy) → length (signals_of w c) ≡ length c.table.signals
own_many w c =
    let named = unit_signals c.declaration.name.name.0 c.names c.table.signals in
    let initials = walk_initials (writers_in c) c.table.signals (beginning_of c) c.steps in
    length-map (with_initials initials named) (signal_there w.path) ∙ initial_many initials named
    ∙ signals_many c.declaration.name.name.0 c.names c.table.signals

inputs_below : (count k : ℕ) (g : ℕ → ℕ) (clock : Option NameId) (xs : List NamedSignal)
    → ((s : ℕ) → s < k + length xs → g s < count) → All (λ (s : ℕ). s < count) (map g (data_inputs_from k clock xs))
inputs_below count k g clock [] below = All-nil (λ (s : ℕ). s < count)
inputs_below count k g clock (x ∷ xs) below =
    by (is_data_input clock x) (inputs_below count (suc k) g clock xs (λ (s : ℕ) (lt : s < suc k + length xs). below s (omega (arith, lt))))
  where
    by : (b : Bool) → All (λ (s : ℕ). s < count) (map g (data_inputs_from (suc k) clock xs))
        → All (λ (s : ℕ). s < count) (map g (cond b (k ∷ data_inputs_from (suc k) clock xs) (data_inputs_from (suc k) clock xs)))
    by true rest = All-cons (λ (s : ℕ). s < count) (g k) (map g (data_inputs_from (suc k) clock xs)) (below k (omega arith)) rest
    by false rest = rest

inputs_in : (copies : Copies)
    → All (λ (s : ℕ). s < length (from_each signals_of outside 0 copies)) (inputs_of (all_places copies) copies)
inputs_in Nothing = All-nil (λ (s : ℕ). s < 0)
inputs_in (One c within after) =
    let all = all_places (One c within after) in
    let signals = signals_of (inside outside 0 c) c in
    let rest = from_each signals_of (inside outside 0 c) 0 within ++ from_each signals_of outside 1 after in
    let many : length (signals ++ rest) ≡ length c.table.signals + length rest =
    length-append signals rest ∙ ap (λ (n : ℕ). n + length rest) (own_many (inside outside 0 c) c) in
    inputs_below (length (signals ++ rest)) 0 (place_in all (0 ∷ [])) c.clock c.table.signals
    (λ (s : ℕ) (lt : s < 0 + length c.table.signals).
    let inner : s < length c.table.signals = omega (arith, lt) in
    let place : place_in all (0 ∷ []) s ≡ 0 + s = stands_at all outside 0 0 c within after (stands_all (One c within after)) s inner in
    omega (arith, place, inner, many))

-- ---- a planned design

-- its names are of the table, each signal has one, and the data inputs are signals
pub record HasNames (names : List (List ℕ)) (design : Flat) : Type 0 where
  pub signals : All (IsSignalIn names) design.signals
  pub called : All IsCalled design.signals
  pub inputs : All (λ (s : ℕ). s < length design.signals) design.inputs

flat_called : (copies : Copies) → All IsCalled (flat copies).signals
unfolding flat
flat_called copies = all_called outside 0 copies

flat_inputs : (copies : Copies) → All (λ (s : ℕ). s < length (flat copies).signals) (flat copies).inputs
unfolding flat
flat_inputs copies = inputs_in copies

module _ (names : List (List ℕ)) (once : HasEachOnce names) (files : List SourceFile) (top : Option NameId) (clock : NameId) where
  copies_named : {words keys : List (List ℕ)} {copies : Copies} → AreCopies words files top clock keys copies → Grows words names
      → All (IsSignalIn names) (flat copies).signals
  copies_named {words} {keys} {copies} h grows =
      let own_once : HasEachOnce words = begins_once words names grows once in
      All-weaker (IsSignalIn words) (IsSignalIn names)
      (λ (x : Signal) (is : IsSignalIn words x).
      record {
        in_module = grown_id words names x.in_module grows is.in_module;
        path = All-weaker (λ (n : ℕ). n < length words) (λ (n : ℕ). n < length names)
            (λ (n : ℕ) (lt : n < length words). grown_id words names n grows lt) x.path is.path;
      })
      (flat copies).signals
      (flat_in own_once (found_here h.found own_once)
      (fixed h.found.has.modules words (grows_on h.found.texts h.found.known words h.found.grown h.found.grows)) copies h.are_copies)

  pub plan_names : (d : DesignOfTexts) → Plans names files top clock (Ok d) → HasNames names d.design
  plan_names d (plans.made {copies = copies} h grows linked small) = record {
    signals = copies_named h grows;
    called = flat_called copies;
    inputs = flat_inputs copies;
  }

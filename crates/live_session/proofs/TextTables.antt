-- A design without names runs as with them, its table is that of the names' texts, and its inputs are those that these texts call.
use Rattle.std.proofs.Common.{◌≡◌, ◌∙◌, ℕ, zero, suc, ◌+◌, ◌<◌, Bool, eqb, cond, List, [], ◌∷◌, ◌++◌, map, length, All, refl, sym, ap, ap₂, arith}
use Rattle.std.specs.Prelude.{Option, Some, Ok, codes, slice_index, slice_index_or}
use Rattle.std.proofs.Math.Logic.{∥∥₁_elim}
use Rattle.std.proofs.Math.Path.{fun_ext}
use Rattle.std.proofs.Props.{props}
use Rattle.std.proofs.lemmas.List.Elements.{All-nil, All-cons, All-head, All-tail}
use Rattle.ls_text.specs.declared.name_id.NameId.{NameId}
use Rattle.ls_text.specs.declared.source_file.SourceFile.{SourceFile}
use Rattle.ls_text.specs.Texts.{HasEachOnce, text_at}
use Rattle.ls_text.proofs.Tables.{one_text}
use Rattle.stimulus.specs.Rows.{value_in}
use Rattle.typed_ir.specs.Cycles.{Signal, Flat, width_at, cut_to, input, reset, seg, step, truth, wires}
use Rattle.typed_ir.specs.Orders.{at_or}
use Rattle.cycle_eval.specs.Inputs.{own_name, name_at, input_names, row_values, values_at, width_among, input_width_of}
use Rattle.version_swap.specs.OnePlan.{nameless, last_text, own_text, path_texts}
use Rattle.version_swap.specs.Plans.{DesignOfTexts, Plans}
use Rattle.version_swap.proofs.FlatAlike.{IsSignalIn}
use Rattle.version_swap.proofs.PlanNames.{HasNames, IsCalled, plan_names}
use Rattle.typed_ir.specs.Paths.{joined}
use Rattle.wave_report.specs.Tables.{shown_line, signal_line, signal_lines, table_text}
use Rattle.live_session.specs.Tables.{table_lines, true_registers}
use Rattle.live_session.specs.Rows.{given_at, row_of, value_of}
use Rattle.live_session.specs.Spelled.{dotted, nameless_flat, spelled, input_texts}
use Rattle.live_session.specs.Verdicts.{width_in, input_width}
use Rattle.live_session.proofs.AscendingRows.{AreWithin}
use Rattle.live_session.proofs.TextRows.{row_look}

-- ---- runs

abbrev widths : List Signal → List ℕ
widths xs = map (λ (x : Signal). x.width) xs

abbrev initials : List Signal → List ℕ
initials xs = map (λ (x : Signal). x.initial) xs

same_widths : (xs : List Signal) → widths (map nameless xs) ≡ widths xs
same_widths [] = refl
same_widths (x ∷ xs) = ap (λ (ws : List ℕ). x.width ∷ ws) (same_widths xs)

same_initials : (xs : List Signal) → initials (map nameless xs) ≡ initials xs
same_initials [] = refl
same_initials (x ∷ xs) = ap (λ (vs : List ℕ). x.initial ∷ vs) (same_initials xs)

same_input : (d : Flat) (row : List ℕ) → input (nameless_flat d) row ≡ input d row
same_input d row = ap (λ (ws : List ℕ). cut_to (map (λ (s : ℕ). slice_index ws s) d.inputs) row) (same_widths d.signals)

same_reset : (d : Flat) → reset (nameless_flat d) ≡ reset d
same_reset d = ap (λ (vs : List ℕ). map (λ (s : ℕ). slice_index vs s) d.registers) (same_initials d.signals)

same_step : (d : Flat) (state inputs : List ℕ) → step (nameless_flat d) state inputs ≡ step d state inputs
unfolding step wires
same_step d state inputs = refl

same_seg : (d : Flat) (rows : ℕ → List ℕ) (a n : ℕ) (state : List ℕ) → seg (nameless_flat d) rows a n state ≡ seg d rows a n state
same_seg d rows a zero state = refl
same_seg d rows a (suc n) state =
    same_step d (seg (nameless_flat d) rows a n state) (input (nameless_flat d) (rows (a + n)))
    ∙ ap₂ (step d) (same_seg d rows a n state) (same_input d (rows (a + n)))

pub truth_spelled : (d : Flat) (rows : ℕ → List ℕ) (c : ℕ) → truth (nameless_flat d) rows c ≡ truth d rows c
truth_spelled d rows c = same_seg d rows 0 c (reset (nameless_flat d)) ∙ ap (seg d rows 0 c) (same_reset d)

-- ---- tables

-- a path as it is written
joined_dotted : (names : List (List ℕ)) (path : List ℕ) → joined names path ≡ dotted (map (text_at names) path)
joined_dotted names [] = refl
joined_dotted names (n ∷ []) = refl
joined_dotted names (n ∷ m ∷ ns) = ap (λ (t : List ℕ). text_at names n ++ (codes "." ++ t)) (joined_dotted names (m ∷ ns))

-- the line of a register
same_line : (names : List (List ℕ)) (prefix : List ℕ) (value : ℕ) (xs : List Signal) (r : ℕ)
    → at_or (signal_line names prefix value) [] xs r
    ≡ at_or (λ (path : List (List ℕ)). shown_line prefix (dotted path) (slice_index (widths xs) r) value) [] (map (path_texts names) xs) r
same_line names prefix value [] r = refl
same_line names prefix value (x ∷ xs) zero = ap (λ (path : List ℕ). shown_line prefix path x.width value) (joined_dotted names x.path)
same_line names prefix value (x ∷ xs) (suc r) = same_line names prefix value xs r

same_lines : (names : List (List ℕ)) (prefix : List ℕ) (d : DesignOfTexts) (rs values : List ℕ)
    → signal_lines names prefix d.design.signals rs values ≡ table_lines (spelled names d) prefix rs values
same_lines names prefix d [] values = refl
same_lines names prefix d (r ∷ rs) [] = refl
same_lines names prefix d (r ∷ rs) (x ∷ xs) =
    ap₂ (λ (a b : List ℕ). a ++ b)
    (same_line names prefix x d.design.signals r
    ∙ ap (λ (ws : List ℕ). at_or (λ (path : List (List ℕ)). shown_line prefix (dotted path) (slice_index ws r) x) [] (spelled names d).paths r)
    (sym (same_widths d.design.signals)))
    (same_lines names prefix d rs xs)

pub table_spelled : (names : List (List ℕ)) (d : DesignOfTexts) (values prefix : List ℕ)
    → table_text names d.design values prefix ≡ table_lines (spelled names d) prefix d.design.registers values
unfolding table_text
table_spelled names d values prefix = same_lines names prefix d d.design.registers values

-- ---- the names of inputs

-- a text of its own is that of the last name
pub last_named : (names : List (List ℕ)) (path : List ℕ) → 0 < length path → last_text names path ≡ text_at names (own_name path)
last_named names [] some = absurd (omega (arith, some))
last_named names (n ∷ []) some = refl
last_named names (n ∷ m ∷ ns) some = last_named names (m ∷ ns) (omega arith)

pub last_within : (count : ℕ) (path : List ℕ) → 0 < length path → All (λ (n : ℕ). n < count) path → own_name path < count
last_within count [] some all = absurd (omega (arith, some))
last_within count (n ∷ []) some all = All-head (λ (m : ℕ). m < count) n [] all
last_within count (n ∷ m ∷ ns) some all = last_within count (m ∷ ns) (omega arith) (All-tail (λ (k : ℕ). k < count) n (m ∷ ns) all)

-- what a signal of the list is called
abbrev called_at : List Signal → ℕ → ℕ
called_at signals s = at_or (λ (x : Signal). own_name x.path) 0 signals s

own_named : (names : List (List ℕ)) (signals : List Signal) (s : ℕ) → All IsCalled signals → s < length signals
    → slice_index_or (map (own_text names) signals) s [] ≡ text_at names (called_at signals s)
own_named names [] s called lt = absurd (omega (arith, lt))
own_named names (x ∷ xs) zero called lt = last_named names x.path (All-head IsCalled x xs called)
own_named names (x ∷ xs) (suc s) called lt = own_named names xs s (All-tail IsCalled x xs called) (omega (arith, lt))

called_within : (names : List (List ℕ)) (signals : List Signal) (s : ℕ) → All IsCalled signals → All (IsSignalIn names) signals → s < length signals
    → called_at signals s < length names
called_within names [] s called within lt = absurd (omega (arith, lt))
called_within names (x ∷ xs) zero called within lt =
    last_within (length names) x.path (All-head IsCalled x xs called) (All-head (IsSignalIn names) x xs within).path
called_within names (x ∷ xs) (suc s) called within lt =
    called_within names xs s (All-tail IsCalled x xs called) (All-tail (IsSignalIn names) x xs within) (omega (arith, lt))

module _ (names : List (List ℕ)) (d : DesignOfTexts) (named : HasNames names d.design) where
  abbrev IsThere : ℕ → Type 0
  IsThere s = s < length d.design.signals

  own_at : (s : ℕ) → IsThere s → slice_index_or (spelled names d).own s [] ≡ text_at names (name_at d.design s)
  own_at s lt = own_named names d.design.signals s named.called lt

  name_within : (s : ℕ) → IsThere s → name_at d.design s < length names
  name_within s lt = called_within names d.design.signals s named.called named.signals lt

  -- the inputs of these numbers are called by the texts of their names
  inputs_named : (ss : List ℕ) → All IsThere ss
      → map (λ (s : ℕ). slice_index_or (spelled names d).own s []) ss ≡ map (text_at names) (map (name_at d.design) ss)
  inputs_named [] all = refl
  inputs_named (s ∷ ss) all =
      ap₂ (λ (t : List ℕ) (ts : List (List ℕ)). t ∷ ts) (own_at s (All-head IsThere s ss all)) (inputs_named ss (All-tail IsThere s ss all))

  names_within : (ss : List ℕ) → All IsThere ss → All (λ (n : ℕ). n < length names) (map (name_at d.design) ss)
  names_within [] all = All-nil (λ (n : ℕ). n < length names)
  names_within (s ∷ ss) all =
      All-cons (λ (n : ℕ). n < length names) (name_at d.design s) (map (name_at d.design) ss) (name_within s (All-head IsThere s ss all))
      (names_within ss (All-tail IsThere s ss all))

  inputs_called : input_texts (spelled names d) ≡ map (text_at names) (input_names d.design)
  inputs_called = inputs_named d.design.inputs named.inputs

  module _ (once : HasEachOnce names) where
    -- ---- what they are given

    looked : (row : List (ℕ × ℕ)) (ns : List ℕ) → AreWithin (length names) row → All (λ (n : ℕ). n < length names) ns
        → map (value_of (row_of names row)) (map (text_at names) ns) ≡ map (value_in row) ns
    looked row [] within all = refl
    looked row (n ∷ ns) within all =
        ap₂ (λ (v : ℕ) (vs : List ℕ). v ∷ vs) (row_look names once row n within (All-head (λ (m : ℕ). m < length names) n ns all))
        (looked row ns within (All-tail (λ (m : ℕ). m < length names) n ns all))

    row_given : (row : List (ℕ × ℕ)) → AreWithin (length names) row
        → map (value_of (row_of names row)) (input_texts (spelled names d)) ≡ row_values d.design row
    row_given row within =
        ap (map (value_of (row_of names row))) inputs_called
        ∙ looked row (input_names d.design) within (names_within d.design.inputs named.inputs)

    pub given_spelled : (rows : List (List (ℕ × ℕ))) (t : ℕ) → All (AreWithin (length names)) rows
        → given_at (input_texts (spelled names d)) (map (row_of names) rows) t ≡ values_at d.design rows t
    given_spelled [] t within = refl
    given_spelled (row ∷ rows) zero within = row_given row (All-head (AreWithin (length names)) row rows within)
    given_spelled (row ∷ rows) (suc t) within = given_spelled rows t (All-tail (AreWithin (length names)) row rows within)

    -- the true registers of a design and of what is spelled of it
    registers_named : (rows : List (List (ℕ × ℕ))) (c : ℕ) → All (AreWithin (length names)) rows
        → true_registers (spelled names d) (map (row_of names) rows) c ≡ truth d.design (values_at d.design rows) c
    registers_named rows c within =
        truth_spelled d.design (given_at (input_texts (spelled names d)) (map (row_of names) rows)) c
        ∙ ap (λ (given : ℕ → List ℕ). truth d.design given c) (fun_ext (λ (t : ℕ). given_spelled rows t within))

    -- ---- their widths

    widths_named : (ss : List ℕ) (id : ℕ) → All IsThere ss → id < length names
        → width_in (map (text_at names) (map (name_at d.design) ss)) (map (width_at (spelled names d).flat) ss) (text_at names id)
        ≡ width_among d.design ss id
    widths_named [] id all lt = refl
    widths_named (s ∷ ss) id all lt =
        ap₂ (λ (b : Bool) (ws : List ℕ). cond b (Some (slice_index ws s))
        (width_in (map (text_at names) (map (name_at d.design) ss)) (map (width_at (spelled names d).flat) ss) (text_at names id)))
        (one_text names once (name_at d.design s) id (name_within s (All-head IsThere s ss all)) lt) (same_widths d.design.signals)
        ∙ ap (cond (eqb (name_at d.design s) id) (Some (width_at d.design s))) (widths_named ss id (All-tail IsThere s ss all) lt)

    width_named : (id : ℕ) → id < length names → input_width (spelled names d) (text_at names id) ≡ input_width_of d.design id
    width_named id lt =
        ap (λ (ts : List (List ℕ)). width_in ts (map (width_at (spelled names d).flat) d.design.inputs) (text_at names id)) inputs_called
        ∙ widths_named d.design.inputs id named.inputs lt

-- ---- designs that files come to

module _ (names : List (List ℕ)) (once : HasEachOnce names) (files : List SourceFile) (top : Option NameId) (clock : NameId) (d : DesignOfTexts)
    (plan : ∥ Plans names files top clock (Ok d) ∥₁) where
  pub true_spelled : (rows : List (List (ℕ × ℕ))) (c : ℕ) → All (AreWithin (length names)) rows
      → true_registers (spelled names d) (map (row_of names) rows) c ≡ truth d.design (values_at d.design rows) c
  true_spelled rows c within =
      ∥∥₁_elim plan (hlevel props) (λ h. registers_named names d (plan_names names once files top clock d h) once rows c within)

  pub width_spelled : (id : ℕ) → id < length names → input_width (spelled names d) (text_at names id) ≡ input_width_of d.design id
  width_spelled id lt =
      ∥∥₁_elim plan (hlevel props) (λ h. width_named names d (plan_names names once files top clock d h) once id lt)

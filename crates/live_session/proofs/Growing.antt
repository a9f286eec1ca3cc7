-- A table of names that has grown gives the same texts, rows, files and designs for what had names before.
use Rattle.std.proofs.Common.{◌≡◌, ◌∙◌, ℕ, ◌<◌, List, [], ◌∷◌, map, length, All, refl, ap, ap₂}
use Rattle.std.specs.Prelude.{Option, Some, None, Ok, IfSome}
use Rattle.std.specs.Option.{option_map}
use Rattle.std.proofs.Math.Logic.{∥∥₁_elim, ∥∥₁_prop}
use Rattle.std.proofs.Props.{props}
use Rattle.std.proofs.lemmas.List.Elements.{All-head, All-tail, All-weaker}
use Rattle.ls_text.specs.declared.name_id.NameId.{NameId}
use Rattle.ls_text.specs.declared.source_file.SourceFile.{SourceFile}
use Rattle.ls_text.specs.Texts.{Grows, HasEachOnce, text_at}
use Rattle.ls_text.proofs.Growth.{grown_id, grown_text, grows_on}
use Rattle.command_read.specs.Spoken.{IsWithin}
use Rattle.command_read.proofs.Grown.{still_some}
use Rattle.module_registry.specs.Entries.{Entry}
use Rattle.stimulus.specs.Records.{rows_of}
use Rattle.version_swap.specs.Behind.{design_of}
use Rattle.version_swap.specs.OnePlan.{IsSameName, IsSameTop, IsSameDesign}
use Rattle.version_swap.specs.Plans as plans
use Rattle.version_swap.specs.Plans.{DesignOfTexts, Plans}
use Rattle.version_swap.proofs.PlansAreOne.{plans_one}
use Rattle.live_session.specs.Files.{TextFile, text_file}
use Rattle.live_session.specs.Rows.{Row, row_of, with_value}
use Rattle.live_session.specs.Kept.{AreNamed, IsKept}
use Rattle.live_session.specs.Sessions.{running_world, world_of, held_texts}
use Rattle.live_session.specs.Spelled.{Spelled, spelled}
use Rattle.live_session.specs.Worlds.{World}
use Rattle.live_session.specs.declared.limits.Limits.{Limits}
use Rattle.live_session.specs.declared.running.Running.{Running}
use Rattle.live_session.proofs.AscendingRows.{AreWithin}
use Rattle.live_session.proofs.SpelledAlike.{one_spelled}
use Rattle.live_session.proofs.TextFiles.{AreSourcesWithin}

module _ (old new : List (List ℕ)) (grows : Grows old new) where
  -- ---- texts, rows and files

  pub row_grown : (row : List (ℕ × ℕ)) → AreWithin (length old) row → row_of new row ≡ row_of old row
  row_grown [] within = refl
  row_grown (x ∷ xs) within =
      ap₂ (λ (r : Row) (t : List ℕ). with_value r t x.1)
      (row_grown xs (All-tail (λ (p : ℕ × ℕ). p.0 < length old) x xs within))
      (grown_text old new x.0 grows (All-head (λ (p : ℕ × ℕ). p.0 < length old) x xs within))

  pub rows_grown : (rows : List (List (ℕ × ℕ))) → All (AreWithin (length old)) rows → map (row_of new) rows ≡ map (row_of old) rows
  rows_grown [] within = refl
  rows_grown (row ∷ rows) within =
      ap₂ (λ (r : Row) (rs : List Row). r ∷ rs) (row_grown row (All-head (AreWithin (length old)) row rows within))
      (rows_grown rows (All-tail (AreWithin (length old)) row rows within))

  pub file_grown : (file : SourceFile) → file.name.0 < length old → text_file new file ≡ text_file old file
  file_grown file lt = ap (λ (t : List ℕ). record { name = t; text = file.text }) (grown_text old new file.name.0 grows lt)

  pub files_grown : (files : List SourceFile) → AreSourcesWithin (length old) files → map (text_file new) files ≡ map (text_file old) files
  files_grown [] within = refl
  files_grown (x ∷ xs) within =
      ap₂ (λ (f : TextFile) (fs : List TextFile). f ∷ fs) (file_grown x (All-head (λ (f : SourceFile). f.name.0 < length old) x xs within))
      (files_grown xs (All-tail (λ (f : SourceFile). f.name.0 < length old) x xs within))

  pub top_grown : (top : Option NameId) → IsWithin (length old) top
      → option_map (λ (id : NameId). text_at new id.0) top ≡ option_map (λ (id : NameId). text_at old id.0) top
  top_grown None within = refl
  top_grown (Some id) within = ap Some (grown_text old new id.0 grows within)

  -- ---- designs

  -- a plan stays one
  pub plans_grown : (files : List SourceFile) (top : Option NameId) (clock : NameId) (d : DesignOfTexts) → Plans old files top clock (Ok d)
      → Plans new files top clock (Ok d)
  plans_grown files top clock d (plans.made {words = words} h g linked small) = plans.made h (grows_on words old new g grows) linked small

  module _ (once : HasEachOnce old) (also : HasEachOnce new) (files : List SourceFile) (top : Option NameId) (clock : NameId)
      (top_within : IsWithin (length old) top) (clock_within : clock.0 < length old) where
    name_stays : (id : NameId) → id.0 < length old → IsSameName new old id id
    name_stays id lt = record { here = grown_id old new id.0 grows lt; there = lt; text = grown_text old new id.0 grows lt }

    top_stays : (name : Option NameId) → IsWithin (length old) name → IsSameTop new old name name
    top_stays None within = tt
    top_stays (Some id) within = name_stays id within

    design_stays : (d : DesignOfTexts) → Plans old files top clock (Ok d) → IsSameDesign new old d d
    design_stays d h =
        plans_one new old also once files files refl top top clock clock (top_stays top top_within) (name_stays clock clock_within)
        (Ok d) (Ok d) (plans_grown files top clock d h) h

    -- the design of a plan is spelled as before
    pub spelled_grown : (d : DesignOfTexts) → ∥ Plans old files top clock (Ok d) ∥₁ → spelled new d ≡ spelled old d
    spelled_grown d plan =
        one_spelled (spelled new d) (spelled old d) refl
        (∥∥₁_elim plan (hlevel props) (λ h. (design_stays d h).paths))
        (∥∥₁_elim plan (hlevel props) (λ h. (design_stays d h).own))
        (∥∥₁_elim plan (hlevel props) (λ h. (design_stays d h).modules))
        refl

  -- ---- worlds

  -- what runs, by its texts
  abbrev world_from : List Entry → (grid : List ℕ) → Running → List TextFile → Option (List ℕ) → (clock : List ℕ) → Spelled → Row → List Row → World
  world_from entries grid r files top clock design row rows = record {
    files = files;
    top = top;
    clock = clock;
    version = r.version.value.number;
    design = Some design;
    row = row;
    record_ = rows;
    grid = grid;
    held = held_texts entries;
    charge = r.charge;
  }

  module _ (once : HasEachOnce old) (also : HasEachOnce new) (entries : List Entry) (grid : List ℕ) (r : Running)
      (files : AreSourcesWithin (length old) r.texts.files) (top : IsWithin (length old) r.texts.top) (clock : r.texts.clock.0 < length old)
      (row : AreWithin (length old) r.row.value) (rows : All (AreWithin (length old)) (rows_of r.record_))
      (plan : ∥ Plans old r.texts.files r.texts.top r.texts.clock (Ok (design_of r.version.value.machine.value r.keys)) ∥₁) where
    -- what runs is as before
    pub world_grown : world_of new entries grid r ≡ world_of old entries grid r
    world_grown =
        ap₂ (λ (fs : List TextFile) (t : Option (List ℕ)). world_from entries grid r fs t (text_at new r.texts.clock.0)
        (spelled new (design_of r.version.value.machine.value r.keys)) (row_of new r.row.value) (map (row_of new) (rows_of r.record_)))
        (files_grown r.texts.files files) (top_grown r.texts.top top)
        ∙ ap₂ (λ (c : List ℕ) (d : Spelled). world_from entries grid r (map (text_file old) r.texts.files)
        (option_map (λ (id : NameId). text_at old id.0) r.texts.top) c d (row_of new r.row.value) (map (row_of new) (rows_of r.record_)))
        (grown_text old new r.texts.clock.0 grows clock)
        (spelled_grown once also r.texts.files r.texts.top r.texts.clock top clock (design_of r.version.value.machine.value r.keys) plan)
        ∙ ap₂ (λ (x : Row) (xs : List Row). world_from entries grid r (map (text_file old) r.texts.files)
        (option_map (λ (id : NameId). text_at old id.0) r.texts.top) (text_at old r.texts.clock.0) (spelled old (design_of r.version.value.machine.value r.keys)) x xs)
        (row_grown r.row.value row) (rows_grown (rows_of r.record_) rows)

  -- ---- what a session keeps

  -- the names of what runs are names of the later table
  named_grown : (r : Running) → AreNamed (length old) r → AreNamed (length new) r
  named_grown r h = record {
    files = All-weaker (λ (f : SourceFile). f.name.0 < length old) (λ (f : SourceFile). f.name.0 < length new)
        (λ (f : SourceFile) (lt : f.name.0 < length old). grown_id old new f.name.0 grows lt) r.texts.files h.files;
    top = still_some old new grows r.texts.top h.top;
    clock = grown_id old new r.texts.clock.0 grows h.clock;
    row = row_stays r.row.value h.row;
    rows = All-weaker (AreWithin (length old)) (AreWithin (length new)) row_stays (rows_of r.record_) h.rows;
  }
    where
      row_stays : (row : List (ℕ × ℕ)) → AreWithin (length old) row → AreWithin (length new) row
      row_stays row within =
          All-weaker (λ (p : ℕ × ℕ). p.0 < length old) (λ (p : ℕ × ℕ). p.0 < length new)
          (λ (p : ℕ × ℕ) (lt : p.0 < length old). grown_id old new p.0 grows lt) row within

  pub kept_grown : (limits : Limits) (r : Running) → IsKept old limits r → IsKept new limits r
  kept_grown limits r h = record {
    named = named_grown r h.named;
    plans = ∥∥₁_elim h.plans ∥∥₁_prop
        (λ plan. ∣ plans_grown r.texts.files r.texts.top r.texts.clock (design_of r.version.value.machine.value r.keys) plan ∣₁);
    digests = h.digests;
    short = h.short;
    charge = h.charge;
    stimulus = h.stimulus;
  }

  pub running_grown : HasEachOnce old → HasEachOnce new → (limits : Limits) (entries : List Entry) (grid : List ℕ) (running : Option Running)
      → IfSome running (IsKept old limits) → running_world new entries grid running ≡ running_world old entries grid running
  running_grown once also limits entries grid None h = refl
  running_grown once also limits entries grid (Some r) h =
      world_grown once also entries grid r h.named.files h.named.top h.named.clock h.named.row h.named.rows h.plans

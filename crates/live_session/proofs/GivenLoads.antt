-- Loads that gave texts, and what comes behind them.
use Rattle.std.proofs.Common.{◌≡◌, ◌∙◌, ℕ, suc, ◌+◌, ◌<◌, ◌≤◌, ◌||◌, Bool, true, false, cond, ltb, List, [], ◌∷◌, ◌++◌, map, take, drop, length, get_or, Result, Ok, Err, refl, sym, ap, ap₂, subst, append_assoc}
use Rattle.std.specs.Global.{Global}
use Rattle.std.specs.Prelude.{Vec}
use Rattle.std.specs.List.{All, AllZip, list_any}
use Rattle.std.specs.declared.option.Option.{Option}
use Rattle.std.specs.declared.option.Option.TheVariants.{Some, None}
use Rattle.std.proofs.lemmas.Bool.{le-ltb, lt-ltb}
use Rattle.std.proofs.lemmas.List.{append-nil, map-append, take_more, take-append-drop, take_all}
use Rattle.std.proofs.lemmas.List.Elements.{All-head, All-tail, All-nil, All-cons, All-drop}
use Rattle.ls_text.specs.Readings.{fault_view}
use Rattle.ls_text.specs.Texts.{text_at}
use Rattle.ls_text.specs.declared.at.At.TheVariants.{Line}
use Rattle.ls_text.specs.declared.fault.Fault.{Fault}
use Rattle.ls_text.specs.declared.name_id.NameId.{NameId}
use Rattle.ls_text.specs.declared.source_file.SourceFile.{SourceFile}
use Rattle.ls_port.specs.declared.shelf_answer.ShelfAnswer.{ShelfAnswer}
use Rattle.ls_port.specs.declared.shelf_answer.ShelfAnswer.TheVariants as shelf
use Rattle.ls_port.specs.Answers.{AddsAnswer, KeepsAnswers, ReadAdds}
use Rattle.ls_port.specs.declared.shelf_refusal.ShelfRefusal.{ShelfRefusal}
use Rattle.ls_port.specs.declared.shelf_refusal.ShelfRefusal.TheVariants as refusal
use Rattle.ls_port.specs.Causes.{HasShelfCause, Rose}
use Rattle.typed_ir.proofs.Lists.{drop_split}
use Rattle.command_read.specs.Asking.{LoadedFile}
use Rattle.command_read.specs.Spoken.{loaded_file, AreLoadsWithin}
use Rattle.command_read.specs.declared.load_line.LoadLine.{LoadLine}
use Rattle.live_session.specs.Files.{TextFile, text_file}
use Rattle.live_session.specs.Loads.{LoadAnswer, Gave, Broke, AddsAnswers, AreAnswers, AreToFirst, HasFailed, name_in, file_then, is_broken, loaded_files, shelf_answer, shelf_answers}
use Rattle.live_session.specs.Loaded.{ComesTo, Loses}
use Rattle.live_session.specs.Worlds.{Refused, refused_at, refused_text}
use Rattle.live_session.specs.declared.loads.Loads.TheVariants as loads

-- a file is what a load gave
pub record IsGiven (load : LoadLine) (file : SourceFile) : Type 0 where
  pub name : file.name ≡ load.name
  pub short : length file.text ≤ 4194304

abbrev pub gave : List SourceFile → List LoadAnswer
gave files = map (λ (f : SourceFile). Gave f.text) files

-- ---- answers that are added

pub none_added : (before : Option (List ShelfAnswer)) → AddsAnswers before before []
none_added None = tt
none_added (Some xs) = sym (append-nil xs)

-- and then one more
pub one_added : (before now later : Option (List ShelfAnswer)) (xs : List ShelfAnswer) (x : ShelfAnswer)
    → AddsAnswers before now xs → AddsAnswer now later x → AddsAnswers before later (xs ++ x ∷ [])
one_added None now later xs x adds one = tt
one_added (Some bs) None later xs x adds one = absurd adds
one_added (Some bs) (Some ns) None xs x adds one = absurd one
one_added (Some bs) (Some ns) (Some ls) xs x adds one =
    one ∙ ap (λ (l : List ShelfAnswer). l ++ x ∷ []) adds ∙ append_assoc bs xs (x ∷ [])

-- and none
pub still_added : (before now later : Option (List ShelfAnswer)) (xs : List ShelfAnswer) → AddsAnswers before now xs → KeepsAnswers now later
    → AddsAnswers before later xs
still_added None now later xs adds keeps = tt
still_added (Some bs) None later xs adds keeps = absurd adds
still_added (Some bs) (Some ns) None xs adds keeps = absurd keeps
still_added (Some bs) (Some ns) (Some ls) xs adds keeps = keeps ∙ adds

-- what a read of a shelf that failed added, and one without memory
module _ (old new : Option (List ShelfAnswer)) (r : Result (Vec ℕ Global) ShelfRefusal) (x : ShelfRefusal) (asked name : List ℕ)
    (named : asked ≡ name) (is : r ≡ Err x)
    (adds : ReadAdds old new r asked) where
  pub failed_adds : x ≡ refusal.Failed → AddsAnswer old new (shelf.Failed name)
  failed_adds which =
      subst (λ (n : List ℕ). AddsAnswer old new (shelf.Failed n)) named
      (subst (λ (q : Result (Vec ℕ Global) ShelfRefusal). ReadAdds old new q asked) (is ∙ ap Err which) adds)

  pub full_adds : x ≡ refusal.NoMemory → KeepsAnswers old new
  full_adds which = subst (λ (q : Result (Vec ℕ Global) ShelfRefusal). ReadAdds old new q asked) (is ∙ ap Err which) adds

pub failed_rose : (faults count : ℕ) (r : Result (Vec ℕ Global) ShelfRefusal) (x : ShelfRefusal) → r ≡ Err x → x ≡ refusal.Failed
    → HasShelfCause faults count r → Rose faults count
failed_rose faults count r x is which cause =
    let h : HasShelfCause faults count (Err refusal.Failed) =
    subst (λ (q : Result (Vec ℕ Global) ShelfRefusal). HasShelfCause faults count q) (is ∙ ap Err which) cause in
    h.failed refl

-- ---- lists of loads

abbrev nothing : List LoadAnswer
nothing = []

abbrev no_more : List ShelfAnswer
no_more = []

abbrev tested : Bool → Type 0 → Type 0 → Type 0
tested t x y = cond t x y

module _ (names : List (List ℕ)) where
  -- a text that isn't too long is answered, and then what comes behind
  pub along : (front rest : List LoadLine) (files : List SourceFile) (answers : List LoadAnswer) → AllZip IsGiven front files
      → AreAnswers (map (loaded_file names) rest) answers → AreAnswers (map (loaded_file names) (front ++ rest)) (gave files ++ answers)
  along [] rest [] answers given are = are
  along [] rest (f ∷ files) answers given are = absurd given
  along (l ∷ front) rest [] answers given are = absurd given
  along (l ∷ front) rest (f ∷ files) answers given are =
      subst (λ (t : Bool). tested t (gave files ++ answers ≡ []) (AreAnswers (map (loaded_file names) (front ++ rest)) (gave files ++ answers)))
      (sym (le-ltb 4194304 (length f.text) given.0.short)) (along front rest files answers given.1 are)

  -- these files before others
  abbrev put_before : List TextFile → Result (List TextFile) Refused → Result (List TextFile) Refused
  put_before [] found = found
  put_before (f ∷ files) found = file_then f (put_before files found)

  before_files : (files others : List TextFile) → put_before files (Ok others) ≡ Ok (files ++ others)
  before_files [] others = refl
  before_files (f ∷ files) others = ap (file_then f) (before_files files others)

  before_none : (files : List TextFile) (refused : Refused) → put_before files (Err refused) ≡ Err refused
  before_none [] refused = refl
  before_none (f ∷ files) refused = ap (file_then f) (before_none files refused)

  pub files_along : (front rest : List LoadLine) (files : List SourceFile) (answers : List LoadAnswer) → AllZip IsGiven front files
      → loaded_files (map (loaded_file names) (front ++ rest)) (gave files ++ answers) ≡ put_before (map (text_file names) files)
      (loaded_files (map (loaded_file names) rest) answers)
  files_along [] rest [] answers given = refl
  files_along [] rest (f ∷ files) answers given = absurd given
  files_along (l ∷ front) rest [] answers given = absurd given
  files_along (l ∷ front) rest (f ∷ files) answers given =
      let more = loaded_files (map (loaded_file names) (front ++ rest)) (gave files ++ answers) in
      ap (λ (t : Bool). cond t (Err (refused_at 10 l.line (text_at names l.name.0 ∷ [])))
      (file_then (record { name = text_at names l.name.0; text = f.text }) more))
      (le-ltb 4194304 (length f.text) given.0.short)
      ∙ ap (λ (n : NameId). file_then (record { name = text_at names n.0; text = f.text }) more) (sym given.0.name)
      ∙ ap (file_then (text_file names f)) (files_along front rest files answers given.1)

  pub answers_along : (front rest : List LoadLine) (files : List SourceFile) (answers : List LoadAnswer) → AllZip IsGiven front files
      → shelf_answers (map (loaded_file names) (front ++ rest)) (gave files ++ answers)
      ≡ shelf_answers (map (loaded_file names) front) (gave files) ++ shelf_answers (map (loaded_file names) rest) answers
  answers_along [] rest [] answers given = refl
  answers_along [] rest (f ∷ files) answers given = absurd given
  answers_along (l ∷ front) rest [] answers given = absurd given
  answers_along (l ∷ front) rest (f ∷ files) answers given =
      ap (λ (more : List ShelfAnswer). shelf.Given (text_at names l.name.0) f.text ∷ more) (answers_along front rest files answers given.1)

  pub first_along : (front rest : List LoadLine) (files : List SourceFile) (more : List ShelfAnswer) → AllZip IsGiven front files
      → AreToFirst (map (loaded_file names) rest) more
      → AreToFirst (map (loaded_file names) (front ++ rest)) (shelf_answers (map (loaded_file names) front) (gave files) ++ more)
  first_along [] rest [] more given first = first
  first_along [] rest (f ∷ files) more given first = absurd given
  first_along (l ∷ front) rest [] more given first = absurd given
  first_along (l ∷ front) rest (f ∷ files) more given first =
      let later = shelf_answers (map (loaded_file names) front) (gave files) ++ more in (
        refl,
        subst (λ (t : Bool). tested t (later ≡ []) (AreToFirst (map (loaded_file names) (front ++ rest)) later))
            (sym (le-ltb 4194304 (length f.text) given.0.short)) (first_along front rest files more given.1 first),
      )

-- one answer is to the first load
one_to : (load : LoadedFile) (loads : List LoadedFile) (x : ShelfAnswer) → name_in x ≡ load.name → AreToFirst (load ∷ loads) (x ∷ [])
one_to load loads (shelf.Given name text) named = (named, by (ltb 4194304 (length text)))
  where
    by : (t : Bool) → tested t (no_more ≡ []) (AreToFirst loads no_more)
    by true = refl
    by false = tt
one_to load loads (shelf.Failed name) named = (named, refl)

no_answers : (lines : List LoadedFile) → shelf_answers lines [] ≡ []
no_answers [] = refl
no_answers (l ∷ lines) = refl

unbroken : (files : List SourceFile) (answers : List LoadAnswer) → list_any is_broken (gave files ++ answers) ≡ list_any is_broken answers
unbroken [] answers = refl
unbroken (f ∷ files) answers = unbroken files answers

as_many : (front : List LoadLine) (files : List SourceFile) → AllZip IsGiven front files → length files ≡ length front
as_many [] [] given = refl
as_many [] (f ∷ files) given = absurd given
as_many (l ∷ front) [] given = absurd given
as_many (l ∷ front) (f ∷ files) given = ap suc (as_many front files given.1)

all_named : (count : ℕ) (front : List LoadLine) (files : List SourceFile) → AllZip IsGiven front files → AreLoadsWithin count front
    → All (λ (f : SourceFile). f.name.0 < count) files
all_named count [] [] given within = All-nil (λ (f : SourceFile). f.name.0 < count)
all_named count [] (f ∷ files) given within = absurd given
all_named count (l ∷ front) [] given within = absurd given
all_named count (l ∷ front) (f ∷ files) given within =
    All-cons (λ (f : SourceFile). f.name.0 < count) f files
    (subst (λ (n : NameId). n.0 < count) (sym given.0.name) (All-head (λ (l : LoadLine). l.name.0 < count) l front within))
    (all_named count front files given.1 (All-tail (λ (l : LoadLine). l.name.0 < count) l front within))

all_short : (front : List LoadLine) (files : List SourceFile) → AllZip IsGiven front files → All (λ (f : SourceFile). length f.text ≤ 4194304) files
all_short [] [] given = All-nil (λ (f : SourceFile). length f.text ≤ 4194304)
all_short [] (f ∷ files) given = absurd given
all_short (l ∷ front) [] given = absurd given
all_short (l ∷ front) (f ∷ files) given =
    All-cons (λ (f : SourceFile). length f.text ≤ 4194304) f files given.0.short (all_short front files given.1)

one_zipped : (front : List LoadLine) (files : List SourceFile) (l : LoadLine) (f : SourceFile) → AllZip IsGiven front files → IsGiven l f
    → AllZip IsGiven (front ++ l ∷ []) (files ++ f ∷ [])
one_zipped [] [] l f given one = (one, tt)
one_zipped [] (g ∷ files) l f given one = absurd given
one_zipped (k ∷ front) [] l f given one = absurd given
one_zipped (k ∷ front) (g ∷ files) l f given one = (given.0, one_zipped front files l f given.1 one)

-- ---- a walk over loads

-- the loads before a place gave these files
pub record IsLoading (names : List (List ℕ)) (lines : List LoadLine) (i : ℕ) (files : List SourceFile) (before now : Option (List ShelfAnswer))
    (faults count : ℕ)
    : Type 0 where
  pub each : AllZip IsGiven (take i lines) files
  pub adds : AddsAnswers before now (shelf_answers (map (loaded_file names) (take i lines)) (gave files))
  pub same : count ≡ faults

pub begins : (names : List (List ℕ)) (lines : List LoadLine) (before : Option (List ShelfAnswer)) (faults : ℕ)
    → IsLoading names lines 0 [] before before faults faults
begins names lines before faults = record { each = tt; adds = none_added before; same = refl }

module _ (names : List (List ℕ)) (lines : List LoadLine) (i : ℕ) (files : List SourceFile) (before now later : Option (List ShelfAnswer))
    (faults count behind : ℕ)
    (d : LoadLine) (below : i < length lines) (h : IsLoading names lines i files before now faults count) where
  abbrev l : LoadLine
  l = get_or lines i d

  abbrev name : List ℕ
  name = text_at names l.name.0

  abbrev front : List LoadLine
  front = take i lines

  abbrev rest : List LoadLine
  rest = drop (i + 1) lines

  all_lines : front ++ l ∷ rest ≡ lines
  all_lines = ap (λ (ls : List LoadLine). front ++ ls) (sym (drop_split lines i d below)) ∙ take-append-drop i lines

  more_lines : take (i + 1) lines ≡ front ++ l ∷ []
  more_lines = take_more lines i d below

  -- one file more
  pub goes_on : (f : SourceFile) → f.name ≡ l.name → length f.text ≤ 4194304 → AddsAnswer now later (shelf.Given name f.text) → behind ≡ count
      → IsLoading names lines (i + 1) (files ++ f ∷ []) before later faults behind
  goes_on f named short adds same = record {
    each = subst (λ (ls : List LoadLine). AllZip IsGiven ls (files ++ f ∷ [])) (sym more_lines)
        (one_zipped front files l f h.each (record { name = named; short = short }));
    adds = subst (AddsAnswers before later)
        (sym (ap₂ (λ (ls : List LoadLine) (a : List LoadAnswer). shelf_answers (map (loaded_file names) ls) a) more_lines
        (map-append (λ (f : SourceFile). Gave f.text) files (f ∷ []))
        ∙ answers_along names front (l ∷ []) files (Gave f.text ∷ []) h.each))
        (one_added before now later (shelf_answers (map (loaded_file names) front) (gave files)) (shelf.Given name f.text) h.adds adds);
    same = same ∙ h.same;
  }

  module _ (within : AreLoadsWithin (length names) lines) where
    shows : l.name.0 < length names
    shows =
        All-head (λ (l : LoadLine). l.name.0 < length names) l rest
        (subst (AreLoadsWithin (length names)) (drop_split lines i d below) (All-drop (λ (l : LoadLine). l.name.0 < length names) i lines within))

    -- a fault of this load, by what the shelf answered to it
    fault_comes : (a : LoadAnswer) (x : ShelfAnswer) (code : ℕ) (fault : Fault)
        → AreAnswers (loaded_file names l ∷ map (loaded_file names) rest) (a ∷ [])
        → loaded_files (loaded_file names l ∷ map (loaded_file names) rest) (a ∷ []) ≡ Err (refused_at code l.line (name ∷ []))
        → shelf_answer (loaded_file names l) a ≡ x
        → AddsAnswer now later x → HasFailed (is_broken a || false) faults behind
        → fault ≡ record { code = code; at = Line l.line; names = l.name ∷ [] }
        → ComesTo names lines before later faults behind (loads.Refused fault)
    fault_comes a x code fault are comes answers adds cause is_fault = record {
      answers = gave files ++ a ∷ [];
      right = subst (λ (ls : List LoadLine). AreAnswers (map (loaded_file names) ls) (gave files ++ a ∷ [])) all_lines
          (along names front (l ∷ rest) files (a ∷ []) h.each are);
      adds = subst (AddsAnswers before later)
          (sym (ap (λ (ls : List LoadLine). shelf_answers (map (loaded_file names) ls) (gave files ++ a ∷ [])) (sym all_lines)
          ∙ answers_along names front (l ∷ rest) files (a ∷ []) h.each
          ∙ ap₂ (λ (y : ShelfAnswer) (ys : List ShelfAnswer). shelf_answers (map (loaded_file names) front) (gave files) ++ y ∷ ys) answers
          (no_answers (map (loaded_file names) rest))))
          (one_added before now later (shelf_answers (map (loaded_file names) front) (gave files)) x h.adds adds);
      cause = subst (λ (t : Bool). HasFailed t faults behind) (sym (unbroken files (a ∷ []))) cause;
      comes = ap (λ (ls : List LoadLine). loaded_files (map (loaded_file names) ls) (gave files ++ a ∷ [])) (sym all_lines)
          ∙ files_along names front (l ∷ rest) files (a ∷ []) h.each
          ∙ ap (put_before names (map (text_file names) files)) comes
          ∙ before_none names (map (text_file names) files) (refused_at code l.line (name ∷ []))
          ∙ ap (λ (f : Fault). Err (refused_text [] 0 (fault_view names f))) (sym is_fault);
      usable = subst (λ (f : Fault). All (λ (id : NameId). id.0 < length names) f.names) (sym is_fault)
          (All-cons (λ (id : NameId). id.0 < length names) l.name [] shows (All-nil (λ (id : NameId). id.0 < length names)));
    }

    pub broke : (fault : Fault) → AddsAnswer now later (shelf.Failed name) → Rose count behind
        → fault ≡ record { code = 67; at = Line l.line; names = l.name ∷ [] } → ComesTo names lines before later faults behind (loads.Refused fault)
    broke fault adds rose is_fault =
        fault_comes Broke (shelf.Failed name) 67 fault refl refl refl adds (subst (λ (n : ℕ). Rose n behind) h.same rose) is_fault

    pub too_long : (fault : Fault) (text : List ℕ) → 4194304 < length text → AddsAnswer now later (shelf.Given name text) → behind ≡ count
        → fault ≡ record { code = 10; at = Line l.line; names = l.name ∷ [] } → ComesTo names lines before later faults behind (loads.Refused fault)
    too_long fault text long adds same is_fault =
        let test : ltb 4194304 (length text) ≡ true = lt-ltb 4194304 (length text) long in
        let more = AreAnswers (map (loaded_file names) rest) [] in
        fault_comes (Gave text) (shelf.Given name text) 10 fault (subst (λ (t : Bool). tested t ([] ≡ nothing) more) (sym test) refl)
        (ap (λ (t : Bool). cond t (Err (refused_at 10 l.line (name ∷ [])))
        (file_then (record { name = name; text = text }) (loaded_files (map (loaded_file names) rest) []))) test)
        refl adds (same ∙ h.same) is_fault

  -- it came to nothing at this load
  pub lost : (x : ShelfAnswer) → name_in x ≡ name → AddsAnswer now later x → Loses (map (loaded_file names) lines) before later
  lost x named adds = record {
    more = shelf_answers (map (loaded_file names) front) (gave files) ++ x ∷ [];
    adds = one_added before now later (shelf_answers (map (loaded_file names) front) (gave files)) x h.adds adds;
    first = subst (λ (ls : List LoadLine). AreToFirst (map (loaded_file names) ls)
        (shelf_answers (map (loaded_file names) front) (gave files) ++ x ∷ [])) all_lines
        (first_along names front (l ∷ rest) files (x ∷ []) h.each (one_to (loaded_file names l) (map (loaded_file names) rest) x named));
  }

  pub lost_before : KeepsAnswers now later → Loses (map (loaded_file names) lines) before later
  lost_before keeps = record {
    more = shelf_answers (map (loaded_file names) front) (gave files) ++ [];
    adds = subst (AddsAnswers before later) (sym (append-nil (shelf_answers (map (loaded_file names) front) (gave files))))
        (still_added before now later (shelf_answers (map (loaded_file names) front) (gave files)) h.adds keeps);
    first = subst (λ (ls : List LoadLine). AreToFirst (map (loaded_file names) ls) (shelf_answers (map (loaded_file names) front) (gave files) ++ []))
        all_lines
        (first_along names front (l ∷ rest) files [] h.each tt);
  }

pub all_given : (names : List (List ℕ)) (lines : List LoadLine) (i : ℕ) (files : Vec SourceFile Global) (before now : Option (List ShelfAnswer))
    (faults count : ℕ)
    → length lines ≤ i → AreLoadsWithin (length names) lines → IsLoading names lines i files.items before now faults count
    → ComesTo names lines before now faults count (loads.Given files)
all_given names lines i files before now faults count end within h =
    record {
      answers = gave files.items ++ [];
      right = subst (λ (ls : List LoadLine). AreAnswers (map (loaded_file names) ls) (gave files.items ++ [])) (append-nil lines)
          (along names lines [] files.items [] each refl);
      adds = subst (AddsAnswers before now)
          (sym (ap (λ (a : List LoadAnswer). shelf_answers (map (loaded_file names) lines) a) (append-nil (gave files.items))))
          (subst (λ (ls : List LoadLine). AddsAnswers before now (shelf_answers (map (loaded_file names) ls) (gave files.items))) whole h.adds);
      cause = subst (λ (t : Bool). HasFailed t faults count) (sym (unbroken files.items [])) h.same;
      comes = ap (λ (ls : List LoadLine). loaded_files (map (loaded_file names) ls) (gave files.items ++ [])) (sym (append-nil lines))
          ∙ files_along names lines [] files.items [] each
          ∙ before_files names (map (text_file names) files.items) []
          ∙ ap Ok (append-nil (map (text_file names) files.items));
      usable = (all_named (length names) lines files.items each within, all_short lines files.items each, as_many lines files.items each);
    }
  where
    whole : take i lines ≡ lines
    whole = take_all i lines end

    each : AllZip IsGiven lines files.items
    each = subst (λ (ls : List LoadLine). AllZip IsGiven ls files.items) whole h.each

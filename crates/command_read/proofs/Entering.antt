-- Which files a block names already, and what a line adds to a block.
use Rattle.std.proofs.Common.{◌≡◌, ℕ, ◌<◌, Bool, true, false, eqb, cond, ◌||◌, List, [], ◌∷◌, ◌++◌, map, length, Ok, Err, Option, Some, None, refl, sym, ap, ◌∙◌, subst}
use Rattle.std.proofs.lemmas.List.Elements.{All-head, All-tail}
use Rattle.std.proofs.lemmas.List.{map-append}
use Rattle.std.specs.Option.{option_map}
use Rattle.std.specs.List.{list_any}
use Rattle.std.specs.Str.{bytes_eq}
use Rattle.ls_text.specs.Texts.{HasEachOnce, text_at}
use Rattle.ls_text.specs.declared.name_id.NameId.{NameId}
use Rattle.ls_text.proofs.Tables.{one_text}
use Rattle.command_read.specs.declared.file_line.FileLine.{FileLine}
use Rattle.command_read.specs.declared.load_line.LoadLine.{LoadLine}
use Rattle.command_read.specs.declared.block_line.BlockLine.{BlockLine}
use Rattle.command_read.specs.declared.block_line.BlockLine.TheVariants as said
use Rattle.command_read.specs.declared.draft.Draft.{Draft}
use Rattle.command_read.specs.declared.named_files.NamedFiles.{NamedFiles}
use Rattle.command_read.specs.declared.open_text.OpenText.{OpenText}
use Rattle.command_read.specs.Asking.{GivenFile, LoadedFile, fault_on}
use Rattle.command_read.specs.Blocks.{Reading, names_file, with_entry, with_load}
use Rattle.command_read.specs.Known.{is_known}
use Rattle.command_read.specs.Spoken.{given_file, loaded_file, drafted, entry, open_file, reading, AreFilesWithin, AreLoadsWithin, IsDraftWithin, IsEntryWithin}

module _ (names : List (List ℕ)) (once : HasEachOnce names) where
  given_same : (id : ℕ) (fs : List FileLine) → id < length names → AreFilesWithin (length names) fs
      → list_any (λ (f : GivenFile). bytes_eq (text_at names id) f.name) (map (given_file names) fs) ≡ list_any (λ (f : FileLine). eqb id f.file.name.0) fs
  given_same id [] within all = refl
  given_same id (f ∷ fs) within all =
      ap (λ b. b || list_any (λ (g : GivenFile). bytes_eq (text_at names id) g.name) (map (given_file names) fs))
      (one_text names once id f.file.name.0 within (All-head (λ (g : FileLine). g.file.name.0 < length names) f fs all))
      ∙ ap (λ b. eqb id f.file.name.0 || b) (given_same id fs within (All-tail (λ (g : FileLine). g.file.name.0 < length names) f fs all))

  loaded_same : (id : ℕ) (ls : List LoadLine) → id < length names → AreLoadsWithin (length names) ls
      → list_any (λ (f : LoadedFile). bytes_eq (text_at names id) f.name) (map (loaded_file names) ls) ≡ list_any (λ (l : LoadLine). eqb id l.name.0) ls
  loaded_same id [] within all = refl
  loaded_same id (f ∷ fs) within all =
      ap (λ b. b || list_any (λ (g : LoadedFile). bytes_eq (text_at names id) g.name) (map (loaded_file names) fs))
      (one_text names once id f.name.0 within (All-head (λ (g : LoadLine). g.name.0 < length names) f fs all))
      ∙ ap (λ b. eqb id f.name.0 || b) (loaded_same id fs within (All-tail (λ (g : LoadLine). g.name.0 < length names) f fs all))

  names_known : (d : Draft) (id : ℕ) → id < length names → IsDraftWithin (length names) d
      → names_file (drafted names d) (text_at names id) ≡ is_known id d.files.given.items d.files.loaded.items
  names_known d id within all =
      ap (λ b. b || list_any (λ (f : LoadedFile). bytes_eq (text_at names id) f.name) (map (loaded_file names) d.files.loaded.items))
      (given_same id d.files.given.items within all.given)
      ∙ ap (λ b. list_any (λ (f : FileLine). eqb id f.file.name.0) d.files.given.items || b) (loaded_same id d.files.loaded.items within all.loaded)

  module _ (d : Draft) (line : ℕ) (name : NameId) (s : BlockLine) (has : Bool) (all : IsDraftWithin (length names) d) (known : has ≡ is_known name.0 d.files.given.items d.files.loaded.items) where
    here : name.0 < length names → (b : Bool) → has ≡ b → names_file (drafted names d) (text_at names name.0) ≡ b
    here within b is = names_known d name.0 within all ∙ sym known ∙ is

    pub given_twice : s ≡ said.File name → IsEntryWithin (length names) s → has ≡ true
        → with_entry (drafted names d) line (entry names s) ≡ Err (fault_on 61 line (text_at names name.0 ∷ []))
    given_twice is within h =
        ap (λ t. with_entry (drafted names d) line (entry names t)) is
        ∙ ap (λ b. cond b (Err (fault_on 61 line (text_at names name.0 ∷ []))) (Ok (record { block = drafted names d; file = Some (record { line = line; name = text_at names name.0; text = [] }) })))
        (here (subst (IsEntryWithin (length names)) is within) true h)

    pub given_once : s ≡ said.File name → IsEntryWithin (length names) s → has ≡ false
        → with_entry (drafted names d) line (entry names s)
        ≡ Ok (record { block = drafted names d; file = Some (record { line = line; name = text_at names name.0; text = [] }) })
    given_once is within h =
        ap (λ t. with_entry (drafted names d) line (entry names t)) is
        ∙ ap (λ b. cond b (Err (fault_on 61 line (text_at names name.0 ∷ []))) (Ok (record { block = drafted names d; file = Some (record { line = line; name = text_at names name.0; text = [] }) })))
        (here (subst (IsEntryWithin (length names)) is within) false h)

    pub loaded_twice : s ≡ said.Load name → IsEntryWithin (length names) s → has ≡ true
        → with_entry (drafted names d) line (entry names s) ≡ Err (fault_on 61 line (text_at names name.0 ∷ []))
    loaded_twice is within h =
        ap (λ t. with_entry (drafted names d) line (entry names t)) is
        ∙ ap (λ b. cond b (Err (fault_on 61 line (text_at names name.0 ∷ []))) (Ok (record { block = with_load (drafted names d) (record { line = line; name = text_at names name.0 }); file = None })))
        (here (subst (IsEntryWithin (length names)) is within) true h)

    pub loaded_once : s ≡ said.Load name → IsEntryWithin (length names) s → has ≡ false
        → with_entry (drafted names d) line (entry names s)
        ≡ Ok (record { block = with_load (drafted names d) (record { line = line; name = text_at names name.0 }); file = None })
    loaded_once is within h =
        ap (λ t. with_entry (drafted names d) line (entry names t)) is
        ∙ ap (λ b. cond b (Err (fault_on 61 line (text_at names name.0 ∷ []))) (Ok (record { block = with_load (drafted names d) (record { line = line; name = text_at names name.0 }); file = None })))
        (here (subst (IsEntryWithin (length names)) is within) false h)

-- a file that is loaded, behind the others
pub load_added : (names : List (List ℕ)) (d : Draft) (files : NamedFiles) (load : LoadLine) → files.loaded.items ≡ d.files.loaded.items ++ load ∷ []
    → files.given.items ≡ d.files.given.items → d.text ≡ None
    → record { block = with_load (drafted names d) (loaded_file names load); file = None } ≡ reading names (record d { files = files })
load_added names d files load loaded given none =
    let shown : List GivenFile → List LoadedFile → Option OpenText → Reading = λ gs ls t. record { block = record (drafted names d) { files = gs; loads = ls }; file = option_map (open_file names) t } in
    let same_loads = ap (map (loaded_file names)) loaded ∙ map-append (loaded_file names) d.files.loaded.items (load ∷ []) in
    ap (λ t. shown (map (given_file names) d.files.given.items) (map (loaded_file names) d.files.loaded.items ++ loaded_file names load ∷ []) t) (sym none)
    ∙ ap (λ ls. shown (map (given_file names) d.files.given.items) ls d.text) (sym same_loads)
    ∙ ap (λ gs. shown (map (given_file names) gs) (map (loaded_file names) files.loaded.items) d.text) (sym given)

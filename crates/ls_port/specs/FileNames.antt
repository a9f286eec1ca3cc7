-- Names of files that stay below a folder.
use Rattle.std.specs.Prelude.{ℕ, Bool, ◌&&◌, ◌==◌, not, List, [], ◌∷◌, slice_index}
use Rattle.std.specs.List.{list_any, slice_split}
use Rattle.std.specs.Str.{bytes_eq}
use Rattle.ls_text.specs.FileNames.{is_file_name}

-- whether a part between slashes leads up: it is `..`
abbrev pub leads_up : List ℕ → Bool
leads_up part = bytes_eq part (46 ∷ 46 ∷ [])

-- whether one of the parts that slashes set apart leads up
unfoldable pub has_way_up : List ℕ → Bool
has_way_up name = list_any leads_up (slice_split (λ c. c == 47) name)

-- a file's name with no slash at its front and no part that leads up
unfoldable pub stays_below : List ℕ → Bool
stays_below name = is_file_name name && (not (slice_index name 0 == 47) && not (has_way_up name))

-- Stretches of the texts of files.
use Rattle.std.specs.Prelude.{ℕ, ◌-◌, ◌&&◌, nat_le, if◌then◌else◌, List, [], length, take, drop, Option, Some, None, slice_get}
use Rattle.ls_text.specs.declared.source_file.SourceFile.{SourceFile}

abbrev pub text_of : Option SourceFile → List ℕ
text_of None = []
text_of (Some file) = file.text

-- the bytes from start up to end of the file with that number; none where it has no such bytes
unfoldable pub text_between : List SourceFile → ℕ → ℕ → ℕ → List ℕ
text_between files file start end =
    let text = text_of (slice_get files file) in
    if nat_le start end && nat_le end (length text) then take (end - start) (drop start text) else []

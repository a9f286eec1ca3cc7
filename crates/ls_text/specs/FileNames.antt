-- The form of a file's name.
use Rattle.std.specs.Prelude.{ℕ, Bool, ◌&&◌, nat_le, List, length}
use Rattle.std.specs.List.{list_all}
use Rattle.ls_text.specs.Bytes.{is_file_byte}

-- 1 to 255 bytes of a file's name
unfoldable pub is_file_name : List ℕ → Bool
is_file_name name = nat_le 1 (length name) && (nat_le (length name) 255 && list_all is_file_byte name)

-- Writing replies.
use Rattle.std.specs.Prelude.{◌≡◌, ℕ, List, ◌++◌}
use Rattle.std.specs.declared.option.Option.{Option}
use Rattle.std.specs.Io.KnownBytes.{Appends}

-- of these bytes a front was written
pub record Writes (old new : Option (List ℕ)) (all : List ℕ) : Type 0 where
  pub front : List ℕ
  pub rest : List ℕ
  pub split : front ++ rest ≡ all
  pub appended : Appends old new front

-- Numbers of paths: a list of steps in which each path stands once, and the numbers that the instances of tables have by it.
use Rattle.std.specs.Prelude.{◌≡◌, ℕ, ◌<◌, ◌≤◌, ◌==◌, Bool, true, nat_lt, List, [], map, length, get_or, slice_get, slice_index, Option, Some, None, IsTrue}
use Rattle.typed_ir.specs.declared.instance_name.InstanceName.{InstanceName}
use Rattle.typed_ir.specs.Paths.{path_next, paths_of, same_path}
use Rattle.reg_transform.specs.declared.path_step.PathStep.{PathStep}

-- a step is an instance in the one that it goes on from
abbrev pub row_of : PathStep → InstanceName
row_of s = record { parent = s.before; name = s.name }

abbrev pub step_paths : List PathStep → List (List ℕ)
step_paths steps = paths_of (map row_of steps)

-- the path of a number
abbrev pub path_at : List PathStep → ℕ → List ℕ
path_at steps n = get_or (step_paths steps) n []

-- from nothing, or from one of so many
abbrev pub goes_on : ℕ → Option ℕ → Bool
goes_on count None = true
goes_on count (Some p) = nat_lt p count

-- by the numbers of the instances before
abbrev pub number_above : List ℕ → Option ℕ → Option ℕ
number_above numbers None = None
number_above numbers (Some p) = Some (slice_index numbers p)

-- each step goes on from one of the list, and no path stands twice
pub record IsPathTable (steps : List PathStep) : Type 0 where
  pub within : (j : ℕ) (s : PathStep) → slice_get steps j ≡ Some s → IsTrue (goes_on (length steps) s.before)
  pub next : (j : ℕ) (s : PathStep) → slice_get steps j ≡ Some s → path_at steps j ≡ path_next (step_paths steps) s.before s.name.0
  pub once : (i j : ℕ) → i < length steps → j < length steps → path_at steps i ≡ path_at steps j → i ≡ j

-- known paths keep their numbers
pub record Grows (old new : List PathStep) : Type 0 where
  pub longer : length old ≤ length new
  pub same : (n : ℕ) → n < length old → path_at new n ≡ path_at old n

-- the number of one more step
pub record IsNext (old new : List PathStep) (step : PathStep) (number : ℕ) : Type 0 where
  pub table : IsPathTable new
  pub grows : Grows old new
  pub within : number < length new
  pub path : path_at new number ≡ path_next (step_paths old) step.before step.name.0

-- numbers of these paths
pub record IsNumbered (steps : List PathStep) (numbers : List ℕ) (paths : List (List ℕ)) : Type 0 where
  pub within : (i : ℕ) → i < length numbers → get_or numbers i 0 < length steps
  pub paths_are : map (path_at steps) numbers ≡ paths

-- a number for each instance of two tables: the same where the path is the same
pub record NumberPaths (old : List ℕ) (old_rows : List InstanceName) (new : List ℕ) (new_rows : List InstanceName) : Type 0 where
  pub old_length : length old ≡ length old_rows
  pub new_length : length new ≡ length new_rows
  pub same : (i j : ℕ) → i < length old → j < length new
      → (get_or old i 0 == get_or new j 0) ≡ same_path (get_or (paths_of old_rows) i []) (get_or (paths_of new_rows) j [])

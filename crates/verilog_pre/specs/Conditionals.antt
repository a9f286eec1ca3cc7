-- Conditional compilation (IEEE 1364-2005, clause 19.4): the conditionals that are open, the outermost first.
use Rattle.std.specs.Prelude.{◌-◌, Bool, true, false, ◌==◌, if◌then◌else◌, List, [], ◌∷◌, ◌++◌, length, take, slice_get, Option, Some, None}
use Rattle.ls_text.specs.declared.place.Place.{Place}
use Rattle.verilog_pre.specs.declared.conditional.Conditional.{Conditional}
use Rattle.verilog_pre.specs.declared.branch.Branch.{Branch}
use Rattle.verilog_pre.specs.declared.branch.Branch.TheVariants.{Taken, Waiting, Past}

abbrev pub but_last : {A : Type 0} → List A → List A
but_last xs = take (length xs - 1) xs

abbrev pub innermost : List Conditional → Option Conditional
innermost nest = slice_get nest (length nest - 1)

abbrev pub is_taken : Branch → Bool
is_taken Taken = true
is_taken Waiting = false
is_taken Past = false

abbrev pub reads : Option Conditional → Bool
reads None = true
reads (Some c) = is_taken c.branch

-- whether text is read here, and not skipped
unfoldable pub is_read : List Conditional → Bool
is_read nest = reads (innermost nest)

-- a conditional in skipped text has no branch that is read
abbrev pub first_branch : Bool → Bool → Branch
first_branch read holds = if read then (if holds then Taken else Waiting) else Past

-- at most one branch is read, the first that holds
abbrev pub next_branch : Branch → Bool → Branch
next_branch Taken holds = Past
next_branch Waiting holds = if holds then Taken else Waiting
next_branch Past holds = Past

unfoldable pub opened : Place → Bool → Bool → List Conditional → List Conditional
opened at negated holds nest =
    nest ++ record { at = at; negated = negated; branch = first_branch (is_read nest) holds; closing = false } ∷ []

abbrev pub next_of : Bool → Bool → List Conditional → Option Conditional → Option (List Conditional)
next_of holds closing nest None = None
next_of holds closing nest (Some c) =
    if c.closing then None
    else Some (but_last nest ++ record { at = c.at; negated = c.negated; branch = next_branch c.branch holds; closing = closing } ∷ [])

-- the next branch of the innermost conditional, which hasn't had its `else`
unfoldable pub continued : Bool → Bool → List Conditional → Option (List Conditional)
continued holds closing nest = next_of holds closing nest (innermost nest)

unfoldable pub closed : List Conditional → Option (List Conditional)
closed nest = if length nest == 0 then None else Some (but_last nest)

-- Which branch of a conditional is read (IEEE 1364-2005, clause 19.4): of a first branch and the further ones, by whether the
-- text around the conditional is read and which conditions hold.
use Rattle.std.specs.Prelude.{Bool, false, ◌||◌, List, [], ◌∷◌}
use Rattle.verilog_pre.specs.declared.branch.Branch.{Branch}
use Rattle.verilog_pre.specs.Conditionals.{next_branch}

-- some condition holds
abbrev pub any : List Bool → Bool
any [] = false
any (c ∷ cs) = c || any cs

-- a branch, and then one for each of these conditions
abbrev pub branch_after : Branch → List Bool → Branch
branch_after b [] = b
branch_after b (c ∷ cs) = branch_after (next_branch b c) cs

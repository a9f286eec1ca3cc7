use Rattle.std.proofs.Common.{◌≡◌, ◌++◌}
use Rattle.version_swap.specs.FileViews.{files_of}
use Rattle.version_swap.proofs.files.listed.Given as goal

abbrev pub invariant-loop-name : goal.invariant-loop-name
invariant-loop-name l = l.all.items ++ files_of l.name-iterator ≡ files_of l.fn.files.entries

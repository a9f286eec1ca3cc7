use Rattle.std.proofs.Common.{◌≡◌, drop}
use Rattle.version_swap.specs.Files.{with_files}
use Rattle.version_swap.specs.FileViews.{files_of}
use Rattle.version_swap.proofs.files.add_all.Given as goal

-- those so far, and what is left
abbrev pub invariant-loop-file : goal.invariant-loop-file
invariant-loop-file l = with_files (files_of l.files.entries) (drop l.file-index l.more) ≡ with_files (files_of l.fn.files.entries) l.more

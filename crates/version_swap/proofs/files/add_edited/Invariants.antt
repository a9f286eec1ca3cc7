use Rattle.std.proofs.Common.{◌≡◌, drop, length}
use Rattle.version_swap.specs.Files.{in_line_order, with_files}
use Rattle.version_swap.specs.FileViews.{files_of}
use Rattle.version_swap.proofs.files.add_edited.Given as goal

-- each load has its text; those so far, and what is left
abbrev pub invariant-loop-one : goal.invariant-loop-one
invariant-loop-one l = record {
  paired : length l.texts ≡ length l.lines;
  rest : with_files (files_of l.files.entries) (in_line_order (drop l.one-index l.given) l.lines l.texts)
      ≡ with_files (files_of l.fn.files.entries) (in_line_order l.given l.loads l.loaded);
}

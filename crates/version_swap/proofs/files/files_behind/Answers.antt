use Rattle.std.proofs.Common.{◌≡◌, ◌∙◌, List, ap, ap₂}
use Rattle.std.proofs.lemmas.Result.{IfOk-weaker}
use Rattle.command_read.specs.declared.file_line.FileLine.{FileLine}
use Rattle.command_read.specs.declared.load_line.LoadLine.{LoadLine}
use Rattle.version_swap.specs.FileViews.{files_of}
use Rattle.version_swap.specs.Files.{in_line_order, with_files, files_behind}
use Rattle.version_swap.proofs.Ordered.{all_given}
use Rattle.version_swap.proofs.files.files_behind.Goals as goal

pub returns : goal.returns
returns c =
    let given = c.args.edit.now.files in
    let loads = c.args.edit.now.loads in
    let loaded = c.args.loaded.now in
    let middle = files_of c.add_all.new.files.entries in
    let end = files_of c.add_edited.new.files.entries in
    IfOk-weaker c.listed.result (λ all. all.items ≡ end) (λ all. all.items ≡ files_behind c.args.before.now given loads loaded)
    (λ all is. is ∙ all_given (files_of c.new-files.result.entries) middle end c.args.before.now given loads loaded
    (ap files_of c.new-files.ensures.empty) c.in_ok-add_all.ensures
    (c.in_ok-add_edited.ensures
    ∙ ap₂ (λ (gs : List FileLine) (ls : List LoadLine). with_files middle (in_line_order gs ls loaded)) c.as_slice.ensures c.as_slice-2.ensures))
    c.listed.ensures

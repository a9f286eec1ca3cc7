use Rattle.std.proofs.Common.{◌≡◌, ◌∙◌, ◌≤◌, ◌<◌, ◌+◌, ℕ, List, length, get_or, refl, sym, ap, subst, arith}
use Rattle.ls_port.specs.Answers.{AddsAnswer}
use Rattle.ls_port.specs.declared.shelf_answer.ShelfAnswer.TheVariants as shelf
use Rattle.ls_text.specs.declared.source_file.SourceFile.{SourceFile}
use Rattle.ls_text.specs.Texts.{text_at}
use Rattle.command_read.specs.declared.load_line.LoadLine.{LoadLine}
use Rattle.checkpoint_book.proofs.Draws.{when_err}
use Rattle.live_session.proofs.GivenLoads.{IsLoading, all_given, broke, failed_adds, failed_rose, full_adds, goes_on, lost, lost_before, too_long}
use Rattle.live_session.proofs.loading.loaded.Goals as goal

abbrev no_line : LoadLine
no_line = record { line = 0; name = record { 0 = 0 } }

pub returns-in-Err-NoMemory-clause-lost : goal.returns-in-Err-NoMemory-clause-lost
returns-in-Err-NoMemory-clause-lost g c =
    let i = c.loop-load.load-index in
    lost_before c.args.names.now c.args.loads.now i c.loop-load.files.items (g.F.Shelf.answers c.args.shelf.now) (g.F.Shelf.answers c.loop-load.shelf)
    (g.F.Shelf.answers c.read.new.self) (g.F.Shelf.faults c.args.shelf.now) (g.F.Shelf.faults c.loop-load.shelf) (g.F.Shelf.faults c.read.new.self)
    no_line c.loop-load-test.true c.loop-load.invariant
    (full_adds (g.F.Shelf.answers c.loop-load.shelf) (g.F.Shelf.answers c.read.new.self) c.read.result c.in-Err-NoMemory.field-0 c.text.result.now _
    refl
    c.in-Err-NoMemory.is c.read.ensures.added c.in-Err-NoMemory.field-0-is)

pub returns-in_err-named_fault-in-Err-Failed-clause-lost : goal.returns-in_err-named_fault-in-Err-Failed-clause-lost
returns-in_err-named_fault-in-Err-Failed-clause-lost g c =
    let i = c.loop-load.load-index in
    let name = text_at c.args.names.now (get_or c.args.loads.now i no_line).name.0 in
    when_err c.from_residual.result
    (lost c.args.names.now c.args.loads.now i c.loop-load.files.items (g.F.Shelf.answers c.args.shelf.now) (g.F.Shelf.answers c.loop-load.shelf)
    (g.F.Shelf.answers c.read.new.self) (g.F.Shelf.faults c.args.shelf.now) (g.F.Shelf.faults c.loop-load.shelf) (g.F.Shelf.faults c.read.new.self)
    no_line c.loop-load-test.true c.loop-load.invariant (shelf.Failed name) refl
    (failed_adds (g.F.Shelf.answers c.loop-load.shelf) (g.F.Shelf.answers c.read.new.self) c.read.result c.in-Err-Failed.field-0 c.text.result.now
    name
    c.text.ensures.text c.in-Err-Failed.is c.read.ensures.added c.in-Err-Failed.field-0-is))

pub returns-in-Err-Failed-clause-comes : goal.returns-in-Err-Failed-clause-comes
returns-in-Err-Failed-clause-comes g c =
    let i = c.loop-load.load-index in
    let name = text_at c.args.names.now (get_or c.args.loads.now i no_line).name.0 in
    broke c.args.names.now c.args.loads.now i c.loop-load.files.items (g.F.Shelf.answers c.args.shelf.now) (g.F.Shelf.answers c.loop-load.shelf)
    (g.F.Shelf.answers c.read.new.self) (g.F.Shelf.faults c.args.shelf.now) (g.F.Shelf.faults c.loop-load.shelf) (g.F.Shelf.faults c.read.new.self)
    no_line c.loop-load-test.true c.loop-load.invariant c.requires c.in_ok-named_fault-in-Err-Failed.field-0
    (failed_adds (g.F.Shelf.answers c.loop-load.shelf) (g.F.Shelf.answers c.read.new.self) c.read.result c.in-Err-Failed.field-0 c.text.result.now
    name
    c.text.ensures.text c.in-Err-Failed.is c.read.ensures.added c.in-Err-Failed.field-0-is)
    (failed_rose (g.F.Shelf.faults c.loop-load.shelf) (g.F.Shelf.faults c.read.new.self) c.read.result c.in-Err-Failed.field-0 c.in-Err-Failed.is
    c.in-Err-Failed.field-0-is c.read.ensures.cause)
    c.in_ok-named_fault-in-Err-Failed.ensures

pub returns-in_err-named_fault-in-Ok-clause-lost : goal.returns-in_err-named_fault-in-Ok-clause-lost
returns-in_err-named_fault-in-Ok-clause-lost g c =
    let i = c.loop-load.load-index in
    let name = text_at c.args.names.now (get_or c.args.loads.now i no_line).name.0 in
    when_err c.from_residual-in_err-named_fault-in-Ok.result
    (lost c.args.names.now c.args.loads.now i c.loop-load.files.items (g.F.Shelf.answers c.args.shelf.now) (g.F.Shelf.answers c.loop-load.shelf)
    (g.F.Shelf.answers c.read.new.self) (g.F.Shelf.faults c.args.shelf.now) (g.F.Shelf.faults c.loop-load.shelf) (g.F.Shelf.faults c.read.new.self)
    no_line c.loop-load-test.true c.loop-load.invariant (shelf.Given name c.in-Ok.text.items) refl
    (let h = c.in-Ok.ensures.added in rw c.text.ensures.text at h))

pub returns-in-Ok-clause-comes : goal.returns-in-Ok-clause-comes
returns-in-Ok-clause-comes g c =
    let i = c.loop-load.load-index in
    let long : 4194304 < length c.in-Ok.text.items = omega (arith, c.if-len-gt-MAX_TEXT.true, c.len.ensures) in
    too_long c.args.names.now c.args.loads.now i c.loop-load.files.items (g.F.Shelf.answers c.args.shelf.now) (g.F.Shelf.answers c.loop-load.shelf)
    (g.F.Shelf.answers c.read.new.self) (g.F.Shelf.faults c.args.shelf.now) (g.F.Shelf.faults c.loop-load.shelf) (g.F.Shelf.faults c.read.new.self)
    no_line c.loop-load-test.true c.loop-load.invariant c.requires c.in_ok-named_fault-in-Ok.field-0 c.in-Ok.text.items long
    (let h = c.in-Ok.ensures.added in rw c.text.ensures.text at h) c.in-Ok.ensures.cause.kept c.in_ok-named_fault-in-Ok.ensures

pub returns-in_err-push-in-Ok-2-clause-lost : goal.returns-in_err-push-in-Ok-2-clause-lost
returns-in_err-push-in-Ok-2-clause-lost g c =
    let i = c.loop-load.load-index in
    let name = text_at c.args.names.now (get_or c.args.loads.now i no_line).name.0 in
    when_err c.from_residual-in_err-push-in-Ok-2.result
    (lost c.args.names.now c.args.loads.now i c.loop-load.files.items (g.F.Shelf.answers c.args.shelf.now) (g.F.Shelf.answers c.loop-load.shelf)
    (g.F.Shelf.answers c.read.new.self) (g.F.Shelf.faults c.args.shelf.now) (g.F.Shelf.faults c.loop-load.shelf) (g.F.Shelf.faults c.read.new.self)
    no_line c.loop-load-test.true c.loop-load.invariant (shelf.Given name c.in-Ok-2.text.items) refl
    (let h = c.in-Ok-2.ensures.added in rw c.text.ensures.text at h))

pub loop-load-preserved : goal.loop-load-preserved
loop-load-preserved g c =
    let i = c.loop-load.load-index in
    let name = text_at c.args.names.now (get_or c.args.loads.now i no_line).name.0 in
    let file : SourceFile = record { name = (get_or c.args.loads.now i no_line).name; text = c.new.result } in
    let short : length c.new.result ≤ 4194304 = omega (arith, c.if-len-gt-MAX_TEXT.false, c.len.ensures, ap length c.new.ensures) in
    let adds = rw c.text.ensures.text at c.in-Ok-2.ensures.added in
    let same : c.new.result ≡ c.in-Ok-2.text.items = c.new.ensures ∙ ap (λ v. v.items) c.in-Ok-2.text-is in
    subst (λ (files : List SourceFile). IsLoading c.args.names.now c.args.loads.now (i + 1) files (g.F.Shelf.answers c.args.shelf.now)
    (g.F.Shelf.answers c.read.new.self)
    (g.F.Shelf.faults c.args.shelf.now) (g.F.Shelf.faults c.read.new.self)) (sym c.in_ok-push-in-Ok-2.ensures.items)
    (goes_on c.args.names.now c.args.loads.now i c.loop-load.files.items (g.F.Shelf.answers c.args.shelf.now) (g.F.Shelf.answers c.loop-load.shelf)
    (g.F.Shelf.answers c.read.new.self) (g.F.Shelf.faults c.args.shelf.now) (g.F.Shelf.faults c.loop-load.shelf) (g.F.Shelf.faults c.read.new.self)
    no_line c.loop-load-test.true c.loop-load.invariant file refl short
    (subst (λ (text : List ℕ). AddsAnswer (g.F.Shelf.answers c.loop-load.shelf) (g.F.Shelf.answers c.read.new.self) (shelf.Given name text))
    (sym same) adds)
    c.in-Ok-2.ensures.cause.kept)

pub returns-clause-comes : goal.returns-clause-comes
returns-clause-comes g c =
    all_given c.args.names.now c.args.loads.now c.loop-load.load-index c.loop-load.files (g.F.Shelf.answers c.args.shelf.now)
    (g.F.Shelf.answers c.loop-load.shelf)
    (g.F.Shelf.faults c.args.shelf.now) (g.F.Shelf.faults c.loop-load.shelf) c.loop-load-test.false c.requires c.loop-load.invariant

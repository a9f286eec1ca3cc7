use Rattle.std.proofs.Common.{◌≡◌, List, length, map, Ok, subst}
use Rattle.ls_text.proofs.Growth.{grown_id}
use Rattle.ls_text.specs.Readings.{CanShow}
use Rattle.verilog_ast.specs.declared.module.Module.{Module}
use Rattle.verilog_ast.specs.Views.{declarations_of}
use Rattle.elaborate.specs.Trees.{tree}
use Rattle.elaborate.specs.TreeViews.{instance_view, language_limits, tree_view}
use Rattle.unit_jobs.specs.JobViews.{job_view}
use Rattle.version_swap.specs.Plans.{IsPlanRefusal}
use Rattle.version_swap.proofs.FoundJobs.{text_planned, tree_planned, tree_known, jobs_planned, jobs_known, is_found}
use Rattle.version_swap.proofs.Handed.{handed}
use Rattle.version_swap.proofs.finding.found.Goals as goal

pub returns-in_err-modules-clause-refused : goal.returns-in_err-modules-clause-refused
returns-in_err-modules-clause-refused c =
    handed (IsPlanRefusal c.modules_of.new.names c.args.files.now c.args.top c.args.clock) c.from_residual-in_err-modules.result
    c.in_err-modules.field-0.0 c.from_residual-in_err-modules.ensures.1
    (text_planned c.modules_of.new.names c.args.files.now c.args.top c.args.clock c.requires.files c.in_err-modules.field-0.0
    c.in_err-modules.ensures.refused)

pub returns-in_err-tree-clause-refused : goal.returns-in_err-tree-clause-refused
returns-in_err-tree-clause-refused c =
    let m = c.in_ok-modules.ensures in
    handed (IsPlanRefusal c.elaborate.new.names c.args.files.now c.args.top c.args.clock) c.from_residual-in_err-tree.result
    c.in_err-tree.field-0.0 c.from_residual-in_err-tree.ensures.1
    (tree_planned c.top_number.new.names c.modules_of.new.names c.args.files.now c.args.top c.args.clock c.in_ok-modules.modules.items
    c.in_ok-number.number.0 c.requires.files m.modules m.spelled m.named c.in_ok-number.ensures.number m.grows (tree_view c.elaborate.new.names)
    c.deref.result.now c.elaborate.new.names c.deref.ensures.value c.in_err-tree.ensures.grows c.in_err-tree.field-0.0 c.in_err-tree.ensures.tree)

pub returns-in_err-tree-clause-known : goal.returns-in_err-tree-clause-known
returns-in_err-tree-clause-known c =
    let m = c.in_ok-modules.ensures in
    let names = c.top_number.new.names in
    handed (CanShow (length c.elaborate.new.names)) c.from_residual-in_err-tree.result c.in_err-tree.field-0.0
    c.from_residual-in_err-tree.ensures.1
    (tree_known names c.modules_of.new.names c.args.files.now c.args.top c.args.clock c.in_ok-modules.modules.items c.in_ok-number.number.0
    c.requires.files m.modules m.spelled m.named c.in_ok-number.ensures.number m.grows (tree_view c.elaborate.new.names) c.deref.result.now
    c.elaborate.new.names c.deref.ensures.value c.in_err-tree.ensures.grows c.in_ok-number.ensures.within
    (grown_id c.args.names.now names c.args.clock.0 c.in_ok-number.ensures.grows c.requires.clock) c.in_err-tree.field-0.0
    c.in_err-tree.ensures.tree)

pub returns-in_err-modules-clause-known : goal.returns-in_err-modules-clause-known
returns-in_err-modules-clause-known c =
    handed (CanShow (length c.modules_of.new.names)) c.from_residual-in_err-modules.result c.in_err-modules.field-0.0
    c.from_residual-in_err-modules.ensures.1 c.in_err-modules.ensures.known

pub returns-in_err-jobs-clause-known : goal.returns-in_err-jobs-clause-known
returns-in_err-jobs-clause-known c =
    let m = c.in_ok-modules.ensures in
    let known = c.elaborate.new.names in
    let xs = c.in_ok-tree.tree.instances.items in
    let there = subst (λ (zs : List Module). tree language_limits c.modules_of.new.names (declarations_of zs) c.in_ok-number.number.0 c.args.clock.0
    ≡ Ok (map (instance_view known) xs)) c.deref.ensures.value c.in_ok-tree.ensures.tree in
    handed (CanShow (length c.jobs_of.new.names)) c.from_residual-in_err-jobs.result c.in_err-jobs.field-0.0 c.from_residual-in_err-jobs.ensures.1
    (jobs_known c.top_number.new.names c.modules_of.new.names c.args.files.now c.args.top c.args.clock c.in_ok-modules.modules.items
    c.in_ok-number.number.0 c.requires.files m.modules m.spelled m.named c.in_ok-number.ensures.number m.grows known xs c.in_ok-tree.ensures.grows there
    (λ js. map (job_view c.jobs_of.new.names) js.items) (length c.jobs_of.new.names) c.in_err-jobs.field-0.0 c.in_err-jobs.ensures.jobs)

pub returns-in_err-jobs-clause-refused : goal.returns-in_err-jobs-clause-refused
returns-in_err-jobs-clause-refused c =
    let m = c.in_ok-modules.ensures in
    let known = c.elaborate.new.names in
    let xs = c.in_ok-tree.tree.instances.items in
    let there = subst (λ (zs : List Module). tree language_limits c.modules_of.new.names (declarations_of zs) c.in_ok-number.number.0 c.args.clock.0
    ≡ Ok (map (instance_view known) xs)) c.deref.ensures.value c.in_ok-tree.ensures.tree in
    handed (IsPlanRefusal c.jobs_of.new.names c.args.files.now c.args.top c.args.clock) c.from_residual-in_err-jobs.result
    c.in_err-jobs.field-0.0 c.from_residual-in_err-jobs.ensures.1
    (jobs_planned c.top_number.new.names c.modules_of.new.names c.args.files.now c.args.top c.args.clock c.in_ok-modules.modules.items
    c.in_ok-number.number.0 c.requires.files m.modules m.spelled m.named c.in_ok-number.ensures.number m.grows known xs c.in_ok-tree.ensures.grows there
    (λ js. map (job_view c.jobs_of.new.names) js.items) c.jobs_of.new.names c.in_err-jobs.field-0.0 c.in_err-jobs.ensures.jobs)

pub returns-clause-found : goal.returns-clause-found
returns-clause-found c =
    let m = c.in_ok-modules.ensures in
    let known = c.elaborate.new.names in
    let xs = c.in_ok-tree.tree.instances.items in
    let there = subst (λ (zs : List Module). tree language_limits c.modules_of.new.names (declarations_of zs) c.in_ok-number.number.0 c.args.clock.0
    ≡ Ok (map (instance_view known) xs)) c.deref.ensures.value c.in_ok-tree.ensures.tree in
    is_found c.top_number.new.names c.modules_of.new.names c.args.files.now c.args.top c.args.clock c.in_ok-modules.modules.items
    c.in_ok-number.number.0 c.requires.files m.modules m.spelled m.named c.in_ok-number.ensures.number m.grows known xs c.in_ok-tree.ensures.grows there
    c.jobs_of.new.names c.in_ok-jobs.jobs.items c.in_ok-jobs.ensures.grows c.in_ok-jobs.ensures.jobs c.in_ok-jobs.ensures.named c.ask_once.ensures

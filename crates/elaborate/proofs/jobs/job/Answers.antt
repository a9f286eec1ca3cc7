use Rattle.std.proofs.Common.{◌≡◌, rules}
use Rattle.verilog_ast.specs.Views.{declaration_of as plain_module}
use Rattle.module_names.specs.Views.{modules_of}
use Rattle.elaborate.proofs.Kept.{job_more, new_kept}
use Rattle.elaborate.proofs.jobs.job.Goals as goal

pub returns-clause-kept : goal.returns-clause-kept
returns-clause-kept c =
    let ms = modules_of c.args.modules.now in
    let copy : c.in_ok-clone-2.field-0.value ≡ c.in_ok-job.job.value = search rules in
    job_more c.args.turns ms _ c.args.jobs.now.entries c.insert.new.self.entries _ c.in_ok-clone-2.field-0 c.requires.jobs
    (new_kept c.args.turns ms (plain_module c.args.of.now.body.now) c.args.name c.args.overrides.now c.args.clock c.in_ok-job.job c.in_ok-clone-2.field-0 copy
    c.in_ok-job.ensures.of c.requires.module c.in_ok-job.ensures.answer)
    c.in_ok-insert.ensures.entries

use Rattle.ls_text.proofs.Growth.{grows_on}
use Rattle.command_read.proofs.Settings.{step_settings, step_ports}
use Rattle.command_read.proofs.line_commands.read_settings.Goals as goal

pub loop-word-preserved : goal.loop-word-preserved
loop-word-preserved c =
    let old = c.loop-word.names in
    let new = c.read_setting.new.names in
    let told = c.in_ok-read_setting.ensures in
    record {
      same = step_settings c.args.line old new c.loop-word.values.items c.push.new.self.items c.in_ok-read_setting.field-0 c.in-Some.word.now _ _ _ told.grows
          c.loop-word.invariant.within c.in_ok-push.ensures.items c.in-Some.ensures.word told.gives c.loop-word.invariant.same;
      within = step_ports old new c.loop-word.values.items c.push.new.self.items c.in_ok-read_setting.field-0 told.grows c.loop-word.invariant.within told.within
          c.in_ok-push.ensures.items;
      grows = grows_on _ _ _ c.loop-word.invariant.grows told.grows;
    }

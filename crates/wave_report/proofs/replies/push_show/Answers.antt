use Rattle.std.specs.Prelude.{codes}
use Rattle.ls_text.proofs.Pieces.{three_pieces}
use Rattle.wave_report.specs.Replies.{counted}
use Rattle.wave_report.proofs.replies.push_show.Goals as goal

pub returns : goal.returns
returns c =
    three_pieces c.args.text.now.items (counted (codes "show cycle=") c.args.cycle) (counted (codes " settled v=") c.args.version) (codes "\n")
    c.push_counted.new.text.items c.push_counted-2.new.text.items c.push.new.self.items
    c.in_ok-push_counted.ensures c.in_ok-push_counted-2.ensures c.in_ok-push.ensures.items

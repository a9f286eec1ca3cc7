use Rattle.std.specs.Prelude.{codes}
use Rattle.ls_text.proofs.Pieces.{four_pieces}
use Rattle.wave_report.specs.Replies.{counted}
use Rattle.wave_report.proofs.replies.push_estimate.Goals as goal

pub returns : goal.returns
returns c =
    four_pieces c.args.text.now.items (counted (codes "show cycle=") c.args.cycle) (counted (codes " estimate v=") c.args.version)
    (counted (codes " settled_to=") c.args.settled_to) (codes "\n")
    c.push_counted.new.text.items c.push_counted-2.new.text.items c.push_counted-3.new.text.items c.push.new.self.items
    c.in_ok-push_counted.ensures c.in_ok-push_counted-2.ensures c.in_ok-push_counted-3.ensures c.in_ok-push.ensures.items

use Rattle.std.proofs.Common.{◌∙◌, not, ap}
use Rattle.std.proofs.Math.Bool.{not-not}
use Rattle.reg_transform.specs.Found.{is_among}
use Rattle.reg_transform.proofs.Finding.{added, among, name_same}
use Rattle.reg_transform.proofs.named.note.Goals as goal

pub returns-clause-was : goal.returns-clause-was
returns-clause-was c = ap not c.in_ok-is_new.ensures.added ∙ not-not _ ∙ among _ name_same c.args.known.now.keys c.args.name

pub returns-clause-more : goal.returns-clause-more
returns-clause-more c = λ n. ap (λ ks. is_among ks n) c.in_ok-is_new.ensures.keys ∙ added _ name_same c.args.known.now.keys c.args.name n

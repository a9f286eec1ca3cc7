use Rattle.std.proofs.Common.{◌≤◌, sym, subst, length}
use Rattle.ls_port.proofs.Cuts.{few_taken}
use Rattle.ls_port.proofs.given_text.cut.Goals as goal

pub returns-clause-few : goal.returns-clause-few
returns-clause-few c = subst (λ xs. length xs ≤ 4194305) (sym c.front.ensures) (few_taken 4194305 c.args.text.now)

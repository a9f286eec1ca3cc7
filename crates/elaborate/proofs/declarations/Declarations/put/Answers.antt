use Rattle.std.proofs.Common.{◌∙◌, ap, map}
use Rattle.elaborate.proofs.Finding.{inserted, keys_are}
use Rattle.elaborate.specs.Views.{entry_of}
use Rattle.elaborate.proofs.declarations.Declarations.put.Goals as goal

pub returns : goal.returns
returns c =
    ap (λ es. map entry_of es) c.in_ok-insert.ensures.entries
    ∙ inserted _ (λ x y. keys_are x y) c.args.self.now.names.entries (record { block = c.args.block; name = c.args.name }) c.args.declaration

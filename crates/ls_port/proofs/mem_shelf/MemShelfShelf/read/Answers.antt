use Rattle.std.proofs.Common.{rules, ◌≡◌, Bool, true, false, None, Some, IfOk, nat_eq, sym, ap, subst}
use Rattle.std.specs.List.{list_any}
use Rattle.ls_port.specs.Shelves.{unless, solid_next}
use Rattle.ls_port.proofs.mem_shelf.MemShelfShelf.read.Goals as goal

pub returns-then-contains-clause-fails : goal.returns-then-contains-clause-fails
returns-then-contains-clause-fails c =
    let told : list_any (nat_eq c.args.self.now.calls) c.args.self.now.fails.items ≡ true = search rules in
    λ _. ap (λ (b : Bool). unless b (solid_next c.args.self.now.shelf c.args.name.now)) told

pub returns-clause-given : goal.returns-clause-given
returns-clause-given c =
    let told : list_any (nat_eq c.args.self.now.calls) c.args.self.now.fails.items ≡ false = search rules in
    subst
    (λ (b : Bool). IfOk c.read.result (λ t. unless b (solid_next c.args.self.now.shelf c.args.name.now) ≡ Some t.items))
    (sym told)
    c.read.ensures.given

pub returns-clause-fails : goal.returns-clause-fails
returns-clause-fails c =
    let told : list_any (nat_eq c.args.self.now.calls) c.args.self.now.fails.items ≡ false = search rules in
    λ e. subst
    (λ (b : Bool). unless b (solid_next c.args.self.now.shelf c.args.name.now) ≡ None)
    (sym told)
    (c.read.ensures.missing e)

use Rattle.std.proofs.Common.{◌∙◌, List, ap, subst}
use Rattle.typed_ir.specs.declared.instance_name.InstanceName.{InstanceName}
use Rattle.typed_ir.specs.Paths.{parents_of, parents_before, paths_of}
use Rattle.reg_transform.specs.PathNumbers.{IsNumbered}
use Rattle.reg_transform.proofs.PathTables.{empty_table, grown_numbers, two_tables}
use Rattle.reg_transform.proofs.numbering.path_numbers.Goals as goal

pub numbers_of-requires-clause-table : goal.numbers_of-requires-clause-table
numbers_of-requires-clause-table c = empty_table c.new-known.result.keys c.new-known.ensures.len

pub numbers_of-requires-clause-rooted : goal.numbers_of-requires-clause-rooted
numbers_of-requires-clause-rooted c =
    ap (λ (xs : List InstanceName). parents_before 0 (parents_of xs)) c.deref.ensures.value ∙ c.args.old.now.rooted

pub numbers_of-requires-2-clause-rooted : goal.numbers_of-requires-2-clause-rooted
numbers_of-requires-2-clause-rooted c =
    ap (λ (xs : List InstanceName). parents_before 0 (parents_of xs)) c.deref-2.ensures.value ∙ c.args.new.now.rooted

pub returns : goal.returns
returns c =
    let steps = c.numbers_of-2.new.known.keys in
    let old_rows = c.args.old.now.rows.items in
    let new_rows = c.args.new.now.rows.items in
    let olds = c.in_ok-before.before.items in
    let news = c.in_ok-after.after.items in
    two_tables steps olds news old_rows new_rows c.in_ok-after.ensures.table
    (grown_numbers c.numbers_of.new.known.keys steps olds (paths_of old_rows) c.in_ok-after.ensures.grows
    (subst (λ (xs : List InstanceName). IsNumbered c.numbers_of.new.known.keys olds (paths_of xs)) c.deref.ensures.value c.in_ok-before.ensures.numbers))
    (subst (λ (xs : List InstanceName). IsNumbered steps news (paths_of xs)) c.deref-2.ensures.value c.in_ok-after.ensures.numbers)

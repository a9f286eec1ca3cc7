use Rattle.std.proofs.Common.{sym, ◌∙◌}
use Rattle.link.specs.Listings.{all_parts}
use Rattle.link.proofs.Faulty.{exactly_tree, is_too_many, linked_tree}
use Rattle.link.proofs.Sound.{same_long}
use Rattle.link.proofs.linking.link_within.Goals as goal

pub returns-then-not-are_few-clause-exactly : goal.returns-then-not-are_few-clause-exactly
returns-then-not-are_few-clause-exactly c = λ t is.
    let xs = c.args.tree.now.instances.items in
    let us = all_parts c.args.units.now in
    is_too_many c.args.most c.args.names.now _ xs us t (same_long xs 0 xs us c.requires) is (sym c.are_few.ensures ∙ c.if-not-are_few.true)
    (c.new-then-not-are_few.ensures ∙ c.new.ensures.items)

pub returns-clause-linked : goal.returns-clause-linked
returns-clause-linked c =
    linked_tree c.in-Ok.design c.in_order.result c.args.tree.now.instances.items (all_parts c.args.units.now) c.in-Ok.ensures c.in_order.ensures.design

pub returns-clause-exactly : goal.returns-clause-exactly
returns-clause-exactly c =
    let xs = c.args.tree.now.instances.items in
    let us = all_parts c.args.units.now in
    exactly_tree c.args.most c.args.names.now c.in_order.new.names c.in-Ok.design c.in_order.result xs us (same_long xs 0 xs us c.requires)
    (sym c.are_few.ensures ∙ c.if-not-are_few.false) c.in-Ok.ensures c.in_order.ensures.exactly

-- The walk goes down the nesting; lists of statements and items stand between a statement and those in it.
use Rattle.std.proofs.Common.{◌≡◌, ◌+◌, ◌*◌, max, map, drop}
use Rattle.verilog_ast.proofs.statement.Stmt.TheLaws.{the_size}
use Rattle.verilog_ast.specs.Views.{statement_of, arm_of, statements_of}
use Rattle.width_rules.specs.Entries.{scope_of}
use Rattle.width_rules.specs.Adding.{MentionsLeft, otherwise_of, otherwise_or}
use Rattle.width_rules.specs.Mentions.{listing_of, count, mentions, arm_mentions, default_mentions}
use Rattle.width_rules.proofs.walking.+walk.Given as goal

abbrev pub decreases-walk : goal.decreases-walk
decreases-walk l = 8 * the_size l.st.now

abbrev pub decreases-walk_if : goal.decreases-walk_if
decreases-walk_if l = 8 * the_size l.x.now + 1

abbrev pub decreases-walk_if_else : goal.decreases-walk_if_else
decreases-walk_if_else l = 8 * max (the_size l.x.now) (the_size l.y.now) + 1

abbrev pub decreases-walk_all : goal.decreases-walk_all
decreases-walk_all l = 8 * goal.size-walk_all l + 1

abbrev pub decreases-walk_match : goal.decreases-walk_match
decreases-walk_match l = 8 * the_size l.body.now + 1

abbrev pub decreases-with_arm : goal.decreases-with_arm
decreases-with_arm l = 8 * goal.size-with_arm l + 2

abbrev pub decreases-walk_arms : goal.decreases-walk_arms
decreases-walk_arms l = 8 * goal.size-walk_arms l + 3

abbrev pub decreases-walk_case : goal.decreases-walk_case
decreases-walk_case l = 8 * goal.size-walk_case l + 4

abbrev pub invariant-walk_all-loop-st : goal.invariant-walk_all-loop-st
invariant-walk_all-loop-st l =
    MentionsLeft l.initial.list.items l.list.items l.from l.next
    (mentions (listing_of (scope_of l.scope) l.asked) l.from (statements_of (map statement_of l.statements)))
    (count (listing_of (scope_of l.scope) l.asked) (statements_of (map statement_of l.statements)))
    (mentions (listing_of (scope_of l.scope) l.asked) l.next (statements_of (map statement_of (drop l.st-index l.statements))))
    (count (listing_of (scope_of l.scope) l.asked) (statements_of (map statement_of (drop l.st-index l.statements))))

abbrev pub invariant-walk_arms-loop-arm : goal.invariant-walk_arms-loop-arm
invariant-walk_arms-loop-arm l = record {
  told : MentionsLeft l.initial.list.items l.list.items l.from l.end.next
      (arm_mentions (listing_of (scope_of l.scope) l.asked) l.from (statements_of (map arm_of l.arms)))
      (count (listing_of (scope_of l.scope) l.asked) (statements_of (map arm_of l.arms)))
      (arm_mentions (listing_of (scope_of l.scope) l.asked) l.end.next (statements_of (map arm_of (drop l.arm-index l.arms))))
      (count (listing_of (scope_of l.scope) l.asked) (statements_of (map arm_of (drop l.arm-index l.arms))));
  default : otherwise_or (otherwise_of l.end.otherwise) (default_mentions (listing_of (scope_of l.scope) l.asked) l.end.next (statements_of (map arm_of (drop l.arm-index l.arms))))
      ≡ default_mentions (listing_of (scope_of l.scope) l.asked) l.from (statements_of (map arm_of l.arms));
}

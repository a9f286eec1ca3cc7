use Rattle.std.proofs.Common.{◌≡◌, take, true, false, sym, ap, ◌∙◌, arith}
use Rattle.std.specs.Prelude.{codes}
use Rattle.command_read.specs.Lines.{words, are_just}
use Rattle.command_read.specs.Readers.{left}
use Rattle.command_read.proofs.Skipping.{line_at_front, asks_line, opens_block}
use Rattle.command_read.proofs.Soon.{goes_soon}
use Rattle.command_read.proofs.Still.{still_kept}
use Rattle.command_read.proofs.reader.Reader.item.Goals as goal

pub block-requires-clause-begun : goal.block-requires-clause-begun
block-requires-clause-begun g c =
    let mid = c.first_line.new.self in
    let f = c.in_ok-end.field-0 in
    let edit : are_just (codes "edit") (words (take f.end (left mid))) ≡ true
    = ap (λ l. are_just (codes "edit") (words l)) (sym (c.split_at.ensures.front ∙ ap (take f.end) c.left.ensures)) ∙ sym c.is_just.ensures ∙ c.if-is_just.true in
    opens_block mid f.end f.next (line_at_front mid f c.in_ok-end.ensures.found) c.in_ok-end.ensures.told edit

pub returns-then-is_just-clause-goes : goal.returns-then-is_just-clause-goes
returns-then-is_just-clause-goes g c =
    let first = c.first_line.ensures.goes in
    let second = c.block.ensures.takes in
    goes_soon _ _ _ _ _ _ c.args.self.now c.first_line.new.self c.block.new.self first.0 first.1 second.0 second.1 first.2 first.3 first.4 c.in_ok-end.ensures.going second.2 second.3
    second.4 c.block.ensures.number

pub returns-else-is_just-clause-found : goal.returns-else-is_just-clause-found
returns-else-is_just-clause-found g c =
    let mid = c.first_line.new.self in
    let f = c.in_ok-end.field-0 in
    let found = c.in_ok-end.ensures.found in
    let other : are_just (codes "edit") (words (take f.end (left mid))) ≡ false
    = ap (λ l. are_just (codes "edit") (words l)) (sym (c.split_at.ensures.front ∙ ap (take f.end) c.left.ensures)) ∙ sym c.is_just.ensures ∙ c.if-is_just.false in
    (found.order, found.high, found.more, asks_line mid f.end f.next (line_at_front mid f found) c.in_ok-end.ensures.told other)

pub returns-then-is_just-clause-still : goal.returns-then-is_just-clause-still
returns-then-is_just-clause-still g c =
    let second = c.block.ensures.takes in
    omega (
      arith,
      still_kept c.first_line.new.self c.block.new.self second.0 second.1 second.2.counted second.2.holds second.3 c.block.new.self.sound.most,
      c.first_line.ensures.still,
    )

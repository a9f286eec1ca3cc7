use Rattle.std.proofs.Common.{◌≡◌, ◌&&◌, ◌||◌, ◌==◌, ◌∙◌, true, false, sym, subst}
use Rattle.typed_ir.specs.Orders.{is_member}
use Rattle.block_rules.specs.Paths.{is_open}
use Rattle.block_rules.specs.Tables.{bits_of, AreTaken}
use Rattle.block_rules.proofs.Finding.{open_is, cleared, found_open, found_none, taken_open, taken_none}
use Rattle.block_rules.proofs.paths.take_open.Goals as goal

pub some_left : (c : goal.In_ok-push) → is_open (bits_of c.args.written.now) (bits_of c.args.known.now) c.args.signal ≡ true
some_left c =
    sym (open_is c.args.written.now c.args.known.now c.args.signal c.mask.result c.mask-2.result c.mask.ensures c.mask-2.ensures)
    ∙ sym c.is_open-open.ensures ∙ c.if-open.true

pub returns-in_ok-push-clause-taken : goal.returns-in_ok-push-clause-taken
returns-in_ok-push-clause-taken c =
    subst (λ xs. AreTaken xs c.take.new.self c.args.known.now) (sym c.in_ok-push.ensures.items)
    (taken_open c.args.found.now.items c.args.signal c.args.written.now c.take.new.self c.args.known.now c.requires (some_left c)
    (cleared c.args.written.now c.take.new.self c.args.signal c.take.ensures.bits))

pub returns-in_ok-push-clause-found : goal.returns-in_ok-push-clause-found
returns-in_ok-push-clause-found c = λ s.
    let w = bits_of c.args.written.now in
    let k = bits_of c.args.known.now in
    subst (λ xs. is_member s xs ≡ (is_member s c.args.found.now.items || ((s == c.args.signal) && is_open w k s))) (sym c.in_ok-push.ensures.items)
    (found_open c.args.found.now.items c.args.signal w k s (some_left c))

pub returns-in_ok-push-clause-bits : goal.returns-in_ok-push-clause-bits
returns-in_ok-push-clause-bits c = cleared c.args.written.now c.take.new.self c.args.signal c.take.ensures.bits

pub returns-else-open-clause-taken : goal.returns-else-open-clause-taken
returns-else-open-clause-taken c =
    taken_none c.args.found.now.items c.args.signal c.args.written.now c.take.new.self c.args.known.now c.requires
    (cleared c.args.written.now c.take.new.self c.args.signal c.take.ensures.bits)

pub returns-else-open-clause-found : goal.returns-else-open-clause-found
returns-else-open-clause-found c = λ s.
    let w = bits_of c.args.written.now in
    let k = bits_of c.args.known.now in
    let none : is_open w k c.args.signal ≡ false =
    sym (open_is c.args.written.now c.args.known.now c.args.signal c.mask.result c.mask-2.result c.mask.ensures c.mask-2.ensures)
    ∙ sym c.is_open-open.ensures ∙ c.if-open.false in
    found_none c.args.found.now.items c.args.signal w k s none

pub returns-else-open-clause-bits : goal.returns-else-open-clause-bits
returns-else-open-clause-bits c = cleared c.args.written.now c.take.new.self c.args.signal c.take.ensures.bits

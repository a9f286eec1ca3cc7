use Rattle.std.proofs.Common.{◌≡◌, ◌<◌, ◌&&◌, ◌||◌, ◌==◌, nat_lt, length, rules, subst, set}
use Rattle.std.specs.Prelude.{bit_or}
use Rattle.typed_ir.specs.Touches.{has_bit}
use Rattle.block_rules.proofs.Masks.{bit_of, more_bits, read_at}
use Rattle.block_rules.proofs.bit_table.BitTable.add.Goals as goal

pub returns-then-place-len-clause-bits : goal.returns-then-place-len-clause-bits
returns-then-place-len-clause-bits c = λ s i small.
    let masks = c.args.self.now.masks.items in
    let inside : c.index-place.result < length masks = search rules in
    subst (λ n. bit_of (set masks c.index-place.result (bit_or c.index-old.result.now c.args.mask)) s i
    ≡ (bit_of masks s i || (nat_lt s (length masks) && ((s == n) && has_bit c.args.mask i))))
    c.index-place.ensures
    (more_bits masks c.index-place.result c.args.mask c.index-old.result.now s i inside (read_at masks c.index-place.result c.index-old.result.now inside c.index-old.ensures) small)

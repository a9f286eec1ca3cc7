use Rattle.std.proofs.Common.{◌≡◌, ◌<◌, ◌&&◌, ◌==◌, not, length, rules, subst, set}
use Rattle.std.specs.Prelude.{bit_and, bit_xor}
use Rattle.typed_ir.specs.Touches.{has_bit}
use Rattle.block_rules.proofs.Masks.{bit_of, less_bits, read_at}
use Rattle.block_rules.proofs.bit_table.BitTable.take.Goals as goal

pub returns-then-place-len-clause-bits : goal.returns-then-place-len-clause-bits
returns-then-place-len-clause-bits c = λ s i.
    let masks = c.args.self.now.masks.items in
    let inside : c.index-place.result < length masks = search rules in
    let old = c.index-old.result.now in
    subst (λ n. bit_of (set masks c.index-place.result (bit_xor old (bit_and old c.args.mask))) s i ≡ (bit_of masks s i && not ((s == n) && has_bit c.args.mask i)))
    c.index-place.ensures
    (less_bits masks c.index-place.result c.args.mask old s i inside (read_at masks c.index-place.result c.index-old.result.now inside c.index-old.ensures))

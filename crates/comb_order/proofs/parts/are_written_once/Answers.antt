use Rattle.std.proofs.Common.{◌≡◌, ◌∙◌, map, length, sym, ap, arith, rules, true≢false}
use Rattle.typed_ir.specs.Cycles.{writes_at}
use Rattle.typed_ir.specs.Statements.{stmt_of}
use Rattle.comb_order.specs.Driving.{IsTableOf}
use Rattle.comb_order.specs.Parts.{rows_apart}
use Rattle.comb_order.proofs.Flatten.{one_each}
use Rattle.comb_order.proofs.Designs.{blocks_table}
use Rattle.comb_order.proofs.Passing.{rows_pass}
use Rattle.comb_order.proofs.parts.are_written_once.Goals as goal

pub returns-clause-one : goal.returns-clause-one
returns-clause-one c h =
    let signals = c.args.parts.now.signals.items in
    let clocked = c.args.parts.now.clocked.items in
    let table = c.in_ok-table.table.items in
    let count : c.len-2.result ≡ length signals = search (rules, c.len-2.ensures) in
    let is : IsTableOf (writes_at (map stmt_of clocked)) table =
    blocks_table signals clocked table c.requires (c.in_ok-table.ensures.length ∙ count)
    (λ a s i there low. c.in_ok-table.ensures.drives a s i (omega (arith, there, count)) low
    ∙ ap (λ bs. writes_at (map stmt_of bs) a s i) c.deref.ensures.value) in
    one_each (writes_at (map stmt_of clocked)) table is (ap rows_apart (sym c.deref-2.ensures.value) ∙ sym c.rows_apart.ensures ∙ h)

pub returns-clause-two : goal.returns-clause-two
returns-clause-two c h once =
    let signals = c.args.parts.now.signals.items in
    let clocked = c.args.parts.now.clocked.items in
    let table = c.in_ok-table.table.items in
    let count : c.len-2.result ≡ length signals = search (rules, c.len-2.ensures) in
    let is : IsTableOf (writes_at (map stmt_of clocked)) table =
    blocks_table signals clocked table c.requires (c.in_ok-table.ensures.length ∙ count)
    (λ a s i there low. c.in_ok-table.ensures.drives a s i (omega (arith, there, count)) low
    ∙ ap (λ bs. writes_at (map stmt_of bs) a s i) c.deref.ensures.value) in
    true≢false (sym (rows_pass (writes_at (map stmt_of clocked)) table (length c.deref.result.now) is c.in_ok-table.ensures.rises once)
    ∙ ap rows_apart (sym c.deref-2.ensures.value) ∙ sym c.rows_apart.ensures ∙ h)

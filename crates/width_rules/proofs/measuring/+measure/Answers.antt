use Rattle.std.proofs.Common.{rules, ◌≡◌, ◌<◌, ◌≤◌, ◌*◌, ◌&&◌, ◌∙◌, ℕ, IfOk, map, min, subst, sym, ap, ap₂}
use Rattle.verilog_ast.specs.Expressions as e
use Rattle.verilog_ast.specs.Expressions.{Expression}
use Rattle.verilog_ast.specs.Views.{expression_of, reference_of, parts_of}
use Rattle.verilog_ast.proofs.Seen as seen
use Rattle.width_rules.specs.Entries.{scope_of}
use Rattle.typed_ir.specs.Forms.{sized}
use Rattle.width_rules.specs.Sizes.{length, joined, count_of, is_constant}
use Rattle.width_rules.specs.Constants.{integer}
use Rattle.width_rules.specs.Opened.{opened, Simple}
use Rattle.width_rules.specs.Joins.{Nothing, Bits, joins}
use Rattle.width_rules.proofs.Stepping.{bits_are}
use Rattle.width_rules.proofs.Repeating.{repeated_long, count_exact, replication_fine, replication_wide}
use Rattle.width_rules.proofs.Reading.{due_constant}
use Rattle.width_rules.proofs.Opening.{simple_is, chosen_is}
use Rattle.typed_ir.specs.Sized.{Repeat}
use Rattle.width_rules.proofs.Lengths as row
use Rattle.width_rules.proofs.Nodes as node
use Rattle.width_rules.proofs.measuring.+measure.Goals as goal

pub measure-returns-in-Binary-clause-length : goal.measure-returns-in-Binary-clause-length
measure-returns-in-Binary-clause-length t c =
    let same : e.Binary c.in-Binary.op (expression_of c.get-in-Binary.result.now) (expression_of c.get-in-Binary-2.result.now) ≡ expression_of c.args.e.now =
    ap₂ (e.Binary c.in-Binary.op) (ap expression_of c.get-in-Binary.ensures) (ap expression_of c.get-in-Binary-2.ensures)
    ∙ sym (ap expression_of c.in-Binary.is ∙ seen.binary_seen c.in-Binary.op _ _) in
    subst (λ (x : Expression). IfOk c.binary.result (λ m. m.length ≡ length (scope_of c.args.scope.now) x)) same c.binary.ensures.length

pub measure-returns-in-Bracketed-clause-length : goal.measure-returns-in-Bracketed-clause-length
measure-returns-in-Bracketed-clause-length t c =
    let scope = scope_of c.args.scope.now in
    let inner = expression_of c.get-in-Bracketed.result.now in
    let same : e.Bracketed c.in-Bracketed.field-0 inner ≡ expression_of c.args.e.now =
    ap (e.Bracketed c.in-Bracketed.field-0) (ap expression_of c.get-in-Bracketed.ensures)
    ∙ sym (ap expression_of c.in-Bracketed.is ∙ seen.bracketed_seen c.in-Bracketed.field-0 _) in
    subst (λ (x : Expression). IfOk c.measure.result (λ m. m.length ≡ length scope x)) same
    (subst (λ (n : ℕ). IfOk c.measure.result (λ m. m.length ≡ n)) (sym (row.bracketed_is scope c.in-Bracketed.field-0 inner)) c.measure.ensures.length)

pub measure-returns-in-Conditional-clause-length : goal.measure-returns-in-Conditional-clause-length
measure-returns-in-Conditional-clause-length t c =
    let same : e.Conditional (expression_of c.get-in-Conditional.result.now) (expression_of c.get-in-Conditional-2.result.now) (expression_of c.get-in-Conditional-3.result.now) ≡ expression_of c.args.e.now =
    node.conditional_same _ _ _ _ _ _ c.get-in-Conditional.ensures c.get-in-Conditional-2.ensures c.get-in-Conditional-3.ensures
    ∙ sym (ap expression_of c.in-Conditional.is) in
    subst (λ (x : Expression). IfOk c.conditional.result (λ m. m.length ≡ length (scope_of c.args.scope.now) x)) same c.conditional.ensures.length

pub read-returns-in-Upward-clause-length : goal.read-returns-in-Upward-clause-length
read-returns-in-Upward-clause-length t c =
    let scope = scope_of c.args.scope.now in
    let x = expression_of c.get-in-Upward.result.now in
    let y = expression_of c.get-in-Upward-2.result.now in
    let same : e.UpwardSelect c.in-Upward.name x y ≡ reference_of c.args.reference.now =
    ap₂ (e.UpwardSelect c.in-Upward.name) (ap expression_of c.get-in-Upward.ensures) (ap expression_of c.get-in-Upward-2.ensures)
    ∙ sym (ap reference_of c.in-Upward.is ∙ seen.upward_seen c.in-Upward.name _ _) in
    subst (λ (n : ℕ). IfOk c.run.result (λ m. m.length ≡ n)) (sym (row.upward_is scope c.in-Upward.name x y) ∙ ap (length scope) same) c.run.ensures.length

pub read-returns-in-Downward-clause-length : goal.read-returns-in-Downward-clause-length
read-returns-in-Downward-clause-length t c =
    let scope = scope_of c.args.scope.now in
    let x = expression_of c.get-in-Downward.result.now in
    let y = expression_of c.get-in-Downward-2.result.now in
    let same : e.DownwardSelect c.in-Downward.name x y ≡ reference_of c.args.reference.now =
    ap₂ (e.DownwardSelect c.in-Downward.name) (ap expression_of c.get-in-Downward.ensures) (ap expression_of c.get-in-Downward-2.ensures)
    ∙ sym (ap reference_of c.in-Downward.is ∙ seen.downward_seen c.in-Downward.name _ _) in
    subst (λ (n : ℕ). IfOk c.run-in-Downward.result (λ m. m.length ≡ n)) (sym (row.downward_is scope c.in-Downward.name x y) ∙ ap (length scope) same) c.run-in-Downward.ensures.length

pub run-returns-clause-length : goal.run-returns-clause-length
run-returns-clause-length t c =
    let scope = scope_of c.args.scope.now in
    let b = expression_of c.args.b.now in
    let found = c.in_ok-found in
    c.in_ok-selected.ensures.length ∙ c.in_ok-taken.ensures.width ∙ c.in_ok-width.ensures.value
    ∙ ap count_of (row.read_same scope b found.found.signed found.found.bits.width found.found.bits.value found.ensures.signed found.ensures.width found.ensures.value)

pub concatenation-returns-in_ok-new-in-Bits-clause-form : goal.concatenation-returns-in_ok-new-in-Bits-clause-form
concatenation-returns-in_ok-new-in-Bits-clause-form t c =
    let scope = scope_of c.args.scope.now in
    let parts = map expression_of c.args.parts.now in
    let typed = c.in-Bits.bits.typed in
    let link : Bits typed.width (sized typed.form) ≡ joins scope Nothing parts = search rules in
    let same : sized typed.form ≡ joined scope (parts_of parts) = (bits_are scope parts typed.width (sized typed.form) link).so in
    let open_is : opened c.in_ok-new-in-Bits.field-0 ≡ Simple (sized typed.form) = ap opened c.in_ok-new-in-Bits.ensures ∙ simple_is _ in
    open_is ∙ ap Simple same

pub replication-returns-in_ok-new-in-Bits-2-clause-length : goal.replication-returns-in_ok-new-in-Bits-2-clause-length
replication-returns-in_ok-new-in-Bits-2-clause-length t c =
    let scope = scope_of c.args.scope.now in
    let parts = map expression_of c.args.parts.now in
    let count = expression_of c.args.count.now in
    let typed = c.in-Bits.bits.typed in
    let found = c.in_ok-found in
    let times : c.count_of-times.result ≡ min (count_of (integer scope count)) 255 =
    c.count_of-times.ensures ∙ ap (λ z. min (count_of z) 255) (c.whole_number.ensures ∙ row.read_same scope count found.found.signed found.found.bits.width found.found.bits.value found.ensures.signed found.ensures.width found.ensures.value) in
    let link : Bits typed.width (sized typed.form) ≡ joins scope Nothing parts = search rules in
    let is = bits_are scope parts typed.width (sized typed.form) link in
    let few : c.count_of-times.result * typed.width ≤ 128 = search rules in
    let wide : c.in_ok-repeated-in-Bits.repeated.width ≡ c.count_of-times.result * typed.width = search rules in
    wide ∙ repeated_long (count_of (integer scope count)) c.count_of-times.result typed.width (length scope (parts_of parts)) times c.in-Bits.bits.at_least_one few is.long
    ∙ sym (row.replication_is scope c.args.at count (parts_of parts))

pub replication-returns-in_ok-new-in-Bits-2-clause-constant : goal.replication-returns-in_ok-new-in-Bits-2-clause-constant
replication-returns-in_ok-new-in-Bits-2-clause-constant t c =
    let scope = scope_of c.args.scope.now in
    let count = expression_of c.args.count.now in
    c.in_ok-copied.ensures.constant
    ∙ sym (ap (λ b. b && is_constant scope (parts_of (map expression_of c.args.parts.now))) (due_constant scope count c.in_ok-found.ensures.faultless))

pub replication-returns-in_ok-new-in-Bits-2-clause-faultless : goal.replication-returns-in_ok-new-in-Bits-2-clause-faultless
replication-returns-in_ok-new-in-Bits-2-clause-faultless t c =
    let scope = scope_of c.args.scope.now in
    let parts = map expression_of c.args.parts.now in
    let count = expression_of c.args.count.now in
    let typed = c.in-Bits.bits.typed in
    let found = c.in_ok-found in
    let times : c.count_of-times.result ≡ min (count_of (integer scope count)) 255 =
    c.count_of-times.ensures ∙ ap (λ z. min (count_of z) 255) (c.whole_number.ensures ∙ row.read_same scope count found.found.signed found.found.bits.width found.found.bits.value found.ensures.signed found.ensures.width found.ensures.value) in
    let link : Bits typed.width (sized typed.form) ≡ joins scope Nothing parts = search rules in
    let is = bits_are scope parts typed.width (sized typed.form) link in
    let one : 1 ≤ c.count_of-times.result = search rules in
    let few : c.count_of-times.result * typed.width ≤ 128 = search rules in
    replication_fine scope c.args.due c.args.at count (parts_of parts) c.count_of-times.result typed.width found.ensures.faultless c.in_ok-copied.ensures.faultless
    times one c.in-Bits.bits.at_least_one few is.long

pub replication-returns-then-from-gt128-clause-fault : goal.replication-returns-then-from-gt128-clause-fault
replication-returns-then-from-gt128-clause-fault t c =
    let scope = scope_of c.args.scope.now in
    let parts = map expression_of c.args.parts.now in
    let count = expression_of c.args.count.now in
    let typed = c.in-Bits.bits.typed in
    let found = c.in_ok-found in
    let times : c.count_of-times.result ≡ min (count_of (integer scope count)) 255 =
    c.count_of-times.ensures ∙ ap (λ z. min (count_of z) 255) (c.whole_number.ensures ∙ row.read_same scope count found.found.signed found.found.bits.width found.found.bits.value found.ensures.signed found.ensures.width found.ensures.value) in
    let link : Bits typed.width (sized typed.form) ≡ joins scope Nothing parts = search rules in
    let is = bits_are scope parts typed.width (sized typed.form) link in
    let one : 1 ≤ c.count_of-times.result = search rules in
    let wide : 128 < c.count_of-times.result * typed.width = search rules in
    replication_wide scope c.args.due c.args.at count (parts_of parts) c.count_of-times.result typed.width _ found.ensures.faultless c.in_ok-copied.ensures.faultless
    times one wide is.long c.refused-then-from-gt128.ensures

pub replication-returns-in_ok-new-in-Bits-2-clause-form : goal.replication-returns-in_ok-new-in-Bits-2-clause-form
replication-returns-in_ok-new-in-Bits-2-clause-form t c =
    let scope = scope_of c.args.scope.now in
    let parts = map expression_of c.args.parts.now in
    let count = expression_of c.args.count.now in
    let typed = c.in-Bits.bits.typed in
    let found = c.in_ok-found in
    let times : c.count_of-times.result ≡ min (count_of (integer scope count)) 255 =
    c.count_of-times.ensures ∙ ap (λ z. min (count_of z) 255) (c.whole_number.ensures ∙ row.read_same scope count found.found.signed found.found.bits.width found.found.bits.value found.ensures.signed found.ensures.width found.ensures.value) in
    let link : Bits typed.width (sized typed.form) ≡ joins scope Nothing parts = search rules in
    let is = bits_are scope parts typed.width (sized typed.form) link in
    let one : 1 ≤ c.count_of-times.result = search rules in
    let few : c.count_of-times.result * typed.width ≤ 128 = search rules in
    let count_is = count_exact (count_of (integer scope count)) c.count_of-times.result typed.width times c.in-Bits.bits.at_least_one few in
    let long = repeated_long (count_of (integer scope count)) c.count_of-times.result typed.width (length scope (parts_of parts)) times c.in-Bits.bits.at_least_one few is.long in
    let open_is : opened c.in_ok-new-in-Bits-2.field-0 ≡ Simple (Repeat (c.count_of-times.result * typed.width) c.count_of-times.result (sized typed.form)) =
    ap opened c.in_ok-new-in-Bits-2.ensures ∙ simple_is _ ∙ ap Simple (search rules) in
    open_is ∙ ap Simple (ap₂ (λ a b. Repeat a b (sized typed.form)) long count_is ∙ ap (Repeat (count_of (integer scope count) * length scope (parts_of parts)) (count_of (integer scope count))) is.so)

pub part-returns-clause-length : goal.part-returns-clause-length
part-returns-clause-length t c =
    let scope = scope_of c.args.scope.now in
    let a = expression_of c.args.a.now in
    let b = expression_of c.args.b.now in
    let high = c.in_ok-high in
    let low = c.in_ok-low in
    c.in_ok-selected.ensures.length
    ∙ row.part_long scope c.args.name a b c.in_ok-taken.taken.width _ _ c.in_ok-taken.ensures.width
    (c.whole_number-high.ensures ∙ row.read_same scope a high.high.signed high.high.bits.width high.high.bits.value high.ensures.signed high.ensures.width high.ensures.value)
    (c.whole_number-low.ensures ∙ row.read_same scope b low.low.signed low.low.bits.width low.low.bits.value low.ensures.signed low.ensures.width low.ensures.value)

pub conditional-returns-clause-form : goal.conditional-returns-clause-form
conditional-returns-clause-form t c =
    chosen_is (scope_of c.args.scope.now) (expression_of c.args.c.now) (expression_of c.args.a.now) (expression_of c.args.b.now) _ _ _ _ _ _
    c.in_ok-condition.ensures.form c.in_ok-condition.ensures.length c.in_ok-condition.ensures.signed c.in_ok-yes.ensures.form c.in_ok-no.ensures.form
    c.in_ok-chosen.ensures.form

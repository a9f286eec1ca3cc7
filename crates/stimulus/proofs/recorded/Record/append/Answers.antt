use Rattle.std.proofs.Common.{◌≡◌, ◌+◌, ◌∙◌, List, ℕ, true, false, length, refl, sym, ap, ap₂, arith}
use Rattle.machine.specs.declared.row_run.RowRun.{RowRun}
use Rattle.stimulus.specs.Runs.{ends_with}
use Rattle.stimulus.proofs.Joined.{joined_whole, added_whole, names_joined, names_added}
use Rattle.stimulus.proofs.recorded.Record.append.Goals as goal

-- the last row is the same
pub invariant_of-self : goal.invariant_of-self
invariant_of-self c =
    let old = c.args.self.now in
    let ends : ends_with old.runs.items c.args.row.value ≡ true =
    sym (c.ends_with.ensures ∙ ap₂ ends_with c.deref.ensures.value c.deref-2.ensures) ∙ c.if-ends_with.true in
    let whole = joined_whole old.runs.items c.end_at.new.runs.items c.args.row.value c.args.n _ old.in_runs ends c.requires.some (ap (λ k. k + c.args.n) c.len-end.ensures) c.end_at.ensures in
    record { in_runs = whole.in_runs; counted = omega (arith, whole.names, old.counted); within = old.within }

pub returns-then-ends_with-clause-ok : goal.returns-then-ends_with-clause-ok
returns-then-ends_with-clause-ok c =
    let old = c.args.self.now in
    let ends : ends_with old.runs.items c.args.row.value ≡ true =
    sym (c.ends_with.ensures ∙ ap₂ ends_with c.deref.ensures.value c.deref-2.ensures) ∙ c.if-ends_with.true in
    let whole = joined_whole old.runs.items c.end_at.new.runs.items c.args.row.value c.args.n _ old.in_runs ends c.requires.some (ap (λ k. k + c.args.n) c.len-end.ensures) c.end_at.ensures in
    whole.rows

pub returns-then-ends_with-clause-few : goal.returns-then-ends_with-clause-few
returns-then-ends_with-clause-few c =
    let old = c.args.self.now in
    let ends : ends_with old.runs.items c.args.row.value ≡ true =
    sym (c.ends_with.ensures ∙ ap₂ ends_with c.deref.ensures.value c.deref-2.ensures) ∙ c.if-ends_with.true in
    omega (arith, names_joined old.runs.items c.args.row.value c.args.n old.in_runs ends, old.counted, old.within)

-- another row
pub returns-then-self-more-clause-full : goal.returns-then-self-more-clause-full
returns-then-self-more-clause-full c = λ _.
    let old = c.args.self.now in
    let row = c.args.row.value in
    let ends : ends_with old.runs.items row ≡ false =
    sym (c.ends_with.ensures ∙ ap₂ ends_with c.deref.ensures.value c.deref-2.ensures) ∙ c.if-ends_with.false in
    let more : c.count-more.result ≡ length row = c.count-more.ensures ∙ ap length c.deref-3.ensures in
    omega (arith, names_added old.runs.items row c.args.n old.in_runs ends c.requires.some, old.counted, old.within, more, c.if-self-more.true)

pub invariant_of-self-2 : goal.invariant_of-self-2
invariant_of-self-2 c =
    let old = c.args.self.now in
    let row = c.args.row.value in
    let end = c.len-end.result in
    let r : RowRun (List (ℕ × ℕ)) = record { start = end; end = end + c.args.n; row = c.args.row } in
    let ends : ends_with old.runs.items row ≡ false =
    sym (c.ends_with.ensures ∙ ap₂ ends_with c.deref.ensures.value c.deref-2.ensures) ∙ c.if-ends_with.false in
    let whole = added_whole old.runs.items c.push.new.self.items r row c.args.n old.in_runs ends c.requires.some c.len-end.ensures refl refl c.in_ok-push.ensures.items in
    let more : c.count-more.result ≡ length row = c.count-more.ensures ∙ ap length c.deref-3.ensures in
    record { in_runs = whole.in_runs; counted = omega (arith, whole.names, old.counted, more); within = omega (arith, old.within, c.if-self-more.false) }

pub returns-clause-ok : goal.returns-clause-ok
returns-clause-ok c =
    let old = c.args.self.now in
    let row = c.args.row.value in
    let end = c.len-end.result in
    let r : RowRun (List (ℕ × ℕ)) = record { start = end; end = end + c.args.n; row = c.args.row } in
    let ends : ends_with old.runs.items row ≡ false =
    sym (c.ends_with.ensures ∙ ap₂ ends_with c.deref.ensures.value c.deref-2.ensures) ∙ c.if-ends_with.false in
    let whole = added_whole old.runs.items c.push.new.self.items r row c.args.n old.in_runs ends c.requires.some c.len-end.ensures refl refl c.in_ok-push.ensures.items in
    whole.rows

pub returns-clause-few : goal.returns-clause-few
returns-clause-few c =
    let old = c.args.self.now in
    let row = c.args.row.value in
    let ends : ends_with old.runs.items row ≡ false =
    sym (c.ends_with.ensures ∙ ap₂ ends_with c.deref.ensures.value c.deref-2.ensures) ∙ c.if-ends_with.false in
    let more : c.count-more.result ≡ length row = c.count-more.ensures ∙ ap length c.deref-3.ensures in
    omega (arith, names_added old.runs.items row c.args.n old.in_runs ends c.requires.some, old.counted, old.within, more, c.if-self-more.false)

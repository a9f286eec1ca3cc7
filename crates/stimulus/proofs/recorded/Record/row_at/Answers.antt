use Rattle.std.proofs.Common.{rules, ◌≡◌, ◌∙◌, ◌-◌, leb, true, false, List, ℕ, [], None, length, get_or, sym, ap, subst, arith}
use Rattle.std.specs.List.Sorted.{IsPartitionPoint}
use Rattle.std.proofs.lemmas.List.Sorted.{IsPartitionedBy-leb, IsPartitionPoint-from_clause}
use Rattle.machine.specs.declared.row_run.RowRun.{RowRun}
use Rattle.machine.specs.Rows.{expanded}
use Rattle.stimulus.proofs.Joined.{ends_rise, found_by, row_found}
use Rattle.stimulus.proofs.recorded.Record.row_at.Goals as goal

pub index-requires : goal.index-requires
index-requires c =
    let rs = c.args.self.now.runs.items in
    let t = c.args.t in
    let place = c.partition_point-index.result in
    let ends = λ (r : RowRun (List (ℕ × ℕ))). r.end in
    let part = IsPartitionPoint-from_clause (λ (r : RowRun (List (ℕ × ℕ))). leb r.end t) c.deref.result.now place c.partition_point-index.ensures.partitioned
    (IsPartitionedBy-leb ends c.deref.result.now t (rw c.deref.ensures.value (ends_rise 0 None rs c.args.self.now.in_runs)))
    (λ f a r g. search rules) in
    let P : List (RowRun (List (ℕ × ℕ))) → Type 0 = λ xs. IsPartitionPoint (λ (r : RowRun (List (ℕ × ℕ))). leb r.end t ≡ true) (λ (r : RowRun (List (ℕ × ℕ))). leb r.end t ≡ false) xs place in
    let here = row_found 0 None rs t place c.args.self.now.in_runs (found_by rs t place (subst P c.deref.ensures.value part)) (omega arith) (omega (arith, c.requires)) in
    omega (arith, here.0, ap length c.deref.ensures.value, c.deref.ensures.len)

pub returns : goal.returns
returns c =
    let rs = c.args.self.now.runs.items in
    let t = c.args.t in
    let place = c.partition_point-index.result in
    let ends = λ (r : RowRun (List (ℕ × ℕ))). r.end in
    let part = IsPartitionPoint-from_clause (λ (r : RowRun (List (ℕ × ℕ))). leb r.end t) c.deref.result.now place c.partition_point-index.ensures.partitioned
    (IsPartitionedBy-leb ends c.deref.result.now t (rw c.deref.ensures.value (ends_rise 0 None rs c.args.self.now.in_runs)))
    (λ f a r g. search rules) in
    let P : List (RowRun (List (ℕ × ℕ))) → Type 0 = λ xs. IsPartitionPoint (λ (r : RowRun (List (ℕ × ℕ))). leb r.end t ≡ true) (λ (r : RowRun (List (ℕ × ℕ))). leb r.end t ≡ false) xs place in
    let here = row_found 0 None rs t place c.args.self.now.in_runs (found_by rs t place (subst P c.deref.ensures.value part)) (omega arith) (omega (arith, c.requires)) in
    let same : t - 0 ≡ t = omega arith in
    c.deref-2.ensures
    ∙ ap (λ (r : RowRun (List (ℕ × ℕ))). r.row.value) c.index.ensures
    ∙ sym (here.1 c.index.result.now)
    ∙ ap (λ n. get_or (expanded rs) n []) same

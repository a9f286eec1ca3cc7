use Rattle.std.proofs.Common.{rules, ◌≡◌, ◌-◌, ◌∙◌, nat_lt, true, false, List, ℕ, None, length, take, drop, ap, subst, arith}
use Rattle.std.specs.List.Sorted.{IsPartitionPoint}
use Rattle.std.proofs.lemmas.List.{take_rest}
use Rattle.std.proofs.lemmas.List.Sorted.{IsPartitionedBy-ltb, IsPartitionPoint-from_clause}
use Rattle.machine.specs.declared.row_run.RowRun.{RowRun}
use Rattle.stimulus.specs.Runs.{names_in, with_end}
use Rattle.stimulus.proofs.Joined.{starts_rise, cut_by, cut_whole, names_are, names_split}
use Rattle.stimulus.proofs.recorded.Record.cut.Goals as goal

pub names_in-requires : goal.names_in-requires
names_in-requires c =
    let old = c.args.self.now in
    let rs = old.runs.items in
    let place = c.partition_point-kept.result in
    let gone : names_in (take (length c.deref-2.result.now - place) (drop place c.deref-2.result.now)) ≡ names_in (drop place rs) =
    ap names_in (take_rest c.deref-2.result.now place) ∙ ap (λ (xs : List (RowRun (List (ℕ × ℕ)))). names_in (drop place xs)) c.deref-2.ensures.value in
    omega (arith, gone, old.counted, names_are rs old.in_runs, names_split rs place)

pub overflow_sub-self : goal.overflow_sub-self
overflow_sub-self c =
    let old = c.args.self.now in
    let rs = old.runs.items in
    let place = c.partition_point-kept.result in
    let gone : c.names_in.result ≡ names_in (drop place rs) =
    c.names_in.ensures ∙ ap names_in (take_rest c.deref-2.result.now place) ∙ ap (λ (xs : List (RowRun (List (ℕ × ℕ)))). names_in (drop place xs)) c.deref-2.ensures.value in
    omega (arith, gone, old.counted, names_are rs old.in_runs, names_split rs place)

pub invariant_of-self : goal.invariant_of-self
invariant_of-self c =
    let old = c.args.self.now in
    let rs = old.runs.items in
    let place = c.partition_point-kept.result in
    let len = c.args.len in
    let part = IsPartitionPoint-from_clause (λ (r : RowRun (List (ℕ × ℕ))). nat_lt r.start len) c.deref.result.now place c.partition_point-kept.ensures.partitioned
    (IsPartitionedBy-ltb (λ (r : RowRun (List (ℕ × ℕ))). r.start) c.deref.result.now len (rw c.deref.ensures.value (starts_rise 0 None rs old.in_runs)))
    (λ f a r g. search rules) in
    let P : List (RowRun (List (ℕ × ℕ))) → Type 0 = λ xs. IsPartitionPoint (λ (r : RowRun (List (ℕ × ℕ))). nat_lt r.start len ≡ true) (λ (r : RowRun (List (ℕ × ℕ))). nat_lt r.start len ≡ false) xs place in
    let whole = cut_whole rs c.end_at.new.runs.items len place old.in_runs (cut_by rs len place (subst P c.deref.ensures.value part)) c.requires
    (c.end_at.ensures ∙ ap (λ (xs : List (RowRun (List (ℕ × ℕ)))). with_end xs len) c.truncate.ensures.items) in
    let gone : c.names_in.result ≡ names_in (drop place rs) =
    c.names_in.ensures ∙ ap names_in (take_rest c.deref-2.result.now place) ∙ ap (λ (xs : List (RowRun (List (ℕ × ℕ)))). names_in (drop place xs)) c.deref-2.ensures.value in
    record { in_runs = whole.in_runs; counted = omega (arith, whole.names, old.counted, gone); within = omega (arith, old.within) }

pub returns-clause-rows : goal.returns-clause-rows
returns-clause-rows c =
    let old = c.args.self.now in
    let rs = old.runs.items in
    let place = c.partition_point-kept.result in
    let len = c.args.len in
    let part = IsPartitionPoint-from_clause (λ (r : RowRun (List (ℕ × ℕ))). nat_lt r.start len) c.deref.result.now place c.partition_point-kept.ensures.partitioned
    (IsPartitionedBy-ltb (λ (r : RowRun (List (ℕ × ℕ))). r.start) c.deref.result.now len (rw c.deref.ensures.value (starts_rise 0 None rs old.in_runs)))
    (λ f a r g. search rules) in
    let P : List (RowRun (List (ℕ × ℕ))) → Type 0 = λ xs. IsPartitionPoint (λ (r : RowRun (List (ℕ × ℕ))). nat_lt r.start len ≡ true) (λ (r : RowRun (List (ℕ × ℕ))). nat_lt r.start len ≡ false) xs place in
    (cut_whole rs c.end_at.new.runs.items len place old.in_runs (cut_by rs len place (subst P c.deref.ensures.value part)) c.requires
    (c.end_at.ensures ∙ ap (λ (xs : List (RowRun (List (ℕ × ℕ)))). with_end xs len) c.truncate.ensures.items)).rows

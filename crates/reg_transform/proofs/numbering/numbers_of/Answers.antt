use Rattle.std.proofs.Common.{◌≡◌, ◌+◌, ◌<◌, ◌++◌, ◌∷◌, [], ◌∙◌, ℕ, List, length, map, get_or, drop, IsTrue, refl, sym, ap, subst, arith}
use Rattle.std.specs.Prelude.{Option}
use Rattle.std.proofs.lemmas.List.{length-append, at_drop_all}
use Rattle.typed_ir.specs.declared.instance_name.InstanceName.{InstanceName}
use Rattle.typed_ir.specs.Paths.{paths_from, paths_of}
use Rattle.reg_transform.specs.PathNumbers.{path_at, goes_on, number_above, IsNext}
use Rattle.reg_transform.proofs.PathTables.{goes_here, rooted_after, number_goes, all_small, walk_step}
use Rattle.reg_transform.proofs.numbering.numbers_of.Goals as goal

pub loop-row-init : goal.loop-row-init
loop-row-init c =
    let none = c.new-numbers.ensures.items in
    let zero : length c.new-numbers.result.items ≡ 0 = ap length none in
    record {
      table = c.requires.table;
      grows = record { longer = omega arith; same = λ n h. refl };
      count = zero;
      small = λ i h. absurd (omega (arith, h, zero));
      rooted = c.requires.rooted;
      walked = ap (λ (ns : List ℕ). paths_from (map (path_at c.args.known.now.keys) ns) c.args.rows.now) none;
    }

pub number_above-before-requires : goal.number_above-before-requires
number_above-before-requires c =
    let x = c.row-item.result in
    subst (λ n. IsTrue (goes_on n x.parent)) (sym (ap length c.deref.ensures.value ∙ c.loop-row.invariant.count))
    (goes_here c.args.rows.now c.loop-row.row-index x c.loop-row-test.true c.row-item.is c.loop-row.invariant.rooted)

pub number_of-requires-clause-goes_on : goal.number_of-requires-clause-goes_on
number_of-requires-clause-goes_on c =
    let x = c.row-item.result in
    let keys = c.loop-row.known.keys in
    let numbers = c.loop-row.numbers.items in
    let goes : IsTrue (goes_on (length numbers) x.parent) =
    subst (λ n. IsTrue (goes_on n x.parent)) (sym c.loop-row.invariant.count)
    (goes_here c.args.rows.now c.loop-row.row-index x c.loop-row-test.true c.row-item.is c.loop-row.invariant.rooted) in
    subst (λ (b : Option ℕ). IsTrue (goes_on (length keys) b))
    (sym (c.number_above-before.ensures ∙ ap (λ (ns : List ℕ). number_above ns x.parent) c.deref.ensures.value))
    (number_goes numbers (length keys) x.parent c.loop-row.invariant.small goes)

pub loop-row-preserved : goal.loop-row-preserved
loop-row-preserved c =
    let rows = c.args.rows.now in
    let i = c.loop-row.row-index in
    let x = c.row-item.result in
    let n = c.in_ok-number.number in
    let keys = c.loop-row.known.keys in
    let new = c.number_of.new.known.keys in
    let numbers = c.loop-row.numbers.items in
    let goes : IsTrue (goes_on (length numbers) x.parent) =
    subst (λ k. IsTrue (goes_on k x.parent)) (sym c.loop-row.invariant.count)
    (goes_here rows i x c.loop-row-test.true c.row-item.is c.loop-row.invariant.rooted) in
    let next : IsNext keys new (record { before = number_above numbers x.parent; name = x.name }) n =
    subst (λ (b : Option ℕ). IsNext keys new (record { before = b; name = x.name }) n)
    (c.number_above-before.ensures ∙ ap (λ (ns : List ℕ). number_above ns x.parent) c.deref.ensures.value) c.in_ok-number.ensures in
    let items : c.push.new.self.items ≡ numbers ++ n ∷ [] = c.in_ok-push.ensures.items in
    let long : length c.push.new.self.items ≡ length numbers + 1 = ap length items ∙ length-append numbers (n ∷ []) in
    record {
      table = next.table;
      grows = record {
        longer = omega (arith, c.loop-row.invariant.grows.longer, next.grows.longer);
        same = λ m h. next.grows.same m (omega (arith, h, c.loop-row.invariant.grows.longer)) ∙ c.loop-row.invariant.grows.same m h;
      };
      count = omega (arith, long, c.loop-row.invariant.count);
      small = subst (λ (ns : List ℕ). (j : ℕ) → j < length ns → get_or ns j 0 < length new) (sym items)
          (all_small numbers n (length keys) (length new) next.grows.longer next.within c.loop-row.invariant.small);
      rooted = rooted_after rows i x c.loop-row-test.true c.row-item.is c.loop-row.invariant.rooted;
      walked = ap (λ (ns : List ℕ). paths_from (map (path_at new) ns) (drop (i + 1) rows)) items
          ∙ walk_step keys new numbers rows i n x (paths_of rows) c.loop-row-test.true c.row-item.is c.loop-row.invariant.small goes next c.loop-row.invariant.walked;
    }

pub returns-clause-numbers : goal.returns-clause-numbers
returns-clause-numbers c = record {
  within = c.loop-row.invariant.small;
  paths_are =
      sym (at_drop_all (λ (zs : List InstanceName). paths_from (map (path_at c.loop-row.known.keys) c.loop-row.numbers.items) zs) c.args.rows.now c.loop-row.row-index c.loop-row-test.false)
      ∙ c.loop-row.invariant.walked;
}

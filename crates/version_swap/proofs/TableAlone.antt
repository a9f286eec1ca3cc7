-- A table of instances with their jobs is that of the same copies alone.
use Rattle.std.proofs.Common.{◌≡◌, ℕ, suc, ◌+◌, List, [], ◌∷◌, ◌++◌, map, drop, get_or, Option, Some, None, append_assoc, append-nil, refl, sym, ◌∙◌, ap, ap₂, arith}
use Rattle.std.proofs.lemmas.List.{map-append}
use Rattle.gen_unroll.proofs.Answered.{ok_same}
use Rattle.typed_ir.specs.declared.instance.Instance.{Instance}
use Rattle.typed_ir.specs.Trees as t
use Rattle.typed_ir.specs.Trees.{SizedUnit, Instances}
use Rattle.link.specs.Listings.{Entry, instances_in, listed}
use Rattle.link.proofs.Alone.{one_tree}
use Rattle.module_registry.specs.declared.build_job.BuildJob.{BuildJob}
use Rattle.gen_unroll.specs.Numbers.{module_table}
use Rattle.unit_build.specs.Building.{module_of}
use Rattle.version_swap.specs.BuiltCopies.{copy_of}
use Rattle.version_swap.specs.Copies.{ModuleCopy, Copies, Nothing, One}
use Rattle.version_swap.specs.TableCopies.{CopyEntry, copies_in, copies_listed, IsCopyOf, AreCopiesOf, IsTableOf}

-- ---- the rows of a table

same_row : (e f : CopyEntry) (x : Instance) (job : BuildJob) → IsCopyOf e x job → IsCopyOf f x job → e ≡ f
same_row e f x job one other =
    let steps = ok_same e.copy.steps f.copy.steps (sym one.steps ∙ other.steps) in
    let table = ok_same e.copy.table f.copy.table (sym one.signals ∙ ap (module_table (module_of job)) steps ∙ other.signals) in
    ap₂ (λ (p : Option ℕ) (c : ModuleCopy). record { parent = p; copy = c }) (one.place ∙ sym other.place)
    (one.copied ∙ ap₂ (copy_of x.place.name.0 job) steps table ∙ sym other.copied)

same_rows : (es fs : List CopyEntry) (xs : List Instance) (jobs : List BuildJob) → AreCopiesOf es xs jobs → AreCopiesOf fs xs jobs → es ≡ fs
same_rows [] [] xs jobs one other = refl
same_rows [] (f ∷ fs) [] jobs one other = absurd other
same_rows [] (f ∷ fs) (x ∷ xs) jobs one other = absurd one
same_rows (e ∷ es) [] [] jobs one other = absurd one
same_rows (e ∷ es) [] (x ∷ xs) jobs one other = absurd other
same_rows (e ∷ es) (f ∷ fs) [] jobs one other = absurd one
same_rows (e ∷ es) (f ∷ fs) (x ∷ xs) [] one other = absurd one
same_rows (e ∷ es) (f ∷ fs) (x ∷ xs) (job ∷ jobs) one other =
    ap₂ (λ (g : CopyEntry) (gs : List CopyEntry). g ∷ gs) (same_row e f x job one.0 other.0) (same_rows es fs xs jobs one.1 other.1)

-- ---- the shape of copies

abbrev no_unit : SizedUnit
no_unit = record { signals = []; registers = []; inputs = []; nodes = []; clocked = [] }

abbrev shape : Copies → Instances
shape Nothing = t.Nothing
shape (One c within after) = t.One 0 no_unit (shape within) (shape after)

abbrev shape_row : CopyEntry → Entry
shape_row e = record { parent = e.parent; name = 0; unit = no_unit }

shape_many : (copies : Copies) → instances_in (shape copies) ≡ copies_in copies
shape_many Nothing = refl
shape_many (One c within after) = ap₂ (λ m n. suc (m + n)) (shape_many within) (shape_many after)

shape_listed : (parent : Option ℕ) (index : ℕ) (copies : Copies) → listed parent index (shape copies) ≡ map shape_row (copies_listed parent index copies)
shape_listed parent index Nothing = refl
shape_listed parent index (One c within after) =
    let these = copies_listed (Some index) (suc index) within in
    let those = copies_listed parent (suc index + copies_in within) after in
    ap (λ (es : List Entry). record { parent = parent; name = 0; unit = no_unit } ∷ es)
    (ap₂ (λ (es fs : List Entry). es ++ fs) (shape_listed (Some index) (suc index) within)
    (ap (λ n. listed parent (suc index + n) (shape after)) (shape_many within) ∙ shape_listed parent (suc index + copies_in within) after)
    ∙ sym (map-append shape_row these those))

-- ---- copies of one shape with the same rows

abbrev within_of : Instances → Instances
within_of t.Nothing = t.Nothing
within_of (t.One name u within after) = within

abbrev after_of : Instances → Instances
after_of t.Nothing = t.Nothing
after_of (t.One name u within after) = after

record AreSame (a b : Copies) (r s : List CopyEntry) : Type 0 where
  copies : a ≡ b
  rest : r ≡ s

same_copies : (parent : Option ℕ) (index : ℕ) (a b : Copies) (r s : List CopyEntry) → shape a ≡ shape b
    → copies_listed parent index a ++ r ≡ copies_listed parent index b ++ s → AreSame a b r s
same_copies parent index Nothing Nothing r s h is = record { copies = refl; rest = is }
same_copies parent index Nothing (One c within after) r s h is = absurd (omega (arith, ap instances_in h))
same_copies parent index (One c within after) Nothing r s h is = absurd (omega (arith, ap instances_in h))
same_copies parent index (One c within after) (One d inner later) r s h is =
    let these = copies_listed (Some index) (suc index) within in
    let those = copies_listed (Some index) (suc index) inner in
    let next = copies_listed parent (suc index + copies_in within) after in
    let other = copies_listed parent (suc index + copies_in inner) later in
    let tails : these ++ (next ++ r) ≡ those ++ (other ++ s) =
    sym (append_assoc these next r) ∙ ap (λ (es : List CopyEntry). drop 1 es) is ∙ append_assoc those other s in
    let first = same_copies (Some index) (suc index) within inner (next ++ r) (other ++ s) (ap within_of h) tails in
    let second = same_copies parent (suc index + copies_in within) after later r s (ap after_of h)
    (first.rest ∙ ap (λ (x : Copies). copies_listed parent (suc index + copies_in x) later ++ s) (sym first.copies)) in
    record {
      copies = ap (λ (m : ModuleCopy). One m within after) (ap (λ (es : List CopyEntry). (get_or es 0 (record { parent = parent; copy = c })).copy) is)
          ∙ ap₂ (λ (x y : Copies). One d x y) first.copies second.copies;
      rest = second.rest;
    }

pub same_listed : (a b : Copies) → copies_listed None 0 a ≡ copies_listed None 0 b → a ≡ b
same_listed a b rows =
    let shapes = one_tree (shape a) (shape b) (shape_listed None 0 a ∙ ap (map shape_row) rows ∙ sym (shape_listed None 0 b)) in
    (same_copies None 0 a b [] [] shapes (append-nil (copies_listed None 0 a) ∙ rows ∙ sym (append-nil (copies_listed None 0 b)))).copies

pub one_of_copies : (xs : List Instance) (jobs : List BuildJob) (a b : Copies) → IsTableOf xs jobs a → IsTableOf xs jobs b → a ≡ b
one_of_copies xs jobs a b one other = same_listed a b (same_rows (copies_listed None 0 a) (copies_listed None 0 b) xs jobs one other)

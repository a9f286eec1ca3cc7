-- A table of instances whose units are built from jobs is that of copies of the modules of these jobs.
use Rattle.std.proofs.Common.{◌≡◌, ℕ, suc, ◌+◌, List, [], ◌∷◌, ◌++◌, drop, get_or, length, Option, None, Some, Result, Ok, Err, append_assoc, append-nil, refl, sym, ◌∙◌, ap, subst, arith}
use Rattle.std.specs.List.{AllZip}
use Rattle.ls_text.specs.declared.fault.Fault.{Fault}
use Rattle.typed_ir.specs.declared.instance.Instance.{Instance}
use Rattle.typed_ir.specs.declared.unit_parts.UnitParts.{UnitParts}
use Rattle.typed_ir.specs.Trees as t
use Rattle.typed_ir.specs.Trees.{Instances}
use Rattle.link.specs.Listings.{Entry, entries_of, instances_in, listed, IsTreeOf}
use Rattle.gen_unroll.specs.Steps.{ModuleStep}
use Rattle.ls_text.specs.Answers.{◌>>=◌}
use Rattle.module_registry.specs.declared.build_job.BuildJob.{BuildJob}
use Rattle.module_registry.specs.Building.{Built}
use Rattle.gen_unroll.specs.Numbers.{SignalTable, module_table}
use Rattle.unit_build.specs.Building.{module_of, job_steps, settled_signals, unit_with, built}
use Rattle.version_swap.specs.JobUnits.{IsUnitOf}
use Rattle.version_swap.specs.BuiltCopies.{copy_of}
use Rattle.version_swap.specs.Copies.{Copies, Nothing, One}
use Rattle.version_swap.specs.TableCopies.{CopyEntry, copies_in, copies_listed, AreCopiesOf, IsTableOf}
use Rattle.version_swap.proofs.BuiltUnits.{HasAnswer}

-- ---- what a job that is built has

record HasParts (job : BuildJob) : Type 0 where
  steps : List ModuleStep
  table : SignalTable
  stepped : job_steps job ≡ Ok steps
  tabled : module_table (module_of job) steps ≡ Ok table

built_parts : (job : BuildJob) (b : Built) → built job ≡ Ok b → HasParts job
unfolding built
built_parts job b is = by_steps (job_steps job) refl is
  where
    by_table : (ss : List ModuleStep) → job_steps job ≡ Ok ss → (r : Result SignalTable Fault) → module_table (module_of job) ss ≡ r
        → (r >>= λ t. unit_with job t (settled_signals (module_of job) t ss) ss) ≡ Ok b → HasParts job
    by_table ss stepped (Ok t) tabled is = record { steps = ss; table = t; stepped = stepped; tabled = tabled }
    by_table ss stepped (Err f) tabled is = absurd (subst HasAnswer (sym is) tt)

    by_steps : (r : Result (List ModuleStep) Fault) → job_steps job ≡ r
        → (r >>= λ ss. module_table (module_of job) ss >>= λ t. unit_with job t (settled_signals (module_of job) t ss) ss) ≡ Ok b → HasParts job
    by_steps (Ok ss) stepped is = by_table ss stepped (module_table (module_of job) ss) refl is
    by_steps (Err f) stepped is = absurd (subst HasAnswer (sym is) tt)

-- ---- copies side by side with a tree

record HasCopiesOf (parent : Option ℕ) (index : ℕ) (tree : Instances) (rest : List Entry) (xs : List Instance) (jobs : List BuildJob) : Type 0 where
  copies : Copies
  instances : List Instance
  jobs_left : List BuildJob
  units : List UnitParts
  many : copies_in copies ≡ instances_in tree
  left : rest ≡ entries_of instances units
  long : length units ≡ length instances
  are_built : AllZip IsUnitOf jobs_left units
  joined : (es : List CopyEntry) → AreCopiesOf es instances jobs_left → AreCopiesOf (copies_listed parent index copies ++ es) xs jobs

abbrev nobody : Entry
nobody = record { parent = None; name = 0; unit = record { signals = []; registers = []; inputs = []; nodes = []; clocked = [] } }

abbrev top_parent : List Entry → Option ℕ
top_parent es = (get_or es 0 nobody).parent

copies_joined : (parent : Option ℕ) (index n m : ℕ) (inner later : Copies) (es : List CopyEntry) (xs : List Instance) (jobs : List BuildJob) → n ≡ m
    → AreCopiesOf (copies_listed (Some index) (suc index) inner ++ (copies_listed parent (suc index + m) later ++ es)) xs jobs
    → AreCopiesOf ((copies_listed (Some index) (suc index) inner ++ copies_listed parent (suc index + n) later) ++ es) xs jobs
copies_joined parent index n m inner later es xs jobs few are =
    let these = copies_listed (Some index) (suc index) inner in
    subst (λ (cs : List CopyEntry). AreCopiesOf cs xs jobs) (sym (append_assoc these (copies_listed parent (suc index + n) later) es))
    (subst (λ i. AreCopiesOf (these ++ (copies_listed parent (suc index + i) later ++ es)) xs jobs) (sym few) are)

beside : (parent : Option ℕ) (index : ℕ) (tree : Instances) (rest : List Entry) (xs : List Instance) (jobs : List BuildJob) (us : List UnitParts)
    → listed parent index tree ++ rest ≡ entries_of xs us → length us ≡ length xs → AllZip IsUnitOf jobs us → HasCopiesOf parent index tree rest xs jobs
beside parent index t.Nothing rest xs jobs us is long builds = record {
  copies = Nothing;
  instances = xs;
  jobs_left = jobs;
  units = us;
  many = refl;
  left = is;
  long = long;
  are_built = builds;
  joined = λ es are. are;
}
beside parent index (t.One name u within after) rest [] jobs us is long builds = absurd (omega (arith, ap (λ (es : List Entry). length es) is))
beside parent index (t.One name u within after) rest (x ∷ xs) jobs [] is long builds = absurd (omega (arith, ap (λ (es : List Entry). length es) is))
beside parent index (t.One name u within after) rest (x ∷ xs) [] (v ∷ us) is long builds = absurd builds
beside parent index (t.One name u within after) rest (x ∷ xs) (job ∷ jobs) (v ∷ us) is long builds =
    let next = suc index + instances_in within in
    let parts = built_parts job _ builds.0 in
    let inner = beside (Some index) (suc index) within (listed parent next after ++ rest) xs jobs us
    (sym (append_assoc (listed (Some index) (suc index) within) (listed parent next after) rest) ∙ ap (λ (es : List Entry). drop 1 es) is)
    (omega (arith, long)) builds.1 in
    let later = beside parent next after rest inner.instances inner.jobs_left inner.units inner.left inner.long inner.are_built in
    let c = copy_of x.place.name.0 job parts.steps parts.table in
    record {
      copies = One c inner.copies later.copies;
      instances = later.instances;
      jobs_left = later.jobs_left;
      units = later.units;
      many = (let first = inner.many in let second = later.many in omega (arith, first, second));
      left = later.left;
      long = later.long;
      are_built = later.are_built;
      joined = λ es are. (
        record { place = ap top_parent is; steps = parts.stepped; signals = parts.tabled; copied = refl },
        copies_joined parent index (copies_in inner.copies) (instances_in within) inner.copies later.copies es xs jobs inner.many
            (inner.joined (copies_listed parent next later.copies ++ es) (later.joined es are)),
      );
    }

-- ---- the whole table

no_entries : (xs : List Instance) (jobs : List BuildJob) (us : List UnitParts) → [] ≡ entries_of xs us → length us ≡ length xs → AllZip IsUnitOf jobs us
    → AreCopiesOf [] xs jobs
no_entries [] [] us is long builds = tt
no_entries [] (job ∷ jobs) [] is long builds = absurd builds
no_entries [] (job ∷ jobs) (u ∷ us) is long builds = absurd (omega (arith, long))
no_entries (x ∷ xs) jobs [] is long builds = absurd (omega (arith, long))
no_entries (x ∷ xs) jobs (u ∷ us) is long builds = absurd (omega (arith, ap (λ (es : List Entry). length es) is))

pub record HasCopies (xs : List Instance) (jobs : List BuildJob) : Type 0 where
  pub copies : Copies
  pub table : IsTableOf xs jobs copies

pub table_copies : (xs : List Instance) (jobs : List BuildJob) (us : List UnitParts) (tree : Instances) → length us ≡ length xs → IsTreeOf xs us tree
    → AllZip IsUnitOf jobs us → HasCopies xs jobs
table_copies xs jobs us tree long is builds =
    let s = beside None 0 tree [] xs jobs us (append-nil (listed None 0 tree) ∙ is) long builds in
    record {
      copies = s.copies;
      table = subst (λ (es : List CopyEntry). AreCopiesOf es xs jobs) (append-nil (copies_listed None 0 s.copies))
          (s.joined [] (no_entries s.instances s.jobs_left s.units s.left s.long s.are_built));
    }

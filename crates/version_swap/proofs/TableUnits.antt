-- Where the units of a table of instances are built from the jobs of the instances, its tree is beside the copies of the modules of these jobs.
use Rattle.std.proofs.Common.{◌≡◌, ℕ, suc, ◌+◌, ◌≤◌, Bool, true, false, cond, List, [], ◌∷◌, ◌++◌, map, length, Option, Some, None, Ok, append_assoc, append-nil, refl, sym, ◌∙◌, ap, ap₂, subst, arith}
use Rattle.std.specs.List.{AllZip}
use Rattle.std.proofs.lemmas.List.{length-map, length-take}
use Rattle.typed_ir.specs.declared.child_shape.ChildShape.{ChildShape}
use Rattle.typed_ir.specs.declared.instance.Instance.{Instance}
use Rattle.typed_ir.specs.declared.port_shape.PortShape.{PortShape}
use Rattle.typed_ir.specs.declared.unit_parts.UnitParts.{UnitParts}
use Rattle.typed_ir.specs.declared.unit_signal.UnitSignal.{UnitSignal}
use Rattle.typed_ir.specs.Shapes.{AreOf, none, more, HasPorts, children_of, shape_of, stands_in}
use Rattle.typed_ir.specs.Trees as t
use Rattle.typed_ir.specs.Trees.{SizedUnit, Instances, signals_in, flat_of_tree}
use Rattle.typed_ir.specs.Units.{sized_unit, signal_within}
use Rattle.link.specs.Listings.{Entry, entry_of, entries_of, instances_in, listed, IsTreeOf}
use Rattle.link.proofs.Alone.{one_tree}
use Rattle.link.proofs.Listed.{HasKids, kids_by, tops_by, has_kids}
use Rattle.module_registry.specs.declared.build_job.BuildJob.{BuildJob}
use Rattle.gen_unroll.specs.Numbers.{module_table}
use Rattle.unit_build.specs.Building.{module_of, job_steps, built}
use Rattle.version_swap.specs.JobUnits.{IsUnitOf}
use Rattle.version_swap.specs.BuiltCopies.{copy_of, AreBuilt}
use Rattle.version_swap.specs.Copies.{ModuleCopy, Copies, Nothing, One}
use Rattle.version_swap.specs.Flat.{flat}
use Rattle.version_swap.specs.TableCopies.{CopyEntry, copies_in, copies_listed, AreCopiesOf, IsTableOf}
use Rattle.version_swap.specs.Units.{HavePorts}
use Rattle.version_swap.proofs.BuiltUnits.{unit_made, built_is_flat}
use Rattle.version_swap.proofs.Kids.{unit_long}

-- ---- copies side by side with units, but for the ports of those within

record IsMade (all : List Instance) (index : ℕ) (c : ModuleCopy) (name : ℕ) (u : SizedUnit) : Type 0 where
  job : BuildJob
  steps : job_steps job ≡ Ok c.steps
  signals : module_table (module_of job) c.steps ≡ Ok c.table
  copied : c ≡ copy_of name job c.steps c.table
  made : built job ≡ Ok (record { unit = u; shapes = map shape_of (children_of index all) })

abbrev AreMade : List Instance → ℕ → Copies → Instances → Type 0
AreMade all index Nothing t.Nothing = Unit {0}
AreMade all index Nothing (t.One name u inner later) = ⊥
AreMade all index (One c within after) t.Nothing = ⊥
AreMade all index (One c within after) (t.One name u inner later) =
    IsMade all index c name u × (AreMade all (suc index) within inner × AreMade all (suc index + copies_in within) after later)

-- a tree for copies side by side, of which the first has the number `index`, and what is left of the table
record HasSides (all : List Instance) (parent : Option ℕ) (index : ℕ) (copies : Copies) (rest : List CopyEntry) (xs : List Instance)
    (us : List UnitParts) : Type 0 where
  tree : Instances
  instances : List Instance
  jobs : List BuildJob
  units : List UnitParts
  many : instances_in tree ≡ copies_in copies
  table : entries_of xs us ≡ listed parent index tree ++ entries_of instances units
  are_copies : AreCopiesOf rest instances jobs
  are_built : AllZip IsUnitOf jobs units
  are_of : AreOf all (index + copies_in copies) instances units
  are_made : AreMade all index copies tree

-- an instance, those in it and those behind it
entries_joined : (parent place : Option ℕ) (index n m name : ℕ) (u : SizedUnit) (inner later : Instances) (es mid behind : List Entry)
    → parent ≡ place → n ≡ m
    → es ≡ listed (Some index) (suc index) inner ++ mid → mid ≡ listed parent (suc index + m) later ++ behind
    → record { parent = place; name = name; unit = u } ∷ es
    ≡ record { parent = parent; name = name; unit = u } ∷ ((listed (Some index) (suc index) inner ++ listed parent (suc index + n) later) ++ behind)
entries_joined parent place index n m name u inner later es mid behind same few first second =
    let these = listed (Some index) (suc index) inner in
    let joined : es ≡ (these ++ listed parent (suc index + n) later) ++ behind =
    first ∙ ap (λ (zs : List Entry). these ++ zs) (second ∙ ap (λ i. listed parent (suc index + i) later ++ behind) (sym few))
    ∙ sym (append_assoc these (listed parent (suc index + n) later) behind) in
    ap (λ (p : Option ℕ). record { parent = p; name = name; unit = u } ∷ es) (sym same)
    ∙ ap (λ (zs : List Entry). record { parent = parent; name = name; unit = u } ∷ zs) joined

sides : (all : List Instance) (parent : Option ℕ) (index : ℕ) (copies : Copies) (rest : List CopyEntry) (xs : List Instance) (jobs : List BuildJob)
    (us : List UnitParts)
    → AreCopiesOf (copies_listed parent index copies ++ rest) xs jobs → AllZip IsUnitOf jobs us → AreOf all index xs us
    → HasSides all parent index copies rest xs us
sides all parent index Nothing rest xs jobs us copies builds are = record {
  tree = t.Nothing;
  instances = xs;
  jobs = jobs;
  units = us;
  many = refl;
  table = refl;
  are_copies = copies;
  are_built = builds;
  are_of = subst (λ n. AreOf all n xs us) (omega arith) are;
  are_made = tt;
}
sides all parent index (One c within after) rest [] jobs us copies builds are = absurd copies
sides all parent index (One c within after) rest (x ∷ xs) [] us copies builds are = absurd copies
sides all parent index (One c within after) rest (x ∷ xs) (job ∷ jobs) [] copies builds are = absurd builds
sides all parent index (One c within after) rest (x ∷ xs) (job ∷ jobs) (u ∷ us) copies builds (more ports shapes others) =
    let name = x.place.name.0 in
    let next = suc index + copies_in within in
    let within_copies = copies_listed (Some index) (suc index) within in
    let later_copies = copies_listed parent next after in
    let inner = sides all (Some index) (suc index) within (later_copies ++ rest) xs jobs us
    (subst (λ (es : List CopyEntry). AreCopiesOf es xs jobs) (append_assoc within_copies later_copies rest) copies.1)
    builds.1 others in
    let later = sides all parent next after rest inner.instances inner.jobs inner.units inner.are_copies inner.are_built inner.are_of in
    record {
      tree = t.One name (sized_unit u) inner.tree later.tree;
      instances = later.instances;
      jobs = later.jobs;
      units = later.units;
      many = (let first = inner.many in let second = later.many in omega (arith, first, second));
      table = entries_joined parent x.place.parent index (instances_in inner.tree) (copies_in within) name (sized_unit u) inner.tree later.tree
          (entries_of xs us) (entries_of inner.instances inner.units) (entries_of later.instances later.units) copies.0.place inner.many inner.table later.table;
      are_copies = later.are_copies;
      are_built = later.are_built;
      are_of = subst (λ n. AreOf all n later.instances later.units) (omega arith) later.are_of;
      are_made = (
        record {
          job = job;
          steps = copies.0.steps;
          signals = copies.0.signals;
          copied = copies.0.copied;
          made = builds.0 ∙ ap (λ (ss : List ChildShape). Ok (record { unit = sized_unit u; shapes = ss })) shapes;
        },
        (inner.are_made, later.are_made),
      );
    }

-- ---- the ports of those within are among their signals

abbrev alone : ℕ → Entry → Entry
alone first x = x

abbrev HaveRoom : List Entry → List Instance → Type 0
HaveRoom [] [] = Unit {0}
HaveRoom [] (x ∷ xs) = ⊥
HaveRoom (e ∷ es) [] = ⊥
HaveRoom (e ∷ es) (x ∷ xs) = (length x.ports ≤ length e.unit.signals) × HaveRoom es xs

ports_few : (u : UnitParts) (x : Instance) → HasPorts u x.clock x.ports → length x.ports ≤ length (sized_unit u).signals
ports_few u x is =
    let widths = map (λ (s : UnitSignal). s.width) u.signals.items in
    let few = length-take (length x.ports) widths in
    let taken = ap (λ (ws : List ℕ). length ws) is.widths in
    let ports = length-map x.ports (λ (p : PortShape). p.width) in
    let signals = length-map u.signals.items (λ (s : UnitSignal). s.width) in
    let units = length-map u.signals.items signal_within in
    omega (arith, few, taken, ports, signals, units)

one_more : (b : Bool) (e : Entry) (es : List Entry) (x : Instance) (xs : List Instance) → length x.ports ≤ length e.unit.signals → HaveRoom es xs
    → HaveRoom (cond b (e ∷ []) [] ++ es) (cond b (x ∷ xs) xs)
one_more true e es x xs few rest = (few, rest)
one_more false e es x xs few rest = rest

kids_room : (all : List Instance) (k first j : ℕ) (xs : List Instance) (us : List UnitParts) → AreOf all j xs us
    → HaveRoom (kids_by alone k first (entries_of xs us)) (children_of k xs)
kids_room all k first j [] [] none = tt
kids_room all k first j [] (u ∷ us) are = elim are [ ]
kids_room all k first j (x ∷ xs) [] are = elim are [ ]
kids_room all k first j (x ∷ xs) (u ∷ us) (more ports shapes rest) =
    one_more (stands_in k x.place.parent) (entry_of x u) _ x (children_of k xs) (ports_few u x ports)
    (kids_room all k (first + length (sized_unit u).signals) (suc j) xs us rest)

made_ports : (all : List Instance) (index first : ℕ) (parent : Option ℕ) (copies : Copies) (tree : Instances) (ys : List Instance)
    → AreMade all index copies tree
    → HaveRoom (tops_by alone parent first tree) ys → HavePorts (map shape_of ys) copies
made_ports all index first parent Nothing t.Nothing [] made room = tt
made_ports all index first parent Nothing t.Nothing (y ∷ ys) made room = absurd room
made_ports all index first parent Nothing (t.One name u inner later) ys made room = absurd made
made_ports all index first parent (One c within after) t.Nothing ys made room = absurd made
made_ports all index first parent (One c within after) (t.One name u inner later) [] made room = absurd room
made_ports all index first parent (One c within after) (t.One name u inner later) (y ∷ ys) made room =
    let m = made.0 in
    let long = unit_long c u (unit_made c name u m.job (map shape_of (children_of index all)) m.steps m.signals m.copied m.made) in
    let few = room.0 in (
      omega (arith, long, few),
      made_ports all (suc index + copies_in within) (first + length u.signals + signals_in inner) parent after later ys made.1.1 room.1,
    )

-- ---- all of them

made_many : (all : List Instance) (index : ℕ) (copies : Copies) (tree : Instances) → AreMade all index copies tree
    → instances_in tree ≡ copies_in copies
made_many all index Nothing t.Nothing made = refl
made_many all index Nothing (t.One name u inner later) made = absurd made
made_many all index (One c within after) t.Nothing made = absurd made
made_many all index (One c within after) (t.One name u inner later) made =
    ap₂ (λ m n. suc (m + n)) (made_many all (suc index) within inner made.1.0) (made_many all (suc index + copies_in within) after later made.1.1)

all_built : (all : List Instance) (us : List UnitParts) (index first : ℕ) (copies : Copies) (tree : Instances) → AreOf all 0 all us
    → HasKids alone (entries_of all us) index first tree → AreMade all index copies tree → AreBuilt copies tree
all_built all us index first Nothing t.Nothing are kids made = tt
all_built all us index first Nothing (t.One name u inner later) are kids made = absurd made
all_built all us index first (One c within after) t.Nothing are kids made = absurd made
all_built all us index first (One c within after) (t.One name u inner later) are kids made =
    let m = made.0 in
    let second = first + length u.signals in
    let ports = made_ports all (suc index) second (Some index) within inner (children_of index all) made.1.0
    (subst (λ es. HaveRoom es (children_of index all)) kids.0 (kids_room all index 0 0 all us are)) in
    let many = made_many all (suc index) within inner made.1.0 in (
      record {
        job = m.job;
        shapes = map shape_of (children_of index all);
        steps = m.steps;
        signals = m.signals;
        copied = m.copied;
        made = m.made;
        ports = ports;
      },
      (
        all_built all us (suc index) second within inner are kids.1 made.1.0,
        all_built all us (suc index + copies_in within) (second + signals_in inner) after later are
            (subst (λ n. HasKids alone (entries_of all us) (suc index + n) (second + signals_in inner) later) many kids.2) made.1.1,
      ),
    )

-- a table of instances has a tree, whose units are those of the copies
pub record HasBuilt (xs : List Instance) (us : List UnitParts) (copies : Copies) : Type 0 where
  pub tree : Instances
  pub table : IsTreeOf xs us tree
  pub are_built : AreBuilt copies tree

no_instances : (xs : List Instance) (jobs : List BuildJob) (us : List UnitParts) → AreCopiesOf [] xs jobs → entries_of xs us ≡ []
no_instances [] jobs us h = refl
no_instances (x ∷ xs) jobs us h = absurd h

pub table_built : (xs : List Instance) (jobs : List BuildJob) (us : List UnitParts) (copies : Copies) → IsTableOf xs jobs copies
    → AllZip IsUnitOf jobs us
    → AreOf xs 0 xs us → HasBuilt xs us copies
table_built xs jobs us copies table builds are =
    let s = sides xs None 0 copies [] xs jobs us
    (subst (λ (es : List CopyEntry). AreCopiesOf es xs jobs) (sym (append-nil (copies_listed None 0 copies))) table) builds are in
    let all : listed None 0 s.tree ≡ entries_of xs us =
    sym (s.table
    ∙ ap (λ es. listed None 0 s.tree ++ es) (no_instances s.instances s.jobs s.units s.are_copies)
    ∙ append-nil (listed None 0 s.tree)) in
    record {
      tree = s.tree;
      table = all;
      are_built = all_built xs us 0 0 copies s.tree are (subst (λ es. HasKids alone es 0 0 s.tree) all (has_kids alone s.tree)) s.are_made;
    }

-- what is linked from the units that are built from jobs is the flat design of the modules of these jobs
pub linked_is_flat : (xs : List Instance) (jobs : List BuildJob) (us : List UnitParts) (copies : Copies) (tree : Instances) → IsTableOf xs jobs copies
    → AllZip IsUnitOf jobs us → AreOf xs 0 xs us → IsTreeOf xs us tree → flat_of_tree tree ≡ flat copies
linked_is_flat xs jobs us copies tree table builds are is =
    let there = table_built xs jobs us copies table builds are in
    ap flat_of_tree (one_tree tree there.tree (is ∙ sym there.table)) ∙ built_is_flat copies there.tree there.are_built

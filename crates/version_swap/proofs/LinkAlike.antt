-- What the nodes and signals of a design are called by two tables of names, and the faults of linking, which show it.
use Rattle.std.proofs.Common.{◌≡◌, ◌∙◌, ℕ, zero, suc, ◌<◌, ◌≤◌, List, [], ◌∷◌, ◌++◌, All, length, map, codes, refl, sym, ap, ap₂, subst, arith}
use Rattle.std.specs.Prelude.{Option, Some, None}
use Rattle.std.proofs.lemmas.List.Elements.{All-head, All-tail}
use Rattle.ls_text.specs.declared.at.At.TheVariants.{Edit}
use Rattle.ls_text.specs.declared.fault.Fault.{Fault}
use Rattle.ls_text.specs.declared.name_id.NameId.{NameId}
use Rattle.ls_text.specs.declared.refusal.Refusal.TheVariants as refusal
use Rattle.ls_text.specs.Readings.{TextFault, fault_view}
use Rattle.ls_text.specs.Texts.{Grows, text_at}
use Rattle.ls_text.proofs.Growth.{grown_text}
use Rattle.ls_text.proofs.Lists.{same_map}
use Rattle.typed_ir.specs.declared.span.Span.{Span}
use Rattle.typed_ir.specs.declared.target_form.TargetForm.{TargetForm}
use Rattle.typed_ir.specs.Cycles.{Signal, Flat}
use Rattle.typed_ir.specs.Nodes.{FlatNode}
use Rattle.typed_ir.specs.Orders.{at_or}
use Rattle.comb_order.specs.Loops.{IsLoop}
use Rattle.comb_order.specs.Refusals.{NodeBefore}
use Rattle.comb_order.proofs.Loops.{one_loop}
use Rattle.elaborate.specs.Renaming.{SpellsSame, number_as}
use Rattle.version_swap.specs.RenamedFindings.{unit_signal_as}
use Rattle.link.specs.Faults.{IsLinkFault, too_many, loop_of, HasNoLinkFault}
use Rattle.typed_ir.specs.Paths.{joined}
use Rattle.link.specs.Names.{select_text, first_target, target_text, form_of, node_text}
use Rattle.version_swap.specs.FlatRenaming.{flat_as}
use Rattle.version_swap.specs.OnePlan.{last_text}
use Rattle.version_swap.proofs.FlatAlike.{IsSignalIn}

-- ---- paths

pub path_grown : (old new : List (List ℕ)) (path : List ℕ) → Grows old new → All (λ (n : ℕ). n < length old) path
    → joined new path ≡ joined old path
path_grown old new [] grows within = refl
path_grown old new (n ∷ []) grows within = grown_text old new n grows (All-head (λ (m : ℕ). m < length old) n [] within)
path_grown old new (n ∷ m ∷ path) grows within =
    let P = λ (k : ℕ). k < length old in
    ap₂ (λ (text more : List ℕ). text ++ (codes "." ++ more)) (grown_text old new n grows (All-head P n (m ∷ path) within))
    (path_grown old new (m ∷ path) grows (All-tail P n (m ∷ path) within))

pub path_spelled : (f : NameId → NameId) (texts others : List (List ℕ)) (path : List ℕ) → SpellsSame f texts others
    → joined others (map (number_as f) path) ≡ joined texts path
path_spelled f texts others [] same = refl
path_spelled f texts others (n ∷ []) same = same (record { 0 = n })
path_spelled f texts others (n ∷ m ∷ path) same =
    ap₂ (λ (text more : List ℕ). text ++ (codes "." ++ more)) (same (record { 0 = n })) (path_spelled f texts others (m ∷ path) same)

pub names_grown : (old new : List (List ℕ)) (path : List ℕ) → Grows old new → All (λ (n : ℕ). n < length old) path
    → map (text_at new) path ≡ map (text_at old) path
names_grown old new [] grows within = refl
names_grown old new (n ∷ path) grows within =
    let P = λ (k : ℕ). k < length old in
    ap₂ (λ (text : List ℕ) (more : List (List ℕ)). text ∷ more) (grown_text old new n grows (All-head P n path within))
    (names_grown old new path grows (All-tail P n path within))

pub names_spelled : (f : NameId → NameId) (texts others : List (List ℕ)) (path : List ℕ) → SpellsSame f texts others
    → map (text_at others) (map (number_as f) path) ≡ map (text_at texts) path
names_spelled f texts others [] same = refl
names_spelled f texts others (n ∷ path) same =
    ap₂ (λ (text : List ℕ) (more : List (List ℕ)). text ∷ more) (same (record { 0 = n })) (names_spelled f texts others path same)

pub own_grown : (old new : List (List ℕ)) (path : List ℕ) → Grows old new → All (λ (n : ℕ). n < length old) path
    → last_text new path ≡ last_text old path
own_grown old new [] grows within = refl
own_grown old new (n ∷ []) grows within = grown_text old new n grows (All-head (λ (m : ℕ). m < length old) n [] within)
own_grown old new (n ∷ m ∷ path) grows within =
    own_grown old new (m ∷ path) grows (All-tail (λ (k : ℕ). k < length old) n (m ∷ path) within)

pub own_spelled : (f : NameId → NameId) (texts others : List (List ℕ)) (path : List ℕ) → SpellsSame f texts others
    → last_text others (map (number_as f) path) ≡ last_text texts path
own_spelled f texts others [] same = refl
own_spelled f texts others (n ∷ []) same = same (record { 0 = n })
own_spelled f texts others (n ∷ m ∷ path) same = own_spelled f texts others (m ∷ path) same

-- ---- nodes

abbrev signal_text : List (List ℕ) → TargetForm → Span → Signal → List ℕ
signal_text names form p x = joined names x.path ++ select_text form x.lsb p

signal_grown : (old new : List (List ℕ)) (form : TargetForm) (p : Span) (k : ℕ) (xs : List Signal) → Grows old new → All (IsSignalIn old) xs
    → at_or (signal_text new form p) [] xs k ≡ at_or (signal_text old form p) [] xs k
signal_grown old new form p k [] grows within = refl
signal_grown old new form p zero (x ∷ xs) grows within =
    ap (λ (text : List ℕ). text ++ select_text form x.lsb p) (path_grown old new x.path grows (All-head (IsSignalIn old) x xs within).path)
signal_grown old new form p (suc k) (x ∷ xs) grows within = signal_grown old new form p k xs grows (All-tail (IsSignalIn old) x xs within)

signal_spelled : (f : NameId → NameId) (texts others : List (List ℕ)) (form : TargetForm) (p : Span) (k : ℕ) (xs : List Signal)
    → SpellsSame f texts others
    → at_or (signal_text others form p) [] (map (unit_signal_as f) xs) k ≡ at_or (signal_text texts form p) [] xs k
signal_spelled f texts others form p k [] same = refl
signal_spelled f texts others form p zero (x ∷ xs) same =
    ap (λ (text : List ℕ). text ++ select_text form x.lsb p) (path_spelled f texts others x.path same)
signal_spelled f texts others form p (suc k) (x ∷ xs) same = signal_spelled f texts others form p k xs same

target_grown : (old new : List (List ℕ)) (xs : List Signal) (form : TargetForm) (p : Option Span) → Grows old new → All (IsSignalIn old) xs
    → target_text new xs form p ≡ target_text old xs form p
target_grown old new xs form None grows within = refl
target_grown old new xs form (Some p) grows within = signal_grown old new form p p.signal xs grows within

target_spelled : (f : NameId → NameId) (texts others : List (List ℕ)) (xs : List Signal) (form : TargetForm) (p : Option Span)
    → SpellsSame f texts others
    → target_text others (map (unit_signal_as f) xs) form p ≡ target_text texts xs form p
target_spelled f texts others xs form None same = refl
target_spelled f texts others xs form (Some p) same = signal_spelled f texts others form p p.signal xs same

nodes_alike : (one other : FlatNode → List ℕ) (nodes : List FlatNode) (k : ℕ) → ((n : FlatNode) → one n ≡ other n)
    → at_or one [] nodes k ≡ at_or other [] nodes k
nodes_alike one other [] k same = refl
nodes_alike one other (n ∷ nodes) zero same = same n
nodes_alike one other (n ∷ nodes) (suc k) same = nodes_alike one other nodes k same

pub node_grown : (old new : List (List ℕ)) (design : Flat) (k : ℕ) → Grows old new → All (IsSignalIn old) design.signals
    → node_text new design k ≡ node_text old design k
unfolding node_text
node_grown old new design k grows within =
    nodes_alike (λ n. target_text new design.signals (form_of n) (first_target n))
    (λ n. target_text old design.signals (form_of n) (first_target n))
    design.nodes k (λ n. target_grown old new design.signals (form_of n) (first_target n) grows within)

pub node_spelled : (f : NameId → NameId) (texts others : List (List ℕ)) (design : Flat) (k : ℕ) → SpellsSame f texts others
    → node_text others (flat_as f design) k ≡ node_text texts design k
unfolding node_text
node_spelled f texts others design k same =
    nodes_alike (λ n. target_text others (map (unit_signal_as f) design.signals) (form_of n) (first_target n))
    (λ n. target_text texts design.signals (form_of n) (first_target n))
    design.nodes k (λ n. target_spelled f texts others design.signals (form_of n) (first_target n) same)

-- ---- faults of linking

abbrev viewed : ℕ → List (List ℕ) → TextFault
viewed code words = record { code = code; at = Edit; words = words }

many_and_few : (a b most : ℕ) → most < a → b ≤ most → a ≡ b → ⊥
many_and_few a b most many few same = omega (arith, many, few, same)

-- of two designs with the same nodes, which are called the same
module _ (most : ℕ) (texts names words others : List (List ℕ)) (d e : Flat) (nodes : d.nodes ≡ e.nodes)
    (called : (k : ℕ) → node_text texts d k ≡ node_text words e k) where
  same_loop : (first : ℕ) (rest : List ℕ) (other : ℕ) (more : List ℕ) → IsLoop (NodeBefore d.nodes) (length d.nodes) first rest
      → IsLoop (NodeBefore e.nodes) (length e.nodes) other more → first ∷ rest ≡ other ∷ more
  same_loop first rest other more loop also =
      one_loop (NodeBefore d.nodes) (length d.nodes) first rest other more loop
      (subst (λ (ns : List FlatNode). IsLoop (NodeBefore ns) (length ns) other more) (sym nodes) also)

  pub one_fault : (f g : Fault) → IsLinkFault most texts names d (refusal.Fault f) → IsLinkFault most words others e (refusal.Fault g)
      → fault_view names f ≡ fault_view others g
  one_fault f g (too_many many) (too_many also) = refl
  one_fault f g (too_many many) (loop_of few loop shown within) =
      absurd (many_and_few (length d.nodes) (length e.nodes) most many few (ap length nodes))
  one_fault f g (loop_of few loop shown within) (too_many many) =
      absurd (many_and_few (length e.nodes) (length d.nodes) most many few (ap length (sym nodes)))
  one_fault f g (loop_of {first = first} {rest = rest} few loop shown within) (loop_of {first = other} {rest = more} low also told inside) =
      ap (viewed 39)
      (shown ∙ same_map (node_text texts d) (node_text words e) called (first ∷ rest)
      ∙ ap (map (node_text words e)) (same_loop first rest other more loop also) ∙ sym told)

  pub not_linked : (f : Fault) → IsLinkFault most texts names d (refusal.Fault f) → HasNoLinkFault most e → ⊥
  not_linked f (too_many many) none = many_and_few (length d.nodes) (length e.nodes) most many none.few (ap length nodes)
  not_linked f (loop_of {first = first} {rest = rest} few loop shown within) none =
      none.no_loop first rest (subst (λ (ns : List FlatNode). IsLoop (NodeBefore ns) (length ns) first rest) nodes loop)

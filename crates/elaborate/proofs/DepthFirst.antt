-- The instances of a design stand depth first: the top, and each other in one that is still open.
use Rattle.std.proofs.Common.{◌≡◌, ◌<◌, ◌≤◌, ◌==◌, ℕ, zero, suc, Bool, true, ◌&&◌, nat_lt, if◌then◌else◌, List, [], ◌∷◌, ◌++◌, map, length, Result, Ok, Err, refl, sym, ◌∙◌, ap, subst, arith, append_assoc, append-nil}
use Rattle.std.specs.Prelude.{Option, Some, None, nat_le}
use Rattle.std.proofs.lemmas.Bool.{cond-true, cond-false, eq-eqb, ne_eqb, lt-ltb}
use Rattle.std.proofs.lemmas.List.{length_push, map_push, length-map}
use Rattle.ls_text.specs.declared.fault.Fault.{Fault}
use Rattle.verilog_ast.specs.Items.{ModuleDeclaration}
use Rattle.typed_ir.specs.Instances.{closed_to, goes_down, is_depth_first}
use Rattle.ls_text.specs.Answers.{◌>>=◌}
use Rattle.gen_unroll.proofs.Answered.{err_or_ok, ok_same, first_step, past_test}
use Rattle.elaborate.specs.declared.limits.Limits.{Limits}
use Rattle.elaborate.specs.Checks.{ModuleChild}
use Rattle.elaborate.specs.Elaborated.{Standing, Step, standing, top_standing, first_clock, clocks_behind, each_child, within as instances_within, is_on, of_module, child_at, top_of, from_top, elaborated}
use Rattle.elaborate.specs.Visits.{Visited, visited}
use Rattle.elaborate.specs.Clocks.{top_clock}
use Rattle.elaborate.specs.Checks.{or_no_module}
use Rattle.module_names.specs.Modules.{module_named}
use Rattle.width_rules.specs.Faults.{fault_at}

-- ---- which instances are open behind the last one

-- where these are the places that the instances stand in, these are open, the innermost first
data Opens : List (Option ℕ) → List ℕ → Type 0 where
  top : Opens (None ∷ []) (0 ∷ [])
  next : (ps : List (Option ℕ)) (os : List ℕ) (p : ℕ) (around : List ℕ) → Opens ps os → closed_to p os ≡ p ∷ around → Opens (ps ++ Some p ∷ []) (length ps ∷ p ∷ around)

go_on : (p k : ℕ) (os around : List ℕ) (qs : List (Option ℕ)) → closed_to p os ≡ p ∷ around → goes_down os k (Some p ∷ qs) ≡ goes_down (k ∷ p ∷ around) (suc k) qs
go_on p k os around qs is =
    ap (λ (xs : List ℕ). nat_lt 0 (length xs) && goes_down (k ∷ xs) (suc k) qs) is
    ∙ ap (λ (b : Bool). b && goes_down (k ∷ p ∷ around) (suc k) qs) (lt-ltb 0 (suc (length around)) (omega arith))

-- what is behind them has only to go on from there
behind : (ps : List (Option ℕ)) (os : List ℕ) → Opens ps os → (qs : List (Option ℕ)) → is_depth_first (ps ++ qs) ≡ goes_down os (length ps) qs
behind ps os top qs = refl
behind ps os (next ps0 os0 p around opens is) qs =
    let more : suc (length ps0) ≡ length (ps0 ++ Some p ∷ []) = omega (arith, length_push ps0 (Some p)) in
    ap is_depth_first (append_assoc ps0 (Some p ∷ []) qs)
    ∙ behind ps0 os0 opens (Some p ∷ qs)
    ∙ go_on p (length ps0) os0 around qs is
    ∙ ap (λ (k : ℕ). goes_down (length ps0 ∷ p ∷ around) k qs) more

all_down : (ps : List (Option ℕ)) (os : List ℕ) → Opens ps os → is_depth_first ps ≡ true
all_down ps os opens = ap is_depth_first (sym (append-nil ps)) ∙ behind ps os opens []

-- ---- what stays open around an instance

-- above these, all that is open has a place from m on
data Over (m : ℕ) (around : List ℕ) : List ℕ → Type 0 where
  itself : Over m around around
  within : (q : ℕ) (qs : List ℕ) → m ≤ q → Over m around qs → Over m around (q ∷ qs)

is_itself : (p : ℕ) (xs ys : List ℕ) → (if p == p then xs else ys) ≡ xs
is_itself p xs ys = cond-true (p == p) xs ys (eq-eqb p p refl)

is_another : (p q : ℕ) (xs ys : List ℕ) → p < q → (if p == q then xs else ys) ≡ ys
is_another p q xs ys h = cond-false (p == q) xs ys (ne_eqb p q (λ e. omega (arith, e, h)))

closes : (m p : ℕ) (around os : List ℕ) → p < m → Over m (p ∷ around) os → closed_to p os ≡ p ∷ around
closes m p around os h itself = is_itself p (p ∷ around) (closed_to p around)
closes m p around os h (within q qs later over) = is_another p q (q ∷ qs) (closed_to p qs) (omega arith) ∙ closes m p around qs h over

wider : (m n : ℕ) (around os : List ℕ) → m ≤ n → Over (suc n) (n ∷ around) os → Over m around os
wider m n around os h itself = within n around h itself
wider m n around os h (within q qs later over) = within q qs (omega arith) (wider m n around qs h over)

-- instances of which these are open, and above the given ones none from before place m
abbrev parent_in : Standing → Option ℕ
parent_in s = s.parent

record Stand (m : ℕ) (around : List ℕ) (all : List Standing) : Type 0 where
  open_ones : List ℕ
  opens : Opens (map parent_in all) open_ones
  over : Over m around open_ones
  room : m ≤ length all

-- ---- one instance more, and those in it

each_stands : (step : Step) (m : ℕ) (around : List ℕ)
    → ((c : ModuleChild) (k : Option ℕ) (all new : List Standing) → Stand m around all → step c k all ≡ Ok new → Stand m around new)
    → (cs : List ModuleChild) (ks : List (Option ℕ)) (all new : List Standing) → Stand m around all → each_child step cs ks all ≡ Ok new → Stand m around new
each_stands step m around one [] ks all new stand is = subst (Stand m around) (ok_same all new is) stand
each_stands step m around one (c ∷ cs) ks all new stand is =
    let s = first_step (step c (first_clock ks) all) (λ more. each_child step cs (clocks_behind ks) more) new is in
    each_stands step m around one cs (clocks_behind ks) s.value new (one c (first_clock ks) all s.value stand s.first) s.second

-- an instance in the one at `above`, and before those in it
one_in : (m above : ℕ) (around : List ℕ) (c : ModuleChild) (k : Option ℕ) (v : Visited) (all : List Standing) → above < m → Stand m (above ∷ around) all
    → Stand (suc (length all)) (length all ∷ above ∷ around) (all ++ standing above c k v ∷ [])
one_in m above around c k v all h stand = record {
  open_ones = length all ∷ above ∷ around;
  opens = subst (λ (ps : List (Option ℕ)). Opens ps (length all ∷ above ∷ around)) (sym (map_push parent_in all (standing above c k v)))
      (subst (λ (n : ℕ). Opens (map parent_in all ++ Some above ∷ []) (n ∷ above ∷ around)) (length-map all parent_in)
      (next (map parent_in all) stand.open_ones above around stand.opens (closes m above around stand.open_ones h stand.over)));
  over = itself;
  room = omega (arith, length_push all (standing above c k v));
}

-- and behind those in it
outside : (m n : ℕ) (around : List ℕ) (new : List Standing) → m ≤ n → Stand (suc n) (n ∷ around) new → Stand m around new
outside m n around new h stand = record {
  open_ones = stand.open_ones;
  opens = stand.opens;
  over = wider m n around stand.open_ones h stand.over;
  room = omega (arith, stand.room, h);
}

child_stands : (l : Limits) (ms : List ModuleDeclaration) (left : ℕ) (path : List ℕ) (above m : ℕ) (around : List ℕ) (c : ModuleChild) (k : Option ℕ) (all new : List Standing) → above < m
    → Stand m (above ∷ around) all → child_at l ms left path above c k all ≡ Ok new → Stand m (above ∷ around) new
child_stands l ms zero path above m around c k all new h stand is = err_or_ok (fault_at 23 c.instantiated) new is
child_stands l ms (suc left) path above m around c k all new h stand is =
    let n = length all in
    let below = child_at l ms left (path ++ c.instantiated.name.0 ∷ []) in
    let named : Result ModuleDeclaration Fault = or_no_module (module_named c.instantiated.name.0 ms) c.instantiated in
    let there = (past_test (nat_le l.instances n) (fault_at 40 c.instantiated) (named >>= λ d. of_module l ms above below c k all d) new
    (past_test (is_on path c.instantiated.name.0) (fault_at 23 c.instantiated)
    (if nat_le l.instances n then Err (fault_at 40 c.instantiated) else (named >>= λ d. of_module l ms above below c k all d)) new is).1).1 in
    let module_step = first_step named (λ d. of_module l ms above below c k all d) new there in
    let visit_step = first_step (visited l.turns ms None module_step.value c.overrides k) (λ v. instances_within (below n) v (all ++ standing above c k v ∷ [])) new module_step.second in
    let v = visit_step.value in
    outside m n (above ∷ around) new stand.room
    (each_stands (below n) (suc n) (n ∷ above ∷ around)
    (λ d q xs ys s e. child_stands l ms left (path ++ c.instantiated.name.0 ∷ []) n (suc n) (above ∷ around) d q xs ys (omega arith) s e)
    v.checks.children v.clocks (all ++ standing above c k v ∷ []) new (one_in m above around c k v all h stand) visit_step.second)

top_stands : (l : Limits) (ms : List ModuleDeclaration) (clock : Option ℕ) (m : ModuleDeclaration) (all : List Standing) → from_top l ms clock m ≡ Ok all → Stand 1 (0 ∷ []) all
top_stands l ms clock m all is =
    let path = m.name.name.0 ∷ [] in
    let s = first_step (visited l.turns ms (Some l.top_ports) m [] clock) (λ v. instances_within (child_at l ms l.levels path 0) v (top_standing m clock v ∷ [])) all is in
    let v = s.value in
    each_stands (child_at l ms l.levels path 0) 1 (0 ∷ [])
    (λ c k xs ys stand e. child_stands l ms l.levels path 0 1 [] c k xs ys (omega arith) stand e)
    v.checks.children v.clocks (top_standing m clock v ∷ []) all
    (record { open_ones = 0 ∷ []; opens = top; over = itself; room = omega arith }) s.second

-- the instances of a design stand depth first
pub depth_first : (l : Limits) (ms : List ModuleDeclaration) (name clock : ℕ) (all : List Standing) → elaborated l ms name clock ≡ Ok all
    → is_depth_first (map (λ (s : Standing). s.parent) all) ≡ true
unfolding elaborated
depth_first l ms name clock all is =
    let s = first_step (top_of l ms name) (λ m. from_top l ms (top_clock clock m) m) all is in
    let stand = top_stands l ms (top_clock clock s.value) s.value all s.second in
    all_down (map parent_in all) stand.open_ones stand.opens

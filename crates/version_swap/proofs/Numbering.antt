-- The ports of a header among the signals that have numbers: each once, in order, and then what is no input.
use Rattle.std.proofs.Common.{◌≡◌, ℕ, ◌==◌, Bool, true, false, not, cond, filter, List, [], ◌∷◌, ◌++◌, length, map, append_assoc, append-nil, Ok}
use Rattle.std.proofs.Common.{refl, sym, ◌∙◌, ap, subst, true≢false}
use Rattle.std.specs.Prelude.{Option, Some, None, is_some}
use Rattle.std.specs.Option.{option_to_list}
use Rattle.std.proofs.lemmas.Bool.{eqb-true, and_parts, and_right}
use Rattle.std.proofs.lemmas.Option.{none-some, same_Some}
use Rattle.typed_ir.proofs.Cases.{turned}
use Rattle.verilog_ast.specs.declared.identifier.Identifier.{Identifier}
use Rattle.verilog_ast.specs.Declarations.{PortDeclaration, InputPort, OutputPort, NextPort, PortList, NoPorts, NamedPorts, DeclaredPorts}
use Rattle.gen_unroll.specs.Declarations as declarations
use Rattle.gen_unroll.specs.Declarations.{declared_width}
use Rattle.gen_unroll.proofs.Answered.{past_need}
use Rattle.module_names.specs.Listings.{is_listed}
use Rattle.module_names.specs.Modules as modules
use Rattle.module_names.specs.Modules.{header_ports}
use Rattle.elaborate.specs.Checks.{is_declared_port, ports_declared}
use Rattle.elaborate.specs.Ports.{outline, port_outline, port_outlines}
use Rattle.elaborate.specs.Tables.{Declaration, Table, declared_as}
use Rattle.gen_unroll.specs.Numbers.{header_names, first_where, is_own_named, number_of_name, with_header_port, ports_onto, is_no_port}
use Rattle.gen_unroll.specs.Numbers.{numbered}
use Rattle.gen_unroll.specs.Places.{first_of}
use Rattle.gen_unroll.specs.Signals.{NamedSignal, is_outermost, is_port, is_port_named}
use Rattle.gen_unroll.proofs.Searching.{place_last}
use Rattle.version_swap.specs.Leading.{IsPortSignal, AreNoInputs, AreLeading, rest, port}
use Rattle.version_swap.proofs.Agreeing.{IsSame, Agree, Agrees, own}
use Rattle.version_swap.proofs.Headers.{AreNew}
use Rattle.version_swap.proofs.PortedJobs.{InputsArePorts}

-- ---- a name of the header

record IsFound (o : Option Declaration) (f : Option NamedSignal) : Type 0 where
  declaration : Declaration
  signal : NamedSignal
  declared : o ≡ Some declaration
  there : f ≡ Some signal
  same : IsSame declaration signal.kind signal.range signal.signed

found : (o : Option Declaration) (f : Option NamedSignal) → Agree o f → is_declared_port o ≡ true → IsFound o f
found None f so is = absurd (true≢false (sym is))
found (Some d) None so is = absurd (true≢false (sym is ∙ so))
found (Some d) (Some x) so is = record { declaration = d; signal = x; declared = refl; there = refl; same = so }

pub first_meets : (test : NamedSignal → Bool) (xs : List NamedSignal) (y : NamedSignal) → first_where test xs ≡ Some y → test y ≡ true
first_meets test [] y h = absurd (none-some y h)
first_meets test (x ∷ xs) y h = cases (test x) refl (first_meets test xs y) h
  where
    cases : (b : Bool) → test x ≡ b → (first_where test xs ≡ Some y → test y ≡ true) → cond b (Some x) (first_where test xs) ≡ Some y → test y ≡ true
    cases true is more e = ap test (sym (same_Some x y e)) ∙ is
    cases false is more e = more e

is_port_signal : (t : Table) (n : Identifier) (d : Declaration) (x : NamedSignal) → declared_as (own n.name.0) t ≡ Some d → x.name.name.0 ≡ n.name.0
    → IsSame d x.kind x.range x.signed
    → IsPortSignal (port_outline t n) x
is_port_signal t n d x is name same = subst (λ (o : Option Declaration). IsPortSignal (outline n o) x) (sym is) (record {
  name = name;
  input = same.input;
  width = ap declared_width same.range_so;
  signed = same.signed_so;
})

-- ---- one after another

-- a name that isn't listed has no number yet
abbrev Unlisted : List Identifier → List NamedSignal → Type 0
Unlisted before out = (q : ℕ) → is_listed q before ≡ false → number_of_name q out ≡ None

listed_more : (q : ℕ) (before : List Identifier) (n : Identifier) → is_listed q (before ++ n ∷ []) ≡ false
    → (is_listed q before ≡ false) × ((q == n.name.0) ≡ false)
listed_more q [] n h = (refl, apart (q == n.name.0) h)
  where
    apart : (b : Bool) → cond b true false ≡ false → b ≡ false
    apart true e = absurd (true≢false e)
    apart false e = refl
listed_more q (m ∷ ms) n h = cases (q == m.name.0) h (listed_more q ms n)
  where
    cases : (b : Bool) → cond b true (is_listed q (ms ++ n ∷ [])) ≡ false
        → (is_listed q (ms ++ n ∷ []) ≡ false → (is_listed q ms ≡ false) × ((q == n.name.0) ≡ false))
        → (cond b true (is_listed q ms) ≡ false) × ((q == n.name.0) ≡ false)
    cases true e more = absurd (true≢false e)
    cases false e more = more e

unlisted_more : (before : List Identifier) (n : Identifier) (out : List NamedSignal) (x : NamedSignal) → x.name.name.0 ≡ n.name.0
    → Unlisted before out
    → Unlisted (before ++ n ∷ []) (out ++ x ∷ [])
unlisted_more before n out x name so q h =
    let parts = listed_more q before n h in
    let other : is_own_named q x ≡ false = and_right (is_outermost x.block) (x.name.name.0 == q)
    (ap (λ (m : ℕ). m == q) name ∙ turned n.name.0 q ∙ parts.1) in
    place_last (is_own_named q) out x
    ∙ ap (λ (o : Option ℕ). first_of o (is_own_named q x) (length out)) (so q parts.0)
    ∙ ap (λ (b : Bool). first_of None b (length out)) other

one_more : (n : Identifier) (xs out : List NamedSignal) (x : NamedSignal) → number_of_name n.name.0 out ≡ None
    → first_where (is_port_named n.name.0) xs ≡ Some x
    → with_header_port xs n out ≡ out ++ x ∷ []
one_more n xs out x none there =
    ap (λ (o : Option ℕ). cond (is_some o) out (out ++ option_to_list (first_where (is_port_named n.name.0) xs))) none
    ∙ ap (λ (o : Option NamedSignal). out ++ option_to_list o) there

-- the ports of these names
record GoOn (ns : List Identifier) (xs out : List NamedSignal) (t : Table) : Type 0 where
  ports : List NamedSignal
  onto : ports_onto ns xs out ≡ out ++ ports
  lead : (others : List NamedSignal) → AreNoInputs others → AreLeading (port_outlines ns t) (ports ++ others)

ports_go_on : (ns before : List Identifier) (xs out : List NamedSignal) (t : Table) → AreNew before ns → Unlisted before out → Agrees t xs
    → ports_declared ns t ≡ Ok tt
    → GoOn ns xs out t
ports_go_on [] before xs out t fresh unlisted so h = record { ports = []; onto = sym (append-nil out); lead = λ others none. rest none }
ports_go_on (n ∷ ns) before xs out t fresh unlisted so h =
    let test = past_need (is_declared_port (declared_as (own n.name.0) t)) _ (ports_declared ns t) tt h in
    let is = found (declared_as (own n.name.0) t) (first_where (is_port_named n.name.0) xs) (so n.name.0) test.0 in
    let meets = and_parts (is_port is.signal) (is.signal.name.name.0 == n.name.0) (first_meets (is_port_named n.name.0) xs is.signal is.there) in
    let name = eqb-true is.signal.name.name.0 n.name.0 meets.1 in
    let more = ports_go_on ns (before ++ n ∷ []) xs (out ++ is.signal ∷ []) t fresh.1
    (unlisted_more before n out is.signal name unlisted) so test.1 in
    record {
      ports = is.signal ∷ more.ports;
      onto = ap (ports_onto ns xs) (one_more n xs out is.signal (unlisted n.name.0 fresh.0) is.there) ∙ more.onto
          ∙ append_assoc out (is.signal ∷ []) more.ports;
      lead = λ others none. port (is_port_signal t n is.declaration is.signal is.declared name is.same) (more.lead others none);
    }

-- ---- all that have numbers

no_inputs_left : (xs : List NamedSignal) → InputsArePorts xs → AreNoInputs (filter is_no_port xs)
no_inputs_left [] so = tt
no_inputs_left (x ∷ xs) so = cases (is_port x) refl (no_inputs_left xs so.1)
  where
    cases : (b : Bool) → is_port x ≡ b → AreNoInputs (filter is_no_port xs)
        → AreNoInputs (cond (not b) (x ∷ filter is_no_port xs) (filter is_no_port xs))
    cases true is others = others
    cases false is others = (so.0 is, others)

same_name : (p : PortDeclaration) → declarations.port_name p ≡ modules.port_name p
same_name (InputPort at by k n) = refl
same_name (OutputPort at by k x) = refl
same_name (NextPort x) = refl

same_names : (ps : List PortDeclaration) → map declarations.port_name ps ≡ map modules.port_name ps
same_names [] = refl
same_names (p ∷ ps) = ap (λ (n : Identifier). n ∷ map declarations.port_name ps) (same_name p)
    ∙ ap (λ (ns : List Identifier). modules.port_name p ∷ ns) (same_names ps)

same_header : (ports : PortList) → header_names ports ≡ header_ports ports
same_header NoPorts = refl
same_header (NamedPorts ns) = refl
same_header (DeclaredPorts ps) = same_names ps

pub ports_lead_numbered : (ports : PortList) (xs : List NamedSignal) (t : Table) → AreNew [] (header_ports ports) → Agrees t xs → InputsArePorts xs
    → ports_declared (header_ports ports) t ≡ Ok tt → AreLeading (port_outlines (header_ports ports) t) (numbered (header_names ports) xs)
ports_lead_numbered ports xs t fresh so inputs h =
    let is = ports_go_on (header_ports ports) [] xs [] t fresh (λ q none. refl) so h in
    subst (λ (ns : List Identifier). AreLeading (port_outlines (header_ports ports) t) (numbered ns xs)) (sym (same_header ports))
    (subst (λ (ys : List NamedSignal). AreLeading (port_outlines (header_ports ports) t) (ys ++ filter is_no_port xs)) (sym is.onto)
    (is.lead (filter is_no_port xs) (no_inputs_left xs inputs)))

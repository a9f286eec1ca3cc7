-- How a module's own checks end: with the fault of a step, with that of its unrolling, or with that of its header.
use Rattle.std.proofs.Common.{◌≡◌, Bool, true, false, List, Result, Ok, Err, refl, sym, ◌∙◌, ap, true≢false}
use Rattle.std.specs.Prelude.{Option, Some, None}
use Rattle.ls_text.specs.declared.fault.Fault.{Fault}
use Rattle.ls_text.specs.declared.refusal.Refusal.{Refusal}
use Rattle.ls_text.specs.declared.refusal.Refusal.TheVariants as refusal
use Rattle.verilog_ast.specs.Items.{ModuleDeclaration}
use Rattle.gen_unroll.specs.Reaches.{reach_in}
use Rattle.gen_unroll.specs.Steps.{ModuleStep}
use Rattle.gen_unroll.specs.Told.{Told, fault_in}
use Rattle.gen_unroll.specs.Unrolled.{State}
use Rattle.ls_text.specs.Answers.{◌>>=◌, Answers, Leads}
use Rattle.elaborate.specs.Checks.{Checked, check_steps, check_told, ended, nothing_checked, ports_declared}
use Rattle.module_names.specs.Modules.{header_ports}

-- with what the steps give
told : (ms : List ModuleDeclaration) (m : ModuleDeclaration) (t : Told State) (said : List ModuleStep) (start : Checked) (r : Result Checked Fault)
    → start ≡ nothing_checked → said ≡ t.said → check_steps ms (reach_in m) said start ≡ r → check_told ms m t ≡ ended m r t.ending
told ms m t said start r begun same is =
    ap (λ zs. ended m (check_steps ms (reach_in m) zs nothing_checked) t.ending) (sym same)
    ∙ ap (λ (s : Checked). ended m (check_steps ms (reach_in m) said s) t.ending) (sym begun)
    ∙ ap (λ x. ended m x t.ending) is

abbrev is_some : Option Fault → Bool
is_some None = false
is_some (Some f) = true

abbrev or_fault : Result Checked Fault → Option Fault → Result Checked Fault
or_fault x None = x
or_fault x (Some z) = Err z

stopped : (e : Result State Fault) (f : Fault) (x : Result Checked Fault) → Some f ≡ fault_in e → (e >>= λ _. x) ≡ Err f
stopped (Ok s) f x h = absurd (true≢false (ap is_some h))
stopped (Err g) f x h = ap (or_fault x) (sym h)

passed : (e : Result State Fault) (x : Result Checked Fault) → None ≡ fault_in e → (e >>= λ _. x) ≡ x
passed (Ok s) x h = refl
passed (Err g) x h = absurd (true≢false (sym (ap is_some h)))

-- a step is refused
pub step_refused : (ms : List ModuleDeclaration) (m : ModuleDeclaration) (t : Told State) (said : List ModuleStep) (start before now : Checked) (r : Refusal)
    → start ≡ nothing_checked → said ≡ t.said → Leads {A = Unit {0}} (Err r) before (check_steps ms (reach_in m) said start)
    → Leads {A = Unit {0}} (Err r) now (check_told ms m t)
step_refused ms m t said start before now (refusal.Fault f) begun same bad = told ms m t said start (Err f) begun same bad
step_refused ms m t said start before now refusal.NoMemory begun same bad = tt

-- unrolling was refused behind them
pub unrolling_refused : (ms : List ModuleDeclaration) (m : ModuleDeclaration) (t : Told State) (said : List ModuleStep) (start c : Checked) (f : Fault)
    → start ≡ nothing_checked → said ≡ t.said → check_steps ms (reach_in m) said start ≡ Ok c → Some f ≡ fault_in t.ending → check_told ms m t ≡ Err f
unrolling_refused ms m t said start c f begun same good ends =
    told ms m t said start (Ok c) begun same good ∙ stopped t.ending f (ports_declared (header_ports m.ports) c.declared >>= λ _. Ok c) ends

-- a name of the header is refused
pub header_refused : (ms : List ModuleDeclaration) (m : ModuleDeclaration) (t : Told State) (said : List ModuleStep) (start c now : Checked) (r : Refusal)
    → start ≡ nothing_checked → said ≡ t.said → check_steps ms (reach_in m) said start ≡ Ok c → None ≡ fault_in t.ending
    → Answers {A = Unit {0}} (Err r) (λ x. x) (ports_declared (header_ports m.ports) c.declared)
    → Leads {A = Unit {0}} (Err r) now (check_told ms m t)
header_refused ms m t said start c now (refusal.Fault f) begun same good ends bad =
    told ms m t said start (Ok c) begun same good ∙ passed t.ending (ports_declared (header_ports m.ports) c.declared >>= λ _. Ok c) ends
    ∙ ap (λ (z : Result (Unit {0}) Fault). z >>= λ _. Ok c) bad
header_refused ms m t said start c now refusal.NoMemory begun same good ends bad = tt

-- nothing is
pub all_passed : (ms : List ModuleDeclaration) (m : ModuleDeclaration) (t : Told State) (said : List ModuleStep) (start c : Checked)
    → start ≡ nothing_checked → said ≡ t.said → check_steps ms (reach_in m) said start ≡ Ok c → None ≡ fault_in t.ending
    → ports_declared (header_ports m.ports) c.declared ≡ Ok tt → check_told ms m t ≡ Ok c
all_passed ms m t said start c begun same good ends fine =
    told ms m t said start (Ok c) begun same good ∙ passed t.ending (ports_declared (header_ports m.ports) c.declared >>= λ _. Ok c) ends
    ∙ ap (λ (z : Result (Unit {0}) Fault). z >>= λ _. Ok c) fine

pub ruleset endings = (step_refused, unrolling_refused, header_refused, all_passed)

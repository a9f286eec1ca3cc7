-- Mentions of the clock under other names.
use Rattle.std.proofs.Common.{◌≡◌, ℕ, Bool, if◌then◌else◌, List, [], ◌∷◌, map, Option, Some, None, Result, refl, ap, ap₂}
use Rattle.std.specs.Option.{option_map}
use Rattle.ls_text.specs.declared.fault.Fault.{Fault}
use Rattle.ls_text.specs.declared.name_id.NameId.{NameId}
use Rattle.verilog_ast.specs.declared.identifier.Identifier.{Identifier}
use Rattle.verilog_ast.specs.Expressions.{Expression, Literal, Whole, BitSelect, PartSelect, UpwardSelect, DownwardSelect, Unary, Binary, Conditional, Concatenation, Replication, Bracketed, NoPart, Parts, Target, Reference, Joined, NoTarget, Targets}
use Rattle.verilog_ast.specs.Statements.{CaseLabel, DontCare, Compared, Statement, Block, If, IfElse, Case, Assignment, Null, Default, Match, NoStatement, Statements}
use Rattle.verilog_ast.specs.Declarations.{PortDeclaration, InputPort, OutputPort, NextPort}
use Rattle.verilog_ast.specs.Items.{ContinuousAssignment}
use Rattle.verilog_ast.specs.Renamed.{renamed_identifier}
use Rattle.verilog_ast.specs.Renaming.{expression_as, target_as, label_as, statement_as, assignment_as, port_as}
use Rattle.width_rules.specs.Renaming.{MeansSame}
use Rattle.width_rules.specs.Scopes.{Meaning, Scope}
use Rattle.gen_unroll.specs.Reaches.{Reach}
use Rattle.clock_rules.specs.Clocks.{clock_net, is_clock, name_free, clock_free, target_free, label_free, all_free, statement_free, value_free, assignment_free, port_free, posedge}
use Rattle.elaborate.specs.Clocks.{with_clock}
use Rattle.elaborate.specs.Findings.{clock_as}
use Rattle.elaborate.specs.Renaming.{KeepsApart, SameReach, answer_as}
use Rattle.elaborate.proofs.RenamedAnswers.{bind_so, if_answer}
use Rattle.elaborate.proofs.RenamedNames.{same_test}

-- the clock is known under its other name
pub clock_known : (f : NameId → NameId) (clock : Option ℕ) (here there : Reach) → KeepsApart f → SameReach f here there
    → SameReach f (with_clock clock here) (with_clock (clock_as f clock) there)
clock_known f None here there apart same = same
clock_known f (Some name) here there apart same = record {
  names = λ x. ap₂ (λ (b : Bool) (m : Meaning). if b then clock_net else m) (same_test f (record { 0 = name }) x apart) (same.names x);
  outer = same.outer;
  blocks = same.blocks;
}

-- ---- any other mention

pub same_clock : (f : NameId → NameId) (scope other : Scope) (n : Identifier) → MeansSame f scope other → is_clock (other (f n.name).0) ≡ is_clock (scope n.name.0)
same_clock f scope other n same = ap is_clock (same n.name)

name_so : (f : NameId → NameId) (scope other : Scope) (n : Identifier) → MeansSame f scope other → name_free other (renamed_identifier f n) ≡ answer_as f (name_free scope n)
name_so f scope other n same = if_answer f _ _ _ _ _ _ (same_clock f scope other n same) refl refl

pub same_posedge : (f : NameId → NameId) (scope other : Scope) (n : Identifier) → MeansSame f scope other → posedge other (renamed_identifier f n) ≡ answer_as f (posedge scope n)
same_posedge f scope other n same = if_answer f _ _ _ _ _ _ (same_clock f scope other n same) refl refl

pub same_free : (f : NameId → NameId) (scope other : Scope) (e : Expression) → MeansSame f scope other → clock_free other (expression_as f e) ≡ answer_as f (clock_free scope e)
same_free f scope other (Literal at x) same = refl
same_free f scope other (Whole n) same = name_so f scope other n same
same_free f scope other (BitSelect n x) same = bind_so f _ _ _ _ (name_so f scope other n same) (λ _. same_free f scope other x same)
same_free f scope other (PartSelect n x y) same =
    bind_so f _ _ _ _ (name_so f scope other n same) (λ _. bind_so f _ _ _ _ (same_free f scope other x same) (λ _. same_free f scope other y same))
same_free f scope other (UpwardSelect n x y) same =
    bind_so f _ _ _ _ (name_so f scope other n same) (λ _. bind_so f _ _ _ _ (same_free f scope other x same) (λ _. same_free f scope other y same))
same_free f scope other (DownwardSelect n x y) same =
    bind_so f _ _ _ _ (name_so f scope other n same) (λ _. bind_so f _ _ _ _ (same_free f scope other x same) (λ _. same_free f scope other y same))
same_free f scope other (Unary at op x) same = same_free f scope other x same
same_free f scope other (Binary op x y) same = bind_so f _ _ _ _ (same_free f scope other x same) (λ _. same_free f scope other y same)
same_free f scope other (Conditional c x y) same =
    bind_so f _ _ _ _ (same_free f scope other c same) (λ _. bind_so f _ _ _ _ (same_free f scope other x same) (λ _. same_free f scope other y same))
same_free f scope other (Concatenation at xs) same = same_free f scope other xs same
same_free f scope other (Replication at c xs) same = bind_so f _ _ _ _ (same_free f scope other c same) (λ _. same_free f scope other xs same)
same_free f scope other (Bracketed at x) same = same_free f scope other x same
same_free f scope other NoPart same = refl
same_free f scope other (Parts x xs) same = bind_so f _ _ _ _ (same_free f scope other x same) (λ _. same_free f scope other xs same)

same_target : (f : NameId → NameId) (scope other : Scope) (t : Target) → MeansSame f scope other → target_free other (target_as f t) ≡ answer_as f (target_free scope t)
same_target f scope other (Reference x) same = same_free f scope other x same
same_target f scope other (Joined at ts) same = same_target f scope other ts same
same_target f scope other NoTarget same = refl
same_target f scope other (Targets t ts) same = bind_so f _ _ _ _ (same_target f scope other t same) (λ _. same_target f scope other ts same)

same_label : (f : NameId → NameId) (scope other : Scope) (l : CaseLabel) → MeansSame f scope other → label_free other (label_as f l) ≡ answer_as f (label_free scope l)
same_label f scope other (DontCare at x) same = refl
same_label f scope other (Compared x) same = same_free f scope other x same

-- one after another
pub same_all : {A : Type 0} (f : NameId → NameId) (moved : A → A) (free frees : A → Result (Unit {0}) Fault) → ((x : A) → frees (moved x) ≡ answer_as f (free x))
    → (xs : List A) → all_free frees (map moved xs) ≡ answer_as f (all_free free xs)
same_all f moved free frees is [] = refl
same_all f moved free frees is (x ∷ xs) = bind_so f _ _ _ _ (is x) (λ _. same_all f moved free frees is xs)

pub same_statement : (f : NameId → NameId) (scope other : Scope) (x : Statement) → MeansSame f scope other → statement_free other (statement_as f x) ≡ answer_as f (statement_free scope x)
same_statement f scope other (Block at label body) same = same_statement f scope other body same
same_statement f scope other (If at c x) same = bind_so f _ _ _ _ (same_free f scope other c same) (λ _. same_statement f scope other x same)
same_statement f scope other (IfElse at c x y) same =
    bind_so f _ _ _ _ (same_free f scope other c same) (λ _. bind_so f _ _ _ _ (same_statement f scope other x same) (λ _. same_statement f scope other y same))
same_statement f scope other (Case at kind x items) same = bind_so f _ _ _ _ (same_free f scope other x same) (λ _. same_statement f scope other items same)
same_statement f scope other (Assignment t x) same = bind_so f _ _ _ _ (same_target f scope other t same) (λ _. same_free f scope other x same)
same_statement f scope other (Null at) same = refl
same_statement f scope other (Default at body) same = same_statement f scope other body same
same_statement f scope other (Match ls body) same =
    bind_so f _ _ _ _ (same_all f (label_as f) (label_free scope) (label_free other) (λ l. same_label f scope other l same) ls) (λ _. same_statement f scope other body same)
same_statement f scope other NoStatement same = refl
same_statement f scope other (Statements x xs) same = bind_so f _ _ _ _ (same_statement f scope other x same) (λ _. same_statement f scope other xs same)

pub same_value_free : (f : NameId → NameId) (scope other : Scope) (value : Option Expression) → MeansSame f scope other
    → value_free other (option_map (expression_as f) value) ≡ answer_as f (value_free scope value)
same_value_free f scope other None same = refl
same_value_free f scope other (Some e) same = same_free f scope other e same

pub same_assignment : (f : NameId → NameId) (scope other : Scope) (x : ContinuousAssignment) → MeansSame f scope other
    → assignment_free other (assignment_as f x) ≡ answer_as f (assignment_free scope x)
same_assignment f scope other x same = bind_so f _ _ _ _ (same_target f scope other x.target same) (λ _. same_free f scope other x.value same)

pub same_port : (f : NameId → NameId) (scope other : Scope) (p : PortDeclaration) → MeansSame f scope other → port_free other (port_as f p) ≡ answer_as f (port_free scope p)
same_port f scope other (InputPort at net k n) same = refl
same_port f scope other (OutputPort at net k x) same = same_value_free f scope other x.value same
same_port f scope other (NextPort x) same = same_value_free f scope other x.value same

-- A combinational statement without a fault is named by the first target in its text, which is one of its own.
use Rattle.std.proofs.Common.{◌≡◌, ℕ, ◌<◌, List, [], length, refl, sym, ◌∙◌, ap, subst, arith}
use Rattle.std.specs.Prelude.{Option, Some, None, slice_get}
use Rattle.std.specs.Option.{option_map}
use Rattle.std.proofs.lemmas.List.{length-map}
use Rattle.std.proofs.lemmas.Option.{none-some, slice_get-map, slice_get_within}
use Rattle.typed_ir.specs.declared.span.Span.{Span}
use Rattle.typed_ir.specs.Stmts.{SizedStmt, targets}
use Rattle.typed_ir.specs.declared.mention.Mention.{Mention}
use Rattle.verilog_ast.specs.Expressions.{Expression}
use Rattle.verilog_ast.specs.Statements.{Statement}
use Rattle.width_rules.specs.declared.writer.Writer.TheVariants.{Combinational}
use Rattle.width_rules.specs.Scopes.{Scope}
use Rattle.width_rules.proofs.Reading.{left_none, right_none}
use Rattle.statement_rules.specs.Statements.{sized_statement, expression_faults, item_faults, statement_faults}
use Rattle.statement_rules.specs.Written.{IsStatementWritten}
use Rattle.statement_rules.specs.DeclaredValues.{signal_in}
use Rattle.width_rules.specs.Forms.{reference_form, form_or_name, statement_shown}
use Rattle.width_rules.specs.Mentions.{writing, count, statement_targets}
use Rattle.mention_laws.specs.Leaves.{signals_of, signals_named}
use Rattle.mention_laws.specs.Placed.{AreStatements}
use Rattle.mention_laws.specs.Shown.{first_written, IsShownBy}
use Rattle.mention_laws.proofs.FirstForms.{statement_formed}
use Rattle.mention_laws.proofs.FirstMentions.{mention_at, at_first, Names, Begins, nothing, found, statement_begins}
use Rattle.mention_laws.proofs.StatementLeaves.{targets_same}

abbrev combinational : Scope → Statement → SizedStmt
combinational scope x = sized_statement scope Combinational x

-- ---- what is told is there

-- the first target of a text and its mention
record IsTold (x : Statement) (r : Expression) : Type 0 where
  mention : Mention
  told : mention_at 0 (statement_targets 0 x) ≡ Some mention
  names : Names 0 mention r

is_told : (x : Statement) (r : Expression) (n : ℕ) → Begins 0 n (statement_targets 0 x) (first_written x) → first_written x ≡ Some r → IsTold x r
is_told x r n (nothing a b c) is = absurd (none-some r (sym c ∙ is))
is_told x r n (found y m a b c d e) is =
    let same : y ≡ r = ap (λ (o : Option Expression). or_this o) (sym d ∙ is) in
    record { mention = m; told = c; names = subst (Names 0 m) same e }
  where
    or_this : Option Expression → Expression
    or_this None = r
    or_this (Some z) = z

-- bits of a signal of this number
record IsAt (o : Option Span) (n : ℕ) : Type 0 where
  bits : Span
  there : o ≡ Some bits
  signal : bits.signal ≡ n

is_at : (o : Option Span) (n : ℕ) → option_map (λ (p : Span). p.signal) o ≡ Some n → IsAt o n
is_at None n h = absurd (none-some n h)
is_at (Some p) n h = record { bits = p; there = refl; signal = ap (λ (o : Option ℕ). or_own o) h }
  where
    or_own : Option ℕ → ℕ
    or_own None = p.signal
    or_own (Some k) = k

-- lists of the same signals, place by place
same_place : (scope : Scope) (ps : List Span) (ms : List Mention) (i : ℕ) (m : Mention) → signals_of ps ≡ signals_named scope ms
    → slice_get ms i ≡ Some m
    → IsAt (slice_get ps i) (signal_in (scope m.name.0))
same_place scope ps ms i m same is =
    is_at (slice_get ps i) (signal_in (scope m.name.0))
    (sym (slice_get-map (λ (p : Span). p.signal) ps i)
    ∙ ap (λ (ns : List ℕ). slice_get ns i) same
    ∙ slice_get-map (λ (n : Mention). signal_in (scope n.name.0)) ms i
    ∙ ap (option_map (λ (n : Mention). signal_in (scope n.name.0))) is)

-- ---- the target by which a statement is named

begins : (scope : Scope) (x : Statement) → AreStatements x → IsStatementWritten x → statement_faults scope Combinational x ≡ []
    → Begins 0 (count writing x) (statement_targets 0 x) (first_written x)
begins scope x p q h =
    statement_begins scope Combinational 0 x p q (right_none (expression_faults scope x) (item_faults scope Combinational x) h)

pub is_shown : (scope : Scope) (x : Statement) (r : Expression) → AreStatements x → IsStatementWritten x
    → statement_faults scope Combinational x ≡ [] → first_written x ≡ Some r → IsShownBy scope x r
is_shown scope x r p q h is =
    let t = is_told x r (count writing x) (begins scope x p q h) is in
    let told : slice_get (statement_targets 0 x) (statement_shown scope x).number ≡ Some t.mention = at_first (statement_targets 0 x) ∙ t.told in
    let a =
    same_place scope (targets (combinational scope x)) (statement_targets 0 x) (statement_shown scope x).number t.mention
    (targets_same scope 0 x p q) told in
    record {
      form =
          ap form_or_name
          (statement_formed scope x q (left_none (expression_faults scope x) (item_faults scope Combinational x) h)
          ∙ ap (option_map (reference_form scope)) is);
      mention = t.mention;
      told = told;
      named = t.names.name;
      leads = t.names.number;
      bits = a.bits;
      there = a.there;
      signal = a.signal;
    }

-- ---- where it has targets

-- something is written
record IsWriting (x : Statement) : Type 0 where
  first : Expression
  is_first : first_written x ≡ Some first

writes : (x : Statement) (n : ℕ) → Begins 0 n (statement_targets 0 x) (first_written x) → 0 < length (statement_targets 0 x) → IsWriting x
writes x n (nothing a b c) some = let none : length (statement_targets 0 x) ≡ 0 = ap length b in absurd (omega (arith, some, none))
writes x n (found y m a b c d e) some = record { first = y; is_first = d }

as_long : (scope : Scope) (ps : List Span) (ms : List Mention) → signals_of ps ≡ signals_named scope ms → length ps ≡ length ms
as_long scope ps ms h =
    sym (length-map ps (λ (p : Span). p.signal)) ∙ ap length h ∙ length-map ms (λ (m : Mention). signal_in (scope m.name.0))

pub is_writing : (scope : Scope) (x : Statement) → AreStatements x → IsStatementWritten x → statement_faults scope Combinational x ≡ []
    → 0 < length (targets (combinational scope x)) → (r : Expression) × (first_written x ≡ Some r)
is_writing scope x p q h some =
    let w = writes x (count writing x) (begins scope x p q h)
    (subst (λ n. 0 < n) (as_long scope (targets (combinational scope x)) (statement_targets 0 x) (targets_same scope 0 x p q)) some) in
    (w.first, w.is_first)

pub is_own : (scope : Scope) (x : Statement) → AreStatements x → IsStatementWritten x → statement_faults scope Combinational x ≡ []
    → 0 < length (targets (combinational scope x)) → (statement_shown scope x).number < length (targets (combinational scope x))
is_own scope x p q h some =
    let w = is_writing scope x p q h some in
    let s = is_shown scope x w.0 p q h w.1 in
    slice_get_within (targets (combinational scope x)) (statement_shown scope x).number s.bits s.there

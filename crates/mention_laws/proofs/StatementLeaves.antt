-- What a statement mentions are the signals of its sized form, read by read and part by part.
use Rattle.std.proofs.Common.{◌≡◌, ℕ, ◌+◌, Bool, ◌&&◌, max, List, [], ◌∷◌, ◌++◌, map, refl, sym, ◌∙◌, ap, ap₂, append-nil, append_assoc}
use Rattle.std.specs.Prelude.{length as many}
use Rattle.std.proofs.lemmas.List.{map-append}
use Rattle.typed_ir.specs.declared.span.Span.{Span}
use Rattle.typed_ir.specs.Sized.{Sized}
use Rattle.typed_ir.specs.Stmts as s
use Rattle.typed_ir.specs.Stmts.{SizedItem, SizedTarget, SizedStmt, SizedArms, span_of, targets, arm_targets, later_targets, later_arm_targets}
use Rattle.typed_ir.specs.declared.mention.Mention.{Mention}
use Rattle.verilog_ast.specs.declared.identifier.Identifier.{Identifier}
use Rattle.verilog_ast.specs.Expressions.{Expression, Target}
use Rattle.verilog_ast.specs.Statements.{CaseLabel, DontCare, Compared, Statement, Block, If, IfElse, Case, Assignment, Null, Default, Match, NoStatement, Statements}
use Rattle.width_rules.specs.declared.writer.Writer.{Writer}
use Rattle.width_rules.specs.declared.writer.Writer.TheVariants as writer
use Rattle.width_rules.specs.Opened.{own}
use Rattle.width_rules.specs.Scopes.{Scope}
use Rattle.width_rules.specs.Signs.{is_signed}
use Rattle.width_rules.specs.Sizes.{length, push}
use Rattle.statement_rules.specs.Statements.{assigned, assignment, label_at, items_length, items_signed, sized_statement, sized_arms, sized_default}
use Rattle.statement_rules.specs.Targets.{target_length, parts}
use Rattle.block_rules.specs.Paths.{leaves, index_leaves, item_leaves}
use Rattle.statement_rules.specs.Written.{IsWritten, IsTargetWritten, AreLabelsWritten, IsStatementWritten}
use Rattle.statement_rules.specs.DeclaredValues.{signal_in}
use Rattle.mention_laws.specs.Leaves.{statement_leaves, arm_leaves, signals_of, signals_named}
use Rattle.width_rules.specs.Mentions.{Listing, reading, writing, numbered, labels_names, count, mentions, arm_mentions, default_mentions}
use Rattle.width_rules.specs.Names.{expression_names, index_names}
use Rattle.mention_laws.specs.Placed.{AreStatements, AreItems}
use Rattle.mention_laws.proofs.ExpressionLeaves.{number, both_named, expression_leaves}
use Rattle.mention_laws.proofs.TargetLeaves.{target_named, target_index}

-- ---- lists

pub numbered_same : (scope : Scope) (k : ℕ) (ns : List Identifier) → signals_named scope (numbered k ns) ≡ map (number scope) ns
numbered_same scope k [] = refl
numbered_same scope k (n ∷ ns) = ap (λ (is : List ℕ). number scope n ∷ is) (numbered_same scope (k + 1) ns)

-- names with their numbers
told : (scope : Scope) (k : ℕ) (xs : List Span) (ns : List Identifier) → signals_of xs ≡ map (number scope) ns → signals_of xs ≡ signals_named scope (numbered k ns)
told scope k xs ns h = h ∙ sym (numbered_same scope k ns)

two : (scope : Scope) (xs ys : List Span) (ms ns : List Mention) → signals_of xs ≡ signals_named scope ms → signals_of ys ≡ signals_named scope ns
    → signals_of (xs ++ ys) ≡ signals_named scope (ms ++ ns)
two scope xs ys ms ns h k =
    map-append (λ (p : Span). p.signal) xs ys ∙ ap₂ (λ (a b : List ℕ). a ++ b) h k ∙ sym (map-append (λ (m : Mention). signal_in (scope m.name.0)) ms ns)

-- ---- one list of a sized statement, that of a listing

record Lists (scope : Scope) (by : Writer) (w : Listing) (all : SizedStmt → List Span) (of_arms : SizedArms → List Span) (of_expression : Sized → List Span) (of_items : List SizedItem → List Span) : Type 0 where
  nothing : all s.Skip ≡ []
  sequence : (a b : SizedStmt) → all (s.Then a b) ≡ all a ++ all b
  choice : (c : Sized) (a b : SizedStmt) → all (s.If c a b) ≡ of_expression c ++ (all a ++ all b)
  cases : (e : Sized) (arms : SizedArms) → all (s.Case e arms) ≡ of_expression e ++ of_arms arms
  arm : (items : List SizedItem) (body : SizedStmt) (rest : SizedArms) → of_arms (s.Arm items body rest) ≡ of_items items ++ (all body ++ of_arms rest)
  otherwise : (body : SizedStmt) → of_arms (s.Default body) ≡ all body
  expression : (e : Expression) (l : ℕ) (t : Bool) → IsWritten e → signals_of (of_expression (push scope e l t)) ≡ map (number scope) (w.expression e)
  labels : (ls : List CaseLabel) (l : ℕ) (t : Bool) → AreLabelsWritten ls → signals_of (of_items (map (label_at scope l t) ls)) ≡ map (number scope) (labels_names w ls)
  assigns : (t : Target) (x : Expression) → IsTargetWritten t → IsWritten x
      → signals_of (all (assignment by (parts scope 0 t) (assigned scope (target_length scope t) x))) ≡ map (number scope) (w.assignment t x)

-- ---- statements

module _ {scope : Scope} {by : Writer} {w : Listing} {all : SizedStmt → List Span} {of_arms : SizedArms → List Span} {of_expression : Sized → List Span} {of_items : List SizedItem → List Span}
    (a : Lists scope by w all of_arms of_expression of_items) where
  mutual
    statement_same : (k : ℕ) (x : Statement) → AreStatements x → IsStatementWritten x → signals_of (all (sized_statement scope by x)) ≡ signals_named scope (mentions w k x)
    statement_same k (Block at label body) p q = statement_same k body p q
    statement_same k (If at c x) p q =
        let n : ℕ = k + many (w.expression c) in
        ap signals_of (a.choice (own scope c) (sized_statement scope by x) s.Skip)
        ∙ two scope (of_expression (own scope c)) (all (sized_statement scope by x) ++ all s.Skip) (numbered k (w.expression c)) (mentions w n x)
        (told scope k (of_expression (own scope c)) (w.expression c) (a.expression c (length scope c) (is_signed scope c) q.0))
        (ap signals_of (ap (λ (ps : List Span). all (sized_statement scope by x) ++ ps) a.nothing ∙ append-nil (all (sized_statement scope by x))) ∙ statement_same n x p q.1)
    statement_same k (IfElse at c x y) p q =
        let n : ℕ = k + many (w.expression c) in
        let m : ℕ = n + count w x in
        ap signals_of (a.choice (own scope c) (sized_statement scope by x) (sized_statement scope by y))
        ∙ two scope (of_expression (own scope c)) (all (sized_statement scope by x) ++ all (sized_statement scope by y)) (numbered k (w.expression c)) (mentions w n x ++ mentions w m y)
        (told scope k (of_expression (own scope c)) (w.expression c) (a.expression c (length scope c) (is_signed scope c) q.0))
        (two scope (all (sized_statement scope by x)) (all (sized_statement scope by y)) (mentions w n x) (mentions w m y) (statement_same n x p.0 q.1.0) (statement_same m y p.1 q.1.1))
    statement_same k (Case at kind x items) p q =
        let n : ℕ = k + many (w.expression x) in
        let l : ℕ = max (length scope x) (items_length scope items) in
        let t : Bool = is_signed scope x && items_signed scope items in
        let other : SizedStmt = sized_default scope by items in
        ap signals_of (a.cases (push scope x l t) (sized_arms scope by l t other items))
        ∙ two scope (of_expression (push scope x l t)) (of_arms (sized_arms scope by l t other items)) (numbered k (w.expression x)) (arm_mentions w n items ++ default_mentions w n items)
        (told scope k (of_expression (push scope x l t)) (w.expression x) (a.expression x l t q.0))
        (arms_same l t n items other (default_mentions w n items) p q.1 (default_same n items p q.1))
    statement_same k (Assignment t x) p q =
        told scope k (all (assignment by (parts scope 0 t) (assigned scope (target_length scope t) x))) (w.assignment t x) (a.assigns t x q.0 q.1)
    statement_same k (Null at) p q = ap signals_of a.nothing
    statement_same k (Default at body) p q = absurd p
    statement_same k (Match ls body) p q = absurd p
    statement_same k NoStatement p q = ap signals_of a.nothing
    statement_same k (Statements x xs) p q =
        let n : ℕ = k + count w x in
        ap signals_of (a.sequence (sized_statement scope by x) (sized_statement scope by xs))
        ∙ two scope (all (sized_statement scope by x)) (all (sized_statement scope by xs)) (mentions w k x) (mentions w n xs) (statement_same k x p.0 q.0) (statement_same n xs p.1 q.1)

    -- the items of a case that have labels, before what is done where none matches
    arms_same : (l : ℕ) (t : Bool) (k : ℕ) (x : Statement) (other : SizedStmt) (ms : List Mention) → AreItems x → IsStatementWritten x
        → signals_of (all other) ≡ signals_named scope ms → signals_of (of_arms (sized_arms scope by l t other x)) ≡ signals_named scope (arm_mentions w k x ++ ms)
    arms_same l t k NoStatement other ms p q h = ap signals_of (a.otherwise other) ∙ h
    arms_same l t k (Statements (Match ls body) xs) other ms p q h =
        let n : ℕ = k + many (labels_names w ls) in
        let m : ℕ = k + count w (Match ls body) in
        let items : List SizedItem = map (label_at scope l t) ls in
        let inner : SizedStmt = sized_statement scope by body in
        let rest : SizedArms = sized_arms scope by l t other xs in
        ap signals_of (a.arm items inner rest ∙ sym (append_assoc (of_items items) (all inner) (of_arms rest)))
        ∙ two scope (of_items items ++ all inner) (of_arms rest) (numbered k (labels_names w ls) ++ mentions w n body) (arm_mentions w m xs ++ ms)
        (two scope (of_items items) (all inner) (numbered k (labels_names w ls)) (mentions w n body)
        (told scope k (of_items items) (labels_names w ls) (a.labels ls l t q.0.0)) (statement_same n body p.0 q.0.1))
        (arms_same l t m xs other ms p.1 q.1 h)
        ∙ ap (signals_named scope) (sym (append_assoc (numbered k (labels_names w ls) ++ mentions w n body) (arm_mentions w m xs) ms))
    arms_same l t k (Statements (Default at body) xs) other ms p q h = arms_same l t (k + count w body) xs other ms p.1 q.1 h
    arms_same l t k (Statements (Block at label body) xs) other ms p q h = absurd p.0
    arms_same l t k (Statements (If at c x) xs) other ms p q h = absurd p.0
    arms_same l t k (Statements (IfElse at c x y) xs) other ms p q h = absurd p.0
    arms_same l t k (Statements (Case at kind x items) xs) other ms p q h = absurd p.0
    arms_same l t k (Statements (Assignment u x) xs) other ms p q h = absurd p.0
    arms_same l t k (Statements (Null at) xs) other ms p q h = absurd p.0
    arms_same l t k (Statements NoStatement xs) other ms p q h = absurd p.0
    arms_same l t k (Statements (Statements x ys) xs) other ms p q h = absurd p.0
    arms_same l t k (Block at label body) other ms p q h = absurd p
    arms_same l t k (If at c x) other ms p q h = absurd p
    arms_same l t k (IfElse at c x y) other ms p q h = absurd p
    arms_same l t k (Case at kind x items) other ms p q h = absurd p
    arms_same l t k (Assignment u x) other ms p q h = absurd p
    arms_same l t k (Null at) other ms p q h = absurd p
    arms_same l t k (Default at body) other ms p q h = absurd p
    arms_same l t k (Match ls body) other ms p q h = absurd p

    default_same : (k : ℕ) (x : Statement) → AreItems x → IsStatementWritten x → signals_of (all (sized_default scope by x)) ≡ signals_named scope (default_mentions w k x)
    default_same k NoStatement p q = ap signals_of a.nothing
    default_same k (Statements (Default at body) xs) p q = statement_same k body p.0 q.0
    default_same k (Statements (Match ls body) xs) p q = default_same (k + count w (Match ls body)) xs p.1 q.1
    default_same k (Statements (Block at label body) xs) p q = absurd p.0
    default_same k (Statements (If at c x) xs) p q = absurd p.0
    default_same k (Statements (IfElse at c x y) xs) p q = absurd p.0
    default_same k (Statements (Case at kind x items) xs) p q = absurd p.0
    default_same k (Statements (Assignment u x) xs) p q = absurd p.0
    default_same k (Statements (Null at) xs) p q = absurd p.0
    default_same k (Statements NoStatement xs) p q = absurd p.0
    default_same k (Statements (Statements x ys) xs) p q = absurd p.0
    default_same k (Block at label body) p q = absurd p
    default_same k (If at c x) p q = absurd p
    default_same k (IfElse at c x y) p q = absurd p
    default_same k (Case at kind x items) p q = absurd p
    default_same k (Assignment u x) p q = absurd p
    default_same k (Null at) p q = absurd p
    default_same k (Default at body) p q = absurd p
    default_same k (Match ls body) p q = absurd p

-- ---- reads

labels_read : (scope : Scope) (ls : List CaseLabel) (l : ℕ) (t : Bool) → AreLabelsWritten ls
    → signals_of (item_leaves (map (label_at scope l t) ls)) ≡ map (number scope) (labels_names (reading scope) ls)
labels_read scope [] l t q = refl
labels_read scope (DontCare at x ∷ ls) l t q = labels_read scope ls l t q.1
labels_read scope (Compared x ∷ ls) l t q =
    both_named (number scope) (leaves (push scope x l t)) (item_leaves (map (label_at scope l t) ls)) (expression_names scope x) (labels_names (reading scope) ls)
    (expression_leaves scope x l t q.0) (labels_read scope ls l t q.1)

assigned_leaves : (by : Writer) (ts : List SizedTarget) (x : Sized) → statement_leaves (assignment by ts x) ≡ index_leaves ts ++ leaves x
assigned_leaves writer.Nothing ts x = refl
assigned_leaves writer.Continuous ts x = refl
assigned_leaves writer.Clocked ts x = refl
assigned_leaves writer.Combinational ts x = refl

reads_lists : (scope : Scope) (by : Writer) → Lists scope by (reading scope) statement_leaves arm_leaves leaves item_leaves
reads_lists scope by = record {
  nothing = refl;
  sequence = λ a b. refl;
  choice = λ c a b. refl;
  cases = λ e arms. refl;
  arm = λ items body rest. refl;
  otherwise = λ body. refl;
  expression = expression_leaves scope;
  labels = labels_read scope;
  assigns = λ t x p q.
      ap signals_of (assigned_leaves by (parts scope 0 t) (assigned scope (target_length scope t) x))
      ∙ both_named (number scope) (index_leaves (parts scope 0 t)) (leaves (assigned scope (target_length scope t) x)) (index_names scope t) (expression_names scope x)
      (target_index scope 0 t p) (expression_leaves scope x (max (target_length scope t) (length scope x)) (is_signed scope x) q);
}

pub reads_same : (scope : Scope) (by : Writer) (k : ℕ) (x : Statement) → AreStatements x → IsStatementWritten x
    → signals_of (statement_leaves (sized_statement scope by x)) ≡ signals_named scope (mentions (reading scope) k x)
reads_same scope by k x p q = statement_same (reads_lists scope by) k x p q

-- ---- targets

no_labels : (scope : Scope) (ls : List CaseLabel) → [] ≡ map (number scope) (labels_names writing ls)
no_labels scope [] = refl
no_labels scope (DontCare at x ∷ ls) = no_labels scope ls
no_labels scope (Compared x ∷ ls) = no_labels scope ls

targets_lists : (scope : Scope) → Lists scope writer.Combinational writing targets arm_targets (λ e. []) (λ items. [])
targets_lists scope = record {
  nothing = refl;
  sequence = λ a b. refl;
  choice = λ c a b. refl;
  cases = λ e arms. refl;
  arm = λ items body rest. refl;
  otherwise = λ body. refl;
  expression = λ e l t q. refl;
  labels = λ ls l t q. no_labels scope ls;
  assigns = λ t x p q. target_named scope 0 t p;
}

later_lists : (scope : Scope) → Lists scope writer.Clocked writing later_targets later_arm_targets (λ e. []) (λ items. [])
later_lists scope = record {
  nothing = refl;
  sequence = λ a b. refl;
  choice = λ c a b. refl;
  cases = λ e arms. refl;
  arm = λ items body rest. refl;
  otherwise = λ body. refl;
  expression = λ e l t q. refl;
  labels = λ ls l t q. no_labels scope ls;
  assigns = λ t x p q. target_named scope 0 t p;
}

pub targets_same : (scope : Scope) (k : ℕ) (x : Statement) → AreStatements x → IsStatementWritten x
    → signals_of (targets (sized_statement scope writer.Combinational x)) ≡ signals_named scope (mentions writing k x)
targets_same scope k x p q = statement_same (targets_lists scope) k x p q

pub later_same : (scope : Scope) (k : ℕ) (x : Statement) → AreStatements x → IsStatementWritten x
    → signals_of (later_targets (sized_statement scope writer.Clocked x)) ≡ signals_named scope (mentions writing k x)
later_same scope k x p q = statement_same (later_lists scope) k x p q

-- What is mentioned, without places (IEEE 1364-2005, 5.2, 9.2, 9.4 and 9.5).
use Rattle.std.proofs.Common.{◌≡◌, ℕ, ◌+◌, Bool, true, false, List, [], ◌∷◌, ◌++◌, map, length, refl, ◌∙◌, ap, ap₂}
use Rattle.std.proofs.lemmas.List.{length-map}
use Rattle.typed_ir.specs.declared.mention.Mention.{Mention}
use Rattle.verilog_ast.specs.declared.identifier.Identifier.{Identifier}
use Rattle.verilog_ast.specs.Expressions.{Expression, Whole, BitSelect, PartSelect, UpwardSelect, DownwardSelect, Unary, Binary, Conditional, Concatenation, Replication, Bracketed, Parts, Target, Reference, Joined, NoTarget, Targets}
use Rattle.verilog_ast.specs.Places.{no_place}
use Rattle.verilog_ast.specs.Statements.{CaseLabel, DontCare, Compared, Statement, Block, If, IfElse, Case, Assignment, Default, Match, Statements}
use Rattle.width_rules.specs.Scopes.{Scope, is_signal}
use Rattle.width_rules.specs.Sizes.{is_constant}
use Rattle.width_rules.proofs.RenamedSizes.{sum_so}
use Rattle.width_rules.specs.Mentions.{numbered, Listing, reading, writing, labels_names, label_names, count, match_or, default_or, mentions, arm_mentions, default_mentions, statement_reads, statement_targets}
use Rattle.width_rules.specs.Names.{signal_name, run_time, expression_names, index_of, index_names, reference_name, target_names, expression_targets}
use Rattle.version_swap.specs.Unplaced.{unplaced_name, unplaced_expression, unplaced_target, unplaced_label, unplaced_statement}
use Rattle.version_swap.specs.UnplacedFindings.{mention_unplaced}
use Rattle.gen_unroll.proofs.MovedLists.{append_so, if_moved}
use Rattle.version_swap.proofs.UnplacedSizes.{same_fixed}

-- ---- names

two_so : (ps qs xs ys : List Identifier) → ps ≡ map unplaced_name xs → qs ≡ map unplaced_name ys → (ps ++ qs) ≡ map unplaced_name (xs ++ ys)
two_so ps qs xs ys = append_so unplaced_name ps qs xs ys

signal_so : (scope : Scope) (n : Identifier) → signal_name scope (unplaced_name n) ≡ map unplaced_name (signal_name scope n)
signal_so scope n = if_moved (map unplaced_name) (is_signal (scope n.name.0)) (n ∷ []) [] _ _ refl refl

run_time_moves : (signal constant : Bool) (names : List Identifier)
    → run_time signal constant (map unplaced_name names) ≡ map unplaced_name (run_time signal constant names)
run_time_moves true true names = refl
run_time_moves true false names = refl
run_time_moves false constant names = refl

-- what an index reads
index_so : (scope : Scope) (n : Identifier) (x : Expression)
    → expression_names scope (unplaced_expression x) ≡ map unplaced_name (expression_names scope x)
    → run_time (is_signal (scope n.name.0)) (is_constant scope (unplaced_expression x)) (expression_names scope (unplaced_expression x))
    ≡ map unplaced_name (run_time (is_signal (scope n.name.0)) (is_constant scope x) (expression_names scope x))
index_so scope n x same =
    ap₂ (run_time (is_signal (scope n.name.0))) (same_fixed scope x) same
    ∙ run_time_moves (is_signal (scope n.name.0)) (is_constant scope x) (expression_names scope x)

pub same_names : (scope : Scope) (e : Expression) → expression_names scope (unplaced_expression e) ≡ map unplaced_name (expression_names scope e)
same_names scope (Whole n) = signal_so scope n
same_names scope (BitSelect n x) = two_so _ _ _ _ (signal_so scope n) (index_so scope n x (same_names scope x))
same_names scope (PartSelect n x y) = signal_so scope n
same_names scope (UpwardSelect n x y) = two_so _ _ _ _ (signal_so scope n) (index_so scope n x (same_names scope x))
same_names scope (DownwardSelect n x y) = two_so _ _ _ _ (signal_so scope n) (index_so scope n x (same_names scope x))
same_names scope (Unary at op x) = same_names scope x
same_names scope (Binary op x y) = two_so _ _ _ _ (same_names scope x) (same_names scope y)
same_names scope (Conditional c x y) = two_so _ _ _ _ (same_names scope c) (two_so _ _ _ _ (same_names scope x) (same_names scope y))
same_names scope (Concatenation at xs) = same_names scope xs
same_names scope (Replication at c xs) = same_names scope xs
same_names scope (Bracketed at x) = same_names scope x
same_names scope (Parts x xs) = two_so _ _ _ _ (same_names scope x) (same_names scope xs)
same_names scope other = refl

index_of_so : (scope : Scope) (e : Expression) → index_of scope (unplaced_expression e) ≡ map unplaced_name (index_of scope e)
index_of_so scope (BitSelect n x) = index_so scope n x (same_names scope x)
index_of_so scope (UpwardSelect n x y) = index_so scope n x (same_names scope x)
index_of_so scope (DownwardSelect n x y) = index_so scope n x (same_names scope x)
index_of_so scope other = refl

index_names_so : (scope : Scope) (t : Target) → index_names scope (unplaced_target t) ≡ map unplaced_name (index_names scope t)
index_names_so scope (Reference x) = index_of_so scope x
index_names_so scope (Joined at ts) = index_names_so scope ts
index_names_so scope NoTarget = refl
index_names_so scope (Targets t ts) = two_so _ _ _ _ (index_names_so scope t) (index_names_so scope ts)

reference_so : (e : Expression) → reference_name (unplaced_expression e) ≡ map unplaced_name (reference_name e)
reference_so (Whole n) = refl
reference_so other = refl

pub same_target_names : (t : Target) → target_names (unplaced_target t) ≡ map unplaced_name (target_names t)
same_target_names (Reference x) = reference_so x
same_target_names (Joined at ts) = same_target_names ts
same_target_names NoTarget = refl
same_target_names (Targets t ts) = two_so _ _ _ _ (same_target_names t) (same_target_names ts)

pub same_expression_targets : (e : Expression) → expression_targets (unplaced_expression e) ≡ map unplaced_name (expression_targets e)
same_expression_targets (Concatenation at xs) = same_expression_targets xs
same_expression_targets (Parts x xs) = two_so _ _ _ _ (same_expression_targets x) (same_expression_targets xs)
same_expression_targets other = refl

-- ---- names with their numbers

pub same_numbered : (k : ℕ) (ns : List Identifier) → numbered k (map unplaced_name ns) ≡ map mention_unplaced (numbered k ns)
same_numbered k [] = refl
same_numbered k (n ∷ ns) = ap (λ (ms : List Mention). record { name = n.name; at = no_place; order = k } ∷ ms) (same_numbered (k + 1) ns)

-- what names are listed doesn't hang on places
record IsBlind (w : Listing) : Type 0 where
  expression : (e : Expression) → w.expression (unplaced_expression e) ≡ map unplaced_name (w.expression e)
  assignment : (t : Target) (e : Expression) → w.assignment (unplaced_target t) (unplaced_expression e) ≡ map unplaced_name (w.assignment t e)

reading_so : (scope : Scope) → IsBlind (reading scope)
reading_so scope = record { expression = same_names scope; assignment = λ t e. two_so _ _ _ _ (index_names_so scope t) (same_names scope e) }

writing_so : IsBlind writing
writing_so = record { expression = λ e. refl; assignment = λ t e. same_target_names t }

label_so : (w : Listing) (l : CaseLabel) → IsBlind w → label_names w (unplaced_label l) ≡ map unplaced_name (label_names w l)
label_so w (DontCare at x) is = refl
label_so w (Compared x) is = is.expression x

labels_so : (w : Listing) (ls : List CaseLabel) → IsBlind w → labels_names w (map unplaced_label ls) ≡ map unplaced_name (labels_names w ls)
labels_so w [] is = refl
labels_so w (l ∷ ls) is = two_so _ _ _ _ (label_so w l is) (labels_so w ls is)

-- ---- how many

many_so : (ms ns : List Identifier) → ms ≡ map unplaced_name ns → length ms ≡ length ns
many_so ms ns same = ap length same ∙ length-map ns unplaced_name

same_count : (w : Listing) (x : Statement) → IsBlind w → count w (unplaced_statement x) ≡ count w x
same_count w (Block at label body) is = same_count w body is
same_count w (If at c x) is = sum_so _ _ _ _ (many_so _ _ (is.expression c)) (same_count w x is)
same_count w (IfElse at c x y) is = sum_so _ _ _ _ (many_so _ _ (is.expression c)) (sum_so _ _ _ _ (same_count w x is) (same_count w y is))
same_count w (Case at kind x items) is = sum_so _ _ _ _ (many_so _ _ (is.expression x)) (same_count w items is)
same_count w (Assignment t x) is = many_so _ _ (is.assignment t x)
same_count w (Default at body) is = same_count w body is
same_count w (Match ls body) is = sum_so _ _ _ _ (many_so _ _ (labels_so w ls is)) (same_count w body is)
same_count w (Statements x xs) is = sum_so _ _ _ _ (same_count w x is) (same_count w xs is)
same_count w other is = refl

-- ---- statements

both_so : (ps qs xs ys : List Mention) → ps ≡ map mention_unplaced xs → qs ≡ map mention_unplaced ys → (ps ++ qs) ≡ map mention_unplaced (xs ++ ys)
both_so ps qs xs ys = append_so mention_unplaced ps qs xs ys

names_so : (k : ℕ) (ms ns : List Identifier) → ms ≡ map unplaced_name ns → numbered k ms ≡ map mention_unplaced (numbered k ns)
names_so k ms ns same = ap (numbered k) same ∙ same_numbered k ns

-- these names, and what stands behind them
listed_so : (k : ℕ) (ms ns : List Identifier) (more rest : ℕ → List Mention) → ms ≡ map unplaced_name ns
    → more (k + length ns) ≡ map mention_unplaced (rest (k + length ns))
    → (numbered k ms ++ more (k + length ms)) ≡ map mention_unplaced (numbered k ns ++ rest (k + length ns))
listed_so k ms ns more rest same behind =
    both_so _ _ _ _ (names_so k ms ns same) (ap (λ (n : ℕ). more (k + n)) (many_so ms ns same) ∙ behind)

match_moves : (x : Statement) (ms : List Mention)
    → match_or (unplaced_statement x) (map mention_unplaced ms) [] ≡ map mention_unplaced (match_or x ms [])
match_moves (Match ls body) ms = refl
match_moves other ms = refl

default_moves : (x : Statement) (ms ns : List Mention)
    → default_or (unplaced_statement x) (map mention_unplaced ms) (map mention_unplaced ns) ≡ map mention_unplaced (default_or x ms ns)
default_moves (Default at body) ms ns = refl
default_moves other ms ns = refl

mutual
  same_mentions : (w : Listing) (k : ℕ) (x : Statement) → IsBlind w → mentions w k (unplaced_statement x) ≡ map mention_unplaced (mentions w k x)
  same_mentions w k (Block at label body) is = same_mentions w k body is
  same_mentions w k (If at c x) is =
      listed_so k _ _ (λ n. mentions w n (unplaced_statement x)) (λ n. mentions w n x) (is.expression c)
      (same_mentions w (k + length (w.expression c)) x is)
  same_mentions w k (IfElse at c x y) is =
      listed_so k _ _ (λ n. mentions w n (unplaced_statement x) ++ mentions w (n + count w (unplaced_statement x)) (unplaced_statement y))
      (λ n. mentions w n x ++ mentions w (n + count w x) y) (is.expression c)
      (both_so _ _ _ _ (same_mentions w (k + length (w.expression c)) x is)
      (ap (λ (n : ℕ). mentions w (k + length (w.expression c) + n) (unplaced_statement y)) (same_count w x is)
      ∙ same_mentions w (k + length (w.expression c) + count w x) y is))
  same_mentions w k (Case at kind x items) is =
      listed_so k _ _ (λ n. arm_mentions w n (unplaced_statement items) ++ default_mentions w n (unplaced_statement items))
      (λ n. arm_mentions w n items ++ default_mentions w n items) (is.expression x)
      (both_so _ _ _ _ (same_arms w (k + length (w.expression x)) items is) (same_defaults w (k + length (w.expression x)) items is))
  same_mentions w k (Assignment t x) is = names_so k _ _ (is.assignment t x)
  same_mentions w k (Default at body) is = same_mentions w k body is
  same_mentions w k (Match ls body) is =
      listed_so k _ _ (λ n. mentions w n (unplaced_statement body)) (λ n. mentions w n body) (labels_so w ls is)
      (same_mentions w (k + length (labels_names w ls)) body is)
  same_mentions w k (Statements x xs) is =
      both_so _ _ _ _ (same_mentions w k x is)
      (ap (λ (n : ℕ). mentions w (k + n) (unplaced_statement xs)) (same_count w x is) ∙ same_mentions w (k + count w x) xs is)
  same_mentions w k other is = refl

  same_arms : (w : Listing) (k : ℕ) (x : Statement) → IsBlind w → arm_mentions w k (unplaced_statement x) ≡ map mention_unplaced (arm_mentions w k x)
  same_arms w k (Statements x xs) is =
      both_so _ _ _ _
      (ap (λ (ms : List Mention). match_or (unplaced_statement x) ms []) (same_mentions w k x is) ∙ match_moves x (mentions w k x))
      (ap (λ (n : ℕ). arm_mentions w (k + n) (unplaced_statement xs)) (same_count w x is) ∙ same_arms w (k + count w x) xs is)
  same_arms w k other is = refl

  same_defaults : (w : Listing) (k : ℕ) (x : Statement) → IsBlind w
      → default_mentions w k (unplaced_statement x) ≡ map mention_unplaced (default_mentions w k x)
  same_defaults w k (Statements x xs) is =
      ap₂ (default_or (unplaced_statement x)) (same_mentions w k x is)
      (ap (λ (n : ℕ). default_mentions w (k + n) (unplaced_statement xs)) (same_count w x is) ∙ same_defaults w (k + count w x) xs is)
      ∙ default_moves x (mentions w k x) (default_mentions w (k + count w x) xs)
  same_defaults w k other is = refl

pub same_reads : (scope : Scope) (k : ℕ) (x : Statement)
    → statement_reads scope k (unplaced_statement x) ≡ map mention_unplaced (statement_reads scope k x)
same_reads scope k x = same_mentions (reading scope) k x (reading_so scope)

pub same_targets : (k : ℕ) (x : Statement) → statement_targets k (unplaced_statement x) ≡ map mention_unplaced (statement_targets k x)
same_targets k x = same_mentions writing k x writing_so

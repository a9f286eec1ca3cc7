-- What is mentioned, under other names (IEEE 1364-2005, 5.2, 9.2, 9.4 and 9.5).
use Rattle.std.proofs.Common.{◌≡◌, ℕ, ◌+◌, Bool, true, false, if◌then◌else◌, List, [], ◌∷◌, ◌++◌, map, length, refl, ◌∙◌, ap, ap₂}
use Rattle.std.proofs.lemmas.List.{length-map}
use Rattle.ls_text.specs.declared.name_id.NameId.{NameId}
use Rattle.typed_ir.specs.declared.mention.Mention.{Mention}
use Rattle.verilog_ast.specs.declared.identifier.Identifier.{Identifier}
use Rattle.verilog_ast.specs.Expressions.{Expression, Whole, BitSelect, PartSelect, UpwardSelect, DownwardSelect, Unary, Binary, Conditional, Concatenation, Replication, Bracketed, Parts, Target, Reference, Joined, NoTarget, Targets}
use Rattle.verilog_ast.specs.Renamed.{renamed_identifier}
use Rattle.verilog_ast.specs.Renaming.{expression_as, target_as, label_as, statement_as}
use Rattle.verilog_ast.specs.Statements.{CaseLabel, DontCare, Compared, Statement, Block, If, IfElse, Case, Assignment, Default, Match, Statements}
use Rattle.width_rules.specs.Renaming.{MeansSame}
use Rattle.width_rules.specs.Scopes.{Meaning, Scope, is_signal}
use Rattle.width_rules.specs.Sizes.{is_constant}
use Rattle.width_rules.proofs.RenamedSizes.{same_fixed, sum_so}
use Rattle.width_rules.specs.Mentions.{numbered, Listing, reading, writing, labels_names, label_names, count, match_or, default_or, mentions, arm_mentions, default_mentions, statement_reads, statement_targets}
use Rattle.width_rules.specs.Names.{signal_name, run_time, expression_names, index_of, index_names, reference_name, target_names, expression_targets}
use Rattle.gen_unroll.proofs.MovedLists.{append_so, if_moved}
use Rattle.version_swap.specs.RenamedFindings.{mention_as}

-- ---- names

two_so : (f : NameId → NameId) (ps qs xs ys : List Identifier) → ps ≡ map (renamed_identifier f) xs → qs ≡ map (renamed_identifier f) ys
    → (ps ++ qs) ≡ map (renamed_identifier f) (xs ++ ys)
two_so f ps qs xs ys = append_so (renamed_identifier f) ps qs xs ys

signal_so : (f : NameId → NameId) (scope other : Scope) (n : Identifier) → MeansSame f scope other
    → signal_name other (renamed_identifier f n) ≡ map (renamed_identifier f) (signal_name scope n)
signal_so f scope other n same =
    ap (λ (m : Meaning). if is_signal m then renamed_identifier f n ∷ [] else []) (same n.name)
    ∙ if_moved (map (renamed_identifier f)) (is_signal (scope n.name.0)) (n ∷ []) [] _ _ refl refl

run_time_moves : (f : NameId → NameId) (signal constant : Bool) (names : List Identifier)
    → run_time signal constant (map (renamed_identifier f) names) ≡ map (renamed_identifier f) (run_time signal constant names)
run_time_moves f true true names = refl
run_time_moves f true false names = refl
run_time_moves f false constant names = refl

-- what an index reads
index_so : (f : NameId → NameId) (scope other : Scope) (n : Identifier) (x : Expression) → MeansSame f scope other
    → expression_names other (expression_as f x) ≡ map (renamed_identifier f) (expression_names scope x)
    → run_time (is_signal (other (f n.name).0)) (is_constant other (expression_as f x)) (expression_names other (expression_as f x))
    ≡ map (renamed_identifier f) (run_time (is_signal (scope n.name.0)) (is_constant scope x) (expression_names scope x))
index_so f scope other n x same names =
    ap (λ (m : Meaning). run_time (is_signal m) (is_constant other (expression_as f x)) (expression_names other (expression_as f x))) (same n.name)
    ∙ ap₂ (run_time (is_signal (scope n.name.0))) (same_fixed f scope other x same) names
    ∙ run_time_moves f (is_signal (scope n.name.0)) (is_constant scope x) (expression_names scope x)

pub same_names : (f : NameId → NameId) (scope other : Scope) (e : Expression) → MeansSame f scope other
    → expression_names other (expression_as f e) ≡ map (renamed_identifier f) (expression_names scope e)
same_names f scope other (Whole n) same = signal_so f scope other n same
same_names f scope other (BitSelect n x) same =
    two_so f _ _ _ _ (signal_so f scope other n same) (index_so f scope other n x same (same_names f scope other x same))
same_names f scope other (PartSelect n x y) same = signal_so f scope other n same
same_names f scope other (UpwardSelect n x y) same =
    two_so f _ _ _ _ (signal_so f scope other n same) (index_so f scope other n x same (same_names f scope other x same))
same_names f scope other (DownwardSelect n x y) same =
    two_so f _ _ _ _ (signal_so f scope other n same) (index_so f scope other n x same (same_names f scope other x same))
same_names f scope other (Unary at op x) same = same_names f scope other x same
same_names f scope other (Binary op x y) same = two_so f _ _ _ _ (same_names f scope other x same) (same_names f scope other y same)
same_names f scope other (Conditional c x y) same =
    two_so f _ _ _ _ (same_names f scope other c same) (two_so f _ _ _ _ (same_names f scope other x same) (same_names f scope other y same))
same_names f scope other (Concatenation at xs) same = same_names f scope other xs same
same_names f scope other (Replication at c xs) same = same_names f scope other xs same
same_names f scope other (Bracketed at x) same = same_names f scope other x same
same_names f scope other (Parts x xs) same = two_so f _ _ _ _ (same_names f scope other x same) (same_names f scope other xs same)
same_names f scope other rest same = refl

index_of_so : (f : NameId → NameId) (scope other : Scope) (e : Expression) → MeansSame f scope other
    → index_of other (expression_as f e) ≡ map (renamed_identifier f) (index_of scope e)
index_of_so f scope other (BitSelect n x) same = index_so f scope other n x same (same_names f scope other x same)
index_of_so f scope other (UpwardSelect n x y) same = index_so f scope other n x same (same_names f scope other x same)
index_of_so f scope other (DownwardSelect n x y) same = index_so f scope other n x same (same_names f scope other x same)
index_of_so f scope other rest same = refl

index_names_so : (f : NameId → NameId) (scope other : Scope) (t : Target) → MeansSame f scope other
    → index_names other (target_as f t) ≡ map (renamed_identifier f) (index_names scope t)
index_names_so f scope other (Reference x) same = index_of_so f scope other x same
index_names_so f scope other (Joined at ts) same = index_names_so f scope other ts same
index_names_so f scope other NoTarget same = refl
index_names_so f scope other (Targets t ts) same = two_so f _ _ _ _ (index_names_so f scope other t same) (index_names_so f scope other ts same)

reference_so : (f : NameId → NameId) (e : Expression) → reference_name (expression_as f e) ≡ map (renamed_identifier f) (reference_name e)
reference_so f (Whole n) = refl
reference_so f rest = refl

pub same_target_names : (f : NameId → NameId) (t : Target) → target_names (target_as f t) ≡ map (renamed_identifier f) (target_names t)
same_target_names f (Reference x) = reference_so f x
same_target_names f (Joined at ts) = same_target_names f ts
same_target_names f NoTarget = refl
same_target_names f (Targets t ts) = two_so f _ _ _ _ (same_target_names f t) (same_target_names f ts)

pub same_expression_targets : (f : NameId → NameId) (e : Expression)
    → expression_targets (expression_as f e) ≡ map (renamed_identifier f) (expression_targets e)
same_expression_targets f (Concatenation at xs) = same_expression_targets f xs
same_expression_targets f (Parts x xs) = two_so f _ _ _ _ (same_expression_targets f x) (same_expression_targets f xs)
same_expression_targets f rest = refl

-- ---- names with their numbers

pub same_numbered : (f : NameId → NameId) (k : ℕ) (ns : List Identifier)
    → numbered k (map (renamed_identifier f) ns) ≡ map (mention_as f) (numbered k ns)
same_numbered f k [] = refl
same_numbered f k (n ∷ ns) =
    ap (λ (ms : List Mention). record { name = f n.name; at = n.at; order = k } ∷ ms) (same_numbered f (k + 1) ns)

-- the same names are listed, under other names
record ListsSame (f : NameId → NameId) (w v : Listing) : Type 0 where
  expression : (e : Expression) → v.expression (expression_as f e) ≡ map (renamed_identifier f) (w.expression e)
  assignment : (t : Target) (e : Expression)
      → v.assignment (target_as f t) (expression_as f e) ≡ map (renamed_identifier f) (w.assignment t e)

reading_so : (f : NameId → NameId) (scope other : Scope) → MeansSame f scope other → ListsSame f (reading scope) (reading other)
reading_so f scope other same = record {
  expression = λ e. same_names f scope other e same;
  assignment = λ t e. two_so f _ _ _ _ (index_names_so f scope other t same) (same_names f scope other e same);
}

writing_so : (f : NameId → NameId) → ListsSame f writing writing
writing_so f = record { expression = λ e. refl; assignment = λ t e. same_target_names f t }

label_so : (f : NameId → NameId) (w v : Listing) (l : CaseLabel) → ListsSame f w v
    → label_names v (label_as f l) ≡ map (renamed_identifier f) (label_names w l)
label_so f w v (DontCare at x) is = refl
label_so f w v (Compared x) is = is.expression x

labels_so : (f : NameId → NameId) (w v : Listing) (ls : List CaseLabel) → ListsSame f w v
    → labels_names v (map (label_as f) ls) ≡ map (renamed_identifier f) (labels_names w ls)
labels_so f w v [] is = refl
labels_so f w v (l ∷ ls) is = two_so f _ _ _ _ (label_so f w v l is) (labels_so f w v ls is)

-- ---- how many

many_so : (f : NameId → NameId) (ms ns : List Identifier) → ms ≡ map (renamed_identifier f) ns → length ms ≡ length ns
many_so f ms ns same = ap length same ∙ length-map ns (renamed_identifier f)

same_count : (f : NameId → NameId) (w v : Listing) (x : Statement) → ListsSame f w v → count v (statement_as f x) ≡ count w x
same_count f w v (Block at label body) is = same_count f w v body is
same_count f w v (If at c x) is = sum_so _ _ _ _ (many_so f _ _ (is.expression c)) (same_count f w v x is)
same_count f w v (IfElse at c x y) is =
    sum_so _ _ _ _ (many_so f _ _ (is.expression c)) (sum_so _ _ _ _ (same_count f w v x is) (same_count f w v y is))
same_count f w v (Case at kind x items) is = sum_so _ _ _ _ (many_so f _ _ (is.expression x)) (same_count f w v items is)
same_count f w v (Assignment t x) is = many_so f _ _ (is.assignment t x)
same_count f w v (Default at body) is = same_count f w v body is
same_count f w v (Match ls body) is = sum_so _ _ _ _ (many_so f _ _ (labels_so f w v ls is)) (same_count f w v body is)
same_count f w v (Statements x xs) is = sum_so _ _ _ _ (same_count f w v x is) (same_count f w v xs is)
same_count f w v rest is = refl

-- ---- statements

both_so : (f : NameId → NameId) (ps qs xs ys : List Mention) → ps ≡ map (mention_as f) xs → qs ≡ map (mention_as f) ys
    → (ps ++ qs) ≡ map (mention_as f) (xs ++ ys)
both_so f ps qs xs ys = append_so (mention_as f) ps qs xs ys

names_so : (f : NameId → NameId) (k : ℕ) (ms ns : List Identifier) → ms ≡ map (renamed_identifier f) ns
    → numbered k ms ≡ map (mention_as f) (numbered k ns)
names_so f k ms ns same = ap (numbered k) same ∙ same_numbered f k ns

-- these names, and what stands behind them
listed_so : (f : NameId → NameId) (k : ℕ) (ms ns : List Identifier) (more rest : ℕ → List Mention) → ms ≡ map (renamed_identifier f) ns
    → more (k + length ns) ≡ map (mention_as f) (rest (k + length ns))
    → (numbered k ms ++ more (k + length ms)) ≡ map (mention_as f) (numbered k ns ++ rest (k + length ns))
listed_so f k ms ns more rest same behind =
    both_so f _ _ _ _ (names_so f k ms ns same) (ap (λ (n : ℕ). more (k + n)) (many_so f ms ns same) ∙ behind)

match_moves : (f : NameId → NameId) (x : Statement) (ms : List Mention)
    → match_or (statement_as f x) (map (mention_as f) ms) [] ≡ map (mention_as f) (match_or x ms [])
match_moves f (Match ls body) ms = refl
match_moves f rest ms = refl

default_moves : (f : NameId → NameId) (x : Statement) (ms ns : List Mention)
    → default_or (statement_as f x) (map (mention_as f) ms) (map (mention_as f) ns) ≡ map (mention_as f) (default_or x ms ns)
default_moves f (Default at body) ms ns = refl
default_moves f rest ms ns = refl

mutual
  same_mentions : (f : NameId → NameId) (w v : Listing) (k : ℕ) (x : Statement) → ListsSame f w v
      → mentions v k (statement_as f x) ≡ map (mention_as f) (mentions w k x)
  same_mentions f w v k (Block at label body) is = same_mentions f w v k body is
  same_mentions f w v k (If at c x) is =
      listed_so f k _ _ (λ n. mentions v n (statement_as f x)) (λ n. mentions w n x) (is.expression c)
      (same_mentions f w v (k + length (w.expression c)) x is)
  same_mentions f w v k (IfElse at c x y) is =
      listed_so f k _ _ (λ n. mentions v n (statement_as f x) ++ mentions v (n + count v (statement_as f x)) (statement_as f y))
      (λ n. mentions w n x ++ mentions w (n + count w x) y) (is.expression c)
      (both_so f _ _ _ _ (same_mentions f w v (k + length (w.expression c)) x is)
      (ap (λ (n : ℕ). mentions v (k + length (w.expression c) + n) (statement_as f y)) (same_count f w v x is)
      ∙ same_mentions f w v (k + length (w.expression c) + count w x) y is))
  same_mentions f w v k (Case at kind x items) is =
      listed_so f k _ _ (λ n. arm_mentions v n (statement_as f items) ++ default_mentions v n (statement_as f items))
      (λ n. arm_mentions w n items ++ default_mentions w n items) (is.expression x)
      (both_so f _ _ _ _ (same_arms f w v (k + length (w.expression x)) items is) (same_defaults f w v (k + length (w.expression x)) items is))
  same_mentions f w v k (Assignment t x) is = names_so f k _ _ (is.assignment t x)
  same_mentions f w v k (Default at body) is = same_mentions f w v k body is
  same_mentions f w v k (Match ls body) is =
      listed_so f k _ _ (λ n. mentions v n (statement_as f body)) (λ n. mentions w n body) (labels_so f w v ls is)
      (same_mentions f w v (k + length (labels_names w ls)) body is)
  same_mentions f w v k (Statements x xs) is =
      both_so f _ _ _ _ (same_mentions f w v k x is)
      (ap (λ (n : ℕ). mentions v (k + n) (statement_as f xs)) (same_count f w v x is) ∙ same_mentions f w v (k + count w x) xs is)
  same_mentions f w v k rest is = refl

  same_arms : (f : NameId → NameId) (w v : Listing) (k : ℕ) (x : Statement) → ListsSame f w v
      → arm_mentions v k (statement_as f x) ≡ map (mention_as f) (arm_mentions w k x)
  same_arms f w v k (Statements x xs) is =
      both_so f _ _ _ _
      (ap (λ (ms : List Mention). match_or (statement_as f x) ms []) (same_mentions f w v k x is) ∙ match_moves f x (mentions w k x))
      (ap (λ (n : ℕ). arm_mentions v (k + n) (statement_as f xs)) (same_count f w v x is) ∙ same_arms f w v (k + count w x) xs is)
  same_arms f w v k rest is = refl

  same_defaults : (f : NameId → NameId) (w v : Listing) (k : ℕ) (x : Statement) → ListsSame f w v
      → default_mentions v k (statement_as f x) ≡ map (mention_as f) (default_mentions w k x)
  same_defaults f w v k (Statements x xs) is =
      ap₂ (default_or (statement_as f x)) (same_mentions f w v k x is)
      (ap (λ (n : ℕ). default_mentions v (k + n) (statement_as f xs)) (same_count f w v x is) ∙ same_defaults f w v (k + count w x) xs is)
      ∙ default_moves f x (mentions w k x) (default_mentions w (k + count w x) xs)
  same_defaults f w v k rest is = refl

pub same_reads : (f : NameId → NameId) (scope other : Scope) (k : ℕ) (x : Statement) → MeansSame f scope other
    → statement_reads other k (statement_as f x) ≡ map (mention_as f) (statement_reads scope k x)
same_reads f scope other k x same = same_mentions f (reading scope) (reading other) k x (reading_so f scope other same)

pub same_targets : (f : NameId → NameId) (k : ℕ) (x : Statement) → statement_targets k (statement_as f x) ≡ map (mention_as f) (statement_targets k x)
same_targets f k x = same_mentions f writing writing k x (writing_so f)

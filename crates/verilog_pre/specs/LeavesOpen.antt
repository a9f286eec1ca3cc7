-- Whether the rest of a file, behind a fault, leaves conditionals open (IEEE 1364-2005, clause 19.4). It is read as skipped
-- text is: for comments, and for the words that open and close conditionals.
use Rattle.std.specs.Prelude.{◌<◌, ℕ, Bool, true, false, ◌⊎◌, List, [], ◌∷◌, ◌++◌}
use Rattle.verilog_pre.specs.Directives.{directive_of}
use Rattle.verilog_pre.specs.Heads.{depth_behind}
use Rattle.verilog_pre.specs.Shapes.{HasNo, ends_comment, IsLineComment, IsBlockComment, IsRun, IsWord}

-- Of so many open conditionals before a text some stay open to its end, or none.
pub data LeavesOpen : ℕ → List ℕ → Bool → Type 0 where
  AllClosed : (text : List ℕ) → LeavesOpen 0 text false
  AtEnd : (depth : ℕ) → 0 < depth → LeavesOpen depth [] true
  Comment : (depth : ℕ) (cut rest : List ℕ) (stays : Bool)
      → 0 < depth
      → IsLineComment cut rest ⊎ IsBlockComment cut
      → LeavesOpen depth rest stays
      → LeavesOpen depth (cut ++ rest) stays
  -- a `/*` that no `*/` closes
  OpenComment : (depth : ℕ) (inside : List ℕ)
      → 0 < depth
      → HasNo ends_comment inside
      → LeavesOpen depth (47 ∷ 42 ∷ inside) true
  Run : (depth : ℕ) (cut rest : List ℕ) (stays : Bool)
      → 0 < depth
      → IsRun cut rest
      → LeavesOpen depth rest stays
      → LeavesOpen depth (cut ++ rest) stays
  -- a backquote and a word
  Word : (depth : ℕ) (word rest : List ℕ) (stays : Bool)
      → 0 < depth
      → IsWord word rest
      → LeavesOpen (depth_behind depth (directive_of word)) rest stays
      → LeavesOpen depth (96 ∷ (word ++ rest)) stays

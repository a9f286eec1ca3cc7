-- The script of a load, line by line: n equal stages in a row, whose module is edited after a run. The format is this project's own, its texts
-- are Verilog (IEEE Std 1364-2005).
use Rattle.std.specs.Prelude.{ℕ, ◌-◌, List, [], ◌∷◌, ◌++◌, codes, decimal}
use Rattle.std.specs.List.{flat_map, range_with_len}

-- lines, each with its newline
abbrev pub lines : List (List ℕ) → List ℕ
lines texts = flat_map (λ (text : List ℕ). text ++ codes "\n") texts

-- the file of a stage: a register that becomes this sum in each cycle
abbrev pub stage_file : (sum : List ℕ) → List (List ℕ)
stage_file sum =
    codes "file stage.v"
    ∷ codes "module stage(input clk, input [31:0] d, output [31:0] q);"
    ∷ codes "reg [31:0] r;"
    ∷ (codes "always @(posedge clk) r <= " ++ sum ++ codes ";")
    ∷ codes "assign q = r;"
    ∷ codes "endmodule"
    ∷ codes "."
    ∷ []

-- stage k: the wire behind it, and its instance, which reads the wire behind the stage before
abbrev pub stage_lines : (k : ℕ) → List (List ℕ)
stage_lines k =
    (codes "wire [31:0] w" ++ decimal k ++ codes ";")
    ∷ (codes "stage s" ++ decimal k ++ codes "(clk, w" ++ decimal (k - 1) ++ codes ", w" ++ decimal k ++ codes ");")
    ∷ []

-- the stages from 1 on
abbrev pub stages : (n : ℕ) → List (List ℕ)
stages n = flat_map stage_lines (range_with_len 1 n)

-- the file of the top: n stages in a row, from its input to its output
abbrev pub top_file : (n : ℕ) → List (List ℕ)
top_file n =
    (codes "file top.v"
    ∷ codes "module top(input clk, input [31:0] d, output [31:0] q);"
    ∷ codes "wire [31:0] w0 = d;"
    ∷ [])
    ++ stages n
    ++ ((codes "assign q = w" ++ decimal n ++ codes ";")
    ∷ codes "endmodule"
    ∷ codes "."
    ∷ [])

-- the edit that gives both files
abbrev pub first_edit : (n : ℕ) → List (List ℕ)
first_edit n =
    (codes "edit" ∷ codes "top top" ∷ codes "clock clk" ∷ [])
    ++ stage_file (codes "r + d")
    ++ top_file n
    ++ (codes "end" ∷ [])

-- the edit of the stage alone: its sum the other way round
abbrev pub second_edit : List (List ℕ)
second_edit = (codes "edit" ∷ []) ++ stage_file (codes "d + r") ++ (codes "end" ∷ [])

-- the commands behind the edits: all is verified, and the register of the last stage is shown
abbrev pub closing : (n : ℕ) → List (List ℕ)
closing n = codes "settle" ∷ (codes "show top.s" ++ decimal n ++ codes ".") ∷ codes "quit" ∷ []

-- the script of n stages: an edit, a run of 1,000 cycles with the input at 1, another edit, and what that comes to
unfoldable pub script_of : (n : ℕ) → List ℕ
script_of n = lines (first_edit n ++ (codes "set d=1" ∷ codes "run 1000" ∷ []) ++ second_edit ++ closing n)

-- The parts of a script, as pieces of its text.
use Rattle.std.proofs.Common.{◌≡◌, ℕ, ◌<◌, ◌+◌, ◌-◌, suc, List, [], ◌∷◌, ◌++◌, append_assoc, append-nil, sym, ap, ◌∙◌, arith, codes, decimal}
use Rattle.std.specs.List.{flat_map, range_with_len}
use Rattle.std.proofs.lemmas.List.Concat.{flat_map-append}
use Rattle.load_maker.specs.Scripts.{closing, lines, stage_file, stage_lines, stages, top_file}

pub two_parts : (xs ys : List (List ℕ)) → lines (xs ++ ys) ≡ lines xs ++ lines ys
two_parts xs ys = flat_map-append _ xs ys

pub three_parts : (xs ys zs : List (List ℕ)) → lines (xs ++ ys ++ zs) ≡ lines xs ++ (lines ys ++ lines zs)
three_parts xs ys zs = two_parts (xs ++ ys) zs ∙ ap (λ t. t ++ lines zs) (two_parts xs ys) ∙ append_assoc (lines xs) (lines ys) (lines zs)

pub four_parts : (xs ys zs ws : List (List ℕ)) → lines (xs ++ ys ++ zs ++ ws) ≡ lines xs ++ (lines ys ++ (lines zs ++ lines ws))
four_parts xs ys zs ws = three_parts (xs ++ ys) zs ws ∙ ap (λ t. t ++ (lines zs ++ lines ws)) (two_parts xs ys) ∙ append_assoc (lines xs) (lines ys) (lines zs ++ lines ws)

-- a line with a word in it, and what stands behind it
around : (before word behind end rest : List ℕ) → before ++ (word ++ ((behind ++ end) ++ rest)) ≡ ((before ++ word ++ behind) ++ end) ++ rest
around before word behind end rest = simp append_assoc

-- two lines with numbers in them
two_lines : (wire now semicolon end stage opens behind comma close : List ℕ)
    → (wire ++ now) ++ (((semicolon ++ (end ++ stage)) ++ now) ++ ((opens ++ behind) ++ ((comma ++ now) ++ (close ++ end))))
    ≡ ((wire ++ now ++ semicolon) ++ end) ++ (((stage ++ now ++ opens ++ behind ++ comma ++ now ++ close) ++ end) ++ [])
two_lines wire now semicolon end stage opens behind comma close = simp (append_assoc, append-nil)

pub stage_pieces : (k : ℕ) → (codes "wire [31:0] w" ++ decimal k) ++ ((codes ";\nstage s" ++ decimal k)
    ++ ((codes "(clk, w" ++ decimal (k - 1)) ++ ((codes ", w" ++ decimal k) ++ codes ");\n"))) ≡ lines (stage_lines k)
stage_pieces k = two_lines (codes "wire [31:0] w") (decimal k) (codes ";") (codes "\n") (codes "stage s") (codes "(clk, w") (decimal (k - 1)) (codes ", w") (codes ");")

abbrev pub stage_head : List ℕ
stage_head = codes "file stage.v\nmodule stage(input clk, input [31:0] d, output [31:0] q);\nreg [31:0] r;\nalways @(posedge clk) r <= "

pub stage_file_pieces : (sum : List ℕ) → stage_head ++ (sum ++ codes ";\nassign q = r;\nendmodule\n.\n") ≡ lines (stage_file sum)
stage_file_pieces sum = around stage_head sum (codes ";") (codes "\n") (codes "assign q = r;\nendmodule\n.\n")

pub top_file_pieces : (n : ℕ) → codes "file top.v\nmodule top(input clk, input [31:0] d, output [31:0] q);\nwire [31:0] w0 = d;\n"
    ++ (lines (stages n) ++ ((codes "assign q = w" ++ decimal n) ++ codes ";\nendmodule\n.\n")) ≡ lines (top_file n)
top_file_pieces n =
    let top = codes "file top.v" ∷ codes "module top(input clk, input [31:0] d, output [31:0] q);" ∷ codes "wire [31:0] w0 = d;" ∷ [] in
    let last = (codes "assign q = w" ++ decimal n ++ codes ";") ∷ codes "endmodule" ∷ codes "." ∷ [] in
    ap (λ t. lines top ++ (lines (stages n) ++ t)) (around (codes "assign q = w") (decimal n) (codes ";") (codes "\n") (codes "endmodule\n.\n"))
    ∙ sym (three_parts top (stages n) last)

pub closing_pieces : (n : ℕ) → (codes "settle\nshow top.s" ++ decimal n) ++ codes ".\nquit\n" ≡ lines (closing n)
closing_pieces n = around (codes "settle\nshow top.s") (decimal n) (codes ".") (codes "\n") (codes "quit\n")

-- the stages from one on are that stage, and then those behind it
pub one_stage : (k n : ℕ) → k < n + 1 → lines (flat_map stage_lines (range_with_len k (n + 1 - k)))
    ≡ lines (stage_lines k) ++ lines (flat_map stage_lines (range_with_len (k + 1) (n + 1 - (k + 1))))
one_stage k n within =
    let more : n + 1 - k ≡ suc (n + 1 - (k + 1)) = omega arith in
    ap (λ m. lines (flat_map stage_lines (range_with_len k m))) more ∙ two_parts (stage_lines k) (flat_map stage_lines (range_with_len (k + 1) (n + 1 - (k + 1))))

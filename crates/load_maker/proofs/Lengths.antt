-- How long the parts of a script are.
use Rattle.std.proofs.Common.{◌≡◌, ℕ, zero, suc, ◌≤◌, ◌+◌, ◌-◌, ◌*◌, List, [], ◌∷◌, ◌++◌, length, length-append, sym, ap, ◌∙◌, arith, codes, decimal, refl}
use Rattle.std.specs.List.{flat_map, range_with_len}
use Rattle.std.proofs.lemmas.Fmt.{length-decimal-le}
use Rattle.load_maker.specs.Scripts.{closing, first_edit, lines, script_of, second_edit, stage_file, stage_lines, stages, top_file}
use Rattle.load_maker.specs.Lengths.{AreShort}
use Rattle.load_maker.proofs.Lines.{closing_pieces, four_parts, stage_pieces, top_file_pieces, two_parts}

-- a number of stages has at most four digits
few_digits : (n : ℕ) → n ≤ 4096 → length (decimal n) ≤ 4
few_digits n few = length-decimal-le 4 n (omega arith) (omega arith) (omega arith)

five_lengths : (a b c d e : List ℕ) → length (a ++ (b ++ (c ++ (d ++ e)))) ≡ length a + length b + length c + length d + length e
five_lengths a b c d e = omega (arith, length-append a (b ++ (c ++ (d ++ e))), length-append b (c ++ (d ++ e)), length-append c (d ++ e), length-append d e)

stage_length : (k : ℕ) → k ≤ 4096 → length (lines (stage_lines k)) ≤ 51
stage_length k few =
    let now = decimal k in
    let behind = decimal (k - 1) in
    let all = sym (ap length (stage_pieces k))
    ∙ five_lengths (codes "wire [31:0] w" ++ now) (codes ";\nstage s" ++ now) (codes "(clk, w" ++ behind) (codes ", w" ++ now) (codes ");\n") in
    let wire = length-append (codes "wire [31:0] w") now in
    let stage = length-append (codes ";\nstage s") now in
    let reads = length-append (codes "(clk, w") behind in
    let gives = length-append (codes ", w") now in
    omega (arith, all, wire, stage, reads, gives, few_digits k few, few_digits (k - 1) (omega arith))

stages_length : (a m : ℕ) → a + m ≤ 4097 → length (lines (flat_map stage_lines (range_with_len a m))) ≤ 51 * m
stages_length a zero few = omega arith
stages_length a (suc m) few =
    let rest = flat_map stage_lines (range_with_len (a + 1) m) in
    omega (arith, ap length (two_parts (stage_lines a) rest), length-append (lines (stage_lines a)) (lines rest), stage_length a (omega arith), stages_length (a + 1) m (omega arith))

top_length : (n : ℕ) → n ≤ 4096 → length (lines (top_file n)) ≤ 117 + 51 * n
top_length n few =
    let top = codes "file top.v\nmodule top(input clk, input [31:0] d, output [31:0] q);\nwire [31:0] w0 = d;\n" in
    let assign = codes "assign q = w" ++ decimal n in
    let last = codes ";\nendmodule\n.\n" in
    omega (
      arith,
      sym (ap length (top_file_pieces n)),
      length-append top (lines (stages n) ++ (assign ++ last)),
      length-append (lines (stages n)) (assign ++ last),
      length-append assign last,
      length-append (codes "assign q = w") (decimal n),
      few_digits n few,
      stages_length 1 n (omega arith),
    )

first_length : (n : ℕ) → n ≤ 4096 → length (lines (first_edit n)) ≤ 289 + 51 * n
first_length n few =
    let opening = codes "edit" ∷ codes "top top" ∷ codes "clock clk" ∷ [] in
    let stage = stage_file (codes "r + d") in
    let end = codes "end" ∷ [] in
    let opened : length (lines opening) ≡ 23 = refl in
    let staged : length (lines stage) ≡ 145 = refl in
    let ended : length (lines end) ≡ 4 = refl in
    omega (
      arith,
      ap length (four_parts opening stage (top_file n) end),
      length-append (lines opening) (lines stage ++ (lines (top_file n) ++ lines end)),
      length-append (lines stage) (lines (top_file n) ++ lines end),
      length-append (lines (top_file n)) (lines end),
      opened,
      staged,
      ended,
      top_length n few,
    )

closing_length : (n : ℕ) → n ≤ 4096 → length (lines (closing n)) ≤ 28
closing_length n few =
    let shows = codes "settle\nshow top.s" ++ decimal n in
    omega (arith, sym (ap length (closing_pieces n)), length-append shows (codes ".\nquit\n"), length-append (codes "settle\nshow top.s") (decimal n), few_digits n few)

pub scripts_short : AreShort
unfolding script_of
scripts_short n few =
    let commands = codes "set d=1" ∷ codes "run 1000" ∷ [] in
    let between : length (lines commands) ≡ 17 = refl in
    let again : length (lines second_edit) ≡ 154 = refl in
    omega (
      arith,
      ap length (four_parts (first_edit n) commands second_edit (closing n)),
      length-append (lines (first_edit n)) (lines commands ++ (lines second_edit ++ lines (closing n))),
      length-append (lines commands) (lines second_edit ++ lines (closing n)),
      length-append (lines second_edit) (lines (closing n)),
      between,
      again,
      first_length n few,
      closing_length n few,
    )

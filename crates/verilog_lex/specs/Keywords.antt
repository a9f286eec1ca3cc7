-- The reserved words (IEEE 1364-2005, clause 3.7.2 and annex B).
use Rattle.std.specs.Prelude.{ℕ, Bool, if◌then◌else◌, List, [], ◌∷◌, codes, Option, Some, None}
use Rattle.std.specs.Str.{bytes_eq}
use Rattle.std.specs.List.{list_any}
use Rattle.verilog_lex.specs.declared.kind.Kind.{Kind}
use Rattle.verilog_lex.specs.declared.kind.Kind.TheVariants as kind

-- the kind that a table gives a text
abbrev pub kind_in : List (List ℕ × Kind) → List ℕ → Option Kind
kind_in [] text = None
kind_in (entry ∷ table) text = if bytes_eq entry.0 text then Some entry.1 else kind_in table text

-- the reserved words that have a kind of their own
unfoldable pub used_words : List (List ℕ × Kind)
used_words =
    (codes "always", kind.Always) ∷
    (codes "assign", kind.Assign) ∷
    (codes "begin", kind.Begin) ∷
    (codes "case", kind.Case) ∷
    (codes "casez", kind.Casez) ∷
    (codes "default", kind.Default) ∷
    (codes "else", kind.Else) ∷
    (codes "end", kind.BlockEnd) ∷
    (codes "endcase", kind.EndCase) ∷
    (codes "endgenerate", kind.EndGenerate) ∷
    (codes "endmodule", kind.EndModule) ∷
    (codes "for", kind.For) ∷
    (codes "generate", kind.Generate) ∷
    (codes "genvar", kind.Genvar) ∷
    (codes "if", kind.If) ∷
    (codes "input", kind.Input) ∷
    (codes "localparam", kind.LocalParam) ∷
    (codes "module", kind.Module) ∷
    (codes "or", kind.Or) ∷
    (codes "output", kind.Output) ∷
    (codes "parameter", kind.Parameter) ∷
    (codes "posedge", kind.Posedge) ∷
    (codes "reg", kind.Reg) ∷
    (codes "signed", kind.Signed) ∷
    (codes "wire", kind.Wire) ∷
    []

-- the others
unfoldable pub other_words : List (List ℕ)
other_words =
    codes "and" ∷
    codes "automatic" ∷
    codes "buf" ∷
    codes "bufif0" ∷
    codes "bufif1" ∷
    codes "casex" ∷
    codes "cell" ∷
    codes "cmos" ∷
    codes "config" ∷
    codes "deassign" ∷
    codes "defparam" ∷
    codes "design" ∷
    codes "disable" ∷
    codes "edge" ∷
    codes "endconfig" ∷
    codes "endfunction" ∷
    codes "endprimitive" ∷
    codes "endspecify" ∷
    codes "endtable" ∷
    codes "endtask" ∷
    codes "event" ∷
    codes "force" ∷
    codes "forever" ∷
    codes "fork" ∷
    codes "function" ∷
    codes "highz0" ∷
    codes "highz1" ∷
    codes "ifnone" ∷
    codes "incdir" ∷
    codes "include" ∷
    codes "initial" ∷
    codes "inout" ∷
    codes "instance" ∷
    codes "integer" ∷
    codes "join" ∷
    codes "large" ∷
    codes "liblist" ∷
    codes "library" ∷
    codes "macromodule" ∷
    codes "medium" ∷
    codes "nand" ∷
    codes "negedge" ∷
    codes "nmos" ∷
    codes "nor" ∷
    codes "noshowcancelled" ∷
    codes "not" ∷
    codes "notif0" ∷
    codes "notif1" ∷
    codes "pmos" ∷
    codes "primitive" ∷
    codes "pull0" ∷
    codes "pull1" ∷
    codes "pulldown" ∷
    codes "pullup" ∷
    codes "pulsestyle_ondetect" ∷
    codes "pulsestyle_onevent" ∷
    codes "rcmos" ∷
    codes "real" ∷
    codes "realtime" ∷
    codes "release" ∷
    codes "repeat" ∷
    codes "rnmos" ∷
    codes "rpmos" ∷
    codes "rtran" ∷
    codes "rtranif0" ∷
    codes "rtranif1" ∷
    codes "scalared" ∷
    codes "showcancelled" ∷
    codes "small" ∷
    codes "specify" ∷
    codes "specparam" ∷
    codes "strong0" ∷
    codes "strong1" ∷
    codes "supply0" ∷
    codes "supply1" ∷
    codes "table" ∷
    codes "task" ∷
    codes "time" ∷
    codes "tran" ∷
    codes "tranif0" ∷
    codes "tranif1" ∷
    codes "tri" ∷
    codes "tri0" ∷
    codes "tri1" ∷
    codes "triand" ∷
    codes "trior" ∷
    codes "trireg" ∷
    codes "unsigned" ∷
    codes "use" ∷
    codes "uwire" ∷
    codes "vectored" ∷
    codes "wait" ∷
    codes "wand" ∷
    codes "weak0" ∷
    codes "weak1" ∷
    codes "while" ∷
    codes "wor" ∷
    codes "xnor" ∷
    codes "xor" ∷
    []

abbrev pub is_among : List (List ℕ) → List ℕ → Bool
is_among words text = list_any (λ w. bytes_eq w text) words

abbrev pub kind_or : Option Kind → Kind → Kind
kind_or None other = other
kind_or (Some k) other = k

-- the kind of a word, reserved or not (clause 3.7); case matters
unfoldable pub word_kind : List ℕ → Kind
word_kind text = kind_or (kind_in used_words text) (if is_among other_words text then kind.Reserved else kind.Word)

-- Lines of parameters, clocks and ports, read back.
use Rattle.std.proofs.Common.{◌≡◌, ℕ, ◌<◌, ◌^◌, Bool, true, false, if◌then◌else◌, List, ◌∷◌, ◌++◌, codes, Option, Some, None, refl, sym, ap, ◌∙◌, arith}
use Rattle.std.proofs.lemmas.Bool.{and_parts}
use Rattle.std.proofs.lemmas.List.{append_cancel_left}
use Rattle.bits.proofs.Modulo.{fits_wider}
use Rattle.ls_text.specs.Texts.{HasEachOnce, text_at}
use Rattle.ls_text.specs.declared.name_id.NameId.{NameId}
use Rattle.ls_text.proofs.Lists.{first_of, rest_of}
use Rattle.typed_ir.specs.declared.constant.Const.{Const}
use Rattle.typed_ir.specs.declared.port_shape.PortShape.{PortShape}
use Rattle.verilog_ast.specs.declared.identifier.Identifier.{Identifier}
use Rattle.verilog_spelling.specs.Spellings.{hex_text}
use Rattle.module_registry.specs.KeyTexts.{parameter_line, clock_text, port_line}
use Rattle.version_swap.specs.Told.{lacks, is_word, IsConstantTold, IsClockTold, IsPortTold}
use Rattle.version_swap.proofs.Cuts.{cut, IsCut}
use Rattle.version_swap.proofs.Lacking.{hex_lacks}
use Rattle.version_swap.proofs.Numbers.{hex_tells}
use Rattle.version_swap.proofs.Parts.{constant_same, port_same, name_same}
use Rattle.version_swap.proofs.Words.{shaped, shape_read, port_row, parameter_row}

-- what a line says, and what follows it
pub record IsRead {A : Type 0} (a b : A) (xs ys : List ℕ) : Type 0 where
  pub same : a ≡ b
  pub after : xs ≡ ys

pub no_space : (text : List ℕ) → is_word text ≡ true → lacks 32 text ≡ true
no_space text word = (and_parts (lacks 32 text) (lacks 10 text) word).0

pub no_end : (text : List ℕ) → is_word text ≡ true → lacks 10 text ≡ true
no_end text word = (and_parts (lacks 32 text) (lacks 10 text) word).1

-- ---- parameters

value_fits : (c : Const) → c.bits.value < 2 ^ 128
value_fits c = fits_wider c.bits.value c.bits.width 128 c.bits.fits c.bits.at_most_128

-- what stands behind a parameter's name
abbrev value_words : Const → List ℕ → List ℕ
value_words c xs = shaped c.bits.width c.signed (32 ∷ (hex_text c.bits.value ++ 10 ∷ xs))

pub parameter_read : (names : List (List ℕ)) (m n : Identifier) (a b : Const) (xs ys : List ℕ) → IsConstantTold names m → IsConstantTold names n
    → parameter_line names m a ++ xs ≡ parameter_line names n b ++ ys → IsRead a b xs ys
parameter_read names m n a b xs ys told_m told_n e =
    let first_name : List ℕ = text_at names m.name.0 in
    let second_name : List ℕ = text_at names n.name.0 in
    let rows : first_name ++ 32 ∷ value_words a xs ≡ second_name ++ 32 ∷ value_words b ys =
    append_cancel_left (codes "param ") (first_name ++ 32 ∷ value_words a xs) (second_name ++ 32 ∷ value_words b ys)
    (sym (parameter_row (codes "param ") first_name (hex_text a.bits.value) a.bits.width a.signed xs) ∙ e
    ∙ parameter_row (codes "param ") second_name (hex_text b.bits.value) b.bits.width b.signed ys) in
    let shapes : value_words a xs ≡ value_words b ys =
    (cut 32 first_name second_name (value_words a xs) (value_words b ys) (no_space first_name told_m) (no_space second_name told_n) rows).after in
    let shape = shape_read a.bits.width b.bits.width a.signed b.signed _ _ a.bits.at_most_128 b.bits.at_most_128 shapes in
    let value : IsCut (hex_text a.bits.value) (hex_text b.bits.value) xs ys =
    cut 10 (hex_text a.bits.value) (hex_text b.bits.value) xs ys (hex_lacks a.bits.value) (hex_lacks b.bits.value) (ap rest_of shape.after) in
    record {
      same = constant_same a b shape.width (hex_tells a.bits.value b.bits.value (value_fits a) (value_fits b) value.before) shape.signed;
      after = value.after;
    }

-- ---- clocks

clock_told : (names : List (List ℕ)) (m n : Option NameId) → HasEachOnce names → IsClockTold names m → IsClockTold names n
    → clock_text names m ≡ clock_text names n → m ≡ n
clock_told names None None once told_m told_n e = refl
clock_told names None (Some n) once told_m told_n e = absurd (told_n.1 (sym e))
clock_told names (Some m) None once told_m told_n e = absurd (told_m.1 e)
clock_told names (Some m) (Some n) once told_m told_n e = ap Some (name_same names m n once told_m.0 told_n.0 e)

clock_no_end : (names : List (List ℕ)) (m : Option NameId) → IsClockTold names m → lacks 10 (clock_text names m) ≡ true
clock_no_end names None told = refl
clock_no_end names (Some m) told = no_end (text_at names m.0) told.0.word

-- up to the line end
pub clock_text_read : (names : List (List ℕ)) (m n : Option NameId) (xs ys : List ℕ) → HasEachOnce names → IsClockTold names m → IsClockTold names n
    → clock_text names m ++ 10 ∷ xs ≡ clock_text names n ++ 10 ∷ ys → IsRead m n xs ys
clock_text_read names m n xs ys once told_m told_n e =
    let text : IsCut (clock_text names m) (clock_text names n) xs ys =
    cut 10 (clock_text names m) (clock_text names n) xs ys (clock_no_end names m told_m) (clock_no_end names n told_n) e in
    record { same = clock_told names m n once told_m told_n text.before; after = text.after }

-- ---- ports

abbrev pub kind_text : Bool → List ℕ
kind_text input = if input then codes "in " else codes "out "

pub record IsKind (i j : Bool) (xs ys : List ℕ) : Type 0 where
  pub input : i ≡ j
  pub after : xs ≡ ys

kind_read : (i j : Bool) (xs ys : List ℕ) → kind_text i ++ xs ≡ kind_text j ++ ys → IsKind i j xs ys
kind_read true true xs ys e = record { input = refl; after = append_cancel_left (codes "in ") xs ys e }
kind_read true false xs ys e = absurd (omega (arith, ap first_of e))
kind_read false true xs ys e = absurd (omega (arith, ap first_of e))
kind_read false false xs ys e = record { input = refl; after = append_cancel_left (codes "out ") xs ys e }

pub port_read : (names : List (List ℕ)) (p q : PortShape) (xs ys : List ℕ) → HasEachOnce names → IsPortTold names p → IsPortTold names q
    → port_line names p ++ xs ≡ port_line names q ++ ys → IsRead p q xs ys
port_read names p q xs ys once told_p told_q e =
    let first_name : List ℕ = text_at names p.name.0 in
    let second_name : List ℕ = text_at names q.name.0 in
    let first_shape : List ℕ = shaped p.width p.signed (10 ∷ xs) in
    let second_shape : List ℕ = shaped q.width q.signed (10 ∷ ys) in
    let kinds : IsKind p.input q.input (first_name ++ 32 ∷ first_shape) (second_name ++ 32 ∷ second_shape) =
    kind_read p.input q.input (first_name ++ 32 ∷ first_shape) (second_name ++ 32 ∷ second_shape)
    (sym (port_row (kind_text p.input) first_name p.width p.signed xs) ∙ e ∙ port_row (kind_text q.input) second_name q.width q.signed ys) in
    let name : IsCut first_name second_name first_shape second_shape =
    cut 32 first_name second_name first_shape second_shape (no_space first_name told_p.word) (no_space second_name told_q.word) kinds.after in
    let shape = shape_read p.width q.width p.signed q.signed (10 ∷ xs) (10 ∷ ys) p.at_most_128 q.at_most_128 name.after in
    record {
      same = port_same p q (name_same names p.name q.name once told_p told_q name.before) kinds.input shape.width shape.signed;
      after = ap rest_of shape.after;
    }

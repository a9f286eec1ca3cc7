-- The lines of instances, read back.
use Rattle.std.proofs.Common.{◌≡◌, ℕ, ◌==◌, ◌||◌, Bool, true, false, not, List, [], ◌∷◌, ◌++◌, flat_map, codes, refl, sym, ap, ◌∙◌, append_assoc, append-nil, All}
use Rattle.std.proofs.lemmas.Bool.{not-true}
use Rattle.std.proofs.lemmas.List.{append_cancel_left}
use Rattle.ls_text.specs.Texts.{HasEachOnce, text_at}
use Rattle.ls_text.proofs.Lists.{first_of}
use Rattle.typed_ir.specs.declared.port_shape.PortShape.{PortShape}
use Rattle.typed_ir.specs.declared.child_shape.ChildShape.{ChildShape}
use Rattle.module_registry.specs.KeyTexts.{line_end, clock_text, port_line, child_lines}
use Rattle.version_swap.specs.Told.{IsPortTold, IsChildTold}
use Rattle.version_swap.proofs.Cuts.{cut}
use Rattle.version_swap.proofs.Parts.{name_same}
use Rattle.version_swap.proofs.Lines.{IsRead, clock_text_read, port_read, no_space, kind_text}
use Rattle.version_swap.proofs.Words.{port_row}
use Rattle.version_swap.proofs.Listed.{AreLines, IsEnd, lines_read}

-- `i` or `o`, with which a port's line begins
abbrev begins_port : ℕ → Bool
begins_port c = c == 105 || c == 111

abbrev begins_child : ℕ → Bool
begins_child c = c == 99

abbrev any_byte : ℕ → Bool
any_byte c = true

abbrev no_port : ℕ → Bool
no_port c = not (begins_port c)

kind_starts : (input : Bool) (xs : List ℕ) → begins_port (first_of (kind_text input ++ xs)) ≡ true
kind_starts true xs = refl
kind_starts false xs = refl

port_starts : (names : List (List ℕ)) (p : PortShape) (xs : List ℕ) → begins_port (first_of (port_line names p ++ xs)) ≡ true
port_starts names p xs =
    ap (λ z. begins_port (first_of z)) (port_row (kind_text p.input) (text_at names p.name.0) p.width p.signed xs) ∙ kind_starts p.input _

ports_are_lines : (names : List (List ℕ)) → HasEachOnce names → AreLines (IsPortTold names) (port_line names) begins_port any_byte
ports_are_lines names once = record {
  starts = port_starts names;
  again = λ p xs. refl;
  reads = λ p q xs ys told_p told_q free_x free_y e. port_read names p q xs ys once told_p told_q e;
}

-- an instance as words in a row
abbrev child_row : List (List ℕ) → ChildShape → List ℕ → List ℕ
child_row names c xs = text_at names c.instance.0 ++ 32 ∷ (clock_text names c.clock ++ 10 ∷ (flat_map (port_line names) c.ports ++ xs))

child_rows : (names : List (List ℕ)) (c : ChildShape) (xs : List ℕ) → child_lines names c ++ xs ≡ codes "child " ++ child_row names c xs
child_rows names c xs =
    let ports : List ℕ = flat_map (port_line names) c.ports in
    let clock : List ℕ = clock_text names c.clock in
    let name : List ℕ = text_at names c.instance.0 in
    append_assoc (codes "child " ++ name ++ codes " " ++ clock ++ line_end) ports xs
    ∙ append_assoc (codes "child " ++ name ++ codes " " ++ clock) line_end (ports ++ xs)
    ∙ append_assoc (codes "child " ++ name ++ codes " ") clock (10 ∷ (ports ++ xs))
    ∙ append_assoc (codes "child " ++ name) (codes " ") (clock ++ 10 ∷ (ports ++ xs))
    ∙ append_assoc (codes "child ") name (32 ∷ (clock ++ 10 ∷ (ports ++ xs)))

child_read : (names : List (List ℕ)) (c d : ChildShape) (xs ys : List ℕ) → HasEachOnce names → IsChildTold names c → IsChildTold names d
    → no_port (first_of xs) ≡ true → no_port (first_of ys) ≡ true → child_lines names c ++ xs ≡ child_lines names d ++ ys → IsRead c d xs ys
child_read names c d xs ys once told_c told_d end_x end_y e =
    let row : child_row names c xs ≡ child_row names d ys =
    append_cancel_left (codes "child ") (child_row names c xs) (child_row names d ys) (sym (child_rows names c xs) ∙ e ∙ child_rows names d ys) in
    let name = cut 32 (text_at names c.instance.0) (text_at names d.instance.0) _ _
    (no_space (text_at names c.instance.0) told_c.instance.word) (no_space (text_at names d.instance.0) told_d.instance.word) row in
    let clock = clock_text_read names c.clock d.clock _ _ once told_c.clock told_d.clock name.after in
    let ports : IsRead c.ports d.ports xs ys =
    lines_read (IsPortTold names) (port_line names) begins_port any_byte (ports_are_lines names once) c.ports d.ports xs ys told_c.ports told_d.ports
    (port_end xs end_x) (port_end ys end_y) clock.after in
    let instance = name_same names c.instance d.instance once told_c.instance told_d.instance name.before in
    record { same = λ i. record { instance = instance i; clock = clock.same i; ports = ports.same i }; after = ports.after }
  where
    port_end : (zs : List ℕ) → no_port (first_of zs) ≡ true → IsEnd begins_port any_byte zs
    port_end zs h = record { other = not-true (begins_port (first_of zs)) h; free = refl }

children_are_lines : (names : List (List ℕ)) → HasEachOnce names → AreLines (IsChildTold names) (child_lines names) begins_child no_port
children_are_lines names once = record {
  starts = λ c xs. ap (λ z. begins_child (first_of z)) (child_rows names c xs);
  again = λ c xs. ap (λ z. no_port (first_of z)) (child_rows names c xs);
  reads = λ c d xs ys told_c told_d free_x free_y e. child_read names c d xs ys once told_c told_d free_x free_y e;
}

pub children_read : (names : List (List ℕ)) (cs ds : List ChildShape) → HasEachOnce names → All (IsChildTold names) cs → All (IsChildTold names) ds
    → flat_map (child_lines names) cs ≡ flat_map (child_lines names) ds → cs ≡ ds
children_read names cs ds once told_c told_d e =
    (lines_read (IsChildTold names) (child_lines names) begins_child no_port (children_are_lines names once) cs ds [] [] told_c told_d
    (record { other = refl; free = refl }) (record { other = refl; free = refl })
    (append-nil (flat_map (child_lines names) cs) ∙ e ∙ sym (append-nil (flat_map (child_lines names) ds)))).same

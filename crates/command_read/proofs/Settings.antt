-- The pairs of a `set`, one by one.
use Rattle.std.proofs.Common.{◌≡◌, ℕ, ◌<◌, List, [], ◌∷◌, ◌++◌, map, length, Result, Ok, Err, refl, sym, ap, ◌∙◌, subst, append_assoc, append-nil}
use Rattle.std.proofs.lemmas.List.{map-append}
use Rattle.std.proofs.lemmas.List.Elements.{All-nil, All-cons, All-append}
use Rattle.std.specs.List.{All}
use Rattle.ls_text.specs.Texts.{Grows}
use Rattle.ls_text.specs.declared.refusal.Refusal.{Refusal}
use Rattle.ls_text.specs.Readings.{TextFault, Refuses, ◌>>=◌}
use Rattle.ls_text.proofs.Refused.{refused_on}
use Rattle.command_read.specs.declared.port_value.PortValue.{PortValue}
use Rattle.command_read.specs.Asking.{of_form}
use Rattle.command_read.specs.Values.{setting_of, shown_of}
use Rattle.command_read.specs.LineCommands.{settings}
use Rattle.command_read.specs.Spoken.{setting}
use Rattle.command_read.proofs.Grown.{grown_settings, grown_ports}

-- these pairs, and then those that are read
abbrev pub onto : List (List ℕ × ℕ) → Result (List (List ℕ × ℕ)) TextFault → Result (List (List ℕ × ℕ)) TextFault
onto xs read = read >>= λ ys. Ok (xs ++ ys)

abbrev first : (line : ℕ) → List ℕ → Result (List ℕ × ℕ) TextFault
first line w = of_form line (shown_of w) (setting_of w)

pub more_settings : (line : ℕ) (xs : List (List ℕ × ℕ)) (x : List ℕ × ℕ) (w : List ℕ) (ws all : List (List ℕ)) → of_form line (shown_of w) (setting_of w) ≡ Ok x
    → onto xs (settings line (w ∷ ws)) ≡ settings line all → onto (xs ++ x ∷ []) (settings line ws) ≡ settings line all
more_settings line xs x w ws all is so_far =
    by (settings line ws) ∙ sym (ap (λ r. onto xs (r >>= λ v. settings line ws >>= λ vs. Ok (v ∷ vs))) is) ∙ so_far
  where
    by : (r : Result (List (List ℕ × ℕ)) TextFault) → onto (xs ++ x ∷ []) r ≡ onto xs (r >>= λ vs. Ok (x ∷ vs))
    by (Ok vs) = ap Ok (append_assoc xs (x ∷ []) vs)
    by (Err e) = refl

pub refused_settings : (names : List (List ℕ)) (e : Refusal) (line : ℕ) (xs : List (List ℕ × ℕ)) (w : List ℕ) (ws all : List (List ℕ))
    → Refuses names e (of_form line (shown_of w) (setting_of w)) → onto xs (settings line (w ∷ ws)) ≡ settings line all → Refuses names e (settings line all)
refused_settings names e line xs w ws all refused so_far =
    subst (Refuses names e) so_far
    (refused_on names e (first line w >>= λ v. settings line ws >>= λ vs. Ok (v ∷ vs)) (λ ys. Ok (xs ++ ys))
    (refused_on names e (first line w) (λ v. settings line ws >>= λ vs. Ok (v ∷ vs)) refused))

pub all_settings : (line : ℕ) (xs : List (List ℕ × ℕ)) (ws all : List (List ℕ)) → ws ≡ [] → onto xs (settings line ws) ≡ settings line all → settings line all ≡ Ok xs
all_settings line xs ws all none so_far = sym so_far ∙ ap (λ r. onto xs (settings line r)) none ∙ ap Ok (append-nil xs)

-- one pair more, by a table that has grown
pub step_settings : (line : ℕ) (old new : List (List ℕ)) (vs pushed : List PortValue) (v : PortValue) (w : List ℕ) (words ws all : List (List ℕ)) → Grows old new
    → All (λ (x : PortValue). x.port.0 < length old) vs → pushed ≡ vs ++ v ∷ [] → words ≡ w ∷ ws → of_form line (shown_of w) (setting_of w) ≡ Ok (setting new v)
    → onto (map (setting old) vs) (settings line words) ≡ settings line all → onto (map (setting new) pushed) (settings line ws) ≡ settings line all
step_settings line old new vs pushed v w words ws all g within is cut reads so_far =
    ap (λ xs. onto (map (setting new) xs) (settings line ws)) is
    ∙ ap (λ xs. onto xs (settings line ws)) (map-append (setting new) vs (v ∷ []) ∙ ap (λ xs. xs ++ setting new v ∷ []) (grown_settings old new g vs within))
    ∙ more_settings line (map (setting old) vs) (setting new v) w ws all reads (ap (λ ws. onto (map (setting old) vs) (settings line ws)) (sym cut) ∙ so_far)

pub step_ports : (old new : List (List ℕ)) (vs pushed : List PortValue) (v : PortValue) → Grows old new → All (λ (x : PortValue). x.port.0 < length old) vs
    → v.port.0 < length new → pushed ≡ vs ++ v ∷ [] → All (λ (x : PortValue). x.port.0 < length new) pushed
step_ports old new vs pushed v g within last is =
    let P : PortValue → Type 0 = λ x. x.port.0 < length new in
    subst (All P) (sym is) (All-append P vs (v ∷ []) (grown_ports old new g vs within) (All-cons P v [] last (All-nil P)))

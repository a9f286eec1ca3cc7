-- A row in which values are set, by numbers and by texts.
use Rattle.std.proofs.Common.{◌≡◌, ◌∙◌, ℕ, ◌+◌, ◌<◌, ◌≤◌, Bool, true, false, cond, eqb, ltb, List, [], ◌∷◌, map, drop, length, get_or, Option, Some, None, Ok, Err, sym, ap, subst}
use Rattle.std.specs.Option.{option_map}
use Rattle.std.proofs.lemmas.List.{drop_all}
use Rattle.std.proofs.lemmas.List.Elements.{All-cons, All-head, All-tail}
use Rattle.ls_text.specs.Texts.{HasEachOnce, text_at}
use Rattle.command_read.specs.Spoken.{setting}
use Rattle.command_read.specs.declared.port_value.PortValue.{PortValue}
use Rattle.stimulus.specs.Rows.{with_value as put_number}
use Rattle.typed_ir.proofs.Lists.{drop_split}
use Rattle.live_session.specs.Rows.{Row, row_of, with_value}
use Rattle.live_session.specs.Spelled.{Spelled}
use Rattle.live_session.specs.Verdicts.{input_width, port_fault, row_unless, set_row}
use Rattle.live_session.specs.Worlds.{Refused, refused_at}
use Rattle.live_session.proofs.AscendingRows.{AreWithin}
use Rattle.live_session.proofs.TextRows.{row_put}

-- names stay within where one is put
put_within : (count : ℕ) (row : List (ℕ × ℕ)) (id value : ℕ) → AreWithin count row → id < count → AreWithin count (put_number row id value)
put_within count [] id value within lt = All-cons (λ (p : ℕ × ℕ). p.0 < count) (id, value) [] lt within
put_within count (x ∷ xs) id value within lt =
    by (eqb x.0 id) (ltb id x.0) (put_within count xs id value rest lt)
  where
    rest : AreWithin count xs
    rest = All-tail (λ (p : ℕ × ℕ). p.0 < count) x xs within

    by : (same before : Bool) → AreWithin count (put_number xs id value)
        → AreWithin count (cond same ((id, value) ∷ xs) (cond before ((id, value) ∷ x ∷ xs) (x ∷ put_number xs id value)))
    by true before more = All-cons (λ (p : ℕ × ℕ). p.0 < count) (id, value) xs lt rest
    by false true more = All-cons (λ (p : ℕ × ℕ). p.0 < count) (id, value) (x ∷ xs) lt within
    by false false more =
        All-cons (λ (p : ℕ × ℕ). p.0 < count) x (put_number xs id value) (All-head (λ (p : ℕ × ℕ). p.0 < count) x xs within) more

-- what is left gives what all gives
pub record IsSetting (names : List (List ℕ)) (design : Spelled) (values : List PortValue) (start : List (ℕ × ℕ)) (i : ℕ)
    (row : List (ℕ × ℕ)) : Type 0 where
  pub left : (line : ℕ) → set_row line design (row_of names row) (map (setting names) (drop i values))
      ≡ set_row line design (row_of names start) (map (setting names) values)
  pub within : AreWithin (length names) row

module _ (names : List (List ℕ)) (once : HasEachOnce names) (design : Spelled) (values : List PortValue) (start row : List (ℕ × ℕ)) (i : ℕ)
    (d : PortValue)
    (below : i < length values) (h : IsSetting names design values start i row) (width : Option ℕ) where
  abbrev v : PortValue
  v = get_or values i d

  abbrev port : List ℕ
  port = text_at names v.port.0

  abbrev rest : List (List ℕ × ℕ)
  rest = map (setting names) (drop (i + 1) values)

  -- the step of this value
  one_step : (line : ℕ) → input_width design port ≡ width
      → set_row line design (row_of names start) (map (setting names) values)
      ≡ row_unless (port_fault line port v.value width) (set_row line design (with_value (row_of names row) port v.value) rest)
  one_step line is =
      sym (h.left line)
      ∙ ap (λ (vs : List PortValue). set_row line design (row_of names row) (map (setting names) vs)) (drop_split values i d below)
      ∙ ap (λ (w : Option ℕ). row_unless (port_fault line port v.value w) (set_row line design (with_value (row_of names row) port v.value) rest)) is

  -- which is refused
  pub refused_there : (line code : ℕ) (found : Option ℕ) → input_width design port ≡ width → found ≡ Some code
      → option_map (λ (n : ℕ). refused_at n line (port ∷ [])) found ≡ port_fault line port v.value width
      → set_row line design (row_of names start) (map (setting names) values) ≡ Err (refused_at code line (port ∷ []))
  refused_there line code found is which fault =
      one_step line is
      ∙ ap (λ (f : Option Refused). row_unless f (set_row line design (with_value (row_of names row) port v.value) rest)) (sym fault)
      ∙ ap (λ (o : Option ℕ). row_unless (option_map (λ (n : ℕ). refused_at n line (port ∷ [])) o)
      (set_row line design (with_value (row_of names row) port v.value) rest)) which

  -- or put
  pub put_there : (found : Option ℕ) (new : List (ℕ × ℕ)) → input_width design port ≡ width → found ≡ None
      → ((line : ℕ) → option_map (λ (n : ℕ). refused_at n line (port ∷ [])) found ≡ port_fault line port v.value width)
      → AreWithin (length names) row → v.port.0 < length names → new ≡ put_number row v.port.0 v.value
      → IsSetting names design values start (i + 1) new
  put_there found new is none fault within lt put = record {
    left = λ (line : ℕ).
        ap (λ (r : Row). set_row line design r rest) (ap (row_of names) put ∙ row_put names once row v.port.0 v.value within lt)
        ∙ ap (λ (o : Option ℕ). row_unless (option_map (λ (n : ℕ). refused_at n line (port ∷ [])) o)
        (set_row line design (with_value (row_of names row) port v.value) rest)) (sym none)
        ∙ ap (λ (f : Option Refused). row_unless f (set_row line design (with_value (row_of names row) port v.value) rest)) (fault line)
        ∙ sym (one_step line is);
    within = subst (AreWithin (length names)) (sym put) (put_within (length names) row v.port.0 v.value within lt);
  }

-- behind all values
pub all_set : (names : List (List ℕ)) (design : Spelled) (values : List PortValue) (start row : List (ℕ × ℕ)) (i line : ℕ) → length values ≤ i
    → IsSetting names design values start i row
    → set_row line design (row_of names start) (map (setting names) values) ≡ Ok (row_of names row)
all_set names design values start row i line end h =
    sym (h.left line) ∙ ap (λ (vs : List PortValue). set_row line design (row_of names row) (map (setting names) vs)) (drop_all i values end)

-- Names of a table stay, and all others make room for one more: what stays so has names of the table alone.
use Rattle.std.proofs.Common.{◌≡◌, ◌∙◌, ℕ, ◌+◌, ◌<◌, ◌≤◌, ◌⊎◌, Bool, true, false, nat_lt, cond}
use Rattle.std.proofs.Common.{List, [], ◌∷◌, All, length, map, inl, inr, refl, sym, ap, ap₂, arith}
use Rattle.std.specs.Prelude.{if◌then◌else◌, Result, Err}
use Rattle.std.proofs.lemmas.Bool.{cases_lt, ltb-true, ltb-false, lt-ltb}
use Rattle.std.proofs.lemmas.List.{get_or_past}
use Rattle.std.proofs.lemmas.List.Elements.{All-nil, All-cons}
use Rattle.ls_text.specs.declared.fault.Fault.{Fault}
use Rattle.ls_text.specs.declared.name_id.NameId.{NameId}
use Rattle.ls_text.specs.Readings.{fault_view}
use Rattle.ls_text.specs.Texts.{Grows, text_at}
use Rattle.ls_text.proofs.Growth.{texts_grown}
use Rattle.ls_text.proofs.Tables.{same_id}
use Rattle.ls_text.proofs.Lists.{same_first, same_others}
use Rattle.width_rules.specs.Renaming.{fault_as}
use Rattle.elaborate.specs.Renaming.{KeepsApart, SpellsSame, found_as}
use Rattle.version_swap.proofs.AlikeModules.{Stay}

module _ (count : ℕ) where
  abbrev pub moved : NameId → NameId
  moved n = if nat_lt n.0 count then n else record { 0 = n.0 + 1 }

  abbrev pub IsBelow : NameId → Type 0
  IsBelow n = n.0 < count

  chosen : (b : Bool) (n : NameId) → b ≡ true → cond b n (record { 0 = n.0 + 1 }) ≡ n
  chosen b n is = ap (λ (c : Bool). cond c n (record { 0 = n.0 + 1 })) is

  pub stay : Stay count moved
  stay n below = chosen (nat_lt n.0 count) n (lt-ltb n.0 count below)

  -- what stays is below
  pub is_below : (n : NameId) → moved n ≡ n → IsBelow n
  is_below n is = cases (nat_lt n.0 count) refl is
    where
      cases : (b : Bool) → nat_lt n.0 count ≡ b → cond b n (record { 0 = n.0 + 1 }) ≡ n → IsBelow n
      cases true lt same = ltb-true n.0 count lt
      cases false lt same = absurd (omega (arith, ap (λ (m : NameId). m.0) same))

  pub all_below : (ns : List NameId) → map moved ns ≡ ns → All IsBelow ns
  all_below [] same = All-nil IsBelow
  all_below (n ∷ ns) same =
      All-cons IsBelow n ns (is_below n (same_first (moved n) n (map moved ns) ns same))
      (all_below ns (same_others (moved n) n (map moved ns) ns same))

  pub moved_apart : KeepsApart moved
  moved_apart m n is = cases (nat_lt m.0 count) (nat_lt n.0 count) refl refl is
    where
      cases : (b c : Bool) → nat_lt m.0 count ≡ b → nat_lt n.0 count ≡ c
          → cond b m (record { 0 = m.0 + 1 }) ≡ cond c n (record { 0 = n.0 + 1 }) → m ≡ n
      cases true true here there same = same
      cases true false here there same =
          absurd (omega (arith, ap (λ (k : NameId). k.0) same, ltb-true m.0 count here, ltb-false n.0 count there))
      cases false true here there same =
          absurd (omega (arith, ap (λ (k : NameId). k.0) same, ltb-false m.0 count here, ltb-true n.0 count there))
      cases false false here there same = same_id m n (omega (arith, ap (λ (k : NameId). k.0) same))

  -- so a fault that is the same under moved names shows names below
  pub shown_below : {A : Type 0} (g : A → A) (r : Result A Fault) (f : Fault) → r ≡ found_as moved g r → r ≡ Err f → All IsBelow f.names
  shown_below g r f same is =
      let both : Err f ≡ Err (fault_as moved f) = sym is ∙ same ∙ ap (found_as moved g) is in
      let fault : f ≡ fault_as moved f = cc in
      all_below f.names (sym (ap (λ (x : Fault). x.names) fault))

-- names that move have no text before and after
pub moved_spells : (names : List (List ℕ)) → SpellsSame (moved (length names)) names names
moved_spells names n = by (cases_lt n.0 (length names))
  where
    by : (n.0 < length names) ⊎ (length names ≤ n.0) → text_at names (moved (length names) n).0 ≡ text_at names n.0
    by (inl below) = ap (λ (m : NameId). text_at names m.0) (stay (length names) n below)
    by (inr above) = cases (nat_lt n.0 (length names)) refl
      where
        cases : (b : Bool) → nat_lt n.0 (length names) ≡ b → text_at names (cond b n (record { 0 = n.0 + 1 })).0 ≡ text_at names n.0
        cases true lt = refl
        cases false lt = get_or_past names (n.0 + 1) [] (omega (arith, above)) ∙ sym (get_or_past names n.0 [] above)

-- ---- a fault that shows names of a table says the same by the table when it has grown

pub view_grown : (old new : List (List ℕ)) (f : Fault) → Grows old new → All (λ (n : NameId). n.0 < length old) f.names
    → fault_view new f ≡ fault_view old f
view_grown old new f grows all =
    ap (λ (words : List (List ℕ)). record { code = f.code; at = f.at; words = words }) (texts_grown old new f.names grows all)

-- a fault under other names that have the same texts says the same
texts_spelled : (f : NameId → NameId) (texts others : List (List ℕ)) (ns : List NameId) → SpellsSame f texts others
    → map (λ (id : NameId). text_at others id.0) (map f ns) ≡ map (λ (id : NameId). text_at texts id.0) ns
texts_spelled f texts others [] same = refl
texts_spelled f texts others (n ∷ ns) same =
    ap₂ (λ (t : List ℕ) (ts : List (List ℕ)). t ∷ ts) (same n) (texts_spelled f texts others ns same)

pub view_spelled : (f : NameId → NameId) (texts others : List (List ℕ)) (x : Fault) → SpellsSame f texts others
    → fault_view others (fault_as f x) ≡ fault_view texts x
view_spelled f texts others x same =
    ap (λ (words : List (List ℕ)). record { code = x.code; at = x.at; words = words }) (texts_spelled f texts others x.names same)

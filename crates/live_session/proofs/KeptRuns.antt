-- What a session keeps of its design where some of it changes.
use Rattle.std.proofs.Common.{◌≡◌, ◌≤◌, ◌<◌, ℕ, List, Option, Some, None, length, ap, sym, subst}
use Rattle.std.specs.List.{All}
use Rattle.std.specs.Prelude.{Ok, IfSome}
use Rattle.cycle_eval.specs.declared.design.Design.{Design}
use Rattle.module_registry.specs.Keys.{KeyData}
use Rattle.sha2.specs.Sha256.{sha256}
use Rattle.stimulus.specs.Records.{limit_of, rows_of}
use Rattle.version_swap.specs.Behind.{design_of}
use Rattle.version_swap.specs.Plans.{Plans}
use Rattle.version_swap.specs.declared.texts.Texts.{Texts}
use Rattle.live_session.specs.Charging.{Charges}
use Rattle.live_session.specs.Kept.{IsKept}
use Rattle.live_session.specs.declared.limits.Limits.{Limits}
use Rattle.live_session.specs.declared.running.Running.{Running}
use Rattle.live_session.proofs.AscendingRows.{AreWithin}

-- the texts, the design and its keys stay
pub record StaysIn (old new : Running) : Type 0 where
  pub texts : new.texts ≡ old.texts
  pub machine : new.version.value.machine.value ≡ old.version.value.machine.value
  pub keys : new.keys ≡ old.keys

pub kept_on : (names : List (List ℕ)) (limits : Limits) (old new : Running) → IsKept names limits old → StaysIn old new
    → AreWithin (length names) new.row.value → All (AreWithin (length names)) (rows_of new.record_)
    → new.charge ≤ limits.rooms.session → limit_of new.record_ ≡ limits.stimulus → IsKept names limits new
kept_on names limits old new kept stays row rows charge stimulus = record {
  named = record {
    files = subst (λ (t : Texts). All (λ f. f.name.0 < length names) t.files) (sym stays.texts) kept.named.files;
    top = subst (λ (t : Texts). IfSome t.top (λ id. id.0 < length names)) (sym stays.texts) kept.named.top;
    clock = subst (λ (t : Texts). t.clock.0 < length names) (sym stays.texts) kept.named.clock;
    row = row;
    rows = rows;
  };
  plans =
      subst (λ (ks : List KeyData). ∥ Plans names new.texts.files new.texts.top new.texts.clock (Ok (design_of new.version.value.machine.value ks))
      ∥₁)
      (sym stays.keys)
      (subst (λ (d : Design). ∥ Plans names new.texts.files new.texts.top new.texts.clock (Ok (design_of d old.keys)) ∥₁) (sym stays.machine)
      (subst (λ (t : Texts). ∥ Plans names t.files t.top t.clock (Ok (design_of old.version.value.machine.value old.keys)) ∥₁) (sym stays.texts)
      kept.plans));
  short = subst (λ (t : Texts). All (λ f. length f.text ≤ 4194304) t.files) (sym stays.texts) kept.short;
  digests = subst (All (λ (k : KeyData). k.digest ≡ sha256 k.text)) (sym stays.keys) kept.digests;
  charge = charge;
  stimulus = stimulus;
}

-- a settle's charge is all that becomes another, where it is charged
pub charged_kept : (names : List (List ℕ)) (limits : Limits) (links : ℕ) (passes : Option ℕ) (old new : Running) (result : Option ℕ)
    → IsKept names limits old → Charges limits links passes old new result → IsKept names limits new
charged_kept names limits links passes old new None kept charges = subst (λ (r : Running). IsKept names limits r) (sym charges.0) kept
charged_kept names limits links passes old new (Some most) kept charges =
    let is = charges.1.is in
    kept_on names limits old new kept
    (record {
      texts = ap (λ (r : Running). r.texts) is;
      machine = ap (λ (r : Running). r.version.value.machine.value) is;
      keys = ap (λ (r : Running). r.keys) is;
    })
    (subst (λ (r : Running). AreWithin (length names) r.row.value) (sym is) kept.named.row)
    (subst (λ (r : Running). All (AreWithin (length names)) (rows_of r.record_)) (sym is) kept.named.rows) charges.1.room
    (subst (λ (r : Running). limit_of r.record_ ≡ limits.stimulus) (sym is) kept.stimulus)

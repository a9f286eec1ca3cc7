-- What a session keeps of the design that it runs.
use Rattle.std.specs.Prelude.{◌≡◌, ◌≤◌, ◌<◌, ℕ, List, length, Ok, IfSome}
use Rattle.std.specs.List.{All}
use Rattle.ls_text.specs.declared.name_id.NameId.{NameId}
use Rattle.ls_text.specs.declared.source_file.SourceFile.{SourceFile}
use Rattle.module_registry.specs.Keys.{KeyData}
use Rattle.sha2.specs.Sha256.{sha256}
use Rattle.stimulus.specs.Records.{limit_of, rows_of}
use Rattle.version_swap.specs.Behind.{design_of}
use Rattle.version_swap.specs.Plans.{Plans}
use Rattle.live_session.specs.declared.limits.Limits.{Limits}
use Rattle.live_session.specs.declared.running.Running.{Running}

-- the names of its texts, of its row and of its record are among so many
pub record AreNamed (count : ℕ) (r : Running) : Type 0 where
  pub files : All (λ (f : SourceFile). f.name.0 < count) r.texts.files
  pub top : IfSome r.texts.top (λ (id : NameId). id.0 < count)
  pub clock : r.texts.clock.0 < count
  pub row : All (λ (p : ℕ × ℕ). p.0 < count) r.row.value
  pub rows : All (λ (row : List (ℕ × ℕ)). All (λ (p : ℕ × ℕ). p.0 < count) row) (rows_of r.record_)

-- it is the design that its texts come to
abbrev pub HasPlans : (names : List (List ℕ)) → Running → Type 0
HasPlans names r = Plans names r.texts.files r.texts.top r.texts.clock (Ok (design_of r.version.value.machine.value r.keys))

-- the same with what the limits of its session allow
pub record IsKept (names : List (List ℕ)) (limits : Limits) (r : Running) : Type 0 where
  pub named : AreNamed (length names) r
  pub plans : ∥ HasPlans names r ∥₁
  pub short : All (λ (f : SourceFile). length f.text ≤ 4194304) r.texts.files
  pub digests : All (λ (k : KeyData). k.digest ≡ sha256 k.text) r.keys
  pub charge : r.charge ≤ limits.rooms.session
  pub stimulus : limit_of r.record_ ≡ limits.stimulus

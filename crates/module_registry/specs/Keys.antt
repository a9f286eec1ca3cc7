-- Keys of jobs.
use Rattle.std.specs.Prelude.{ℕ, Bool, ◌&&◌, List, map}
use Rattle.std.specs.Str.{bytes_eq}
use Rattle.module_registry.specs.declared.build_job.BuildJob.{BuildJob}

pub record KeyData : Type 0 where
  pub digest : List ℕ
  pub text : List ℕ
  pub job : BuildJob

-- keys are equal where their digests and their texts are
abbrev pub same : KeyData → KeyData → Bool
same x y = bytes_eq x.digest y.digest && bytes_eq x.text y.text

abbrev pub jobs_of : List KeyData → List BuildJob
jobs_of keys = map (λ (k : KeyData). k.job) keys

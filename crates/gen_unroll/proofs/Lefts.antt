-- Loops over what a definition takes one after another: what is there and what is left are together what was there and the whole.
use Rattle.std.proofs.Common.{◌≡◌, List, ◌++◌, append_assoc, append-nil, Ok, Err, refl, sym, ◌∙◌, ap}
use Rattle.ls_text.specs.declared.fault.Fault.{Fault}
use Rattle.ls_text.specs.declared.refusal.Refusal.{Refusal}
use Rattle.ls_text.specs.declared.refusal.Refusal.TheVariants as refusal
use Rattle.gen_unroll.specs.declared.walk.Walk.{Walk}
use Rattle.gen_unroll.specs.Steps.{ModuleStep}
use Rattle.gen_unroll.specs.Told.{Told, go_on, ◌>>=◌, done}
use Rattle.gen_unroll.specs.Unrolled.{State}
use Rattle.gen_unroll.specs.Views.{Comes, Goes, steps_of}

pub record Left (old mid : List ModuleStep) (whole rest : Told State) : Type 0 where
  pub says : mid ++ rest.said ≡ old ++ whole.said
  pub ends : rest.ending ≡ whole.ending

pub left_all : (old : List ModuleStep) (t : Told State) → Left old old t t
left_all old t = record { says = refl; ends = refl }

pub left_more : (old mid new : List ModuleStep) (whole rest t : Told State) (f : State → Told State) (s : State)
    → Left old mid whole rest → rest ≡ (t >>= f) → Comes mid new (Ok s) t → Left old new whole (f s)
left_more old mid new whole rest t f s left is step = record {
  says = ap (λ zs. zs ++ (f s).said) step.says ∙ append_assoc mid t.said (f s).said
      ∙ sym (ap (λ r. mid ++ (go_on t.said r f).said) step.ends)
      ∙ sym (ap (λ (r : Told State). mid ++ r.said) is) ∙ left.says;
  ends = sym (ap (λ r. (go_on t.said r f).ending) step.ends) ∙ sym (ap (λ (r : Told State). r.ending) is) ∙ left.ends;
}

pub left_stop : (old mid new : List ModuleStep) (whole rest t : Told State) (f : State → Told State) (e : Fault)
    → Left old mid whole rest → rest ≡ (t >>= f) → Comes mid new (Err e) t → Comes old new (Err e) whole
left_stop old mid new whole rest t f e left is step = record {
  says = step.says ∙ sym (ap (λ r. mid ++ (go_on t.said r f).said) step.ends)
      ∙ sym (ap (λ (r : Told State). mid ++ r.said) is) ∙ left.says;
  ends = sym left.ends ∙ ap (λ (r : Told State). r.ending) is ∙ ap (λ r. (go_on t.said r f).ending) step.ends;
}

pub left_end : (old mid : List ModuleStep) (whole rest : Told State) (s : State) → Left old mid whole rest → rest ≡ done s → Comes old mid (Ok s) whole
left_end old mid whole rest s left is = record {
  says = sym (append-nil mid) ∙ sym (ap (λ (r : Told State). mid ++ r.said) is) ∙ left.says;
  ends = sym left.ends ∙ ap (λ (r : Told State). r.ending) is;
}

-- a step that is refused is the last
pub goes_stop : (old mid new : Walk) (whole rest t : Told State) (f : State → Told State) (r : Refusal)
    → Left (steps_of old) (steps_of mid) whole rest → rest ≡ (t >>= f) → Goes mid new (Err r) t → Goes old new (Err r) whole
goes_stop old mid new whole rest t f (refusal.Fault e) left is step =
    left_stop (steps_of old) (steps_of mid) (steps_of new) whole rest t f e left is step
goes_stop old mid new whole rest t f refusal.NoMemory left is step = tt

pub ruleset lefts = (left_all, left_more, left_end, goes_stop)

-- Steps that are told, one after another.
use Rattle.std.proofs.Common.{◌≡◌, List, [], ◌∷◌, ◌++◌, append_assoc, append-nil, Result, Ok, Err, sym, ◌∙◌, ap}
use Rattle.ls_text.specs.declared.fault.Fault.{Fault}
use Rattle.ls_text.specs.declared.refusal.Refusal.{Refusal}
use Rattle.ls_text.specs.declared.refusal.Refusal.TheVariants as refusal
use Rattle.gen_unroll.specs.declared.walk.Walk.{Walk}
use Rattle.gen_unroll.specs.Steps.{ModuleStep}
use Rattle.gen_unroll.specs.Told.{Told, go_on, ◌>>=◌, say, say_all, quiet}
use Rattle.gen_unroll.specs.Unrolled.{State}
use Rattle.ls_text.specs.Answers.{Answers}
use Rattle.gen_unroll.specs.Views.{Comes, Goes, steps_of}

-- a step and the next one
pub then : {A : Type 0} (old mid new : List ModuleStep) (x : A) (t : Told A) (f : A → Told State) (end : Result State Fault)
    → mid ≡ old ++ t.said → t.ending ≡ Ok x → Comes mid new end (f x) → Comes old new end (t >>= f)
then old mid new x t f end said ends next = record {
  says = next.says ∙ ap (λ zs. zs ++ (f x).said) said ∙ append_assoc old t.said (f x).said
      ∙ sym (ap (λ r. old ++ (go_on t.said r f).said) ends);
  ends = ap (λ r. (go_on t.said r f).ending) ends ∙ next.ends;
}

pub then_goes : (old mid new : List ModuleStep) (s : State) (t : Told State) (f : State → Told State) (end : Result State Fault)
    → Comes old mid (Ok s) t → Comes mid new end (f s) → Comes old new end (t >>= f)
then_goes old mid new s t f end first next = then old mid new s t f end first.says first.ends next

-- a step with a fault is the last
pub stops : {A : Type 0} (old new : List ModuleStep) (t : Told A) (f : A → Told State) (e : Fault)
    → new ≡ old ++ t.said → t.ending ≡ Err e → Comes old new (Err e) (t >>= f)
stops old new t f e said ends = record {
  says = said ∙ sym (ap (λ r. old ++ (go_on t.said r f).said) ends);
  ends = ap (λ r. (go_on t.said r f).ending) ends;
}

pub stop_goes : (old new : List ModuleStep) (t : Told State) (f : State → Told State) (e : Fault) → Comes old new (Err e) t → Comes old new (Err e) (t >>= f)
stop_goes old new t f e first = stops old new t f e first.says first.ends

-- a step that tells nothing
pub quiet_ok : {A : Type 0} (old new : List ModuleStep) (x : A) (r : Result A Fault) (f : A → Told State) (end : Result State Fault)
    → r ≡ Ok x → Comes old new end (f x) → Comes old new end (quiet r >>= f)
quiet_ok old new x r f end is next = then old old new x (quiet r) f end (sym (append-nil old)) is next

pub say_goes : (old new : List ModuleStep) (x : ModuleStep) (s t : State) → new ≡ old ++ x ∷ [] → s ≡ t → Comes old new (Ok s) (say x t)
say_goes old new x s t said is = record { says = said; ends = ap Ok (sym is) }

-- what tells one step and then goes on
pub say_then : (old mid new : List ModuleStep) (x : ModuleStep) (s t : State) (f : State → Told State) (end : Result State Fault)
    → mid ≡ old ++ x ∷ [] → s ≡ t → Comes mid new end (f s) → Comes old new end (say x t >>= f)
say_then old mid new x s t f end said is next = then_goes old mid new s (say x t) f end (say_goes old mid x s t said is) next

pub say_all_then : (old mid new : List ModuleStep) (xs : List ModuleStep) (s t : State) (f : State → Told State) (end : Result State Fault)
    → mid ≡ old ++ xs → s ≡ t → Comes mid new end (f s) → Comes old new end (say_all xs t >>= f)
say_all_then old mid new xs s t f end said is next =
    then_goes old mid new s (say_all xs t) f end (record { says = said; ends = ap Ok (sym is) }) next

-- a refusal where nothing was told
pub quiet_refused : {A B : Type 0} (old new : Walk) (r : Refusal) (view : A → B) (d : Result B Fault) (f : B → Told State)
    → steps_of new ≡ steps_of old → Answers {A = A} (Err r) view d → Goes old new (Err r) (quiet d >>= f)
quiet_refused old new (refusal.Fault e) view d f same is = stops (steps_of old) (steps_of new) (quiet d) f e (same ∙ sym (append-nil (steps_of old))) is
quiet_refused old new refusal.NoMemory view d f same is = tt

-- a refusal is the last
pub refused_first : (old new : Walk) (r : Refusal) (t : Told State) (f : State → Told State) → Goes old new (Err r) t → Goes old new (Err r) (t >>= f)
refused_first old new (refusal.Fault e) t f first = stop_goes (steps_of old) (steps_of new) t f e first
refused_first old new refusal.NoMemory t f first = tt

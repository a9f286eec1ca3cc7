use Rattle.std.proofs.Common.{◌≡◌, ◌∙◌, IsTrue, length, ap, subst, sym}
use Rattle.std.proofs.Math.Logic.{∥∥₁_elim}
use Rattle.std.proofs.Props.{props}
use Rattle.typed_ir.specs.Cycles.{IsReady as IsBased}
use Rattle.typed_ir.specs.Linkeds.{flat}
use Rattle.word_steps.specs.Sound.{are_sound}
use Rattle.word_steps.specs.Walks.{env_of, walk, at}
use Rattle.design_steps.specs.Plans.{IsReady, signals}
use Rattle.design_steps.specs.Views.{plan_of}
use Rattle.design_steps.specs.Layings.{own_plan, signals_of}
use Rattle.design_steps.specs.Programs.{AreNext}
use Rattle.design_steps.specs.Moves.{moved, env_by}
use Rattle.design_steps.proofs.Turning.{settle_code, settled_back, settles, settled_based, settled_next}
use Rattle.design_steps.proofs.program.Program.settle.Goals as goal

pub walk-requires : goal.walk-requires
walk-requires c =
    let p = c.args.self.now in
    ∥∥₁_elim c.requires.program (hlevel props) (λ is.
    subst (λ n. IsTrue (are_sound n c.deref.result.now)) (sym c.requires.long)
    (subst (λ steps. IsTrue (are_sound (length p.beginning.items) steps)) (sym c.deref.ensures.value) is.sound_nodes))

pub returns-clause-value : goal.returns-clause-value
returns-clause-value c = λ state inputs h.
    let p = c.args.self.now in
    let w = env_by p.places.items c.args.words.now in
    let e : env_by p.places.items c.walk.new.words ≡ (walk (settle_code p c.args.linked.now) (at 0 w)).words =
    ap (λ v. (λ k. v (moved p.places.items k))) (c.walk.ensures ∙ ap (λ steps. (walk steps (at 0 (env_of c.args.words.now))).words) c.deref.ensures.value)
    ∙ ∥∥₁_elim c.requires.program (hlevel props) (λ is. settled_back p c.args.linked.now is (env_of c.args.words.now)) in
    ap (signals (plan_of p.layout)) e
    ∙ ∥∥₁_elim c.requires.program (hlevel props) (λ is. (settles p c.args.linked.now is w state inputs h.ready.ready h.based).now)

pub returns-clause-ready : goal.returns-clause-ready
returns-clause-ready c = λ state inputs h.
    let p = c.args.self.now in
    let l = c.args.linked.now in
    let w = env_by p.places.items c.args.words.now in
    let after = (walk (settle_code p l) (at 0 w)).words in
    let e : env_by p.places.items c.walk.new.words ≡ after =
    ap (λ v. (λ k. v (moved p.places.items k))) (c.walk.ensures ∙ ap (λ steps. (walk steps (at 0 (env_of c.args.words.now))).words) c.deref.ensures.value)
    ∙ ∥∥₁_elim c.requires.program (hlevel props) (λ is. settled_back p l is (env_of c.args.words.now)) in
    record {
      ready = record {
        ready = subst (IsReady (own_plan p.layout) (signals_of l.design)) (sym e) (record {
          fits = λ t k. ∥∥₁_elim c.requires.program (hlevel props) (λ is. (settles p l is w state inputs h.ready.ready h.based).ready.fits t k);
          next_fits = λ t m. ∥∥₁_elim c.requires.program (hlevel props) (λ is. (settles p l is w state inputs h.ready.ready h.based).ready.next_fits t m);
          holds = λ v m. ∥∥₁_elim c.requires.program (hlevel props) (λ is. (settles p l is w state inputs h.ready.ready h.based).ready.holds v m);
        });
        nexts = subst (AreNext p.layout l.design) (sym e) (record {
          fits = λ t m. ∥∥₁_elim c.requires.program (hlevel props) (λ is.
              (settled_next p l is w after state inputs h.based h.ready.nexts (settles p l is w state inputs h.ready.ready h.based)).fits t m);
          same = λ t m. ∥∥₁_elim c.requires.program (hlevel props) (λ is.
              (settled_next p l is w after state inputs h.based h.ready.nexts (settles p l is w state inputs h.ready.ready h.based)).same t m);
        });
      };
      based = subst (λ v. IsBased (flat l.design) state inputs (signals (own_plan p.layout) v)) (sym e)
          (λ s i free. ∥∥₁_elim c.requires.program (hlevel props) (λ is.
          settled_based p l is w after state inputs h.based (settles p l is w state inputs h.ready.ready h.based) s i free));
    }

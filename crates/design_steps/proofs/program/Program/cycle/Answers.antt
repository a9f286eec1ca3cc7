use Rattle.std.proofs.Common.{◌<◌, ◌+◌, ◌*◌, IsTrue, length, refl, ap, subst, sym, ◌∙◌}
use Rattle.std.proofs.Math.Logic.{∥∥₁_elim}
use Rattle.std.proofs.Props.{props}
use Rattle.typed_ir.specs.Cycles.{wires}
use Rattle.typed_ir.specs.Linkeds.{flat}
use Rattle.word_steps.specs.Sound.{are_sound}
use Rattle.word_steps.specs.Walks.{env_of}
use Rattle.design_steps.proofs.Signals.{registers_within}
use Rattle.design_steps.specs.Moves.{moved, env_by}
use Rattle.design_steps.proofs.Turning.{Turns, clocked_back, turned, next_state, next_based}
use Rattle.design_steps.proofs.program.Program.cycle.Goals as goal

pub clock-requires-clause-sound : goal.clock-requires-clause-sound
clock-requires-clause-sound c =
    let p = c.args.self.now in
    ∥∥₁_elim c.requires.program (hlevel props) (λ is.
    subst (λ n. IsTrue (are_sound n p.clocking.items)) (sym (c.settle.auto.words ∙ c.requires.long)) is.sound_blocks)

pub clock-requires-clause-room : goal.clock-requires-clause-room
clock-requires-clause-room c =
    let l = c.args.linked.now in
    ∥∥₁_elim c.requires.program (hlevel props) (λ is.
    subst (λ n. 3 * length l.design.signals.items + 2 * length l.design.registers.items + 1 < n) (sym (c.settle.auto.words ∙ c.requires.long)) (registers_within c.args.self.now l is))

pub returns-clause-value : goal.returns-clause-value
returns-clause-value c = λ state inputs h.
    let p = c.args.self.now in
    let l = c.args.linked.now in
    let v = wires (flat l.design) state inputs in
    let w = env_by c.args.self.now.places.items c.settle.new.words in
    let settled = c.settle.ensures.ready state inputs h in
    ∥∥₁_elim c.requires.program (hlevel props) (λ is.
    next_state p l is w (env_by p.places.items c.clock.new.words) v state inputs refl
    (subst (λ x. Turns p l w x v) (sym (ap (λ u. (λ k. u (moved p.places.items k))) c.clock.ensures ∙ clocked_back p l is (env_of c.settle.new.words)))
    (turned p l is w state inputs settled.ready.ready settled.ready.nexts (c.settle.ensures.value state inputs h))))

pub returns-clause-ready : goal.returns-clause-ready
returns-clause-ready c = λ state inputs h.
    let p = c.args.self.now in
    let l = c.args.linked.now in
    let v = wires (flat l.design) state inputs in
    let w = env_by c.args.self.now.places.items c.settle.new.words in
    let after = env_by c.args.self.now.places.items c.clock.new.words in
    let settled = c.settle.ensures.ready state inputs h in
    let value = c.settle.ensures.value state inputs h in
    record {
      ready = record {
        ready = record {
          fits = λ t k. ∥∥₁_elim c.requires.program (hlevel props) (λ is.
              (subst (λ x. Turns p l w x v) (sym (ap (λ u. (λ k. u (moved p.places.items k))) c.clock.ensures ∙ clocked_back p l is (env_of c.settle.new.words))) (turned p l is w state inputs settled.ready.ready settled.ready.nexts value)).ready.fits t k);
          next_fits = λ t m. ∥∥₁_elim c.requires.program (hlevel props) (λ is.
              (subst (λ x. Turns p l w x v) (sym (ap (λ u. (λ k. u (moved p.places.items k))) c.clock.ensures ∙ clocked_back p l is (env_of c.settle.new.words))) (turned p l is w state inputs settled.ready.ready settled.ready.nexts value)).ready.next_fits t m);
          holds = λ u m. ∥∥₁_elim c.requires.program (hlevel props) (λ is.
              (subst (λ x. Turns p l w x v) (sym (ap (λ u. (λ k. u (moved p.places.items k))) c.clock.ensures ∙ clocked_back p l is (env_of c.settle.new.words))) (turned p l is w state inputs settled.ready.ready settled.ready.nexts value)).ready.holds u m);
        };
        nexts = record {
          fits = λ t m. ∥∥₁_elim c.requires.program (hlevel props) (λ is.
              (subst (λ x. Turns p l w x v) (sym (ap (λ u. (λ k. u (moved p.places.items k))) c.clock.ensures ∙ clocked_back p l is (env_of c.settle.new.words))) (turned p l is w state inputs settled.ready.ready settled.ready.nexts value)).nexts.fits t m);
          same = λ t m. ∥∥₁_elim c.requires.program (hlevel props) (λ is.
              (subst (λ x. Turns p l w x v) (sym (ap (λ u. (λ k. u (moved p.places.items k))) c.clock.ensures ∙ clocked_back p l is (env_of c.settle.new.words))) (turned p l is w state inputs settled.ready.ready settled.ready.nexts value)).nexts.same t m);
        };
      };
      based = λ s i free. ∥∥₁_elim c.requires.program (hlevel props) (λ is.
          next_based p l is w after v state inputs refl settled.based
          (subst (λ x. Turns p l w x v) (sym (ap (λ u. (λ k. u (moved p.places.items k))) c.clock.ensures ∙ clocked_back p l is (env_of c.settle.new.words))) (turned p l is w state inputs settled.ready.ready settled.ready.nexts value)) s i free);
    }

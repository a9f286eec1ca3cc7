use Rattle.std.proofs.Common.{◌≡◌, ◌+◌, ◌<◌, ◌∙◌, length, sym, ap, subst, rules}
use Rattle.std.proofs.Math.Logic.{∥∥₁_elim}
use Rattle.std.proofs.Props.{props}
use Rattle.typed_ir.specs.Valuations.{put}
use Rattle.word_steps.specs.Walks.{env_of}
use Rattle.design_steps.specs.Plans.{IsReady, signals}
use Rattle.design_steps.specs.Layings.{own_plan, clocking_plan, signals_of}
use Rattle.design_steps.specs.Moves.{moved, env_by}
use Rattle.design_steps.specs.Programs.{AreNext}
use Rattle.design_steps.proofs.Signals.{slot_within, next_above, next_low, next_within, both_back, put_value, put_held, put_next}
use Rattle.design_steps.proofs.program.Program.put.Goals as goal

pub place_above-next-requires : goal.place_above-next-requires
place_above-next-requires c =
    let p = c.args.self.now in
    let count : c.len.result ≡ length p.layout.widths.items = search (rules, c.len.ensures) in
    let s = c.args.signal in
    subst (λ n. c.own_place-place.result + c.len.result < n) (sym c.requires.long)
    (subst (λ k. k < length p.beginning.items) (sym (ap (λ n. c.own_place-place.result + n) count ∙ ap (λ k. k + length p.layout.widths.items) c.own_place-place.ensures))
    (∥∥₁_elim c.requires.program (hlevel props) (λ is.
    subst (λ k. k < length p.beginning.items) (sym (next_above p c.args.linked.now is s c.requires.there)) (next_low p c.args.linked.now is s c.requires.there))))

pub put_word-requires : goal.put_word-requires
put_word-requires c =
    let p = c.args.self.now in
    let s = c.args.signal in
    subst (λ n. c.placed-first.result < n) (sym c.requires.long)
    (subst (λ k. k < length p.beginning.items) (sym (c.placed-first.ensures ∙ ap (λ q. moved q c.own_place-place.result) c.deref.ensures.value ∙ ap (moved p.places.items) c.own_place-place.ensures))
    (∥∥₁_elim c.requires.program (hlevel props) (λ is. slot_within p c.args.linked.now is s)))

pub put_word-requires-2 : goal.put_word-requires-2
put_word-requires-2 c =
    let p = c.args.self.now in
    let count : c.len.result ≡ length p.layout.widths.items = search (rules, c.len.ensures) in
    let s = c.args.signal in
    subst (λ n. c.placed-second.result < n) (sym (c.put_word.auto.words ∙ c.requires.long))
    (∥∥₁_elim c.requires.program (hlevel props) (λ is.
    subst (λ k. k < length p.beginning.items)
    (sym (c.placed-second.ensures ∙ ap (λ q. moved q c.place_above-next.result) c.deref-2.ensures.value ∙ ap (moved p.places.items)
    (c.place_above-next.ensures ∙ ap (λ n. c.own_place-place.result + n) count ∙ ap (λ k. k + length p.layout.widths.items) c.own_place-place.ensures ∙ next_above p c.args.linked.now is s c.requires.there)))
    (next_within p c.args.linked.now is s c.requires.there)))

pub returns-clause-value : goal.returns-clause-value
returns-clause-value c =
    let p = c.args.self.now in
    let count : c.len.result ≡ length p.layout.widths.items = search (rules, c.len.ensures) in
    let l = c.args.linked.now in
    let w = env_of c.args.words.now in
    let s = c.args.signal in
    let x = c.args.value in
    ∥∥₁_elim c.requires.program (hlevel props) (λ is.
    ap (signals (own_plan p.layout))
    (both_back p l is w (env_of c.put_word.new.words) (env_of c.put_word-2.new.words) s x c.placed-first.result c.placed-second.result
    (c.placed-first.ensures ∙ ap (λ q. moved q c.own_place-place.result) c.deref.ensures.value ∙ ap (moved p.places.items) c.own_place-place.ensures)
    (c.placed-second.ensures ∙ ap (λ q. moved q c.place_above-next.result) c.deref-2.ensures.value ∙ ap (moved p.places.items)
    (c.place_above-next.ensures ∙ ap (λ n. c.own_place-place.result + n) count ∙ ap (λ k. k + length p.layout.widths.items) c.own_place-place.ensures ∙ next_above p l is s c.requires.there))
    c.put_word.ensures c.put_word-2.ensures)
    ∙ put_value p l is (env_by p.places.items c.args.words.now) s x c.requires.there)

pub returns-clause-held : goal.returns-clause-held
returns-clause-held c = λ held.
    let p = c.args.self.now in
    let count : c.len.result ≡ length p.layout.widths.items = search (rules, c.len.ensures) in
    let l = c.args.linked.now in
    let w = env_by p.places.items c.args.words.now in
    let s = c.args.signal in
    let x = c.args.value in
    let there = c.requires.there in
    let small = c.requires.fits in
    let e : env_by p.places.items c.put_word-2.new.words ≡ put (put w ((own_plan p.layout).slot s) x) ((clocking_plan p.layout).next s) x =
    ∥∥₁_elim c.requires.program (hlevel props) (λ is.
    both_back p l is (env_of c.args.words.now) (env_of c.put_word.new.words) (env_of c.put_word-2.new.words) s x c.placed-first.result c.placed-second.result
    (c.placed-first.ensures ∙ ap (λ q. moved q c.own_place-place.result) c.deref.ensures.value ∙ ap (moved p.places.items) c.own_place-place.ensures)
    (c.placed-second.ensures ∙ ap (λ q. moved q c.place_above-next.result) c.deref-2.ensures.value ∙ ap (moved p.places.items)
    (c.place_above-next.ensures ∙ ap (λ n. c.own_place-place.result + n) count ∙ ap (λ k. k + length p.layout.widths.items) c.own_place-place.ensures ∙ next_above p l is s there))
    c.put_word.ensures c.put_word-2.ensures) in
    record {
      ready = subst (IsReady (own_plan p.layout) (signals_of l.design)) (sym e) (record {
        fits = λ t h. ∥∥₁_elim c.requires.program (hlevel props) (λ is. (put_held p l is w s x there small held.ready).fits t h);
        next_fits = λ t m. ∥∥₁_elim c.requires.program (hlevel props) (λ is. (put_held p l is w s x there small held.ready).next_fits t m);
        holds = λ v m. ∥∥₁_elim c.requires.program (hlevel props) (λ is. (put_held p l is w s x there small held.ready).holds v m);
      });
      nexts = subst (AreNext p.layout l.design) (sym e) (record {
        fits = λ t m. ∥∥₁_elim c.requires.program (hlevel props) (λ is. (put_next p l is w s x there small held.nexts).fits t m);
        same = λ t m. ∥∥₁_elim c.requires.program (hlevel props) (λ is. (put_next p l is w s x there small held.nexts).same t m);
      });
    }

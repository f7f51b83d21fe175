use Rattle.afdx_tx.proofs.Names.{◌<◌, List, length, refl, ap, ◌∙◌, subst, arith, NoFieldFalls, Published, published, last_of, with_entry, Tx, IsSound, Reaches, PublishesCounts, Publishes}
use Rattle.afdx_tx.proofs.SoundEmitter.{count_is, sound_counts}
use Rattle.afdx_tx.proofs.emitter.Emitter.publish.Goals as goal

-- The published counts of a sound emitter's links are those of their own streams.
publishes : (old : Tx) (board : List Published) → IsSound old.plan old.links old.lines old.moment → Reaches old.links old.board
    → PublishesCounts old.links old.board board → Publishes old (record old { board = board })
publishes old board sound reaches p =
    let count = count_is old.plan old.links sound.of_plan in
    record {
      same = refl;
      count = p.count;
      each = λ k lt.
          let here : k < length old.links = omega arith in
          p.each k here
          ∙ ap (with_entry (published old.board k)) (sound_counts old.plan old.links old.lines old.moment sound k here);
      rises = λ k lt.
          let here : k < length old.links = omega arith in
          subst (NoFieldFalls (last_of old.board k)) (sound_counts old.plan old.links old.lines old.moment sound k here)
          (reaches.each k here);
    }

pub returns : goal.returns
returns g c = rw (← c.self.view_is) (publishes _ _ c.self.invariant.0 c.self.invariant.1 (grind arith))

use Rattle.subvl_queue.proofs.Names.{rest, rules, None, sym, ap, ◌∙◌, ◌∷◌, [], arith, room_with}
use Rattle.subvl_queue.proofs.Moves.{publishes_ok}
use Rattle.subvl_queue.proofs.ring.Ring.publish.Goals as goal

pub slot_mut-requires : goal.slot_mut-requires
slot_mut-requires c =
    let old = room_with c.args.self.now.most None in
    let here = c.requires.held ∙ ap (λ k. (k, old) ∷ []) (sym c.requires.slot.0) in
    (c.requires.seat.0, (old, here ∙ ap (λ l. (c.args.slot, old) ∷ rest l) (sym here)))

pub store-requires : goal.store-requires
store-requires c =
    let view = c.requires.view in
    let item = c.requires.item in (
      search rules,
      search rules,
      publishes_ok _ _ _ _ _ view.0 view.1
          (grind arith) (grind arith) (grind arith),
    )

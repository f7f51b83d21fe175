use Rattle.subvl_queue.proofs.Names.{rest, arith, rules, Some, ap, ◌∙◌, sym, ◌∷◌, room_with}
use Rattle.subvl_queue.proofs.Moves.{takes_out_ok}
use Rattle.subvl_queue.proofs.ring.Ring.take.Goals as goal

pub slot_mut-requires : goal.slot_mut-requires
slot_mut-requires c =
    let t = c.requires.slot in
    let old = room_with c.args.self.now.most (Some t.0) in
    (c.requires.seat, (old, t.1 ∙ ap (λ l. (c.args.slot, old) ∷ rest l) (sym t.1)))

pub fetch_add-requires : goal.fetch_add-requires
fetch_add-requires c =
    let view = c.requires.view in (
      search rules,
      search rules,
      takes_out_ok _ _ _ view.0 view.1 (grind arith),
    )

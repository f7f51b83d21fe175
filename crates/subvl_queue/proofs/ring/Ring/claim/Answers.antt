use Rattle.subvl_queue.proofs.Names.{rules, ℕ, sym, subst, ◌∙◌, Allows, claims, step, none, Queue, IsMessage, room_with, ◌+◌, ◌%◌, ◌^◌}
use Rattle.subvl_queue.proofs.Moves.{claims_ok}
use Rattle.subvl_queue.proofs.ring.Ring.claim.Goals as goal

pub fetch_add-requires : goal.fetch_add-requires
fetch_add-requires g c =
    let said = c.requires.said in
    let view = c.requires.view in
    let table = c.args.self.now.table.shared in
    let most = c.args.self.now.roomy.0 ∙ sym c.requires.most in (
      search rules,
      search rules,
      subst (λ (m : ℕ). Allows (Queue (room_with table.key) IsMessage) table.table_id.slots c.args.seat.now.id c.args.seat.now.me 1 (λ y. (y + 1) % 2 ^ 64)
          (claims (room_with m) g.W.Said.item (step table.table_id.slots 1 1 0 none) c.args.seat.now.me)) most
          (claims_ok _ _ _ _ _ said.0 said.1 c.requires.message view.0 view.1 c.requires.seat.1),
    )

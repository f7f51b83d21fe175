use Rattle.subvl_queue.proofs.Names.{rules, ℕ, sym, subst, ◌∙◌, suc, ◌≡◌, ◌+◌, arith, length, eqb-true, eq-eqb, ◌≢◌, Misses, Allows, finds_ready, step, none, Queue, IsMessage, room_with}
use Rattle.subvl_queue.proofs.Moves.{finds_ready_ok}
use Rattle.subvl_queue.proofs.ring.Ring.is_ready.Goals as goal

pub load-requires : goal.load-requires
load-requires g c =
    let seat = c.requires.seat in
    let table = c.args.self.now.table.shared in
    let most = c.args.self.now.roomy.0 ∙ sym c.requires.most in (
      search rules,
      search rules,
      subst (λ (m : ℕ). Allows (Queue (room_with table.key) IsMessage) table.table_id.slots c.args.seat.now.id c.args.seat.now.me (2 + c.args.slot) (λ x. x)
          (finds_ready (room_with m) IsMessage (length c.args.seat.now.me.0.taken) (step table.table_id.slots (2 + c.args.slot) 0 0 none) c.args.seat.now.me)) most
          (finds_ready_ok _ _ _ (2 + c.args.slot) (length c.args.seat.now.me.0.taken) seat.2 seat.3 seat.1 (grind arith) (grind arith)),
    )

pub returns-clause-found : goal.returns-clause-found
returns-clause-found g c = λ hit.
    let word = eqb-true _ _ hit in
    let ready : c.load.result ≡ suc (length c.args.seat.now.me.0.taken) = omega arith in
    let found = c.load.ensures.2.0 ready in
    (found.0, grind arith)

pub returns-clause-none : goal.returns-clause-none
returns-clause-none g c = λ miss.
    let apart : c.load.result ≢ suc (length c.args.seat.now.me.0.taken) = λ ready.
    let here : c.load.result ≡ c.args.place + 1 = omega arith in absurd (grind (arith, eq-eqb)) in
    subst (λ (p : ℕ). Misses p c.args.seat.now.me c.load.new.seat.me) (sym c.requires.place.0) (c.load.ensures.2.1 apart)

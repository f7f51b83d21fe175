use Rattle.subvl_queue.proofs.Names.{rules, ◌≡◌, ℕ, ◌+◌, ◌<◌, List, [], ◌∷◌, ◌++◌, length, get_or, ◌∙◌, ap, arith, get_or_append_left, get_or_push, new_sender, one_more, most_bytes}
use Rattle.subvl_queue.proofs.making.make.Goals as goal

-- One more row of a table.
next_row : {A : Type 0} (xs : List A) (y d : A) (f : ℕ → A) (n : ℕ) → length xs ≡ n → y ≡ f n → ((k : ℕ) → k < n → get_or xs k d ≡ f k)
    → (k : ℕ) → k < n + 1 → get_or (xs ++ y ∷ []) k d ≡ f k
next_row xs y d f n e is h = grind (arith, get_or_append_left, get_or_push)

pub loop-port-preserved : goal.loop-port-preserved
loop-port-preserved c =
    let old = c.loop-port.invariant in
    let got = c.in_ok-new_sender.ensures in
    let xs = c.loop-port.senders.items in
    record {
      receiver = got.one_more ∙ ap one_more old.receiver;
      count = grind arith;
      len = search rules;
      room = search rules;
      senders = rw c.push_reserved.ensures.items (λ k d lt. next_row xs _ d (new_sender c.in_ok-receiver.receiver.queue c.args.capacity most_bytes c.args.calls) _
          old.count (grind arith)
          (λ j near. old.senders j d near) k lt);
    }

use Rattle.afdx_tx.proofs.Names.{ℕ, ◌≡◌, ◌<◌, length, get_or, take, queues_in, AreOpenedLinks, PortView, IsFreshPort}
use Rattle.afdx_tx.proofs.open.open_ports.Given as goal

abbrev pub invariant-loop-place : goal.invariant-loop-place
invariant-loop-place l = record {
  opened : AreOpenedLinks l.config (take l.place l.config.ports) l.links (length l.config.links);
  count : length l.ports.items ≡ l.place;
  each : (k : ℕ) (d : PortView) → k < l.place → IsFreshPort l.config (queues_in l.links) k (get_or l.ports.items k d);
}

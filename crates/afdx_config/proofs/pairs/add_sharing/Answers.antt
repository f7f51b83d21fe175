use Rattle.afdx_config.proofs.Names.{refl, ◌∙◌, get_or, Port, address_cmp, get, pair_finding, take_all, position, share_unicast}
use Rattle.afdx_config.proofs.AddLemmas.{row_more, no_port}
use Rattle.afdx_config.proofs.SharingLemmas.{sharing}
use Rattle.afdx_config.proofs.pairs.add_sharing.Goals as goal

pub loop-i-preserved : goal.loop-i-preserved
loop-i-preserved c = row_more (λ k p. pair_finding c.args.fault c.args.key.now Port k (position (λ e. share_unicast e p) c.args.ports.now))
    c.loop-i.i c.args.ports.now _ _ _ _ _ c.loop-i-test.true refl c.loop-i.invariant
    (rw (c.sharing_place-first.ensures ∙ sharing c.args.ports.now (get address_cmp c.in_ok-firsts.firsts) c.in_ok-firsts.ensures
    (get_or c.args.ports.now c.loop-i.i no_port)) at c.in_ok-add_pair.ensures)

pub returns : goal.returns
returns c = rw (take_all c.loop-i.i c.args.ports.now c.loop-i-test.false) at c.loop-i.invariant

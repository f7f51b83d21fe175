use Rattle.afdx_tx.proofs.Names.{arith, ◌≡◌, with_items, with_items_is, GathersPorts, IsSound}
use Rattle.afdx_tx.proofs.Conforming.{sound_conforms}
use Rattle.afdx_tx.proofs.GatheredPorts.{gathers_reaches, gathers_wait}
use Rattle.afdx_tx.proofs.OwnLengths.{GathersAll, gathers_all}
use Rattle.afdx_tx.proofs.emitter.Emitter+A+B.gather.Given
use Rattle.afdx_tx.proofs.emitter.Emitter+A+B.gather.Goals as goal

pub invariant_of-result : goal.invariant_of-result
invariant_of-result g c =
    let are : (with_items c.self.inside.links.items c.gather_links.new.links).items ≡ c.gather_links.new.links = grind (arith, with_items_is) in
    let gathers : GathersPorts c.self.inside.config c.self.inside.links.items.items c.args.ports.items c.gather_links.new.links = grind arith in
    let was : IsSound c.args.self.plan c.args.self.links c.args.self.lines c.args.self.moment = rw (← c.self.view_is) c.self.invariant.0 in
    let all = gathers_all c.args.self c.args.ports.items c.gather_links.new.links (rw (← c.self.view_is) gathers) was c.requires.opened (grind arith) in
    rw are (
      rw (← c.self.view_is) at all.sound,
      gathers_reaches _ _ _ _ _ gathers c.self.invariant.1,
      gathers_wait _ _ _ _ _ gathers c.self.invariant.2,
      (all.whole, rw (← c.self.view_is) at all.allowed),
    )

-- The links of the emitter afterwards.
links_are : (g : Given.Over) (c : goal.Joined-self g)
    → (with_items c.self.inside.links.items c.gather_links.new.links).items ≡ c.gather_links.new.links
links_are g c = grind (arith, with_items_is)

-- What holds of them.
all : (g : Given.Over) (c : goal.Joined-self g) → GathersAll c.args.self c.args.ports.items c.gather_links.new.links
all g c =
    let gathers : GathersPorts c.self.inside.config c.self.inside.links.items.items c.args.ports.items c.gather_links.new.links = grind arith in
    gathers_all c.args.self c.args.ports.items c.gather_links.new.links (rw (← c.self.view_is) gathers) (rw (← c.self.view_is) c.self.invariant.0)
    c.requires.opened (grind arith)

pub returns-clause-gathered : goal.returns-clause-gathered
returns-clause-gathered g c = rw (links_are g c, ← c.self.view_is) (rw (← c.self.view_is) at (all g c).gathered)

pub returns-clause-allowed : goal.returns-clause-allowed
returns-clause-allowed g c = rw (links_are g c) (rw (← c.self.view_is) at (all g c).allowed)

pub returns-clause-conforms : goal.returns-clause-conforms
returns-clause-conforms g c = sound_conforms _ (rw (links_are g c) (rw (← c.self.view_is) at (all g c).sound))

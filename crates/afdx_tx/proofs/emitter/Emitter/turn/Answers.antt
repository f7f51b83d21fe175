use Rattle.afdx_tx.proofs.Names.{counts_more, falls_not_through, with_append, ◌≡◌, arith, refl, with_items_is, with_items, IsRun, IsSound, IsSteady, both_none}
use Rattle.afdx_tx.proofs.SoundEmitter.{links_apart, sound_after}
use Rattle.afdx_tx.proofs.PollTurns.{polling_none}
use Rattle.afdx_tx.proofs.Conforming.{keeps_phase, runs, sound_conforms, still_in}
use Rattle.afdx_tx.proofs.emitter.Emitter.turn.Given
use Rattle.afdx_tx.proofs.emitter.Emitter.turn.Goals as goal

-- Before any link is due, each turn releases nothing.
none_due : (g : Given.Over) (c : goal.Then-now-self g)
    → IsRun c.args.now c.self.inside.links.items.items c.self.inside.links.items.items c.self.inside.mux c.self.inside.mux
none_due g c = record {
  count = refl;
  turns = (polling_none c.args.now _ _ _ (grind arith) c.self.invariant.0.whole c.self.invariant.2 c.if-now-self.true _ (grind arith)).turns;
}

-- The emitter is sound at that time too.
sound_then : (g : Given.Over) (c : goal.Then-now-self g)
    → IsSound c.self.inside.config c.self.inside.links.items.items c.self.inside.mux c.args.now
sound_then g c = grind arith

pub returns-then-not-any_up-clause-lawful : goal.returns-then-not-any_up-clause-lawful
returns-then-not-any_up-clause-lawful g c = rw (← c.self.view_is) (keeps_phase g.P.Phase.gathered _ _ c.self.invariant.3
    (grind arith) (sound_conforms _ c.self.invariant.0) (both_none c.self.inside.mux) refl refl).lawful

pub returns-then-now-self-clause-lawful : goal.returns-then-now-self-clause-lawful
returns-then-now-self-clause-lawful g c = rw (← c.self.view_is) (keeps_phase g.P.Phase.gathered _ _ c.self.invariant.3
    (grind arith) (sound_conforms _ (sound_then g c)) (both_none c.self.inside.mux) refl refl).lawful

pub returns-then-now-self-clause-run : goal.returns-then-now-self-clause-run
returns-then-now-self-clause-run g c =
    rw (← c.self.view_is) (runs g.P.Phase.gathered c.args.now _ _ c.self.invariant.0.of_plan c.self.invariant.3 (none_due g c))

pub serve_all-self-inside-requires-clause-apart : goal.serve_all-self-inside-requires-clause-apart
serve_all-self-inside-requires-clause-apart g c = grind (arith, links_apart)

-- The links of the emitter afterwards.
links_are : (g : Given.Over) (c : goal.After-standing-standing g)
    → (with_items c.self.inside.links.items c.serve_all-self-inside.new.links).items ≡ c.serve_all-self-inside.new.links
links_are g c = grind (arith, with_items_is)

-- The turns kept the invariant, over the links before them.
steady : (g : Given.Over) (c : goal.After-standing-standing g)
    → IsSteady c.args.now c.self.inside.links.items.items c.serve_all-self-inside.new.links c.serve_all-self-inside.new.mux
steady g c = grind arith

-- The emitter is sound after the poll.
sound : (g : Given.Over) (c : goal.After-standing-standing g)
    → IsSound c.self.inside.config (with_items c.self.inside.links.items c.serve_all-self-inside.new.links).items
    c.serve_all-self-inside.new.mux c.args.now
sound g c = rw (links_are g c) (sound_after _ _ _ _ _ c.self.invariant.0.valid c.self.invariant.0.of_plan (steady g c)
    c.standing-standing.ensures.mirrored c.serve_all-self-inside.ensures.whole)

pub invariant_of-self-2 : goal.invariant_of-self-2
invariant_of-self-2 g c = (
  sound g c,
  rw (links_are g c) (grind (arith, falls_not_through, with_append, counts_more)),
  rw (links_are g c) c.serve_all-self-inside.ensures.wait,
  still_in g.P.Phase.gathered _ _ _ _ refl (rw (links_are g c) (steady g c).same) c.self.invariant.3,
)

pub returns-clause-lawful : goal.returns-clause-lawful
returns-clause-lawful g c = rw (← c.self.view_is) (keeps_phase g.P.Phase.gathered _ _ c.self.invariant.3
    (rw (links_are g c) (steady g c).same) (sound_conforms _ (sound g c)) c.serve_all-self-inside.ensures.stays_down refl refl).lawful

pub returns-clause-run : goal.returns-clause-run
returns-clause-run g c = rw (← c.self.view_is) (runs g.P.Phase.gathered c.args.now _ _ c.self.invariant.0.of_plan c.self.invariant.3
    (rw (links_are g c) (grind arith)))

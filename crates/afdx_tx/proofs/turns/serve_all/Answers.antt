use Rattle.afdx_tx.proofs.Names.{◌++◌, ◌≡◌, ◌<◌, ◌∙◌, zero-le, sym, length, get_or, arith, and_parts, get_or_default, set-get_or, link_at, no_link, turn_release}
use Rattle.afdx_tx.proofs.PollTurns.{turned_at, polling_more, polling_on, wait_more}
use Rattle.afdx_tx.proofs.turns.serve_all.Goals.{then-may_release, else-may_release}
use Rattle.afdx_tx.proofs.turns.serve_all.Given
use Rattle.afdx_tx.proofs.turns.serve_all.Goals as goal

-- The place is that of a link.
within : (g : Given.Over) (c : goal.Joined-may_release g) → c.loop-link.link-index < length c.loop-link.links
within g c = grind arith

-- The tested link is the one at that place.
asked : (g : Given.Over) (c : goal.Joined-may_release g)
    → get_or c.loop-link.links c.loop-link.link-index c.link-item.result
    ≡ link_at c.loop-link.links c.loop-link.link-index
asked g c = grind (arith, get_or_default, no_link, within)

pub serve-did-requires-clause-paced : goal.serve-did-requires-clause-paced
serve-did-requires-clause-paced g c = grind (arith, get_or_default, no_link, and_parts)

pub loop-link-preserved : goal.loop-link-preserved
loop-link-preserved g c =
    let links = c.loop-link.links in
    let i = c.loop-link.link-index in
    let inv = c.loop-link.invariant in
    let p = inv.polls in
    let lt = within g c in
    elim c.if-may_release.branch [
      | then-may_release w ↦
          let e = w.serve-did.ensures in
          let may = rw (asked g c) at (sym c.may_release.ensures ∙ w.if-may_release.true) in
          let turned = turned_at _ _ links _ _ _ _ _ (asked g c) lt p.steady.later (p.whole i lt (and_parts _ _ may).1)
          e.serves e.paced e.same e.lost e.counted in
          rw (w.links-is, w.mux-is, w.notes-is, w.first-is) (record {
            released = inv.released ++ turn_release (link_at links i).plan.id w.serve-did.result;
            noted = grind arith;
            polls = polling_more c.args.now i c.args.links.now links c.args.mux.now c.loop-link.mux w.serve-did.new.mux
                w.serve-did.new.self w.serve-did.result inv.released p c.requires.apart lt turned e.later e.stays_down;
            wait = λ k klt. zero-le;
          })
      | else-may_release w ↦
          let no = rw (asked g c) at (sym c.may_release.ensures ∙ w.if-may_release.false) in
          rw (w.links-is ∙ set-get_or links i c.link-item.result, w.mux-is, w.notes-is, w.first-is) (record {
            released = inv.released;
            noted = inv.noted;
            polls = polling_on c.args.now i c.args.links.now links c.args.mux.now c.loop-link.mux inv.released p lt no;
            wait = rw (w.min-first.ensures, w.waits_until.ensures) (wait_more _ i links _ (asked g c) inv.wait);
          })
    ]

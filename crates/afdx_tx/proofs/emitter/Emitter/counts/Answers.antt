use Rattle.afdx_tx.proofs.Names.{◌≡◌, ◌∙◌, ◌<◌, length, arith, ap, sym, ℕ, refl, get_or_default, LinkState, no_link, own_stream, counts_in, IsLinkAt}
use Rattle.afdx_tx.proofs.PortLink.{none_has, found_at}
use Rattle.afdx_tx.proofs.SoundEmitter.{count_is, sound_counts}
use Rattle.afdx_tx.proofs.emitter.Emitter.counts.Given
use Rattle.afdx_tx.proofs.emitter.Emitter.counts.Goals as goal

-- The found link.
there : (g : Given.Over) (c : goal.After-counts g) → IsLinkAt c.self.inside.config c.args.vl.0 c.in_ok-place.place
there g c = let at = found_at c.self.inside.config.links c.args.vl.0 c.in_ok-place.place (grind arith) in
    grind arith

-- Its counts.
found : (g : Given.Over) (c : goal.After-counts g)
    → c.counts.result ≡ counts_in (own_stream c.args.vl.0 c.self.inside.mux.a c.self.inside.mux.b)
found g c =
    let config = c.self.inside.config in
    let links = c.self.inside.links.items.items in
    let sound = c.self.invariant.0 in
    let at = there g c in
    let within : c.in_ok-place.place < length c.self.inside.links.items.items = grind (arith, count_is) in
    c.counts.ensures ∙ ap (λ (l : LinkState). l.counts) (c.index.ensures
    ∙ get_or_default links c.in_ok-place.place c.index.result.now no_link within)
    ∙ sound_counts config links c.self.inside.mux c.self.inside.moment sound c.in_ok-place.place within
    ∙ ap (λ (v : ℕ). counts_in (own_stream v c.self.inside.mux.a c.self.inside.mux.b)) at.id

pub returns-in_err-place : goal.returns-in_err-place
returns-in_err-place g c = rw (← c.self.view_is, c.from_residual.ensures) (record {
  missing = (
    λ _ place at. none_has c.self.inside.config.links c.args.vl.0 place (grind arith) at.within at.id,
    λ _. refl,
  );
  counts = tt;
  as_published = tt;
})

pub returns : goal.returns
returns g c = rw (← c.self.view_is) (record {
  missing = (λ e. cc, λ lacks. absurd (lacks c.in_ok-place.place (there g c)));
  counts = found g c;
  as_published = λ place here. found g c
      ∙ ap (λ (v : ℕ). counts_in (own_stream v c.self.inside.mux.a c.self.inside.mux.b)) (sym here.id);
})

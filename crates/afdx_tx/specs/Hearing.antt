-- What an emitter was told of the messages that its ports have sent.
use Rattle.std.specs.Prelude.{ℕ, ◌≡◌, List, slice_set}
use Rattle.afdx_plan.specs.Config.{link_place}
use Rattle.vl_link.specs.Calls.{ChangesSub, ChangesQueue, Hears}
use Rattle.vl_link.specs.Links.{link_at}
use Rattle.afdx_tx.specs.Emitter.{Tx}
use Rattle.afdx_tx.specs.Ports.{PortView}

-- the place of a port's link in the plan
abbrev pub place_of : Tx → PortView → ℕ
place_of tx port = link_place tx.plan port.plan

-- An emitter whose queue for a port was told of the port's messages; all else is unchanged.
pub record HearsTx (old : Tx) (port : PortView) (new : Tx) : Type 0 where
  pub same : new ≡ record old {
    links = slice_set old.links (place_of old port) (link_at new.links (place_of old port));
  }
  pub hears : ChangesSub (ChangesQueue (Hears port.sender)) port.plan.sub
      (link_at old.links (place_of old port)) (link_at new.links (place_of old port))

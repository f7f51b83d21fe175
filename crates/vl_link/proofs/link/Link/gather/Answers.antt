use Rattle.vl_link.proofs.Names.{arith, subst, AreFullSubs}
use Rattle.vl_link.proofs.link.Link.gather.Goals as goal

pub gather_subs-requires : goal.gather_subs-requires
gather_subs-requires c =
    record { full = subst AreFullSubs (grind arith) c.requires.full }

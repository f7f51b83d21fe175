use Rattle.afdx_tx.proofs.TakenBack.{full_back}
use Rattle.afdx_tx.proofs.gather.gather_links.Goals as goal

pub gather_all-requires : goal.gather_all-requires
gather_all-requires c =
    let r = c.requires in
    record {
      full = full_back c.args.config.now c.args.links.now c.take_back_all.new.links c.args.ports.now.items r.valid r.of_plan r.receiving
          c.take_back_all.ensures.same r.opened r.every c.take_back_all.ensures.back;
    }

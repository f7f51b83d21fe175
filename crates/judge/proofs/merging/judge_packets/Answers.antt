use Rattle.judge.proofs.Names.{arith}
use Rattle.judge.proofs.Places.{next_a, next_b, found_on, rest_is}
use Rattle.judge.proofs.merging.judge_packets.Goals as goal

pub packets-preserved-in-A : goal.packets-preserved-in-A
packets-preserved-in-A c = record {
  in_a = c.place_from-on_a-in-A.ensures.within;
  in_b = c.packets.invariant.in_b;
  first_a = c.place_from-on_a-in-A.ensures.first;
  first_b = c.packets.invariant.first_b;
  same = found_on _ _ _ _ _ _ _ _
      (next_a c.args.alone c.args.a.now c.args.b.now c.packets.on_a c.packets.on_b c.place_from-on_a-in-A.result _
      (grind arith) c.packets.invariant.first_a c.packets.invariant.first_b
      (rw (← rest_is c.args.a.now c.packets.on_a, ← rest_is c.args.b.now c.packets.on_b) (cc))
      c.place_from-on_a-in-A.ensures.same) c.packets.invariant.same c.in_ok-take-in-A.ensures.after
      c.in_ok-take-in-A.ensures.found;
}

pub packets-preserved : goal.packets-preserved
packets-preserved c = record {
  in_a = c.packets.invariant.in_a;
  in_b = c.place_from-on_b-in-B.ensures.within;
  first_a = c.packets.invariant.first_a;
  first_b = c.place_from-on_b-in-B.ensures.first;
  same = found_on _ _ _ _ _ _ _ _
      (next_b c.args.alone c.args.a.now c.args.b.now c.packets.on_a c.packets.on_b c.place_from-on_b-in-B.result _
      (grind arith) c.packets.invariant.first_a c.packets.invariant.first_b
      (rw (← rest_is c.args.a.now c.packets.on_a, ← rest_is c.args.b.now c.packets.on_b) (cc))
      c.place_from-on_b-in-B.ensures.same) c.packets.invariant.same c.in_ok-take-in-B.ensures.after
      c.in_ok-take-in-B.ensures.found;
}

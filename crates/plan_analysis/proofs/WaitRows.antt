-- Worked rows of the law of the wait by traffic.
use Rattle.plan_analysis.proofs.Names.{arith, refl, ◌+◌, ◌*◌, ◌/◌, MeetsByTraffic, MeetsInGroup, MeetsWithJitter, NeedsPeriods}

pub meets_by_traffic : MeetsByTraffic
meets_by_traffic = record {
  wait = record {
    busy = 1000;
    is_busy = record { some = omega arith; is = refl; least = λ t some is. grind arith };
    soon = omega arith;
    met = (0, omega arith, record { some = omega arith; end = 1000; enough = omega arith; least = λ t enough. omega arith; is = refl });
    most = λ t le. (1000, grind arith, omega arith);
    short = omega arith;
  };
  busy = record {
    own_kept = λ t some le. absurd (omega arith);
    rest_kept = λ t some le. absurd (omega arith);
    kept = omega arith;
    rest_accepted = λ t few. omega arith;
    has = λ t some le. absurd (omega arith);
    sends = λ t few. omega arith;
  };
  released = omega arith;
  sooner = λ one. absurd (omega arith);
}

pub meets_with_jitter : MeetsWithJitter
meets_with_jitter = record {
  wait = record {
    busy = 2000;
    is_busy = record { some = omega arith; is = refl; least = λ t some is. grind arith };
    soon = omega arith;
    met = (1, omega arith, record { some = omega arith; end = 2000; enough = omega arith; least = λ t enough. omega arith; is = refl });
    most = λ t le. (1000 * (1 + (t + 2999) / 3000), omega arith, grind arith);
    short = omega arith;
  };
  busy = record {
    own_kept = λ t some le. grind arith;
    rest_kept = λ t some le. omega arith;
    kept = omega arith;
    rest_accepted = λ t few. omega arith;
    has = λ t some le. grind arith;
    sends = λ t few. grind arith;
  };
  released = omega arith;
  sooner = λ two. absurd (omega arith);
}

pub meets_in_group : MeetsInGroup
meets_in_group = record {
  wait = record {
    busy = 4000;
    is_busy = record { some = omega arith; is = refl; least = λ t some is. grind arith };
    soon = omega arith;
    met = (0, omega arith, record { some = omega arith; end = 5000; enough = omega arith; least = λ t enough. grind arith; is = refl });
    most = λ t le. (5000, grind arith, omega arith);
    short = omega arith;
  };
  busy = record {
    own_kept = λ t some le. absurd (omega arith);
    rest_kept = λ t some le. absurd (omega arith);
    kept = omega arith;
    rest_accepted = λ t few. grind arith;
    has = λ t some le. absurd (omega arith);
    sends = λ t few. grind arith;
  };
  released = omega arith;
  sooner = λ all. absurd (omega arith);
}

pub needs_periods : NeedsPeriods
needs_periods = record {
  wait = record {
    busy = 4000;
    is_busy = record { some = omega arith; is = refl; least = λ t some is. grind arith };
    soon = omega arith;
    met = (0, omega arith, record { some = omega arith; end = 4000; enough = omega arith; least = λ t enough. grind arith; is = refl });
    most = λ t le. (4000, grind arith, omega arith);
    short = omega arith;
  };
  unkept = λ few. absurd (omega arith);
  missed = λ end le all. grind arith;
}

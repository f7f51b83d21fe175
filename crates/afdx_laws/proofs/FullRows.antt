-- The worked requests of the law of a queue that is never full, by computation.
use Rattle.afdx_laws.proofs.RunNames.{is_with, AreTimely, byte_sender, late_senders, load_at, ℕ, ◌≡◌, ◌+◌, ◌≤◌, [], ◌∷◌, refl, arith, Some, nil_isnt_cons, cutting, fragments_at, addresses, header_front, internet_header, link_header, udp_header, datagram, unnumbered, log, PortPlan, port_plan_at, IsKnownBacklog, IsWaitInGroup, IsNeed, Option, None, List, min, unwrap_or, ◌*◌, ◌/◌, KeepPeriods, AreSendersOf, byte_plan, bytes_accepted, no_line, byte_line, failed_line, short_sent, AsksAfter, asked_at, QueueName, Refuses, Full, AskCase, FillsItsQueue, NeedsPlaces, asking_port, full_port, each, other_each, ap}
use Rattle.afdx_frame.specs.Checksum.{checksum}
use Rattle.afdx_laws.proofs.NeededRuns.{in_time}
use Rattle.afdx_laws.proofs.TrafficRows.{byte_none, byte_wait, keeps_one, near_fails, needs_traffic}

-- with a period of 1,001
slow_wait : IsWaitInGroup 1000 (record { fragments = 1; period = 1001; jitter = 0 } ∷ []) [] 1000
slow_wait = record {
  busy = 1000;
  is_busy = record { some = omega arith; is = refl; least = λ t some is. grind arith };
  soon = omega arith;
  met = (0, omega arith, record { some = omega arith; end = 1000; enough = omega arith; least = λ t enough. grind arith; is = refl });
  most = λ t le. (1000 * (1 + (t + 0) / 1001), grind arith, grind arith);
  short = omega arith;
}

slow_need : IsNeed 1000 (record { fragments = 1; period = 1001; jitter = 0 } ∷ []) 1000 1
slow_need = record {
  backlog = Some 1;
  is_backlog = record {
    busy = 1000;
    is_busy = record { some = omega arith; is = refl; least = λ t some is. grind arith };
    is_most = record { met = (0, omega arith, refl); most = λ t le. grind arith };
  };
  less = refl;
}

-- with a period of a round
byte_need : IsNeed 1000 (record { fragments = 1; period = 1000; jitter = 0 } ∷ []) 1000 2
byte_need = record {
  backlog = Some 2;
  is_backlog = record {
    busy = 1000;
    is_busy = record { some = omega arith; is = refl; least = λ t some is. grind arith };
    is_most = record { met = (1000, omega arith, refl); most = λ t le. grind arith };
  };
  less = refl;
}

one_less : IsNeed 1000 (record { fragments = 1; period = 1000; jitter = 0 } ∷ []) 1000 1 → ⊥
one_less of = by_backlog of.backlog of.is_backlog of.less
  where
    by_backlog : (o : Option ℕ) → IsKnownBacklog 1000 (record { fragments = 1; period = 1000; jitter = 0 } ∷ []) o
        → 1 ≡ min (unwrap_or o 2) 2 → ⊥
    by_backlog None none less = absurd (omega arith)
    by_backlog (Some b) known less =
        let some = known.is_busy.some in
        let long : 1000 ≤ known.busy = (let is = known.is_busy.is in grind arith) in
        let two = known.is_most.most 1000 long in
        grind arith

refuses : (queue : QueueName) → Refuses (asking_port queue) 1 Full (full_port queue)
refuses queue = record { may = record { some = omega arith; most = omega arith }; queue = (omega arith, omega arith, refl); same = refl }

asks_one : AsksAfter byte_plan (bytes_accepted 1) 0 0 (short_sent 0 ∷ []) [] (short_sent 0) []
asks_one = grind arith

asks_none : AsksAfter byte_plan (bytes_accepted 0) 0 0 [] [] (short_sent 0) []
asks_none = grind arith

asks_two : AsksAfter byte_plan (bytes_accepted 2) 0 0 (short_sent 0 ∷ short_sent 0 ∷ []) [] (short_sent 0) []
asks_two = grind arith

asks_twice : AsksAfter byte_plan (bytes_accepted 0) 0 0 [] (short_sent 0 ∷ []) (short_sent 0) []
asks_twice = grind arith

asks_unaccepted : AsksAfter byte_plan (bytes_accepted 0) 0 0 (short_sent 0 ∷ []) [] (short_sent 0) [] → ⊥
asks_unaccepted asks = nil_isnt_cons asks.are

slow_is : AreSendersOf byte_plan (each 1001)
slow_is = grind arith

byte_is : AreSendersOf byte_plan (each 1000)
byte_is = grind arith

other_is : AreSendersOf byte_plan (other_each 1001) → ⊥
other_is of =
    let id_of : List PortPlan → ℕ = λ ports. (port_plan_at ports 0).id.0 in
    let same : ◌≡◌ {A = ℕ} 11 10 = ap id_of of.ports in
    absurd (omega arith)

keep_other : KeepPeriods (other_each 1001) 0 (asked_at 0 (short_sent 0) ∷ asked_at 0 (short_sent 0) ∷ [])
keep_other = keeps_one _ 0 1001 (asked_at 0 (short_sent 0) ∷ asked_at 0 (short_sent 0) ∷ []) refl (grind arith)
    (record { dues = []; due = tt; apart = tt })

keep_slow : KeepPeriods (each 1001) 0 (asked_at 0 (short_sent 0) ∷ asked_at 1001 (short_sent 0) ∷ [])
keep_slow = keeps_one _ 0 1001 (asked_at 0 (short_sent 0) ∷ asked_at 1001 (short_sent 0) ∷ []) refl (grind arith)
    (record { dues = 0 ∷ 1001 ∷ []; due = grind arith; apart = grind arith })

keep_byte : KeepPeriods (each 1000) 0 (asked_at 0 (short_sent 0) ∷ asked_at 1000 (short_sent 0) ∷ [])
keep_byte = keeps_one _ 0 1000 (asked_at 0 (short_sent 0) ∷ asked_at 1000 (short_sent 0) ∷ []) refl (grind arith)
    (record { dues = 0 ∷ 1000 ∷ []; due = grind arith; apart = grind arith })

keep_one : KeepPeriods (each 1001) 0 (asked_at 0 (short_sent 0) ∷ [])
keep_one = keeps_one _ 0 1001 (asked_at 0 (short_sent 0) ∷ []) refl (grind arith)
    (record { dues = 0 ∷ []; due = grind arith; apart = grind arith })

at_once : KeepPeriods (each 1001) 0 (asked_at 0 (short_sent 0) ∷ asked_at 0 (short_sent 0) ∷ []) → ⊥
at_once keeps = near_fails 1001 0 0 0 (omega arith) (keeps.periods 0 byte_sender (omega arith))

late_wait : IsWaitInGroup 1000 (record { fragments = 1; period = 2000; jitter = 999 } ∷ []) [] 1000
late_wait = record {
  busy = 1000;
  is_busy = record { some = omega arith; is = refl; least = λ t some is. grind arith };
  soon = omega arith;
  met = (0, omega arith, record { some = omega arith; end = 1000; enough = omega arith; least = λ t enough. grind arith; is = refl });
  most = λ t le. (1000 * (1 + (t + 999) / 2000), grind arith, grind arith);
  short = omega arith;
}

late_need : IsNeed 1000 (record { fragments = 1; period = 2000; jitter = 999 } ∷ []) 1000 1
late_need = record {
  backlog = Some 1;
  is_backlog = record {
    busy = 1000;
    is_busy = record { some = omega arith; is = refl; least = λ t some is. grind arith };
    is_most = record { met = (0, omega arith, refl); most = λ t le. grind arith };
  };
  less = refl;
}

late_is : AreSendersOf byte_plan (late_senders 999)
late_is = grind arith

too_near : KeepPeriods (late_senders 999) 0 (asked_at 0 (short_sent 0) ∷ asked_at 1000 (short_sent 0) ∷ []) → ⊥
too_near keeps = near_fails 2000 999 0 1000 (omega arith) (keeps.periods 0 byte_sender (omega arith))

two_isnt : 2 ≤ 1 → ⊥
two_isnt le = absurd (omega arith)

no_poll : AreTimely 1000 0 1000 0 [] → ⊥
no_poll timely = absurd (omega arith)

-- a queue with the one message, or none
load_one : load_at 0 (0 ∷ []) [] no_line ≡ 1
unfolding log cutting fragments_at
load_one = refl

load_owed : load_at 1 [] [] no_line ≡ 1
unfolding log cutting fragments_at
load_owed = refl

load_twice : load_at 0 [] (short_sent 0 ∷ []) no_line ≡ 1
unfolding log cutting fragments_at
load_twice = refl

load_down : load_at 0 (0 ∷ []) [] failed_line ≡ 1
unfolding log cutting fragments_at
load_down = refl

load_early : load_at 1 (0 ∷ []) [] (byte_line 5000) ≡ 1
unfolding log checksum addresses header_front internet_header link_header udp_header datagram unnumbered cutting fragments_at
load_early = refl

fills_asks : AskCase 10 (each 1001) 1 0 0 0 [] [] 0 [] no_line no_line
unfolding is_with log
fills_asks = record {
  senders_are = slow_is;
  wait_is = (refl, (byte_none (each 1001), slow_wait));
  need_is = slow_need;
  fits = omega arith;
  asks = asks_none;
  starts = tt;
  quiet = refl;
  keep = keep_one;
  finding = refl;
  is_up = refl;
  timely = omega arith;
}

filled : load_at 0 [] [] no_line + 1 ≡ 1
filled = refl

pub fills_its_queue : FillsItsQueue
fills_its_queue = record { premises = fills_asks; is = refl; filled = filled }

foreign_asks : AskCase 0 (other_each 1001) 1 1 0 0 (0 ∷ []) [] 0 [] no_line no_line
unfolding is_with log
foreign_asks = record {
  senders_are = other_is;
  wait_is = (refl, (byte_none (other_each 1001), slow_wait));
  need_is = slow_need;
  fits = omega arith;
  asks = asks_one;
  starts = tt;
  quiet = refl;
  keep = keep_other;
  finding = refl;
  is_up = refl;
  timely = omega arith;
}

short_asks : AskCase 1 (each 1000) 1 1 0 0 (0 ∷ []) [] 1000 [] no_line no_line
unfolding is_with log
short_asks = record {
  senders_are = byte_is;
  wait_is = (refl, (byte_none (each 1000), byte_wait));
  need_is = one_less;
  fits = omega arith;
  asks = asks_one;
  starts = tt;
  quiet = refl;
  keep = keep_byte;
  finding = refl;
  is_up = refl;
  timely = omega arith;
}

small_asks : AskCase 2 (each 1000) 2 1 0 0 (0 ∷ []) [] 1000 [] no_line no_line
unfolding is_with log
small_asks = record {
  senders_are = byte_is;
  wait_is = (refl, (byte_none (each 1000), byte_wait));
  need_is = byte_need;
  fits = two_isnt;
  asks = asks_one;
  starts = tt;
  quiet = refl;
  keep = keep_byte;
  finding = refl;
  is_up = refl;
  timely = omega arith;
}

unaccepted_asks : AskCase 3 (each 1001) 1 0 0 0 (0 ∷ []) [] 1001 (1000 ∷ []) no_line no_line
unfolding is_with log
unaccepted_asks = record {
  senders_are = slow_is;
  wait_is = (refl, (byte_none (each 1001), slow_wait));
  need_is = slow_need;
  fits = omega arith;
  asks = asks_unaccepted;
  starts = tt;
  quiet = refl;
  keep = keep_slow;
  finding = needs_traffic.unaccepted.finding;
  is_up = refl;
  timely = in_time;
}

early_asks : AskCase 4 (each 1001) 1 2 1 0 (0 ∷ []) [] 1001 (1000 ∷ []) (byte_line 5000) (byte_line 5000)
unfolding is_with log
early_asks = record {
  senders_are = slow_is;
  wait_is = (refl, (byte_none (each 1001), slow_wait));
  need_is = slow_need;
  fits = omega arith;
  asks = asks_two;
  starts = needs_traffic.early.starts;
  quiet = needs_traffic.early.quiet;
  keep = keep_slow;
  finding = needs_traffic.early.finding;
  is_up = needs_traffic.early.is_up;
  timely = in_time;
}

owing_asks : AskCase 5 (each 1001) 1 1 1 0 [] [] 0 [] no_line no_line
unfolding is_with log
owing_asks = record {
  senders_are = slow_is;
  wait_is = (refl, (byte_none (each 1001), slow_wait));
  need_is = slow_need;
  fits = omega arith;
  asks = asks_one;
  starts = tt;
  quiet = needs_traffic.owing.quiet;
  keep = keep_one;
  finding = refl;
  is_up = refl;
  timely = omega arith;
}

unkept_asks : AskCase 6 (each 1001) 1 1 0 0 (0 ∷ []) [] 0 [] no_line no_line
unfolding is_with log
unkept_asks = record {
  senders_are = slow_is;
  wait_is = (refl, (byte_none (each 1001), slow_wait));
  need_is = slow_need;
  fits = omega arith;
  asks = asks_one;
  starts = tt;
  quiet = refl;
  keep = at_once;
  finding = refl;
  is_up = refl;
  timely = omega arith;
}

hasty_asks : AskCase 6 (late_senders 999) 1 1 0 0 (0 ∷ []) [] 1000 [] no_line no_line
unfolding is_with log
hasty_asks = record {
  senders_are = late_is;
  wait_is = (refl, (byte_none (late_senders 999), late_wait));
  need_is = late_need;
  fits = omega arith;
  asks = asks_one;
  starts = tt;
  quiet = refl;
  keep = too_near;
  finding = refl;
  is_up = refl;
  timely = omega arith;
}

twice_asks : AskCase 6 (each 1001) 1 0 0 0 [] (short_sent 0 ∷ []) 0 [] no_line no_line
unfolding is_with log
twice_asks = record {
  senders_are = slow_is;
  wait_is = (refl, (byte_none (each 1001), slow_wait));
  need_is = slow_need;
  fits = omega arith;
  asks = asks_twice;
  starts = tt;
  quiet = refl;
  keep = at_once;
  finding = refl;
  is_up = refl;
  timely = omega arith;
}

unfound_asks : AskCase 7 (each 1001) 1 1 0 0 (0 ∷ []) [] 1001 (1000 ∷ []) no_line no_line
unfolding is_with log
unfound_asks = record {
  senders_are = slow_is;
  wait_is = (refl, (byte_none (each 1001), slow_wait));
  need_is = slow_need;
  fits = omega arith;
  asks = asks_one;
  starts = tt;
  quiet = refl;
  keep = keep_slow;
  finding = needs_traffic.unfound.finding;
  is_up = refl;
  timely = in_time;
}

down_asks : AskCase 8 (each 1001) 1 1 0 0 (0 ∷ []) [] 1001 (1000 ∷ []) failed_line failed_line
unfolding is_with log
down_asks = record {
  senders_are = slow_is;
  wait_is = (refl, (byte_none (each 1001), slow_wait));
  need_is = slow_need;
  fits = omega arith;
  asks = asks_one;
  starts = needs_traffic.down.starts;
  quiet = needs_traffic.down.quiet;
  keep = keep_slow;
  finding = needs_traffic.down.finding;
  is_up = needs_traffic.down.is_up;
  timely = in_time;
}

late_asks : AskCase 9 (each 1001) 1 1 0 0 (0 ∷ []) [] 1001 [] no_line no_line
unfolding is_with log
late_asks = record {
  senders_are = slow_is;
  wait_is = (refl, (byte_none (each 1001), slow_wait));
  need_is = slow_need;
  fits = omega arith;
  asks = asks_one;
  starts = tt;
  quiet = refl;
  keep = keep_slow;
  finding = refl;
  is_up = refl;
  timely = no_poll;
}

one_at : (load : ℕ) → load ≡ 1 → 1 ≤ load
one_at load is = omega arith

pub needs_places : NeedsPlaces
needs_places = record {
  foreign = record { premises = foreign_asks; load = one_at _ load_one; refused = refuses };
  short = record { premises = short_asks; load = one_at _ load_one; refused = refuses };
  small = record { premises = small_asks; load = one_at _ load_one; refused = refuses };
  unaccepted = record { premises = unaccepted_asks; load = one_at _ load_one; refused = refuses };
  early = record { premises = early_asks; load = one_at _ load_early; refused = refuses };
  owing = record { premises = owing_asks; load = one_at _ load_owed; refused = refuses };
  unkept = record { premises = unkept_asks; load = one_at _ load_one; refused = refuses };
  hasty = record { premises = hasty_asks; load = one_at _ load_one; refused = refuses };
  twice = record { premises = twice_asks; load = one_at _ load_twice; refused = refuses };
  unfound = record { premises = unfound_asks; load = one_at _ load_one; refused = refuses };
  down = record { premises = down_asks; load = one_at _ load_down; refused = refuses };
  late = record { premises = late_asks; load = one_at _ load_one; refused = refuses };
}

-- The worked drain, by computation.
use Rattle.afdx_tx.proofs.Names.{◌≡◌, ℕ, ◌<◌, [], ◌∷◌, length, true, None, refl, List, arith, IsAllDone, A, IsLater, latest, IsReleased, Owes, Released, Drains, stream_at, owed_at, AreDrained, DrainsOne, no_lines, one_line, fragments_at, log, demo_plan, demo_link, demo_valid, Bool, false, false≢true, Lines, may_release, pace_in, line_of, failed_line, two_moments, one_line_at, two_accepted, StartsAfter, AreEnough, LeavesOne, NeedsItsPolls, one_byte_accepted, one_frame}
use Rattle.afdx_frame.specs.Checksum.{checksum}
use Rattle.afdx_frame.specs.Cutting.{cutting}
use Rattle.afdx_frame.specs.Frame.{addresses, header_front, internet_header, link_header, udp_header, datagram, unnumbered}

-- There is one link, and one sub-VL.
only_one : (P : ℕ → Type 0) → P 0 → (k : ℕ) → k < 1 → P k
only_one P here k lt = grind arith

-- The message's fragment is transmitted.
released : IsReleased 1 demo_link (one_byte_accepted 0) (log one_line) 0
unfolding log checksum addresses header_front internet_header link_header udp_header datagram unnumbered cutting fragments_at
released = refl

-- At first it isn't.
owes : Owes 1 demo_link (one_byte_accepted 0) (log no_lines) 0
unfolding log checksum addresses header_front internet_header link_header udp_header datagram unnumbered cutting fragments_at
owes = grind arith

-- The first poll transmits it.
first_turn : Drains 1000 1 demo_link (one_byte_accepted 0) no_lines one_line (Released 0 0)
unfolding log checksum addresses header_front internet_header link_header udp_header datagram unnumbered
first_turn = (
  refl,
  refl,
  record {
    frame = one_frame A;
    choice = record {
      turn = 0;
      within = omega arith;
      is = refl;
      chosen = owes;
      before = grind arith;
      others = λ s other. tt;
    };
    of = grind arith;
    enters = refl;
    stands = refl;
    stays_down = grind arith;
  },
)

-- Nothing was released before.
fresh : (k : ℕ) → k < 1 → IsLater (latest None (stream_at demo_plan k no_lines)) 0
unfolding log
fresh k lt = tt

-- The link owes one frame.
one_owed : owed_at demo_plan one_byte_accepted 0 no_lines ≡ 1
unfolding log checksum addresses header_front internet_header link_header udp_header datagram unnumbered cutting fragments_at
one_owed = refl

pub drains_one : DrainsOne
drains_one = record {
  valid = demo_valid;
  later = fresh;
  gap = grind arith;
  apart = grind arith;
  drained = (
    one_line,
    (one_line, Released 0 0, first_turn, refl),
    grind (arith, only_one, released),
  );
  stand = only_one _ refl;
  owed = only_one _ (omega (arith, one_owed));
  done = only_one _ (only_one _ released);
}

-- a message is left
one_left : (at failures : ℕ) (up : Bool) → IsAllDone demo_plan two_accepted (log (line_of at failures up)) → ⊥
unfolding log checksum addresses header_front internet_header link_header udp_header datagram unnumbered cutting fragments_at
one_left at failures up done = grind arith

-- and its frame is owed
still_owed : (at failures : ℕ) (up : Bool) → owed_at demo_plan two_accepted 0 (line_of at failures up) ≡ 1
unfolding log checksum addresses header_front internet_header link_header udp_header datagram unnumbered cutting fragments_at
still_owed at failures up = refl

enough : (at failures : ℕ) (up : Bool) (moments : List ℕ) → 1 < length moments → AreEnough (line_of at failures up) moments
enough at failures up moments more = only_one _ (omega (arith, still_owed at failures up))

starts : (failures : ℕ) (up : Bool) → StartsAfter (line_of 1000 failures up) 1000
unfolding log checksum addresses header_front internet_header link_header udp_header datagram unnumbered
starts failures up = grind arith

-- two polls at which the link may not release a frame
idle : (first second : ℕ) (lines : Lines) → may_release first demo_link (pace_in demo_link (log lines)) lines ≡ false
    → may_release second demo_link (pace_in demo_link (log lines)) lines ≡ false
    → AreDrained demo_plan two_accepted (first ∷ second ∷ []) lines lines
idle first second lines early still = (
  lines,
  grind arith,
  grind arith,
)

too_soon : LeavesOne one_line (1500 ∷ 1600 ∷ [])
unfolding log checksum addresses header_front internet_header link_header udp_header datagram unnumbered
too_soon = record { drained = idle 1500 1600 one_line refl refl; left = one_left 1000 0 true }

too_early : LeavesOne (one_line_at 5000) two_moments
unfolding log checksum addresses header_front internet_header link_header udp_header datagram unnumbered
too_early = record { drained = idle 1000 2000 (one_line_at 5000) refl refl; left = one_left 5000 0 true }

failed : LeavesOne failed_line (2000 ∷ 3000 ∷ [])
unfolding log checksum addresses header_front internet_header link_header udp_header datagram unnumbered
failed = record { drained = idle 2000 3000 failed_line refl refl; left = one_left 1000 1 false }

not_before : StartsAfter (one_line_at 5000) 0 → ⊥
unfolding log checksum addresses header_front internet_header link_header udp_header datagram unnumbered
not_before starts_after = grind arith

pub needs_its_polls : NeedsItsPolls
needs_its_polls = record {
  none = (
    grind (arith, one_left),
    starts 0 true,
    only_one _ (omega arith),
    tt,
    only_one _ refl,
    grind arith,
  );
  close = (
    too_soon,
    starts 0 true,
    only_one _ (omega arith),
    grind arith,
    only_one _ refl,
    enough 1000 0 true (1500 ∷ 1600 ∷ []) (omega arith),
  );
  short = (
    too_soon,
    starts 0 true,
    grind arith,
    grind arith,
    only_one _ refl,
    enough 1000 0 true (1500 ∷ 1600 ∷ []) (omega arith),
  );
  early = (
    too_early,
    not_before,
    only_one _ (omega arith),
    grind arith,
    only_one _ refl,
    enough 5000 0 true two_moments (omega arith),
  );
  down = (
    failed,
    starts 1 false,
    only_one _ (omega arith),
    grind arith,
    λ up. false≢true (up 0 (omega arith)),
    enough 1000 1 false (2000 ∷ 3000 ∷ []) (omega arith),
  );
}

-- Worked polls of a link of two sub-VLs, with a gap of 1,000 microseconds and polls up to 600 apart.
-- Sub-VL 0 has a message of one fragment.
use Rattle.std.specs.Prelude.{ℕ, ◌≡◌, ◌+◌, ◌*◌, ◌≤◌, true, false, nat_eq, Option, Some, None, List, [], ◌∷◌}
use Rattle.vl_shaper.specs.Pace.{IsBelow, IsLater, users_among}
use Rattle.vl_shaper.specs.WorkedChoices.{first_two}
use Rattle.vl_shaper.specs.declared.shaper.Stamp.{Stamp}
use Rattle.vl_shaper.specs.Polls.{Poll, AreServed, ArePolled, HasAtPolls, latest_poll, released_by, ServeUsers}

-- a poll at which each sub-VL has something
abbrev pub busy_poll : ℕ → Option ℕ → Poll
busy_poll moment chosen = record { at = moment; has = λ sub. true; released = chosen }

-- a poll at which sub-VL 0 alone has something
abbrev pub own_poll : ℕ → Option ℕ → Poll
own_poll moment chosen = record { at = moment; has = λ sub. nat_eq sub 0; released = chosen }

-- a poll at which no sub-VL has something
abbrev pub idle_poll : ℕ → Poll
idle_poll moment = record { at = moment; has = λ sub. false; released = None }

-- sub-VL 0 was served at time 0
abbrev pub served_at_0 : Option Stamp
served_at_0 = Some (record { at = 0; sub = 0 })

-- polls that find the link due at the second, the fourth and the sixth
abbrev pub six_polls : List Poll
six_polls = busy_poll 500 None
    ∷ busy_poll 1100 (Some 1)
    ∷ busy_poll 1700 None
    ∷ busy_poll 2300 (Some 0)
    ∷ busy_poll 2900 None
    ∷ busy_poll 3300 (Some 1)
    ∷ []

-- For a message accepted at 0 the premises hold, and the fragment is released by 3,200.
pub record ServesInTime : Type 0 where
  pub below : IsBelow 2 served_at_0
  pub later : IsLater served_at_0 0
  pub served : AreServed 1000 2 served_at_0 six_polls
  pub polled : ArePolled 600 0 six_polls
  pub had : HasAtPolls 0 1 six_polls
  pub reached : 0 + 2 * 1 * (1000 + 600) ≤ latest_poll 0 six_polls
  pub released : released_by 0 (0 + 2 * 1 * (1000 + 600)) six_polls ≡ 1

-- a poll at which sub-VLs 0 and 1 have something
abbrev pub pair_poll : ℕ → Option ℕ → Poll
pair_poll moment chosen = record { at = moment; has = first_two; released = chosen }

-- six polls of a link of three sub-VLs; the third never has anything
abbrev pub pair_polls : List Poll
pair_polls = pair_poll 500 None
    ∷ pair_poll 1100 (Some 1)
    ∷ pair_poll 1700 None
    ∷ pair_poll 2300 (Some 0)
    ∷ pair_poll 2900 None
    ∷ pair_poll 3300 (Some 1)
    ∷ []

-- The premises hold, and the bound is the same.
pub record ServesUsersInTime : Type 0 where
  pub served : AreServed 1000 3 served_at_0 pair_polls
  pub users : ServeUsers first_two pair_polls
  pub count : users_among 3 first_two ≡ 2
  pub polled : ArePolled 600 0 pair_polls
  pub had : HasAtPolls 0 1 pair_polls
  pub reached : 0 + 2 * 1 * (1000 + 600) ≤ latest_poll 0 pair_polls
  pub released : released_by 0 (0 + 2 * 1 * (1000 + 600)) pair_polls ≡ 1

-- the link has only this message, and was due at all times before it
abbrev pub polls_from_5000 : List Poll
polls_from_5000 = own_poll 5400 (Some 0)
    ∷ idle_poll 6000
    ∷ idle_poll 6600
    ∷ idle_poll 7200
    ∷ idle_poll 7800
    ∷ idle_poll 8400
    ∷ []

-- For a message accepted at 5,000 on a link that is due, since it has released nothing or since
-- sub-VL 0 was served at 0, the premises hold. The fragment is released at the next poll.
pub record ReleasesAtOnce : Type 0 where
  pub below : IsBelow 2 served_at_0
  pub later : IsLater served_at_0 5000
  pub served : AreServed 1000 2 served_at_0 polls_from_5000
  pub served_first : AreServed 1000 2 None polls_from_5000
  pub polled : ArePolled 600 5000 polls_from_5000
  pub had : HasAtPolls 0 1 polls_from_5000
  pub reached : 5000 + 2 * 1 * (1000 + 600) ≤ latest_poll 5000 polls_from_5000
  pub released : released_by 0 (5000 + 2 * 1 * (1000 + 600)) polls_from_5000 ≡ 1
  pub at_once : released_by 0 5400 polls_from_5000 ≡ 1

-- three polls, the third too late
abbrev pub late_polls : List Poll
late_polls = busy_poll 500 None ∷ busy_poll 1100 (Some 1) ∷ busy_poll 3300 (Some 0) ∷ []

-- For a message accepted at 0 all premises but the lateness hold, and the fragment isn't released by 3,200.
pub record PolledTooLate : Type 0 where
  pub below : IsBelow 2 served_at_0
  pub later : IsLater served_at_0 0
  pub served : AreServed 1000 2 served_at_0 late_polls
  pub polled : ArePolled 600 0 late_polls → ⊥
  pub had : HasAtPolls 0 1 late_polls
  pub reached : 0 + 2 * 1 * (1000 + 600) ≤ latest_poll 0 late_polls
  pub released : 1 ≤ released_by 0 (0 + 2 * 1 * (1000 + 600)) late_polls → ⊥

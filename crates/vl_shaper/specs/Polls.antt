-- The wait of a message on its link, by the polls of the link.
use Rattle.std.specs.Prelude.{ℕ, ◌≡◌, ◌+◌, ◌-◌, ◌*◌, ◌<◌, ◌≤◌, Bool, true, false, nat_eq, nat_le, ◌&&◌, cond, count_by, Option, Some, None, List, [], ◌∷◌}
use Rattle.vl_shaper.specs.Pace.{IsChosen, is_due, turn_of, IsBelow, IsLater, users_among}
use Rattle.vl_shaper.specs.declared.shaper.Stamp.{Stamp}

-- a poll of a link: its time, the sub-VLs that have something, and the sub-VL of the released frame, if there is one
pub record Poll : Type 0 where
  pub at : ℕ
  pub has : ℕ → Bool
  pub released : Option ℕ

-- A poll releases no frame if the link isn't due or no sub-VL has something. Otherwise it releases a frame of the first
-- sub-VL that has something, in the order of turns.
abbrev pub IsServed : ℕ → ℕ → Option Stamp → Poll → Option ℕ → Type 0
IsServed gap subs last poll None =
    is_due gap last poll.at ≡ true → (sub : ℕ) → sub < subs → poll.has sub ≡ false
IsServed gap subs last poll (Some chosen) = (is_due gap last poll.at ≡ true)
    × IsChosen subs (turn_of subs last) (record { has = poll.has; sub = chosen })

-- the last release after a poll
abbrev pub last_after : Option Stamp → ℕ → Option ℕ → Option Stamp
last_after last moment None = last
last_after last moment (Some chosen) = Some (record { at = moment; sub = chosen })

-- each poll is served so, after the last release, if there was one
abbrev pub AreServed : ℕ → ℕ → Option Stamp → List Poll → Type 0
AreServed gap subs last [] = Unit {0}
AreServed gap subs last (poll ∷ polls) = IsServed gap subs last poll poll.released
    × AreServed gap subs (last_after last poll.at poll.released) polls

-- each poll follows the previous one, or the acceptance, within the lateness
abbrev pub ArePolled : ℕ → ℕ → List Poll → Type 0
ArePolled late before [] = Unit {0}
ArePolled late before (poll ∷ polls) = (poll.at ≤ before + late) × ArePolled late poll.at polls

-- the time of the last poll, or of the acceptance if there was none
abbrev pub latest_poll : ℕ → List Poll → ℕ
latest_poll before [] = before
latest_poll before (poll ∷ polls) = latest_poll poll.at polls

-- true if the released frame belongs to this sub-VL
abbrev pub is_of : ℕ → Option ℕ → Bool
is_of x None = false
is_of x (Some chosen) = nat_eq chosen x

-- the sub-VL had something at each of these polls until this many of its frames were released
abbrev pub HasAtPolls : ℕ → ℕ → List Poll → Type 0
HasAtPolls x many [] = Unit {0}
HasAtPolls x many (poll ∷ polls) = (1 ≤ many → poll.has x ≡ true)
    × HasAtPolls x (many - cond (is_of x poll.released) 1 0) polls

-- the released frame belongs to a sub-VL that uses the link
abbrev pub IsOfUser : (ℕ → Bool) → Option ℕ → Type 0
IsOfUser uses None = Unit {0}
IsOfUser uses (Some chosen) = uses chosen ≡ true

-- each released frame is
abbrev pub ServeUsers : (ℕ → Bool) → List Poll → Type 0
ServeUsers uses [] = Unit {0}
ServeUsers uses (poll ∷ polls) = IsOfUser uses poll.released × ServeUsers uses polls

-- the number of frames of a sub-VL released by a time
abbrev pub released_by : ℕ → ℕ → List Poll → ℕ
released_by x moment polls =
    count_by (λ (poll : Poll). nat_le poll.at moment && is_of x poll.released) polls

-- A message of `fragments` fragments, after `queued` of its own sub-VL, is accepted on a link that
-- is polled within the lateness from then on. It is wholly released by a time known at acceptance:
-- `queued + fragments` rounds of the sub-VLs that use the link, with a gap and a lateness for each
-- release. The link may be due then or not, and may have released a frame before or not.
abbrev pub PolledInTime : Type 0
PolledInTime = (subs x queued fragments gap late accepted : ℕ) (uses : ℕ → Bool) (last : Option Stamp)
    (polls : List Poll) → x < subs → uses x ≡ true → 1 ≤ gap
    → IsBelow subs last → IsLater last accepted
    → AreServed gap subs last polls → ServeUsers uses polls
    → ArePolled late accepted polls
    → HasAtPolls x (queued + fragments) polls
    → accepted + users_among subs uses * (queued + fragments) * (gap + late) ≤ latest_poll accepted polls
    → queued + fragments
    ≤ released_by x (accepted + users_among subs uses * (queued + fragments) * (gap + late)) polls

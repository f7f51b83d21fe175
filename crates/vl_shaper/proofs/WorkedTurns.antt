-- The worked choices, waits and polls, by computation.
use Rattle.vl_shaper.proofs.Names.{ℕ, ◌≡◌, ◌≢◌, ◌<◌, ◌≤◌, true, arith, refl, Choice, next_turn, IsChosen, lone_choice, ChoosesOneEach, WaitsBehindOne, WaitsForUsers, pair_choice, LeavesOneBehind, nat_eq, turn_of, served_at_0, ServesInTime, ServesUsersInTime, ReleasesAtOnce, PolledTooLate}

-- A sub-VL that has the first turn and has something is chosen.
pub first_chosen : (subs : ℕ) (order : ℕ → ℕ) (c : Choice) → 1 ≤ subs → c.sub ≡ order 0 → c.has c.sub ≡ true
    → IsChosen subs order c
first_chosen subs order c some is had = grind arith

-- The others had nothing, so sub-VL 1 is chosen again.
again : (subs turn : ℕ) → turn < subs → 1 ≡ next_turn subs 1 turn → ((k : ℕ) → k < turn → next_turn subs 1 k ≢ 1)
    → IsChosen subs (next_turn subs 1) lone_choice
again subs turn within is before = grind arith

pub chooses_one_each : ChoosesOneEach
chooses_one_each = grind (arith, first_chosen, again)

pub waits_behind_one : WaitsBehindOne
waits_behind_one = grind (arith, first_chosen, again)

-- The third sub-VL had nothing, so sub-VL 0 is chosen.
third_passed : IsChosen 3 (next_turn 3 1) (pair_choice 0)
third_passed = record { turn = 1; within = omega arith; is = refl; had = refl; before = grind arith }

pub waits_for_users : WaitsForUsers
waits_for_users = search (arith, first_chosen, third_passed)

pub leaves_one_behind : LeavesOneBehind
leaves_one_behind = search (arith, first_chosen)

-- Sub-VL 1 had nothing, so sub-VL 0 is chosen.
second_chosen : IsChosen 2 (turn_of 2 served_at_0) (record { has = λ s. nat_eq s 0; sub = 0 })
second_chosen = grind arith

pub serves_in_time : ServesInTime
serves_in_time = search (arith, first_chosen)

pub serves_users_in_time : ServesUsersInTime
serves_users_in_time = search (arith, first_chosen, third_passed)

pub releases_at_once : ReleasesAtOnce
releases_at_once = search (arith, second_chosen, first_chosen)

pub polled_too_late : PolledTooLate
polled_too_late = search (arith, first_chosen)

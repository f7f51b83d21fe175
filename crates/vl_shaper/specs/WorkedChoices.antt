-- Worked choices among a link's sub-VLs.
use Rattle.std.specs.Prelude.{ℕ, ◌≡◌, ◌+◌, ◌*◌, ◌<◌, ◌≤◌, Bool, true, nat_eq, nat_lt, List, [], ◌∷◌, length}
use Rattle.vl_shaper.specs.Pace.{Choice, AreChosen, IsPassedOver, AreOfUsers, users_among}
use Rattle.vl_shaper.specs.Latency.{turns_of, HasUntil}

-- a choice at which each sub-VL had something
abbrev pub busy_choice : ℕ → Choice
busy_choice chosen = record { has = λ sub. true; sub = chosen }

-- a choice at which sub-VL 1 alone had something
abbrev pub lone_choice : Choice
lone_choice = record { has = λ sub. nat_eq sub 1; sub = 1 }

-- choices after sub-VL 0 was served, on a link of three sub-VLs
abbrev pub both_others : List Choice
both_others = busy_choice 1 ∷ busy_choice 2 ∷ []

-- four choices while sub-VL 0 has nothing
abbrev pub lone_choices : List Choice
lone_choices = lone_choice ∷ lone_choice ∷ lone_choice ∷ lone_choice ∷ []

-- While sub-VL 0 is passed over, sub-VL 1 is chosen once. If sub-VL 0 has nothing, it isn't passed
-- over, and sub-VL 1 is chosen again and again.
pub record ChoosesOneEach : Type 0 where
  pub chosen : AreChosen 3 0 both_others
  pub passed : IsPassedOver 0 both_others
  pub once : turns_of 1 both_others ≡ 1
  pub lone : AreChosen 3 0 lone_choices
  pub idle : IsPassedOver 0 lone_choices → ⊥
  pub often : turns_of 1 lone_choices ≡ 4

-- choices after sub-VL 0 was served, on a link of two sub-VLs
abbrev pub three_choices : List Choice
three_choices = busy_choice 1 ∷ busy_choice 0 ∷ busy_choice 1 ∷ []

-- four choices after sub-VL 0 was served, on a link of two sub-VLs
abbrev pub four_choices : List Choice
four_choices = busy_choice 1 ∷ busy_choice 0 ∷ busy_choice 1 ∷ busy_choice 0 ∷ []

-- A message of one fragment of sub-VL 0, after a queued one, is released with the fourth choice.
-- Three choices are too few, and so are four if the sub-VL had nothing.
pub record WaitsBehindOne : Type 0 where
  pub chosen : AreChosen 2 0 four_choices
  pub had : HasUntil 0 (1 + 1) four_choices
  pub rounds : 2 * (1 + 1) ≤ length four_choices
  pub released : 1 + 1 ≤ turns_of 0 four_choices
  pub short : 2 * (1 + 1) ≤ length three_choices → ⊥
  pub left : 1 + 1 ≤ turns_of 0 three_choices → ⊥
  pub lone : AreChosen 2 0 lone_choices
  pub idle : HasUntil 0 (1 + 1) lone_choices → ⊥
  pub none : 1 + 1 ≤ turns_of 0 lone_choices → ⊥

-- sub-VLs 0 and 1
abbrev pub first_two : ℕ → Bool
first_two sub = nat_lt sub 2

-- a choice at which sub-VLs 0 and 1 had something
abbrev pub pair_choice : ℕ → Choice
pair_choice chosen = record { has = first_two; sub = chosen }

abbrev pub pair_choices : List Choice
pair_choices = pair_choice 1 ∷ pair_choice 0 ∷ pair_choice 1 ∷ pair_choice 0 ∷ []

-- four choices, among which the third sub-VL has something too
abbrev pub third_choices : List Choice
third_choices = busy_choice 1 ∷ busy_choice 2 ∷ busy_choice 0 ∷ busy_choice 1 ∷ []

-- On a link of three sub-VLs, two of them in use, four choices are enough. If the third is chosen too, then four are
-- too few.
pub record WaitsForUsers : Type 0 where
  pub user : first_two 0 ≡ true
  pub chosen : AreChosen 3 0 pair_choices
  pub users : AreOfUsers first_two pair_choices
  pub had : HasUntil 0 (1 + 1) pair_choices
  pub rounds : users_among 3 first_two * (1 + 1) ≡ length pair_choices
  pub released : 1 + 1 ≤ turns_of 0 pair_choices
  pub third : AreChosen 3 0 third_choices
  pub more : AreOfUsers first_two third_choices → ⊥
  pub waited : HasUntil 0 (1 + 1) third_choices
  pub left : 1 + 1 ≤ turns_of 0 third_choices → ⊥

-- Three choices, one fewer than the rounds of two fragments, leave one fragment queued. For no
-- fragment there is no such list.
pub record LeavesOneBehind : Type 0 where
  pub chosen : AreChosen 2 0 three_choices
  pub had : HasUntil 0 2 three_choices
  pub fewer : length three_choices + 1 ≡ 2 * 2
  pub left : turns_of 0 three_choices < 2
  pub none : (choices : List Choice) → length choices + 1 ≡ 2 * 0 → ⊥

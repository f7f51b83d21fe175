-- What ports with periods hand over, the longest busy time of their sub-VL, and the times at which waits are greatest.
use Rattle.plan_analysis.proofs.Names.{ℕ, zero, suc, ◌≡◌, ◌+◌, ◌-◌, ◌*◌, ◌/◌, ◌<◌, ◌≤◌, List, [], ◌∷◌, length, get_or, arith, refl, ap, ◌∙◌, sym, inl, inr, ◌⊎◌, max, below_more, ◌++◌, map, subst, get_or_append_left, get_or_default, get_or_push, All, div_ceil, cases_eq, cases_lt, All-cons, All-head, All-nil, All-tail, sum_by-cons, sum_by-le-sum_by, le-div, mul-le, div-le_self, div-mul-le_self, div-zero, Flow, Plan, IsPlan, IsPort, Sender, Bound, IsFlow, arrived, arrived_before, IsSentIn, IsWithin, IsBusyTime, busy_limit, HasGoodPeriod, AreSendersOf, IsBoundOf, IsSubBound, PortPlan, link_of, sender_at, messages, greatest_message, places_at, later_at, min, ◌^◌, add-mul}
use native.Mathlib.Nat.{mul-suc}

-- the messages of one flow
abbrev pub count : ℕ → Flow → ℕ
count t f = 1 + (t + f.jitter) / f.period

-- and their fragments
abbrev pub term : ℕ → Flow → ℕ
term t f = f.fragments * count t f

div_mono : (s t p : ℕ) → s ≤ t → s / p ≤ t / p
div_mono s t zero le = rw (div-zero s, div-zero t) (omega arith)
div_mono s t (suc p) le = le-div (s / suc p) t (suc p) (omega arith) (let h = div-mul-le_self s (suc p) in omega arith)

pub arrived_mono : (flows : List Flow) (s t : ℕ) → s ≤ t → arrived flows s ≤ arrived flows t
arrived_mono flows s t le = sum_by-le-sum_by (term s) (term t) flows
    (λ f. let more = div_mono (s + f.jitter) (t + f.jitter) f.period (omega arith) in
    mul-le f.fragments (count s f) f.fragments (count t f) (omega arith) (omega arith))

-- the most fragments of a flow in twice the longest busy time that is looked for
pub term_most : (f : Flow) (own : ℕ) → IsFlow f → own ≤ 739246080002 → f.fragments * own ≤ 252822159360684
term_most f own good le = mul-le f.fragments own 342 739246080002 good.most le

-- A sum that is over the greatest number isn't twice the period, nor is that number.
pub saturates : (t j p : ℕ) → t ≤ 739246080000 → j ≤ p → 1 ≤ p → p < 2 ^ 64 → min (t + j) (2 ^ 64 - 1) / p ≡ (t + j) / p
saturates t j p short within step small = elim (cases_lt (t + j) (2 ^ 64)) [
  | inl less ↦ ap (λ (n : ℕ). n / p) (omega arith)
  | inr more ↦ (
      let one = once (min (t + j) (2 ^ 64 - 1)) p step (omega arith) (omega arith) in
      let same = once (t + j) p step (omega arith) (omega arith) in
      omega arith
      )
]
  where
    once : (n p : ℕ) → 1 ≤ p → p ≤ n → n < p + p → n / p ≡ 1
    once n p step least most =
        let some = le-div 1 n p step (omega arith) in
        let part = div-mul-le_self n p in
        elim (cases_lt (n / p) 2) [
          | inl one ↦ omega arith
          | inr more ↦ (let twice = mul-le 2 p (n / p) p (omega arith) (omega arith) in absurd (omega arith))
        ]

pub count_most : (t j p : ℕ) → t ≤ 739246080000 → j ≤ p → 1 ≤ p → (t + j) / p ≤ 739246080001
count_most t j p short within step =
    let one = one_more t j p step within in
    let part = div-le_self t p in
    omega arith
  where
    one_more : (t j p : ℕ) → 1 ≤ p → j ≤ p → (t + j) / p ≤ 1 + t / p
    one_more t j p step within = grind arith

ceil_is : (t p : ℕ) → 1 ≤ t → 1 ≤ p → div_ceil t p ≡ 1 + (t - 1) / p
ceil_is t p some step = grind arith

before_one : (t j p : ℕ) → 1 ≤ t → 1 ≤ p → div_ceil (t + j) p ≡ 1 + (t - 1 + j) / p
before_one t j p some step =
    let same : t + j - 1 ≡ t - 1 + j = omega arith in
    ceil_is (t + j) p (omega arith) step ∙ ap (λ (n : ℕ). 1 + n / p) same

-- what came before a time came by the microsecond before it
pub before_is : (flows : List Flow) (t : ℕ) → All IsFlow flows → 1 ≤ t → arrived_before flows t ≡ arrived flows (t - 1)
before_is [] t good some = refl
before_is (f ∷ flows) t good some =
    let own = All-head IsFlow f flows good in
    let one = ap (λ (n : ℕ). f.fragments * n) (before_one t f.jitter f.period some own.period) in
    let left = sum_by-cons (λ (g : Flow). g.fragments * div_ceil (t + g.jitter) g.period) f flows in
    let right = sum_by-cons (term (t - 1)) f flows in
    let rest = before_is flows t (All-tail IsFlow f flows good) some in
    omega arith

next_div : (t p : ℕ) → 1 ≤ t → 1 ≤ p → t / p ≤ 1 + (t - 1) / p
next_div t p some step = grind arith

twice_term : (t : ℕ) (f : Flow) → 1 ≤ t → 1 ≤ f.period → term t f ≤ 2 * term (t - 1) f
twice_term t f some step =
    let same : t + f.jitter - 1 ≡ t - 1 + f.jitter = omega arith in
    let part = ap (λ (n : ℕ). n / f.period) same in
    let more = next_div (t + f.jitter) f.period (omega arith) step in
    let le = mul-le f.fragments (count t f) f.fragments (2 * count (t - 1) f) (omega arith) (omega arith) in
    grind arith

-- in a microsecond each flow hands over at most one message
pub twice : (flows : List Flow) (t : ℕ) → All IsFlow flows → 1 ≤ t → arrived flows t ≤ 2 * arrived flows (t - 1)
twice [] t good some = omega arith
twice (f ∷ flows) t good some =
    let own = All-head IsFlow f flows good in
    let one = twice_term t f some own.period in
    let left = sum_by-cons (term t) f flows in
    let right = sum_by-cons (term (t - 1)) f flows in
    let rest = twice flows t (All-tail IsFlow f flows good) some in
    omega arith

pub some_arrived : (flows : List Flow) (t : ℕ) → All IsFlow flows → 1 ≤ length flows → 1 ≤ arrived flows t
some_arrived [] t good some = absurd (omega arith)
some_arrived (f ∷ flows) t good some =
    let own = All-head IsFlow f flows good in
    let whole = sum_by-cons (term t) f flows in
    let one = mul-le 1 1 f.fragments (count t f) own.some (omega arith) in
    omega arith

-- Rounds that end no later than any busy time does, at whose end more is handed over or no less.
pub record IsBefore (round : ℕ) (flows : List Flow) (rounds : ℕ) : Type 0 where
  pub some : 1 ≤ rounds
  pub more : rounds ≤ arrived flows (round * rounds - 1)
  pub below : (busy : ℕ) → 1 ≤ busy → busy ≡ round * arrived_before flows busy → round * rounds ≤ busy

module _ (round : ℕ) (flows : List Flow) (turns : 1 ≤ round) (good : All IsFlow flows) where
  pub first_rounds : 1 ≤ length flows → IsBefore round flows 1
  first_rounds some = record {
    some = omega arith;
    more = some_arrived flows (round * 1 - 1) good some;
    below = λ busy one is.
        let before = before_is flows busy good one in
        let least = some_arrived flows (busy - 1) good some in
        let le = mul-le round 1 round (arrived flows (busy - 1)) (omega arith) least in
        let same = ap (λ (n : ℕ). round * n) before in
        omega arith;
  }

  pub next_rounds : (rounds : ℕ) → IsBefore round flows rounds → IsBefore round flows (arrived flows (round * rounds - 1))
  next_rounds rounds b =
      let next : ℕ = arrived flows (round * rounds - 1) in
      let longer = mul-le round rounds round next (omega arith) b.more in
      record {
        some = omega (arith, b.some, b.more);
        more = arrived_mono flows (round * rounds - 1) (round * next - 1) (omega arith);
        below = λ busy one is.
            let before = before_is flows busy good one in
            let far = b.below busy one is in
            let le = arrived_mono flows (round * rounds - 1) (busy - 1) (omega arith) in
            let whole = mul-le round next round (arrived flows (busy - 1)) (omega arith) le in
            let same = ap (λ (n : ℕ). round * n) before in
            omega arith;
      }

  some_rounds : (rounds : ℕ) → 1 ≤ rounds → 1 ≤ round * rounds
  some_rounds rounds some = mul-le 1 1 round rounds turns some

  pub last_rounds : (rounds : ℕ) → IsBefore round flows rounds → arrived flows (round * rounds - 1) ≡ rounds
      → IsBusyTime round flows (round * rounds)
  last_rounds rounds b same = record {
    some = some_rounds rounds b.some;
    is = ap (λ (n : ℕ). round * n) (sym same ∙ sym (before_is flows (round * rounds) good (some_rounds rounds b.some)));
    least = b.below;
  }

  pub few_arrived : (rounds : ℕ) → IsBefore round flows rounds → arrived flows (round * rounds - 1) ≡ rounds → rounds ≤ busy_limit
      → arrived flows (round * rounds) ≤ 2 * busy_limit
  few_arrived rounds b same few = let h = twice flows (round * rounds) good (some_rounds rounds b.some) in omega arith

  pub too_long : (rounds : ℕ) → IsBefore round flows rounds → busy_limit < rounds → (busy : ℕ) → IsBusyTime round flows busy
      → round * busy_limit < busy
  too_long rounds b far busy is =
      let below = b.below busy is.some is.is in
      let le = mul-le round (suc busy_limit) round rounds (omega arith) (omega arith) in
      let one = mul-suc round busy_limit in
      omega arith

-- a flow for the place past the last one
lone : Flow
lone = record { fragments = 1; period = 1; jitter = 0 }

-- the number of the latest message by a time, if there is one
later_is : (t j p : ℕ) → 1 ≤ p → j ≤ p → p ≤ t + j → p - j + ((t + j) / p - 1) * p ≡ (t + j) / p * p - j
later_is t j p step within some =
    let least = le-div 1 (t + j) p step (omega arith) in
    let split = add-mul ((t + j) / p - 1) 1 p in
    let whole = ap (λ (n : ℕ). n * p) (once ((t + j) / p) least) in
    omega arith
  where
    once : (n : ℕ) → 1 ≤ n → n - 1 + 1 ≡ n
    once n least = omega arith

-- A message of some flow comes at a time after another one, or none comes.
at_later : (t : ℕ) (flows : List Flow) (d : Flow) → All IsFlow flows
    → ((i : ℕ) × (i < length flows) × (turn : ℕ) × (later_at (get_or flows i d) turn ≡ suc t)) ⊎ All (λ f. count (suc t) f ≤ count t f) flows
at_later t [] d good = inr (All-nil _)
at_later t (f ∷ flows) d good =
    let own = All-head IsFlow f flows good in
    elim (cases_lt (count t f) (count (suc t) f)) [
      | inl here ↦ (
          let at = comes t f.jitter f.period own.period own.jitter (omega arith) in
          inl (0, omega arith, (suc t + f.jitter) / f.period - 1, at)
          )
      | inr before ↦ elim (at_later t flows d (All-tail IsFlow f flows good)) [
        | inl later ↦ inl (suc later.0, omega (arith, later.1), later.2, later.3)
        | inr none ↦ inr (All-cons (λ g. count (suc t) g ≤ count t g) f flows before none)
      ]
    ]
  where
    comes : (t j p : ℕ) → 1 ≤ p → j ≤ p → (t + j) / p < (suc t + j) / p → p - j + ((suc t + j) / p - 1) * p ≡ suc t
    comes t j p step within more =
        let n : ℕ = (suc t + j) / p in
        let below = div-mul-le_self (suc t + j) p in
        let some : p ≤ suc t + j = (let one = mul-le 1 p n p (omega arith) (omega arith) in omega arith) in
        let is = later_is (suc t) j p step within some in
        elim (cases_lt (t + j) (n * p)) [
          | inl at ↦ omega arith
          | inr early ↦ (let reach = le-div n (t + j) p step early in absurd (omega arith))
        ]

-- nothing comes between two times
same_arrived : (flows : List Flow) (s t : ℕ) → All (λ (f : Flow). count t f ≤ count s f) flows → arrived flows t ≤ arrived flows s
same_arrived [] s t all = omega arith
same_arrived (f ∷ flows) s t all =
    let P : Flow → Type 0 = λ g. count t g ≤ count s g in
    let one = mul-le f.fragments (count t f) f.fragments (count s f) (omega arith) (All-head P f flows all) in
    let left = sum_by-cons (term t) f flows in
    let right = sum_by-cons (term s) f flows in
    let rest = same_arrived flows s t (All-tail P f flows all) in
    omega arith

-- A fact of the later messages of the first `many` flows, up to an end.
abbrev pub AreCovered : (At : ℕ → Type 0) → List Flow → (busy many : ℕ) → Type 0
AreCovered At flows busy many = (i : ℕ) (d : Flow) → i < many → (turn : ℕ)
    → later_at (get_or flows i d) turn ≤ busy → At (later_at (get_or flows i d) turn)

-- a fact that only a message can end
abbrev pub Lasts : List Flow → (At : ℕ → Type 0) → Type 0
Lasts flows At = (t : ℕ) → All (λ (f : Flow). count (suc t) f ≤ count t f) flows → At t → At (suc t)

-- So it is one of all times, if it is one of the start and of the later messages.
pub by_messages : (flows : List Flow) (At : ℕ → Type 0) (busy : ℕ) → All IsFlow flows → Lasts flows At
    → At 0 → AreCovered At flows busy (length flows) → (t : ℕ) → t ≤ busy → At t
by_messages flows At busy good lasts start covered zero le = start
by_messages flows At busy good lasts start covered (suc t) le = elim (at_later t flows lone good) [
  | inl here ↦ (
      let P : ℕ → Type 0 = λ n. n ≤ busy → At n in
      subst P here.3 (covered here.0 lone here.1 here.2) le
      )
  | inr none ↦ lasts t none (by_messages flows At busy good lasts start covered t (omega arith))
]

same_messages : (flows : List Flow) (s t : ℕ) → All (λ (f : Flow). count t f ≤ count s f) flows → messages flows t ≤ messages flows s
same_messages [] s t all = omega arith
same_messages (f ∷ flows) s t all =
    let P : Flow → Type 0 = λ g. count t g ≤ count s g in
    let one = All-head P f flows all in
    let left = sum_by-cons (count t) f flows in
    let right = sum_by-cons (count s) f flows in
    let rest = same_messages flows s t (All-tail P f flows all) in
    omega arith

ceil_mono : (a b p : ℕ) → 1 ≤ p → a ≤ b → div_ceil a p ≤ div_ceil b p
ceil_mono a b p step le =
    let more = div_mono (a - 1) (b - 1) p (omega arith) in
    elim (cases_lt 0 a) [
      | inl some ↦ (let one = ceil_is a p some step in let two = ceil_is b p (omega arith) step in omega arith)
      | inr none ↦ (let zero_is : a ≡ 0 = omega arith in rw zero_is (omega arith))
    ]

some_greatest : (flows : List Flow) → All IsFlow flows → 1 ≤ length flows → 1 ≤ greatest_message flows
some_greatest [] good some = absurd (omega arith)
some_greatest (f ∷ flows) good some = let own = All-head IsFlow f flows good in omega arith

places_fall : (round : ℕ) (flows : List Flow) (t : ℕ) → All IsFlow flows → 1 ≤ length flows
    → All (λ (f : Flow). count (suc t) f ≤ count t f) flows → places_at round flows (suc t) ≤ places_at round flows t
places_fall round flows t good some none =
    let same = same_messages flows t (suc t) none in
    let more = ceil_mono ((t - 1) / round) ((suc t - 1) / round) (greatest_message flows) (some_greatest flows good some) (div_mono (t - 1) (suc t - 1) round (omega arith)) in
    omega arith

-- the places that are taken are no more than at the start or at some later message
pub places_by_messages : (round : ℕ) (flows : List Flow) (busy most : ℕ) → All IsFlow flows → 1 ≤ length flows → places_at round flows 0 ≤ most
    → AreCovered (λ t. places_at round flows t ≤ most) flows busy (length flows) → (t : ℕ) → t ≤ busy → places_at round flows t ≤ most
places_by_messages round flows busy most good some start covered =
    by_messages flows (λ t. places_at round flows t ≤ most) busy good
    (λ t none le. let less = places_fall round flows t good some none in omega arith) start covered

-- a message is sent in a wait if each one at the start and each later one is
pub sent_by_messages : (round : ℕ) (own rest : List Flow) (busy wait : ℕ) → All IsFlow own
    → IsSentIn round (arrived own 0) rest 0 wait
    → AreCovered (λ t. IsSentIn round (arrived own t) rest t wait) own busy (length own)
    → (t : ℕ) → t ≤ busy → IsSentIn round (arrived own t) rest t wait
sent_by_messages round own rest busy wait good start covered =
    by_messages own (λ t. IsSentIn round (arrived own t) rest t wait) busy good
    (λ t none sent.
    let less = same_arrived own t (suc t) none in
    let whole = mul-le round (arrived own (suc t) + arrived rest sent.0) round (arrived own t + arrived rest sent.0) (omega arith) (omega arith) in
    (sent.0, omega (arith, sent.1), omega (arith, sent.2)))
    start covered

-- the greater of two values at times
pub max_within : (value_at : ℕ → ℕ) (end a b c : ℕ) → c ≡ max a b → IsWithin value_at end a → IsWithin value_at end b
    → IsWithin value_at end c
max_within value_at end a b c is own other = elim (cases_lt a b) [
  | inl less ↦ (other.0, other.1, grind (arith, other.2))
  | inr more ↦ (own.0, own.1, grind (arith, own.2))
]

pub turn_within : (turn first busy p : ℕ) → first ≤ busy → turn < (busy - first) / p + 1 → first + turn * p ≤ busy
turn_within turn first busy p early lt =
    let part = div-mul-le_self (busy - first) p in
    let le = mul-le turn p ((busy - first) / p) p (omega arith) (omega arith) in
    omega arith

pub turn_below : (turn first busy p : ℕ) → 1 ≤ p → first + turn * p ≤ busy → turn < (busy - first) / p + 1
turn_below turn first busy p step le = let h = le-div turn (busy - first) p step (omega arith) in omega arith

pub each_push : {X : Type 0} (P : ℕ → X → Type 0) (xs : List X) (x d : X) (n : ℕ) → length xs ≡ n
    → ((i : ℕ) → i < n → P i (get_or xs i d)) → P n x → (i : ℕ) → i < n + 1 → P i (get_or (xs ++ x ∷ []) i d)
each_push P xs x d n count each last = grind (arith, below_more, get_or, get_or_append_left, get_or_push)

pub all_of_map : {X Y : Type 0} (P : Y → Type 0) (f : X → Y) (xs : List X) → All P (map f xs) → All (λ x. P (f x)) xs
all_of_map P f [] all = All-nil _
all_of_map P f (x ∷ xs) all =
    All-cons (λ x. P (f x)) x xs (All-head P (f x) (map f xs) all) (all_of_map P f xs (All-tail P (f x) (map f xs) all))

-- the senders of a valid plan are valid
pub good_senders : (plan : Plan) (senders : List Sender) → IsPlan plan → AreSendersOf plan senders → All HasGoodPeriod senders
good_senders plan senders valid of k d lt =
    let ports : All IsPort (map (λ (s : Sender). s.port) senders) = subst (All IsPort) (sym of.ports) valid.each_port in
    record {
      port = all_of_map IsPort (λ (s : Sender). s.port) senders ports k d lt;
      period = of.periods k d lt;
    }

-- one flow more is covered
pub cover_more : (Old At : ℕ → Type 0) (flows : List Flow) (busy many : ℕ) (e : Flow) → many < length flows
    → ((t : ℕ) → Old t → At t) → AreCovered Old flows busy many
    → ((turn : ℕ) → later_at (get_or flows many e) turn ≤ busy → At (later_at (get_or flows many e) turn))
    → AreCovered At flows busy (many + 1)
cover_more Old At flows busy many e within more covered each = λ i d lt turn le. elim (cases_eq i many) [
  | inl last ↦
      let P : Flow → Type 0 = λ f. later_at f turn ≤ busy → At (later_at f turn) in
      let at : get_or flows many e ≡ get_or flows i d =
      get_or_default flows many e d within ∙ ap (λ (k : ℕ). get_or flows k d) (sym last) in
      subst P at (each turn) le
  | inr before ↦ more _ (covered i d (omega arith) turn le)
]

-- what is known of a sender, at any default of its place
pub bound_here : (late : ℕ) (plan : Plan) (senders : List Sender) (i : ℕ) (d : Sender) (bound : Bound) → i < length senders
    → IsBoundOf late plan senders (get_or senders i d) bound → IsBoundOf late plan senders (sender_at senders i) bound
bound_here late plan senders i d bound lt own = subst (λ (s : Sender). IsBoundOf late plan senders s bound) (get_or_default senders i d _ lt) own

-- what is known of a sender is known of each other one on its sub-VL
pub same_sub : (late : ℕ) (plan : Plan) (senders : List Sender) (s r : Sender) (bound known : Bound) → s.port.vl.0 ≡ r.port.vl.0
    → s.port.sub ≡ r.port.sub → bound ≡ known → IsBoundOf late plan senders s known → IsBoundOf late plan senders r bound
same_sub late plan senders s r bound known vl sub is own =
    let port : ℕ → PortPlan = λ v. record s.port { vl = record { 0 = v } } in
    let By : ℕ → ℕ → Bound → Type 0 = λ v n b. IsSubBound late plan (link_of plan (port v)) n senders b in
    subst (λ (v : ℕ). By v r.port.sub bound) vl (subst (λ (n : ℕ). By s.port.vl.0 n bound) sub
    (subst (λ (b : Bound). By s.port.vl.0 s.port.sub b) (sym is) own))

-- nothing more is handed over by an earlier time of a busy time
pub arrived_within : (flows : List Flow) (s t most : ℕ) → s ≤ t → arrived flows t ≤ most → arrived flows s ≤ most
arrived_within flows s t most le few = let mono = arrived_mono flows s t le in omega arith

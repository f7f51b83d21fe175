-- How many messages a queue holds, if the ports of its sub-VL keep periods and it releases a fragment each round.
use Rattle.afdx_laws.proofs.RunNames.{ℕ, suc, zero, ◌≡◌, ◌+◌, ◌-◌, ◌*◌, ◌/◌, ◌≤◌, List, [], ◌∷◌, ◌++◌, Bool, true, false, cond, nat_eq, nat_le, nat_tests, length, map, arith, refl, ap, sym, subst, ◌∙◌, inl, inr, cases_lt, map-append, length-map, filter, filter-append, All, All-cons, All-head, All-nil, All-tail, All-weaker, All-filter, all_back, all_front, all_of_map, filter_passes, sum_by, sum_by-append, sum_by-cons, sum_by-filter_both, not, mul-le, le-div, div-zero, div-mul-le_self, unwrap_or, div_ceil, Plan, IsPlan, link_plan_at, room_of, LinkPlan, PortPlan, A, Sent, IsAllowed, fragments_of, pieces_of, port_pieces, is_on, Sender, have_periods, senders_on, flows_of, flow_of, messages, greatest_message, Arrival, AreApart, KeepPeriods, get_or, is_before, messages_in, times_in, queued_of}
use Rattle.afdx_laws.proofs.PiecesInRun.{fragments_count}
use Rattle.afdx_laws.proofs.KeptPeriods.{AreSized, IsAmong, IsKept, IsTimed, by_senders, filter_all, front_kept, is_within, most_is, most_of, of_sender, still_kept, weight_of}

-- The queue.

ceil_step : (g p most : ℕ) → 1 ≤ most → p ≤ most → div_ceil g most ≤ 1 + div_ceil (g - p) most
ceil_step g p most some le = grind arith

module _ (plan : Plan) (k : ℕ) (wide : 8 ≤ room_of (link_plan_at plan.links k).lmax) where
  abbrev pub piece : Sent → ℕ
  piece m = pieces_of (room_of (link_plan_at plan.links k).lmax) (length m.bytes)

  piece_is : (m : Sent) → length (fragments_of plan k (m ∷ [])) ≡ piece m
  piece_is m =
      let whole = fragments_count plan.end_system (room_of (link_plan_at plan.links k).lmax) A 0 (m ∷ []) wide in
      let one = sum_by-cons piece m [] in
      omega arith

  some_piece : (m : Sent) → 1 ≤ piece m
  some_piece m = omega arith

  queued_some : (m : Sent) (more : List Sent) (gone : ℕ) → 1 ≤ gone
      → queued_of plan k (m ∷ more) gone ≡ queued_of plan k more (gone - piece m)
  queued_some m more gone some =
      let test : nat_eq gone 0 ≡ false = grind (arith, nat_tests) in
      rw test (ap (λ (n : ℕ). queued_of plan k more (gone - n)) (piece_is m))

  -- what was sent before
  pub queued_after : (xs ys : List Sent) (gone : ℕ) → sum_by piece xs ≤ gone
      → queued_of plan k (xs ++ ys) gone ≡ queued_of plan k ys (gone - sum_by piece xs)
  queued_after [] ys gone le = let same : gone ≡ gone - sum_by piece [] = omega arith in ap (λ (n : ℕ). queued_of plan k ys n) same
  queued_after (x ∷ xs) ys gone le =
      let first = sum_by-cons piece x xs in
      let own = some_piece x in
      let here = queued_some x (xs ++ ys) gone (omega arith) in
      let rest = queued_after xs ys (gone - piece x) (omega arith) in
      let same : gone - piece x - sum_by piece xs ≡ gone - sum_by piece (x ∷ xs) = omega arith in
      here ∙ (rest ∙ ap (λ (n : ℕ). queued_of plan k ys n) same)

  -- a message is begun for each `most` fragments
  pub queued_most : (ys : List Sent) (gone g most : ℕ) → 1 ≤ most → All (λ (m : Sent). piece m ≤ most) ys → g ≤ gone → g ≤ sum_by piece ys
      → queued_of plan k ys gone + div_ceil g most ≤ length ys
  queued_most [] gone g most some few le all = let none : g ≡ 0 = omega arith in rw none (omega arith)
  queued_most (m ∷ ys) zero g most some few le all = let none : g ≡ 0 = omega arith in rw none (omega arith)
  queued_most (m ∷ ys) (suc gone) g most some few le all =
      let first = sum_by-cons piece m ys in
      let here = queued_some m ys (suc gone) (omega arith) in
      let step = ceil_step g (piece m) most some (All-head (λ (n : Sent). piece n ≤ most) m ys few) in
      let rest = queued_most ys (suc gone - piece m) (g - piece m) most some (All-tail (λ (n : Sent). piece n ≤ most) m ys few) (omega arith) (omega arith) in
      omega arith

  -- The oldest message of a queue: no fragment of it was sent, so no more than those before it.
  pub record HasOldest (arrivals : List Arrival) (gone : ℕ) : Type 0 where
    pub front : List Arrival
    pub oldest : Arrival
    pub back : List Arrival
    pub is : arrivals ≡ front ++ oldest ∷ back
    pub count : queued_of plan k (messages_in arrivals) gone ≡ 1 + length back
    pub sent : gone ≤ sum_by (weight_of (room_of (link_plan_at plan.links k).lmax)) front

  pub has_oldest : (arrivals : List Arrival) (gone : ℕ) → 1 ≤ queued_of plan k (messages_in arrivals) gone → HasOldest arrivals gone
  has_oldest [] gone some = absurd (omega arith)
  has_oldest (a ∷ arrivals) zero some = record {
    front = [];
    oldest = a;
    back = arrivals;
    is = refl;
    count = ap (λ (n : ℕ). 1 + n) (length-map arrivals (λ (b : Arrival). b.sent));
    sent = omega arith;
  }
  has_oldest (a ∷ arrivals) (suc gone) some =
      let here = queued_some a.sent (messages_in arrivals) (suc gone) (omega arith) in
      let rest = has_oldest arrivals (suc gone - piece a.sent) (omega arith) in
      let first = sum_by-cons (weight_of (room_of (link_plan_at plan.links k).lmax)) a rest.front in
      let sent = rest.sent in
      record {
        front = a ∷ rest.front;
        oldest = rest.oldest;
        back = rest.back;
        is = ap (λ (all : List Arrival). a ∷ all) rest.is;
        count = here ∙ rest.count;
        sent = omega arith;
      }

-- Times.

abbrev pub is_later : ℕ → Arrival → Bool
is_later q a = nat_le q a.at

pub filter_none : {X : Type 0} (p : X → Bool) (xs : List X) → All (λ (x : X). p x ≡ false) xs → filter p xs ≡ []
filter_none p [] none = refl
filter_none {X = X} p (x ∷ xs) none =
    grind (arith, none 0 x (omega arith), filter_none p xs (All-tail (λ (y : X). p y ≡ false) x xs none))

-- a test that another one implies
filter_both : (p r : Arrival → Bool) → ((a : Arrival) → p a ≡ true → r a ≡ true) → (xs : List Arrival) → filter p (filter r xs) ≡ filter p xs
filter_both p r more [] = refl
filter_both p r more (a ∷ xs) = by_tests (p a) (r a) refl refl (filter_both p r more xs)
  where
    by_tests : (b c : Bool) → p a ≡ b → r a ≡ c → filter p (filter r xs) ≡ filter p xs
        → filter p (cond c (a ∷ filter r xs) (filter r xs)) ≡ cond b (a ∷ filter p xs) (filter p xs)
    by_tests true true is own rest = grind arith
    by_tests true false is own rest = absurd (let yes = more a is in cc)
    by_tests false true is own rest = grind arith
    by_tests false false is own rest = rest

pub sum_filter : (f : Arrival → ℕ) (p : Arrival → Bool) (xs : List Arrival) → sum_by f (filter p xs) ≤ sum_by f xs
sum_filter f p xs = let parts = sum_by-filter_both p (λ (a : Arrival). not (p a)) (λ a. refl) f xs in omega arith

pub before_both : (q t : ℕ) → q ≤ t → (arrivals : List Arrival) → filter (is_before q) (filter (is_before t) arrivals) ≡ filter (is_before q) arrivals
before_both q t le arrivals = filter_both (is_before q) (is_before t) (λ a is. grind (arith, nat_tests)) arrivals

-- in order of time those before a time come first
pub split_at : (q : ℕ) (arrivals : List Arrival) → AreApart 0 (times_in arrivals) → arrivals ≡ filter (is_before q) arrivals ++ filter (is_later q) arrivals
split_at q [] apart = refl
split_at q (a ∷ arrivals) apart = elim (cases_lt a.at q) [
  | inl soon ↦
      let rest = split_at q arrivals apart.1 in
      let yes : is_before q a ≡ true = grind (arith, nat_tests) in
      let no : is_later q a ≡ false = grind (arith, nat_tests) in
      grind arith
  | inr late ↦
      let all : All (λ (b : Arrival). a.at + 0 ≤ b.at) arrivals = all_of_map (λ (n : ℕ). a.at + 0 ≤ n) (λ (b : Arrival). b.at) arrivals apart.0 in
      let none = filter_none (is_before q) (a ∷ arrivals) (All-cons (λ (b : Arrival). is_before q b ≡ false) a arrivals (grind (arith, nat_tests))
      (All-weaker (λ (b : Arrival). a.at + 0 ≤ b.at) (λ (b : Arrival). is_before q b ≡ false) (λ b le. grind (arith, nat_tests)) arrivals all)) in
      let whole = filter_all (is_later q) (a ∷ arrivals) (All-cons (λ (b : Arrival). is_later q b ≡ true) a arrivals (grind (arith, nat_tests))
      (All-weaker (λ (b : Arrival). a.at + 0 ≤ b.at) (λ (b : Arrival). is_later q b ≡ true) (λ b le. grind (arith, nat_tests)) arrivals all)) in
      rw (none, whole) refl
]

-- the first of some times
pub front_apart : (p : ℕ) (xs ys : List Arrival) → AreApart p (times_in (xs ++ ys)) → AreApart p (times_in xs)
front_apart p [] ys apart = tt
front_apart p (x ∷ xs) ys apart =
    let Far : ℕ → Type 0 = λ n. x.at + p ≤ n in
    (subst (All Far) refl (all_front Far (times_in xs) (times_in ys) (times_in (xs ++ ys)) (sym (map-append (λ (a : Arrival). a.at) xs ys)) apart.0), front_apart p xs ys apart.1)

-- the last of them
pub back_apart : (p : ℕ) (xs ys : List Arrival) → AreApart p (times_in (xs ++ ys)) → AreApart p (times_in ys)
back_apart p [] ys apart = apart
back_apart p (x ∷ xs) ys apart = back_apart p xs ys apart.1

-- the first messages of a run keep the periods too
pub front_keeps : (senders : List Sender) (start : ℕ) (xs ys : List Arrival) → KeepPeriods senders start (xs ++ ys) → KeepPeriods senders start xs
front_keeps senders start xs ys keeps = record {
  ordered = (
    all_front (λ (n : ℕ). start + 0 ≤ n) (times_in xs) (times_in ys) (times_in (xs ++ ys)) (sym (map-append (λ (a : Arrival). a.at) xs ys)) keeps.ordered.0,
    front_apart 0 xs ys keeps.ordered.1,
  );
  periods = λ i d lt. front_kept (get_or senders i d) xs ys (get_or senders i d).period (keeps.periods i d lt);
}

-- one of the times, those before and those after it
pub record AreRound (xs : List Arrival) (a : Arrival) (ys : List Arrival) : Type 0 where
  pub before : All (λ (b : Arrival). b.at ≤ a.at) xs
  pub after : All (λ (b : Arrival). a.at ≤ b.at) ys

pub are_round : (xs : List Arrival) (a : Arrival) (ys : List Arrival) → AreApart 0 (times_in (xs ++ a ∷ ys)) → AreRound xs a ys
are_round [] a ys apart = record {
  before = All-nil _;
  after = All-weaker (λ (b : Arrival). a.at + 0 ≤ b.at) (λ (b : Arrival). a.at ≤ b.at) (λ b le. omega arith) ys
      (all_of_map (λ (n : ℕ). a.at + 0 ≤ n) (λ (b : Arrival). b.at) ys apart.0);
}
are_round (x ∷ xs) a ys apart =
    let rest = are_round xs a ys apart.1 in
    let all : All (λ (b : Arrival). x.at + 0 ≤ b.at) (xs ++ a ∷ ys) = all_of_map (λ (n : ℕ). x.at + 0 ≤ n) (λ (b : Arrival). b.at) (xs ++ a ∷ ys) apart.0 in
    let own = All-head (λ (b : Arrival). x.at + 0 ≤ b.at) a ys (all_back (λ (b : Arrival). x.at + 0 ≤ b.at) xs (a ∷ ys) all) in
    record { before = All-cons (λ (b : Arrival). b.at ≤ a.at) x xs (omega arith) rest.before; after = rest.after }

-- What comes between two times.

-- accepted from a time on and by another
pub record IsBetween (q u : ℕ) (a : Arrival) : Type 0 where
  pub from : q ≤ a.at
  pub by : a.at ≤ q + u

sum_within : (f : Arrival → ℕ) (q u : ℕ) (xs ys zs : List Arrival) → All (IsBetween q u) ys
    → sum_by f ys ≤ sum_by f (filter (is_within q (suc u)) (xs ++ (ys ++ zs)))
sum_within f q u xs ys zs all =
    let p : Arrival → Bool = is_within q (suc u) in
    let own = filter_all p ys (All-weaker (IsBetween q u) (λ (a : Arrival). p a ≡ true) (λ a b. (let from = b.from in let by = b.by in grind (arith, nat_tests))) ys all) in
    let inner = filter-append p ys zs in
    let outer = filter-append p xs (ys ++ zs) in
    let one = sum_by-append f (filter p xs) (filter p (ys ++ zs)) in
    let two = sum_by-append f (filter p ys) (filter p zs) in
    let first = ap (sum_by f) outer in
    let second = ap (sum_by f) inner in
    let third = ap (sum_by f) own in
    omega arith

module _ (plan : Plan) (k s : ℕ) (valid : IsPlan plan) (senders : List Sender) (came : List Arrival)
    (periods : have_periods (link_plan_at plan.links k) s senders ≡ true) (kept : All (IsKept plan.ports came) senders)
    (allowed : All (λ (a : Arrival). IsAllowed plan k s a.sent) came) (among : All (λ (a : Arrival). IsAmong a.sent.port senders) came) where
  abbrev link : LinkPlan
  link = link_plan_at plan.links k

  window : (size : PortPlan → ℕ) (weight : Arrival → ℕ) → AreSized plan k s size weight → (q u : ℕ)
      → sum_by weight (filter (is_within q (suc u)) came) ≤ most_of size link s (λ p j. 1 + (u + j) / p) senders
  window size weight sized q u =
      let within : Arrival → Bool = is_within q (suc u) in
      let bound : (period jitter : ℕ) → ℕ = λ p j. 1 + (u + j) / p in
      let timed : All (IsTimed plan k s valid size weight sized q u bound (λ p j step. omega arith)) (filter within came) = λ i a lt.
      let test = filter_passes within came i a lt in
      record {
        allowed = All-filter within (λ (d : Arrival). IsAllowed plan k s d.sent) came allowed i a lt;
        from = grind (arith, nat_tests);
        by = grind (arith, nat_tests);
      } in
      by_senders plan k s valid size weight sized q u bound (λ p j step. omega arith) senders (filter within came)
      (All-weaker (IsKept plan.ports came) (IsKept plan.ports (filter within came)) (still_kept plan.ports within came) senders kept)
      periods timed (All-filter within (λ (a : Arrival). IsAmong a.sent.port senders) came among)

  -- the messages between two times
  pub few_messages : (q u : ℕ) (xs ys zs : List Arrival) → came ≡ xs ++ (ys ++ zs) → All (IsBetween q u) ys
      → length ys ≤ messages (flows_of link s senders) u
  few_messages q u xs ys zs is all =
      let one : Arrival → ℕ = λ a. 1 in
      let part = sum_within one q u xs ys zs all in
      let same = ap (λ (list : List Arrival). sum_by one (filter (is_within q (suc u)) list)) is in
      let most = window (λ p. 1) one (λ a of. omega arith) q u in
      let whole : messages (flows_of link s senders) u ≡ most_of (λ p. 1) link s (λ p j. 1 + (u + j) / p) senders =
      most_is (λ p. 1) link s (λ p j. 1 + (u + j) / p) (flow_of link) _ (λ d. omega arith) senders in
      let count = length_is ys in
      omega arith
    where
      length_is : (list : List Arrival) → sum_by (λ (a : Arrival). 1) list ≡ length list
      length_is [] = refl
      length_is (a ∷ list) =
          let first = sum_by-cons (λ (b : Arrival). 1) a list in
          let rest = length_is list in
          omega arith

-- a message is no greater than the greatest
pub greatest_most : (link : LinkPlan) (s : ℕ) (port : PortPlan) (senders : List Sender) → IsAmong port senders → is_on link s port ≡ true
    → port_pieces link port ≤ greatest_message (flows_of link s senders)
greatest_most link s port [] among on = absurd among
greatest_most link s port (sender ∷ senders) (inl same) on =
    let here : is_on link s sender.port ≡ true = subst (λ (p : PortPlan). is_on link s p ≡ true) same on in
    subst (λ (p : PortPlan). port_pieces link p ≤ greatest_message (flows_of link s (sender ∷ senders))) (sym same) (grind arith)
greatest_most link s port (sender ∷ senders) (inr later) on = by_place (is_on link s sender.port) (greatest_most link s port senders later on)
  where
    by_place : (b : Bool) → port_pieces link port ≤ greatest_message (map (flow_of link) (senders_on link s senders))
        → port_pieces link port ≤ greatest_message (map (flow_of link) (cond b (sender ∷ senders_on link s senders) (senders_on link s senders)))
    by_place true rest = omega arith
    by_place false rest = rest

div_mono : (a b p : ℕ) → a ≤ b → a / p ≤ b / p
div_mono a b zero le = rw (div-zero a, div-zero b) (omega arith)
div_mono a b (suc p) le = le-div (a / suc p) b (suc p) (omega arith) (let h = div-mul-le_self a (suc p) in omega arith)

most_more : (size : PortPlan → ℕ) (link : LinkPlan) (s : ℕ) (b c : (period jitter : ℕ) → ℕ) → ((p j : ℕ) → b p j ≤ c p j) → (senders : List Sender)
    → most_of size link s b senders ≤ most_of size link s c senders
most_more size link s b c more [] = omega arith
most_more size link s b c more (sender ∷ senders) = by_place (is_on link s sender.port) (most_more size link s b c more senders)
  where
    by_place : (on : Bool) → most_of size link s b senders ≤ most_of size link s c senders
        → cond on (size sender.port * of_sender b sender) 0 + most_of size link s b senders
        ≤ cond on (size sender.port * of_sender c sender) 0 + most_of size link s c senders
    by_place true rest =
        let own = mul-le (size sender.port) (of_sender b sender) (size sender.port) (of_sender c sender) (omega arith) (more (unwrap_or sender.period 1) sender.jitter) in
        omega arith
    by_place false rest = omega arith

-- in a longer time no fewer messages come
pub messages_mono : (link : LinkPlan) (s : ℕ) (senders : List Sender) (u v : ℕ) → u ≤ v
    → messages (flows_of link s senders) u ≤ messages (flows_of link s senders) v
messages_mono link s senders u v le =
    let left : messages (flows_of link s senders) u ≡ most_of (λ p. 1) link s (λ p j. 1 + (u + j) / p) senders =
    most_is (λ p. 1) link s (λ p j. 1 + (u + j) / p) (flow_of link) _ (λ d. omega arith) senders in
    let right : messages (flows_of link s senders) v ≡ most_of (λ p. 1) link s (λ p j. 1 + (v + j) / p) senders =
    most_is (λ p. 1) link s (λ p j. 1 + (v + j) / p) (flow_of link) _ (λ d. omega arith) senders in
    let more = most_more (λ p. 1) link s (λ p j. 1 + (u + j) / p) (λ p j. 1 + (v + j) / p) (λ p j. (let h = div_mono (u + j) (v + j) p (omega arith) in omega arith)) senders in
    omega arith

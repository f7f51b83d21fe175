-- What is kept while flows take turns.
use Rattle.std.proofs.Common.{arith, ℕ, ◌≡◌, ◌≢◌, ◌+◌, ◌-◌, ◌*◌, ◌<◌, ◌≤◌, ◌^◌, List, [], ◌∷◌, ◌++◌, length, get_or, slice_index, min, refl, sym, subst, inl, inr, ◌⊎◌}
use Rattle.std.specs.Prelude.{All, AllPairs}
use Rattle.std.proofs.lemmas.List.Elements.{All-push, All-weaker}
use Rattle.std.proofs.lemmas.List.Quantifiers.{all_pairs_push}
use Rattle.std.proofs.lemmas.List.Sums.{sum_by-append, sum_by-cons}
use Rattle.std.proofs.lemmas.List.{get_or-set_same, get_or-set_other, length-set}
use Rattle.std.proofs.lemmas.Bool.{cases_eq}
use Rattle.std.proofs.Math.ListN.{set}
use Rattle.interface_file.specs.declared.schedule.Sending.{Sending}
use Rattle.interface_file.specs.Schedule.{AreApart, AreInOrder, AreWhole, IsWithin, count_of}

-- a message that is sent: no flow sends before it any more, and its own flow not within a period of it
pub record IsSent (periods next : List ℕ) (end : ℕ) (s : Sending) : Type 0 where
  pub flow : s.flow < length periods
  pub at : s.at ≤ end
  pub before : (k : ℕ) → k < length next → s.at ≤ slice_index next k
  pub after : (s.at + slice_index periods s.flow ≤ slice_index next s.flow) ⊎ (end < slice_index next s.flow)

-- the next time of a flow is told by how many messages it has sent, or both are after the end
abbrev pub IsCounted : List ℕ → List ℕ → List ℕ → ℕ → List Sending → ℕ → Type 0
IsCounted firsts periods next end sent k =
    (slice_index next k ≡ slice_index firsts k + count_of k sent * slice_index periods k)
    ⊎ ((end < slice_index next k) × (end < slice_index firsts k + count_of k sent * slice_index periods k))

-- what holds before each turn
pub record IsTurn (firsts periods next : List ℕ) (end : ℕ) (sent : List Sending) : Type 0 where
  pub same : length next ≡ length periods
  pub firsts_same : length firsts ≡ length periods
  pub ordered : AllPairs AreInOrder sent
  pub spaced : AllPairs (AreApart periods) sent
  pub each : All (IsSent periods next end) sent
  pub counted : (k : ℕ) → k < length next → IsCounted firsts periods next end sent k

pub within : (firsts periods next : List ℕ) (end : ℕ) (sent : List Sending) → IsTurn firsts periods next end sent →
    All (IsWithin (length periods) end) sent
within firsts periods next end sent turn =
    All-weaker (IsSent periods next end) (IsWithin (length periods) end) (λ s is. (is.flow, is.at)) sent turn.each

next_same : (next : List ℕ) (flow later : ℕ) → flow < length next → slice_index (set next flow later) flow ≡ later
next_same next flow later inside = get_or-set_same next flow later 0 inside

next_other : (next : List ℕ) (flow k later : ℕ) → k ≢ flow → slice_index (set next flow later) k ≡ slice_index next k
next_other next flow k later other = get_or-set_other next flow k later 0 other

-- no next time is earlier than before
grown : (next : List ℕ) (flow later k : ℕ) → flow < length next → slice_index next flow ≤ later →
    slice_index next k ≤ slice_index (set next flow later) k
grown next flow later k inside more = grind (arith, cases_eq k flow, next_same, next_other)

count_more : (k flow at : ℕ) (sent : List Sending) → k ≡ flow →
    count_of k (sent ++ record { flow = flow; at = at } ∷ []) ≡ count_of k sent + 1
count_more k flow at sent is = grind (arith, sum_by-append, sum_by-cons)

count_same : (k flow at : ℕ) (sent : List Sending) → k ≢ flow →
    count_of k (sent ++ record { flow = flow; at = at } ∷ []) ≡ count_of k sent
count_same k flow at sent other = grind (arith, sum_by-append, sum_by-cons)

-- a message of a flow whose next time has come is sent a period before that time
apart : (periods next : List ℕ) (end flow : ℕ) (s : Sending) → IsSent periods next end s →
    slice_index next flow ≤ end → s.flow ≡ flow → s.at + slice_index periods s.flow ≤ slice_index next flow
apart periods next end flow s is early e = grind (arith, is.after, e)

still_in : (next : List ℕ) (flow later k : ℕ) → k < length (set next flow later) → k < length next
still_in next flow later k below = grind (arith, length-set)

sent_still : (periods next : List ℕ) (end flow later : ℕ) (s : Sending) → flow < length next →
    slice_index next flow ≤ later → IsSent periods next end s → IsSent periods (set next flow later) end s
sent_still periods next end flow later s inside more is = record {
  flow = is.flow;
  at = is.at;
  before = λ k below. let old = is.before k (still_in next flow later k below) in let now = grown next flow later k inside more in omega (arith, old, now);
  after = let now = grown next flow later s.flow inside more in grind (arith, is.after, now);
}

one_more : (count period : ℕ) → (count + 1) * period ≡ count * period + period
one_more count period = grind arith

count_step : (end next first count period later : ℕ) →
    (next ≡ first + count * period) ⊎ ((end < next) × (end < first + count * period)) →
    next ≤ end → end < 2 ^ 64 - 1 → later ≡ min (next + period) (2 ^ 64 - 1) →
    (later ≡ first + (count + 1) * period) ⊎ ((end < later) × (end < first + (count + 1) * period))
count_step end next first count period later is early small more =
    let grown = one_more count period in grind (arith, grown, is)

counted_self : (firsts periods next : List ℕ) (end : ℕ) (sent : List Sending) (flow later : ℕ) →
    IsCounted firsts periods next end sent flow → flow < length next → slice_index next flow ≤ end → end < 2 ^ 64 - 1 →
    later ≡ min (slice_index next flow + slice_index periods flow) (2 ^ 64 - 1) →
    IsCounted firsts periods (set next flow later) end
    (sent ++ record { flow = flow; at = slice_index next flow } ∷ []) flow
counted_self firsts periods next end sent flow later is inside early small more =
    rw (next_same next flow later inside, count_more flow flow (slice_index next flow) sent refl)
    (count_step end (slice_index next flow) (slice_index firsts flow) (count_of flow sent) (slice_index periods flow)
    later is early small more)

counted_on : (firsts periods next : List ℕ) (end : ℕ) (sent : List Sending) (flow later k : ℕ) →
    IsCounted firsts periods next end sent k → flow < length next → slice_index next flow ≤ end → end < 2 ^ 64 - 1 →
    later ≡ min (slice_index next flow + slice_index periods flow) (2 ^ 64 - 1) →
    IsCounted firsts periods (set next flow later) end
    (sent ++ record { flow = flow; at = slice_index next flow } ∷ []) k
counted_on firsts periods next end sent flow later k is inside early small more = elim (cases_eq k flow) [
  | inl e ↦ subst (λ (j : ℕ). IsCounted firsts periods (set next flow later) end
      (sent ++ record { flow = flow; at = slice_index next flow } ∷ []) j) (sym e)
      (counted_self firsts periods next end sent flow later
      (subst (λ (j : ℕ). IsCounted firsts periods next end sent j) e is) inside early small more)
  | inr other ↦ rw (next_other next flow k later other, count_same k flow (slice_index next flow) sent other) is
]

pub whole : (firsts periods next : List ℕ) (end : ℕ) (sent : List Sending) → IsTurn firsts periods next end sent →
    ((j : ℕ) → j < length next → end < slice_index next j) → AreWhole firsts periods end sent
whole firsts periods next end sent turn late k below =
    let inside : k < length next = grind (arith, turn.same, turn.firsts_same) in
    let told = turn.counted k inside in
    let after = late k inside in
    grind (arith, told, after)

pub step : (firsts periods next : List ℕ) (end : ℕ) (sent : List Sending) (flow later : ℕ) →
    IsTurn firsts periods next end sent → flow < length next → slice_index next flow ≤ end → end < 2 ^ 64 - 1 →
    ((j : ℕ) → j < length next → slice_index next flow ≤ slice_index next j) →
    later ≡ min (slice_index next flow + slice_index periods flow) (2 ^ 64 - 1) →
    IsTurn firsts periods (set next flow later) end (sent ++ record { flow = flow; at = slice_index next flow } ∷ [])
step firsts periods next end sent flow later turn inside early small least is =
    let y : Sending = record { flow = flow; at = slice_index next flow } in
    let more : slice_index next flow ≤ later = omega (arith, is) in
    record {
      same = grind (arith, length-set, turn.same);
      firsts_same = turn.firsts_same;
      ordered = all_pairs_push AreInOrder sent y turn.ordered (λ k d lt. (turn.each k d lt).before flow inside);
      spaced = all_pairs_push (AreApart periods) sent y turn.spaced
          (λ k d lt e. apart periods next end flow (get_or sent k d) (turn.each k d lt) early e);
      each = All-push (IsSent periods (set next flow later) end) sent y
          (All-weaker (IsSent periods next end) (IsSent periods (set next flow later) end)
          (λ s sent. sent_still periods next end flow later s inside more sent) sent turn.each)
          (record {
            flow = grind (arith, turn.same);
            at = early;
            before = λ k below. let old = least k (still_in next flow later k below) in
                let now = grown next flow later k inside more in omega (arith, old, now);
            after = let now = next_same next flow later inside in grind (arith, now, is);
          });
      counted = λ k below. counted_on firsts periods next end sent flow later k (turn.counted k (still_in next flow later k below)) inside early small is;
    }

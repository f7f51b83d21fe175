-- A bench that matches an end system: at the beginning, and after a change.
use Rattle.tx_script.proofs.Names.{ℕ, ◌≡◌, List, length, arith, ◌∙◌, None, ◌≤◌, ◌<◌, ◌+◌, if◌then◌else◌, [], ◌++◌, set, get_or, nat_eq, append-nil, Some, cases_lt, ne_eqb, get_or_past, length-set, Plan, LinkPlan, LinkState, held_at, link_at, Tx, IsFreshTx, total_in, queues_in, Line, no_progress, IsPlannedLink, progress_of, ClosesOnly, IsAtHand, HaveAsked, HaveSent, Sends, All-set, most_calls, each_set, Outcome, PortView, BelongsTo, Messages, added, with_messages}

-- No total has changed.
pub same_totals : (line : Line) (old new : Tx) → new.plan ≡ old.plan
    → ((k s : ℕ) → total_in new.links k s ≡ total_in old.links k s) → ClosesOnly line old new
same_totals line old new plan same = grind arith

-- Of no sub-VL anything was taken or is left, and no queue is closed.
pub each_fresh : (plan : Plan) (tx : Tx) → IsFreshTx plan tx → (k s : ℕ)
    → (no_progress ≡ progress_of (held_at (link_at tx.links k).subs s)) × (total_in tx.links k s ≡ None)
each_fresh plan tx f k s = grind (arith, cases_lt, get_or_past)

-- A link is still the planned one.
pub still_planned : {own : ℕ} {planned : LinkPlan} {old new : LinkState} → new.plan ≡ old.plan
    → new.pace.gap ≡ old.pace.gap → new.pace.sub_vls ≡ old.pace.sub_vls → length new.subs ≡ length old.subs
    → ((s : ℕ) → (held_at new.subs s).of ≡ (held_at old.subs s).of) → IsPlannedLink own planned old
    → IsPlannedLink own planned new
still_planned plan gap sub_vls count of m = grind arith

-- A greater bound on requests holds.
pub asked_on : (count more : ℕ) (ports : List PortView) → count ≤ more → HaveAsked count ports → HaveAsked more ports
asked_on count more ports le h = grind arith

-- A port sent a message.
module _ (ports : List PortView) (i : ℕ) (d new : PortView) (bytes : List ℕ) (outcome : Outcome)
    (lt : i < length ports) (s : Sends (get_or ports i d) bytes new outcome) where
  -- what holds of it, and of each other port at its place, holds of each
  each_port : (Says : ℕ → PortView → Type 0) → Says i new
      → ((k : ℕ) (e : PortView) → k < length ports → (k ≡ i → ⊥) → Says k (get_or ports k e))
      → (k : ℕ) (e : PortView) → k < length (set ports i new) → Says k (get_or (set ports i new) k e)
  each_port Says here others k e inside =
      each_set (λ j port. j < length ports → Says j port) ports i new e lt (λ _. here) (grind arith)
      k (grind (arith, length-set))

  -- The ports stay the bench's.
  pub sent_at_hand : (tx : Tx) → IsAtHand tx ports → IsAtHand tx (set ports i new)
  sent_at_hand tx h = record {
    valid = h.valid;
    many = length-set ports i new ∙ h.many;
    opened = All-set (BelongsTo tx.plan (queues_in tx.links)) ports i new (belongs (h.opened i d lt)) h.opened;
    placed = each_port (λ k port. port.place ≡ k) (s.place ∙ h.placed i d lt) (grind arith);
    calls = All-set (λ (port : PortView). port.sender.calls ≡ most_calls) ports i new (s.calls ∙ h.calls i d lt) h.calls;
  }
    where
      belongs : BelongsTo tx.plan (queues_in tx.links) (get_or ports i d) → BelongsTo tx.plan (queues_in tx.links) new
      belongs b = (grind arith)

  -- It requested at most one slot more.
  pub asked_more : (count : ℕ) → HaveAsked count ports → HaveAsked (count + 1) (set ports i new)
  asked_more count h =
      All-set (λ (port : PortView). port.sender.asks ≤ count + 1) ports i new
      (omega (arith, s.asks)) (grind arith)

  -- Its own list has the message, if it was accepted.
  pub have_sent : (accepted : Messages) → HaveSent accepted ports
      → HaveSent (with_messages (Some i) (added outcome bytes) accepted) (set ports i new)
  have_sent accepted h = each_port (λ k port. port.sender.own ≡ accepted k ++ (if nat_eq k i then added outcome bytes else []))
      (grind arith) (grind (arith, ne_eqb, append-nil))

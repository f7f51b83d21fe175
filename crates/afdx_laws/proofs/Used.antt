-- The sub-VLs of a link that have a port, and that no other one sends.
use Rattle.afdx_laws.proofs.RunNames.{nil_isnt_cons, ℕ, ◌≡◌, ◌<◌, List, [], ◌∷◌, ◌++◌, ◌≤◌, true, length, length-append, length-map, arith, refl, ap, ◌∙◌, sym, ⊎_elim, All, All-head, nat_tests, Plan, IsPlan, link_plan_at, Sent, IsQueued, Tx, IsReady, IsReadyFor, Held, taken_by, LinkPlan, Entry, told, Owes, Any-from_list_any, list_any_at, IsTied, GivesFrame, GoesOn, Starts, ReceiverView, Brought, Contains, Option, Heeds, subst, sent_of, unnumbered_fragments, Finds, Seen, receiving, gathered, taken_of, is_on, has_port}

-- a sub-VL with a port is one of its link
pub has_port_below : (plan : Plan) (k s : ℕ) → IsPlan plan → k < length plan.links
    → has_port (link_plan_at plan.links k) plan.ports s ≡ true → s < (link_plan_at plan.links k).sub_vls
has_port_below plan k s valid inside has =
    let any = Any-from_list_any (is_on (link_plan_at plan.links k) s) plan.ports has in
    grind (arith, nat_tests)

-- a queued message has a port
pub queued_port : (plan : Plan) (k s : ℕ) (sent : Sent) → IsQueued plan k s sent → has_port (link_plan_at plan.links k) plan.ports s ≡ true
queued_port plan k s sent of =
    list_any_at (is_on (link_plan_at plan.links k) s) plan.ports of.port.0 sent.port of.port.1 (grind (arith, nat_tests))

pub first_port : (plan : Plan) (k s : ℕ) (messages : List Sent) → (messages ≡ [] → ⊥) → All (IsQueued plan k s) messages
    → has_port (link_plan_at plan.links k) plan.ports s ≡ true
first_port plan k s [] some all = absurd (some refl)
first_port plan k s (sent ∷ more) some all = queued_port plan k s sent (All-head (IsQueued plan k s) sent more all)

back_empty : {X : Type 0} (xs ys : List X) → [] ≡ xs ++ ys → ys ≡ []
back_empty [] ys is = sym is
back_empty (x ∷ xs) ys is = absurd (nil_isnt_cons is)

-- A receiver that was told of nothing may find anything.
pub untold : (r : ReceiverView) (hit : Option (ℕ × List ℕ)) → r.heard ≡ [] → Heeds r hit
untold r hit none = record {
  heard = λ item has. absurd (no_sender has.0 has.1);
  alone = λ _ b inside i lt. absurd (no_sender b inside);
}
  where
    no_sender : (b : Brought) → Contains r.heard b → ⊥
    no_sender b inside = let there = subst (λ (l : List Brought). Contains l b) none inside in let lt = there.1 in absurd (omega arith)

finds_some : (old new : Seen) (message : ℕ × List ℕ) → Finds old message new → 1 ≤ length (taken_of new)
finds_some (receiving old) new message finds = grind (arith, ap taken_of finds.0, length-append old.taken (message ∷ []))
finds_some (gathered old) new message finds = grind (arith, ap taken_of finds.2, length-append old.taken (message ∷ []))

-- a sub-VL that gives a frame has taken a message
pub taken_some : (old new : Held) (frame : List ℕ) (stream : List Entry) → IsTied old stream → GivesFrame old frame new → taken_by new ≡ [] → ⊥
taken_some old new frame stream tied g none =
    let mid_none : taken_by g.mid ≡ [] = sym (ap taken_by g.gives.same) ∙ none in
    ⊎_elim
    (λ (on : GoesOn old g.mid).
    let old_none : taken_by old ≡ [] = sym (ap taken_by on.same) ∙ mid_none in
    on.some (back_empty (told stream) old.left (rw old_none at tied)))
    (λ (starts : Starts old g.mid).
    let some = finds_some old.seen g.mid.seen starts.message starts.finds in
    let size = length-map (taken_of g.mid.seen) (sent_of g.mid.ports) in
    let empty = ap length mid_none in
    absurd (omega arith))
    g.asked

-- a sub-VL that owes fragments has accepted a message
pub owes_some : (end_system : ℕ) (link : LinkPlan) (accepted : ℕ → List Sent) (log : List Entry) (s : ℕ) → Owes end_system link accepted log s
    → accepted s ≡ [] → ⊥
owes_some end_system link accepted log s owes none =
    owes.some (back_empty (unnumbered_fragments link.id.0 s log) owes.left (rw none at owes.ahead))

pub by_plan : (plan : Plan) (tx : Tx) → tx.plan ≡ plan → IsReady tx → IsReadyFor plan tx
by_plan plan tx of ready = grind arith

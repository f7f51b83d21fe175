-- A queue after a poll, the fragments left, and the invariant of its sub-VL.
use Rattle.vl_link.proofs.Names.{ℕ, ◌≡◌, List, [], ◌∷◌, ◌++◌, arith, sym, subst, append_assoc, length-append, get_or_append_left, All-push, Seen, receiving, gathered, taken_of, known_of, ports_of, queue_of, total_of, FindsNothing, Finds, IsSameQueue, ◌+◌, SubVl, PortPlan, ◌≢◌, ◌<◌, length, map, refl, Bool, true, Some, None, ap, ◌∙◌, ◌%◌, sent_of, Held, Starts, IsSub, fragments_again, room_of, A, cutting, pieces_from, pieces_left, Sent, Option, cutting_some, left_of, message_fragments, fragments_at, unnumbered, port_plan_at, Remains, cut_of, whole, cut_whole, is_some, IfSome, ◌≤◌, IsItem, AreItems, cut_among, RoomView, bytes_of, port_of, room_with, most_of, ReceiverView, HasAt, HaveRows, IfNone, looked, after_take}

-- A poll that found a message took it.
pub taken_finds : (old : Seen) (message : ℕ × List ℕ) (new : Seen) → Finds old message new
    → taken_of new ≡ taken_of old ++ message ∷ []
taken_finds old message new f = grind arith

-- A poll of a receiver found nothing, or a message, and agrees with what the receiver heard.
pub takes_nothing : (old new : ReceiverView) (item : Option (ℕ × List ℕ)) → IfNone item (new ≡ looked old)
    → ((x : ℕ × List ℕ) → HasAt old.heard (length old.taken) x → item ≡ Some x) → (old.ports ≡ 1 → HaveRows old.heard)
    → IfNone item (FindsNothing (receiving old) (receiving new))
takes_nothing old new None none heard alone = (ap receiving none, record { heard = heard; alone = alone })
takes_nothing old new (Some x) none heard alone = tt

pub takes_one : (old new : ReceiverView) (item : Option (ℕ × List ℕ)) → IfSome item (λ x. new ≡ after_take old x)
    → ((x : ℕ × List ℕ) → HasAt old.heard (length old.taken) x → item ≡ Some x) → (old.ports ≡ 1 → HaveRows old.heard)
    → IfSome item (λ x. Finds (receiving old) x (receiving new))
takes_one old new None some heard alone = tt
takes_one old new (Some x) some heard alone = (ap receiving some, record { heard = heard; alone = alone })

-- After a poll that found nothing the queue is the same.
pub same_nothing : (old new : Seen) → FindsNothing old new → IsSameQueue old new
same_nothing old new f = grind arith

-- After a poll that found a message the queue is the same.
pub same_finds : (old : Seen) (message : ℕ × List ℕ) (new : Seen) → Finds old message new → IsSameQueue old new
same_finds old message new f = grind (arith, append_assoc)

-- After a poll that found nothing no more is known.
pub items_nothing : (n : ℕ) (old new : Seen) → FindsNothing old new → AreItems n (known_of old) → AreItems n (known_of new)
items_nothing n old new f items = grind arith

-- A found message is known afterwards; with the messages known whole, it was known before.
pub items_finds : (n : ℕ) (old : Seen) (message : ℕ × List ℕ) (new : Seen) → Finds old message new → IsItem n message
    → AreItems n (known_of old) → AreItems n (known_of new)
items_finds n (receiving r) message new f item items =
    subst (λ (seen : Seen). AreItems n (known_of seen)) (sym f.0) (All-push (IsItem n) r.taken message items item)
items_finds n (gathered g) message new f item items = grind (arith, append_assoc)

-- The messages taken are of the ports of the known messages.
pub items_taken : (n : ℕ) (seen : Seen) → AreItems n (known_of seen) → AreItems n (taken_of seen)
items_taken n seen items = grind (arith, get_or_append_left, length-append)

-- The same queue has the same number of ports.
pub same_ports : (old new : Seen) → IsSameQueue old new → ports_of new ≡ ports_of old
same_ports old new e = grind arith

-- The same queue has the same greatest length.
same_most : (old new : Seen) → IsSameQueue old new → most_of new ≡ most_of old
same_most old new e = grind arith

-- The same queue has the same identity.
pub same_name : (old new : Seen) → IsSameQueue old new → queue_of new ≡ queue_of old
same_name old new e = grind arith

-- The same queue has the same total.
pub same_total : (old new : Seen) → IsSameQueue old new → total_of new ≡ total_of old
same_total old new e = grind arith

-- Only an empty list has an empty image.
map_nil : {X Y : Type 0} (f : X → Y) (xs : List X) → map f xs ≡ [] → xs ≡ []
map_nil f [] e = refl
map_nil f (x ∷ xs) e = cc

-- All is given exactly if no fragment is left.
pub done_tells : (of : SubVl) (ports : List PortPlan) (item : Option (ℕ × List ℕ)) (rest : Remains) (done : Bool)
    → rest.end ≡ 8 + length (bytes_of item)
    → ((p : PortPlan) (bytes : List ℕ) (room : ℕ) → rest.end ≡ 8 + length bytes
    → (done ≡ true → pieces_left room (cut_of p bytes rest) ≡ [])
    × (pieces_left room (cut_of p bytes rest) ≡ [] → done ≡ true))
    → (done ≡ true → left_of of (cut_among ports item rest) ≡ [])
    × (left_of of (cut_among ports item rest) ≡ [] → done ≡ true)
done_tells of ports item rest done size h =
    let here = h (port_plan_at ports (port_of item)) (bytes_of item) (room_of of.link.lmax) size in
    grind (arith, map_nil)

-- Each message has a fragment.
pub fragments_some : (of : SubVl) (place : ℕ) (sent : Sent) → message_fragments of place sent ≢ []
unfolding fragments_at
fragments_some of place sent = some (cutting (room_of of.link.lmax) (8 + length sent.bytes)) (cutting_some _ _ (omega arith))
  where
    some : (lengths : List ℕ) → 0 < length lengths
        → map (λ piece. unnumbered of.end_system sent.port sent.bytes place piece A) (pieces_from 0 lengths) ≢ []
    some [] h = λ e. absurd (omega arith)
    some (len ∷ rest) h = λ e. cc

-- A found message is being sent: all its fragments are left.
all_left : (of : SubVl) (ports : List PortPlan) (x : ℕ × List ℕ) (rest : Remains) (next taken : ℕ)
    → rest ≡ whole next (length x.1) → next ≡ taken % 16384
    → left_of of (cut_among ports (Some x) rest) ≡ message_fragments of taken (sent_of ports x)
all_left of ports x rest next taken is at =
    let sent = sent_of ports x in
    ap (λ (r : Remains). left_of of (cut_among ports (Some x) r)) is
    ∙ cut_whole of.end_system (room_of of.link.lmax) A next sent
    ∙ ap (λ (place : ℕ). message_fragments of place sent) at
    ∙ fragments_again of.end_system (room_of of.link.lmax) A taken sent

-- The sub-VL has begun it.
pub starts_sent : (old new : Held) (item : Option (ℕ × List ℕ)) (rest : Remains) (next : ℕ) → is_some item ≡ true
    → IfSome item (λ x. Finds old.seen x new.seen) → IfSome item (IsItem (ports_of old.seen)) → ports_of old.seen ≤ length old.ports
    → rest ≡ whole next (length (bytes_of item)) → next ≡ length (taken_of old.seen) % 16384 → old.left ≡ []
    → new.of ≡ old.of → new.ports ≡ old.ports → new.left ≡ left_of old.of (cut_among old.ports item rest) → Starts old new
starts_sent old new None rest next some finds is few whole_rest at whole_left of ports left = grind arith
starts_sent old new (Some x) rest next some finds is few whole_rest at whole_left of ports left =
    let all = left ∙ all_left old.of old.ports x rest next (length (taken_of old.seen)) whole_rest at in record {
      message = x;
      item = record { port = omega arith; message = is.message };
      whole = whole_left;
      finds = finds;
      left = all;
      some = λ none. fragments_some old.of (length (taken_of old.seen)) (sent_of old.ports x) (sym all ∙ none);
      of = of;
      ports = ports;
    }

-- Its invariant is kept.
pub keeps_sub : (of : SubVl) (ports : List PortPlan) (before : RoomView) (most : ℕ) (item : Option (ℕ × List ℕ)) (earlier rest : Remains)
    (old new : Seen) (next later : ℕ) → IsSub of ports before earlier old next → is_some item ≡ true
    → IfSome item (λ x. Finds old x new) → IfSome item (IsItem (ports_of old)) → most ≡ most_of old
    → rest ≡ whole next (length (bytes_of item)) → later ≡ (next + 1) % 16384 → IsSub of ports (room_with most item) rest new later
keeps_sub of ports before most None earlier rest old new next later kept some finds is same whole_rest at = grind arith
keeps_sub of ports before most (Some x) earlier rest old new next later kept some finds is same whole_rest at =
    let queue = same_finds old x new finds in
    let taken = taken_finds old x new finds in
    let all = all_left of ports x rest next (length (taken_of old)) whole_rest kept.place in record {
      link = kept.link;
      senders = kept.senders;
      count = grind (arith, same_ports);
      most = same ∙ sym (same_most old new queue);
      rest_is = record {
        size = grind arith;
        within = λ _. grind arith;
        idle = λ none. absurd (fragments_some of (length (taken_of old)) (sent_of ports x) (sym all ∙ none));
      };
      place = grind (arith, length-append);
    }

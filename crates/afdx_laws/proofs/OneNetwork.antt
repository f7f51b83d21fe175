-- What is transmitted of a link on one network arrives from that network, and of links on both nothing is cut.
use Rattle.afdx_laws.proofs.Names.{◌≡◌, ℕ, List, [], ◌∷◌, ◌++◌, length, map, refl, ap, subst, arith, All, take-append_seam, Plan, Net, A, B, number_in, twin_of, Entry, IsPrefixOf, Accepted, begin, received, other, carried, IsNear, most_carried, messages_in, AreFirst, IsOfNet, IsHanded, id_at, piece_room, frames_of, handed_to, all_from, IsHandedOver, OneNetworkArrives, ◌≤◌, ◌<◌, true, take, nat_tests, length-map, length-take, take_all, LinkPlan, link_in, twin_twice, side, link_stream, IsKnown, AreKnown, is_on_both, on_both, AreTwins, own_stream, IsOnBoth, AllOnBoth, map-map, list_any_at}
use Rattle.afdx_laws.proofs.ListLemmas.{cons_parts, cons_same}
use Rattle.afdx_laws.proofs.Arriving.{messages_arrive_holds}
use Rattle.afdx_laws.proofs.HandedOver.{own_twins, sending_to}
use Rattle.afdx_laws.proofs.LegalLinks.{are_handed, stream_side, stream_front}
use Rattle.afdx_legal.specs.Streams.{longer}

carried_all : (net : Net) (frames : List (List ℕ)) → carried net (all_from net frames) ≡ frames
carried_all net [] = refl
carried_all net (f ∷ fs) = grind (arith, carried_all net fs)

carried_none : (net : Net) (frames : List (List ℕ)) → carried (other net) (all_from net frames) ≡ []
carried_none net [] = refl
carried_none net (f ∷ fs) = grind (arith, carried_none net fs)

-- each frame that comes is the network's, and before it nothing came from the other
all_its : (net : Net) (frames : List (List ℕ)) (before after : List (Net × List ℕ)) (e : Net × List ℕ)
    → all_from net frames ≡ before ++ e ∷ after → (e.0 ≡ net) × (carried (other net) before ≡ [])
all_its net [] [] after e is = cc
all_its net [] (x ∷ before) after e is = cc
all_its net (f ∷ fs) [] after e is = grind arith
all_its net (f ∷ fs) (x ∷ before) after e is =
    let parts = cons_parts is in
    grind (arith, all_its net fs before after e parts.1)

never_behind : (net : Net) (frames : List (List ℕ)) → IsNear 0 (all_from net frames)
never_behind net frames before after from frame is = grind (arith, all_its net frames before after (from, frame) is)

many_from : (net : Net) (frames : List (List ℕ)) → most_carried (all_from net frames) ≡ length frames
many_from net frames = grind (arith, carried_all net frames, carried_none net frames)

-- what came of a network's own frames begins their twins for it, and nothing those for the other
begins_for : (to net : Net) (came mine : List (List ℕ)) → All (IsOfNet net) mine → IsPrefixOf came mine
    → IsPrefixOf (carried to (all_from net came)) (map (twin_of to) mine)
begins_for A A came mine own begins = grind (arith, carried_all, own_twins)
begins_for B B came mine own begins = grind (arith, carried_all, own_twins)
begins_for A B came mine own begins = rw (carried_none B came) (map (twin_of A) mine, refl)
begins_for B A came mine own begins = rw (carried_none A came) (map (twin_of B) mine, refl)

handed_by : (plan : Plan) (accepted : Accepted) (a b : List Entry) (k sub : ℕ) (net : Net) → IsHandedOver plan accepted a b k sub
    → IsHanded plan.end_system (piece_room plan k) sub (accepted k sub) net
    (frames_of (id_at plan k) (handed_to net a b))
handed_by plan accepted a b k sub A handed = (are_handed plan accepted a b k sub handed).on_a
handed_by plan accepted a b k sub B handed = (are_handed plan accepted a b k sub handed).on_b

-- the first `length came` frames of the link are those that came
pub one_network_arrives_holds : OneNetworkArrives
one_network_arrives_holds plan accepted a b k sub net tolerance came handed alone fit begins =
    let mine : List (List ℕ) = frames_of (id_at plan k) (handed_to net a b) in
    let both = are_handed plan accepted a b k sub handed in
    let its = handed_by plan accepted a b k sub net handed in
    subst (λ (frames : List (List ℕ)). AreFirst plan.end_system (piece_room plan k) sub (accepted k sub) frames
    (messages_in sub (received number_in tolerance begin (all_from net came))))
    (grind (arith, many_from, take-append_seam))
    (messages_arrive_holds plan.end_system (piece_room plan k) sub 0 tolerance (accepted k sub) net mine
    (all_from net came) (sending_to both.link both.sent its) fit
    (grind (arith, begins_for, never_behind)))

known_on_both : (links : List LinkPlan) (net : Net) (frame : List ℕ) → All IsOnBoth links → IsKnown links net frame
    → is_on_both links (link_in frame) ≡ true
known_on_both links net frame all known = grind (arith, list_any_at)

none_cut : (links : List LinkPlan) (net : Net) (es : List Entry) → All IsOnBoth links → AreKnown links net es → on_both links es ≡ es
none_cut links net [] all known = refl
none_cut links net (e ∷ es) all known =
    rw (known_on_both links net e.frame all known.0)
    (cons_same refl (none_cut links net es all known.1))

side_side : (net other : Net) (es : List Entry) → map (side net) (map (side other) es) ≡ map (side net) es
side_side net other es = grind (arith, map-map, twin_twice)

no_longer : (net : Net) (whole front : List Entry) → front ≡ map (side net) (take (length front) whole) → length front ≤ length whole
no_longer net whole front is = grind (arith, ap length is, length-map, length-take)

-- a link's own stream is in the longer list
own_in_a : (vl : ℕ) (a b : List Entry) → length b ≤ length a → AreTwins side a b
    → own_stream vl a b ≡ link_stream vl (map (side A) (longer a b))
own_in_a vl a b as_long twins = grind (arith, stream_front B vl a b (twins.b_shorter as_long), stream_side A vl a, no_longer)

own_in_b : (vl : ℕ) (a b : List Entry) → length a < length b → AreTwins side a b
    → own_stream vl a b ≡ link_stream vl (map (side A) (longer a b))
own_in_b vl a b shorter twins = grind (
  arith,
  nat_tests,
  stream_front A vl b a (grind arith),
  take_all,
  side_side A A (link_stream vl b),
  stream_side A vl b,
)

pub all_on_both_holds : AllOnBoth
all_on_both_holds plan accepted a b all legal = grind (arith, none_cut, own_in_b, own_in_a)

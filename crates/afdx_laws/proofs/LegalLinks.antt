-- Each link of a plan, by what was transmitted legally.
use Rattle.afdx_laws.proofs.Names.{◌≡◌, ℕ, ◌≤◌, nat_eq, List, length, map, take, drop, refl, ap, arith, ◌<◌, Bool, true, [], ◌∷◌, All, filter, take-append_seam, take-append-drop, length-map, take_all, take-map, All-weaker, All-map, All-filter, map-map, LinkPlan, Net, A, B, blanked, Sent, link_in, sub_in, twin_of, twin_same, twin_link, Entry, side, those_with, link_stream, sub_stream, told, IsKnown, AreKnown, AreTwins, Accepted, IsLegal, IsLegalOn, known_all, with_append, with_map, numbered_map, IsLong, IsOfNet, IsHanded, AreHanded, frames_of, id_at, piece_room, IsHandedOver, LegalArrive, LegalDespiteLoss, Plan, IsPlan, link_plan_at, IsLink, IsQueued, fragments, twin_sub, own_stream, longer, IsAllowed, OwnListsArrive, on_both_is, longer_stream, IsReleased}
use Rattle.afdx_laws.proofs.HandedOver.{own_twins, twin_twin, handed_arrive_holds, handed_despite_loss_holds}

abbrev frame_of_entry : Entry → List ℕ
frame_of_entry e = e.frame

of_known : (P : List ℕ → Type 0) (links : List LinkPlan) (net : Net) (vl : ℕ) (es : List Entry)
    → ((frame : List ℕ) → IsKnown links net frame → P frame) → AreKnown links net es → All P (frames_of vl es)
of_known P links net vl es each known =
    let all = All-weaker (λ (e : Entry). IsKnown links net e.frame) (λ (e : Entry). P e.frame) (λ e is. each e.frame is) es
    (known_all links net es known) in
    All-map P frame_of_entry (link_stream vl es)
    (All-filter (λ (e : Entry). nat_eq (link_in e.frame) vl) (λ (e : Entry). P e.frame) es all)

pub long_of : (links : List LinkPlan) (net : Net) (vl : ℕ) (es : List Entry) → AreKnown links net es → All IsLong (frames_of vl es)
long_of links net vl es known = of_known IsLong links net vl es (λ frame is. is.size) known

pub own_of : (links : List LinkPlan) (net : Net) (vl : ℕ) (es : List Entry) → AreKnown links net es → All (IsOfNet net) (frames_of vl es)
own_of links net vl es known = of_known (IsOfNet net) links net vl es (grind (arith, twin_same)) known

pub told_is : (sub : ℕ) (es : List Entry) → told (sub_stream sub es) ≡ map blanked (those_with sub_in sub (map frame_of_entry es))
told_is sub es = grind (arith, map-map blanked frame_of_entry (sub_stream sub es), with_map)

pub frames_side : (net : Net) (es : List Entry) → map frame_of_entry (map (side net) es) ≡ map (twin_of net) (map frame_of_entry es)
frames_side net es = grind (arith, map-map, side, twin_of)

pub stream_side : (net : Net) (vl : ℕ) (es : List Entry) → link_stream vl (map (side net) es) ≡ map (side net) (link_stream vl es)
stream_side net vl es = grind (arith, with_map, twin_link)

stream_take : (vl n : ℕ) (es : List Entry) → link_stream vl (take n es) ≡ take (length (link_stream vl (take n es))) (link_stream vl es)
stream_take vl n es =
    grind (arith, take-append-drop n es, take-append_seam (link_stream vl (take n es)) (link_stream vl (drop n es)), with_append)

pub stream_front : (net : Net) (vl : ℕ) (longer shorter : List Entry) → shorter ≡ map (side net) (take (length shorter) longer)
    → link_stream vl shorter ≡ map (side net) (take (length (link_stream vl shorter)) (link_stream vl longer))
stream_front net vl longer shorter is = grind (arith, length-map, stream_side, stream_take)

pub frames_front : (net : Net) (vl : ℕ) (longer shorter : List Entry) → shorter ≡ map (side net) (take (length shorter) longer)
    → frames_of vl shorter ≡ map (twin_of net) (take (length (frames_of vl shorter)) (frames_of vl longer))
frames_front net vl longer shorter is = grind (
  arith,
  stream_front net vl longer shorter is,
  frames_side net (take (length (link_stream vl shorter)) (link_stream vl longer)),
  take-map,
  length-map,
)

-- the shorter list is twins of a beginning of the longer one, whichever that is
pub twins_by_b : (xs ys : List (List ℕ)) → All (IsOfNet A) xs → ys ≡ map (twin_of B) (take (length ys) xs) → AreTwins twin_of xs ys
twins_by_b xs ys own is = grind (arith, length-map, take_all, twin_twin, own_twins)

pub twins_by_a : (xs ys : List (List ℕ)) → All (IsOfNet B) ys → xs ≡ map (twin_of A) (take (length xs) ys) → AreTwins twin_of xs ys
twins_by_a xs ys own is = grind (arith, length-map, take_all, twin_twin, own_twins)

filter_twice : {X : Type 0} (p q : X → Bool) → ((x : X) → p x ≡ true → q x ≡ true) → (xs : List X) → filter p (filter q xs) ≡ filter p xs
filter_twice p q each [] = refl
filter_twice p q each (x ∷ xs) = grind (arith, filter_twice p q each xs, each x)

nothing : (net : Net) (xs : List (List ℕ)) → length xs ≤ 0 → xs ≡ map (twin_of net) (take (length xs) [])
nothing net [] h = refl
nothing net (x ∷ xs) h = absurd (omega arith)

pub twins_are : (plan : Plan) (accepted : Accepted) (a b : List Entry) (k : ℕ) → IsPlan plan → IsLegal plan accepted a b
    → k < length plan.links → AreTwins twin_of (frames_of (id_at plan k) a) (frames_of (id_at plan k) b)
twins_are plan accepted a b k valid legal inside = grind (arith, filter_twice, twins_by_a, frames_front, twins_by_b, own_of, on_both_is, nothing)

pub link_is : (plan : Plan) (k : ℕ) → IsPlan plan → k < length plan.links → IsLink (link_plan_at plan.links k)
link_is plan k valid inside = grind arith

pub handed_is : (plan : Plan) (accepted : Accepted) (net : Net) (handed : List Entry) (k sub : ℕ)
    → IsLegalOn plan accepted net handed → k < length plan.links → sub < (link_plan_at plan.links k).sub_vls
    → IsHanded plan.end_system (piece_room plan k) sub (accepted k sub) net (frames_of (id_at plan k) handed)
handed_is plan accepted net handed k sub legal inside index =
    let first = legal.prefixes k sub inside index in
    grind (arith, told_is, long_of, numbered_map, own_of)

pub are_handed : (plan : Plan) (accepted : Accepted) (a b : List Entry) (k sub : ℕ) → IsHandedOver plan accepted a b k sub
    → AreHanded plan.end_system (piece_room plan k) sub (accepted k sub)
    (frames_of (id_at plan k) a) (frames_of (id_at plan k) b)
are_handed plan accepted a b k sub h =
    grind (arith, handed_is plan accepted A a k sub h.legal.on_a h.inside h.index, handed_is plan accepted B b k sub h.legal.on_b h.inside h.index, twins_are plan accepted a b k h.valid h.legal h.inside)

pub legal_arrive_holds : LegalArrive
legal_arrive_holds plan accepted a b k sub lag tolerance arrivals handed fit carry =
    handed_arrive_holds _ _ _ _ _ _ _ _ _ (are_handed plan accepted a b k sub handed) fit carry

pub legal_despite_loss_holds : LegalDespiteLoss
legal_despite_loss_holds plan accepted a b k sub check whole came handed some close =
    handed_despite_loss_holds _ _ _ _ _ _ _ _ _ (are_handed plan accepted a b k sub handed) some close

abbrev many_of : ℕ → List (List ℕ) → ℕ
many_of sub frames = length (those_with sub_in sub frames)

many_twins : (net : Net) (sub : ℕ) (frames : List (List ℕ)) → many_of sub (map (twin_of net) frames) ≡ many_of sub frames
many_twins net sub frames = grind (arith, ap length (with_map sub_in sub_in (twin_of net) sub (λ f. twin_sub net f) frames), length-map)

longer_frames : (xs ys : List Entry) → map (λ (e : Entry). e.frame) (longer_stream xs ys)
    ≡ longer (map (λ (e : Entry). e.frame) xs) (map (λ (e : Entry). e.frame) ys)
longer_frames xs ys = grind (arith, length-map)

-- of a sub-VL that is wholly released, all fragments are in the longer list
all_handed : (plan : Plan) (accepted : Accepted) (log a b : List Entry) (k sub : ℕ)
    → link_stream (id_at plan k) log ≡ own_stream (id_at plan k) a b
    → IsReleased plan.end_system (link_plan_at plan.links k) (accepted k) log sub
    → length (fragments plan.end_system (piece_room plan k) A (accepted k sub))
    ≡ many_of sub (longer (frames_of (id_at plan k) a) (frames_of (id_at plan k) b))
all_handed plan accepted log a b k sub own released = grind (arith, told_is, length-map, frames_side, many_twins, longer_frames)

pub own_lists_arrive_holds : OwnListsArrive
own_lists_arrive_holds plan own a b valid handed k sub inside index lag tolerance arrivals fit carry whole =
    let sent : List Sent = handed.accepted k sub in
    let first = legal_arrive_holds plan handed.accepted a b k sub lag tolerance arrivals
    (record {
      valid = valid;
      legal = handed.legal;
      inside = inside;
      index = index;
      allowed = All-weaker (IsAllowed plan k sub) (IsQueued plan k sub) (λ m is. is.queued) sent (handed.allowed k sub inside index);
    })
    fit carry in
    let all = all_handed plan handed.accepted handed.log a b k sub (handed.streams k inside)
    (handed.done k inside sub index) in
    let taken = ap (λ (xs : List Sent). length (fragments plan.end_system (piece_room plan k) A xs))
    (take_all (length sent) sent (omega arith)) in
    grind (arith, take_all, length-map)

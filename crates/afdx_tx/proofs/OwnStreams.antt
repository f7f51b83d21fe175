-- Each link's stream of the log is the longer of its two, and on links of both networks these are twins.
use Rattle.afdx_tx.proofs.Names.{ℕ, ◌≡◌, ◌⊎◌, ◌≤◌, List, [], ◌∷◌, length, map, arith, refl, ap, ◌∙◌, sym, inl, inr, ⊎_elim, All, lt-ltb, le-ltb, append-nil, length-append, length-map, nil_from_length, All-tail, Networks, Plan, link_plan_at, Net, A, B, twin_twice, Entry, Logged, entries_of, side, Lines, IsMirrored, link_stream, longer, own_stream, AreOwnStreams, AreCarried, log, get_or, subst, ◌++◌, Bool, take, get_or-map, take_all, take-append-le, take-map, filter-append, LinkPlan, IsPlan, link_in, twin_link, sent_to, Keeps, IsKnown, AreKnown, is_on_both, on_both, AreTwins, known_all, Both, OnlyA, OnlyB, is_both, on_both_is}
use Rattle.afdx_tx.proofs.HandedFronts.{IsFor, IsFront, link_side, front_of, all_handed, whole_alone, picked, all_front, log_parts}

-- The twin of a twin.
pub sides : (net other : Net) (H : List Entry) → map (side net) (map (side other) H) ≡ map (side net) H
sides net other [] = refl
sides net other (e ∷ es) = rw (twin_twice net other e.frame, sides net other es) refl

-- Entries for network A are their own twins for A.
for_a_entries : (ls : List Logged) → All (λ (l : Logged). side A l.entry ≡ l.entry) ls
    → map (side A) (entries_of ls) ≡ entries_of ls
for_a_entries [] h = refl
for_a_entries (l ∷ ls) h =
    rw (h 0 l (omega arith), for_a_entries ls (All-tail (λ (m : Logged). side A m.entry ≡ m.entry) l ls h)) refl

-- So are the entries of the log.
log_for_a : (lines : Lines) → IsMirrored lines → map (side A) (log lines) ≡ log lines
unfolding log
log_for_a lines m = grind (arith, for_a_entries)

-- So are those of a link's stream of the log.
stream_for_a : (lines : Lines) (vl : ℕ) → IsMirrored lines
    → map (side A) (link_stream vl (log lines)) ≡ link_stream vl (log lines)
stream_for_a lines vl m = sym (link_side A vl (log lines)) ∙ ap (link_stream vl) (log_for_a lines m)

-- Of two prefixes of a stream, one of which is the whole, the longer is the whole.
longer_is : (S a b : List Entry) → map (side A) S ≡ S → IsFront A S a → IsFront B S b
    → (length S ≤ length a) ⊎ (length S ≤ length b) → map (side A) (longer a b) ≡ S
longer_is S a b own f g one = grind (arith, lt-ltb, sides, le-ltb, nil_from_length, length-append, length-map, append-nil)

-- The stream of one link.
own_of : (lines : Lines) (vl : ℕ) (networks : Networks) → IsMirrored lines → All (IsFor vl networks) lines.logged
    → link_stream vl (log lines) ≡ own_stream vl lines.a lines.b
own_of lines vl networks m own = sym (longer_is (link_stream vl (log lines)) (link_stream vl lines.a) (link_stream vl lines.b)
    (stream_for_a lines vl m)
    (front_of A lines.a_stands lines.a lines vl networks m.first own)
    (front_of B lines.b_stands lines.b lines vl networks m.second own) (one networks own))
  where
    one : (networks : Networks) → All (IsFor vl networks) lines.logged
        → (length (link_stream vl (log lines)) ≤ length (link_stream vl lines.a))
        ⊎ (length (link_stream vl (log lines)) ≤ length (link_stream vl lines.b))
    one Both own = ⊎_elim
        (λ none. inl (all_handed A lines.a_stands lines.a lines vl Both m.first own refl (grind arith)))
        (λ none. inr (all_handed B lines.b_stands lines.b lines vl Both m.second own refl (grind arith)))
        m.one
    one OnlyA own = inl (all_handed A lines.a_stands lines.a lines vl OnlyA m.first own refl
        (whole_alone A lines.a_stands lines.a lines vl OnlyA m.first own refl))
    one OnlyB own = inr (all_handed B lines.b_stands lines.b lines vl OnlyB m.second own refl
        (whole_alone B lines.b_stands lines.b lines vl OnlyB m.second own refl))

-- The same of each link of a plan.
pub own_streams : (plan : Plan) (lines : Lines) → IsMirrored lines → AreCarried plan.links lines.logged
    → AreOwnStreams plan (log lines) lines.a lines.b
own_streams plan lines m carried k lt =
    own_of lines (link_plan_at plan.links k).id.0 (link_plan_at plan.links k).networks m (carried k lt)

-- an entry of a link on both networks was logged for both
abbrev IsPlanned : List LinkPlan → Logged → Type 0
IsPlanned links l = is_on_both links (link_in l.entry.frame) ≡ is_both l.networks

-- Known entries carried by their links' networks are logged so.
planned : (plan : Plan) (ls : List Logged) → IsPlan plan → AreKnown plan.links A (entries_of ls)
    → AreCarried plan.links ls → All (IsPlanned plan.links) ls
planned plan ls valid known carried i d lt =
    let is : get_or (entries_of ls) i d.entry ≡ (get_or ls i d).entry = grind (arith, get_or-map) in
    let k = subst (λ (e : Entry). IsKnown plan.links A e.frame) is (known_all plan.links A (entries_of ls) known i d.entry
    (grind (arith, length-map))) in
    grind (arith, is_on_both, on_both_is, is_both)

-- The logged entries are logged so.
pub logged_planned : (plan : Plan) (lines : Lines) → IsPlan plan → AreCarried plan.links lines.logged
    → AreKnown plan.links A (log lines) → All (IsPlanned plan.links) lines.logged
unfolding log
logged_planned plan lines valid carried known = grind (arith, planned)

-- On such links, a network's frames are the twins of the log.
pub both_sent : (links : List LinkPlan) (net : Net) (ls : List Logged) → All (IsPlanned links) ls
    → on_both links (sent_to net ls) ≡ map (side net) (on_both links (entries_of ls))
both_sent links net ls own = grind (arith, picked, is_on_both, twin_link)

-- Two lists with a common extension agree as far as the shorter one reaches.
taken_front : (xs ys zs ws : List Entry) → xs ++ ys ≡ zs ++ ws → length zs ≤ length xs → take (length zs) xs ≡ zs
taken_front xs ys zs ws same le =
    sym (take-append-le (length zs) xs ys le) ∙ ap (take (length zs)) same ∙ take-append-le (length zs) zs ws (omega arith)
    ∙ take_all (length zs) zs (omega arith)

-- Two prefixes of one list, each turned to its network, are twins.
pub front_twins : (xs ys zs ws : List Entry) → xs ++ ys ≡ zs ++ ws → AreTwins side (map (side A) xs) (map (side B) zs)
front_twins xs ys zs ws same = grind (arith, taken_front, length-map, side, take-map, sides)

-- The entries of such links in two lists.
pub both_append : (links : List LinkPlan) (xs ys : List Entry) → on_both links (xs ++ ys) ≡ on_both links xs ++ on_both links ys
both_append links xs ys = grind (arith, filter-append, is_on_both, link_in)

-- On such links the frames of the two networks are twins.
pub both_twins : (plan : Plan) (lines : Lines) → IsPlan plan → IsMirrored lines → AreCarried plan.links lines.logged
    → AreKnown plan.links A (log lines) → AreTwins side (on_both plan.links lines.a) (on_both plan.links lines.b)
both_twins plan lines valid m carried known =
    rw (handed_is A _ _ m.first, handed_is B _ _ m.second)
    (front_twins (on_both plan.links (entries_of m.first.seen)) (on_both plan.links (entries_of m.first.missed))
    (on_both plan.links (entries_of m.second.seen)) (on_both plan.links (entries_of m.second.missed))
    (sym (both_append plan.links (entries_of m.first.seen) (entries_of m.first.missed))
    ∙ ap (on_both plan.links) (grind (arith, log_parts))
    ∙ both_append plan.links (entries_of m.second.seen) (entries_of m.second.missed)))
  where
    all : All (IsPlanned plan.links) lines.logged
    all = logged_planned plan lines valid carried known

    handed_is : (net : Net) (stands : Bool) (handed : List Entry) → (k : Keeps net stands handed lines.logged)
        → on_both plan.links handed ≡ map (side net) (on_both plan.links (entries_of k.seen))
    handed_is net stands handed k = ap (on_both plan.links) k.got ∙ both_sent plan.links net k.seen
        (all_front (IsPlanned plan.links) k.seen k.missed (rw k.whole at all))

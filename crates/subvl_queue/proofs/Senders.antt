-- The senders in a list, and what the receiver has of them.
use Rattle.subvl_queue.proofs.Names.{◌≡◌, ℕ, zero, suc, ◌+◌, ◌<◌, ◌≤◌, List, [], ◌∷◌, ◌++◌, length, take, drop, get_or, sym, refl, ap, ◌∙◌, arith, length-append, take-append-drop, Contains-append_right, map, Contains, Some, None, false, Option, IfSome, IfNone, IsNext, Lists, AreInRow, HasAt, HaveRows, IsPlaced, IsLast, heard_from, ReceiverView, get_or_push, subst, with_look, drop_at, some, get_elem?, IsMessage, View, own_of, places_of, IsGathered, whole, brought_of, brought_back, owned, IsLog, with_all, holding, freed_of, SenderView, Brought, HasPort, HasEvery, IsBack, AreBack, IsWhole, brought_by, brought_by_all}
use Rattle.subvl_queue.proofs.Parts.{part_is, places_are, take_next, stand_at}

-- If none was found, no sender of the port is in the list.
pub none_there : (senders : List SenderView) (n p : ℕ) → length senders ≤ n → ((k : ℕ) (d : SenderView) → k < n → (get_or senders k d).port ≡ p → ⊥)
    → HasPort senders p → ⊥
none_there [] n p le away h = omega arith
none_there (s ∷ ss) n p le away h = let lt = h.1 in away h.0 s (omega arith) (h.2 s)

-- The index of a joined list.
found : (joined : List (ℕ × List (ℕ × List ℕ))) (b : Brought) (k : ℕ) → k < length (map brought_of joined) → get_or (map brought_of joined) k b ≡ b
    → (i : ℕ) × (p : ℕ) × (l : List (ℕ × List ℕ)) × (get_elem? joined i ≡ some (p, l)) × (brought_of (p, l) ≡ b)
found [] b k lt e = absurd (omega arith)
found (x ∷ xs) b zero lt e = (zero, x.0, x.1, refl, e)
found (x ∷ xs) b (suc k) lt e = let r = found xs b k (omega arith) e in (suc r.0, r.1, r.2, r.3, r.4)

-- The sender of a port that is back has joined.
pub joined_for : (v : View (List ℕ)) (ports : ℕ) → AreBack ports (brought_back v) → (k : ℕ) → k < ports
    → (i : ℕ) × (l : List (ℕ × List ℕ)) × (get_elem? v.joined i ≡ some (k, l))
joined_for v ports every k lt = let there = every k lt in grind (arith, found)

-- A sender in the list brings the part of its port.
brought_has : (senders : List SenderView) (p k : ℕ) → k < length senders → ((d : SenderView) → (get_or senders k d).port ≡ p)
    → IsBack (brought_by_all senders) p
brought_has [] p k lt is = absurd (omega arith)
brought_has (s ∷ ss) p zero lt is = (brought_by s, (0, omega arith, refl), is s)
brought_has (s ∷ ss) p (suc k) lt is = let r = brought_has ss p k (omega arith) is in
    (r.0, Contains-append_right (brought_by s ∷ []) (brought_by_all ss) r.0 r.1, r.2)

pub all_brought : (senders : List SenderView) (ports : ℕ) → HasEvery ports senders → AreBack ports (brought_by_all senders)
all_brought senders ports every p lt = let there = every p lt in brought_has senders p there.0 there.1 there.2

-- A sender that is back among the last is back among all.
pub back_among : (before last : List Brought) (ports : ℕ) → AreBack ports last → AreBack ports (before ++ last)
back_among before last ports every p lt = let there = every p lt in (there.0, Contains-append_right before last there.0 there.1, there.2)

-- A list that is whole by all senders is whole by the last ones, if they include each port.
pub whole_by : (before last : List Brought) (ports : ℕ) (l : List (ℕ × List ℕ)) → AreBack ports last → IsWhole ports (before ++ last) l
    → IsWhole ports last l
whole_by before last ports l every known = record {
  every = every;
  parts = λ b inside. known.parts b (Contains-append_right before last b inside);
  places = λ b inside. known.places b (Contains-append_right before last b inside);
  no_more = known.no_more;
}

-- If nothing was brought, no sender has joined.
pub none_joined : (v : View (List ℕ)) → brought_back v ≡ [] → v.joined ≡ []
none_joined v none = elim v.joined as (λ l. map brought_of l ≡ [] → l ≡ []) [ [] ↦ λ e. refl | x ∷ xs ↦ λ e. absurd (cc) ] none

-- The log is whole: it has exactly the own lists of the senders that are back.
pub is_whole : (slots ports : ℕ) (v : View (List ℕ)) (l : List (ℕ × List ℕ)) → AreBack ports (brought_back v) → IsLog IsMessage slots v l → v.made ≡ ports
    → IsWhole ports (brought_back v) l
is_whole slots ports v l every log made =
    let at : (b : Brought) → Contains (brought_back v) b → (own_of (owned b.port 0 l) ≡ b.own) × (places_of (owned b.port 0 l) ≡ b.places) =
    grind (arith, found) in
    record {
      every = every;
      parts = λ b inside. sym (part_is b.port 0 l) ∙ (at b inside).0;
      places = λ b inside. stand_at l b.port b.own b.places (sym (part_is b.port 0 l) ∙ (at b inside).0)
          (sym (places_are b.port 0 l) ∙ (at b inside).1);
      no_more = λ p le. sym (part_is p 0 l) ∙ ap own_of (log.no_more p (grind arith));
    }

-- The log is the messages taken and the messages left.
pub accepted_is : (slots n : ℕ) (v w : View (List ℕ)) (l : List (ℕ × List ℕ)) → IsLog IsMessage slots v l → n ≡ length v.taken → w ≡ with_all v l
    → l ≡ w.taken ++ drop n (whole w)
accepted_is slots n v w l log counted is = sym (
    ap (λ (u : View (List ℕ)). u.taken ++ drop n (whole u)) is
    ∙ ap (λ (z : List (ℕ × List ℕ)). z ++ drop n l) (log.begins ∙ ap (λ (m : ℕ). take m l) (sym counted))
    ∙ take-append-drop n l)

-- The next message of the list.
pub next_listed : (taken : ℕ) (v : View (List ℕ)) (x : ℕ × List ℕ) → v.all ≡ Some (whole v)
    → IfSome v.all (λ l. (taken < length l) × (get_elem? l taken ≡ some x)) → (taken < length (whole v)) × (get_elem? (whole v) taken ≡ some x)
next_listed taken v x e = grind arith

-- After the next message was taken, the list is still gathered.
pub goes_on : (taken next total : ℕ) (v w : View (List ℕ)) (x : ℕ × List ℕ) → IsGathered taken total v → w ≡ freed_of (holding v taken x) x w.asks_then
    → (taken < length (whole v)) × (get_elem? (whole v) taken ≡ some x) → next ≡ taken + 1 → IsGathered next total w
goes_on taken next total v w x old is at more =
    let suc_is : suc taken ≡ next = omega arith in
    grind (arith, take_next, length-append)

-- After a poll the list is still gathered.
pub goes_on_by : (taken next total : ℕ) (v w : View (List ℕ)) (found : Option (ℕ × List ℕ)) → IsGathered taken total v
    → IfSome found (λ x. w ≡ freed_of (holding v taken x) x w.asks_then) → IfSome found (λ x. IsNext v taken x) → IfSome found (λ _. next ≡ taken + 1)
    → IfNone found (w ≡ with_look v false) → IfNone found (next ≡ taken) → IsGathered next total w
goes_on_by taken next total v w None old at listed more none same = grind arith
goes_on_by taken next total v w (Some x) old at listed more none same =
    goes_on taken next total v w x old at (next_listed taken v x old.all listed.listed) more

-- The taken message was the first of those left.
pub leaves : (taken next : ℕ) (v w : View (List ℕ)) (x : ℕ × List ℕ) → w ≡ freed_of (holding v taken x) x w.asks_then → get_elem? (whole v) taken ≡ some x
    → next ≡ taken + 1 → drop taken (whole v) ≡ x ∷ drop next (whole w)
leaves taken next v w x is at more =
    let suc_is : suc taken ≡ next = omega arith in
    grind (arith, drop_at)

-- A message in a sender's list, with its place.
at_own : (l : List (ℕ × List ℕ)) (i : ℕ) → i < length (own_of l) → get_elem? l i ≡ some (get_or (places_of l) i 0, get_or (own_of l) i [])
at_own [] i lt = absurd (omega arith)
at_own (x ∷ l) zero lt = refl
at_own (x ∷ l) (suc i) lt = at_own l i (omega arith)

-- A message of these senders is in one of their lists.
pub is_listed : (told : List (ℕ × List (ℕ × List ℕ))) (p : ℕ) (item : ℕ × List ℕ) → HasAt (map brought_of told) p item → Lists told p item
is_listed told p item has =
    let at = has.2 in
    let f = found told has.0 has.1.0 has.1.1 has.1.2 in
    let lt : at.0 < length (own_of f.2) = subst (λ (z : Brought). at.0 < length z.own) (sym f.4) at.1 in
    let here = at_own f.2 at.0 lt in
    let place : get_or (places_of f.2) at.0 0 ≡ p = subst (λ (z : Brought). get_or z.places at.0 0 ≡ p) (sym f.4) at.2 in
    let same : item ≡ (f.1, get_or (own_of f.2) at.0 []) = subst (λ (z : Brought). item ≡ (z.port, get_or z.own at.0 [])) (sym f.4) at.3 in
    (f.0, at.0, f.2, grind arith, grind arith)

-- A poll finds a message that is listed as the next.
pub finds_listed : (v : View (List ℕ)) (told : List (ℕ × List (ℕ × List ℕ))) (p : ℕ) (item : ℕ × List ℕ) (hit : Option (ℕ × List ℕ))
    → ((x y : ℕ × List ℕ) → IsNext v p x → Lists told p y → x ≡ y) → HasAt (map brought_of told) p item
    → IfSome hit (IsNext v p) → IfNone hit ((y : ℕ × List ℕ) → Lists told p y → ⊥) → hit ≡ Some item
finds_listed v told p item None is has next none = absurd (none item (is_listed told p item has))
finds_listed v told p item (Some x) is has next none = ap Some (is x item next (is_listed told p item has))

-- In lists in a row each message has its index as its place.
pub have_rows : (told : List (ℕ × List (ℕ × List ℕ))) → AreInRow told → HaveRows (map brought_of told)
have_rows told row b inside i lt =
    let f = found told b inside.0 inside.1 inside.2 in
    let lt' : i < length (own_of f.2) = subst (λ (z : Brought). i < length z.own) (sym f.4) lt in
    let here = row f.0 i f.1 (get_or (places_of f.2) i 0) f.2 (get_or (own_of f.2) i []) f.3 (at_own f.2 i lt') in
    subst (λ (z : Brought). get_or z.places i 0 ≡ i) f.4 here

pub counts_are : (l : List (ℕ × List ℕ)) → length (places_of l) ≡ length (own_of l)
counts_are [] = refl
counts_are (x ∷ l) = let r = counts_are l in omega arith

last_same : (a b : ℕ) (xs ys : List ℕ) → xs ++ a ∷ [] ≡ ys ++ b ∷ [] → a ≡ b
last_same a b [] [] e = grind arith
last_same a b [] (y ∷ ys) e = let l = ap length e in let n = length-append ys (b ∷ []) in absurd (omega arith)
last_same a b (x ∷ xs) [] e = let l = ap length e in let n = length-append xs (a ∷ []) in absurd (omega arith)
last_same a b (x ∷ xs) (y ∷ ys) e = last_same a b xs ys (ap tail_of e)
  where
    tail_of : List ℕ → List ℕ
    tail_of [] = []
    tail_of (z ∷ zs) = zs

-- A sender after a send, whose message has the last place.
pub record HasSent (s t : SenderView) (bytes : List ℕ) : Type 0 where
  pub place : ℕ
  pub places : t.places ≡ s.places ++ place ∷ []
  pub within : length s.own < length t.own
  pub at : get_or t.places (length s.own) 0 ≡ place
  pub last : get_or t.own (length s.own) [] ≡ bytes

pub has_sent : (s t : SenderView) (bytes : List ℕ) → IsPlaced s bytes t → length t.places ≡ length t.own → HasSent s t bytes
has_sent s t bytes placed counts =
    let place : ℕ = placed.2.0 in
    let places : t.places ≡ s.places ++ place ∷ [] = ap (λ (v : SenderView). v.places) placed.2.1 in
    let own : t.own ≡ s.own ++ bytes ∷ [] = ap (λ (v : SenderView). v.own) placed.2.1 in
    let n = length-append s.places (place ∷ []) in
    let m = length-append s.own (bytes ∷ []) in
    let a = ap length places in
    let b = ap length own in
    let same : length s.places ≡ length s.own = omega arith in record {
      place = place;
      places = places;
      within = omega arith;
      at = ap (λ (l : List ℕ). get_or l (length s.own) 0) places ∙ get_or_push s.places place 0 (length s.own) same;
      last = ap (λ (l : List (List ℕ)). get_or l (length s.own) []) own ∙ get_or_push s.own bytes [] (length s.own) refl;
    }

-- What a receiver hears of last is among what it heard of.
pub hears_last : (r : ReceiverView) (t : SenderView) → Contains (heard_from r t).heard (brought_by t)
hears_last r t = Contains-append_right r.heard (brought_by t ∷ []) (brought_by t) (0, omega arith, refl)

-- The message of a send is among what the receiver heard of afterwards.
pub hears_sent : (r : ReceiverView) (s t : SenderView) (bytes : List ℕ) (h : HasSent s t bytes) → HasAt (heard_from r t).heard h.place (t.port, bytes)
hears_sent r s t bytes h = (brought_by t, hears_last r t, (length s.own, h.within, h.at, λ k. (t.port, sym h.last k)))

-- The last place is the one after all others.
pub last_is : (s t : SenderView) (place p : ℕ) → t.places ≡ s.places ++ place ∷ [] → IsLast t.places p → place ≡ p
last_is s t place p places last = last_same place p s.places last.0 (sym places ∙ last.1)

-- What a receiver accepts of what two networks carry.
use Rattle.afdx_laws.proofs.ListLemmas.{ahead_old, last, valid_next}
use Rattle.afdx_laws.proofs.Names.{IsFitFor, ◌≡◌, ℕ, suc, ◌+◌, ◌≤◌, ◌<◌, max, List, [], ◌∷◌, ◌++◌, length, map, take, get_or, refl, ap, ◌∙◌, arith, drop, Option, All, take_more, append_assoc, append-nil, drop_more, drop_all, get_or-map, length-map, set-set, Net, A, B, sequence_number, Tolerance, State, received, carried, with_seen, with_accepted, seen_on, other, IsStream, IsNear, IsNumbered, IsPrefixOf, numbered_at, interface_byte, twin_of, number_in, twin_number, IsLong, ExactlyOnce}

-- a frame in its place, seen through h
abbrev pub IsPlaced : {F : Type 0} → (F → ℕ) → (F → F) → List F → ℕ → F → Type 0
IsPlaced number h stream i frame = (i < length stream) × (number frame ≡ sequence_number i)
    × (h frame ≡ get_or stream i (h frame))

pub grows : {F : Type 0} (h : F → F) (stream : List F) (i : ℕ) (frame : F) (rest : List F) → i < length stream
    → h frame ≡ get_or stream i (h frame) → take i stream ++ (h frame ∷ rest) ≡ take (suc i) stream ++ rest
grows h stream i frame rest inside is = grind (arith, take_more stream i (h frame) inside, append_assoc (take i stream) (h frame ∷ []) rest)

count_more : {F : Type 0} (net : Net) (before : List (Net × F)) (e : Net × F)
    → length (carried net (before ++ e ∷ [])) ≡ length (carried net before) + length (carried net (e ∷ []))
count_more net [] e = omega arith
count_more net (x ∷ before) e = grind (arith, count_more net before e)

pub first_of_rest : {X : Type 0} (xs : List X) (i : ℕ) (y : X) (ys : List X) → y ∷ ys ≡ drop i xs → (i < length xs)
    × (y ≡ get_or xs i y) × (ys ≡ drop (suc i) xs)
first_of_rest xs i y ys e = grind (arith, drop_more xs i y, drop_all i xs)

-- the frame at a place, as a network has it
pub placed : (net : Net) (stream : List (List ℕ)) (i : ℕ) (frame : List ℕ) → All IsLong stream → IsNumbered number_in 0 stream
    → i < length (map (twin_of net) stream) → frame ≡ get_or (map (twin_of net) stream) i frame
    → IsPlaced number_in (twin_of A) (map (twin_of A) stream) i frame
placed net stream i frame long numbered inside is =
    let l = length-map stream (twin_of net) in
    let within : i < length stream = omega arith in
    grind (
      arith,
      length-map stream (twin_of A),
      get_or-map (twin_of net) stream i [] frame within,
      twin_number net (get_or stream i []) (long i [] within),
      numbered_at number_in 0 stream numbered i [] within,
      set-set (get_or stream i []) 11 (interface_byte net) (interface_byte A),
      get_or-map (twin_of A) stream i [] (twin_of A frame) within,
    )

-- One frame of a network, after `a` frames of that network and `b` of the other.
one_more : {F : Type 0} (number : F → ℕ) (h : F → F) (stream : List F) (tolerance : Tolerance) (lag : ℕ) (net : Net)
    (from to : Option ℕ → State) (frame : F) (es : List (Net × F)) (a b m next : ℕ)
    → 1 ≤ tolerance.check → 1 ≤ tolerance.window → lag + tolerance.window ≤ 255 → IsPlaced number h stream a frame
    → b ≤ a + lag → m ≡ max a b → next ≡ max (suc a) b
    → ((o : Option ℕ) → seen_on net (from o) ≡ last a) → ((o : Option ℕ) → (from o).accepted ≡ o)
    → ((o : Option ℕ) → with_seen net (sequence_number a) (from o) ≡ to o)
    → ((o : Option ℕ) → with_accepted (sequence_number a) (to o) ≡ to (last (suc a)))
    → take m stream ++ map h (received number tolerance (from (last m)) ((net, frame) ∷ es))
    ≡ take next stream ++ map h (received number tolerance (to (last next)) es)
one_more {F = F} number h stream tolerance lag net from to frame es a b m next
    check window near placed close m_is next_is seen took then_seen then_took = grind (arith, ahead_old, valid_next, last, grows)

-- the state after `a` frames of network A and `b` of B
abbrev state_at : ℕ → ℕ → State
state_at a b = record { seen_a = last a; seen_b = last b; accepted = last (max a b) }

module _ (lag : ℕ) (tolerance : Tolerance) (stream : List (List ℕ)) (arrivals : List (Net × List ℕ)) (fit : IsFitFor lag tolerance)
    (frames : IsStream stream) (near : IsNear lag arrivals) where
  abbrev all : List (List ℕ)
  all = map (twin_of A) stream

  -- a frame that comes is in its place and near to the other network, and the rest of its network's follows
  one_comes : (net : Net) (i j : ℕ) (es before : List (Net × List ℕ)) (frame : List ℕ)
      → arrivals ≡ before ++ (net, frame) ∷ es → i ≡ length (carried net before) → j ≡ length (carried (other net) before)
      → IsPrefixOf (frame ∷ carried net es) (drop i (map (twin_of net) stream))
      → IsPlaced number_in (twin_of A) (map (twin_of A) stream) i frame × (j ≤ i + lag)
      × IsPrefixOf (carried net es) (drop (suc i) (map (twin_of net) stream))
      × (arrivals ≡ (before ++ (net, frame) ∷ []) ++ es)
  one_comes net i j es before frame whole mine others p =
      grind (arith, first_of_rest, placed, append_assoc, frames.long, frames.numbered)

  -- what is accepted continues the stream
  comes : (rest before : List (Net × List ℕ)) (a b : ℕ) → arrivals ≡ before ++ rest
      → a ≡ length (carried A before) → b ≡ length (carried B before)
      → IsPrefixOf (carried A rest) (drop a (map (twin_of A) stream)) → IsPrefixOf (carried B rest) (drop b (map (twin_of B) stream))
      → take (max a b) all ++ map (twin_of A) (received number_in tolerance (state_at a b) rest)
      ≡ take (max (a + length (carried A rest)) (b + length (carried B rest))) all
  comes [] before a b whole na nb pa pb = grind (arith, append-nil)
  comes ((A, frame) ∷ es) before a b whole na nb pa pb =
      let one = one_comes A a b es before frame whole na nb pa in
      let ca = count_more A before (A, frame) in
      let cb = count_more B before (A, frame) in
      one_more number_in (twin_of A) all tolerance lag A (λ o. record { seen_a = last a; seen_b = last b; accepted = o })
      (λ o. record { seen_a = last (suc a); seen_b = last b; accepted = o }) frame es a b (max a b) (max (suc a) b)
      fit.checks fit.opens fit.apart one.0 one.1 refl refl (λ o. refl) (λ o. refl) (λ o. refl) (λ o. refl)
      ∙ comes es (before ++ (A, frame) ∷ []) (suc a) b one.3 (omega arith) (omega arith) one.2 pb
      ∙ ap (λ (k : ℕ). take k all) (omega arith)
  comes ((B, frame) ∷ es) before a b whole na nb pa pb =
      let one = one_comes B b a es before frame whole nb na pb in
      let ca = count_more A before (B, frame) in
      let cb = count_more B before (B, frame) in
      one_more number_in (twin_of A) all tolerance lag B (λ o. record { seen_a = last a; seen_b = last b; accepted = o })
      (λ o. record { seen_a = last a; seen_b = last (suc b); accepted = o }) frame es b a (max a b) (max a (suc b))
      fit.checks fit.opens fit.apart one.0 one.1 (omega arith) (omega arith) (λ o. refl) (λ o. refl) (λ o. refl) (λ o. refl)
      ∙ comes es (before ++ (B, frame) ∷ []) a (suc b) one.3 (omega arith) (omega arith) pa one.2
      ∙ ap (λ (k : ℕ). take k all) (omega arith)

pub exactly_once_holds : ExactlyOnce
exactly_once_holds lag tolerance stream arrivals fit frames carry =
    grind (arith, comes lag tolerance stream arrivals fit frames carry.near arrivals [] 0 0 refl refl refl carry.on_a carry.on_b)

-- The longer list is the stream sent to a network: what was transmitted arrives, also despite losses.
use Rattle.afdx_laws.proofs.Names.{◌≡◌, ℕ, suc, ◌≤◌, ◌<◌, inl, inr, List, [], ◌∷◌, ◌++◌, length, map, take, drop, refl, arith, All, cases_lt, append_assoc, map-append, take-append-drop, map-map, Net, A, B, twin_of, Sent, twin_twice, IsPrefixOf, carried, AreCarried, IsSent, IsLinkOf, IsSending, IsOfNet, IsHanded, AreHanded, AreCarriedOf, longer, HandedArrive, HandedDespiteLoss}
use Rattle.afdx_laws.proofs.ListLemmas.{cons_same}
use Rattle.afdx_laws.proofs.Arriving.{messages_arrive_holds, despite_loss_holds}

begins_twins : (net : Net) (n : ℕ) (xs front all : List (List ℕ)) → front ≡ map (twin_of net) (take n all)
    → IsPrefixOf xs front → IsPrefixOf xs (map (twin_of net) all)
begins_twins net n xs front all is p = (p.0 ++ map (twin_of net) (drop n all), grind (arith, append_assoc, p.1, is, map-append, take-append-drop n all))

pub own_twins : (net : Net) (xs : List (List ℕ)) → All (IsOfNet net) xs → map (twin_of net) xs ≡ xs
own_twins net [] all = refl
own_twins net (x ∷ xs) all = cons_same (all 0 x (omega arith)) (own_twins net xs (λ k d h. all (suc k) d (omega arith)))

pub twin_twin : (first second : Net) (xs : List (List ℕ)) → map (twin_of second) (map (twin_of first) xs) ≡ map (twin_of second) xs
twin_twin first second xs = grind (arith, map-map, twin_of, twin_twice)

pub longer_b : (a b : List (List ℕ)) → length a < length b → longer a b ≡ b
longer_b a b shorter = grind arith

pub longer_a : (a b : List (List ℕ)) → length b ≤ length a → longer a b ≡ a
longer_a a b as_long = grind arith

pub sending_to : {end_system room sub : ℕ} {accepted : List Sent} {net : Net} {handed : List (List ℕ)}
    → IsLinkOf end_system room → All (IsSent sub) accepted → IsHanded end_system room sub accepted net handed
    → IsSending end_system room sub accepted net handed
sending_to link sent own = grind arith

-- the longer list is sent to one network, and both carry it
pub record IsCarriedLonger (end_system room sub lag : ℕ) (accepted : List Sent) (a b : List (List ℕ)) : Type 0 where
  pub net : Net
  pub sending : IsSending end_system room sub accepted net (longer a b)
  pub carry : (arrivals : List (Net × List ℕ)) → AreCarriedOf lag a b arrivals → AreCarried lag (longer a b) arrivals

pub carried_longer : (end_system room sub lag : ℕ) (accepted : List Sent) (a b : List (List ℕ))
    → AreHanded end_system room sub accepted a b → IsCarriedLonger end_system room sub lag accepted a b
carried_longer end_system room sub lag accepted a b handed = elim (cases_lt (length a) (length b)) [
  | inl shorter ↦ record {
    net = B;
    sending = grind arith;
    carry = λ arrivals carry. rw (longer_b a b shorter) (record {
      on_a = begins_twins A (length a) (carried A arrivals) a b (grind arith) carry.on_a;
      on_b = grind (arith, own_twins);
      near = carry.near;
    });
  }
  | inr as_long ↦ record {
    net = A;
    sending = grind arith;
    carry = λ arrivals carry. rw (longer_a a b as_long) (grind (arith, own_twins A a handed.on_a.own, begins_twins B (length b) (carried B arrivals) b a (handed.twins.b_shorter as_long) carry.on_b));
  }
]

pub handed_arrive_holds : HandedArrive
handed_arrive_holds end_system room sub lag tolerance accepted a b arrivals handed fit carry =
    let longest = carried_longer end_system room sub lag accepted a b handed in
    messages_arrive_holds _ _ _ lag tolerance _ _ (longer a b) arrivals longest.sending fit (longest.carry arrivals carry)

pub handed_despite_loss_holds : HandedDespiteLoss
handed_despite_loss_holds end_system room sub check whole accepted a b came handed some close =
    let longest = carried_longer end_system room sub 0 accepted a b handed in
    despite_loss_holds end_system room sub check whole accepted longest.net (longer a b) came longest.sending some close

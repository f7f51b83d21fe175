-- The streams of a network are prefixes of the log's streams.
use Rattle.afdx_tx.proofs.Names.{ℕ, ◌≡◌, ◌≤◌, List, [], ◌∷◌, ◌++◌, Bool, true, false, length, map, nat_eq, arith, refl, ap, ◌∙◌, sym, inl, inr, All, both_ways, cases_Bool, eqb-true, false_from_ne_true, get_or_append_left, length-append, length-map, All-tail, All-map, All-filter, filter_passes, Networks, Net, link_in, twin_link, Entry, Logged, entries_of, names, only, side, sent_to, Lines, Keeps, entries_append, link_stream, with_append, with_map, filter, log}

-- The stream of a link, turned to a network.
pub link_side : (net : Net) (vl : ℕ) (H : List Entry)
    → link_stream vl (map (side net) H) ≡ map (side net) (link_stream vl H)
link_side net vl H = grind (arith, with_map, link_in, side, twin_link)

-- an entry that passes was logged for the network, or not
abbrev pub IsSent : (Entry → Bool) → Net → Bool → Logged → Type 0
IsSent p net sent l = p l.entry ≡ true → names net l.networks ≡ sent

-- The entries of a network that pass a test, if all of them were for it and the test doesn't depend
-- on the network.
pub picked : (net : Net) (p : Entry → Bool) → ((e : Entry) → p (side net e) ≡ p e) → (ls : List Logged)
    → All (IsSent p net true) ls → filter p (sent_to net ls) ≡ map (side net) (filter p (entries_of ls))
picked net p twin [] all = refl
picked net p twin (l ∷ ls) all =
    let rest = picked net p twin ls (All-tail (IsSent p net true) l ls all) in
    elim (cases_Bool (p l.entry)) [
      | inl is ↦ rw (all 0 l (omega arith) is, twin l.entry, is) (grind arith)
      | inr isnt ↦ grind (arith, cases_Bool)
    ]

-- No element passes.
filter_none : {X : Type 0} (p : X → Bool) (xs : List X) → All (λ x. p x ≡ true → ⊥) xs → filter p xs ≡ []
filter_none p [] none = refl
filter_none p (x ∷ xs) none =
    rw (false_from_ne_true (p x) (none 0 x (omega arith))) (filter_none p xs (All-tail (λ y. p y ≡ true → ⊥) x xs none))

-- The same, if none of them was for the network.
unpicked : (net : Net) (p : Entry → Bool) → ((e : Entry) → p (side net e) ≡ p e) → (ls : List Logged)
    → All (IsSent p net false) ls → filter p (sent_to net ls) ≡ []
unpicked net p twin ls all =
    let named = λ (l : Logged). names net l.networks in
    let Fails : Entry → Type 0 = λ e. p e ≡ true → ⊥ in
    filter_none p (sent_to net ls) (All-map Fails (side net) (entries_of (filter named ls))
    (All-map (λ e. Fails (side net e)) (λ (l : Logged). l.entry) (filter named ls) (λ k d lt on. both_ways _ (All-filter named (IsSent p net false) ls all k d lt (sym (twin _) ∙ on))
    (filter_passes named ls k d lt))))

-- an entry of the link is for these networks
abbrev pub IsFor : ℕ → Networks → Logged → Type 0
IsFor vl networks l = link_in l.entry.frame ≡ vl → l.networks ≡ networks

-- A property of two lists holds of the first.
pub all_front : {X : Type 0} (P : X → Type 0) (xs ys : List X) → All P (xs ++ ys) → All P xs
all_front P xs ys h = grind (arith, get_or_append_left, length-append)

-- A property of two lists holds of the second.
all_back : {X : Type 0} (P : X → Type 0) (xs ys : List X) → All P (xs ++ ys) → All P ys
all_back P [] ys h = h
all_back P (x ∷ xs) ys h = all_back P xs ys (All-tail P x (xs ++ ys) h)

-- the network's stream is a prefix of the whole one, turned to it
pub record IsFront (net : Net) (whole handed : List Entry) : Type 0 where
  pub front : List Entry
  pub behind : List Entry
  pub is : whole ≡ front ++ behind
  pub got : handed ≡ map (side net) front

-- The log is what the network saw and what it missed.
pub log_parts : (lines : Lines) (seen missed : List Logged) → lines.logged ≡ seen ++ missed
    → log lines ≡ entries_of seen ++ entries_of missed
unfolding log
log_parts lines seen missed whole = grind (arith, entries_of, entries_append)

module _ (net : Net) (stands : Bool) (handed : List Entry) (lines : Lines) (vl : ℕ) (networks : Networks)
    (k : Keeps net stands handed lines.logged) (own : All (IsFor vl networks) lines.logged) where
  -- An entry of the link that the network saw was logged for it if it carries the link.
  sent : (t : Bool) → names net networks ≡ t → All (IsSent (λ e. nat_eq (link_in e.frame) vl) net t) k.seen
  sent t is = λ j d lt on. ap (names net) (all_front (IsFor vl networks) k.seen k.missed (rw k.whole at own) j d lt (eqb-true _ _ on)) ∙ is

  -- The stream of a link that the network carries is what it saw.
  named_stream : names net networks ≡ true → link_stream vl handed ≡ map (side net) (link_stream vl (entries_of k.seen))
  named_stream is = grind (arith, link_stream, picked, nat_eq, twin_link, sent)

  -- The stream of a link that it doesn't carry is empty.
  pub unnamed_stream : names net networks ≡ false → link_stream vl handed ≡ []
  unnamed_stream isnt = grind (arith, unpicked, twin_link, sent)

  -- The link's stream is what the network saw and what it missed.
  parts : link_stream vl (log lines) ≡ link_stream vl (entries_of k.seen) ++ link_stream vl (entries_of k.missed)
  parts = ap (link_stream vl) (log_parts lines k.seen k.missed k.whole) ∙ with_append (λ (e : Entry). link_in e.frame) vl _ _

  pub front_of : IsFront net (link_stream vl (log lines)) (link_stream vl handed)
  front_of = grind (arith, parts, named_stream, unnamed_stream)

  -- A network that carries the link and missed nothing of it has the whole stream.
  pub all_handed : names net networks ≡ true → link_stream vl (entries_of k.missed) ≡ []
      → length (link_stream vl (log lines)) ≤ length (link_stream vl handed)
  all_handed is none = grind (arith, named_stream, length-map, parts, length-append)

  -- A network that alone carries the link missed nothing of it.
  pub whole_alone : networks ≡ only net → link_stream vl (entries_of k.missed) ≡ []
  whole_alone is = filter_none _ (entries_of k.missed) (All-map (λ e. nat_eq (link_in e.frame) vl ≡ true → ⊥) (λ (l : Logged). l.entry) k.missed
      (λ j d lt on. k.shared j d lt (all_back (IsFor vl networks) k.seen k.missed (rw k.whole at own) j d lt (eqb-true _ _ on) ∙ is)))

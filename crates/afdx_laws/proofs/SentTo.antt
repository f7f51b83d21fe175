-- Nothing missed: findings only grow, so where none is found in the end, no packet has one, each line is clear, and what was
-- recorded of each network was sent legally.
use Rattle.afdx_laws.proofs.JudgeNames.{AreUnchecked, has_check, nat_eq, layout_broken, layout_is_profile, Admitted, All, AllZip, AllZip-long, IsExplained, IsReleased, delay_after, if◌then◌else◌, ◌*◌, All-cons, All-nil, All-tail, AreKnown, Bool, Entry, Finding, IsAllowed, IsKnown, IsPlan, Judging, Link, LinkPlan, List, Nearness, Net, None, Ok, OnNet, Option, Options, Plan, PortPlan, Recorded, Refused, Result, Sent, Setting, Some, Tag, Times, admitted, after_packet, ap, append-nil, arith, arrived, blanked, cases_Bool, cases_eq, cases_lt, eq-eqb, false, filter, findings, found_at_end, found_from, found_left, found_missing, found_of_arrival, found_on_link, found_timed, found_with_end, found_with_packet, fragments, frame_in, get_or, inl, inr, length, length-filter_both, length-map, length-replicate, length-set, line_on, link_at, link_in, link_plan_at, link_stream, map, map-map, names, nat_tests, ne_eqb, new_line, new_link, new_sub, nil_begins, no_times, not, place_of, placed, refl, room_of, same_net, size_deviation, sub_in, sub_stream, subst, suc, sym, tag_of, those_with, times_with, told, true, unchecked, verdict, with_map, with_verdict, zero, ℕ, [], ◌+◌, ◌-◌, ◌<◌, ◌^◌, ◌∙◌, ◌∷◌, ◌≡◌, ◌≤◌, packets_of, time_of, EndsWhole, IsOctets, IsSentTo, IsStrict, NothingMissed, entry_of, frames_of, sent_to}
use Rattle.afdx_laws.proofs.Begin.{line_is_new, links_at_start, new_is, own_options}
use Rattle.afdx_laws.proofs.Line.{IsFaultless, faultless, line_then, measure_at, of_profile}
use Rattle.afdx_laws.proofs.Message.{port_at}
use Rattle.afdx_laws.proofs.Quiet.{IsAdmitted, first_of_sub, placed_says}
use Rattle.afdx_laws.proofs.ReadFrames.{back_none, with_other, with_own}
use Rattle.afdx_laws.proofs.Recording.{after_is, found_is, id_of, judge_of, line_given_up, new_links, own_line, packets_next, same_line, setting_at, vl_of}
use Rattle.afdx_laws.proofs.Silent.{AreClear, AreHeard, IsSubSilent, ends_silent, heard, silent_is_sent, delay_within, sub_frames, sub_silent}
use Rattle.afdx_laws.proofs.Whole.{time_is}

-- ---- a link

-- nothing is wrong with a frame on its link
pub record IsLinkSilent (setting : Setting) (tag : Tag) (port : Option PortPlan) (frame : List ℕ) (link : Link) (found : List Finding) : Type 0 where
  pub sized : size_deviation setting.plan (length frame) ≡ None
  pub wrong : verdict setting.measure port (arrived setting.measure tag port frame (line_on tag.net link)) (line_on tag.net link) ≡ faultless
  pub none : found ≡ []

pub link_none : (setting : Setting) (tag : Tag) (port : Option PortPlan) (frame : List ℕ) (link : Link) (found : List Finding)
    → found_on_link setting tag port frame link found ≡ [] → IsLinkSilent setting tag port frame link found
unfolding found_on_link with_verdict found_missing
link_none setting tag port frame link found none = grind (arith, nat_tests, back_none, line_given_up, nil_begins, cases_Bool)

-- ---- packets

timed_none : (net : Net) (number : ℕ) (packet : Recorded) (j : Judging) (found : List Finding) (at : Option ℕ)
    → found_timed net number packet j found at ≡ [] → found ≡ []
unfolding found_of_arrival
timed_none net number packet j found at none = grind (arith, nat_tests, nil_begins, admitted, link_none, cases_Bool)

pub end_none : (nearness : Nearness) (plans : List LinkPlan) (links : List Link) (found : List Finding)
    → found_left nearness plans links found ≡ [] → found ≡ []
unfolding found_at_end
end_none nearness [] links found none = none
end_none nearness (plan ∷ plans) [] found none = none
end_none nearness (plan ∷ plans) (link ∷ links) found none = nil_begins found _ (end_none nearness plans links _ none)

pub grows : (ps : List OnNet) (j : Judging) (found : List Finding) → found_from ps j found ≡ [] → found ≡ []
unfolding found_with_end found_with_packet
grows [] j found none = end_none _ j.plan.links j.links found none
grows (p ∷ ps) j found none = timed_none p.net p.number p.packet j found p.packet.at
    (grows ps (after_packet p.net p.number p.packet j) (found_with_packet p.net p.number p.packet j found) none)

-- ---- a packet

-- its frame is the packet whole, and of the layout
frame_says : (options : Options) (packet : Recorded) (frame : List ℕ) → has_check options packet ≡ false → frame_in (of_profile options) packet ≡ Ok frame
    → (frame ≡ packet.bytes) × (layout_broken false packet.bytes ≡ None)
unfolding frame_in unchecked
frame_says options packet frame plain is = grind (arith, nat_tests, cases_Bool)

-- a packet in which nothing is found
pub record IsPacketSilent (plan : Plan) (options : Options) (times : Times) (links : List Link) (net : Net) (number : ℕ) (packet : Recorded) : Type 0 where
  pub at : ℕ
  pub timed : packet.at ≡ Some at
  pub k : ℕ
  pub whole : frame_in (of_profile options) packet ≡ Ok packet.bytes
  pub placed : place_of plan net packet.bytes ≡ Ok k
  pub admitted : IsAdmitted plan k net packet.bytes
  pub wrong : IsFaultless plan k options (tag_of net number at) packet.bytes (line_on net (link_at links k))

-- a packet without a finding has a time, and is admitted
seen : (plan : Plan) (options : Options) (times : Times) (links : List Link) (net : Net) (number : ℕ) (packet : Recorded) (time : Option ℕ)
    → found_timed net number packet (judge_of plan options times false links) [] time ≡ [] → (at : ℕ) × (time ≡ Some at) × (it : Admitted)
    × (admitted net packet (judge_of plan options (times_with net at times) false links) ≡ Ok it)
seen plan options times links net number packet time none = grind (arith, nat_tests)

admitted_says : (plan : Plan) (net : Net) (frame : Result (List ℕ) Refused) (it : Admitted) → placed plan net frame ≡ Ok it
    → (frame ≡ Ok it.frame) × (place_of plan net it.frame ≡ Ok it.place)
admitted_says plan net frame it is = grind (arith, nat_tests)

pub packet_silent : (plan : Plan) (options : Options) (times : Times) (links : List Link) (net : Net) (number : ℕ) (packet : Recorded)
    → has_check options packet ≡ false → found_with_packet net number packet (judge_of plan options times false links) [] ≡ []
    → IsPacketSilent plan options times links net number packet
unfolding found_with_packet admitted
packet_silent plan options times links net number packet plain none =
    let it = seen plan options times links net number packet packet.at none in
    let at : ℕ = it.0 in
    let k : ℕ = it.2.place in
    let is = admitted_says plan net (frame_in (of_profile options) packet) it.2 it.3 in
    let says = frame_says options packet it.2.frame plain is.0 in
    let profile = (layout_is_profile packet.bytes).0 says.1 in
    let whole : frame_in (of_profile options) packet ≡ Ok packet.bytes = rw says.0 at is.0 in
    let placed : place_of plan net packet.bytes ≡ Ok k = rw says.0 at is.1 in
    let silent = link_none (setting_at plan options net at times k) (tag_of net number at) (port_at plan k packet.bytes) packet.bytes (link_at links k) []
    (sym (found_is plan options times false links net number at packet packet.bytes k it.1 whole placed []) ∙ none) in
    record {
      at = at;
      timed = it.1;
      k = k;
      whole = whole;
      placed = placed;
      admitted = record { profile = profile; placed = placed_says plan net packet.bytes k placed profile; sized = silent.sized };
      wrong = silent.wrong;
    }

same_is : (m n : Net) → same_net m n ≡ true → m ≡ n
same_is m n is = grind (arith, nat_tests)

-- the packets of a network with one more first, if it is of the network
abbrev pub list_with : Net → Recorded → (Net → List Recorded) → Net → List Recorded
list_with net r list m = if same_net net m then r ∷ list m else list m

-- a packet with its release time, on a clock that is the jitter ahead, in place of its time
pub record IsLetGo (jitter : ℕ) (r packet : Recorded) : Type 0 where
  pub bytes : r.bytes ≡ packet.bytes
  pub least : time_of packet ≤ time_of r
  pub most : time_of r ≤ time_of packet + 1000 * jitter

-- a link's packets
abbrev pub own_packets : Plan → ℕ → List Recorded → List Recorded
own_packets plan k rs = those_with (λ (r : Recorded). link_in r.bytes) (id_of plan k) rs

module _ (plan : Plan) (options : Options) (times : Times) (links : List Link) (net : Net) (number : ℕ) (packet : Recorded)
    (valid : IsPlan plan) (size : length links ≡ length plan.links) (octets : IsOctets packet)
    (p : IsPacketSilent plan options times links net number packet) where
  abbrev pub links_now : List Link
  links_now = new_links plan options times links p.k (tag_of net number p.at) packet.bytes

  -- its release time, on a clock that is the jitter ahead, in place of its time
  abbrev pub let_go : Recorded
  let_go = record packet {
    at = Some (p.at + 1000 * options.jitter
        - delay_after (measure_at plan p.k options) p.at (line_on net (link_at links p.k)).last);
  }

  pub let_go_is : IsLetGo options.jitter let_go packet
  let_go_is =
      let time : time_of packet ≡ p.at = time_is packet p.at p.timed in
      let few = delay_within (measure_at plan p.k options) p.at (line_on net (link_at links p.k)).last in
      record { bytes = refl; least = omega arith; most = omega arith }

  inside : p.k < length links
  inside = rw size p.admitted.placed.within

  line_is : line_on net (link_at links_now p.k) ≡ line_then plan p.k options (tag_of net 0 p.at) packet.bytes (line_on net (link_at links p.k))
  line_is = own_line plan options times links p.k (tag_of net number p.at) packet.bytes inside

  -- the packet is on its link's line
  clear_own : (rs : List Recorded) → AreClear plan p.k options net (line_on net (link_at links_now p.k)) rs
      → AreClear plan p.k options net (line_on net (link_at links p.k)) (let_go ∷ rs)
  clear_own rs later = (
    record {
      octets = record { octets = octets.octets; sum = octets.sum };
      admitted = p.admitted;
      at = p.at;
      wrong = p.wrong;
      released = refl;
    },
    subst (λ l. AreClear plan p.k options net l rs) line_is later,
  )

  -- or on another
  line_same : (k : ℕ) (m : Net) → (k ≡ p.k → same_net net m ≡ false) → line_on m (link_at links_now k) ≡ line_on m (link_at links k)
  line_same k m apart = same_line plan options times links p.k (tag_of net number p.at) packet.bytes k m inside apart

  clear_here : (list : Net → List Recorded) (k : ℕ) → k < length plan.links
      → AreClear plan k options net (line_on net (link_at links_now k)) (own_packets plan k (list net))
      → AreClear plan k options net (line_on net (link_at links k)) (own_packets plan k (let_go ∷ list net))
  clear_here list k within later = elim (cases_eq k p.k) [
    | inl same ↦ subst (λ j. AreClear plan j options net (line_on net (link_at links j)) (own_packets plan j (let_go ∷ list net))) (sym same)
        (subst (λ rs. AreClear plan p.k options net (line_on net (link_at links p.k)) rs)
        (sym (with_own (λ (r : Recorded). link_in r.bytes) (id_of plan p.k) let_go (list net) p.admitted.placed.link))
        (clear_own (own_packets plan p.k (list net))
        (subst (λ j. AreClear plan j options net (line_on net (link_at links_now j)) (own_packets plan j (list net))) same later)))
    | inr other ↦ subst (λ rs. AreClear plan k options net (line_on net (link_at links k)) rs)
        (sym (with_other (λ (r : Recorded). link_in r.bytes) (id_of plan k) let_go (list net) (λ its.
        other (valid.links_apart k p.k within p.admitted.placed.within (ap vl_of (sym its ∙ p.admitted.placed.link))))))
        (subst (λ l. AreClear plan k options net l (own_packets plan k (list net))) (line_same k net (λ same. absurd (other same))) later)
  ]

  pub clear_next : (list : Net → List Recorded) (k : ℕ) (m : Net) → k < length plan.links
      → ((n : Net) → AreClear plan k options n (line_on n (link_at links_now k)) (own_packets plan k (list n)))
      → AreClear plan k options m (line_on m (link_at links k)) (own_packets plan k (list_with net let_go list m))
  clear_next list k m within later = elim (cases_Bool (same_net net m)) [
    | inl own ↦ rw own (subst (λ n. AreClear plan k options n (line_on n (link_at links k)) (own_packets plan k (let_go ∷ list n)))
        (same_is net m own) (clear_here list k within (later net)))
    | inr apart ↦ rw apart (subst (λ l. AreClear plan k options m l (own_packets plan k (list m))) (line_same k m (λ same. apart)) (later m))
  ]

-- ---- a recording

pub next_none : (ps : List OnNet) (j next : Judging) (found : List Finding) → j ≡ next → found ≡ [] → found_from ps j found ≡ []
    → found_from ps next [] ≡ []
next_none ps j next found same first none = grind (arith)

-- each packet of a network is a frame of a link
pub record IsPlacedAt (plan : Plan) (net : Net) (r : Recorded) : Type 0 where
  pub k : ℕ
  pub is : IsAdmitted plan k net r.bytes

pub record AreSilent (plan : Plan) (options : Options) (links : List Link) (ps : List OnNet) : Type 0 where
  pub list : Net → List Recorded
  pub released : (net : Net) → AllZip (IsLetGo options.jitter) (list net) (packets_of net ps)
  pub clear : (k : ℕ) (net : Net) → k < length plan.links
      → AreClear plan k options net (line_on net (link_at links k)) (own_packets plan k (list net))
  pub placed : (net : Net) → All (IsPlacedAt plan net) (list net)

pub are_silent : (plan : Plan) (options : Options) (times : Times) (links : List Link) (ps : List OnNet) → IsPlan plan → AreUnchecked options ps
    → length links ≡ length plan.links → All (λ (p : OnNet). IsOctets p.packet) ps
    → found_from ps (judge_of plan options times false links) [] ≡ [] → AreSilent plan options links ps
are_silent plan options times links [] valid plain size octets none = record {
  list = λ net. [];
  released = λ net. tt;
  clear = λ k net inside. tt;
  placed = λ net. All-nil (IsPlacedAt plan net);
}
are_silent plan options times links (p ∷ ps) valid plain size octets none =
    let j : Judging = judge_of plan options times false links in
    let first = grows ps (after_packet p.net p.number p.packet j) (found_with_packet p.net p.number p.packet j []) none in
    let q = packet_silent plan options times links p.net p.number p.packet (plain 0 p (omega arith)) first in
    let its : IsOctets p.packet = octets 0 p (omega arith) in
    let now : List Link = links_now plan options times links p.net p.number p.packet valid size its q in
    let r : Recorded = let_go plan options times links p.net p.number p.packet valid size its q in
    let after = after_is plan options times false links p.net p.number q.at p.packet p.packet.bytes q.k q.timed q.whole q.placed in
    let later = are_silent plan options (times_with p.net q.at times) now ps valid (All-tail (λ (p : OnNet). has_check options p.packet ≡ false) p ps plain) (length-set links q.k _ ∙ size)
    (All-tail (λ (p : OnNet). IsOctets p.packet) p ps octets) (next_none ps _ _ _ after first none) in
    record {
      list = list_with p.net r later.list;
      released = λ net. rw (packets_next net p ps) (elim (cases_Bool (same_net p.net net)) [
        | inl own ↦ rw own (let_go_is plan options times links p.net p.number p.packet valid size its q, later.released net)
        | inr apart ↦ rw apart (later.released net)
      ]);
      clear = λ k net inside. clear_next plan options times links p.net p.number p.packet valid size its q later.list k net inside
          (λ m. later.clear k m inside);
      placed = λ net. elim (cases_Bool (same_net p.net net)) [
        | inl own ↦ rw own (All-cons (IsPlacedAt plan net) r (later.list net) (record {
          k = q.k;
          is = subst (λ m. IsAdmitted plan q.k m p.packet.bytes) (same_is p.net net own) q.admitted;
        }) (later.placed net))
        | inr apart ↦ rw apart (later.placed net)
      ];
    }

-- ---- streams of a recording

stream_is : (plan : Plan) (k : ℕ) (rs : List Recorded) → link_stream (id_of plan k) (map entry_of rs) ≡ map entry_of (own_packets plan k rs)
stream_is plan k rs = with_map (λ (r : Recorded). link_in r.bytes) (λ (e : Entry). link_in e.frame) entry_of (id_of plan k) (λ r. refl) rs

frames_are : (s : ℕ) (rs : List Recorded) → map (λ (e : Entry). e.frame) (sub_stream s (map entry_of rs)) ≡ sub_frames s rs
frames_are s rs = ap (map (λ (e : Entry). e.frame))
    (with_map (λ (r : Recorded). sub_in r.bytes) (λ (e : Entry). sub_in e.frame) entry_of s (λ r. refl) rs)
    ∙ map-map (λ (e : Entry). e.frame) entry_of (those_with (λ (r : Recorded). sub_in r.bytes) s rs)

told_are : (s : ℕ) (rs : List Recorded) → told (sub_stream s (map entry_of rs)) ≡ map blanked (sub_frames s rs)
told_are s rs = grind (arith, map-map blanked (λ (e : Entry). e.frame) (sub_stream s (map entry_of rs)), frames_are)

-- packets with other times have the same frames
frames_same : (vl s jitter : ℕ) (rs ps : List Recorded) → AllZip (IsLetGo jitter) rs ps
    → frames_of vl s (map entry_of ps) ≡ frames_of vl s (map entry_of rs)
frames_same vl s jitter [] [] zip = refl
frames_same vl s jitter [] (p ∷ ps) zip = absurd zip
frames_same vl s jitter (r ∷ rs) [] zip = absurd zip
frames_same vl s jitter (r ∷ rs) (p ∷ ps) zip =
    let later = frames_same vl s jitter rs ps zip.1 in
    rw zip.0.bytes (elim (cases_Bool (nat_eq (link_in p.bytes) vl)) [
      | inl its ↦ rw its (elim (cases_Bool (nat_eq (sub_in p.bytes) s)) [
        | inl own ↦ rw own (ap (λ (fs : List (List ℕ)). p.bytes ∷ fs) later)
        | inr other ↦ rw other later
      ])
      | inr other ↦ rw other later
    ])

entries_released : (jitter : ℕ) (rs ps : List Recorded) → AllZip (IsLetGo jitter) rs ps → AllZip (IsReleased jitter) (map entry_of rs) ps
entries_released jitter [] [] zip = tt
entries_released jitter [] (p ∷ ps) zip = absurd zip
entries_released jitter (r ∷ rs) [] zip = absurd zip
entries_released jitter (r ∷ rs) (p ∷ ps) zip =
    (record { frame = zip.0.bytes; least = omega arith; most = omega arith }, entries_released jitter rs ps zip.1)

-- an element that passes both tests shows that some do
later_none : {X : Type 0} (f g : X → ℕ) (m n : ℕ) (x : X) (xs : List X) → those_with f m (those_with g n (x ∷ xs)) ≡ []
    → those_with f m (those_with g n xs) ≡ []
later_none f g m n x xs none = grind (arith, cases_Bool)

some_pass : {X : Type 0} (f g : X → ℕ) (m n : ℕ) (xs : List X) (i : ℕ) (d : X) → i < length xs → f (get_or xs i d) ≡ m → g (get_or xs i d) ≡ n
    → those_with f m (those_with g n xs) ≡ [] → ⊥
some_pass f g m n [] i d inside first second none = absurd (omega arith)
some_pass f g m n (x ∷ xs) zero d inside first second none =
    absurd (cc (rw (eq-eqb (f x) m first) at (rw (eq-eqb (g x) n second) at none)))
some_pass f g m n (x ∷ xs) (suc i) d inside first second none =
    some_pass f g m n xs i d (omega arith) first second (later_none f g m n x xs none)

none_pass : {X : Type 0} (f : X → ℕ) (n : ℕ) (xs : List X) → ((i : ℕ) (d : X) → i < length xs → f (get_or xs i d) ≡ n → ⊥)
    → those_with f n xs ≡ []
none_pass f n [] none = refl
none_pass f n (x ∷ xs) none = rw (ne_eqb (f x) n (none 0 x (omega arith))) (none_pass f n xs (λ i d inside. none (suc i) d (omega arith)))

filter_short : {X : Type 0} (p : X → Bool) (xs : List X) → length (filter p xs) ≤ length xs
filter_short p xs = omega (arith, length-filter_both p (λ x. not (p x)) (λ x. refl) xs)

map_none : {X Y : Type 0} (f : X → Y) (xs : List X) → map f xs ≡ [] → xs ≡ []
map_none f [] none = refl
map_none f (x ∷ xs) none = absurd (cc (none))

module _ (plan : Plan) (options : Options) (recording : List OnNet) (net : Net) (strict : IsStrict plan options recording)
    (none : findings plan options recording ≡ []) where
  pub silent : AreSilent plan options (links_at_start plan options) recording
  silent = are_silent plan options no_times (links_at_start plan options) recording strict.valid strict.fcs
      (length-replicate (length plan.links) (new_link options.late false)) strict.octets
      (subst (λ o. findings plan o recording ≡ []) (own_options options strict.profile) none)

  abbrev pub rs : List Recorded
  rs = silent.list net

  abbrev pub own : ℕ → List Recorded
  own k = own_packets plan k rs

  clear : (k : ℕ) → k < length plan.links → AreClear plan k options net (new_line false false) (own k)
  clear k inside = subst (λ l. AreClear plan k options net l (own k))
      (line_is_new plan options k net inside ∙ ap (λ (late : Bool). new_line late false) strict.early) (silent.clear k net inside)

  few : (k : ℕ) → 0 + length (own k) ≤ 2 ^ 64 - 1
  few k = grind (arith, filter_short, length-map, AllZip-long (IsLetGo options.jitter) rs (packets_of net recording) (silent.released net))

  line_heard : (k : ℕ) → k < length plan.links → AreHeard plan k 0 None (new_line false false).subs (map entry_of (own k))
  line_heard k inside = heard plan k options net (new_line false false) (own k) 0 None strict.early
      (record { last = λ early. (refl, refl); frames = refl; size = refl; came = λ p. omega (arith, (new_is false p).1) }) (few k) (clear k inside)

  sub_heard : (k s : ℕ) → k < length plan.links → s < 4 → IsSubSilent plan k s net (new_sub false false s).joining (sub_frames s (own k))
  sub_heard k s inside four = subst (λ j. IsSubSilent plan k s net j (sub_frames s (own k))) ((new_is false s).2 four)
      (sub_silent plan k s options net (new_line false false) (own k) four refl (clear k inside))

  sent_frames : (k s : ℕ) → frames_of (id_of plan k) s (sent_to net recording) ≡ sub_frames s (own k)
  sent_frames k s = frames_same (id_of plan k) s options.jitter rs (packets_of net recording) (silent.released net)
      ∙ ap (λ (es : List Entry). map (λ (e : Entry). e.frame) (sub_stream s es)) (stream_is plan k rs) ∙ frames_are s (own k)

  -- these accepted messages give what is recorded of a sub-VL
  abbrev IsOf : ℕ → ℕ → List Sent → Type 0
  IsOf k s accepted = All (IsAllowed plan k s) accepted
      × (map blanked (sub_frames s (own k)) ≡ fragments plan.end_system (room_of (link_plan_at plan.links k).lmax) net accepted)

  sub_sent : (k s : ℕ) → k < length plan.links → s < (link_plan_at plan.links k).sub_vls → (accepted : List Sent) × IsOf k s accepted
  sub_sent k s inside index =
      let silent = sub_heard k s inside (grind (arith, strict.valid.each_link k (link_plan_at [] 0) inside)) in
      let sent = silent_is_sent plan k s net (sub_frames s (own k)) silent.last strict.valid inside index silent.silent
      (ends_silent plan k s net (new_sub false false s).joining (sub_frames s (own k)) silent.last silent.silent (λ none. refl)
      (subst EndsWhole (sent_frames k s) (strict.whole net (id_of plan k) s))) in
      (sent.0, (sent.1, sent.2))

  -- ---- legal transmission

  -- a packet is of a sub-VL of its link, since the first one of its sub-VL is
  sub_first : (k s : ℕ) (frames : List (List ℕ)) → IsSubSilent plan k s net (new_sub false false s).joining frames → (frames ≡ [] → ⊥)
      → s < (link_plan_at plan.links k).sub_vls
  sub_first k s [] silent some = absurd (some refl)
  sub_first k s (f ∷ fs) silent some = first_of_sub plan k s net f strict.valid silent.silent.0

  known : (i : ℕ) (spare : Recorded) → i < length rs → IsKnown plan.links net (get_or rs i spare).bytes
  known i spare within =
      let r : Recorded = get_or rs i spare in
      let p = silent.placed net i spare within in
      let placed = p.is.placed in
      record {
        size = p.is.profile.size.0;
        k = p.k;
        within = placed.within;
        link = placed.link;
        of_sub = sub_first p.k (sub_in r.bytes) (sub_frames (sub_in r.bytes) (own p.k)) (sub_heard p.k (sub_in r.bytes) placed.within (omega arith))
            (λ nothing. some_pass (λ (r : Recorded). sub_in r.bytes) (λ (r : Recorded). link_in r.bytes) (sub_in r.bytes) (id_of plan p.k) rs i spare within
            refl placed.link (map_none (λ (r : Recorded). r.bytes) _ nothing));
        interface = placed.interface;
      }

  all_known : (qs : List Recorded) → All (λ (r : Recorded). IsKnown plan.links net r.bytes) qs → AreKnown plan.links net (map entry_of qs)
  all_known [] all = tt
  all_known (q ∷ qs) all = (all 0 q (omega arith), all_known qs (All-tail (λ (r : Recorded). IsKnown plan.links net r.bytes) q qs all))

  carried : (k : ℕ) → k < length plan.links → names net (link_plan_at plan.links k).networks ≡ false → own k ≡ []
  carried k inside isnt = none_pass (λ (r : Recorded). link_in r.bytes) (id_of plan k) rs (λ i spare within its.
      let p = silent.placed net i spare within in
      let placed = p.is.placed in
      let same : p.k ≡ k = strict.valid.links_apart p.k k placed.within inside (ap vl_of (sym placed.link ∙ its)) in
      absurd (cc (isnt, subst (λ j. names net (link_plan_at plan.links j).networks ≡ true) same placed.on)))

  -- ---- the accepted lists

  every : (k s : ℕ) → (accepted : List Sent) × (k < length plan.links → s < (link_plan_at plan.links k).sub_vls → IsOf k s accepted)
  every k s = elim (cases_lt k (length plan.links)) [
    | inr past ↦ ([], λ inside index. absurd (omega arith))
    | inl inside ↦ elim (cases_lt s (link_plan_at plan.links k).sub_vls) [
      | inr past ↦ ([], λ inside index. absurd (omega arith))
      | inl index ↦ ((sub_sent k s inside index).0, λ inside' index'. (sub_sent k s inside index).1)
    ]
  ]

  is_sent_to : IsSentTo plan net (map entry_of rs)
  is_sent_to = record {
    accepted = λ k s. (every k s).0;
    allowed = λ k s inside index. ((every k s).1 inside index).0;
    legal = record {
      known = all_known rs known;
      carried = λ k inside isnt. stream_is plan k rs ∙ ap (map entry_of) (carried k inside isnt);
      prefixes = λ k s inside index. (
        [],
        append-nil _ ∙ ap (λ es. told (sub_stream s es)) (stream_is plan k rs) ∙ told_are s (own k)
            ∙ ((every k s).1 inside index).1,
      );
      numbered = λ k inside. rw (stream_is plan k rs) (line_heard k inside).numbered;
      spaced = λ k inside. rw (stream_is plan k rs) (line_heard k inside).spaced;
    };
    turns = λ k inside. rw (stream_is plan k rs) (line_heard k inside).turns;
  }

  pub is_explained : IsExplained plan options net (packets_of net recording)
  is_explained = record {
    handed = map entry_of rs;
    released = entries_released options.jitter rs (packets_of net recording) (silent.released net);
    sent = is_sent_to;
  }

pub nothing_missed_holds : NothingMissed
nothing_missed_holds plan options recording strict none net = is_explained plan options recording net strict none

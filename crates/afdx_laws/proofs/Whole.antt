-- A judge over a whole recording, in the order of time: nothing is found.
use Rattle.afdx_laws.proofs.JudgeNames.{get_or, None, AllZip-long, A, Accepted, All, All-cons, All-filter, All-from_get_or, All-map, All-nil, All-tail, All-weaker, AllZip, B, Bool, Entry, Finding, IsPlan, Link, LinkPlan, List, Nearness, Net, OnNet, Option, Options, Pairing, Plan, Recorded, Setting, Some, Tag, Times, Wait, ap, append-nil, arith, bag_micros, cases_Bool, false, filter, findings, found_at_end, found_from, found_given_up, found_left, found_missing, found_with_end, inl, inr, is_both, le_refl, length, link_at, link_in, link_plan_at, link_stream, map, nat_eq, new_link, no_times, number_in, on_both, refl, same_net, side, stream_side, subst, sym, tag_of, take_all, times_with, true, unwrap_or, ℕ, [], ◌*◌, ◌++◌, ◌+◌, ◌<◌, ◌∙◌, ◌∷◌, ◌≡◌, ◌≤◌, AreFit, IsRecord, IsSent, lag_of, packets_of, IsInOrder, NothingFound, time_of}
use Rattle.afdx_laws.proofs.Begin.{IsOwn, both_copies, copies_begin, going_begins, handed_to, link_is_new, links_at_start, own_options, owns, stream_on_both}
use Rattle.afdx_laws.proofs.Copies.{AreCopied, IsStream, copies_go_on}
use Rattle.afdx_laws.proofs.Leading.{AllStay, AreOpen, ArePast, IsLedBy, IsWaitFor, LeadsOn, leads_on, other, past_later, rest_both, stay_kept}
use Rattle.afdx_laws.proofs.ReadFrames.{zip_at}
use Rattle.afdx_laws.proofs.Recording.{AreRecorded, AreTwins, IsGoing, IsPacketTaken, IsRecorded, id_of, judge_of, nearness_at, packet_taken, recorded_after, recorded_next, rest_after, rest_of, setting_at, stream_next, twins_go_on}

-- one network of a link on both leads, and no frame of a link on one network waits
pub record IsLed (gap : ℕ) (origin : Net → ℕ) (jitter latest : ℕ) (rest : Net → List Entry) (waiting : List Wait) : Type 0 where
  pub stream : List Entry
  pub is_stream : IsStream gap stream
  pub lead : Net
  pub leading : IsLedBy stream origin jitter rest waiting lead
  pub past : ArePast latest waiting

pub record IsPaired (plan : Plan) (origin : Net → ℕ) (options : Options) (latest k : ℕ) (rest : Net → List Entry) (p : Pairing) : Type 0 where
  pub both : is_both (link_plan_at plan.links k).networks ≡ true
      → IsLed (bag_micros (link_plan_at plan.links k).bag) origin options.jitter latest rest p.waiting
  pub alone : is_both (link_plan_at plan.links k).networks ≡ false → p.waiting ≡ []

-- ---- no entry that is to come is past

pub time_is : (packet : Recorded) (at : ℕ) → packet.at ≡ Some at → time_of packet ≡ at
time_is packet at told = ap (λ (time : Option ℕ). unwrap_or time 0) told

pub in_order_all : (latest : ℕ) (ps : List OnNet) → IsInOrder latest ps → All (λ (p : OnNet). latest ≤ time_of p.packet) ps
in_order_all latest [] order = All-nil (λ (p : OnNet). latest ≤ time_of p.packet)
in_order_all latest (p ∷ ps) order = All-cons (λ (q : OnNet). latest ≤ time_of q.packet) p ps order.0
    (All-weaker (λ (q : OnNet). time_of p.packet ≤ time_of q.packet) (λ (q : OnNet). latest ≤ time_of q.packet) (λ q up. omega (arith, order.0)) ps
    (in_order_all (time_of p.packet) ps order.1))

open_zip : (origin latest : ℕ) (options : Options) (es : List Entry) (rs : List Recorded) → All (λ (r : Recorded). latest ≤ time_of r) rs
    → AllZip (IsRecord origin options) es rs → AreOpen origin options.jitter latest es
open_zip origin latest options es rs times zip = λ i spare inside.
    let spare' : Recorded = record { interface = 0; network = None; at = None; original = 0; bytes = []; fcs = None } in
    let both = AllZip-long (IsRecord origin options) es rs zip in
    let of = zip_at (IsRecord origin options) es rs i spare spare' zip (omega arith) in
    omega (arith, times i spare' (omega arith), time_is (get_or rs i spare') of.at of.told, of.most)

open_records : (origin latest : ℕ) (options : Options) (net : Net) (ps : List OnNet) (es : List Entry) → IsInOrder latest ps
    → AllZip (IsRecord origin options) es (packets_of net ps) → AreOpen origin options.jitter latest es
open_records origin latest options net ps es order zip = open_zip origin latest options es (packets_of net ps)
    (All-map (λ (r : Recorded). latest ≤ time_of r) (λ (p : OnNet). p.packet) (filter (λ (p : OnNet). same_net p.net net) ps)
    (All-filter (λ (p : OnNet). same_net p.net net) (λ (p : OnNet). latest ≤ time_of p.packet) ps (in_order_all latest ps order))) zip

-- ---- a frame

-- nothing is given up
none_given_up : (setting : Setting) (tag : Tag) (number : ℕ) (link : Link) (found : List Finding)
    → (is_both setting.plan.networks ≡ true → AllStay setting.nearness tag number link.twins.waiting)
    → found_given_up setting tag number link found ≡ found
unfolding found_missing
none_given_up setting tag number link found stay = grind (arith, cases_Bool, stay_kept, append-nil)

-- a packet, no frame before which is still to come
module _ (plan : Plan) (origin : Net → ℕ) (options : Options) (times : Times) (told : Bool) (links : List Link) (net : Net) (number : ℕ)
    (packet : Recorded) (e : Entry) (es : List Entry) (rest : Net → List Entry) (latest : ℕ) (fit : AreFit plan options origin)
    (wide : 1000 * options.jitter + lag_of origin ≤ 1000 * options.skew) (next : rest net ≡ e ∷ es)
    (t : IsPacketTaken plan origin options times told links net number packet e es rest) (up : latest ≤ t.at)
    (limits : (m : Net) → AreOpen (origin m) options.jitter t.at (rest m)) (pairs : AreTwins plan (IsPaired plan origin options latest) links rest) where
  abbrev k : ℕ
  k = t.known.k

  abbrev IsBoth : Type 0
  IsBoth = is_both (link_plan_at plan.links t.known.k).networks ≡ true

  pair : IsBoth → IsLed (bag_micros (link_plan_at plan.links k).bag) origin options.jitter latest (rest_of plan k rest) (link_at links k).twins.waiting
  pair both = (pairs k t.known.within).both both

  led : (both : IsBoth) → LeadsOn (pair both).stream origin options.jitter (nearness_at options net t.at times) (tag_of net number t.at) e
      (rest_of plan k (rest_after net es rest)) (link_at links k).twins
  led both = leads_on (pair both).stream (bag_micros (link_plan_at plan.links k).bag) origin options.jitter options.skew latest
      (nearness_at options net t.at times) (tag_of net number t.at) (link_at links k).twins e (link_stream (id_of plan k) es) (rest_of plan k rest)
      (rest_of plan k (rest_after net es rest)) (pair both).is_stream refl wide (fit.skew k t.known.within both) up t.delayed
      (λ m. All-filter (λ (e : Entry). nat_eq (link_in e.frame) (id_of plan k))
      (λ (e : Entry). t.at ≤ origin m + 1000 * (e.at + options.jitter)) (rest m) (limits m)) t.known.size
      (stream_next (id_of plan k) (rest net) e es next t.known.link)
      (ap (link_stream (id_of plan k)) (rest_both net es rest).0) (ap (link_stream (id_of plan k)) (rest_both net es rest).1)
      (pair both).lead (pair both).leading (pair both).past

  -- nothing is given up at it
  pub given_up_none : (found : List Finding)
      → found_given_up (setting_at plan options net t.at times k) (tag_of net number t.at) (number_in e.frame) (link_at links k) found ≡ found
  given_up_none found = none_given_up (setting_at plan options net t.at times k) (tag_of net number t.at) (number_in e.frame) (link_at links k) found
      (λ both. (led both).stay)

  own_pair : IsPaired plan origin options t.at k (rest_of plan k (rest_after net es rest)) (link_at t.new k).twins
  own_pair = record {
    both = λ both. rw (t.both both) (record {
      stream = (pair both).stream;
      is_stream = (pair both).is_stream;
      lead = (led both).lead;
      leading = (led both).after;
      past = (led both).past;
    });
    alone = λ one. rw (t.alone one) ((pairs k t.known.within).alone one);
  }

  other_pair : (j : ℕ) → IsPaired plan origin options latest j (rest_of plan j rest) (link_at links j).twins
      → IsPaired plan origin options t.at j (rest_of plan j rest) (link_at links j).twins
  other_pair j is = record {
    both = λ both.
        let of = is.both both in
        record {
          stream = of.stream;
          is_stream = of.is_stream;
          lead = of.lead;
          leading = of.leading;
          past = past_later latest t.at (link_at links j).twins.waiting up of.past;
        };
    alone = is.alone;
  }

  pub pairs_after : AreTwins plan (IsPaired plan origin options t.at) t.new (rest_after net es rest)
  pairs_after = twins_go_on plan origin options times told links net number packet e es rest (IsPaired plan origin options latest)
      (IsPaired plan origin options t.at) next t pairs own_pair other_pair

-- ---- the end

none_left : (nearness : Nearness) (plans : List LinkPlan) (links : List Link) (found : List Finding)
    → All (λ (link : Link). link.twins.waiting ≡ []) links → found_left nearness plans links found ≡ found
unfolding found_at_end
none_left nearness [] links found all = refl
none_left nearness (plan ∷ plans) [] found all = refl
none_left nearness (plan ∷ plans) (link ∷ links) found all =
    rw (all 0 link (omega arith)) (rw (append-nil found) (none_left nearness plans links found
    (All-tail (λ (link : Link). link.twins.waiting ≡ []) link links all)))

nothing_waits : (origin : Net → ℕ) (jitter : ℕ) (lead net : Net) (ahead coming : List Entry) (ws : List Wait) → [] ≡ map (side net) (ahead ++ coming)
    → AllZip (IsWaitFor origin jitter lead) ahead ws → ws ≡ []
nothing_waits origin jitter lead net [] coming [] none zip = refl
nothing_waits origin jitter lead net (o ∷ os) coming ws none zip = absurd (cc (none))
nothing_waits origin jitter lead net [] coming (w ∷ ws) none zip = absurd zip

-- ---- a recording

-- nothing comes after the recording
abbrev AreAllRecorded : (origin : Net → ℕ) (options : Options) (rest : Net → List Entry) (recording : List OnNet) → Type 0
AreAllRecorded origin options rest recording = AreRecorded origin options (λ net. []) rest recording

zip_of : (origin : ℕ) (options : Options) (es : List Entry) (packets : List Recorded) → IsRecorded origin options [] es packets
    → AllZip (IsRecord origin options) es packets
zip_of origin options es packets is = grind (arith, append-nil)

all_came : (origin : ℕ) (options : Options) (es : List Entry) → AllZip (IsRecord origin options) es [] → es ≡ []
all_came origin options [] zip = refl
all_came origin options (e ∷ es) zip = absurd zip

none_waits : (plan : Plan) (origin : Net → ℕ) (options : Options) (latest : ℕ) (links : List Link) (rest : Net → List Entry)
    → length links ≡ length plan.links → AreTwins plan (IsPaired plan origin options latest) links rest → ((net : Net) → rest net ≡ [])
    → All (λ (link : Link). link.twins.waiting ≡ []) links
none_waits plan origin options latest links rest size pairs none =
    All-from_get_or (λ (link : Link). link.twins.waiting ≡ []) links (new_link false false) (λ k within. by k (rw size at within))
  where
    by : (k : ℕ) → k < length plan.links → (link_at links k).twins.waiting ≡ []
    by k inside = elim (cases_Bool (is_both (link_plan_at plan.links k).networks)) [
      | inl both ↦
          let led = (pairs k inside).both both in
          nothing_waits origin options.jitter led.lead (other led.lead) led.leading.ahead led.leading.coming _
          (sym (ap (link_stream (id_of plan k)) (none (other led.lead))) ∙ led.leading.lags) led.leading.waits
      | inr one ↦ (pairs k inside).alone one
    ]

goes_silent : (plan : Plan) (origin : Net → ℕ) (options : Options) (times : Times) (told : Bool) (links : List Link) (recording : List OnNet)
    (rest : Net → List Entry) (latest : ℕ) (found : List Finding) → IsPlan plan → AreFit plan options origin → 1000 * options.jitter + lag_of origin ≤ 1000 * options.skew
    → IsGoing plan origin options links rest → AreTwins plan (AreCopied plan origin options) links rest
    → AreTwins plan (IsPaired plan origin options latest) links rest → IsInOrder latest recording
    → AreAllRecorded origin options rest recording → found_from recording (judge_of plan options times told links) found ≡ found
unfolding found_with_end
goes_silent plan origin options times told links [] rest latest found valid fit wide is twins pairs order zip =
    none_left _ plan.links links found
    (none_waits plan origin options latest links rest is.size pairs
    (λ net. all_came (origin net) options (rest net) (zip_of (origin net) options (rest net) [] (zip net))))
goes_silent plan origin options times told links (p ∷ ps) rest latest found valid fit wide is twins pairs order zip =
    let next = recorded_next origin options (λ net. []) rest p ps zip in
    let t = packet_taken plan origin options times told links p.net p.number p.packet next.first next.later rest valid is next.is
    next.recorded in
    let met = copies_go_on plan origin options times told links p.net p.number p.packet next.first next.later rest fit next.is t twins in
    let time : time_of p.packet ≡ t.at = time_is p.packet t.at t.timed in
    let up : latest ≤ t.at = rw time at order.0 in
    let limits = λ (m : Net). open_records (origin m) t.at options m (p ∷ ps) (rest m) (rw time (le_refl t.at), order.1)
    (zip_of (origin m) options (rest m) (packets_of m (p ∷ ps)) (zip m)) in
    let given = given_up_none plan origin options times told links p.net p.number p.packet next.first next.later rest latest fit wide next.is t up
    limits pairs found in
    rw (t.after, t.found found met.0, given) (goes_silent plan origin options (times_with p.net t.at times) told t.new ps (rest_after p.net next.later rest)
    t.at found valid fit wide t.going met.1
    (pairs_after plan origin options times told links p.net p.number p.packet next.first next.later rest latest fit wide next.is t up limits pairs)
    (rw time at order.1) (recorded_after origin options next.later (λ net. []) rest p ps zip next.going))

map_own : (net : Net) (es : List Entry) → All (IsOwn net) es → map (side net) es ≡ es
map_own net [] own = refl
map_own net (e ∷ es) own = rw ((own 0 e (omega arith)).1, map_own net es (All-tail (IsOwn net) e es own)) refl

pairs_begin : (plan : Plan) (accepted : Accepted) (a b : List Entry) (origin : Net → ℕ) (options : Options) → IsSent plan accepted a b
    → length (on_both plan.links a) ≡ length (on_both plan.links b)
    → AreTwins plan (IsPaired plan origin options 0) (links_at_start plan options) (handed_to a b)
pairs_begin plan accepted a b origin options sent same k inside = rw (link_is_new plan options k inside) (record {
  both = λ both. record {
    stream = link_stream (id_of plan k) a;
    is_stream = (both_copies plan accepted k A B a b sent.valid inside both sent.legal.on_a (sent.legal.twins.b_shorter (omega arith))).stream;
    lead = A;
    leading = record {
      done = [];
      ahead = [];
      coming = link_stream (id_of plan k) a;
      whole = refl;
      leads = sym (map_own A (link_stream (id_of plan k) a) (owns plan A (id_of plan k) a sent.legal.on_a.known));
      lags = sym (stream_on_both plan k b sent.valid inside both) ∙ ap (link_stream (id_of plan k)) all
          ∙ stream_side B (id_of plan k) (on_both plan.links a)
          ∙ ap (map (side B)) (stream_on_both plan k a sent.valid inside both);
      waits = tt;
    };
    past = All-nil (λ (w : Wait). w.tag.at ≤ 0);
  };
  alone = λ one. refl;
})
  where
    all : on_both plan.links b ≡ map (side B) (on_both plan.links a)
    all = sent.legal.twins.b_shorter (omega arith)
        ∙ ap (map (side B)) (take_all (length (on_both plan.links b)) (on_both plan.links a) (omega arith))

pub nothing_found_holds : NothingFound
nothing_found_holds plan accepted a b options origin recording sent fit wide whole =
    subst (λ o. findings plan o recording ≡ []) (sym (own_options options fit.profile)) (goes_silent plan origin options no_times false
    (links_at_start plan options) recording (handed_to a b) 0 [] sent.valid fit wide
    (going_begins plan accepted a b options origin (λ net. []) (handed_to a b) sent (λ net. refl) (λ net early. refl))
    (copies_begin plan accepted a b options origin (λ net. []) (handed_to a b) sent (λ net. refl) (λ net early. refl))
    (pairs_begin plan accepted a b origin options sent whole.same) whole.in_order zip)
  where
    zip : AreAllRecorded origin options (handed_to a b) recording
    zip A = record { recorded = a; whole = sym (append-nil a); each = whole.of_a }
    zip B = record { recorded = b; whole = sym (append-nil b); each = whole.of_b }

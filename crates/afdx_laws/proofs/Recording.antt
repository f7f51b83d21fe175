-- A judge over a recording of what was sent legally: each packet is taken by its link's line, and the links after it.
use Rattle.afdx_laws.proofs.JudgeNames.{A, AllZip, AreKnown, B, Bool, Entry, Finding, IsKnown, IsPlan, Judging, Link, List, Nearness, Net, None, Ok, OnNet, Option, Options, Pairing, Plan, PortPlan, Recorded, Setting, Some, Tag, Times, VlId, admitted, after_packet, after_timed, ap, arith, arrived, cases_Bool, cases_eq, false, fields_of, found_given_up, found_of_arrival, found_on_link, found_timed, found_with_packet, frame_in, fun_ext, get_or-set_other, get_or-set_same, given_up, if◌then◌else◌, inl, inr, is_both, left_waiting, length, length-set, line_on, link_after, link_at, link_in, link_plan_at, link_stream, nearness_of, new_link, number_in, pairing_with, place_of, refl, same_net, size_deviation, slice_set, subst, sym, tag_of, times_with, true, twin_deviation, verdict, with_arrival, with_verdict, ℕ, [], ◌++◌, ◌<◌, ◌∙◌, ◌∷◌, ◌≡◌, ◌≢◌, IsRecord, packets_of}
use Rattle.afdx_laws.proofs.Line.{IsDelayed, IsLine, IsTaken, faultless, line_taken, line_then, measure_at, of_profile}
use Rattle.afdx_laws.proofs.Message.{port_at}
use Rattle.afdx_laws.proofs.ReadFrames.{number_of, with_other, with_own}

-- ---- both networks

-- the frames that are to come of each network, after one of them
abbrev pub rest_after : Net → List Entry → (Net → List Entry) → Net → List Entry
rest_after A es rest A = es
rest_after A es rest B = rest B
rest_after B es rest A = rest A
rest_after B es rest B = es

-- what holds of each network's list holds on
pub rest_holds : (P : Net → List Entry → Type 0) (rest : Net → List Entry) (es : List Entry) (n m : Net)
    → (same_net n m ≡ false → P m (rest m)) → P n es → P m (rest_after n es rest m)
rest_holds P rest es A A other own = own
rest_holds P rest es A B other own = other refl
rest_holds P rest es B A other own = other refl
rest_holds P rest es B B other own = own

-- ---- a link

module _ (setting : Setting) (tag : Tag) (port : Option PortPlan) (frame : List ℕ) (link : Link) where
  pub line_given_up : (number : ℕ) (net : Net) → line_on net (given_up setting tag number link) ≡ line_on net link
  line_given_up number net = grind (arith, cases_Bool)

  -- the twins of a link on both networks
  pub twins_after : is_both setting.plan.networks ≡ true → (link_after setting tag port frame link).twins
      ≡ pairing_with setting.nearness tag (fields_of frame).number frame (left_waiting setting.nearness tag (fields_of frame).number link.twins)
  unfolding link_after
  twins_after both = grind arith

  twins_alone : is_both setting.plan.networks ≡ false → (link_after setting tag port frame link).twins ≡ link.twins
  unfolding link_after
  twins_alone one = grind arith

  -- a frame with which nothing is wrong is no finding
  found_none : (number : ℕ) (found : List Finding) → (fields_of frame).number ≡ number
      → verdict setting.measure port (arrived setting.measure tag port frame (line_on tag.net link)) (line_on tag.net link) ≡ faultless
      → size_deviation setting.plan (length frame) ≡ None
      → (is_both setting.plan.networks ≡ true → twin_deviation setting.nearness tag number frame (left_waiting setting.nearness tag number link.twins) ≡ None)
      → found_on_link setting tag port frame link found ≡ found_given_up setting tag number link found
  unfolding found_on_link with_verdict
  found_none number found is wrong sized same =
      rw (line_given_up (fields_of frame).number tag.net, wrong, sized, is) (elim (cases_Bool (is_both setting.plan.networks)) [
        | inl both ↦ rw (both, same both) refl
        | inr one ↦ rw one refl
      ])

-- ---- a judge

-- the judge of a plan
abbrev pub judge_of : Plan → Options → Times → Bool → List Link → Judging
judge_of plan options times told links =
    record { plan = plan; options = of_profile options; times = times; told = told; links = links }

abbrev pub id_of : Plan → ℕ → ℕ
id_of plan k = (link_plan_at plan.links k).id.0

-- how near twins are to each other
abbrev pub nearness_at : Options → Net → ℕ → Times → Nearness
nearness_at options net at times = nearness_of (of_profile options) (times_with net at times)

-- the frames that wait for their twins when a frame comes
abbrev pub left_at : Options → Times → Tag → List ℕ → Link → Pairing
left_at options times tag frame link = left_waiting (nearness_at options tag.net tag.at times) tag (number_in frame) link.twins

-- the frame of a link on both networks differs from no twin
abbrev pub IsSame : Plan → Options → Times → ℕ → Tag → List ℕ → Link → Type 0
IsSame plan options times k tag frame link = is_both (link_plan_at plan.links k).networks ≡ true
    → twin_deviation (nearness_at options tag.net tag.at times) tag (number_in frame) frame (left_at options times tag frame link) ≡ None

-- by what a link's frames are judged
abbrev pub setting_at : Plan → Options → Net → ℕ → Times → ℕ → Setting
setting_at plan options net at times k =
    record { plan = link_plan_at plan.links k; measure = measure_at plan k options; nearness = nearness_at options net at times }

-- a frame of the link at a place
module _ (plan : Plan) (options : Options) (times : Times) (links : List Link) (k : ℕ) (tag : Tag) (frame : List ℕ) where
  abbrev pub new_link_at : Link
  new_link_at = link_after (setting_at plan options tag.net tag.at times k) tag (port_at plan k frame) frame (link_at links k)

  abbrev pub new_links : List Link
  new_links = slice_set links k new_link_at

  pub new_at : k < length links → link_at new_links k ≡ new_link_at
  new_at inside = get_or-set_same links k new_link_at (new_link false false) inside

  pub other_at : (j : ℕ) → j ≢ k → link_at new_links j ≡ link_at links j
  other_at j other = get_or-set_other links k j new_link_at (new_link false false) other

  pub own_line : k < length links → line_on tag.net (link_at new_links k) ≡ line_then plan k options tag frame (line_on tag.net (link_at links k))
  unfolding link_after
  own_line inside = grind (arith, new_at, cases_Bool)

  pub same_line : (j : ℕ) (net : Net) → k < length links → (j ≡ k → same_net tag.net net ≡ false)
      → line_on net (link_at new_links j) ≡ line_on net (link_at links j)
  unfolding link_after
  same_line j net inside apart = grind (arith, cases_eq j k, new_at, other_at, cases_Bool)

-- a packet that has a frame
module _ (plan : Plan) (options : Options) (times : Times) (told : Bool) (links : List Link) (net : Net) (number at : ℕ) (packet : Recorded)
    (frame : List ℕ) (k : ℕ) (timed : packet.at ≡ Some at) (is : frame_in (of_profile options) packet ≡ Ok frame)
    (placed : place_of plan net frame ≡ Ok k) where
  admitted_is : admitted net packet (judge_of plan options (times_with net at times) told links) ≡ Ok (record { place = k; frame = frame })
  unfolding admitted
  admitted_is = rw (is, placed) refl

  pub after_is : after_packet net number packet (judge_of plan options times told links)
      ≡ judge_of plan options (times_with net at times) told (new_links plan options times links k (tag_of net number at) frame)
  unfolding after_packet with_arrival
  after_is = ap (after_timed net number packet (judge_of plan options times told links)) timed ∙ rw admitted_is refl

  pub found_is : (found : List Finding) → found_with_packet net number packet (judge_of plan options times told links) found
      ≡ found_on_link (setting_at plan options net at times k) (tag_of net number at) (port_at plan k frame) frame (link_at links k) found
  unfolding found_with_packet found_of_arrival
  found_is found = ap (found_timed net number packet (judge_of plan options times told links) found) timed ∙ rw admitted_is refl

-- ---- a packet of what was sent legally

pub stream_next : (vl : ℕ) (all : List Entry) (e : Entry) (es : List Entry) → all ≡ e ∷ es → link_in e.frame ≡ vl
    → link_stream vl all ≡ e ∷ link_stream vl es
stream_next vl all e es next its = rw next (with_own (λ (e : Entry). link_in e.frame) vl e es its)

pub stream_same : (vl : ℕ) (all : List Entry) (e : Entry) (es : List Entry) → all ≡ e ∷ es → link_in e.frame ≢ vl
    → link_stream vl all ≡ link_stream vl es
stream_same vl all e es next other = rw next (with_other (λ (e : Entry). link_in e.frame) vl e es other)

-- the frames of a link that are to come
abbrev pub rest_of : Plan → ℕ → (Net → List Entry) → Net → List Entry
rest_of plan k rest net = link_stream (id_of plan k) (rest net)

-- what a judge knows of the lines while the frames `rest` of each network are to come
pub record IsGoing (plan : Plan) (origin : Net → ℕ) (options : Options) (links : List Link) (rest : Net → List Entry) : Type 0 where
  pub size : length links ≡ length plan.links
  pub known : (net : Net) → AreKnown plan.links net (rest net)
  pub lines : (k : ℕ) → k < length plan.links → (net : Net) → IsLine plan k net (origin net) options (line_on net (link_at links k)) (rest_of plan k rest net)

abbrev pub vl_of : ℕ → VlId
vl_of number = record { 0 = number }

-- The packet is taken, as a frame of the link at a place: nothing is found but frames that it shows to have no twin.
pub record IsPacketTaken (plan : Plan) (origin : Net → ℕ) (options : Options) (times : Times) (told : Bool) (links : List Link)
    (net : Net) (number : ℕ) (packet : Recorded) (e : Entry) (es : List Entry) (rest : Net → List Entry) : Type 0 where
  pub at : ℕ
  pub timed : packet.at ≡ Some at
  pub delayed : IsDelayed (origin net) options.jitter e.at at
  pub known : IsKnown plan.links net e.frame
  pub unlike : (j : ℕ) → j < length plan.links → j ≢ known.k → link_in e.frame ≢ id_of plan j
  pub new : List Link
  pub both : is_both (link_plan_at plan.links known.k).networks ≡ true → (link_at new known.k).twins ≡ pairing_with (nearness_at options net at times)
      (tag_of net number at) (number_in e.frame) e.frame (left_at options times (tag_of net number at) e.frame (link_at links known.k))
  pub alone : is_both (link_plan_at plan.links known.k).networks ≡ false → (link_at new known.k).twins ≡ (link_at links known.k).twins
  pub others : (j : ℕ) → j ≢ known.k → link_at new j ≡ link_at links j
  pub after : after_packet net number packet (judge_of plan options times told links) ≡ judge_of plan options (times_with net at times) told new
  pub going : IsGoing plan origin options new (rest_after net es rest)
  pub found : (found : List Finding) → IsSame plan options times known.k (tag_of net number at) e.frame (link_at links known.k)
      → found_with_packet net number packet (judge_of plan options times told links) found
      ≡ found_given_up (setting_at plan options net at times known.k) (tag_of net number at) (number_in e.frame) (link_at links known.k) found

pub packet_taken : (plan : Plan) (origin : Net → ℕ) (options : Options) (times : Times) (told : Bool) (links : List Link) (net : Net)
    (number : ℕ) (packet : Recorded) (e : Entry) (es : List Entry) (rest : Net → List Entry) → IsPlan plan
    → IsGoing plan origin options links rest → rest net ≡ e ∷ es → IsRecord (origin net) options e packet
    → IsPacketTaken plan origin options times told links net number packet e es rest
packet_taken plan origin options times told links net number packet e es rest valid is next record_of = record {
  at = record_of.at;
  timed = record_of.told;
  delayed = delayed;
  known = know;
  unlike = unlike;
  new = new_links plan options times links k tag e.frame;
  both = λ both. rw (
    new_at plan options times links k tag e.frame within,
    twins_after setting tag (port_at plan k e.frame) e.frame (link_at links k) both,
    number_of e.frame,
  ) refl;
  alone = λ one. rw (new_at plan options times links k tag e.frame within) (twins_alone setting tag (port_at plan k e.frame) e.frame (link_at links k) one);
  others = other_at plan options times links k tag e.frame;
  after = after_is plan options times told links net number record_of.at packet e.frame k record_of.told frame taken.clean.placed;
  going = record {
    size = length-set links k _ ∙ is.size;
    known = λ m. rest_holds (AreKnown plan.links) rest es net m (λ apart. is.known m) (rw next at (is.known net)).1;
    lines = lines;
  };
  found = λ found same.
      found_is plan options times told links net number record_of.at packet e.frame k record_of.told frame taken.clean.placed found
      ∙ found_none setting tag (port_at plan k e.frame) e.frame (link_at links k) (number_in e.frame) found
      (number_of e.frame) taken.wrong taken.clean.sized same;
}
  where
    know : IsKnown plan.links net e.frame
    know = (rw next at (is.known net)).0

    k : ℕ
    k = know.k

    within : k < length links
    within = rw is.size know.within

    tag : Tag
    tag = tag_of net number record_of.at

    setting : Setting
    setting = setting_at plan options net record_of.at times k

    delayed : IsDelayed (origin net) options.jitter e.at record_of.at
    delayed = record { least = record_of.least; most = record_of.most }

    taken : IsTaken plan k net (origin net) options (line_on net (link_at links k)) tag e (link_stream (id_of plan k) es)
    taken = line_taken plan k net (origin net) options (line_on net (link_at links k)) tag e (link_stream (id_of plan k) es) valid know.within
        know.size know.of_sub
        (rw (stream_next (id_of plan k) (rest net) e es next know.link) at (is.lines k know.within net)) delayed

    frame : frame_in (of_profile options) packet ≡ Ok e.frame
    frame = taken.clean.admitted (of_profile options) packet refl record_of.bytes record_of.whole

    unlike : (j : ℕ) → j < length plan.links → j ≢ k → link_in e.frame ≢ id_of plan j
    unlike j inside other its = other (valid.links_apart j k inside know.within (ap vl_of (sym its ∙ know.link)))

    own : (j : ℕ) → j < length plan.links → IsLine plan j net (origin net) options
        (line_on net (link_at (new_links plan options times links k tag e.frame) j)) (link_stream (id_of plan j) es)
    own j inside = elim (cases_eq j k) [
      | inl same ↦ rw (same, own_line plan options times links k tag e.frame within) taken.after
      | inr other ↦ rw (other_at plan options times links k tag e.frame j other)
          (rw (stream_same (id_of plan j) (rest net) e es next (unlike j inside other)) at (is.lines j inside net))
    ]

    lines : (j : ℕ) → j < length plan.links → (m : Net) → IsLine plan j m (origin m) options
        (line_on m (link_at (new_links plan options times links k tag e.frame) j)) (rest_of plan j (rest_after net es rest) m)
    lines j inside m = rest_holds (λ m xs. IsLine plan j m (origin m) options
        (line_on m (link_at (new_links plan options times links k tag e.frame) j)) (link_stream (id_of plan j) xs)) rest es net m
        (λ apart. rw (same_line plan options times links k tag e.frame j m within (λ same. apart)) (is.lines j inside m)) (own j inside)

-- ---- twins

-- what holds of the twins of each link
abbrev pub AreTwins : Plan → (ℕ → (Net → List Entry) → Pairing → Type 0) → List Link → (Net → List Entry) → Type 0
AreTwins plan T links rest = (k : ℕ) → k < length plan.links → T k (rest_of plan k rest) (link_at links k).twins

-- what holds of them after a packet
pub twins_go_on : (plan : Plan) (origin : Net → ℕ) (options : Options) (times : Times) (told : Bool) (links : List Link) (net : Net)
    (number : ℕ) (packet : Recorded) (e : Entry) (es : List Entry) (rest : Net → List Entry) (T T' : ℕ → (Net → List Entry) → Pairing → Type 0)
    → rest net ≡ e ∷ es → (t : IsPacketTaken plan origin options times told links net number packet e es rest) → AreTwins plan T links rest
    → T' t.known.k (rest_of plan t.known.k (rest_after net es rest)) (link_at t.new t.known.k).twins
    → ((j : ℕ) → T j (rest_of plan j rest) (link_at links j).twins → T' j (rest_of plan j rest) (link_at links j).twins)
    → AreTwins plan T' t.new (rest_after net es rest)
twins_go_on plan origin options times told links net number packet e es rest T T' next t twins own others = λ j inside. elim (cases_eq j t.known.k) [
  | inl same ↦ rw same own
  | inr other ↦ rw (t.others j other) (subst (λ r. T' j r (link_at links j).twins) (fun_ext (λ m. rest_holds
      (λ m xs. link_stream (id_of plan j) (rest m) ≡ link_stream (id_of plan j) xs) rest es net m (λ apart. refl)
      (stream_same (id_of plan j) (rest net) e es next (t.unlike j inside other)))) (others j (twins j inside)))
]

-- ---- the packets

-- packets record a list up to what comes after
pub record IsRecorded (origin : ℕ) (options : Options) (after es : List Entry) (packets : List Recorded) : Type 0 where
  pub recorded : List Entry
  pub whole : es ≡ recorded ++ after
  pub each : AllZip (IsRecord origin options) recorded packets

-- its first entry is that of the first packet
pub record IsFirst (origin : ℕ) (options : Options) (packet : Recorded) (packets : List Recorded) (after es : List Entry) : Type 0 where
  pub first : Entry
  pub later : List Entry
  pub is : es ≡ first ∷ later
  pub recorded : IsRecord origin options first packet
  pub going : IsRecorded origin options after later packets

first_of_list : (origin : ℕ) (options : Options) (packet : Recorded) (packets : List Recorded) (after es recorded : List Entry)
    → es ≡ recorded ++ after → AllZip (IsRecord origin options) recorded (packet ∷ packets) → IsFirst origin options packet packets after es
first_of_list origin options packet packets after es [] whole zip = absurd zip
first_of_list origin options packet packets after es (d ∷ ds) whole zip = record {
  first = d;
  later = ds ++ after;
  is = whole;
  recorded = zip.0;
  going = record { recorded = ds; whole = refl; each = zip.1 };
}

pub same_self : (net : Net) → same_net net net ≡ true
same_self A = refl
same_self B = refl

pub packets_next : (net : Net) (p : OnNet) (ps : List OnNet)
    → packets_of net (p ∷ ps) ≡ (if same_net p.net net then p.packet ∷ packets_of net ps else packets_of net ps)
packets_next net p ps = grind (arith, cases_Bool)

abbrev pub AreRecorded : (origin : Net → ℕ) (options : Options) (after rest : Net → List Entry) (recording : List OnNet) → Type 0
AreRecorded origin options after rest recording = (net : Net) → IsRecorded (origin net) options (after net) (rest net) (packets_of net recording)

pub recorded_next : (origin : Net → ℕ) (options : Options) (after rest : Net → List Entry) (p : OnNet) (ps : List OnNet)
    → AreRecorded origin options after rest (p ∷ ps) → IsFirst (origin p.net) options p.packet (packets_of p.net ps) (after p.net) (rest p.net)
recorded_next origin options after rest p ps are = first_of_list (origin p.net) options p.packet (packets_of p.net ps) (after p.net) (rest p.net)
    (are p.net).recorded (are p.net).whole (rw (packets_next p.net p ps, same_self p.net) at (are p.net).each)

pub recorded_after : (origin : Net → ℕ) (options : Options) (es : List Entry) (after rest : Net → List Entry) (p : OnNet) (ps : List OnNet)
    → AreRecorded origin options after rest (p ∷ ps) → IsRecorded (origin p.net) options (after p.net) es (packets_of p.net ps)
    → AreRecorded origin options after (rest_after p.net es rest) ps
recorded_after origin options es after rest p ps are later m = rest_holds (λ m xs. IsRecorded (origin m) options (after m) xs (packets_of m ps))
    rest es p.net m (λ apart. rw (packets_next m p ps, apart) at (are m)) later

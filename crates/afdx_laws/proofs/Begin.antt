-- A judge before the first packet of a recording, and the law: of what was sent legally it finds nothing but missing twins.
use Rattle.afdx_laws.proofs.JudgeNames.{All-append, All-map, Contains, IsBegun, IsRecording, NoneByBeginning, Span, VlId, Wait, filter_passes, is_heard_before, is_left, is_lost, missing, missing_of, nat_lt, nearness_of, other_span, same_net, span_with, time_of, unwrap_or, ◌*◌, ◌-◌, A, Accepted, All, All-drop, All-filter, All-nil, All-weaker, AreAllowed, AreKnown, B, Bool, Entry, Finding, IsKnown, IsLegalOn, IsNumbered, IsPlan, IsSpaced, Link, LinkPlan, List, Nearness, Net, None, OnNet, Option, Options, Plan, Setting, Some, Stamp, Tag, TakeTurnsOn, TakesTurns, Times, ap, append_assoc, arith, bag_micros, cases_Bool, cases_lt, drop_at, entry, entry_number, eqb-true, false, filter, findings, found_at_end, found_from, found_given_up, found_left, found_missing, found_with_end, get_or-replicate, get_or_default, inl, inr, is_both, known_all, latest, length, length-replicate, line_on, link_at, link_in, link_plan_at, link_stream, map, map-append, nat_eq, nat_tests, new_line, new_link, new_sub, no_times, number_in, on_both, on_both_is, refl, replicate, side, stamp_of, stream_front, sub_at, sub_in, sub_stream, subst, suc, sym, tag_of, take, times_with, told, true, twin_same, with_append, zero, ℕ, [], ◌++◌, ◌+◌, ◌<◌, ◌∙◌, ◌∷◌, ◌≡◌, ◌≤◌, AreFit, IsMissing, IsRunOf, IsSent, NoFalseAlarm, packets_of}
use Rattle.afdx_laws.proofs.Copies.{AreCopied, IsCopy, IsStream, IsWait, all_copies, copies_go_on}
use Rattle.afdx_laws.proofs.Line.{AreDue, IsAhead, IsLine, of_profile, own_sub}
use Rattle.afdx_laws.proofs.Pieces.{awaits}
use Rattle.afdx_laws.proofs.ReadFrames.{back_none}
use Rattle.afdx_laws.proofs.Wanted.{IsIn, in_contains}
use Rattle.afdx_laws.proofs.Recording.{AreRecorded, AreTwins, IsGoing, id_of, judge_of, packet_taken, recorded_after, recorded_next, rest_after, rest_of, setting_at}

-- ---- a new line

-- nothing is due of its sub-VLs
pub new_is : (late : Bool) (p : ℕ) → ((own_sub (new_line late false).subs p).due ≡ false) × ((own_sub (new_line late false).subs p).came ≡ 0)
    × (p < 4 → (sub_at (new_line late false).subs p).joining ≡ (new_sub late false p).joining)
new_is late zero = (refl, refl, λ few. refl)
new_is late (suc zero) = (refl, refl, λ few. refl)
new_is late (suc (suc zero)) = (refl, refl, λ few. refl)
new_is late (suc (suc (suc zero))) = (refl, refl, λ few. refl)
new_is late (suc (suc (suc (suc p)))) = (refl, refl, λ few. absurd (omega arith))

none_due : (late : Bool) (rest : List Entry) → AreDue (new_line late false).subs (new_line late false).figures.frames rest
none_due late rest = grind (arith, nat_tests, new_is)

-- a list is numbered, spaced and in turn from a place on
goes_on_from : (gap i : ℕ) (before : Option Stamp) (xs ys : List Entry) → IsNumbered entry_number i (xs ++ ys) → IsSpaced gap before (xs ++ ys)
    → TakesTurns (xs ++ ys) → IsNumbered entry_number (i + length xs) ys × IsSpaced gap (latest before xs) ys × TakesTurns ys
goes_on_from gap i before [] ys numbered spaced turns = (subst (λ n. IsNumbered entry_number n ys) (omega arith) numbered, spaced, turns)
goes_on_from gap i before (x ∷ xs) ys numbered spaced turns =
    let later = goes_on_from gap (i + 1) (Some (stamp_of x)) xs ys numbered.1 spaced.1 turns.1 in
    (subst (λ n. IsNumbered entry_number n ys) (omega arith) later.0, later.1, later.2)

known_on : (links : List LinkPlan) (net : Net) (xs ys : List Entry) → AreKnown links net (xs ++ ys) → AreKnown links net ys
known_on links net [] ys known = known
known_on links net (x ∷ xs) ys known = known_on links net xs ys known.1

all_on : {X : Type 0} (P : X → Type 0) (xs ys : List X) → All P (xs ++ ys) → All P ys
all_on P xs ys all = rw (drop_at xs ys (length xs) refl) at (All-drop P (length xs) (xs ++ ys) all)

line_begins : (plan : Plan) (accepted : Accepted) (k origin : ℕ) (options : Options) (net : Net) (before rest : List Entry) → IsPlan plan
    → k < length plan.links → IsLegalOn plan accepted net (before ++ rest) → AreAllowed plan accepted
    → TakesTurns (link_stream (id_of plan k) (before ++ rest)) → (options.late ≡ false → before ≡ [])
    → IsLine plan k net origin options (new_line options.late false) (link_stream (id_of plan k) rest)
line_begins plan accepted k origin options net before rest valid inside legal allowed turns first = record {
  place = 0 + length sent;
  before = latest None sent;
  last = λ early. rw (first early) (refl, refl);
  numbered = going.0;
  spaced = going.1;
  turns = going.2;
  due = none_due options.late own;
  carried = λ isnt. back_none sent own (rw split at (legal.carried k inside isnt));
  pieces = λ s index. rw ((new_is options.late s).2 (grind (arith, valid.each_link k (link_plan_at [] 0) inside))) (pieces s index);
}
  where
    vl : ℕ
    vl = id_of plan k

    sent : List Entry
    sent = link_stream vl before

    own : List Entry
    own = link_stream vl rest

    split : link_stream vl (before ++ rest) ≡ sent ++ own
    split = with_append (λ (e : Entry). link_in e.frame) vl before rest

    going : IsNumbered entry_number (0 + length sent) own × IsSpaced (bag_micros (link_plan_at plan.links k).bag) (latest None sent) own × TakesTurns own
    going = goes_on_from (bag_micros (link_plan_at plan.links k).bag) 0 None sent own (rw split at (legal.numbered k inside))
        (rw split at (legal.spaced k inside)) (rw split at turns)

    pieces : (s : ℕ) → s < (link_plan_at plan.links k).sub_vls → IsAhead plan k s net (new_sub options.late false s).joining own
    pieces s index =
        let all = legal.prefixes k s inside index in
        record {
          more = all.0;
          awaiting = awaits plan k s net options.late (accepted k s) (told (sub_stream s sent)) (told (sub_stream s own) ++ all.0)
              valid inside index (allowed k s inside index)
              (sym all.1 ∙ rw (split, with_append (λ (e : Entry). sub_in e.frame) s sent own, map-append, append_assoc) refl)
              (λ early. rw (first early) refl);
        }

-- ---- the streams of a link on both networks

filter_twice : {X : Type 0} (p q : X → Bool) (xs : List X) → ((x : X) → p x ≡ true → q x ≡ true) → filter p (filter q xs) ≡ filter p xs
filter_twice p q [] both = refl
filter_twice p q (x ∷ xs) both = grind (arith, filter_twice p q xs both, both x)

pub stream_on_both : (plan : Plan) (k : ℕ) (es : List Entry) → IsPlan plan → k < length plan.links
    → is_both (link_plan_at plan.links k).networks ≡ true → link_stream (id_of plan k) (on_both plan.links es) ≡ link_stream (id_of plan k) es
stream_on_both plan k es valid inside both = grind (arith, filter_twice, eqb-true, on_both_is)

-- what each entry of a link's stream is
abbrev pub IsOwn : Net → Entry → Type 0
IsOwn net e = (60 ≤ length e.frame) × (side net e ≡ e)

pub owns : (plan : Plan) (net : Net) (vl : ℕ) (es : List Entry) → AreKnown plan.links net es → All (IsOwn net) (link_stream vl es)
owns plan net vl es known = All-filter (λ (e : Entry). nat_eq (link_in e.frame) vl) (IsOwn net) es
    (All-weaker (λ (e : Entry). IsKnown plan.links net e.frame) (IsOwn net)
    (λ e is. (is.size, ap (λ (frame : List ℕ). (let x : Entry = record { at = e.at; frame = frame } in x)) (twin_same net e.frame is.interface)))
    es (known_all plan.links net es known))

own_copies : (net : Net) (stream : List Entry) → All (IsOwn net) stream → All (IsCopy stream net) stream
own_copies net stream own = λ k spare inside. record {
  place = k;
  inside = inside;
  is = sym (own k spare inside).1 ∙ ap (side net) (get_or_default stream k spare (entry 0 []) inside);
}

pub record AreBoth (gap : ℕ) (m n : Net) (long short : List Entry) : Type 0 where
  pub stream : IsStream gap long
  pub own : All (IsCopy long m) long
  pub other : All (IsCopy long n) short

pub both_copies : (plan : Plan) (accepted : Accepted) (k : ℕ) (m n : Net) (long short : List Entry) → IsPlan plan → k < length plan.links
    → is_both (link_plan_at plan.links k).networks ≡ true → IsLegalOn plan accepted m long
    → on_both plan.links short ≡ map (side n) (take (length (on_both plan.links short)) (on_both plan.links long))
    → AreBoth (bag_micros (link_plan_at plan.links k).bag) m n (link_stream (id_of plan k) long) (link_stream (id_of plan k) short)
both_copies plan accepted k m n long short valid inside both legal twins =
    let own = owns plan m (id_of plan k) long legal.known in
    let front = rw (stream_on_both plan k short valid inside both, stream_on_both plan k long valid inside both)
    at (stream_front n (id_of plan k) (on_both plan.links long) (on_both plan.links short) twins) in
    record {
      stream = record {
        numbered = legal.numbered k inside;
        spaced = legal.spaced k inside;
        long = λ i spare within. (own i spare within).0;
      };
      own = own_copies m (link_stream (id_of plan k) long) own;
      other = subst (All (IsCopy (link_stream (id_of plan k) long) n)) (sym front)
          (all_copies (link_stream (id_of plan k) long) n (length (link_stream (id_of plan k) short)));
    }

-- ---- a whole judge

abbrev pub handed_to : (a b : List Entry) → Net → List Entry
handed_to a b A = a
handed_to a b B = b

sent_on : (plan : Plan) (accepted : Accepted) (a b : List Entry) → IsSent plan accepted a b → (net : Net)
    → IsLegalOn plan accepted net (handed_to a b net) × TakeTurnsOn plan (handed_to a b net)
sent_on plan accepted a b sent A = (sent.legal.on_a, sent.turns.on_a)
sent_on plan accepted a b sent B = (sent.legal.on_b, sent.turns.on_b)

-- the stream of a link on both networks, of which what each was sent are copies
record IsOwnStream (plan : Plan) (k : ℕ) (a b : List Entry) : Type 0 where
  stream : List Entry
  is : IsStream (bag_micros (link_plan_at plan.links k).bag) stream
  copies : (net : Net) → All (IsCopy stream net) (link_stream (id_of plan k) (handed_to a b net))

own_stream : (plan : Plan) (accepted : Accepted) (a b : List Entry) (k : ℕ) → IsSent plan accepted a b
    → k < length plan.links → is_both (link_plan_at plan.links k).networks ≡ true → IsOwnStream plan k a b
own_stream plan accepted a b k sent inside both =
    elim (cases_lt (length (on_both plan.links a)) (length (on_both plan.links b))) [
      | inl shorter ↦
          let is = both_copies plan accepted k B A b a sent.valid inside both sent.legal.on_b (sent.legal.twins.a_shorter (omega arith)) in
          record { stream = link_stream (id_of plan k) b; is = is.stream; copies = each (link_stream (id_of plan k) b) is.other is.own }
      | inr longer ↦
          let is = both_copies plan accepted k A B a b sent.valid inside both sent.legal.on_a (sent.legal.twins.b_shorter longer) in
          record { stream = link_stream (id_of plan k) a; is = is.stream; copies = each (link_stream (id_of plan k) a) is.own is.other }
    ]
  where
    each : (stream : List Entry) → All (IsCopy stream A) (link_stream (id_of plan k) a) → All (IsCopy stream B) (link_stream (id_of plan k) b)
        → (net : Net) → All (IsCopy stream net) (link_stream (id_of plan k) (handed_to a b net))
    each stream on_a on_b A = on_a
    each stream on_a on_b B = on_b

-- the links of a new judge
abbrev pub links_at_start : Plan → Options → List Link
links_at_start plan options = replicate (length plan.links) (new_link options.late false)

pub link_is_new : (plan : Plan) (options : Options) (k : ℕ) → k < length plan.links
    → link_at (links_at_start plan options) k ≡ new_link options.late false
link_is_new plan options k inside = get_or-replicate (length plan.links) k (new_link options.late false) (new_link false false) inside

pub line_is_new : (plan : Plan) (options : Options) (k : ℕ) (net : Net) → k < length plan.links
    → line_on net (link_at (links_at_start plan options) k) ≡ new_line options.late false
line_is_new plan options k net inside = rw (link_is_new plan options k inside) (by net)
  where
    by : (net : Net) → line_on net (new_link options.late false) ≡ new_line options.late false
    by A = refl
    by B = refl

-- a judge of which each network's frames `rest` are to come
module _ (plan : Plan) (accepted : Accepted) (a b : List Entry) (options : Options) (origin : Net → ℕ) (before rest : Net → List Entry)
    (sent : IsSent plan accepted a b) (whole : (net : Net) → handed_to a b net ≡ before net ++ rest net)
    (first : (net : Net) → options.late ≡ false → before net ≡ []) where
  legal : (net : Net) → IsLegalOn plan accepted net (before net ++ rest net)
  legal net = subst (IsLegalOn plan accepted net) (whole net) (sent_on plan accepted a b sent net).0

  pub going_begins : IsGoing plan origin options (links_at_start plan options) rest
  going_begins = record {
    size = length-replicate (length plan.links) (new_link options.late false);
    known = λ net. known_on plan.links net (before net) (rest net) (legal net).known;
    lines = λ k inside net. rw (line_is_new plan options k net inside) (line_begins plan accepted k (origin net) options net (before net) (rest net)
        sent.valid inside (legal net) sent.allowed (subst (TakeTurnsOn plan) (whole net) (sent_on plan accepted a b sent net).1 k inside) (first net));
  }

  pub copies_begin : AreTwins plan (AreCopied plan origin options) (links_at_start plan options) rest
  copies_begin k inside both =
      let owns = own_stream plan accepted a b k sent inside both in
      rw (link_is_new plan options k inside) (record {
        stream = owns.stream;
        is_stream = owns.is;
        copies = λ net. all_on (IsCopy owns.stream net) (link_stream (id_of plan k) (before net)) (rest_of plan k rest net)
            (subst (All (IsCopy owns.stream net)) (ap (link_stream (id_of plan k)) (whole net)
            ∙ with_append (λ (e : Entry). link_in e.frame) (id_of plan k) (before net) (rest net)) (owns.copies net));
        waits = All-nil (IsWait origin options.jitter owns.stream);
      })

-- ---- the law

-- what holds of the frames that pass a test, as missing ones
all_told : (P : Finding → Type 0) (vl : VlId) (p : Wait → Bool) (ws : List Wait) (found : List Finding) → All P found
    → ((w : Wait) → p w ≡ true → P (missing vl w)) → All P (found ++ missing_of vl (filter p ws))
all_told P vl p ws found all each = All-append P found _ all (All-map P (missing vl) (filter p ws)
    (All-weaker (λ (w : Wait). p w ≡ true) (λ (w : Wait). P (missing vl w)) each (filter p ws) (filter_passes p ws)))

-- a property of frames that are missing, before which the other network was recorded
abbrev pub IsTold : (Finding → Type 0) → Nearness → Type 0
IsTold P nearness = (vl : VlId) (w : Wait) → is_heard_before nearness w.tag ≡ true → P (missing vl w)

left_told : (P : Finding → Type 0) (nearness : Nearness) (plans : List LinkPlan) (links : List Link) (found : List Finding) → IsTold P nearness
    → All P found → All P (found_left nearness plans links found)
unfolding found_at_end
left_told P nearness [] links found is all = all
left_told P nearness (plan ∷ plans) [] found is all = all
left_told P nearness (plan ∷ plans) (link ∷ links) found is all =
    left_told P nearness plans links _ is (all_told P plan.id (is_left nearness) link.twins.waiting found all
    (λ w left. is plan.id w (grind (arith, cases_Bool))))

all_given_up : (P : Finding → Type 0) (setting : Setting) (tag : Tag) (number : ℕ) (link : Link) (found : List Finding)
    → IsTold P setting.nearness → All P found → All P (found_given_up setting tag number link found)
unfolding found_missing
all_given_up P setting tag number link found is all = elim (cases_Bool (is_both setting.plan.networks)) [
  | inl both ↦ rw both (all_told P setting.plan.id (is_lost setting.nearness tag number) link.twins.waiting found all
      (λ w lost. is setting.plan.id w (grind (arith, cases_Bool))))
  | inr one ↦ rw one all
]

-- ---- the times of both networks

-- a packet of the other network than this one, at a time
record IsAt (recording : List OnNet) (net : Net) (at : ℕ) : Type 0 where
  packet : OnNet
  member : Contains recording packet
  apart : same_net packet.net net ≡ false
  is : time_of packet.packet ≡ at

-- the earliest time of each network is a packet's
abbrev AreAttained : List OnNet → Times → Type 0
AreAttained recording times = (net : Net) (span : Span) → other_span net times ≡ Some span → IsAt recording net span.earliest

least_is : (recording : List OnNet) (net : Net) (at : ℕ) (before : Option Span) (span : Span) → IsAt recording net at
    → ((s : Span) → before ≡ Some s → IsAt recording net s.earliest) → Some (span_with at before) ≡ Some span
    → IsAt recording net span.earliest
least_is recording net at None span own old is =
    let same : span_with at None ≡ span = cc (is) in subst (λ (s : Span). IsAt recording net s.earliest) same own
least_is recording net at (Some s) span own old is =
    let same : span_with at (Some s) ≡ span = cc (is) in
    subst (λ (s : Span). IsAt recording net s.earliest) same (elim (cases_Bool (nat_lt at s.earliest)) [ inl less ↦ rw less own | inr more ↦ rw more (old s refl) ])

attained_with : (recording : List OnNet) (m : Net) (at : ℕ) (times : Times) → ((net : Net) → same_net m net ≡ false → IsAt recording net at)
    → AreAttained recording times → AreAttained recording (times_with m at times)
attained_with recording A at times own old A span is = old A span is
attained_with recording B at times own old B span is = old B span is
attained_with recording A at times own old B span is = least_is recording B at times.a span (own B refl) (old B) is
attained_with recording B at times own old A span is = least_is recording A at times.b span (own A refl) (old A) is

-- what the law says of each finding
abbrev pub IsToldWell : Options → List OnNet → Finding → Type 0
IsToldWell options recording finding = IsMissing finding × IsBegun options recording finding

told_well : (recording : List OnNet) (options : Options) (times : Times) → AreAttained recording times
    → IsTold (IsToldWell options recording) (nearness_of (of_profile options) times)
told_well recording options times attained vl w before = (refl, by (other_span w.tag.net times) refl)
  where
    by : (span : Option Span) → other_span w.tag.net times ≡ span → IsBegun options recording (missing vl w)
    by None none = absurd (cc (before, none))
    by (Some span) some =
        let at = attained w.tag.net span some in
        let less : 1000 * options.skew < w.tag.at - span.earliest = grind (arith, nat_tests) in
        record { packet = at.packet; member = at.member; net = at.apart; earlier = omega (arith, at.is, less) }

goes_on : (plan : Plan) (origin : Net → ℕ) (options : Options) (times : Times) (told : Bool) (links : List Link) (whole recording : List OnNet)
    (after rest : Net → List Entry) (found : List Finding) → IsPlan plan → AreFit plan options origin → IsGoing plan origin options links rest
    → AreTwins plan (AreCopied plan origin options) links rest → AreRecorded origin options after rest recording
    → ((p : OnNet) → IsIn p recording → Contains whole p) → AreAttained whole times → All (IsToldWell options whole) found
    → All (IsToldWell options whole) (found_from recording (judge_of plan options times told links) found)
unfolding found_with_end
goes_on plan origin options times told links whole [] after rest found valid fit is twins zip in_whole attained all =
    left_told (IsToldWell options whole) _ plan.links links found (told_well whole options times attained) all
goes_on plan origin options times told links whole (p ∷ ps) after rest found valid fit is twins zip in_whole attained all =
    let next = recorded_next origin options after rest p ps zip in
    let t = packet_taken plan origin options times told links p.net p.number p.packet next.first next.later rest valid is next.is
    next.recorded in
    let met = copies_go_on plan origin options times told links p.net p.number p.packet next.first next.later rest fit next.is t twins in
    let now : AreAttained whole (times_with p.net t.at times) = attained_with whole p.net t.at times
    (λ net apart. record { packet = p; member = in_whole p (inl refl); apart = apart; is = ap (λ (time : Option ℕ). unwrap_or time 0) t.timed }) attained in
    rw (t.after, t.found found met.0) (goes_on plan origin options (times_with p.net t.at times) told t.new whole ps after
    (rest_after p.net next.later rest) _ valid fit t.going met.1 (recorded_after origin options next.later after rest p ps zip next.going)
    (λ q is_in. in_whole q (inr is_in)) now
    (all_given_up (IsToldWell options whole) (setting_at plan options p.net t.at times t.known.k) (tag_of p.net p.number t.at)
    (number_in next.first.frame) (link_at links t.known.k) found (told_well whole options (times_with p.net t.at times) now) all))

pub own_options : (options : Options) → options.arinc ≡ false → options ≡ of_profile options
own_options options profile = ap (λ (arinc : Bool). let o : Options = record options { arinc = arinc } in o) profile

told_in : (plan : Plan) (accepted : Accepted) (a b : List Entry) (options : Options) (origin : Net → ℕ) (recording : List OnNet)
    → IsSent plan accepted a b → AreFit plan options origin → IsRecording origin options a b recording
    → All (IsToldWell options recording) (findings plan options recording)
told_in plan accepted a b options origin recording sent fit recorded =
    subst (λ o. All (IsToldWell options recording) (findings plan o recording)) (sym (own_options options fit.profile))
    (goes_on plan origin options no_times false (links_at_start plan options) recording recording (λ net. (run net).after) rest [] sent.valid fit
    (going_begins plan accepted a b options origin (λ net. (run net).before) rest sent (λ net. (run net).whole) (λ net. (run net).first))
    (copies_begin plan accepted a b options origin (λ net. (run net).before) rest sent (λ net. (run net).whole) (λ net. (run net).first))
    (λ net. record { recorded = (run net).recorded; whole = refl; each = (run net).each }) (λ p is. in_contains p recording is) none_attained
    (All-nil (IsToldWell options recording)))
  where
    run : (net : Net) → IsRunOf (origin net) options (handed_to a b net) (packets_of net recording)
    run A = recorded.of_a
    run B = recorded.of_b

    rest : Net → List Entry
    rest net = (run net).recorded ++ (run net).after

    none_attained : AreAttained recording no_times
    none_attained A span is = absurd (cc (is))
    none_attained B span is = absurd (cc (is))

pub no_false_alarm_holds : NoFalseAlarm
no_false_alarm_holds plan accepted a b options origin recording sent fit recorded =
    All-weaker (IsToldWell options recording) IsMissing (λ finding is. is.0) _ (told_in plan accepted a b options origin recording sent fit recorded)

pub none_by_beginning_holds : NoneByBeginning
none_by_beginning_holds plan accepted a b options origin recording sent fit recorded =
    All-weaker (IsToldWell options recording) (IsBegun options recording) (λ finding is. is.1) _
    (told_in plan accepted a b options origin recording sent fit recorded)

-- A link's stream on two networks: frames with one number that are less than 255 gaps apart are copies of one frame, so
-- no frame differs from one that waits for it.
use Rattle.afdx_laws.proofs.JudgeNames.{A, B, lag_of, All, All-contains, All-filter, All-head, All-push, All-tail, Bool, Entry, IsNumbered, IsSpaced, Link, List, Nearness, Net, None, Option, Options, Pairing, Plan, Recorded, Some, Stamp, Tag, Times, Wait, arith, bag_micros, cases_lt, drop-set-lt, entry, entry_number, find, first_other, get_or, get_or-map, get_or-take, interface_byte, is_both, is_twin, kept, left_waiting, length, length-map, length-set, length-take, link_at, link_plan_at, link_stream, map, nat_tests, number_in, numbered_at, pairing_with, refl, sequence_number, side, slice_range, stamp_of, stays, suc, sym, tag_of, take, take-set-le, true, twin_deviation, twin_number, twin_of, twin_other, zero, ℕ, [], ◌*◌, ◌+◌, ◌-◌, ◌<◌, ◌∙◌, ◌∷◌, ◌≡◌, ◌≤◌, AreFit}
use Rattle.afdx_laws.proofs.Line.{IsDelayed}
use Rattle.afdx_laws.proofs.ReadFrames.{all_removed, find_says}
use Rattle.afdx_laws.proofs.Recording.{AreTwins, IsPacketTaken, IsSame, id_of, left_at, nearness_at, rest_after, rest_holds, rest_of, stream_next, twins_go_on}

-- a link's own stream: numbered, spaced, and long enough to have its bytes
pub record IsStream (gap : ℕ) (stream : List Entry) : Type 0 where
  pub numbered : IsNumbered entry_number 0 stream
  pub spaced : IsSpaced gap None stream
  pub long : All (λ (e : Entry). 60 ≤ length e.frame) stream

-- the entry at a place of a stream
abbrev pub own_at : List Entry → ℕ → Entry
own_at stream place = get_or stream place (entry 0 [])

-- an entry is a network's copy of one of a stream
pub record IsCopy (stream : List Entry) (net : Net) (e : Entry) : Type 0 where
  pub place : ℕ
  pub inside : place < length stream
  pub is : e ≡ side net (own_at stream place)

same_bytes : (i : ℕ) (xs : List ℕ) → first_other i xs xs ≡ None
same_bytes i [] = refl
same_bytes i (x ∷ xs) = grind (arith, nat_tests, same_bytes (i + 1) xs)

-- copies of one frame differ in the interface alone
pub no_other : (first second : Net) (frame : List ℕ) → twin_other (twin_of first frame) (twin_of second frame) ≡ None
unfolding twin_other
no_other first second frame = rw (
  length-set frame 11 (interface_byte first),
  length-set frame 11 (interface_byte second),
  take-set-le 11 frame 11 (interface_byte first) (omega arith),
  take-set-le 11 frame 11 (interface_byte second) (omega arith),
  drop-set-lt 12 frame 11 (interface_byte first) (omega arith),
  drop-set-lt 12 frame 11 (interface_byte second) (omega arith),
  same_bytes 0 (take 11 frame),
) (same_bytes 12 (slice_range frame 12 (length frame)))

spaced_by : (gap : ℕ) (before : Option Stamp) (es : List Entry) (i n : ℕ) (spare : Entry) → IsSpaced gap before es
    → i + n < length es → (get_or es i spare).at + n * gap ≤ (get_or es (i + n) spare).at
spaced_by gap before [] i n spare spaced inside = absurd (omega arith)
spaced_by gap before (e ∷ es) (suc i) n spare spaced inside =
    grind (arith, spaced_by gap (Some (stamp_of e)) es i n spare spaced.1 (omega arith))
spaced_by gap before (e ∷ es) zero zero spare spaced inside = omega arith
spaced_by gap before (e ∷ []) zero (suc n) spare spaced inside = absurd (omega arith)
spaced_by gap before (e ∷ (d ∷ es)) zero (suc n) spare spaced inside =
    let more = spaced_by gap (Some (stamp_of e)) (d ∷ es) zero n spare spaced.1 (omega arith) in
    grind (arith, more, spaced.1.0)

-- a number comes again after 255 frames
again : (i j : ℕ) → sequence_number i ≡ sequence_number j → i < j → i + 255 ≤ j
again i j same before = grind (arith, nat_tests)

pub far : (gap i j : ℕ) (stream : List Entry) → IsStream gap stream → i < j → j < length stream
    → number_in (own_at stream i).frame ≡ number_in (own_at stream j).frame
    → (own_at stream i).at + 255 * gap ≤ (own_at stream j).at
far gap i j stream is before inside same =
    let first = numbered_at entry_number 0 stream is.numbered i (entry 0 []) (omega arith) in
    let second = numbered_at entry_number 0 stream is.numbered j (entry 0 []) inside in
    let later : 0 + i + 255 ≤ 0 + j = again (0 + i) (0 + j) (sym first ∙ same ∙ second) (omega arith) in
    let near = spaced_by gap None stream i 255 (entry 0 []) is.spaced (omega arith) in
    let on = spaced_by gap None stream (i + 255) (j - (i + 255)) (entry 0 []) is.spaced (omega arith) in
    let there : i + 255 + (j - (i + 255)) ≡ j = omega arith in
    let past = rw there at on in
    omega (arith, near, past)

same_place : (gap : ℕ) (stream : List Entry) (i j : ℕ) → IsStream gap stream → i < length stream → j < length stream
    → number_in (own_at stream i).frame ≡ number_in (own_at stream j).frame
    → (own_at stream i).at < (own_at stream j).at + 255 * gap → (own_at stream j).at < (own_at stream i).at + 255 * gap
    → i ≡ j
same_place gap stream i j is first second same before after =
    grind (arith, cases_lt i j, cases_lt j i, far gap i j stream is, far gap j i stream is)

copy_number : (gap : ℕ) (stream : List Entry) (net : Net) (e : Entry) → IsStream gap stream → (copy : IsCopy stream net e)
    → number_in e.frame ≡ number_in (own_at stream copy.place).frame
copy_number gap stream net e is copy = grind (arith, nat_tests, twin_number)

-- copies with one number, less than 255 gaps apart
pub copies_agree : (gap : ℕ) (stream : List Entry) (m n : Net) (d e : Entry) → IsStream gap stream → IsCopy stream m d
    → IsCopy stream n e → number_in d.frame ≡ number_in e.frame → d.at < e.at + 255 * gap → e.at < d.at + 255 * gap
    → twin_other d.frame e.frame ≡ None
copies_agree gap stream m n d e is dc ec same first second =
    let number = sym (copy_number gap stream m d is dc) ∙ same ∙ copy_number gap stream n e is ec in
    let one : dc.place ≡ ec.place = same_place gap stream dc.place ec.place is dc.inside ec.inside number
    (rw (dc.is, ec.is) at first) (rw (dc.is, ec.is) at second) in
    rw (dc.is, ec.is, one) (no_other m n (own_at stream ec.place).frame)

-- what a network got of a stream are its copies
pub all_copies : (stream : List Entry) (net : Net) (n : ℕ) → All (IsCopy stream net) (map (side net) (take n stream))
all_copies stream net n = λ k spare inside. record {
  place = k;
  inside = grind (arith, length-map, length-take);
  is = grind (arith, get_or-map, get_or-take, length-map, length-take);
}

-- ---- frames that wait

-- no network lags behind the other by more
pub lag_bound : (origin : Net → ℕ) (m n : Net) → origin m ≤ origin n + lag_of origin
lag_bound origin A A = omega arith
lag_bound origin A B = grind (arith, nat_tests)
lag_bound origin B A = grind (arith, nat_tests)
lag_bound origin B B = omega arith

-- a frame that waits is the record of a copy
pub record IsWait (origin : Net → ℕ) (jitter : ℕ) (stream : List Entry) (w : Wait) : Type 0 where
  pub e : Entry
  pub copy : IsCopy stream w.tag.net e
  pub number : w.number ≡ number_in e.frame
  pub bytes : w.bytes ≡ e.frame
  pub delayed : IsDelayed (origin w.tag.net) jitter e.at w.tag.at

module _ (origin : Net → ℕ) (jitter skew : ℕ) (nearness : Nearness) (gap : ℕ) (stream : List Entry) (tag : Tag) (e : Entry) (is : IsStream gap stream)
    (is_skew : nearness.skew ≡ 1000 * skew) (fit : 1000 * (skew + jitter) + lag_of origin < 255000 * gap) (copy : IsCopy stream tag.net e)
    (delayed : IsDelayed (origin tag.net) jitter e.at tag.at) where
  abbrev number : ℕ
  number = number_in e.frame

  near_copies : (w : Wait) → IsWait origin jitter stream w → is_twin nearness tag number w ≡ true
      → twin_other w.bytes e.frame ≡ None
  near_copies w wait twin = rw wait.bytes (copies_agree gap stream w.tag.net tag.net wait.e e is wait.copy copy
      (grind (arith, nat_tests, wait.number)) close.0 close.1)
    where
      close : (wait.e.at < e.at + 255 * gap) × (e.at < wait.e.at + 255 * gap)
      close = let lag = lag_bound origin w.tag.net tag.net in let back = lag_bound origin tag.net w.tag.net in
          grind (arith, nat_tests, wait.delayed)

  met_by : (ws : List Wait) (p : Pairing) (found : Option Wait) → p.waiting ≡ kept nearness tag number ws → All (IsWait origin jitter stream) ws
      → find (is_twin nearness tag number) p.waiting ≡ found → (twin_deviation nearness tag number e.frame p ≡ None)
      × All (IsWait origin jitter stream) (pairing_with nearness tag number e.frame p).waiting
  unfolding twin_deviation pairing_with
  met_by ws p None left waits none =
      let wait = All-filter (stays nearness tag number) (IsWait origin jitter stream) ws waits in (
        rw none refl,
        rw none (All-push (IsWait origin jitter stream) p.waiting _ (rw left wait)
            (record { e = e; copy = copy; number = refl; bytes = refl; delayed = delayed })),
      )
  met_by ws p (Some w) left waits some =
      let wait = All-filter (stays nearness tag number) (IsWait origin jitter stream) ws waits in
      let at = find_says (is_twin nearness tag number) (kept nearness tag number ws) w (rw left at some) in (
        rw (some, near_copies w (All-contains (IsWait origin jitter stream) _ w wait at.0) at.1) refl,
        rw (some, left) (all_removed (IsWait origin jitter stream) (kept nearness tag number ws) _ wait),
      )

  -- A frame differs from no twin, and what waits after it are records of copies.
  pub wait_met : (p : Pairing) → All (IsWait origin jitter stream) p.waiting
      → (twin_deviation nearness tag number e.frame (left_waiting nearness tag number p) ≡ None)
      × All (IsWait origin jitter stream) (pairing_with nearness tag number e.frame (left_waiting nearness tag number p)).waiting
  unfolding left_waiting
  wait_met p waits = met_by p.waiting (left_waiting nearness tag number p) _ refl waits refl

-- ---- of all links

-- the twins of a link on both networks: the frames that are to come, and those that wait, are copies of one stream
pub record AreCopies (gap : ℕ) (origin : Net → ℕ) (jitter : ℕ) (rest : Net → List Entry) (p : Pairing) : Type 0 where
  pub stream : List Entry
  pub is_stream : IsStream gap stream
  pub copies : (net : Net) → All (IsCopy stream net) (rest net)
  pub waits : All (IsWait origin jitter stream) p.waiting

abbrev pub AreCopied : Plan → (Net → ℕ) → Options → ℕ → (Net → List Entry) → Pairing → Type 0
AreCopied plan origin options k rest p = is_both (link_plan_at plan.links k).networks ≡ true
    → AreCopies (bag_micros (link_plan_at plan.links k).bag) origin options.jitter rest p

-- They are after a packet, and its frame differs from no twin.
pub copies_go_on : (plan : Plan) (origin : Net → ℕ) (options : Options) (times : Times) (told : Bool) (links : List Link) (net : Net)
    (number : ℕ) (packet : Recorded) (e : Entry) (es : List Entry) (rest : Net → List Entry) → AreFit plan options origin → rest net ≡ e ∷ es
    → (t : IsPacketTaken plan origin options times told links net number packet e es rest) → AreTwins plan (AreCopied plan origin options) links rest
    → IsSame plan options times t.known.k (tag_of net number t.at) e.frame (link_at links t.known.k)
    × AreTwins plan (AreCopied plan origin options) t.new (rest_after net es rest)
copies_go_on plan origin options times told links net number packet e es rest fit next t twins = (
  λ both. (met both).0,
  twins_go_on plan origin options times told links net number packet e es rest (AreCopied plan origin options) (AreCopied plan origin options)
      next t twins after (λ j is. is),
)
  where
    k : ℕ
    k = t.known.k

    tag : Tag
    tag = tag_of net number t.at

    first : link_stream (id_of plan k) (rest net) ≡ e ∷ link_stream (id_of plan k) es
    first = stream_next (id_of plan k) (rest net) e es next t.known.link

    pair : is_both (link_plan_at plan.links k).networks ≡ true
        → AreCopies (bag_micros (link_plan_at plan.links k).bag) origin options.jitter (rest_of plan k rest) (link_at links k).twins
    pair both = twins k t.known.within both

    met : (both : is_both (link_plan_at plan.links k).networks ≡ true)
        → (twin_deviation (nearness_at options net t.at times) tag (number_in e.frame) e.frame (left_at options times tag e.frame (link_at links k)) ≡ None)
        × All (IsWait origin options.jitter (pair both).stream)
        (pairing_with (nearness_at options net t.at times) tag (number_in e.frame) e.frame (left_at options times tag e.frame (link_at links k))).waiting
    met both = wait_met origin options.jitter options.skew (nearness_at options net t.at times) (bag_micros (link_plan_at plan.links k).bag)
        (pair both).stream tag e (pair both).is_stream refl (fit.skew k t.known.within both)
        (All-head (IsCopy (pair both).stream net) e _ (rw first at ((pair both).copies net))) t.delayed (link_at links k).twins (pair both).waits

    after : AreCopied plan origin options k (rest_of plan k (rest_after net es rest)) (link_at t.new k).twins
    after both = record {
      stream = (pair both).stream;
      is_stream = (pair both).is_stream;
      copies = λ m. rest_holds (λ m xs. All (IsCopy (pair both).stream m) (link_stream (id_of plan k) xs)) rest es net m
          (λ apart. (pair both).copies m) (All-tail (IsCopy (pair both).stream net) e _ (rw first at ((pair both).copies net)));
      waits = rw (t.both both) (met both).1;
    }

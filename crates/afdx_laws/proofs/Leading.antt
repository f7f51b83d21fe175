-- The twins of a link on both networks, where both got all and the recording is in the order of time: the frames that wait
-- are those by which one network leads, and each finds its twin.
use Rattle.afdx_laws.proofs.JudgeNames.{A, All, All-push, All-tail, All-weaker, AllZip, AllZip-long, all_zipped_more, B, Entry, List, Nearness, Net, None, Option, Pairing, Tag, Total, Wait, ap, append_assoc, arith, cases_Bool, entry, eq-eqb, false, filter, find, get_or, get_or-append-add, get_or-append_seam, get_or-map, get_or_append_left, get_or_default, is_lost, is_near, is_passed, is_twin, kept, lag_of, left_waiting, length, length-append, length-map, length-twin, map, nat_tests, number_in, pairing_with, refl, same_net, side, sym, true, twin_number, ℕ, [], ◌*◌, ◌++◌, ◌+◌, ◌<◌, ◌∙◌, ◌∷◌, ◌≡◌, ◌≤◌, ◌⊎◌}
use Rattle.afdx_laws.proofs.Copies.{IsStream, far, lag_bound, own_at}
use Rattle.afdx_laws.proofs.Line.{IsDelayed}
use Rattle.afdx_laws.proofs.ReadFrames.{zip_at}
use Rattle.afdx_laws.proofs.Recording.{rest_after, same_self}

abbrev pub other : Net → Net
other A = B
other B = A

same_other : (net : Net) → same_net (other net) net ≡ false
same_other net = grind (arith, nat_tests)

other_other : (net : Net) → other (other net) ≡ net
other_other net = grind (arith, nat_tests)

pub rest_both : (net : Net) (es : List Entry) (rest : Net → List Entry)
    → (rest_after net es rest net ≡ es) × (rest_after net es rest (other net) ≡ rest (other net))
rest_both net es rest = grind (arith, nat_tests)

which : (lead net : Net) → (lead ≡ net) ⊎ (lead ≡ other net)
which lead net = grind (arith, nat_tests)

-- a frame that waits is the leading network's copy of an entry
pub record IsWaitFor (origin : Net → ℕ) (jitter : ℕ) (lead : Net) (own : Entry) (w : Wait) : Type 0 where
  pub net : w.tag.net ≡ lead
  pub number : w.number ≡ number_in own.frame
  pub delayed : IsDelayed (origin lead) jitter own.at w.tag.at

-- A network leads by the entries `ahead` of a stream, which wait; `coming` are to come on both.
pub record IsLedBy (stream : List Entry) (origin : Net → ℕ) (jitter : ℕ) (rest : Net → List Entry) (waiting : List Wait) (lead : Net) : Type 0 where
  pub done : List Entry
  pub ahead : List Entry
  pub coming : List Entry
  pub whole : stream ≡ done ++ (ahead ++ coming)
  pub leads : rest lead ≡ map (side lead) coming
  pub lags : rest (other lead) ≡ map (side (other lead)) (ahead ++ coming)
  pub waits : AllZip (IsWaitFor origin jitter lead) ahead waiting

-- none of the entries is past at a time
abbrev pub AreOpen : (origin jitter now : ℕ) → List Entry → Type 0
AreOpen origin jitter now es = All (λ (e : Entry). now ≤ origin + 1000 * (e.at + jitter)) es

-- the times of those that wait
abbrev pub ArePast : ℕ → List Wait → Type 0
ArePast latest ws = All (λ (w : Wait). w.tag.at ≤ latest) ws

pub past_later : (latest later : ℕ) (ws : List Wait) → latest ≤ later → ArePast latest ws → ArePast later ws
past_later latest later ws up past = grind (arith, nat_tests, All-weaker)

-- none that waits is passed
abbrev pub AllStay : Nearness → Tag → ℕ → List Wait → Type 0
AllStay nearness tag number ws = All (λ (w : Wait). is_passed nearness tag number w ≡ false) ws

pub stay_kept : (nearness : Nearness) (tag : Tag) (number : ℕ) (ws : List Wait) → AllStay nearness tag number ws
    → (filter (is_lost nearness tag number) ws ≡ []) × (kept nearness tag number ws ≡ ws)
stay_kept nearness tag number [] all = (refl, refl)
stay_kept nearness tag number (w ∷ ws) all =
    let later = stay_kept nearness tag number ws (All-tail (λ (w : Wait). is_passed nearness tag number w ≡ false) w ws all) in
    rw (all 0 w (omega arith)) (later.0, rw later.1 refl)

open_ahead : (origin jitter now : ℕ) (net : Net) (rest ahead coming : List Entry) → rest ≡ map (side net) (ahead ++ coming)
    → AreOpen origin jitter now rest → AreOpen origin jitter now ahead
open_ahead origin jitter now net rest ahead coming is all i spare inside =
    let both : i < length (ahead ++ coming) = omega (arith, length-append ahead coming) in
    let here : get_or rest i (side net spare) ≡ side net (get_or ahead i spare) = ap (λ (es : List Entry). get_or es i (side net spare)) is
    ∙ get_or-map (side net) (ahead ++ coming) i spare (side net spare) both ∙ ap (side net) (get_or_append_left ahead coming spare i inside) in
    rw here at (all i (side net spare) (omega (arith, ap length is, length-map (ahead ++ coming) (side net))))

-- an entry of the stream with the number of one before it comes 255 gaps later
later_apart : (gap : ℕ) (stream done ahead coming : List Entry) (c : Entry) → IsStream gap stream → stream ≡ done ++ (ahead ++ c ∷ coming)
    → All (λ (o : Entry). number_in o.frame ≡ number_in c.frame → o.at + 255 * gap ≤ c.at) ahead
later_apart gap stream done ahead coming c is whole = λ i spare inside same.
    let first : own_at stream (length done + i) ≡ get_or ahead i spare = rw whole (get_or-append-add done (ahead ++ c ∷ coming) i (entry 0 [])
    ∙ get_or_append_left ahead (c ∷ coming) (entry 0 []) i inside ∙ get_or_default ahead i (entry 0 []) spare inside) in
    let second : own_at stream (length done + length ahead) ≡ c = rw whole (get_or-append-add done (ahead ++ c ∷ coming) (length ahead) (entry 0 [])
    ∙ get_or-append_seam ahead c coming (entry 0 [])) in
    let within : length done + length ahead < length stream = rw whole (simp length-append (omega arith)) in
    let apart = far gap (length done + i) (length done + length ahead) stream is (omega arith) within
    (ap (λ (e : Entry). number_in e.frame) first ∙ same ∙ sym (ap (λ (e : Entry). number_in e.frame) second)) in
    rw (first, second) at apart

-- a frame in the order of time is within the skew of one that waits and whose twin is still to come
near_one : (origin : Net → ℕ) (jitter skew latest : ℕ) (nearness : Nearness) (tag : Tag) (lead : Net) (own : Entry) (w : Wait)
    → nearness.skew ≡ 1000 * skew → 1000 * jitter + lag_of origin ≤ 1000 * skew → latest ≤ tag.at → IsWaitFor origin jitter lead own w → w.tag.at ≤ latest
    → tag.at ≤ origin (other lead) + 1000 * (own.at + jitter) → is_near nearness w.tag.at tag.at ≡ true
near_one origin jitter skew latest nearness tag lead own w is_skew fit later wait past late =
    let lag = lag_bound origin (other lead) lead in grind (arith, nat_tests)

-- what does not pass a frame that waits
stays_one : (origin : Net → ℕ) (jitter skew latest : ℕ) (nearness : Nearness) (tag : Tag) (number : ℕ) (lead : Net) (own : Entry) (w : Wait)
    → nearness.skew ≡ 1000 * skew → 1000 * jitter + lag_of origin ≤ 1000 * skew → latest ≤ tag.at → IsWaitFor origin jitter lead own w → w.tag.at ≤ latest
    → tag.at ≤ origin (other lead) + 1000 * (own.at + jitter) → (same_net lead tag.net ≡ true → number_in own.frame ≡ number → ⊥)
    → is_passed nearness tag number w ≡ false
stays_one origin jitter skew latest nearness tag number lead own w is_skew fit later wait past late unlike =
    let near = near_one origin jitter skew latest nearness tag lead own w is_skew fit later wait past late in
    grind (arith, nat_tests, cases_Bool)

all_stay : (origin : Net → ℕ) (jitter skew latest : ℕ) (nearness : Nearness) (tag : Tag) (number : ℕ) (lead : Net) (ahead : List Entry) (ws : List Wait)
    → nearness.skew ≡ 1000 * skew → 1000 * jitter + lag_of origin ≤ 1000 * skew → latest ≤ tag.at → AllZip (IsWaitFor origin jitter lead) ahead ws
    → All (λ (w : Wait). w.tag.at ≤ latest) ws → AreOpen (origin (other lead)) jitter tag.at ahead
    → All (λ (o : Entry). same_net lead tag.net ≡ true → number_in o.frame ≡ number → ⊥) ahead
    → All (λ (w : Wait). is_passed nearness tag number w ≡ false) ws
all_stay origin jitter skew latest nearness tag number lead ahead ws is_skew fit later zip past late unlike = λ i spare inside.
    let own : Entry = get_or ahead i (entry 0 []) in
    let both = AllZip-long (IsWaitFor origin jitter lead) ahead ws zip in
    stays_one origin jitter skew latest nearness tag number lead own (get_or ws i spare) is_skew fit later
    (zip_at (IsWaitFor origin jitter lead) ahead ws i (entry 0 []) spare zip inside) (past i spare inside)
    (late i (entry 0 []) (omega arith)) (unlike i (entry 0 []) (omega arith))

no_twin : (origin : Net → ℕ) (jitter : ℕ) (nearness : Nearness) (tag : Tag) (number : ℕ) (ahead : List Entry) (ws : List Wait)
    → AllZip (IsWaitFor origin jitter tag.net) ahead ws → find (is_twin nearness tag number) ws ≡ None
no_twin origin jitter nearness tag number [] [] zip = refl
no_twin origin jitter nearness tag number (o ∷ os) (w ∷ ws) zip =
    rw (zip.0.net, same_self tag.net) (no_twin origin jitter nearness tag number os ws zip.1)
no_twin origin jitter nearness tag number ahead ws zip = absurd zip

first_met : (nearness : Nearness) (tag : Tag) (number : ℕ) (frame : List ℕ) (lead : Option ℕ) (leads : Total) (w : Wait) (ws : List Wait) → is_twin nearness tag number w ≡ true
    → (pairing_with nearness tag number frame (record { waiting = w ∷ ws; lead = lead; leads = leads })).waiting ≡ ws
unfolding pairing_with
first_met nearness tag number frame lead leads w ws is = grind arith

-- none that waits is passed, and a network leads on
pub record LeadsOn (stream : List Entry) (origin : Net → ℕ) (jitter : ℕ) (nearness : Nearness) (tag : Tag) (e : Entry) (next : Net → List Entry)
    (p : Pairing) : Type 0 where
  pub stay : AllStay nearness tag (number_in e.frame) p.waiting
  pub lead : Net
  pub after : IsLedBy stream origin jitter next (pairing_with nearness tag (number_in e.frame) e.frame (left_waiting nearness tag (number_in e.frame) p)).waiting lead
  pub past : ArePast tag.at (pairing_with nearness tag (number_in e.frame) e.frame (left_waiting nearness tag (number_in e.frame) p)).waiting

-- the next frame
module _ (stream : List Entry) (gap : ℕ) (origin : Net → ℕ) (jitter skew latest : ℕ) (nearness : Nearness) (tag : Tag) (p : Pairing) (e : Entry)
    (es : List Entry) (rest next : Net → List Entry) (is_stream : IsStream gap stream) (is_skew : nearness.skew ≡ 1000 * skew)
    (fit : 1000 * jitter + lag_of origin ≤ 1000 * skew) (sum : 1000 * (skew + jitter) + lag_of origin < 255000 * gap) (later : latest ≤ tag.at)
    (delayed : IsDelayed (origin tag.net) jitter e.at tag.at)
    (limits : (net : Net) → AreOpen (origin net) jitter tag.at (rest net)) (long : 60 ≤ length e.frame) (first : rest tag.net ≡ e ∷ es)
    (own : next tag.net ≡ es) (others : next (other tag.net) ≡ rest (other tag.net)) where
  abbrev number : ℕ
  number = number_in e.frame

  abbrev Leads : Type 0
  Leads = LeadsOn stream origin jitter nearness tag e next p

  -- the number of the entry of which it is a copy
  same : (o : Entry) → e ≡ side tag.net o → number ≡ number_in o.frame
  same o is = ap (λ (d : Entry). number_in d.frame) is ∙ twin_number tag.net o.frame (rw (length-twin tag.net o.frame) at (rw is at long))

  -- its network leads
  own_leads : (done ahead coming : List Entry) → stream ≡ done ++ (ahead ++ coming) → e ∷ es ≡ map (side tag.net) coming
      → rest (other tag.net) ≡ map (side (other tag.net)) (ahead ++ coming) → AllZip (IsWaitFor origin jitter tag.net) ahead p.waiting
      → ArePast latest p.waiting → Leads
  unfolding left_waiting pairing_with
  own_leads done ahead [] whole leads lags waits past = absurd (cc (leads))
  own_leads done ahead (c ∷ cs) whole leads lags waits past = record {
    stay = stay;
    lead = tag.net;
    after = record {
      done = done;
      ahead = ahead ++ c ∷ [];
      coming = cs;
      whole = rw append_assoc whole;
      leads = own ∙ cc (leads);
      lags = rw append_assoc (others ∙ lags);
      waits = rw (left, none) (all_zipped_more (IsWaitFor origin jitter tag.net) ahead p.waiting c new waits
          (record { net = refl; number = same c is; delayed = rw is at delayed }));
    };
    past = rw (left, none) (All-push (λ (w : Wait). w.tag.at ≤ tag.at) p.waiting new (past_later latest tag.at p.waiting later past) (omega arith));
  }
    where
      is : e ≡ side tag.net c
      is = cc (leads)

      new : Wait
      new = record { tag = tag; number = number; bytes = e.frame }

      still : AreOpen (origin (other tag.net)) jitter tag.at ahead
      still = open_ahead (origin (other tag.net)) jitter tag.at (other tag.net) (rest (other tag.net)) ahead (c ∷ cs) lags (limits (other tag.net))

      unlike : All (λ (o : Entry). same_net tag.net tag.net ≡ true → number_in o.frame ≡ number → ⊥) ahead
      unlike = let number_is = same c is in let time : IsDelayed (origin tag.net) jitter c.at tag.at = rw is at delayed in
          let lag = lag_bound origin (other tag.net) tag.net in grind (arith, later_apart, still)

      stay : AllStay nearness tag number p.waiting
      stay = all_stay origin jitter skew latest nearness tag number tag.net ahead p.waiting is_skew fit later waits past still unlike

      left : kept nearness tag number p.waiting ≡ p.waiting
      left = (stay_kept nearness tag number p.waiting stay).1

      none : find (is_twin nearness tag number) p.waiting ≡ None
      none = no_twin origin jitter nearness tag number ahead p.waiting waits

  -- the other network leads
  other_leads : (done ahead coming : List Entry) (ws : List Wait) → p.waiting ≡ ws → stream ≡ done ++ (ahead ++ coming)
      → rest (other tag.net) ≡ map (side (other tag.net)) coming → e ∷ es ≡ map (side tag.net) (ahead ++ coming)
      → AllZip (IsWaitFor origin jitter (other tag.net)) ahead ws → ArePast latest ws → Leads
  unfolding left_waiting
  other_leads done [] coming [] is whole leads lags waits past = own_leads done [] coming whole lags leads (rw is tt) (rw is past)
  other_leads done (o ∷ os) coming (w ∷ ws) is whole leads lags waits past = record {
    stay = rw is stay;
    lead = other tag.net;
    after = record {
      done = done ++ o ∷ [];
      ahead = os;
      coming = coming;
      whole = rw append_assoc whole;
      leads = others ∙ leads;
      lags = rw (other_other tag.net) (own ∙ cc (lags));
      waits = rw left waits.1;
    };
    past = rw left (past_later latest tag.at ws later (All-tail (λ (w : Wait). w.tag.at ≤ latest) w ws past));
  }
    where
      number_is : number ≡ number_in o.frame
      number_is = same o (cc (lags))

      still : AreOpen (origin (other (other tag.net))) jitter tag.at (o ∷ os)
      still = rw (other_other tag.net) (open_ahead (origin tag.net) jitter tag.at tag.net (rest tag.net) (o ∷ os) coming (first ∙ lags) (limits tag.net))

      near : is_near nearness w.tag.at tag.at ≡ true
      near = near_one origin jitter skew latest nearness tag (other tag.net) o w is_skew fit later waits.0 (past 0 w (omega arith)) (still 0 o (omega arith))

      twin : is_twin nearness tag number w ≡ true
      twin = rw (waits.0.net, same_other tag.net, near, eq-eqb w.number number (waits.0.number ∙ sym number_is)) refl

      stay : AllStay nearness tag number (w ∷ ws)
      stay = all_stay origin jitter skew latest nearness tag number (other tag.net) (o ∷ os) (w ∷ ws) is_skew fit later waits past
          still (λ i spare inside both. absurd (cc (both, same_other tag.net)))

      left : (pairing_with nearness tag number e.frame (left_waiting nearness tag number p)).waiting ≡ ws
      left = rw (is, (stay_kept nearness tag number (w ∷ ws) stay).1) (first_met nearness tag number e.frame p.lead p.leads w ws twin)
  other_leads done ahead coming ws is whole leads lags waits past = absurd waits

  pub leads_on : (lead : Net) → IsLedBy stream origin jitter rest p.waiting lead → ArePast latest p.waiting → Leads
  leads_on lead is past = grind (arith, nat_tests, which, own_leads, other_leads, other_other)

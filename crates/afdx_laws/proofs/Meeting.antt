-- Twins wanted: what each packet without a finding does to the frames that wait, and the law.
use Rattle.afdx_laws.proofs.JudgeNames.{has_check, Bool, Contains, Link, List, Nearness, None, OnNet, Option, Options, Pairing, Plan, PortPlan, Setting, Some, Tag, Times, Wait, arith, cases_Bool, cases_eq, false, filter, find, found_from, found_missing, found_on_link, found_with_packet, inl, inr, is_both, is_heard_before, is_lost, is_twin, kept, left_waiting, length, length-set, link_at, link_plan_at, nat_tests, number_in, pairing_with, position_or_len, refl, remove, slice_index, stays, subst, sym, tag_of, time_of, times_with, true, twin_deviation, with_verdict, ℕ, [], ◌++◌, ◌∙◌, ◌∷◌, ◌≡◌, ◌≢◌, ◌≤◌, ◌⊎◌, interface_byte}
use Rattle.afdx_laws.proofs.Message.{port_at}
use Rattle.afdx_laws.proofs.ReadFrames.{back_none, number_of}
use Rattle.afdx_laws.proofs.Recording.{after_is, found_is, judge_of, line_given_up, nearness_at, new_at, new_links, other_at, setting_at, twins_after}
use Rattle.afdx_laws.proofs.SentTo.{IsPacketSilent, grows, next_none, packet_silent}
use Rattle.afdx_laws.proofs.Wanted.{AreAlike, IsIn, alike, fails_in, found_in, in_back, in_before, in_front, in_kept, in_left, in_parts, in_whole, none_told}
use Rattle.afdx_laws.proofs.Whole.{time_is}
use Rattle.afdx_laws.proofs.ListLemmas.{nil_begins}

-- ---- a link on both networks

-- no frame is given up, and the new one differs from no twin
pub record IsMetWell (nearness : Nearness) (tag : Tag) (frame : List ℕ) (p : Pairing) : Type 0 where
  pub lost : filter (is_lost nearness tag (number_in frame)) p.waiting ≡ []
  pub same : twin_deviation nearness tag (number_in frame) frame (left_waiting nearness tag (number_in frame) p) ≡ None

pub link_met : (setting : Setting) (tag : Tag) (port : Option PortPlan) (frame : List ℕ) (link : Link) → is_both setting.plan.networks ≡ true
    → found_on_link setting tag port frame link [] ≡ [] → IsMetWell setting.nearness tag frame link.twins
unfolding found_on_link with_verdict found_missing
link_met setting tag port frame link both none = grind (arith, nat_tests, back_none, line_given_up, nil_begins, cases_Bool, number_of, none_told)

-- the frames that wait after a frame
abbrev pub waits_after : Nearness → Tag → List ℕ → Pairing → List Wait
waits_after nearness tag frame p =
    (pairing_with nearness tag (number_in frame) frame (left_waiting nearness tag (number_in frame) p)).waiting

abbrev pub wait_of : Tag → List ℕ → Wait
wait_of tag frame = record { tag = tag; number = number_in frame; bytes = frame }

-- a frame meets one that waits, or waits itself
pub record Meets (nearness : Nearness) (tag : Tag) (frame : List ℕ) (p : Pairing) (w : Wait) : Type 0 where
  pub waited : IsIn w p.waiting
  pub twin : is_twin nearness tag (number_in frame) w ≡ true
  pub alike : AreAlike w.bytes frame

module _ (nearness : Nearness) (tag : Tag) (frame : List ℕ) (p : Pairing) (well : IsMetWell nearness tag frame p) where
  abbrev own : Wait → Bool
  own w = is_twin nearness tag (number_in frame) w

  abbrev left : List Wait
  left = kept nearness tag (number_in frame) p.waiting

  meets : (w : Wait) → find own left ≡ Some w → Meets nearness tag frame p w
  unfolding twin_deviation left_waiting
  meets w found =
      let is = found_in own w left found in
      record {
        waited = in_whole (stays nearness tag (number_in frame)) w p.waiting is.0;
        twin = is.1;
        alike = alike w.bytes frame (grind (arith, nat_tests, well.same, found));
      }

  after_none : find own left ≡ None → waits_after nearness tag frame p ≡ left ++ wait_of tag frame ∷ []
  unfolding pairing_with left_waiting
  after_none found = rw (waits_after, found) refl

  after_some : (w : Wait) → find own left ≡ Some w → waits_after nearness tag frame p ≡ remove left (position_or_len own left)
  unfolding pairing_with left_waiting
  after_some w found = rw (waits_after, found) refl

  -- one that waits and whose twin is wanted waits on, or is met
  pub waits_on : (w : Wait) → IsIn w p.waiting → is_heard_before nearness w.tag ≡ true
      → IsIn w (waits_after nearness tag frame p) ⊎ Meets nearness tag frame p w
  waits_on w is before = by (find own left) refl
    where
      still : IsIn w left
      still = in_kept (stays nearness tag (number_in frame)) w p.waiting is
          (let lost = fails_in (is_lost nearness tag (number_in frame)) w p.waiting well.lost is in grind (arith, nat_tests, cases_Bool))

      by : (found : Option Wait) → find own left ≡ found → IsIn w (waits_after nearness tag frame p) ⊎ Meets nearness tag frame p w
      by None found = inl (subst (IsIn w) (sym (after_none found)) (in_front w left _ still))
      by (Some v) found = elim (in_left own w v left found still) [
        | inl same ↦ inr (subst (Meets nearness tag frame p) same (meets v found))
        | inr rest ↦ inl (subst (IsIn w) (sym (after_some v found)) rest)
      ]

  -- the new one waits, or meets one
  pub comes : IsIn (wait_of tag frame) (waits_after nearness tag frame p) ⊎ ((w : Wait) × Meets nearness tag frame p w)
  comes = by (find own left) refl
    where
      by : (found : Option Wait) → find own left ≡ found
          → IsIn (wait_of tag frame) (waits_after nearness tag frame p) ⊎ ((w : Wait) × Meets nearness tag frame p w)
      by None found = inl (subst (IsIn (wait_of tag frame)) (sym (after_none found)) (in_back (wait_of tag frame) left _ (inl refl)))
      by (Some v) found = inr (v, meets v found)

  -- what waits afterwards waited before, or is the new one
  pub waited : (w : Wait) → IsIn w (waits_after nearness tag frame p) → IsIn w p.waiting ⊎ (wait_of tag frame ≡ w)
  waited w is = by (find own left) refl
    where
      old : IsIn w left → IsIn w p.waiting
      old = in_whole (stays nearness tag (number_in frame)) w p.waiting

      by : (found : Option Wait) → find own left ≡ found → IsIn w p.waiting ⊎ (wait_of tag frame ≡ w)
      by None found = elim (in_parts w left _ (subst (IsIn w) (after_none found) is)) [
        | inl front ↦ inl (old front)
        | inr back ↦ elim back [ inl same ↦ inr same | inr none ↦ absurd none ]
      ]
      by (Some v) found = inl (old (in_before own w v left found (subst (IsIn w) (after_some v found) is)))

-- ---- a packet

-- a packet is a frame of its network
pub record IsFrameOn (p : OnNet) : Type 0 where
  pub long : 60 ≤ length p.packet.bytes
  pub interface : slice_index p.packet.bytes 11 ≡ interface_byte p.net

-- a frame that waits is that of a packet of the recording
pub record IsPacketOf (recording : List OnNet) (w : Wait) : Type 0 where
  pub packet : OnNet
  pub member : Contains recording packet
  pub net : w.tag.net ≡ packet.net
  pub at : w.tag.at ≡ time_of packet.packet
  pub bytes : w.bytes ≡ packet.packet.bytes
  pub frame : IsFrameOn packet

-- a packet without a finding, and the judge after it
module _ (plan : Plan) (options : Options) (times : Times) (links : List Link) (p : OnNet) (ps : List OnNet) (plain : has_check options p.packet ≡ false)
    (size : length links ≡ length plan.links) (none : found_from (p ∷ ps) (judge_of plan options times false links) [] ≡ []) where
  first : found_with_packet p.net p.number p.packet (judge_of plan options times false links) [] ≡ []
  first = grows ps _ _ none

  pub its : IsPacketSilent plan options times links p.net p.number p.packet
  its = packet_silent plan options times links p.net p.number p.packet plain first

  pub tag : Tag
  tag = tag_of p.net p.number its.at

  abbrev pub now : Times
  now = times_with p.net its.at times

  abbrev pub links_now : List Link
  links_now = new_links plan options times links its.k (tag_of p.net p.number its.at) p.packet.bytes

  pub time : time_of p.packet ≡ its.at
  time = time_is p.packet its.at its.timed

  pub size_now : length links_now ≡ length plan.links
  size_now = length-set links its.k _ ∙ size

  pub none_now : found_from ps (judge_of plan options now false links_now) [] ≡ []
  none_now = next_none ps _ _ _ (after_is plan options times false links p.net p.number its.at p.packet p.packet.bytes its.k its.timed
      its.whole its.placed) first none

  pub frame_on : IsFrameOn p
  frame_on = record { long = its.admitted.profile.size.0; interface = its.admitted.placed.interface }

  abbrev pub near : Nearness
  near = nearness_at options p.net its.at times

  pub met : is_both (link_plan_at plan.links its.k).networks ≡ true
      → IsMetWell near (tag_of p.net p.number its.at) p.packet.bytes (link_at links its.k).twins
  met both = link_met (setting_at plan options p.net its.at times its.k) (tag_of p.net p.number its.at) (port_at plan its.k p.packet.bytes)
      p.packet.bytes (link_at links its.k) both
      (sym (found_is plan options times false links p.net p.number its.at p.packet p.packet.bytes its.k its.timed its.whole its.placed []) ∙ first)

  pub waiting_now : is_both (link_plan_at plan.links its.k).networks ≡ true → (link_at links_now its.k).twins.waiting
      ≡ waits_after near (tag_of p.net p.number its.at) p.packet.bytes (link_at links its.k).twins
  waiting_now both = rw (
    new_at plan options times links its.k (tag_of p.net p.number its.at) p.packet.bytes (rw size its.admitted.placed.within),
    twins_after (setting_at plan options p.net its.at times its.k) (tag_of p.net p.number its.at) (port_at plan its.k p.packet.bytes)
        p.packet.bytes (link_at links its.k) both,
    number_of p.packet.bytes,
  ) refl

  pub others_now : (j : ℕ) → j ≢ its.k → link_at links_now j ≡ link_at links j
  others_now j other = other_at plan options times links its.k (tag_of p.net p.number its.at) p.packet.bytes j other

  -- what waits on a link afterwards
  pub packets_now : (recording : List OnNet) (k : ℕ) → is_both (link_plan_at plan.links k).networks ≡ true → Contains recording p
      → ((w : Wait) → IsIn w (link_at links k).twins.waiting → IsPacketOf recording w)
      → (w : Wait) → IsIn w (link_at links_now k).twins.waiting → IsPacketOf recording w
  packets_now recording k both member waits w is = elim (cases_eq k its.k) [
    | inl same ↦ elim (waited near (tag_of p.net p.number its.at) p.packet.bytes (link_at links its.k).twins (met (rw same at both)) w
        (rw (waiting_now (rw same at both)) at (rw same at is))) [
          | inl before ↦ waits w (rw same before)
          | inr new ↦ subst (IsPacketOf recording) new (record {
            packet = p;
            member = member;
            net = refl;
            at = sym time;
            bytes = refl;
            frame = frame_on;
          })
        ]
    | inr other ↦ waits w (rw (others_now k other) at is)
  ]

-- Worked transmissions of the demonstration plan. One message of one byte is accepted, and its frame
-- sent to both networks at time 0; also if that message was all that its port had accepted, and with the link on
-- network A alone. Then two messages, the second sent some time after the first.
use Rattle.std.specs.Prelude.{◌≡◌, ℕ, List, [], ◌∷◌, take, All, ◌≤◌, length}
use Rattle.std.specs.List.{AllZip}
use Rattle.afdx_plan.specs.Config.{IsPlan, Plan, link_plan_at}
use Rattle.afdx_plan.specs.Demo.{demo_plan, demo_link, demo_port}
use Rattle.afdx_plan.specs.declared.link_plan.Networks.{Networks}
use Rattle.afdx_plan.specs.declared.link_plan.Networks.TheVariants.{Both, OnlyA}
use Rattle.afdx_frame.specs.declared.net.Net.{Net}
use Rattle.afdx_frame.specs.declared.net.Net.TheVariants.{A, B}
use Rattle.afdx_frame.specs.Cutting.{piece_at}
use Rattle.afdx_frame.specs.Frame.{frame_of}
use Rattle.afdx_frame.specs.Fragments.{Sent}
use Rattle.afdx_frame.specs.Header.{number_in}
use Rattle.redundant_mux.specs.Lines.{Entry, entry, only}
use Rattle.afdx_legal.specs.Streams.{link_stream, IsPrefixOf, own_stream}
use Rattle.afdx_legal.specs.Legal.{Accepted, IsLegalOn, IsLegal, on_both}
use Rattle.afdx_legal.specs.Accepted.{IsQueued, IsHandedWhole}
use Rattle.afdx_legal.specs.Worked.{one_byte, one_byte_accepted, one_frame, one_entry_at}
use Rattle.afdx_laws.specs.Policer.{Passage, AllPass, IsOnItsWay, by_bytes, by_frames, passage}
use Rattle.afdx_laws.specs.Receiver.{Tolerance, IsFitFor, begin, received, carried, most_carried}
use Rattle.afdx_laws.specs.Loss.{AreClose}
use Rattle.afdx_laws.specs.Delivery.{messages_in, AreFirst, AreCarriedOf}
use Rattle.afdx_laws.specs.Plans.{frames_of, longer_of, rule_at, all_from, IsHandedOver, AreOwnLists, IsOnBoth, AreTwinsWhole}
use Rattle.afdx_laws.specs.Rows.{BothFail, NeedsEach}
use Rattle.afdx_laws.specs.WorkedDelivery.{plain_receiver, closed_receiver, back_frame, first_lost, messages_despite}

-- the frame sent to the network
abbrev pub one_entry : Net → List Entry
one_entry net = one_entry_at 0 net

-- the two frames that arrive, B's first
abbrev pub two_arrivals : List (Net × List ℕ)
two_arrivals = (B, one_frame B) ∷ (A, one_frame A) ∷ []

-- the frame on its way to a switch: 64 bytes with its check sequence, and 20 around it
abbrev pub one_passage : List Passage
one_passage = passage 0 40 84 ∷ []

-- The worked plan meets the premises of the laws of a plan: the message arrives, and a switch drops no frame.
pub record OneIsLegal : Type 0 where
  pub handed : IsHandedOver demo_plan one_byte_accepted (one_entry A) (one_entry B) 0 0
  pub carry : AreCarriedOf 1 (frames_of 1 (one_entry A)) (frames_of 1 (one_entry B)) two_arrivals
  pub message : messages_in 0 (received number_in plain_receiver begin two_arrivals) ≡ (1 ∷ []) ∷ []
  pub way : AllZip (IsOnItsWay 20 500) (link_stream 1 (one_entry A)) one_passage
  pub passes : AllPass by_bytes (rule_at demo_plan 0 20 500) one_passage

abbrev pub longer_of_one : List (List ℕ)
longer_of_one = longer_of 1 (one_entry A) (one_entry B)

-- network A loses the only frame
abbrev pub only_lost : List (Net × ℕ)
only_lost = (B, 0) ∷ []

-- The message also arrives if network A loses its frame.
pub record LegalDespiteOneLoss : Type 0 where
  pub handed : IsHandedOver demo_plan one_byte_accepted (one_entry A) (one_entry B) 0 0
  pub close : AreClose B (length longer_of_one) 0 0 only_lost
  pub message : messages_despite 1 longer_of_one only_lost ≡ (1 ∷ []) ∷ []
  pub first : AreFirst 1 1479 0 (one_byte_accepted 0 0) (take (length (carried B only_lost)) longer_of_one)
      (messages_despite 1 longer_of_one only_lost)

abbrev pub one_own : ℕ → List (List ℕ)
one_own place = (1 ∷ []) ∷ []

abbrev pub other_own : ℕ → List (List ℕ)
other_own place = (2 ∷ []) ∷ []

-- the receiver's messages are the port's own list
abbrev pub OwnComes : (ℕ → List (List ℕ)) → List (Net × List ℕ) → Type 0
OwnComes own arrivals = AreOwnLists demo_plan 0 0 own (messages_in 0 (received number_in plain_receiver begin arrivals))

-- The worked plan meets the premises of the law of the ports' own lists, and the list arrives.
pub record OneIsWhole : Type 0 where
  pub valid : IsPlan demo_plan
  pub handed : IsHandedWhole demo_plan one_own (one_entry A) (one_entry B)
  pub fit : IsFitFor 1 plain_receiver
  pub carry : AreCarriedOf 1 (frames_of 1 (one_entry A)) (frames_of 1 (one_entry B)) two_arrivals
  pub all : length longer_of_one ≤ most_carried two_arrivals
  pub whole : OwnComes one_own two_arrivals

-- Each premise is needed: another list than the port's own does not arrive, nor does its own if both networks lose the
-- frame.
pub record NeedsAll : Type 0 where
  pub other : BothFail (IsHandedWhole demo_plan other_own (one_entry A) (one_entry B)) (OwnComes other_own two_arrivals)
  pub lost_carry : AreCarriedOf 1 (frames_of 1 (one_entry A)) (frames_of 1 (one_entry B)) []
  pub lost : BothFail (length longer_of_one ≤ most_carried []) (OwnComes one_own [])

-- the demonstration plan, its link on these networks
abbrev pub demo_on : Networks → Plan
demo_on carriers = record demo_plan { links = record demo_link { networks = carriers } ∷ [] }

-- The link is on network A alone, and the frame of one message is sent to that network: the message arrives. To send
-- the frame to network B too would not be legal. If the one network loses the first of two frames, their message is
-- lost.
pub record ComesFromOne : Type 0 where
  pub handed : IsHandedOver (demo_on OnlyA) one_byte_accepted (one_entry A) [] 0 0
  pub alone : (link_plan_at (demo_on OnlyA).links 0).networks ≡ only A
  pub fit : IsFitFor 0 plain_receiver
  pub begins : IsPrefixOf (one_frame A ∷ []) (frames_of 1 (one_entry A))
  pub message :
      messages_in 0 (received number_in plain_receiver begin (all_from A (one_frame A ∷ []))) ≡ (1 ∷ []) ∷ []
  pub first : AreFirst 1 1479 0 (one_byte_accepted 0 0) (one_frame A ∷ [])
      (messages_in 0 (received number_in plain_receiver begin (all_from A (one_frame A ∷ []))))
  pub elsewhere : IsLegal (demo_on OnlyA) one_byte_accepted (one_entry A) (one_entry B) → ⊥
  pub lost : messages_in 0 (received number_in plain_receiver begin (all_from A (back_frame A ∷ []))) ≡ []

-- The link is on both networks: the two lists are twins, and its own stream is the list sent to network A. With the
-- link on network A alone, the list has no entry of a link on both.
pub record AreTwinsOfOne : Type 0 where
  pub both : All IsOnBoth (demo_on Both).links
  pub legal : IsLegal (demo_on Both) one_byte_accepted (one_entry A) (one_entry B)
  pub twins : AreTwinsWhole (demo_on Both) (one_entry A) (one_entry B)
  pub own : own_stream 1 (one_entry A) (one_entry B) ≡ one_entry A
  pub alone : All IsOnBoth (demo_on OnlyA).links → ⊥
  pub cut : on_both (demo_on OnlyA).links (one_entry A) ≡ []

abbrev pub other_byte : Sent
other_byte = record { port = demo_port; bytes = 2 ∷ [] }

-- the accepted messages of the one sub-VL, and in the other order
abbrev pub two_accepted : Accepted
two_accepted k sub = one_byte ∷ other_byte ∷ []

abbrev pub swapped_accepted : Accepted
swapped_accepted k sub = other_byte ∷ one_byte ∷ []

-- the frame of the second message
abbrev pub second_frame : Net → List ℕ
second_frame net = frame_of 1 demo_port (2 ∷ []) 1 (piece_at 1479 9 0) net 1

-- the two frames sent to the network, the second at `now`
abbrev pub pair_at : ℕ → Net → List Entry
pair_at now net = entry 0 (one_frame net) ∷ entry now (second_frame net) ∷ []

abbrev pub two_entries : Net → List Entry
two_entries net = pair_at 1000 net

abbrev pub longer_pair : List (List ℕ)
longer_pair = longer_of 1 (two_entries A) (two_entries B)

-- messages that the pair of frames transmits legally
abbrev pub PairHanded : Accepted → Type 0
PairHanded accepted = IsHandedOver demo_plan accepted (two_entries A) (two_entries B) 0 0

-- The two messages accepted in the other order may be sent, but are not transmitted legally.
pub record AreSwapped : Type 0 where
  pub allowed : All (IsQueued demo_plan 0 0) (swapped_accepted 0 0)
  pub legal : IsLegal demo_plan swapped_accepted (two_entries A) (two_entries B) → ⊥

-- arrivals of both frames of network A, and of the second alone
abbrev pub both_arrive : List (Net × List ℕ)
both_arrive = (A, one_frame A) ∷ (A, second_frame A) ∷ []

abbrev pub second_arrives : List (Net × List ℕ)
second_arrives = (A, second_frame A) ∷ []

-- the conclusion of the law of a plan
abbrev pub PairArrives : Accepted → Tolerance → List (Net × List ℕ) → Type 0
PairArrives accepted tolerance arrivals = AreFirst 1 1479 0 (accepted 0 0) (take (most_carried arrivals) longer_pair)
    (messages_in 0 (received number_in tolerance begin arrivals))

-- Each premise is needed. Messages accepted in another order do not arrive in that order. If no number is new to the
-- receiver, the second does not arrive. If network A loses the first, the second is not the first accepted one.
pub record NeedsLegal : Type 0 where
  pub swapped : AreSwapped
  pub each : NeedsEach PairHanded (IsFitFor 3)
      (AreCarriedOf 3 (frames_of 1 (two_entries A)) (frames_of 1 (two_entries B))) PairArrives
      two_accepted swapped_accepted plain_receiver closed_receiver both_arrive second_arrives

-- both frames arrive from network B alone
abbrev pub both_from_b : List (Net × ℕ)
both_from_b = (B, 0) ∷ (B, 1) ∷ []

-- the conclusion of the law of a plan despite loss
abbrev pub PairDespite : Accepted → ℕ → List (Net × ℕ) → Type 0
PairDespite accepted check came = AreFirst 1 1479 0 (accepted 0 0) (take (length (carried B came)) longer_pair)
    (messages_despite check longer_pair came)

-- Each premise is needed. Messages accepted in another order do not arrive in that order. If the check takes no number
-- but 0, the second does not arrive. If network A loses the first frame and leads, the first does not.
pub record NeedsClose : Type 0 where
  pub swapped : AreSwapped
  pub each : NeedsEach PairHanded (λ (check : ℕ). 1 ≤ check) (AreClose B (length longer_pair) 0 0) PairDespite
      two_accepted swapped_accepted 1 0 both_from_b first_lost

-- the frames on their way to a switch, with their arrivals and the release of the second
abbrev pub pair_passes : (first second now : ℕ) → List Passage
pair_passes first second now = passage 0 first 64 ∷ passage now second 64 ∷ []

-- a switch that charges each frame as the greatest one and allows no jitter passes them
abbrev pub PairPasses : List Passage → Type 0
PairPasses passages = AllPass by_frames (rule_at demo_plan 0 0 0) passages

-- A gap apart both frames pass. A microsecond less apart they are not transmitted legally, and the second is dropped.
-- It is also dropped if the first arrives a microsecond late.
pub record PassesAGapApart : Type 0 where
  pub valid : IsPlan demo_plan
  pub legal : IsLegalOn demo_plan two_accepted A (pair_at 1000 A)
  pub allowed : All (IsQueued demo_plan 0 0) (two_accepted 0 0)
  pub way : AllZip (IsOnItsWay 0 0) (link_stream 1 (pair_at 1000 A)) (pair_passes 0 1000 1000)
  pub passes : PairPasses (pair_passes 0 1000 1000)
  pub early_way : AllZip (IsOnItsWay 0 0) (link_stream 1 (pair_at 999 A)) (pair_passes 0 999 999)
  pub early : BothFail (IsLegalOn demo_plan two_accepted A (pair_at 999 A)) (PairPasses (pair_passes 0 999 999))
  pub late : BothFail (AllZip (IsOnItsWay 0 0) (link_stream 1 (pair_at 1000 A)) (pair_passes 1 1000 1000))
      (PairPasses (pair_passes 1 1000 1000))

-- Every link of a plan: from legal transmission through the switch to the messages at the receiving ends.
use Rattle.std.specs.Prelude.{◌≡◌, ℕ, ◌≤◌, ◌<◌, List, length, map, take, All}
use Rattle.std.specs.List.{AllZip}
use Rattle.afdx_plan.specs.Config.{Plan, IsPlan, link_plan_at, port_plan_at, link_place}
use Rattle.afdx_plan.specs.Plan.{bag_micros, room_of}
use Rattle.afdx_plan.specs.declared.link_plan.LinkPlan.{LinkPlan}
use Rattle.afdx_plan.specs.declared.link_plan.Networks.TheVariants.{Both}
use Rattle.afdx_frame.specs.declared.net.Net.{Net}
use Rattle.afdx_frame.specs.declared.net.Net.TheVariants.{A, B}
use Rattle.afdx_frame.specs.Fragments.{Sent}
use Rattle.afdx_frame.specs.Header.{number_in}
use Rattle.redundant_mux.specs.Lines.{Entry, only, side}
use Rattle.afdx_legal.specs.Streams.{link_stream, IsPrefixOf, longer as longer_stream, own_stream}
use Rattle.afdx_legal.specs.Legal.{Accepted, IsLegalOn, IsLegal, on_both, AreTwins}
use Rattle.afdx_legal.specs.Accepted.{IsQueued, messages_of, IsHandedWhole}
use Rattle.afdx_laws.specs.Policer.{Charge, Rule, Passage, AllPass, IsOnItsWay, rule_around}
use Rattle.afdx_laws.specs.Receiver.{Tolerance, IsFitFor, begin, received, carried, most_carried}
use Rattle.afdx_laws.specs.Loss.{AreClose, next_alone, frames_at}
use Rattle.afdx_laws.specs.Delivery.{messages_in, AreFirst, AreCarriedOf, longer}

abbrev pub id_at : Plan → ℕ → ℕ
id_at plan k = (link_plan_at plan.links k).id.0

abbrev pub piece_room : Plan → ℕ → ℕ
piece_room plan k = room_of (link_plan_at plan.links k).lmax

-- a link's frames among the frames sent to a network
abbrev pub frames_of : ℕ → List Entry → List (List ℕ)
frames_of vl handed = map (λ (e : Entry). e.frame) (link_stream vl handed)

-- a link's frames in the list with more of them
abbrev pub longer_of : ℕ → (a b : List Entry) → List (List ℕ)
longer_of vl a b = longer (frames_of vl a) (frames_of vl b)

-- The lists `a` and `b` were transmitted legally for a valid plan, and the accepted messages of sub-VL `sub` of link
-- `k` are such as its ports may send.
pub record IsHandedOver (plan : Plan) (accepted : Accepted) (a b : List Entry) (k sub : ℕ) : Type 0 where
  pub valid : IsPlan plan
  pub legal : IsLegal plan accepted a b
  pub inside : k < length plan.links
  pub index : sub < (link_plan_at plan.links k).sub_vls
  pub allowed : All (IsQueued plan k sub) (accepted k sub)

-- Each network carries some beginning of a link's frames that were transmitted legally, near to the other. Then the
-- receiver's messages of each sub-VL are the first of its accepted messages, in order and each once, and all whose
-- fragments one network carried. No frame of a link on one network comes from the other.
abbrev pub LegalArrive : Type 0
LegalArrive = (plan : Plan) (accepted : Accepted) (a b : List Entry) (k sub lag : ℕ) (tolerance : Tolerance)
    (arrivals : List (Net × List ℕ)) → IsHandedOver plan accepted a b k sub → IsFitFor lag tolerance
    → AreCarriedOf lag (frames_of (id_at plan k) a) (frames_of (id_at plan k) b) arrivals
    → AreFirst plan.end_system (piece_room plan k) sub (accepted k sub)
    (take (most_carried arrivals) (longer_of (id_at plan k) a b))
    (messages_in sub (received number_in tolerance begin arrivals))

-- The first messages of each sub-VL arrive even if one network loses, repeats and reorders frames, if the other carries
-- all frames of the link and only the next number is new to the receiver.
abbrev pub LegalDespiteLoss : Type 0
LegalDespiteLoss = (plan : Plan) (accepted : Accepted) (a b : List Entry) (k sub check : ℕ) (whole : Net)
    (came : List (Net × ℕ)) → IsHandedOver plan accepted a b k sub → 1 ≤ check
    → AreClose whole (length (longer_of (id_at plan k) a b)) 0 0 came
    → AreFirst plan.end_system (piece_room plan k) sub (accepted k sub)
    (take (length (carried whole came)) (longer_of (id_at plan k) a b))
    (messages_in sub
    (received number_in (next_alone check) begin (frames_at (longer_of (id_at plan k) a b) came)))

-- a switch's rule for a link, if a frame takes `around` bytes more on the wire and the jitter is at most `most`
abbrev pub rule_at : Plan → ℕ → ℕ → ℕ → Rule
rule_at plan k around most =
    rule_around (bag_micros (link_plan_at plan.links k).bag) (link_plan_at plan.links k).lmax most around

-- A switch that polices each link by its gap and its greatest frame drops no frame that was transmitted legally for a
-- valid plan, if each is delayed by at most the jitter.
abbrev pub LegalPasses : Type 0
LegalPasses = (plan : Plan) (accepted : Accepted) (net : Net) (handed : List Entry)
    → IsPlan plan → IsLegalOn plan accepted net handed → (k : ℕ) → k < length plan.links
    → ((sub : ℕ) → sub < (link_plan_at plan.links k).sub_vls → All (IsQueued plan k sub) (accepted k sub))
    → (charge : Charge) (jitter around : ℕ) (passages : List Passage)
    → AllZip (IsOnItsWay around jitter) (link_stream (id_at plan k) handed) passages
    → AllPass charge (rule_at plan k around jitter) passages

-- the frames sent to a network
abbrev pub handed_to : Net → (a b : List Entry) → List Entry
handed_to A a b = a
handed_to B a b = b

abbrev pub all_from : Net → List (List ℕ) → List (Net × List ℕ)
all_from net frames = map (λ (frame : List ℕ). (net, frame)) frames

-- A link is on one network, which carries some beginning of its frames that were transmitted legally. Then the
-- receiver's messages of each sub-VL are the first of its accepted messages, in order and each once, and all whose
-- fragments came.
abbrev pub OneNetworkArrives : Type 0
OneNetworkArrives = (plan : Plan) (accepted : Accepted) (a b : List Entry) (k sub : ℕ) (net : Net)
    (tolerance : Tolerance) (came : List (List ℕ)) → IsHandedOver plan accepted a b k sub
    → (link_plan_at plan.links k).networks ≡ only net → IsFitFor 0 tolerance
    → IsPrefixOf came (frames_of (id_at plan k) (handed_to net a b))
    → AreFirst plan.end_system (piece_room plan k) sub (accepted k sub) came
    (messages_in sub (received number_in tolerance begin (all_from net came)))

-- the port at `place` belongs to sub-VL `sub` of link `k`
pub record IsOn (plan : Plan) (k sub place : ℕ) : Type 0 where
  pub within : place < length plan.ports
  pub link : link_place plan (port_plan_at plan.ports place) ≡ k
  pub its : (port_plan_at plan.ports place).sub ≡ sub

-- A sub-VL's messages are all that its ports accepted: of each port its own list, in order and each once.
pub record AreOwnLists (plan : Plan) (k sub : ℕ) (own : ℕ → List (List ℕ)) (messages : List (List ℕ)) : Type 0 where
  pub sent : List Sent
  pub are : messages ≡ map (λ (s : Sent). s.bytes) sent
  pub ports : (place : ℕ) → IsOn plan k sub place → messages_of (port_plan_at plan.ports place) sent ≡ own place

-- All that a plan's ports accepted was transmitted, and one network carried everything of a link, near to the other.
-- Then the receiver's messages of each sub-VL are its ports' own lists.
abbrev pub OwnListsArrive : Type 0
OwnListsArrive = (plan : Plan) (own : ℕ → List (List ℕ)) (a b : List Entry) → IsPlan plan → IsHandedWhole plan own a b
    → (k sub : ℕ) → k < length plan.links → sub < (link_plan_at plan.links k).sub_vls
    → (lag : ℕ) (tolerance : Tolerance) (arrivals : List (Net × List ℕ)) → IsFitFor lag tolerance
    → AreCarriedOf lag (frames_of (id_at plan k) a) (frames_of (id_at plan k) b) arrivals
    → length (longer_of (id_at plan k) a b) ≤ most_carried arrivals
    → AreOwnLists plan k sub own (messages_in sub (received number_in tolerance begin arrivals))

abbrev pub IsOnBoth : LinkPlan → Type 0
IsOnBoth link = link.networks ≡ Both

-- Neither list has an entry of a link on one network, one is twins of the other, and each link's own stream is its
-- stream in the longer list.
pub record AreTwinsWhole (plan : Plan) (a b : List Entry) : Type 0 where
  pub all_a : on_both plan.links a ≡ a
  pub all_b : on_both plan.links b ≡ b
  pub twins : AreTwins side a b
  pub own : (k : ℕ) → k < length plan.links
      → own_stream (id_at plan k) a b ≡ link_stream (id_at plan k) (map (side A) (longer_stream a b))

-- Two lists that were transmitted legally for a plan whose links are all on both networks are twins as a whole.
abbrev pub AllOnBoth : Type 0
AllOnBoth = (plan : Plan) (accepted : Accepted) (a b : List Entry)
    → All IsOnBoth plan.links → IsLegal plan accepted a b → AreTwinsWhole plan a b

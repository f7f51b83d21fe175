-- The invariants of a sub-VL and of a link, and the choices that the link's stream shows.
use Rattle.std.specs.Prelude.{ℕ, Bool, true, false, nat_eq, if◌then◌else◌, Option, Some, List, [], ◌∷◌, ◌≡◌, ◌<◌, ◌+◌, ◌++◌, None, ◌≤◌, ◌%◌, length, map, All}
use Rattle.afdx_frame.specs.Header.{sub_in}
use Rattle.redundant_mux.specs.Lines.{Entry, log}
use Rattle.vl_shaper.specs.Pace.{Choice, IsChosen, turn_of}
use Rattle.vl_shaper.specs.declared.shaper.Stamp.{Stamp}
use Rattle.afdx_legal.specs.Streams.{stamp_of, more_in, link_stream, sub_stream, told, unnumbered_fragments, entry_number, IsNumbered, IsSpaced, IsPrefixOf}
use Rattle.afdx_plan.specs.Plan.{room_of, IsLink, IsPort, SendsOver}
use Rattle.afdx_frame.specs.declared.net.Net.TheVariants.{A}
use Rattle.afdx_frame.specs.Fragments.{fragments}
use Rattle.afdx_legal.specs.Counting.{counts_in}
use Rattle.vl_link.specs.Links.{Held, LinkState, held_at, taken_by, sub_fragments, pace_of, left_of}
use Rattle.afdx_plan.specs.Config.{port_plan_at}
use Rattle.afdx_plan.specs.declared.port_plan.PortPlan.{PortPlan}
use Rattle.afdx_frame.specs.Cutting.{Cutting, Remains, cut_of}
use Rattle.afdx_frame.specs.Template.{Origin}
use Rattle.vl_link.specs.declared.sub.SubVl.{SubVl}
use Rattle.vl_link.specs.declared.sub.Queue.{Queue}
use Rattle.vl_link.specs.declared.sub.Queue.TheVariants.{Receiving, Gathered, Empty}
use Rattle.vl_link.specs.Seen.{Seen, receiving, gathered, nothing_seen, taken_of, most_of, ports_of}
use Rattle.subvl_queue.specs.Messages.{RoomView, bytes_of, port_of}

-- the sub-VLs with a begun message that has more fragments to come: none at first
abbrev pub none_begun : ℕ → Bool
none_begun sub = false

-- the sub-VLs with a begun message, after an entry
abbrev pub begun_after : (ℕ → Bool) → Entry → ℕ → Bool
begun_after begun e sub = if nat_eq (sub_in e.frame) sub then more_in e.frame else begun sub

-- the sub-VLs with a begun message, after a list of entries
abbrev pub begun_by : (ℕ → Bool) → List Entry → ℕ → Bool
begun_by begun [] = begun
begun_by begun (e ∷ es) = begun_by (begun_after begun e) es

-- A choice as a stream shows it: the sub-VLs with a begun message and the chosen one had something.
abbrev pub shown_choice : (ℕ → Bool) → ℕ → Choice
shown_choice begun sub = record { has = λ s. if nat_eq s sub then true else begun s; sub = sub }

-- each entry of a stream belongs to the chosen sub-VL
abbrev pub ShowsChoices : ℕ → Option Stamp → (ℕ → Bool) → List Entry → Type 0
ShowsChoices subs last begun [] = Unit {0}
ShowsChoices subs last begun (e ∷ es) =
    IsChosen subs (turn_of subs last) (shown_choice begun (sub_in e.frame))
    × ShowsChoices subs (Some (stamp_of e)) (begun_after begun e) es

-- A sub-VL's stream, and the fragments left of the message being sent, are together the fragments
-- of the messages that it took.
abbrev pub IsTied : Held → List Entry → Type 0
IsTied held stream = sub_fragments held.of 0 (taken_by held) ≡ told stream ++ held.left

-- a sub-VL's stream lacks fragments of the messages that it took
pub record IsBehind (held : Held) (stream : List Entry) : Type 0 where
  pub left : List (List ℕ)
  pub some : left ≡ [] → ⊥
  pub ahead : sub_fragments held.of 0 (taken_by held) ≡ told stream ++ left

-- some sub-VL of the link lacks fragments in its stream
pub record IsSubBehind (link : LinkState) (log : List Entry) : Type 0 where
  pub sub : ℕ
  pub within : sub < link.plan.sub_vls
  pub behind : IsBehind (held_at link.subs sub)
      (sub_stream sub (link_stream link.plan.id.0 log))

-- each sub-VL of the link is tied to its stream
abbrev pub IsLinkTied : LinkState → List Entry → Type 0
IsLinkTied link log = (s : ℕ) → s < link.plan.sub_vls
    → IsTied (held_at link.subs s) (sub_stream s (link_stream link.plan.id.0 log))

-- A link's stream is numbered and spaced, and each sub-VL's stream is a prefix of the fragments of the messages that it
-- took. Each frame belongs to the chosen sub-VL. If no frame was lost, the regulation agrees with the stream, and each
-- sub-VL is tied to its own. If one was lost, some sub-VL lacks fragments. The counts are the stream's.
pub record IsKept (link : LinkState) (log : List Entry) : Type 0 where
  pub numbered : IsNumbered entry_number 0 (link_stream link.plan.id.0 log)
  pub spaced : IsSpaced link.pace.gap None (link_stream link.plan.id.0 log)
  pub prefixes : (s : ℕ) → s < link.plan.sub_vls
      → IsPrefixOf (unnumbered_fragments link.plan.id.0 s log)
      (fragments link.end_system (room_of link.plan.lmax) A (taken_by (held_at link.subs s)))
  pub chosen : ShowsChoices link.pace.sub_vls None none_begun (link_stream link.plan.id.0 log)
  pub paced : link.lost ≡ false
      → link.pace ≡ pace_of link.pace.gap link.pace.sub_vls (link_stream link.plan.id.0 log)
  pub tied : link.lost ≡ false → IsLinkTied link log
  pub behind : link.lost ≡ true → IsSubBehind link log
  pub counted : link.counts ≡ counts_in (link_stream link.plan.id.0 log)

-- the receiver, or all ends; a queue that was moved out counts as one without ports
abbrev pub seen_of : Queue → Seen
seen_of (Receiving r) = receiving r
seen_of (Gathered g) = gathered g
seen_of Empty = nothing_seen

-- a port of this sub-VL
pub record IsPortOf (owner : SubVl) (sender : PortPlan) : Type 0 where
  pub port : IsPort sender
  pub over : SendsOver sender owner.link
  pub of_sub : sender.sub ≡ owner.sub

-- the ports that frames come from
abbrev pub plans_of : List Origin → List PortPlan
plans_of origins = map (λ (of : Origin). of.port) origins

-- all origins have this end system
abbrev pub AreOfEndSystem : ℕ → List Origin → Type 0
AreOfEndSystem end_system origins = All (λ (of : Origin). of.end_system ≡ end_system) origins

-- the rest of a message of one of these ports
abbrev pub cut_among : List PortPlan → Option (ℕ × List ℕ) → Remains → Cutting
cut_among ports item rest = cut_of (port_plan_at ports (port_of item)) (bytes_of item) rest

-- The rest of the message being sent belongs to one of the ports. With the last fragment its room was emptied.
pub record IsRestOf (owner : SubVl) (ports : List PortPlan) (item : Option (ℕ × List ℕ)) (rest : Remains) : Type 0 where
  pub size : rest.end ≡ 8 + length (bytes_of item)
  pub within : (left_of owner (cut_among ports item rest) ≡ [] → ⊥) → port_of item < length ports
  pub idle : left_of owner (cut_among ports item rest) ≡ [] → item ≡ None

-- The ports belong to this sub-VL, and the queue has no more senders than ports. The place of the next message is the
-- number of messages taken modulo 16,384.
pub record IsSub (owner : SubVl) (ports : List PortPlan) (room : RoomView) (rest : Remains)
    (seen : Seen) (next : ℕ) : Type 0 where
  pub link : IsLink owner.link
  pub senders : All (IsPortOf owner) ports
  pub count : ports_of seen ≤ length ports
  pub most : room.most ≡ most_of seen
  pub rest_is : IsRestOf owner ports room.item rest
  pub place : next ≡ length (taken_of seen) % 16384

-- Legal transmission: a relation between a plan, the accepted lists and the lists `a` and `b` sent to the two networks.
use Rattle.std.specs.Prelude.{ℕ, ◌≡◌, ◌≤◌, ◌<◌, List, [], ◌∷◌, Bool, false, ◌&&◌, nat_eq, length, map, take, filter, slice_index, None}
use Rattle.std.specs.List.{list_any}
use Rattle.afdx_plan.specs.Config.{Plan, link_plan_at}
use Rattle.afdx_plan.specs.Plan.{bag_micros, is_both, room_of}
use Rattle.afdx_plan.specs.declared.link_plan.LinkPlan.{LinkPlan}
use Rattle.afdx_frame.specs.declared.net.Net.{Net}
use Rattle.afdx_frame.specs.declared.net.Net.TheVariants.{A, B}
use Rattle.afdx_frame.specs.Frame.{interface_byte}
use Rattle.afdx_frame.specs.Header.{link_in, sub_in}
use Rattle.afdx_frame.specs.Fragments.{Sent, fragments}
use Rattle.redundant_mux.specs.Lines.{Entry, names, side}
use Rattle.afdx_legal.specs.Streams.{link_stream, unnumbered_fragments, entry_number, IsNumbered, IsSpaced, IsPrefixOf}

-- The accepted list of each sub-VL, by the place of its link in the plan and its index.
abbrev pub Accepted : Type 0
Accepted = ℕ → ℕ → List Sent

-- a frame of a sub-VL of the plan, with a network's interface identifier
pub record IsKnown (links : List LinkPlan) (net : Net) (frame : List ℕ) : Type 0 where
  pub size : 60 ≤ length frame
  pub k : ℕ
  pub within : k < length links
  pub link : link_in frame ≡ (link_plan_at links k).id.0
  pub of_sub : sub_in frame < (link_plan_at links k).sub_vls
  pub interface : slice_index frame 11 ≡ interface_byte net

abbrev pub AreKnown : List LinkPlan → Net → List Entry → Type 0
AreKnown links net [] = Unit {0}
AreKnown links net (e ∷ es) = IsKnown links net e.frame × AreKnown links net es

-- Legal transmission on one network. Every frame is known, and belongs to a link that the network carries. Each
-- sub-VL's stream is a prefix of the fragments of its accepted messages. Each link's stream is numbered and spaced.
pub record IsLegalOn (plan : Plan) (accepted : Accepted)
    (net : Net) (handed : List Entry) : Type 0 where
  pub known : AreKnown plan.links net handed
  pub carried : (k : ℕ) → k < length plan.links → names net (link_plan_at plan.links k).networks ≡ false
      → link_stream (link_plan_at plan.links k).id.0 handed ≡ []
  pub prefixes : (k s : ℕ) → k < length plan.links → s < (link_plan_at plan.links k).sub_vls
      → IsPrefixOf (unnumbered_fragments (link_plan_at plan.links k).id.0 s handed)
      (fragments plan.end_system (room_of (link_plan_at plan.links k).lmax) net (accepted k s))
  pub numbered : (k : ℕ) → k < length plan.links
      → IsNumbered entry_number 0 (link_stream (link_plan_at plan.links k).id.0 handed)
  pub spaced : (k : ℕ) → k < length plan.links
      → IsSpaced (bag_micros (link_plan_at plan.links k).bag) None
      (link_stream (link_plan_at plan.links k).id.0 handed)

-- true if a link with this identifier is on both networks
abbrev pub is_on_both : List LinkPlan → ℕ → Bool
is_on_both links vl = list_any (λ (link : LinkPlan). nat_eq link.id.0 vl && is_both link.networks) links

abbrev pub on_both : List LinkPlan → List Entry → List Entry
on_both links handed = filter (λ (e : Entry). is_on_both links (link_in e.frame)) handed

-- the shorter list is a prefix of the longer, with each entry turned to the network of the shorter
pub record AreTwins {F : Type 0} (turn : Net → F → F) (a b : List F) : Type 0 where
  pub b_shorter : length b ≤ length a → b ≡ map (turn B) (take (length b) a)
  pub a_shorter : length a ≤ length b → a ≡ map (turn A) (take (length a) b)

-- Legal transmission on the two networks for the accepted lists. Over the links on both, the two lists are twins.
pub record IsLegal (plan : Plan) (accepted : Accepted) (a b : List Entry) : Type 0 where
  pub on_a : IsLegalOn plan accepted A a
  pub on_b : IsLegalOn plan accepted B b
  pub twins : AreTwins side (on_both plan.links a) (on_both plan.links b)

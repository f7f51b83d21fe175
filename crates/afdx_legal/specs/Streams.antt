-- Streams of entries: the words that the main theorem and the laws share, each link's own stream, and the turns in it.
use Rattle.std.specs.Prelude.{ℕ, ◌≡◌, ◌+◌, ◌≤◌, List, [], ◌∷◌, ◌++◌, nat_eq, filter, map, Option, Some, None, ◌<◌, nat_lt, if◌then◌else◌, length, Bool, true, nat_le}
use Rattle.afdx_plan.specs.Plan.{sequence_number}
use Rattle.afdx_frame.specs.Header.{link_in, sub_in, number_in}
use Rattle.afdx_frame.specs.Fragments.{blanked}
use Rattle.vl_shaper.specs.declared.shaper.Stamp.{Stamp}
use Rattle.redundant_mux.specs.Lines.{Entry, side}
use Rattle.afdx_plan.specs.Config.{Plan, link_plan_at}
use Rattle.afdx_frame.specs.declared.net.Net.TheVariants.{A}
use Rattle.afdx_frame.specs.Profile.{fragment_field}
use Rattle.afdx_frame.specs.Frame.{more_fragments}

-- the elements `x` with `read x` equal to `number`
abbrev pub those_with : {F : Type 0} → (F → ℕ) → ℕ → List F → List F
those_with {F} read number xs = filter (λ (x : F). nat_eq (read x) number) xs

abbrev pub link_stream : ℕ → List Entry → List Entry
link_stream vl handed = those_with (λ (e : Entry). link_in e.frame) vl handed

abbrev pub sub_stream : ℕ → List Entry → List Entry
sub_stream sub stream = those_with (λ (e : Entry). sub_in e.frame) sub stream

-- the frames of a stream, their sequence numbers blanked
abbrev pub told : List Entry → List (List ℕ)
told stream = map (λ (e : Entry). blanked e.frame) stream

-- the fragments of a sub-VL of a link
abbrev pub unnumbered_fragments : ℕ → ℕ → List Entry → List (List ℕ)
unnumbered_fragments vl sub handed = told (sub_stream sub (link_stream vl handed))

-- the time and the sub-VL of an entry
abbrev pub stamp_of : Entry → Stamp
stamp_of e = record { at = e.at; sub = sub_in e.frame }

-- the stamp of the last entry of a stream, or `before` if there is none
abbrev pub latest : Option Stamp → List Entry → Option Stamp
latest before [] = before
latest before (e ∷ es) = latest (Some (stamp_of e)) es

-- at least a gap after the entry before
abbrev pub IsApart : ℕ → Option Stamp → ℕ → Type 0
IsApart gap None at = Unit {0}
IsApart gap (Some last) at = last.at + gap ≤ at

-- neighbours are at least a gap apart (ARINC 664 Part 7, bandwidth allocation gap)
abbrev pub IsSpaced : ℕ → Option Stamp → List Entry → Type 0
IsSpaced gap before [] = Unit {0}
IsSpaced gap before (e ∷ es) = IsApart gap before e.at × IsSpaced gap (Some (stamp_of e)) es

abbrev pub entry_number : Entry → ℕ
entry_number e = number_in e.frame

-- a list carries the sequence numbers from place `i` on (ARINC 664 Part 7, sequence numbers)
abbrev pub IsNumbered : {F : Type 0} → (F → ℕ) → ℕ → List F → Type 0
IsNumbered number i [] = Unit {0}
IsNumbered number i (x ∷ xs) = (number x ≡ sequence_number i) × IsNumbered number (i + 1) xs

abbrev pub IsPrefixOf : {F : Type 0} → List F → List F → Type 0
IsPrefixOf {F} xs ys = (rest : List F) × (xs ++ rest ≡ ys)

abbrev pub longer : (xs ys : List Entry) → List Entry
longer xs ys = if nat_lt (length xs) (length ys) then ys else xs

-- a link's own stream, its frames for network A
abbrev pub own_stream : ℕ → (a b : List Entry) → List Entry
own_stream vl a b = map (side A) (longer (link_stream vl a) (link_stream vl b))

-- each link's stream in a log is its own stream of `a` and `b`
abbrev pub AreOwnStreams : Plan → (log a b : List Entry) → Type 0
AreOwnStreams plan log a b = (k : ℕ) → k < length plan.links
    → link_stream (link_plan_at plan.links k).id.0 log ≡ own_stream (link_plan_at plan.links k).id.0 a b

-- more fragments of a frame's message are to come (RFC 791, 3.1)
abbrev pub more_in : List ℕ → Bool
more_in frame = nat_le more_fragments (fragment_field frame)

-- the entries of a stream before the first of a sub-VL
abbrev pub before_next : ℕ → List Entry → List Entry
before_next sub [] = []
before_next sub (e ∷ es) = if nat_eq (sub_in e.frame) sub then [] else e ∷ before_next sub es

-- If more fragments follow an entry, each other sub-VL has at most one entry before the next one of this sub-VL.
abbrev pub IsFollowedInTurn : Entry → List Entry → Type 0
IsFollowedInTurn e later = more_in e.frame ≡ true → (other : ℕ)
    → length (sub_stream other (before_next (sub_in e.frame) later)) ≤ 1

-- every entry of a link's stream is followed in turn
abbrev pub TakesTurns : List Entry → Type 0
TakesTurns [] = Unit {0}
TakesTurns (e ∷ es) = IsFollowedInTurn e es × TakesTurns es

-- the sub-VLs of each link of a plan take turns on a network
abbrev pub TakeTurnsOn : Plan → List Entry → Type 0
TakeTurnsOn plan handed = (k : ℕ) → k < length plan.links
    → TakesTurns (link_stream (link_plan_at plan.links k).id.0 handed)

-- the sub-VLs of each link of a plan take turns on both networks
pub record TakeTurns (plan : Plan) (a b : List Entry) : Type 0 where
  pub on_a : TakeTurnsOn plan a
  pub on_b : TakeTurnsOn plan b

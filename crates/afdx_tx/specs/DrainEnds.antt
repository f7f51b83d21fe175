-- The number of polls after which a drain ends, if a network that carries each link is up.
use Rattle.std.specs.Prelude.{Bool, false, ℕ, zero, suc, ◌≡◌, ◌+◌, ◌-◌, ◌<◌, ◌≤◌, List, [], ◌∷◌, length, true, None}
use Rattle.afdx_plan.specs.Config.{Plan, IsPlan, link_plan_at}
use Rattle.afdx_plan.specs.Demo.{demo_plan}
use Rattle.afdx_plan.specs.Plan.{bag_micros, room_of}
use Rattle.afdx_plan.specs.declared.link_plan.LinkPlan.{LinkPlan}
use Rattle.afdx_plan.specs.declared.link_plan.Networks.TheVariants.{Both}
use Rattle.afdx_frame.specs.declared.net.Net.TheVariants.{A, B}
use Rattle.afdx_frame.specs.Fragments.{Sent, fragments}
use Rattle.redundant_mux.specs.Lines.{Entry, entry, logged_for, Lines, lines_of, any_up, log}
use Rattle.vl_shaper.specs.Pace.{IsLater}
use Rattle.afdx_legal.specs.Streams.{link_stream, sub_stream, told, latest}
use Rattle.afdx_legal.specs.Legal.{Accepted}
use Rattle.afdx_legal.specs.Accepted.{IsAllDone}
use Rattle.afdx_legal.specs.Worked.{one_byte, one_byte_accepted, one_frame, one_entry_at}
use Rattle.afdx_tx.specs.Run.{IsDrained}

-- the number of fragments of the accepted messages of a link's first sub-VLs that its stream lacks
abbrev pub owed : ℕ → LinkPlan → (ℕ → List Sent) → List Entry → ℕ → ℕ
owed end_system link accepted stream zero = 0
owed end_system link accepted stream (suc sub) = owed end_system link accepted stream sub
    + (length (fragments end_system (room_of link.lmax) A (accepted sub)) - length (told (sub_stream sub stream)))

-- the stream of the link at a place
abbrev pub stream_at : Plan → ℕ → Lines → List Entry
stream_at plan k lines = link_stream (link_plan_at plan.links k).id.0 (log lines)

-- the number of frames that the link at a place owes
abbrev pub owed_at : Plan → Accepted → ℕ → Lines → ℕ
owed_at plan accepted k lines = owed plan.end_system (link_plan_at plan.links k) (accepted k)
    (stream_at plan k lines) (link_plan_at plan.links k).sub_vls

-- each of these times is at least a gap after the previous one
abbrev pub AreApartBy : ℕ → ℕ → List ℕ → Type 0
AreApartBy gap before [] = Unit {0}
AreApartBy gap before (now ∷ moments) = (before + gap ≤ now) × AreApartBy gap now moments

-- polls of a drain at these times
abbrev pub AreDrained : Plan → Accepted → List ℕ → (lines after : Lines) → Type 0
AreDrained plan accepted [] lines after = after ≡ lines
AreDrained plan accepted (now ∷ moments) lines after =
    (mid : Lines) × IsDrained now plan accepted lines mid × AreDrained plan accepted moments mid after

-- Polls that are apart by the greatest gap of the plan, the first of them that long after each release, transmit all
-- that is left, if they are more than the frames that each link owes and a network that carries it is up afterwards.
abbrev pub DrainEnds : Type 0
DrainEnds = (plan : Plan) (accepted : Accepted) (moments : List ℕ) (lines after : Lines) (start gap : ℕ)
    → IsPlan plan
    → ((k : ℕ) → k < length plan.links → IsLater (latest None (stream_at plan k lines)) start)
    → ((k : ℕ) → k < length plan.links → bag_micros (link_plan_at plan.links k).bag ≤ gap)
    → AreApartBy gap start moments
    → AreDrained plan accepted moments lines after
    → ((k : ℕ) → k < length plan.links → any_up (link_plan_at plan.links k).networks after ≡ true)
    → ((k : ℕ) → k < length plan.links → owed_at plan accepted k lines < length moments)
    → IsAllDone plan accepted (log after)

-- A worked drain over the demonstration plan. One message of one byte was accepted and not
-- transmitted, and two polls follow, a gap apart. No frame was transmitted before them.
abbrev pub no_lines : Lines
no_lines = lines_of [] [] 0 0 true true false false []

-- both networks accepted the frame, at `now`; then each failed this often, and is up or not
abbrev pub line_of : (now failures : ℕ) → Bool → Lines
line_of now failures up = lines_of (one_entry_at now A) (one_entry_at now B) failures failures up up false false
    (logged_for Both (entry now (one_frame A)) ∷ [])

abbrev pub one_line_at : ℕ → Lines
one_line_at now = line_of now 0 true

abbrev pub one_line : Lines
one_line = one_line_at 1000

-- the times of the polls
abbrev pub two_moments : List ℕ
two_moments = 1000 ∷ 2000 ∷ []

-- The premises of the law hold, and the drain has ended.
pub record DrainsOne : Type 0 where
  pub valid : IsPlan demo_plan
  pub later : (k : ℕ) → k < length demo_plan.links → IsLater (latest None (stream_at demo_plan k no_lines)) 0
  pub gap : (k : ℕ) → k < length demo_plan.links → bag_micros (link_plan_at demo_plan.links k).bag ≤ 1000
  pub apart : AreApartBy 1000 0 two_moments
  pub drained : AreDrained demo_plan one_byte_accepted two_moments no_lines one_line
  pub stand : (k : ℕ) → k < length demo_plan.links → any_up (link_plan_at demo_plan.links k).networks one_line ≡ true
  pub owed : (k : ℕ) → k < length demo_plan.links
      → owed_at demo_plan one_byte_accepted k no_lines < length two_moments
  pub done : IsAllDone demo_plan one_byte_accepted (log one_line)

-- Two messages of one byte were accepted; one was transmitted at `at`.
abbrev pub two_accepted : Accepted
two_accepted k sub = one_byte ∷ one_byte ∷ []

abbrev pub failed_line : Lines
failed_line = line_of 1000 1 false

-- The start isn't before the release, the greatest gap is at most `gap`, the networks are up, and the polls are more
-- than the frames owed.
abbrev pub StartsAfter : Lines → ℕ → Type 0
StartsAfter lines start = (k : ℕ) → k < length demo_plan.links
    → IsLater (latest None (stream_at demo_plan k lines)) start

abbrev pub IsGap : ℕ → Type 0
IsGap gap = (k : ℕ) → k < length demo_plan.links → bag_micros (link_plan_at demo_plan.links k).bag ≤ gap

abbrev pub AreUp : Lines → Type 0
AreUp lines = (k : ℕ) → k < length demo_plan.links → any_up (link_plan_at demo_plan.links k).networks lines ≡ true

abbrev pub AreEnough : Lines → List ℕ → Type 0
AreEnough lines moments = (k : ℕ) → k < length demo_plan.links → owed_at demo_plan two_accepted k lines < length moments

-- polls that transmit nothing more, and leave a message
pub record LeavesOne (lines : Lines) (moments : List ℕ) : Type 0 where
  pub drained : AreDrained demo_plan two_accepted moments lines lines
  pub left : IsAllDone demo_plan two_accepted (log lines) → ⊥

-- Each of these premises is needed: one of them fails alone, and the message is left.
pub record NeedsItsPolls : Type 0 where
  -- no poll, although a frame is owed
  pub none : LeavesOne one_line [] × StartsAfter one_line 1000 × IsGap 1000 × AreApartBy 1000 1000 [] × AreUp one_line
      × (AreEnough one_line [] → ⊥)
  -- polls that follow too soon
  pub close : LeavesOne one_line (1500 ∷ 1600 ∷ []) × StartsAfter one_line 1000 × IsGap 1000
      × (AreApartBy 1000 1000 (1500 ∷ 1600 ∷ []) → ⊥) × AreUp one_line × AreEnough one_line (1500 ∷ 1600 ∷ [])
  -- a gap that is less than the link's
  pub short : LeavesOne one_line (1500 ∷ 1600 ∷ []) × StartsAfter one_line 1000 × (IsGap 100 → ⊥)
      × AreApartBy 100 1000 (1500 ∷ 1600 ∷ []) × AreUp one_line × AreEnough one_line (1500 ∷ 1600 ∷ [])
  -- a release after the polls
  pub early : LeavesOne (one_line_at 5000) two_moments × (StartsAfter (one_line_at 5000) 0 → ⊥) × IsGap 1000
      × AreApartBy 1000 0 two_moments × AreUp (one_line_at 5000) × AreEnough (one_line_at 5000) two_moments
  -- networks that failed
  pub down : LeavesOne failed_line (2000 ∷ 3000 ∷ []) × StartsAfter failed_line 1000 × IsGap 1000
      × AreApartBy 1000 1000 (2000 ∷ 3000 ∷ []) × (AreUp failed_line → ⊥) × AreEnough failed_line (2000 ∷ 3000 ∷ [])

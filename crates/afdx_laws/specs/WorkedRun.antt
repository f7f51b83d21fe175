-- Worked runs: of polls of a drain, and then of an emitter.
use Rattle.std.specs.Prelude.{take, length, ◌++◌, replicate, Bool, true, false, ◌&&◌, ℕ, ◌≡◌, ◌+◌, ◌≤◌, List, [], ◌∷◌, map, None, zero, suc, nat_lt}
use Rattle.afdx_plan.specs.Config.{Plan, IsPlan, link_plan_at}
use Rattle.afdx_plan.specs.Demo.{demo_plan, demo_link, demo_port}
use Rattle.afdx_plan.specs.declared.link_plan.LinkPlan.{LinkPlan}
use Rattle.afdx_plan.specs.declared.link_plan.Networks.TheVariants.{Both}
use Rattle.afdx_plan.specs.declared.port_plan.PortPlan.{PortPlan}
use Rattle.afdx_frame.specs.declared.net.Net.TheVariants.{A, B}
use Rattle.afdx_frame.specs.Header.{sub_in}
use Rattle.afdx_frame.specs.declared.net.Net.{Net}
use Rattle.afdx_frame.specs.Cutting.{piece_at}
use Rattle.afdx_frame.specs.Frame.{frame_of}
use Rattle.afdx_frame.specs.Fragments.{Sent}
use Rattle.redundant_mux.specs.Lines.{Entry, entry, logged_for, Lines, lines_of, any_up, log}
use Rattle.subvl_queue.specs.Views.{ReceiverView, new_receiver, after_take}
use Rattle.status_board.specs.Views.{no_cell}
use Rattle.vl_shaper.specs.Pace.{IsLater}
use Rattle.afdx_legal.specs.Legal.{Accepted}
use Rattle.afdx_legal.specs.Streams.{more_in, latest, IsPrefixOf, link_stream}
use Rattle.afdx_legal.specs.Counting.{counts_in}
use Rattle.vl_link.specs.Seen.{receiving}
use Rattle.vl_link.specs.Links.{Held}
use Rattle.afdx_tx.specs.DrainEnds.{stream_at}
use Rattle.afdx_tx.specs.Run.{pace_in}
use Rattle.afdx_tx.specs.Emitter.{Tx}
use Rattle.plan_analysis.specs.Wait.{worst_wait, has_port}
use Rattle.afdx_laws.specs.Rows.{Holds}
use Rattle.afdx_laws.specs.WorkedDelivery.{one_accepted, front_frame, back_frame, bytes_41}
use Rattle.afdx_laws.specs.Runs.{AreRuns, EmitterPolls, ComeWithin, latest_of, ComesBy, next_wait, ArePolls}
use Rattle.afdx_laws.specs.MessageInRun.{AreTimely, fragments_of, seen_of, IsAccepted, HasPlace, AreFinding, AreReleasedBy, FindsIt}

-- The demonstration plan with frames of up to 64 bytes: a message of two fragments was accepted, and its first
-- frame transmitted at time 0. Two polls follow, a gap apart.

abbrev pub small_link : LinkPlan
small_link = record demo_link { lmax = 64 }

abbrev pub small_plan : Plan
small_plan = record demo_plan { links = small_link ∷ [] }

-- the accepted messages of its one sub-VL
abbrev pub message_accepted : Accepted
message_accepted k sub = one_accepted

-- networks to which these frames were sent at these times
abbrev pub lines_by : List (ℕ × (Net → List ℕ)) → Lines
lines_by frames = lines_of (map (λ (f : ℕ × (Net → List ℕ)). entry f.0 (f.1 A)) frames)
    (map (λ (f : ℕ × (Net → List ℕ)). entry f.0 (f.1 B)) frames) 0 0 true true false false
    (map (λ (f : ℕ × (Net → List ℕ)). logged_for Both (entry f.0 (f.1 A))) frames)

-- the first frame
abbrev pub front_line : Lines
front_line = lines_by ((0, front_frame) ∷ [])

-- the first frame and then the second, transmitted at `now`
abbrev pub both_at : ℕ → Lines
both_at now = lines_by ((0, front_frame) ∷ (now, back_frame) ∷ [])

abbrev pub both_lines : Lines
both_lines = both_at 1000

-- both networks failed with the second frame
abbrev pub lost_line : Lines
lost_line = lines_of (entry 0 (front_frame A) ∷ []) (entry 0 (front_frame B) ∷ []) 1 1 false false false false
    (logged_for Both (entry 0 (front_frame A)) ∷ [])

abbrev pub front_entry : Entry
front_entry = entry 0 (front_frame A)

-- the second fragment was released by the bound for polls up to 1,000 microseconds apart, which is 2,000
abbrev pub Comes : Lines → Type 0
Comes lines = ComesBy (stream_at small_plan 0 lines) front_entry (0 + next_wait 1000 small_plan 0)

-- The law for polls at these times. Each premise with flag `true` holds, each other one fails. The second fragment is
-- released by the bound if and only if all hold.
pub record RunCase (moments : List ℕ) (lines : Lines) (run up come reach : Bool) : Type 0 where
  pub runs : Holds run (AreRuns small_plan moments front_line lines)
  pub is_up : Holds up (any_up (link_plan_at small_plan.links 0).networks lines ≡ true)
  pub comes : Holds come (ComeWithin 1000 0 moments)
  pub reaches : Holds reach (0 + next_wait 1000 small_plan 0 ≤ latest_of 0 moments)
  pub next : Holds (run && up && come && reach) (Comes lines)

-- The run meets the premises, and the second fragment is released at 1,000.
pub record ComesInRun : Type 0 where
  pub valid : IsPlan small_plan
  pub ends : stream_at small_plan 0 front_line ≡ front_entry ∷ []
  pub more : more_in (front_frame A) ≡ true
  pub port : has_port small_link small_plan.ports (sub_in (front_frame A)) ≡ true
  pub run : RunCase (1000 ∷ 2000 ∷ []) both_lines true true true true

-- a frame of the same message, with the number of a sub-VL that the link does not have
abbrev pub stray_frame : Net → List ℕ
stray_frame net = frame_of 1 (record demo_port { sub = 1 }) bytes_41 0 (piece_at 25 49 0) net 0

abbrev pub stray_line : Lines
stray_line = lines_by ((1000, stray_frame) ∷ [])

-- The law for an entry at 1,000, with two polls that transmit nothing. Each premise with flag `true` holds, each other
-- one fails, and no fragment follows.
pub record LastCase (lines : Lines) (earlier : List Entry) (frame : List ℕ) (last more port : Bool) : Type 0 where
  pub runs : AreRuns small_plan (2000 ∷ 3000 ∷ []) lines lines
  pub ends : Holds last (stream_at small_plan 0 lines ≡ earlier ++ entry 1000 frame ∷ [])
  pub flag : Holds more (more_in frame ≡ true)
  pub inside : Holds port (has_port small_link small_plan.ports (sub_in frame) ≡ true)
  pub is_up : any_up (link_plan_at small_plan.links 0).networks lines ≡ true
  pub comes : ComeWithin 1000 1000 (2000 ∷ 3000 ∷ [])
  pub reaches : 1000 + next_wait 1000 small_plan 0 ≤ latest_of 1000 (2000 ∷ 3000 ∷ [])
  pub none : ComesBy (stream_at small_plan 0 lines) (entry 1000 frame) (1000 + next_wait 1000 small_plan 0) → ⊥

-- Each of these premises is needed. Without a poll the second fragment is not released, nor if what follows is no run.
-- A late poll releases it after the bound. If both networks fail with its frame, it is lost. After the last fragment
-- none follows, nor after an entry that the stream does not have or one of a sub-VL without a port.
pub record NeedsARun : Type 0 where
  pub none : RunCase [] front_line true true true false
  pub idle : RunCase (1000 ∷ 2000 ∷ []) front_line false true true true
  pub late : RunCase (5000 ∷ []) (both_at 5000) true true false true
  pub lost : RunCase (1000 ∷ 2000 ∷ []) lost_line true false true true
  pub whole : LastCase both_lines (front_entry ∷ []) (back_frame A) true false true
  pub elsewhere : LastCase both_lines (front_entry ∷ []) (front_frame A) false true true
  pub stray : LastCase stray_line [] (stray_frame A) true true false

-- A link of one sub-VL with a queue of one message, and a port that sends messages of up to 41 bytes, two frames each.
-- The first frame of a message is transmitted at time 0, and then another message is accepted.

abbrev pub tight_link : LinkPlan
tight_link = record demo_link { lmax = 64; capacity = 1 }

abbrev pub tight_port : PortPlan
tight_port = record demo_port { max = 41 }

abbrev pub tight_plan : Plan
tight_plan = record demo_plan { links = tight_link ∷ []; ports = tight_port ∷ [] }

abbrev pub tight_sent : Sent
tight_sent = record { port = tight_port; bytes = bytes_41 }

-- the accepted messages of the one sub-VL
abbrev pub tight_accepted : Accepted
tight_accepted k sub = tight_sent ∷ tight_sent ∷ []

-- the frame of the message at `place` whose piece begins at byte `start`
abbrev pub tight_frame : (place start number : ℕ) → Net → List ℕ
tight_frame place start number net = frame_of 1 tight_port bytes_41 place (piece_at 25 49 start) net number

-- the first of these frames, transmitted on both networks
abbrev pub tight_line : ℕ → Lines
tight_line many = lines_by (take many ((0, tight_frame 0 0 0) ∷ (1000, tight_frame 0 24 1) ∷ (2000, tight_frame 1 0 2)
    ∷ (3000, tight_frame 1 24 3) ∷ []))

-- both messages are wholly released by the bound
abbrev pub TightReleased : ℕ → Type 0
TightReleased bound = AreReleasedBy tight_plan 0 0 (tight_sent ∷ tight_sent ∷ [])
    (stream_at tight_plan 0 (tight_line 1)) (stream_at tight_plan 0 (tight_line 4)) bound

-- Polls follow at 1,000, 2,000 and 3,000, with no lateness. The wait of the port is 3,000 microseconds: one gap for
-- each of three fragments, the message's own two and one before them. The message takes exactly that.
pub record MeetsTheWait : Type 0 where
  pub valid : IsPlan tight_plan
  pub wait : worst_wait 0 tight_plan tight_port ≡ 3000
  pub accepted : IsAccepted tight_plan tight_accepted 0 0 (tight_sent ∷ []) tight_sent []
  pub start : IsLater (latest None (stream_at tight_plan 0 (tight_line 1))) 0
  pub place : HasPlace tight_plan 0 0 (tight_sent ∷ []) (stream_at tight_plan 0 (tight_line 1))
  pub finding : AreFinding tight_plan tight_accepted 0 0 4 (1000 ∷ 2000 ∷ 3000 ∷ [])
      (tight_line 1) (tight_line 4)
  pub begins : IsPrefixOf (seen_of 0 (stream_at tight_plan 0 (tight_line 4)))
      (fragments_of tight_plan 0 (tight_accepted 0 0))
  pub is_up : any_up (link_plan_at tight_plan.links 0).networks (tight_line 4) ≡ true
  pub comes : AreTimely 1000 0 3000 0 (1000 ∷ 2000 ∷ 3000 ∷ [])
  pub met : TightReleased 3000
  pub sooner : TightReleased 2999 → ⊥

-- The link with a port that sends messages of one byte: the wait is one gap.

-- a port of sub-VL `sub` that sends messages of one byte
abbrev pub short_port : ℕ → PortPlan
short_port sub = record demo_port { id = record { 0 = 10 + sub }; sub = sub; source = 1000 + sub; max = 1 }

abbrev pub short_sent : ℕ → Sent
short_sent sub = record { port = short_port sub; bytes = 1 ∷ [] }

-- the frame of the message at this place
abbrev pub short_frame : (sub place number : ℕ) → Net → List ℕ
short_frame sub place number net = frame_of 1 (short_port sub) (1 ∷ []) place (piece_at 25 9 0) net number

abbrev pub byte_plan : Plan
byte_plan = record demo_plan { links = tight_link ∷ []; ports = short_port 0 ∷ [] }

-- the sub-VL accepted this many messages
abbrev pub bytes_accepted : ℕ → Accepted
bytes_accepted many k sub = replicate many (short_sent 0)

abbrev pub no_line : Lines
no_line = lines_by []

-- the first message, transmitted at `now`
abbrev pub byte_line : ℕ → Lines
byte_line now = lines_by ((now, short_frame 0 0 0) ∷ [])

-- the frame of another message, transmitted at time 0
abbrev pub other_frame : Net → List ℕ
other_frame net = frame_of 1 (short_port 0) (2 ∷ []) 0 (piece_at 25 9 0) net 0

abbrev pub other_line : Lines
other_line = lines_by ((0, other_frame) ∷ [])

-- both networks failed before they accepted a frame
abbrev pub failed_line : Lines
failed_line = lines_of [] [] 1 1 false false false false []

-- The law for the message after `earlier` others, where `many` were accepted, and a poll at `now` follows the start at
-- time 0, with no lateness. Each premise with flag `true` holds, each other one fails, and so does the conclusion.
pub record ByteCase (many earlier now : ℕ) (lines after : Lines)
    (accepts starts holds finds begins up timely : Bool) : Type 0 where
  pub accepted : Holds accepts (IsAccepted byte_plan (bytes_accepted many) 0 0
      (replicate earlier (short_sent 0)) (short_sent 0) [])
  pub start : Holds starts (IsLater (latest None (stream_at byte_plan 0 lines)) 0)
  pub place : Holds holds (HasPlace byte_plan 0 0 (replicate earlier (short_sent 0)) (stream_at byte_plan 0 lines))
  pub finding : Holds finds (AreFinding byte_plan (bytes_accepted many) 0 0
      (length (fragments_of byte_plan 0 (replicate earlier (short_sent 0) ++ short_sent 0 ∷ [])))
      (now ∷ []) lines after)
  pub prefix : Holds begins (IsPrefixOf (seen_of 0 (stream_at byte_plan 0 after))
      (fragments_of byte_plan 0 (bytes_accepted many 0 0)))
  pub is_up : Holds up (any_up (link_plan_at byte_plan.links 0).networks after ≡ true)
  pub comes : Holds timely (AreTimely 1000 0 1000 0 (now ∷ []))
  pub missed : AreReleasedBy byte_plan 0 0 (replicate earlier (short_sent 0) ++ short_sent 0 ∷ [])
      (stream_at byte_plan 0 lines) (stream_at byte_plan 0 after) 1000 → ⊥

-- Each of these premises is needed: one of them fails alone, and the message is not released within its wait.
pub record NeedsItsPremises : Type 0 where
  pub valid : IsPlan byte_plan
  pub wait : worst_wait 0 byte_plan (short_port 0) ≡ 1000
  -- the message was not accepted
  pub unaccepted : ByteCase 0 0 1000 no_line no_line false true true true true true true
  -- the wait starts before the last release
  pub early : ByteCase 2 1 1000 (byte_line 5000) (byte_line 5000) true false true true true true true
  -- the queue holds two messages, one more than its capacity
  pub crowded : ByteCase 2 1 1000 no_line (byte_line 1000) true true false true true true true
  -- a poll of the emitter does not find it
  pub poll : EmitterPolls byte_plan 1000 no_line no_line
  pub unfound : ByteCase 1 0 1000 no_line no_line true true true false true true true
  -- the emitter sent another
  pub unlike : ByteCase 1 0 1000 other_line other_line true true true true false true true
  -- the networks are down
  pub down : ByteCase 1 0 1000 failed_line failed_line true true true true true false true
  -- the poll is a microsecond late
  pub late : ByteCase 1 0 1001 no_line (byte_line 1001) true true true true true true false

-- A worked run of polls of an emitter over a link of three sub-VLs, with queues of one message. The first frame of a
-- message of two fragments of sub-VL 0 was transmitted at time 0. The other two sub-VLs send messages of one byte. Four
-- polls follow, 3,000 microseconds apart.

abbrev pub three_link : LinkPlan
three_link = record tight_link { sub_vls = 3 }

abbrev pub three_plan : Plan
three_plan = record demo_plan { links = three_link ∷ []; ports = demo_port ∷ short_port 1 ∷ short_port 2 ∷ [] }

abbrev pub long_sent : Sent
long_sent = record { port = demo_port; bytes = bytes_41 }

-- the accepted messages of sub-VLs 0, 1 and 2
abbrev pub three_accepted : Accepted
three_accepted k zero = long_sent ∷ []
three_accepted k (suc zero) = short_sent 1 ∷ short_sent 1 ∷ []
three_accepted k (suc (suc sub)) = short_sent 2 ∷ []

-- the second frame of the long message, with number 3
abbrev pub end_frame : Net → List ℕ
end_frame net = frame_of 1 demo_port bytes_41 0 (piece_at 25 49 24) net 3

-- the first of these frames, transmitted on both networks
abbrev pub line_after : ℕ → Lines
line_after many = lines_by (take many ((0, front_frame) ∷ (3000, short_frame 1 0 1) ∷ (6000, short_frame 2 0 2)
    ∷ (9000, end_frame) ∷ (12000, short_frame 1 1 4) ∷ []))

-- a sub-VL of one port with this queue, and with the rest of a message
abbrev pub sub_of : LinkPlan → (sub : ℕ) → PortPlan → List (List ℕ) → ReceiverView → Held
sub_of link sub port left queue = record {
  of = record { end_system = 1; link = link; sub = sub };
  ports = port ∷ [];
  left = left;
  seen = receiving queue;
}

-- a queue that was not polled
abbrev pub fresh : ReceiverView
fresh = new_receiver no_cell 1 8192 1

abbrev pub long_sub : List (List ℕ) → Held
long_sub left = sub_of three_link 0 demo_port left (after_take fresh (0, bytes_41))

-- sub-VL 1 or 2, which took and sent these messages
abbrev pub short_sub : ℕ → List (ℕ × List ℕ) → Held
short_sub sub taken = sub_of three_link sub (short_port sub) []
    (record fresh { looks = length taken; found = nat_lt 0 (length taken); taken = taken })

-- the sub-VLs with the rest of the long message, and the numbers of short messages sent
abbrev pub subs_of : (left : List (List ℕ)) (first second : ℕ) → List Held
subs_of left first second = long_sub left ∷ short_sub 1 (replicate first (0, 1 ∷ []))
    ∷ short_sub 2 (replicate second (0, 1 ∷ [])) ∷ []

-- the emitter of a plan with a link, whose sub-VLs these are
abbrev pub tx_of : Plan → LinkPlan → List Held → Lines → Tx
tx_of plan link subs lines = record {
  plan = plan;
  links = record {
    end_system = plan.end_system;
    plan = link;
    pace = pace_in link (log lines);
    subs = subs;
    lost = false;
    counts = counts_in (link_stream link.id.0 (log lines));
  } ∷ [];
  lines = lines;
  moment = 0;
  board = [];
}

-- The polls transmit the four frames. They are within 3,000 microseconds, for which the bound of the next fragment is
-- 12,000, and it is released at 9,000, after a frame of each other sub-VL.
pub record ComesInTurn : Type 0 where
  pub valid : IsPlan three_plan
  pub ends : stream_at three_plan 0 (line_after 1) ≡ front_entry ∷ []
  pub more : more_in (front_frame A) ≡ true
  pub port : has_port three_link three_plan.ports (sub_in (front_frame A)) ≡ true
  pub polls : ArePolls (EmitterPolls three_plan) (3000 ∷ 6000 ∷ 9000 ∷ 12000 ∷ []) (line_after 1) (line_after 5)
  pub is_up : any_up three_link.networks (line_after 5) ≡ true
  pub within : ComeWithin 3000 0 (3000 ∷ 6000 ∷ 9000 ∷ 12000 ∷ [])
  pub wait : next_wait 3000 three_plan 0 ≡ 12000
  pub next : ComesBy (stream_at three_plan 0 (line_after 5)) front_entry 12000

-- the second message of sub-VL 1 is wholly released by the bound
abbrev pub ThirdReleased : ℕ → Type 0
ThirdReleased bound = AreReleasedBy three_plan 0 1 (short_sent 1 ∷ short_sent 1 ∷ [])
    (stream_at three_plan 0 (line_after 2)) (stream_at three_plan 0 (line_after 5)) bound

-- Sub-VL 1 sends its first message at 3,000 and then accepts another. Polls come 2,000 microseconds late, and its wait
-- is 9,000. Sub-VLs 2 and 0 each release a frame, and then it is released, at exactly 12,000.
pub record WaitsItsTurn : Type 0 where
  pub wait : worst_wait 2000 three_plan (short_port 1) ≡ 9000
  pub accepted : IsAccepted three_plan three_accepted 0 1 (short_sent 1 ∷ []) (short_sent 1) []
  pub start : IsLater (latest None (stream_at three_plan 0 (line_after 2))) 3000
  pub place : HasPlace three_plan 0 1 (short_sent 1 ∷ []) (stream_at three_plan 0 (line_after 2))
  pub finding : ArePolls (FindsIt three_plan 0 1 2) (6000 ∷ 9000 ∷ 12000 ∷ []) (line_after 2) (line_after 5)
  pub begins : IsPrefixOf (seen_of 1 (stream_at three_plan 0 (line_after 5)))
      (fragments_of three_plan 0 (three_accepted 0 1))
  pub is_up : any_up three_link.networks (line_after 5) ≡ true
  pub timely : AreTimely 1000 2000 12000 3000 (6000 ∷ 9000 ∷ 12000 ∷ [])
  pub released : ThirdReleased 12000
  pub sooner : ThirdReleased 11999 → ⊥

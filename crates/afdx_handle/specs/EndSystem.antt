-- An end system as contracts see it, and the effect of each of its calls.
use Rattle.std.specs.Prelude.{ℕ, ◌≡◌, ◌≤◌, ◌<◌, ◌+◌, ◌-◌, List, [], ◌∷◌, ◌++◌, length, Bool, true, false, nat_eq, IsPermutation, ◌^◌, unwrap_or, Option}
use Rattle.afdx_frame.specs.declared.net.Net.{Net}
use Rattle.afdx_frame.specs.declared.net.Net.TheVariants.{A, B}
use Rattle.redundant_mux.specs.Memory.{entry_at}
use Rattle.redundant_mux.specs.Lines.{Entry, log, with_failing, IsMirrored}
use Rattle.afdx_legal.specs.Accepted.{IsAllDone}
use Rattle.afdx_plan.specs.Config.{Plan}
use denote.RawPtr.{Ptr}
use Rattle.afdx_tx.specs.Emitter.{Tx, IsFreshTx}
use Rattle.afdx_tx.specs.Run.{accepted_in}
use Rattle.afdx_tx.specs.Ports.{PortView, IsPortOfTx, AreOpenedWith, AreFreshPorts}
use Rattle.afdx_tx.specs.Calls.{ClosesTx, TellsNextDue}
use Rattle.afdx_tx.specs.Phases.{Runs, StaysLawful}
use Rattle.afdx_tx.specs.Report.{Polls}
use Rattle.afdx_tx.specs.Gathering.{IsGatheredTx}
use Rattle.afdx_tx.specs.declared.turns.Report.{Report}
use Rattle.afdx_handle.specs.Numbers.{line_of}
use Rattle.afdx_handle.specs.declared.end_system.Stage.{Stage}
use Rattle.afdx_handle.specs.declared.end_system.Stage.TheVariants.{Sending, Draining}

-- the first time after the last poll at which a link may release a frame and couldn't then, or the greatest number of
-- 64 bits
abbrev pub IsNextDue : Tx → ℕ → Type 0
IsNextDue tx at = (next : Option ℕ) × TellsNextDue tx next × (at ≡ unwrap_or next (2 ^ 64 - 1))

-- true if the ports are gathered
abbrev pub is_gathered : Stage → Bool
is_gathered (Sending tx) = false
is_gathered (Draining tx) = true

-- the emitter
abbrev pub tx_of : Stage → Tx
tx_of (Sending tx) = tx
tx_of (Draining tx) = tx

-- An end system: true if its ports are gathered, its emitter, the ports in it and the capacity of their list, the
-- number of frames that each network had accepted before the last poll, and the address of the block that the end
-- system owns, and each of its ports that is out.
pub record EndView : Type 0 where
  pub gathered : Bool
  pub tx : Tx
  pub ports : List PortView
  pub room : ℕ
  pub a_before : ℕ
  pub b_before : ℕ
  pub block : Ptr

-- an end system of these
abbrev pub end_view : Bool → Tx → List PortView → ℕ → ℕ → ℕ → Ptr → EndView
end_view gathered tx ports room a_before b_before block = record {
  gathered = gathered;
  tx = tx;
  ports = ports;
  room = room;
  a_before = a_before;
  b_before = b_before;
  block = block;
}

-- the number of frames that a network had accepted before the last poll
abbrev pub before_of : Net → EndView → ℕ
before_of A it = it.a_before
before_of B it = it.b_before

-- the number of frames that the last poll made for a network
abbrev pub made_for : Net → EndView → ℕ
made_for net it = length (line_of net it.tx.lines) - before_of net it

-- frame k that the last poll made for a network
abbrev pub made_at : Net → ℕ → EndView → List ℕ
made_at net k it = (entry_at (line_of net it.tx.lines) (before_of net it + k)).frame

-- at least one network accepted each fragment of each accepted message
abbrev pub IsAllSent : EndView → Type 0
IsAllSent it = IsAllDone it.tx.plan (accepted_in it.tx.links) (log it.tx.lines)

-- the frames from number `before` on were made by one poll: at most 64, all at its time
pub record AreOfPoll (at before : ℕ) (handed : List Entry) : Type 0 where
  pub few : length handed ≤ before + 64
  pub same : (k : ℕ) → before ≤ k → k < length handed → (entry_at handed k).at ≡ at

-- the invariant of an end system: its ports are its emitter's, and the last poll made all frames after the earlier
-- polls' frames
pub record IsEndSystem (it : EndView) : Type 0 where
  pub mirrored : IsMirrored it.tx.lines
  pub own : it.gathered ≡ false → AreOpenedWith it.tx it.ports
  pub made_a : AreOfPoll it.tx.moment it.a_before it.tx.lines.a
  pub made_b : AreOfPoll it.tx.moment it.b_before it.tx.lines.b

-- A poll at `now`: its report, the turns of the links, and that the emitter stays lawful.
pub record PollsTx (gathered : Bool) (now : ℕ) (old : Tx) (report : Report) (new : Tx) : Type 0 where
  pub told : Polls now old report new
  pub run : Runs gathered now old new
  pub lawful : StaysLawful gathered old new

-- A poll: it makes for a network the frames after the frames accepted before.
pub record PollsEnd (now : ℕ) (old new : EndView) : Type 0 where
  pub report : Report
  pub polls : PollsTx old.gathered now old.tx report new.tx
  pub gathered : new.gathered ≡ old.gathered
  pub ports : new.ports ≡ old.ports
  pub room : new.room ≡ old.room
  pub a_before : new.a_before ≡ length old.tx.lines.a
  pub b_before : new.b_before ≡ length old.tx.lines.b
  pub block : new.block ≡ old.block

-- an end system one of whose networks was made to fail; all else is unchanged
abbrev pub FailsEnd : Net → (old new : EndView) → Type 0
FailsEnd net old new = new ≡ record old { tx = record old.tx { lines = with_failing net old.tx.lines } }

-- an end system one of whose sub-VLs is closed with this total; all else is unchanged
pub record ClosesEnd (old : EndView) (vl sub total : ℕ) (new : EndView) : Type 0 where
  pub same : new ≡ record old { tx = new.tx }
  pub closes : ClosesTx old.tx vl sub total new.tx

-- an end system whose ports are gathered; all of them were in it
pub record GathersEnd (old new : EndView) : Type 0 where
  pub gathered : new.gathered ≡ true
  pub tx : IsGatheredTx old.tx old.ports new.tx
  pub a_before : new.a_before ≡ old.a_before
  pub b_before : new.b_before ≡ old.b_before
  pub block : new.block ≡ old.block

-- the port has this identifier
abbrev pub has_id : ℕ → PortView → Bool
has_id id port = nat_eq port.plan.id.0 id

-- A port with this identifier is taken out of the end system. It is one of the emitter's.
pub record TakesPort (old : EndView) (id : ℕ) (port : PortView) (new : EndView) : Type 0 where
  pub named : port.plan.id.0 ≡ id
  pub ports : IsPermutation old.ports (port ∷ new.ports)
  pub same : new ≡ record old { ports = new.ports }
  pub own : old.gathered ≡ false → IsPortOfTx old.tx port

-- the port is put back into the end system, whose list has the same room
pub record GivesBack (old : EndView) (port : PortView) (new : EndView) : Type 0 where
  pub same : new ≡ record old { ports = old.ports ++ port ∷ [] }

-- An end system of such a plan: nothing was accepted, polled or transmitted, and all its ports are in it,
-- in a list with room for all of them.
pub record IsOpened (Of : Plan → Type 0) (it : EndView) : Type 0 where
  pub plan : Plan
  pub of : Of plan
  pub fresh : IsFreshTx plan it.tx
  pub ports : AreFreshPorts it.tx it.ports
  pub room : length it.tx.plan.ports ≤ it.room
  pub sending : it.gathered ≡ false
  pub a_before : it.a_before ≡ 0
  pub b_before : it.b_before ≡ 0

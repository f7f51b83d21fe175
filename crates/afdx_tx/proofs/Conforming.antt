-- A sound emitter's frames conform, for the accepted messages too.
use Rattle.afdx_tx.proofs.PortMessages.{taken_allowed, accepted_allowed}
use Rattle.afdx_tx.proofs.SoundEmitter.{alike_queues, sound_legal, sound_streams, sound_turns}
use Rattle.afdx_tx.proofs.Names.{same_name, same_total, Accepted, Tx, IsSound, Conforms, ℕ, ◌≡◌, List, ◌++◌, arith, sym, subst, append_assoc, get_or_past, cases_lt, Plan, link_plan_at, room_of, Net, A, B, Entry, IsLegalOn, IsLegal, LinkState, held_at, link_at, IsSamePlan, taken_in, AreGathered, accepted_in, Bool, true, false, AreLinksOf, IsRun, BothEndure, AreAllowed, AreOfPorts, IsInPhase, KeepsMessages, KeepsPhase, Runs}
use Rattle.afdx_tx.proofs.NothingLeft.{run_drained}
use Rattle.afdx_tx.proofs.OwedFragments.{owed_split, untaken}

-- The accepted lists are the same.
pub accepted_same : (old new : List LinkState) → IsSamePlan old new → AreGathered old → accepted_in new ≡ accepted_in old
accepted_same old new p g = grind (arith, get_or_past, cases_lt)

-- A network's frames are legal for the accepted messages.
legal_on : (plan : Plan) (links : List LinkState) (net : Net) (handed : List Entry)
    → IsLegalOn plan (taken_in links) net handed → IsLegalOn plan (accepted_in links) net handed
legal_on plan links net handed l = record {
  known = l.known;
  carried = l.carried;
  prefixes = λ k s lt slt.
      let held = held_at (link_at links k).subs s in
      let room = room_of (link_plan_at plan.links k).lmax in
      let more = untaken plan.end_system room net held in
      let begins = l.prefixes k s lt slt in (
        begins.0 ++ more,
        grind (arith, append_assoc, owed_split),
      );
  numbered = l.numbered;
  spaced = l.spaced;
}

-- Frames that are legal for the messages taken are legal for the accepted ones.
pub legal_accepted : (plan : Plan) (links : List LinkState) (a b : List Entry)
    → IsLegal plan (taken_in links) a b → IsLegal plan (accepted_in links) a b
legal_accepted plan links a b l =
    record { on_a = legal_on plan links A a l.on_a; on_b = legal_on plan links B b l.on_b; twins = l.twins }

pub sound_conforms : (tx : Tx) → IsSound tx.plan tx.links tx.lines tx.moment → Conforms tx
sound_conforms tx sound =
    let legal = sound_legal tx.plan tx.links tx.lines tx.moment sound in
    record {
      legal = legal;
      legal_accepted = legal_accepted tx.plan tx.links tx.lines.a tx.lines.b legal;
      turns = sound_turns tx.plan tx.links tx.lines tx.moment sound;
      taken = taken_allowed tx.plan tx.links sound.of_plan sound.items;
      accepted = accepted_allowed tx.plan tx.links sound.of_plan sound.items;
      tied = grind arith;
      mirrored = sound.mirrored;
      streams = sound_streams tx.plan tx.links tx.lines tx.moment sound;
    }

-- The links keep their phase.
pub still_in : (phase : Bool) (plan after : Plan) (old new : List LinkState) → after ≡ plan → IsSamePlan old new
    → IsInPhase phase plan old → IsInPhase phase after new
still_in false plan after old new same links is = grind arith
still_in true plan after old new same links is = (
  grind arith,
  subst (λ (p : Plan). AreAllowed p (accepted_in new)) (sym same)
      (subst (λ (accepted : Accepted). AreAllowed plan accepted) (sym (accepted_same old new links is.0)) is.1),
)

-- The messages are of ports that may send them.
pub of_ports : (phase : Bool) (tx : Tx) → Conforms tx → IsInPhase phase tx.plan tx.links → AreOfPorts phase tx
of_ports phase tx conforms is = grind arith

-- The messages still to send are kept.
keeps_messages : (phase : Bool) (old new : Tx) → IsSamePlan old.links new.links → IsInPhase phase old.plan old.links
    → KeepsMessages phase old new
keeps_messages false old new same is = grind (arith, alike_queues, same_name, same_total, get_or_past, cases_lt)
keeps_messages true old new same is = accepted_same _ _ same is.0

-- A poll leaves an emitter lawful and in its phase.
pub keeps_phase : (phase : Bool) (old new : Tx) → IsInPhase phase old.plan old.links → IsSamePlan old.links new.links
    → Conforms new → BothEndure old.lines new.lines → new.plan ≡ old.plan → new.board ≡ old.board
    → KeepsPhase phase old new
keeps_phase phase old new is same conforms stays_down plan board = grind (arith, still_in, of_ports, keeps_messages)

-- The links had the turns of their phase.
pub runs : (phase : Bool) (now : ℕ) (old new : Tx) → AreLinksOf old.plan old.links → IsInPhase phase old.plan old.links
    → IsRun now old.links new.links old.lines new.lines → Runs phase now old new
runs phase now old new of is run = grind (arith, run_drained)

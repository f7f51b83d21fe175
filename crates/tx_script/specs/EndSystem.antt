-- An end system as a transcript shows it: the messages taken of each sub-VL and the frames left, no queue.
use Rattle.std.specs.Prelude.{ℕ, ◌≡◌, ◌⊎◌, List, [], ◌∷◌, ◌++◌, length, true}
use Rattle.afdx_plan.specs.Config.{Plan, link_plan_at}
use Rattle.afdx_plan.specs.declared.link_plan.LinkPlan.{LinkPlan}
use Rattle.afdx_frame.specs.declared.net.Net.{Net}
use Rattle.afdx_frame.specs.Fragments.{Sent, blanked}
use Rattle.redundant_mux.specs.Lines.{Entry, Logged, sent_to, Lines, log as log_of}
use Rattle.vl_link.specs.declared.link.Served.{Served}
use Rattle.vl_link.specs.declared.sub.SubVl.{SubVl}
use Rattle.vl_link.specs.Turn.{TurnView, Turn, AreTurns}
use Rattle.vl_link.specs.Links.{message_fragments}
use Rattle.afdx_tx.specs.Run.{pace_in}

-- A sub-VL: the messages that were taken from its queue, and the fragments left of the last one.
pub record Progress : Type 0 where
  pub taken : List Sent
  pub left : List (List ℕ)

-- The plan, the sub-VLs by the place of their link and their index, the transmitted frames, each with the
-- networks that it is for, and the time of the last poll.
pub record EndSystem : Type 0 where
  pub plan : Plan
  pub subs : ℕ → ℕ → Progress
  pub log : List Logged
  pub moment : ℕ

-- a message was found, and is now being sent
abbrev pub started : SubVl → Progress → Sent → Progress
started of old message = record {
  taken = old.taken ++ message ∷ [];
  left = message_fragments of (length old.taken) message;
}

-- a sub-VL goes on with its message, or nothing is left of it and it takes the next one
abbrev pub GoesOnOrFinds : SubVl → (old mid : Progress) → Type 0
GoesOnOrFinds of old mid =
    ((old.left ≡ [] → ⊥) × (mid ≡ old))
    ⊎ ((message : Sent) × (old.left ≡ []) × (mid ≡ started of old message))

-- a sub-VL has something, and gives its next frame
pub record SendsFrame (of : SubVl) (old : Progress) (frame : List ℕ) (new : Progress) : Type 0 where
  pub mid : Progress
  pub asked : GoesOnOrFinds of old mid
  pub next : mid.left ≡ blanked frame ∷ new.left
  pub taken : new.taken ≡ mid.taken

-- a turn over the sub-VLs of a link: one has nothing if its queue gives nothing either
abbrev pub progress_view : ℕ → LinkPlan → (old new : ℕ → Progress) → TurnView
progress_view end_system link old new = record {
  lacks = λ s. ((old s).left ≡ []) × (new s ≡ old s);
  rests = λ s. new s ≡ old s;
  gives = λ s frame.
      SendsFrame (record { end_system = end_system; link = link; sub = s }) (old s) frame (new s);
}

-- one turn of the link at a place
abbrev pub HasTurnAt : ℕ → (old new : EndSystem) → ℕ → (lines after : Lines) → Served → Type 0
HasTurnAt now old new k lines after did =
    let link = link_plan_at old.plan.links k in
    Turn now link (pace_in link (log_of lines)) (progress_view old.plan.end_system link (old.subs k) (new.subs k))
    lines after did

-- A poll: the links have their turns in order. Both networks are up afterwards, so no turn lost a frame.
pub record HasPolled (now : ℕ) (old new : EndSystem) : Type 0 where
  pub plan : new.plan ≡ old.plan
  pub moment : new.moment ≡ now
  pub lines : Lines
  pub after : Lines
  pub was : lines.logged ≡ old.log
  pub is : after.logged ≡ new.log
  pub turns : AreTurns (HasTurnAt now old new) 0 (length old.plan.links) lines after
  pub a_stands : after.a_stands ≡ true
  pub b_stands : after.b_stands ≡ true

-- nothing was sent
abbrev pub no_progress : Progress
no_progress = record { taken = []; left = [] }

-- nothing was sent, transmitted or polled yet
abbrev pub fresh : Plan → EndSystem
fresh plan = record { plan = plan; subs = λ k s. no_progress; log = []; moment = 0 }

-- the frames of a network
abbrev pub handed : Net → EndSystem → List Entry
handed net es = sent_to net es.log

-- The frames that two networks accepted, in one log and by network, and which networks are up.
use Rattle.std.specs.Prelude.{OnOk, OnErr, Result, ℕ, List, Bool, map, filter, ◌≡◌, ◌⊎◌, ◌↔◌, ◌+◌, ◌≤◌, [], ◌∷◌, ◌++◌, true, false, ◌&&◌, ◌||◌, All}
use Rattle.afdx_plan.specs.declared.link_plan.Networks.{Networks}
use Rattle.afdx_plan.specs.declared.link_plan.Networks.TheVariants.{OnlyA, OnlyB}
use Rattle.afdx_plan.specs.Plan.{carries_a, carries_b}
use Rattle.afdx_frame.specs.declared.net.Net.{Net}
use Rattle.afdx_frame.specs.declared.net.Net.TheVariants.{A, B}
use Rattle.afdx_frame.specs.Header.{twin_of}

-- a frame's time in microseconds, and its bytes
pub record Entry : Type 0 where
  pub at : ℕ
  pub frame : List ℕ

abbrev pub entry : ℕ → List ℕ → Entry
entry at frame = record { at = at; frame = frame }

-- the answer to one frame: the network accepts the entry, or has the same frames and one failure more
pub record IsAnswer {X E : Type 0} (answer : Result X E) (e : Entry) (old new : List Entry)
    (failures_old failures_new : ℕ) : Type 0 where
  pub ok : OnOk answer ((new ≡ old ++ e ∷ []) × (failures_new ≡ failures_old))
  pub err : OnErr answer ((new ≡ old) × (failures_new ≡ failures_old + 1))

-- an entry, with its frame for network A, and the networks that it is for
pub record Logged : Type 0 where
  pub networks : Networks
  pub entry : Entry

abbrev pub logged_for : Networks → Entry → Logged
logged_for networks e = record { networks = networks; entry = e }

-- the entries of a log
abbrev pub entries_of : List Logged → List Entry
entries_of logged = map (λ (l : Logged). l.entry) logged

-- the network is among the named ones
abbrev pub names : Net → Networks → Bool
names A networks = carries_a networks
names B networks = carries_b networks

-- one network alone
abbrev pub only : Net → Networks
only A = OnlyA
only B = OnlyB

-- the entry with its frame for this network
abbrev pub side : Net → Entry → Entry
side net e = record { at = e.at; frame = twin_of net e.frame }

-- the frames of a log that a network gets
abbrev pub sent_to : Net → List Logged → List Entry
sent_to net logged = map (side net) (entries_of (filter (λ (l : Logged). names net l.networks) logged))

-- The frames that each network accepted, its failures, whether it is up, and whether it was made to fail. `logged` has
-- in order the frames that at least one network accepted.
pub record Lines : Type 0 where
  pub a : List Entry
  pub b : List Entry
  pub a_failures : ℕ
  pub b_failures : ℕ
  pub a_stands : Bool
  pub b_stands : Bool
  pub a_failing : Bool
  pub b_failing : Bool
  pub logged : List Logged

-- the lines of two networks
abbrev pub lines_of : (a b : List Entry) (a_failures b_failures : ℕ) (a_stands b_stands a_failing b_failing : Bool)
    (logged : List Logged) → Lines
lines_of a b f g s t p q logged =
    record {
      a = a;
      b = b;
      a_failures = f;
      b_failures = g;
      a_stands = s;
      b_stands = t;
      a_failing = p;
      b_failing = q;
      logged = logged;
    }

-- the lines after this network was made to fail
abbrev pub with_failing : Net → Lines → Lines
with_failing A lines = record lines { a_failing = true }
with_failing B lines = record lines { b_failing = true }

-- One network at a hand of an entry. `named` says whether the entry is for it, `stood` and `stands`
-- whether it is up before and afterwards.
abbrev pub Handing : (named : Bool) (handed : Entry) (stood stands : Bool) (old new : List Entry)
    (failures_old failures_new : ℕ) → Type 0
-- The entry isn't for this network.
Handing false handed stood stands old new f g = (stands ≡ stood) × (new ≡ old) × (g ≡ f)
-- The network accepts the entry.
Handing true handed true true old new f g = (new ≡ old ++ handed ∷ []) × (g ≡ f)
-- The hand fails.
Handing true handed true false old new f g = (new ≡ old) × (g ≡ f + 1)
-- The network has failed before, and gets nothing.
Handing true handed false false old new f g = (new ≡ old) × (g ≡ f)
-- A network that has failed stays down.
Handing true handed false true old new f g = ⊥

-- One network through a list of hands: it is up afterwards exactly if it was up and no hand failed.
-- At most one hand fails, and a network that is down gets nothing.
pub record Endures (stood stands : Bool) (old new : List Entry) (failures_old failures_new : ℕ) : Type 0 where
  pub stays : (stands ≡ true) ↔ ((stood ≡ true) × (failures_new ≡ failures_old))
  pub least : failures_old ≤ failures_new
  pub most : failures_new ≤ failures_old + 1
  pub down : stood ≡ false → (new ≡ old) × (failures_new ≡ failures_old)

-- One network through a list of hands: none makes it fail, and if it was made to fail, it accepts nothing.
pub record StaysFailing (was is : Bool) (old new : List Entry) : Type 0 where
  pub same : is ≡ was
  pub silent : was ≡ true → new ≡ old

-- both networks through a list of hands
pub record BothEndure (before after : Lines) : Type 0 where
  pub a : Endures before.a_stands after.a_stands before.a after.a before.a_failures after.a_failures
  pub b : Endures before.b_stands after.b_stands before.b after.b before.b_failures after.b_failures
  pub a_failing : StaysFailing before.a_failing after.a_failing before.a after.a
  pub b_failing : StaysFailing before.b_failing after.b_failing before.b after.b

-- one of these networks is up
abbrev pub some_of : Networks → (a b : Bool) → Bool
some_of networks a b = (carries_a networks && a) || (carries_b networks && b)

-- one of the named networks is up
abbrev pub any_up : Networks → Lines → Bool
any_up networks lines = some_of networks lines.a_stands lines.b_stands

-- a network is up
abbrev pub is_alive : Lines → Bool
is_alive lines = lines.a_stands || lines.b_stands

-- the frames that at least one network accepted, in order, as for network A
unfoldable pub log : Lines → List Entry
log lines = entries_of lines.logged

-- One network's list is its part of a prefix of the log, and of the whole log if it is up. Nothing of the rest is for
-- this network alone.
pub record Keeps (net : Net) (stands : Bool) (handed : List Entry) (logged : List Logged) : Type 0 where
  pub seen : List Logged
  pub missed : List Logged
  pub whole : logged ≡ seen ++ missed
  pub got : handed ≡ sent_to net seen
  pub shared : All (λ (l : Logged). l.networks ≡ only net → ⊥) missed
  pub all : stands ≡ true → missed ≡ []

-- Both lists mirror the log, and one of the networks missed nothing.
pub record IsMirrored (lines : Lines) : Type 0 where
  pub first : Keeps A lines.a_stands lines.a lines.logged
  pub second : Keeps B lines.b_stands lines.b lines.logged
  pub one : (first.missed ≡ []) ⊎ (second.missed ≡ [])
  pub for_a : All (λ (l : Logged). side A l.entry ≡ l.entry) lines.logged

-- The invariant of two networks that are abandoned at their first failure: a network that is up has not failed, and the
-- lists mirror the log.
pub record AreInStep (lines : Lines) : Type 0 where
  pub a_unfailed : lines.a_stands ≡ true → lines.a_failures ≡ 0
  pub b_unfailed : lines.b_stands ≡ true → lines.b_failures ≡ 0
  pub mirrored : IsMirrored lines

-- The state in which the threads of a storm begin, the counts that they publish and read, and the state that they
-- leave.
use Rattle.std.specs.Prelude.{ℕ, ◌≡◌, ◌≢◌, ◌+◌, ◌≤◌, ◌<◌, List, length, map, ◌*◌, Bool, false}
use Rattle.atomic_table.specs.Seated.{TableId}
use Rattle.afdx_plan.specs.declared.link_plan.LinkPlan.{LinkPlan}
use Rattle.redundant_mux.specs.Lines.{Entry}
use Rattle.status_board.specs.declared.counts.Counts.{Counts}
use Rattle.status_board.specs.Views.{Published, Watched, last_of, links_of, seen}
use Rattle.afdx_legal.specs.Streams.{own_stream}
use Rattle.afdx_legal.specs.Counting.{counts_in}
use Rattle.afdx_tx.specs.Emitter.{Tx}
use Rattle.afdx_tx.specs.Calls.{counts_at}
use Rattle.afdx_tx.specs.Ports.{PortView, AreFreshPorts, AreOpenedWith}
use Rattle.storm.specs.declared.polling.TheConstants.{STEP}
use Rattle.storm.specs.declared.run.Joined.{Joined}
use Rattle.storm.specs.declared.run.Opened.{Opened}
use Rattle.storm.specs.declared.worker.Load.{Load}
use Rattle.storm.specs.Workers.{AreSpent}

-- the cells of a board's links, in their order
abbrev pub cells_of : List Published → List TableId
cells_of board = map (λ (link : Published). link.cell) board

-- the cells that a monitor reads, in their order
abbrev pub cells_read : List Watched → List TableId
cells_read monitor = map (λ (link : Watched). link.cell) monitor

-- the last published counts of each link of an emitter are the counts of the link's own stream
pub record IsShown (tx : Tx) : Type 0 where
  pub count : length tx.board ≡ length tx.plan.links
  pub each : (k : ℕ) → k < length tx.plan.links → last_of tx.board k ≡ counts_at tx k

-- the counts of a link's own stream of two networks' frames, the longer of its two
abbrev pub own_counts : (a b : List Entry) → LinkPlan → Counts
own_counts a b link = counts_in (own_stream link.id.0 a b)

-- the counts of each link, in the links' order
abbrev pub all_counts : List LinkPlan → (a b : List Entry) → List Counts
all_counts links a b = map (own_counts a b) links

-- one link of a monitor was read `times` times, by one load each; no other link was read
pub record ReadsOnly (old new : List Watched) (link times : ℕ) : Type 0 where
  pub cells : cells_read new ≡ cells_read old
  pub loads : (seen new link).loads ≡ (seen old link).loads + times
  pub others : (k : ℕ) → k ≢ link → seen new k ≡ seen old k

-- each of the first links of a monitor was read `times` times, by one load each, and no other
pub record ReadsFirst (old new : List Watched) (many times : ℕ) : Type 0 where
  pub cells : cells_read new ≡ cells_read old
  pub first : (k : ℕ) → k < many → (seen new k).loads ≡ (seen old k).loads + times
  pub rest : (k : ℕ) → many ≤ k → seen new k ≡ seen old k

-- each link of a monitor was read `times` times, by one load each
abbrev pub ReadsEach : List Watched → List Watched → ℕ → Type 0
ReadsEach old new times = ReadsFirst old new (links_of old) times

-- an emitter before its first poll, with its fresh ports and its monitor
pub record IsReady (tx : Tx) (ports : List PortView) (monitor : List Watched) : Type 0 where
  pub first : tx.moment ≡ 0
  pub fresh : AreFreshPorts tx ports
  pub opened : AreOpenedWith tx ports
  pub links : links_of monitor ≡ length tx.plan.links
  pub shown : IsShown tx
  pub cells : cells_of tx.board ≡ cells_read monitor

-- an emitter, its ports and its monitor after `polls` polls, once each port sent its messages 1 to n and no count was
-- seen to fall
pub record IsJoined (n turns : ℕ) (tx : Tx) (ports : List PortView) (monitor : List Watched) (polls : ℕ) (back : Bool)
    : Type 0 where
  pub spent : AreSpent tx n turns ports
  pub within : polls ≤ turns
  pub moment : tx.moment ≤ polls * STEP
  pub shown : IsShown tx
  pub cells : cells_of tx.board ≡ cells_read monitor
  pub never_back : back ≡ false

-- the state in which the threads leave an emitter, its ports and its monitor, once all are joined
pub record IsRunOf (opened : Opened) (load : Load) (joined : Joined) : Type 0 where
  pub plan : joined.tx.plan ≡ opened.tx.plan
  pub ended : IsJoined load.messages load.turns joined.tx joined.ports.items joined.monitor joined.polls joined.back
  pub watched : ReadsEach opened.monitor joined.monitor load.messages

-- An emitter one of whose sub-VLs was closed, or told of messages, is still sound. The total of a close is what was
-- accepted.
use Rattle.afdx_tx.proofs.Names.{ℕ, ◌≡◌, ◌<◌, ◌≤◌, List, length, set, arith, subst, cases_lt, length-set, get_or_past, Plan, IsPlan, link_plan_at, queue_of, Held, LinkState, held_at, link_at, no_link, ChangesSub, ChangesQueue, Closes, Hears, SenderView, Tx, HearsTx, place_of, queues_in, LacksSub, ClosesTx, Some, length-map, total_in, PortView, accepted_in, IsGatheredTx, AreReceiving, IsReceiving, Seen, receiving, gathered}
use Rattle.afdx_tx.proofs.SoundEmitter.{alike_queues}
use Rattle.afdx_tx.proofs.KeptLinks.{KeepsSub, KeepLinks, one_link, one_count, one_each}

-- a sub-VL that may have been closed or told of messages; all else is unchanged
pub record ClosedSub (old new : Held) : Type 0 where
  pub keeps : KeepsSub old new
  pub name : queue_of new.seen ≡ queue_of old.seen

sub_here : (held : Held) → ClosedSub held held
sub_here held = grind arith

-- links whose sub-VLs may have been closed or told of messages; all else is unchanged
pub record ClosedLinks (old new : List LinkState) : Type 0 where
  pub count : length new ≡ length old
  pub same : (k : ℕ) → link_at new k ≡ record (link_at old k) { subs = (link_at new k).subs }
  pub subs : (k : ℕ) → length (link_at new k).subs ≡ length (link_at old k).subs
  pub each : (k s : ℕ) → ClosedSub (held_at (link_at old k).subs s) (held_at (link_at new k).subs s)

-- One link had one sub-VL changed so.
links_changed : (old : List LinkState) (place sub : ℕ) (new : LinkState) (Change : Held → Held → Type 0)
    → ChangesSub Change sub (link_at old place) new → ((held after : Held) → Change held after → ClosedSub held after) → place < length old
    → ClosedLinks old (set old place new)
links_changed old place sub new Change c closed within = record {
  count = length-set old place new;
  same = grind (arith, one_link);
  subs = grind (arith, one_count);
  each = one_each old place sub new within c.same ClosedSub sub_here (closed _ _ c.change);
}

pub links_closed : (old : List LinkState) (place sub total : ℕ) (new : LinkState)
    → ChangesSub (ChangesQueue (Closes total)) sub (link_at old place) new → place < length old → ClosedLinks old (set old place new)
links_closed old place sub total new c = links_changed old place sub new (ChangesQueue (Closes total)) c (λ held after change. grind arith)

pub links_told : (old : List LinkState) (place sub : ℕ) (sender : SenderView) (new : LinkState)
    → ChangesSub (ChangesQueue (Hears sender)) sub (link_at old place) new → place < length old → ClosedLinks old (set old place new)
links_told old place sub sender new c = links_changed old place sub new (ChangesQueue (Hears sender)) c (λ held after change. grind arith)

-- Only the queues have changed.
pub closed_kept : (old new : List LinkState) → ClosedLinks old new → KeepLinks old new
closed_kept old new c = grind arith

-- The ports of each queue may still send.
pub closed_receiving : (old new : List LinkState) → ClosedLinks old new → AreReceiving old → AreReceiving new
closed_receiving old new c are k s within below = named _ _ (c.each k s).name (are k s (omega (arith, c.count)) (omega (arith, c.subs k)))
  where
    named : (old new : Seen) → queue_of new ≡ queue_of old → IsReceiving old → IsReceiving new
    named (receiving r) (receiving q) same is = tt
    named (receiving r) (gathered g) same is = grind arith
    named (gathered g) new same is = absurd is

-- The queues have the same identities.
pub queues_same : (old new : List LinkState) → ClosedLinks old new → queues_in new ≡ queues_in old
queues_same old new c = grind (arith, alike_queues)

-- A found link lacks this sub-VL, and no other link has its identifier.
pub lacks_at : (plan : Plan) (vl sub place : ℕ) → IsPlan plan → place < length plan.links
    → (link_plan_at plan.links place).id.0 ≡ vl → (link_plan_at plan.links place).sub_vls ≤ sub → LacksSub plan vl sub
lacks_at plan vl sub place valid within id few other at = grind arith

-- The link of the closed sub-VL is one of the emitter's.
pub closes_within : (old : Tx) (vl sub total : ℕ) (new : Tx) (c : ClosesTx old vl sub total new) → c.place < length old.links
closes_within old vl sub total new c = grind (arith, get_or_past, no_link, cases_lt)

-- The links after the close.
pub closes_links : (old : Tx) (vl sub total : ℕ) (new : Tx) → ClosesTx old vl sub total new → ClosedLinks old.links new.links
closes_links old vl sub total new c =
    subst (ClosedLinks old.links) (grind arith)
    (links_closed old.links c.place sub total (link_at new.links c.place) c.closes (closes_within old vl sub total new c))

-- The link of a port of which the emitter was told is one of the emitter's.
pub hears_within : (old : Tx) (port : PortView) (new : Tx) (h : HearsTx old port new) → place_of old port < length old.links
hears_within old port new h = let sub = h.hears.within in grind (arith, get_or_past, no_link, cases_lt)

-- The links after the emitter was told of a port.
pub hears_links : (old : Tx) (port : PortView) (new : Tx) → HearsTx old port new → ClosedLinks old.links new.links
hears_links old port new h =
    subst (ClosedLinks old.links) (grind arith)
    (links_told old.links (place_of old port) port.plan.sub port.sender (link_at new.links (place_of old port)) h.hears (hears_within old port new h))

-- The total of a sub-VL is the number of its accepted messages once the ports are gathered.
pub total_whole : (old : Tx) (ports : List PortView) (new : Tx) (k s total : ℕ) → IsGatheredTx old ports new
    → total_in old.links k s ≡ Some total → length (accepted_in new.links k s) ≡ total
total_whole old ports new k s total g shown = grind (arith, length-map, get_or_past)

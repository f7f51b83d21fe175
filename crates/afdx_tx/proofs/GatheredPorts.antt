-- The accepted messages of each port that was gathered.
use Rattle.afdx_tx.proofs.PortMessages.{own_messages, port_within}
use Rattle.afdx_tx.proofs.Names.{ℕ, ◌≡◌, ◌<◌, List, length, arith, ap, ◌∙◌, subst, Contains, All-contains, PortPlan, Plan, IsPlan, port_plan_at, link_place, part_of, brought_by, known_of, LinkState, held_at, link_at, back_of, Lines, Tx, AreLinksOf, HaveOwnItems, AllWaitUntil, IsSound, queues_in, PortView, BelongsTo, AreOpenedWith, HasPlace, HasEveryPlace, index_of, AreGathered, OnlyTakeBack, IsTakenBack, GathersLinks, GathersPorts, IsGatheredTx, HasOwnPart, held_for, Published, Reaches}
use Rattle.afdx_tx.proofs.KeptLinks.{kept_sound}

-- Each queue is gathered.
pub all_gathered : (mid new : List LinkState) → GathersLinks mid new → AreGathered new
all_gathered mid new g k s lt slt = grind arith

-- The part of the port at a place is its own list.
own_part : (tx new : Tx) (mid : List LinkState) (ports : List PortView) (place : ℕ) → IsPlan tx.plan
    → AreLinksOf tx.plan tx.links → OnlyTakeBack tx.links mid → GathersLinks mid new.links → new.plan ≡ tx.plan
    → AreLinksOf new.plan new.links → HaveOwnItems new.links → AreOpenedWith tx ports → place < length tx.plan.ports
    → HasPlace ports place → ((port : PortView) → Contains ports port → IsTakenBack tx.plan mid port)
    → HasOwnPart new ports place
own_part tx new mid ports place valid was takes g same of items opened lt has back =
    let port = port_plan_at tx.plan.ports place in
    let k = link_place tx.plan port in
    let there = port_within tx.plan tx.links was place valid lt in
    let link : link_place tx.plan (port_plan_at tx.plan.ports place) < length mid = omega (arith, there.0, takes.count) in
    let sub : (port_plan_at tx.plan.ports place).sub < length (link_at mid (link_place tx.plan (port_plan_at tx.plan.ports place))).subs =
    omega (arith, there.1, takes.subs k) in
    let gathered = (g.each k link).subs.each port.sub sub in
    let own = All-contains (BelongsTo tx.plan (queues_in tx.links)) ports has.port opened has.inside in
    let plan = own.plan ∙ ap (port_plan_at tx.plan.ports) has.at in
    let at = own.index ∙ ap (index_of tx.plan.ports) has.at in
    let came = back has.port has.inside in
    let inside = subst (λ (p : PortPlan). Contains
    (back_of (held_at (link_at mid (link_place tx.plan p)).subs p.sub).seen)
    (brought_by has.port.sender)) plan came.back in
    let moved : part_of (index_of new.plan.ports place) (known_of (held_for new (port_plan_at new.plan.ports place)).seen)
    ≡ has.port.sender.own = rw (same, ← at) (gathered.gathers.whole.parts (brought_by has.port.sender) inside) in
    record {
      port = has.port;
      inside = has.inside;
      at = has.at;
      messages = came.messages;
      part = moved;
      places = rw (same, ← at) (gathered.gathers.whole.places (brought_by has.port.sender) inside);
      accepted = grind (arith, own_messages);
    }

-- The emitter is still sound.
pub gathers_sound : (config : Plan) (old : List LinkState) (ports : List PortView) (new : List LinkState) (lines : Lines) (moment : ℕ)
    → GathersPorts config old ports new → IsSound config old lines moment → IsSound config new lines moment
gathers_sound config old ports new lines moment g sound =
    kept_sound config g.mid new lines moment (grind arith)
    (kept_sound config old g.mid lines moment (grind arith) sound)

-- The published counts are still at most the current ones.
pub gathers_reaches : (config : Plan) (old : List LinkState) (ports : List PortView) (new : List LinkState) (board : List Published)
    → GathersPorts config old ports new → Reaches old board → Reaches new board
gathers_reaches config old ports new board g r = grind arith

-- Gathering makes no link due earlier.
pub gathers_wait : (config : Plan) (old : List LinkState) (ports : List PortView) (new : List LinkState) (at : ℕ)
    → GathersPorts config old ports new → AllWaitUntil at old (length old) → AllWaitUntil at new (length new)
gathers_wait config old ports new at g wait = grind arith

-- The accepted messages of each port are its own list.
pub gathers_tx : (old new : Tx) (ports : List PortView) → GathersPorts old.plan old.links ports new.links
    → new ≡ record old { links = new.links } → IsSound old.plan old.links old.lines old.moment
    → IsSound new.plan new.links new.lines new.moment → AreOpenedWith old ports
    → HasEveryPlace (length old.plan.ports) ports → IsGatheredTx old ports new
gathers_tx old new ports g same sound after opened every =
    record {
      plan = ap (λ (t : Tx). t.plan) same;
      lines = ap (λ (t : Tx). t.lines) same;
      moment = grind arith;
      board = ap (λ (t : Tx). t.board) same;
      count = grind arith;
      links = grind arith;
      own = λ place lt. own_part old new g.mid ports place sound.valid sound.of_plan g.takes g.gathers
          (ap (λ (t : Tx). t.plan) same)
          after.of_plan after.items opened lt (every place lt)
          (λ port has. All-contains (IsTakenBack old.plan g.mid) ports port g.back has);
    }

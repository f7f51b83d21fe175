-- The messages of each port that its sub-VL accepted.
use Rattle.afdx_tx.proofs.Names.{ℕ, suc, ◌≡◌, ◌≢◌, ◌<◌, List, [], ◌∷◌, Bool, true, cond, nat_eq, filter, ◌++◌, drop, drop-cons, length, take, get_or, arith, refl, ap, ◌∙◌, sym, All, Contains, ◌==◌, AllPairs, get_or_at, get_or_default, take-append-drop, All-head, All-tail, All-map, All-contains_itself, filter-append, PortPlan, Plan, IsPlan, link_plan_at, port_plan_at, SendsOver, IsItem, AreItems, part_of, Seen, taken_of, known_of, LinkState, held_at, link_at, sent_of, sent_by, items_taken, Tx, AreLinksOf, HaveOwnItems, taken_in, ports_of_sub, accepted_in, link_place, index_of, held_for, AllPairs-filter, IsQueued, AreQueued, messages_of, port_messages}
use Rattle.afdx_tx.proofs.SoundEmitter.{plan_is, count_is}
use Rattle.afdx_tx.proofs.PortLink.{link_within, of_sub, on_own, on_sub_vl, seats_more, seats_within}

-- The message of an item of a sub-VL's queue is one that its port may send.
item_allowed : (config : Plan) (k s : ℕ) (item : ℕ × List ℕ)
    → IsItem (length (ports_of_sub config.ports (link_plan_at config.links k).id.0 s)) item
    → IsQueued config k s (sent_of (ports_of_sub config.ports (link_plan_at config.links k).id.0 s) item)
item_allowed config k s item is =
    let own = of_sub (Contains config.ports) config.ports (link_plan_at config.links k).id.0 s (All-contains_itself config.ports)
    item.0 (port_plan_at [] 0) is.port in
    grind arith

-- The same of a list of items.
items_allowed : (config : Plan) (k s : ℕ) (ports : List PortPlan) (items : List (ℕ × List ℕ))
    → ports ≡ ports_of_sub config.ports (link_plan_at config.links k).id.0 s → AreItems (length ports) items
    → All (IsQueued config k s) (sent_by ports items)
items_allowed config k s ports items are own =
    let mine = ports_of_sub config.ports (link_plan_at config.links k).id.0 s in
    rw are (All-map (IsQueued config k s) (sent_of mine) items
    (λ j d lt. item_allowed config k s (get_or items j d) ((rw are at own) j d lt)))

module _ (config : Plan) (links : List LinkState) (of : AreLinksOf config links) where
  -- The ports of a sub-VL of a link.
  ports_are : (k s : ℕ) → k < length links → s < length (link_at links k).subs
      → (held_at (link_at links k).subs s).ports ≡ ports_of_sub config.ports (link_plan_at config.links k).id.0 s
  ports_are k s lt slt = grind (arith, plan_is)

  -- A link has the number of sub-VLs that the plan says.
  pub sub_within : (k s : ℕ) → k < length links → s < (link_plan_at config.links k).sub_vls
      → s < length (link_at links k).subs
  sub_within k s lt slt = grind (arith, plan_is)

  -- The sub-VL of the port at a place is one of the links'.
  pub port_within : (place : ℕ) → IsPlan config → place < length config.ports
      → (link_place config (port_plan_at config.ports place) < length links)
      × ((port_plan_at config.ports place).sub < length (link_at links (link_place config (port_plan_at config.ports place))).subs)
      × SendsOver (port_plan_at config.ports place) (link_plan_at config.links (link_place config (port_plan_at config.ports place)))
  port_within place valid lt =
      let linked = link_within config (port_plan_at config.ports place) valid (grind arith) in
      let here : link_place config (port_plan_at config.ports place) < length links = grind (arith, count_is) in
      (here, sub_within _ _ here linked.1.sub, linked.1)

  -- Messages of each sub-VL's own ports are of its ports in the plan.
  own_allowed : (read : Seen → List (ℕ × List ℕ))
      → ((k s : ℕ) → k < length links → s < length (link_at links k).subs
      → AreItems (length (held_at (link_at links k).subs s).ports) (read (held_at (link_at links k).subs s).seen))
      → AreQueued config (λ k s. sent_by (held_at (link_at links k).subs s).ports
      (read (held_at (link_at links k).subs s).seen))
  own_allowed read items k s klt slt =
      let lt : k < length links = grind (arith, count_is) in
      let sub = sub_within k s lt slt in
      items_allowed config k s _ (read (held_at (link_at links k).subs s).seen) (ports_are k s lt sub)
      (items k s lt sub)

  -- Each accepted message is of a port of its sub-VL.
  pub accepted_allowed : HaveOwnItems links → AreQueued config (accepted_in links)
  accepted_allowed items = own_allowed known_of items

  -- Each message taken is of a port of its sub-VL.
  pub taken_allowed : HaveOwnItems links → AreQueued config (taken_in links)
  taken_allowed items = own_allowed taken_of (λ k s lt slt. items_taken _ (held_at (link_at links k).subs s).seen
      (items k s lt slt))

-- An element that passes a test has as its index in the filter the number of earlier ones that
-- pass.
pub place_in : {X : Type 0} (on : X → Bool) (xs : List X) (place : ℕ) (d : X) → place < length xs → on (get_or xs place d) ≡ true
    → get_or (filter on xs) (length (filter on (take place xs))) d ≡ get_or xs place d
place_in on xs place d lt e =
    let front = filter on (take place xs) in
    let rest = filter on (drop (suc place) xs) in
    ap (λ ys. get_or ys (length front) d) (sym (ap (filter on) (take-append-drop place xs))
    ∙ filter-append on (take place xs) (drop place xs)
    ∙ ap (λ ys. front ++ filter on ys) (drop-cons xs place d lt)
    ∙ ap (λ t. front ++ cond t (get_or xs place d ∷ rest) rest) e)
    ∙ get_or_at front (get_or xs place d) rest d (length front) refl

-- two ports have different identifiers
abbrev AreOthers : PortPlan → PortPlan → Type 0
AreOthers p q = p.id.0 ≢ q.id.0

-- No two ports of a valid plan have the same identifier.
ports_differ : (config : Plan) → IsPlan config → AllPairs AreOthers config.ports
ports_differ config valid = grind (arith, port_plan_at, get_or_default)

-- Among ports with different identifiers, the index determines the identifier.
is_index : (ports : List PortPlan) → AllPairs AreOthers ports → (index id : ℕ) → index < length ports
    → (port_plan_at ports index).id.0 ≡ id → (i : ℕ) → i < length ports
    → (i == index) ≡ nat_eq (port_plan_at ports i).id.0 id
is_index ports apart index id lt own i ilt = grind arith

-- A sender's part of the items is the messages of its port.
part_is : (ports : List PortPlan) (index : ℕ) (port : PortPlan) (items : List (ℕ × List ℕ))
    → ((i : ℕ) → i < length ports → (i == index) ≡ nat_eq (port_plan_at ports i).id.0 port.id.0) → AreItems (length ports) items
    → part_of index items ≡ messages_of port (sent_by ports items)
part_is ports index port [] same all = refl
part_is ports index port (item ∷ items) same all =
    let is = All-head (IsItem (length ports)) item items all in
    let rest = part_is ports index port items same (All-tail (IsItem (length ports)) item items all) in
    grind arith

-- A port among those of its sub-VL.
own_index : (config : Plan) (place : ℕ) → IsPlan config → place < length config.ports → (i : ℕ)
    → i < length (ports_of_sub config.ports (port_plan_at config.ports place).vl.0 (port_plan_at config.ports place).sub)
    → (i == index_of config.ports place) ≡ nat_eq (port_plan_at (ports_of_sub config.ports
    (port_plan_at config.ports place).vl.0 (port_plan_at config.ports place).sub) i).id.0
    (port_plan_at config.ports place).id.0
own_index config place valid lt =
    let port = port_plan_at config.ports place in
    let on = on_sub_vl port.vl.0 port.sub in
    let passes = on_own port port.vl.0 port.sub refl refl in
    let seat = rw passes at (seats_more config.ports place port.vl.0 port.sub lt) in
    is_index (filter on config.ports) (AllPairs-filter AreOthers on config.ports (ports_differ config valid))
    (index_of config.ports place) port.id.0 (grind (arith, seats_within)) (grind (arith, place_in))

-- The accepted messages of a port, by its identifier.
pub own_messages : (tx : Tx) (place : ℕ) (own : List (List ℕ)) → IsPlan tx.plan → AreLinksOf tx.plan tx.links
    → HaveOwnItems tx.links → place < length tx.plan.ports
    → part_of (index_of tx.plan.ports place) (known_of (held_for tx (port_plan_at tx.plan.ports place)).seen) ≡ own
    → port_messages tx.plan (accepted_in tx.links) place ≡ own
own_messages tx place own valid of items lt part = grind (arith, port_within, ports_are, part_is, own_index)

-- The link of a port, and the number of the first ports of a plan that are of a sub-VL.
use Rattle.afdx_tx.proofs.Names.{ℕ, ◌≡◌, ◌<◌, List, Bool, length, arith, ◌∙◌, sym, refl, Option, Some, None, unwrap_or, eq-eqb, lt-ltb, eqb-true, both_ways, cases_lt, position, position_or_len, ◌==◌, LinkPlan, PortPlan, SendsOver, Plan, IsPlan, HasLink, link_plan_at, link_place, ◌+◌, ◌≤◌, ◌++◌, true, false, ◌&&◌, nat_eq, cond, take, drop, add-zero, and_parts, length-append, take-append-drop, filter-append, All-filter, filter_passes, port_plan_at, IsPort, ports_of_sub, index_of, SubVl, All, fails_before_first, length-filter, position-Some, length-filter_more, IsPortOf}

-- whether the link has this identifier
abbrev has_id : ℕ → LinkPlan → Bool
has_id vl link = link.id.0 == vl

-- whether the link is the port's
abbrev is_its : PortPlan → LinkPlan → Bool
is_its port link = has_id port.vl.0 link

-- If no link is found, none has the identifier.
pub none_has : (links : List LinkPlan) (vl k : ℕ) → position (has_id vl) links ≡ None → k < length links
    → (link_plan_at links k).id.0 ≡ vl → ⊥
none_has links vl k none within id = grind (arith, position_or_len, lt-ltb, both_ways, fails_before_first, eq-eqb, cases_lt)

-- A found link has the identifier.
pub found_at : (links : List LinkPlan) (vl k : ℕ) → position (has_id vl) links ≡ Some k
    → (k < length links) × ((link_plan_at links k).id.0 ≡ vl)
found_at links vl k e = grind (arith, position-Some, eqb-true)

-- The link of a port is found.
pub found : (links : List LinkPlan) (port : PortPlan) → HasLink links port → position (is_its port) links ≡ None → ⊥
found links port has none = none_has links port.vl.0 has.at none has.within (grind arith)

-- A valid plan has one link with an identifier.
pub found_over : (plan : Plan) (port : PortPlan) (k : ℕ) → IsPlan plan → HasLink plan.links port
    → position (is_its port) plan.links ≡ Some k → SendsOver port (link_plan_at plan.links k)
found_over plan port k valid has e =
    let at = found_at plan.links port.vl.0 k e in
    grind arith

-- The link of a port is one of the plan, and the port sends over it.
pub link_within : (plan : Plan) (port : PortPlan) → IsPlan plan → HasLink plan.links port
    → (link_place plan port < length plan.links) × SendsOver port (link_plan_at plan.links (link_place plan port))
link_within plan port valid has = at (position (is_its port) plan.links) refl
  where
    at : (r : Option ℕ) → position (is_its port) plan.links ≡ r
        → (unwrap_or r 0 < length plan.links) × SendsOver port (link_plan_at plan.links (unwrap_or r 0))
    at None e = absurd (found plan.links port has e)
    at (Some k) e = (grind arith, found_over plan port k valid has e)

-- whether the port is of the sub-VL
abbrev pub on_sub_vl : ℕ → ℕ → PortPlan → Bool
on_sub_vl vl sub port = nat_eq port.vl.0 vl && nat_eq port.sub sub

-- the number of the first ports that are of the sub-VL
abbrev pub seats : List PortPlan → ℕ → ℕ → ℕ → ℕ
seats ports first vl sub = length (ports_of_sub (take first ports) vl sub)

-- One port more.
pub seats_more : (ports : List PortPlan) (i vl sub : ℕ) → i < length ports
    → seats ports (i + 1) vl sub ≡ seats ports i vl sub + cond (on_sub_vl vl sub (port_plan_at ports i)) 1 0
seats_more ports i vl sub lt = length-filter_more (on_sub_vl vl sub) ports i _ lt

-- The number is at most that of all ports.
pub seats_within : (ports : List PortPlan) (i vl sub : ℕ) → seats ports i vl sub ≤ length (ports_of_sub ports vl sub)
seats_within ports i vl sub =
    let whole : ports_of_sub ports vl sub ≡ ports_of_sub (take i ports) vl sub ++ ports_of_sub (drop i ports) vl sub =
    sym (grind (arith, ports_of_sub, take-append-drop))
    ∙ filter-append (on_sub_vl vl sub) (take i ports) (drop i ports) in
    grind (arith, length-append, ports_of_sub, take, drop)

-- A port is of its own sub-VL.
pub on_own : (port : PortPlan) (vl sub : ℕ) → port.vl.0 ≡ vl → port.sub ≡ sub → on_sub_vl vl sub port ≡ true
on_own port vl sub v s = grind arith

-- the port at a place sends over this sub-VL of this link
pub record IsAt (config : Plan) (place k s : ℕ) : Type 0 where
  pub within : place < length config.ports
  pub link : k < length config.links
  pub over : SendsOver (port_plan_at config.ports place) (link_plan_at config.links k)
  pub sub : (port_plan_at config.ports place).sub ≡ s

module _ (config : Plan) (place k s : ℕ) (at : IsAt config place k s) where
  -- Its index is the number of earlier ports of its sub-VL.
  pub index_at : index_of config.ports place ≡ seats config.ports place (link_plan_at config.links k).id.0 s
  index_at = cc

  -- The number after it is one higher.
  pub seat_at : seats config.ports (place + 1) (link_plan_at config.links k).id.0 s ≡ index_of config.ports place + 1
  seat_at = grind (arith, index_at, seats_more)

-- The numbers of the other sub-VLs are the same.
pub others_at : (config : Plan) (place vl t : ℕ) → place < length config.ports
    → on_sub_vl vl t (port_plan_at config.ports place) ≡ false
    → seats config.ports (place + 1) vl t ≡ seats config.ports place vl t
others_at config place vl t lt off = grind (arith, seats_more, add-zero)

-- The port at a place, for a plan behind a reference.
pub place_at : (config shown : Plan) (place k s : ℕ) (plan : PortPlan) → shown ≡ config
    → plan ≡ port_plan_at shown.ports place → place < length shown.ports → k < length shown.links
    → SendsOver plan (link_plan_at shown.links k) → s ≡ plan.sub → IsAt config place k s
place_at config shown place k s plan e is within link over sub = grind arith

-- A sub-VL has few ports.
pub few_ports : (config : Plan) (vl sub : ℕ) → IsPlan config → length (ports_of_sub config.ports vl sub) ≤ 64
few_ports config vl sub valid = omega (arith, valid.few_ports vl sub, length-filter (on_sub_vl vl sub) config.ports)

-- Each is one of the plan's, and of the sub-VL.
pub of_sub : (P : PortPlan → Type 0) (ports : List PortPlan) (vl sub : ℕ) → All P ports
    → All (λ (port : PortPlan). P port × (port.vl.0 ≡ vl) × (port.sub ≡ sub)) (ports_of_sub ports vl sub)
of_sub P ports vl sub all k d lt =
    let both = and_parts _ _ (filter_passes (on_sub_vl vl sub) ports k d lt) in
    (All-filter (on_sub_vl vl sub) P ports all k d lt, eqb-true _ _ both.0, eqb-true _ _ both.1)

pub own_ports : (ports : List PortPlan) (of : SubVl) → All IsPort ports → of.sub < of.link.sub_vls
    → All (IsPortOf of) (ports_of_sub ports of.link.id.0 of.sub)
own_ports ports of each lt k d below =
    let own = of_sub IsPort ports of.link.id.0 of.sub each k d below in
    grind arith

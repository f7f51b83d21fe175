-- The end systems and links that the plans of one network share, though they may not.
use Rattle.std.specs.Prelude.{ℕ, ◌+◌, nat_eq, if◌then◌else◌, List, [], ◌∷◌, ◌++◌, position, take, Option}
use Rattle.std.specs.Option.{option_map_or}
use Rattle.judge.specs.Types.{LinkPlan, Plan}
use Rattle.judge.specs.declared.network.Clash.{Clash}
use Rattle.judge.specs.declared.network.Shared.{Shared}
use Rattle.judge.specs.declared.network.Shared.TheVariants.{EndSystem, Link}

-- a clash of two plans, by their places: an end system or a link with this number
abbrev pub clash : ℕ → ℕ → ℕ → Shared → List Clash
clash earlier later id shared = record { id = id; earlier = earlier; later = later; shared = shared } ∷ []

-- the clash of two plans with the same end system
abbrev pub end_systems : ℕ → Plan → ℕ → Plan → List Clash
end_systems earlier other later plan =
    if nat_eq plan.end_system other.end_system then clash earlier later plan.end_system EndSystem else []

-- the place of the link with the same number
abbrev pub place_of : List LinkPlan → LinkPlan → Option ℕ
place_of links link = position (λ (it : LinkPlan). nat_eq it.id.0 link.id.0) links

-- the clash of a link of the later plan, at its place `second`, with the earlier plan's link of the same number
abbrev pub link_at : ℕ → Plan → ℕ → ℕ → LinkPlan → List Clash
link_at earlier other later second link =
    option_map_or (λ first. clash earlier later link.id.0 (Link first second)) (place_of other.links link) []

-- the clashes of these links of the later plan, whose places there count from `second`
abbrev pub links_from : ℕ → Plan → ℕ → ℕ → List LinkPlan → List Clash
links_from earlier other later second [] = []
links_from earlier other later second (link ∷ links) =
    link_at earlier other later second link ++ links_from earlier other later (second + 1) links

-- the clashes of a plan with an earlier one: of its end system, and of links in the order of the later plan
unfoldable pub shared_by : ℕ → Plan → ℕ → Plan → List Clash
shared_by earlier other later plan =
    end_systems earlier other later plan ++ links_from earlier other later 0 plan.links

-- the clashes of a plan with these earlier ones, whose places count from `earlier`
abbrev pub shared_with : ℕ → List Plan → ℕ → Plan → List Clash
shared_with earlier [] later plan = []
shared_with earlier (other ∷ others) later plan =
    shared_by earlier other later plan ++ shared_with (earlier + 1) others later plan

-- the clashes of these plans, whose places count from `later`, each with those before it
abbrev pub clashes_from : List Plan → ℕ → List Plan → List Clash
clashes_from all later [] = []
clashes_from all later (plan ∷ plans) = shared_with 0 (take later all) later plan ++ clashes_from all (later + 1) plans

-- the clashes of a network's plans, each plan with each earlier one
abbrev pub clashes : List Plan → List Clash
clashes plans = clashes_from plans 0 plans

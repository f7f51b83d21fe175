-- A plan is valid exactly if it has no fault. Flows of a valid plan are distinct.
use Rattle.std.proofs.Common.{◌≡◌, ℕ, suc, zero, ◌+◌, ◌-◌, lit≤, take, drop, ◌<◌, ◌≤◌, inl, inr, ◌⊎◌, Bool, true, false, cond, List, [], ◌∷◌, length, get_or, Option, Some, None, refl, ap, sym, ◌∙◌, arith, eq-eqb, subst, ◌/◌, ◌%◌}
use Rattle.std.specs.Prelude.{◌&&◌, ◌||◌, map, ◌==◌, nat_le, nat_lt, nat_eq, find, count_by, is_none, All, Contains, IfSome}
use Rattle.std.specs.List.{list_any, AllByRecursion}
use Rattle.std.proofs.Math.Bool.{and-false}
use Rattle.std.proofs.lemmas.Bool.{or_parts, ltb-false, false_from_ne_true, cases_Bool, cases_eq, or_from}
use Rattle.std.proofs.lemmas.List.{get_or_default, length-map, take-append-drop, take-map, take_all}
use Rattle.std.proofs.Math.ListN.{get_or-map}
use Rattle.std.proofs.lemmas.List.Elements.{All-contains, Contains-get_or}
use Rattle.std.proofs.lemmas.List.Folds.{fold-map, list_any_at, list_any_none}
use Rattle.std.proofs.lemmas.List.Sums.{count_by_more_no, count_by_more_yes, sum_by-append}
use Rattle.std.proofs.lemmas.Slice.Eq.{bytes_eq-Decides}
use Rattle.std.proofs.lemmas.Bool.Decides.{nat_tests}
use Rattle.afdx_plan.specs.declared.port_plan.VlId.{VlId}
use Rattle.afdx_plan.specs.declared.port_plan.PortId.{PortId}
use Rattle.afdx_plan.specs.declared.port_plan.Kind.TheVariants.{Sampling}
use Rattle.afdx_plan.specs.declared.link_plan.LinkPlan.{LinkPlan}
use Rattle.afdx_plan.specs.declared.port_plan.PortPlan.{PortPlan}
use Rattle.afdx_plan.specs.Address.{destination_of}
use Rattle.afdx_plan.specs.Plan.{IsLink, IsPort, IsUnicast}
use Rattle.afdx_plan.specs.Config.{Plan, IsPlan, HasLink, AreSameFlow, link_plan_at, port_plan_at, ports_on, FlowsApart}
use Rattle.afdx_plan.specs.PlanFaults.{fault_number, has_pair, same_link, same_port, is_row_of, misfits, same_flow, share_unicast, are_one_destination, is_no_count, any_row, is_past_limit, on_sub_of, link_whole, port_whole, whole, PlanRule, plan_rules, breaks, ValidPlansShowNoFault}
use Rattle.afdx_plan.specs.declared.rows.LinkRow.{LinkRow}
use Rattle.afdx_plan.specs.declared.rows.Misfit.TheVariants.{NoLink, NoSub, TooLong}
use Rattle.afdx_plan.specs.declared.fault.ConfigFault.{ConfigFault}

-- the rules of plans over links and ports of a plan
abbrev has_same_vl : LinkPlan → LinkPlan → Bool
has_same_vl a b = same_link (link_whole a) (link_whole b)

abbrev has_same_port : PortPlan → PortPlan → Bool
has_same_port a b = same_port (port_whole a) (port_whole b)

abbrev has_same_flow : PortPlan → PortPlan → Bool
has_same_flow a b = same_flow (port_whole a) (port_whole b)

abbrev shares_unicast : PortPlan → PortPlan → Bool
shares_unicast a b = share_unicast (port_whole a) (port_whole b)

abbrev link_row_of : List LinkPlan → PortPlan → Option LinkRow
link_row_of links port = find (is_row_of (port_whole port)) (map link_whole links)

abbrev names_no_link : List LinkPlan → PortPlan → Bool
names_no_link links port = misfits true (link_row_of links port) NoLink (port_whole port)

abbrev names_no_sub : List LinkPlan → PortPlan → Bool
names_no_sub links port = misfits true (link_row_of links port) NoSub (port_whole port)

abbrev is_too_long : List LinkPlan → PortPlan → Bool
is_too_long links port = misfits true (link_row_of links port) TooLong (port_whole port)

-- tests of the rows of a plan
pub any_map : {A B : Type 0} (p : B → Bool) (f : A → B) (xs : List A) → list_any p (map f xs) ≡ list_any (λ x. p (f x)) xs
any_map p f [] = refl
any_map p f (x ∷ xs) = ap (λ b. p (f x) || b) (any_map p f xs)

pub pair_map : {A B : Type 0} (r : B → B → Bool) (f : A → B) (xs : List A) → has_pair r (map f xs) ≡ has_pair (λ a b. r (f a) (f b)) xs
pair_map r f [] = refl
pair_map r f (x ∷ xs) = rw (any_map (r (f x)) f xs, pair_map r f xs) refl

pub named_all : (links : List LinkPlan) → list_any (λ (link : LinkPlan). is_none (link_whole link).id) links ≡ false
named_all [] = refl
named_all (x ∷ xs) = named_all xs

pub counted : (ports : List PortPlan) (port : PortPlan) → count_by (on_sub_of (port_whole port)) (map port_whole ports) ≡ ports_on ports port.vl.0 port.sub
counted ports port = grind (arith, nat_tests, fold-map)

-- no element passes a test that none passes
pub none_at : {X : Type 0} (p : X → Bool) (xs : List X) (k : ℕ) (d : X) → list_any p xs ≡ false → k < length xs
    → p (get_or xs k d) ≡ false
none_at p xs k d none below = grind (arith, false_from_ne_true, get_or, list_any_at)

-- nor does a member
none_of : {X : Type 0} (p : X → Bool) (xs : List X) (x : X) → list_any p xs ≡ false → Contains xs x → p x ≡ false
none_of p xs x none in_x = All-contains (λ y. p y ≡ false) xs x (λ k d below. none_at p xs k d none below) in_x

-- no element is related to a later one
pair_at : {X : Type 0} (related : X → X → Bool) (xs : List X) (i j : ℕ) (d : X) → has_pair related xs ≡ false
    → i < j → j < length xs → related (get_or xs i d) (get_or xs j d) ≡ false
pair_at related [] i j d none before below = absurd (omega arith)
pair_at related (x ∷ xs) i zero d none before below = absurd (omega arith)
pair_at related (x ∷ xs) zero (suc j) d none before below = grind (arith, none_at, or_parts)
pair_at related (x ∷ xs) (suc i) (suc j) d none before below =
    pair_at related xs i j d (or_parts _ _ none).1 (omega arith) (omega arith)

-- if no two elements are related, elements related both ways are at one index
one_place : {X : Type 0} (related : X → X → Bool) (xs : List X) (i j : ℕ) (d : X) → has_pair related xs ≡ false
    → i < length xs → j < length xs → related (get_or xs i d) (get_or xs j d) ≡ true
    → related (get_or xs j d) (get_or xs i d) ≡ true → i ≡ j
one_place related xs i j d none in_i in_j one other =
    grind (arith, pair_at related xs i j d none, pair_at related xs j i d none)

-- the index of the element that `find` returns
record FoundAt (p : LinkRow → Bool) (links : List LinkPlan) : Type 0 where
  pub at : ℕ
  pub within : at < length links
  pub passes : p (link_whole (link_plan_at links at)) ≡ true
  pub found : find p (map link_whole links) ≡ Some (link_whole (link_plan_at links at))

found_at : (p : LinkRow → Bool) (links : List LinkPlan) → is_none (find p (map link_whole links)) ≡ false → FoundAt p links
found_at p [] some = cc
found_at p (x ∷ xs) some = elim (cases_Bool (p (link_whole x))) [
  | inl is ↦ record { at = 0; within = omega arith; passes = is; found = rw is refl }
  | inr isnt ↦ let behind = found_at p xs (rw isnt at some) in record {
    at = suc behind.at;
    within = omega (arith, behind.within);
    passes = behind.passes;
    found = rw isnt behind.found;
  }
]

-- the link of a port has the identifier that the port names
pub named : (port : PortPlan) (link : LinkPlan) → is_row_of (port_whole port) (link_whole link) ≡ true → link.id ≡ port.vl
named port link is = grind (arith, nat_tests)

-- the link and the sub-VL of a port exist
has_link : (links : List LinkPlan) (port : PortPlan) → names_no_link links port ≡ false
    → names_no_sub links port ≡ false → HasLink links port
has_link links port linked sub =
    let found = found_at (is_row_of (port_whole port)) links linked in
    record { at = found.at; within = found.within; over = grind (arith, nat_tests) }

-- the member of a list at its index
place_of : {X : Type 0} (xs : List X) (x d : X) (member : Contains xs x) → get_or xs member.0 d ≡ x
place_of xs x d member = get_or_default xs member.0 d x member.1 ∙ member.2

-- links with the same identifier are one
same_vl : (links : List LinkPlan) (i j : ℕ) → has_pair has_same_vl links ≡ false → i < length links → j < length links
    → (link_plan_at links i).id ≡ (link_plan_at links j).id → i ≡ j
same_vl links i j none in_i in_j same = grind (arith, link_plan_at, one_place, has_same_vl, in_i, in_j, eq-eqb)

-- a sampling port's greatest message fits
fits : (links : List LinkPlan) (port : PortPlan) (link : LinkPlan) → has_pair has_same_vl links ≡ false
    → names_no_link links port ≡ false → is_too_long links port ≡ false
    → Contains links link → port.kind ≡ Sampling → link.id ≡ port.vl → port.max ≤ link.lmax - 47
fits links port link apart linked short member kind id =
    let found = found_at (is_row_of (port_whole port)) links linked in
    let here = link_plan_at links found.at in
    let there = link_plan_at links member.0 in
    let same : there ≡ link = place_of links link _ member in
    let one : found.at ≡ member.0 = same_vl links found.at member.0 apart found.within member.1
    (named port here found.passes ∙ sym (ap (λ (l : LinkPlan). l.id) same ∙ id)) in
    let it : here ≡ link = ap (link_plan_at links) one ∙ same in
    let long : nat_lt (here.lmax - 47) port.max ≡ false = rw (kind, found.found) at short in
    rw (← it) (ltb-false (here.lmax - 47) port.max long)

-- two ports with one destination both have no unicast address, or the same one
pub which_destination : (v w : ℕ) (s t : Option (List ℕ)) → IfSome s IsUnicast → IfSome t IsUnicast
    → destination_of v s ≡ destination_of w t
    → ((s ≡ None) × (t ≡ None)) ⊎ ((address : List ℕ) × (s ≡ Some address) × (t ≡ Some address))
which_destination v w s t is_s is_t same = grind arith

-- the test of destinations finds them equal
one_destination : (p q : PortPlan) → IsPort p → IsPort q → AreSameFlow p q
    → are_one_destination p.unicast q.unicast ≡ true
one_destination p q is_p is_q same = grind (arith, bytes_eq-Decides, which_destination, is_p, is_q)

-- the test of flows finds them equal
one_flow : (p q : PortPlan) → IsPort p → IsPort q → AreSameFlow p q → has_same_flow p q ≡ true
one_flow p q is_p is_q same = grind (arith, nat_tests, one_destination p q is_p is_q same)

-- related members are one
related_members : {X : Type 0} (related : X → X → Bool) (xs : List X) (x y : X) → has_pair related xs ≡ false
    → Contains xs x → Contains xs y → related x y ≡ true → related y x ≡ true → x ≡ y
related_members related xs x y none in_x in_y one other =
    let at_x = place_of xs x x in_x in
    let at_y = place_of xs y x in_y in
    let same = one_place related xs in_x.0 in_y.0 x none in_x.1 in_y.1 (rw (at_x, at_y) one) (rw (at_x, at_y) other) in
    sym at_x ∙ ap (λ (k : ℕ). get_or xs k x) same ∙ at_y

-- two ports that share a unicast address
shared : (p q : PortPlan) (address : List ℕ) → p.unicast ≡ Some address → q.unicast ≡ Some address
    → p.partition ≡ q.partition → (p.vl.0 ≡ q.vl.0 → ⊥) → shares_unicast p q ≡ true
shared p q address of_p of_q partition apart = grind (arith, nat_tests, bytes_eq-Decides)

-- ports of one partition and unicast address are on one link
unicast : (ports : List PortPlan) (p q : PortPlan) (address : List ℕ) → has_pair shares_unicast ports ≡ false
    → Contains ports p → Contains ports q → p.unicast ≡ Some address → q.unicast ≡ Some address
    → p.partition ≡ q.partition → p.vl ≡ q.vl
unicast ports p q address none in_p in_q of_p of_q partition = elim (cases_eq p.vl.0 q.vl.0) [
  | inl same ↦ let vl : ℕ → VlId = λ n. record { 0 = n } in ap vl same
  | inr apart ↦ ap (λ (port : PortPlan). port.vl) (related_members shares_unicast ports p q none in_p in_q
      (shared p q address of_p of_q partition apart)
      (shared q p address of_q of_p (sym partition) (λ same. apart (sym same))))
]

-- each row fails a test exactly if none passes
row_at : {X : Type 0} (test : ℕ → X → Bool) (k : ℕ) (xs : List X) (i j : ℕ) (d : X) → j ≡ i + k → any_row test k xs ≡ false
    → i < length xs → test j (get_or xs i d) ≡ false
row_at test k [] i j d at none below = absurd (omega arith)
row_at test k (x ∷ xs) zero j d at none below = let same : j ≡ k = omega arith in rw same (or_parts _ _ none).0
row_at test k (x ∷ xs) (suc i) j d at none below = row_at test (k + 1) xs i j d (omega arith) (or_parts _ _ none).1 (omega arith)

no_row : {X : Type 0} (test : ℕ → X → Bool) (k : ℕ) (xs : List X) (d : X)
    → ((i j : ℕ) → j ≡ i + k → i < length xs → test j (get_or xs i d) ≡ false) → any_row test k xs ≡ false
no_row test k [] d each = refl
no_row test k (x ∷ xs) d each = or_from _ _ (each 0 k (omega arith) (omega arith))
    (no_row test (k + 1) xs d (λ i j at below. each (suc i) j (omega arith) (omega arith)))

-- the ports before one on its sub-VL
past_is : (ports : List PortPlan) (n : ℕ) → is_past_limit (map port_whole ports) (n + 1) (get_or (map port_whole ports) n (port_whole (port_plan_at [] 0)))
    ≡ nat_le 64 (ports_on (take n ports) (port_plan_at ports n).vl.0 (port_plan_at ports n).sub)
past_is ports n = let back : n + 1 - 1 ≡ n = omega arith in
    rw (back, get_or-map port_whole ports n (port_plan_at [] 0), take-map port_whole n ports, counted (take n ports) (port_plan_at ports n)) refl

-- no sub-VL has too many ports
few_to : (ports : List PortPlan) (vl sub n : ℕ) → any_row (is_past_limit (map port_whole ports)) 1 (map port_whole ports) ≡ false
    → n ≤ length ports → ports_on (take n ports) vl sub ≤ 64
few_to ports vl sub zero none within = lit≤ tt
few_to ports vl sub (suc n) none within =
    let before = few_to ports vl sub n none (omega arith) in
    let here = rw past_is at (row_at (is_past_limit (map port_whole ports)) 1 (map port_whole ports) n (n + 1) (port_whole (port_plan_at [] 0)) refl
    none (rw (length-map ports port_whole) (omega arith))) in
    let next : suc n ≡ n + 1 = omega arith in
    let port = port_plan_at ports n in
    let on : PortPlan → Bool = λ p. nat_eq p.vl.0 vl && nat_eq p.sub sub in rw next (elim (cases_Bool (on port)) [
      | inl is ↦
          let same : ports_on (take n ports) port.vl.0 port.sub ≡ ports_on (take n ports) vl sub = grind (arith, nat_tests) in
          let one = count_by_more_yes on ports n (port_plan_at [] 0) within is in grind (arith, nat_tests)
      | inr isnt ↦ let one = count_by_more_no on ports n (port_plan_at [] 0) within isnt in omega arith
    ])

few : (ports : List PortPlan) (vl sub : ℕ) → any_row (is_past_limit (map port_whole ports)) 1 (map port_whole ports) ≡ false → ports_on ports vl sub ≤ 64
few ports vl sub none = rw (take_all (length ports) ports (omega arith)) at (few_to ports vl sub (length ports) none (omega arith))

not_past : (ports : List PortPlan) (n : ℕ) → n < length ports → ((vl sub : ℕ) → ports_on ports vl sub ≤ 64)
    → nat_le 64 (ports_on (take n ports) (port_plan_at ports n).vl.0 (port_plan_at ports n).sub) ≡ false
not_past ports n below most =
    let port = port_plan_at ports n in
    let on : PortPlan → Bool = λ p. nat_eq p.vl.0 port.vl.0 && nat_eq p.sub port.sub in
    let all : count_by on ports ≡ count_by on (take (n + 1) ports) + count_by on (drop (n + 1) ports) =
    ap (count_by on) (sym (take-append-drop (n + 1) ports)) ∙ sum_by-append (λ p. cond {A = ℕ} (on p) 1 0) (take (n + 1) ports) (drop (n + 1) ports) in
    let one = count_by_more_yes on ports n (port_plan_at [] 0) below (grind (arith, nat_tests)) in
    let few = most port.vl.0 port.sub in grind (arith, nat_tests)

-- a count within its limits
counts : (most n : ℕ) → is_no_count most n ≡ false → (1 ≤ n) × (n ≤ most)
counts most n h = grind (arith, nat_tests)

-- no rule is broken
abbrev pub Unbroken : Plan → List PlanRule → Type 0
Unbroken plan some = AllByRecursion (λ r. breaks (whole plan) r.forbids ≡ false) some

-- the plan is valid: fault by fault
pub valid : (plan : Plan) → plan.end_system < 65536 → All IsLink plan.links → All IsPort plan.ports
    → Unbroken plan plan_rules → IsPlan plan
valid plan fits_end each_link each_port
    (duplicate_vl, (duplicate_port, (no_link, (no_sub, (long, (flow, (shared_address, (link_count, (port_count, (crowd, _)))))))))) =
    let vls = rw pair_map at duplicate_vl in
    let linked = simp (any_map, named_all) at no_link in
    let short = rw any_map at long in record {
      end_system = fits_end;
      links = counts 64 (length plan.links) (rw length-map at link_count);
      ports = counts 256 (length plan.ports) (rw length-map at port_count);
      each_link = each_link;
      each_port = each_port;
      links_apart = λ i j in_i in_j same. same_vl plan.links i j vls in_i in_j same;
      ports_apart = λ i j in_i in_j same. let number = ap (λ (id : PortId). id.0) same in
          one_place has_same_port plan.ports i j _ (rw pair_map at duplicate_port) in_i in_j (eq-eqb _ _ number)
          (eq-eqb _ _ (sym number));
      linked = λ k d below. has_link plan.links (get_or plan.ports k d)
          (none_at (names_no_link plan.links) plan.ports k d linked below)
          (none_at (names_no_sub plan.links) plan.ports k d (rw any_map at no_sub) below);
      sampling = λ p link in_p in_link kind id. fits plan.links p link vls
          (none_of (names_no_link plan.links) plan.ports p linked in_p)
          (none_of (is_too_long plan.links) plan.ports p short in_p) in_link kind id;
      flows_apart = λ p q in_p in_q same.
          let is_p = All-contains IsPort plan.ports p each_port in_p in
          let is_q = All-contains IsPort plan.ports q each_port in_q in
          related_members has_same_flow plan.ports p q (rw pair_map at flow) in_p in_q
          (one_flow p q is_p is_q same) (one_flow q p is_q is_p (record {
            vl = sym same.vl;
            partition = sym same.partition;
            source = sym same.source;
            destination = sym same.destination;
            address = sym same.address;
          }));
      unicasts_apart = λ p q in_p in_q address of_p of_q partition.
          unicast plan.ports p q address (rw pair_map at shared_address) in_p in_q of_p of_q partition;
      few_ports = λ vl sub. few plan.ports vl sub crowd;
    }

-- a list has no related pair if no two elements are related
no_pair : {X : Type 0} (related : X → X → Bool) (xs : List X) (d : X)
    → ((i j : ℕ) → i < j → j < length xs → related (get_or xs i d) (get_or xs j d) ≡ false)
    → has_pair related xs ≡ false
no_pair related [] d apart = refl
no_pair related (x ∷ xs) d apart = or_from _ _
    (list_any_none (related x) xs (λ k e below.
    subst (λ y. related x y ≡ false) (get_or_default xs k d e below) (apart 0 (suc k) (omega arith) (omega arith))))
    (no_pair related xs d (λ i j before below. apart (suc i) (suc j) (omega arith) (omega arith)))

-- `find` returns something if an element passes
some_found : {X Y : Type 0} (p : Y → Bool) (f : X → Y) (xs : List X) (i : ℕ) (d : X) → i < length xs → p (f (get_or xs i d)) ≡ true
    → is_none (find p (map f xs)) ≡ false
some_found p f [] i d within passes = absurd (omega arith)
some_found p f (x ∷ xs) zero d within passes = rw passes refl
some_found p f (x ∷ xs) (suc i) d within passes = grind (arith, nat_tests, some_found p f xs i d (omega arith) passes)

-- a port with a link names one
names_link : (plan : Plan) (port : PortPlan) → HasLink plan.links port → names_no_link plan.links port ≡ false
names_link plan port has = some_found (is_row_of (port_whole port)) link_whole plan.links has.at _ has.within (eq-eqb _ _ (ap (λ (v : VlId). v.0) has.over.id))

-- the link of a port, as `find` returns it
linked : (plan : Plan) (port : PortPlan) → HasLink plan.links port → FoundAt (is_row_of (port_whole port)) plan.links
linked plan port has = found_at (is_row_of (port_whole port)) plan.links (names_link plan port has)

-- a port names one of the sub-VLs of its link
names_sub : (plan : Plan) (port : PortPlan) → IsPlan plan → HasLink plan.links port → names_no_sub plan.links port ≡ false
names_sub plan port is has =
    let found = linked plan port has in
    let here = link_plan_at plan.links found.at in
    let one : found.at ≡ has.at = is.links_apart found.at has.at found.within has.within
    (named port here found.passes ∙ sym has.over.id) in
    grind (arith, nat_tests)

-- a sampling port's greatest message fits
long_one : (plan : Plan) (port : PortPlan) → IsPlan plan → Contains plan.ports port → HasLink plan.links port
    → is_too_long plan.links port ≡ false
long_one plan port is member has =
    let found = linked plan port has in
    let here = link_plan_at plan.links found.at in
    let there : Contains plan.links here = Contains-get_or plan.links found.at (link_plan_at [] 0) found.within in
    grind (arith, nat_tests, is.sampling port here member there, named port here found.passes)

-- ports of one flow agree
agree : (p q : PortPlan) → has_same_flow p q ≡ true → AreSameFlow p q
agree p q one = grind (arith, nat_tests, bytes_eq-Decides)

-- ports at different indices are different
apart_ports : (plan : Plan) (i j : ℕ) → IsPlan plan → i < j → j < length plan.ports
    → port_plan_at plan.ports i ≡ port_plan_at plan.ports j → ⊥
apart_ports plan i j is before below same = grind arith

-- ports of a valid plan share no address
no_share : (plan : Plan) (p q : PortPlan) → IsPlan plan → Contains plan.ports p → Contains plan.ports q
    → shares_unicast p q ≡ true → ⊥
no_share plan p q is in_p in_q shares =
    grind (arith, nat_tests, bytes_eq-Decides, is.unicasts_apart p q in_p in_q)

-- a count within its limits
no_fault_count : (most n : ℕ) → 1 ≤ n → n ≤ most → is_no_count most n ≡ false
no_fault_count most n least below = grind (arith, nat_tests)

-- a valid plan breaks no rule
unbroken : (plan : Plan) → IsPlan plan → Unbroken plan plan_rules
unbroken plan is =
    let links = no_pair has_same_vl plan.links (link_plan_at [] 0) (λ i j before below. grind (arith, nat_tests, is.links_apart i j)) in
    let ids = no_pair has_same_port plan.ports (port_plan_at [] 0) (λ i j before below. grind (arith, nat_tests, is.ports_apart i j)) in
    let no_link = list_any_none (names_no_link plan.links) plan.ports (λ k d below. names_link plan (get_or plan.ports k d) (is.linked k d below)) in
    let no_sub = list_any_none (names_no_sub plan.links) plan.ports (λ k d below. names_sub plan (get_or plan.ports k d) is (is.linked k d below)) in
    let long = list_any_none (is_too_long plan.links) plan.ports (λ k d below.
    long_one plan (get_or plan.ports k d) is (Contains-get_or plan.ports k d below) (is.linked k d below)) in
    let flows = no_pair has_same_flow plan.ports (port_plan_at [] 0) (λ i j before below. false_from_ne_true _ (λ one.
    apart_ports plan i j is before below (is.flows_apart (port_plan_at plan.ports i) (port_plan_at plan.ports j)
    (Contains-get_or plan.ports i _ (omega arith)) (Contains-get_or plan.ports j _ below) (agree _ _ one)))) in
    let shared = no_pair shares_unicast plan.ports (port_plan_at [] 0) (λ i j before below. false_from_ne_true _
    (no_share plan (port_plan_at plan.ports i) (port_plan_at plan.ports j) is
    (Contains-get_or plan.ports i _ (omega arith)) (Contains-get_or plan.ports j _ below))) in
    let link_count = no_fault_count 64 (length plan.links) is.links.0 is.links.1 in
    let port_count = no_fault_count 256 (length plan.ports) is.ports.0 is.ports.1 in
    let crowd = no_row (is_past_limit (map port_whole plan.ports)) 1 (map port_whole plan.ports) (port_whole (port_plan_at [] 0)) (λ i j at below.
    let within = rw length-map at below in let here : j ≡ i + 1 = at in rw (here, past_is) (not_past plan.ports i within is.few_ports)) in
    (rw pair_map links, (rw pair_map ids, (simp (any_map, named_all) no_link, (rw any_map no_sub, (rw any_map long, (rw pair_map flows, (rw pair_map shared, (rw length-map link_count, (rw length-map port_count, (crowd, tt))))))))))

-- without a broken rule no fault is shown
none_shown : (plan : Plan) (fault : ConfigFault) (some : List PlanRule) → Unbroken plan some
    → list_any (λ (r : PlanRule). fault_number fault == fault_number r.fault && breaks (whole plan) r.forbids) some ≡ false
none_shown plan fault [] whole = refl
none_shown plan fault (r ∷ rest) whole = rw (whole.0, and-false (fault_number fault == fault_number r.fault)) (none_shown plan fault rest whole.1)

pub faultless : ValidPlansShowNoFault
faultless plan fault is = none_shown plan fault plan_rules (unbroken plan is)

-- the law of flows, for a valid plan
pub apart : (plan : Plan) → IsPlan plan → FlowsApart plan
apart plan is p q i j in_p in_q source destination ident =
    let p_is = All-contains IsPort plan.ports p is.each_port in_p in
    let q_is = All-contains IsPort plan.ports q is.each_port in_q in
    let partition : p.partition ≡ q.partition = ap (λ (xs : List ℕ). get_or xs 3 0) source in
    let sub_p = p_is.sub in
    let sub_q = q_is.sub in
    let made = λ (n : ℕ). let v : VlId = record { 0 = n } in v in
    let link : p.vl ≡ q.vl =
    elim (which_destination p.vl.0 q.vl.0 p.unicast q.unicast p_is.unicast q_is.unicast destination) [
      | inl none ↦
          let same = rw (none.0, none.1) at destination in
          let high : p.vl.0 / 256 % 256 ≡ q.vl.0 / 256 % 256 = ap (λ (xs : List ℕ). get_or xs 2 0) same in
          let low : p.vl.0 % 256 ≡ q.vl.0 % 256 = ap (λ (xs : List ℕ). get_or xs 3 0) same in
          let small_p = p_is.vl in
          let small_q = q_is.vl in
          let number : p.vl.0 ≡ q.vl.0 = omega arith in ap made number
      | inr both ↦ is.unicasts_apart p q in_p in_q both.0 both.1 both.2 partition
    ] in
    (link, omega arith, omega arith)

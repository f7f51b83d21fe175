-- Rows by their keys, and the keys of ports.
use Rattle.std.specs.Prelude.{if◌then◌else◌, ◌&&◌, ◌+◌, ◌==◌, ◌∷◌}
use Rattle.afdx_config.specs.Names.{Bool, List, None, Option, Ordering, PortRow, Some, [], both, false, is_eq, nat_cmp, nat_eq, option_and_then, option_map_or, ordering_then, position_from, slice_cmp, ℕ}

-- five values, if there is each
abbrev pub all_five : {A B C D E : Type 0} → Option A → Option B → Option C → Option D → Option E
    → Option (A × B × C × D × E)
all_five (Some a) (Some b) (Some c) (Some d) (Some e) = Some (a, b, c, d, e)
all_five _ _ _ _ _ = None

-- the link, partition, UDP ports and destination of a port
abbrev pub flow_of : PortRow → Option (ℕ × ℕ × ℕ × ℕ × Option (List ℕ))
flow_of port = all_five port.vl port.partition port.source port.destination port.unicast

-- the partition and unicast address of a port, and its link
abbrev pub address_in : Option ℕ → Option ℕ → Option (Option (List ℕ)) → Option ((ℕ × List ℕ) × ℕ)
address_in (Some link) (Some partition) (Some (Some address)) = Some ((partition, address), link)
address_in _ _ _ = None

abbrev pub address_of : PortRow → Option ((ℕ × List ℕ) × ℕ)
address_of port = address_in port.vl port.partition port.unicast

-- the order of partitions and addresses
abbrev pub address_cmp : ℕ × List ℕ → ℕ × List ℕ → Ordering
address_cmp x y = ordering_then (nat_cmp x.0 y.0) (slice_cmp nat_cmp x.1 y.1)

-- the first port with an address that isn't on `link`, from the first port with that address: itself, or the first such
-- port on another link than its own
abbrev pub off_link : ℕ → Option (ℕ × ℕ × Option ℕ) → Option ℕ
off_link link None = None
off_link link (Some first) = if first.1 == link then first.2 else Some first.0

-- of the ports from index i on, the first with this address: its index, its link, and the index of the first with this
-- address on another link
abbrev pub first_at : ℕ × List ℕ → ℕ → List PortRow → Option (ℕ × ℕ × Option ℕ)
first_at address i [] = None
first_at address i (port ∷ rest) = option_map_or (λ key. if is_eq (address_cmp key.0 address)
    then Some (i, key.1, off_link key.1 (first_at key.0 (i + 1) rest))
    else first_at address (i + 1) rest) (address_of port) (first_at address (i + 1) rest)

-- the first port on another link with the address of a port
abbrev pub sharing_place : (ℕ × List ℕ → Option (ℕ × ℕ × Option ℕ)) → PortRow → Option ℕ
sharing_place first port = option_and_then (λ key. off_link key.1 (first key.0)) (address_of port)

-- the order of sub-VLs, each with its link
abbrev pub sub_cmp : ℕ × ℕ → ℕ × ℕ → Ordering
sub_cmp x y = ordering_then (nat_cmp x.0 y.0) (nat_cmp x.1 y.1)

-- the sub-VL of a port
abbrev pub sub_in : Option ℕ → Option ℕ → Option (ℕ × ℕ)
sub_in (Some vl) (Some sub) = Some (vl, sub)
sub_in _ _ = None

-- the port is on this sub-VL
abbrev pub is_on_sub : ℕ × ℕ → PortRow → Bool
is_on_sub q port = both nat_eq port.vl (Some q.0) && both nat_eq port.sub (Some q.1)

-- a row has this key
abbrev pub is_key : {K : Type 0} → (K → K → Ordering) → K → Option K → Bool
is_key cmp key None = false
is_key cmp key (Some other) = is_eq (cmp other key)

-- the index of the first row with the key, if there is a key
abbrev pub first_row : {K : Type 0} → (K → K → Ordering) → List (Option K) → Option K → Option ℕ
first_row cmp keys key = option_and_then (λ k. position_from (is_key cmp k) 0 keys) key

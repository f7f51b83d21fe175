-- Values of a plan in texts.
use Rattle.std.specs.Prelude.{if◌then◌else◌, ◌==◌, ◌↔◌, ◌∷◌, ◌≡◌}
use Rattle.afdx_config.specs.Names.{Bag, Both, Generated, IsDotted, Kind, List, Ms1, Ms128, Ms16, Ms2, Ms32, Ms4, Ms64, Ms8, Networks, None, Omitted, OnlyA, OnlyB, Option, Queuing, Sampling, Some, UdpSum, [], bytes_eq, codes, negsuc, option_and_then, option_map, pos, read_ipv4, slice_index, ℕ, ℤ}

-- the BAG of a number of milliseconds
unfoldable pub bag_of : ℤ → Option Bag
bag_of (negsuc n) = None
bag_of (pos n) =
    if n == 1 then Some Ms1
    else if n == 2 then Some Ms2
    else if n == 4 then Some Ms4
    else if n == 8 then Some Ms8
    else if n == 16 then Some Ms16
    else if n == 32 then Some Ms32
    else if n == 64 then Some Ms64
    else if n == 128 then Some Ms128
    else None

-- the networks that a text names
unfoldable pub networks_of : List ℕ → Option Networks
networks_of text =
    if bytes_eq text (codes "both") then Some Both
    else if bytes_eq text (codes "a") then Some OnlyA
    else if bytes_eq text (codes "b") then Some OnlyB
    else None

-- the kind that a text names
unfoldable pub kind_of : List ℕ → Option Kind
kind_of text =
    if bytes_eq text (codes "sampling") then Some Sampling
    else if bytes_eq text (codes "queuing") then Some Queuing
    else None

-- the checksum that a text names
unfoldable pub checksum_of : List ℕ → Option UdpSum
checksum_of text =
    if bytes_eq text (codes "none") then Some Omitted
    else if bytes_eq text (codes "udp") then Some Generated
    else None

-- four numbers, if the first is 10 and no text follows them
abbrev pub in_network_10 : List ℕ × List ℕ → Option (List ℕ)
in_network_10 (octets, []) = if slice_index octets 0 == 10 then Some octets else None
in_network_10 (octets, _ ∷ _) = None

-- the unicast address of a text
unfoldable pub address_of : List ℕ → Option (List ℕ)
address_of text = option_and_then in_network_10 (read_ipv4 text)

-- the unicast address that a port's table gives as a text
abbrev pub unicast_of : List ℕ → Option (Option (List ℕ))
unicast_of text = option_map (λ address. Some address) (address_of text)

-- a text has an address exactly if it is four decimal numbers of 0 to 255 joined by dots, without
-- leading zeros, and the first is 10
abbrev pub AddressesAreDotted : Type 0
AddressesAreDotted = (text address : List ℕ)
    → (address_of text ≡ Some address) ↔ (IsDotted text address × (slice_index address 0 ≡ 10))

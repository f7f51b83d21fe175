-- Reading of dotted addresses.
use Rattle.afdx_config.proofs.Names.{◌≡◌, ℕ, List, [], Option, Some, None, refl, ap, sym, ◌∙◌, lit≤, append-nil, eq-eqb, ◌==◌, eqb-true, if◌then◌else◌, slice_index, IsDotted, read_ipv4, Ipv4Addr, read_ipv4_complete, read_ipv4_sound, and_then_some, cond_some, in_network_10, AddressesAreDotted, arith, nat_tests}
use Rattle.afdx_config.specs.Values.{address_of}

-- a dotted address is read if its first number is 10
pub address_of-dotted : (text octets : List ℕ) → IsDotted text octets
    → address_of text ≡ (if slice_index octets 0 == 10 then Some octets else None)
unfolding address_of
address_of-dotted text octets is =
    let read = ap read_ipv4 (sym (append-nil text)) ∙ read_ipv4_complete text octets [] is (lit≤ tt) in rw read refl

-- an accepted address is the whole text, and its first number is 10
taken : (read : List ℕ × List ℕ) (address : List ℕ) → in_network_10 read ≡ Some address
    → (read ≡ (address, [])) × (slice_index address 0 ≡ 10)
taken read address is = grind (arith, nat_tests, cond_some, eqb-true)

-- a text has an address exactly if it is dotted and its first number is 10
pub addresses_are_dotted : AddressesAreDotted
unfolding address_of
addresses_are_dotted text address = (
  λ found. and_then_some in_network_10 (read_ipv4 text) address found (λ read is took.
      let (same, ten) = taken read address took in
      let (front, whole, dotted) = read_ipv4_sound text address [] (is ∙ ap Some same) in
      (rw (whole, append-nil front) dotted, ten)),
  λ (is, ten). rw (address_of-dotted text address is) (rw (eq-eqb (slice_index address 0) 10 ten) refl),
)

-- a text that is not dotted has no address
pub address_of-none : (text : List ℕ) → ((a : Ipv4Addr) → IsDotted text a.octets → ⊥) → address_of text ≡ None
address_of-none text none = each (address_of text) refl
  where
    each : (found : Option (List ℕ)) → address_of text ≡ found → found ≡ None
    each None is = refl
    each (Some a) is = absurd (none (record { octets = a }) ((addresses_are_dotted text a).0 is).0)

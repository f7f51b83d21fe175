-- A template's headers, once a frame has filled in its fields.
use Rattle.afdx_frame.proofs.Names.{◌≡◌, ℕ, ◌+◌, List, length, take, set, arith, nat_lt, true, PortPlan, link_header, take-set-lt, Net, Piece, internet_header, ◌++◌, append_assoc, take-append_seam, take-take, IsPort}
use Rattle.afdx_frame.proofs.Says.{length-internet}

-- One byte that is set within the first n.
pub set_one : (n : ℕ) (xs ys : List ℕ) (at byte : ℕ) → nat_lt at n ≡ true → take n xs ≡ ys → take n (set xs at byte) ≡ set ys at byte
set_one n xs ys at byte inside is = grind (arith, take-set-lt)

-- A word that is set within the first n bytes.
pub set_two : (n : ℕ) (xs ys : List ℕ) (at high low : ℕ) → nat_lt at n ≡ true → nat_lt (at + 1) n ≡ true → take n xs ≡ ys
    → take n (set (set xs at high) (at + 1) low) ≡ set (set ys at high) (at + 1) low
set_two n xs ys at high low first second is = grind (arith, set_one)

-- The first n elements, if they are known.
pub front_of : (n : ℕ) (xs ys zs : List ℕ) → length xs ≡ n → xs ≡ zs → take n (xs ++ ys) ≡ zs
front_of n xs ys zs long is = grind (arith, take-append_seam)

module _ (vl end_system : ℕ) (net : Net) (port : PortPlan) (ident : ℕ) (piece : Piece) (is : IsPort port) where
  abbrev headers : List ℕ
  headers = link_header vl end_system net ++ internet_header end_system port ident piece

  length-headers : length headers ≡ 34
  unfolding link_header
  length-headers = grind (arith, length-internet)

  -- Up to the UDP ports, the filled headers are those of link and internet.
  pub headers_there : (xs ports : List ℕ)
      → take 38 xs ≡ link_header vl end_system net ++ internet_header end_system port ident piece ++ ports
      → take 34 xs ≡ headers
  unfolding link_header
  headers_there xs ports all = grind (arith, take-take 34 38 xs, append_assoc, front_of 34 headers ports headers, length-headers)

  -- The UDP ports follow them.
  pub ports_follow : (xs ports : List ℕ)
      → take 38 xs ≡ link_header vl end_system net ++ internet_header end_system port ident piece ++ ports
      → take 38 xs ≡ take 34 xs ++ ports
  unfolding link_header
  ports_follow xs ports all = grind (arith, headers_there xs ports all, append_assoc)

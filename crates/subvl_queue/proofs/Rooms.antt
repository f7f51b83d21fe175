-- The message in a room.
use Rattle.subvl_queue.proofs.Names.{◌≡◌, ℕ, zero, suc, ◌≤◌, List, [], ◌∷◌, length, take, arith, item_of, port_of}

-- The index of its sender.
pub port_is : (port len : ℕ) (bytes : List ℕ) → len ≤ length bytes → (len ≡ 0 → port ≡ 0) → port_of (item_of port (take len bytes)) ≡ port
port_is port zero bytes within none = grind arith
port_is port (suc len) [] within none = absurd (omega arith)
port_is port (suc len) (x ∷ xs) within none = grind arith

-- Messages in a queue. Each is a pair of its sender's index and its bytes.
use Rattle.std.specs.Prelude.{ℕ, ◌==◌, ◌^◌, ◌<◌, ◌≤◌, length, if◌then◌else◌, List, [], ◌∷◌, All, Option, Some, None}

-- the greatest length of a message in bytes
abbrev pub most_bytes : ℕ
most_bytes = 8192

-- bytes that may be a message
pub record IsMessage (bytes : List ℕ) : Type 0 where
  pub some : 1 ≤ length bytes
  pub most : length bytes ≤ most_bytes

-- a message of one of `ports` senders
pub record IsItem (ports : ℕ) (item : ℕ × List ℕ) : Type 0 where
  pub port : item.0 < ports
  pub message : IsMessage item.1

abbrev pub AreItems : ℕ → List (ℕ × List ℕ) → Type 0
AreItems ports items = All (IsItem ports) items

-- the greatest number of slot requests of one sender
abbrev pub most_calls : ℕ
most_calls = 2 ^ 40

-- the bytes of one sender's messages, in order
abbrev pub part_of : ℕ → List (ℕ × List ℕ) → List (List ℕ)
part_of port [] = []
part_of port (item ∷ items) = if item.0 == port then item.1 ∷ part_of port items else part_of port items

-- The number of bytes that a room may hold, and its message with the index of its sender, if there is one.
pub record RoomView : Type 0 where
  pub most : ℕ
  pub item : Option (ℕ × List ℕ)

abbrev pub room_with : ℕ → Option (ℕ × List ℕ) → RoomView
room_with most item = record { most = most; item = item }

-- a message of these bytes; no bytes are no message
abbrev pub item_of : ℕ → List ℕ → Option (ℕ × List ℕ)
item_of port [] = None
item_of port (x ∷ xs) = Some (port, x ∷ xs)

-- the bytes of the message, or none
abbrev pub bytes_of : Option (ℕ × List ℕ) → List ℕ
bytes_of None = []
bytes_of (Some item) = item.1

-- the index of the message's sender, or 0
abbrev pub port_of : Option (ℕ × List ℕ) → ℕ
port_of None = 0
port_of (Some item) = item.0

-- A worked transmission and worked turns.
use Rattle.std.specs.Prelude.{ℕ, List, [], ◌∷◌, Bool, true, false, if◌then◌else◌, ◌++◌, replicate}
use Rattle.afdx_plan.specs.Demo.{demo_port}
use Rattle.afdx_frame.specs.declared.net.Net.{Net}
use Rattle.afdx_frame.specs.Cutting.{piece_at}
use Rattle.afdx_frame.specs.Frame.{frame_of}
use Rattle.afdx_frame.specs.Fragments.{Sent}
use Rattle.redundant_mux.specs.Lines.{Entry, entry}
use Rattle.afdx_legal.specs.Legal.{Accepted}
use Rattle.afdx_legal.specs.Streams.{TakesTurns}

abbrev pub one_byte : Sent
one_byte = record { port = demo_port; bytes = 1 ∷ [] }

-- the accepted messages of the one sub-VL
abbrev pub one_byte_accepted : Accepted
one_byte_accepted k sub = one_byte ∷ []

abbrev pub one_frame : Net → List ℕ
one_frame net = frame_of 1 demo_port (1 ∷ []) 0 (piece_at 1479 9 0) net 0

-- the frame sent to the network, at `now`
abbrev pub one_entry_at : ℕ → Net → List Entry
one_entry_at now net = entry now (one_frame net) ∷ []

-- an entry in which only the sub-VL and the flag of more fragments matter
abbrev pub turn_entry : ℕ → ℕ → Bool → Entry
turn_entry at sub more = entry at (replicate 19 0 ++ sub ∷ (if more then 32 else 0) ∷ 0 ∷ [])

-- a message of two fragments of sub-VL 0, and between them one of sub-VL 1
abbrev pub in_turn : List Entry
in_turn = turn_entry 0 0 true ∷ turn_entry 1000 1 false ∷ turn_entry 2000 0 false ∷ []

-- a message of two fragments of sub-VL 0, and between them two of sub-VL 1, as if whole messages took turns
abbrev pub out_of_turn : List Entry
out_of_turn = turn_entry 0 0 true ∷ turn_entry 1000 1 true ∷ turn_entry 2000 1 false ∷ turn_entry 3000 0 false ∷ []

-- two messages of sub-VL 0, and between them two fragments of sub-VL 1: any number may lie there
abbrev pub between_messages : List Entry
between_messages =
    turn_entry 0 0 false ∷ turn_entry 1000 1 true ∷ turn_entry 2000 1 false ∷ turn_entry 3000 0 false ∷ []

pub record TurnsAreTold : Type 0 where
  pub kept : TakesTurns in_turn
  pub failed : TakesTurns out_of_turn → ⊥
  pub free : TakesTurns between_messages

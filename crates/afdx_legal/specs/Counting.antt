-- The counts of a link, read from its stream.
use Rattle.std.specs.Prelude.{ℕ, ◌-◌, ◌^◌, List, [], ◌∷◌, Bool, nat_lt, min, length, filter}
use Rattle.std.specs.List.{sum_by}
use Rattle.afdx_frame.specs.Profile.{fragment_field}
use Rattle.afdx_frame.specs.Frame.{more_fragments}
use Rattle.redundant_mux.specs.Lines.{Entry}
use Rattle.status_board.specs.declared.counts.Counts.{Counts}

-- a count saturates at 2^64 - 1
abbrev pub capped : ℕ → ℕ
capped n = min n (2 ^ 64 - 1)

-- the sum of the lengths of the frames, with their sequence numbers
abbrev pub bytes_in : List Entry → ℕ
bytes_in stream = sum_by (λ (e : Entry). length e.frame) stream

-- true if a frame is the last of its message: no more fragments follow (RFC 791, 3.1)
abbrev pub ends_message : Entry → Bool
ends_message e = nat_lt (fragment_field e.frame) more_fragments

-- the number of messages whose last frame is in a stream
abbrev pub messages_ended : List Entry → ℕ
messages_ended stream = length (filter ends_message stream)

-- the time of the last entry, or `at` if there is none
abbrev pub moment_after : ℕ → List Entry → ℕ
moment_after at [] = at
moment_after at (e ∷ es) = moment_after e.at es

abbrev pub counts_in : List Entry → Counts
counts_in stream = record {
  frames = capped (length stream);
  bytes = capped (bytes_in stream);
  messages = capped (messages_ended stream);
  last = moment_after 0 stream;
}

-- The counts of a link's stream as it grows, and worked counts of a message of 18 bytes that is transmitted in two
-- frames of 60 bytes, at 0 and 1,000 microseconds.
use Rattle.std.specs.Prelude.{◌≡◌, ℕ, ◌+◌, ◌-◌, ◌^◌, List, [], ◌∷◌, ◌++◌, replicate, None}
use Rattle.afdx_plan.specs.Demo.{demo_port}
use Rattle.afdx_frame.specs.declared.net.Net.TheVariants.{A}
use Rattle.afdx_frame.specs.Cutting.{piece_at}
use Rattle.afdx_frame.specs.Frame.{frame_of}
use Rattle.redundant_mux.specs.Lines.{Entry, entry}
use Rattle.status_board.specs.declared.counts.Counts.{Counts}
use Rattle.status_board.specs.Views.{zeros, NoFieldFalls}
use Rattle.afdx_legal.specs.Streams.{IsSpaced}
use Rattle.afdx_legal.specs.Counting.{capped, counts_in}
use Rattle.afdx_legal.specs.Worked.{one_entry_at}

-- no count falls while a spaced stream grows
abbrev pub CountsRise : Type 0
CountsRise = (gap : ℕ) (stream more : List Entry) → IsSpaced gap None (stream ++ more)
    → NoFieldFalls (counts_in stream) (counts_in (stream ++ more))

-- the frame of the piece that begins at `start`, with room for 25 bytes
abbrev pub fragment_from : (start number : ℕ) → List ℕ
fragment_from start number = frame_of 1 demo_port (replicate 18 170) 0 (piece_at 25 26 start) A number

abbrev pub both_fragments : (first second : ℕ) → List Entry
both_fragments first second = entry first (fragment_from 0 0) ∷ entry second (fragment_from 24 1) ∷ []

abbrev pub counts : (frames bytes messages last : ℕ) → Counts
counts frames bytes messages last = record { frames = frames; bytes = bytes; messages = messages; last = last }

-- The message is counted with its last frame. If times go back, a count falls.
pub record CountsTwo : Type 0 where
  pub nothing : counts_in [] ≡ zeros
  pub first : counts_in (entry 0 (fragment_from 0 0) ∷ []) ≡ counts 1 60 0 0
  pub both : counts_in (both_fragments 0 1000) ≡ counts 2 120 1 1000
  pub spaced : IsSpaced 1000 None (both_fragments 0 1000)
  pub rise : NoFieldFalls (counts 1 60 0 0) (counts 2 120 1 1000)
  pub whole : counts_in (one_entry_at 7 A) ≡ counts 1 60 1 7
  pub back : counts_in (both_fragments 1000 0) ≡ counts 2 120 1 0
  pub at_most : capped (2 ^ 64 + 5) ≡ 2 ^ 64 - 1

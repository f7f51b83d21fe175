-- What a log of frames holds after one more, and without its first.
use Rattle.std.proofs.Common.{◌≡◌, ℕ, ◌+◌, ◌<◌, ◌≤◌, List, [], ◌∷◌, ◌++◌, length, take, drop, refl, ap, arith, length-drop, suc, ◌⊎◌}
use Rattle.std.specs.List.{sum_by}
use Rattle.std.proofs.lemmas.Bool.{cases_lt}
use Rattle.std.proofs.lemmas.List.{take_all, take-append-le, drop-append-le, length-take-le}
use Rattle.std.proofs.lemmas.List.Sums.{sum_by-cons}
use Rattle.redundant_mux.specs.Lines.{Entry, entry}
use Rattle.redundant_mux.specs.Memory.{spelled, AreInLog, bytes_in}
use Rattle.redundant_mux.specs.declared.frame_log.Mark.{Mark}

-- the frames that are spelled with one more at their end
pub spelled_more : (marks : List Mark) (bytes : List ℕ) (mark : Mark) (frame : List ℕ)
    → sum_by (λ (m : Mark). m.len) marks ≡ length bytes → mark.len ≡ length frame
    → spelled (marks ++ mark ∷ []) (bytes ++ frame) ≡ spelled marks bytes ++ entry mark.at frame ∷ []
spelled_more [] [] mark frame all len = grind (arith, entry, take_all)
spelled_more [] (b ∷ bs) mark frame all len = absurd (omega (arith, all))
spelled_more (m ∷ ms) bytes mark frame all len =
    let more = sum_by-cons (λ (k : Mark). k.len) m ms in
    let within : m.len ≤ length bytes = omega arith in
    let rest : sum_by (λ (k : Mark). k.len) ms ≡ length (drop m.len bytes) = omega (arith, length-drop m.len bytes) in
    rw (take-append-le m.len bytes frame within, drop-append-le m.len bytes frame within)
    (ap (λ (es : List Entry). entry m.at (take m.len bytes) ∷ es)
    (spelled_more ms (drop m.len bytes) mark frame rest len))

-- the frames after the first
pub kept_tail : (mark : Mark) (marks : List Mark) (bytes : List ℕ) → AreInLog (mark ∷ marks) bytes
    → AreInLog marks (drop mark.len bytes)
kept_tail mark marks bytes h = record {
  all =
      let more = sum_by-cons (λ (k : Mark). k.len) mark marks in
      omega (arith, length-drop mark.len bytes);
  short = λ k d lt. h.short (suc k) d (omega arith);
}

-- a frame is spelled for each mark
pub spelled_count : (marks : List Mark) (bytes : List ℕ) → length (spelled marks bytes) ≡ length marks
spelled_count [] bytes = refl
spelled_count (m ∷ ms) bytes = ap suc (spelled_count ms (drop m.len bytes))

-- and the frames have all bytes
pub spelled_bytes : (marks : List Mark) (bytes : List ℕ) → sum_by (λ (m : Mark). m.len) marks ≡ length bytes
    → bytes_in (spelled marks bytes) ≡ length bytes
spelled_bytes [] bytes all = all
spelled_bytes (m ∷ ms) bytes all =
    let more = sum_by-cons (λ (k : Mark). k.len) m ms in
    let within : m.len ≤ length bytes = omega arith in
    let rest : sum_by (λ (k : Mark). k.len) ms ≡ length (drop m.len bytes) = omega (arith, length-drop m.len bytes) in
    let first = sum_by-cons (λ (e : Entry). length e.frame) (entry m.at (take m.len bytes))
    (spelled ms (drop m.len bytes)) in
    omega (arith, length-take-le m.len bytes within, length-drop m.len bytes, spelled_bytes ms (drop m.len bytes) rest)

-- if one of the lists has no room, the log has none
pub lacks_room : (marks : List Mark) (bytes : List ℕ) (frames_capacity bytes_capacity size : ℕ) → AreInLog marks bytes
    → (length marks < frames_capacity → bytes_capacity < length bytes + size)
    → (frames_capacity ≤ length (spelled marks bytes)) ⊎ (bytes_capacity < bytes_in (spelled marks bytes) + size)
lacks_room marks bytes frames_capacity bytes_capacity size kept full = grind (arith, cases_lt, spelled_bytes, spelled_count)

use Rattle.vl_link.proofs.Names.{ℕ, ◌+◌, refl, ◌≡◌, List, [], ◌∷◌, ◌++◌, cond, arith, sum_by-append, filter-append, Entry, ends_message, messages_ended, moment_after}
use Rattle.std.proofs.Common.{length-append}
use Rattle.vl_link.proofs.link.counts_with.Goals as goal

messages_push : (stream : List Entry) (e : Entry) → messages_ended (stream ++ e ∷ []) ≡ messages_ended stream + cond (ends_message e) 1 0
messages_push stream e = grind (arith, filter-append, length-append)

moment_push : (at : ℕ) (stream : List Entry) (e : Entry) → moment_after at (stream ++ e ∷ []) ≡ e.at
moment_push at [] e = refl
moment_push at (x ∷ stream) e = moment_push x.at stream e

pub returns : goal.returns
returns c = grind (arith, length-append, sum_by-append, messages_push, moment_push)

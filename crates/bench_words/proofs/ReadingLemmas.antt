-- A text that was read up to a limit, and its faults if it was read to its end.
use Rattle.std.proofs.Common.{◌≡◌, ℕ, ◌+◌, ◌≤◌, List, [], ◌++◌, length, Option, Some, None, IfSome, arith, ap, subst, ◌∙◌, take}
use Rattle.std.proofs.lemmas.List.{take_all, length-take}
use Rattle.std.specs.Prelude.{option_map}
use Rattle.std.specs.Io.KnownBytes.{Appends}
use Rattle.afdx_config.specs.Explained.{Explains}
use Rattle.afdx_config.specs.Findings.{PlanFinding}
use Rattle.bench_words.specs.Reading.{TellsFaults, end_of}
use Rattle.bench_words.specs.declared.status.End.{End}

-- a text within the limit is whole, since a longer one would have been read past the limit
pub within_limit : (known : Option (List ℕ)) (limit : ℕ) (text : List ℕ)
    → IfSome (option_map (take (limit + 1)) known) (λ bytes. text ≡ bytes) → length text ≤ limit
    → IfSome known (λ bytes. text ≡ bytes)
within_limit None limit text is few = tt
within_limit (Some bytes) limit text is few =
    is ∙ take_all (limit + 1) bytes (omega (arith, ap length is, length-take (limit + 1) bytes))

-- the same for a reader that takes up to a limit from another one
pub whole_text : (known inner : Option (List ℕ)) (limit most : ℕ) (old text : List ℕ)
    → most ≡ limit + 1 → inner ≡ known → old ≡ []
    → IfSome (option_map (take most) inner) (λ bytes. text ≡ old ++ bytes) → length text ≤ limit
    → IfSome known (λ bytes. text ≡ bytes)
whole_text known inner limit most old text at_most at_inner at_old is few =
    let first : IfSome (option_map (take (limit + 1)) inner) (λ bytes. text ≡ old ++ bytes)
    = subst (λ n. IfSome (option_map (take n) inner) (λ bytes. text ≡ old ++ bytes)) at_most is in
    let second : IfSome (option_map (take (limit + 1)) known) (λ bytes. text ≡ old ++ bytes)
    = subst (λ r. IfSome (option_map (take (limit + 1)) r) (λ bytes. text ≡ old ++ bytes)) at_inner first in
    within_limit known limit text
    (subst (λ o. IfSome (option_map (take (limit + 1)) known) (λ bytes. text ≡ o ++ bytes)) at_old second) few

pub tells_faults : (known : Option (List ℕ)) (text slice told bytes : List ℕ) (first : List PlanFinding) (count : ℕ) (end : End)
    (old new : Option (List ℕ)) → IfSome known (λ all. text ≡ all) → slice ≡ text → Explains slice first count told
    → end ≡ end_of count → bytes ≡ told → Appends old new bytes → IfSome known (λ all. TellsFaults all end old new)
tells_faults None text slice told bytes first count end old new whole at explained ends same wrote = tt
tells_faults (Some all) text slice told bytes first count end old new whole at explained ends same wrote = record {
  first = first;
  count = count;
  told = told;
  explained = subst (λ (t : List ℕ). Explains t first count told) (at ∙ whole) explained;
  wrote = subst (λ (b : List ℕ). Appends old new b) same wrote;
  end_is = ends;
}

-- The first bytes of a text, and its byte order mark.
use Rattle.std.specs.Prelude.{◌≡◌, ℕ, List, [], ◌∷◌, Option, Some, None, IfSome}
use Rattle.std.specs.Io.KnownBytes.{Consumes, IsAtEnd, prepend_known}
use Rattle.std.proofs.Common.{arith, refl, ap, ◌∙◌}
use Rattle.script_text.specs.Lines.{after_mark}

-- a text of one byte
pub one : (r0 r1 r2 : Option (List ℕ)) (a : ℕ) → Consumes r0 r1 (a ∷ []) → Consumes r1 r2 [] → IsAtEnd r2
    → IfSome r0 (λ text. prepend_known (a ∷ []) r2 ≡ Some (after_mark text))
one None r1 r2 a p q end = tt
one (Some x) None r2 a p q end = absurd p
one (Some x) (Some y) None a p q end = absurd q
one (Some x) (Some y) (Some z) a p q end = grind arith

-- a text of two bytes
pub two : (r0 r1 r2 r3 : Option (List ℕ)) (a b : ℕ) → Consumes r0 r1 (a ∷ []) → Consumes r1 r2 (b ∷ [])
    → Consumes r2 r3 [] → IsAtEnd r3 → IfSome r0 (λ text. prepend_known (a ∷ b ∷ []) r3 ≡ Some (after_mark text))
two None r1 r2 r3 a b p q r end = tt
two (Some x) None r2 r3 a b p q r end = absurd p
two (Some x) (Some y) None r3 a b p q r end = absurd q
two (Some x) (Some y) (Some z) None a b p q r end = absurd r
two (Some x) (Some y) (Some z) (Some w) a b p q r end = grind arith

-- three bytes of a text, and the text behind them
pub three : (r0 r1 r2 r3 : Option (List ℕ)) (a b c : ℕ) → Consumes r0 r1 (a ∷ []) → Consumes r1 r2 (b ∷ [])
    → Consumes r2 r3 (c ∷ []) → IfSome r0 (λ text. (rest : List ℕ) × (r3 ≡ Some rest) × (text ≡ a ∷ b ∷ c ∷ rest))
three None r1 r2 r3 a b c p q r = tt
three (Some x) None r2 r3 a b c p q r = absurd p
three (Some x) (Some y) None r3 a b c p q r = absurd q
three (Some x) (Some y) (Some z) None a b c p q r = absurd r
three (Some x) (Some y) (Some z) (Some w) a b c p q r = (w, refl, p ∙ ap (λ l. a ∷ l) (q ∙ ap (λ l. b ∷ l) r))

-- The first line of a text, by what was read of it.
use Rattle.script_text.proofs.Names.{◌≡◌, ◌≢◌, ℕ, ◌+◌, ◌-◌, ◌<◌, ◌≤◌, ◌==◌, Bool, true, false, cond, List, [], ◌∷◌, ◌++◌, length, take, Option, ◌∙◌, arith, length-take, length-append, Consumes, IsAtEnd, Consumes-trans, append-nil, ne_eqb, before_feed, after_feed, has_feed, IsPlain, without_return, TakesPlain, TakesLine, BeginsLong}

-- bytes with no line feed were taken
pub record HasRead (old left : Option (List ℕ)) (line : List ℕ) : Type 0 where
  pub taken : Consumes old left line
  pub plain : IsPlain line

-- a first byte before a plain rest is no line feed
plain_parts : (x : ℕ) (xs : List ℕ) → IsPlain (x ∷ xs) → ((x == 10) ≡ false) × IsPlain xs
plain_parts x xs h = grind arith

-- a plain text in front of another: the bytes before the first line feed and after it, and whether there is one
record IsInFront (xs ys : List ℕ) : Type 0 where
  before : before_feed (xs ++ ys) ≡ xs ++ before_feed ys
  behind : after_feed (xs ++ ys) ≡ after_feed ys
  feed : has_feed (xs ++ ys) ≡ has_feed ys

plain_front : (xs ys : List ℕ) → IsPlain xs → IsInFront xs ys
plain_front [] ys h = grind arith
plain_front (x ∷ xs) ys h =
    let (other, rest) = plain_parts x xs h in
    let more : IsInFront xs ys = plain_front xs ys rest in
    grind arith

-- plain texts one after the other
pub plain_more : (xs ys : List ℕ) → IsPlain xs → IsPlain ys → IsPlain (xs ++ ys)
plain_more xs ys h k = (plain_front xs ys h).feed ∙ k

-- a carriage return is one byte
return_len : (xs : List ℕ) (b : Bool) → length xs ≤ length (cond b (take (length xs - 1) xs) xs) + 1
return_len xs true = omega (arith, length-take (length xs - 1) xs)
return_len xs false = omega arith

-- a line without its end is shorter by one byte at most
line_len : (xs : List ℕ) (b : Bool) → length (before_feed xs) ≤ length (cond b (without_return (before_feed xs)) (before_feed xs)) + 1
line_len xs true = return_len (before_feed xs) _
line_len xs false = omega arith

-- more of them were taken
pub read_plain : (old mid new : Option (List ℕ)) (line grown : List ℕ) → HasRead old mid line
    → TakesPlain mid new line grown → HasRead old new grown
read_plain old mid new line grown h t = grind (arith, Consumes-trans, plain_more)

-- one more byte was
pub read_byte : (old mid new : Option (List ℕ)) (line : List ℕ) (b : ℕ) → HasRead old mid line
    → Consumes mid new (b ∷ []) → b ≢ 10 → HasRead old new (line ++ b ∷ [])
read_byte old mid new line b h t other = grind (arith, Consumes-trans, plain_more, ne_eqb)

-- the last line was taken
pub eof_taken : (old mid new : Option (List ℕ)) (items : List ℕ) → HasRead old mid items
    → Consumes mid new [] → IsAtEnd new → 0 < length items → length items ≤ 20000
    → TakesLine old new items
eof_taken old mid new items h f a pos len = grind (arith, length-append, append-nil, plain_front)

-- the last line is too long
pub eof_long : (old mid new : Option (List ℕ)) (items : List ℕ) → HasRead old mid items
    → Consumes mid new [] → IsAtEnd new → 20000 < length items → BeginsLong old
eof_long old mid new items h f a len = grind (arith, plain_front, append-nil)

-- a line with its line feed was taken
pub feed_taken : (old mid new : Option (List ℕ)) (items : List ℕ) → HasRead old mid items
    → Consumes mid new (10 ∷ []) → length (without_return items) ≤ 20000
    → TakesLine old new (without_return items)
feed_taken old mid new items h f len = grind (arith, length-append, append-nil, plain_front)

-- a line with its line feed is too long
pub feed_long : (old mid new : Option (List ℕ)) (items : List ℕ) → HasRead old mid items
    → Consumes mid new (10 ∷ []) → 20000 < length (without_return items) → BeginsLong old
feed_long old mid new items h f len = grind (arith, plain_front, append-nil)

-- a line is too long whose end was not yet seen
pub byte_long : (old mid new : Option (List ℕ)) (items : List ℕ) (b : ℕ) → HasRead old mid items
    → Consumes mid new (b ∷ []) → b ≢ 10 → 20000 < length items → BeginsLong old
byte_long old mid new items b h f other len = grind (arith, line_len, plain_front, ne_eqb, length-append)

-- The faults of a line, by its words.
use Rattle.script_text.proofs.Names.{◌≡◌, ℕ, List, [], ◌∷◌, arith, Some, None, message_of, port_number, moment_of, link_number, sub_number, send_fault, at_fault, close_fault, IsSaidSend, IsSaidAt, IsSaidClose, Send, At, Close, Word, Number, Hex, Extra}

-- the words after `send`
pub send_none : (ws : List (List ℕ)) → ws ≡ [] → send_fault ws ≡ Some Word
send_none ws h = cc

pub send_one : (ws more : List (List ℕ)) (n : List ℕ) → ws ≡ n ∷ more → more ≡ [] → send_fault ws ≡ Some Word
send_one ws more n h k = cc

pub send_number : (ws more rest : List (List ℕ)) (n m : List ℕ) → ws ≡ n ∷ more → more ≡ m ∷ rest → None ≡ port_number n → send_fault ws ≡ Some Number
send_number ws more rest n m h k e = cc

pub send_hex : (ws more rest : List (List ℕ)) (n m : List ℕ) (p : ℕ) → ws ≡ n ∷ more → more ≡ m ∷ rest
    → Some p ≡ port_number n → message_of m ≡ None → send_fault ws ≡ Some Hex
send_hex ws more rest n m p h k e f = cc

pub send_extra : (ws more rest last : List (List ℕ)) (n m x bs : List ℕ) (p : ℕ) → ws ≡ n ∷ more → more ≡ m ∷ rest
    → Some p ≡ port_number n → message_of m ≡ Some bs → rest ≡ x ∷ last
    → send_fault ws ≡ Some Extra
send_extra ws more rest last n m x bs p h k e f r = grind arith

pub send_ok : (ws more rest : List (List ℕ)) (n m bs : List ℕ) (p : ℕ) → ws ≡ n ∷ more → more ≡ m ∷ rest
    → Some p ≡ port_number n → message_of m ≡ Some bs → rest ≡ [] → IsSaidSend ws (Send p bs)
send_ok ws more rest n m bs p h k e f r = grind arith

-- the words after `at`
pub at_none : (ws : List (List ℕ)) → ws ≡ [] → at_fault ws ≡ Some Word
at_none ws h = cc

pub at_number : (ws more : List (List ℕ)) (n : List ℕ) → ws ≡ n ∷ more → None ≡ moment_of n → at_fault ws ≡ Some Number
at_number ws more n h e = cc

pub at_extra : (ws more last : List (List ℕ)) (n x : List ℕ) (p : ℕ) → ws ≡ n ∷ more → Some p ≡ moment_of n → more ≡ x ∷ last → at_fault ws ≡ Some Extra
at_extra ws more last n x p h e r = grind arith

pub at_ok : (ws more : List (List ℕ)) (n : List ℕ) (p : ℕ) → ws ≡ n ∷ more → Some p ≡ moment_of n → more ≡ [] → IsSaidAt ws (At p)
at_ok ws more n p h e r = grind arith

-- the words after `close`
pub close_none : (ws : List (List ℕ)) → ws ≡ [] → close_fault ws ≡ Some Word
close_none ws h = cc

pub close_one : (ws more : List (List ℕ)) (n : List ℕ) → ws ≡ n ∷ more → more ≡ [] → close_fault ws ≡ Some Word
close_one ws more n h k = cc

pub close_link : (ws more rest : List (List ℕ)) (n s : List ℕ) → ws ≡ n ∷ more → more ≡ s ∷ rest → None ≡ link_number n
    → close_fault ws ≡ Some Number
close_link ws more rest n s h k e = cc

pub close_sub : (ws more rest : List (List ℕ)) (n s : List ℕ) (p : ℕ) → ws ≡ n ∷ more → more ≡ s ∷ rest
    → Some p ≡ link_number n → None ≡ sub_number s → close_fault ws ≡ Some Number
close_sub ws more rest n s p h k e f = cc

pub close_extra : (ws more rest last : List (List ℕ)) (n s x : List ℕ) (p q : ℕ) → ws ≡ n ∷ more → more ≡ s ∷ rest
    → Some p ≡ link_number n → Some q ≡ sub_number s → rest ≡ x ∷ last → close_fault ws ≡ Some Extra
close_extra ws more rest last n s x p q h k e f r = grind arith

pub close_ok : (ws more rest : List (List ℕ)) (n s : List ℕ) (p q : ℕ) → ws ≡ n ∷ more → more ≡ s ∷ rest
    → Some p ≡ link_number n → Some q ≡ sub_number s → rest ≡ [] → IsSaidClose ws (Close p q)
close_ok ws more rest n s p q h k e f r = grind arith

-- what `read_send`, `read_at` and `read_close` need of them
pub ruleset send_rules = (send_none, send_one, send_number, send_hex, send_extra, send_ok)

pub ruleset at_rules = (at_none, at_number, at_extra, at_ok)

pub ruleset close_rules = (close_none, close_one, close_link, close_sub, close_extra, close_ok)

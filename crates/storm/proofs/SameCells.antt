-- What was published of the links of an emitter, in the cells of a board and of a monitor.
use Rattle.storm.proofs.Names.{◌≡◌, ℕ, suc, ◌<◌, List, [], ◌∷◌, length, map, set, get_or, refl, sym, ap, ◌∙◌, arith, get_or-map, length-map, map-set_same, Published, Watched, published, seen, no_cell, AreNew, cells_of, cells_read, ◌+◌, ◌++◌, take, add-one, take-suc, take-length, Plan, link_plan_at, Entry, Counts, zeros, last_of, IsShown, own_counts, all_counts, Tx, IsFreshTx, TableId, last_or-push, Publishes}

abbrev written : Published → TableId
written link = link.cell

abbrev read : Watched → TableId
read link = link.cell

abbrev no_published : Published
no_published = record { cell = no_cell; history = [] }

abbrev pub no_seen : Watched
no_seen = record { cell = no_cell; history = []; loads = 0 }

-- lists whose elements have the same cells, place by place
cells_agree : {A B : Type 0} (f : A → TableId) (g : B → TableId) (d : A) (e : B) (xs : List A) (ys : List B) → length xs ≡ length ys
    → ((k : ℕ) → k < length xs → f (get_or xs k d) ≡ g (get_or ys k e)) → map f xs ≡ map g ys
cells_agree f g d e [] [] count each = refl
cells_agree f g d e [] (y ∷ ys) count each = absurd (omega arith)
cells_agree f g d e (x ∷ xs) [] count each = absurd (omega arith)
cells_agree f g d e (x ∷ xs) (y ∷ ys) count each =
    let rest = cells_agree f g d e xs ys (omega arith) (λ k lt. each (suc k) (omega arith)) in λ i. each 0 (omega arith) i ∷ rest i

-- a board whose links have the cells that they had
pub cells_same : (old new : List Published) → length new ≡ length old
    → ((k : ℕ) → k < length old → (published new k).cell ≡ (published old k).cell) → cells_of new ≡ cells_of old
cells_same old new count each = cells_agree written written no_published no_published new old count (grind arith)

-- both ends of a new board have the same cells
pub cells_new : (board : List Published) (monitor : List Watched) → length board ≡ length monitor → AreNew board monitor
    → cells_of board ≡ cells_read monitor
cells_new board monitor count new = cells_agree written read no_published no_seen board monitor count (λ k _. (new k).cell)

-- a monitor of a board reads as many links, and of each the cell of the board
pub cell_at : (board : List Published) (monitor : List Watched) (k : ℕ) → cells_of board ≡ cells_read monitor → k < length board
    → (k < length monitor) × ((published board k).cell ≡ (seen monitor k).cell)
cell_at board monitor k same lt =
    let there : k < length monitor = grind (arith, length-map, written, read) in
    (there, sym (get_or-map written board k no_published no_cell lt) ∙ ap (λ l. get_or l k no_cell) same ∙ get_or-map read monitor k no_seen no_cell there)

-- a reading leaves a monitor its cells
pub cells_kept : (old new : List Watched) (k : ℕ) → new ≡ set old k (seen new k) → (seen new k).cell ≡ (seen old k).cell
    → cells_read new ≡ cells_read old
cells_kept old new k is same = grind (arith, cells_read, map-set_same, read, seen, no_seen)

-- publishing what was counted, after a step that leaves the board
pub shown_published : (old mid new : Tx) → mid.plan ≡ old.plan → mid.board ≡ old.board → Publishes mid new → IsShown old → IsShown new
shown_published old mid new plan board p s = grind (arith, last_or-push)

-- and leaves the cells
pub cells_published : (old mid new : Tx) → mid.plan ≡ old.plan → mid.board ≡ old.board → Publishes mid new → IsShown old
    → cells_of new.board ≡ cells_of old.board
cells_published old mid new plan board p s = grind (arith, cells_same)

-- nothing is counted of the links of a fresh emitter, of which nothing was published
pub shown_fresh : (config : Plan) (tx : Tx) (monitor : List Watched) → IsFreshTx config tx → AreNew tx.board monitor
    → length tx.board ≡ length config.links → IsShown tx
shown_fresh config tx monitor fresh new count = grind arith

-- one reading more
pub read_more : (tx : Tx) (k : ℕ) (counts : List Counts) (found : Counts) → IsShown tx → k < length tx.plan.links
    → counts ≡ take k (all_counts tx.plan.links tx.lines.a tx.lines.b) → found ≡ last_of tx.board k
    → counts ++ found ∷ [] ≡ take (k + 1) (all_counts tx.plan.links tx.lines.a tx.lines.b)
read_more tx k counts found s lt is last =
    let own = own_counts tx.lines.a tx.lines.b in
    let all = all_counts tx.plan.links tx.lines.a tx.lines.b in
    let there : k < length (all_counts tx.plan.links tx.lines.a tx.lines.b) =
    omega (arith, length-map tx.plan.links (own_counts tx.lines.a tx.lines.b)) in
    ap (λ (l : List Counts). l ++ found ∷ []) is
    ∙ ap (λ (c : Counts). take k all ++ c ∷ []) (last ∙ s.each k lt ∙ sym (get_or-map own tx.plan.links k (link_plan_at [] 0) zeros lt))
    ∙ sym (take-suc all k zeros there) ∙ ap (λ (n : ℕ). take n all) (sym (add-one k))

-- all of them
pub read_all : (tx : Tx) (k : ℕ) (counts : List Counts) → k ≡ length tx.plan.links
    → counts ≡ take k (all_counts tx.plan.links tx.lines.a tx.lines.b)
    → counts ≡ all_counts tx.plan.links tx.lines.a tx.lines.b
read_all tx k counts end is = grind (arith, length-map, take-length)

-- the counts of links of the same plan and the same frames
pub counts_kept : (old new : Plan) (a b a' b' : List Entry) (counts : List Counts) → counts ≡ all_counts new.links a b → new ≡ old
    → a' ≡ a → b' ≡ b → counts ≡ all_counts old.links a' b'
counts_kept old new a b a' b' counts is plan at_a at_b = grind arith

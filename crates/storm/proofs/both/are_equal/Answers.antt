use Rattle.storm.proofs.Names.{◌≤◌, length, All, sym, subst, Entry, A, B}
use Rattle.storm.proofs.Whole.{have_links}
use Rattle.storm.proofs.both.are_equal.Goals as goal

pub count_on_both-requires : goal.count_on_both-requires
count_on_both-requires c =
    subst (λ es. All (λ (e : Entry). 6 ≤ length e.frame) es) (sym c.handed.ensures)
    (have_links c.args.links.now A c.args.a.now.handed c.requires.known_a)

pub count_on_both-requires-2 : goal.count_on_both-requires-2
count_on_both-requires-2 c =
    subst (λ es. All (λ (e : Entry). 6 ≤ length e.frame) es) (sym c.handed-2.ensures)
    (have_links c.args.links.now B c.args.b.now.handed c.requires.known_b)

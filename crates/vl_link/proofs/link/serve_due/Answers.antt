use Rattle.vl_link.proofs.Names.{arith, ◌≡◌, [], ◌∷◌, ◌++◌, ◌∙◌, sym, and_parts, A, twin_same, log_same, entry, log, link_stream}
use Rattle.vl_link.proofs.SubInStep.{passed_same, chosen_left, chosen_gives, frame_at, set_same, none_has}
use Rattle.vl_link.proofs.Choosing.{follows_more, stream_more}
use Rattle.vl_link.proofs.link.serve_due.Given
use Rattle.vl_link.proofs.link.serve_due.Goals as goal

pub stamp-number-requires-clause-due : goal.stamp-number-requires-clause-due
stamp-number-requires-clause-due g c = (and_parts _ _ c.requires.may).0

pub write_next-requires : goal.write_next-requires
write_next-requires g c = grind (arith, chosen_left)

pub hand_with-standing-requires : goal.hand_with-standing-requires
hand_with-standing-requires g c = twin_same A c.write_next.new.out.items c.write_next.ensures.frame.interface

pub returns-in_default-clause-serves : goal.returns-in_default-clause-serves
returns-in_default-clause-serves g c = grind (arith, none_has)

pub returns-in_default-clause-same : goal.returns-in_default-clause-same
returns-in_default-clause-same g c = passed_same _ _ _ _ c.in_default.ensures.none

pub returns-then-any_up-clause-serves : goal.returns-then-any_up-clause-serves
returns-then-any_up-clause-serves g c =
    let stands = sym c.any_up.ensures ∙ c.if-any_up.true in (
      c.requires.may,
      c.stamp-number.ensures.number,
      record {
        frame = c.write_next.new.out.items;
        choice = chosen_gives _ _ _ _ c.index-subs-sub.result _ _ c.in-Some.ensures.chosen
            (grind arith);
        of = frame_at _ _ _ _ _ c.index-subs-sub.result _ _ c.in-Some.ensures.chosen c.requires.named c.write_next.ensures.frame;
        enters = grind arith;
        stands = stands;
        stays_down = grind arith;
      },
    )

-- The link's stream has the frame.
entered : (g : Given.Over) (c : goal.Then-any_up g)
    → link_stream c.args.plan.now.id.0 (log c.hand_with-standing.new.self)
    ≡ link_stream c.args.plan.now.id.0 (log c.args.mux.now) ++ entry c.args.now c.write_next.new.out.items ∷ []
entered g c =
    stream_more c.args.plan.now.id.0 c.args.now _ c.stamp-number.result c.args.plan.now.networks
    c.write_next.new.out.items c.args.mux.now c.hand_with-standing.new.self
    (frame_at _ _ _ _ _ c.index-subs-sub.result _ _ c.in-Some.ensures.chosen c.requires.named c.write_next.ensures.frame)
    (grind arith)

pub returns-then-any_up-clause-counted : goal.returns-then-any_up-clause-counted
returns-then-any_up-clause-counted g c = grind (arith, entered g c)

pub returns-then-any_up-clause-paced : goal.returns-then-any_up-clause-paced
returns-then-any_up-clause-paced g c =
    follows_more c.args.now c.in-Some.sub c.write_next.new.out.items _ _ _ _ c.requires.paced (entered g c)
    (frame_at _ _ _ _ _ c.index-subs-sub.result _ _ c.in-Some.ensures.chosen c.requires.named
    c.write_next.ensures.frame).of_sub
    c.stamp-number.ensures.last c.stamp-number.ensures.next

pub returns-then-any_up-clause-same : goal.returns-then-any_up-clause-same
returns-then-any_up-clause-same g c =
    set_same _ _ _ _ c.index-subs-sub.result _ c.write_next.new.out.items c.in-Some.ensures.chosen (grind arith)

pub returns-else-any_up-clause-serves : goal.returns-else-any_up-clause-serves
returns-else-any_up-clause-serves g c =
    let down = sym c.any_up.ensures ∙ c.if-any_up.false in (
      c.requires.may,
      record {
        sub = c.in-Some.sub;
        frame = c.write_next.new.out.items;
        choice = chosen_gives _ _ _ _ c.index-subs-sub.result _ _ c.in-Some.ensures.chosen
            (grind arith);
        same = grind arith;
        down = down;
        stays_down = grind arith;
      },
    )

pub returns-else-any_up-clause-counted : goal.returns-else-any_up-clause-counted
returns-else-any_up-clause-counted g c = grind (arith, log_same)

pub returns-else-any_up-clause-same : goal.returns-else-any_up-clause-same
returns-else-any_up-clause-same g c =
    set_same _ _ _ _ c.index-subs-sub.result _ c.write_next.new.out.items c.in-Some.ensures.chosen (grind arith)

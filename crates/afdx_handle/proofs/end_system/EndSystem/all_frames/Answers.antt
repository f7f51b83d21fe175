use Rattle.afdx_handle.proofs.Names.{map-append, append-nil, ◌≡◌, ◌+◌, arith, take, set, ◌-◌, concat, made_for, made_at, first_made, bytes_of, lengths_of, with_front}
use Rattle.std.proofs.lemmas.List.Folds.{concat-append}
use Rattle.afdx_handle.proofs.MadeFrames.{first_more, set_front, put_front, bytes_more, bytes_rise, count_made}
use Rattle.std.proofs.Common.{drop}
use Rattle.afdx_handle.proofs.end_system.EndSystem.all_frames.Goals as goal

pub put_at-requires : goal.put_at-requires
put_at-requires c =
    let it = c.args.self.now in let net = c.args.net in let k = c.loop-k.k in
    let many = made_for net it in
    let all : (k + 1) + (many - (k + 1)) ≡ many = omega (arith, c.loop-k-test.true, c.frames-many.ensures.count) in
    grind (arith, bytes_of, first_made, bytes_rise, bytes_more)

pub loop-k-preserved : goal.loop-k-preserved
loop-k-preserved c = grind (arith, first_made, made_at, bytes_more, take, drop, put_front, concat, with_front, first_more, concat-append, append-nil, set, set_front, lengths_of, count_made, map-append)

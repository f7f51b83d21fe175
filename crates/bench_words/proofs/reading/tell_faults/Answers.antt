use Rattle.std.proofs.Common.{map}
use Rattle.afdx_config.specs.Seen.{finding_of}
use Rattle.bench_words.proofs.ReadingLemmas.{tells_faults}
use Rattle.bench_words.proofs.reading.tell_faults.Goals as goal

pub returns-in-Ok-write_all-clause-ok : goal.returns-in-Ok-write_all-clause-ok
returns-in-Ok-write_all-clause-ok g c = tells_faults (g.R.Read.remaining c.args.reader) c.in_ok-text.text.items
    c.as_slice.result.now c.in-Ok.told.text.items c.as_slice-in-Ok.result.now
    (map finding_of c.in-Ok.told.findings.items) c.in-Ok.told.count c.end_of-end.result
    (g.W.Write.contents c.args.writer.now) (g.W.Write.contents c.write_all.new.self)
    c.in_ok-text.ensures.whole c.as_slice.ensures.value c.in-Ok.ensures c.end_of-end.ensures
    c.as_slice-in-Ok.ensures.value c.in-Ok-write_all.ensures.bytes

use Rattle.std.proofs.Common.{arith, ap, ◌≤◌}
use Rattle.bench_words.proofs.ReadingLemmas.{whole_text}
use Rattle.bench_words.specs.Reading.{text_limit}
use Rattle.bench_words.proofs.reading.read_text.Goals as goal

pub returns-in-Ok-clause-whole : goal.returns-in-Ok-clause-whole
returns-in-Ok-clause-whole g c =
    let inner = c.take-reader.result.inner in
    let few : c.len.result ≤ text_limit = omega arith in
    whole_text (g.R.Read.remaining c.args.reader) (g.R.Read.remaining inner) text_limit
    c.take-reader.result.limit c.new-text.result.items c.read_to_end.new.buf.items
    c.take-reader.ensures.limit (ap g.R.Read.remaining c.take-reader.ensures.inner)
    c.new-text.ensures.items (c.in-Ok.ensures.bytes) (omega arith)

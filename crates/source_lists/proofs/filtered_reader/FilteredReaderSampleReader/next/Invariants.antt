-- what is left out changes nothing, and brings the ending nearer
use Rattle.std.proofs.Common.{◌≡◌, [], length}
use Rattle.run_options.specs.Filters.{kept_rest}
use Rattle.source_lists.proofs.filtered_reader.FilteredReaderSampleReader.next.Given as goal

abbrev pub invariant-samples : goal.invariant-samples
invariant-samples g l =
    let rest = g.R.SampleReader.rest in
    let has_ended = g.R.SampleReader.has_ended in
    record {
      same : kept_rest l.self.filter (rest l.self.reader) ≡ kept_rest l.fn.self.filter (rest l.fn.self.reader);
      ended : has_ended l.fn.self.reader → (rest l.fn.self.reader).samples ≡ [] → has_ended l.self.reader;
      empty : has_ended l.fn.self.reader → (rest l.fn.self.reader).samples ≡ [] → (rest l.self.reader).samples ≡ [];
    }

abbrev pub decreases-samples : goal.decreases-samples
decreases-samples g l = length (g.R.SampleReader.rest l.self.reader).samples

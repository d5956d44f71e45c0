-- what was left out changes what may be given as little as what was told
use Rattle.std.proofs.Common.{◌≡◌, ◌<◌, ◌^◌, length}
use Rattle.stack_core.specs.Reading.{Rest}
use Rattle.source_lists.specs.checked.SummedRows.{AreAllGiven, GivesLeft}
use Rattle.source_lists.proofs.summed_rows.SummedRowsRowReader.next_row.Given as goal

abbrev pub invariant-loop : goal.invariant-loop
invariant-loop g l =
    let r = g.R.RowReader in
    let old = l.fn.self in
    let gives : Rest → Type 0 = GivesLeft (r.gives l.self.reader) (r.told l.self.reader) l.self.sums.items in
    let gave : Rest → Type 0 = GivesLeft (r.gives old.reader) (r.told old.reader) old.sums.items in
    record {
      among : (rest : Rest) → gives rest → gave rest;
      told : r.told l.self.reader ≡ r.told old.reader;
      few : ((rest : Rest) → gives rest → length rest.samples < 2 ^ 64) → (rest : Rest) → gave rest → length rest.samples < 2 ^ 64;
      ended : AreAllGiven (r.has_ended old.reader) (r.gives old.reader) old.sums.items → AreAllGiven (r.has_ended l.self.reader) (r.gives l.self.reader) l.self.sums.items;
    }

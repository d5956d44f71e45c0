use Rattle.std.proofs.Common.{ℕ, List, ◌++◌, ◌≡◌, subst}
use Rattle.std.specs.Prelude.{All}
use Rattle.sample_tables.specs.Rows.{AreEntries, IsRow, rows_by}
use Rattle.sample_tables.specs.Samples.{IsLimited}
use Rattle.sample_tables.specs.Tables.{Table, samples_in}
use Rattle.sample_tables.proofs.EntryLemmas.{rows_by-append, rows_by-entries, rows_by-rows}
use Rattle.sample_tables.proofs.Naming.{samples-limited}
use Rattle.sample_tables.proofs.tables.RowTable.recall_rows.Goals as goal

pub returns-clause-rows : goal.returns-clause-rows
returns-clause-rows c =
    subst (λ (t : Table). All (IsRow t.names) (rows_by t.stacks t.entries)) c.self.view_is (rows_by-rows _ _ _ c.len-stacks.ensures.stacks c.self.invariant)

pub returns-clause-limits : goal.returns-clause-limits
returns-clause-limits c =
    subst (λ (t : Table). All IsLimited (samples_in t)) c.self.view_is (samples-limited _ _ (rows_by-rows _ _ _ c.len-stacks.ensures.stacks c.self.invariant))

pub returns-clause-kept : goal.returns-clause-kept
returns-clause-kept c =
    subst (λ (t : Table). AreEntries t.stacks t.entries (rows_by t.stacks t.entries)) c.self.view_is (rows_by-entries _ _ c.self.invariant)

pub returns-clause-same : goal.returns-clause-same
returns-clause-same c =
    subst (λ (t : Table). (more : List (List ℕ)) → rows_by (t.stacks ++ more) t.entries ≡ rows_by t.stacks t.entries) c.self.view_is (λ more. rows_by-append _ more _ c.self.invariant)

-- What was merged of a run, as contracts see it.
use Rattle.std.specs.Prelude.{ℕ, List}
use Rattle.sample_tables.specs.declared.samples.Sample.{Sample}
use Rattle.live_lines.specs.declared.form.LiveForm.{LiveForm}

-- what is written, how many sources the run has, and the pairs of a source and a sample that were taken
pub record LiveState : Type 0 where
  pub form : LiveForm
  pub sources : ℕ
  pub taken : List (ℕ × Sample)

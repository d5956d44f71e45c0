-- What a run tells beside the samples that it shows.
use Rattle.std.specs.Prelude.{◌&&◌, ℕ, Bool, Option, None, Some, if◌then◌else◌, is_some, not}
use Rattle.run_options.specs.Filters.{is_everything}
use Rattle.command_line.specs.declared.plans.Plan.{Plan}
use Rattle.flame_tool.specs.declared.run_facts.RunFacts.{RunFacts}

-- no sample is left out
abbrev pub shows_all : Plan → Bool
shows_all plan = is_everything plan.options.filter && not (is_some plan.from)

-- what all samples weigh, unless all of them are shown
abbrev pub told_whole : Plan → RunFacts → Option ℕ
told_whole plan facts = if shows_all plan then None else Some facts.whole

use Rattle.std.proofs.Common.{◌≡◌, ◌++◌, [], refl, ap, map, subst, sym, ◌∙◌}
use Rattle.stack_core.specs.declared.endings.Close.TheVariants.{Read}
use Rattle.ring_collect.specs.checked.Batches.{told_to}
use Rattle.stack_core.specs.declared.records.RingRecord.TheVariants.{Name}
use Rattle.ring_collect.specs.checked.Tellers.{Ended, ShortOfMemory, Stopped, Tells, TellsOne, records_of}
use Rattle.ring_collect.proofs.Records.{steps_end, steps_sample, tells_names, tells_nothing, tells_step}
use Rattle.ring_collect.proofs.tellers.Teller.tell_next.Goals as goal

pub returns-in_default-clause-closes : goal.returns-in_default-clause-closes
returns-in_default-clause-closes g c =
    let possible = c.next_row.ensures.possible in
    let told = told_to c.args.self.now.outlet in
    record {
      rest = possible.rest;
      is_given = (c.send_before_wait.ensures.gives possible.rest).0 (c.in_default.ensures.refused possible.rest possible.is_given);
      holds = ShortOfMemory refl (subst (Tells [] told) (sym c.send_before_wait.ensures.told) (tells_nothing told));
    }

pub returns-in-Some-clause-closes : goal.returns-in-Some-clause-closes
returns-in-Some-clause-closes g c =
    let possible = c.next_row.ensures.possible in
    let rest = c.in-Ok.ensures.step possible.rest possible.is_given in
    let none = steps_end _ _ _ _ c.in-Ok.step c.in-Some.ending rest.holds (sym c.ending_in.ensures ∙ c.in-Some.is) in
    record { rest = rest.rest; is_given = (c.send_before_wait.ensures.gives rest.rest).0 rest.is_given; holds = Ended none.0 (ap Read (sym none.1)) c.send_before_wait.ensures.told }

pub returns-in-Stop-clause-closes : goal.returns-in-Stop-clause-closes
returns-in-Stop-clause-closes g c =
    let possible = c.next_row.ensures.possible in
    let rest = c.in-Ok.ensures.step possible.rest possible.is_given in
    let next = steps_sample _ _ _ _ c.in-Ok.step rest.holds (sym c.ending_in.ensures ∙ c.in_default-ending_in.is) in
    record { rest = rest.rest; is_given = (c.send_before_wait.ensures.gives rest.rest).0 rest.is_given; holds = Stopped next.0 possible.rest.samples next.1 (c.in-Stop.ensures.stop refl) refl c.send_before_wait.ensures.told }

pub returns-in-Err-clause-closes : goal.returns-in-Err-clause-closes
returns-in-Err-clause-closes g c =
    let told = told_to c.args.self.now.outlet in
    let names = c.in-Err.ensures.short in
    let same = c.send_before_wait.ensures.told in
    let possible = c.next_row.ensures.possible in
    let rest = c.in-Ok.ensures.step possible.rest possible.is_given in
    record { rest = rest.rest; is_given = (c.send_before_wait.ensures.gives rest.rest).0 rest.is_given; holds = ShortOfMemory refl (subst (Tells [] told) (sym (names.1 ∙ ap (λ records. records ++ map Name names.0) same)) (tells_names told names.0)) }

pub returns-in-Ok-tell_step-clause-told : goal.returns-in-Ok-tell_step-clause-told
returns-in-Ok-tell_step-clause-told g c = λ after is.
    let rest = c.in-Ok.ensures.step after is in
    let before = c.send_before_wait.ensures in
    let later = c.next_row.new.self in
    let told = told_to c.args.self.now.outlet in
    let all : told_to c.tell_step.new.outlet ≡ told ++ records_of c.in-Ok.step = c.in-Ok-tell_step.ensures.told ∙ ap (λ records. records ++ records_of c.in-Ok.step) before.told in
    record {
      rest = rest.rest;
      is_given = (before.gives rest.rest).0 rest.is_given;
      holds = subst (TellsOne (g.G.Gate.may_go c.args.gate.now) c.args.number.source c.args.number.index rest.rest after (g.R.RowReader.told later) told) (sym all)
          (tells_step c.in-Ok.step told rest.holds (sym c.ending_in.ensures ∙ c.in_default-ending_in.is) (c.in-Go.ensures.go refl) (before.rows ∙ c.requires.told) c.requires.well_told);
    }

use Rattle.std.proofs.Common.{◌≡◌, Err, refl, sym, subst}
use Rattle.std.proofs.lemmas.Result.{IfOk-from_err}
use Rattle.std.specs.Arc.{arc_value}
use Rattle.ring_collect.specs.Collection.{FeedsRun, HearsAll}
use Rattle.ring_collect.specs.declared.faults.CollectFault.TheVariants.{Unfinished}
use Rattle.ring_collect.proofs.CollectionLemmas.{answers_so, same_fault}
use Rattle.ring_collect.proofs.Outcomes.{err_is, error_said, no_err}
use Rattle.ring_collect.proofs.runs.RingedReaders.feed_by.Goals as goal

pub returns-in_err-run : goal.returns-in_err-run
returns-in_err-run g c =
    let given = c.in_err-run.ensures.answer in
    record {
      answer = record { rests = given.rests; are_given = given.are_given; holds = same_fault c.in_err-run.field-0.0 c.from_residual.result c.from_residual.ensures.1 given.holds };
      ends = λ few. record {
        all = IfOk-from_err _ _ c.from_residual.ensures.0;
        some = (c.run_by.ensures.ends few).some;
        first = λ finished. (c.in_err-run.ensures.ends few).first (λ source is.
            finished source (err_is c.from_residual.result c.in_err-run.field-0.0 (Unfinished source) c.from_residual.ensures.1 (error_said (λ other. c.in_err-run.field-0.0 ≡ other) (Err c.in_err-run.field-0.0) (Unfinished source) refl is)));
      };
      setting = c.run_by.ensures.setting;
    }

pub returns-in_err-endings_of : goal.returns-in_err-endings_of
returns-in_err-endings_of g c =
    let given = c.in_ok-run.ensures.answer in
    record {
      answer = answers_so given given.holds.run.first given.holds.run.allowed (IfOk-from_err _ _ c.from_residual-in_err-endings_of.ensures.0)
          (λ source fault. let other = error_said _ c.from_residual-in_err-endings_of.result (Unfinished source) c.from_residual-in_err-endings_of.ensures.1 fault in cc);
      ends = λ few. record {
        all = IfOk-from_err _ _ c.from_residual-in_err-endings_of.ensures.0;
        some = (c.run_by.ensures.ends few).some;
        first = λ finished. (c.in_ok-run.ensures.ends few).first (λ source is. no_err c.in_ok-run.run' (Unfinished source) is);
      };
      setting = c.run_by.ensures.setting;
    }

pub returns : goal.returns
returns g c =
    let given = c.in_ok-run.ensures.answer in
    let gate = arc_value c.args.self.gate in
    record {
      answer = answers_so given given.holds.run.first given.holds.run.allowed
          (subst (FeedsRun (g.G.Gate.may_stop gate) (g.G.Gate.may_go gate) given.rests (g.F.Feed.taken c.args.sink.now) (g.F.Feed.taken c.run_by.new.sink)) (sym c.in_ok-endings_of.ensures) given.holds.run.fed)
          (λ source fault. cc);
      ends = λ few. record {
        all = subst (λ endings. HearsAll (g.F.Feed.taken c.run_by.new.sink) endings (g.F.Feed.setting c.args.sink.now).heard (g.F.Feed.setting c.run_by.new.sink).heard) (sym c.in_ok-endings_of.ensures) ((c.in_ok-run.ensures.ends few).all);
        some = (c.run_by.ensures.ends few).some;
        first = λ finished. (c.in_ok-run.ensures.ends few).first (λ source is. no_err c.in_ok-run.run' (Unfinished source) is);
      };
      setting = c.run_by.ensures.setting;
    }

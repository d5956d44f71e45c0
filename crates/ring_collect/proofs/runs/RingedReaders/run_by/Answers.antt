use Rattle.std.proofs.Common.{◌≡◌, ◌∙◌, Bool, Some, map, refl, sym, ap, subst, length}
use Rattle.std.proofs.lemmas.Result.{IfOk-from_err}
use Rattle.std.specs.Arc.{arc_value}
use Rattle.ring_collect.specs.Collection.{Unfinishes}
use Rattle.ring_collect.specs.checked.WholeRuns.{IsUnfinished, RunsWhole}
use Rattle.stack_core.specs.declared.endings.Close.TheVariants.{Read}
use Rattle.ring_collect.specs.declared.faults.CollectFault.TheVariants.{Unfinished}
use Rattle.ring_collect.proofs.Outcomes.{err_is, error_said}
use Rattle.ring_collect.proofs.GivenRests.{any_given}
use Rattle.ring_collect.proofs.RunLemmas.{allows_nothing, gains_nothing, hears_all, hears_no_first, hears_nothing, map_twice, one_unfinished, refused_nothing}
use Rattle.ring_collect.proofs.CollectionLemmas.{answers_so, hands_out}
use Rattle.ring_collect.proofs.runs.RingedReaders.run_by.Goals as goal

pub returns-in_err-room : goal.returns-in_err-room
returns-in_err-room g c = record {
  answer = any_given (λ reader. g.R.RowReader.gives reader) c.args.self.readers.items c.requires.possible (λ rests same. record {
    run = IfOk-from_err _ _ c.from_residual.ensures.0;
    refused = λ _. gains_nothing rests (g.F.Feed.taken c.args.sink.now);
    popped = λ _. allows_nothing (g.G.Gate.may_go (arc_value c.args.self.gate)) (g.F.Feed.taken c.args.sink.now);
    unfinished = λ source fault. let other = error_said _ c.from_residual.result (Unfinished source) c.from_residual.ensures.1 fault in cc;
  });
  ends = λ few. record {
    all = IfOk-from_err _ _ c.from_residual.ensures.0;
    some = hears_nothing _ _;
    first = λ finished. any_given (λ reader. g.R.RowReader.gives reader) c.args.self.readers.items c.requires.possible (λ rests same. hears_no_first _ _ rests _ _);
  };
  setting = refl;
}

pub returns-in_err-run : goal.returns-in_err-run
returns-in_err-run g c =
    let readers = c.args.self.readers.items in
    let taken = g.F.Feed.taken c.args.sink.now in
    let taken' = g.F.Feed.taken c.run_sources.new.sink in
    let none = refused_nothing (length readers) taken taken' c.in_err-run.field-0.0 c.from_residual-in_err-run.result c.in_err-run.ensures.unfinished c.from_residual-in_err-run.ensures.1 in
    record {
      answer = any_given (λ reader. g.R.RowReader.gives reader) readers c.requires.possible (λ rests same. record {
        run = IfOk-from_err _ _ c.from_residual-in_err-run.ensures.0;
        refused = λ refused. absurd (none refused);
        popped = λ refused. absurd (none refused);
        unfinished = λ source fault.
            let said = sym (error_said _ c.from_residual-in_err-run.result (Unfinished source) c.from_residual-in_err-run.ensures.1 fault) in
            subst (λ count. Unfinishes count source taken taken') (sym same)
            (subst (IsUnfinished (length readers) taken taken') said c.in_err-run.ensures.unfinished);
      });
      ends = λ few. record {
        all = IfOk-from_err _ _ c.from_residual-in_err-run.ensures.0;
        some = c.run_sources.ensures.heard_some few;
        first = λ finished.
            let one = one_unfinished (length readers) taken taken' c.in_err-run.field-0.0 c.in_err-run.ensures.unfinished in
            absurd (finished one.0 (err_is c.from_residual-in_err-run.result c.in_err-run.field-0.0 (Unfinished one.0) c.from_residual-in_err-run.ensures.1 one.1));
      };
      setting = c.run_sources.ensures.setting;
    }

pub returns-in_err-lists : goal.returns-in_err-lists
returns-in_err-lists g c =
    let given = c.in_ok-run.ensures.gains in
    record {
      answer = answers_so given given.holds.0 c.in_ok-run.ensures.popped (IfOk-from_err _ _ c.from_residual-in_err-lists.ensures.0)
          (λ source fault. let other = error_said _ c.from_residual-in_err-lists.result (Unfinished source) c.from_residual-in_err-lists.ensures.1 fault in cc);
      ends = λ few. record {
        all = IfOk-from_err _ _ c.from_residual-in_err-lists.ensures.0;
        some = c.run_sources.ensures.heard_some few;
        first = λ finished. record { rests = given.rests; are_given = given.are_given; holds = given.holds.2 few };
      };
      setting = c.run_sources.ensures.setting;
    }

pub returns-in-Some : goal.returns-in-Some
returns-in-Some g c =
    let given = c.in_ok-run.ensures.gains in
    record {
      answer = answers_so given given.holds.0 c.in_ok-run.ensures.popped tt
          (λ source fault. let same : c.in-Some.fault ≡ Unfinished source = cc in c.in_ok-run.ensures.refused source (c.in-Some.is ∙ ap (λ fault. Some fault) same));
      ends = λ few. record {
        all = tt;
        some = c.run_sources.ensures.heard_some few;
        first = λ finished. record { rests = given.rests; are_given = given.are_given; holds = given.holds.2 few };
      };
      setting = c.run_sources.ensures.setting;
    }

pub returns : goal.returns
returns g c =
    let given = c.in_ok-run.ensures.gains in
    let gate = arc_value c.args.self.gate in
    let runs = λ (keeps : Bool). RunsWhole keeps (g.G.Gate.may_stop gate) (g.G.Gate.may_go gate) given.rests c.in_ok-run.run'.ledgers.items c.in_ok-run.run'.order.items (g.F.Feed.taken c.args.sink.now) (g.F.Feed.taken c.run_sources.new.sink) in
    record {
      answer = answers_so given given.holds.0 c.in_ok-run.ensures.popped
          (hands_out (subst runs c.in_ok-room.ensures.keeps (given.holds.1 c.in-None.is)) c.in_ok-lists.ensures given.holds.0 c.in_ok-run.ensures.popped) (λ source fault. cc);
      ends = λ few. record {
        all =
            let lists = c.in_ok-lists.ensures in
            hears_all _ (map (λ list. list.ending) c.in_ok-lists.lists.items) (map_twice (λ list. list.ending) (λ ending. Some (Read ending)) c.in_ok-lists.lists.items ∙ lists.closes) (c.in_ok-run.ensures.heard few c.in-None.is);
        some = c.run_sources.ensures.heard_some few;
        first = λ finished. record { rests = given.rests; are_given = given.are_given; holds = given.holds.2 few };
      };
      setting = c.run_sources.ensures.setting;
    }

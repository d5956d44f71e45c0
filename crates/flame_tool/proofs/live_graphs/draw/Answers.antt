use Rattle.std.proofs.Common.{◌≡◌, ◌∙◌, ℕ, List, [], Err, Option, ap, arith, length, refl, subst, sym}
use Rattle.std.specs.Prelude.{is_some}
use Rattle.std.proofs.lemmas.Result.{on_err_weaker, on_ok_weaker}
use Rattle.std.specs.Io.KnownBytes.{Appends}
use Rattle.byte_io.specs.Pieces.{AppendsFront}
use Rattle.sample_tables.specs.declared.samples.Sample.{Sample}
use Rattle.ring_collect.specs.Collection.{AnswersFeed, CollectsRun, HearsFirst}
use Rattle.ring_collect.proofs.GivenRests.{given_count}
use Rattle.live_lines.specs.Ends.{heard_of_each}
use Rattle.live_lines.specs.Lines.{live_counts, live_text}
use Rattle.flame_tool.specs.checked.Drawings.{DrawsAll, DrawsSome}
use Rattle.flame_tool.specs.checked.LiveEnds.{anywhere}
use Rattle.flame_tool.specs.declared.live_graphs.Drawn.{Drawn}
use Rattle.flame_tool.proofs.DrawnRuns.{all_told, some_told}
use Rattle.flame_tool.proofs.FirstSaid.{first_told}
use Rattle.flame_tool.proofs.LiveEndings.{ends_of_run}
use Rattle.flame_tool.proofs.LiveSinks.{SameSetting, front_of_sink, same_setting}
use Rattle.flame_tool.proofs.StrictSources.{none_of}
use Rattle.flame_tool.proofs.live_graphs.draw.Goals as goal

-- not all was collected
pub returns-in-Err : goal.returns-in-Err
returns-in-Err g c =
    let answer = c.in-Err.ensures.answer in
    let parts = c.args.parts in
    let known = g.W.Outlet.contents in
    let sink = c.new-sink.result in
    let left = c.feed_rows-fed.new.sink in
    let same = same_setting g.W.Outlet.contents g.W.Outlet.failures sink.out.ghost_name left.out.ghost_name sink.lines left.lines (g.S.EndTeller.setting sink.ends) (g.S.EndTeller.setting left.ends) c.feed_rows-fed.ensures.setting in
    let merge = c.new-sink.ensures.merge ∙ c.requires.merge in
    let sources = ap (λ merge. merge.sources) merge in
    let none : sink.lines.merge.taken ≡ [] = ap (λ merge. merge.taken) merge in
    let untold = ap g.S.EndTeller.told c.new-sink.ensures.ends ∙ c.requires.untold in
    let many = given_count (λ reader. g.R.RowReader.gives reader) c.args.readers.items answer.rests answer.are_given in
    let last = c.in-Err.out-1-own.given.1 (sym (same.name_is ∙ c.new-sink.ensures.outlet)) in
    let of_parts : SameSetting sink.out.ghost_name left.out.ghost_name (known c.args.out.now) (known left.lines.start.value) (g.W.Outlet.failures sink.lines.start.value) (g.W.Outlet.failures left.lines.start.value)
    parts.merge.form left.lines.merge.form (length answer.rests) left.lines.merge.sources parts.width left.lines.width parts.every left.lines.every (g.S.EndTeller.setting sink.ends) (g.S.EndTeller.setting left.ends) = record {
      name_is = same.name_is;
      contents_are = same.contents_are ∙ ap known c.new-sink.ensures.start;
      failures_are = same.failures_are;
      form_is = same.form_is ∙ ap (λ merge. merge.form) merge;
      sources_are = same.sources_are ∙ (sources ∙ sym many);
      width_is = same.width_is ∙ c.new-sink.ensures.width;
      every_is = same.every_is ∙ c.new-sink.ensures.every;
      kept_is = same.kept_is;
    } in
    record {
      ok = tt;
      err = record {
        rests = answer.rests;
        are_given = answer.are_given;
        holds = subst (λ out. DrawsSome parts.merge.form parts.width parts.every (known c.args.out.now) (known out) c.in-Err.fault answer.rests) (sym last) (record {
          taken = left.lines.merge.taken;
          answer = subst (λ (taken : List (ℕ × Sample)). AnswersFeed anywhere anywhere answer.rests taken left.lines.merge.taken (Err c.in-Err.fault)) none answer.holds;
          gained = front_of_sink left.lines.merge.taken (known left.out.now) of_parts left.front;
        });
      };
      some = some_told (length c.args.readers.items) (g.S.EndTeller.told sink.ends) (g.S.EndTeller.told left.ends) untold (c.feed_rows-fed.ensures.ends (omega (arith, sources))).some;
      first = λ finished.
          let given = (c.in-Err.ensures.ends (omega (arith, sources))).first (λ source is. finished source cc) in record {
            rests = given.rests;
            are_given = given.are_given;
            holds = first_told given.rests left.lines.merge.taken (g.S.EndTeller.told sink.ends) (g.S.EndTeller.told left.ends) untold
                (subst (λ (taken : List (ℕ × Sample)). HearsFirst anywhere anywhere given.rests taken left.lines.merge.taken (heard_of_each (g.S.EndTeller.told sink.ends)) (heard_of_each (g.S.EndTeller.told left.ends))) none given.holds);
          };
      setting = same.kept_is ∙ ap g.S.EndTeller.setting c.new-sink.ensures.ends;
      flushed = tt;
      unfailed = tt;
    }

-- ---- all was

pub returns-clause-some : goal.returns-clause-some
returns-clause-some g c =
    let sink = c.new-sink.result in
    let sources = ap (λ merge. merge.sources) (c.new-sink.ensures.merge ∙ c.requires.merge) in
    some_told (length c.args.readers.items) (g.S.EndTeller.told sink.ends) (g.S.EndTeller.told c.feed_rows-fed.new.sink.ends) (ap g.S.EndTeller.told c.new-sink.ensures.ends ∙ c.requires.untold) (c.feed_rows-fed.ensures.ends (omega (arith, sources))).some

pub returns-clause-setting : goal.returns-clause-setting
returns-clause-setting g c =
    let sink = c.new-sink.result in
    let left = c.feed_rows-fed.new.sink in
    let same = same_setting g.W.Outlet.contents g.W.Outlet.failures sink.out.ghost_name left.out.ghost_name sink.lines left.lines (g.S.EndTeller.setting sink.ends) (g.S.EndTeller.setting left.ends) c.feed_rows-fed.ensures.setting in
    same.kept_is ∙ ap g.S.EndTeller.setting c.new-sink.ensures.ends

pub returns-clause-ok : goal.returns-clause-ok
returns-clause-ok g c =
    let answer = c.in-Ok.ensures.answer in
    let parts = c.args.parts in
    let known = g.W.Outlet.contents in
    let sink = c.new-sink.result in
    let left = c.feed_rows-fed.new.sink in
    let sent = c.finish-sent in
    let same = same_setting g.W.Outlet.contents g.W.Outlet.failures sink.out.ghost_name left.out.ghost_name sink.lines left.lines (g.S.EndTeller.setting sink.ends) (g.S.EndTeller.setting left.ends) c.feed_rows-fed.ensures.setting in
    let merge = c.new-sink.ensures.merge ∙ c.requires.merge in
    let none : sink.lines.merge.taken ≡ [] = ap (λ merge. merge.taken) merge in
    let many = given_count (λ reader. g.R.RowReader.gives reader) c.args.readers.items answer.rests answer.are_given in
    let start : known left.lines.start.value ≡ known c.args.out.now = same.contents_are ∙ ap known c.new-sink.ensures.start in
    let sources : left.lines.merge.sources ≡ length answer.rests = same.sources_are ∙ (ap (λ merge. merge.sources) merge ∙ sym many) in
    let text : live_text left.lines.merge.form left.lines.merge.sources left.lines.width left.lines.every left.lines.merge.taken ≡ live_text c.args.parts.merge.form (length answer.rests) c.args.parts.width c.args.parts.every left.lines.merge.taken =
    λ i. live_text ((same.form_is ∙ ap (λ merge. merge.form) merge) i) (sources i) ((same.width_is ∙ c.new-sink.ensures.width) i) ((same.every_is ∙ c.new-sink.ensures.every) i) left.lines.merge.taken in
    let lists = answer.holds.run.found in
    let order = answer.holds.run.arrival in
    let run = subst (λ (taken : List (ℕ × Sample)). CollectsRun anywhere anywhere answer.rests taken left.lines.merge.taken lists order) none answer.holds.run.collects in
    let counted : live_counts c.finish-sent.new.self.merge.sources c.finish-sent.new.self.merge.taken (length c.finish-sent.new.self.merge.taken) ≡ live_counts left.lines.merge.sources left.lines.merge.taken (length left.lines.merge.taken) =
    λ i. live_counts (c.finish-sent.ensures.same i).merge.sources (c.finish-sent.ensures.same i).merge.taken (length (c.finish-sent.ensures.same i).merge.taken) in
    let last = c.out-2-1.given.1 (sym (same.name_is ∙ c.new-sink.ensures.outlet)) in
    let drawn : Drawn = record { endings = c.in-Ok.endings; merge = c.finish-sent.new.self.merge; is_lost = c.is_some-is_lost.result; sent = c.finish-sent.result } in
    record {
      rests = answer.rests;
      are_given = answer.are_given;
      holds = subst (λ out. DrawsAll parts.merge.form parts.width parts.every (known c.args.out.now) (known out) drawn (g.S.EndTeller.told left.ends) answer.rests) (sym last) (record {
        taken = left.lines.merge.taken;
        lists = lists;
        order = order;
        run = run;
        gained = on_ok_weaker sent.result (λ gained. subst (Appends (known c.args.out.now) (known sent.new.out)) text (subst (λ (old : Option (List ℕ)). Appends old (known sent.new.out) (live_text left.lines.merge.form left.lines.merge.sources left.lines.width left.lines.every left.lines.merge.taken)) start gained)) sent.ensures.ok;
        front = on_err_weaker sent.result (λ gone. subst (λ text. AppendsFront text (known c.args.out.now) (known sent.new.out)) text (subst (λ (old : Option (List ℕ)). AppendsFront (live_text left.lines.merge.form left.lines.merge.sources left.lines.width left.lines.every left.lines.merge.taken) old (known sent.new.out)) start gone)) sent.ensures.front;
        ends = ends_of_run answer.rests sink.lines.merge left.lines.merge parts.merge.form (length c.args.readers.items) c.in-Ok.endings.items c.in-Ok.endings.items _ answer.holds.run refl merge (sym many) same.sources_are counted;
        are_told = all_told answer.rests left.lines.merge.taken lists order c.in-Ok.endings.items (g.S.EndTeller.told sink.ends) (g.S.EndTeller.told left.ends) (ap g.S.EndTeller.told c.new-sink.ensures.ends ∙ c.requires.untold) run answer.holds.run.ends
            (c.in-Ok.ensures.ends (let count = ap (λ merge. merge.sources) merge in omega (arith, count))).all;
        whole = on_ok_weaker sent.result (λ none. c.is_some-is_lost.ensures ∙ ap is_some none) sent.ensures.unlost;
        unlost = λ kept. left.unlost (none_of left.lines.failure (sym c.is_some-is_lost.ensures ∙ kept));
      });
    }

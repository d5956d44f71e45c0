use Rattle.std.proofs.Common.{◌∙◌, List, ℕ, [], ap, refl, string_bytes, subst}
use Rattle.std.proofs.lemmas.Result.{IfErr-weaker, IfOk-weaker}
use Rattle.source_views.specs.Failures.{IsOpening}
use Rattle.source_views.specs.Messages.{Tells}
use Rattle.flame_tool.specs.ToldLive.{IsMissing, IsOfSome, stream_count}
use Rattle.flame_tool.specs.checked.LiveSaying.{SaidOfEnds, SaidOfFirst, SaidOfLost, SaysEnds, SaysFirst, SaysLost, SaysSuch}
use Rattle.flame_tool.specs.checked.LiveStreams.{AreOpened}
use Rattle.flame_tool.specs.LiveRuns.{known_texts}
use Rattle.flame_tool.proofs.FirstSaid.{first_said, none_first}
use Rattle.flame_tool.proofs.LiveSaid.{as_many_paths, ended_said, err_and, first_mapped, lost_said, none_said, opening_untold}
use Rattle.source_views.proofs.MessageTexts.{tells_nothing}
use Rattle.flame_tool.proofs.LiveSinks.{err_because, none_shown}
use Rattle.flame_tool.proofs.LiveTexts.{known_tell, result_tells, unopened_tells}
use Rattle.flame_tool.proofs.live_run.show_live.Goals as goal

pub returns-in_err-readers-clause-told : goal.returns-in_err-readers-clause-told
returns-in_err-readers-clause-told g c =
    let live = c.requires.live in
    unopened_tells c.args.is_terminal c.args.plan.now (g.W.Outlet.contents c.args.out.now) _ c.from_residual.result c.in_err-readers.field-0.0 _
    (none_shown c.args.plan.now live.width live.every live.view (ap (λ options. options.every) live.options) c.args.is_terminal (g.W.Outlet.contents c.args.out.now)) c.in_err-readers.ensures.err c.from_residual.ensures.1

pub returns-in_err-readers-clause-says_first : goal.returns-in_err-readers-clause-says_first
returns-in_err-readers-clause-says_first g c =
    err_because c.from_residual.result c.in_err-readers.field-0.0 _ c.from_residual.ensures.1 (opening_untold _ _ _ _ _ c.in_err-readers.field-0.0 c.in_err-readers.ensures.err refl (λ same. record {
      said = [];
      is_such = none_said c.args.plan.now (stream_count c.args.plan.now.files);
      says = tells_nothing _ _;
    }) (λ same. none_first c.args.plan.now _ (known_texts c.args.plan.now.files (g.S.Streams.known_input c.args.streams.now) (g.S.Streams.known_file c.args.streams.now)) (tells_nothing _ _)))

pub returns-in_err-readers-clause-unopened : goal.returns-in_err-readers-clause-unopened
returns-in_err-readers-clause-unopened g c = λ absent.
    err_and c.from_residual.result c.in_err-readers.field-0.0 _ c.from_residual.ensures.1 (
      subst (λ count. IsOpening count c.in_err-readers.field-0.0) (as_many_paths string_bytes _ _ c.get.ensures) c.in_err-readers.ensures.err,
      subst (λ files. IsMissing (g.S.Streams.is_absent c.args.streams.now) (g.S.Streams.known_file c.args.streams.now) files c.in_err-readers.field-0.0) c.get.ensures c.in_err-readers.ensures.missing,
    )

pub returns-clause-told : goal.returns-clause-told
returns-clause-told g c =
    result_tells (λ reader. g.R.RowReader.gives reader) (g.S.Streams.known_input c.args.streams.now) (g.S.Streams.known_file c.args.streams.now) c.args.plan.now.files c.in_ok-readers.readers.items c.args.is_terminal c.args.plan.now (g.W.Outlet.contents c.args.out.now) (g.W.Outlet.contents c.send_graphs.new.out) c.send_graphs.result
    (subst (λ (paths : List (List ℕ)). AreOpened c.args.plan.now.is_strict (λ reader. g.R.RowReader.gives reader) (g.S.Streams.known_input c.args.streams.now) (g.S.Streams.known_file c.args.streams.now) paths c.in_ok-readers.readers.items) c.get.ensures c.in_ok-readers.ensures.opened) c.send_graphs.ensures.ok c.send_graphs.ensures.err

pub returns-clause-says : goal.returns-clause-says
returns-clause-says g c =
    let plan = c.args.plan.now in
    let input = g.S.Streams.known_input c.args.streams.now in
    let files = g.S.Streams.known_file c.args.streams.now in
    let readers = c.in_ok-readers.readers.items in
    let start = c.args.err.now in
    let new = c.send_graphs.new.err in
    let says : List ℕ → Type 0 = λ said. Tells said (g.E.Outlet.contents start) (g.E.Outlet.contents new) (g.E.Outlet.failures start) (g.E.Outlet.failures new) in
    let opened = subst (λ (paths : List (List ℕ)). AreOpened plan.is_strict (λ reader. g.R.RowReader.gives reader) input files paths readers) c.get.ensures c.in_ok-readers.ensures.opened in
    IfOk-weaker c.send_graphs.result _ _
    (λ status given. known_tell plan.is_strict (λ reader. g.R.RowReader.gives reader) input files plan.files readers (SaysEnds plan says status) (SaidOfEnds plan says status) opened given
    (λ texts rests reads ended. ended_said plan says texts rests reads status ended)) c.send_graphs.ensures.told

pub returns-clause-says_first : goal.returns-clause-says_first
returns-clause-says_first g c =
    let plan = c.args.plan.now in
    let input = g.S.Streams.known_input c.args.streams.now in
    let files = g.S.Streams.known_file c.args.streams.now in
    let readers = c.in_ok-readers.readers.items in
    let start = c.args.err.now in
    let new = c.send_graphs.new.err in
    let says : List ℕ → Type 0 = λ said. Tells said (g.E.Outlet.contents start) (g.E.Outlet.contents new) (g.E.Outlet.failures start) (g.E.Outlet.failures new) in
    let opened = subst (λ (paths : List (List ℕ)). AreOpened plan.is_strict (λ reader. g.R.RowReader.gives reader) input files paths readers) c.get.ensures c.in_ok-readers.ensures.opened in
    IfErr-weaker c.send_graphs.result _ _
    (λ failure first. first_mapped _ _ _ _ _ _ _
    (λ some. subst (λ count. SaysSuch (IsOfSome plan count) says) (c.in_ok-readers.ensures.count ∙ ap stream_count c.get.ensures) some)
    (λ given. known_tell plan.is_strict (λ reader. g.R.RowReader.gives reader) input files plan.files readers (SaysFirst plan says) (SaidOfFirst plan says) opened given
    (λ texts rests reads those. first_said plan says texts rests reads those))
    (λ given. known_tell plan.is_strict (λ reader. g.R.RowReader.gives reader) input files plan.files readers (SaysLost plan says) (SaidOfLost plan says) opened given
    (λ texts rests reads lost. lost_said plan says texts rests reads lost)) failure first) c.send_graphs.ensures.told_first

use Rattle.std.proofs.Common.{◌∙◌, ◌<◌, ◌≤◌, ◌≢◌, IfSome, arith, rules, length, string_bytes, subst, sym}
use Rattle.source_views.specs.Messages.{Tells, message_of_failure}
use Rattle.source_views.specs.declared.failures.Failure.TheVariants.{TooManyFiles}
use Rattle.flame_tool.specs.LiveRuns.{known_texts}
use Rattle.flame_tool.specs.ToldLive.{IsOfFailure, IsUnopened, TellsLiveFailure, TellsStreams, TellsSuch}
use Rattle.flame_tool.proofs.LiveSaid.{alone_told, as_many_paths, failed_high, failed_told, low_told, many_told, some_absent, unread_told}
use Rattle.flame_tool.proofs.live_run.live.Goals as goal

pub returns-in-Ok : goal.returns-in-Ok
returns-in-Ok g c =
    let plan = c.args.plan.now in
    let known = known_texts plan.files (g.S.Streams.known_input c.args.streams.now) (g.S.Streams.known_file c.args.streams.now) in
    let mid = c.await_input.new.err in
    let new = c.show_live.new.err in record {
      status = search rules;
      flushed = search rules;
      unfailed = search rules;
      shown = search rules;
      faulty = search rules;
      many = search rules;
      few = search rules;
      refused = search rules;
      front = search rules;
      absent = search rules;
      told = λ low none.
          subst (λ err. IfSome known (TellsStreams plan (g.E.Outlet.contents err) (g.E.Outlet.contents new) (g.E.Outlet.failures err) (g.E.Outlet.failures new))) (c.await_input.ensures.untold none)
          (low_told g.E.Outlet.contents g.E.Outlet.failures plan known mid new c.in-Ok.status low c.in-Ok.ensures.says);
      told_many = λ two. absurd (c.in-Ok.ensures.ended two);
      told_failure = λ three none.
          subst (λ err. TellsLiveFailure plan known (g.E.Outlet.contents err) (g.E.Outlet.contents new) (g.E.Outlet.failures err) (g.E.Outlet.failures new)) (c.await_input.ensures.untold none)
          (unread_told g.E.Outlet.contents g.E.Outlet.failures plan known mid mid new c.in-Ok.status three c.in-Ok.ensures.says);
      told_absent = λ absent. absurd (c.in-Ok.ensures.unopened absent);
    }

pub returns-in-Err : goal.returns-in-Err
returns-in-Err g c =
    let plan = c.args.plan.now in
    let known = known_texts plan.files (g.S.Streams.known_input c.args.streams.now) (g.S.Streams.known_file c.args.streams.now) in
    let failure = c.in-Err.failure in
    let new = c.report_failure.new.err in record {
      status = search rules;
      flushed = search rules;
      unfailed = search rules;
      shown = search rules;
      faulty = search rules;
      many = search rules;
      few = search rules;
      refused = search rules;
      front = search rules;
      absent = search rules;
      told = λ low none. absurd (failed_high _ _ _ _ c.in-Err.failure c.in-Err.ensures.says_first (subst (λ status. status ≤ 1) c.status.ensures low));
      told_many = λ two.
          let many : 64 < length plan.files = c.in-Err.ensures.many (sym c.status.ensures ∙ two) in
          let some : length c.get-paths.result.now ≢ 0 = λ no. omega (arith, many, as_many_paths string_bytes c.get-paths.result.now plan.files c.get-paths.ensures, no) in
          subst (λ err. Tells (message_of_failure plan.files TooManyFiles) (g.E.Outlet.contents err) (g.E.Outlet.contents new) (g.E.Outlet.failures err) (g.E.Outlet.failures new)) (c.await_input.ensures.of_files some)
          (many_told g.E.Outlet.contents g.E.Outlet.failures plan c.await_input.new.err c.show_live.new.err new _ _ _ failure (sym c.status.ensures ∙ two) c.in-Err.ensures.says_first
          (subst (λ files. Tells (message_of_failure files failure) (g.E.Outlet.contents c.show_live.new.err) (g.E.Outlet.contents new) (g.E.Outlet.failures c.show_live.new.err) (g.E.Outlet.failures new)) c.get-paths.ensures c.report_failure.ensures.told));
      told_failure = λ three none.
          subst (λ err. TellsLiveFailure plan known (g.E.Outlet.contents err) (g.E.Outlet.contents new) (g.E.Outlet.failures err) (g.E.Outlet.failures new)) (c.await_input.ensures.untold none)
          (failed_told g.E.Outlet.contents g.E.Outlet.failures plan known c.await_input.new.err c.show_live.new.err new failure (sym c.status.ensures ∙ three) c.in-Err.ensures.says_first
          (subst (λ files. Tells (message_of_failure files failure) (g.E.Outlet.contents c.show_live.new.err) (g.E.Outlet.contents new) (g.E.Outlet.failures c.show_live.new.err) (g.E.Outlet.failures new)) c.get-paths.ensures c.report_failure.ensures.told));
      told_absent = λ absent.
          let is_such = IsUnopened (g.S.Streams.is_absent c.args.streams.now) (g.S.Streams.known_file c.args.streams.now) plan.files in
          let unopened : is_such failure = c.in-Err.ensures.unopened absent in
          let some : length c.get-paths.result.now ≢ 0 = λ no. some_absent (g.S.Streams.is_absent c.args.streams.now) plan.files absent (omega (arith, as_many_paths string_bytes c.get-paths.result.now plan.files c.get-paths.ensures, no)) in
          subst (λ err. TellsSuch (IsOfFailure is_such plan.files) (g.E.Outlet.contents err) (g.E.Outlet.contents new) (g.E.Outlet.failures err) (g.E.Outlet.failures new)) (c.await_input.ensures.of_files some)
          (alone_told g.E.Outlet.contents g.E.Outlet.failures is_such plan.files c.await_input.new.err c.show_live.new.err new failure unopened (c.in-Err.ensures.untold absent)
          (subst (λ files. Tells (message_of_failure files failure) (g.E.Outlet.contents c.show_live.new.err) (g.E.Outlet.contents new) (g.E.Outlet.failures c.show_live.new.err) (g.E.Outlet.failures new)) c.get-paths.ensures c.report_failure.ensures.told));
    }

use Rattle.std.proofs.Common.{rules, get_or, ◌≡◌, ◌∙◌, ℕ, List, ◌++◌, ◌+◌, arith, map, take, take_all, ap, subst, sym, string_bytes}
use Rattle.source_views.specs.Messages.{Tells, message_of_ending, said_of_each}
use Rattle.source_views.proofs.MessageTexts.{tells_more, tells_nothing}
use Rattle.flame_tool.specs.checked.Saying.{TellsEndings}
use Rattle.flame_tool.proofs.ToldEndings.{said_of_taken}
use Rattle.flame_tool.proofs.reports.report_endings.Goals as goal

pub loop-source-init : goal.loop-source-init
loop-source-init g c = record { within = omega arith; told = λ unwanted. tells_nothing _ _ }

pub loop-source-preserved : goal.loop-source-preserved
loop-source-preserved g c =
    let files = map string_bytes c.args.files.now in
    let lists = c.args.lists.now in
    let at = c.loop-source.source in
    let start = c.args.err.now in
    let told = c.report_ending.new.err in
    let gains : List ℕ → g.row.E.Denot → Type 0 =
    λ text err. Tells text (g.E.Outlet.contents start) (g.E.Outlet.contents err) (g.E.Outlet.failures start) (g.E.Outlet.failures err) in
    let say = message_of_ending files in
    let list = c.index-lists-source.result in
    let is : list ≡ get_or lists at list = search rules in
    let before = said_of_each say 0 (map (λ list. list.ending) (take at lists)) in
    record {
      within = omega arith;
      told = λ unwanted.
          subst (gains (said_of_each say 0 (map (λ list. list.ending) (take (at + 1) lists)))) (sym (c.tell_ending.ensures.untold unwanted))
          (subst (λ text. gains text told) (ap (λ ending. before ++ say at ending) (c.ending.ensures ∙ ap (λ list. list.ending) is) ∙ sym (said_of_taken say (λ list. list.ending) lists at list (omega arith)))
          (tells_more before (say at c.ending.result.now) _ _ _ _ _ _ (c.loop-source.invariant.told unwanted) c.report_ending.ensures.told));
    }

pub returns : goal.returns
returns g c = record {
  told = λ unwanted. subst (λ lists. TellsEndings (map string_bytes c.args.files.now) (g.E.Outlet.contents c.args.err.now) (g.E.Outlet.contents c.loop-source.err)
      (g.E.Outlet.failures c.args.err.now) (g.E.Outlet.failures c.loop-source.err) (map (λ list. list.ending) lists))
      (take_all c.loop-source.source c.args.lists.now (omega arith)) (c.loop-source.invariant.told unwanted);
}

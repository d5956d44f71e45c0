use Rattle.std.proofs.Common.{◌≡◌, ◌∙◌, ap, rules}
use Rattle.std.specs.Prelude.{None}
use Rattle.std.proofs.KnownBytes.{Appends-trans}
use Rattle.std.proofs.lemmas.Result.{on_err_weaker, on_ok_weaker}
use Rattle.source_views.proofs.SnapshotLines.{front_after}
use Rattle.live_lines.specs.Lines.{end_of, live_lines, live_text}
use Rattle.live_lines.specs.declared.form.LiveForm.TheVariants.{Lines}
use Rattle.live_lines.proofs.GraphLemmas.{text_is_graph_text}
use Rattle.live_lines.proofs.WriteLemmas.{front_known, front_longer}
use Rattle.live_lines.proofs.sink.LiveLines.finish.Goals as goal

pub returns-in-Some-clause-front : goal.returns-in-Some-clause-front
returns-in-Some-clause-front g c =
    let lines = c.args.self.now in
    let m = lines.merge in
    front_known (live_text m.form m.sources lines.width lines.every m.taken) _ _
    (front_longer (live_lines m.form m.sources lines.width lines.every m.taken) (end_of m.form lines.width m.taken) _ _ c.requires.front)

pub returns-clause-ok : goal.returns-clause-ok
returns-clause-ok g c =
    let lines = c.args.self.now in
    let m = lines.merge in
    let none : c.args.self.now.failure ≡ None = search rules in
    on_ok_weaker c.send.result (λ sent. Appends-trans _ _ _ (live_lines m.form m.sources lines.width lines.every m.taken) (end_of m.form lines.width m.taken) (c.requires.whole none) sent) c.send.ensures.ok

pub returns-clause-front : goal.returns-clause-front
returns-clause-front g c =
    let lines = c.args.self.now in
    let m = lines.merge in
    let none : c.args.self.now.failure ≡ None = search rules in
    on_err_weaker c.send.result (λ gone.
    front_after (live_lines m.form m.sources lines.width lines.every m.taken) (end_of m.form lines.width m.taken) _ _ _ (c.requires.whole none) gone) c.send.ensures.front

pub returns-in-Some-clause-graph : goal.returns-in-Some-clause-graph
returns-in-Some-clause-graph g c lists order ordered count is =
    let lines = c.args.self.now in
    let m = lines.merge in
    ap (live_text Lines m.sources lines.width lines.every) is ∙ text_is_graph_text m.sources lines.width lines.every lists order ordered count

pub returns-clause-graph : goal.returns-clause-graph
returns-clause-graph g c lists order ordered count is =
    let lines = c.args.self.now in
    let m = lines.merge in
    ap (live_text Lines m.sources lines.width lines.every) is ∙ text_is_graph_text m.sources lines.width lines.every lists order ordered count

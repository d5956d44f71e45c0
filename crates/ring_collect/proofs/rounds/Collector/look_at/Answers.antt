use Rattle.std.proofs.Common.{rules, ◌∙◌, ◌≡◌, ◌<◌, ◌++◌, length, sym, ap, subst, refl, true≢false, false, IfSome, IsSome, slice_set, map}
use Rattle.std.proofs.lemmas.List.{set-get_or}
use Rattle.std.proofs.lemmas.Option.{slice_get_read}
use Rattle.ring_collect.proofs.IntakeLemmas.{nothing_more, more_weaker}
use Rattle.ring_collect.proofs.RoundLemmas.{gains_also, one_looked, tells_end}
use Rattle.ring_collect.specs.checked.Ends.{ends_by, held, unheard}
use Rattle.ring_collect.specs.checked.Records.{of_one}
use Rattle.ring_collect.specs.checked.Rounds.{HasGained}
use Rattle.ring_collect.specs.declared.intakes.Stage.TheVariants.{Dropping}
use Rattle.stack_core.specs.Interleaving.{of_source}
use Rattle.ring_collect.proofs.rounds.Collector.look_at.Goals as goal

pub returns-then-is_some : goal.returns-then-is_some
returns-then-is_some g c =
    let all = c.args.self.now.sources.items in
    let running = c.index_mut-running.result.now in
    let same : slice_set all c.args.source running ≡ all = ap (slice_set all c.args.source) c.index_mut-running.ensures.value ∙ set-get_or all c.args.source running in
    record {
      goes = record {
        handles = ap (map (λ s. s.handle)) same;
        gained = λ keeps start gained. subst (λ sources. HasGained keeps start (map (λ s. s.intake) sources) (held (g.F.Feed.taken c.args.sink.now) (g.F.Feed.setting c.args.sink.now)) c.args.self.now.order.items c.args.self.now.refused) (sym same) gained;
        refused = λ goes. goes;
        setting = refl;
      };
      closed = λ _. (same, subst (λ o. IfSome o (λ s. IsSome s.intake.close)) (sym (slice_get_read all _ c.args.source running refl c.requires c.index_mut-running.ensures.value)) (sym c.if-is_some.ensures));
    }

pub returns-then-self-clause-goes : goal.returns-then-self-clause-goes
returns-then-self-clause-goes g c =
    let dropped = c.drop_next-look.ensures in
    let told = c.tell_end.ensures in
    one_looked c.args.source c.index_mut-running.result.now _ c.requires c.index_mut-running.ensures.value refl refl dropped.origin
    (λ list tracked. gains_also told.taken (nothing_more (dropped.tracks list tracked))) (search rules) (tells_end told.taken told.setting told.heard)
    (λ e. e) (λ e. absurd (true≢false (sym c.if-self.true ∙ e))) told.setting

pub returns-clause-goes : goal.returns-clause-goes
returns-clause-goes g c =
    let looked = c.take_next-look.ensures in
    let told = c.tell_end-2.ensures in
    let now = c.take_next-look.new.self in
    let ends = of_one now.origin.number (ends_by now.stage now.close (length (of_source now.origin.number (g.F.Feed.taken c.take_next-look.new.sink)))) in
    let not_dropping = λ (e : c.is_dropping-self.result ≡ false) (dropping : now.stage ≡ Dropping). true≢false (sym (c.is_dropping-self.ensures.1 dropping) ∙ e) in
    one_looked c.args.source c.index_mut-running.result.now _ c.requires c.index_mut-running.ensures.value refl refl looked.origin
    (λ list tracked. gains_also told.taken (more_weaker not_dropping (looked.more list tracked))) (search rules)
    (tells_end told.taken (told.setting ∙ ap unheard looked.setting)
    (λ below. told.heard (subst (λ kept. now.origin.number < kept.known) (sym looked.setting) below) ∙ (λ i. (looked.setting i).heard ++ ends)))
    (λ _. c.if-self.false) not_dropping (told.setting ∙ ap unheard looked.setting)

use Rattle.std.proofs.Common.{◌≡◌, List, ℕ, drop, map, ap, ◌∙◌}
use Rattle.std.proofs.Math.Seq.{take-length}
use Rattle.std.specs.Arc.{arc_value}
use Rattle.profile_messages.specs.Offsets.{found_at}
use Rattle.profile_tables.specs.declared.outline.Outline.{Outline}
use Rattle.profile_tables.specs.Samples.{read_samples}
use Rattle.profile_tables.specs.checked.Rests.{rest_from}
use Rattle.profile_tables.specs.checked.SeenOutline.{seen_outline}
use Rattle.profile_tables.proofs.RestLemmas.{start_is}
use Rattle.profile_tables.proofs.steps.start_of.Goals as goal

pub returns-in_ok-whole-in-Ok : goal.returns-in_ok-whole-in-Ok
returns-in_ok-whole-in-Ok c =
    let file = c.args.file.now in
    let outline = c.in-Ok.outline in
    let part = c.in_ok-whole-in-Ok.whole in
    let is : arc_value part.outline ≡ outline = c.in_ok-whole-in-Ok.ensures.outline in (
      ap (λ (o : Outline). rest_from file o part.past 0 0) is
          ∙ ap (λ n. rest_from file outline n 0 0) c.in_ok-whole-in-Ok.ensures.past
          ∙ ap (λ (list : List ℕ). read_samples (seen_outline outline) 0 (map (found_at file) (drop 0 list))) (take-length outline.samples.items)
          ∙ start_is file c.args.pick.now c.args.naming (seen_outline outline) outline.samples.items
          c.in-Ok.ensures.faultless c.in-Ok.ensures.tables c.in-Ok.ensures.samples,
      ap (λ (o : Outline). o.chosen_type) is ∙ c.in-Ok.ensures.chosen_type,
    )

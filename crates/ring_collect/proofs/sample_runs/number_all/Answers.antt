use Rattle.std.proofs.Common.{rules, All, ◌≡◌, ◌∙◌, ◌++◌, ◌∷◌, [], List, ℕ, ap, sym, subst, map}
use Rattle.std.proofs.lemmas.List.{map_push}
use Rattle.std.proofs.lemmas.List.Elements.{All-push}
use Rattle.stack_core.specs.Reading.{Rest}
use Rattle.sample_tables.specs.Rows.{ToldRows}
use Rattle.ring_collect.specs.checked.Numbering.{told_of, with_waiting}
use Rattle.std.proofs.lemmas.Result.{IfOk-from_err}
use Rattle.ring_collect.proofs.sample_runs.number_all.Goals as goal

pub loop-reader-preserved : goal.loop-reader-preserved
loop-reader-preserved g c =
    let so_far = c.loop-reader.invariant in
    let rest = g.R.SampleReader.rest in
    let numbering = c.of.result in
    let pushed = c.in_ok-push.ensures.items in
    let fresh = c.of.ensures in
    let named : told_of numbering.names numbering.stacks ≡ record { names = []; stacks = [] } =
    ap (λ names. told_of names numbering.stacks) fresh.names ∙ ap (λ (stacks : List (List ℕ)). let told : ToldRows = record { names = []; stacks = stacks } in told) fresh.stacks in
    record {
      rests = ap (map (λ one. with_waiting one.waiting (rest one.reader))) pushed
          ∙ map_push (λ one. with_waiting one.waiting (rest one.reader)) c.loop-reader.all.items numbering
          ∙ ap (λ rests. rests ++ with_waiting numbering.waiting (rest numbering.reader) ∷ []) so_far.rests
          ∙ ap (λ (last : Rest). map rest c.loop-reader.yielded ++ last ∷ []) (ap (λ waiting. with_waiting waiting (rest numbering.reader)) fresh.waiting ∙ ap rest fresh.reader)
          ∙ sym (map_push rest c.loop-reader.yielded c.in-Some.reader);
      nothing_told = subst (All (λ one. told_of one.names one.stacks ≡ record { names = []; stacks = [] })) (sym pushed)
          (All-push (λ one. told_of one.names one.stacks ≡ record { names = []; stacks = [] }) c.loop-reader.all.items numbering so_far.nothing_told named);
    }

pub returns-in_err-all : goal.returns-in_err-all
returns-in_err-all g c = search (rules, IfOk-from_err)

pub returns-in_err-push : goal.returns-in_err-push
returns-in_err-push g c = search (rules, IfOk-from_err)

use Rattle.std.proofs.lemmas.Result.{IfOk-from_err}
use Rattle.std.proofs.lemmas.Grind.{common_steps}
use Rattle.std.proofs.Common.{◌≡◌, ◌+◌, ◌++◌, ◌∷◌, [], ℕ, List, length, length-append, sym, ◌∙◌, ap, subst, arith, rules}
use Rattle.profile_tables.specs.Samples.{stack_of_ids}
use Rattle.profile_tables.specs.checked.Frames.{frames_at}
use Rattle.profile_tables.specs.checked.FrameNumbers.{IsNumbered}
use Rattle.profile_tables.specs.checked.Tellers.{AreSpellings, Remembers}
use Rattle.profile_tables.proofs.RowLemmas.{spellings-named, spellings-told}
use Rattle.profile_tables.proofs.tellers.Teller.tell.Goals as goal

pub returns-in_err-row-clause-teller : goal.returns-in_err-row-clause-teller
returns-in_err-row-clause-teller c = record {
  numbers = c.row_of.ensures.known;
  count = c.requires.teller.count;
  spellings = spellings-named c.args.file.now c.args.frames.now c.args.self.now.numbers.table c.row_of.new.self.table c.args.self.now.told c.args.self.now.spellings
      c.row_of.ensures.grows c.requires.teller.spellings;
}

pub returns-in_err-names-clause-teller : goal.returns-in_err-names-clause-teller
returns-in_err-names-clause-teller c = record {
  numbers = c.row_of.ensures.known;
  count = c.requires.teller.count;
  spellings = spellings-named c.args.file.now c.args.frames.now c.args.self.now.numbers.table c.row_of.new.self.table c.args.self.now.told c.args.self.now.spellings
      c.row_of.ensures.grows c.requires.teller.spellings;
}

pub returns-in_err-remember-clause-teller : goal.returns-in_err-remember-clause-teller
returns-in_err-remember-clause-teller c = record {
  numbers = c.row_of.ensures.known;
  count = c.requires.teller.count;
  spellings =
      subst (AreSpellings c.args.file.now c.args.frames.now (record { names = c.row_of.new.self.table; stacks = c.args.self.now.told })) (sym c.in_err-remember.ensures.refused)
      (spellings-named c.args.file.now c.args.frames.now c.args.self.now.numbers.table c.row_of.new.self.table c.args.self.now.told c.args.self.now.spellings
      c.row_of.ensures.grows c.requires.teller.spellings);
}

pub returns-clause-teller : goal.returns-clause-teller
returns-clause-teller c =
    let file = c.args.file.now in
    let frames = c.args.frames.now in
    let ids = c.args.sample.now.ids.items in
    let names = c.row_of.new.self.table in
    let before = c.args.self.now.numbers.table in
    let stacks = c.args.self.now.told in
    let pushed : c.push.new.self ≡ stacks ++ c.in_ok-row.row.items ∷ [] =
    c.push.ensures ∙ ap (λ row. stacks ++ row ∷ []) c.of-frames.ensures in
    let numbered : IsNumbered before (stack_of_ids (frames_at frames) ids) names c.in_ok-row.row.items =
    subst (λ list. IsNumbered before (stack_of_ids (frames_at frames) list) names c.in_ok-row.row.items) c.deref.ensures.value c.in_ok-row.ensures.row in
    let remembers : Remembers c.args.run (length stacks) c.args.self.now.spellings c.remember.new.spellings =
    subst (λ row. Remembers c.args.run row c.args.self.now.spellings c.remember.new.spellings) c.requires.teller.count c.in_ok-remember.ensures.ok in
    let size : length c.push.new.self ≡ length stacks + 1 = ap (λ (list : List (List ℕ)). length list) pushed ∙ length-append stacks (c.in_ok-row.row.items ∷ []) in
    record {
      numbers = c.row_of.ensures.known;
      count = ap (λ n. n + 1) c.requires.teller.count ∙ sym size;
      spellings =
          subst (λ list. AreSpellings file frames (record { names = names; stacks = list }) c.remember.new.spellings) (sym pushed)
          (spellings-told file frames before names stacks ids c.in_ok-row.row.items c.args.run c.args.self.now.spellings c.remember.new.spellings
          c.requires.run c.requires.known c.requires.depth c.row_of.ensures.grows numbered remembers c.requires.teller.spellings);
    }

pub row_of-requires : goal.row_of-requires
row_of-requires c = search rules

pub returns-in_err-row-clause-told : goal.returns-in_err-row-clause-told
returns-in_err-row-clause-told c = IfOk-from_err _ _ c.from_residual.ensures.0

pub returns-in_err-row-clause-weight : goal.returns-in_err-row-clause-weight
returns-in_err-row-clause-weight c = IfOk-from_err _ _ c.from_residual.ensures.0

pub returns-in_err-row-clause-count : goal.returns-in_err-row-clause-count
returns-in_err-row-clause-count c = search rules

pub returns-in_err-row-clause-stacks : goal.returns-in_err-row-clause-stacks
returns-in_err-row-clause-stacks c = search rules

pub returns-in_err-row-clause-names : goal.returns-in_err-row-clause-names
returns-in_err-row-clause-names c = search rules

pub returns-in_err-names-clause-told : goal.returns-in_err-names-clause-told
returns-in_err-names-clause-told c = IfOk-from_err _ _ c.from_residual-in_err-names.ensures.0

pub returns-in_err-names-clause-weight : goal.returns-in_err-names-clause-weight
returns-in_err-names-clause-weight c = IfOk-from_err _ _ c.from_residual-in_err-names.ensures.0

pub returns-in_err-names-clause-count : goal.returns-in_err-names-clause-count
returns-in_err-names-clause-count c = search rules

pub returns-in_err-names-clause-stacks : goal.returns-in_err-names-clause-stacks
returns-in_err-names-clause-stacks c = search rules

pub returns-in_err-names-clause-names : goal.returns-in_err-names-clause-names
returns-in_err-names-clause-names c = search rules

pub remember-requires : goal.remember-requires
remember-requires c = search rules

pub returns-in_err-remember-clause-told : goal.returns-in_err-remember-clause-told
returns-in_err-remember-clause-told c = IfOk-from_err _ _ c.from_residual-in_err-remember.ensures.0

pub returns-in_err-remember-clause-weight : goal.returns-in_err-remember-clause-weight
returns-in_err-remember-clause-weight c = IfOk-from_err _ _ c.from_residual-in_err-remember.ensures.0

pub returns-in_err-remember-clause-count : goal.returns-in_err-remember-clause-count
returns-in_err-remember-clause-count c = search rules

pub returns-in_err-remember-clause-stacks : goal.returns-in_err-remember-clause-stacks
returns-in_err-remember-clause-stacks c = search rules

pub returns-in_err-remember-clause-names : goal.returns-in_err-remember-clause-names
returns-in_err-remember-clause-names c = search rules

pub overflow_add-self : goal.overflow_add-self
overflow_add-self c = search rules

pub returns-clause-weight : goal.returns-clause-weight
returns-clause-weight c = search rules

pub returns-clause-count : goal.returns-clause-count
returns-clause-count c = search rules

pub returns-clause-stacks : goal.returns-clause-stacks
returns-clause-stacks c = search rules

pub returns-clause-names : goal.returns-clause-names
returns-clause-names c = search rules

pub names_from-requires : goal.names_from-requires
names_from-requires c = grind (arith, common_steps)

pub returns-clause-told : goal.returns-clause-told
returns-clause-told c = grind (arith, common_steps)

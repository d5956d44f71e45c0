use Rattle.std.proofs.Common.{◌≡◌, ◌∙◌, ◌++◌, ◌∷◌, [], List, All, ap, length, map, subst, sym}
use Rattle.std.specs.Vec.Iter.{into_iter_items}
use Rattle.std.proofs.lemmas.List.{map_push}
use Rattle.std.proofs.lemmas.Option.{get_or_from_slice_get}
use Rattle.ring_collect.proofs.RunningSourceLemmas.{taken_fewer, taken_next}
use Rattle.sample_tables.specs.Rows.{ToldRows}
use Rattle.stack_core.specs.Reading.{Rest}
use Rattle.stack_core.specs.RowSamples.{left_with}
use Rattle.source_lists.specs.checked.Readers.{naming_rest, reader_rest, reader_told}
use Rattle.source_lists.specs.declared.source_reader.SourceReader.{SourceReader}
use Rattle.source_lists.proofs.source_readers.naming_readers.Goals as goal

-- a reader that told nothing
pub of-requires : goal.of-requires
of-requires c =
    let reader = c.in-Some.reader in
    let all = c.into_iter-reader-iterator.result in
    let before = c.loop-reader.yielded in
    let fewer = taken_fewer all before c.loop-reader.reader-iterator c.loop-reader.yielded_by reader _ c.in-Some.ensures.steps.0 in
    let next = taken_next all before c.loop-reader.reader-iterator c.loop-reader.yielded_by reader _ c.in-Some.ensures.steps.0 in
    let gives : into_iter_items all ≡ c.args.readers.items = c.into_iter-reader-iterator.ensures.into_iter_gives.0 in
    let told : reader_told reader ≡ record { names = []; stacks = [] } =
    subst (λ (one : SourceReader). reader_told one ≡ record { names = []; stacks = [] }) (get_or_from_slice_get (into_iter_items all) (length before) reader reader next)
    (subst (λ (readers : List SourceReader). All (λ one. reader_told one ≡ record { names = []; stacks = [] }) readers) (sym gives) c.requires (length before) reader fewer) in
    ap (λ (told : ToldRows). told.stacks) told

pub loop-reader-preserved : goal.loop-reader-preserved
loop-reader-preserved c =
    let reader = c.in-Some.reader in
    let new = c.of.ensures in
    let same : naming_rest c.of.result ≡ reader_rest reader =
    λ i. left_with (reader_told (new.reader i)).names (new.samples i).awaited (reader_rest (new.reader i)) in
    ap (map naming_rest) c.in_ok-push.ensures.items
    ∙ (map_push naming_rest c.loop-reader.all.items c.of.result
    ∙ (ap (λ (rests : List Rest). rests ++ naming_rest c.of.result ∷ []) c.loop-reader.invariant
    ∙ (ap (λ (rest : Rest). map reader_rest c.loop-reader.yielded ++ rest ∷ []) same
    ∙ sym (map_push reader_rest c.loop-reader.yielded reader))))

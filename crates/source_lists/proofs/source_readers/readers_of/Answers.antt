use Rattle.std.proofs.Common.{◌≡◌, ◌++◌, ◌∷◌, [], ◌∙◌, sym, ap, subst, All, List, map}
use Rattle.std.proofs.lemmas.List.{map_push}
use Rattle.std.proofs.lemmas.List.Elements.{All-push}
use Rattle.stack_core.specs.Reading.{Rest, IsSourceLimited}
use Rattle.source_lists.specs.Sources.{whole_rest, whole_rests}
use Rattle.source_lists.specs.checked.Readers.{reader_rest, reader_told}
use Rattle.source_lists.specs.declared.source_reader.SourceReader.{SourceReader}
use Rattle.source_lists.proofs.source_readers.readers_of.Goals as goal

pub loop-source-preserved : goal.loop-source-preserved
loop-source-preserved c =
    let options = c.args.options.now in
    let rest_of = whole_rest options in
    let old = c.loop-source.yielded in
    let source = c.in-Some.source in
    let h = c.loop-source.invariant in
    let more : whole_rests options (old ++ source ∷ []) ≡ whole_rests options old ++ rest_of source ∷ [] = map_push rest_of old source in
    record {
      rests =
          ap (map reader_rest) c.in_ok-push.ensures.items
          ∙ (map_push reader_rest c.loop-source.readers.items c.in_ok-over.field-0
          ∙ ((λ i. h.rests i ++ c.in_ok-over.ensures.rest i ∷ []) ∙ sym more));
      limits =
          subst (λ (rests : List Rest). All (λ rest. IsSourceLimited rest.samples) rests) (sym more)
          (All-push (λ rest. IsSourceLimited rest.samples) (whole_rests options old) (rest_of source) h.limits c.in_ok-over.ensures.limits);
      told =
          subst (λ (readers : List SourceReader). All (λ reader. reader_told reader ≡ record { names = []; stacks = [] }) readers) (sym c.in_ok-push.ensures.items)
          (All-push (λ (reader : SourceReader). reader_told reader ≡ record { names = []; stacks = [] }) c.loop-source.readers.items c.in_ok-over.field-0 h.told c.in_ok-over.ensures.told);
    }

-- How many samples of a source were taken, as it is told with its end.
use Rattle.std.proofs.Common.{◌≡◌, ◌<◌, ◌∙◌, ◌++◌, ◌∷◌, [], ℕ, List, ap, arith, get_or, length, sym}
use Rattle.std.proofs.lemmas.List.{length-map, map_push, take_all}
use Rattle.std.proofs.lemmas.List.FromFn.{get_or-map-range_with_len, length-map-range_with_len}
use Rattle.sample_tables.specs.declared.samples.Sample.{Sample}
use Rattle.stack_core.specs.Interleaving.{count_of, counts_at, of_source, sources_of}
use Rattle.stack_core.proofs.InterleavingLemmas.{length-of_source}
use Rattle.live_lines.specs.Ends.{ToldEnd, heard_of, heard_of_each}
use Rattle.live_lines.specs.Lines.{live_counts}

count_is : (sources source : ℕ) (pairs : List (ℕ × Sample)) → source < sources → get_or (live_counts sources pairs (length pairs)) source 0 ≡ length (of_source source pairs)
count_is sources source pairs below =
    get_or-map-range_with_len (counts_at (length pairs) (sources_of pairs)) 0 sources source source 0 below (omega arith)
    ∙ (ap (count_of source) (take_all (length pairs) (sources_of pairs) (omega (arith, length-map pairs (λ pair. pair.0)))) ∙ sym (length-of_source source pairs))

pub as_many_counts : (sources : ℕ) (pairs : List (ℕ × Sample)) (counts : List ℕ) → counts ≡ live_counts sources pairs (length pairs) → length counts ≡ sources
as_many_counts sources pairs counts are = ap length are ∙ length-map-range_with_len (counts_at (length pairs) (sources_of pairs)) 0 sources

-- an end that is told is heard of, with how many samples of its source were taken
pub heard_more : (sources : ℕ) (pairs : List (ℕ × Sample)) (counts : List ℕ) (told told' : List ToldEnd) (end : ToldEnd) → end.source < sources → counts ≡ live_counts sources pairs (length pairs)
    → end.count ≡ get_or counts end.source 0 → told' ≡ told ++ end ∷ [] → heard_of_each told' ≡ heard_of_each told ++ (end.source, (end.ending, length (of_source end.source pairs))) ∷ []
heard_more sources pairs counts told told' end below are counted is =
    let count = counted ∙ ap (λ counts. get_or counts end.source 0) are ∙ count_is sources end.source pairs below in
    ap heard_of_each is ∙ (map_push heard_of told end ∙ ap (λ count. heard_of_each told ++ (end.source, (end.ending, count)) ∷ []) count)

-- Readers of the parts of a text give what the whole stands for.
use Rattle.std.proofs.Common.{◌≡◌, ℕ, ◌+◌, ◌≤◌, List, [], ◌∷◌, ◌++◌, append_assoc, map, take, drop, sum_by, All, refl, sym, ap, subst, ◌∙◌}
use Rattle.std.specs.List.{concat}
use Rattle.std.proofs.lemmas.List.{append-nil, take-append-drop}
use Rattle.std.proofs.lemmas.List.Elements.{All-nil, All-cons, All-head, All-tail}
use Rattle.std.proofs.lemmas.List.Folds.{flat_map-map}
use Rattle.std.proofs.lemmas.List.Sums.{sum_by-cons}
use Rattle.sample_tables.specs.Samples.{total_weight}
use Rattle.sample_tables.specs.declared.samples.TheConstants.{WEIGHT_LIMIT}
use Rattle.sample_tables.specs.declared.samples.Sample.{Sample}
use Rattle.stack_core.specs.Parts.{ignored_of, joined, IsClean, ReadsInParts}
use Rattle.stack_core.specs.Parts as rests
use Rattle.stack_core.specs.Reading.{Rest}
use Rattle.stack_core.specs.declared.endings.SourceEnd.TheVariants as ends
use Rattle.folded_lines.specs.Reading.{read_folded}
use Rattle.folded_lines.specs.TextParts.{IsWholeLines, AreCutAtLines, IsFaultless, samples_of_parts}
use Rattle.folded_lines.proofs.PartReading.{faultless_parts}

clean_texts : (parts : List (List ℕ)) → All IsClean (map read_folded parts) → All IsFaultless parts
clean_texts [] clean = All-nil IsFaultless
clean_texts (part ∷ parts) clean =
    All-cons IsFaultless part parts (All-head IsClean (read_folded part) (map read_folded parts) clean)
    (clean_texts parts (All-tail IsClean (read_folded part) (map read_folded parts) clean))

ignored_in_all : (parts : List (List ℕ)) → sum_by (λ (part : Rest). ignored_of part.ending) (map read_folded parts) ≡ sum_by (λ part. ignored_of (read_folded part).ending) parts
ignored_in_all [] = refl
ignored_in_all (part ∷ parts) =
    sum_by-cons (λ (part : Rest). ignored_of part.ending) (read_folded part) (map read_folded parts)
    ∙ ap (λ n. ignored_of (read_folded part).ending + n) (ignored_in_all parts)
    ∙ sym (sum_by-cons (λ part. ignored_of (read_folded part).ending) part parts)

pub parts_read : (parts : List (List ℕ)) → AreCutAtLines parts → ReadsInParts (read_folded (concat parts)) (map read_folded parts)
parts_read parts cut clean fits =
    let same : rests.samples_of_parts (map read_folded parts) ≡ samples_of_parts parts = flat_map-map (λ (part : Rest). part.samples) read_folded parts in
    let reads = faultless_parts parts cut (clean_texts parts clean) (subst (λ (samples : List Sample). total_weight samples ≤ WEIGHT_LIMIT) same fits) in
    λ i. record { samples = (reads.samples ∙ sym same) i; ending = (reads.ending ∙ ap ends.Clean (sym (ignored_in_all parts))) i }

-- ---- cutting

-- the last part may be anything
pub cut_before : (parts : List (List ℕ)) (last : List ℕ) → All IsWholeLines parts → AreCutAtLines (parts ++ last ∷ [])
cut_before [] last whole = tt
cut_before (part ∷ []) last whole = (All-head IsWholeLines part [] whole, tt)
cut_before (part ∷ next ∷ parts) last whole =
    (All-head IsWholeLines part (next ∷ parts) whole, cut_before (next ∷ parts) last (All-tail IsWholeLines part (next ∷ parts) whole))

pub concat_push : (parts : List (List ℕ)) (last : List ℕ) → concat (parts ++ last ∷ []) ≡ concat parts ++ last
concat_push [] last = append-nil last
concat_push (part ∷ parts) last = ap (λ rest. part ++ rest) (concat_push parts last) ∙ sym (append_assoc part (concat parts) last)

-- one part more is cut off
pub whole_with : (parts all : List (List ℕ)) (text left last rest : List ℕ) (n : ℕ) → concat parts ++ left ≡ text → last ≡ take n left → rest ≡ drop n left → all ≡ parts ++ last ∷ [] → concat all ++ rest ≡ text
whole_with parts all text left last rest n so_far front behind more =
    (λ i. concat (more i) ++ behind i)
    ∙ (ap (λ t. t ++ drop n left) (concat_push parts last)
    ∙ (append_assoc (concat parts) last (drop n left)
    ∙ (ap (λ t. concat parts ++ (t ++ drop n left)) front ∙ (ap (λ t. concat parts ++ t) (take-append-drop n left) ∙ so_far))))

-- what is left is the last part
pub whole_at_end : (parts all : List (List ℕ)) (text last : List ℕ) → concat parts ++ last ≡ text → all ≡ parts ++ last ∷ [] → concat all ≡ text
whole_at_end parts all text last so_far more = ap concat more ∙ (concat_push parts last ∙ so_far)

-- The lines of merged stacks, name by name and stack by stack.
use Rattle.std.proofs.Common.{◌≡◌, ℕ, zero, suc, ◌+◌, ◌-◌, ◌<◌, ◌≤◌, List, [], ◌∷◌, ◌++◌, ltb, length, map, take, get_or, All, T, append_assoc, refl, sym, ap, ◌∙◌, arith}
use Rattle.std.specs.List.{join_with_byte, AllByRecursion}
use Rattle.std.proofs.lemmas.List.{take_more, length-take-le, take-map, length-append, length-map, get_or-map}
use Rattle.std.proofs.lemmas.List.Elements.{recursion_from_All}
use Rattle.std.proofs.lemmas.Bool.{lt-ltb}
use Rattle.sample_tables.specs.declared.samples.Sample.{Sample}
use Rattle.sample_tables.specs.Rows.{name_at}
use Rattle.folded_lines.specs.Writing.{column_of, line_of, pair_line_of}
use Rattle.folded_lines.proofs.JoinLemmas.{join_with_byte-push}
use Rattle.merged_stacks.specs.Timeline.{Stack}
use Rattle.flame_layout.specs.Paths.{SameOwn}
use Rattle.merged_stacks.specs.Merged.{weighed as all_weighed, Weighed, are_in_order}
use Rattle.flame_layout.proofs.MergedSums.{same_rows}
use Rattle.merged_stacks.proofs.JoinedStacks.{rows_merged}
use Rattle.view_texts.specs.Fold.{lines_of, fold_text}
use Rattle.view_texts.specs.checked.Joined.{joint, joined_names}

-- one name more
pub joined_more : (stack : Stack) (i : ℕ) → i < length stack → join_with_byte 59 (take (i + 1) stack) ≡ join_with_byte 59 (take i stack) ++ joint (ltb 0 i) (get_or stack i [])
joined_more stack i lt = ap (join_with_byte 59) (take_more stack i [] lt) ∙ by (take i stack) i (length-take-le i stack (omega arith))
  where
    by : (front : Stack) (n : ℕ) → length front ≡ n → join_with_byte 59 (front ++ get_or stack i [] ∷ []) ≡ join_with_byte 59 front ++ joint (ltb 0 n) (get_or stack i [])
    by [] zero e = refl
    by [] (suc n) e = absurd (omega arith)
    by (x ∷ front) zero e = absurd (omega arith)
    by (x ∷ front) (suc n) e = join_with_byte-push 59 x front (get_or stack i []) ∙ ap (λ b. join_with_byte 59 (x ∷ front) ++ joint b (get_or stack i [])) (sym (lt-ltb 0 (suc n) (omega arith)))

-- the name of a rank as it is joined
abbrev pub joint_at : List (List ℕ) → List ℕ → ℕ → List ℕ
joint_at names ranks i = joint (ltb 0 i) (name_at names (get_or ranks i 0))

-- one rank more
pub ranks_joined_more : (names : List (List ℕ)) (ranks : List ℕ) (i : ℕ) → i < length ranks
    → joined_names names (take (i + 1) ranks) ≡ joined_names names (take i ranks) ++ joint_at names ranks i
ranks_joined_more names ranks i lt =
    ap (join_with_byte 59) (sym (take-map (name_at names) (i + 1) ranks))
    ∙ joined_more (map (name_at names) ranks) i (omega (arith, lt, length-map ranks (name_at names)))
    ∙ (λ k. join_with_byte 59 (take-map (name_at names) i ranks k) ++ joint (ltb 0 i) (get_or-map (name_at names) ranks i 0 [] lt k))

-- and one rank less
pub ranks_joined_less : (names : List (List ℕ)) (ranks : List ℕ) (kept : ℕ) → 0 < kept → kept ≤ length ranks
    → joined_names names (take kept ranks) ≡ joined_names names (take (kept - 1) ranks) ++ joint_at names ranks (kept - 1)
ranks_joined_less names ranks kept some within =
    let one : kept ≡ kept - 1 + 1 = omega arith in
    ap (λ n. joined_names names (take n ranks)) one ∙ ranks_joined_more names ranks (kept - 1) (omega arith)

pub length-ranks_joined : (names : List (List ℕ)) (ranks : List ℕ) (kept : ℕ) → 0 < kept → kept ≤ length ranks
    → length (joined_names names (take kept ranks))
    ≡ length (joined_names names (take (kept - 1) ranks)) + length (joint_at names ranks (kept - 1))
length-ranks_joined names ranks kept some within =
    ap length (ranks_joined_less names ranks kept some within) ∙ length-append (joined_names names (take (kept - 1) ranks)) _

-- the names of a stack, two weights and LF are its line
pub pair_line_written : (shown stack : Stack) (one other before after : ℕ) (start named first second new : List ℕ) → shown ≡ stack → one ≡ before → other ≡ after
    → named ≡ start ++ join_with_byte 59 shown → first ≡ named ++ column_of one → second ≡ first ++ column_of other → new ≡ second ++ 10 ∷ []
    → new ≡ start ++ pair_line_of stack before after
pair_line_written shown stack one other before after start named first second new same weighs against names column later end =
    let pair = column_of after ++ 10 ∷ [] in
    end ∙ ap (λ text. text ++ 10 ∷ []) (later ∙ (λ i. (column ∙ (λ j. (names ∙ ap (λ shown. start ++ join_with_byte 59 shown) same) j ++ column_of (weighs j))) i ++ column_of (against i)))
    ∙ append_assoc ((start ++ join_with_byte 59 stack) ++ column_of before) (column_of after) (10 ∷ [])
    ∙ append_assoc (start ++ join_with_byte 59 stack) (column_of before) pair
    ∙ append_assoc start (join_with_byte 59 stack) (column_of before ++ pair)

abbrev line : Weighed → List ℕ
line row = line_of row.0 row.1

-- the lines of merged stacks are the text of all samples that have their sums
pub merged_text : (stacks samples : List Sample) → T (are_in_order (all_weighed stacks)) → All (λ sample. 0 < sample.weight) stacks → SameOwn samples stacks → lines_of (all_weighed stacks) ≡ fold_text samples
merged_text stacks samples ordered positive same =
    ap lines_of (rows_merged (all_weighed stacks) (all_weighed stacks) ordered (each stacks (recursion_from_All (λ (sample : Sample). 0 < sample.weight) stacks positive)) (λ q. refl) ∙ sym (same_rows samples stacks same))
  where
    each : (all : List Sample) → AllByRecursion (λ sample. 0 < sample.weight) all → AllByRecursion (λ row. 0 < row.1) (all_weighed all)
    each [] h = tt
    each (s ∷ all) h = (h.0, each all h.1)

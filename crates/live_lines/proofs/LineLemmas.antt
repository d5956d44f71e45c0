-- The lines of one sample more.
use Rattle.std.proofs.Common.{◌≡◌, ◌∙◌, ◌≤◌, ◌+◌, ◌*◌, ◌%◌, ◌&&◌, inl, inr, nat_eq, eq-eqb, ◌++◌, ◌∷◌, [], ℕ, suc, Bool, true, false, List, append-nil, ap, arith, cond, length, map, nat_lt, refl, sym, take, All}
use Rattle.std.specs.Prelude.{Option, None, Some, is_none}
use Rattle.byte_io.specs.declared.piece_output.PieceFault.{PieceFault}
use Rattle.std.specs.List.{flat_map, range_with_len}
use Rattle.std.proofs.Math.Nat.{mod_self, zero-div}
use Rattle.std.proofs.lemmas.Bool.{cases_eq, cases_lt, false≢true}
use Rattle.std.proofs.lemmas.Grind.{flat_map-append}
use Rattle.std.proofs.lemmas.List.{length_push, take-append-le, take-map}
use Rattle.std.proofs.lemmas.List.Elements.{All-weaker}
use Rattle.sample_tables.specs.declared.samples.Sample.{Sample}
use Rattle.stack_core.specs.Interleaving.{count_of, sources_of}
use Rattle.merged_stacks.specs.Timeline.{total_weight}
use Rattle.flame_layout.specs.Graph.{graph_of}
use Rattle.view_texts.specs.Json.{snapshot_line}
use Rattle.merging.specs.Snapshots.{samples_of_pairs, snapshot_places}
use Rattle.merging.specs.checked.Merging.{is_due}
use Rattle.merging.proofs.SnapshotLemmas.{places-push, places_within}
use Rattle.page_texts.specs.Document.{document_text}
use Rattle.source_views.specs.Pages.{growing_page}
use Rattle.live_lines.specs.Frames.{frame_at, frame_of}
use Rattle.live_lines.specs.Lines.{live_line_at, live_lines, moment_at}
use Rattle.live_lines.specs.declared.form.LiveForm.{LiveForm}
use Rattle.live_lines.specs.declared.form.LiveForm.TheVariants.{Lines, Pages, Table}

-- a line is of the first samples alone
line_kept : (sources width : ℕ) (pairs more : List (ℕ × Sample)) (m : ℕ) → m ≤ length pairs → live_line_at sources width (pairs ++ more) m ≡ live_line_at sources width pairs m
line_kept sources width pairs more m within = λ i. line (order i) (front i)
  where
    line : List ℕ → List (ℕ × Sample) → List ℕ
    line order firsts =
        let samples = samples_of_pairs firsts in
        snapshot_line m (map (λ source. count_of source order) (range_with_len 0 sources)) (total_weight samples) width (graph_of samples)

    front : take m (pairs ++ more) ≡ take m pairs
    front = take-append-le m pairs more within

    order : take m (sources_of (pairs ++ more)) ≡ take m (sources_of pairs)
    order = take-map (λ pair. pair.0) m (pairs ++ more) ∙ (ap sources_of front ∙ sym (take-map (λ pair. pair.0) m pairs))

-- and so is a frame
frame_kept : (every sources : ℕ) (pairs more : List (ℕ × Sample)) (m : ℕ) → m ≤ length pairs → frame_at every sources (pairs ++ more) m ≡ frame_at every sources pairs m
frame_kept every sources pairs more m within = ap (λ (firsts : List (ℕ × Sample)). frame_of (nat_lt every m) m sources (samples_of_pairs firsts)) (take-append-le m pairs more within)

moment_kept : (form : LiveForm) (sources width : ℕ) (pairs more : List (ℕ × Sample)) (m : ℕ) → m ≤ length pairs → moment_at form sources width (pairs ++ more) m ≡ moment_at form sources width pairs m
moment_kept Lines sources width pairs more m within = line_kept sources width pairs more m within
moment_kept Pages sources width pairs more m within = ap (λ (firsts : List (ℕ × Sample)). document_text (growing_page true (samples_of_pairs firsts))) (take-append-le m pairs more within)
moment_kept (Table every) sources width pairs more m within = frame_kept every sources pairs more m within

flat_map_agree : (f g : ℕ → List ℕ) (xs : List ℕ) → All (λ x. f x ≡ g x) xs → flat_map f xs ≡ flat_map g xs
flat_map_agree f g [] h = refl
flat_map_agree f g (x ∷ xs) h = λ i. h 0 x (omega arith) i ++ flat_map_agree f g xs (λ k d l. h (suc k) d (omega (arith, l))) i

due_line : (f : ℕ → List ℕ) (m : ℕ) (due : Bool) → flat_map f (cond due (m ∷ []) []) ≡ cond due (f m) []
due_line f m true = append-nil (f m)
due_line f m false = refl

-- the lines of one sample more, and the one that is due then
pub lines_push : (form : LiveForm) (sources width every : ℕ) (pairs : List (ℕ × Sample)) (pair : ℕ × Sample) → 1 ≤ every
    → live_lines form sources width every (pairs ++ pair ∷ [])
    ≡ live_lines form sources width every pairs ++ cond (is_due (Some every) (length (pairs ++ pair ∷ []))) (moment_at form sources width (pairs ++ pair ∷ []) (length (pairs ++ pair ∷ []))) []
lines_push form sources width every pairs pair some =
    ap (λ k. flat_map line (snapshot_places (Some every) k)) long
    ∙ ap (flat_map line) (places-push (Some every) (length pairs) some)
    ∙ flat_map-append line (snapshot_places (Some every) (length pairs)) (cond (is_due (Some every) (length pairs + 1)) ((length pairs + 1) ∷ []) [])
    ∙ (λ i. before i ++ last i)
  where
    line : ℕ → List ℕ
    line m = moment_at form sources width (pairs ++ pair ∷ []) m

    long : length (pairs ++ pair ∷ []) ≡ length pairs + 1
    long = length_push pairs pair

    before : flat_map line (snapshot_places (Some every) (length pairs)) ≡ live_lines form sources width every pairs
    before =
        flat_map_agree line (moment_at form sources width pairs) (snapshot_places (Some every) (length pairs))
        (All-weaker (λ m. m ≤ length pairs) (λ m. line m ≡ moment_at form sources width pairs m) (moment_kept form sources width pairs (pair ∷ [])) (snapshot_places (Some every) (length pairs)) (places_within (Some every) (length pairs)))

    last : flat_map line (cond (is_due (Some every) (length pairs + 1)) ((length pairs + 1) ∷ []) []) ≡ cond (is_due (Some every) (length (pairs ++ pair ∷ []))) (line (length (pairs ++ pair ∷ []))) []
    last = due_line line (length pairs + 1) (is_due (Some every) (length pairs + 1)) ∙ ap (λ k. cond (is_due (Some every) k) (line k) []) (sym long)

-- the same, of what was taken
pub lines_more : (form now_form : LiveForm) (sources width every now : ℕ) (pairs taken : List (ℕ × Sample)) (pair : ℕ × Sample) → 1 ≤ every → now_form ≡ form → now ≡ sources → taken ≡ pairs ++ pair ∷ []
    → live_lines now_form now width every taken ≡ live_lines form sources width every pairs ++ cond (is_due (Some every) (length taken)) (moment_at now_form now width taken (length taken)) []
lines_more form now_form sources width every now pairs taken pair some formed of is =
    (λ i. live_lines (formed i) (of i) width every (is i))
    ∙ lines_push form sources width every pairs pair some
    ∙ (λ i. live_lines form sources width every pairs ++ cond (is_due (Some every) (length (sym is i))) (moment_at (sym formed i) (sym of i) width (sym is i) (length (sym is i))) [])

-- there are none of no samples
pub lines_none : (form : LiveForm) (sources width every : ℕ) (pairs : List (ℕ × Sample)) → pairs ≡ [] → live_lines form sources width every pairs ≡ []
lines_none form sources width every pairs none =
    ap (live_lines form sources width every) none
    ∙ ap (λ n. flat_map (moment_at form sources width []) (map (λ i. i * every) (range_with_len 1 n))) (zero-div every)

-- where no line is due now, one was due before if one was due at all
pub due_before : (every before now : ℕ) (failure : Option PieceFault) → now ≡ before + 1 → failure ≡ None → (is_none failure && is_due (Some every) now) ≡ false → every ≤ now → every ≤ before
due_before every before now failure next none idle some = elim (cases_eq every now) [
  | inl same ↦
      let due : nat_eq (now % every) 0 ≡ true = ap (λ k. nat_eq (k % every) 0) (sym same) ∙ eq-eqb (every % every) 0 (mod_self every) in
      let yes : (is_none failure && nat_eq (now % every) 0) ≡ true = (λ i. is_none (none i) && due i) in
      absurd (false≢true (sym idle ∙ yes))
  | inr apart ↦ below apart
]
  where
    below : (every ≡ now → ⊥) → every ≤ before
    below apart = elim (cases_lt before every) [ inl above ↦ absurd (apart (omega (arith, above, some, next))) | inr within ↦ within ]

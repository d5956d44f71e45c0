-- What a teller told stays told, and what one more stack adds.
use Rattle.std.proofs.Common.{◌≡◌, ℕ, ◌+◌, ◌<◌, ◌≤◌, List, [], ◌∷◌, ◌++◌, length, All, Option, Some, None, false, inl, inr, get_or, refl, sym, ◌∙◌, ap, subst, arith, length-append, append-nil, ◌-◌}
use Rattle.std.specs.Prelude.{is_none, slice_range, IfSome}
use Rattle.std.specs.List.{list_any}
use Rattle.std.proofs.lemmas.List.{get_or_append_left, get_or-append_right}
use Rattle.std.proofs.lemmas.List.Elements.{All-append, All-cons, All-nil, All-weaker}
use Rattle.sample_tables.specs.declared.samples.TheConstants.{FRAME_LIMIT}
use Rattle.stack_core.specs.Prefixes.{IsPrefixOf}
use Rattle.stack_core.specs.Records.{names_at}
use Rattle.sample_tables.specs.Rows.{stack_at}
use Rattle.call_tree.specs.SpellingCache.{Spelling}
use Rattle.profile_tables.specs.declared.frames.Frames.{Frames}
use Rattle.profile_messages.specs.declared.messages.Span.{Span}
use Rattle.profile_tables.specs.Samples.{stack_of_ids}
use Rattle.profile_tables.specs.checked.Frames.{frames_at}
use Rattle.profile_tables.specs.checked.FrameNumbers.{IsNumbered}
use Rattle.profile_tables.specs.checked.Fronts.{bytes_at}
use Rattle.profile_tables.specs.checked.Tellers.{IsStackOf, AreSpellings, IsRunOf, Remembers}
use Rattle.call_tree.proofs.NameNumbers.{numbers-longer, names_at-longer}

-- a stack that was told keeps its number
stack-kept : (stacks more : List (List ℕ)) (row : ℕ) → row < length stacks → stack_at (stacks ++ more) row ≡ stack_at stacks row
stack-kept stacks more row below = get_or_append_left stacks more [] row below

-- the same spelling, where more was told
told-more : (frames : Frames) (names names' stacks more : List (List ℕ)) (run : List ℕ) (row : ℕ) → IsPrefixOf names names' → IsStackOf frames (record { names = names; stacks = stacks }) run row → IsStackOf frames (record { names = names'; stacks = stacks ++ more }) run row
told-more frames names names' stacks more run row grown is =
    let same : stack_at (stacks ++ more) row ≡ stack_at stacks row = stack-kept stacks more row is.was_told in
    let all : length (stacks ++ more) ≡ length stacks + length more = length-append stacks more in
    let below = is.was_told in
    record {
      no_fault = is.no_fault;
      known = is.known;
      depth = is.depth;
      was_told = omega (arith, all, below);
      within = subst (All (λ number. number < length names')) (sym same) (numbers-longer names names' (stack_at stacks row) grown is.within);
      named = ap (names_at names') same ∙ names_at-longer names names' (stack_at stacks row) grown is.within ∙ is.named;
    }

pub spellings-more : (file : List ℕ) (frames : Frames) (names names' stacks more : List (List ℕ)) (spellings : List Spelling) → IsPrefixOf names names' → AreSpellings file frames (record { names = names; stacks = stacks }) spellings → AreSpellings file frames (record { names = names'; stacks = stacks ++ more }) spellings
spellings-more file frames names names' stacks more spellings grown all =
    All-weaker (λ spelling. IsStackOf frames (record { names = names; stacks = stacks }) (slice_range file spelling.start spelling.end) spelling.row)
    (λ spelling. IsStackOf frames (record { names = names'; stacks = stacks ++ more }) (slice_range file spelling.start spelling.end) spelling.row)
    (λ spelling is. told-more frames names names' stacks more (slice_range file spelling.start spelling.end) spelling.row grown is)
    spellings all

-- the same where no stack was told
pub spellings-named : (file : List ℕ) (frames : Frames) (names names' stacks : List (List ℕ)) (spellings : List Spelling) → IsPrefixOf names names' → AreSpellings file frames (record { names = names; stacks = stacks }) spellings → AreSpellings file frames (record { names = names'; stacks = stacks }) spellings
spellings-named file frames names names' stacks spellings grown all =
    subst (λ list. AreSpellings file frames (record { names = names'; stacks = list }) spellings) (append-nil stacks) (spellings-more file frames names names' stacks [] spellings grown all)

last-stack : (stacks : List (List ℕ)) (row : List ℕ) → stack_at (stacks ++ row ∷ []) (length stacks) ≡ row
last-stack stacks row =
    get_or-append_right stacks (row ∷ []) (length stacks) (length stacks) [] refl (omega arith)
    ∙ ap (λ k. get_or (row ∷ []) k []) (let e : length stacks - length stacks ≡ 0 = omega arith in e)

-- the run of a stack that was told last
told-last : (file : List ℕ) (frames : Frames) (before names stacks : List (List ℕ)) (ids row : List ℕ) (run : Span) → IsRunOf file ids run → list_any (λ id. is_none (frames_at frames id)) ids ≡ false → length (stack_of_ids (frames_at frames) ids) ≤ FRAME_LIMIT → IsNumbered before (stack_of_ids (frames_at frames) ids) names row → IsStackOf frames (record { names = names; stacks = stacks ++ row ∷ [] }) (bytes_at file run) (length stacks)
told-last file frames before names stacks ids row run spelled known depth is =
    let last : stack_at (stacks ++ row ∷ []) (length stacks) ≡ row = last-stack stacks row in
    let all : length (stacks ++ row ∷ []) ≡ length stacks + 1 = length-append stacks (row ∷ []) in
    record {
      no_fault = spelled.no_fault;
      known = ap (list_any (λ id. is_none (frames_at frames id))) spelled.spells ∙ known;
      depth = subst (λ (list : List ℕ). length (stack_of_ids (frames_at frames) list) ≤ FRAME_LIMIT) (sym spelled.spells) depth;
      was_told = omega (arith, all);
      within = subst (All (λ number. number < length names)) (sym last) is.within;
      named = ap (names_at names) last ∙ is.named ∙ ap (stack_of_ids (frames_at frames)) (sym spelled.spells);
    }

-- the spellings behind a stack that is told
pub spellings-told : (file : List ℕ) (frames : Frames) (before names stacks : List (List ℕ)) (ids row : List ℕ) (run : Option Span) (spellings spellings' : List Spelling) → IfSome run (IsRunOf file ids) → list_any (λ id. is_none (frames_at frames id)) ids ≡ false → length (stack_of_ids (frames_at frames) ids) ≤ FRAME_LIMIT → IsPrefixOf before names → IsNumbered before (stack_of_ids (frames_at frames) ids) names row → Remembers run (length stacks) spellings spellings' → AreSpellings file frames (record { names = before; stacks = stacks }) spellings → AreSpellings file frames (record { names = names; stacks = stacks ++ row ∷ [] }) spellings'
spellings-told file frames before names stacks ids row None spellings spellings' spelled known depth grown is remembers all =
    subst (AreSpellings file frames (record { names = names; stacks = stacks ++ row ∷ [] })) (sym remembers)
    (spellings-more file frames before names stacks (row ∷ []) spellings grown all)
spellings-told file frames before names stacks ids row (Some run) spellings spellings' spelled known depth grown is (inl same) all =
    subst (AreSpellings file frames (record { names = names; stacks = stacks ++ row ∷ [] })) (sym same)
    (spellings-more file frames before names stacks (row ∷ []) spellings grown all)
spellings-told file frames before names stacks ids row (Some run) spellings spellings' spelled known depth grown is (inr more) all =
    let one : Spelling = record { start = run.start; end = run.end; row = length stacks } in
    let P : Spelling → Type 0 = λ spelling. IsStackOf frames (record { names = names; stacks = stacks ++ row ∷ [] }) (slice_range file spelling.start spelling.end) spelling.row in
    subst (All P) (sym more)
    (All-append P spellings (one ∷ [])
    (spellings-more file frames before names stacks (row ∷ []) spellings grown all)
    (All-cons P one [] (told-last file frames before names stacks ids row run spelled known depth is) (All-nil P)))

-- Lists that are put together: the items that stand under their numbers.
use Rattle.std.proofs.Common.{◌≡◌, ◌∙◌, ◌<◌, ◌+◌, ℕ, refl, sym, ap, subst, append_assoc, arith, List, [], ◌∷◌, ◌++◌, length, take, map, get_or, All}
use Rattle.std.proofs.lemmas.List.{get_or-map, get_or_append_left, length-append, length-map, map-append, map_push, take_more}
use Rattle.std.proofs.lemmas.List.Elements.{All-head, All-tail, All-map, All-push, All-weaker}
use Rattle.std.specs.Prelude.{slice_index}
use Rattle.sample_tables.specs.Rows.{AreNamed, name_at, named, row_at, row_by, sample_at, stack_at}
use Rattle.stack_core.specs.Ledgers.{LedgerState, ListState}
use Rattle.source_lists.specs.checked.Joining.{AreFound, IsFound, KeepsMore, TellsMore, named_stacks}
use Rattle.source_lists.proofs.KeptLemmas.{taken_again}

-- ---- items under numbers

among_more : {X : Type 0} (none : X) (items more : List X) (numbers : List ℕ) → All (λ number. number < length items) numbers
    → map (λ number. get_or (items ++ more) number none) numbers ≡ map (λ number. get_or items number none) numbers
among_more none items more [] within = refl
among_more none items more (number ∷ numbers) within =
    λ i. get_or_append_left items more none number (All-head (λ number. number < length items) number numbers within) i
    ∷ among_more none items more numbers (All-tail (λ number. number < length items) number numbers within) i

-- items more behind them
pub found_before : {X : Type 0} (none : X) (items more : List X) (numbers : List ℕ) (wanted : List X) → AreFound none items numbers wanted → AreFound none (items ++ more) numbers wanted
found_before none items more numbers wanted found = record {
  within = All-weaker (λ number. number < length items) (λ number. number < length (items ++ more)) (λ number below. omega (arith, below, length-append items more)) numbers found.within;
  same = among_more none items more numbers found.within ∙ found.same;
}

-- a number more
pub found_more : {X : Type 0} (none : X) (items wanted : List X) (numbers : List ℕ) (k number : ℕ) (item : X) → AreFound none items numbers (take k wanted) → IsFound none items number item
    → item ≡ get_or wanted k none → k < length wanted → AreFound none items (numbers ++ number ∷ []) (take (k + 1) wanted)
found_more none items wanted numbers k number item found one is within = record {
  within = All-push (λ number. number < length items) numbers number found.within one.within;
  same =
      map_push (λ number. get_or items number none) numbers number
      ∙ ((λ i. found.same i ++ (one.same ∙ is) i ∷ []) ∙ sym (take_more wanted k none within));
}

pub found_count : {X : Type 0} (none : X) (items wanted : List X) (numbers : List ℕ) → AreFound none items numbers wanted → length numbers ≡ length wanted
found_count none items wanted numbers found =
    sym (length-map numbers (λ number. get_or items number none)) ∙ ap length found.same

found_at : {X : Type 0} (none : X) (items wanted : List X) (numbers : List ℕ) (k : ℕ) → AreFound none items numbers wanted → k < length numbers → get_or items (get_or numbers k 0) none ≡ get_or wanted k none
found_at none items wanted numbers k found within =
    sym (get_or-map (λ number. get_or items number none) numbers k 0 none within)
    ∙ ap (λ items. get_or items k none) found.same

-- ---- what a ledger gains

pub tells_on : (old now new : LedgerState) → TellsMore old now → TellsMore now new → TellsMore old new
tells_on old now new before after = (
  before.0 ++ after.0,
  after.1
      ∙ (ap (λ (ledger : LedgerState). record ledger { told = ledger.told ++ after.0 }) before.1
      ∙ ap (λ (told : List (List ℕ)). record old { told = told }) (append_assoc old.told before.0 after.0)),
)

pub keeps_on : (old now new : LedgerState) → KeepsMore old now → KeepsMore now new → KeepsMore old new
keeps_on old now new before after = (
  before.0 ++ after.0,
  after.1
      ∙ (ap (λ (ledger : LedgerState). record ledger { stacks = ledger.stacks ++ after.0 }) before.1
      ∙ ap (λ (stacks : List (List ℕ)). record old { stacks = stacks }) (append_assoc old.stacks before.0 after.0)),
)

-- ---- names

pub names_more : (old new : LedgerState) (wanted : List (List ℕ)) (numbers : List ℕ) (k number : ℕ) → TellsMore old new → AreFound [] old.told numbers (take k wanted)
    → IsFound [] new.told number (name_at wanted k) → k < length wanted → AreFound [] new.told (numbers ++ number ∷ []) (take (k + 1) wanted)
names_more old new wanted numbers k number tells found one within =
    let told : new.told ≡ old.told ++ tells.0 = ap (λ (ledger : LedgerState). ledger.told) tells.1 in
    let before = subst (λ (told : List (List ℕ)). AreFound [] told numbers (take k wanted)) (sym told) (found_before [] old.told tells.0 numbers (take k wanted) found) in
    found_more [] new.told wanted numbers k number (name_at wanted k) before one refl within

-- ---- stacks

-- the numbers that the names of a stack have now stand for the same names
renamed : (told wanted : List (List ℕ)) (numbers stack : List ℕ) → AreFound [] told numbers wanted → All (λ k. k < length wanted) stack → map (name_at told) (map (slice_index numbers) stack) ≡ map (name_at wanted) stack
renamed told wanted numbers [] found within = refl
renamed told wanted numbers (k ∷ stack) found within =
    let here : k < length wanted = All-head (λ k. k < length wanted) k stack within in
    λ i. found_at [] told wanted numbers k found (omega (arith, here, found_count [] told wanted numbers found)) i
    ∷ renamed told wanted numbers stack found (All-tail (λ k. k < length wanted) k stack within) i

pub renumbered_within : (told wanted : List (List ℕ)) (numbers stack : List ℕ) → AreFound [] told numbers wanted → All (λ k. k < length wanted) stack → All (λ k. k < length told) (map (slice_index numbers) stack)
renumbered_within told wanted numbers stack found within =
    All-map (λ k. k < length told) (slice_index numbers) stack
    (All-weaker (λ k. k < length wanted) (λ k. slice_index numbers k < length told)
    (λ k below. found.within k 0 (omega (arith, below, found_count [] told wanted numbers found)))
    stack within)

pub stacks_more : (old new : LedgerState) (list : ListState) (names numbers stack : List ℕ) (k number : ℕ) → KeepsMore old new → AreFound [] old.told names list.told
    → All (λ k. k < length list.told) (stack_at list.stacks k) → k < length list.stacks → stack ≡ map (slice_index names) (stack_at list.stacks k) → IsFound [] new.stacks number stack
    → AreFound [] (named_stacks old.told old.stacks) numbers (take k (named_stacks list.told list.stacks))
    → AreFound [] (named_stacks new.told new.stacks) (numbers ++ number ∷ []) (take (k + 1) (named_stacks list.told list.stacks))
stacks_more old new list names numbers stack k number keeps told within at is one found =
    let wanted = named_stacks list.told list.stacks in
    let told_is : new.told ≡ old.told = ap (λ (ledger : LedgerState). ledger.told) keeps.1 in
    let stacks_is : new.stacks ≡ old.stacks ++ keeps.0 = ap (λ (ledger : LedgerState). ledger.stacks) keeps.1 in
    let grown : named_stacks new.told new.stacks ≡ named_stacks old.told old.stacks ++ named_stacks old.told keeps.0 =
    (λ i. named_stacks (told_is i) (stacks_is i)) ∙ map-append (λ frames. map (name_at old.told) frames) old.stacks keeps.0 in
    let before = subst (λ (items : List (List (List ℕ))). AreFound [] items numbers (take k wanted)) (sym grown) (found_before [] (named_stacks old.told old.stacks) (named_stacks old.told keeps.0) numbers (take k wanted) found) in
    let here : IsFound [] (named_stacks new.told new.stacks) number (map (name_at new.told) stack) = record {
      within = omega (arith, one.within, length-map new.stacks (λ frames. map (name_at new.told) frames));
      same = get_or-map (λ frames. map (name_at new.told) frames) new.stacks number [] [] one.within ∙ ap (map (name_at new.told)) one.same;
    } in
    let same : map (name_at new.told) stack ≡ get_or wanted k [] =
    (λ i. map (name_at (told_is i)) (is i))
    ∙ (renamed old.told list.told names (stack_at list.stacks k) told within
    ∙ sym (get_or-map (λ frames. map (name_at list.told) frames) list.stacks k [] [] at)) in
    found_more [] (named_stacks new.told new.stacks) wanted numbers k number (map (name_at new.told) stack) before here same (omega (arith, at, length-map list.stacks (λ frames. map (name_at list.told) frames)))

-- ---- samples

pub stack_found : (told stacks : List (List ℕ)) (list : ListState) (numbers : List ℕ) (n : ℕ) → AreFound [] (named_stacks told stacks) numbers (named_stacks list.told list.stacks) → n < length list.stacks
    → (n < length numbers) × (get_or numbers n 0 < length stacks) × (map (name_at told) (stack_at stacks (get_or numbers n 0)) ≡ map (name_at list.told) (stack_at list.stacks n))
stack_found told stacks list numbers n found kept =
    let items = named_stacks told stacks in
    let wanted = named_stacks list.told list.stacks in
    let at : n < length numbers = omega (arith, kept, found_count [] items wanted numbers found, length-map list.stacks (λ frames. map (name_at list.told) frames)) in
    let below : get_or numbers n 0 < length stacks = omega (arith, found.within n 0 at, length-map stacks (λ frames. map (name_at told) frames)) in (
      at,
      below,
      sym (get_or-map (λ frames. map (name_at told) frames) stacks (get_or numbers n 0) [] [] below)
          ∙ (found_at [] items wanted numbers n found at
          ∙ get_or-map (λ frames. map (name_at list.told) frames) list.stacks n [] [] kept),
    )

-- a sample that is taken again by the number that its stack has now
pub taken_found : (told stacks : List (List ℕ)) (list : ListState) (numbers : List ℕ) (i n w : ℕ) → AreNamed list.told list.rows list.samples → i < length list.samples → n < length list.stacks
    → stack_at list.stacks n ≡ (row_at list.rows i).frames → w ≡ (sample_at list.samples i).weight → AreFound [] (named_stacks told stacks) numbers (named_stacks list.told list.stacks)
    → named told (row_by stacks (record { stack = get_or numbers n 0; weight = w })) ≡ sample_at list.samples i
taken_found told stacks list numbers i n w h within kept same weight found =
    (λ j. record { stack = (stack_found told stacks list numbers n found kept).2 j; weight = w })
    ∙ taken_again list i n w h within same weight

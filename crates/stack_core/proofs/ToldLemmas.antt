-- Told lists.
use Rattle.std.proofs.Common.{◌≡◌, ℕ, ◌+◌, zero, suc, length, take, length-append, arith, ◌<◌, List, [], ◌∷◌, ◌++◌, refl, sym, ◌∙◌, ap}
use Rattle.std.specs.Prelude.{Contains}
use Rattle.std.proofs.lemmas.List.{nil_from_length}
use Rattle.stack_core.specs.Reading.{Rest}
use Rattle.sample_tables.specs.declared.samples.Sample.{Sample}
use Rattle.stack_core.specs.declared.endings.SourceEnd.{SourceEnd}
use Rattle.stack_core.specs.declared.endings.Close.{Close}
use Rattle.stack_core.specs.declared.endings.Close.TheVariants as close
use Rattle.stack_core.specs.declared.endings.Item.{Item}
use Rattle.stack_core.specs.declared.endings.Item.TheVariants as item
use Rattle.stack_core.specs.Told.{told, IsToldList, IsToldUnder, IsCollected, told_whole, stopped}

pub told_under_is_told : (may_stop may_go : ℕ → ℕ → Type 0) (source : ℕ) (rest : Rest) (items : List Item) → IsToldUnder may_stop may_go source rest items → IsToldList rest items
told_under_is_told may_stop may_go source rest items (IsToldUnder.Whole go is) = IsToldList.Whole is
told_under_is_told may_stop may_go source rest items (IsToldUnder.StoppedAt i within stop go is) = IsToldList.StoppedAt i within is
told_under_is_told may_stop may_go source rest items (IsToldUnder.ShortOfMemory i within go is) = IsToldList.ShortOfMemory i within is

-- samples and a close tell one list, and one list tells them
pub same_told : (xs ys : List Sample) (c d : Close) → told xs c ≡ told ys d → (xs ≡ ys) × (c ≡ d)
same_told [] [] c d same = (refl, cc)
same_told (x ∷ xs) (y ∷ ys) c d same =
    let rest : told xs c ≡ told ys d = cc in
    let first : x ≡ y = cc in
    let both = same_told xs ys c d rest in
    let xs_same : xs ≡ ys = both.0 in
    (cc, both.1)
same_told [] (y ∷ ys) c d same = absurd (cc)
same_told (x ∷ xs) [] c d same = absurd (cc)

-- what a list has that does not begin with it
pub contains_behind : {A : Type 0} (first : A) (front : List A) (x : A) → Contains (first ∷ front) x → (first ≡ x → ⊥) → Contains front x
contains_behind first front x (zero, within, is) apart = absurd (apart is)
contains_behind first front x (suc k, within, is) apart = (k, omega arith, is)

-- a beginning that has a close is the whole list
pub told_by_its_close : (samples : List Sample) (last : Close) (front back : List Item) (close : Close) → front ++ back ≡ told samples last → Contains front (item.Close close) → (front ≡ told samples last) × (back ≡ [])
told_by_its_close samples last [] back close is has = absurd (let none : has.0 < 0 = has.1 in omega arith)
told_by_its_close [] last (first ∷ front) back close is has =
    let rest : front ++ back ≡ [] = cc in
    let none : length front + length back ≡ 0 = sym (length-append front back) ∙ ap length rest in
    let no_front : front ≡ [] = nil_from_length front (omega arith) in
    let no_back : back ≡ [] = nil_from_length back (omega arith) in
    let same : first ≡ item.Close last = cc in
    (cc, no_back)
told_by_its_close (sample ∷ samples) last (first ∷ front) back close is has =
    let rest : front ++ back ≡ told samples last = cc in
    let same : first ≡ item.Sample sample = cc in
    let apart : first ≡ item.Close close → ⊥ = λ closed. cc in
    let both = told_by_its_close samples last front back close rest (contains_behind first front (item.Close close) has apart) in
    let whole : front ≡ told samples last = both.0 in
    (cc, both.1)

-- a told list whose close was received was received whole
pub told_list_whole : (rest : Rest) (items front back : List Item) (close : Close) → IsToldList rest items → front ++ back ≡ items → Contains front (item.Close close) → (front ≡ items) × (back ≡ [])
told_list_whole rest items front back close (IsToldList.Whole is) split has =
    let both = told_by_its_close rest.samples _ front back close (split ∙ is) has in
    (both.0 ∙ sym is, both.1)
told_list_whole rest items front back close (IsToldList.StoppedAt i within is) split has =
    let both = told_by_its_close (take i rest.samples) _ front back close (split ∙ is) has in
    (both.0 ∙ sym is, both.1)
told_list_whole rest items front back close (IsToldList.ShortOfMemory i within is) split has =
    let both = told_by_its_close (take i rest.samples) _ front back close (split ∙ is) has in
    (both.0 ∙ sym is, both.1)

-- two rests that tell one list are one
pub same_told_whole : (list rest : Rest) → told_whole list ≡ told_whole rest → list ≡ rest
same_told_whole list rest same =
    let both = same_told list.samples rest.samples (close.Read list.ending) (close.Read rest.ending) same in
    let samples : list.samples ≡ rest.samples = both.0 in
    let read : close.Read list.ending ≡ close.Read rest.ending = both.1 in
    let ending : list.ending ≡ rest.ending = cc in
    let made : List Sample → SourceEnd → Rest = λ s e. record { samples = s; ending = e } in
    ap (λ s. made s list.ending) samples ∙ ap (λ e. made rest.samples e) ending

-- a list that was told under a gate, and read to its end, is collected
pub told_under-IsCollected : (may_stop may_go : ℕ → ℕ → Type 0) (source : ℕ) (rest list : Rest) (items : List Item) → IsToldUnder may_stop may_go source rest items → items ≡ told_whole list
    → IsCollected may_stop may_go source rest list
told_under-IsCollected may_stop may_go source rest list items (IsToldUnder.Whole go is) read = IsCollected.Whole go (same_told_whole list rest (sym read ∙ is))
told_under-IsCollected may_stop may_go source rest list items (IsToldUnder.StoppedAt i within stop go is) read =
    IsCollected.StoppedAt i within stop go (same_told_whole list (stopped rest i) (sym read ∙ is))
told_under-IsCollected may_stop may_go source rest list items (IsToldUnder.ShortOfMemory i within go is) read =
    let both = same_told list.samples (take i rest.samples) (close.Read list.ending) close.NoMemory (sym read ∙ is) in
    let none : close.Read list.ending ≡ close.NoMemory = both.1 in
    absurd (cc)

-- under a gate that never stops it is the whole rest
pub collected_whole : (may_stop may_go : ℕ → ℕ → Type 0) (source : ℕ) (rest list : Rest) → ((i : ℕ) → may_stop source i → ⊥) → IsCollected may_stop may_go source rest list → list ≡ rest
collected_whole may_stop may_go source rest list never (IsCollected.Whole go is) = is
collected_whole may_stop may_go source rest list never (IsCollected.StoppedAt i within stop go is) = absurd (never i stop)

-- The frames of a location, as they are lent and named.
use Rattle.std.proofs.Common.{◌≡◌, [], ◌∷◌, ◌++◌, ℕ, ◌-◌, ◌+◌, ◌<◌, ◌≤◌, List, length, Option, Some, None, refl, sym, ◌∙◌, ap, subst, take, drop, get_or, map, reverse}
use Rattle.std.specs.Prelude.{◌⊎◌, option_map, unwrap_or, slice_range, String, string_bytes}
use Rattle.std.specs.Option.{option_and_then}
use Rattle.std.specs.List.{slice_get}
use Rattle.std.specs.declared.alloc.Global.{Global}
use Rattle.std.specs.Slice.{IsGetRangeResult}
use Rattle.std.specs.Borrow.{Bor}
use Rattle.std.proofs.lemmas.List.{append_assoc, reverse-append, take-map, drop-map, take_more, length-map}
use Rattle.std.proofs.lemmas.Option.{slice_get_past, slice_get_read}
use Rattle.profile_messages.specs.declared.messages.Span.{Span}
use Rattle.profile_messages.specs.SeenIndex.{place_in}
use Rattle.profile_messages.specs.SeenProfile.{items_in}
use Rattle.profile_messages.proofs.ItemLemmas.{map-push}
use Rattle.profile_messages.proofs.SpanLemmas.{part-by, no_part-by, within, outside, items-at}
use Rattle.profile_tables.specs.declared.frames.Frame.{Frame}
use Rattle.profile_tables.specs.declared.frames.Frames.{Frames}
use Rattle.profile_tables.specs.checked.Frames.{text_in, texts_in, frames_at, LendsFrames}
use Rattle.profile_tables.specs.checked.FrameNumbers.{all_texts, IsPlaceOf}

-- what no location has
abbrev pub nowhere : Span
nowhere = record { start = 0; end = 0 }

-- ---- a part of a list

pub map-part : {A B : Type 0} (f : A → B) (xs : List A) (start past : ℕ) → slice_range (map f xs) start past ≡ map f (slice_range xs start past)
map-part f xs start past = ap (take (past - start)) (drop-map f start xs) ∙ take-map f (past - start) (drop start xs)

-- the texts of what is lent
lent-texts : (f : Frame → List ℕ) (all : List Frame) (span : Span) (lent : Option (Bor (List Frame))) → IsGetRangeResult all span.start span.end lent → items_in (map f all) span ≡ option_map (λ part. map f part.now) lent
lent-texts f all span None is =
    no_part-by _ _ (outside span.start span.end (length (map f all)) (subst (λ (n : ℕ). (span.end < span.start) ⊎ (n < span.end)) (sym (length-map all f)) is.0))
lent-texts f all span (Some part) is =
    part-by _ _ _ (within span.start span.end (length (map f all)) is.0.0 (subst (λ (n : ℕ). span.end ≤ n) (sym (length-map all f)) is.0.1))
    (map-part f all span.start span.end ∙ ap (map f) (sym is.0.2))

lends : (frames : Frames) (id : ℕ) (lent : Option (Bor (List Frame))) → frames_at frames id ≡ option_map reverse (option_map (λ part. map (text_in frames) part.now) lent) → LendsFrames frames id lent
lends frames id None is = is
lends frames id (Some part) is = is

-- the frames at the span of a location
pub lends-span : (frames : Frames) (id : ℕ) (all : List Frame) (span : Span) (lent : Option (Bor (List Frame))) → IsPlaceOf frames id (Some span) → all ≡ frames.all.items → IsGetRangeResult all span.start span.end lent → LendsFrames frames id lent
lends-span frames id all span lent place all_is is = lends frames id lent
    (place.2
    ∙ ap (option_map reverse) (sym (items-at (all_texts frames) span place.0 place.1))
    ∙ ap (λ list. option_map reverse (items_in (map (text_in frames) list) span)) (sym all_is)
    ∙ ap (option_map reverse) (lent-texts (text_in frames) all span lent is))

-- the frames at the place of a location, where it has one
pub at-place : (frames : Frames) (id place : ℕ) (spans : List Span) (span : Span) → spans ≡ frames.spans.items → Some place ≡ place_in frames.locations id → place < length spans → span ≡ get_or spans place span → frames_at frames id ≡ option_map reverse (texts_in frames span)
at-place frames id place spans span spans_are placed lt is =
    ap (λ at. option_map reverse (option_and_then (texts_in frames) (option_and_then (slice_get frames.spans.items) at))) (sym placed)
    ∙ ap (λ list. option_map reverse (option_and_then (texts_in frames) (slice_get list place))) (sym spans_are)
    ∙ ap (λ found. option_map reverse (option_and_then (texts_in frames) found)) (slice_get_read spans (length spans) place span refl lt is)

pub past-places : (frames : Frames) (id place : ℕ) (spans : List Span) → spans ≡ frames.spans.items → Some place ≡ place_in frames.locations id → length spans ≤ place → frames_at frames id ≡ None
past-places frames id place spans spans_are placed le =
    ap (λ at. option_map reverse (option_and_then (texts_in frames) (option_and_then (slice_get frames.spans.items) at))) (sym placed)
    ∙ ap (λ list. option_map reverse (option_and_then (texts_in frames) (slice_get list place))) (sym spans_are)
    ∙ ap (λ found. option_map reverse (option_and_then (texts_in frames) found)) (slice_get_past spans place le)

-- a span that is part of all frames, and one that is not
pub place-of : (frames : Frames) (id : ℕ) (all : List Frame) (span : Span) → all ≡ frames.all.items → frames_at frames id ≡ option_map reverse (texts_in frames span) → span.start ≤ span.end → span.end ≤ length all → IsPlaceOf frames id (Some span)
place-of frames id all span all_are is le le' =
    let inside : span.end ≤ length (all_texts frames) = subst (λ (n : ℕ). span.end ≤ n) (ap (λ (list : List Frame). length list) all_are ∙ sym (length-map frames.all.items (text_in frames))) le' in
    (le, inside, is ∙ ap (option_map reverse) (items-at (all_texts frames) span le inside))

pub no-place : (frames : Frames) (id : ℕ) (all : List Frame) (span : Span) → all ≡ frames.all.items → frames_at frames id ≡ option_map reverse (texts_in frames span) → (span.end < span.start) ⊎ (length all < span.end) → frames_at frames id ≡ None
no-place frames id all span all_are is apart =
    is ∙ ap (option_map reverse) (no_part-by _ _ (outside span.start span.end (length (all_texts frames))
    (subst (λ (n : ℕ). (span.end < span.start) ⊎ (n < span.end)) (ap (λ (list : List Frame). length list) all_are ∙ sym (length-map frames.all.items (text_in frames))) apart)))

-- the names of one location more
pub stacks-more : (frames : Frames) (all : List Frame) (spans : List Span) (k : ℕ) (span : Span) (lent : Option (Bor (List Frame))) (d : Bor (List Frame)) (part : List Frame) (stacks stacks' : List (List (List ℕ))) (stack : List (List ℕ)) → all ≡ frames.all.items → k < length spans → span ≡ get_or spans k nowhere → IsGetRangeResult all span.start span.end lent → d.now ≡ [] → part ≡ (unwrap_or lent d).now → stack ≡ reverse (map (text_in frames) part) → stacks ≡ map (λ s. reverse (unwrap_or (texts_in frames s) [])) (take k spans) → stacks' ≡ stacks ++ stack ∷ [] → stacks' ≡ map (λ s. reverse (unwrap_or (texts_in frames s) [])) (take (k + 1) spans)
stacks-more frames all spans k span lent d part stacks stacks' stack all_is lt at is none part_is stack_is stacks_are more =
    let named : Span → List (List ℕ) = λ s. reverse (unwrap_or (texts_in frames s) []) in
    let here : stack ≡ named (get_or spans k nowhere) =
    stack_is ∙ ap (λ (list : List Frame). reverse (map (text_in frames) list)) part_is
    ∙ texts-or lent
    ∙ ap (λ o. reverse (unwrap_or o [])) (sym (lent-texts (text_in frames) all span lent is) ∙ ap (λ list. items_in (map (text_in frames) list) span) all_is)
    ∙ ap named at in
    more ∙ ap (λ list. list ++ stack ∷ []) stacks_are ∙ ap (λ s. map named (take k spans) ++ s ∷ []) here
    ∙ sym (map-push named (take k spans) (get_or spans k nowhere)) ∙ ap (map named) (sym (take_more spans k nowhere lt))
  where
    texts-or : (o : Option (Bor (List Frame))) → reverse (map (text_in frames) (unwrap_or o d).now) ≡ reverse (unwrap_or (option_map (λ (p : Bor (List Frame)). map (text_in frames) p.now) o) [])
    texts-or None = ap (λ (list : List Frame). reverse (map (text_in frames) list)) none
    texts-or (Some p) = refl

-- the frame that was last among those left is named next
pub last-named : (text : Frame → List ℕ) (names names' : List (String Global)) (name : String Global) (left before : List Frame) (frame : Frame) (whole : List (List ℕ)) → names' ≡ names ++ name ∷ [] → string_bytes name ≡ text frame → left ≡ before ++ frame ∷ [] → map string_bytes names ++ reverse (map text left) ≡ whole → map string_bytes names' ++ reverse (map text before) ≡ whole
last-named text names names' name left before frame whole more name_is left_is is =
    ap (λ list. map string_bytes list ++ reverse (map text before)) more
    ∙ ap (λ list. list ++ reverse (map text before)) (map-push string_bytes names name ∙ ap (λ bytes. map string_bytes names ++ bytes ∷ []) name_is)
    ∙ append_assoc (map string_bytes names) (text frame ∷ []) (reverse (map text before))
    ∙ ap (λ list. map string_bytes names ++ list) (sym (ap (λ list. reverse (map text list)) left_is ∙ ap reverse (map-push text before frame) ∙ reverse-append (map text before) (text frame ∷ [])))
    ∙ is

-- The frames of locations, one location more at a time.
use Rattle.std.proofs.Common.{◌≡◌, [], ◌∷◌, ◌++◌, ℕ, ◌+◌, ◌<◌, ◌≤◌, List, length, Option, Some, None, Bool, true, false, cond, refl, sym, ◌∙◌, ap, take, get_or, map, reverse}
use Rattle.std.specs.Prelude.{◌==◌, option_map, is_some}
use Rattle.std.specs.Option.{option_and_then}
use Rattle.std.specs.List.{slice_get}
use Rattle.std.proofs.lemmas.List.{take_more, take_all}
use Rattle.run_options.specs.declared.choices.Naming.{Naming}
use Rattle.profile_messages.specs.declared.messages.Span.{Span}
use Rattle.profile_messages.specs.declared.messages.Line.{Line}
use Rattle.profile_messages.specs.declared.messages.Location.{Location as CodeLocation}
use Rattle.profile_messages.specs.Records.{Location}
use Rattle.profile_messages.specs.Tables.{entry_of, location_at}
use Rattle.profile_messages.specs.SeenIndex.{place_in, code_location_id, entry_at, IsIndexOf}
use Rattle.profile_messages.specs.SeenProfile.{items_in, seen_location}
use Rattle.profile_messages.proofs.ItemLemmas.{map-push, referred-at, referred-kept}
use Rattle.profile_messages.proofs.SpanLemmas.{items_in-kept, items_in-last}
use Rattle.profile_tables.specs.declared.frames.Frames.{Frames}
use Rattle.profile_tables.specs.checked.Frames.{text_in, texts_in, location_named, AreFramesOf, IsWhole}

-- ---- a loop over locations

-- what no location has
abbrev pub no_location : CodeLocation
no_location = record { at = 0; id = 0; address = 0; lines = record { start = 0; end = 0 } }

pub spans-more : (lines : CodeLocation → List (List ℕ)) (texts texts' : List (List ℕ)) (table : List CodeLocation) (spans spans' : List Span) (k : ℕ) (span : Span) → k < length table → map (items_in texts) spans ≡ map (λ location. Some (lines location)) (take k table) → texts' ≡ texts ++ lines (get_or table k no_location) → span.start ≡ length texts → span.end ≡ length texts' → spans' ≡ spans ++ span ∷ [] → map (items_in texts') spans' ≡ map (λ location. Some (lines location)) (take (k + 1) table)
spans-more lines texts texts' table spans spans' k span lt before more start past spans_are =
    let location : CodeLocation = get_or table k no_location in
    let found : CodeLocation → Option (List (List ℕ)) = λ other. Some (lines other) in
    ap (map (items_in texts')) spans_are ∙ map-push (items_in texts') spans span
    ∙ ap (λ (list : List (List ℕ)). map (items_in list) spans ++ items_in list span ∷ []) more
    ∙ ap (λ last. map (items_in (texts ++ lines location)) spans ++ last ∷ []) (items_in-last texts (lines location) span start (past ∙ ap (λ (list : List (List ℕ)). length list) more))
    ∙ ap (λ list. list ++ found location ∷ []) (referred-kept (items_in texts) (items_in (texts ++ lines location)) lines spans (take k table) (items_in-kept texts (lines location)) before)
    ∙ sym (map-push found (take k table) location)
    ∙ sym (ap (map found) (take_more table k no_location lt))

-- what stands at the place of an id
by_place : (texts : List (List ℕ)) (lines : CodeLocation → List (List ℕ)) (spans : List Span) (table : List CodeLocation) (o : Option ℕ) → map (items_in texts) spans ≡ map (λ location. Some (lines location)) table → option_and_then (items_in texts) (option_and_then (slice_get spans) o) ≡ option_map lines (entry_at table o)
by_place texts lines spans table None same = refl
by_place texts lines spans table (Some k) same = referred-at (items_in texts) lines spans table k same

-- the location of an id with its lines
seen-found : (lines : List Line) (table : List CodeLocation) (id : ℕ) → location_at (map (seen_location lines) table) id ≡ option_map (seen_location lines) (entry_of code_location_id table id)
seen-found lines [] id = refl
seen-found lines (location ∷ table) id = seen-found-by (location.id == id) lines location (entry_of code_location_id table id) _ (seen-found lines table id)
  where
    seen-found-by : (b : Bool) (lines : List Line) (location : CodeLocation) (o : Option CodeLocation) (found : Option Location) → found ≡ option_map (seen_location lines) o → cond b (Some (seen_location lines location)) found ≡ option_map (seen_location lines) (cond b (Some location) o)
    seen-found-by true lines location o found is = refl
    seen-found-by false lines location o found is = is

turned : (named : Location → List (List ℕ)) (lines : List Line) (o : Option CodeLocation) → option_map reverse (option_map (λ location. named (seen_location lines location)) o) ≡ option_map (λ location. reverse (named location)) (option_map (seen_location lines) o)
turned named lines None = refl
turned named lines (Some location) = refl

pub AreFramesOf-all : (name_at : ℕ → Option (List ℕ)) (naming : Naming) (lines : List Line) (table items : List CodeLocation) (k : ℕ) (frames : Frames) → items ≡ table → IsIndexOf code_location_id table frames.locations → length items ≤ k → map (texts_in frames) frames.spans.items ≡ map (λ location. Some (location_named name_at naming (seen_location lines location))) (take k items) → AreFramesOf name_at naming (map (seen_location lines) table) frames
AreFramesOf-all name_at naming lines table items k frames items_are index all same = record {
  each = λ id.
      let named : CodeLocation → List (List ℕ) = λ location. location_named name_at naming (seen_location lines location) in
      ap (option_map reverse) (by_place (map (text_in frames) frames.all.items) named frames.spans.items table (place_in frames.locations id)
      (same ∙ ap (λ list. map (λ location. Some (named location)) list) (take_all k items all ∙ items_are))
      ∙ ap (option_map named) (index.each id))
      ∙ turned (location_named name_at naming) lines (entry_of code_location_id table id)
      ∙ ap (option_map (λ location. reverse (location_named name_at naming location))) (sym (seen-found lines table id));
}

known-lines : (named : Location → List (List ℕ)) (lines : List Line) (o : Option CodeLocation) → is_some (option_map (λ location. reverse (named location)) (option_map (seen_location lines) o)) ≡ is_some o
known-lines named lines None = refl
known-lines named lines (Some location) = refl

pub IsWhole-all : (name_at : ℕ → Option (List ℕ)) (naming : Naming) (lines : List Line) (table : List CodeLocation) (frames : Frames) → IsIndexOf code_location_id table frames.locations → AreFramesOf name_at naming (map (seen_location lines) table) frames → IsWhole frames
IsWhole-all name_at naming lines table frames index are = record {
  each = λ id. index.known id ∙ sym (known-lines (location_named name_at naming) lines (entry_of code_location_id table id))
      ∙ ap (λ o. is_some (option_map (λ location. reverse (location_named name_at naming location)) o)) (sym (seen-found lines table id))
      ∙ ap is_some (sym (are.each id));
}

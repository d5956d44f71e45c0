-- The frames of a location's own, by its place.
use Rattle.std.proofs.Common.{◌≡◌, [], ℕ, List, Option, Some, None, refl, sym, ◌∙◌, reverse}
use Rattle.std.specs.Prelude.{option_map, unwrap_or, is_some}
use Rattle.std.specs.Option.{option_and_then}
use Rattle.std.specs.List.{slice_get}
use Rattle.std.proofs.lemmas.Option.{slice_get-map}
use Rattle.profile_messages.specs.declared.messages.Span.{Span}
use Rattle.profile_tables.specs.declared.frames.Frames.{Frames}
use Rattle.profile_tables.specs.checked.Frames.{texts_in, frames_at, stacks_of, IsWhole}
use Rattle.profile_messages.specs.SeenIndex.{place_in}

-- a span that has frames
at-span : (frames : Frames) (span : Option Span) → is_some (option_map reverse (option_and_then (texts_in frames) span)) ≡ is_some {T = ℕ} (Some 0) → option_map (λ s. reverse (unwrap_or (texts_in frames s) [])) span ≡ option_map reverse (option_and_then (texts_in frames) span)
at-span frames None there = cc
at-span frames (Some span) there = or-none (texts_in frames span) there
  where
    or-none : (o : Option (List (List ℕ))) → is_some (option_map reverse o) ≡ is_some {T = ℕ} (Some 0) → Some (reverse (unwrap_or o [])) ≡ option_map reverse o
    or-none None there = cc
    or-none (Some texts) there = refl

at-place : (frames : Frames) (place : Option ℕ) → is_some place ≡ is_some (option_map reverse (option_and_then (texts_in frames) (option_and_then (slice_get frames.spans.items) place))) → option_and_then (slice_get (stacks_of frames)) place ≡ option_map reverse (option_and_then (texts_in frames) (option_and_then (slice_get frames.spans.items) place))
at-place frames None known = refl
at-place frames (Some k) known =
    slice_get-map (λ s. reverse (unwrap_or (texts_in frames s) [])) frames.spans.items k
    ∙ at-span frames (slice_get frames.spans.items k) (sym known)

pub own-frames : (frames : Frames) → IsWhole frames → (id : ℕ) → option_and_then (slice_get (stacks_of frames)) (place_in frames.locations id) ≡ frames_at frames id
own-frames frames whole id = at-place frames (place_in frames.locations id) (whole.each id)

-- The stacks that spans stand for.
use Rattle.std.proofs.Common.{◌≡◌, ◌≤◌, ◌<◌, ◌+◌, ◌-◌, ℕ, List, [], ◌∷◌, ◌++◌, length, map, drop, All, refl, ap, ◌∙◌, arith, length-append, length-drop}
use Rattle.std.specs.List.{slice_range, range_with_len}
use Rattle.std.proofs.lemmas.List.FromFn.{length-range_with_len, get_or-range_with_len}
use Rattle.std.proofs.lemmas.List.{drop-append-le, take-append-le, map-append}
use Rattle.std.proofs.lemmas.List.Elements.{All-head, All-tail, All-push, All-weaker, All-same}
use Rattle.std.proofs.lemmas.Grind.{common_steps}
use Rattle.std.proofs.Math.Seq.{drop-append_seam}
use Rattle.sample_tables.specs.declared.stacks.Span.{Span}
use Rattle.sample_tables.specs.declared.samples.TheConstants.{FRAME_LIMIT}
use Rattle.sample_tables.specs.checked.Stacks.{stack_of, stacks_of, with_fresh_stack, AreSpans}
use Rattle.sample_tables.specs.Tables.{IsStack}
use Rattle.sample_tables.specs.Rows.{ToldRows}

-- two functions that agree at each element map a list alike
pub map_agree : {X Y : Type 0} (f g : X → Y) (xs : List X) → All (λ x. f x ≡ g x) xs → map f xs ≡ map g xs
map_agree f g [] h = refl
map_agree f g (x ∷ xs) h =
    cc (All-head (λ x. f x ≡ g x) x xs h, map_agree f g xs (All-tail (λ x. f x ≡ g x) x xs h))

pub slice-append : (frames more : List ℕ) (a b : ℕ) → a ≤ b → b ≤ length frames → slice_range (frames ++ more) a b ≡ slice_range frames a b
slice-append frames more a b ab bn =
    let an : a ≤ length frames = omega arith in
    let room : b - a ≤ length (drop a frames) = omega (arith, length-drop a frames) in
    rw drop-append-le (rw take-append-le refl)

pub slice-seam : (frames more : List ℕ) (b : ℕ) → b ≡ length frames + length more → slice_range (frames ++ more) (length frames) b ≡ more
slice-seam frames more b e = rw drop-append_seam (grind (arith, common_steps))

stack_of-append : (frames more : List ℕ) (span : Span) → (span.start ≤ span.end) × (span.end ≤ length frames) → stack_of (frames ++ more) span ≡ stack_of frames span
stack_of-append frames more span h = slice-append frames more span.start span.end h.0 h.1

-- numbers that come after leave the stacks as they are
pub stacks_of-append : (frames more : List ℕ) (spans : List Span) → All (λ span. (span.start ≤ span.end) × (span.end ≤ length frames)) spans → stacks_of (frames ++ more) spans ≡ stacks_of frames spans
stacks_of-append frames more spans h =
    map_agree (stack_of (frames ++ more)) (stack_of frames) spans (λ k d l. stack_of-append frames more _ (h k d l))

pub stacks_of-push : (frames more : List ℕ) (spans : List Span) (b : ℕ) → b ≡ length frames + length more → All (λ span. (span.start ≤ span.end) × (span.end ≤ length frames)) spans → stacks_of (frames ++ more) (spans ++ record { start = length frames; end = b } ∷ []) ≡ stacks_of frames spans ++ more ∷ []
stacks_of-push frames more spans b e h =
    map-append (stack_of (frames ++ more)) spans _ ∙ cc (stacks_of-append frames more spans h, slice-seam frames more b e)

-- numbers left behind change nothing
pub AreSpans-room : (known : List (List ℕ)) (frames more : List ℕ) (spans : List Span) → AreSpans known frames spans → AreSpans known (frames ++ more) spans
AreSpans-room known frames more spans h =
    let P : Span → Type 0 = λ span. (span.start ≤ span.end) × (span.end ≤ length frames) in
    let Q : Span → Type 0 = λ span. (span.start ≤ span.end) × (span.end ≤ length (frames ++ more)) in
    let grows : (span : Span) → P span → Q span = λ span l. (l.0, omega (arith, l.1, length-append frames more)) in
    record { within = All-weaker P Q grows spans h.within; stacks = All-same (IsStack known) _ _ (stacks_of-append frames more spans h.within) h.stacks }

-- a stack comes last
pub record StackKept (known : List (List ℕ)) (frames : List ℕ) (spans : List Span) (stack new_frames : List ℕ) (new_spans : List Span) : Type 0 where
  pub spans_are : AreSpans known new_frames new_spans
  pub stacks_are : stacks_of new_frames new_spans ≡ stacks_of frames spans ++ stack ∷ []

AreSpans-push : (known : List (List ℕ)) (frames more : List ℕ) (spans : List Span) (b : ℕ) → AreSpans known frames spans → IsStack known more → b ≡ length frames + length more → AreSpans known (frames ++ more) (spans ++ record { start = length frames; end = b } ∷ [])
AreSpans-push known frames more spans b h stack e =
    let Q : Span → Type 0 = λ span. (span.start ≤ span.end) × (span.end ≤ length (frames ++ more)) in
    record {
      within = All-push Q spans _ (AreSpans-room known frames more spans h).within (omega arith, omega (arith, length-append frames more));
      stacks =
          All-same (IsStack known) _ _ (stacks_of-push frames more spans b e h.within) (All-push (IsStack known) (stacks_of frames spans) _ h.stacks stack);
    }

pub stack_kept : (known : List (List ℕ)) (frames : List ℕ) (spans : List Span) (stack : List ℕ) (start end : ℕ) (new_frames : List ℕ) (new_spans : List Span) → AreSpans known frames spans → IsStack known stack → new_frames ≡ frames ++ stack → start ≡ length frames → end ≡ length new_frames → new_spans ≡ spans ++ record { start = start; end = end } ∷ [] → StackKept known frames spans stack new_frames new_spans
stack_kept known frames spans stack start end new_frames new_spans h r e s n t =
    let n' : end ≡ length frames + length stack = n ∙ ap length e ∙ length-append frames stack in
    record {
      spans_are = rw (e, t, s) (AreSpans-push known frames stack spans end h r n');
      stacks_are = rw (e, t, s) (stacks_of-push frames stack spans end n' h.within);
    }

-- names that come after change no stack
pub IsStack-more : (known more : List (List ℕ)) (stack : List ℕ) → IsStack known stack → IsStack (known ++ more) stack
IsStack-more known more stack h =
    let P : ℕ → Type 0 = λ k. k < length known in
    let Q : ℕ → Type 0 = λ k. k < length (known ++ more) in
    let grows : (k : ℕ) → P k → Q k = λ k l. omega (arith, l, length-append known more) in
    record { depth = h.depth; numbers = All-weaker P Q grows stack h.numbers }

pub AreSpans-names : (known more : List (List ℕ)) (frames : List ℕ) (spans : List Span) → AreSpans known frames spans → AreSpans (known ++ more) frames spans
AreSpans-names known more frames spans h =
    record { within = h.within; stacks = All-weaker (IsStack known) (IsStack (known ++ more)) (IsStack-more known more) _ h.stacks }

-- the names that come last have the last numbers
pub IsStack-fresh : (known stack : List (List ℕ)) → length stack ≤ FRAME_LIMIT → IsStack (known ++ stack) (range_with_len (length known) (length stack))
IsStack-fresh known stack d =
    let n = length-range_with_len (length known) (length stack) in
    record {
      depth = omega (arith, n);
      numbers =
          λ k e l. let l' : k < length stack = omega (arith, n) in rw get_or-range_with_len (omega (arith, length-append known stack));
    }

-- names come last, and the stack of their numbers
pub record FreshKept (known : List (List ℕ)) (frames : List ℕ) (spans : List Span) (stack names : List (List ℕ)) (new_frames : List ℕ) (new_spans : List Span) : Type 0 where
  pub spans_are : AreSpans names new_frames new_spans
  pub told_is : record { names = names; stacks = stacks_of new_frames new_spans } ≡ with_fresh_stack (record { names = known; stacks = stacks_of frames spans }) stack

pub fresh_kept : (known : List (List ℕ)) (frames : List ℕ) (spans : List Span) (stack : List (List ℕ)) (start end : ℕ) (names : List (List ℕ)) (new_frames : List ℕ) (new_spans : List Span) → AreSpans known frames spans → length stack ≤ FRAME_LIMIT → names ≡ known ++ stack → new_frames ≡ frames ++ range_with_len (length known) (length stack) → start ≡ length frames → end ≡ length new_frames → new_spans ≡ spans ++ record { start = start; end = end } ∷ [] → FreshKept known frames spans stack names new_frames new_spans
fresh_kept known frames spans stack start end names new_frames new_spans h d m e s n t =
    let all = stack_kept (known ++ stack) frames spans (range_with_len (length known) (length stack)) start end new_frames new_spans (AreSpans-names known stack frames spans h) (IsStack-fresh known stack d) e s n t in
    record { spans_are = rw m all.spans_are; told_is = cc (m, all.stacks_are) }

-- numbers left behind change nothing
pub record SameStacks (told : ToldRows) (known : List (List ℕ)) (frames : List ℕ) (spans : List Span) : Type 0 where
  pub spans_are : AreSpans known frames spans
  pub told_is : record { names = known; stacks = stacks_of frames spans } ≡ told

pub same_stacks : (known : List (List ℕ)) (frames more : List ℕ) (spans : List Span) (names : List (List ℕ)) (new_frames : List ℕ) (new_spans : List Span) → AreSpans known frames spans → names ≡ known → new_frames ≡ frames ++ more → new_spans ≡ spans → SameStacks (record { names = known; stacks = stacks_of frames spans }) names new_frames new_spans
same_stacks known frames more spans names new_frames new_spans h m e t =
    record {
      spans_are = rw (m, e, t) (AreSpans-room known frames more spans h);
      told_is = cc (m, e, t, stacks_of-append frames more spans h.within);
    }

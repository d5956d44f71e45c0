-- The items of a span.
use Rattle.std.proofs.Common.{◌≡◌, ◌++◌, ℕ, ◌-◌, ◌<◌, ◌≤◌, List, length, Option, Some, None, Bool, true, false, cond, refl, ◌∙◌, ap, take, drop, arith, length-append, length-drop}
use Rattle.std.specs.Prelude.{◌⊎◌, ◌&&◌, nat_le, slice_range}
use Rattle.std.proofs.lemmas.Grind.{common_steps}
use Rattle.std.proofs.lemmas.List.{take-append-le, drop-append-le, take_all}
use Rattle.std.proofs.Math.Seq.{drop-append_seam}
use Rattle.profile_messages.specs.declared.messages.Span.{Span}
use Rattle.profile_messages.specs.SeenProfile.{items_in}

pub part-by : {A : Type 0} (b : Bool) (items found : List A) → b ≡ true → items ≡ found → cond b (Some items) None ≡ Some found
part-by true items found holds same = ap Some same
part-by false items found holds same = cc

pub no_part-by : {A : Type 0} (b : Bool) (items : List A) → b ≡ false → cond b (Some items) None ≡ None
no_part-by true items fails = cc
no_part-by false items fails = refl

pub within : (start past n : ℕ) → start ≤ past → past ≤ n → (nat_le start past && nat_le past n) ≡ true
within start past n le le' = grind (arith, common_steps)

pub outside : (start past n : ℕ) → (past < start) ⊎ (n < past) → (nat_le start past && nat_le past n) ≡ false
outside start past n apart = grind (arith, common_steps)

-- the items of a span that is one of the list
pub items-at : {A : Type 0} (items : List A) (span : Span) → span.start ≤ span.end → span.end ≤ length items → items_in items span ≡ Some (slice_range items span.start span.end)
items-at items span le le' = part-by _ _ _ (within span.start span.end (length items) le le') refl

-- ---- a span stays where it is

within-start : (start past n : ℕ) → (nat_le start past && nat_le past n) ≡ true → start ≤ past
within-start start past n is = grind (arith, common_steps)

within-end : (start past n : ℕ) → (nat_le start past && nat_le past n) ≡ true → past ≤ n
within-end start past n is = grind (arith, common_steps)

part-kept : {A : Type 0} (items more : List A) (start past : ℕ) → start ≤ past → past ≤ length items → slice_range (items ++ more) start past ≡ slice_range items start past
part-kept items more start past le le' =
    let inside : start ≤ length items = omega arith in
    let len : past - start ≤ length (drop start items) = omega (arith, length-drop start items) in
    ap (take (past - start)) (drop-append-le start items more inside) ∙ take-append-le (past - start) (drop start items) more len

kept-by : {A : Type 0} (b : Bool) (items found : List A) (o : Option (List A)) → (b ≡ true → o ≡ Some items) → cond b (Some items) None ≡ Some found → o ≡ Some found
kept-by true items found o there is = there refl ∙ is
kept-by false items found o there is = cc

pub items_in-kept : {A : Type 0} (items more : List A) (span : Span) (found : List A) → items_in items span ≡ Some found → items_in (items ++ more) span ≡ Some found
items_in-kept items more span found is =
    kept-by (nat_le span.start span.end && nat_le span.end (length items)) _ found _ (λ inside.
    let le = within-start span.start span.end (length items) inside in
    let le' = within-end span.start span.end (length items) inside in
    items-at (items ++ more) span le (omega (arith, length-append items more)) ∙ ap Some (part-kept items more span.start span.end le le')) is

-- the last items are those from the old end on
pub items_in-last : {A : Type 0} (items more : List A) (span : Span) → span.start ≡ length items → span.end ≡ length (items ++ more) → items_in (items ++ more) span ≡ Some more
items_in-last items more span start past =
    let len = length-append items more in
    let le : length more ≤ span.end - span.start = omega (arith, len) in
    items-at (items ++ more) span (omega (arith, len)) (omega arith)
    ∙ ap Some (ap (λ n. take (span.end - span.start) (drop n (items ++ more))) start ∙ ap (take (span.end - span.start)) (drop-append_seam items more) ∙ take_all (span.end - span.start) more le)

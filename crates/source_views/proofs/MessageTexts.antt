-- Messages, sent part after part and one after another.
use Rattle.std.proofs.Common.{◌≡◌, ◌∙◌, ◌<◌, Bool, true, false, add-zero, nat_lt, ◌==◌, inl, inr, ℕ, ◌+◌, ◌-◌, ◌^◌, List, [], ◌∷◌, ◌++◌, Option, Result, Ok, Err, OnOk, ap, append-nil, append_assoc, arith, length, map, refl, subst, sym, take, get_or}
use Rattle.std.proofs.lemmas.Bool.{ltb-false, ltb-true, ne_eqb}
use Rattle.std.proofs.lemmas.List.{map_push, take_more}
use Rattle.std.proofs.lemmas.List.Folds.{concat-append}
use Rattle.std.specs.List.{concat}
use Rattle.std.proofs.KnownBytes.{Appends-nil, Appends-trans}
use Rattle.std.specs.Prelude.{if◌then◌else◌, is_ok}
use Rattle.std.specs.Io.KnownBytes.{Appends}
use Rattle.byte_io.specs.Calls.{one_more}
use Rattle.source_views.specs.Messages.{HasFailed, Tells, said_of_each}

-- ---- the parts of a line

-- of one part more
pub parts_more : {A : Type 0} (see : A → List ℕ) (parts : List A) (at : ℕ) (none : A) → at < length parts
    → concat (map see (take (at + 1) parts)) ≡ concat (map see (take at parts)) ++ see (get_or parts at none)
parts_more see parts at none less =
    ap (λ taken. concat (map see taken)) (take_more parts at none less) ∙ ap concat (map_push see (take at parts) (get_or parts at none))
    ∙ concat-append (map see (take at parts)) (see (get_or parts at none) ∷ []) ∙ ap (λ more. concat (map see (take at parts)) ++ more) (append-nil (see (get_or parts at none)))

-- what a success says more
pub on_ok : {T E A B : Type 0} (result : Result T E) → (A → B) → OnOk result A → OnOk result B
on_ok (Ok done) more said = more said
on_ok (Err fault) more said = tt

-- ---- what is told

rises : (before after : ℕ) → after ≡ one_more before → HasFailed before after
rises before after is = go (nat_lt before (2 ^ 64 - 1)) refl
  where
    go : (b : Bool) → nat_lt before (2 ^ 64 - 1) ≡ b → HasFailed before after
    go true less = inl (omega (arith, ltb-true before (2 ^ 64 - 1) less, is))
    go false not_less = inr (omega (arith, ltb-false before (2 ^ 64 - 1) not_less, is))

-- by how it was sent
pub told_by : {T E : Type 0} (text : List ℕ) (old new : Option (List ℕ)) (before after : ℕ) (result : Result T E) → OnOk result (Appends old new text)
    → after ≡ (if is_ok result then before else one_more before) → Tells text old new before after
told_by text old new before after (Ok done) sent counted = inl (sent, counted)
told_by text old new before after (Err fault) sent counted = inr (rises before after counted)

pub tells_nothing : (out : Option (List ℕ)) (count : ℕ) → Tells [] out out count count
tells_nothing out count = inl (Appends-nil out, refl)

-- where some are counted
pub told_of_some : (count : ℕ) (text : List ℕ) (old new : Option (List ℕ)) (before after : ℕ) → 0 < count → Tells text old new before after
    → Tells (if count == 0 then [] else text) old new before after
told_of_some count text old new before after some told =
    let no : (count == 0) ≡ false = ne_eqb count 0 (omega (arith, some)) in subst (λ none. Tells (if none then [] else text) old new before after) (sym no) told

-- what is told is told behind what was
pub tells_more : (text more : List ℕ) (old mid new : Option (List ℕ)) (before between after : ℕ) → Tells text old mid before between → Tells more mid new between after → Tells (text ++ more) old new before after
tells_more text more old mid new before between after (inl (sent, same)) (inl (sent', same')) = inl (Appends-trans old mid new text more sent sent', same' ∙ same)
tells_more text more old mid new before between after (inl (sent, same)) (inr (inl rose)) = inr (inl (omega (arith, same, rose)))
tells_more text more old mid new before between after (inl (sent, same)) (inr (inr most)) = inr (inr most)
tells_more text more old mid new before between after (inr (inl rose)) (inl (sent', same')) = inr (inl (omega (arith, rose, same')))
tells_more text more old mid new before between after (inr (inl rose)) (inr (inl rose')) = inr (inl (omega (arith, rose, rose')))
tells_more text more old mid new before between after (inr (inl rose)) (inr (inr most)) = inr (inr most)
tells_more text more old mid new before between after (inr (inr most)) (inl (sent', same')) = inr (inr (omega (arith, most, same')))
tells_more text more old mid new before between after (inr (inr most)) (inr (inl rose')) = inr (inr (omega (arith, most, rose')))
tells_more text more old mid new before between after (inr (inr most)) (inr (inr most')) = inr (inr most')

-- ---- what is said of each of a list

-- of one more
pub said_of_more : {A : Type 0} (say : ℕ → A → List ℕ) (at : ℕ) (xs : List A) (x : A) → said_of_each say at (xs ++ x ∷ []) ≡ said_of_each say at xs ++ say (at + length xs) x
said_of_more say at [] x = append-nil (say at x) ∙ ap (λ at. say at x) (sym (add-zero at))
said_of_more say at (y ∷ ys) x =
    ap (λ more. say at y ++ more) (said_of_more say (at + 1) ys x ∙ ap (λ place. said_of_each say (at + 1) ys ++ say place x) (omega arith))
    ∙ sym (append_assoc (say at y) (said_of_each say (at + 1) ys) (say (at + length (y ∷ ys)) x))

-- by what they are seen as
pub said_of_seen : {A B : Type 0} (say : ℕ → B → List ℕ) (see : A → B) (at : ℕ) (xs : List A) → said_of_each say at (map see xs) ≡ said_of_each (λ at x. say at (see x)) at xs
said_of_seen say see at [] = refl
said_of_seen say see at (x ∷ xs) = ap (λ more. say at (see x) ++ more) (said_of_seen say see (at + 1) xs)

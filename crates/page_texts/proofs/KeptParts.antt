-- The boxes that are kept, and those that are not.
use Rattle.std.proofs.Common.{◌≡◌, ℕ, zero, suc, ◌+◌, ◌<◌, ◌≤◌, inl, inr, ◌⊎◌, Bool, true, false, not, cond, List, [], ◌∷◌, length, refl, sym, ap, ◌∙◌, subst, arith}
use Rattle.std.specs.Prelude.{◌↔◌, Contains, filter}
use Rattle.std.proofs.lemmas.Bool.{cases_Bool, leb-true, leb-false, le-leb, lt-leb, false≢true}
use Rattle.std.proofs.lemmas.List.Sums.{sum_by-append}
use Rattle.page_texts.specs.Page.{PageBox, is_kept, kept, left_out, own_weight}

-- x is the first of xs, or stands behind it
abbrev IsAmong : {X : Type 0} → List X → X → Type 0
IsAmong [] x = ⊥
IsAmong (y ∷ ys) x = (y ≡ x) ⊎ IsAmong ys x

module _ {X : Type 0} where
  among : (xs : List X) (x : X) → Contains xs x → IsAmong xs x
  among [] x h = absurd (omega (arith, h.1))
  among (y ∷ ys) x (zero, below, is) = inl is
  among (y ∷ ys) x (suc k, below, is) = inr (among ys x (k, omega arith, is))

  contained : (xs : List X) (x : X) → IsAmong xs x → Contains xs x
  contained [] x h = absurd h
  contained (y ∷ ys) x (inl e) = (0, omega arith, e)
  contained (y ∷ ys) x (inr h) = let later = contained ys x h in (suc later.0, omega (arith, later.1), later.2)

module _ {X : Type 0} (p : X → Bool) where
  passed : (xs : List X) (x : X) → IsAmong (filter p xs) x → IsAmong xs x × (p x ≡ true)
  passed [] x h = absurd h
  passed (y ∷ ys) x h = go (passed ys x) (cases_Bool (p y)) h
    where
      go : (IsAmong (filter p ys) x → IsAmong ys x × (p x ≡ true)) → (p y ≡ true) ⊎ (p y ≡ false) → IsAmong (cond (p y) (y ∷ filter p ys) (filter p ys)) x → IsAmong (y ∷ ys) x × (p x ≡ true)
      go later (inl e) k = among_first later e (subst (λ b. IsAmong (cond b (y ∷ filter p ys) (filter p ys)) x) e k)
        where
          among_first : (IsAmong (filter p ys) x → IsAmong ys x × (p x ≡ true)) → p y ≡ true → (y ≡ x) ⊎ IsAmong (filter p ys) x → IsAmong (y ∷ ys) x × (p x ≡ true)
          among_first more is (inl same) = (inl same, sym (ap p same) ∙ is)
          among_first more is (inr l) = let m = more l in (inr m.0, m.1)
      go later (inr e) k = let m = later (subst (λ b. IsAmong (cond b (y ∷ filter p ys) (filter p ys)) x) e k) in (inr m.0, m.1)

  passes : (xs : List X) (x : X) → IsAmong xs x → p x ≡ true → IsAmong (filter p xs) x
  passes [] x h is = absurd h
  passes (y ∷ ys) x (inl same) is = subst (λ b. IsAmong (cond b (y ∷ filter p ys) (filter p ys)) x) (sym (ap p same ∙ is)) (inl same)
  passes (y ∷ ys) x (inr h) is = go (passes ys x h is) (cases_Bool (p y))
    where
      go : IsAmong (filter p ys) x → (p y ≡ true) ⊎ (p y ≡ false) → IsAmong (filter p (y ∷ ys)) x
      go later (inl e) = subst (λ b. IsAmong (cond b (y ∷ filter p ys) (filter p ys)) x) (sym e) (inr later)
      go later (inr e) = subst (λ b. IsAmong (cond b (y ∷ filter p ys) (filter p ys)) x) (sym e) later

  contains-filter : (xs : List X) (x : X) → Contains (filter p xs) x ↔ (Contains xs x × (p x ≡ true))
  contains-filter xs x =
      (λ h. let m = passed xs x (among (filter p xs) x h) in (contained xs x m.0, m.1), λ h. contained (filter p xs) x (passes xs x (among xs x h.0) h.1))

not_false : (b : Bool) → not b ≡ true → b ≡ false
not_false true h = absurd (false≢true h)
not_false false h = refl

pub contains_kept : (least : ℕ) (boxes : List PageBox) (box : PageBox) → Contains (kept least boxes) box ↔ (Contains boxes box × (least ≤ box.span.weight))
contains_kept least boxes box =
    let both = contains-filter (is_kept least) boxes box in
    (λ h. let m = both.0 h in (m.0, leb-true least box.span.weight m.1), λ h. both.1 (h.0, le-leb least box.span.weight h.1))

pub contains_left_out : (least : ℕ) (boxes : List PageBox) (box : PageBox) → Contains (left_out least boxes) box ↔ (Contains boxes box × (box.span.weight < least))
contains_left_out least boxes box =
    let both = contains-filter (λ b. not (is_kept least b)) boxes box in
    (λ h. let m = both.0 h in (m.0, leb-false least box.span.weight (not_false (is_kept least box) m.1)), λ h. both.1 (h.0, ap not (lt-leb least box.span.weight h.1)))

pub keeps_all : (boxes : List PageBox) → kept 0 boxes ≡ boxes
keeps_all [] = refl
keeps_all (box ∷ boxes) = rw (le-leb 0 box.span.weight (omega arith)) (ap (λ bs. box ∷ bs) (keeps_all boxes))

pub leaves_none : (boxes : List PageBox) → left_out 0 boxes ≡ []
leaves_none [] = refl
leaves_none (box ∷ boxes) = rw (le-leb 0 box.span.weight (omega arith)) (leaves_none boxes)

pub parts_count : (least : ℕ) (boxes : List PageBox) → length (kept least boxes) + length (left_out least boxes) ≡ length boxes
parts_count least [] = refl
parts_count least (box ∷ boxes) = go (parts_count least boxes) (cases_Bool (is_kept least box))
  where
    go : length (kept least boxes) + length (left_out least boxes) ≡ length boxes → (is_kept least box ≡ true) ⊎ (is_kept least box ≡ false)
        → length (kept least (box ∷ boxes)) + length (left_out least (box ∷ boxes)) ≡ length (box ∷ boxes)
    go later (inl e) = rw e (omega (arith, later))
    go later (inr e) = rw e (omega (arith, later))

own_cons : (box : PageBox) (boxes : List PageBox) → own_weight (box ∷ boxes) ≡ box.span.own + own_weight boxes
own_cons box boxes = omega (arith, sum_by-append (λ b. b.span.own) (box ∷ []) boxes)

pub parts_weigh : (least : ℕ) (boxes : List PageBox) → own_weight (kept least boxes) + own_weight (left_out least boxes) ≡ own_weight boxes
parts_weigh least [] = refl
parts_weigh least (box ∷ boxes) = go (parts_weigh least boxes) (cases_Bool (is_kept least box))
  where
    go : own_weight (kept least boxes) + own_weight (left_out least boxes) ≡ own_weight boxes → (is_kept least box ≡ true) ⊎ (is_kept least box ≡ false)
        → own_weight (kept least (box ∷ boxes)) + own_weight (left_out least (box ∷ boxes)) ≡ own_weight (box ∷ boxes)
    go later (inl e) =
        let more : kept least (box ∷ boxes) ≡ box ∷ kept least boxes = rw e in
        let same : left_out least (box ∷ boxes) ≡ left_out least boxes = rw e in
        omega (arith, later, ap own_weight more, ap own_weight same, own_cons box boxes, own_cons box (kept least boxes))
    go later (inr e) =
        let same : kept least (box ∷ boxes) ≡ kept least boxes = rw e in
        let more : left_out least (box ∷ boxes) ≡ box ∷ left_out least boxes = rw e in
        omega (arith, later, ap own_weight more, ap own_weight same, own_cons box boxes, own_cons box (left_out least boxes))

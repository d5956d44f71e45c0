-- Sources that are started one after another.
use Rattle.std.proofs.Common.{All, ◌≡◌, ℕ, ◌+◌, ◌<◌, ◌⊎◌, inl, inr, List, [], ◌∷◌, ◌++◌, length, get_or, refl, sym, ap, subst, ◌∙◌, Bool, arith, append-nil, length-append, Some, slice_get}
use Rattle.std.proofs.lemmas.List.{get_or_append_left}
use Rattle.std.proofs.Math.Seq.{get_or-append_seam}
use Rattle.std.specs.Iterator.{Yields}
use Rattle.std.specs.Vec.Iter.{into_iter_items, into_iter_steps}
use Rattle.std.specs.declared.vec.IntoIter.{IntoIter}
use Rattle.std.proofs.lemmas.Option.{slice_get-get_or, get_or_from_slice_get, slice_get_within}
use Rattle.ring_collect.specs.checked.RunningSources.{IsPromised, ArePromised, IsFresh, AreFresh}
use Rattle.ring_collect.specs.declared.running_sources.ReaderPromise.{ReaderPromise}
use Rattle.ring_collect.specs.declared.intakes.Intake.{Intake}

module _ {A : Type 0} (xs : List A) where
  pub slice_get_front : (ys : List A) (i : ℕ) (x : A) → i < length xs → slice_get (xs ++ ys) i ≡ Some x → slice_get xs i ≡ Some x
  slice_get_front ys i x below is = slice_get-get_or xs i x below ∙ ap Some (sym (get_or_append_left xs ys x i below) ∙ get_or_from_slice_get (xs ++ ys) i x x is)

  pub slice_get_seam : (x : A) (ys : List A) → slice_get (xs ++ x ∷ ys) (length xs) ≡ Some x
  slice_get_seam x ys = slice_get-get_or (xs ++ x ∷ ys) (length xs) x (let count = length-append xs (x ∷ ys) in omega arith) ∙ ap Some (get_or-append_seam xs x ys x)

  -- an entry of a list with one more is the last, or an earlier one
  pub data PushedAt (y : A) (i : ℕ) (x : A) : Type 0 where
    Earlier : i < length xs → slice_get xs i ≡ Some x → PushedAt y i x
    Last : i ≡ length xs → x ≡ y → PushedAt y i x

  last_or_before : (m n : ℕ) → m < n + 1 → (m ≡ n) ⊎ (m < n)
  last_or_before m n lt = grind arith

  pub pushed_at : (y : A) (i : ℕ) (x : A) → slice_get (xs ++ y ∷ []) i ≡ Some x → PushedAt y i x
  pushed_at y i x is =
      let below : i < length xs + 1 = subst (λ n. i < n) (length-append xs (y ∷ [])) (slice_get_within (xs ++ y ∷ []) i x is) in
      elim (last_or_before i (length xs) below) [
        | inl last ↦ Last last (sym (get_or_from_slice_get (xs ++ y ∷ []) i x y is) ∙ ap (λ n. get_or (xs ++ y ∷ []) n y) last ∙ get_or-append_seam xs y [] y)
        | inr before ↦ Earlier before (slice_get_front (y ∷ []) i x before is)
      ]

module _ {R G : Type 0} {gate : G} {readers : List R} {promises : List (ReaderPromise R G)} (promised : ArePromised gate readers promises) where
  -- the readers may be more
  pub promised_of_more : (more : List R) → ArePromised gate (readers ++ more) promises
  promised_of_more more = record {
    no_more = let e = length-append readers more in let n = promised.no_more in omega arith;
    each = λ source promise reader is_promise is_reader.
        let n = promised.no_more in
        let below = slice_get_within promises source promise is_promise in
        promised.each source promise reader is_promise (slice_get_front readers more source reader (omega arith) is_reader);
  }

  -- one more is promised
  pub promised_push : (reader : R) (promise : ReaderPromise R G) → length promises ≡ length readers → IsPromised gate (length readers) reader promise
      → ArePromised gate (readers ++ reader ∷ []) (promises ++ promise ∷ [])
  promised_push reader promise same is_one = record {
    no_more = let e = length-append readers (reader ∷ []) in let f = length-append promises (promise ∷ []) in omega arith;
    each = λ source p r is_p is_r. by_index source p r (pushed_at promises promise source p is_p) (pushed_at readers reader source r is_r);
  }
    where
      by_index : (source : ℕ) (p : ReaderPromise R G) (r : R) → PushedAt promises promise source p → PushedAt readers reader source r → IsPromised gate source r p
      by_index source p r (Earlier before is_p) (Earlier before' is_r) = promised.each source p r is_p is_r
      by_index source p r (Earlier before is_p) (Last at is_r) = absurd (omega arith)
      by_index source p r (Last at is_p) (Earlier before' is_r) = absurd (omega arith)
      by_index source p r (Last at is_p) (Last at' is_r) =
          subst (λ s. IsPromised gate s r p) (sym at') (subst (λ q. IsPromised gate (length readers) r q) (sym is_p) (subst (λ q. IsPromised gate (length readers) q promise) (sym is_r) is_one))

pub fresh_push : {keeps : Bool} {intakes : List Intake} (intake : Intake) → AreFresh keeps intakes → IsFresh keeps (length intakes) intake → AreFresh keeps (intakes ++ intake ∷ [])
fresh_push {keeps} {intakes} intake fresh one = record { each = λ source i is. by_index source i (pushed_at intakes intake source i is) }
  where
    by_index : (source : ℕ) (i : Intake) → PushedAt intakes intake source i → IsFresh keeps source i
    by_index source i (Earlier before is) = fresh.each source i is
    by_index source i (Last at is) = subst (λ s. IsFresh keeps s i) (sym at) (subst (IsFresh keeps (length intakes)) (sym is) one)

-- what the iterator of a vector has given is a front of its items
pub taken_front : {X A : Type 0} (s : IntoIter X A) (xs : List X) (t : IntoIter X A) → Yields into_iter_steps s xs t → into_iter_items s ≡ xs ++ into_iter_items t
taken_front s [] t y = ap into_iter_items y
taken_front s (x ∷ xs) t y = y.1.0 ∙ ap (λ ys. x ∷ ys) (taken_front y.0 xs t y.2)

no_items : {A : Type 0} (xs : List A) → length xs ≡ 0 → xs ≡ []
no_items [] e = refl
no_items (x ∷ xs) e = absurd (omega (arith, e))

-- where none is left, they are all
pub taken_all : {X A : Type 0} {all : List X} (s : IntoIter X A) (xs : List X) (t : IntoIter X A) → into_iter_items s ≡ all → Yields into_iter_steps s xs t
    → length (into_iter_items t) ≡ 0 → all ≡ xs
taken_all s xs t gives yields none = sym gives ∙ taken_front s xs t yields ∙ ap (λ rest. xs ++ rest) (no_items (into_iter_items t) none) ∙ append-nil xs

-- while it gives one more, it has not given all
module _ {X A : Type 0} (s : IntoIter X A) (xs : List X) (t : IntoIter X A) (yields : Yields into_iter_steps s xs t) (x : X) (rest : List X) (next : into_iter_items t ≡ x ∷ rest) where
  taken_seam : into_iter_items s ≡ xs ++ x ∷ rest
  taken_seam = taken_front s xs t yields ∙ ap (λ ys. xs ++ ys) next

  pub taken_fewer : length xs < length (into_iter_items s)
  taken_fewer = let count = ap length taken_seam ∙ length-append xs (x ∷ rest) in omega arith

  pub taken_next : slice_get (into_iter_items s) (length xs) ≡ Some x
  taken_next = ap (λ ys. slice_get ys (length xs)) taken_seam ∙ slice_get_seam xs x rest

  -- what holds of all holds of the next
  pub taken_one : (P : X → Type 0) → All P (into_iter_items s) → P x
  taken_one P all = subst P (get_or_from_slice_get (into_iter_items s) (length xs) x x taken_next) (all (length xs) x taken_fewer)

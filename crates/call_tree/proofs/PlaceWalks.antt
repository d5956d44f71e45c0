-- Places of numbers: what a walk comes to, and what a new number leaves.
use Rattle.std.proofs.Common.{◌≡◌, ◌≢◌, ℕ, zero, suc, ◌+◌, ◌*◌, ◌/◌, ◌%◌, ◌^◌, ◌<◌, ◌≤◌, ◌⊎◌, inl, inr, max, List, [], ◌∷◌, ◌++◌, length, get_or, set, refl, sym, ap, ◌∙◌, subst, arith, length-append, Ok, Err, Result, if◌then◌else◌}
use Rattle.std.specs.Result.{OnErr, is_ok}
use Rattle.std.proofs.lemmas.List.{get_or-set_other, get_or-set_same, length-set}
use Rattle.call_tree.specs.checked.Places.{home_of, below_of, IsAhead, IsMet, IsPlaced, KeepsNumbers, LeadsTo, IsFree, IsLonger, AreSound}

-- two numbers are one or apart
pub same_or_apart : (a b : ℕ) → (a ≡ b) ⊎ (a ≢ b)
same_or_apart zero zero = inl refl
same_or_apart zero (suc b) = inr (omega arith)
same_or_apart (suc a) zero = inr (omega arith)
same_or_apart (suc a) (suc b) = elim (same_or_apart a b) [ inl e ↦ inl (omega arith) | inr n ↦ inr (omega arith) ]

-- an empty cell more at the end changes no cell
pub more_cells : (cells : List ℕ) (place : ℕ) → get_or (cells ++ 0 ∷ []) place 0 ≡ get_or cells place 0
more_cells [] zero = refl
more_cells [] (suc place) = refl
more_cells (x ∷ cells) zero = refl
more_cells (x ∷ cells) (suc place) = more_cells cells place

pub longer : (cells one two : List ℕ) → one ≡ cells ++ 0 ∷ [] → two ≡ one ++ 0 ∷ [] → IsLonger cells two
longer cells one two e f = record {
  len = ap length f ∙ length-append one (0 ∷ []) ∙ omega (arith, ap length e, length-append cells (0 ∷ []));
  same = λ place. ap (λ xs. get_or xs place 0) f ∙ more_cells one place ∙ ap (λ xs. get_or xs place 0) e ∙ more_cells cells place;
}

pub longer_keeps : {cells more : List ℕ} → IsLonger cells more → KeepsNumbers cells more
longer_keeps l = record { stay = λ place number e. l.same place ∙ e }

pub longer_sound : {slots : ℕ} {cells more : List ℕ} {capacity : ℕ} (new : ℕ) → AreSound slots cells capacity → IsLonger cells more → capacity ≤ new → AreSound slots more new
longer_sound new s l le = record {
  room = omega (arith, s.room);
  small = s.small;
  rises = λ place number e. s.rises place number (sym (l.same place) ∙ e);
  within = λ place number e. omega (arith, s.within place number (sym (l.same place) ∙ e), l.len);
}

-- the number put at an empty cell
pub put_keeps : {cells : List ℕ} (place value : ℕ) → get_or cells place 0 ≡ 0 → KeepsNumbers cells (set cells place value)
put_keeps {cells} place value empty = record {
  stay = λ at number e.
      let apart : at ≢ place = λ same. let h = sym e ∙ ap (λ p. get_or cells p 0) same ∙ empty in omega (arith, h) in
      get_or-set_other cells place at value 0 apart ∙ e;
}

pub keeps_both : {a b c : List ℕ} → KeepsNumbers a b → KeepsNumbers b c → KeepsNumbers a c
keeps_both k l = record { stay = λ place number e. l.stay place number (k.stay place number e) }

pub put_sound : {slots : ℕ} {cells : List ℕ} {capacity : ℕ} (place number : ℕ) → AreSound slots cells capacity → length cells ≡ slots + 2 * (number + 1) → place < slots + 2 * number
    → AreSound slots (set cells place (number + 1)) capacity
put_sound {slots} {cells} {capacity} place number s len lt = record {
  room = s.room;
  small = s.small;
  rises = λ at n e. by at n (same_or_apart at place) e (s.rises at n);
  within = λ at n e. within at n (same_or_apart at place) e (s.within at n);
}
  where
    there : (at n : ℕ) → at ≡ place → get_or (set cells place (number + 1)) at 0 ≡ n + 1 → n ≡ number
    there at n same e =
        let h = sym (get_or-set_same cells place (number + 1) 0 (omega arith)) ∙ ap (λ p. get_or (set cells place (number + 1)) p 0) (sym same) ∙ e in
        omega (arith, h)

    by : (at n : ℕ) → (at ≡ place) ⊎ (at ≢ place) → get_or (set cells place (number + 1)) at 0 ≡ n + 1
        → (get_or cells at 0 ≡ n + 1 → at < slots + 2 * n) → at < slots + 2 * n
    by at n (inl same) e before = omega (arith, there at n same e)
    by at n (inr apart) e before = before (sym (get_or-set_other cells place at (number + 1) 0 apart) ∙ e)

    within : (at n : ℕ) → (at ≡ place) ⊎ (at ≢ place) → get_or (set cells place (number + 1)) at 0 ≡ n + 1
        → (get_or cells at 0 ≡ n + 1 → slots + 2 * n + 1 < length cells) → slots + 2 * n + 1 < length (set cells place (number + 1))
    within at n (inl same) e before = omega (arith, there at n same e, length-set cells place (number + 1))
    within at n (inr apart) e before = omega (arith, before (sym (get_or-set_other cells place at (number + 1) 0 apart) ∙ e), length-set cells place (number + 1))

-- a number in a free cell is met by the walk of its hash
pub put_placed : {cells new : List ℕ} {slots hash place : ℕ} (number : ℕ) → IsFree cells slots hash place → KeepsNumbers cells new → get_or new place 0 ≡ number + 1 → IsPlaced new slots hash number
put_placed {cells} {new} number free keeps here = free.leads.meets new number keeps (record { steps = 0; ahead = here })

-- a number that was met is met
ahead_keeps : {cells new : List ℕ} (slots number : ℕ) → KeepsNumbers cells new → (steps place bits : ℕ) → IsAhead cells slots number steps place bits → IsAhead new slots number steps place bits
ahead_keeps slots number keeps zero place bits ahead = keeps.stay place number ahead
ahead_keeps slots number keeps (suc steps) place bits (on, is, rest) = (on, keeps.stay place on is, ahead_keeps slots number keeps steps (below_of slots on bits) (bits / 2) rest)

pub met_keeps : {cells new : List ℕ} {slots number place bits : ℕ} → KeepsNumbers cells new → IsMet cells slots number place bits → IsMet new slots number place bits
met_keeps {cells} {new} {slots} {number} {place} {bits} keeps met = record { steps = met.steps; ahead = ahead_keeps slots number keeps met.steps place bits met.ahead }

-- the beginning of a walk, and a step of it
pub leads_first : (cells : List ℕ) (slots hash : ℕ) → 0 < slots → slots ≤ length cells → LeadsTo cells slots hash (home_of slots hash) hash
leads_first cells slots hash some le = record {
  within = below (hash / 2 ^ 32) (max slots 1) (omega arith) (omega arith);
  meets = λ new number keeps met. met;
}
  where
    below : (n m : ℕ) → 0 < m → m ≤ length cells → n % m < length cells
    below n m pos within = omega arith

pub leads_on : {cells : List ℕ} {slots capacity hash place bits : ℕ} (on : ℕ) → AreSound slots cells capacity → get_or cells place 0 ≡ on + 1 → LeadsTo cells slots hash place bits
    → LeadsTo cells slots hash (below_of slots on bits) (bits / 2)
leads_on {cells} {slots} {capacity} {hash} {place} {bits} on s here leads = record {
  within = omega (arith, s.within place on here);
  meets = λ new number keeps met. leads.meets new number keeps (record { steps = suc met.steps; ahead = (on, keeps.stay place on here, met.ahead) });
}

-- an empty cell meets no number
pub empty_meets_none : {cells : List ℕ} {slots number place bits : ℕ} → get_or cells place 0 ≡ 0 → IsMet cells slots number place bits → ⊥
empty_meets_none {cells} {slots} {number} {place} {bits} empty met = by met.steps met.ahead
  where
    by : (steps : ℕ) → IsAhead cells slots number steps place bits → ⊥
    by zero ahead = let h = sym empty ∙ ahead in omega (arith, h)
    by (suc steps) (on, is, rest) = let h = sym empty ∙ is in omega (arith, h)

-- a walk is at its number, or comes to it below the one where it is
pub met_on : {cells : List ℕ} {slots number place bits : ℕ} (on : ℕ) → get_or cells place 0 ≡ on + 1 → (on ≡ number → ⊥) → IsMet cells slots number place bits
    → IsMet cells slots number (below_of slots on bits) (bits / 2)
met_on {cells} {slots} {number} {place} {bits} on here apart met = by met.steps met.ahead
  where
    by : (steps : ℕ) → IsAhead cells slots number steps place bits → IsMet cells slots number (below_of slots on bits) (bits / 2)
    by zero ahead = absurd (apart (let h = sym here ∙ ahead in omega (arith, h)))
    by (suc steps) (other, is, rest) =
        let same : other ≡ on = (let h = sym is ∙ here in omega (arith, h)) in
        record { steps = steps; ahead = subst (λ n. IsAhead cells slots number steps (below_of slots n bits) (bits / 2)) same rest }

-- what a walk still has to find: a number that the walk of the hash meets is ahead, or was passed and is not it
abbrev pub IsLeft : (ℕ → Type 0) → List ℕ → ℕ → ℕ → ℕ → ℕ → Type 0
IsLeft missed cells slots hash place bits = (number : ℕ) → IsPlaced cells slots hash number → IsMet cells slots number place bits ⊎ missed number

pub left_on : (missed : ℕ → Type 0) (cells : List ℕ) (slots hash place bits on : ℕ) → get_or cells place 0 ≡ on + 1 → missed on
    → IsLeft missed cells slots hash place bits → IsLeft missed cells slots hash (below_of slots on bits) (bits / 2)
left_on missed cells slots hash place bits on here passed left number placed = by (left number placed)
  where
    apart : (on ≡ number) ⊎ (on ≢ number) → IsMet cells slots number place bits → IsMet cells slots number (below_of slots on bits) (bits / 2) ⊎ missed number
    apart (inl same) met = inr (subst missed same passed)
    apart (inr other) met = inl (met_on on here other met)

    by : IsMet cells slots number place bits ⊎ missed number → IsMet cells slots number (below_of slots on bits) (bits / 2) ⊎ missed number
    by (inl met) = apart (same_or_apart on number) met
    by (inr gone) = inr gone

pub left_none : (missed : ℕ → Type 0) (cells : List ℕ) (slots hash place bits : ℕ) → get_or cells place 0 ≡ 0
    → IsLeft missed cells slots hash place bits → (number : ℕ) → IsPlaced cells slots hash number → missed number
left_none missed cells slots hash place bits empty left number placed = by (left number placed)
  where
    by : IsMet cells slots number place bits ⊎ missed number → missed number
    by (inl met) = absurd (empty_meets_none empty met)
    by (inr gone) = gone

-- a push for which there is room
pub pushed : {T E : Type 0} (r : Result T E) (old new : List ℕ) (capacity len : ℕ) → OnErr r (capacity ≤ len) → len < capacity
    → new ≡ (if is_ok r then old ++ 0 ∷ [] else old) → new ≡ old ++ 0 ∷ []
pushed (Ok x) old new capacity len full room e = e
pushed (Err x) old new capacity len full room e = absurd (omega (arith, full, room))

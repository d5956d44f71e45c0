-- The entries of a table by their ids, one more at a time.
use Rattle.std.proofs.Common.{◌≡◌, ◌∷◌, [], ◌++◌, ℕ, List, ◌+◌, ◌<◌, length, Option, Some, None, Bool, true, false, cond, refl, sym, ◌∙◌, ap, subst, take, drop, get_or, map, replicate, arith, add-one, drop-cons}
use Rattle.std.specs.Prelude.{is_some, ◌==◌, ◌||◌}
use Rattle.std.specs.List.{list_any}
use Rattle.std.specs.BTreeMap.{IsEmpty}
use Rattle.std.specs.Option.{option_or}
use Rattle.std.proofs.lemmas.List.{take_more, length-take-le}
use Rattle.std.proofs.lemmas.List.Folds.{find-append}
use Rattle.std.proofs.lemmas.Grind.{common_steps}
use Rattle.stack_core.specs.declared.endings.ReadKind.TheVariants.{DuplicateId}
use Rattle.profile_messages.specs.declared.ids.Index.{Index}
use Rattle.profile_messages.specs.declared.messages.PlacedNumber.{PlacedNumber}
use Rattle.profile_messages.specs.Message.{first}
use Rattle.profile_messages.specs.Shapes.{fault_at}
use Rattle.profile_messages.specs.Tables.{entry_of, faults_of_id, id_faults}
use Rattle.profile_messages.specs.SeenIndex.{place_in, entry_at, IsIndexOf}
use Rattle.profile_messages.proofs.FirstLemmas.{first-append_some, first-append_none}
use Rattle.profile_messages.proofs.ItemLemmas.{map-push, slice_get-append, slice_get-push}

-- the ids of a table's entries
abbrev pub ids_of : {A : Type 0} → (A → PlacedNumber) → List A → List ℕ
ids_of id_of table = map (λ entry. (id_of entry).number) table

is_some-step : {A : Type 0} (b : Bool) (entry : A) (o : Option A) (c : Bool) → is_some o ≡ c → is_some (cond b (Some entry) o) ≡ (b || c)
is_some-step true entry o c is = refl
is_some-step false entry o c is = is

-- an id is one of the entries' where there is an entry of it
pub is_some-entry_of : {A : Type 0} (id_of : A → PlacedNumber) (table : List A) (id : ℕ) → is_some (entry_of id_of table id) ≡ list_any (λ other. other == id) (ids_of id_of table)
is_some-entry_of id_of [] id = refl
is_some-entry_of id_of (entry ∷ table) id = is_some-step ((id_of entry).number == id) entry _ _ (is_some-entry_of id_of table id)

-- the entry at a place that is known, with one more behind
kept-at : {A : Type 0} (table more : List A) (place : Option ℕ) (found : Option A) → entry_at table place ≡ found → is_some place ≡ is_some found → entry_at (table ++ more) place ≡ found
kept-at table more None found at known = at
kept-at table more (Some k) None at known = cc
kept-at table more (Some k) (Some entry) at known = slice_get-append table more k entry at

index-step : {A : Type 0} (b : Bool) (table : List A) (entry : A) (place : Option ℕ) (found : Option A) → entry_at table place ≡ found → is_some place ≡ is_some found → (b ≡ true → found ≡ None) → entry_at (table ++ entry ∷ []) (cond b (Some (length table)) place) ≡ option_or found (cond b (Some entry) None)
index-step true table entry place found at known none = slice_get-push table entry ∙ ap (λ o. option_or o (Some entry)) (sym (none refl))
index-step false table entry place None at known none = kept-at table (entry ∷ []) place None at known
index-step false table entry place (Some x) at known none = kept-at table (entry ∷ []) place (Some x) at known

known-step : {A : Type 0} (b : Bool) (entry : A) (n : ℕ) (place : Option ℕ) (found : Option A) → is_some place ≡ is_some found → (b ≡ true → found ≡ None) → is_some (cond b (Some n) place) ≡ is_some (option_or found (cond b (Some entry) None))
known-step true entry n place found known none = ap (λ o. is_some (option_or o (Some entry))) (sym (none refl))
known-step false entry n place None known none = known
known-step false entry n place (Some x) known none = known

none-of : {A : Type 0} (found : Option A) → is_some found ≡ false → found ≡ None
none-of None none = refl
none-of (Some x) none = cc

-- an index of one more entry, whose id is new
pub IsIndexOf-push : {A : Type 0} (id_of : A → PlacedNumber) (table : List A) (entry : A) (index index' : Index) → IsIndexOf id_of table index → is_some (place_in index (id_of entry).number) ≡ false → ((other : ℕ) → place_in index' other ≡ cond ((id_of entry).number == other) (Some (length table)) (place_in index other)) → IsIndexOf id_of (table ++ entry ∷ []) index'
IsIndexOf-push {A} id_of table entry index index' is new places = record {
  each = λ id.
      ap (entry_at (table ++ entry ∷ [])) (places id)
      ∙ index-step ((id_of entry).number == id) table entry (place_in index id) (entry_of id_of table id) (is.each id) (is.known id) (none_at id)
      ∙ sym (find-append (λ other. (id_of other).number == id) table (entry ∷ []));
  known = λ id.
      ap is_some (places id)
      ∙ known-step ((id_of entry).number == id) entry (length table) (place_in index id) (entry_of id_of table id) (is.known id) (none_at id)
      ∙ ap is_some (sym (find-append (λ other. (id_of other).number == id) table (entry ∷ [])));
}
  where
    none_at : (id : ℕ) → ((id_of entry).number == id) ≡ true → entry_of id_of table id ≡ None
    none_at id same =
        let e : (id_of entry).number ≡ id = grind (arith, common_steps) in
        subst (λ (key : ℕ). entry_of id_of table key ≡ None) e (none-of _ (sym (is.known (id_of entry).number) ∙ new))

-- ---- a loop over a table

pub id_faults-at : {A : Type 0} (id_of : A → PlacedNumber) (table : List A) (k : ℕ) (d : A) → k < length table → id_faults (ids_of id_of (take k table)) (map id_of (drop k table)) ≡ faults_of_id (ids_of id_of (take k table)) (id_of (get_or table k d)) ++ id_faults (ids_of id_of (take (k + 1) table)) (map id_of (drop (k + 1) table))
id_faults-at {A} id_of table k d lt =
    let entry : A = get_or table k d in
    let more : ids_of id_of (take (k + 1) table) ≡ ids_of id_of (take k table) ++ (id_of entry).number ∷ [] =
    ap (ids_of id_of) (take_more table k d lt) ∙ map-push (λ (other : A). (id_of other).number) (take k table) entry in
    ap (λ rest. id_faults (ids_of id_of (take k table)) (map id_of rest)) (drop-cons table k d lt ∙ ap (λ n. entry ∷ drop n table) (sym (add-one k)))
    ∙ ap (λ earlier. faults_of_id (ids_of id_of (take k table)) (id_of entry) ++ id_faults earlier (map id_of (drop (k + 1) table))) (sym more)

known-id : {A : Type 0} (id_of : A → PlacedNumber) (table : List A) (index : Index) (id : ℕ) → IsIndexOf id_of table index → list_any (λ other. other == id) (ids_of id_of table) ≡ is_some (place_in index id)
known-id id_of table index id is = sym (is_some-entry_of id_of table id) ∙ sym (is.known id)

not_zero : (id : ℕ) → (id ≡ 0 → ⊥) → (id == 0) ≡ false
not_zero id apart = grind (arith, common_steps)

known_fault : (earlier : List ℕ) (id : PlacedNumber) → (id.number == 0) ≡ false → list_any (λ other. other == id.number) earlier ≡ true → first (faults_of_id earlier id) ≡ Some (fault_at id.at DuplicateId)
known_fault earlier id some known = rw (some, known) refl

no_fault : (earlier : List ℕ) (id : PlacedNumber) → (id.number == 0) ≡ false → list_any (λ other. other == id.number) earlier ≡ false → first (faults_of_id earlier id) ≡ None
no_fault earlier id some unknown = rw (some, unknown) refl

-- a known id is the fault
pub duplicate_here : {A : Type 0} (id_of : A → PlacedNumber) (table : List A) (k : ℕ) (d : A) (id : PlacedNumber) (index : Index) → k < length table → IsIndexOf id_of (take k table) index → id ≡ id_of (get_or table k d) → (id.number ≡ 0 → ⊥) → is_some (place_in index id.number) ≡ true → first (id_faults (ids_of id_of (take k table)) (map id_of (drop k table))) ≡ Some (fault_at id.at DuplicateId)
duplicate_here id_of table k d id index lt indexed is some known =
    let found : list_any (λ other. other == id.number) (ids_of id_of (take k table)) ≡ true =
    known-id id_of _ index id.number indexed ∙ known in
    ap first (id_faults-at id_of table k d lt)
    ∙ ap (λ (here : PlacedNumber). first (faults_of_id (ids_of id_of (take k table)) here ++ id_faults (ids_of id_of (take (k + 1) table)) (map id_of (drop (k + 1) table)))) (sym is)
    ∙ first-append_some _ _ _ (known_fault (ids_of id_of (take k table)) id (not_zero id.number some) found)

-- a new id is none
pub new_here : {A : Type 0} (id_of : A → PlacedNumber) (table : List A) (k : ℕ) (d : A) (id : PlacedNumber) (index : Index) → k < length table → IsIndexOf id_of (take k table) index → id ≡ id_of (get_or table k d) → (id.number ≡ 0 → ⊥) → is_some (place_in index id.number) ≡ false → first (id_faults (ids_of id_of (take (k + 1) table)) (map id_of (drop (k + 1) table))) ≡ first (id_faults (ids_of id_of (take k table)) (map id_of (drop k table)))
new_here id_of table k d id index lt indexed is some unknown =
    let missing : list_any (λ other. other == id.number) (ids_of id_of (take k table)) ≡ false =
    known-id id_of _ index id.number indexed ∙ unknown in
    sym (ap first (id_faults-at id_of table k d lt)
    ∙ ap (λ (here : PlacedNumber). first (faults_of_id (ids_of id_of (take k table)) here ++ id_faults (ids_of id_of (take (k + 1) table)) (map id_of (drop (k + 1) table)))) (sym is)
    ∙ first-append_none _ _ (no_fault (ids_of id_of (take k table)) id (not_zero id.number some) missing))

pub IsIndexOf-more : {A : Type 0} (id_of : A → PlacedNumber) (table : List A) (k : ℕ) (d : A) (id : PlacedNumber) (index index' : Index) → k < length table → IsIndexOf id_of (take k table) index → id ≡ id_of (get_or table k d) → is_some (place_in index id.number) ≡ false → ((other : ℕ) → place_in index' other ≡ cond (id.number == other) (Some k) (place_in index other)) → IsIndexOf id_of (take (k + 1) table) index'
IsIndexOf-more {A} id_of table k d id index index' lt indexed is unknown places =
    let len : length (take k table) ≡ k = length-take-le k table (omega arith) in
    subst (λ (seen : List A). IsIndexOf id_of seen index') (sym (take_more table k d lt))
    (IsIndexOf-push id_of (take k table) (get_or table k d) index index' indexed
    (subst (λ (n : PlacedNumber). is_some (place_in index n.number) ≡ false) is unknown)
    (λ other. places other ∙ ap (λ (n : PlacedNumber). cond (n.number == other) (Some k) (place_in index other)) is ∙ ap (λ n. cond ((id_of (get_or table k d)).number == other) (Some n) (place_in index other)) (sym len)))

-- ---- no entry yet

pub empty_index : {A : Type 0} (id_of : A → PlacedNumber) (index : Index) (count : ℕ) → index.near.items ≡ replicate count None → IsEmpty index.far → IsIndexOf id_of [] index
empty_index id_of index count near far = grind (arith, common_steps)

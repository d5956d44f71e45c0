-- What was written of a file that is renewed, as its texts take its place.
use Rattle.std.proofs.Common.{◌≡◌, ◌∙◌, ℕ, List, [], ◌∷◌, ◌++◌, Option, Some, None, refl, sym, ap, subst, arith, ◌≤◌, length, drop, replicate, append-nil, append_assoc, length-append}
use Rattle.std.proofs.lemmas.List.{drop-append-le, map-append, replicate-append-replicate}
use Rattle.std.proofs.lemmas.Option.{same_Some}
use Rattle.std.specs.Io.KnownBytes.{Keeps}
use Rattle.byte_io.specs.Outputs.{PlacedFile}
use Rattle.flame_tool.specs.checked.Renewals.{AreAt, IsBetween, IsGrown, all_bytes, both_bytes, bytes_of, files_since, renewal_bytes, with_files}
use Rattle.flame_tool.specs.declared.renewed_file.Renewal.{Renewal}
use Rattle.flame_tool.specs.declared.renewed_file.Renewal.TheVariants.{Between, Begun, Failed}

pub between_bytes : {W : Type 0} (contents : W → Option (List ℕ)) (renewal : Renewal W) → IsBetween renewal → renewal_bytes contents renewal ≡ Some []
between_bytes contents Between is = refl
between_bytes contents (Begun draft) is = absurd is
between_bytes contents (Failed written) is = absurd is

-- the bytes of a draft are those of the one file that it became
pub keeps_placed : (old new last : Option (List ℕ)) → Keeps old new → last ≡ Some [] → Keeps old (both_bytes (both_bytes new (Some [])) last)
keeps_placed None new last keeps is = tt
keeps_placed (Some xs) None last keeps is = absurd keeps
keeps_placed (Some xs) (Some ys) None keeps is = absurd (cc)
keeps_placed (Some xs) (Some ys) (Some zs) keeps is = last_of zs is
  where
    last_of : (zs : List ℕ) → Some zs ≡ Some [] → (ys ++ []) ++ zs ≡ xs
    last_of [] is = append-nil (ys ++ []) ∙ append-nil ys ∙ keeps
    last_of (z ∷ zs) is = absurd (cc)

-- ---- bytes before others

lift_keeps : (front old new : Option (List ℕ)) → Keeps old new → Keeps (both_bytes front old) (both_bytes front new)
lift_keeps None old new keeps = tt
lift_keeps (Some xs) None new keeps = tt
lift_keeps (Some xs) (Some ys) None keeps = absurd keeps
lift_keeps (Some xs) (Some ys) (Some zs) keeps = ap (λ all. xs ++ all) keeps

-- ---- what a flush does

-- files more stand behind those that took their places before
since_more : (before now files : List PlacedFile) → IsGrown (Some before) (Some now) → drop (length before) (now ++ files) ≡ drop (length before) now ++ files
since_more before now files grown =
    let is : now ≡ before ++ drop (length before) now = same_Some now (before ++ drop (length before) now) grown in
    let long : length before ≤ length now = omega (arith, ap length is, length-append before (drop (length before) now)) in
    drop-append-le (length before) now files long

pub grown_more : (before now now' : Option (List PlacedFile)) (files : List PlacedFile) → IsGrown before now → now' ≡ with_files now files → IsGrown before now'
grown_more None now now' files grown is = is ∙ ap (λ now. with_files now files) grown
grown_more (Some before) None now' files grown is = absurd (cc)
grown_more (Some before) (Some now) now' files grown is =
    let same : now ≡ before ++ drop (length before) now = same_Some now (before ++ drop (length before) now) grown in
    let all : now ++ files ≡ before ++ drop (length before) (now ++ files) =
    ap (λ now. now ++ files) same ∙ append_assoc before (drop (length before) now) files ∙ ap (λ rest. before ++ rest) (sym (since_more before now files grown)) in
    subst (λ now'. IsGrown (Some before) now') (sym is) (ap (λ all. Some all) all)

pub paths_more : (path : List ℕ) (before now now' : Option (List PlacedFile)) (files : List PlacedFile) → IsGrown before now → now' ≡ with_files now files → AreAt path (files_since before now) → AreAt path files → AreAt path (files_since before now')
paths_more path None now now' files grown is at more = refl
paths_more path (Some before) None now' files grown is at more = absurd (cc)
paths_more path (Some before) (Some now) now' files grown is at more =
    let since = drop (length before) now in
    let both : AreAt path (since ++ files) =
    map-append (λ (file : PlacedFile). file.path) since files ∙ (λ i. at i ++ more i) ∙ replicate-append-replicate (length since) (length files) path ∙ ap (λ n. replicate n path) (sym (length-append since files)) in
    subst (λ now'. AreAt path (files_since (Some before) now')) (sym is) (subst (AreAt path) (sym (since_more before now files grown)) both)

both_assoc : (xs ys zs : Option (List ℕ)) → both_bytes (both_bytes xs ys) zs ≡ both_bytes xs (both_bytes ys zs)
both_assoc None ys zs = refl
both_assoc (Some xs) None zs = refl
both_assoc (Some xs) (Some ys) None = refl
both_assoc (Some xs) (Some ys) (Some zs) = ap (λ all. Some all) (append_assoc xs ys zs)

both_nothing : (xs : Option (List ℕ)) → both_bytes (Some []) xs ≡ xs
both_nothing None = refl
both_nothing (Some xs) = refl

bytes-append : (one other : List PlacedFile) → bytes_of (one ++ other) ≡ both_bytes (bytes_of one) (bytes_of other)
bytes-append [] other = sym (both_nothing (bytes_of other))
bytes-append (file ∷ one) other = ap (both_bytes file.bytes) (bytes-append one other) ∙ sym (both_assoc file.bytes (bytes_of one) (bytes_of other))

pub flush_keeps : (before now now' : Option (List PlacedFile)) (files : List PlacedFile) (old new : Option (List ℕ)) → IsGrown before now → now' ≡ with_files now files → Keeps old (both_bytes (bytes_of files) new) → Keeps (all_bytes before now old) (all_bytes before now' new)
flush_keeps None now now' files old new grown is keeps = tt
flush_keeps (Some before) None now' files old new grown is keeps = absurd (cc)
flush_keeps (Some before) (Some now) now' files old new grown is keeps =
    let since = drop (length before) now in
    let bytes : both_bytes (bytes_of since) (both_bytes (bytes_of files) new) ≡ both_bytes (bytes_of (drop (length before) (now ++ files))) new =
    sym (both_assoc (bytes_of since) (bytes_of files) new) ∙ ap (λ all. both_bytes all new) (sym (bytes-append since files)) ∙ ap (λ all. both_bytes (bytes_of all) new) (sym (since_more before now files grown)) in
    subst (λ now'. Keeps (all_bytes (Some before) (Some now) old) (all_bytes (Some before) now' new)) (sym is)
    (subst (λ all. Keeps (both_bytes (bytes_of since) old) all) bytes (lift_keeps (bytes_of since) old (both_bytes (bytes_of files) new) keeps))

-- Sources that are loaded one after another.
use Rattle.std.proofs.Common.{◌≡◌, ℕ, List, [], ◌∷◌, ◌++◌, ◌+◌, ◌<◌, ◌≤◌, map, length, take, get_or, Option, ap, sym, ◌∙◌, subst, arith}
use Rattle.std.proofs.lemmas.List.{map-append, take_more, take_all}
use Rattle.std.proofs.lemmas.Slice.Zip.{all_zipped_more}
use Rattle.std.specs.List.{AllZip}
use Rattle.run_options.specs.declared.formats.Format.{Format}
use Rattle.source_views.specs.Opening.{AreLoaded, IsLoaded}

-- the source of one path more
pub loaded_more : {A : Type 0} (asked : Option Format) (bytes : A → List ℕ) (files : List ℕ → Option (List ℕ)) (paths : List A) (at : ℕ) (path : A) (sources : List (Format × Option (List ℕ))) (source : Format × Option (List ℕ))
    → at < length paths → path ≡ get_or paths at path → AllZip (IsLoaded asked files) (map bytes (take at paths)) sources → IsLoaded asked files (bytes path) source
    → AllZip (IsLoaded asked files) (map bytes (take (at + 1) paths)) (sources ++ source ∷ [])
loaded_more asked bytes files paths at path sources source below is loaded here =
    subst (λ ps. AllZip (IsLoaded asked files) ps (sources ++ source ∷ []))
    (sym (ap (map bytes) (take_more paths at path below ∙ ap (λ p. take at paths ++ p ∷ []) (sym is)) ∙ map-append bytes (take at paths) (path ∷ [])))
    (all_zipped_more (IsLoaded asked files) (map bytes (take at paths)) sources (bytes path) source loaded here)

-- the sources of all paths, of which there is one
pub loaded_whole : {A : Type 0} (asked : Option Format) (bytes : A → List ℕ) (input : Option (List ℕ)) (files : List ℕ → Option (List ℕ)) (paths : List A) (at : ℕ) (sources : List (Format × Option (List ℕ)))
    → 0 < length paths → length paths ≤ at → AllZip (IsLoaded asked files) (map bytes (take at paths)) sources → AreLoaded asked input files (map bytes paths) sources
loaded_whole asked bytes input files [] at sources some all loaded = absurd (omega arith)
loaded_whole asked bytes input files (path ∷ paths) at sources some all loaded =
    subst (λ ps. AllZip (IsLoaded asked files) (map bytes ps) sources) (take_all at (path ∷ paths) all) loaded

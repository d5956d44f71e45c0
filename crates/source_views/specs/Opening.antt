-- What is opened for the paths of a run.
use Rattle.std.specs.Prelude.{◌≡◌, ℕ, List, [], ◌∷◌, Option, Some, IfSome, unwrap_or}
use Rattle.std.specs.List.{AllZip}
use Rattle.run_options.specs.Formats.{format_at}
use Rattle.run_options.specs.declared.formats.Format.{Format}
use Rattle.run_options.specs.declared.formats.Format.TheVariants.{Folded}

-- one source, by its format and its bytes, where they are known: the input, which is folded text unless another format was asked for
abbrev pub IsLoadedInput : Option Format → List (Format × Option (List ℕ)) → List ℕ → Type 0
IsLoadedInput asked [] input = ⊥
IsLoadedInput asked (source ∷ []) input = (source.0 ≡ unwrap_or asked Folded) × (source.1 ≡ Some input)
IsLoadedInput asked (source ∷ another ∷ more) input = ⊥

-- the source of a path: its format is that which was asked for or else that of the name, and its bytes are the file's, where
-- they are known
abbrev pub IsLoaded : Option Format → (List ℕ → Option (List ℕ)) → List ℕ → Format × Option (List ℕ) → Type 0
IsLoaded asked files path source =
    (source.0 ≡ unwrap_or asked (format_at path)) × IfSome (files path) (λ bytes. source.1 ≡ Some bytes)

-- the source of each path, in order, or the input where there is no path
abbrev pub AreLoaded : Option Format → Option (List ℕ) → (List ℕ → Option (List ℕ)) → List (List ℕ) → List (Format × Option (List ℕ)) → Type 0
AreLoaded asked input files [] sources = IfSome input (IsLoadedInput asked sources)
AreLoaded asked input files (path ∷ paths) sources = AllZip (IsLoaded asked files) (path ∷ paths) sources

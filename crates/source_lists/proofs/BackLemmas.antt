-- The samples of both formats read back, unless the last name ends in a number.
use Rattle.std.proofs.Common.{◌≡◌, ℕ, ◌<◌, ◌^◌, ◌&&◌, nat_lt, true, false, List, [], ◌∷◌, ◌++◌, length, All, refl, ap, ◌∙◌, arith}
use Rattle.std.specs.Fmt.{decimal}
use Rattle.std.proofs.lemmas.Bool.{cond-true, lt-ltb}
use Rattle.std.proofs.lemmas.Bool.Decides.{nat_tests}
use Rattle.std.proofs.lemmas.List.Elements.{All-head, All-tail, All-weaker}
use Rattle.sample_tables.specs.Samples.{IsLimited}
use Rattle.sample_tables.specs.declared.samples.Sample.{Sample}
use Rattle.run_options.specs.declared.choices.Naming.{Naming}
use Rattle.run_options.specs.declared.choices.Pick.{Pick}
use Rattle.run_options.specs.declared.formats.Format.{Format}
use Rattle.run_options.specs.declared.formats.Format.TheVariants.{Folded, Pprof}
use Rattle.folded_lines.specs.LastNames.{last_ends_in_number}
use Rattle.folded_lines.specs.Lines.{columns, ends_in_number}
use Rattle.folded_lines.specs.ReadingBack.{IsPlainName, IsPlain}
use Rattle.folded_lines.proofs.ColumnLemmas.{is_blank, columns-none, ends_in_number-apart}
use Rattle.folded_lines.proofs.DecimalLemmas.{IsWritten-decimal, digits_have_no_blank}
use Rattle.folded_lines.proofs.NameLemmas.{LastIsSome, ends_plainly, columns-whole}
use Rattle.folded_lines.proofs.NamesBack.{samples_plain}
use Rattle.folded_lines.proofs.NumberLemmas.{and_true}
use Rattle.run_options.specs.declared.choices.Naming.TheVariants.{Lines}
use Rattle.profile_tables.specs.FrameNames.{IsFrameName}
use Rattle.profile_tables.specs.Naming.{address_frame, line_suffix}
use Rattle.profile_tables.proofs.FrameNameLemmas.{IsVisible, address_visible, pprof_named}
use Rattle.profile_tables.proofs.RestLemmas.{pprof-limited}
use Rattle.source_lists.specs.Sources.{read_bytes}

some_byte : (name : List ℕ) → IsFrameName name → 0 < length name
some_byte [] named = absurd (named.some refl)
some_byte (b ∷ name) named = omega arith

last_some : (stack : List (List ℕ)) → All IsFrameName stack → LastIsSome stack
last_some [] named = tt
last_some (name ∷ []) named = some_byte name (All-head IsFrameName name [] named)
last_some (name ∷ next ∷ names) named = last_some (next ∷ names) (All-tail IsFrameName name (next ∷ names) named)

nearly_plain : (sample : Sample) → All IsFrameName sample.stack → IsLimited sample → last_ends_in_number sample.stack ≡ false → IsPlain sample
nearly_plain sample named limited other = record {
  names = All-weaker IsFrameName IsPlainName (λ name is. record { text = is.text; whole = is.whole }) sample.stack named;
  last = ends_plainly sample.stack (last_some sample.stack named) other;
  depth = limited.depth;
}

pub samples_back : (format : Format) (bytes : List ℕ) (pick : Pick) (naming : Naming) → All (λ sample. last_ends_in_number sample.stack ≡ false → IsPlain sample) (read_bytes format bytes pick naming).samples
samples_back Folded bytes pick naming = samples_plain bytes
samples_back Pprof bytes pick naming = λ k d within. nearly_plain _ (pprof_named bytes pick naming k d within) ((pprof-limited bytes pick naming).each k d within)

-- ---- last names that never end in a number

pub line-plain : (name : List ℕ) (line : ℕ) → 0 < line → line < 2 ^ 63 → ends_in_number (columns (name ++ line_suffix Lines line)) ≡ false
line-plain name line some fits =
    let shown : (nat_lt 0 line && nat_lt line (2 ^ 63)) ≡ true = and_true _ _ (lt-ltb 0 line some) (lt-ltb line (2 ^ 63) fits) in
    ap (λ text. ends_in_number (columns (name ++ text))) (cond-true _ _ _ shown)
    ∙ ends_in_number-apart 58 (refl, refl) name (decimal line)
    ∙ ap ends_in_number (columns-none (decimal line) (digits_have_no_blank (decimal line) (IsWritten-decimal line (omega arith)).digits))

seen : (b : ℕ) → IsVisible b → is_blank b ≡ false
seen b visible = let above : 32 < b = visible.0 in grind (arith, nat_tests)

pub address-plain : (address : ℕ) → ends_in_number (columns (address_frame address)) ≡ false
address-plain address = ap ends_in_number (columns-whole (address_frame address) (All-weaker IsVisible (λ b. is_blank b ≡ false) seen (address_frame address) (address_visible address)))

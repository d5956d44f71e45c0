-- Names that lie end to end, and one more behind them.
use Rattle.std.proofs.Common.{◌≡◌, ◌≤◌, ◌+◌, ℕ, List, [], ◌∷◌, ◌++◌, length, ap, ◌∙◌, arith, length-append}
use Rattle.std.specs.Str.{IsUtf8}
use Rattle.std.proofs.lemmas.List.Elements.{All-push, All-weaker, All-same}
use Rattle.sample_tables.specs.Spans.{stacks_of}
use Rattle.sample_tables.specs.declared.stacks.Span.{Span}
use Rattle.sample_tables.proofs.Spans.{stacks_of-push}
use Rattle.call_tree.specs.checked.NameLists.{AreTexts}

-- a name comes last
pub record NameKept (bytes : List ℕ) (spans : List Span) (name new_bytes : List ℕ) (new_spans : List Span) : Type 0 where
  pub texts_are : AreTexts new_bytes new_spans
  pub names_are : stacks_of new_bytes new_spans ≡ stacks_of bytes spans ++ name ∷ []

name_behind : (bytes name : List ℕ) (spans : List Span) (end : ℕ) → AreTexts bytes spans → IsUtf8 name → end ≡ length bytes + length name → NameKept bytes spans name (bytes ++ name) (spans ++ record { start = length bytes; end = end } ∷ [])
name_behind bytes name spans end h utf8 e =
    let P : Span → Type 0 = λ span. (span.start ≤ span.end) × (span.end ≤ length bytes) in
    let Q : Span → Type 0 = λ span. (span.start ≤ span.end) × (span.end ≤ length (bytes ++ name)) in
    let grows : (span : Span) → P span → Q span = λ span l. (l.0, omega (arith, l.1, length-append bytes name)) in
    let names = stacks_of-push bytes name spans end e h.within in
    record {
      texts_are = record {
        within = All-push Q spans _ (All-weaker P Q grows spans h.within) (omega arith, omega (arith, length-append bytes name));
        texts = All-same IsUtf8 _ _ names (All-push IsUtf8 (stacks_of bytes spans) name h.texts utf8);
      };
      names_are = names;
    }

pub name_kept : (bytes name : List ℕ) (spans : List Span) (start end : ℕ) (new_bytes : List ℕ) (new_spans : List Span) → AreTexts bytes spans → IsUtf8 name → new_bytes ≡ bytes ++ name → start ≡ length bytes → end ≡ length new_bytes → new_spans ≡ spans ++ record { start = start; end = end } ∷ [] → NameKept bytes spans name new_bytes new_spans
name_kept bytes name spans start end new_bytes new_spans h utf8 b s e n =
    rw (b, n, s) (name_behind bytes name spans end h utf8 (e ∙ ap length b ∙ length-append bytes name))

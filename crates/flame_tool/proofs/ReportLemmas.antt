-- What was said of ends while others still came, and what no end changes.
use Rattle.std.proofs.Common.{◌≡◌, ◌∙◌, ◌++◌, ◌||◌, ◌-◌, ◌^◌, ℕ, Bool, true, false, List, [], ◌∷◌, Option, ap, append-nil, arith, inl, inr, nat_le, nat_lt, refl, subst, sym}
use Rattle.std.specs.Prelude.{if◌then◌else◌}
use Rattle.std.specs.List.{flat_map}
use Rattle.std.proofs.lemmas.Bool.{leb-false, leb-true, ltb-false, ltb-true}
use Rattle.std.proofs.lemmas.List.Concat.{flat_map-append}
use Rattle.folded_lines.specs.StrictStreams.{strict_ending_fault}
use Rattle.command_line.specs.declared.plans.Plan.{Plan}
use Rattle.source_views.specs.Messages.{HasFailed, Tells, message_of_ending, message_of_failure, message_of_strict_fault}
use Rattle.source_views.specs.declared.failures.Failure.TheVariants.{Unreadable}
use Rattle.source_views.proofs.MessageTexts.{tells_more}
use Rattle.live_lines.specs.Ends.{ToldEnd}
use Rattle.live_lines.specs.Settings.{counted_numbers, known_numbers}
use Rattle.live_lines.proofs.SettingLemmas.{counted_same, same_known}
use Rattle.flame_tool.specs.ToldLive.{is_stopped}
use Rattle.flame_tool.specs.checked.EndReports.{TellsUnlessFailed, files_numbers, has_failed, reports_setting, said_at_once, strict_number}
use Rattle.flame_tool.specs.checked.LiveSaying.{message_of_counted, said_of_told, tellable_count}

-- ---- what was said

by_failing : (less most : Bool) (before after : ℕ) → nat_lt before after ≡ less → nat_le (2 ^ 64 - 1) after ≡ most → (less || most) ≡ true → HasFailed before after
by_failing true most before after less_is most_is failed = inl (ltb-true before after less_is)
by_failing false true before after less_is most_is failed = inr (leb-true (2 ^ 64 - 1) after most_is)
by_failing false false before after less_is most_is failed = absurd (cc)

failing_by : (less most : Bool) (before after : ℕ) → nat_lt before after ≡ less → nat_le (2 ^ 64 - 1) after ≡ most → HasFailed before after → (less || most) ≡ true
failing_by true most before after less_is most_is failed = refl
failing_by false true before after less_is most_is failed = refl
failing_by false false before after less_is most_is (inl rose) = absurd (omega (arith, rose, ltb-false before after less_is))
failing_by false false before after less_is most_is (inr top) = absurd (omega (arith, top, leb-false (2 ^ 64 - 1) after most_is))

pub tells_of : (text : List ℕ) (old new : Option (List ℕ)) (before after : ℕ) → TellsUnlessFailed text old new before after → Tells text old new before after
tells_of text old new before after told = by (has_failed before after) refl
  where
    by : (failed : Bool) → has_failed before after ≡ failed → Tells text old new before after
    by true failed = inr (by_failing (nat_lt before after) (nat_le (2 ^ 64 - 1) after) before after refl refl failed)
    by false failed = inl (told failed)

unless_of : (text : List ℕ) (old new : Option (List ℕ)) (before after : ℕ) → Tells text old new before after → TellsUnlessFailed text old new before after
unless_of text old new before after (inl told) whole = told
unless_of text old new before after (inr failed) whole =
    let fails : has_failed before after ≡ true = failing_by (nat_lt before after) (nat_le (2 ^ 64 - 1) after) before after refl refl failed in absurd (cc)

-- of one more end
pub said_more : (is_at_once : Bool) (plan : Plan) (told : List ToldEnd) (end : ToldEnd) (old mid new : Option (List ℕ)) (before between after : ℕ) → is_at_once ≡ true
    → TellsUnlessFailed (said_at_once is_at_once plan told) old mid before between → Tells (message_of_counted plan end.is_lost end.source (end.ending, end.count)) mid new between after
    → TellsUnlessFailed (said_at_once is_at_once plan (told ++ end ∷ [])) old new before after
said_more false plan told end old mid new before between after once said here = absurd (cc)
said_more true plan told end old mid new before between after once said here =
    let say = λ (end : ToldEnd). message_of_counted plan end.is_lost end.source (end.ending, end.count) in
    let text : said_of_told plan told ++ say end ≡ said_of_told plan (told ++ end ∷ []) = ap (λ more. said_of_told plan told ++ more) (sym (append-nil (say end))) ∙ sym (flat_map-append say told (end ∷ [])) in
    unless_of (said_of_told plan (told ++ end ∷ [])) old new before after
    (subst (λ said. Tells said old new before after) text (tells_more (said_of_told plan told) (say end) old mid new before between after (tells_of (said_of_told plan told) old mid before between said) here))

-- it depends on which files are read, and how
said_with : List (List ℕ) → Bool → List ToldEnd → List ℕ
said_with files is_strict told = flat_map (λ (end : ToldEnd). if is_stopped end.ending
    then (if end.is_lost then [] else message_of_failure files (Unreadable end.source))
    else (if is_strict then message_of_strict_fault files end.source (strict_ending_fault (tellable_count end.count) end.ending)
    else message_of_ending files end.source end.ending)) told

same_said : (is_at_once : Bool) (plan plan' : Plan) (told : List ToldEnd) → plan'.files ≡ plan.files → plan'.is_strict ≡ plan.is_strict → said_at_once is_at_once plan' told ≡ said_at_once is_at_once plan told
unfolding said_with
same_said true plan plan' told files strict = λ i. said_with (files i) (strict i) told
same_said false plan plan' told files strict = refl

-- ---- what no end changes

record SameReports (name name' : ℕ) (contents contents' : Option (List ℕ)) (failures failures' : ℕ) (is_strict is_strict' : Bool) (files files' : List (List ℕ)) : Type 0 where
  pub name_is : name' ≡ name
  pub contents_are : contents' ≡ contents
  pub failures_are : failures' ≡ failures
  pub strict_is : is_strict' ≡ is_strict
  pub files_are : files' ≡ files

same_strict : (one other : Bool) → strict_number one ≡ strict_number other → one ≡ other
same_strict true true is = refl
same_strict true false is = absurd (omega (arith, is))
same_strict false true is = absurd (omega (arith, is))
same_strict false false is = refl

same_files : (one other : List (List ℕ)) → files_numbers one ≡ files_numbers other → one ≡ other
same_files [] [] is = refl
same_files [] (file ∷ files) is = absurd (cc)
same_files (file ∷ files) [] is = absurd (cc)
same_files (file ∷ files) (other ∷ others) is =
    let both = counted_same file other (files_numbers files) (files_numbers others) is in
    let here = both.0 in
    let behind = same_files files others both.1 in
    λ i. here i ∷ behind i

same_reports : (name name' : ℕ) (contents contents' : Option (List ℕ)) (failures failures' : ℕ) (is_strict is_strict' : Bool) (files files' : List (List ℕ))
    → reports_setting name' contents' failures' is_strict' files' ≡ reports_setting name contents failures is_strict files
    → SameReports name name' contents contents' failures failures' is_strict is_strict' files files'
same_reports name name' contents contents' failures failures' is_strict is_strict' files files' is =
    let rest : counted_numbers (known_numbers contents') ++ files_numbers files' ≡ counted_numbers (known_numbers contents) ++ files_numbers files = cc in
    let both = counted_same (known_numbers contents') (known_numbers contents) (files_numbers files') (files_numbers files) rest in
    let strict : strict_number is_strict' ≡ strict_number is_strict = cc in
    record {
      name_is = cc;
      contents_are = same_known contents' contents both.0;
      failures_are = cc;
      strict_is = same_strict is_strict' is_strict strict;
      files_are = same_files files' files both.1;
    }

-- what is left of reports that were made for a plan and an outlet: it is that outlet, which was told of the ends behind what stood there
pub left_tell : {E : Type 0} (contents : E → Option (List ℕ)) (failures : E → ℕ) (plan made left : Plan) (start begun kept err : E) (name name' : ℕ) (is_at_once : Bool) (told : List ToldEnd) → made ≡ plan → begun ≡ start
    → reports_setting name' (contents kept) (failures kept) left.is_strict left.files ≡ reports_setting name (contents begun) (failures begun) made.is_strict made.files
    → TellsUnlessFailed (said_at_once is_at_once left told) (contents kept) (contents err) (failures kept) (failures err)
    → (name' ≡ name) × Tells (said_at_once is_at_once plan told) (contents start) (contents err) (failures start) (failures err)
left_tell contents failures plan made left start begun kept err name name' is_at_once told planned starts setting said =
    let same = same_reports name name' (contents begun) (contents kept) (failures begun) (failures kept) made.is_strict left.is_strict made.files left.files setting in
    let text = same_said is_at_once plan left told (same.files_are ∙ ap (λ (plan : Plan). plan.files) planned) (same.strict_is ∙ ap (λ (plan : Plan). plan.is_strict) planned) in (
      same.name_is,
      subst (λ before. Tells (said_at_once is_at_once plan told) (contents start) (contents err) before (failures err)) (same.failures_are ∙ ap failures starts)
          (subst (λ old. Tells (said_at_once is_at_once plan told) old (contents err) (failures kept) (failures err)) (same.contents_are ∙ ap contents starts)
          (subst (λ text. Tells text (contents kept) (contents err) (failures kept) (failures err)) text (tells_of (said_at_once is_at_once left told) (contents kept) (contents err) (failures kept) (failures err) said))),
    )

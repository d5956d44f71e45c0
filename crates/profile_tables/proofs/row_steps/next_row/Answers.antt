use Rattle.std.proofs.Common.{rules}
use Rattle.std.proofs.Common.{◌≡◌, ◌<◌, length, Ok, get_or, take, ◌∙◌, ap, subst, refl, arith}
use Rattle.stack_core.specs.Records.{names_at}
use Rattle.sample_tables.specs.Rows.{stack_at}
use Rattle.profile_tables.specs.Samples.{stack_of, weight_of}
use Rattle.profile_messages.specs.Offsets.{content_at}
use Rattle.profile_tables.specs.checked.RowSteps.{IsKnownBy, IsToldSample}
use Rattle.profile_tables.specs.checked.SeenOutline.{seen_outline}
use Rattle.profile_tables.specs.checked.Tellers.{told_of}
use Rattle.profile_tables.proofs.RestLemmas.{within}
use Rattle.profile_tables.proofs.StepLemmas.{known-again, gives-next, tells-new, tells-depth}
use Rattle.profile_tables.proofs.row_steps.next_row.Goals as goal

pub returns-in-Some-known_row-clause-step : goal.returns-in-Some-known_row-clause-step
returns-in-Some-known_row-clause-step c =
    let outline = c.args.outline.now in
    let places = take c.args.left.past outline.samples.items in
    let told = told_of c.args.teller.now in
    let known = c.in-Some-known_row.field-0 in
    let is = known-again c.args.file.now c.in-Some.at outline c.args.teller.now c.front_of-front.result c.args.total known c.front_of-front.ensures (subst (λ teller. IsKnownBy c.args.file.now teller c.front_of-front.result c.args.total known) c.look_ahead.ensures c.in-Some-known_row.ensures.known) c.requires.teller in
    let lt : c.args.left.next < length places = c.in-Some.ensures.is_there in
    let at_is : c.in-Some.at ≡ get_or places c.args.left.next 0 = c.in-Some.ensures.is in
    let fits = is.fits in (
      record {
        known = is.was_told;
        same = ap told_of (c.in-Some-known_row.ensures.same ∙ c.look_ahead.ensures);
        gives = gives-next c.args.file.now (seen_outline outline) places c.args.left.next c.args.total c.in-Some.at (names_at told.names (stack_at told.stacks known.row)) known.weight lt at_is is.none is.stack is.weight_is;
      },
      omega (arith, fits),
      record { total_limit = fits; is_there = c.in-Some.ensures.before },
    )

pub returns-in-Ok-clause-step : goal.returns-in-Ok-clause-step
returns-in-Ok-clause-step c =
    let outline = c.args.outline.now in
    let tables = seen_outline outline in
    let places = take c.args.left.past outline.samples.items in
    let at = c.in-Some.at in
    let row = c.in-Ok.field-0 in
    let told = told_of c.args.teller.now in
    let told' = told_of c.tell_sample.new.self in
    let sample = content_at c.args.file.now at in
    let found : IsToldSample tables c.args.total sample (told_of c.known_row.new.teller) told' (Ok row) =
    subst (IsToldSample tables c.args.total sample (told_of c.known_row.new.teller) told') c.in-Ok.is c.in_ok-names.ensures.told in
    let is = subst (λ before. IsToldSample tables c.args.total sample before told' (Ok row)) (ap told_of (c.known_row.ensures.same ∙ c.look_ahead.ensures)) found in
    let stack = stack_of tables.frames (content_at c.args.file.now at) in
    let lt : c.args.left.next < length places = c.in-Some.ensures.is_there in
    let at_is : at ≡ get_or places c.args.left.next 0 = c.in-Some.ensures.is in
    let limits = within tables c.args.total (content_at c.args.file.now at) is.0 in
    let deep = limits.0 in
    let heavy = limits.1 in
    let weighs : row.weight ≡ weight_of tables.chosen (content_at c.args.file.now at) = is.2 in
    let depth = tells-depth told told' row.names row.frames stack is.1 in (
      tells-new told told' row.names row.frames stack row.weight _ _ is.1
          (gives-next c.args.file.now tables places c.args.left.next c.args.total at stack row.weight lt at_is is.0 refl weighs),
      (omega (arith, deep, depth), omega (arith, heavy, weighs)),
      record { total_limit = omega (arith, heavy, weighs); is_there = c.in-Some.ensures.before },
    )

pub returns-in_default : goal.returns-in_default
returns-in_default c = search rules

pub known_row-requires : goal.known_row-requires
known_row-requires c = search rules

pub returns-in-Some-known_row-clause-teller : goal.returns-in-Some-known_row-clause-teller
returns-in-Some-known_row-clause-teller c = search rules

pub returns-in-Some-known_row-clause-count : goal.returns-in-Some-known_row-clause-count
returns-in-Some-known_row-clause-count c = search rules

pub returns-in-Some-known_row-clause-refused : goal.returns-in-Some-known_row-clause-refused
returns-in-Some-known_row-clause-refused c = search rules

pub returns-in-Some-known_row-clause-stacks : goal.returns-in-Some-known_row-clause-stacks
returns-in-Some-known_row-clause-stacks c = search rules

pub returns-in-Some-known_row-clause-names : goal.returns-in-Some-known_row-clause-names
returns-in-Some-known_row-clause-names c = search rules

pub tell_sample-requires : goal.tell_sample-requires
tell_sample-requires c = search rules

pub returns-in_err-names : goal.returns-in_err-names
returns-in_err-names c = search rules

pub returns-in-Ok-clause-teller : goal.returns-in-Ok-clause-teller
returns-in-Ok-clause-teller c = search rules

pub returns-in-Ok-clause-count : goal.returns-in-Ok-clause-count
returns-in-Ok-clause-count c = search rules

pub returns-in-Ok-clause-refused : goal.returns-in-Ok-clause-refused
returns-in-Ok-clause-refused c = search rules

pub returns-in-Ok-clause-stacks : goal.returns-in-Ok-clause-stacks
returns-in-Ok-clause-stacks c = search rules

pub returns-in-Ok-clause-names : goal.returns-in-Ok-clause-names
returns-in-Ok-clause-names c = search rules

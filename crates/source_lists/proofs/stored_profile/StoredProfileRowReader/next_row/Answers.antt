use Rattle.std.proofs.Common.{◌≡◌, ◌∙◌, ap, subst, sym}
use Rattle.std.proofs.lemmas.Bool.{false≢true}
use Rattle.source_lists.specs.checked.StoredProfiles.{WasTried, profile_gives, profile_told}
use Rattle.source_lists.specs.declared.stored_profile.StoredProfile.{StoredProfile}
use Rattle.source_lists.specs.declared.stored_profile.StoredProfile.TheVariants.{Loaded, Unreadable}
use Rattle.source_lists.proofs.ProfileLemmas.{few_given, loaded_rest, possible_given, steps_among_more}
use Rattle.source_lists.proofs.stored_profile.StoredProfileRowReader.next_row.Goals as goal

pub returns-in_err-load-clause-few : goal.returns-in_err-load-clause-few
returns-in_err-load-clause-few c =
    few_given c.args.self.now (λ rows is. absurd (false≢true (c.in_err-load.ensures.once (subst WasTried (sym is) tt))))

pub returns-in_err-load-clause-possible : goal.returns-in_err-load-clause-possible
returns-in_err-load-clause-possible c = possible_given c.load.new.self

pub returns-in-Loaded-clause-step : goal.returns-in-Loaded-clause-step
returns-in-Loaded-clause-step c =
    let rows = c.in-Loaded.rows in
    let left = c.next_row.new.self in
    steps_among_more (λ rest. rest ≡ rows.rest) (profile_gives c.args.self.now) (λ rest. rest ≡ left.rest)
    (λ rest is. c.load.ensures.gives rest (subst (λ (profile : StoredProfile). profile_gives profile rest) (sym c.in-Loaded.is) is)) rows.told (profile_told c.args.self.now) left.told
    (sym (ap profile_told c.in-Loaded.is) ∙ c.load.ensures.told) c.next_row.result c.next_row.ensures.step

pub returns-in-Loaded-clause-few : goal.returns-in-Loaded-clause-few
returns-in-Loaded-clause-few c =
    few_given c.args.self.now
    (λ rows is. c.next_row.ensures.few rows.rest (ap loaded_rest (sym is ∙ (sym (c.load.ensures.kept (subst WasTried (sym is) tt)) ∙ c.in-Loaded.is))))

pub returns-in-Unreadable-clause-few : goal.returns-in-Unreadable-clause-few
returns-in-Unreadable-clause-few c =
    few_given c.args.self.now
    (λ rows is. let clash : Loaded rows ≡ Unreadable = sym is ∙ (sym (c.load.ensures.kept (subst WasTried (sym is) tt)) ∙ c.in-Unreadable.is) in cc)

pub returns-in-Unreadable-clause-possible : goal.returns-in-Unreadable-clause-possible
returns-in-Unreadable-clause-possible c = possible_given c.load.new.self

use Rattle.std.proofs.Common.{◌≡◌, ◌≢◌, ℕ, List, [], ◌∷◌, ◌++◌, All, map, sym, ap, subst, ◌∙◌, rules}
use Rattle.std.specs.Prelude.{IfOk}
use Rattle.std.proofs.lemmas.List.Elements.{All-nil, All-cons, All-weaker}
use Rattle.std.proofs.lemmas.Result.{IfOk-weaker, IfOk-from_err}
use Rattle.stack_core.specs.Parts.{ReadsInParts}
use Rattle.stack_core.specs.Reading.{Rest, IsSourceLimited}
use Rattle.stack_core.specs.declared.endings.SourceEnd.TheVariants.{Stopped}
use Rattle.run_options.specs.declared.choices.Pick.{Pick}
use Rattle.run_options.specs.declared.choices.Naming.{Naming}
use Rattle.profile_messages.specs.SampleTypes.{chosen_type}
use Rattle.profile_tables.specs.declared.part.Part.{Part}
use Rattle.profile_tables.specs.declared.steps.Start.{Start}
use Rattle.profile_tables.specs.declared.steps.Start.TheVariants as start
use Rattle.profile_tables.specs.Samples.{read_pprof}
use Rattle.profile_tables.specs.State.{State, nothing_told}
use Rattle.profile_tables.specs.checked.PartReaders.{IsPartReader}
use Rattle.profile_tables.specs.checked.Rests.{IsStart}
use Rattle.profile_tables.proofs.PartLemmas.{fault-alone}
use Rattle.profile_tables.proofs.row_reader.PprofRows.parts.Goals as goal
use Rattle.profile_tables.proofs.row_reader.PprofRows.parts.Goals.{In_ok-push-in-Fault}

-- ---- the tables are read

opened : (seen file : List ℕ) (pick : Pick) (naming : Naming) (found : Start) (part : Part) → seen ≡ file → found ≡ start.Part part → IsStart seen pick naming found → IsStart file pick naming (start.Part part)
opened seen file pick naming found part same is starts =
    subst (λ bytes. IsStart bytes pick naming (start.Part part)) same (subst (IsStart seen pick naming) is starts)

pub readers_of_parts-requires-clause-chosen : goal.readers_of_parts-requires-clause-chosen
readers_of_parts-requires-clause-chosen c =
    (opened c.as_slice.result.now c.args.bytes c.args.pick.now c.args.naming c.in_ok-whole.field-0 c.in-Part.whole c.as_slice.ensures c.in-Part.is c.in_ok-whole.ensures).1

pub returns-in-Part-clause-parts : goal.returns-in-Part-clause-parts
returns-in-Part-clause-parts c =
    subst (λ (rest : Rest). IfOk c.readers_of_parts.result (λ readers. ReadsInParts rest (map (λ (reader : State). reader.rest) readers.items)))
    (opened c.as_slice.result.now c.args.bytes c.args.pick.now c.args.naming c.in_ok-whole.field-0 c.in-Part.whole c.as_slice.ensures c.in-Part.is c.in_ok-whole.ensures).0
    c.readers_of_parts.ensures.parts

-- ---- each reader

all-told : (file : List ℕ) (pick : Pick) (readers : List State) → All (IsPartReader file pick) readers → All (λ (reader : State). reader.told ≡ nothing_told) readers
all-told file pick readers = All-weaker (IsPartReader file pick) (λ reader. reader.told ≡ nothing_told) (λ reader is. is.told) readers

all-typed : (file : List ℕ) (pick : Pick) (readers : List State) → All (IsPartReader file pick) readers → All (λ (reader : State). reader.chosen_type ≡ chosen_type file pick) readers
all-typed file pick readers = All-weaker (IsPartReader file pick) (λ reader. reader.chosen_type ≡ chosen_type file pick) (λ reader is. is.chosen_type) readers

all-limited : (file : List ℕ) (pick : Pick) (readers : List State) → All (IsPartReader file pick) readers → All (λ (reader : State). IsSourceLimited reader.rest.samples) readers
all-limited file pick readers = All-weaker (IsPartReader file pick) (λ reader. IsSourceLimited reader.rest.samples) (λ reader is. is.limits) readers

all-unstopped : (file : List ℕ) (pick : Pick) (readers : List State) → All (IsPartReader file pick) readers → All (λ (reader : State). (after : ℕ) → reader.rest.ending ≢ Stopped after) readers
all-unstopped file pick readers = All-weaker (IsPartReader file pick) (λ reader. (after : ℕ) → reader.rest.ending ≢ Stopped after) (λ reader is. is.unstopped) readers

pub returns-in-Part-clause-told : goal.returns-in-Part-clause-told
returns-in-Part-clause-told c =
    IfOk-weaker c.readers_of_parts.result (λ readers. All (IsPartReader c.args.bytes c.args.pick.now) readers.items) _
    (λ readers. all-told c.args.bytes c.args.pick.now readers.items) c.readers_of_parts.ensures.readers

pub returns-in-Part-clause-chosen_type : goal.returns-in-Part-clause-chosen_type
returns-in-Part-clause-chosen_type c =
    IfOk-weaker c.readers_of_parts.result (λ readers. All (IsPartReader c.args.bytes c.args.pick.now) readers.items) _
    (λ readers. all-typed c.args.bytes c.args.pick.now readers.items) c.readers_of_parts.ensures.readers

pub returns-in-Part-clause-limits : goal.returns-in-Part-clause-limits
returns-in-Part-clause-limits c =
    IfOk-weaker c.readers_of_parts.result (λ readers. All (IsPartReader c.args.bytes c.args.pick.now) readers.items) _
    (λ readers. all-limited c.args.bytes c.args.pick.now readers.items) c.readers_of_parts.ensures.readers

pub returns-in-Part-clause-unstopped : goal.returns-in-Part-clause-unstopped
returns-in-Part-clause-unstopped c =
    IfOk-weaker c.readers_of_parts.result (λ readers. All (IsPartReader c.args.bytes c.args.pick.now) readers.items) _
    (λ readers. all-unstopped c.args.bytes c.args.pick.now readers.items) c.readers_of_parts.ensures.readers

-- ---- the tables have a fault

pushed : (c : In_ok-push-in-Fault) → c.push.new.self.items ≡ c.at_fault.result ∷ []
pushed c = c.in_ok-push-in-Fault.ensures.items ∙ ap (λ (list : List State). list ++ c.at_fault.result ∷ []) c.in_ok-readers-in-Fault.ensures.items

alone : (c : In_ok-push-in-Fault) → All (IsPartReader c.args.bytes c.args.pick.now) c.push.new.self.items
alone c =
    let file = c.args.bytes in
    let pick = c.args.pick.now in
    let reader : State = c.at_fault.result in
    let is : IsPartReader file pick reader = subst (λ p. IsPartReader file p reader) c.in_ok-pick-in-Fault.ensures c.at_fault.ensures.reader in
    subst (All (IsPartReader file pick)) (sym (pushed c)) (All-cons (IsPartReader file pick) reader [] is (All-nil (IsPartReader file pick)))

pub returns-in_ok-push-in-Fault-clause-parts : goal.returns-in_ok-push-in-Fault-clause-parts
returns-in_ok-push-in-Fault-clause-parts c =
    let whole : Rest = read_pprof c.args.bytes c.args.pick.now c.args.naming in
    subst (λ (list : List State). ReadsInParts whole (map (λ (reader : State). reader.rest) list)) (sym (pushed c))
    (fault-alone whole c.at_fault.result.rest c.in-Fault.fault c.at_fault.ensures.rest)

pub returns-in_ok-push-in-Fault-clause-told : goal.returns-in_ok-push-in-Fault-clause-told
returns-in_ok-push-in-Fault-clause-told c = all-told c.args.bytes c.args.pick.now c.push.new.self.items (alone c)

pub returns-in_ok-push-in-Fault-clause-chosen_type : goal.returns-in_ok-push-in-Fault-clause-chosen_type
returns-in_ok-push-in-Fault-clause-chosen_type c = all-typed c.args.bytes c.args.pick.now c.push.new.self.items (alone c)

pub returns-in_ok-push-in-Fault-clause-limits : goal.returns-in_ok-push-in-Fault-clause-limits
returns-in_ok-push-in-Fault-clause-limits c = all-limited c.args.bytes c.args.pick.now c.push.new.self.items (alone c)

pub returns-in_ok-push-in-Fault-clause-unstopped : goal.returns-in_ok-push-in-Fault-clause-unstopped
returns-in_ok-push-in-Fault-clause-unstopped c = all-unstopped c.args.bytes c.args.pick.now c.push.new.self.items (alone c)

pub returns-in_err-whole : goal.returns-in_err-whole
returns-in_err-whole c = record {
  parts = IfOk-from_err _ _ c.from_residual.ensures.0;
  few = IfOk-from_err _ _ c.from_residual.ensures.0;
  told = IfOk-from_err _ _ c.from_residual.ensures.0;
  chosen_type = IfOk-from_err _ _ c.from_residual.ensures.0;
  limits = IfOk-from_err _ _ c.from_residual.ensures.0;
  unstopped = IfOk-from_err _ _ c.from_residual.ensures.0;
}

pub readers_of_parts-requires-clause-some : goal.readers_of_parts-requires-clause-some
readers_of_parts-requires-clause-some c = search rules

pub returns-in_err-pick-in-Fault : goal.returns-in_err-pick-in-Fault
returns-in_err-pick-in-Fault c = record {
  parts = IfOk-from_err _ _ c.from_residual-in_err-pick-in-Fault.ensures.0;
  few = IfOk-from_err _ _ c.from_residual-in_err-pick-in-Fault.ensures.0;
  told = IfOk-from_err _ _ c.from_residual-in_err-pick-in-Fault.ensures.0;
  chosen_type = IfOk-from_err _ _ c.from_residual-in_err-pick-in-Fault.ensures.0;
  limits = IfOk-from_err _ _ c.from_residual-in_err-pick-in-Fault.ensures.0;
  unstopped = IfOk-from_err _ _ c.from_residual-in_err-pick-in-Fault.ensures.0;
}

pub returns-in_err-readers-in-Fault : goal.returns-in_err-readers-in-Fault
returns-in_err-readers-in-Fault c = record {
  parts = IfOk-from_err _ _ c.from_residual-in_err-readers-in-Fault.ensures.0;
  few = IfOk-from_err _ _ c.from_residual-in_err-readers-in-Fault.ensures.0;
  told = IfOk-from_err _ _ c.from_residual-in_err-readers-in-Fault.ensures.0;
  chosen_type = IfOk-from_err _ _ c.from_residual-in_err-readers-in-Fault.ensures.0;
  limits = IfOk-from_err _ _ c.from_residual-in_err-readers-in-Fault.ensures.0;
  unstopped = IfOk-from_err _ _ c.from_residual-in_err-readers-in-Fault.ensures.0;
}

pub returns-in_err-push-in-Fault : goal.returns-in_err-push-in-Fault
returns-in_err-push-in-Fault c = record {
  parts = IfOk-from_err _ _ c.from_residual-in_err-push-in-Fault.ensures.0;
  few = IfOk-from_err _ _ c.from_residual-in_err-push-in-Fault.ensures.0;
  told = IfOk-from_err _ _ c.from_residual-in_err-push-in-Fault.ensures.0;
  chosen_type = IfOk-from_err _ _ c.from_residual-in_err-push-in-Fault.ensures.0;
  limits = IfOk-from_err _ _ c.from_residual-in_err-push-in-Fault.ensures.0;
  unstopped = IfOk-from_err _ _ c.from_residual-in_err-push-in-Fault.ensures.0;
}

pub returns-in-Part-clause-few : goal.returns-in-Part-clause-few
returns-in-Part-clause-few c = search rules

pub returns-in_ok-push-in-Fault-clause-few : goal.returns-in_ok-push-in-Fault-clause-few
returns-in_ok-push-in-Fault-clause-few c = search rules

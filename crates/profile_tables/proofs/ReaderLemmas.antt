-- A reader has fewer than 2 ^ 64 samples to give, and lends the type that it tells.
use Rattle.std.proofs.Common.{◌≡◌, ℕ, ◌<◌, ◌≤◌, ◌^◌, List, length, Option, Some, None, ◌∙◌, sym, ap, subst, drop, take, map, arith}
use Rattle.std.specs.Prelude.{Vec, is_some, if◌then◌else◌}
use Rattle.std.specs.Arc.{arc_value}
use Rattle.std.specs.Borrow.{Bor}
use Rattle.std.specs.Option.{option_copied}
use Rattle.std.specs.declared.alloc.Global.{Global}
use Rattle.std.proofs.lemmas.List.{length-map, length-take}
use Rattle.std.proofs.Common.{length-drop}
use Rattle.stack_core.specs.declared.endings.SourceEnd.{SourceEnd}
use Rattle.stack_core.specs.Reading.{Rest}
use Rattle.run_options.specs.declared.choices.Pick.{Pick}
use Rattle.run_options.specs.declared.choices.Naming.{Naming}
use Rattle.stack_core.specs.Parts.{bytes_of}
use Rattle.profile_tables.specs.declared.part.Part.{Part}
use Rattle.profile_tables.specs.declared.row_reader.PprofRows.TheInside.{Inside}
use Rattle.profile_messages.specs.declared.types.SampleType.{SampleType}
use Rattle.profile_messages.specs.Offsets.{found_at}
use Rattle.profile_messages.specs.SampleTypes.{chosen_type}
use Rattle.profile_tables.specs.checked.SeenOutline.{seen_outline}
use Rattle.profile_tables.specs.SeenTables.{LendsType}
use Rattle.profile_tables.specs.State.{State, told_type}
use Rattle.profile_tables.specs.checked.View.{rest_by, rest_or_ended, state_of, IsTypeOf, IsReader}
use Rattle.profile_tables.proofs.RestLemmas.{few-read, few-pprof}

few-items : {A : Type 0} (v : Vec A Global) → length v.items < 2 ^ 64
few-items v = let s : v.cap < 2 ^ 63 = v.small in let o : v.len ≡ length v.items = v.ok.0 in let p : v.len ≤ v.cap = v.ok.1 in omega arith

few-rest : (file : List ℕ) (pick : Pick) (naming : Naming) (part : Option Part) (given total : ℕ) → length file < 2 ^ 64 → length (rest_by file pick naming part given total).samples < 2 ^ 64
few-rest file pick naming None given total short = let a = few-pprof file pick naming in omega (arith, a, short)
few-rest file pick naming (Some part) given total short =
    let all : List ℕ = (arc_value part.outline).samples.items in
    let places : List ℕ = take part.past all in
    let a = few-read (seen_outline (arc_value part.outline)) total (map (found_at file) (drop given places)) in
    let b = length-map (drop given places) (found_at file) in
    let d = length-drop given places in
    let e = length-take part.past all in
    let f = few-items (arc_value part.outline).samples in omega (arith, a, b, d, e, f)

few-or-ended : (o : Option SourceEnd) (rest : Rest) → length rest.samples < 2 ^ 64 → length (rest_or_ended o rest).samples < 2 ^ 64
few-or-ended None rest few = few
few-or-ended (Some ending) rest few = omega arith

pub few-state : (a : Inside) (state : State) → state_of a ≡ state → length (bytes_of a.bytes) < 2 ^ 64 → length state.rest.samples < 2 ^ 64
few-state a state is short =
    subst (λ (s : State). length s.rest.samples < 2 ^ 64) is
    (few-or-ended a.ended _ (few-rest (bytes_of a.bytes) a.pick a.naming a.part a.given a.total short))

-- ---- the type that is told

type-of : (a : Inside) (state : State) (part : Option Part) → state_of a ≡ state → a.part ≡ part → told_type state ≡ (if is_some part then chosen_type (bytes_of a.bytes) a.pick else None)
type-of a state part is there = ap told_type (sym is) ∙ ap (λ o. if is_some o then chosen_type (bytes_of a.bytes) a.pick else None) there

pub lends-nothing : (a : Inside) (state : State) → state_of a ≡ state → a.part ≡ None → told_type state ≡ None
lends-nothing a state is none = type-of a state None is none

lends : (found : Option SampleType) (lent : Option (Bor SampleType)) → found ≡ option_copied lent → LendsType found lent
lends found None is = is
lends found (Some type) is = is

pub lends-type : (a : Inside) (state : State) (part : Part) (lent : Option (Bor SampleType)) → IsReader a → state_of a ≡ state → a.part ≡ Some part → option_copied lent ≡ (arc_value part.outline).chosen_type → LendsType (told_type state) lent
lends-type a state part lent reader is there lent_is =
    lends (told_type state) lent (type-of a state (Some part) is there ∙ sym (subst (IsTypeOf (bytes_of a.bytes) a.pick) there reader.chosen) ∙ sym lent_is)

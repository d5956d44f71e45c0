use Rattle.std.proofs.Common.{ℕ, List, Some, refl, sym, ◌∙◌, ap}
use Rattle.std.specs.List.{slice_get}
use Rattle.std.specs.Option.{option_and_then}
use Rattle.std.proofs.lemmas.Option.{slice_get_read}
use Rattle.profile_tables.proofs.tables.Tables.location.Goals as goal

pub returns : goal.returns
returns c =
    ap (option_and_then (slice_get c.args.self.now.frames.items)) (sym c.in_ok-get.ensures)
    ∙ ap (λ (list : List (List (List ℕ))). slice_get list c.in_ok-get.field-0) (sym c.deref.ensures.value)
    ∙ slice_get_read c.deref.result.now _ c.in_ok-get.field-0 c.in_ok-names.names.now refl c.in_ok-names.ensures.lookup.3.0 c.in_ok-names.ensures.lookup.1
    ∙ ap Some (sym c.get-3.ensures)

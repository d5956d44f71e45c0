use Rattle.std.proofs.Common.{sym, subst, ap, ◌∙◌}
use Rattle.profile_tables.specs.declared.outline.Outline.{Outline}
use Rattle.profile_tables.specs.SeenTables.{LendsType}
use Rattle.profile_tables.specs.State.{told_type}
use Rattle.profile_tables.proofs.ReaderLemmas.{lends-type, lends-nothing}
use Rattle.profile_tables.proofs.row_reader.PprofRows.chosen_type.Goals as goal

pub returns-in_err-as_ref : goal.returns-in_err-as_ref
returns-in_err-as_ref c =
    subst (LendsType (told_type c.args.self.now)) (sym c.from_residual.ensures) (lends-nothing c.self.inside _ c.self.view_is (sym c.in_err-as_ref.ensures.value))

pub returns : goal.returns
returns c = lends-type c.self.inside _ c.in_ok-as_ref.field-0.now _ c.self.invariant c.self.view_is (sym c.in_ok-as_ref.ensures.value) (c.as_ref-2.ensures.value ∙ ap (λ (o : Outline). o.chosen_type) c.deref.ensures)

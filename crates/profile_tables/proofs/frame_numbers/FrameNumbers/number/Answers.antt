use Rattle.std.proofs.Common.{◌≡◌, [], Some, slice_get, subst, sym, ap, ◌∙◌}
use Rattle.std.proofs.lemmas.List.{get_or-map}
use Rattle.stack_core.specs.NamesInOrder.{with_name}
use Rattle.stack_core.specs.Prefixes.{IsPrefixOf}
use Rattle.profile_tables.specs.declared.kept_numbers.KeptNumbers.{KeptNumbers}
use Rattle.profile_tables.specs.checked.Frames.{text_in}
use Rattle.profile_tables.specs.checked.FrameNumbers.{text_at, AreKept}
use Rattle.call_tree.proofs.NameNumbers.{IsPrefixOf-with_name}
use Rattle.profile_tables.proofs.NumberLemmas.{known-again, kept-grown}
use Rattle.profile_tables.proofs.frame_numbers.FrameNumbers.number.Goals as goal

pub returns-in-Some-clause-names : goal.returns-in-Some-clause-names
returns-in-Some-clause-names c =
    known-again c.args.self.now.table (text_at c.args.frames.now c.args.place) c.in-Some.number (c.requires.known.frames c.args.place c.in-Some.number c.in-Some.ensures)

text : (c : goal.After-keep) → text_in c.args.frames.now c.index.result.now ≡ text_at c.args.frames.now c.args.place
text c = ap (text_in c.args.frames.now) c.index.ensures ∙ sym (get_or-map (text_in c.args.frames.now) c.args.frames.now.all.items c.args.place c.index.result.now [] c.requires.within)

at : (c : goal.After-keep) → slice_get c.look_up.new.self.table c.in_ok-number.number ≡ Some (text_at c.args.frames.now c.args.place)
at c = c.in_ok-number.ensures.number ∙ ap Some (text c)

pub returns-clause-known : goal.returns-clause-known
returns-clause-known c =
    let texts = text_at c.args.frames.now in
    let old = c.args.self.now.table in
    let new = c.look_up.new.self.table in
    let grown : IsPrefixOf old new =
    subst (IsPrefixOf old) (sym c.in_ok-number.ensures.names) (IsPrefixOf-with_name old (text_in c.args.frames.now c.index.result.now)) in
    let kept = subst (λ (kept : KeptNumbers). AreKept texts new kept.numbers.items) (sym c.in_ok-number.ensures.frames)
    (kept-grown texts old new c.args.self.now.frames.numbers.items grown c.requires.known.frames) in
    record {
      frames = c.keep.ensures texts new kept (at c);
      names = c.in_ok-number.ensures.known;
    }

pub returns-clause-names : goal.returns-clause-names
returns-clause-names c = c.in_ok-number.ensures.names ∙ ap (with_name c.args.self.now.table) (text c)

pub returns-clause-number : goal.returns-clause-number
returns-clause-number c = at c

use Rattle.std.proofs.lemmas.Result.{IfOk-from_err}
use Rattle.std.proofs.Common.{ℕ, List, ◌++◌, get_or, sym, ap, map, ◌∙◌, rules}
use Rattle.std.specs.Prelude.{string_bytes}
use Rattle.std.proofs.lemmas.List.{length-map}
use Rattle.profile_messages.specs.declared.messages.Line.{Line}
use Rattle.profile_messages.specs.declared.messages.Location.{Location}
use Rattle.profile_messages.specs.SeenProfile.{seen_location}
use Rattle.profile_tables.specs.checked.Frames.{text_of, name_in, named_in, lines_named, location_named}
use Rattle.profile_tables.proofs.LineLemmas.{no_location, spans-more, AreFramesOf-all, IsWhole-all}
use Rattle.profile_tables.proofs.lines.frames_of.Goals as goal

pub loop-location-preserved : goal.loop-location-preserved
loop-location-preserved c =
    let names = map string_bytes c.args.named.names.items in
    let text = text_of names c.args.naming in
    let table : List Location = c.deref-location-items.result.now in
    let location : Location = get_or table c.loop-location.location-index no_location in
    spans-more (λ (other : Location). location_named (named_in c.args.functions.now c.args.named) c.args.naming (seen_location c.args.profile.now.lines.items other))
    (map text c.loop-location.all.items) (map text c.append_frames.new.all.items) table c.loop-location.spans.items _ c.loop-location.location-index _
    c.loop-location-test.true c.loop-location.invariant
    (c.in_ok-append_frames.ensures c.args.naming names
    ∙ ap (λ (places : List ℕ). map text c.loop-location.all.items ++ lines_named (name_in c.args.functions.now places names) c.args.naming location.address c.lines-lines.result.now)
    c.deref.ensures.value
    ∙ ap (λ (lines : List Line). map text c.loop-location.all.items ++ lines_named (named_in c.args.functions.now c.args.named) c.args.naming location.address lines)
    c.lines-lines.ensures)
    (c.len-start.ensures ∙ c.loop-location.all.ok.0 ∙ sym (length-map c.loop-location.all.items text))
    (c.len-end.ensures ∙ c.append_frames.new.all.ok.0 ∙ sym (length-map c.append_frames.new.all.items text))
    c.in_ok-push.ensures.items

pub returns-clause-frames : goal.returns-clause-frames
returns-clause-frames c = AreFramesOf-all (named_in c.args.functions.now c.args.named) c.args.naming c.args.profile.now.lines.items _ c.deref-location-items.result.now
    c.loop-location.location-index _ c.deref-location-items.ensures.value c.requires c.loop-location-test.false c.loop-location.invariant

pub returns-clause-whole : goal.returns-clause-whole
returns-clause-whole c =
    IsWhole-all (named_in c.args.functions.now c.args.named) c.args.naming c.args.profile.now.lines.items c.args.profile.now.locations.items _ c.requires
    (AreFramesOf-all (named_in c.args.functions.now c.args.named) c.args.naming c.args.profile.now.lines.items _ c.deref-location-items.result.now
    c.loop-location.location-index _ c.deref-location-items.ensures.value c.requires c.loop-location-test.false c.loop-location.invariant)

pub returns-in_err-spans : goal.returns-in_err-spans
returns-in_err-spans c = record {
  frames = IfOk-from_err _ _ c.from_residual.ensures.0;
  whole = IfOk-from_err _ _ c.from_residual.ensures.0;
}

pub loop-location-init : goal.loop-location-init
loop-location-init c = search rules

pub offset_bounds-location-items-location-index : goal.offset_bounds-location-items-location-index
offset_bounds-location-items-location-index c = search rules

pub returns-in_err-append_frames : goal.returns-in_err-append_frames
returns-in_err-append_frames c = record {
  frames = IfOk-from_err _ _ c.from_residual-in_err-append_frames.ensures.0;
  whole = IfOk-from_err _ _ c.from_residual-in_err-append_frames.ensures.0;
}

pub returns-in_err-push : goal.returns-in_err-push
returns-in_err-push c = record {
  frames = IfOk-from_err _ _ c.from_residual-in_err-push.ensures.0;
  whole = IfOk-from_err _ _ c.from_residual-in_err-push.ensures.0;
}

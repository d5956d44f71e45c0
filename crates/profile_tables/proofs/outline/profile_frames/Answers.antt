use Rattle.std.proofs.Common.{◌≡◌, ℕ, List, ap}
use Rattle.std.proofs.lemmas.Result.{IfOk-weaker}
use Rattle.profile_tables.specs.declared.frames.Frames.{Frames}
use Rattle.profile_messages.specs.SeenProfile.{texts_of, seen_locations, IsProfileOf}
use Rattle.profile_tables.specs.Naming.{frames_of}
use Rattle.profile_tables.specs.checked.Frames.{frames_at, named_in, AreFramesOf}
use Rattle.profile_tables.proofs.FileLemmas.{frames_are}
use Rattle.profile_tables.proofs.outline.profile_frames.Goals as goal

pub returns-clause-frames : goal.returns-clause-frames
returns-clause-frames c =
    let profile = c.args.profile.now in
    IfOk-weaker c.frames_of.result
    (AreFramesOf (named_in c.args.functions.now c.in_ok-named.named) c.args.naming (seen_locations profile))
    (λ (frames : Frames). (file : List ℕ) → IsProfileOf file profile → (id : ℕ) → frames_at frames id ≡ frames_of file c.args.naming id)
    (λ frames are file profile_is id.
    frames_are file c.args.naming profile (texts_of c.deref.result.now) c.deref-2.result.now c.args.functions.now c.in_ok-named.named frames profile_is
    (ap texts_of c.deref.ensures.value) c.deref-2.ensures.value c.requires.functions c.in_ok-named.ensures are id)
    c.frames_of.ensures.frames

-- Worked lines behind messages, computed on the definitions.
use Rattle.std.proofs.Common.{◌≡◌, ◌&&◌, not, true, refl, [], ◌∷◌, ◌++◌, codes}
use Rattle.clap.specs.Walk.{Text}
use Rattle.stack_core.specs.declared.endings.ReadKind.TheVariants as kind
use Rattle.folded_lines.specs.declared.strictness.StrictKind.TheVariants as strict
use Rattle.source_views.specs.declared.failures.Failure.TheVariants as failure
use Rattle.byte_io.specs.declared.refusals.Refusal.TheVariants as refusal
use Rattle.profile_messages.specs.declared.types.SampleType.{SampleType}
use Rattle.flame_tool.specs.NextSteps.{begins_profile, next_step}
use Rattle.flame_tool.specs.declared.next_steps.Seen.TheVariants as seen
use Rattle.flame_tool.specs.declared.next_steps.Trouble.TheVariants as trouble

abbrev sample_type : Text → Text → SampleType
sample_type type units = record { name = type; unit = units }

abbrev line : Text → Text
line text = codes "  " ++ (text ++ 10 ∷ [])

one_file : next_step (codes "top" ∷ codes "-n" ∷ codes "5" ∷ codes "cpu.pb.gz" ∷ []) (codes "cpu.pb.gz" ∷ []) 0 (trouble.Fault kind.Compressed) seen.Nothing
    ≡ line (codes "it is compressed by gzip: gzip -dc cpu.pb.gz | flamecollect top --format pprof -n 5")
one_file = refl

the_input : next_step [] [] 0 (trouble.Fault kind.Compressed) seen.Nothing
    ≡ line (codes "it is compressed by gzip: gzip -dc FILE | flamecollect fold --format pprof")
the_input = refl

an_odd_name : next_step (codes "fold" ∷ codes "--format=pprof" ∷ codes "a b" ∷ []) (codes "a b" ∷ []) 0 (trouble.Fault kind.Compressed) seen.Nothing
    ≡ line (codes "it is compressed by gzip: gzip -dc 'a b' | flamecollect fold --format=pprof")
an_odd_name = refl

its_types : next_step (codes "types" ∷ codes "cpu.pb.gz" ∷ []) (codes "cpu.pb.gz" ∷ []) 0 (trouble.Fault kind.Compressed) seen.Nothing
    ≡ line (codes "it is compressed by gzip: gzip -dc cpu.pb.gz | flamecollect types /dev/stdin")
its_types = refl

two_files : next_step (codes "diff" ∷ codes "a.pb" ∷ codes "b.pb" ∷ []) (codes "a.pb" ∷ codes "b.pb" ∷ []) 1 (trouble.Fault kind.Compressed) seen.Nothing
    ≡ line (codes "it is compressed by gzip: gzip -dc FILE > FILE.pb, and read FILE.pb in its place")
two_files = refl

a_picture : next_step (codes "svg" ∷ codes "a.pb.gz" ∷ []) (codes "a.pb.gz" ∷ []) 0 (trouble.Fault kind.Compressed) seen.Nothing
    ≡ line (codes "it is compressed by gzip: gzip -dc FILE > FILE.pb, and read FILE.pb in its place")
a_picture = refl

unknown_type : next_step (codes "fold" ∷ codes "--type" ∷ codes "x" ∷ codes "a.pb" ∷ codes "b.pb" ∷ []) (codes "a.pb" ∷ codes "b.pb" ∷ []) 1 (trouble.Fault kind.UnknownSampleType)
    (seen.Types (sample_type (codes "cpu") (codes "nanoseconds") ∷ sample_type (codes "wall clock") (codes "seconds") ∷ []))
    ≡ line (codes "it has no such sample type, but these: cpu 'wall clock'")
unknown_type = refl

unseen_type : next_step (codes "fold" ∷ codes "--type" ∷ codes "x" ∷ codes "a.pb" ∷ codes "b.pb" ∷ []) (codes "a.pb" ∷ codes "b.pb" ∷ []) 1 (trouble.Fault kind.UnknownSampleType) seen.Nothing
    ≡ line (codes "it has no such sample type; these are its types: flamecollect types b.pb")
unseen_type = refl

no_samples : next_step (codes "graph" ∷ codes "--page" ∷ codes "profile" ∷ []) (codes "profile" ∷ []) 0 trouble.NoSamples seen.Profile
    ≡ line (codes "no line of it is a stack and a count; it begins as a pprof profile does: flamecollect graph --format pprof --page profile")
no_samples = refl

no_stacks : next_step (codes "graph" ∷ codes "--page" ∷ codes "profile" ∷ []) (codes "profile" ∷ []) 0 trouble.NoSamples seen.Nothing
    ≡ line (codes "no line of it is a stack and a count")
no_stacks = refl

asked_as_text : next_step (codes "fold" ∷ codes "--format" ∷ codes "folded" ∷ codes "a.pb" ∷ []) (codes "a.pb" ∷ []) 0 trouble.NoSamples seen.Profile
    ≡ line (codes "no line of it is a stack and a count; it begins as a pprof profile does, and those are read with --format pprof")
asked_as_text = refl

two_profiles : next_step (codes "diff" ∷ codes "a" ∷ codes "b" ∷ []) (codes "a" ∷ codes "b" ∷ []) 1 trouble.NoSamples seen.Profile
    ≡ line (codes "no line of it is a stack and a count; it begins as a pprof profile does, and those are read with --format pprof")
two_profiles = refl

no_count : next_step (codes "fold" ∷ codes "--strict" ∷ codes "x" ∷ []) (codes "x" ∷ []) 0 (trouble.Strict strict.NoCount) seen.Nothing
    ≡ line (codes "that line is no stack and a count: without --strict it is ignored")
no_count = refl

nothing_recorded : next_step (codes "fold" ∷ codes "--strict" ∷ codes "x" ∷ []) (codes "x" ∷ []) 0 (trouble.Strict strict.NoSamples) seen.Nothing
    ≡ line (codes "nothing was recorded in it: record it again; without --strict it is shown as it is")
nothing_recorded = refl

not_there : next_step (codes "fold" ∷ codes "x" ∷ []) (codes "x" ∷ []) 0 (trouble.Failed (failure.Unreadable 0) refusal.Absent) seen.Nothing
    ≡ line (codes "there is no such file: ls shows which there are")
not_there = refl

a_folder : next_step (codes "fold" ∷ codes "x" ∷ []) (codes "x" ∷ []) 0 (trouble.Failed (failure.Unreadable 0) refusal.Folder) seen.Nothing
    ≡ line (codes "it is a folder: give the files in it")
a_folder = refl

-- the fronts of a profile, of what is compressed by gzip, which has its own fault, and of text
begins : begins_profile (10 ∷ 4 ∷ 8 ∷ []) && not (begins_profile (31 ∷ 139 ∷ 8 ∷ [])) && not (begins_profile (codes "a b")) ≡ true
begins = refl

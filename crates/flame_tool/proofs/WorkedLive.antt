-- Worked examples of what a live run says of its streams, computed on the definitions.
use Rattle.std.proofs.Common.{◌≡◌, ◌++◌, ℕ, List, [], ◌∷◌, arith, codes, refl, Option, Some, option_map, true, false}
use Rattle.std.specs.Prelude.{◌==◌, Bool}
use Rattle.std.specs.Fmt.{digits}
use Rattle.std.specs.List.{flat_map}
use Rattle.clap.proofs.OnLiterals.{clap_on_literals}
use Rattle.clap.specs.Walk.{Text}
use Rattle.folded_lines.proofs.Computing.{computing}
use Rattle.byte_io.specs.declared.piece_output.PieceFault.TheVariants as piece
use Rattle.command_line.specs.Plans.{plan_of}
use Rattle.source_views.specs.Messages.{message_of_failure}
use Rattle.source_views.specs.declared.failures.Failure.TheVariants.{OutOfMemory, Output}
use Rattle.flame_tool.specs.ToldLive.{SomeOnce, message_of_stream, message_of_text, said_at}

-- what words ask to be said of texts that are read to their ends, in this order
abbrev said_by : List ℕ → List Text → List Text → Option Text
said_by order words texts = option_map (λ plan. flat_map (said_at (message_of_text plan) texts) order) (plan_of words)

-- and of texts of which the one at this place is not, where the output failed at the end or before
abbrev said_cut : List ℕ → List Text → Bool → ℕ → List Text → Option Text
said_cut order words is_lost cut texts =
    option_map (λ plan. flat_map (said_at (message_of_stream plan (λ at. is_lost) (λ at. at == cut)) texts) order) (plan_of words)

ignored_and_faulty : said_by (0 ∷ 1 ∷ []) (codes "live" ∷ codes "x" ∷ codes "y" ∷ []) (codes "a 1\nb\n" ∷ codes "a 1\nb 1.5\n" ∷ [])
    ≡ Some (codes "flamecollect: x: ignored 1\nflamecollect: y: DecimalWeight at 2\n")
unfolding clap_on_literals computing digits
ignored_and_faulty = refl

-- the second ended first
faulty_and_ignored : said_by (1 ∷ 0 ∷ []) (codes "live" ∷ codes "x" ∷ codes "y" ∷ []) (codes "a 1\nb\n" ∷ codes "a 1\nb 1.5\n" ∷ [])
    ≡ Some (codes "flamecollect: y: DecimalWeight at 2\nflamecollect: x: ignored 1\n")
unfolding clap_on_literals computing digits
faulty_and_ignored = refl

nothing_to_say : said_by (0 ∷ []) (codes "live" ∷ []) (codes "a 1\n" ∷ []) ≡ Some []
unfolding clap_on_literals computing digits
nothing_to_say = refl

strictly : said_by (0 ∷ 1 ∷ 2 ∷ []) (codes "live" ∷ codes "--strict" ∷ codes "x" ∷ codes "y" ∷ codes "z" ∷ []) (codes "a 1\nb\n" ∷ codes "a 1\n" ∷ [] ∷ [])
    ≡ Some (codes "flamecollect: x: NoCount at 2\nflamecollect: z: NoSamples at 0\n")
unfolding clap_on_literals computing digits
strictly = refl

the_input : said_by (0 ∷ []) (codes "live" ∷ []) (codes "b\n" ∷ []) ≡ Some (codes "flamecollect: -: ignored 1\n")
unfolding clap_on_literals computing digits
the_input = refl

-- one that can't be read tells that in its place
unread : said_cut (0 ∷ 1 ∷ []) (codes "live" ∷ codes "x" ∷ codes "y" ∷ []) false 0 (codes "b\n" ∷ codes "b\n" ∷ [])
    ≡ Some (codes "flamecollect: x: cannot be read\nflamecollect: y: ignored 1\n")
unfolding clap_on_literals computing digits
unread = refl

-- and one that a failed output stopped nothing
lost : said_cut (0 ∷ 1 ∷ []) (codes "live" ∷ codes "x" ∷ codes "y" ∷ []) true 0 (codes "b\n" ∷ codes "b\n" ∷ []) ≡ Some (codes "flamecollect: y: ignored 1\n")
unfolding clap_on_literals computing digits
lost = refl

output_failed : message_of_failure (codes "x" ∷ []) (Output piece.Output) ≡ codes "flamecollect: output failed\n"
output_failed = refl

-- where there is no memory, that stands behind what there is to say of those that had ended
early : option_map (λ said. said ++ message_of_failure [] OutOfMemory) (said_by (1 ∷ []) (codes "live" ∷ codes "x" ∷ codes "y" ∷ []) (codes "a 1\nb\n" ∷ codes "a 1\nb 1.5\n" ∷ []))
    ≡ Some (codes "flamecollect: y: DecimalWeight at 2\nflamecollect: out of memory\n")
unfolding clap_on_literals computing digits
early = refl

-- of none twice
none_twice : SomeOnce 2 (1 ∷ 1 ∷ []) → ⊥
none_twice some = let two = some.once 1 in omega (arith, two)

use Rattle.std.proofs.Common.{◌≡◌, take, map}
use Rattle.std.specs.Prelude.{bytes_eq}
use Rattle.profile_messages.specs.SeenProfile.{texts_of}
use Rattle.profile_messages.proofs.picking.matches_of.Given as goal

abbrev pub invariant-loop-string : goal.invariant-loop-string
invariant-loop-string l = l.matches.items ≡ map (λ string. bytes_eq string l.name) (texts_of (take l.string-index l.strings))

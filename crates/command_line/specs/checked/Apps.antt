-- What `clap` reads of a command on its own, and of the command line without its commands.
use Rattle.std.specs.Prelude.{Bool, List, [], codes, true}
use Rattle.std.specs.List.{list_all}
use Rattle.clap.specs.Simple.{App, Shape, new_shape}
use Rattle.clap.specs.Walk.{Rule}

abbrev pub as_app : Shape → App
as_app shape = record { top = shape; subs = [] }

abbrev pub program : App
program = as_app (record (new_shape (codes "flamecollect")) {
  no_binary_name = true;
  has_version = true;
  subcommand_required = true;
})

-- `clap` reads the words of such arguments as its definitions say
abbrev pub all_simple : List Rule → Bool
all_simple = list_all (λ r. r.is_simple)

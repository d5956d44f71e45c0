use borrow.Author.Rules.{rules}
use Rattle.byte_io.proofs.piece_threads.+rounds.Goals as goal

pub returns-in_err-write_parts : goal.returns-in_err-write_parts
returns-in_err-write_parts g c = search rules

pub returns-in_default : goal.returns-in_default
returns-in_default g c = search rules

pub returns-in_err-wrote : goal.returns-in_err-wrote
returns-in_err-wrote g c = search rules

pub returns-in_err-made : goal.returns-in_err-made
returns-in_err-made g c = search rules

pub returns : goal.returns
returns g c = search rules

pub right-returns : goal.right-returns
right-returns g c = search rules

-- One name to unfold where a proof computes how a text reads.
use Rattle.memchr.specs.Find.{places_from, last_of}
use Rattle.bstr.specs.Text.{line_len, lines_from}
use Rattle.bstr.specs.Utf8.{pieces_from}
use lib.Utf8.{encode}

-- `unfolding computing` opens how lines, columns and characters are found
unfoldable pub computing : Unit {0}
unfolding places_from last_of line_len lines_from pieces_from encode
computing = tt

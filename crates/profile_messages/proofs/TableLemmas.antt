-- The strings of a table by their indexes.
use Rattle.std.proofs.Common.{◌≡◌, [], ℕ, List, ◌∙◌, ap, get_or}
use Rattle.std.proofs.Math.ListN.{get_or-map}
use Rattle.profile_messages.specs.declared.message.Content.{Content as CodeContent}
use Rattle.profile_messages.specs.Message.{Content}
use Rattle.profile_messages.specs.SeenProfile.{seen_content, seen_table, texts_of}

-- what a string of no index has
abbrev pub nowhere : CodeContent
nowhere = record { at = 0; bytes = record { ref_ptr = (0, 0); now = [] } }

pub text-at : (strings : List CodeContent) (index : ℕ) → get_or (texts_of strings) index [] ≡ (get_or strings index nowhere).bytes.now
text-at strings index =
    get_or-map (λ (text : Content). text.bytes) (seen_table strings) index (seen_content nowhere)
    ∙ ap (λ (text : Content). text.bytes) (get_or-map seen_content strings index nowhere)

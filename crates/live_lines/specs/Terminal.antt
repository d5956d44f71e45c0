-- What is shown of a text on a terminal, so that no name acts there.
use Rattle.std.specs.Prelude.{ℕ, ◌==◌, ◌&&◌, ◌||◌, nat_le, nat_lt, if◌then◌else◌, List, [], ◌∷◌}

-- a byte behind another: a line feed stays, any other control character of one byte is a question mark, and one of two bytes,
-- U+0080 to U+009F, a question mark that is turned round
abbrev pub plain_byte : ℕ → ℕ → ℕ
plain_byte before byte =
    if byte == 10 then 10
    else (if nat_lt byte 32 || byte == 127 then 63
    else (if (before == 194 && nat_le 128 byte) && nat_lt byte 160 then 191 else byte))

-- the bytes of a text behind a byte
abbrev pub plain_text : ℕ → List ℕ → List ℕ
plain_text before [] = []
plain_text before (byte ∷ bytes) = plain_byte before byte ∷ plain_text byte bytes

-- Bytes that stand in a text of JSON as they are.
use Rattle.std.specs.Prelude.{ℕ, ◌≤◌, ◌≢◌}

abbrev pub IsPlainByte : ℕ → Type 0
IsPlainByte byte = (32 ≤ byte) × (byte ≢ 34) × (byte ≢ 92)

-- The messages of a profile, decoded as profile.proto names them, as far as they are read (messages ValueType, Line, Location and
-- Function).
use Rattle.std.specs.Prelude.{ℕ, List, map}
use Rattle.profile_messages.specs.declared.messages.PlacedNumber.{PlacedNumber}
use Rattle.profile_messages.specs.declared.messages.ValueType.{ValueType}
use Rattle.profile_messages.specs.declared.messages.Line.{Line}
use Rattle.profile_messages.specs.declared.messages.Function.{Function}
use Rattle.profile_messages.specs.Message.{scalar, Content, contents}

-- a location with its lines
pub record Location : Type 0 where
  pub at : ℕ
  pub id : ℕ
  pub address : ℕ
  pub lines : List Line

-- ---- what a message at a place holds

abbrev pub value_type_in : ℕ → List ℕ → ValueType
value_type_in at message = record { at = at; type_ = scalar 1 message; unit = scalar 2 message }

abbrev pub line_in : List ℕ → Line
line_in message = record { function_id = scalar 1 message; line = scalar 2 message }

abbrev pub function_in : ℕ → List ℕ → Function
function_in at message = record { at = at; id = scalar 1 message; name = scalar 2 message; system_name = scalar 3 message }

abbrev pub lines_in : List ℕ → List Line
lines_in message = map (λ line. line_in line.bytes) (contents 4 message)

abbrev pub location_in : ℕ → List ℕ → Location
location_in at message = record { at = at; id = scalar 1 message; address = scalar 3 message; lines = lines_in message }

-- ---- the same of a field that holds a message

abbrev pub value_type_of : Content → ValueType
value_type_of content = value_type_in content.at content.bytes

abbrev pub function_of : Content → Function
function_of content = function_in content.at content.bytes

abbrev pub location_of : Content → Location
location_of content = location_in content.at content.bytes

-- ---- the ids by which others name them, and where these stand

abbrev pub function_id : Function → PlacedNumber
function_id function = record { at = function.at; number = function.id }

abbrev pub location_id : Location → PlacedNumber
location_id location = record { at = location.at; number = location.id }

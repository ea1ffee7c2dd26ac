-- What private functions promise each other; nothing here need be believed.
use Rattle.std.specs.Prelude.{ℕ, ◌*◌, cond, List, ltb, length, Result, Ok, Err}
use Rattle.base.specs.declared.Reason.{Reason}
use Rattle.base.specs.Refusals.{refused_or, reason_number}
use Rattle.props.specs.Types.{Size}
use Rattle.props.specs.Types.{Bytes, Text, NoSuch}
use Rattle.props.specs.Types.{element_size, no_such}
use Rattle.props.specs.Step.{data_refusal, to_zero}

-- how many bytes the data takes, or the number that it is refused with
pub data Extent : Type 0 where
  Takes : (size : ℕ) → Extent
  Refused : (number : ℕ) → Extent

abbrev pub extent_told : Result ℕ Reason → Extent
extent_told (Ok n) = Takes n
extent_told (Err r) = Refused (reason_number r)

-- n bytes of the room, where they fit
abbrev pub fit : (n room : ℕ) → Extent
fit n room = cond (ltb room n) (Refused 10) (Takes n)

abbrev pub extent_of : Size → (len : ℕ) (rest : List ℕ) → Extent
extent_of (Bytes w) len rest = Takes (len * w)
extent_of Text len rest = fit (to_zero rest) (length rest)
extent_of NoSuch len rest = Refused 11

-- how many of the bytes after the name the data takes, or what it is refused with
unfoldable pub data_of : Size → (len : ℕ) (rest : List ℕ) → Extent
data_of size len rest = let n = data_refusal size len (length rest) in refused_or n (Refused n) (extent_of size len rest)

-- what a name that does not fit is refused with: type before name fits
abbrev pub name_out : (code : ℕ) → ℕ
name_out code = cond (no_such (element_size code)) 11 10

-- The numbers of an event, read from its 40 bytes by their form.
use Rattle.std.specs.Prelude.{ℕ, List, eqb, ℤ, pos, get_or}
use Rattle.answers.specs.Answers.{done, malformed}
use Rattle.words.specs.Words.{u32_at}
use Rattle.kbdif_events.specs.Types.{xenkbd_type_mtouch}
use Rattle.kbdif_decode.specs.Decode.{i32_at, i16_at}
use Rattle.kbdif_decode.specs.Form.{Form}
use Rattle.kbdif_decode.specs.Form.{Malformed, UnknownType, Pointer, KeyPress, Place, Contact, Axes, Orientation}
use Rattle.kbdif_numbers.specs.Numbers.{no_numbers, place_numbers, key_numbers, shape_numbers, orient_numbers, found}
use Rattle.kbdif_numbers.specs.declared.RingNumbers.{RingNumbers}
use Rattle.kbdif_numbers.specs.declared.FoundNumbers.{FoundNumbers}

abbrev pub pointer_at : List ℕ → RingNumbers
pointer_at bytes = place_numbers (get_or bytes 0 0) 0 0 (i32_at bytes 4) (i32_at bytes 8) (i32_at bytes 12)

abbrev pub key_at : List ℕ → RingNumbers
key_at bytes = key_numbers (eqb (get_or bytes 1 0) 1) (u32_at bytes 4)

-- A touch with a place, or with none.
abbrev pub touch_at : List ℕ → ℤ → ℤ → RingNumbers
touch_at bytes x y = place_numbers xenkbd_type_mtouch (get_or bytes 1 0) (get_or bytes 2 0) x y (pos 0)

abbrev pub axes_at : List ℕ → RingNumbers
axes_at bytes = shape_numbers (get_or bytes 2 0) (u32_at bytes 8) (u32_at bytes 12)

abbrev pub orientation_at : List ℕ → RingNumbers
orientation_at bytes = orient_numbers (get_or bytes 2 0) (i16_at bytes 8)

unfoldable pub found_as : Form → List ℕ → FoundNumbers
found_as Malformed bytes = found malformed no_numbers
found_as UnknownType bytes = found done no_numbers
found_as Pointer bytes = found done (pointer_at bytes)
found_as KeyPress bytes = found done (key_at bytes)
found_as Place bytes = found done (touch_at bytes (i32_at bytes 8) (i32_at bytes 12))
found_as Contact bytes = found done (touch_at bytes (pos 0) (pos 0))
found_as Axes bytes = found done (axes_at bytes)
found_as Orientation bytes = found done (orientation_at bytes)

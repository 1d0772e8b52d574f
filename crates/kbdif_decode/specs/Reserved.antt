-- The reserved bytes of a keyboard ring event: those that its type gives no meaning (01, "kbdif ring and nodes").
use Rattle.std.specs.Prelude.{ℕ, ◌+◌, ◌*◌, Bool, true, ◌&&◌, List, [], ◌∷◌, eqb}
use Rattle.words.specs.Words.{u32_at}
use Rattle.kbdif_events.specs.Event.{event_length, between}

-- Eight bytes as one number.
abbrev pub u64_at : List ℕ → ℕ → ℕ
u64_at bytes at = u32_at bytes at + u32_at bytes (at + 4) * 4294967296

unfoldable pub all_zero : List ℕ → Bool
all_zero [] = true
all_zero (byte ∷ rest) = eqb byte 0 && all_zero rest

-- The bytes between the head and the fields, and after the fields.
abbrev pub zero_outside : List ℕ → ℕ → ℕ → ℕ → Bool
zero_outside bytes head start end = all_zero (between bytes head start) && all_zero (between bytes end event_length)

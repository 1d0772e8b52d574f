-- Event records (01, "Writing records"): the first 8 bytes are type (16 bits), code (16) and value (32).
use Rattle.std.specs.Prelude.{ℕ, zero, suc, ◌+◌, ◌^◌, ◌<◌, List, [], ◌∷◌, ◌++◌}
use Rattle.words.specs.Words.{u16_at, u32_at, u16_bytes, u32_bytes}
use Rattle.records.specs.declared.Event.{Event}

-- A packet has so many events at most.
abbrev pub most_events : ℕ
most_events = 32

-- Numbers within the widths of the fields: any event that code can hold.
pub record EventFits (event : Event) : Type 0 where
  pub kind_fits : event.kind < 2 ^ 16
  pub code_fits : event.code < 2 ^ 16
  pub value_fits : event.value < 2 ^ 32

abbrev pub AllFit : List Event → Type 0
AllFit [] = Unit {0}
AllFit (event ∷ rest) = EventFits event × AllFit rest

unfoldable pub event_bytes : Event → List ℕ
event_bytes event = u16_bytes event.kind ++ (u16_bytes event.code ++ u32_bytes event.value)

-- The event whose bytes begin at a byte of a buffer.
unfoldable pub event_at : List ℕ → ℕ → Event
event_at bytes at = record { kind = u16_at bytes at; code = u16_at bytes (at + 2); value = u32_at bytes (at + 4) }

-- So many events that stand one after the other, from a byte of a buffer on.
unfoldable pub events_from : List ℕ → ℕ → ℕ → List Event
events_from bytes at zero = []
events_from bytes at (suc count) = event_at bytes at ∷ events_from bytes (at + 8) count

-- What every call of the device is told and lent: the geometry, the state, the event area and the entry page. 1 otherwise.
use Rattle.std.specs.Prelude.{ℕ, Bool, ◌&&◌, eqb}
use Rattle.geometry.specs.declared.Geometry.{Geometry}
use Rattle.geometry.specs.Geometry.{allowed, area_length, entry_page_length}
use Rattle.device.specs.declared.Device.{Device}
use Rattle.device.specs.State.{write_index_rule, taken_rule, is_device}

-- The geometry is allowed, and both pages have their lengths.
unfoldable pub is_valid_pages : Geometry → ℕ → ℕ → Bool
is_valid_pages geometry area_size page_size = allowed geometry && (eqb area_size (area_length geometry) && eqb page_size entry_page_length)

-- And the numbers of the state that the geometry bounds are within it.
unfoldable pub is_valid_bounds : Geometry → ℕ → ℕ → ℕ → ℕ → Bool
is_valid_bounds geometry area_size page_size write_index taken =
    is_valid_pages geometry area_size page_size && (write_index_rule geometry write_index && taken_rule geometry taken)

-- And the state keeps all its rules.
unfoldable pub is_valid_call : Geometry → Device → ℕ → ℕ → Bool
is_valid_call geometry device area_size page_size = is_valid_pages geometry area_size page_size && is_device geometry device

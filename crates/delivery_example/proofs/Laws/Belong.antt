-- Which calls belong to a list in any world: packets of bytes, and steps; and one list after the other.
use Prim.Native.Nat.{ℕ, zero, suc}
use mathlib.Core.List.{List, [], ◌∷◌, ◌++◌}
use native.Mathlib.Omega.{arith}
use lib.ListN.{replicate}
use Rattle.words.specs.Words.{IsBytes}
use Rattle.geometry.specs.declared.Geometry.{Geometry}
use Rattle.records.specs.declared.Event.{Event}
use Rattle.records.specs.Event.{event_bytes}
use Rattle.delivery.specs.World.{World, Call, step, call}
use Rattle.delivery.specs.Log.{after}
use Rattle.delivery.specs.Premises.{AllBelong}
use Rattle.delivery_example.specs.Setting.{bytes}

-- the bytes of a packet are bytes
pub is_packet : (events : List Event) → IsBytes (bytes events)
unfolding event_bytes
is_packet [] i = omega arith
is_packet (event ∷ rest) zero = omega arith
is_packet (event ∷ rest) (suc zero) = omega arith
is_packet (event ∷ rest) (suc (suc zero)) = omega arith
is_packet (event ∷ rest) (suc (suc (suc zero))) = omega arith
is_packet (event ∷ rest) (suc (suc (suc (suc zero)))) = omega arith
is_packet (event ∷ rest) (suc (suc (suc (suc (suc zero))))) = omega arith
is_packet (event ∷ rest) (suc (suc (suc (suc (suc (suc zero)))))) = omega arith
is_packet (event ∷ rest) (suc (suc (suc (suc (suc (suc (suc zero))))))) = omega arith
is_packet (event ∷ rest) (suc (suc (suc (suc (suc (suc (suc (suc i)))))))) = is_packet rest i

-- one list after the other
pub belong_then : (geometry : Geometry) (first rest : List Call) (world : World) → AllBelong geometry world first
    → AllBelong geometry (after geometry world first) rest → AllBelong geometry world (first ++ rest)
belong_then geometry [] rest world a b = b
belong_then geometry (next ∷ more) rest world a b = (a.0, belong_then geometry more rest (call geometry world next).world a.1 b)

pub steps : (geometry : Geometry) (count : ℕ) (world : World) → AllBelong geometry world (replicate count step)
steps geometry zero world = tt
steps geometry (suc count) world = (tt, steps geometry count (call geometry world step).world)

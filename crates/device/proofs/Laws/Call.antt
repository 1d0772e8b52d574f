-- What is known of a call that is not refused with 1, and that a call with another state that keeps the rules isn't either.
use Prim.Native.Nat.{ℕ}
use mathlib.Core.Path.{◌≡◌, ap, ◌∙◌}
use mathlib.Core.Bool.{Bool, true, ◌&&◌, and_assoc}
use lib.Dec.{eqb}
use borrow.Author.Tests.{eqb-true, eq-eqb}
use Rattle.geometry.specs.declared.Geometry.{Geometry}
use Rattle.geometry.specs.Geometry.{allowed, area_length, entry_page_length, ring_of}
use Rattle.geometry.proofs.Laws.Allowed.{both}
use Rattle.records.specs.Ring.{Holds}
use Rattle.records.proofs.Laws.Place.{allowed-holds}
use Rattle.device.specs.declared.Device.{Device}
use Rattle.device.specs.State.{write_index_rule, taken_rule, client_rev_rule, acceleration_rule, current_rule, is_device}
use Rattle.device.specs.Call.{is_valid_pages, is_valid_bounds, is_valid_call}
use Rattle.device.proofs.Laws.Rules.{Rules, rules, rules_hold}

pub record Call (geometry : Geometry) (device : Device) (area_size page_size : ℕ) : Type 0 where
  pub is_allowed : allowed geometry ≡ true
  pub is_area_length : area_size ≡ area_length geometry
  pub is_page_length : page_size ≡ 4096
  pub keeps : Rules geometry device
  pub holds : Holds area_size (ring_of geometry)

pub call : (geometry : Geometry) (device : Device) (area_size page_size : ℕ)
    → is_valid_call geometry device area_size page_size ≡ true → Call geometry device area_size page_size
unfolding is_valid_pages is_valid_call
call geometry device area_size page_size h =
    let a = both (is_valid_pages geometry area_size page_size) (is_device geometry device) h in
    let b = both (allowed geometry) _ a.0 in
    let c = both (eqb area_size (area_length geometry)) (eqb page_size entry_page_length) b.1 in
    let size : area_size ≡ area_length geometry = eqb-true area_size (area_length geometry) c.0 in
    record {
      is_allowed = b.0;
      is_area_length = size;
      is_page_length = eqb-true page_size 4096 c.1;
      keeps = rules geometry device a.1;
      holds = rw size (allowed-holds geometry b.0);
    }

-- another state in the same place
pub call_with : (geometry : Geometry) {device : Device} {area_size page_size : ℕ} (after : Device)
    → Call geometry device area_size page_size
    → Rules geometry after → is_valid_call geometry after area_size page_size ≡ true
unfolding is_valid_pages is_valid_call
call_with geometry {area_size = area_size} {page_size} after c keeps =
    rw (c.is_allowed, eq-eqb area_size (area_length geometry) c.is_area_length, eq-eqb page_size 4096 c.is_page_length)
    (rules_hold geometry after keeps)

-- the numbers that the geometry bounds first, then the rest of the state
pub call_tests : (geometry : Geometry) (device : Device) (area_size page_size : ℕ)
    → (is_valid_bounds geometry area_size page_size device.producer.write_index device.taken
    && (client_rev_rule device.registers
    && (acceleration_rule device.registers && current_rule device.taken device.producer.current_slot)))
    ≡ is_valid_call geometry device area_size page_size
unfolding is_valid_bounds is_valid_call is_device
call_tests geometry device area_size page_size =
    let pages : Bool = is_valid_pages geometry area_size page_size in
    let index : Bool = write_index_rule geometry device.producer.write_index in
    let slots : Bool = taken_rule geometry device.taken in
    let current : Bool = current_rule device.taken device.producer.current_slot in
    let rest : Bool = client_rev_rule device.registers && (acceleration_rule device.registers && current) in
    and_assoc pages (index && slots) rest ∙ ap (λ (test : Bool). pages && test) (and_assoc index slots rest)

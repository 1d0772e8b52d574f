-- The events that wait in a ring, and what holds of a ring along the calls.
use Prim.Native.Nat.{ℕ, zero, suc, ◌+◌, ◌-◌, ◌≤◌, ◌<◌, ◌^◌}
use mathlib.Core.Path.{◌≡◌, refl}
use mathlib.Core.List.{List, [], ◌∷◌, ◌++◌}
use native.Mathlib.Omega.{arith}
use native.Mathlib.Nat.{add-zero}
use lib.ListN.{length, length-replicate}
use Rattle.answers.specs.Answers.{done}
use Rattle.answers.specs.Refusals.{first_refusal}
use Rattle.kbdif_events.specs.declared.RingEvent.{RingEvent}
use Rattle.kbdif_decode.specs.Decode.{event_at, event_refusals}
use Rattle.kbdif_page.specs.Page.{page_length, ring_length, in_cons_of, in_prod_of, distance, event_bytes_at}
use Rattle.kbdif_order.specs.Order.{Ring, fresh}

-- so many events from an index on
unfoldable pub events_from : List ℕ → ℕ → ℕ → List RingEvent
events_from page index zero = []
events_from page index (suc count) = event_at (event_bytes_at page index) ∷ events_from page (suc index) count

abbrev pub waiting_in : Ring → List RingEvent
waiting_in ring = events_from ring.page ring.in_cons (ring.in_prod - ring.in_cons)

pub one_more : (page : List ℕ) (index count : ℕ) → events_from page index (suc count)
    ≡ events_from page index count ++ (event_at (event_bytes_at page (index + count)) ∷ [])
unfolding events_from
one_more page index zero = rw add-zero
one_more page index (suc count) =
    let e : index + suc count ≡ suc index + count = omega arith in
    rw (one_more page (suc index) count, e)

pub same_events : (left right : List ℕ)
    (index count : ℕ) → ((i : ℕ) → index ≤ i → i < index + count → event_bytes_at left i ≡ event_bytes_at right i)
    → events_from left index count ≡ events_from right index count
unfolding events_from
same_events left right index zero same = refl
same_events left right index (suc count) same =
    cc (same index (omega arith) (omega arith), same_events left right (suc index) count (λ i h k. same i (omega arith) (omega arith)))

-- the page holds the private indices, at most 51 events wait, all of them well formed, and `left` more puts don't wrap
pub record Good (contact_limit left : ℕ) (ring : Ring) : Type 0 where
  pub size : length ring.page ≡ page_length
  pub cons_held : in_cons_of ring.page ≡ ring.in_cons
  pub prod_held : in_prod_of ring.page ≡ ring.in_prod
  pub ordered : ring.in_cons ≤ ring.in_prod
  pub few : ring.in_prod ≤ ring.in_cons + ring_length
  pub early : ring.in_prod + left < 2 ^ 32
  pub fine : (index : ℕ) → ring.in_cons ≤ index → index < ring.in_prod
      → first_refusal (event_refusals (event_bytes_at ring.page index) contact_limit) ≡ done

-- without a wrap the distance is the difference
pub near : (in_prod in_cons : ℕ) → in_cons ≤ in_prod → in_prod < 2 ^ 32 → distance in_prod in_cons ≡ in_prod - in_cons
near in_prod in_cons h k = omega arith

pub fresh_good : (contact_limit left : ℕ) → left < 2 ^ 32 → Good contact_limit left fresh
unfolding fresh
fresh_good contact_limit left h = record {
  size = length-replicate {A = ℕ} page_length 0;
  cons_held = refl;
  prod_held = refl;
  ordered = omega arith;
  few = omega arith;
  early = omega arith;
  fine = λ index low high. absurd (omega arith);
}

pub none_waits : waiting_in fresh ≡ []
unfolding fresh events_from
none_waits = refl

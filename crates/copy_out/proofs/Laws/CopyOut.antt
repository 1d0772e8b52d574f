-- Records copied out: the loop, and its two runs.
use Prim.Native.Nat.{ℕ, zero, suc, ◌+◌, ◌-◌, ◌*◌, ◌%◌, ◌≤◌, ◌<◌}
use mathlib.Core.Path.{◌≡◌, refl, sym, ap, ◌∙◌}
use mathlib.Core.List.{List, ◌++◌, append_assoc}
use native.Mathlib.Omega.{arith}
use native.Mathlib.Nat.{mod-eq_of_lt, mod-lt, mod_self, zero-mod, add-mod_right, suc-mod, mul-add, mul_comm, zero-add, add-zero, suc-add}
use lib.ListN.{length, take, drop, length-append, length-drop}
use lib.Seq.{length-take-le}
use Rattle.copying.specs.Copying.{overwrite}
use Rattle.copying.proofs.Laws.Overwrite.{lent_part, overwrite_whole, overwrite_next}
use Rattle.copying.proofs.Laws.Remains.{Remains, done, stretch_stored}
use Rattle.geometry.specs.declared.Ring.{Ring}
use Rattle.geometry.specs.Geometry.{record_place}
use Rattle.records.specs.Ring.{Holds}
use Rattle.records.proofs.Laws.Place.{place_inside}
use Rattle.copy_out.specs.CopyOut.{record_bytes, bytes_from}

module _ (ring : Ring) (area : List ℕ) (holds : Holds (length area) ring) where
  bytes-length : (index : ℕ) → 0 < ring.length → length (record_bytes ring area index) ≡ 8
  bytes-length index some =
      length-take-le 8 (drop (record_place ring (index % ring.length)) area)
      (rw length-drop (omega (arith, place_inside (length area) ring holds (index % ring.length) (mod-lt index some))))

  pub all_bytes-length : (index count : ℕ) → 0 < ring.length → length (bytes_from ring area index count) ≡ count * 8
  unfolding bytes_from
  all_bytes-length index zero some = omega arith
  all_bytes-length index (suc count) some =
      length-append (record_bytes ring area index) (bytes_from ring area (suc index) count)
      ∙ omega (arith, bytes-length index some, all_bytes-length (suc index) count some)

-- an index counts round the ring
bytes_modulo : (ring : Ring) (area : List ℕ) (count i j : ℕ) → i % ring.length ≡ j % ring.length
    → bytes_from ring area i count ≡ bytes_from ring area j count
unfolding bytes_from
bytes_modulo ring area zero i j e = refl
bytes_modulo ring area (suc count) i j e =
    let next : suc i % ring.length ≡ suc j % ring.length = rw (suc-mod i ring.length, e, ← suc-mod j ring.length) in
    cc (bytes_modulo ring area count (suc i) (suc j) next)

-- records on both sides of an index
pub bytes-append : (ring : Ring) (area : List ℕ) (index one other : ℕ)
    → bytes_from ring area index (one + other) ≡ bytes_from ring area index one ++ bytes_from ring area (index + one) other
unfolding bytes_from
bytes-append ring area index zero other = rw (zero-add, add-zero)
bytes-append ring area index (suc one) other =
    let e : suc index + one ≡ index + suc one = omega arith in
    rw (suc-add, bytes-append ring area (suc index) one other, e)
    (sym (append_assoc (record_bytes ring area index) (bytes_from ring area (suc index) one)
    (bytes_from ring area (index + suc one) other)))

-- ---- the loop that copies `count` records from `first` on: it has copied i of them

-- once the others are put behind those, the output is as wanted
abbrev pub Turn : (ring : Ring) (area : List ℕ) (first count : ℕ) (start out : List ℕ) (i : ℕ) → Type 0
Turn ring area first count start out i =
    Remains start 0 (bytes_from ring area first count) out (i * 8) (bytes_from ring area (first + i) (count - i))

module _ (ring : Ring) (area : List ℕ) (holds : Holds (length area) ring) (first count : ℕ) (start : List ℕ) where
  -- the place of a record behind the first
  pub place_further : (i : ℕ) → record_place ring first + i * ring.record_size ≡ record_place ring (first + i)
  place_further i =
      let e : first + i + 1 ≡ first + 1 + i = omega arith in
      rw (e, mul-add ring.record_size (first + 1) i) (ap (λ (n : ℕ). record_place ring first + n) (mul_comm i ring.record_size))

  pub further_inside : {i : ℕ} → first + count ≤ ring.length → i < count
      → record_place ring first + i * ring.record_size + 8 ≤ length area
  further_inside {i} inside few = rw (place_further i) (place_inside (length area) ring holds (first + i) (omega arith))

  pub turn_goes_on : {out after : List ℕ} {i : ℕ} → first + count ≤ ring.length → count * 8 ≤ length start → i < count
      → Turn ring area first count start out i
      → after ≡ overwrite out (i * 8)
      (take (record_place ring (first + i) + 8 - record_place ring (first + i)) (drop (record_place ring (first + i)) area))
      → Turn ring area first count start after (i + 1)
  unfolding bytes_from
  turn_goes_on {out} {after} {i} inside room few remains wrote =
      let index : ℕ = first + i in
      let one_more : count - i ≡ suc (count - (i + 1)) = omega arith in
      let eight : record_place ring index + 8 - record_place ring index ≡ 8 = omega arith in
      let low : index < ring.length = omega arith in
      let bytes : take (record_place ring index + 8 - record_place ring index) (drop (record_place ring index) area)
      ≡ record_bytes ring area index = rw (eight, mod-eq_of_lt low) in
      let n : length (record_bytes ring area index) ≡ 8 = bytes-length ring area holds index (omega arith) in
      let further : (i + 1) * 8 ≡ i * 8 + 8 = omega arith in
      let split : bytes_from ring area index (count - i)
      ≡ record_bytes ring area index ++ bytes_from ring area (suc index) (count - (i + 1))
      = ap (bytes_from ring area index) one_more in
      let fits : i * 8 + length (record_bytes ring area index) ≤ length out = omega (arith, remains.size) in
      let stored = stretch_stored start 0 _ out (i * 8) (record_bytes ring area index)
      (bytes_from ring area (suc index) (count - (i + 1))) fits (rw split at remains) in
      let next : suc (first + i) ≡ first + (i + 1) = omega arith in
      rw (wrote, bytes, further) (rw (n, next) at stored)

  pub turn_ends : {out : List ℕ} {i : ℕ} → Turn ring area first count start out i → count ≤ i
      → out ≡ overwrite start 0 (bytes_from ring area first count)
  unfolding bytes_from
  turn_ends {out} {i} turn past =
      let none : count - i ≡ 0 = omega arith in
      done start 0 _ out (i * 8) (rw none at turn)

-- ---- the two runs: up to the ring's end, and from its start on

module _ (ring : Ring) (area : List ℕ) (holds : Holds (length area) ring) (first count : ℕ) (start : List ℕ)
    (inside : first < ring.length) where
  pub one_run : first + count < ring.length → first + count ≡ (first + count) % ring.length
  one_run low = sym (mod-eq_of_lt low)

  module _ (past : ring.length - first ≤ count) (few : count < ring.length) where
    abbrev until : ℕ
    until = ring.length - first

    abbrev rest : ℕ
    rest = count - until

    pub two_runs : rest ≡ (first + count) % ring.length
    two_runs =
        let e : first + count ≡ rest + ring.length = omega arith in
        rw e (sym (add-mod_right rest ring.length ∙ mod-eq_of_lt (omega arith)))

    -- the second run goes to its own part of the output
    pub both_copied : (tail : List ℕ) {middle part : List ℕ} → count * 8 ≤ length start → length tail ≡ rest * 8
        → middle ≡ overwrite start 0 (bytes_from ring area first until) → part ≡ overwrite tail 0 (bytes_from ring area 0 rest)
        → take (until * 8) middle ++ (part ++ drop (until * 8 + rest * 8 - until * 8) (drop (until * 8) middle))
        ≡ overwrite start 0 (bytes_from ring area first count)
    both_copied tail {middle} {part} room size one other =
        let n : 0 + length (bytes_from ring area first until) ≡ until * 8 =
        omega (arith, all_bytes-length ring area holds first until (omega arith)) in
        let more : length (bytes_from ring area 0 rest) ≡ rest * 8 = all_bytes-length ring area holds 0 rest (omega arith) in
        let filled : part ≡ bytes_from ring area 0 rest = other ∙ overwrite_whole tail (bytes_from ring area 0 rest) (size ∙ sym more) in
        let end : first + until ≡ ring.length = omega arith in
        let turned : bytes_from ring area 0 rest ≡ bytes_from ring area (first + until) rest
        = bytes_modulo ring area rest 0 (first + until) (rw end (zero-mod ring.length ∙ sym (mod_self ring.length))) in
        let all : until + rest ≡ count = omega arith in
        lent_part middle (until * 8) (rest * 8) (sym more) filled
        ∙ rw (one, turned, ← n) (overwrite_next start 0 (bytes_from ring area first until)
        (bytes_from ring area (first + until) rest) (omega arith))
        ∙ ap (overwrite start 0) (sym (bytes-append ring area first until rest) ∙ ap (bytes_from ring area first) all)

-- Copy-out (01, "The driver's side"): the first 8 bytes of the oldest records, as many as the limit, the unread records and whole
-- eights of the output allow. The read pointer moves past them.
use Rattle.std.specs.Prelude.{ℕ, zero, suc, ◌+◌, ◌/◌, ◌%◌, min, Bool, not, cond, List, [], ◌∷◌, ◌++◌, eqb, length, take, drop}
use Rattle.std.specs.Prelude.{Result, Ok, Err}
use Rattle.copying.specs.Copying.{overwrite}
use Rattle.answers.specs.Answers.{done, invalid}
use Rattle.answers.specs.declared.Refusal.{Refusal}
use Rattle.answers.specs.Refusal.{number_of}
use Rattle.answers.specs.Refusals.{first_refusal}
use Rattle.geometry.specs.declared.Geometry.{Geometry}
use Rattle.geometry.specs.declared.Ring.{Ring}
use Rattle.geometry.specs.Geometry.{ring_of, record_place}
use Rattle.records.specs.Ring.{read_pointer, write_pointer, with_read_pointer, unread_count}
use Rattle.reading.specs.Reading.{is_valid_area, reading_refusals}
use Rattle.copy_out.specs.declared.Copied.{Copied}

-- The first 8 bytes of the record at an index, which counts round the ring.
abbrev pub record_bytes : Ring → List ℕ → ℕ → List ℕ
record_bytes ring area index = take 8 (drop (record_place ring (index % ring.length)) area)

unfoldable pub bytes_from : Ring → List ℕ → ℕ → ℕ → List ℕ
bytes_from ring area index zero = []
bytes_from ring area index (suc count) = record_bytes ring area index ++ bytes_from ring area (suc index) count

-- Refusals: 1, 10, 11.
abbrev pub copy_refusals : Geometry → List ℕ → List (Bool × ℕ)
copy_refusals geometry area =
    (not (is_valid_area geometry (length area)), invalid)
    ∷ reading_refusals (ring_of geometry) (read_pointer area) (write_pointer area)

abbrev pub copy_answer : Geometry → List ℕ → ℕ
copy_answer geometry area = first_refusal (copy_refusals geometry area)

abbrev pub copy_count : Geometry → List ℕ → ℕ → ℕ → ℕ
copy_count geometry area limit out_length =
    min (unread_count (ring_of geometry) (read_pointer area) (write_pointer area)) (min limit (out_length / 8))

abbrev pub refused_copy : ℕ → Copied
refused_copy number = record { answer = number; count = 0 }

-- What the code hands back, as a number and a count.
abbrev pub copied_of : Result ℕ Refusal → Copied
copied_of (Ok count) = record { answer = done; count = count }
copied_of (Err refusal) = refused_copy (number_of refusal)

-- What a call leaves: its answer and count, the event area, the output.
pub record CopyResult : Type 0 where
  pub copied : Copied
  pub area : List ℕ
  pub out : List ℕ

abbrev pub copy_some : Geometry → List ℕ → ℕ → List ℕ → CopyResult
copy_some geometry area count out = record {
  copied = record { answer = done; count = count };
  area = with_read_pointer area ((read_pointer area + count) % (ring_of geometry).length);
  out = overwrite out 0 (bytes_from (ring_of geometry) area (read_pointer area) count);
}

unfoldable pub copy_of : Geometry → List ℕ → ℕ → List ℕ → CopyResult
copy_of geometry area limit out =
    cond (eqb (copy_answer geometry area) done)
    (copy_some geometry area (copy_count geometry area limit (length out)) out)
    (record { copied = refused_copy (copy_answer geometry area); area = area; out = out })

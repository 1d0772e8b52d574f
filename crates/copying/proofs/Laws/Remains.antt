-- What remains to be written of a stretch while a loop stores it byte by byte, from either end.
use Prim.Native.Nat.{ℕ, suc, ◌+◌, ◌≤◌, ◌<◌}
use mathlib.Core.Path.{◌≡◌, refl, sym, ◌∙◌}
use mathlib.Core.List.{List, [], ◌∷◌, ◌++◌}
use native.Mathlib.Omega.{arith}
use native.Mathlib.Nat.{add_assoc, add-zero}
use native.Mathlib.Numerals.{add-one}
use lib.ListN.{length, get_or, drop, set, length-set, drop_of_length-le}
use lib.Seq.{drop-cons}
use Rattle.copying.specs.Copying.{overwrite}
use Rattle.copying.proofs.Laws.Overwrite.{overwrite-length, overwrite-nothing, overwrite_one, overwrite_next, overwrite_previous}

-- Once `rest` is put at `place`, the buffer is what it was at the start, with the whole stretch put at `at`.
pub record Remains (start : List ℕ) (at : ℕ) (whole bytes : List ℕ) (place : ℕ) (rest : List ℕ) : Type 0 where
  pub size : length bytes ≡ length start
  pub outcome : overwrite bytes place rest ≡ overwrite start at whole

module _ (start : List ℕ) (at : ℕ) (whole : List ℕ) where
  pub begin : Remains start at whole start at whole
  begin = record { size = refl; outcome = refl }

  pub done : (bytes : List ℕ) (place : ℕ) → Remains start at whole bytes place [] → bytes ≡ overwrite start at whole
  done bytes place remains = sym (overwrite-nothing bytes place) ∙ remains.outcome

  module _ (bytes : List ℕ) (place value : ℕ) (rest : List ℕ) where
    pub first_stored : place < length bytes → Remains start at whole bytes place (value ∷ rest)
        → Remains start at whole (set bytes place value) (place + 1) rest
    first_stored h remains = record {
      size = length-set bytes place value ∙ remains.size;
      outcome = rw (← overwrite_one bytes place value h) (overwrite_next bytes place (value ∷ []) rest (omega arith) ∙ remains.outcome);
    }

    pub last_stored : place + length rest < length bytes → Remains start at whole bytes place (rest ++ (value ∷ []))
        → Remains start at whole (set bytes (place + length rest) value) place rest
    last_stored h remains = record {
      size = length-set bytes (place + length rest) value ∙ remains.size;
      outcome = rw (← overwrite_one bytes (place + length rest) value h)
          (overwrite_previous bytes place rest (value ∷ []) (omega arith) ∙ remains.outcome);
    }

  -- a whole stretch at a time
  pub stretch_stored : (bytes : List ℕ) (place : ℕ) (first rest : List ℕ) → place + length first ≤ length bytes
      → Remains start at whole bytes place (first ++ rest)
      → Remains start at whole (overwrite bytes place first) (place + length first) rest
  stretch_stored bytes place first rest h remains = record {
    size = overwrite-length bytes place first h ∙ remains.size;
    outcome = overwrite_next bytes place first rest h ∙ remains.outcome;
  }

-- ---- a copy, from the first byte on: what remains is the text from `i` on

module _ (start : List ℕ) (at : ℕ) (text : List ℕ) where
  pub copy_begins : Remains start at text start (at + 0) text
  copy_begins = rw add-zero (begin start at text)

  module _ (bytes : List ℕ) (i : ℕ) (remains : Remains start at text bytes (at + i) (drop i text)) where
    pub copy_goes_on : i < length text → at + i < length bytes
        → Remains start at text (set bytes (at + i) (get_or text i 0)) (at + (i + 1)) (drop (i + 1) text)
    copy_goes_on h k =
        let next : at + (i + 1) ≡ at + i + 1 = sym (add_assoc at i 1) in
        rw (next, add-one i) (first_stored start at text bytes (at + i) (get_or text i 0) (drop (suc i) text) k
        (rw (drop-cons text i 0 h) at remains))

    pub copy_ends : length text ≤ i → bytes ≡ overwrite start at text
    copy_ends h = done start at text bytes (at + i) (rw (drop_of_length-le text {i = i} h) at remains)

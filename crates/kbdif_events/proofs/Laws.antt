-- Laws of an event's bytes: those of single values, those of its words, and what storing the words leaves.
use Prim.Native.Nat.{ℕ, ◌+◌, ◌*◌, ◌/◌, ◌%◌, ◌≤◌, ◌<◌}
use mathlib.Core.Path.{◌≡◌, refl, ap, ◌∙◌}
use mathlib.Core.Bool.{Bool, true, false, cond}
use mathlib.Core.List.{List, [], ◌∷◌, ◌++◌}
use native.Mathlib.Omega.{arith}
use lib.ListN.{length}
use mir.Val.{bool_byte}
use Rattle.copying.specs.Copying.{overwrite}
use Rattle.copying.proofs.Laws.Overwrite.{overwrite_next, overwrite_whole}
use Rattle.words.specs.Words.{u32_bytes, u64_bytes, set_u64}
use Rattle.kbdif_events.specs.Event.{event_length, zeros, padded, words_bytes}
use Rattle.kbdif_events.specs.declared.EventWords.{EventWords}

-- a bool as a byte
pub bool_byte_lem : (flag : Bool) → bool_byte flag ≡ cond flag 1 0
bool_byte_lem true = refl
bool_byte_lem false = refl

-- the word that three bytes make
head_bytes : (kind detail contact : ℕ) → kind < 256 → detail < 256 → contact < 256
    → u32_bytes (kind + detail * 256 + contact * 65536) ≡ kind ∷ detail ∷ contact ∷ 0 ∷ []
head_bytes kind detail contact k d c =
    let word : ℕ = kind + detail * 256 + contact * 65536 in
    let first : word % 256 ≡ kind = omega arith in
    let second : word / 256 ≡ detail + contact * 256 = omega arith in
    let third : word / 65536 ≡ contact = omega arith in
    let fourth : word / 16777216 ≡ 0 = omega arith in
    let low : (detail + contact * 256) % 256 ≡ detail = omega arith in
    let whole : contact % 256 ≡ contact = omega arith in
    rw (first, second, third, fourth, low, whole)

-- an event's bytes, by its words
pub laid_out : (kind detail contact : ℕ) (words : EventWords) → kind < 256 → detail < 256 → contact < 256
    → words.head ≡ kind + detail * 256 + contact * 65536
    → words_bytes words
    ≡ padded (kind ∷ detail ∷ contact ∷ []) 4 (u32_bytes words.first ++ (u32_bytes words.second ++ u32_bytes words.third))
unfolding words_bytes
laid_out kind detail contact words k d c e =
    let fields : List ℕ = u32_bytes words.first ++ (u32_bytes words.second ++ (u32_bytes words.third ++ zeros 24)) in
    ap (λ (head : List ℕ). head ++ fields) (ap u32_bytes e ∙ head_bytes kind detail contact k d c)

-- ---- words stored one after the other, from the first byte on

module _ (bytes : List ℕ) where
  onward : (stored stretch : List ℕ) {current after : List ℕ} → 0 + length stored ≤ length bytes → current ≡ overwrite bytes 0 stored
      → after ≡ overwrite current (0 + length stored) stretch → after ≡ overwrite bytes 0 (stored ++ stretch)
  onward stored stretch h before e =
      e ∙ ap (λ (current : List ℕ). overwrite current (0 + length stored) stretch) before ∙ overwrite_next bytes 0 stored stretch h

  -- all of an event's
  pub filled : (words : EventWords) {one two three four five : List ℕ} → length bytes ≡ event_length
      → one ≡ overwrite bytes 0 (u32_bytes words.head ++ u32_bytes words.first)
      → two ≡ overwrite one 8 (u32_bytes words.second ++ u32_bytes words.third)
      → three ≡ set_u64 two 16 0 → four ≡ set_u64 three 24 0 → five ≡ set_u64 four 32 0 → five ≡ words_bytes words
  unfolding words_bytes
  filled words h e1 e2 e3 e4 e5 =
      let low : List ℕ = u32_bytes words.head ++ u32_bytes words.first in
      let high : List ℕ = u32_bytes words.second ++ u32_bytes words.third in
      let zero : List ℕ = u64_bytes 0 in
      let to16 = onward low high (omega arith) e1 e2 in
      let to24 = onward (low ++ high) zero (omega arith) to16 e3 in
      let to32 = onward (low ++ high ++ zero) zero (omega arith) to24 e4 in
      let to40 = onward (low ++ high ++ zero ++ zero) zero (omega arith) to32 e5 in
      to40 ∙ overwrite_whole bytes (words_bytes words) h

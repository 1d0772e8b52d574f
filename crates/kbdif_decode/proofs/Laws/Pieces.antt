-- Laws of the pieces of a list of bytes: a list is its pieces, and a word's bytes are the piece that it was read from.
use Prim.Native.Nat.{ℕ, ◌+◌, ◌-◌, ◌*◌, ◌≤◌, ◌<◌}
use mathlib.Core.Path.{◌≡◌, refl, sym, ap, ◌∙◌}
use mathlib.Core.List.{List, [], ◌∷◌, ◌++◌}
use native.Mathlib.Omega.{arith}
use native.Mathlib.Numerals.{add-one}
use lib.ListN.{length, get_or, drop, take-append-drop}
use lib.Seq.{drop-cons, drop-drop, take-add}
use Rattle.words.specs.Words.{u16_at, u32_at, u16_bytes, u32_bytes, IsBytes}
use Rattle.kbdif_events.specs.Event.{between}

-- a number's bytes are the digits that it was made of
same : {a b : ℕ} {xs ys : List ℕ} → a ≡ b → xs ≡ ys → a ∷ xs ≡ b ∷ ys
same e es i = e i ∷ es i

two_digits : (a b : ℕ) → a < 256 → b < 256 → u16_bytes (a + b * 256) ≡ a ∷ b ∷ []
two_digits a b ha hb = same (omega arith) (same (omega arith) refl)

four_digits : (a b c d : ℕ) → a < 256 → b < 256 → c < 256 → d < 256
    → u32_bytes (a + b * 256 + c * 65536 + d * 16777216) ≡ a ∷ b ∷ c ∷ d ∷ []
four_digits a b c d ha hb hc hd = same (omega arith) (same (omega arith) (same (omega arith) (same (omega arith) refl)))

module _ (bytes : List ℕ) where
  cut : (from until : ℕ) → from ≤ until → between bytes from until ++ drop until bytes ≡ drop from bytes
  cut from until h =
      let e : from + (until - from) ≡ until = omega arith in
      let d : drop (until - from) (drop from bytes) ≡ drop until bytes =
      drop-drop (until - from) from bytes ∙ ap (λ (n : ℕ). drop n bytes) e in
      rw (← d) (take-append-drop (until - from) (drop from bytes))

  -- four pieces, one after the other
  pub pieces : (first second third : ℕ) → first ≤ second → second ≤ third
      → between bytes 0 first ++ (between bytes first second ++ (between bytes second third ++ drop third bytes)) ≡ bytes
  pieces first second third h k = rw (cut second third k, cut first second h) (cut 0 first (omega arith))

  -- two neighbours are one piece
  pub joined : (from middle until : ℕ) → from ≤ middle → middle ≤ until
      → between bytes from middle ++ between bytes middle until ≡ between bytes from until
  joined from middle until h k =
      let e : until - from ≡ (middle - from) + (until - middle) = omega arith in
      let f : from + (middle - from) ≡ middle = omega arith in
      rw (e, take-add (middle - from) (until - middle) (drop from bytes), drop-drop (middle - from) from bytes, f)

  module _ (at : ℕ) where
    next : (place following : ℕ) → following ≡ place + 1 → place < length bytes
        → drop place bytes ≡ get_or bytes place 0 ∷ drop following bytes
    next place following e h = rw (e, add-one, drop-cons bytes place 0 h)

    pub one_byte : at + 1 ≤ length bytes → between bytes at (at + 1) ≡ get_or bytes at 0 ∷ []
    one_byte h =
        let n : at + 1 - at ≡ 1 = omega arith in
        rw (n, next at (at + 1) refl (omega arith))

    pub two_bytes : at + 2 ≤ length bytes → between bytes at (at + 2) ≡ get_or bytes at 0 ∷ get_or bytes (at + 1) 0 ∷ []
    two_bytes h =
        let n : at + 2 - at ≡ 2 = omega arith in
        rw (n, next at (at + 1) refl (omega arith), next (at + 1) (at + 2) (omega arith) (omega arith))

    pub three_bytes : at + 3 ≤ length bytes
        → between bytes at (at + 3) ≡ get_or bytes at 0 ∷ get_or bytes (at + 1) 0 ∷ get_or bytes (at + 2) 0 ∷ []
    three_bytes h =
        let n : at + 3 - at ≡ 3 = omega arith in
        rw (
          n,
          next at (at + 1) refl (omega arith),
          next (at + 1) (at + 2) (omega arith) (omega arith),
          next (at + 2) (at + 3) (omega arith) (omega arith),
        )

    pub four_bytes_lem : at + 4 ≤ length bytes
        → between bytes at (at + 4) ≡ get_or bytes at 0 ∷ get_or bytes (at + 1) 0 ∷ get_or bytes (at + 2) 0 ∷ get_or bytes (at + 3) 0 ∷ []
    four_bytes_lem h =
        let n : at + 4 - at ≡ 4 = omega arith in
        rw (
          n,
          next at (at + 1) refl (omega arith),
          next (at + 1) (at + 2) (omega arith) (omega arith),
          next (at + 2) (at + 3) (omega arith) (omega arith),
          next (at + 3) (at + 4) (omega arith) (omega arith),
        )

    module _ (ok : IsBytes bytes) where
      pub u16_bytes_lem : at + 2 ≤ length bytes → u16_bytes (u16_at bytes at) ≡ between bytes at (at + 2)
      u16_bytes_lem h = two_digits (get_or bytes at 0) (get_or bytes (at + 1) 0) (ok at) (ok (at + 1)) ∙ sym (two_bytes h)

      pub u32_bytes_lem : at + 4 ≤ length bytes → u32_bytes (u32_at bytes at) ≡ between bytes at (at + 4)
      u32_bytes_lem h =
          four_digits (get_or bytes at 0) (get_or bytes (at + 1) 0) (get_or bytes (at + 2) 0) (get_or bytes (at + 3) 0)
          (ok at) (ok (at + 1))
          (ok (at + 2)) (ok (at + 3))
          ∙ sym (four_bytes_lem h)

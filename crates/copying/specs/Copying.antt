-- A buffer, the list of its bytes, and a stretch of it replaced.
use Rattle.std.specs.Prelude.{ℕ, ◌+◌, ◌≤◌, ◌<◌, ◌≡◌, List, ◌++◌, length, get_or, take, drop}

-- The buffer with another stretch in the place of its bytes from `at` on. The rest stays.
unfoldable pub overwrite : List ℕ → ℕ → List ℕ → List ℕ
overwrite bytes at stretch = take at bytes ++ (stretch ++ drop (length stretch) (drop at bytes))

-- Two buffers hold the same `count` bytes from `at` on.
abbrev pub Agree : List ℕ → List ℕ → ℕ → ℕ → Type 0
Agree left right at count = (i : ℕ) → at ≤ i → i < at + count → get_or left i 0 ≡ get_or right i 0

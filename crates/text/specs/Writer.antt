-- What a writer of text did to the buffer that it was lent.
use Rattle.std.specs.Prelude.{ℕ, ◌≡◌, List, length}
use Rattle.text.specs.declared.Writer.{Writer}
use Rattle.text.specs.Text.{Written}

-- The writer put a text behind what it had written. It still writes to the same buffer.
pub record Adds (before after : Writer) (text : List ℕ) : Type 0 where
  pub same : after.out.ghost_name ≡ before.out.ghost_name
  pub size : length after.out.now ≡ length before.out.now
  pub written : Written before.out.now before.end text after.out.now after.end

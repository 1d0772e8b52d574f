-- Texts put into a buffer one after the other.
use Prim.Native.Nat.{ℕ, ◌+◌, ◌≤◌}
use mathlib.Core.Path.{◌≡◌, ◌∙◌}
use mathlib.Core.List.{List, ◌++◌}
use native.Mathlib.Omega.{arith}
use lib.ListN.{length, length-append}
use Rattle.copying.proofs.Laws.Overwrite.{overwrite-length, overwrite_next}
use Rattle.text.specs.declared.Writer.{Writer}
use Rattle.text.specs.Text.{Written}
use Rattle.text.specs.Writer.{Adds}

module _ {before : List ℕ} {at : ℕ} {text middle : List ℕ} {end : ℕ} (first : Written before at text middle end)
    (fits : at + length text ≤ length before) where
  pub written-length : length middle ≡ length before
  written-length = rw first.holds (overwrite-length before at text fits)

  pub written_next : {more after : List ℕ} {last : ℕ} → Written middle end more after last → Written before at (text ++ more) after last
  written_next {more} second =
      record {
        ends = omega (arith, second.ends, first.ends, length-append text more);
        holds = second.holds ∙ rw (first.holds, first.ends) (overwrite_next before at text more fits);
      }

pub adds_next : {first second third : Writer} {text more : List ℕ} → Adds first second text → first.end + length text ≤ length first.out.now
    → Adds second third more
    → Adds first third (text ++ more)
adds_next one fits two = record {
  same = two.same ∙ one.same;
  size = two.size ∙ one.size;
  written = written_next one.written fits two.written;
}

-- Of a device that is on, CLIENT_REV tells the revision: it is 2, or the device serves revision 1.
use Prim.Native.Nat.{ℕ}
use mathlib.Core.Path.{◌≡◌, refl}
use mathlib.Core.Bool.{Bool, true, false, not, ◌||◌, false≢true}
use lib.Dec.{eqb}
use borrow.Author.Tests.{eqb-true}
use Rattle.geometry.proofs.Laws.Allowed.{both}
use Rattle.device.specs.declared.Registers.{Registers}
use Rattle.device.specs.declared.Revision.{Revision}
use Rattle.device.specs.declared.Revision.TheVariants.{One, Two}
use Rattle.device.specs.Revision.{is_revision1, may_run, revision_for, revision_of}
use Rattle.device.specs.State.{is_client_rev, client_rev_rule}

abbrev pub is_one : Revision → Bool
is_one One = true
is_one Two = false

pub revision_on : (registers : Registers) → client_rev_rule registers ≡ true → registers.on ≡ true
    → is_revision1 registers ≡ is_one (revision_of registers)
unfolding client_rev_rule revision_for
revision_on registers rule on =
    let a = both (is_client_rev registers.client_rev) _ rule in
    let b = both (not registers.on || may_run registers) _ a.1 in
    go registers.client_rev_written registers.client_rev (eqb registers.client_rev 2) refl (rw on at b.0) b.1
  where
    -- where it was never written it is 0
    go : (written : Bool) (rev : ℕ) (two : Bool) → eqb rev 2 ≡ two
        → ((not written || eqb rev 1) || eqb rev 2) ≡ true → (written || eqb rev 0) ≡ true
        → (not written || eqb rev 1) ≡ is_one (revision_for rev)
    go true rev true e may zero = let same = eqb-true rev 2 e in rw same
    go false rev true e may zero = let same = eqb-true rev 2 e in absurd (false≢true (rw same at zero))
    go written rev false e may zero = rw e (first (not written || eqb rev 1) (rw e at may))
      where
        first : (test : Bool) → (test || false) ≡ true → test ≡ true
        first true h = refl
        first false h = h

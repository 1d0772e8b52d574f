-- Which revision a device serves (02, E1), by CLIENT_REV. It is asked for by these names everywhere.
use Rattle.std.specs.Prelude.{ℕ, Bool, not, ◌||◌, cond, eqb}
use Rattle.device.specs.declared.Registers.{Registers}
use Rattle.device.specs.declared.Revision.{Revision}
use Rattle.device.specs.declared.Revision.TheVariants.{One, Two}

-- Revision 1: CLIENT_REV was never written, or is 1.
abbrev pub is_revision1 : Registers → Bool
is_revision1 registers = not registers.client_rev_written || eqb registers.client_rev 1

-- Revision 2: CLIENT_REV is 2.
abbrev pub is_revision2 : Registers → Bool
is_revision2 registers = eqb registers.client_rev 2

-- The device can be switched on. A number that was rejected, written and read back as 0, keeps it off.
abbrev pub may_run : Registers → Bool
may_run registers = is_revision1 registers || is_revision2 registers

-- Of a device that is on: one of the two.
unfoldable pub revision_for : ℕ → Revision
revision_for rev = cond (eqb rev 2) Two One

abbrev pub revision_of : Registers → Revision
revision_of registers = revision_for registers.client_rev

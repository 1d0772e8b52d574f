-- What each kind of record does to the driver, and what it tells (01, "The driver's side").
use Rattle.std.specs.Prelude.{ℕ, ◌+◌, Bool, true, false, cond, leb, eqb}
use Rattle.answers.specs.Answers.{done, malformed}
use Rattle.geometry.specs.declared.Geometry.{Geometry}
use Rattle.records.specs.declared.Event.{Event}
use Rattle.records.specs.Codes.{no_slot}
use Rattle.records.specs.Event.{most_events}
use Rattle.assembly.specs.declared.Driver.{Driver}
use Rattle.assembly.specs.Told.{Told, Stepped}
use Rattle.assembly.specs.Told as told
use Rattle.assembly.specs.declared.Kind.{Kind}
use Rattle.assembly.specs.declared.Kind.TheVariants as kind
use Rattle.assembly.specs.Kind.{kind_of}

-- A fresh driver has slot none, nothing begun and ignores nothing.
abbrev pub fresh_driver : Driver
fresh_driver = record {
  slot = no_slot;
  held = 0;
  overlong = false;
  spoiled = false;
  ignoring = false;
}

-- ---- what a step tells

-- 01's number of each: a refusal or a malformed record has its own, all others are 0.
abbrev pub answer_of : Told → ℕ
answer_of (told.Refused number) = number
answer_of told.Nothing = done
answer_of told.Gap = done
answer_of told.EmptyReport = done
answer_of (told.Packet slot count) = done
answer_of (told.Set slot) = done
answer_of (told.Conf slot) = done
answer_of (told.Reset slot) = done
answer_of told.ResetAll = done

abbrev pub tells : Told → Driver → Stepped
tells what driver = record { told = what; driver = driver }

-- ---- the state with some fields set

abbrev pub with_slot : ℕ → Driver → Driver
with_slot slot driver = record {
  slot = slot;
  held = driver.held;
  overlong = driver.overlong;
  spoiled = driver.spoiled;
  ignoring = driver.ignoring;
}

abbrev pub with_spoiled : Driver → Driver
with_spoiled driver = record {
  slot = driver.slot;
  held = driver.held;
  overlong = driver.overlong;
  spoiled = true;
  ignoring = driver.ignoring;
}

abbrev pub with_overlong : Driver → Driver
with_overlong driver = record {
  slot = driver.slot;
  held = driver.held;
  overlong = true;
  spoiled = driver.spoiled;
  ignoring = driver.ignoring;
}

abbrev pub with_one_more : Driver → Driver
with_one_more driver = record {
  slot = driver.slot;
  held = driver.held + 1;
  overlong = driver.overlong;
  spoiled = driver.spoiled;
  ignoring = driver.ignoring;
}

-- Nothing is begun.
abbrev pub ended : Bool → Driver → Driver
ended ignoring driver = record {
  slot = driver.slot;
  held = 0;
  overlong = false;
  spoiled = false;
  ignoring = ignoring;
}

-- ---- what each kind does

-- A packet already begun is spoiled.
unfoldable pub spoiled : Driver → Driver
spoiled driver = cond (eqb driver.held 0) driver (with_spoiled driver)

-- Another slot, by DEV_SET or by a reset.
abbrev pub moved : ℕ → Driver → Driver
moved slot driver = with_slot slot (spoiled driver)

-- An event joins the packet, or is ignored up to the next report. After the 32nd the packet is too long.
unfoldable pub joined : Driver → Driver
joined driver = cond driver.ignoring driver (cond (leb most_events driver.held) (with_overlong driver) (with_one_more driver))

-- A report: a gap after dropped records; malformed if spoiled or too long; else the packet, if one was begun.
unfoldable pub reported : Driver → Told
reported driver =
    cond driver.ignoring told.Gap
    (cond driver.spoiled (told.Refused malformed)
    (cond driver.overlong (told.Refused malformed)
    (cond (eqb driver.held 0) told.EmptyReport
    (told.Packet driver.slot driver.held))))

-- A reset of the current slot makes it none.
unfoldable pub without_slot : ℕ → Driver → Driver
without_slot slot driver = cond (eqb driver.slot slot) (moved no_slot driver) driver

abbrev pub received : Kind → Event → Driver → Stepped
received kind.SynReport event driver = tells (reported driver) (ended false driver)
received kind.SynDropped event driver = tells told.Nothing (ended true driver)
received kind.DevSet event driver = tells (told.Set event.value) (moved event.value driver)
received kind.DevConf event driver = tells (told.Conf event.value) driver
received kind.DevReset event driver = tells (told.Reset event.value) (without_slot event.value driver)
received kind.DevResetAll event driver = tells told.ResetAll (moved no_slot driver)
received kind.BadDevSet event driver = tells (told.Refused malformed) (moved no_slot driver)
received kind.BadDev event driver = tells (told.Refused malformed) driver
received kind.Other event driver = tells told.Nothing (joined driver)

-- One record.
abbrev pub receive : Geometry → Event → Driver → Stepped
receive geometry event driver = received (kind_of geometry event) event driver

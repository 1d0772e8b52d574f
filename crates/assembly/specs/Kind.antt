-- What a record is to the driver (01, "The driver's side"), by its type, code and value.
use Rattle.std.specs.Prelude.{ℕ, Bool, cond, ltb, eqb}
use Rattle.geometry.specs.declared.Geometry.{Geometry}
use Rattle.geometry.specs.Geometry.{slot_count}
use Rattle.records.specs.declared.Event.{Event}
use Rattle.records.specs.Codes.{ev_syn, ev_dev, syn_report, syn_dropped, dev_set, dev_conf, dev_reset, unknown_slot, all_slots}
use Rattle.assembly.specs.declared.Kind.{Kind}
use Rattle.assembly.specs.declared.Kind.TheVariants.{SynReport, SynDropped, DevSet, DevConf}
use Rattle.assembly.specs.declared.Kind.TheVariants.{DevReset, DevResetAll, BadDevSet, BadDev, Other}

-- A slot of this geometry.
abbrev pub is_slot : Geometry → ℕ → Bool
is_slot geometry slot = ltb slot (slot_count geometry)

-- SYN: a report, dropped records, or an event as any other.
abbrev pub syn_kind : ℕ → Kind
syn_kind code = cond (eqb code syn_report) SynReport (cond (eqb code syn_dropped) SynDropped Other)

-- DEV_SET takes a slot in range, and it alone takes 0xFFFFFFFF, unknown source.
abbrev pub dev_set_kind : Geometry → ℕ → Kind
dev_set_kind geometry value = cond (is_slot geometry value) DevSet (cond (eqb value unknown_slot) DevSet BadDevSet)

abbrev pub dev_conf_kind : Geometry → ℕ → Kind
dev_conf_kind geometry value = cond (is_slot geometry value) DevConf BadDev

-- DEV_RESET alone takes 0xFFFF, all.
abbrev pub dev_reset_kind : Geometry → ℕ → Kind
dev_reset_kind geometry value = cond (is_slot geometry value) DevReset (cond (eqb value all_slots) DevResetAll BadDev)

-- Another DEV code is malformed.
unfoldable pub dev_kind : Geometry → ℕ → ℕ → Kind
dev_kind geometry code value =
    cond (eqb code dev_set) (dev_set_kind geometry value)
    (cond (eqb code dev_conf) (dev_conf_kind geometry value)
    (cond (eqb code dev_reset) (dev_reset_kind geometry value) BadDev))

unfoldable pub kind_of : Geometry → Event → Kind
kind_of geometry event =
    cond (eqb event.kind ev_syn) (syn_kind event.code)
    (cond (eqb event.kind ev_dev) (dev_kind geometry event.code event.value) Other)
